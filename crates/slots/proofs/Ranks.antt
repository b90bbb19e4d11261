-- How many accesses a call still makes at most that runs alone.
use Rattle.std.proofs.Common.{◌≡◌, ℕ, ◌+◌, ◌≤◌, ◌==◌, Bool, true, false, refl, sym, ap, ◌∙◌, subst}
use Rattle.std.specs.Prelude.{if◌then◌else◌, ◌%◌, ◌^◌, nat_lt, not, ◌&&◌, ◌||◌}
use Rattle.lockword.specs.Cells.{fields_of}
use Rattle.lockword.specs.declared.reply.Reply.{Reply}
use Rattle.lockword.specs.declared.reply.Reply.TheVariants.{OK}
use Rattle.stepprograms.specs.declared.access.Answer.{Answer}
use Rattle.stepprograms.specs.declared.access.Answer.TheVariants.{Value, Stored}
use Rattle.stepprograms.specs.Accesses.{answer_among}
use Rattle.robustlist.specs.declared.link.LinkRow.{LinkRow}
use Rattle.robustlist.specs.declared.link.LinkRow.TheVariants as link
use Rattle.robustlist.specs.declared.unlink.UnlinkRow.{UnlinkRow}
use Rattle.robustlist.specs.declared.unlink.UnlinkRow.TheVariants as unlink
use Rattle.robustlist.specs.Link.{link_resume}
use Rattle.robustlist.specs.Unlink.{unlink_resume}
use Rattle.mutex.specs.declared.phase.Phase.{Phase}
use Rattle.mutex.specs.declared.phase.Phase.TheVariants as phase
use Rattle.mutex.specs.Standings.{Whole}
use Rattle.mutex.specs.Whole.{linked_at, phase_led, unlinked_at, whole_access}
use Rattle.condvar.specs.declared.call.CondCall.{CondCall}
use Rattle.condvar.specs.declared.phase.CondPhase.{CondPhase}
use Rattle.condvar.specs.declared.phase.CondPhase.TheVariants as cond
use Rattle.condvar.specs.Standings.{CondWhole}
use Rattle.condvar.specs.Whole as conditions
use Rattle.condvar.specs.Whole.{cond_access}
use Rattle.condvar.specs.declared.op.Op.{Op}
use Rattle.protocol.specs.declared.event.Event.TheVariants.{Step}
use Rattle.protocol.specs.declared.thread.Thread.{Thread}
use Rattle.protocol.specs.declared.thread.Stage.{Stage}
use Rattle.protocol.specs.declared.thread.Stage.TheVariants.{Calling, AtCondition}
use Rattle.protocol.specs.Machine.{After, State, happens, is_asleep, place_met, stage_after, stage_at}
use Rattle.protocol.proofs.Kept.{Kept}
use Rattle.protocol.proofs.Puts.{put-same}
use Rattle.protocol.proofs.Steps.{call_step, cond_step, thread_after}
use Rattle.protocol.proofs.Working.{call_goes, cond_goes}
use Rattle.slots.specs.Rows.{Row}
use Rattle.slots.specs.Rows.Then.{ToSleep, ToSlot}
use Rattle.slots.specs.Words.{is_free}
use Rattle.slots.specs.Table.{is_linking, is_on_list, is_unlinking, is_unlinking_at}

-- ---- along the list

abbrev pub link_rank : LinkRow → ℕ
link_rank link.LoadFirst = 5
link_rank (link.StoreNext f) = 4
link_rank (link.StorePrevious f) = 3
link_rank (link.StoreBehind f) = 2
link_rank link.StoreFirst = 1
link_rank (link.Ended y) = 0

abbrev pub unlink_rank : UnlinkRow → ℕ
unlink_rank unlink.LoadNext = 4
unlink_rank (unlink.LoadPrevious n) = 3
unlink_rank (unlink.StoreNext n p) = 2
unlink_rank (unlink.StorePrevious n p) = 1
unlink_rank (unlink.Ended y) = 0

abbrev pub phase_rank : Phase → ℕ
phase_rank (phase.Linking l y) = link_rank l.row
phase_rank (phase.Unlinking u d) = unlink_rank u.row
phase_rank f = 0

abbrev pub cond_rank : CondPhase → ℕ
cond_rank (cond.Unlinking u n) = unlink_rank u.row
cond_rank f = 0

abbrev pub list_rank : Stage → ℕ
list_rank (Calling o p) = phase_rank p.phase
list_rank (AtCondition c p) = cond_rank p.phase
list_rank g = 0

link_few : (r : LinkRow) → nat_lt (link_rank r) 6 ≡ true
link_few link.LoadFirst = refl
link_few (link.StoreNext f) = refl
link_few (link.StorePrevious f) = refl
link_few (link.StoreBehind f) = refl
link_few link.StoreFirst = refl
link_few (link.Ended y) = refl

unlink_few : (r : UnlinkRow) → nat_lt (unlink_rank r) 6 ≡ true
unlink_few unlink.LoadNext = refl
unlink_few (unlink.LoadPrevious n) = refl
unlink_few (unlink.StoreNext n p) = refl
unlink_few (unlink.StorePrevious n p) = refl
unlink_few (unlink.Ended y) = refl

phase_few : (f : Phase) → nat_lt (phase_rank f) 6 ≡ true
phase_few (phase.Linking l y) = link_few l.row
phase_few (phase.Unlinking u d) = unlink_few u.row
phase_few f = refl

cond_few : (f : CondPhase) → nat_lt (cond_rank f) 6 ≡ true
cond_few (cond.Unlinking u n) = unlink_few u.row
cond_few f = refl

pub few_left : (g : Stage) → nat_lt (list_rank g) 6 ≡ true
few_left (Calling o p) = phase_few p.phase
few_left (AtCondition c p) = cond_few p.phase
few_left g = refl

module _ (o : Op) (p : Whole) where
  abbrev Falls : Phase → ℕ → Type 0
  Falls f n = is_on_list (stage_after o p f) ≡ true → nat_lt (list_rank (stage_after o p f)) n ≡ true

  link_falls : (h e : ℕ) (y : Reply) (r : LinkRow) (a : Answer) → Falls (linked_at y (record { head = h; entry = e; row = link_resume h r a }) (link_resume h r a)) (link_rank r)
  link_falls h e y link.LoadFirst (Value f) = λ on. refl
  link_falls h e y link.LoadFirst a = λ on. absurd cc
  link_falls h e y (link.StoreNext f) Stored = λ on. refl
  link_falls h e y (link.StoreNext f) a = λ on. absurd cc
  link_falls h e y (link.StorePrevious f) Stored = go (f == h)
    where
      go : (b : Bool) → Falls (linked_at y (record { head = h; entry = e; row = if b then link.StoreFirst else link.StoreBehind f }) (if b then link.StoreFirst else link.StoreBehind f)) 3
      go true = λ on. refl
      go false = λ on. refl
  link_falls h e y (link.StorePrevious f) a = λ on. absurd cc
  link_falls h e y (link.StoreBehind f) Stored = λ on. refl
  link_falls h e y (link.StoreBehind f) a = λ on. absurd cc
  link_falls h e y link.StoreFirst Stored = λ on. absurd cc
  link_falls h e y link.StoreFirst a = λ on. absurd cc
  link_falls h e y (link.Ended OK) a = λ on. absurd cc
  link_falls h e y (link.Ended z) a = λ on. absurd cc

  unlink_falls : (h e : ℕ) (d : Bool) (r : UnlinkRow) (a : Answer) → Falls (unlinked_at (record { head = h; entry = e; row = unlink_resume h r a }) (unlink_resume h r a) d) (unlink_rank r)
  unlink_falls h e d unlink.LoadNext (Value n) = λ on. refl
  unlink_falls h e d unlink.LoadNext a = λ on. absurd cc
  unlink_falls h e d (unlink.LoadPrevious n) (Value q) = λ on. refl
  unlink_falls h e d (unlink.LoadPrevious n) a = λ on. absurd cc
  unlink_falls h e d (unlink.StoreNext n q) Stored = go (n == h)
    where
      go : (b : Bool) → Falls (unlinked_at (record { head = h; entry = e; row = if b then unlink.Ended OK else unlink.StorePrevious n q }) (if b then unlink.Ended OK else unlink.StorePrevious n q) d) 2
      go true = λ on. absurd cc
      go false = λ on. refl
  unlink_falls h e d (unlink.StoreNext n q) a = λ on. absurd cc
  unlink_falls h e d (unlink.StorePrevious n q) Stored = λ on. absurd cc
  unlink_falls h e d (unlink.StorePrevious n q) a = λ on. absurd cc
  unlink_falls h e d (unlink.Ended OK) a = λ on. absurd cc
  unlink_falls h e d (unlink.Ended z) a = λ on. absurd cc

  call_falls : (f : Phase) (a : Answer) → (is_linking f || is_unlinking f) ≡ true → Falls (phase_led p f a).phase (phase_rank f)
  call_falls (phase.Linking l y) a e = link_falls l.head l.entry y l.row a
  call_falls (phase.Unlinking u d) a e = unlink_falls u.head u.entry d u.row a
  call_falls f a e = absurd cc

module _ (o : CondCall) (p : CondWhole) where
  abbrev Falls_there : CondPhase → ℕ → Type 0
  Falls_there f n = is_on_list (stage_at o p f) ≡ true → nat_lt (list_rank (stage_at o p f)) n ≡ true

  wait_falls : (h e n : ℕ) (r : UnlinkRow) (a : Answer) → Falls_there (conditions.unlinked_at (record { head = h; entry = e; row = unlink_resume h r a }) (unlink_resume h r a) n) (unlink_rank r)
  wait_falls h e n unlink.LoadNext (Value m) = λ on. refl
  wait_falls h e n unlink.LoadNext a = λ on. absurd cc
  wait_falls h e n (unlink.LoadPrevious m) (Value q) = λ on. refl
  wait_falls h e n (unlink.LoadPrevious m) a = λ on. absurd cc
  wait_falls h e n (unlink.StoreNext m q) Stored = go (m == h)
    where
      go : (b : Bool) → Falls_there (conditions.unlinked_at (record { head = h; entry = e; row = if b then unlink.Ended OK else unlink.StorePrevious m q }) (if b then unlink.Ended OK else unlink.StorePrevious m q) n) 2
      go true = λ on. absurd cc
      go false = λ on. refl
  wait_falls h e n (unlink.StoreNext m q) a = λ on. absurd cc
  wait_falls h e n (unlink.StorePrevious m q) Stored = λ on. absurd cc
  wait_falls h e n (unlink.StorePrevious m q) a = λ on. absurd cc
  wait_falls h e n (unlink.Ended OK) a = λ on. absurd cc
  wait_falls h e n (unlink.Ended z) a = λ on. absurd cc

  cond_falls : (f : CondPhase) (a : Answer) → is_unlinking_at f ≡ true → Falls_there (conditions.phase_led p f a).phase (cond_rank f)
  cond_falls (cond.Unlinking u n) a e = wait_falls u.head u.entry n u.row a
  cond_falls f a e = absurd cc

-- the machine's next access along a list brings it nearer to the end
module _ (s : State) (t : ℕ) (inv : Kept s) (pos : 1 ≤ t) (known : t ≤ s.layout.threads) (awake : is_asleep s t ≡ false) where
  abbrev after : Stage
  after = ((happens s (Step t)).state.threads t).stage

  pub list_falls : (g : Stage) → (s.threads t).stage ≡ g → is_on_list g ≡ true → is_on_list after ≡ true → nat_lt (list_rank after) (list_rank g) ≡ true
  list_falls (Calling o p) is here = subst (λ (f : Stage). is_on_list f ≡ true → nat_lt (list_rank f) (phase_rank p.phase) ≡ true) (sym to) (call_falls o p p.phase _ here)
    where
      to : after ≡ stage_after o p (phase_led p p.phase (answer_among (whole_access p) (s.words (place_met s.layout t (whole_access p))) (s.queues (place_met s.layout t (whole_access p))))).phase
      to = ap (λ (a : After). (a.state.threads t).stage) (call_goes s t o p inv pos known is awake) ∙ ap (λ (th : Thread). th.stage) (put-same s.threads t (thread_after s t (call_step s t o p)))
  list_falls (AtCondition c p) is here = subst (λ (f : Stage). is_on_list f ≡ true → nat_lt (list_rank f) (cond_rank p.phase) ≡ true) (sym to) (cond_falls c p p.phase _ here)
    where
      to : after ≡ stage_at c p (conditions.phase_led p p.phase (answer_among (cond_access p) (s.words (place_met s.layout t (cond_access p))) (s.queues (place_met s.layout t (cond_access p))))).phase
      to = ap (λ (a : After). (a.state.threads t).stage) (cond_goes s t c p inv pos known is) ∙ ap (λ (th : Thread). th.stage) (put-same s.threads t (thread_after s t (cond_step s t c p)))
  list_falls g is here = absurd cc

-- ---- rows

-- if the cell's word is w, the slot's is v, and s accesses are left along the list
abbrev pub rank : ℕ → ℕ → ℕ → Row → ℕ
rank w v s Row.Rests = 0
rank w v s (Row.Looks k) = 47
rank w v s (Row.Pends k u) = 46
rank w v s (Row.Sees k) = 45
rank w v s (Row.Takes k u) = if w == u then 8 else 45
rank w v s (Row.Links m y) = s + 2
rank w v s (Row.Clears m y) = 1
rank w v s (Row.Chooses k u) = if w == u then 44 else 48
rank w v s (Row.SeesAgain k u) = 45
rank w v s (Row.Marks k u ToSleep) = if w == u then 2 else 45
rank w v s (Row.Marks k u (ToSlot i)) = if w == u then 43 else 45
rank w v s (Row.SleepsOn k u) = if w % 2 ^ 32 == u % 2 ^ 32 then 1 else 47
rank w v s (Row.Asleep k) = 46
rank w v s (Row.Late k) = 3
rank w v s (Row.LateSees k) = 2
rank w v s (Row.WakesAll m y) = 2
rank w v s (Row.SlotPends k i) = 42
rank w v s (Row.SlotTakes k i) = if v == i then 40 else 41
rank w v s (Row.SlotLeft k) = 10
rank w v s (Row.SeesToSleep k) = 9
rank w v s (Row.SlotLinks k d) = s + 34
rank w v s (Row.SlotClears k) = 33
rank w v s (Row.SlotQuiets k) = 32
rank w v s (Row.SlotMends k) = 31
rank w v s (Row.HeirPends k b) = if is_free w then 30 else 25
rank w v s (Row.HeirSets k) = if is_free w then 29 else 24
rank w v s (Row.HeirLooks k) = if is_free w then 28 else 23
rank w v s (Row.HeirPendsOn k u over) =
    if is_free w then (if over && is_free u then (if w == u then 27 else 28) else 33)
    else if over && (is_free u || not (fields_of u).unusable) then 28
    else 22
rank w v s (Row.HeirTakes k u) = if w == u then 26 else 27
rank w v s (Row.HeirHas k y) = 25
rank w v s (Row.HeirLinks k y) = s + 19
rank w v s (Row.GivesUp k) = if is_free w then 32 else 21
rank w v s (Row.LastLooks k) = if is_free w then 31 else 20
rank w v s (Row.LastMarks k u) = if w == u then 19 else if is_free w then 31 else 26
rank w v s (Row.HeirWakes k) = 19
rank w v s (Row.Frees k f) = 18
rank w v s (Row.FreeUnlinks k f) = s + 12
rank w v s (Row.FreeGives k f) = 11
rank w v s (Row.TryLooks m) = 11
rank w v s (Row.TryPends m u) = 10
rank w v s (Row.TryTakes m u) = if w == u then 8 else 9
rank w v s (Row.GiveLooks m) = 61
rank w v s (Row.GivePends m y) = 60
rank w v s (Row.GiveUnlinks m y) = s + 54
rank w v s (Row.GiveFinds m y) = 52
rank w v s (Row.Gives m y) = 51
rank w v s (Row.HandsOn m y n) = 50
rank w v s (Row.LooksBack m y n) = 49
rank w v s (Row.WakesOne m y n) = 48
rank w v s (Row.Trims m n) = 2
rank w v s (Row.MendLooks m) = 2
rank w v s (Row.Mends m) = 1
rank w v s (Row.AnewLooks m) = 3
rank w v s (Row.Anews m u) = if w == u then 1 else 2
rank w v s (Row.WaitLooks m k timed) = 62
rank w v s (Row.WaitCounts m k timed died) = 61
rank w v s (Row.WaitSets m k n timed) = 53
rank w v s (Row.WaitSleeps m k n timed) = 47
rank w v s (Row.WaitAsleep m k n timed) = 46
rank w v s (Row.WaitLate m k n) = 47
rank w v s (Row.CountLooks m k all) = 6
rank w v s (Row.CountLoads m k all) = 5
rank w v s (Row.Counts m k all n) = 4
rank w v s (Row.CountWakes m k n) = 2
rank w v s (Row.AllMarks m k n) = 3
rank w v s (Row.AllMoves m k n) = 2
rank w v s (Row.Unsets m k n) = 1
