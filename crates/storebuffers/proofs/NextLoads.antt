-- Where a lock, a trylock and an unlock that nobody crosses load the words of their thread's list.
use Rattle.std.proofs.Common.{◌≡◌, ℕ, ◌<◌, ◌≤◌, ◌==◌, Bool, true, false, ◌&&◌, Ok, Err, Some, List, refl, sym, ap, ◌∙◌, subst, eq-eqb, eqb-true, arith}
use Rattle.std.specs.Prelude.{if◌then◌else◌, nat_le, not}
use Rattle.std.proofs.lemmas.Bool.Decides.{nat_tests}
use Rattle.lockword.specs.Cells.{Fields, fields_of, word_of, taken}
use Rattle.lockword.specs.Coding.{word_of-fields_of}
use Rattle.lockword.specs.declared.reply.Reply.TheVariants.{OK, EPERM, EDEADLK, EBUSY, EOWNERDEAD, ENOTRECOVERABLE, XHELD}
use Rattle.stepprograms.specs.declared.access.Access.{Access}
use Rattle.stepprograms.specs.declared.access.Access.TheVariants as access
use Rattle.stepprograms.specs.declared.access.Answer.TheVariants.{Value, Exchanged, Changed}
use Rattle.stepprograms.specs.Accesses.{answer_among}
use Rattle.memorymap.specs.Layouts.{Layout', IsLayout, cell_place, place_in}
use Rattle.posixmutex.specs.declared.object.Object.{Object}
use Rattle.posixmutex.specs.declared.point.Operation.{Operation}
use Rattle.posixmutex.specs.declared.point.Operation.TheVariants as operation
use Rattle.posixmutex.specs.Objects.{acquires, held_limit}
use Rattle.posixmutex.proofs.Owners.{owner_of-is}
use Rattle.robustlist.specs.declared.unlink.UnlinkRow.TheVariants as out
use Rattle.robustlist.specs.Link.{link_started}
use Rattle.robustlist.specs.Unlink.{unlink_at}
use Rattle.mutex.specs.declared.call.Call.{Call}
use Rattle.mutex.specs.declared.call.Call.TheVariants as call
use Rattle.mutex.specs.declared.row.Row.{Row}
use Rattle.mutex.specs.declared.row.Row.TheVariants as row
use Rattle.mutex.specs.declared.row.Led.{Led}
use Rattle.mutex.specs.declared.lock.LockRow.TheVariants as lock
use Rattle.mutex.specs.declared.try_lock.TryLockRow.TheVariants as try
use Rattle.mutex.specs.declared.unlock.UnlockRow.TheVariants as unlock
use Rattle.mutex.specs.declared.phase.Phase.{Phase}
use Rattle.mutex.specs.declared.phase.Phase.TheVariants.{Announcing, AtCell, Linking, Unlinking}
use Rattle.mutex.specs.Calls.{mutex_of, operation_of}
use Rattle.mutex.specs.Rows.{goes, decides, ends, acquired}
use Rattle.mutex.specs.Lock.{lock_sees, after_loss}
use Rattle.mutex.specs.TryLock.{try_sees}
use Rattle.mutex.specs.Unlock.{unlock_sees}
use Rattle.mutex.specs.Programs.{row_access, resume_of}
use Rattle.mutex.specs.Standings.{Whole}
use Rattle.mutex.specs.Whole as whole
use Rattle.mutex.specs.Whole.{whole_at, whole_access, whole_led, from_cell}
use Rattle.condvar.specs.declared.op.Op.{Op}
use Rattle.condvar.specs.declared.op.Op.TheVariants.{OnMutex}
use Rattle.protocol.specs.declared.event.Event.TheVariants.{Begin, Step}
use Rattle.protocol.specs.declared.thread.Stage.TheVariants.{Idle, Calling}
use Rattle.protocol.specs.declared.thread.Thread.{Thread}
use Rattle.protocol.specs.Headline.{seen}
use Rattle.protocol.specs.Machine.{State, After, put, happens, nothing, begun, first_stage, stage_begun, may_begin, is_idle, is_asleep, stage_after, place_met, stands_in, joined, moved_by, queue_after}
use Rattle.protocol.proofs.Events.{is_known}
use Rattle.protocol.proofs.Kept.{Kept}
use Rattle.protocol.proofs.Puts.{by_put, put-same}
use Rattle.protocol.proofs.Queued.{Queued, out_awake}
use Rattle.protocol.proofs.Seeing.{head_in, entry_in, cell_in, cell_again}
use Rattle.protocol.proofs.Stepping.{SleepsAs}
use Rattle.protocol.proofs.Steps.{onto, seen-inside}
use Rattle.protocol.proofs.Working.{call_goes}

-- ---- one event

-- who sleeps on a word after an access
abbrev queues_by : State → ℕ → Access → ℕ → List ℕ
queues_by s t a key = joined s.layout t a (moved_by a (s.words (place_met s.layout t a)) (s.queues (place_met s.layout t a))) (put s.queues (place_met s.layout t a) (queue_after t a (s.words (place_met s.layout t a)) (s.queues (place_met s.layout t a)))) key

module _ (s : State) (t : ℕ) (pos : 1 ≤ t) (known : t ≤ s.layout.threads) where
  -- a call that isn't refused begins
  starts : (c : Call) → (s.threads t).stage ≡ Idle → mutex_of c < s.layout.mutexes → (acquires (operation_of c) && nat_le held_limit (s.threads t).held) ≡ false
      → happens s (Begin t (OnMutex c)) ≡ begun s t (OnMutex c) (Ok (Calling (OnMutex c) (whole.begins s.layout t c)))
  starts c rests inside room =
      let there = is_known s t pos known in
      let idle : is_idle (s.threads t).stage ≡ true = ap is_idle rests in
      let may : may_begin s t (OnMutex c) ≡ true = grind (arith, nat_tests) in
      ap (λ (b : Bool). if b then begun s t (OnMutex c) (first_stage s.layout t (s.threads t).held (OnMutex c)) else nothing s) may
      ∙ ap (λ (b : Bool). begun s t (OnMutex c) (stage_begun c (if b then Err XHELD else Ok (whole.begins s.layout t c)))) room

  pub starts_at : (c : Call) → (s.threads t).stage ≡ Idle → mutex_of c < s.layout.mutexes → (acquires (operation_of c) && nat_le held_limit (s.threads t).held) ≡ false
      → ((happens s (Begin t (OnMutex c))).state.threads t).stage ≡ Calling (OnMutex c) (whole.begins s.layout t c)
  starts_at c rests inside room = ap (λ (a : After). (a.state.threads t).stage) (starts c rests inside room) ∙ ap (λ (z : Thread). z.stage) (put-same s.threads t _)

  -- nobody comes to a queue by it
  pub starts_queues : (c : Call) → (s.threads t).stage ≡ Idle → mutex_of c < s.layout.mutexes → (acquires (operation_of c) && nat_le held_limit (s.threads t).held) ≡ false
      → (happens s (Begin t (OnMutex c))).state.queues ≡ s.queues
  starts_queues c rests inside room = ap (λ (a : After). a.state.queues) (starts c rests inside room)

  -- it makes its next access
  module _ (inv : Kept s) where
    pub steps_to : (o : Op) (p : Whole) → (s.threads t).stage ≡ Calling o p → is_asleep s t ≡ false → ((happens s (Step t)).state.threads t).stage ≡ stage_after o p (onto s t p).phase
    steps_to o p is awake = ap (λ (a : After). (a.state.threads t).stage) (call_goes s t o p inv pos known is awake) ∙ ap (λ (z : Thread). z.stage) (put-same s.threads t _)

    -- a store takes nobody to a queue
    pub stores_queue : (o : Op) (p : Whole) (at v : ℕ) → (s.threads t).stage ≡ Calling o p → is_asleep s t ≡ false → whole_access p ≡ access.Store at v → (key : ℕ) → (happens s (Step t)).state.queues key ≡ s.queues key
    stores_queue o p at v is awake stores key =
        ap (λ (a : After). a.state.queues key) (call_goes s t o p inv pos known is awake)
        ∙ subst (λ (a : Access). queues_by s t a key ≡ s.queues key) (sym stores) (by_put (λ (q : List ℕ). q ≡ s.queues key) s.queues (place_met s.layout t (access.Store at v)) (s.queues (place_met s.layout t (access.Store at v))) key (λ e. ap s.queues (sym e)) (λ apart. refl))

  -- who isn't where a lock looks at its cell is awake
  pub awake_in : Queued s → (o : Op) (p : Whole) → (s.threads t).stage ≡ Calling o p → (p.phase ≡ AtCell (row.Lock lock.Load) → ⊥) → is_asleep s t ≡ false
  awake_in queued o p is never = out_awake s t (λ key. go key (stands_in t (s.queues key)) refl)
    where
      go : (key : ℕ) (b : Bool) → stands_in t (s.queues key) ≡ b → b ≡ false
      go key false e = refl
      go key true e = absurd (never (subst (SleepsAs s.layout key) is (queued.sleeps key t e).2).0)

-- the word that an access at the cell meets
met_at : (s : State) (l : Layout') (t m : ℕ) → IsLayout l → 1 ≤ t → t ≤ l.threads → m < l.mutexes → s.layout ≡ l → s.words (place_in s.layout t (cell_in l t m)) ≡ s.words (cell_place l m)
met_at s l t m is pos known inside same = ap (λ (k : Layout'). s.words (place_in k t (cell_in l t m))) same ∙ ap s.words (cell_again l t is pos known m inside)

-- ---- an unlock

-- a thread that finds its own cell is to release it
own_sees : (t : ℕ) (c : Fields) → c.owner ≡ t → unlock_sees t c ≡ goes (row.Unlock (unlock.Release c.died))
own_sees t c own = ap (λ (b : Bool). if b then goes (row.Unlock (unlock.Release c.died)) else ends EPERM) (eq-eqb c.owner t own)

pub owner_there : (s : State) (m t : ℕ) → m < s.layout.mutexes → (seen s m).owner ≡ Some t → (fields_of (s.words (cell_place s.layout m))).owner ≡ t
owner_there s m t inside owns = owner_of-is _ t (sym (ap (λ (o : Object). o.owner) (seen-inside s m inside)) ∙ owns)

-- the call of thread t on mutex m, in a phase
abbrev pub in_unlock : Layout' → ℕ → ℕ → Phase → Whole
in_unlock l t m f = whole_at t operation.Unlock (head_in l t) (entry_in l t m) (cell_in l t m) f

abbrev pub Unlocks : Layout' → ℕ → ℕ → State → Phase → Type 0
Unlocks l t m s f = (s.threads t).stage ≡ Calling (OnMutex (call.Unlock m)) (in_unlock l t m f)

module _ (l : Layout') (t m : ℕ) (is : IsLayout l) (pos : 1 ≤ t) (known : t ≤ l.threads) (inside : m < l.mutexes) (s : State) (inv : Kept s) (queued : Queued s) (same : s.layout ≡ l) where
  here : t ≤ s.layout.threads
  here = subst (λ (k : Layout'). t ≤ k.threads) (sym same) known

  -- it looks at the cell, which is its own
  pub unlock_looks : (fields_of (s.words (cell_place l m))).owner ≡ t → Unlocks l t m s (AtCell (row.Unlock unlock.Load))
      → (d : Bool) × Unlocks l t m (happens s (Step t)).state (Announcing (row.Unlock (unlock.Release d)))
  unlock_looks own is_at =
      let p = in_unlock l t m (AtCell (row.Unlock unlock.Load)) in
      let w = s.words (place_in s.layout t (cell_in l t m)) in
      let its : (fields_of w).owner ≡ t = ap (λ (x : ℕ). (fields_of x).owner) (met_at s l t m is pos known inside same) ∙ own in (
        (fields_of w).died,
        steps_to s t pos here inv (OnMutex (call.Unlock m)) p is_at (awake_in s t pos here queued (OnMutex (call.Unlock m)) p is_at (λ e. absurd (cc e)))
            ∙ ap (λ (g : Led). stage_after (OnMutex (call.Unlock m)) p (from_cell p g).phase) (own_sees t (fields_of w) its),
      )

  -- it announces its entry
  pub unlock_announces : (d : Bool) → Unlocks l t m s (Announcing (row.Unlock (unlock.Release d))) → Unlocks l t m (happens s (Step t)).state (Unlinking (unlink_at (head_in l t) (entry_in l t m) out.LoadNext) d)
  unlock_announces d is_at =
      let p = in_unlock l t m (Announcing (row.Unlock (unlock.Release d))) in
      steps_to s t pos here inv (OnMutex (call.Unlock m)) p is_at (awake_in s t pos here queued (OnMutex (call.Unlock m)) p is_at (λ e. absurd (cc e)))

  -- it loads the next entry
  pub unlock_loads : (d : Bool) → Unlocks l t m s (Unlinking (unlink_at (head_in l t) (entry_in l t m) out.LoadNext) d)
      → (n : ℕ) × Unlocks l t m (happens s (Step t)).state (Unlinking (unlink_at (head_in l t) (entry_in l t m) (out.LoadPrevious n)) d)
  unlock_loads d is_at =
      let p = in_unlock l t m (Unlinking (unlink_at (head_in l t) (entry_in l t m) out.LoadNext) d) in (
        s.words (place_in s.layout t (entry_in l t m)),
        steps_to s t pos here inv (OnMutex (call.Unlock m)) p is_at (awake_in s t pos here queued (OnMutex (call.Unlock m)) p is_at (λ e. absurd (cc e))),
      )

-- ---- a lock, and a trylock

-- what its rows are, where the cell is the word w
pub record Rows (c : Call) (t w : ℕ) : Type 0 where
  pub op : Operation
  pub look : Row
  pub take : Row
  pub begins : (l : Layout') → whole.begins l t c ≡ whole_at t op (head_in l t) (entry_in l t (mutex_of c)) (cell_in l t (mutex_of c)) (Announcing look)
  pub announced : (p : Whole) → whole.announced p look ≡ AtCell look
  pub looks : (cell : ℕ) → row_access t cell look ≡ access.Load cell
  pub sees : (p : Whole) → (from_cell p (resume_of t look (Value w))).phase ≡ AtCell take
  pub takes : (cell : ℕ) → row_access t cell take ≡ access.Exchange cell (word_of (fields_of w)) (word_of (taken (fields_of w) t))
  pub is_no_look : AtCell take ≡ AtCell (row.Lock lock.Load) → ⊥
  pub took : (h e cell : ℕ) (f : Phase) → (from_cell (whole_at t op h e cell f) (resume_of t take Exchanged)).phase ≡ Linking (link_started h e) (acquired (fields_of w))

lock_takes : (t : ℕ) (c : Fields) → 1 ≤ t → c.owner ≡ 0 → c.unusable ≡ false → lock_sees t c ≡ goes (row.Lock (lock.Take c))
lock_takes t c pos free usable = go c.unusable usable (c.owner == t) refl (c.owner == 0) (eq-eqb c.owner 0 free)
  where
    go : (u : Bool) → u ≡ false → (own : Bool) → (c.owner == t) ≡ own → (f : Bool) → f ≡ true
        → (if u then decides (after_loss c) ENOTRECOVERABLE else if own then ends EDEADLK else if f then goes (row.Lock (lock.Take c)) else if c.waiters then goes (row.Lock (lock.Sleep c)) else goes (row.Lock (lock.SetWaiters c))) ≡ goes (row.Lock (lock.Take c))
    go true eu own eo f ef = absurd (cc eu)
    go false eu true eo f ef = let is : c.owner ≡ t = eqb-true c.owner t eo in absurd (omega arith)
    go false eu false eo true ef = refl
    go false eu false eo false ef = absurd (cc ef)

try_takes : (c : Fields) → c.owner ≡ 0 → c.unusable ≡ false → try_sees 0 c ≡ goes (row.TryLock (try.Take c 0))
try_takes c free usable = go c.unusable usable (c.owner == 0) (eq-eqb c.owner 0 free)
  where
    go : (u : Bool) → u ≡ false → (f : Bool) → f ≡ true → (if u then ends ENOTRECOVERABLE else if not f then ends EBUSY else goes (row.TryLock (try.Take c 0))) ≡ goes (row.TryLock (try.Take c 0))
    go true eu f ef = absurd (cc eu)
    go false eu true ef = refl
    go false eu false ef = absurd (cc ef)

lock_took : (d : Bool) (p : Whole) → whole.leaving p operation.Lock (if d then EOWNERDEAD else OK) ≡ Linking (link_started p.head p.entry) (if d then EOWNERDEAD else OK)
lock_took true p = refl
lock_took false p = refl

try_took : (d : Bool) (p : Whole) → whole.leaving p operation.TryLock (if d then EOWNERDEAD else OK) ≡ Linking (link_started p.head p.entry) (if d then EOWNERDEAD else OK)
try_took true p = refl
try_took false p = refl

pub rows_of : (c : Call) (t w : ℕ) → acquires (operation_of c) ≡ true → 1 ≤ t → (fields_of w).owner ≡ 0 → (fields_of w).unusable ≡ false → Rows c t w
rows_of (call.Lock m) t w acquiring pos free usable = record {
  op = operation.Lock;
  look = row.Lock lock.Load;
  take = row.Lock (lock.Take (fields_of w));
  begins = λ l. refl;
  announced = λ p. refl;
  looks = λ cell. refl;
  sees = λ p. ap (λ (g : Led). (from_cell p g).phase) (lock_takes t (fields_of w) pos free usable);
  takes = λ cell. refl;
  is_no_look = λ e. absurd (cc e);
  took = λ h e cell f. lock_took (fields_of w).died (whole_at t operation.Lock h e cell f);
}
rows_of (call.TimedLock m) t w acquiring pos free usable = record {
  op = operation.Lock;
  look = row.Lock lock.Load;
  take = row.Lock (lock.Take (fields_of w));
  begins = λ l. refl;
  announced = λ p. refl;
  looks = λ cell. refl;
  sees = λ p. ap (λ (g : Led). (from_cell p g).phase) (lock_takes t (fields_of w) pos free usable);
  takes = λ cell. refl;
  is_no_look = λ e. absurd (cc e);
  took = λ h e cell f. lock_took (fields_of w).died (whole_at t operation.Lock h e cell f);
}
rows_of (call.TryLock m) t w acquiring pos free usable = record {
  op = operation.TryLock;
  look = row.TryLock try.Load;
  take = row.TryLock (try.Take (fields_of w) 0);
  begins = λ l. refl;
  announced = λ p. refl;
  looks = λ cell. refl;
  sees = λ p. ap (λ (g : Led). (from_cell p g).phase) (try_takes (fields_of w) free usable);
  takes = λ cell. refl;
  is_no_look = λ e. absurd (cc e);
  took = λ h e cell f. try_took (fields_of w).died (whole_at t operation.TryLock h e cell f);
}
rows_of (call.Unlock m) t w acquiring pos free usable = absurd (cc acquiring)
rows_of (call.Consistent m) t w acquiring pos free usable = absurd (cc acquiring)

abbrev pub in_lock : (c : Call) (t w : ℕ) → Rows c t w → Layout' → Phase → Whole
in_lock c t w k l f = whole_at t k.op (head_in l t) (entry_in l t (mutex_of c)) (cell_in l t (mutex_of c)) f

abbrev pub Locks : (c : Call) (t w : ℕ) → Rows c t w → Layout' → State → Phase → Type 0
Locks c t w k l s f = (s.threads t).stage ≡ Calling (OnMutex c) (in_lock c t w k l f)

module _ (l : Layout') (c : Call) (t w : ℕ) (k : Rows c t w) (is : IsLayout l) (pos : 1 ≤ t) (known : t ≤ l.threads) (inside : mutex_of c < l.mutexes) (s : State) (inv : Kept s) (same : s.layout ≡ l) where
  there : t ≤ s.layout.threads
  there = subst (λ (k : Layout'). t ≤ k.threads) (sym same) known

  abbrev at : Phase → Whole
  at f = in_lock c t w k l f

  -- it announces its entry
  pub lock_announces : is_asleep s t ≡ false → Locks c t w k l s (Announcing k.look) → Locks c t w k l (happens s (Step t)).state (AtCell k.look)
  lock_announces awake is_at = steps_to s t pos there inv (OnMutex c) (at (Announcing k.look)) is_at awake ∙ ap (λ (f : Phase). stage_after (OnMutex c) (at (Announcing k.look)) f) (k.announced (at (Announcing k.look)))

  -- it looks at the cell
  pub lock_looks : is_asleep s t ≡ false → s.words (cell_place l (mutex_of c)) ≡ w → Locks c t w k l s (AtCell k.look) → Locks c t w k l (happens s (Step t)).state (AtCell k.take)
  lock_looks awake word is_at =
      let p = at (AtCell k.look) in
      steps_to s t pos there inv (OnMutex c) p is_at awake
      ∙ ap (λ (a : Access). stage_after (OnMutex c) p (whole_led p (answer_among a (s.words (place_met s.layout t a)) (s.queues (place_met s.layout t a)))).phase) (k.looks (cell_in l t (mutex_of c)))
      ∙ ap (λ (x : ℕ). stage_after (OnMutex c) p (whole_led p (Value x)).phase) (met_at s l t (mutex_of c) is pos known inside same ∙ word)
      ∙ ap (λ (f : Phase). stage_after (OnMutex c) p f) (k.sees p)

  -- it takes the cell, which is as it saw it
  pub lock_takes_it : is_asleep s t ≡ false → s.words (cell_place l (mutex_of c)) ≡ w → Locks c t w k l s (AtCell k.take)
      → Locks c t w k l (happens s (Step t)).state (Linking (link_started (head_in l t) (entry_in l t (mutex_of c))) (acquired (fields_of w)))
  lock_takes_it awake word is_at =
      let p = at (AtCell k.take) in
      let place = place_in s.layout t (cell_in l t (mutex_of c)) in
      let exchange = access.Exchange (cell_in l t (mutex_of c)) (word_of (fields_of w)) (word_of (taken (fields_of w) t)) in
      let expected : s.words place ≡ word_of (fields_of w) = met_at s l t (mutex_of c) is pos known inside same ∙ word ∙ sym (word_of-fields_of w) in
      steps_to s t pos there inv (OnMutex c) p is_at awake
      ∙ ap (λ (a : Access). stage_after (OnMutex c) p (whole_led p (answer_among a (s.words (place_met s.layout t a)) (s.queues (place_met s.layout t a)))).phase) (k.takes (cell_in l t (mutex_of c)))
      ∙ ap (λ (b : Bool). stage_after (OnMutex c) p (whole_led p (if b then Exchanged else Changed (s.words place))).phase) (eq-eqb (s.words place) (word_of (fields_of w)) expected)
      ∙ ap (λ (f : Phase). stage_after (OnMutex c) p f) (k.took (head_in l t) (entry_in l t (mutex_of c)) (cell_in l t (mutex_of c)) (AtCell k.take))
