-- The machine's call is about the row's mutex, and stays about it.
use Rattle.std.proofs.Common.{◌≡◌, ℕ, ◌==◌, Bool, true, false, Result, Ok, Err, List, [], ◌∷◌, ◌++◌, refl, sym, ap, ◌∙◌, subst, arith}
use Rattle.std.specs.Prelude.{slice_index, ◌&&◌}
use Rattle.lockword.specs.Cells.{fields_of}
use Rattle.lockword.specs.declared.reply.Reply.{Reply}
use Rattle.stepprograms.specs.declared.access.Access.{Access}
use Rattle.memorymap.specs.Layouts.{Layout', address_in, cell_place}
use Rattle.exitwalk.specs.Standings as walks
use Rattle.exitwalk.specs.declared.row.Row as walk_row
use Rattle.mutex.specs.Calls as calls
use Rattle.mutex.specs.Rows.{acquired}
use Rattle.mutex.specs.declared.call.Call.{Call}
use Rattle.mutex.specs.declared.call.Call.TheVariants.{TimedLock, TryLock, Unlock}
use Rattle.mutex.specs.declared.phase.Phase.{Phase}
use Rattle.mutex.specs.Standings.{Whole}
use Rattle.mutex.specs.Whole.{may_expire, whole_access, whole_led, whole_started}
use Rattle.condvar.specs.Calls.{condition_of}
use Rattle.condvar.specs.Ops.{mutex_of}
use Rattle.condvar.specs.Whole.{cond_access, cond_led}
use Rattle.condvar.specs.Standings.{CondWhole}
use Rattle.condvar.specs.declared.call.CondCall.{CondCall}
use Rattle.condvar.specs.declared.phase.CondPhase.{CondPhase}
use Rattle.condvar.specs.declared.row.CondRow.{CondRow}
use Rattle.condvar.specs.declared.op.Op.{Op}
use Rattle.condvar.specs.declared.op.Op.TheVariants.{OnMutex, OnCondition}
use Rattle.facts.specs.declared.fact.Queue.TheVariants.{Mutex}
use Rattle.protocol.specs.declared.event.Event.{Event}
use Rattle.protocol.specs.declared.event.Event.TheVariants.{Begin, Step, Expire}
use Rattle.protocol.specs.declared.thread.Thread.{Thread}
use Rattle.protocol.specs.declared.thread.Stage.{Stage}
use Rattle.protocol.specs.declared.thread.Stage.TheVariants.{Idle, Calling, AtCondition, Dying, Reaped}
use Rattle.protocol.specs.Machine.{State, After, answer_of, put, begun, expired, first_stage, happens, has_thread, is_timed, lapsed, led, may_begin, nothing, overslept, run, sleeps, stage_after, stage_at, stage_begun, stage_walked, stepped, waits_on, went}
use Rattle.protocol.proofs.Puts.{put-same}
use Rattle.slots.specs.Places.{cell_of}
use Rattle.slots.specs.Rows.{Choice, How, Giving, Row, Taking}
use Rattle.slots.specs.Rows.How.{Tried, Later, Waited}
use Rattle.slots.specs.Rows.Giving.{OfUnlock, OfWait}
use Rattle.slots.specs.Shown.{Slots, shown}
use Rattle.slots.specs.Stands.{HasChosen, IsAtWords, IsGiving, IsIn, IsRetaking, IsToLook, IsToSleep, IsWaking, StandsAs}
use Rattle.slots.specs.Words.{taken_word, waiting_word}
use Rattle.slots.specs.Seen.{again_events, seen_events, seen_row, wait_of}
use Rattle.slots.specs.Table.{Made, made, makes, marked_events, marked_row, missed}
use Rattle.slots.specs.Accesses.{IsAbout, IsAboutIt}
use Rattle.slots.specs.Further.{IsOfCell}
use Rattle.slots.specs.Fits.{Fits, GivesOurs, LocksOurs, MayWakeAll}
use Rattle.slots.proofs.Leading.{by_test}

-- ---- where a row says that the machine's thread is

module _ (l : Layout') (m : ℕ) (g : Stage) where
  in_call : (c : Call) (f : Phase) → IsIn c f g → calls.mutex_of c ≡ cell_of m → IsAbout l m g
  in_call c f (p, is, phase) of = subst (IsAbout l m) (sym is) of

  retaking : (z : ℕ) (f : Phase) → IsRetaking z f g → IsOfCell l m z → IsAbout l m g
  retaking z f (c, p, is, of, acts, phase) cell = subst (IsAbout l m) (sym is) (ap (slice_index l.conditions) of ∙ cell.cell)

  at_words : (c : CondCall) (r : CondRow) → IsAtWords c r g → slice_index l.conditions (condition_of c) ≡ cell_of m → IsAbout l m g
  at_words c r (p, is, phase) of = subst (IsAbout l m) (sym is) of

  waits_for : (k : ℕ) (timed : Bool) → condition_of (wait_of k timed) ≡ k
  waits_for k true = refl
  waits_for k false = refl

  giving : (y : Giving) → GivesOurs l m y → IsGiving m y g → IsAbout l m g
  giving (OfUnlock d) o there = in_call (Unlock (cell_of m)) _ there refl
  giving (OfWait k n slept timed) o there = at_words (wait_of k timed) _ there (ap (slice_index l.conditions) (waits_for k timed) ∙ o.cell.cell)

  waking : (y : Giving) → GivesOurs l m y → IsWaking m y g → IsAbout l m g
  waking (OfUnlock d) o there = in_call (Unlock (cell_of m)) _ there refl
  waking (OfWait k n slept timed) o there = at_words (wait_of k timed) _ there (ap (slice_index l.conditions) (waits_for k timed) ∙ o.cell.cell)

module _ (l : Layout') (g : Stage) (k : Taking) where
  to_look : (h : How) → ((z : ℕ) → h ≡ Waited z → IsOfCell l k.mutex z) → IsToLook k h g → IsAbout l k.mutex g
  to_look Tried wait there = in_call l k.mutex g (TryLock (cell_of k.mutex)) _ there refl
  to_look Later wait there = in_call l k.mutex g (TimedLock (cell_of k.mutex)) _ there refl
  to_look (Waited z) wait there = retaking l k.mutex g z _ there (wait z refl)

  to_sleep : (h : How) (v : ℕ) → ((z : ℕ) → h ≡ Waited z → IsOfCell l k.mutex z) → IsToSleep k h v g → IsAbout l k.mutex g
  to_sleep Tried v wait there = in_call l k.mutex g (TryLock (cell_of k.mutex)) _ there refl
  to_sleep Later v wait there = in_call l k.mutex g (TimedLock (cell_of k.mutex)) _ there refl
  to_sleep (Waited z) v wait (c, low, there) = retaking l k.mutex g z _ there (wait z refl)

  chosen : (h : How) (b : Bool) (v : ℕ) → ((z : ℕ) → h ≡ Waited z → IsOfCell l k.mutex z) → HasChosen k h b v g → IsAbout l k.mutex g
  chosen Tried b v wait there = in_call l k.mutex g (TryLock (cell_of k.mutex)) _ there refl
  chosen Later true v wait there = in_call l k.mutex g (TimedLock (cell_of k.mutex)) _ there refl
  chosen Later false v wait there = in_call l k.mutex g (TimedLock (cell_of k.mutex)) _ there refl
  chosen (Waited z) true v wait there = to_sleep (Waited z) v wait there
  chosen (Waited z) false v wait there = retaking l k.mutex g z _ there (wait z refl)

  waits : LocksOurs l k → (z : ℕ) → k.how ≡ Waited z → IsOfCell l k.mutex z
  waits o z is = (o.wait z is).1

pub about_it : (l : Layout') (t : ℕ) (r : Row) (g : Stage) → Fits l t r g → StandsAs r g → IsAboutIt l r g
about_it l t (Row.Sees k) g o there = to_look l g k k.how (waits l g k o) there
about_it l t (Row.Takes k v) g o there = to_look l g k k.how (waits l g k o.0) there
about_it l t (Row.SeesAgain k v) g o there = chosen l g k k.how (fields_of v).waiters v (waits l g k o.0) there
about_it l t (Row.SeesToSleep k) g o there = to_look l g k k.how (waits l g k o.0) there
about_it l t (Row.Marks k v n) g o there = chosen l g k k.how false v (waits l g k o.0) there
about_it l t (Row.SleepsOn k v) g o there = to_sleep l g k k.how v (waits l g k o.0) there
about_it l t (Row.Asleep k) g o there = to_look l g k k.how (waits l g k o.0) there
about_it l t (Row.WaitAsleep m k n timed) g o there = retaking l m g k _ there.0 o.cell
about_it l t (Row.WakesAll m r) g o there = o
about_it l t (Row.HandsOn m y is) g o there = waking l m g y o there
about_it l t (Row.LooksBack m y is) g o there = waking l m g y o there
about_it l t (Row.WakesOne m y is) g o there = waking l m g y o there
about_it l t (Row.Gives m y) g o there = giving l m g y o there
about_it l t (Row.AllMarks m k n) g o (seen, same, there) = at_words l m g (CondCall.Broadcast k) _ there o.cell.cell
about_it l t (Row.AllMoves m k n) g o (seen, same, there) = at_words l m g (CondCall.Broadcast k) _ there o.cell.cell
about_it l t r g o there = tt

-- ---- events of a call

about_after : (l : Layout') (m : ℕ) (o : Op) (p : Whole) (f : Phase) → mutex_of l o ≡ cell_of m → IsAbout l m (stage_after o p f)
about_after l m o p (Phase.Ended x) of = tt
about_after l m o p f of = of

about_at : (l : Layout') (m : ℕ) (c : CondCall) (p : CondWhole) (f : CondPhase) → mutex_of l (OnCondition c) ≡ cell_of m → IsAbout l m (stage_at c p f)
about_at l m c p (CondPhase.Ended x) of = tt
about_at l m c p (CondPhase.Locking w) of = of
about_at l m c p f of = of

about_walked : (l : Layout') (m : ℕ) (w : walks.Standing) (r : walk_row.Row) → IsAbout l m (stage_walked w r)
about_walked l m w walk_row.Row.Ended = tt
about_walked l m w r = tt

module _ (l : Layout') (t m : ℕ) where
  abbrev AboutThen : After → Type 0
  AboutThen a = IsAbout l m (a.state.threads t).stage

  on_thread : (s : State) (th : Thread) → IsAbout l m th.stage → IsAbout l m (put s.threads t th t).stage
  on_thread s th about = subst (λ (y : Thread). IsAbout l m y.stage) (sym (put-same s.threads t th)) about

  about_stepped : (s : State) (h : ℕ) (g : Stage) → (s.threads t).stage ≡ g → IsAbout l m g → AboutThen (stepped s t h g)
  about_stepped s h Idle is about = subst (IsAbout l m) (sym is) about
  about_stepped s h (Calling o p) is about = by_test AboutThen (sleeps s t (Calling o p)) (nothing s) (went s t h (mutex_of s.layout o) (Mutex (mutex_of s.layout o)) (whole_access p) (led o p (whole_led p (answer_of s t (whole_access p)))))
      (λ e. subst (IsAbout l m) (sym is) about)
      (λ e. on_thread s _ (about_after l m o p (whole_led p (answer_of s t (whole_access p))).phase about))
  about_stepped s h (AtCondition c p) is about = on_thread s _ (about_at l m c p (cond_led p (answer_of s t (cond_access p))).phase about)
  about_stepped s h (Dying w) is about = on_thread s _ (about_walked l m w _)
  about_stepped s h Reaped is about = subst (IsAbout l m) (sym is) about

  about_expired : (s : State) (h : ℕ) (g : Stage) → (s.threads t).stage ≡ g → IsAbout l m g → AboutThen (expired s t h g)
  about_expired s h (Calling (OnMutex c) p) is about = by_test AboutThen (is_timed (OnMutex c) && may_expire p.phase && sleeps s t (Calling (OnMutex c) p)) (lapsed s t h (OnMutex c) p) (nothing s)
      (λ e. on_thread s _ about) (λ e. subst (IsAbout l m) (sym is) about)
  about_expired s h (Calling (OnCondition c) p) is about = by_test AboutThen (is_timed (OnCondition c) && waits_on s t (condition_of c)) (overslept s t h (condition_of c) p) (nothing s)
      (λ e. on_thread s _ about) (λ e. subst (IsAbout l m) (sym is) about)
  about_expired s h Idle is about = subst (IsAbout l m) (sym is) about
  about_expired s h (AtCondition c p) is about = subst (IsAbout l m) (sym is) about
  about_expired s h (Dying w) is about = subst (IsAbout l m) (sym is) about
  about_expired s h Reaped is about = subst (IsAbout l m) (sym is) about

  about_begun : (s : State) (c : Call) (r : Result Whole Reply) → calls.mutex_of c ≡ cell_of m → IsAbout l m (s.threads t).stage → AboutThen (begun s t (OnMutex c) (stage_begun c r))
  about_begun s c (Ok p) of about = on_thread s _ of
  about_begun s c (Err x) of about = about

  -- a step, a timeout, and the beginning of a call on the same mutex
  abbrev KeepsIt : Event → Type 0
  KeepsIt (Step u) = u ≡ t
  KeepsIt (Expire u) = u ≡ t
  KeepsIt (Begin u (OnMutex c)) = (u ≡ t) × (calls.mutex_of c ≡ cell_of m)
  KeepsIt e = ⊥

  abbrev AllKeepIt : List Event → Type 0
  AllKeepIt [] = Unit {0}
  AllKeepIt (e ∷ es) = KeepsIt e × AllKeepIt es

  about_event : (s : State) (e : Event) → KeepsIt e → IsAbout l m (s.threads t).stage → AboutThen (happens s e)
  about_event s (Step u) mine about = subst (λ (v : ℕ). AboutThen (happens s (Step v))) (sym mine) (by_test AboutThen (has_thread s t) (stepped s t (s.threads t).held (s.threads t).stage) (nothing s) (λ e. about_stepped s (s.threads t).held (s.threads t).stage refl about) (λ e. about))
  about_event s (Expire u) mine about = subst (λ (v : ℕ). AboutThen (happens s (Expire v))) (sym mine) (by_test AboutThen (has_thread s t) (expired s t (s.threads t).held (s.threads t).stage) (nothing s) (λ e. about_expired s (s.threads t).held (s.threads t).stage refl about) (λ e. about))
  about_event s (Begin u (OnMutex c)) (mine, of) about = subst (λ (v : ℕ). AboutThen (happens s (Begin v (OnMutex c)))) (sym mine) (by_test AboutThen (may_begin s t (OnMutex c)) (begun s t (OnMutex c) (first_stage s.layout t (s.threads t).held (OnMutex c))) (nothing s) (λ e. about_begun s c (whole_started s.layout t (s.threads t).held c) of about) (λ e. about))
  about_event s e keeps about = absurd keeps

  pub about_run : (s : State) (es : List Event) → AllKeepIt es → IsAbout l m (s.threads t).stage → IsAbout l m ((run s es).threads t).stage
  about_run s [] keep about = about
  about_run s (e ∷ es) (keeps, keep) about = about_run (happens s e).state es keep (about_event s e keeps about)

  both_keep : (es fs : List Event) → AllKeepIt es → AllKeepIt fs → AllKeepIt (es ++ fs)
  both_keep [] fs a b = b
  both_keep (e ∷ es) fs (a, as_well) b = (a, both_keep es fs as_well b)

  -- a lock's look
  seen_keep : (h : How) (w : ℕ) → AllKeepIt (seen_events t m h w)
  seen_keep Tried w = grind (arith)
  seen_keep Later w = grind (arith)
  seen_keep (Waited z) w = grind (arith)

  again_keep : (h : How) (v : ℕ) → AllKeepIt (again_events t m h v)
  again_keep Tried v = (refl, ((refl, refl), (refl, tt)))
  again_keep Later v = grind (arith)
  again_keep (Waited z) v = tt

-- ---- a row after which a call may wake all

module _ (x : Slots) (t : ℕ) (c : Choice) where
  abbrev l' : Layout'
  l' = x.machine.layout

  abbrev word : ℕ → ℕ
  word m = shown x (cell_place l' (cell_of m))

  abbrev Keep : ℕ → List Event → Type 0
  Keep m es = AllKeepIt l' t m es

  missed_keep : (a : Access) (k : Taking) (h : How) (w : ℕ) → Keep k.mutex (missed x t c a k h w).events
  missed_keep a k Tried w = (refl, ((refl, refl), (refl, seen_keep l' t k.mutex Later w)))
  missed_keep a k Later w = seen_keep l' t k.mutex Later w
  missed_keep a k (Waited z) w = seen_keep l' t k.mutex (Waited z) w

  marked_keep : (k : Taking) (h : How) → Keep k.mutex (marked_events x t c k h)
  marked_keep k Tried = (refl, ((refl, refl), (refl, (refl, (refl, (refl, (refl, tt)))))))
  marked_keep k Later = (refl, (refl, (refl, (refl, tt))))
  marked_keep k (Waited z) = (refl, (refl, tt))

  row_keeps : (r : Row) (m : ℕ) → MayWakeAll r m → Keep m (made x t c r).events
  row_keeps (Row.Sees k) m is = subst (λ (j : ℕ). Keep j (made x t c (Row.Sees k)).events) is (seen_keep l' t k.mutex k.how (word k.mutex))
  row_keeps (Row.Takes k v) m is = subst (λ (j : ℕ). Keep j (made x t c (Row.Takes k v)).events) is
      (by_test (λ (n : Made). Keep k.mutex n.events) (word k.mutex == v)
      (makes (Access.Exchange (address_in l' t (cell_place l' (cell_of k.mutex))) v (taken_word v t)) (Step t ∷ Step t ∷ []) (Row.Links k.mutex (acquired (fields_of v))))
      (makes (Access.Exchange (address_in l' t (cell_place l' (cell_of k.mutex))) v (taken_word v t)) (seen_events t k.mutex k.how (word k.mutex)) (seen_row t k (word k.mutex)))
      (λ e. (refl, (refl, tt))) (λ e. seen_keep l' t k.mutex k.how (word k.mutex)))
  row_keeps (Row.SeesAgain k v) m is = subst (λ (j : ℕ). Keep j (made x t c (Row.SeesAgain k v)).events) is (both_keep l' t k.mutex (again_events t k.mutex k.how v) (seen_events t k.mutex k.how (word k.mutex)) (again_keep l' t k.mutex k.how v) (seen_keep l' t k.mutex k.how (word k.mutex)))
  row_keeps (Row.Marks k v n) m is = subst (λ (j : ℕ). Keep j (made x t c (Row.Marks k v n)).events) is
      (by_test (λ (y : Made). Keep k.mutex y.events) (word k.mutex == v)
      (makes (Access.Exchange (address_in l' t (cell_place l' (cell_of k.mutex))) v (waiting_word v)) (marked_events x t c k k.how) (marked_row x t c k k.how v n))
      (missed x t c (Access.Exchange (address_in l' t (cell_place l' (cell_of k.mutex))) v (waiting_word v)) k k.how (word k.mutex))
      (λ e. marked_keep k k.how) (λ e. missed_keep (Access.Exchange (address_in l' t (cell_place l' (cell_of k.mutex))) v (waiting_word v)) k k.how (word k.mutex)))
  row_keeps (Row.SeesToSleep k) m is = subst (λ (j : ℕ). Keep j (made x t c (Row.SeesToSleep k)).events) is (seen_keep l' t k.mutex k.how (word k.mutex))
  row_keeps (Row.Gives j y) m is = (refl, tt)
  row_keeps r m is = absurd is

  before : (r : Row) (g : Stage) (m : ℕ) → IsAboutIt l' r g → MayWakeAll r m → IsAbout l' m g
  before (Row.Sees k) g m about is = subst (λ (j : ℕ). IsAbout l' j g) is about
  before (Row.Takes k v) g m about is = subst (λ (j : ℕ). IsAbout l' j g) is about
  before (Row.SeesAgain k v) g m about is = subst (λ (j : ℕ). IsAbout l' j g) is about
  before (Row.Marks k v n) g m about is = subst (λ (j : ℕ). IsAbout l' j g) is about
  before (Row.SeesToSleep k) g m about is = subst (λ (j : ℕ). IsAbout l' j g) is about
  before (Row.Gives j y) g m about is = subst (λ (i : ℕ). IsAbout l' i g) is about
  before r g m about is = absurd is

  pub wakes_its_own : (r : Row) (m : ℕ) → IsAboutIt l' r (x.machine.threads t).stage → MayWakeAll r m → IsAbout l' m ((run x.machine (made x t c r).events).threads t).stage
  wakes_its_own r m about is = about_run l' t m x.machine (made x t c r).events (row_keeps r m is) (before r (x.machine.threads t).stage m about is)
