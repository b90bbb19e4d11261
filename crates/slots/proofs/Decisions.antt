-- A look that decides, whatever it finds: memory and queues stay as they are.
use Rattle.std.proofs.Common.{◌≡◌, ◌≢◌, ℕ, ◌<◌, ◌≤◌, ◌==◌, Bool, true, false, Some, List, [], ◌∷◌, ◌++◌, refl, sym, ap, ◌∙◌, subst, eqb-true}
use Rattle.std.specs.Prelude.{if◌then◌else◌}
use Rattle.lockword.specs.Cells.{fields_of}
use Rattle.lockword.specs.declared.reply.Reply.{Reply}
use Rattle.lockword.specs.declared.reply.Reply.TheVariants.{EBUSY, ENOTRECOVERABLE, ETIMEDOUT}
use Rattle.stepprograms.specs.declared.access.Access.{Access}
use Rattle.posixmutex.specs.declared.point.Operation.TheVariants as operation
use Rattle.memorymap.specs.Layouts.{cell_place}
use Rattle.mutex.specs.declared.call.Call.TheVariants.{TimedLock, TryLock}
use Rattle.mutex.specs.declared.phase.Phase.TheVariants.{AtCell, Clearing}
use Rattle.mutex.specs.Rows.{acquired}
use Rattle.mutex.specs.Standings.{Whole}
use Rattle.mutex.specs.Whole.{from_cell}
use Rattle.condvar.specs.declared.op.Op.{Op}
use Rattle.condvar.specs.declared.op.Op.TheVariants.{OnMutex, OnCondition}
use Rattle.protocol.specs.declared.event.Event.{Event}
use Rattle.protocol.specs.declared.event.Event.TheVariants.{Step}
use Rattle.protocol.specs.declared.thread.Thread.{Thread}
use Rattle.protocol.specs.declared.thread.Stage.{Stage}
use Rattle.protocol.specs.declared.thread.Stage.TheVariants.{Calling}
use Rattle.protocol.specs.Machine.{State, put, stands_in}
use Rattle.protocol.proofs.Kept.{Kept}
use Rattle.protocol.proofs.Puts.{put-same}
use Rattle.protocol.proofs.Seeing.{cell_in, cell_again}
use Rattle.slots.specs.Places.{cell_of, slot_of}
use Rattle.slots.specs.Rows.{Choice, How, Row, Taking}
use Rattle.slots.specs.Rows.How.{Tried, Later, Waited}
use Rattle.slots.specs.Rows.Onward.{Fails}
use Rattle.slots.specs.Rows.Before.{Again}
use Rattle.slots.specs.Shown.{Slots, shown}
use Rattle.slots.specs.Rows.{Then}
use Rattle.slots.specs.Stands.{HasChosen, IsIn, IsThrough, IsToLook, StandsAs, at_load}
use Rattle.slots.specs.Words.{is_free, taken_word, waiting_word}
use Rattle.slots.specs.Seen.{again_events, begins_behind, expires, later, seen_events, seen_row, seen_to_sleep}
use Rattle.slots.specs.Table.{Made, made, makes, marked_events, marked_row, missed, out_of}
use Rattle.slots.specs.Accesses.{IsAbout, IsAboutIt, IsAtRow}
use Rattle.slots.specs.Further.{FindsOther, GoesToSlot, IsDeciding, MayTake, DecidingLooksAreEvents}
use Rattle.slots.proofs.Chains.{Comes, again_more, gives_up_more, looks_more}
use Rattle.slots.proofs.Free.{reached_kept}
use Rattle.slots.proofs.Leading.{IsAt, Leads, by_test, call_at, compose, is_at, loads_more, now, on, op_of, stays}
use Rattle.slots.proofs.Looks.{IsQuiet}
use Rattle.slots.proofs.Meets.{Idles, Says, cell_says, load_idles, miss_idles, nothing_events, pends_in}
use Rattle.slots.proofs.OneStep.{AreEvents}
use Rattle.slots.proofs.Refusals.{tries_unusable}
use Rattle.slots.proofs.Takes.{load_of, not_equal}

-- ---- a look, in a state in which the thread is about to look

module _ (s : State) (t m v : ℕ) (inv : Kept s) (pos : 1 ≤ t) (known : t ≤ s.layout.threads) (out : (key : ℕ) → stands_in t (s.queues key) ≡ false) (room : (s.threads t).held < 2048) (says : Says (s.words (cell_place s.layout (cell_of m))) v) where
  abbrev k : ℕ
  k = cell_of m

  abbrev h : ℕ
  h = (s.threads t).held

  abbrev w : ℕ
  w = s.words (cell_place s.layout k)

  abbrev Quiet : List Event → Type 0
  Quiet es = Comes s t es s.words s.queues

  none : (g : Stage) → (s.threads t).stage ≡ g → Quiet []
  none g is = (_, stays s t g inv is)

  one : (o : Op) (b : Bool) → IsAt s t o k (AtCell (load_of b)) → Quiet (Step t ∷ [])
  one o b a = looks_more s t pos known inv.layout [] s.words s.queues h k o (op_of o) out a.inside b (stays s t (Calling o (call_at s.layout t (op_of o) k (AtCell (load_of b)))) inv a.there)

  -- in a trylock
  pub sees_tried : IsAt s t (OnMutex (TryLock k)) k (AtCell (load_of false)) → Quiet (seen_events t m Tried v)
  sees_tried a = go (fields_of v).unusable refl ((fields_of v).owner == 0) refl (fields_of v).waiters refl
    where
      lost_then : (fields_of v).unusable ≡ true → Leads s t (Step t ∷ []) s.words s.queues (on (Calling (OnMutex (TryLock k)) (call_at s.layout t operation.TryLock k (Clearing ENOTRECOVERABLE))) h)
      lost_then lost = loads_more s t [] s.words s.queues (OnMutex (TryLock k)) (call_at s.layout t operation.TryLock k (AtCell (load_of false))) h pos known
          (stays s t (Calling (OnMutex (TryLock k)) (call_at s.layout t operation.TryLock k (AtCell (load_of false)))) inv a.there) out (cell_in s.layout t k) (cell_place s.layout k)
          (record { phase = Clearing ENOTRECOVERABLE; point = Some ENOTRECOVERABLE }) (on (Calling (OnMutex (TryLock k)) (call_at s.layout t operation.TryLock k (Clearing ENOTRECOVERABLE))) h)
          refl (cell_again s.layout t inv.layout pos known k a.inside) (ap (from_cell (call_at s.layout t operation.TryLock k (AtCell (load_of false)))) (tries_unusable (fields_of w) (sym says.unusable ∙ lost))) refl refl

      wakes_then : (fields_of v).unusable ≡ true → Quiet (Step t ∷ (begins_behind t (TimedLock k) ++ Step t ∷ []))
      wakes_then lost = looks_more s t pos known inv.layout (Step t ∷ begins_behind t (TimedLock k)) s.words s.queues h k (OnMutex (TimedLock k)) operation.Lock out a.inside true
          (again_more s t pos known inv.layout (Step t ∷ []) s.words s.queues h k true (OnMutex (TryLock k)) operation.TryLock k ENOTRECOVERABLE out (lost_then lost) a.inside room (pends_in s t (OnMutex (TryLock k)) k (AtCell (load_of false)) inv pos known a))

      go : (a1 : Bool) → (fields_of v).unusable ≡ a1 → (b : Bool) → ((fields_of v).owner == 0) ≡ b → (d : Bool) → (fields_of v).waiters ≡ d
          → Quiet (if a1 then (if d then Step t ∷ (begins_behind t (TimedLock k) ++ Step t ∷ []) else Step t ∷ []) else if b then [] else Step t ∷ [])
      go true lost b e true f = wakes_then lost
      go true lost b e false f = one (OnMutex (TryLock k)) false a
      go false usable true e d f = none _ a.there
      go false usable false e d f = one (OnMutex (TryLock k)) false a

  -- in a lock, which gives up if another thread owns the mutex, with WAITERS
  gives_up : IsAt s t (OnMutex (TimedLock k)) k (AtCell (load_of true)) → (fields_of v).unusable ≡ false → ((fields_of w).owner == t) ≡ false → ((fields_of v).owner == 0) ≡ false → (fields_of v).waiters ≡ true → Quiet (expires t)
  gives_up a usable other some waits = (
    _,
    gives_up_more s t pos known inv.layout [] s.words s.queues h k out a.inside (stays s t (Calling (OnMutex (TimedLock k)) (call_at s.layout t operation.Lock k (AtCell (load_of true)))) inv a.there)
        (sym says.unusable ∙ usable) other (ap (λ (n : ℕ). n == 0) (sym says.owner) ∙ some) (sym says.waiters ∙ waits),
  )

  pub sees_later : IsAt s t (OnMutex (TimedLock k)) k (AtCell (load_of true)) → Quiet (seen_events t m Later v)
  sees_later a = go (fields_of v).unusable refl ((fields_of v).owner == 0) refl ((fields_of v).owner == t) refl (fields_of v).waiters refl
    where
      go : (a1 : Bool) → (fields_of v).unusable ≡ a1 → (b : Bool) → ((fields_of v).owner == 0) ≡ b → (d : Bool) → ((fields_of v).owner == t) ≡ d → (e : Bool) → (fields_of v).waiters ≡ e
          → Quiet (if a1 then Step t ∷ [] else if b then [] else if d then Step t ∷ [] else if e then expires t else [])
      go true lost b some d other e waits = one (OnMutex (TimedLock k)) true a
      go false usable true some d other e waits = none _ a.there
      go false usable false some true other e waits = one (OnMutex (TimedLock k)) true a
      go false usable false some false other true waits = gives_up a usable (ap (λ (n : ℕ). n == t) (sym says.owner) ∙ other) some waits
      go false usable false some false other false waits = none _ a.there

  -- in the lock that ends a wait
  pub sees_waited : (o : Op) (z : ℕ) → IsAt s t o k (AtCell (load_of true)) → Quiet (seen_events t m (Waited z) v)
  sees_waited o z a = go (fields_of v).unusable ((fields_of v).owner == 0) ((fields_of v).owner == t) (fields_of v).waiters
    where
      go : (a1 b d e : Bool) → Quiet (if a1 then Step t ∷ [] else if b then [] else if d then Step t ∷ [] else if e then Step t ∷ [] else [])
      go true b d e = one o true a
      go false true d e = none _ a.there
      go false false true e = one o true a
      go false false false true = one o true a
      go false false false false = none _ a.there

  -- an heir's last
  pub sees_last : IsAt s t (OnMutex (TimedLock k)) k (AtCell (load_of true)) → (fields_of w).owner ≢ t → Quiet (if (fields_of v).unusable then Step t ∷ [] else if (fields_of v).owner == 0 then [] else if (fields_of v).waiters then expires t else [])
  sees_last a apart = go (fields_of v).unusable refl ((fields_of v).owner == 0) refl (fields_of v).waiters refl
    where
      go : (a1 : Bool) → (fields_of v).unusable ≡ a1 → (b : Bool) → ((fields_of v).owner == 0) ≡ b → (e : Bool) → (fields_of v).waiters ≡ e → Quiet (if a1 then Step t ∷ [] else if b then [] else if e then expires t else [])
      go true lost b some e waits = one (OnMutex (TimedLock k)) true a
      go false usable true some e waits = none _ a.there
      go false usable false some true waits = gives_up a usable (not_equal (fields_of w).owner t apart) some waits
      go false usable false some false waits = none _ a.there

-- ---- of the layer's state

module _ (x : Slots) (t : ℕ) (c : Choice) (at : IsAtRow x t) where
  abbrev z : State
  z = x.machine

  invz : Kept z
  invz = reached_kept z at.reached

  abbrev Silent : List Event → Type 0
  Silent es = Comes z t es z.words z.queues

  abbrev word : ℕ → ℕ
  word m = shown x (cell_place z.layout (cell_of m))

  to_look : (m : ℕ) (i : Taking) (how : How) → i.mutex ≡ m → MayTake x t m → IsToLook i how (z.threads t).stage → IsAbout z.layout m (z.threads t).stage → Silent (seen_events t m how (word m))
  to_look m i Tried same may (p, is, phase) about = sees_tried z t m (word m) invz at.first at.last at.out may.room (cell_says x m may.inside) (is_at z t (OnMutex (TryLock (cell_of m))) p (cell_of m) (AtCell (load_of false)) invz at.first at.last (subst (λ (j : ℕ). (z.threads t).stage ≡ Calling (OnMutex (TryLock (cell_of j))) p) same is) phase refl)
  to_look m i Later same may (p, is, phase) about = sees_later z t m (word m) invz at.first at.last at.out may.room (cell_says x m may.inside) (is_at z t (OnMutex (TimedLock (cell_of m))) p (cell_of m) (AtCell (load_of true)) invz at.first at.last (subst (λ (j : ℕ). (z.threads t).stage ≡ Calling (OnMutex (TimedLock (cell_of j))) p) same is) phase refl)
  to_look m i (Waited y) same may (o, p, is, of, acts, phase) about = sees_waited z t m (word m) invz at.first at.last at.out may.room (cell_says x m may.inside) (OnCondition o) y (is_at z t (OnCondition o) p (cell_of m) (AtCell (load_of true)) invz at.first at.last is phase (subst (IsAbout z.layout m) is about))

  -- a trylock begins again, and then looks; and a lock does
  again_tried : (m : ℕ) (o : Op) (y : Reply) → MayTake x t m → IsAt z t o (cell_of m) (Clearing y) → Silent (begins_behind t (TryLock (cell_of m)) ++ seen_events t m Tried (word m))
  again_tried m o y may e = (looked.0, compose z t (begins_behind t (TryLock (cell_of m))) (seen_events t m Tried (word m)) z.words z.words z.queues z.queues th looked.0 begun looked.1)
    where
      th : Thread
      th = on (Calling (OnMutex (TryLock (cell_of m))) (call_at z.layout t operation.TryLock (cell_of m) (AtCell (load_of false)))) (z.threads t).held

      begun : Leads z t (begins_behind t (TryLock (cell_of m))) z.words z.queues th
      begun = again_more z t at.first at.last invz.layout [] z.words z.queues (z.threads t).held (cell_of m) false o (op_of o) (cell_of m) y at.out (stays z t (Calling o (call_at z.layout t (op_of o) (cell_of m) (Clearing y))) invz e.there) may.inside may.room (pends_in z t o (cell_of m) (Clearing y) invz at.first at.last e)

      same : put z.threads t th t ≡ th
      same = put-same z.threads t th

      looked : Comes (now z t z.words z.queues th) t (seen_events t m Tried (word m)) z.words z.queues
      looked = sees_tried (now z t z.words z.queues th) t m (word m) begun.kept at.first at.last at.out (subst (λ (a : Thread). a.held < 2048) (sym same) may.room) (cell_says x m may.inside) (record { inside = may.inside; there = ap (λ (a : Thread). a.stage) same })

  again_later : (m : ℕ) (o : Op) (y : Reply) → MayTake x t m → IsAt z t o (cell_of m) (Clearing y) → Silent (begins_behind t (TimedLock (cell_of m)) ++ seen_events t m Later (word m))
  again_later m o y may e = (looked.0, compose z t (begins_behind t (TimedLock (cell_of m))) (seen_events t m Later (word m)) z.words z.words z.queues z.queues th looked.0 begun looked.1)
    where
      th : Thread
      th = on (Calling (OnMutex (TimedLock (cell_of m))) (call_at z.layout t operation.Lock (cell_of m) (AtCell (load_of true)))) (z.threads t).held

      begun : Leads z t (begins_behind t (TimedLock (cell_of m))) z.words z.queues th
      begun = again_more z t at.first at.last invz.layout [] z.words z.queues (z.threads t).held (cell_of m) true o (op_of o) (cell_of m) y at.out (stays z t (Calling o (call_at z.layout t (op_of o) (cell_of m) (Clearing y))) invz e.there) may.inside may.room (pends_in z t o (cell_of m) (Clearing y) invz at.first at.last e)

      same : put z.threads t th t ≡ th
      same = put-same z.threads t th

      looked : Comes (now z t z.words z.queues th) t (seen_events t m Later (word m)) z.words z.queues
      looked = sees_later (now z t z.words z.queues th) t m (word m) begun.kept at.first at.last at.out (subst (λ (a : Thread). a.held < 2048) (sym same) may.room) (cell_says x m may.inside) (record { inside = may.inside; there = ap (λ (a : Thread). a.stage) same })

  pub behind_tried : (m : ℕ) → IsThrough m Tried (z.threads t).stage → IsAt z t (OnMutex (TryLock (cell_of m))) (cell_of m) (Clearing EBUSY)
  behind_tried m (p, is, phase) = is_at z t (OnMutex (TryLock (cell_of m))) p (cell_of m) (Clearing EBUSY) invz at.first at.last is phase refl

  pub behind_later : (m : ℕ) → IsThrough m Later (z.threads t).stage → IsAt z t (OnMutex (TimedLock (cell_of m))) (cell_of m) (Clearing ETIMEDOUT)
  behind_later m (p, is, phase) = is_at z t (OnMutex (TimedLock (cell_of m))) p (cell_of m) (Clearing ETIMEDOUT) invz at.first at.last is phase refl

  pub at_load_later : (m : ℕ) → IsIn (TimedLock (cell_of m)) at_load (z.threads t).stage → IsAt z t (OnMutex (TimedLock (cell_of m))) (cell_of m) (AtCell (load_of true))
  at_load_later m (p, is, phase) = is_at z t (OnMutex (TimedLock (cell_of m))) p (cell_of m) (AtCell (load_of true)) invz at.first at.last is phase refl

  seen_again : (m v : ℕ) (k : Taking) (how : How) → k.mutex ≡ m → MayTake x t m → (b : Bool) → (fields_of v).waiters ≡ b → HasChosen k how b v (z.threads t).stage → GoesToSlot how → Silent (again_events t m how v ++ seen_events t m how (word m))
  seen_again m v k Tried same may b is there goes = again_tried m _ _ may (behind_tried m (subst (λ (j : ℕ). IsThrough j Tried (z.threads t).stage) same there))
  seen_again m v k Later same may true is there goes = subst (λ (b : Bool). Silent ((if b then begins_behind t (TimedLock (cell_of m)) else []) ++ seen_events t m Later (word m))) (sym is) (again_later m _ _ may (behind_later m (subst (λ (j : ℕ). IsThrough j Later (z.threads t).stage) same there)))
  seen_again m v k Later same may false is there goes = subst (λ (b : Bool). Silent ((if b then begins_behind t (TimedLock (cell_of m)) else []) ++ seen_events t m Later (word m))) (sym is)
      (sees_later z t m (word m) invz at.first at.last at.out may.room (cell_says x m may.inside) (at_load_later m (subst (λ (j : ℕ). IsIn (TimedLock (cell_of j)) at_load (z.threads t).stage) same there)))
  seen_again m v k (Waited y) same may b is there goes = absurd goes

  -- ---- the rows

  silent : (r next : Row) (es : List Event) (a : Access) → IsQuiet r → Silent es → Idles x t a → AreEvents x t c r (makes a es next)
  silent r next es a quiet (th, l) idles = nothing_events x t c r next es z.words z.queues th quiet l a idles (λ p. refl) (λ p. refl)

  missed_there : (k v n : ℕ) → k < z.layout.mutexes → FindsOther x k v → Idles x t (Access.Exchange (cell_in z.layout t k) v n)
  missed_there k v n inside other = miss_idles x t (cell_in z.layout t k) v n (subst (λ (p : ℕ). shown x p ≢ v) (sym (cell_again z.layout t invz.layout at.first at.last k inside)) other)

  missed_so : (k : Taking) (v n : ℕ) (then_to : Then) (how : How) → MayTake x t k.mutex → FindsOther x (cell_of k.mutex) v → HasChosen k how false v (z.threads t).stage → IsAbout z.layout k.mutex (z.threads t).stage
      → AreEvents x t c (Row.Marks k v then_to) (missed x t c (Access.Exchange (cell_in z.layout t (cell_of k.mutex)) v n) k how (word k.mutex))
  missed_so k v n then_to Tried may other there about = silent (Row.Marks k v then_to) (seen_row t (later k) (word k.mutex)) _ (Access.Exchange (cell_in z.layout t (cell_of k.mutex)) v n) (record { awake = λ a. refl; slept = λ a. refl; turns = λ d a. refl }) (again_later k.mutex _ _ may (behind_tried k.mutex there)) (missed_there (cell_of k.mutex) v n may.inside other)
  missed_so k v n then_to Later may other there about = silent (Row.Marks k v then_to) (seen_row t k (word k.mutex)) _ (Access.Exchange (cell_in z.layout t (cell_of k.mutex)) v n) (record { awake = λ a. refl; slept = λ a. refl; turns = λ d a. refl }) (to_look k.mutex k Later refl may there about) (missed_there (cell_of k.mutex) v n may.inside other)
  missed_so k v n then_to (Waited y) may other there about = silent (Row.Marks k v then_to) (seen_row t k (word k.mutex)) _ (Access.Exchange (cell_in z.layout t (cell_of k.mutex)) v n) (record { awake = λ a. refl; slept = λ a. refl; turns = λ d a. refl }) (to_look k.mutex k (Waited y) refl may there about) (missed_there (cell_of k.mutex) v n may.inside other)

  other_test : (k v : ℕ) → FindsOther x k v → (shown x (cell_place z.layout k) == v) ≡ false
  other_test k v other = not_equal (shown x (cell_place z.layout k)) v other

  pub deciding_row : (r : Row) → StandsAs r (z.threads t).stage → IsAboutIt z.layout r (z.threads t).stage → IsDeciding x t r → AreEvents x t c r (made x t c r)
  deciding_row (Row.Sees k) there about may = silent (Row.Sees k) (seen_row t k (word k.mutex)) _ (Access.Load (cell_in z.layout t (cell_of k.mutex))) (record { awake = λ a. refl; slept = λ a. refl; turns = λ d a. refl }) (to_look k.mutex k k.how refl may there about) (load_idles x t (cell_in z.layout t (cell_of k.mutex)))
  deciding_row (Row.SeesToSleep k) there about may = silent (Row.SeesToSleep k) (seen_to_sleep k (word k.mutex)) _ (Access.Load (cell_in z.layout t (cell_of k.mutex))) (record { awake = λ a. refl; slept = λ a. refl; turns = λ d a. refl }) (to_look k.mutex k k.how refl may there about) (load_idles x t (cell_in z.layout t (cell_of k.mutex)))
  deciding_row (Row.SeesAgain k v) there about (may, goes) = silent (Row.SeesAgain k v) (seen_row t k (word k.mutex)) _ (Access.Load (cell_in z.layout t (cell_of k.mutex))) (record { awake = λ a. refl; slept = λ a. refl; turns = λ d a. refl }) (seen_again k.mutex v k k.how refl may (fields_of v).waiters refl there goes) (load_idles x t (cell_in z.layout t (cell_of k.mutex)))
  deciding_row (Row.LastLooks k) there about (may, apart) = subst (AreEvents x t c (Row.LastLooks k)) (parts (fields_of (word k.mutex)).unusable ((fields_of (word k.mutex)).owner == 0) (fields_of (word k.mutex)).waiters)
      (silent (Row.LastLooks k) (if (fields_of (word k.mutex)).unusable then (if (fields_of (word k.mutex)).waiters then Row.HeirWakes k else Row.Frees k (Fails ENOTRECOVERABLE)) else if (fields_of (word k.mutex)).owner == 0 then Row.HeirPends k Again else if (fields_of (word k.mutex)).waiters then out_of x t c k else Row.LastMarks k (word k.mutex))
      _ (Access.Load (cell_in z.layout t (cell_of k.mutex))) (record { awake = λ a. refl; slept = λ a. refl; turns = λ d a. refl })
      (sees_last z t k.mutex (word k.mutex) invz at.first at.last at.out may.room (cell_says x k.mutex may.inside) (at_load_later k.mutex there) apart) (load_idles x t (cell_in z.layout t (cell_of k.mutex))))
    where
      parts : (a1 b d : Bool) → ◌≡◌ {A = Made} (makes (Access.Load (cell_in z.layout t (cell_of k.mutex))) (if a1 then Step t ∷ [] else if b then [] else if d then expires t else []) (if a1 then (if d then Row.HeirWakes k else Row.Frees k (Fails ENOTRECOVERABLE)) else if b then Row.HeirPends k Again else if d then out_of x t c k else Row.LastMarks k (word k.mutex)))
          (if a1 then makes (Access.Load (cell_in z.layout t (cell_of k.mutex))) (Step t ∷ []) (if d then Row.HeirWakes k else Row.Frees k (Fails ENOTRECOVERABLE)) else if b then makes (Access.Load (cell_in z.layout t (cell_of k.mutex))) [] (Row.HeirPends k Again) else if d then makes (Access.Load (cell_in z.layout t (cell_of k.mutex))) (expires t) (out_of x t c k) else makes (Access.Load (cell_in z.layout t (cell_of k.mutex))) [] (Row.LastMarks k (word k.mutex)))
      parts true b d = refl
      parts false true d = refl
      parts false false true = refl
      parts false false false = refl
  deciding_row (Row.Takes k v) there about (may, other) = by_test (AreEvents x t c (Row.Takes k v)) (word k.mutex == v)
      (makes (Access.Exchange (cell_in z.layout t (cell_of k.mutex)) v (taken_word v t)) (Step t ∷ Step t ∷ []) (Row.Links k.mutex (acquired (fields_of v)))) (makes (Access.Exchange (cell_in z.layout t (cell_of k.mutex)) v (taken_word v t)) (seen_events t k.mutex k.how (word k.mutex)) (seen_row t k (word k.mutex)))
      (λ found. absurd (other (eqb-true (word k.mutex) v found)))
      (λ miss. silent (Row.Takes k v) (seen_row t k (word k.mutex)) _ (Access.Exchange (cell_in z.layout t (cell_of k.mutex)) v (taken_word v t)) (record { awake = λ a. refl; slept = λ a. refl; turns = λ d a. refl }) (to_look k.mutex k k.how refl may there about) (missed_there (cell_of k.mutex) v (taken_word v t) may.inside other))
  deciding_row (Row.Marks k v n) there about (may, other) = by_test (AreEvents x t c (Row.Marks k v n)) (word k.mutex == v)
      (makes (Access.Exchange (cell_in z.layout t (cell_of k.mutex)) v (waiting_word v)) (marked_events x t c k k.how) (marked_row x t c k k.how v n)) (missed x t c (Access.Exchange (cell_in z.layout t (cell_of k.mutex)) v (waiting_word v)) k k.how (word k.mutex))
      (λ found. absurd (other (eqb-true (word k.mutex) v found)))
      (λ miss. missed_so k v (waiting_word v) n k.how may other there about)
  deciding_row (Row.TryTakes m v) (p, is, phase) about (may, other) = by_test (AreEvents x t c (Row.TryTakes m v)) (word m == v)
      (makes (Access.Exchange (cell_in z.layout t (cell_of m)) v (taken_word v t)) (Step t ∷ Step t ∷ []) (Row.Links m (acquired (fields_of v))))
      (if is_free (word m) then makes (Access.Exchange (cell_in z.layout t (cell_of m)) v (taken_word v t)) [] (Row.TryTakes m (word m)) else makes (Access.Exchange (cell_in z.layout t (cell_of m)) v (taken_word v t)) (Step t ∷ []) (Row.Clears m (if (fields_of (word m)).unusable then ENOTRECOVERABLE else EBUSY)))
      (λ found. absurd (other (eqb-true (word m) v found)))
      (λ miss. by_test (AreEvents x t c (Row.TryTakes m v)) (is_free (word m))
      (makes (Access.Exchange (cell_in z.layout t (cell_of m)) v (taken_word v t)) [] (Row.TryTakes m (word m))) (makes (Access.Exchange (cell_in z.layout t (cell_of m)) v (taken_word v t)) (Step t ∷ []) (Row.Clears m (if (fields_of (word m)).unusable then ENOTRECOVERABLE else EBUSY)))
      (λ free. silent (Row.TryTakes m v) (Row.TryTakes m (word m)) [] (Access.Exchange (cell_in z.layout t (cell_of m)) v (taken_word v t)) (record { awake = λ a. refl; slept = λ a. refl; turns = λ d a. refl }) (_, stays z t _ invz is) (missed_there (cell_of m) v (taken_word v t) may.inside other))
      (λ owned. silent (Row.TryTakes m v) (Row.Clears m (if (fields_of (word m)).unusable then ENOTRECOVERABLE else EBUSY)) (Step t ∷ []) (Access.Exchange (cell_in z.layout t (cell_of m)) v (taken_word v t)) (record { awake = λ a. refl; slept = λ a. refl; turns = λ d a. refl }) (tries (cell_of m) p is phase may.inside) (missed_there (cell_of m) v (taken_word v t) may.inside other)))
    where
      tries : (k : ℕ) (p : Whole) → (z.threads t).stage ≡ Calling (OnMutex (TryLock k)) p → p.phase ≡ AtCell (load_of false) → k < z.layout.mutexes → Silent (Step t ∷ [])
      tries k p is phase inside = let a = is_at z t (OnMutex (TryLock k)) p k (AtCell (load_of false)) invz at.first at.last is phase refl in
          looks_more z t at.first at.last invz.layout [] z.words z.queues (z.threads t).held k (OnMutex (TryLock k)) operation.TryLock at.out inside false (stays z t (Calling (OnMutex (TryLock k)) (call_at z.layout t operation.TryLock k (AtCell (load_of false)))) invz a.there)
  deciding_row (Row.SlotTakes k g) (p, is, phase) about (inside, other) = by_test (AreEvents x t c (Row.SlotTakes k g)) (at_slot == g)
      (makes (Access.Exchange (cell_in z.layout t (slot_of k.mutex)) g (taken_word g t)) (Step t ∷ Step t ∷ []) (Row.SlotLinks k (fields_of g).died))
      (if (fields_of at_slot).owner == 0 then makes (Access.Exchange (cell_in z.layout t (slot_of k.mutex)) g (taken_word g t)) [] (Row.SlotTakes k at_slot) else makes (Access.Exchange (cell_in z.layout t (slot_of k.mutex)) g (taken_word g t)) (Step t ∷ []) (Row.SlotLeft k))
      (λ found. absurd (other (eqb-true at_slot g found)))
      (λ miss. by_test (AreEvents x t c (Row.SlotTakes k g)) ((fields_of at_slot).owner == 0)
      (makes (Access.Exchange (cell_in z.layout t (slot_of k.mutex)) g (taken_word g t)) [] (Row.SlotTakes k at_slot)) (makes (Access.Exchange (cell_in z.layout t (slot_of k.mutex)) g (taken_word g t)) (Step t ∷ []) (Row.SlotLeft k))
      (λ free. silent (Row.SlotTakes k g) (Row.SlotTakes k at_slot) [] (Access.Exchange (cell_in z.layout t (slot_of k.mutex)) g (taken_word g t)) (record { awake = λ a. refl; slept = λ a. refl; turns = λ d a. refl }) (_, stays z t _ invz is) (missed_there (slot_of k.mutex) g (taken_word g t) inside other))
      (λ owned. silent (Row.SlotTakes k g) (Row.SlotLeft k) (Step t ∷ []) (Access.Exchange (cell_in z.layout t (slot_of k.mutex)) g (taken_word g t)) (record { awake = λ a. refl; slept = λ a. refl; turns = λ d a. refl }) tries (missed_there (slot_of k.mutex) g (taken_word g t) inside other)))
    where
      at_slot : ℕ
      at_slot = shown x (cell_place z.layout (slot_of k.mutex))

      tries : Silent (Step t ∷ [])
      tries = let a = is_at z t (OnMutex (TryLock (slot_of k.mutex))) p (slot_of k.mutex) (AtCell (load_of false)) invz at.first at.last is phase refl in
          looks_more z t at.first at.last invz.layout [] z.words z.queues (z.threads t).held (slot_of k.mutex) (OnMutex (TryLock (slot_of k.mutex))) operation.TryLock at.out inside false (stays z t (Calling (OnMutex (TryLock (slot_of k.mutex))) (call_at z.layout t operation.TryLock (slot_of k.mutex) (AtCell (load_of false)))) invz a.there)
  deciding_row r there about deciding = absurd deciding

pub deciding_looks : DecidingLooksAreEvents
deciding_looks x t c at deciding = let both = deciding_row x t c at (x.rows t) at.there at.about deciding in record { words = both.0; queues = both.1 }
