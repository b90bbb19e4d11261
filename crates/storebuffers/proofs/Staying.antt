-- Whose mutex it is stays, whatever another thread does, and whatever its owner does but a release.
use Rattle.std.proofs.Common.{◌≡◌, ◌≢◌, ⊎_elim, ℕ, Option, Some, None, sym, ap, ◌∙◌}
use Rattle.lockword.specs.declared.reply.Reply.{Reply}
use Rattle.posixmutex.specs.declared.object.Object.{Object}
use Rattle.posixmutex.proofs.Objects.{others_keep}
use Rattle.protocol.specs.declared.event.Event.{Event}
use Rattle.protocol.specs.Machine.{State, After, happens, begun}
use Rattle.protocol.specs.Headline.{seen}
use Rattle.protocol.proofs.Kept.{Kept}
use Rattle.protocol.proofs.Steps.{Tells, Transition, after}
use Rattle.protocol.proofs.Stepping.{Stepping}
use Rattle.protocol.proofs.Events.{by_event}
use Rattle.protocol.proofs.Working.{by_step}
use Rattle.protocol.proofs.Renewals.{renewed_seen}
use Rattle.protocol.specs.Machine.{reinited}
use Rattle.memorymap.specs.Layouts.{cell_place}
use Rattle.protocol.specs.Reinits.{MayRemake}
use Rattle.protocol.proofs.Reinits.{Says_nothing, waiters_say_nothing, unowned, reinited_far}
use Rattle.storebuffers.proofs.Stores.{same_or_not}
use Rattle.std.proofs.Common.{ℕ, ◌≤◌, true, refl, subst, arith}
use Rattle.lockword.specs.declared.reply.Reply.TheVariants.{OK}
use Rattle.stepprograms.specs.declared.access.Access.{Access}
use Rattle.stepprograms.specs.declared.access.Answer.{Answer}
use Rattle.posixmutex.specs.declared.point.Operation.{Operation}
use Rattle.posixmutex.specs.declared.point.Operation.TheVariants as operation
use Rattle.posixmutex.specs.Objects.{Permits}
use Rattle.memorymap.specs.Layouts.{Layout'}
use Rattle.mutex.specs.Standings.{Whole}
use Rattle.mutex.specs.declared.phase.Phase.{Phase}
use Rattle.mutex.specs.declared.phase.Phase.TheVariants.{Announcing, AtCell, Linking, Unlinking, Clearing, Ended}
use Rattle.mutex.specs.declared.row.Row.{Row}
use Rattle.mutex.specs.Programs.{row_access, resume_of, row_operation}
use Rattle.mutex.specs.Whole.{phase_access, phase_led, whole_access, whole_led}
use Rattle.condvar.specs.declared.call.CondCall.{CondCall}
use Rattle.condvar.specs.declared.row.CondRow.{CondRow}
use Rattle.condvar.specs.Standings.{CondWhole}
use Rattle.condvar.specs.Programs.{point_of}
use Rattle.condvar.specs.Programs.{row_access as cond_row_access, resume_of as cond_resume_of}
use Rattle.condvar.specs.Calls.{acts_as}
use Rattle.condvar.specs.Whole.{cond_access, cond_led}
use Rattle.exitwalk.specs.Standings as walks
use Rattle.protocol.specs.declared.event.Event.TheVariants.{Begin, Step}
use Rattle.protocol.specs.declared.thread.Stage.TheVariants.{Calling, AtCondition, Dying}
use Rattle.condvar.specs.Ops.{mutex_of}
use Rattle.condvar.specs.declared.op.Op.TheVariants.{OnCondition}
use Rattle.protocol.specs.Machine.{went, led, led_at, answer_of, decided_at, reply_at, is_alive}
use Rattle.protocol.proofs.Kept.{InPhase}
use Rattle.protocol.proofs.Phases.{IsPlain, link_plain, unlink_plain}
use Rattle.protocol.proofs.Events.{by_stage}
use Rattle.protocol.proofs.Accesses.{goes, fits_in}
use Rattle.protocol.proofs.CallSteps.{call_stepping}
use Rattle.protocol.proofs.CondAccesses.{by_access, cond_stepping}
use Rattle.protocol.proofs.Steps.{call_step, cond_step, went-is}
use Rattle.facts.specs.declared.fact.Queue.TheVariants.{Mutex, Condition}
use Rattle.condvar.specs.Calls.{condition_of}
use Rattle.storebuffers.specs.Buffers.{Way, way, way_at, way_of}
use Rattle.storebuffers.specs.Buffers.Way.{Writes}
use Rattle.std.proofs.Common.{Result, Ok, Err}
use Rattle.condvar.specs.declared.op.Op.{Op}
use Rattle.protocol.specs.declared.thread.Stage.{Stage}
use Rattle.protocol.specs.Explained.{caller}

abbrev pub StaysIn : State → ℕ → State → Type 0
StaysIn s t s' = (u k : ℕ) → t ≢ u → (seen s k).owner ≡ Some u → (seen s' k).owner ≡ Some u

abbrev OwnerStays : State → Event → After → Type 0
OwnerStays s e a = StaysIn s (caller e) a.state

of_step : (s : State) (t : ℕ) (v : Transition) → Stepping s t v → StaysIn s t (after s t v)
of_step s t v step u k apart own = ⊎_elim
    (λ is. at_mutex is v.point step.tells)
    (λ other. ap (λ (o : Object). o.owner) (step.far k other) ∙ own)
    (same_or_not k v.mutex)
  where
    at_mutex : k ≡ v.mutex → (x : Option Reply) → Tells t (seen s v.mutex) v.operation x (seen (after s t v) v.mutex) → (seen (after s t v) k).owner ≡ Some u
    at_mutex is None same = ap (λ (j : ℕ). (seen (after s t v) j).owner) is ∙ ap (λ (o : Object). o.owner) same ∙ sym (ap (λ (j : ℕ). (seen s j).owner) is) ∙ own
    at_mutex is (Some x) permits =
        let owned : (seen s v.mutex).owner ≡ Some u = sym (ap (λ (j : ℕ). (seen s j).owner) is) ∙ own in
        ap (λ (j : ℕ). (seen (after s t v) j).owner) is ∙ ap (λ (o : Object). o.owner) (others_keep (seen s v.mutex) (seen (after s t v) v.mutex) t u v.operation x owned apart permits) ∙ owned

by_refusal_of : (s : State) (t : ℕ) (o : Op) (r : Result Stage Reply) (u k : ℕ) → (seen s k).owner ≡ Some u → (seen (begun s t o r).state k).owner ≡ Some u
by_refusal_of s t o (Ok g) u k own = own
by_refusal_of s t o (Err x) u k own = own

-- a mutex that is reinitialised was nobody's
anew_stays : (s : State) → Kept s → (t m w : ℕ) → Says_nothing w → MayRemake s t m → (k u : ℕ) → (seen s k).owner ≡ Some u → (seen (reinited s t m w).state k).owner ≡ Some u
anew_stays s inv t m w says may k u own = ⊎_elim
    (λ is. absurd (cc (sym own ∙ ap (λ (j : ℕ). (seen s j).owner) is ∙ unowned s t m w says may inv)))
    (λ other. ap (λ (o : Object). o.owner) (reinited_far s t m w says may k other) ∙ own)
    (same_or_not k m)

pub owner_stays : (s : State) (e : Event) → Kept s → OwnerStays s e (happens s e)
owner_stays s e inv = by_event s (OwnerStays s)
    (λ e u k apart own. own)
    (λ t o pos known named resting b is u k apart own. by_refusal_of s t o _ u k own)
    (λ t pos known. by_step s t inv pos known (λ (a : After). StaysIn s t a.state) (λ rests u k apart own. own) (λ v n is awake step noted. of_step s t v step))
    (λ t pos known alive u k apart own. own)
    (λ t pos known asleep u k apart own. own)
    (λ t m p pos known is asleep may u k apart own. own)
    (λ t k x p pos known is waits u j apart own. own)
    (λ t o p pos known is awake trims u k apart own. own)
    (λ t pos known is u k apart own. ap (λ (o : Object). o.owner) (renewed_seen s t pos known k) ∙ own)
    (λ t m may u k apart own. anew_stays s inv t m _ (waiters_say_nothing (s.words (cell_place s.layout m))) may k _ own)
    (λ t m g is u k apart own. own)
    e

-- ---- what a thread's own event leaves it

-- a word is written in memory, whatever waits
abbrev pub IsWritten : Way → Type 0
IsWritten (Writes at) = Unit {0}
IsWritten y = ⊥

-- whoever decides so with this reply owns the mutex no more
abbrev Loses : Operation → Reply → Type 0
Loses operation.Unlock OK = Unit {0}
Loses operation.Death OK = Unit {0}
Loses op x = ⊥

owner_keeps : (o n : Object) (t : ℕ) (op : Operation) (x : Reply) → o.owner ≡ Some t → (Loses op x → ⊥) → Permits o t op x n → n.owner ≡ Some t
owner_keeps o n t op x own keeps permits = grind (arith)

abbrev pub StaysOwn : State → ℕ → State → Type 0
StaysOwn s t s' = (k : ℕ) → (seen s k).owner ≡ Some t → (seen s' k).owner ≡ Some t

by_own_step : (s : State) (t : ℕ) (v : Transition) → Stepping s t v → ((x : Reply) → v.point ≡ Some x → Loses v.operation x → ⊥) → StaysOwn s t (after s t v)
by_own_step s t v step keeps k own = ⊎_elim
    (λ is. at_mutex is v.point refl step.tells)
    (λ other. ap (λ (o : Object). o.owner) (step.far k other) ∙ own)
    (same_or_not k v.mutex)
  where
    at_mutex : k ≡ v.mutex → (x : Option Reply) → v.point ≡ x → Tells t (seen s v.mutex) v.operation x (seen (after s t v) v.mutex) → (seen (after s t v) k).owner ≡ Some t
    at_mutex is None none same = ap (λ (j : ℕ). (seen (after s t v) j).owner) is ∙ ap (λ (o : Object). o.owner) same ∙ sym (ap (λ (j : ℕ). (seen s j).owner) is) ∙ own
    at_mutex is (Some x) point permits =
        ap (λ (j : ℕ). (seen (after s t v) j).owner) is
        ∙ owner_keeps (seen s v.mutex) (seen (after s t v) v.mutex) t v.operation x (sym (ap (λ (j : ℕ). (seen s j).owner) is) ∙ own) (keeps x point) permits

-- of the accesses that write in memory none is a release
row_keeps : (l : Layout') (u t cell : ℕ) (r : Row) (a : Answer) (x : Reply) → IsWritten (way_of l u (row_access t cell r)) → (resume_of t r a).point ≡ Some x → Loses (row_operation r) x → ⊥
row_keeps l u t cell r a x written point loses = grind (arith)

condition_keeps : (l : Layout') (u t cell counter : ℕ) (r : CondRow) (a : Answer) (op : Operation) (x : Reply) → IsWritten (way_of l u (cond_row_access t cell counter r))
    → reply_at (point_of t cell (cond_resume_of t r a).decided) ≡ Some x → Loses (decided_at op (point_of t cell (cond_resume_of t r a).decided)) x → ⊥
condition_keeps l u t cell counter r a op x written point loses = grind (arith)

plain_unwritten : (l : Layout') (u : ℕ) (a : Access) → IsPlain a → IsWritten (way_of l u a) → ⊥
plain_unwritten l u a plain written = grind (arith)

-- a call on a mutex, in whatever phase it is
call_keeps : (l : Layout') (u held : ℕ) (p : Whole) (f : Phase) (o : Object) → InPhase u held p f o → IsWritten (way_of l u (phase_access p f)) → (a : Answer) (x : Reply) → (phase_led p f a).point ≡ Some x → Loses p.operation x → ⊥
call_keeps l u held p (Announcing r) o stands written a x point loses = plain_unwritten l u (phase_access p (Announcing r)) tt written
call_keeps l u held p (AtCell r) o stands written a x point loses = row_keeps l u p.thread p.cell r a x written point (subst (λ (op : Operation). Loses op x) (sym stands.of) loses)
call_keeps l u held p (Linking k y) o stands written a x point loses = plain_unwritten l u (phase_access p (Linking k y)) (link_plain k.head k.entry k.row) written
call_keeps l u held p (Unlinking k d) o stands written a x point loses = plain_unwritten l u (phase_access p (Unlinking k d)) (unlink_plain k.head k.entry k.row) written
call_keeps l u held p (Clearing y) o stands written a x point loses = plain_unwritten l u (phase_access p (Clearing y)) tt written
call_keeps l u held p (Ended y) o stands written a x point loses = absurd stands

-- what thread t owns it owns after its event, if that writes in memory and t lives
abbrev pub OwnStays : State → Event → After → Type 0
OwnStays s e a = IsWritten (way s e a.note) → is_alive (s.threads (caller e)).stage ≡ true → StaysOwn s (caller e) a.state

module _ (s : State) (t : ℕ) (inv : Kept s) (pos : 1 ≤ t) (known : t ≤ s.layout.threads) where
  written_at : (g : Stage) → (s.threads t).stage ≡ g → IsWritten (way_at s.layout t (s.threads t).stage) → IsWritten (way_at s.layout t g)
  written_at g is written = subst (λ (h : Stage). IsWritten (way_at s.layout t h)) is written

  of_call : (o : Op) (p : Whole) → (s.threads t).stage ≡ Calling o p → IsWritten (way_at s.layout t (s.threads t).stage)
      → StaysOwn s t (went s t (s.threads t).held (mutex_of s.layout o) (Mutex (mutex_of s.layout o)) (whole_access p) (led o p (whole_led p (answer_of s t (whole_access p))))).state
  of_call o p is written =
      let fits = fits_in s t o p inv pos known is in
      let step = call_stepping s t o p (goes s t o p inv pos known is) fits.0 in
      subst (λ (a : After). StaysOwn s t a.state) (sym (went-is s t (mutex_of s.layout o) (Mutex (mutex_of s.layout o)) (Calling o p) (whole_access p) (λ a. led o p (whole_led p a)) step.valid))
      (by_own_step s t (call_step s t o p) step (λ x point loses. call_keeps s.layout t (s.threads t).held p p.phase (seen s (mutex_of s.layout o)) fits.0.stands (written_at (Calling o p) is written) _ x point loses))

  of_condition : (c : CondCall) (p : CondWhole) → (s.threads t).stage ≡ AtCondition c p → IsWritten (way_at s.layout t (s.threads t).stage)
      → StaysOwn s t (went s t (s.threads t).held (mutex_of s.layout (OnCondition c)) (Condition (condition_of c)) (cond_access p) (led_at c p (cond_led p (answer_of s t (cond_access p))))).state
  of_condition c p is written =
      let step = cond_stepping s t c p inv pos known is in
      subst (λ (a : After). StaysOwn s t a.state) (sym (went-is s t (mutex_of s.layout (OnCondition c)) (Condition (condition_of c)) (AtCondition c p) (cond_access p) (λ a. led_at c p (cond_led p a)) step.valid))
      (by_own_step s t (cond_step s t c p) step (by_access s t c inv pos known
      (λ (q : CondWhole). IsWritten (way_of s.layout t (cond_access q)) → (x : Reply) → (cond_step s t c q).point ≡ Some x → Loses (cond_step s t c q).operation x → ⊥)
      (λ r fits stepping on x point loses. condition_keeps s.layout t _ _ _ r _ (acts_as c) x on point loses)
      (λ y q near on x point loses. plain_unwritten s.layout t (cond_access q) near.plain on)
      p is (written_at (AtCondition c p) is written)))

  not_dying : (w : walks.Standing) → (s.threads t).stage ≡ Dying w → is_alive (s.threads t).stage ≡ true → ⊥
  not_dying w is alive = cc (sym (ap is_alive is) ∙ alive)

begins_unwritten : (s : State) (t : ℕ) (o : Op) (r : Result Stage Reply) → IsWritten (way s (Begin t o) (begun s t o r).note) → ⊥
begins_unwritten s t o (Ok g) written = written
begins_unwritten s t o (Err x) written = written

pub own_stays : (s : State) (e : Event) → Kept s → OwnStays s e (happens s e)
own_stays s e inv = by_event s (OwnStays s)
    (λ e written. absurd written)
    (λ t o pos known named resting b is written. absurd (begins_unwritten s t o _ written))
    (λ t pos known. by_stage s t (λ (a : After). OwnStays s (Step t) a)
    (λ rests written. absurd written)
    (λ o p is awake written alive. of_call s t inv pos known o p is written)
    (λ c p is awake written alive. of_condition s t inv pos known c p is written)
    (λ w is awake written alive. absurd (not_dying s t inv pos known w is alive)))
    (λ t pos known alive written. absurd written)
    (λ t pos known asleep written. absurd written)
    (λ t m p pos known is asleep may written. absurd written)
    (λ t k x p pos known is waits written. absurd written)
    (λ t o p pos known is awake trims written. absurd written)
    (λ t pos known is written. absurd written)
    (λ t m may written alive k own. anew_stays s inv t m _ (waiters_say_nothing (s.words (cell_place s.layout m))) may k _ own)
    (λ t m g is written. absurd written)
    e
