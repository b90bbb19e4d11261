-- A state that stands for a trace has one after it that stands for the trace with one more line.
use Rattle.std.proofs.Common.{◌≡◌, ◌≢◌, ℕ, ◌<◌, ◌==◌, ◌⊎◌, inl, inr, Bool, true, false, ◌&&◌, nat_le, List, ◌∷◌, length, refl, sym, ap, subst, ◌∙◌, arith, get_or-set_same, get_or-set_other, length-set, MatchBool}
use Rattle.std.specs.Prelude.{if◌then◌else◌, Option, Some, None, Contains, slice_set}
use Rattle.std.proofs.lemmas.Bool.Decides.{nat_tests}
use Rattle.lockword.specs.declared.reply.Reply.{Reply}
use Rattle.lockword.specs.declared.reply.Reply.TheVariants.{OK, EPERM, EBUSY, EINVAL, EDEADLK, ETIMEDOUT, EOWNERDEAD, ENOTRECOVERABLE, XRACED, XHELD, XFULL, XSTATE}
use Rattle.posixmutex.specs.declared.object.Object.{Object}
use Rattle.posixmutex.specs.declared.point.Decision.{Decision}
use Rattle.posixmutex.specs.declared.point.Operation.{Operation}
use Rattle.posixmutex.specs.declared.point.Operation.TheVariants.{Lock, TryLock, TimedLock, Unlock, Consistent, Wait, Signal, Broadcast, Death, Reinit}
use Rattle.posixmutex.specs.Objects.{Does, Permits, acquires, stepped}
use Rattle.facts.specs.declared.fact.Line.{Line}
use Rattle.facts.specs.Facts.{decides, thread_of}
use Rattle.verdict.specs.declared.stage.Made.{Made as TheirMade}
use Rattle.verdict.specs.declared.stage.Made.TheVariants as made
use Rattle.verdict.specs.declared.stage.Stage.{Stage}
use Rattle.verdict.specs.declared.stage.Stage.TheVariants as stage
use Rattle.verdict.specs.Earlier.{moved, objects_after}
use Rattle.verdict.specs.Stages.{May, next}
use Rattle.refuting.specs.declared.state.Call.{Call}
use Rattle.refuting.specs.declared.state.State.{State}
use Rattle.refuting.specs.declared.turn.Turn.{Turn}
use Rattle.refuting.specs.States.{ids, Covered, Covers, HasAll, call_at, first_call}
use Rattle.refuting.specs.Following.{Goes, HasCome, HaveWaited, IsOpen, StandsFor, stage_after}
use Rattle.refuting.specs.Turns.{reply_of, turn_at}
use Rattle.refuting.proofs.Waiting.{Setting, carried, decided_on, own_carried, waits_on}

-- ---- what covers a state stands for what it does

come_on : (a : Operation) (m : TheirMade) (x : Option Reply) (c d : Call) → HasCome a m x c → HasAll d c → HasCome a m x d
come_on a made.Nothing x c d h all = all.0 ∙ h
come_on a made.Released x c d h all = all.0 ∙ h
come_on a (made.Decided y) x c d (inl h) all = inl (all.0 ∙ h)
come_on a (made.Decided y) x c d (inr h) all = inr (subst IsOpen (sym all.0) h.0, λ z may is. all.1 (h.1 z may is))

pub goes_on : (m : ℕ) (s : Stage) (turn : Turn) (c d : Call) → Goes m s turn c → HasAll d c → Goes m s turn d
goes_on m (stage.Calling k made z) turn c d h all = λ on. come_on k.operation made (reply_of turn) c d (h on) all
goes_on m s turn c d h all = tt

pub stands_on : (m : ℕ) (ts : List Turn) (es : List Line) (r s : State) → Covers r s → StandsFor m ts es s → StandsFor m ts es r
stands_on m ts es r s cov h = record {
  object = cov.object ∙ h.object;
  long = cov.long ∙ h.long;
  calls = λ t. goes_on m (stage_after t es) (turn_at ts t) (call_at s.calls t) (call_at r.calls t) (h.calls t) (cov.calls t);
}

-- ---- one line: its own thread, and the others

pub lift : (m : ℕ) (ts us : List Turn) (cs ds : List Call) (e : Line) (es : List Line)
    → ((u : ℕ) → Goes m (stage_after u es) (turn_at ts u) (call_at cs u))
    → ((u : ℕ) → u ≢ thread_of e.fact → call_at ds u ≡ call_at cs u)
    → ((u : ℕ) → u ≢ thread_of e.fact → turn_at us u ≡ turn_at ts u)
    → Goes m (next (stage_after (thread_of e.fact) es) e.fact) (turn_at us (thread_of e.fact)) (call_at ds (thread_of e.fact))
    → (u : ℕ) → Goes m (stage_after u (e ∷ es)) (turn_at us u) (call_at ds u)
lift m ts us cs ds e es old calls turns own u = by_cases (thread_of e.fact == u) refl where
  by_cases : (b : Bool) → (thread_of e.fact == u) ≡ b → Goes m (if b then next (stage_after u es) e.fact else stage_after u es) (turn_at us u) (call_at ds u)
  by_cases true is =
      let same : thread_of e.fact ≡ u = grind (arith, nat_tests) in
      subst (λ v. Goes m (next (stage_after v es) e.fact) (turn_at us v) (call_at ds v)) same own
  by_cases false is =
      let other : u ≢ thread_of e.fact = grind (arith, nat_tests) in
      subst (λ turn. Goes m (stage_after u es) turn (call_at ds u)) (sym (turns u other))
      (subst (Goes m (stage_after u es) (turn_at ts u)) (sym (calls u other)) (old u))

-- what a step makes of the mutex
pub moved_here : (os : ℕ → Object) (d : Decision) (m : ℕ) → d.mutex ≡ m → moved os (Some d) m ≡ stepped (os m) d.thread d.operation d.reply
moved_here os d m same = by_cases (m == d.mutex) refl where
  by_cases : (b : Bool) → (m == d.mutex) ≡ b → (if b then stepped (os m) d.thread d.operation d.reply else os m) ≡ stepped (os m) d.thread d.operation d.reply
  by_cases true is = refl
  by_cases false is = let other : m ≢ d.mutex = grind (arith, nat_tests) in absurd (other (sym same))

pub moved_there : (os : ℕ → Object) (d : Decision) (m : ℕ) → d.mutex ≢ m → moved os (Some d) m ≡ os m
moved_there os d m other = by_cases (m == d.mutex) refl where
  by_cases : (b : Bool) → (m == d.mutex) ≡ b → (if b then stepped (os m) d.thread d.operation d.reply else os m) ≡ os m
  by_cases true is = let same : m ≡ d.mutex = grind (arith, nat_tests) in absurd (other (sym same))
  by_cases false is = refl

pub same_or_not : (a b : ℕ) → (a ≡ b) ⊎ (a ≢ b)
same_or_not a b = by_cases (a == b) refl where
  by_cases : (t : Bool) → (a == b) ≡ t → (a ≡ b) ⊎ (a ≢ b)
  by_cases true is = inl (grind (arith, nat_tests))
  by_cases false is = inr (grind (arith, nat_tests))

-- ---- objects

same_owner : (a b : Option ℕ) → (a ≡ b) ⊎ (a ≢ b)
same_owner None None = inl refl
same_owner None (Some b) = inr (λ e. absurd cc)
same_owner (Some a) None = inr (λ e. absurd cc)
same_owner (Some a) (Some b) = by_cases (same_or_not a b) where
  by_cases : (a ≡ b) ⊎ (a ≢ b) → (Some a ≡ Some b) ⊎ (Some a ≢ Some b)
  by_cases (inl e) = inl (ap Some e)
  by_cases (inr e) = inr (λ x. let y : a ≡ b = cc in absurd (e y))

same_flag : (a b : Bool) → (a ≡ b) ⊎ (a ≢ b)
same_flag true true = inl refl
same_flag false false = inl refl
same_flag true false = inr (λ e. absurd cc)
same_flag false true = inr (λ e. absurd cc)

pub same_object : (a b : Object) → (a ≡ b) ⊎ (a ≢ b)
same_object a b = by_cases (same_owner a.owner b.owner) (same_flag a.inconsistent b.inconsistent) (same_flag a.unusable b.unusable) where
  by_cases : (a.owner ≡ b.owner) ⊎ (a.owner ≢ b.owner) → (a.inconsistent ≡ b.inconsistent) ⊎ (a.inconsistent ≢ b.inconsistent) → (a.unusable ≡ b.unusable) ⊎ (a.unusable ≢ b.unusable) → (a ≡ b) ⊎ (a ≢ b)
  by_cases (inl x) (inl y) (inl z) = inl (ap (λ o. record { owner = o; inconsistent = a.inconsistent; unusable = a.unusable }) x ∙ ap (λ i. record { owner = b.owner; inconsistent = i; unusable = a.unusable }) y ∙ ap (λ u. record { owner = b.owner; inconsistent = b.inconsistent; unusable = u }) z)
  by_cases (inr x) y z = inr (λ e. x (ap (λ (o : Object). o.owner) e))
  by_cases x (inr y) z = inr (λ e. y (ap (λ (o : Object). o.inconsistent) e))
  by_cases x y (inr z) = inr (λ e. z (ap (λ (o : Object). o.unusable) e))

-- who changes a mutex gets OK, or of its owner's death
pub changes_tell : (o : Object) (t : ℕ) (op : Operation) (x : Reply) (n : Object) → Permits o t op x n → n ≢ o → (x ≡ OK) ⊎ (x ≡ EOWNERDEAD)
changes_tell o t Lock OK n h ne = inl refl
changes_tell o t Lock EOWNERDEAD n h ne = inr refl
changes_tell o t TryLock OK n h ne = inl refl
changes_tell o t TryLock EOWNERDEAD n h ne = inr refl
changes_tell o t Unlock OK n h ne = inl refl
changes_tell o t Consistent OK n h ne = inl refl
changes_tell o t Signal OK n h ne = inl refl
changes_tell o t Broadcast OK n h ne = inl refl
changes_tell o t Death OK n h ne = inl refl
changes_tell o t Reinit OK n h ne = inl refl
changes_tell o t Lock ENOTRECOVERABLE n h ne = absurd (ne h.1)
changes_tell o t Lock EDEADLK n h ne = absurd (ne h.1)
changes_tell o t TryLock ENOTRECOVERABLE n h ne = absurd (ne h.1)
changes_tell o t TryLock EBUSY n h ne = absurd (ne h.1)
changes_tell o t TryLock XRACED n h ne = absurd (ne h.2)
changes_tell o t TimedLock ETIMEDOUT n h ne = absurd (ne h)
changes_tell o t Unlock EPERM n h ne = absurd (ne h.1)
changes_tell o t Consistent EINVAL n h ne = absurd (ne h.2)
changes_tell o t Consistent EPERM n h ne = absurd (ne h.1)
changes_tell o t Wait XSTATE n h ne = absurd (ne h.2)
changes_tell o t Wait EPERM n h ne = absurd (ne h.1)
changes_tell o t Signal XFULL n h ne = absurd (ne h.1)
changes_tell o t Signal EPERM n h ne = absurd (ne h.1)
changes_tell o t Broadcast XFULL n h ne = absurd (ne h.1)
changes_tell o t Broadcast EPERM n h ne = absurd (ne h.1)
changes_tell o t op x n h ne = absurd h

-- a wait's own point changes nothing
pub waits_still : (o : Object) (t : ℕ) (x : Reply) (n : Object) → Permits o t Wait x n → n ≡ o
waits_still o t XSTATE n h = h.2
waits_still o t EPERM n h = h.1
waits_still o t x n h = absurd h

-- what changes a mutex may be done by who holds none
pub held_no_more : (held : ℕ) (o : Object) (t : ℕ) (op : Operation) (x : Reply) (n : Object) → Does held o t op x n → n ≢ o → Permits o t op x n × Does 0 o t op x n
held_no_more held o t op x n h ne = by_cases (acquires op && nat_le 2048 held) h where
  none_held : (a : Bool) → Permits o t op x n → MatchBool (a && nat_le 2048 0) ((x ≡ XHELD) × (n ≡ o)) (Permits o t op x n)
  none_held true p = p
  none_held false p = p

  by_cases : (b : Bool) → MatchBool b ((x ≡ XHELD) × (n ≡ o)) (Permits o t op x n) → Permits o t op x n × Does 0 o t op x n
  by_cases true g = absurd (ne g.1)
  by_cases false p = (p, none_held (acquires op) p)

-- ---- lines that nobody sees

-- some state stands for the trace
pub record Stood (m : ℕ) (ts : List Turn) (ss : List State) (es : List Line) : Type 0 where
  pub state : State
  pub there : Contains ss state
  pub stands : StandsFor m ts es state
  pub waits : HaveWaited m ts es state

-- what a thread makes of a state by a change stands for what it makes of the trace
pub own_change : (m : ℕ) (ts : List Turn) (ss : List State) (d : ℕ → Bool) (e : Line) (es : List Line) (s : State) (c : Call) (o : Object) → Setting m ts ts ss d s e es → May (stage_after (thread_of e.fact) es) e.fact → decides e.fact ≡ true
    → StandsFor m ts es s → o ≡ objects_after (e ∷ es) m → thread_of e.fact < ids
    → Goes m (next (stage_after (thread_of e.fact) es) e.fact) (turn_at ts (thread_of e.fact)) c
    → Covered ss (record { object = o; calls = slice_set s.calls (thread_of e.fact) c }) → Stood m ts ss (e ∷ es)
own_change m ts ss d e es s c o x may does h object inside own cov = record {
  state = cov.0;
  there = cov.1;
  stands = stands;
  waits = waits_on m ts ts ss d s cov.0 e es x cov.1 stands (carried ts ts s cov.0 e es (λ u other. (refl, λ seen. (cov.2.calls u).1 (ap (λ (k : Call). k.seen) (there u other) ∙ seen))) (λ k z after old. absurd (decided_on (stage_after t es) e.fact k z may does after)));
} where
  t : ℕ
  t = thread_of e.fact

  lt : t < length s.calls
  lt = omega (arith, inside, h.long)

  here : call_at (slice_set s.calls t c) t ≡ c
  here = get_or-set_same s.calls t c first_call lt

  there : (u : ℕ) → u ≢ t → call_at (slice_set s.calls t c) u ≡ call_at s.calls u
  there u other = get_or-set_other s.calls t u c first_call other

  stands : StandsFor m ts (e ∷ es) cov.0
  stands = stands_on m ts (e ∷ es) cov.0 (record { object = o; calls = slice_set s.calls t c }) cov.2 (record {
    object = object;
    long = length-set s.calls t c ∙ h.long;
    calls = lift m ts ts s.calls (slice_set s.calls t c) e es h.calls there (λ u other. refl) (subst (Goes m (next (stage_after t es) e.fact) (turn_at ts t)) (sym here) own);
  })

-- a line that leaves the mutex and its thread's call as they were
pub no_change : (m : ℕ) (ts : List Turn) (ss : List State) (d : ℕ → Bool) (e : Line) (es : List Line) (s : State) → Setting m ts ts ss d s e es → Contains ss s
    → StandsFor m ts es s → objects_after (e ∷ es) m ≡ objects_after es m
    → Goes m (next (stage_after (thread_of e.fact) es) e.fact) (turn_at ts (thread_of e.fact)) (call_at s.calls (thread_of e.fact)) → Stood m ts ss (e ∷ es)
no_change m ts ss d e es s x has h object own = record {
  state = s;
  there = has;
  stands = stands;
  waits = waits_on m ts ts ss d s s e es x has stands (carried ts ts s s e es (λ u other. (refl, λ seen. seen)) (own_carried ts s e es));
} where
  stands : StandsFor m ts (e ∷ es) s
  stands = record {
    object = h.object ∙ sym object;
    long = h.long;
    calls = lift m ts ts s.calls s.calls e es h.calls (λ u other. refl) (λ u other. refl) own;
  }
