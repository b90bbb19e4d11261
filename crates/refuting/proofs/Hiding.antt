-- A line that nobody sees leaves a state that stands for the trace.
use Rattle.std.proofs.Common.{◌≡◌, ◌≢◌, ℕ, ◌==◌, ◌⊎◌, ⊎_elim, inl, inr, nat_le, MatchBool, Bool, true, false, List, ◌∷◌, length, refl, sym, ap, subst, ◌∙◌, arith}
use Rattle.std.specs.Prelude.{if◌then◌else◌, Option, Some, None, Contains}
use Rattle.std.proofs.lemmas.Bool.Decides.{nat_tests}
use Rattle.lockword.specs.declared.reply.Reply.{Reply}
use Rattle.lockword.specs.declared.reply.Reply.TheVariants.{OK, ETIMEDOUT, EOWNERDEAD, XHELD}
use Rattle.posixmutex.specs.declared.object.Object.{Object}
use Rattle.posixmutex.specs.declared.point.Decision.{Decision}
use Rattle.posixmutex.specs.declared.point.Operation.{Operation}
use Rattle.posixmutex.specs.declared.point.Operation.TheVariants.{Lock, TimedLock, Unlock, Wait, TimedWait, Death}
use Rattle.posixmutex.specs.Histories.{held_by}
use Rattle.posixmutex.specs.Objects.{Does, Permits, stepped}
use Rattle.posixmutex.proofs.Steps.{determined}
use Rattle.facts.specs.declared.fact.Begun.{Begun}
use Rattle.facts.specs.declared.fact.Fact.TheVariants as fact
use Rattle.facts.specs.declared.fact.Queue.{Queue}
use Rattle.facts.specs.declared.fact.Line.{Line}
use Rattle.facts.specs.Lives.{IsWait, MayReturn}
use Rattle.verdict.specs.declared.stage.Made.{Made as TheirMade}
use Rattle.verdict.specs.declared.stage.Made.TheVariants as made
use Rattle.verdict.specs.declared.stage.Stage.{Stage}
use Rattle.verdict.specs.declared.stage.Stage.TheVariants as stage
use Rattle.verdict.specs.Earlier.{chances_behind, objects_after}
use Rattle.verdict.specs.Fits.{IsDue}
use Rattle.verdict.specs.Stages.{May, MayPoint, next, pointed}
use Rattle.verdict.proofs.Chances.{late_is_timed}
use Rattle.refuting.specs.declared.state.Call.{Call}
use Rattle.refuting.specs.declared.state.Made.{Made}
use Rattle.refuting.specs.declared.state.Made.TheVariants.{Nothing, Released, Changed}
use Rattle.refuting.specs.declared.state.State.{State}
use Rattle.refuting.specs.declared.turn.Turn.{Turn}
use Rattle.refuting.specs.declared.turn.Turn.TheVariants.{Resting, Calling, Dying}
use Rattle.refuting.specs.States.{ids, Covered, call_at}
use Rattle.refuting.specs.Steps.{FollowsReply, IsClosed, MayChange, MayLook, MayRelease, after_change, changed, next_change, next_look, over, told_as}
use Rattle.std.specs.Option.{is_some}
use Rattle.refuting.specs.Following.{Goes, HasCome, IsOpen, StandsFor, Waits, stage_after}
use Rattle.refuting.specs.Turns.{InCall, IsKilled, Turned, call_on, if_on, reply_of, turn_at}
use Rattle.refuting.proofs.Waiting.{HasId, Setting, busy_calling, has_id, sees_there}
use Rattle.refuting.proofs.Standing.{Stood, changes_tell, held_no_more, moved_here, moved_there, no_change, own_change, same_object, same_or_not, waits_still}

-- what is known of a state that stands for a trace
pub record Scene (m : ℕ) (ts : List Turn) (ss : List State) (es : List Line) (d : ℕ → Bool) (s : State) : Type 0 where
  pub long : length ts ≡ ids
  pub nobody : turn_at ts 0 ≡ Resting
  pub closed : IsClosed m ts ss
  pub turned : (t : ℕ) → Turned (turn_at ts t) (stage_after t es) (d t)
  pub there : Contains ss s
  pub stands : StandsFor m ts es s

-- ---- deaths

pub dying_of : (s : Stage) (t m : ℕ) → May s (fact.Death t m) → s ≡ stage.Dying
dying_of stage.Dying t m may = refl
dying_of s t m may = absurd may

record IsDying (turn : Turn) : Type 0 where
  call : Option Begun
  is : turn ≡ Dying call

killed_turn : (turn : Turn) (d : Bool) → IsKilled turn d → IsDying turn
killed_turn (Dying c) d is = record { call = c; is = refl }
killed_turn turn d is = absurd is

busy_dying : (turn : Turn) → IsDying turn → turn ≢ Resting
busy_dying turn d rests = let no : Resting ≡ Dying d.call = sym rests ∙ d.is in absurd cc

pub death_stands : (n m : ℕ) (ts : List Turn) (ss : List State) (es : List Line) (d : ℕ → Bool) (s : State) → Scene m ts ss es d s → (k t m' : ℕ) → Setting m ts ts ss d s (record { event = k; fact = fact.Death t m' }) es → May (stage_after t es) (fact.Death t m')
    → (new : Object) → Does (held_by t (objects_after es) n) (objects_after es m') t Death OK new → Stood m ts ss (record { event = k; fact = fact.Death t m' } ∷ es)
death_stands n m ts ss es d s x k t m' y may new does = by_cases (same_or_not m' m) where
  e : Line
  e = record { event = k; fact = fact.Death t m' }

  dec : Decision
  dec = record { thread = t; mutex = m'; operation = Death; reply = OK }

  dying : stage_after t es ≡ stage.Dying
  dying = dying_of (stage_after t es) t m' may

  own : (c : Call) → Goes m (next (stage_after t es) (fact.Death t m')) (turn_at ts t) c
  own c = subst (λ z. Goes m (next z (fact.Death t m')) (turn_at ts t) c) (sym dying) tt

  turn : IsDying (turn_at ts t)
  turn = killed_turn (turn_at ts t) (d t) (subst (λ z. Turned (turn_at ts t) z (d t)) dying (x.turned t))

  id : HasId ts t
  id = has_id ts t x.long x.nobody (busy_dying (turn_at ts t) turn)

  by_cases : (m' ≡ m) ⊎ (m' ≢ m) → Stood m ts ss (record { event = k; fact = fact.Death t m' } ∷ es)
  by_cases (inl same) =
      let here : objects_after es m' ≡ s.object = ap (objects_after es) same ∙ sym x.stands.object in
      let its : Does 0 s.object t Death OK new = subst (λ o. Does 0 o t Death OK new) here does in
      let object : new ≡ objects_after (e ∷ es) m = determined 0 s.object t Death OK new its ∙ ap (λ o. stepped o t Death OK) x.stands.object ∙ sym (moved_here (objects_after es) dec m same) in
      own_change m ts ss d e es s (over (is_some turn.call)) new y may refl x.stands object id.last (own (over (is_some turn.call))) ((x.closed.followed s x.there t id.first).dies turn.call new turn.is its)
  by_cases (inr other) = no_change m ts ss d e es s y x.there x.stands (moved_there (objects_after es) dec m other) (own (call_at s.calls t))

-- ---- sleep

pub sleep_stands : (m : ℕ) (ts : List Turn) (ss : List State) (es : List Line) (d : ℕ → Bool) (s : State) → Scene m ts ss es d s → (k t : ℕ) (q : Queue) → Setting m ts ts ss d s (record { event = k; fact = fact.Sleep t q }) es → May (stage_after t es) (fact.Sleep t q) → Stood m ts ss (record { event = k; fact = fact.Sleep t q } ∷ es)
sleep_stands m ts ss es d s x k t q y may = no_change m ts ss d (record { event = k; fact = fact.Sleep t q }) es s y x.there x.stands refl (slept (stage_after t es) may (x.stands.calls t)) where
  slept : (z : Stage) → May z (fact.Sleep t q) → Goes m z (turn_at ts t) (call_at s.calls t) → Goes m (next z (fact.Sleep t q)) (turn_at ts t) (call_at s.calls t)
  slept (stage.Calling c made a) may h = h
  slept z may h = absurd may

pub wake_stands : (m : ℕ) (ts : List Turn) (ss : List State) (es : List Line) (d : ℕ → Bool) (s : State) → Scene m ts ss es d s → (k t : ℕ) → Setting m ts ts ss d s (record { event = k; fact = fact.Wake t }) es → May (stage_after t es) (fact.Wake t) → Stood m ts ss (record { event = k; fact = fact.Wake t } ∷ es)
wake_stands m ts ss es d s x k t y may = no_change m ts ss d (record { event = k; fact = fact.Wake t }) es s y x.there x.stands refl (woken (stage_after t es) may (x.stands.calls t)) where
  woken : (z : Stage) → May z (fact.Wake t) → Goes m z (turn_at ts t) (call_at s.calls t) → Goes m (next z (fact.Wake t)) (turn_at ts t) (call_at s.calls t)
  woken (stage.Calling c made a) may h = h
  woken z may h = absurd may

pub move_stands : (m : ℕ) (ts : List Turn) (ss : List State) (es : List Line) (d : ℕ → Bool) (s : State) → Scene m ts ss es d s → (k t m' : ℕ) → Setting m ts ts ss d s (record { event = k; fact = fact.Move t m' }) es → May (stage_after t es) (fact.Move t m') → Stood m ts ss (record { event = k; fact = fact.Move t m' } ∷ es)
move_stands m ts ss es d s x k t m' y may = no_change m ts ss d (record { event = k; fact = fact.Move t m' }) es s y x.there x.stands refl (moves (stage_after t es) may (x.stands.calls t)) where
  moves : (z : Stage) → May z (fact.Move t m') → Goes m z (turn_at ts t) (call_at s.calls t) → Goes m (next z (fact.Move t m')) (turn_at ts t) (call_at s.calls t)
  moves (stage.Calling c made a) may h = h
  moves z may h = absurd may

-- ---- points

-- a point of a call that isn't a wait's release
record Plain (a : Operation) (my : Made) (b : Operation) (x : Reply) : Type 0 where
  look : next_look a my x ≡ Some b
  change : next_change a my ≡ Some b
  releases : (o : Object) → MayRelease a my o
  after : (y : Reply) → after_change a my y ≡ Changed y
  points : (y : Reply) → pointed a b y ≡ made.Decided y
  still : IsOpen my
  -- of a wait with a time limit it is the lock that ends it
  late : a ≡ TimedWait → b ≡ Lock

plain_nothing : (a : Operation) (x : Reply) → (IsWait a → ⊥) → a ≢ TimedLock → Plain a Nothing a x
plain_nothing Wait x ne timed = absurd (ne (inl refl))
plain_nothing TimedWait x ne timed = absurd (ne (inr refl))
plain_nothing TimedLock x ne timed = absurd (timed refl)
plain_nothing a x ne timed = record { look = refl; change = refl; releases = λ o. tt; after = λ y. refl; points = λ y. refl; still = tt; late = λ is. absurd cc }

plain_released : (a : Operation) (x : Reply) → Plain a Released Lock x
plain_released a x = elim_plain a where
  elim_plain : (a : Operation) → Plain a Released Lock x
  elim_plain Wait = record { look = refl; change = refl; releases = λ o. tt; after = λ y. refl; points = λ y. refl; still = tt; late = λ is. refl }
  elim_plain a = record { look = refl; change = refl; releases = λ o. tt; after = λ y. refl; points = λ y. refl; still = tt; late = λ is. refl }

-- a lock with a time limit that is recorded as a lock
told_lock : (x : Reply) → x ≢ ETIMEDOUT → told_as TimedLock x ≡ Lock
told_lock ETIMEDOUT ne = absurd (ne refl)
told_lock x ne = refl

plain_timed : (x : Reply) → x ≢ ETIMEDOUT → Plain TimedLock Nothing Lock x
plain_timed x ne = record { look = ap Some (told_lock x ne); change = refl; releases = λ o. tt; after = λ y. refl; points = λ y. refl; still = tt; late = λ is. absurd cc }

pub is_timed : (a : Operation) → (a ≡ TimedLock) ⊎ (a ≢ TimedLock)
is_timed TimedLock = inl refl
is_timed a = inr (λ e. absurd cc)

-- out of time is only told as a lock with a time limit
pub never_late : (held : ℕ) (o : Object) (t : ℕ) (op : Operation) (x : Reply) (n : Object) → Does held o t op x n → op ≢ TimedLock → x ≢ ETIMEDOUT
never_late held o t op x n does ne late = ne (late_is_timed held o t op n (subst (λ y. Does held o t op y n) late does))

-- neither one of two, nor the other
neither : (a : Operation) → a ≢ Wait → a ≢ TimedWait → IsWait a → ⊥
neither a one other (inl is) = one is
neither a one other (inr is) = other is

pub is_wait : (a : Operation) → IsWait a ⊎ (IsWait a → ⊥)
is_wait Wait = inl (inl refl)
is_wait TimedWait = inl (inr refl)
is_wait a = inr (neither a (λ e. absurd cc) (λ e. absurd cc))

pub plain_may : (a b : Operation) (x : Reply) → (IsWait a → ⊥) → a ≢ TimedLock → MayPoint a made.Nothing b x → b ≡ a
plain_may Wait b x ne timed may = absurd (ne (inl refl))
plain_may TimedWait b x ne timed may = absurd (ne (inr refl))
plain_may TimedLock b x ne timed may = absurd (timed refl)
plain_may a b x ne timed may = may

may_wait : (b : Operation) (x : Reply) → MayPoint Wait made.Nothing b x → (b ≡ Wait) ⊎ ((b ≡ Unlock) × (x ≡ OK))
may_wait Wait x may = inl refl
may_wait Unlock x may = inr (refl, may)
may_wait b x may = absurd cc

may_wait_timed : (b : Operation) (x : Reply) → MayPoint TimedWait made.Nothing b x → (b ≡ Wait) ⊎ ((b ≡ Unlock) × (x ≡ OK))
may_wait_timed Wait x may = inl refl
may_wait_timed Unlock x may = inr (refl, may)
may_wait_timed b x may = absurd may

-- a wait, with a time limit or without, is refused, or releases its mutex
pub wait_may : (a b : Operation) (x : Reply) → IsWait a → MayPoint a made.Nothing b x → (b ≡ Wait) ⊎ ((b ≡ Unlock) × (x ≡ OK))
wait_may a b x (inl is) may = may_wait b x (subst (λ c. MayPoint c made.Nothing b x) is may)
wait_may a b x (inr is) may = may_wait_timed b x (subst (λ c. MayPoint c made.Nothing b x) is may)

-- what a wait is refused by
waits_look : (a : Operation) (x : Reply) → IsWait a → next_look a Nothing x ≡ Some Wait
waits_look a x (inl is) = ap (λ b. next_look b Nothing x) is
waits_look a x (inr is) = ap (λ b. next_look b Nothing x) is

-- and releases by
waits_change : (a : Operation) → IsWait a → next_change a Nothing ≡ Some Unlock
waits_change a (inl is) = ap (λ b. next_change b Nothing) is
waits_change a (inr is) = ap (λ b. next_change b Nothing) is

waits_release : (a : Operation) (o : Object) → IsWait a → o.inconsistent ≡ false → MayRelease a Nothing o
waits_release a o (inl is) sound = subst (λ b. MayRelease b Nothing o) (sym is) sound
waits_release a o (inr is) sound = subst (λ b. MayRelease b Nothing o) (sym is) sound

waits_after : (a : Operation) (x : Reply) → IsWait a → after_change a Nothing x ≡ Released
waits_after a x (inl is) = ap (λ b. after_change b Nothing x) is
waits_after a x (inr is) = ap (λ b. after_change b Nothing x) is

pub waits_refused : (a : Operation) (x : Reply) → IsWait a → pointed a Wait x ≡ made.Decided x
waits_refused a x (inl is) = ap (λ b. pointed b Wait x) is
waits_refused a x (inr is) = ap (λ b. pointed b Wait x) is

pub waits_released : (a : Operation) (x : Reply) → IsWait a → pointed a Unlock x ≡ made.Released
waits_released a x (inl is) = ap (λ b. pointed b Unlock x) is
waits_released a x (inr is) = ap (λ b. pointed b Unlock x) is

pub waits_locked : (a : Operation) (x : Reply) → IsWait a → pointed a Lock x ≡ made.Decided x
waits_locked a x (inl is) = ap (λ b. pointed b Lock x) is
waits_locked a x (inr is) = ap (λ b. pointed b Lock x) is

-- a call returns what its last point replied, except for a wait with a time limit that took its mutex
told_exactly : (a : Operation) (y z : Reply) → MayReturn a y z → (a ≡ TimedWait → y ≢ OK) → z ≡ y
told_exactly TimedWait y z (inl is) never = is
told_exactly TimedWait y z (inr late) never = absurd (never refl late.0)
told_exactly a y z is never = is

-- a lock that gets OK changes the mutex
taking_changes : (held : ℕ) (o : Object) (t : ℕ) (n : Object) → Does held o t Lock OK n → n ≢ o
taking_changes held o t n does same = by_cases (nat_le 2048 held) does where
  by_cases : (b : Bool) → MatchBool b ((OK ≡ XHELD) × (n ≡ o)) (Permits o t Lock OK n) → ⊥
  by_cases true h = let no : OK ≡ XHELD = h.0 in absurd cc
  by_cases false h =
      let none : o.owner ≡ None = h.1 in
      let some : n.owner ≡ Some t = ap (λ (q : Object). q.owner) h.3 in
      let both : None ≡ Some t = sym none ∙ ap (λ (q : Object). q.owner) (sym same) ∙ some in
      absurd cc

-- a wait's own point isn't told OK
never_ok : (o : Object) (t : ℕ) (n : Object) (x : Reply) → Permits o t Wait x n → x ≢ OK
never_ok o t n x h ok = none (subst (λ y. Permits o t Wait y n) ok h) where
  none : Permits o t Wait OK n → ⊥
  none p = p

pub record InItsCall (s : Stage) (p : Decision) : Type 0 where
  pub call : Begun
  pub made : TheirMade
  pub asleep : Bool
  pub is : s ≡ stage.Calling call made asleep
  pub mutex : p.mutex ≡ call.mutex
  pub may : MayPoint call.operation made p.operation p.reply

pub calling_of : (s : Stage) (p : Decision) → May s (fact.Point p) → InItsCall s p
calling_of (stage.Calling c m z) p may = record { call = c; made = m; asleep = z; is = refl; mutex = may.1; may = may.2 }
calling_of s p may = absurd may

if_there : (m : ℕ) (c : Begun) → c.mutex ≡ m → if_on m c ≡ Some c
if_there m c on = by_cases (c.mutex == m) refl where
  by_cases : (b : Bool) → (c.mutex == m) ≡ b → (if b then Some c else None) ≡ Some c
  by_cases true is = refl
  by_cases false is = let other : c.mutex ≢ m = grind (arith, nat_tests) in absurd (other on)

call_there : (m : ℕ) (turn : Turn) (k : Begun) (d : Bool) → InCall k turn d → k.mutex ≡ m → call_on m turn ≡ Some k
call_there m (Calling c x) k false is on = ap (if_on m) is ∙ if_there m k on
call_there m (Dying c) k true is on = ap (λ z. call_on m (Dying z)) is ∙ if_there m k on
call_there m turn k d is on = absurd is

-- a change by the thread's call
by_call : (m : ℕ) (ts : List Turn) (ss : List State) (es : List Line) (d : ℕ → Bool) (s : State) → Scene m ts ss es d s → (k : Begun) (t : ℕ) → InCall k (turn_at ts t) (d t) → k.mutex ≡ m
    → (held : ℕ) (op : Operation) (y : Reply) (new : Object) → next_change k.operation (call_at s.calls t).made ≡ Some op → MayRelease k.operation (call_at s.calls t).made s.object
    → Does held s.object t op y new → new ≢ s.object → Covered ss (changed s t k.operation y new)
by_call m ts ss es d s x k t call on held op y new is releases does ne = by_cases (changes_tell s.object t op y new both.0 ne) where
  both : Permits s.object t op y new × Does 0 s.object t op y new
  both = held_no_more held s.object t op y new does ne

  id : HasId ts t
  id = has_id ts t x.long x.nobody (busy_calling (turn_at ts t) k (d t) call)

  follows : FollowsReply ss s t k.operation OK × FollowsReply ss s t k.operation EOWNERDEAD
  follows = (x.closed.followed s x.there t id.first).changes k (call_there m (turn_at ts t) k (d t) call on)

  may : MayChange s t k.operation y new
  may = record { operation = op; next = is; releases = releases; does = both.1; other = ne }

  by_cases : (y ≡ OK) ⊎ (y ≡ EOWNERDEAD) → Covered ss (changed s t k.operation y new)
  by_cases (inl ok) = subst (λ r. FollowsReply ss s t k.operation r) (sym ok) follows.0 new may
  by_cases (inr dead) = subst (λ r. FollowsReply ss s t k.operation r) (sym dead) follows.1 new may

-- a point that isn't a wait's release
plain_point : (n m : ℕ) (ts : List Turn) (ss : List State) (es : List Line) (d : ℕ → Bool) (s : State) → Scene m ts ss es d s → (i : ℕ) (p : Decision) → Setting m ts ts ss d s (record { event = i; fact = fact.Point p }) es → May (stage_after p.thread es) (fact.Point p) → p.operation ≢ TimedLock → (k : Begun) (my : Made) (z : Bool)
    → InCall k (turn_at ts p.thread) (d p.thread) → k.mutex ≡ m → p.mutex ≡ m → (call_at s.calls p.thread).made ≡ my → Plain k.operation my p.operation p.reply
    → next (stage_after p.thread es) (fact.Point p) ≡ stage.Calling k (pointed k.operation p.operation p.reply) z
    → (new : Object) → Does (held_by p.thread (objects_after es) n) s.object p.thread p.operation p.reply new → Stood m ts ss (record { event = i; fact = fact.Point p } ∷ es)
plain_point n m ts ss es d s x i p y may untimed k my z call on here is plain goes new does = by_cases (same_object new s.object) where
  t : ℕ
  t = p.thread

  e : Line
  e = record { event = i; fact = fact.Point p }

  id : HasId ts t
  id = has_id ts t x.long x.nobody (busy_calling (turn_at ts t) k (d t) call)

  object : new ≡ objects_after (e ∷ es) m
  object = determined (held_by t (objects_after es) n) s.object t p.operation p.reply new does ∙ ap (λ o. stepped o t p.operation p.reply) x.stands.object ∙ sym (moved_here (objects_after es) p m here)

  decided : (c : Call) → HasCome k.operation (made.Decided p.reply) (reply_of (turn_at ts t)) c → Goes m (next (stage_after t es) (fact.Point p)) (turn_at ts t) c
  decided c come = subst (λ q. Goes m q (turn_at ts t) c) (sym goes) (λ at. subst (λ q. HasCome k.operation q (reply_of (turn_at ts t)) c) (sym (plain.points p.reply)) come)

  seen : reply_of (turn_at ts t) ≡ Some p.reply → new ≡ s.object → (call_at s.calls t).seen ≡ true
  seen reply same = x.closed.noted s x.there t id.first (sees_there m (turn_at ts t) k (d t) s t p.reply call on reply (
    record {
      operation = p.operation;
      next = ap (λ q. next_look k.operation q p.reply) is ∙ plain.look;
      held = held_by t (objects_after es) n;
      does = subst (Does (held_by t (objects_after es) n) s.object t p.operation p.reply) same does;
    },
    λ late. absurd (never_late (held_by t (objects_after es) n) s.object t p.operation p.reply new does untimed late),
  ))

  -- a point that changes nothing isn't the lock that a wait which is out of time takes its mutex by
  never : new ≡ s.object → k.operation ≡ TimedWait → p.reply ≢ OK
  never same late ok =
      let its : Does (held_by t (objects_after es) n) s.object t Lock OK new = subst (λ r. Does (held_by t (objects_after es) n) s.object t Lock r new) ok (subst (λ a. Does (held_by t (objects_after es) n) s.object t a p.reply new) (plain.late late) does) in
      taking_changes (held_by t (objects_after es) n) s.object t new its same

  by_cases : (new ≡ s.object) ⊎ (new ≢ s.object) → Stood m ts ss (record { event = i; fact = fact.Point p } ∷ es)
  by_cases (inl same) = no_change m ts ss d e es s y x.there x.stands (sym object ∙ same ∙ x.stands.object)
      (decided (call_at s.calls t) (inr (subst IsOpen (sym is) plain.still, λ z may reply. seen (reply ∙ ap Some (told_exactly k.operation p.reply z may (never same))) same)))
  by_cases (inr ne) =
      let cov : Covered ss (changed s t k.operation p.reply new) = by_call m ts ss es d s x k t call on (held_by t (objects_after es) n) p.operation p.reply new (ap (next_change k.operation) is ∙ plain.change) (subst (λ q. MayRelease k.operation q s.object) (sym is) (plain.releases s.object)) does ne in
      own_change m ts ss d e es s (record { made = after_change k.operation (call_at s.calls t).made p.reply; seen = false }) new y may refl x.stands object id.last
      (decided (record { made = after_change k.operation (call_at s.calls t).made p.reply; seen = false }) (inl (ap (λ q. after_change k.operation q p.reply) is ∙ plain.after p.reply))) cov

-- a wait's own point changes nothing
wait_point : (n m : ℕ) (ts : List Turn) (ss : List State) (es : List Line) (d : ℕ → Bool) (s : State) → Scene m ts ss es d s → (i : ℕ) (p : Decision) → Setting m ts ts ss d s (record { event = i; fact = fact.Point p }) es → (k : Begun) (z : Bool)
    → InCall k (turn_at ts p.thread) (d p.thread) → k.mutex ≡ m → p.mutex ≡ m → (call_at s.calls p.thread).made ≡ Nothing → IsWait k.operation → p.operation ≡ Wait
    → next (stage_after p.thread es) (fact.Point p) ≡ stage.Calling k (pointed k.operation p.operation p.reply) z
    → (new : Object) → Does (held_by p.thread (objects_after es) n) s.object p.thread p.operation p.reply new → Stood m ts ss (record { event = i; fact = fact.Point p } ∷ es)
wait_point n m ts ss es d s x i p y k z call on here is wait op goes new does =
    let t = p.thread in
    let e : Line = record { event = i; fact = fact.Point p } in
    let its : Permits s.object t Wait p.reply new = subst (λ a. Does (held_by t (objects_after es) n) s.object t a p.reply new) op does in
    let same : new ≡ s.object = waits_still s.object t p.reply new its in
    let id : HasId ts t = has_id ts t x.long x.nobody (busy_calling (turn_at ts t) k (d t) call) in
    let object : new ≡ objects_after (e ∷ es) m = determined (held_by t (objects_after es) n) s.object t p.operation p.reply new does ∙ ap (λ o. stepped o t p.operation p.reply) x.stands.object ∙ sym (moved_here (objects_after es) p m here) in
    let points : pointed k.operation p.operation p.reply ≡ made.Decided p.reply = ap (λ b. pointed k.operation b p.reply) op ∙ waits_refused k.operation p.reply wait in
    let look : MayLook s t k.operation p.reply = (
      record {
        operation = Wait;
        next = ap (λ q. next_look k.operation q p.reply) is ∙ waits_look k.operation p.reply wait;
        held = 0;
        does = subst (λ o. Permits s.object t Wait p.reply o) same its;
      },
      λ late. absurd (never_late (held_by t (objects_after es) n) s.object t p.operation p.reply new does (λ timed. let no : Wait ≡ TimedLock = sym op ∙ timed in absurd cc) late),
    ) in
    no_change m ts ss d e es s y x.there x.stands (sym object ∙ same ∙ x.stands.object)
    (subst (λ q. Goes m q (turn_at ts t) (call_at s.calls t)) (sym goes)
    (λ at. subst (λ q. HasCome k.operation q (reply_of (turn_at ts t)) (call_at s.calls t)) (sym points)
    (inr (subst IsOpen (sym is) tt, λ r may reply. x.closed.noted s x.there t id.first (sees_there m (turn_at ts t) k (d t) s t p.reply call on (reply ∙ ap Some (told_exactly k.operation p.reply r may (λ late. never_ok s.object t new p.reply its))) look)))))

-- a wait's release
frees : (o : Object) (t : ℕ) (new : Object) → Permits o t Unlock OK new → new ≢ o
frees o t new h same =
    let none : new.owner ≡ None = ap (λ (q : Object). q.owner) h.1 in
    let some : new.owner ≡ Some t = ap (λ (q : Object). q.owner) same ∙ h.0 in
    let no : None ≡ Some t = sym none ∙ some in
    absurd cc

release_point : (n m : ℕ) (ts : List Turn) (ss : List State) (es : List Line) (d : ℕ → Bool) (s : State) → Scene m ts ss es d s → (i : ℕ) (p : Decision) → Setting m ts ts ss d s (record { event = i; fact = fact.Point p }) es → May (stage_after p.thread es) (fact.Point p) → (k : Begun) (z : Bool)
    → InCall k (turn_at ts p.thread) (d p.thread) → k.mutex ≡ m → p.mutex ≡ m → (call_at s.calls p.thread).made ≡ Nothing → IsWait k.operation → p.operation ≡ Unlock → p.reply ≡ OK
    → s.object.inconsistent ≡ false
    → next (stage_after p.thread es) (fact.Point p) ≡ stage.Calling k (pointed k.operation p.operation p.reply) z
    → (new : Object) → Does (held_by p.thread (objects_after es) n) s.object p.thread p.operation p.reply new → Stood m ts ss (record { event = i; fact = fact.Point p } ∷ es)
release_point n m ts ss es d s x i p y may k z call on here is wait op ok sound goes new does =
    let t = p.thread in
    let e : Line = record { event = i; fact = fact.Point p } in
    let id : HasId ts t = has_id ts t x.long x.nobody (busy_calling (turn_at ts t) k (d t) call) in
    let its : Permits s.object t Unlock OK new = subst (λ r. Permits s.object t Unlock r new) ok (subst (λ a. Does (held_by t (objects_after es) n) s.object t a p.reply new) op does) in
    let object : new ≡ objects_after (e ∷ es) m = determined (held_by t (objects_after es) n) s.object t p.operation p.reply new does ∙ ap (λ o. stepped o t p.operation p.reply) x.stands.object ∙ sym (moved_here (objects_after es) p m here) in
    let points : pointed k.operation p.operation p.reply ≡ made.Released = ap (λ b. pointed k.operation b p.reply) op ∙ waits_released k.operation p.reply wait in
    let follows : next_change k.operation (call_at s.calls t).made ≡ Some Unlock = ap (next_change k.operation) is ∙ waits_change k.operation wait in
    let releases : MayRelease k.operation (call_at s.calls t).made s.object = subst (λ q. MayRelease k.operation q s.object) (sym is) (waits_release k.operation s.object wait sound) in
    let cov : Covered ss (changed s t k.operation OK new) = by_call m ts ss es d s x k t call on 0 Unlock OK new follows releases its (frees s.object t new its) in
    let after : after_change k.operation (call_at s.calls t).made OK ≡ Released = ap (λ q. after_change k.operation q OK) is ∙ waits_after k.operation OK wait in
    own_change m ts ss d e es s (record { made = after_change k.operation (call_at s.calls t).made OK; seen = false }) new y may refl x.stands object id.last
    (subst (λ q. Goes m q (turn_at ts t) (record { made = after_change k.operation (call_at s.calls t).made OK; seen = false })) (sym goes)
    (λ at. subst (λ q. HasCome k.operation q (reply_of (turn_at ts t)) (record { made = after_change k.operation (call_at s.calls t).made OK; seen = false })) (sym points) after)) cov

-- a lock that is told that its time limit came, or that its thread holds too many
timed_tells : (held : ℕ) (o : Object) (t : ℕ) (x : Reply) (n : Object) → Does held o t TimedLock x n → (n ≡ o) × ((x ≡ ETIMEDOUT) ⊎ ((x ≢ ETIMEDOUT) × Does held o t Lock x o))
timed_tells held o t x n does = by_cases (nat_le 2048 held) refl does where
  only : (y : Reply) → Permits o t TimedLock y n → (n ≡ o) × (y ≡ ETIMEDOUT)
  only ETIMEDOUT h = (h, refl)
  only y h = absurd h

  by_cases : (b : Bool) → nat_le 2048 held ≡ b → MatchBool b ((x ≡ XHELD) × (n ≡ o)) (Permits o t TimedLock x n) → (n ≡ o) × ((x ≡ ETIMEDOUT) ⊎ ((x ≢ ETIMEDOUT) × MatchBool (nat_le 2048 held) ((x ≡ XHELD) × (o ≡ o)) (Permits o t Lock x o)))
  by_cases true is h = (h.1, inr (λ late. let no : XHELD ≡ ETIMEDOUT = sym h.0 ∙ late in absurd cc, subst (λ b. MatchBool b ((x ≡ XHELD) × (o ≡ o)) (Permits o t Lock x o)) (sym is) (h.0, refl)))
  by_cases false is h = ((only x h).0, inl (only x h).1)

timed_point : (n m : ℕ) (ts : List Turn) (ss : List State) (es : List Line) (d : ℕ → Bool) (s : State) → Scene m ts ss es d s → (i : ℕ) (p : Decision) → Setting m ts ts ss d s (record { event = i; fact = fact.Point p }) es → IsDue es (fact.Point p) → (k : Begun) (z : Bool)
    → InCall k (turn_at ts p.thread) (d p.thread) → k.mutex ≡ m → p.mutex ≡ m → (call_at s.calls p.thread).made ≡ Nothing → stage_after p.thread es ≡ stage.Calling k made.Nothing z → k.operation ≡ TimedLock → p.operation ≡ TimedLock
    → next (stage_after p.thread es) (fact.Point p) ≡ stage.Calling k (pointed k.operation p.operation p.reply) z
    → (new : Object) → Does (held_by p.thread (objects_after es) n) s.object p.thread p.operation p.reply new → Stood m ts ss (record { event = i; fact = fact.Point p } ∷ es)
timed_point n m ts ss es d s x i p y due k z call on here is was timed op goes new does =
    no_change m ts ss d e es s y x.there x.stands (sym object ∙ tells.0 ∙ x.stands.object)
    (subst (λ q. Goes m q (turn_at ts t) (call_at s.calls t)) (sym goes)
    (λ at. subst (λ q. HasCome k.operation q (reply_of (turn_at ts t)) (call_at s.calls t)) (sym points) (inr (subst IsOpen (sym is) tt, λ r may reply. let same = as_told r may reply in ⊎_elim (late same) (held_as same) tells.1))))
  where
    t : ℕ
    t = p.thread

    e : Line
    e = record { event = i; fact = fact.Point p }

    tells : (new ≡ s.object) × ((p.reply ≡ ETIMEDOUT) ⊎ ((p.reply ≢ ETIMEDOUT) × Does (held_by t (objects_after es) n) s.object t Lock p.reply s.object))
    tells = timed_tells (held_by t (objects_after es) n) s.object t p.reply new (subst (λ a. Does (held_by t (objects_after es) n) s.object t a p.reply new) op does)

    id : HasId ts t
    id = has_id ts t x.long x.nobody (busy_calling (turn_at ts t) k (d t) call)

    object : new ≡ objects_after (e ∷ es) m
    object = determined (held_by t (objects_after es) n) s.object t p.operation p.reply new does ∙ ap (λ o. stepped o t p.operation p.reply) x.stands.object ∙ sym (moved_here (objects_after es) p m here)

    points : pointed k.operation p.operation p.reply ≡ made.Decided p.reply
    points = ap (λ a. pointed a p.operation p.reply) timed ∙ ap (λ b. pointed TimedLock b p.reply) op

    as_told : (r : Reply) → MayReturn k.operation p.reply r → reply_of (turn_at ts t) ≡ Some r → reply_of (turn_at ts t) ≡ Some p.reply
    as_told r may reply = reply ∙ ap Some (told_exactly k.operation p.reply r may (λ wait. let no : TimedLock ≡ TimedWait = sym timed ∙ wait in absurd cc))

    -- it has seen another owner, as there was one
    late : reply_of (turn_at ts t) ≡ Some p.reply → p.reply ≡ ETIMEDOUT → (call_at s.calls t).seen ≡ true
    late reply is_late =
        let waits : Waits m (stage.Calling k made.Nothing z) (turn_at ts t) (call_at s.calls t) (chances_behind t m es) = subst (λ q. Waits m q (turn_at ts t) (call_at s.calls t) (chances_behind t m es)) was (y.waits t) in
        waits on timed (reply ∙ ap Some is_late) (subst (λ j. (chances_behind t j es).waited ≡ true) here (due refl refl is_late))

    held_as : reply_of (turn_at ts t) ≡ Some p.reply → (p.reply ≢ ETIMEDOUT) × Does (held_by t (objects_after es) n) s.object t Lock p.reply s.object → (call_at s.calls t).seen ≡ true
    held_as reply h = x.closed.noted s x.there t id.first (sees_there m (turn_at ts t) k (d t) s t p.reply call on reply (
      record {
        operation = Lock;
        next = ap (λ q. next_look k.operation q p.reply) is ∙ ap (λ a. next_look a Nothing p.reply) timed ∙ ap Some (told_lock p.reply h.0);
        held = held_by t (objects_after es) n;
        does = h.1;
      },
      λ is_late. absurd (h.0 is_late),
    ))

-- any point of the mutex
made_point : (n m : ℕ) (ts : List Turn) (ss : List State) (es : List Line) (d : ℕ → Bool) (s : State) → Scene m ts ss es d s → (i : ℕ) (p : Decision) → Setting m ts ts ss d s (record { event = i; fact = fact.Point p }) es → IsDue es (fact.Point p) → May (stage_after p.thread es) (fact.Point p) → (k : Begun) (its : TheirMade) (z : Bool) → stage_after p.thread es ≡ stage.Calling k its z
    → InCall k (turn_at ts p.thread) (d p.thread) → k.mutex ≡ m → p.mutex ≡ m → HasCome k.operation its (reply_of (turn_at ts p.thread)) (call_at s.calls p.thread) → MayPoint k.operation its p.operation p.reply
    → (p.operation ≡ Unlock → IsWait k.operation → s.object.inconsistent ≡ false)
    → next (stage_after p.thread es) (fact.Point p) ≡ stage.Calling k (pointed k.operation p.operation p.reply) z
    → (new : Object) → Does (held_by p.thread (objects_after es) n) s.object p.thread p.operation p.reply new → Stood m ts ss (record { event = i; fact = fact.Point p } ∷ es)
made_point n m ts ss es d s x i p y due own k (made.Decided r) z was call on here come may sound goes new does = absurd may
made_point n m ts ss es d s x i p y due own k made.Released z was call on here come may sound goes new does =
    plain_point n m ts ss es d s x i p y own (λ timed. let no : Lock ≡ TimedLock = sym may ∙ timed in absurd cc) k Released z call on here come (subst (λ b. Plain k.operation Released b p.reply) (sym may) (plain_released k.operation p.reply)) goes new does
made_point n m ts ss es d s x i p y due own k made.Nothing z was call on here come may sound goes new does = by_cases (is_wait k.operation) (is_timed k.operation) where
  by_wait : IsWait k.operation → (p.operation ≡ Wait) ⊎ ((p.operation ≡ Unlock) × (p.reply ≡ OK)) → Stood m ts ss (record { event = i; fact = fact.Point p } ∷ es)
  by_wait wait (inl its) = wait_point n m ts ss es d s x i p y k z call on here come wait its goes new does
  by_wait wait (inr free) = release_point n m ts ss es d s x i p y own k z call on here come wait free.0 free.1 (sound free.0 wait) goes new does

  by_timed : k.operation ≡ TimedLock → (p.operation ≡ TimedLock) ⊎ (p.operation ≡ Lock) → Stood m ts ss (record { event = i; fact = fact.Point p } ∷ es)
  by_timed timed (inl its) = timed_point n m ts ss es d s x i p y due k z call on here come was timed its goes new does
  by_timed timed (inr lock) =
      let untimed : p.operation ≢ TimedLock = λ is. let no : Lock ≡ TimedLock = sym lock ∙ is in absurd cc in
      let plain : Plain TimedLock Nothing Lock p.reply = plain_timed p.reply (never_late (held_by p.thread (objects_after es) n) s.object p.thread p.operation p.reply new does untimed) in
      plain_point n m ts ss es d s x i p y own untimed k Nothing z call on here come (subst (λ a. Plain a Nothing p.operation p.reply) (sym timed) (subst (λ b. Plain TimedLock Nothing b p.reply) (sym lock) plain)) goes new does

  by_cases : IsWait k.operation ⊎ (IsWait k.operation → ⊥) → (k.operation ≡ TimedLock) ⊎ (k.operation ≢ TimedLock) → Stood m ts ss (record { event = i; fact = fact.Point p } ∷ es)
  by_cases (inl wait) t = by_wait wait (wait_may k.operation p.operation p.reply wait may)
  by_cases (inr other) (inl timed) = by_timed timed (subst (λ a. MayPoint a made.Nothing p.operation p.reply) timed may)
  by_cases (inr other) (inr untimed) =
      let its : p.operation ≡ k.operation = plain_may k.operation p.operation p.reply other untimed may in
      plain_point n m ts ss es d s x i p y own (λ is. untimed (sym its ∙ is)) k Nothing z call on here come (subst (λ b. Plain k.operation Nothing b p.reply) (sym its) (plain_nothing k.operation p.reply other untimed)) goes new does

pub point_stands : (n m : ℕ) (ts : List Turn) (ss : List State) (es : List Line) (d : ℕ → Bool) (s : State) → Scene m ts ss es d s → (i : ℕ) (p : Decision) → Setting m ts ts ss d s (record { event = i; fact = fact.Point p }) es → IsDue es (fact.Point p) → May (stage_after p.thread es) (fact.Point p)
    → ((k : Begun) (its : TheirMade) (z : Bool) → stage_after p.thread es ≡ stage.Calling k its z → p.operation ≡ Unlock → IsWait k.operation → (objects_after es p.mutex).inconsistent ≡ false)
    → (new : Object) → Does (held_by p.thread (objects_after es) n) (objects_after es p.mutex) p.thread p.operation p.reply new → Stood m ts ss (record { event = i; fact = fact.Point p } ∷ es)
point_stands n m ts ss es d s x i p y due may sound new does = by_cases (same_or_not p.mutex m) where
  t : ℕ
  t = p.thread

  c : InItsCall (stage_after t es) p
  c = calling_of (stage_after t es) p may

  goes : next (stage_after t es) (fact.Point p) ≡ stage.Calling c.call (pointed c.call.operation p.operation p.reply) c.asleep
  goes = ap (λ q. next q (fact.Point p)) c.is

  by_cases : (p.mutex ≡ m) ⊎ (p.mutex ≢ m) → Stood m ts ss (record { event = i; fact = fact.Point p } ∷ es)
  by_cases (inl here) =
      let on : c.call.mutex ≡ m = sym c.mutex ∙ here in
      let its : objects_after es p.mutex ≡ s.object = ap (objects_after es) here ∙ sym x.stands.object in
      let come : Goes m (stage.Calling c.call c.made c.asleep) (turn_at ts t) (call_at s.calls t) = subst (λ q. Goes m q (turn_at ts t) (call_at s.calls t)) c.is (x.stands.calls t) in
      made_point n m ts ss es d s x i p y due may c.call c.made c.asleep c.is (subst (λ q. Turned (turn_at ts t) q (d t)) c.is (x.turned t)) on here (come on) c.may
      (λ op wait. subst (λ (o : Object). o.inconsistent ≡ false) its (sound c.call c.made c.asleep c.is op wait)) goes new (subst (λ o. Does (held_by t (objects_after es) n) o t p.operation p.reply new) its does)
  by_cases (inr there) =
      no_change m ts ss d (record { event = i; fact = fact.Point p }) es s y x.there x.stands (moved_there (objects_after es) p m there)
      (subst (λ q. Goes m q (turn_at ts t) (call_at s.calls t)) (sym goes) (λ on. absurd (there (c.mutex ∙ on))))
