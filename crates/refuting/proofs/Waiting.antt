-- A lock that will be told that its time limit came has seen another owner, if there was one since it began.
use Rattle.std.proofs.Common.{◌≡◌, ◌≢◌, ℕ, suc, zero, ◌<◌, ◌≤◌, ◌==◌, ◌⊎◌, inl, inr, Bool, true, false, not, ◌&&◌, ◌||◌, List, ◌∷◌, length, refl, sym, ap, subst, ◌∙◌, arith}
use Rattle.std.specs.Prelude.{if◌then◌else◌, Option, Some, None, Contains}
use Rattle.std.proofs.lemmas.Bool.{cases_lt}
use Rattle.std.proofs.lemmas.Bool.Decides.{nat_tests}
use Rattle.std.proofs.lemmas.List.{get_or_past}
use Rattle.lockword.specs.declared.reply.Reply.{Reply}
use Rattle.lockword.specs.declared.reply.Reply.TheVariants.{ETIMEDOUT}
use Rattle.posixmutex.specs.declared.object.Object.{Object}
use Rattle.posixmutex.specs.declared.point.Operation.{Operation}
use Rattle.posixmutex.specs.declared.point.Operation.TheVariants.{TimedLock, TimedWait, Unlock, Wait}
use Rattle.facts.specs.declared.fact.Begun.{Begun}
use Rattle.facts.specs.declared.fact.Fact.{Fact}
use Rattle.facts.specs.declared.fact.Fact.TheVariants as fact
use Rattle.facts.specs.declared.fact.Line.{Line}
use Rattle.facts.specs.Facts.{decides, thread_of}
use Rattle.facts.specs.Chances.{Chances, begins_call, is_anothers}
use Rattle.verdict.specs.declared.stage.Made.TheVariants as made
use Rattle.verdict.specs.declared.stage.Stage.{Stage}
use Rattle.verdict.specs.declared.stage.Stage.TheVariants as stage
use Rattle.verdict.specs.Earlier.{chances_behind, objects_after}
use Rattle.verdict.specs.Stages.{May, next, pointed}
use Rattle.verdict.proofs.Chances.{waited_next}
use Rattle.histories.specs.Histories.{is_hidden}
use Rattle.refuting.specs.declared.state.Call.{Call}
use Rattle.refuting.specs.declared.state.State.{State}
use Rattle.refuting.specs.declared.turn.Turn.{Turn}
use Rattle.refuting.specs.declared.turn.Turn.TheVariants.{Resting, Calling, Dying}
use Rattle.refuting.specs.States.{ids, HasAll, call_at}
use Rattle.refuting.specs.Steps.{AreNoted, MayLook, Sees, next_look}
use Rattle.refuting.specs.Following.{Goes, HaveWaited, StandsFor, Waits, stage_after}
use Rattle.refuting.specs.Turns.{InCall, Turned, reply_of, turn_at}

-- ---- ids

-- a thread that has a turn has one of the ids
pub record HasId (ts : List Turn) (t : ℕ) : Type 0 where
  pub first : 1 ≤ t
  pub last : t < ids

pub has_id : (ts : List Turn) (t : ℕ) → length ts ≡ ids → turn_at ts 0 ≡ Resting → turn_at ts t ≢ Resting → HasId ts t
has_id ts zero long nobody busy = absurd (busy nobody)
has_id ts (suc t) long nobody busy = by_cases (cases_lt (suc t) ids) where
  by_cases : (suc t < ids) ⊎ (ids ≤ suc t) → HasId ts (suc t)
  by_cases (inl lt) = record { first = omega arith; last = lt }
  by_cases (inr ge) = absurd (busy (get_or_past ts (suc t) Resting (omega (arith, long, ge))))

pub busy_calling : (turn : Turn) (k : Begun) (d : Bool) → InCall k turn d → turn ≢ Resting
busy_calling (Calling c x) k d is rests = absurd cc
busy_calling (Dying c) k d is rests = absurd cc
busy_calling turn k d is rests = absurd is

-- ---- who sees

pub sees_there : (m : ℕ) (turn : Turn) (k : Begun) (d : Bool) (s : State) (t : ℕ) (y : Reply) → InCall k turn d → k.mutex ≡ m → reply_of turn ≡ Some y → MayLook s t k.operation y → Sees m turn s t
sees_there m (Calling c None) k false s t y is on reply look = let no : None ≡ Some y = reply in absurd cc
sees_there m (Calling c (Some x)) k false s t y is on reply look =
    let same : y ≡ x = cc in
    (ap (λ (b : Begun). b.mutex) is ∙ on, subst (λ (b : Begun). MayLook s t b.operation x) (sym is) (subst (MayLook s t k.operation) same look))
sees_there m (Dying c) k true s t y is on reply look = let no : None ≡ Some y = reply in absurd cc
sees_there m turn k d s t y is on reply look = absurd is

-- a call that has seen as much, and more
pub waits_covered : (m : ℕ) (s : Stage) (turn : Turn) (c d : Call) (h : Chances) → Waits m s turn c h → HasAll d c → Waits m s turn d h
waits_covered m (stage.Calling k made.Nothing z) turn c d h waits all = λ on op reply waited. all.1 (waits on op reply waited)
waits_covered m s turn c d h waits all = tt

-- and one that returns nothing
pub waits_silent : (m : ℕ) (s : Stage) (turn : Turn) (c : Call) (h : Chances) → reply_of turn ≡ None → Waits m s turn c h
waits_silent m (stage.Calling k made.Nothing z) turn c h silent = λ on op reply waited. let no : None ≡ Some ETIMEDOUT = sym silent ∙ reply in absurd cc
waits_silent m s turn c h silent = tt

-- ---- one line more

pointed_some : (a b : Operation) (x : Reply) → pointed a b x ≡ made.Nothing → ⊥
pointed_some Wait Unlock x is = absurd cc
pointed_some TimedWait Unlock x is = absurd cc
pointed_some a b x is = absurd cc

-- a thread in a call that has had no point, which this fact of it doesn't begin, was in it
record WasIn (s : Stage) (k : Begun) : Type 0 where
  asleep : Bool
  is : s ≡ stage.Calling k made.Nothing asleep

stage_back : (s : Stage) (f : Fact) (t : ℕ) (k : Begun) (z : Bool) → (thread_of f == t) ≡ true → begins_call t f ≡ false → next s f ≡ stage.Calling k made.Nothing z → WasIn s k
stage_back s (fact.Begin u c) t k z mine old is = let both : true ≡ false = sym mine ∙ old in absurd cc
stage_back s (fact.Kill u) t k z mine old is = absurd cc
stage_back s (fact.Return u x) t k z mine old is = absurd cc
stage_back s (fact.Reap u) t k z mine old is = absurd cc
stage_back s (fact.Renew u) t k z mine old is = absurd cc
stage_back (stage.Calling c its a) (fact.Point d) t k z mine old is = let same : pointed c.operation d.operation d.reply ≡ made.Nothing = cc in absurd (pointed_some c.operation d.operation d.reply same)
stage_back (stage.Calling c its a) (fact.Sleep u q) t k z mine old is = record { asleep = a; is = cc }
stage_back (stage.Calling c its a) (fact.Wake u) t k z mine old is = record { asleep = a; is = cc }
stage_back (stage.Calling c its a) (fact.Move u m) t k z mine old is = record { asleep = z; is = is }
stage_back (stage.Calling c its a) (fact.Death u m) t k z mine old is = record { asleep = z; is = is }
stage_back s f t k z mine old is = absurd cc

-- no point and no death leaves its thread there
pub decided_on : (s : Stage) (f : Fact) (k : Begun) (z : Bool) → May s f → decides f ≡ true → next s f ≡ stage.Calling k made.Nothing z → ⊥
decided_on (stage.Calling c its a) (fact.Point d) k z may does is = let same : pointed c.operation d.operation d.reply ≡ made.Nothing = cc in pointed_some c.operation d.operation d.reply same
decided_on stage.Dying (fact.Death t m) k z may does is = absurd cc
decided_on s (fact.Point d) k z may does is = absurd may
decided_on s (fact.Death t m) k z may does is = absurd may
decided_on s f k z may does is = absurd cc

itself : (t : ℕ) → (t == t) ≡ true
itself t = grind (arith, nat_tests)

-- no line that is seen does, but a begin
pub seen_on : (s : Stage) (f : Fact) (k : Begun) (z : Bool) → is_hidden f ≡ false → begins_call (thread_of f) f ≡ false → next s f ≡ stage.Calling k made.Nothing z → ⊥
seen_on s (fact.Begin t c) k z seen old is = let both : true ≡ false = sym (itself t) ∙ old in absurd cc
seen_on s (fact.Kill t) k z seen old is = absurd cc
seen_on s (fact.Return t x) k z seen old is = absurd cc
seen_on s (fact.Reap t) k z seen old is = absurd cc
seen_on s (fact.Renew t) k z seen old is = absurd cc
seen_on s f k z seen old is = absurd cc

-- ---- what a line leaves

-- what is known where a line is taken: the threads' turns after it, and what calls had seen in a state before it
pub record Setting (m : ℕ) (ts us : List Turn) (rs : List State) (d : ℕ → Bool) (s : State) (e : Line) (es : List Line) : Type 0 where
  pub noted : AreNoted m us rs
  pub long : length us ≡ ids
  pub nobody : turn_at us 0 ≡ Resting
  pub turned : (t : ℕ) → Turned (turn_at us t) (stage_after t (e ∷ es)) (d t)
  pub waits : HaveWaited m ts es s

-- a thread's call that has had no point was there before the line, and what it had seen it has seen
pub record Carried (ts us : List Turn) (s r : State) (es : List Line) (t : ℕ) (k : Begun) : Type 0 where
  pub asleep : Bool
  pub was : stage_after t es ≡ stage.Calling k made.Nothing asleep
  pub turn : turn_at us t ≡ turn_at ts t
  pub seen : (call_at s.calls t).seen ≡ true → (call_at r.calls t).seen ≡ true

abbrev pub Carries : List Turn → List Turn → State → State → Line → List Line → Type 0
Carries ts us s r e es = (t : ℕ) (k : Begun) (z : Bool) → stage_after t (e ∷ es) ≡ stage.Calling k made.Nothing z → begins_call t e.fact ≡ false → Carried ts us s r es t k

-- of another thread, and of the line's own where that line leaves it in such a call
pub carried : (ts us : List Turn) (s r : State) (e : Line) (es : List Line) → ((u : ℕ) → u ≢ thread_of e.fact → (turn_at us u ≡ turn_at ts u) × ((call_at s.calls u).seen ≡ true → (call_at r.calls u).seen ≡ true))
    → ((k : Begun) (z : Bool) → next (stage_after (thread_of e.fact) es) e.fact ≡ stage.Calling k made.Nothing z → begins_call (thread_of e.fact) e.fact ≡ false → Carried ts us s r es (thread_of e.fact) k) → Carries ts us s r e es
carried ts us s r e es others own t k z after old = go (thread_of e.fact == t) refl after where
  go : (b : Bool) → (thread_of e.fact == t) ≡ b → (if b then next (stage_after t es) e.fact else stage_after t es) ≡ stage.Calling k made.Nothing z → Carried ts us s r es t k
  go true is after =
      let same : thread_of e.fact ≡ t = grind (arith, nat_tests) in
      subst (λ u. Carried ts us s r es u k) same (own k z (subst (λ u. next (stage_after u es) e.fact ≡ stage.Calling k made.Nothing z) (sym same) after) (subst (λ u. begins_call u e.fact ≡ false) (sym same) old))
  go false is after =
      let other : t ≢ thread_of e.fact = grind (arith, nat_tests) in
      record { asleep = z; was = after; turn = (others t other).0; seen = (others t other).1 }

-- the line's own thread, of whose calls nothing has changed
pub own_carried : (ts : List Turn) (s : State) (e : Line) (es : List Line) (k : Begun) (z : Bool) → next (stage_after (thread_of e.fact) es) e.fact ≡ stage.Calling k made.Nothing z → begins_call (thread_of e.fact) e.fact ≡ false → Carried ts ts s s es (thread_of e.fact) k
own_carried ts s e es k z after old =
    let back = stage_back (stage_after (thread_of e.fact) es) e.fact (thread_of e.fact) k z (itself (thread_of e.fact)) old after in
    record { asleep = back.asleep; was = back.is; turn = refl; seen = λ seen. seen }

either : (b c : Bool) → ((not b) && c) ≡ true → (b ≡ false) × (c ≡ true)
either false c is = (refl, is)
either true c is = absurd cc

or_other : (a b : Bool) → (a || b) ≡ true → b ≡ false → a ≡ true
or_other true b is unlike = refl
or_other false b is unlike = absurd cc

pub waits_on : (m : ℕ) (ts us : List Turn) (rs : List State) (d : ℕ → Bool) (s r : State) (e : Line) (es : List Line) → Setting m ts us rs d s e es → Contains rs r → StandsFor m us (e ∷ es) r → Carries ts us s r e es → HaveWaited m us (e ∷ es) r
waits_on m ts us rs d s r e es x there stands carries t = go (stage_after t (e ∷ es)) refl where
  other : Option ℕ
  other = (objects_after (e ∷ es) m).owner

  go : (st : Stage) → stage_after t (e ∷ es) ≡ st → Waits m st (turn_at us t) (call_at r.calls t) (chances_behind t m (e ∷ es))
  go (stage.Calling k made.Nothing z) is = λ on op reply waited. by_cases on op reply (sym (waited_next t m e es) ∙ waited) (is_anothers t other) refl where
    by_cases : k.mutex ≡ m → k.operation ≡ TimedLock → reply_of (turn_at us t) ≡ Some ETIMEDOUT → ((not (begins_call t e.fact) && (chances_behind t m es).waited) || is_anothers t other) ≡ true → (b : Bool) → is_anothers t other ≡ b → (call_at r.calls t).seen ≡ true
    by_cases on op reply waited true anothers =
        let call : InCall k (turn_at us t) (d t) = subst (λ q. Turned (turn_at us t) q (d t)) is (x.turned t) in
        let id = has_id us t x.long x.nobody (busy_calling (turn_at us t) k (d t) call) in
        let goes : Goes m (stage.Calling k made.Nothing z) (turn_at us t) (call_at r.calls t) = subst (λ q. Goes m q (turn_at us t) (call_at r.calls t)) is (stands.calls t) in
        let look : MayLook r t TimedLock ETIMEDOUT = (
          record { operation = TimedLock; next = ap (λ q. next_look TimedLock q ETIMEDOUT) (goes on); held = 0; does = refl },
          λ late. ap (λ (o : Object). is_anothers t o.owner) stands.object ∙ anothers,
        ) in
        x.noted r there t id.first (sees_there m (turn_at us t) k (d t) r t ETIMEDOUT call on reply (subst (λ a. MayLook r t a ETIMEDOUT) (sym op) look))
    by_cases on op reply waited false nobodys =
        let old = either (begins_call t e.fact) (chances_behind t m es).waited (or_other (not (begins_call t e.fact) && (chances_behind t m es).waited) (is_anothers t other) waited nobodys) in
        let c = carries t k z is old.0 in
        let waits : Waits m (stage.Calling k made.Nothing c.asleep) (turn_at ts t) (call_at s.calls t) (chances_behind t m es) = subst (λ q. Waits m q (turn_at ts t) (call_at s.calls t) (chances_behind t m es)) c.was (x.waits t) in
        c.seen (waits on op (ap reply_of (sym c.turn) ∙ reply) old.1)
  go st is = tt
