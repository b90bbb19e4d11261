-- A line that is seen, and what stands after it.
use Rattle.std.proofs.Common.{◌≡◌, ◌≢◌, ℕ, ◌<◌, ◌≤◌, ◌==◌, ◌⊎◌, inl, inr, Bool, true, false, List, [], ◌∷◌, length, refl, sym, ap, subst, ◌∙◌, arith, get_or-set_same, get_or-set_other, length-set}
use Rattle.std.specs.Prelude.{if◌then◌else◌, Option, Some, None, Contains, slice_set}
use Rattle.std.specs.Option.{is_some}
use Rattle.std.proofs.lemmas.Bool.Decides.{nat_tests}
use Rattle.lockword.specs.declared.reply.Reply.{Reply}
use Rattle.posixmutex.specs.declared.object.Object.{Object}
use Rattle.posixmutex.specs.declared.point.Operation.{Operation}
use Rattle.facts.specs.declared.fact.Begun.{Begun}
use Rattle.facts.specs.declared.fact.Fact.{Fact}
use Rattle.facts.specs.declared.fact.Fact.TheVariants as fact
use Rattle.facts.specs.declared.fact.Line.{Line}
use Rattle.facts.specs.Facts.{decision_of, thread_of}
use Rattle.facts.specs.Orders.{Each}
use Rattle.verdict.specs.declared.stage.Made.{Made as TheirMade}
use Rattle.verdict.specs.declared.stage.Made.TheVariants as made
use Rattle.verdict.specs.declared.stage.Stage.{Stage}
use Rattle.verdict.specs.declared.stage.Stage.TheVariants as stage
use Rattle.verdict.specs.Earlier.{chances_behind, is_killed, moved, objects_after, told_of}
use Rattle.verdict.specs.Fits.{Fits, OwnsNothing}
use Rattle.verdict.specs.Judges.{IsMutex}
use Rattle.verdict.specs.Stages.{May, MayReturnNow, next}
use Rattle.verdict.specs.Verdicts.{AllFit}
use Rattle.verdict.proofs.Stages.{Kept}
use Rattle.histories.specs.declared.entry.Entry.{Entry}
use Rattle.histories.specs.declared.entry.Entry.TheVariants.{Told, Doom}
use Rattle.histories.specs.Histories.{AllReleaseWell, Certifies, ReleasesWell, is_hidden, with, without}
use Rattle.histories.specs.Histories.{Shows, Nothing, Hides, Tells, Dooms, Kills}
use Rattle.refuting.specs.declared.refuter.Refuter.{Refuter}
use Rattle.refuting.specs.declared.state.Call.{Call}
use Rattle.refuting.specs.declared.state.Made.{Made}
use Rattle.refuting.specs.declared.state.Made.TheVariants as my
use Rattle.refuting.specs.declared.state.State.{State}
use Rattle.refuting.specs.declared.turn.Turn.{Turn}
use Rattle.refuting.specs.declared.turn.Turn.TheVariants.{Resting, Calling, Dying}
use Rattle.refuting.specs.States.{ids, Covered, call_at, first_call}
use Rattle.refuting.specs.Counts.{count_after, count_at}
use Rattle.refuting.specs.Steps.{IsClosed}
use Rattle.refuting.specs.Following.{Follows, Goes, HasCome, HasMade, HaveWaited, IsOpen, MayBeTold, Retells, StandsFor, Waits, renewed, stage_after}
use Rattle.refuting.specs.Turns.{InCall, Turned, after_doom, call_on, entry_thread, if_on, reply_in, reply_of, turn_after, turn_at}
use Rattle.refuting.proofs.Staging.{TurnsTo, stage_kept, stage_may, turned_doom, turned_hidden, turned_kill, turned_told}
use Rattle.refuting.proofs.Waiting.{Setting, carried, seen_on, waits_covered, waits_on, waits_silent}
use Rattle.refuting.proofs.Standing.{Stood, lift, no_change, same_or_not, stands_on}
use Rattle.refuting.proofs.Hiding.{Scene, death_stands, move_stands, point_stands, sleep_stands, wake_stands}

-- a line is taken
pub record Step (n : ℕ) (h future : List Entry) (e : Entry) (x : Option Reply) (r k : Refuter) (after : Turn) : Type 0 where
  pub inside : r.mutex < n
  pub follows : Follows n h (e ∷ future) r
  pub reply : x ≡ reply_in (entry_thread e) future
  pub turn : turn_after (turn_at r.turns (entry_thread e)) e x ≡ Some after
  pub turns : k.turns ≡ slice_set r.turns (entry_thread e) after
  pub mutex : k.mutex ≡ r.mutex
  pub first : 1 ≤ entry_thread e
  pub last : entry_thread e < ids
  pub retells : Retells r.mutex (turn_at r.turns (entry_thread e)) e r.states.items k.states.items
  pub held : k.held ≡ slice_set r.held (entry_thread e) (count_after (turn_at r.turns (entry_thread e)) e (count_at r.held (entry_thread e)))
  pub closed : IsClosed k.mutex k.turns k.states.items

-- what stands for a trace
pub record Standing (m : ℕ) (ts : List Turn) (ss : List State) (d : ℕ → Bool) (es : List Line) : Type 0 where
  pub turned : (t : ℕ) → Turned (turn_at ts t) (stage_after t es) (d t)
  pub stood : Stood m ts ss es

-- ---- turns

pub turn_here : (ts us : List Turn) (u : ℕ) (after : Turn) → us ≡ slice_set ts u after → length ts ≡ ids → u < ids → turn_at us u ≡ after
turn_here ts us u after is long lt = let inside : u < length ts = omega (arith, long, lt) in ap (λ z. turn_at z u) is ∙ get_or-set_same ts u after Resting inside

pub turn_there : (ts us : List Turn) (u t : ℕ) (after : Turn) → us ≡ slice_set ts u after → t ≢ u → turn_at us t ≡ turn_at ts t
turn_there ts us u t after is other = ap (λ z. turn_at z t) is ∙ get_or-set_other ts u t after Resting other

same_after : (o : Option Turn) (a b : Turn) → o ≡ Some a → o ≡ Some b → a ≡ b
same_after o a b x y = let both : Some a ≡ Some b = sym x ∙ y in cc

-- threads' turns after one more line
turned_on : (ts us : List Turn) (d c : ℕ → Bool) (e : Line) (es : List Line) → ((t : ℕ) → Turned (turn_at ts t) (stage_after t es) (d t))
    → ((t : ℕ) → t ≢ thread_of e.fact → (turn_at us t ≡ turn_at ts t) × (c t ≡ d t))
    → Turned (turn_at us (thread_of e.fact)) (next (stage_after (thread_of e.fact) es) e.fact) (c (thread_of e.fact)) → (t : ℕ) → Turned (turn_at us t) (stage_after t (e ∷ es)) (c t)
turned_on ts us d c e es old same own t = by_cases (thread_of e.fact == t) refl where
  by_cases : (b : Bool) → (thread_of e.fact == t) ≡ b → Turned (turn_at us t) (if b then next (stage_after t es) e.fact else stage_after t es) (c t)
  by_cases true is =
      let eq : thread_of e.fact ≡ t = grind (arith, nat_tests) in
      subst (λ v. Turned (turn_at us v) (next (stage_after v es) e.fact) (c v)) eq own
  by_cases false is =
      let other : t ≢ thread_of e.fact = grind (arith, nat_tests) in
      subst (λ z. Turned z (stage_after t es) (c t)) (sym (same t other).0) (subst (Turned (turn_at ts t) (stage_after t es)) (sym (same t other).1) (old t))

-- ---- states

-- a state with the calls of another, except for one thread's
told_stands : (m : ℕ) (ts us : List Turn) (rs : List State) (d : ℕ → Bool) (e : Line) (es : List Line) (s q : State) → Setting m ts us rs d s e es → is_hidden e.fact ≡ false → StandsFor m ts es s → decision_of e.fact ≡ None → q.object ≡ s.object → length q.calls ≡ length s.calls
    → ((u : ℕ) → u ≢ thread_of e.fact → call_at q.calls u ≡ call_at s.calls u) → ((u : ℕ) → u ≢ thread_of e.fact → turn_at us u ≡ turn_at ts u)
    → Goes m (next (stage_after (thread_of e.fact) es) e.fact) (turn_at us (thread_of e.fact)) (call_at q.calls (thread_of e.fact)) → Covered rs q → Stood m us rs (e ∷ es)
told_stands m ts us rs d e es s q x seen h silent object long calls turns own cov = record {
  state = cov.0;
  there = cov.1;
  stands = stands;
  waits = waits_on m ts us rs d s cov.0 e es x cov.1 stands (carried ts us s cov.0 e es (λ u other. (turns u other, λ is. (cov.2.calls u).1 (ap (λ (k : Call). k.seen) (calls u other) ∙ is))) (λ k z after old. absurd (seen_on (stage_after (thread_of e.fact) es) e.fact k z seen old after)));
} where
  stands : StandsFor m us (e ∷ es) cov.0
  stands = stands_on m us (e ∷ es) cov.0 q cov.2 (record {
    object = object ∙ h.object ∙ sym (ap (λ o. moved (objects_after es) o m) silent);
    long = long ∙ h.long;
    calls = lift m ts us s.calls q.calls e es h.calls calls turns own;
  })

renewed_there : (s : State) (t u : ℕ) → u ≢ t → call_at (renewed s t).calls u ≡ call_at s.calls u
renewed_there s t u other = get_or-set_other s.calls t u first_call first_call other

-- ---- what a state allows

open_returns : (a : Operation) (q : Made) (b : Bool) (y : Reply) → IsOpen q → b ≡ true → HasMade a q b y
open_returns a my.Nothing b y o seen = seen
open_returns a my.Released b y o seen = seen
open_returns a (my.Changed x) b y o seen = absurd o

may_return : (a : Operation) (its : TheirMade) (c : Call) (x : Option Reply) (z : Reply) → HasCome a its x c → MayReturnNow a its z → x ≡ Some z → MayBeTold a c z
may_return a (made.Decided y) c x z (inl is) may reply = subst (λ q. HasMade a q c.seen z) (sym is) may
may_return a (made.Decided y) c x z (inr h) may reply = open_returns a c.made c.seen z h.0 (h.1 z may reply)
may_return a its c x z come may reply = absurd may

pub record Calls (c : Begun) (turn : Turn) : Type 0 where
  pub reply : Option Reply
  pub is : turn ≡ Calling c reply

pub in_call : (c : Begun) (turn : Turn) → InCall c turn false → Calls c turn
in_call c (Calling k x) is = record { reply = x; is = ap (λ z. Calling z x) is }
in_call c turn is = absurd is

on_mutex : (m : ℕ) (c k : Begun) → if_on m c ≡ Some k → c.mutex ≡ m
on_mutex m c k = by_cases (c.mutex == m) refl where
  by_cases : (b : Bool) → (c.mutex == m) ≡ b → (if b then Some c else None) ≡ Some k → c.mutex ≡ m
  by_cases true is on = grind (arith, nat_tests)
  by_cases false is on = absurd cc

same_call : (m : ℕ) (c k : Begun) → if_on m c ≡ Some k → c ≡ k
same_call m c k = by_cases (c.mutex == m) where
  by_cases : (b : Bool) → (if b then Some c else None) ≡ Some k → c ≡ k
  by_cases true on = cc
  by_cases false on = absurd cc

returned : (u : ℕ) (y : Reply) (future : List Entry) → reply_in u (Told (fact.Return u y) ∷ future) ≡ Some y
returned u y future = by_cases (u == u) refl where
  by_cases : (b : Bool) → (u == u) ≡ b → (if b then Some y else reply_in u future) ≡ Some y
  by_cases true is = refl
  by_cases false is = let other : u ≢ u = grind (arith, nat_tests) in absurd (other refl)

allows_return : (m : ℕ) (turn : Turn) (z : Stage) (c : Call) (u : ℕ) (y : Reply) (future : List Entry) → May z (fact.Return u y) → Turned turn z false
    → ((k : Begun) (x : Option Reply) → turn ≡ Calling k x → x ≡ reply_in u (Told (fact.Return u y) ∷ future)) → Goes m z turn c → (k : Begun) → call_on m turn ≡ Some k → MayBeTold k.operation c y
allows_return m turn (stage.Calling b its a) c u y future may turned knows goes k on =
    let calls : Calls b turn = in_call b turn turned in
    let its_own : if_on m b ≡ Some k = subst (λ z. call_on m z ≡ Some k) calls.is on in
    let here : b.mutex ≡ m = on_mutex m b k its_own in
    let reply : calls.reply ≡ Some y = knows b calls.reply calls.is ∙ returned u y future in
    let come : HasCome b.operation its calls.reply c = subst (λ z. HasCome b.operation its (reply_of z) c) calls.is (goes here) in
    subst (λ (q : Begun). MayBeTold q.operation c y) (same_call m b k its_own) (may_return b.operation its c calls.reply y come may.1 reply)
allows_return m turn z c u y future may turned knows goes k on = absurd may

-- ---- a line that is seen

-- what a line finds: a state that stands for the trace before it
pub record Before (n : ℕ) (h future : List Entry) (f : Fact) (x : Option Reply) (r k : Refuter) (after : Turn) (d : ℕ → Bool) (es : List Line) (s : State) : Type 0 where
  pub step : Step n h future (Told f) x r k after
  pub there : Contains r.states.items s
  pub stands : StandsFor r.mutex r.turns es s
  pub turned : Turned (turn_at r.turns (thread_of f)) (stage_after (thread_of f) es) false
  pub may : May (stage_after (thread_of f) es) f
  pub nothing : OwnsNothing n (objects_after es) f
  pub seen : is_hidden f ≡ false

others_turns : (n : ℕ) (h future : List Entry) (e : Entry) (x : Option Reply) (r k : Refuter) (after : Turn) → Step n h future e x r k after → (u : ℕ) → u ≢ entry_thread e → turn_at k.turns u ≡ turn_at r.turns u
others_turns n h future e x r k after st u other = turn_there r.turns k.turns (entry_thread e) u after st.turns other

-- the thread has no call any more
ends : (n : ℕ) (h future : List Entry) (i : ℕ) (f : Fact) (x : Option Reply) (r k : Refuter) (after : Turn) (d : ℕ → Bool) (es : List Line) (s : State) → Before n h future f x r k after d es s → Setting r.mutex r.turns k.turns k.states.items d s (record { event = i; fact = f }) es
    → decision_of f ≡ None → Goes r.mutex (next (stage_after (thread_of f) es) f) (turn_at k.turns (thread_of f)) (call_at (renewed s (thread_of f)).calls (thread_of f))
    → Covered k.states.items (renewed s (thread_of f)) → Stood r.mutex k.turns k.states.items (record { event = i; fact = f } ∷ es)
ends n h future i f x r k after d es s b y silent own cov =
    told_stands r.mutex r.turns k.turns k.states.items d (record { event = i; fact = f }) es s (renewed s (thread_of f)) y b.seen b.stands silent refl (length-set s.calls (thread_of f) first_call) (renewed_there s (thread_of f))
    (others_turns n h future (Told f) x r k after b.step) own cov

-- and stands as it did
stays : (n : ℕ) (h future : List Entry) (i : ℕ) (f : Fact) (x : Option Reply) (r k : Refuter) (after : Turn) (d : ℕ → Bool) (es : List Line) (s : State) → Before n h future f x r k after d es s → Setting r.mutex r.turns k.turns k.states.items d s (record { event = i; fact = f }) es
    → decision_of f ≡ None → Goes r.mutex (next (stage_after (thread_of f) es) f) (turn_at k.turns (thread_of f)) (call_at s.calls (thread_of f))
    → Covered k.states.items s → Stood r.mutex k.turns k.states.items (record { event = i; fact = f } ∷ es)
stays n h future i f x r k after d es s b y silent own cov =
    told_stands r.mutex r.turns k.turns k.states.items d (record { event = i; fact = f }) es s s y b.seen b.stands silent refl refl (λ u other. refl)
    (others_turns n h future (Told f) x r k after b.step) own cov

begins : (n : ℕ) (h future : List Entry) (i t : ℕ) (c : Begun) (x : Option Reply) (r k : Refuter) (after : Turn) (d : ℕ → Bool) (es : List Line) (s : State) → Before n h future (fact.Begin t c) x r k after d es s → Setting r.mutex r.turns k.turns k.states.items d s (record { event = i; fact = fact.Begin t c }) es
    → Stood r.mutex k.turns k.states.items (record { event = i; fact = fact.Begin t c } ∷ es)
begins n h future i t c x r k after d es s b st = by_cases (c.mutex == r.mutex) refl (b.step.retells s b.there tt) where
  by_cases : (y : Bool) → (c.mutex == r.mutex) ≡ y → Covered k.states.items (if y then renewed s t else s) → Stood r.mutex k.turns k.states.items (record { event = i; fact = fact.Begin t c } ∷ es)
  by_cases true is cov =
      let inside : t < length s.calls = omega (arith, b.step.last, b.stands.long) in
      let here : call_at (renewed s t).calls t ≡ first_call = get_or-set_same s.calls t first_call first_call inside in
      ends n h future i (fact.Begin t c) x r k after d es s b st refl (λ on. ap (λ (q : Call). q.made) here) cov
  by_cases false is cov =
      let other : c.mutex ≢ r.mutex = grind (arith, nat_tests) in
      stays n h future i (fact.Begin t c) x r k after d es s b st refl (λ on. absurd (other on)) cov

returns : (n : ℕ) (h future : List Entry) (i t : ℕ) (y : Reply) (x : Option Reply) (r k : Refuter) (after : Turn) (d : ℕ → Bool) (es : List Line) (s : State) → Before n h future (fact.Return t y) x r k after d es s → Setting r.mutex r.turns k.turns k.states.items d s (record { event = i; fact = fact.Return t y }) es
    → Stood r.mutex k.turns k.states.items (record { event = i; fact = fact.Return t y } ∷ es)
returns n h future i t y x r k after d es s b st = by_cases (is_some (call_on r.mutex (turn_at r.turns t))) (b.step.retells s b.there may) where
  may : (c : Begun) → call_on r.mutex (turn_at r.turns t) ≡ Some c → MayBeTold c.operation (call_at s.calls t) y
  may = allows_return r.mutex (turn_at r.turns t) (stage_after t es) (call_at s.calls t) t y future b.may b.turned (b.step.follows.knows t) (b.stands.calls t)

  by_cases : (q : Bool) → Covered k.states.items (if q then renewed s t else s) → Stood r.mutex k.turns k.states.items (record { event = i; fact = fact.Return t y } ∷ es)
  by_cases true cov = ends n h future i (fact.Return t y) x r k after d es s b st refl tt cov
  by_cases false cov = stays n h future i (fact.Return t y) x r k after d es s b st refl tt cov

reaps : (n : ℕ) (h future : List Entry) (i t : ℕ) (x : Option Reply) (r k : Refuter) (after : Turn) (d : ℕ → Bool) (es : List Line) (s : State) → Before n h future (fact.Reap t) x r k after d es s → Setting r.mutex r.turns k.turns k.states.items d s (record { event = i; fact = fact.Reap t }) es
    → Stood r.mutex k.turns k.states.items (record { event = i; fact = fact.Reap t } ∷ es)
reaps n h future i t x r k after d es s b st =
    ends n h future i (fact.Reap t) x r k after d es s b st refl tt (b.step.retells s b.there (λ owner. b.nothing r.mutex b.step.inside (ap (λ (o : Object). o.owner) (sym b.stands.object) ∙ owner)))

told_on : (n : ℕ) (h future : List Entry) (i : ℕ) (f : Fact) (x : Option Reply) (r k : Refuter) (after : Turn) (d : ℕ → Bool) (es : List Line) (s : State) → is_hidden f ≡ false → Before n h future f x r k after d es s → Setting r.mutex r.turns k.turns k.states.items d s (record { event = i; fact = f }) es
    → Stood r.mutex k.turns k.states.items (record { event = i; fact = f } ∷ es)
told_on n h future i (fact.Begin t c) x r k after d es s seen b st = begins n h future i t c x r k after d es s b st
told_on n h future i (fact.Return t y) x r k after d es s seen b st = returns n h future i t y x r k after d es s b st
told_on n h future i (fact.Kill t) x r k after d es s seen b st = ends n h future i (fact.Kill t) x r k after d es s b st refl tt (b.step.retells s b.there tt)
told_on n h future i (fact.Reap t) x r k after d es s seen b st = reaps n h future i t x r k after d es s b st
told_on n h future i (fact.Renew t) x r k after d es s seen b st = stays n h future i (fact.Renew t) x r k after d es s b st refl tt (b.step.retells s b.there tt)
told_on n h future i f x r k after d es s seen b st = absurd cc

-- what is known of all threads
pub record Known (m : ℕ) (ts : List Turn) (ss : List State) : Type 0 where
  pub long : length ts ≡ ids
  pub nobody : turn_at ts 0 ≡ Resting
  pub closed : IsClosed m ts ss

-- a seen line of a trace leaves what stands for it
seen_line : (n : ℕ) (h future : List Entry) (e : Line) (x : Option Reply) (r k : Refuter) (after : Turn) (d : ℕ → Bool) (es : List Line) → Step n h future (Told e.fact) x r k after → Known r.mutex k.turns k.states.items → Certifies n d es h
    → AllFit n (e ∷ es) → is_hidden e.fact ≡ false → d (thread_of e.fact) ≡ false → Standing r.mutex k.turns k.states.items d (e ∷ es)
seen_line n h future e x r k after d es st known cert fit seen free =
    let u = thread_of e.fact in
    let old = st.follows.turned d es cert in
    let turned : Turned (turn_at r.turns u) (stage_after u es) false = subst (Turned (turn_at r.turns u) (stage_after u es)) free (old u) in
    let may = stage_may n e es fit in
    let to : TurnsTo (turn_at r.turns u) e.fact x (next (stage_after u es) e.fact) = turned_told (turn_at r.turns u) (stage_after u es) e.fact x turned may seen in
    let same : to.after ≡ after = same_after (turn_after (turn_at r.turns u) (Told e.fact) x) to.after after to.is st.turn in
    let here : turn_at k.turns u ≡ after = turn_here r.turns k.turns u after st.turns st.follows.long st.last in
    let s = st.follows.stands d es cert in
    let after_it = turned_on r.turns k.turns d d e es old (λ t other. (others_turns n h future (Told e.fact) x r k after st t other, refl))
    (subst (Turned (turn_at k.turns u) (next (stage_after u es) e.fact)) (sym free) (subst (λ z. Turned z (next (stage_after u es) e.fact) false) (same ∙ sym here) to.turned)) in
    record {
      turned = after_it;
      stood = told_on n h future e.event e.fact x r k after d es s.0 seen (record { step = st; there = s.1; stands = s.2; turned = turned; may = may; nothing = fit.0.reaped; seen = seen })
          (record { noted = known.closed.noted; long = known.long; nobody = known.nobody; turned = after_it; waits = s.3 });
    }

-- ---- a doom

doom_silent : (turn after : Turn) → after_doom turn ≡ Some after → reply_of after ≡ None
doom_silent Resting after is = let same : Dying None ≡ after = cc in ap reply_of (sym same)
doom_silent (Calling c x) after is = let same : Dying (Some c) ≡ after = cc in ap reply_of (sym same)
doom_silent turn after is = absurd cc

-- a doomed thread's call returns nothing
doomed_come : (a : Operation) (its : TheirMade) (x y : Option Reply) (c : Call) → y ≡ None → HasCome a its x c → HasCome a its y c
doomed_come a made.Nothing x y c none h = h
doomed_come a made.Released x y c none h = h
doomed_come a (made.Decided z) x y c none (inl h) = inl h
doomed_come a (made.Decided z) x y c none (inr h) = inr (h.0, λ r may is. let no : None ≡ Some r = sym none ∙ is in absurd cc)

doomed_goes : (m : ℕ) (z : Stage) (turn after : Turn) (c : Call) → reply_of after ≡ None → Goes m z turn c → Goes m z after c
doomed_goes m (stage.Calling b its a) turn after c silent h = λ on. doomed_come b.operation its (reply_of turn) (reply_of after) c silent (h on)
doomed_goes m z turn after c silent h = tt

doom_line : (n : ℕ) (h future : List Entry) (u : ℕ) (x : Option Reply) (r k : Refuter) (after : Turn) (d : ℕ → Bool) (es : List Line) → Step n h future (Doom u) x r k after → Certifies n d es h
    → d u ≡ false → is_killed (told_of u es) ≡ false → Standing r.mutex k.turns k.states.items (with u d) es
doom_line n h future u x r k after d es st cert free alive = record { turned = turned; stood = stood } where
  m : ℕ
  m = r.mutex

  old : (t : ℕ) → Turned (turn_at r.turns t) (stage_after t es) (d t)
  old = st.follows.turned d es cert

  here : turn_at k.turns u ≡ after
  here = turn_here r.turns k.turns u after st.turns st.follows.long st.last

  there : (t : ℕ) → t ≢ u → turn_at k.turns t ≡ turn_at r.turns t
  there t other = turn_there r.turns k.turns u t after st.turns other

  own : Turned after (stage_after u es) true
  own =
      let doomed = turned_doom (turn_at r.turns u) (stage_after u es) (told_of u es) (subst (Turned (turn_at r.turns u) (stage_after u es)) free (old u)) (stage_kept n es cert.fits u) alive in
      subst (λ z. Turned z (stage_after u es) true) (same_after (after_doom (turn_at r.turns u)) doomed.after after doomed.is st.turn) doomed.turned

  turned : (t : ℕ) → Turned (turn_at k.turns t) (stage_after t es) (with u d t)
  turned t = by_cases (u == t) refl where
    by_cases : (b : Bool) → (u == t) ≡ b → Turned (turn_at k.turns t) (stage_after t es) (if b then true else d t)
    by_cases true is =
        let eq : u ≡ t = grind (arith, nat_tests) in
        subst (λ v. Turned (turn_at k.turns v) (stage_after v es) true) eq (subst (λ z. Turned z (stage_after u es) true) (sym here) own)
    by_cases false is =
        let other : t ≢ u = grind (arith, nat_tests) in
        subst (λ z. Turned z (stage_after t es) (d t)) (sym (there t other)) (old t)

  goes : (s : State) → StandsFor m r.turns es s → (t : ℕ) → Goes m (stage_after t es) (turn_at k.turns t) (call_at s.calls t)
  goes s h t = by_cases (same_or_not t u) where
    by_cases : (t ≡ u) ⊎ (t ≢ u) → Goes m (stage_after t es) (turn_at k.turns t) (call_at s.calls t)
    by_cases (inl eq) =
        let silent : reply_of (turn_at k.turns u) ≡ None = ap reply_of here ∙ doom_silent (turn_at r.turns u) after st.turn in
        subst (λ v. Goes m (stage_after v es) (turn_at k.turns v) (call_at s.calls v)) (sym eq) (doomed_goes m (stage_after u es) (turn_at r.turns u) (turn_at k.turns u) (call_at s.calls u) silent (h.calls u))
    by_cases (inr other) = subst (λ z. Goes m (stage_after t es) z (call_at s.calls t)) (sym (there t other)) (h.calls t)

  waits : (s : State) → HaveWaited m r.turns es s → HaveWaited m k.turns es s
  waits s h t = by_cases (same_or_not t u) where
    by_cases : (t ≡ u) ⊎ (t ≢ u) → Waits m (stage_after t es) (turn_at k.turns t) (call_at s.calls t) (chances_behind t m es)
    by_cases (inl eq) = waits_silent m (stage_after t es) (turn_at k.turns t) (call_at s.calls t) (chances_behind t m es) (ap (λ v. reply_of (turn_at k.turns v)) eq ∙ ap reply_of here ∙ doom_silent (turn_at r.turns u) after st.turn)
    by_cases (inr other) = subst (λ z. Waits m (stage_after t es) z (call_at s.calls t) (chances_behind t m es)) (sym (there t other)) (h t)

  stood : Stood m k.turns k.states.items es
  stood =
      let s = st.follows.stands d es cert in
      let cov : Covered k.states.items s.0 = st.retells s.0 s.1 tt in
      record {
        state = cov.0;
        there = cov.1;
        stands = stands_on m k.turns es cov.0 s.0 cov.2 (record { object = s.2.object; long = s.2.long; calls = goes s.0 s.2 });
        waits = λ t. waits_covered m (stage_after t es) (turn_at k.turns t) (call_at s.0.calls t) (call_at cov.0.calls t) (chances_behind t m es) (waits s.0 s.3 t) (cov.2.calls t);
      }

-- ---- lines that nobody sees

hidden_stood : (n m : ℕ) (ts : List Turn) (ss : List State) (es : List Line) (d : ℕ → Bool) (s : State) → Scene m ts ss es d s → (i : ℕ) (f : Fact) → Setting m ts ts ss d s (record { event = i; fact = f }) es → is_hidden f ≡ true → May (stage_after (thread_of f) es) f
    → Fits n es (record { event = i; fact = f }) → ReleasesWell es f → AllFit n es → Stood m ts ss (record { event = i; fact = f } ∷ es)
hidden_stood n m ts ss es d s x i (fact.Point p) y hid may fit well all =
    point_stands n m ts ss es d s x i p y fit.due may
    (λ k its z is op wait. well k op (subst (λ q. Kept q (told_of p.thread es)) is (stage_kept n es all p.thread)).0 wait) fit.allowed.0 fit.allowed.1
hidden_stood n m ts ss es d s x i (fact.Death t m') y hid may fit well all = death_stands n m ts ss es d s x i t m' y may fit.allowed.0 fit.allowed.1
hidden_stood n m ts ss es d s x i (fact.Sleep t q) y hid may fit well all = sleep_stands m ts ss es d s x i t q y may
hidden_stood n m ts ss es d s x i (fact.Wake t) y hid may fit well all = wake_stands m ts ss es d s x i t y may
hidden_stood n m ts ss es d s x i (fact.Move t m') y hid may fit well all = move_stands m ts ss es d s x i t m' y may
hidden_stood n m ts ss es d s x i f y hid may fit well all = absurd cc

scene_of : (m : ℕ) (ts : List Turn) (ss : List State) (d : ℕ → Bool) (es : List Line) → Known m ts ss → (st : Standing m ts ss d es) → Scene m ts ss es d st.stood.state
scene_of m ts ss d es k st = record { long = k.long; nobody = k.nobody; closed = k.closed; turned = st.turned; there = st.stood.there; stands = st.stood.stands }

pub hidden_line : (n m : ℕ) (ts : List Turn) (ss : List State) (d : ℕ → Bool) (e : Line) (es : List Line) → Known m ts ss → Standing m ts ss d es → is_hidden e.fact ≡ true → AllFit n (e ∷ es) → ReleasesWell es e.fact → Standing m ts ss d (e ∷ es)
hidden_line n m ts ss d e es k st hid fit well =
    let turned = turned_on ts ts d d e es st.turned (λ t other. (refl, refl)) (turned_hidden (turn_at ts (thread_of e.fact)) (stage_after (thread_of e.fact) es) e.fact (d (thread_of e.fact)) (st.turned (thread_of e.fact)) (stage_may n e es fit) hid) in
    record {
      turned = turned;
      stood = hidden_stood n m ts ss es d st.stood.state (scene_of m ts ss d es k st) e.event e.fact (record { noted = k.closed.noted; long = k.long; nobody = k.nobody; turned = turned; waits = st.stood.waits }) hid (stage_may n e es fit) fit.0 well fit.1;
    }

-- the kill of a doomed thread
pub without_one : (u t : ℕ) (d : ℕ → Bool) → t ≢ u → without u d t ≡ d t
without_one u t d other = by_cases (u == t) refl where
  by_cases : (b : Bool) → (u == t) ≡ b → (if b then false else d t) ≡ d t
  by_cases true is = let same : u ≡ t = grind (arith, nat_tests) in absurd (other (sym same))
  by_cases false is = refl

without_itself : (u : ℕ) (d : ℕ → Bool) → without u d u ≡ false
without_itself u d = by_cases (u == u) refl where
  by_cases : (b : Bool) → (u == u) ≡ b → (if b then false else d u) ≡ false
  by_cases true is = refl
  by_cases false is = let other : u ≢ u = grind (arith, nat_tests) in absurd (other refl)

pub killed_line : (m : ℕ) (ts : List Turn) (ss : List State) (d : ℕ → Bool) (i u : ℕ) (es : List Line) → Known m ts ss → Standing m ts ss d es → d u ≡ true → Standing m ts ss (without u d) (record { event = i; fact = fact.Kill u } ∷ es)
killed_line m ts ss d i u es k st doomed =
    let turned = turned_on ts ts d (without u d) (record { event = i; fact = fact.Kill u }) es st.turned (λ t other. (refl, without_one u t d other))
    (subst (Turned (turn_at ts u) (next (stage_after u es) (fact.Kill u))) (sym (without_itself u d)) (turned_kill (turn_at ts u) (stage_after u es) u (subst (Turned (turn_at ts u) (stage_after u es)) doomed (st.turned u)))) in
    record {
      turned = turned;
      stood = no_change m ts ss (without u d) (record { event = i; fact = fact.Kill u }) es st.stood.state (record { noted = k.closed.noted; long = k.long; nobody = k.nobody; turned = turned; waits = st.stood.waits }) st.stood.there st.stood.stands refl tt;
    }

-- ---- every trace

pub behind : (n : ℕ) (h future : List Entry) (e : Entry) (x : Option Reply) (r k : Refuter) (after : Turn) → Step n h future e x r k after → Known r.mutex k.turns k.states.items
    → (d : ℕ → Bool) (es : List Line) (g : List Entry) → Shows d es g → g ≡ e ∷ h → AllFit n es → AllReleaseWell es → Each (λ l. IsMutex n l.fact) es → Standing r.mutex k.turns k.states.items d es
behind n h future e x r k after st known d es g Nothing is fit well inside = let none : [] ≡ e ∷ h = is in absurd cc
behind n h future e x r k after st known d es g (Hides d' l es' g' hid shows) is fit well inside =
    hidden_line n r.mutex k.turns k.states.items d' l es' known (behind n h future e x r k after st known d' es' g' shows is fit.1 well.1 inside.1) hid fit well.0
behind n h future e x r k after st known d es g (Tells d' l es' g' seen free shows) is fit well inside =
    let all : Told l.fact ∷ g' ≡ e ∷ h = is in
    let one : Told l.fact ≡ e = cc in
    let rest : g' ≡ h = cc in
    seen_line n h future l x r k after d' es' (subst (λ z. Step n h future z x r k after) (sym one) st) known (record { fits = fit.1; waits = well.1; inside = inside.1; shows = subst (Shows d' es') rest shows }) fit seen free
behind n h future e x r k after st known d es g (Dooms d' u es' g' free alive shows) is fit well inside =
    let all : Doom u ∷ g' ≡ e ∷ h = is in
    let one : Doom u ≡ e = cc in
    let rest : g' ≡ h = cc in
    doom_line n h future u x r k after d' es' (subst (λ z. Step n h future z x r k after) (sym one) st) (record { fits = fit; waits = well; inside = inside; shows = subst (Shows d' es') rest shows }) free alive
behind n h future e x r k after st known d es g (Kills d' u l es' g' kill doomed shows) is fit well inside =
    subst (λ f. Standing r.mutex k.turns k.states.items (without u d') (record { event = l.event; fact = f } ∷ es')) (sym kill)
    (killed_line r.mutex k.turns k.states.items d' l.event u es' known (behind n h future e x r k after st known d' es' g' shows is fit.1 well.1 inside.1) doomed)
