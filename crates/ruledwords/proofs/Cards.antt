-- What cards tell, from step to step.
use Rattle.std.proofs.Common.{Bool, ◌≡◌, ◌≢◌, ℕ, ◌≤◌, Option, Some, None, List, [], ◌∷◌, ◌++◌, refl, sym, ap, ◌∙◌, subst, arith, append-nil, append_assoc}
use mathlib.Core.Logic.{dite}
use native.Mathlib.Decide.{ℕ_discrete}
use Rattle.lockword.specs.declared.reply.Reply.{Reply}
use Rattle.posixmutex.specs.declared.object.Object.{Object}
use Rattle.posixmutex.specs.declared.point.Operation.{Operation}
use Rattle.posixmutex.specs.declared.point.Point.{Point}
use Rattle.memorymap.specs.Layouts.{Layout', IsLayout, base_of, cell_place}
use Rattle.mutex.proofs.Addresses.{same_place}
use Rattle.posixmutex.specs.Objects.{fresh, Run}
use Rattle.facts.specs.Lives.{Complete}
use Rattle.mutex.specs.Standings.{Standing}
use Rattle.ruledwords.specs.declared.pass.Card.{Card}
use Rattle.ruledwords.specs.declared.pass.Change.{Change}
use Rattle.ruledwords.specs.Calls.{acts, IsOnMutex}
use Rattle.ruledwords.specs.Looks.{noted, KnowsTheSame}
use Rattle.ruledwords.specs.Cards.{at}
use Rattle.ruledwords.specs.Changes.{ChangedNone, KnowsOn}
use Rattle.ruledwords.proofs.Changes.{knows_on_self, knows_on_then, none_self, none_then}
use Rattle.ruledwords.specs.Passes.{IsCardOf}
use Rattle.ruledwords.specs.Rules.{first_card}
use Rattle.ruledwords.specs.Seen.{by, count_acts, points_of, EndsWith, Saw, Called, Died, Leaves, Sees, Joined}
use Rattle.ruledwords.proofs.Lists.{told}

-- a call is on one mutex
pub same_mutex : (k : Layout') (p : Standing) (m l : ℕ) → IsLayout k → 1 ≤ p.thread → p.thread ≤ k.threads → IsOnMutex k p m → IsOnMutex k p l → l ≡ m
same_mutex k p m l layout first known here there =
    let a = here.0 in let b = there.0 in
    let e = same_place k p.thread layout first known (cell_place k l) (cell_place k m) (omega arith) (omega arith) (sym there.1 ∙ here.1) in
    omega (arith, e)

-- ---- cards of a layout

pub first_is : (k : Layout') (counters : List ℕ) (t : ℕ) → IsLayout k → 1 ≤ t → t ≤ k.threads → IsCardOf k (first_card k counters t)
first_is k counters t layout first low = record { layout = layout; threads = refl; first = first; thread = low; base = refl; legal = λ p. (fresh, (refl, tt)) }

pub still_card : (k : Layout') (c : Card) (p : ℕ) (new : List Point) (o : Object) (d : Card) → IsCardOf k c → Sees c p new o d → IsCardOf k d
still_card k c p new o d is s = record {
  layout = is.layout;
  threads = s.threads ∙ is.threads;
  first = subst (λ (z : ℕ). 1 ≤ z) (sym s.thread) is.first;
  thread = subst (λ (z : ℕ). z ≤ k.threads) (sym s.thread) is.thread;
  base = s.base ∙ is.base ∙ ap (base_of k) (sym s.thread);
  legal = λ q. dite (ℕ_discrete q p)
      (λ here. (o, subst (λ (z : ℕ × ℕ). Leaves z.0 z.1 (at d.seen z.1) o) (λ i. (sym s.threads i, sym here i)) s.leaves))
      (λ other. let was = is.legal q in (was.0, subst (λ (z : ℕ × List Point). Leaves z.0 q z.1 was.0) (λ i. (sym s.threads i, sym (s.elsewhere q other) i)) was.1));
}

pub first_met : (k : Layout') (c d c' d' : Card) → IsCardOf k c → Joined c d c' d' → IsCardOf k c'
first_met k c d c' d' is j = subst (IsCardOf k) (sym j.first) record { layout = is.layout; threads = is.threads; first = is.first; thread = is.thread; base = is.base; legal = j.legal }

pub second_met : (k : Layout') (c d c' d' : Card) → IsCardOf k c → IsCardOf k d → Joined c d c' d' → IsCardOf k d'
second_met k c d c' d' first is j = subst (IsCardOf k) (sym j.second) record {
  layout = is.layout;
  threads = is.threads;
  first = is.first;
  thread = is.thread;
  base = is.base;
  legal = λ p. let l = j.legal p in (l.0, subst (λ (n : ℕ). Leaves n p (at j.seen p) l.0) (first.threads ∙ sym is.threads) l.1);
}

-- ---- calls

-- it is no matter to the mutex at which address its point names it
pub run_at : (o n : Object) (t p q : ℕ) (op : Operation) (r : Option Reply) → Run o (told t p op r) n → Run o (told t q op r) n
run_at o n t p q op None run = run
run_at o n t p q op (Some x) run = run

-- of what a call decided, its point
pub acts_told : (t p : ℕ) (op : Operation) (r : Option Reply) → points_of t p (acts op r) ≡ told t p op r
acts_told t p op None = refl
acts_told t p op (Some x) = refl

pub saw_nothing : (c : Card) (p : ℕ) → Called c p [] c
saw_nothing c p = record {
  saw = record { thread = refl; threads = refl; base = refl; elsewhere = λ q other. refl; since = []; grows = sym (append-nil _); own = sym (append-nil _); knows = knows_on_self c; still = λ none. none_self (λ x. x ≢ p) c };
  last = tt;
}

-- an undecided call after a step, which may be its point
pub saw_more : (c : Card) (p : ℕ) (d : Card) (op : Operation) (r : Option Reply) (o : Object) (e : Card) → Called c p [] d → Sees d p (told d.thread p op r) o e → KnowsOn d e → (count_acts (acts op r) ≡ 0 → ChangedNone (λ x. x ≢ p) d e) → Called c p (acts op r) e
saw_more c p d op r o e called sees more none = record {
  saw = record {
    thread = sees.thread ∙ was.thread;
    threads = sees.threads ∙ was.threads;
    base = sees.base ∙ was.base;
    elsewhere = λ q other. sees.elsewhere q other ∙ was.elsewhere q other;
    since = was.since ++ (sees.between ++ told d.thread p op r);
    grows = sees.grows ∙ append_assoc (at d.seen p) sees.between (told d.thread p op r) ∙ ap (λ l. l ++ (sees.between ++ told d.thread p op r)) was.grows ∙ append_assoc (at c.seen p) was.since (sees.between ++ told d.thread p op r);
    own = subst (λ (t : ℕ). by t (at e.seen p) ≡ by t (at d.seen p) ++ told t p op r) was.thread sees.own ∙ ap (λ l. l ++ told c.thread p op r) (was.own ∙ append-nil _) ∙ ap (λ l. by c.thread (at c.seen p) ++ l) (sym (acts_told c.thread p op r));
    knows = knows_on_then c d e was.threads was.knows more;
    still = λ few. none_then (λ x. x ≢ p) (λ x. x ≢ p) c d e was.thread (λ x there. there) (was.still refl) (none few);
  };
  last = go r sees.grows;
} where
  was : Saw c p [] d
  was = called.saw

  go : (r : Option Reply) → at e.seen p ≡ (at d.seen p ++ sees.between) ++ told d.thread p op r → EndsWith (at e.seen p) (points_of c.thread p (acts op r))
  go None grows = tt
  go (Some x) grows = (at d.seen p ++ sees.between, subst (λ (t : ℕ). at e.seen p ≡ (at d.seen p ++ sees.between) ++ told t p op (Some x)) was.thread grows)

-- a thread that dies in a call has made its point, or not yet
pub dies : (c : Card) (p : ℕ) (op : Operation) (r : Option Reply) (d : Card) → ((x : Reply) → Complete op ((op, x) ∷ []) x) → Called c p (acts op r) d → Died c p op d
dies c p op None d complete called = record { acts = []; beginning = ((op, Rattle.lockword.specs.declared.reply.Reply.TheVariants.OK) ∷ [], Rattle.lockword.specs.declared.reply.Reply.TheVariants.OK, complete _); saw = called.saw }
dies c p op (Some x) d complete called = record { acts = (op, x) ∷ []; beginning = ([], x, complete x); saw = called.saw }

-- ---- what a look notes

pub is_noted : (k : Layout') (c : Card) (n t : ℕ) (zs : List (List Change)) → IsCardOf k c → IsCardOf k (noted c n t zs)
is_noted k c n t zs is = record { layout = is.layout; threads = is.threads; first = is.first; thread = is.thread; base = is.base; legal = is.legal }

pub is_marking : (k : Layout') (c : Card) (n : ℕ) (marks : List Bool) (zs : List (List Change)) → IsCardOf k c → IsCardOf k record c { last = n; marks = marks; changes = zs }
is_marking k c n marks zs is = record { layout = is.layout; threads = is.threads; first = is.first; thread = is.thread; base = is.base; legal = is.legal }

pub knows_same : (c d : Card) (n t : ℕ) (zs : List (List Change)) → d ≡ noted c n t zs → KnowsTheSame c d
knows_same c d n t zs e = subst (λ (z : Card). z ≡ noted c z.last z.trims z.changes) (sym e) refl

-- the word that was found, and the trims
pub last_noted : (c d : Card) (n t : ℕ) (zs : List (List Change)) → d ≡ noted c n t zs → (d.last ≡ n) × (d.trims ≡ t)
last_noted c d n t zs e = (ap (λ (z : Card). z.last) e, ap (λ (z : Card). z.trims) e)
