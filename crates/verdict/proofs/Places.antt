-- What is kept of the newest event says how a line may be after all lines.
use Rattle.std.proofs.Common.{◌≡◌, inl, inr, ℕ, ◌≤◌, ◌==◌, List, [], ◌∷◌, ◌&&◌, ◌||◌, Bool, true, false, Option, None, Some, refl, sym, ap, subst, ◌∙◌, arith}
use Rattle.std.specs.Prelude.{if◌then◌else◌}
use Rattle.std.proofs.lemmas.Bool.Decides.{nat_tests}
use Rattle.facts.specs.declared.fact.Fact.{Fact}
use Rattle.facts.specs.declared.fact.Line.{Line}
use Rattle.verdict.specs.declared.place.Place.{Place}
use Rattle.facts.specs.Facts.{thread_of, decides, is_passive, is_kill}
use Rattle.facts.specs.Orders.{Later}
use Rattle.verdict.specs.declared.misfit.Misfit.{Misfit}
use Rattle.verdict.specs.declared.misfit.Misfit.TheVariants.{EventFalls, AnothersEvent, EventDecided, KillShares, EventKilled}
use Rattle.verdict.specs.Earlier.{latest}
use Rattle.verdict.specs.Misfits.{IsDoneBy, IsOutOfOrder, Told}
use Rattle.verdict.specs.Places.{Admits, Clashes, Stands, caller, placed, nowhere}

not_both : (b : Bool) → b ≡ true → b ≡ false → ⊥
not_both b e f = let g = sym e ∙ f in absurd cc

not_either : (a b : Bool) → (a || b) ≡ false → (a ≡ false) × (b ≡ false)
not_either false b e = (refl, e)
not_either true b e = absurd cc

-- ---- forwards

admits_own : (same : Bool) (t : Option ℕ) (a e : Fact) → Admits (caller same t a) e → is_passive a ≡ false → is_passive e ≡ false → thread_of a ≡ thread_of e
admits_own same t a e h pa pe = go (is_passive a) pa h where
  go : (b : Bool) → b ≡ false → Admits (if b then (if same then t else None) else Some (thread_of a)) e → thread_of a ≡ thread_of e
  go false is h = sym (h pe)
  go true is h = absurd cc

admits_before : (t : Option ℕ) (a e : Fact) → Admits (caller true t a) e → Admits t a → Admits t e
admits_before None a e h k = tt
admits_before (Some t) a e h k = λ pe. go (is_passive a) refl h pe where
  go : (b : Bool) → is_passive a ≡ b → Admits (if b then Some t else Some (thread_of a)) e → is_passive e ≡ false → thread_of e ≡ t
  go true is h pe = h pe
  go false is h pe = h pe ∙ k is

pub stands_later : (p : Place) (a e : Line) → Stands p a → Stands (placed p a) e → Later a e
stands_later p a e sa (inl lt) = record {
  never_falls = omega arith;
  decisions_rise = λ _ _. omega arith;
  one_thread = λ s. absurd (omega arith);
  kill_before = λ _. omega arith;
  kill_behind = λ _. omega arith;
}
stands_later p a e sa (inr h) = record {
  never_falls = omega (arith, h.0);
  decisions_rise = λ da de. absurd (not_both (decides a.fact) da (not_either (decides a.fact) ((p.event == a.event) && p.decided) (h.1.decides de)).0);
  one_thread = λ _ pa pe. admits_own (p.event == a.event) p.thread a.fact e.fact h.1.admits pa pe;
  kill_before = λ k. absurd (not_both (is_kill a.fact) k h.1.killed);
  kill_behind = λ k. absurd (not_both (is_kill e.fact) k h.1.kills);
}

pub stands_before : (p : Place) (a e : Line) → Stands p a → Stands (placed p a) e → Stands p e
stands_before p a e (inl la) (inl lt) = inl (omega arith)
stands_before p a e (inr ha) (inl lt) = inl (omega (arith, ha.0))
stands_before p a e (inl la) (inr h) = inl (omega (arith, h.0))
stands_before p a e (inr ha) (inr h) =
    let same : (p.event == a.event) ≡ true = let e = ha.0 in grind (arith, nat_tests) in
    let adm : Admits (caller true p.thread a.fact) e.fact = subst (λ b. Admits (caller b p.thread a.fact) e.fact) same h.1.admits in
    inr (
      ha.0 ∙ h.0,
      record {
        admits = admits_before p.thread a.fact e.fact adm ha.1.admits;
        killed = ha.1.killed;
        kills = h.1.kills;
        decides = λ de. sym (ap (λ b. b && p.decided) same) ∙ (not_either (decides a.fact) ((p.event == a.event) && p.decided) (h.1.decides de)).1;
      },
    )

-- ---- what is kept is what was recorded

-- the lines of the newest event told what the place has of it
pub record Recalls (p : Place) (told : List Line) : Type 0 where
  pub line : 1 ≤ p.event → p.killed ≡ false → Told (λ f. is_kill f ≡ false) p.event told
  pub thread : (t : ℕ) → p.thread ≡ Some t → Told (IsDoneBy t) p.event told
  pub decided : p.decided ≡ true → Told (λ f. decides f ≡ true) p.event told
  pub killed : p.killed ≡ true → Told (λ f. is_kill f ≡ true) p.event told

caller_told : (p : Place) (told : List Line) (e : Line) (t : ℕ) → Recalls p told → caller (p.event == e.event) p.thread e.fact ≡ Some t → Told (IsDoneBy t) e.event (e ∷ told)
caller_told p told e t r is = go (is_passive e.fact) refl (p.event == e.event) refl is where
  go : (b : Bool) → is_passive e.fact ≡ b → (s : Bool) → (p.event == e.event) ≡ s → (if b then (if s then p.thread else None) else Some (thread_of e.fact)) ≡ Some t → Told (IsDoneBy t) e.event (e ∷ told)
  go false acts s same is = inl (refl, (acts, cc))
  go true acts true same is = let at : p.event ≡ e.event = grind (arith, nat_tests) in inr (subst (λ i. Told (IsDoneBy t) i told) at (r.thread t is))
  go true acts false same is = absurd cc

decided_told : (p : Place) (told : List Line) (e : Line) → Recalls p told → (decides e.fact || ((p.event == e.event) && p.decided)) ≡ true → Told (λ f. decides f ≡ true) e.event (e ∷ told)
decided_told p told e r is = go (decides e.fact) refl (p.event == e.event) refl is where
  go : (b : Bool) → decides e.fact ≡ b → (s : Bool) → (p.event == e.event) ≡ s → (b || (s && p.decided)) ≡ true → Told (λ f. decides f ≡ true) e.event (e ∷ told)
  go true does s same is = inl (refl, does)
  go false does true same is = let at : p.event ≡ e.event = grind (arith, nat_tests) in inr (subst (λ i. Told (λ f. decides f ≡ true) i told) at (r.decided is))
  go false does false same is = absurd cc

pub recalls_next : (p : Place) (told : List Line) (e : Line) → Recalls p told → Recalls (placed p e) (e ∷ told)
recalls_next p told e r = record {
  line = λ some is. inl (refl, is);
  thread = λ t is. caller_told p told e t r is;
  decided = λ is. decided_told p told e r is;
  killed = λ is. inl (refl, is);
}

pub recalls_nowhere : Recalls nowhere []
recalls_nowhere = record {
  line = λ some is. absurd (omega (arith, some));
  thread = λ t is. absurd cc;
  decided = λ is. absurd cc;
  killed = λ is. absurd cc;
}

pub clashes_out : (m : Misfit) (p : Place) (told : List Line) (e : Line) → Recalls p told → p.event ≡ latest told → 1 ≤ e.event → Clashes m p e → IsOutOfOrder m told e
clashes_out (EventFalls n) p told e r at some h = (h.0 ∙ at, h.1)
clashes_out (AnothersEvent t) p told e r at some h = (subst (λ i. Told (IsDoneBy t) i told) h.0 (r.thread t h.1.0), h.1.1, h.1.2)
clashes_out EventDecided p told e r at some h = (subst (λ i. Told (λ f. decides f ≡ true) i told) h.0 (r.decided h.1.0), h.1.1)
clashes_out KillShares p told e r at some h = let same : p.event ≡ e.event = h.0 in (subst (λ i. Told (λ f. is_kill f ≡ false) i told) h.0 (r.line (omega arith) h.1.0), h.1.1)
clashes_out EventKilled p told e r at some h = subst (λ i. Told (λ f. is_kill f ≡ true) i told) h.0 (r.killed h.1)
clashes_out m p told e r at some h = absurd h.1
