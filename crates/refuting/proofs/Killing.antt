-- A doomed thread is killed after some line, or it isn't killed.
use Rattle.std.proofs.Common.{◌≡◌, ℕ, ◌==◌, ◌⊎◌, inl, inr, Bool, true, false, List, [], ◌∷◌, ◌++◌, refl, sym, ap, subst, ◌∙◌, arith, eq-eqb}
use Rattle.std.specs.Prelude.{if◌then◌else◌}
use Rattle.std.proofs.lemmas.Bool.Decides.{nat_tests}
use mathlib.Core.Path.{fun_ext}
use Rattle.facts.specs.declared.fact.Fact.{Fact}
use Rattle.facts.specs.declared.fact.Fact.TheVariants.{Kill}
use Rattle.facts.specs.declared.fact.Line.{Line}
use Rattle.facts.specs.Facts.{thread_of}
use Rattle.verdict.specs.Earlier.{is_killed, told_of}
use Rattle.histories.specs.declared.entry.Entry.{Entry}
use Rattle.histories.specs.declared.entry.Entry.TheVariants.{Told, Doom}
use Rattle.histories.specs.Histories.{LegalHistory, is_hidden, with, without}
use Rattle.histories.specs.Histories.{Shows, Nothing, Hides, Tells, Dooms, Kills}

-- ---- who is doomed

out_of : (t u : ℕ) (d : ℕ → Bool) → d u ≡ false → without t d u ≡ false
out_of t u d is = go (t == u)
  where
    go : (b : Bool) → (if b then false else d u) ≡ false
    go true = refl
    go false = is

still : (t u : ℕ) (d : ℕ → Bool) → (t == u) ≡ false → without t d u ≡ d u
still t u d other = ap (λ (b : Bool). if b then false else d u) other

itself : (t : ℕ) (d : ℕ → Bool) → with t d t ≡ true
itself t d = ap (λ (b : Bool). if b then true else d t) (eq-eqb t t refl)

not_itself : (t : ℕ) (d : ℕ → Bool) → without t d t ≡ false
not_itself t d = ap (λ (b : Bool). if b then false else d t) (eq-eqb t t refl)

with_more : (t u : ℕ) (d : ℕ → Bool) → d t ≡ true → with u d t ≡ true
with_more t u d is = go (u == t)
  where
    go : (b : Bool) → (if b then true else d t) ≡ true
    go true = refl
    go false = is

other_way : (t u : ℕ) → (t == u) ≡ false → (u == t) ≡ false
other_way t u other = go (u == t) refl
  where
    go : (b : Bool) → (u == t) ≡ b → b ≡ false
    go false is = refl
    go true is = absurd (grind (arith, nat_tests))

undone : (t : ℕ) (d : ℕ → Bool) → d t ≡ false → without t (with t d) ≡ d
undone t d free = fun_ext (λ u. go u (t == u) refl)
  where
    go : (u : ℕ) (b : Bool) → (t == u) ≡ b → (if b then false else (if b then true else d u)) ≡ d u
    go u true is = let same : t ≡ u = grind (arith, nat_tests) in sym (subst (λ (v : ℕ). d v ≡ false) same free)
    go u false is = refl

with_apart : (t u : ℕ) (d : ℕ → Bool) → (t == u) ≡ false → without t (with u d) ≡ with u (without t d)
with_apart t u d other = fun_ext (λ v. go v (t == v) (u == v) refl refl)
  where
    go : (v : ℕ) (b c : Bool) → (t == v) ≡ b → (u == v) ≡ c → (if b then false else (if c then true else d v)) ≡ (if c then true else (if b then false else d v))
    go v true true one two = absurd (grind (arith, nat_tests))
    go v true false one two = refl
    go v false true one two = refl
    go v false false one two = refl

without_apart : (t u : ℕ) (d : ℕ → Bool) → without u (without t d) ≡ without t (without u d)
without_apart t u d = fun_ext (λ v. go v (t == v) (u == v))
  where
    go : (v : ℕ) (b c : Bool) → (if c then false else (if b then false else d v)) ≡ (if b then false else (if c then false else d v))
    go v true true = refl
    go v true false = refl
    go v false true = refl
    go v false false = refl

-- ---- its end

module _ (t : ℕ) (older : List Entry) where
  -- it is doomed still, and so the lines are shown without its doom
  abbrev IsAlive : (ℕ → Bool) → List Line → List Entry → Type 0
  IsAlive d trace newer = (d t ≡ true) × Shows (without t d) trace (newer ++ older)

  -- its kill is among the lines after its doom
  abbrev IsKilledThere : (ℕ → Bool) → List Line → List Entry → Type 0
  IsKilledThere d trace newer = (a : List Entry) × (b : List Entry) × (newer ≡ a ++ b) × Shows d trace (a ++ Told (Kill t) ∷ (b ++ older))

  abbrev Ends : (ℕ → Bool) → List Line → List Entry → Type 0
  Ends d trace newer = IsAlive d trace newer ⊎ IsKilledThere d trace newer

  hides : (d : ℕ → Bool) (e : Line) (es : List Line) (newer : List Entry) → is_hidden e.fact ≡ true → Ends d es newer → Ends d (e ∷ es) newer
  hides d e es newer hid (inl (doomed, s)) = inl (doomed, Hides (without t d) e es (newer ++ older) hid s)
  hides d e es newer hid (inr (a, b, is, s)) = inr (a, b, is, Hides d e es (a ++ Told (Kill t) ∷ (b ++ older)) hid s)

  tells : (d : ℕ → Bool) (e : Line) (es : List Line) (newer : List Entry) → is_hidden e.fact ≡ false → d (thread_of e.fact) ≡ false → Ends d es newer → Ends d (e ∷ es) (Told e.fact ∷ newer)
  tells d e es newer seen free (inl (doomed, s)) = inl (doomed, Tells (without t d) e es (newer ++ older) seen (out_of t (thread_of e.fact) d free) s)
  tells d e es newer seen free (inr (a, b, is, s)) =
      inr (Told e.fact ∷ a, b, ap (λ (xs : List Entry). Told e.fact ∷ xs) is, Tells d e es (a ++ Told (Kill t) ∷ (b ++ older)) seen free s)

  own_doom : (d : ℕ → Bool) (u : ℕ) (es : List Line) (h : List Entry) → u ≡ t → h ≡ older → d u ≡ false → Shows d es h → Ends (with u d) es []
  own_doom d u es h same rest free s =
      let free_t : d t ≡ false = subst (λ (v : ℕ). d v ≡ false) same free in
      subst (λ (v : ℕ). Ends (with v d) es []) (sym same)
      (inl (itself t d, subst (λ (g : ℕ → Bool). Shows g es older) (sym (undone t d free_t)) (subst (Shows d es) rest s)))

  -- another thread is doomed
  dooms_other : (d : ℕ → Bool) (u : ℕ) (es : List Line) (newer : List Entry) → d u ≡ false → is_killed (told_of u es) ≡ false → d t ≡ true → Shows (without t d) es (newer ++ older) → (b : Bool) → (t == u) ≡ b → Ends (with u d) es (Doom u ∷ newer)
  dooms_other d u es newer free alive doomed s true is =
      let same : t ≡ u = grind (arith, nat_tests) in
      let no : true ≡ false = sym doomed ∙ ap d same ∙ free in
      absurd cc
  dooms_other d u es newer free alive doomed s false is =
      inl (with_more t u d doomed, subst (λ (g : ℕ → Bool). Shows g es (Doom u ∷ (newer ++ older))) (sym (with_apart t u d is)) (Dooms (without t d) u es (newer ++ older) (out_of t u d free) alive s))

  dooms : (d : ℕ → Bool) (u : ℕ) (es : List Line) (newer : List Entry) → d u ≡ false → is_killed (told_of u es) ≡ false → Ends d es newer → Ends (with u d) es (Doom u ∷ newer)
  dooms d u es newer free alive (inl (doomed, s)) = dooms_other d u es newer free alive doomed s (t == u) refl
  dooms d u es newer free alive (inr (a, b, is, s)) =
      inr (Doom u ∷ a, b, ap (λ (xs : List Entry). Doom u ∷ xs) is, Dooms d u es (a ++ Told (Kill t) ∷ (b ++ older)) free alive s)

  -- its own kill, or another thread's
  own_kill : (d : ℕ → Bool) (e : Line) (es : List Line) (h : List Entry) → e.fact ≡ Kill t → Shows (without t d) es h → Shows (without t d) (e ∷ es) (Told (Kill t) ∷ h)
  own_kill d e es h kill s =
      let seen : is_hidden e.fact ≡ false = ap is_hidden kill in
      let free : without t d (thread_of e.fact) ≡ false = ap (λ (f : Fact). without t d (thread_of f)) kill ∙ not_itself t d in
      subst (λ (f : Fact). Shows (without t d) (e ∷ es) (Told f ∷ h)) kill (Tells (without t d) e es h seen free s)

  kills_alive : (d : ℕ → Bool) (u : ℕ) (e : Line) (es : List Line) (newer : List Entry) → e.fact ≡ Kill u → d u ≡ true → d t ≡ true → Shows (without t d) es (newer ++ older) → (b : Bool) → (t == u) ≡ b → Ends (without u d) (e ∷ es) newer
  kills_alive d u e es newer kill there doomed s true is =
      let same : u ≡ t = grind (arith, nat_tests) in
      let killed : e.fact ≡ Kill t = kill ∙ ap (λ (v : ℕ). Kill v) same in
      subst (λ (v : ℕ). Ends (without v d) (e ∷ es) newer) (sym same) (inr ([], newer, refl, own_kill d e es (newer ++ older) killed s))
  kills_alive d u e es newer kill there doomed s false is =
      inl (still u t d (other_way t u is) ∙ doomed, subst (λ (g : ℕ → Bool). Shows g (e ∷ es) (newer ++ older)) (without_apart t u d) (Kills (without t d) u e es (newer ++ older) kill (still t u d is ∙ there) s))

  kills : (d : ℕ → Bool) (u : ℕ) (e : Line) (es : List Line) (newer : List Entry) → e.fact ≡ Kill u → d u ≡ true → Ends d es newer → Ends (without u d) (e ∷ es) newer
  kills d u e es newer kill there (inl (doomed, s)) = kills_alive d u e es newer kill there doomed s (t == u) refl
  kills d u e es newer kill there (inr (a, b, is, s)) = inr (a, b, is, Kills d u e es (a ++ Told (Kill t) ∷ (b ++ older)) kill there s)

  ends : (d : ℕ → Bool) (trace : List Line) (h newer : List Entry) → Shows d trace h → h ≡ newer ++ Doom t ∷ older → Ends d trace newer
  ends d trace h [] Nothing is = let no : [] ≡ Doom t ∷ older = is in absurd cc
  ends d trace h (x ∷ newer) Nothing is = let no : [] ≡ x ∷ (newer ++ Doom t ∷ older) = is in absurd cc
  ends d trace h [] (Hides d' e es h' hid s) is = hides d' e es [] hid (ends d' es h' [] s is)
  ends d trace h (x ∷ newer) (Hides d' e es h' hid s) is = hides d' e es (x ∷ newer) hid (ends d' es h' (x ∷ newer) s is)
  ends d trace h [] (Tells d' e es h' seen free s) is = let no : Told e.fact ∷ h' ≡ Doom t ∷ older = is in absurd cc
  ends d trace h (x ∷ newer) (Tells d' e es h' seen free s) is =
      let all : Told e.fact ∷ h' ≡ x ∷ (newer ++ Doom t ∷ older) = is in
      let first : Told e.fact ≡ x = cc in
      let rest : h' ≡ newer ++ Doom t ∷ older = cc in
      subst (λ (y : Entry). Ends d' (e ∷ es) (y ∷ newer)) first (tells d' e es newer seen free (ends d' es h' newer s rest))
  ends d trace h [] (Dooms d' u es h' free alive s) is =
      let all : Doom u ∷ h' ≡ Doom t ∷ older = is in
      let same : u ≡ t = cc in
      let rest : h' ≡ older = cc in
      own_doom d' u es h' same rest free s
  ends d trace h (x ∷ newer) (Dooms d' u es h' free alive s) is =
      let all : Doom u ∷ h' ≡ x ∷ (newer ++ Doom t ∷ older) = is in
      let first : Doom u ≡ x = cc in
      let rest : h' ≡ newer ++ Doom t ∷ older = cc in
      subst (λ (y : Entry). Ends (with u d') es (y ∷ newer)) first (dooms d' u es newer free alive (ends d' es h' newer s rest))
  ends d trace h [] (Kills d' u e es h' kill there s) is = kills d' u e es [] kill there (ends d' es h' [] s is)
  ends d trace h (x ∷ newer) (Kills d' u e es h' kill there s) is = kills d' u e es (x ∷ newer) kill there (ends d' es h' (x ∷ newer) s is)

-- a legal history is legal without a doom, or with a kill somewhere after it in its place
pub killed_or_not : (n t : ℕ) (newer older : List Entry) → LegalHistory n (newer ++ Doom t ∷ older)
    → LegalHistory n (newer ++ older) ⊎ ((a : List Entry) × (b : List Entry) × (newer ≡ a ++ b) × LegalHistory n (a ++ Told (Kill t) ∷ (b ++ older)))
killed_or_not n t newer older l = go (ends t older l.doomed l.trace (newer ++ Doom t ∷ older) newer l.certifies.shows refl)
  where
    go : Ends t older l.doomed l.trace newer → LegalHistory n (newer ++ older) ⊎ ((a : List Entry) × (b : List Entry) × (newer ≡ a ++ b) × LegalHistory n (a ++ Told (Kill t) ∷ (b ++ older)))
    go (inl (doomed, s)) =
        inl (record { trace = l.trace; doomed = without t l.doomed; certifies = record { fits = l.certifies.fits; waits = l.certifies.waits; inside = l.certifies.inside; shows = s } })
    go (inr (a, b, is, s)) =
        inr (a, b, is, record { trace = l.trace; doomed = l.doomed; certifies = record { fits = l.certifies.fits; waits = l.certifies.waits; inside = l.certifies.inside; shows = s } })
