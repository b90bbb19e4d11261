-- The lines that a page shows fit, and none that fits is left out.
use Rattle.std.proofs.Common.{◌≡◌, ⊎_elim, inl, inr, ℕ, ◌+◌, ◌-◌, ◌<◌, ◌≤◌, min, List, [], ◌∷◌, ◌++◌, length, take, drop, refl, sym, ap, subst, ◌∙◌, append_assoc, arith, length-append, take-append-drop}
use Rattle.std.specs.Prelude.{Some, reverse, slice_get}
use Rattle.std.proofs.lemmas.Bool.{cases_lt}
use Rattle.std.proofs.lemmas.List.{length-reverse, length-take, reverse-append, reverse-reverse}
use Rattle.facts.specs.declared.fact.Line.{Line}
use Rattle.verdict.specs.declared.checking.Finding.TheVariants.{Legal, Illegal}
use Rattle.verdict.specs.Verdicts.{AllFit, IsFirstMisfit}
use Rattle.page.specs.Data.{shown_lines}
use Rattle.page.specs.Judged.{FittingLinesAreShown, MisfitsAreTold, ShownLinesFit}

fit_behind : (n : ℕ) (newer earlier : List Line) → AllFit n (newer ++ earlier) → AllFit n earlier
fit_behind n [] es fit = fit
fit_behind n (e ∷ newer) es fit = fit_behind n newer es fit.1

-- of two ends of the same lines the shorter one is an end of the longer one
pub record EndsIn (long short : List Line) : Type 0 where
  pub more : List Line
  pub all : long ≡ more ++ short

shorter : (xs bs cs ds : List Line) → xs ++ bs ≡ cs ++ ds → length bs ≤ length ds → EndsIn ds bs
shorter [] bs [] ds same short = record { more = []; all = sym same }
shorter [] bs (c ∷ cs) ds same short = let l = ap length same in let k = length-append (c ∷ cs) ds in absurd (omega (arith, l, k, short))
shorter (x ∷ xs) bs [] ds same short = record { more = x ∷ xs; all = sym same }
shorter (x ∷ xs) bs (c ∷ cs) ds same short = let rest : xs ++ bs ≡ cs ++ ds = cc in shorter xs bs cs ds rest short

-- the newest lines last, or first
parted : (ls : List Line) (k : ℕ) → reverse ls ≡ reverse (drop k ls) ++ reverse (take k ls)
parted ls k = ap reverse (sym (take-append-drop k ls)) ∙ reverse-append (take k ls) (drop k ls)

fit_taken : (n k : ℕ) (ls : List Line) → AllFit n (reverse ls) → AllFit n (reverse (take k ls))
fit_taken n k ls fit = fit_behind n (reverse (drop k ls)) (reverse (take k ls)) (subst (AllFit n) (parted ls k) fit)

fit_before : (n k line : ℕ) (ls : List Line) → IsFirstMisfit n (reverse ls) line → k ≤ line - 2 → AllFit n (reverse (take k ls))
fit_before n k line ls first few =
    let same : reverse (drop k ls) ++ reverse (take k ls) ≡ (first.newer ++ first.misfit ∷ []) ++ first.earlier = sym (parted ls k) ∙ first.all ∙ sym (append_assoc first.newer (first.misfit ∷ []) first.earlier) in
    let here = first.here in
    let t = length-take k ls in
    let r = length-reverse (take k ls) in
    let end = shorter (reverse (drop k ls)) (reverse (take k ls)) (first.newer ++ first.misfit ∷ []) first.earlier same (omega (arith, here, t, r, few)) in
    fit_behind n end.more (reverse (take k ls)) (subst (AllFit n) end.all first.fit)

pub shown_lines_fit : ShownLinesFit
shown_lines_fit t (Legal points) found = fit_taken t.head.mutexes (shown_lines (Legal points) (length t.lines.items)) t.lines.items found.0.fits
shown_lines_fit t (Illegal why) (inl found) = fit_before t.head.mutexes (shown_lines (Illegal why) (length t.lines.items)) why.line t.lines.items found.first (omega arith)
shown_lines_fit t (Illegal why) (inr found) = fit_taken t.head.mutexes (shown_lines (Illegal why) (length t.lines.items)) t.lines.items found.short.fit

-- ---- and none is left out

-- a line up to which all fit comes before the first that doesn't
before_misfit : (n k line : ℕ) (ls : List Line) → IsFirstMisfit n (reverse ls) line → k < length ls → AllFit n (reverse (take (k + 1) ls)) → k < line - 2
before_misfit n k line ls first inside fit =
    let same : first.newer ++ first.misfit ∷ first.earlier ≡ reverse (drop (k + 1) ls) ++ reverse (take (k + 1) ls) = sym first.all ∙ parted ls (k + 1) in
    let here = first.here in
    ⊎_elim (λ less. less)
    (λ more.
    let t = length-take (k + 1) ls in
    let r = length-reverse (take (k + 1) ls) in
    let end = shorter (first.newer) (first.misfit ∷ first.earlier) (reverse (drop (k + 1) ls)) (reverse (take (k + 1) ls)) same (omega (arith, here, t, r, inside, more)) in
    let behind : AllFit n (first.misfit ∷ first.earlier) = fit_behind n end.more (first.misfit ∷ first.earlier) (subst (AllFit n) end.all fit) in
    absurd (first.fails behind.0))
    (cases_lt k (line - 2))

shown_of_fitting : (count fitting k : ℕ) (ls : List Line) → count ≡ length ls → k < count → k < fitting → k < 100000 → k < length (take (min fitting 100000) ls)
shown_of_fitting count fitting k ls all inside fits few = let t = length-take (min fitting 100000) ls in omega (arith, all, inside, fits, few, t)

pub fitting_lines_are_shown : FittingLinesAreShown
fitting_lines_are_shown t (Legal points) k found inside few fit = shown_of_fitting (length t.lines.items) (length t.lines.items) k t.lines.items refl inside inside few
fitting_lines_are_shown t (Illegal why) k (inl found) inside few fit =
    let early = before_misfit t.head.mutexes k why.line t.lines.items found.first inside fit in
    shown_of_fitting (length t.lines.items) (min (length t.lines.items) (why.line - 2)) k t.lines.items refl inside (omega (arith, inside, early)) few
fitting_lines_are_shown t (Illegal why) k (inr found) inside few fit =
    let here = found.short.here in
    let r = length-reverse t.lines.items in
    shown_of_fitting (length t.lines.items) (min (length t.lines.items) (why.line - 2)) k t.lines.items refl inside (omega (arith, inside, here, r)) few

-- ---- the one that doesn't

at_end : (xs ys : List Line) (x : Line) → slice_get (xs ++ x ∷ ys) (length xs) ≡ Some x
at_end [] ys x = refl
at_end (y ∷ xs) ys x = at_end xs ys x

-- what stands newest first, in its order
in_order : (ls newer earlier : List Line) (e : Line) → reverse ls ≡ newer ++ e ∷ earlier → ls ≡ reverse earlier ++ e ∷ reverse newer
in_order ls newer earlier e same =
    sym (reverse-reverse ls) ∙ ap reverse same ∙ reverse-append newer (e ∷ earlier)
    ∙ ap (λ (xs : List Line). xs ++ reverse newer) (reverse-append (e ∷ []) earlier)
    ∙ append_assoc (reverse earlier) (e ∷ []) (reverse newer)

pub misfits_are_told : MisfitsAreTold
misfits_are_told t why r =
    let first = r.first in
    let here = first.here in
    let long = length-reverse first.earlier in
    let place : why.line - 2 ≡ length (reverse first.earlier) = omega (arith, here, long) in
    ap (λ (n : ℕ). slice_get t.lines.items n) place
    ∙ ap (λ (ls : List Line). slice_get ls (length (reverse first.earlier))) (in_order t.lines.items first.newer first.earlier first.misfit first.all)
    ∙ at_end (reverse first.earlier) (reverse first.newer) first.misfit
