-- The points of steps are the judge's.
use Rattle.std.proofs.Common.{◌≡◌, ℕ, ◌+◌, Bool, true, false, cond, List, [], ◌∷◌, ◌++◌, reverse, if◌then◌else◌, refl, sym, ap, ◌∙◌}
use Rattle.std.specs.List.{count_by}
use Rattle.std.proofs.lemmas.List.{reverse-append}
use Rattle.std.proofs.lemmas.List.Recursion.{is_count_by}
use Rattle.facts.specs.Facts.{is_point}
use Rattle.verdict.specs.Verdicts.{point_lines}
use Rattle.histories.specs.declared.entry.Entry.{Entry}
use Rattle.histories.specs.declared.entry.Entry.TheVariants.{Told, Doom}
use Rattle.certificates.specs.Certificates.{is_point_step, trace_of}
use Rattle.certificates.specs.Laws.{PointsAreTheJudges}

points : List Entry → ℕ
points es = point_lines (trace_of es)

one : (b : Bool) → (if b then 1 + 0 else 0) ≡ cond b (1 + 0) 0
one true = refl
one false = refl

both : (a b : Bool) (n : ℕ) → (if a then 1 + cond b (1 + n) n else cond b (1 + n) n) ≡ cond b (1 + (if a then 1 + n else n)) (if a then 1 + n else n)
both true true n = refl
both true false n = refl
both false true n = refl
both false false n = refl

-- an older step has its point, or none
with_oldest : (es : List Entry) (e : Entry) → points (es ++ e ∷ []) ≡ cond (is_point_step e) (1 + points es) (points es)
unfolding points
with_oldest [] (Told f) = one (is_point f)
with_oldest [] (Doom t) = refl
with_oldest (Told g ∷ es) e =
    ap (λ (n : ℕ). if is_point g then 1 + n else n) (with_oldest es e) ∙ both (is_point g) (is_point_step e) (point_lines (trace_of es))
with_oldest (Doom t ∷ es) e = with_oldest es e

next : (e : Entry) (es : List Entry) → points (reverse (e ∷ es)) ≡ cond (is_point_step e) (1 + points (reverse es)) (points (reverse es))
next e es = ap points (reverse-append (e ∷ []) es) ∙ with_oldest (reverse es) e

pub points_are_the_judges : PointsAreTheJudges
unfolding points
points_are_the_judges steps = let counted : points (reverse steps) ≡ count_by is_point_step steps = is_count_by (λ (es : List Entry). points (reverse es)) is_point_step refl next steps in sym counted
