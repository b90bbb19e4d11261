-- How a file begins.
use Rattle.std.proofs.Common.{◌≡◌, ℕ, ◌<◌, ◌↔◌, Bool, true, false, List, length, map, take, refl, sym, ap, ◌∙◌, arith}
use Rattle.std.specs.Char.{to_ascii_lowercase}
use Rattle.std.specs.Prelude.{codes}
use Rattle.std.proofs.lemmas.Bool.{false_from_ne_true}
use Rattle.std.proofs.lemmas.List.{length-map, take_all}
use Rattle.std.proofs.lemmas.Slice.Eq.{bytes_eq-Decides}
use Rattle.explain.specs.Explains.{begins_trace}

-- fewer than six bytes are none
pub too_few : (bs : List ℕ) → length bs < 6 → false ≡ begins_trace bs
too_few bs lt = sym (false_from_ne_true (begins_trace bs) (λ yes.
    let same = (bytes_eq-Decides (map to_ascii_lowercase (take 6 bs)) (codes "trace ")).0 yes in
    let all : length (map to_ascii_lowercase (take 6 bs)) ≡ length bs = length-map (take 6 bs) to_ascii_lowercase ∙ ap length (take_all 6 bs (omega (arith, lt))) in
    let six : length (map to_ascii_lowercase (take 6 bs)) ≡ 6 = ap length same in
    omega (arith, all, six, lt)))

-- six that are those letters, except for capitals
pub same_letters : (bs : List ℕ) (b : Bool) → (b ≡ true) ↔ (map to_ascii_lowercase (take 6 bs) ≡ map to_ascii_lowercase (codes "trace ")) → b ≡ begins_trace bs
same_letters bs true h = sym ((bytes_eq-Decides (map to_ascii_lowercase (take 6 bs)) (codes "trace ")).1 (h.0 refl))
same_letters bs false h = sym (false_from_ne_true (begins_trace bs) (λ yes. absurd (cc (h.1 ((bytes_eq-Decides (map to_ascii_lowercase (take 6 bs)) (codes "trace ")).0 yes)))))
