-- The first death of a thread among commands.
use Rattle.std.proofs.Common.{◌≡◌, ℕ, ◌+◌, ◌<◌, List, [], ◌∷◌, ◌++◌, length, map, take, drop, get_or, Option, Some, None, sym, ap, ◌∙◌, arith}
use Rattle.std.specs.Prelude.{slice_get}
use Rattle.std.specs.List.{cons_option, range_with_len}
use Rattle.std.proofs.lemmas.List.{take-append-drop}
use Rattle.std.proofs.lemmas.List.Elements.{filter_map-append}
use Rattle.std.proofs.lemmas.List.FromFn.{map-range_with_len_more}
use Rattle.script.specs.declared.command.Command.{Command}
use Rattle.script.specs.Deaths.{death_by, deaths_by, death_of}
use Rattle.script.proofs.Phases.{take_next}

-- a command more
pub deaths_push : (t : ℕ) (cs : List Command) (c : Command) → deaths_by t (cs ++ c ∷ []) ≡ deaths_by t cs ++ cons_option (death_by t c.action) []
deaths_push t cs c = filter_map-append (λ x. death_by t x.action) cs (c ∷ [])

-- the deaths up to command k, where there was none before
up_to : (t : ℕ) (cs : List Command) (k : ℕ) (c : Command) (o : Option ℕ) → k < length cs → c ≡ get_or cs k c → deaths_by t (take k cs) ≡ [] → death_by t c.action ≡ o → deaths_by t (take (k + 1) cs) ≡ cons_option o []
up_to t cs k c o lt is none by =
    ap (λ (ds : List Command). deaths_by t ds) (sym (take_next cs k c lt is)) ∙ deaths_push t (take k cs) c
    ∙ ap (λ (l : List ℕ). l ++ cons_option (death_by t c.action) []) none ∙ ap (λ (x : Option ℕ). cons_option x []) by

pub none_yet : (t : ℕ) (cs : List Command) (k : ℕ) (c : Command) → k < length cs → c ≡ get_or cs k c → deaths_by t (take k cs) ≡ [] → death_by t c.action ≡ None → deaths_by t (take (k + 1) cs) ≡ []
none_yet t cs k c lt is none by = up_to t cs k c None lt is none by

pub found : (t : ℕ) (cs : List Command) (k n : ℕ) (c : Command) → k < length cs → c ≡ get_or cs k c → deaths_by t (take k cs) ≡ [] → death_by t c.action ≡ Some n → Some n ≡ death_of t cs
found t cs k n c lt is none by =
    let whole : deaths_by t cs ≡ deaths_by t (take (k + 1) cs) ++ deaths_by t (drop (k + 1) cs) =
    ap (λ (ds : List Command). deaths_by t ds) (sym (take-append-drop (k + 1) cs)) ∙ filter_map-append (λ x. death_by t x.action) (take (k + 1) cs) (drop (k + 1) cs) in
    let first : deaths_by t cs ≡ n ∷ deaths_by t (drop (k + 1) cs) = whole ∙ ap (λ (l : List ℕ). l ++ deaths_by t (drop (k + 1) cs)) (up_to t cs k c (Some n) lt is none by) in
    sym (ap (λ (l : List ℕ). slice_get l 0) first)

-- the death of thread j more
pub one_more : (cs : List Command) (ds : List (Option ℕ)) (k j : ℕ) → j ≡ k + 1 → ds ≡ map (λ t. death_of t cs) (range_with_len 1 k) → ds ++ death_of j cs ∷ [] ≡ map (λ t. death_of t cs) (range_with_len 1 (k + 1))
one_more cs ds k j is so_far = ap (λ (l : List (Option ℕ)). l ++ death_of j cs ∷ []) so_far ∙ sym (map-range_with_len_more (λ t. death_of t cs) 1 k j (omega (arith, is)))
