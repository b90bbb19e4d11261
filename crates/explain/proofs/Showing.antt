-- A line's characters, one after the other, as far as there is room.
use Rattle.std.proofs.Common.{◌≡◌, ℕ, ◌+◌, ◌<◌, ◌≤◌, true, false, nat_lt, List, [], ◌∷◌, ◌++◌, length, get_or, take, flat_map, sym, ap, ◌∙◌, arith, append_assoc, append-nil}
use Rattle.std.specs.Str.{chars}
use Rattle.std.proofs.lemmas.Bool.Decides.{nat_tests}
use Rattle.std.proofs.lemmas.List.{take_all, take_more}
use Rattle.std.proofs.lemmas.List.Concat.{flat_map-append}
use Rattle.explain.specs.Shown.{cut_mark, shown, shown_char, width}

pub one_shown : (line : List ℕ) (n : ℕ) (seen : List ℕ) (c : ℕ) (old before after : List ℕ) → n ≡ length seen → (length seen < length (chars line)) × (c ≡ get_or (chars line) (length seen) c) → before ≡ old ++ flat_map shown_char (take n (chars line)) → after ≡ before ++ shown_char c → after ≡ old ++ flat_map shown_char (take (n + 1) (chars line))
one_shown line n seen c old before after counted here so_far is =
    let cs = chars line in
    let this : c ≡ get_or cs n c = here.1 ∙ ap (λ i. get_or cs i c) (sym counted) in
    let more : take (n + 1) cs ≡ take n cs ++ c ∷ [] = take_more cs n c (omega (arith, counted, here.0)) ∙ ap (λ k. take n cs ++ k ∷ []) (sym this) in
    is ∙ ap (λ l. l ++ shown_char c) so_far ∙ append_assoc old (flat_map shown_char (take n cs)) (shown_char c)
    ∙ ap (λ l. old ++ l) (sym (ap (flat_map shown_char) more ∙ flat_map-append shown_char (take n cs) (c ∷ []) ∙ ap (λ l. flat_map shown_char (take n cs) ++ l) (append-nil (shown_char c))))

-- more come after
pub some_shown : (line : List ℕ) (n : ℕ) (seen old before after : List ℕ) → n ≡ length seen → length seen < length (chars line) → n ≡ width → before ≡ old ++ flat_map shown_char (take n (chars line)) → after ≡ before ++ cut_mark true → after ≡ old ++ shown line
unfolding shown
some_shown line n seen old before after counted lt full so_far is =
    let longer : nat_lt width (length (chars line)) ≡ true = grind (arith, nat_tests) in
    is ∙ ap (λ l. l ++ cut_mark true) (so_far ∙ ap (λ k. old ++ flat_map shown_char (take k (chars line))) full)
    ∙ append_assoc old (flat_map shown_char (take width (chars line))) (cut_mark true)
    ∙ sym (ap (λ b. old ++ (flat_map shown_char (take width (chars line)) ++ cut_mark b)) longer)

-- none does
pub all_shown : (line : List ℕ) (n : ℕ) (seen old before : List ℕ) → n ≡ length seen → length seen ≡ length (chars line) → n ≤ width → before ≡ old ++ flat_map shown_char (take n (chars line)) → before ≡ old ++ shown line
unfolding shown
all_shown line n seen old before counted all few so_far =
    let cs = chars line in
    let short : nat_lt width (length cs) ≡ false = grind (arith, nat_tests) in
    let same : take n cs ≡ take width cs = take_all n cs (omega (arith, counted, all)) ∙ sym (take_all width cs (omega (arith, counted, all, few))) in
    so_far ∙ ap (λ l. old ++ flat_map shown_char l) same ∙ sym (ap (λ b. old ++ (flat_map shown_char (take width cs) ++ cut_mark b)) short ∙ ap (λ l. old ++ l) (append-nil (flat_map shown_char (take width cs))))
