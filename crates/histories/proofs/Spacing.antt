-- Lines made of words, and how they are cut.
use Rattle.std.proofs.Common.{◌≡◌, ℕ, zero, suc, ◌<◌, ◌==◌, Bool, true, false, ◌&&◌, nat_le, nat_lt, List, [], ◌∷◌, ◌++◌, refl, ap, ◌∙◌, arith}
use Rattle.std.specs.Prelude.{All}
use Rattle.std.specs.Str.{is_utf8}
use Rattle.std.proofs.lemmas.Str.{IsUtf8-from_ascii, is_utf8-from_IsUtf8}
use Rattle.std.proofs.lemmas.Str.Ascii.{IsAscii-from_all}
use Rattle.std.specs.List.{list_all}
use Rattle.std.specs.Char.{is_ascii_digit}
use Rattle.std.proofs.lemmas.List.Splits.{slice_split_none, slice_split_at}
use Rattle.std.proofs.lemmas.List.Elements.{All-nil, All-cons, All-head, All-tail}
use Rattle.std.proofs.lemmas.Bool.Decides.{nat_tests}
use Rattle.lines.specs.Lines.{words_of}
use Rattle.histories.specs.Written.{spaced}

-- a byte that a word may have: no space and no line feed, and ASCII
abbrev pub is_plain : ℕ → Bool
is_plain b = nat_le 33 b && nat_lt b 128

abbrev pub IsWord : List ℕ → Type 0
IsWord w = list_all is_plain w ≡ true

abbrev pub AreWords : List (List ℕ) → Type 0
AreWords [] = Unit {0}
AreWords (w ∷ ws) = IsWord w × AreWords ws

abbrev IsApart : ℕ → List ℕ → Type 0
IsApart c [] = Unit {0}
IsApart c (b ∷ bs) = ((b == c) ≡ false) × IsApart c bs

apart_all : (c : ℕ) (bs : List ℕ) → IsApart c bs → All (λ b. (b == c) ≡ false) bs
apart_all c [] h k d lt = absurd (omega (arith, lt))
apart_all c (b ∷ bs) h zero d lt = h.0
apart_all c (b ∷ bs) h (suc k) d lt = apart_all c bs h.1 k d (omega (arith, lt))

pub first_true : (a b : Bool) → (a && b) ≡ true → a ≡ true
first_true true b e = refl
first_true false b e = e

pub second_true : (a b : Bool) → (a && b) ≡ true → b ≡ true
second_true true b e = e
second_true false b e = absurd cc

-- none of its bytes is a space
plain_apart : (w : List ℕ) → IsWord w → IsApart 32 w
plain_apart [] is = tt
plain_apart (b ∷ w) is = (let h : is_plain b ≡ true = first_true (is_plain b) (list_all is_plain w) is in grind (arith, nat_tests), plain_apart w (second_true (is_plain b) (list_all is_plain w) is))

unspaced : (w : List ℕ) → IsWord w → All (λ b. (b == 32) ≡ false) w
unspaced w is = apart_all 32 w (plain_apart w is)

digit_plain : (b : ℕ) → is_ascii_digit b ≡ true → is_plain b ≡ true
digit_plain b e = grind (arith, nat_tests)

pub digits_word : (w : List ℕ) → list_all is_ascii_digit w ≡ true → IsWord w
digits_word [] e = refl
digits_word (b ∷ w) e = ap (λ (t : Bool). t && list_all is_plain w) (digit_plain b (first_true (is_ascii_digit b) (list_all is_ascii_digit w) e)) ∙ digits_word w (second_true (is_ascii_digit b) (list_all is_ascii_digit w) e)

-- the words of spaced words are these
pub spaced_words : (w : List ℕ) (ws : List (List ℕ)) → AreWords (w ∷ ws) → words_of (spaced (w ∷ ws)) ≡ w ∷ ws
spaced_words w [] are = slice_split_none (λ b. b == 32) w (unspaced w are.0)
spaced_words w (v ∷ ws) are = slice_split_at (λ b. b == 32) w 32 (spaced (v ∷ ws)) (unspaced w are.0) refl ∙ ap (λ (vs : List (List ℕ)). w ∷ vs) (spaced_words v ws are.1)

-- they are a text
ascii_append : (xs ys : List ℕ) → All (λ b. b < 128) xs → All (λ b. b < 128) ys → All (λ b. b < 128) (xs ++ ys)
ascii_append [] ys h k = k
ascii_append (x ∷ xs) ys h k = All-cons (λ b. b < 128) x (xs ++ ys) (All-head (λ b. b < 128) x xs h) (ascii_append xs ys (All-tail (λ b. b < 128) x xs h) k)

plain_ascii : (w : List ℕ) → IsWord w → All (λ b. b < 128) w
plain_ascii [] is = All-nil (λ b. b < 128)
plain_ascii (b ∷ w) is = All-cons (λ b. b < 128) b w (let h : is_plain b ≡ true = first_true (is_plain b) (list_all is_plain w) is in grind (arith, nat_tests)) (plain_ascii w (second_true (is_plain b) (list_all is_plain w) is))

spaced_ascii : (ws : List (List ℕ)) → AreWords ws → All (λ b. b < 128) (spaced ws)
spaced_ascii [] are = All-nil (λ b. b < 128)
spaced_ascii (w ∷ []) are = plain_ascii w are.0
spaced_ascii (w ∷ v ∷ ws) are = ascii_append w (32 ∷ spaced (v ∷ ws)) (plain_ascii w are.0) (All-cons (λ b. b < 128) 32 (spaced (v ∷ ws)) (omega arith) (spaced_ascii (v ∷ ws) are.1))

pub spaced_text : (ws : List (List ℕ)) → AreWords ws → is_utf8 (spaced ws) ≡ true
spaced_text ws are = is_utf8-from_IsUtf8 (spaced ws) (IsUtf8-from_ascii (spaced ws) (IsAscii-from_all (spaced ws) (spaced_ascii ws are)))
