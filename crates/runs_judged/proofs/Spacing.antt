-- Lines made of words, and how they are cut.
use Rattle.std.proofs.Common.{◌≡◌, ℕ, zero, suc, ◌+◌, ◌<◌, ◌==◌, Bool, true, false, ◌&&◌, nat_le, nat_lt, List, [], ◌∷◌, ◌++◌, length, length-append, append_assoc, refl, sym, ap, ◌∙◌, arith}
use Rattle.std.specs.Prelude.{All}
use Rattle.std.specs.List.{list_all}
use Rattle.std.specs.Char.{is_ascii_digit}
use Rattle.std.proofs.lemmas.List.Splits.{slice_split_none, slice_split_at}
use Rattle.std.proofs.lemmas.Bool.Decides.{nat_tests}
use Rattle.lines.specs.Lines.{lines_of, words_of}

-- ---- words

-- a byte that a word may have: no space and no line feed, and ASCII
abbrev pub is_plain : ℕ → Bool
is_plain b = nat_le 33 b && nat_lt b 128

abbrev pub IsWord : List ℕ → Type 0
IsWord w = list_all is_plain w ≡ true

abbrev pub AreWords : List (List ℕ) → Type 0
AreWords [] = Unit {0}
AreWords (w ∷ ws) = IsWord w × AreWords ws

abbrev pub EachByte : (ℕ → Type 0) → List ℕ → Type 0
EachByte P [] = Unit {0}
EachByte P (b ∷ bs) = P b × EachByte P bs

pub each_all : (P : ℕ → Type 0) (bs : List ℕ) → EachByte P bs → All P bs
each_all P [] h k d lt = absurd (omega (arith, lt))
each_all P (b ∷ bs) h zero d lt = h.0
each_all P (b ∷ bs) h (suc k) d lt = each_all P bs h.1 k d (omega (arith, lt))

first_true : (a b : Bool) → (a && b) ≡ true → a ≡ true
first_true true b e = refl
first_true false b e = e

second_true : (a b : Bool) → (a && b) ≡ true → b ≡ true
second_true true b e = e
second_true false b e = absurd cc

-- none of its bytes is below 33
plain_apart : (c : ℕ) → c < 33 → (w : List ℕ) → IsWord w → EachByte (λ b. (b == c) ≡ false) w
plain_apart c low [] is = tt
plain_apart c low (b ∷ w) is = (let h : is_plain b ≡ true = first_true (is_plain b) (list_all is_plain w) is in grind (arith, nat_tests), plain_apart c low w (second_true (is_plain b) (list_all is_plain w) is))

plain_ascii : (w : List ℕ) → IsWord w → EachByte (λ b. b < 128) w
plain_ascii [] is = tt
plain_ascii (b ∷ w) is = (let h : is_plain b ≡ true = first_true (is_plain b) (list_all is_plain w) is in grind (arith, nat_tests), plain_ascii w (second_true (is_plain b) (list_all is_plain w) is))

digit_plain : (b : ℕ) → is_ascii_digit b ≡ true → is_plain b ≡ true
digit_plain b e = grind (arith, nat_tests)

pub digits_word : (w : List ℕ) → list_all is_ascii_digit w ≡ true → IsWord w
digits_word [] e = refl
digits_word (b ∷ w) e = ap (λ (t : Bool). t && list_all is_plain w) (digit_plain b (first_true (is_ascii_digit b) (list_all is_ascii_digit w) e)) ∙ digits_word w (second_true (is_ascii_digit b) (list_all is_ascii_digit w) e)

-- ---- lines

-- words with a space between each two
abbrev pub spaced : List (List ℕ) → List ℕ
spaced [] = []
spaced (w ∷ []) = w
spaced (w ∷ v ∷ ws) = w ++ 32 ∷ spaced (v ∷ ws)

-- and a line feed after the last
abbrev pub ended : List (List ℕ) → List ℕ
ended [] = 10 ∷ []
ended (w ∷ []) = w ++ 10 ∷ []
ended (w ∷ v ∷ ws) = w ++ 32 ∷ ended (v ∷ ws)

pub bytes_append : (P : ℕ → Type 0) (xs ys : List ℕ) → EachByte P xs → EachByte P ys → EachByte P (xs ++ ys)
bytes_append P [] ys h k = k
bytes_append P (x ∷ xs) ys h k = (h.0, bytes_append P xs ys h.1 k)

pub spaced_words : (w : List ℕ) (ws : List (List ℕ)) → AreWords (w ∷ ws) → words_of (spaced (w ∷ ws)) ≡ w ∷ ws
spaced_words w [] are = slice_split_none (λ b. b == 32) w (each_all (λ b. (b == 32) ≡ false) w (plain_apart 32 (omega arith) w are.0))
spaced_words w (v ∷ ws) are = slice_split_at (λ b. b == 32) w 32 (spaced (v ∷ ws)) (each_all (λ b. (b == 32) ≡ false) w (plain_apart 32 (omega arith) w are.0)) refl ∙ ap (λ (vs : List (List ℕ)). w ∷ vs) (spaced_words v ws are.1)

no_feed : (ws : List (List ℕ)) → AreWords ws → EachByte (λ b. (b == 10) ≡ false) (spaced ws)
no_feed [] are = tt
no_feed (w ∷ []) are = plain_apart 10 (omega arith) w are.0
no_feed (w ∷ v ∷ ws) are = bytes_append (λ b. (b == 10) ≡ false) w (32 ∷ spaced (v ∷ ws)) (plain_apart 10 (omega arith) w are.0) (refl, no_feed (v ∷ ws) are.1)

ended_spaced : (ws : List (List ℕ)) (rest : List ℕ) → ended ws ++ rest ≡ spaced ws ++ 10 ∷ rest
ended_spaced [] rest = refl
ended_spaced (w ∷ []) rest = append_assoc w (10 ∷ []) rest
ended_spaced (w ∷ v ∷ ws) rest = append_assoc w (32 ∷ ended (v ∷ ws)) rest ∙ ap (λ (bs : List ℕ). w ++ 32 ∷ bs) (ended_spaced (v ∷ ws) rest) ∙ sym (append_assoc w (32 ∷ spaced (v ∷ ws)) (10 ∷ rest))

-- the first line of a text
pub first_line : (ws : List (List ℕ)) (rest : List ℕ) → AreWords ws → lines_of (ended ws ++ rest) ≡ spaced ws ∷ lines_of rest
first_line ws rest are = ap lines_of (ended_spaced ws rest) ∙ slice_split_at (λ b. b == 10) (spaced ws) 10 rest (each_all (λ b. (b == 10) ≡ false) (spaced ws) (no_feed ws are)) refl

pub ended_ascii : (ws : List (List ℕ)) → AreWords ws → EachByte (λ b. b < 128) (ended ws)
ended_ascii [] are = (omega arith, tt)
ended_ascii (w ∷ []) are = bytes_append (λ b. b < 128) w (10 ∷ []) (plain_ascii w are.0) (omega arith, tt)
ended_ascii (w ∷ v ∷ ws) are = bytes_append (λ b. b < 128) w (32 ∷ ended (v ∷ ws)) (plain_ascii w are.0) (omega arith, ended_ascii (v ∷ ws) are.1)

-- ---- lengths

-- this many bytes: each word, and the space or the line feed after it
abbrev pub width : List (List ℕ) → ℕ
width [] = 0
width (w ∷ ws) = length w + 1 + width ws

pub ended_length : (w : List ℕ) (ws : List (List ℕ)) → length (ended (w ∷ ws)) ≡ width (w ∷ ws)
ended_length w [] = omega (arith, length-append w (10 ∷ []))
ended_length w (v ∷ ws) = omega (arith, length-append w (32 ∷ ended (v ∷ ws)), ended_length v ws)
