-- The words of a text, cut off one by one.
use Rattle.std.proofs.Common.{◌≡◌, ℕ, ◌+◌, ◌<◌, ◌==◌, Bool, true, false, cond, List, [], ◌∷◌, length, Some, None, refl, ap, ◌∙◌, arith}
use Rattle.std.specs.Prelude.{sum_by}
use Rattle.std.specs.List.{onto_first}
use Rattle.std.proofs.lemmas.List.Sums.{sum_by-cons}
use Rattle.std.proofs.lemmas.List.Splits.{length-slice_split}
use Rattle.lines.specs.Lines.{words_of}
use Rattle.grammar.specs.declared.next.Next.{Next}
use Rattle.grammar.specs.Nexts.{after}
use Rattle.grammar.specs.Wrongs.{met, wrong_at, wrong_in, wrong_last}

-- a text has a word
pub some_word : (text : List ℕ) → 0 < length (words_of text)
some_word text = omega (arith, length-slice_split (λ b. b == 32) text)

abbrev pub width : List (List ℕ) → ℕ
width ws = sum_by (λ w. length w + 1) ws

width-cons : (w : List ℕ) (ws : List (List ℕ)) → width (w ∷ ws) ≡ (length w + 1) + width ws
width-cons w ws = sum_by-cons (λ v. length v + 1) w ws

width-onto : (x : ℕ) (ws : List (List ℕ)) (n : ℕ) → width ws ≡ n + 1 → width (onto_first x ws) ≡ n + 2
width-onto x [] n e = absurd (omega (arith, e))
width-onto x (w ∷ ws) n e = omega (arith, e, width-cons w ws, width-cons (x ∷ w) ws)

width-cond : (b : Bool) (x : ℕ) (ws : List (List ℕ)) (n : ℕ) → width ws ≡ n + 1 → width (cond b ([] ∷ ws) (onto_first x ws)) ≡ n + 2
width-cond true x ws n e = omega (arith, e, width-cons [] ws)
width-cond false x ws n e = width-onto x ws n e

-- a byte stands after each word but the last
pub width-words : (text : List ℕ) → width (words_of text) ≡ length text + 1
width-words [] = refl
width-words (x ∷ xs) = let rest = width-words xs in width-cond (x == 32) x (words_of xs) (length xs) rest ∙ omega arith

-- so a word that is cut off, and the space after it, leave this many bytes
pub cut_width : (w text more : List ℕ) → words_of text ≡ w ∷ words_of more → length text ≡ length w + 1 + length more
cut_width w text more e = omega (arith, ap width e, width-words text, width-words more, width-cons w (words_of more))

-- ---- one word after the other

stepped : (n : Next) (i at : ℕ) (w : List ℕ) (ws : List (List ℕ)) → 0 < length ws → wrong_in n i at (w ∷ ws) ≡ met i at w n (λ m. wrong_in m (i + 1) (at + length w + 1) ws) (after n w)
unfolding wrong_in
stepped n i at w [] some = absurd (omega (arith, some))
stepped n i at w (v ∷ ws) some = refl

-- a word that goes on
pub taken : (n m : Next) (i at : ℕ) (w text more : List ℕ) → words_of text ≡ w ∷ words_of more → after n w ≡ Some m → wrong_in n i at (words_of text) ≡ wrong_in m (i + 1) (at + length w + 1) (words_of more)
taken n m i at w text more e h =
    ap (wrong_in n i at) e ∙ stepped n i at w (words_of more) (some_word more) ∙ ap (met i at w n (λ q. wrong_in q (i + 1) (at + length w + 1) (words_of more))) h

-- one that doesn't
pub refused : (n : Next) (i at : ℕ) (w text more : List ℕ) → words_of text ≡ w ∷ words_of more → after n w ≡ None → wrong_in n i at (words_of text) ≡ Some (wrong_at i at w n)
refused n i at w text more e h =
    ap (wrong_in n i at) e ∙ stepped n i at w (words_of more) (some_word more) ∙ ap (met i at w n (λ q. wrong_in q (i + 1) (at + length w + 1) (words_of more))) h

-- the last one
pub at_end : (n : Next) (i at : ℕ) (text : List ℕ) → words_of text ≡ text ∷ [] → wrong_in n i at (words_of text) ≡ wrong_last i at text n (after n text)
unfolding wrong_in
at_end n i at text e = ap (wrong_in n i at) e
