-- The mode that a script's lines point to.
use Rattle.std.proofs.Common.{◌≡◌, ◌≢◌, ℕ, ◌+◌, ◌<◌, ◌≤◌, ◌==◌, false, List, [], ◌∷◌, ◌++◌, length, get_or, take, drop, None, refl, sym, ap, subst, ◌∙◌, arith, eq-eqb}
use Rattle.std.specs.List.{All, slice_split}
use Rattle.std.specs.Prelude.{codes}
use Rattle.std.specs.Str.{IsUtf8}
use Rattle.std.proofs.lemmas.Bool.Decides.{nat_tests}
use Rattle.std.proofs.lemmas.List.{drop_more, get_or-take, length-take-le, take-append-drop}
use Rattle.std.proofs.lemmas.List.Elements.{All-from_get_or}
use Rattle.std.proofs.lemmas.List.Splits.{slice_split_at, slice_split_none}
use Rattle.lines.specs.Lines.{words_of}
use Rattle.grammar.specs.Nexts.{mode_of_word}
use Rattle.grammar.proofs.Words.{pick}
use Rattle.explain.specs.Explains.{mode_in, mode_or}
use Rattle.explain.specs.Stray.{word_of}

pub at_line : (t : List ℕ) (ls ts : List (List ℕ)) → ls ≡ t ∷ ts → mode_in ls ≡ mode_or (mode_of_word (word_of (words_of t) 0)) (mode_in ts)
at_line t ls ts e = ap mode_in e

-- ---- cutting at a byte

other_byte : (s b : ℕ) → b ≢ s → (b == s) ≡ false
other_byte s b other = grind (arith, nat_tests)

-- none is there
pub none_there : (s : ℕ) (bs : List ℕ) → ((k : ℕ) → k < length bs → get_or bs k 0 ≢ s) → slice_split (λ b. b == s) bs ≡ bs ∷ []
none_there s bs other = slice_split_none (λ b. b == s) bs (All-from_get_or (λ b. (b == s) ≡ false) bs 0 (λ k lt. other_byte s (get_or bs k 0) (other k lt)))

-- the first is there
pub cut_there : (s : ℕ) (bs : List ℕ) (i : ℕ) → i < length bs → get_or bs i 0 ≡ s → ((k : ℕ) → k < i → get_or bs k 0 ≢ s) → slice_split (λ b. b == s) bs ≡ take i bs ∷ slice_split (λ b. b == s) (drop (i + 1) bs)
cut_there s bs i lt here before =
    let around : bs ≡ take i bs ++ s ∷ drop (i + 1) bs = sym (take-append-drop i bs) ∙ ap (λ l. take i bs ++ l) (drop_more bs i 0 lt ∙ ap (λ b. b ∷ drop (i + 1) bs) here) in
    let front : All (λ b. (b == s) ≡ false) (take i bs) = All-from_get_or (λ b. (b == s) ≡ false) (take i bs) 0 (λ k inside. let short : i ≤ length bs = omega (arith, lt) in let below : k < i = omega (arith, length-take-le i bs short, inside) in subst (λ b. (b == s) ≡ false) (sym (get_or-take i bs k 0 below)) (other_byte s (get_or bs k 0) (before k below))) in
    ap (slice_split (λ b. b == s)) around ∙ slice_split_at (λ b. b == s) (take i bs) s (drop (i + 1) bs) front (eq-eqb s s refl)

-- ---- words that are no text

abbrev IsNoWord : List ℕ → Type 0
IsNoWord w = (IsUtf8 w → ⊥) → mode_of_word w ≡ None

text : (w : List ℕ) → IsUtf8 w → IsNoWord w
text w is other = absurd (other is)

-- each word that points to a mode is text
pub no_word : (w : List ℕ) → (IsUtf8 w → ⊥) → mode_of_word w ≡ None
unfolding lib.Utf8.encode
no_word w =
    pick IsNoWord w (codes "begin") (text (codes "begin") (codes "begin", (refl, refl))) (λ e1.
    pick IsNoWord w (codes "step") (text (codes "step") (codes "step", (refl, refl))) (λ e2.
    pick IsNoWord w (codes "kill") (text (codes "kill") (codes "kill", (refl, refl))) (λ e3.
    pick IsNoWord w (codes "killall") (text (codes "killall") (codes "killall", (refl, refl))) (λ e4.
    pick IsNoWord w (codes "renew") (text (codes "renew") (codes "renew", (refl, refl))) (λ e5.
    pick IsNoWord w (codes "remake") (text (codes "remake") (codes "remake", (refl, refl))) (λ e17.
    pick IsNoWord w (codes "leave") (text (codes "leave") (codes "leave", (refl, refl))) (λ e7.
    pick IsNoWord w (codes "expire") (text (codes "expire") (codes "expire", (refl, refl))) (λ e18.
    pick IsNoWord w (codes "decline") (text (codes "decline") (codes "decline", (refl, refl))) (λ e8.
    pick IsNoWord w (codes "spare") (text (codes "spare") (codes "spare", (refl, refl))) (λ e10.
    pick IsNoWord w (codes "go") (text (codes "go") (codes "go", (refl, refl))) (λ e13.
    pick IsNoWord w (codes "locks") (text (codes "locks") (codes "locks", (refl, refl))) (λ e14.
    pick IsNoWord w (codes "phase") (text (codes "phase") (codes "phase", (refl, refl))) (λ e15.
    pick IsNoWord w (codes "die") (text (codes "die") (codes "die", (refl, refl))) (λ e16 other.
    rw (e1, e2, e3, e4, e5, e17, e7, e18, e8, e10, e13, e14, e15, e16) refl))))))))))))))
