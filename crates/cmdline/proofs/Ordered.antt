-- What words in the order of a form ask for.
use Rattle.std.proofs.Common.{ℕ, ◌≡◌, Bool, true, false, not, List, [], ◌∷◌, codes, refl}
use Rattle.std.specs.Prelude.{◌&&◌, if◌then◌else◌}
use Rattle.std.specs.Str.{bytes_eq}
use Rattle.cmdline.specs.Forms.{table, usage, asked_of, asked_of_file, asked_of_table}
use Rattle.streams.specs.Words.{is_file_word}
use Rattle.cmdline.specs.Said.{Said, asked_for, in_order}
use Rattle.cmdline.proofs.Taken.{same_text}

both : (a b : Bool) → (a && b) ≡ true → (a ≡ true) × (b ≡ true)
both true b h = (refl, h)
both false b h = absurd cc

not_true : (a : Bool) → not a ≡ true → a ≡ false
not_true true h = absurd cc
not_true false h = refl

plain_asks : (p w f : List ℕ) (s : Said) → in_order (p ∷ w ∷ f ∷ []) s ≡ true → asked_of_file w f ≡ asked_for s
plain_asks p w f s h =
    let one = both (not s.table) _ h in
    let two = both (is_file_word f) _ one.1 in
    let three = both (bytes_eq w s.word) (bytes_eq f s.file) two.1 in
    let word : w ≡ s.word = same_text w s.word three.0 in
    let file : f ≡ s.file = same_text f s.file three.1 in
    rw (not_true s.table one.0, two.0, ← word, ← file) refl

table_asks : (p w t f : List ℕ) (s : Said) → in_order (p ∷ w ∷ t ∷ f ∷ []) s ≡ true → asked_of_table w t f ≡ asked_for s
table_asks p w t f s h =
    let one = both s.table _ h in
    let two = both (is_file_word f) _ one.1 in
    let three = both (bytes_eq t (codes "--table")) _ two.1 in
    let four = both (bytes_eq w s.word) (bytes_eq f s.file) three.1 in
    let word : w ≡ s.word = same_text w s.word four.0 in
    let file : f ≡ s.file = same_text f s.file four.1 in
    rw (one.0, two.0, three.0, ← word, ← file) (go (bytes_eq w (codes "run")))
  where
    go : (b : Bool) → (if b && true && true then table f else usage) ≡ (if b then table f else usage)
    go true = refl
    go false = refl

-- words in the order of a form ask for what was found in them
pub order_asks : (words : List (List ℕ)) (s : Said) → in_order words s ≡ true → asked_of words ≡ asked_for s
order_asks [] s h = absurd cc
order_asks (p ∷ []) s h = absurd cc
order_asks (p ∷ w ∷ []) s h = absurd cc
order_asks (p ∷ w ∷ f ∷ []) s h = plain_asks p w f s h
order_asks (p ∷ w ∷ t ∷ f ∷ []) s h = table_asks p w t f s h
order_asks (p ∷ w ∷ t ∷ f ∷ x ∷ more) s h = absurd cc
