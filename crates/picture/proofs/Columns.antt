-- Texts in columns, piece after piece.
use Rattle.std.proofs.Common.{◌≡◌, Bor, Result, Ok, Err, IfOk, ℕ, zero, suc, ◌+◌, ◌-◌, ◌<◌, List, [], ◌∷◌, ◌++◌, length, map, take, get_or, refl, sym, ap, ◌∙◌, append_assoc, append-nil, add-one}
use Rattle.std.specs.List.{concat, repeat}
use Rattle.std.proofs.lemmas.List.{map-append, take_more}
use Rattle.streams.proofs.Writers.{one_more}
use Rattle.picture.specs.Pieces.{each, less}

pub repeat-suc : (n : ℕ) (xs : List ℕ) → repeat (suc n) xs ≡ repeat n xs ++ xs
repeat-suc zero xs = append-nil xs
repeat-suc (suc n) xs = ap (λ l. xs ++ l) (repeat-suc n xs) ∙ sym (append_assoc xs (repeat n xs) xs)

-- a piece once more
pub once_more : (a b c xs : List ℕ) (n : ℕ) → b ≡ a ++ repeat n xs → c ≡ b ++ xs → c ≡ a ++ repeat (n + 1) xs
once_more a b c xs n before added = added ∙ ap (λ l. l ++ xs) before ∙ append_assoc a (repeat n xs) xs ∙ ap (λ l. a ++ l) (sym (repeat-suc n xs)) ∙ ap (λ m. a ++ repeat m xs) (sym (add-one n))

less-push : (columns : ℕ) (ps : List (List ℕ)) (p : List ℕ) → less columns (ps ++ p ∷ []) ≡ less columns ps - length p
less-push columns [] p = refl
less-push columns (q ∷ ps) p = less-push (columns - length q) ps p

-- one piece more
pub less_more : {A : Type 0} (f : A → List ℕ) (xs : List A) (i columns : ℕ) (d : A) → i < length xs → less columns (map f (take (i + 1) xs)) ≡ less columns (map f (take i xs)) - length (f (get_or xs i d))
less_more f xs i columns d lt = rw (take_more xs i d lt, map-append f (take i xs) (get_or xs i d ∷ [])) (less-push columns (map f (take i xs)) (f (get_or xs i d)))

-- what stands past the last piece
abbrev pub nowhere : Bor (List ℕ)
nowhere = record { ref_ptr = (0, 0); now = [] }

pub adds_more : {A : Type 0} (f : A → List ℕ) (xs : List A) (i : ℕ) (d : A) (a b c : List ℕ) → i < length xs → b ≡ a ++ concat (map f (take i xs)) → c ≡ b ++ f (get_or xs i d) → c ≡ a ++ concat (map f (take (i + 1) xs))
adds_more f xs i d a b c lt before added = added ∙ ap (λ l. l ++ f (get_or xs i d)) before ∙ append_assoc a (concat (map f (take i xs))) (f (get_or xs i d)) ∙ ap (λ l. a ++ l) (sym (one_more f xs i d lt))

-- one text, and then another
pub both : (a b c x y : List ℕ) → b ≡ a ++ x → c ≡ b ++ y → c ≡ a ++ (x ++ y)
both a b c x y p q = q ∙ ap (λ l. l ++ y) p ∙ append_assoc a x y

-- a number more
pub one_further : (f : ℕ → List ℕ) (a b c : List ℕ) (n : ℕ) → b ≡ a ++ each f n → c ≡ b ++ f n → c ≡ a ++ each f (n + 1)
one_further f a b c n before added = added ∙ ap (λ l. l ++ f n) before ∙ append_assoc a (each f n) (f n) ∙ ap (λ m. a ++ each f m) (sym (add-one n))

-- and where its text differs
pub once_further : (f : ℕ → List ℕ) (a b c y : List ℕ) (n : ℕ) → b ≡ a ++ each f n → c ≡ b ++ y → y ≡ f n → c ≡ a ++ each f (n + 1)
once_further f a b c y n before added same = one_further f a b c n before (added ∙ ap (λ l. b ++ l) same)

-- a sign, and then another text
pub sign_and : (a b c s x y z : List ℕ) → b ≡ a ++ (s ++ []) → s ≡ x → c ≡ b ++ y → y ≡ z → c ≡ a ++ (x ++ z)
sign_and a b c s x y z p is q so = both a b c x z (p ∙ ap (λ l. a ++ l) (append-nil s ∙ is)) (q ∙ ap (λ l. b ++ l) so)

-- one text, and then another one, where that came of it
pub then_text : {X E : Type 0} (r : Result X E) (a b c x y : List ℕ) → b ≡ a ++ x → IfOk r (λ _. c ≡ b ++ y) → IfOk r (λ _. c ≡ a ++ (x ++ y))
then_text (Ok u) a b c x y p q = both a b c x y p q
then_text (Err e) a b c x y p q = tt

-- a text that differs
pub told_as : {X E : Type 0} (r : Result X E) (a c x y : List ℕ) → x ≡ y → IfOk r (λ _. c ≡ a ++ x) → IfOk r (λ _. c ≡ a ++ y)
told_as (Ok u) a c x y same p = p ∙ ap (λ l. a ++ l) same
told_as (Err e) a c x y same p = tt

-- the same function of the same things
pub same_in : {A B C D E : Type 0} (f : A → B → C → D → E) (a a' : A) (b b' : B) (c c' : C) (d d' : D) → a ≡ a' → b ≡ b' → c ≡ c' → d ≡ d' → f a b c d ≡ f a' b' c' d'
same_in f a a' b b' c c' d d' p q r s = ap (λ x. f x b c d) p ∙ ap (λ x. f a' x c d) q ∙ ap (λ x. f a' b' x d) r ∙ ap (λ x. f a' b' c' x) s
