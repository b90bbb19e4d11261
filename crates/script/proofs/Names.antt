-- Names as texts and as bytes.
use Rattle.std.proofs.Common.{◌≡◌, ℕ, Bool, true, false, not, List, [], ◌∷◌, IsOk, length, map, position, ◌≤◌, ◌==◌, arith, Ok, Err, Global, String, string_bytes, refl, sym, subst, eqb-true}
use Rattle.std.specs.List.{prefix_len, list_any}
use Rattle.std.specs.Prelude.{IsTrue}
use Rattle.std.specs.Str.{bytes_eq}
use Rattle.std.specs.String.{string_eq}
use Rattle.std.proofs.lemmas.Bool.Decides.{nat_tests}
use Rattle.std.proofs.lemmas.List.{map_push}
use Rattle.indexmap.specs.IndexSet.{insert_key}
use Rattle.script.specs.Reading.{is_declared, with_name}
use Rattle.script.specs.declared.fault.Fault.TheVariants.{NoSuchName}

pub prefix_len-map : {X Y : Type 0} (f : X → Y) (p : Y → Bool) (xs : List X) → prefix_len p (map f xs) ≡ prefix_len (λ x. p (f x)) xs
prefix_len-map f p [] = refl
prefix_len-map f p (x ∷ xs) = rw (prefix_len-map f p xs) refl

pub length-map_of : {X Y : Type 0} (f : X → Y) (xs : List X) → length (map f xs) ≡ length xs
length-map_of f [] = refl
length-map_of f (x ∷ xs) = rw (length-map_of f xs) refl

pub position-map : {X Y : Type 0} (f : X → Y) (p : Y → Bool) (xs : List X) → position p (map f xs) ≡ position (λ x. p (f x)) xs
position-map f p xs = rw (prefix_len-map f (λ y. not (p y)) xs, length-map_of f xs) refl

pub list_any-map : {X Y : Type 0} (f : X → Y) (p : Y → Bool) (xs : List X) → list_any p (map f xs) ≡ list_any (λ x. p (f x)) xs
list_any-map f p [] = refl
list_any-map f p (x ∷ xs) = rw (list_any-map f p xs) refl

abbrev pub texts : List (String Global) → List (List ℕ)
texts ks = map string_bytes ks

-- what it means that a list has no elements
pub is_none : (b : Bool) (n : ℕ) → (IsTrue b → n ≡ 0) × (n ≡ 0 → IsTrue b) → b ≡ true → (n == 0) ≡ true
is_none true n h e = let none = h.0 refl in grind (arith, nat_tests)
is_none false n h e = absurd cc

pub is_some_of : (b : Bool) (n : ℕ) → (IsTrue b → n ≡ 0) × (n ≡ 0 → IsTrue b) → b ≡ false → (n == 0) ≡ false
is_some_of true n h e = absurd cc
is_some_of false n h e = go (n == 0) refl
  where
    go : (d : Bool) → (n == 0) ≡ d → d ≡ false
    go false is = refl
    go true is = absurd (cc (h.1 (eqb-true n 0 is)))

pub some_names : (ks : List (String Global)) → (length ks == 0) ≡ false → 1 ≤ length (texts ks)
some_names ks some = let same = length-map_of string_bytes ks in grind (arith, nat_tests)

pub no_names : (ks : List (String Global)) → (length ks == 0) ≡ true → (length (texts ks) == 0) ≡ true
no_names ks none = rw (length-map_of string_bytes ks) none

declared-texts : (w : List ℕ) (ks : List (String Global)) → is_declared w (texts ks) ≡ list_any (λ k. bytes_eq w (string_bytes k)) ks
declared-texts w ks = list_any-map string_bytes (λ n. bytes_eq w n) ks

-- a new name is no fault
pub has_none : (w : List ℕ) (ks : List (String Global)) → list_any (λ k. bytes_eq w (string_bytes k)) ks ≡ false → IsOk (with_name (texts ks) w)
has_none w ks is = rw (declared-texts w ks, is) refl

pub refused : (w : List ℕ) (ks : List (String Global)) → list_any (λ k. bytes_eq w (string_bytes k)) ks ≡ true → with_name (texts ks) w ≡ Err NoSuchName
refused w ks is = rw (declared-texts w ks, is) refl

taken_itself : (k : String Global) (ks : List (String Global)) → list_any (string_eq k) ks ≡ false → with_name (texts ks) (string_bytes k) ≡ Ok (texts (insert_key string_eq ks k))
taken_itself k ks is = rw (declared-texts (string_bytes k) ks, is, map_push string_bytes ks k) refl

pub taken : (w : List ℕ) (k : String Global) (ks : List (String Global)) → string_bytes k ≡ w → list_any (λ x. bytes_eq w (string_bytes x)) ks ≡ false → with_name (texts ks) w ≡ Ok (texts (insert_key string_eq ks k))
taken w k ks same is =
    let new : list_any (string_eq k) ks ≡ false = subst (λ (v : List ℕ). list_any (λ x. bytes_eq v (string_bytes x)) ks ≡ false) (sym same) is in
    subst (λ (v : List ℕ). with_name (texts ks) v ≡ Ok (texts (insert_key string_eq ks k))) same (taken_itself k ks new)
