-- Things with names as entries of a map and by their names' bytes.
use Rattle.std.proofs.Common.{◌≡◌, ℕ, Bool, true, false, cond, ◌||◌, List, [], ◌∷◌, ◌++◌, map, Ok, Err, IsOk, Some, is_some, if◌then◌else◌, Global, String, string_bytes, refl, sym, ap, subst}
use Rattle.std.specs.Map.{lookup}
use Rattle.std.specs.Str.{bytes_eq}
use Rattle.std.specs.String.{string_eq}
use Rattle.indexmap.specs.IndexMap.{insert_entry}
use Rattle.script.specs.Reading.{is_declared, names_of, with_entry}
use Rattle.script.specs.Seen.{entries_seen}
use Rattle.script.specs.declared.fault.Fault.TheVariants.{NoSuchName}

-- the names are the keys
pub names_seen : {V : Type 0} (es : List (String Global × V)) → names_of (entries_seen es) ≡ map string_bytes (map (λ e. e.0) es)
names_seen [] = refl
names_seen (e ∷ es) = rw (names_seen es) refl

declared_seen : {V : Type 0} (w : List ℕ) (es : List (String Global × V)) → is_declared w (names_of (entries_seen es)) ≡ is_some (lookup (λ k. bytes_eq w (string_bytes k)) es)
declared_seen w [] = refl
declared_seen w (e ∷ es) = go (bytes_eq w (string_bytes e.0)) (declared_seen w es)
  where
    go : (b : Bool) → is_declared w (names_of (entries_seen es)) ≡ is_some (lookup (λ k. bytes_eq w (string_bytes k)) es)
        → (b || is_declared w (names_of (entries_seen es))) ≡ is_some (cond b (Some e.1) (lookup (λ k. bytes_eq w (string_bytes k)) es))
    go true more = refl
    go false more = more

-- a name that is no key goes last
inserted : {V : Type 0} (k : String Global) (v : V) (es : List (String Global × V)) → is_some (lookup (string_eq k) es) ≡ false → entries_seen (insert_entry string_eq es k v) ≡ entries_seen es ++ (string_bytes k, v) ∷ []
inserted k v [] none = refl
inserted {V} k v (e ∷ es) none = go (string_eq k e.0) none (inserted k v es)
  where
    go : (b : Bool) → is_some (cond b (Some e.1) (lookup (string_eq k) es)) ≡ false → (is_some (lookup (string_eq k) es) ≡ false → entries_seen (insert_entry string_eq es k v) ≡ entries_seen es ++ (string_bytes k, v) ∷ [])
        → entries_seen (if b then (e.0, v) ∷ es else e ∷ insert_entry string_eq es k v) ≡ (string_bytes e.0, e.1) ∷ entries_seen es ++ (string_bytes k, v) ∷ []
    go true none more = absurd cc
    go false none more = ap (λ (l : List (List ℕ × V)). (string_bytes e.0, e.1) ∷ l) (more none)

pub is_there : {V : Type 0} (w : List ℕ) (v : V) (es : List (String Global × V)) → is_some (lookup (λ k. bytes_eq w (string_bytes k)) es) ≡ true → with_entry (entries_seen es) w v ≡ Err NoSuchName
is_there w v es is = rw (declared_seen w es, is) refl

pub has_no_such : {V : Type 0} (w : List ℕ) (v : V) (es : List (String Global × V)) → is_some (lookup (λ k. bytes_eq w (string_bytes k)) es) ≡ false → IsOk (with_entry (entries_seen es) w v)
has_no_such w v es is = rw (declared_seen w es, is) refl

its_own : {V : Type 0} (k : String Global) (v : V) (es : List (String Global × V)) → is_some (lookup (string_eq k) es) ≡ false → with_entry (entries_seen es) (string_bytes k) v ≡ Ok (entries_seen (insert_entry string_eq es k v))
its_own k v es is = rw (declared_seen (string_bytes k) es, is, inserted k v es is) refl

pub takes : {V : Type 0} (w : List ℕ) (k : String Global) (v : V) (es : List (String Global × V)) → string_bytes k ≡ w → is_some (lookup (λ x. bytes_eq w (string_bytes x)) es) ≡ false
    → with_entry (entries_seen es) w v ≡ Ok (entries_seen (insert_entry string_eq es k v))
takes w k v es same is =
    let new : is_some (lookup (string_eq k) es) ≡ false = subst (λ (x : List ℕ). is_some (lookup (λ y. bytes_eq x (string_bytes y)) es) ≡ false) (sym same) is in
    subst (λ (x : List ℕ). with_entry (entries_seen es) x v ≡ Ok (entries_seen (insert_entry string_eq es k v))) same (its_own k v es new)
