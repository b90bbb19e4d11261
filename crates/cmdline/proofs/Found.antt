-- What the matches of a subcommand say.
use Rattle.std.proofs.Common.{ℕ, ◌≡◌, Bool, true, false, List, codes, Option, Some, None, refl, sym, subst, ap, ◌∙◌, option_map, inl, inr}
use Rattle.clap.specs.Words.{Row, Text, first_of, one_of}
use Rattle.cmdline.specs.Said.{Said, IsFlag, IsSaid}

-- the rows of a subcommand say this
pub record AreOf (word : List ℕ) (rows : List Row) (s : Said) : Type 0 where
  pub same : word ≡ s.word
  pub file : first_of (codes "FILE") rows ≡ Some s.file
  pub flag : IsFlag (one_of (codes "table") rows) s.table

pub some_same : {A : Type 0} (x y : A) → Some x ≡ Some y → x ≡ y
some_same x y e = cc

-- what is said of a subcommand is said by its name and its rows
pub of_subcommand : {B : Type 0} (name : B → Text) (rows : B → List Row) (o : Option B) (w : Text) (rs : List Row) → Some w ≡ option_map name o → Some rs ≡ option_map (λ (p : Text × List Row). p.1) (option_map (λ b. (name b, rows b)) o) → (s : Said) → IsSaid (option_map (λ b. (name b, rows b)) o) s → AreOf w rs s
of_subcommand name rows None w rs named had s h = absurd h
of_subcommand name rows (Some b) w rs named had s h = record {
  same = some_same w (name b) named ∙ h.0;
  file = ap (first_of (codes "FILE")) (some_same rs (rows b) had) ∙ h.1;
  flag = subst (λ (r : List Row). IsFlag (one_of (codes "table") r) s.table) (sym (some_same rs (rows b) had)) h.2;
}

-- a flag's text is read as it is
pub flag_is : (o : Option (List ℕ)) (b said : Bool) → (o ≡ None → b ≡ false) → (o ≡ Some (codes "true") → b ≡ true) → (o ≡ Some (codes "false") → b ≡ false) → IsFlag o said → b ≡ said
flag_is None b said none set unset is = none refl ∙ sym is
flag_is (Some text) b said none set unset (inl (same, is)) = set (ap Some same) ∙ sym is
flag_is (Some text) b said none set unset (inr (same, is)) = unset (ap Some same) ∙ sym is

-- where something is seen there is something
pub is_seen : {A B : Type 0} (f : A → B) (o : Option A) (s : B) → option_map f o ≡ Some s → (x : A) × (o ≡ Some x) × (f x ≡ s)
is_seen f None s e = absurd cc
is_seen f (Some x) s e = (x, refl, cc)
