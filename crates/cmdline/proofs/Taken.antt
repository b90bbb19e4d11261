-- What clap finds in the command lines that have a form.
use Rattle.std.proofs.Common.{ℕ, ◌≡◌, Bool, true, false, not, eqb, List, [], ◌∷◌, codes, refl, sym, subst, inl, inr, ◌⊎◌}
use Rattle.std.specs.Str.{bytes_eq}
use Rattle.clap.specs.Words.{takes, subcommand_of}
use Rattle.clap.proofs.OnLiterals.{clap_on_literals}
use Rattle.std.proofs.lemmas.Slice.Eq.{bytes_eq-Decides}
use Rattle.cmdline.specs.Forms.{usage, asked_of, asked_of_file, asked_of_table, rfx}
use Rattle.streams.specs.Words.{is_file_word}
use Rattle.cmdline.specs.Said.{Said, IsSaid, in_order}

no_hyphen : (t : Bool) → not t ≡ true → t ≡ false
no_hyphen true h = absurd cc
no_hyphen false h = refl

-- clap takes these words, finds just this in them, and they are in order
pub record IsFound (words : List (List ℕ)) (s : Said) : Type 0 where
  pub taken : takes rfx words ≡ true
  pub said : IsSaid (subcommand_of rfx words) s
  pub ordered : in_order words s ≡ true

abbrev plain : List ℕ → List ℕ → Said
plain word file = record { word = word; table = false; file = file }

abbrev tabled : List ℕ → Said
tabled file = record { word = codes "run"; table = true; file = file }

-- clap takes run with a file
run_passes : (p f : List ℕ) → is_file_word f ≡ true → takes rfx (p ∷ codes "run" ∷ f ∷ []) ≡ true
unfolding clap_on_literals
run_passes p [] h = refl
run_passes p (b ∷ bs) h = let e : eqb b 45 ≡ false = no_hyphen (eqb b 45) h in rw e (rw e refl)

run_said : (p f : List ℕ) → is_file_word f ≡ true → IsSaid (subcommand_of rfx (p ∷ codes "run" ∷ f ∷ [])) (plain (codes "run") f)
unfolding clap_on_literals
run_said p [] h = (refl, refl, inr (refl, refl))
run_said p (b ∷ bs) h = let e : eqb b 45 ≡ false = no_hyphen (eqb b 45) h in rw e (rw e (refl, refl, inr (refl, refl)))

-- clap takes run with its option and a file
table_passes : (p f : List ℕ) → is_file_word f ≡ true → takes rfx (p ∷ codes "run" ∷ codes "--table" ∷ f ∷ []) ≡ true
unfolding clap_on_literals
table_passes p [] h = refl
table_passes p (b ∷ bs) h = let e : eqb b 45 ≡ false = no_hyphen (eqb b 45) h in rw e (rw e refl)

table_said : (p f : List ℕ) → is_file_word f ≡ true → IsSaid (subcommand_of rfx (p ∷ codes "run" ∷ codes "--table" ∷ f ∷ [])) (tabled f)
unfolding clap_on_literals
table_said p [] h = (refl, refl, inl (refl, refl))
table_said p (b ∷ bs) h = let e : eqb b 45 ≡ false = no_hyphen (eqb b 45) h in rw e (rw e (refl, refl, inl (refl, refl)))

-- clap takes threads with a file
threads_passes : (p f : List ℕ) → is_file_word f ≡ true → takes rfx (p ∷ codes "threads" ∷ f ∷ []) ≡ true
unfolding clap_on_literals
threads_passes p [] h = refl
threads_passes p (b ∷ bs) h = let e : eqb b 45 ≡ false = no_hyphen (eqb b 45) h in rw e (rw e refl)

threads_said : (p f : List ℕ) → is_file_word f ≡ true → IsSaid (subcommand_of rfx (p ∷ codes "threads" ∷ f ∷ [])) (plain (codes "threads") f)
unfolding clap_on_literals
threads_said p [] h = (refl, refl, refl)
threads_said p (b ∷ bs) h = let e : eqb b 45 ≡ false = no_hyphen (eqb b 45) h in rw e (rw e (refl, refl, refl))

-- clap takes check with a file
check_passes : (p f : List ℕ) → is_file_word f ≡ true → takes rfx (p ∷ codes "check" ∷ f ∷ []) ≡ true
unfolding clap_on_literals
check_passes p [] h = refl
check_passes p (b ∷ bs) h = let e : eqb b 45 ≡ false = no_hyphen (eqb b 45) h in rw e (rw e refl)

check_said : (p f : List ℕ) → is_file_word f ≡ true → IsSaid (subcommand_of rfx (p ∷ codes "check" ∷ f ∷ [])) (plain (codes "check") f)
unfolding clap_on_literals
check_said p [] h = (refl, refl, refl)
check_said p (b ∷ bs) h = let e : eqb b 45 ≡ false = no_hyphen (eqb b 45) h in rw e (rw e (refl, refl, refl))

-- two texts that are tested equal are equal
pub same_text : (a b : List ℕ) → bytes_eq a b ≡ true → a ≡ b
same_text a b e = (bytes_eq-Decides a b).0 e

same_as_itself : (a : List ℕ) → bytes_eq a a ≡ true
same_as_itself a = (bytes_eq-Decides a a).1 refl

plain_in_order : (p w f : List ℕ) → is_file_word f ≡ true → in_order (p ∷ w ∷ f ∷ []) (plain w f) ≡ true
plain_in_order p w f is = rw (is, same_as_itself w, same_as_itself f) refl

table_in_order : (p f : List ℕ) → is_file_word f ≡ true → in_order (p ∷ codes "run" ∷ codes "--table" ∷ f ∷ []) (tabled f) ≡ true
table_in_order p f is = rw (is, same_as_itself f) refl

-- a subcommand with one word asks for the usage, or clap finds just them
file_found : (p w f : List ℕ) → (asked_of_file w f ≡ usage) ⊎ ((s : Said) × IsFound (p ∷ w ∷ f ∷ []) s)
file_found p w f = go (is_file_word f) (bytes_eq w (codes "run")) (bytes_eq w (codes "threads")) (bytes_eq w (codes "check")) refl refl refl refl where
  found : (name : List ℕ) → bytes_eq w name ≡ true → IsFound (p ∷ name ∷ f ∷ []) (plain name f) → (s : Said) × IsFound (p ∷ w ∷ f ∷ []) s
  found name same it = (plain name f, subst (λ (v : List ℕ). IsFound (p ∷ v ∷ f ∷ []) (plain name f)) (sym (same_text w name same)) it)

  go : (b r t k : Bool) → is_file_word f ≡ b → bytes_eq w (codes "run") ≡ r → bytes_eq w (codes "threads") ≡ t → bytes_eq w (codes "check") ≡ k → (asked_of_file w f ≡ usage) ⊎ ((s : Said) × IsFound (p ∷ w ∷ f ∷ []) s)
  go false r t k is run threads check = inl (rw is refl)
  go true true t k is run threads check = inr (found (codes "run") run (record { taken = run_passes p f is; said = run_said p f is; ordered = plain_in_order p (codes "run") f is }))
  go true false true k is run threads check = inr (found (codes "threads") threads (record { taken = threads_passes p f is; said = threads_said p f is; ordered = plain_in_order p (codes "threads") f is }))
  go true false false true is run threads check = inr (found (codes "check") check (record { taken = check_passes p f is; said = check_said p f is; ordered = plain_in_order p (codes "check") f is }))
  go true false false false is run threads check = inl (rw (is, run, threads, check) refl)

-- a subcommand with an option and one word more ask for the usage, or clap finds just them
table_found : (p w t f : List ℕ) → (asked_of_table w t f ≡ usage) ⊎ ((s : Said) × IsFound (p ∷ w ∷ t ∷ f ∷ []) s)
table_found p w t f = go (bytes_eq w (codes "run")) (bytes_eq t (codes "--table")) (is_file_word f) refl refl refl where
  found : bytes_eq w (codes "run") ≡ true → bytes_eq t (codes "--table") ≡ true → is_file_word f ≡ true → IsFound (p ∷ w ∷ t ∷ f ∷ []) (tabled f)
  found same other is =
      subst (λ (v : List ℕ). IsFound (p ∷ v ∷ t ∷ f ∷ []) (tabled f)) (sym (same_text w (codes "run") same))
      (subst (λ (v : List ℕ). IsFound (p ∷ codes "run" ∷ v ∷ f ∷ []) (tabled f)) (sym (same_text t (codes "--table") other))
      (record { taken = table_passes p f is; said = table_said p f is; ordered = table_in_order p f is }))

  go : (r b i : Bool) → bytes_eq w (codes "run") ≡ r → bytes_eq t (codes "--table") ≡ b → is_file_word f ≡ i → (asked_of_table w t f ≡ usage) ⊎ ((s : Said) × IsFound (p ∷ w ∷ t ∷ f ∷ []) s)
  go true true true same other is = inr (tabled f, found same other is)
  go true true false same other is = inl (rw (same, other, is) refl)
  go true false i same other is = inl (rw (same, other) refl)
  go false b i same other is = inl (rw same refl)

-- words that are spelled in a form are found by clap
pub forms_found : (words : List (List ℕ)) → (asked_of words ≡ usage) ⊎ ((s : Said) × IsFound words s)
forms_found [] = inl refl
forms_found (p ∷ []) = inl refl
forms_found (p ∷ w ∷ []) = inl refl
forms_found (p ∷ w ∷ f ∷ []) = file_found p w f
forms_found (p ∷ w ∷ t ∷ f ∷ []) = table_found p w t f
forms_found (p ∷ w ∷ t ∷ f ∷ x ∷ more) = inl refl
