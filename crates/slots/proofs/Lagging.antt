-- A load finds what the layer shows, whatever stores wait.
use Rattle.std.proofs.Common.{◌≡◌, ◌≢◌, ◌⊎◌, inl, inr, ℕ, ◌==◌, Bool, true, false, List, [], ◌∷◌, ◌++◌, refl, sym, ap, ◌∙◌, subst, eqb-true}
use Rattle.std.specs.Prelude.{if◌then◌else◌}
use Rattle.std.proofs.lemmas.Bool.{eqb-false}
use Rattle.protocol.specs.Machine.{put}
use Rattle.protocol.proofs.Puts.{put-other, put-same}
use Rattle.storebuffers.specs.Buffers.{Store, Waits, stored}
use Rattle.storebuffers.proofs.Stores.{same_or_not, stored-on, stored-out, stored-same, waits-left, waits-right, waits_or_not}

-- two threads' stores don't wait at one place, and a load finds what the layer shows where no other thread's store waits
abbrev pub AreApart : (ℕ → List Store) → Type 0
AreApart buffers = (t u p : ℕ) → t ≢ u → Waits p (buffers t) → Waits p (buffers u) → ⊥

abbrev pub NoOthers : (ℕ → List Store) → ℕ → ℕ → Type 0
NoOthers buffers t p = (u : ℕ) → u ≢ t → Waits p (buffers u) → ⊥

abbrev pub Finds : (ℕ → ℕ) → (ℕ → ℕ) → (ℕ → List Store) → Type 0
Finds words memory buffers = (t p : ℕ) → NoOthers buffers t p → stored (buffers t) memory p ≡ words p

module _ (words memory : ℕ → ℕ) (buffers : ℕ → List Store) (apart : AreApart buffers) (finds : Finds words memory buffers) where
  -- where one thread's store waits, it is that thread's
  finds_own : (t p : ℕ) → Waits p (buffers t) → stored (buffers t) memory p ≡ words p
  finds_own t p there = finds t p (λ u other its. apart u t p other its there)

  abbrev Tracks : (ℕ → ℕ) → (ℕ → ℕ) → ℕ → ℕ
  Tracks words' memory' p = if words' p == words p then memory' p else words' p

  -- words that change are changed in memory
  pub kept_finds : (words' : ℕ → ℕ) → ((t p : ℕ) → Waits p (buffers t) → words' p ≡ words p) → Finds words' (Tracks words' memory) buffers
  kept_finds words' still t p none = go (words' p == words p) refl (waits_or_not p (buffers t))
    where
      is : (b : Bool) → (words' p == words p) ≡ b → Tracks words' memory p ≡ (if b then memory p else words' p)
      is b e = ap (λ (d : Bool). if d then memory p else words' p) e

      go : (b : Bool) → (words' p == words p) ≡ b → Waits p (buffers t) ⊎ (Waits p (buffers t) → ⊥) → stored (buffers t) (Tracks words' memory) p ≡ words' p
      go true e w = stored-same (buffers t) (Tracks words' memory) memory p (is true e) ∙ finds t p none ∙ sym (eqb-true (words' p) (words p) e)
      go false e (inl there) = absurd (eqb-false (words' p) (words p) e (still t p there))
      go false e (inr out) = stored-out (buffers t) (Tracks words' memory) p out ∙ is false e

  -- and all that waits of one thread has reached memory before
  pub flushed_finds : (u : ℕ) (words' : ℕ → ℕ) → ((t p : ℕ) → t ≢ u → Waits p (buffers t) → words' p ≡ words p) → Finds words' (Tracks words' (stored (buffers u) memory)) (put buffers u [])
  flushed_finds u words' still t p none = at (same_or_not t u)
    where
      base : ℕ → ℕ
      base = stored (buffers u) memory

      is : (b : Bool) → (words' p == words p) ≡ b → Tracks words' (stored (buffers u) memory) p ≡ (if b then stored (buffers u) memory p else words' p)
      is b e = ap (λ (d : Bool). if d then stored (buffers u) memory p else words' p) e

      -- no thread but these two has a store there
      beyond : (v : ℕ) → v ≢ t → v ≢ u → Waits p (buffers v) → ⊥
      beyond v other off there = none v other (subst (Waits p) (sym (put-other buffers u [] v off)) there)

      mine : t ≡ u → stored (put buffers u [] t) (Tracks words' (stored (buffers u) memory)) p ≡ words' p
      mine e = ap (λ (xs : List Store). stored xs (Tracks words' (stored (buffers u) memory)) p) (ap (put buffers u []) e ∙ put-same buffers u []) ∙ go (words' p == words p) refl
        where
          go : (b : Bool) → (words' p == words p) ≡ b → Tracks words' (stored (buffers u) memory) p ≡ words' p
          go true f = is true f ∙ finds u p (λ v other there. beyond v (λ g. other (g ∙ e)) other there) ∙ sym (eqb-true (words' p) (words p) f)
          go false f = is false f

      theirs : t ≢ u → stored (put buffers u [] t) (Tracks words' (stored (buffers u) memory)) p ≡ words' p
      theirs off = ap (λ (xs : List Store). stored xs (Tracks words' (stored (buffers u) memory)) p) (put-other buffers u [] t off) ∙ go (words' p == words p) refl (waits_or_not p (buffers t)) (waits_or_not p (buffers u))
        where
          go : (b : Bool) → (words' p == words p) ≡ b → Waits p (buffers t) ⊎ (Waits p (buffers t) → ⊥) → Waits p (buffers u) ⊎ (Waits p (buffers u) → ⊥) → stored (buffers t) (Tracks words' (stored (buffers u) memory)) p ≡ words' p
          go false f (inl there) w = absurd (eqb-false (words' p) (words p) f (still t p off there))
          go false f (inr out) w = stored-out (buffers t) (Tracks words' (stored (buffers u) memory)) p out ∙ is false f
          go true f (inl there) (inl its) = absurd (apart t u p off there its)
          go true f (inr out) (inl its) = stored-out (buffers t) (Tracks words' (stored (buffers u) memory)) p out ∙ is true f ∙ finds_own u p its ∙ sym (eqb-true (words' p) (words p) f)
          go true f w (inr gone) = stored-same (buffers t) (Tracks words' (stored (buffers u) memory)) memory p (is true f ∙ stored-out (buffers u) memory p gone) ∙ finds t p (λ v other there. at_all v other there (same_or_not v u) gone) ∙ sym (eqb-true (words' p) (words p) f)
            where
              at_all : (v : ℕ) → v ≢ t → Waits p (buffers v) → (v ≡ u) ⊎ (v ≢ u) → (Waits p (buffers u) → ⊥) → ⊥
              at_all v other there (inl e) gone = gone (subst (λ (j : ℕ). Waits p (buffers j)) e there)
              at_all v other there (inr far) gone = beyond v other far there

      at : (t ≡ u) ⊎ (t ≢ u) → stored (put buffers u [] t) (Tracks words' (stored (buffers u) memory)) p ≡ words' p
      at (inl e) = mine e
      at (inr off) = theirs off

  -- a store that waits
  pub store_finds : (u : ℕ) (s : Store) (words' : ℕ → ℕ) → words' s.at ≡ s.value → ((p : ℕ) → p ≢ s.at → words' p ≡ words p) → Finds words' memory (put buffers u (buffers u ++ s ∷ []))
  store_finds u s words' here elsewhere t p none = at (same_or_not t u)
    where
      before : (v : ℕ) → v ≢ t → v ≢ u → Waits p (buffers v) → ⊥
      before v other off there = none v other (subst (Waits p) (sym (put-other buffers u (buffers u ++ s ∷ []) v off)) there)

      mine : t ≡ u → stored (put buffers u (buffers u ++ s ∷ []) t) memory p ≡ words' p
      mine e = ap (λ (xs : List Store). stored xs memory p) (ap (put buffers u (buffers u ++ s ∷ [])) e ∙ put-same buffers u (buffers u ++ s ∷ [])) ∙ ap (λ (f : ℕ → ℕ). f p) (stored-on (buffers u) (s ∷ []) memory) ∙ go (same_or_not p s.at)
        where
          go : (p ≡ s.at) ⊎ (p ≢ s.at) → put (stored (buffers u) memory) s.at s.value p ≡ words' p
          go (inl f) = ap (put (stored (buffers u) memory) s.at s.value) f ∙ put-same (stored (buffers u) memory) s.at s.value ∙ sym here ∙ ap words' (sym f)
          go (inr far) = put-other (stored (buffers u) memory) s.at s.value p far ∙ finds u p (λ v other there. before v (λ g. other (g ∙ e)) other there) ∙ sym (elsewhere p far)

      theirs : t ≢ u → stored (put buffers u (buffers u ++ s ∷ []) t) memory p ≡ words' p
      theirs off = ap (λ (xs : List Store). stored xs memory p) (put-other buffers u (buffers u ++ s ∷ []) t off) ∙ finds t p (λ v other there. at_all v other there (same_or_not v u)) ∙ sym (elsewhere p (λ e. its (waits-right p (buffers u) (s ∷ []) (inl (sym e)))))
        where
          its : Waits p (buffers u ++ s ∷ []) → ⊥
          its there = none u (λ e. off (sym e)) (subst (Waits p) (sym (put-same buffers u (buffers u ++ s ∷ []))) there)

          at_all : (v : ℕ) → v ≢ t → Waits p (buffers v) → (v ≡ u) ⊎ (v ≢ u) → ⊥
          at_all v other there (inl e) = its (waits-left p (buffers u) (s ∷ []) (subst (λ (j : ℕ). Waits p (buffers j)) e there))
          at_all v other there (inr far) = before v other far there

      at : (t ≡ u) ⊎ (t ≢ u) → stored (put buffers u (buffers u ++ s ∷ []) t) memory p ≡ words' p
      at (inl e) = mine e
      at (inr off) = theirs off

  -- a store that reaches memory
  pub drained_finds : (u : ℕ) (s : Store) (ss : List Store) → buffers u ≡ s ∷ ss → Finds words (put memory s.at s.value) (put buffers u ss)
  drained_finds u s ss first t p none = at (same_or_not t u)
    where
      before : (v : ℕ) → v ≢ t → v ≢ u → Waits p (buffers v) → ⊥
      before v other off there = none v other (subst (Waits p) (sym (put-other buffers u ss v off)) there)

      mine : t ≡ u → stored (put buffers u ss t) (put memory s.at s.value) p ≡ words p
      mine e = ap (λ (xs : List Store). stored xs (put memory s.at s.value) p) (ap (put buffers u ss) e ∙ put-same buffers u ss) ∙ ap (λ (xs : List Store). stored xs memory p) (sym first) ∙ finds u p (λ v other there. before v (λ g. other (g ∙ e)) other there)

      theirs : t ≢ u → stored (put buffers u ss t) (put memory s.at s.value) p ≡ words p
      theirs off = ap (λ (xs : List Store). stored xs (put memory s.at s.value) p) (put-other buffers u ss t off) ∙ go (same_or_not p s.at)
        where
          gone : Waits p ss → ⊥
          gone there = none u (λ e. off (sym e)) (subst (Waits p) (sym (put-same buffers u ss)) there)

          go : (p ≡ s.at) ⊎ (p ≢ s.at) → stored (buffers t) (put memory s.at s.value) p ≡ words p
          go (inl f) = stored-out (buffers t) (put memory s.at s.value) p (λ there. apart t u p off there its) ∙ sym (stored-out ss (put memory s.at s.value) p gone) ∙ ap (λ (xs : List Store). stored xs memory p) (sym first) ∙ finds_own u p its
            where
              its : Waits p (buffers u)
              its = subst (Waits p) (sym first) (inl (sym f))
          go (inr far) = stored-same (buffers t) (put memory s.at s.value) memory p (put-other memory s.at s.value p far) ∙ finds t p (λ v other there. at_all v other there (same_or_not v u))
            where
              of_rest : Waits p (s ∷ ss) → ⊥
              of_rest (inl e) = far (sym e)
              of_rest (inr there) = gone there

              at_all : (v : ℕ) → v ≢ t → Waits p (buffers v) → (v ≡ u) ⊎ (v ≢ u) → ⊥
              at_all v other there (inl e) = of_rest (subst (Waits p) first (subst (λ (j : ℕ). Waits p (buffers j)) e there))
              at_all v other there (inr off_u) = before v other off_u there

      at : (t ≡ u) ⊎ (t ≢ u) → stored (put buffers u ss t) (put memory s.at s.value) p ≡ words p
      at (inl e) = mine e
      at (inr off) = theirs off
