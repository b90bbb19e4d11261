-- Of a whole list each word is treated.
use Rattle.std.proofs.Common.{◌≡◌, ◌≢◌, inl, inr, ℕ, zero, suc, ◌≤◌, ◌==◌, Bool, true, false, not, List, [], ◌∷◌, length, refl, sym, ap, ◌∙◌, subst, arith, eqb-true, eq-eqb}
use Rattle.std.specs.Prelude.{if◌then◌else◌, ◌||◌, ◌&&◌}
use Rattle.std.proofs.lemmas.Bool.{eqb-false, ne_eqb}
use Rattle.exitwalk.specs.Words.{sum_of, owner_in, has_waiters, died_word, put}
use Rattle.exitwalk.specs.Meanings.{Effect, untouched, woken, woken_if, died_at, treated, pending_treated, reading, Head, at_last, entries}
use Rattle.exitwalk.specs.Lists.{Leads, Stands, is_listed, is_pended, treated_word, WholeListsAreTreated}
use Rattle.exitwalk.proofs.Alone.{entries-home, entries-on, first_means, offset_means, pending_means, reads}

-- who wakes changes no word
wakes_only : (b : Bool) (a x : ℕ) (s : Effect) → (woken_if b a s).words x ≡ s.words x
wakes_only true a x s = refl
wakes_only false a x s = refl

-- where a word is treated
treats_there : (t : ℕ) (s : Effect) (x : ℕ) (b : Bool) → (if b then put s.words x (died_word (s.words x)) x else s.words x) ≡ (if b then died_word (s.words x) else s.words x)
treats_there t s x true = ap (λ (c : Bool). if c then died_word (s.words x) else s.words x) (eq-eqb x x refl)
treats_there t s x false = refl

-- a word after a treatment
treats : (t a : ℕ) (s : Effect) (x : ℕ) → (treated t a s).words x ≡ (if x == a then treated_word t (s.words x) else s.words x)
treats t a s x = go (owner_in (s.words a) == t) refl (x == a) refl
  where
    at : x ≡ a → (owner_in (s.words x) == t) ≡ (owner_in (s.words a) == t)
    at is = ap (λ (y : ℕ). owner_in (s.words y) == t) is

    go : (o : Bool) → (owner_in (s.words a) == t) ≡ o → (b : Bool) → (x == a) ≡ b → (if o then woken_if (has_waiters (s.words a)) a (died_at a s) else s).words x ≡ (if b then treated_word t (s.words x) else s.words x)
    go true own true here =
        let is : x ≡ a = eqb-true x a here in
        wakes_only (has_waiters (s.words a)) a x (died_at a s)
        ∙ ap (λ (b : Bool). if b then died_word (s.words a) else s.words x) here
        ∙ ap (λ (y : ℕ). died_word (s.words y)) (sym is)
        ∙ sym (ap (λ (b : Bool). if b then died_word (s.words x) else s.words x) (at is ∙ own))
    go true own false there = wakes_only (has_waiters (s.words a)) a x (died_at a s) ∙ ap (λ (b : Bool). if b then died_word (s.words a) else s.words x) there
    go false other true here = sym (ap (λ (b : Bool). if b then died_word (s.words x) else s.words x) (at (eqb-true x a here) ∙ other))
    go false other false there = refl

-- a word that has died has no owner
none_owns : (v : ℕ) → owner_in (died_word v) ≡ 0
none_owns v = omega arith

-- so it is treated but once
once : (t v : ℕ) → 1 ≤ t → treated_word t (treated_word t v) ≡ treated_word t v
once t v pos = go (owner_in v == t) refl
  where
    go : (b : Bool) → (owner_in v == t) ≡ b → treated_word t (if b then died_word v else v) ≡ (if b then died_word v else v)
    go true own = let none = none_owns v in ap (λ (b : Bool). if b then died_word (died_word v) else died_word v) (ne_eqb (owner_in (died_word v)) t (omega arith))
    go false other = ap (λ (b : Bool). if b then died_word v else v) other

-- a word of nobody's is left alone
left : (t v : ℕ) → 1 ≤ t → owner_in v ≡ 0 → treated_word t v ≡ v
left t v pos none = ap (λ (b : Bool). if b then died_word v else v) (ne_eqb (owner_in v) t (omega arith))

-- the pending entry's word
pends : (t a : ℕ) (s : Effect) (x : ℕ) → 1 ≤ t → (pending_treated t a s).words x ≡ (if x == a then treated_word t (s.words x) else s.words x)
pends t a s x pos = go (owner_in (s.words a) == 0) refl (x == a) refl
  where
    go : (n : Bool) → (owner_in (s.words a) == 0) ≡ n → (b : Bool) → (x == a) ≡ b → (if n then woken a s else treated t a s).words x ≡ (if b then treated_word t (s.words x) else s.words x)
    go true none true here = sym (left t (s.words x) pos (ap (λ (y : ℕ). owner_in (s.words y)) (eqb-true x a here) ∙ eqb-true (owner_in (s.words a)) 0 none))
    go true none false there = refl
    go false some b is = treats t a s x ∙ ap (λ (b : Bool). if b then treated_word t (s.words x) else s.words x) is

module _ (valid : ℕ → Bool) (t : ℕ) (h : Head) (pos : 1 ≤ t) (last : h.pending ≢ 0 → valid (sum_of h.pending h.offset) ≡ true) where
  -- after the list
  lasts : (s : Effect) (x : ℕ) → (at_last valid t h s).words x ≡ (if is_pended h x then treated_word t (s.words x) else s.words x)
  lasts s x = go (h.pending == 0) refl
    where
      a : ℕ
      a = sum_of h.pending h.offset

      go : (b : Bool) → (h.pending == 0) ≡ b → (if b then s else reading valid (sum_of h.pending h.offset) s (λ v. pending_treated t (sum_of h.pending h.offset) s)).words x
          ≡ (if not b && (x == sum_of h.pending h.offset) then treated_word t (s.words x) else s.words x)
      go true none = refl
      go false some = ap (λ (e : Effect). e.words x) (reads valid (sum_of h.pending h.offset) s (λ v. pending_treated t (sum_of h.pending h.offset) s) true (last (eqb-false h.pending 0 some))) ∙ pends t (sum_of h.pending h.offset) s x pos

  -- from entry to entry
  abbrev Treats : List ℕ → ℕ → ℕ → Effect → Type 0
  Treats es n e s = (x : ℕ) → (entries valid t h n e s).words x ≡ (if is_listed h.offset es x || is_pended h x then treated_word t (s.words x) else s.words x)

  -- the pending entry is in the list
  pended : (y x : ℕ) → y ≢ 0 → (y == h.pending) ≡ true → (x == sum_of y h.offset) ≡ is_pended h x
  pended y x some is =
      let same : y ≡ h.pending = eqb-true y h.pending is in
      let not_none : (h.pending == 0) ≡ false = ne_eqb h.pending 0 (λ none. some (same ∙ none)) in
      ap (λ (z : ℕ). x == sum_of z h.offset) same ∙ sym (ap (λ (b : Bool). not b && (x == sum_of h.pending h.offset)) not_none)

  twice_named : (b c : Bool) → (c || b) ≡ ((b || c) || b)
  twice_named true true = refl
  twice_named true false = refl
  twice_named false true = refl
  twice_named false false = refl

  joined : (b c p : Bool) (v : ℕ) → (if c || p then treated_word t (if b then treated_word t v else v) else (if b then treated_word t v else v)) ≡ (if (b || c) || p then treated_word t v else v)
  joined true true p v = once t v pos
  joined true false true v = once t v pos
  joined true false false v = refl
  joined false true p v = refl
  joined false false true v = refl
  joined false false false v = refl

-- following links over words that agree
leads-same : (w w' : ℕ → ℕ) (h e : ℕ) (es : List ℕ) → ((f : ℕ) → Stands f es → w' f ≡ w f) → Leads w h e es → Leads w' h e es
leads-same w w' h e [] same l = l
leads-same w w' h e (x ∷ xs) same l = (l.0, l.1, subst (λ (z : ℕ). Leads w' h z xs) (sym (same x (inl refl))) (leads-same w w' h (w x) xs (λ f m. same f (inr m)) l.2))

module _ (valid : ℕ → Bool) (t : ℕ) (h : Head) (pos : 1 ≤ t) (last : h.pending ≢ 0 → valid (sum_of h.pending h.offset) ≡ true) where
  -- an entry more
  one_more : (y : ℕ) (ys : List ℕ) (m : ℕ) (s : Effect) → valid y ≡ true → y ≢ 0 → y ≢ h.at → valid (sum_of y h.offset) ≡ true
      → Treats valid t h pos last ys m (s.words y) s → Treats valid t h pos last ys m (s.words y) (treated t (sum_of y h.offset) s) → Treats valid t h pos last (y ∷ ys) (suc m) y s
  one_more y ys m s ok some on there same changed x =
      ap (λ (e : Effect). e.words x) (entries-on valid t h (suc m) m y s refl (ne_eqb y h.at on) ∙ reads valid y s next true ok) ∙ go (y == h.pending) refl
    where
      a : ℕ
      a = sum_of y h.offset

      next : ℕ → Effect
      next n = if y == h.pending then entries valid t h m n s else reading valid (sum_of y h.offset) s (λ v. entries valid t h m n (treated t (sum_of y h.offset) s))

      go : (b : Bool) → (y == h.pending) ≡ b → (if b then entries valid t h m (s.words y) s else reading valid (sum_of y h.offset) s (λ v. entries valid t h m (s.words y) (treated t (sum_of y h.offset) s))).words x
          ≡ (if ((x == sum_of y h.offset) || is_listed h.offset ys x) || is_pended h x then treated_word t (s.words x) else s.words x)
      go true is =
          let p = pended valid t h pos last y x some is in
          same x ∙ ap (λ (b : Bool). if is_listed h.offset ys x || b then treated_word t (s.words x) else s.words x) (sym p)
          ∙ ap (λ (b : Bool). if b then treated_word t (s.words x) else s.words x) (twice_named valid t h pos last (x == sum_of y h.offset) (is_listed h.offset ys x))
          ∙ ap (λ (b : Bool). if ((x == sum_of y h.offset) || is_listed h.offset ys x) || b then treated_word t (s.words x) else s.words x) p
      go false is =
          ap (λ (e : Effect). e.words x) (reads valid (sum_of y h.offset) s (λ v. entries valid t h m (s.words y) (treated t (sum_of y h.offset) s)) true there)
          ∙ changed x
          ∙ ap (λ (v : ℕ). if is_listed h.offset ys x || is_pended h x then treated_word t v else v) (treats t (sum_of y h.offset) s x)
          ∙ joined valid t h pos last (x == sum_of y h.offset) (is_listed h.offset ys x) (is_pended h x) (s.words x)

  -- all entries
  all : (es : List ℕ) (n e : ℕ) (s : Effect) → length es ≤ n → Leads s.words h.at e es → ((f : ℕ) → Stands f es → (valid f ≡ true) × (f ≢ 0)) → ((f : ℕ) → Stands f es → valid (sum_of f h.offset) ≡ true)
      → ((f g : ℕ) → Stands f es → Stands g es → sum_of f h.offset ≢ g) → Treats valid t h pos last es n e s
  all [] n e s few l links places apart x = ap (λ (z : Effect). z.words x) (entries-home valid t h n e s (eq-eqb e h.at l)) ∙ lasts valid t h pos last s x
  all (y ∷ ys) zero e s few l links places apart x = absurd (omega arith)
  all (y ∷ ys) (suc m) e s few l links places apart x =
      let ok = links y (inl refl) in
      let rest : (s' : Effect) → Leads s'.words h.at (s.words y) ys → Treats valid t h pos last ys m (s.words y) s'
      = λ s' l'. all ys m (s.words y) s' (omega arith) l' (λ f i. links f (inr i)) (λ f i. places f (inr i)) (λ f g i j. apart f g (inr i) (inr j)) in
      ap (λ (z : ℕ). (entries valid t h (suc m) z s).words x) l.0
      ∙ one_more y ys m s ok.0 ok.1 l.1 (places y (inl refl)) (rest s l.2)
      (rest (treated t (sum_of y h.offset) s) (leads-same s.words (treated t (sum_of y h.offset) s).words h.at (s.words y) ys
      (λ f i. treats t (sum_of y h.offset) s f ∙ ap (λ (b : Bool). if b then treated_word t (s.words f) else s.words f) (ne_eqb f (sum_of y h.offset) (λ is. apart y f (inl refl) (inr i) (sym is)))) l.2)) x

-- from the head on
pub whole : WholeListsAreTreated
whole valid t words h es pos w at =
    ap (λ (e : Effect). e.words at) (
    reads valid h.at (untouched words) (first_means valid t h.at (untouched words)) true w.first
    ∙ reads valid (sum_of h.at 1) (untouched words) (offset_means valid t h.at (words h.at) (untouched words)) true w.second.0
    ∙ reads valid (sum_of h.at 2) (untouched words) (pending_means valid t h.at (words h.at) (words (sum_of h.at 1)) (untouched words)) true w.third.0
    ∙ (λ i. entries valid t (record { at = h.at; offset = w.second.1 i; pending = w.third.1 i }) 2048 (words h.at) (untouched words)))
    ∙ all valid t h pos w.last es 2048 (words h.at) (untouched words) w.few w.leads w.links w.places w.apart at
