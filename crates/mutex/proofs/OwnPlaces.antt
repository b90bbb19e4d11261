-- Which words are a thread's own, and which of them its list's.
use Rattle.std.proofs.Common.{◌≡◌, ◌≢◌, ◌⊎◌, inl, inr, ℕ, ◌+◌, ◌<◌, ◌≤◌, ◌==◌, Bool, true, false, Option, List, [], ◌∷◌, refl, sym, ap, ◌∙◌, arith, eqb-true}
use Rattle.std.specs.Prelude.{if◌then◌else◌}
use Rattle.std.proofs.lemmas.Bool.{eqb-false}
use Rattle.memorymap.specs.Chains.{previous_place, address_sum, IsAmong, IsApart, AreDifferent, IsChainBothWays, places_of, without}
use Rattle.memorymap.specs.Layouts.{Layout', IsLayout, head_place, entry_place, words_of, address_in, place_in}
use Rattle.robustlist.specs.Words.{IsOn, Agree}
use Rattle.robustlist.specs.LinkLaws.{LiesApart}
use Rattle.robustlist.proofs.Chains.{both-ways, chain-same, chained}
use Rattle.robustlist.proofs.Places.{apart-among, avoids-all}
use Rattle.mutex.specs.Whole.{pending_place}
use Rattle.mutex.specs.WholeLists.{head_in, entry_in, IsOwnPlace, IsOwnAddress, Entries}
use Rattle.mutex.proofs.Addresses.{again, same_place, further_on, head_further, head_word_again}

-- the place of a word of its list: its head's first entry, or a link of a mutex that it owns
abbrev pub IsLinked : Layout' → ℕ → (ℕ → Bool) → ℕ → Type 0
IsLinked l t owns p = (p ≡ head_place t) ⊎ (k : ℕ) × (k < l.mutexes) × ((p ≡ entry_place l k) ⊎ (p ≡ entry_place l k + 1)) × (owns k ≡ true)

linked_inside : (l : Layout') (t : ℕ) (owns : ℕ → Bool) (p : ℕ) → 1 ≤ t → t ≤ l.threads → IsLinked l t owns p → p < words_of l
linked_inside l t owns p pos known h = grind (arith)

-- the address of such a word
pub record Links (l : Layout') (t : ℕ) (owns : ℕ → Bool) (at : ℕ) : Type 0 where
  pub place : ℕ
  pub from : at ≡ address_in l t place
  pub met : place_in l t at ≡ place
  pub linked : IsLinked l t owns place

module _ (l : Layout') (t : ℕ) (owns : ℕ → Bool) (is : IsLayout l) (pos : 1 ≤ t) (known : t ≤ l.threads) where
  links_at : (at p : ℕ) → at ≡ address_in l t p → IsLinked l t owns p → Links l t owns at
  links_at at p from linked = record { place = p; from = from; met = ap (place_in l t) from ∙ again l t is pos known p (linked_inside l t owns p pos known linked); linked = linked }

  -- the word after an entry
  pub behind : (k : ℕ) → k < l.mutexes → previous_place (entry_in l t k) ≡ address_in l t (entry_place l k + 1)
  behind k inside = further_on l t is pos known (entry_place l k) 1 (omega arith)

  -- an address of a list, and of one of an entry more of a mutex that the thread owns
  pub list_links : (out : Option ℕ) (es : List ℕ) (at : ℕ) → Entries l t owns out es → IsOn (head_in l t) es at → Links l t owns at
  list_links out es at owned (inl here) = links_at at (head_place t) here (inl refl)
  list_links out es at owned (inr (x, among, inl here)) = let e = owned.each x among in links_at at (entry_place l e.0) (here ∙ e.2) (inr (e.0, e.1, inl refl, e.3))
  list_links out es at owned (inr (x, among, inr here)) = let e = owned.each x among in links_at at (entry_place l e.0 + 1) (here ∙ ap previous_place e.2 ∙ behind e.0 e.1) (inr (e.0, e.1, inr refl, e.3))

  pub more_links : (m : ℕ) (out : Option ℕ) (es : List ℕ) (at : ℕ) → Entries l t owns out es → m < l.mutexes → owns m ≡ true → IsOn (head_in l t) (entry_in l t m ∷ es) at → Links l t owns at
  more_links m out es at owned inside own (inl here) = links_at at (head_place t) here (inl refl)
  more_links m out es at owned inside own (inr (x, inl first, inl here)) = links_at at (entry_place l m) (here ∙ first) (inr (m, inside, inl refl, own))
  more_links m out es at owned inside own (inr (x, inl first, inr here)) = links_at at (entry_place l m + 1) (here ∙ ap previous_place first ∙ behind m inside) (inr (m, inside, inr refl, own))
  more_links m out es at owned inside own (inr (x, inr among, here)) = list_links out es at owned (inr (x, among, here))

  -- it is one of the thread's own
  pub linked_own : (p : ℕ) → IsLinked l t owns p → IsOwnPlace l t owns p
  linked_own p (inl here) = inl here
  linked_own p (inr here) = inr (inr here)

  pub links_own : (at : ℕ) → Links l t owns at → IsOwnAddress l t owns at
  links_own at x = record { place = x.place; from = x.from; back = x.met; own = linked_own x.place x.linked }

  pub pending_own : IsOwnAddress l t owns (pending_place (head_in l t))
  pending_own = record { place = head_place t + 2; from = head_further l t is pos known 2 (omega arith); back = head_word_again l t is pos known 2 (omega arith); own = inr (inl refl) }

  -- and not the pending one's
  linked_not_pending : (p : ℕ) → IsLinked l t owns p → p ≢ head_place t + 2
  linked_not_pending p h = grind (arith)

  pub links_not_pending : (at : ℕ) → Links l t owns at → at ≢ pending_place (head_in l t)
  links_not_pending at x e = linked_not_pending x.place x.linked (sym x.met ∙ ap (place_in l t) e ∙ head_word_again l t is pos known 2 (omega arith))

-- words that agree at a list's places have the same list
pub both_same : (v w : ℕ → ℕ) (h : ℕ) (es : List ℕ) → Agree h es v w → IsChainBothWays v h es → IsChainBothWays w h es
both_same v w h es agree c = both-ways w h es c.places (chain-same v w h h es (agree h (inl refl)) (λ e among. (agree e (inr (e, among, inl refl)), agree (previous_place e) (inr (e, among, inr refl)))) (chained v h es c))

-- an entry of a mutex lies apart from a thread's list that has only entries of others
module _ (l : Layout') (t m : ℕ) (es : List ℕ) (is : IsLayout l) (pos : 1 ≤ t) (known : t ≤ l.threads) (inside : m < l.mutexes) (each : (x : ℕ) → IsAmong x es → (k : ℕ) × (k < l.mutexes) × (x ≡ entry_in l t k) × (k ≢ m)) where
  abbrev At : ℕ → ℕ → Type 0
  At a p = (a ≡ address_in l t p) × (p < words_of l)

  differ : (a b p q : ℕ) → At a p → At b q → p ≢ q → a ≢ b
  differ a b p q x y apart e = apart (same_place l t is pos known p q x.1 y.1 (sym x.0 ∙ e ∙ y.0))

  further_at : (p k : ℕ) → p + k < words_of l → At (address_sum (address_in l t p) k) (p + k)
  further_at p k within = (further_on l t is pos known p k within, within)

  apart_from : (i a : ℕ) → i < 2 → At a (entry_place l m + i) → IsApart a (places_of (head_in l t) es)
  apart_from i a few at = (
    differ a (head_in l t) (entry_place l m + i) (head_place t) at (refl, omega arith) (λ e. omega (arith, e)),
    (
      differ a (address_sum (head_in l t) 1) (entry_place l m + i) (head_place t + 1) at (further_at (head_place t) 1 (omega arith)) (λ e. omega (arith, e)),
      (
        differ a (address_sum (head_in l t) 2) (entry_place l m + i) (head_place t + 2) at (further_at (head_place t) 2 (omega arith)) (λ e. omega (arith, e)),
        avoids-all a es (λ x among.
            let e = each x among in
            let below = e.1 in (
              differ a x (entry_place l m + i) (entry_place l e.0) at (e.2, omega (arith, below)) (λ same. e.3 (omega (arith, same))),
              differ a (previous_place x) (entry_place l m + i) (entry_place l e.0 + 1) at (ap previous_place e.2 ∙ (further_at (entry_place l e.0) 1 (omega (arith, below))).0, omega (arith, below)) (λ same. e.3 (omega (arith, same))),
            )),
      ),
    ),
  )

  pub lies_apart : LiesApart (head_in l t) (entry_in l t m) es
  lies_apart = (apart_from 0 (entry_in l t m) (omega arith) (ap (address_in l t) (omega arith), omega arith), apart_from 1 (previous_place (entry_in l t m)) (omega arith) (further_at (entry_place l m) 1 (omega arith)))

-- lists without an entry
pub among_without : (e x : ℕ) (es : List ℕ) → IsAmong x es → x ≢ e → IsAmong x (without e es)
among_without e x [] among apart = absurd among
among_without e x (y ∷ ys) among apart = go (λ later. among_without e x ys later apart) (y == e) refl among
  where
    go : (IsAmong x ys → IsAmong x (without e ys)) → (b : Bool) → (y == e) ≡ b → (x ≡ y) ⊎ IsAmong x ys → IsAmong x (if b then ys else y ∷ without e ys)
    go rest b is h = grind (arith)

pub without_is_apart : (e x : ℕ) (es : List ℕ) → AreDifferent es → IsAmong x (without e es) → x ≢ e
without_is_apart e x [] different among = absurd among
without_is_apart e x (y ∷ ys) different among = go (without_is_apart e x ys different.1) (y == e) refl among
  where
    go : (IsAmong x (without e ys) → x ≢ e) → (b : Bool) → (y == e) ≡ b → IsAmong x (if b then ys else y ∷ without e ys) → x ≢ e
    go rest true is later = λ same. apart-among y x ys different.0 later (sym (same ∙ sym (eqb-true y e is)))
    go rest false is (inl here) = λ same. eqb-false y e is (sym here ∙ same)
    go rest false is (inr later) = rest later
