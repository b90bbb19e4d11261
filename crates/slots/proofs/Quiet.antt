-- An access leaves WAITERS and UNUSABLE of slots as they are.
use Rattle.std.proofs.Common.{◌≡◌, ◌≢◌, ◌⊎◌, inl, inr, ℕ, ◌+◌, ◌*◌, ◌/◌, ◌%◌, ◌<◌, ◌≤◌, ◌==◌, Bool, true, false, List, [], ◌∷◌, refl, sym, ap, ◌∙◌, subst, arith, eqb-true}
use Rattle.std.specs.Prelude.{if◌then◌else◌}
use Rattle.std.proofs.lemmas.Bool.{eqb-false}
use Rattle.lockword.specs.Cells.{Fields, fields_of, taken, word_of}
use Rattle.lockword.proofs.Bits.{and_declared, xor_released}
use Rattle.stepprograms.specs.declared.access.Access.{Access}
use Rattle.stepprograms.specs.Accesses.{address_of}
use Rattle.memorymap.specs.Layouts.{Layout', cell_place}
use Rattle.protocol.specs.declared.event.Event.{Event}
use Rattle.protocol.specs.declared.event.Event.TheVariants.{Step}
use Rattle.protocol.specs.declared.thread.Stage.{Stage}
use Rattle.protocol.specs.Machine.{place_met, words_after}
use Rattle.protocol.proofs.Kept.{Kept}
use Rattle.protocol.proofs.Seeing.{cell_in}
use Rattle.slots.specs.Places.{slot_of}
use Rattle.slots.specs.Rows.{Choice, Row}
use Rattle.slots.specs.Shown.{Slots, memory, shown}
use Rattle.slots.specs.Words.{taken_word}
use Rattle.slots.specs.Table.{Made, made, makes}
use Rattle.slots.specs.Accesses.{IsAlongList}
use Rattle.slots.specs.Fits.{Fits, IsOurs}
use Rattle.slots.specs.Premises.{Owning}
use Rattle.slots.proofs.Leading.{by_test}
use Rattle.slots.proofs.Owned.{our_slot}
use Rattle.slots.proofs.OwnKeep.{by_miss, hit, its_word, others_keep, says_x}
use Rattle.slots.proofs.ShownWords.{taken_is}
use Rattle.slots.proofs.SlotWords.{slots_row}

-- the same WAITERS, and the same UNUSABLE
abbrev pub Alike : ℕ → ℕ → Type 0
Alike V W = ((fields_of V).waiters ≡ (fields_of W).waiters) × ((fields_of V).unusable ≡ (fields_of W).unusable)

alike_same : (V W : ℕ) → V ≡ W → Alike V W
alike_same V W e = (ap (λ (u : ℕ). (fields_of u).waiters) e, ap (λ (u : ℕ). (fields_of u).unusable) e)

module _ (x y : Slots) (t : ℕ) (c : Choice) (inv : Kept x.machine) (pos : 1 ≤ t) (known : t ≤ x.machine.layout.threads) (small : t < 1073741824) (same : y.machine.layout ≡ x.machine.layout) where
  abbrev l : Layout'
  l = x.machine.layout

  abbrev W : ℕ → ℕ
  W k = shown x (cell_place l k)

  abbrev V : ℕ → ℕ
  V k = shown y (cell_place l k)

  abbrev Slots_alike : Type 0
  Slots_alike = (m : ℕ) → IsOurs l m → Alike (V (slot_of m)) (W (slot_of m))

  -- without events, or with slots as they are
  abbrev Quiet_at : Access → List Event → Type 0
  Quiet_at a es = ((p : ℕ) → shown y p ≡ words_after (memory x) t a p) → (es ≡ []) ⊎ Slots_alike

  abbrev Quiet : Made → Type 0
  Quiet n = Quiet_at n.access n.events

  all_alike : ((k : ℕ) → k < l.mutexes → V k ≡ W k) → Slots_alike
  all_alike all m ours = alike_same (V (slot_of m)) (W (slot_of m)) (all (slot_of m) (our_slot l m ours))

  -- of a slot itself
  at_slot : (a : Access) (m : ℕ) → IsOurs l m → address_of a ≡ cell_in l t (slot_of m) → ((p : ℕ) → shown y p ≡ words_after (memory x) t a p) → Alike (V (slot_of m)) (W (slot_of m)) → Slots_alike
  at_slot a m ours at is alike j ours_j = go (j == m) refl
    where
      go : (b : Bool) → (j == m) ≡ b → Alike (V (slot_of j)) (W (slot_of j))
      go true e = subst (λ (i : ℕ). Alike (V (slot_of i)) (W (slot_of i))) (sym (eqb-true j m e)) alike
      go false e = alike_same (V (slot_of j)) (W (slot_of j)) (others_keep x y t c inv pos known small same a (slot_of m) (our_slot l m ours) at is (slot_of j) (our_slot l j ours_j) (λ f. eqb-false j m e (let g : 2 * j + 1 ≡ 2 * m + 1 = f in omega (arith, g))))

  taken_alike : (v : ℕ) → Alike (taken_word v t) v
  taken_alike v = (
    ap (λ (z : ℕ). z == 1) (let u : ℕ = word_of (taken (fields_of v) t) in let e : (u + 8589934592) / 2147483648 % 2 ≡ u / 2147483648 % 2 = omega arith in e) ∙ ap (λ (f : Fields). f.waiters) (taken_is t v small),
    ap (λ (z : ℕ). z == 1) (let u : ℕ = word_of (taken (fields_of v) t) in let e : (u + 8589934592) / 4294967296 % 2 ≡ u / 4294967296 % 2 = omega arith in e) ∙ ap (λ (f : Fields). f.unusable) (taken_is t v small),
  )

  slot_taken : (m sl : ℕ) (es : List Event) → IsOurs l m → (W (slot_of m) == sl) ≡ true → Quiet_at (Access.Exchange (cell_in l t (slot_of m)) sl (taken_word sl t)) es
  slot_taken m sl es ours e is = inr (at_slot (Access.Exchange (cell_in l t (slot_of m)) sl (taken_word sl t)) m ours refl is
      (subst (Alike (V (slot_of m))) (sym (eqb-true (W (slot_of m)) sl e)) (subst (λ (u : ℕ). Alike u sl) (sym (hit x y t c inv pos known small same (slot_of m) sl (taken_word sl t) (our_slot l m ours) e is)) (taken_alike sl))))

  slot_missed : (m sl : ℕ) (es : List Event) → IsOurs l m → (W (slot_of m) == sl) ≡ false → Quiet_at (Access.Exchange (cell_in l t (slot_of m)) sl (taken_word sl t)) es
  slot_missed m sl es ours e is = inr (all_alike (by_miss x y t c inv pos known small same (slot_of m) sl (taken_word sl t) (our_slot l m ours) e is))

  slot_declared : (m : ℕ) (es : List Event) → IsOurs l m → Quiet_at (Access.FetchAnd (cell_in l t (slot_of m)) 18446744072635809791) es
  slot_declared m es ours is = inr (at_slot (Access.FetchAnd (cell_in l t (slot_of m)) 18446744072635809791) m ours refl is
      (subst (λ (u : ℕ). Alike u (W (slot_of m))) (sym (its_word x y t c inv pos known small same (Access.FetchAnd (cell_in l t (slot_of m)) 18446744072635809791) (slot_of m) tt (our_slot l m ours) refl is)) ((and_declared (W (slot_of m))).waiters, (and_declared (W (slot_of m))).unusable)))

  slot_freed : (m : ℕ) (es : List Event) → IsOurs l m → (fields_of (W (slot_of m))).owner ≡ t → Quiet_at (Access.FetchXor (cell_in l t (slot_of m)) t) es
  slot_freed m es ours own is = inr (at_slot (Access.FetchXor (cell_in l t (slot_of m)) t) m ours refl is
      (subst (λ (u : ℕ). Alike u (W (slot_of m))) (sym (its_word x y t c inv pos known small same (Access.FetchXor (cell_in l t (slot_of m)) t) (slot_of m) tt (our_slot l m ours) refl is))
      (ap (λ (f : Fields). f.waiters) (xor_released (W (slot_of m)) t own), ap (λ (f : Fields). f.unusable) (xor_released (W (slot_of m)) t own))))

  same_alike : (es : List Event) → (es ≡ []) ⊎ ((m : ℕ) → IsOurs l m → V (slot_of m) ≡ W (slot_of m)) → (es ≡ []) ⊎ Slots_alike
  same_alike es (inl none) = inl none
  same_alike es (inr all) = inr (λ m ours. alike_same (V (slot_of m)) (W (slot_of m)) (all m ours))

  abbrev slot_at : ℕ → ℕ
  slot_at m = cell_in l t (slot_of m)

  -- two accesses by a test
  two : (b : Bool) (n o : Made) → (b ≡ true → Quiet n) → (b ≡ false → Quiet o) → Quiet (if b then n else o)
  two b n o first second = by_test Quiet b n o first second

  pub quiet_row : (r : Row) (g : Stage) → Fits l t r g → Owning x.machine t r → (IsAlongList r → (k : ℕ) → k < l.mutexes → cell_place l k ≢ place_met l t (made x t c r).access) → Quiet (made x t c r)
  quiet_row (Row.SlotTakes k sl) g o w apart = two (W (slot_of k.mutex) == sl) (makes (Access.Exchange (slot_at k.mutex) sl (taken_word sl t)) (Step t ∷ Step t ∷ []) (Row.SlotLinks k (fields_of sl).died)) (if (fields_of (W (slot_of k.mutex))).owner == 0 then makes (Access.Exchange (slot_at k.mutex) sl (taken_word sl t)) [] (Row.SlotTakes k (W (slot_of k.mutex))) else makes (Access.Exchange (slot_at k.mutex) sl (taken_word sl t)) (Step t ∷ []) (Row.SlotLeft k))
      (λ e. slot_taken k.mutex sl _ o.0.ours e)
      (λ e. two ((fields_of (W (slot_of k.mutex))).owner == 0) (makes (Access.Exchange (slot_at k.mutex) sl (taken_word sl t)) [] (Row.SlotTakes k (W (slot_of k.mutex)))) (makes (Access.Exchange (slot_at k.mutex) sl (taken_word sl t)) (Step t ∷ []) (Row.SlotLeft k)) (λ f is. inl refl) (λ f. slot_missed k.mutex sl _ o.0.ours e))
  quiet_row (Row.SlotMends k) g o w apart = slot_declared k.mutex _ o.ours
  quiet_row (Row.FreeGives k f) g o w apart = slot_freed k.mutex _ o.ours ((says_x x y t c inv pos known small same (slot_of k.mutex) (our_slot l k.mutex o.ours)).owner ∙ w.0.owner)
  quiet_row r g o w apart = λ is. same_alike (made x t c r).events (slots_row x y t c inv pos known small same r g o w apart (λ e. e) is)
