-- How many of the machine's mutexes a thread owns after an access to the words of mutexes, as memory shows them.
use Rattle.std.proofs.Common.{◌≡◌, ◌≢◌, ℕ, zero, suc, ◌+◌, ◌<◌, ◌≤◌, ◌==◌, Bool, true, false, Option, Some, None, refl, sym, ap, ◌∙◌, subst, arith, eqb-true, eq-eqb}
use Rattle.std.specs.Prelude.{if◌then◌else◌}
use Rattle.std.proofs.lemmas.Bool.{eqb-false}
use Rattle.posixmutex.specs.declared.object.Object.{Object}
use Rattle.posixmutex.specs.Histories.{held_by, is_thread}
use Rattle.posixmutex.specs.Objects.{owner_of}
use Rattle.posixmutex.proofs.Owners.{owner_of-some}
use Rattle.lockword.specs.Cells.{fields_of}
use Rattle.stepprograms.specs.declared.access.Access.{Access}
use Rattle.stepprograms.specs.Accesses.{address_of}
use Rattle.memorymap.specs.Layouts.{Layout', cell_place}
use Rattle.protocol.specs.Headline.{seen}
use Rattle.protocol.specs.Machine.{words_after}
use Rattle.protocol.proofs.Kept.{Kept}
use Rattle.protocol.proofs.Seeing.{cell_in}
use Rattle.protocol.proofs.Steps.{seen-inside}
use Rattle.slots.specs.Rows.{Choice}
use Rattle.slots.specs.Shown.{Slots, memory, shown}
use Rattle.slots.specs.Invariant.{fields_at}
use Rattle.slots.proofs.OwnKeep as words

-- ---- counts

abbrev pub one : ℕ → Object → ℕ
one t o = if is_thread t o.owner then 1 else 0

one_none : (t : ℕ) (o : Object) → o.owner ≡ None → one t o ≡ 0
one_none t o e = ap (λ (w : Option ℕ). if is_thread t w then 1 else 0) e

one_own : (t : ℕ) (o : Object) → o.owner ≡ Some t → one t o ≡ 1
one_own t o e = ap (λ (w : Option ℕ). if is_thread t w then 1 else 0) e ∙ ap (λ (b : Bool). if b then 1 else 0) (eq-eqb t t refl)

same_one : (t : ℕ) (o n : Object) → n.owner ≡ o.owner → one t n ≡ one t o
same_one t o n e = ap (λ (w : Option ℕ). if is_thread t w then 1 else 0) e

one_most : (t : ℕ) (o : Object) → one t o ≤ 1
one_most t o = go (is_thread t o.owner)
  where
    go : (b : Bool) → (if b then 1 else 0) ≤ 1
    go true = omega arith
    go false = omega arith

-- the same owners
count_same : (t n : ℕ) (f g : ℕ → Object) → ((k : ℕ) → k < n → (g k).owner ≡ (f k).owner) → held_by t g n ≡ held_by t f n
count_same t zero f g same = refl
count_same t (suc n) f g same =
    let last : one t (g n) ≡ one t (f n) = same_one t (f n) (g n) (same n (omega arith)) in
    let before = count_same t n f g (λ k h. same k (omega arith)) in
    omega arith

-- and except for one mutex
count_but : (t n m : ℕ) (f g : ℕ → Object) → m < n → ((k : ℕ) → k < n → k ≢ m → (g k).owner ≡ (f k).owner) → held_by t g n + one t (f m) ≡ held_by t f n + one t (g m)
count_but t zero m f g lt same = absurd (omega arith)
count_but t (suc n) m f g lt same = go (λ below. count_but t n m f g below (λ k h. same k (omega arith))) (n == m) refl
  where
    go : (m < n → held_by t g n + one t (f m) ≡ held_by t f n + one t (g m)) → (b : Bool) → (n == m) ≡ b → held_by t g (suc n) + one t (f m) ≡ held_by t f (suc n) + one t (g m)
    go so_far true e =
        let is : n ≡ m = eqb-true n m e in
        let a : one t (f n) ≡ one t (f m) = ap (λ k. one t (f k)) is in
        let b : one t (g n) ≡ one t (g m) = ap (λ k. one t (g k)) is in
        let before = count_same t n f g (λ k h. same k (omega arith) (λ s. let below : k < n = h in absurd (omega arith))) in
        omega arith
    go so_far false e =
        let apart = eqb-false n m e in
        let last : one t (g n) ≡ one t (f n) = same_one t (f n) (g n) (same n (omega arith) apart) in
        let before = so_far (omega arith) in
        omega arith

-- ---- after an access

module _ (x y : Slots) (t : ℕ) (c : Choice) (inv : Kept x.machine) (then_kept : Kept y.machine) (pos : 1 ≤ t) (known : t ≤ x.machine.layout.threads) (small : t < 1073741824) (same : y.machine.layout ≡ x.machine.layout) where
  abbrev l : Layout'
  l = x.machine.layout

  abbrev W : ℕ → ℕ
  W k = shown x (cell_place l k)

  abbrev V : ℕ → ℕ
  V k = shown y (cell_place l k)

  abbrev Is : Access → Type 0
  Is a = (p : ℕ) → shown y p ≡ words_after (memory x) t a p

  owner_before : (k : ℕ) → k < l.mutexes → (seen x.machine k).owner ≡ owner_of (fields_of (W k)).owner
  owner_before k inside = ap (λ (o : Object). o.owner) (seen-inside x.machine k inside) ∙ ap owner_of (sym (words.says_x x y t c inv pos known small same k inside).owner)

  owner_behind : (k : ℕ) → k < l.mutexes → (seen y.machine k).owner ≡ owner_of (fields_of (V k)).owner
  owner_behind k inside = ap (λ (o : Object). o.owner) (seen-inside y.machine k (subst (λ (j : Layout'). k < j.mutexes) (sym same) inside)) ∙ ap owner_of (sym (words.says_y x y t c inv pos known small same k inside).owner)

  -- the owner is shown as before
  abbrev Stays : ℕ → Type 0
  Stays k = (fields_of (V k)).owner ≡ (fields_of (W k)).owner

  stays_seen : (k : ℕ) → k < l.mutexes → Stays k → (seen y.machine k).owner ≡ (seen x.machine k).owner
  stays_seen k inside e = owner_behind k inside ∙ ap owner_of e ∙ sym (owner_before k inside)

  counts : (y.machine.threads t).held ≡ held_by t (seen y.machine) l.mutexes
  counts = then_kept.held t pos (subst (λ (j : Layout'). t ≤ j.threads) (sym same) known) ∙ ap (λ (j : Layout'). held_by t (seen y.machine) j.mutexes) same

  -- all words are shown as before
  pub held_kept : ((k : ℕ) → k < l.mutexes → V k ≡ W k) → (y.machine.threads t).held ≡ (x.machine.threads t).held
  held_kept all = counts ∙ count_same t l.mutexes (seen x.machine) (seen y.machine) (λ k inside. stays_seen k inside (ap (λ (v : ℕ). (fields_of v).owner) (all k inside))) ∙ sym (inv.held t pos known)

  but_one : (a : Access) (k : ℕ) → k < l.mutexes → address_of a ≡ cell_in l t k → Is a → (y.machine.threads t).held + one t (seen x.machine k) ≡ (x.machine.threads t).held + one t (seen y.machine k)
  but_one a k inside at is =
      ap (λ (n : ℕ). n + one t (seen x.machine k)) counts
      ∙ count_but t l.mutexes k (seen x.machine) (seen y.machine) inside (λ j inside_j apart. stays_seen j inside_j (ap (λ (v : ℕ). (fields_of v).owner) (words.others_keep x y t c inv pos known small same a k inside at is j inside_j apart)))
      ∙ ap (λ (n : ℕ). n + one t (seen y.machine k)) (sym (inv.held t pos known))

  -- one word is changed, and not its owner
  pub held_still : (a : Access) (k : ℕ) → k < l.mutexes → address_of a ≡ cell_in l t k → Is a → Stays k → (y.machine.threads t).held ≡ (x.machine.threads t).held
  held_still a k inside at is stays = let e = but_one a k inside at is in let o : one t (seen y.machine k) ≡ one t (seen x.machine k) = same_one t (seen x.machine k) (seen y.machine k) (stays_seen k inside stays) in omega (arith, e, o)

  -- one word is changed
  pub held_more : (a : Access) (k : ℕ) → k < l.mutexes → address_of a ≡ cell_in l t k → Is a → (y.machine.threads t).held ≤ (x.machine.threads t).held + 1
  held_more a k inside at is = let e = but_one a k inside at is in let o = one_most t (seen y.machine k) in omega (arith, e, o)

  -- its owner releases it
  pub held_less : (a : Access) (k : ℕ) → k < l.mutexes → address_of a ≡ cell_in l t k → Is a → (fields_at x.machine k).owner ≡ t → (fields_of (V k)).owner ≡ 0 → (y.machine.threads t).held + 1 ≡ (x.machine.threads t).held
  held_less a k inside at is own none =
      let e = but_one a k inside at is in
      let was : one t (seen x.machine k) ≡ 1 = one_own t (seen x.machine k) (ap (λ (o : Object). o.owner) (seen-inside x.machine k inside) ∙ ap owner_of own ∙ owner_of-some t pos) in
      let now : one t (seen y.machine k) ≡ 0 = one_none t (seen y.machine k) (owner_behind k inside ∙ ap owner_of none) in
      omega (arith, e, was, now)
