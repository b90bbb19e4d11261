-- Plain stores change a thread's own words, or a counter whose mutex it owns.
use Rattle.std.proofs.Common.{◌≡◌, ◌⊎◌, inl, inr, ℕ, ◌+◌, ◌/◌, ◌%◌, ◌<◌, ◌≤◌, ◌==◌, Bool, true, false, length, refl, sym, ap, ◌∙◌, subst, arith}
use Rattle.std.specs.Prelude.{if◌then◌else◌, slice_index}
use Rattle.lockword.specs.Cells.{bit}
use Rattle.stepprograms.specs.declared.access.Access.{Access}
use Rattle.memorymap.specs.Layouts.{Layout', address_in, counter_place, head_place, place_in}
use Rattle.mutex.proofs.Addresses.{head_further, head_word_again}
use Rattle.protocol.specs.Changes.{IsItsOwn}
use Rattle.protocol.specs.Machine.{State, place_met}
use Rattle.protocol.proofs.Kept.{Kept}
use Rattle.protocol.proofs.Places.{IsMine}
use Rattle.protocol.proofs.Seeing.{counter_again}
use Rattle.slots.specs.Places.{cell_of}
use Rattle.slots.specs.Rows.{Choice, Row}
use Rattle.slots.specs.Shown.{Slots, begin, shown}
use Rattle.slots.specs.Stands.{StandsAs}
use Rattle.slots.specs.Table.{access_of_stage, counted, made}
use Rattle.slots.specs.Runs.{reached}
use Rattle.slots.specs.Invariant.{fields_at}
use Rattle.slots.specs.Accesses.{IsAlongList}
use Rattle.slots.specs.Fits.{AreOfUs, Fits}
use Rattle.slots.specs.Premises.{Owning, SeesCount}
use Rattle.slots.specs.Stores.{IsPlain, NobodyCompares, PlainStoresAreOwn, StoresCount, manner, stored_by}
use Rattle.slots.specs.Stores.Manner.{Locks, Stores}
use Rattle.slots.proofs.CountersKept.{count_at}
use Rattle.slots.proofs.Following.{begins_steady, layout_then, steady_run}
use Rattle.slots.proofs.Free.{reached_kept}
use Rattle.slots.proofs.ListPlaces.{list_mine}
use Rattle.slots.proofs.OthersKeep.{owned_seen}
use Rattle.slots.proofs.Owned.{our_cell}
use Rattle.slots.proofs.Sleeping.{counter_shows}
use Rattle.slots.proofs.SleptNext.{if_there}
use Rattle.slots.proofs.Steady.{Steady}

pub its_own : (s : State) (t p : ℕ) → IsMine s t p → IsItsOwn s t p
its_own s t p (inl e) = inl (0, omega arith, let f : p ≡ head_place t = e in omega (arith, f))
its_own s t p (inr (inl e)) = inl (2, omega arith, e)
its_own s t p (inr (inr (k, inside, place, own))) = inr (k, inside, own, place)

module _ (x : Slots) (t : ℕ) (c : Choice) (s : Steady x) (pos : 1 ≤ t) (known : t ≤ x.machine.layout.threads) where
  abbrev l : Layout'
  l = x.machine.layout

  inv : Kept x.machine
  inv = reached_kept x.machine s.reached

  abbrev Own : Access → Type 0
  Own a = IsItsOwn x.machine t (place_met l t a) ⊎ (k : ℕ) × StoresCount x t (place_met l t a) (stored_by a) k

  pending : (e : ℕ) → Own (Access.Store (address_in l t (head_place t + 2)) e)
  pending e = inl (inl (2, omega arith, ap (place_in l t) (sym (head_further l t inv.layout pos known 2 (omega arith))) ∙ head_word_again l t inv.layout pos known 2 (omega arith)))

  -- a counter
  count : (m k v : ℕ) → AreOfUs l m k → (fields_at x.machine (cell_of m)).owner ≡ t → ((v % 4294967296 ≡ count_at x k) ⊎ NobodyCompares x k) → Own (Access.Store (address_in l t (counter_place l k)) v)
  count m k v o own unseen = inr (
    k,
    record {
      inside = o.cell.inside;
      place = counter_again l t inv.layout pos known k o.cell.inside;
      owner = owned_seen x.machine (slice_index l.conditions k) t (subst (λ (i : ℕ). i < l.mutexes) (sym o.cell.cell) (our_cell l m o.ours)) pos (ap (λ (i : ℕ). (fields_at x.machine i).owner) o.cell.cell ∙ own);
      unseen = unseen;
    },
  )

  low : (k n : ℕ) → k < length l.conditions → count_at x k ≡ n → n % 4294967296 ≡ count_at x k
  low k n inside sees = let most : count_at x k ≤ 4294967295 = s.counts.most k inside in omega (arith, most, sees)

  low_slept : (k n : ℕ) → k < length l.conditions → count_at x k ≡ n → (n + 4294967296) % 4294967296 ≡ count_at x k
  low_slept k n inside sees = let most : count_at x k ≤ 4294967295 = s.counts.most k inside in omega (arith, most, sees)

  -- without SLEPT
  clear : (k n : ℕ) → k < length l.conditions → shown x (counter_place l k) ≡ n → (n / 4294967296 == 1) ≡ false → x.slept k ≡ false
  clear k n inside found none = go (x.slept k) (sym found ∙ counter_shows x k inside)
    where
      go : (b : Bool) → n ≡ count_at x k + bit b 4294967296 → b ≡ false
      go false e = refl
      go true e = absurd (cc (sym none ∙ set e))
        where
          set : n ≡ count_at x k + 4294967296 → (n / 4294967296 == 1) ≡ true
          set f = ap (λ (i : ℕ). i == 1) (let most : count_at x k ≤ 4294967295 = s.counts.most k inside in let g : n / 4294967296 ≡ 1 = omega (arith, most, f) in g)

  nobody : (k : ℕ) → x.slept k ≡ false → NobodyCompares x k
  nobody k none u n first last rel same = cc (sym none ∙ if_there x (x.rows u) k n (s.slept u first last) rel (sym same))

  counts : (m k n v : ℕ) → AreOfUs l m k → (fields_at x.machine (cell_of m)).owner ≡ t → shown x (counter_place l k) ≡ n → (b : Bool) → (n / 4294967296 == 1) ≡ b → IsPlain (if b then Locks else Stores) (Access.Store (address_in l t (counter_place l k)) v) → Own (Access.Store (address_in l t (counter_place l k)) v)
  counts m k n v o own found true e plain = absurd plain
  counts m k n v o own found false e plain = count m k v o own (inr (nobody k (clear k n o.cell.inside found e)))

  pub along : (r : Row) → IsAlongList r → StandsAs r (x.machine.threads t).stage → Own (access_of_stage (x.machine.threads t).stage (address_in l t (head_place t)))
  along r on there = inl (its_own x.machine t (place_met l t (access_of_stage (x.machine.threads t).stage (address_in l t (head_place t)))) (list_mine x.machine t inv pos known r on there (address_in l t (head_place t))))

  pub own_row : (r : Row) → Fits l t r (x.machine.threads t).stage → Owning x.machine t r → SeesCount x r → StandsAs r (x.machine.threads t).stage → IsPlain (manner r) (made x t c r).access → Own (made x t c r).access
  own_row (Row.Pends k v) o w sees there plain = pending _
  own_row (Row.Links m r) o w sees there plain = along (Row.Links m r) tt there
  own_row (Row.Clears m r) o w sees there plain = pending 0
  own_row (Row.Asleep k) o w sees there plain = pending _
  own_row (Row.Late k) o w sees there plain = pending _
  own_row (Row.SlotPends k g) o w sees there plain = pending _
  own_row (Row.SlotLeft k) o w sees there plain = pending _
  own_row (Row.SlotLinks k d) o w sees there plain = along (Row.SlotLinks k d) tt there
  own_row (Row.SlotClears k) o w sees there plain = pending 0
  own_row (Row.HeirPends k b) o w sees there plain = pending _
  own_row (Row.HeirPendsOn k v over) o w sees there plain = pending _
  own_row (Row.HeirLinks k r) o w sees there plain = along (Row.HeirLinks k r) tt there
  own_row (Row.Frees k f) o w sees there plain = pending _
  own_row (Row.FreeUnlinks k f) o w sees there plain = along (Row.FreeUnlinks k f) tt there
  own_row (Row.TryPends m v) o w sees there plain = pending _
  own_row (Row.GivePends m y) o w sees there plain = pending _
  own_row (Row.GiveUnlinks m y) o w sees there plain = along (Row.GiveUnlinks m y) tt there
  own_row (Row.WaitSets m k n timed) o w sees there plain = count m k (n + 4294967296) o w.owner (inl (low_slept k n o.cell.inside sees))
  own_row (Row.WaitAsleep m k n timed) o w sees there plain = pending _
  own_row (Row.Counts m k all n) o w sees there plain = counts m k n (counted x t c n) o w sees (n / 4294967296 == 1) refl plain
  own_row (Row.Unsets m k n) o w sees there plain = count m k n o w (inl (low k n o.cell.inside sees))
  own_row r o w sees there plain = absurd plain

pub own_stores : PlainStoresAreOwn
own_stores l hs t c is first last trusted lives awake = own_row x t c s first known (x.rows t) (s.fits t first known) (s.owning t first known) (s.sees t first known) (s.there t first known lives)
  where
    x : Slots
    x = reached l hs

    s : Steady (reached l hs)
    s = steady_run (begin l) hs (begins_steady l is) trusted

    known : t ≤ (reached l hs).machine.layout.threads
    known = subst (λ (k : Layout'). t ≤ k.threads) (sym (layout_then (begin l) hs (begins_steady l is) trusted)) last
