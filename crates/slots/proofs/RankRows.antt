-- Alone, each access of a call brings it nearer to its end.
use Rattle.std.proofs.Common.{◌≡◌, inl, inr, ℕ, ◌+◌, ◌<◌, ◌≤◌, ◌==◌, Bool, true, false, [], ◌∷◌, refl, sym, ap, ◌∙◌, subst, arith, eqb-true, eq-eqb}
use Rattle.std.specs.Prelude.{if◌then◌else◌, nat_lt, not, ◌&&◌, ◌||◌, ◌-◌, ◌%◌, ◌^◌}
use Rattle.std.proofs.lemmas.Bool.Decides.{nat_tests}
use Rattle.lockword.specs.Cells.{fields_of}
use Rattle.lockword.specs.declared.reply.Reply.TheVariants.{OK, EDEADLK, EINVAL, ETIMEDOUT, ENOTRECOVERABLE}
use Rattle.stepprograms.specs.declared.access.Access.{Access}
use Rattle.stepprograms.specs.Accesses.{address_of, is_nobody}
use Rattle.memorymap.specs.Layouts.{Layout', address_in, cell_place, counter_place, head_place, place_in}
use Rattle.mutex.proofs.Addresses.{head_further, head_word_again}
use Rattle.protocol.specs.declared.event.Event.TheVariants.{Step}
use Rattle.protocol.specs.declared.thread.Stage.{Stage}
use Rattle.protocol.specs.Machine.{State, is_asleep, run, words_after}
use Rattle.protocol.proofs.Kept.{Kept}
use Rattle.protocol.proofs.Places.{head_is_no_cell, mine_is_valid}
use Rattle.protocol.proofs.Puts.{put-other, put-same}
use Rattle.protocol.proofs.Seeing.{cell_again}
use Rattle.slots.specs.Places.{cell_of, slot_of}
use Rattle.slots.specs.Rows.{Choice, Giving, How, Row, Taking, about}
use Rattle.slots.specs.Rows.How.{Tried, Later, Waited}
use Rattle.slots.specs.Rows.Before.{Linked, Again}
use Rattle.slots.specs.Rows.Giving.{OfUnlock, OfWait}
use Rattle.slots.specs.Rows.Onward.{Has, Fails, Sleeps}
use Rattle.slots.specs.Rows.Then.{ToSleep, ToSlot}
use Rattle.slots.specs.Shown.{Slots, memory, shown}
use Rattle.slots.specs.Words.{all_but, awake_bit, awake_word, is_free, is_moving, shows_heir, waiting_word}
use Rattle.slots.specs.Seen.{expires, later, owned_row, seen_row, seen_to_sleep, sleep_row, unusable_row}
use Rattle.slots.specs.Table.{Made, chosen, is_linking, is_unlinking, is_unlinking_at, makes, missed, on_cell, counted, counted_row, finds_row, given_row, hands_row, is_on_list, made, marked_row, out_of, released, shows_slept, to_slot, tries, unlinked_row, watched_row, woke_row}
use Rattle.slots.specs.Stands.{StandsAs}
use Rattle.slots.specs.Fits.{Fits, IsOurs}
use Rattle.slots.specs.Alone.{goes_on}
use Rattle.slots.specs.Runs.{is_resting}
use Rattle.slots.proofs.Leading.{by_test}
use Rattle.slots.proofs.Meets.{load_idles, miss_idles}
use Rattle.slots.proofs.Owned.{our_cell, our_slot}
use Rattle.slots.proofs.Ranks.{few_left, list_falls, list_rank, rank}
use Rattle.slots.proofs.Shows.{IsOfWord, cell_valid, changes, stores}

-- ---- numbers

max_lt : (b : Bool) (m n a : ℕ) → nat_lt m a ≡ true → nat_lt n a ≡ true → nat_lt (if b then m else n) a ≡ true
max_lt true m n a first second = first
max_lt false m n a first second = second

under : (b d : Bool) (a m n : ℕ) → b ≡ d → nat_lt a (if d then m else n) ≡ true → nat_lt a (if b then m else n) ≡ true
under b d a m n is less = subst (λ (e : Bool). nat_lt a (if e then m else n) ≡ true) (sym is) less

both : (b : Bool) (a c m n : ℕ) → nat_lt a m ≡ true → nat_lt c n ≡ true → nat_lt (if b then a else c) (if b then m else n) ≡ true
both true a c m n first second = first
both false a c m n first second = second

least : (b : Bool) (a m n : ℕ) → nat_lt a m ≡ true → nat_lt a n ≡ true → nat_lt a (if b then m else n) ≡ true
least true a m n first second = first
least false a m n first second = second

fits_2 : (s : ℕ) → nat_lt s 6 ≡ true → nat_lt (s + 2) 8 ≡ true
fits_2 s few = grind (arith, nat_tests)

fits_34 : (s : ℕ) → nat_lt s 6 ≡ true → nat_lt (s + 34) 40 ≡ true
fits_34 s few = grind (arith, nat_tests)

fits_19 : (s : ℕ) → nat_lt s 6 ≡ true → nat_lt (s + 19) 25 ≡ true
fits_19 s few = grind (arith, nat_tests)

fits_12 : (s : ℕ) → nat_lt s 6 ≡ true → nat_lt (s + 12) 18 ≡ true
fits_12 s few = grind (arith, nat_tests)

fits_54 : (s : ℕ) → nat_lt s 6 ≡ true → nat_lt (s + 54) 60 ≡ true
fits_54 s few = grind (arith, nat_tests)

adds : (a b n : ℕ) → nat_lt a b ≡ true → nat_lt (a + n) (b + n) ≡ true
adds a b n less = grind (arith, nat_tests)

past : (a s n : ℕ) → nat_lt a n ≡ true → nat_lt a (s + n) ≡ true
past a s n less = grind (arith, nat_tests)

-- ---- an heir's words

-- what the rank of HeirPendsOn depends on: whether the cell is free, whether the watch is over, and of the word that was seen
-- whether it is free, still there, and unusable
abbrev on_rank : Bool → Bool → Bool → Bool → Bool → ℕ
on_rank free over was same lost = if free then (if over && was then (if same then 27 else 28) else 33) else if over && (was || not lost) then 28 else 22

on_takes : (free over was same lost : Bool) → (over && was) ≡ true → nat_lt (if same then 26 else 27) (on_rank free over was same lost) ≡ true
on_takes true true true true lost e = refl
on_takes true true true false lost e = refl
on_takes false true true true lost e = refl
on_takes false true true false lost e = refl
on_takes free true false same lost e = absurd cc
on_takes free false was same lost e = absurd cc

on_pends : (free over was same lost late : Bool) → (over && was) ≡ false → (over && not lost && not late) ≡ true → nat_lt (if free then 30 else 25) (on_rank free over was same lost) ≡ true
on_pends true true false same false late e f = refl
on_pends false true false same false late e f = refl
on_pends free true false same true late e f = absurd cc
on_pends free true true same lost late e f = absurd cc
on_pends free false was same lost late e f = absurd cc

on_gives : (free over was same lost : Bool) → (over && was) ≡ false → nat_lt (if free then 32 else 21) (on_rank free over was same lost) ≡ true
on_gives true true false same lost e = refl
on_gives true false was same lost e = refl
on_gives false true false same true e = refl
on_gives false true false same false e = refl
on_gives false false was same lost e = refl
on_gives free true true same lost e = absurd cc

looks_on : (none lost sure same : Bool) → same ≡ true → (lost || ((none && not lost) && sure)) ≡ true → nat_lt (on_rank (none && not lost) true (none && not lost) same lost) (if none && not lost then 28 else 23) ≡ true
looks_on true false sure true e f = refl
looks_on true false sure false e f = absurd cc
looks_on true true sure same e f = refl
looks_on false true sure same e f = refl
looks_on false false sure same e f = absurd cc

looks_off : (none lost same : Bool) → none ≡ false → nat_lt (on_rank (none && not lost) false (none && not lost) same lost) (if none && not lost then 28 else 23) ≡ true
looks_off false lost same e = refl
looks_off true lost same e = absurd cc

not_free_now : (lost none sure again : Bool) → (lost || (if none then sure else not again)) ≡ true → (lost || ((none && not lost) && sure)) ≡ false → (none ≡ false) × (again ≡ false)
not_free_now false false sure false e f = (refl, refl)
not_free_now false false sure true e f = absurd cc
not_free_now false true true again e f = absurd cc
not_free_now false true false again e f = absurd cc
not_free_now true none sure again e f = absurd cc

not_free : (free : Bool) (m n a : ℕ) → (true && free) ≡ false → nat_lt n a ≡ true → nat_lt (if free then m else n) a ≡ true
not_free true m n a e less = absurd cc
not_free false m n a e less = less

and_no : (a : Bool) → (a && false) ≡ false
and_no true = refl
and_no false = refl

not_it : (b : Bool) → not b ≡ true → b ≡ false
not_it true e = absurd cc
not_it false e = refl

-- ---- one access

module _ (x y : Slots) (t : ℕ) (c : Choice) (inv : Kept x.machine) (pos : 1 ≤ t) (known : t ≤ x.machine.layout.threads) (awake : is_asleep x.machine t ≡ false) where
  abbrev l : Layout'
  l = x.machine.layout

  abbrev g : Stage
  g = (x.machine.threads t).stage

  abbrev word : ℕ → ℕ
  word k = shown x (cell_place l k)

  abbrev then_word : ℕ → ℕ
  then_word k = shown y (cell_place l k)

  abbrev left : ℕ
  left = list_rank g

  abbrev then_left : ℕ
  then_left = list_rank (y.machine.threads t).stage

  few : nat_lt then_left 6 ≡ true
  few = few_left (y.machine.threads t).stage

  abbrev cell : ℕ → ℕ
  cell m = word (cell_of m)

  abbrev slot : ℕ → ℕ
  slot m = word (slot_of m)

  -- the rank at row q, of mutex m, is below n then
  abbrev Lt : ℕ → ℕ → Row → Type 0
  Lt m n q = nat_lt (rank (then_word (cell_of m)) (then_word (slot_of m)) then_left q) n ≡ true

  abbrev now : Row → ℕ
  now r = rank (cell (about r)) (slot (about r)) left r

  -- if this is what the access leaves
  abbrev Words : Access → Type 0
  Words a = (p : ℕ) → shown y p ≡ words_after (memory x) t a p

  abbrev Nearer : Row → Made → Type 0
  Nearer r n = Words n.access → y.machine ≡ run x.machine n.events → Lt (about r) (now r) n.next

  either : (m n : ℕ) (b : Bool) (p q : Row) → Lt m n p → Lt m n q → Lt m n (if b then p else q)
  either m n true p q first second = first
  either m n false p q first second = second

  -- ---- words that stay

  load_keeps : (at p : ℕ) → Words (Access.Load at) → shown y p ≡ shown x p
  load_keeps at p w = w p ∙ (load_idles x t at).0 p

  miss_keeps : (k v n p : ℕ) → k < l.mutexes → (word k == v) ≡ false → Words (Access.Exchange (address_in l t (cell_place l k)) v n) → shown y p ≡ shown x p
  miss_keeps k v n p inside other w = w p ∙ (miss_idles x t (address_in l t (cell_place l k)) v n (λ e. cc (sym other ∙ eq-eqb (word k) v (ap (shown x) (sym (cell_again l t inv.layout pos known k inside)) ∙ e)))).0 p

  pend_keeps : (k v : ℕ) → k < l.mutexes → Words (Access.Store (address_in l t (head_place t + 2)) v) → then_word k ≡ word k
  pend_keeps k v inside w = w (cell_place l k)
      ∙ stores (memory x) t (address_in l t (head_place t + 2)) v (head_place t + 2)
      (ap (place_in l t) (sym (head_further l t inv.layout pos known 2 (omega arith))) ∙ head_word_again l t inv.layout pos known 2 (omega arith))
      (mine_is_valid x.machine t (head_place t + 2) pos known (inr (inl refl))) (cell_place l k)
      ∙ put-other (shown x) (head_place t + 2) v (cell_place l k) (λ e. head_is_no_cell l t k 2 pos known (omega arith) (sym e))

  slot_keeps : (m : ℕ) (a : Access) → IsOurs l m → IsOfWord a → address_of a ≡ address_in l t (cell_place l (slot_of m)) → Words a → then_word (cell_of m) ≡ cell m
  slot_keeps m a ours of at w = w (cell_place l (cell_of m))
      ∙ changes (memory x) t (cell_place l (slot_of m)) a of (ap (place_in l t) at ∙ cell_again l t inv.layout pos known (slot_of m) (our_slot l m ours)) (cell_valid l (slot_of m) (our_slot l m ours)) (cell_place l (cell_of m))
      ∙ put-other (shown x) (cell_place l (slot_of m)) _ (cell_place l (cell_of m)) (omega arith)

  -- ---- with the cell's word as it was

  matched : (k u m n a : ℕ) → then_word k ≡ u → nat_lt m a ≡ true → nat_lt (if then_word k == u then m else n) a ≡ true
  matched k u m n a kept less = under_first (eq-eqb (then_word k) u kept)
    where
      under_first : (then_word k == u) ≡ true → nat_lt (if then_word k == u then m else n) a ≡ true
      under_first e = subst (λ (b : Bool). nat_lt (if b then m else n) a ≡ true) (sym e) less

  matched_low : (k u m n a : ℕ) → then_word k ≡ u → nat_lt m a ≡ true → nat_lt (if then_word k % 2 ^ 32 == u % 2 ^ 32 then m else n) a ≡ true
  matched_low k u m n a kept less = first (eq-eqb (then_word k % 2 ^ 32) (u % 2 ^ 32) (ap (λ (v : ℕ). v % 2 ^ 32) kept))
    where
      first : (then_word k % 2 ^ 32 == u % 2 ^ 32) ≡ true → nat_lt (if then_word k % 2 ^ 32 == u % 2 ^ 32 then m else n) a ≡ true
      first e = subst (λ (b : Bool). nat_lt (if b then m else n) a ≡ true) (sym e) less

  same_word : (m u a b i j : ℕ) → then_word (cell_of m) ≡ cell m → nat_lt a i ≡ true → nat_lt b j ≡ true → nat_lt (if then_word (cell_of m) == u then a else b) (if cell m == u then i else j) ≡ true
  same_word m u a b i j kept first second = subst (λ (v : ℕ). nat_lt (if v == u then a else b) (if cell m == u then i else j) ≡ true) (sym kept) (both (cell m == u) a b i j first second)

  free_step : (m a b i j : ℕ) → then_word (cell_of m) ≡ cell m → nat_lt a i ≡ true → nat_lt b j ≡ true → nat_lt (if is_free (then_word (cell_of m)) then a else b) (if is_free (cell m) then i else j) ≡ true
  free_step m a b i j kept first second = subst (λ (v : ℕ). nat_lt (if is_free v then a else b) (if is_free (cell m) then i else j) ≡ true) (sym kept) (both (is_free (cell m)) a b i j first second)

  -- ---- a lock has seen its cell's word

  lost : (m n w : ℕ) → nat_lt 2 n ≡ true → nat_lt 1 n ≡ true → Lt m n (unusable_row m w)
  lost m n w first second = either m n (fields_of w).waiters (Row.WakesAll m ENOTRECOVERABLE) (Row.Clears m ENOTRECOVERABLE) first second

  seen_lt : (k : Taking) → then_word (cell_of k.mutex) ≡ cell k.mutex → Lt k.mutex 45 (seen_row t k (cell k.mutex))
  seen_lt k kept = either k.mutex 45 (fields_of (cell k.mutex)).unusable (unusable_row k.mutex (cell k.mutex)) (if (fields_of (cell k.mutex)).owner == 0 then Row.Takes k (cell k.mutex) else if (fields_of (cell k.mutex)).owner == t then Row.Clears k.mutex EDEADLK else owned_row k k.how (cell k.mutex)) (lost k.mutex 45 (cell k.mutex) refl refl)
      (either k.mutex 45 ((fields_of (cell k.mutex)).owner == 0) (Row.Takes k (cell k.mutex)) (if (fields_of (cell k.mutex)).owner == t then Row.Clears k.mutex EDEADLK else owned_row k k.how (cell k.mutex)) (matched (cell_of k.mutex) (cell k.mutex) 8 45 45 kept refl)
      (either k.mutex 45 ((fields_of (cell k.mutex)).owner == t) (Row.Clears k.mutex EDEADLK) (owned_row k k.how (cell k.mutex)) refl (owned k.how)))
    where
      owned : (h : How) → Lt k.mutex 45 (owned_row k h (cell k.mutex))
      owned Tried = either k.mutex 45 k.wrong (Row.Clears k.mutex EINVAL) (Row.Chooses k (cell k.mutex)) refl (matched (cell_of k.mutex) (cell k.mutex) 44 48 45 kept refl)
      owned Later = matched (cell_of k.mutex) (cell k.mutex) 44 48 45 kept refl
      owned (Waited z) = matched (cell_of k.mutex) (cell k.mutex) 44 48 45 kept refl

  to_sleep_lt : (k : Taking) → then_word (cell_of k.mutex) ≡ cell k.mutex → Lt k.mutex 9 (seen_to_sleep k (cell k.mutex))
  to_sleep_lt k kept = either k.mutex 9 (fields_of (cell k.mutex)).unusable (unusable_row k.mutex (cell k.mutex)) (if (fields_of (cell k.mutex)).owner == 0 then Row.Takes k (cell k.mutex) else sleep_row k (cell k.mutex)) (lost k.mutex 9 (cell k.mutex) refl refl)
      (either k.mutex 9 ((fields_of (cell k.mutex)).owner == 0) (Row.Takes k (cell k.mutex)) (sleep_row k (cell k.mutex)) (matched (cell_of k.mutex) (cell k.mutex) 8 45 9 kept refl)
      (either k.mutex 9 (fields_of (cell k.mutex)).waiters (Row.SleepsOn k (cell k.mutex)) (Row.Marks k (cell k.mutex) ToSleep) (matched_low (cell_of k.mutex) (cell k.mutex) 1 47 9 kept refl) (matched (cell_of k.mutex) (cell k.mutex) 2 45 9 kept refl)))

  abbrev chosen_now : Taking → ℕ → ℕ
  chosen_now k v = if cell k.mutex == v then 44 else 48

  to_slot_lt : (k : Taking) (h : How) (v sl : ℕ) → then_word (cell_of k.mutex) ≡ cell k.mutex → Lt k.mutex (chosen_now k v) (to_slot x t c k h v sl)
  to_slot_lt k Tried v sl kept = least (cell k.mutex == v) 42 44 48 refl refl
  to_slot_lt k Later v sl kept = either k.mutex (chosen_now k v) (fields_of v).waiters (Row.SlotPends k sl) (Row.Marks k v (ToSlot sl)) (least (cell k.mutex == v) 42 44 48 refl refl) (same_word k.mutex v 43 45 44 48 kept refl refl)
  to_slot_lt k (Waited z) v sl kept = either k.mutex (chosen_now k v) (fields_of v).waiters (Row.SlotPends k sl) (Row.Marks k v (ToSlot sl)) (least (cell k.mutex == v) 42 44 48 refl refl) (same_word k.mutex v 43 45 44 48 kept refl refl)

  sleeps_lt : (k : Taking) (v : ℕ) → then_word (cell_of k.mutex) ≡ cell k.mutex → Lt k.mutex (chosen_now k v) (Row.SleepsOn k v)
  sleeps_lt k v kept = go (cell k.mutex == v) refl
    where
      go : (b : Bool) → (cell k.mutex == v) ≡ b → nat_lt (if then_word (cell_of k.mutex) % 2 ^ 32 == v % 2 ^ 32 then 1 else 47) (chosen_now k v) ≡ true
      go true e = under (cell k.mutex == v) true _ 44 48 e (matched_low (cell_of k.mutex) v 1 47 44 (kept ∙ eqb-true (cell k.mutex) v e) refl)
      go false e = under (cell k.mutex == v) false _ 44 48 e (max_lt (then_word (cell_of k.mutex) % 2 ^ 32 == v % 2 ^ 32) 1 47 48 refl refl)

  chosen_lt : (k : Taking) (v sl : ℕ) → c.again ≡ false → then_word (cell_of k.mutex) ≡ cell k.mutex → Lt k.mutex (chosen_now k v) (chosen x t c k v sl)
  chosen_lt k v sl once kept = subst (λ (b : Bool). Lt k.mutex (chosen_now k v) (if tries x t c k.how && is_moving sl && b then Row.SeesAgain k v else if tries x t c k.how && ((fields_of sl).owner == 0) && c.yes then to_slot x t c k k.how v sl else sleep_row k v)) (sym once)
      (go (tries x t c k.how) (is_moving sl))
    where
      rest : Lt k.mutex (chosen_now k v) (if tries x t c k.how && ((fields_of sl).owner == 0) && c.yes then to_slot x t c k k.how v sl else sleep_row k v)
      rest = either k.mutex (chosen_now k v) (tries x t c k.how && ((fields_of sl).owner == 0) && c.yes) (to_slot x t c k k.how v sl) (sleep_row k v) (to_slot_lt k k.how v sl kept)
          (either k.mutex (chosen_now k v) (fields_of v).waiters (Row.SleepsOn k v) (Row.Marks k v ToSleep) (sleeps_lt k v kept) (same_word k.mutex v 2 45 44 48 kept refl refl))

      go : (a b : Bool) → Lt k.mutex (chosen_now k v) (if a && b && false then Row.SeesAgain k v else if tries x t c k.how && ((fields_of sl).owner == 0) && c.yes then to_slot x t c k k.how v sl else sleep_row k v)
      go true true = rest
      go true false = rest
      go false b = rest

  -- ---- an heir

  watched_lt : (k : Taking) (v : ℕ) (over : Bool) → then_word (cell_of k.mutex) ≡ cell k.mutex → Lt k.mutex (now (Row.HeirPendsOn k v over)) (watched_row x t c k v over)
  watched_lt k v over kept = by_test (Lt k.mutex (now (Row.HeirPendsOn k v over))) (over && is_free v) (Row.HeirTakes k v) (if over && not (fields_of v).unusable && not (k.timed && c.yes) then Row.HeirPends k Again else Row.GivesUp k)
      (λ e. subst (λ (u : ℕ). nat_lt (if u == v then 26 else 27) (now (Row.HeirPendsOn k v over)) ≡ true) (sym kept) (on_takes (is_free (cell k.mutex)) over (is_free v) (cell k.mutex == v) (fields_of v).unusable e))
      (λ e. by_test (Lt k.mutex (now (Row.HeirPendsOn k v over))) (over && not (fields_of v).unusable && not (k.timed && c.yes)) (Row.HeirPends k Again) (Row.GivesUp k)
      (λ f. subst (λ (u : ℕ). nat_lt (if is_free u then 30 else 25) (now (Row.HeirPendsOn k v over)) ≡ true) (sym kept) (on_pends (is_free (cell k.mutex)) over (is_free v) (cell k.mutex == v) (fields_of v).unusable (k.timed && c.yes) e f))
      (λ f. subst (λ (u : ℕ). nat_lt (if is_free u then 32 else 21) (now (Row.HeirPendsOn k v over)) ≡ true) (sym kept) (on_gives (is_free (cell k.mutex)) over (is_free v) (cell k.mutex == v) (fields_of v).unusable e)))

  -- the exchange of an heir finds another word
  beaten_lt : (k : Taking) → then_word (cell_of k.mutex) ≡ cell k.mutex → Lt k.mutex 27 (watched_row x t c k (cell k.mutex) true)
  beaten_lt k kept = by_test (Lt k.mutex 27) (true && is_free (cell k.mutex)) (Row.HeirTakes k (cell k.mutex)) (if true && not (fields_of (cell k.mutex)).unusable && not (k.timed && c.yes) then Row.HeirPends k Again else Row.GivesUp k)
      (λ e. matched (cell_of k.mutex) (cell k.mutex) 26 27 27 kept refl)
      (λ e. either k.mutex 27 (true && not (fields_of (cell k.mutex)).unusable && not (k.timed && c.yes)) (Row.HeirPends k Again) (Row.GivesUp k)
      (subst (λ (u : ℕ). nat_lt (if is_free u then 30 else 25) 27 ≡ true) (sym kept) (not_free (is_free (cell k.mutex)) 30 25 27 e refl))
      (subst (λ (u : ℕ). nat_lt (if is_free u then 32 else 21) 27 ≡ true) (sym kept) (not_free (is_free (cell k.mutex)) 32 21 27 e refl)))

  heir_looks_lt : (k : Taking) → goes_on x (Row.HeirLooks k) c ≡ true → then_word (cell_of k.mutex) ≡ cell k.mutex
      → Lt k.mutex (now (Row.HeirLooks k)) (if (fields_of (cell k.mutex)).unusable || (is_free (cell k.mutex) && c.yes) then Row.HeirPendsOn k (cell k.mutex) true else if c.again then Row.HeirPends k Again else Row.HeirPendsOn k (cell k.mutex) false)
  heir_looks_lt k goes kept = by_test (Lt k.mutex (now (Row.HeirLooks k))) ((fields_of (cell k.mutex)).unusable || (is_free (cell k.mutex) && c.yes)) (Row.HeirPendsOn k (cell k.mutex) true) (if c.again then Row.HeirPends k Again else Row.HeirPendsOn k (cell k.mutex) false)
      (λ e. subst (λ (u : ℕ). nat_lt (on_rank (is_free u) true (is_free (cell k.mutex)) (u == cell k.mutex) (fields_of (cell k.mutex)).unusable) (now (Row.HeirLooks k)) ≡ true) (sym kept)
      (looks_on ((fields_of (cell k.mutex)).owner == 0) (fields_of (cell k.mutex)).unusable c.yes (cell k.mutex == cell k.mutex) (eq-eqb (cell k.mutex) (cell k.mutex) refl) e))
      (λ e. let owned = not_free_now (fields_of (cell k.mutex)).unusable ((fields_of (cell k.mutex)).owner == 0) c.yes c.again goes e in
      subst (λ (b : Bool). Lt k.mutex (now (Row.HeirLooks k)) (if b then Row.HeirPends k Again else Row.HeirPendsOn k (cell k.mutex) false)) (sym owned.1)
      (subst (λ (u : ℕ). nat_lt (on_rank (is_free u) false (is_free (cell k.mutex)) (u == cell k.mutex) (fields_of (cell k.mutex)).unusable) (now (Row.HeirLooks k)) ≡ true) (sym kept)
      (looks_off ((fields_of (cell k.mutex)).owner == 0) (fields_of (cell k.mutex)).unusable (cell k.mutex == cell k.mutex) owned.0)))

  out_lt : (k : Taking) (n : ℕ) → nat_lt 18 n ≡ true → Lt k.mutex n (out_of x t c k)
  out_lt k n less = either k.mutex n (k.timed && c.yes) (Row.Frees k (Fails ETIMEDOUT)) (Row.Frees k Sleeps) less less

  -- ---- a release

  finds_lt : (m n : ℕ) (q : Giving) → nat_lt 52 n ≡ true → nat_lt 51 n ≡ true → Lt m n (finds_row x t c m q)
  finds_lt m n q first second = either m n c.yes (Row.GiveFinds m q) (Row.Gives m q) first second

  unlinked_lt : (m : ℕ) (q : Giving) → Lt m (left + 54) (unlinked_row x t c m q)
  unlinked_lt m (OfUnlock d) = finds_lt m (left + 54) (OfUnlock d) (past 52 left 54 refl) (past 51 left 54 refl)
  unlinked_lt m (OfWait k n true timed) = finds_lt m (left + 54) (OfWait k n true timed) (past 52 left 54 refl) (past 51 left 54 refl)
  unlinked_lt m (OfWait k n false timed) = past 53 left 54 refl

  given_lt : (m n : ℕ) (q : Giving) → nat_lt 1 n ≡ true → nat_lt 47 n ≡ true → Lt m n (given_row x t c m q)
  given_lt m n (OfUnlock d) first second = first
  given_lt m n (OfWait k i slept timed) first second = second

  hands_lt : (m : ℕ) (q : Giving) (is : ℕ) → Lt m 51 (hands_row x t c m q is)
  hands_lt m q is = either m 51 c.yes (Row.WakesOne m q is) (Row.HandsOn m q is) refl refl

  released_lt : (m : ℕ) (q : Giving) (w : ℕ) → Lt m 51 (released x t c m q w)
  released_lt m (OfUnlock true) w = either m 51 (fields_of w).waiters (Row.WakesAll m OK) (Row.Clears m OK) refl refl
  released_lt m (OfUnlock false) w = either m 51 (fields_of w).waiters (hands_row x t c m (OfUnlock false) (w - t)) (Row.Clears m OK) (hands_lt m (OfUnlock false) (w - t)) refl
  released_lt m (OfWait k n slept timed) w = either m 51 (fields_of w).waiters (hands_row x t c m (OfWait k n slept timed) (w - t)) (Row.WaitSleeps m k n timed) (hands_lt m (OfWait k n slept timed) (w - t)) refl

  woke_lt : (m : ℕ) (q : Giving) (n : ℕ) → Lt m 48 (woke_row x t c m q n)
  woke_lt m (OfUnlock d) n = either m 48 (is_nobody (x.machine.queues (cell_place l (cell_of m)))) (Row.Trims m n) (Row.Clears m OK) refl refl
  woke_lt m (OfWait k i slept timed) n = refl

  counted_lt : (m k : ℕ) (all slept : Bool) (n : ℕ) → Lt m 4 (counted_row x t c m k all slept n)
  counted_lt m k all false n = refl
  counted_lt m k false true n = refl
  counted_lt m k true true n = refl

  -- ---- along the list

  along : (m n : ℕ) (here behind : Row) → is_on_list g ≡ true → y.machine ≡ run x.machine (Step t ∷ []) → (nat_lt then_left left ≡ true → Lt m n here) → Lt m n behind
      → Lt m n (if is_on_list ((run x.machine (Step t ∷ [])).threads t).stage then here else behind)
  along m n here behind on machine nearer through = by_test (Lt m n) (is_on_list ((run x.machine (Step t ∷ [])).threads t).stage) here behind
      (λ e. nearer (subst (λ (z : State). nat_lt (list_rank (z.threads t).stage) left ≡ true) (sym machine) (list_falls x.machine t inv pos known awake g refl on e))) (λ e. through)

  -- rows along the list
  abbrev Lists : Row → Type 0
  Lists (Row.Links m r) = Unit {0}
  Lists (Row.SlotLinks k d) = Unit {0}
  Lists (Row.HeirLinks k r) = Unit {0}
  Lists (Row.FreeUnlinks k f) = Unit {0}
  Lists (Row.GiveUnlinks m q) = Unit {0}
  Lists r = ⊥

  on_row : (r : Row) → StandsAs r g → Lists r → is_on_list g ≡ true
  on_row (Row.Links m r) (u, inl (p, is, phase)) list = ap is_on_list is ∙ (λ i. is_linking (phase i) || is_unlinking (phase i))
  on_row (Row.Links m r) (u, inr (inl (p, is, phase))) list = ap is_on_list is ∙ (λ i. is_linking (phase i) || is_unlinking (phase i))
  on_row (Row.Links m r) (u, inr (inr (k, (o, p, is, of, acts, phase)))) list = ap is_on_list is ∙ (λ i. is_linking (phase i) || is_unlinking (phase i))
  on_row (Row.SlotLinks k d) (u, (p, is, phase)) list = ap is_on_list is ∙ (λ i. is_linking (phase i) || is_unlinking (phase i))
  on_row (Row.HeirLinks k r) (u, (p, is, phase)) list = ap is_on_list is ∙ (λ i. is_linking (phase i) || is_unlinking (phase i))
  on_row (Row.FreeUnlinks k f) (u, (p, is, phase)) list = ap is_on_list is ∙ (λ i. is_linking (phase i) || is_unlinking (phase i))
  on_row (Row.GiveUnlinks m (OfUnlock d)) (u, (p, is, phase)) list = ap is_on_list is ∙ (λ i. is_linking (phase i) || is_unlinking (phase i))
  on_row (Row.GiveUnlinks m (OfWait k n slept timed)) (p, u, is, phase) list = ap is_on_list is ∙ (λ i. is_unlinking_at (phase i))
  on_row r there list = absurd list

  -- ---- WAITERS is set, or the exchange misses

  marked_word : (k : Taking) (v : ℕ) → IsOurs l k.mutex → (cell k.mutex == v) ≡ true → Words (Access.Exchange (address_in l t (cell_place l (cell_of k.mutex))) v (waiting_word v)) → then_word (cell_of k.mutex) ≡ waiting_word v
  marked_word k v ours e w = w (cell_place l (cell_of k.mutex))
      ∙ changes (memory x) t (cell_place l (cell_of k.mutex)) (Access.Exchange (address_in l t (cell_place l (cell_of k.mutex))) v (waiting_word v)) tt (cell_again l t inv.layout pos known (cell_of k.mutex) (our_cell l k.mutex ours)) (cell_valid l (cell_of k.mutex) (our_cell l k.mutex ours)) (cell_place l (cell_of k.mutex))
      ∙ put-same (shown x) (cell_place l (cell_of k.mutex)) (if cell k.mutex == v then waiting_word v else cell k.mutex)
      ∙ ap (λ (b : Bool). if b then waiting_word v else cell k.mutex) e

  marked_sleep : (k : Taking) (h : How) (v : ℕ) → then_word (cell_of k.mutex) ≡ waiting_word v → Lt k.mutex 2 (marked_row x t c k h v ToSleep)
  marked_sleep k Tried v is = matched_low (cell_of k.mutex) (waiting_word v) 1 47 2 is refl
  marked_sleep k Later v is = matched_low (cell_of k.mutex) (waiting_word v) 1 47 2 is refl
  marked_sleep k (Waited z) v is = matched_low (cell_of k.mutex) (waiting_word v) 1 47 2 is refl

  missed_lt : (k : Taking) (v i : ℕ) (h : How) → IsOurs l k.mutex → (cell k.mutex == v) ≡ false
      → Words (missed x t c (Access.Exchange (address_in l t (cell_place l (cell_of k.mutex))) v (waiting_word v)) k h (cell k.mutex)).access → y.machine ≡ run x.machine (missed x t c (Access.Exchange (address_in l t (cell_place l (cell_of k.mutex))) v (waiting_word v)) k h (cell k.mutex)).events
      → Lt k.mutex (if cell k.mutex == v then i else 45) (missed x t c (Access.Exchange (address_in l t (cell_place l (cell_of k.mutex))) v (waiting_word v)) k h (cell k.mutex)).next
  missed_lt k v i Tried ours e w m = under (cell k.mutex == v) false _ i 45 e (seen_lt (later k) (miss_keeps (cell_of k.mutex) v (waiting_word v) (cell_place l (cell_of k.mutex)) (our_cell l k.mutex ours) e w))
  missed_lt k v i Later ours e w m = under (cell k.mutex == v) false _ i 45 e (seen_lt k (miss_keeps (cell_of k.mutex) v (waiting_word v) (cell_place l (cell_of k.mutex)) (our_cell l k.mutex ours) e w))
  missed_lt k v i (Waited z) ours e w m = under (cell k.mutex == v) false _ i 45 e (seen_lt k (miss_keeps (cell_of k.mutex) v (waiting_word v) (cell_place l (cell_of k.mutex)) (our_cell l k.mutex ours) e w))

  -- ---- an heir's last look

  abbrev look : Taking → Access
  look k = Access.Load (address_in l t (cell_place l (cell_of k.mutex)))

  busy_now : (k : Taking) (a : ℕ) → is_free (cell k.mutex) ≡ false → nat_lt a 20 ≡ true → nat_lt a (now (Row.LastLooks k)) ≡ true
  busy_now k a busy less = under (is_free (cell k.mutex)) false a 31 20 busy less

  owned : (k : Taking) → ((fields_of (cell k.mutex)).owner == 0) ≡ false → is_free (cell k.mutex) ≡ false
  owned k some = ap (λ (b : Bool). b && not (fields_of (cell k.mutex)).unusable) some

  free_now : (b : Bool) → b ≡ true → nat_lt (if b then 30 else 25) (if b then 31 else 20) ≡ true
  free_now true e = refl
  free_now false e = absurd cc

  last_lt : (k : Taking) (a : Bool) → (fields_of (cell k.mutex)).unusable ≡ a → (b : Bool) → ((fields_of (cell k.mutex)).owner == 0) ≡ b → (d : Bool) → Nearer (Row.LastLooks k) (
      if a then makes (look k) (Step t ∷ []) (if d then Row.HeirWakes k else Row.Frees k (Fails ENOTRECOVERABLE))
      else if b then makes (look k) [] (Row.HeirPends k Again)
      else if d then makes (look k) (expires t) (out_of x t c k)
      else makes (look k) [] (Row.LastMarks k (cell k.mutex))
      )
  last_lt k true is b none true w m = busy_now k 19 ((λ i. ((fields_of (cell k.mutex)).owner == 0) && not (is i)) ∙ and_no ((fields_of (cell k.mutex)).owner == 0)) refl
  last_lt k true is b none false w m = busy_now k 18 ((λ i. ((fields_of (cell k.mutex)).owner == 0) && not (is i)) ∙ and_no ((fields_of (cell k.mutex)).owner == 0)) refl
  last_lt k false is true none d w m = subst (λ (v : ℕ). nat_lt (if is_free v then 30 else 25) (now (Row.LastLooks k)) ≡ true) (sym (load_keeps (address_in l t (cell_place l (cell_of k.mutex))) (cell_place l (cell_of k.mutex)) w)) (free_now (is_free (cell k.mutex)) (λ i. none i && not (is i)))
  last_lt k false is false some true w m = either k.mutex (now (Row.LastLooks k)) (k.timed && c.yes) (Row.Frees k (Fails ETIMEDOUT)) (Row.Frees k Sleeps) (busy_now k 18 (owned k some) refl) (busy_now k 18 (owned k some) refl)
  last_lt k false is false some false w m = matched (cell_of k.mutex) (cell k.mutex) 19 _ (now (Row.LastLooks k)) (load_keeps (address_in l t (cell_place l (cell_of k.mutex))) (cell_place l (cell_of k.mutex)) w) (busy_now k 19 (owned k some) refl)

  -- ---- each row

  abbrev Goal : Row → Type 0
  Goal r = Nearer r (made x t c r)

  two : (r : Row) (b : Bool) (n o : Made) → (b ≡ true → Nearer r n) → (b ≡ false → Nearer r o) → Nearer r (if b then n else o)
  two r true n o first second = first refl
  two r false n o first second = second refl

  -- its sleep doesn't come
  abbrev pub StaysAwake : Row → Type 0
  StaysAwake (Row.SleepsOn k v) = (cell k.mutex % 2 ^ 32 == v % 2 ^ 32) ≡ false
  StaysAwake r = Unit {0}

  awake_lt : (k : Taking) (v : ℕ) (h : How) (w : ℕ) → (w % 2 ^ 32 == v % 2 ^ 32) ≡ false → Lt k.mutex (if w % 2 ^ 32 == v % 2 ^ 32 then 1 else 47) (on_cell x t c k h v w).next
  awake_lt k v Tried w e = under (w % 2 ^ 32 == v % 2 ^ 32) false _ 1 47 e (by_test (λ (n : Made). Lt k.mutex 47 n.next) (w % 2 ^ 32 == v % 2 ^ 32) _ _ (λ f. refl) (λ f. refl))
  awake_lt k v Later w e = under (w % 2 ^ 32 == v % 2 ^ 32) false _ 1 47 e (by_test (λ (n : Made). Lt k.mutex 47 n.next) (w % 2 ^ 32 == v % 2 ^ 32) _ _ (λ f. refl) (λ f. refl))
  awake_lt k v (Waited z) w e = under (w % 2 ^ 32 == v % 2 ^ 32) false 46 1 47 e refl

  pub nearer_row : (r : Row) → Fits l t r g → StandsAs r g → is_resting r ≡ false → StaysAwake r → goes_on x r c ≡ true → Goal r
  nearer_row (Row.Looks k) o there busy up goes = two (Row.Looks k) ((fields_of (cell k.mutex)).owner == t) _ _ (λ e w m. refl) (λ e w m. refl)
  nearer_row (Row.Pends k v) o there busy up goes = λ w m. either k.mutex 46 (is_free v) (Row.Takes k v) (Row.Sees k) (max_lt (then_word (cell_of k.mutex) == v) 8 45 46 refl refl) refl
  nearer_row (Row.Sees k) o there busy up goes = λ w m. seen_lt k (load_keeps _ (cell_place l (cell_of k.mutex)) w)
  nearer_row (Row.Takes k v) o there busy up goes = two (Row.Takes k v) (cell k.mutex == v) _ _ (λ e w m. under (cell k.mutex == v) true (then_left + 2) 8 45 e (fits_2 then_left few)) (λ e w m. under (cell k.mutex == v) false _ 8 45 e (seen_lt k (miss_keeps (cell_of k.mutex) v _ (cell_place l (cell_of k.mutex)) (our_cell l k.mutex o.0.ours) e w)))
  nearer_row (Row.Links m y) o there busy up goes = λ w z. along m (left + 2) (Row.Links m y) (Row.Clears m y) (on_row (Row.Links m y) there tt) z (λ less. adds then_left left 2 less) (past 1 left 2 refl)
  nearer_row (Row.Clears m y) o there busy up goes = λ w z. refl
  nearer_row (Row.Chooses k v) o there busy up goes = λ w m. chosen_lt k v (slot k.mutex) (not_it c.again goes) (load_keeps _ (cell_place l (cell_of k.mutex)) w)
  nearer_row (Row.SeesAgain k v) o there busy up goes = λ w m. seen_lt k (load_keeps _ (cell_place l (cell_of k.mutex)) w)
  nearer_row (Row.Marks k v ToSleep) o there busy up goes = two (Row.Marks k v ToSleep) (cell k.mutex == v) _ _ (λ e w m. under (cell k.mutex == v) true _ 2 45 e (marked_sleep k k.how v (marked_word k v o.0.ours e w))) (λ e. missed_lt k v 2 k.how o.0.ours e)
  nearer_row (Row.Marks k v (ToSlot sl)) o there busy up goes = two (Row.Marks k v (ToSlot sl)) (cell k.mutex == v) _ _ (λ e w m. under (cell k.mutex == v) true 42 43 45 e refl) (λ e. missed_lt k v 43 k.how o.0.ours e)
  nearer_row (Row.SleepsOn k v) o there busy up goes = λ w m. awake_lt k v k.how (cell k.mutex) up
  nearer_row (Row.Asleep k) o there busy up goes = λ w m. refl
  nearer_row (Row.Late k) o there busy up goes = λ w m. refl
  nearer_row (Row.LateSees k) o there busy up goes = λ w m. refl
  nearer_row (Row.WakesAll m y) o there busy up goes = λ w z. refl
  nearer_row (Row.SlotPends k sl) o there busy up goes = λ w m. max_lt (then_word (slot_of k.mutex) == sl) 40 41 42 refl refl
  nearer_row (Row.SlotTakes k sl) o there busy up goes = two (Row.SlotTakes k sl) (slot k.mutex == sl) _ _ (λ e w m. under (slot k.mutex == sl) true (then_left + 34) 40 41 e (fits_34 then_left few)) (λ e. two (Row.SlotTakes k sl) ((fields_of (slot k.mutex)).owner == 0) _ _ (λ f w m. under (slot k.mutex == sl) false _ 40 41 e (matched (slot_of k.mutex) (slot k.mutex) 40 41 41 (miss_keeps (slot_of k.mutex) sl _ (cell_place l (slot_of k.mutex)) (our_slot l k.mutex o.0.ours) e w) refl)) (λ f w m. under (slot k.mutex == sl) false 10 40 41 e refl))
  nearer_row (Row.SlotLeft k) o there busy up goes = λ w m. refl
  nearer_row (Row.SeesToSleep k) o there busy up goes = λ w m. to_sleep_lt k (load_keeps _ (cell_place l (cell_of k.mutex)) w)
  nearer_row (Row.SlotLinks k true) o there busy up goes = λ w m. along k.mutex (left + 34) (Row.SlotLinks k true) (Row.SlotClears k) (on_row (Row.SlotLinks k true) there tt) m (λ less. adds then_left left 34 less) (past 33 left 34 refl)
  nearer_row (Row.SlotLinks k false) o there busy up goes = λ w m. along k.mutex (left + 34) (Row.SlotLinks k false) (Row.HeirPends k Linked) (on_row (Row.SlotLinks k false) there tt) m (λ less. adds then_left left 34 less) (max_lt (is_free (then_word (cell_of k.mutex))) 30 25 (left + 34) (past 30 left 34 refl) (past 25 left 34 refl))
  nearer_row (Row.SlotClears k) o there busy up goes = λ w m. refl
  nearer_row (Row.SlotQuiets k) o there busy up goes = λ w m. refl
  nearer_row (Row.SlotMends k) o there busy up goes = λ w m. max_lt (is_free (then_word (cell_of k.mutex))) 30 25 31 refl refl
  nearer_row (Row.HeirPends k b) o there busy up goes = λ w m. free_step k.mutex 29 24 30 25 (pend_keeps (cell_of k.mutex) _ (our_cell l k.mutex o.ours) w) refl refl
  nearer_row (Row.HeirSets k) o there busy up goes = λ w m. free_step k.mutex 28 23 29 24 (slot_keeps k.mutex (Access.Store (address_in l t (cell_place l (slot_of k.mutex))) (awake_word t c.time)) o.ours tt refl w) refl refl
  nearer_row (Row.HeirLooks k) o there busy up goes = λ w m. heir_looks_lt k goes (load_keeps _ (cell_place l (cell_of k.mutex)) w)
  nearer_row (Row.HeirPendsOn k v over) o there busy up goes = λ w m. watched_lt k v over (pend_keeps (cell_of k.mutex) _ (our_cell l k.mutex o.ours) w)
  nearer_row (Row.HeirTakes k v) o there busy up goes = two (Row.HeirTakes k v) (cell k.mutex == v) _ _ (λ e w m. under (cell k.mutex == v) true 25 26 27 e refl) (λ e w m. under (cell k.mutex == v) false _ 26 27 e (beaten_lt k (miss_keeps (cell_of k.mutex) v _ (cell_place l (cell_of k.mutex)) (our_cell l k.mutex o.0.ours) e w)))
  nearer_row (Row.HeirHas k y) o there busy up goes = λ w m. fits_19 then_left few
  nearer_row (Row.HeirLinks k y) o there busy up goes = λ w m. along k.mutex (left + 19) (Row.HeirLinks k y) (Row.Frees k (Has y)) (on_row (Row.HeirLinks k y) there tt) m (λ less. adds then_left left 19 less) (past 18 left 19 refl)
  nearer_row (Row.GivesUp k) o there busy up goes = λ w m. free_step k.mutex 31 20 32 21 (slot_keeps k.mutex (Access.FetchAnd (address_in l t (cell_place l (slot_of k.mutex))) (all_but awake_bit)) o.ours tt refl w) refl refl
  nearer_row (Row.LastLooks k) o there busy up goes = last_lt k (fields_of (cell k.mutex)).unusable refl ((fields_of (cell k.mutex)).owner == 0) refl (fields_of (cell k.mutex)).waiters
  nearer_row (Row.LastMarks k v) o there busy up goes = two (Row.LastMarks k v) (cell k.mutex == v) _ _ (λ e w m. under (cell k.mutex == v) true _ 19 _ e (out_lt k 19 refl)) (λ e w m. under (cell k.mutex == v) false _ 19 _ e (free_step k.mutex 30 25 31 26 (miss_keeps (cell_of k.mutex) v _ (cell_place l (cell_of k.mutex)) (our_cell l k.mutex o.0.ours) e w) refl refl))
  nearer_row (Row.HeirWakes k) o there busy up goes = λ w m. refl
  nearer_row (Row.Frees k f) o there busy up goes = λ w m. fits_12 then_left few
  nearer_row (Row.FreeUnlinks k f) o there busy up goes = λ w m. along k.mutex (left + 12) (Row.FreeUnlinks k f) (Row.FreeGives k f) (on_row (Row.FreeUnlinks k f) there tt) m (λ less. adds then_left left 12 less) (past 11 left 12 refl)
  nearer_row (Row.FreeGives k (Has y)) o there busy up goes = λ w m. refl
  nearer_row (Row.FreeGives k (Fails y)) o there busy up goes = λ w m. refl
  nearer_row (Row.FreeGives k Sleeps) o there busy up goes = λ w m. refl
  nearer_row (Row.TryLooks m) o there busy up goes = two (Row.TryLooks m) (is_free (cell m)) _ _ (λ e w z. refl) (λ e w z. refl)
  nearer_row (Row.TryPends m v) o there busy up goes = λ w z. max_lt (then_word (cell_of m) == v) 8 9 10 refl refl
  nearer_row (Row.TryTakes m v) o there busy up goes = two (Row.TryTakes m v) (cell m == v) _ _ (λ e w z. under (cell m == v) true (then_left + 2) 8 9 e (fits_2 then_left few)) (λ e. two (Row.TryTakes m v) (is_free (cell m)) _ _ (λ f w z. under (cell m == v) false _ 8 9 e (matched (cell_of m) (cell m) 8 9 9 (miss_keeps (cell_of m) v _ (cell_place l (cell_of m)) (our_cell l m o.0) e w) refl)) (λ f w z. under (cell m == v) false 1 8 9 e refl))
  nearer_row (Row.GiveLooks m) o there busy up goes = two (Row.GiveLooks m) ((fields_of (cell m)).owner == t) _ _ (λ e w z. refl) (λ e w z. refl)
  nearer_row (Row.GivePends m q) o there busy up goes = λ w z. fits_54 then_left few
  nearer_row (Row.GiveUnlinks m q) o there busy up goes = λ w z. along m (left + 54) (Row.GiveUnlinks m q) (unlinked_row x t c m q) (on_row (Row.GiveUnlinks m q) there tt) z (λ less. adds then_left left 54 less) (unlinked_lt m q)
  nearer_row (Row.GiveFinds m q) o there busy up goes = λ w z. subst (λ (b : Bool). Lt m 52 (if b then Row.GiveFinds m q else Row.Gives m q)) (sym (not_it c.again goes)) refl
  nearer_row (Row.Gives m q) o there busy up goes = λ w z. released_lt m q (cell m)
  nearer_row (Row.HandsOn m q n) o there busy up goes = two (Row.HandsOn m q n) (shows_heir (slot m) && c.yes) _ _ (λ e w z. given_lt m 50 q refl refl) (λ e w z. refl)
  nearer_row (Row.LooksBack m q n) o there busy up goes = two (Row.LooksBack m q n) ((fields_of (cell m)).owner == 0) _ _ (λ e w z. refl) (λ e w z. given_lt m 49 q refl refl)
  nearer_row (Row.WakesOne m q n) o there busy up goes = λ w z. woke_lt m q n
  nearer_row (Row.Trims m n) o there busy up goes = λ w z. refl
  nearer_row (Row.MendLooks m) o there busy up goes = two (Row.MendLooks m) (((fields_of (cell m)).owner == t) && (fields_of (cell m)).died) _ _ (λ e w z. refl) (λ e w z. refl)
  nearer_row (Row.Mends m) o there busy up goes = λ w z. refl
  nearer_row (Row.AnewLooks m) o there busy up goes = λ w z. either m 3 (fields_of (cell m)).unusable (Row.Anews m (cell m)) Row.Rests (max_lt (then_word (cell_of m) == cell m) 1 2 3 refl refl) refl
  nearer_row (Row.Anews m v) o there busy up goes = two (Row.Anews m v) (cell m == v) _ _ (λ e w z. under (cell m == v) true 0 1 2 e refl) (λ e w z. under (cell m == v) false _ 1 2 e (either m 2 (fields_of (cell m)).unusable (Row.Anews m (cell m)) Row.Rests (matched (cell_of m) (cell m) 1 2 2 (miss_keeps (cell_of m) v _ (cell_place l (cell_of m)) (our_cell l m o.0) e w) refl) refl))
  nearer_row (Row.WaitLooks m k timed) o there busy up goes = two (Row.WaitLooks m k timed) ((fields_of (cell m)).owner == t) _ _ (λ e w z. refl) (λ e w z. refl)
  nearer_row (Row.WaitCounts m k timed died) o there busy up goes = two (Row.WaitCounts m k timed died) died _ _ (λ e w z. refl) (λ e w z. refl)
  nearer_row (Row.WaitSets m k n timed) o there busy up goes = λ w z. finds_lt m 53 (OfWait k n true timed) refl refl
  nearer_row (Row.WaitSleeps m k n timed) o there busy up goes = λ w z. refl
  nearer_row (Row.WaitAsleep m k n timed) o there busy up goes = λ w z. refl
  nearer_row (Row.WaitLate m k n) o there busy up goes = λ w z. refl
  nearer_row (Row.CountLooks m k all) o there busy up goes = two (Row.CountLooks m k all) ((fields_of (cell m)).owner == t) _ _ (λ e w z. refl) (λ e w z. refl)
  nearer_row (Row.CountLoads m k all) o there busy up goes = λ w z. refl
  nearer_row (Row.Counts m k all n) o there busy up goes = λ w z. counted_lt m k all (shows_slept x t c n) (counted x t c n % 4294967296)
  nearer_row (Row.CountWakes m k n) o there busy up goes = λ w z. either m 2 (is_nobody (x.machine.queues (counter_place l k))) (Row.Unsets m k n) Row.Rests refl refl
  nearer_row (Row.AllMarks m k n) o there busy up goes = λ w z. refl
  nearer_row (Row.AllMoves m k n) o there busy up goes = λ w z. refl
  nearer_row (Row.Unsets m k n) o there busy up goes = λ w z. refl
  nearer_row r o there busy up goes = absurd cc
