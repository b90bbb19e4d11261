-- A thread's own list through its calls, as its card knows it.
use Rattle.std.proofs.Common.{Bool, true, false, ◌≡◌, ◌≢◌, inl, inr, ℕ, ◌+◌, ◌-◌, ◌^◌, ◌%◌, ◌<◌, ◌≤◌, ◌==◌, Option, Some, None, List, [], refl, sym, ap, ◌∙◌, subst, arith, eq-eqb}
use Rattle.std.specs.Prelude.{nat_lt, if◌then◌else◌}
use Rattle.std.proofs.lemmas.Bool.Decides.{nat_tests}
use mathlib.Core.Logic.{dite}
use mathlib.Core.Path.{fun_ext}
use native.Mathlib.Decide.{ℕ_discrete}
use Rattle.lockword.specs.Cells.{fields_of}
use Rattle.lockword.specs.declared.reply.Reply.{Reply}
use Rattle.lockword.specs.declared.reply.Reply.TheVariants.{OK, EOWNERDEAD, EFAULT}
use Rattle.stepprograms.specs.declared.access.Access.{Access}
use Rattle.stepprograms.specs.declared.access.Access.TheVariants as access
use Rattle.stepprograms.specs.declared.access.Answer.{Answer}
use Rattle.stepprograms.specs.declared.access.Answer.TheVariants.{Value}
use Rattle.posixmutex.specs.declared.point.Operation.{Operation}
use Rattle.posixmutex.specs.declared.point.Operation.TheVariants as operation
use Rattle.posixmutex.specs.declared.object.Object.{Object}
use Rattle.stepprograms.specs.Accesses.{address_of, answer_at, changed}
use Rattle.posixmutex.specs.Histories.{is_thread}
use Rattle.posixmutex.specs.declared.point.Point.{Point}
use Rattle.memorymap.specs.Layouts.{Layout', IsLayout, cell_offset, head_place, cell_place, words_of, base_of, address_in, place_in}
use Rattle.posixmutex.specs.Objects.{fresh, object_of, Permits, Run}
use Rattle.robustlist.specs.Words.{answer_on, after}
use Rattle.mutex.specs.declared.phase.Phase.{Phase}
use Rattle.mutex.specs.declared.phase.Phase.TheVariants.{Announcing, AtCell, Linking, Unlinking, Clearing, Ended}
use Rattle.mutex.specs.declared.row.Led.{Led}
use Rattle.mutex.specs.declared.row.Row.{Row}
use Rattle.mutex.specs.declared.row.Row.TheVariants as row
use Rattle.mutex.specs.declared.unlock.UnlockRow.TheVariants as unlock
use Rattle.mutex.specs.Laws.{Expects, Right, points, decided}
use Rattle.mutex.specs.Programs.{access_of, point_of, row_operation}
use Rattle.mutex.specs.Rows.{IsGoing}
use Rattle.mutex.specs.Standings.{Standing, Whole}
use Rattle.mutex.specs.Steps.{IsStep}
use Rattle.mutex.specs.declared.call.Call.{Call}
use Rattle.mutex.specs.Calls.{mutex_of}
use Rattle.mutex.specs.Whole.{begins, whole_access, whole_led, whole_moved, IsUnderWay}
use Rattle.mutex.specs.WholeLists.{HasList, KeepsList, Arrives, AgreeOnOwn, IsCallOn, IsOwnAccess, IsOwnAddress, IsOwnPlace, IsThere, CanBeWalked, OwnsAt, owns_after}
use Rattle.memorymap.specs.Chains.{address_sum}
use Rattle.mutex.proofs.Addresses.{again, further_on, low, same_place}
use Rattle.mutex.proofs.WholeLists.{right}
use Rattle.ruledwords.specs.declared.pass.Card.{Card}
use Rattle.ruledwords.specs.declared.pass.Change.{Change}
use Rattle.ruledwords.specs.Cards.{value_at, put_value}
use Rattle.ruledwords.specs.Passes.{IsCardOf}
use Rattle.ruledwords.specs.OwnWords.{owns_in, IsOwn, KnowsOwn, knowing, own_after}
use Rattle.ruledwords.specs.Lists.{or_zero, known, IsAlive, IsInCall, IsMortal, StaysSo}
use Rattle.ruledwords.specs.Rules.{first_card, first_values}
use Rattle.ruledwords.specs.Calls.{Ready, Made, OwnKept, led_at, standing_of}
use Rattle.ruledwords.specs.Looks.{noted}
use Rattle.ruledwords.specs.Renewals.{renewed}
use Rattle.ruledwords.specs.Seen.{by, held_after, holds, holds_after}
use Rattle.ruledwords.specs.Walks.{OwnsNothing}
use Rattle.ruledwords.specs.Turns.{IsAnswerOf, IsAtCell, IsLoadOrStore}
use Rattle.ruledwords.proofs.Lists.{value_put, value_put_else}
use Rattle.ruledwords.proofs.Held.{held_append, owner_held}
use Rattle.ruledwords.proofs.Keepers.{other_cell}
use Rattle.ruledwords.proofs.OwnWords.{own_place}
use Rattle.ruledwords.proofs.Phases.{cell_phase, is_load_or_store}
use Rattle.ruledwords.proofs.Sections.{Passes, passes}
use Rattle.ruledwords.proofs.Standing.{made_point, made_right}

-- ---- phases

keeps_on : (k : Layout') (t : ℕ) (owns : ℕ → Bool) (m : ℕ) (op : Operation) (f : Phase) (w : ℕ → ℕ) → IsUnderWay f → Arrives k t owns m op f w → KeepsList k t owns m op f w
keeps_on k t owns m op (Announcing r) w going came = came
keeps_on k t owns m op (AtCell r) w going came = came
keeps_on k t owns m op (Linking l x) w going came = came
keeps_on k t owns m op (Unlinking u d) w going came = came
keeps_on k t owns m op (Clearing x) w going came = came
keeps_on k t owns m op (Ended x) w going came = absurd going

pub ends_so : (k : Layout') (t : ℕ) (owns : ℕ → Bool) (m : ℕ) (op : Operation) (f : Phase) (x : Reply) (w : ℕ → ℕ) → f ≡ Ended x → Arrives k t owns m op f w → HasList k t owns w
ends_so k t owns m op f x w is came = subst (λ (z : Phase). Arrives k t owns m op z w) is came

-- ---- points

-- no row is of a death
mutex_operation : (r : Row) → row_operation r ≢ operation.Death
mutex_operation (row.Lock r) e = absurd (cc e)
mutex_operation (row.TryLock r) e = absurd (cc e)
mutex_operation (row.Unlock r) e = absurd (cc e)
mutex_operation (row.Consistent r) e = absurd (cc e)
mutex_operation (row.Ended x) e = absurd (cc e)

one_owns : (b : Bool) (op : Operation) (x : Reply) → op ≢ operation.Death → holds_after b op x ≡ owns_after b op (Some x)
one_owns b operation.Lock OK other = refl
one_owns b operation.Lock EOWNERDEAD other = refl
one_owns b operation.Lock x other = refl
one_owns b operation.TryLock OK other = refl
one_owns b operation.TryLock EOWNERDEAD other = refl
one_owns b operation.TryLock x other = refl
one_owns b operation.Unlock OK other = refl
one_owns b operation.Unlock x other = refl
one_owns b operation.Death x other = absurd (other refl)
one_owns b op x other = refl

none_owns : (b : Bool) (op : Operation) → owns_after b op None ≡ b
none_owns b operation.Lock = refl
none_owns b operation.TryLock = refl
none_owns b operation.Unlock = refl
none_owns b op = refl

-- what a thread owns after a point of its own
point_owns : (b : Bool) (t q : ℕ) (op : Operation) (r : Option Reply) → op ≢ operation.Death → held_after b (points (point_of t q op r)) ≡ owns_after b op r
point_owns b t q operation.Lock None other = refl
point_owns b t q operation.TryLock None other = refl
point_owns b t q operation.Unlock None other = refl
point_owns b t q op None other = refl
point_owns b t q op (Some x) other = one_owns b op x other

taken_free : (o n : Object) (t : ℕ) (op : Operation) (x : Reply) → Permits o t op x n → owns_after false op (Some x) ≡ true → o.owner ≡ None
taken_free o n t operation.Lock OK permits taken = permits.1
taken_free o n t operation.Lock EOWNERDEAD permits taken = permits.1
taken_free o n t operation.Lock x permits taken = absurd (cc taken)
taken_free o n t operation.TryLock OK permits taken = permits.1
taken_free o n t operation.TryLock EOWNERDEAD permits taken = permits.1
taken_free o n t operation.TryLock x permits taken = absurd (cc taken)
taken_free o n t operation.Unlock OK permits taken = absurd (cc taken)
taken_free o n t op x permits taken = absurd (cc taken)

fault_never : (o n : Object) (t : ℕ) (op : Operation) → Permits o t op EFAULT n → ⊥
fault_never o n t operation.Lock permits = permits
fault_never o n t operation.TryLock permits = permits
fault_never o n t operation.TimedLock permits = permits
fault_never o n t operation.Unlock permits = permits
fault_never o n t operation.Consistent permits = permits
fault_never o n t operation.Wait permits = permits
fault_never o n t operation.TimedWait permits = permits
fault_never o n t operation.Signal permits = permits
fault_never o n t operation.Broadcast permits = permits
fault_never o n t operation.Death permits = permits
fault_never o n t operation.Reinit permits = permits

pub owner_told : (t : ℕ) (o : Object) → o.owner ≡ Some t → is_thread t o.owner ≡ true
owner_told t o e = ap (is_thread t) e ∙ eq-eqb t t refl

-- ---- its own accesses

-- each address has a place of its own
places_differ : (base a x : ℕ) → base ≤ 1000000000 → a < 2 ^ 64 → x < 2 ^ 64 → (x + (2 ^ 64 - base)) % 2 ^ 64 ≡ (a + (2 ^ 64 - base)) % 2 ^ 64 → x ≡ a
places_differ base a x low small few same = omega (arith, same)

-- a load that gives what the thread knows is answered so
pub loaded : (k : Layout') (c : Card) (a : Access) (at r place : ℕ) → a ≡ access.Load at → address_of a < 2 ^ 64 → place ≡ place_in k c.thread at → IsOwn k c (place_in k c.thread (address_of a)) → KnowsOwn k c → ((x : ℕ) → value_at c.values place ≡ Some x → r ≡ x)
    → answer_at a r ≡ answer_on a (known k c)
loaded k c a at r place is small there own all recalls =
    let x = all.each (place_in k c.thread (address_of a)) own in
    let value : value_at c.values (place_in k c.thread at) ≡ Some x.0 = ap (λ (b : Access). value_at c.values (place_in k c.thread (address_of b))) (sym is) ∙ x.1 in
    let got : r ≡ x.0 = recalls x.0 (ap (value_at c.values) there ∙ value) in
    let low : nat_lt at (2 ^ 64) ≡ true = below at (subst (λ (b : Access). address_of b < 2 ^ 64) is small) in
    let knows : known k c at ≡ x.0 = ap (λ (b : Bool). if b then or_zero (value_at c.values (place_in k c.thread at)) else 0) low ∙ ap or_zero value in
    ap (λ (b : Access). answer_at b r) is ∙ ap Value (got ∙ sym knows) ∙ sym (ap (λ (b : Access). answer_on b (known k c)) is)
  where
    below : (n : ℕ) → n < 2 ^ 64 → nat_lt n (2 ^ 64) ≡ true
    below n small = grind (arith, nat_tests)

module _ (k : Layout') (c : Card) (is : IsCardOf k c) where
  abbrev pub t : ℕ
  t = c.thread

  base_low : base_of k t ≤ 1000000000
  base_low = low k t is.layout is.first is.thread

  place_other : (a x : ℕ) → a < 2 ^ 64 → x < 2 ^ 64 → x ≢ a → place_in k t x ≢ place_in k t a
  place_other a x small few other same = other (places_differ (base_of k t) a x base_low small few same)

  -- a load changes nothing
  same_after : (w : ℕ → ℕ) (at x : ℕ) → w x ≡ after (access.Load at) w x
  same_after w at x = both (x == at)
    where
      both : (b : Bool) → w x ≡ (if b then w x else w x)
      both true = refl
      both false = refl

  known_here : (a v : ℕ) → a < 2 ^ 64 → known k (knowing c (place_in k t a) v) a ≡ v
  known_here a v small = subst (λ (b : Bool). (if b then or_zero (value_at (put_value c.values (place_in k t a) (Some v)) (place_in k t a)) else 0) ≡ v) (sym (below a small)) (ap or_zero (value_put c.values (place_in k t a) (Some v)))
    where
      below : (a : ℕ) → a < 2 ^ 64 → nat_lt a (2 ^ 64) ≡ true
      below a small = grind (arith, nat_tests)

  known_else : (a v x : ℕ) → a < 2 ^ 64 → x ≢ a → known k (knowing c (place_in k t a) v) x ≡ known k c x
  known_else a v x small other = both (nat_lt x (2 ^ 64)) refl
    where
      lower : nat_lt x (2 ^ 64) ≡ true → x < 2 ^ 64
      lower e = grind (arith, nat_tests)

      both : (b : Bool) → nat_lt x (2 ^ 64) ≡ b
          → (if b then or_zero (value_at (put_value c.values (place_in k t a) (Some v)) (place_in k t x)) else 0) ≡ (if b then or_zero (value_at c.values (place_in k t x)) else 0)
      both true e = ap or_zero (value_put_else c.values (place_in k t a) (place_in k t x) (Some v) (place_other a x small (lower e) other))
      both false e = refl

  stored_after : (a v x : ℕ) → a < 2 ^ 64 → known k (knowing c (place_in k t a) v) x ≡ after (access.Store a v) (known k c) x
  stored_after a v x small = dite (ℕ_discrete x a)
      (λ here. ap (known k (knowing c (place_in k t a) v)) here ∙ known_here a v small ∙ sym (ap (λ (b : Bool). if b then v else known k c x) (test_true here)))
      (λ other. known_else a v x small other ∙ sym (ap (λ (b : Bool). if b then v else known k c x) (test_false other)))
    where
      test_true : x ≡ a → (x == a) ≡ true
      test_true e = grind (arith, nat_tests)

      test_false : x ≢ a → (x == a) ≡ false
      test_false other = grind (arith, nat_tests)

  -- what it knows after one of its own accesses is what that leaves
  known_after : (a : Access) → IsLoadOrStore a → address_of a < 2 ^ 64 → known k (own_after k c a) ≡ after a (known k c)
  known_after (access.Load at) kind small = fun_ext (same_after (known k c) at)
  known_after (access.Store at v) kind small = fun_ext (λ x. stored_after at v x small)
  known_after a kind small = absurd kind

  -- the offset is at no place that is written
  offset_apart : (p : ℕ) → IsOwn k c p → head_place t + 1 ≢ p
  offset_apart p (inl e) same = absurd (omega arith)
  offset_apart p (inr (inl e)) same = absurd (omega arith)
  offset_apart p (inr (inr (m, inside, inl e, held))) same = let last = is.thread in absurd (omega arith)
  offset_apart p (inr (inr (m, inside, inr e, held))) same = let last = is.thread in absurd (omega arith)

  knows_stored : (p v : ℕ) → IsOwn k c p → KnowsOwn k c → KnowsOwn k (knowing c p v)
  knows_stored p v mine all = record {
    each = λ q own. dite (ℕ_discrete q p)
        (λ here. (v, ap (value_at (put_value c.values p (Some v))) here ∙ value_put c.values p (Some v)))
        (λ other. let x = all.each q own in (x.0, value_put_else c.values p q (Some v) other ∙ x.1));
    offset = value_put_else c.values p (head_place t + 1) (Some v) (offset_apart p mine) ∙ all.offset;
  }

  knows_after : (a : Access) → IsOwn k c (place_in k t (address_of a)) → KnowsOwn k c → KnowsOwn k (own_after k c a)
  knows_after (access.Store at v) mine all = knows_stored (place_in k t at) v mine all
  knows_after a mine all = all

  module _ (m : ℕ) (p : Whole) (call : IsInCall k c m p) where
    there : IsThere k t m
    there = record { layout = is.layout; first = is.first; last = is.thread; mutex = call.inside }

    -- wherever it dies, all that it holds will be found
    pub mortal : IsMortal k c
    mortal = record { knows = call.knows; list = right.in_a_call k t (owns_in k c) m p.operation p.phase (known k c) there call.list }

    still_on : (o : _) → IsCallOn k t m (whole_moved p o)
    still_on o = record { thread = call.of.thread; head = call.of.head; entry = call.of.entry; cell = call.of.cell }

    module _ (own : IsOwnAccess p.phase) where
      abbrev pub a : Access
      a = whole_access p

      led : IsOwnAddress k t (owns_in k c) (address_of a) × Arrives k t (owns_in k c) m p.operation (whole_led p (answer_on a (known k c))).phase (after a (known k c))
      led = right.own_words k t (owns_in k c) m p (known k c) there call.of own call.list

      -- the access is at one of its own words
      pub at_own : IsOwn k c (place_in k t (address_of a))
      at_own = subst (IsOwn k c) (sym led.0.back) led.0.own

      pub own_low : address_of a < 2 ^ 64
      own_low = let from = led.0.from in let base = base_low in omega (arith, from)

      came : Arrives k t (owns_in k c) m p.operation (whole_led p (answer_on a (known k c))).phase (known k (own_after k c a))
      came = subst (Arrives k t (owns_in k c) m p.operation (whole_led p (answer_on a (known k c))).phase) (sym (known_after a (is_load_or_store p own) own_low)) led.1

      same_seen : (b : Access) → ((own_after k c b).thread ≡ t) × (owns_in k (own_after k c b) ≡ owns_in k c)
      same_seen (access.Store at v) = (refl, refl)
      same_seen b = (refl, refl)

      -- it is in its call still, or has returned
      pub goes_own : IsUnderWay (whole_led p (answer_on a (known k c))).phase → IsInCall k (own_after k c a) m (whole_moved p (whole_led p (answer_on a (known k c))))
      goes_own going = record {
        inside = call.inside;
        knows = knows_after a at_own call.knows;
        of = subst (λ (z : ℕ). IsCallOn k z m (whole_moved p (whole_led p (answer_on a (known k c))))) (sym (same_seen a).0) (still_on (whole_led p (answer_on a (known k c))));
        list = subst (λ (z : ℕ × (ℕ → Bool)). KeepsList k z.0 z.1 m p.operation (whole_led p (answer_on a (known k c))).phase (known k (own_after k c a))) (λ i. (sym (same_seen a).0 i, sym (same_seen a).1 i))
            (keeps_on k t (owns_in k c) m p.operation (whole_led p (answer_on a (known k c))).phase (known k (own_after k c a)) going came);
      }

      pub ends_own : (x : Reply) → (whole_led p (answer_on a (known k c))).phase ≡ Ended x → IsAlive k (own_after k c a)
      ends_own x ended = record {
        knows = knows_after a at_own call.knows;
        list = subst (λ (z : ℕ × (ℕ → Bool)). HasList k z.0 z.1 (known k (own_after k c a))) (λ i. (sym (same_seen a).0 i, sym (same_seen a).1 i))
            (ends_so k t (owns_in k c) m p.operation (whole_led p (answer_on a (known k c))).phase x (known k (own_after k c a)) ended came);
      }

    -- ---- at the cell

    module _ (at : IsAtCell p.phase) where
      abbrev pub z : Standing
      z = standing_of p

      here : KeepsList k t (owns_in k c) m p.operation (AtCell z.row) (known k c)
      here = subst (λ (f : Phase). KeepsList k t (owns_in k c) m p.operation f (known k c)) (cell_phase p at) call.list

      pub its_operation : row_operation z.row ≡ p.operation
      its_operation = here.stands.1

      -- a section changes nothing that the thread owns or knows
      module _ (x : Answer) (fits : IsAnswerOf (access_of z) x) where
        section : Passes p.thread z.row x
        section = passes p.thread p.cell z.row x fits

        answered : Arrives k t (owns_in k c) m p.operation (whole_led p x).phase (known k c)
        answered = right.at_the_cell k t (owns_in k c) (owns_in k c) m p z.row x (known k c) (known k c) there call.of (cell_phase p at) here record {
          here = sym (ap (owns_after (owns_in k c m) p.operation) section.pointless ∙ none_owns (owns_in k c m) p.operation);
          elsewhere = λ l other. refl;
          took = λ y some taken. let none = section.pointless in absurd (cc (some, none));
          releases = section.releases (owns_in k c m);
          faultless = section.faultless;
        } (λ q own own'. refl)

        pub goes_answered : IsUnderWay (whole_led p x).phase → IsInCall k c m (whole_moved p (whole_led p x))
        goes_answered going = record { inside = call.inside; knows = call.knows; of = still_on (whole_led p x); list = keeps_on k t (owns_in k c) m p.operation (whole_led p x).phase (known k c) going answered }

        pub ends_answered : (y : Reply) → (whole_led p x).phase ≡ Ended y → IsAlive k c
        ends_answered y ended = record { knows = call.knows; list = ends_so k t (owns_in k c) m p.operation (whole_led p x).phase y (known k c) ended answered }

      -- a step
      module _ (d : Card) (n : ℕ) (going : IsGoing z.row) (stepping : IsStep (access_of z)) (ready : Ready z c) (made : Made z (cell_place k m) c n d) (kept : OwnKept k c d) where
        abbrev led_to : Led
        led_to = led_at z n

        abbrev old : Object
        old = object_of (fields_of n)

        abbrev new : Object
        new = object_of (fields_of (changed (access_of z) n))

        lawful : Right t z.cell z.row led_to n (changed (access_of z) n)
        lawful = made_right z (cell_place k m) c d n going stepping ready made

        point : decided led_to.row ≡ led_to.point
        point = made_point z (cell_place k m) c d n going stepping ready made

        holds_here : owns_in k d m ≡ owns_after (owns_in k c m) (row_operation z.row) led_to.point
        holds_here =
            ap (λ (u : ℕ). holds u (Rattle.ruledwords.specs.Cards.at d.seen (cell_place k m))) made.sees.thread
            ∙ ap (held_after false) made.sees.own ∙ held_append false (by t (Rattle.ruledwords.specs.Cards.at c.seen (cell_place k m))) _
            ∙ point_owns (owns_in k c m) t (cell_place k m) (row_operation z.row) led_to.point (mutex_operation z.row)

        owned_then : owns_in k d m ≡ is_thread t new.owner
        owned_then = ap (λ (u : ℕ). holds u (Rattle.ruledwords.specs.Cards.at d.seen (cell_place k m))) made.sees.thread ∙ owner_held t fresh (Rattle.ruledwords.specs.Cards.at d.seen (cell_place k m)) new made.sees.leaves.0

        frees_own : (r : Row) → led_to.row ≡ r → OwnsAt (owns_in k c m) r
        frees_own (row.Unlock (unlock.Release died)) e =
            let mine = subst (λ (r : Row). Expects t r new) e lawful.expects in
            let none : led_to.point ≡ None = sym point ∙ ap decided e in
            sym (ap (owns_after (owns_in k c m) (row_operation z.row)) none ∙ none_owns (owns_in k c m) (row_operation z.row)) ∙ sym holds_here ∙ owned_then ∙ owner_told t new mine.0
        frees_own (row.Unlock unlock.Load) e = tt
        frees_own (row.Unlock (unlock.Wake all)) e = tt
        frees_own (row.Unlock unlock.Trim) e = tt
        frees_own (row.Lock r) e = tt
        frees_own (row.TryLock r) e = tt
        frees_own (row.Consistent r) e = tt
        frees_own (row.Ended x) e = tt

        takes_free : (y : Reply) → led_to.point ≡ Some y → owns_after false p.operation (Some y) ≡ true → owns_in k c m ≡ false
        takes_free y some taken =
            let runs = subst (λ (s : Option Reply). Run old (points (point_of t z.cell (row_operation z.row) s)) new) some lawful.runs in
            made.holder ∙ ap (is_thread t) (taken_free old runs.0 t (row_operation z.row) y runs.1 (ap (λ (op : Operation). owns_after false op (Some y)) its_operation ∙ taken))

        no_fault : led_to.row ≢ row.Ended EFAULT
        no_fault e =
            let some : led_to.point ≡ Some EFAULT = sym point ∙ ap decided e in
            let runs = subst (λ (s : Option Reply). Run old (points (point_of t z.cell (row_operation z.row) s)) new) some lawful.runs in
            fault_never old runs.0 t (row_operation z.row) runs.1

        agree : AgreeOnOwn k t (owns_in k c) (owns_in k d) (known k c) (known k d)
        agree q own own' =
            let same = made.sees.thread in
            let inside = (own_place k c q (is.first, is.thread) own).2 in
            let back : place_in k t (address_in k t q) ≡ q = again k t is.layout is.first is.thread q inside in
            ap (λ (v : Option ℕ). if nat_lt (address_in k t q) (2 ^ 64) then or_zero v else 0)
            (ap (value_at d.values) (ap (λ (u : ℕ). place_in k u (address_in k t q)) same ∙ back) ∙ kept.agrees q own (subst (λ (u : ℕ). IsOwnPlace k u (owns_in k d) q) (sym same) own') ∙ ap (value_at c.values) (sym back))

        stepped : Arrives k t (owns_in k d) m p.operation (whole_led p (answer_at (access_of z) n)).phase (known k d)
        stepped = right.at_the_cell k t (owns_in k c) (owns_in k d) m p z.row (answer_at (access_of z) n) (known k c) (known k d) there call.of (cell_phase p at) here record {
          here = holds_here ∙ ap (λ (op : Operation). owns_after (owns_in k c m) op led_to.point) its_operation;
          elsewhere = λ l other. ap (λ (u : ℕ). holds u (Rattle.ruledwords.specs.Cards.at d.seen (cell_place k l))) made.sees.thread ∙ ap (holds t) (made.sees.elsewhere (cell_place k l) (other_cell k m l other));
          took = takes_free;
          releases = frees_own led_to.row refl;
          faultless = no_fault;
        } agree

        pub goes_made : IsUnderWay (whole_led p (answer_at (access_of z) n)).phase → IsInCall k d m (whole_moved p (whole_led p (answer_at (access_of z) n)))
        goes_made under = subst (λ (u : ℕ). IsCallOn k u m (whole_moved p (whole_led p (answer_at (access_of z) n)))
            × KeepsList k u (owns_in k d) m p.operation (whole_led p (answer_at (access_of z) n)).phase (known k d) → IsInCall k d m (whole_moved p (whole_led p (answer_at (access_of z) n))))
            made.sees.thread (λ both. record { inside = call.inside; knows = kept.knows call.knows; of = both.0; list = both.1 })
            (still_on (whole_led p (answer_at (access_of z) n)), keeps_on k t (owns_in k d) m p.operation (whole_led p (answer_at (access_of z) n)).phase (known k d) under stepped)

        pub ends_made : (y : Reply) → (whole_led p (answer_at (access_of z) n)).phase ≡ Ended y → IsAlive k d
        ends_made y ended = subst (λ (u : ℕ). HasList k u (owns_in k d) (known k d) → IsAlive k d) made.sees.thread (λ list. record { knows = kept.knows call.knows; list = list })
            (ends_so k t (owns_in k d) m p.operation (whole_led p (answer_at (access_of z) n)).phase y (known k d) ended stepped)

-- a look or a trim leaves its words as it knows them
pub call_noted : (k : Layout') (c : Card) (n s : ℕ) (zs : List (List Change)) (m : ℕ) (p : Whole) → IsInCall k c m p → IsInCall k (noted c n s zs) m p
call_noted k c n s zs m p call = record { inside = call.inside; knows = record { each = call.knows.each; offset = call.knows.offset }; of = call.of; list = call.list }

-- a call that begins
pub call_begins : (k : Layout') (c : Card) → IsCardOf k c → IsAlive k c → (call : Call) (p : Whole) → mutex_of call < k.mutexes → p ≡ begins k c.thread call → IsInCall k c (mutex_of call) p
call_begins k c is alive call p inside begun = subst (IsInCall k c (mutex_of call)) (sym begun) record {
  inside = inside;
  knows = alive.knows;
  of = record { thread = refl; head = refl; entry = refl; cell = refl };
  list = right.begins_so k c.thread (owns_in k c) call (known k c) record { layout = is.layout; first = is.first; last = is.thread; mutex = inside } alive.list;
}

-- ---- empty lists

-- a thread that owns nothing, and whose head leads to itself with nothing pending, has an empty list
pub alive_empty : (k : Layout') (c : Card) → IsLayout k → 1 ≤ c.thread → c.thread ≤ k.threads → OwnsNothing k (owns_in k c)
    → value_at c.values (head_place c.thread) ≡ Some (address_in k c.thread (head_place c.thread)) → value_at c.values (head_place c.thread + 1) ≡ Some cell_offset → value_at c.values (head_place c.thread + 2) ≡ Some 0 → IsAlive k c
alive_empty k c layout first inside none at_head at_offset at_pending = record {
  knows = record { each = each; offset = at_offset };
  list = record {
    entries = [];
    owned = record { each = λ x among. absurd among; all = λ m low own out. absurd (let nobody = none m low in cc (nobody, own)) };
    chain = record {
      chain = record { leads = here (head_place t) (omega arith) (address_in k t (head_place t)) at_head; different = (tt, tt) };
      back = tt;
      places = (
        ((λ e. differ 0 1 (omega arith) (omega arith) (λ bad. cc) (head_is ∙ e ∙ word 1 (omega arith))), ((λ e. differ 0 2 (omega arith) (omega arith) (λ bad. cc) (head_is ∙ e ∙ word 2 (omega arith))), tt)),
        (((λ e. differ 1 2 (omega arith) (omega arith) (λ bad. cc) (sym (word 1 (omega arith)) ∙ e ∙ word 2 (omega arith))), tt), (tt, tt)),
      );
    };
    pending = ap (known k c) (further_on k t layout first inside (head_place t) 2 (omega arith)) ∙ here (head_place t + 2) (omega arith) 0 at_pending;
  };
} where
  t : ℕ
  t = c.thread

  word : (n : ℕ) → n < 3 → address_sum (address_in k t (head_place t)) n ≡ address_in k t (head_place t + n)
  word n few = further_on k t layout first inside (head_place t) n (omega arith)

  head_is : address_in k t (head_place t + 0) ≡ address_in k t (head_place t)
  head_is = ap (address_in k t) (let e : head_place t + 0 ≡ head_place t = omega arith in e)

  differ : (i j : ℕ) → i < 3 → j < 3 → i ≢ j → address_in k t (head_place t + i) ≢ address_in k t (head_place t + j)
  differ i j few less other e = let same = same_place k t layout first inside (head_place t + i) (head_place t + j) (omega arith) (omega arith) e in other (omega (arith, same))

  here : (p : ℕ) → p < words_of k → (x : ℕ) → value_at c.values p ≡ Some x → known k c (address_in k t p) ≡ x
  here p below x is =
      let small : nat_lt (address_in k t p) (2 ^ 64) ≡ true = lower (address_in k t p) (omega arith) in
      ap (λ (b : Bool). if b then or_zero (value_at c.values (place_in k t (address_in k t p))) else 0) small
      ∙ ap (λ (q : ℕ). or_zero (value_at c.values q)) (again k t layout first inside p below) ∙ ap or_zero is
    where
      lower : (n : ℕ) → n < 2 ^ 64 → nat_lt n (2 ^ 64) ≡ true
      lower n small = grind (arith, nat_tests)

  each : (p : ℕ) → IsOwn k c p → (x : ℕ) × (value_at c.values p ≡ Some x)
  each p (inl e) = (address_in k t (head_place t), ap (value_at c.values) e ∙ at_head)
  each p (inr (inl e)) = (0, ap (value_at c.values) e ∙ at_pending)
  each p (inr (inr (m, low, link, own))) = absurd (let nobody = none m low in cc (nobody, own))

-- at first nobody owns a mutex, and each head is an empty list
pub alive_first : (k : Layout') (counters : List ℕ) (t : ℕ) → IsLayout k → 1 ≤ t → t ≤ k.threads → IsAlive k (first_card k counters t)
alive_first k counters t layout first inside = alive_empty k (first_card k counters t) layout first inside (λ m low. refl) at_head at_offset at_pending where
  at_head : value_at (first_values k t) (head_place t) ≡ Some (address_in k t (head_place t))
  at_head =
      value_put_else (put_value (put_value [] (head_place t) (Some (address_in k t (head_place t)))) (head_place t + 1) (Some cell_offset)) (head_place t + 2) (head_place t) (Some 0) (λ e. absurd (omega arith))
      ∙ value_put_else (put_value [] (head_place t) (Some (address_in k t (head_place t)))) (head_place t + 1) (head_place t) (Some cell_offset) (λ e. absurd (omega arith))
      ∙ value_put [] (head_place t) (Some (address_in k t (head_place t)))

  at_offset : value_at (first_values k t) (head_place t + 1) ≡ Some cell_offset
  at_offset =
      value_put_else (put_value (put_value [] (head_place t) (Some (address_in k t (head_place t)))) (head_place t + 1) (Some cell_offset)) (head_place t + 2) (head_place t + 1) (Some 0) (λ e. absurd (omega arith))
      ∙ value_put (put_value [] (head_place t) (Some (address_in k t (head_place t)))) (head_place t + 1) (Some cell_offset)

  at_pending : value_at (first_values k t) (head_place t + 2) ≡ Some 0
  at_pending = value_put (put_value (put_value [] (head_place t) (Some (address_in k t (head_place t)))) (head_place t + 1) (Some cell_offset)) (head_place t + 2) (Some 0)

-- who lives again
pub card_anew : (k : Layout') (c : Card) → IsCardOf k c → IsCardOf k (renewed k c)
card_anew k c is = record { layout = is.layout; threads = is.threads; first = is.first; thread = is.thread; base = is.base; legal = is.legal }

pub alive_anew : (k : Layout') (c : Card) → IsCardOf k c → KnowsOwn k c → OwnsNothing k (owns_in k c) → IsAlive k (renewed k c)
alive_anew k c is knows none = alive_empty k (renewed k c) is.layout is.first is.thread none at_head at_offset at_pending where
  h : ℕ
  h = head_place c.thread

  first : List (Option ℕ)
  first = put_value c.values h (Some (address_in k c.thread h))

  at_head : value_at (put_value first (h + 2) (Some 0)) h ≡ Some (address_in k c.thread h)
  at_head = value_put_else first (h + 2) h (Some 0) (λ e. absurd (omega arith)) ∙ value_put c.values h (Some (address_in k c.thread h))

  at_offset : value_at (put_value first (h + 2) (Some 0)) (h + 1) ≡ Some cell_offset
  at_offset = value_put_else first (h + 2) (h + 1) (Some 0) (λ e. absurd (omega arith)) ∙ value_put_else c.values h (h + 1) (Some (address_in k c.thread h)) (λ e. absurd (omega arith)) ∙ knows.offset

  at_pending : value_at (put_value first (h + 2) (Some 0)) (h + 2) ≡ Some 0
  at_pending = value_put first (h + 2) (Some 0)

-- ---- who met another

pub met_stays : (k : Layout') (c d : Card) (s : List (List Point)) → d ≡ record c { seen = s } → ((p : ℕ) → by c.thread (Rattle.ruledwords.specs.Cards.at s p) ≡ by c.thread (Rattle.ruledwords.specs.Cards.at c.seen p)) → StaysSo k c d
met_stays k c d s is own = subst (StaysSo k c) (sym is) (
  (λ alive. record { knows = knows alive.knows; list = subst (λ (owns : ℕ → Bool). HasList k c.thread owns (known k c)) (sym same) alive.list }),
  (λ mortal. record { knows = knows mortal.knows; list = subst (λ (owns : ℕ → Bool). CanBeWalked k c.thread owns (known k c)) (sym same) mortal.list }),
) where
  same : owns_in k (record c { seen = s }) ≡ owns_in k c
  same = fun_ext (λ m. ap (held_after false) (own (cell_place k m)))

  knows : KnowsOwn k c → KnowsOwn k (record c { seen = s })
  knows all = record { each = λ p mine. all.each p (subst (λ (owns : ℕ → Bool). IsOwnPlace k c.thread owns p) same mine); offset = all.offset }
