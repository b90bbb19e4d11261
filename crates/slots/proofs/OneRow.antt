-- One row whole: an heir's exchange that takes the cell.
use Rattle.std.proofs.Common.{◌≡◌, ◌≢◌, ℕ, ◌+◌, ◌<◌, ◌==◌, Bool, true, false, [], ◌∷◌, refl, sym, ap, ◌∙◌, subst, arith, eq-eqb, eqb-true}
use Rattle.std.specs.Prelude.{if◌then◌else◌, ◌&&◌, ◌*◌, ◌/◌, ◌%◌}
use Rattle.std.proofs.lemmas.Bool.Decides.{nat_tests}
use Rattle.lockword.specs.Cells.{bit}
use Rattle.stepprograms.specs.declared.access.Access.{Access}
use Rattle.memorymap.specs.Layouts.{Layout', cell_place, place_in}
use Rattle.mutex.specs.Rows.{acquired}
use Rattle.lockword.specs.Cells.{fields_of}
use Rattle.protocol.specs.declared.event.Event.TheVariants.{Step}
use Rattle.protocol.specs.Machine.{State, put, is_valid, words_after, queues_after}
use Rattle.protocol.proofs.Kept.{Kept}
use Rattle.protocol.proofs.Puts.{by_put}
use Rattle.protocol.proofs.Seeing.{cell_in, cell_again}
use Rattle.slots.specs.Places.{cell_of, our_own}
use Rattle.slots.specs.Rows.{Choice, Taking, Row}
use Rattle.slots.specs.Rows.Onward.{Fails, Sleeps}
use Rattle.lockword.specs.declared.reply.Reply.TheVariants.{ETIMEDOUT}
use Rattle.slots.specs.Shown.{Slots, after, memory, shown}
use Rattle.slots.specs.Words.{is_free, taken_word}
use Rattle.slots.specs.Seen.{expires}
use Rattle.slots.specs.Table.{Made, made}
use Rattle.slots.specs.Runs.{awake_after, slept_after, turns_after}
use Rattle.slots.specs.Invariant.{fields_at}
use Rattle.slots.specs.Moments.{IsAtLock, HeirTakesAreEvents, LastLooksAreEvents}
use Rattle.slots.proofs.Free.{reached_kept}
use Rattle.slots.proofs.HeirRows.{free_word}
use Rattle.slots.proofs.MomentsShown.{gives_up_looks, takes_the_exchange}
use Rattle.slots.proofs.Trims.{no_slot, shown_at}

-- a cell's place is valid
cell_valid : (l : Layout') (k : ℕ) → k < l.mutexes → is_valid l (cell_place l k) ≡ true
cell_valid l k inside = grind (arith, nat_tests)

-- an exchange that is met, of a word that is as expected
exchanges : (s : State) (t at e n pl : ℕ) → place_in s.layout t at ≡ pl → is_valid s.layout pl ≡ true → s.words pl ≡ e → (p : ℕ) → put s.words pl n p ≡ words_after s t (Access.Exchange at e n) p
exchanges s t at e n pl place valid same p =
    ap (λ (b : Bool). put s.words pl (if b then n else s.words pl) p) (sym (eq-eqb (s.words pl) e same))
    ∙ ap (λ (b : Bool). (if b then put s.words pl (if s.words pl == e then n else s.words pl) else s.words) p) (sym valid)
    ∙ ap (λ (x : ℕ). (if is_valid s.layout x then put s.words x (if s.words x == e then n else s.words x) else s.words) p) (sym place)

keeps_queues : (s : State) (t at e n : ℕ) (p : ℕ) → s.queues p ≡ queues_after s t (Access.Exchange at e n) p
keeps_queues s t at e n p = go (is_valid s.layout (place_in s.layout t at))
  where
    go : (b : Bool) → s.queues p ≡ (if b then put s.queues (place_in s.layout t at) (s.queues (place_in s.layout t at)) else s.queues) p
    go true = by_put (λ q. s.queues p ≡ q) s.queues (place_in s.layout t at) (s.queues (place_in s.layout t at)) p (λ here. ap s.queues here) (λ apart. refl)
    go false = refl

module _ (x : Slots) (t : ℕ) (c : Choice) (k : Taking) (v : ℕ) (a : IsAtLock x.machine t (cell_of k.mutex)) (room : (fields_at x.machine (cell_of k.mutex)).rest ≡ 0) (row : x.rows t ≡ Row.HeirTakes k v) (free : is_free v ≡ true) (found : shown x (cell_place x.machine.layout (cell_of k.mutex)) ≡ v) where
  abbrev m : ℕ
  m = cell_of k.mutex

  abbrev pl : ℕ
  pl = cell_place x.machine.layout m

  abbrev at : ℕ
  at = cell_in x.machine.layout t m

  inv : Kept x.machine
  inv = reached_kept x.machine a.reached

  place : place_in x.machine.layout t at ≡ pl
  place = cell_again x.machine.layout t inv.layout a.first a.last m a.inside

  shows : shown x pl ≡ x.machine.words pl + 0 + x.turns m * 8589934592
  shows = shown_at x m a.inside ∙ ap (λ (b : Bool). x.machine.words pl + bit (b && x.awake (our_own m)) 4294967296 + x.turns m * 8589934592) (no_slot k.mutex)

  abbrev goes : Made
  goes = record { access = Access.Exchange at v (taken_word v t); events = Step t ∷ Step t ∷ []; next = Row.HeirHas k (acquired (fields_of v)) }

  made_is : made x t c (Row.HeirTakes k v) ≡ goes
  made_is = grind (arith, eq-eqb (shown x pl) v found)

  -- memory then
  taken : ((p : ℕ) → shown (after x (Step t ∷ Step t ∷ [])) p ≡ put (shown x) pl (taken_word (shown x pl) t) p) × ((key : ℕ) → (after x (Step t ∷ Step t ∷ [])).machine.queues key ≡ x.machine.queues key)
  taken =
      let both = free_word (x.machine.words pl) (x.turns m) room (ap is_free (sym shows ∙ found) ∙ free) in
      takes_the_exchange x t m a both.0 both.1 room (no_slot k.mutex)

  abbrev Is : Row → Made → Type 0
  Is r g = ((p : ℕ) → shown (record (after x g.events) { turns = turns_after r c (after x g.events).turns; awake = awake_after r x.awake; slept = slept_after r x.slept; rows = put x.rows t g.next }) p ≡ words_after (memory x) t g.access p)
      × ((p : ℕ) → (after x g.events).machine.queues p ≡ queues_after (memory x) t g.access p)

  it_is : Is (Row.HeirTakes k v) goes
  it_is = (
    λ p. taken.0 p ∙ ap (λ (n : ℕ). put (shown x) pl (taken_word n t) p) found ∙ exchanges (memory x) t at v (taken_word v t) pl place (cell_valid x.machine.layout m a.inside) found p,
    λ p. taken.1 p ∙ keeps_queues (memory x) t at v (taken_word v t) p,
  )

  all_is : Is (x.rows t) (made x t c (x.rows t))
  all_is = subst (λ (r : Row). Is r (made x t c r)) (sym row) (subst (Is (Row.HeirTakes k v)) (sym made_is) it_is)

pub heir_takes : HeirTakesAreEvents
heir_takes x t c k v a room row free found = let both = all_is x t c k v a room row free found in record { words = both.0; queues = both.1 }

-- ---- a look

-- what memory shows of a cell the machine's word says
record SaysAsShown (w v : ℕ) : Type 0 where
  owner : (fields_of v).owner ≡ (fields_of w).owner
  waiters : (fields_of v).waiters ≡ (fields_of w).waiters
  unusable : (fields_of v).unusable ≡ (fields_of w).unusable

says_as : (w n : ℕ) → w / 8589934592 ≡ 0 → SaysAsShown w (w + 0 + n * 8589934592)
says_as w n room = record {
  owner = omega arith;
  waiters = ap (λ (z : ℕ). z == 1) (let e : (w + 0 + n * 8589934592) / 2147483648 % 2 ≡ w / 2147483648 % 2 = omega arith in e);
  unusable = ap (λ (z : ℕ). z == 1) (let e : (w + 0 + n * 8589934592) / 4294967296 % 2 ≡ w / 4294967296 % 2 = omega arith in e);
}

loads : (s : State) (t at : ℕ) (p : ℕ) → s.words p ≡ words_after s t (Access.Load at) p
loads s t at p = go (is_valid s.layout (place_in s.layout t at))
  where
    go : (b : Bool) → s.words p ≡ (if b then put s.words (place_in s.layout t at) (s.words (place_in s.layout t at)) else s.words) p
    go true = by_put (λ v. s.words p ≡ v) s.words (place_in s.layout t at) (s.words (place_in s.layout t at)) p (λ here. ap s.words here) (λ apart. refl)
    go false = refl

load_queues : (s : State) (t at : ℕ) (p : ℕ) → s.queues p ≡ queues_after s t (Access.Load at) p
load_queues s t at p = go (is_valid s.layout (place_in s.layout t at))
  where
    go : (b : Bool) → s.queues p ≡ (if b then put s.queues (place_in s.layout t at) (s.queues (place_in s.layout t at)) else s.queues) p
    go true = by_put (λ q. s.queues p ≡ q) s.queues (place_in s.layout t at) (s.queues (place_in s.layout t at)) p (λ here. ap s.queues here) (λ apart. refl)
    go false = refl

not_equal : (a b : ℕ) → a ≢ b → (a == b) ≡ false
not_equal a b apart = go (a == b) refl
  where
    go : (y : Bool) → (a == b) ≡ y → y ≡ false
    go false e = refl
    go true e = absurd (apart (eqb-true a b e))

module _ (x : Slots) (t : ℕ) (c : Choice) (k : Taking) (a : IsAtLock x.machine t (cell_of k.mutex)) (room : (fields_at x.machine (cell_of k.mutex)).rest ≡ 0) (row : x.rows t ≡ Row.LastLooks k)
    (usable : (fields_of (shown x (cell_place x.machine.layout (cell_of k.mutex)))).unusable ≡ false) (some : (fields_of (shown x (cell_place x.machine.layout (cell_of k.mutex)))).owner ≢ 0)
    (other : (fields_of (shown x (cell_place x.machine.layout (cell_of k.mutex)))).owner ≢ t) (waits : (fields_of (shown x (cell_place x.machine.layout (cell_of k.mutex)))).waiters ≡ true) where
  abbrev its : ℕ
  its = cell_of k.mutex

  abbrev spot : ℕ
  spot = cell_place x.machine.layout its

  shows_so : shown x spot ≡ x.machine.words spot + 0 + x.turns its * 8589934592
  shows_so = shown_at x its a.inside ∙ ap (λ (b : Bool). x.machine.words spot + bit (b && x.awake (our_own its)) 4294967296 + x.turns its * 8589934592) (no_slot k.mutex)

  says : SaysAsShown (x.machine.words spot) (shown x spot)
  says = subst (SaysAsShown (x.machine.words spot)) (sym shows_so) (says_as (x.machine.words spot) (x.turns its) room)

  abbrev looks : Made
  looks = record { access = Access.Load (cell_in x.machine.layout t its); events = expires t; next = if k.timed && c.yes then Row.Frees k (Fails ETIMEDOUT) else Row.Frees k Sleeps }

  look_is : made x t c (Row.LastLooks k) ≡ looks
  look_is = grind (arith, usable, not_equal (fields_of (shown x spot)).owner 0 some, waits)

  nothing_shown : ((p : ℕ) → shown (after x (expires t)) p ≡ shown x p) × ((key : ℕ) → (after x (expires t)).machine.queues key ≡ x.machine.queues key)
  nothing_shown = gives_up_looks x t its a (λ e. some (says.owner ∙ e)) (λ e. other (says.owner ∙ e)) (sym says.unusable ∙ usable) (sym says.waiters ∙ waits)

  abbrev Looks : Row → Made → Type 0
  Looks r g = ((p : ℕ) → shown (record (after x g.events) { turns = turns_after r c (after x g.events).turns; awake = awake_after r x.awake; slept = slept_after r x.slept; rows = put x.rows t g.next }) p ≡ words_after (memory x) t g.access p)
      × ((p : ℕ) → (after x g.events).machine.queues p ≡ queues_after (memory x) t g.access p)

  looks_so : Looks (Row.LastLooks k) looks
  looks_so = (
    λ p. nothing_shown.0 p ∙ loads (memory x) t (cell_in x.machine.layout t its) p,
    λ p. nothing_shown.1 p ∙ load_queues (memory x) t (cell_in x.machine.layout t its) p,
  )

  all_looks : Looks (x.rows t) (made x t c (x.rows t))
  all_looks = subst (λ (r : Row). Looks r (made x t c r)) (sym row) (subst (Looks (Row.LastLooks k)) (sym look_is) looks_so)

pub last_looks : LastLooksAreEvents
last_looks x t c k a room row usable some other waits = let both = all_looks x t c k a room row usable some other waits in record { words = both.0; queues = both.1 }
