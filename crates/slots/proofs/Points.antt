-- What each row's access does to our mutexes.
use Rattle.std.proofs.Common.{◌≡◌, ◌≢◌, ℕ, zero, suc, ◌+◌, ◌*◌, ◌/◌, ◌%◌, ◌<◌, ◌≤◌, ◌==◌, Bool, true, false, Some, None, List, [], ◌∷◌, ◌++◌, refl, sym, ap, ◌∙◌, subst, arith, eqb-true}
use Rattle.std.specs.Prelude.{if◌then◌else◌, not, ◌&&◌, ◌-◌, bit_and, bit_xor, nat_lt}
use Rattle.std.proofs.lemmas.Bool.{eqb-false}
use Rattle.lockword.specs.Cells.{Fields, fields_of, taken, word_of}
use Rattle.lockword.proofs.Bits.{and_declared, or_waiting}
use Rattle.lockword.specs.Threads.{most_threads}
use Rattle.lockword.specs.declared.reply.Reply.{Reply}
use Rattle.lockword.specs.declared.reply.Reply.TheVariants.{OK, EBUSY, EDEADLK, EINVAL, EPERM, ETIMEDOUT, EOWNERDEAD, ENOTRECOVERABLE, XSTATE}
use Rattle.stepprograms.specs.declared.access.Access.{Access}
use Rattle.stepprograms.specs.Accesses.{address_of}
use Rattle.memorymap.specs.Layouts.{Layout', address_in, cell_place, counter_place, head_place}
use Rattle.mutex.specs.Rows.{acquired}
use Rattle.mutex.specs.declared.call.Call.TheVariants.{Consistent, TimedLock, TryLock, Unlock}
use Rattle.condvar.specs.declared.op.Op.TheVariants.{OnMutex}
use Rattle.posixmutex.specs.declared.object.Object.{Object}
use Rattle.posixmutex.specs.declared.point.Decision.{Decision}
use Rattle.posixmutex.specs.declared.point.Operation.{Operation}
use Rattle.posixmutex.specs.declared.point.Operation.TheVariants as op
use Rattle.posixmutex.specs.Objects.{Permits, acquires, freed, object_of, owned_by, owner_of}
use Rattle.posixmutex.specs.Histories.{held_by}
use Rattle.posixmutex.proofs.Owners.{owner_of-is, owner_of-some}
use Rattle.protocol.specs.declared.event.Event.TheVariants.{Begin, Expire, Remake, Spare, Step}
use Rattle.protocol.specs.declared.event.LeftTo.TheVariants as left_to
use Rattle.protocol.specs.declared.thread.Stage.{Stage}
use Rattle.protocol.specs.Machine.{State, place_met, words_after}
use Rattle.protocol.proofs.Kept.{Kept}
use Rattle.protocol.proofs.Seeing.{cell_in}
use Rattle.slots.specs.Places.{cell_of, our_mutexes, slot_of}
use Rattle.slots.specs.Rows.{Choice, Giving, How, Row, Taking}
use Rattle.slots.specs.Rows.How.{Tried, Later, Waited}
use Rattle.slots.specs.Rows.Before.{Linked, Mended, Again}
use Rattle.slots.specs.Rows.Giving.{OfUnlock, OfWait}
use Rattle.slots.specs.Rows.Onward.{Fails}
use Rattle.slots.specs.Shown.{Slots, memory, shown}
use Rattle.slots.specs.Words.{is_free}
use Rattle.slots.specs.Seen.{begins_behind, heir_of, later}
use Rattle.slots.specs.Table.{Made, counted, given_row, gives, made, makes, marked_events, marked_row, missed, on_cell, out_of}
use Rattle.slots.specs.Words.{shows_heir, taken_word, waiting_word}
use Rattle.slots.specs.Seen.{seen_events, seen_row, sets_and_expires}
use Rattle.slots.specs.Table.{refused_count, shows_slept, wait_begins, watched_row}
use Rattle.slots.specs.Invariant.{fields_at}
use Rattle.slots.specs.Accesses.{IsAlongList}
use Rattle.slots.specs.Each.{Assumes, IsToRemake}
use Rattle.slots.specs.Further.{KnowsItsWord}
use Rattle.slots.specs.Fits.{Fits, GivesOurs, IsOurs}
use Rattle.slots.specs.Premises.{Holds, Owning, died_of}
use Rattle.slots.specs.Replies.{Deed, counts_as, decided, deed, gave, late, locks, looked, looked_first, looked_to_sleep, our_objects, points_in, refused_or, tried}
use Rattle.slots.specs.Replies.Deed.{Nothing, Decides, Refuses}
use Rattle.slots.proofs.HeldRows.{RoomAt}
use Rattle.protocol.proofs.Steps.{seen-inside}
use Rattle.slots.proofs.Leading.{by_test}
use Rattle.slots.proofs.Meets.{usable_if_owned}
use Rattle.slots.proofs.Owned.{our_cell, our_slot}
use Rattle.slots.proofs.OwnKeep as words
use Rattle.slots.proofs.ObjectWords.{declared_shows, free_says, released_shows, remade_shows, spoiled_shows, trimmed_shows, waiting_shows}
use Rattle.slots.proofs.OurObjects.{Told, does_it, few_ours, inside_if, not_ours, our_seen, our_shown, shows}
use Rattle.slots.proofs.ShownWords.{IsReading, taken_died, taken_is, taken_owner}

module _ (x y : Slots) (t : ℕ) (c : Choice) (inv : Kept x.machine) (pos : 1 ≤ t) (known : t ≤ x.machine.layout.threads) (small : t < 1073741824) (same : y.machine.layout ≡ x.machine.layout) where
  abbrev l : Layout'
  l = x.machine.layout

  abbrev z : State
  z = x.machine

  abbrev W : ℕ → ℕ
  W k = shown x (cell_place l k)

  abbrev V : ℕ → ℕ
  V k = shown y (cell_place l k)

  abbrev Is : Access → Type 0
  Is a = (p : ℕ) → shown y p ≡ words_after (memory x) t a p

  abbrev cell_at : ℕ → ℕ
  cell_at m = cell_in l t (cell_of m)

  abbrev slot_at : ℕ → ℕ
  slot_at m = cell_in l t (slot_of m)

  -- our mutexes before and after
  before : (m : ℕ) → IsOurs l m → our_objects z m ≡ shows (W (cell_of m))
  before m ours = our_shown x m ours

  behind : (m : ℕ) → IsOurs l m → our_objects y.machine m ≡ shows (V (cell_of m))
  behind m ours = our_shown y m (subst (λ (j : Layout'). IsOurs j m) (sym same) ours) ∙ ap (λ (j : Layout'). shows (shown y (cell_place j (cell_of m)))) same

  stays : (m : ℕ) → (IsOurs l m → shows (V (cell_of m)) ≡ shows (W (cell_of m))) → our_objects y.machine m ≡ our_objects z m
  stays m still = go (nat_lt m (our_mutexes l)) refl
    where
      go : (b : Bool) → nat_lt m (our_mutexes l) ≡ b → our_objects y.machine m ≡ our_objects z m
      go true e = let ours = inside_if m (our_mutexes l) e in behind m ours ∙ still ours ∙ sym (before m ours)
      go false e = not_ours y.machine m (ap (λ (j : Layout'). nat_lt m (our_mutexes j)) same ∙ e) ∙ sym (not_ours z m e)

  abbrev AllKeep : Type 0
  AllKeep = (k : ℕ) → k < l.mutexes → V k ≡ W k

  abbrev Tells : Deed → Type 0
  Tells e = Told z (points_in e) y.machine

  nothing_if : AllKeep → Tells Nothing
  nothing_if all m = stays m (λ ours. ap shows (all (cell_of m) (our_cell l m ours)))

  -- without events, the machine is as it was
  none_if : y.machine ≡ z → Tells Nothing
  none_if e m = ap (λ (s : State). our_objects s m) e

  -- a point of mutex m
  abbrev May : Operation → Type 0
  May o = acquires o ≡ true → (z.threads t).held < 2048

  point : (m : ℕ) (o : Operation) (r : Reply) → IsOurs l m → May o → ((j : ℕ) → IsOurs l j → j ≢ m → V (cell_of j) ≡ W (cell_of j)) → Permits (shows (W (cell_of m))) t o r (shows (V (cell_of m))) → Told z (decided t m o r ∷ []) y.machine
  point m o r ours may others permits = (
    ours,
    does_it (held_by t (our_objects z) (our_mutexes l)) t (our_objects z m) (our_objects y.machine m) o r
        (λ acq. let few = few_ours z t inv pos known in let room = may acq in omega (arith, few, room))
        (subst (λ (a : Object). Permits a t o r (our_objects y.machine m)) (sym (before m ours)) (subst (λ (b : Object). Permits (shows (W (cell_of m))) t o r b) (sym (behind m ours)) permits)),
    (λ j apart. stays j (λ o. ap shows (others j o apart))),
    refl,
  )

  -- one that changes nothing
  refused : (m : ℕ) (o : Operation) (r : Reply) → IsOurs l m → May o → AllKeep → Permits (shows (W (cell_of m))) t o r (shows (W (cell_of m))) → Told z (decided t m o r ∷ []) y.machine
  refused m o r ours may all permits = point m o r ours may (λ j o apart. all (cell_of j) (our_cell l j o)) (subst (λ (v : ℕ). Permits (shows (W (cell_of m))) t o r (shows v)) (sym (all (cell_of m) (our_cell l m ours))) permits)

  -- ---- which accesses leave all words as they are

  reading : (a : Access) → IsReading a → Is a → AllKeep
  reading a r is = words.by_reading x y t c inv pos known small same a r is

  pending : (e : ℕ) → Is (Access.Store (address_in l t (head_place t + 2)) e) → Tells Nothing
  pending e is = nothing_if (words.by_pending x y t c inv pos known small same e is)

  missed_all : (m v n : ℕ) → IsOurs l m → (W (cell_of m) == v) ≡ false → Is (Access.Exchange (cell_at m) v n) → AllKeep
  missed_all m v n ours e is = words.by_miss x y t c inv pos known small same (cell_of m) v n (our_cell l m ours) e is

  on_list : (r : Row) → ((k : ℕ) → k < l.mutexes → cell_place l k ≢ place_met l t (made x t c r).access) → Is (made x t c r).access → Tells Nothing
  on_list r apart is = nothing_if (words.by_place x y t c inv pos known small same (made x t c r).access (place_met l t (made x t c r).access) refl apart is)

  at_slot : (a : Access) (m : ℕ) → IsOurs l m → address_of a ≡ slot_at m → Is a → Tells Nothing
  at_slot a m ours at is j = stays j (λ o. ap shows (words.others_keep x y t c inv pos known small same a (slot_of m) (our_slot l m ours) at is (cell_of j) (our_cell l j o) (λ e. let f : 2 * j ≡ 2 * m + 1 = e in omega (arith, f))))

  -- the others, if the cell of mutex m is met
  others : (a : Access) (m : ℕ) → IsOurs l m → address_of a ≡ cell_at m → Is a → (j : ℕ) → IsOurs l j → j ≢ m → V (cell_of j) ≡ W (cell_of j)
  others a m ours at is j o apart = words.others_keep x y t c inv pos known small same a (cell_of m) (our_cell l m ours) at is (cell_of j) (our_cell l j o) (λ e. let f : 2 * j ≡ 2 * m = e in apart (omega (arith, f)))

  -- the same object in another word
  alike : (a : Access) (m : ℕ) → IsOurs l m → address_of a ≡ cell_at m → Is a → shows (V (cell_of m)) ≡ shows (W (cell_of m)) → Tells Nothing
  alike a m ours at is still j = stays j (λ o. go (j == m) refl o)
    where
      go : (b : Bool) → (j == m) ≡ b → IsOurs l j → shows (V (cell_of j)) ≡ shows (W (cell_of j))
      go true e o = subst (λ (i : ℕ). shows (V (cell_of i)) ≡ shows (W (cell_of i))) (sym (eqb-true j m e)) still
      go false e o = ap shows (others a m ours at is j o (eqb-false j m e))

  hit_word : (m v n : ℕ) → IsOurs l m → (W (cell_of m) == v) ≡ true → Is (Access.Exchange (cell_at m) v n) → V (cell_of m) ≡ n
  hit_word m v n ours e is = words.hit x y t c inv pos known small same (cell_of m) v n (our_cell l m ours) e is

  -- ---- words

  own_word : (w : ℕ) → (fields_of w).owner ≡ t → (shows w).owner ≡ Some t
  own_word w e = ap owner_of e ∙ owner_of-some t pos

  not_own : (w : ℕ) → ((fields_of w).owner == t) ≡ false → (shows w).owner ≢ Some t
  not_own w e own = eqb-false (fields_of w).owner t e (owner_of-is (fields_of w).owner t own)

  taken_usable : (v : ℕ) → (fields_of (taken_word v t)).unusable ≡ (fields_of v).unusable
  taken_usable v = ap (λ (i : ℕ). i == 1) (let u : ℕ = word_of (taken (fields_of v) t) in let e : (u + 8589934592) / 4294967296 % 2 ≡ u / 4294967296 % 2 = omega arith in e) ∙ ap (λ (f : Fields). f.unusable) (taken_is t v small)

  taken_shows : (v : ℕ) → shows (taken_word v t) ≡ owned_by (shows v) t
  taken_shows v = λ i. record { owner = own_word (taken_word v t) (taken_owner t v small) i; inconsistent = taken_died t v small i; unusable = taken_usable v i }

  -- a word that is taken
  took : (v : ℕ) → is_free v ≡ true → (b : Bool) → (fields_of v).died ≡ b → Permits (shows v) t op.Lock (if b then EOWNERDEAD else OK) (owned_by (shows v) t)
  took v free true e = ((free_says v free).0, (free_says v free).1, e, refl)
  took v free false e = ((free_says v free).0, (free_says v free).1, e, refl)

  tried_took : (v : ℕ) → is_free v ≡ true → (b : Bool) → (fields_of v).died ≡ b → Permits (shows v) t op.TryLock (if b then EOWNERDEAD else OK) (owned_by (shows v) t)
  tried_took v free true e = ((free_says v free).0, (free_says v free).1, e, refl)
  tried_took v free false e = ((free_says v free).0, (free_says v free).1, e, refl)

  takes : (m v : ℕ) (o : Operation) → IsOurs l m → May o → Permits (shows v) t o (acquired (fields_of v)) (owned_by (shows v) t) → (W (cell_of m) == v) ≡ true → Is (Access.Exchange (cell_at m) v (taken_word v t)) → Told z (decided t m o (acquired (fields_of v)) ∷ []) y.machine
  takes m v o ours may permits e is = point m o (acquired (fields_of v)) ours may (others (Access.Exchange (cell_at m) v (taken_word v t)) m ours refl is)
      (subst (λ (u : ℕ). Permits (shows u) t o (acquired (fields_of v)) (shows (V (cell_of m)))) (sym (eqb-true (W (cell_of m)) v e))
      (subst (λ (b : Object). Permits (shows v) t o (acquired (fields_of v)) b) (sym (ap shows (hit_word m v (taken_word v t) ours e is) ∙ taken_shows v)) permits))

  -- ---- a lock looks

  no_point : (k : Taking) (h : How) → points_in (refused_or k h) ≡ []
  no_point k Tried = go k.wrong
    where
      go : (b : Bool) → points_in (if b then Refuses EINVAL else Nothing) ≡ []
      go true = refl
      go false = refl
  no_point k Later = refl
  no_point k (Waited i) = refl

  sees : (m : ℕ) (e : Deed) → IsOurs l m → (z.threads t).held < 2048 → points_in e ≡ [] → AllKeep → Tells (
      if (fields_of (W (cell_of m))).unusable then locks t m ENOTRECOVERABLE
      else if (fields_of (W (cell_of m))).owner == 0 then Nothing
      else if (fields_of (W (cell_of m))).owner == t then locks t m EDEADLK
      else e
      )
  sees m e ours room none all = go (fields_of (W (cell_of m))).unusable ((fields_of (W (cell_of m))).owner == 0) ((fields_of (W (cell_of m))).owner == t) refl refl
    where
      go : (a b d : Bool) → (fields_of (W (cell_of m))).unusable ≡ a → ((fields_of (W (cell_of m))).owner == t) ≡ d → Tells (if a then locks t m ENOTRECOVERABLE else if b then Nothing else if d then locks t m EDEADLK else e)
      go true b d lost own = refused m op.Lock ENOTRECOVERABLE ours (λ acq. room) all (lost, refl)
      go false true d lost own = nothing_if all
      go false false true lost own = refused m op.Lock EDEADLK ours (λ acq. room) all (own_word (W (cell_of m)) (eqb-true (fields_of (W (cell_of m))).owner t own), refl)
      go false false false lost own = subst (λ (ds : List Decision). Told z ds y.machine) (sym none) (nothing_if all)

  tried_told : (m : ℕ) → IsOurs l m → (z.threads t).held < 2048 → is_free (W (cell_of m)) ≡ false → AllKeep → Tells (tried t m (W (cell_of m)))
  tried_told m ours room busy all = go ((fields_of (W (cell_of m))).owner == 0) (fields_of (W (cell_of m))).unusable refl refl busy
    where
      some : (n : ℕ) → (n == 0) ≡ false → owner_of n ≢ None
      some zero e none = absurd cc
      some (suc n) e none = absurd cc

      go : (a b : Bool) → ((fields_of (W (cell_of m))).owner == 0) ≡ a → (fields_of (W (cell_of m))).unusable ≡ b → (a && not b) ≡ false → Tells (Decides (decided t m op.TryLock (if b then ENOTRECOVERABLE else EBUSY)))
      go a true e f g = refused m op.TryLock ENOTRECOVERABLE ours (λ acq. room) all (f, refl)
      go true false e f g = absurd cc
      go false false e f g = refused m op.TryLock EBUSY ours (λ acq. room) all (some (fields_of (W (cell_of m))).owner e, refl)

  late_told : (k : Taking) → IsOurs l k.mutex → (z.threads t).held < 2048 → AllKeep → Tells (late x t c k)
  late_told k ours room all = go (k.timed && c.yes)
    where
      go : (b : Bool) → Tells (if b then Decides (decided t k.mutex op.TimedLock ETIMEDOUT) else Nothing)
      go true = refused k.mutex op.TimedLock ETIMEDOUT ours (λ acq. room) all refl
      go false = nothing_if all

  -- WAITERS is set, and the lock gives up
  late_marked : (k : Taking) (v : ℕ) → IsOurs l k.mutex → (z.threads t).held < 2048 → (W (cell_of k.mutex) == v) ≡ true → Is (Access.Exchange (cell_at k.mutex) v (waiting_word v)) → Tells (late x t c k)
  late_marked k v ours room e is = go (k.timed && c.yes)
    where
      a : Access
      a = Access.Exchange (cell_at k.mutex) v (waiting_word v)

      marked : shows (V (cell_of k.mutex)) ≡ shows (W (cell_of k.mutex))
      marked = ap shows (hit_word k.mutex v (waiting_word v) ours e is) ∙ waiting_shows v ∙ ap shows (sym (eqb-true (W (cell_of k.mutex)) v e))

      go : (b : Bool) → Tells (if b then Decides (decided t k.mutex op.TimedLock ETIMEDOUT) else Nothing)
      go true = point k.mutex op.TimedLock ETIMEDOUT ours (λ acq. room) (others a k.mutex ours refl is) marked
      go false = alike a k.mutex ours refl is marked

  marked_alike : (m v : ℕ) → IsOurs l m → (W (cell_of m) == v) ≡ true → Is (Access.Exchange (cell_at m) v (waiting_word v)) → Tells Nothing
  marked_alike m v ours e is = alike (Access.Exchange (cell_at m) v (waiting_word v)) m ours refl is (ap shows (hit_word m v (waiting_word v) ours e is) ∙ waiting_shows v ∙ ap shows (sym (eqb-true (W (cell_of m)) v e)))

  -- ---- a release

  says_owner : (m : ℕ) → IsOurs l m → (fields_at z (cell_of m)).owner ≡ t → (fields_of (W (cell_of m))).owner ≡ t
  says_owner m ours own = (words.says_x x y t c inv pos known small same (cell_of m) (our_cell l m ours)).owner ∙ own

  says_died : (m : ℕ) (d : Bool) → IsOurs l m → (fields_at z (cell_of m)).died ≡ d → (fields_of (W (cell_of m))).died ≡ d
  says_died m d ours died = (words.says_x x y t c inv pos known small same (cell_of m) (our_cell l m ours)).died ∙ died

  says_usable : (m : ℕ) → IsOurs l m → (fields_at z (cell_of m)).owner ≡ t → (fields_of (W (cell_of m))).unusable ≡ false
  says_usable m ours own = ap (λ (o : Object). o.unusable) (sym (before m ours) ∙ our_seen z m ours ∙ seen-inside z (cell_of m) (our_cell l m ours)) ∙ usable_if_owned z (cell_of m) inv (our_cell l m ours) (λ none. let e : 0 ≡ t = sym none ∙ own in omega (arith, e, pos))

  gives_ours : (m : ℕ) (y : Giving) → GivesOurs l m y → IsOurs l m
  gives_ours m (OfUnlock d) o = o
  gives_ours m (OfWait k n slept timed) o = o.ours

  released_point : (m : ℕ) (bits : ℕ) → IsOurs l m → (fields_at z (cell_of m)).owner ≡ t → shows (bit_xor (W (cell_of m)) bits) ≡ freed (shows (W (cell_of m))) → Is (Access.FetchXor (cell_at m) bits) → Told z (decided t m op.Unlock OK ∷ []) y.machine
  released_point m bits ours own frees is = point m op.Unlock OK ours (λ acq. absurd cc) (others (Access.FetchXor (cell_at m) bits) m ours refl is)
      (own_word (W (cell_of m)) (says_owner m ours own), ap shows (words.its_word x y t c inv pos known small same (Access.FetchXor (cell_at m) bits) (cell_of m) tt (our_cell l m ours) refl is) ∙ frees)

  gives_told : (m : ℕ) (y : Giving) → GivesOurs l m y → Holds z t (cell_of m) (died_of y) → Is (Access.FetchXor (cell_at m) (gives x t c t y)) → Tells (gave t m y)
  gives_told m (OfUnlock false) o h is = released_point m t o h.owner (released_shows t (W (cell_of m)) (says_owner m o h.owner) (says_died m false o h.died)) is
  gives_told m (OfUnlock true) o h is = released_point m (t + 5368709120) o h.owner (spoiled_shows t (W (cell_of m)) (says_owner m o h.owner) (says_died m true o h.died) (says_usable m o h.owner)) is
  gives_told m (OfWait k n slept timed) o h is = released_point m t o.ours h.owner (released_shows t (W (cell_of m)) (says_owner m o.ours h.owner) (says_died m false o.ours h.died)) is

  trims_told : (m is_ : ℕ) → IsOurs l m → KnowsItsWord x m is_ → Is (Access.Exchange (cell_at m) is_ (is_ - 2147483648)) → Tells Nothing
  trims_told m is_ ours w is = go (W (cell_of m) == is_) refl
    where
      go : (b : Bool) → (W (cell_of m) == is_) ≡ b → Tells Nothing
      go true e = alike (Access.Exchange (cell_at m) is_ (is_ - 2147483648)) m ours refl is
          (ap shows (hit_word m is_ (is_ - 2147483648) ours e is) ∙ ap (λ (j : ℕ). shows (j - 2147483648)) w.left ∙ trimmed_shows w.turn ∙ ap shows (sym w.left ∙ sym (eqb-true (W (cell_of m)) is_ e)))
      go false e = nothing_if (missed_all m is_ (is_ - 2147483648) ours e is)

  -- ---- consistent, reinit

  mends_told : (m : ℕ) → IsOurs l m → Holds z t (cell_of m) true → Is (Access.FetchAnd (cell_at m) 18446744072635809791) → Told z (decided t m op.Consistent OK ∷ []) y.machine
  mends_told m ours h is = point m op.Consistent OK ours (λ acq. absurd cc) (others (Access.FetchAnd (cell_at m) 18446744072635809791) m ours refl is)
      (own_word (W (cell_of m)) (says_owner m ours h.owner), says_died m true ours h.died, ap shows (words.its_word x y t c inv pos known small same (Access.FetchAnd (cell_at m) 18446744072635809791) (cell_of m) tt (our_cell l m ours) refl is) ∙ declared_shows (W (cell_of m)) (bit_and (W (cell_of m)) 18446744072635809791) (and_declared (W (cell_of m))))

  mend_refused : (m : ℕ) → IsOurs l m → (((fields_of (W (cell_of m))).owner == t) && (fields_of (W (cell_of m))).died) ≡ false → AllKeep → Tells (Decides (decided t m op.Consistent (if (fields_of (W (cell_of m))).owner == t then EINVAL else EPERM)))
  mend_refused m ours e all = go ((fields_of (W (cell_of m))).owner == t) (fields_of (W (cell_of m))).died refl refl e
    where
      go : (a b : Bool) → ((fields_of (W (cell_of m))).owner == t) ≡ a → (fields_of (W (cell_of m))).died ≡ b → (a && b) ≡ false → Tells (Decides (decided t m op.Consistent (if a then EINVAL else EPERM)))
      go true true f g h = absurd cc
      go true false f g h = refused m op.Consistent EINVAL ours (λ acq. absurd cc) all (own_word (W (cell_of m)) (eqb-true (fields_of (W (cell_of m))).owner t f), g, refl)
      go false b f g h = refused m op.Consistent EPERM ours (λ acq. absurd cc) all (not_own (W (cell_of m)) f, refl)

  remade_told : (m v : ℕ) → IsOurs l m → IsToRemake x m v → (W (cell_of m) == v) ≡ true → Is (Access.Exchange (cell_at m) v (v - 4294967296 + 8589934592)) → Told z (decided t m op.Reinit OK ∷ []) y.machine
  remade_told m v ours to e is = point m op.Reinit OK ours (λ acq. absurd cc) (others (Access.Exchange (cell_at m) v (v - 4294967296 + 8589934592)) m ours refl is)
      (lost, ap owner_of free, ap shows (hit_word m v (v - 4294967296 + 8589934592) ours e is) ∙ remade_shows v (ap (λ (u : ℕ). u % 1073741824) (sym found) ∙ free) (ap (λ (u : ℕ). (fields_of u).died) (sym found) ∙ unmarked) to.unusable)
    where
      found : W (cell_of m) ≡ v
      found = eqb-true (W (cell_of m)) v e

      lost : (fields_of (W (cell_of m))).unusable ≡ true
      lost = ap (λ (u : ℕ). (fields_of u).unusable) found ∙ to.unusable

      lost_there : (fields_at z (cell_of m)).unusable ≡ true
      lost_there = sym (ap (λ (o : Object). o.unusable) (sym (before m ours) ∙ our_seen z m ours ∙ seen-inside z (cell_of m) (our_cell l m ours))) ∙ lost

      unmarked : (fields_of (W (cell_of m))).died ≡ false
      unmarked = says_died m false ours (to.died lost_there)

      none_there : (fields_at z (cell_of m)).owner ≡ 0
      none_there = go ((fields_at z (cell_of m)).owner == 0) refl
        where
          go : (b : Bool) → ((fields_at z (cell_of m)).owner == 0) ≡ b → (fields_at z (cell_of m)).owner ≡ 0
          go true f = eqb-true (fields_at z (cell_of m)).owner 0 f
          go false f = absurd (cc (sym lost_there ∙ usable_if_owned z (cell_of m) inv (our_cell l m ours) (eqb-false (fields_at z (cell_of m)).owner 0 f)))

      free : (fields_of (W (cell_of m))).owner ≡ 0
      free = (words.says_x x y t c inv pos known small same (cell_of m) (our_cell l m ours)).owner ∙ none_there

  -- ---- condition variables

  counts_told : (m : ℕ) (all : Bool) → IsOurs l m → (fields_at z (cell_of m)).owner ≡ t → AllKeep → Tells (Decides (decided t m (counts_as all) OK))
  counts_told m true ours own keep = refused m op.Broadcast OK ours (λ acq. absurd cc) keep (own_word (W (cell_of m)) (says_owner m ours own), refl)
  counts_told m false ours own keep = refused m op.Signal OK ours (λ acq. absurd cc) keep (own_word (W (cell_of m)) (says_owner m ours own), refl)

  count_refused : (m : ℕ) (all : Bool) → IsOurs l m → ((fields_of (W (cell_of m))).owner == t) ≡ false → AllKeep → Tells (Decides (decided t m (counts_as all) EPERM))
  count_refused m true ours e keep = refused m op.Broadcast EPERM ours (λ acq. absurd cc) keep (not_own (W (cell_of m)) e, refl)
  count_refused m false ours e keep = refused m op.Signal EPERM ours (λ acq. absurd cc) keep (not_own (W (cell_of m)) e, refl)

  -- ---- each row

  two : (b : Bool) (e f : Deed) (n o : Made) → (b ≡ true → Is n.access → Tells e) → (b ≡ false → Is o.access → Tells f) → Is (if b then n else o).access → Tells (if b then e else f)
  two true e f n o first second is = first refl is
  two false e f n o first second is = second refl is

  missed_access : (k : Taking) (v : ℕ) (h : How) (w : ℕ) → Is (missed x t c (Access.Exchange (cell_at k.mutex) v (waiting_word v)) k h w).access → Is (Access.Exchange (cell_at k.mutex) v (waiting_word v))
  missed_access k v Tried w is = is
  missed_access k v Later w is = is
  missed_access k v (Waited i) w is = is

  sleep_told : (k : Taking) (h : How) (v w : ℕ) → Is (on_cell x t c k h v w).access → Tells Nothing
  sleep_told k (Waited i) v w is = nothing_if (reading (Access.Wait (cell_at k.mutex) (v % 4294967296)) tt is)
  sleep_told k Tried v w is = nothing_if (reading (Access.Wait (cell_at k.mutex) (v % 4294967296)) tt (by_test (λ (n : Made). Is n.access → Is (Access.Wait (cell_at k.mutex) (v % 4294967296))) (w % 4294967296 == v % 4294967296)
      (makes (Access.Wait (cell_at k.mutex) (v % 4294967296)) (begins_behind t (TimedLock (cell_of k.mutex)) ++ Step t ∷ Step t ∷ []) (Row.Asleep (later k))) (makes (Access.Wait (cell_at k.mutex) (v % 4294967296)) (begins_behind t (TimedLock (cell_of k.mutex))) (Row.Asleep (later k))) (λ e i. i) (λ e i. i) is))
  sleep_told k Later v w is = nothing_if (reading (Access.Wait (cell_at k.mutex) (v % 4294967296)) tt (by_test (λ (n : Made). Is n.access → Is (Access.Wait (cell_at k.mutex) (v % 4294967296))) (w % 4294967296 == v % 4294967296)
      (makes (Access.Wait (cell_at k.mutex) (v % 4294967296)) (begins_behind t (TimedLock (cell_of k.mutex)) ++ Step t ∷ Step t ∷ []) (Row.Asleep (later k))) (makes (Access.Wait (cell_at k.mutex) (v % 4294967296)) (begins_behind t (TimedLock (cell_of k.mutex))) (Row.Asleep (later k))) (λ e i. i) (λ e i. i) is))

  last_access : (k : Taking) (w at : ℕ) (a b d : Bool) → Is (
      if a then makes (Access.Load at) (Step t ∷ []) (if d then Row.HeirWakes k else Row.Frees k (Fails ENOTRECOVERABLE))
      else if b then makes (Access.Load at) [] (Row.HeirPends k Again)
      else if d then makes (Access.Load at) (Step t ∷ (Step t ∷ (Expire t ∷ []))) (out_of x t c k)
      else makes (Access.Load at) [] (Row.LastMarks k w)
      ).access → Is (Access.Load at)
  last_access k w at true b d is = is
  last_access k w at false true d is = is
  last_access k w at false false true is = is
  last_access k w at false false false is = is

  last_told : (k : Taking) → IsOurs l k.mutex → (z.threads t).held < 2048 → AllKeep → Tells (deed x t c (Row.LastLooks k))
  last_told k ours room all = go (fields_of (W (cell_of k.mutex))).unusable ((fields_of (W (cell_of k.mutex))).owner == 0) (fields_of (W (cell_of k.mutex))).waiters refl
    where
      go : (a b d : Bool) → (fields_of (W (cell_of k.mutex))).unusable ≡ a → Tells (if a then locks t k.mutex ENOTRECOVERABLE else if b then Nothing else if d then late x t c k else Nothing)
      go true b d lost = refused k.mutex op.Lock ENOTRECOVERABLE ours (λ acq. room) all (lost, refl)
      go false true d lost = nothing_if all
      go false false true lost = late_told k ours room all
      go false false false lost = nothing_if all

  to_sleep_told : (k : Taking) → IsOurs l k.mutex → (z.threads t).held < 2048 → AllKeep → Tells (looked_to_sleep t k.mutex (W (cell_of k.mutex)))
  to_sleep_told k ours room all = go (fields_of (W (cell_of k.mutex))).unusable refl
    where
      go : (a : Bool) → (fields_of (W (cell_of k.mutex))).unusable ≡ a → Tells (if a then locks t k.mutex ENOTRECOVERABLE else Nothing)
      go true lost = refused k.mutex op.Lock ENOTRECOVERABLE ours (λ acq. room) all (lost, refl)
      go false lost = nothing_if all

  abbrev load : ℕ → Access
  load k = Access.Load (cell_in l t k)

  pub told_row : (r : Row) (g : Stage) → Fits l t r g → Owning z t r → Assumes x t r → RoomAt (z.threads t).held r → (IsAlongList r → (k : ℕ) → k < l.mutexes → cell_place l k ≢ place_met l t (made x t c r).access) → ((made x t c r).events ≡ [] → y.machine ≡ z) → Is (made x t c r).access → Tells (deed x t c r)
  told_row Row.Rests g o w a room apart none is = none_if (none refl)
  told_row (Row.Looks k) g o w a room apart none is = two ((fields_of (W (cell_of k.mutex))).owner == t) (locks t k.mutex EDEADLK) Nothing (makes (load (cell_of k.mutex)) (Begin t (OnMutex (TimedLock (cell_of k.mutex))) ∷ Step t ∷ Step t ∷ Step t ∷ []) Row.Rests) (makes (load (cell_of k.mutex)) [] (Row.Pends k (W (cell_of k.mutex))))
      (λ e i. refused k.mutex op.Lock EDEADLK o.0.ours (λ acq. a.1) (reading (load (cell_of k.mutex)) tt i) (own_word (W (cell_of k.mutex)) (eqb-true (fields_of (W (cell_of k.mutex))).owner t e), refl)) (λ e i. nothing_if (reading (load (cell_of k.mutex)) tt i)) is
  told_row (Row.Pends k v) g o w a room apart none is = pending _ is
  told_row (Row.Sees k) g o w a room apart none is = sees k.mutex (refused_or k k.how) o.ours a.room (no_point k k.how) (reading (load (cell_of k.mutex)) tt is)
  told_row (Row.Takes k v) g o w a room apart none is = two (W (cell_of k.mutex) == v) (locks t k.mutex (acquired (fields_of v))) (looked_first t k (W (cell_of k.mutex))) (makes (Access.Exchange (cell_at k.mutex) v (taken_word v t)) (Step t ∷ Step t ∷ []) (Row.Links k.mutex (acquired (fields_of v)))) (makes (Access.Exchange (cell_at k.mutex) v (taken_word v t)) (seen_events t k.mutex k.how (W (cell_of k.mutex))) (seen_row t k (W (cell_of k.mutex))))
      (λ e i. takes k.mutex v op.Lock o.0.ours (λ acq. a.0.room) (took v o.1 (fields_of v).died refl) e i) (λ e i. sees k.mutex (refused_or k k.how) o.0.ours a.0.room (no_point k k.how) (missed_all k.mutex v (taken_word v t) o.0.ours e i)) is
  told_row (Row.Links m r) g o w a room apart none is = on_list (Row.Links m r) (apart tt) is
  told_row (Row.Clears m r) g o w a room apart none is = pending 0 is
  told_row (Row.Chooses k v) g o w a room apart none is = none_if (none refl)
  told_row (Row.SeesAgain k v) g o w a room apart none is = sees k.mutex (refused_or k k.how) o.0.ours a.0.room (no_point k k.how) (reading (load (cell_of k.mutex)) tt is)
  told_row (Row.Marks k v n) g o w a room apart none is = two (W (cell_of k.mutex) == v) Nothing (looked t k.mutex (W (cell_of k.mutex))) (makes (Access.Exchange (cell_at k.mutex) v (waiting_word v)) (marked_events x t c k k.how) (marked_row x t c k k.how v n)) (missed x t c (Access.Exchange (cell_at k.mutex) v (waiting_word v)) k k.how (W (cell_of k.mutex)))
      (λ e i. marked_alike k.mutex v o.0.ours e i) (λ e i. sees k.mutex Nothing o.0.ours a.0.room refl (missed_all k.mutex v (waiting_word v) o.0.ours e (missed_access k v k.how (W (cell_of k.mutex)) i))) is
  told_row (Row.SleepsOn k v) g o w a room apart none is = sleep_told k k.how v (W (cell_of k.mutex)) is
  told_row (Row.Asleep k) g o w a room apart none is = none_if (none refl)
  told_row (Row.Late k) g o w a room apart none is = none_if (none refl)
  told_row (Row.LateSees k) g o w a room apart none is = refused k.mutex op.TimedLock ETIMEDOUT o.ours (λ acq. omega (arith, room)) (reading (load (cell_of k.mutex)) tt is) refl
  told_row (Row.WakesAll m r) g o w a room apart none is = nothing_if (reading (Access.Wake (cell_at m) most_threads) tt is)
  told_row (Row.SlotPends k sl) g o w a room apart none is = pending _ is
  told_row (Row.SlotTakes k sl) g o w a room apart none is = slot_takes (W (slot_of k.mutex) == sl) ((fields_of (W (slot_of k.mutex))).owner == 0) is
    where
      slot_takes : (a b : Bool) → Is (if a then makes (Access.Exchange (slot_at k.mutex) sl (taken_word sl t)) (Step t ∷ Step t ∷ []) (Row.SlotLinks k (fields_of sl).died) else if b then makes (Access.Exchange (slot_at k.mutex) sl (taken_word sl t)) [] (Row.SlotTakes k (W (slot_of k.mutex))) else makes (Access.Exchange (slot_at k.mutex) sl (taken_word sl t)) (Step t ∷ []) (Row.SlotLeft k)).access → Tells Nothing
      slot_takes true b i = at_slot (Access.Exchange (slot_at k.mutex) sl (taken_word sl t)) k.mutex o.0.ours refl i
      slot_takes false true i = at_slot (Access.Exchange (slot_at k.mutex) sl (taken_word sl t)) k.mutex o.0.ours refl i
      slot_takes false false i = at_slot (Access.Exchange (slot_at k.mutex) sl (taken_word sl t)) k.mutex o.0.ours refl i
  told_row (Row.SlotLeft k) g o w a room apart none is = pending _ is
  told_row (Row.SeesToSleep k) g o w a room apart none is = to_sleep_told k o.0.ours a.room (reading (load (cell_of k.mutex)) tt is)
  told_row (Row.SlotLinks k d) g o w a room apart none is = on_list (Row.SlotLinks k d) (apart tt) is
  told_row (Row.SlotClears k) g o w a room apart none is = pending 0 is
  told_row (Row.SlotQuiets k) g o w a room apart none is = none_if (none refl)
  told_row (Row.SlotMends k) g o w a room apart none is = at_slot (Access.FetchAnd (slot_at k.mutex) 18446744072635809791) k.mutex o.ours refl is
  told_row (Row.HeirPends k Linked) g o w a room apart none is = pending _ is
  told_row (Row.HeirPends k Mended) g o w a room apart none is = pending _ is
  told_row (Row.HeirPends k Again) g o w a room apart none is = none_if (none refl)
  told_row (Row.HeirSets k) g o w a room apart none is = none_if (none refl)
  told_row (Row.HeirLooks k) g o w a room apart none is = none_if (none refl)
  told_row (Row.HeirPendsOn k v over) g o w a room apart none is = none_if (none refl)
  told_row (Row.HeirTakes k v) g o w a room apart none is = two (W (cell_of k.mutex) == v) (locks t k.mutex (acquired (fields_of v))) Nothing (makes (Access.Exchange (cell_at k.mutex) v (taken_word v t)) (Step t ∷ Step t ∷ []) (Row.HeirHas k (acquired (fields_of v)))) (makes (Access.Exchange (cell_at k.mutex) v (taken_word v t)) [] (watched_row x t c k (W (cell_of k.mutex)) true))
      (λ e i. takes k.mutex v op.Lock o.0.ours (λ acq. a.0.room) (took v o.1 (fields_of v).died refl) e i) (λ e i. nothing_if (missed_all k.mutex v (taken_word v t) o.0.ours e i)) is
  told_row (Row.HeirHas k r) g o w a room apart none is = none_if (none refl)
  told_row (Row.HeirLinks k r) g o w a room apart none is = on_list (Row.HeirLinks k r) (apart tt) is
  told_row (Row.GivesUp k) g o w a room apart none is = none_if (none refl)
  told_row (Row.LastLooks k) g o w a room apart none is = last_told k o.ours a.0.room (reading (load (cell_of k.mutex)) tt (last_access k (W (cell_of k.mutex)) (cell_at k.mutex) (fields_of (W (cell_of k.mutex))).unusable ((fields_of (W (cell_of k.mutex))).owner == 0) (fields_of (W (cell_of k.mutex))).waiters is))
  told_row (Row.LastMarks k v) g o w a room apart none is = two (W (cell_of k.mutex) == v) (late x t c k) Nothing (makes (Access.Exchange (cell_at k.mutex) v (waiting_word v)) (sets_and_expires t) (out_of x t c k)) (makes (Access.Exchange (cell_at k.mutex) v (waiting_word v)) [] (Row.HeirPends k Again))
      (λ e i. late_marked k v o.0.ours a.0.room e i) (λ e i. nothing_if (missed_all k.mutex v (waiting_word v) o.0.ours e i)) is
  told_row (Row.HeirWakes k) g o w a room apart none is = nothing_if (reading (Access.Wake (cell_at k.mutex) most_threads) tt is)
  told_row (Row.Frees k f) g o w a room apart none is = pending _ is
  told_row (Row.FreeUnlinks k f) g o w a room apart none is = on_list (Row.FreeUnlinks k f) (apart tt) is
  told_row (Row.FreeGives k f) g o w a room apart none is = at_slot (Access.FetchXor (slot_at k.mutex) t) k.mutex o.ours refl is
  told_row (Row.TryLooks m) g o w a room apart none is = two (is_free (W (cell_of m))) Nothing (tried t m (W (cell_of m))) (makes (load (cell_of m)) [] (Row.TryPends m (W (cell_of m)))) (makes (load (cell_of m)) (Begin t (OnMutex (TryLock (cell_of m))) ∷ Step t ∷ Step t ∷ Step t ∷ []) Row.Rests)
      (λ e i. nothing_if (reading (load (cell_of m)) tt i)) (λ e i. tried_told m o a.1 e (reading (load (cell_of m)) tt i)) is
  told_row (Row.TryPends m v) g o w a room apart none is = pending _ is
  told_row (Row.TryTakes m v) g o w a room apart none is = two (W (cell_of m) == v) (Decides (decided t m op.TryLock (acquired (fields_of v)))) (if is_free (W (cell_of m)) then Nothing else tried t m (W (cell_of m))) (makes (Access.Exchange (cell_at m) v (taken_word v t)) (Step t ∷ Step t ∷ []) (Row.Links m (acquired (fields_of v)))) (if is_free (W (cell_of m)) then makes (Access.Exchange (cell_at m) v (taken_word v t)) [] (Row.TryTakes m (W (cell_of m))) else makes (Access.Exchange (cell_at m) v (taken_word v t)) (Step t ∷ []) (Row.Clears m (if (fields_of (W (cell_of m))).unusable then ENOTRECOVERABLE else EBUSY)))
      (λ e i. takes m v op.TryLock o.0 (λ acq. a.0.room) (tried_took v o.1 (fields_of v).died refl) e i)
      (λ e i. two (is_free (W (cell_of m))) Nothing (tried t m (W (cell_of m))) (makes (Access.Exchange (cell_at m) v (taken_word v t)) [] (Row.TryTakes m (W (cell_of m)))) (makes (Access.Exchange (cell_at m) v (taken_word v t)) (Step t ∷ []) (Row.Clears m (if (fields_of (W (cell_of m))).unusable then ENOTRECOVERABLE else EBUSY)))
      (λ f j. nothing_if (missed_all m v (taken_word v t) o.0 e j)) (λ f j. tried_told m o.0 a.0.room f (missed_all m v (taken_word v t) o.0 e j)) i) is
  told_row (Row.GiveLooks m) g o w a room apart none is = two ((fields_of (W (cell_of m))).owner == t) Nothing (Decides (decided t m op.Unlock EPERM)) (makes (load (cell_of m)) [] (Row.GivePends m (OfUnlock (fields_of (W (cell_of m))).died))) (makes (load (cell_of m)) (Begin t (OnMutex (Unlock (cell_of m))) ∷ Step t ∷ []) Row.Rests)
      (λ e i. nothing_if (reading (load (cell_of m)) tt i)) (λ e i. refused m op.Unlock EPERM o (λ acq. absurd cc) (reading (load (cell_of m)) tt i) (not_own (W (cell_of m)) e, refl)) is
  told_row (Row.GivePends m v) g o w a room apart none is = pending _ is
  told_row (Row.GiveUnlinks m v) g o w a room apart none is = on_list (Row.GiveUnlinks m v) (apart tt) is
  told_row (Row.GiveFinds m v) g o w a room apart none is = none_if (none refl)
  told_row (Row.Gives m v) g o w a room apart none is = gives_told m v o w is
  told_row (Row.HandsOn m v n) g o w a room apart none is = nothing_if (reading (Access.Load (slot_at m)) tt (by_test (λ (q : Made). Is q.access → Is (Access.Load (slot_at m))) (shows_heir (W (slot_of m)) && c.yes) (makes (Access.Load (slot_at m)) (Spare t (heir_of z t (cell_of m)) ∷ []) (given_row x t c m v)) (makes (Access.Load (slot_at m)) [] (Row.LooksBack m v n)) (λ e i. i) (λ e i. i) is))
  told_row (Row.LooksBack m v n) g o w a room apart none is = nothing_if (reading (load (cell_of m)) tt (by_test (λ (q : Made). Is q.access → Is (load (cell_of m))) ((fields_of (W (cell_of m))).owner == 0) (makes (load (cell_of m)) [] (Row.WakesOne m v n)) (makes (load (cell_of m)) (Spare t left_to.Owner ∷ []) (given_row x t c m v)) (λ e i. i) (λ e i. i) is))
  told_row (Row.WakesOne m v n) g o w a room apart none is = nothing_if (reading (Access.Wake (cell_at m) 1) tt is)
  told_row (Row.Trims m n) g o w a room apart none is = trims_told m n o a is
  told_row (Row.MendLooks m) g o w a room apart none is = two (((fields_of (W (cell_of m))).owner == t) && (fields_of (W (cell_of m))).died) Nothing (Decides (decided t m op.Consistent (if (fields_of (W (cell_of m))).owner == t then EINVAL else EPERM))) (makes (load (cell_of m)) [] (Row.Mends m)) (makes (load (cell_of m)) (Begin t (OnMutex (Consistent (cell_of m))) ∷ Step t ∷ []) Row.Rests)
      (λ e i. nothing_if (reading (load (cell_of m)) tt i)) (λ e i. mend_refused m o e (reading (load (cell_of m)) tt i)) is
  told_row (Row.Mends m) g o w a room apart none is = mends_told m o w is
  told_row (Row.AnewLooks m) g o w a room apart none is = none_if (none refl)
  told_row (Row.Anews m v) g o w a room apart none is = two (W (cell_of m) == v) (Decides (decided t m op.Reinit OK)) Nothing (makes (Access.Exchange (cell_at m) v (v - 4294967296 + 8589934592)) (Remake t (cell_of m) ∷ []) Row.Rests) (makes (Access.Exchange (cell_at m) v (v - 4294967296 + 8589934592)) [] (if (fields_of (W (cell_of m))).unusable then Row.Anews m (W (cell_of m)) else Row.Rests))
      (λ e i. remade_told m v o.0 a e i) (λ e i. nothing_if (missed_all m v (v - 4294967296 + 8589934592) o.0 e i)) is
  told_row (Row.WaitLooks m k timed) g o w a room apart none is = two ((fields_of (W (cell_of m))).owner == t) Nothing (Decides (decided t m op.Wait EPERM)) (makes (load (cell_of m)) [] (Row.WaitCounts m k timed (fields_of (W (cell_of m))).died)) (makes (load (cell_of m)) (wait_begins x t c k timed) Row.Rests)
      (λ e i. nothing_if (reading (load (cell_of m)) tt i)) (λ e i. refused m op.Wait EPERM o.ours (λ acq. absurd cc) (reading (load (cell_of m)) tt i) (not_own (W (cell_of m)) e, refl)) is
  told_row (Row.WaitCounts m k timed died) g o w a room apart none is = two died (Decides (decided t m op.Wait XSTATE)) Nothing (makes (Access.Load (address_in l t (counter_place l k))) (wait_begins x t c k timed) Row.Rests) (makes (Access.Load (address_in l t (counter_place l k))) [] (Row.GivePends m (OfWait k (shown x (counter_place l k) % 4294967296) (shows_slept x t c (shown x (counter_place l k))) timed)))
      (λ e i. refused m op.Wait XSTATE o.ours (λ acq. absurd cc) (reading (Access.Load (address_in l t (counter_place l k))) tt i) (own_word (W (cell_of m)) (says_owner m o.ours w.owner), says_died m true o.ours (w.died ∙ e), refl)) (λ e i. nothing_if (reading (Access.Load (address_in l t (counter_place l k))) tt i)) is
  told_row (Row.WaitSets m k n timed) g o w a room apart none is = none_if (none refl)
  told_row (Row.WaitSleeps m k n timed) g o w a room apart none is = nothing_if (reading (Access.Wait (address_in l t (counter_place l k)) n) tt is)
  told_row (Row.WaitAsleep m k n timed) g o w a room apart none is = none_if (none refl)
  told_row (Row.WaitLate m k n) g o w a room apart none is = none_if (none refl)
  told_row (Row.CountLooks m k all) g o w a room apart none is = two ((fields_of (W (cell_of m))).owner == t) Nothing (Decides (decided t m (counts_as all) EPERM)) (makes (load (cell_of m)) [] (Row.CountLoads m k all)) (makes (load (cell_of m)) (refused_count x t c k all) Row.Rests)
      (λ e i. nothing_if (reading (load (cell_of m)) tt i)) (λ e i. count_refused m all o.ours e (reading (load (cell_of m)) tt i)) is
  told_row (Row.CountLoads m k all) g o w a room apart none is = none_if (none refl)
  told_row (Row.Counts m k all n) g o w a room apart none is = counts_told m all o.ours w (words.by_counter x y t c inv pos known small same m k o (Access.Store (address_in l t (counter_place l k)) (counted x t c n)) refl is)
  told_row (Row.CountWakes m k n) g o w a room apart none is = nothing_if (reading (Access.Wake (address_in l t (counter_place l k)) 1) tt is)
  told_row (Row.AllMarks m k n) g o w a room apart none is = alike (Access.FetchOr (cell_at m) 2147483648) m o.ours refl is (ap shows (words.its_word x y t c inv pos known small same (Access.FetchOr (cell_at m) 2147483648) (cell_of m) tt (our_cell l m o.ours) refl is) ∙ ap object_of (or_waiting (W (cell_of m))))
  told_row (Row.AllMoves m k n) g o w a room apart none is = nothing_if (reading (Access.CmpRequeue (address_in l t (counter_place l k)) n 0 (cell_at m) most_threads) tt is)
  told_row (Row.Unsets m k n) g o w a room apart none is = none_if (none refl)
