-- What a thread's own access leaves of slots and AWAKE: the slots that the thread owns are its row's. AWAKE is set there only
-- if the row allows it, and then the thread is the cell's heir. A slot that nobody owns, and that isn't marked, has no AWAKE.
use Rattle.std.proofs.Common.{◌≡◌, ◌≢◌, ◌⊎◌, inl, inr, ℕ, ◌+◌, ◌<◌, ◌≤◌, ◌==◌, Bool, true, false, [], ◌∷◌, refl, sym, ap, ◌∙◌, subst, arith, eqb-true}
use Rattle.std.specs.Prelude.{if◌then◌else◌, not, ◌&&◌, ◌||◌, ◌*◌}
use Rattle.std.proofs.lemmas.Bool.{eqb-false}
use Rattle.lockword.specs.Cells.{Fields, fields_of}
use Rattle.lockword.proofs.Bits.{and_declared, xor_released}
use Rattle.lockword.specs.declared.reply.Reply.TheVariants.{ETIMEDOUT, ENOTRECOVERABLE}
use Rattle.stepprograms.specs.declared.access.Access.{Access}
use Rattle.stepprograms.specs.Accesses.{address_of}
use Rattle.memorymap.specs.Layouts.{Layout', cell_place}
use Rattle.mutex.specs.Rows.{acquired}
use Rattle.mutex.specs.declared.call.Call.TheVariants.{TimedLock}
use Rattle.protocol.specs.declared.event.Event.{Event}
use Rattle.protocol.specs.declared.event.Event.TheVariants.{Step}
use Rattle.protocol.specs.declared.thread.Stage.{Stage}
use Rattle.protocol.specs.Machine.{State, place_met, put, run, stands_in, words_after}
use Rattle.protocol.proofs.Kept.{Kept}
use Rattle.protocol.proofs.Puts.{put-other, put-same}
use Rattle.protocol.proofs.Seeing.{cell_in}
use Rattle.slots.specs.Places.{cell_of, slot_of}
use Rattle.slots.specs.Rows.{Choice, Row, Taking}
use Rattle.slots.specs.Rows.Before.{Linked, Mended, Again}
use Rattle.slots.specs.Rows.Onward.{Has, Fails, Sleeps}
use Rattle.slots.specs.Shown.{Slots, memory, shown}
use Rattle.slots.specs.Words.{is_free, taken_word, waiting_word}
use Rattle.slots.specs.Seen.{sets_and_expires}
use Rattle.slots.specs.Table.{Made, is_on_list, made, makes, out_of, watched_row}
use Rattle.slots.specs.Runs.{awake_after}
use Rattle.slots.specs.Stands.{HasSlot, IsIn, MayBeAwake, StandsAs, at_load}
use Rattle.slots.specs.Moments.{IsAtLock}
use Rattle.slots.specs.Invariant.{IsHeir, fields_at}
use Rattle.slots.specs.Laws.{IsReached}
use Rattle.slots.specs.Fits.{Fits, IsOurs}
use Rattle.slots.specs.Accesses.{IsAlongList}
use Rattle.slots.specs.Premises.{Owning}
use Rattle.slots.proofs.HeirRows.{go_on}
use Rattle.slots.proofs.Leading.{by_test}
use Rattle.slots.proofs.Owned.{our_cell, our_slot}
use Rattle.slots.proofs.OwnKeep as words
use Rattle.slots.proofs.Rooms.{words_sound}
use Rattle.slots.proofs.ShownWords.{taken_died, taken_owner}
use Rattle.slots.proofs.SlotWords.{IsOfSlot, slots_row}

-- mutex m's slot has the same owner, and is marked as before
pub record SlotStays (s s' : State) (m : ℕ) : Type 0 where
  pub owner : (fields_at s' (slot_of m)).owner ≡ (fields_at s (slot_of m)).owner
  pub died : (fields_at s' (slot_of m)).died ≡ (fields_at s (slot_of m)).died

-- thread t has taken mutex m's slot, and goes on with it
pub record TakesSlot (s s' : State) (t : ℕ) (k : Taking) (next : Row) (m : ℕ) : Type 0 where
  pub here : k.mutex ≡ m
  pub none : (fields_at s (slot_of m)).owner ≡ 0
  pub mine : (fields_at s' (slot_of m)).owner ≡ t
  pub died : (fields_at s' (slot_of m)).died ≡ (fields_at s (slot_of m)).died
  pub next_is : next ≡ Row.SlotLinks k (fields_at s (slot_of m)).died

same_or : (a b : ℕ) → (a ≡ b) ⊎ (a ≢ b)
same_or a b = go (a == b) refl
  where
    go : (d : Bool) → (a == b) ≡ d → (a ≡ b) ⊎ (a ≢ b)
    go true e = inl (eqb-true a b e)
    go false e = inr (λ same. eqb-false a b e same)

module _ (x y : Slots) (t : ℕ) (c : Choice) (inv : Kept x.machine) (pos : 1 ≤ t) (known : t ≤ x.machine.layout.threads) (small : t < 1073741824) (same : y.machine.layout ≡ x.machine.layout) where
  abbrev l : Layout'
  l = x.machine.layout

  abbrev W : ℕ → ℕ
  W k = shown x (cell_place l k)

  abbrev V : ℕ → ℕ
  V k = shown y (cell_place l k)

  abbrev Is : Access → Type 0
  Is a = (p : ℕ) → shown y p ≡ words_after (memory x) t a p

  abbrev before : ℕ → Fields
  before m = fields_at x.machine (slot_of m)

  abbrev behind : ℕ → Fields
  behind m = fields_at y.machine (slot_of m)

  abbrev Stays : ℕ → Type 0
  Stays m = SlotStays x.machine y.machine m

  -- ---- slots

  owner_behind : (m : ℕ) → IsOurs l m → (fields_of (V (slot_of m))).owner ≡ (behind m).owner
  owner_behind m ours = (words.says_y x y t c inv pos known small same (slot_of m) (our_slot l m ours)).owner

  died_behind : (m : ℕ) → IsOurs l m → (fields_of (V (slot_of m))).died ≡ (behind m).died
  died_behind m ours = (words.says_y x y t c inv pos known small same (slot_of m) (our_slot l m ours)).died

  owner_before : (m : ℕ) → IsOurs l m → (fields_of (W (slot_of m))).owner ≡ (before m).owner
  owner_before m ours = (words.says_x x y t c inv pos known small same (slot_of m) (our_slot l m ours)).owner

  died_before : (m : ℕ) → IsOurs l m → (fields_of (W (slot_of m))).died ≡ (before m).died
  died_before m ours = (words.says_x x y t c inv pos known small same (slot_of m) (our_slot l m ours)).died

  shown_stays : (m : ℕ) → IsOurs l m → V (slot_of m) ≡ W (slot_of m) → Stays m
  shown_stays m ours e = record {
    owner = sym (owner_behind m ours) ∙ ap (λ (v : ℕ). (fields_of v).owner) e ∙ owner_before m ours;
    died = sym (died_behind m ours) ∙ ap (λ (v : ℕ). (fields_of v).died) e ∙ died_before m ours;
  }

  abbrev OnList : Row → Type 0
  OnList r = IsAlongList r → (k : ℕ) → k < l.mutexes → cell_place l k ≢ place_met l t (made x t c r).access

  abbrev IsMade : Row → Type 0
  IsMade r = Is (made x t c r).access

  abbrev NoneThen : Row → Type 0
  NoneThen r = (made x t c r).events ≡ [] → y.machine ≡ x.machine

  stays_row : (r : Row) (g : Stage) → Fits l t r g → Owning x.machine t r → OnList r → (IsOfSlot r → ⊥) → IsMade r → NoneThen r → (m : ℕ) → IsOurs l m → Stays m
  stays_row r g o own apart never is none m ours = go (slots_row x y t c inv pos known small same r g o own apart never is)
    where
      go : ((made x t c r).events ≡ []) ⊎ ((j : ℕ) → IsOurs l j → V (slot_of j) ≡ W (slot_of j)) → Stays m
      go (inl e) = subst (λ (z : State). SlotStays x.machine z m) (sym (none e)) (record { owner = refl; died = refl })
      go (inr all) = shown_stays m ours (all m ours)

  -- another slot's word is changed
  other_stays : (a : Access) (j m : ℕ) → IsOurs l j → IsOurs l m → address_of a ≡ cell_in l t (slot_of j) → Is a → j ≢ m → Stays m
  other_stays a j m ours_j ours at is apart = shown_stays m ours (words.others_keep x y t c inv pos known small same a (slot_of j) (our_slot l j ours_j) at is (slot_of m) (our_slot l m ours) (λ e. apart (let f : 2 * m + 1 ≡ 2 * j + 1 = e in omega (arith, f))))

  abbrev slot_at : ℕ → ℕ
  slot_at m = cell_in l t (slot_of m)

  abbrev TakesThen : Taking → ℕ → Made → Type 0
  TakesThen k m n = Is n.access → Stays m ⊎ TakesSlot x.machine y.machine t k n.next m

  takes_slot : (k : Taking) (sl m : ℕ) → IsOurs l k.mutex → IsOurs l m → (fields_of sl).owner ≡ 0 → IsMade (Row.SlotTakes k sl) → Stays m ⊎ TakesSlot x.machine y.machine t k (made x t c (Row.SlotTakes k sl)).next m
  takes_slot k sl m ours_k ours free = by_test (TakesThen k m) (W (slot_of k.mutex) == sl)
      (makes (Access.Exchange (slot_at k.mutex) sl (taken_word sl t)) (Step t ∷ Step t ∷ []) (Row.SlotLinks k (fields_of sl).died))
      (if (fields_of (W (slot_of k.mutex))).owner == 0 then makes (Access.Exchange (slot_at k.mutex) sl (taken_word sl t)) [] (Row.SlotTakes k (W (slot_of k.mutex))) else makes (Access.Exchange (slot_at k.mutex) sl (taken_word sl t)) (Step t ∷ []) (Row.SlotLeft k))
      (λ e is. hit e is (same_or k.mutex m))
      (λ e. by_test (TakesThen k m) ((fields_of (W (slot_of k.mutex))).owner == 0) (makes (Access.Exchange (slot_at k.mutex) sl (taken_word sl t)) [] (Row.SlotTakes k (W (slot_of k.mutex)))) (makes (Access.Exchange (slot_at k.mutex) sl (taken_word sl t)) (Step t ∷ []) (Row.SlotLeft k))
      (λ f is. inl (missed e is)) (λ f is. inl (missed e is)))
    where
      missed : (W (slot_of k.mutex) == sl) ≡ false → Is (Access.Exchange (slot_at k.mutex) sl (taken_word sl t)) → Stays m
      missed e is = shown_stays m ours (words.by_miss x y t c inv pos known small same (slot_of k.mutex) sl (taken_word sl t) (our_slot l k.mutex ours_k) e is (slot_of m) (our_slot l m ours))

      was : (W (slot_of k.mutex) == sl) ≡ true → W (slot_of k.mutex) ≡ sl
      was e = eqb-true (W (slot_of k.mutex)) sl e

      now : (W (slot_of k.mutex) == sl) ≡ true → Is (Access.Exchange (slot_at k.mutex) sl (taken_word sl t)) → V (slot_of k.mutex) ≡ taken_word sl t
      now e is = words.hit x y t c inv pos known small same (slot_of k.mutex) sl (taken_word sl t) (our_slot l k.mutex ours_k) e is

      died_is : (W (slot_of k.mutex) == sl) ≡ true → (fields_of sl).died ≡ (before k.mutex).died
      died_is e = ap (λ (v : ℕ). (fields_of v).died) (sym (was e)) ∙ died_before k.mutex ours_k

      taken_here : (W (slot_of k.mutex) == sl) ≡ true → Is (Access.Exchange (slot_at k.mutex) sl (taken_word sl t)) → TakesSlot x.machine y.machine t k (Row.SlotLinks k (fields_of sl).died) k.mutex
      taken_here e is = record {
        here = refl;
        none = sym (owner_before k.mutex ours_k) ∙ ap (λ (v : ℕ). (fields_of v).owner) (was e) ∙ free;
        mine = sym (owner_behind k.mutex ours_k) ∙ ap (λ (v : ℕ). (fields_of v).owner) (now e is) ∙ taken_owner t sl small;
        died = sym (died_behind k.mutex ours_k) ∙ ap (λ (v : ℕ). (fields_of v).died) (now e is) ∙ taken_died t sl small ∙ died_is e;
        next_is = ap (λ (d : Bool). Row.SlotLinks k d) (died_is e);
      }

      hit : (W (slot_of k.mutex) == sl) ≡ true → Is (Access.Exchange (slot_at k.mutex) sl (taken_word sl t)) → (k.mutex ≡ m) ⊎ (k.mutex ≢ m) → Stays m ⊎ TakesSlot x.machine y.machine t k (Row.SlotLinks k (fields_of sl).died) m
      hit e is (inl here) = inr (subst (λ (j : ℕ). TakesSlot x.machine y.machine t k (Row.SlotLinks k (fields_of sl).died) j) here (taken_here e is))
      hit e is (inr apart) = inl (other_stays (Access.Exchange (slot_at k.mutex) sl (taken_word sl t)) k.mutex m ours_k ours refl is apart)

  mends_slot : (k : Taking) (m : ℕ) → IsOurs l k.mutex → IsOurs l m → (before k.mutex).owner ≡ t → IsMade (Row.SlotMends k) → Stays m ⊎ ((k.mutex ≡ m) × ((before m).owner ≡ t) × ((behind m).owner ≡ t))
  mends_slot k m ours_k ours own is = go (same_or k.mutex m)
    where
      declares : Access
      declares = Access.FetchAnd (slot_at k.mutex) 18446744072635809791

      mine : (behind k.mutex).owner ≡ t
      mine = sym (owner_behind k.mutex ours_k) ∙ ap (λ (v : ℕ). (fields_of v).owner) (words.its_word x y t c inv pos known small same declares (slot_of k.mutex) tt (our_slot l k.mutex ours_k) refl is) ∙ (and_declared (W (slot_of k.mutex))).owner ∙ owner_before k.mutex ours_k ∙ own

      go : (k.mutex ≡ m) ⊎ (k.mutex ≢ m) → Stays m ⊎ ((k.mutex ≡ m) × ((before m).owner ≡ t) × ((behind m).owner ≡ t))
      go (inl here) = inr (here, subst (λ (j : ℕ). (before j).owner ≡ t) here own, subst (λ (j : ℕ). (behind j).owner ≡ t) here mine)
      go (inr apart) = inl (other_stays declares k.mutex m ours_k ours refl is apart)

  frees_slot : (k : Taking) (m : ℕ) → IsOurs l k.mutex → IsOurs l m → (before k.mutex).owner ≡ t → Is (Access.FetchXor (slot_at k.mutex) t) → (Stays m × (k.mutex ≢ m)) ⊎ (((before m).owner ≡ t) × ((behind m).owner ≡ 0))
  frees_slot k m ours_k ours own is = go (same_or k.mutex m)
    where
      freed : (behind k.mutex).owner ≡ 0
      freed = sym (owner_behind k.mutex ours_k) ∙ ap (λ (v : ℕ). (fields_of v).owner) (words.its_word x y t c inv pos known small same (Access.FetchXor (slot_at k.mutex) t) (slot_of k.mutex) tt (our_slot l k.mutex ours_k) refl is) ∙ ap (λ (f : Fields). f.owner) (xor_released (W (slot_of k.mutex)) t (owner_before k.mutex ours_k ∙ own))

      go : (k.mutex ≡ m) ⊎ (k.mutex ≢ m) → (Stays m × (k.mutex ≢ m)) ⊎ (((before m).owner ≡ t) × ((behind m).owner ≡ 0))
      go (inl here) = inr (subst (λ (j : ℕ). (before j).owner ≡ t) here own, subst (λ (j : ℕ). (behind j).owner ≡ 0) here freed)
      go (inr apart) = inl (other_stays (Access.FetchXor (slot_at k.mutex) t) k.mutex m ours_k ours refl is apart, apart)

  -- ---- the next row

  either : (P : Row → Type 0) (b : Bool) (r s : Row) → P r → P s → P (if b then r else s)
  either P true r s first second = first
  either P false r s first second = second

  made_either : (P : Row → Type 0) (b : Bool) (n o : Made) → P n.next → P o.next → P (if b then n else o).next
  made_either P true n o first second = first
  made_either P false n o first second = second

  along : (P : Row → Type 0) (here next : Row) → P here → P next → P (if is_on_list ((run x.machine (Step t ∷ [])).threads t).stage then here else next)
  along P here next now then_on = either P (is_on_list ((run x.machine (Step t ∷ [])).threads t).stage) here next now then_on

  watched : (P : Row → Type 0) (k : Taking) (v : ℕ) (over : Bool) → P (Row.HeirTakes k v) → P (Row.HeirPends k Again) → P (Row.GivesUp k) → P (watched_row x t c k v over)
  watched P k v over takes pends gives = either P (over && is_free v) (Row.HeirTakes k v) (if over && not (fields_of v).unusable && not (k.timed && c.yes) then Row.HeirPends k Again else Row.GivesUp k) takes (either P (over && not (fields_of v).unusable && not (k.timed && c.yes)) (Row.HeirPends k Again) (Row.GivesUp k) pends gives)

  looks : (P : Row → Type 0) (k : Taking) (v : ℕ) (a b : Bool) → P (Row.HeirPendsOn k v true) → P (Row.HeirPends k Again) → P (Row.HeirPendsOn k v false) → P (if a then Row.HeirPendsOn k v true else if b then Row.HeirPends k Again else Row.HeirPendsOn k v false)
  looks P k v true b over sets on = over
  looks P k v false true over sets on = sets
  looks P k v false false over sets on = on

  out_has : (k : Taking) (m : ℕ) → k.mutex ≡ m → HasSlot (out_of x t c k) m
  out_has k m h = either (λ (r : Row). HasSlot r m) (k.timed && c.yes) (Row.Frees k (Fails ETIMEDOUT)) (Row.Frees k Sleeps) h h

  last_has : (k : Taking) (m : ℕ) (w : ℕ) (look : Access) → k.mutex ≡ m → (a b d : Bool) → HasSlot (
      if a then makes look (Step t ∷ []) (if d then Row.HeirWakes k else Row.Frees k (Fails ENOTRECOVERABLE))
      else if b then makes look [] (Row.HeirPends k Again)
      else if d then makes look (Step t ∷ (Step t ∷ (Event.Expire t ∷ []))) (out_of x t c k)
      else makes look [] (Row.LastMarks k w)
      ).next m
  last_has k m w look h true b true = h
  last_has k m w look h true b false = h
  last_has k m w look h false true d = h
  last_has k m w look h false false true = out_has k m h
  last_has k m w look h false false false = h

  -- it keeps its slot
  keeps_slot : (r : Row) (m : ℕ) → (IsOfSlot r → ⊥) → HasSlot r m → HasSlot (made x t c r).next m
  keeps_slot (Row.SlotLinks k d) m never h = along (λ (r : Row). HasSlot r m) (Row.SlotLinks k d) (if d then Row.SlotClears k else Row.HeirPends k Linked) h (either (λ (r : Row). HasSlot r m) d (Row.SlotClears k) (Row.HeirPends k Linked) h h)
  keeps_slot (Row.SlotClears k) m never h = h
  keeps_slot (Row.SlotQuiets k) m never h = h
  keeps_slot (Row.SlotMends k) m never h = h
  keeps_slot (Row.HeirPends k b) m never h = h
  keeps_slot (Row.HeirSets k) m never h = h
  keeps_slot (Row.HeirLooks k) m never h = looks (λ (r : Row). HasSlot r m) k (W (cell_of k.mutex)) ((fields_of (W (cell_of k.mutex))).unusable || (is_free (W (cell_of k.mutex)) && c.yes)) c.again h h h
  keeps_slot (Row.HeirPendsOn k v over) m never h = watched (λ (r : Row). HasSlot r m) k v over h h h
  keeps_slot (Row.HeirTakes k v) m never h = made_either (λ (r : Row). HasSlot r m) (W (cell_of k.mutex) == v) (makes (Access.Exchange (cell_in l t (cell_of k.mutex)) v (taken_word v t)) (Step t ∷ Step t ∷ []) (Row.HeirHas k (acquired (fields_of v)))) (makes (Access.Exchange (cell_in l t (cell_of k.mutex)) v (taken_word v t)) [] (watched_row x t c k (W (cell_of k.mutex)) true)) h (watched (λ (r : Row). HasSlot r m) k (W (cell_of k.mutex)) true h h h)
  keeps_slot (Row.HeirHas k r) m never h = h
  keeps_slot (Row.HeirLinks k r) m never h = along (λ (r : Row). HasSlot r m) (Row.HeirLinks k r) (Row.Frees k (Has r)) h h
  keeps_slot (Row.GivesUp k) m never h = h
  keeps_slot (Row.LastLooks k) m never h = last_has k m (W (cell_of k.mutex)) (Access.Load (cell_in l t (cell_of k.mutex))) h (fields_of (W (cell_of k.mutex))).unusable ((fields_of (W (cell_of k.mutex))).owner == 0) (fields_of (W (cell_of k.mutex))).waiters
  keeps_slot (Row.LastMarks k v) m never h = made_either (λ (r : Row). HasSlot r m) (W (cell_of k.mutex) == v) (makes (Access.Exchange (cell_in l t (cell_of k.mutex)) v (waiting_word v)) (sets_and_expires t) (out_of x t c k)) (makes (Access.Exchange (cell_in l t (cell_of k.mutex)) v (waiting_word v)) [] (Row.HeirPends k Again)) (out_has k m h) h
  keeps_slot (Row.HeirWakes k) m never h = h
  keeps_slot (Row.Frees k f) m never h = h
  keeps_slot (Row.FreeUnlinks k f) m never h = along (λ (r : Row). HasSlot r m) (Row.FreeUnlinks k f) (Row.FreeGives k f) h h
  keeps_slot (Row.FreeGives k f) m never h = absurd (never tt)
  keeps_slot r m never h = absurd h

  -- ---- AWAKE

  cleared : (k m : ℕ) → k ≡ m → put x.awake k false m ≡ true → ⊥
  cleared k m here on = cc (sym (put-same x.awake k false) ∙ ap (put x.awake k false) here ∙ on)

  stays_awake : (r : Row) (m : ℕ) → HasSlot r m → (x.awake m ≡ true → MayBeAwake r) → (IsOfSlot r → ⊥) → awake_after r x.awake m ≡ true → MayBeAwake (made x t c r).next
  stays_awake (Row.SlotLinks k d) m h calm never on = along MayBeAwake (Row.SlotLinks k d) (if d then Row.SlotClears k else Row.HeirPends k Linked) (calm on) (go d (calm on))
    where
      go : (b : Bool) → b ≡ true → MayBeAwake (if b then Row.SlotClears k else Row.HeirPends k Linked)
      go true e = tt
      go false e = absurd cc
  stays_awake (Row.SlotClears k) m h calm never on = tt
  stays_awake (Row.SlotQuiets k) m h calm never on = absurd (cleared k.mutex m h on)
  stays_awake (Row.HeirPends k b) m h calm never on = tt
  stays_awake (Row.HeirSets k) m h calm never on = tt
  stays_awake (Row.HeirLooks k) m h calm never on = looks MayBeAwake k (W (cell_of k.mutex)) ((fields_of (W (cell_of k.mutex))).unusable || (is_free (W (cell_of k.mutex)) && c.yes)) c.again tt tt tt
  stays_awake (Row.HeirPendsOn k v over) m h calm never on = watched MayBeAwake k v over tt tt tt
  stays_awake (Row.HeirTakes k v) m h calm never on = made_either MayBeAwake (W (cell_of k.mutex) == v) (makes (Access.Exchange (cell_in l t (cell_of k.mutex)) v (taken_word v t)) (Step t ∷ Step t ∷ []) (Row.HeirHas k (acquired (fields_of v)))) (makes (Access.Exchange (cell_in l t (cell_of k.mutex)) v (taken_word v t)) [] (watched_row x t c k (W (cell_of k.mutex)) true)) tt (watched MayBeAwake k (W (cell_of k.mutex)) true tt tt tt)
  stays_awake (Row.HeirHas k r) m h calm never on = absurd (cleared k.mutex m h on)
  stays_awake (Row.HeirLinks k r) m h calm never on = absurd (calm on)
  stays_awake (Row.GivesUp k) m h calm never on = absurd (cleared k.mutex m h on)
  stays_awake (Row.LastLooks k) m h calm never on = absurd (calm on)
  stays_awake (Row.LastMarks k v) m h calm never on = absurd (calm on)
  stays_awake (Row.HeirWakes k) m h calm never on = absurd (calm on)
  stays_awake (Row.Frees k f) m h calm never on = absurd (calm on)
  stays_awake (Row.FreeUnlinks k f) m h calm never on = absurd (calm on)
  stays_awake (Row.SlotMends k) m h calm never on = absurd (never tt)
  stays_awake (Row.FreeGives k f) m h calm never on = absurd (never tt)
  stays_awake r m h calm never on = absurd h

  -- AWAKE is set or cleared only by the slot's owner
  pub awake_else : (r : Row) (m : ℕ) → Owning x.machine t r → (before m).owner ≢ t → awake_after r x.awake m ≡ x.awake m
  awake_else (Row.HeirSets k) m own apart = put-other x.awake k.mutex true m (λ e. apart (subst (λ (j : ℕ). (before j).owner ≡ t) (sym e) own.0.owner))
  awake_else (Row.SlotQuiets k) m own apart = put-other x.awake k.mutex false m (λ e. apart (subst (λ (j : ℕ). (before j).owner ≡ t) (sym e) own.0.owner))
  awake_else (Row.HeirHas k r) m own apart = put-other x.awake k.mutex false m (λ e. apart (subst (λ (j : ℕ). (before j).owner ≡ t) (sym e) own.owner))
  awake_else (Row.GivesUp k) m own apart = put-other x.awake k.mutex false m (λ e. apart (subst (λ (j : ℕ). (before j).owner ≡ t) (sym e) own.0.owner))
  awake_else r m own apart = refl

  -- ---- the heir

  abbrev HeirThen : Row → ℕ → Type 0
  HeirThen r m = IsHeir (run x.machine (made x t c r).events) (cell_of m) t

  module _ (from : IsReached x.machine) (out : (key : ℕ) → stands_in t (x.machine.queues key) ≡ false) where
    lock_at : (k : Taking) → IsOurs l k.mutex → IsIn (TimedLock (cell_of k.mutex)) at_load (x.machine.threads t).stage → IsAtLock x.machine t (cell_of k.mutex)
    lock_at k ours there = record { reached = from; first = pos; last = known; inside = our_cell l k.mutex ours; there = there; out = out }

    room_at : (k : Taking) → IsOurs l k.mutex → (fields_at x.machine (cell_of k.mutex)).rest ≡ 0
    room_at k ours = (words_sound x.machine from).room (cell_of k.mutex) (our_cell l k.mutex ours)

    marked_not : (k m : ℕ) → k ≡ m → (before k).died ≡ true → (before m).died ≡ false → ⊥
    marked_not k m here marked alive = cc (sym marked ∙ ap (λ (j : ℕ). (before j).died) here ∙ alive)

    here_too : (r : Row) (k m : ℕ) → k ≡ m → HeirThen r k → HeirThen r m
    here_too r k m here heir = subst (λ (j : ℕ). HeirThen r j) here heir

    heir_then : (r : Row) (g : Stage) (m : ℕ) → Fits l t r g → Owning x.machine t r → StandsAs r (x.machine.threads t).stage → HasSlot r m → (x.awake m ≡ true → MayBeAwake r) → (IsOfSlot r → ⊥) → (before m).died ≡ false → awake_after r x.awake m ≡ true → HeirThen r m
    heir_then (Row.SlotLinks k d) g m o own there h calm never alive on = absurd (marked_not k.mutex m h (own.0.died ∙ calm on) alive)
    heir_then (Row.SlotClears k) g m o own there h calm never alive on = absurd (marked_not k.mutex m h own.0.died alive)
    heir_then (Row.SlotQuiets k) g m o own there h calm never alive on = absurd (cleared k.mutex m h on)
    heir_then (Row.HeirPends k Linked) g m o own there h calm never alive on = absurd (calm on)
    heir_then (Row.HeirPends k Mended) g m o own there h calm never alive on = absurd (calm on)
    heir_then (Row.HeirPends k Again) g m o own there h calm never alive on = here_too (Row.HeirPends k Again) k.mutex m h (go_on x t c k (Row.HeirPends k Again) (lock_at k o.ours there) (room_at k o.ours) refl)
    heir_then (Row.HeirSets k) g m o own there h calm never alive on = here_too (Row.HeirSets k) k.mutex m h (go_on x t c k (Row.HeirSets k) (lock_at k o.ours there) (room_at k o.ours) refl)
    heir_then (Row.HeirLooks k) g m o own there h calm never alive on = here_too (Row.HeirLooks k) k.mutex m h (go_on x t c k (Row.HeirLooks k) (lock_at k o.ours there) (room_at k o.ours) refl)
    heir_then (Row.HeirPendsOn k v over) g m o own there h calm never alive on = here_too (Row.HeirPendsOn k v over) k.mutex m h (go_on x t c k (Row.HeirPendsOn k v over) (lock_at k o.ours there) (room_at k o.ours) refl)
    heir_then (Row.HeirTakes k v) g m o own there h calm never alive on = here_too (Row.HeirTakes k v) k.mutex m h (go_on x t c k (Row.HeirTakes k v) (lock_at k o.0.ours there) (room_at k o.0.ours) (refl, o.1))
    heir_then (Row.HeirHas k r) g m o own there h calm never alive on = absurd (cleared k.mutex m h on)
    heir_then (Row.HeirLinks k r) g m o own there h calm never alive on = absurd (calm on)
    heir_then (Row.GivesUp k) g m o own there h calm never alive on = absurd (cleared k.mutex m h on)
    heir_then (Row.LastLooks k) g m o own there h calm never alive on = absurd (calm on)
    heir_then (Row.LastMarks k v) g m o own there h calm never alive on = absurd (calm on)
    heir_then (Row.HeirWakes k) g m o own there h calm never alive on = absurd (calm on)
    heir_then (Row.Frees k f) g m o own there h calm never alive on = absurd (calm on)
    heir_then (Row.FreeUnlinks k f) g m o own there h calm never alive on = absurd (calm on)
    heir_then (Row.SlotMends k) g m o own there h calm never alive on = absurd (never tt)
    heir_then (Row.FreeGives k f) g m o own there h calm never alive on = absurd (never tt)
    heir_then r g m o own there h calm never alive on = absurd h

  -- ---- each row

  abbrev Alone : Row → Type 0
  Alone r = (m : ℕ) → IsOurs l m → (before m).owner ≡ t → HasSlot r m

  abbrev Calm : Row → Type 0
  Calm r = (m : ℕ) → IsOurs l m → (before m).owner ≡ t → x.awake m ≡ true → MayBeAwake r

  abbrev FreeOnes : Type 0
  FreeOnes = (m : ℕ) → IsOurs l m → (before m).owner ≡ 0 → (before m).died ≡ false → x.awake m ≡ false

  nobody : (n : ℕ) → n ≡ 0 → n ≡ t → ⊥
  nobody n none mine = absurd (omega (arith, none, mine, pos))

  pub alone_row : (r : Row) (g : Stage) → Fits l t r g → Owning x.machine t r → OnList r → IsMade r → NoneThen r → Alone r → (m : ℕ) → IsOurs l m → (behind m).owner ≡ t → HasSlot (made x t c r).next m
  alone_row (Row.SlotTakes k sl) g o own apart is none alone m ours mine = go (takes_slot k sl m o.0.ours ours o.1 is)
    where
      go : Stays m ⊎ TakesSlot x.machine y.machine t k (made x t c (Row.SlotTakes k sl)).next m → HasSlot (made x t c (Row.SlotTakes k sl)).next m
      go (inl s) = absurd (alone m ours (sym s.owner ∙ mine))
      go (inr took) = subst (λ (r : Row). HasSlot r m) (sym took.next_is) took.here
  alone_row (Row.SlotMends k) g o own apart is none alone m ours mine = go (mends_slot k m o.ours ours own.0.owner is)
    where
      go : Stays m ⊎ ((k.mutex ≡ m) × ((before m).owner ≡ t) × ((behind m).owner ≡ t)) → k.mutex ≡ m
      go (inl s) = alone m ours (sym s.owner ∙ mine)
      go (inr (here, was, now)) = here
  alone_row (Row.FreeGives k f) g o own apart is none alone m ours mine = absurd (go (frees_slot k m o.ours ours own.0.owner is))
    where
      go : (Stays m × (k.mutex ≢ m)) ⊎ (((before m).owner ≡ t) × ((behind m).owner ≡ 0)) → ⊥
      go (inl (s, far)) = far (alone m ours (sym s.owner ∙ mine))
      go (inr (was, freed)) = nobody (behind m).owner freed mine
  alone_row r g o own apart is none alone m ours mine = keeps_slot r m (λ e. e) (alone m ours (sym (stays_row r g o own apart (λ e. e) is none m ours).owner ∙ mine))

  pub calm_row : (r : Row) (g : Stage) → Fits l t r g → Owning x.machine t r → OnList r → IsMade r → NoneThen r → Alone r → Calm r → FreeOnes → (m : ℕ) → IsOurs l m → (behind m).owner ≡ t → awake_after r x.awake m ≡ true → MayBeAwake (made x t c r).next
  calm_row (Row.SlotTakes k sl) g o own apart is none alone calm free m ours mine on = go (takes_slot k sl m o.0.ours ours o.1 is)
    where
      marked : (d : Bool) → (before m).died ≡ d → (before m).owner ≡ 0 → d ≡ true
      marked true e none = refl
      marked false e none = absurd (cc (sym (free m ours none e) ∙ on))

      go : Stays m ⊎ TakesSlot x.machine y.machine t k (made x t c (Row.SlotTakes k sl)).next m → MayBeAwake (made x t c (Row.SlotTakes k sl)).next
      go (inl s) = absurd (alone m ours (sym s.owner ∙ mine))
      go (inr took) = subst MayBeAwake (sym took.next_is) (marked (before m).died refl took.none)
  calm_row (Row.SlotMends k) g o own apart is none alone calm free m ours mine on = absurd (go (mends_slot k m o.ours ours own.0.owner is))
    where
      go : Stays m ⊎ ((k.mutex ≡ m) × ((before m).owner ≡ t) × ((behind m).owner ≡ t)) → ⊥
      go (inl s) = calm m ours (sym s.owner ∙ mine) on
      go (inr (here, was, now)) = calm m ours was on
  calm_row (Row.FreeGives k f) g o own apart is none alone calm free m ours mine on = absurd (go (frees_slot k m o.ours ours own.0.owner is))
    where
      go : (Stays m × (k.mutex ≢ m)) ⊎ (((before m).owner ≡ t) × ((behind m).owner ≡ 0)) → ⊥
      go (inl (s, far)) = far (alone m ours (sym s.owner ∙ mine))
      go (inr (was, freed)) = nobody (behind m).owner freed mine
  calm_row r g o own apart is none alone calm free m ours mine on = let was = sym (stays_row r g o own apart (λ e. e) is none m ours).owner ∙ mine in stays_awake r m (alone m ours was) (calm m ours was) (λ e. e) on

  pub free_row : (r : Row) (g : Stage) → Fits l t r g → Owning x.machine t r → OnList r → IsMade r → NoneThen r → Calm r → FreeOnes → (m : ℕ) → IsOurs l m → (behind m).owner ≡ 0 → (behind m).died ≡ false → awake_after r x.awake m ≡ false
  free_row (Row.SlotTakes k sl) g o own apart is none calm free m ours nobodys alive = go (takes_slot k sl m o.0.ours ours o.1 is)
    where
      go : Stays m ⊎ TakesSlot x.machine y.machine t k (made x t c (Row.SlotTakes k sl)).next m → x.awake m ≡ false
      go (inl s) = free m ours (sym s.owner ∙ nobodys) (sym s.died ∙ alive)
      go (inr took) = absurd (nobody (behind m).owner nobodys took.mine)
  free_row (Row.SlotMends k) g o own apart is none calm free m ours nobodys alive = go (mends_slot k m o.ours ours own.0.owner is)
    where
      go : Stays m ⊎ ((k.mutex ≡ m) × ((before m).owner ≡ t) × ((behind m).owner ≡ t)) → x.awake m ≡ false
      go (inl s) = free m ours (sym s.owner ∙ nobodys) (sym s.died ∙ alive)
      go (inr (here, was, now)) = absurd (nobody (behind m).owner nobodys now)
  free_row (Row.FreeGives k f) g o own apart is none calm free m ours nobodys alive = go (frees_slot k m o.ours ours own.0.owner is)
    where
      off : (b : Bool) → x.awake m ≡ b → (before m).owner ≡ t → b ≡ false
      off true e was = absurd (calm m ours was e)
      off false e was = refl

      go : (Stays m × (k.mutex ≢ m)) ⊎ (((before m).owner ≡ t) × ((behind m).owner ≡ 0)) → x.awake m ≡ false
      go (inl (s, far)) = free m ours (sym s.owner ∙ nobodys) (sym s.died ∙ alive)
      go (inr (was, freed)) = off (x.awake m) refl was
  free_row r g o own apart is none calm free m ours nobodys alive =
      let s = stays_row r g o own apart (λ e. e) is none m ours in let was = sym s.owner ∙ nobodys in
      awake_else r m own (λ e. nobody (before m).owner was e) ∙ free m ours was (sym s.died ∙ alive)

  pub heir_row : (r : Row) (g : Stage) → IsReached x.machine → ((key : ℕ) → stands_in t (x.machine.queues key) ≡ false) → Fits l t r g → Owning x.machine t r → StandsAs r (x.machine.threads t).stage → OnList r → IsMade r → NoneThen r → Alone r → Calm r → FreeOnes → (m : ℕ) → IsOurs l m → (behind m).owner ≡ t → (behind m).died ≡ false → awake_after r x.awake m ≡ true → HeirThen r m
  heir_row (Row.SlotTakes k sl) g from out o own there apart is none alone calm free m ours mine alive on = absurd (go (takes_slot k sl m o.0.ours ours o.1 is))
    where
      go : Stays m ⊎ TakesSlot x.machine y.machine t k (made x t c (Row.SlotTakes k sl)).next m → ⊥
      go (inl s) = alone m ours (sym s.owner ∙ mine)
      go (inr took) = cc (sym (free m ours took.none (sym took.died ∙ alive)) ∙ on)
  heir_row (Row.SlotMends k) g from out o own there apart is none alone calm free m ours mine alive on = absurd (go (mends_slot k m o.ours ours own.0.owner is))
    where
      go : Stays m ⊎ ((k.mutex ≡ m) × ((before m).owner ≡ t) × ((behind m).owner ≡ t)) → ⊥
      go (inl s) = calm m ours (sym s.owner ∙ mine) on
      go (inr (here, was, now)) = calm m ours was on
  heir_row (Row.FreeGives k f) g from out o own there apart is none alone calm free m ours mine alive on = absurd (go (frees_slot k m o.ours ours own.0.owner is))
    where
      go : (Stays m × (k.mutex ≢ m)) ⊎ (((before m).owner ≡ t) × ((behind m).owner ≡ 0)) → ⊥
      go (inl (s, far)) = far (alone m ours (sym s.owner ∙ mine))
      go (inr (was, freed)) = nobody (behind m).owner freed mine
  heir_row r g from out o own there apart is none alone calm free m ours mine alive on =
      let s = stays_row r g o own apart (λ e. e) is none m ours in let was = sym s.owner ∙ mine in
      heir_then from out r g m o own there (alone m ours was) (calm m ours was) (λ e. e) (sym s.died ∙ alive) on
