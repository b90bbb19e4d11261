-- What a row assumes, by what fits it and by what is still taken for granted of it.
use Rattle.std.proofs.Common.{◌≡◌, ◌≢◌, ℕ, ◌+◌, ◌*◌, ◌/◌, ◌%◌, ◌<◌, ◌≤◌, Bool, true, false, sym, ◌∙◌, arith, refl, subst, ap}
use Rattle.std.proofs.lemmas.Bool.{eqb-false}
use Rattle.lockword.specs.Cells.{bit, fields_of}
use Rattle.lockword.specs.Coding.{word_of-fields_of}
use Rattle.memorymap.specs.Layouts.{Layout', cell_place, counter_place}
use Rattle.protocol.specs.declared.thread.Stage.{Stage}
use Rattle.protocol.specs.Machine.{State}
use Rattle.posixmutex.specs.Objects.{acquires}
use Rattle.mutex.specs.Calls as calls
use Rattle.mutex.specs.declared.call.Call.{Call}
use Rattle.mutex.specs.declared.call.Call.TheVariants.{TimedLock, TryLock}
use Rattle.mutex.specs.declared.phase.Phase.{Phase}
use Rattle.mutex.specs.declared.phase.Phase.TheVariants.{AtCell}
use Rattle.mutex.specs.declared.row.Row as mutex_row
use Rattle.mutex.specs.Standings.{Whole}
use Rattle.condvar.specs.Ops.{mutex_of}
use Rattle.condvar.specs.declared.op.Op.{Op}
use Rattle.condvar.specs.declared.op.Op.TheVariants.{OnMutex, OnCondition}
use Rattle.protocol.specs.declared.thread.Stage.TheVariants.{Calling}
use Rattle.protocol.specs.Headline.{seen}
use Rattle.protocol.proofs.Accesses.{fits_in}
use Rattle.protocol.proofs.Counters.{Counted}
use Rattle.protocol.proofs.Kept.{InPhase, Kept}
use Rattle.slots.specs.Stands.{HasChosen, IsIn, IsRetaking, IsToLook, IsToSleep, StandsAs}
use Rattle.slots.specs.Rows.How.{Tried, Later, Waited}
use Rattle.slots.specs.Places.{cell_of, slot_of}
use Rattle.slots.specs.Rows.{How, Taking, Row}
use Rattle.slots.specs.Rows.Before.{Linked, Mended, Again}
use Rattle.slots.specs.Rows.Giving.{OfUnlock, OfWait}
use Rattle.slots.specs.Rows.Then.{ToSleep, ToSlot}
use Rattle.slots.specs.Shown.{Slots}
use Rattle.slots.specs.Words.{is_free}
use Rattle.slots.specs.Invariant.{fields_at}
use Rattle.slots.specs.Laws.{IsReached}
use Rattle.slots.specs.Accesses.{Owns}
use Rattle.slots.specs.Further.{MayTake, OwnsMarked}
use Rattle.slots.specs.Each.{Assumes, IsToTake, SlotIsSmall}
use Rattle.slots.specs.Goes.{AssumesToo, SleepsLater}
use Rattle.slots.specs.Fits.{Fits, IsApart, IsOurs}
use Rattle.slots.specs.Premises.{KnowsItsTurn, HeirTakesOver, MayOwnMore, SeesCount, KnowsSlept, Holds, Owning, SlotsAreQuiet, Trusts, WordsAreSound}
use Rattle.slots.proofs.Free.{reached_kept}
use Rattle.slots.proofs.HeldRows.{Few, RoomAt, few_says}
use Rattle.slots.proofs.Meets.{usable_if_owned}
use Rattle.slots.proofs.Rooms.{words_sound}
use Rattle.slots.proofs.Owned.{our_cell, our_slot}

-- a usable mutex's word has 32 bits
pub small_word : (w : ℕ) → (fields_of w).unusable ≡ false → (fields_of w).rest ≡ 0 → w < 4294967296
small_word w usable room = let flag : w / 4294967296 % 2 ≢ 1 = (λ e. eqb-false (w / 4294967296 % 2) 1 usable e) in let above : w / 8589934592 ≡ 0 = room in omega (arith, flag, above)

-- a word with its owner alone
pub owner_alone : (w t : ℕ) → (fields_of w).owner ≡ t → (fields_of w).died ≡ false → (fields_of w).waiters ≡ false → (fields_of w).unusable ≡ false → (fields_of w).rest ≡ 0 → w ≡ t
owner_alone w t owner died waiters usable room =
    sym (word_of-fields_of w)
    ∙ (λ i. owner i + bit (died i) 1073741824 + bit (waiters i) 2147483648 + bit (usable i) 4294967296 + room i * 8589934592)
    ∙ (let e : t + 0 + 0 + 0 + 0 * 8589934592 ≡ t = omega arith in e)

module _ (x : Slots) (t : ℕ) (from : IsReached x.machine) (first : 1 ≤ t) (last : t ≤ x.machine.layout.threads) where
  abbrev z : State
  z = x.machine

  abbrev l : Layout'
  l = z.layout

  abbrev g : Stage
  g = (z.threads t).stage

  inv : Kept z
  inv = reached_kept z from

  words : WordsAreSound z
  words = words_sound z from

  may : (m : ℕ) → IsOurs l m → (z.threads t).held < 2048 → MayTake x t m
  may m ours room = record { inside = our_cell l m ours; room = room }

  -- a call of the machine at the cell, which may take it: the thread may own one more
  room_in : (o : Op) (p : Whole) (r : mutex_row.Row) → g ≡ Calling o p → p.phase ≡ AtCell r → acquires p.operation ≡ true → (z.threads t).held < 2048
  room_in o p r is phase acquiring = (subst (λ (f : Phase). InPhase t (z.threads t).held p f (seen z (mutex_of l o))) phase (fits_in z t o p inv first last is).0.stands).room acquiring

  in_lock : (c : Call) (r : mutex_row.Row) → acquires (calls.acts_as c) ≡ true → IsIn c (AtCell r) g → (z.threads t).held < 2048
  in_lock c r acquiring (p, is, phase) = room_in (OnMutex c) p r is phase (ap acquires (fits_in z t (OnMutex c) p inv first last is).1 ∙ acquiring)

  in_retake : (y : ℕ) (r : mutex_row.Row) → IsRetaking y (AtCell r) g → (z.threads t).held < 2048
  in_retake y r (o, p, is, of, acts, phase) = room_in (OnCondition o) p r is phase (ap acquires (fits_in z t (OnCondition o) p inv first last is).1.0)

  looking : (k : Taking) (h : How) → IsToLook k h g → (z.threads t).held < 2048
  looking k Tried there = in_lock (TryLock (cell_of k.mutex)) _ refl there
  looking k Later there = in_lock (TimedLock (cell_of k.mutex)) _ refl there
  looking k (Waited y) there = in_retake y _ there

  below : (z.threads t).held < 2046 → (z.threads t).held < 2048
  below w = omega (arith, w)

  below_slot : (z.threads t).held < 2047 → (z.threads t).held < 2048
  below_slot w = omega (arith, w)

  -- the lock that ends a wait is at the cell
  marking : (k : Taking) (h : How) (v : ℕ) → HasChosen k h false v g → Few h (z.threads t).held → (z.threads t).held < 2048
  marking k Tried v there w = below w
  marking k Later v there w = below w
  marking k (Waited y) v there w = in_retake y _ there

  sleeping : (k : Taking) (h : How) (v : ℕ) → IsToSleep k h v g → Few h (z.threads t).held → (z.threads t).held < 2048
  sleeping k Tried v there w = below w
  sleeping k Later v there w = below w
  sleeping k (Waited y) v (f, low, there) w = in_retake y _ there

  -- what the row says of it
  pub may_own : (r : Row) → StandsAs r g → Fits l t r g → RoomAt (z.threads t).held r → MayOwnMore x t r
  may_own (Row.Looks k) there o w = below w
  may_own (Row.Pends k v) there o w = below w
  may_own (Row.SeesAgain k v) there o w = below (few_says k.how (z.threads t).held o.1 w)
  may_own (Row.Marks k v n) there o w = marking k k.how v there w
  may_own (Row.SleepsOn k v) there o w = sleeping k k.how v there w
  may_own (Row.SlotPends k sl) there o w = below w
  may_own (Row.SlotLeft k) there o w = below w
  may_own (Row.HeirPends k b) there o w = below_slot w
  may_own (Row.TryLooks m) there o w = below w
  may_own (Row.TryPends m v) there o w = below w
  may_own r there o w = tt

  some : (k : ℕ) → (fields_at z k).owner ≡ t → (fields_at z k).owner ≢ 0
  some k own e = absurd (omega (arith, own, e))

  usable : (k : ℕ) → k < l.mutexes → (fields_at z k).owner ≡ t → (fields_at z k).unusable ≡ false
  usable k inside own = usable_if_owned z k inv inside (some k own)

  owns : (k : ℕ) (d : Bool) → k < l.mutexes → Holds z t k d → Owns z t k
  owns k d inside h = record { owner = h.owner; usable = usable k inside h.owner }

  slot_small : (m : ℕ) → IsOurs l m → SlotsAreQuiet z → x.turns (slot_of m) < 2147483648 → SlotIsSmall x m
  slot_small m ours quiet few = record {
    inside = our_slot l m ours;
    small = small_word (z.words (cell_place l (slot_of m))) (quiet m ours).usable (words.room (slot_of m) (our_slot l m ours));
    few = few;
  }

  marked : (k : ℕ) (r : Row) → k < l.mutexes → Trusts x t r → Holds z t k true → x.turns k < 2147483648 → OwnsMarked x t k
  marked k r inside w h few = record {
    inside = inside;
    owner = h.owner;
    died = h.died;
    small = small_word (z.words (cell_place l k)) (usable k inside h.owner) (words.room k inside);
    few = few;
  }

  free_one : (m v : ℕ) (r : Row) → IsOurs l m → Trusts x t r → is_free v ≡ true → IsToTake x m v
  free_one m v r ours w free = record { free = free; room = words.room (cell_of m) (our_cell l m ours) }

  pub assume_row : (r : Row) → StandsAs r g → Fits l t r g → Owning z t r → SlotsAreQuiet z → KnowsItsTurn x r → MayOwnMore x t r → SeesCount x r → KnowsSlept x r → Trusts x t r → Assumes x t r
  assume_row (Row.Pends k v) there o own quiet knows more sees silent w = may k.mutex o.0.ours more
  assume_row (Row.Sees k) there o own quiet knows more sees silent w = may k.mutex o.ours (looking k k.how there)
  assume_row (Row.Takes k v) there o own quiet knows more sees silent w = (may k.mutex o.0.ours (looking k k.how there), free_one k.mutex v _ o.0.ours w o.1)
  assume_row (Row.SeesAgain k v) there o own quiet knows more sees silent w = (may k.mutex o.0.ours more, o.1)
  assume_row (Row.Marks k v ToSleep) there o own quiet knows more sees silent w = (may k.mutex o.0.ours more, o.1)
  assume_row (Row.Marks k v (ToSlot sl)) there o own quiet knows more sees silent w = (may k.mutex o.0.ours more, o.1.0)
  assume_row (Row.SlotPends k sl) there o own quiet knows more sees silent w = (our_slot l k.mutex o.0.ours, more)
  assume_row (Row.SlotTakes k sl) there o own quiet knows more sees silent w = record { inside = our_slot l k.mutex o.0.ours; nobody = o.1; usable = (quiet k.mutex o.0.ours).usable; room = words.room (slot_of k.mutex) (our_slot l k.mutex o.0.ours) }
  assume_row (Row.SlotLeft k) there o own quiet knows more sees silent w = may k.mutex o.ours more
  assume_row (Row.SeesToSleep k) there o own quiet knows more sees silent w = may k.mutex o.0.ours (looking k k.how there)
  assume_row (Row.SlotQuiets k) there o own quiet knows more sees silent w = slot_small k.mutex o.ours quiet w.few
  assume_row (Row.SlotMends k) there o own quiet knows more sees silent w = marked (slot_of k.mutex) _ (our_slot l k.mutex o.ours) w own.0 w.few
  assume_row (Row.HeirPends k Linked) there o own quiet knows more sees silent w = may k.mutex o.ours more
  assume_row (Row.HeirPends k Mended) there o own quiet knows more sees silent w = may k.mutex o.ours more
  assume_row (Row.HeirPends k Again) there o own quiet knows more sees silent w = tt
  assume_row (Row.HeirSets k) there o own quiet knows more sees silent w = record {
    inside = our_slot l k.mutex o.ours;
    word = owner_alone (z.words (cell_place l (slot_of k.mutex))) t own.0.owner own.0.died (quiet k.mutex o.ours).waiters (quiet k.mutex o.ours).usable (words.room (slot_of k.mutex) (our_slot l k.mutex o.ours));
  }
  assume_row (Row.HeirTakes k v) there o own quiet knows more sees silent w = (may k.mutex o.0.ours (in_lock (TimedLock (cell_of k.mutex)) _ refl there), free_one k.mutex v _ o.0.ours w o.1)
  assume_row (Row.HeirHas k r) there o own quiet knows more sees silent w = slot_small k.mutex o.ours quiet w.few
  assume_row (Row.GivesUp k) there o own quiet knows more sees silent w = slot_small k.mutex o.ours quiet w.few
  assume_row (Row.LastLooks k) there o own quiet knows more sees silent w = (may k.mutex o.ours (in_lock (TimedLock (cell_of k.mutex)) _ refl there), own.1)
  assume_row (Row.LastMarks k v) there o own quiet knows more sees silent w = (may k.mutex o.0.ours (in_lock (TimedLock (cell_of k.mutex)) _ refl there), o.1)
  assume_row (Row.TryPends m v) there o own quiet knows more sees silent w = may m o.0 more
  assume_row (Row.TryTakes m v) there o own quiet knows more sees silent w = (may m o.0 (in_lock (TryLock (cell_of m)) _ refl there), free_one m v _ o.0 w o.1)
  assume_row (Row.Anews m v) there o own quiet knows more sees silent w = record { inside = our_cell l m o.0; unusable = o.1; died = words.lost (cell_of m) (our_cell l m o.0); room = words.room (cell_of m) (our_cell l m o.0) }
  assume_row (Row.Mends m) there o own quiet knows more sees silent w = marked (cell_of m) _ (our_cell l m o) w own w.few
  assume_row (Row.Looks k) there o own quiet knows more sees silent w = (our_cell l k.mutex o.0.ours, more)
  assume_row (Row.TryLooks m) there o own quiet knows more sees silent w = (our_cell l m o, more)
  assume_row (Row.GiveLooks m) there o own quiet knows more sees silent w = our_cell l m o
  assume_row (Row.MendLooks m) there o own quiet knows more sees silent w = our_cell l m o
  assume_row (Row.WaitLooks m k timed) there o own quiet knows more sees silent w = o.cell.inside
  assume_row (Row.WaitCounts m k timed died) there o own quiet knows more sees silent w = o.cell.inside
  assume_row (Row.CountLooks m k all) there o own quiet knows more sees silent w = o.cell.inside
  assume_row (Row.Frees k f) there o own quiet knows more sees silent w = record { inside = our_slot l k.mutex o.ours; owner = own.0.owner }
  assume_row (Row.GivePends m (OfUnlock d)) there o own quiet knows more sees silent w = record { inside = our_cell l m o; owner = own.owner }
  assume_row (Row.GivePends m (OfWait k n slept timed)) there o own quiet knows more sees silent w = (o.cell, record { inside = our_cell l m o.ours; owner = own.owner }, own.died)
  assume_row (Row.FreeGives k f) there o own quiet knows more sees silent w = owns (slot_of k.mutex) false (our_slot l k.mutex o.ours) own.0
  assume_row (Row.Gives m (OfUnlock false)) there o own quiet knows more sees silent w = owns (cell_of m) false (our_cell l m o) own
  assume_row (Row.Gives m (OfUnlock true)) there o own quiet knows more sees silent w = (owns (cell_of m) true (our_cell l m o) own, own.died)
  assume_row (Row.Gives m (OfWait k n slept timed)) there o own quiet knows more sees silent w = owns (cell_of m) false (our_cell l m o.ours) own
  assume_row (Row.SleepsOn k v) there o own quiet knows more sees silent w = (may k.mutex o.0.ours more, o.1)
  assume_row (Row.Trims m is) there o own quiet knows more sees silent w = record { inside = our_cell l m o; room = words.room (cell_of m) (our_cell l m o); knows = knows.0; turn = knows.1.0; left = knows.1.1 }
  assume_row (Row.WaitSets m k n timed) there o own quiet knows more sees silent w = record { inside = o.cell.inside; says = sees }
  assume_row (Row.Counts m k all n) there o own quiet knows more sees silent w = record { inside = o.cell.inside; cell = o.cell.cell; owns = record { inside = our_cell l m o.ours; owner = own }; found = sees; few = w.counts; quiet = silent }
  assume_row (Row.Unsets m k n) there o own quiet knows more sees silent w = record { inside = o.cell.inside; says = sees }
  assume_row r there o own quiet knows more sees silent w = tt

  low : (w : ℕ) → w ≤ 4294967295 → w % 4294967296 ≡ w
  low w most = omega (arith, most)

  pub assume_too : (r : Row) → Fits l t r g → Owning z t r → SlotsAreQuiet z → KnowsItsTurn x r → HeirTakesOver x t r → SeesCount x r → Counted z → Trusts x t r → AssumesToo x t r
  assume_too (Row.Pends k v) o own quiet knows over sees counted w = o.1
  assume_too (Row.Marks k v (ToSlot sl)) o own quiet knows over sees counted w = o.1.1
  assume_too (Row.SeesToSleep k) o own quiet knows over sees counted w = (o.1, own)
  assume_too (Row.WaitLooks m k timed) o own quiet knows over sees counted w = (o.cell, our_cell l m o.ours)
  assume_too (Row.WaitCounts m k timed true) o own quiet knows over sees counted w = (o.cell, record { inside = our_cell l m o.ours; owner = own.owner }, own.died)
  assume_too (Row.CountLooks m k all) o own quiet knows over sees counted w = (o.cell, our_cell l m o.ours)
  assume_too (Row.GivePends m (OfWait k n slept timed)) o own quiet knows over sees counted w = sym sees ∙ sym (low (z.words (counter_place l k)) (counted.most k o.cell.inside))
  assume_too (Row.Frees k f) o own quiet knows over sees counted w = own.0.died
  assume_too (Row.GivePends m (OfUnlock d)) o own quiet knows over sees counted w = own.died
  assume_too (Row.FreeGives k f) o own quiet knows over sees counted w = (quiet k.mutex o.ours).waiters
  assume_too (Row.HandsOn m y is) o own quiet knows over sees counted w = over
  assume_too (Row.LooksBack m (OfUnlock d) is) o own quiet knows over sees counted w = our_cell l m o
  assume_too (Row.LooksBack m (OfWait k n slept timed) is) o own quiet knows over sees counted w = our_cell l m o.ours
  assume_too r o own quiet knows over sees counted w = tt

  pub apart_row : (r : Row) → Owning z t r → IsApart x t r
  apart_row (Row.SeesToSleep k) own = own
  apart_row (Row.LastLooks k) own = own.1
  apart_row r own = tt

pub sleeps_later : (l : Layout') (t : ℕ) (r : Row) (g : Stage) → Fits l t r g → SleepsLater r
sleeps_later l t (Row.Asleep k) g o = o.1
sleeps_later l t r g o = tt
