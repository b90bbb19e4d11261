-- What memory shows of a mutex's owner and flags, and which accesses leave a word as it is.
use Rattle.slots.specs.Words.{taken_word, waiting_word}
use Rattle.slots.proofs.FitsOn.{waiting_fields}
use Rattle.lockword.specs.Coding.{fields_of-word_of}
use Rattle.std.proofs.Common.{◌≡◌, ◌≢◌, ℕ, ◌+◌, ◌*◌, ◌/◌, ◌%◌, ◌<◌, ◌==◌, Bool, true, false, refl, sym, ap, ◌∙◌, subst, arith}
use Rattle.std.specs.Prelude.{if◌then◌else◌, ◌&&◌}
use Rattle.lockword.specs.Cells.{bit, fields_of, Fields, taken, word_of}
use Rattle.stepprograms.specs.declared.access.Access.{Access}
use Rattle.stepprograms.specs.Accesses.{word_among}
use Rattle.memorymap.specs.Layouts.{cell_place, place_in}
use Rattle.protocol.specs.Machine.{State, is_met, place_met, put, words_after}
use Rattle.protocol.proofs.Puts.{put-other}
use Rattle.slots.specs.Places.{is_slot, our_own, cell_of, slot_of}
use Rattle.slots.specs.Shown.{Slots, shown}
use Rattle.slots.proofs.Shows.{put_there, shown_cell}

-- the word W shows the machine's word w
pub record Shows (w W : ℕ) : Type 0 where
  pub owner : (fields_of W).owner ≡ (fields_of w).owner
  pub died : (fields_of W).died ≡ (fields_of w).died
  pub waiters : (fields_of W).waiters ≡ (fields_of w).waiters

pub shows_so : (w n : ℕ) (b : Bool) → Shows w (w + bit b 4294967296 + n * 8589934592)
shows_so w n true = record {
  owner = omega arith;
  died = ap (λ (z : ℕ). z == 1) (let e : (w + 4294967296 + n * 8589934592) / 1073741824 % 2 ≡ w / 1073741824 % 2 = omega arith in e);
  waiters = ap (λ (z : ℕ). z == 1) (let e : (w + 4294967296 + n * 8589934592) / 2147483648 % 2 ≡ w / 2147483648 % 2 = omega arith in e);
}
shows_so w n false = record {
  owner = omega arith;
  died = ap (λ (z : ℕ). z == 1) (let e : (w + 0 + n * 8589934592) / 1073741824 % 2 ≡ w / 1073741824 % 2 = omega arith in e);
  waiters = ap (λ (z : ℕ). z == 1) (let e : (w + 0 + n * 8589934592) / 2147483648 % 2 ≡ w / 2147483648 % 2 = omega arith in e);
}

pub shows_at : (x : Slots) (k : ℕ) → k < x.machine.layout.mutexes → Shows (x.machine.words (cell_place x.machine.layout k)) (shown x (cell_place x.machine.layout k))
shows_at x k inside = subst (Shows (x.machine.words (cell_place x.machine.layout k))) (sym (shown_cell x k inside)) (shows_so (x.machine.words (cell_place x.machine.layout k)) (x.turns k) (is_slot k && x.awake (our_own k)))

-- an access that changes no word
abbrev pub IsReading : Access → Type 0
IsReading (Access.Load at) = Unit {0}
IsReading (Access.Wait at e) = Unit {0}
IsReading (Access.Wake at n) = Unit {0}
IsReading (Access.CmpRequeue from e n to k) = Unit {0}
IsReading a = ⊥

pub reads : (s : State) (t : ℕ) (a : Access) → IsReading a → (p : ℕ) → words_after s t a p ≡ s.words p
reads s t a reading p = go a reading
  where
    there : (pl : ℕ) (b : Bool) → (if b then put s.words pl (s.words pl) else s.words) p ≡ s.words p
    there pl true = put_there s.words pl p
    there pl false = refl

    go : (b : Access) → IsReading b → words_after s t b p ≡ s.words p
    go (Access.Load at) r = there (place_in s.layout t at) (is_met s.layout t (Access.Load at))
    go (Access.Wait at e) r = there (place_in s.layout t at) (is_met s.layout t (Access.Wait at e))
    go (Access.Wake at n) r = there (place_in s.layout t at) (is_met s.layout t (Access.Wake at n))
    go (Access.CmpRequeue from e n to k) r = there (place_in s.layout t from) (is_met s.layout t (Access.CmpRequeue from e n to k))
    go b r = absurd r

-- one at another place
pub apart_words : (s : State) (t : ℕ) (a : Access) (p : ℕ) → p ≢ place_met s.layout t a → words_after s t a p ≡ s.words p
apart_words s t a p apart = go (is_met s.layout t a)
  where
    w : ℕ
    w = word_among a (s.words (place_met s.layout t a)) (s.queues (place_met s.layout t a))

    go : (b : Bool) → (if b then put s.words (place_met s.layout t a) w else s.words) p ≡ s.words p
    go true = put-other s.words (place_met s.layout t a) w p apart
    go false = refl

-- an exchange that finds another word
pub missed_word : (s : State) (t at e n pl : ℕ) → place_in s.layout t at ≡ pl → (s.words pl == e) ≡ false → (p : ℕ) → words_after s t (Access.Exchange at e n) p ≡ s.words p
missed_word s t at e n pl place other p = go (is_met s.layout t (Access.Exchange at e n))
  where
    miss : (s.words (place_in s.layout t at) == e) ≡ false
    miss = ap (λ (q : ℕ). s.words q == e) place ∙ other

    go : (b : Bool) → (if b then put s.words (place_in s.layout t at) (if s.words (place_in s.layout t at) == e then n else s.words (place_in s.layout t at)) else s.words) p ≡ s.words p
    go true = ap (λ (d : Bool). put s.words (place_in s.layout t at) (if d then n else s.words (place_in s.layout t at)) p) miss ∙ put_there s.words (place_in s.layout t at) p
    go false = refl

-- ---- words that an exchange leaves

pub waiting_not : (t v : ℕ) → (fields_of v).owner ≢ t → (fields_of (waiting_word v)).owner ≢ t
waiting_not t v apart own = apart (sym (ap (λ (f : Fields). f.owner) (waiting_fields v)) ∙ own)

pub taken_is : (t v : ℕ) → t < 1073741824 → fields_of (word_of (taken (fields_of v) t)) ≡ taken (fields_of v) t
taken_is t v small = fields_of-word_of (taken (fields_of v) t) small

pub taken_owner : (t v : ℕ) → t < 1073741824 → (fields_of (taken_word v t)).owner ≡ t
taken_owner t v small = (let u : ℕ = word_of (taken (fields_of v) t) in let e : (u + 8589934592) % 1073741824 ≡ u % 1073741824 = omega arith in e) ∙ ap (λ (f : Fields). f.owner) (taken_is t v small)

pub taken_died : (t v : ℕ) → t < 1073741824 → (fields_of (taken_word v t)).died ≡ (fields_of v).died
taken_died t v small = ap (λ (z : ℕ). z == 1) (let u : ℕ = word_of (taken (fields_of v) t) in let e : (u + 8589934592) / 1073741824 % 2 ≡ u / 1073741824 % 2 = omega arith in e) ∙ ap (λ (f : Fields). f.died) (taken_is t v small)

-- a cell is no slot
pub different : (m : ℕ) → cell_of m ≢ slot_of m
different m e = absurd (let f : 2 * m ≡ 2 * m + 1 = e in omega (arith, f))
