-- The heir's own rows: an heir is an heir after each of its accesses, as long as AWAKE is set.
use Rattle.std.proofs.Common.{◌≡◌, ℕ, ◌+◌, ◌<◌, ◌≤◌, ◌==◌, Bool, true, false, Some, List, [], ◌∷◌, refl, sym, ap, ◌∙◌, subst, arith, eqb-true}
use Rattle.std.proofs.lemmas.Bool.Decides.{nat_tests}
use Rattle.std.specs.Prelude.{if◌then◌else◌, not, ◌&&◌, ◌*◌, ◌/◌, ◌%◌}
use Rattle.lockword.specs.Cells.{Fields, bit, fields_of}
use Rattle.lockword.specs.Coding.{fields_of-word_of}
use Rattle.memorymap.specs.Layouts.{Layout', cell_place}
use Rattle.mutex.specs.declared.lock.LockRow.TheVariants as lock
use Rattle.mutex.specs.Rows.{acquired}
use Rattle.protocol.specs.declared.event.Event.{Event}
use Rattle.protocol.specs.declared.event.Event.TheVariants.{Step}
use Rattle.protocol.specs.Headline.{seen}
use Rattle.protocol.specs.Machine.{State, happens, run}
use Rattle.protocol.proofs.Kept.{Kept, last_thread}
use Rattle.protocol.proofs.Runs.{sound}
use Rattle.slots.specs.Places.{cell_of, our_own}
use Rattle.slots.specs.Rows.{Taking, Row}
use Rattle.slots.specs.Rows.Before.{Again}
use Rattle.slots.specs.Shown.{shown}
use Rattle.slots.specs.Words.{is_free}
use Rattle.slots.specs.Table.{made}
use Rattle.slots.specs.Invariant.{IsHeir, fields_at}
use Rattle.slots.specs.Invariant.IsHeir.{Looks, HasTaken}
use Rattle.slots.specs.Moments.{IsAtLock, HasTakenIt, HeirsGoOn}
use Rattle.slots.proofs.Free.{reached_kept}
use Rattle.slots.proofs.Moments.{takes}
use Rattle.slots.proofs.Trims.{no_slot, shown_at}

-- it looks
looks_still : (s : State) (t k : ℕ) → IsAtLock s t k → IsHeir s k t
looks_still s t k a = Looks a.there.0 lock.Load a.there.1 a.there.2 a.out

-- a word that memory shows as free is one of a mutex that nobody owns
pub free_word : (w n : ℕ) → w / 8589934592 ≡ 0 → is_free (w + 0 + n * 8589934592) ≡ true → ((fields_of w).owner ≡ 0) × ((fields_of w).unusable ≡ false)
free_word w n room free = go ((fields_of v).owner == 0) refl (fields_of v).unusable refl free
  where
    v : ℕ
    v = w + 0 + n * 8589934592

    same_unusable : (fields_of v).unusable ≡ (fields_of w).unusable
    same_unusable = ap (λ (z : ℕ). z == 1) (let e : (w + 0 + n * 8589934592) / 4294967296 % 2 ≡ w / 4294967296 % 2 = omega (arith, room) in e)

    same_owner : (fields_of v).owner ≡ (fields_of w).owner
    same_owner = let e : (w + 0 + n * 8589934592) % 1073741824 ≡ w % 1073741824 = omega arith in e

    go : (a : Bool) → ((fields_of v).owner == 0) ≡ a → (b : Bool) → (fields_of v).unusable ≡ b → (((fields_of v).owner == 0) && not (fields_of v).unusable) ≡ true → ((fields_of w).owner ≡ 0) × ((fields_of w).unusable ≡ false)
    go true e false f all = (sym same_owner ∙ eqb-true (fields_of v).owner 0 e, sym same_unusable ∙ f)
    go true e true f all = absurd cc
    go false e b f all = absurd cc

-- it takes
takes_so : (s : State) (t k : ℕ) → IsAtLock s t k → (fields_at s k).owner ≡ 0 → (fields_at s k).unusable ≡ false → IsHeir (run s (Step t ∷ Step t ∷ [])) k t
takes_so s t k a none usable = HasTaken taken.there.1.0 taken.there.0 (acquired (fields_at s k)) taken.there.1.1 taken.there.1.2 owns
  where
    inv : Kept s
    inv = reached_kept s a.reached

    taken_record : HasTakenIt s (run s (Step t ∷ Step t ∷ [])) t k
    taken_record = takes s t k a none usable

    taken : HasTakenIt s (run s (Step t ∷ Step t ∷ [])) t k
    taken = taken_record

    layout : (run s (Step t ∷ Step t ∷ [])).layout ≡ s.layout
    layout = (sound (happens s (Step t)).state (Step t) (sound s (Step t) inv).kept).same ∙ (sound s (Step t) inv).same

    small : t < 1073741824
    small = let most = last_thread s t inv a.last in omega (arith, most)

    owner_is : (fields_of ((run s (Step t ∷ Step t ∷ [])).words (cell_place s.layout k))).owner ≡ t
    owner_is = ap (λ (w : ℕ). (fields_of w).owner) taken.word ∙ ap (λ (c : Fields). c.owner) (fields_of-word_of (record (fields_at s k) { owner = t }) small)

    owns : (seen (run s (Step t ∷ Step t ∷ [])) k).owner ≡ Some t
    owns = owned_by (run s (Step t ∷ Step t ∷ [])) k t (subst (λ (l : Layout'). k < l.mutexes) (sym layout) a.inside) a.first (subst (λ (l : Layout'). (fields_of ((run s (Step t ∷ Step t ∷ [])).words (cell_place l k))).owner ≡ t) (sym layout) owner_is)
      where
        owned_by : (z : State) (k t : ℕ) → k < z.layout.mutexes → 1 ≤ t → (fields_of (z.words (cell_place z.layout k))).owner ≡ t → (seen z k).owner ≡ Some t
        owned_by z k t inside pos own = grind (arith, nat_tests)

pub go_on : HeirsGoOn
go_on x t c k (Row.HeirPends j Again) a room is = looks_still x.machine t (cell_of k.mutex) a
go_on x t c k (Row.HeirSets j) a room is = looks_still x.machine t (cell_of k.mutex) a
go_on x t c k (Row.HeirLooks j) a room is = looks_still x.machine t (cell_of k.mutex) a
go_on x t c k (Row.HeirPendsOn j v over) a room is = looks_still x.machine t (cell_of k.mutex) a
go_on x t c k (Row.HeirTakes j v) a room (is, free) = subst (λ (i : Taking). IsHeir (run x.machine (made x t c (Row.HeirTakes i v)).events) (cell_of k.mutex) t) (sym is) (go (shown x (cell_place x.machine.layout (cell_of k.mutex)) == v) refl)
  where
    shows : shown x (cell_place x.machine.layout (cell_of k.mutex)) ≡ x.machine.words (cell_place x.machine.layout (cell_of k.mutex)) + 0 + x.turns (cell_of k.mutex) * 8589934592
    shows = shown_at x (cell_of k.mutex) a.inside ∙ ap (λ (b : Bool). x.machine.words (cell_place x.machine.layout (cell_of k.mutex)) + bit (b && x.awake (our_own (cell_of k.mutex))) 4294967296 + x.turns (cell_of k.mutex) * 8589934592) (no_slot k.mutex)

    events_when : (b : Bool) → (shown x (cell_place x.machine.layout (cell_of k.mutex)) == v) ≡ b → (made x t c (Row.HeirTakes k v)).events ≡ (if b then Step t ∷ Step t ∷ [] else [])
    events_when true e = grind (arith, e)
    events_when false e = grind (arith, e)

    go : (b : Bool) → (shown x (cell_place x.machine.layout (cell_of k.mutex)) == v) ≡ b → IsHeir (run x.machine (made x t c (Row.HeirTakes k v)).events) (cell_of k.mutex) t
    go true e =
        let found = eqb-true (shown x (cell_place x.machine.layout (cell_of k.mutex))) v e in
        let both = free_word (x.machine.words (cell_place x.machine.layout (cell_of k.mutex))) (x.turns (cell_of k.mutex)) room (ap is_free (sym shows ∙ found) ∙ free) in
        subst (λ (es : List Event). IsHeir (run x.machine es) (cell_of k.mutex) t) (sym (events_when true e)) (takes_so x.machine t (cell_of k.mutex) a both.0 both.1)
    go false e = subst (λ (es : List Event). IsHeir (run x.machine es) (cell_of k.mutex) t) (sym (events_when false e)) (looks_still x.machine t (cell_of k.mutex) a)
go_on x t c k r a room is = absurd is
