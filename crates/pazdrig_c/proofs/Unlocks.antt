-- An unlock of a consistent mutex by its owner.
use Rattle.std.proofs.Common.{◌≡◌, ◌≢◌, ℕ, ◌==◌, Bool, true, false, not, List, [], ◌∷◌, ◌++◌, refl, sym, ap, ◌∙◌, subst}
use Rattle.std.specs.Prelude.{◌&&◌, if◌then◌else◌}
use Rattle.lockword.specs.Cells.{Fields, fields_of}
use Rattle.lockword.specs.declared.reply.Reply.TheVariants.{OK, EPERM}
use Rattle.stepprograms.specs.declared.access.Access.{Access}
use Rattle.stepprograms.specs.declared.access.Access.TheVariants as access
use Rattle.stepprograms.specs.declared.access.Answer.{Answer}
use Rattle.stepprograms.specs.declared.access.Answer.TheVariants.{Value, Stored}
use Rattle.posixmutex.specs.declared.point.Operation.TheVariants as operation
use Rattle.memorymap.specs.Chains.{previous_place}
use Rattle.robustlist.specs.declared.unlink.UnlinkRow.{UnlinkRow}
use Rattle.robustlist.specs.declared.unlink.UnlinkRow.TheVariants as out
use Rattle.mutex.specs.declared.row.Row.TheVariants as row
use Rattle.mutex.specs.declared.row.Led.{Led}
use Rattle.mutex.specs.declared.unlock.UnlockRow.TheVariants as unlock
use Rattle.mutex.specs.declared.phase.Phase.{Phase}
use Rattle.mutex.specs.declared.phase.Phase.TheVariants.{AtCell, Ended}
use Rattle.mutex.specs.Rows.{goes, decides, ends}
use Rattle.mutex.specs.Unlock.{unlock_sees}
use Rattle.mutex.specs.Standings.{Whole}
use Rattle.mutex.specs.Whole.{whole_at, whole_access, whole_led, whole_moved, unlinked_at, from_cell, pending_place}
use Rattle.pazdrig_c.specs.Plans.{run, asked, behind_answers, behind_plan, unlock_begun, unlink_answers, unlink_plan, unlock_plan, wake_answers, wake_plan, release_answers, release_plan, release_row, is_held, LoadAlike, UnlocksByPlan}
use Rattle.pazdrig_c.proofs.Loads.{elsewhere}

abbrev at : ℕ → ℕ → ℕ → ℕ → Phase → Whole
at t h e c p = whole_at t operation.Unlock h e c p

releases : (t : ℕ) (s : Fields) → is_held s t ≡ true → unlock_sees t s ≡ goes release_row
releases t s held = go (s.owner == t) s.died held
  where
    go : (m d : Bool) → (m && not d) ≡ true → (if m then goes (row.Unlock (unlock.Release d)) else ends EPERM) ≡ goes release_row
    go true true e = absurd (cc e)
    go true false e = refl
    go false d e = absurd (cc e)

-- ---- from the row that releases, whether WAITERS was found or not

abbrev released : ℕ → ℕ → ℕ → ℕ → Bool → Whole
released t h e c b = at t h e c (from_cell (at t h e c (AtCell release_row)) (decides (if b then row.Unlock (unlock.Wake false) else row.Ended OK) OK)).phase

wake_asks : (b : Bool) (t h e c : ℕ) → asked (released t h e c b) (wake_answers b) ≡ wake_plan b h c
wake_asks true t h e c = refl
wake_asks false t h e c = refl

wake_returns : (b : Bool) (t h e c : ℕ) → (run (released t h e c b) (wake_answers b)).phase ≡ Ended OK
wake_returns true t h e c = refl
wake_returns false t h e c = refl

-- ---- up to it

abbrev behind : Bool → ℕ → ℕ → UnlinkRow
behind b n p = if b then out.Ended OK else out.StorePrevious n p

abbrev unlinking : Bool → ℕ → ℕ → ℕ → ℕ → Phase
unlinking b h e n p = unlinked_at (record { head = h; entry = e; row = behind b n p }) (behind b n p) false

behind_asks : (b : Bool) (t h e c n p : ℕ) → asked (at t h e c (unlinking b h e n p)) (behind_answers b) ≡ behind_plan b n p
behind_asks true t h e c n p = refl
behind_asks false t h e c n p = refl

behind_stands : (b : Bool) (t h e c n p : ℕ) → run (at t h e c (unlinking b h e n p)) (behind_answers b) ≡ at t h e c (AtCell release_row)
behind_stands true t h e c n p = refl
behind_stands false t h e c n p = refl

-- ---- its loads come first

loads_alike : (b : Bool) (t h e c n p : ℕ) → e ≢ pending_place h → previous_place e ≢ pending_place h → LoadAlike (unlock_plan t h e c n p b)
loads_alike true t h e c n p apart before words = λ i. words c ∷ (sym (elsewhere e (pending_place h) e (words e) apart) i ∷ (sym (elsewhere (previous_place e) (pending_place h) e (words (previous_place e)) before) i ∷ []))
loads_alike false t h e c n p apart before words = λ i. words c ∷ (sym (elsewhere e (pending_place h) e (words e) apart) i ∷ (sym (elsewhere (previous_place e) (pending_place h) e (words (previous_place e)) before) i ∷ []))

-- ---- the whole of it

asked_further : (p : Whole) (xs ys : List Answer) → asked p (xs ++ ys) ≡ asked p xs ++ asked (run p xs) ys
asked_further p [] ys = refl
asked_further p (a ∷ xs) ys = ap (λ (l : List Access). whole_access p ∷ l) (asked_further (whole_moved p (whole_led p a)) xs ys)

pub by_plan : UnlocksByPlan
by_plan t h e c w n p v pos held = record { unlinks = unlinks; stands = stands; releases = releases_cell; returns = returns; asks = asks; loads = loads_alike (n == h) t h e c n p }
  where
    loading : Phase
    loading = AtCell (row.Unlock unlock.Load)

    sees : unlock_sees t (fields_of w) ≡ goes release_row
    sees = releases t (fields_of w) held

    rest : List Answer
    rest = Stored ∷ Value n ∷ Value p ∷ Stored ∷ behind_answers (n == h)

    planned : List Access
    planned = access.Store (pending_place h) e ∷ access.Load e ∷ access.Load (previous_place e) ∷ access.Store p n ∷ behind_plan (n == h) n p

    from_look : asked (at t h e c (from_cell (at t h e c loading) (goes release_row)).phase) rest ≡ planned
    from_look = ap (λ (l : List Access). access.Store (pending_place h) e ∷ access.Load e ∷ access.Load (previous_place e) ∷ access.Store p n ∷ l) (behind_asks (n == h) t h e c n p)

    unlinks : asked (unlock_begun t h e c) (unlink_answers w n p (n == h)) ≡ unlink_plan h e c n p (n == h)
    unlinks = ap (λ (l : List Access). access.Load c ∷ l) (subst (λ (l : Led). asked (at t h e c (from_cell (at t h e c loading) l).phase) rest ≡ planned) (sym sees) from_look)

    stands : run (unlock_begun t h e c) (unlink_answers w n p (n == h)) ≡ at t h e c (AtCell release_row)
    stands = subst (λ (l : Led). run (at t h e c (from_cell (at t h e c loading) l).phase) rest ≡ at t h e c (AtCell release_row)) (sym sees) (behind_stands (n == h) t h e c n p)

    releases_cell : asked (at t h e c (AtCell release_row)) (release_answers v) ≡ release_plan t h c v
    releases_cell = ap (λ (l : List Access). access.FetchXor c t ∷ l) (wake_asks (fields_of v).waiters t h e c)

    returns : (run (at t h e c (AtCell release_row)) (release_answers v)).phase ≡ Ended OK
    returns = wake_returns (fields_of v).waiters t h e c

    up_to : List Access
    up_to = unlink_plan h e c n p (n == h)

    -- with nobody to wake, the accesses up to the release and those from it on are the plan's
    behind_it : (fields_of v).waiters ≡ false → up_to ++ asked (at t h e c (AtCell release_row)) (release_answers v) ≡ unlock_plan t h e c n p (n == h)
    behind_it none = ap (λ (l : List Access). up_to ++ l) releases_cell ∙ ap (λ (b : Bool). up_to ++ access.FetchXor c t ∷ wake_plan b h c) none

    asks : (fields_of v).waiters ≡ false → asked (unlock_begun t h e c) (unlink_answers w n p (n == h) ++ release_answers v) ≡ unlock_plan t h e c n p (n == h)
    asks none =
        asked_further (unlock_begun t h e c) (unlink_answers w n p (n == h)) (release_answers v)
        ∙ ap (λ (l : List Access). l ++ asked (run (unlock_begun t h e c) (unlink_answers w n p (n == h))) (release_answers v)) unlinks
        ∙ ap (λ (q : Whole). up_to ++ asked q (release_answers v)) stands
        ∙ behind_it none
