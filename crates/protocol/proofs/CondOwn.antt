-- One access of a wait to its thread's own words: its entry is made pending and leaves the list.
use Rattle.std.proofs.Common.{◌≡◌, inl, inr, ℕ, ◌+◌, ◌<◌, ◌≤◌, Some, None, List, refl, sym, ap, ◌∙◌, subst, arith}
use Rattle.protocol.proofs.Vocabulary.{CondCall, CondPhase, CondOnward, CondWhole, Object, IsChainBothWays, address_sum, head_place, Thread, answer_on, place_in, place_met}
use Rattle.protocol.proofs.Vocabulary.{cell_place, owner_of, owner_of-some, fields_of, Stage, AtCondition, State, stage_at, seen}
use Rattle.protocol.proofs.Vocabulary.{UnlinkRow, UnlinkStanding, unlink_access, unlink_resume, UnlinkGoes, WaitRow, CondRow}
use Rattle.memorymap.specs.Chains.{IsAmong, without}
use Rattle.robustlist.specs.UnlinkLaws as unlink_laws
use Rattle.robustlist.proofs.Unlinks as unlinks
use Rattle.condvar.specs.Whole.{phase_led, unlinked_at}
use Rattle.protocol.proofs.Puts.{put-same, put-other}
use Rattle.protocol.proofs.Phases.{IsPlain, plain_answer, few_of_unlink}
use Rattle.protocol.proofs.Kept.{Needs, FitsAt, Sits, Owned, Listed, PendsAs, Kept}
use Rattle.protocol.proofs.Places.{IsMine, links_not_pending, list_links}
use Rattle.mutex.proofs.OwnPlaces.{both_same}
use Rattle.protocol.proofs.Steps.{Transition, seen-inside, after, place_of, cond_onto, cond_step, its_mutex, thread_after}
use Rattle.protocol.proofs.Stepping.{left_of, Stepping}
use Rattle.protocol.proofs.CondSteps.{cond_of, fit_at}
use Rattle.protocol.proofs.OwnWords.{own_cell, own_owned, own_stepping}
use Rattle.protocol.proofs.Leaving as leaving
use Rattle.protocol.proofs.Seeing.{entry_in, head_in, words_in}
use Rattle.mutex.proofs.Addresses.{head_word_again}

-- ---- a wait that is about to release its mutex
module _ (s : State) (t : ℕ) (c : CondCall) (inv : Kept s) (pos : 1 ≤ t) (known : t ≤ s.layout.threads) where
  abbrev m : ℕ
  m = its_mutex s c

  abbrev head : ℕ
  head = head_in s.layout t

  abbrev entry : ℕ
  entry = entry_in s.layout t m

  abbrev view : (ℕ → ℕ) → ℕ → ℕ
  view = words_in s.layout t

  abbrev held : ℕ
  held = (s.threads t).held

  -- the pending word
  pending_place : place_in s.layout t (address_sum head 2) ≡ head_place t + 2
  pending_place = head_word_again s.layout t inv.layout pos known 2 (omega arith)

  -- its mutex is its own
  owns_it : m < s.layout.mutexes → (fields_of (s.words (cell_place s.layout m))).owner ≡ t → (seen s m).owner ≡ Some t
  owns_it inside own = ap (λ (z : Object). z.owner) (seen-inside s m inside) ∙ ap owner_of own ∙ owner_of-some t pos

  -- ---- its entry is made pending
  module _ (x : ℕ) (fits : FitsAt s t held c (cond_of s.layout t c (CondPhase.Announcing x))) where
    abbrev announcing : CondWhole
    announcing = cond_of s.layout t c (CondPhase.Announcing x)

    abbrev step : Transition
    step = cond_step s t c announcing

    abbrev words' : ℕ → ℕ
    words' = (after s t step).words

    pub at_pending : IsMine s t (place_of s t step)
    at_pending = inr (inl pending_place)

    pub announcing_stepping : (s.threads t).stage ≡ AtCondition c announcing → Listed s t (AtCondition c announcing) → Stepping s t step
    announcing_stepping is (es, owned, ch) =
        own_stepping s t step inv pos known fits.inside tt at_pending refl
        (fit_at (after s t step) t held c (CondPhase.Announcing x) fits.inside fits.there (CondPhase.Unlinking (record { head = head; entry = entry; row = UnlinkRow.LoadNext }) x)
        (fits.stands.0, refl, refl, tt, subst (Needs t (CondRow.Wait (WaitRow.Release x))) (sym (own_cell s t step inv pos known fits.inside tt at_pending refl m fits.inside)) fits.stands.1))
        (es, own_owned s t step inv pos known fits.inside tt at_pending refl None es owned, unlinks.right.begins head entry es (view words') still among)
        (ap words' (sym pending_place) ∙ put-same s.words (place_of s t step) entry)
        (λ k was. absurd (cc was.1)) (omega arith) (omega arith) (omega arith)
      where
        still : IsChainBothWays (view words') head es
        still = both_same (view s.words) (view words') head es (λ y on. put-other s.words (place_of s t step) entry (place_in s.layout t y) (λ e. links_not_pending s t y pos known (list_links s t inv.layout pos known None es y owned on) (e ∙ pending_place))) ch

        among : IsAmong entry es
        among = owned.all m fits.inside (owns_it fits.inside fits.stands.1.0) (λ e. cc e)

  -- ---- and is taken out of the list
  module _ (r : UnlinkRow) (x : ℕ) where
    abbrev standing : UnlinkRow → UnlinkStanding
    standing q = record { head = head; entry = entry; row = q }

    abbrev unlinking : CondWhole
    unlinking = cond_of s.layout t c (CondPhase.Unlinking (standing r) x)

    still_unlinking : (u : UnlinkStanding) (q : UnlinkRow) → UnlinkGoes q → unlinked_at u q x ≡ CondPhase.Unlinking u x
    still_unlinking u q going = grind (arith)

    module _ (fits : FitsAt s t held c unlinking) (is_in : (s.threads t).stage ≡ AtCondition c unlinking) (es : List ℕ) (owned : Owned s t None es) (ch : unlink_laws.Unlinking head entry es r (view s.words)) where
      abbrev out_step : Transition
      out_step = cond_step s t c unlinking

      abbrev th : Thread
      th = thread_after s t out_step

      abbrev out_state : State
      out_state = after s t out_step

      abbrev to_row : UnlinkRow
      to_row = unlink_resume head r (answer_on (unlink_access head entry r) (view s.words))

      pub plain : IsPlain (unlink_access head entry r)
      plain = leaving.plain s t th inv pos known m fits.inside entry refl r fits.stands.3 es owned ch

      pub on_list : IsMine s t (place_met s.layout t (unlink_access head entry r))
      on_list = leaving.mine s t th inv pos known m fits.inside entry refl r fits.stands.3 es owned ch

      pub leads : cond_onto s t unlinking ≡ phase_led unlinking (CondPhase.Unlinking (standing r) x) (answer_on (unlink_access head entry r) (view s.words))
      leads = ap (phase_led unlinking (CondPhase.Unlinking (standing r) x)) (plain_answer (unlink_access head entry r) (s.words (place_of s t out_step)) (s.queues (place_of s t out_step)) plain)

      pends : out_state.words (head_place t + 2) ≡ entry
      pends = leaving.still_pending s t th inv pos known m fits.inside entry refl r fits.stands.3 es owned ch ∙ subst (PendsAs (s.words (head_place t + 2))) is_in (inv.heads t pos known).pending

      needs : Needs t (CondRow.Wait (WaitRow.Release x)) (fields_of (out_state.words (cell_place s.layout m)))
      needs = subst (Needs t (CondRow.Wait (WaitRow.Release x))) (sym (own_cell s t out_step inv pos known fits.inside plain on_list refl m fits.inside)) fits.stands.4

      -- where it stands then
      record Stands (g : Stage) : Type 0 where
        sits : Sits out_state t held g
        listed : Listed out_state t g
        pending : PendsAs (out_state.words (head_place t + 2)) g
        fewer : left_of out_state g < 66 + unlink_laws.unlink_left r

      goes_on : UnlinkGoes to_row → Stands (AtCondition c (cond_of s.layout t c (CondPhase.Unlinking (standing to_row) x)))
      goes_on going = record {
        sits = fit_at out_state t held c (CondPhase.Announcing x) fits.inside fits.there (CondPhase.Unlinking (standing to_row) x) (fits.stands.0, refl, refl, going, needs);
        listed = (es, own_owned s t out_step inv pos known fits.inside plain on_list refl None es owned, leaving.chain_then s t th inv pos known m fits.inside entry refl r fits.stands.3 es owned ch);
        pending = pends;
        fewer = let less = leaving.falls s t th inv pos known m fits.inside entry refl r fits.stands.3 es owned ch in omega arith;
      }

      -- what holds of an unlink that goes on, and of the release after it, holds where it leads
      pub then_at : (P : CondPhase → Type 0) → (UnlinkGoes to_row → P (CondPhase.Unlinking (standing to_row) x)) → (IsChainBothWays (view out_state.words) head (without entry es) → P (CondPhase.AtWords (CondRow.Wait (WaitRow.Release x)))) → P (unlinked_at (standing to_row) to_row x)
      then_at P on out =
          leaving.by_row s t th inv pos known m fits.inside entry refl r fits.stands.3 es owned ch (λ (q : UnlinkRow). P (unlinked_at (standing to_row) q x))
          (λ q is going. subst P (sym (still_unlinking (standing to_row) q going)) (on (subst UnlinkGoes (sym is) going))) out

      stands_then : Stands (stage_at c unlinking (unlinked_at (standing to_row) to_row x))
      stands_then = then_at (λ (f : CondPhase). Stands (stage_at c unlinking f)) goes_on (λ ch_less. record {
        sits = fit_at out_state t held c (CondPhase.Announcing x) fits.inside fits.there (CondPhase.AtWords (CondRow.Wait (WaitRow.Release x))) (record { going = tt; of = sym fits.stands.0; needs = needs; room = tt });
        listed = (without entry es, own_owned s t out_step inv pos known fits.inside plain on_list refl (Some m) (without entry es) (leaving.owned_less s t th inv pos known m fits.inside entry refl r fits.stands.3 es owned ch), ch_less);
        pending = pends;
        fewer = omega arith;
      })

      pub unlinking_stepping : Stepping s t out_step
      unlinking_stepping =
          let arrived : Stands out_step.next = subst (λ (z : CondOnward). Stands (stage_at c unlinking z.phase)) (sym leads) stands_then in
          own_stepping s t out_step inv pos known fits.inside plain on_list refl arrived.sits arrived.listed arrived.pending (λ k was. absurd (cc was.1)) (omega arith) (let few = few_of_unlink r in omega arith) arrived.fewer
