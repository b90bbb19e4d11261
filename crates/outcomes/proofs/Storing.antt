-- What is stored of a position is what is kept of it.
use Rattle.std.proofs.Common.{◌≡◌, ℕ, zero, suc, ◌<◌, List, [], ◌∷◌, length, arith, sym, ap, ◌∙◌, subst, get_or}
use Rattle.std.specs.Prelude.{slice_index}
use Rattle.std.proofs.lemmas.List.{length-map}
use Rattle.memorymap.specs.Layouts.{Layout'}
use Rattle.protocol.specs.declared.thread.Thread.{Thread}
use Rattle.interleave.specs.Saved.{saved_state, sleepers_at}
use Rattle.interleave.specs.Shown.{thread_at}
use Rattle.outcomes.specs.declared.kept.Kept as kept
use Rattle.outcomes.specs.declared.plan.Plan.{Plan}
use Rattle.outcomes.specs.declared.search.Reached.{Reached}
use Rattle.outcomes.specs.declared.stored.Stored.{Stored}
use Rattle.outcomes.specs.Comparisons.{IsComparable, AreComparable}
use Rattle.outcomes.specs.Kept.{place_in, position_in, IsKept}
use Rattle.outcomes.specs.Positions.{Place, Position}
use Rattle.outcomes.specs.Searches.{AreReached, IsAt}
use Rattle.outcomes.specs.Stored.{stored_position, Holds, IsStored}
use Rattle.outcomes.proofs.Reaching.{there_at}

-- so it is the same position
pub held : (l : Layout') (s : Stored) (k : kept.Kept) → Holds s k → stored_position l s ≡ position_in l k
held l s k h = λ i. record {
  state = record { layout = l; words = λ p. slice_index (h.words i) p; queues = λ p. sleepers_at (h.sleepers i) p; threads = thread_at (h.threads i) };
  phase = h.phase i;
  places = h.places i;
}

lives_held : (s : Stored) (k j : kept.Kept) → Holds s k → Holds s j → length k.lives.value.items ≡ length j.lives.value.items
lives_held s k j h g = sym (length-map k.lives.value.items place_in) ∙ ap (λ (ps : List Place). length ps) (sym h.places ∙ g.places) ∙ length-map j.lives.value.items place_in

-- whatever else it is kept as is a position of the plan, too
pub kept_again : (plan : Plan) (s : Stored) (k : kept.Kept) → IsStored plan s → Holds s k → IsKept plan k
kept_again plan s k stored h =
    let j = stored.0 in
    let of = stored.1 in
    let g = stored.2 in
    let state : saved_state plan.layout k.saved ≡ saved_state plan.layout j.saved = ap (λ (p : Position). p.state) (sym (held plan.layout s k h) ∙ held plan.layout s j g) in
    record {
      saved = record {
        layout = of.saved.layout;
        counters = of.saved.counters;
        presets = of.saved.presets;
        events = of.saved.events;
        is = state ∙ of.saved.is;
        words = ap (λ (xs : List ℕ). length xs) (sym h.words ∙ g.words) ∙ of.saved.words;
        threads = ap (λ (xs : List Thread). length xs) (sym h.threads ∙ g.threads) ∙ of.saved.threads;
      };
      lives = lives_held s k j h g ∙ of.lives;
    }

-- a position that was reached, and is kept again
module _ (plan : Plan) (rs : List Reached) (i : ℕ) (one : Reached) (k : kept.Kept) (are : AreReached plan rs) (lt : i < length rs) (is : one ≡ get_or rs i one) (h : Holds one.stored k) where
  pub again_kept : IsKept plan k
  again_kept = kept_again plan one.stored k (are i one (there_at rs i one lt is)).stored h

  pub again_there : IsAt plan.layout rs i (position_in plan.layout k)
  again_there = record { one = one; there = there_at rs i one lt is; is = held plan.layout one.stored k h }

-- as many threads as lives
pub as_many : (plan : Plan) (k : kept.Kept) → IsKept plan k → length k.saved.threads.items ≡ length k.lives.value.items
as_many plan k h = h.saved.threads ∙ sym h.lives

-- one of several comparable threads
pub comparable_at : (ths : List Thread) → AreComparable ths → (i : ℕ) (th : Thread) → i < length ths → th ≡ get_or ths i th → IsComparable th.stage
comparable_at [] are i th lt is = absurd (omega arith)
comparable_at (t ∷ ts) are zero th lt is = subst (λ (x : Thread). IsComparable x.stage) (sym is) are.0
comparable_at (t ∷ ts) are (suc i) th lt is = comparable_at ts are.1 i th (omega arith) is
