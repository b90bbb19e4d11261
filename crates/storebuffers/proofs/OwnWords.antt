-- A thread's own words, which nobody else changes.
use Rattle.std.proofs.Common.{◌≡◌, ◌≢◌, inl, inr, ℕ, ◌+◌, ◌<◌, ◌≤◌, List, [], ◌∷◌, refl, sym, ◌∙◌, subst, arith}
use Rattle.memorymap.specs.Layouts.{Layout', head_place}
use Rattle.protocol.specs.declared.event.Event.{Event}
use Rattle.protocol.specs.Explained.{caller}
use Rattle.protocol.specs.Changes.{IsItsOwn}
use Rattle.protocol.specs.Machine.{State, start, happens, run}
use Rattle.protocol.proofs.Kept.{Kept}
use Rattle.protocol.proofs.Runs.{sound, start_kept, run_kept, run_layout}
use Rattle.storebuffers.specs.Buffers.{Way, way}
use Rattle.storebuffers.specs.Buffers.Way.{Keeps, Appends, Writes, Flushes}
use Rattle.storebuffers.specs.OwnWords.{AreOthers, OwnWordsStay}
use Rattle.storebuffers.proofs.Stores.{stored-out}
use Rattle.storebuffers.proofs.Owning.{IsOwn, own_is_its, own_apart, shared_apart, met_apart}
use Rattle.storebuffers.proofs.Staying.{owner_stays}
use Rattle.storebuffers.proofs.Alike.{Does, events_alike}
use Rattle.storebuffers.proofs.Holding.{own_moves}

-- as the machine's laws have it, and back
pub head_again : (s : State) (t p k : ℕ) → k < 3 → p ≡ head_place t + k → IsOwn s t p
head_again s t p k small is = grind (arith)

its_is_own : (s : State) (t p : ℕ) → IsItsOwn s t p → IsOwn s t p
its_is_own s t p (inl (k, small, is)) = head_again s t p k small is
its_is_own s t p (inr (k, inside, own, place)) = inl (inr (inr (k, inside, place, own)))

-- what thread t's event does, of which words it writes, leaves the own words of another, u
left_alone : (s : State) (t u p : ℕ) (y : Way) (a b : ℕ → ℕ) → Does s t s.words y a b → t ≢ u → 1 ≤ u → u ≤ s.layout.threads → IsOwn s u p → b p ≡ s.words p
left_alone s t u p Keeps a b does apart first most own = does p
left_alone s t u p (Appends xs) a b (pos, known, words, mine) apart first most own =
    words p ∙ stored-out xs s.words p (λ there. own_apart s t u p pos known first most apart (mine p there) own)
left_alone s t u p (Writes at) a b (shared, same, elsewhere) apart first most own =
    elsewhere p (λ e. shared_apart s u at first most shared (subst (IsOwn s u) e own))
left_alone s t u p Flushes a b (at, met, same, elsewhere) apart first most own =
    (elsewhere p (λ e. met_apart s t u at first most apart met (subst (IsOwn s u) e own))).1

module _ (u p : ℕ) (first : 1 ≤ u) where
  pub one_stays : (s : State) (e : Event) → Kept s → u ≤ s.layout.threads → caller e ≢ u → IsOwn s u p → ((happens s e).state.words p ≡ s.words p) × IsOwn (happens s e).state u p
  one_stays s e inv most apart own = (
    left_alone s (caller e) u p (way s e (happens s e).note) _ _ (events_alike s s.words e inv (λ q met. refl) (λ m inside. refl) (λ u first last dead. refl)).does apart first most own,
    own_moves s (happens s e).state u p (sound s e inv).same (λ k owns. owner_stays s e inv u k apart owns) own,
  )

  pub all_stay : (s : State) (others : List Event) → Kept s → u ≤ s.layout.threads → AreOthers u others → IsOwn s u p → ((run s others).words p ≡ s.words p) × IsOwn (run s others) u p
  all_stay s [] inv most none own = (refl, own)
  all_stay s (e ∷ es) inv most (apart, rest) own =
      let one = one_stays s e inv most apart own in
      let all = all_stay (happens s e).state es (sound s e inv).kept (subst (λ (l : Layout'). u ≤ l.threads) (sym (sound s e inv).same) most) rest one.1 in
      (all.0 ∙ one.0, all.1)

pub stay : OwnWordsStay
stay l counters before others t p is first most none own =
    let s = run (start l counters) before in
    let kept = start_kept l counters is in
    let known : t ≤ s.layout.threads = subst (λ (k : Layout'). t ≤ k.threads) (sym (run_layout (start l counters) before kept)) most in
    let all = all_stay t p first s others (run_kept (start l counters) before kept) known none (its_is_own s t p own) in
    record { word = all.0; own = own_is_its (run s others) t p all.1 }
