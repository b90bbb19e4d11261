-- A wake where WAITERS isn't set wakes nobody.
use Rattle.std.proofs.Common.{◌≡◌, ℕ, zero, suc, Bool, true, false, List, [], refl, sym, ap, ◌∙◌}
use Rattle.std.specs.Prelude.{if◌then◌else◌, drop}
use Rattle.stepprograms.specs.declared.access.Access.{Access}
use Rattle.memorymap.specs.Layouts.{address_in, cell_place, place_in}
use Rattle.protocol.specs.Machine.{is_met, put}
use Rattle.protocol.proofs.Kept.{Kept}
use Rattle.protocol.proofs.Seeing.{cell_again}
use Rattle.slots.specs.Kernels.{WakesWithoutWaitersWakeNobody}
use Rattle.slots.proofs.Free.{empty_where, reached_kept, reached_queued}
use Rattle.slots.proofs.ShownWords.{reads}
use Rattle.slots.proofs.Shows.{put_there}

abbrev empty : List ℕ
empty = []

drop_none : (n : ℕ) → drop n empty ≡ empty
drop_none zero = refl
drop_none (suc n) = refl

pub dropped : (n : ℕ) (q : List ℕ) → q ≡ [] → drop n q ≡ q
dropped n q none = ap (drop n) none ∙ drop_none n ∙ sym none

pub wakes_nobody : WakesWithoutWaitersWakeNobody
wakes_nobody s t k n r pos known inside alone = record {
  nobody = none;
  words = reads s t wake tt;
  queues = λ p. go p (is_met s.layout t wake);
}
  where
    wake : Access
    wake = Access.Wake (address_in s.layout t (cell_place s.layout k)) n

    inv : Kept s
    inv = reached_kept s r

    none : s.queues (cell_place s.layout k) ≡ []
    none = empty_where (s.queues (cell_place s.layout k)) (λ u there. absurd (cc (sym ((reached_queued s r).bits k u inside there) ∙ alone)))

    pl : ℕ
    pl = place_in s.layout t (address_in s.layout t (cell_place s.layout k))

    there : pl ≡ cell_place s.layout k
    there = cell_again s.layout t inv.layout pos known k inside

    stays : drop n (s.queues pl) ≡ s.queues pl
    stays = dropped n (s.queues pl) (ap s.queues there ∙ none)

    go : (p : ℕ) (b : Bool) → (if b then put s.queues pl (drop n (s.queues pl)) else s.queues) p ≡ s.queues p
    go p true = ap (λ (q : List ℕ). put s.queues pl q p) stays ∙ put_there s.queues pl p
    go p false = refl
