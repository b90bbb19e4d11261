use Rattle.std.proofs.Common.{◌≡◌, ℕ, Ok, refl, sym, ap, ◌∙◌, subst}
use Rattle.memorymap.specs.Layouts.{address_in, cell_place}
use Rattle.mutex.specs.Calls.{mutex_of}
use Rattle.mutex.specs.Standings.{Standing, Whole}
use Rattle.mutex.specs.Whole.{whole_started, begins}
use Rattle.ruledwords.specs.Calls.{IsOnMutex, standing_of}
use Rattle.ruledwords.specs.Lists.{IsInCall}
use Rattle.ruledwords.specs.Passes.{card, layout_of, IsPassOf}
use Rattle.ruledwords.specs.Seen.{held}
use Rattle.ruledwords.proofs.Listing.{call_begins}
use Rattle.ruledwords.proofs.Turning.{starts, starts_so, begun, begun_ready, begun_room, begun_under_way}
use Rattle.ruledwords.proofs.turn.Running.call.Goals as goal

pub invariant_of-result : goal.invariant_of-result
invariant_of-result c =
    let a = c.args.pass in
    let call = c.args.call in
    let k = layout_of c.args.words.now in
    let p : Whole = c.in-Ok.program in
    let e : whole_started k (card a).thread a.held call ≡ Ok p = ap (λ (t : ℕ). whole_started k t a.held call) a.own ∙ sym c.new.ensures ∙ c.in-Ok.is in
    record { ready = begun_ready k (card a) call p (starts k (card a).thread a.held call p e); room = begun_room k (card a).thread a.held call p e a.few; going = begun_under_way k (card a).thread a.held call p e }

pub returns-in-Ok : goal.returns-in-Ok
returns-in-Ok c =
    let a = c.args.pass in
    let call = c.args.call in
    let k = layout_of c.args.words.now in
    let p : Whole = c.in-Ok.program in
    let e : whole_started k (card a).thread (held (card a)) call ≡ Ok p =
    ap (λ (z : ℕ × ℕ). whole_started k z.0 z.1 call) (λ i. (a.own i, sym a.count i)) ∙ sym c.new.ensures ∙ c.in-Ok.is in
    let is : p ≡ begins k (card a).thread call = starts k (card a).thread (held (card a)) call p e in
    let there : IsOnMutex k (standing_of p) (mutex_of call) = (c.requires.mutex, subst (λ (z : Standing). z.cell ≡ address_in k z.thread (cell_place k (mutex_of call))) (sym (ap standing_of is ∙ starts_so k (card a).thread call)) refl) in
    let runs : IsPassOf c.args.words.now a × ((m : ℕ) × IsInCall k (card a) m p) = (c.requires.pass.0, (mutex_of call, call_begins k (card a) c.requires.pass.0.1 c.requires.pass.1 call p c.requires.mutex is)) in
    (e, refl, (runs, there, begun k (card a) call p is))
