use Rattle.std.proofs.Common.{◌<◌, ◌∙◌, sym, subst}
use Rattle.stepprograms.specs.declared.access.Access.{Access}
use Rattle.stepprograms.specs.Accesses.{address_of}
use Rattle.memorymap.specs.Layouts.{place_in}
use Rattle.mutex.specs.Standings.{Whole}
use Rattle.mutex.specs.WholeLists.{IsOwnAccess}
use Rattle.ruledwords.specs.OwnWords.{IsOwn}
use Rattle.ruledwords.specs.Passes.{layout_of}
use Rattle.ruledwords.specs.Rules.{card_of}
use Rattle.ruledwords.specs.Turns.{IsAtCell, IsLoadOrStore}
use Rattle.ruledwords.proofs.Listing.{at_own, own_low}
use Rattle.ruledwords.proofs.Phases.{at_row, is_load_or_store, own_or_cell}
use Rattle.ruledwords.proofs.pass.Words.found.Goals as goal

pub access_own-requires : goal.access_own-requires
access_own-requires c =
    let k = layout_of c.args.self.now in
    let d = card_of c.args.seat.now.me.0 in
    let p : Whole = c.args.program.now in
    let call = c.requires.call in
    let own : IsOwnAccess p.phase = own_or_cell p.phase call.going (λ (at : IsAtCell p.phase). c.in_default.not-AtCell _ (c.phase.ensures ∙ at_row p.phase at)) in
    record {
      table = call.table;
      one = call.one;
      base = c.requires.base;
      thread = (call.card.first, call.card.thread);
      kind = subst IsLoadOrStore (sym c.requires.access) (is_load_or_store p own);
      own = subst (λ (a : Access). IsOwn k d (place_in k d.thread (address_of a))) (sym c.requires.access) (at_own k d call.card call.call.0 p call.call.1 own);
      knows = call.call.1.knows;
      address = subst (λ (a : Access). address_of a < 18446744073709551616) (sym c.requires.access) (own_low k d call.card call.call.0 p call.call.1 own);
    }
