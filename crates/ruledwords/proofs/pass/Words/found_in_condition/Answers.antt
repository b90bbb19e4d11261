use Rattle.std.proofs.Common.{◌<◌, ◌∙◌, refl, sym, ap, subst}
use Rattle.stepprograms.specs.declared.access.Access.{Access}
use Rattle.stepprograms.specs.Accesses.{address_of}
use Rattle.memorymap.specs.Layouts.{base_of, place_in}
use Rattle.mutex.specs.Standings.{Whole}
use Rattle.condvar.specs.Standings.{CondWhole}
use Rattle.ruledwords.specs.ConditionCalls.{IsCondStep}
use Rattle.ruledwords.specs.Conditions.{condition_at, unlock_of}
use Rattle.ruledwords.specs.Counts.{mutex_at}
use Rattle.ruledwords.specs.OwnWords.{IsOwn}
use Rattle.ruledwords.specs.Passes.{layout_of}
use Rattle.ruledwords.specs.Rules.{card_of}
use Rattle.ruledwords.specs.Turns.{IsLoadOrStore}
use Rattle.ruledwords.proofs.Acting.{access_there, found_there, going_there, own_there, under_there}
use Rattle.ruledwords.proofs.Listing.{at_own, own_low}
use Rattle.ruledwords.proofs.Phases.{is_load_or_store}
use Rattle.ruledwords.proofs.pass.Words.found_in_condition.Goals as goal

pub act-requires : goal.act-requires
act-requires c =
    let r = c.requires.call in
    let p : CondWhole = c.args.program.now in
    let at = sym c.phase.ensures ∙ c.in-AtWords.is in
    let same = access_there p c.in-AtWords.field-0 at in
    record {
      call = record {
        table = r.table;
        one = r.one;
        is = r.is;
        card = r.card;
        layout = refl;
        mine = r.call.list.of.thread;
        on = r.call.on;
        going = going_there p.phase c.in-AtWords.field-0 at r.call.knows;
        step = subst IsCondStep same c.requires.step;
        ready = r.call.ready;
        access = same;
      };
      going = under_there p.phase r.there;
    }

pub access_own-requires : goal.access_own-requires
access_own-requires c =
    let k = layout_of c.args.self.now in
    let d = card_of c.args.seat.now.me.0 in
    let p : CondWhole = c.args.program.now in
    let r = c.requires.call in
    let m = mutex_at k (condition_at k p) in
    let u : Whole = unlock_of p in
    let own = own_there p p.phase r.there (λ row at. c.in_default.not-AtWords row (c.phase.ensures ∙ at)) in
    let same = c.requires.access ∙ own.1 in
    record {
      table = r.table;
      one = r.one;
      base = c.base-base.ensures.value ∙ ap (base_of k) r.is;
      thread = (r.card.first, r.card.thread);
      kind = subst IsLoadOrStore (sym same) (is_load_or_store u own.0);
      own = subst (λ (a : Access). IsOwn k d (place_in k d.thread (address_of a))) (sym same) (at_own k d r.card m u r.call.list own.0);
      knows = r.call.list.knows;
      address = subst (λ (a : Access). address_of a < 18446744073709551616) (sym same) (own_low k d r.card m u r.call.list own.0);
    }

pub returns-in-AtWords : goal.returns-in-AtWords
returns-in-AtWords c =
    let k = layout_of c.args.self.now in
    let p : CondWhole = c.args.program.now in
    (c.act.ensures.0, c.act.ensures.1, found_there k p p.phase c.in-AtWords.field-0 (card_of c.args.seat.now.me.0) c.act.result (card_of c.act.new.seat.me.0) (sym c.phase.ensures ∙ c.in-AtWords.is) c.act.ensures.2)
