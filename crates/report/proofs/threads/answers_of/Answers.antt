use Rattle.std.proofs.Common.{◌≡◌, ◌≤◌, ◌+◌, ℕ, length, map, sym, ap, ◌∙◌, subst, List, Option, Some, Vec, slice_get}
use Rattle.std.specs.declared.alloc.Global.{Global}
use Rattle.lockword.specs.declared.reply.Reply.{Reply}
use Rattle.memorymap.specs.Layouts.{Layout'}
use Rattle.ruledwords.specs.declared.pass.Live.{Live}
use Rattle.ruledwords.specs.declared.pass.Pass.{Pass}
use Rattle.ruledwords.specs.Passes.{card, layout_of, presets_of}
use Rattle.ruledwords.specs.Rules.{first_card}
use Rattle.script.specs.declared.workload.Phase.{Phase}
use Rattle.script.specs.Playing.{counters_of}
use Rattle.script.proofs.Names.{length-map_of}
use Rattle.report.specs.Histories.{StandTogether}
use Rattle.report.specs.Threads.{AreRightPhases, calls_in, calls_over, AreFirst, HaveMade}
use Rattle.report.proofs.Phases.{firsts_live}
use Rattle.report.proofs.Together.{together, replied}
use Rattle.report.proofs.threads.answers_of.Goals as goal

pub new-requires : goal.new-requires
new-requires g c =
    let s = c.args.script.now in
    ap length (c.as_slice.ensures.value ∙ c.in-Ok.ensures) ∙ length-map_of (λ x. x.1.counter) s.conditions ∙ sym (length-map_of (λ x. x.1.mutex) s.conditions) ∙ sym (ap (λ (l : Layout'). length l.conditions) c.layout-layout.ensures)

pub run_phases-requires-clause-live : goal.run_phases-requires-clause-live
run_phases-requires-clause-live g c κs within = firsts_live c.in_ok-bench.bench c.in_ok-bench.passes.items c.as_slice-2.result.now c.in-Ok-workers_of.workers.items c.in-Ok-workers_of.ensures c.in_ok-bench.ensures.each

pub end-requires-clause-layout : goal.end-requires-clause-layout
end-requires-clause-layout g c = c.in_ok-bench.ensures.layout ∙ c.layout-layout.ensures

pub returns-in-Ok-end-clause-counters : goal.returns-in-Ok-end-clause-counters
returns-in-Ok-end-clause-counters g c =
    let s = c.args.script.now in
    let ended = c.in-Ok-end.ensures.ended in
    ended.counts.as_many ∙ ap (λ (l : Layout'). length l.conditions) (ended.same ∙ c.in_ok-bench.ensures.layout ∙ c.layout-layout.ensures) ∙ length-map_of (λ x. x.1.mutex) s.conditions

pub returns-in-Ok-end-clause-answered : goal.returns-in-Ok-end-clause-answered
returns-in-Ok-end-clause-answered g c =
    let bench = c.in_ok-bench.bench in
    let a = c.in-Ok-end.answers in
    let same : a.replies.items ≡ c.run_phases.new.replies.items = ap (λ (v : Vec (Vec Reply Global) Global). v.items) c.in-Ok-end.ensures.replies in
    let begins : presets_of bench ≡ counters_of c.args.script.now = c.in_ok-bench.ensures.presets ∙ c.as_slice.ensures.value ∙ c.in-Ok.ensures in
    let cards : (i : ℕ) (a : Pass Live) → slice_get c.in_ok-bench.passes.items i ≡ Some a → card a ≡ first_card (layout_of bench) (presets_of bench) (i + 1) =
    λ i a is. c.in_ok-bench.ensures.cards i a is ∙ (λ z. first_card (sym c.in_ok-bench.ensures.layout z) (sym c.in_ok-bench.ensures.presets z) (i + 1))
    in
    let s = c.args.script.now in
    let many : length (presets_of bench) ≡ length (layout_of bench).conditions =
    ap length (c.in_ok-bench.ensures.presets ∙ c.as_slice.ensures.value ∙ c.in-Ok.ensures) ∙ length-map_of (λ x. x.1.counter) s.conditions ∙ sym (length-map_of (λ x. x.1.mutex) s.conditions) ∙ sym (ap (λ (l : Layout'). length l.conditions) (c.in_ok-bench.ensures.layout ∙ c.layout-layout.ensures))
    in
    let numbers = subst (λ (ns : List (Option ℕ)). AreFirst c.in_ok-bench.passes.items ns c.in-Ok-workers_of.workers.items) c.as_slice-2.ensures.value c.in-Ok-workers_of.ensures in
    let phased = subst (λ (ps : List Phase). HaveMade bench ps c.in-Ok-workers_of.workers.items c.in_ok-workers.workers.items c.run_phases.new.replies.items) c.as_slice-phases.ensures.value c.in_ok-workers.ensures in
    let made = subst (λ (rs : List (Vec Reply Global)). HaveMade bench c.args.jobs.phases.items c.in-Ok-workers_of.workers.items c.in_ok-workers.workers.items rs) (sym same) phased in
    let well = c.threads.ensures.well_formed in
    let some : 1 ≤ (layout_of bench).threads = subst (λ (l : Layout'). 1 ≤ l.threads) (sym (c.in_ok-bench.ensures.layout ∙ c.layout-layout.ensures)) well.some_thread in
    let possible = subst (λ (l : Layout'). AreRightPhases l c.args.jobs.phases.items) (sym (c.in_ok-bench.ensures.layout ∙ c.layout-layout.ensures)) c.requires.possible in
    let stand = together bench _ c.in_ok-bench.passes.items _ c.in-Ok-workers_of.workers.items c.in_ok-workers.workers.items a.replies.items a.died.items a.cells.items a.counters.items many cards numbers made c.in-Ok-end.ensures.died c.in-Ok-end.ensures.ended (c.in_ok-bench.ensures.passes ∙ ap (λ (l : Layout'). l.threads) (sym c.in_ok-bench.ensures.layout)) some possible in
    record {
      words = bench;
      layout = c.in_ok-bench.ensures.layout ∙ c.layout-layout.ensures;
      begins = begins;
      passes = c.in_ok-bench.passes.items;
      as_many = c.in_ok-bench.ensures.passes ∙ ap (λ (l : Layout'). l.threads) c.layout-layout.ensures;
      cards = λ i a is. cards i a is ∙ ap (λ (ns : List ℕ). first_card (layout_of bench) ns (i + 1)) begins;
      firsts = c.in-Ok-workers_of.workers.items;
      numbers = numbers;
      workers = c.in_ok-workers.workers.items;
      made = made;
      dead = c.in-Ok-end.ensures.died;
      ended = c.in-Ok-end.ensures.ended;
      together = subst (λ (ns : List ℕ). StandTogether (layout_of bench) (λ t. calls_over t c.args.jobs.phases.items) (map (λ p. λ t. calls_in t p) c.args.jobs.phases.items) ns a.replies.items a.died.items a.cells.items a.counters.items) begins stand;
    }

pub returns-in-Ok-end-clause-each : goal.returns-in-Ok-end-clause-each
returns-in-Ok-end-clause-each g c =
    let bench = c.in_ok-bench.bench in
    let a = c.in-Ok-end.answers in
    let same : a.replies.items ≡ c.run_phases.new.replies.items = ap (λ (v : Vec (Vec Reply Global) Global). v.items) c.in-Ok-end.ensures.replies in
    let cards : (i : ℕ) (a : Pass Live) → slice_get c.in_ok-bench.passes.items i ≡ Some a → card a ≡ first_card (layout_of bench) (presets_of bench) (i + 1) =
    λ i a is. c.in_ok-bench.ensures.cards i a is ∙ (λ z. first_card (sym c.in_ok-bench.ensures.layout z) (sym c.in_ok-bench.ensures.presets z) (i + 1))
    in
    let s = c.args.script.now in
    let many : length (presets_of bench) ≡ length (layout_of bench).conditions =
    ap length (c.in_ok-bench.ensures.presets ∙ c.as_slice.ensures.value ∙ c.in-Ok.ensures) ∙ length-map_of (λ x. x.1.counter) s.conditions ∙ sym (length-map_of (λ x. x.1.mutex) s.conditions) ∙ sym (ap (λ (l : Layout'). length l.conditions) (c.in_ok-bench.ensures.layout ∙ c.layout-layout.ensures))
    in
    let numbers = subst (λ (ns : List (Option ℕ)). AreFirst c.in_ok-bench.passes.items ns c.in-Ok-workers_of.workers.items) c.as_slice-2.ensures.value c.in-Ok-workers_of.ensures in
    let phased = subst (λ (ps : List Phase). HaveMade bench ps c.in-Ok-workers_of.workers.items c.in_ok-workers.workers.items c.run_phases.new.replies.items) c.as_slice-phases.ensures.value c.in_ok-workers.ensures in
    let made = subst (λ (rs : List (Vec Reply Global)). HaveMade bench c.args.jobs.phases.items c.in-Ok-workers_of.workers.items c.in_ok-workers.workers.items rs) (sym same) phased in
    let well = c.threads.ensures.well_formed in
    let some : 1 ≤ (layout_of bench).threads = subst (λ (l : Layout'). 1 ≤ l.threads) (sym (c.in_ok-bench.ensures.layout ∙ c.layout-layout.ensures)) well.some_thread in
    let possible = subst (λ (l : Layout'). AreRightPhases l c.args.jobs.phases.items) (sym (c.in_ok-bench.ensures.layout ∙ c.layout-layout.ensures)) c.requires.possible in
    replied bench c.args.jobs.phases.items c.in_ok-bench.passes.items _ c.in-Ok-workers_of.workers.items c.in_ok-workers.workers.items a.replies.items a.died.items a.cells.items a.counters.items many cards numbers made c.in-Ok-end.ensures.died c.in-Ok-end.ensures.ended
    (c.in_ok-bench.ensures.passes ∙ ap (λ (l : Layout'). l.threads) (sym c.in_ok-bench.ensures.layout)) some possible
