use Rattle.std.proofs.Common.{◌≡◌, ℕ, ◌<◌, Some, rules, sym, ap, ◌∙◌, subst}
use Rattle.std.specs.Prelude.{slice_index}
use Rattle.lockword.specs.Cells.{Fields, fields_of}
use Rattle.posixmutex.specs.declared.object.Object.{Object}
use Rattle.memorymap.specs.Layouts.{cell_place}
use Rattle.posixmutex.specs.Objects.{owner_of}
use Rattle.protocol.specs.Headline.{seen}
use Rattle.protocol.proofs.Steps.{seen-inside}
use Rattle.interleave.specs.Shown.{Shown, state_of}
use Rattle.interleave.proofs.Reaches.{owner_small, owner_is, read_cell}
use Rattle.interleave.proofs.machine.Machine.owner.Goals as goal

pub overflow_cast-owner : goal.overflow_cast-owner
overflow_cast-owner c =
    let m : Shown = record { layout = c.self.inside.layout; words = c.self.inside.memory; kernel = c.self.inside.kernel; threads = c.self.inside.threads.items; fresh = c.self.inside.fresh } in
    let inside : c.args.mutex < m.layout.mutexes = subst (λ (v : Shown). c.args.mutex < v.layout.mutexes) (sym c.self.view_is) c.requires in
    let read : Some c.in_ok-word.word ≡ Some (slice_index m.words (cell_place m.layout c.args.mutex)) = sym c.in_ok-word.was ∙ read_cell m c.args.mutex c.cell.result c.load.result c.self.invariant inside c.cell.ensures.value c.load.ensures in
    let word : c.in_ok-word.word ≡ slice_index m.words (cell_place m.layout c.args.mutex) = cc read in
    let is : c.owner.result ≡ (fields_of (slice_index m.words (cell_place m.layout c.args.mutex))).owner = c.owner.ensures.value ∙ ap (λ (f : Fields). f.owner) c.new.ensures ∙ ap (λ (w : ℕ). (fields_of w).owner) word in
    let small = owner_small m c.args.mutex c.owner.result c.self.invariant inside is in
    search rules

pub returns : goal.returns
returns c =
    let m : Shown = record { layout = c.self.inside.layout; words = c.self.inside.memory; kernel = c.self.inside.kernel; threads = c.self.inside.threads.items; fresh = c.self.inside.fresh } in
    let inside : c.args.mutex < m.layout.mutexes = subst (λ (v : Shown). c.args.mutex < v.layout.mutexes) (sym c.self.view_is) c.requires in
    let read : Some c.in_ok-word.word ≡ Some (slice_index m.words (cell_place m.layout c.args.mutex)) = sym c.in_ok-word.was ∙ read_cell m c.args.mutex c.cell.result c.load.result c.self.invariant inside c.cell.ensures.value c.load.ensures in
    let word : c.in_ok-word.word ≡ slice_index m.words (cell_place m.layout c.args.mutex) = cc read in
    let is : c.owner.result ≡ (fields_of (slice_index m.words (cell_place m.layout c.args.mutex))).owner = c.owner.ensures.value ∙ ap (λ (f : Fields). f.owner) c.new.ensures ∙ ap (λ (w : ℕ). (fields_of w).owner) word in
    let small = owner_small m c.args.mutex c.owner.result c.self.invariant inside is in
    owner_is c.new-2.result c.owner.result c.new-2.ensures small ∙ ap owner_of is ∙ sym (ap (λ (o : Object). o.owner) (seen-inside (state_of m) c.args.mutex inside)) ∙ ap (λ (v : Shown). (seen (state_of v) c.args.mutex).owner) c.self.view_is
