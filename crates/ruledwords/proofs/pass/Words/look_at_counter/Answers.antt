use Rattle.std.proofs.Common.{◌≡◌, ℕ, ◌<◌, ◌≤◌, ◌∙◌, Some, sym, ap, subst, length, arith}
use mathlib.Core.Option.{none}
use Rattle.atomic_table.specs.Table.{step}
use Rattle.memorymap.specs.Layouts.{counter_place, words_of}
use Rattle.condvar.specs.Laws.{largest_counter}
use Rattle.ruledwords.specs.declared.pass.Card.{Card}
use Rattle.ruledwords.specs.Cards.{value_at}
use Rattle.ruledwords.specs.Conditions.{looked_at_counter}
use Rattle.ruledwords.specs.Looks.{noted}
use Rattle.ruledwords.specs.Seen.{held}
use Rattle.ruledwords.proofs.Counters.{looks_at_counter}
use Rattle.ruledwords.proofs.Turned.{at_one, turned}
use Rattle.ruledwords.proofs.pass.Words.look_at_counter.Goals as goal

pub load-requires-clause-step : goal.load-requires-clause-step
load-requires-clause-step c =
    let k = c.args.self.now.layout in
    let slots = c.args.self.now.places.table.shared.table_id.slots in
    let q = c.requires.place.0 in
    let low : q < length k.conditions = c.requires.place.1 in
    let there : counter_place k q < words_of k = omega arith in (
      c.requires.table,
      subst (λ (z : ℕ × ℕ). z.0 < z.1) (λ i. (sym c.requires.place.2 i, sym c.args.self.now.wide i)) there,
      at_one _ k slots _ _ (counter_place k q) c.args.pass.now.seat.me (λ n. n) (λ p. looked_at_counter (step slots p 0 0 none)) c.args.self.now.key c.requires.place.2 c.args.pass.now.one (looks_at_counter k slots _ _ q low),
    )

pub invariant_of-pass : goal.invariant_of-pass
invariant_of-pass c =
    let r = turned _ _ (λ a b. (b ≡ noted a c.load.result a.trims a.changes) × (c.load.result ≤ largest_counter) × ((x : ℕ) → value_at a.values c.args.at ≡ Some x → c.load.result ≡ x)) c.args.pass.now.one (c.load.ensures.2) in
    record {
      one = r.0;
      own = ap (λ (z : Card). z.thread) r.1.0 ∙ c.args.pass.now.own;
      count = c.args.pass.now.count ∙ sym (ap held r.1.0);
      few = c.args.pass.now.few;
    }

pub returns-clause-card : goal.returns-clause-card
returns-clause-card c = (turned _ _ (λ a b. (b ≡ noted a c.load.result a.trims a.changes) × (c.load.result ≤ largest_counter) × ((x : ℕ) → value_at a.values c.args.at ≡ Some x → c.load.result ≡ x)) c.args.pass.now.one (c.load.ensures.2)).1.0

pub returns-clause-small : goal.returns-clause-small
returns-clause-small c = (turned _ _ (λ a b. (b ≡ noted a c.load.result a.trims a.changes) × (c.load.result ≤ largest_counter) × ((x : ℕ) → value_at a.values c.args.at ≡ Some x → c.load.result ≡ x)) c.args.pass.now.one (c.load.ensures.2)).1.1

pub returns-clause-known : goal.returns-clause-known
returns-clause-known c = (turned _ _ (λ a b. (b ≡ noted a c.load.result a.trims a.changes) × (c.load.result ≤ largest_counter) × ((x : ℕ) → value_at a.values c.args.at ≡ Some x → c.load.result ≡ x)) c.args.pass.now.one (c.load.ensures.2)).1.2
