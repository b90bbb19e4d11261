use Rattle.std.proofs.Common.{rules, ◌≡◌, ℕ, ◌+◌, ◌-◌, ◌<◌, ◌≤◌, List, [], length, get_or, slice_get, Some, sym, ap, ◌∙◌, subst, ⊎_elim, arith}
use Rattle.std.specs.Prelude.{slice_index}
use Rattle.atomic_table.specs.Table.{opening}
use Rattle.ruledwords.specs.declared.pass.Card.{Card}
use Rattle.ruledwords.specs.declared.pass.Pass.{Pass}
use Rattle.ruledwords.specs.declared.pass.Live.{Live}
use Rattle.ruledwords.specs.Seen.{held}
use Rattle.ruledwords.specs.Rules.{Kept, presets_in, hand, first_card, card_of, first_of, rest_of}
use Rattle.ruledwords.proofs.Lists.{get_snoc, slice_get_or}
use Rattle.ruledwords.proofs.Moves.{Sat}
use Rattle.ruledwords.proofs.Turned.{is_one}
use Rattle.ruledwords.specs.Lists.{IsAlive}
use Rattle.ruledwords.specs.Passes.{IsCardOf}
use Rattle.ruledwords.proofs.Listing.{alive_first}
use Rattle.ruledwords.proofs.Cards.{first_is}
use Rattle.ruledwords.proofs.Hands.{opens_kept, presets_are, deals, dealt_first, dealt_rest}
use Rattle.ruledwords.proofs.pass.Words.made.Goals as goal

pub of_words-requires-clause-holds : goal.of_words-requires-clause-holds
of_words-requires-clause-holds c =
    let k = c.args.layout in
    let words : c.as_slice.result.now ≡ c.in_ok-words.words.items = c.as_slice.ensures.value in
    let small : (q : ℕ) → slice_index c.args.presets.now q < 4294967296 = λ q. search rules in
    let presets = presets_are k c.args.presets.now c.in_ok-words.words.items c.requires (c.in_ok-words.ensures.count, c.in_ok-words.ensures.each) in
    subst (λ (z : List ℕ × List ℕ). Kept k z.0 (opening z.1 [] (hand k z.0 1 k.threads))) (λ i. (sym presets i, sym words i))
    (opens_kept k c.args.presets.now c.in_ok-words.words.items c.in_ok-words.ensures.layout small (c.in_ok-words.ensures.count, c.in_ok-words.ensures.each))

pub loop-before-init : goal.loop-before-init
loop-before-init c =
    let k = c.args.layout in
    let presets = presets_are k c.args.presets.now c.in_ok-words.words.items c.requires (c.in_ok-words.ensures.count, c.in_ok-words.ensures.each) in
    let opened = c.in_ok-places.ensures in
    let all : k.threads ≡ k.threads - 0 = omega arith in
    record {
      table = search rules;
      left = opened.3 ∙ ap (λ (ns : List ℕ). (hand k ns 1 k.threads, [])) presets ∙ ap (λ (n : ℕ). (hand k c.args.presets.now 1 n, [])) all;
      count = search rules;
      dealt = search rules;
    }

pub split_seat-mine-requires-clause-step : goal.split_seat-mine-requires-clause-step
split_seat-mine-requires-clause-step c = (c.loop-before.invariant.table, deals _ _ _)

pub invariant_of-pass : goal.invariant_of-pass
invariant_of-pass c =
    let left : ℕ = c.args.layout.threads - c.loop-before.before in
    let test = c.loop-before-test.true in
    let all = c.threads-threads.ensures.value in
    let more : 0 < left = omega arith in
    let one = is_one _ (first_card c.args.layout c.args.presets.now (c.loop-before.before + 1))
    (c.split_seat-mine.ensures.4 ∙ ap (λ (m : Sat). (first_of m.0, [])) c.loop-before.invariant.left ∙ ap (λ l. (l, [])) (dealt_first c.args.layout c.args.presets.now (c.loop-before.before + 1) left more)) in
    record { one = one.0; own = ap (λ (z : Card). z.thread) one.1 ∙ sym c.thread_after.ensures; count = ap held (sym one.1); few = search rules }

pub loop-before-preserved : goal.loop-before-preserved
loop-before-preserved c =
    let left : ℕ = c.args.layout.threads - c.loop-before.before in
    let test = c.loop-before-test.true in
    let all = c.threads-threads.ensures.value in
    let more : 0 < left = omega arith in
    let fewer : left - 1 ≡ c.args.layout.threads - (c.loop-before.before + 1) = omega arith in
    let one = is_one _ (first_card c.args.layout c.args.presets.now (c.loop-before.before + 1))
    (c.split_seat-mine.ensures.4 ∙ ap (λ (m : Sat). (first_of m.0, [])) c.loop-before.invariant.left ∙ ap (λ l. (l, [])) (dealt_first c.args.layout c.args.presets.now (c.loop-before.before + 1) left more)) in
    record {
      table = search rules;
      left = c.split_seat-mine.ensures.2 ∙ ap (λ (m : Sat). (rest_of m.0, m.1)) c.loop-before.invariant.left
          ∙ ap (λ l. (l, [])) (dealt_rest c.args.layout c.args.presets.now (c.loop-before.before + 1) left more ∙ ap (λ (n : ℕ). hand c.args.layout c.args.presets.now (c.loop-before.before + 1 + 1) n) fewer);
      count = search rules;
      dealt = λ j p e. ⊎_elim
          (λ was. c.loop-before.invariant.dealt j p was)
          (λ (t : (j ≡ length c.loop-before.passes.items) × (_ ≡ p)).
          subst (λ (z : ℕ × Pass Live). (z.1.seat.table_id ≡ c.in_ok-places.places.table.shared.table_id) × (card_of z.1.seat.me.0 ≡ first_card c.args.layout c.args.presets.now (z.0 + 1)))
          (λ i. (sym (t.0 ∙ c.loop-before.invariant.count) i, t.1 i))
          (c.split_seat-mine.ensures.3 ∙ c.loop-before.invariant.table, one.1))
          (get_snoc c.loop-before.passes.items _ p j (subst (λ l. slice_get l j ≡ Some p) c.in_ok-push.ensures.items e));
    }

pub returns-clause-presets : goal.returns-clause-presets
returns-clause-presets c =
    ap presets_in c.in_ok-places.ensures.0 ∙ presets_are c.args.layout c.args.presets.now c.in_ok-words.words.items c.requires (c.in_ok-words.ensures.count, c.in_ok-words.ensures.each)

pub returns-clause-each : goal.returns-clause-each
returns-clause-each c i other low =
    let p = get_or c.loop-before.passes.items i other in
    let d = c.loop-before.invariant.dealt i p (slice_get_or c.loop-before.passes.items i other low) in
    let count = c.loop-before.invariant.count in
    let all = c.threads-threads.ensures.value in
    let end = c.loop-before.auto in
    let last : i + 1 ≤ c.args.layout.threads = omega arith in
    let layout = c.in_ok-words.ensures.layout in
    ((d.0, subst (IsCardOf c.args.layout) (sym d.1) (first_is c.args.layout c.args.presets.now (i + 1) layout (omega arith) last)), subst (IsAlive c.args.layout) (sym d.1) (alive_first c.args.layout c.args.presets.now (i + 1) layout (omega arith) last))

pub returns-clause-cards : goal.returns-clause-cards
returns-clause-cards c i p e = (c.loop-before.invariant.dealt i p e).1
