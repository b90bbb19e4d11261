use Rattle.std.proofs.Common.{◌≡◌, ◌+◌, ◌-◌, arith, rules}
use Rattle.grammar.proofs.Firsts.{end_on, offset_on}
use Rattle.grammar.proofs.Scanning.{cut_width}
use Rattle.grammar.proofs.place.place_of.Goals as goal

pub words-preserved : goal.words-preserved
words-preserved c =
    let i = c.words.invariant in
    let w = c.in-Some.word.now in
    let text = c.words.rest.now in
    let more = c.in-Some.behind.now in
    let parts = c.in-Some.ensures.parts in
    let some = c.if-left-eq0.false in
    let less : c.words.left ≡ c.words.left - 1 + 1 = omega (arith, some) in
    record {
      is_text = search rules;
      room = omega (arith, i.room, cut_width w text more parts);
      starts = omega (arith, i.starts, offset_on c.words.left (c.words.left - 1) w text more parts less);
      ends = omega (arith, i.ends, end_on c.words.left (c.words.left - 1) w text more parts less);
    }
