use Rattle.std.proofs.Common.{arith, sym, ◌∙◌}
use Rattle.script.specs.Seen.{scope_of}
use Rattle.script.proofs.Names.{is_none, is_some_of, some_names}
use Rattle.script.proofs.Lines.{ends_late, ends_behind, ends_without_threads, ends_without_mutexes}
use Rattle.script.proofs.reading.finish.Goals as goal
use Rattle.script.proofs.reading.finish.Goals.{then-number-gt-MAX_LINES, else-number-gt-MAX_LINES, then-is_empty-via-then-is_empty, then-is_empty-via-else-is_empty+then-is_empty-2}

pub returns-then-not-is_empty : goal.returns-then-not-is_empty
returns-then-not-is_empty c =
    let behind = sym c.is_empty.ensures ∙ c.if-not-is_empty.true in
    elim c.if-number-gt-MAX_LINES.branch [
      | then-number-gt-MAX_LINES w ↦ rw w.result-is (ends_late c.args.number (scope_of c.args.draft) c.args.text.now behind (let late = w.if-number-gt-MAX_LINES in omega arith))
      | else-number-gt-MAX_LINES w ↦ rw w.result-is (ends_behind c.args.number (scope_of c.args.draft) c.args.text.now behind (let in_time = w.if-number-gt-MAX_LINES in omega arith))
    ]

pub returns-then-is_empty : goal.returns-then-is_empty
returns-then-is_empty c =
    let empty = sym c.is_empty.ensures ∙ c.if-not-is_empty.false in
    elim c.then-is_empty.branch [
      | then-is_empty-via-then-is_empty w ↦ ends_without_threads c.args.number (scope_of c.args.draft) c.args.text.now c.args.draft.threads.keys empty (is_none c.is_empty-2.result _ c.is_empty-2.ensures w.if-is_empty.true)
      | then-is_empty-via-else-is_empty+then-is_empty-2 w ↦ ends_without_mutexes c.args.number (scope_of c.args.draft) c.args.text.now c.args.draft.mutexes.keys empty (is_none w.is_empty-else-is_empty.result _ w.is_empty-else-is_empty.ensures w.if-is_empty-2.true)
    ]

pub of-requires : goal.of-requires
of-requires c = record {
  some_thread = some_names c.args.draft.threads.keys (is_some_of c.is_empty-2.result _ c.is_empty-2.ensures c.if-is_empty.false);
  some_mutex = some_names c.args.draft.mutexes.keys (is_some_of c.is_empty-else-is_empty.result _ c.is_empty-else-is_empty.ensures c.if-is_empty-2.false);
  within = c.requires;
}
