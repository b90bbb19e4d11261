use Rattle.std.proofs.Common.{◌++◌}
use Rattle.streams.proofs.Writers.{ends_at_first, ends_at_second, front_after, front_of, leaves_front, then_leaves}
use Rattle.judge_report.specs.Texts.{quote_of, since_note, since_words, waiter_lines, waiter_title}
use Rattle.judge_report.proofs.waiting.write_waiter_lines.Goals as goal

pub returns-in_err-write_waiter_title : goal.returns-in_err-write_waiter_title
returns-in_err-write_waiter_title g c =
    let w = c.args.waiter.now in
    let since = c.args.since.now in
    ends_at_first _ _ c.from_residual.result (waiter_title w) (since_words w.unusable since ++ (quote_of c.args.begin ++ since_note since)) c.from_residual.ensures.0 c.in_err-write_waiter_title.ensures

pub returns-in_err-write_since_words : goal.returns-in_err-write_since_words
returns-in_err-write_since_words g c =
    let w = c.args.waiter.now in
    let since = c.args.since.now in
    ends_at_second _ _ _ c.from_residual-in_err-write_since_words.result (waiter_title w) (since_words w.unusable since) (quote_of c.args.begin ++ since_note since)
    c.from_residual-in_err-write_since_words.ensures.0 c.in_ok-write_waiter_title.ensures c.in_err-write_since_words.ensures

pub returns-in_err-write_quote_of : goal.returns-in_err-write_quote_of
returns-in_err-write_quote_of g c =
    let w = c.args.waiter.now in
    let since = c.args.since.now in
    leaves_front _ _ c.from_residual-in_err-write_quote_of.result (waiter_lines w c.args.begin since) c.from_residual-in_err-write_quote_of.ensures.0
    (front_after _ _ _ (waiter_title w) (since_words w.unusable since ++ (quote_of c.args.begin ++ since_note since)) c.in_ok-write_waiter_title.ensures
    (front_after _ _ _ (since_words w.unusable since) (quote_of c.args.begin ++ since_note since) c.in_ok-write_since_words.ensures
    (front_of _ _ (quote_of c.args.begin) (since_note since) c.in_err-write_quote_of.ensures)))

pub returns : goal.returns
returns g c =
    let w = c.args.waiter.now in
    let since = c.args.since.now in
    then_leaves _ _ _ c.write_since_note.result (waiter_title w) (since_words w.unusable since ++ (quote_of c.args.begin ++ since_note since)) c.in_ok-write_waiter_title.ensures
    (then_leaves _ _ _ c.write_since_note.result (since_words w.unusable since) (quote_of c.args.begin ++ since_note since) c.in_ok-write_since_words.ensures
    (then_leaves _ _ _ c.write_since_note.result (quote_of c.args.begin) (since_note since) c.in_ok-write_quote_of.ensures c.write_since_note.ensures))
