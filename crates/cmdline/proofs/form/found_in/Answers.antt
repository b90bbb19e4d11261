use Rattle.std.proofs.Common.{◌≡◌, Some, None, codes, ◌∙◌}
use Rattle.std.specs.Box.{box_value}
use Rattle.clap.specs.Words.{found_of, rows_of}
use Rattle.clap.specs.declared.parser.matches.ArgMatches.TheViews.{out-ArgMatches, out-SubCommand}
use Rattle.clap.proofs.WalkLemmas.{first_value-rows, one_text-rows}
use Rattle.cmdline.proofs.Found.{of_subcommand, flag_is}
use Rattle.cmdline.proofs.form.found_in.Goals as goal

pub returns-in_err-file : goal.returns-in_err-file
returns-in_err-file c = λ s h.
    let are = of_subcommand (λ b. (out-SubCommand (box_value b)).name.now) (λ b. rows_of (found_of (out-SubCommand (box_value b)).matches)) (out-ArgMatches c.args.matches.now).subcommand c.in_ok-word.word.now (rows_of (found_of c.in_ok-word.inner.now)) c.in_ok-word.ensures.name c.in_ok-word.ensures.rows s h in
    let none : None ≡ Some s.file = c.in_err-file.ensures ∙ first_value-rows (found_of c.in_ok-word.inner.now) (codes "FILE") ∙ are.file in absurd cc

pub returns : goal.returns
returns c = λ s h.
    let inner = found_of c.in_ok-word.inner.now in
    let are = of_subcommand (λ b. (out-SubCommand (box_value b)).name.now) (λ b. rows_of (found_of (out-SubCommand (box_value b)).matches)) (out-ArgMatches c.args.matches.now).subcommand c.in_ok-word.word.now (rows_of inner) c.in_ok-word.ensures.name c.in_ok-word.ensures.rows s h in
    let named : Some c.in_ok-file.file.now ≡ Some s.file = c.in_ok-file.ensures ∙ first_value-rows inner (codes "FILE") ∙ are.file in
    let file : c.in_ok-file.file.now ≡ s.file = cc in
    let rows = one_text-rows inner (codes "table") in
    let flag = c.get_flag-table.ensures in
    let table : c.get_flag-table.result ≡ s.table = flag_is _ c.get_flag-table.result s.table (λ e. flag.none (rows ∙ e)) (λ e. flag.value (rows ∙ e)) (λ e. flag.other (rows ∙ e)) are.flag in
    λ i. Some (record { word = are.same i; table = table i; file = file i })
