-- The lines of each kind are those that are gone through.
use Rattle.std.proofs.Common.{◌≡◌, ℕ, List}
use Rattle.grammar.specs.declared.wrong.Kind.{Kind}
use Rattle.grammar.specs.declared.wrong.Kind.TheVariants.{Script, Head, Trace}
use Rattle.grammar.specs.Wrongs.{first_of, is_line}
use Rattle.grammar.proofs.Running.{ends, run}
use Rattle.grammar.proofs.Scripts.{scripts_are_run}
use Rattle.grammar.proofs.Traces.{heads_are_run, traces_are_run}

pub lines_are_run : (k : Kind) (ws : List (List ℕ)) → is_line k ws ≡ ends (run (first_of k) ws)
lines_are_run (Script k) ws = scripts_are_run k ws
lines_are_run Head ws = heads_are_run ws
lines_are_run Trace ws = traces_are_run ws
