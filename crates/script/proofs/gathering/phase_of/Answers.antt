use Rattle.std.proofs.Common.{List, take, subst, arith}
use Rattle.std.proofs.lemmas.List.{take_all}
use Rattle.script.specs.Jobs.{AreCalls, lists_seen}
use Rattle.script.specs.declared.command.Command.{Command}
use Rattle.script.proofs.Names.{length-map_of}
use Rattle.script.proofs.Phases.{take_next, if_ok}
use Rattle.script.proofs.gathering.phase_of.Goals as goal

pub loop-command-init : goal.loop-command-init
loop-command-init c = c.in_ok-calls.ensures

pub loop-command-preserved : goal.loop-command-preserved
loop-command-preserved c =
    subst (λ (cs : List Command). AreCalls c.args.threads cs (lists_seen c.add_call.new.calls.items)) (take_next c.args.commands.now c.loop-command.command-index c.command-item.result c.loop-command-test.true c.command-item.is)
    (c.in_ok-add_call.ensures c.args.threads (take c.loop-command.command-index c.args.commands.now) c.loop-command.invariant)

pub jobs_with-requires : goal.jobs_with-requires
jobs_with-requires c = let many = c.loop-command.invariant.as_many in omega (arith, many, c.requires, length-map_of (λ v. v.items) c.loop-command.calls.items)

pub returns : goal.returns
returns c =
    let all : AreCalls c.args.threads c.args.commands.now (lists_seen c.loop-command.calls.items) =
    subst (λ (cs : List Command). AreCalls c.args.threads cs (lists_seen c.loop-command.calls.items)) (take_all c.loop-command.command-index c.args.commands.now c.loop-command-test.false) c.loop-command.invariant
    in if_ok _ _ c.jobs_with.result c.jobs_with.ensures (λ phase h. h c.args.threads c.args.commands.now all)
