use Rattle.std.proofs.Common.{◌≡◌, sym, subst, arith, drop, [], ◌∷◌, ◌+◌, ◌<◌, List, length, get_or}
use Rattle.std.proofs.lemmas.List.{drop_all}
use Rattle.std.proofs.lemmas.Result.{err_from_is_err_and}
use Rattle.protocol.specs.declared.note.Note.{Note}
use Rattle.protocol.specs.Machine.{State}
use Rattle.interleave.specs.Shown.{state_of}
use Rattle.script.specs.declared.command.Command.{Command}
use Rattle.script.specs.Playing.{HasMutexes, first_state}
use Rattle.script.proofs.Plays.{IsAmid, amid_first, amid_next, amid_last, amid_room, refuses, split_at, locks_have}
use Rattle.script.proofs.player.play_commands.Goals as goal

pub loop-command-init : goal.loop-command-init
loop-command-init c =
    let s = c.args.script.now in
    subst (λ (ns : List Note). IsAmid (first_state s) s.commands (state_of c.args.machine.now) ns 0) (sym c.requires.none)
    (subst (λ (z : State). IsAmid (first_state s) s.commands z [] 0) (sym c.requires.starts) (amid_first (first_state s) s.commands))

pub play_command-requires : goal.play_command-requires
play_command-requires c = record {
  few = amid_room (first_state c.args.script.now) c.args.script.now.commands (state_of c.loop-command.machine) c.loop-command.notes.items c.loop-command.command-index c.loop-command.invariant;
  locks =
      let has = locks_have c.args.script.now c.loop-command.command-index c.command-item.result c.commands-command-items.ensures.well_formed in
      subst (λ (l : List Command). c.loop-command.command-index < length l → c.command-item.result ≡ get_or l c.loop-command.command-index c.command-item.result → HasMutexes c.command-item.result.action) (sym c.commands-command-items.ensures.value) has c.loop-command-test.true c.command-item.is;
}

pub returns-in_err-play_command : goal.returns-in_err-play_command
returns-in_err-play_command c =
    let cs = c.args.script.now.commands in
    let k = c.loop-command.command-index in
    let split : drop k cs ≡ c.command-item.result ∷ drop (k + 1) cs = subst (λ (l : List Command). drop k l ≡ c.command-item.result ∷ drop (k + 1) l) c.commands-command-items.ensures.value (split_at c.commands-command-items.result.now k c.command-item.result c.loop-command-test.true c.command-item.is) in
    let p = err_from_is_err_and c.from_residual.result c.from_residual.ensures.1 in
    rw (p.1, p.2) (refuses c.args.script.now (state_of c.loop-command.machine) (state_of c.play_command.new.machine) c.loop-command.notes.items c.play_command.new.notes.items k c.command-item.result c.in_err-play_command.field-0.0 c.loop-command.invariant split c.in_err-play_command.ensures)

pub loop-command-preserved : goal.loop-command-preserved
loop-command-preserved c =
    let cs = c.args.script.now.commands in
    let k = c.loop-command.command-index in
    let split : drop k cs ≡ c.command-item.result ∷ drop (k + 1) cs = subst (λ (l : List Command). drop k l ≡ c.command-item.result ∷ drop (k + 1) l) c.commands-command-items.ensures.value (split_at c.commands-command-items.result.now k c.command-item.result c.loop-command-test.true c.command-item.is) in
    amid_next (first_state c.args.script.now) cs (state_of c.loop-command.machine) (state_of c.play_command.new.machine) c.loop-command.notes.items c.play_command.new.notes.items k c.command-item.result c.loop-command.invariant split c.in_ok-play_command.ensures

pub returns : goal.returns
returns c =
    let s = c.args.script.now in
    let k = c.loop-command.command-index in
    let none : drop k s.commands ≡ [] = subst (λ (l : List Command). drop k l ≡ []) c.commands-command-items.ensures.value (drop_all k c.commands-command-items.result.now (omega arith)) in
    amid_last (first_state s) s.commands (state_of c.loop-command.machine) c.loop-command.notes.items k c.loop-command.invariant none
