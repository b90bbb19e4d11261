use Rattle.std.proofs.Common.{subst, sym, ◌∙◌}
use Rattle.ruledwords.specs.declared.turn.Running.{Running}
use Rattle.ruledwords.specs.Outcomes.{owed_wakes}
use Rattle.ruledwords.specs.Turns.{running_call, IsRunningOf}
use Rattle.thread_tests.proofs.Owing.{behind_trim, behind_wake, clears}
use Rattle.thread_tests.proofs.two.wake_nobody.Goals as goal

pub clear-requires-clause-words : goal.clear-requires-clause-words
clear-requires-clause-words c =
    let w = c.args.words.now in
    let owed = subst (λ (r : Running). IsRunningOf w r) (sym c.owed.ensures.value) c.requires.owed in
    c.in-Goes-answer.ensures.words w (c.in-Goes.ensures.words w owed)

pub clear-requires-clause-clears : goal.clear-requires-clause-clears
clear-requires-clause-clears c =
    let woke = behind_wake c.args.words.now c.args.owed c.owed.result (running_call c.in-Goes.woken) c.requires.owed c.requires.wakes c.owed.ensures.value c.in-Goes.ensures.turned.1 in
    behind_trim c.args.owed (running_call c.in-Goes.woken) (running_call c.in-Goes-answer.trimmed) c.in-Trim.at woke (sym c.next.ensures ∙ c.in-Trim.is) c.in-Goes-answer.ensures.turned.1

pub clear-requires-in_default-next : goal.clear-requires-in_default-next
clear-requires-in_default-next c =
    let w = c.args.words.now in
    let owed = subst (λ (r : Running). IsRunningOf w r) (sym c.owed.ensures.value) c.requires.owed in
    let woke = behind_wake w c.args.owed c.owed.result (running_call c.in-Goes.woken) c.requires.owed c.requires.wakes c.owed.ensures.value c.in-Goes.ensures.turned.1 in
    record {
      words = c.in-Goes.ensures.words w owed;
      clears = clears (running_call c.in-Goes.woken) (owed_wakes c.args.owed) woke.stands (λ at trim. c.in_default-next.not-Trim at (c.next.ensures ∙ trim));
    }
