use Rattle.std.proofs.Common.{◌+◌, ap, ◌∙◌}
use Rattle.std.specs.Prelude.{replicate}
use Rattle.posixmutex.specs.Objects.{fresh}
use Rattle.page.specs.Statuses.{first_status}
use Rattle.page.proofs.Behind.{new_state}
use Rattle.page.proofs.state.State.new.Goals as goal

pub returns : goal.returns
returns c = new_state c.args.threads c.args.mutexes c.in_ok-threads.threads.items c.in_ok-mutexes.mutexes.items (c.in_ok-threads.ensures ∙ ap (λ n. replicate (n + 1) first_status) c.from.ensures) (c.in_ok-mutexes.ensures ∙ ap (λ n. replicate n fresh) c.from-2.ensures)
