use Rattle.std.proofs.Common.{◌≡◌, ◌∙◌, ◌++◌, ◌∷◌, [], List, ℕ, ap, sym, subst}
use Rattle.std.specs.Prelude.{codes, slice_get}
use Rattle.std.specs.List.{concat}
use Rattle.std.specs.Result.{OnOk}
use Rattle.std.proofs.lemmas.Option.{get_or_from_slice_get}
use Rattle.explore_report.specs.Witnesses.{member_at}
use Rattle.explore_report.proofs.Loops.{then_adds}
use Rattle.explore_report.proofs.witness.add_thread.Goals as goal

pub returns : goal.returns
returns c =
    let name = sym (get_or_from_slice_get c.args.script.now.threads c.args.before c.thread_name_at.result.now [] c.thread_name_at.ensures) in
    let adds = c.in_ok-add.ensures ∙ ap (λ (n : List ℕ). c.args.text.now.items ++ concat (codes "thread " ∷ n ∷ [])) name in
    then_adds c.add_member_at.result _ (member_at (slice_get c.args.script.now.members c.args.before)) _ _ _ adds (subst (λ (ms : List ℕ). OnOk c.add_member_at.result (c.add_member_at.new.text.items ≡ c.add.new.text.items ++ member_at (slice_get ms c.args.before))) c.members.ensures.value c.add_member_at.ensures)
