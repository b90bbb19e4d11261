use Rattle.std.proofs.Common.{◌≡◌, ℕ, sym, ap, ◌∙◌}
use Rattle.stepprograms.specs.declared.program.Progress.TheVariants.{Goes}
use Rattle.exitwalk.specs.Standings.{Standing}
use Rattle.exitwalk.specs.Walks.{moved, progress_of, access_of}
use Rattle.exitwalk.specs.Codings.{row_code}
use Rattle.pazdrig_c.specs.Accesses.{access_code, with_point}
use Rattle.pazdrig_c.specs.Running.{status_of}
use Rattle.pazdrig_c.specs.Walks.{told}
use Rattle.pazdrig_c.specs.declared.structs.PzWalk.{PzWalk}
use Rattle.stepprograms.specs.declared.program.Progress.{Progress}
use Rattle.exitwalk.specs.declared.coding.CodedRow.{CodedRow}
use Rattle.pazdrig_c.proofs.walks.go_on.Goals as goal

abbrev walk_of : ℕ → CodedRow → ℕ → PzWalk
walk_of h r t = record { head = h; row = r; thread = t }

same : (h h' : ℕ) (r r' : CodedRow) (t t' : ℕ) → h ≡ h' → r ≡ r' → t ≡ t' → walk_of h r t ≡ walk_of h' r' t'
same h h' r r' t t' a b d = ap (λ (x : ℕ). walk_of x r t) a ∙ ap (λ (x : CodedRow). walk_of h' x t) b ∙ ap (λ (x : ℕ). walk_of h' r' x) d

pub returns-in-Goes : goal.returns-in-Goes
returns-in-Goes c =
    let s : Standing = c.args.program in
    let new : Standing = c.resume-progress.new.self in
    let how : progress_of s c.args.answer ≡ Goes c.in-Goes.point = sym c.resume-progress.ensures.progress ∙ c.in-Goes.is in
    let moved_on : new ≡ moved s c.args.answer = c.resume-progress.ensures.moved in
    let head : c.args.walk.now.head ≡ s.head = sym (ap (λ (w : PzWalk). w.head) c.requires.numbers) in
    let thread : c.args.walk.now.thread ≡ s.thread = sym (ap (λ (w : PzWalk). w.thread) c.requires.numbers) in
    let row : c.of-walk.result ≡ row_code new.row = c.of-walk.ensures ∙ ap row_code c.row.ensures in
    record {
      status = sym (ap status_of how);
      walk = same _ _ _ _ _ _ head (row ∙ ap (λ (q : Standing). row_code q.row) moved_on) thread;
      access =
          c.with_point.ensures
          ∙ ap (with_point c.in-Goes.point) (c.coded.ensures ∙ ap access_code (c.next.ensures ∙ ap access_of moved_on))
          ∙ sym (ap (λ (p : Progress). told p (moved s c.args.answer)) how);
    }
