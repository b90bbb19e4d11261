use Rattle.std.proofs.Common.{◌≡◌, Some, inl, subst}
use Rattle.draw_report.specs.Programs.{PictureEnds}
use Rattle.draw_report.proofs.program.run_named.Goals as goal

pub returns-in-Ok : goal.returns-in-Ok
returns-in-Ok g c =
    let s = c.in-Ok.script in
    inl (s, c.in-Ok.ensures.opens, subst (λ e. PictureEnds (g.F.Opener.opens c.args.files.now) c.args.kind (Some s) c.args.file.now (g.W.Write.contents c.args.out.now) (g.W.Write.contents c.run_picture.new.out) (g.W.Output.is_let_go c.run_picture.new.out) (c.run_picture.new.err ≡ e) (g.E.Write.contents e) (g.E.Write.contents c.run_picture.new.err) c.run_picture.result) c.in-Ok.ensures.quiet c.run_picture.ensures)
