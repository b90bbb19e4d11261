use Rattle.draw_report.proofs.drawing.write_misfit.Goals as goal

pub returns-in-Err : goal.returns-in-Err
returns-in-Err g c = rw c.in-Illegal.is c.in-Err.ensures
