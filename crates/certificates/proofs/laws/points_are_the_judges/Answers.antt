use Rattle.certificates.proofs.Points as points
use Rattle.certificates.proofs.laws.points_are_the_judges.Goals as goal

pub returns : goal.returns
returns c = points.points_are_the_judges
