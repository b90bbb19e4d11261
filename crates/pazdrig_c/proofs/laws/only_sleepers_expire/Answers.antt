use Rattle.pazdrig_c.proofs.Expiries as expiries
use Rattle.pazdrig_c.proofs.laws.only_sleepers_expire.Goals as goal

pub returns : goal.returns
returns c = expiries.only_sleepers_expire
