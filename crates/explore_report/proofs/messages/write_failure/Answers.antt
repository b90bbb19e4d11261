use Rattle.explore_report.proofs.messages.write_failure.Goals as goal

pub returns-in-Usage : goal.returns-in-Usage
returns-in-Usage g c = rw c.in-Usage.is c.put.ensures

pub returns-in-Overwriting : goal.returns-in-Overwriting
returns-in-Overwriting g c = rw c.in-Overwriting.is c.put-in-Overwriting.ensures

pub returns-in-CannotRead : goal.returns-in-CannotRead
returns-in-CannotRead g c = rw c.in-CannotRead.is c.put-in-CannotRead.ensures

pub returns-in-CannotWrite : goal.returns-in-CannotWrite
returns-in-CannotWrite g c = rw c.in-CannotWrite.is c.put-in-CannotWrite.ensures

pub returns-in-CannotKeep : goal.returns-in-CannotKeep
returns-in-CannotKeep g c = rw c.in-CannotKeep.is c.put-in-CannotKeep.ensures
