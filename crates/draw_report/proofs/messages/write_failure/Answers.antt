use Rattle.draw_report.proofs.messages.write_failure.Goals as goal

pub returns-in-Usage : goal.returns-in-Usage
returns-in-Usage g c = rw c.in-Usage.is c.put.ensures

pub returns-in-CannotRead : goal.returns-in-CannotRead
returns-in-CannotRead g c = rw c.in-CannotRead.is c.put-in-CannotRead.ensures

pub returns-in-CannotWrite : goal.returns-in-CannotWrite
returns-in-CannotWrite g c = rw c.in-CannotWrite.is c.put-in-CannotWrite.ensures

pub returns-in-OutOfMemory : goal.returns-in-OutOfMemory
returns-in-OutOfMemory g c = rw c.in-OutOfMemory.is c.put-in-OutOfMemory.ensures

pub returns-in-Unlike : goal.returns-in-Unlike
returns-in-Unlike g c = rw c.in-Unlike.is c.put-in-Unlike.ensures

pub returns-in-UnlikeHistory : goal.returns-in-UnlikeHistory
returns-in-UnlikeHistory g c = rw c.in-UnlikeHistory.is c.put-in-UnlikeHistory.ensures
