use Rattle.judge_report.proofs.messages.write_failure.Goals as goal

pub returns-in-Usage : goal.returns-in-Usage
returns-in-Usage g c = rw c.in-Usage.is c.put.ensures

pub returns-in-CannotRead : goal.returns-in-CannotRead
returns-in-CannotRead g c = rw c.in-CannotRead.is c.put-in-CannotRead.ensures

pub returns-in-CannotWrite : goal.returns-in-CannotWrite
returns-in-CannotWrite g c = rw c.in-CannotWrite.is c.put-in-CannotWrite.ensures

pub returns-in-CannotKeep : goal.returns-in-CannotKeep
returns-in-CannotKeep g c = rw c.in-CannotKeep.is c.put-in-CannotKeep.ensures

pub returns-in-OutOfMemory : goal.returns-in-OutOfMemory
returns-in-OutOfMemory g c = rw c.in-OutOfMemory.is c.put-in-OutOfMemory.ensures

pub returns-in-TooMany : goal.returns-in-TooMany
returns-in-TooMany g c = rw c.in-TooMany.is c.put-in-TooMany.ensures

pub returns-in-NoPlace : goal.returns-in-NoPlace
returns-in-NoPlace g c = rw c.in-NoPlace.is c.put-in-NoPlace.ensures

pub returns-in-Overwriting : goal.returns-in-Overwriting
returns-in-Overwriting g c = rw c.in-Overwriting.is c.put-in-Overwriting.ensures

pub returns-in-CannotKeepWindow : goal.returns-in-CannotKeepWindow
returns-in-CannotKeepWindow g c = rw c.in-CannotKeepWindow.is c.write_window_failure.ensures

pub returns-in-CannotRemove : goal.returns-in-CannotRemove
returns-in-CannotRemove g c = rw c.in-CannotRemove.is c.write_window_failure-in-CannotRemove.ensures
