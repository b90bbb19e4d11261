-- How much a script may have of each thing: the numbers that the definitions mean. The code's constants are proved to
-- be these wherever they are used.
use Rattle.std.specs.Prelude.{ℕ}
use Rattle.lockword.specs.Threads.{named_threads}

-- the bytes of a script: chosen, 64 KiB
abbrev pub max_bytes : ℕ
max_bytes = 65536

-- its lines, silent ones too: chosen
abbrev pub max_lines : ℕ
max_lines = 10000

-- the processes that it may declare: with process 0, which is always there, as many as a layout may have
abbrev pub max_processes : ℕ
max_processes = 7

-- the address at which a process may map the words: a layout has no larger base
abbrev pub max_base : ℕ
max_base = 1000000000

-- the threads that it may declare: a layout that is asked for by numbers has no more
abbrev pub max_threads : ℕ
max_threads = named_threads

-- the mutexes that it may declare, and those of one `mutexes` or `locks` line: a layout has no more
abbrev pub max_mutexes : ℕ
max_mutexes = 4096

-- the condition variables that it may declare: a layout has no more
abbrev pub max_conditions : ℕ
max_conditions = 256

-- the value that a counter may begin with: the largest that it may have
abbrev pub max_counter : ℕ
max_counter = 4294967295

-- the characters of a name: chosen, so that the lines of a table stay short
abbrev pub max_name : ℕ
max_name = 16

-- the characters of the name in a `mutexes` line: with four digits after it, for the numbers below 4,096, it is a
-- name still
abbrev pub max_stem : ℕ
max_stem = 12

-- the steps of one `step` line: as many as a script may run events in all
abbrev pub max_steps : ℕ
max_steps = 100000

-- the number of the access in a `die` line: chosen
abbrev pub max_access : ℕ
max_access = 100000

-- the events of a script that is played: chosen; nothing that it asks for runs on without an end
abbrev pub max_events : ℕ
max_events = 100000

-- the steps after which a thread that was given its steps is looked at no more: chosen above the most that a thread
-- takes until it rests, so that none is left amid a call (the law that `threads_come_to_rest` states)
abbrev pub rest_steps : ℕ
rest_steps = 9000
