-- How much a trace may have of each thing: the numbers that the definitions mean. The code's constants are proved to be
-- these wherever they are used.
use Rattle.std.specs.Prelude.{ℕ}
use Rattle.lockword.specs.Threads.{named_threads}

-- the bytes of a trace: chosen, 32 MiB
abbrev pub max_bytes : ℕ
max_bytes = 33554432

-- the threads of a trace: a script has no more
abbrev pub max_threads : ℕ
max_threads = named_threads

-- the mutexes of a trace: a layout has no more
abbrev pub max_mutexes : ℕ
max_mutexes = 4096

-- the condition variables of a trace: a layout has no more
abbrev pub max_conditions : ℕ
max_conditions = 256

-- the events of a trace: as many as a script may run
abbrev pub max_events : ℕ
max_events = 100000
