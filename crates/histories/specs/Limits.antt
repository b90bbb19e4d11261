-- How much a history may have of each thing: the numbers that the definitions mean. The code's constants are proved to
-- be these wherever they are used.
use Rattle.std.specs.Prelude.{ℕ}
use Rattle.lockword.specs.Threads.{named_threads}

-- the threads at a time: a trace has no more; an id is used again once its thread was reaped
abbrev pub max_threads : ℕ
max_threads = named_threads

-- the mutexes: as many as two bytes can number
abbrev pub max_mutexes : ℕ
max_mutexes = 65536

-- the condition variables: as many
abbrev pub max_conditions : ℕ
max_conditions = 65536

-- the events: the ticks of a processor's clock for a century
abbrev pub max_events : ℕ
max_events = 9223372036854775808
