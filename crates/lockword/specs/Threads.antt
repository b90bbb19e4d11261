-- How many threads there are at a time.
use Rattle.std.specs.Prelude.{ℕ}

-- the last id that a thread may have: a thread's id is 1 to this
abbrev pub most_threads : ℕ
most_threads = 250

-- how many threads a script, a trace or a history has at most
abbrev pub named_threads : ℕ
named_threads = 64
