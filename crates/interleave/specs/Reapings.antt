-- Threads whose end is complete.
use Rattle.std.specs.Prelude.{ℕ, Bool, ◌&&◌}
use Rattle.protocol.specs.Machine.{State, has_thread, is_gone}

-- thread t was killed, the kernel's walk of its list has ended, and it hasn't been renewed since
abbrev pub is_reaped : State → ℕ → Bool
is_reaped s t = has_thread s t && is_gone (s.threads t).stage
