-- The text of a certificate.
use Rattle.std.specs.Prelude.{ℕ, ◌+◌, List, [], ◌++◌, length, map, reverse}
use Rattle.std.specs.List.{concat}
use Rattle.texts.specs.Text.{head_line, line_text, fact_text, end_line}
use Rattle.histories.specs.declared.head.Head.{Head}
use Rattle.histories.specs.declared.entry.Entry.{Entry}
use Rattle.histories.specs.declared.entry.Entry.TheVariants.{Told, Doom}
use Rattle.certificates.specs.Certificates.{trace_of}

-- what a step tells after this many lines: a line more, or nothing
abbrev pub step_text : ℕ → Entry → List ℕ
step_text n (Told f) = fact_text (n + 1) f
step_text n (Doom t) = []

abbrev pub count_with : ℕ → Entry → ℕ
count_with n (Told f) = n + 1
count_with n (Doom t) = n

-- the lines of the trace that steps are, in their order
abbrev pub steps_lines : List Entry → List ℕ
steps_lines steps = concat (map line_text (reverse (trace_of (reverse steps))))

-- how many they are
abbrev pub steps_count : List Entry → ℕ
steps_count steps = length (trace_of (reverse steps))

-- a certificate's text: that of a trace of as many threads, mutexes and condition variables
abbrev pub certificate_text : Head → List Entry → List ℕ
certificate_text h steps = head_line h.threads h.mutexes h.conditions ++ (steps_lines steps ++ end_line (steps_count steps))
