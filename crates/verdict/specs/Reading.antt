-- What a trace says, and its first fault: each line in turn.
--
-- *The trace and its first fault.* First the bytes (too many; not UTF-8), then the lines, each in turn: its form, then
-- its numbers; then whether the last is an `end` line with nothing after it. A fault is recorded wherever a line
-- before it doesn't fit.
use Rattle.std.specs.Prelude.{ℕ, ◌+◌, ◌≤◌, nat_lt, List, [], ◌∷◌, length, Option}
use Rattle.std.specs.Prelude.{Some, None, Result, Ok, Err, if◌then◌else◌}
use Rattle.std.specs.Option.{ok_or}
use Rattle.std.specs.Str.{is_utf8}
use Rattle.lines.specs.Numbers.{within}
use Rattle.lines.specs.Lines.{lines_of, words_of}
use Rattle.lines.specs.Faults.{◌>>=◌}
use Rattle.lines.specs.Lines.{bad_line}
use Rattle.verdict.specs.Forms.{head_form, form_of}
use Rattle.verdict.specs.Forms.{◌>>=◌ as ◌>>?◌}
use Rattle.lockword.specs.declared.reply.Reply.{Reply}
use Rattle.verdict.specs.declared.head.Head.{Head}
use Rattle.posixmutex.specs.declared.point.Operation.{Operation}
use Rattle.facts.specs.declared.fact.Queue.TheVariants.{Mutex, Condition}
use Rattle.facts.specs.declared.fact.Fact.{Fact}
use Rattle.facts.specs.declared.fact.Fact.TheVariants as fact
use Rattle.facts.specs.declared.fact.Line.{Line}
use Rattle.verdict.specs.declared.form.Said.{Said}
use Rattle.verdict.specs.declared.form.Said.TheVariants as said
use Rattle.verdict.specs.declared.form.Form.{Form}
use Rattle.verdict.specs.declared.form.Form.TheVariants as form
use Rattle.verdict.specs.declared.form.HeadForm.{HeadForm}
use Rattle.verdict.specs.declared.reading.Read.{Read}
use Rattle.verdict.specs.declared.reading.Read.TheVariants as read
use Rattle.verdict.specs.declared.fault.Fault.{Fault}
use Rattle.verdict.specs.declared.fault.Fault.TheVariants.{NotUtf8, UnknownWord, OutOfRange, TooLong, Cut}
use Rattle.verdict.specs.declared.fault.TraceFault.{TraceFault}
use Rattle.verdict.specs.Limits.{max_bytes, max_threads, max_mutexes, max_conditions, max_events}

-- a trace that was read: its first line, what its lines tell, the newest first, and the number on its last line
pub record Trace : Type 0 where
  pub head : Head
  pub told : List Line
  pub last : ℕ

-- its numbers of threads and mutexes are in their ranges
pub record IsHead (h : Head) : Type 0 where
  pub some_thread : 1 ≤ h.threads
  pub few_threads : h.threads ≤ max_threads
  pub some_mutex : 1 ≤ h.mutexes
  pub few_mutexes : h.mutexes ≤ max_mutexes

-- ---- numbers in their ranges

-- the number, where it is in the range; None where the line spells none that is
abbrev pub number_in : ℕ → ℕ → Option ℕ → Option ℕ
number_in low high n = n >>? within low high

abbrev pub below : ℕ → ℕ → Option ℕ
below count n = if nat_lt n count then Some n else None

abbrev pub below_in : ℕ → Option ℕ → Option ℕ
below_in count n = n >>? below count

abbrev pub head_in : HeadForm → Option Head
head_in f = number_in 1 max_threads f.threads >>?
    λ t. number_in 1 max_mutexes f.mutexes >>?
    λ m. number_in 0 max_conditions f.conditions >>? λ c. Some (record { threads = t; mutexes = m; conditions = c })

abbrev pub thread_in : Head → Option ℕ → Option ℕ
thread_in h n = number_in 1 h.threads n

-- ---- what a line tells

-- threads are numbered from 1, mutexes and condition variables from 0
abbrev pub begin_in : Head → Option ℕ → Operation → Option ℕ → Option Fact
begin_in h t op m = thread_in h t >>?
    λ u. below_in h.mutexes m >>? λ n. Some (fact.Begin u (record { operation = op; mutex = n; condition = None }))

abbrev pub begin_on_in : Head → Option ℕ → Operation → Option ℕ → Option ℕ → Option Fact
begin_on_in h t op k m = thread_in h t >>?
    λ u. below_in h.conditions k >>?
    λ c. below_in h.mutexes m >>? λ n. Some (fact.Begin u (record { operation = op; mutex = n; condition = Some c }))

abbrev pub point_in : Head → Option ℕ → Option ℕ → Operation → Reply → Option Fact
point_in h t m op x = thread_in h t >>?
    λ u. below_in h.mutexes m >>? λ n. Some (fact.Point (record { thread = u; mutex = n; operation = op; reply = x }))

abbrev pub death_in : Head → Option ℕ → Option ℕ → Option Fact
death_in h t m = thread_in h t >>? λ u. below_in h.mutexes m >>? λ n. Some (fact.Death u n)

abbrev pub sleep_in : Head → Option ℕ → Option ℕ → Option Fact
sleep_in h t m = thread_in h t >>? λ u. below_in h.mutexes m >>? λ n. Some (fact.Sleep u (Mutex n))

abbrev pub sleep_on_in : Head → Option ℕ → Option ℕ → Option Fact
sleep_on_in h t k = thread_in h t >>? λ u. below_in h.conditions k >>? λ c. Some (fact.Sleep u (Condition c))

abbrev pub move_in : Head → Option ℕ → Option ℕ → Option Fact
move_in h t m = thread_in h t >>? λ u. below_in h.mutexes m >>? λ n. Some (fact.Move u n)

abbrev pub fact_in : Head → Said → Option Fact
fact_in h (said.Begin t op m) = begin_in h t op m
fact_in h (said.BeginOn t op k m) = begin_on_in h t op k m
fact_in h (said.Kill t) = thread_in h t >>? λ u. Some (fact.Kill u)
fact_in h (said.Point t m op x) = point_in h t m op x
fact_in h (said.Death t m) = death_in h t m
fact_in h (said.Sleep t m) = sleep_in h t m
fact_in h (said.SleepOn t k) = sleep_on_in h t k
fact_in h (said.Wake t) = thread_in h t >>? λ u. Some (fact.Wake u)
fact_in h (said.Move t m) = move_in h t m
fact_in h (said.Return t x) = thread_in h t >>? λ u. Some (fact.Return u x)
fact_in h (said.Reap t) = thread_in h t >>? λ u. Some (fact.Reap u)
fact_in h (said.Renew t) = thread_in h t >>? λ u. Some (fact.Renew u)

abbrev pub line_in : Head → Form → Option Read
line_in h (form.Told n s) =
    number_in 1 max_events n >>? λ i. fact_in h s >>? λ f. Some (read.Told (record { event = i; fact = f }))
line_in h (form.End n) = n >>? λ i. Some (read.End i)

-- ---- line after line

-- the first line, which a line feed ends
abbrev pub head_read : List ℕ → Result Head Fault
head_read text = ok_or (head_form (words_of text)) UnknownWord >>= λ f. ok_or (head_in f) OutOfRange

-- a line after the first, which a line feed ends
abbrev pub line_read : Head → List ℕ → Result Read Fault
line_read h text = ok_or (form_of text) UnknownWord >>= λ f. ok_or (line_in h f) OutOfRange

-- a fault at line n
abbrev pub fault_at : ℕ → Fault → TraceFault
fault_at n f = record { line = n; fault = f }

abbrev pub met_at : {A : Type 0} → ℕ → Result A Fault → Result A TraceFault
met_at n (Ok x) = Ok x
met_at n (Err f) = Err (fault_at n f)

-- nothing stands after a line feed, though there was no `end` line; or something is there, which no line feed ends
abbrev pub unended : List ℕ → Fault
unended [] = Cut
unended (b ∷ bs) = UnknownWord

-- nothing stands after the `end` line; where something does, it is at line n
abbrev pub ended : ℕ → Head → List Line → ℕ → List (List ℕ) → Result Trace TraceFault
ended n h told i ([] ∷ []) = Ok (record { head = h; told = told; last = i })
ended n h told i _ = Err (fault_at n Cut)

-- what follows a line: the lines after it, the first of which is line n
abbrev pub goes_on : ℕ → Head → List Line → List (List ℕ) → (Line → Result Trace TraceFault) → Read
    → Result Trace TraceFault
goes_on n h told ls more (read.Told e) = more e
goes_on n h told ls more (read.End i) = ended n h told i ls

-- these lines, the first of which is line n, after a first line and what the lines after that one told; what stands
-- after the last line feed is the last of them
unfoldable pub lines_read : ℕ → Head → List Line → List (List ℕ) → Result Trace TraceFault
lines_read n h told [] = Err (fault_at n Cut)
lines_read n h told (text ∷ []) = Err (fault_at n (unended text))
lines_read n h told (text ∷ next ∷ more) = met_at n (line_read h text)
    >>= goes_on (n + 1) h told (next ∷ more) (λ e. lines_read (n + 1) h (e ∷ told) (next ∷ more))

-- a text from its first line to its last
abbrev pub text_read : List (List ℕ) → Result Trace TraceFault
text_read [] = Err (fault_at 1 Cut)
text_read (text ∷ []) = Err (fault_at 1 (unended text))
text_read (text ∷ next ∷ more) = met_at 1 (head_read text) >>= λ h. lines_read 2 h [] (next ∷ more)

-- the trace that the bytes are, or their first fault
abbrev pub trace_read : List ℕ → Result Trace TraceFault
trace_read bytes = if nat_lt max_bytes (length bytes) then Err (fault_at 1 TooLong)
    else (if is_utf8 bytes then text_read (lines_of bytes) else Err (fault_at (bad_line bytes) NotUtf8))
