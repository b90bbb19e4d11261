-- What a line of a history says, and its fault.
use Rattle.std.specs.Prelude.{ℕ, ◌≤◌, nat_lt, List, Option, Some, None, Result, Err, if◌then◌else◌}
use Rattle.std.specs.Option.{ok_or}
use Rattle.std.specs.Str.{is_utf8}
use Rattle.lines.specs.Numbers.{within}
use Rattle.lines.specs.Lines.{words_of}
use Rattle.lines.specs.Faults.{◌>>=◌}
use Rattle.verdict.specs.Forms.{◌>>=◌ as ◌>>?◌}
use Rattle.posixmutex.specs.declared.point.Operation.{Operation}
use Rattle.facts.specs.declared.fact.Fact.TheVariants as fact
use Rattle.histories.specs.declared.head.Head.{Head}
use Rattle.histories.specs.declared.entry.Entry.{Entry}
use Rattle.histories.specs.declared.entry.Entry.TheVariants.{Told, Doom}
use Rattle.histories.specs.declared.form.Said.{Said}
use Rattle.histories.specs.declared.form.Said.TheVariants as said
use Rattle.histories.specs.declared.form.Form.{Form}
use Rattle.histories.specs.declared.form.Form.TheVariants as form
use Rattle.histories.specs.declared.form.HeadForm.{HeadForm}
use Rattle.histories.specs.declared.reading.Read.{Read}
use Rattle.histories.specs.declared.reading.Read.TheVariants as read
use Rattle.histories.specs.declared.fault.Fault.{Fault}
use Rattle.histories.specs.declared.fault.Fault.TheVariants.{NotUtf8, UnknownWord, OutOfRange}
use Rattle.histories.specs.Forms.{head_form, form_of}
use Rattle.histories.specs.Limits.{max_threads, max_mutexes, max_conditions, max_events}

-- its numbers are in their ranges
pub record IsHead (h : Head) : Type 0 where
  pub some_thread : 1 ≤ h.threads
  pub few_threads : h.threads ≤ max_threads
  pub some_mutex : 1 ≤ h.mutexes
  pub few_mutexes : h.mutexes ≤ max_mutexes
  pub few_conditions : h.conditions ≤ max_conditions

-- ---- numbers in their ranges

-- the number, where it is in the range; None where the line spells none that is
abbrev pub number_in : ℕ → ℕ → Option ℕ → Option ℕ
number_in low high n = n >>? within low high

abbrev pub below : ℕ → ℕ → Option ℕ
below count n = if nat_lt n count then Some n else None

abbrev pub below_in : ℕ → Option ℕ → Option ℕ
below_in count n = n >>? below count

abbrev pub head_in : HeadForm → Option Head
head_in f = number_in 1 max_threads f.threads >>?
    λ t. number_in 1 max_mutexes f.mutexes >>?
    λ m. number_in 0 max_conditions f.conditions >>? λ c. Some (record { threads = t; mutexes = m; conditions = c })

abbrev pub thread_in : Head → Option ℕ → Option ℕ
thread_in h n = number_in 1 h.threads n

-- ---- what a line tells

-- threads are numbered from 1, mutexes and condition variables from 0
abbrev pub begin_in : Head → Option ℕ → Operation → Option ℕ → Option Entry
begin_in h t op m = thread_in h t >>?
    λ u. below_in h.mutexes m >>?
    λ n. Some (Told (fact.Begin u (record { operation = op; mutex = n; condition = None })))

abbrev pub begin_on_in : Head → Option ℕ → Operation → Option ℕ → Option ℕ → Option Entry
begin_on_in h t op k m = thread_in h t >>?
    λ u. below_in h.conditions k >>?
    λ c. below_in h.mutexes m >>?
    λ n. Some (Told (fact.Begin u (record { operation = op; mutex = n; condition = Some c })))

-- None inside where what the line tells isn't seen from outside
abbrev pub said_in : Head → Said → Option (Option Entry)
said_in h (said.Begin t op m) = begin_in h t op m >>? λ e. Some (Some e)
said_in h (said.BeginOn t op k m) = begin_on_in h t op k m >>? λ e. Some (Some e)
said_in h (said.Return t x) = thread_in h t >>? λ u. Some (Some (Told (fact.Return u x)))
said_in h (said.Kill t) = thread_in h t >>? λ u. Some (Some (Told (fact.Kill u)))
said_in h (said.Doom t) = thread_in h t >>? λ u. Some (Some (Doom u))
said_in h (said.Reap t) = thread_in h t >>? λ u. Some (Some (Told (fact.Reap u)))
said_in h (said.Renew t) = thread_in h t >>? λ u. Some (Some (Told (fact.Renew u)))
said_in h (said.Hidden t) = thread_in h t >>? λ u. Some None

abbrev pub line_in : Head → Form → Option Read
line_in h (form.Told n s) = number_in 1 max_events n >>? λ i. said_in h s >>? λ e. Some (read.Told i e)
line_in h (form.End n) = n >>? λ i. Some (read.End i)

-- ---- a line

abbrev pub head_said : List ℕ → Result Head Fault
head_said text = ok_or (head_form (words_of text)) UnknownWord >>= λ f. ok_or (head_in f) OutOfRange

abbrev pub line_said : Head → List ℕ → Result Read Fault
line_said h text = ok_or (form_of text) UnknownWord >>= λ f. ok_or (line_in h f) OutOfRange

-- the first line, without its line feed
abbrev pub head_read : List ℕ → Result Head Fault
head_read bytes = if is_utf8 bytes then head_said bytes else Err NotUtf8

-- a line after the first, without its line feed
abbrev pub line_read : Head → List ℕ → Result Read Fault
line_read h bytes = if is_utf8 bytes then line_said h bytes else Err NotUtf8
