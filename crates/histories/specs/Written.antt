-- Which lines a history may have, and that each is read as it was written.
--
-- *Written and read back.* By a history's first line, which entries it may have: their numbers are in their ranges, and
-- their operations are those that calls have. Each is read as what it was written of, and nothing else is read as it.
use Rattle.std.specs.Prelude.{ℕ, ◌≡◌, ◌<◌, ◌≤◌, true, false, Option, Some, None, List, [], ◌∷◌, ◌++◌, Ok, codes, decimal}
use Rattle.lockword.specs.Replies.{reply_word}
use Rattle.posixmutex.specs.declared.point.Operation.{Operation}
use Rattle.posixmutex.specs.declared.point.Operation.TheVariants.{Lock, TimedLock, TryLock, Unlock, Consistent}
use Rattle.posixmutex.specs.declared.point.Operation.TheVariants.{Wait, TimedWait, Signal, Broadcast, Death, Reinit}
use Rattle.posixmutex.specs.Words.{operation_word}
use Rattle.facts.specs.declared.fact.Queue.{Queue}
use Rattle.facts.specs.declared.fact.Queue.TheVariants.{Mutex, Condition}
use Rattle.facts.specs.declared.fact.Fact.{Fact}
use Rattle.facts.specs.declared.fact.Fact.TheVariants as fact
use Rattle.verdict.specs.declared.fault.Fault.{Fault as TraceFault}
use Rattle.verdict.specs.declared.fault.Fault.TheVariants as trace
use Rattle.verdict.specs.Faults.{number_of as trace_number, words_of as trace_words}
use Rattle.histories.specs.declared.entry.Entry.{Entry}
use Rattle.histories.specs.declared.entry.Entry.TheVariants.{Told, Doom}
use Rattle.histories.specs.declared.fault.Fault.{Fault}
use Rattle.histories.specs.declared.fault.Fault.TheVariants.{NotUtf8, UnknownWord, OutOfRange, Cut, OutOfMemory}
use Rattle.histories.specs.declared.head.Head.{Head}
use Rattle.histories.specs.declared.reading.Read.TheVariants as read
use Rattle.histories.specs.Faults.{number_of, words_of}
use Rattle.histories.specs.Histories.{is_hidden}
use Rattle.histories.specs.Limits.{max_events}
use Rattle.histories.specs.Reading.{IsHead, head_read, line_read}

-- ---- what a line may say, in a history with this first line

-- threads are numbered from 1, mutexes and condition variables from 0
abbrev pub IsThreadOf : Head → ℕ → Type 0
IsThreadOf h t = (1 ≤ t) × (t ≤ h.threads)

-- a call on a mutex, and so is a reinit; or on the condition variable with this number
abbrev pub IsCallOf : Head → Operation → Option ℕ → Type 0
IsCallOf h Lock None = Unit {0}
IsCallOf h TimedLock None = Unit {0}
IsCallOf h TryLock None = Unit {0}
IsCallOf h Unlock None = Unit {0}
IsCallOf h Consistent None = Unit {0}
IsCallOf h Reinit None = Unit {0}
IsCallOf h Wait (Some k) = k < h.conditions
IsCallOf h TimedWait (Some k) = k < h.conditions
IsCallOf h Signal (Some k) = k < h.conditions
IsCallOf h Broadcast (Some k) = k < h.conditions
IsCallOf h op k = ⊥

-- no call dies
abbrev pub IsCalled : Operation → Type 0
IsCalled Death = ⊥
IsCalled op = Unit {0}

abbrev pub IsQueueOf : Head → Queue → Type 0
IsQueueOf h (Mutex m) = m < h.mutexes
IsQueueOf h (Condition k) = k < h.conditions

abbrev pub IsFactOf : Head → Fact → Type 0
IsFactOf h (fact.Begin t c) = IsThreadOf h t × (c.mutex < h.mutexes) × IsCallOf h c.operation c.condition
IsFactOf h (fact.Point d) = IsThreadOf h d.thread × (d.mutex < h.mutexes) × IsCalled d.operation
IsFactOf h (fact.Death t m) = IsThreadOf h t × (m < h.mutexes)
IsFactOf h (fact.Sleep t q) = IsThreadOf h t × IsQueueOf h q
IsFactOf h (fact.Wake t) = IsThreadOf h t
IsFactOf h (fact.Move t m) = IsThreadOf h t × (m < h.mutexes)
IsFactOf h (fact.Return t x) = IsThreadOf h t
IsFactOf h (fact.Kill t) = IsThreadOf h t
IsFactOf h (fact.Reap t) = IsThreadOf h t
IsFactOf h (fact.Renew t) = IsThreadOf h t

-- what is hidden is no entry
abbrev pub IsEntryOf : Head → Entry → Type 0
IsEntryOf h (Told f) = (is_hidden f ≡ false) × IsFactOf h f
IsEntryOf h (Doom t) = IsThreadOf h t

abbrev pub IsEvent : ℕ → Type 0
IsEvent i = (1 ≤ i) × (i ≤ max_events)

-- ---- how it is written: words with a space between each two

abbrev pub spaced : List (List ℕ) → List ℕ
spaced [] = []
spaced (w ∷ []) = w
spaced (w ∷ v ∷ ws) = w ++ 32 ∷ spaced (v ∷ ws)

abbrev pub thread_name : ℕ → List ℕ
thread_name t = codes "t" ++ decimal t

abbrev pub mutex_name : ℕ → List ℕ
mutex_name m = codes "m" ++ decimal m

abbrev pub condition_name : ℕ → List ℕ
condition_name k = codes "c" ++ decimal k

abbrev pub queue_name : Queue → List ℕ
queue_name (Mutex m) = mutex_name m
queue_name (Condition k) = condition_name k

-- the words of a begin, whose call is on a mutex or on a condition variable
abbrev pub begin_words : ℕ → Operation → Option ℕ → ℕ → List (List ℕ)
begin_words t op None m = codes "begin" ∷ thread_name t ∷ operation_word op ∷ mutex_name m ∷ []
begin_words t op (Some k) m =
    codes "begin" ∷ thread_name t ∷ operation_word op ∷ condition_name k ∷ mutex_name m ∷ []

-- the words after the event's number
abbrev pub fact_words : Fact → List (List ℕ)
fact_words (fact.Begin t c) = begin_words t c.operation c.condition c.mutex
fact_words (fact.Point d) =
    codes "point" ∷ thread_name d.thread ∷ mutex_name d.mutex ∷ operation_word d.operation ∷ reply_word d.reply ∷ []
fact_words (fact.Death t m) = codes "death" ∷ thread_name t ∷ mutex_name m ∷ []
fact_words (fact.Sleep t q) = codes "sleep" ∷ thread_name t ∷ queue_name q ∷ []
fact_words (fact.Wake t) = codes "wake" ∷ thread_name t ∷ []
fact_words (fact.Move t m) = codes "move" ∷ thread_name t ∷ mutex_name m ∷ []
fact_words (fact.Return t x) = codes "return" ∷ thread_name t ∷ reply_word x ∷ []
fact_words (fact.Kill t) = codes "kill" ∷ thread_name t ∷ []
fact_words (fact.Reap t) = codes "reaped" ∷ thread_name t ∷ []
fact_words (fact.Renew t) = codes "renew" ∷ thread_name t ∷ []

abbrev pub entry_words : Entry → List (List ℕ)
entry_words (Told f) = fact_words f
entry_words (Doom t) = codes "doom" ∷ thread_name t ∷ []

-- a line without its line feed
abbrev pub fact_line : ℕ → Fact → List ℕ
fact_line i f = spaced (decimal i ∷ fact_words f)

abbrev pub entry_line : ℕ → Entry → List ℕ
entry_line i e = spaced (decimal i ∷ entry_words e)

-- the first line, by its keyword
abbrev pub head_line : List ℕ → Head → List ℕ
head_line keyword h = spaced (keyword ∷ decimal h.threads ∷ decimal h.mutexes ∷ decimal h.conditions ∷ [])

abbrev pub end_line : ℕ → List ℕ
end_line n = spaced (codes "end" ∷ decimal n ∷ [])

-- ---- reading is the inverse of writing

-- the first line, of a history and of a trace; each entry; what a trace says that isn't seen from outside; the last line
pub record LinesAreReadBack : Type 0 where
  pub head : (h : Head) → IsHead h → head_read (head_line (codes "history") h) ≡ Ok h
  pub head_of_trace : (h : Head) → IsHead h → head_read (head_line (codes "trace") h) ≡ Ok h
  pub entry : (h : Head) (i : ℕ) (e : Entry) → IsHead h → IsEvent i → IsEntryOf h e
      → line_read h (entry_line i e) ≡ Ok (read.Told i (Some e))
  pub hidden : (h : Head) (i : ℕ) (f : Fact) → IsHead h → IsEvent i → is_hidden f ≡ true → IsFactOf h f
      → line_read h (fact_line i f) ≡ Ok (read.Told i None)
  pub end : (h : Head) (n : ℕ) → n ≤ max_events → line_read h (end_line n) ≡ Ok (read.End n)

-- and whatever is read is one of these: a head with its numbers in their ranges, an event from 1 on, an entry of the head
pub record LinesAreInRange : Type 0 where
  pub head : (bytes : List ℕ) (h : Head) → head_read bytes ≡ Ok h → IsHead h
  pub event : (h : Head) (bytes : List ℕ) (i : ℕ) (e : Option Entry) → line_read h bytes ≡ Ok (read.Told i e)
      → IsEvent i
  pub entry : (h : Head) (bytes : List ℕ) (i : ℕ) (e : Entry) → line_read h bytes ≡ Ok (read.Told i (Some e))
      → IsEntryOf h e
  pub end : (h : Head) (bytes : List ℕ) (n : ℕ) → line_read h bytes ≡ Ok (read.End n) → n ≤ max_events

-- and no other text is read as it; but of what isn't seen only the keyword and the thread are read
pub record OnlyTheseAreRead : Type 0 where
  pub entry : (h : Head) (bytes : List ℕ) (i : ℕ) (e : Entry) → line_read h bytes ≡ Ok (read.Told i (Some e))
      → bytes ≡ entry_line i e
  pub end : (h : Head) (bytes : List ℕ) (n : ℕ) → line_read h bytes ≡ Ok (read.End n) → bytes ≡ end_line n

-- ---- faults

-- a trace's fault of the same kind
abbrev pub as_of_trace : Fault → TraceFault
as_of_trace NotUtf8 = trace.NotUtf8
as_of_trace UnknownWord = trace.UnknownWord
as_of_trace OutOfRange = trace.OutOfRange
as_of_trace Cut = trace.Cut
as_of_trace OutOfMemory = trace.OutOfMemory

-- it has the same number and the same words
abbrev pub FaultsAreTheTraces : Type 0
FaultsAreTheTraces = (f : Fault)
    → (number_of f ≡ trace_number (as_of_trace f)) × (words_of f ≡ trace_words (as_of_trace f))
