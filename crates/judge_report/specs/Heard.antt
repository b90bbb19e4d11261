-- What a history's text says, and its first fault: each line in turn.
--
-- *The history and its first fault.* Each line in turn: whether it is text, its form, its numbers, that of its event not
-- below the one before; then whether the last is an `end` line with nothing after it.
use Rattle.std.specs.Prelude.{ℕ, ◌≡◌, ◌+◌, nat_lt, Bool, true, false, List, [], ◌∷◌, reverse, if◌then◌else◌}
use Rattle.std.specs.Prelude.{Option, Some, None, Result, Ok, Err}
use Rattle.lines.specs.Lines.{lines_of}
use Rattle.lines.specs.Faults.{◌>>=◌}
use Rattle.histories.specs.declared.head.Head.{Head}
use Rattle.histories.specs.declared.entry.Entry.{Entry}
use Rattle.histories.specs.declared.entry.HistoryLine.{HistoryLine}
use Rattle.histories.specs.declared.reading.Read.{Read}
use Rattle.histories.specs.declared.reading.Read.TheVariants as read
use Rattle.histories.specs.declared.fault.Fault.{Fault}
use Rattle.histories.specs.declared.fault.Fault.TheVariants.{UnknownWord, OutOfRange, Cut}
use Rattle.histories.specs.declared.fault.HistoryFault.{HistoryFault}
use Rattle.histories.specs.Reading.{head_read, line_read}
use Rattle.judge_report.specs.declared.reading.History.{History}
use Rattle.judge_report.specs.declared.reading.ReadFault.{ReadFault}
use Rattle.judge_report.specs.declared.reading.ReadFault.TheVariants.{Failed, Memory, Ill}

-- what was read: the first line; what is seen, the newest first; the latest event, at last the number on the last line
pub record Heard : Type 0 where
  pub head : Head
  pub seen : List HistoryLine
  pub last : ℕ

-- what was read with one line more, and whether that is the last
pub record Taken : Type 0 where
  pub ends : Bool
  pub heard : Heard

abbrev pub fault_at : ℕ → Fault → HistoryFault
fault_at n f = record { line = n; fault = f }

abbrev pub met_at : {A : Type 0} → ℕ → Result A Fault → Result A HistoryFault
met_at n (Ok x) = Ok x
met_at n (Err f) = Err (fault_at n f)

-- nothing stands after a line feed, though there was no `end` line; or something is there, which no line feed ends
abbrev pub unended : List ℕ → Fault
unended [] = Cut
unended (b ∷ bs) = UnknownWord

-- what is seen, and what line n tells before it
abbrev pub seen_with : ℕ → ℕ → Option Entry → List HistoryLine → List HistoryLine
seen_with n i None es = es
seen_with n i (Some e) es = (record { number = n; event = i; entry = e }) ∷ es

-- the number of an event isn't below the one before
abbrev pub risen : Heard → ℕ → Taken → Result Taken Fault
risen h i t = if nat_lt i h.last then Err OutOfRange else Ok t

-- line n, which says this, after what was read
abbrev pub taken_by : ℕ → Heard → Read → Result Taken Fault
taken_by n h (read.Told i e) =
    risen h i (record { ends = false; heard = record h { seen = seen_with n i e h.seen; last = i } })
taken_by n h (read.End i) = risen h i (record { ends = true; heard = record h { last = i } })

abbrev pub line_taken : ℕ → Heard → List ℕ → Result Taken HistoryFault
line_taken n h text = met_at n (line_read h.head text >>= taken_by n h)

-- nothing stands after the `end` line; where something does, it is at line n
abbrev pub closed : ℕ → Heard → List (List ℕ) → Result Heard HistoryFault
closed n h ([] ∷ []) = Ok h
closed n h _ = Err (fault_at n Cut)

-- what follows a line: the lines after it, the first of which is line n
abbrev pub goes_on : ℕ → List (List ℕ) → (Heard → Result Heard HistoryFault) → Taken → Result Heard HistoryFault
goes_on n ls more t = if t.ends then closed n t.heard ls else more t.heard

-- these lines, the first of which is line n, after what was read; what stands after the last line feed is the last of
-- them
unfoldable pub lines_read : ℕ → Heard → List (List ℕ) → Result Heard HistoryFault
lines_read n h [] = Err (fault_at n Cut)
lines_read n h (text ∷ []) = Err (fault_at n (unended text))
lines_read n h (text ∷ next ∷ more) =
    line_taken n h text >>= goes_on (n + 1) (next ∷ more) (λ k. lines_read (n + 1) k (next ∷ more))

-- before the first line after the head
abbrev pub begun : Head → Heard
begun h = record { head = h; seen = []; last = 0 }

-- a text from its first line to its last
abbrev pub text_read : List (List ℕ) → Result Heard HistoryFault
text_read [] = Err (fault_at 1 Cut)
text_read (text ∷ []) = Err (fault_at 1 (unended text))
text_read (text ∷ next ∷ more) = met_at 1 (head_read text) >>= λ h. lines_read 2 (begun h) (next ∷ more)

-- the history that the bytes are, or their first fault
abbrev pub history_read : List ℕ → Result Heard HistoryFault
history_read bytes = text_read (lines_of bytes)

-- ---- what the program makes of it

abbrev pub heard_of : History → Heard
heard_of h = record { head = h.head; seen = reverse h.lines.items; last = h.last }

-- what is given where the bytes say this: the history that they are; or their first fault; or that a read failed, or
-- memory was needed
abbrev pub Gives : Result Heard HistoryFault → Result History ReadFault → Type 0
Gives said (Ok h) = said ≡ Ok (heard_of h)
Gives said (Err (Ill f)) = said ≡ Err f
Gives said (Err Failed) = Unit {0}
Gives said (Err Memory) = Unit {0}

-- it tells no fault: a read failed, or memory was needed
abbrev pub IsUnread : ReadFault → Type 0
IsUnread (Ill f) = ⊥
IsUnread Failed = Unit {0}
IsUnread Memory = Unit {0}

-- ---- one line

-- line n is taken, which is the last or isn't; or its fault is reported; or memory was needed
abbrev pub Takes : Heard → ℕ → List ℕ → Result Bool ReadFault → Heard → Type 0
Takes h n text (Ok ends) k = line_taken n h text ≡ Ok (record { ends = ends; heard = k })
Takes h n text (Err (Ill f)) k = line_taken n h text ≡ Err f
Takes h n text (Err Failed) k = Unit {0}
Takes h n text (Err Memory) k = Unit {0}

-- nothing stands after the `end` line, at line n; or something does
abbrev pub Closes : ℕ → List (List ℕ) → Result (Unit {0}) ReadFault → Type 0
Closes n ls (Ok u) = (h : Heard) → closed n h ls ≡ Ok h
Closes n ls (Err (Ill f)) = (h : Heard) → closed n h ls ≡ Err f
Closes n ls (Err Failed) = Unit {0}
Closes n ls (Err Memory) = Unit {0}

-- this is the first line of what was left, and the rest is left; or all that was left has no line feed
abbrev pub Cuts : List ℕ → Option (List ℕ) → Bool → List ℕ → Type 0
Cuts bytes left true line = (rest : List ℕ) × (left ≡ Some rest) × (lines_of bytes ≡ line ∷ lines_of rest)
Cuts bytes left false line = lines_of bytes ≡ line ∷ []

-- the first line is read, and what stands after it is left; or its fault is reported
abbrev pub Begins : List ℕ → Option (List ℕ) → Result Head ReadFault → Type 0
Begins bytes left (Ok h) =
    (rest : List ℕ) × (left ≡ Some rest) × (history_read bytes ≡ lines_read 2 (begun h) (lines_of rest))
Begins bytes left (Err (Ill f)) = history_read bytes ≡ Err f
Begins bytes left (Err Failed) = Unit {0}
Begins bytes left (Err Memory) = Unit {0}
