-- The text of a trace, line by line.
--
-- *Text of a trace.* A line with the numbers of threads, mutexes and condition variables; a line for each fact, which
-- begins with the event's number; a line with the number of events.
use Rattle.std.specs.Prelude.{ℕ, Option, Some, None, List, [], ◌∷◌, ◌++◌, length, map, codes, decimal}
use Rattle.std.specs.List.{concat}
use Rattle.lockword.specs.declared.reply.Reply.{Reply}
use Rattle.lockword.specs.Replies.{reply_word}
use Rattle.posixmutex.specs.declared.point.Decision.{Decision}
use Rattle.posixmutex.specs.declared.point.Operation.{Operation}
use Rattle.posixmutex.specs.Words.{operation_word}
use Rattle.protocol.specs.declared.note.Note.{Note}
use Rattle.facts.specs.declared.fact.Queue.{Queue}
use Rattle.facts.specs.declared.fact.Queue.TheVariants.{Mutex, Condition}
use Rattle.facts.specs.declared.fact.Fact.{Fact}
use Rattle.facts.specs.declared.fact.Fact.TheVariants.{Begin, Point, Death, Sleep, Wake}
use Rattle.facts.specs.declared.fact.Fact.TheVariants.{Move, Return, Kill, Reap, Renew}
use Rattle.facts.specs.declared.fact.Line.{Line}
use Rattle.protocol.specs.Notes.{line_of, lines_from}
use Rattle.interleave.specs.declared.trace.Trace.{Trace}

-- ---- a line of each kind

-- trace T M C: how many threads, mutexes and condition variables there are
abbrev pub head_line : ℕ → ℕ → ℕ → List ℕ
head_line threads mutexes conditions = concat
    (codes "trace " ∷ decimal threads ∷ codes " " ∷ decimal mutexes ∷ codes " " ∷ decimal conditions ∷ codes "\n" ∷ [])

-- i begin tT OP mM: the thread began a call on the mutex
abbrev pub begin_line : ℕ → ℕ → Operation → ℕ → List ℕ
begin_line i t op m = concat
    (decimal i ∷ codes " begin t" ∷ decimal t ∷ codes " " ∷ operation_word op ∷ codes " m" ∷ decimal m ∷ codes "\n"
    ∷ [])

-- i begin tT OP cC mM: the thread began a call on the condition variable, with the mutex
abbrev pub begin_on_line : ℕ → ℕ → Operation → ℕ → ℕ → List ℕ
begin_on_line i t op k m = concat
    (decimal i ∷ codes " begin t" ∷ decimal t ∷ codes " " ∷ operation_word op ∷ codes " c" ∷ decimal k ∷ codes " m"
    ∷ decimal m ∷ codes "\n" ∷ [])

abbrev pub begin_line_of : ℕ → ℕ → Operation → Option ℕ → ℕ → List ℕ
begin_line_of i t op None m = begin_line i t op m
begin_line_of i t op (Some k) m = begin_on_line i t op k m

-- i point tT mM OP REPLY: the thread's operation on the mutex was decided
abbrev pub point_line : ℕ → Decision → List ℕ
point_line i d = concat
    (decimal i ∷ codes " point t" ∷ decimal d.thread ∷ codes " m" ∷ decimal d.mutex ∷ codes " "
    ∷ operation_word d.operation ∷ codes " " ∷ reply_word d.reply ∷ codes "\n" ∷ [])

-- i sleep tT mM: the thread fell asleep on the mutex
abbrev pub sleep_line : ℕ → ℕ → ℕ → List ℕ
sleep_line i t m = concat (decimal i ∷ codes " sleep t" ∷ decimal t ∷ codes " m" ∷ decimal m ∷ codes "\n" ∷ [])

-- i sleep tT cC: the thread fell asleep on the condition variable
abbrev pub sleep_on_line : ℕ → ℕ → ℕ → List ℕ
sleep_on_line i t k = concat (decimal i ∷ codes " sleep t" ∷ decimal t ∷ codes " c" ∷ decimal k ∷ codes "\n" ∷ [])

abbrev pub sleep_line_of : ℕ → ℕ → Queue → List ℕ
sleep_line_of i t (Mutex m) = sleep_line i t m
sleep_line_of i t (Condition k) = sleep_on_line i t k

-- i wake tT: the thread was woken
abbrev pub wake_line : ℕ → ℕ → List ℕ
wake_line i t = concat (decimal i ∷ codes " wake t" ∷ decimal t ∷ codes "\n" ∷ [])

-- i move tT mM: the thread was moved to the queue of the mutex
abbrev pub move_line : ℕ → ℕ → ℕ → List ℕ
move_line i t m = concat (decimal i ∷ codes " move t" ∷ decimal t ∷ codes " m" ∷ decimal m ∷ codes "\n" ∷ [])

-- i return tT REPLY: the thread's call returned
abbrev pub return_line : ℕ → ℕ → Reply → List ℕ
return_line i t r = concat (decimal i ∷ codes " return t" ∷ decimal t ∷ codes " " ∷ reply_word r ∷ codes "\n" ∷ [])

-- i kill tT: the thread died
abbrev pub kill_line : ℕ → ℕ → List ℕ
kill_line i t = concat (decimal i ∷ codes " kill t" ∷ decimal t ∷ codes "\n" ∷ [])

-- i death tT mM: the thread's death was recorded of the mutex
abbrev pub death_line : ℕ → ℕ → ℕ → List ℕ
death_line i t m = concat (decimal i ∷ codes " death t" ∷ decimal t ∷ codes " m" ∷ decimal m ∷ codes "\n" ∷ [])

-- i reaped tT: the walk of the thread's list has ended
abbrev pub reaped_line : ℕ → ℕ → List ℕ
reaped_line i t = concat (decimal i ∷ codes " reaped t" ∷ decimal t ∷ codes "\n" ∷ [])

-- i renew tT: the thread lives again
abbrev pub renew_line : ℕ → ℕ → List ℕ
renew_line i t = concat (decimal i ∷ codes " renew t" ∷ decimal t ∷ codes "\n" ∷ [])

-- end N: how many events there were
abbrev pub end_line : ℕ → List ℕ
end_line n = concat (codes "end " ∷ decimal n ∷ codes "\n" ∷ [])

-- ---- facts, events and traces

-- what event i's line tells of a fact
abbrev pub fact_text : ℕ → Fact → List ℕ
fact_text i (Begin t c) = begin_line_of i t c.operation c.condition c.mutex
fact_text i (Point d) = point_line i d
fact_text i (Sleep t q) = sleep_line_of i t q
fact_text i (Wake t) = wake_line i t
fact_text i (Move t m) = move_line i t m
fact_text i (Return t r) = return_line i t r
fact_text i (Kill t) = kill_line i t
fact_text i (Death t m) = death_line i t m
fact_text i (Reap t) = reaped_line i t
fact_text i (Renew t) = renew_line i t

abbrev pub line_text : Line → List ℕ
line_text l = fact_text l.event l.fact

-- one line after the other
abbrev pub lines_text : List Line → List ℕ
lines_text lines = concat (map line_text lines)

-- the lines that event i's facts make
abbrev pub facts_text : ℕ → List Fact → List ℕ
facts_text i facts = lines_text (map (line_of i) facts)

-- the lines of events of which the first has number i
abbrev pub notes_text : ℕ → List Note → List ℕ
notes_text i notes = lines_text (lines_from i notes)

-- the numbers of all things, then each event's lines, then the number of events
abbrev pub trace_text : Trace → List ℕ
trace_text t = head_line t.threads t.mutexes t.conditions
    ++ (concat (map line_text (lines_from 1 t.notes.items)) ++ end_line (length t.notes.items))
