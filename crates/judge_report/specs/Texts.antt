-- The texts of histories' lines, and of what is said of a history.
use Rattle.std.specs.Prelude.{ℕ, ◌-◌, Bool, true, false, Option, Some, None, List, [], ◌∷◌, ◌++◌, map, codes, decimal}
use Rattle.std.specs.Prelude.{reverse, if◌then◌else◌}
use Rattle.std.specs.List.{concat, list_any, slice_get}
use Rattle.lockword.specs.declared.reply.Reply.{Reply}
use Rattle.lockword.specs.Replies.{reply_word}
use Rattle.posixmutex.specs.Words.{operation_word}
use Rattle.facts.specs.Facts.{thread_of}
use Rattle.texts.specs.Text.{fact_text}
use Rattle.histories.specs.declared.entry.Entry.{Entry}
use Rattle.histories.specs.declared.entry.Entry.TheVariants.{Told, Doom}
use Rattle.histories.specs.declared.entry.HistoryLine.{HistoryLine}
use Rattle.certificates.specs.declared.waiting.Waiter.{Waiter}
use Rattle.certificates.specs.Certificates.{entries}
use Rattle.judge.specs.declared.evidence.EarlierReply.{EarlierReply}
use Rattle.judge.specs.declared.evidence.Evidence.{Evidence}
use Rattle.judge.specs.declared.reason.OutOfTurn.{OutOfTurn}
use Rattle.judge.specs.declared.reason.OutOfTurn.TheVariants.{InCall, NoCall, Dead, Reaped, Alive, NotReaped}
use Rattle.judge.specs.declared.reason.Reason.{Reason}
use Rattle.judge.specs.declared.reason.Reason.TheVariants as reason
use Rattle.judge.specs.Evidence.{evidence_of}
use Rattle.judge.specs.Reasons.{begins}
use Rattle.judge_report.specs.declared.keeping.Cut.{Cut}

-- ---- lines of a history

-- i doom tT: from here on the thread tells nothing
abbrev pub doom_line : ℕ → ℕ → List ℕ
doom_line i t = concat (decimal i ∷ codes " doom t" ∷ decimal t ∷ codes "\n" ∷ [])

abbrev pub entry_text : ℕ → Entry → List ℕ
entry_text i (Told f) = fact_text i f
entry_text i (Doom t) = doom_line i t

abbrev pub entry_thread : Entry → ℕ
entry_thread (Told f) = thread_of f
entry_thread (Doom t) = t

-- a line, quoted
abbrev pub quote : HistoryLine → List ℕ
quote l = concat (codes "  | " ∷ []) ++ entry_text l.event l.entry

-- ---- what is said of a history

abbrev pub is_begin : HistoryLine → Bool
is_begin l = begins l.entry

-- how many points a history has that is legal, and that one without calls is legal for that reason
abbrev pub legal_text : ℕ → List HistoryLine → List ℕ
legal_text points ls = if list_any is_begin ls
    then concat (codes "legal " ∷ decimal points ∷ codes " points\n" ∷ [])
    else concat (codes "legal " ∷ decimal points ∷ codes " points: the history is empty, it has no calls\n" ∷ [])

-- which of the certificate's events a window has, and how many of its own stand before them
abbrev pub cut_text : Cut → List ℕ
cut_text c = concat
    (codes "window " ∷ decimal c.number ∷ codes ": events behind " ∷ decimal c.before ∷ codes ", up to "
    ∷ decimal c.last ∷ codes "; before them " ∷ decimal c.preamble ∷ codes " of its own\n" ∷ [])

abbrev pub cuts_text : List Cut → List ℕ
cuts_text cs = concat (map cut_text cs)

-- the history's line at this place, counted from 1, if there is one
abbrev pub line_of : List HistoryLine → Option ℕ → Option HistoryLine
line_of ls None = None
line_of ls (Some n) = slice_get ls (n - 1)

-- what the mutex is that a call still waits for, since that line; an unusable one was left
abbrev pub since_words : Bool → Option HistoryLine → List ℕ
since_words true None = concat (codes ", which is unusable\n" ∷ [])
since_words false None = concat (codes ", which nobody has owned\n" ∷ [])
since_words true (Some l) = concat
    (codes ", which is unusable since line " ∷ decimal l.number ∷ codes " (event " ∷ decimal l.event ∷ codes ")\n" ∷ [])
since_words false (Some l) = concat
    (codes ", which nobody owns since line " ∷ decimal l.number ∷ codes " (event " ∷ decimal l.event ∷ codes ")\n" ∷ [])

abbrev pub quote_of : Option HistoryLine → List ℕ
quote_of None = []
quote_of (Some l) = quote l

abbrev pub since_note : Option HistoryLine → List ℕ
since_note None = []
since_note (Some l) = concat
    (codes "  = see line " ∷ decimal l.number ∷ codes " (event " ∷ decimal l.event ∷ codes "):\n" ∷ []) ++ quote l

abbrev pub waiter_title : Waiter → List ℕ
waiter_title w = concat (codes "still waits: t" ∷ decimal w.thread ∷ codes " for m" ∷ decimal w.mutex ∷ [])

-- a call that still waits and shouldn't, the line where it began, and the last before its mutex was left
abbrev pub waiter_lines : Waiter → Option HistoryLine → Option HistoryLine → List ℕ
waiter_lines w begin since =
    waiter_title w ++ (since_words w.unusable since ++ (quote_of begin ++ since_note since))

abbrev pub waiter_text : List HistoryLine → Waiter → List ℕ
waiter_text ls w = waiter_lines w (slice_get ls (w.begin - 1)) (line_of ls w.since)

abbrev pub waiters_text : List HistoryLine → List Waiter → List ℕ
waiters_text ls ws = concat (map (waiter_text ls) ws)

-- why a thread's line may not be there
abbrev pub turn_words : OutOfTurn → List ℕ
turn_words InCall = codes " is in a call there\n"
turn_words NoCall = codes " is in no call there\n"
turn_words Dead = codes " is dead or doomed there\n"
turn_words Reaped = codes " is reaped there\n"
turn_words Alive = codes " is alive there: nothing told of its death\n"
turn_words NotReaped = codes " isn't reaped there\n"

-- where the call began; the history's lines are counted from 1
abbrev pub begin_note : Option HistoryLine → List ℕ
begin_note None = []
begin_note (Some l) = concat
    (codes "  = see line " ∷ decimal l.number ∷ codes " (event " ∷ decimal l.event ∷ codes "): the call began\n" ∷ [])
    ++ quote l

-- where a thread died that may have owned the mutex
abbrev pub death_title : ℕ → HistoryLine → List ℕ
death_title m l = concat
    (codes "  = see line " ∷ decimal l.number ∷ codes " (event " ∷ decimal l.event ∷ codes "): t" ∷ decimal (entry_thread l.entry)
    ∷ codes " may have owned m" ∷ decimal m ∷ codes " when it died\n" ∷ [])

abbrev pub death_note : ℕ → Option HistoryLine → List ℕ
death_note m None = []
death_note m (Some l) = death_title m l ++ quote l

-- what another call's reply did to the mutex
abbrev pub reply_title : ℕ → EarlierReply → HistoryLine → List ℕ
reply_title m r l = concat
    (codes "  = see line " ∷ decimal l.number ∷ codes " (event " ∷ decimal l.event ∷ codes "): t" ∷ decimal r.thread
    ∷ codes " was told " ∷ reply_word r.reply ∷ codes " for its " ∷ operation_word r.operation ∷ codes " of m" ∷ decimal m
    ∷ codes "\n" ∷ [])

abbrev pub reply_note : ℕ → EarlierReply → Option HistoryLine → List ℕ
reply_note m r None = []
reply_note m r (Some l) = reply_title m r l ++ quote l

abbrev pub earlier_note : List HistoryLine → ℕ → Option EarlierReply → List ℕ
earlier_note ls m None = []
earlier_note ls m (Some r) = reply_note m r (slice_get ls (r.place - 1))

-- how the mutex stood: who died that may have owned it, who got it last, and who declared it consistent and who left it
-- since
abbrev pub evidence_notes : List HistoryLine → ℕ → Evidence → List ℕ
evidence_notes ls m e = death_note m (line_of ls e.death)
    ++ (earlier_note ls m e.got ++ (earlier_note ls m e.declared ++ earlier_note ls m e.left))

-- what is said of an illegal line, and after its quotation
abbrev pub illegal_title : HistoryLine → Reason → List ℕ
illegal_title l (reason.OutOfTurn why) = concat
    (codes "illegal at line " ∷ decimal l.number ∷ codes " (event " ∷ decimal l.event ∷ codes "): t"
    ∷ decimal (entry_thread l.entry) ∷ turn_words why ∷ [])
illegal_title l (reason.NoOrder op m x begin) = concat
    (codes "illegal at line " ∷ decimal l.number ∷ codes " (event " ∷ decimal l.event
    ∷ codes "): no order of the calls gives t" ∷ decimal (entry_thread l.entry) ∷ codes " " ∷ reply_word x ∷ codes " for its " ∷ operation_word op ∷ codes " of m"
    ∷ decimal m ∷ codes "\n" ∷ [])

-- the lines after which the line stands say how its mutex stood, and where its call began
abbrev pub why_note : List HistoryLine → Reason → List ℕ
why_note ls (reason.OutOfTurn why) = []
why_note ls (reason.NoOrder op m x begin) =
    evidence_notes ls m (evidence_of m (reverse (entries ls))) ++ begin_note (slice_get ls (begin - 1))

-- what the thread could get there, if anything was found: one reply, or another
abbrev pub or_text : Reply → List ℕ
or_text x = concat (codes " or " ∷ reply_word x ∷ [])

abbrev pub ors_text : List Reply → List ℕ
ors_text xs = concat (map or_text xs)

abbrev pub first_text : ℕ → Reply → List ℕ
first_text t x = concat (codes "  = t" ∷ decimal t ∷ codes " could be told " ∷ reply_word x ∷ [])

abbrev pub here_text : List ℕ
here_text = concat (codes " here\n" ∷ [])

abbrev pub possible_note : ℕ → List Reply → List ℕ
possible_note t [] = []
possible_note t (x ∷ xs) = first_text t x ++ (ors_text xs ++ here_text)

abbrev pub illegal_notes : List HistoryLine → HistoryLine → Reason → List Reply → List ℕ
illegal_notes ls l why possible = possible_note (entry_thread l.entry) possible ++ why_note ls why

abbrev pub illegal_text : List HistoryLine → HistoryLine → Reason → List Reply → List ℕ
illegal_text ls l why possible = illegal_title l why ++ (quote l ++ illegal_notes ls l why possible)

abbrev pub undecided_text : HistoryLine → List ℕ
undecided_text l = concat
    (codes "undecided at line " ∷ decimal l.number ∷ codes " (event " ∷ decimal l.event ∷ codes ")\n" ∷ []) ++ quote l
