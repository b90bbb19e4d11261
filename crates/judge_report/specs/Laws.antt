-- What holds of whatever the program says, in the words of who reads it.
use Rattle.std.specs.Prelude.{ℕ, ◌≡◌, ◌≢◌, ◌<◌, ◌≤◌, ◌+◌, ◌-◌, ◌^◌, ◌⊎◌, Bool, true, false, List, [], ◌∷◌, ◌++◌, length, reverse, take}
use Rattle.std.specs.Prelude.{◌==◌, not, codes, decimal, Option, Some, None, Result, Ok, Err, Vec}
use Rattle.std.specs.Char.{is_ascii_digit}
use Rattle.std.specs.List.{AllPairs, Contains, list_all, slice_get}
use Rattle.std.specs.declared.alloc.Global.{Global}
use Rattle.std.specs.declared.io.ErrorKind.{ErrorKind}
use Rattle.std.specs.Io.KnownBytes.{Appends}
use Rattle.streams.specs.Leaves.{AppendsFront}
use Rattle.streams.specs.Words.{is_file_word}
use Rattle.lines.specs.Lines.{lines_of}
use Rattle.lockword.specs.declared.reply.Reply.{Reply}
use Rattle.lockword.specs.Replies.{reply_word}
use Rattle.lockword.specs.Threads.{named_threads}
use Rattle.posixmutex.specs.declared.point.Operation.{Operation}
use Rattle.posixmutex.specs.Words.{operation_word}
use Rattle.facts.specs.declared.fact.Begun.{Begun}
use Rattle.facts.specs.declared.fact.Fact.{Fact}
use Rattle.verdict.specs.Earlier.{objects_after}
use Rattle.histories.specs.declared.entry.Entry.{Entry}
use Rattle.histories.specs.declared.entry.HistoryLine.{HistoryLine}
use Rattle.histories.specs.declared.fault.Fault.{Fault}
use Rattle.histories.specs.declared.fault.HistoryFault.{HistoryFault}
use Rattle.histories.specs.declared.head.Head.{Head}
use Rattle.histories.specs.declared.reading.Read.{Read}
use Rattle.histories.specs.declared.reading.Read.TheVariants.{Told}
use Rattle.histories.specs.Histories.{LegalHistory, is_hidden}
use Rattle.histories.specs.Reading.{IsHead, head_read, line_read}
use Rattle.histories.specs.Written.{IsEntryOf, IsEvent, IsFactOf}
use Rattle.certificates.specs.Certificates.{is_doomed, trace_of, whose}
use Rattle.certificates.specs.Laws.{IsStuck}
use Rattle.judge.specs.declared.evidence.EarlierReply.{EarlierReply}
use Rattle.judge.specs.declared.judging.Judgement.{Judgement}
use Rattle.judge.specs.declared.judging.Judgement.TheVariants.{Legal, Illegal}
use Rattle.judge.specs.declared.reason.OutOfTurn.{OutOfTurn as OutOfTurn'}
use Rattle.judge.specs.declared.reason.Reason.{Reason}
use Rattle.judge.specs.declared.reason.Reason.TheVariants.{OutOfTurn, NoOrder}
use Rattle.judge.specs.Reasons.{Newest, NotNewest, begins, dies, reaps, renews, reason_of, returns}
use Rattle.texts.specs.Text.{fact_text}
use Rattle.windows.specs.declared.cutting.Window.{Window}
use Rattle.windows.specs.Texts.{certificate_text, steps_count}
use Rattle.windows.specs.Windows.{IsWindow}
use Rattle.judge_report.specs.declared.keeping.Cut.{Cut}
use Rattle.judge_report.specs.declared.messages.Failure.{Failure}
use Rattle.judge_report.specs.declared.messages.Failure.TheVariants.{CannotKeep, CannotKeepWindow, CannotRemove, NoPlace, TooMany}
use Rattle.judge_report.specs.Asked.{Asked, Judging, Kept, Nothing, Nowhere, Overwrites, Whole, Windows, asked_of, is_window_at}
use Rattle.judge_report.specs.Heard.{Heard, history_read}
use Rattle.judge_report.specs.Kept.{IsFilled, IsKept, IsWritten, window_name}
use Rattle.judge_report.specs.Messages.{failure_text}
use Rattle.judge_report.specs.Paths.{is_from_root, name_one_file}
use Rattle.judge_report.specs.Programs.{RunEnds}
use Rattle.judge_report.specs.Said.{IsFirstIllegal, IsLegalBefore, IsSaid, told}
use Rattle.judge_report.specs.Served.{IsRead}
use Rattle.judge_report.specs.Traces.{IsExplained}
use Rattle.judge_report.specs.Texts.{death_note, evidence_notes, illegal_text, illegal_title, legal_text, quote, turn_words}

-- ---- verdicts and exit statuses

-- the text begins so, and this is after it
abbrev pub BeginsWith : List ℕ → List ℕ → Type 0
BeginsWith start text = (rest : List ℕ) × (text ≡ start ++ rest)

-- it begins so, with this number and a space
abbrev pub BeginsWithNumber : List ℕ → ℕ → List ℕ → Type 0
BeginsWithNumber start n text = (rest : List ℕ) × (text ≡ start ++ (decimal n ++ (codes " " ++ rest)))

-- the history is legal, and that is said
abbrev pub IsFoundLegal : Heard → List ℕ → Type 0
IsFoundLegal k text = LegalHistory k.head.mutexes (told k.seen) × BeginsWith (codes "legal ") text

-- it isn't, and its first illegal line is named
abbrev pub IsFoundIllegal : Heard → List ℕ → Type 0
IsFoundIllegal k text = (LegalHistory k.head.mutexes (told k.seen) → ⊥)
    × ((line : HistoryLine) × IsFirstIllegal k line × BeginsWithNumber (codes "illegal at line ") line.number text)

-- it is legal up to a line, which is named, and nothing is said of what follows
abbrev pub IsFoundUndecided : Heard → List ℕ → Type 0
IsFoundUndecided k text = (line : HistoryLine) × IsLegalBefore k line
    × BeginsWithNumber (codes "undecided at line ") line.number text

-- the command line asks for a judgement of a file's history, which was read; and of that this was written, whole
pub record IsFound (Opens : List ℕ → Result (Option (List ℕ)) ErrorKind → Type 0) (a : Asked) (old new : Option (List ℕ))
    (LetGo : Type 0) (Such : Heard → List ℕ → Type 0) : Type 0 where
  pub waiting : Bool
  pub kept : Kept
  pub file : List ℕ
  pub asks : a ≡ Judging waiting kept file
  pub had : Option (List ℕ)
  pub opens : Opens file (Ok had)
  pub heard : Heard
  pub read : IsRead had heard
  pub text : List ℕ
  pub such : Such heard text
  pub written : Appends old new text
  pub let_go : LetGo

-- it is legal, illegal or undecided, and that is said; its exit status is this
abbrev pub IsFoundSo : ℕ → Heard → List ℕ → Type 0
IsFoundSo status k text =
    ((status ≡ 0) × IsFoundLegal k text) ⊎ ((status ≡ 1) × (IsFoundIllegal k text ⊎ IsFoundUndecided k text))

-- a failure was reported, or a beginning of its message was
abbrev pub IsFailed : Option (List ℕ) → Option (List ℕ) → Type 0
IsFailed told told' = (file : List ℕ) × (f : Failure) × AppendsFront told told' (failure_text file f)

-- it is that the certificate couldn't be written or cut, or a window of another run not removed
abbrev pub is_about_keeping : Failure → Bool
is_about_keeping CannotKeep = true
is_about_keeping (CannotKeepWindow n) = true
is_about_keeping (CannotRemove n) = true
is_about_keeping TooMany = true
is_about_keeping NoPlace = true
is_about_keeping f = false

-- a failure was reported, or a beginning of its message was; if it is about the certificate, what the history was found to
-- be was written nevertheless
pub record Reports (Opens : List ℕ → Result (Option (List ℕ)) ErrorKind → Type 0) (a : Asked) (old new : Option (List ℕ))
    (LetGo : Type 0) (told told' : Option (List ℕ)) : Type 0 where
  pub file : List ℕ
  pub failure : Failure
  pub reported : AppendsFront told told' (failure_text file failure)
  pub verdict : is_about_keeping failure ≡ true → (exit : ℕ) × IsFound Opens a old new LetGo (IsFoundSo exit)

-- the words of the command line ask for no judgement
abbrev pub AsksForNothing : Asked → Type 0
AsksForNothing a = (a ≡ Nothing) ⊎ ((file : List ℕ) × (a ≡ Overwrites file))

-- what an exit status means: 0 that the history is legal, and that this was written; 1 that it isn't, or isn't decided,
-- and that this was, or a failure; 2 that the command line is none. There is no other
pub record StatusMeans (Opens : List ℕ → Result (Option (List ℕ)) ErrorKind → Type 0) (a : Asked)
    (old new : Option (List ℕ)) (LetGo : Type 0) (told told' : Option (List ℕ)) (status : ℕ) : Type 0 where
  pub zero : status ≡ 0 → IsFound Opens a old new LetGo IsFoundLegal
  pub one : status ≡ 1 → IsFound Opens a old new LetGo IsFoundIllegal
      ⊎ (IsFound Opens a old new LetGo IsFoundUndecided ⊎ Reports Opens a old new LetGo told told')
  pub two : status ≡ 2 → AsksForNothing a × IsFailed told told'
  pub none_else : status ≤ 2

-- nothing was written, and the usage is reported, with status 2; or memory for the words was refused, and that is
abbrev pub IsRefused : Option (List ℕ) → Option (List ℕ) → Option (List ℕ) → Option (List ℕ) → ℕ → Type 0
IsRefused old new told told' status = (new ≡ old)
    × (((status ≡ 2)
    × AppendsFront told told' (codes "usage: rfx-judge [--waiting] [--trace OUT | --windows OUT] FILE\n"))
    ⊎ ((status ≡ 1) × AppendsFront told told' (codes "rfx-judge: out of memory\n")))

-- so it does however a run ended; and a command line that asks for nothing is refused (`OptionsAreRead` says which do)
pub record StatusesAreRight (Opens : List ℕ → Result (Option (List ℕ)) ErrorKind → Type 0)
    (Makes Fills : List ℕ → Option (List ℕ) → Type 0) (LetGo Quiet : Type 0) : Type 0 where
  pub means : (a : Asked) (old new told told' : Option (List ℕ)) (status : ℕ)
      → RunEnds Opens Makes Fills a old new LetGo Quiet told told' status
      → StatusMeans Opens a old new LetGo told told' status
  pub usage : (old new told told' : Option (List ℕ)) (status : ℕ)
      → RunEnds Opens Makes Fills Nothing old new LetGo Quiet told told' status → IsRefused old new told told' status

-- ---- the number of a line

-- a fault is at a line of the bytes, counted from 1; what follows the last line feed is one, too
abbrev pub FaultsAreAtLines : Type 0
FaultsAreAtLines = (bytes : List ℕ) (f : HistoryFault) → history_read bytes ≡ Err f
    → (1 ≤ f.line) × (f.line ≤ length (lines_of bytes))

-- what these lines say that is seen, the first of which is line n; lines that are read otherwise are left out
abbrev pub seen_by : ℕ → Result Read Fault → List HistoryLine → List HistoryLine
seen_by n (Ok (Told i (Some e))) more = (record { number = n; event = i; entry = e }) ∷ more
seen_by n said more = more

abbrev pub seen_from : ℕ → Head → List (List ℕ) → List HistoryLine
seen_from n h [] = []
seen_from n h (text ∷ more) = seen_by n (line_read h text) (seen_from (n + 1) h more)

-- of a history that was read, line 1 of the bytes is the head, and each line that is kept is what its line of the bytes
-- says, counted from 1; none is left out; and no event is below one before it
pub record AreNumbered (bytes : List ℕ) (k : Heard) : Type 0 where
  pub first : List ℕ
  pub more : List (List ℕ)
  pub lines : lines_of bytes ≡ first ∷ more
  pub head : head_read first ≡ Ok k.head
  pub seen : reverse k.seen ≡ seen_from 2 k.head more
  pub rising : AllPairs (λ a b. b.event ≤ a.event) k.seen

abbrev pub LinesAreNumbered : Type 0
LinesAreNumbered = (bytes : List ℕ) (k : Heard) → history_read bytes ≡ Ok k → AreNumbered bytes k

-- ---- options

-- options that ask for this, in any order
abbrev pub AreOptions : Bool → Kept → List (List ℕ) → Type 0
AreOptions false Nowhere os = os ≡ []
AreOptions true Nowhere os = os ≡ codes "--waiting" ∷ []
AreOptions false (Whole out) os = os ≡ codes "--trace" ∷ out ∷ []
AreOptions true (Whole out) os = (os ≡ codes "--waiting" ∷ codes "--trace" ∷ out ∷ [])
    ⊎ (os ≡ codes "--trace" ∷ out ∷ codes "--waiting" ∷ [])
AreOptions false (Windows out) os = os ≡ codes "--windows" ∷ out ∷ []
AreOptions true (Windows out) os = (os ≡ codes "--waiting" ∷ codes "--windows" ∷ out ∷ [])
    ⊎ (os ≡ codes "--windows" ∷ out ∷ codes "--waiting" ∷ [])

abbrev pub IsPlace : Kept → Type 0
IsPlace Nowhere = Unit {0}
IsPlace (Whole out) = is_file_word out ≡ true
IsPlace (Windows out) = is_file_word out ≡ true

-- the words of a command line, whose first is any, are such options and the name of a file
pub record IsForm (waiting : Bool) (kept : Kept) (file : List ℕ) (words : List (List ℕ)) : Type 0 where
  pub program : List ℕ
  pub options : List (List ℕ)
  pub all : words ≡ program ∷ (options ++ file ∷ [])
  pub are : AreOptions waiting kept options
  pub place : IsPlace kept
  pub named : is_file_word file ≡ true

-- no slash is in this name
abbrev pub has_no_slash : List ℕ → Bool
has_no_slash name = list_all (λ b. not (b == 47)) name

-- this is a directory's own name, which isn't `.`
pub record IsDirectory (name : List ℕ) : Type 0 where
  pub slashless : has_no_slash name ≡ true
  pub some : name ≢ []
  pub other : name ≢ codes "."

-- the whole certificate is kept in this file, and the history is in that one
abbrev pub KeptApart : List ℕ → List ℕ → List ℕ → Type 0
KeptApart p out file = asked_of (p ∷ codes "--trace" ∷ out ∷ file ∷ []) ≡ Judging false (Whole out) file

-- the whole certificate of the history in this file would be written over it
abbrev pub Overwritten : List ℕ → List ℕ → List ℕ → Type 0
Overwritten p out file = asked_of (p ∷ codes "--trace" ∷ out ∷ file ∷ []) ≡ Overwrites file

-- what is asked for by the words of a command line, whose first is any; file and out are names of files
pub record OptionsAreRead : Type 0 where
  pub plain : (p file : List ℕ) → is_file_word file ≡ true → asked_of (p ∷ file ∷ []) ≡ Judging false Nowhere file
  pub waiting : (p file : List ℕ) → is_file_word file ≡ true
      → asked_of (p ∷ codes "--waiting" ∷ file ∷ []) ≡ Judging true Nowhere file
  pub trace : (p out file : List ℕ) → is_file_word out ≡ true → is_file_word file ≡ true
      → name_one_file out file ≡ false
      → (asked_of (p ∷ codes "--trace" ∷ out ∷ file ∷ []) ≡ Judging false (Whole out) file)
      × (asked_of (p ∷ codes "--waiting" ∷ codes "--trace" ∷ out ∷ file ∷ []) ≡ Judging true (Whole out) file)
      × (asked_of (p ∷ codes "--trace" ∷ out ∷ codes "--waiting" ∷ file ∷ []) ≡ Judging true (Whole out) file)
  pub windows : (p out file : List ℕ) → is_file_word out ≡ true → is_file_word file ≡ true
      → is_window_at out file ≡ false
      → (asked_of (p ∷ codes "--windows" ∷ out ∷ file ∷ []) ≡ Judging false (Windows out) file)
      × (asked_of (p ∷ codes "--waiting" ∷ codes "--windows" ∷ out ∷ file ∷ []) ≡ Judging true (Windows out) file)
      × (asked_of (p ∷ codes "--windows" ∷ out ∷ codes "--waiting" ∷ file ∷ []) ≡ Judging true (Windows out) file)
  -- and the history isn't written over, by a whole certificate or by a window
  pub over : (p file : List ℕ) → is_file_word file ≡ true
      → asked_of (p ∷ codes "--trace" ∷ file ∷ file ∷ []) ≡ Overwrites file
  pub over_here : (p file : List ℕ) → is_file_word file ≡ true → is_from_root file ≡ false
      → (asked_of (p ∷ codes "--trace" ∷ (codes "./" ++ file) ∷ file ∷ []) ≡ Overwrites file)
      × (asked_of (p ∷ codes "--trace" ∷ file ∷ (codes "./" ++ file) ∷ []) ≡ Overwrites (codes "./" ++ file))
  -- nor where a name has a slash twice, or `.` between two, wherever that is
  pub over_spelled : (p front back : List ℕ) → is_file_word (front ++ (codes "/" ++ back)) ≡ true
      → Overwritten p (front ++ (codes "//" ++ back)) (front ++ (codes "/" ++ back))
      × Overwritten p (front ++ (codes "/./" ++ back)) (front ++ (codes "/" ++ back))
  pub over_window : (p out : List ℕ) (n : ℕ) → is_file_word out ≡ true → is_file_word (window_name out n) ≡ true
      → 1 ≤ n → n < 2 ^ 64 → asked_of (p ∷ codes "--windows" ∷ out ∷ window_name out n ∷ []) ≡ Overwrites (window_name out n)
  -- a window's number begins with no zero
  pub no_window : (p out digits : List ℕ) → is_file_word out ≡ true → is_file_word (out ++ (codes ".0" ++ digits)) ≡ true
      → list_all is_ascii_digit digits ≡ true
      → asked_of (p ∷ codes "--windows" ∷ out ∷ (out ++ (codes ".0" ++ digits)) ∷ [])
      ≡ Judging false (Windows out) (out ++ (codes ".0" ++ digits))
  -- no history is written over whose file has another name, or is in another directory, or not from the root too
  pub apart_names : (p out file : List ℕ) → is_file_word out ≡ true → is_file_word file ≡ true → has_no_slash out ≡ true
      → has_no_slash file ≡ true → out ≢ file → KeptApart p out file
  pub apart_roots : (p out file : List ℕ) → is_file_word file ≡ true → is_from_root file ≡ false
      → KeptApart p (codes "/" ++ out) file × KeptApart p file (codes "/" ++ out)
  pub apart_directories : (p a b x y : List ℕ) → is_file_word (a ++ (codes "/" ++ x)) ≡ true
      → is_file_word (b ++ (codes "/" ++ y)) ≡ true → IsDirectory a → IsDirectory b → a ≢ b
      → KeptApart p (a ++ (codes "/" ++ x)) (b ++ (codes "/" ++ y))
  -- a command line of no such form asks for nothing, so that its usage is reported (`StatusesAreRight`)
  pub others : (words : List (List ℕ))
      → ((waiting : Bool) (kept : Kept) (file : List ℕ) → IsForm waiting kept file words → ⊥) → asked_of words ≡ Nothing

-- what is kept then: with `--trace` one file, which has the whole certificate, or the trace up to the illegal line; with
-- `--windows` a file for each window
pub record OptionsAreKept (Makes Fills : List ℕ → Option (List ℕ) → Type 0) (k : Heard) (cuts : List Cut) : Type 0 where
  pub nothing : (j : Judgement) → IsFilled Makes Fills Nowhere k j cuts → cuts ≡ []
  pub trace : (out : List ℕ) (steps : Vec Entry Global) → IsFilled Makes Fills (Whole out) k (Legal steps) cuts
      → IsWritten Makes Fills out (certificate_text k.head steps.items) × (cuts ≡ [])
  pub illegal : (out : List ℕ) (at : ℕ) (why : Reason) (possible : Vec Reply Global) (steps : Vec Entry Global)
      → IsFilled Makes Fills (Whole out) k (Illegal at why possible steps) cuts
      → IsWritten Makes Fills out (certificate_text k.head steps.items) × (cuts ≡ [])
  pub windows : (out : List ℕ) (steps : Vec Entry Global) (c : Cut)
      → IsFilled Makes Fills (Windows out) k (Legal steps) cuts → Contains cuts c
      → (w : Window) × IsWindow k.head steps.items w
      × IsWritten Makes Fills (out ++ (codes "." ++ decimal c.number)) w.text.items
      × (c.before ≡ steps_count (take w.from steps.items)) × (c.last ≡ steps_count (take w.to steps.items))

pub record OptionsWrite (Makes Fills : List ℕ → Option (List ℕ) → Type 0) : Type 0 where
  pub kept : (k : Heard) (cuts : List Cut) → OptionsAreKept Makes Fills k cuts

-- ---- windows

-- what is written of a window
abbrev pub window_line : Cut → List ℕ
window_line c = codes "window "
    ++ (decimal c.number ++ (codes ": events behind " ++ (decimal c.before ++ (codes ", up to "
    ++ (decimal c.last ++ (codes "; before them " ++ (decimal c.preamble ++ codes " of its own\n")))))))

-- a line for each, in their order
abbrev pub window_lines : List Cut → List ℕ
window_lines [] = []
window_lines (c ∷ cs) = window_line c ++ window_lines cs

-- they are numbered from this number on, the first has the events after this one, each next one those after the last of
-- the one before, and so they end there
abbrev pub AreJoined : ℕ → ℕ → List Cut → ℕ → Type 0
AreJoined n from [] to = from ≡ to
AreJoined n from (c ∷ cs) to = (c.number ≡ n) × (c.before ≡ from) × AreJoined (n + 1) c.last cs to

-- the windows of a certificate are reported in their order, from its first event to its last
pub record WindowsAreInOrder (Makes Fills : List ℕ → Option (List ℕ) → Type 0) : Type 0 where
  pub joined : (out : List ℕ) (h : Head) (steps : List Entry) (cuts : List Cut)
      → IsKept Makes Fills (Windows out) h steps cuts → AreJoined 1 0 cuts (steps_count steps)
  pub written : (waiting : Bool) (k : Heard) (steps : Vec Entry Global) (cuts : List Cut) (text : List ℕ)
      → IsSaid waiting k (Legal steps) cuts text
      → (points rest : List ℕ) × (text ≡ points ++ (window_lines cuts ++ rest))

-- ---- calls that still wait

-- what is said of the mutex that a call waits for
abbrev pub state_words : Bool → List ℕ
state_words true = codes ", which is unusable"
state_words false = codes ", which nobody "

-- with `--waiting`, each lock of a thread that is neither killed nor doomed is named, if it has had no point and nobody
-- owns its mutex, of which it is said whether it is unusable; without it none is
pub record WaitersAreNamed : Type 0 where
  pub each : (k : Heard) (steps : Vec Entry Global) (cuts : List Cut) (text : List ℕ) (t : ℕ) (call : Begun)
      → IsSaid true k (Legal steps) cuts text → 0 < t → t ≤ named_threads
      → IsStuck t (trace_of (reverse steps.items)) call → is_doomed t (reverse steps.items) ≡ false
      → (before after : List ℕ)
      × (text ≡ before ++ (codes "still waits: t" ++ (decimal t ++ (codes " for m" ++ (decimal call.mutex
      ++ (state_words (objects_after (trace_of (reverse steps.items)) call.mutex).unusable ++ after))))))
  pub unasked : (k : Heard) (steps : Vec Entry Global) (cuts : List Cut) (text : List ℕ)
      → IsSaid false k (Legal steps) cuts text
      → (points : ℕ) × (text ≡ legal_text points (reverse k.seen) ++ window_lines cuts)

-- ---- why a line is out of turn

-- of a line that is out of its thread's turn, the words say where the thread is, by its newest line
pub record AreTurnWords (es : List Entry) (e : Entry) (words : List ℕ) : Type 0 where
  pub dead : renews e ≡ false → Newest dies (whose e) es → words ≡ codes " is dead or doomed there\n"
  pub reaped : Newest reaps (whose e) es → words ≡ codes " is reaped there\n"
  pub in_call : begins e ≡ true → Newest begins (whose e) es → words ≡ codes " is in a call there\n"
  pub no_call : returns e ≡ true → NotNewest dies (whose e) es → NotNewest reaps (whose e) es
      → words ≡ codes " is in no call there\n"
  pub alive : reaps e ≡ true → NotNewest reaps (whose e) es → words ≡ codes " is alive there: nothing told of its death\n"
  pub not_reaped : renews e ≡ true → words ≡ codes " isn't reaped there\n"

abbrev pub TurnWordsAreSo : Type 0
TurnWordsAreSo = (es : List Entry) (e : Entry) (why : OutOfTurn') → reason_of es e ≡ Some (OutOfTurn why)
    → AreTurnWords es e (turn_words why)

-- ---- quotations

-- a line that is quoted is read back as the line that it quotes; and what a trace says that isn't seen is read as that
pub record QuotesAreReadBack : Type 0 where
  pub quote : (h : Head) (l : HistoryLine) → IsHead h → IsEvent l.event → IsEntryOf h l.entry
      → (text : List ℕ) × (quote l ≡ codes "  | " ++ (text ++ codes "\n"))
      × (line_read h text ≡ Ok (Told l.event (Some l.entry)))
  pub hidden : (h : Head) (i : ℕ) (f : Fact) → IsHead h → IsEvent i → is_hidden f ≡ true → IsFactOf h f
      → (text : List ℕ) × (fact_text i f ≡ text ++ codes "\n") × (line_read h text ≡ Ok (Told i None))

-- ---- what is said of an illegal return

-- what is said begins with the line's title and its quotation
abbrev pub opening : HistoryLine → Reason → List ℕ
opening l why = illegal_title l why ++ quote l

-- a note on this line, which is quoted after it
abbrev pub see_line : HistoryLine → List ℕ → List ℕ
see_line l words = codes "  = see line " ++ (decimal l.number ++ (codes " (event " ++ (decimal l.event ++ (words ++ quote l))))

-- a note on this reply, which that line tells
abbrev pub told_so : EarlierReply → ℕ → List ℕ
told_so r m = codes "): t" ++ (decimal r.thread ++ (codes " was told " ++ (reply_word r.reply ++ (codes " for its "
    ++ (operation_word r.operation ++ (codes " of m" ++ (decimal m ++ codes "\n")))))))

-- of an illegal return: its own thread is said to get what it could get; and the last note is on the line where its call
-- began, before which stand those on the mutex, in the order death, who got it, who declared it consistent, who left it
pub record NotesAreInOrder : Type 0 where
  pub thread : (ls : List HistoryLine) (l : HistoryLine) (why : Reason) (y : Reply) (ys : List Reply)
      → (rest : List ℕ) × (illegal_text ls l why (y ∷ ys)
      ≡ opening l why ++ (codes "  = t" ++ (decimal (whose l.entry) ++ (codes " could be told " ++ (reply_word y ++ rest)))))
  pub begin : (ls : List HistoryLine) (l b : HistoryLine) (op : Operation) (m n : ℕ) (x : Reply) (ys : List Reply)
      → slice_get ls (n - 1) ≡ Some b
      → (front : List ℕ) × (illegal_text ls l (NoOrder op m x n) ys ≡ front ++ see_line b (codes "): the call began\n"))
  pub replies : (ls : List HistoryLine) (g d a : EarlierReply) (gl dl al : HistoryLine) (m n : ℕ)
      → slice_get ls (g.place - 1) ≡ Some gl → slice_get ls (d.place - 1) ≡ Some dl → slice_get ls (a.place - 1) ≡ Some al
      → evidence_notes ls m (record { death = Some n; got = Some g; declared = Some d; left = Some a })
      ≡ death_note m (slice_get ls (n - 1)) ++ (see_line gl (told_so g m) ++ (see_line dl (told_so d m) ++ see_line al (told_so a m)))

-- ---- what is said of a history that is drawn

-- what a program that draws a history is given of it, besides the trace: nothing of a legal one; of an illegal one what is
-- printed, with its first illegal line and the same reason. Only the replies that its thread could get may be others
pub record ExplanationsAreSaid : Type 0 where
  pub legal : (k : Heard) (steps : List Entry) → IsExplained k steps None → LegalHistory k.head.mutexes (told k.seen)
  pub illegal : (k : Heard) (steps : List Entry) (said : List ℕ) → IsExplained k steps (Some said) → IsFoundIllegal k said
  pub same : (waiting : Bool) (k : Heard) (steps : List Entry) (said : List ℕ) (at : ℕ) (why : Reason)
      (possible : Vec Reply Global) (printed : Vec Entry Global) (cuts : List Cut) (text : List ℕ)
      → IsExplained k steps (Some said) → IsSaid waiting k (Illegal at why possible printed) cuts text
      → (ls : List HistoryLine) × (line : HistoryLine) × (ys : List Reply)
      × (text ≡ illegal_text ls line why possible.items) × (said ≡ illegal_text ls line why ys)
