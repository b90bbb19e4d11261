-- What is said of the line that a title names: which of its words is marked, what is said of it, and which earlier
-- line it goes back to.
use Rattle.std.specs.Prelude.{ℕ, ◌≡◌, ◌⊎◌, ◌+◌, ◌-◌, ◌==◌, ◌++◌, ◌||◌, nat_eq, nat_le, nat_lt, Bool, true, not}
use Rattle.std.specs.Prelude.{◌&&◌, List, [], ◌∷◌, length, take, reverse, Option, Some, None}
use Rattle.std.specs.Prelude.{option_map, Ok, codes, if◌then◌else◌, MatchBool, MatchOption}
use Rattle.std.specs.List.{list_any, starts_with}
use Rattle.std.specs.Option.{is_none, is_some}
use Rattle.std.specs.Str.{bytes_eq}
use Rattle.std.specs.Str.Lossy.{utf8_valid_len}
use Rattle.std.specs.Str.Parse.{digits_value}
use Rattle.lines.specs.Lines.{lines_of, words_of}
use Rattle.lines.specs.Numbers.{is_number, within}
use Rattle.script.specs.declared.command.Mode.{Mode}
use Rattle.script.specs.declared.fault.Fault.TheVariants as of_script
use Rattle.script.specs.declared.fault.Fault.{Fault as ScriptReason}
use Rattle.script.specs.Limits as script
use Rattle.verdict.specs.declared.fault.Fault.TheVariants as of_trace
use Rattle.verdict.specs.declared.fault.Fault.{Fault as TraceReason}
use Rattle.std.specs.Prelude.{false, slice_get}
use Rattle.posixmutex.specs.declared.point.Decision.{Decision}
use Rattle.posixmutex.specs.declared.point.Operation.{Operation}
use Rattle.posixmutex.specs.declared.point.Operation.TheVariants.{Unlock, Wait, TimedWait}
use Rattle.facts.specs.declared.fact.Fact.{Fact}
use Rattle.facts.specs.declared.fact.Fact.TheVariants.{Begin}
use Rattle.facts.specs.declared.fact.Line.{Line}
use Rattle.verdict.specs.declared.misfit.Misfit.{Misfit}
use Rattle.verdict.specs.declared.misfit.Misfit.TheVariants.{NotAllowed, Undecided}
use Rattle.verdict.specs.declared.misfit.TraceMisfit.{TraceMisfit}
use Rattle.verdict.specs.Limits as trace
use Rattle.verdict.specs.Reading.{Trace, trace_read}
use Rattle.grammar.specs.declared.wrong.Kind.{Kind}
use Rattle.grammar.specs.declared.wrong.Kind.TheVariants as kind
use Rattle.grammar.specs.Near.{IsNearest}
use Rattle.grammar.specs.Wrongs.{IsFirstWrong, is_line}
use Rattle.explain.specs.declared.explanation.Advice.{Advice}
use Rattle.explain.specs.declared.explanation.Mark.{Mark}
use Rattle.explain.specs.declared.explanation.Note.{Note}
use Rattle.explain.specs.declared.explanation.Looks.{Looks}
use Rattle.explain.specs.declared.explanation.Looks.TheVariants.{Utf16, Binary, Latin1}
use Rattle.explain.specs.declared.explanation.Note.TheVariants.{NoLineFeed, BadByte, LooksSo, BehindCommand}
use Rattle.explain.specs.declared.explanation.Note.TheVariants.{Range, TooMany, PastLast}
use Rattle.explain.specs.declared.explanation.Note.TheVariants.{NothingDeclared, Undeclared, OtherThing}
use Rattle.explain.specs.declared.explanation.Note.TheVariants.{DeclaredTwice, DiesTwice, Allowed, SpoilingWait}
use Rattle.explain.specs.declared.explanation.Note.TheVariants.{Bytes, Lines, Events, Uncounted, NoEnd, BehindEnd}
use Rattle.explain.specs.declared.explanation.Standing.{Standing}
use Rattle.explain.specs.declared.explanation.Title.{Title}
use Rattle.explain.specs.declared.explanation.Title.TheVariants.{Good, Script, Legal, Illegal, Trace as TraceTitle}
use Rattle.explain.specs.declared.explanation.Things.{Things}
use Rattle.explain.specs.declared.explanation.Things.TheVariants.{Processes, Threads, Mutexes, Conditions}
use Rattle.explain.specs.Allowed.{standing_of}
use Rattle.explain.specs.Origins.{origin_of, step_at}
use Rattle.explain.specs.Roles.{lack_note, uses_of}
use Rattle.explain.specs.Sought.{count_of, declares, declares_any, first_line, is_clashing, is_command, is_of}
use Rattle.explain.specs.Sought.{things_of}
use Rattle.explain.specs.Spoiling.{death_before}
use Rattle.explain.specs.Stray.{IsExpected, is_last, line_of, lines_in, stray_note, word_of}

-- ---- what may be said

abbrev pub nothing : Advice
nothing = record { mark = None; note = None; also = None; origin = None }

-- something is said, and nothing marked
abbrev pub saying : Note → Advice
saying n = record { mark = None; note = Some n; also = None; origin = None }

-- word i is marked, which is of the right kind, and something said of it
abbrev pub marking : ℕ → Note → Advice
marking i n = record {
  mark = Some (record { word = i; expected = None; near = None });
  note = Some n;
  also = None;
  origin = None;
}

-- and something is said as well
abbrev pub besides : Note → Advice → Advice
besides n a = record { mark = a.mark; note = a.note; also = Some n; origin = a.origin }

-- and it goes back to an earlier line, if there is one
abbrev pub back_to : Option ℕ → Advice → Advice
back_to o a = record { mark = a.mark; note = a.note; also = a.also; origin = o }

-- word i of line n
abbrev pub word_at : List ℕ → ℕ → ℕ → List ℕ
word_at text n i = word_of (words_of (line_of text n)) i

-- the number of the first line before line n that passes the test
abbrev pub first_earlier : List ℕ → ℕ → (List ℕ → Bool) → Option ℕ
first_earlier text n p = first_line p 1 (take (n - 1) (lines_of text))

-- ---- unknown words

abbrev pub note_or : Option Note → Option Note → Option Note
note_or (Some n) o = Some n
note_or None o = o

-- the first word of the line at which no line of the kind can go on is marked, with what it has to be, the known word
-- that it is nearest to, and what is said beside such a word, or what is missing; and what would be said of a right
-- line is said too
pub record MarksFirstWrong (k : Kind) (line : List ℕ) (here a : Advice) : Type 0 where
  pub mark : Mark
  pub marked : a.mark ≡ Some mark
  pub first : IsFirstWrong k (words_of line) mark.word
  pub expected : IsExpected k (words_of line) mark.word mark.expected (option_map (λ w. w.now) mark.near)
  pub note : a.note ≡ note_or (stray_note k line mark.word) (lack_note k (words_of line) mark.word)
  pub also : a.also ≡ here.note
  pub origin : a.origin ≡ here.origin

-- line n isn't one of the kind, or not here: no line feed ends it; or its first wrong word is marked; or it is one,
-- and then this is said
abbrev pub IsStray : Kind → List ℕ → ℕ → Advice → Advice → Type 0
IsStray k text n here a = MatchBool (is_last (lines_of text) n)
    (a ≡ saying NoLineFeed)
    (MarksFirstWrong k (line_of text n) here a ⊎ ((is_line k (words_of (line_of text n)) ≡ true) × (a ≡ here)))

-- ---- numbers

-- the word writes a number from low to high
abbrev pub is_within : List ℕ → ℕ → ℕ → Bool
is_within w low high = is_number w && not (is_none (within low high (digits_value 10 w)))

-- word i isn't such a number, and this is said; else what follows
abbrev pub ranged : List (List ℕ) → ℕ → ℕ → ℕ → Advice → Advice
ranged ws i low high a = if is_within (word_of ws i) low high then a else marking i (Range low high)

-- the number of a script's line with this first word: which word it is, and from where to where it goes
abbrev pub range_of : List ℕ → Option (ℕ × ℕ × ℕ)
range_of w = if bytes_eq w (codes "process") then Some (2, 0, script.max_base)
    else (if bytes_eq w (codes "mutexes") then Some (2, 1, script.max_mutexes)
    else (if bytes_eq w (codes "cond") then Some (3, 0, script.max_counter)
    else (if bytes_eq w (codes "step") then Some (2, 1, script.max_steps)
    else (if bytes_eq w (codes "die") then Some (2, 1, script.max_access)
    else (if bytes_eq w (codes "locks") then Some (3, 1, script.max_mutexes) else None)))))

abbrev pub ranged_by : Option (ℕ × ℕ × ℕ) → List (List ℕ) → Advice → Advice
ranged_by None ws a = a
ranged_by (Some r) ws a = ranged ws r.0 r.1 r.2 a

-- how many things of a kind a script may have
abbrev pub limit_of : Things → ℕ
limit_of Processes = script.max_processes
limit_of Threads = script.max_threads
limit_of Mutexes = script.max_mutexes
limit_of Conditions = script.max_conditions

-- of a line whose numbers are in their ranges: it declares one thing too many, or locks mutexes that aren't there
abbrev pub counted : Option Things → Advice
counted None = marking 3 PastLast
counted (Some things) = marking 0 (TooMany things (limit_of things))

-- a thread, where none is declared; else a mutex
abbrev pub lacking : Option ℕ → Things
lacking None = Threads
lacking (Some n) = Mutexes

-- line n of a script has a number that is out of its range; or it is the end of one that declares too little
abbrev pub script_range : List ℕ → ℕ → Advice
script_range text n = if length (line_of text n) == 0
    then saying
    (NothingDeclared (lacking (first_earlier text n (λ t. is_of Threads (things_of (word_of (words_of t) 0))))))
    else ranged_by (range_of (word_at text n 0)) (words_of (line_of text n)) (counted (things_of (word_at text n 0)))

-- a number of a trace's first line
abbrev pub head_range : List (List ℕ) → Advice
head_range ws = ranged ws 1 1 trace.max_threads
    (ranged ws 2 1 trace.max_mutexes (ranged ws 3 0 trace.max_conditions nothing))

-- what comes after a letter
abbrev pub behind : ℕ → List ℕ → Option (List ℕ)
behind letter [] = None
behind letter (b ∷ bs) = if b == letter then Some bs else None

-- the number that a word of the first line writes
abbrev pub counted_in : List ℕ → ℕ → ℕ
counted_in head i = count_of (word_of (words_of head) i)

-- of that many things from `first` on, the digits write the number of none
abbrev pub is_uncounted : ℕ → ℕ → List ℕ → Bool
is_uncounted first count digits = is_number digits
    && not (nat_le first (digits_value 10 digits) && nat_lt (digits_value 10 digits) (first + count))

abbrev pub missing_of : Things → ℕ → ℕ → Option (List ℕ) → Option Note
missing_of things first count None = None
missing_of things first count (Some digits) =
    if is_uncounted first count digits then Some (Uncounted things count) else None

-- what the first line counts of that which this word is, where it doesn't count the word's
abbrev pub uncounted : List ℕ → List ℕ → Option Note
uncounted head w = note_or (missing_of Threads 1 (counted_in head 1) (behind 116 w))
    (note_or (missing_of Mutexes 0 (counted_in head 2) (behind 109 w))
    (missing_of Conditions 0 (counted_in head 3) (behind 99 w)))

abbrev pub noted : ℕ → Option Note → Advice → Advice
noted i None a = a
noted i (Some n) a = marking i n

abbrev pub uncounted_at : List ℕ → List (List ℕ) → ℕ → Advice → Advice
uncounted_at head ws i a = noted i (uncounted head (word_of ws i)) a

-- a number of another line: of its last one, of its event, or of a thread, a mutex or a condition variable
abbrev pub line_range : List ℕ → List (List ℕ) → Advice
line_range head ws = if bytes_eq (word_of ws 0) (codes "end") then marking 1 (Range 0 trace.max_events)
    else ranged ws 0 1 trace.max_events
    (uncounted_at head ws 2 (uncounted_at head ws 3 (uncounted_at head ws 4 (uncounted_at head ws 5 nothing))))

abbrev pub trace_range : List ℕ → ℕ → Advice
trace_range text n = if n == 1 then head_range (words_of (line_of text n))
    else line_range (line_of text 1) (words_of (line_of text n))

-- ---- names

-- the name of such a thing that a line declares, where it declares that name alone
abbrev pub single_name : Things → List ℕ → Option (List ℕ)
single_name things line =
    if is_of things (things_of (word_of (words_of line) 0))
    && not (bytes_eq (word_of (words_of line) 0) (codes "mutexes"))
    then Some (word_of (words_of line) 1) else None

abbrev pub listed : Option (List ℕ) → List (List ℕ)
listed None = []
listed (Some w) = w ∷ []

-- the names of such things that lines declare one by one
abbrev pub names_in : Things → List (List ℕ) → List (List ℕ)
names_in things [] = []
names_in things (t ∷ ts) = listed (single_name things t) ++ names_in things ts

-- word i of line n names such a thing, and no line before declares the name
abbrev pub is_undeclared : List ℕ → ℕ → Things → ℕ → Bool
is_undeclared text n things i = not (length (word_at text n i) == 0)
    && is_none (first_earlier text n (λ t. declares (words_of t) things (word_at text n i)))

-- the first of these words whose name no line before declares
abbrev pub first_undeclared : List ℕ → ℕ → List (Things × ℕ) → Option (Things × ℕ)
first_undeclared text n [] = None
first_undeclared text n (u ∷ us) = if is_undeclared text n u.0 u.1 then Some u else first_undeclared text n us

-- of the lines before line n, the first that declares the name, as whatever
abbrev pub first_named : List ℕ → ℕ → List ℕ → Option ℕ
first_named text n name = first_earlier text n (λ t. declares_any (words_of t) name)

-- what that line declares
abbrev pub things_at : List ℕ → Option ℕ → Option Things
things_at text None = None
things_at text (Some n) = things_of (word_at text n 0)

-- what is said of a name that no line declares as such a thing: which other thing has it, if one does
abbrev pub missing_note : Things → Option Things → Note
missing_note things None = Undeclared things
missing_note things (Some other) = OtherThing other things

-- that word is marked, with the name declared so far that it is nearest to. Where another thing has its name, it goes
-- back to the line that declares that
pub record IsUndeclared (text : List ℕ) (n : ℕ) (things : Things) (i : ℕ) (a : Advice) : Type 0 where
  pub mark : Mark
  pub marked : a.mark ≡ Some mark
  pub word : mark.word ≡ i
  pub expected : mark.expected ≡ None
  pub near : IsNearest (word_at text n i) (names_in things (take (n - 1) (lines_of text)))
      (option_map (λ w. w.now) mark.near)
  pub note : a.note ≡ Some (missing_note things (things_at text (first_named text n (word_at text n i))))
  pub also : a.also ≡ None
  pub origin : a.origin ≡ first_named text n (word_at text n i)

-- of the lines before line n, which has these words, the first that has its thread die
abbrev pub first_death : List ℕ → ℕ → List (List ℕ) → Option ℕ
first_death text n ws = first_earlier text n
    (λ t. bytes_eq (word_of (words_of t) 0) (codes "die") && bytes_eq (word_of (words_of t) 1) (word_of ws 1))

-- and the first that declares a name which it declares too
abbrev pub first_declared : List ℕ → ℕ → List (List ℕ) → Things → Option ℕ
first_declared text n ws things = if bytes_eq (word_of ws 0) (codes "mutexes")
    then first_earlier text n (λ t. is_clashing (words_of t) (word_of ws 1) (count_of (word_of ws 2)))
    else first_earlier text n (λ t. declares (words_of t) things (word_of ws 1))

abbrev pub twice_of : List ℕ → ℕ → List (List ℕ) → Option Things → Advice
twice_of text n ws None = back_to (first_death text n ws) (marking 1 DiesTwice)
twice_of text n ws (Some things) = back_to (first_declared text n ws things) (marking 1 (DeclaredTwice things))

abbrev pub twice : List ℕ → ℕ → Advice
twice text n = twice_of text n (words_of (line_of text n)) (things_of (word_at text n 0))

-- line n names what isn't declared, or declares what is
abbrev pub IsNameAdvice : List ℕ → ℕ → Advice → Type 0
IsNameAdvice text n a = MatchOption (first_undeclared text n (uses_of (word_at text n 0) (word_at text n 2)))
    (a ≡ twice text n)
    (λ u. IsUndeclared text n u.0 u.1 a)

-- ---- scripts

-- bytes, lines or events
abbrev pub script_length : List ℕ → ℕ → Advice
script_length text n = if nat_lt script.max_bytes (length text) then saying (Bytes script.max_bytes)
    else (if nat_lt script.max_lines n then saying (Lines script.max_lines) else marking 0 (Events script.max_events))

-- of the lines before line n, the first command, if that is a declaration
abbrev pub command_before : List ℕ → ℕ → Option ℕ
command_before text n = if is_some (things_of (word_at text n 0)) then first_earlier text n is_command else None

abbrev pub late : Option ℕ → Advice
late None = nothing
late (Some m) = back_to (Some m) (marking 0 BehindCommand)

-- a declaration after a command goes back to the first one
abbrev pub behind_command : List ℕ → ℕ → Advice
behind_command text n = late (command_before text n)

-- ---- what is no text

-- what bytes look like that aren't UTF-8: they begin with a byte order mark of UTF-16; or a byte is 0, which no text
-- has; or neither
abbrev pub looks_of : List ℕ → Looks
looks_of bytes = if starts_with nat_eq bytes (255 ∷ 254 ∷ []) || starts_with nat_eq bytes (254 ∷ 255 ∷ []) then Utf16
    else (if list_any (λ b. b == 0) bytes then Binary else Latin1)

-- the first byte that is no part of a character is said
abbrev pub no_text : List ℕ → Advice
no_text bytes = besides (LooksSo (looks_of bytes)) (saying (BadByte (utf8_valid_len bytes + 1)))

-- ---- faults of scripts

-- what is said of line n of a script for this mode, for this fault; the text is that of the bytes
abbrev pub IsScriptAdvice : Mode → List ℕ → List ℕ → ℕ → ScriptReason → Advice → Type 0
IsScriptAdvice k bytes text n of_script.NotUtf8 a = a ≡ no_text bytes
IsScriptAdvice k bytes text n of_script.UnknownWord a = IsStray (kind.Script k) text n (behind_command text n) a
IsScriptAdvice k bytes text n of_script.OutOfRange a = a ≡ script_range text n
IsScriptAdvice k bytes text n of_script.NoSuchName a = IsNameAdvice text n a
IsScriptAdvice k bytes text n of_script.TooLong a = a ≡ script_length text n
IsScriptAdvice k bytes text n of_script.OutOfMemory a = a ≡ nothing

-- ---- traces

abbrev pub kind_of : ℕ → Kind
kind_of n = if n == 1 then kind.Head else kind.Trace

-- no `end` line, or something after it
abbrev pub cut_short : List ℕ → ℕ → Advice
cut_short text n = if (length (line_of text n) == 0) && is_last (lines_of text) n then saying NoEnd
    else saying BehindEnd

-- what is said of line n of a trace, for this fault; the text is that of the bytes
abbrev pub IsTraceAdvice : List ℕ → List ℕ → ℕ → TraceReason → Advice → Type 0
IsTraceAdvice bytes text n of_trace.NotUtf8 a = a ≡ no_text bytes
IsTraceAdvice bytes text n of_trace.UnknownWord a = IsStray (kind_of n) text n nothing a
IsTraceAdvice bytes text n of_trace.OutOfRange a = a ≡ trace_range text n
IsTraceAdvice bytes text n of_trace.TooLong a = a ≡ saying (Bytes trace.max_bytes)
IsTraceAdvice bytes text n of_trace.Cut a = a ≡ cut_short text n
IsTraceAdvice bytes text n of_trace.OutOfMemory a = a ≡ nothing

-- the operation of a call that a line begins
abbrev pub operation_begun : Fact → Option Operation
operation_begun (Begin t c) = Some c.operation
operation_begun f = None

abbrev pub begun_operation : Option Line → Option Operation
begun_operation None = None
begun_operation (Some l) = operation_begun l.fact

-- that of the line with this number, if there is one
abbrev pub operation_at : List Line → Option ℕ → Option Operation
operation_at es None = None
operation_at es (Some n) = begun_operation (slice_get es (n - 2))

-- the operation of the call that the thread of line n began last before it: what an undecided call goes back to
abbrev pub call_at : List Line → ℕ → Option Operation
call_at es n = operation_at es (origin_of es (record { line = n; misfit = Undecided }))

-- what the thread asks of the mutex at a point: a wait unlocks it, and is refused as a wait where its thread doesn't own it
abbrev pub asked_at : Bool → Operation → Option Operation → Operation
asked_at false Unlock (Some Wait) = Wait
asked_at false Unlock (Some TimedWait) = Wait
asked_at owns op call = op

abbrev pub replies_note : Standing → Operation → Option Operation → Note
replies_note s op call = Allowed s (asked_at s.owns op call)

-- if a mutex doesn't allow a reply in such a call, the replies that it allows are named
abbrev pub allowed_note : Misfit → Option Decision → Option Operation → Option Note
allowed_note (NotAllowed o x) (Some d) call = Some (replies_note (standing_of o d.thread) d.operation call)
allowed_note m d call = None

abbrev pub misfit_advice : List Line → TraceMisfit → Advice
misfit_advice es why = record {
  mark = None;
  note = allowed_note why.misfit (step_at es why.line) (call_at es why.line);
  also = None;
  origin = origin_of es why;
}

-- a line that doesn't fit goes back to the earlier line that its reason speaks of
abbrev pub IsMisfitAdvice : List ℕ → TraceMisfit → Advice → Type 0
IsMisfitAdvice bytes why a = (t : Trace) × (trace_read bytes ≡ Ok t) × (a ≡ misfit_advice (reverse t.told) why)

-- of a legal trace's line that tells of a wait which makes its mutex unusable, what a run does, and the death that left
-- the mutex inconsistent
abbrev pub IsSpoilingAdvice : List ℕ → Option ℕ → Advice → Type 0
IsSpoilingAdvice bytes None a = a ≡ nothing
IsSpoilingAdvice bytes (Some line) a = (t : Trace) × (trace_read bytes ≡ Ok t)
    × (a ≡ back_to (death_before (reverse t.told) line) (saying SpoilingWait))

-- ---- all of them

-- what is said of these bytes in addition to this title
abbrev pub IsAdvised : List ℕ → Title → Advice → Type 0
IsAdvised bytes (Good run threads) a = a ≡ nothing
IsAdvised bytes (Script k e) a = IsScriptAdvice k bytes (lines_in bytes) e.line e.fault a
IsAdvised bytes (Legal points spoiling) a = IsSpoilingAdvice bytes spoiling a
IsAdvised bytes (Illegal why) a = IsMisfitAdvice bytes why a
IsAdvised bytes (TraceTitle e) a = IsTraceAdvice bytes (lines_in bytes) e.line e.fault a
