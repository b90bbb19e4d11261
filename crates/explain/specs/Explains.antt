-- What is said of a file's bytes.
use Rattle.std.specs.Prelude.{ℕ, ◌≡◌, ◌⊎◌, ◌||◌, ◌==◌, Bool, true, false, List, [], ◌∷◌, map, take, drop}
use Rattle.std.specs.Prelude.{Option, Some, None, Ok, Err, codes, nat_eq, reverse, if◌then◌else◌}
use Rattle.std.specs.Char.{to_ascii_lowercase}
use Rattle.std.specs.List.{starts_with}
use Rattle.std.specs.Option.{is_none}
use Rattle.std.specs.Str.{bytes_eq}
use Rattle.lines.specs.Lines.{lines_of, words_of}
use Rattle.script.specs.declared.command.Mode.{Mode}
use Rattle.script.specs.declared.command.Mode.TheVariants.{Run, Threads}
use Rattle.script.specs.declared.fault.ScriptFault.{ScriptFault}
use Rattle.script.specs.declared.fault.Fault.TheVariants as fault
use Rattle.script.specs.Scope.{Scope}
use Rattle.script.specs.Reading.{script_read}
use Rattle.script.specs.Playing.{overlong}
use Rattle.verdict.specs.declared.checking.Finding.TheVariants as finding
use Rattle.verdict.specs.Reading.{Trace, trace_read}
use Rattle.verdict.specs.Verdicts as verdicts
use Rattle.grammar.specs.Nexts.{mode_of_word}
use Rattle.explain.specs.declared.explanation.Title.{Title}
use Rattle.explain.specs.declared.explanation.Title.TheVariants.{Good, Script, Legal, Illegal, Trace as TraceTitle}
use Rattle.explain.specs.declared.explanation.Explanation.{Explanation}
use Rattle.explain.specs.Advised.{IsAdvised}
use Rattle.explain.specs.Spoiling.{IsFirstSpoiling}
use Rattle.explain.specs.Stray.{byte_order_mark, lines_in, word_of}
use Rattle.explain.specs.Texts.{explanation_text}

-- the bytes after blanks and tabs, and those after a byte order mark, if they begin so
abbrev pub behind_blanks : List ℕ → List ℕ
behind_blanks [] = []
behind_blanks (b ∷ bs) = if (b == 32) || (b == 9) then behind_blanks bs else b ∷ bs

abbrev pub behind_mark : List ℕ → List ℕ
behind_mark bytes = if starts_with nat_eq bytes byte_order_mark then drop 3 bytes else bytes

-- it begins as a trace's first line does, or in capitals
abbrev pub begins_trace : List ℕ → Bool
begins_trace bytes = bytes_eq (map to_ascii_lowercase (take 6 bytes)) (codes "trace ")

-- a trace begins so, as it should or after what mustn't be there
abbrev pub is_trace : List ℕ → Bool
is_trace bytes = begins_trace (behind_blanks (behind_mark bytes))

-- as a script of this mode the bytes have this first fault, or none: the reader's; or the one that the machine meets in
-- running it, too many events
abbrev pub IsFaultOf : Mode → List ℕ → Option ScriptFault → Type 0
IsFaultOf Threads bytes None = (s : Scope) × (script_read Threads bytes ≡ Ok s)
IsFaultOf Run bytes None = (s : Scope) × (script_read Run bytes ≡ Ok s) × (overlong s ≡ None)
IsFaultOf Threads bytes (Some e) = script_read Threads bytes ≡ Err e
IsFaultOf Run bytes (Some e) = (script_read Run bytes ≡ Err e)
    ⊎ ((s : Scope) × (script_read Run bytes ≡ Ok s) × (overlong s ≡ Some e.line) × (e.fault ≡ fault.TooLong))

-- the mode that the first line points to which only scripts of one mode have, and the machine's where none does; what
-- comes after the last line feed is a line too, and none need be text
abbrev pub mode_or : Option Mode → Mode → Mode
mode_or (Some k) other = k
mode_or None other = other

abbrev pub mode_in : List (List ℕ) → Mode
mode_in [] = Run
mode_in (t ∷ ts) = mode_or (mode_of_word (word_of (words_of t) 0)) (mode_in ts)

-- of the faults that the machine and real threads find, that of this mode
abbrev pub fault_of : Mode → ScriptFault → ScriptFault → ScriptFault
fault_of Run a b = a
fault_of Threads a b = b

-- the file is refused as a script of either mode, and told is what the mode finds to which it points
pub record IsRefused (bytes : List ℕ) (k : Mode) (e : ScriptFault) : Type 0 where
  pub of_run : ScriptFault
  pub of_threads : ScriptFault
  pub run : IsFaultOf Run bytes (Some of_run)
  pub threads : IsFaultOf Threads bytes (Some of_threads)
  pub mode : k ≡ mode_in (lines_of bytes)
  pub fault : e ≡ fault_of k of_run of_threads

-- one mode at least takes it
pub record IsGood (bytes : List ℕ) (run threads : Bool) : Type 0 where
  pub of_run : Option ScriptFault
  pub of_threads : Option ScriptFault
  pub run_finds : IsFaultOf Run bytes of_run
  pub threads_find : IsFaultOf Threads bytes of_threads
  pub runs : run ≡ is_none of_run
  pub plays : threads ≡ is_none of_threads
  pub some : (run || threads) ≡ true

-- of the trace that the bytes are, the first line that tells of a wait which makes its mutex unusable
abbrev pub IsSpoilingLine : List ℕ → Option ℕ → Type 0
IsSpoilingLine bytes line = (t : Trace) × (trace_read bytes ≡ Ok t) × IsFirstSpoiling (reverse t.told) line

-- what the title says is so: of a script what each mode finds; of a trace what its judge finds
abbrev pub IsTitle : List ℕ → Title → Type 0
IsTitle bytes (Good run threads) = IsGood bytes run threads
IsTitle bytes (Script k e) = IsRefused bytes k e
IsTitle bytes (Legal points spoiling) =
    verdicts.Tells (trace_read bytes) (Ok (finding.Legal points)) × IsSpoilingLine bytes spoiling
IsTitle bytes (Illegal why) = verdicts.Tells (trace_read bytes) (Ok (finding.Illegal why))
IsTitle bytes (TraceTitle e) = trace_read bytes ≡ Err e

abbrev pub IsOfKind : Bool → Title → Type 0
IsOfKind true (Good run threads) = ⊥
IsOfKind true (Script k e) = ⊥
IsOfKind true t = Unit {0}
IsOfKind false (Legal points spoiling) = ⊥
IsOfKind false (Illegal why) = ⊥
IsOfKind false (TraceTitle e) = ⊥
IsOfKind false t = Unit {0}

-- the bytes are said to be a trace where they begin as one
pub record Explains (bytes : List ℕ) (x : Explanation) : Type 0 where
  pub kind : IsOfKind (is_trace bytes) x.title
  pub title : IsTitle bytes x.title
  pub advised : IsAdvised bytes x.title x.advice

-- the exit status: 0 for what is good or legal
abbrev pub status_of : Title → ℕ
status_of (Good run threads) = 0
status_of (Legal points spoiling) = 0
status_of (Script k e) = 1
status_of (Illegal why) = 1
status_of (TraceTitle e) = 1

-- the text of an explanation of the bytes, and its exit status
abbrev pub IsTold : List ℕ → List ℕ → List ℕ → ℕ → Type 0
IsTold file bytes text status = (x : Explanation)
    × (Explains bytes x × ((text ≡ explanation_text file (lines_in bytes) x) × (status ≡ status_of x.title)))
