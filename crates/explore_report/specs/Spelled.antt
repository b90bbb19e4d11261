-- The lines of a script that is explored.
--
-- *Spelled.* Declarations, calls, comments and empty lines are as in every script. Each other line is spelled as one of a
-- script for `rfx run` that names the same things and has the same faults: what depends on a reply as the call, or as a
-- `go` of the thread that stops; the end of a phase as a comment; and what may not be there as a line that says nothing
-- known.
use Rattle.std.specs.Prelude.{ℕ, Bool, ◌||◌, List, [], ◌∷◌, ◌++◌, codes, Option, Some, None, option_map, if◌then◌else◌}
use Rattle.std.specs.List.{concat}
use Rattle.std.specs.Str.{bytes_eq}
use Rattle.lines.specs.Lines.{words_of}
use Rattle.lockword.specs.Replies.{reply_of}
use Rattle.lockword.specs.declared.reply.Reply.{Reply}
use Rattle.script.specs.Forms.{is_silent}
use Rattle.explore_report.specs.declared.spelling.Kind.{Kind}
use Rattle.explore_report.specs.declared.spelling.Kind.TheVariants.{Plain, After, StopAfter, Phase}
use Rattle.explore_report.specs.declared.spelling.Line.{Line}
use Rattle.explore_report.specs.declared.spelling.Line.TheVariants as line

-- what a line says: it is as in every script; a call of a thread after a reply, with the call's word and what it is on; the
-- end of a thread after a reply; the end of a phase; or nothing known
pub data Said : Type 0 where
  Same : Said
  Calls : Reply → List ℕ → List ℕ → List ℕ → Said
  Stops : Reply → List ℕ → Said
  Ends : Said
  Wrong : Said

abbrev pub or_wrong : Option Said → Said
or_wrong None = Wrong
or_wrong (Some said) = said

-- a line begins with a word that every script may have
abbrev pub is_known : List ℕ → Bool
is_known word = bytes_eq word (codes "thread") || (bytes_eq word (codes "mutex") || (bytes_eq word (codes "cond")
    || (bytes_eq word (codes "call") || (bytes_eq word (codes "mutexes") || bytes_eq word (codes "process")))))

abbrev pub said_known : List ℕ → Said
said_known word = if is_known word then Same else Wrong

-- `on REPLY call THREAD CALL`
abbrev pub said_six : List ℕ → List ℕ → List ℕ → List ℕ → List ℕ → List ℕ → Said
said_six first reply third thread call object =
    if bytes_eq first (codes "on")
    then (if bytes_eq third (codes "call")
    then or_wrong (option_map (λ x. Calls x thread call object) (reply_of reply))
    else Wrong)
    else said_known first

-- `on REPLY stop THREAD`
abbrev pub said_four : List ℕ → List ℕ → List ℕ → List ℕ → Said
said_four first reply third thread =
    if bytes_eq first (codes "on")
    then (if bytes_eq third (codes "stop") then or_wrong (option_map (λ x. Stops x thread) (reply_of reply)) else Wrong)
    else said_known first

-- `phase`
abbrev pub said_one : List ℕ → Said
said_one word = if bytes_eq word (codes "phase") then Ends else said_known word

-- by the line's words
abbrev pub said_words : List (List ℕ) → Said
said_words [] = Wrong
said_words (a ∷ []) = said_one a
said_words (a ∷ b ∷ []) = said_known a
said_words (a ∷ b ∷ c ∷ []) = said_known a
said_words (a ∷ b ∷ c ∷ d ∷ []) = said_four a b c d
said_words (a ∷ b ∷ c ∷ d ∷ e ∷ []) = said_known a
said_words (a ∷ b ∷ c ∷ d ∷ e ∷ f ∷ []) = said_six a b c d e f
said_words (a ∷ b ∷ c ∷ d ∷ e ∷ f ∷ g ∷ words) = Wrong

abbrev pub said_of : List ℕ → Said
said_of text = if is_silent text then Same else said_words (words_of text)

-- ---- how it is spelled

abbrev pub kind_of : Said → Kind
kind_of Same = Plain
kind_of (Calls x thread call object) = After x
kind_of (Stops x thread) = StopAfter x
kind_of Ends = Phase
kind_of Wrong = Plain

abbrev pub spelled : List ℕ → Said → List ℕ
spelled text Same = text
spelled text (Calls x thread call object) =
    concat (codes "call " ∷ thread ∷ codes " " ∷ call ∷ codes " " ∷ object ∷ [])
spelled text (Stops x thread) = concat (codes "go " ∷ thread ∷ [])
spelled text Ends = codes "#"
spelled text Wrong = codes "?"

-- all lines, each with its line feed; what comes after the last line feed stays as it is
abbrev pub spelled_text : List (List ℕ) → List ℕ
spelled_text [] = []
spelled_text (rest ∷ []) = rest
spelled_text (text ∷ next ∷ lines) = (spelled text (said_of text) ++ 10 ∷ []) ++ spelled_text (next ∷ lines)

abbrev pub kinds_of : List (List ℕ) → List Kind
kinds_of [] = []
kinds_of (rest ∷ []) = []
kinds_of (text ∷ next ∷ lines) = kind_of (said_of text) ∷ kinds_of (next ∷ lines)

-- ---- as the code has it

abbrev pub said_by : Line → Said
said_by line.Same = Same
said_by (line.Calls x thread call object) = Calls x thread.now call.now object.now
said_by (line.Stops x thread) = Stops x thread.now
said_by line.Ends = Ends
said_by line.Wrong = Wrong
