-- What is said of words at which no line of a kind can go on.
use Rattle.std.specs.Prelude.{ℕ, ◌≡◌, ◌-◌, Bool, true, false, not, ◌||◌, ◌&&◌, ◌==◌, nat_eq, nat_le}
use Rattle.std.specs.Prelude.{List, [], ◌∷◌, length, codes}
use Rattle.std.specs.Prelude.{take, slice_get, Option, Some, None, option_map, unwrap_or, if◌then◌else◌}
use Rattle.std.specs.Option.{is_some}
use Rattle.std.specs.List.{list_any, starts_with}
use Rattle.std.specs.Str.{bytes_eq, is_utf8}
use Rattle.lines.specs.Lines.{lines_of, words_of}
use Rattle.script.specs.declared.command.Mode.TheVariants.{Run, Threads}
use Rattle.script.specs.declared.command.Mode.{Mode}
use Rattle.grammar.specs.declared.wrong.Kind.{Kind}
use Rattle.grammar.specs.declared.wrong.Kind.TheVariants.{Script, Head, Trace}
use Rattle.grammar.specs.declared.next.Next.{Next}
use Rattle.grammar.specs.Nexts.{is_scripted, mode_of_word}
use Rattle.grammar.specs.Known.{known_words}
use Rattle.grammar.specs.Near.{IsNearest}
use Rattle.grammar.specs.Wrongs.{Awaits, IsFirstWrong, ends_at, is_line}
use Rattle.explain.specs.declared.explanation.Mark.{Mark}
use Rattle.explain.specs.declared.explanation.Note.{Note}
use Rattle.explain.specs.declared.explanation.Note.TheVariants.{CarriageReturn, LeadingBlank, TwoBlanks}
use Rattle.explain.specs.declared.explanation.Note.TheVariants.{TrailingBlank, Tab, Remark, EmptyLine, NoRemarks}
use Rattle.explain.specs.declared.explanation.Note.TheVariants.{OtherMode, OfTrace, OfHistory, OfScript, ByteOrderMark}
use Rattle.explain.specs.declared.explanation.Note.TheVariants.{Capitals, Slashes, CallWord}

-- ---- what is said

-- a word without a letter is all of its line, or comes before the first blank, after the last one, or between two
abbrev pub blank_note : List ℕ → ℕ → Note
blank_note text i = if length text == 0 then EmptyLine
    else (if i == 0 then LeadingBlank
    else (if ends_at i (words_of text) == length text then TrailingBlank else TwoBlanks))

abbrev pub is_return : Option ℕ → Bool
is_return None = false
is_return (Some b) = b == 13

-- the last byte is a carriage return
abbrev pub ends_in_return : List ℕ → Bool
ends_in_return text = is_return (slice_get text (length text - 1))

abbrev pub has_tab : List ℕ → Bool
has_tab w = list_any (λ b. b == 9) w

abbrev pub has_capital : List ℕ → Bool
has_capital w = list_any (λ b. nat_le 65 b && nat_le b 90) w

-- U+FEFF, in UTF-8
abbrev pub byte_order_mark : List ℕ
byte_order_mark = 239 ∷ 187 ∷ 191 ∷ []

abbrev pub is_remark : List ℕ → Bool
is_remark [] = false
is_remark (b ∷ bs) = b == 35

-- scripts have remarks, and traces don't
abbrev pub remark_note : Kind → Note
remark_note (Script k) = Remark
remark_note Head = NoRemarks
remark_note Trace = NoRemarks

-- as remarks begin elsewhere
abbrev pub is_slashes : List ℕ → Bool
is_slashes w = starts_with nat_eq w (codes "//")

abbrev pub slashes_note : Kind → Note
slashes_note (Script k) = Slashes
slashes_note Head = NoRemarks
slashes_note Trace = NoRemarks

abbrev pub mode_note : Option Mode → Option Note → Option Note
mode_note (Some k) n = Some (OtherMode k)
mode_note None n = n

-- the line is one of the other mode, or of a trace, or begins as a history or with a call; or it is one of scripts
abbrev pub kind_note : Kind → List (List ℕ) → List ℕ → Option Note
kind_note (Script k) ws w = mode_note (mode_of_word w)
    (if is_line Trace ws || is_line Head ws then Some OfTrace
    else (if bytes_eq w (codes "history") then Some OfHistory else (if is_scripted w then Some CallWord else None)))
kind_note Head ws w = if is_line (Script Run) ws || is_line (Script Threads) ws then Some OfScript else None
kind_note Trace ws w = if is_line (Script Run) ws || is_line (Script Threads) ws then Some OfScript else None

abbrev pub capitals_note : List ℕ → Option Note → Option Note
capitals_note w (Some n) = Some n
capitals_note w None = if has_capital w then Some Capitals else None

-- the first word of a line
abbrev pub first_note : Kind → List (List ℕ) → List ℕ → Option Note
first_note k ws w = if starts_with nat_eq w byte_order_mark then Some ByteOrderMark
    else (if is_slashes w then Some (slashes_note k) else capitals_note w (kind_note k ws w))

-- another word: the line may be one of the machine's scripts, with a call that others don't make
abbrev pub later_note : Kind → List (List ℕ) → Option Note
later_note (Script k) ws = if is_line (Script Run) ws then Some (OtherMode Run) else None
later_note Head ws = None
later_note Trace ws = None

abbrev pub word_note : Kind → List ℕ → ℕ → List ℕ → Option Note
word_note k text i w = if ends_in_return text then Some CarriageReturn
    else (if has_tab w then Some Tab
    else (if is_remark w then Some (remark_note k)
    else (if i == 0 then first_note k (words_of text) w else later_note k (words_of text))))

abbrev pub note_of : Kind → List ℕ → ℕ → Option (List ℕ) → Option Note
note_of k text i None = None
note_of k text i (Some []) = Some (blank_note text i)
note_of k text i (Some (b ∷ bs)) = word_note k text i (b ∷ bs)

-- beside word i of the line, at which no line of the kind can go on
abbrev pub stray_note : Kind → List ℕ → ℕ → Option Note
stray_note k text i = note_of k text i (slice_get (words_of text) i)

-- ---- what is marked

-- word i, which is empty where the line has fewer
abbrev pub word_of : List (List ℕ) → ℕ → List ℕ
word_of ws i = unwrap_or (slice_get ws i) []

-- the word has to be one of those that n takes; of the words known there v is the one that it is nearest to
abbrev pub IsExpected : Kind → List (List ℕ) → ℕ → Option Next → Option (List ℕ) → Type 0
IsExpected k ws i None v = ⊥
IsExpected k ws i (Some n) v = Awaits k (take i ws) n × IsNearest (word_of ws i) (known_words n) v

-- the line is one of the kind; or this is its first word at which none can go on
abbrev pub IsMarked : Kind → List (List ℕ) → Option Mark → Type 0
IsMarked k ws None = is_line k ws ≡ true
IsMarked k ws (Some m) = IsFirstWrong k ws m.word × IsExpected k ws m.word m.expected (option_map (λ w. w.now) m.near)

-- no line comes after line n
abbrev pub is_last : List (List ℕ) → ℕ → Bool
is_last ls n = not (is_some (slice_get ls n))

-- line n, from 1, which is empty where there is none
abbrev pub line_of : List ℕ → ℕ → List ℕ
line_of text n = unwrap_or (slice_get (lines_of text) (n - 1)) []

-- the text that the bytes are, and none where they are no text
abbrev pub lines_in : List ℕ → List ℕ
lines_in bytes = if is_utf8 bytes then bytes else []
