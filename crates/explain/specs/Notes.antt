-- What is said of a line beside its fault.
use Rattle.std.specs.Prelude.{ℕ, List, [], ◌∷◌, ◌++◌, Option, Some, None, codes, decimal}
use Rattle.std.specs.List.{concat}
use Rattle.explain.specs.declared.explanation.Things.{Things}
use Rattle.explain.specs.declared.explanation.Note.{Note}
use Rattle.explain.specs.declared.explanation.Note.TheVariants.{NoLineFeed, CarriageReturn, LeadingBlank, TwoBlanks}
use Rattle.explain.specs.declared.explanation.Note.TheVariants.{TrailingBlank, Tab, Remark, EmptyLine, NoRemarks}
use Rattle.explain.specs.declared.explanation.Note.TheVariants.{OtherMode, OfTrace, OfHistory, OfScript}
use Rattle.explain.specs.declared.explanation.Note.TheVariants.{BehindCommand, Range, TooMany, PastLast}
use Rattle.explain.specs.declared.explanation.Note.TheVariants.{NothingDeclared, Undeclared, OtherThing}
use Rattle.explain.specs.declared.explanation.Note.TheVariants.{DeclaredTwice, DiesTwice, Allowed, SpoilingWait}
use Rattle.explain.specs.declared.explanation.Note.TheVariants.{ByteOrderMark, Capitals, Slashes, CallWord}
use Rattle.explain.specs.declared.explanation.Note.TheVariants.{Missing, BadByte, LooksSo}
use Rattle.explain.specs.declared.explanation.Note.TheVariants.{Bytes, Lines, Events, Uncounted, NoEnd, BehindEnd}
use Rattle.explain.specs.Allowed.{allowed_text}
use Rattle.explain.specs.Words.{lack_words, looks_words, many_words, mode_words, things_words}

abbrev pub with_things : List ℕ → Things → List ℕ → List ℕ
with_things before things behind =
    concat (codes "  = " ∷ before ∷ []) ++ (concat (things_words things ∷ []) ++ concat (behind ∷ codes "\n" ∷ []))

abbrev pub other_text : Things → Things → List ℕ
other_text has things = concat
    (codes "  = a " ∷ things_words has ∷ codes " has this name, not a " ∷ things_words things ∷ codes "\n" ∷ [])

abbrev pub many_text : List ℕ → ℕ → List ℕ → List ℕ
many_text before limit behind = concat (codes "  = " ∷ before ∷ decimal limit ∷ behind ∷ codes "\n" ∷ [])

abbrev pub bad_text : ℕ → List ℕ
bad_text n = concat (codes "  = byte " ∷ decimal n ∷ codes " of the file is no part of a character\n" ∷ [])

abbrev pub range_text : ℕ → ℕ → List ℕ
range_text low high =
    concat (codes "  = the number is from " ∷ decimal low ∷ codes " to " ∷ decimal high ∷ codes "\n" ∷ [])

unfoldable pub counted_text : List ℕ → ℕ → Things → List ℕ
counted_text before count things = concat (codes "  = " ∷ before ∷ [])
    ++ concat (decimal count ∷ many_words count things ∷ codes "\n" ∷ [])

abbrev pub said_text : Note → List ℕ
said_text NoLineFeed = codes "the last line has no line feed at its end"
said_text CarriageReturn = codes "the line ends with CR LF: a line ends with a line feed alone"
said_text LeadingBlank = codes "a blank stands before the first word"
said_text TwoBlanks = codes "two blanks stand here: words have one between them"
said_text TrailingBlank = codes "a blank stands behind the last word"
said_text Tab = codes "a tab stands here: words have one blank between them"
said_text ByteOrderMark = codes "a byte order mark stands before the first word"
said_text Capitals = codes "words are written in small letters"
said_text Remark = codes "a remark is a line of its own"
said_text Slashes = codes "a remark begins with `#`"
said_text EmptyLine = codes "a trace has no empty lines"
said_text NoRemarks = codes "a trace has no remarks"
said_text CallWord = codes "a call is written with its thread: `call T CALL`, such as `call a lock m`"
said_text OfTrace = codes "this is a line of a trace, which begins with `trace T M C`"
said_text OfHistory = codes "this is the first line of a history: `rfx-judge` judges it, and `rfx-draw` draws it"
said_text OfScript = codes "this is a line of a script, which doesn't begin with `trace `"
said_text BehindCommand = codes "declarations stand before the first command"
said_text PastLast = codes "there aren't so many mutexes from this one on"
said_text DiesTwice = codes "a thread dies once at most"
said_text SpoilingWait = codes "a run's wait replies X_STATE while its mutex is inconsistent"
said_text NoEnd = codes "the last line of a trace is `end N`"
said_text BehindEnd = codes "nothing stands behind the `end` line"
said_text (OtherMode k) = []
said_text (Missing l) = []
said_text (Range low high) = []
said_text (TooMany things limit) = []
said_text (NothingDeclared things) = []
said_text (Undeclared things) = []
said_text (OtherThing has things) = []
said_text (DeclaredTwice things) = []
said_text (BadByte n) = []
said_text (LooksSo l) = []
said_text (Bytes limit) = []
said_text (Lines limit) = []
said_text (Events limit) = []
said_text (Uncounted things count) = []
said_text (Allowed s op) = []

abbrev pub said : Note → List ℕ
said n = concat (codes "  = " ∷ said_text n ∷ codes "\n" ∷ [])

abbrev pub one_note : Note → List ℕ
one_note (OtherMode k) = concat (codes "  = a script for " ∷ mode_words k ∷ codes " has such lines\n" ∷ [])
one_note (Missing l) = concat (codes "  = what is missing: " ∷ lack_words l ∷ codes "\n" ∷ [])
one_note (Range low high) = range_text low high
one_note (TooMany things limit) = counted_text (codes "a script has at most ") limit things
one_note (NothingDeclared things) = with_things (codes "the script declares no ") things []
one_note (Undeclared things) = with_things (codes "no line before declares a ") things (codes " of this name")
one_note (OtherThing has things) = other_text has things
one_note (DeclaredTwice things) = with_things (codes "a line before declares a ") things (codes " of this name")
one_note (BadByte n) = bad_text n
one_note (LooksSo l) = concat (codes "  = " ∷ looks_words l ∷ codes "\n" ∷ [])
one_note (Bytes limit) = many_text (codes "a file of this kind has at most ") limit (codes " bytes")
one_note (Lines limit) = many_text (codes "a script has at most ") limit (codes " lines")
one_note (Events limit) = many_text (codes "with this line it runs more than ") limit (codes " events")
one_note (Uncounted things count) = counted_text (codes "the first line counts ") count things
one_note (Allowed s op) = allowed_text s op
one_note NoLineFeed = said NoLineFeed
one_note CarriageReturn = said CarriageReturn
one_note LeadingBlank = said LeadingBlank
one_note TwoBlanks = said TwoBlanks
one_note TrailingBlank = said TrailingBlank
one_note Tab = said Tab
one_note ByteOrderMark = said ByteOrderMark
one_note Capitals = said Capitals
one_note Remark = said Remark
one_note Slashes = said Slashes
one_note EmptyLine = said EmptyLine
one_note NoRemarks = said NoRemarks
one_note CallWord = said CallWord
one_note OfTrace = said OfTrace
one_note OfHistory = said OfHistory
one_note OfScript = said OfScript
one_note BehindCommand = said BehindCommand
one_note PastLast = said PastLast
one_note DiesTwice = said DiesTwice
one_note SpoilingWait = said SpoilingWait
one_note NoEnd = said NoEnd
one_note BehindEnd = said BehindEnd

abbrev pub note_text : Option Note → List ℕ
note_text None = []
note_text (Some n) = one_note n
