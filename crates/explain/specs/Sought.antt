-- Earlier lines of a script that a line goes back to.
use Rattle.std.specs.Prelude.{ℕ, ◌+◌, Bool, true, false, not, ◌&&◌, List, [], ◌∷◌}
use Rattle.std.specs.Prelude.{Option, Some, None, unwrap_or, codes, if◌then◌else◌}
use Rattle.std.specs.Option.{is_some}
use Rattle.std.specs.Str.{bytes_eq}
use Rattle.std.specs.Str.Parse.{digits_value}
use Rattle.lines.specs.Numbers.{is_number, within}
use Rattle.script.specs.Limits.{max_mutexes}
use Rattle.lines.specs.Lines.{words_of}
use Rattle.script.specs.Forms.{is_silent}
use Rattle.script.specs.Reading.{is_numbered}
use Rattle.explain.specs.declared.explanation.Things.{Things}
use Rattle.explain.specs.declared.explanation.Things.TheVariants.{Processes, Threads, Mutexes, Conditions}
use Rattle.explain.specs.declared.sought.Sought.{Sought}
use Rattle.explain.specs.declared.sought.Sought.TheVariants.{Declaration, Name, Numbered, Any, Command, Death}
use Rattle.explain.specs.Stray.{word_of}

-- what a line with this first word declares
abbrev pub things_of : List ℕ → Option Things
things_of w = if bytes_eq w (codes "process") then Some Processes
    else (if bytes_eq w (codes "thread") then Some Threads
    else (if bytes_eq w (codes "mutex") then Some Mutexes
    else (if bytes_eq w (codes "mutexes") then Some Mutexes
    else (if bytes_eq w (codes "cond") then Some Conditions else None))))

abbrev pub are_same : Things → Things → Bool
are_same Processes Processes = true
are_same Threads Threads = true
are_same Mutexes Mutexes = true
are_same Conditions Conditions = true
are_same a b = false

abbrev pub is_of : Things → Option Things → Bool
is_of things None = false
is_of things (Some other) = are_same other things

-- how many names a `mutexes` line with this word declares
abbrev pub count_of : List ℕ → ℕ
count_of w = if is_number w then unwrap_or (within 0 max_mutexes (digits_value 10 w)) 0 else 0

-- a declaration of these words gives the name: it is the second word, or of `mutexes` that word with a number below the
-- count after it
abbrev pub gives : List (List ℕ) → List ℕ → Bool
gives ws name = if bytes_eq (word_of ws 0) (codes "mutexes")
    then is_numbered (word_of ws 1) (count_of (word_of ws 2)) name
    else bytes_eq (word_of ws 1) name

-- a line of these words declares the name as such a thing
abbrev pub declares : List (List ℕ) → Things → List ℕ → Bool
declares ws things name = is_of things (things_of (word_of ws 0)) && gives ws name

-- as whatever
abbrev pub declares_any : List (List ℕ) → List ℕ → Bool
declares_any ws name = is_some (things_of (word_of ws 0)) && gives ws name

-- a name that it declares is the stem with a number below n after it, as a single name has it, or one of the same stem
abbrev pub is_clashing : List (List ℕ) → List ℕ → ℕ → Bool
is_clashing ws stem n = if bytes_eq (word_of ws 0) (codes "mutex") then is_numbered stem n (word_of ws 1)
    else (if bytes_eq (word_of ws 0) (codes "mutexes") then bytes_eq (word_of ws 1) stem else false)

-- a line that isn't silent and declares nothing is a command
abbrev pub is_command : List ℕ → Bool
is_command text = not (is_silent text) && not (is_some (things_of (word_of (words_of text) 0)))

abbrev pub is_sought : Sought → List ℕ → Bool
is_sought (Declaration things name) text = declares (words_of text) things name.now
is_sought (Name name) text = declares_any (words_of text) name.now
is_sought (Numbered stem n) text = is_clashing (words_of text) stem.now n
is_sought (Any things) text = is_of things (things_of (word_of (words_of text) 0))
is_sought Command text = is_command text
is_sought (Death name) text =
    bytes_eq (word_of (words_of text) 0) (codes "die") && bytes_eq (word_of (words_of text) 1) name.now

-- of these lines, the first of which is line n, the number of the first for which the test passes
abbrev pub first_line : (List ℕ → Bool) → ℕ → List (List ℕ) → Option ℕ
first_line p n [] = None
first_line p n (t ∷ ts) = if p t then Some n else first_line p (n + 1) ts
