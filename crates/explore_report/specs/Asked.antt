-- What the words of a command line ask for.
--
-- *Words.* Options come before the file's name, in any order. `--kill`, `--never` and `--always` may be given several
-- times, each other option once.
use Rattle.std.specs.Prelude.{ℕ, ◌==◌, ◌&&◌, zero, suc, Bool, true, false, List, [], ◌∷◌, ◌++◌, codes, Option, Some, None, map, length}
use Rattle.std.specs.Prelude.{min, option_map, if◌then◌else◌}
use Rattle.std.specs.List.{list_any}
use Rattle.std.specs.Str.{bytes_eq}
use Rattle.std.specs.Str.Parse.{digits_value}
use Rattle.lines.specs.Numbers.{is_number, within}
use Rattle.streams.specs.Words.{is_file_word}
use Rattle.explore_report.specs.declared.asking.Options.{Options}
use Rattle.explore_report.specs.declared.asking.Wanted.{Wanted}
use Rattle.explore_report.specs.declared.asking.Flag.{Flag}
use Rattle.explore_report.specs.declared.asking.Flag.TheVariants as flag
use Rattle.explore_report.specs.declared.asking.Form.{Form}
use Rattle.explore_report.specs.declared.asking.Form.TheVariants as form

-- the script of the outcome with this number is written to the file of this name
pub record Kept : Type 0 where
  pub number : ℕ
  pub out : List ℕ

-- the options of a command line: how many threads may be killed at most, and which, if not all; which other events
-- are explored; how many states there may be; what is asked of every outcome; and whose script is written
pub record Choices : Type 0 where
  pub kills : Option ℕ
  pub named : List (List ℕ)
  pub expire : Bool
  pub leave : Bool
  pub spare : Bool
  pub states : Option ℕ
  pub never : List (List ℕ)
  pub always : List (List ℕ)
  pub script : Option Kept

-- an option
pub data Choice : Type 0 where
  Kills : ℕ → Choice
  Kill : List ℕ → Choice
  Expire : Choice
  Leave : Choice
  Spare : Choice
  States : ℕ → Choice
  Never : List ℕ → Choice
  Always : List ℕ → Choice
  Script : Kept → Choice

-- the outcomes of the script in this file; or a file that would be written over; or the usage
pub data Asked : Type 0 where
  Explores : Choices → List ℕ → Asked
  Overwrites : List ℕ → Asked
  Nothing : Asked

abbrev pub most_states : ℕ
most_states = 5000000

abbrev pub most_kills : ℕ
most_kills = 4

abbrev pub no_choices : Choices
no_choices = record {
  kills = None;
  named = [];
  expire = false;
  leave = false;
  spare = false;
  states = None;
  never = [];
  always = [];
  script = None;
}

-- the number that a word is, if it is one from low to high
abbrev pub number_in : ℕ → ℕ → List ℕ → Option ℕ
number_in low high word = if is_number word then within low high (digits_value 10 word) else None

-- the option of one word
abbrev pub lone : List ℕ → Option Choice
lone word =
    if bytes_eq word (codes "--expire") then Some Expire
    else (if bytes_eq word (codes "--leave") then Some Leave
    else (if bytes_eq word (codes "--spare") then Some Spare else None))

-- the option of a word and its value
abbrev pub with_value : List ℕ → List ℕ → Option Choice
with_value word value =
    if bytes_eq word (codes "--kills") then option_map Kills (number_in 0 most_kills value)
    else (if bytes_eq word (codes "--kill") then Some (Kill value)
    else (if bytes_eq word (codes "--states") then option_map States (number_in 1 most_states value)
    else (if bytes_eq word (codes "--never") then Some (Never value)
    else (if bytes_eq word (codes "--always") then Some (Always value) else None))))

-- the option `--script`, with the number of an outcome and the name of a file
abbrev pub script_option : List ℕ → List ℕ → List ℕ → Option Choice
script_option word number out =
    if bytes_eq word (codes "--script")
    then
    (if is_file_word out
    then option_map (λ n. Script (record { number = n; out = out })) (number_in 1 most_states number)
    else None)
    else None

-- an option that is given once
abbrev pub once : {A : Type 0} → Option A → Choices → Option Choices
once None c = Some c
once (Some x) c = None

abbrev pub unless : Bool → Choices → Option Choices
unless true c = None
unless false c = Some c

-- with one more thread that may be killed; if it is named already, nothing changes
abbrev pub with_named : Choices → List ℕ → Choices
with_named c name =
    if list_any (λ w. bytes_eq w name) c.named then c else record c { named = c.named ++ name ∷ [] }

-- the options with one more, which hasn't been given, if it may be given once
abbrev pub added : Choices → Choice → Option Choices
added c (Kills n) = once c.kills (record c { kills = Some n })
added c (Kill name) = Some (with_named c name)
added c Expire = unless c.expire (record c { expire = true })
added c Leave = unless c.leave (record c { leave = true })
added c Spare = unless c.spare (record c { spare = true })
added c (States n) = once c.states (record c { states = Some n })
added c (Never words) = Some (record c { never = c.never ++ words ∷ [] })
added c (Always words) = Some (record c { always = c.always ++ words ∷ [] })
added c (Script kept) = once c.script (record c { script = Some kept })

-- a name without `./` at its beginning, as often as that is there
unfoldable pub bare : List ℕ → List ℕ
bare [] = []
bare (a ∷ []) = a ∷ []
bare (a ∷ b ∷ name) = if (a == 46) && (b == 47) then bare name else a ∷ b ∷ name

-- the script of an outcome would be written over the file, as names are written except for `./` at their beginning
abbrev pub is_over : Option Kept → List ℕ → Bool
is_over None file = false
is_over (Some kept) file = bytes_eq (bare kept.out) (bare file)

-- the last word names the file
abbrev pub explored : Choices → List ℕ → Asked
explored c file =
    if is_file_word file then (if is_over c.script file then Overwrites file else Explores c file) else Nothing

-- ---- all options

-- an option, and the words after it
abbrev pub before : List (List ℕ) → Option Choice → Option (Choice × List (List ℕ))
before words = option_map (λ c. (c, words))

abbrev pub of_three : List ℕ → List ℕ → List (List ℕ) → Option (Choice × List (List ℕ))
of_three word value [] = None
of_three word value (out ∷ words) = before words (script_option word value out)

abbrev pub or_else : {A : Type 0} → Option A → Option A → Option A
or_else None other = other
or_else (Some x) other = Some x

abbrev pub of_more : List ℕ → List (List ℕ) → Option (Choice × List (List ℕ))
of_more word [] = None
of_more word (value ∷ words) = or_else (before words (with_value word value)) (of_three word value words)

-- the first option of some words
abbrev pub first_option : List (List ℕ) → Option (Choice × List (List ℕ))
first_option [] = None
first_option (word ∷ words) = or_else (before words (lone word)) (of_more word words)

-- what is left to be read, after an option
abbrev pub read_on : (Choices → List (List ℕ) → Option (Choices × List (List ℕ))) → Option Choices → List (List ℕ)
    → Option (Choices × List (List ℕ))
read_on read None words = None
read_on read (Some c) words = read c words

abbrev pub read_first : (Choices → List (List ℕ) → Option (Choices × List (List ℕ))) → Choices → List (List ℕ)
    → Option (Choice × List (List ℕ)) → Option (Choices × List (List ℕ))
read_first read c words None = Some (c, words)
read_first read c words (Some x) = read_on read (added c x.0) x.1

-- the options at the front of the words, n at most, and the words after them; None if one is given again that may be
-- given once
abbrev pub options_read : ℕ → Choices → List (List ℕ) → Option (Choices × List (List ℕ))
options_read zero c words = Some (c, words)
options_read (suc n) c words = read_first (options_read n) c words (first_option words)

abbrev pub asked_with : Choices → List (List ℕ) → Asked
asked_with c [] = Nothing
asked_with c (file ∷ []) = explored c file
asked_with c (file ∷ next ∷ words) = Nothing

-- one word is left after the options, the file's name
abbrev pub asked_after : Option (Choices × List (List ℕ)) → Asked
asked_after None = Nothing
asked_after (Some x) = asked_with x.0 x.1

-- what the words of a command line ask for, of which the first is the program's name
abbrev pub asked_of : List (List ℕ) → Asked
asked_of [] = Nothing
asked_of (program ∷ words) = asked_after (options_read (length words) no_choices words)

-- ---- as the code has them

abbrev pub kept_of : Wanted → Kept
kept_of w = record { number = w.number; out = w.out.now }

abbrev pub choices_of : Options → Choices
choices_of o = record {
  kills = o.kills;
  named = map (λ w. w.now) o.named.items;
  expire = o.expire;
  leave = o.leave;
  spare = o.spare;
  states = o.states;
  never = map (λ w. w.now) o.never.items;
  always = map (λ w. w.now) o.always.items;
  script = option_map kept_of o.script;
}

abbrev pub choice_of : Flag → Choice
choice_of (flag.Kills n) = Kills n
choice_of (flag.Kill name) = Kill name.now
choice_of flag.Expire = Expire
choice_of flag.Leave = Leave
choice_of flag.Spare = Spare
choice_of (flag.States n) = States n
choice_of (flag.Never words) = Never words.now
choice_of (flag.Always words) = Always words.now
choice_of (flag.Script wanted) = Script (kept_of wanted)

abbrev pub asked_by : Form → Asked
asked_by (form.Explore options file) = Explores (choices_of options) file.now
asked_by (form.Overwriting file) = Overwrites file.now
asked_by form.Usage = Nothing

abbrev pub or_so : Option ℕ → ℕ → ℕ
or_so None n = n
or_so (Some n) other = n

-- how many threads may be killed: as many as is said; else as many as are named; no more than 4
abbrev pub kills_of : Choices → ℕ
kills_of c = min (or_so c.kills (length c.named)) most_kills

-- how many states there may be
abbrev pub states_of : Choices → ℕ
states_of c = or_so c.states most_states
