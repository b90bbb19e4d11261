-- The forms of a command line.
use Rattle.std.specs.Prelude.{ℕ, Bool, true, not, ◌&&◌, ◌==◌, List, [], ◌∷◌, codes, Some, if◌then◌else◌}
use Rattle.std.specs.Str.{bytes_eq}
use Rattle.clap.specs.Words.{App, Rule, new_app, new_rule, with_rule, with_subcommand}
use Rattle.clap.specs.declared.builder.ArgAction.TheVariants.{Set, SetTrue}
use Rattle.cmdline.specs.declared.form.Form.{Form}
use Rattle.cmdline.specs.declared.form.Form.TheVariants as form
use Rattle.streams.specs.Words.{is_file_word}

-- what a command line asks for, with the texts of its words
pub data Asked : Type 0 where
  run : List ℕ → Asked
  table : List ℕ → Asked
  threads : List ℕ → Asked
  check : List ℕ → Asked
  usage : Asked

-- what a subcommand and a word after it ask for
abbrev pub asked_of_file : List ℕ → List ℕ → Asked
asked_of_file word file = if not (is_file_word file) then usage
    else (if bytes_eq word (codes "run") then run file
    else (if bytes_eq word (codes "threads") then threads file
    else (if bytes_eq word (codes "check") then check file else usage)))

-- what a subcommand, a word and a file after it ask for
abbrev pub asked_of_table : List ℕ → List ℕ → List ℕ → Asked
asked_of_table word option file =
    if bytes_eq word (codes "run") && bytes_eq option (codes "--table") && is_file_word file then table file else usage

-- what the words of a command line ask for, of which the first is the program's name
abbrev pub asked_of : List (List ℕ) → Asked
asked_of (program ∷ word ∷ file ∷ []) = asked_of_file word file
asked_of (program ∷ word ∷ option ∷ file ∷ []) = asked_of_table word option file
asked_of _ = usage

-- what a form says
abbrev pub asked_by : Form → Asked
asked_by (form.Run file) = run file.now
asked_by (form.Table file) = table file.now
asked_by (form.Threads file) = threads file.now
asked_by (form.Check file) = check file.now
asked_by form.Usage = usage

-- ---- the command that clap is given

abbrev pub table_rule : Rule
table_rule = record (new_rule (codes "table")) { long = Some (codes "table"); action = Some SetTrue }

abbrev pub file_rule : Rule
file_rule = record (new_rule (codes "FILE")) { required = true; action = Some Set }

-- a subcommand with a file
abbrev pub file_app : List ℕ → App
file_app name = with_rule (new_app name) file_rule

-- the subcommand that runs a script: its trace is written, or its table
abbrev pub run_app : App
run_app = with_rule (with_rule (new_app (codes "run")) table_rule) file_rule

abbrev pub rfx : App
rfx = with_subcommand
    (with_subcommand (with_subcommand (new_app (codes "rfx")) run_app.top) (file_app (codes "threads")).top)
    (file_app (codes "check")).top
