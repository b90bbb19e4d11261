-- How the words of a command line are read, one by one. `Asked.antt` tells what all of them ask for.
use Rattle.std.specs.Prelude.{ℕ, Bool, true, false, List, [], ◌∷◌, codes, Option, Some, None}
use Rattle.std.specs.Prelude.{option_map, unwrap_or, if◌then◌else◌}
use Rattle.std.specs.Str.{bytes_eq}
use Rattle.draw_report.specs.declared.asking.Kind.{Kind}
use Rattle.draw_report.specs.declared.asking.Kind.TheVariants.{Text, Svg, Html}
use Rattle.draw_report.specs.declared.asking.Said.{Said}
use Rattle.draw_report.specs.Asked.{Asked, Drawing, Meaning, Nothing, standard_input}
use Rattle.streams.specs.Words.{is_file_word}

-- what was read so far; the last word was `--script`, where a script is awaited
pub record Wish : Type 0 where
  pub kind : Option Kind
  pub awaits_script : Bool
  pub script : Option (List ℕ)
  pub file : Option (List ℕ)

-- what the program keeps of it
abbrev pub seen : Said → Wish
seen s = record {
  kind = s.kind;
  awaits_script = s.awaits_script;
  script = option_map (λ t. t.now) s.script;
  file = option_map (λ t. t.now) s.file;
}

abbrev pub no_wish : Wish
no_wish = record { kind = None; awaits_script = false; script = None; file = None }

-- ---- one word more; nothing, where it can't be there

-- what is said once is not said again
abbrev pub unless_given : {A : Type 0} → Option A → Option Wish → Option Wish
unless_given None w = w
unless_given (Some x) w = None

abbrev pub with_kind : Wish → Kind → Option Wish
with_kind w kind = unless_given w.kind (Some (record w { kind = Some kind }))

abbrev pub with_option : Wish → Option Wish
with_option w = unless_given w.script (Some (record w { awaits_script = true }))

abbrev pub with_script : Wish → List ℕ → Option Wish
with_script w word =
    if is_file_word word then Some (record w { awaits_script = false; script = Some word }) else None

abbrev pub with_file : Wish → List ℕ → Option Wish
with_file w word = unless_given w.file (if is_file_word word then Some (record w { file = Some word }) else None)

abbrev pub with_word : Wish → List ℕ → Option Wish
with_word w word = if w.awaits_script then with_script w word
    else (if bytes_eq word (codes "--svg") then with_kind w Svg
    else (if bytes_eq word (codes "--html") then with_kind w Html
    else (if bytes_eq word (codes "--script") then with_option w else with_file w word)))

-- ---- all words

abbrev pub wished_for : Wish → Asked
wished_for w =
    if w.awaits_script then Nothing else Drawing (unwrap_or w.kind Text) w.script (unwrap_or w.file standard_input)

abbrev pub asked_behind : Option Wish → List (List ℕ) → Asked
asked_behind None words = Nothing
asked_behind (Some w) [] = wished_for w
asked_behind (Some w) (word ∷ words) = asked_behind (with_word w word) words

abbrev pub is_legend : List (List ℕ) → Bool
is_legend (word ∷ []) = bytes_eq word (codes "--legend")
is_legend words = false

abbrev pub asked_of : List (List ℕ) → Asked
asked_of [] = Nothing
asked_of (program ∷ words) = if is_legend words then Meaning else asked_behind (Some no_wish) words
