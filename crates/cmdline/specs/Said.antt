-- What clap finds in the words of a command line.
--
-- *Found by clap.* A subcommand, whether its table is asked for, and its FILE, as the matches have them; and that the
-- words are just these, in the order of a form.
use Rattle.std.specs.Prelude.{ℕ, ◌≡◌, ◌⊎◌, Bool, true, false, not, ◌&&◌, List, []}
use Rattle.std.specs.Prelude.{◌∷◌, codes, Option, Some, None, if◌then◌else◌}
use Rattle.std.specs.Str.{bytes_eq}
use Rattle.clap.specs.Words.{Row, Text, first_of, one_of}
use Rattle.cmdline.specs.declared.form.Found.{Found}
use Rattle.cmdline.specs.Forms.{Asked, run, table, threads, check, usage}
use Rattle.streams.specs.Words.{is_file_word}

-- a subcommand, whether its table is asked for, and a file
pub record Said : Type 0 where
  pub word : List ℕ
  pub table : Bool
  pub file : List ℕ

-- what was found says this
abbrev pub seen : Found → Said
seen f = record { word = f.word.now; table = f.table; file = f.file.now }

-- the text of a flag, if it has one
abbrev pub IsFlag : Option (List ℕ) → Bool → Type 0
IsFlag None b = b ≡ false
IsFlag (Some text) b = ((text ≡ codes "true") × (b ≡ true)) ⊎ ((text ≡ codes "false") × (b ≡ false))

-- a subcommand and its matches say this
abbrev pub IsSaid : Option (Text × List Row) → Said → Type 0
IsSaid None s = ⊥
IsSaid (Some p) s =
    (p.0 ≡ s.word) × (first_of (codes "FILE") p.1 ≡ Some s.file) × IsFlag (one_of (codes "table") p.1) s.table

-- what it asks for
abbrev pub asked_for : Said → Asked
asked_for s = if s.table then (if bytes_eq s.word (codes "run") then table s.file else usage)
    else (if bytes_eq s.word (codes "run") then run s.file
    else (if bytes_eq s.word (codes "threads") then threads s.file
    else (if bytes_eq s.word (codes "check") then check s.file else usage)))

-- the words are just these, in the order of the forms, and the file's name doesn't begin with a hyphen
abbrev pub in_order : List (List ℕ) → Said → Bool
in_order (program ∷ word ∷ file ∷ []) s =
    not s.table && (is_file_word file && (bytes_eq word s.word && bytes_eq file s.file))
in_order (program ∷ word ∷ option ∷ file ∷ []) s = s.table
    && (is_file_word file && (bytes_eq option (codes "--table") && (bytes_eq word s.word && bytes_eq file s.file)))
in_order _ s = false
