-- What a command line asks for.
--
-- *What a command line asks for.* A picture, where its words are those of its parts in any order, each part once at
-- most: `--svg` or `--html`, `--script` with SCRIPT after it, and FILE. What signs mean, where `--legend` stands
-- alone. Else the usage. SCRIPT and FILE don't begin with a hyphen.
use Rattle.std.specs.Prelude.{ℕ, ◌≡◌, true, List, [], ◌∷◌, ◌++◌, codes, Option}
use Rattle.std.specs.Prelude.{option_map, option_to_list, unwrap_or, IfSome}
use Rattle.draw_report.specs.declared.asking.Form.{Form}
use Rattle.draw_report.specs.declared.asking.Form.TheVariants.{Picture, Legend, Usage}
use Rattle.draw_report.specs.declared.asking.Kind.{Kind}
use Rattle.draw_report.specs.declared.asking.Kind.TheVariants.{Text, Svg, Html}
use Rattle.streams.specs.Words.{is_file_word}

-- a picture of the trace in a file, with the names of a script in another one, or with numbers; what the signs of
-- pictures mean; or the usage
pub data Asked : Type 0 where
  Drawing : Kind → Option (List ℕ) → List ℕ → Asked
  Meaning : Asked
  Nothing : Asked

-- what a form says
abbrev pub asked_by : Form → Asked
asked_by (Picture kind script file) = Drawing kind (option_map (λ s. s.now) script) file.now
asked_by Legend = Meaning
asked_by Usage = Nothing

-- the file that is drawn where none is named
abbrev pub standard_input : List ℕ
standard_input = codes "/dev/stdin"

-- ---- the parts of a picture's command line

-- that it is SVG, or a page of HTML; whose names it has; which trace it is of
pub data Part : Type 0 where
  AsSvg : Part
  AsHtml : Part
  NamedBy : List ℕ → Part
  OfTrace : List ℕ → Part

-- the words that say so
abbrev pub said_by : Part → List (List ℕ)
said_by AsSvg = codes "--svg" ∷ []
said_by AsHtml = codes "--html" ∷ []
said_by (NamedBy script) = codes "--script" ∷ script ∷ []
said_by (OfTrace file) = file ∷ []

abbrev pub said_by_all : List Part → List (List ℕ)
said_by_all [] = []
said_by_all (p ∷ ps) = said_by p ++ said_by_all ps

-- what they say that it is made of, and by which words they name a script and a file
abbrev pub kinds : List Part → List Kind
kinds [] = []
kinds (AsSvg ∷ ps) = Svg ∷ kinds ps
kinds (AsHtml ∷ ps) = Html ∷ kinds ps
kinds (NamedBy script ∷ ps) = kinds ps
kinds (OfTrace file ∷ ps) = kinds ps

abbrev pub scripts : List Part → List (List ℕ)
scripts [] = []
scripts (AsSvg ∷ ps) = scripts ps
scripts (AsHtml ∷ ps) = scripts ps
scripts (NamedBy script ∷ ps) = script ∷ scripts ps
scripts (OfTrace file ∷ ps) = scripts ps

abbrev pub files : List Part → List (List ℕ)
files [] = []
files (AsSvg ∷ ps) = files ps
files (AsHtml ∷ ps) = files ps
files (NamedBy script ∷ ps) = files ps
files (OfTrace file ∷ ps) = file ∷ files ps

-- it is said once; or not at all, where it is text
abbrev pub kinds_of : Kind → List Kind
kinds_of Text = []
kinds_of Svg = Svg ∷ []
kinds_of Html = Html ∷ []

abbrev pub IsFile : List ℕ → Type 0
IsFile word = is_file_word word ≡ true

-- the words are those of parts, in any order, which ask for this picture
pub record AskForPicture (words : List (List ℕ)) (kind : Kind) (script trace : Option (List ℕ)) : Type 0 where
  pub parts : List Part
  pub said : words ≡ said_by_all parts
  pub as_kind : kinds parts ≡ kinds_of kind
  pub named_by : scripts parts ≡ option_to_list script
  pub of_trace : files parts ≡ option_to_list trace
  pub script_is_file : IfSome script IsFile
  pub trace_is_file : IfSome trace IsFile

-- ---- all command lines

-- the words after the program's name ask for a picture or for the meaning of signs
abbrev pub AskFor : List (List ℕ) → Asked → Type 0
AskFor words (Drawing kind script file) =
    (trace : Option (List ℕ)) × (file ≡ unwrap_or trace standard_input) × AskForPicture words kind script trace
AskFor words Meaning = words ≡ codes "--legend" ∷ []
AskFor words Nothing = ⊥

-- what the words of a command line ask for, of which the first is the program's name: the usage, where they ask for
-- nothing else
abbrev pub Asks : List (List ℕ) → Asked → Type 0
Asks [] a = a ≡ Nothing
Asks (program ∷ words) (Drawing kind script file) = AskFor words (Drawing kind script file)
Asks (program ∷ words) Meaning = AskFor words Meaning
Asks (program ∷ words) Nothing = (a : Asked) → AskFor words a → ⊥
