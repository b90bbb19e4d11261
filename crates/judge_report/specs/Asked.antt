-- The forms of a command line.
use Rattle.std.specs.Prelude.{ℕ, Bool, true, false, List, [], ◌∷◌, codes, Option, Some, None}
use Rattle.std.specs.Prelude.{◌==◌, ◌&&◌, not, drop, length, nat_eq, if◌then◌else◌}
use Rattle.std.specs.Char.{is_ascii_digit}
use Rattle.std.specs.List.{list_all, starts_with}
use Rattle.std.specs.Str.{bytes_eq}
use Rattle.judge_report.specs.declared.asking.Form.{Form}
use Rattle.judge_report.specs.declared.asking.Form.TheVariants.{History, Usage}
use Rattle.judge_report.specs.declared.asking.Form.TheVariants as form
use Rattle.judge_report.specs.declared.asking.Keeping.{Keeping}
use Rattle.judge_report.specs.declared.asking.Keeping.TheVariants as keeping
use Rattle.streams.specs.Words.{is_file_word}
use Rattle.judge_report.specs.Paths.{in_one_directory, name_one_file, own_name}

-- where the certificate of a legal history is kept: nowhere; whole, in the file of this name; or in windows, each in a
-- file whose name begins so
pub data Kept : Type 0 where
  Nowhere : Kept
  Whole : List ℕ → Kept
  Windows : List ℕ → Kept

-- a judgement of the history in this file, whether with the calls that still wait and shouldn't, and where its
-- certificate is kept; or one whose certificate would be written over that file; or the usage
pub data Asked : Type 0 where
  Judging : Bool → Kept → List ℕ → Asked
  Overwrites : List ℕ → Asked
  Nothing : Asked

-- the word asks for the calls that still wait and shouldn't
abbrev pub is_waiting_word : List ℕ → Bool
is_waiting_word word = bytes_eq word (codes "--waiting")

-- where the words ask for a certificate to be kept, of which the second is a file's name
abbrev pub place_words : List ℕ → List ℕ → Option Kept
place_words word out = if is_file_word out
    then
    (if bytes_eq word (codes "--trace") then Some (Whole out)
    else (if bytes_eq word (codes "--windows") then Some (Windows out) else None))
    else None

-- a number from 1 on, with no zero in front
abbrev pub is_window_number : List ℕ → Bool
is_window_number [] = false
is_window_number (d ∷ ds) = not (d == 48) && list_all is_ascii_digit (d ∷ ds)

-- a point and such a number
abbrev pub is_number_part : List ℕ → Bool
is_number_part [] = false
is_number_part (b ∷ bs) = (b == 46) && is_window_number bs

-- a window that is kept in OUT.1, OUT.2 and so on could be in the file of this own name: after OUT it has a point and a
-- window's number
abbrev pub is_window : List ℕ → List ℕ → Bool
is_window out file = starts_with nat_eq file out && is_number_part (drop (length out) file)

-- in the same directory a window could be in it
abbrev pub is_window_at : List ℕ → List ℕ → Bool
is_window_at out file = in_one_directory out file && is_window (own_name out) (own_name file)

-- the certificate would be written over the file of this name, as far as names tell
abbrev pub is_overwritten : Kept → List ℕ → Bool
is_overwritten Nowhere file = false
is_overwritten (Whole out) file = name_one_file out file
is_overwritten (Windows out) file = is_window_at out file

-- a judgement of the history in the file of this name, if that isn't overwritten
abbrev pub placed : Bool → Kept → List ℕ → Asked
placed waiting kept file = if is_overwritten kept file then Overwrites file else Judging waiting kept file

-- the same, if it is a file's name
abbrev pub judging : Bool → Kept → List ℕ → Asked
judging waiting kept file = if is_file_word file then placed waiting kept file else Nothing

-- the same, if the certificate is to be kept somewhere
abbrev pub with_place : Bool → Option Kept → List ℕ → Asked
with_place waiting (Some kept) file = judging waiting kept file
with_place waiting None file = Nothing

-- what the words of a command line ask for, of which the first is the program's name: options in any order, each once
-- at most and the certificate kept in one place at most, and the file's name
abbrev pub asked_of : List (List ℕ) → Asked
asked_of (program ∷ file ∷ []) = judging false Nowhere file
asked_of (program ∷ a ∷ file ∷ []) = if is_waiting_word a then judging true Nowhere file else Nothing
asked_of (program ∷ a ∷ b ∷ file ∷ []) = with_place false (place_words a b) file
asked_of (program ∷ a ∷ b ∷ c ∷ file ∷ []) =
    if is_waiting_word a then with_place true (place_words b c) file
    else (if is_waiting_word c then with_place true (place_words a b) file else Nothing)
asked_of words = Nothing

-- what a place to keep the certificate says
abbrev pub kept_of : Keeping → Kept
kept_of keeping.Nowhere = Nowhere
kept_of (keeping.Whole name) = Whole name.now
kept_of (keeping.Windows out) = Windows out.now

-- what a form says
abbrev pub asked_by : Form → Asked
asked_by (History waiting kept file) = Judging waiting (kept_of kept) file.now
asked_by (form.Overwriting file) = Overwrites file.now
asked_by Usage = Nothing
