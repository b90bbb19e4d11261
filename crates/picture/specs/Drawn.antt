-- A picture in text: time runs downwards.
--
-- *The picture in text.* A row for each line, in the order of the trace: the number of its event, the mutexes' owners,
-- all lanes.
use Rattle.std.specs.Prelude.{ℕ, min, List, [], ◌∷◌, ◌++◌}
use Rattle.lockword.specs.Threads.{named_threads}
use Rattle.facts.specs.declared.fact.Line.{Line}
use Rattle.picture.specs.declared.bands.Extent.{Extent}
use Rattle.picture.specs.declared.scene.Scene.{Scene}
use Rattle.picture.specs.Bands.{least_letters, shown}
use Rattle.picture.specs.Heads.{heads}
use Rattle.picture.specs.Layouts.{band_room}
use Rattle.picture.specs.Names.{Called, letters_of}
use Rattle.picture.specs.Rows.{end_text, row_text}
use Rattle.picture.specs.Scenes.{behind, first_scene}

-- how many lanes there are: a trace has no more threads
abbrev pub lanes_of : ℕ → ℕ
lanes_of threads = min threads named_threads

-- what a picture has, in which there is room for that many bands
abbrev pub extent_in : ℕ → Called → ℕ → ℕ → List Line → Extent
extent_in room n threads mutexes ls = record {
  threads = lanes_of threads;
  letters = letters_of (least_letters (shown room mutexes ls)) n;
  bands = shown room mutexes ls;
}

abbrev pub text_extent : Called → ℕ → ℕ → List Line → Extent
text_extent n threads mutexes ls = extent_in (band_room (lanes_of threads)) n threads mutexes ls

-- each line is one row, in the order of the trace
abbrev pub rows_text : Called → Extent → Scene → List Line → List ℕ
rows_text n x s [] = []
rows_text n x s (l ∷ ls) =
    row_text n x (behind x.bands s l (l ∷ ls)) l ++ rows_text n x (behind x.bands s l (l ∷ ls)) ls

-- the heads, the rows and the number of events
abbrev pub drawn_with : Called → Extent → List Line → ℕ → List ℕ
drawn_with n x ls last = heads n x ++ (rows_text n x first_scene ls ++ end_text last)

-- the picture of a trace of that many threads and mutexes, with these lines and this number of events, in which things
-- have these names
abbrev pub drawn : Called → ℕ → ℕ → List Line → ℕ → List ℕ
drawn n threads mutexes ls last = drawn_with n (text_extent n threads mutexes ls) ls last
