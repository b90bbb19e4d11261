-- What things are called, in the data of a page: by the names that a picture has for them.
use Rattle.std.specs.Prelude.{ℕ, ◌+◌, List, ◌++◌, codes}
use Rattle.picture.specs.Names.{Called, condition_head, condition_tail, mutex_head, mutex_tail}
use Rattle.picture.specs.Names.{thread_head, thread_tail}
use Rattle.picture.specs.Pieces.{each}
use Rattle.page.specs.Escapes.{escaped}

-- a name in two pieces, after others
abbrev pub label_text : List ℕ → List ℕ → List ℕ
label_text head tail = codes ",\"" ++ (escaped head ++ (escaped tail ++ codes "\""))

-- the thread after i others
abbrev pub thread_called : Called → ℕ → List ℕ
thread_called n i = label_text (thread_head n (i + 1)) (thread_tail n (i + 1))

abbrev pub mutex_called : Called → ℕ → List ℕ
mutex_called n m = label_text (mutex_head n m) (mutex_tail n m)

abbrev pub condition_called : Called → ℕ → List ℕ
condition_called n k = label_text (condition_head n k) (condition_tail n k)

abbrev pub threads_named : Called → ℕ → List ℕ
threads_named n threads = codes "[[\"threads\"" ++ each (thread_called n) threads

abbrev pub mutexes_named : Called → ℕ → List ℕ
mutexes_named n mutexes = codes "],[\"mutexes\"" ++ each (mutex_called n) mutexes

abbrev pub conditions_named : Called → ℕ → List ℕ
conditions_named n conditions = codes "],[\"conditions\"" ++ (each (condition_called n) conditions ++ codes "]],\n")

abbrev pub names_text : Called → ℕ → ℕ → ℕ → List ℕ
names_text n threads mutexes conditions =
    threads_named n threads ++ (mutexes_named n mutexes ++ conditions_named n conditions)
