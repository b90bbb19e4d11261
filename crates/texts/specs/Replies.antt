-- The text that tells of real threads: the replies of each, then each mutex, and then each condition variable.
--
-- *Text of replies.* A line for each thread, with its replies, one for each mutex, with its word in 16 hexadecimal
-- digits and its owner's name, and one for each condition variable, with its counter.
use Rattle.std.specs.Prelude.{ℕ, zero, suc, Bool, List, [], ◌∷◌, ◌++◌, map, codes}
use Rattle.std.specs.Prelude.{decimal, slice_get, Option, Some, None, if◌then◌else◌}
use Rattle.std.specs.List.{concat}
use Rattle.lockword.specs.declared.reply.Reply.{Reply}
use Rattle.lockword.specs.Replies.{reply_word}
use Rattle.lockword.specs.Cells.{fields_of}
use Rattle.texts.specs.MutexLines.{mutex_start}
use Rattle.texts.specs.declared.replies.ThreadReplies.{ThreadReplies}
use Rattle.texts.specs.declared.replies.MutexWord.{MutexWord}
use Rattle.texts.specs.declared.replies.ConditionWord.{ConditionWord}

-- a reply, after a space
abbrev pub reply_text : Reply → List ℕ
reply_text r = concat (codes " " ∷ reply_word r ∷ [])

abbrev pub reply_texts : List Reply → List ℕ
reply_texts rs = concat (map reply_text rs)

abbrev pub ending : Bool → List ℕ
ending died = if died then codes " dead\n" else codes "\n"

-- replies NAME and what it was answered; ` dead` at the end if the thread died
abbrev pub replies_line : ThreadReplies → List ℕ
replies_line t =
    concat (codes "replies " ∷ t.name.now ∷ []) ++ (reply_texts t.replies.now ++ concat (ending t.died ∷ []))

abbrev pub name_in : Option ThreadReplies → List ℕ
name_in None = codes "-"
name_in (Some t) = t.name.now

-- the name of the thread with this id, from 1; 0 and an id that no thread has are shown as a hyphen
abbrev pub owner_name : List ThreadReplies → ℕ → List ℕ
owner_name threads zero = codes "-"
owner_name threads (suc i) = name_in (slice_get threads i)

-- mutex NAME CELL OWNER SLEEPERS: when all threads have ended nobody sleeps
abbrev pub mutex_line : List ThreadReplies → MutexWord → List ℕ
mutex_line threads m =
    mutex_start m.name.now m.cell (owner_name threads (fields_of m.cell).owner) ++ concat (codes "-\n" ∷ [])

-- cond NAME COUNTER SLEEPERS
abbrev pub condition_line : ConditionWord → List ℕ
condition_line c = concat (codes "cond " ∷ c.name.now ∷ codes " " ∷ decimal c.counter ∷ codes " -\n" ∷ [])

-- the lines of the threads, those of the mutexes and those of the condition variables
abbrev pub threads_text : List ThreadReplies → List ℕ
threads_text threads = concat (map replies_line threads)

abbrev pub mutexes_text : List ThreadReplies → List MutexWord → List ℕ
mutexes_text threads mutexes = concat (map (mutex_line threads) mutexes)

abbrev pub conditions_text : List ConditionWord → List ℕ
conditions_text conditions = concat (map condition_line conditions)

abbrev pub objects_text : List ThreadReplies → List MutexWord → List ConditionWord → List ℕ
objects_text threads mutexes conditions = mutexes_text threads mutexes ++ conditions_text conditions

abbrev pub replies_text : List ThreadReplies → List MutexWord → List ConditionWord → List ℕ
replies_text threads mutexes conditions = threads_text threads ++ objects_text threads mutexes conditions
