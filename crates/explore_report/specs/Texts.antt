-- What is printed of the outcomes that were found.
--
-- *Text.* A first line says what was explored, and whether no outcome is missing. Then each outcome has a line: its
-- number, a cell for each thread and for each mutex, as wide as the widest of its column, and what it is called if
-- threads sleep forever. The last line has the number of states.
use Rattle.std.specs.Prelude.{ℕ, ◌+◌, ◌-◌, ◌==◌, not, Bool, true, false, List, [], ◌∷◌, ◌++◌, codes, decimal}
use Rattle.std.specs.Prelude.{length, map, max, nat_lt, replicate, get_or, slice_get, filter, is_some, Option, Some, None, if◌then◌else◌}
use Rattle.std.specs.List.{concat, flat_map, list_any, range_with_len}
use Rattle.lockword.specs.Replies.{reply_word}
use Rattle.lockword.specs.declared.reply.Reply.{Reply}
use Rattle.posixmutex.specs.declared.object.Object.{Object}
use Rattle.script.specs.Scope.{Scope}
use Rattle.outcomes.specs.declared.outcome.End.{End}
use Rattle.outcomes.specs.declared.outcome.End.TheVariants as end
use Rattle.outcomes.specs.declared.outcome.Ended.{Ended}
use Rattle.outcomes.specs.declared.outcome.Outcome.{Outcome}
use Rattle.outcomes.specs.declared.exploring.Found.{Found}
use Rattle.outcomes.specs.declared.exploring.Witnessed.{Witnessed}
use Rattle.outcomes.specs.declared.plan.Asked.{Asked}
use Rattle.explore_report.specs.Patterns.{is_asleep, is_dead, is_met}
use Rattle.explore_report.specs.declared.patterns.Pattern.{Pattern}
use Rattle.explore_report.specs.declared.judging.Demand.{Demand}

-- ---- cells

abbrev pub name_at : List (List ℕ) → ℕ → List ℕ
name_at names i = get_or names i []

abbrev pub condition_name : Scope → ℕ → List ℕ
condition_name s k = name_at (map (λ c. c.0) s.conditions) k

-- how a thread's end is said, after its replies. A mutex and a condition variable may have the same name
abbrev pub end_text : Scope → End → List ℕ
end_text s end.Finished = []
end_text s end.Waiting = codes " waiting"
end_text s end.Dead = codes " dead"
end_text s (end.OnMutex m) = concat (codes " asleep on " ∷ name_at s.mutexes m ∷ [])
end_text s (end.OnCondition k) = concat (codes " asleep on cond " ∷ condition_name s k ∷ [])

abbrev pub reply_text : Reply → List ℕ
reply_text x = concat (codes " " ∷ reply_word x ∷ [])

-- a thread, what its calls returned, and how it ended
abbrev pub thread_cell : Scope → List ℕ → Ended → List ℕ
thread_cell s name e = name ++ (flat_map reply_text e.replies.items ++ end_text s e.end)

-- how a mutex is left that nobody owns
abbrev pub left_words : Bool → Bool → List ℕ
left_words false false = codes " free"
left_words true false = codes " inconsistent"
left_words false true = codes " unusable"
left_words true true = codes " inconsistent, unusable"

-- and what is said of one after its owner
abbrev pub flag_words : Bool → Bool → List ℕ
flag_words false false = []
flag_words true false = codes ", inconsistent"
flag_words false true = codes ", unusable"
flag_words true true = codes ", inconsistent, unusable"

abbrev pub owner_text : Scope → Object → Option ℕ → List ℕ
owner_text s o None = left_words o.inconsistent o.unusable
owner_text s o (Some t) =
    concat (codes " owned by " ∷ name_at s.threads (t - 1) ∷ []) ++ flag_words o.inconsistent o.unusable

-- a mutex, and how it is left
abbrev pub mutex_cell : Scope → List ℕ → Object → List ℕ
mutex_cell s name o = name ++ owner_text s o o.owner

abbrev pub text_at : {A : Type 0} → (A → List ℕ) → Option A → List ℕ
text_at f None = []
text_at f (Some x) = f x

-- the cell of a column: those of threads come first, and then those of mutexes
abbrev pub cell_at : Scope → Outcome → ℕ → List ℕ
cell_at s o i =
    if nat_lt i (length s.threads)
    then text_at (thread_cell s (name_at s.threads i)) (slice_get o.threads.items i)
    else text_at (mutex_cell s (name_at s.mutexes (i - length s.threads)))
    (slice_get o.mutexes.items (i - length s.threads))

abbrev pub columns : Scope → ℕ
columns s = length s.threads + length s.mutexes

-- the widest of the cells of a column, or n
abbrev pub widest : Scope → ℕ → ℕ → List Witnessed → ℕ
widest s i n [] = n
widest s i n (w ∷ ws) = widest s i (max n (length (cell_at s w.outcome i))) ws

-- ---- an outcome

abbrev pub on_mutex : End → Bool
on_mutex (end.OnMutex m) = true
on_mutex e = false

-- what an outcome is called in which threads sleep forever: one of them on a mutex, or all on condition variables
abbrev pub mark_of : Outcome → List ℕ
mark_of o =
    if list_any (λ e. on_mutex e.end) o.threads.items then codes "a deadlock"
    else (if list_any (λ e. is_asleep e.end) o.threads.items then codes "a lost wakeup" else [])

abbrev pub spaces : ℕ → List ℕ
spaces n = replicate n 32

-- a cell, and spaces up to the next column
abbrev pub padded : ℕ → List ℕ → List ℕ
padded width text = text ++ spaces ((width + 4) - length text)

-- the last cell, and the mark after it, if there is one
abbrev pub last_text : ℕ → List ℕ → List ℕ → List ℕ
last_text width text [] = text
last_text width text (b ∷ bs) = padded width text ++ (b ∷ bs)

-- how wide the columns are
abbrev pub widths_of : Scope → List Witnessed → List ℕ
widths_of s ws = map (λ i. widest s i 0 ws) (range_with_len 0 (columns s))

-- the cell of each column but the last, as wide as its column
abbrev pub cells_text : Scope → List ℕ → Outcome → List ℕ
cells_text s widths o =
    flat_map (λ i. padded (get_or widths i 0) (cell_at s o i)) (range_with_len 0 (columns s - 1))
    ++ last_text (get_or widths (columns s - 1) 0) (cell_at s o (columns s - 1)) (mark_of o)

-- a number, as wide as the largest, and two spaces
abbrev pub number_text : ℕ → ℕ → List ℕ
number_text largest number = decimal number ++ spaces ((length (decimal largest) + 2) - length (decimal number))

-- the line of the outcome at place i, from 0
abbrev pub row_text : Scope → List ℕ → ℕ → ℕ → Outcome → List ℕ
row_text s widths largest i o = number_text largest (i + 1) ++ (cells_text s widths o ++ codes "\n")

-- the lines of outcomes, the first of which is at place i
abbrev pub rows_text : Scope → List ℕ → ℕ → ℕ → List Witnessed → List ℕ
rows_text s widths largest i [] = []
rows_text s widths largest i (w ∷ ws) = row_text s widths largest i w.outcome ++ rows_text s widths largest (i + 1) ws

-- ---- the first line and the last

abbrev pub count_text : List ℕ → ℕ → List ℕ → List ℕ → List ℕ
count_text start n one many = concat (start ∷ decimal n ∷ (if n == 1 then one else many) ∷ [])

abbrev pub others_text : List ℕ → List ℕ
others_text name = concat (codes ", " ∷ name ∷ [])

-- whose kills are explored, if not everybody's
abbrev pub named_text : List (List ℕ) → List ℕ
named_text [] = []
named_text (name ∷ names) = concat (codes " of " ∷ name ∷ []) ++ flat_map others_text names

abbrev pub kills_text : ℕ → List (List ℕ) → List ℕ
kills_text n names =
    if n == 0 then [] else (count_text (codes ", at most ") n (codes " kill") (codes " kills") ++ named_text names)

abbrev pub words_if : Bool → List ℕ → List ℕ
words_if true text = text
words_if false text = []

-- which events are explored besides begins and steps
abbrev pub asked_text : Asked → List (List ℕ) → List ℕ
asked_text a names = kills_text a.kills names
    ++ (words_if a.expire (codes ", deadlines")
    ++ (words_if a.leave (codes ", spurious wakeups") ++ words_if a.spare (codes ", spared wakes")))

abbrev pub conditions_text : ℕ → List ℕ
conditions_text n =
    if n == 0 then []
    else count_text (codes ", ") n (codes " condition variable") (codes " condition variables")

abbrev pub complete_text : Bool → List ℕ
complete_text true = codes ", complete\n"
complete_text false = codes ", not complete\n"

abbrev pub head_text : Scope → Asked → List (List ℕ) → ℕ → Bool → List ℕ
head_text s a names count complete =
    count_text [] (length s.threads) (codes " thread") (codes " threads")
    ++ (count_text (codes ", ") (length s.mutexes) (codes " mutex") (codes " mutexes")
    ++ (conditions_text (length s.conditions)
    ++ (asked_text a names
    ++ (count_text (codes ": ") count (codes " outcome") (codes " outcomes") ++ complete_text complete))))

-- ---- the order

abbrev pub deaths : Witnessed → ℕ
deaths w = length (filter (λ e. is_dead e.end) w.outcome.threads.items)

abbrev pub with_deaths : List Witnessed → ℕ → List Witnessed
with_deaths ws n = filter (λ w. deaths w == n) ws

-- outcomes with fewer deaths come first, and among those with as many, in the order in which they were found
abbrev pub in_order : ℕ → List Witnessed → List Witnessed
in_order threads ws = flat_map (with_deaths ws) (range_with_len 0 (threads + 1))

-- ---- what is asked of every outcome

-- each outcome has to meet the pattern, whose words these are; or none may
pub record Demanded : Type 0 where
  pub words : List ℕ
  pub pattern : Pattern
  pub always : Bool

-- as the code has it
abbrev pub demanded : Demand → Demanded
demanded d = record { words = d.words.now; pattern = d.pattern; always = d.always }

abbrev pub start_words : Bool → List ℕ
start_words true = codes "always "
start_words false = codes "never "

abbrev pub breaks : Pattern → Bool → Witnessed → Bool
breaks p always w = if is_met w.outcome p then not always else always

abbrev pub holds_words : Bool → List ℕ
holds_words true = codes ": holds\n"
holds_words false = codes ": holds so far\n"

abbrev pub verdict_text : Bool → Option ℕ → List ℕ
verdict_text complete None = holds_words complete
verdict_text complete (Some n) = concat (codes ": broken by outcome " ∷ decimal n ∷ codes "\n" ∷ [])

-- the number of the first outcome that breaks a demand, n being that of the one before the first
abbrev pub first_broken : Demanded → ℕ → List Witnessed → Option ℕ
first_broken d n [] = None
first_broken d n (w ∷ ws) = if breaks d.pattern d.always w then Some (n + 1) else first_broken d (n + 1) ws

-- whether a demand is met, and by which outcome it is broken first
abbrev pub demand_text : Bool → List Witnessed → Demanded → List ℕ
demand_text complete ws d = start_words d.always ++ (d.words
    ++ verdict_text complete (first_broken d 0 ws))

abbrev pub is_broken : List Witnessed → Demanded → Bool
is_broken ws d = is_some (first_broken d 0 ws)

-- none of the demands is broken
abbrev pub are_met : List Witnessed → List Demanded → Bool
are_met ws [] = true
are_met ws (d ∷ ds) = if is_broken ws d then false else are_met ws ds

-- ---- all of it

abbrev pub found_text : Scope → Asked → List (List ℕ) → List Witnessed → Bool → ℕ → List ℕ
found_text s a names ws complete states =
    head_text s a names (length ws) complete
    ++ (rows_text s (widths_of s ws) (length ws) 0 ws ++ count_text [] states (codes " state\n") (codes " states\n"))
