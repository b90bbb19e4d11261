-- What the words of a line stand for: names of what, and which number.
use Rattle.std.specs.Prelude.{ℕ, ◌==◌, List, [], ◌∷◌, slice_get, Option, Some, None, codes, if◌then◌else◌}
use Rattle.std.specs.Str.{bytes_eq}
use Rattle.grammar.specs.declared.wrong.Kind.{Kind}
use Rattle.grammar.specs.declared.wrong.Kind.TheVariants.{Script, Head, Trace}
use Rattle.explain.specs.declared.explanation.Lack.{Lack}
use Rattle.explain.specs.declared.explanation.Lack.TheVariants.{Name, Count, Base, Counter, Accesses, Death, Events}
use Rattle.explain.specs.declared.explanation.Note.{Note}
use Rattle.explain.specs.declared.explanation.Note.TheVariants.{Missing}
use Rattle.explain.specs.declared.explanation.Things.{Things}
use Rattle.explain.specs.declared.explanation.Things.TheVariants.{Processes, Threads, Mutexes, Conditions}
use Rattle.explain.specs.Sought.{things_of}
use Rattle.explain.specs.Stray.{word_of}

-- ---- scripts

-- what a call names: its thread, and the condition variable or the mutex that it is made on
abbrev pub uses_of_call : List ℕ → List (Things × ℕ)
uses_of_call w = if bytes_eq w (codes "wait") then (Threads, 1) ∷ (Conditions, 3) ∷ []
    else (if bytes_eq w (codes "timedwait") then (Threads, 1) ∷ (Conditions, 3) ∷ []
    else (if bytes_eq w (codes "signal") then (Threads, 1) ∷ (Conditions, 3) ∷ []
    else (if bytes_eq w (codes "broadcast") then (Threads, 1) ∷ (Conditions, 3) ∷ []
    else (Threads, 1) ∷ (Mutexes, 3) ∷ [])))

-- the words of a line with this first word, and this third one, that name what is declared before, in the order in
-- which they are looked up
abbrev pub uses_of : List ℕ → List ℕ → List (Things × ℕ)
uses_of w call = if bytes_eq w (codes "thread") then (Processes, 2) ∷ []
    else (if bytes_eq w (codes "cond") then (Mutexes, 2) ∷ []
    else (if bytes_eq w (codes "step") then (Threads, 1) ∷ []
    else (if bytes_eq w (codes "kill") then (Threads, 1) ∷ []
    else (if bytes_eq w (codes "renew") then (Threads, 1) ∷ []
    else (if bytes_eq w (codes "remake") then (Threads, 1) ∷ (Mutexes, 2) ∷ []
    else (if bytes_eq w (codes "leave") then (Threads, 1) ∷ []
    else (if bytes_eq w (codes "expire") then (Threads, 1) ∷ []
    else (if bytes_eq w (codes "decline") then (Threads, 1) ∷ []
    else (if bytes_eq w (codes "go") then (Threads, 1) ∷ []
    else (if bytes_eq w (codes "die") then (Threads, 1) ∷ []
    else (if bytes_eq w (codes "spare") then (Threads, 1) ∷ []
    else (if bytes_eq w (codes "killall") then (Processes, 1) ∷ []
    else (if bytes_eq w (codes "locks") then (Mutexes, 2) ∷ (Threads, 1) ∷ []
    else (if bytes_eq w (codes "begin") then uses_of_call call
    else (if bytes_eq w (codes "call") then uses_of_call call else [])))))))))))))))

-- what a declaration with this first word gives a name to
abbrev pub given : Option Things → Option Lack
given None = None
given (Some things) = Some (Name things)

-- of these words, what word i names
abbrev pub named_at : List (Things × ℕ) → ℕ → Option Lack
named_at [] i = None
named_at (u ∷ us) i = if u.1 == i then Some (Name u.0) else named_at us i

-- the number of a line with this first word, which has one in its third place; and in its fourth
abbrev pub third_number : List ℕ → Option Lack
third_number w = if bytes_eq w (codes "process") then Some Base
    else (if bytes_eq w (codes "mutexes") then Some (Count Mutexes)
    else (if bytes_eq w (codes "step") then Some Accesses
    else (if bytes_eq w (codes "die") then Some Death else None)))

abbrev pub fourth_number : List ℕ → Option Lack
fourth_number w = if bytes_eq w (codes "cond") then Some Counter
    else (if bytes_eq w (codes "locks") then Some (Count Mutexes) else None)

abbrev pub number_at : List ℕ → ℕ → Option Lack
number_at w i = if i == 2 then third_number w else (if i == 3 then fourth_number w else None)

abbrev pub lack_or : Option Lack → Option Lack → Option Lack
lack_or (Some l) o = Some l
lack_or None o = o

-- what word i is of a script's line with these words: the name that it declares, one that it uses, or its number
abbrev pub script_lack : List (List ℕ) → ℕ → Option Lack
script_lack ws i = lack_or (if i == 1 then given (things_of (word_of ws 0)) else None)
    (lack_or (named_at (uses_of (word_of ws 0) (word_of ws 2)) i) (number_at (word_of ws 0) i))

-- ---- traces

-- what a trace's first line counts by word i
abbrev pub head_lack : ℕ → Option Lack
head_lack i = if i == 1 then Some (Count Threads)
    else (if i == 2 then Some (Count Mutexes) else (if i == 3 then Some (Count Conditions) else None))

-- of its other lines the last has a number
abbrev pub end_lack : List ℕ → Option Lack
end_lack w = if bytes_eq w (codes "end") then Some Events else None

-- ---- what is missing

abbrev pub lack_of : Kind → List (List ℕ) → ℕ → Option Lack
lack_of (Script k) ws i = script_lack ws i
lack_of Head ws i = head_lack i
lack_of Trace ws i = end_lack (word_of ws 0)

abbrev pub missing : Option (List ℕ) → Option Lack → Option Note
missing None (Some l) = Some (Missing l)
missing o l = None

-- that word i is missing, where there is none
abbrev pub lack_note : Kind → List (List ℕ) → ℕ → Option Note
lack_note k ws i = missing (slice_get ws i) (lack_of k ws i)
