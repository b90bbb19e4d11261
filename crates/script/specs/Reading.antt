-- What a script says, and its first fault: each line in turn, after those before it.
--
-- *The script and its first fault.* First the bytes (too many; not UTF-8, at the line of the first bad byte), then the
-- lines, each in turn after those before it, then what is missing at the end. The law `silent_lines_say_nothing`
-- (`Silence.antt`) says that a line without meaning may be left out.
use Rattle.std.specs.Prelude.{ℕ, map, zero, suc, ◌+◌, Bool, not, ◌&&◌, ◌||◌, ◌==◌, nat_le, nat_lt, List, [], ◌∷◌}
use Rattle.std.specs.Prelude.{◌++◌, length, take, drop, position, Option, Result, Ok, Err, if◌then◌else◌, decimal}
use Rattle.std.specs.Option.{ok_or, is_some}
use Rattle.std.specs.List.{list_any}
use Rattle.std.specs.Str.{bytes_eq, is_utf8}
use Rattle.std.specs.Str.Parse.{digits_value}
use Rattle.mutex.specs.declared.call.Call.TheVariants as call
use Rattle.condvar.specs.declared.call.CondCall.TheVariants as on
use Rattle.condvar.specs.declared.call.Limit.TheVariants.{Ahead}
use Rattle.condvar.specs.declared.op.Op.{Op}
use Rattle.condvar.specs.declared.op.Op.TheVariants.{OnMutex, OnCondition}
use Rattle.script.specs.Forms.{CallForm, lock, trylock, timedlock, unlock, consistent, wait, timedwait, signal}
use Rattle.script.specs.Forms.{broadcast, Form, silent}
use Rattle.script.specs.Forms.{process, thread, member, mutex, mutexes, cond, begins, steps, kills, kills_all}
use Rattle.script.specs.Forms.{goes, leaves, declines, expires, renews, remakes, spares}
use Rattle.script.specs.Forms.{calls, locks, phase, dies, form_of}
use Rattle.lines.specs.Numbers.{is_number}
use Rattle.lines.specs.Lines.{lines_of, bad_line}
use Rattle.lines.specs.Faults.{◌>>=◌}
use Rattle.script.specs.Deaths.{death_of}
use Rattle.script.specs.Scope.{Scope}
use Rattle.script.specs.declared.command.Mode.{Mode}
use Rattle.script.specs.declared.command.Action.{Action}
use Rattle.script.specs.declared.command.Action.TheVariants as action
use Rattle.script.specs.declared.fault.Fault.{Fault}
use Rattle.script.specs.declared.fault.Fault.TheVariants.{NotUtf8, UnknownWord, OutOfRange, NoSuchName, TooLong}
use Rattle.script.specs.declared.fault.ScriptFault.{ScriptFault}
use Rattle.script.specs.Limits.{max_bytes, max_lines, max_processes, max_threads, max_mutexes, max_conditions}

-- before the first line
abbrev pub nothing : Mode → Scope
nothing k =
    record { mode = k; processes = []; threads = []; members = []; mutexes = []; conditions = []; commands = [] }

-- the fault where the test holds, and else what follows
abbrev pub refuse : {A : Type 0} → Bool → Fault → Result A Fault → Result A Fault
refuse b f r = if b then Err f else r

-- the place of a name among the declared ones, from 0
abbrev pub place_of : List ℕ → List (List ℕ) → Result ℕ Fault
place_of w names = ok_or (position (λ n. bytes_eq w n) names) NoSuchName

-- whether a name is among the declared ones
abbrev pub is_declared : List ℕ → List (List ℕ) → Bool
is_declared w names = list_any (λ n. bytes_eq w n) names

-- the names with one more, unless it is among them
abbrev pub with_name : List (List ℕ) → List ℕ → Result (List (List ℕ)) Fault
with_name names w = refuse (is_declared w names) NoSuchName (Ok (names ++ w ∷ []))

-- the same, unless there are as many as may be
abbrev pub added : ℕ → List (List ℕ) → List ℕ → Result (List (List ℕ)) Fault
added limit names w = refuse (nat_le limit (length names)) OutOfRange (with_name names w)

-- a name with a number after it, for each number below n
abbrev pub numbered : List ℕ → ℕ → List (List ℕ)
numbered w zero = []
numbered w (suc n) = numbered w n ++ (w ++ decimal n) ∷ []

-- whether a name is w with a number below n after it
abbrev pub is_numbered : List ℕ → ℕ → List ℕ → Bool
is_numbered w n name = bytes_eq (take (length w) name) w && is_number (drop (length w) name)
    && nat_lt (digits_value 10 (drop (length w) name)) n

-- the names with n numbered ones more, unless they would be more than may be, or one is among them
abbrev pub several : ℕ → List (List ℕ) → List ℕ → ℕ → Result (List (List ℕ)) Fault
several limit names w n = refuse (nat_lt limit (length names + n)) OutOfRange
    (refuse (list_any (λ name. is_numbered w n name) names) NoSuchName (Ok (names ++ numbered w n)))

-- no declaration stands after a command
abbrev pub declares : Scope → Result (Unit {0}) Fault
declares s = refuse (not (length s.commands == 0)) UnknownWord (Ok tt)

-- the number of a thread, from 1
abbrev pub thread_of : Scope → List ℕ → Result ℕ Fault
thread_of s t = place_of t s.threads >>= λ i. Ok (i + 1)

-- the names of things that were declared with more than their names
abbrev pub names_of : {V : Type 0} → List (List ℕ × V) → List (List ℕ)
names_of things = map (λ x. x.0) things

-- the names of the condition variables
abbrev pub condition_names : Scope → List (List ℕ)
condition_names s = names_of s.conditions

-- the number of a named process, from 1: process 0 has no name
abbrev pub process_of : Scope → List ℕ → Result ℕ Fault
process_of s p = place_of p (names_of s.processes) >>= λ i. Ok (i + 1)

-- a call by the number of its mutex or of its condition variable, from 0
abbrev pub call_of : Scope → CallForm → Result Op Fault
call_of s (lock m) = place_of m s.mutexes >>= λ j. Ok (OnMutex (call.Lock j))
call_of s (trylock m) = place_of m s.mutexes >>= λ j. Ok (OnMutex (call.TryLock j))
call_of s (timedlock m) = place_of m s.mutexes >>= λ j. Ok (OnMutex (call.TimedLock j))
call_of s (unlock m) = place_of m s.mutexes >>= λ j. Ok (OnMutex (call.Unlock j))
call_of s (consistent m) = place_of m s.mutexes >>= λ j. Ok (OnMutex (call.Consistent j))
call_of s (wait c) = place_of c (condition_names s) >>= λ k. Ok (OnCondition (on.Wait k))
call_of s (timedwait c) = place_of c (condition_names s) >>= λ k. Ok (OnCondition (on.TimedWait k Ahead))
call_of s (signal c) = place_of c (condition_names s) >>= λ k. Ok (OnCondition (on.Signal k))
call_of s (broadcast c) = place_of c (condition_names s) >>= λ k. Ok (OnCondition (on.Broadcast k))

-- the first of n mutexes from the named one on; the last mutex may not stand before the last of them
abbrev pub first_of : Scope → List ℕ → ℕ → Result ℕ Fault
first_of s m n = place_of m s.mutexes >>= λ j. refuse (nat_lt (length s.mutexes) (j + n)) OutOfRange (Ok j)

-- ---- declarations

-- things that have names, with one more, unless there is one of this name
abbrev pub with_entry : {V : Type 0} → List (List ℕ × V) → List ℕ → V → Result (List (List ℕ × V)) Fault
with_entry things w v = refuse (is_declared w (names_of things)) NoSuchName (Ok (things ++ (w, v) ∷ []))

-- a process that maps the words at this base, unless there are as many as may be, or there is one of this name
abbrev pub process_declared : Scope → List ℕ → Option ℕ → Result Scope Fault
process_declared s w base = declares s >>= λ _. ok_or base OutOfRange >>= λ b.
    refuse (nat_le max_processes (length s.processes)) OutOfRange
    (with_entry s.processes w b >>= λ ps. Ok (record s { processes = ps }))

-- a thread of the process with this number, unless there is one of this name
abbrev pub with_thread : Scope → List ℕ → ℕ → Result Scope Fault
with_thread s w p = with_name s.threads w >>= λ names. Ok (record s { threads = names; members = s.members ++ p ∷ [] })

-- a thread, unless there are as many as may be; its process is the one that the line names, where it names one
abbrev pub thread_declared : Scope → List ℕ → Result ℕ Fault → Result Scope Fault
thread_declared s w its =
    declares s >>= λ _. refuse (nat_le max_threads (length s.threads)) OutOfRange (its >>= λ p. with_thread s w p)

abbrev pub mutex_declared : Scope → List ℕ → Result Scope Fault
mutex_declared s w = declares s >>= λ _. added max_mutexes s.mutexes w >>= λ names. Ok (record s { mutexes = names })

abbrev pub mutexes_declared : Scope → List ℕ → Option ℕ → Result Scope Fault
mutexes_declared s w count =
    declares s >>= λ _. ok_or count OutOfRange >>= λ k. several max_mutexes s.mutexes w k >>= λ names.
    Ok (record s { mutexes = names })

-- a condition variable of the mutex with this number, whose counter begins at this value, unless there is one of this
-- name
abbrev pub with_condition : Scope → List ℕ → ℕ → ℕ → Result Scope Fault
with_condition s w m counter =
    with_entry s.conditions w (record { mutex = m; counter = counter }) >>= λ cs. Ok (record s { conditions = cs })

abbrev pub condition_declared : Scope → List ℕ → List ℕ → Option ℕ → Result Scope Fault
condition_declared s w m counter = declares s >>= λ _. ok_or counter OutOfRange >>= λ n.
    refuse (nat_le max_conditions (length s.conditions)) OutOfRange
    (place_of m s.mutexes >>= λ j. with_condition s w j n)

-- ---- what commands ask for

abbrev pub begun : Scope → List ℕ → CallForm → Result Action Fault
begun s t c = thread_of s t >>= λ i. call_of s c >>= λ k. Ok (action.Begin i k)

abbrev pub stepped : Scope → List ℕ → Option ℕ → Result Action Fault
stepped s t count = ok_or count OutOfRange >>= λ k. thread_of s t >>= λ i. Ok (action.Step i k)

abbrev pub killed : Scope → List ℕ → Result Action Fault
killed s t = thread_of s t >>= λ i. Ok (action.Kill i)

abbrev pub all_killed : Scope → List ℕ → Result Action Fault
all_killed s p = process_of s p >>= λ i. Ok (action.KillAll i)

abbrev pub left : Scope → List ℕ → Result Action Fault
left s t = thread_of s t >>= λ i. Ok (action.Leave i)

abbrev pub declined : Scope → List ℕ → Result Action Fault
declined s t = thread_of s t >>= λ i. Ok (action.Decline i)

abbrev pub expired : Scope → List ℕ → Result Action Fault
expired s t = thread_of s t >>= λ i. Ok (action.Expire i)

abbrev pub renewed : Scope → List ℕ → Result Action Fault
renewed s t = thread_of s t >>= λ i. Ok (action.Renew i)

abbrev pub remade : Scope → List ℕ → List ℕ → Result Action Fault
remade s t m = thread_of s t >>= λ i. place_of m s.mutexes >>= λ j. Ok (action.Remake i j)

abbrev pub wake_spared : Scope → List ℕ → Result Action Fault
wake_spared s t = thread_of s t >>= λ i. Ok (action.Spare i)

abbrev pub gone : Scope → List ℕ → Result Action Fault
gone s t = thread_of s t >>= λ i. Ok (action.Go i)

abbrev pub made : Scope → List ℕ → CallForm → Result Action Fault
made s t c = thread_of s t >>= λ i. call_of s c >>= λ k. Ok (action.Call i k)

abbrev pub locked : Scope → List ℕ → List ℕ → Option ℕ → Result Action Fault
locked s t m count =
    ok_or count OutOfRange >>= λ k. first_of s m k >>= λ j. thread_of s t >>= λ i. Ok (action.Locks i j k)

-- a thread dies once at most: a second death of it is refused
abbrev pub died : Scope → List ℕ → Option ℕ → Result Action Fault
died s t access = ok_or access OutOfRange >>= λ k.
    thread_of s t >>= λ i.
    refuse (is_some (death_of i s.commands)) NoSuchName (Ok (action.Die i k))

-- one more command, which is at line n
abbrev pub with_action : ℕ → Scope → Action → Scope
with_action n s a = record s { commands = s.commands ++ record { line = n; action = a } ∷ [] }

-- the command of line n, where no fault is met in what it asks for
abbrev pub asked : ℕ → Scope → Result Action Fault → Result Scope Fault
asked n s r = r >>= λ a. Ok (with_action n s a)

-- what line n adds
abbrev pub enter : ℕ → Scope → Form → Result Scope Fault
enter n s silent = Ok s
enter n s (process w base) = process_declared s w base
enter n s (thread w) = thread_declared s w (Ok 0)
enter n s (member w p) = thread_declared s w (process_of s p)
enter n s (mutex w) = mutex_declared s w
enter n s (mutexes w count) = mutexes_declared s w count
enter n s (cond w m counter) = condition_declared s w m counter
enter n s (begins t c) = asked n s (begun s t c)
enter n s (steps t count) = asked n s (stepped s t count)
enter n s (kills t) = asked n s (killed s t)
enter n s (kills_all p) = asked n s (all_killed s p)
enter n s (goes t) = asked n s (gone s t)
enter n s (leaves t) = asked n s (left s t)
enter n s (declines t) = asked n s (declined s t)
enter n s (expires t) = asked n s (expired s t)
enter n s (renews t) = asked n s (renewed s t)
enter n s (remakes t m) = asked n s (remade s t m)
enter n s (spares t) = asked n s (wake_spared s t)
enter n s (calls t c) = asked n s (made s t c)
enter n s (locks t m count) = asked n s (locked s t m count)
enter n s phase = Ok (with_action n s action.Phase)
enter n s (dies t access) = asked n s (died s t access)

-- a fault at line n
abbrev pub fault_at : ℕ → Fault → ScriptFault
fault_at n f = record { line = n; fault = f }

-- what line n gave, with the line of its fault
abbrev pub met_at : {A : Type 0} → ℕ → Result A Fault → Result A ScriptFault
met_at n (Ok x) = Ok x
met_at n (Err f) = Err (fault_at n f)

-- line n, which a line feed ends
abbrev pub line_read : ℕ → Scope → List ℕ → Result Scope Fault
line_read n s text = refuse (nat_lt max_lines n) TooLong (ok_or (form_of s.mode text) UnknownWord >>= λ f. enter n s f)

-- what stands after the last line feed: nothing, and what was declared is enough
abbrev pub finished : ℕ → Scope → List ℕ → Result Scope Fault
finished n s text = refuse (not (length text == 0)) (if nat_lt max_lines n then TooLong else UnknownWord)
    (refuse (length s.threads == 0 || length s.mutexes == 0) OutOfRange (Ok s))

-- these lines, the first of which is line n, after what the lines before it made
unfoldable pub lines_read : ℕ → Scope → List (List ℕ) → Result Scope ScriptFault
lines_read n s [] = Ok s
lines_read n s (text ∷ []) = met_at n (finished n s text)
lines_read n s (text ∷ next ∷ more) = met_at n (line_read n s text) >>= λ t. lines_read (n + 1) t (next ∷ more)

-- a text from its first line to its last
abbrev pub text_read : Mode → List ℕ → Result Scope ScriptFault
text_read k text = lines_read 1 (nothing k) (lines_of text)

-- the script that the bytes are, or their first fault
abbrev pub script_read : Mode → List ℕ → Result Scope ScriptFault
script_read k bytes = if nat_lt max_bytes (length bytes) then Err (fault_at 1 TooLong)
    else (if is_utf8 bytes then text_read k bytes else Err (fault_at (bad_line bytes) NotUtf8))
