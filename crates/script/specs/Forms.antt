-- Lines, words, names and numbers, and the kinds of line.
--
-- *Lines, words, names and numbers.* Lines end with a line feed, words are parted by one space, a name is 1 to 16 of a
-- to z, 0 to 9 and `_`, a letter first, and a number has no sign and no leading zero.
use Rattle.std.specs.Prelude.{ℕ, Bool, true, false, not, ◌&&◌, ◌||◌, ◌==◌, nat_le, nat_lt, List, []}
use Rattle.std.specs.Prelude.{◌∷◌, length, Option, Some, None, option_and_then, if◌then◌else◌, codes}
use Rattle.lines.specs.Lines.{words_of}
use Rattle.lines.specs.Numbers.{is_number, within}
use Rattle.std.specs.List.{list_all}
use Rattle.std.specs.Str.{bytes_eq}
use Rattle.std.specs.Char.{is_ascii_digit}
use Rattle.std.specs.Str.Parse.{digits_value}
use Rattle.posixmutex.specs.declared.point.Operation.{Operation}
use Rattle.posixmutex.specs.declared.point.Operation.TheVariants.{Lock, TryLock, TimedLock, Unlock, Consistent}
use Rattle.posixmutex.specs.declared.point.Operation.TheVariants.{Wait, TimedWait, Signal, Broadcast, Death, Reinit}
use Rattle.posixmutex.specs.Words.{operation_of}
use Rattle.script.specs.declared.command.Mode.{Mode}
use Rattle.script.specs.declared.command.Mode.TheVariants as mode
use Rattle.script.specs.Limits.{max_name, max_stem, max_steps, max_access, max_mutexes, max_counter, max_base}

-- a to z
abbrev pub is_letter : ℕ → Bool
is_letter b = nat_le 97 b && nat_le b 122

-- a to z, 0 to 9 and _
abbrev pub is_name_byte : ℕ → Bool
is_name_byte b = is_letter b || is_ascii_digit b || b == 95

-- the spelling of a name: few enough of these bytes, the first a letter
abbrev pub is_name : List ℕ → Bool
is_name [] = false
is_name (b ∷ bs) = is_letter b && nat_lt (length bs) max_name && list_all is_name_byte bs

-- a call as a line spells it, with the name of its mutex or of its condition variable
pub data CallForm : Type 0 where
  lock : List ℕ → CallForm
  trylock : List ℕ → CallForm
  timedlock : List ℕ → CallForm
  unlock : List ℕ → CallForm
  consistent : List ℕ → CallForm
  wait : List ℕ → CallForm
  timedwait : List ℕ → CallForm
  signal : List ℕ → CallForm
  broadcast : List ℕ → CallForm

-- the form of a line: its words are of the right kinds; a count out of its range is None
pub data Form : Type 0 where
  silent : Form
  process : List ℕ → Option ℕ → Form
  thread : List ℕ → Form
  member : List ℕ → List ℕ → Form
  mutex : List ℕ → Form
  mutexes : List ℕ → Option ℕ → Form
  cond : List ℕ → List ℕ → Option ℕ → Form
  begins : List ℕ → CallForm → Form
  steps : List ℕ → Option ℕ → Form
  kills : List ℕ → Form
  kills_all : List ℕ → Form
  goes : List ℕ → Form
  leaves : List ℕ → Form
  declines : List ℕ → Form
  expires : List ℕ → Form
  renews : List ℕ → Form
  remakes : List ℕ → List ℕ → Form
  spares : List ℕ → Form
  calls : List ℕ → CallForm → Form
  locks : List ℕ → List ℕ → Option ℕ → Form
  phase : Form
  dies : List ℕ → Option ℕ → Form

-- an empty line or a comment
abbrev pub is_silent : List ℕ → Bool
is_silent [] = true
is_silent (b ∷ bs) = b == 35

-- `thread NAME` and `mutex NAME`, `kill T`, `killall PROCESS`, `go T`, `leave T`, `decline T` and `renew T`;
-- `spare T` and `expire T`
abbrev pub name_form : List ℕ → List ℕ → Option Form
name_form w a = if not (is_name a) then None
    else (if bytes_eq w (codes "thread") then Some (thread a)
    else (if bytes_eq w (codes "mutex") then Some (mutex a)
    else (if bytes_eq w (codes "kill") then Some (kills a)
    else (if bytes_eq w (codes "killall") then Some (kills_all a)
    else (if bytes_eq w (codes "go") then Some (goes a)
    else (if bytes_eq w (codes "leave") then Some (leaves a)
    else (if bytes_eq w (codes "decline") then Some (declines a)
    else (if bytes_eq w (codes "renew") then Some (renews a)
    else (if bytes_eq w (codes "spare") then Some (spares a)
    else (if bytes_eq w (codes "expire") then Some (expires a) else None))))))))))

-- `step T N`
abbrev pub step_form : List ℕ → List ℕ → List ℕ → Option Form
step_form w t n = if bytes_eq w (codes "step") && is_name t && is_number n
    then Some (steps t (within 1 max_steps (digits_value 10 n)))
    else None

-- `die T N`
abbrev pub die_form : List ℕ → List ℕ → List ℕ → Option Form
die_form w t n = if bytes_eq w (codes "die") && is_name t && is_number n
    then Some (dies t (within 1 max_access (digits_value 10 n)))
    else None

-- a name to which a number is added, which leaves it the spelling of a name
abbrev pub is_stem : List ℕ → Bool
is_stem a = is_name a && nat_le (length a) max_stem

-- `mutexes NAME N`
abbrev pub mutexes_form : List ℕ → List ℕ → List ℕ → Option Form
mutexes_form w a n = if bytes_eq w (codes "mutexes") && is_stem a && is_number n
    then Some (mutexes a (within 1 max_mutexes (digits_value 10 n)))
    else None

-- `process NAME BASE`
abbrev pub process_form : List ℕ → List ℕ → List ℕ → Option Form
process_form w p n = if bytes_eq w (codes "process") && is_name p && is_number n
    then Some (process p (within 0 max_base (digits_value 10 n)))
    else None

-- `thread NAME PROCESS`
abbrev pub member_form : List ℕ → List ℕ → List ℕ → Option Form
member_form w t p = if bytes_eq w (codes "thread") && is_name t && is_name p then Some (member t p) else None

-- `remake T M`
abbrev pub remake_form : List ℕ → List ℕ → List ℕ → Option Form
remake_form w t m = if bytes_eq w (codes "remake") && is_name t && is_name m then Some (remakes t m) else None

-- the first that there is
abbrev pub or_else : Option Form → Option Form → Option Form
or_else (Some f) o = Some f
or_else None o = o

-- `cond NAME M N`
abbrev pub cond_form : List ℕ → List ℕ → List ℕ → List ℕ → Option Form
cond_form w c m n = if bytes_eq w (codes "cond") && is_name c && is_name m && is_number n
    then Some (cond c m (within 0 max_counter (digits_value 10 n)))
    else None

-- the call of an operation, with this name; no call dies or reinitialises a mutex
abbrev pub call_on : List ℕ → Operation → Option CallForm
call_on m Lock = Some (lock m)
call_on m TryLock = Some (trylock m)
call_on m TimedLock = Some (timedlock m)
call_on m Unlock = Some (unlock m)
call_on m Consistent = Some (consistent m)
call_on m Wait = Some (wait m)
call_on m TimedWait = Some (timedwait m)
call_on m Signal = Some (signal m)
call_on m Broadcast = Some (broadcast m)
call_on m Death = None
call_on m Reinit = None

-- CALL: `lock M`, `trylock M`, `timedlock M`, `unlock M` and `consistent M`; `wait C`, `timedwait C`, `signal C` and
-- `broadcast C`
abbrev pub call_form : List ℕ → List ℕ → Option CallForm
call_form w m = if not (is_name m) then None else option_and_then (call_on m) (operation_of w)

-- `begin T CALL` and `call T CALL`
abbrev pub calling_form : List ℕ → List ℕ → CallForm → Option Form
calling_form w t c = if not (is_name t) then None
    else (if bytes_eq w (codes "begin") then Some (begins t c)
    else (if bytes_eq w (codes "call") then Some (calls t c) else None))

-- `locks T M N`
abbrev pub locks_form : List ℕ → List ℕ → List ℕ → List ℕ → Option Form
locks_form w t m n = if bytes_eq w (codes "locks") && is_name t && is_name m && is_number n
    then Some (locks t m (within 1 max_mutexes (digits_value 10 n)))
    else None

-- `phase`
abbrev pub phase_form : List ℕ → Option Form
phase_form w = if bytes_eq w (codes "phase") then Some phase else None

-- a declaration or a command, of whichever mode
abbrev pub words_form : List (List ℕ) → Option Form
words_form (w ∷ []) = phase_form w
words_form (w ∷ a ∷ []) = name_form w a
words_form (w ∷ a ∷ n ∷ []) = or_else (step_form w a n)
    (or_else (die_form w a n)
    (or_else (mutexes_form w a n)
    (or_else (process_form w a n)
    (or_else (member_form w a n) (remake_form w a n)))))
words_form (w ∷ t ∷ c ∷ m ∷ []) =
    or_else (locks_form w t c m) (or_else (cond_form w t c m) (option_and_then (calling_form w t) (call_form c m)))
words_form _ = None

-- a call that has no time limit
abbrev pub is_untimed : CallForm → Bool
is_untimed (timedlock m) = false
is_untimed (timedwait c) = false
is_untimed c = true

-- whether scripts of real threads have lines of this form: events are the machine's alone, and so are time limits
abbrev pub threads_have : Form → Bool
threads_have silent = true
threads_have (process p b) = true
threads_have (thread a) = true
threads_have (member a p) = true
threads_have (mutex a) = true
threads_have (mutexes a n) = true
threads_have (cond c m n) = true
threads_have (begins t c) = false
threads_have (steps t n) = false
threads_have (kills t) = false
threads_have (kills_all p) = false
threads_have (goes t) = false
threads_have (leaves t) = false
threads_have (declines t) = false
threads_have (expires t) = false
threads_have (renews t) = false
threads_have (remakes t m) = false
threads_have (spares t) = false
threads_have (calls t c) = is_untimed c
threads_have (locks t m n) = false
threads_have phase = true
threads_have (dies t n) = true

-- and those of a run: phases and deaths before an access are real threads' alone
abbrev pub run_has : Form → Bool
run_has phase = false
run_has (dies t n) = false
run_has f = true

-- whether scripts of a mode have lines of this form
abbrev pub has : Mode → Form → Bool
has mode.Run f = run_has f
has mode.Threads f = threads_have f

-- the form, where scripts of the mode have it
abbrev pub of_mode : Mode → Form → Option Form
of_mode k f = if has k f then Some f else None

-- what a line says, and None where it is no line of a script
abbrev pub form_of : Mode → List ℕ → Option Form
form_of k text = if is_silent text then Some silent else option_and_then (of_mode k) (words_form (words_of text))
