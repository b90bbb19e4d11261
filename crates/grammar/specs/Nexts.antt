-- How a line goes on after each of its words.
use Rattle.std.specs.Prelude.{ℕ, Bool, true, false, ◌||◌, List, Option, Some}
use Rattle.std.specs.Prelude.{None, option_and_then, if◌then◌else◌, codes}
use Rattle.std.specs.Option.{is_some}
use Rattle.std.specs.Str.{bytes_eq}
use Rattle.lines.specs.Numbers.{is_number}
use Rattle.lockword.specs.Replies.{reply_of}
use Rattle.posixmutex.specs.declared.point.Operation.TheVariants as op
use Rattle.posixmutex.specs.declared.point.Operation.{Operation as Op}
use Rattle.posixmutex.specs.Words.{operation_of}
use Rattle.script.specs.declared.command.Mode.{Mode}
use Rattle.script.specs.declared.command.Mode.TheVariants as mode
use Rattle.script.specs.Forms.{is_name, is_stem}
use Rattle.verdict.specs.Forms.{call_operation, numbered}
use Rattle.grammar.specs.declared.next.Next.{Next}
use Rattle.grammar.specs.declared.next.Next.TheVariants.{End, Keyword, Name, NewThread, ProcessOrEnd}
use Rattle.grammar.specs.declared.next.Next.TheVariants.{NameNumber, NameNameNumber, NameName, StemNumber, Number}
use Rattle.grammar.specs.declared.next.Next.TheVariants.{NameCall, Call, Head, ThreeNumbers, TwoNumbers, Event}
use Rattle.grammar.specs.declared.next.Next.TheVariants.{Deed, Thread, ThreadMutex, ThreadPlace, ThreadReply}
use Rattle.grammar.specs.declared.next.Next.TheVariants.{ThreadCall, ThreadPoint, Mutex, Place, Reply}
use Rattle.grammar.specs.declared.next.Next.TheVariants.{Operation, ConditionMutex, MutexCallReply, CallReply}

-- ---- the words

-- a letter and a number, as traces write threads, mutexes and condition variables
abbrev pub is_lettered : ℕ → List ℕ → Bool
is_lettered letter w = is_some (numbered letter w)

-- the word of a call, as traces tell them
abbrev pub is_call : List ℕ → Bool
is_call w = is_some (call_operation w)

-- the calls that scripts make: that a mutex was reinitialised is reported as a call, but scripts have it as an event
abbrev pub scripted : Op → Option Op
scripted op.Death = None
scripted op.Reinit = None
scripted o = Some o

abbrev pub is_scripted : List ℕ → Bool
is_scripted w = is_some (option_and_then scripted (operation_of w))

abbrev pub is_reply : List ℕ → Bool
is_reply w = is_some (reply_of w)

-- those that scripts of a mode make: time limits are the machine's
abbrev pub timed : Mode → Op → Option Op
timed mode.Run o = Some o
timed mode.Threads o = None

abbrev pub made : Mode → Op → Option Op
made k op.TimedLock = timed k op.TimedLock
made k op.TimedWait = timed k op.TimedWait
made k o = scripted o

abbrev pub is_made : Mode → List ℕ → Bool
is_made k w = is_some (option_and_then (made k) (operation_of w))

-- what follows a word that fits
abbrev pub fitting : Bool → Next → Option Next
fitting fits next = if fits then Some next else None

-- ---- scripts

-- after the first word of a line that scripts of both modes have
abbrev pub shared : Mode → List ℕ → Option Next
shared k w = if bytes_eq w (codes "process") then Some NameNumber
    else (if bytes_eq w (codes "thread") then Some NewThread
    else (if bytes_eq w (codes "mutex") then Some Name
    else (if bytes_eq w (codes "mutexes") then Some StemNumber
    else (if bytes_eq w (codes "cond") then Some NameNameNumber
    else (if bytes_eq w (codes "call") then Some (NameCall k) else None)))))

-- that only scripts for the machine have: its events
abbrev pub of_run : List ℕ → Option Next
of_run w = if bytes_eq w (codes "begin") then Some (NameCall mode.Run)
    else (if bytes_eq w (codes "step") then Some NameNumber
    else (if bytes_eq w (codes "kill") then Some Name
    else (if bytes_eq w (codes "killall") then Some Name
    else (if bytes_eq w (codes "renew") then Some Name
    else (if bytes_eq w (codes "remake") then Some NameName
    else (if bytes_eq w (codes "leave") then Some Name
    else (if bytes_eq w (codes "expire") then Some Name
    else (if bytes_eq w (codes "decline") then Some Name
    else (if bytes_eq w (codes "spare") then Some Name
    else (if bytes_eq w (codes "go") then Some Name
    else (if bytes_eq w (codes "locks") then Some NameNameNumber else None)))))))))))

-- that only scripts for real threads have
abbrev pub of_threads : List ℕ → Option Next
of_threads w = if bytes_eq w (codes "phase") then Some End
    else (if bytes_eq w (codes "die") then Some NameNumber else None)

-- that scripts of one mode have and those of the other don't
abbrev pub alone : Mode → List ℕ → Option Next
alone mode.Run w = of_run w
alone mode.Threads w = of_threads w

-- the first that there is
abbrev pub or_else : Option Next → Option Next → Option Next
or_else (Some n) o = Some n
or_else None o = o

abbrev pub keyword : Mode → List ℕ → Option Next
keyword k w = or_else (shared k w) (alone k w)

-- ---- traces

-- after the word of what an event did
abbrev pub deed : List ℕ → Option Next
deed w = if bytes_eq w (codes "begin") then Some ThreadCall
    else (if bytes_eq w (codes "kill") then Some Thread
    else (if bytes_eq w (codes "point") then Some ThreadPoint
    else (if bytes_eq w (codes "death") then Some ThreadMutex
    else (if bytes_eq w (codes "sleep") then Some ThreadPlace
    else (if bytes_eq w (codes "wake") then Some Thread
    else (if bytes_eq w (codes "move") then Some ThreadMutex
    else (if bytes_eq w (codes "return") then Some ThreadReply
    else (if bytes_eq w (codes "reaped") then Some Thread
    else (if bytes_eq w (codes "renew") then Some Thread else None)))))))))

-- after the word of a call that begins
abbrev pub made_on : Op → Option Next
made_on op.Lock = Some Mutex
made_on op.TryLock = Some Mutex
made_on op.TimedLock = Some Mutex
made_on op.Unlock = Some Mutex
made_on op.Consistent = Some Mutex
made_on op.Reinit = Some Mutex
made_on op.Wait = Some ConditionMutex
made_on op.TimedWait = Some ConditionMutex
made_on op.Signal = Some ConditionMutex
made_on op.Broadcast = Some ConditionMutex
made_on op.Death = None

abbrev pub operation : List ℕ → Option Next
operation w = option_and_then made_on (operation_of w)

-- after the first word of an event's line, or of the last one
abbrev pub event : List ℕ → Option Next
event w = if bytes_eq w (codes "end") then Some Number else fitting (is_number w) Deed

-- ---- all of them

-- what has to come after this word
abbrev pub after : Next → List ℕ → Option Next
after End w = None
after (Keyword k) w = keyword k w
after Name w = fitting (is_name w) End
after NewThread w = fitting (is_name w) ProcessOrEnd
after ProcessOrEnd w = fitting (is_name w) End
after NameNumber w = fitting (is_name w) Number
after NameNameNumber w = fitting (is_name w) NameNumber
after NameName w = fitting (is_name w) Name
after StemNumber w = fitting (is_stem w) Number
after Number w = fitting (is_number w) End
after (NameCall k) w = fitting (is_name w) (Call k)
after (Call k) w = fitting (is_made k w) Name
after Head w = fitting (bytes_eq w (codes "trace")) ThreeNumbers
after ThreeNumbers w = fitting (is_number w) TwoNumbers
after TwoNumbers w = fitting (is_number w) Number
after Event w = event w
after Deed w = deed w
after Thread w = fitting (is_lettered 116 w) End
after ThreadMutex w = fitting (is_lettered 116 w) Mutex
after ThreadPlace w = fitting (is_lettered 116 w) Place
after ThreadReply w = fitting (is_lettered 116 w) Reply
after ThreadCall w = fitting (is_lettered 116 w) Operation
after ThreadPoint w = fitting (is_lettered 116 w) MutexCallReply
after Mutex w = fitting (is_lettered 109 w) End
after Place w = fitting (is_lettered 109 w || is_lettered 99 w) End
after Reply w = fitting (is_reply w) End
after Operation w = operation w
after ConditionMutex w = fitting (is_lettered 99 w) Mutex
after MutexCallReply w = fitting (is_lettered 109 w) CallReply
after CallReply w = fitting (is_call w) Reply

-- a line may end here
abbrev pub is_over : Next → Bool
is_over End = true
is_over ProcessOrEnd = true
is_over n = false

-- the mode whose scripts alone have lines with this first word
abbrev pub mode_of_word : List ℕ → Option Mode
mode_of_word w =
    if is_some (of_run w) then Some mode.Run else (if is_some (of_threads w) then Some mode.Threads else None)
