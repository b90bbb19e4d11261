-- The words of what is said.
use Rattle.std.specs.Prelude.{ℕ, ◌==◌, List, codes, if◌then◌else◌}
use Rattle.script.specs.declared.command.Mode.{Mode}
use Rattle.script.specs.declared.command.Mode.TheVariants.{Run, Threads}
use Rattle.grammar.specs.declared.next.Next.{Next}
use Rattle.grammar.specs.declared.next.Next.TheVariants as next
use Rattle.explain.specs.declared.explanation.Lack.{Lack}
use Rattle.explain.specs.declared.explanation.Lack.TheVariants as lack
use Rattle.explain.specs.declared.explanation.Looks.{Looks}
use Rattle.explain.specs.declared.explanation.Looks.TheVariants as looks
use Rattle.explain.specs.declared.explanation.Things.{Things}
use Rattle.explain.specs.declared.explanation.Things.TheVariants as things

abbrev pub mode_words : Mode → List ℕ
mode_words Run = codes "`rfx run`"
mode_words Threads = codes "`rfx threads`"

abbrev pub things_words : Things → List ℕ
things_words things.Processes = codes "process"
things_words things.Threads = codes "thread"
things_words things.Mutexes = codes "mutex"
things_words things.Conditions = codes "condition variable"

-- as many of them
abbrev pub many_words : ℕ → Things → List ℕ
many_words n things.Processes = if n == 1 then codes " process" else codes " processes"
many_words n things.Threads = if n == 1 then codes " thread" else codes " threads"
many_words n things.Mutexes = if n == 1 then codes " mutex" else codes " mutexes"
many_words n things.Conditions = if n == 1 then codes " condition variable" else codes " condition variables"

-- what a line lacks
abbrev pub lack_words : Lack → List ℕ
lack_words (lack.Name things.Processes) = codes "the name of a process"
lack_words (lack.Name things.Threads) = codes "the name of a thread"
lack_words (lack.Name things.Mutexes) = codes "the name of a mutex"
lack_words (lack.Name things.Conditions) = codes "the name of a condition variable"
lack_words (lack.Count things.Processes) = codes "how many processes"
lack_words (lack.Count things.Threads) = codes "how many threads"
lack_words (lack.Count things.Mutexes) = codes "how many mutexes"
lack_words (lack.Count things.Conditions) = codes "how many condition variables"
lack_words lack.Base = codes "at which address the process maps the words"
lack_words lack.Counter = codes "what the counter begins with"
lack_words lack.Accesses = codes "how many accesses"
lack_words lack.Death = codes "before which access the thread dies"
lack_words lack.Events = codes "how many events"

abbrev pub looks_words : Looks → List ℕ
looks_words looks.Utf16 = codes "it begins as UTF-16 does: save it as UTF-8"
looks_words looks.Binary = codes "it has a byte 0, which no text has"
looks_words looks.Latin1 = codes "it may be Latin-1, or the like: save it as UTF-8"

abbrev pub a_name : List ℕ
a_name = codes "a name: 1 to 16 of a to z, 0 to 9 and _, the first a letter"

abbrev pub a_thread : List ℕ
a_thread = codes "a thread, such as t1"

abbrev pub a_number : List ℕ
a_number = codes "a number: decimal digits without leading zeros"

-- what a word has to be; where it may be one of a few, these follow
abbrev pub expected_words : Next → List ℕ
expected_words next.End = codes "the end of the line"
expected_words (next.Keyword k) = codes "one of"
expected_words next.Name = a_name
expected_words next.NewThread = a_name
expected_words next.ProcessOrEnd = codes "the name of a process, or the end of the line"
expected_words next.NameNumber = a_name
expected_words next.NameNameNumber = a_name
expected_words next.NameName = a_name
expected_words next.StemNumber = codes "a name: 1 to 12 of a to z, 0 to 9 and _, the first a letter"
expected_words next.Number = a_number
expected_words (next.NameCall k) = a_name
expected_words (next.Call k) = codes "one of"
expected_words next.Head = codes "one of"
expected_words next.ThreeNumbers = a_number
expected_words next.TwoNumbers = a_number
expected_words next.Event = codes "the number of an event, or"
expected_words next.Deed = codes "one of"
expected_words next.Thread = a_thread
expected_words next.ThreadMutex = a_thread
expected_words next.ThreadPlace = a_thread
expected_words next.ThreadReply = a_thread
expected_words next.ThreadCall = a_thread
expected_words next.ThreadPoint = a_thread
expected_words next.Mutex = codes "a mutex, such as m0"
expected_words next.Place = codes "a mutex or a condition variable, such as m0 or c0"
expected_words next.Reply = codes "one of"
expected_words next.Operation = codes "one of"
expected_words next.ConditionMutex = codes "a condition variable, such as c0"
expected_words next.MutexCallReply = codes "a mutex, such as m0"
expected_words next.CallReply = codes "one of"
