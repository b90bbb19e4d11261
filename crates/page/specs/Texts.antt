-- How the data of a page is written: an array as JSON has it, its elements on a line each (RFC 8259).
--
-- *The data of a page.* The names; then the items of the lines that are shown, in their order; then how the trace ends.
-- What is not there is 0; true is 1 and false 0. Lists of things have a word in front.
use Rattle.std.specs.Prelude.{ℕ, Bool, true, false, Option, Some, None, List, [], ◌∷◌, ◌++◌, map, codes, decimal}
use Rattle.std.specs.List.{concat}
use Rattle.lockword.specs.Replies.{reply_word}
use Rattle.posixmutex.specs.declared.object.Object.{Object}
use Rattle.posixmutex.specs.Words.{operation_word}
use Rattle.facts.specs.declared.fact.Begun.{Begun}
use Rattle.facts.specs.declared.fact.Queue.{Queue}
use Rattle.facts.specs.declared.fact.Queue.TheVariants as queue
use Rattle.facts.specs.declared.fact.Fact.{Fact}
use Rattle.facts.specs.declared.fact.Fact.TheVariants.{Begin, Point, Death, Sleep, Wake}
use Rattle.facts.specs.declared.fact.Fact.TheVariants.{Move, Return, Kill, Reap, Renew}
use Rattle.facts.specs.declared.fact.Line.{Line}
use Rattle.facts.specs.Facts.{thread_of}
use Rattle.facts.specs.Lives.{Act}
use Rattle.page.specs.declared.status.Bed.{Bed}
use Rattle.page.specs.declared.status.Status.{Status}
use Rattle.page.specs.Shows.{Item, Whole, Turn}
use Rattle.page.specs.States.{Change, Mutex, Shown}

-- ---- parts of a line

abbrev pub flag : Bool → List ℕ
flag true = codes "1"
flag false = codes "0"

abbrev pub queue_letter : Queue → List ℕ
queue_letter (queue.Mutex m) = codes "\"m\","
queue_letter (queue.Condition c) = codes "\"c\","

abbrev pub queue_number : Queue → ℕ
queue_number (queue.Mutex m) = m
queue_number (queue.Condition c) = c

-- a letter and a number
abbrev pub queue_text : Queue → List ℕ
queue_text q = queue_letter q ++ decimal (queue_number q)

-- an operation, its mutex, and its condition variable where there is one
abbrev pub condition_text : Option ℕ → List ℕ
condition_text None = []
condition_text (Some c) = codes "," ++ decimal c

abbrev pub begun_text : Begun → List ℕ
begun_text k =
    concat (codes "\"" ∷ operation_word k.operation ∷ codes "\"," ∷ decimal k.mutex ∷ []) ++ condition_text k.condition

abbrev pub act_text : Act → List ℕ
act_text a = concat (codes "\"" ∷ operation_word a.0 ∷ codes "\",\"" ∷ reply_word a.1 ∷ codes "\"" ∷ [])

-- ---- what a thread does: its life, whether it was killed and reaped, its call, that call's newest point, and where it
-- sleeps, since which line

abbrev pub call_text : Option Begun → List ℕ
call_text None = codes "0,"
call_text (Some k) = codes "[" ++ (begun_text k ++ codes "],")

abbrev pub point_text : Option Act → List ℕ
point_text None = codes "0,"
point_text (Some a) = codes "[" ++ (act_text a ++ codes "],")

abbrev pub bed_text : Option Bed → List ℕ
bed_text None = codes "0"
bed_text (Some b) = codes "[" ++ (queue_text b.queue ++ concat (codes "," ∷ decimal b.line ∷ codes "]" ∷ []))

abbrev pub marks_text : Status → List ℕ
marks_text s = concat
    (codes "[" ∷ decimal s.life ∷ codes "," ∷ flag s.killed ∷ codes "," ∷ flag s.reaped ∷ codes "," ∷ [])

abbrev pub status_text : Status → List ℕ
status_text s =
    marks_text s ++ (call_text s.call ++ (point_text s.point ++ (bed_text s.bed ++ codes "]")))

-- ---- what a mutex is: its owner, 0 where there is none, whether it is inconsistent, and whether it is unusable

abbrev pub owner_text : Option ℕ → List ℕ
owner_text None = codes "[0,"
owner_text (Some t) = codes "[" ++ (decimal t ++ codes ",")

abbrev pub object_text : Object → List ℕ
object_text o = owner_text o.owner ++ concat (flag o.inconsistent ∷ codes "," ∷ flag o.unusable ∷ codes "]" ∷ [])

-- ---- what a line tells

-- a word, and the number of its thread
abbrev pub told : List ℕ → ℕ → List ℕ
told word t = concat (codes "[\"" ∷ word ∷ codes "\"," ∷ decimal t ∷ [])

abbrev pub word_of : Fact → List ℕ
word_of (Begin t k) = codes "begin"
word_of (Point d) = codes "point"
word_of (Death t m) = codes "death"
word_of (Sleep t q) = codes "sleep"
word_of (Wake t) = codes "wake"
word_of (Move t m) = codes "move"
word_of (Return t x) = codes "return"
word_of (Kill t) = codes "kill"
word_of (Reap t) = codes "reaped"
word_of (Renew t) = codes "renew"

-- what else it names
abbrev pub rest_of : Fact → List ℕ
rest_of (Begin t k) = codes "," ++ begun_text k
rest_of (Point d) = concat (codes "," ∷ decimal d.mutex ∷ codes "," ∷ []) ++ act_text (d.operation, d.reply)
rest_of (Death t m) = codes "," ++ decimal m
rest_of (Sleep t q) = codes "," ++ queue_text q
rest_of (Wake t) = []
rest_of (Move t m) = codes "," ++ queue_text (queue.Mutex m)
rest_of (Return t x) = concat (codes ",\"" ∷ reply_word x ∷ codes "\"" ∷ [])
rest_of (Kill t) = []
rest_of (Reap t) = []
rest_of (Renew t) = []

-- ---- items, each on a line of its own

-- a thing after others
abbrev pub status_behind : Status → List ℕ
status_behind s = codes "," ++ status_text s

abbrev pub object_behind : Object → List ℕ
object_behind o = codes "," ++ object_text o

abbrev pub threads_text : List Status → List ℕ
threads_text ss = codes "[[\"threads\"" ++ concat (map status_behind ss)

abbrev pub mutexes_text : List Object → List ℕ
mutexes_text os = codes "],[\"mutexes\"" ++ (concat (map object_behind os) ++ codes "]],\n")

abbrev pub whole_text : Shown → List ℕ
whole_text s = threads_text s.threads ++ mutexes_text s.mutexes

abbrev pub mutex_text : Option Mutex → List ℕ
mutex_text None = codes "],\n"
mutex_text (Some m) = object_behind m.object ++ codes "],\n"

-- its event and what it tells
abbrev pub line_text : Line → List ℕ
line_text e = concat (codes "[" ∷ decimal e.event ∷ codes "," ∷ [])
    ++ (told (word_of e.fact) (thread_of e.fact) ++ (rest_of e.fact ++ codes "],"))

-- and what its thread does now, and what its mutex is now
abbrev pub turn_text : Line → Change → List ℕ
turn_text e c = line_text e ++ (status_text c.status ++ mutex_text c.mutex)

abbrev pub item_text : Item → List ℕ
item_text (Whole s) = whole_text s
item_text (Turn e c) = turn_text e c

abbrev pub items_text : List Item → List ℕ
items_text is = concat (map item_text is)
