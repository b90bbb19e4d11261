-- The words of a line, beside its mark: in pieces.
use Rattle.std.specs.Prelude.{ℕ, Bool, true, not, List, [], ◌∷◌, codes, Option, Some, None, if◌then◌else◌}
use Rattle.std.specs.Str.{bytes_eq}
use Rattle.lockword.specs.Replies.{reply_word}
use Rattle.posixmutex.specs.declared.point.Operation.{Operation}
use Rattle.posixmutex.specs.declared.point.Decision.{Decision}
use Rattle.posixmutex.specs.Words.{operation_word}
use Rattle.facts.specs.declared.fact.Queue.{Queue}
use Rattle.facts.specs.declared.fact.Queue.TheVariants.{Mutex, Condition}
use Rattle.facts.specs.declared.fact.Fact.{Fact}
use Rattle.facts.specs.declared.fact.Fact.TheVariants.{Begin, Point, Death, Sleep, Wake}
use Rattle.facts.specs.declared.fact.Fact.TheVariants.{Move, Return, Kill, Reap, Renew}
use Rattle.picture.specs.declared.lane.Lane.{Lane}
use Rattle.picture.specs.Lanes.{called}
use Rattle.picture.specs.Names.{Called, condition_head, condition_tail, mutex_head, mutex_tail}

-- the numbers in the words of a line: of its condition variable and its mutex, or of one of them; 0 where there is none
abbrev pub call_first : Option ℕ → ℕ → ℕ
call_first None m = m
call_first (Some k) m = k

abbrev pub call_second : Option ℕ → ℕ → ℕ
call_second None m = 0
call_second (Some k) m = m

abbrev pub queue_number : Queue → ℕ
queue_number (Mutex m) = m
queue_number (Condition k) = k

abbrev pub first_number : Fact → ℕ
first_number (Begin t c) = call_first c.condition c.mutex
first_number (Point d) = d.mutex
first_number (Death t m) = m
first_number (Sleep t q) = queue_number q
first_number (Move t m) = m
first_number f = 0

abbrev pub second_number : Fact → ℕ
second_number (Begin t c) = call_second c.condition c.mutex
second_number f = 0

-- a call begins: OP MUTEX, or OP CONDITION MUTEX on a condition variable
abbrev pub begin_words : Called → Option ℕ → Operation → ℕ → List (List ℕ)
begin_words n None op m = operation_word op ∷ codes " " ∷ mutex_head n m ∷ mutex_tail n m ∷ [] ∷ [] ∷ [] ∷ []
begin_words n (Some k) op m = operation_word op ∷ codes " " ∷ condition_head n k ∷ condition_tail n k ∷ codes " "
    ∷ mutex_head n m ∷ mutex_tail n m ∷ []

-- whether an operation isn't that of the call
abbrev pub differs : Option Operation → Operation → Bool
differs None op = true
differs (Some call) op = not (bytes_eq (operation_word call) (operation_word op))

-- a point: MUTEX REPLY, and the operation between them where it isn't the call's
abbrev pub point_words : Called → Option Operation → Decision → List (List ℕ)
point_words n call d = if differs call d.operation
    then mutex_head n d.mutex ∷ mutex_tail n d.mutex ∷ codes " " ∷ operation_word d.operation ∷ codes " "
    ∷ reply_word d.reply ∷ [] ∷ []
    else mutex_head n d.mutex ∷ mutex_tail n d.mutex ∷ codes " " ∷ [] ∷ [] ∷ reply_word d.reply ∷ [] ∷ []

-- on a mutex, or on a condition variable
abbrev pub sleep_words : Called → Queue → List (List ℕ)
sleep_words n (Mutex m) = codes "on " ∷ mutex_head n m ∷ mutex_tail n m ∷ [] ∷ [] ∷ [] ∷ [] ∷ []
sleep_words n (Condition k) = codes "on " ∷ condition_head n k ∷ condition_tail n k ∷ [] ∷ [] ∷ [] ∷ [] ∷ []

-- the words of a line, whose lane shows this, with these names
abbrev pub words : Called → Lane → Fact → List (List ℕ)
words n lane (Begin t c) = begin_words n c.condition c.operation c.mutex
words n lane (Point d) = point_words n (called lane) d
words n lane (Death t m) = mutex_head n m ∷ mutex_tail n m ∷ codes " owner died" ∷ [] ∷ [] ∷ [] ∷ [] ∷ []
words n lane (Sleep t q) = sleep_words n q
words n lane (Wake t) = codes "woken" ∷ [] ∷ [] ∷ [] ∷ [] ∷ [] ∷ [] ∷ []
words n lane (Move t m) = codes "to " ∷ mutex_head n m ∷ mutex_tail n m ∷ [] ∷ [] ∷ [] ∷ [] ∷ []
words n lane (Return t x) = reply_word x ∷ [] ∷ [] ∷ [] ∷ [] ∷ [] ∷ [] ∷ []
words n lane (Kill t) = codes "killed" ∷ [] ∷ [] ∷ [] ∷ [] ∷ [] ∷ [] ∷ []
words n lane (Reap t) = codes "reaped" ∷ [] ∷ [] ∷ [] ∷ [] ∷ [] ∷ [] ∷ []
words n lane (Renew t) = codes "renewed" ∷ [] ∷ [] ∷ [] ∷ [] ∷ [] ∷ [] ∷ []
