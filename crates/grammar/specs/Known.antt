-- The words that may be at a place.
use Rattle.std.specs.Prelude.{ℕ, List, [], ◌∷◌, map, codes}
use Rattle.posixmutex.specs.declared.point.Operation.TheVariants.{Lock, TryLock, TimedLock, Unlock, Consistent}
use Rattle.posixmutex.specs.declared.point.Operation.TheVariants.{Wait, TimedWait, Signal, Broadcast, Reinit}
use Rattle.posixmutex.specs.Words.{operation_word}
use Rattle.lockword.specs.Replies.{all_replies, reply_word}
use Rattle.script.specs.declared.command.Mode.{Mode}
use Rattle.script.specs.declared.command.Mode.TheVariants.{Run, Threads}
use Rattle.grammar.specs.declared.next.Next.{Next}
use Rattle.grammar.specs.declared.next.Next.TheVariants.{Keyword, Call, Head, Event, Deed, Reply, Operation, CallReply}

-- the words of the calls that scripts make: those with a time limit are for the machine
abbrev pub call_words : Mode → List (List ℕ)
call_words Run =
    map operation_word (Lock ∷ TryLock ∷ TimedLock ∷ Unlock ∷ Consistent ∷ Wait ∷ TimedWait ∷ Signal ∷ Broadcast ∷ [])
call_words Threads = map operation_word (Lock ∷ TryLock ∷ Unlock ∷ Consistent ∷ Wait ∷ Signal ∷ Broadcast ∷ [])

-- and of those that traces tell
abbrev pub told_words : List (List ℕ)
told_words =
    map operation_word
    (Lock ∷ TryLock ∷ TimedLock ∷ Unlock ∷ Consistent ∷ Wait ∷ TimedWait ∷ Signal ∷ Broadcast ∷ Reinit ∷ [])

abbrev pub reply_words : List (List ℕ)
reply_words = map reply_word all_replies

-- of a script's lines, those first that scripts of both modes have
abbrev pub keywords : Mode → List (List ℕ)
keywords Run = codes "process" ∷ codes "thread" ∷ codes "mutex" ∷ codes "mutexes" ∷ codes "cond" ∷ codes "call"
    ∷ codes "begin" ∷ codes "step" ∷ codes "kill" ∷ codes "killall" ∷ codes "renew" ∷ codes "remake"
    ∷ codes "leave" ∷ codes "expire" ∷ codes "decline" ∷ codes "spare"
    ∷ codes "go" ∷ codes "locks" ∷ []
keywords Threads = codes "process" ∷ codes "thread" ∷ codes "mutex" ∷ codes "mutexes" ∷ codes "cond" ∷ codes "call"
    ∷ codes "phase" ∷ codes "die" ∷ []

-- of what events do
abbrev pub deeds : List (List ℕ)
deeds = codes "begin" ∷ codes "kill" ∷ codes "point" ∷ codes "death" ∷ codes "sleep" ∷ codes "wake" ∷ codes "move"
    ∷ codes "return" ∷ codes "reaped" ∷ codes "renew" ∷ []

-- the words that can be there, except for names, numbers, and numbers after a letter
abbrev pub known_words : Next → List (List ℕ)
known_words (Keyword k) = keywords k
known_words Head = codes "trace" ∷ []
known_words Event = codes "end" ∷ []
known_words Deed = deeds
known_words (Call k) = call_words k
known_words Operation = told_words
known_words CallReply = told_words
known_words Reply = reply_words
known_words n = []
