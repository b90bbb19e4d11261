-- Words, one after the other, through the table of what comes after what.
use Rattle.std.proofs.Common.{◌≡◌, ℕ, Bool, true, false, List, [], ◌∷◌, ◌++◌, Option, Some, None, option_and_then, refl}
use Rattle.std.specs.Prelude.{codes}
use Rattle.lockword.specs.Replies.{reply_of}
use Rattle.posixmutex.specs.Words.{operation_of}
use Rattle.grammar.specs.declared.next.Next.{Next}
use Rattle.grammar.specs.declared.next.Next.TheVariants.{End, Keyword, Name, NewThread, ProcessOrEnd, NameNumber, NameNameNumber, NameName, StemNumber, Number, NameCall, Call, Head, ThreeNumbers, TwoNumbers, Event, Deed, Thread, ThreadMutex, ThreadPlace, ThreadReply, ThreadCall, ThreadPoint, Mutex, Place, Reply, Operation, ConditionMutex, MutexCallReply, CallReply}
use Rattle.grammar.specs.Nexts.{after, is_over}

-- what has to come after these words
abbrev pub run : Next → List (List ℕ) → Option Next
run n [] = Some n
run n (w ∷ ws) = option_and_then (λ m. run m ws) (after n w)

-- a line may end there
abbrev pub ends : Option Next → Bool
ends None = false
ends (Some n) = is_over n

onward : (xs ys : List (List ℕ)) (o : Option Next) → ((m : Next) → run m (xs ++ ys) ≡ option_and_then (λ q. run q ys) (run m xs)) → option_and_then (λ m. run m (xs ++ ys)) o ≡ option_and_then (λ m. run m ys) (option_and_then (λ m. run m xs) o)
onward xs ys None h = refl
onward xs ys (Some m) h = h m

-- first these words and then those
pub run-append : (n : Next) (xs ys : List (List ℕ)) → run n (xs ++ ys) ≡ option_and_then (λ m. run m ys) (run n xs)
run-append n [] ys = refl
run-append n (x ∷ xs) ys = onward xs ys (after n x) (λ m. run-append m xs ys)

-- words with which a line may end
abbrev pub finish : Next → List (List ℕ)
finish End = []
finish (Keyword k) = codes "thread" ∷ codes "a" ∷ []
finish Name = codes "a" ∷ []
finish NewThread = codes "a" ∷ []
finish ProcessOrEnd = []
finish NameNumber = codes "a" ∷ codes "1" ∷ []
finish NameNameNumber = codes "a" ∷ codes "a" ∷ codes "1" ∷ []
finish NameName = codes "a" ∷ codes "a" ∷ []
finish StemNumber = codes "a" ∷ codes "1" ∷ []
finish Number = codes "1" ∷ []
finish (NameCall k) = codes "a" ∷ codes "lock" ∷ codes "a" ∷ []
finish (Call k) = codes "lock" ∷ codes "a" ∷ []
finish Head = codes "trace" ∷ codes "1" ∷ codes "1" ∷ codes "1" ∷ []
finish ThreeNumbers = codes "1" ∷ codes "1" ∷ codes "1" ∷ []
finish TwoNumbers = codes "1" ∷ codes "1" ∷ []
finish Event = codes "end" ∷ codes "1" ∷ []
finish Deed = codes "kill" ∷ codes "t1" ∷ []
finish Thread = codes "t1" ∷ []
finish ThreadMutex = codes "t1" ∷ codes "m0" ∷ []
finish ThreadPlace = codes "t1" ∷ codes "m0" ∷ []
finish ThreadReply = codes "t1" ∷ codes "OK" ∷ []
finish ThreadCall = codes "t1" ∷ codes "lock" ∷ codes "m0" ∷ []
finish ThreadPoint = codes "t1" ∷ codes "m0" ∷ codes "lock" ∷ codes "OK" ∷ []
finish Mutex = codes "m0" ∷ []
finish Place = codes "m0" ∷ []
finish Reply = codes "OK" ∷ []
finish Operation = codes "lock" ∷ codes "m0" ∷ []
finish ConditionMutex = codes "c0" ∷ codes "m0" ∷ []
finish MutexCallReply = codes "m0" ∷ codes "lock" ∷ codes "OK" ∷ []
finish CallReply = codes "lock" ∷ codes "OK" ∷ []

pub finishes : (n : Next) → ends (run n (finish n)) ≡ true
unfolding operation_of reply_of
finishes End = refl
finishes (Keyword k) = refl
finishes Name = refl
finishes NewThread = refl
finishes ProcessOrEnd = refl
finishes NameNumber = refl
finishes NameNameNumber = refl
finishes NameName = refl
finishes StemNumber = refl
finishes Number = refl
finishes (NameCall k) = refl
finishes (Call k) = refl
finishes Head = refl
finishes ThreeNumbers = refl
finishes TwoNumbers = refl
finishes Event = refl
finishes Deed = refl
finishes Thread = refl
finishes ThreadMutex = refl
finishes ThreadPlace = refl
finishes ThreadReply = refl
finishes ThreadCall = refl
finishes ThreadPoint = refl
finishes Mutex = refl
finishes Place = refl
finishes Reply = refl
finishes Operation = refl
finishes ConditionMutex = refl
finishes MutexCallReply = refl
finishes CallReply = refl
