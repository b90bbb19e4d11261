-- The spelling of a trace: its words, numbers and kinds of line.
use Rattle.std.specs.Prelude.{ℕ, ◌==◌, List, [], ◌∷◌, Option, Some, None, if◌then◌else◌, codes}
use Rattle.std.specs.Str.{bytes_eq}
use Rattle.std.specs.Str.Parse.{digits_value}
use Rattle.lockword.specs.Replies.{reply_of}
use Rattle.lines.specs.Numbers.{is_number, within}
use Rattle.lines.specs.Lines.{words_of}
use Rattle.posixmutex.specs.declared.point.Operation.{Operation}
use Rattle.posixmutex.specs.declared.point.Operation.TheVariants.{Lock, TryLock, TimedLock, Unlock, Consistent}
use Rattle.posixmutex.specs.declared.point.Operation.TheVariants.{Wait, TimedWait, Signal, Broadcast, Death, Reinit}
use Rattle.posixmutex.specs.Words.{operation_of}
use Rattle.verdict.specs.declared.form.Said.{Said}
use Rattle.verdict.specs.declared.form.Said.TheVariants as said
use Rattle.verdict.specs.declared.form.Form.{Form}
use Rattle.verdict.specs.declared.form.Form.TheVariants.{Told, End}
use Rattle.verdict.specs.declared.form.HeadForm.{HeadForm}
use Rattle.verdict.specs.Limits.{max_events}

-- first one thing and then another, as `?` does
infixl 10 ◌>>=◌
abbrev pub ◌>>=◌ : {A B : Type 0} → Option A → (A → Option B) → Option B
(Some x) >>= f = f x
None >>= f = None

-- the number that a word spells; None inside where it is past every range
abbrev pub number_of : List ℕ → Option (Option ℕ)
number_of w = if is_number w then Some (within 0 max_events (digits_value 10 w)) else None

-- a letter and a number: `t1` is a thread, `m0` a mutex, `c0` a condition variable
abbrev pub numbered : ℕ → List ℕ → Option (Option ℕ)
numbered letter [] = None
numbered letter (b ∷ bs) = if b == letter then number_of bs else None

abbrev pub thread_word : List ℕ → Option (Option ℕ)
thread_word w = numbered 116 w

abbrev pub mutex_word : List ℕ → Option (Option ℕ)
mutex_word w = numbered 109 w

abbrev pub condition_word : List ℕ → Option (Option ℕ)
condition_word w = numbered 99 w

-- the calls on a mutex, of which a reinit is recorded as one
abbrev pub of_mutex : Operation → Option Operation
of_mutex Lock = Some Lock
of_mutex TryLock = Some TryLock
of_mutex TimedLock = Some TimedLock
of_mutex Unlock = Some Unlock
of_mutex Consistent = Some Consistent
of_mutex Reinit = Some Reinit
of_mutex op = None

abbrev pub mutex_operation : List ℕ → Option Operation
mutex_operation w = operation_of w >>= of_mutex

-- those on a condition variable
abbrev pub of_condition : Operation → Option Operation
of_condition Wait = Some Wait
of_condition TimedWait = Some TimedWait
of_condition Signal = Some Signal
of_condition Broadcast = Some Broadcast
of_condition op = None

abbrev pub condition_operation : List ℕ → Option Operation
condition_operation w = operation_of w >>= of_condition

-- any call: a death is none
abbrev pub of_call : Operation → Option Operation
of_call Death = None
of_call op = Some op

abbrev pub call_operation : List ℕ → Option Operation
call_operation w = operation_of w >>= of_call

-- `trace T M C`
abbrev pub head_form : List (List ℕ) → Option HeadForm
head_form (w ∷ t ∷ m ∷ c ∷ []) = if bytes_eq w (codes "trace")
    then
    (number_of t >>= λ threads.
    number_of m >>= λ mutexes.
    number_of c >>= λ conditions.
    Some (record { threads = threads; mutexes = mutexes; conditions = conditions }))
    else None
head_form _ = None

-- `end N`
abbrev pub end_form : List ℕ → List ℕ → Option Form
end_form w n = if bytes_eq w (codes "end") then (number_of n >>= λ i. Some (End i)) else None

-- `i kill tT`, `i wake tT`, `i reaped tT` and `i renew tT`
abbrev pub mark_form : List ℕ → List ℕ → List ℕ → Option Form
mark_form e w t = number_of e >>= λ i. thread_word t >>= λ u.
    if bytes_eq w (codes "kill") then Some (Told i (said.Kill u))
    else (if bytes_eq w (codes "wake") then Some (Told i (said.Wake u))
    else (if bytes_eq w (codes "reaped") then Some (Told i (said.Reap u))
    else (if bytes_eq w (codes "renew") then Some (Told i (said.Renew u)) else None)))

-- asleep on a mutex or on a condition variable
abbrev pub sleeps : Option ℕ → Option (Option ℕ) → Option (Option ℕ) → Option Said
sleeps u (Some m) c = Some (said.Sleep u m)
sleeps u None c = c >>= λ k. Some (said.SleepOn u k)

abbrev pub sleep_said : Option ℕ → List ℕ → Option Said
sleep_said u w = sleeps u (mutex_word w) (condition_word w)

-- `death tT mM`, `sleep tT Q`, `move tT mM` and `return tT REPLY`
abbrev pub object_said : List ℕ → Option ℕ → List ℕ → Option Said
object_said w u o = if bytes_eq w (codes "death") then (mutex_word o >>= λ m. Some (said.Death u m))
    else (if bytes_eq w (codes "sleep") then sleep_said u o
    else (if bytes_eq w (codes "move") then (mutex_word o >>= λ m. Some (said.Move u m))
    else (if bytes_eq w (codes "return") then (reply_of o >>= λ x. Some (said.Return u x)) else None)))

abbrev pub object_form : List ℕ → List ℕ → List ℕ → List ℕ → Option Form
object_form e w t o = number_of e >>= λ i. thread_word t >>= λ u. object_said w u o >>= λ s. Some (Told i s)

-- `i begin tT OP mM`
abbrev pub begin_form : List ℕ → List ℕ → List ℕ → List ℕ → List ℕ → Option Form
begin_form e w t a m =
    number_of e >>= λ i. thread_word t >>= λ u. mutex_operation a >>= λ operation. mutex_word m >>= λ mutex.
    if bytes_eq w (codes "begin") then Some (Told i (said.Begin u operation mutex)) else None

-- `begin tT OP cC mM`
abbrev pub begin_on_said : Option ℕ → List ℕ → List ℕ → List ℕ → Option Said
begin_on_said u a c m = condition_operation a >>= λ operation.
    condition_word c >>= λ condition.
    mutex_word m >>= λ mutex.
    Some (said.BeginOn u operation condition mutex)

-- `point tT mM OP REPLY`
abbrev pub point_said : Option ℕ → List ℕ → List ℕ → List ℕ → Option Said
point_said u m a x = mutex_word m >>= λ mutex.
    call_operation a >>= λ operation.
    reply_of x >>= λ reply.
    Some (said.Point u mutex operation reply)

abbrev pub many_form : List ℕ → List ℕ → List ℕ → List ℕ → List ℕ → List ℕ → Option Form
many_form e w t a b c = number_of e >>= λ i. thread_word t >>= λ u.
    if bytes_eq w (codes "begin") then (begin_on_said u a b c >>= λ s. Some (Told i s))
    else (if bytes_eq w (codes "point") then (point_said u a b c >>= λ s. Some (Told i s)) else None)

-- a line after the first, by its words
abbrev pub words_form : List (List ℕ) → Option Form
words_form (w ∷ n ∷ []) = end_form w n
words_form (e ∷ w ∷ t ∷ []) = mark_form e w t
words_form (e ∷ w ∷ t ∷ o ∷ []) = object_form e w t o
words_form (e ∷ w ∷ t ∷ a ∷ m ∷ []) = begin_form e w t a m
words_form (e ∷ w ∷ t ∷ a ∷ b ∷ c ∷ []) = many_form e w t a b c
words_form _ = None

abbrev pub form_of : List ℕ → Option Form
form_of text = words_form (words_of text)
