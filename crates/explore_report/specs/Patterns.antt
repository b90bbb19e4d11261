-- What an outcome may have.
--
-- *Pattern.* The words of `--never` and `--always`: a thread and a reply that it got, or that it is dead, sleeps forever,
-- or waits for a phase that never comes; that some thread sleeps forever; or a mutex and how it is left.
use Rattle.std.specs.Prelude.{ℕ, ◌+◌, ◌-◌, ◌==◌, ◌&&◌, ◌||◌, not, Bool, true, false, List, [], ◌∷◌, codes}
use Rattle.std.specs.Prelude.{Option, Some, None, option_map, slice_get, if◌then◌else◌}
use Rattle.std.specs.List.{list_any, slice_split}
use Rattle.std.specs.Str.{bytes_eq}
use Rattle.lockword.specs.Replies.{number_of, reply_of}
use Rattle.lockword.specs.declared.reply.Reply.{Reply}
use Rattle.posixmutex.specs.declared.object.Object.{Object}
use Rattle.script.specs.Scope.{Scope}
use Rattle.outcomes.specs.declared.outcome.End.{End}
use Rattle.outcomes.specs.declared.outcome.End.TheVariants as end
use Rattle.outcomes.specs.declared.outcome.Ended.{Ended}
use Rattle.outcomes.specs.declared.outcome.Outcome.{Outcome}
use Rattle.explore_report.specs.declared.patterns.Pattern.{Pattern}
use Rattle.explore_report.specs.declared.patterns.Pattern.TheVariants.{Got, Dead, Asleep, Waiting, SomeAsleep, Left}
use Rattle.explore_report.specs.declared.patterns.State.{State}
use Rattle.explore_report.specs.declared.patterns.State.TheVariants.{Free, Owned, Inconsistent, Unusable}

-- ---- reading

-- the place of the first of the names that is this one, if the first of them is at place i
abbrev pub place_from : ℕ → List (List ℕ) → List ℕ → Option ℕ
place_from i [] name = None
place_from i (n ∷ ns) name = if bytes_eq n name then Some i else place_from (i + 1) ns name

-- the same, from 0
abbrev pub place_of : List (List ℕ) → List ℕ → Option ℕ
place_of names name = place_from 0 names name

abbrev pub state_of : List ℕ → Option State
state_of word =
    if bytes_eq word (codes "free") then Some Free
    else (if bytes_eq word (codes "owned") then Some Owned
    else (if bytes_eq word (codes "inconsistent") then Some Inconsistent
    else (if bytes_eq word (codes "unusable") then Some Unusable else None)))

-- what the second word says of a thread
abbrev pub of_thread : ℕ → List ℕ → Option Pattern
of_thread t word =
    if bytes_eq word (codes "dead") then Some (Dead t)
    else (if bytes_eq word (codes "asleep") then Some (Asleep t)
    else (if bytes_eq word (codes "waiting") then Some (Waiting t)
    else option_map (λ x. Got t x) (reply_of word)))

abbrev pub and_then : {A B : Type 0} → Option A → (A → Option B) → Option B
and_then None f = None
and_then (Some x) f = f x

abbrev pub of_two : Scope → List ℕ → List ℕ → Option State → Option Pattern
of_two s name word (Some state) = option_map (λ m. Left m state) (place_of s.mutexes name)
of_two s name word None = and_then (place_of s.threads name) (λ i. of_thread (i + 1) word)

-- the pattern that words are, with the names of a script
abbrev pub pattern_words : Scope → List (List ℕ) → Option Pattern
pattern_words s [] = None
pattern_words s (a ∷ []) = if bytes_eq a (codes "asleep") then Some SomeAsleep else None
pattern_words s (a ∷ b ∷ []) = of_two s a b (state_of b)
pattern_words s (a ∷ b ∷ c ∷ words) = None

-- ---- meeting

abbrev pub is_asleep : End → Bool
is_asleep (end.OnMutex m) = true
is_asleep (end.OnCondition k) = true
is_asleep e = false

abbrev pub is_dead : End → Bool
is_dead end.Dead = true
is_dead e = false

abbrev pub is_waiting : End → Bool
is_waiting end.Waiting = true
is_waiting e = false

abbrev pub is_owned : Option ℕ → Bool
is_owned None = false
is_owned (Some t) = true

abbrev pub is_left : Object → State → Bool
is_left o Free = not (is_owned o.owner) && (not o.inconsistent && not o.unusable)
is_left o Owned = is_owned o.owner
is_left o Inconsistent = o.inconsistent
is_left o Unusable = o.unusable

abbrev pub at_some : {A : Type 0} → Option A → (A → Bool) → Bool
at_some None f = false
at_some (Some x) f = f x

-- replies have different numbers
abbrev pub same_reply : Reply → Reply → Bool
same_reply x y = number_of x == number_of y

abbrev pub is_met : Outcome → Pattern → Bool
is_met o (Got t x) = at_some (slice_get o.threads.items (t - 1)) (λ e. list_any (λ y. same_reply y x) e.replies.items)
is_met o (Dead t) = at_some (slice_get o.threads.items (t - 1)) (λ e. is_dead e.end)
is_met o (Asleep t) = at_some (slice_get o.threads.items (t - 1)) (λ e. is_asleep e.end)
is_met o (Waiting t) = at_some (slice_get o.threads.items (t - 1)) (λ e. is_waiting e.end)
is_met o SomeAsleep = list_any (λ e. is_asleep e.end) o.threads.items
is_met o (Left m state) = at_some (slice_get o.mutexes.items m) (λ x. is_left x state)
