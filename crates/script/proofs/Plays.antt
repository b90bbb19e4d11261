-- Events played one after the other.
use Rattle.std.proofs.Common.{◌≡◌, ℕ, zero, suc, ◌+◌, ◌-◌, ◌<◌, ◌≤◌, Bool, true, false, List, [], ◌∷◌, ◌++◌, length, take, drop, Some, None, Result, Ok, Err, refl, sym, ap, ◌∙◌, subst, arith, append_assoc, append-nil, length-append, length-drop, add-one, get_or}
use Rattle.std.specs.Prelude.{replicate, nat_lt, if◌then◌else◌}
use Rattle.std.proofs.lemmas.Bool.Decides.{nat_tests}
use Rattle.std.proofs.Math.Seq.{drop-cons, take-suc}
use Rattle.std.proofs.lemmas.List.{replicate_more, replicate-append-replicate, take-append-drop, get_or-drop}
use Rattle.protocol.specs.declared.event.Event.{Event}
use Rattle.protocol.specs.declared.event.Event.TheVariants as event
use Rattle.protocol.specs.declared.note.Note.{Note}
use Rattle.protocol.specs.Machine.{State, happens, run, notes}
use Rattle.mutex.specs.declared.call.Call.TheVariants.{Lock}
use Rattle.condvar.specs.declared.op.Op.TheVariants.{OnMutex}
use Rattle.script.specs.declared.command.Action.{Action}
use Rattle.script.specs.declared.command.Action.TheVariants as action
use Rattle.script.specs.declared.command.Command.{Command}
use Rattle.script.specs.declared.fault.Fault.{Fault}
use Rattle.script.specs.declared.fault.Fault.TheVariants.{NotUtf8, UnknownWord, OutOfRange, NoSuchName, TooLong, OutOfMemory}
use Rattle.script.specs.declared.fault.ScriptFault.{ScriptFault}
use Rattle.script.specs.Limits.{max_events, max_mutexes, rest_steps}
use Rattle.script.specs.Scope.{Scope, IsPossible, IsWellFormed}
use Rattle.script.specs.Playing.{Adds, AddsAt, HasMutexes, is_going, steps_to_rest, calling, locking, first_state, events_of, events_from, overlong_from}
use Rattle.script.specs.Played.{RunsAt, RefusesCommand}

run-append : (s : State) (xs ys : List Event) → run s (xs ++ ys) ≡ run (run s xs) ys
run-append s [] ys = refl
run-append s (x ∷ xs) ys = run-append (happens s x).state xs ys

notes-append : (s : State) (xs ys : List Event) → notes s (xs ++ ys) ≡ notes s xs ++ notes (run s xs) ys
notes-append s [] ys = refl
notes-append s (x ∷ xs) ys = ap (λ (ns : List Note). (happens s x).note ∷ ns) (notes-append (happens s x).state xs ys)

pub length-notes : (s : State) (es : List Event) → length (notes s es) ≡ length es
length-notes s [] = refl
length-notes s (e ∷ es) = let more = length-notes (happens s e).state es in omega arith

-- first these events, and then those
pub then_adds : (s s' s'' : State) (ns ns' ns'' : List Note) (es es' : List Event) (r : Result (Unit {0}) Fault) → Adds s s' ns ns' es (Ok tt) → Adds s' s'' ns' ns'' es' r → Adds s s'' ns ns'' (es ++ es') r
then_adds s s' s'' ns ns' ns'' es es' (Ok u) a b = (
  b.0 ∙ ap (λ (z : State). run z es') a.0 ∙ sym (run-append s es es'),
  b.1 ∙ (λ i. a.1 i ++ notes (a.0 i) es') ∙ append_assoc ns (notes s es) (notes (run s es) es') ∙ ap (λ (l : List Note). ns ++ l) (sym (notes-append s es es')),
  (let len : length ns' ≡ length ns + length es = ap length a.1 ∙ length-append ns (notes s es) ∙ ap (λ (k : ℕ). length ns + k) (length-notes s es) in let fits = b.2 in omega (arith, length-append es es')),
)
then_adds s s' s'' ns ns' ns'' es es' (Err TooLong) a b = let len : length ns' ≡ length ns + length es = ap length a.1 ∙ length-append ns (notes s es) ∙ ap (λ (k : ℕ). length ns + k) (length-notes s es) in omega (arith, length-append es es')
then_adds s s' s'' ns ns' ns'' es es' (Err OutOfMemory) a b = let len : length ns' ≡ length ns + length es = ap length a.1 ∙ length-append ns (notes s es) ∙ ap (λ (k : ℕ). length ns + k) (length-notes s es) in let some = b.0 in let room = b.1 in (omega (arith, length-append es es'), omega arith)
then_adds s s' s'' ns ns' ns'' es es' (Err NotUtf8) a b = absurd b
then_adds s s' s'' ns ns' ns'' es es' (Err UnknownWord) a b = absurd b
then_adds s s' s'' ns ns' ns'' es es' (Err OutOfRange) a b = absurd b
then_adds s s' s'' ns ns' ns'' es es' (Err NoSuchName) a b = absurd b

-- events that fail fail with more after them
pub adds_fewer : (s s' s'' : State) (ns ns' ns'' : List Note) (es es' : List Event) (f : Fault) → Adds s s' ns ns' es (Err f) → Adds s s'' ns ns'' (es ++ es') (Err f)
adds_fewer s s' s'' ns ns' ns'' es es' TooLong a = omega (arith, length-append es es')
adds_fewer s s' s'' ns ns' ns'' es es' OutOfMemory a = let some = a.0 in (omega (arith, length-append es es'), a.1)
adds_fewer s s' s'' ns ns' ns'' es es' NotUtf8 a = absurd a
adds_fewer s s' s'' ns ns' ns'' es es' UnknownWord a = absurd a
adds_fewer s s' s'' ns ns' ns'' es es' OutOfRange a = absurd a
adds_fewer s s' s'' ns ns' ns'' es es' NoSuchName a = absurd a

-- this many of one event, one more, and the rest
pub replicate-split : (n k : ℕ) (e : Event) → k < n → (replicate k e ++ e ∷ []) ++ replicate (n - (k + 1)) e ≡ replicate n e
replicate-split n k e lt =
    let all : (k + 1) + (n - (k + 1)) ≡ n = omega arith in
    ap (λ (l : List Event). l ++ replicate (n - (k + 1)) e) (replicate_more k e) ∙ replicate-append-replicate (k + 1) (n - (k + 1)) e ∙ ap (λ (j : ℕ). replicate j e) all

-- ---- steps of one thread

-- one step more
pub steps_more : (s s' s'' : State) (ns ns' ns'' : List Note) (k : ℕ) (e : Event) → Adds s s' ns ns' (replicate k e) (Ok tt) → Adds s' s'' ns' ns'' (e ∷ []) (Ok tt) → Adds s s'' ns ns'' (replicate (k + 1) e) (Ok tt)
steps_more s s' s'' ns ns' ns'' k e a b = subst (λ (es : List Event). Adds s s'' ns ns'' es (Ok tt)) (replicate_more k e) (then_adds s s' s'' ns ns' ns'' (replicate k e) (e ∷ []) (Ok tt) a b)

-- a step that fails, with more to come
pub steps_fail : (s s' s'' : State) (ns ns' ns'' : List Note) (n k : ℕ) (e : Event) (f : Fault) → k < n → Adds s s' ns ns' (replicate k e) (Ok tt) → Adds s' s'' ns' ns'' (e ∷ []) (Err f) → Adds s s'' ns ns'' (replicate n e) (Err f)
steps_fail s s' s'' ns ns' ns'' n k e f lt a b =
    subst (λ (es : List Event). Adds s s'' ns ns'' es (Err f)) (replicate-split n k e lt)
    (adds_fewer s s'' s'' ns ns'' ns'' (replicate k e ++ e ∷ []) (replicate (n - (k + 1)) e) f (then_adds s s' s'' ns ns' ns'' (replicate k e) (e ∷ []) (Err f) a b))

rest_now : (most : ℕ) (s : State) (t : ℕ) → is_going s t ≡ false → steps_to_rest most s t ≡ 0
unfolding steps_to_rest
rest_now zero s t rests = refl
rest_now (suc most) s t rests = ap (λ (b : Bool). if b then suc (steps_to_rest most (happens s (event.Step t)).state t) else 0) rests

rest_later : (most : ℕ) (s : State) (t : ℕ) → 0 < most → is_going s t ≡ true → steps_to_rest most s t ≡ suc (steps_to_rest (most - 1) (happens s (event.Step t)).state t)
unfolding steps_to_rest
rest_later zero s t some busy = absurd (omega arith)
rest_later (suc most) s t some busy =
    let one : suc most - 1 ≡ most = omega arith in
    ap (λ (b : Bool). if b then suc (steps_to_rest most (happens s (event.Step t)).state t) else 0) busy ∙ ap (λ (k : ℕ). suc (steps_to_rest k (happens s (event.Step t)).state t)) (sym one)

rest_at_once : (s : State) (t : ℕ) → steps_to_rest 0 s t ≡ 0
unfolding steps_to_rest
rest_at_once s t = refl

-- where the loop to rest is after k steps
pub record IsOnTheWay (s s' : State) (ns ns' : List Note) (t k : ℕ) : Type 0 where
  pub so_far : Adds s s' ns ns' (replicate k (event.Step t)) (Ok tt)
  pub left : steps_to_rest rest_steps s t ≡ k + steps_to_rest (rest_steps - k) s' t

pub rests : (s s' : State) (ns ns' : List Note) (t k : ℕ) → IsOnTheWay s s' ns ns' t k → is_going s' t ≡ false → Adds s s' ns ns' (replicate (steps_to_rest rest_steps s t) (event.Step t)) (Ok tt)
rests s s' ns ns' t k h resting =
    let none = rest_now (rest_steps - k) s' t resting in
    let all : k ≡ steps_to_rest rest_steps s t = let left = h.left in omega arith in
    subst (λ (j : ℕ). Adds s s' ns ns' (replicate j (event.Step t)) (Ok tt)) all h.so_far

pub rests_late : (s s' : State) (ns ns' : List Note) (t k : ℕ) → IsOnTheWay s s' ns ns' t k → rest_steps ≤ k → Adds s s' ns ns' (replicate (steps_to_rest rest_steps s t) (event.Step t)) (Ok tt)
rests_late s s' ns ns' t k h late =
    let over : rest_steps - k ≡ 0 = omega arith in
    let none : steps_to_rest (rest_steps - k) s' t ≡ 0 = ap (λ (j : ℕ). steps_to_rest j s' t) over ∙ rest_at_once s' t in
    let all : k ≡ steps_to_rest rest_steps s t = let left = h.left in omega arith in
    subst (λ (j : ℕ). Adds s s' ns ns' (replicate j (event.Step t)) (Ok tt)) all h.so_far

left_after : (s s' s'' : State) (ns ns' ns'' : List Note) (t k : ℕ) → IsOnTheWay s s' ns ns' t k → k < rest_steps → is_going s' t ≡ true → steps_to_rest rest_steps s t ≡ (k + 1) + steps_to_rest (rest_steps - (k + 1)) (happens s' (event.Step t)).state t
left_after s s' s'' ns ns' ns'' t k h lt busy =
    let later = rest_later (rest_steps - k) s' t (omega arith) busy in
    let less : rest_steps - k - 1 ≡ rest_steps - (k + 1) = omega arith in
    let same : steps_to_rest (rest_steps - k - 1) (happens s' (event.Step t)).state t ≡ steps_to_rest (rest_steps - (k + 1)) (happens s' (event.Step t)).state t = ap (λ (j : ℕ). steps_to_rest j (happens s' (event.Step t)).state t) less in
    let left = h.left in omega arith

pub rest_more : (s s' s'' : State) (ns ns' ns'' : List Note) (t k : ℕ) → IsOnTheWay s s' ns ns' t k → k < rest_steps → is_going s' t ≡ true → Adds s' s'' ns' ns'' (event.Step t ∷ []) (Ok tt) → IsOnTheWay s s'' ns ns'' t (k + 1)
rest_more s s' s'' ns ns' ns'' t k h lt busy b = record {
  so_far = steps_more s s' s'' ns ns' ns'' k (event.Step t) h.so_far b;
  left = left_after s s' s'' ns ns' ns'' t k h lt busy ∙ ap (λ (z : State). (k + 1) + steps_to_rest (rest_steps - (k + 1)) z t) (sym b.0);
}

pub rest_fails : (s s' s'' : State) (ns ns' ns'' : List Note) (t k : ℕ) (f : Fault) → IsOnTheWay s s' ns ns' t k → k < rest_steps → is_going s' t ≡ true → Adds s' s'' ns' ns'' (event.Step t ∷ []) (Err f) → Adds s s'' ns ns'' (replicate (steps_to_rest rest_steps s t) (event.Step t)) (Err f)
rest_fails s s' s'' ns ns' ns'' t k f h lt busy b =
    let left = left_after s s' s'' ns ns' ns'' t k h lt busy in
    steps_fail s s' s'' ns ns' ns'' (steps_to_rest rest_steps s t) k (event.Step t) f (omega arith) h.so_far b

pub begins_way : (s : State) (ns : List Note) (t : ℕ) → length ns ≤ max_events → IsOnTheWay s s ns ns t 0
begins_way s ns t fits = record { so_far = (refl, sym (append-nil ns), omega arith); left = omega arith }

-- ---- locks of one thread

locking_now : (s : State) (t m n : ℕ) → 0 < n → locking s t m n ≡ calling s t (OnMutex (Lock m)) ++ locking (run s (calling s t (OnMutex (Lock m)))) t (m + 1) (n - 1)
locking_now s t m zero some = absurd (omega arith)
locking_now s t m (suc n) some = let one : suc n - 1 ≡ n = omega arith in λ i. calling s t (OnMutex (Lock m)) ++ locking (run s (calling s t (OnMutex (Lock m)))) t (sym (add-one m) i) (sym one i)

-- where the loop over the mutexes is after k of them
pub record IsLocking (s s' : State) (ns ns' : List Note) (t m n k : ℕ) : Type 0 where
  pub events : List Event
  pub so_far : Adds s s' ns ns' events (Ok tt)
  pub left : locking s t m n ≡ events ++ locking s' t (m + k) (n - k)

pub locks_first : (s : State) (ns : List Note) (t m n : ℕ) → length ns ≤ max_events → IsLocking s s ns ns t m n 0
locks_first s ns t m n fits =
    let at : m + 0 ≡ m = omega arith in
    let all : n - 0 ≡ n = omega arith in
    record { events = []; so_far = (refl, sym (append-nil ns), omega arith); left = λ i. locking s t (sym at i) (sym all i) }

pub locks_room : (s s' : State) (ns ns' : List Note) (t m n k : ℕ) → IsLocking s s' ns ns' t m n k → length ns' ≤ max_events
locks_room s s' ns ns' t m n k h =
    let len : length ns' ≡ length ns + length h.events = ap length h.so_far.1 ∙ length-append ns (notes s h.events) ∙ ap (λ (j : ℕ). length ns + j) (length-notes s h.events) in
    let fits = h.so_far.2 in omega arith

locks_left : (s s' : State) (ns ns' : List Note) (t m n k : ℕ) → (h : IsLocking s s' ns ns' t m n k) → k < n
    → locking s t m n ≡ (h.events ++ calling s' t (OnMutex (Lock (m + k)))) ++ locking (run s' (calling s' t (OnMutex (Lock (m + k))))) t (m + (k + 1)) (n - (k + 1))
locks_left s s' ns ns' t m n k h lt =
    let es = calling s' t (OnMutex (Lock (m + k))) in
    let next : m + k + 1 ≡ m + (k + 1) = omega arith in
    let fewer : n - k - 1 ≡ n - (k + 1) = omega arith in
    h.left ∙ ap (λ (l : List Event). h.events ++ l) (locking_now s' t (m + k) (n - k) (omega arith))
    ∙ sym (append_assoc h.events es (locking (run s' es) t (m + k + 1) (n - k - 1)))
    ∙ (λ i. (h.events ++ es) ++ locking (run s' es) t (next i) (fewer i))

pub locks_next : (s s' s'' : State) (ns ns' ns'' : List Note) (t m n k : ℕ) → IsLocking s s' ns ns' t m n k → k < n → Adds s' s'' ns' ns'' (calling s' t (OnMutex (Lock (m + k)))) (Ok tt) → IsLocking s s'' ns ns'' t m n (k + 1)
locks_next s s' s'' ns ns' ns'' t m n k h lt a =
    let es = calling s' t (OnMutex (Lock (m + k))) in
    record {
      events = h.events ++ es;
      so_far = then_adds s s' s'' ns ns' ns'' h.events es (Ok tt) h.so_far a;
      left = locks_left s s' ns ns' t m n k h lt ∙ ap (λ (z : State). (h.events ++ es) ++ locking z t (m + (k + 1)) (n - (k + 1))) (sym a.0);
    }

pub locks_fail : (s s' s'' : State) (ns ns' ns'' : List Note) (t m n k : ℕ) (f : Fault) → IsLocking s s' ns ns' t m n k → k < n → Adds s' s'' ns' ns'' (calling s' t (OnMutex (Lock (m + k)))) (Err f) → Adds s s'' ns ns'' (locking s t m n) (Err f)
locks_fail s s' s'' ns ns' ns'' t m n k f h lt a =
    let es = calling s' t (OnMutex (Lock (m + k))) in
    subst (λ (l : List Event). Adds s s'' ns ns'' l (Err f)) (sym (locks_left s s' ns ns' t m n k h lt))
    (adds_fewer s s'' s'' ns ns'' ns'' (h.events ++ es) (locking (run s' es) t (m + (k + 1)) (n - (k + 1))) f (then_adds s s' s'' ns ns' ns'' h.events es (Err f) h.so_far a))

pub locks_last : (s s' : State) (ns ns' : List Note) (t m n k : ℕ) → IsLocking s s' ns ns' t m n k → n ≤ k → Adds s s' ns ns' (locking s t m n) (Ok tt)
locks_last s s' ns ns' t m n k h done =
    let none : n - k ≡ 0 = omega arith in
    let all : h.events ≡ locking s t m n = sym (h.left ∙ ap (λ (j : ℕ). h.events ++ locking s' t (m + k) j) none ∙ append-nil h.events) in
    subst (λ (l : List Event). Adds s s' ns ns' l (Ok tt)) all h.so_far

-- ---- commands

-- the mutexes of a possible action are among those that there may be
has_mutexes : (p n m k : ℕ) (a : Action) → m ≤ max_mutexes → IsPossible p n m k a → HasMutexes a
has_mutexes p n m k (action.Begin t c) few h = tt
has_mutexes p n m k (action.Step t j) few h = tt
has_mutexes p n m k (action.Kill t) few h = tt
has_mutexes p n m k (action.KillAll q) few h = tt
has_mutexes p n m k (action.Leave t) few h = tt
has_mutexes p n m k (action.Decline t) few h = tt
has_mutexes p n m k (action.Expire t) few h = tt
has_mutexes p n m k (action.Renew t) few h = tt
has_mutexes p n m k (action.Remake t j) few h = tt
has_mutexes p n m k (action.Spare t) few h = tt
has_mutexes p n m k (action.Go t) few h = tt
has_mutexes p n m k (action.Call t c) few h = tt
has_mutexes p n m k (action.Locks t j i) few h = let last = h.3 in omega arith
has_mutexes p n m k action.Phase few h = tt
has_mutexes p n m k (action.Die t j) few h = tt

pub locks_have : (s : Scope) (i : ℕ) (c : Command) → IsWellFormed s → i < length s.commands → c ≡ get_or s.commands i c → HasMutexes c.action
locks_have s i c whole lt is =
    has_mutexes (length s.processes) (length s.threads) (length s.mutexes) (length s.conditions) c.action whole.within.mutexes_at_most
    (subst (λ (x : Command). IsPossible (length s.processes) (length s.threads) (length s.mutexes) (length s.conditions) x.action) (sym is) (whole.within.commands_possible i c lt))

events-append : (s : State) (cs ds : List Command) → events_from s (cs ++ ds) ≡ events_from s cs ++ events_from (run s (events_from s cs)) ds
events-append s [] ds = refl
events-append s (c ∷ cs) ds =
    let es = events_of s c.action in
    ap (λ (l : List Event). es ++ l) (events-append (run s es) cs ds) ∙ sym (append_assoc es (events_from (run s es) cs) (events_from (run (run s es) (events_from (run s es) cs)) ds))
    ∙ ap (λ (z : State). (es ++ events_from (run s es) cs) ++ events_from z ds) (sym (run-append s es (events_from (run s es) cs)))

one_more : (cs : List Command) (k : ℕ) (c : Command) → drop k cs ≡ c ∷ drop (k + 1) cs → take (k + 1) cs ≡ take k cs ++ c ∷ []
one_more cs k c split = rw add-one (take-suc cs k c (shorter cs k c split) ∙ ap (λ (x : Command). take k cs ++ x ∷ []) (here cs k c split)) where
  shorter : (cs : List Command) (k : ℕ) (c : Command) → drop k cs ≡ c ∷ drop (k + 1) cs → k < length cs
  shorter cs k c split = let left = ap length split in omega (arith, length-drop k cs)

  here : (cs : List Command) (k : ℕ) (c : Command) → drop k cs ≡ c ∷ drop (k + 1) cs → get_or cs k c ≡ c
  here cs k c split = let place : k + 0 ≡ k = omega arith in ap (λ (j : ℕ). get_or cs j c) (sym place) ∙ sym (get_or-drop k cs 0 c) ∙ ap (λ (l : List Command). get_or l 0 c) split

-- where the loop over the commands is after k of them
pub record IsAmid (s : State) (cs : List Command) (now : State) (ns : List Note) (k : ℕ) : Type 0 where
  pub events : List Event
  pub so_far : Adds s now [] ns events (Ok tt)
  pub before : events_from s (take k cs) ≡ events
  pub rest : events_from s cs ≡ events ++ events_from now (drop k cs)
  pub too_long : overlong_from 0 s cs ≡ overlong_from (length events) now (drop k cs)

pub amid_first : (s : State) (cs : List Command) → IsAmid s cs s [] 0
amid_first s cs = record { events = []; so_far = (refl, refl, omega arith); before = refl; rest = refl; too_long = refl }

over-false : (n : ℕ) → n ≤ max_events → nat_lt max_events n ≡ false
over-false n h = grind (arith, nat_tests)

over-true : (n : ℕ) → max_events < n → nat_lt max_events n ≡ true
over-true n h = grind (arith, nat_tests)

before_next : (s : State) (cs : List Command) (now : State) (ns : List Note) (k : ℕ) (c : Command) → (h : IsAmid s cs now ns k) → drop k cs ≡ c ∷ drop (k + 1) cs → events_from s (take (k + 1) cs) ≡ h.events ++ events_of now c.action
before_next s cs now ns k c h split =
    ap (events_from s) (one_more cs k c split) ∙ events-append s (take k cs) (c ∷ [])
    ∙ (λ i. h.before i ++ events_from (run s (h.before i)) (c ∷ []))
    ∙ ap (λ (z : State). h.events ++ events_from z (c ∷ [])) (sym h.so_far.0) ∙ ap (λ (l : List Event). h.events ++ l) (append-nil (events_of now c.action))

pub amid_next : (s : State) (cs : List Command) (now now' : State) (ns ns' : List Note) (k : ℕ) (c : Command) → IsAmid s cs now ns k → drop k cs ≡ c ∷ drop (k + 1) cs → Adds now now' ns ns' (events_of now c.action) (Ok tt) → IsAmid s cs now' ns' (k + 1)
amid_next s cs now now' ns ns' k c h split a =
    let es = events_of now c.action in
    let len : length ns ≡ length h.events = ap length h.so_far.1 ∙ length-notes s h.events in
    let fits : length h.events + length es ≤ max_events = let bound = a.2 in omega arith in
    let total = length-append h.events es in
    record {
      events = h.events ++ es;
      so_far = then_adds s now now' [] ns ns' h.events es (Ok tt) h.so_far a;
      before = before_next s cs now ns k c h split;
      rest = h.rest ∙ ap (λ (l : List Command). h.events ++ events_from now l) split ∙ sym (append_assoc h.events es (events_from (run now es) (drop (k + 1) cs))) ∙ ap (λ (z : State). (h.events ++ es) ++ events_from z (drop (k + 1) cs)) (sym a.0);
      too_long =
          h.too_long ∙ ap (overlong_from (length h.events) now) split
          ∙ ap (λ (b : Bool). if b then Some c.line else overlong_from (length h.events + length es) (run now es) (drop (k + 1) cs)) (over-false (length h.events + length es) fits)
          ∙ (λ i. overlong_from (sym total i) (sym a.0 i) (drop (k + 1) cs));
    }

pub amid_fails : (s : State) (cs : List Command) (now now' : State) (ns ns' : List Note) (k : ℕ) (c : Command) → IsAmid s cs now ns k → drop k cs ≡ c ∷ drop (k + 1) cs → Adds now now' ns ns' (events_of now c.action) (Err TooLong) → overlong_from 0 s cs ≡ Some c.line
amid_fails s cs now now' ns ns' k c h split a =
    let es = events_of now c.action in
    let len : length ns ≡ length h.events = ap length h.so_far.1 ∙ length-notes s h.events in
    h.too_long ∙ ap (overlong_from (length h.events) now) split ∙ ap (λ (b : Bool). if b then Some c.line else overlong_from (length h.events + length es) (run now es) (drop (k + 1) cs)) (over-true (length h.events + length es) (omega arith))

pub amid_last : (s : State) (cs : List Command) (now : State) (ns : List Note) (k : ℕ) → IsAmid s cs now ns k → drop k cs ≡ [] → (overlong_from 0 s cs ≡ None) × (ns ≡ notes s (events_from s cs)) × (now ≡ run s (events_from s cs))
amid_last s cs now ns k h none =
    let all : events_from s cs ≡ h.events = h.rest ∙ ap (λ (l : List Command). h.events ++ events_from now l) none ∙ append-nil h.events in
    (h.too_long ∙ ap (overlong_from (length h.events) now) none, h.so_far.1 ∙ ap (notes s) (sym all), h.so_far.0 ∙ ap (run s) (sym all))

-- a command that found no memory runs an event that may run
unremembered : (s : Scope) (now now' : State) (ns ns' : List Note) (k : ℕ) (c : Command) → IsAmid (first_state s) s.commands now ns k → drop k s.commands ≡ c ∷ drop (k + 1) s.commands → Adds now now' ns ns' (events_of now c.action) (Err OutOfMemory) → RunsAt s c.line
unremembered s now now' ns ns' k c h split a =
    let len : length ns ≡ length h.events = ap length h.so_far.1 ∙ length-notes (first_state s) h.events in
    let before : length (events_from (first_state s) (take k s.commands)) ≡ length h.events = ap length h.before in
    let state : now ≡ run (first_state s) (events_from (first_state s) (take k s.commands)) = h.so_far.0 ∙ ap (run (first_state s)) (sym h.before) in
    let room = a.1 in
    record {
      before = take k s.commands;
      command = c;
      after = drop (k + 1) s.commands;
      stands = sym (take-append-drop k s.commands) ∙ ap (λ (l : List Command). take k s.commands ++ l) split;
      here = refl;
      some = subst (λ (z : State). 0 < length (events_of z c.action)) state a.0;
      room = omega arith;
    }

-- the fault of a command is the script's
refused_by : (s : Scope) (now now' : State) (ns ns' : List Note) (k : ℕ) (c : Command) (f : Fault) → IsAmid (first_state s) s.commands now ns k → drop k s.commands ≡ c ∷ drop (k + 1) s.commands → Adds now now' ns ns' (events_of now c.action) (Err f) → RefusesCommand s c.line f
refused_by s now now' ns ns' k c TooLong h split a = amid_fails (first_state s) s.commands now now' ns ns' k c h split a
refused_by s now now' ns ns' k c OutOfMemory h split a = unremembered s now now' ns ns' k c h split a
refused_by s now now' ns ns' k c NotUtf8 h split a = absurd a
refused_by s now now' ns ns' k c UnknownWord h split a = absurd a
refused_by s now now' ns ns' k c OutOfRange h split a = absurd a
refused_by s now now' ns ns' k c NoSuchName h split a = absurd a

pub refuses : (s : Scope) (now now' : State) (ns ns' : List Note) (k : ℕ) (c : Command) (e : ScriptFault) → IsAmid (first_state s) s.commands now ns k → drop k s.commands ≡ c ∷ drop (k + 1) s.commands → AddsAt c.line now now' ns ns' (events_of now c.action) (Err e) → RefusesCommand s e.line e.fault
refuses s now now' ns ns' k c e h split a = subst (λ (line : ℕ). RefusesCommand s line e.fault) (sym a.0) (refused_by s now now' ns ns' k c e.fault h split a.1)

pub split_at : (cs : List Command) (k : ℕ) (c : Command) → k < length cs → c ≡ get_or cs k c → drop k cs ≡ c ∷ drop (k + 1) cs
split_at cs k c lt is = rw add-one (drop-cons cs k c lt ∙ ap (λ (x : Command). x ∷ drop (suc k) cs) (sym is))

pub amid_room : (s : State) (cs : List Command) (now : State) (ns : List Note) (k : ℕ) → IsAmid s cs now ns k → length ns ≤ max_events
amid_room s cs now ns k h = let len : length ns ≡ length h.events = ap length h.so_far.1 ∙ length-notes s h.events in let fits = h.so_far.2 in omega arith
