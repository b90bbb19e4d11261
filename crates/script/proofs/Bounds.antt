-- What the lines make stays within the limits.
use Rattle.std.specs.Prelude.{decimal, slice_get}
use Rattle.std.specs.List.{list_any}
use Rattle.std.proofs.Common.{◌≡◌, ℕ, zero, suc, ◌+◌, ◌<◌, ◌≤◌, ◌==◌, Bool, true, false, not, nat_le, nat_lt, ◌&&◌, List, [], ◌∷◌, ◌++◌, length, All, Option, Some, None, Result, Ok, Err, IfOk, IfSome, option_and_then, position, if◌then◌else◌, refl, subst, arith, length-append, append-nil}
use Rattle.std.specs.Option.{ok_or, is_some}
use Rattle.std.specs.Str.{bytes_eq}
use Rattle.std.specs.Str.Parse.{digits_value}
use Rattle.std.proofs.lemmas.Bool.{leb-true}
use Rattle.std.proofs.lemmas.Bool.Decides.{nat_tests}
use Rattle.std.proofs.lemmas.List.Elements.{All-nil, All-push}
use Rattle.std.proofs.lemmas.List.Quantifiers.{position-Some}
use Rattle.condvar.specs.declared.op.Op.{Op}
use Rattle.condvar.specs.declared.op.Op.TheVariants.{OnMutex, OnCondition}
use Rattle.mutex.specs.declared.call.Call.TheVariants as call
use Rattle.condvar.specs.declared.call.CondCall.TheVariants as on
use Rattle.condvar.specs.declared.call.Limit.TheVariants.{Ahead}
use Rattle.script.specs.Forms.{CallForm, lock, trylock, timedlock, unlock, consistent, wait, timedwait, signal, broadcast, Form, silent, process, thread, member, mutex, mutexes, cond, begins, steps, kills, kills_all, goes, leaves, declines, expires, renews, remakes, spares, calls, locks, phase, dies, form_of, of_mode, has, words_form, or_else, name_form, step_form, die_form, mutexes_form, process_form, member_form, remake_form, locks_form, cond_form, call_form, calling_form, is_silent, is_name, is_stem}
use Rattle.lines.specs.Numbers.{is_number, within}
use Rattle.lines.specs.Lines.{words_of}
use Rattle.script.specs.Deaths.{death_by, deaths_by, death_of}
use Rattle.script.specs.Scope.{Scope, Names, IsPossible, IsCondition, IsWithinLimits}
use Rattle.script.specs.Reading.{refuse, place_of, process_of, is_declared, names_of, condition_names, with_entry, with_condition, with_thread, added, numbered, is_numbered, several, declares, process_declared, thread_declared, condition_declared, thread_of, call_of, first_of, begun, stepped, killed, all_killed, gone, left, declined, expired, renewed, remade, wake_spared, made, locked, died, with_action, enter, line_read}
use Rattle.lines.specs.Faults.{◌>>=◌}
use Rattle.script.specs.declared.command.Mode.{Mode}
use Rattle.script.specs.declared.command.Action.{Action}
use Rattle.script.specs.declared.command.Action.TheVariants as action
use Rattle.script.specs.declared.fault.Fault.{Fault}
use Rattle.script.specs.declared.fault.Fault.TheVariants.{UnknownWord, OutOfRange, NoSuchName, TooLong}
use Rattle.script.specs.declared.command.Condition.{Condition}
use Rattle.script.specs.Limits.{max_lines, max_processes, max_base, max_threads, max_mutexes, max_conditions, max_counter, max_steps, max_access}
use Rattle.script.specs.declared.command.Command.{Command}
use Rattle.script.proofs.Names.{length-map_of}
use Rattle.script.proofs.Dying.{deaths_push}

-- what holds of the first thing's value serves the second
pub chain : {A B : Type 0} (r : Result A Fault) (f : A → Result B Fault) (P : A → Type 0) (Q : B → Type 0) → IfOk r P → ((x : A) → P x → IfOk (f x) Q) → IfOk (r >>= f) Q
chain (Ok x) f P Q p q = q x p
chain (Err e) f P Q p q = tt

pub refused : {A : Type 0} (b : Bool) (f : Fault) (r : Result A Fault) (P : A → Type 0) → (b ≡ false → IfOk r P) → IfOk (refuse b f r) P
refused true f r P h = tt
refused false f r P h = h refl

-- a place is one of the names
placed : (w : List ℕ) (names : List (List ℕ)) → IfOk (place_of w names) (λ i. i < length names)
placed w names = by_cases (position (λ n. bytes_eq w n) names) (λ i h. (position-Some (λ n. bytes_eq w n) names i [] h).0) where
  by_cases : (o : Option ℕ) → ((i : ℕ) → o ≡ Some i → i < length names) → IfOk (ok_or o NoSuchName) (λ i. i < length names)
  by_cases None h = tt
  by_cases (Some i) h = h i refl

-- a name more is still within the limit
grown : (limit : ℕ) (names : List (List ℕ)) (w : List ℕ) → IfOk (added limit names w) (λ ns. (length names ≤ length ns) × (length ns ≤ limit))
grown limit names w = refused (nat_le limit (length names)) OutOfRange (refuse (is_declared w names) NoSuchName (Ok (names ++ w ∷ []))) (λ ns. (length names ≤ length ns) × (length ns ≤ limit))
    (λ room. refused (is_declared w names) NoSuchName (Ok (names ++ w ∷ [])) (λ ns. (length names ≤ length ns) × (length ns ≤ limit)) (λ new. rw (length-append names (w ∷ [])) (omega arith, grind (arith, nat_tests))))

-- this many numbered names
length-numbered : (w : List ℕ) (n : ℕ) → length (numbered w n) ≡ n
length-numbered w zero = refl
length-numbered w (suc n) = let fewer = length-numbered w n in omega (arith, length-append (numbered w n) ((w ++ decimal n) ∷ []))

grown_by : (limit : ℕ) (names : List (List ℕ)) (w : List ℕ) (n : ℕ) → IfOk (several limit names w n) (λ ns. (length names ≤ length ns) × (length ns ≤ limit))
grown_by limit names w n = refused (nat_lt limit (length names + n)) OutOfRange (refuse (list_any (λ name. is_numbered w n name) names) NoSuchName (Ok (names ++ numbered w n))) (λ ns. (length names ≤ length ns) × (length ns ≤ limit))
    (λ room. refused (list_any (λ name. is_numbered w n name) names) NoSuchName (Ok (names ++ numbered w n)) (λ ns. (length names ≤ length ns) × (length ns ≤ limit))
    (λ new. rw (length-append names (numbered w n), length-numbered w n) (omega arith, grind (arith, nat_tests))))

-- no command came before a declaration
unused : {A : Type 0} (P : A → Type 0) (xs : List A) → not (length xs == 0) ≡ false → All P xs
unused P [] h = All-nil P
unused P (x ∷ xs) h = absurd (grind (arith, nat_tests))

-- a process that is named is one of those that were declared
processed : (s : Scope) (p : List ℕ) → IfOk (process_of s p) (λ i. (1 ≤ i) × (i ≤ length s.processes))
processed s p = chain (place_of p (names_of s.processes)) (λ i. Ok (i + 1)) (λ i. i < length (names_of s.processes)) (λ i. (1 ≤ i) × (i ≤ length s.processes)) (placed p (names_of s.processes))
    (λ i h. let few : i < length s.processes = omega (arith, h, length-map_of (λ x. x.0) s.processes) in (omega arith, omega arith))

threaded : (s : Scope) (t : List ℕ) → IfOk (thread_of s t) (λ i. (1 ≤ i) × (i ≤ length s.threads))
threaded s t = chain (place_of t s.threads) (λ i. Ok (i + 1)) (λ i. i < length s.threads) (λ i. (1 ≤ i) × (i ≤ length s.threads)) (placed t s.threads) (λ i h. (omega arith, omega arith))

-- a call names a mutex or a condition variable of the script
called : (s : Scope) (c : CallForm) → IfOk (call_of s c) (Names (length s.mutexes) (length s.conditions))
called s (lock m) = chain (place_of m s.mutexes) (λ j. Ok (OnMutex (call.Lock j))) (λ j. j < length s.mutexes) (Names (length s.mutexes) (length s.conditions)) (placed m s.mutexes) (λ j h. h)
called s (trylock m) = chain (place_of m s.mutexes) (λ j. Ok (OnMutex (call.TryLock j))) (λ j. j < length s.mutexes) (Names (length s.mutexes) (length s.conditions)) (placed m s.mutexes) (λ j h. h)
called s (timedlock m) = chain (place_of m s.mutexes) (λ j. Ok (OnMutex (call.TimedLock j))) (λ j. j < length s.mutexes) (Names (length s.mutexes) (length s.conditions)) (placed m s.mutexes) (λ j h. h)
called s (unlock m) = chain (place_of m s.mutexes) (λ j. Ok (OnMutex (call.Unlock j))) (λ j. j < length s.mutexes) (Names (length s.mutexes) (length s.conditions)) (placed m s.mutexes) (λ j h. h)
called s (consistent m) = chain (place_of m s.mutexes) (λ j. Ok (OnMutex (call.Consistent j))) (λ j. j < length s.mutexes) (Names (length s.mutexes) (length s.conditions)) (placed m s.mutexes) (λ j h. h)
called s (wait c) = chain (place_of c (condition_names s)) (λ k. Ok (OnCondition (on.Wait k))) (λ k. k < length (condition_names s)) (Names (length s.mutexes) (length s.conditions)) (placed c (condition_names s)) (λ k h. omega (arith, h, length-map_of (λ d. d.0) s.conditions))
called s (timedwait c) = chain (place_of c (condition_names s)) (λ k. Ok (OnCondition (on.TimedWait k Ahead))) (λ k. k < length (condition_names s)) (Names (length s.mutexes) (length s.conditions)) (placed c (condition_names s)) (λ k h. omega (arith, h, length-map_of (λ d. d.0) s.conditions))
called s (signal c) = chain (place_of c (condition_names s)) (λ k. Ok (OnCondition (on.Signal k))) (λ k. k < length (condition_names s)) (Names (length s.mutexes) (length s.conditions)) (placed c (condition_names s)) (λ k h. omega (arith, h, length-map_of (λ d. d.0) s.conditions))
called s (broadcast c) = chain (place_of c (condition_names s)) (λ k. Ok (OnCondition (on.Broadcast k))) (λ k. k < length (condition_names s)) (Names (length s.mutexes) (length s.conditions)) (placed c (condition_names s)) (λ k h. omega (arith, h, length-map_of (λ d. d.0) s.conditions))

-- the mutexes of a `locks` are declared
reached : (s : Scope) (m : List ℕ) (n : ℕ) → IfOk (first_of s m n) (λ j. j + n ≤ length s.mutexes)
reached s m n = chain (place_of m s.mutexes) (λ j. refuse (nat_lt (length s.mutexes) (j + n)) OutOfRange (Ok j)) (λ j. j < length s.mutexes) (λ j. j + n ≤ length s.mutexes) (placed m s.mutexes)
    (λ j h. refused (nat_lt (length s.mutexes) (j + n)) OutOfRange (Ok j) (λ i. i + n ≤ length s.mutexes) (λ room. grind (arith, nat_tests)))

-- an action lets no thread die that dies at these commands
abbrev IsAlone : List Command → Action → Type 0
IsAlone cs (action.Die t n) = deaths_by t cs ≡ []
IsAlone cs a = Unit {0}

-- an action that the script may have
abbrev May : Scope → Action → Type 0
May s a = IsPossible (length s.processes) (length s.threads) (length s.mutexes) (length s.conditions) a × IsAlone s.commands a

-- an action that isn't thread t's death
spared : (n t : ℕ) (cs : List Command) (a : Action) → length (deaths_by t cs) ≤ 1 → death_by t a ≡ None → length (deaths_by t (cs ++ record { line = n; action = a } ∷ [])) ≤ 1
spared n t cs a h none = rw (deaths_push t cs (record { line = n; action = a }), none, append-nil (deaths_by t cs)) h

-- each thread still dies once at most
once : (n t : ℕ) (cs : List Command) (a : Action) → length (deaths_by t cs) ≤ 1 → IsAlone cs a → length (deaths_by t (cs ++ record { line = n; action = a } ∷ [])) ≤ 1
once n t cs (action.Begin u o) h alone = spared n t cs _ h refl
once n t cs (action.Step u k) h alone = spared n t cs _ h refl
once n t cs (action.Kill u) h alone = spared n t cs _ h refl
once n t cs (action.KillAll p) h alone = spared n t cs _ h refl
once n t cs (action.Leave u) h alone = spared n t cs _ h refl
once n t cs (action.Decline u) h alone = spared n t cs _ h refl
once n t cs (action.Expire u) h alone = spared n t cs _ h refl
once n t cs (action.Renew u) h alone = spared n t cs _ h refl
once n t cs (action.Remake u m) h alone = spared n t cs _ h refl
once n t cs (action.Spare u) h alone = spared n t cs _ h refl
once n t cs (action.Go u) h alone = spared n t cs _ h refl
once n t cs (action.Call u o) h alone = spared n t cs _ h refl
once n t cs (action.Locks u m k) h alone = spared n t cs _ h refl
once n t cs action.Phase h alone = spared n t cs _ h refl
once n t cs (action.Die u k) h alone = go (u == t) refl
  where
    go : (b : Bool) → (u == t) ≡ b → length (deaths_by t (cs ++ record { line = n; action = action.Die u k } ∷ [])) ≤ 1
    go false other = spared n t cs (action.Die u k) h (rw other refl)
    go true same =
        let its : u ≡ t = grind (arith, nat_tests) in
        let none : deaths_by t cs ≡ [] = subst (λ (v : ℕ). deaths_by v cs ≡ []) its alone in
        rw (deaths_push t cs (record { line = n; action = action.Die u k }), none, same) (omega arith)

-- a possible action more
appended : (n : ℕ) (s : Scope) (a : Action) → IsWithinLimits s → May s a → IsWithinLimits (with_action n s a)
appended n s a h p = record {
  processes_at_most = h.processes_at_most;
  bases_possible = h.bases_possible;
  threads_at_most = h.threads_at_most;
  each_thread = h.each_thread;
  members_possible = h.members_possible;
  mutexes_at_most = h.mutexes_at_most;
  conditions_at_most = h.conditions_at_most;
  conditions_possible = h.conditions_possible;
  commands_possible = All-push (λ c. IsPossible (length s.processes) (length s.threads) (length s.mutexes) (length s.conditions) c.action) s.commands (record { line = n; action = a }) h.commands_possible p.0;
  dies_once = λ t. once n t s.commands a (h.dies_once t) p.1;
}

-- a count that a line gives is in its range
abbrev IsFit : Form → Type 0
IsFit (process p base) = IfSome base (λ n. (0 ≤ n) × (n ≤ max_base))
IsFit (steps t count) = IfSome count (λ n. (1 ≤ n) × (n ≤ max_steps))
IsFit (cond c m count) = IfSome count (λ n. (0 ≤ n) × (n ≤ max_counter))
IsFit (locks t m count) = IfSome count (λ n. (1 ≤ n) × (n ≤ max_mutexes))
IsFit (dies t access) = IfSome access (λ n. (1 ≤ n) × (n ≤ max_access))
IsFit f = Unit {0}

-- what a command asks for: its parts were looked up among what the script has
calling : (s : Scope) (t : List ℕ) (c : CallForm) (make : ℕ → Op → Action) → ((i : ℕ) (k : Op) → 1 ≤ i → i ≤ length s.threads → Names (length s.mutexes) (length s.conditions) k → May s (make i k))
    → IfOk (thread_of s t >>= λ i. call_of s c >>= λ k. Ok (make i k)) (May s)
calling s t c make possible = chain (thread_of s t) (λ i. call_of s c >>= λ k. Ok (make i k)) (λ i. (1 ≤ i) × (i ≤ length s.threads)) (May s) (threaded s t)
    (λ i low. chain (call_of s c) (λ k. Ok (make i k)) (Names (length s.mutexes) (length s.conditions)) (May s) (called s c) (λ k few. possible i k low.0 low.1 few))

of_thread : (s : Scope) (t : List ℕ) (make : ℕ → Action) → ((i : ℕ) → 1 ≤ i → i ≤ length s.threads → May s (make i))
    → IfOk (thread_of s t >>= λ i. Ok (make i)) (May s)
of_thread s t make possible = chain (thread_of s t) (λ i. Ok (make i)) (λ i. (1 ≤ i) × (i ≤ length s.threads)) (May s) (threaded s t) (λ i low. possible i low.0 low.1)

of_process : (s : Scope) (p : List ℕ) → IfOk (all_killed s p) (May s)
of_process s p = chain (process_of s p) (λ i. Ok (action.KillAll i)) (λ i. (1 ≤ i) × (i ≤ length s.processes)) (May s) (processed s p) (λ i low. (low, tt))

stepping : (s : Scope) (t : List ℕ) (count : Option ℕ) → IfSome count (λ k. (1 ≤ k) × (k ≤ max_steps)) → IfOk (stepped s t count) (May s)
stepping s t None range = tt
stepping s t (Some k) range = of_thread s t (λ i. action.Step i k) (λ i low high. ((low, high, range.0, range.1), tt))

-- there is no first
none_there : (xs : List ℕ) → is_some (slice_get xs 0) ≡ false → xs ≡ []
none_there [] e = refl
none_there (x ∷ xs) e = absurd cc

dying : (s : Scope) (t : List ℕ) (access : Option ℕ) → IfSome access (λ k. (1 ≤ k) × (k ≤ max_access)) → IfOk (died s t access) (May s)
dying s t None range = tt
dying s t (Some k) range = chain (thread_of s t) (λ i. refuse (is_some (death_of i s.commands)) NoSuchName (Ok (action.Die i k))) (λ i. (1 ≤ i) × (i ≤ length s.threads)) (May s) (threaded s t)
    (λ i low. refused (is_some (death_of i s.commands)) NoSuchName (Ok (action.Die i k)) (May s) (λ first_one. ((low.0, low.1, range.0, range.1), none_there (deaths_by i s.commands) first_one)))

locking : (s : Scope) (t m : List ℕ) (count : Option ℕ) → IfSome count (λ k. (1 ≤ k) × (k ≤ max_mutexes)) → IfOk (locked s t m count) (May s)
locking s t m None range = tt
locking s t m (Some k) range = chain (first_of s m k) (λ j. thread_of s t >>= λ i. Ok (action.Locks i j k)) (λ j. j + k ≤ length s.mutexes) (May s) (reached s m k)
    (λ j few. of_thread s t (λ i. action.Locks i j k) (λ i low high. ((low, high, range.0, few), tt)))

remaking : (s : Scope) (t m : List ℕ) → IfOk (remade s t m) (May s)
remaking s t m = chain (thread_of s t) (λ i. place_of m s.mutexes >>= λ j. Ok (action.Remake i j)) (λ i. (1 ≤ i) × (i ≤ length s.threads)) (May s) (threaded s t)
    (λ i low. chain (place_of m s.mutexes) (λ j. Ok (action.Remake i j)) (λ j. j < length s.mutexes) (May s) (placed m s.mutexes) (λ j its. ((low.0, low.1, its), tt)))

-- a command more
may_ask : (n : ℕ) (s : Scope) (r : Result Action Fault) → IsWithinLimits s → IfOk r (May s) → IfOk (r >>= λ a. Ok (with_action n s a)) IsWithinLimits
may_ask n s r h may = chain r (λ a. Ok (with_action n s a)) (May s) IsWithinLimits may (λ a p. appended n s a h p)

-- the names of a script without a command are as many as may be
with_threads : (s : Scope) (names : List (List ℕ)) (p : ℕ) → IsWithinLimits s → not (length s.commands == 0) ≡ false → length names ≤ max_threads → length names ≡ length s.threads + 1 → p ≤ length s.processes
    → IsWithinLimits (record s { threads = names; members = s.members ++ p ∷ [] })
with_threads s names p h unused_yet few more known = record {
  processes_at_most = h.processes_at_most;
  bases_possible = h.bases_possible;
  threads_at_most = few;
  each_thread = let each = h.each_thread in omega (arith, each, more, length-append s.members (p ∷ []));
  members_possible = All-push (λ i. i ≤ length s.processes) s.members p h.members_possible known;
  mutexes_at_most = h.mutexes_at_most;
  conditions_at_most = h.conditions_at_most;
  conditions_possible = h.conditions_possible;
  commands_possible = unused (λ c. IsPossible (length s.processes) (length names) (length s.mutexes) (length s.conditions) c.action) s.commands unused_yet;
  dies_once = h.dies_once;
}

with_mutexes : (s : Scope) (names : List (List ℕ)) → IsWithinLimits s → not (length s.commands == 0) ≡ false → length s.mutexes ≤ length names → length names ≤ max_mutexes → IsWithinLimits (record s { mutexes = names })
with_mutexes s names h unused_yet more few = record {
  processes_at_most = h.processes_at_most;
  bases_possible = h.bases_possible;
  threads_at_most = h.threads_at_most;
  each_thread = h.each_thread;
  members_possible = h.members_possible;
  mutexes_at_most = few;
  conditions_at_most = h.conditions_at_most;
  conditions_possible = λ i c lt. let old = h.conditions_possible i c lt in let its = old.0 in (omega arith, old.1);
  commands_possible = unused (λ c. IsPossible (length s.processes) (length s.threads) (length names) (length s.conditions) c.action) s.commands unused_yet;
  dies_once = h.dies_once;
}

declared : (s : Scope) → IfOk (declares s) (λ _. not (length s.commands == 0) ≡ false)
declared s = refused (not (length s.commands == 0)) UnknownWord (Ok tt) (λ _. not (length s.commands == 0) ≡ false) (λ holds. holds)

-- a process more
with_process : (s : Scope) (w : List ℕ) (b : ℕ) → IsWithinLimits s → not (length s.commands == 0) ≡ false → nat_le max_processes (length s.processes) ≡ false → b ≤ max_base → IsWithinLimits (record s { processes = s.processes ++ (w, b) ∷ [] })
with_process s w b h unused_yet room small =
    let more = length-append s.processes ((w, b) ∷ []) in
    record {
      processes_at_most = rw more (grind (arith, nat_tests));
      bases_possible = All-push (λ p. p.1 ≤ max_base) s.processes (w, b) h.bases_possible small;
      threads_at_most = h.threads_at_most;
      each_thread = h.each_thread;
      members_possible = λ i p lt. let old = h.members_possible i p lt in omega (arith, old, more);
      mutexes_at_most = h.mutexes_at_most;
      conditions_at_most = h.conditions_at_most;
      conditions_possible = h.conditions_possible;
      commands_possible = unused (λ c. IsPossible (length (s.processes ++ (w, b) ∷ [])) (length s.threads) (length s.mutexes) (length s.conditions) c.action) s.commands unused_yet;
      dies_once = h.dies_once;
    }

declaring_process : (s : Scope) (w : List ℕ) (base : Option ℕ) → IsWithinLimits s → IfSome base (λ n. (0 ≤ n) × (n ≤ max_base)) → IfOk (process_declared s w base) IsWithinLimits
declaring_process s w None h range = chain (declares s) (λ _. ok_or None OutOfRange >>= λ b. refuse (nat_le max_processes (length s.processes)) OutOfRange (with_entry s.processes w b >>= λ ps. Ok (record s { processes = ps })))
    (λ _. not (length s.commands == 0) ≡ false) IsWithinLimits (declared s) (λ _ unused_yet. tt)
declaring_process s w (Some b) h range = chain (declares s) (λ _. refuse (nat_le max_processes (length s.processes)) OutOfRange (with_entry s.processes w b >>= λ ps. Ok (record s { processes = ps })))
    (λ _. not (length s.commands == 0) ≡ false) IsWithinLimits (declared s)
    (λ _ unused_yet. refused (nat_le max_processes (length s.processes)) OutOfRange (with_entry s.processes w b >>= λ ps. Ok (record s { processes = ps })) IsWithinLimits (λ room. by_cases unused_yet room (is_declared w (names_of s.processes)))) where
      by_cases : not (length s.commands == 0) ≡ false → nat_le max_processes (length s.processes) ≡ false → (there : Bool) → IfOk (refuse there NoSuchName (Ok (s.processes ++ (w, b) ∷ [])) >>= λ ps. Ok (record s { processes = ps })) IsWithinLimits
      by_cases unused_yet room true = tt
      by_cases unused_yet room false = with_process s w b h unused_yet room range.1

-- a thread of this process
declaring_thread : (s : Scope) (w : List ℕ) (its : Result ℕ Fault) → IsWithinLimits s → IfOk its (λ p. p ≤ length s.processes) → IfOk (thread_declared s w its) IsWithinLimits
declaring_thread s w its h known = chain (declares s) (λ _. refuse (nat_le max_threads (length s.threads)) OutOfRange (its >>= λ p. with_thread s w p)) (λ _. not (length s.commands == 0) ≡ false) IsWithinLimits (declared s)
    (λ _ unused_yet. refused (nat_le max_threads (length s.threads)) OutOfRange (its >>= λ p. with_thread s w p) IsWithinLimits
    (λ room. chain its (λ p. with_thread s w p) (λ p. p ≤ length s.processes) IsWithinLimits known (λ p low. by_cases p low unused_yet room (is_declared w s.threads)))) where
      by_cases : (p : ℕ) → p ≤ length s.processes → not (length s.commands == 0) ≡ false → nat_le max_threads (length s.threads) ≡ false → (there : Bool)
          → IfOk (refuse there NoSuchName (Ok (s.threads ++ w ∷ [])) >>= λ names. Ok (record s { threads = names; members = s.members ++ p ∷ [] })) IsWithinLimits
      by_cases p low unused_yet room true = tt
      by_cases p low unused_yet room false = let more = length-append s.threads (w ∷ []) in with_threads s (s.threads ++ w ∷ []) p h unused_yet (rw more (grind (arith, nat_tests))) more low

declaring_mutex : (s : Scope) (w : List ℕ) → IsWithinLimits s → IfOk (declares s >>= λ _. added max_mutexes s.mutexes w >>= λ names. Ok (record s { mutexes = names })) IsWithinLimits
declaring_mutex s w h = chain (declares s) (λ _. added max_mutexes s.mutexes w >>= λ names. Ok (record s { mutexes = names })) (λ _. not (length s.commands == 0) ≡ false) IsWithinLimits (declared s)
    (λ _ unused_yet. chain (added max_mutexes s.mutexes w) (λ names. Ok (record s { mutexes = names })) (λ names. (length s.mutexes ≤ length names) × (length names ≤ max_mutexes)) IsWithinLimits (grown max_mutexes s.mutexes w)
    (λ names few. with_mutexes s names h unused_yet few.0 few.1))

declaring_mutexes : (s : Scope) (w : List ℕ) (count : Option ℕ) → IsWithinLimits s
    → IfOk (declares s >>= λ _. ok_or count OutOfRange >>= λ k. several max_mutexes s.mutexes w k >>= λ names. Ok (record s { mutexes = names })) IsWithinLimits
declaring_mutexes s w count h = chain (declares s) (λ _. ok_or count OutOfRange >>= λ k. several max_mutexes s.mutexes w k >>= λ names. Ok (record s { mutexes = names })) (λ _. not (length s.commands == 0) ≡ false) IsWithinLimits (declared s)
    (λ _ unused_yet. by_cases count unused_yet) where
      by_cases : (o : Option ℕ) → not (length s.commands == 0) ≡ false → IfOk (ok_or o OutOfRange >>= λ k. several max_mutexes s.mutexes w k >>= λ names. Ok (record s { mutexes = names })) IsWithinLimits
      by_cases None unused_yet = tt
      by_cases (Some k) unused_yet = chain (several max_mutexes s.mutexes w k) (λ names. Ok (record s { mutexes = names })) (λ names. (length s.mutexes ≤ length names) × (length names ≤ max_mutexes)) IsWithinLimits (grown_by max_mutexes s.mutexes w k)
          (λ names few. with_mutexes s names h unused_yet few.0 few.1)

-- a condition variable more
with_one : (s : Scope) (w : List ℕ) (m n : ℕ) → IsWithinLimits s → not (length s.commands == 0) ≡ false → nat_le max_conditions (length s.conditions) ≡ false → m < length s.mutexes → n ≤ max_counter → IfOk (with_condition s w m n) IsWithinLimits
with_one s w m n h unused_yet room its small =
    let d : Condition = record { mutex = m; counter = n } in
    chain (with_entry s.conditions w d) (λ cs. Ok (record s { conditions = cs })) (λ cs. cs ≡ s.conditions ++ (w, d) ∷ []) IsWithinLimits
    (refused (is_declared w (condition_names s)) NoSuchName (Ok (s.conditions ++ (w, d) ∷ [])) (λ cs. cs ≡ s.conditions ++ (w, d) ∷ []) (λ new. refl))
    (λ cs is. rw is (record {
      processes_at_most = h.processes_at_most;
      bases_possible = h.bases_possible;
      threads_at_most = h.threads_at_most;
      each_thread = h.each_thread;
      members_possible = h.members_possible;
      mutexes_at_most = h.mutexes_at_most;
      conditions_at_most = rw (length-append s.conditions ((w, d) ∷ [])) (grind (arith, nat_tests));
      conditions_possible = All-push (λ c. IsCondition (length s.mutexes) c.1) s.conditions (w, d) h.conditions_possible (its, small);
      commands_possible = unused (λ c. IsPossible (length s.processes) (length s.threads) (length s.mutexes) (length (s.conditions ++ (w, d) ∷ [])) c.action) s.commands unused_yet;
      dies_once = h.dies_once;
    }))

declaring_condition : (s : Scope) (w m : List ℕ) (count : Option ℕ) → IsWithinLimits s → IfSome count (λ n. (0 ≤ n) × (n ≤ max_counter)) → IfOk (condition_declared s w m count) IsWithinLimits
declaring_condition s w m None h range = chain (declares s) (λ _. ok_or None OutOfRange >>= λ n. refuse (nat_le max_conditions (length s.conditions)) OutOfRange (place_of m s.mutexes >>= λ j. with_condition s w j n))
    (λ _. not (length s.commands == 0) ≡ false) IsWithinLimits (declared s) (λ _ unused_yet. tt)
declaring_condition s w m (Some n) h range = chain (declares s) (λ _. refuse (nat_le max_conditions (length s.conditions)) OutOfRange (place_of m s.mutexes >>= λ j. with_condition s w j n))
    (λ _. not (length s.commands == 0) ≡ false) IsWithinLimits (declared s)
    (λ _ unused_yet. refused (nat_le max_conditions (length s.conditions)) OutOfRange (place_of m s.mutexes >>= λ j. with_condition s w j n) IsWithinLimits
    (λ room. chain (place_of m s.mutexes) (λ j. with_condition s w j n) (λ j. j < length s.mutexes) IsWithinLimits (placed m s.mutexes)
    (λ j its. with_one s w j n h unused_yet room its range.1)))

entered : (n : ℕ) (s : Scope) (f : Form) → IsWithinLimits s → IsFit f → IfOk (enter n s f) IsWithinLimits
entered n s silent h k = h
entered n s (process w base) h k = declaring_process s w base h k
entered n s (thread w) h k = declaring_thread s w (Ok 0) h (omega arith)
entered n s (member w p) h k = declaring_thread s w (process_of s p) h (weaker (process_of s p) (processed s p)) where
  weaker : (r : Result ℕ Fault) → IfOk r (λ i. (1 ≤ i) × (i ≤ length s.processes)) → IfOk r (λ i. i ≤ length s.processes)
  weaker (Ok i) h = h.1
  weaker (Err f) h = tt
entered n s (mutex w) h k = declaring_mutex s w h
entered n s (mutexes w count) h k = declaring_mutexes s w count h
entered n s (cond w m count) h k = declaring_condition s w m count h k
entered n s (begins t c) h k = may_ask n s (begun s t c) h (calling s t c (λ i x. action.Begin i x) (λ i x low high few. ((low, high, few), tt)))
entered n s (steps t count) h k = may_ask n s (stepped s t count) h (stepping s t count k)
entered n s (kills t) h k = may_ask n s (killed s t) h (of_thread s t (λ i. action.Kill i) (λ i low high. ((low, high), tt)))
entered n s (kills_all p) h k = may_ask n s (all_killed s p) h (of_process s p)
entered n s (goes t) h k = may_ask n s (gone s t) h (of_thread s t (λ i. action.Go i) (λ i low high. ((low, high), tt)))
entered n s (leaves t) h k = may_ask n s (left s t) h (of_thread s t (λ i. action.Leave i) (λ i low high. ((low, high), tt)))
entered n s (declines t) h k = may_ask n s (declined s t) h (of_thread s t (λ i. action.Decline i) (λ i low high. ((low, high), tt)))
entered n s (expires t) h k = may_ask n s (expired s t) h (of_thread s t (λ i. action.Expire i) (λ i low high. ((low, high), tt)))
entered n s (renews t) h k = may_ask n s (renewed s t) h (of_thread s t (λ i. action.Renew i) (λ i low high. ((low, high), tt)))
entered n s (remakes t m) h k = may_ask n s (remade s t m) h (remaking s t m)
entered n s (spares t) h k = may_ask n s (wake_spared s t) h (of_thread s t (λ i. action.Spare i) (λ i low high. ((low, high), tt)))
entered n s (calls t c) h k = may_ask n s (made s t c) h (calling s t c (λ i x. action.Call i x) (λ i x low high few. ((low, high, few), tt)))
entered n s (locks t m count) h k = may_ask n s (locked s t m count) h (locking s t m count k)
entered n s phase h k = appended n s action.Phase h (tt, tt)
entered n s (dies t access) h k = may_ask n s (died s t access) h (dying s t access k)

-- each form's count is in its range
either : (b : Bool) (x y : Option Form) → IfSome x IsFit → IfSome y IsFit → IfSome (if b then x else y) IsFit
either true x y p q = p
either false x y p q = q

first : (x y : Option Form) → IfSome x IsFit → IfSome y IsFit → IfSome (or_else x y) IsFit
first (Some f) y p q = p
first None y p q = q

in_range : (least most n : ℕ) → IfSome (within least most n) (λ k. (least ≤ k) × (k ≤ most))
in_range least most n = by_cases (nat_le least n) (nat_le n most) (λ e. leb-true _ _ e) (λ e. leb-true _ _ e) where
  by_cases : (low high : Bool) → (low ≡ true → least ≤ n) → (high ≡ true → n ≤ most) → IfSome (if low && high then Some n else None) (λ k. (least ≤ k) × (k ≤ most))
  by_cases true true p q = (p refl, q refl)
  by_cases true false p q = tt
  by_cases false high p q = tt

fit_name : (w a : List ℕ) → IfSome (name_form w a) IsFit
fit_name w a = either (not (is_name a)) None _ tt (either (bytes_eq w _) (Some (thread a)) _ tt (either (bytes_eq w _) (Some (mutex a)) _ tt
    (either (bytes_eq w _) (Some (kills a)) _ tt (either (bytes_eq w _) (Some (kills_all a)) _ tt (either (bytes_eq w _) (Some (goes a)) _ tt
    (either (bytes_eq w _) (Some (leaves a)) _ tt (either (bytes_eq w _) (Some (declines a)) _ tt (either (bytes_eq w _) (Some (renews a)) _ tt
    (either (bytes_eq w _) (Some (spares a)) _ tt (either (bytes_eq w _) (Some (expires a)) None tt tt))))))))))

fit_step : (w t n : List ℕ) → IfSome (step_form w t n) IsFit
fit_step w t n = either (bytes_eq w _ && is_name t && is_number n) (Some (steps t (within 1 max_steps (digits_value 10 n)))) None (in_range 1 max_steps (digits_value 10 n)) tt

fit_die : (w t n : List ℕ) → IfSome (die_form w t n) IsFit
fit_die w t n = either (bytes_eq w _ && is_name t && is_number n) (Some (dies t (within 1 max_access (digits_value 10 n)))) None (in_range 1 max_access (digits_value 10 n)) tt

fit_mutexes : (w a n : List ℕ) → IfSome (mutexes_form w a n) IsFit
fit_mutexes w a n = either (bytes_eq w _ && is_stem a && is_number n) (Some (mutexes a (within 1 max_mutexes (digits_value 10 n)))) None tt tt

fit_process : (w p n : List ℕ) → IfSome (process_form w p n) IsFit
fit_process w p n = either (bytes_eq w _ && is_name p && is_number n) (Some (process p (within 0 max_base (digits_value 10 n)))) None (in_range 0 max_base (digits_value 10 n)) tt

fit_member : (w t p : List ℕ) → IfSome (member_form w t p) IsFit
fit_member w t p = either (bytes_eq w _ && is_name t && is_name p) (Some (member t p)) None tt tt

fit_remake : (w t m : List ℕ) → IfSome (remake_form w t m) IsFit
fit_remake w t m = either (bytes_eq w _ && is_name t && is_name m) (Some (remakes t m)) None tt tt

fit_locks : (w t m n : List ℕ) → IfSome (locks_form w t m n) IsFit
fit_locks w t m n = either (bytes_eq w _ && is_name t && is_name m && is_number n) (Some (locks t m (within 1 max_mutexes (digits_value 10 n)))) None (in_range 1 max_mutexes (digits_value 10 n)) tt

fit_cond : (w c m n : List ℕ) → IfSome (cond_form w c m n) IsFit
fit_cond w c m n = either (bytes_eq w _ && is_name c && is_name m && is_number n) (Some (cond c m (within 0 max_counter (digits_value 10 n)))) None (in_range 0 max_counter (digits_value 10 n)) tt

fit_call : (w t : List ℕ) (c : Option CallForm) → IfSome (option_and_then (calling_form w t) c) IsFit
fit_call w t None = tt
fit_call w t (Some c) = either (not (is_name t)) None _ tt (either (bytes_eq w _) (Some (begins t c)) _ tt (either (bytes_eq w _) (Some (calls t c)) None tt tt))

fit_words : (ws : List (List ℕ)) → IfSome (words_form ws) IsFit
fit_words [] = tt
fit_words (w ∷ []) = either (bytes_eq w _) (Some phase) None tt tt
fit_words (w ∷ a ∷ []) = fit_name w a
fit_words (w ∷ a ∷ n ∷ []) = first (step_form w a n) (or_else (die_form w a n) (or_else (mutexes_form w a n) (or_else (process_form w a n) (or_else (member_form w a n) (remake_form w a n))))) (fit_step w a n)
    (first (die_form w a n) (or_else (mutexes_form w a n) (or_else (process_form w a n) (or_else (member_form w a n) (remake_form w a n)))) (fit_die w a n)
    (first (mutexes_form w a n) (or_else (process_form w a n) (or_else (member_form w a n) (remake_form w a n))) (fit_mutexes w a n)
    (first (process_form w a n) (or_else (member_form w a n) (remake_form w a n)) (fit_process w a n) (first (member_form w a n) (remake_form w a n) (fit_member w a n) (fit_remake w a n)))))
fit_words (w ∷ t ∷ c ∷ m ∷ []) = first (locks_form w t c m) (or_else (cond_form w t c m) (option_and_then (calling_form w t) (call_form c m))) (fit_locks w t c m)
    (first (cond_form w t c m) (option_and_then (calling_form w t) (call_form c m)) (fit_cond w t c m) (fit_call w t (call_form c m)))
fit_words (w ∷ t ∷ c ∷ m ∷ x ∷ more) = tt

-- a mode has fewer forms
kept : (k : Mode) (o : Option Form) → IfSome o IsFit → IfSome (option_and_then (of_mode k) o) IsFit
kept k None h = tt
kept k (Some f) h = either (has k f) (Some f) None h tt

fit : (k : Mode) (text : List ℕ) → IfSome (form_of k text) IsFit
fit k text = either (is_silent text) (Some silent) (option_and_then (of_mode k) (words_form (words_of text))) tt (kept k (words_form (words_of text)) (fit_words (words_of text)))

-- a line that is read keeps the limits
pub line_within : (n : ℕ) (s : Scope) (text : List ℕ) → IsWithinLimits s → IfOk (line_read n s text) IsWithinLimits
line_within n s text h = refused (nat_lt max_lines n) TooLong (ok_or (form_of s.mode text) UnknownWord >>= λ f. enter n s f) IsWithinLimits (λ _. by_cases (form_of s.mode text) (fit s.mode text)) where
  by_cases : (o : Option Form) → IfSome o IsFit → IfOk (ok_or o UnknownWord >>= λ f. enter n s f) IsWithinLimits
  by_cases None c = tt
  by_cases (Some f) c = entered n s f h c

pub line_keeps : (n : ℕ) (s t : Scope) (text : List ℕ) → IsWithinLimits s → line_read n s text ≡ Ok t → IsWithinLimits t
line_keeps n s t text h read = rw read at (line_within n s text h)
