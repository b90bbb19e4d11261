-- The calls of a script's phases are on its mutexes and condition variables.
use Rattle.std.proofs.Common.{◌≡◌, ℕ, zero, suc, ◌<◌, ◌==◌, Bool, true, false, List, [], ◌∷◌, ◌++◌, length, map, All, slice_index_or, refl, sym, subst, arith}
use Rattle.std.specs.Prelude.{if◌then◌else◌}
use Rattle.std.specs.List.{slice_split, onto_first}
use Rattle.std.proofs.lemmas.Bool.Decides.{nat_tests}
use Rattle.memorymap.specs.Layouts.{Layout'}
use Rattle.condvar.specs.declared.op.Op.{Op}
use Rattle.condvar.specs.declared.op.Op.TheVariants.{OnMutex, OnCondition}
use Rattle.condvar.specs.Ops.{is_in}
use Rattle.script.specs.declared.command.Action.{Action}
use Rattle.script.specs.declared.command.Action.TheVariants as action
use Rattle.script.specs.declared.command.Command.{Command}
use Rattle.script.specs.declared.workload.Phase.{Phase}
use Rattle.script.specs.Scope.{Scope, Names, IsPossible, IsWellFormed}
use Rattle.script.specs.Playing.{layout_of}
use Rattle.script.proofs.Names.{length-map_of}
use Rattle.script.specs.Jobs.{Job', ends_phase, call_by, calls_by, job_of, jobs_up_to, jobs_of, job_seen, jobs_seen}
use Rattle.report.specs.Threads.{ArePossible, AreRightPhases}

-- so of each item
Each : {A : Type 0} → (A → Type 0) → List A → Type 0
Each P [] = Unit {0}
Each P (x ∷ xs) = P x × Each P xs

to_each : {A : Type 0} (P : A → Type 0) (xs : List A) → All P xs → Each P xs
unfolding Each
to_each P [] all = tt
to_each P (x ∷ xs) all = (all 0 x (omega arith), to_each P xs (λ k d lt. all (suc k) d (omega (arith, lt))))

from_each : {A : Type 0} (P : A → Type 0) (xs : List A) → Each P xs → (k : ℕ) (d : A) → k < length xs → P (slice_index_or xs k d)
unfolding Each
from_each P [] each k d lt = absurd (omega (arith, lt))
from_each P (x ∷ xs) each zero d lt = each.0
from_each P (x ∷ xs) each (suc k) d lt = from_each P xs each.1 k d (omega (arith, lt))

each-append : {A : Type 0} (P : A → Type 0) (xs ys : List A) → Each P xs → Each P ys → Each P (xs ++ ys)
unfolding Each
each-append P [] ys a b = b
each-append P (x ∷ xs) ys a b = (a.0, each-append P xs ys a.1 b)

-- a call on what the layout has
abbrev IsOn : Layout' → Op → Type 0
IsOn k c = is_in k c ≡ true

abbrev IsFine : ℕ → ℕ → ℕ → ℕ → Command → Type 0
IsFine p n m d c = IsPossible p n m d c.action

-- what a script names is in its layout
named : (k : Layout') (m d : ℕ) (c : Op) → k.mutexes ≡ m → length k.conditions ≡ d → Names m d c → IsOn k c
named k m d (OnMutex c) mutexes conditions low = grind (arith, nat_tests)
named k m d (OnCondition c) mutexes conditions low = grind (arith, nat_tests)

by_action : (k : Layout') (p n m d t : ℕ) (a : Action) → k.mutexes ≡ m → length k.conditions ≡ d → IsPossible p n m d a → Each (IsOn k) (call_by t a)
unfolding Each
by_action k p n m d t (action.Begin u o) mutexes conditions fine = tt
by_action k p n m d t (action.Step u o) mutexes conditions fine = tt
by_action k p n m d t (action.Kill u) mutexes conditions fine = tt
by_action k p n m d t (action.KillAll q) mutexes conditions fine = tt
by_action k p n m d t (action.Go u) mutexes conditions fine = tt
by_action k p n m d t (action.Leave u) mutexes conditions fine = tt
by_action k p n m d t (action.Decline u) mutexes conditions fine = tt
by_action k p n m d t (action.Expire u) mutexes conditions fine = tt
by_action k p n m d t (action.Renew u) mutexes conditions fine = tt
by_action k p n m d t (action.Remake u m2) mutexes conditions fine = tt
by_action k p n m d t (action.Spare u) mutexes conditions fine = tt
by_action k p n m d t (action.Die u o) mutexes conditions fine = tt
by_action k p n m d t (action.Locks u j o) mutexes conditions fine = tt
by_action k p n m d t action.Phase mutexes conditions fine = tt
by_action k p n m d t (action.Call u c) mutexes conditions fine = go (u == t)
  where
    go : (b : Bool) → Each (IsOn k) (if b then c ∷ [] else [])
    go true = (named k m d c mutexes conditions fine.2, tt)
    go false = tt

by_thread : (k : Layout') (p n m d t : ℕ) (cs : List Command) → k.mutexes ≡ m → length k.conditions ≡ d → Each (IsFine p n m d) cs → Each (IsOn k) (calls_by t cs)
unfolding Each
by_thread k p n m d t [] mutexes conditions fine = tt
by_thread k p n m d t (c ∷ cs) mutexes conditions fine = each-append (IsOn k) (call_by t c.action) (calls_by t cs) (by_action k p n m d t c.action mutexes conditions fine.0) (by_thread k p n m d t cs mutexes conditions fine.1)

-- a job's calls
abbrev IsJobOn : Layout' → Job' → Type 0
IsJobOn k j = Each (IsOn k) j.calls

one_job : (k : Layout') (t : ℕ) (calls : List Op) → Each (IsOn k) calls → Each (IsJobOn k) (job_of t calls)
unfolding Each
one_job k t [] fine = tt
one_job k t (c ∷ cs) fine = (fine, tt)

phase_jobs : (k : Layout') (p n m d j : ℕ) (cs : List Command) → k.mutexes ≡ m → length k.conditions ≡ d → Each (IsFine p n m d) cs → Each (IsJobOn k) (jobs_up_to j cs)
unfolding Each
phase_jobs k p n m d zero cs mutexes conditions fine = tt
phase_jobs k p n m d (suc j) cs mutexes conditions fine =
    each-append (IsJobOn k) (jobs_up_to j cs) (job_of (suc j) (calls_by (suc j) cs)) (phase_jobs k p n m d j cs mutexes conditions fine) (one_job k (suc j) (calls_by (suc j) cs) (by_thread k p n m d (suc j) cs mutexes conditions fine))

-- each part of a list
first_too : {A : Type 0} (P : A → Type 0) (x : A) (parts : List (List A)) → P x → Each (Each P) parts → Each (Each P) (onto_first x parts)
unfolding Each
first_too P x [] one each = ((one, tt), tt)
first_too P x (p ∷ parts) one each = ((one, each.0), each.1)

parts_too : {A : Type 0} (P : A → Type 0) (f : A → Bool) (xs : List A) → Each P xs → Each (Each P) (slice_split f xs)
unfolding Each
parts_too P f [] each = (tt, tt)
parts_too P f (x ∷ xs) each = go (f x) (parts_too P f xs each.1)
  where
    go : (b : Bool) → Each (Each P) (slice_split f xs) → Each (Each P) (if b then [] ∷ slice_split f xs else onto_first x (slice_split f xs))
    go true rest = (tt, rest)
    go false rest = first_too P x (slice_split f xs) each.0 rest

each-map : {A B : Type 0} (P : A → Type 0) (Q : B → Type 0) (f : A → B) → ((a : A) → P a → Q (f a)) → (xs : List A) → Each P xs → Each Q (map f xs)
unfolding Each
each-map P Q f go [] each = tt
each-map P Q f go (x ∷ xs) each = (go x each.0, each-map P Q f go xs each.1)

each-unmap : {A B : Type 0} (P : A → Type 0) (Q : B → Type 0) (f : A → B) → ((a : A) → Q (f a) → P a) → (xs : List A) → Each Q (map f xs) → Each P xs
unfolding Each
each-unmap P Q f go [] each = tt
each-unmap P Q f go (x ∷ xs) each = (go x each.0, each-unmap P Q f go xs each.1)

pub right_phases : (s : Scope) (phases : List Phase) → IsWellFormed s → map jobs_seen phases ≡ jobs_of s → AreRightPhases (layout_of s) phases
right_phases s phases whole is =
    let p = length s.processes in
    let n = length s.threads in
    let m = length s.mutexes in
    let d = length s.conditions in
    let k = layout_of s in
    let fine : Each (IsFine p n m d) s.commands = to_each (IsFine p n m d) s.commands whole.within.commands_possible in
    let asked : Each (Each (IsJobOn k)) (jobs_of s) = each-map (Each (IsFine p n m d)) (Each (IsJobOn k)) (jobs_up_to n) (λ cs. phase_jobs k p n m d n cs refl (length-map_of (λ c. c.1.mutex) s.conditions)) (slice_split ends_phase s.commands) (parts_too (IsFine p n m d) ends_phase s.commands fine) in
    let seen : Each (Each (IsJobOn k)) (map jobs_seen phases) = subst (Each (Each (IsJobOn k))) (sym is) asked in
    from_each (λ p. All (λ j. ArePossible k j.calls) p.jobs.items) phases
    (each-unmap (λ p. All (λ j. ArePossible k j.calls) p.jobs.items) (Each (IsJobOn k)) jobs_seen
    (λ p jobs. from_each (λ j. ArePossible k j.calls) p.jobs.items (each-unmap (λ j. ArePossible k j.calls) (IsJobOn k) job_seen (λ j calls. from_each (IsOn k) j.calls.items calls) p.jobs.items jobs)) phases seen)
