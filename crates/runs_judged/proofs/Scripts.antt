-- A script that isn't too long to play is judged legal.
use Rattle.std.proofs.Common.{◌≡◌, ℕ, ◌+◌, ◌≤◌, ◌==◌, Bool, true, false, not, ◌||◌, Some, None, Result, Ok, Err, IfOk, List, [], ◌∷◌, ◌++◌, length, refl, ap, subst, arith, length-append}
use Rattle.std.specs.Prelude.{if◌then◌else◌, nat_lt}
use Rattle.std.proofs.lemmas.Bool.Decides.{nat_tests}
use Rattle.std.proofs.lemmas.List.{length-map}
use Rattle.std.proofs.lemmas.List.Elements.{All-nil}
use Rattle.protocol.specs.declared.event.Event.{Event}
use Rattle.protocol.specs.Machine.{State, run, notes}
use Rattle.script.specs.declared.command.Command.{Command}
use Rattle.script.specs.Limits.{max_bytes, max_lines, max_base, max_events}
use Rattle.script.specs.declared.command.Mode.{Mode}
use Rattle.script.specs.declared.fault.Fault.{Fault}
use Rattle.script.specs.declared.fault.Fault.TheVariants.{NotUtf8, UnknownWord, OutOfRange, TooLong}
use Rattle.script.specs.declared.fault.ScriptFault.{ScriptFault}
use Rattle.script.specs.Scope.{Scope, IsPossible, IsCondition, IsWithinLimits, IsWellFormed}
use Rattle.script.specs.Reading.{refuse, nothing, fault_at, met_at, line_read, finished, lines_read, text_read, script_read}
use Rattle.script.proofs.Bounds.{line_within}
use Rattle.script.proofs.Firsts.{is_layout}
use Rattle.lines.specs.Faults.{◌>>=◌}
use Rattle.lines.specs.Lines.{lines_of, bad_line}
use Rattle.lines.proofs.Cutting.{one_or_more}
use Rattle.std.specs.Str.{is_utf8}
use Rattle.script.specs.Playing.{layout_of, counter_of, first_state, events_of, events_from, events_in, overlong_from, overlong}
use Rattle.verdict.specs.declared.head.Head.{Head}
use Rattle.runs_judged.specs.Judged.{IsJudgedLegal, head_of, script_head, ScriptsAreJudgedLegal, PrintedRunsAreLegal}
use Rattle.runs_judged.proofs.Judging.{judged}

within_from : (n : ℕ) (s : State) (cs : List Command) → n ≤ max_events → overlong_from n s cs ≡ None → n + length (events_from s cs) ≤ max_events
within_from n s [] most none = omega (arith, most)
within_from n s (c ∷ cs) most none = go (nat_lt max_events (n + length es)) refl none (within_from (n + length es) (run s es) cs)
  where
    es : List Event
    es = events_of s c.action

    go : (b : Bool) → nat_lt max_events (n + length es) ≡ b → (if b then Some c.line else overlong_from (n + length es) (run s es) cs) ≡ None
        → (n + length es ≤ max_events → overlong_from (n + length es) (run s es) cs ≡ None → n + length es + length (events_from (run s es) cs) ≤ max_events) → n + length (es ++ events_from (run s es) cs) ≤ max_events
    go true e h rest = absurd cc
    go false e h rest =
        let fits : n + length es ≤ max_events = grind (arith, nat_tests) in
        let more = rest fits h in
        omega (arith, length-append es (events_from (run s es) cs), more)

-- a script has as many condition variables as its layout
same_head : (s : Scope) → head_of (layout_of s) ≡ script_head s
same_head s = ap (λ (k : ℕ). record { threads = length s.threads; mutexes = length s.mutexes; conditions = k }) (length-map s.conditions (λ c. c.1.mutex))

pub scripts_judged : ScriptsAreJudgedLegal
scripts_judged s whole none =
    let few = within_from 0 (first_state s) s.commands (omega arith) none in
    subst (λ (h : Head). IsJudgedLegal h (notes (first_state s) (events_in s))) (same_head s) (judged (layout_of s) (counter_of s) (events_in s) (is_layout s whole) whole.within.threads_at_most (omega (arith, few)))

-- ---- what is read is well formed

refused : {A : Type 0} (b : Bool) (f : Fault) (r : Result A Fault) (P : A → Type 0) → (b ≡ false → IfOk r P) → IfOk (refuse b f r) P
refused true f r P h = tt
refused false f r P h = h refl

some_there : (n : ℕ) → (n == 0) ≡ false → 1 ≤ n
some_there n e = grind (arith, nat_tests)

neither : (a b : Bool) → (a || b) ≡ false → (a ≡ false) × (b ≡ false)
neither true b e = absurd cc
neither false b e = (refl, e)

finished_well : (n : ℕ) (s : Scope) (text : List ℕ) → IsWithinLimits s → IfOk (finished n s text) IsWellFormed
finished_well n s text within =
    refused (not (length text == 0)) (if nat_lt max_lines n then TooLong else UnknownWord) (refuse (length s.threads == 0 || length s.mutexes == 0) OutOfRange (Ok s)) IsWellFormed
    (λ empty. refused (length s.threads == 0 || length s.mutexes == 0) OutOfRange (Ok s) IsWellFormed
    (λ some. let both = neither (length s.threads == 0) (length s.mutexes == 0) some in record { some_thread = some_there (length s.threads) both.0; some_mutex = some_there (length s.mutexes) both.1; within = within }))

met : {A : Type 0} (n : ℕ) (r : Result A Fault) (P : A → Type 0) → IfOk r P → IfOk (met_at n r) P
met n (Ok x) P h = h
met n (Err f) P h = tt

lines_well : (n : ℕ) (s : Scope) (ls : List (List ℕ)) → 1 ≤ length ls → IsWithinLimits s → IfOk (lines_read n s ls) IsWellFormed
unfolding lines_read
lines_well n s [] some within = absurd (omega (arith, some))
lines_well n s (text ∷ []) some within = met n (finished n s text) IsWellFormed (finished_well n s text within)
lines_well n s (text ∷ next ∷ more) some within = go (line_read n s text) (line_within n s text within) (λ t in_it. lines_well (n + 1) t (next ∷ more) (omega arith) in_it)
  where
    go : (r : Result Scope Fault) → IfOk r IsWithinLimits → ((t : Scope) → IsWithinLimits t → IfOk (lines_read (n + 1) t (next ∷ more)) IsWellFormed) → IfOk (met_at n r >>= λ t. lines_read (n + 1) t (next ∷ more)) IsWellFormed
    go (Ok t) in_it rest = rest t in_it
    go (Err f) in_it rest = tt

nothing_within : (k : Mode) → IsWithinLimits (nothing k)
nothing_within k = record {
  processes_at_most = omega arith;
  bases_possible = All-nil (λ p. p.1 ≤ max_base);
  threads_at_most = omega arith;
  each_thread = refl;
  members_possible = All-nil (λ p. p ≤ 0);
  mutexes_at_most = omega arith;
  conditions_at_most = omega arith;
  conditions_possible = All-nil (λ c. IsCondition 0 c.1);
  commands_possible = All-nil (λ c. IsPossible 0 0 0 0 c.action);
  dies_once = λ t. omega arith;
}

read_well : (k : Mode) (bytes : List ℕ) → IfOk (script_read k bytes) IsWellFormed
read_well k bytes = go (nat_lt max_bytes (length bytes)) (is_utf8 bytes)
  where
    go : (long valid : Bool) → IfOk (if long then Err (fault_at 1 TooLong) else (if valid then text_read k bytes else Err (fault_at (bad_line bytes) NotUtf8))) IsWellFormed
    go true valid = tt
    go false false = tt
    go false true = lines_well 1 (nothing k) (lines_of bytes) (one_or_more (λ b. b == 10) bytes) (nothing_within k)

-- whatever the bytes
pub printed : PrintedRunsAreLegal
printed k bytes = go (script_read k bytes) (read_well k bytes)
  where
    go : (r : Result Scope ScriptFault) → IfOk r IsWellFormed → IfOk r (λ s. overlong s ≡ None → IsJudgedLegal (script_head s) (notes (first_state s) (events_in s)))
    go (Ok s) whole = λ none. scripts_judged s whole none
    go (Err e) whole = tt
