-- Lines read at other numbers say the same, and silent lines say nothing.
use Rattle.std.proofs.Common.{◌≡◌, ℕ, ◌+◌, ◌<◌, ◌≤◌, ◌==◌, ◌||◌, Bool, false, true, not, nat_le, nat_lt, List, [], ◌∷◌, ◌++◌, length, map, Option, Some, None, Result, Ok, Err, refl, sym, ap, ◌∙◌, arith, length-append}
use Rattle.std.specs.Option.{ok_or, is_some}
use Rattle.std.proofs.lemmas.Bool.{le-ltb}
use Rattle.script.specs.Forms.{CallForm, lock, trylock, timedlock, unlock, consistent, wait, timedwait, signal, broadcast, Form, silent, process, thread, member, mutex, mutexes, cond, begins, steps, kills, kills_all, goes, leaves, declines, expires, renews, remakes, spares, calls, locks, phase, dies, form_of, is_silent}
use Rattle.script.specs.Deaths.{deaths_by, death_of}
use Rattle.script.specs.Scope.{Scope}
use Rattle.script.specs.Reading.{refuse, place_of, process_of, thread_of, added, several, declares, died, with_name, with_entry, thread_declared, call_of, begun, stepped, killed, all_killed, gone, left, declined, expired, renewed, remade, wake_spared, made, locked, with_action, enter, met_at, line_read, finished, lines_read, nothing}
use Rattle.lines.specs.Faults.{◌>>=◌}
use Rattle.script.specs.Silence.{unplaced, without_lines, outcome, SilentLinesSayNothing}
use Rattle.script.specs.declared.command.Action.{Action}
use Rattle.script.specs.declared.command.Action.TheVariants as action
use Rattle.script.specs.declared.command.Command.{Command}
use Rattle.script.specs.declared.fault.Fault.{Fault}
use Rattle.script.specs.declared.fault.Fault.TheVariants.{UnknownWord, OutOfRange, NoSuchName}
use Rattle.script.specs.declared.fault.ScriptFault.{ScriptFault}
use Rattle.script.specs.Limits.{max_lines, max_processes, max_threads, max_mutexes, max_conditions}

-- one line's outcome
abbrev meant : Result Scope Fault → Result Scope Fault
meant (Ok s) = Ok (without_lines s)
meant (Err f) = Err f

twice : (cs : List Command) → map unplaced (map unplaced cs) ≡ map unplaced cs
twice [] = refl
twice (c ∷ cs) = rw (twice cs) refl

same_length : (cs : List Command) → length (map unplaced cs) ≡ length cs
same_length [] = refl
same_length (c ∷ cs) = rw (same_length cs) refl

pushed : (n : ℕ) (a : Action) (cs : List Command) → map unplaced (cs ++ record { line = n; action = a } ∷ []) ≡ map unplaced (map unplaced cs ++ record { line = 0; action = a } ∷ [])
pushed n a [] = refl
pushed n a (c ∷ cs) = rw (pushed n a cs) refl

-- two chains from one thing
alike : {A : Type 0} (r : Result A Fault) (f g : A → Result Scope Fault) → ((x : A) → meant (f x) ≡ meant (g x)) → meant (r >>= f) ≡ meant (r >>= g)
alike (Ok x) f g h = h x
alike (Err e) f g h = refl

-- one test before two things
tested : (b : Bool) (f : Fault) (r q : Result Scope Fault) → meant r ≡ meant q → meant (refuse b f r) ≡ meant (refuse b f q)
tested true f r q h = refl
tested false f r q h = h

same_call : (s : Scope) (c : CallForm) → call_of (without_lines s) c ≡ call_of s c
same_call s (lock m) = refl
same_call s (trylock m) = refl
same_call s (timedlock m) = refl
same_call s (unlock m) = refl
same_call s (consistent m) = refl
same_call s (wait c) = refl
same_call s (timedwait c) = refl
same_call s (signal c) = refl
same_call s (broadcast c) = refl

same_declares : (s : Scope) → declares (without_lines s) ≡ declares s
same_declares s = rw (same_length s.commands) refl

acted : (n : ℕ) (s : Scope) (a : Action) → meant (Ok (with_action n s a)) ≡ meant (Ok (with_action 0 (without_lines s) a))
acted n s a = rw (pushed n a s.commands) refl

same_begin : (s : Scope) (t : List ℕ) (c : CallForm) → begun (without_lines s) t c ≡ begun s t c
same_begin s t c = rw (same_call s c) refl

same_make : (s : Scope) (t : List ℕ) (c : CallForm) → made (without_lines s) t c ≡ made s t c
same_make s t c = rw (same_call s c) refl

same_deaths : (t : ℕ) (cs : List Command) → deaths_by t (map unplaced cs) ≡ deaths_by t cs
same_deaths t [] = refl
same_deaths t (c ∷ cs) = rw (same_deaths t cs) refl

same_death : (s : Scope) (t : List ℕ) (access : Option ℕ) → died (without_lines s) t access ≡ died s t access
same_death s t None = refl
same_death s t (Some k) = go (thread_of s t)
  where
    go : (r : Result ℕ Fault) → (r >>= λ i. refuse (is_some (death_of i (map unplaced s.commands))) NoSuchName (Ok (action.Die i k))) ≡ (r >>= λ i. refuse (is_some (death_of i s.commands)) NoSuchName (Ok (action.Die i k)))
    go (Ok i) = rw (same_deaths i s.commands) refl
    go (Err f) = refl

same_thread : (s : Scope) (w : List ℕ) (its : Result ℕ Fault) → meant (thread_declared s w its) ≡ meant (thread_declared (without_lines s) w its)
same_thread s w its =
    rw (same_declares s) (alike (declares s) _ _ (λ _. tested (nat_le max_threads (length s.threads)) OutOfRange _ _ (alike its _ _ (λ p. alike (with_name s.threads w) _ _ (λ names. rw (twice s.commands) refl)))))

-- what a line adds does not depend on lines
same_enter : (n : ℕ) (s : Scope) (f : Form) → meant (enter n s f) ≡ meant (enter 0 (without_lines s) f)
same_enter n s silent = rw (twice s.commands) refl
same_enter n s (process w base) =
    rw (same_declares s) (alike (declares s) _ _ (λ _. alike (ok_or base OutOfRange) _ _ (λ b.
    tested (nat_le max_processes (length s.processes)) OutOfRange _ _ (alike (with_entry s.processes w b) _ _ (λ ps. rw (twice s.commands) refl)))))
same_enter n s (thread w) = same_thread s w (Ok 0)
same_enter n s (member w p) = same_thread s w (process_of s p)
same_enter n s (mutex w) = rw (same_declares s) (alike (declares s) _ _ (λ _. alike (added max_mutexes s.mutexes w) _ _ (λ names. rw (twice s.commands) refl)))
same_enter n s (mutexes w count) =
    rw (same_declares s) (alike (declares s) _ _ (λ _. alike (ok_or count OutOfRange) _ _ (λ k. alike (several max_mutexes s.mutexes w k) _ _ (λ names. rw (twice s.commands) refl))))
same_enter n s (cond w m counter) =
    rw (same_declares s) (alike (declares s) _ _ (λ _. alike (ok_or counter OutOfRange) _ _ (λ k.
    tested (nat_le max_conditions (length s.conditions)) OutOfRange _ _ (alike (place_of m s.mutexes) _ _ (λ j.
    alike (with_entry s.conditions w (record { mutex = j; counter = k })) _ _ (λ cs. rw (twice s.commands) refl))))))
same_enter n s (begins t c) = rw (same_begin s t c) (alike (begun s t c) _ _ (λ a. acted n s a))
same_enter n s (steps t count) = alike (stepped s t count) _ _ (λ a. acted n s a)
same_enter n s (kills t) = alike (killed s t) _ _ (λ a. acted n s a)
same_enter n s (kills_all p) = alike (all_killed s p) _ _ (λ a. acted n s a)
same_enter n s (goes t) = alike (gone s t) _ _ (λ a. acted n s a)
same_enter n s (leaves t) = alike (left s t) _ _ (λ a. acted n s a)
same_enter n s (declines t) = alike (declined s t) _ _ (λ a. acted n s a)
same_enter n s (expires t) = alike (expired s t) _ _ (λ a. acted n s a)
same_enter n s (renews t) = alike (renewed s t) _ _ (λ a. acted n s a)
same_enter n s (remakes t m) = alike (remade s t m) _ _ (λ a. acted n s a)
same_enter n s (spares t) = alike (wake_spared s t) _ _ (λ a. acted n s a)
same_enter n s (calls t c) = rw (same_make s t c) (alike (made s t c) _ _ (λ a. acted n s a))
same_enter n s (locks t m count) = alike (locked s t m count) _ _ (λ a. acted n s a)
same_enter n s phase = acted n s action.Phase
same_enter n s (dies t access) = rw (same_death s t access) (alike (died s t access) _ _ (λ a. acted n s a))

same_line : (n : ℕ) (s : Scope) (text : List ℕ) → n ≤ max_lines → meant (line_read n s text) ≡ meant (line_read 0 (without_lines s) text)
same_line n s text few =
    let in_time : nat_lt max_lines n ≡ false = le-ltb _ _ few in
    rw in_time (alike (ok_or (form_of s.mode text) UnknownWord) (λ f. enter n s f) (λ f. enter 0 (without_lines s) f) (λ f. same_enter n s f))

-- two states that differ in lines alone read a line alike
line_alike : (n m : ℕ) (s t : Scope) (text : List ℕ) → without_lines s ≡ without_lines t → n ≤ max_lines → m ≤ max_lines → meant (line_read n s text) ≡ meant (line_read m t text)
line_alike n m s t text same low high = same_line n s text low ∙ ap (λ (u : Scope). meant (line_read 0 u text)) same ∙ sym (same_line m t text high)

ended : (behind too_few : Bool) (s : Scope) → meant (refuse behind UnknownWord (refuse too_few OutOfRange (Ok s))) ≡ meant (refuse behind UnknownWord (refuse too_few OutOfRange (Ok (without_lines s))))
ended true b s = refl
ended false true s = refl
ended false false s = rw (twice s.commands) refl

end_of : (n : ℕ) (s : Scope) (text : List ℕ) → n ≤ max_lines → meant (finished n s text) ≡ meant (finished 0 (without_lines s) text)
end_of n s text few =
    let in_time : nat_lt max_lines n ≡ false = le-ltb _ _ few in
    rw in_time (ended (not (length text == 0)) (length s.threads == 0 || length s.mutexes == 0) s)

at_line : (n : ℕ) (r : Result Scope Fault) → outcome (met_at n r) ≡ meant r
at_line n (Ok s) = refl
at_line n (Err f) = refl

-- lines read alike lead on alike
leads : (n m : ℕ) (r q : Result Scope Fault) (f g : Scope → Result Scope ScriptFault) → meant r ≡ meant q → ((s t : Scope) → without_lines s ≡ without_lines t → outcome (f s) ≡ outcome (g t)) → outcome (met_at n r >>= f) ≡ outcome (met_at m q >>= g)
leads n m (Ok s) (Ok t) f g same next = next s t (cc)
leads n m (Ok s) (Err e) f g same next = absurd cc
leads n m (Err d) (Ok t) f g same next = absurd cc
leads n m (Err d) (Err e) f g same next = cc

lines_alike : (n m : ℕ) (s t : Scope) (ls : List (List ℕ)) → without_lines s ≡ without_lines t → n + length ls ≤ max_lines + 1 → m + length ls ≤ max_lines + 1 → outcome (lines_read n s ls) ≡ outcome (lines_read m t ls)
unfolding lines_read
lines_alike n m s t [] same low high = ap Ok same
lines_alike n m s t (text ∷ []) same low high = at_line n (finished n s text) ∙ end_of n s text (omega arith) ∙ ap (λ (u : Scope). meant (finished 0 u text)) same ∙ sym (end_of m t text (omega arith)) ∙ sym (at_line m (finished m t text))
lines_alike n m s t (text ∷ next ∷ more) same low high =
    leads n m (line_read n s text) (line_read m t text) (λ u. lines_read (n + 1) u (next ∷ more)) (λ u. lines_read (m + 1) u (next ∷ more))
    (line_alike n m s t text same (omega arith) (omega arith)) (λ u v alike_so_far. lines_alike (n + 1) (m + 1) u v (next ∷ more) alike_so_far (omega arith) (omega arith))

silent_line : (n : ℕ) (s : Scope) (line : List ℕ) → is_silent line ≡ true → n ≤ max_lines → line_read n s line ≡ Ok s
silent_line n s line is few =
    let in_time : nat_lt max_lines n ≡ false = le-ltb _ _ few in
    rw (in_time, is) refl

-- a silent line in front of others
dropped : (n : ℕ) (s : Scope) (line : List ℕ) (after : List (List ℕ)) → is_silent line ≡ true → 0 < length after → n + length after ≤ max_lines → outcome (lines_read n s (line ∷ after)) ≡ outcome (lines_read n s after)
unfolding lines_read
dropped n s line [] is some few = absurd (omega (arith, some))
dropped n s line (a ∷ after) is some few = rw (silent_line n s line is (omega arith)) (lines_alike (n + 1) n s s (a ∷ after) refl (omega arith) (omega arith))

follows : (n : ℕ) (r : Result Scope Fault) (f g : Scope → Result Scope ScriptFault) → ((s : Scope) → outcome (f s) ≡ outcome (g s)) → outcome (met_at n r >>= f) ≡ outcome (met_at n r >>= g)
follows n (Ok s) f g h = h s
follows n (Err e) f g h = refl

unrolled : (n : ℕ) (s : Scope) (text : List ℕ) (ls : List (List ℕ)) → 0 < length ls → lines_read n s (text ∷ ls) ≡ (met_at n (line_read n s text) >>= λ t. lines_read (n + 1) t ls)
unfolding lines_read
unrolled n s text [] some = absurd (omega (arith, some))
unrolled n s text (l ∷ ls) some = refl

silent_anywhere : (n : ℕ) (s : Scope) (before after : List (List ℕ)) (line : List ℕ) → is_silent line ≡ true → 0 < length after → n + length before + length after ≤ max_lines
    → outcome (lines_read n s (before ++ line ∷ after)) ≡ outcome (lines_read n s (before ++ after))
silent_anywhere n s [] after line is some few = dropped n s line after is some (omega arith)
silent_anywhere n s (b ∷ before) after line is some few =
    rw (unrolled n s b (before ++ line ∷ after) (simp length-append (omega arith)), unrolled n s b (before ++ after) (simp length-append (omega arith)))
    (follows n (line_read n s b) _ _ (λ t. silent_anywhere (n + 1) t before after line is some (omega arith)))

pub silence : SilentLinesSayNothing
silence k before after line is some few = silent_anywhere 1 (nothing k) before after line is some (omega arith)
