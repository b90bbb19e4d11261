-- What the lines say of deaths is what their script's commands ask for.
use Rattle.std.proofs.Common.{◌≡◌, ℕ, ◌+◌, ◌<◌, ◌==◌, ◌||◌, Bool, true, false, not, ◌&&◌, List, [], ◌∷◌, ◌++◌, length, nat_lt, nat_le, Option, Some, None, option_and_then, Result, Ok, Err, IfOk, IfSome, cond, if◌then◌else◌, refl, sym, ap, ◌∙◌, arith, append_assoc, append-nil}
use Rattle.std.specs.Prelude.{codes}
use Rattle.std.specs.List.{flat_map, position_or_len}
use Rattle.std.specs.Option.{ok_or, is_some}
use Rattle.std.specs.Str.{bytes_eq, is_utf8}
use Rattle.std.specs.Str.Parse.{digits_value}
use Rattle.std.proofs.lemmas.Bool.Decides.{nat_tests}
use Rattle.std.proofs.lemmas.List.Concat.{flat_map-append}
use Rattle.lines.specs.Faults.{◌>>=◌}
use Rattle.lines.specs.Lines.{lines_of, words_of, bad_line}
use Rattle.lines.specs.Numbers.{is_number, within}
use Rattle.condvar.specs.declared.op.Op.{Op}
use Rattle.script.specs.Forms.{CallForm, Form, silent, process, thread, member, mutex, mutexes, begins, steps, kills, kills_all, goes, leaves, declines, expires, renews, remakes, spares, calls, locks, phase, dies, is_silent, is_name, is_stem, has, of_mode, or_else, step_form, die_form, mutexes_form, process_form, member_form, remake_form, locks_form, cond_form, call_form, calling_form, words_form, form_of}
use Rattle.script.specs.Forms as form
use Rattle.script.specs.Deaths.{death_of}
use Rattle.script.specs.Scope.{Scope}
use Rattle.script.specs.Reading.{refuse, place_of, process_of, is_declared, with_name, with_entry, with_thread, added, several, declares, thread_of, call_of, first_of, begun, stepped, killed, all_killed, gone, left, declined, expired, renewed, remade, wake_spared, made, locked, died, with_action, asked, enter, fault_at, met_at, line_read, finished, lines_read, text_read, nothing}
use Rattle.script.specs.Processes.{said}
use Rattle.script.specs.Dying.{thread_in, threads_in, thread_among, die_in, death_asked, deaths_asked, DeathsAreAsTold}
use Rattle.script.specs.declared.command.Action.{Action}
use Rattle.script.specs.declared.command.Action.TheVariants as action
use Rattle.script.specs.declared.command.Command.{Command}
use Rattle.script.specs.declared.command.Mode.{Mode}
use Rattle.script.specs.declared.fault.Fault.{Fault}
use Rattle.script.specs.declared.fault.Fault.TheVariants.{NotUtf8, UnknownWord, OutOfRange, NoSuchName, TooLong}
use Rattle.script.specs.declared.fault.ScriptFault.{ScriptFault}
use Rattle.script.specs.Limits.{max_bytes, max_lines, max_processes, max_base, max_threads, max_mutexes, max_conditions, max_steps, max_access, max_counter}
use Rattle.script.proofs.Bounds.{chain, refused}
use Rattle.script.proofs.Told.{found_early, any, after_all, unless, other, first_of_three, met}

-- threads and the deaths that commands ask for are those that were there and these
record Grows (s t : Scope) (names : List (List ℕ)) (ds : List (ℕ × ℕ)) : Type 0 where
  threads : t.threads ≡ s.threads ++ names
  deaths : deaths_asked t.commands ≡ deaths_asked s.commands ++ ds

grows_on : (s t u : Scope) (names names' : List (List ℕ)) (ds ds' : List (ℕ × ℕ)) → Grows s t names ds → Grows t u names' ds' → Grows s u (names ++ names') (ds ++ ds')
grows_on s t u names names' ds ds' a b = record {
  threads = b.threads ∙ ap (λ (l : List (List ℕ)). l ++ names') a.threads ∙ append_assoc s.threads names names';
  deaths = b.deaths ∙ ap (λ (l : List (ℕ × ℕ)). l ++ ds') a.deaths ∙ append_assoc (deaths_asked s.commands) ds ds';
}

-- a thread that was declared has its number among any that follow
numbered : (s : Scope) (t : List ℕ) → IfOk (thread_of s t) (λ i. (more : List (List ℕ)) → i ≡ thread_among (s.threads ++ more) t)
numbered s t = chain (place_of t s.threads) (λ i. Ok (i + 1)) (λ i. (more : List (List ℕ)) → i ≡ position_or_len (λ n. bytes_eq t n) (s.threads ++ more)) (λ i. (more : List (List ℕ)) → i ≡ thread_among (s.threads ++ more) t)
    (go (nat_lt (position_or_len (λ n. bytes_eq t n) s.threads) (length s.threads)) refl)
    (λ i is more. ap (λ (k : ℕ). k + 1) (is more))
  where
    go : (b : Bool) → nat_lt (position_or_len (λ n. bytes_eq t n) s.threads) (length s.threads) ≡ b
        → IfOk (ok_or (cond b (Some (position_or_len (λ n. bytes_eq t n) s.threads)) None) NoSuchName) (λ i. (more : List (List ℕ)) → i ≡ position_or_len (λ n. bytes_eq t n) (s.threads ++ more))
    go false e = tt
    go true e = λ more. sym (found_early (λ n. bytes_eq t n) s.threads more (let inside : position_or_len (λ n. bytes_eq t n) s.threads < length s.threads = grind (arith, nat_tests) in inside))

-- ---- what a form says

abbrev told_thread : Form → List (List ℕ)
told_thread (thread w) = w ∷ []
told_thread (member w p) = w ∷ []
told_thread f = []

abbrev told_death : List (List ℕ) → Form → List (ℕ × ℕ)
told_death names (dies t (Some k)) = (thread_among names t, k) ∷ []
told_death names f = []

-- an access is given where it is in its range
abbrev Given : Form → Type 0
Given (dies t None) = ⊥
Given f = Unit {0}

abbrev Adds : Scope → Form → Scope → Type 0
Adds s f t = Given f × ((more : List (List ℕ)) → Grows s t (told_thread f) (told_death (s.threads ++ more) f))

stays : (s t : Scope) → t.threads ≡ s.threads → deaths_asked t.commands ≡ deaths_asked s.commands → Grows s t [] []
stays s t threads commands = record { threads = threads ∙ sym (append-nil s.threads); deaths = commands ∙ sym (append-nil (deaths_asked s.commands)) }

-- a command more
acts : (n : ℕ) (s : Scope) (a : Action) (ds : List (ℕ × ℕ)) → death_asked a ≡ ds → Grows s (with_action n s a) [] ds
acts n s a ds is =
    let c : Command = record { line = n; action = a } in
    record {
      threads = sym (append-nil s.threads);
      deaths = flat_map-append (λ x. death_asked x.action) s.commands (c ∷ []) ∙ ap (λ (l : List (ℕ × ℕ)). deaths_asked s.commands ++ l) (append-nil (death_asked a) ∙ is);
    }

-- a command by which no thread dies
asks : (n : ℕ) (s : Scope) (r : Result Action Fault) → IfOk r (λ a. death_asked a ≡ []) → IfOk (asked n s r) (λ t. Grows s t [] [])
asks n s r none = chain r (λ a. Ok (with_action n s a)) (λ a. death_asked a ≡ []) (λ t. Grows s t [] []) none (λ a is. acts n s a [] is)

quiet : (s : Scope) (r : Result Scope Fault) → IfOk r (λ t. Grows s t [] []) → IfOk r (λ t. Unit {0} × ((more : List (List ℕ)) → Grows s t [] []))
quiet s (Ok t) h = (tt, λ more. h)
quiet s (Err f) h = tt

calling : (s : Scope) (t : List ℕ) (c : CallForm) (make : ℕ → Op → Action) → ((i : ℕ) (o : Op) → death_asked (make i o) ≡ []) → IfOk (thread_of s t >>= λ i. call_of s c >>= λ k. Ok (make i k)) (λ a. death_asked a ≡ [])
calling s t c make none = chain (thread_of s t) (λ i. call_of s c >>= λ k. Ok (make i k)) (λ _. Unit {0}) (λ a. death_asked a ≡ []) (any (thread_of s t))
    (λ i _. chain (call_of s c) (λ k. Ok (make i k)) (λ _. Unit {0}) (λ a. death_asked a ≡ []) (any (call_of s c)) (λ k _. none i k))

of_thread : (s : Scope) (t : List ℕ) (make : ℕ → Action) → ((i : ℕ) → death_asked (make i) ≡ []) → IfOk (thread_of s t >>= λ i. Ok (make i)) (λ a. death_asked a ≡ [])
of_thread s t make none = chain (thread_of s t) (λ i. Ok (make i)) (λ _. Unit {0}) (λ a. death_asked a ≡ []) (any (thread_of s t)) (λ i _. none i)

stepping : (s : Scope) (t : List ℕ) (count : Option ℕ) → IfOk (stepped s t count) (λ a. death_asked a ≡ [])
stepping s t None = tt
stepping s t (Some k) = of_thread s t (λ i. action.Step i k) (λ i. refl)

killing_all : (s : Scope) (p : List ℕ) → IfOk (all_killed s p) (λ a. death_asked a ≡ [])
killing_all s p = chain (process_of s p) (λ i. Ok (action.KillAll i)) (λ _. Unit {0}) (λ a. death_asked a ≡ []) (any (process_of s p)) (λ i _. refl)

locking : (s : Scope) (t m : List ℕ) (count : Option ℕ) → IfOk (locked s t m count) (λ a. death_asked a ≡ [])
locking s t m None = tt
locking s t m (Some k) = chain (first_of s m k) (λ j. thread_of s t >>= λ i. Ok (action.Locks i j k)) (λ _. Unit {0}) (λ a. death_asked a ≡ []) (any (first_of s m k)) (λ j _. of_thread s t (λ i. action.Locks i j k) (λ i. refl))

remaking : (s : Scope) (t m : List ℕ) → IfOk (remade s t m) (λ a. death_asked a ≡ [])
remaking s t m = chain (thread_of s t) (λ i. place_of m s.mutexes >>= λ j. Ok (action.Remake i j)) (λ _. Unit {0}) (λ a. death_asked a ≡ []) (any (thread_of s t))
    (λ i _. chain (place_of m s.mutexes) (λ j. Ok (action.Remake i j)) (λ _. Unit {0}) (λ a. death_asked a ≡ []) (any (place_of m s.mutexes)) (λ j _. refl))

-- a thread more
of_process : (s : Scope) (w : List ℕ) (p : ℕ) → IfOk (with_thread s w p) (λ t. (more : List (List ℕ)) → Grows s t (w ∷ []) [])
of_process s w p =
    chain (with_name s.threads w) (λ names. Ok (record s { threads = names; members = s.members ++ p ∷ [] })) (λ names. names ≡ s.threads ++ w ∷ []) (λ t. (more : List (List ℕ)) → Grows s t (w ∷ []) [])
    (refused (is_declared w s.threads) NoSuchName (Ok (s.threads ++ w ∷ [])) (λ names. names ≡ s.threads ++ w ∷ []) (λ new. refl))
    (λ names is more. record { threads = is; deaths = sym (append-nil (deaths_asked s.commands)) })

given : (P : Scope → Type 0) (r : Result Scope Fault) → IfOk r P → IfOk r (λ t. Unit {0} × P t)
given P (Ok t) h = (tt, h)
given P (Err f) h = tt

entered : (n : ℕ) (s : Scope) (f : Form) → IfOk (enter n s f) (Adds s f)
entered n s silent = (tt, λ more. stays s s refl refl)
entered n s (process w base) = quiet s _ (after_all s (declares s) _ (λ t. Grows s t [] []) (λ _. after_all s (ok_or base OutOfRange) _ (λ t. Grows s t [] []) (λ b. unless (nat_le max_processes (length s.processes)) OutOfRange _ (λ t. Grows s t [] [])
    (after_all s (with_entry s.processes w b) _ (λ t. Grows s t [] []) (λ ps. stays s (record s { processes = ps }) refl refl)))))
entered n s (thread w) =
    after_all s (declares s) _ (Adds s (thread w)) (λ _. unless (nat_le max_threads (length s.threads)) OutOfRange _ (Adds s (thread w)) (given (λ t. (more : List (List ℕ)) → Grows s t (w ∷ []) []) (with_thread s w 0) (of_process s w 0)))
entered n s (member w p) =
    after_all s (declares s) _ (Adds s (member w p)) (λ _. unless (nat_le max_threads (length s.threads)) OutOfRange _ (Adds s (member w p))
    (after_all s (process_of s p) _ (Adds s (member w p)) (λ i. given (λ t. (more : List (List ℕ)) → Grows s t (w ∷ []) []) (with_thread s w i) (of_process s w i))))
entered n s (mutex w) = quiet s _ (after_all s (declares s) _ (λ t. Grows s t [] []) (λ _. after_all s (added max_mutexes s.mutexes w) _ (λ t. Grows s t [] []) (λ names. stays s (record s { mutexes = names }) refl refl)))
entered n s (mutexes w count) = quiet s _ (after_all s (declares s) _ (λ t. Grows s t [] []) (λ _. after_all s (ok_or count OutOfRange) _ (λ t. Grows s t [] []) (λ k. after_all s (several max_mutexes s.mutexes w k) _ (λ t. Grows s t [] [])
    (λ names. stays s (record s { mutexes = names }) refl refl))))
entered n s (form.cond w m count) = quiet s _ (after_all s (declares s) _ (λ t. Grows s t [] []) (λ _. after_all s (ok_or count OutOfRange) _ (λ t. Grows s t [] []) (λ k.
    unless (nat_le max_conditions (length s.conditions)) OutOfRange _ (λ t. Grows s t [] []) (after_all s (place_of m s.mutexes) _ (λ t. Grows s t [] []) (λ j.
    after_all s (with_entry s.conditions w (record { mutex = j; counter = k })) _ (λ t. Grows s t [] []) (λ cs. stays s (record s { conditions = cs }) refl refl))))))
entered n s (begins t c) = quiet s _ (asks n s (begun s t c) (calling s t c (λ i x. action.Begin i x) (λ i x. refl)))
entered n s (steps t count) = quiet s _ (asks n s (stepped s t count) (stepping s t count))
entered n s (kills t) = quiet s _ (asks n s (killed s t) (of_thread s t (λ i. action.Kill i) (λ i. refl)))
entered n s (kills_all p) = quiet s _ (asks n s (all_killed s p) (killing_all s p))
entered n s (goes t) = quiet s _ (asks n s (gone s t) (of_thread s t (λ i. action.Go i) (λ i. refl)))
entered n s (leaves t) = quiet s _ (asks n s (left s t) (of_thread s t (λ i. action.Leave i) (λ i. refl)))
entered n s (declines t) = quiet s _ (asks n s (declined s t) (of_thread s t (λ i. action.Decline i) (λ i. refl)))
entered n s (expires t) = quiet s _ (asks n s (expired s t) (of_thread s t (λ i. action.Expire i) (λ i. refl)))
entered n s (renews t) = quiet s _ (asks n s (renewed s t) (of_thread s t (λ i. action.Renew i) (λ i. refl)))
entered n s (remakes t m) = quiet s _ (asks n s (remade s t m) (remaking s t m))
entered n s (spares t) = quiet s _ (asks n s (wake_spared s t) (of_thread s t (λ i. action.Spare i) (λ i. refl)))
entered n s (calls t c) = quiet s _ (asks n s (made s t c) (calling s t c (λ i x. action.Call i x) (λ i x. refl)))
entered n s (locks t m count) = quiet s _ (asks n s (locked s t m count) (locking s t m count))
entered n s phase = (tt, λ more. acts n s action.Phase [] refl)
entered n s (dies t None) = tt
entered n s (dies t (Some k)) =
    chain (died s t (Some k)) (λ a. Ok (with_action n s a)) Asks (Adds s (dies t (Some k)))
    (chain (thread_of s t) (λ i. refuse (is_some (death_of i s.commands)) NoSuchName (Ok (action.Die i k))) (λ i. (more : List (List ℕ)) → i ≡ thread_among (s.threads ++ more) t) Asks (numbered s t)
    (λ i is. refused (is_some (death_of i s.commands)) NoSuchName (Ok (action.Die i k)) Asks (λ first_one more. ap (λ (j : ℕ). (j, k) ∷ []) (is more))))
    (λ a is. (tt, λ more. acts n s a ((thread_among (s.threads ++ more) t, k) ∷ []) (is more)))
  where
    -- what the command asks for
    Asks : Action → Type 0
    Asks a = (more : List (List ℕ)) → death_asked a ≡ (thread_among (s.threads ++ more) t, k) ∷ []

-- ---- a form says what its words say

abbrev Says : Form → List (List ℕ) → Type 0
Says f ws = Given f → (told_thread f ≡ thread_in ws) × ((names : List (List ℕ)) → told_death names f ≡ die_in names ws)

name_says : (w a : List ℕ) → IfSome (form.name_form w a) (λ f. Says f (w ∷ a ∷ []))
name_says w a = go (is_name a) (bytes_eq w (codes "thread")) (bytes_eq w (codes "mutex")) (bytes_eq w (codes "kill")) (bytes_eq w (codes "killall")) (bytes_eq w (codes "go")) (bytes_eq w (codes "leave")) (bytes_eq w (codes "decline")) (bytes_eq w (codes "renew")) (bytes_eq w (codes "spare")) (bytes_eq w (codes "expire")) refl refl refl refl refl refl refl refl refl refl
  where
    -- what is said of threads
    told : (x : Bool) → bytes_eq w (codes "thread") ≡ x → (if x then a ∷ [] else []) ≡ thread_in (w ∷ a ∷ [])
    told x e = ap (λ (b : Bool). if b then a ∷ [] else []) (sym e)

    go : (n t m k l g v d r s u : Bool) → bytes_eq w (codes "thread") ≡ t → bytes_eq w (codes "mutex") ≡ m → bytes_eq w (codes "kill") ≡ k → bytes_eq w (codes "killall") ≡ l → bytes_eq w (codes "go") ≡ g → bytes_eq w (codes "leave") ≡ v → bytes_eq w (codes "decline") ≡ d → bytes_eq w (codes "renew") ≡ r → bytes_eq w (codes "spare") ≡ s → bytes_eq w (codes "expire") ≡ u
        → IfSome (if not n then None else (if t then Some (thread a) else (if m then Some (mutex a) else (if k then Some (kills a) else (if l then Some (kills_all a) else (if g then Some (goes a) else (if v then Some (leaves a) else (if d then Some (declines a) else (if r then Some (renews a) else (if s then Some (spares a) else (if u then Some (expires a) else None))))))))))) (λ f. Says f (w ∷ a ∷ []))
    go false t m k l g v d r s u et em ek el eg ev ed er es eu = tt
    go true true m k l g v d r s u et em ek el eg ev ed er es eu = λ _. (told true et, λ names. refl)
    go true false true k l g v d r s u et em ek el eg ev ed er es eu = λ _. (told false et, λ names. refl)
    go true false false true l g v d r s u et em ek el eg ev ed er es eu = λ _. (told false et, λ names. refl)
    go true false false false true g v d r s u et em ek el eg ev ed er es eu = λ _. (told false et, λ names. refl)
    go true false false false false true v d r s u et em ek el eg ev ed er es eu = λ _. (told false et, λ names. refl)
    go true false false false false false true d r s u et em ek el eg ev ed er es eu = λ _. (told false et, λ names. refl)
    go true false false false false false false true r s u et em ek el eg ev ed er es eu = λ _. (told false et, λ names. refl)
    go true false false false false false false false true s u et em ek el eg ev ed er es eu = λ _. (told false et, λ names. refl)
    go true false false false false false false false false true u et em ek el eg ev ed er es eu = λ _. (told false et, λ names. refl)
    go true false false false false false false false false false true et em ek el eg ev ed er es eu = λ _. (told false et, λ names. refl)
    go true false false false false false false false false false false et em ek el eg ev ed er es eu = tt

three_say : (w a n : List ℕ) → IfSome (or_else (step_form w a n) (or_else (die_form w a n) (or_else (mutexes_form w a n) (or_else (process_form w a n) (or_else (member_form w a n) (remake_form w a n)))))) (λ f. Says f (w ∷ a ∷ n ∷ []))
three_say w a n = go (bytes_eq w (codes "step") && is_name a && is_number n) (bytes_eq w (codes "die") && is_name a && is_number n) (bytes_eq w (codes "mutexes") && is_stem a && is_number n) (bytes_eq w (codes "process") && is_name a && is_number n) (bytes_eq w (codes "thread") && is_name a && is_name n) (bytes_eq w (codes "remake") && is_name a && is_name n) refl refl refl refl refl refl
  where
    -- what is said of threads, and of deaths
    told : (x y : Bool) → bytes_eq w (codes "thread") ≡ x → bytes_eq w (codes "die") ≡ y
        → ((if x then a ∷ [] else []) ≡ thread_in (w ∷ a ∷ n ∷ [])) × ((names : List (List ℕ)) → (if y then (thread_among names a, digits_value 10 n) ∷ [] else []) ≡ die_in names (w ∷ a ∷ n ∷ []))
    told x y e f = (ap (λ (b : Bool). if b then a ∷ [] else []) (sym e), λ names. ap (λ (b : Bool). if b then (thread_among names a, digits_value 10 n) ∷ [] else []) (sym f))

    -- another word says nothing of them
    neither : (f : Form) (x : List ℕ) → told_thread f ≡ [] → ((names : List (List ℕ)) → told_death names f ≡ []) → bytes_eq w x ≡ true → bytes_eq x (codes "thread") ≡ false → bytes_eq x (codes "die") ≡ false → Says f (w ∷ a ∷ n ∷ [])
    neither f x no_thread no_death is no_thread_word no_die_word = λ _.
        let all = told false false (other w x (codes "thread") is no_thread_word) (other w x (codes "die") is no_die_word) in
        (no_thread ∙ all.0, λ names. no_death names ∙ all.1 names)

    ranged : (b : Bool) → bytes_eq w (codes "die") ≡ true → Says (dies a (if b then Some (digits_value 10 n) else None)) (w ∷ a ∷ n ∷ [])
    ranged true is = λ _. told false true (other w (codes "die") (codes "thread") is refl) is
    ranged false is = λ none. absurd none

    go : (s d m p t k : Bool) → (bytes_eq w (codes "step") && is_name a && is_number n) ≡ s → (bytes_eq w (codes "die") && is_name a && is_number n) ≡ d → (bytes_eq w (codes "mutexes") && is_stem a && is_number n) ≡ m → (bytes_eq w (codes "process") && is_name a && is_number n) ≡ p → (bytes_eq w (codes "thread") && is_name a && is_name n) ≡ t → (bytes_eq w (codes "remake") && is_name a && is_name n) ≡ k
        → IfSome (or_else (if s then Some (steps a (within 1 max_steps (digits_value 10 n))) else None) (or_else (if d then Some (dies a (within 1 max_access (digits_value 10 n))) else None)
        (or_else (if m then Some (mutexes a (within 1 max_mutexes (digits_value 10 n))) else None) (or_else (if p then Some (process a (within 0 max_base (digits_value 10 n))) else None) (or_else (if t then Some (member a n) else None) (if k then Some (remakes a n) else None)))))) (λ f. Says f (w ∷ a ∷ n ∷ []))
    go true d m p t k es ed em ep et ek = neither (steps a (within 1 max_steps (digits_value 10 n))) (codes "step") refl (λ names. refl) (first_of_three (bytes_eq w (codes "step")) (is_name a) (is_number n) es) refl refl
    go false true m p t k es ed em ep et ek = ranged _ (first_of_three (bytes_eq w (codes "die")) (is_name a) (is_number n) ed)
    go false false true p t k es ed em ep et ek = neither (mutexes a (within 1 max_mutexes (digits_value 10 n))) (codes "mutexes") refl (λ names. refl) (first_of_three (bytes_eq w (codes "mutexes")) (is_stem a) (is_number n) em) refl refl
    go false false false true t k es ed em ep et ek = neither (process a (within 0 max_base (digits_value 10 n))) (codes "process") refl (λ names. refl) (first_of_three (bytes_eq w (codes "process")) (is_name a) (is_number n) ep) refl refl
    go false false false false true k es ed em ep et ek = λ _. let is = first_of_three (bytes_eq w (codes "thread")) (is_name a) (is_name n) et in told true false is (other w (codes "thread") (codes "die") is refl)
    go false false false false false true es ed em ep et ek = neither (remakes a n) (codes "remake") refl (λ names. refl) (first_of_three (bytes_eq w (codes "remake")) (is_name a) (is_name n) ek) refl refl
    go false false false false false false es ed em ep et ek = tt

-- lines of four words say nothing of threads and deaths
either : (ws : List (List ℕ)) (b : Bool) (x y : Option Form) → IfSome x (λ f. Says f ws) → IfSome y (λ f. Says f ws) → IfSome (if b then x else y) (λ f. Says f ws)
either ws true x y p q = p
either ws false x y p q = q

first : (ws : List (List ℕ)) (x y : Option Form) → IfSome x (λ f. Says f ws) → IfSome y (λ f. Says f ws) → IfSome (or_else x y) (λ f. Says f ws)
first ws (Some f) y p q = p
first ws None y p q = q

four_say : (w t c m : List ℕ) → IfSome (or_else (locks_form w t c m) (or_else (cond_form w t c m) (option_and_then (calling_form w t) (call_form c m)))) (λ f. Says f (w ∷ t ∷ c ∷ m ∷ []))
four_say w t c m =
    let ws : List (List ℕ) = w ∷ t ∷ c ∷ m ∷ [] in
    first ws (locks_form w t c m) _ (either ws _ (Some (locks t c (within 1 max_mutexes (digits_value 10 m)))) None (λ _. (refl, λ names. refl)) tt)
    (first ws (cond_form w t c m) _ (either ws _ (Some (form.cond t c (within 0 max_counter (digits_value 10 m)))) None (λ _. (refl, λ names. refl)) tt) (go (call_form c m)))
  where
    go : (o : Option CallForm) → IfSome (option_and_then (calling_form w t) o) (λ f. Says f (w ∷ t ∷ c ∷ m ∷ []))
    go None = tt
    go (Some k) =
        let ws : List (List ℕ) = w ∷ t ∷ c ∷ m ∷ [] in
        either ws (not (is_name t)) None _ tt (either ws (bytes_eq w _) (Some (begins t k)) _ (λ _. (refl, λ names. refl)) (either ws (bytes_eq w _) (Some (calls t k)) None (λ _. (refl, λ names. refl)) tt))

words_say : (ws : List (List ℕ)) → IfSome (words_form ws) (λ f. Says f ws)
words_say [] = tt
words_say (w ∷ []) = either (w ∷ []) (bytes_eq w _) (Some phase) None (λ _. (refl, λ names. refl)) tt
words_say (w ∷ a ∷ []) = name_says w a
words_say (w ∷ a ∷ n ∷ []) = three_say w a n
words_say (w ∷ t ∷ c ∷ m ∷ []) = four_say w t c m
words_say (w ∷ t ∷ c ∷ m ∷ x ∷ more) = tt

text_says : (k : Mode) (text : List ℕ) → IfSome (form_of k text) (λ f. Says f (said text))
text_says k text = go (is_silent text) (words_form (words_of text)) (words_say (words_of text))
  where
    go : (b : Bool) (o : Option Form) → IfSome o (λ f. Says f (words_of text)) → IfSome (if b then Some silent else option_and_then (of_mode k) o) (λ f. Says f (if b then [] else words_of text))
    go true o h = λ _. (refl, λ names. refl)
    go false None h = tt
    go false (Some f) h = either (words_of text) (has k f) (Some f) None h tt

-- ---- lines

abbrev LineTells : Scope → List (List ℕ) → Scope → Type 0
LineTells s ws t = (more : List (List ℕ)) → Grows s t (thread_in ws) (die_in (t.threads ++ more) ws)

line_tells : (n : ℕ) (s : Scope) (text : List ℕ) → IfOk (line_read n s text) (LineTells s (said text))
line_tells n s text = refused (nat_lt max_lines n) TooLong (ok_or (form_of s.mode text) UnknownWord >>= λ f. enter n s f) (LineTells s (said text)) (λ _. by_cases (form_of s.mode text) (text_says s.mode text))
  where
    joined : (f : Form) (r : Result Scope Fault) → IfOk r (Adds s f) → Says f (said text) → IfOk r (LineTells s (said text))
    joined f (Err e) h says = tt
    joined f (Ok t) h says = λ more.
        let all = says h.0 in
        let after = told_thread f ++ more in
        let grown = h.1 after in
        let whole : s.threads ++ after ≡ t.threads ++ more = sym (append_assoc s.threads (told_thread f) more) ∙ ap (λ (l : List (List ℕ)). l ++ more) (sym grown.threads) in
        record {
          threads = grown.threads ∙ ap (λ (l : List (List ℕ)). s.threads ++ l) all.0;
          deaths = grown.deaths ∙ ap (λ (l : List (ℕ × ℕ)). deaths_asked s.commands ++ l) (all.1 (s.threads ++ after) ∙ ap (λ (names : List (List ℕ)). die_in names (said text)) whole);
        }

    by_cases : (o : Option Form) → IfSome o (λ f. Says f (said text)) → IfOk (ok_or o UnknownWord >>= λ f. enter n s f) (LineTells s (said text))
    by_cases None says = tt
    by_cases (Some f) says = joined f (enter n s f) (entered n s f) says

-- all lines, by the threads that there are at the end
abbrev AllTold : Scope → List (List ℕ) → Scope → Type 0
AllTold s ls t = Grows s t (threads_in ls) (flat_map (λ text. die_in t.threads (said text)) ls)

-- the last line is empty
last_told : (n : ℕ) (s : Scope) (text : List ℕ) → IfOk (finished n s text) (AllTold s (text ∷ []))
last_told n s text =
    refused (not (length text == 0)) (if nat_lt max_lines n then TooLong else UnknownWord) (refuse (length s.threads == 0 || length s.mutexes == 0) OutOfRange (Ok s)) (AllTold s (text ∷ []))
    (λ empty. refused (length s.threads == 0 || length s.mutexes == 0) OutOfRange (Ok s) (AllTold s (text ∷ [])) (λ some. go text empty))
  where
    go : (text : List ℕ) → not (length text == 0) ≡ false → AllTold s (text ∷ []) s
    go [] empty = stays s s refl refl
    go (x ∷ xs) empty = absurd (grind (arith, nat_tests))

lines_told : (n : ℕ) (s : Scope) (ls : List (List ℕ)) → IfOk (lines_read n s ls) (AllTold s ls)
unfolding lines_read
lines_told n s [] = stays s s refl refl
lines_told n s (text ∷ []) = met n (finished n s text) (AllTold s (text ∷ [])) (last_told n s text)
lines_told n s (text ∷ next ∷ more) = go (line_read n s text) (line_tells n s text) (λ t. lines_told (n + 1) t (next ∷ more))
  where
    joined : (t : Scope) (r : Result Scope ScriptFault) → LineTells s (said text) t → IfOk r (AllTold t (next ∷ more)) → IfOk r (AllTold s (text ∷ next ∷ more))
    joined t (Err e) line rest = tt
    joined t (Ok u) line rest =
        let one = line (threads_in (next ∷ more)) in
        let here : Grows s t (thread_in (said text)) (die_in u.threads (said text)) = record {
          threads = one.threads;
          deaths = one.deaths ∙ ap (λ (names : List (List ℕ)). deaths_asked s.commands ++ die_in names (said text)) (sym rest.threads);
        } in
        grows_on s t u (thread_in (said text)) (threads_in (next ∷ more)) (die_in u.threads (said text)) (flat_map (λ x. die_in u.threads (said x)) (next ∷ more)) here rest

    go : (r : Result Scope Fault) → IfOk r (LineTells s (said text)) → ((t : Scope) → IfOk (lines_read (n + 1) t (next ∷ more)) (AllTold t (next ∷ more))) → IfOk (met_at n r >>= λ t. lines_read (n + 1) t (next ∷ more)) (AllTold s (text ∷ next ∷ more))
    go (Err f) line rest = tt
    go (Ok t) line rest = joined t (lines_read (n + 1) t (next ∷ more)) line (rest t)

-- ---- scripts

pub as_told : DeathsAreAsTold
as_told k bytes = go (nat_lt max_bytes (length bytes)) (is_utf8 bytes)
  where
    -- what the law says of a script
    Told : Scope → Type 0
    Told s = deaths_asked s.commands ≡ flat_map (λ text. die_in (threads_in (lines_of bytes)) (said text)) (lines_of bytes)

    read : (r : Result Scope ScriptFault) → IfOk r (AllTold (nothing k) (lines_of bytes)) → IfOk r Told
    read (Ok s) h = h.deaths ∙ ap (λ (names : List (List ℕ)). flat_map (λ text. die_in names (said text)) (lines_of bytes)) h.threads
    read (Err e) h = tt

    go : (long valid : Bool) → IfOk (if long then Err (fault_at 1 TooLong) else (if valid then text_read k bytes else Err (fault_at (bad_line bytes) NotUtf8))) Told
    go true valid = tt
    go false false = tt
    go false true = read (text_read k bytes) (lines_told 1 (nothing k) (lines_of bytes))
