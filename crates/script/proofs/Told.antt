-- What the lines say of processes is what their script has.
use Rattle.std.proofs.Common.{◌≡◌, ℕ, ◌+◌, ◌<◌, ◌==◌, ◌||◌, Bool, true, false, not, ◌&&◌, List, [], ◌∷◌, ◌++◌, length, map, nat_lt, nat_le, Option, Some, None, option_and_then, Result, Ok, Err, IfOk, IfSome, cond, if◌then◌else◌, refl, sym, ap, ◌∙◌, subst, arith, append_assoc, append-nil}
use Rattle.std.specs.Prelude.{codes}
use Rattle.std.specs.List.{flat_map, position_or_len}
use Rattle.std.specs.Option.{ok_or, is_some}
use Rattle.std.specs.Str.{bytes_eq, is_utf8}
use Rattle.std.specs.Str.Parse.{digits_value}
use Rattle.std.proofs.lemmas.Bool.Decides.{nat_tests}
use Rattle.std.proofs.lemmas.List.Concat.{flat_map-append}
use Rattle.std.proofs.lemmas.Slice.Eq.{bytes_eq-Decides}
use Rattle.lines.specs.Faults.{◌>>=◌}
use Rattle.lines.specs.Lines.{lines_of, words_of, bad_line}
use Rattle.lines.specs.Numbers.{is_number, within}
use Rattle.script.specs.Forms.{CallForm, Form, silent, process, thread, member, mutex, mutexes, begins, steps, kills, kills_all, goes, leaves, declines, expires, renews, remakes, spares, calls, locks, phase, dies, is_silent, is_name, is_stem, has, of_mode, or_else, step_form, die_form, mutexes_form, process_form, member_form, remake_form, locks_form, cond_form, call_form, calling_form, words_form, form_of}
use Rattle.script.specs.Forms as form
use Rattle.condvar.specs.declared.op.Op.{Op}
use Rattle.script.specs.Deaths.{death_of}
use Rattle.script.specs.Scope.{Scope}
use Rattle.script.specs.Reading.{refuse, place_of, process_of, names_of, with_name, with_entry, with_thread, added, several, declares, thread_of, call_of, first_of, begun, stepped, killed, all_killed, gone, left, declined, expired, renewed, remade, wake_spared, made, locked, died, with_action, asked, enter, met_at, fault_at, line_read, finished, lines_read, text_read, nothing}
use Rattle.script.specs.Processes.{said, process_in, processes_in, number_among, member_in, killall_in, killed_by, killalls_of, IsAsTold, ProcessesAreAsTold}
use Rattle.script.specs.declared.command.Action.{Action}
use Rattle.script.specs.declared.command.Action.TheVariants as action
use Rattle.script.specs.declared.command.Command.{Command}
use Rattle.script.specs.declared.command.Mode.{Mode}
use Rattle.script.specs.declared.fault.Fault.{Fault}
use Rattle.script.specs.declared.fault.Fault.TheVariants.{NotUtf8, UnknownWord, OutOfRange, NoSuchName, TooLong}
use Rattle.script.specs.declared.fault.ScriptFault.{ScriptFault}
use Rattle.script.specs.Limits.{max_bytes, max_lines, max_processes, max_base, max_threads, max_mutexes, max_conditions, max_steps, max_access, max_counter}
use Rattle.script.proofs.Bounds.{chain, refused}
use Rattle.script.proofs.Names.{position-map}

-- processes, threads' processes and commands are those that were there and these
record Grows (s t : Scope) (ps : List (List ℕ × ℕ)) (ms ks : List ℕ) : Type 0 where
  processes : t.processes ≡ s.processes ++ ps
  members : t.members ≡ s.members ++ ms
  killalls : killalls_of t.commands ≡ killalls_of s.commands ++ ks

grows_on : (s t u : Scope) (ps ps' : List (List ℕ × ℕ)) (ms ms' ks ks' : List ℕ) → Grows s t ps ms ks → Grows t u ps' ms' ks' → Grows s u (ps ++ ps') (ms ++ ms') (ks ++ ks')
grows_on s t u ps ps' ms ms' ks ks' a b = record {
  processes = b.processes ∙ ap (λ (l : List (List ℕ × ℕ)). l ++ ps') a.processes ∙ append_assoc s.processes ps ps';
  members = b.members ∙ ap (λ (l : List ℕ). l ++ ms') a.members ∙ append_assoc s.members ms ms';
  killalls = b.killalls ∙ ap (λ (l : List ℕ). l ++ ks') a.killalls ∙ append_assoc (killalls_of s.commands) ks ks';
}

-- ---- numbers of processes

pub found_early : {X : Type 0} (q : X → Bool) (xs more : List X) → position_or_len q xs < length xs → position_or_len q (xs ++ more) ≡ position_or_len q xs
found_early q [] more lt = absurd (omega arith)
found_early {X} q (x ∷ xs) more lt = go (q x) lt (λ h. found_early q xs more h)
  where
    go : (b : Bool) → cond (not b) (1 + position_or_len q xs) 0 < length (x ∷ xs) → (position_or_len q xs < length xs → position_or_len q (xs ++ more) ≡ position_or_len q xs)
        → cond (not b) (1 + position_or_len q (xs ++ more)) 0 ≡ cond (not b) (1 + position_or_len q xs) 0
    go true lt rest = refl
    go false lt rest = ap (λ (k : ℕ). 1 + k) (rest (omega (arith, lt)))

-- a process that was declared has its number among any that follow
numbered : (s : Scope) (p : List ℕ) → IfOk (process_of s p) (λ i. (more : List (List ℕ × ℕ)) → i ≡ number_among (s.processes ++ more) p)
numbered s p = chain (place_of p (names_of s.processes)) (λ i. Ok (i + 1)) (λ i. (more : List (List ℕ × ℕ)) → i ≡ position_or_len (λ x. bytes_eq p x.0) (s.processes ++ more)) (λ i. (more : List (List ℕ × ℕ)) → i ≡ number_among (s.processes ++ more) p)
    (subst (λ (o : Option ℕ). IfOk (ok_or o NoSuchName) (λ i. (more : List (List ℕ × ℕ)) → i ≡ position_or_len (λ x. bytes_eq p x.0) (s.processes ++ more))) (sym (position-map (λ x. x.0) (λ n. bytes_eq p n) s.processes))
    (go (nat_lt (position_or_len test s.processes) (length s.processes)) refl))
    (λ i is more. ap (λ (k : ℕ). k + 1) (is more))
  where
    test : List ℕ × ℕ → Bool
    test x = bytes_eq p x.0

    go : (b : Bool) → nat_lt (position_or_len (λ x. bytes_eq p x.0) s.processes) (length s.processes) ≡ b
        → IfOk (ok_or (cond b (Some (position_or_len (λ x. bytes_eq p x.0) s.processes)) None) NoSuchName) (λ i. (more : List (List ℕ × ℕ)) → i ≡ position_or_len (λ x. bytes_eq p x.0) (s.processes ++ more))
    go false e = tt
    go true e = λ more. sym (found_early (λ x. bytes_eq p x.0) s.processes more (let inside : position_or_len (λ x. bytes_eq p x.0) s.processes < length s.processes = grind (arith, nat_tests) in inside))

-- ---- what a form says

abbrev told_process : Form → List (List ℕ × ℕ)
told_process (process p (Some b)) = (p, b) ∷ []
told_process f = []

abbrev told_member : List (List ℕ × ℕ) → Form → List ℕ
told_member ps (thread w) = 0 ∷ []
told_member ps (member w p) = number_among ps p ∷ []
told_member ps f = []

abbrev told_killall : List (List ℕ × ℕ) → Form → List ℕ
told_killall ps (kills_all p) = number_among ps p ∷ []
told_killall ps f = []

-- a base is given where it is in its range
abbrev Given : Form → Type 0
Given (process p None) = ⊥
Given f = Unit {0}

abbrev Adds : Scope → Form → Scope → Type 0
Adds s f t = Given f × ((more : List (List ℕ × ℕ)) → Grows s t (told_process f) (told_member (s.processes ++ more) f) (told_killall (s.processes ++ more) f))

stays : (s t : Scope) → t.processes ≡ s.processes → t.members ≡ s.members → killalls_of t.commands ≡ killalls_of s.commands → Grows s t [] [] []
stays s t processes members commands = record {
  processes = processes ∙ sym (append-nil s.processes);
  members = members ∙ sym (append-nil s.members);
  killalls = commands ∙ sym (append-nil (killalls_of s.commands));
}

pub any : {A : Type 0} (r : Result A Fault) → IfOk r (λ _. Unit {0})
any (Ok x) = tt
any (Err f) = tt

-- a command more
acts : (n : ℕ) (s : Scope) (a : Action) (ks : List ℕ) → killed_by a ≡ ks → Grows s (with_action n s a) [] [] ks
acts n s a ks is =
    let c : Command = record { line = n; action = a } in
    record {
      processes = sym (append-nil s.processes);
      members = sym (append-nil s.members);
      killalls = flat_map-append (λ x. killed_by x.action) s.commands (c ∷ []) ∙ ap (λ (l : List ℕ). killalls_of s.commands ++ l) (append-nil (killed_by a) ∙ is);
    }

-- a command that kills no process
asks : (n : ℕ) (s : Scope) (r : Result Action Fault) → IfOk r (λ a. killed_by a ≡ []) → IfOk (asked n s r) (λ t. Grows s t [] [] [])
asks n s r none = chain r (λ a. Ok (with_action n s a)) (λ a. killed_by a ≡ []) (λ t. Grows s t [] [] []) none (λ a is. acts n s a [] is)

quiet : (n : ℕ) (s : Scope) (r : Result Scope Fault) → IfOk r (λ t. Grows s t [] [] []) → IfOk r (λ t. Unit {0} × ((more : List (List ℕ × ℕ)) → Grows s t [] [] []))
quiet n s (Ok t) h = (tt, λ more. h)
quiet n s (Err f) h = tt

calling : (s : Scope) (t : List ℕ) (c : CallForm) (make : ℕ → Op → Action) → ((i : ℕ) (o : Op) → killed_by (make i o) ≡ []) → IfOk (thread_of s t >>= λ i. call_of s c >>= λ k. Ok (make i k)) (λ a. killed_by a ≡ [])
calling s t c make none = chain (thread_of s t) (λ i. call_of s c >>= λ k. Ok (make i k)) (λ _. Unit {0}) (λ a. killed_by a ≡ []) (any (thread_of s t))
    (λ i _. chain (call_of s c) (λ k. Ok (make i k)) (λ _. Unit {0}) (λ a. killed_by a ≡ []) (any (call_of s c)) (λ k _. none i k))

of_thread : (s : Scope) (t : List ℕ) (make : ℕ → Action) → ((i : ℕ) → killed_by (make i) ≡ []) → IfOk (thread_of s t >>= λ i. Ok (make i)) (λ a. killed_by a ≡ [])
of_thread s t make none = chain (thread_of s t) (λ i. Ok (make i)) (λ _. Unit {0}) (λ a. killed_by a ≡ []) (any (thread_of s t)) (λ i _. none i)

stepping : (s : Scope) (t : List ℕ) (count : Option ℕ) → IfOk (stepped s t count) (λ a. killed_by a ≡ [])
stepping s t None = tt
stepping s t (Some k) = of_thread s t (λ i. action.Step i k) (λ i. refl)

dying : (s : Scope) (t : List ℕ) (access : Option ℕ) → IfOk (died s t access) (λ a. killed_by a ≡ [])
dying s t None = tt
dying s t (Some k) = chain (thread_of s t) (λ i. refuse (is_some (death_of i s.commands)) NoSuchName (Ok (action.Die i k))) (λ _. Unit {0}) (λ a. killed_by a ≡ []) (any (thread_of s t))
    (λ i _. refused (is_some (death_of i s.commands)) NoSuchName (Ok (action.Die i k)) (λ a. killed_by a ≡ []) (λ first_one. refl))

locking : (s : Scope) (t m : List ℕ) (count : Option ℕ) → IfOk (locked s t m count) (λ a. killed_by a ≡ [])
locking s t m None = tt
locking s t m (Some k) = chain (first_of s m k) (λ j. thread_of s t >>= λ i. Ok (action.Locks i j k)) (λ _. Unit {0}) (λ a. killed_by a ≡ []) (any (first_of s m k)) (λ j _. of_thread s t (λ i. action.Locks i j k) (λ i. refl))

remaking : (s : Scope) (t m : List ℕ) → IfOk (remade s t m) (λ a. killed_by a ≡ [])
remaking s t m = chain (thread_of s t) (λ i. place_of m s.mutexes >>= λ j. Ok (action.Remake i j)) (λ _. Unit {0}) (λ a. killed_by a ≡ []) (any (thread_of s t))
    (λ i _. chain (place_of m s.mutexes) (λ j. Ok (action.Remake i j)) (λ _. Unit {0}) (λ a. killed_by a ≡ []) (any (place_of m s.mutexes)) (λ j _. refl))

-- a declaration
pub after_all : {A : Type 0} (s : Scope) (r : Result A Fault) (f : A → Result Scope Fault) (P : Scope → Type 0) → ((x : A) → IfOk (f x) P) → IfOk (r >>= f) P
after_all s r f P h = chain r f (λ _. Unit {0}) P (any r) (λ x _. h x)

pub unless : (b : Bool) (f : Fault) (r : Result Scope Fault) (P : Scope → Type 0) → IfOk r P → IfOk (refuse b f r) P
unless b f r P h = refused b f r P (λ _. h)

of_process : (s : Scope) (w : List ℕ) (p : ℕ) (told : List ℕ) → p ∷ [] ≡ told → IfOk (with_thread s w p) (λ t. Grows s t [] told [])
of_process s w p told is = after_all s (with_name s.threads w) (λ names. Ok (record s { threads = names; members = s.members ++ p ∷ [] })) (λ t. Grows s t [] told [])
    (λ names. record { processes = sym (append-nil s.processes); members = ap (λ (l : List ℕ). s.members ++ l) is; killalls = sym (append-nil (killalls_of s.commands)) })

entered : (n : ℕ) (s : Scope) (f : Form) → IfOk (enter n s f) (Adds s f)
entered n s silent = (tt, λ more. stays s s refl refl refl)
entered n s (process w None) = after_all s (declares s) (λ _. Err OutOfRange) (Adds s (process w None)) (λ _. tt)
entered n s (process w (Some b)) =
    after_all s (declares s) _ (Adds s (process w (Some b))) (λ _. unless (nat_le max_processes (length s.processes)) OutOfRange _ (Adds s (process w (Some b)))
    (chain (with_entry s.processes w b) (λ ps. Ok (record s { processes = ps })) (λ ps. ps ≡ s.processes ++ (w, b) ∷ []) (Adds s (process w (Some b)))
    (refused _ NoSuchName (Ok (s.processes ++ (w, b) ∷ [])) (λ ps. ps ≡ s.processes ++ (w, b) ∷ []) (λ new. refl))
    (λ ps is. (tt, λ more. record { processes = is; members = sym (append-nil s.members); killalls = sym (append-nil (killalls_of s.commands)) }))))
entered n s (thread w) =
    after_all s (declares s) _ (Adds s (thread w)) (λ _. unless (nat_le max_threads (length s.threads)) OutOfRange _ (Adds s (thread w))
    (after_all s (with_name s.threads w) _ (Adds s (thread w)) (λ names. (tt, λ more. record { processes = sym (append-nil s.processes); members = refl; killalls = sym (append-nil (killalls_of s.commands)) }))))
entered n s (member w p) =
    after_all s (declares s) _ (Adds s (member w p)) (λ _. unless (nat_le max_threads (length s.threads)) OutOfRange _ (Adds s (member w p))
    (chain (process_of s p) (λ i. with_thread s w i) (λ i. (more : List (List ℕ × ℕ)) → i ≡ number_among (s.processes ++ more) p) (Adds s (member w p)) (numbered s p)
    (λ i is. after_all s (with_name s.threads w) _ (Adds s (member w p)) (λ names. (tt, λ more. record { processes = sym (append-nil s.processes); members = ap (λ (k : ℕ). s.members ++ k ∷ []) (is more); killalls = sym (append-nil (killalls_of s.commands)) })))))
entered n s (mutex w) = quiet n s _ (after_all s (declares s) _ (λ t. Grows s t [] [] []) (λ _. after_all s (added max_mutexes s.mutexes w) _ (λ t. Grows s t [] [] []) (λ names. stays s (record s { mutexes = names }) refl refl refl)))
entered n s (mutexes w count) = quiet n s _ (after_all s (declares s) _ (λ t. Grows s t [] [] []) (λ _. after_all s (ok_or count OutOfRange) _ (λ t. Grows s t [] [] []) (λ k. after_all s (several max_mutexes s.mutexes w k) _ (λ t. Grows s t [] [] [])
    (λ names. stays s (record s { mutexes = names }) refl refl refl))))
entered n s (form.cond w m count) = quiet n s _ (after_all s (declares s) _ (λ t. Grows s t [] [] []) (λ _. after_all s (ok_or count OutOfRange) _ (λ t. Grows s t [] [] []) (λ k.
    unless (nat_le max_conditions (length s.conditions)) OutOfRange _ (λ t. Grows s t [] [] []) (after_all s (place_of m s.mutexes) _ (λ t. Grows s t [] [] []) (λ j.
    after_all s (with_entry s.conditions w (record { mutex = j; counter = k })) _ (λ t. Grows s t [] [] []) (λ cs. stays s (record s { conditions = cs }) refl refl refl))))))
entered n s (begins t c) = quiet n s _ (asks n s (begun s t c) (calling s t c (λ i x. action.Begin i x) (λ i x. refl)))
entered n s (steps t count) = quiet n s _ (asks n s (stepped s t count) (stepping s t count))
entered n s (kills t) = quiet n s _ (asks n s (killed s t) (of_thread s t (λ i. action.Kill i) (λ i. refl)))
entered n s (kills_all p) =
    chain (all_killed s p) (λ a. Ok (with_action n s a)) (λ a. (more : List (List ℕ × ℕ)) → killed_by a ≡ number_among (s.processes ++ more) p ∷ []) (Adds s (kills_all p))
    (chain (process_of s p) (λ i. Ok (action.KillAll i)) (λ i. (more : List (List ℕ × ℕ)) → i ≡ number_among (s.processes ++ more) p) (λ a. (more : List (List ℕ × ℕ)) → killed_by a ≡ number_among (s.processes ++ more) p ∷ []) (numbered s p)
    (λ i is more. ap (λ (k : ℕ). k ∷ []) (is more)))
    (λ a is. (tt, λ more. acts n s a (number_among (s.processes ++ more) p ∷ []) (is more)))
entered n s (goes t) = quiet n s _ (asks n s (gone s t) (of_thread s t (λ i. action.Go i) (λ i. refl)))
entered n s (leaves t) = quiet n s _ (asks n s (left s t) (of_thread s t (λ i. action.Leave i) (λ i. refl)))
entered n s (declines t) = quiet n s _ (asks n s (declined s t) (of_thread s t (λ i. action.Decline i) (λ i. refl)))
entered n s (expires t) = quiet n s _ (asks n s (expired s t) (of_thread s t (λ i. action.Expire i) (λ i. refl)))
entered n s (renews t) = quiet n s _ (asks n s (renewed s t) (of_thread s t (λ i. action.Renew i) (λ i. refl)))
entered n s (remakes t m) = quiet n s _ (asks n s (remade s t m) (remaking s t m))
entered n s (spares t) = quiet n s _ (asks n s (wake_spared s t) (of_thread s t (λ i. action.Spare i) (λ i. refl)))
entered n s (calls t c) = quiet n s _ (asks n s (made s t c) (calling s t c (λ i x. action.Call i x) (λ i x. refl)))
entered n s (locks t m count) = quiet n s _ (asks n s (locked s t m count) (locking s t m count))
entered n s phase = (tt, λ more. acts n s action.Phase [] refl)
entered n s (dies t access) = quiet n s _ (asks n s (died s t access) (dying s t access))

-- ---- a form says what its words say

abbrev Says : Form → List (List ℕ) → Type 0
Says f ws = Given f → (told_process f ≡ process_in ws) × ((ps : List (List ℕ × ℕ)) → told_member ps f ≡ member_in ps ws) × ((ps : List (List ℕ × ℕ)) → told_killall ps f ≡ killall_in ps ws)

-- words that are one are no other
pub other : (w x y : List ℕ) → bytes_eq w x ≡ true → bytes_eq x y ≡ false → bytes_eq w y ≡ false
other w x y is apart = ap (λ (v : List ℕ). bytes_eq v y) ((bytes_eq-Decides w x).0 is) ∙ apart

pub first_of_three : (b c d : Bool) → (b && c && d) ≡ true → b ≡ true
first_of_three true c d e = refl
first_of_three false c d e = absurd cc

name_says : (w a : List ℕ) → IfSome (form.name_form w a) (λ f. Says f (w ∷ a ∷ []))
name_says w a = go (is_name a) (bytes_eq w (codes "thread")) (bytes_eq w (codes "mutex")) (bytes_eq w (codes "kill")) (bytes_eq w (codes "killall")) (bytes_eq w (codes "go")) (bytes_eq w (codes "leave")) (bytes_eq w (codes "decline")) (bytes_eq w (codes "renew")) (bytes_eq w (codes "spare")) (bytes_eq w (codes "expire")) refl refl refl refl refl refl refl refl refl refl
  where
    -- what is said of threads, and of processes to be killed
    told : (x y : Bool) → bytes_eq w (codes "thread") ≡ x → bytes_eq w (codes "killall") ≡ y
        → ((ps : List (List ℕ × ℕ)) → (if x then 0 ∷ [] else []) ≡ member_in ps (w ∷ a ∷ [])) × ((ps : List (List ℕ × ℕ)) → (if y then number_among ps a ∷ [] else []) ≡ killall_in ps (w ∷ a ∷ []))
    told x y e f = (λ ps. ap (λ (b : Bool). if b then 0 ∷ [] else []) (sym e), λ ps. ap (λ (b : Bool). if b then number_among ps a ∷ [] else []) (sym f))

    go : (n t m k l g v d r s u : Bool) → bytes_eq w (codes "thread") ≡ t → bytes_eq w (codes "mutex") ≡ m → bytes_eq w (codes "kill") ≡ k → bytes_eq w (codes "killall") ≡ l → bytes_eq w (codes "go") ≡ g → bytes_eq w (codes "leave") ≡ v → bytes_eq w (codes "decline") ≡ d → bytes_eq w (codes "renew") ≡ r → bytes_eq w (codes "spare") ≡ s → bytes_eq w (codes "expire") ≡ u
        → IfSome (if not n then None else (if t then Some (thread a) else (if m then Some (mutex a) else (if k then Some (kills a) else (if l then Some (kills_all a) else (if g then Some (goes a) else (if v then Some (leaves a) else (if d then Some (declines a) else (if r then Some (renews a) else (if s then Some (spares a) else (if u then Some (expires a) else None))))))))))) (λ f. Says f (w ∷ a ∷ []))
    go false t m k l g v d r s u et em ek el eg ev ed er es eu = tt
    go true true m k l g v d r s u et em ek el eg ev ed er es eu = λ _. let all = told true false et (other w (codes "thread") (codes "killall") et refl) in (refl, all.0, all.1)
    go true false true k l g v d r s u et em ek el eg ev ed er es eu = λ _. let all = told false false et (other w (codes "mutex") (codes "killall") em refl) in (refl, all.0, all.1)
    go true false false true l g v d r s u et em ek el eg ev ed er es eu = λ _. let all = told false false et (other w (codes "kill") (codes "killall") ek refl) in (refl, all.0, all.1)
    go true false false false true g v d r s u et em ek el eg ev ed er es eu = λ _. let all = told false true et el in (refl, all.0, all.1)
    go true false false false false true v d r s u et em ek el eg ev ed er es eu = λ _. let all = told false false et el in (refl, all.0, all.1)
    go true false false false false false true d r s u et em ek el eg ev ed er es eu = λ _. let all = told false false et el in (refl, all.0, all.1)
    go true false false false false false false true r s u et em ek el eg ev ed er es eu = λ _. let all = told false false et el in (refl, all.0, all.1)
    go true false false false false false false false true s u et em ek el eg ev ed er es eu = λ _. let all = told false false et el in (refl, all.0, all.1)
    go true false false false false false false false false true u et em ek el eg ev ed er es eu = λ _. let all = told false false et el in (refl, all.0, all.1)
    go true false false false false false false false false false true et em ek el eg ev ed er es eu = λ _. let all = told false false et el in (refl, all.0, all.1)
    go true false false false false false false false false false false et em ek el eg ev ed er es eu = tt

three_say : (w a n : List ℕ) → IfSome (or_else (step_form w a n) (or_else (die_form w a n) (or_else (mutexes_form w a n) (or_else (process_form w a n) (or_else (member_form w a n) (remake_form w a n)))))) (λ f. Says f (w ∷ a ∷ n ∷ []))
three_say w a n = go (bytes_eq w (codes "step") && is_name a && is_number n) (bytes_eq w (codes "die") && is_name a && is_number n) (bytes_eq w (codes "mutexes") && is_stem a && is_number n) (bytes_eq w (codes "process") && is_name a && is_number n) (bytes_eq w (codes "thread") && is_name a && is_name n) (bytes_eq w (codes "remake") && is_name a && is_name n) refl refl refl refl refl refl
  where
    v : ℕ
    v = digits_value 10 n

    -- what is said of processes, and of threads
    told : (x y : Bool) → bytes_eq w (codes "process") ≡ x → bytes_eq w (codes "thread") ≡ y
        → ((if x then (a, digits_value 10 n) ∷ [] else []) ≡ process_in (w ∷ a ∷ n ∷ [])) × ((ps : List (List ℕ × ℕ)) → (if y then number_among ps n ∷ [] else []) ≡ member_in ps (w ∷ a ∷ n ∷ []))
    told x y e f = (ap (λ (b : Bool). if b then (a, digits_value 10 n) ∷ [] else []) (sym e), λ ps. ap (λ (b : Bool). if b then number_among ps n ∷ [] else []) (sym f))

    ranged : (b : Bool) → bytes_eq w (codes "process") ≡ true → Says (process a (if b then Some (digits_value 10 n) else None)) (w ∷ a ∷ n ∷ [])
    ranged true is = λ _. let all = told true false is (other w (codes "process") (codes "thread") is refl) in (all.0, all.1, λ ps. refl)
    ranged false is = λ none. absurd none

    go : (s d m p t k : Bool) → (bytes_eq w (codes "step") && is_name a && is_number n) ≡ s → (bytes_eq w (codes "die") && is_name a && is_number n) ≡ d → (bytes_eq w (codes "mutexes") && is_stem a && is_number n) ≡ m → (bytes_eq w (codes "process") && is_name a && is_number n) ≡ p → (bytes_eq w (codes "thread") && is_name a && is_name n) ≡ t → (bytes_eq w (codes "remake") && is_name a && is_name n) ≡ k
        → IfSome (or_else (if s then Some (steps a (within 1 max_steps (digits_value 10 n))) else None) (or_else (if d then Some (dies a (within 1 max_access (digits_value 10 n))) else None)
        (or_else (if m then Some (mutexes a (within 1 max_mutexes (digits_value 10 n))) else None) (or_else (if p then Some (process a (within 0 max_base (digits_value 10 n))) else None) (or_else (if t then Some (member a n) else None) (if k then Some (remakes a n) else None)))))) (λ f. Says f (w ∷ a ∷ n ∷ []))
    go true d m p t k es ed em ep et ek = λ _. let is = first_of_three (bytes_eq w (codes "step")) (is_name a) (is_number n) es in let all = told false false (other w (codes "step") (codes "process") is refl) (other w (codes "step") (codes "thread") is refl) in (all.0, all.1, λ ps. refl)
    go false true m p t k es ed em ep et ek = λ _. let is = first_of_three (bytes_eq w (codes "die")) (is_name a) (is_number n) ed in let all = told false false (other w (codes "die") (codes "process") is refl) (other w (codes "die") (codes "thread") is refl) in (all.0, all.1, λ ps. refl)
    go false false true p t k es ed em ep et ek = λ _. let is = first_of_three (bytes_eq w (codes "mutexes")) (is_stem a) (is_number n) em in let all = told false false (other w (codes "mutexes") (codes "process") is refl) (other w (codes "mutexes") (codes "thread") is refl) in (all.0, all.1, λ ps. refl)
    go false false false true t k es ed em ep et ek = ranged _ (first_of_three (bytes_eq w (codes "process")) (is_name a) (is_number n) ep)
    go false false false false true k es ed em ep et ek = λ _. let is = first_of_three (bytes_eq w (codes "thread")) (is_name a) (is_name n) et in let all = told false true (other w (codes "thread") (codes "process") is refl) is in (all.0, all.1, λ ps. refl)
    go false false false false false true es ed em ep et ek = λ _. let is = first_of_three (bytes_eq w (codes "remake")) (is_name a) (is_name n) ek in let all = told false false (other w (codes "remake") (codes "process") is refl) (other w (codes "remake") (codes "thread") is refl) in (all.0, all.1, λ ps. refl)
    go false false false false false false es ed em ep et ek = tt

-- lines of four words say nothing of processes
either : (ws : List (List ℕ)) (b : Bool) (x y : Option Form) → IfSome x (λ f. Says f ws) → IfSome y (λ f. Says f ws) → IfSome (if b then x else y) (λ f. Says f ws)
either ws true x y p q = p
either ws false x y p q = q

first : (ws : List (List ℕ)) (x y : Option Form) → IfSome x (λ f. Says f ws) → IfSome y (λ f. Says f ws) → IfSome (or_else x y) (λ f. Says f ws)
first ws (Some f) y p q = p
first ws None y p q = q

four_say : (w t c m : List ℕ) → IfSome (or_else (locks_form w t c m) (or_else (cond_form w t c m) (option_and_then (calling_form w t) (call_form c m)))) (λ f. Says f (w ∷ t ∷ c ∷ m ∷ []))
four_say w t c m =
    let ws : List (List ℕ) = w ∷ t ∷ c ∷ m ∷ [] in
    first ws (locks_form w t c m) _ (either ws _ (Some (locks t c (within 1 max_mutexes (digits_value 10 m)))) None (λ _. (refl, λ ps. refl, λ ps. refl)) tt)
    (first ws (cond_form w t c m) _ (either ws _ (Some (form.cond t c (within 0 max_counter (digits_value 10 m)))) None (λ _. (refl, λ ps. refl, λ ps. refl)) tt) (go (call_form c m)))
  where
    go : (o : Option CallForm) → IfSome (option_and_then (calling_form w t) o) (λ f. Says f (w ∷ t ∷ c ∷ m ∷ []))
    go None = tt
    go (Some k) =
        let ws : List (List ℕ) = w ∷ t ∷ c ∷ m ∷ [] in
        either ws (not (is_name t)) None _ tt (either ws (bytes_eq w _) (Some (begins t k)) _ (λ _. (refl, λ ps. refl, λ ps. refl)) (either ws (bytes_eq w _) (Some (calls t k)) None (λ _. (refl, λ ps. refl, λ ps. refl)) tt))

words_say : (ws : List (List ℕ)) → IfSome (words_form ws) (λ f. Says f ws)
words_say [] = tt
words_say (w ∷ []) = either (w ∷ []) (bytes_eq w _) (Some phase) None (λ _. (refl, λ ps. refl, λ ps. refl)) tt
words_say (w ∷ a ∷ []) = name_says w a
words_say (w ∷ a ∷ n ∷ []) = three_say w a n
words_say (w ∷ t ∷ c ∷ m ∷ []) = four_say w t c m
words_say (w ∷ t ∷ c ∷ m ∷ x ∷ more) = tt

text_says : (k : Mode) (text : List ℕ) → IfSome (form_of k text) (λ f. Says f (said text))
text_says k text = go (is_silent text) (words_form (words_of text)) (words_say (words_of text))
  where
    go : (b : Bool) (o : Option Form) → IfSome o (λ f. Says f (words_of text)) → IfSome (if b then Some silent else option_and_then (of_mode k) o) (λ f. Says f (if b then [] else words_of text))
    go true o h = λ _. (refl, λ ps. refl, λ ps. refl)
    go false None h = tt
    go false (Some f) h = either (words_of text) (has k f) (Some f) None h tt

-- ---- lines

abbrev LineTells : Scope → List (List ℕ) → Scope → Type 0
LineTells s ws t = (more : List (List ℕ × ℕ)) → Grows s t (process_in ws) (member_in (t.processes ++ more) ws) (killall_in (t.processes ++ more) ws)

line_tells : (n : ℕ) (s : Scope) (text : List ℕ) → IfOk (line_read n s text) (LineTells s (said text))
line_tells n s text = refused (nat_lt max_lines n) TooLong (ok_or (form_of s.mode text) UnknownWord >>= λ f. enter n s f) (LineTells s (said text)) (λ _. by_cases (form_of s.mode text) (text_says s.mode text))
  where
    ws : List (List ℕ)
    ws = said text

    joined : (f : Form) (r : Result Scope Fault) → IfOk r (Adds s f) → Says f (said text) → IfOk r (LineTells s (said text))
    joined f (Err e) h says = tt
    joined f (Ok t) h says = λ more.
        let all = says h.0 in
        let after = told_process f ++ more in
        let grown = h.1 after in
        let whole : s.processes ++ after ≡ t.processes ++ more = sym (append_assoc s.processes (told_process f) more) ∙ ap (λ (l : List (List ℕ × ℕ)). l ++ more) (sym grown.processes) in
        record {
          processes = grown.processes ∙ ap (λ (l : List (List ℕ × ℕ)). s.processes ++ l) all.0;
          members = grown.members ∙ ap (λ (l : List ℕ). s.members ++ l) (all.1 (s.processes ++ after) ∙ ap (λ (ps : List (List ℕ × ℕ)). member_in ps (said text)) whole);
          killalls = grown.killalls ∙ ap (λ (l : List ℕ). killalls_of s.commands ++ l) (all.2 (s.processes ++ after) ∙ ap (λ (ps : List (List ℕ × ℕ)). killall_in ps (said text)) whole);
        }

    by_cases : (o : Option Form) → IfSome o (λ f. Says f (said text)) → IfOk (ok_or o UnknownWord >>= λ f. enter n s f) (LineTells s (said text))
    by_cases None says = tt
    by_cases (Some f) says = joined f (enter n s f) (entered n s f) says

-- all lines, by the processes that there are at the end
abbrev AllTold : Scope → List (List ℕ) → Scope → Type 0
AllTold s ls t = Grows s t (processes_in ls) (flat_map (λ text. member_in t.processes (said text)) ls) (flat_map (λ text. killall_in t.processes (said text)) ls)

-- the last line is empty
last_told : (n : ℕ) (s : Scope) (text : List ℕ) → IfOk (finished n s text) (AllTold s (text ∷ []))
last_told n s text =
    refused (not (length text == 0)) (if nat_lt max_lines n then TooLong else UnknownWord) (refuse (length s.threads == 0 || length s.mutexes == 0) OutOfRange (Ok s)) (AllTold s (text ∷ []))
    (λ empty. refused (length s.threads == 0 || length s.mutexes == 0) OutOfRange (Ok s) (AllTold s (text ∷ [])) (λ some. go text empty))
  where
    go : (text : List ℕ) → not (length text == 0) ≡ false → AllTold s (text ∷ []) s
    go [] empty = stays s s refl refl refl
    go (x ∷ xs) empty = absurd (grind (arith, nat_tests))

pub met : {A : Type 0} (n : ℕ) (r : Result A Fault) (P : A → Type 0) → IfOk r P → IfOk (met_at n r) P
met n (Ok x) P h = h
met n (Err f) P h = tt

lines_told : (n : ℕ) (s : Scope) (ls : List (List ℕ)) → IfOk (lines_read n s ls) (AllTold s ls)
unfolding lines_read
lines_told n s [] = stays s s refl refl refl
lines_told n s (text ∷ []) = met n (finished n s text) (AllTold s (text ∷ [])) (last_told n s text)
lines_told n s (text ∷ next ∷ more) = go (line_read n s text) (line_tells n s text) (λ t. lines_told (n + 1) t (next ∷ more))
  where
    joined : (t : Scope) (r : Result Scope ScriptFault) → LineTells s (said text) t → IfOk r (AllTold t (next ∷ more)) → IfOk r (AllTold s (text ∷ next ∷ more))
    joined t (Err e) line rest = tt
    joined t (Ok u) line rest =
        let one = line (processes_in (next ∷ more)) in
        let end = sym rest.processes in
        let here : Grows s t (process_in (said text)) (member_in u.processes (said text)) (killall_in u.processes (said text)) =
        subst (λ (ps : List (List ℕ × ℕ)). Grows s t (process_in (said text)) (member_in ps (said text)) (killall_in ps (said text))) end one in
        grows_on s t u (process_in (said text)) (processes_in (next ∷ more)) (member_in u.processes (said text)) (flat_map (λ x. member_in u.processes (said x)) (next ∷ more))
        (killall_in u.processes (said text)) (flat_map (λ x. killall_in u.processes (said x)) (next ∷ more)) here rest

    go : (r : Result Scope Fault) → IfOk r (LineTells s (said text)) → ((t : Scope) → IfOk (lines_read (n + 1) t (next ∷ more)) (AllTold t (next ∷ more))) → IfOk (met_at n r >>= λ t. lines_read (n + 1) t (next ∷ more)) (AllTold s (text ∷ next ∷ more))
    go (Err f) line rest = tt
    go (Ok t) line rest = joined t (lines_read (n + 1) t (next ∷ more)) line (rest t)

-- ---- scripts

pub as_told : ProcessesAreAsTold
as_told k bytes = go (nat_lt max_bytes (length bytes)) (is_utf8 bytes)
  where
    whole : (s : Scope) → AllTold (nothing k) (lines_of bytes) s → IsAsTold (lines_of bytes) s
    whole s h = record {
      bases = ap (λ (ps : List (List ℕ × ℕ)). 0 ∷ map (λ p. p.1) ps) h.processes;
      threads = h.members ∙ ap (λ (ps : List (List ℕ × ℕ)). flat_map (λ text. member_in ps (said text)) (lines_of bytes)) h.processes;
      killalls = h.killalls ∙ ap (λ (ps : List (List ℕ × ℕ)). flat_map (λ text. killall_in ps (said text)) (lines_of bytes)) h.processes;
    }

    read : (r : Result Scope ScriptFault) → IfOk r (AllTold (nothing k) (lines_of bytes)) → IfOk r (IsAsTold (lines_of bytes))
    read (Ok s) h = whole s h
    read (Err e) h = tt

    go : (long valid : Bool) → IfOk (if long then Err (fault_at 1 TooLong) else (if valid then text_read k bytes else Err (fault_at (bad_line bytes) NotUtf8))) (IsAsTold (lines_of bytes))
    go true valid = tt
    go false false = tt
    go false true = read (text_read k bytes) (lines_told 1 (nothing k) (lines_of bytes))
