-- The lines of scripts are those that the table goes through.
use Rattle.std.proofs.Common.{◌≡◌, ℕ, Bool, true, false, not, ◌&&◌, List, [], ◌∷◌, Option, Some, None, option_and_then, if◌then◌else◌, refl, sym, ap, ◌∙◌}
use Rattle.std.specs.Prelude.{codes}
use Rattle.std.specs.Option.{is_some}
use Rattle.std.specs.Str.{bytes_eq}
use Rattle.std.specs.Str.Parse.{digits_value}
use Rattle.lines.specs.Numbers.{is_number, within}
use Rattle.posixmutex.specs.declared.point.Operation.{Operation}
use Rattle.posixmutex.specs.declared.point.Operation.TheVariants as op
use Rattle.posixmutex.specs.Words.{operation_of}
use Rattle.script.specs.declared.command.Mode.{Mode}
use Rattle.script.specs.declared.command.Mode.TheVariants.{Run, Threads}
use Rattle.script.specs.Limits.{max_steps, max_access, max_mutexes, max_base, max_counter}
use Rattle.script.specs.Forms.{CallForm, lock, trylock, timedlock, unlock, consistent, wait, timedwait, signal, broadcast, Form, process, thread, member, mutex, mutexes, cond, begins, steps, kills, kills_all, goes, renews, remakes, leaves, expires, declines, spares, calls, locks, phase, dies, is_name, is_stem, is_untimed, has, of_mode, or_else, call_on, call_form, calling_form, words_form}
use Rattle.grammar.specs.declared.next.Next.{Next}
use Rattle.grammar.specs.declared.next.Next.TheVariants.{End, Keyword, Name, NewThread, ProcessOrEnd, NameNumber, NameNameNumber, NameName, StemNumber, Number, NameCall, Call}
use Rattle.grammar.specs.Nexts.{fitting, is_made, keyword, made, timed}
use Rattle.grammar.proofs.Running.{ends, run}
use Rattle.grammar.proofs.Fitting.{both, fits_end, fits_last, fits_then}
use Rattle.grammar.proofs.Words.{pick}

-- a line of the mode, if it is one of scripts
abbrev said : Mode → Option Form → Bool
said k o = is_some (option_and_then (of_mode k) o)

-- a form that scripts of the mode have, or haven't, where a test passes
decided : (k : Mode) (f : Form) (on b : Bool) → has k f ≡ on → said k (if b then Some f else None) ≡ (on && b)
decided k f true true h = rw h refl
decided k f false true h = rw h refl
decided k f true false h = refl
decided k f false false h = refl

never : (on : Bool) → false ≡ (on && false)
never true = refl
never false = refl

alone_true : (b : Bool) → (b && true) ≡ b
alone_true true = refl
alone_true false = refl

grouped : (a b c : Bool) → (a && (b && c)) ≡ ((a && b) && c)
grouped true b c = refl
grouped false b c = refl

-- ---- the words of a line, one after the other

number_long : (n b : List ℕ) (ws : List (List ℕ)) → ends (run Number (n ∷ b ∷ ws)) ≡ false
number_long n b ws = fits_last (is_number n) b ws

-- ---- the shapes of lines after their first word

abbrev one_name : (List ℕ → Form) → List (List ℕ) → Option Form
one_name F (a ∷ []) = if is_name a then Some (F a) else None
one_name F ws = None

named : (k : Mode) (F : List ℕ → Form) (on : Bool) → ((a : List ℕ) → has k (F a) ≡ on) → (ws : List (List ℕ)) → said k (one_name F ws) ≡ (on && ends (run Name ws))
named k F on h [] = never on
named k F on h (a ∷ []) = decided k (F a) on (is_name a) (h a) ∙ ap (λ (b : Bool). on && b) (sym (fits_end (is_name a)))
named k F on h (a ∷ b ∷ ws) = never on ∙ ap (λ (t : Bool). on && t) (sym (fits_last (is_name a) b ws))

abbrev one_number : (List ℕ → Bool) → (List ℕ → List ℕ → Form) → List (List ℕ) → Option Form
one_number T F (a ∷ n ∷ []) = if T a && is_number n then Some (F a n) else None
one_number T F ws = None

counted : (k : Mode) (T : List ℕ → Bool) (F : List ℕ → List ℕ → Form) (on : Bool) (m : Next) → ends (run m []) ≡ false → ((a : List ℕ) (ws : List (List ℕ)) → ends (run m (a ∷ ws)) ≡ (T a && ends (run Number ws))) → ((a n : List ℕ) → has k (F a n) ≡ on) → (ws : List (List ℕ)) → said k (one_number T F ws) ≡ (on && ends (run m ws))
counted k T F on m o e h [] = never on ∙ ap (λ (t : Bool). on && t) (sym o)
counted k T F on m o e h (a ∷ []) = never on ∙ ap (λ (t : Bool). on && t) (sym (e a [] ∙ both (T a) false refl))
counted k T F on m o e h (a ∷ n ∷ []) = decided k (F a n) on (T a && is_number n) (h a n) ∙ ap (λ (t : Bool). on && t) (sym (e a (n ∷ []) ∙ ap (λ (t : Bool). T a && t) (fits_end (is_number n))))
counted k T F on m o e h (a ∷ n ∷ b ∷ ws) = never on ∙ ap (λ (t : Bool). on && t) (sym (e a (n ∷ b ∷ ws) ∙ both (T a) _ (number_long n b ws)))

named_number : (k : Mode) (F : List ℕ → List ℕ → Form) (on : Bool) → ((a n : List ℕ) → has k (F a n) ≡ on) → (ws : List (List ℕ)) → said k (one_number is_name F ws) ≡ (on && ends (run NameNumber ws))
named_number k F on h ws = counted k is_name F on NameNumber refl (λ a vs. fits_then (is_name a) Number vs) h ws

stem_number : (k : Mode) (F : List ℕ → List ℕ → Form) (on : Bool) → ((a n : List ℕ) → has k (F a n) ≡ on) → (ws : List (List ℕ)) → said k (one_number is_stem F ws) ≡ (on && ends (run StemNumber ws))
stem_number k F on h ws = counted k is_stem F on StemNumber refl (λ a vs. fits_then (is_stem a) Number vs) h ws

abbrev two_names : (List ℕ → List ℕ → List ℕ → Form) → List (List ℕ) → Option Form
two_names F (a ∷ b ∷ n ∷ []) = if is_name a && is_name b && is_number n then Some (F a b n) else None
two_names F ws = None

names_number : (k : Mode) (F : List ℕ → List ℕ → List ℕ → Form) (on : Bool) → ((a b n : List ℕ) → has k (F a b n) ≡ on) → (ws : List (List ℕ)) → said k (two_names F ws) ≡ (on && ends (run NameNameNumber ws))
names_number k F on h [] = never on
names_number k F on h (a ∷ []) = never on ∙ ap (λ (t : Bool). on && t) (sym (fits_then (is_name a) NameNumber [] ∙ both (is_name a) false refl))
names_number k F on h (a ∷ b ∷ []) = never on ∙ ap (λ (t : Bool). on && t) (sym (fits_then (is_name a) NameNumber (b ∷ []) ∙ both (is_name a) _ (fits_then (is_name b) Number [] ∙ both (is_name b) false refl)))
names_number k F on h (a ∷ b ∷ n ∷ []) =
    decided k (F a b n) on (is_name a && is_name b && is_number n) (h a b n)
    ∙ ap (λ (t : Bool). on && t) (sym (fits_then (is_name a) NameNumber (b ∷ n ∷ []) ∙ ap (λ (t : Bool). is_name a && t) (fits_then (is_name b) Number (n ∷ []) ∙ ap (λ (t : Bool). is_name b && t) (fits_end (is_number n))) ∙ grouped (is_name a) (is_name b) (is_number n)))
names_number k F on h (a ∷ b ∷ n ∷ c ∷ ws) = never on ∙ ap (λ (t : Bool). on && t) (sym (fits_then (is_name a) NameNumber (b ∷ n ∷ c ∷ ws) ∙ both (is_name a) _ (fits_then (is_name b) Number (n ∷ c ∷ ws) ∙ both (is_name b) _ (number_long n c ws))))

abbrev both_names : (List ℕ → List ℕ → Form) → List (List ℕ) → Option Form
both_names F (a ∷ b ∷ []) = if is_name a && is_name b then Some (F a b) else None
both_names F ws = None

named_twice : (k : Mode) (F : List ℕ → List ℕ → Form) (on : Bool) → ((a b : List ℕ) → has k (F a b) ≡ on) → (ws : List (List ℕ)) → said k (both_names F ws) ≡ (on && ends (run NameName ws))
named_twice k F on h [] = never on
named_twice k F on h (a ∷ []) = never on ∙ ap (λ (t : Bool). on && t) (sym (fits_then (is_name a) Name [] ∙ both (is_name a) false refl))
named_twice k F on h (a ∷ b ∷ []) = decided k (F a b) on (is_name a && is_name b) (h a b) ∙ ap (λ (t : Bool). on && t) (sym (fits_then (is_name a) Name (b ∷ []) ∙ ap (λ (t : Bool). is_name a && t) (fits_end (is_name b))))
named_twice k F on h (a ∷ b ∷ c ∷ ws) = never on ∙ ap (λ (t : Bool). on && t) (sym (fits_then (is_name a) Name (b ∷ c ∷ ws) ∙ both (is_name a) _ (fits_last (is_name b) c ws)))

-- a thread, alone or with its process
abbrev thread_line : List (List ℕ) → Option Form
thread_line (a ∷ []) = if is_name a then Some (thread a) else None
thread_line (a ∷ p ∷ []) = if is_name a && is_name p then Some (member a p) else None
thread_line ws = None

over_there : (b : Bool) → ends (option_and_then (λ n. run n []) (fitting b ProcessOrEnd)) ≡ b
over_there true = refl
over_there false = refl

threaded : (k : Mode) → ((a : List ℕ) → has k (thread a) ≡ true) → ((a p : List ℕ) → has k (member a p) ≡ true) → (ws : List (List ℕ)) → said k (thread_line ws) ≡ ends (run NewThread ws)
threaded k h g [] = refl
threaded k h g (a ∷ []) = decided k (thread a) true (is_name a) (h a) ∙ sym (over_there (is_name a))
threaded k h g (a ∷ p ∷ []) = decided k (member a p) true (is_name a && is_name p) (g a p) ∙ sym (fits_then (is_name a) ProcessOrEnd (p ∷ []) ∙ ap (λ (t : Bool). is_name a && t) (fits_end (is_name p)))
threaded k h g (a ∷ p ∷ b ∷ ws) = sym (fits_then (is_name a) ProcessOrEnd (p ∷ b ∷ ws) ∙ both (is_name a) _ (fits_last (is_name p) b ws))

-- a thread and a call
abbrev call_line : (List ℕ → CallForm → Form) → List (List ℕ) → Option Form
call_line F (t ∷ c ∷ m ∷ []) = option_and_then (λ x. if is_name t then Some (F t x) else None) (call_form c m)
call_line F ws = None

-- scripts of the mode make it, if they make calls there
abbrev takes : Mode → CallForm → Bool
takes k (timedlock m) = is_some (timed k op.TimedLock)
takes k (timedwait c) = is_some (timed k op.TimedWait)
takes k x = true

regrouped : (on c b : Bool) → ((on && c) && b) ≡ (on && (b && (c && true)))
regrouped true true true = refl
regrouped true true false = refl
regrouped true false true = refl
regrouped true false false = refl
regrouped false c b = refl

called : (k : Mode) (F : List ℕ → CallForm → Form) (on : Bool) (t m : List ℕ) → ((x : CallForm) → has k (F t x) ≡ (on && takes k x)) → (bt bm : Bool) (o : Option Operation) → said k (option_and_then (λ x. if bt then Some (F t x) else None) (if not bm then None else option_and_then (call_on m) o)) ≡ (on && (bt && (is_some (option_and_then (made k) o) && bm)))
called k F on t m h bt false o = never on ∙ ap (λ (b : Bool). on && b) (sym (both bt _ (both (is_some (option_and_then (made k) o)) false refl)))
called k F on t m h bt true None = never on ∙ ap (λ (b : Bool). on && b) (sym (both bt false refl))
called k F on t m h bt true (Some op.Lock) = decided k (F t (lock m)) (on && true) bt (h (lock m)) ∙ regrouped on true bt
called k F on t m h bt true (Some op.TryLock) = decided k (F t (trylock m)) (on && true) bt (h (trylock m)) ∙ regrouped on true bt
called k F on t m h bt true (Some op.TimedLock) = decided k (F t (timedlock m)) (on && is_some (timed k op.TimedLock)) bt (h (timedlock m)) ∙ regrouped on (is_some (timed k op.TimedLock)) bt
called k F on t m h bt true (Some op.Unlock) = decided k (F t (unlock m)) (on && true) bt (h (unlock m)) ∙ regrouped on true bt
called k F on t m h bt true (Some op.Consistent) = decided k (F t (consistent m)) (on && true) bt (h (consistent m)) ∙ regrouped on true bt
called k F on t m h bt true (Some op.Wait) = decided k (F t (wait m)) (on && true) bt (h (wait m)) ∙ regrouped on true bt
called k F on t m h bt true (Some op.TimedWait) = decided k (F t (timedwait m)) (on && is_some (timed k op.TimedWait)) bt (h (timedwait m)) ∙ regrouped on (is_some (timed k op.TimedWait)) bt
called k F on t m h bt true (Some op.Signal) = decided k (F t (signal m)) (on && true) bt (h (signal m)) ∙ regrouped on true bt
called k F on t m h bt true (Some op.Broadcast) = decided k (F t (broadcast m)) (on && true) bt (h (broadcast m)) ∙ regrouped on true bt
called k F on t m h bt true (Some op.Death) = never on ∙ ap (λ (b : Bool). on && b) (sym (both bt false refl))
called k F on t m h bt true (Some op.Reinit) = never on ∙ ap (λ (b : Bool). on && b) (sym (both bt false refl))

calling : (k : Mode) (F : List ℕ → CallForm → Form) (on : Bool) → ((t : List ℕ) (x : CallForm) → has k (F t x) ≡ (on && takes k x)) → (ws : List (List ℕ)) → said k (call_line F ws) ≡ (on && ends (run (NameCall k) ws))
calling k F on h [] = never on
calling k F on h (t ∷ []) = never on ∙ ap (λ (b : Bool). on && b) (sym (fits_then (is_name t) (Call k) [] ∙ both (is_name t) false refl))
calling k F on h (t ∷ c ∷ []) = never on ∙ ap (λ (b : Bool). on && b) (sym (fits_then (is_name t) (Call k) (c ∷ []) ∙ both (is_name t) _ (fits_then (is_made k c) Name [] ∙ both (is_made k c) false refl)))
calling k F on h (t ∷ c ∷ m ∷ []) =
    called k F on t m (h t) (is_name t) (is_name m) (operation_of c)
    ∙ ap (λ (b : Bool). on && b) (sym (fits_then (is_name t) (Call k) (c ∷ m ∷ []) ∙ ap (λ (b : Bool). is_name t && b) (fits_then (is_made k c) Name (m ∷ []) ∙ ap (λ (b : Bool). is_made k c && b) (fits_end (is_name m)))))
calling k F on h (t ∷ c ∷ m ∷ b ∷ ws) = never on ∙ ap (λ (q : Bool). on && q) (sym (fits_then (is_name t) (Call k) (c ∷ m ∷ b ∷ ws) ∙ both (is_name t) _ (fits_then (is_made k c) Name (m ∷ b ∷ ws) ∙ both (is_made k c) _ (fits_last (is_name m) b ws))))

-- the calls of each mode
all_taken : (x : CallForm) → true ≡ takes Run x
all_taken (lock m) = refl
all_taken (trylock m) = refl
all_taken (timedlock m) = refl
all_taken (timedwait c) = refl
all_taken (unlock m) = refl
all_taken (consistent m) = refl
all_taken (wait m) = refl
all_taken (signal m) = refl
all_taken (broadcast m) = refl

untimed_taken : (x : CallForm) → is_untimed x ≡ takes Threads x
untimed_taken (lock m) = refl
untimed_taken (trylock m) = refl
untimed_taken (timedlock m) = refl
untimed_taken (timedwait c) = refl
untimed_taken (unlock m) = refl
untimed_taken (consistent m) = refl
untimed_taken (wait m) = refl
untimed_taken (signal m) = refl
untimed_taken (broadcast m) = refl

-- no word at all
abbrev no_words : List (List ℕ) → Option Form
no_words [] = Some phase
no_words ws = None

-- ---- which shape a first word has

flipped : (b : Bool) (f : Form) → (if not b then None else Some f) ≡ (if b then Some f else None)
flipped true f = refl
flipped false f = refl

abbrev no_form : Option Form
no_form = None

flipped_none : (b : Bool) → (if not b then no_form else None) ≡ None
flipped_none true = refl
flipped_none false = refl

no_call : (b : Bool) (o : Option CallForm) → option_and_then (λ x. if not b then no_form else None) o ≡ None
no_call b None = refl
no_call true (Some x) = refl
no_call false (Some x) = refl

some_call : (b : Bool) (F : CallForm → Form) (o : Option CallForm) → option_and_then (λ x. if not b then None else Some (F x)) o ≡ option_and_then (λ x. if b then Some (F x) else None) o
some_call b F None = refl
some_call b F (Some x) = flipped b (F x)

or_last : (b : Bool) (f : Form) (o : Option Form) → o ≡ None → or_else (if b then Some f else None) o ≡ (if b then Some f else None)
or_last true f o e = refl
or_last false f o e = e

shape_mutex : (ws : List (List ℕ)) → words_form (codes "mutex" ∷ ws) ≡ one_name mutex ws
shape_mutex [] = refl
shape_mutex (a ∷ []) = flipped (is_name a) (mutex a)
shape_mutex (a ∷ n ∷ []) = refl
shape_mutex (t ∷ c ∷ m ∷ []) = no_call (is_name t) (call_form c m)
shape_mutex (t ∷ c ∷ m ∷ b ∷ ws) = refl

law_mutex : (k : Mode) (ws : List (List ℕ)) → said k (words_form (codes "mutex" ∷ ws)) ≡ ends (run (Keyword k) (codes "mutex" ∷ ws))
law_mutex Run ws = ap (said Run) (shape_mutex ws) ∙ named Run mutex true (λ a. refl) ws
law_mutex Threads ws = ap (said Threads) (shape_mutex ws) ∙ named Threads mutex true (λ a. refl) ws

shape_kill : (ws : List (List ℕ)) → words_form (codes "kill" ∷ ws) ≡ one_name kills ws
shape_kill [] = refl
shape_kill (a ∷ []) = flipped (is_name a) (kills a)
shape_kill (a ∷ n ∷ []) = refl
shape_kill (t ∷ c ∷ m ∷ []) = no_call (is_name t) (call_form c m)
shape_kill (t ∷ c ∷ m ∷ b ∷ ws) = refl

law_kill : (k : Mode) (ws : List (List ℕ)) → said k (words_form (codes "kill" ∷ ws)) ≡ ends (run (Keyword k) (codes "kill" ∷ ws))
law_kill Run ws = ap (said Run) (shape_kill ws) ∙ named Run kills true (λ a. refl) ws
law_kill Threads ws = ap (said Threads) (shape_kill ws) ∙ named Threads kills false (λ a. refl) ws

shape_killall : (ws : List (List ℕ)) → words_form (codes "killall" ∷ ws) ≡ one_name kills_all ws
shape_killall [] = refl
shape_killall (a ∷ []) = flipped (is_name a) (kills_all a)
shape_killall (a ∷ n ∷ []) = refl
shape_killall (t ∷ c ∷ m ∷ []) = no_call (is_name t) (call_form c m)
shape_killall (t ∷ c ∷ m ∷ b ∷ ws) = refl

law_killall : (k : Mode) (ws : List (List ℕ)) → said k (words_form (codes "killall" ∷ ws)) ≡ ends (run (Keyword k) (codes "killall" ∷ ws))
law_killall Run ws = ap (said Run) (shape_killall ws) ∙ named Run kills_all true (λ a. refl) ws
law_killall Threads ws = ap (said Threads) (shape_killall ws) ∙ named Threads kills_all false (λ a. refl) ws

shape_renew : (ws : List (List ℕ)) → words_form (codes "renew" ∷ ws) ≡ one_name renews ws
shape_renew [] = refl
shape_renew (a ∷ []) = flipped (is_name a) (renews a)
shape_renew (a ∷ n ∷ []) = refl
shape_renew (t ∷ c ∷ m ∷ []) = no_call (is_name t) (call_form c m)
shape_renew (t ∷ c ∷ m ∷ b ∷ ws) = refl

law_renew : (k : Mode) (ws : List (List ℕ)) → said k (words_form (codes "renew" ∷ ws)) ≡ ends (run (Keyword k) (codes "renew" ∷ ws))
law_renew Run ws = ap (said Run) (shape_renew ws) ∙ named Run renews true (λ a. refl) ws
law_renew Threads ws = ap (said Threads) (shape_renew ws) ∙ named Threads renews false (λ a. refl) ws

shape_remake : (ws : List (List ℕ)) → words_form (codes "remake" ∷ ws) ≡ both_names remakes ws
shape_remake [] = refl
shape_remake (a ∷ []) = flipped_none (is_name a)
shape_remake (a ∷ n ∷ []) = refl
shape_remake (t ∷ c ∷ m ∷ []) = no_call (is_name t) (call_form c m)
shape_remake (t ∷ c ∷ m ∷ b ∷ ws) = refl

law_remake : (k : Mode) (ws : List (List ℕ)) → said k (words_form (codes "remake" ∷ ws)) ≡ ends (run (Keyword k) (codes "remake" ∷ ws))
law_remake Run ws = ap (said Run) (shape_remake ws) ∙ named_twice Run remakes true (λ a b. refl) ws
law_remake Threads ws = ap (said Threads) (shape_remake ws) ∙ named_twice Threads remakes false (λ a b. refl) ws

shape_leave : (ws : List (List ℕ)) → words_form (codes "leave" ∷ ws) ≡ one_name leaves ws
shape_leave [] = refl
shape_leave (a ∷ []) = flipped (is_name a) (leaves a)
shape_leave (a ∷ n ∷ []) = refl
shape_leave (t ∷ c ∷ m ∷ []) = no_call (is_name t) (call_form c m)
shape_leave (t ∷ c ∷ m ∷ b ∷ ws) = refl

law_leave : (k : Mode) (ws : List (List ℕ)) → said k (words_form (codes "leave" ∷ ws)) ≡ ends (run (Keyword k) (codes "leave" ∷ ws))
law_leave Run ws = ap (said Run) (shape_leave ws) ∙ named Run leaves true (λ a. refl) ws
law_leave Threads ws = ap (said Threads) (shape_leave ws) ∙ named Threads leaves false (λ a. refl) ws

shape_decline : (ws : List (List ℕ)) → words_form (codes "decline" ∷ ws) ≡ one_name declines ws
shape_decline [] = refl
shape_decline (a ∷ []) = flipped (is_name a) (declines a)
shape_decline (a ∷ n ∷ []) = refl
shape_decline (t ∷ c ∷ m ∷ []) = no_call (is_name t) (call_form c m)
shape_decline (t ∷ c ∷ m ∷ b ∷ ws) = refl

law_decline : (k : Mode) (ws : List (List ℕ)) → said k (words_form (codes "decline" ∷ ws)) ≡ ends (run (Keyword k) (codes "decline" ∷ ws))
law_decline Run ws = ap (said Run) (shape_decline ws) ∙ named Run declines true (λ a. refl) ws
law_decline Threads ws = ap (said Threads) (shape_decline ws) ∙ named Threads declines false (λ a. refl) ws

shape_spare : (ws : List (List ℕ)) → words_form (codes "spare" ∷ ws) ≡ one_name spares ws
shape_spare [] = refl
shape_spare (a ∷ []) = flipped (is_name a) (spares a)
shape_spare (a ∷ n ∷ []) = refl
shape_spare (t ∷ c ∷ m ∷ []) = no_call (is_name t) (call_form c m)
shape_spare (t ∷ c ∷ m ∷ b ∷ ws) = refl

law_spare : (k : Mode) (ws : List (List ℕ)) → said k (words_form (codes "spare" ∷ ws)) ≡ ends (run (Keyword k) (codes "spare" ∷ ws))
law_spare Run ws = ap (said Run) (shape_spare ws) ∙ named Run spares true (λ a. refl) ws
law_spare Threads ws = ap (said Threads) (shape_spare ws) ∙ named Threads spares false (λ a. refl) ws

shape_expire : (ws : List (List ℕ)) → words_form (codes "expire" ∷ ws) ≡ one_name expires ws
shape_expire [] = refl
shape_expire (a ∷ []) = flipped (is_name a) (expires a)
shape_expire (a ∷ n ∷ []) = refl
shape_expire (t ∷ c ∷ m ∷ []) = no_call (is_name t) (call_form c m)
shape_expire (t ∷ c ∷ m ∷ b ∷ ws) = refl

law_expire : (k : Mode) (ws : List (List ℕ)) → said k (words_form (codes "expire" ∷ ws)) ≡ ends (run (Keyword k) (codes "expire" ∷ ws))
law_expire Run ws = ap (said Run) (shape_expire ws) ∙ named Run expires true (λ a. refl) ws
law_expire Threads ws = ap (said Threads) (shape_expire ws) ∙ named Threads expires false (λ a. refl) ws

shape_go : (ws : List (List ℕ)) → words_form (codes "go" ∷ ws) ≡ one_name goes ws
shape_go [] = refl
shape_go (a ∷ []) = flipped (is_name a) (goes a)
shape_go (a ∷ n ∷ []) = refl
shape_go (t ∷ c ∷ m ∷ []) = no_call (is_name t) (call_form c m)
shape_go (t ∷ c ∷ m ∷ b ∷ ws) = refl

law_go : (k : Mode) (ws : List (List ℕ)) → said k (words_form (codes "go" ∷ ws)) ≡ ends (run (Keyword k) (codes "go" ∷ ws))
law_go Run ws = ap (said Run) (shape_go ws) ∙ named Run goes true (λ a. refl) ws
law_go Threads ws = ap (said Threads) (shape_go ws) ∙ named Threads goes false (λ a. refl) ws

shape_step : (ws : List (List ℕ)) → words_form (codes "step" ∷ ws) ≡ one_number is_name (λ a n. steps a (within 1 max_steps (digits_value 10 n))) ws
shape_step [] = refl
shape_step (a ∷ []) = flipped_none (is_name a)
shape_step (a ∷ n ∷ []) = or_last (is_name a && is_number n) (steps a (within 1 max_steps (digits_value 10 n))) None refl
shape_step (t ∷ c ∷ m ∷ []) = no_call (is_name t) (call_form c m)
shape_step (t ∷ c ∷ m ∷ b ∷ ws) = refl

law_step : (k : Mode) (ws : List (List ℕ)) → said k (words_form (codes "step" ∷ ws)) ≡ ends (run (Keyword k) (codes "step" ∷ ws))
law_step Run ws = ap (said Run) (shape_step ws) ∙ named_number Run (λ a n. steps a (within 1 max_steps (digits_value 10 n))) true (λ a n. refl) ws
law_step Threads ws = ap (said Threads) (shape_step ws) ∙ named_number Threads (λ a n. steps a (within 1 max_steps (digits_value 10 n))) false (λ a n. refl) ws

shape_die : (ws : List (List ℕ)) → words_form (codes "die" ∷ ws) ≡ one_number is_name (λ a n. dies a (within 1 max_access (digits_value 10 n))) ws
shape_die [] = refl
shape_die (a ∷ []) = flipped_none (is_name a)
shape_die (a ∷ n ∷ []) = or_last (is_name a && is_number n) (dies a (within 1 max_access (digits_value 10 n))) None refl
shape_die (t ∷ c ∷ m ∷ []) = no_call (is_name t) (call_form c m)
shape_die (t ∷ c ∷ m ∷ b ∷ ws) = refl

law_die : (k : Mode) (ws : List (List ℕ)) → said k (words_form (codes "die" ∷ ws)) ≡ ends (run (Keyword k) (codes "die" ∷ ws))
law_die Run ws = ap (said Run) (shape_die ws) ∙ named_number Run (λ a n. dies a (within 1 max_access (digits_value 10 n))) false (λ a n. refl) ws
law_die Threads ws = ap (said Threads) (shape_die ws) ∙ named_number Threads (λ a n. dies a (within 1 max_access (digits_value 10 n))) true (λ a n. refl) ws

shape_process : (ws : List (List ℕ)) → words_form (codes "process" ∷ ws) ≡ one_number is_name (λ a n. process a (within 0 max_base (digits_value 10 n))) ws
shape_process [] = refl
shape_process (a ∷ []) = flipped_none (is_name a)
shape_process (a ∷ n ∷ []) = or_last (is_name a && is_number n) (process a (within 0 max_base (digits_value 10 n))) None refl
shape_process (t ∷ c ∷ m ∷ []) = no_call (is_name t) (call_form c m)
shape_process (t ∷ c ∷ m ∷ b ∷ ws) = refl

law_process : (k : Mode) (ws : List (List ℕ)) → said k (words_form (codes "process" ∷ ws)) ≡ ends (run (Keyword k) (codes "process" ∷ ws))
law_process Run ws = ap (said Run) (shape_process ws) ∙ named_number Run (λ a n. process a (within 0 max_base (digits_value 10 n))) true (λ a n. refl) ws
law_process Threads ws = ap (said Threads) (shape_process ws) ∙ named_number Threads (λ a n. process a (within 0 max_base (digits_value 10 n))) true (λ a n. refl) ws

shape_mutexes : (ws : List (List ℕ)) → words_form (codes "mutexes" ∷ ws) ≡ one_number is_stem (λ a n. mutexes a (within 1 max_mutexes (digits_value 10 n))) ws
shape_mutexes [] = refl
shape_mutexes (a ∷ []) = flipped_none (is_name a)
shape_mutexes (a ∷ n ∷ []) = or_last (is_stem a && is_number n) (mutexes a (within 1 max_mutexes (digits_value 10 n))) None refl
shape_mutexes (t ∷ c ∷ m ∷ []) = no_call (is_name t) (call_form c m)
shape_mutexes (t ∷ c ∷ m ∷ b ∷ ws) = refl

law_mutexes : (k : Mode) (ws : List (List ℕ)) → said k (words_form (codes "mutexes" ∷ ws)) ≡ ends (run (Keyword k) (codes "mutexes" ∷ ws))
law_mutexes Run ws = ap (said Run) (shape_mutexes ws) ∙ stem_number Run (λ a n. mutexes a (within 1 max_mutexes (digits_value 10 n))) true (λ a n. refl) ws
law_mutexes Threads ws = ap (said Threads) (shape_mutexes ws) ∙ stem_number Threads (λ a n. mutexes a (within 1 max_mutexes (digits_value 10 n))) true (λ a n. refl) ws

shape_locks : (ws : List (List ℕ)) → words_form (codes "locks" ∷ ws) ≡ two_names (λ a b n. locks a b (within 1 max_mutexes (digits_value 10 n))) ws
shape_locks [] = refl
shape_locks (a ∷ []) = flipped_none (is_name a)
shape_locks (a ∷ n ∷ []) = refl
shape_locks (a ∷ b ∷ n ∷ []) = or_last (is_name a && is_name b && is_number n) (locks a b (within 1 max_mutexes (digits_value 10 n))) _ (no_call (is_name a) (call_form b n))
shape_locks (t ∷ c ∷ m ∷ b ∷ ws) = refl

law_locks : (k : Mode) (ws : List (List ℕ)) → said k (words_form (codes "locks" ∷ ws)) ≡ ends (run (Keyword k) (codes "locks" ∷ ws))
law_locks Run ws = ap (said Run) (shape_locks ws) ∙ names_number Run (λ a b n. locks a b (within 1 max_mutexes (digits_value 10 n))) true (λ a b n. refl) ws
law_locks Threads ws = ap (said Threads) (shape_locks ws) ∙ names_number Threads (λ a b n. locks a b (within 1 max_mutexes (digits_value 10 n))) false (λ a b n. refl) ws

shape_cond : (ws : List (List ℕ)) → words_form (codes "cond" ∷ ws) ≡ two_names (λ a b n. cond a b (within 0 max_counter (digits_value 10 n))) ws
shape_cond [] = refl
shape_cond (a ∷ []) = flipped_none (is_name a)
shape_cond (a ∷ n ∷ []) = refl
shape_cond (a ∷ b ∷ n ∷ []) = or_last (is_name a && is_name b && is_number n) (cond a b (within 0 max_counter (digits_value 10 n))) _ (no_call (is_name a) (call_form b n))
shape_cond (t ∷ c ∷ m ∷ b ∷ ws) = refl

law_cond : (k : Mode) (ws : List (List ℕ)) → said k (words_form (codes "cond" ∷ ws)) ≡ ends (run (Keyword k) (codes "cond" ∷ ws))
law_cond Run ws = ap (said Run) (shape_cond ws) ∙ names_number Run (λ a b n. cond a b (within 0 max_counter (digits_value 10 n))) true (λ a b n. refl) ws
law_cond Threads ws = ap (said Threads) (shape_cond ws) ∙ names_number Threads (λ a b n. cond a b (within 0 max_counter (digits_value 10 n))) true (λ a b n. refl) ws

shape_begin : (ws : List (List ℕ)) → words_form (codes "begin" ∷ ws) ≡ call_line begins ws
shape_begin [] = refl
shape_begin (a ∷ []) = flipped_none (is_name a)
shape_begin (a ∷ n ∷ []) = refl
shape_begin (t ∷ c ∷ m ∷ []) = some_call (is_name t) (begins t) (call_form c m)
shape_begin (t ∷ c ∷ m ∷ b ∷ ws) = refl

law_begin : (k : Mode) (ws : List (List ℕ)) → said k (words_form (codes "begin" ∷ ws)) ≡ ends (run (Keyword k) (codes "begin" ∷ ws))
law_begin Run ws = ap (said Run) (shape_begin ws) ∙ calling Run begins true (λ t x. all_taken x) ws
law_begin Threads ws = ap (said Threads) (shape_begin ws) ∙ calling Threads begins false (λ t x. refl) ws

shape_call : (ws : List (List ℕ)) → words_form (codes "call" ∷ ws) ≡ call_line calls ws
shape_call [] = refl
shape_call (a ∷ []) = flipped_none (is_name a)
shape_call (a ∷ n ∷ []) = refl
shape_call (t ∷ c ∷ m ∷ []) = some_call (is_name t) (calls t) (call_form c m)
shape_call (t ∷ c ∷ m ∷ b ∷ ws) = refl

law_call : (k : Mode) (ws : List (List ℕ)) → said k (words_form (codes "call" ∷ ws)) ≡ ends (run (Keyword k) (codes "call" ∷ ws))
law_call Run ws = ap (said Run) (shape_call ws) ∙ calling Run calls true (λ t x. all_taken x) ws
law_call Threads ws = ap (said Threads) (shape_call ws) ∙ calling Threads calls true (λ t x. untimed_taken x) ws

shape_thread : (ws : List (List ℕ)) → words_form (codes "thread" ∷ ws) ≡ thread_line ws
shape_thread [] = refl
shape_thread (a ∷ []) = flipped (is_name a) (thread a)
shape_thread (a ∷ p ∷ []) = or_last (is_name a && is_name p) (member a p) None refl
shape_thread (t ∷ c ∷ m ∷ []) = no_call (is_name t) (call_form c m)
shape_thread (t ∷ c ∷ m ∷ b ∷ ws) = refl

law_thread : (k : Mode) (ws : List (List ℕ)) → said k (words_form (codes "thread" ∷ ws)) ≡ ends (run (Keyword k) (codes "thread" ∷ ws))
law_thread Run ws = ap (said Run) (shape_thread ws) ∙ threaded Run (λ a. refl) (λ a p. refl) ws
law_thread Threads ws = ap (said Threads) (shape_thread ws) ∙ threaded Threads (λ a. refl) (λ a p. refl) ws

shape_phase : (ws : List (List ℕ)) → words_form (codes "phase" ∷ ws) ≡ no_words ws
shape_phase [] = refl
shape_phase (a ∷ []) = flipped_none (is_name a)
shape_phase (a ∷ n ∷ []) = refl
shape_phase (t ∷ c ∷ m ∷ []) = no_call (is_name t) (call_form c m)
shape_phase (t ∷ c ∷ m ∷ b ∷ ws) = refl

phased : (k : Mode) (on : Bool) → has k phase ≡ on → (ws : List (List ℕ)) → said k (no_words ws) ≡ (on && ends (run End ws))
phased k on h [] = decided k phase on true h
phased k on h (a ∷ ws) = never on

law_phase : (k : Mode) (ws : List (List ℕ)) → said k (words_form (codes "phase" ∷ ws)) ≡ ends (run (Keyword k) (codes "phase" ∷ ws))
law_phase Run ws = ap (said Run) (shape_phase ws) ∙ phased Run false refl ws
law_phase Threads ws = ap (said Threads) (shape_phase ws) ∙ phased Threads true refl ws

-- ---- no first word of a script's line

record Unknown (w : List ℕ) : Type 0 where
  process_isnt : bytes_eq w (codes "process") ≡ false
  thread_isnt : bytes_eq w (codes "thread") ≡ false
  mutex_isnt : bytes_eq w (codes "mutex") ≡ false
  mutexes_isnt : bytes_eq w (codes "mutexes") ≡ false
  cond_isnt : bytes_eq w (codes "cond") ≡ false
  call_isnt : bytes_eq w (codes "call") ≡ false
  begin_isnt : bytes_eq w (codes "begin") ≡ false
  step_isnt : bytes_eq w (codes "step") ≡ false
  kill_isnt : bytes_eq w (codes "kill") ≡ false
  killall_isnt : bytes_eq w (codes "killall") ≡ false
  renew_isnt : bytes_eq w (codes "renew") ≡ false
  remake_isnt : bytes_eq w (codes "remake") ≡ false
  leave_isnt : bytes_eq w (codes "leave") ≡ false
  decline_isnt : bytes_eq w (codes "decline") ≡ false
  spare_isnt : bytes_eq w (codes "spare") ≡ false
  expire_isnt : bytes_eq w (codes "expire") ≡ false
  go_isnt : bytes_eq w (codes "go") ≡ false
  locks_isnt : bytes_eq w (codes "locks") ≡ false
  phase_isnt : bytes_eq w (codes "phase") ≡ false
  die_isnt : bytes_eq w (codes "die") ≡ false

no_calling : (w t : List ℕ) → bytes_eq w (codes "begin") ≡ false → bytes_eq w (codes "call") ≡ false → (o : Option CallForm) → option_and_then (calling_form w t) o ≡ None
no_calling w t b c None = refl
no_calling w t b c (Some x) = simp (b, c) (flipped_none (is_name t))

unknown_line : (w : List ℕ) (ws : List (List ℕ)) → Unknown w → words_form (w ∷ ws) ≡ None
unknown_line w [] u = simp (u.phase_isnt)
unknown_line w (a ∷ []) u = simp (u.thread_isnt, u.mutex_isnt, u.kill_isnt, u.killall_isnt, u.go_isnt, u.renew_isnt, u.leave_isnt, u.decline_isnt, u.spare_isnt, u.expire_isnt) (flipped_none (is_name a))
unknown_line w (a ∷ n ∷ []) u = simp (u.step_isnt, u.die_isnt, u.mutexes_isnt, u.process_isnt, u.thread_isnt, u.remake_isnt)
unknown_line w (t ∷ c ∷ m ∷ []) u = simp (u.locks_isnt, u.cond_isnt) (no_calling w t u.begin_isnt u.call_isnt (call_form c m))
unknown_line w (t ∷ c ∷ m ∷ b ∷ ws) u = refl

unknown_word : (k : Mode) (w : List ℕ) → Unknown w → keyword k w ≡ None
unknown_word Run w u = simp (u.process_isnt, u.thread_isnt, u.mutex_isnt, u.mutexes_isnt, u.cond_isnt, u.call_isnt, u.begin_isnt, u.step_isnt, u.kill_isnt, u.killall_isnt, u.renew_isnt, u.remake_isnt, u.leave_isnt, u.expire_isnt, u.decline_isnt, u.spare_isnt, u.go_isnt, u.locks_isnt)
unknown_word Threads w u = simp (u.process_isnt, u.thread_isnt, u.mutex_isnt, u.mutexes_isnt, u.cond_isnt, u.call_isnt, u.phase_isnt, u.die_isnt)

unknown : (k : Mode) (w : List ℕ) (ws : List (List ℕ)) → Unknown w → said k (words_form (w ∷ ws)) ≡ ends (run (Keyword k) (w ∷ ws))
unknown k w ws u = ap (said k) (unknown_line w ws u) ∙ ap (λ (o : Option Next). ends (option_and_then (λ m. run m ws) o)) (sym (unknown_word k w u))

-- ---- the law

abbrev Agree : Mode → List (List ℕ) → List ℕ → Type 0
Agree k ws w = said k (words_form (w ∷ ws)) ≡ ends (run (Keyword k) (w ∷ ws))

pub scripts_are_run : (k : Mode) (ws : List (List ℕ)) → is_some (option_and_then (of_mode k) (words_form ws)) ≡ ends (run (Keyword k) ws)
scripts_are_run k [] = refl
scripts_are_run k (w ∷ ws) =
    pick (Agree k ws) w (codes "process") (law_process k ws) (λ e0.
    pick (Agree k ws) w (codes "thread") (law_thread k ws) (λ e1.
    pick (Agree k ws) w (codes "mutex") (law_mutex k ws) (λ e2.
    pick (Agree k ws) w (codes "mutexes") (law_mutexes k ws) (λ e3.
    pick (Agree k ws) w (codes "cond") (law_cond k ws) (λ e4.
    pick (Agree k ws) w (codes "call") (law_call k ws) (λ e5.
    pick (Agree k ws) w (codes "begin") (law_begin k ws) (λ e6.
    pick (Agree k ws) w (codes "step") (law_step k ws) (λ e7.
    pick (Agree k ws) w (codes "kill") (law_kill k ws) (λ e8.
    pick (Agree k ws) w (codes "killall") (law_killall k ws) (λ e9.
    pick (Agree k ws) w (codes "renew") (law_renew k ws) (λ e16.
    pick (Agree k ws) w (codes "remake") (law_remake k ws) (λ e22.
    pick (Agree k ws) w (codes "leave") (law_leave k ws) (λ e10.
    pick (Agree k ws) w (codes "decline") (law_decline k ws) (λ e11.
    pick (Agree k ws) w (codes "spare") (law_spare k ws) (λ e19.
    pick (Agree k ws) w (codes "expire") (law_expire k ws) (λ e23.
    pick (Agree k ws) w (codes "go") (law_go k ws) (λ e12.
    pick (Agree k ws) w (codes "locks") (law_locks k ws) (λ e13.
    pick (Agree k ws) w (codes "phase") (law_phase k ws) (λ e14.
    pick (Agree k ws) w (codes "die") (law_die k ws) (λ e15.
    unknown k w ws (record { process_isnt = e0; thread_isnt = e1; mutex_isnt = e2; mutexes_isnt = e3; cond_isnt = e4; call_isnt = e5; begin_isnt = e6; step_isnt = e7; kill_isnt = e8; killall_isnt = e9; leave_isnt = e10; decline_isnt = e11; go_isnt = e12; locks_isnt = e13; phase_isnt = e14; die_isnt = e15; renew_isnt = e16; spare_isnt = e19; remake_isnt = e22; expire_isnt = e23 })))))))))))))))))))))
