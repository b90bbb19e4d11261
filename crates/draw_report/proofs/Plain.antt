-- The names of a script are plain, since the spelling of a name has no other characters.
use Rattle.std.proofs.Common.{◌≡◌, ◌≢◌, ◌^◌, ℕ, zero, suc, ◌+◌, ◌<◌, ◌≤◌, ◌==◌, Bool, true, false, not, nat_le, nat_lt, ◌&&◌, ◌||◌, List, [], ◌∷◌, ◌++◌, length, All, Option, Some, None, Result, Ok, Err, IfOk, IfSome, option_and_then, if◌then◌else◌, refl, sym, ap, subst, ◌∙◌, arith}
use Rattle.std.specs.Prelude.{codes, decimal}
use Rattle.std.specs.Char.{is_ascii_digit}
use Rattle.std.specs.List.{list_all, list_any}
use Rattle.std.specs.Option.{ok_or}
use Rattle.std.specs.Str.{bytes_eq, is_utf8}
use Rattle.std.specs.Str.Parse.{digits_value}
use Rattle.std.proofs.lemmas.Bool.{leb-true}
use Rattle.std.proofs.lemmas.List.{map_push}
use Rattle.std.proofs.lemmas.List.Elements.{All-append, All-cons, All-nil, All-push}
use Rattle.lines.proofs.Numerals.{written}
use Rattle.lines.specs.Faults.{◌>>=◌}
use Rattle.lines.specs.Lines.{bad_line, lines_of, words_of}
use Rattle.lines.specs.Numbers.{is_number, within}
use Rattle.script.specs.declared.command.Action.{Action}
use Rattle.script.specs.declared.command.Condition.{Condition}
use Rattle.script.specs.declared.command.Mode.{Mode}
use Rattle.script.specs.declared.command.Mode.TheVariants.{Run}
use Rattle.script.specs.declared.fault.Fault.{Fault}
use Rattle.script.specs.declared.fault.Fault.TheVariants.{NotUtf8, UnknownWord, OutOfRange, NoSuchName, TooLong}
use Rattle.script.specs.declared.fault.ScriptFault.{ScriptFault}
use Rattle.script.specs.Forms.{CallForm, Form, silent, process, thread, member, mutex, mutexes, cond, begins, steps, kills, kills_all, goes, leaves, declines, expires, renews, remakes, spares, calls, locks, phase, dies, form_of, of_mode, has, words_form, or_else, name_form, step_form, die_form, mutexes_form, process_form, member_form, locks_form, cond_form, call_form, calling_form, is_letter, is_name, is_name_byte, is_silent, is_stem}
use Rattle.script.specs.Limits.{max_bytes, max_conditions, max_lines, max_mutexes, max_name, max_processes, max_stem, max_threads}
use Rattle.script.specs.Reading.{added, begun, all_killed, asked, condition_declared, declares, declined, died, enter, expired, fault_at, finished, gone, is_declared, is_numbered, killed, left, lines_read, line_read, locked, made, met_at, mutex_declared, mutexes_declared, names_of, nothing, numbered, place_of, process_declared, process_of, refuse, remade, renewed, script_read, several, stepped, text_read, thread_declared, wake_spared, with_action, with_condition, with_entry, with_name, with_thread}
use Rattle.script.specs.Scope.{Scope}
use Rattle.page.specs.Escapes.{IsPlain}
use Rattle.draw_report.specs.Names.{called_in}
use Rattle.draw_report.specs.Plain.{ArePlain, NamesArePlain}

-- ---- the spelling of a name

is_other : (b m : ℕ) → is_name_byte b ≡ true → is_name_byte m ≡ false → b ≢ m
is_other b m is isnt same = let both : true ≡ false = sym is ∙ ap is_name_byte same ∙ isnt in absurd cc

plain_byte : (b : ℕ) → is_name_byte b ≡ true → IsPlain b
plain_byte b is = record {
  quote = is_other b 34 is refl;
  ampersand = is_other b 38 is refl;
  apostrophe = is_other b 39 is refl;
  less = is_other b 60 is refl;
  greater = is_other b 62 is refl;
  backslash = is_other b 92 is refl;
}

halves : (a b : Bool) → (a && b) ≡ true → (a ≡ true) × (b ≡ true)
halves true true h = (refl, refl)
halves true false h = absurd cc
halves false b h = absurd cc

stands : (b : Bool) → not b ≡ false → b ≡ true
stands true h = refl
stands false h = absurd cc

of_letter : (b : ℕ) → is_letter b ≡ true → is_name_byte b ≡ true
of_letter b is = rw is refl

of_digit : (b : ℕ) → is_ascii_digit b ≡ true → is_name_byte b ≡ true
of_digit b is = go (is_letter b) (is_ascii_digit b) is
  where
    go : (l d : Bool) → d ≡ true → (l || d || b == 95) ≡ true
    go true d h = refl
    go false true h = refl
    go false false h = absurd cc

bytes_plain : (bs : List ℕ) → list_all is_name_byte bs ≡ true → All IsPlain bs
bytes_plain [] all = All-nil IsPlain
bytes_plain (b ∷ bs) all =
    let h = halves (is_name_byte b) (list_all is_name_byte bs) all in
    All-cons IsPlain b bs (plain_byte b h.0) (bytes_plain bs h.1)

digits_plain : (ds : List ℕ) → list_all is_ascii_digit ds ≡ true → All IsPlain ds
digits_plain [] all = All-nil IsPlain
digits_plain (d ∷ ds) all =
    let h = halves (is_ascii_digit d) (list_all is_ascii_digit ds) all in
    All-cons IsPlain d ds (plain_byte d (of_digit d h.0)) (digits_plain ds h.1)

name_plain : (w : List ℕ) → is_name w ≡ true → All IsPlain w
name_plain [] is = absurd cc
name_plain (b ∷ bs) is =
    let h = halves (is_letter b && nat_lt (length bs) max_name) (list_all is_name_byte bs) is in
    let k = halves (is_letter b) (nat_lt (length bs) max_name) h.0 in
    All-cons IsPlain b bs (plain_byte b (of_letter b k.0)) (bytes_plain bs h.1)

stem_plain : (w : List ℕ) → is_stem w ≡ true → All IsPlain w
stem_plain w is = name_plain w (halves (is_name w) (nat_le (length w) max_stem) is).0

number_plain : (ds : List ℕ) → is_number ds ≡ true → All IsPlain ds
number_plain [] is = absurd cc
number_plain (d ∷ []) is = All-cons IsPlain d [] (plain_byte d (of_digit d is)) (All-nil IsPlain)
number_plain (d ∷ e ∷ ds) is = digits_plain (d ∷ e ∷ ds) (halves (not (d == 48)) (list_all is_ascii_digit (d ∷ e ∷ ds)) is).1

numbered_plain : (w : List ℕ) (n : ℕ) → n ≤ max_mutexes → All IsPlain w → All (All IsPlain) (numbered w n)
numbered_plain w zero few is = All-nil (All IsPlain)
numbered_plain w (suc n) few is =
    let small : n < 2 ^ 64 = omega (arith, few) in
    All-push (All IsPlain) (numbered w n) (w ++ decimal n) (numbered_plain w n (omega (arith, few)) is) (All-append IsPlain w (decimal n) is (number_plain (decimal n) (written n small)))

-- ---- the form of a line

-- the name that it declares is plain
abbrev IsNamed : Form → Type 0
IsNamed (thread w) = All IsPlain w
IsNamed (member w p) = All IsPlain w
IsNamed (mutex w) = All IsPlain w
IsNamed (mutexes w count) = All IsPlain w × IfSome count (λ k. k ≤ max_mutexes)
IsNamed (cond w m counter) = All IsPlain w
IsNamed f = Unit {0}

either : (b : Bool) (x y : Option Form) → (b ≡ true → IfSome x IsNamed) → (b ≡ false → IfSome y IsNamed) → IfSome (if b then x else y) IsNamed
either true x y p q = p refl
either false x y p q = q refl

-- a form that declares no name
other : (b : Bool) (x y : Option Form) → IfSome x IsNamed → IfSome y IsNamed → IfSome (if b then x else y) IsNamed
other true x y p q = p
other false x y p q = q

first : (x y : Option Form) → IfSome x IsNamed → IfSome y IsNamed → IfSome (or_else x y) IsNamed
first (Some f) y p q = p
first None y p q = q

few : (least most n : ℕ) → IfSome (within least most n) (λ k. k ≤ most)
few least most n = go (nat_le least n) (nat_le n most) (λ e. leb-true _ _ e)
  where
    go : (low high : Bool) → (high ≡ true → n ≤ most) → IfSome (if low && high then Some n else None) (λ k. k ≤ most)
    go true true p = p refl
    go true false p = tt
    go false high p = tt

by_name : (w a : List ℕ) → IfSome (name_form w a) IsNamed
by_name w a = either (not (is_name a)) None _ (λ _. tt) (λ isnt. go (name_plain a (stands (is_name a) isnt)))
  where
    go : All IsPlain a → IfSome (if bytes_eq w (codes "thread") then Some (thread a)
        else (if bytes_eq w (codes "mutex") then Some (mutex a)
        else (if bytes_eq w (codes "kill") then Some (kills a)
        else (if bytes_eq w (codes "killall") then Some (kills_all a)
        else (if bytes_eq w (codes "go") then Some (goes a)
        else (if bytes_eq w (codes "leave") then Some (leaves a)
        else (if bytes_eq w (codes "decline") then Some (declines a)
        else (if bytes_eq w (codes "renew") then Some (renews a)
        else (if bytes_eq w (codes "spare") then Some (spares a)
        else (if bytes_eq w (codes "expire") then Some (expires a) else None)))))))))) IsNamed
    go is = other (bytes_eq w _) (Some (thread a)) _ is (other (bytes_eq w _) (Some (mutex a)) _ is
        (other (bytes_eq w _) (Some (kills a)) _ tt (other (bytes_eq w _) (Some (kills_all a)) _ tt (other (bytes_eq w _) (Some (goes a)) _ tt
        (other (bytes_eq w _) (Some (leaves a)) _ tt (other (bytes_eq w _) (Some (declines a)) _ tt (other (bytes_eq w _) (Some (renews a)) _ tt
        (other (bytes_eq w _) (Some (spares a)) _ tt
        (other (bytes_eq w _) (Some (expires a)) None tt tt)))))))))

by_mutexes : (w a n : List ℕ) → IfSome (mutexes_form w a n) IsNamed
by_mutexes w a n = either (bytes_eq w (codes "mutexes") && is_stem a && is_number n) (Some (mutexes a (within 1 max_mutexes (digits_value 10 n)))) None
    (λ is.
    let h = halves (bytes_eq w (codes "mutexes") && is_stem a) (is_number n) is in
    let k = halves (bytes_eq w (codes "mutexes")) (is_stem a) h.0 in
    (stem_plain a k.1, few 1 max_mutexes (digits_value 10 n)))
    (λ _. tt)

by_member : (w t p : List ℕ) → IfSome (member_form w t p) IsNamed
by_member w t p = either (bytes_eq w (codes "thread") && is_name t && is_name p) (Some (member t p)) None
    (λ is.
    let h = halves (bytes_eq w (codes "thread") && is_name t) (is_name p) is in
    let k = halves (bytes_eq w (codes "thread")) (is_name t) h.0 in
    name_plain t k.1)
    (λ _. tt)

by_cond : (w c m n : List ℕ) → IfSome (cond_form w c m n) IsNamed
by_cond w c m n = either (bytes_eq w (codes "cond") && is_name c && is_name m && is_number n) (Some (cond c m _)) None
    (λ is.
    let h = halves (bytes_eq w (codes "cond") && is_name c && is_name m) (is_number n) is in
    let k = halves (bytes_eq w (codes "cond") && is_name c) (is_name m) h.0 in
    let l = halves (bytes_eq w (codes "cond")) (is_name c) k.0 in
    name_plain c l.1)
    (λ _. tt)

by_call : (w t : List ℕ) (c : Option CallForm) → IfSome (option_and_then (calling_form w t) c) IsNamed
by_call w t None = tt
by_call w t (Some c) = other (not (is_name t)) None _ tt (other (bytes_eq w _) (Some (begins t c)) _ tt (other (bytes_eq w _) (Some (calls t c)) None tt tt))

by_words : (ws : List (List ℕ)) → IfSome (words_form ws) IsNamed
by_words [] = tt
by_words (w ∷ []) = other (bytes_eq w _) (Some phase) None tt tt
by_words (w ∷ a ∷ []) = by_name w a
by_words (w ∷ a ∷ n ∷ []) = first (step_form w a n) _ (other (bytes_eq w _ && is_name a && is_number n) (Some (steps a _)) None tt tt)
    (first (die_form w a n) _ (other (bytes_eq w _ && is_name a && is_number n) (Some (dies a _)) None tt tt)
    (first (mutexes_form w a n) _ (by_mutexes w a n)
    (first (process_form w a n) _ (other (bytes_eq w _ && is_name a && is_number n) (Some (process a _)) None tt tt)
    (first (member_form w a n) _ (by_member w a n)
    (other (bytes_eq w _ && is_name a && is_name n) (Some (remakes a n)) None tt tt)))))
by_words (w ∷ t ∷ c ∷ m ∷ []) = first (locks_form w t c m) _ (other (bytes_eq w _ && is_name t && is_name c && is_number m) (Some (locks t c _)) None tt tt)
    (first (cond_form w t c m) _ (by_cond w t c m) (by_call w t (call_form c m)))
by_words (w ∷ t ∷ c ∷ m ∷ x ∷ more) = tt

in_mode : (k : Mode) (o : Option Form) → IfSome o IsNamed → IfSome (option_and_then (of_mode k) o) IsNamed
in_mode k None h = tt
in_mode k (Some f) h = other (has k f) (Some f) None h tt

by_form : (k : Mode) (text : List ℕ) → IfSome (form_of k text) IsNamed
by_form k text = other (is_silent text) (Some silent) (option_and_then (of_mode k) (words_form (words_of text))) tt (in_mode k (words_form (words_of text)) (by_words (words_of text)))

-- ---- what a line makes

abbrev Plain : Scope → Type 0
Plain s = ArePlain (called_in s)

-- whatever the first thing is
going : {A B E : Type 0} (r : Result A E) (f : A → Result B E) (Q : B → Type 0) → ((x : A) → IfOk (f x) Q) → IfOk (r >>= f) Q
going (Ok x) f Q q = q x
going (Err e) f Q q = tt

-- what holds of the first thing serves the second
then_too : {A B E : Type 0} (r : Result A E) (f : A → Result B E) (P : A → Type 0) (Q : B → Type 0) → IfOk r P → ((x : A) → P x → IfOk (f x) Q) → IfOk (r >>= f) Q
then_too (Ok x) f P Q p q = q x p
then_too (Err e) f P Q p q = tt

unless : {A : Type 0} (b : Bool) (f : Fault) (r : Result A Fault) (Q : A → Type 0) → IfOk r Q → IfOk (refuse b f r) Q
unless true f r Q q = tt
unless false f r Q q = q

new_name : (names : List (List ℕ)) (w : List ℕ) → All (All IsPlain) names → All IsPlain w → IfOk (with_name names w) (All (All IsPlain))
new_name names w h is = unless (is_declared w names) NoSuchName (Ok (names ++ w ∷ [])) (All (All IsPlain)) (All-push (All IsPlain) names w h is)

asks : (n : ℕ) (s : Scope) (r : Result Action Fault) → Plain s → IfOk (asked n s r) Plain
asks n s r h = going r (λ a. Ok (with_action n s a)) Plain (λ a. h)

declares_process : (s : Scope) (w : List ℕ) (base : Option ℕ) → Plain s → IfOk (process_declared s w base) Plain
declares_process s w base h = going (declares s) _ Plain (λ _. going (ok_or base OutOfRange) _ Plain (λ b.
    unless (nat_le max_processes (length s.processes)) OutOfRange (with_entry s.processes w b >>= λ ps. Ok (record s { processes = ps })) Plain
    (going (with_entry s.processes w b) (λ ps. Ok (record s { processes = ps })) Plain (λ ps. h))))

declares_thread : (s : Scope) (w : List ℕ) (its : Result ℕ Fault) → Plain s → All IsPlain w → IfOk (thread_declared s w its) Plain
declares_thread s w its h is = going (declares s) _ Plain (λ _.
    unless (nat_le max_threads (length s.threads)) OutOfRange (its >>= λ p. with_thread s w p) Plain
    (going its (λ p. with_thread s w p) Plain (λ p.
    then_too (with_name s.threads w) (λ names. Ok (record s { threads = names; members = s.members ++ p ∷ [] })) (All (All IsPlain)) Plain (new_name s.threads w h.threads is)
    (λ names all. record { threads = all; mutexes = h.mutexes; conditions = h.conditions }))))

declares_mutex : (s : Scope) (w : List ℕ) → Plain s → All IsPlain w → IfOk (mutex_declared s w) Plain
declares_mutex s w h is = going (declares s) _ Plain (λ _.
    then_too (added max_mutexes s.mutexes w) (λ names. Ok (record s { mutexes = names })) (All (All IsPlain)) Plain
    (unless (nat_le max_mutexes (length s.mutexes)) OutOfRange (with_name s.mutexes w) (All (All IsPlain)) (new_name s.mutexes w h.mutexes is))
    (λ names all. record { threads = h.threads; mutexes = all; conditions = h.conditions }))

declares_mutexes : (s : Scope) (w : List ℕ) (count : Option ℕ) → Plain s → All IsPlain w → IfSome count (λ k. k ≤ max_mutexes) → IfOk (mutexes_declared s w count) Plain
declares_mutexes s w None h is range = going (declares s) _ Plain (λ _. tt)
declares_mutexes s w (Some k) h is range = going (declares s) _ Plain (λ _.
    then_too (several max_mutexes s.mutexes w k) (λ names. Ok (record s { mutexes = names })) (All (All IsPlain)) Plain
    (unless (nat_lt max_mutexes (length s.mutexes + k)) OutOfRange (refuse (list_any (λ name. is_numbered w k name) s.mutexes) NoSuchName (Ok (s.mutexes ++ numbered w k))) (All (All IsPlain))
    (unless (list_any (λ name. is_numbered w k name) s.mutexes) NoSuchName (Ok (s.mutexes ++ numbered w k)) (All (All IsPlain))
    (All-append (All IsPlain) s.mutexes (numbered w k) h.mutexes (numbered_plain w k range is))))
    (λ names all. record { threads = h.threads; mutexes = all; conditions = h.conditions }))

declares_condition : (s : Scope) (w m : List ℕ) (counter : Option ℕ) → Plain s → All IsPlain w → IfOk (condition_declared s w m counter) Plain
declares_condition s w m counter h is = going (declares s) _ Plain (λ _. going (ok_or counter OutOfRange) _ Plain (λ n.
    unless (nat_le max_conditions (length s.conditions)) OutOfRange (place_of m s.mutexes >>= λ j. with_condition s w j n) Plain
    (going (place_of m s.mutexes) (λ j. with_condition s w j n) Plain (λ j. one_more (record { mutex = j; counter = n })))))
  where
    one_more : (d : Condition) → IfOk (with_entry s.conditions w d >>= λ cs. Ok (record s { conditions = cs })) Plain
    one_more d = then_too (with_entry s.conditions w d) (λ cs. Ok (record s { conditions = cs })) (λ cs. All (All IsPlain) (names_of cs)) Plain
        (unless (is_declared w (names_of s.conditions)) NoSuchName (Ok (s.conditions ++ (w, d) ∷ [])) (λ cs. All (All IsPlain) (names_of cs))
        (subst (All (All IsPlain)) (sym (map_push (λ x. x.0) s.conditions (w, d))) (All-push (All IsPlain) (names_of s.conditions) w h.conditions is)))
        (λ cs all. record { threads = h.threads; mutexes = h.mutexes; conditions = all })

enters : (n : ℕ) (s : Scope) (f : Form) → Plain s → IsNamed f → IfOk (enter n s f) Plain
enters n s silent h is = h
enters n s (process w base) h is = declares_process s w base h
enters n s (thread w) h is = declares_thread s w (Ok 0) h is
enters n s (member w p) h is = declares_thread s w (process_of s p) h is
enters n s (mutex w) h is = declares_mutex s w h is
enters n s (mutexes w count) h is = declares_mutexes s w count h is.0 is.1
enters n s (cond w m counter) h is = declares_condition s w m counter h is
enters n s (begins t c) h is = asks n s (begun s t c) h
enters n s (steps t count) h is = asks n s (stepped s t count) h
enters n s (kills t) h is = asks n s (killed s t) h
enters n s (kills_all p) h is = asks n s (all_killed s p) h
enters n s (goes t) h is = asks n s (gone s t) h
enters n s (leaves t) h is = asks n s (left s t) h
enters n s (declines t) h is = asks n s (declined s t) h
enters n s (renews t) h is = asks n s (renewed s t) h
enters n s (remakes t m) h is = asks n s (remade s t m) h
enters n s (spares t) h is = asks n s (wake_spared s t) h
enters n s (expires t) h is = asks n s (expired s t) h
enters n s (calls t c) h is = asks n s (made s t c) h
enters n s (locks t m count) h is = asks n s (locked s t m count) h
enters n s phase h is = h
enters n s (dies t access) h is = asks n s (died s t access) h

line_plain : (n : ℕ) (s : Scope) (text : List ℕ) → Plain s → IfOk (line_read n s text) Plain
line_plain n s text h = unless (nat_lt max_lines n) TooLong (ok_or (form_of s.mode text) UnknownWord >>= λ f. enter n s f) Plain (go (form_of s.mode text) (by_form s.mode text))
  where
    go : (o : Option Form) → IfSome o IsNamed → IfOk (ok_or o UnknownWord >>= λ f. enter n s f) Plain
    go None is = tt
    go (Some f) is = enters n s f h is

last_plain : (n : ℕ) (s : Scope) (text : List ℕ) → Plain s → IfOk (finished n s text) Plain
last_plain n s text h = unless (not (length text == 0)) (if nat_lt max_lines n then TooLong else UnknownWord) (refuse (length s.threads == 0 || length s.mutexes == 0) OutOfRange (Ok s)) Plain
    (unless (length s.threads == 0 || length s.mutexes == 0) OutOfRange (Ok s) Plain h)

met : {A : Type 0} (n : ℕ) (r : Result A Fault) (P : A → Type 0) → IfOk r P → IfOk (met_at n r) P
met n (Ok x) P p = p
met n (Err f) P p = tt

-- ---- all lines

lines_plain : (n : ℕ) (s : Scope) (ls : List (List ℕ)) → Plain s → IfOk (lines_read n s ls) Plain
unfolding lines_read
lines_plain n s [] h = h
lines_plain n s (text ∷ []) h = met n (finished n s text) Plain (last_plain n s text h)
lines_plain n s (text ∷ next ∷ more) h =
    then_too (met_at n (line_read n s text)) (λ t. lines_read (n + 1) t (next ∷ more)) Plain Plain (met n (line_read n s text) Plain (line_plain n s text h))
    (λ t is. lines_plain (n + 1) t (next ∷ more) is)

of_bytes : (long text : Bool) (e f : ScriptFault) (r : Result Scope ScriptFault) → IfOk r Plain → IfOk (if long then Err e else (if text then r else Err f)) Plain
of_bytes true text e f r h = tt
of_bytes false true e f r h = h
of_bytes false false e f r h = tt

pub names_are_plain : NamesArePlain
names_are_plain bytes s is =
    let before : Plain (nothing Run) = record { threads = All-nil (All IsPlain); mutexes = All-nil (All IsPlain); conditions = All-nil (All IsPlain) } in
    let holds : IfOk (script_read Run bytes) Plain = of_bytes (nat_lt max_bytes (length bytes)) (is_utf8 bytes) (fault_at 1 TooLong) (fault_at (bad_line bytes) NotUtf8) (text_read Run bytes) (lines_plain 1 (nothing Run) (lines_of bytes) before) in
    subst (λ (r : Result Scope ScriptFault). IfOk r Plain) is holds
