-- Reading line after line, as a loop does.
use Rattle.std.proofs.Common.{◌≡◌, ℕ, ◌+◌, ◌<◌, ◌≤◌, ◌==◌, ◌||◌, Bool, true, false, not, nat_lt, if◌then◌else◌, List, [], ◌∷◌, ◌++◌, length, Result, Ok, Err, IfErr, refl, sym, ap, subst, ◌∙◌, append_assoc, length-append, arith, Global, String}
use Rattle.std.specs.List.{slice_split}
use Rattle.script.specs.Forms.{is_silent}
use Rattle.lines.specs.Lines.{lines_of}
use Rattle.script.specs.Reading.{refuse, met_at, fault_at, line_read, finished, lines_read}
use Rattle.lines.specs.Faults.{◌>>=◌}
use Rattle.script.specs.Outcome.{Tells, TellsAt, SpeaksAt}
use Rattle.script.specs.Scope.{Scope}
use Rattle.script.specs.declared.fault.Fault.{Fault}
use Rattle.script.specs.declared.fault.Fault.TheVariants.{NotUtf8, UnknownWord, OutOfRange, NoSuchName, TooLong, OutOfMemory}
use Rattle.script.specs.declared.fault.ScriptFault.{ScriptFault}
use Rattle.script.specs.Limits.{max_lines}
use Rattle.std.proofs.lemmas.Bool.Decides.{nat_tests}
use Rattle.lines.proofs.Cutting.{one_or_more}
use Rattle.script.proofs.Names.{texts, no_names}

-- the lines of a text, and the first of them before the others
abbrev split : List ℕ → List (List ℕ)
split bs = slice_split (λ b. b == 10) bs

abbrev then_lines : ℕ → List (List ℕ) → Scope → Result Scope ScriptFault
then_lines n ls t = lines_read (n + 1) t ls

unrolled : (n : ℕ) (s : Scope) (text : List ℕ) (ls : List (List ℕ)) → 1 ≤ length ls → lines_read n s (text ∷ ls) ≡ (met_at n (line_read n s text) >>= then_lines n ls)
unfolding lines_read
unrolled n s text [] h = absurd (omega (arith, h))
unrolled n s text (l ∷ ls) h = refl

-- a fault of what follows a line is below it
weaker : (n : ℕ) (r : Result Scope ScriptFault) → IfErr r (λ e. n + 1 ≤ e.line) → IfErr r (λ e. n ≤ e.line)
weaker n (Ok t) h = tt
weaker n (Err e) h = omega (arith, h)

at_or_below : (n : ℕ) (r : Result Scope Fault) (f : Scope → Result Scope ScriptFault) → ((t : Scope) → IfErr (f t) (λ e. n + 1 ≤ e.line)) → IfErr (met_at n r >>= f) (λ e. n ≤ e.line)
at_or_below n (Ok t) f h = weaker n (f t) (h t)
at_or_below n (Err e) f h = omega arith

at_last : (n : ℕ) (r : Result Scope Fault) → IfErr (met_at n r) (λ e. n ≤ e.line)
at_last n (Ok t) = tt
at_last n (Err e) = omega arith

faults_from : (n : ℕ) (s : Scope) (ls : List (List ℕ)) → IfErr (lines_read n s ls) (λ e. n ≤ e.line)
unfolding lines_read
faults_from n s [] = tt
faults_from n s (text ∷ []) = at_last n (finished n s text)
faults_from n s (text ∷ next ∷ more) = at_or_below n (line_read n s text) (λ t. lines_read (n + 1) t (next ∷ more)) (λ t. faults_from (n + 1) t (next ∷ more))

below : (n : ℕ) (r : Result Scope ScriptFault) → IfErr r (λ e. n + 1 ≤ e.line) → IfErr r (λ e. n < e.line)
below n (Ok t) h = tt
below n (Err e) h = omega (arith, h)

-- a line's fault is the whole text's
met : (n : ℕ) (f : Fault) (r : Result Scope Fault) (follow : Scope → Result Scope ScriptFault) → ((t : Scope) → IfErr (follow t) (λ e. n + 1 ≤ e.line)) → Tells f r → TellsAt (fault_at n f) f (met_at n r >>= follow)
met n NotUtf8 r follow later h = rw h refl
met n UnknownWord r follow later h = rw h refl
met n OutOfRange r follow later h = rw h refl
met n NoSuchName r follow later h = rw h refl
met n TooLong r follow later h = rw h refl
met n OutOfMemory (Ok t) follow later h = below n (follow t) (later t)
met n OutOfMemory (Err e) follow later h = absurd cc

-- the end of a script wants no memory
pub ends_remembered : (n : ℕ) (s : Scope) (text : List ℕ) → ¬ (finished n s text ≡ Err OutOfMemory)
ends_remembered n s text = by_cases (not (length text == 0)) (nat_lt max_lines n) (length s.threads == 0 || length s.mutexes == 0) where
  by_cases : (behind late few : Bool) → ¬ (refuse behind (if late then TooLong else UnknownWord) (refuse few OutOfRange (Ok s)) ≡ Err OutOfMemory)
  by_cases true true few e = absurd cc
  by_cases true false few e = absurd cc
  by_cases false late true e = absurd cc
  by_cases false late false e = absurd cc

met_last : (n : ℕ) (f : Fault) (r : Result Scope Fault) → ¬ (r ≡ Err OutOfMemory) → r ≡ Err f → TellsAt (fault_at n f) f (met_at n r)
met_last n NotUtf8 r never h = rw h refl
met_last n UnknownWord r never h = rw h refl
met_last n OutOfRange r never h = rw h refl
met_last n NoSuchName r never h = rw h refl
met_last n TooLong r never h = rw h refl
met_last n OutOfMemory r never h = absurd (never h)

-- a line was read: the lines after it say what all said
pub goes_on : (n : ℕ) (s t : Scope) (text rest after : List ℕ) (total : Result Scope ScriptFault) → slice_split (λ b. b == 10) rest ≡ text ∷ slice_split (λ b. b == 10) after → line_read n s text ≡ Ok t
    → lines_read n s (slice_split (λ b. b == 10) rest) ≡ total → lines_read (n + 1) t (slice_split (λ b. b == 10) after) ≡ total
goes_on n s t text rest after total parts read so_far =
    let one : lines_read n s (split rest) ≡ lines_read (n + 1) t (split after) = rw (parts, unrolled n s text (split after) (one_or_more (λ b. b == 10) after), read) refl in
    sym one ∙ so_far

-- a line was refused
stops : (n : ℕ) (s : Scope) (f : Fault) (text rest after : List ℕ) (total : Result Scope ScriptFault) → slice_split (λ b. b == 10) rest ≡ text ∷ slice_split (λ b. b == 10) after → Tells f (line_read n s text)
    → lines_read n s (slice_split (λ b. b == 10) rest) ≡ total → TellsAt (fault_at n f) f total
stops n s f text rest after total parts told so_far =
    let one : lines_read n s (split rest) ≡ (met_at n (line_read n s text) >>= then_lines n (split after)) = rw (parts, unrolled n s text (split after) (one_or_more (λ b. b == 10) after)) refl in
    subst (λ (r : Result Scope ScriptFault). TellsAt (fault_at n f) f r) (sym one ∙ so_far) (met n f (line_read n s text) (then_lines n (split after)) (λ t. faults_from (n + 1) t (split after)) told)

-- the same where the fault is at the line
pub stops_at : (n : ℕ) (s : Scope) (e : ScriptFault) (text rest after : List ℕ) (total : Result Scope ScriptFault) → slice_split (λ b. b == 10) rest ≡ text ∷ slice_split (λ b. b == 10) after → (e.line ≡ n) × Tells e.fault (line_read n s text)
    → lines_read n s (slice_split (λ b. b == 10) rest) ≡ total → TellsAt e e.fault total
stops_at n s e text rest after total parts told so_far =
    let here : fault_at n e.fault ≡ e = λ i. record { line = sym told.0 i; fault = e.fault } in
    subst (λ (x : ScriptFault). TellsAt x e.fault total) here (stops n s e.fault text rest after total parts told.1 so_far)

-- the last line feed was reached, and nothing is wrong
pub ends : (n : ℕ) (s t : Scope) (rest : List ℕ) (total : Result Scope ScriptFault) → slice_split (λ b. b == 10) rest ≡ rest ∷ [] → finished n s rest ≡ Ok t → lines_read n s (slice_split (λ b. b == 10) rest) ≡ total → total ≡ Ok t
unfolding lines_read
ends n s t rest total parts done so_far =
    let one : lines_read n s (split rest) ≡ Ok t = rw (parts, done) refl in
    sym so_far ∙ one

-- the last line feed was reached, and the end is wrong
pub ends_ill : (n : ℕ) (s : Scope) (f : Fault) (rest : List ℕ) (total : Result Scope ScriptFault) → slice_split (λ b. b == 10) rest ≡ rest ∷ [] → finished n s rest ≡ Err f → lines_read n s (slice_split (λ b. b == 10) rest) ≡ total → TellsAt (fault_at n f) f total
unfolding lines_read
ends_ill n s f rest total parts told so_far =
    let one : lines_read n s (split rest) ≡ met_at n (finished n s rest) = rw parts refl in
    subst (λ (r : Result Scope ScriptFault). TellsAt (fault_at n f) f r) (sym one ∙ so_far) (met_last n f (finished n s rest) (ends_remembered n s rest) told)

-- ---- how a script ends

-- something stands after the last line feed
pub ends_late : (n : ℕ) (s : Scope) (text : List ℕ) → (length text == 0) ≡ false → max_lines < n → Err TooLong ≡ finished n s text
ends_late n s text behind late = let past : nat_lt max_lines n ≡ true = grind (arith, nat_tests) in rw (behind, past) refl

pub ends_behind : (n : ℕ) (s : Scope) (text : List ℕ) → (length text == 0) ≡ false → n ≤ max_lines → Err UnknownWord ≡ finished n s text
ends_behind n s text behind few = let in_time : nat_lt max_lines n ≡ false = grind (arith, nat_tests) in rw (behind, in_time) refl

-- nothing is there, and too little was declared
pub ends_without_threads : (n : ℕ) (s : Scope) (text : List ℕ) (ks : List (String Global)) → (length text == 0) ≡ true → (length ks == 0) ≡ true → Err OutOfRange ≡ finished n (record s { threads = texts ks }) text
ends_without_threads n s text ks empty none = rw (empty, no_names ks none) refl

pub ends_without_mutexes : (n : ℕ) (s : Scope) (text : List ℕ) (ks : List (String Global)) → (length text == 0) ≡ true → (length ks == 0) ≡ true → Err OutOfRange ≡ finished n (record s { mutexes = texts ks }) text
ends_without_mutexes n s text ks empty none = go (length s.threads == 0)
  where
    go : (b : Bool) → Err OutOfRange ≡ refuse (not (length text == 0)) (if nat_lt max_lines n then TooLong else UnknownWord) (refuse (b || length (texts ks) == 0) OutOfRange (Ok (record s { mutexes = texts ks })))
    go true = rw empty refl
    go false = rw (empty, no_names ks none) refl

-- ---- where memory was needed

-- the lines of the rest are those of the text from line n on
pub record IsBehind (text rest : List ℕ) (n : ℕ) : Type 0 where
  pub before : List (List ℕ)
  pub stands : lines_of text ≡ before ++ lines_of rest
  pub here : n ≡ length before + 1

pub behind_all : (text : List ℕ) → IsBehind text text 1
behind_all text = record { before = []; stands = refl; here = refl }

pub behind_next : (text rest line after : List ℕ) (n : ℕ) → IsBehind text rest n → lines_of rest ≡ line ∷ lines_of after → IsBehind text after (n + 1)
behind_next text rest line after n h parts = let here = h.here in record {
  before = h.before ++ line ∷ [];
  stands = h.stands ∙ ap (λ (ls : List (List ℕ)). h.before ++ ls) parts ∙ sym (append_assoc h.before (line ∷ []) (lines_of after));
  here = omega (arith, length-append h.before (line ∷ []));
}

pub speaks : (text rest line after : List ℕ) (n : ℕ) → IsBehind text rest n → lines_of rest ≡ line ∷ lines_of after → is_silent line ≡ false → SpeaksAt text n
speaks text rest line after n h parts says = record {
  before = h.before;
  text = line;
  after = lines_of after;
  stands = h.stands ∙ ap (λ (ls : List (List ℕ)). h.before ++ ls) parts;
  here = h.here;
  says = says;
}
