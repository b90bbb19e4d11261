-- The script reads what is written.
use Rattle.std.proofs.Common.{◌≡◌, ◌+◌, ◌≢◌, ◌∙◌, ◌==◌, ◌∷◌, ◌++◌, Bool, true, false, ℕ, Option, Some, None, List, [], append-nil, append_assoc, ap, length, map, not, option_map, refl, subst, sym, arith}
use Rattle.std.specs.Prelude.{codes, decimal, if◌then◌else◌}
use Rattle.std.specs.List.{concat}
use Rattle.std.proofs.lemmas.Bool.Decides.{nat_tests}
use Rattle.std.proofs.lemmas.Fmt.{decimal_digit}
use Rattle.lockword.specs.Replies.{reply_word}
use Rattle.posixmutex.specs.Words.{operation_word}
use Rattle.posixmutex.specs.declared.object.Object.{Object}
use Rattle.facts.specs.Facts.{decision_of, thread_of}
use Rattle.facts.specs.Lives.{Act}
use Rattle.facts.specs.declared.fact.Begun.{Begun}
use Rattle.facts.specs.declared.fact.Fact.{Fact}
use Rattle.facts.specs.declared.fact.Fact.TheVariants as fact
use Rattle.facts.specs.declared.fact.Line.{Line}
use Rattle.facts.specs.declared.fact.Queue.{Queue}
use Rattle.facts.specs.declared.fact.Queue.TheVariants as queue
use Rattle.reasons.specs.Reasons.{reason_text}
use Rattle.verdict.specs.declared.checking.Finding.{Finding}
use Rattle.verdict.specs.declared.checking.Finding.TheVariants.{Illegal, Legal}
use Rattle.page.specs.Data.{end_text, history_end, illegal_end, illegal_start, misfit_line, misfit_text}
use Rattle.page.specs.Decoding.{Array, Begins, CallRead, IsEnd, IsHistoryEnd, IsLine, IsMisfitLine, IsObject, IsStatus, IsWhole, Json, Nothing, Number, PointRead, Reads, Say, ScriptReadsStates, StatusRead, Word, at, bed_read, call_read, call_shown, fact_read, fact_shown, has, is_there, number, point_read, point_shown, writes}
use Rattle.page.specs.Escapes.{escaped}
use Rattle.page.specs.Shows.{Turn, Whole}
use Rattle.page.specs.States.{Change, Mutex, Shown, change_of, mutex_behind}
use Rattle.page.specs.Texts.{act_text, bed_text, begun_text, call_text, condition_text, flag, item_text, line_text, marks_text, mutex_text, object_behind, object_text, owner_text, point_text, queue_text, rest_of, status_behind, status_text, told, turn_text, word_of}
use Rattle.page.specs.declared.status.Bed.{Bed}
use Rattle.page.specs.declared.status.Status.{Status}

-- ---- pieces, one after the other

abbrev pub joined : List (List ℕ) → List ℕ → List ℕ
joined [] after = after
joined (p ∷ ps) after = p ++ joined ps after

spread : (ps : List (List ℕ)) (after : List ℕ) → concat ps ++ after ≡ joined ps after
spread [] after = refl
spread (p ∷ ps) after = append_assoc p (concat ps) after ∙ ap (λ l. p ++ l) (spread ps after)

zero_then : (after : List ℕ) → codes "0" ++ after ≡ decimal 0 ++ after
zero_then after = ap (λ d. d ++ after) (sym (decimal_digit 0 (omega arith)))

one_then : (after : List ℕ) → codes "1" ++ after ≡ decimal 1 ++ after
one_then after = ap (λ d. d ++ after) (sym (decimal_digit 1 (omega arith)))

-- ---- flags, queues, calls, points, beds

abbrev pub flag_value : Bool → Json
flag_value true = Number 1
flag_value false = Number 0

flag_is : (b : Bool) (after : List ℕ) → flag b ++ after ≡ writes true (flag_value b) after
flag_is true after = one_then after
flag_is false after = zero_then after

flag_read : (b : Bool) → is_there (flag_value b) ≡ b
flag_read true = refl
flag_read false = refl

abbrev pub queue_value : Queue → Json → Json
queue_value (queue.Mutex m) rest = Array (Word (codes "m")) (Array (Number m) rest)
queue_value (queue.Condition c) rest = Array (Word (codes "c")) (Array (Number c) rest)

abbrev pub condition_value : Option ℕ → Json
condition_value None = Nothing
condition_value (Some c) = Array (Number c) Nothing

abbrev pub call_items : Begun → Json
call_items k = Array (Word (operation_word k.operation)) (Array (Number k.mutex) (condition_value k.condition))

begun_is : (k : Begun) (after : List ℕ) → begun_text k ++ (codes "]" ++ after) ≡ codes "\"" ++ (operation_word k.operation ++ (codes "\"," ++ (decimal k.mutex ++ writes false (condition_value k.condition) after)))
begun_is k after =
    append_assoc (concat (codes "\"" ∷ operation_word k.operation ∷ codes "\"," ∷ decimal k.mutex ∷ [])) _ (codes "]" ++ after)
    ∙ spread (codes "\"" ∷ operation_word k.operation ∷ codes "\"," ∷ decimal k.mutex ∷ []) _
    ∙ ap (λ l. codes "\"" ++ (operation_word k.operation ++ (codes "\"," ++ (decimal k.mutex ++ l)))) (by_condition k.condition)
  where
    by_condition : (c : Option ℕ) → condition_text c ++ (codes "]" ++ after) ≡ writes false (condition_value c) after
    by_condition None = refl
    by_condition (Some c) = refl

call_read_back : (k : Begun) → call_read (call_items k) ≡ call_shown k
call_read_back k = by_condition k.condition
  where
    by_condition : (c : Option ℕ) → call_read (Array (Word (operation_word k.operation)) (Array (Number k.mutex) (condition_value c))) ≡ record { operation = operation_word k.operation; mutex = k.mutex; condition = c }
    by_condition None = refl
    by_condition (Some c) = refl

abbrev pub call_value : Option Begun → Json
call_value None = Number 0
call_value (Some k) = call_items k

call_is : (c : Option Begun) (after : List ℕ) → call_text c ++ after ≡ writes true (call_value c) (codes "," ++ after)
call_is None after = zero_then (codes "," ++ after)
call_is (Some k) after = ap (λ l. codes "[" ++ l) (append_assoc (begun_text k) (codes "],") after ∙ begun_is k (codes "," ++ after))

call_back : (c : Option Begun) → (if is_there (call_value c) then Some (call_read (call_value c)) else None) ≡ option_map call_shown c
call_back None = refl
call_back (Some k) = ap (λ (r : CallRead). Some r) (call_read_back k)

abbrev pub point_items : Act → Json
point_items a = Array (Word (operation_word a.0)) (Array (Word (reply_word a.1)) Nothing)

abbrev pub point_value : Option Act → Json
point_value None = Number 0
point_value (Some a) = point_items a

act_is : (a : Act) (after : List ℕ) → act_text a ++ (codes "]" ++ after) ≡ joined (codes "\"" ∷ operation_word a.0 ∷ codes "\",\"" ∷ reply_word a.1 ∷ codes "\"" ∷ []) (codes "]" ++ after)
act_is a after = spread (codes "\"" ∷ operation_word a.0 ∷ codes "\",\"" ∷ reply_word a.1 ∷ codes "\"" ∷ []) (codes "]" ++ after)

point_is : (p : Option Act) (after : List ℕ) → point_text p ++ after ≡ writes true (point_value p) (codes "," ++ after)
point_is None after = zero_then (codes "," ++ after)
point_is (Some a) after = ap (λ l. codes "[" ++ l) (append_assoc (act_text a) (codes "],") after ∙ act_is a (codes "," ++ after))

point_back : (p : Option Act) → (if is_there (point_value p) then Some (point_read (point_value p)) else None) ≡ option_map point_shown p
point_back None = refl
point_back (Some a) = refl

abbrev pub bed_value : Option Bed → Json
bed_value None = Number 0
bed_value (Some b) = queue_value b.queue (Array (Number b.line) Nothing)

bed_is : (b : Option Bed) (after : List ℕ) → bed_text b ++ after ≡ writes true (bed_value b) after
bed_is None after = zero_then after
bed_is (Some b) after = ap (λ l. codes "[" ++ l) (append_assoc (queue_text b.queue) (concat (codes "," ∷ decimal b.line ∷ codes "]" ∷ [])) after ∙ ap (λ l. queue_text b.queue ++ l) (spread (codes "," ∷ decimal b.line ∷ codes "]" ∷ []) after)) ∙ by_queue b.queue
  where
    by_queue : (q : Queue) → codes "[" ++ (queue_text q ++ (codes "," ++ (decimal b.line ++ (codes "]" ++ after)))) ≡ writes true (queue_value q (Array (Number b.line) Nothing)) after
    by_queue (queue.Mutex m) = refl
    by_queue (queue.Condition c) = refl

bed_back : (b : Option Bed) → (if is_there (bed_value b) then Some (bed_read (bed_value b)) else None) ≡ b
bed_back None = refl
bed_back (Some b) = by_queue b.queue
  where
    by_queue : (q : Queue) → (if is_there (queue_value q (Array (Number b.line) Nothing)) then Some (bed_read (queue_value q (Array (Number b.line) Nothing))) else None) ≡ Some (record { queue = q; line = b.line })
    by_queue (queue.Mutex m) = refl
    by_queue (queue.Condition c) = refl

-- ---- what a thread does

abbrev pub status_value : Status → Json
status_value s = Array (Number s.life) (Array (flag_value s.killed) (Array (flag_value s.reaped) (Array (call_value s.call) (Array (point_value s.point) (Array (bed_value s.bed) Nothing)))))

status_is : (s : Status) (after : List ℕ) → status_text s ++ after ≡ writes true (status_value s) after
status_is s after =
    append_assoc (marks_text s) _ after ∙ spread (codes "[" ∷ decimal s.life ∷ codes "," ∷ flag s.killed ∷ codes "," ∷ flag s.reaped ∷ codes "," ∷ []) _
    ∙ ap (λ l. codes "[" ++ (decimal s.life ++ (codes "," ++ l)))
    (flag_is s.killed _ ∙ ap (λ l. writes true (flag_value s.killed) (codes "," ++ l))
    (flag_is s.reaped _ ∙ ap (λ l. writes true (flag_value s.reaped) (codes "," ++ l))
    (append_assoc (call_text s.call) _ after ∙ call_is s.call _ ∙ ap (λ l. writes true (call_value s.call) (codes "," ++ l))
    (append_assoc (point_text s.point) _ after ∙ point_is s.point _ ∙ ap (λ l. writes true (point_value s.point) (codes "," ++ l))
    (append_assoc (bed_text s.bed) (codes "]") after ∙ bed_is s.bed (codes "]" ++ after))))))

abbrev pub made : ℕ → Bool → Bool → Option CallRead → Option PointRead → Option Bed → StatusRead
made life killed reaped call point bed = record { life = life; killed = killed; reaped = reaped; call = call; point = point; bed = bed }

status_back : (s : Status) → IsStatus (status_value s) s
status_back s =
    ap (λ (k : Bool). made s.life k (is_there (flag_value s.reaped)) (if is_there (call_value s.call) then Some (call_read (call_value s.call)) else None) (if is_there (point_value s.point) then Some (point_read (point_value s.point)) else None) (if is_there (bed_value s.bed) then Some (bed_read (bed_value s.bed)) else None)) (flag_read s.killed)
    ∙ ap (λ (k : Bool). made s.life s.killed k (if is_there (call_value s.call) then Some (call_read (call_value s.call)) else None) (if is_there (point_value s.point) then Some (point_read (point_value s.point)) else None) (if is_there (bed_value s.bed) then Some (bed_read (bed_value s.bed)) else None)) (flag_read s.reaped)
    ∙ ap (λ (c : Option CallRead). made s.life s.killed s.reaped c (if is_there (point_value s.point) then Some (point_read (point_value s.point)) else None) (if is_there (bed_value s.bed) then Some (bed_read (bed_value s.bed)) else None)) (call_back s.call)
    ∙ ap (λ (p : Option PointRead). made s.life s.killed s.reaped (option_map call_shown s.call) p (if is_there (bed_value s.bed) then Some (bed_read (bed_value s.bed)) else None)) (point_back s.point)
    ∙ ap (λ (b : Option Bed). made s.life s.killed s.reaped (option_map call_shown s.call) (option_map point_shown s.point) b) (bed_back s.bed)

-- ---- what a mutex is

abbrev pub owner_value : Option ℕ → Json
owner_value None = Number 0
owner_value (Some t) = Number t

abbrev pub object_value : Object → Json
object_value o = Array (owner_value o.owner) (Array (flag_value o.inconsistent) (Array (flag_value o.unusable) Nothing))

owner_is : (w : Option ℕ) (after : List ℕ) → owner_text w ++ after ≡ codes "[" ++ writes true (owner_value w) (codes "," ++ after)
owner_is None after = ap (λ l. codes "[" ++ l) (zero_then (codes "," ++ after))
owner_is (Some t) after = ap (λ l. codes "[" ++ l) (append_assoc (decimal t) (codes ",") after)

object_is : (o : Object) (after : List ℕ) → object_text o ++ after ≡ writes true (object_value o) after
object_is o after =
    append_assoc (owner_text o.owner) _ after ∙ owner_is o.owner _
    ∙ ap (λ l. codes "[" ++ writes true (owner_value o.owner) (codes "," ++ l))
    (spread (flag o.inconsistent ∷ codes "," ∷ flag o.unusable ∷ codes "]" ∷ []) after
    ∙ flag_is o.inconsistent _ ∙ ap (λ l. writes true (flag_value o.inconsistent) (codes "," ++ l)) (flag_is o.unusable _))

owner_back : (w : Option ℕ) → w ≢ Some 0 → (if is_there (owner_value w) then Some (number (owner_value w)) else None) ≡ w
owner_back None some = refl
owner_back (Some t) some = go (t == 0) refl
  where
    go : (b : Bool) → (t == 0) ≡ b → (if not b then Some t else None) ≡ Some t
    go true is = absurd (some (ap (λ (k : ℕ). Some k) (let z : t ≡ 0 = grind (arith, nat_tests, is) in z)))
    go false is = refl

abbrev pub object_with : Option ℕ → Bool → Bool → Object
object_with w i u = record { owner = w; inconsistent = i; unusable = u }

object_back : (o : Object) → IsObject (object_value o) o
object_back o some =
    ap (λ (w : Option ℕ). object_with w (is_there (flag_value o.inconsistent)) (is_there (flag_value o.unusable))) (owner_back o.owner some)
    ∙ ap (λ (i : Bool). object_with o.owner i (is_there (flag_value o.unusable))) (flag_read o.inconsistent)
    ∙ ap (λ (u : Bool). object_with o.owner o.inconsistent u) (flag_read o.unusable)

-- ---- what a line tells

abbrev pub rest_value : Fact → Json
rest_value (fact.Begin t k) = call_items k
rest_value (fact.Point d) = Array (Number d.mutex) (point_items (d.operation, d.reply))
rest_value (fact.Death t m) = Array (Number m) Nothing
rest_value (fact.Sleep t q) = queue_value q Nothing
rest_value (fact.Move t m) = queue_value (queue.Mutex m) Nothing
rest_value (fact.Return t x) = Array (Word (reply_word x)) Nothing
rest_value f = Nothing

abbrev pub fact_value : Fact → Json
fact_value f = Array (Word (word_of f)) (Array (Number (thread_of f)) (rest_value f))

rest_is : (f : Fact) (after : List ℕ) → rest_of f ++ (codes "]" ++ after) ≡ writes false (rest_value f) after
rest_is (fact.Begin t k) after = ap (λ l. codes "," ++ l) (begun_is k after)
rest_is (fact.Point d) after =
    append_assoc (concat (codes "," ∷ decimal d.mutex ∷ codes "," ∷ [])) (act_text (d.operation, d.reply)) (codes "]" ++ after)
    ∙ spread (codes "," ∷ decimal d.mutex ∷ codes "," ∷ []) _ ∙ ap (λ l. codes "," ++ (decimal d.mutex ++ (codes "," ++ l))) (act_is (d.operation, d.reply) after)
rest_is (fact.Death t m) after = refl
rest_is (fact.Sleep t (queue.Mutex m)) after = refl
rest_is (fact.Sleep t (queue.Condition c)) after = refl
rest_is (fact.Wake t) after = refl
rest_is (fact.Move t m) after = refl
rest_is (fact.Return t x) after = spread (codes ",\"" ∷ reply_word x ∷ codes "\"" ∷ []) (codes "]" ++ after)
rest_is (fact.Kill t) after = refl
rest_is (fact.Reap t) after = refl
rest_is (fact.Renew t) after = refl

fact_back : (f : Fact) → fact_read (fact_value f) ≡ fact_shown f
fact_back (fact.Begin t k) = ap (λ (c : CallRead). Begins t c) (call_read_back k)
fact_back (fact.Point d) = refl
fact_back (fact.Death t m) = refl
fact_back (fact.Sleep t (queue.Mutex m)) = refl
fact_back (fact.Sleep t (queue.Condition c)) = refl
fact_back (fact.Wake t) = refl
fact_back (fact.Move t m) = refl
fact_back (fact.Return t x) = refl
fact_back (fact.Kill t) = refl
fact_back (fact.Reap t) = refl
fact_back (fact.Renew t) = refl

line_is : (e : Line) (after : List ℕ) → line_text e ++ after ≡ codes "[" ++ (decimal e.event ++ (codes "," ++ writes true (fact_value e.fact) (codes "," ++ after)))
line_is e after =
    append_assoc (concat (codes "[" ∷ decimal e.event ∷ codes "," ∷ [])) _ after ∙ spread (codes "[" ∷ decimal e.event ∷ codes "," ∷ []) _
    ∙ ap (λ l. codes "[" ++ (decimal e.event ++ (codes "," ++ l)))
    (append_assoc (told (word_of e.fact) (thread_of e.fact)) _ after ∙ spread (codes "[\"" ∷ word_of e.fact ∷ codes "\"," ∷ decimal (thread_of e.fact) ∷ []) _
    ∙ ap (λ l. codes "[\"" ++ (word_of e.fact ++ (codes "\"," ++ (decimal (thread_of e.fact) ++ l)))) (append_assoc (rest_of e.fact) (codes "],") after ∙ rest_is e.fact (codes "," ++ after)))

-- ---- a line and what it changes

abbrev pub mutex_value : Option Mutex → Json
mutex_value None = Nothing
mutex_value (Some m) = Array (object_value m.object) Nothing

mutex_is : (m : Option Mutex) → mutex_text m ≡ writes false (mutex_value m) (codes ",\n")
mutex_is None = refl
mutex_is (Some m) = ap (λ l. codes "," ++ l) (object_is m.object (codes "],\n"))

abbrev pub turn_value : Line → Change → Json
turn_value e c = Array (Number e.event) (Array (fact_value e.fact) (Array (status_value c.status) (mutex_value c.mutex)))

turn_is : (e : Line) (c : Change) → turn_text e c ≡ writes true (turn_value e c) (codes ",\n")
turn_is e c = line_is e _ ∙ ap (λ l. codes "[" ++ (decimal e.event ++ (codes "," ++ writes true (fact_value e.fact) (codes "," ++ l)))) (status_is c.status (mutex_text c.mutex) ∙ ap (λ l. writes true (status_value c.status) l) (mutex_is c.mutex))

no_mutex : (e : Line) (c : Change) → c.mutex ≡ None → has 3 (turn_value e c) ≡ false
no_mutex e c none = ap (λ (m : Option Mutex). has 3 (Array (Number e.event) (Array (fact_value e.fact) (Array (status_value c.status) (mutex_value m))))) none

one_mutex : (e : Line) (c : Change) (m : Mutex) → c.mutex ≡ Some m → (has 3 (turn_value e c) ≡ true) × IsObject (at 3 (turn_value e c)) m.object
one_mutex e c m some = subst (λ (o : Option Mutex). (has 3 (Array (Number e.event) (Array (fact_value e.fact) (Array (status_value c.status) (mutex_value o)))) ≡ true) × IsObject (at 3 (Array (Number e.event) (Array (fact_value e.fact) (Array (status_value c.status) (mutex_value o))))) m.object) (sym some) (refl, object_back m.object)

its_number : (f : Fact) (es : List Line) (m : Mutex) → option_map (mutex_behind es) (decision_of f) ≡ Some m → number (at 2 (fact_value f)) ≡ m.number
its_number (fact.Point d) es m is = ap (λ (x : Mutex). x.number) (let h : mutex_behind es d ≡ m = cc in h)
its_number (fact.Death t k) es m is = let h : Some k ≡ Some m.number = ap (λ (o : Option Mutex). option_map (λ (x : Mutex). x.number) o) is in cc
its_number f es m is = absurd cc

reads_line : (e : Line) (es : List Line) → Reads (item_text (Turn e (change_of e es))) (codes ",\n") (IsLine e es)
reads_line e es = record {
  value = turn_value e (change_of e es);
  is = turn_is e (change_of e es);
  says = record {
    event = refl;
    tells = fact_back e.fact;
    thread = refl;
    status = status_back (change_of e es).status;
    unchanged = no_mutex e (change_of e es);
    mutex = λ m some. let h = one_mutex e (change_of e es) m some in (h.0, its_number e.fact (e ∷ es) m some, h.1);
  };
}

-- ---- whole states

abbrev pub values : {A : Type 0} → (A → Json) → List A → Json
values f [] = Nothing
values f (x ∷ xs) = Array (f x) (values f xs)

all_are : {A : Type 0} (f : A → Json) (text : A → List ℕ) (behind : A → List ℕ) → ((x : A) → behind x ≡ codes "," ++ text x) → ((x : A) (after : List ℕ) → text x ++ after ≡ writes true (f x) after) → (xs : List A) (after : List ℕ) → concat (map behind xs) ++ (codes "]" ++ after) ≡ writes false (values f xs) after
all_are f text behind so is [] after = refl
all_are f text behind so is (x ∷ xs) after =
    append_assoc (behind x) (concat (map behind xs)) (codes "]" ++ after)
    ∙ ap (λ l. l ++ (concat (map behind xs) ++ (codes "]" ++ after))) (so x)
    ∙ ap (λ l. codes "," ++ l) (is x _ ∙ ap (λ l. writes true (f x) l) (all_are f text behind so is xs after))

all_say : {A : Type 0} (says : Json → A → Type 0) (f : A → Json) → ((x : A) → says (f x) x) → (xs : List A) → Say says (values f xs) xs
all_say says f so [] = refl
all_say says f so (x ∷ xs) = (so x, all_say says f so xs)

abbrev pub whole_value : Shown → Json
whole_value s = Array (Array (Word (codes "threads")) (values status_value s.threads)) (Array (Array (Word (codes "mutexes")) (values object_value s.mutexes)) Nothing)

whole_is : (s : Shown) → item_text (Whole s) ≡ writes true (whole_value s) (codes ",\n")
whole_is s =
    ap (λ l. codes "[[\"threads\"" ++ l)
    (all_are status_value status_text status_behind (λ t. refl) status_is s.threads (codes ",[\"mutexes\"" ++ (concat (map object_behind s.mutexes) ++ codes "]],\n"))
    ∙ ap (λ l. writes false (values status_value s.threads) (codes ",[\"mutexes\"" ++ l)) (all_are object_value object_text object_behind (λ o. refl) object_is s.mutexes (codes "],\n")))

reads_whole : (s : Shown) → Reads (item_text (Whole s)) (codes ",\n") (IsWhole s)
reads_whole s = record {
  value = whole_value s;
  is = whole_is s;
  says = record {
    threads = (refl, all_say IsStatus status_value status_back s.threads);
    mutexes = (refl, all_say IsObject object_value object_back s.mutexes);
  };
}

-- ---- the end

abbrev pub misfit_value : Option Line → Json
misfit_value None = Number 0
misfit_value (Some e) = Array (Number e.event) (Array (fact_value e.fact) (Array (Number 0) Nothing))

misfit_is : (o : Option Line) (after : List ℕ) → misfit_text o ++ after ≡ writes true (misfit_value o) after
misfit_is None after = zero_then after
misfit_is (Some e) after =
    append_assoc (line_text e) (codes "0]") after ∙ line_is e (codes "0]" ++ after)
    ∙ ap (λ l. codes "[" ++ (decimal e.event ++ (codes "," ++ writes true (fact_value e.fact) (codes "," ++ l)))) (zero_then (codes "]" ++ after))

misfit_back : (o : Option Line) → IsMisfitLine o (misfit_value o)
misfit_back None = refl
misfit_back (Some e) = (refl, refl, fact_back e.fact)

illegal_end_is : (w : List ℕ) (last line : ℕ) (why : List ℕ) (ls : List Line) (o : Option Line) → illegal_start w last (length ls) line ++ (escaped why ++ illegal_end o) ≡ writes true (Array (Word w) (Array (Number last) (Array (Number (length ls)) (Array (Number line) (Array (Word (escaped why)) (Array (misfit_value o) Nothing)))))) (codes "\n]\n")
illegal_end_is w last line why ls o =
    spread (codes "[\"" ∷ w ∷ codes "\"," ∷ decimal last ∷ codes "," ∷ decimal (length ls) ∷ codes "," ∷ decimal line ∷ codes ",\"" ∷ []) _
    ∙ ap (λ l. codes "[\"" ++ (w ++ (codes "\"," ++ (decimal last ++ (codes "," ++ (decimal (length ls) ++ (codes "," ++ (decimal line ++ (codes ",\"" ++ (escaped why ++ (codes "\"," ++ l))))))))))) (misfit_is o (codes "]\n]\n"))

reads_history : (why : Option (List ℕ)) (last : ℕ) (ls : List Line) → Reads (history_end why last ls) (codes "\n]\n") (IsHistoryEnd why last ls)
reads_history None last ls = record {
  value = Array (Word (codes "legal history")) (Array (Number last) (Array (Number (length ls)) Nothing));
  is = refl;
  says = (refl, refl, refl);
}
reads_history (Some why) last ls = record {
  value = Array (Word (codes "illegal history")) (Array (Number last) (Array (Number (length ls)) (Array (Number (length ls + 1)) (Array (Word (escaped why)) (Array (misfit_value (misfit_line ls (length ls + 1))) Nothing)))));
  is = illegal_end_is (codes "illegal history") last (length ls + 1) why ls (misfit_line ls (length ls + 1));
  says = (refl, refl, refl, refl, refl, misfit_back (misfit_line ls (length ls + 1)));
}

reads_end : (f : Finding) (last : ℕ) (ls : List Line) → Reads (end_text f last ls) (codes "\n]\n") (IsEnd f last ls)
reads_end (Legal points) last ls = record {
  value = Array (Word (codes "legal")) (Array (Number last) (Array (Number (length ls)) Nothing));
  is = refl;
  says = (refl, refl, refl);
}
reads_end (Illegal found) last ls = record {
  value = Array (Word (codes "illegal")) (Array (Number last) (Array (Number (length ls)) (Array (Number found.line) (Array (Word (escaped (reason_text found.misfit))) (Array (misfit_value (misfit_line ls found.line)) Nothing)))));
  is = illegal_end_is (codes "illegal") last found.line (reason_text found.misfit) ls (misfit_line ls found.line);
  says = (refl, refl, refl, refl, refl, misfit_back (misfit_line ls found.line));
}

pub script_reads_states : ScriptReadsStates
script_reads_states = record {
  statuses = λ s. record { value = status_value s; is = sym (append-nil (status_text s)) ∙ status_is s []; says = status_back s };
  objects = λ o. record { value = object_value o; is = sym (append-nil (object_text o)) ∙ object_is o []; says = object_back o };
  lines = reads_line;
  wholes = reads_whole;
  histories = reads_history;
  ends = reads_end;
}
