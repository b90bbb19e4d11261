-- Names in the data of a page are in quotes, and no byte of the data is of markup.
use Rattle.std.proofs.Common.{◌≡◌, ◌≢◌, inl, inr, ℕ, zero, suc, ◌+◌, ◌/◌, ◌%◌, ◌<◌, Bool, true, false, Option, Some, None, List, [], ◌∷◌, ◌++◌, All, map, refl, sym, ap, subst, ◌∙◌, add-one, append-nil, append_assoc, arith}
use Rattle.std.specs.Prelude.{◌==◌, ◌&&◌, ◌||◌, not, codes, decimal, nat_lt, if◌then◌else◌}
use Rattle.std.specs.Fmt.{digit_glyph, digits, digits_onto}
use Rattle.std.specs.List.{concat, fold, list_all}
use Rattle.std.proofs.lemmas.Bool.Decides.{eqb_tells, nat_tests}
use Rattle.std.proofs.lemmas.List.Elements.{All-head, All-tail, All-weaker}
use Rattle.std.proofs.lemmas.List.Folds.{list_all-append}
use Rattle.std.proofs.lemmas.List.FromFn.{map-range_with_len_more}
use Rattle.std.proofs.lemmas.List.Sums.{AllPass-from_list_all, fold-append, list_all-from_AllPass}
use Rattle.percent_encoding.specs.declared.ascii_set.TheConstants.{NON_ALPHANUMERIC}
use Rattle.percent_encoding.proofs.PercentLemmas.{percent_encode-append}
use Rattle.lockword.specs.declared.reply.Reply.{Reply}
use Rattle.lockword.specs.declared.reply.Reply.TheVariants.{OK, EPERM, ESRCH, EAGAIN, EFAULT, EBUSY, EINVAL, EDEADLK, ETIMEDOUT, EOWNERDEAD, ENOTRECOVERABLE, XNOMEM, XRACED, XHELD, XFULL, XSTATE}
use Rattle.lockword.specs.Replies.{reply_word}
use Rattle.posixmutex.specs.declared.object.Object.{Object}
use Rattle.posixmutex.specs.declared.point.Operation.{Operation}
use Rattle.posixmutex.specs.declared.point.Operation.TheVariants as operation
use Rattle.posixmutex.specs.Words.{operation_word}
use Rattle.facts.specs.declared.fact.Begun.{Begun}
use Rattle.facts.specs.declared.fact.Queue.{Queue}
use Rattle.facts.specs.declared.fact.Queue.TheVariants as queue
use Rattle.facts.specs.declared.fact.Fact.{Fact}
use Rattle.facts.specs.declared.fact.Fact.TheVariants.{Begin, Point, Death, Sleep, Wake, Move, Return, Kill, Reap, Renew}
use Rattle.facts.specs.declared.fact.Line.{Line}
use Rattle.facts.specs.Lives.{Act}
use Rattle.verdict.specs.declared.checking.Finding.{Finding}
use Rattle.verdict.specs.declared.checking.Finding.TheVariants.{Legal, Illegal}
use Rattle.verdict.specs.declared.head.Head.{Head}
use Rattle.verdict.specs.declared.told.Told.{Told}
use Rattle.picture.specs.Names.{Called, condition_head, condition_tail, mutex_head, mutex_tail, thread_head, thread_tail}
use Rattle.picture.specs.Pieces.{each}
use Rattle.page.specs.declared.status.Bed.{Bed}
use Rattle.page.specs.declared.status.Status.{Status}
use Rattle.page.specs.Data.{data_text, end_text, history_data, history_end, history_shown, lines_shown, misfit_text, start_text}
use Rattle.page.specs.Escapes.{IsPlain, escaped}
use Rattle.page.specs.Names.{condition_called, label_text, mutex_called, names_text, thread_called}
use Rattle.page.specs.Quoting.{IsOfData, NamesStandInQuotes, Reading, condition_name, inside, mutex_name, names_of, outside, read_byte, thread_name}
use Rattle.page.specs.Shows.{Item, Turn, Whole, items_behind}
use Rattle.page.specs.States.{Mutex, Shown, listed}
use Rattle.page.specs.Texts.{act_text, bed_text, begun_text, call_text, condition_text, flag, item_text, items_text, line_text, marks_text, mutex_text, object_behind, object_text, owner_text, point_text, queue_text, rest_of, status_behind, status_text, whole_text, word_of}
use Rattle.page.proofs.Escapes.{plain_name}

-- ---- bytes

abbrev pub is_of_data : ℕ → Bool
is_of_data b = not (b == 38 || (b == 39 || (b == 60 || (b == 62 || b == 92))))

-- a text of such bytes
abbrev pub Fine : List ℕ → Type 0
Fine bs = list_all is_of_data bs ≡ true

never : (b m : ℕ) → is_of_data b ≡ true → is_of_data m ≡ false → b ≢ m
never b m is not_so same = let so : is_of_data m ≡ true = subst (λ (n : ℕ). is_of_data n ≡ true) same is in cc

of_data : (b : ℕ) → is_of_data b ≡ true → IsOfData b
of_data b is = elim (eqb_tells b 34) [ inl h ↦ inl h.1 | inr h ↦ inr (record { quote = h.1; ampersand = never b 38 is refl; apostrophe = never b 39 is refl; less = never b 60 is refl; greater = never b 62 is refl; backslash = never b 92 is refl }) ]

plain_so : (b : ℕ) → IsPlain b → is_of_data b ≡ true
plain_so b p = let a = p.ampersand in let c = p.apostrophe in let l = p.less in let g = p.greater in let s = p.backslash in grind (arith, nat_tests)

escaped_fine : (w : List ℕ) → Fine (escaped w)
escaped_fine w = list_all-from_AllPass is_of_data (escaped w) (All-weaker IsPlain (λ b. is_of_data b ≡ true) plain_so (escaped w) (plain_name w))

both : (xs ys : List ℕ) → Fine xs → Fine ys → Fine (xs ++ ys)
both xs ys p q = list_all-append is_of_data xs ys ∙ ap (λ (b : Bool). b && list_all is_of_data ys) p ∙ q

digit_fine : (d : ℕ) → d < 10 → is_of_data (48 + d) ≡ true
digit_fine d small = grind (arith, nat_tests)

glyph_fine : (d : ℕ) → d < 10 → is_of_data (digit_glyph false d) ≡ true
glyph_fine d small = by (nat_lt d 10) refl where
  by : (b : Bool) → nat_lt d 10 ≡ b → is_of_data (if b then 48 + d else 87 + d) ≡ true
  by true is = digit_fine d small
  by false is = absurd (grind (arith, nat_tests))

onto_by : (b : Bool) (acc more : List ℕ) → Fine acc → Fine more → Fine (if b then acc else more)
onto_by true acc more p q = p
onto_by false acc more p q = q

onto_fine : (k n : ℕ) (acc : List ℕ) → Fine acc → Fine (digits_onto k 10 false n acc)
onto_fine zero n acc h = h
onto_fine (suc k) n acc h =
    let digit = digit_glyph false (n % 10) in
    let more : Fine (digit ∷ acc) = ap (λ (b : Bool). b && list_all is_of_data acc) (glyph_fine (n % 10) (omega arith)) ∙ h in
    onto_by (n / 10 == 0) (digit ∷ acc) (digits_onto k 10 false (n / 10) (digit ∷ acc)) more (onto_fine k (n / 10) (digit ∷ acc) more)

number_fine : (n : ℕ) → Fine (decimal n)
unfolding digits
number_fine n = onto_fine 64 n [] refl

each_fine : (f : ℕ → List ℕ) → ((i : ℕ) → Fine (f i)) → (n : ℕ) → Fine (each f n)
each_fine f h zero = refl
each_fine f h (suc n) = both (each f n) (f n) (each_fine f h n) (h n)

all_fine : {A : Type 0} (f : A → List ℕ) → ((x : A) → Fine (f x)) → (xs : List A) → Fine (concat (map f xs))
all_fine f h [] = refl
all_fine f h (x ∷ xs) = both (f x) (concat (map f xs)) (h x) (all_fine f h xs)

-- ---- the texts

label_fine : (head tail : List ℕ) → Fine (label_text head tail)
label_fine head tail = simp (list_all-append, escaped_fine)

operation_fine : (o : Operation) → Fine (operation_word o)
operation_fine operation.Lock = refl
operation_fine operation.TryLock = refl
operation_fine operation.TimedLock = refl
operation_fine operation.Unlock = refl
operation_fine operation.Consistent = refl
operation_fine operation.Wait = refl
operation_fine operation.TimedWait = refl
operation_fine operation.Signal = refl
operation_fine operation.Broadcast = refl
operation_fine operation.Death = refl
operation_fine operation.Reinit = refl

reply_fine : (x : Reply) → Fine (reply_word x)
reply_fine OK = refl
reply_fine EPERM = refl
reply_fine ESRCH = refl
reply_fine EAGAIN = refl
reply_fine EFAULT = refl
reply_fine EBUSY = refl
reply_fine EINVAL = refl
reply_fine EDEADLK = refl
reply_fine ETIMEDOUT = refl
reply_fine EOWNERDEAD = refl
reply_fine ENOTRECOVERABLE = refl
reply_fine XNOMEM = refl
reply_fine XRACED = refl
reply_fine XHELD = refl
reply_fine XFULL = refl
reply_fine XSTATE = refl

flag_fine : (b : Bool) → Fine (flag b)
flag_fine true = refl
flag_fine false = refl

queue_fine : (q : Queue) → Fine (queue_text q)
queue_fine (queue.Mutex m) = number_fine m
queue_fine (queue.Condition c) = number_fine c

condition_fine : (c : Option ℕ) → Fine (condition_text c)
condition_fine None = refl
condition_fine (Some c) = number_fine c

begun_fine : (c : Begun) → Fine (begun_text c)
begun_fine c = simp (list_all-append, operation_fine, number_fine, condition_fine)

act_fine : (a : Act) → Fine (act_text a)
act_fine a = simp (list_all-append, operation_fine, reply_fine)

call_fine : (c : Option Begun) → Fine (call_text c)
call_fine None = refl
call_fine (Some c) = both (begun_text c) (codes "],") (begun_fine c) refl

point_fine : (p : Option Act) → Fine (point_text p)
point_fine None = refl
point_fine (Some a) = both (act_text a) (codes "],") (act_fine a) refl

bed_fine : (b : Option Bed) → Fine (bed_text b)
bed_fine None = refl
bed_fine (Some b) = both (queue_text b.queue) (concat (codes "," ∷ decimal b.line ∷ codes "]" ∷ [])) (queue_fine b.queue) (simp (list_all-append, number_fine))

marks_fine : (s : Status) → Fine (marks_text s)
marks_fine s = simp (list_all-append, number_fine, flag_fine)

status_fine : (s : Status) → Fine (status_text s)
status_fine s = both (marks_text s) _ (marks_fine s) (both (call_text s.call) _ (call_fine s.call) (both (point_text s.point) _ (point_fine s.point) (both (bed_text s.bed) (codes "]") (bed_fine s.bed) refl)))

owner_fine : (o : Option ℕ) → Fine (owner_text o)
owner_fine None = refl
owner_fine (Some t) = both (decimal t) (codes ",") (number_fine t) refl

object_fine : (o : Object) → Fine (object_text o)
object_fine o = both (owner_text o.owner) _ (owner_fine o.owner) (simp (list_all-append, flag_fine))

threads_fine : (ss : List Status) → Fine (concat (map status_behind ss))
threads_fine ss = all_fine status_behind status_fine ss

mutexes_fine : (os : List Object) → Fine (concat (map object_behind os) ++ codes "]],\n")
mutexes_fine os = both (concat (map object_behind os)) (codes "]],\n") (all_fine object_behind object_fine os) refl

whole_fine : (s : Shown) → Fine (whole_text s)
whole_fine s = both (concat (map status_behind s.threads)) (codes "],[\"mutexes\"" ++ (concat (map object_behind s.mutexes) ++ codes "]],\n")) (threads_fine s.threads) (mutexes_fine s.mutexes)

word_fine : (f : Fact) → Fine (word_of f)
word_fine (Begin t c) = refl
word_fine (Point d) = refl
word_fine (Death t m) = refl
word_fine (Sleep t q) = refl
word_fine (Wake t) = refl
word_fine (Move t m) = refl
word_fine (Return t x) = refl
word_fine (Kill t) = refl
word_fine (Reap t) = refl
word_fine (Renew t) = refl

rest_fine : (f : Fact) → Fine (rest_of f)
rest_fine (Begin t c) = begun_fine c
rest_fine (Point d) = both (concat (codes "," ∷ decimal d.mutex ∷ codes "," ∷ [])) (act_text (d.operation, d.reply)) (simp (list_all-append, number_fine)) (act_fine (d.operation, d.reply))
rest_fine (Death t m) = number_fine m
rest_fine (Sleep t q) = queue_fine q
rest_fine (Wake t) = refl
rest_fine (Move t m) = queue_fine (queue.Mutex m)
rest_fine (Return t x) = simp (list_all-append, reply_fine)
rest_fine (Kill t) = refl
rest_fine (Reap t) = refl
rest_fine (Renew t) = refl

line_fine : (e : Line) → Fine (line_text e)
line_fine e = simp (list_all-append, number_fine, word_fine, rest_fine)

mutex_fine : (m : Option Mutex) → Fine (mutex_text m)
mutex_fine None = refl
mutex_fine (Some m) = both (object_text m.object) (codes "],\n") (object_fine m.object) refl

item_fine : (i : Item) → Fine (item_text i)
item_fine (Whole s) = whole_fine s
item_fine (Turn e c) = both (line_text e) _ (line_fine e) (both (status_text c.status) (mutex_text c.mutex) (status_fine c.status) (mutex_fine c.mutex))

names_fine : (n : Called) (threads mutexes conditions : ℕ) → Fine (names_text n threads mutexes conditions)
names_fine n threads mutexes conditions =
    let ts = each_fine (thread_called n) (λ i. label_fine (thread_head n (i + 1)) (thread_tail n (i + 1))) threads in
    let ms = each_fine (mutex_called n) (λ i. label_fine (mutex_head n i) (mutex_tail n i)) mutexes in
    let cs = each_fine (condition_called n) (λ i. label_fine (condition_head n i) (condition_tail n i)) conditions in
    simp (list_all-append, ts, ms, cs)

misfit_fine : (e : Option Line) → Fine (misfit_text e)
misfit_fine None = refl
misfit_fine (Some e) = both (line_text e) (codes "0]") (line_fine e) refl

end_fine : (f : Finding) (last : ℕ) (ls : List Line) → Fine (end_text f last ls)
end_fine (Legal points) last ls = simp (list_all-append, number_fine)
end_fine (Illegal found) last ls = simp (list_all-append, number_fine, escaped_fine, misfit_fine)

history_end_fine : (why : Option (List ℕ)) (last : ℕ) (ls : List Line) → Fine (history_end why last ls)
history_end_fine None last ls = simp (list_all-append, number_fine)
history_end_fine (Some why) last ls = simp (list_all-append, number_fine, escaped_fine, misfit_fine)

history_fine : (n : Called) (t : Told) (why : Option (List ℕ)) → Fine (history_data n t why)
history_fine n t why =
    let items = items_behind t.head.threads t.head.mutexes [] (history_shown t why) in
    both (start_text n t.head) _ (names_fine n t.head.threads t.head.mutexes t.head.conditions)
    (both (items_text items) _ (all_fine item_text item_fine items) (history_end_fine why t.last _))

data_fine : (n : Called) (t : Told) (f : Finding) → Fine (data_text n t f)
data_fine n t f =
    let items = items_behind t.head.threads t.head.mutexes [] (lines_shown t f) in
    both (start_text n t.head) _ (names_fine n t.head.threads t.head.mutexes t.head.conditions)
    (both (items_text items) _ (all_fine item_text item_fine items) (end_fine f t.last _))

-- ---- the reader

-- he comes from outside of quotes to outside of quotes, over these texts
abbrev pub Reads : List ℕ → List (List ℕ) → Type 0
Reads bs ws = (before : List (List ℕ)) → fold read_byte (outside before) bs ≡ outside (before ++ ws)

read_both : (xs ys : List ℕ) (vs ws : List (List ℕ)) → Reads xs vs → Reads ys ws → Reads (xs ++ ys) (vs ++ ws)
read_both xs ys vs ws p q before = fold-append read_byte (outside before) xs ys ∙ ap (λ (r : Reading). fold read_byte r ys) (p before) ∙ q (before ++ vs) ∙ ap outside (append_assoc before vs ws)

-- a text without quotes goes on
read_other : (is_quote : Bool) (before : List (List ℕ)) (w : List ℕ) (b : ℕ) (bs : List ℕ) → (b == 34) ≡ is_quote → b ≢ 34 → fold read_byte (if is_quote then outside (before ++ w ∷ []) else inside before (w ++ b ∷ [])) bs ≡ fold read_byte (inside before (w ++ b ∷ [])) bs
read_other true before w b bs is not_so = let same : b ≡ 34 = grind (arith, nat_tests) in absurd (not_so same)
read_other false before w b bs is not_so = refl

read_plain : (before : List (List ℕ)) (w bs : List ℕ) → All IsPlain bs → fold read_byte (inside before w) bs ≡ inside before (w ++ bs)
read_plain before w [] plain = ap (inside before) (sym (append-nil w))
read_plain before w (b ∷ bs) plain =
    read_other (b == 34) before w b bs refl (All-head IsPlain b bs plain).quote
    ∙ read_plain before (w ++ b ∷ []) bs (All-tail IsPlain b bs plain)
    ∙ ap (inside before) (append_assoc w (b ∷ []) bs)

read_label : (head tail : List ℕ) → Reads (label_text head tail) (escaped (head ++ tail) ∷ [])
read_label head tail before =
    let h = escaped head in
    let t = escaped tail in
    fold-append read_byte (inside before []) h (t ++ codes "\"")
    ∙ ap (λ (r : Reading). fold read_byte r (t ++ codes "\"")) (read_plain before [] h (plain_name head))
    ∙ fold-append read_byte (inside before h) t (codes "\"")
    ∙ ap (λ (r : Reading). fold read_byte r (codes "\"")) (read_plain before h t (plain_name tail))
    ∙ ap (λ (w : List ℕ). outside (before ++ w ∷ [])) (sym (percent_encode-append NON_ALPHANUMERIC head tail))

listed_more : (g : ℕ → List ℕ) (n : ℕ) → listed g n ++ g n ∷ [] ≡ listed g (suc n)
listed_more g n = subst (λ (m : ℕ). listed g n ++ g n ∷ [] ≡ listed g m) (add-one n) (sym (map-range_with_len_more g 0 n n (omega arith)))

read_each : (f g : ℕ → List ℕ) → ((i : ℕ) → Reads (f i) (g i ∷ [])) → (n : ℕ) → Reads (each f n) (listed g n)
read_each f g h zero before = ap outside (sym (append-nil before))
read_each f g h (suc n) before = read_both (each f n) (f n) (listed g n) (g n ∷ []) (read_each f g h n) (h n) before ∙ ap (λ (ws : List (List ℕ)). outside (before ++ ws)) (listed_more g n)

read_end : Reads (codes "]],\n") []
read_end before = ap outside (sym (append-nil before))

read_parts : (t m c : List ℕ) (ts ms cs : List (List ℕ)) → Reads t ts → Reads m ms → Reads c cs
    → Reads ((codes "[[\"threads\"" ++ t) ++ ((codes "],[\"mutexes\"" ++ m) ++ (codes "],[\"conditions\"" ++ (c ++ codes "]],\n")))) (codes "threads" ∷ (ts ++ (codes "mutexes" ∷ (ms ++ (codes "conditions" ∷ cs)))))
read_parts t m c ts ms cs p q r =
    let first : Reads (codes "[[\"threads\"" ++ t) (codes "threads" ∷ ts) = read_both (codes "[[\"threads\"") t (codes "threads" ∷ []) ts (λ before. refl) p in
    let second : Reads (codes "],[\"mutexes\"" ++ m) (codes "mutexes" ∷ ms) = read_both (codes "],[\"mutexes\"") m (codes "mutexes" ∷ []) ms (λ before. refl) q in
    let third : Reads (codes "],[\"conditions\"" ++ (c ++ codes "]],\n")) (codes "conditions" ∷ (cs ++ [])) = read_both (codes "],[\"conditions\"") (c ++ codes "]],\n") (codes "conditions" ∷ []) (cs ++ []) (λ before. refl) (read_both c (codes "]],\n") cs [] r read_end) in
    let last : Reads (codes "],[\"conditions\"" ++ (c ++ codes "]],\n")) (codes "conditions" ∷ cs) = subst (λ (ws : List (List ℕ)). Reads (codes "],[\"conditions\"" ++ (c ++ codes "]],\n")) (codes "conditions" ∷ ws)) (append-nil cs) third in
    read_both (codes "[[\"threads\"" ++ t) ((codes "],[\"mutexes\"" ++ m) ++ (codes "],[\"conditions\"" ++ (c ++ codes "]],\n"))) (codes "threads" ∷ ts) (codes "mutexes" ∷ (ms ++ (codes "conditions" ∷ cs))) first (read_both (codes "],[\"mutexes\"" ++ m) (codes "],[\"conditions\"" ++ (c ++ codes "]],\n")) (codes "mutexes" ∷ ms) (codes "conditions" ∷ cs) second last)

read_names : (n : Called) (h : Head) → Reads (names_text n h.threads h.mutexes h.conditions) (names_of n h)
read_names n h =
    let ts = read_each (thread_called n) (thread_name n) (λ i. read_label (thread_head n (i + 1)) (thread_tail n (i + 1))) h.threads in
    let ms = read_each (mutex_called n) (mutex_name n) (λ i. read_label (mutex_head n i) (mutex_tail n i)) h.mutexes in
    let cs = read_each (condition_called n) (condition_name n) (λ i. read_label (condition_head n i) (condition_tail n i)) h.conditions in
    read_parts (each (thread_called n) h.threads) (each (mutex_called n) h.mutexes) (each (condition_called n) h.conditions) (listed (thread_name n) h.threads) (listed (mutex_name n) h.mutexes) (listed (condition_name n) h.conditions) ts ms cs

pub names_stand_in_quotes : NamesStandInQuotes
names_stand_in_quotes = record {
  trace = λ t f. record {
    names = λ n. read_names n t.head [];
    rest = items_text (items_behind t.head.threads t.head.mutexes [] (lines_shown t f)) ++ end_text f t.last _;
    all = λ n. refl;
    bytes = λ n. All-weaker (λ b. is_of_data b ≡ true) IsOfData of_data (data_text n t f) (AllPass-from_list_all is_of_data (data_text n t f) (data_fine n t f));
  };
  history = λ t why. record {
    names = λ n. read_names n t.head [];
    rest = items_text (items_behind t.head.threads t.head.mutexes [] (history_shown t why)) ++ history_end why t.last _;
    all = λ n. refl;
    bytes = λ n. All-weaker (λ b. is_of_data b ≡ true) IsOfData of_data (history_data n t why) (AllPass-from_list_all is_of_data (history_data n t why) (history_fine n t why));
  };
}
