-- What options ask for, and what is kept then.
use Rattle.std.proofs.Common.{◌≡◌, ◌≢◌, ◌⊎◌, ⊎_elim, inl, inr, ℕ, zero, suc, ◌+◌, ◌<◌, ◌≤◌, ◌^◌, ◌==◌, ◌&&◌, not, Bool, true, false, List, [], ◌∷◌, ◌++◌, length, get_or, reverse, take, drop, Option, Some, None, refl, sym, ap, subst, ◌∙◌, arith}
use Rattle.std.specs.Prelude.{nat_eq}
use Rattle.std.specs.Char.{is_ascii_digit}
use Rattle.std.specs.List.{list_all, starts_with}
use Rattle.std.proofs.lemmas.Bool.Decides.{nat_tests}
use Rattle.std.proofs.lemmas.Fmt.{first_decimal}
use Rattle.lines.specs.Numbers.{is_number}
use Rattle.lines.proofs.Numerals.{written}
use Rattle.std.specs.Prelude.{codes, decimal, if◌then◌else◌}
use Rattle.std.specs.List.{Contains}
use Rattle.std.specs.Str.{bytes_eq}
use Rattle.std.proofs.lemmas.List.{length-reverse, reverse-append, reverse-reverse, take_all}
use Rattle.std.proofs.lemmas.List.Elements.{Contains-append_left, Contains-push}
use Rattle.std.proofs.lemmas.Slice.Eq.{bytes_eq-Decides}
use Rattle.std.proofs.lemmas.Bool.{false_from_ne_true}
use Rattle.streams.specs.Words.{is_file_word}
use Rattle.histories.specs.declared.entry.Entry.{Entry}
use Rattle.histories.specs.declared.head.Head.{Head}
use Rattle.judge.specs.declared.judging.Judgement.{Judgement}
use Rattle.judge.specs.declared.judging.Judgement.TheVariants.{Legal, Illegal, Undecided}
use Rattle.windows.specs.declared.cutting.Window.{Window}
use Rattle.windows.specs.Texts.{steps_count}
use Rattle.windows.specs.Windows.{IsWindow}
use Rattle.judge_report.specs.declared.keeping.Cut.{Cut}
use Rattle.judge_report.specs.Asked.{Judging, Kept, Nothing, Nowhere, Overwrites, Whole, Windows, asked_of, is_number_part, is_waiting_word, is_window, is_window_at, is_window_number, judging, place_words, placed, with_place}
use Rattle.judge_report.specs.Paths.{name_one_file, own_name}
use Rattle.judge_report.proofs.Parts.{at_window, number_slashless, one_file_dotted, one_file_here, one_file_itself, one_file_twice, other_directories, other_names, other_roots, still_file}
use Rattle.judge_report.specs.Heard.{Heard}
use Rattle.judge_report.specs.Kept.{AreKept, IsFilled, IsKept, IsWritten, window_name}
use Rattle.judge_report.specs.Laws.{AreJoined, AreOptions, IsForm, IsPlace, OptionsAreKept, OptionsAreRead, OptionsWrite}

-- ---- what the words ask for

-- a file's name
named_file : (w : Bool) (kept : Kept) (file : List ℕ) → is_file_word file ≡ true → judging w kept file ≡ placed w kept file
named_file w kept file is = ap (λ (b : Bool). if b then placed w kept file else Nothing) is

whole : (w : Bool) (out file : List ℕ) → is_file_word out ≡ true → is_file_word file ≡ true → name_one_file out file ≡ false → with_place w (place_words (codes "--trace") out) file ≡ Judging w (Whole out) file
whole w out file is_out is_file other =
    ap (λ (b : Bool). with_place w (if b then Some (Whole out) else None) file) is_out
    ∙ named_file w (Whole out) file is_file ∙ ap (λ (b : Bool). if b then Overwrites file else Judging w (Whole out) file) other

cut : (w : Bool) (out file : List ℕ) → is_file_word out ≡ true → is_file_word file ≡ true → is_window_at out file ≡ false → with_place w (place_words (codes "--windows") out) file ≡ Judging w (Windows out) file
cut w out file is_out is_file apart =
    ap (λ (b : Bool). with_place w (if b then Some (Windows out) else None) file) is_out
    ∙ named_file w (Windows out) file is_file ∙ ap (λ (b : Bool). if b then Overwrites file else Judging w (Windows out) file) apart

overwritten : (out file : List ℕ) → is_file_word out ≡ true → is_file_word file ≡ true → name_one_file out file ≡ true → with_place false (place_words (codes "--trace") out) file ≡ Overwrites file
overwritten out file is_out is_file same =
    ap (λ (b : Bool). with_place false (if b then Some (Whole out) else None) file) is_out
    ∙ named_file false (Whole out) file is_file ∙ ap (λ (b : Bool). if b then Overwrites file else Judging false (Whole out) file) same

-- a window's name
number_digits : (w : List ℕ) → is_number w ≡ true → list_all is_ascii_digit w ≡ true
number_digits [] e = absurd cc
number_digits (b ∷ []) e = ap (λ (t : Bool). t && true) e
number_digits (b ∷ c ∷ bs) e = behind (not (b == 48)) (list_all is_ascii_digit (b ∷ c ∷ bs)) e
  where
    behind : (a d : Bool) → (a && d) ≡ true → d ≡ true
    behind true d h = h
    behind false d h = absurd cc

window_digits : (w : List ℕ) → is_number w ≡ true → 48 < get_or w 0 0 → is_window_number w ≡ true
window_digits [] e lt = absurd cc
window_digits (b ∷ bs) e lt =
    let more : 48 < b = lt in
    let other : not (b == 48) ≡ true = grind (arith, nat_tests, more) in
    ap (λ (t : Bool). t && list_all is_ascii_digit (b ∷ bs)) other ∙ number_digits (b ∷ bs) e

begins : (out rest : List ℕ) → starts_with nat_eq (out ++ rest) out ≡ true
begins [] rest = refl
begins (b ∷ out) rest =
    let same : nat_eq b b ≡ true = grind (arith, nat_tests) in
    ap (λ (t : Bool). t && starts_with nat_eq (out ++ rest) out) same ∙ begins out rest

rests : (out rest : List ℕ) → drop (length out) (out ++ rest) ≡ rest
rests [] rest = refl
rests (b ∷ out) rest = rests out rest

of_window : (out : List ℕ) (n : ℕ) → 1 ≤ n → n < 2 ^ 64 → is_window out (window_name out n) ≡ true
of_window out n some small =
    ap (λ (t : Bool). t && is_number_part (drop (length out) (window_name out n))) (begins out (codes "." ++ decimal n))
    ∙ ap is_number_part (rests out (codes "." ++ decimal n)) ∙ window_digits (decimal n) (written n small) (first_decimal n (omega (arith, some)) small)

over : (out : List ℕ) (n : ℕ) → is_file_word out ≡ true → is_file_word (window_name out n) ≡ true → 1 ≤ n → n < 2 ^ 64 → with_place false (place_words (codes "--windows") out) (window_name out n) ≡ Overwrites (window_name out n)
over out n is_out is_file some small =
    ap (λ (b : Bool). with_place false (if b then Some (Windows out) else None) (window_name out n)) is_out
    ∙ named_file false (Windows out) (window_name out n) is_file
    ∙ ap (λ (b : Bool). if b then Overwrites (window_name out n) else Judging false (Windows out) (window_name out n)) (at_window out (decimal n) (number_slashless (decimal n) (number_digits (decimal n) (written n small))) ∙ of_window (own_name out) n some small)

of_zero : (out digits : List ℕ) → is_window out (out ++ (codes ".0" ++ digits)) ≡ false
of_zero out digits =
    ap (λ (t : Bool). t && is_number_part (drop (length out) (out ++ (codes ".0" ++ digits)))) (begins out (codes ".0" ++ digits))
    ∙ ap is_number_part (rests out (codes ".0" ++ digits))

-- ---- which forms there are

abbrev Formed : List (List ℕ) → Type 0
Formed words = (waiting : Bool) × (kept : Kept) × (file : List ℕ) × IsForm waiting kept file words

with_file : (w : Bool) (kept : Kept) (file : List ℕ) (os : List (List ℕ)) (p : List ℕ) (words : List (List ℕ)) → AreOptions w kept os → IsPlace kept → words ≡ p ∷ (os ++ file ∷ []) → (judging w kept file ≡ Nothing) ⊎ Formed words
with_file w kept file os p words are place all = go (is_file_word file) refl
  where
    go : (b : Bool) → is_file_word file ≡ b → ((if b then placed w kept file else Nothing) ≡ Nothing) ⊎ Formed words
    go true is = inr (w, kept, file, record { program = p; options = os; all = all; are = are; place = place; named = is })
    go false is = inl refl

reads_place : (w : Bool) (a out file : List ℕ) (words : List (List ℕ)) → (is_file_word out ≡ true → a ≡ codes "--trace" → (judging w (Whole out) file ≡ Nothing) ⊎ Formed words) → (is_file_word out ≡ true → a ≡ codes "--windows" → (judging w (Windows out) file ≡ Nothing) ⊎ Formed words) → (with_place w (place_words a out) file ≡ Nothing) ⊎ Formed words
reads_place w a out file words trace windows = go (is_file_word out) (bytes_eq a (codes "--trace")) (bytes_eq a (codes "--windows")) refl refl refl
  where
    go : (f t n : Bool) → is_file_word out ≡ f → bytes_eq a (codes "--trace") ≡ t → bytes_eq a (codes "--windows") ≡ n → (with_place w (if f then (if t then Some (Whole out) else (if n then Some (Windows out) else None)) else None) file ≡ Nothing) ⊎ Formed words
    go true true n f t m = trace f ((bytes_eq-Decides a (codes "--trace")).0 t)
    go true false true f t m = windows f ((bytes_eq-Decides a (codes "--windows")).0 m)
    go true false false f t m = inl refl
    go false t n f is m = inl refl

reads_one : (p a file : List ℕ) (b : Bool) → is_waiting_word a ≡ b → ((if b then judging true Nowhere file else Nothing) ≡ Nothing) ⊎ Formed (p ∷ a ∷ file ∷ [])
reads_one p a file true is = with_file true Nowhere file (a ∷ []) p (p ∷ a ∷ file ∷ []) (ap (λ (x : List ℕ). x ∷ []) ((bytes_eq-Decides a (codes "--waiting")).0 is)) tt refl
reads_one p a file false is = inl refl

reads_two : (p a b file : List ℕ) → (with_place false (place_words a b) file ≡ Nothing) ⊎ Formed (p ∷ a ∷ b ∷ file ∷ [])
reads_two p a b file = reads_place false a b file (p ∷ a ∷ b ∷ file ∷ [])
    (λ named is. with_file false (Whole b) file (a ∷ b ∷ []) p (p ∷ a ∷ b ∷ file ∷ []) (ap (λ (x : List ℕ). x ∷ b ∷ []) is) named refl)
    (λ named is. with_file false (Windows b) file (a ∷ b ∷ []) p (p ∷ a ∷ b ∷ file ∷ []) (ap (λ (x : List ℕ). x ∷ b ∷ []) is) named refl)

reads_three : (p a b c file : List ℕ) (first last : Bool) → is_waiting_word a ≡ first → is_waiting_word c ≡ last
    → ((if first then with_place true (place_words b c) file else (if last then with_place true (place_words a b) file else Nothing)) ≡ Nothing) ⊎ Formed (p ∷ a ∷ b ∷ c ∷ file ∷ [])
reads_three p a b c file true last is so = reads_place true b c file (p ∷ a ∷ b ∷ c ∷ file ∷ [])
    (λ named e. with_file true (Whole c) file (a ∷ b ∷ c ∷ []) p (p ∷ a ∷ b ∷ c ∷ file ∷ []) (inl (ap (λ (x : List ℕ). x ∷ b ∷ c ∷ []) ((bytes_eq-Decides a (codes "--waiting")).0 is) ∙ ap (λ (x : List ℕ). codes "--waiting" ∷ x ∷ c ∷ []) e)) named refl)
    (λ named e. with_file true (Windows c) file (a ∷ b ∷ c ∷ []) p (p ∷ a ∷ b ∷ c ∷ file ∷ []) (inl (ap (λ (x : List ℕ). x ∷ b ∷ c ∷ []) ((bytes_eq-Decides a (codes "--waiting")).0 is) ∙ ap (λ (x : List ℕ). codes "--waiting" ∷ x ∷ c ∷ []) e)) named refl)
reads_three p a b c file false true is so = reads_place true a b file (p ∷ a ∷ b ∷ c ∷ file ∷ [])
    (λ named e. with_file true (Whole b) file (a ∷ b ∷ c ∷ []) p (p ∷ a ∷ b ∷ c ∷ file ∷ []) (inr (ap (λ (x : List ℕ). x ∷ b ∷ c ∷ []) e ∙ ap (λ (x : List ℕ). codes "--trace" ∷ b ∷ x ∷ []) ((bytes_eq-Decides c (codes "--waiting")).0 so))) named refl)
    (λ named e. with_file true (Windows b) file (a ∷ b ∷ c ∷ []) p (p ∷ a ∷ b ∷ c ∷ file ∷ []) (inr (ap (λ (x : List ℕ). x ∷ b ∷ c ∷ []) e ∙ ap (λ (x : List ℕ). codes "--windows" ∷ b ∷ x ∷ []) ((bytes_eq-Decides c (codes "--waiting")).0 so))) named refl)
reads_three p a b c file false false is so = inl refl

reads : (words : List (List ℕ)) → (asked_of words ≡ Nothing) ⊎ Formed words
reads [] = inl refl
reads (p ∷ []) = inl refl
reads (p ∷ file ∷ []) = with_file false Nowhere file [] p (p ∷ file ∷ []) refl tt refl
reads (p ∷ a ∷ file ∷ []) = reads_one p a file (is_waiting_word a) refl
reads (p ∷ a ∷ b ∷ file ∷ []) = reads_two p a b file
reads (p ∷ a ∷ b ∷ c ∷ file ∷ []) = reads_three p a b c file (is_waiting_word a) (is_waiting_word c) refl refl
reads (p ∷ a ∷ b ∷ c ∷ d ∷ file ∷ more) = inl refl

pub options_read : OptionsAreRead
options_read = record {
  plain = λ p file is. named_file false Nowhere file is;
  waiting = λ p file is. named_file true Nowhere file is;
  trace = λ p out file is_out is_file other. (whole false out file is_out is_file other, whole true out file is_out is_file other, whole true out file is_out is_file other);
  windows = λ p out file is_out is_file apart. (cut false out file is_out is_file apart, cut true out file is_out is_file apart, cut true out file is_out is_file apart);
  over = λ p file is. overwritten file file is is (one_file_itself file);
  over_here = λ p file is rootless. (overwritten (codes "./" ++ file) file refl is (one_file_here file rootless).0, overwritten file (codes "./" ++ file) is refl (one_file_here file rootless).1);
  over_spelled = λ p front back is. (
    overwritten (front ++ (codes "//" ++ back)) (front ++ (codes "/" ++ back)) (still_file front (codes "/" ++ back) back is) is (one_file_twice front back),
    overwritten (front ++ (codes "/./" ++ back)) (front ++ (codes "/" ++ back)) (still_file front (codes "./" ++ back) back is) is (one_file_dotted front back),
  );
  over_window = λ p out n is_out is_file some small. over out n is_out is_file some small;
  no_window = λ p out digits is_out is_file all. cut false out (out ++ (codes ".0" ++ digits)) is_out is_file (at_window out (48 ∷ digits) (number_slashless (48 ∷ digits) all) ∙ of_zero (own_name out) digits);
  apart_names = λ p out file is_out is_file no_slash none other. whole false out file is_out is_file (other_names out file no_slash none other);
  apart_roots = λ p out file is_file rootless. (
    whole false (codes "/" ++ out) file refl is_file (other_roots (codes "/" ++ out) file refl rootless).0,
    whole false file (codes "/" ++ out) is_file refl (other_roots (codes "/" ++ out) file refl rootless).1,
  );
  apart_directories = λ p a b x y is_out is_file first second other. whole false (a ++ (codes "/" ++ x)) (b ++ (codes "/" ++ y)) is_out is_file (other_directories a b x y first second other);
  others = λ words none. ⊎_elim (λ e. e) (λ f. absurd (none f.0 f.1 f.2 f.3)) (reads words);
}

-- ---- what is kept

nothing_kept : (Makes Fills : List ℕ → Option (List ℕ) → Type 0) (k : Heard) (cuts : List Cut) (j : Judgement) → IsFilled Makes Fills Nowhere k j cuts → cuts ≡ []
nothing_kept Makes Fills k cuts (Legal steps) filled = filled
nothing_kept Makes Fills k cuts (Illegal at why possible steps) filled = filled.1
nothing_kept Makes Fills k cuts (Undecided at) filled = filled.1

in_reverse : {X : Type 0} (xs : List X) (x : X) → Contains xs x → Contains (reverse xs) x
in_reverse [] x (k, few, is) = absurd (omega (arith, few))
in_reverse {X} (y ∷ xs) x (zero, few, is) =
    let same : y ≡ x = is in
    subst (λ (zs : List X). Contains zs x) (sym (reverse-append (y ∷ []) xs)) (subst (λ (z : X). Contains (reverse xs ++ z ∷ []) x) (sym same) (Contains-push (reverse xs) x))
in_reverse {X} (y ∷ xs) x (suc k, few, is) =
    subst (λ (zs : List X). Contains zs x) (sym (reverse-append (y ∷ []) xs)) (Contains-append_left (reverse xs) (y ∷ []) x (in_reverse xs x (k, omega (arith, few), is)))

abbrev IsIn : (List ℕ → Option (List ℕ) → Type 0) → (List ℕ → Option (List ℕ) → Type 0) → List ℕ → Head → List Entry → Cut → Type 0
IsIn Makes Fills out h steps c = (w : Window) × IsWindow h steps w × IsWritten Makes Fills (out ++ (codes "." ++ decimal c.number)) w.text.items × (c.before ≡ steps_count (take w.from steps)) × (c.last ≡ steps_count (take w.to steps))

each_kept : (Makes Fills : List ℕ → Option (List ℕ) → Type 0) (out : List ℕ) (h : Head) (steps : List Entry) (to : ℕ) (cs : List Cut) (c : Cut) → AreKept Makes Fills out h steps to cs → Contains cs c → IsIn Makes Fills out h steps c
each_kept Makes Fills out h steps to [] c kept (k, few, is) = absurd (omega (arith, few))
each_kept Makes Fills out h steps to (d ∷ cs) c kept (zero, few, is) =
    let of = kept.3 in
    let same : d ≡ c = is in
    subst (IsIn Makes Fills out h steps) same (kept.0, of.window, of.written, of.cut.before, of.cut.last)
each_kept Makes Fills out h steps to (d ∷ cs) c kept (suc k, few, is) = each_kept Makes Fills out h steps kept.0.from cs c kept.4 (k, omega (arith, few), is)

kept_by : (Makes Fills : List ℕ → Option (List ℕ) → Type 0) (k : Heard) (cuts : List Cut) → OptionsAreKept Makes Fills k cuts
kept_by Makes Fills k cuts = record {
  nothing = nothing_kept Makes Fills k cuts;
  trace = λ out steps filled. filled;
  illegal = λ out at why possible steps filled. filled;
  windows = λ out steps c filled has. each_kept Makes Fills out k.head steps.items (length steps.items) (reverse cuts) c filled (in_reverse cuts c has);
}

pub options_write : (Makes Fills : List ℕ → Option (List ℕ) → Type 0) → OptionsWrite Makes Fills
options_write Makes Fills = record { kept = kept_by Makes Fills }

-- ---- windows join

pushed : (n from mid to : ℕ) (cs : List Cut) (c : Cut) → AreJoined n from cs mid → c.number ≡ n + length cs → c.before ≡ mid → c.last ≡ to → AreJoined n from (cs ++ c ∷ []) to
pushed n from mid to [] c joined number before last = (omega (arith, number), before ∙ sym joined, last)
pushed n from mid to (d ∷ cs) c joined number before last = (joined.0, joined.1, pushed (n + 1) d.last mid to cs c joined.2 (omega (arith, number)) before last)

count_at : (steps : List Entry) (from to : ℕ) → from ≡ to → steps_count (take from steps) ≡ steps_count (take to steps)
count_at steps from to is = ap (λ (n : ℕ). steps_count (take n steps)) is

pub joined_to : (Makes Fills : List ℕ → Option (List ℕ) → Type 0) (out : List ℕ) (h : Head) (steps : List Entry) (to : ℕ) (cs : List Cut) → AreKept Makes Fills out h steps to cs → AreJoined 1 0 (reverse cs) (steps_count (take to steps))
joined_to Makes Fills out h steps to [] kept = sym (count_at steps to 0 kept)
joined_to Makes Fills out h steps to (c ∷ cs) kept =
    let w : Window = kept.0 in
    let of = kept.3 in
    subst (λ (ds : List Cut). AreJoined 1 0 ds (steps_count (take to steps))) (sym (reverse-append (c ∷ []) cs))
    (pushed 1 0 (steps_count (take w.from steps)) (steps_count (take to steps)) (reverse cs) c (joined_to Makes Fills out h steps w.from cs kept.4) (let number : c.number ≡ length cs + 1 = kept.2 in omega (arith, number, length-reverse cs)) of.cut.before (of.cut.last ∙ count_at steps w.to to kept.1))

pub joined_whole : (Makes Fills : List ℕ → Option (List ℕ) → Type 0) (out : List ℕ) (h : Head) (steps : List Entry) (cuts : List Cut) → IsKept Makes Fills (Windows out) h steps cuts → AreJoined 1 0 cuts (steps_count steps)
joined_whole Makes Fills out h steps cuts kept =
    subst (λ (ds : List Cut). AreJoined 1 0 ds (steps_count steps)) (reverse-reverse cuts)
    (subst (λ (all : List Entry). AreJoined 1 0 (reverse (reverse cuts)) (steps_count all)) (take_all (length steps) steps (omega arith)) (joined_to Makes Fills out h steps (length steps) (reverse cuts) kept))
