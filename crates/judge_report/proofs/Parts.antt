-- Names of files that are alike, part by part.
use Rattle.std.proofs.Common.{◌≡◌, ◌≢◌, ℕ, ◌+◌, ◌<◌, ◌==◌, ◌&&◌, Bool, true, false, List, [], ◌∷◌, ◌++◌, length, refl, sym, ap, ◌∙◌, arith, if◌then◌else◌}
use Rattle.std.specs.Prelude.{codes, not}
use Rattle.std.specs.Char.{is_ascii_digit}
use Rattle.std.specs.List.{count_by, list_all, onto_first}
use Rattle.std.specs.Str.{bytes_eq}
use Rattle.std.proofs.lemmas.Bool.Decides.{nat_tests}
use Rattle.std.proofs.lemmas.List.Splits.{length-slice_split, slice_split-cons_no, slice_split-cons_yes}
use Rattle.std.proofs.lemmas.Slice.Eq.{bytes_eq-Decides}
use Rattle.streams.specs.Words.{is_file_word}
use Rattle.judge_report.specs.Asked.{is_window, is_window_at}
use Rattle.judge_report.specs.Laws.{IsDirectory, has_no_slash}
use Rattle.judge_report.specs.Paths.{are_same, both_or_none, directory_in, directory_of, in_one_directory, is_from_root, leads, name_one_file, own_in, own_name, parts_of, with_part}

abbrev is_slash : ℕ → Bool
is_slash b = b == 47

-- ---- parts

some : (name : List ℕ) → 0 < length (parts_of name)
some name = let many = length-slice_split is_slash name in omega (arith, many)

onto-append : (x : ℕ) (a b : List (List ℕ)) → 0 < length a → onto_first x (a ++ b) ≡ onto_first x a ++ b
onto-append x [] b has = absurd (omega (arith, has))
onto-append x (p ∷ a) b has = refl

-- a slash joins the parts before it and those after it
split_join : (xs ys : List ℕ) → parts_of (xs ++ 47 ∷ ys) ≡ parts_of xs ++ parts_of ys
split_join [] ys = refl
split_join (x ∷ xs) ys = go (x == 47) refl (split_join xs ys)
  where
    go : (b : Bool) → (x == 47) ≡ b → parts_of (xs ++ 47 ∷ ys) ≡ parts_of xs ++ parts_of ys → parts_of (x ∷ (xs ++ 47 ∷ ys)) ≡ parts_of (x ∷ xs) ++ parts_of ys
    go true is so = slice_split-cons_yes is_slash x (xs ++ 47 ∷ ys) is ∙ ap (λ (l : List (List ℕ)). [] ∷ l) so ∙ ap (λ (l : List (List ℕ)). l ++ parts_of ys) (sym (slice_split-cons_yes is_slash x xs is))
    go false is so =
        slice_split-cons_no is_slash x (xs ++ 47 ∷ ys) is ∙ ap (onto_first x) so ∙ onto-append x (parts_of xs) (parts_of ys) (some xs)
        ∙ ap (λ (l : List (List ℕ)). l ++ parts_of ys) (sym (slice_split-cons_no is_slash x xs is))

-- ---- directories and own names

directory_cons : (p : List ℕ) (ps : List (List ℕ)) → 0 < length ps → directory_in (p ∷ ps) ≡ with_part p (directory_in ps)
directory_cons p [] has = absurd (omega (arith, has))
directory_cons p (q ∷ ps) has = refl

own_cons : (p : List ℕ) (ps : List (List ℕ)) → 0 < length ps → own_in (p ∷ ps) ≡ own_in ps
own_cons p [] has = absurd (omega (arith, has))
own_cons p (q ∷ ps) has = refl

-- those parts that lead to other directories
abbrev leading : List (List ℕ) → List (List ℕ)
leading [] = []
leading (p ∷ ps) = with_part p (leading ps)

with-append : (p : List ℕ) (a b : List (List ℕ)) → with_part p (a ++ b) ≡ with_part p a ++ b
with-append p a b = go (leads p)
  where
    go : (l : Bool) → (if l then p ∷ (a ++ b) else a ++ b) ≡ (if l then p ∷ a else a) ++ b
    go true = refl
    go false = refl

longer : (a b : List (List ℕ)) → 0 < length b → 0 < length (a ++ b)
longer [] b has = has
longer (p ∷ a) b has = omega arith

directory_join : (a b : List (List ℕ)) → 0 < length b → directory_in (a ++ b) ≡ leading a ++ directory_in b
directory_join [] b has = refl
directory_join (p ∷ a) b has = directory_cons p (a ++ b) (longer a b has) ∙ ap (with_part p) (directory_join a b has) ∙ with-append p (leading a) (directory_in b)

own_join : (a b : List (List ℕ)) → 0 < length b → own_in (a ++ b) ≡ own_in b
own_join [] b has = refl
own_join (p ∷ a) b has = own_cons p (a ++ b) (longer a b has) ∙ own_join a b has

directory_at : (front rest : List ℕ) → directory_of (front ++ 47 ∷ rest) ≡ leading (parts_of front) ++ directory_of rest
directory_at front rest = ap directory_in (split_join front rest) ∙ directory_join (parts_of front) (parts_of rest) (some rest)

own_at : (front rest : List ℕ) → own_name (front ++ 47 ∷ rest) ≡ own_name rest
own_at front rest = ap own_in (split_join front rest) ∙ own_join (parts_of front) (parts_of rest) (some rest)

root_at : (front a b : List ℕ) → is_from_root (front ++ 47 ∷ a) ≡ is_from_root (front ++ 47 ∷ b)
root_at [] a b = refl
root_at (x ∷ front) a b = refl

-- ---- names of one file

same_itself : (ps : List (List ℕ)) → are_same ps ps ≡ true
same_itself [] = refl
same_itself (p ∷ ps) = ap (λ (b : Bool). b && are_same ps ps) ((bytes_eq-Decides p p).1 refl) ∙ same_itself ps

both_itself : (b : Bool) → both_or_none b b ≡ true
both_itself true = refl
both_itself false = refl

directory_itself : (a b : List ℕ) → is_from_root a ≡ is_from_root b → directory_of a ≡ directory_of b → in_one_directory a b ≡ true
directory_itself a b root directory =
    ap (λ (r : Bool). both_or_none (is_from_root a) r && are_same (directory_of a) (directory_of b)) (sym root)
    ∙ ap (λ (t : Bool). t && are_same (directory_of a) (directory_of b)) (both_itself (is_from_root a))
    ∙ ap (λ (ps : List (List ℕ)). are_same (directory_of a) ps) (sym directory) ∙ same_itself (directory_of a)

one_file : (a b : List ℕ) → is_from_root a ≡ is_from_root b → directory_of a ≡ directory_of b → own_name a ≡ own_name b → name_one_file a b ≡ true
one_file a b root directory own = ap (λ (t : Bool). t && bytes_eq (own_name a) (own_name b)) (directory_itself a b root directory) ∙ (bytes_eq-Decides (own_name a) (own_name b)).1 own

pub one_file_itself : (file : List ℕ) → name_one_file file file ≡ true
one_file_itself file = one_file file file refl refl refl

here_directory : (file : List ℕ) → directory_of (codes "./" ++ file) ≡ directory_of file
here_directory file = directory_cons (codes ".") (parts_of file) (some file)

here_own : (file : List ℕ) → own_name (codes "./" ++ file) ≡ own_name file
here_own file = own_cons (codes ".") (parts_of file) (some file)

pub one_file_here : (file : List ℕ) → is_from_root file ≡ false → (name_one_file (codes "./" ++ file) file ≡ true) × (name_one_file file (codes "./" ++ file) ≡ true)
one_file_here file rootless = (
  one_file (codes "./" ++ file) file (sym rootless) (here_directory file) (here_own file),
  one_file file (codes "./" ++ file) rootless (sym (here_directory file)) (sym (here_own file)),
)

pub one_file_twice : (front back : List ℕ) → name_one_file (front ++ (codes "//" ++ back)) (front ++ (codes "/" ++ back)) ≡ true
one_file_twice front back =
    one_file (front ++ (codes "//" ++ back)) (front ++ (codes "/" ++ back)) (root_at front (47 ∷ back) back)
    (directory_at front (47 ∷ back) ∙ ap (λ (ps : List (List ℕ)). leading (parts_of front) ++ ps) (directory_cons [] (parts_of back) (some back)) ∙ sym (directory_at front back))
    (own_at front (47 ∷ back) ∙ own_cons [] (parts_of back) (some back) ∙ sym (own_at front back))

pub one_file_dotted : (front back : List ℕ) → name_one_file (front ++ (codes "/./" ++ back)) (front ++ (codes "/" ++ back)) ≡ true
one_file_dotted front back =
    one_file (front ++ (codes "/./" ++ back)) (front ++ (codes "/" ++ back)) (root_at front (codes "./" ++ back) back)
    (directory_at front (codes "./" ++ back) ∙ ap (λ (ps : List (List ℕ)). leading (parts_of front) ++ ps) (here_directory back) ∙ sym (directory_at front back))
    (own_at front (codes "./" ++ back) ∙ here_own back ∙ sym (own_at front back))

-- and both are names of files
pub still_file : (front more back : List ℕ) → is_file_word (front ++ (codes "/" ++ back)) ≡ true → is_file_word (front ++ (codes "/" ++ more)) ≡ true
still_file [] more back is = refl
still_file (x ∷ front) more back is = is

-- ---- a window's name

no_slash : (b : ℕ) → is_ascii_digit b ≡ true → (b == 47) ≡ false
no_slash b e = go (b == 47) refl
  where
    go : (t : Bool) → (b == 47) ≡ t → t ≡ false
    go false is = refl
    go true is =
        let same : b ≡ 47 = grind (arith, nat_tests) in
        let no : false ≡ true = ap is_ascii_digit (sym same) ∙ e in
        absurd cc

first_so : (a d : Bool) → (a && d) ≡ true → a ≡ true
first_so true d h = refl
first_so false d h = absurd cc

second_so : (a d : Bool) → (a && d) ≡ true → d ≡ true
second_so true d h = h
second_so false d h = absurd cc

digits_alone : (w : List ℕ) → list_all is_ascii_digit w ≡ true → parts_of w ≡ w ∷ []
digits_alone [] e = refl
digits_alone (b ∷ bs) e =
    slice_split-cons_no is_slash b bs (no_slash b (first_so (is_ascii_digit b) (list_all is_ascii_digit bs) e)) ∙ ap (onto_first b) (digits_alone bs (second_so (is_ascii_digit b) (list_all is_ascii_digit bs) e))

pub number_slashless : (w : List ℕ) → list_all is_ascii_digit w ≡ true → parts_of (46 ∷ w) ≡ (46 ∷ w) ∷ []
number_slashless w e = ap (onto_first 46) (digits_alone w e)

abbrev to_last : List (List ℕ) → List ℕ → List (List ℕ)
to_last [] w = w ∷ []
to_last (p ∷ []) w = (p ++ w) ∷ []
to_last (p ∷ q ∷ ps) w = p ∷ to_last (q ∷ ps) w

to_last_cons : (p : List ℕ) (ps : List (List ℕ)) (w : List ℕ) → 0 < length ps → p ∷ to_last ps w ≡ to_last (p ∷ ps) w
to_last_cons p [] w has = absurd (omega (arith, has))
to_last_cons p (q ∷ ps) w has = refl

onto_last : (x : ℕ) (ps : List (List ℕ)) (w : List ℕ) → 0 < length ps → onto_first x (to_last ps w) ≡ to_last (onto_first x ps) w
onto_last x [] w has = absurd (omega (arith, has))
onto_last x (p ∷ []) w has = refl
onto_last x (p ∷ q ∷ ps) w has = refl

split_more : (name w : List ℕ) → parts_of w ≡ w ∷ [] → parts_of (name ++ w) ≡ to_last (parts_of name) w
split_more [] w alone = alone
split_more (x ∷ name) w alone = go (x == 47) refl (split_more name w alone)
  where
    go : (b : Bool) → (x == 47) ≡ b → parts_of (name ++ w) ≡ to_last (parts_of name) w → parts_of (x ∷ (name ++ w)) ≡ to_last (parts_of (x ∷ name)) w
    go true is so =
        slice_split-cons_yes is_slash x (name ++ w) is ∙ ap (λ (l : List (List ℕ)). [] ∷ l) so ∙ to_last_cons [] (parts_of name) w (some name)
        ∙ ap (λ (l : List (List ℕ)). to_last l w) (sym (slice_split-cons_yes is_slash x name is))
    go false is so =
        slice_split-cons_no is_slash x (name ++ w) is ∙ ap (onto_first x) so ∙ onto_last x (parts_of name) w (some name)
        ∙ ap (λ (l : List (List ℕ)). to_last l w) (sym (slice_split-cons_no is_slash x name is))

directory_last : (ps : List (List ℕ)) (w : List ℕ) → directory_in (to_last ps w) ≡ directory_in ps
directory_last [] w = refl
directory_last (p ∷ []) w = refl
directory_last (p ∷ q ∷ []) w = refl
directory_last (p ∷ q ∷ r ∷ ps) w = ap (with_part p) (directory_last (q ∷ r ∷ ps) w)

own_last : (ps : List (List ℕ)) (w : List ℕ) → own_in (to_last ps w) ≡ own_in ps ++ w
own_last [] w = refl
own_last (p ∷ []) w = refl
own_last (p ∷ q ∷ []) w = refl
own_last (p ∷ q ∷ r ∷ ps) w = own_last (q ∷ r ∷ ps) w

root_more : (name w : List ℕ) → is_from_root name ≡ is_from_root (name ++ 46 ∷ w)
root_more [] w = refl
root_more (x ∷ name) w = refl

-- a name with a point and a number after it is in the same directory, and names a window
pub at_window : (out w : List ℕ) → parts_of (46 ∷ w) ≡ (46 ∷ w) ∷ [] → is_window_at out (out ++ 46 ∷ w) ≡ is_window (own_name out) (own_name out ++ 46 ∷ w)
at_window out w alone =
    let parts = split_more out (46 ∷ w) alone in
    ap (λ (t : Bool). t && is_window (own_name out) (own_name (out ++ 46 ∷ w))) (directory_itself out (out ++ 46 ∷ w) (root_more out w) (sym (ap directory_in parts ∙ directory_last (parts_of out) (46 ∷ w))))
    ∙ ap (is_window (own_name out)) (ap own_in parts ∙ own_last (parts_of out) (46 ∷ w))

-- ---- names of two files

not_so : (t : Bool) → not t ≡ true → t ≡ false
not_so false e = refl
not_so true e = absurd cc

slashless_alone : (w : List ℕ) → has_no_slash w ≡ true → parts_of w ≡ w ∷ []
slashless_alone [] e = refl
slashless_alone (b ∷ bs) e =
    slice_split-cons_no is_slash b bs (not_so (b == 47) (first_so (not (b == 47)) (has_no_slash bs) e)) ∙ ap (onto_first b) (slashless_alone bs (second_so (not (b == 47)) (has_no_slash bs) e))

other_bytes : (a b : List ℕ) → a ≢ b → bytes_eq a b ≡ false
other_bytes a b other = go (bytes_eq a b) refl
  where
    go : (t : Bool) → bytes_eq a b ≡ t → t ≡ false
    go true is = absurd (other ((bytes_eq-Decides a b).0 is))
    go false is = refl

never_both : (t : Bool) → (t && false) ≡ false
never_both true = refl
never_both false = refl

pub other_names : (a b : List ℕ) → has_no_slash a ≡ true → has_no_slash b ≡ true → a ≢ b → name_one_file a b ≡ false
other_names a b no_slash none other =
    ap (λ (x : List ℕ). in_one_directory a b && bytes_eq x (own_name b)) (ap own_in (slashless_alone a no_slash))
    ∙ ap (λ (y : List ℕ). in_one_directory a b && bytes_eq a y) (ap own_in (slashless_alone b none))
    ∙ ap (λ (t : Bool). in_one_directory a b && t) (other_bytes a b other) ∙ never_both (in_one_directory a b)

pub other_roots : (a b : List ℕ) → is_from_root a ≡ true → is_from_root b ≡ false → (name_one_file a b ≡ false) × (name_one_file b a ≡ false)
other_roots a b root none = (
  ap (λ (r : Bool). (both_or_none r (is_from_root b) && are_same (directory_of a) (directory_of b)) && bytes_eq (own_name a) (own_name b)) root
      ∙ ap (λ (r : Bool). (both_or_none true r && are_same (directory_of a) (directory_of b)) && bytes_eq (own_name a) (own_name b)) none,
  ap (λ (r : Bool). (both_or_none r (is_from_root a) && are_same (directory_of b) (directory_of a)) && bytes_eq (own_name b) (own_name a)) none
      ∙ ap (λ (r : Bool). (both_or_none false r && are_same (directory_of b) (directory_of a)) && bytes_eq (own_name b) (own_name a)) root,
)

leads_so : (a : List ℕ) → a ≢ [] → a ≢ codes "." → leads a ≡ true
leads_so [] some other = absurd (some refl)
leads_so (b ∷ []) some other = go (b == 46) refl
  where
    go : (t : Bool) → (b == 46) ≡ t → not t ≡ true
    go true is = absurd (other (ap (λ (x : ℕ). x ∷ []) (let same : b ≡ 46 = grind (arith, nat_tests) in same)))
    go false is = refl
leads_so (b ∷ c ∷ bs) some other = refl

in_directory : (a x : List ℕ) → IsDirectory a → directory_of (a ++ 47 ∷ x) ≡ a ∷ directory_of x
in_directory a x is =
    directory_at a x ∙ ap (λ (ps : List (List ℕ)). leading ps ++ directory_of x) (slashless_alone a is.slashless)
    ∙ ap (λ (b : Bool). (if b then a ∷ [] else []) ++ directory_of x) (leads_so a is.some is.other)

pub other_directories : (a b x y : List ℕ) → IsDirectory a → IsDirectory b → a ≢ b → name_one_file (a ++ 47 ∷ x) (b ++ 47 ∷ y) ≡ false
other_directories a b x y first second other =
    let f = a ++ 47 ∷ x in
    let g = b ++ 47 ∷ y in
    let root = both_or_none (is_from_root f) (is_from_root g) in
    let own = bytes_eq (own_name f) (own_name g) in
    ap (λ (ps : List (List ℕ)). (root && are_same ps (directory_of g)) && own) (in_directory a x first)
    ∙ ap (λ (ps : List (List ℕ)). (root && are_same (a ∷ directory_of x) ps) && own) (in_directory b y second)
    ∙ ap (λ (t : Bool). (root && (t && are_same (directory_of x) (directory_of y))) && own) (other_bytes a b other)
    ∙ ap (λ (t : Bool). t && own) (never_both root)

-- ---- a step over a name

-- a part and a slash are in front
goes_on : (name part rest : List ℕ) → parts_of name ≡ part ∷ parts_of rest → directory_of name ≡ with_part part (directory_of rest)
goes_on name part rest is = ap directory_in is ∙ directory_cons part (parts_of rest) (some rest)

pub own_on : (name part rest : List ℕ) → parts_of name ≡ part ∷ parts_of rest → own_name name ≡ own_name rest
own_on name part rest is = ap own_in is ∙ own_cons part (parts_of rest) (some rest)

-- the part leads to another directory, or doesn't
pub leads_on : (name part rest : List ℕ) → parts_of name ≡ part ∷ parts_of rest → leads part ≡ true → directory_of name ≡ part ∷ directory_of rest
leads_on name part rest is so = goes_on name part rest is ∙ ap (λ (b : Bool). if b then part ∷ directory_of rest else directory_of rest) so

pub stays : (name part rest : List ℕ) → parts_of name ≡ part ∷ parts_of rest → leads part ≡ false → directory_of name ≡ directory_of rest
stays name part rest is so = goes_on name part rest is ∙ ap (λ (b : Bool). if b then part ∷ directory_of rest else directory_of rest) so

-- no slash is there
pub ends_directory : (name : List ℕ) → parts_of name ≡ name ∷ [] → directory_of name ≡ []
ends_directory name is = ap directory_in is

pub ends_own : (name : List ℕ) → parts_of name ≡ name ∷ [] → own_name name ≡ name
ends_own name is = ap own_in is
