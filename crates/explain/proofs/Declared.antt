-- The names that lines declare, one after the other, and the words that name what isn't declared.
use Rattle.std.proofs.Common.{◌≡◌, ℕ, ◌+◌, ◌-◌, ◌<◌, ◌≤◌, Bool, true, false, List, [], ◌∷◌, ◌++◌, length, take, drop, get_or, Option, Some, None, MatchOption, Result, if◌then◌else◌, sym, ap, subst, ◌∙◌, arith, append_assoc, append-nil}
use Rattle.std.specs.Prelude.{codes, IfOk}
use Rattle.std.specs.Str.{bytes_eq}
use Rattle.std.proofs.lemmas.List.{at_drop_more, take_all}
use Rattle.lines.specs.Lines.{words_of}
use Rattle.explain.specs.declared.explanation.Advice.{Advice}
use Rattle.explain.specs.declared.explanation.Things.{Things}
use Rattle.explain.specs.Advised.{IsNameAdvice, IsUndeclared, first_declared, first_earlier, first_undeclared, is_undeclared, listed, names_in, single_name, twice, word_at}
use Rattle.explain.specs.Roles.{uses_of}
use Rattle.explain.specs.Sought.{count_of, declares, is_clashing}
use Rattle.explain.specs.Stray.{word_of}
use Rattle.explain.proofs.Earlier.{taken}
use Rattle.explain.proofs.Titles.{if_ok_weaker}

-- ---- the names

-- a line's name comes before those of the lines after it
step : (things : Things) (before n : ℕ) (t : List ℕ) (ls ts : List (List ℕ)) → n < before → ls ≡ t ∷ ts
    → names_in things (take (before - n) ls) ≡ listed (single_name things t) ++ names_in things (take (before - (n + 1)) ts)
step things before n t ls ts lt e = ap (λ l. names_in things (take (before - n) l)) e ∙ ap (names_in things) (taken before n (before - (n + 1)) (t ∷ ts) (omega (arith, lt)))

pub one_more : (things : Things) (before n : ℕ) (t : List ℕ) (ls ts : List (List ℕ)) (kept more total : List (List ℕ))
    → n < before → ls ≡ t ∷ ts → more ≡ kept ++ listed (single_name things t)
    → kept ++ names_in things (take (before - n) ls) ≡ total
    → more ++ names_in things (take (before - (n + 1)) ts) ≡ total
one_more things before n t ls ts kept more total lt e is so_far =
    ap (λ k. k ++ names_in things (take (before - (n + 1)) ts)) is ∙ append_assoc kept (listed (single_name things t)) (names_in things (take (before - (n + 1)) ts))
    ∙ sym (ap (λ r. kept ++ r) (step things before n t ls ts lt e)) ∙ so_far

-- the last line of the file
pub last_of_all : (things : Things) (before n : ℕ) (t : List ℕ) (ls : List (List ℕ)) (kept more total : List (List ℕ))
    → n < before → ls ≡ t ∷ [] → more ≡ kept ++ listed (single_name things t)
    → kept ++ names_in things (take (before - n) ls) ≡ total → more ≡ total
last_of_all things before n t ls kept more total lt e is so_far =
    let none : names_in things (take (before - (n + 1)) []) ≡ [] = ap (names_in things) (take_all (before - (n + 1)) [] (omega arith)) in
    sym (append-nil more) ∙ sym (ap (λ r. more ++ r) none) ∙ one_more things before n t ls [] kept more total lt e is so_far

-- none is left
pub no_more : (things : Things) (before n : ℕ) (ls kept total : List (List ℕ)) → before ≤ n
    → kept ++ names_in things (take (before - n) ls) ≡ total → kept ≡ total
no_more things before n ls kept total le so_far = let z : before - n ≡ 0 = omega (arith, le) in sym (append-nil kept) ∙ sym (ap (λ i. kept ++ names_in things (take i ls)) z) ∙ so_far

-- ---- the words

-- a word whose name is declared
pub other_use : (text : List ℕ) (n : ℕ) (us : List (Things × ℕ)) (i : ℕ) (d : Things × ℕ) (total : Option (Things × ℕ))
    → i < length us → is_undeclared text n (get_or us i d).0 (get_or us i d).1 ≡ false
    → first_undeclared text n (drop i us) ≡ total → first_undeclared text n (drop (i + 1) us) ≡ total
other_use text n us i d total lt other so_far =
    sym (ap (λ (b : Bool). if b then Some (get_or us i d) else first_undeclared text n (drop (i + 1) us)) other) ∙ sym (at_drop_more (first_undeclared text n) us i d lt) ∙ so_far

-- the first whose name isn't
pub this_use : (text : List ℕ) (n : ℕ) (us : List (Things × ℕ)) (i : ℕ) (d : Things × ℕ) (total : Option (Things × ℕ))
    → i < length us → is_undeclared text n (get_or us i d).0 (get_or us i d).1 ≡ true
    → first_undeclared text n (drop i us) ≡ total → total ≡ Some (get_or us i d)
this_use text n us i d total lt here so_far =
    sym so_far ∙ at_drop_more (first_undeclared text n) us i d lt ∙ ap (λ (b : Bool). if b then Some (get_or us i d) else first_undeclared text n (drop (i + 1) us)) here

-- ---- a name that is declared already

pub of_several : (text : List ℕ) (n : ℕ) (ws : List (List ℕ)) (things : Things) (o : Option ℕ)
    → bytes_eq (word_of ws 0) (codes "mutexes") ≡ true
    → o ≡ first_earlier text n (λ t. is_clashing (words_of t) (word_of ws 1) (count_of (word_of ws 2)))
    → o ≡ first_declared text n ws things
of_several text n ws things o is e =
    e ∙ sym (ap (λ (b : Bool). if b then first_earlier text n (λ t. is_clashing (words_of t) (word_of ws 1) (count_of (word_of ws 2))) else first_earlier text n (λ t. declares (words_of t) things (word_of ws 1))) is)

pub of_one : (text : List ℕ) (n : ℕ) (ws : List (List ℕ)) (things : Things) (o : Option ℕ)
    → bytes_eq (word_of ws 0) (codes "mutexes") ≡ false
    → o ≡ first_earlier text n (λ t. declares (words_of t) things (word_of ws 1))
    → o ≡ first_declared text n ws things
of_one text n ws things o is e =
    e ∙ sym (ap (λ (b : Bool). if b then first_earlier text n (λ t. is_clashing (words_of t) (word_of ws 1) (count_of (word_of ws 2))) else first_earlier text n (λ t. declares (words_of t) things (word_of ws 1))) is)

-- ---- what is said

-- these words name one that isn't declared
pub tells_undeclared : {E : Type 0} (text : List ℕ) (n : ℕ) (us : List (Things × ℕ)) (u : Things × ℕ) (r : Result Advice E)
    → us ≡ uses_of (word_at text n 0) (word_at text n 2) → first_undeclared text n us ≡ Some u
    → IfOk r (IsUndeclared text n u.0 u.1) → IfOk r (IsNameAdvice text n)
tells_undeclared text n us u r is e h =
    let found = sym (ap (first_undeclared text n) is) ∙ e in
    if_ok_weaker r (IsUndeclared text n u.0 u.1) (IsNameAdvice text n) (λ a told. subst (λ o. MatchOption o (a ≡ twice text n) (λ v. IsUndeclared text n v.0 v.1 a)) (sym found) told) h

-- or they don't
pub tells_twice : (text : List ℕ) (n : ℕ) (us : List (Things × ℕ)) (a : Advice)
    → us ≡ uses_of (word_at text n 0) (word_at text n 2) → first_undeclared text n us ≡ None → a ≡ twice text n
    → IsNameAdvice text n a
tells_twice text n us a is e told =
    let found = sym (ap (first_undeclared text n) is) ∙ e in
    subst (λ o. MatchOption o (a ≡ twice text n) (λ v. IsUndeclared text n v.0 v.1 a)) (sym found) told
