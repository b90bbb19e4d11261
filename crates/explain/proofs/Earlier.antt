-- Lines before another one, one after the other, and backwards.
use Rattle.std.proofs.Common.{◌≡◌, ℕ, suc, ◌+◌, ◌-◌, ◌<◌, ◌≤◌, Bool, true, false, List, [], ◌∷◌, length, get_or, take, reverse, Option, Some, None, if◌then◌else◌, sym, ap, ◌∙◌, arith, add-one}
use Rattle.std.proofs.lemmas.List.{reverse-append, take_all, take_more, length-reverse, length-take-le}
use Rattle.facts.specs.declared.fact.Line.{Line}
use Rattle.explain.specs.Sought.{first_line}
use Rattle.explain.specs.Origins.{newest_line}

-- ---- the first before a line

pub taken : (before n k : ℕ) (ts : List (List ℕ)) → before - n ≡ k + 1 → take (before - n) ts ≡ take (suc k) ts
taken before n k ts e = ap (λ i. take i ts) (e ∙ add-one k)

-- a line that isn't the one
pub not_this : (p : List ℕ → Bool) (before n : ℕ) (t : List ℕ) (ls ts : List (List ℕ)) → n < before → ls ≡ t ∷ ts → p t ≡ false → first_line p n (take (before - n) ls) ≡ first_line p (n + 1) (take (before - (n + 1)) ts)
not_this p before n t ls ts lt e other =
    ap (λ l. first_line p n (take (before - n) l)) e ∙ ap (first_line p n) (taken before n (before - (n + 1)) (t ∷ ts) (omega (arith, lt))) ∙ ap (λ (b : Bool). if b then Some n else first_line p (n + 1) (take (before - (n + 1)) ts)) other

-- the one
pub this_one : (p : List ℕ → Bool) (before n : ℕ) (t : List ℕ) (ls ts : List (List ℕ)) → n < before → ls ≡ t ∷ ts → p t ≡ true → first_line p n (take (before - n) ls) ≡ Some n
this_one p before n t ls ts lt e here =
    ap (λ l. first_line p n (take (before - n) l)) e ∙ ap (first_line p n) (taken before n (before - (n + 1)) (t ∷ ts) (omega (arith, lt))) ∙ ap (λ (b : Bool). if b then Some n else first_line p (n + 1) (take (before - (n + 1)) ts)) here

-- the last line of the file
pub last_one : (p : List ℕ → Bool) (before n : ℕ) (t : List ℕ) (ls : List (List ℕ)) → n < before → ls ≡ t ∷ [] → first_line p n (take (before - n) ls) ≡ first_line p n (t ∷ [])
last_one p before n t ls lt e = ap (λ l. first_line p n (take (before - n) l)) e ∙ ap (first_line p n) (take_all (before - n) (t ∷ []) (omega (arith, lt)))

-- none is left
pub none_left : (p : List ℕ → Bool) (before n : ℕ) (ls : List (List ℕ)) → before ≤ n → first_line p n (take (before - n) ls) ≡ None
none_left p before n ls le = let z : before - n ≡ 0 = omega (arith, le) in ap (λ i. first_line p n (take i ls)) z

-- ---- the newest before a line

pub one_newer : (es : List Line) (i : ℕ) (d : Line) → i < length es → reverse (take (i + 1) es) ≡ get_or es i d ∷ reverse (take i es)
one_newer es i d lt = ap reverse (take_more es i d lt) ∙ reverse-append (take i es) (get_or es i d ∷ [])

pub length_so_far : (es : List Line) (i : ℕ) → i ≤ length es → length (reverse (take i es)) ≡ i
length_so_far es i le = omega (arith, length-reverse (take i es), length-take-le i es le)

pub newer : (p : Line → Bool) (es : List Line) (i : ℕ) (d : Line) (found next : Option ℕ) (b : Bool) → i < length es → found ≡ newest_line p (reverse (take i es)) → b ≡ p (get_or es i d) → next ≡ (if b then Some (i + 2) else found) → next ≡ newest_line p (reverse (take (i + 1) es))
newer p es i d found next b lt h is e =
    e ∙ ap (λ (t : Bool). if t then Some (i + 2) else found) is ∙ ap (λ (o : Option ℕ). if p (get_or es i d) then Some (i + 2) else o) h
    ∙ ap (λ (n : ℕ). if p (get_or es i d) then Some (n + 2) else newest_line p (reverse (take i es))) (sym (length_so_far es i (omega (arith, lt))))
    ∙ sym (ap (newest_line p) (one_newer es i d lt))

pub newer_this : (p : Line → Bool) (es : List Line) (i : ℕ) (d : Line) (found next : Option ℕ) (b : Bool) → i < length es → found ≡ newest_line p (reverse (take i es)) → b ≡ p (get_or es i d) → b ≡ true → next ≡ Some (i + 2) → next ≡ newest_line p (reverse (take (i + 1) es))
newer_this p es i d found next b lt h is here e = newer p es i d found next b lt h is (e ∙ sym (ap (λ (t : Bool). if t then Some (i + 2) else found) here))

pub newer_other : (p : Line → Bool) (es : List Line) (i : ℕ) (d : Line) (found next : Option ℕ) (b : Bool) → i < length es → found ≡ newest_line p (reverse (take i es)) → b ≡ p (get_or es i d) → b ≡ false → next ≡ found → next ≡ newest_line p (reverse (take (i + 1) es))
newer_other p es i d found next b lt h is other e = newer p es i d found next b lt h is (e ∙ sym (ap (λ (t : Bool). if t then Some (i + 2) else found) other))

pub newest_all : (p : Line → Bool) (es : List Line) (i : ℕ) (found : Option ℕ) → length es ≤ i → found ≡ newest_line p (reverse (take i es)) → found ≡ newest_line p (reverse es)
newest_all p es i found le h = h ∙ ap (λ l. newest_line p (reverse l)) (take_all i es le)
