-- A walk over words that nobody else changes does what it means to.
use Rattle.std.proofs.Common.{◌≡◌, ℕ, zero, suc, ◌+◌, ◌*◌, ◌-◌, ◌<◌, ◌≤◌, ◌==◌, Bool, true, false, List, [], ◌∷◌, ◌++◌, refl, sym, ap, ◌∙◌, subst, arith, eqb-true, eq-eqb}
use Rattle.std.specs.Prelude.{if◌then◌else◌, ◌||◌}
use Rattle.std.proofs.lemmas.Bool.{eqb-false}
use mathlib.Core.Path.{fun_ext}
use Rattle.stepprograms.specs.declared.access.Answer.TheVariants.{Value, Exchanged, Changed, Count, Fault}
use Rattle.exitwalk.specs.declared.row.Rest.{Rest}
use Rattle.exitwalk.specs.declared.row.Part.{Part}
use Rattle.exitwalk.specs.declared.row.Part.TheVariants as part
use Rattle.exitwalk.specs.declared.row.Row.{Row}
use Rattle.exitwalk.specs.declared.row.Row.TheVariants.{LoadFirst, LoadOffset, LoadPending, LoadNext, LoadWord, Mark, WakeOne, Ended}
use Rattle.exitwalk.specs.Words.{sum_of, owner_in, has_waiters, died_word, put}
use Rattle.exitwalk.specs.Walks.{marked_word, row_access, row_after, to_pending, forward, goes_on, further, looks, IsCounted, Knows}
use Rattle.exitwalk.specs.Meanings.{Effect, untouched, woken, woken_if, died_at, treated, pending_treated, reading, Head, at_last, entries}
use Rattle.exitwalk.specs.Runs.{Course, answer_of, effect_of, has_ended, step, run}
use Rattle.exitwalk.specs.Ranks.{part_left_alone, left_alone}
use Rattle.exitwalk.specs.Laws.{WalksAreRight}
use Rattle.exitwalk.proofs.Treatments.{marked_died}

-- a word written back is the word
same_word : (w : ℕ → ℕ) (a x : ℕ) (b : Bool) → (x == a) ≡ b → (if b then w a else w x) ≡ w x
same_word w a x true is = ap w (sym (eqb-true x a is))
same_word w a x false is = refl

same_words : (w : ℕ → ℕ) (a : ℕ) → put w a (w a) ≡ w
same_words w a = fun_ext (λ x. same_word w a x (x == a) refl)

-- who only looks changes nothing
looked : (s : Effect) (a : ℕ) → record { words = put s.words a (s.words a); wakes = s.wakes } ≡ s
looked s a = λ i. record { words = same_words s.words a i; wakes = s.wakes }

-- no entry is left
entries-zero : (valid : ℕ → Bool) (t : ℕ) (h : Head) (e : ℕ) (s : Effect) → entries valid t h 0 e s ≡ at_last valid t h s
unfolding entries
entries-zero valid t h e s = refl

-- an entry is left
entries-suc : (valid : ℕ → Bool) (t : ℕ) (h : Head) (n e : ℕ) (s : Effect) → entries valid t h (suc n) e s ≡ (if e == h.at then at_last valid t h s
    else reading valid e s (λ next. if e == h.pending then entries valid t h n next s else reading valid (sum_of e h.offset) s (λ v. entries valid t h n next (treated t (sum_of e h.offset) s))))
unfolding entries
entries-suc valid t h n e s = refl

-- back at the head
pub entries-home : (valid : ℕ → Bool) (t : ℕ) (h : Head) (n e : ℕ) (s : Effect) → (e == h.at) ≡ true → entries valid t h n e s ≡ at_last valid t h s
entries-home valid t h zero e s home = entries-zero valid t h e s
entries-home valid t h (suc n) e s home =
    entries-suc valid t h n e s
    ∙ ap (λ (b : Bool). if b then at_last valid t h s else reading valid e s (λ next. if e == h.pending then entries valid t h n next s else reading valid (sum_of e h.offset) s (λ v. entries valid t h n next (treated t (sum_of e h.offset) s)))) home

-- further on
pub entries-on : (valid : ℕ → Bool) (t : ℕ) (h : Head) (m n e : ℕ) (s : Effect) → m ≡ suc n → (e == h.at) ≡ false → entries valid t h m e s
    ≡ reading valid e s (λ next. if e == h.pending then entries valid t h n next s else reading valid (sum_of e h.offset) s (λ v. entries valid t h n next (treated t (sum_of e h.offset) s)))
entries-on valid t h m n e s one on =
    ap (λ (k : ℕ). entries valid t h k e s) one ∙ entries-suc valid t h n e s
    ∙ ap (λ (b : Bool). if b then at_last valid t h s else reading valid e s (λ next. if e == h.pending then entries valid t h n next s else reading valid (sum_of e h.offset) s (λ v. entries valid t h n next (treated t (sum_of e h.offset) s)))) on

abbrev head_of : ℕ → Rest → Head
head_of h r = record { at = h; offset = r.offset; pending = r.pending }

-- what a list's rest still means
abbrev list_means : (ℕ → Bool) → ℕ → ℕ → Rest → Effect → Effect
list_means valid t h r s = entries valid t (head_of h r) (2048 - r.loaded) r.entry s

abbrev part_means : (ℕ → Bool) → ℕ → ℕ → Part → Effect → Effect
part_means valid t h (part.List r) s = list_means valid t h r s
part_means valid t h part.Pending s = s

-- what the treatment of a word means
abbrev word_means : ℕ → Part → ℕ → Effect → Effect
word_means t (part.List r) a s = treated t a s
word_means t part.Pending a s = pending_treated t a s

-- what a walk means that knows the first entry; the offset too; and the pending entry
abbrev pub pending_means : (ℕ → Bool) → ℕ → ℕ → ℕ → ℕ → Effect → ℕ → Effect
pending_means valid t h first offset s pending = entries valid t (record { at = h; offset = offset; pending = pending }) 2048 first s

abbrev pub offset_means : (ℕ → Bool) → ℕ → ℕ → ℕ → Effect → ℕ → Effect
offset_means valid t h first s offset = reading valid (sum_of h 2) s (pending_means valid t h first offset s)

abbrev pub first_means : (ℕ → Bool) → ℕ → ℕ → Effect → ℕ → Effect
first_means valid t h s first = reading valid (sum_of h 1) s (offset_means valid t h first s)

-- what a walk that is there still means
abbrev row_means : (ℕ → Bool) → ℕ → ℕ → Row → Effect → Effect
row_means valid t h LoadFirst s = reading valid h s (first_means valid t h s)
row_means valid t h (LoadOffset first) s = reading valid (sum_of h 1) s (offset_means valid t h first s)
row_means valid t h (LoadPending first offset) s = reading valid (sum_of h 2) s (pending_means valid t h first offset s)
row_means valid t h (LoadNext r) s = list_means valid t h r s
row_means valid t h (LoadWord at p) s = reading valid at s (λ v. part_means valid t h p (word_means t p at s))
row_means valid t h (Mark at seen again p) s = part_means valid t h p (treated t at s)
row_means valid t h (WakeOne at p) s = part_means valid t h p (woken at s)
row_means valid t h Ended s = s

-- alone, a walk marks the word that it saw
abbrev Alone : (ℕ → Bool) → Row → Effect → Type 0
Alone valid (Mark at seen again p) s = (valid at ≡ true) × (s.words at ≡ seen)
Alone valid (WakeOne at p) s = valid at ≡ true
Alone valid r s = Unit {0}

-- a row that means the same as what was before, and is nearer to the end
record Fine (valid : ℕ → Bool) (t h : ℕ) (r : Row) (s total : Effect) (limit : ℕ) : Type 0 where
  pub means : row_means valid t h r s ≡ total
  pub alone : Alone valid r s
  pub knows : Knows t h r
  pub falls : left_alone s.words r < limit

-- a looser limit
loosen : (valid : ℕ → Bool) (t h : ℕ) (r : Row) (s total : Effect) (k m : ℕ) → k ≤ m → Fine valid t h r s total k → Fine valid t h r s total m
loosen valid t h r s total k m le f = let falls = f.falls in record { means = f.means; alone = f.alone; knows = f.knows; falls = omega arith }

-- the same meaning
retotal : (valid : ℕ → Bool) (t h : ℕ) (r : Row) (s x y : Effect) (k : ℕ) → x ≡ y → Fine valid t h r s x k → Fine valid t h r s y k
retotal valid t h r s x y k is f = record { means = f.means ∙ is; alone = f.alone; knows = f.knows; falls = f.falls }

module _ (valid : ℕ → Bool) (t h : ℕ) where
  -- the pending entry's turn
  lasts : (offset pending : ℕ) (s : Effect) → Fine valid t h (to_pending offset pending) s (at_last valid t (record { at = h; offset = offset; pending = pending }) s) 4
  lasts offset pending s = go (pending == 0)
    where
      go : (b : Bool) → Fine valid t h (if b then Ended else LoadWord (sum_of pending offset) part.Pending) s
          (if b then s else reading valid (sum_of pending offset) s (λ v. pending_treated t (sum_of pending offset) s)) 4
      go true = record { means = refl; alone = tt; knows = tt; falls = omega arith }
      go false = record { means = refl; alone = tt; knows = tt; falls = omega arith }

  -- on to the next entry, or to the pending one
  forwards : (r : Rest) (s : Effect) → r.loaded ≤ 2048 → Fine valid t h (forward h r) s (list_means valid t h r s) (4 * (2048 - r.loaded) + 4)
  forwards r s few = go (r.entry == h) refl (r.loaded == 2048) refl
    where
      last : list_means valid t h r s ≡ at_last valid t (head_of h r) s → Fine valid t h (to_pending r.offset r.pending) s (list_means valid t h r s) (4 * (2048 - r.loaded) + 4)
      last is = retotal valid t h (to_pending r.offset r.pending) s _ _ _ (sym is) (loosen valid t h (to_pending r.offset r.pending) s _ 4 (4 * (2048 - r.loaded) + 4) (omega arith) (lasts r.offset r.pending s))

      go : (a : Bool) → (r.entry == h) ≡ a → (b : Bool) → (r.loaded == 2048) ≡ b → Fine valid t h (if a || b then to_pending r.offset r.pending else LoadNext r) s (list_means valid t h r s) (4 * (2048 - r.loaded) + 4)
      go true home b all = last (entries-home valid t (head_of h r) (2048 - r.loaded) r.entry s home)
      go false on true all =
          let full = eqb-true r.loaded 2048 all in
          let none : 2048 - r.loaded ≡ 0 = omega arith in
          last (ap (λ (k : ℕ). entries valid t (head_of h r) k r.entry s) none ∙ entries-zero valid t (head_of h r) r.entry s)
      go false on false all =
          let room = eqb-false r.loaded 2048 all in
          record { means = refl; alone = tt; knows = (on, omega arith); falls = omega arith }

  -- on after a word
  goes : (p : Part) (s : Effect) → IsCounted p → Fine valid t h (goes_on h p) s (part_means valid t h p s) (part_left_alone p + 1)
  goes (part.List r) s counted = let few = counted.1 in loosen valid t h (forward h r) s _ (4 * (2048 - r.loaded) + 4) _ (omega arith) (forwards r s few)
  goes part.Pending s counted = record { means = refl; alone = tt; knows = tt; falls = omega arith }

  -- a word that has another owner is left alone
  untreated : (a : ℕ) (s : Effect) → (owner_in (s.words a) == t) ≡ false → treated t a s ≡ s
  untreated a s other = ap (λ (b : Bool). if b then woken_if (has_waiters (s.words a)) a (died_at a s) else s) other

  -- one that has this owner says that it died
  is_treated : (a : ℕ) (s : Effect) (b : Bool) → (owner_in (s.words a) == t) ≡ true → has_waiters (s.words a) ≡ b → treated t a s ≡ woken_if b a (died_at a s)
  is_treated a s b own waits =
      ap (λ (b : Bool). if b then woken_if (has_waiters (s.words a)) a (died_at a s) else s) own ∙ ap (λ (b : Bool). woken_if b a (died_at a s)) waits

  same_true : (n : ℕ) → (n == n) ≡ true
  same_true n = eq-eqb n n refl

  -- a word is seen
  sees : (a : ℕ) (p : Part) (s : Effect) → IsCounted p → valid a ≡ true → Fine valid t h (looks t h a (s.words a) false p) s (part_means valid t h p (word_means t p a s)) (part_left_alone p + 3)
  sees a (part.List r) s counted ok = go (owner_in (s.words a) == t) refl
    where
      go : (b : Bool) → (owner_in (s.words a) == t) ≡ b → Fine valid t h (if b then Mark a (s.words a) false (part.List r) else forward h r) s (list_means valid t h r (treated t a s)) (part_left_alone (part.List r) + 3)
      go true own = record { means = refl; alone = (ok, refl); knows = (eqb-true (owner_in (s.words a)) t own, counted); falls = rw (same_true (s.words a)) (omega arith) }
      go false other = let few = counted.1 in
          retotal valid t h (forward h r) s _ _ _ (ap (list_means valid t h r) (sym (untreated a s other))) (loosen valid t h (forward h r) s _ (4 * (2048 - r.loaded) + 4) _ (omega arith) (forwards r s few))
  sees a part.Pending s counted ok = go (owner_in (s.words a) == 0) refl (owner_in (s.words a) == t) refl
    where
      pends : (b : Bool) → (owner_in (s.words a) == 0) ≡ b → pending_treated t a s ≡ (if b then woken a s else treated t a s)
      pends b is = ap (λ (b : Bool). if b then woken a s else treated t a s) is

      go : (n : Bool) → (owner_in (s.words a) == 0) ≡ n → (b : Bool) → (owner_in (s.words a) == t) ≡ b
          → Fine valid t h (if n then WakeOne a part.Pending else if b then Mark a (s.words a) false part.Pending else Ended) s (pending_treated t a s) 3
      go true none b own = record { means = sym (pends true none); alone = ok; knows = tt; falls = omega arith }
      go false some true own = record { means = sym (pends false some); alone = (ok, refl); knows = (eqb-true (owner_in (s.words a)) t own, tt); falls = rw (same_true (s.words a)) (omega arith) }
      go false some false other = record { means = sym (pends false some ∙ untreated a s other); alone = tt; knows = tt; falls = omega arith }

  -- a word is marked
  marks : (a : ℕ) (p : Part) (s : Effect) → IsCounted p → valid a ≡ true → (owner_in (s.words a) == t) ≡ true
      → Fine valid t h (if has_waiters (s.words a) then WakeOne a p else goes_on h p) (died_at a s) (part_means valid t h p (treated t a s)) (part_left_alone p + 2)
  marks a p s counted ok own = go (has_waiters (s.words a)) refl
    where
      go : (b : Bool) → has_waiters (s.words a) ≡ b → Fine valid t h (if b then WakeOne a p else goes_on h p) (died_at a s) (part_means valid t h p (treated t a s)) (part_left_alone p + 2)
      go true waits = record { means = ap (part_means valid t h p) (sym (is_treated a s true own waits)); alone = ok; knows = counted; falls = omega arith }
      go false nobody = retotal valid t h (goes_on h p) (died_at a s) _ _ _ (ap (part_means valid t h p) (sym (is_treated a s false own nobody)))
          (loosen valid t h (goes_on h p) (died_at a s) _ (part_left_alone p + 1) _ (omega arith) (goes p (died_at a s) counted))

-- whoever reads at a valid address goes on
pub reads : (valid : ℕ → Bool) (a : ℕ) (s : Effect) (go : ℕ → Effect) (b : Bool) → valid a ≡ b → reading valid a s go ≡ (if b then go (s.words a) else s)
reads valid a s go b is = ap (λ (b : Bool). if b then go (s.words a) else s) is

-- a fault is the end, wherever it is met
faulted : (t h : ℕ) (r : Row) → row_after t h r Fault ≡ Ended
faulted t h LoadFirst = refl
faulted t h (LoadOffset first) = refl
faulted t h (LoadPending first offset) = refl
faulted t h (LoadNext r) = refl
faulted t h (LoadWord at part) = refl
faulted t h (Mark at seen again part) = refl
faulted t h (WakeOne at part) = refl
faulted t h Ended = refl

module _ (valid : ℕ → Bool) (sleepers : List ℕ → ℕ) (t h : ℕ) where
  -- a load: the end at an invalid address, and else what the word leads to
  loads : (r : Row) (a : ℕ) (s : Effect) (go : ℕ → Effect) (limit : ℕ) → 0 < limit
      → (valid a ≡ true → Fine valid t h (row_after t h r (Value (s.words a))) s (go (s.words a)) limit)
      → Fine valid t h (row_after t h r (if valid a then Value (s.words a) else Fault)) (if valid a then record { words = put s.words a (s.words a); wakes = s.wakes } else s) (reading valid a s go) limit
  loads r a s go limit some found = by (valid a) refl
    where
      by : (b : Bool) → valid a ≡ b → Fine valid t h (row_after t h r (if b then Value (s.words a) else Fault)) (if b then record { words = put s.words a (s.words a); wakes = s.wakes } else s) (reading valid a s go) limit
      by true ok = subst (λ (z : Effect). Fine valid t h (row_after t h r (Value (s.words a))) z (reading valid a s go) limit) (sym (looked s a))
          (retotal valid t h (row_after t h r (Value (s.words a))) s _ _ limit (sym (reads valid a s go true ok)) (found ok))
      by false none = subst (λ (q : Row). Fine valid t h q s (reading valid a s go) limit) (sym (faulted t h r)) (record { means = sym (reads valid a s go false none); alone = tt; knows = tt; falls = some })

  abbrev After : Row → Effect → Type 0
  After r s = Fine valid t h (row_after t h r (answer_of valid sleepers s (row_access h r))) (effect_of valid s (row_access h r)) (row_means valid t h r s) (left_alone s.words r)

  next : (r : Rest) (s : Effect) → Knows t h (LoadNext r) → After (LoadNext r) s
  next r s knows =
      let room = knows.1 in
      retotal valid t h _ _ _ _ _ (sym (entries-on valid t (head_of h r) (2048 - r.loaded) (2048 - (r.loaded + 1)) r.entry s (omega arith) knows.0))
      (loads (LoadNext r) r.entry s (λ next. if r.entry == r.pending then list_means valid t h (further r next) s else reading valid (sum_of r.entry r.offset) s (λ v. list_means valid t h (further r next) (treated t (sum_of r.entry r.offset) s)))
      (4 * (2048 - r.loaded) + 3) (omega arith) (λ ok. found room (s.words r.entry) (r.entry == r.pending)))
    where
      found : r.loaded < 2048 → (n : ℕ) → (b : Bool) → Fine valid t h (if b then forward h (further r n) else LoadWord (sum_of r.entry r.offset) (part.List (further r n))) s
          (if b then list_means valid t h (further r n) s else reading valid (sum_of r.entry r.offset) s (λ v. list_means valid t h (further r n) (treated t (sum_of r.entry r.offset) s))) (4 * (2048 - r.loaded) + 3)
      found room n true = loosen valid t h (forward h (further r n)) s _ (4 * (2048 - (r.loaded + 1)) + 4) _ (omega arith) (forwards valid t h (further r n) s (omega arith))
      found room n false = record { means = refl; alone = tt; knows = (omega arith, omega arith); falls = omega arith }

  mark : (at seen : ℕ) (again : Bool) (p : Part) (s : Effect) → Knows t h (Mark at seen again p) → Alone valid (Mark at seen again p) s → After (Mark at seen again p) s
  mark at seen again p s knows alone =
      subst (λ (b : Bool). Hits b (s.words at == seen)) (sym alone.0) (subst (λ (c : Bool). Hits true c) (sym (eq-eqb (s.words at) seen alone.1)) hit)
    where
      Hits : Bool → Bool → Type 0
      Hits b c = Fine valid t h (row_after t h (Mark at seen again p) (if b then (if c then Exchanged else Changed (s.words at)) else Fault))
          (if b then record { words = put s.words at (if c then marked_word seen else s.words at); wakes = s.wakes } else s) (part_means valid t h p (treated t at s)) (part_left_alone p + (if c then 2 else if again then 1 else 3))

      died : died_word (s.words at) ≡ marked_word seen
      died = ap died_word alone.1 ∙ sym (marked_died seen)

      hit : Hits true true
      hit = subst (λ (x : ℕ). Fine valid t h (if has_waiters seen then WakeOne at p else goes_on h p) (record { words = put s.words at x; wakes = s.wakes }) (part_means valid t h p (treated t at s)) (part_left_alone p + 2)) died
          (subst (λ (v : ℕ). Fine valid t h (if has_waiters v then WakeOne at p else goes_on h p) (died_at at s) (part_means valid t h p (treated t at s)) (part_left_alone p + 2)) alone.1
          (marks valid t h at p s knows.1 alone.0 (eq-eqb (owner_in (s.words at)) t (ap owner_in alone.1 ∙ knows.0))))

  wakes : (at : ℕ) (p : Part) (s : Effect) → Knows t h (WakeOne at p) → Alone valid (WakeOne at p) s → After (WakeOne at p) s
  wakes at p s knows ok =
      subst (λ (b : Bool). Fine valid t h (row_after t h (WakeOne at p) (if b then Count (sleepers s.wakes) else Fault)) (if b then record { words = put s.words at (s.words at); wakes = s.wakes ++ (at ∷ []) } else s) (part_means valid t h p (woken at s)) (part_left_alone p + 1)) (sym ok)
      (subst (λ (z : Effect). Fine valid t h (goes_on h p) z (part_means valid t h p (woken at s)) (part_left_alone p + 1)) (sym (looked (woken at s) at)) (goes valid t h p (woken at s) knows))

  -- one access more
  after : (r : Row) (s : Effect) → has_ended r ≡ false → Knows t h r → Alone valid r s → After r s
  after LoadFirst s going knows alone = loads LoadFirst h s (first_means valid t h s) 8198 (omega arith) (λ ok. record { means = refl; alone = tt; knows = tt; falls = omega arith })
  after (LoadOffset first) s going knows alone = loads (LoadOffset first) (sum_of h 1) s (offset_means valid t h first s) 8197 (omega arith) (λ ok. record { means = refl; alone = tt; knows = tt; falls = omega arith })
  after (LoadPending first offset) s going knows alone =
      loads (LoadPending first offset) (sum_of h 2) s (pending_means valid t h first offset s) 8196 (omega arith) (λ ok. forwards valid t h (record { entry = first; offset = offset; pending = s.words (sum_of h 2); loaded = 0 }) s (omega arith))
  after (LoadNext r) s going knows alone = next r s knows
  after (LoadWord at p) s going knows alone = loads (LoadWord at p) at s (λ v. part_means valid t h p (word_means t p at s)) (part_left_alone p + 3) (omega arith) (λ ok. sees valid t h at p s knows ok)
  after (Mark at seen again p) s going knows alone = mark at seen again p s knows alone
  after (WakeOne at p) s going knows alone = wakes at p s knows alone
  after Ended s going knows alone = absurd (cc going)

  -- who has no access left has ended
  none_left : (w : ℕ → ℕ) (r : Row) → left_alone w r ≤ 0 → r ≡ Ended
  none_left w LoadFirst few = absurd (omega arith)
  none_left w (LoadOffset first) few = absurd (omega arith)
  none_left w (LoadPending first offset) few = absurd (omega arith)
  none_left w (LoadNext r) few = absurd (omega arith)
  none_left w (LoadWord at p) few = absurd (omega arith)
  none_left w (Mark at seen again p) few = absurd (some (w at == seen) again few)
    where
      some : (b c : Bool) → part_left_alone p + (if b then 2 else if c then 1 else 3) ≤ 0 → ⊥
      some true c few = omega arith
      some false true few = omega arith
      some false false few = omega arith
  none_left w (WakeOne at p) few = absurd (omega arith)
  none_left w Ended few = refl

  has_no_more : (r : Row) → has_ended r ≡ true → r ≡ Ended
  has_no_more Ended is = refl
  has_no_more r is = absurd (cc is)

  run-zero : (c : Course) → run valid sleepers t h 0 c ≡ c
  unfolding run
  run-zero c = refl

  run-suc : (n : ℕ) (c : Course) → run valid sleepers t h (suc n) c ≡ run valid sleepers t h n (step valid sleepers t h c)
  unfolding run
  run-suc n c = refl

  -- a walk that has ended stays so
  rests : (n : ℕ) (s : Effect) → run valid sleepers t h n (record { row = Ended; effect = s }) ≡ record { row = Ended; effect = s }
  rests zero s = run-zero _
  rests (suc n) s = run-suc n _ ∙ rests n s

  -- this many accesses are enough
  runs : (n : ℕ) (r : Row) (s : Effect) → Knows t h r → Alone valid r s → left_alone s.words r ≤ n → run valid sleepers t h n (record { row = r; effect = s }) ≡ record { row = Ended; effect = row_means valid t h r s }
  runs zero r s knows alone few =
      let is = none_left s.words r few in
      run-zero _ ∙ ap (λ (z : Row). record { row = z; effect = s }) is ∙ ap (λ (z : Row). record { row = Ended; effect = row_means valid t h z s }) (sym is)
  runs (suc n) r s knows alone few = go (λ r' s' k a f. runs n r' s' k a f) (has_ended r) refl
    where
      go : ((r' : Row) (s' : Effect) → Knows t h r' → Alone valid r' s' → left_alone s'.words r' ≤ n → run valid sleepers t h n (record { row = r'; effect = s' }) ≡ record { row = Ended; effect = row_means valid t h r' s' })
          → (b : Bool) → has_ended r ≡ b → run valid sleepers t h (suc n) (record { row = r; effect = s }) ≡ record { row = Ended; effect = row_means valid t h r s }
      go further true is =
          let ended = has_no_more r is in
          ap (λ (z : Row). run valid sleepers t h (suc n) (record { row = z; effect = s })) ended ∙ rests (suc n) s ∙ ap (λ (z : Row). record { row = Ended; effect = row_means valid t h z s }) (sym ended)
      go further false is =
          let f = after r s is knows alone in
          let fewer = f.falls in
          let a = row_access h r in
          run-suc n (record { row = r; effect = s })
          ∙ ap (λ (b : Bool). run valid sleepers t h n (if b then record { row = r; effect = s } else record { row = row_after t h r (answer_of valid sleepers s a); effect = effect_of valid s a })) is
          ∙ further (row_after t h r (answer_of valid sleepers s a)) (effect_of valid s a) f.knows f.alone (omega arith)
          ∙ ap (λ (z : Effect). record { row = Ended; effect = z }) f.means

-- from the first access on
pub right : WalksAreRight
right valid sleepers t h n words enough =
    let is = runs valid sleepers t h n LoadFirst (untouched words) tt tt enough in
    record { ended = ap (λ (c : Course). c.row) is; words = λ at. ap (λ (c : Course). c.effect.words at) is; wakes = ap (λ (c : Course). c.effect.wakes) is }
