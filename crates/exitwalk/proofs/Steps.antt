-- One access of a walk, where others write too.
use Rattle.std.proofs.Common.{◌≡◌, ◌≢◌, ◌⊎◌, inl, inr, ℕ, ◌+◌, ◌*◌, ◌-◌, ◌<◌, ◌≤◌, ◌==◌, Bool, true, false, refl, sym, ap, ◌∙◌, arith, eqb-true, eq-eqb}
use Rattle.std.specs.Prelude.{if◌then◌else◌, ◌||◌, ◌&&◌}
use Rattle.std.proofs.lemmas.Bool.{eqb-false, ne_eqb}
use Rattle.lockword.specs.Cells.{Fields, fields_of, word_of, marked, waiting}
use Rattle.lockword.specs.Coding.{word_of-fields_of, fields_of-word_of}
use Rattle.stepprograms.specs.declared.access.Answer.{Answer}
use Rattle.stepprograms.specs.declared.access.Answer.TheVariants.{Value, Exchanged, Changed, Count}
use Rattle.stepprograms.specs.Accesses.{address_of, changed, answer_at}
use Rattle.posixmutex.specs.Objects.{Run, object_of, owner_of, bereaved}
use Rattle.posixmutex.proofs.Owners.{owner_of-some}
use Rattle.exitwalk.specs.declared.row.Rest.{Rest}
use Rattle.exitwalk.specs.declared.row.Part.{Part}
use Rattle.exitwalk.specs.declared.row.Part.TheVariants as part
use Rattle.exitwalk.specs.declared.row.Row.{Row}
use Rattle.exitwalk.specs.declared.row.Row.TheVariants.{LoadFirst, LoadOffset, LoadPending, LoadNext, LoadWord, Mark, WakeOne, Ended}
use Rattle.exitwalk.specs.Words.{sum_of, owner_in, has_waiters, died_word}
use Rattle.exitwalk.specs.Walks.{marked_word, row_access, row_after, point_of, is_pending, to_pending, forward, goes_on, further, after_next, looks, IsCounted, IsGoing, Knows}
use Rattle.exitwalk.specs.Ranks.{part_left, part_left_alone, accesses_left, left_alone}
use Rattle.exitwalk.specs.Steps.{points, Right, IsTrueOf, waiting_word, OnlyWaits, StepsAreRight}
use Rattle.exitwalk.proofs.Treatments.{marked_died}
use Rattle.exitwalk.proofs.Ends.{knows_after, falls}

-- a marked word says so
marked_says : (v : ℕ) → fields_of (marked_word v) ≡ marked (fields_of v)
marked_says v = fields_of-word_of (marked (fields_of v)) (omega arith)

-- who only looks leaves the word alone
looks_right : (t : ℕ) (r : Row) (a : Answer) (w : ℕ) → Run (object_of (fields_of w)) (points (point_of t r a)) (object_of (fields_of w)) → Right t r a w w
looks_right t r a w runs = record { runs = runs; changes = inl refl }

-- the exchange that met the word that it saw is the owner's death
mark_right : (t at seen w : ℕ) (again : Bool) (p : Part) → 1 ≤ t → (fields_of seen).owner ≡ t → w ≡ seen → Right t (Mark at seen again p) Exchanged w (marked_word seen)
mark_right t at seen w again p pos own met =
    let owned : owner_in w ≡ t = ap owner_in met ∙ own in
    let cell : fields_of (marked_word seen) ≡ marked (fields_of w) = marked_says seen ∙ ap (λ (v : ℕ). marked (fields_of v)) (sym met) in
    record {
      runs = (bereaved (object_of (fields_of w)), (ap owner_of owned ∙ owner_of-some t pos, refl), ap object_of cell);
      changes = inr (record { owner = owned; word = marked_died seen ∙ ap died_word (sym met); cell = cell });
    }

right : (t h w : ℕ) (r : Row) → 1 ≤ t → IsGoing r → Knows t h r → Right t r (answer_at (row_access h r) w) w (changed (row_access h r) w)
right t h w LoadFirst pos going knows = looks_right t _ _ w refl
right t h w (LoadOffset first) pos going knows = looks_right t _ _ w refl
right t h w (LoadPending first offset) pos going knows = looks_right t _ _ w refl
right t h w (LoadNext r) pos going knows = looks_right t _ _ w refl
right t h w (LoadWord at p) pos going knows = looks_right t _ _ w refl
right t h w (Mark at seen again p) pos going knows = go (w == seen) refl
  where
    go : (b : Bool) → (w == seen) ≡ b → Right t (Mark at seen again p) (if b then Exchanged else Changed w) w (if b then marked_word seen else w)
    go true hit = mark_right t at seen w again p pos knows.0 (eqb-true w seen hit)
    go false miss = looks_right t _ _ w refl
right t h w (WakeOne at p) pos going knows = looks_right t _ _ w refl
right t h w Ended pos going knows = absurd going

-- where nobody else writes: on to the next entry, or to the pending one
module _ (t h : ℕ) (words : ℕ → ℕ) where
  lasts : (offset pending : ℕ) → left_alone words (to_pending offset pending) < 4
  lasts offset pending = go (pending == 0)
    where
      go : (b : Bool) → left_alone words (if b then Ended else LoadWord (sum_of pending offset) part.Pending) < 4
      go true = omega arith
      go false = omega arith

  forwards : (r : Rest) → left_alone words (forward h r) < 4 * (2048 - r.loaded) + 4
  forwards r = go (r.entry == h || r.loaded == 2048)
    where
      go : (b : Bool) → left_alone words (if b then to_pending r.offset r.pending else LoadNext r) < 4 * (2048 - r.loaded) + 4
      go true = let last = lasts r.offset r.pending in omega arith
      go false = omega arith

  goes : (p : Part) → left_alone words (goes_on h p) < part_left_alone p + 1
  goes (part.List r) = let next = forwards r in omega arith
  goes part.Pending = omega arith

  sees : (at v : ℕ) (again : Bool) (p : Part) → words at ≡ v → left_alone words (looks t h at v again p) < part_left_alone p + 3
  sees at v again p same = go (is_pending p && ((fields_of v).owner == 0)) ((fields_of v).owner == t) (words at == v) (eq-eqb (words at) v same)
    where
      go : (x y z : Bool) → z ≡ true → left_alone words (if x then WakeOne at p else if y then Mark at v again p else goes_on h p) < part_left_alone p + 3
      go true y z hit = omega arith
      go false true z hit = rw (eq-eqb (words at) v same) (omega arith)
      go false false z hit = let on = goes p in omega arith

  next : (r : Rest) (v : ℕ) → r.loaded < 2048 → left_alone words (after_next h r v) < 4 * (2048 - r.loaded) + 3
  next r v room = go (r.entry == r.pending)
    where
      go : (b : Bool) → left_alone words (if b then forward h (further r v) else LoadWord (sum_of r.entry r.offset) (part.List (further r v))) < 4 * (2048 - r.loaded) + 3
      go true = let on = forwards (further r v) in omega arith
      go false = omega arith

  marks : (at seen : ℕ) (p : Part) → left_alone words (if (fields_of seen).waiters then WakeOne at p else goes_on h p) < part_left_alone p + 2
  marks at seen p = go (fields_of seen).waiters
    where
      go : (b : Bool) → left_alone words (if b then WakeOne at p else goes_on h p) < part_left_alone p + 2
      go true = omega arith
      go false = let on = goes p in omega arith

-- an exchange whose answer is true
alone_mark : (t h at seen : ℕ) (again : Bool) (p : Part) (a : Answer) (w : ℕ) (words' : ℕ → ℕ) → IsTrueOf (row_access h (Mark at seen again p)) w a → (b : Bool) → (w == seen) ≡ b
    → words' at ≡ (if b then marked_word seen else w) → left_alone words' (row_after t h (Mark at seen again p) a) < part_left_alone p + (if b then 2 else if again then 1 else 3)
alone_mark t h at seen again p Exchanged w words' is true hit new = marks t h words' at seen p
alone_mark t h at seen again p Exchanged w words' is false miss new = absurd (eqb-false w seen miss is)
alone_mark t h at seen again p (Changed v) w words' is true hit new = absurd (is.1 (eqb-true w seen hit))
alone_mark t h at seen true p (Changed v) w words' is false miss new = goes t h words' p
alone_mark t h at seen false p (Changed v) w words' is false miss new = sees t h words' at v true p (new ∙ sym is.0)
alone_mark t h at seen again p a w words' is true hit new = omega arith
alone_mark t h at seen true p a w words' is false miss new = omega arith
alone_mark t h at seen false p a w words' is false miss new = omega arith

alone : (t h : ℕ) (r : Row) (a : Answer) (words words' : ℕ → ℕ) → IsGoing r → Knows t h r → IsTrueOf (row_access h r) (words (address_of (row_access h r))) a
    → words' (address_of (row_access h r)) ≡ changed (row_access h r) (words (address_of (row_access h r))) → left_alone words' (row_after t h r a) < left_alone words r
alone t h LoadFirst (Value v) words words' going knows is new = omega arith
alone t h LoadFirst a words words' going knows is new = omega arith
alone t h (LoadOffset first) (Value v) words words' going knows is new = omega arith
alone t h (LoadOffset first) a words words' going knows is new = omega arith
alone t h (LoadPending first offset) (Value v) words words' going knows is new = forwards t h words' (record { entry = first; offset = offset; pending = v; loaded = 0 })
alone t h (LoadPending first offset) a words words' going knows is new = omega arith
alone t h (LoadNext r) (Value v) words words' going knows is new = next t h words' r v knows.1
alone t h (LoadNext r) a words words' going knows is new = omega arith
alone t h (LoadWord at p) (Value v) words words' going knows is new = sees t h words' at v false p (new ∙ sym is)
alone t h (LoadWord at p) a words words' going knows is new = omega arith
alone t h (Mark at seen again p) a words words' going knows is new = alone_mark t h at seen again p a (words at) words' is (words at == seen) refl new
alone t h (WakeOne at p) (Count n) words words' going knows is new = goes t h words' p
alone t h (WakeOne at p) a words words' going knows is new = omega arith
alone t h Ended a words words' going knows is new = absurd going

-- WAITERS is set once
set_once : (v : ℕ) → has_waiters v ≡ true → waiting_word v ≡ v
set_once v set = ap word_of same ∙ word_of-fields_of v
  where
    same : waiting (fields_of v) ≡ fields_of v
    same = λ i. record { owner = (fields_of v).owner; died = (fields_of v).died; waiters = sym set i; unusable = (fields_of v).unusable; rest = (fields_of v).rest }

-- a word with WAITERS says so
waiting_says : (v : ℕ) → fields_of (waiting_word v) ≡ waiting (fields_of v)
waiting_says v = fields_of-word_of (waiting (fields_of v)) (omega arith)

-- a word of the dead thread's is to be marked
looks_mine : (t h at w : ℕ) (again : Bool) (p : Part) → 1 ≤ t → owner_in w ≡ t → looks t h at w again p ≡ Mark at w again p
looks_mine t h at w again (part.List r) pos own = ap (λ (b : Bool). if b then Mark at w again (part.List r) else forward h r) (eq-eqb (owner_in w) t own)
looks_mine t h at w again part.Pending pos own =
    let some : owner_in w ≢ 0 = omega arith in
    ap (λ (b : Bool). if b then WakeOne at part.Pending else if owner_in w == t then Mark at w again part.Pending else Ended) (ne_eqb (owner_in w) 0 some)
    ∙ ap (λ (b : Bool). if b then Mark at w again part.Pending else Ended) (eq-eqb (owner_in w) t own)

-- an exchange that met a word with new waiters was the first, and the next one is for that word
missed : (t h at seen w : ℕ) (again : Bool) (p : Part) → 1 ≤ t → (fields_of seen).owner ≡ t → (again ≡ true → has_waiters seen ≡ true) → w ≡ waiting_word seen → w ≢ seen
    → (again ≡ false) × (row_after t h (Mark at seen again p) (Changed w) ≡ Mark at w true p) × OnlyWaits w true w
missed t h at seen w true p pos own set is other = absurd (other (is ∙ set_once seen (set refl)))
missed t h at seen w false p pos own set is other =
    let says : fields_of w ≡ waiting (fields_of seen) = ap fields_of is ∙ waiting_says seen in
    let mine : owner_in w ≡ t = ap (λ (c : Fields). c.owner) says ∙ own in
    let waits : has_waiters w ≡ true = ap (λ (c : Fields). c.waiters) says in
    (refl, looks_mine t h at w true p pos mine, record { stays = inl refl; set = λ _. waits })

second : (t h at seen w : ℕ) (again : Bool) (p : Part) → 1 ≤ t → Knows t h (Mark at seen again p) → OnlyWaits seen again w → w ≢ seen
    → (again ≡ false) × (row_after t h (Mark at seen again p) (Changed w) ≡ Mark at w true p) × OnlyWaits w true w
second t h at seen w again p pos knows only other = go only.stays
  where
    go : (w ≡ seen) ⊎ (w ≡ waiting_word seen) → (again ≡ false) × (row_after t h (Mark at seen again p) (Changed w) ≡ Mark at w true p) × OnlyWaits w true w
    go (inl same) = absurd (other same)
    go (inr is) = missed t h at seen w again p pos knows.0 only.set is other

-- a part's share
few_part : (p : Part) → IsCounted p → (part_left p ≤ 10239) × (part_left_alone p ≤ 8191)
few_part (part.List r) counted = let one = counted.0 in (omega arith, omega arith)
few_part part.Pending counted = (omega arith, omega arith)

few_mark : (x b : Bool) → ((if b then 2 else 3) ≤ 3) × ((if x then 2 else if b then 1 else 3) ≤ 3)
few_mark true true = (omega arith, omega arith)
few_mark true false = (omega arith, omega arith)
few_mark false true = (omega arith, omega arith)
few_mark false false = (omega arith, omega arith)

few : (t h : ℕ) (r : Row) (words : ℕ → ℕ) → Knows t h r → (accesses_left r ≤ 10247) × (left_alone words r ≤ 8198)
few t h LoadFirst words knows = (omega arith, omega arith)
few t h (LoadOffset first) words knows = (omega arith, omega arith)
few t h (LoadPending first offset) words knows = (omega arith, omega arith)
few t h (LoadNext r) words knows = (omega arith, omega arith)
few t h (LoadWord at p) words knows = let f = few_part p knows in let a = f.0 in let b = f.1 in (omega arith, omega arith)
few t h (Mark at seen again p) words knows =
    let f = few_part p knows.1 in
    let a = f.0 in
    let b = f.1 in
    let m = few_mark (words at == seen) again in
    let c = m.0 in
    let d = m.1 in
    (omega arith, omega arith)
few t h (WakeOne at p) words knows = let f = few_part p knows in let a = f.0 in let b = f.1 in (omega arith, omega arith)
few t h Ended words knows = (omega arith, omega arith)

pub steps : StepsAreRight
steps = record { right = right; knows = λ t h r a. knows_after t h r a; falls = falls; few = few; alone = alone; second = second }
