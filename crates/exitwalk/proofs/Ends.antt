-- Whatever a walk is answered, it ends soon.
use Rattle.std.proofs.Common.{◌≡◌, ◌⊎◌, inl, inr, ℕ, ◌+◌, ◌*◌, ◌-◌, ◌<◌, ◌≤◌, ◌==◌, Bool, true, false, List, [], ◌∷◌, length, refl, sym, ap, ◌∙◌, subst, arith, eqb-true}
use Rattle.std.specs.Prelude.{if◌then◌else◌, ◌||◌, ◌&&◌}
use Rattle.std.proofs.lemmas.Bool.{eqb-false}
use Rattle.lockword.specs.Cells.{fields_of}
use Rattle.stepprograms.specs.declared.access.Answer.{Answer}
use Rattle.stepprograms.specs.declared.access.Answer.TheVariants.{Value, Exchanged, Changed, Count}
use Rattle.exitwalk.specs.declared.row.Rest.{Rest}
use Rattle.exitwalk.specs.declared.row.Part.{Part}
use Rattle.exitwalk.specs.declared.row.Part.TheVariants as part
use Rattle.exitwalk.specs.declared.row.Row.{Row}
use Rattle.exitwalk.specs.declared.row.Row.TheVariants.{LoadFirst, LoadOffset, LoadPending, LoadNext, LoadWord, Mark, WakeOne, Ended}
use Rattle.exitwalk.specs.Words.{sum_of}
use Rattle.exitwalk.specs.Walks.{row_after, is_pending, to_pending, forward, goes_on, further, looks, IsCounted, IsGoing, Knows}
use Rattle.exitwalk.specs.Ranks.{part_left, accesses_left}
use Rattle.exitwalk.specs.AnyAnswers.{reached, loads_entry, entry_loads}

-- how many entries may still be loaded
abbrev pub part_loads : Part → ℕ
part_loads (part.List r) = 2048 - r.loaded
part_loads part.Pending = 0

abbrev pub loads_left : Row → ℕ
loads_left LoadFirst = 2048
loads_left (LoadOffset first) = 2048
loads_left (LoadPending first offset) = 2048
loads_left (LoadNext r) = 2048 - r.loaded
loads_left (LoadWord at p) = part_loads p
loads_left (Mark at seen again p) = part_loads p
loads_left (WakeOne at p) = part_loads p
loads_left Ended = 0

-- a row that is nearer to the end
pub record Nearer (t h : ℕ) (r : Row) (accesses loads : ℕ) : Type 0 where
  pub knows : Knows t h r
  pub falls : accesses_left r < accesses
  pub fewer : loads_left r ≤ loads

loosen : (t h : ℕ) (r : Row) (a b l m : ℕ) → a ≤ b → l ≤ m → Nearer t h r a l → Nearer t h r b m
loosen t h r a b l m le less n = let falls = n.falls in let fewer = n.fewer in record { knows = n.knows; falls = omega arith; fewer = omega arith }

module _ (t h : ℕ) where
  over : (a l : ℕ) → 0 < a → Nearer t h Ended a l
  over a l some = record { knows = tt; falls = some; fewer = omega arith }

  lasts : (offset pending : ℕ) → Nearer t h (to_pending offset pending) 5 0
  lasts offset pending = go (pending == 0)
    where
      go : (b : Bool) → Nearer t h (if b then Ended else LoadWord (sum_of pending offset) part.Pending) 5 0
      go true = over 5 0 (omega arith)
      go false = record { knows = tt; falls = omega arith; fewer = omega arith }

  forwards : (r : Rest) → r.loaded ≤ 2048 → Nearer t h (forward h r) (5 * (2048 - r.loaded) + 5) (2048 - r.loaded)
  forwards r few = go (r.entry == h) refl (r.loaded == 2048) refl
    where
      last : Nearer t h (to_pending r.offset r.pending) (5 * (2048 - r.loaded) + 5) (2048 - r.loaded)
      last = loosen t h (to_pending r.offset r.pending) 5 _ 0 _ (omega arith) (omega arith) (lasts r.offset r.pending)

      go : (a : Bool) → (r.entry == h) ≡ a → (b : Bool) → (r.loaded == 2048) ≡ b → Nearer t h (if a || b then to_pending r.offset r.pending else LoadNext r) (5 * (2048 - r.loaded) + 5) (2048 - r.loaded)
      go true home b all = last
      go false on true all = last
      go false on false all = let room = eqb-false r.loaded 2048 all in record { knows = (on, omega arith); falls = omega arith; fewer = omega arith }

  goes : (p : Part) → IsCounted p → Nearer t h (goes_on h p) (part_left p + 1) (part_loads p)
  goes (part.List r) counted = let few = counted.1 in loosen t h (forward h r) (5 * (2048 - r.loaded) + 5) _ _ _ (omega arith) (omega arith) (forwards r few)
  goes part.Pending counted = over 1 0 (omega arith)

  -- with two exchanges left, or one
  abbrev tries : Bool → ℕ
  tries again = if again then 3 else 4

  sees : (at v : ℕ) (again : Bool) (p : Part) → IsCounted p → Nearer t h (looks t h at v again p) (part_left p + tries again) (part_loads p)
  sees at v again p counted = go again (is_pending p && ((fields_of v).owner == 0)) ((fields_of v).owner == t) refl
    where
      go : (again x y : Bool) → ((fields_of v).owner == t) ≡ y → Nearer t h (if x then WakeOne at p else if y then Mark at v again p else goes_on h p) (part_left p + tries again) (part_loads p)
      go true true y own = record { knows = counted; falls = omega arith; fewer = omega arith }
      go false true y own = record { knows = counted; falls = omega arith; fewer = omega arith }
      go true false true own = record { knows = (eqb-true (fields_of v).owner t own, counted); falls = omega arith; fewer = omega arith }
      go false false true own = record { knows = (eqb-true (fields_of v).owner t own, counted); falls = omega arith; fewer = omega arith }
      go true false false own = loosen t h (goes_on h p) (part_left p + 1) _ _ _ (omega arith) (omega arith) (goes p counted)
      go false false false own = loosen t h (goes_on h p) (part_left p + 1) _ _ _ (omega arith) (omega arith) (goes p counted)

  next : (r : Rest) (v : ℕ) → r.loaded < 2048 → Nearer t h (row_after t h (LoadNext r) (Value v)) (5 * (2048 - r.loaded) + 4) (2048 - (r.loaded + 1))
  next r v room = go (r.entry == r.pending)
    where
      go : (b : Bool) → Nearer t h (if b then forward h (further r v) else LoadWord (sum_of r.entry r.offset) (part.List (further r v))) (5 * (2048 - r.loaded) + 4) (2048 - (r.loaded + 1))
      go true = loosen t h (forward h (further r v)) (5 * (2048 - (r.loaded + 1)) + 5) _ _ _ (omega arith) (omega arith) (forwards (further r v) (omega arith))
      go false = record { knows = (omega arith, omega arith); falls = omega arith; fewer = omega arith }

  marks : (at seen : ℕ) (again : Bool) (p : Part) → IsCounted p → Nearer t h (row_after t h (Mark at seen again p) Exchanged) (part_left p + 2) (part_loads p)
  marks at seen again p counted = go (fields_of seen).waiters
    where
      go : (b : Bool) → Nearer t h (if b then WakeOne at p else goes_on h p) (part_left p + 2) (part_loads p)
      go true = record { knows = counted; falls = omega arith; fewer = omega arith }
      go false = loosen t h (goes_on h p) (part_left p + 1) _ _ _ (omega arith) (omega arith) (goes p counted)

  abbrev After : Row → Answer → Type 0
  After r a = Nearer t h (row_after t h r a) (accesses_left r) (loads_left r - loads_entry r)

  pub after : (r : Row) (a : Answer) → IsGoing r → Knows t h r → After r a
  after LoadFirst (Value v) going knows = record { knows = tt; falls = omega arith; fewer = omega arith }
  after LoadFirst a going knows = over _ _ (omega arith)
  after (LoadOffset first) (Value v) going knows = record { knows = tt; falls = omega arith; fewer = omega arith }
  after (LoadOffset first) a going knows = over _ _ (omega arith)
  after (LoadPending first offset) (Value v) going knows = forwards (record { entry = first; offset = offset; pending = v; loaded = 0 }) (omega arith)
  after (LoadPending first offset) a going knows = over _ _ (omega arith)
  after (LoadNext r) (Value v) going knows = let room = knows.1 in loosen t h (row_after t h (LoadNext r) (Value v)) _ _ (2048 - (r.loaded + 1)) _ (omega arith) (omega arith) (next r v room)
  after (LoadNext r) a going knows = over _ _ (omega arith)
  after (LoadWord at p) (Value v) going knows = loosen t h (looks t h at v false p) _ _ (part_loads p) _ (omega arith) (omega arith) (sees at v false p knows)
  after (LoadWord at p) a going knows = over _ _ (omega arith)
  after (Mark at seen true p) Exchanged going knows = loosen t h (row_after t h (Mark at seen true p) Exchanged) _ _ (part_loads p) _ (omega arith) (omega arith) (marks at seen true p knows.1)
  after (Mark at seen false p) Exchanged going knows = loosen t h (row_after t h (Mark at seen false p) Exchanged) (part_left p + 2) _ (part_loads p) _ (omega arith) (omega arith) (marks at seen false p knows.1)
  after (Mark at seen true p) (Changed v) going knows = loosen t h (goes_on h p) (part_left p + 1) _ (part_loads p) _ (omega arith) (omega arith) (goes p knows.1)
  after (Mark at seen false p) (Changed v) going knows = loosen t h (looks t h at v true p) (part_left p + 3) _ (part_loads p) _ (omega arith) (omega arith) (sees at v true p knows.1)
  after (Mark at seen true p) a going knows = over _ _ (omega arith)
  after (Mark at seen false p) a going knows = over _ _ (omega arith)
  after (WakeOne at p) (Count n) going knows = loosen t h (goes_on h p) (part_left p + 1) _ (part_loads p) _ (omega arith) (omega arith) (goes p knows)
  after (WakeOne at p) a going knows = over _ _ (omega arith)
  after Ended a going knows = absurd going

  -- who has ended stays so
  pub stays : (a : Answer) → row_after t h Ended a ≡ Ended
  stays (Value v) = refl
  stays Exchanged = refl
  stays (Changed v) = refl
  stays (Count n) = refl
  stays a = refl

  -- a walk goes on, or has ended
  pub goes_or_ended : (r : Row) → IsGoing r ⊎ (r ≡ Ended)
  goes_or_ended Ended = inr refl
  goes_or_ended LoadFirst = inl tt
  goes_or_ended (LoadOffset first) = inl tt
  goes_or_ended (LoadPending first offset) = inl tt
  goes_or_ended (LoadNext r) = inl tt
  goes_or_ended (LoadWord at p) = inl tt
  goes_or_ended (Mark at seen again p) = inl tt
  goes_or_ended (WakeOne at p) = inl tt

  -- with no access left it has ended
  none_left : (r : Row) → Knows t h r → accesses_left r ≤ 0 → r ≡ Ended
  none_left r knows few = go (goes_or_ended r)
    where
      go : IsGoing r ⊎ (r ≡ Ended) → r ≡ Ended
      go (inl going) = let falls = (after r Exchanged going knows).falls in absurd (omega arith)
      go (inr is) = is

  -- answers enough
  reaches : (answers : List Answer) (r : Row) → Knows t h r → accesses_left r ≤ length answers → reached t h r answers ≡ Ended
  reaches [] r knows few = none_left r knows few
  reaches (a ∷ answers) r knows few = go (λ r' k f. reaches answers r' k f) (goes_or_ended r)
    where
      go : ((r' : Row) → Knows t h r' → accesses_left r' ≤ length answers → reached t h r' answers ≡ Ended) → IsGoing r ⊎ (r ≡ Ended) → reached t h (row_after t h r a) answers ≡ Ended
      go further (inl going) = let n = after r a going knows in let falls = n.falls in further (row_after t h r a) n.knows (omega arith)
      go further (inr is) = ap (λ (z : Row). reached t h (row_after t h z a) answers) is ∙ ap (λ (z : Row). reached t h z answers) (stays a) ∙ further Ended tt (omega arith)

  -- who loads an entry may
  loads_one : (r : Row) → Knows t h r → loads_entry r ≤ loads_left r
  loads_one (LoadNext r) knows = let room = knows.1 in omega arith
  loads_one r knows = omega arith

  -- what a walk knows at its next row
  pub knows_after : (r : Row) (a : Answer) → Knows t h r → Knows t h (row_after t h r a)
  knows_after r a knows = go (goes_or_ended r)
    where
      go : IsGoing r ⊎ (r ≡ Ended) → Knows t h (row_after t h r a)
      go (inl going) = (after r a going knows).knows
      go (inr is) = subst (λ (z : Row). Knows t h z) (sym (ap (λ (z : Row). row_after t h z a) is ∙ stays a)) tt

  few_loads : (answers : List Answer) (r : Row) → Knows t h r → entry_loads t h r answers ≤ loads_left r
  few_loads [] r knows = omega arith
  few_loads (a ∷ answers) r knows = go (few_loads answers (row_after t h r a) (knows_after r a knows)) (goes_or_ended r)
    where
      go : entry_loads t h (row_after t h r a) answers ≤ loads_left (row_after t h r a) → IsGoing r ⊎ (r ≡ Ended) → loads_entry r + entry_loads t h (row_after t h r a) answers ≤ loads_left r
      go rest (inl going) = let fewer = (after r a going knows).fewer in let one = loads_one r knows in omega arith
      go rest (inr is) =
          let none : loads_entry r ≡ 0 = ap loads_entry is in
          let last : loads_left (row_after t h r a) ≡ 0 = ap loads_left (ap (λ (z : Row). row_after t h z a) is ∙ stays a) in
          omega arith

-- from the first access on
pub ends : (t h : ℕ) (answers : List Answer) → 10247 ≤ length answers → reached t h LoadFirst answers ≡ Ended
ends t h answers enough = reaches t h answers LoadFirst tt enough

pub loads : (t h : ℕ) (answers : List Answer) → entry_loads t h LoadFirst answers ≤ 2048
loads t h answers = few_loads t h answers LoadFirst tt

-- fewer accesses are left
pub falls : (t h : ℕ) (r : Row) (a : Answer) → IsGoing r → Knows t h r → accesses_left (row_after t h r a) < accesses_left r
falls t h r a going knows = (after t h r a going knows).falls
