-- A change of a cell that leaves its mutex as it is keeps the rule; so does a trim. Nothing new is seen by it.
use Rattle.std.proofs.Common.{Bool, true, false, ◌≡◌, ◌≢◌, ⊎_elim, ℕ, ◌+◌, ◌<◌, ◌==◌, List, [], ◌∷◌, length, get_or, set, refl, sym, ap, ◌∙◌, subst, arith, eqb-true, length-set, get_or-set_other, get_or-set_same}
use mathlib.Core.Logic.{dite}
use mathlib.Core.Option.{none, some}
use native.Mathlib.Decide.{ℕ_discrete}
use lib.ListN.{get_elem?}
use prog.Atomic.{either}
use Rattle.std.specs.Prelude.{if◌then◌else◌}
use Rattle.atomic_table.specs.Table.{step, keeps, Allows}
use Rattle.atomic_table.proofs.Lists.{at_set}
use Rattle.lockword.specs.Cells.{fields_of}
use Rattle.memorymap.specs.Layouts.{Layout', cell_place, counter_place}
use Rattle.posixmutex.specs.Objects.{object_of}
use Rattle.ruledwords.specs.declared.pass.Card.{Card}
use Rattle.ruledwords.specs.Cards.{at, mark_at}
use Rattle.ruledwords.specs.Changes.{put_changes, Writes}
use Rattle.ruledwords.specs.Seen.{Leaves}
use Rattle.ruledwords.specs.Rules.{guard, owner_at, keeper, Fits, AllFit, cards_of, Kept}
use Rattle.ruledwords.specs.Looks.{Finds, noted, trimmed}
use Rattle.ruledwords.proofs.Changes.{recorded_change, writes_there}
use Rattle.ruledwords.proofs.Counts.{counted_same}
use Rattle.ruledwords.proofs.Lists.{all_set}
use Rattle.ruledwords.proofs.Keepers.{cell_keeper, keeper_same, other_cell, inside, owner_set, counter_no_cell}
use Rattle.ruledwords.proofs.Moves.{St, Steady, changing, says, turns}
use Rattle.ruledwords.proofs.Looks.{found}

-- a change of the word of mutex m that leaves the mutex as it is
module _ {o : List ℕ} (k : Layout') (s : St) (h : Kept k o s) (m : ℕ) (low : m < k.mutexes) (n : ℕ) (as_it_is : object_of (fields_of n) ≡ says s.words (cell_place k m)) (whose : (fields_of n).owner ≡ owner_at k s.words m) (steady : Steady (get_or s.words (cell_place k m) 0) n) where
  abbrev p : ℕ
  p = cell_place k m

  abbrev ws' : List ℕ
  ws' = set s.words p n

  within : p < length s.words
  within = subst (λ (z : ℕ). p < z) (sym h.wide) (inside k m low)

  cell_now : get_or ws' p 0 ≡ n
  cell_now = get_or-set_same s.words p n 0 within

  same_object : says ws' p ≡ says s.words p
  same_object = ap (λ (v : ℕ). object_of (fields_of v)) cell_now ∙ as_it_is

  owner_same : (l : ℕ) → owner_at k ws' l ≡ owner_at k s.words l
  owner_same l = dite (ℕ_discrete l m)
      (λ same. ap (owner_at k ws') same ∙ ap (λ (v : ℕ). (fields_of v).owner) cell_now ∙ whose ∙ ap (owner_at k s.words) (sym same))
      (λ other. owner_set k s.words m n l other)

  keeper_stays : (q : ℕ) → keeper k ws' q ≡ keeper k s.words q
  keeper_stays q = keeper_same k s.words ws' q (owner_same (guard k q))

  pub fits_left : (c : Card) → Fits k s.words h.histories c → Fits k ws' h.histories c
  fits_left c f = record {
    thread = f.thread;
    threads = f.threads;
    begins = f.begins;
    own = f.own;
    values = λ q x e.
        let was = f.values q x e in
        let other : q ≢ p = λ here. let nobody : c.thread ≡ 0 = sym was.1 ∙ ap (keeper k s.words) here ∙ cell_keeper k s.words m low in let some = f.thread.0 in absurd (omega (arith, some, nobody)) in
        (get_or-set_other s.words p q n 0 other ∙ was.0, keeper_stays q ∙ was.1);
    marks = λ l lower e own. dite (ℕ_discrete l m)
        (λ same.
        let owned : owner_at k s.words m ≡ c.thread = ap (owner_at k s.words) (sym same) ∙ sym (owner_same l) ∙ own in
        let some = f.thread.0 in
        let on = f.marks m low (ap (λ (z : ℕ). mark_at c.marks (cell_place k z)) (sym same) ∙ e) owned in
        ap (λ (z : ℕ). (fields_of (get_or ws' (cell_place k z) 0)).waiters) same ∙ ap (λ (v : ℕ). (fields_of v).waiters) cell_now ∙ steady.0 (λ nobody. absurd (omega (arith, owned, some, nobody))) on)
        (λ other. ap (λ (v : ℕ). (fields_of v).waiters) (get_or-set_other s.words p (cell_place k l) n 0 (other_cell k m l other)) ∙ f.marks l lower e (sym (owner_same l) ∙ own));
  }

  all_left : (cs : List Card) → AllFit k s.words h.histories cs → AllFit k ws' h.histories cs
  all_left [] f = tt
  all_left (c ∷ cs) f = (fits_left c f.0, all_left cs f.1)

  -- where the card of who made it is this one then
  pub kept_left : (id : ℕ) (c d : Card) → get_elem? s.views id ≡ some (c ∷ []) → d.thread ≡ c.thread → d.changes ≡ put_changes c.changes p (changing k s h c m n) → Fits k ws' h.histories d → Kept k o record { words = ws'; homes = s.homes; views = set s.views id (d ∷ []) }
  kept_left id c d is same grows fit = record {
    layout = h.layout;
    wide = length-set s.words p n ∙ h.wide;
    histories = h.histories;
    leaves = λ l lower. dite (ℕ_discrete l m)
        (λ same. subst (λ (z : ℕ). Leaves k.threads (cell_place k z) (at h.histories (cell_place k z)) (says ws' (cell_place k z))) (sym same) (subst (Leaves k.threads p (at h.histories p)) (sym same_object) (h.leaves m low)))
        (λ other. subst (λ (v : ℕ). Leaves k.threads (cell_place k l) (at h.histories (cell_place k l)) (object_of (fields_of v))) (sym (get_or-set_other s.words p (cell_place k l) n 0 (other_cell k m l other))) (h.leaves l lower));
    legal = h.legal;
    narrow = λ l lower. dite (ℕ_discrete l m)
        (λ same. ap (λ (z : ℕ). (fields_of (get_or ws' (cell_place k z) 0)).rest) same ∙ ap (λ (v : ℕ). (fields_of v).rest) cell_now ∙ steady.1 (h.narrow m low))
        (λ other. ap (λ (v : ℕ). (fields_of v).rest) (get_or-set_other s.words p (cell_place k l) n 0 (other_cell k m l other)) ∙ h.narrow l lower);
    counters = λ q lower. subst (λ (v : ℕ). v < 4294967296) (sym (get_or-set_other s.words p (counter_place k q) n 0 (counter_no_cell k q m low))) (h.counters q lower);
    counted = counted_same k o s.words ws' h.histories h.histories h.layout h.counted (λ q lower. get_or-set_other s.words p (counter_place k q) n 0 (counter_no_cell k q m low)) (λ l lower. refl);
    fits = λ j v e. ⊎_elim
        (λ (u : (j ≡ id) × (d ∷ [] ≡ v)). subst (AllFit k ws' h.histories) u.1 (fit, tt))
        (λ (u : (j ≢ id) × (get_elem? s.views j ≡ some v)). all_left v (h.fits j v u.1))
        (at_set s.views id j (d ∷ []) v e);
    once = λ u.
        let cards = all_set u s.views id (c ∷ []) (d ∷ []) is in
        let alike : cards_of u (d ∷ []) ≡ cards_of u (c ∷ []) = ap (λ (t : ℕ). if◌then◌else◌ {A = ℕ} (t == u) 1 0 + 0) same in
        let once = h.once u in
        omega arith;
    recorded = recorded_change k s.words s.views h.recorded id c d p n (h.fits id (c ∷ []) is).0.thread is within h.once same grows (h.recorded.leave m low);
  }

-- where WAITERS is all that the word says, it may be 0
trimmed_right : (n : ℕ) (b : Bool) → (n == 0x8000_0000) ≡ b → (object_of (fields_of (either b 0 n)) ≡ object_of (fields_of n)) × ((fields_of (either b 0 n)).owner ≡ (fields_of n).owner) × Steady n (either b 0 n)
trimmed_right n true is =
    let alone : n ≡ 0x8000_0000 = eqb-true n 0x8000_0000 is in
    let nobody : (fields_of n).owner ≡ 0 = ap (λ (v : ℕ). (fields_of v).owner) alone in
    let clear : (fields_of 0).rest ≡ 0 = refl in
    (sym (ap (λ (v : ℕ). object_of (fields_of v)) alone), sym nobody, ((λ owned on. absurd (owned nobody)), λ was. clear))
trimmed_right n false is = (refl, refl, ((λ owned on. on), λ clear. clear))

-- an exchange from WAITERS alone to 0
pub trims : {o : List ℕ} (k : Layout') (slots id : ℕ) (c : Card) (m : ℕ) → m < k.mutexes
    → Allows (Kept k o) slots id (c ∷ [], []) (cell_place k m) (λ n. either (n == 0x8000_0000) 0 n) (trimmed (step slots (cell_place k m) 0x8000_0000 0 none) (c ∷ [], []))
trims {o} k slots id c m low s h deep is small =
    let p : ℕ = cell_place k m in
    let n : ℕ = get_or s.words p 0 in
    let v : ℕ = either (n == 0x8000_0000) 0 n in
    let right = trimmed_right n (n == 0x8000_0000) refl in
    let f = (h.fits id (c ∷ []) is).0 in
    let d : Card = noted c n (c.trims + 1) (put_changes c.changes p (changing k s h c m v)) in
    let left = fits_left k s h m low v right.0 right.1 right.2 c f in
    let writes : Writes c p n (if n == 0x8000_0000 then 0 else n) d = subst (λ (w : ℕ). Writes c p n w d) (cleared (n == 0x8000_0000) n) (writes_there k s.words s.views h.recorded id c d p v f.thread f.threads (h.recorded.leave m low) is refl) in (
      d ∷ [],
      keeps,
      tt,
      kept_left k s h m low v right.0 right.1 right.2 id c d is refl refl record { thread = left.thread; threads = left.threads; begins = left.begins; own = left.own; values = left.values; marks = left.marks },
      turns c d (λ c d. (0x8000_0000 ≡ 0x8000_0000) × (0 ≡ 0) × (d ≡ noted c n (c.trims + 1) d.changes) × Finds c p n × Writes c p n (if n == 0x8000_0000 then 0 else n) d) (refl, refl, refl, found k s h c m low f, writes),
    )
  where
    cleared : (b : Bool) (n : ℕ) → either b 0 n ≡ (if b then 0 else n)
    cleared true n = refl
    cleared false n = refl
