-- A look at a cell keeps the rule.
use Rattle.std.proofs.Common.{◌≡◌, ◌≢◌, ⊎_elim, ℕ, ◌<◌, List, [], ◌∷◌, ◌++◌, refl, sym, ap, ◌∙◌, subst, arith, get_or, set}
use mathlib.Core.Option.{none, some}
use lib.ListN.{get_elem?}
use lib.Seq.{set-get_or}
use Rattle.atomic_table.specs.Table.{step, keeps, Allows}
use Rattle.atomic_table.proofs.Lists.{at_set}
use Rattle.lockword.specs.Cells.{fields_of}
use Rattle.posixmutex.specs.declared.point.Point.{Point}
use Rattle.memorymap.specs.Layouts.{Layout', cell_place}
use Rattle.posixmutex.specs.Objects.{object_of}
use Rattle.ruledwords.specs.declared.pass.Card.{Card}
use Rattle.ruledwords.specs.Cards.{at}
use Rattle.ruledwords.specs.Seen.{by, Leaves}
use Rattle.ruledwords.specs.Rules.{Kept, Fits, AllFit}
use Rattle.ruledwords.specs.Looks.{Finds, noted, looked}
use Rattle.ruledwords.proofs.Changes.{recorded_set}
use Rattle.ruledwords.proofs.Lists.{by_append, no_more, all_set}
use Rattle.ruledwords.proofs.Moves.{St, turns}

-- what a card's thread finds
pub found : {o : List ℕ} (k : Layout') (s : St) (h : Kept k o s) (c : Card) (m : ℕ) → m < k.mutexes → Fits k s.words h.histories c → Finds c (cell_place k m) (get_or s.words (cell_place k m) 0)
found k s h c m low f =
    let p : ℕ = cell_place k m in
    let mine : List Point = at c.seen p in
    let since : List Point = (f.begins p).0 in
    let alone : by c.thread mine ++ by c.thread since ≡ by c.thread mine = sym (by_append c.thread mine since) ∙ ap (by c.thread) (f.begins p).1 ∙ sym (f.own p) in (
      since,
      subst (λ (z : ℕ × List Point). Leaves z.0 p z.1 (object_of (fields_of (get_or s.words p 0)))) (λ i. (sym f.threads i, sym (f.begins p).1 i)) (h.leaves m low),
      no_more (by c.thread mine) (by c.thread since) alone,
      h.narrow m low,
    )

-- a card that notes what it found
pub kept_noted : {o : List ℕ} (k : Layout') (s : St) (h : Kept k o s) (id : ℕ) (c : Card) (n t : ℕ) → get_elem? s.views id ≡ some (c ∷ []) → Kept k o record { words = s.words; homes = s.homes; views = set s.views id (noted c n t c.changes ∷ []) }
kept_noted k s h id c n t is = let f = (h.fits id (c ∷ []) is).0 in record {
  layout = h.layout;
  wide = h.wide;
  histories = h.histories;
  leaves = h.leaves;
  legal = h.legal;
  narrow = h.narrow;
  counters = h.counters;
  counted = h.counted;
  fits = λ j w e. ⊎_elim
      (λ (u : (j ≡ id) × (noted c n t c.changes ∷ [] ≡ w)). subst (AllFit k s.words h.histories) u.1 (record { thread = f.thread; threads = f.threads; begins = f.begins; own = f.own; values = f.values; marks = f.marks }, tt))
      (λ (u : (j ≢ id) × (get_elem? s.views j ≡ some w)). h.fits j w u.1)
      (at_set s.views id j (noted c n t c.changes ∷ []) w e);
  once = λ u. let same = all_set u s.views id (c ∷ []) (noted c n t c.changes ∷ []) is in let once = h.once u in omega arith;
  recorded = recorded_set k s.words s.views id (c ∷ []) (noted c n t c.changes ∷ []) is h.recorded (λ f. f);
}

pub looks : {o : List ℕ} (k : Layout') (slots id : ℕ) (c : Card) (m : ℕ) → m < k.mutexes → Allows (Kept k o) slots id (c ∷ [], []) (cell_place k m) (λ n. n) (looked (step slots (cell_place k m) 0 0 none) (c ∷ [], []))
looks {o} k slots id c m low s h deep is small =
    let p : ℕ = cell_place k m in
    let n : ℕ = get_or s.words p 0 in
    let f = (h.fits id (c ∷ []) is).0 in
    let d : Card = noted c n c.trims c.changes in (
      d ∷ [],
      keeps,
      tt,
      subst (λ (z : List ℕ). Kept k o record { words = z; homes = s.homes; views = set s.views id (d ∷ []) }) (sym (set-get_or s.words p 0)) (kept_noted k s h id c n c.trims is),
      turns c d (λ c d. (d ≡ noted c n c.trims c.changes) × Finds c p n) (refl, found k s h c m low f),
    )
