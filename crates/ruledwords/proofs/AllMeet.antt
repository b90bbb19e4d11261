-- All cards that meet.
use mathlib.Core.Path.{fun_ext}
use Rattle.std.proofs.Common.{Bool, true, false, ◌≡◌, ⊎_elim, ℕ, zero, suc, ◌+◌, ◌<◌, ◌==◌, ◌≢◌, Option, Some, List, [], ◌∷◌, ◌++◌, length, get_or, set, drop, take, map, slice_get, All, refl, sym, ap, ◌∙◌, subst, arith}
use Rattle.std.specs.Prelude.{Result, Ok, Err, IfOk, Vec, if◌then◌else◌}
use Rattle.std.specs.declared.alloc.AllocError.{AllocError}
use Rattle.std.specs.declared.alloc.Global.{Global}
use mathlib.Core.Option.{none, some}
use lib.ListN.{get_elem?}
use lib.Seq.{set-get_or}
use Rattle.atomic_table.specs.Table.{step, keeps, Allows}
use Rattle.atomic_table.proofs.Lists.{at_set}
use Rattle.posixmutex.specs.declared.object.Object.{Object}
use Rattle.posixmutex.specs.declared.point.Point.{Point}
use Rattle.memorymap.specs.Layouts.{Layout', cell_place}
use Rattle.ruledwords.specs.declared.pass.Card.{Card}
use Rattle.ruledwords.specs.declared.pass.Change.{Change}
use Rattle.ruledwords.specs.declared.pass.EitherPass.{EitherPass}
use Rattle.ruledwords.specs.declared.pass.EitherPass.TheVariants.{First, Second}
use Rattle.ruledwords.specs.declared.pass.Words.{Words}
use Rattle.ruledwords.specs.declared.away.Away.{Away}
use Rattle.ruledwords.specs.Aways.{away_of, kind_of, AreTheirs, IsAt}
use Rattle.ruledwords.specs.Cards.{at}
use Rattle.ruledwords.specs.Changes.{changes_at, AllTied, AreBehindFirst, Tied}
use Rattle.mutex.specs.WholeLists.{HasList, CanBeWalked, IsOwnPlace}
use Rattle.ruledwords.specs.Lists.{known, StaysSo}
use Rattle.ruledwords.specs.Meetings.{behind_meeting, card_in, is_first, met_all, ComesToKnow, HaveMet, IsEitherOf, KnowAll}
use Rattle.ruledwords.specs.OwnWords.{owns_in, KnowsOwn}
use Rattle.ruledwords.specs.Passes.{layout_of, IsCardOf}
use Rattle.ruledwords.specs.Rules.{AllFit, Kept, Sat, cards_of, first_of, rest_of}
use Rattle.ruledwords.specs.Seen.{held, held_after, Leaves}
use Rattle.ruledwords.proofs.Changes.{recorded_set, tied_self}
use Rattle.ruledwords.proofs.Held.{count_same}
use Rattle.ruledwords.proofs.Lists.{prefix_self, all_set}

fit_known : (k : Layout') (ws : List ℕ) (js : List (List Point)) (zs : List (List Change)) (cs : List Card) → AllFit k ws js cs → AllFit k ws js (map (behind_meeting js zs) cs)
fit_known k ws js zs [] f = tt
fit_known k ws js zs (c ∷ cs) f = (
  record { thread = f.0.thread; threads = f.0.threads; begins = λ p. prefix_self (at js p); own = λ p. refl; values = f.0.values; marks = f.0.marks },
  fit_known k ws js zs cs f.1,
)

tied_known : (n : ℕ) (js : List (List Point)) (zs : List (List Change)) (cs : List Card) → AllTied n zs cs → AllTied n zs (map (behind_meeting js zs) cs)
tied_known n js zs [] f = tt
tied_known n js zs (c ∷ cs) f = (tied_self n zs c.thread, tied_known n js zs cs f.1)

cards_known : (t : ℕ) (js : List (List Point)) (zs : List (List Change)) (cs : List Card) → cards_of t (map (behind_meeting js zs) cs) ≡ cards_of t cs
cards_known t js zs [] = refl
cards_known t js zs (c ∷ cs) = ap (λ (n : ℕ). (if c.thread == t then 1 else 0) + n) (cards_known t js zs cs)

all_come : (k : Layout') (ws : List ℕ) (js : List (List Point)) (zs : List (List Change)) (cs : List Card) → ((p : ℕ) → (o : Object) × Leaves k.threads p (at js p) o) → ((p : ℕ) → AreBehindFirst k.threads (changes_at zs p)) → AllFit k ws js cs → AllTied k.threads zs cs
    → (i : ℕ) (d : Card) → i < length cs → ComesToKnow js zs (get_or cs i d)
all_come k ws js zs [] legal authors f z i d low = absurd (omega arith)
all_come k ws js zs (c ∷ cs) legal authors f z zero d low = record {
  legal = λ p. let l = legal p in (l.0, subst (λ (n : ℕ). Leaves n p (at js p) l.0) (sym f.0.threads) l.1);
  begins = f.0.begins;
  own = λ p. sym (f.0.own p);
  tied = subst (λ (n : ℕ). Tied n zs c.thread c.changes) (sym f.0.threads) z.0;
  authors = λ p. subst (λ (n : ℕ). AreBehindFirst n (changes_at zs p)) (sym f.0.threads) (authors p);
}
all_come k ws js zs (c ∷ cs) legal authors f z (suc i) d low = all_come k ws js zs cs legal authors f.1 z.1 i d (omega arith)

-- cards of one seat that looks see all that has happened
pub meets_all : {o : List ℕ} (k : Layout') (slots id i : ℕ) (cs : List Card) → Allows (Kept k o) slots id (cs, []) i (λ n. n) (met_all (step slots i 0 0 none) (cs, []))
meets_all {o} k slots id i cs s h deep is small =
    let js = h.histories in
    let zs = h.recorded.changes in
    let f = h.fits id cs is in
    let ds : List Card = map (behind_meeting js zs) cs in
    let words = set-get_or s.words i 0 in (
      ds,
      keeps,
      tt,
      subst (λ (ws : List ℕ). Kept k o record { words = ws; homes = s.homes; views = set s.views id ds }) (sym words) record {
        layout = h.layout;
        wide = h.wide;
        histories = js;
        leaves = h.leaves;
        legal = h.legal;
        narrow = h.narrow;
        counters = h.counters;
        counted = h.counted;
        fits = λ j w e. ⊎_elim
            (λ (t : (j ≡ id) × (ds ≡ w)). subst (AllFit k s.words js) t.1 (fit_known k s.words js zs cs f))
            (λ (t : (j ≢ id) × (get_elem? s.views j ≡ some w)). h.fits j w t.1)
            (at_set s.views id j ds w e);
        once = λ t. let a = all_set t s.views id cs ds is in let b = h.once t in let c = cards_known t js zs cs in omega arith;
        recorded = recorded_set k s.words s.views id cs ds is h.recorded (tied_known k.threads js zs cs);
      },
      λ x e. (
        ds,
        refl,
        subst (λ (z : List Card). KnowAll z ds) (ap (λ (m : List Card × List (ℕ × Unit {0})). m.0) e)
            record { seen = js; changes = zs; each = all_come k s.words js zs cs h.legal h.recorded.authors f (h.recorded.tied id cs is); after = refl },
      ),
    )

-- ---- what each holds

pub known_held : (seen : List (List Point)) (changes : List (List Change)) (c : Card) → ComesToKnow seen changes c → held (behind_meeting seen changes c) ≡ held c
known_held seen changes c come = count_same c.thread seen c.seen (λ p. ap (held_after false) (come.own p))

-- who was alive is so still, and who was dead
known_stays : (k : Layout') (c : Card) (seen : List (List Point)) (changes : List (List Change)) → ComesToKnow seen changes c → StaysSo k c (behind_meeting seen changes c)
known_stays k c seen changes come = (
  (λ alive. record { knows = knows alive.knows; list = subst (λ (owns : ℕ → Bool). HasList k c.thread owns (known k c)) (sym same) alive.list }),
  (λ mortal. record { knows = knows mortal.knows; list = subst (λ (owns : ℕ → Bool). CanBeWalked k c.thread owns (known k c)) (sym same) mortal.list }),
) where
  same : owns_in k (behind_meeting seen changes c) ≡ owns_in k c
  same = fun_ext (λ m. ap (held_after false) (come.own (cell_place k m)))

  knows : KnowsOwn k c → KnowsOwn k (behind_meeting seen changes c)
  knows all = record { each = λ p mine. all.each p (subst (λ (owns : ℕ → Bool). IsOwnPlace k c.thread owns p) same mine); offset = all.offset }

known_card : (k : Layout') (c : Card) (seen : List (List Point)) (changes : List (List Change)) → IsCardOf k c → ComesToKnow seen changes c → IsCardOf k (behind_meeting seen changes c)
known_card k c seen changes is come = record { layout = is.layout; threads = is.threads; first = is.first; thread = is.thread; base = is.base; legal = come.legal }

-- ---- lists

unmapped : {X Y : Type 0} (f : X → Y) (xs : List X) (i : ℕ) (y : Y) → slice_get (map f xs) i ≡ Some y → (x : X) × (slice_get xs i ≡ Some x) × (f x ≡ y)
unmapped f [] i y is = absurd (cc is)
unmapped f (x ∷ xs) zero y is = (x, refl, cc is)
unmapped f (x ∷ xs) (suc i) y is = unmapped f xs i y is

mapped : {X Y : Type 0} (f : X → Y) (xs : List X) (i : ℕ) (x : X) → slice_get xs i ≡ Some x → slice_get (map f xs) i ≡ Some (f x)
mapped f [] i x is = absurd (cc is)
mapped f (y ∷ xs) zero x is = let same : y ≡ x = cc is in ap (λ (z : _). Some (f z)) same
mapped f (y ∷ xs) (suc i) x is = mapped f xs i x is

length_mapped : {X Y : Type 0} (f : X → Y) (xs : List X) → length (map f xs) ≡ length xs
length_mapped f [] = refl
length_mapped f (x ∷ xs) = ap suc (length_mapped f xs)

one_value : {X : Type 0} (x y : X) (o : Option X) → o ≡ Some x → o ≡ Some y → x ≡ y
one_value x y o e f = some_same (sym e ∙ f) where
  some_same : Some x ≡ Some y → x ≡ y
  some_same e = cc e

get_all : {X : Type 0} (P : X → Type 0) (xs : List X) (i : ℕ) (x : X) → All P xs → slice_get xs i ≡ Some x → P x
get_all P [] i x all is = absurd (cc is)
get_all P (y ∷ xs) zero x all is = let same : y ≡ x = cc is in subst P same (all 0 x (omega arith))
get_all P (y ∷ xs) (suc i) x all is = get_all P xs i x (λ j d low. all (suc j) d (omega (arith, low))) is

pub there : {X : Type 0} (xs : List X) (i : ℕ) (d : X) → i < length xs → slice_get xs i ≡ Some (get_or xs i d)
there [] i d low = absurd (omega arith)
there (x ∷ xs) zero d low = refl
there (x ∷ xs) (suc i) d low = there xs i d (omega arith)

-- the card of each that met
known_at : (cs ds : List Card) (k : KnowAll cs ds) (i : ℕ) (c d : Card) → slice_get cs i ≡ Some c → slice_get ds i ≡ Some d → d ≡ behind_meeting k.seen k.changes c
known_at cs ds k i c d is is' = one_value d (behind_meeting k.seen k.changes c) (slice_get ds i) is' (ap (λ (l : List Card). slice_get l i) k.after ∙ mapped (behind_meeting k.seen k.changes) cs i c is)

module _ {A B : Type 0} where
  pub kinds_are : (ps : List (EitherPass A B)) → map kind_of (map away_of ps) ≡ map is_first ps
  kinds_are [] = refl
  kinds_are (First p ∷ ps) = ap (λ (l : List Bool). true ∷ l) (kinds_are ps)
  kinds_are (Second p ∷ ps) = ap (λ (l : List Bool). false ∷ l) (kinds_are ps)

  facts : (p : EitherPass A B) → ((card_in p).thread ≡ (away_of p).thread) × ((away_of p).held ≡ held (card_in p))
  facts (First p) = (p.own, p.count)
  facts (Second p) = (p.own, p.count)

  pub theirs : (ps : List (EitherPass A B)) (ds : List Card) → KnowAll (map card_in ps) ds → AreTheirs (map away_of ps) ds
  theirs ps ds k i a d is_a is_d =
      let p = unmapped away_of ps i a is_a in
      let c : Card = card_in p.0 in
      let there' = mapped card_in ps i p.0 p.1 in
      let come = get_all (ComesToKnow k.seen k.changes) (map card_in ps) i c k.each there' in
      let same = known_at (map card_in ps) ds k i c d there' is_d in
      let its = facts p.0 in (
        ap (λ (z : Card). z.thread) same ∙ its.0 ∙ ap (λ (z : Away). z.thread) p.2,
        sym (ap (λ (z : Away). z.held) p.2) ∙ its.1 ∙ sym (known_held k.seen k.changes c come) ∙ ap held (sym same),
      )

  pub as_many : (ps : List (EitherPass A B)) (ds : List Card) → KnowAll (map card_in ps) ds → length ds ≡ length (map away_of ps)
  as_many ps ds k = ap length k.after ∙ length_mapped (behind_meeting k.seen k.changes) (map card_in ps) ∙ length_mapped card_in ps ∙ sym (length_mapped away_of ps)

  either_of : (w : Words) (q : EitherPass A B) → IsAt w q → IsCardOf (layout_of w) (card_in q) → IsEitherOf w q
  either_of w (First q) at is = (at, is)
  either_of w (Second q) at is = (at, is)

  card_of_either : (w : Words) (q : EitherPass A B) → IsEitherOf w q → IsCardOf (layout_of w) (card_in q)
  card_of_either w (First q) is = is.1
  card_of_either w (Second q) is = is.1

  pub all_of : (w : Words) (ps qs : List (EitherPass A B)) → All (IsEitherOf w) ps → KnowAll (map card_in ps) (map card_in qs) → All (IsAt w) qs → (i : ℕ) (d : EitherPass A B) → i < length qs → IsEitherOf w (get_or qs i d)
  all_of w ps qs all k at i d low =
      let q : EitherPass A B = get_or qs i d in
      let is_q = mapped card_in qs i q (there qs i d low) in
      let many : length qs ≡ length ps = sym (length_mapped card_in qs) ∙ ap length k.after ∙ length_mapped (behind_meeting k.seen k.changes) (map card_in ps) ∙ length_mapped card_in ps in
      let p : EitherPass A B = get_or ps i d in
      let is = there ps i d (omega (arith, low, many)) in
      let is_p = mapped card_in ps i p is in
      let come = get_all (ComesToKnow k.seen k.changes) (map card_in ps) i (card_in p) k.each is_p in
      let same = known_at (map card_in ps) (map card_in qs) k i (card_in p) (card_in q) is_p is_q in
      either_of w q (at i d low) (subst (IsCardOf (layout_of w)) (sym same) (known_card (layout_of w) (card_in p) k.seen k.changes (card_of_either w p (get_all (IsEitherOf w) ps i p all is)) come))

  pub all_stay : (w : Words) (ps qs : List (EitherPass A B)) → KnowAll (map card_in ps) (map card_in qs) → (i : ℕ) (c d : Card) → slice_get (map card_in ps) i ≡ Some c → slice_get (map card_in qs) i ≡ Some d → StaysSo (layout_of w) c d
  all_stay w ps qs k i c d is is' =
      let come = get_all (ComesToKnow k.seen k.changes) (map card_in ps) i c k.each is in
      subst (StaysSo (layout_of w) c) (sym (known_at (map card_in ps) (map card_in qs) k i c d is is')) (known_stays (layout_of w) c k.seen k.changes come)

  -- the passes that met
  pub met_if : (w : Words) (ps : List (EitherPass A B)) (aways : List Away) (ds : List Card) (r : Result (Vec (EitherPass A B) Global) AllocError) → All (IsEitherOf w) ps → KnowAll (map card_in ps) ds → aways ≡ map away_of ps
      → IfOk r (λ v. map card_in v.items ≡ ds) → IfOk r (λ v. map is_first v.items ≡ map kind_of aways) → IfOk r (λ v. All (IsAt w) v.items) → IfOk r (λ v. HaveMet w ps v.items)
  met_if w ps aways ds (Ok v) all k same cards kinds at =
      let k' = subst (KnowAll (map card_in ps)) (sym cards) k in
      record { kinds = kinds ∙ ap (map kind_of) same ∙ kinds_are ps; know = k'; of = all_of w ps v.items all k' at; lists = all_stay w ps v.items k' }
  met_if w ps aways ds (Err e) all k same cards kinds at = cards

  pub none_met : (w : Words) (ps : List (EitherPass A B)) → map card_in ps ≡ [] → HaveMet w ps []
  none_met w [] empty = record { kinds = refl; know = record { seen = []; changes = []; each = λ i d low. absurd (omega (arith, low)); after = refl }; of = λ i d low. absurd (omega (arith, low)); lists = λ i c d is is'. absurd (cc is) }
  none_met w (p ∷ ps) empty = absurd (cc empty)

-- the seat that has all of them
pub at_all : {o : List ℕ} (k : Layout') (slots id i : ℕ) (me : Sat) (cs : List Card) → me ≡ (cs, []) → Allows (Kept k o) slots id me i (λ n. n) (met_all (step slots i 0 0 none) me)
at_all {o} k slots id i me cs is = subst (λ (z : Sat). Allows (Kept k o) slots id z i (λ n. n) (met_all (step slots i 0 0 none) z)) (sym is) (meets_all k slots id i cs)

-- the next card that is dealt
pub dealt_next : (ds : List Card) (i : ℕ) → i < length ds → (d : Card) × (slice_get ds i ≡ Some d) × (first_of (drop i ds) ≡ d ∷ []) × (rest_of (drop i ds) ≡ drop (suc i) ds) × (take (suc i) ds ≡ take i ds ++ d ∷ [])
dealt_next [] i low = absurd (omega (arith, low))
dealt_next (d ∷ ds) zero low = (d, refl, refl, refl, refl)
dealt_next (d ∷ ds) (suc i) low = let r = dealt_next ds i (omega (arith, low)) in (r.0, r.1, r.2, r.3, ap (λ (l : List Card). d ∷ l) r.4)
