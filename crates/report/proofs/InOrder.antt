-- The parts that phases add, one after the other.
use Rattle.std.proofs.Common.{◌≡◌, ℕ, zero, suc, ◌+◌, ◌<◌, ◌≤◌, Bool, true, false, List, [], ◌∷◌, ◌++◌, length, map, take, slice_get, Vec, refl, sym, ap, ◌∙◌, subst, arith, append_assoc, append-nil}
use Rattle.std.specs.Prelude.{◌||◌}
use Rattle.std.specs.declared.alloc.Global.{Global}
use Rattle.lockword.specs.declared.reply.Reply.{Reply}
use Rattle.posixmutex.specs.declared.point.Point.{Point}
use Rattle.posixmutex.specs.declared.object.Object.{Object}
use Rattle.memorymap.specs.Layouts.{Layout', cell_place}
use Rattle.posixmutex.specs.Objects.{fresh, Run}
use Rattle.condvar.specs.declared.op.Op.{Op}
use Rattle.ruledwords.specs.declared.pass.Change.{Change}
use Rattle.ruledwords.specs.declared.pass.Words.{Words}
use Rattle.ruledwords.specs.Cards.{at}
use Rattle.ruledwords.specs.Deaths.{IsNoCell}
use Rattle.ruledwords.specs.Passes.{layout_of}
use Rattle.ruledwords.specs.Seen.{by}
use Rattle.script.specs.declared.workload.Phase.{Phase}
use Rattle.report.specs.declared.threads.Worker.{Worker}
use Rattle.report.specs.Histories.{ArePointsBehind, AreParts, TakesPart, some_died}
use Rattle.report.specs.Lone.{AreLone, ArePlayed, PlaysAlone, Rest}
use Rattle.report.specs.Parts.{Part}
use Rattle.report.specs.Threads.{calls_in, HasPassed, HavePassed}
use Rattle.report.proofs.LoneCalls.{Within}
use Rattle.report.proofs.LonePhases.{phase_played, AreKnown}
use Rattle.report.proofs.Parts.{points_through, replies_through}
use Rattle.report.proofs.Passed.{calls_of, gone_at, items_at, or_assoc, part_of, AreAbreast, abreast_again, passes_as}

or_none : (a : Bool) → a ≡ (a || false)
or_none true = refl
or_none false = refl

takes_same : (k : Layout') (i : ℕ) (g : Bool) (e e' : ℕ → List Point) (calls : List Op) (replies : List Reply) (died : Bool) (points : ℕ → List Point) → ((m : ℕ) → m < k.mutexes → e m ≡ e' m) → TakesPart k i g e calls replies died points → TakesPart k i g e' calls replies died points
takes_same k i true e e' calls replies died points same part = part
takes_same k i false e e' calls replies died points same part = (part.0, λ m low. subst (λ (l : List Point). ArePointsBehind k (i + 1) m (by (i + 1) l) calls replies died (by (i + 1) (points m))) (same m low) (part.1 m low))

pub parts_same : (k : Layout') (g g' : ℕ → Bool) (e e' : ℕ → List Point) (phases : List (ℕ → List Op)) (parts : List Part) → ((i : ℕ) → i < k.threads → g i ≡ g' i) → ((m : ℕ) → m < k.mutexes → e m ≡ e' m) → AreParts k g e phases parts → AreParts k g' e' phases parts
parts_same k g g' e e' [] [] gs es are = tt
parts_same k g g' e e' [] (q ∷ parts) gs es are = absurd are
parts_same k g g' e e' (calls ∷ phases) [] gs es are = absurd are
parts_same k g g' e e' (calls ∷ phases) (q ∷ parts) gs es are = (
  λ i low. subst (λ (b : Bool). TakesPart k i b e' (calls (i + 1)) (q.replies i) (q.died i) q.points) (gs i low) (takes_same k i (g i) e e' (calls (i + 1)) (q.replies i) (q.died i) q.points es (are.0 i low)),
  parts_same k (λ i. g i || q.died i) (λ i. g' i || q.died i) (λ m. e m ++ q.points m) (λ m. e' m ++ q.points m) phases parts (λ i low. ap (λ (b : Bool). b || q.died i) (gs i low)) (λ m low. ap (λ (l : List Point). l ++ q.points m) (es m low)) are.1,
)

-- ---- first phases in each of which one thread has calls

-- calls on mutexes that there are
abbrev pub AreWithin : Layout' → List Phase → Type 0
AreWithin k [] = Unit {0}
AreWithin k (p ∷ ps) = ((t : ℕ) → Within k (calls_in t p)) × AreWithin k ps

-- the first c of phases, from mutexes that all threads have seen so, and counters whose changes they know, and where nobody holds anything else
abbrev pub LoneFrom : Words → ℕ → List Phase → List Worker → List (List Point) → List (List Change) → List Part → List (List Change) → Type 0
LoneFrom w n ps us seen changes parts changed = (c : ℕ) (is : List ℕ) → AreLone n (take c (map calls_of ps)) is → AreWithin (layout_of w) ps → (os : ℕ → Object) → (vs : ℕ → ℕ) → AreKnown (layout_of w) changes vs → ((m : ℕ) → m < (layout_of w).mutexes → Run fresh (at seen (cell_place (layout_of w) m)) (os m))
    → ((j : ℕ) → j < n → gone_at us j ≡ false → (x : ℕ) → IsNoCell (layout_of w) x → by (j + 1) (at seen x) ≡ [])
    → (os' : ℕ → Object) × (vs' : ℕ → ℕ) × ArePlayed (layout_of w) (gone_at us) os vs (take c (map calls_of ps)) is (take c parts) os' vs'
    × ((m : ℕ) → m < (layout_of w).mutexes → Run fresh (at seen (cell_place (layout_of w) m) ++ points_through m (take c parts)) (os' m)) × (length ps ≤ c → AreKnown (layout_of w) changed vs')

pub played_same : (k : Layout') (n : ℕ) (g g' : ℕ → Bool) (os : ℕ → Object) (vs : ℕ → ℕ) (phases : List (ℕ → List Op)) (is : List ℕ) (parts : List Part) (os' : ℕ → Object) (vs' : ℕ → ℕ) → ((j : ℕ) → j < n → g j ≡ g' j) → AreLone n phases is → ArePlayed k g os vs phases is parts os' vs' → ArePlayed k g' os vs phases is parts os' vs'
played_same k n g g' os vs [] [] [] os' vs' same lone played = played
played_same k n g g' os vs [] [] (q ∷ parts) os' vs' same lone played = absurd played
played_same k n g g' os vs [] (i ∷ is) parts os' vs' same lone played = absurd lone
played_same k n g g' os vs (calls ∷ phases) [] parts os' vs' same lone played = absurd lone
played_same k n g g' os vs (calls ∷ phases) (i ∷ is) [] os' vs' same lone played = absurd played
played_same k n g g' os vs (calls ∷ phases) (i ∷ is) (q ∷ parts) os' vs' same lone played = (
  played.0,
  played.1,
  played.2,
  subst (λ (b : Bool). PlaysAlone k (i + 1) b os vs (calls (i + 1)) (q.replies i) (q.died i) played.1 played.2) (same i lone.0.inside) played.3,
  played_same k n (λ j. g j || q.died j) (λ j. g' j || q.died j) played.1 played.2 phases is parts os' vs' (λ j low. ap (λ (b : Bool). b || q.died j) (same j low)) lone.1 played.4,
)

-- no phase leaves all as it was
none_played : (k : Layout') (n : ℕ) (g : ℕ → Bool) (seen : List (List Point)) (is : List ℕ) (os : ℕ → Object) (vs : ℕ → ℕ) → AreLone n [] is → ((m : ℕ) → m < k.mutexes → Run fresh (at seen (cell_place k m)) (os m))
    → ArePlayed k g os vs [] is [] os vs × ((m : ℕ) → m < k.mutexes → Run fresh (at seen (cell_place k m) ++ []) (os m))
none_played k n g seen [] os vs lone stand = ((refl, refl), λ m low. subst (λ (l : List Point). Run fresh l (os m)) (sym (append-nil (at seen (cell_place k m)))) (stand m low))
none_played k n g seen (i ∷ is) os vs lone stand = absurd lone

lone_none : (w : Words) (n : ℕ) (us : List Worker) (seen : List (List Point)) (changes : List (List Change)) → LoneFrom w n [] us seen changes [] changes
lone_none w n us seen changes zero is lone within os vs known stand quiet = let none = none_played (layout_of w) n (gone_at us) seen is os vs lone stand in (os, vs, none.0, none.1, λ all. known)
lone_none w n us seen changes (suc c) is lone within os vs known stand quiet = let none = none_played (layout_of w) n (gone_at us) seen is os vs lone stand in (os, vs, none.0, none.1, λ all. known)

-- one phase before
lone_before : (w : Words) (n : ℕ) (p : Phase) (ps : List Phase) (us met : List Worker) (rs rs' : List (Vec Reply Global)) (seen : List (List Point)) (changed : List (List Change)) (parts : List Part) (h : HasPassed w p us met rs rs') (abreast : AreAbreast n seen us) → length rs ≡ n → (layout_of w).threads ≡ n → LoneFrom w n ps met h.meeting.know.seen h.meeting.know.changes parts changed
    → LoneFrom w n (p ∷ ps) us seen abreast.changes (part_of (layout_of w) seen h.meeting.know.seen us h.worked rs rs' ∷ parts) changed
lone_before w n p ps us met rs rs' seen changed parts h abreast long all rest zero is lone within os vs known stand quiet =
    let none = none_played (layout_of w) n (gone_at us) seen is os vs lone stand in (os, vs, none.0, none.1, λ most. absurd (omega (arith, most)))
lone_before w n p ps us met rs rs' seen changed parts h abreast long all rest (suc c) [] lone within os vs known stand quiet = absurd lone
lone_before w n p ps us met rs rs' seen changed parts h abreast long all rest (suc c) (i ∷ is) lone within os vs known stand quiet =
    let k : Layout' = layout_of w in
    let q : Part = part_of k seen h.meeting.know.seen us h.worked rs rs' in
    let first = phase_played w n p us met rs rs' seen h abreast long all i lone.0 os vs known stand quiet (within.0 (i + 1)) in
    let more = rest c is lone.1 within.1 first.mid first.counters first.known first.is first.quiet in
    let its = passes_as w n i seen p us met rs rs' h abreast long lone.0.inside in
    let dead : (j : ℕ) → j < n → gone_at met j ≡ (gone_at us j || q.died j) = λ j low. (passes_as w n j seen p us met rs rs' h abreast long low).dead in (
      more.0,
      more.1,
      (
        subst (λ (z : ℕ). Rest z i q) (sym all) first.rest,
        first.mid,
        first.counters,
        first.plays,
        played_same k n (gone_at met) (λ j. gone_at us j || q.died j) first.mid first.counters (take c (map calls_of ps)) is (take c parts) more.0 more.1 dead lone.1 more.2,
      ),
      λ m low. subst (λ (l : List Point). Run fresh l (more.0 m)) (ap (λ (l : List Point). l ++ points_through m (take c parts)) (its.on m low) ∙ append_assoc (at seen (cell_place k m)) (q.points m) (points_through m (take c parts))) (more.3 m low),
      λ most. more.4 (omega (arith, most)),
    )

-- the parts of phases, from what threads had seen and were replied before them
pub record Through (w : Words) (n : ℕ) (ps : List Phase) (us vs : List Worker) (rs rs' : List (Vec Reply Global)) (seen : List (List Point)) (changes : List (List Change)) : Type 0 where
  pub parts : List Part
  pub last : List (List Point)
  pub are : AreParts (layout_of w) (gone_at us) (λ m. at seen (cell_place (layout_of w) m)) (map calls_of ps) parts
  pub history : (m : ℕ) → m < (layout_of w).mutexes → at last (cell_place (layout_of w) m) ≡ at seen (cell_place (layout_of w) m) ++ points_through m parts
  pub answered : (i : ℕ) → i < n → items_at rs' i ≡ items_at rs i ++ replies_through i parts
  pub dead : (i : ℕ) → i < n → gone_at vs i ≡ (gone_at us i || some_died i parts)
  pub abreast : AreAbreast n last vs
  pub lone : LoneFrom w n ps us seen changes parts abreast.changes

pub through : (w : Words) (n : ℕ) (ps : List Phase) (us vs : List Worker) (rs rs' : List (Vec Reply Global)) (seen : List (List Point)) → (layout_of w).threads ≡ n → 1 ≤ n → (abreast : AreAbreast n seen us) → length rs ≡ n → HavePassed w ps us rs vs rs' → Through w n ps us vs rs rs' seen abreast.changes
through w n [] us vs rs rs' seen all some abreast long passed = record {
  parts = [];
  last = seen;
  are = tt;
  history = λ m low. sym (append-nil (at seen (cell_place (layout_of w) m)));
  answered = λ i low. ap (λ (l : List (Vec Reply Global)). items_at l i) (sym passed.1) ∙ sym (append-nil (items_at rs i));
  dead = λ i low. ap (λ (l : List Worker). gone_at l i) (sym passed.0) ∙ or_none (gone_at us i);
  abreast = record { as_many = ap length (sym passed.0) ∙ abreast.as_many; each = λ i u is. abreast.each i u (ap (λ (l : List Worker). slice_get l i) passed.0 ∙ is); changes = abreast.changes; know = λ i u is. abreast.know i u (ap (λ (l : List Worker). slice_get l i) passed.0 ∙ is) };
  lone = lone_none w n us seen abreast.changes;
}
through w n (p ∷ ps) us vs rs rs' seen all some abreast long passed =
    let k : Layout' = layout_of w in
    let met : List Worker = passed.0 in
    let more : List (Vec Reply Global) = passed.1 in
    let h : HasPassed w p us met rs more = passed.2 in
    let seen' : List (List Point) = h.meeting.know.seen in
    let q : Part = part_of k seen seen' us h.worked rs more in
    let again = abreast_again w n seen p us met rs more h abreast long in
    let rest = through w n ps met vs more rs' seen' all some again (h.work.as_long ∙ long) passed.3 in
    let first = passes_as w n 0 seen p us met rs more h abreast long (omega arith) in record {
      parts = q ∷ rest.parts;
      last = rest.last;
      are = (
        λ i low. (passes_as w n i seen p us met rs more h abreast long (omega (arith, low, all))).part,
        parts_same k (gone_at met) (λ i. gone_at us i || q.died i) (λ m. at seen' (cell_place k m)) (λ m. at seen (cell_place k m) ++ q.points m) (map calls_of ps) rest.parts
            (λ i low. (passes_as w n i seen p us met rs more h abreast long (omega (arith, low, all))).dead) first.on rest.are,
      );
      history = λ m low. rest.history m low ∙ ap (λ (l : List Point). l ++ points_through m rest.parts) (first.on m low) ∙ append_assoc (at seen (cell_place k m)) (q.points m) (points_through m rest.parts);
      answered = λ i low. rest.answered i low ∙ ap (λ (l : List Reply). l ++ replies_through i rest.parts) (passes_as w n i seen p us met rs more h abreast long low).answered ∙ append_assoc (items_at rs i) (q.replies i) (replies_through i rest.parts);
      dead = λ i low. rest.dead i low ∙ ap (λ (b : Bool). b || some_died i rest.parts) (passes_as w n i seen p us met rs more h abreast long low).dead ∙ or_assoc (gone_at us i) (q.died i) (some_died i rest.parts);
      abreast = rest.abreast;
      lone = lone_before w n p ps us met rs more seen rest.abreast.changes rest.parts h abreast long all rest.lone;
    }
