-- What calls returned, and which of them died, is in one history, phase by phase.
use Rattle.std.proofs.Common.{◌≡◌, ℕ, zero, suc, ◌+◌, ◌-◌, ◌<◌, ◌≤◌, Bool, false, Option, Some, List, [], ◌∷◌, ◌++◌, length, map, take, get_or, slice_get, Vec, All, refl, sym, ap, ◌∙◌, subst, arith, append-nil, eq-eqb}
use Rattle.std.specs.Prelude.{◌||◌, if◌then◌else◌}
use Rattle.std.proofs.lemmas.Option.{slice_get_within}
use Rattle.std.specs.declared.alloc.Global.{Global}
use Rattle.lockword.specs.Cells.{fields_of}
use Rattle.lockword.specs.declared.reply.Reply.{Reply}
use Rattle.posixmutex.specs.declared.point.Point.{Point}
use Rattle.memorymap.specs.Layouts.{Layout', IsLayout, cell_place, counter_place}
use Rattle.posixmutex.specs.declared.object.Object.{Object}
use Rattle.posixmutex.specs.Histories.{opening}
use Rattle.posixmutex.specs.Objects.{fresh, object_of, Run}
use Rattle.condvar.specs.declared.op.Op.{Op}
use Rattle.ruledwords.specs.declared.pass.Card.{Card}
use Rattle.ruledwords.specs.declared.pass.Change.{Change}
use Rattle.ruledwords.specs.declared.pass.Words.{Words}
use Rattle.ruledwords.specs.declared.pass.Live.{Live}
use Rattle.ruledwords.specs.declared.pass.Pass.{Pass}
use Rattle.ruledwords.specs.Cards.{at}
use Rattle.ruledwords.specs.Changes.{behind_unknown, changes_at, first_changes, left_by, made_by, AllTied, AreBehindFirst, AreBy, Tied}
use Rattle.ruledwords.specs.Passes.{card, layout_of, last_words, presets_of}
use Rattle.ruledwords.specs.Rules.{first_card, first_known, IsAmong}
use Rattle.ruledwords.specs.Seen.{by, AllOf, Leaves}
use Rattle.script.specs.declared.workload.Phase.{Phase}
use Rattle.threadbench.specs.declared.job.WorkerPass.{WorkerPass}
use Rattle.threadbench.specs.declared.job.WorkerPass.TheVariants.{Lives, Reaped}
use Rattle.threadbench.specs.Answered.{card_in, IsWorkerOf}
use Rattle.report.specs.declared.threads.Worker.{Worker}
use Rattle.report.specs.Histories.{ArePointsBehind, AreParts, IsCountOf, StandInOrder, StandTogether, some_died}
use Rattle.report.specs.Lone.{AreLone, ArePlayed}
use Rattle.report.specs.Meetings.{is_reaped}
use Rattle.report.specs.Threads.{AreRightPhases, calls_in, calls_over, AreFirst, HaveMade, HasEnded, HaveReplies}
use Rattle.streams.proofs.Listed.{mapped_at}
use Rattle.report.proofs.Parts.{by_append, calls_through, counted, lived, points_through, replies_through}
use Rattle.report.proofs.InOrder.{AreWithin, Through, parts_same, played_same, through}
use Rattle.report.proofs.LoneCounters.{made_none}
use Rattle.report.proofs.LonePhases.{AreKnown}
use Rattle.report.proofs.Passed.{calls_of, AreAbreast, gone_at, gone_is, items_are, items_at}
use Rattle.report.proofs.Phases.{all_at, its_end, length_mapped, some_at}
use Rattle.report.proofs.Told.{counted_up}
use Rattle.report.proofs.Within.{all_within}

abbrev phases_of : List Phase → List (ℕ → List Op)
phases_of ps = map (λ (p : Phase). λ (t : ℕ). calls_in t p) ps

calls_same : (t : ℕ) (ps : List Phase) → calls_through t (phases_of ps) ≡ calls_over t ps
calls_same t [] = refl
calls_same t (p ∷ ps) = ap (λ (l : List Op). calls_in t p ++ l) (calls_same t ps)

-- points of these threads of which none of them made one are none
nobodys : (n p : ℕ) (xs ys : List Point) → AllOf n p (xs ++ ys) → ((t : ℕ) → 1 ≤ t → t ≤ n → by t ys ≡ []) → ys ≡ []
nobodys n p (x ∷ xs) ys of none = nobodys n p xs ys of.1 none
nobodys n p [] [] of none = refl
nobodys n p [] (y ∷ ys) of none = absurd (cc (sym first ∙ none y.thread of.0.1 of.0.2)) where
  first : by y.thread (y ∷ ys) ≡ y ∷ by y.thread ys
  first = ap (λ (b : Bool). if b then y ∷ by y.thread ys else by y.thread ys) (eq-eqb y.thread y.thread refl)

empty_items : (rs : List (Vec Reply Global)) (i : ℕ) → All (λ r. r.items ≡ []) rs → items_at rs i ≡ []
empty_items rs i empty = go rs i (λ j r is. all_at (λ (r : Vec Reply Global). r.items ≡ []) rs j r empty is) where
  go : (qs : List (Vec Reply Global)) (i : ℕ) → ((j : ℕ) (r : Vec Reply Global) → slice_get qs j ≡ Some r → r.items ≡ []) → items_at qs i ≡ []
  go [] i each = refl
  go (r ∷ qs) zero each = each 0 r refl
  go (r ∷ qs) (suc i) each = go qs i (λ j x is. each (suc j) x is)

-- what everybody knows of counters at first
unknown_before : (n q : ℕ) (xs : List (List Change)) (p : ℕ) → p ≡ n + q → changes_at (behind_unknown n xs) p ≡ changes_at xs q
unknown_before zero q xs p is = let e : p ≡ q = omega (arith, is) in ap (changes_at xs) e
unknown_before (suc n) q xs zero is = absurd (omega (arith, is))
unknown_before (suc n) q xs (suc p) is = unknown_before n q xs p (omega (arith, is))

preset_at : (ns : List ℕ) (q : ℕ) → q < length ns → changes_at (first_changes ns) q ≡ record { thread = 0; word = get_or ns q 0 } ∷ []
preset_at [] q low = absurd (omega arith)
preset_at (n ∷ ns) zero low = refl
preset_at (n ∷ ns) (suc q) low = preset_at ns q (omega (arith, low))

known_first : (k : Layout') (presets : List ℕ) → length presets ≡ length k.conditions → AreKnown k (first_known k presets) (λ q. get_or presets q 0)
known_first k presets many q low = (
  record { thread = 0; word = get_or presets q 0 },
  [],
  unknown_before (counter_place k 0) q (first_changes presets) (counter_place k q) (omega arith) ∙ preset_at presets q (omega (arith, low, many)),
  refl,
)

tied_at : (n : ℕ) (xs : List (List Change)) (cs : List Card) (i : ℕ) (c : Card) → AllTied n xs cs → slice_get cs i ≡ Some c → Tied n xs c.thread c.changes
tied_at n xs [] i c tied is = absurd (cc is)
tied_at n xs (d ∷ cs) zero c tied is = let same : d ≡ c = cc is in subst (λ (z : Card). Tied n xs z.thread z.changes) same tied.0
tied_at n xs (d ∷ cs) (suc i) c tied is = tied_at n xs cs i c tied.1 is

-- changes by these threads of which none of them made one are none
nobodys_at_all : (n : ℕ) (xs ys : List Change) → AreBy n (xs ++ ys) → ((t : ℕ) → 1 ≤ t → t ≤ n → made_by t ys ≡ []) → ys ≡ []
nobodys_at_all n (x ∷ xs) ys of none = nobodys_at_all n xs ys of.1 none
nobodys_at_all n [] [] of none = refl
nobodys_at_all n [] (y ∷ ys) of none = absurd (cc (sym first ∙ none y.thread of.0.0 of.0.1)) where
  first : made_by y.thread (y ∷ ys) ≡ y ∷ made_by y.thread ys
  first = ap (λ (b : Bool). if b then y ∷ made_by y.thread ys else made_by y.thread ys) (eq-eqb y.thread y.thread refl)

module _ (w : Words) (ps : List Phase) (passes : List (Pass Live)) (dies : List (Option ℕ)) (firsts workers : List Worker) (replies : List (Vec Reply Global)) (died : List Bool) (cells counters : List ℕ) (many_presets : length (presets_of w) ≡ length (layout_of w).conditions)
    (cards : (i : ℕ) (a : Pass Live) → slice_get passes i ≡ Some a → card a ≡ first_card (layout_of w) (presets_of w) (i + 1)) (numbers : AreFirst passes dies firsts) (made : HaveMade w ps firsts workers replies) (same : died ≡ map (λ v. is_reaped v.pass) workers)
    (ended : HasEnded w workers cells counters) (all : length passes ≡ (layout_of w).threads) (some : 1 ≤ (layout_of w).threads) (possible : AreRightPhases (layout_of w) ps) where
  n : ℕ
  n = (layout_of w).threads

  abbrev first_pass : (i : ℕ) → i < (layout_of w).threads → (a : Pass Live) × (slice_get passes i ≡ Some a)
  first_pass i low = some_at passes i (omega (arith, low, all))

  abbrev abreast : AreAbreast (layout_of w).threads [] firsts
  abreast = record {
    as_many = numbers.as_many ∙ all;
    each = λ i u is.
        let inside = slice_get_within firsts i u is in
        let few = numbers.as_many in
        let a = some_at passes i (omega (arith, inside, few)) in
        let its : card_in u.pass ≡ first_card (layout_of w) (presets_of w) (i + 1) = ap card_in (numbers.each i a.0 u a.1 is).0 ∙ cards i a.0 a.1 in
        (ap (λ (c : Card). c.seen) its, ap (λ (c : Card). c.thread) its);
    changes = first_known (layout_of w) (presets_of w);
    know = λ i u is.
        let inside = slice_get_within firsts i u is in
        let few = numbers.as_many in
        let a = some_at passes i (omega (arith, inside, few)) in
        ap (λ (c : Card). c.changes) (ap card_in (numbers.each i a.0 u a.1 is).0 ∙ cards i a.0 a.1);
  }

  th : Through w (layout_of w).threads ps firsts workers made.none replies [] (first_known (layout_of w) (presets_of w))
  th = through w (layout_of w).threads ps firsts workers made.none replies [] refl some abreast (made.each ∙ numbers.as_many ∙ all) made.passed

  nobody_gone : (i : ℕ) → i < (layout_of w).threads → gone_at firsts i ≡ false
  nobody_gone i low =
      let few = numbers.as_many in
      let a = first_pass i low in
      let u = some_at firsts i (omega (arith, low, few, all)) in
      gone_is firsts i u.0 u.1 ∙ ap is_reaped (numbers.each i a.0 u.0 a.1 u.1).0

  are : AreParts (layout_of w) (λ i. false) (λ m. []) (phases_of ps) th.parts
  are = parts_same (layout_of w) (gone_at firsts) (λ i. false) (λ m. []) (λ m. []) (phases_of ps) th.parts nobody_gone (λ m low. refl) th.are

  -- the last history is just what all have seen after the last phase
  last_is : (m : ℕ) → m < (layout_of w).mutexes → at ended.ends.histories (cell_place (layout_of w) m) ≡ at th.last (cell_place (layout_of w) m)
  last_is m low =
      let p : ℕ = cell_place (layout_of w) m in
      let js : List (List Point) = ended.ends.histories in
      let among : (i : ℕ) (v : Worker) → slice_get workers i ≡ Some v → IsAmong js (card_in v.pass) = λ i v is. all_at (IsAmong js) (map (λ (z : Worker). card_in z.pass) workers) i (card_in v.pass) ended.ends.among (mapped_at (λ (z : Worker). card_in z.pass) workers i v is) in
      let many = th.abreast.as_many in
      let v = some_at workers 0 (omega (arith, some, many)) in
      let begins = (among 0 v.0 v.1).begins p in
      let last : at (card_in v.0.pass).seen p ≡ at th.last p = ap (λ (s : List (List Point)). at s p) (th.abreast.each 0 v.0 v.1).0 in
      let on : at js p ≡ at th.last p ++ begins.0 = sym begins.1 ∙ ap (λ (l : List Point). l ++ begins.0) last in
      let none : (t : ℕ) → 1 ≤ t → t ≤ (layout_of w).threads → by t begins.0 ≡ [] = λ t pos most.
      let i : ℕ = t - 1 in
      let is : i + 1 ≡ t = omega (arith, pos) in
      let u = some_at workers i (omega (arith, pos, most, many)) in
      let its = th.abreast.each i u.0 u.1 in
      let own : by t (at js p) ≡ by t (at th.last p) = subst (λ (z : ℕ). by z (at js p) ≡ by z (at (card_in u.0.pass).seen p)) (its.1 ∙ is) ((among i u.0 u.1).own p) ∙ ap (λ (s : List (List Point)). by t (at s p)) its.0 in
      rest_none (by t (at th.last p)) (by t begins.0) (sym (by_append t (at th.last p) begins.0) ∙ ap (by t) (sym on) ∙ own)
      in
      let legal = (ended.ends.leaves m low).1 in
      let nothing = nobodys (layout_of w).threads p (at th.last p) begins.0 (subst (AllOf (layout_of w).threads p) on legal) none in
      on ∙ ap (λ (l : List Point). at th.last p ++ l) nothing ∙ append-nil (at th.last p)
    where
      rest_none : (xs ys : List Point) → xs ++ ys ≡ xs → ys ≡ []
      rest_none [] ys e = e
      rest_none (x ∷ xs) ys e = rest_none xs ys (cc e)

  whole : (m : ℕ) → m < (layout_of w).mutexes → at ended.ends.histories (cell_place (layout_of w) m) ≡ points_through m th.parts
  whole m low = last_is m low ∙ th.history m low

  layout_is : (pass : WorkerPass) → IsWorkerOf w pass → IsLayout (layout_of w)
  layout_is (Lives a) is = is.0.1.layout
  layout_is (Reaped d) is = is.1.layout

  within : AreWithin (layout_of w) ps
  within =
      let many = th.abreast.as_many in
      let v = some_at workers 0 (omega (arith, some, many)) in
      all_within (layout_of w) ps (layout_is v.0.pass (all_at (λ (z : Worker). IsWorkerOf w z.pass) workers 0 v.0 made.right v.1)) possible

  -- a thread's card at the end
  its_card : (i : ℕ) (v : Worker) → slice_get workers i ≡ Some v → Tied (layout_of w).threads ended.ends.changes (card_in v.pass).thread (card_in v.pass).changes
  its_card i v is = tied_at (layout_of w).threads ended.ends.changes (map (λ (z : Worker). card_in z.pass) workers) i (card_in v.pass) ended.ends.tied (mapped_at (λ (z : Worker). card_in z.pass) workers i v is)

  -- the last changes of a counter are just what all know after the last phase
  changed_last : (vs : ℕ → ℕ) → AreKnown (layout_of w) th.abreast.changes vs → (q : ℕ) → q < length (layout_of w).conditions → left_by (changes_at ended.ends.changes (counter_place (layout_of w) q)) ≡ vs q
  changed_last vs known q low =
      let p : ℕ = counter_place (layout_of w) q in
      let its = known q low in
      let all : List Change = changes_at ended.ends.changes p in
      let last : List Change = changes_at th.abreast.changes p in
      let many = th.abreast.as_many in
      let v = some_at workers 0 (omega (arith, some, many)) in
      let begins = (its_card 0 v.0 v.1 p).0 in
      let on : last ++ begins.0 ≡ all = ap (λ (l : List (List Change)). changes_at l p ++ begins.0) (sym (th.abreast.know 0 v.0 v.1)) ∙ begins.1 in
      let nobody : (t : ℕ) → 1 ≤ t → t ≤ (layout_of w).threads → made_by t begins.0 ≡ [] = λ t pos most.
      let i : ℕ = t - 1 in
      let is : i + 1 ≡ t = omega (arith, pos) in
      let u = some_at workers i (omega (arith, pos, most, many)) in
      let own : made_by t (changes_at (card_in u.0.pass).changes p) ≡ made_by t all = subst (λ (z : ℕ). made_by z (changes_at (card_in u.0.pass).changes p) ≡ made_by z all) ((th.abreast.each i u.0 u.1).1 ∙ is) (its_card i u.0 u.1 p).1 in
      made_none t last begins.0 (ap (made_by t) on ∙ sym own ∙ ap (λ (l : List (List Change)). made_by t (changes_at l p)) (th.abreast.know i u.0 u.1))
      in
      let first : last ++ begins.0 ≡ its.0 ∷ (its.1 ++ begins.0) = ap (λ (l : List Change). l ++ begins.0) its.2 in
      let are : AreBy (layout_of w).threads (its.1 ++ begins.0) = subst (AreBehindFirst (layout_of w).threads) (sym on ∙ first) (ended.ends.authors p) in
      let none : begins.0 ≡ [] = nobodys_at_all (layout_of w).threads its.1 begins.0 are nobody in
      ap left_by (sym on) ∙ ap (λ (l : List Change). left_by (last ++ l)) none ∙ ap left_by (append-nil last) ∙ ap left_by its.2 ∙ its.3

  counter_is : (q : ℕ) → q < length (layout_of w).conditions → get_or counters q 0 ≡ get_or (last_words ended.last) (counter_place (layout_of w) q) 0
  counter_is q low = subst (λ (k : Layout'). q < length k.conditions → get_or counters q 0 ≡ get_or (last_words ended.last) (counter_place k q) 0) ended.same (ended.counts.each q) low

  -- where each of the first phases has one thread's calls
  lone : (c : ℕ) (is : List ℕ) → AreLone (layout_of w).threads (take c (phases_of ps)) is → (os : ℕ → Object) × (vs : ℕ → ℕ) × ArePlayed (layout_of w) (λ i. false) opening (λ q. get_or (presets_of w) q 0) (take c (phases_of ps)) is (take c th.parts) os vs
      × ((m : ℕ) → m < (layout_of w).mutexes → Run fresh (points_through m (take c th.parts)) (os m)) × (length (phases_of ps) ≤ c → (q : ℕ) → q < length (layout_of w).conditions → get_or counters q 0 ≡ vs q)
  lone c is each =
      let known : AreKnown (layout_of w) (first_known (layout_of w) (presets_of w)) (λ q. get_or (presets_of w) q 0) = known_first (layout_of w) (presets_of w) many_presets in
      let played = th.lone c is each within opening (λ q. get_or (presets_of w) q 0) known (λ m low. refl) (λ j low lives x none. refl) in (
        played.0,
        played.1,
        played_same (layout_of w) (layout_of w).threads (gone_at firsts) (λ i. false) opening (λ q. get_or (presets_of w) q 0) (take c (phases_of ps)) is (take c th.parts) played.0 played.1 nobody_gone each played.2,
        λ m low. played.3 m low,
        λ most q low. counter_is q low ∙ sym (ended.ends.count q low) ∙ changed_last played.1 (played.4 (let many = length_mapped calls_of ps in omega (arith, most, many))) q low,
      )

  long : length replies ≡ (layout_of w).threads
  long = made.as_long ∙ numbers.as_many ∙ all

  answered : (i : ℕ) (r : Vec Reply Global) → slice_get replies i ≡ Some r → r.items ≡ replies_through i th.parts
  answered i r is =
      let inside = slice_get_within replies i r is in
      sym (items_are replies i r is) ∙ th.answered i (omega (arith, inside, long)) ∙ ap (λ (l : List Reply). l ++ replies_through i th.parts) (empty_items made.none i made.empty)

  dead : (i : ℕ) (d : Bool) → slice_get died i ≡ Some d → d ≡ some_died i th.parts
  dead i d is =
      let inside = slice_get_within died i d is in
      let as_many : length died ≡ length workers = ap length same ∙ length_mapped (λ (v : Worker). is_reaped v.pass) workers in
      let many = th.abreast.as_many in
      let low : i < (layout_of w).threads = omega (arith, inside, as_many, many) in
      let v = some_at workers i (omega (arith, inside, as_many)) in
      sym (its_end workers died i v.0 d same v.1 is) ∙ sym (gone_is workers i v.0 v.1) ∙ th.dead i low ∙ ap (λ (b : Bool). b || some_died i th.parts) (nobody_gone i low)

  in_order : StandInOrder (layout_of w) (phases_of ps) (presets_of w) replies died counters ended.ends.histories
  in_order = record { parts = th.parts; are = are; history = whole; answered = answered; dead = dead; lone = lone }

  cell_is : (m : ℕ) → m < (layout_of w).mutexes → get_or cells m 0 ≡ get_or (last_words ended.last) (cell_place (layout_of w) m) 0
  cell_is m low = subst (λ (k : Layout'). m < k.mutexes → get_or cells m 0 ≡ get_or (last_words ended.last) (cell_place k m) 0) ended.same (ended.words.each m) low

  told_at : (i : ℕ) (r : Vec Reply Global) (d : Bool) (m : ℕ) → slice_get replies i ≡ Some r → slice_get died i ≡ Some d → m < (layout_of w).mutexes
      → ArePointsBehind (layout_of w) (i + 1) m [] (calls_over (i + 1) ps) r.items d (by (i + 1) (at ended.ends.histories (cell_place (layout_of w) m)))
  told_at i r d m is is_d low =
      let inside = slice_get_within replies i r is in
      let points = lived (layout_of w) i m (λ i. false) (λ m. []) (phases_of ps) th.parts are (omega (arith, inside, long)) low refl in
      subst (λ (z : List Op × List Reply × Bool × List Point). ArePointsBehind (layout_of w) (i + 1) m [] z.0 z.1 z.2 z.3)
      (λ j. (calls_same (i + 1) ps j, sym (answered i r is) j, sym (dead i d is_d) j, by (i + 1) (sym (whole m low) j))) points

  pub together : StandTogether (layout_of w) (λ t. calls_over t ps) (phases_of ps) (presets_of w) replies died cells counters
  together = record {
    histories = ended.ends.histories;
    legal = λ m low. subst (λ (v : ℕ). Leaves (layout_of w).threads (cell_place (layout_of w) m) (at ended.ends.histories (cell_place (layout_of w) m)) (object_of (fields_of v))) (sym (cell_is m low)) (ended.ends.leaves m low);
    told = told_at;
    counted = counted_up (layout_of w) (presets_of w) (last_words ended.last) counters ended.ends.histories counter_is ended.ends.counted;
    in_order = in_order;
  }

  pub replied : HaveReplies ps replies died
  replied i r d is is_d =
      let inside = slice_get_within replies i r is in
      let count = counted (layout_of w) i (λ i. false) (λ m. []) (phases_of ps) th.parts are (omega (arith, inside, long)) refl in
      subst (λ (z : Bool × List Reply × List Op). IsCountOf z.0 (length z.1) (length z.2)) (λ j. (sym (dead i d is_d) j, sym (answered i r is) j, calls_same (i + 1) ps j)) count
