-- A dead thread's accesses at the cells of mutexes keep the rule.
use Rattle.std.proofs.Common.{Bool, true, false, ◌≡◌, ◌≢◌, ⊎_elim, ℕ, ◌<◌, ◌≤◌, ◌==◌, Option, Some, None, List, [], ◌∷◌, get_or, length, set, refl, sym, ap, ◌∙◌, subst, arith}
use Rattle.std.specs.Prelude.{if◌then◌else◌}
use mathlib.Core.Option.{none, some}
use lib.ListN.{get_elem?}
use lib.Seq.{set-get_or}
use prog.Atomic.{either}
use mathlib.Core.Path.{fun_ext}
use Rattle.atomic_table.specs.Table.{step, keeps, Allows}
use Rattle.atomic_table.proofs.Lists.{at_set}
use Rattle.lockword.specs.Cells.{fields_of}
use Rattle.lockword.specs.declared.reply.Reply.{Reply}
use Rattle.lockword.specs.declared.reply.Reply.TheVariants.{OK}
use Rattle.posixmutex.specs.declared.object.Object.{Object}
use Rattle.posixmutex.specs.declared.point.Operation.TheVariants.{Death}
use Rattle.posixmutex.specs.declared.point.Point.{Point}
use Rattle.stepprograms.specs.Accesses.{answer_at, changed}
use Rattle.memorymap.specs.Layouts.{Layout', cell_place}
use Rattle.posixmutex.specs.Objects.{fresh, Run, object_of}
use Rattle.posixmutex.proofs.Objects.{run_same}
use Rattle.exitwalk.specs.declared.row.Part.TheVariants.{Pending}
use Rattle.exitwalk.specs.declared.row.Row.TheVariants.{Mark as AtMark}
use Rattle.exitwalk.specs.Steps.{points, Right}
use Rattle.exitwalk.specs.Walks.{marked_word, point_of, row_access}
use Rattle.exitwalk.proofs.Steps.{steps}
use Rattle.ruledwords.specs.declared.pass.Card.{Card}
use Rattle.ruledwords.specs.Cards.{at}
use Rattle.ruledwords.specs.Seen.{holds, Sees}
use Rattle.ruledwords.specs.Deaths.{deaths, examined, left_by_mark, marked, remembering, Marks, MindsWaiters}
use Rattle.ruledwords.specs.Looks.{Finds}
use Rattle.ruledwords.specs.OwnWords.{owns_in}
use Rattle.ruledwords.specs.Rules.{AllFit, Kept}
use Rattle.ruledwords.proofs.Changes.{recorded_set}
use Rattle.ruledwords.proofs.Counts.{told_counts}
use Rattle.ruledwords.proofs.Held.{owner_held}
use Rattle.ruledwords.proofs.Keepers.{inside, other_cell}
use Rattle.ruledwords.proofs.Lists.{NoReinit, all_set, told}
use Rattle.ruledwords.proofs.Looks.{found}
use Rattle.ruledwords.proofs.Moves.{St, Knowing, Marked, Steady, allows, marked_own, turns}
use Rattle.ruledwords.proofs.Steps.{holder, is_owner_by, may_have, own_kept, others_run_keep, since_seen, values_after}

-- ---- a load

-- a thread that found the word n, and remembers of cells what is so
pub kept_marking : {o : List ℕ} (k : Layout') (s : St) (h : Kept k o s) (id : ℕ) (c : Card) (n : ℕ) (marks : List Bool) → get_elem? s.views id ≡ some (c ∷ []) → Marked k s.words c.thread marks
    → Kept k o record { words = s.words; homes = s.homes; views = set s.views id (record c { last = n; marks = marks } ∷ []) }
kept_marking k s h id c n marks is marked =
    let d : Card = record c { last = n; marks = marks } in
    let f = (h.fits id (c ∷ []) is).0 in
    record {
      layout = h.layout;
      wide = h.wide;
      histories = h.histories;
      leaves = h.leaves;
      legal = h.legal;
      narrow = h.narrow;
      counters = h.counters;
      counted = h.counted;
      fits = λ j w e. ⊎_elim
          (λ (u : (j ≡ id) × (d ∷ [] ≡ w)). subst (AllFit k s.words h.histories) u.1 (record { thread = f.thread; threads = f.threads; begins = f.begins; own = f.own; values = f.values; marks = marked }, tt))
          (λ (u : (j ≢ id) × (get_elem? s.views j ≡ some w)). h.fits j w u.1)
          (at_set s.views id j (d ∷ []) w e);
      once = λ u. let same = all_set u s.views id (c ∷ []) (d ∷ []) is in let once = h.once u in omega arith;
      recorded = recorded_set k s.words s.views id (c ∷ []) (d ∷ []) is h.recorded (λ f. f);
    }

-- the words are as they were
kept_remembering : {o : List ℕ} (k : Layout') (s : St) (h : Kept k o s) (id : ℕ) (c : Card) (m : ℕ) → m < k.mutexes → get_elem? s.views id ≡ some (c ∷ [])
    → Kept k o record { words = s.words; homes = s.homes; views = set s.views id (remembering c (cell_place k m) (get_or s.words (cell_place k m) 0) ∷ []) }
kept_remembering k s h id c m low is =
    let p : ℕ = cell_place k m in
    let n : ℕ = get_or s.words p 0 in
    let d : Card = remembering c p n in
    let f = (h.fits id (c ∷ []) is).0 in
    let within : p < length s.words = subst (λ (z : ℕ). p < z) (sym h.wide) (inside k m low) in
    kept_marking k s h id c n d.marks is (subst (λ (ws : List ℕ). Marked k ws c.thread d.marks) (set-get_or s.words p 0) (marked_own k s.words m n c.thread c.marks within f.marks))

pub examines : {o : List ℕ} (k : Layout') (slots id : ℕ) (c : Card) (m : ℕ) → m < k.mutexes → Allows (Kept k o) slots id (c ∷ [], []) (cell_place k m) (λ n. n) (examined (step slots (cell_place k m) 0 0 none) (c ∷ [], []))
examines {o} k slots id c m low s h deep is small =
    let p : ℕ = cell_place k m in
    let n : ℕ = get_or s.words p 0 in
    let f = (h.fits id (c ∷ []) is).0 in
    let d : Card = remembering c p n in (
      d ∷ [],
      keeps,
      tt,
      subst (λ (z : List ℕ). Kept k o record { words = z; homes = s.homes; views = set s.views id (d ∷ []) }) (sym (set-get_or s.words p 0)) (kept_remembering k s h id c m low is),
      turns c d (λ c d. (d ≡ remembering c p n) × Finds c p n × MindsWaiters c p n) (refl, found k s h c m low f, f.marks m low),
    )

-- ---- the exchange that marks

-- which point it is
abbrev pub death_by : Bool → Option Reply
death_by b = if b then Some OK else None

pub told_death : (t q : ℕ) (b : Bool) → told t q Death (death_by b) ≡ deaths t q b
told_death t q true = refl
told_death t q false = refl

-- no counter counts it
deathless : (b : Bool) → told_counts Death (death_by b) ≡ 0
deathless true = refl
deathless false = refl

-- and it reinitialises no mutex
reinitless : (b : Bool) → NoReinit Death (death_by b)
reinitless true = λ e. cc e
reinitless false = tt

-- the walk's own law, of an exchange of the word old, whose owner is t
module _ (t old : ℕ) (pos : 1 ≤ t) (mine : (fields_of old).owner ≡ t) where
  law : (n : ℕ) → Right t (AtMark 0 old false Pending) (answer_at (row_access 0 (AtMark 0 old false Pending)) n) n (changed (row_access 0 (AtMark 0 old false Pending)) n)
  law n = steps.right t 0 n (AtMark 0 old false Pending) pos tt (mine, tt)

  pub runs : (n q : ℕ) → Run (object_of (fields_of n)) (deaths t q (n == old)) (object_of (fields_of (left_by_mark old n)))
  runs n q = go (n == old) (law n).runs
    where
      go : (b : Bool) → Run (object_of (fields_of n)) (points (point_of t (AtMark 0 old false Pending) (if b then Rattle.stepprograms.specs.declared.access.Answer.TheVariants.Exchanged else Rattle.stepprograms.specs.declared.access.Answer.TheVariants.Changed n))) (object_of (fields_of (if b then marked_word old else n))) → Run (object_of (fields_of n)) (deaths t q b) (object_of (fields_of (if b then marked_word old else n)))
      go true run = run
      go false run = run

  steady : (n : ℕ) → Steady n (left_by_mark old n)
  steady n = ⊎_elim
      (λ (same : left_by_mark old n ≡ n). ((λ owned on. ap (λ (v : ℕ). (fields_of v).waiters) same ∙ on), λ clear. ap (λ (v : ℕ). (fields_of v).rest) same ∙ clear))
      (λ died. ((λ owned on. ap (λ (f : Rattle.lockword.specs.Cells.Fields). f.waiters) died.cell ∙ on), λ clear. ap (λ (f : Rattle.lockword.specs.Cells.Fields). f.rest) died.cell ∙ clear))
      (law n).changes

pub marks_cell : {o : List ℕ} (k : Layout') (slots id : ℕ) (c : Card) (m old new : ℕ) → m < k.mutexes → (1 ≤ c.thread) × (c.thread ≤ k.threads) → (fields_of old).owner ≡ c.thread → new ≡ marked_word old
    → Allows (Kept k o) slots id (c ∷ [], []) (cell_place k m) (λ n. either (n == old) new n) (marked k (step slots (cell_place k m) old new none) (c ∷ [], []))
marks_cell {o} k slots id c m old new low thread mine is = subst (λ (f : ℕ → ℕ). Allows (Kept k o) slots id (c ∷ [], []) q f (marked k (step slots q old new none) (c ∷ [], []))) (fun_ext (λ n. same (n == old) n))
    (allows k slots id c m (λ n. Death) (left_by_mark old) (λ n. death_by (n == old)) (λ n. c.misses) (λ n. n) (λ ws n. values_after k m c ws (left_by_mark old n)) (marked k (step slots q old new none) (c ∷ [], [])) low
    (λ ws n known. may_have k ws m c n (left_by_mark old n) _ _ refl)
    (λ n known. steady c.thread old thread.0 mine n)
    (λ n. deathless (n == old))
    (λ n known. reinitless (n == old))
    (λ n known. subst (λ (xs : List Point). Run (object_of (fields_of n)) xs (object_of (fields_of (left_by_mark old n)))) (sym (told_death c.thread q (n == old))) (runs c.thread old thread.0 mine n q))
    (λ ws n d known sees writes misses last counted trims mark values. turns c d (λ c d. Marks k q old c n d) record {
      sees = subst (λ (xs : List Point). Sees c q xs (object_of (fields_of (left_by_mark old n))) d) (told_death c.thread q (n == old)) sees;
      misses = misses;
      last = last;
      writes = writes;
      remembers = mark;
      minds = known.mark;
      narrow = known.narrow;
      stays = stays n known;
      holder = holder k c q n known;
      kept = own_kept k m low ws c d ((fields_of (left_by_mark old n)).owner == c.thread) (holds c.thread (at c.seen q)) sees.thread known.thread.0 known.thread.1 values (holds_then n d known sees) refl
          (λ l other. ap (holds d.thread) (sees.elsewhere (cell_place k l) (other_cell k m l other)) ∙ ap (λ (t : ℕ). holds t (at c.seen (cell_place k l))) sees.thread);
    }))
  where
    q : ℕ
    q = cell_place k m

    same : (b : Bool) (n : ℕ) → (if b then marked_word old else n) ≡ either b new n
    same true n = sym is
    same false n = refl

    stays : (n : ℕ) → Knowing k c q n → (o : Object) → Run fresh (at c.seen q) o → o.owner ≡ Some c.thread → object_of (fields_of n) ≡ o
    stays n known o run own =
        let s = since_seen k c q n known in
        let there : s.0.0 ≡ o = run_same fresh s.0.0 o (at c.seen q) s.1 run in
        others_run_keep c.thread s.0.0 s.0.1 (object_of (fields_of n)) (ap (λ (z : Object). z.owner) there ∙ own) s.3 s.2 ∙ there

    holds_then : (n : ℕ) (d : Card) → Knowing k c q n → {new : List Point} → Sees c q new (object_of (fields_of (left_by_mark old n))) d → owns_in k d m ≡ ((fields_of (left_by_mark old n)).owner == c.thread)
    holds_then n d known sees = ap (λ (t : ℕ). holds t (at d.seen q)) sees.thread ∙ owner_held c.thread fresh (at d.seen q) (object_of (fields_of (left_by_mark old n))) sees.leaves.0 ∙ is_owner_by c.thread (fields_of (left_by_mark old n)).owner known.thread.0

-- the same for a layout that is told so
pub marks_placed : {o : List ℕ} (k j : Layout') (slots id : ℕ) (c : Card) (m old new : ℕ) → j ≡ k → m < k.mutexes → (1 ≤ c.thread) × (c.thread ≤ k.threads) → (fields_of old).owner ≡ c.thread → new ≡ marked_word old
    → Allows (Kept k o) slots id (c ∷ [], []) (cell_place k m) (λ n. either (n == old) new n) (marked j (step slots (cell_place k m) old new none) (c ∷ [], []))
marks_placed {o} k j slots id c m old new same low thread mine is =
    subst (λ (z : Layout'). Allows (Kept k o) slots id (c ∷ [], []) (cell_place k m) (λ n. either (n == old) new n) (marked z (step slots (cell_place k m) old new none) (c ∷ [], []))) (sym same) (marks_cell k slots id c m old new low thread mine is)
