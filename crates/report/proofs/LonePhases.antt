-- A phase in which one thread alone has calls.
use Rattle.std.proofs.Common.{◌≡◌, ◌≢◌, ℕ, zero, suc, ◌+◌, ◌-◌, ◌<◌, ◌≤◌, Bool, true, false, not, Option, Some, List, [], ◌∷◌, ◌++◌, length, drop, take, slice_get, Vec, refl, sym, ap, ◌∙◌, subst, arith, append_assoc, append-nil}
use Rattle.std.specs.Prelude.{◌&&◌, ◌==◌}
use Rattle.std.proofs.lemmas.List.Elements.{filter-append}
use Rattle.std.specs.declared.alloc.Global.{Global}
use mathlib.Core.Logic.{dite}
use native.Mathlib.Decide.{ℕ_discrete}
use Rattle.lockword.specs.declared.reply.Reply.{Reply}
use Rattle.posixmutex.specs.declared.object.Object.{Object}
use Rattle.posixmutex.specs.declared.point.Point.{Point}
use Rattle.memorymap.specs.Layouts.{Layout', cell_place, counter_place}
use Rattle.posixmutex.specs.Objects.{fresh, Run}
use Rattle.condvar.specs.declared.op.Op.{Op}
use Rattle.condvar.specs.Ops.{condition_of, mutex_of}
use Rattle.ruledwords.specs.declared.pass.Card.{Card}
use Rattle.ruledwords.specs.declared.pass.Change.{Change}
use Rattle.ruledwords.specs.declared.pass.Words.{Words}
use Rattle.ruledwords.specs.Cards.{at}
use Rattle.ruledwords.specs.Changes.{changes_at, left_by, made_by, made_by_others, AreBehindFirst, KnowsOn}
use Rattle.ruledwords.specs.Deaths.{IsNoCell}
use Rattle.ruledwords.specs.Meetings.{ComesToKnow}
use Rattle.ruledwords.specs.Passes.{card, layout_of}
use Rattle.facts.specs.Lives.{Act}
use Rattle.ruledwords.specs.Seen.{by, count_acts, AllOf}
use Rattle.script.specs.declared.workload.Phase.{Phase}
use Rattle.threadbench.specs.declared.job.WorkerPass.{WorkerPass}
use Rattle.threadbench.specs.declared.job.WorkerPass.TheVariants.{Lives, Reaped}
use Rattle.threadbench.specs.Answered.{card_in, IsWorkerOf}
use Rattle.threadbench.specs.Jobs.{Worked}
use Rattle.report.specs.declared.threads.Worker.{Worker}
use Rattle.report.specs.Lone.{counter_of, raised, AreByCounter, IsLone, PlaysAlone, Rest}
use Rattle.report.specs.Meetings.{is_reaped}
use Rattle.report.specs.Parts.{Part}
use Rattle.report.specs.Threads.{calls_in, open_gate, HasPassed, Works, WorksFrom}
use Rattle.ruledwords.proofs.Changes.{knows_on_then}
use Rattle.report.proofs.LoneCalls.{answered_alone, died_alone, only_from, IsThere, OnlyBy, Stands, Within, by_each, by_only, none_others, only_rest, answered_knows, others_few, Onwards, onwards_self, onwards_then}
use Rattle.report.proofs.LoneCounters.{acts_in, lost_tallies, made_none, nobodys_change, Tallies}
use Rattle.report.proofs.Parts.{by_append}
use Rattle.report.proofs.Passed.{calls_of, drop_past, gone_at, gone_is, gone_same, items_are, items_at, known_at, part_of, same_rest, did, AreAbreast}
use Rattle.report.proofs.Phases.{all_at, some_at}
use Rattle.report.proofs.Told.{died_of, reaped_grew, saw_grew, then_grew, thread_stays, Grew}
use Rattle.report.proofs.Working.{all_answered}

-- ---- who has no calls

-- it is answered nothing, and neither dies nor sees anything
idle_worked : (w : Words) (a : Card) (more : List Reply) (pass : WorkerPass) → Worked w open_gate a [] more pass → (card_in pass ≡ a) × (more ≡ []) × (is_reaped pass ≡ false)
idle_worked w a (r ∷ rs) pass worked = absurd (let few = worked.few in omega (arith, few))
idle_worked w a [] (Lives b) worked = (worked.stops.1 ∙ sym worked.answered, refl, refl)
idle_worked w a [] (Reaped d) worked = absurd (let next = worked.stops.1 in cc next.1)

idle : (w : Words) (u : Worker) (more : List Reply) (v : Worker) → Works w [] u more v → (card_in v.pass ≡ card_in u.pass) × (more ≡ []) × (is_reaped v.pass ≡ is_reaped u.pass)
idle w u more v works = from u.pass u.die works where
  from : (pass : WorkerPass) (die : Option ℕ) → WorksFrom w [] die pass more v → (card_in v.pass ≡ card_in pass) × (more ≡ []) × (is_reaped v.pass ≡ is_reaped pass)
  from (Lives a) die works = idle_worked w (card a) more v.pass works.0
  from (Reaped d) die works = (ap card_in works.0, works.1, ap is_reaped works.0)

threads_of : (w : Words) (pass : WorkerPass) → IsWorkerOf w pass → (card_in pass).threads ≡ (layout_of w).threads
threads_of w (Lives a) is = is.0.1.threads
threads_of w (Reaped d) is = is.1.threads

-- what a thread knew of changes begins what it knows
worked_knows : (w : Words) (a : Card) (calls : List Op) (more : List Reply) (pass : WorkerPass) → Worked w open_gate a calls more pass → Onwards a (card_in pass)
worked_knows w a calls more (Lives b) worked = answered_knows (layout_of w) a calls more (card b) (all_answered w a calls more b worked)
worked_knows w a calls more (Reaped d) worked =
    let was = worked.stops.1.3 in
    let died = died_of (layout_of w) worked.last worked.stops.1.0 was.dead was.died in
    onwards_then a worked.last (card d) (answered_knows (layout_of w) a (take (length more) calls) more worked.last worked.answered) (onwards_then worked.last was.dead (card d) (died.saw.threads, died.saw.knows) (was.reaped.threads, was.reaped.changes))

works_knows : (w : Words) (calls : List Op) (u : Worker) (more : List Reply) (v : Worker) → Works w calls u more v → Onwards (card_in u.pass) (card_in v.pass)
works_knows w calls u more v works = from u.pass u.die works where
  from : (pass : WorkerPass) (die : Option ℕ) → WorksFrom w calls die pass more v → Onwards (card_in pass) (card_in v.pass)
  from (Lives a) die works = worked_knows w (card a) calls more v.pass works.0
  from (Reaped d) die works = subst (Onwards (card d)) (sym (ap card_in works.0)) (onwards_self (card d))

-- ---- calls up to one

within_take : (k : Layout') (n : ℕ) (cs : List Op) → Within k cs → Within k (take n cs)
within_take k zero [] within = tt
within_take k (suc n) [] within = tt
within_take k zero (c ∷ cs) within = tt
within_take k (suc n) (c ∷ cs) within = (within.0, within_take k n cs within.1)

within_at : (k : Layout') (n : ℕ) (cs : List Op) (c : Op) → Within k cs → slice_get cs n ≡ Some c → IsThere k c
within_at k n [] c within is = absurd (cc is)
within_at k zero (x ∷ cs) c within is = let same : x ≡ c = cc is in subst (IsThere k) same within.0
within_at k (suc n) (x ∷ cs) c within is = within_at k n cs c within.1 is

-- ---- the thread that has calls

-- what it did, and how it left the mutexes and the counters
pub record HasPlayed (k : Layout') (t : ℕ) (changes' : List (List Change)) (gone : Bool) (os : ℕ → Object) (vs : ℕ → ℕ) (calls : List Op) (more : List Reply) (v : Worker) (died : Bool) : Type 0 where
  pub mid : ℕ → Object
  pub counters : ℕ → ℕ
  pub plays : PlaysAlone k t gone os vs calls more died mid counters
  pub is : (m : ℕ) → m < k.mutexes → Run fresh (at (card_in v.pass).seen (cell_place k m)) (mid m)
  pub quiet : is_reaped v.pass ≡ false → (p : ℕ) → IsNoCell k p → by t (at (card_in v.pass).seen p) ≡ []
  pub counts : Tallies k t changes' (card_in v.pass) counters

module _ (w : Words) (t : ℕ) (seen' : List (List Point)) (changes' : List (List Change)) (whole : (m : ℕ) → m < (layout_of w).mutexes → (o : Object) × Run fresh (at seen' (cell_place (layout_of w) m)) o) (os : ℕ → Object) (vs : ℕ → ℕ) (calls : List Op) (within : Within (layout_of w) calls) (more : List Reply) (v : Worker)
  where
    -- what it did so far
    record PlayedSo (pass : WorkerPass) : Type 0 where
      mid : ℕ → Object
      counters : ℕ → ℕ
      plays : PlaysAlone (layout_of w) t false os vs calls more (is_reaped pass) mid counters
      is : (m : ℕ) → m < (layout_of w).mutexes → Run fresh (at (card_in pass).seen (cell_place (layout_of w) m)) (mid m)
      quiet : is_reaped pass ≡ false → (p : ℕ) → IsNoCell (layout_of w) p → by t (at (card_in pass).seen p) ≡ []
      counts : Tallies (layout_of w) t changes' (card_in pass) counters

    -- one that lives on, and one that dies
    worked_alone : (a : Card) (pass : WorkerPass) → Stands (layout_of w) t seen' changes' whole a os → Tallies (layout_of w) t changes' a vs → Worked w open_gate a calls more pass → (((m : ℕ) → m < (layout_of w).mutexes → (xs : List Point) × (at seen' (cell_place (layout_of w) m) ≡ at (card_in pass).seen (cell_place (layout_of w) m) ++ xs)) × ((p : ℕ) → (zs : List Change) × (changes_at changes' p ≡ changes_at (card_in pass).changes p ++ zs)))
        → PlayedSo pass
    worked_alone a (Lives b) s counts worked tails =
        let all = all_answered w a calls more b worked in
        let did = answered_alone (layout_of w) t seen' changes' whole a (card b) os vs calls more within s counts all tails in
        record { mid = did.0; counters = did.1; plays = did.2; is = did.3.is; quiet = λ lives. did.3.quiet; counts = did.4 }
    worked_alone a (Reaped d) s counts worked tails =
        let k : Layout' = layout_of w in
        let next = worked.stops.1 in
        let was = next.3 in
        let died = died_of k worked.last next.0 was.dead was.died in
        let seen_on : (m : ℕ) → m < k.mutexes → (xs : List Point) × (at seen' (cell_place k m) ≡ at worked.last.seen (cell_place k m) ++ xs) = λ m low.
        let p : ℕ = cell_place k m in
        let g = then_grew worked.last was.dead (card d) p (saw_grew worked.last was.dead (cell_place k (mutex_of k next.0)) p died.acts died.saw) (reaped_grew k m was.dead (card d) low was.reaped) in
        (g.0 ++ (tails.0 m low).0, (tails.0 m low).1 ∙ ap (λ (l : List Point). l ++ (tails.0 m low).0) g.1 ∙ append_assoc (at worked.last.seen p) g.0 (tails.0 m low).0)
        in
        let on : KnowsOn worked.last (card d) = knows_on_then worked.last was.dead (card d) died.saw.threads died.saw.knows was.reaped.changes in
        let known : (p : ℕ) → (zs : List Change) × (changes_at changes' p ≡ changes_at worked.last.changes p ++ zs) = λ p. ((on p).0 ++ (tails.1 p).0, (tails.1 p).1 ∙ ap (λ (l : List Change). l ++ (tails.1 p).0) (sym (on p).1) ∙ append_assoc (changes_at worked.last.changes p) (on p).0 (tails.1 p).0) in
        let did = answered_alone k t seen' changes' whole a worked.last os vs (take (length more) calls) more (within_take k (length more) calls within) s counts worked.answered (seen_on, known) in
        let there = within_at k (length more) calls next.0 within next.1 in
        let end = died_alone k t seen' changes' whole worked.last (card d) did.0 next.0 there.0 did.3 was tails in
        let left = end.1 in
        let lost = lost_tallies k t changes' worked.last (card d) did.1 next.0 did.3.thread there.0 there.1 did.4 was tails.1 in record {
          mid = end.0;
          counters = raised did.1 (condition_of next.0) (count_acts (acts_in k t changes' worked.last next.0 was.dead was.died));
          plays = record {
            call = next.0;
            next = next.1;
            before = did.0;
            counters = did.1;
            told = did.2;
            few = left.few;
            acts = left.acts;
            begun = left.begun;
            left = left.left;
            decided = left.decided;
            after = left.after;
            by = subst (AreByCounter (counter_of did.1 (condition_of next.0))) (sym left.counts) lost.0;
            counted = ap (λ (l : List Act). raised did.1 (condition_of next.0) (count_acts l)) (sym left.counts);
          };
          is = left.is;
          quiet = λ lives. absurd (cc lives);
          counts = lost.1;
        }

-- ---- the phase

and_true : (a : Bool) → (a && true) ≡ a
and_true true = refl
and_true false = refl

and_false : (a : Bool) → (a && false) ≡ false
and_false true = refl
and_false false = refl

and_not : (a : Bool) → (a && not a) ≡ false
and_not true = refl
and_not false = refl

-- it is known what the counters began with, and the changes of them leave these values
abbrev pub AreKnown : Layout' → List (List Change) → (ℕ → ℕ) → Type 0
AreKnown k changes vs = (q : ℕ) → q < length k.conditions → (x : Change) × (xs : List Change) × (changes_at changes (counter_place k q) ≡ x ∷ xs) × (left_by (x ∷ xs) ≡ vs q)

-- the mutexes and the counters after the phase, as all have seen them then
pub record PhasePlayed (k : Layout') (n i : ℕ) (gone gone' : ℕ → Bool) (os : ℕ → Object) (vs : ℕ → ℕ) (calls : ℕ → List Op) (q : Part) (seen' : List (List Point)) (changes' : List (List Change)) : Type 0 where
  pub mid : ℕ → Object
  pub counters : ℕ → ℕ
  pub plays : PlaysAlone k (i + 1) (gone i) os vs (calls (i + 1)) (q.replies i) (q.died i) mid counters
  pub known : AreKnown k changes' counters
  pub rest : Rest n i q
  pub is : (m : ℕ) → m < k.mutexes → Run fresh (at seen' (cell_place k m)) (mid m)
  pub quiet : (j : ℕ) → j < n → gone' j ≡ false → (p : ℕ) → IsNoCell k p → by (j + 1) (at seen' p) ≡ []

module _ (w : Words) (n : ℕ) (p : Phase) (us met : List Worker) (rs rs' : List (Vec Reply Global)) (seen : List (List Point)) (h : HasPassed w p us met rs rs') (abreast : AreAbreast n seen us) (long : length rs ≡ n) (all : (layout_of w).threads ≡ n)
    (i : ℕ) (lone : IsLone n (calls_of p) i) (os : ℕ → Object) (vs : ℕ → ℕ) (known : AreKnown (layout_of w) abreast.changes vs) (stand : (m : ℕ) → m < (layout_of w).mutexes → Run fresh (at seen (cell_place (layout_of w) m)) (os m))
    (quiet : (j : ℕ) → j < n → gone_at us j ≡ false → (x : ℕ) → IsNoCell (layout_of w) x → by (j + 1) (at seen x) ≡ []) (within : Within (layout_of w) (calls_in (i + 1) p)) where
  abbrev k : Layout'
  k = layout_of w

  abbrev ws : List Worker
  ws = h.worked

  abbrev seen' : List (List Point)
  seen' = h.meeting.know.seen

  abbrev changes' : List (List Change)
  changes' = h.meeting.know.changes

  abbrev q : Part
  q = part_of k seen seen' us ws rs rs'

  abbrev t : ℕ
  t = i + 1

  -- what thread j + 1 did
  record Did (j : ℕ) : Type 0 where
    u : Worker
    v : Worker
    more : List Reply
    works : Works w (calls_in (j + 1) p) u more v
    replies : q.replies j ≡ more
    gone : gone_at us j ≡ is_reaped u.pass
    gone' : gone_at ws j ≡ is_reaped v.pass
    come : ComesToKnow seen' h.meeting.know.changes (card_in v.pass)
    seen_is : (card_in u.pass).seen ≡ seen
    thread_u : (card_in u.pass).thread ≡ j + 1
    thread_v : (card_in v.pass).thread ≡ j + 1
    threads : (card_in v.pass).threads ≡ n
    changes_u : (card_in u.pass).changes ≡ abreast.changes

  did_so : (j : ℕ) → j < n → Did j
  did_so j low =
      let many = abreast.as_many in
      let many' = h.work.as_many in
      let long' = h.work.as_long in
      let u = some_at us j (omega (arith, low, many)) in
      let v = some_at ws j (omega (arith, low, many, many')) in
      let r = some_at rs j (omega (arith, low, long)) in
      let r' = some_at rs' j (omega (arith, low, long, long')) in
      let its = abreast.each j u.0 u.1 in
      let more = h.work.each j u.0 v.0 r.0 r'.0 u.1 v.1 r.1 r'.1 in
      let replied : items_at rs' j ≡ items_at rs j ++ more.0 = items_are rs' j r'.0 r'.1 ∙ more.1 ∙ ap (λ (l : List Reply). l ++ more.0) (sym (items_are rs j r.0 r.1)) in record {
        u = u.0;
        v = v.0;
        more = more.0;
        works = more.2;
        replies = ap (drop (length (items_at rs j))) replied ∙ drop_past (items_at rs j) more.0;
        gone = gone_is us j u.0 u.1;
        gone' = gone_is ws j v.0 v.1;
        come = known_at w ws met h.meeting j v.0 v.1;
        seen_is = its.0;
        thread_u = its.1;
        thread_v = thread_stays w (calls_in (j + 1) p) u.0 more.0 v.0 more.2 ∙ its.1;
        threads = threads_of w v.0.pass (all_at (λ (z : Worker). IsWorkerOf w z.pass) ws j v.0 h.work.right v.1) ∙ all;
        changes_u = abreast.know j u.0 u.1;
      }

  own_of : (j : ℕ) (d : Did j) (x : ℕ) → by (j + 1) (at seen' x) ≡ by (j + 1) (at (card_in d.v.pass).seen x)
  own_of j d x = subst (λ (z : ℕ). by z (at seen' x) ≡ by z (at (card_in d.v.pass).seen x)) d.thread_v (d.come.own x)

  idle_is : (j : ℕ) → j < n → j ≢ i → (d : Did j) → (card_in d.v.pass ≡ card_in d.u.pass) × (d.more ≡ []) × (is_reaped d.v.pass ≡ is_reaped d.u.pass)
  idle_is j low other d = idle w d.u d.more d.v (subst (λ (cs : List Op). Works w cs d.u d.more d.v) (lone.others j low other) d.works)

  others_own : (j : ℕ) → j < n → j ≢ i → (x : ℕ) → by (j + 1) (at seen' x) ≡ by (j + 1) (at seen x)
  others_own j low other x = let d = did_so j low in own_of j d x ∙ ap (λ (c : Card). by (j + 1) (at c.seen x)) (idle_is j low other d).0 ∙ ap (λ (s : List (List Point)). by (j + 1) (at s x)) d.seen_is

  mine : Did i
  mine = did_so i lone.inside

  whole : (m : ℕ) → m < k.mutexes → (o : Object) × Run fresh (at seen' (cell_place k m)) o
  whole m low = let l = mine.come.legal (cell_place k m) in (l.0, l.1.0)

  since_of : (m : ℕ) → m < k.mutexes → Grew (card_in mine.u.pass) (cell_place k m) (card_in mine.v.pass)
  since_of m low = did w m (calls_in t p) mine.u mine.more mine.v low mine.works

  -- what came is its thread's alone
  ahead : (m : ℕ) → m < k.mutexes → (xs : List Point) × (at seen' (cell_place k m) ≡ at seen (cell_place k m) ++ xs)
  ahead m low =
      let x : ℕ = cell_place k m in
      let grew = since_of m low in
      let begins = mine.come.begins x in (
        grew.0 ++ begins.0,
        sym begins.1 ∙ ap (λ (l : List Point). l ++ begins.0) (grew.1 ∙ ap (λ (s : List (List Point)). at s x ++ grew.0) mine.seen_is) ∙ append_assoc (at seen x) grew.0 begins.0,
      )

  only_mine : (m : ℕ) (low : m < k.mutexes) → OnlyBy t (ahead m low).0
  only_mine m low =
      let x : ℕ = cell_place k m in
      let xs : List Point = (ahead m low).0 in
      let of : AllOf n x (at seen x ++ xs) = subst (λ (z : ℕ × List Point). AllOf z.0 x z.1) (λ y. (mine.threads y, (ahead m low).1 y)) (mine.come.legal x).1.1 in
      only_from n x t (at seen x) xs of (λ u pos most other.
      let j : ℕ = u - 1 in
      let is : j + 1 ≡ u = omega (arith, pos) in
      let apart : j ≢ i = λ e. other (sym is ∙ ap (λ (z : ℕ). z + 1) e) in
      let same : by u (at seen' x) ≡ by u (at seen x) = subst (λ (z : ℕ). by z (at seen' x) ≡ by z (at seen x)) is (others_own j (omega (arith, pos, most)) apart x) in
      same_rest (by u (at seen x)) (by u xs) [] (sym (by_append u (at seen x) xs) ∙ ap (by u) (sym (ahead m low).1) ∙ same ∙ sym (append-nil (by u (at seen x)))))

  -- after its last call nothing came
  at_end : (m : ℕ) → m < k.mutexes → at seen' (cell_place k m) ≡ at (card_in mine.v.pass).seen (cell_place k m)
  unfolding ahead
  at_end m low =
      let x : ℕ = cell_place k m in
      let begins = mine.come.begins x in
      let last : List Point = at (card_in mine.v.pass).seen x in
      let only : OnlyBy t begins.0 = only_rest t (since_of m low).0 begins.0 (only_mine m low) in
      let none : by t begins.0 ≡ [] = same_rest (by t last) (by t begins.0) [] (sym (by_append t last begins.0) ∙ ap (by t) begins.1 ∙ own_of i mine x ∙ sym (append-nil (by t last))) in
      sym begins.1 ∙ ap (λ (l : List Point). last ++ l) (sym (by_only t begins.0 only) ∙ none) ∙ append-nil last

  tails : ((m : ℕ) → m < k.mutexes → (xs : List Point) × (at seen' (cell_place k m) ≡ at (card_in mine.v.pass).seen (cell_place k m) ++ xs)) × ((x : ℕ) → (zs : List Change) × (changes_at changes' x ≡ changes_at (card_in mine.v.pass).changes x ++ zs))
  tails = (λ m low. ([], at_end m low ∙ sym (append-nil (at (card_in mine.v.pass).seen (cell_place k m)))), λ x. ((mine.come.tied x).0.0, sym (mine.come.tied x).0.1))

  -- of changes too
  known_since : (x : ℕ) → (zs : List Change) × (changes_at changes' x ≡ changes_at (card_in mine.u.pass).changes x ++ zs)
  known_since x =
      let on = (works_knows w (calls_in t p) mine.u mine.more mine.v mine.works).1 x in
      let rest = (mine.come.tied x).0 in
      (on.0 ++ rest.0, sym rest.1 ∙ ap (λ (l : List Change). l ++ rest.0) (sym on.1) ∙ append_assoc (changes_at (card_in mine.u.pass).changes x) on.0 rest.0)

  behind_first : (x : ℕ) → AreBehindFirst n (changes_at (card_in mine.u.pass).changes x ++ (known_since x).0)
  behind_first x = subst (λ (z : ℕ × List Change). AreBehindFirst z.0 z.1) (λ y. (mine.threads y, (known_since x).1 y)) (mine.come.authors x)

  -- no other thread has changed a word
  nobody_else : (x u : ℕ) → 1 ≤ u → u ≤ n → u ≢ t → made_by u (known_since x).0 ≡ []
  nobody_else x u pos most other =
      let before : List Change = changes_at (card_in mine.u.pass).changes x in
      let zs : List Change = (known_since x).0 in
      let j : ℕ = u - 1 in
      let is : j + 1 ≡ u = omega (arith, pos) in
      let apart : j ≢ i = λ e. other (sym is ∙ ap (λ (z : ℕ). z + 1) e) in
      let d = did_so j (omega (arith, pos, most)) in
      let still : (card_in d.v.pass).changes ≡ (card_in mine.u.pass).changes = ap (λ (c : Card). c.changes) (idle_is j (omega (arith, pos, most)) apart d).0 ∙ d.changes_u ∙ sym mine.changes_u in
      let own : made_by u (changes_at (card_in d.v.pass).changes x) ≡ made_by u (changes_at changes' x) = subst (λ (z : ℕ). made_by z (changes_at (card_in d.v.pass).changes x) ≡ made_by z (changes_at changes' x)) (d.thread_v ∙ is) (d.come.tied x).1 in
      let same : made_by u before ≡ made_by u (before ++ zs) = ap (λ (l : List (List Change)). made_by u (changes_at l x)) (sym still) ∙ own ∙ ap (made_by u) (known_since x).1 in
      same_rest (made_by u before) (made_by u zs) [] (sym (filter-append (λ (y : Change). y.thread == u) before zs) ∙ sym same ∙ sym (append-nil (made_by u before)))

  few_others : (x : ℕ) → length (made_by_others t (known_since x).0) ≤ 1
  few_others x = others_few n t (changes_at (card_in mine.u.pass).changes x) (known_since x).0 (behind_first x) (nobody_else x)

  -- what is known of a counter begins with what it began with
  its_first : (x : ℕ) → x < length k.conditions → (z : Change) × (zs : List Change) × (changes_at (card_in mine.u.pass).changes (counter_place k x) ≡ z ∷ zs) × (left_by (z ∷ zs) ≡ vs x)
  its_first x low = let its = known x low in (its.0, its.1, ap (λ (l : List (List Change)). changes_at l (counter_place k x)) mine.changes_u ∙ its.2, its.3)

  no_others : (x : ℕ) → x < length k.conditions → made_by_others t (known_since (counter_place k x)).0 ≡ []
  no_others x low =
      let p : ℕ = counter_place k x in
      let its = its_first x low in
      let zs : List Change = (known_since p).0 in
      none_others n t zs (by_each n its.1 zs (subst (λ (l : List Change). AreBehindFirst n (l ++ zs)) its.2 (behind_first p))) (nobody_else p)

  counted_first : (a : Card) → a ≡ card_in mine.u.pass → Tallies k t changes' a vs
  counted_first a same = subst (λ (c : Card). Tallies k t changes' c vs) (sym same) record {
    rest = λ x low. let p : ℕ = counter_place k x in ((known_since p).0, (known_since p).1, no_others x low);
    are = λ x low. let its = its_first x low in ap left_by its.2 ∙ its.3;
  }

  -- after its last call nothing was changed
  known_then : (counters : ℕ → ℕ) → Tallies k t changes' (card_in mine.v.pass) counters → AreKnown k changes' counters
  known_then counters counts x low =
      let p : ℕ = counter_place k x in
      let its = its_first x low in
      let r = counts.rest x low in
      let mine_is : made_by t (changes_at (card_in mine.v.pass).changes p) ≡ made_by t (changes_at changes' p) = subst (λ (u : ℕ). made_by u (changes_at (card_in mine.v.pass).changes p) ≡ made_by u (changes_at changes' p)) mine.thread_v (mine.come.tied p).1 in
      let none : made_by t r.0 ≡ [] = made_none t (changes_at (card_in mine.v.pass).changes p) r.0 (sym (ap (made_by t) r.1) ∙ sym mine_is) in
      let same : changes_at changes' p ≡ changes_at (card_in mine.v.pass).changes p = r.1 ∙ ap (λ (l : List Change). changes_at (card_in mine.v.pass).changes p ++ l) (nobodys_change t r.0 none r.2) ∙ append-nil (changes_at (card_in mine.v.pass).changes p) in
      let all : changes_at changes' p ≡ its.0 ∷ (its.1 ++ (known_since p).0) = (known_since p).1 ∙ ap (λ (l : List Change). l ++ (known_since p).0) its.2 in
      (its.0, its.1 ++ (known_since p).0, all, sym (ap left_by all) ∙ ap left_by same ∙ counts.are x low)

  stands : (a : Card) → a ≡ card_in mine.u.pass → is_reaped mine.u.pass ≡ false → Stands k t seen' changes' whole a os
  stands a same lives = subst (λ (c : Card). Stands k t seen' changes' whole c os) (sym same) record {
    thread = mine.thread_u;
    is = λ m low. subst (λ (s : List (List Point)). Run fresh (at s (cell_place k m)) (os m)) (sym mine.seen_is) (stand m low);
    quiet = λ x none. ap (λ (s : List (List Point)). by t (at s x)) mine.seen_is ∙ quiet i lone.inside (mine.gone ∙ lives) x none;
    tails = (λ m low. ((ahead m low).0, (ahead m low).1 ∙ ap (λ (s : List (List Point)). at s (cell_place k m) ++ (ahead m low).0) (sym mine.seen_is)), known_since);
    alone = only_mine;
    lonely = few_others;
  }

  played_so : (pass : WorkerPass) (die : Option ℕ) → pass ≡ mine.u.pass → WorksFrom w (calls_in t p) die pass mine.more mine.v → HasPlayed k t changes' (is_reaped pass) os vs (calls_in t p) mine.more mine.v (is_reaped mine.v.pass && not (is_reaped pass))
  played_so (Lives a) die same works =
      let did = worked_alone w t seen' changes' whole os vs (calls_in t p) within mine.more mine.v (card a) mine.v.pass (stands (card a) (ap card_in same) (ap is_reaped (sym same))) (counted_first (card a) (ap card_in same)) works.0 tails in record {
        mid = did.mid;
        counters = did.counters;
        plays = subst (λ (b : Bool). PlaysAlone k t false os vs (calls_in t p) mine.more b did.mid did.counters) (sym (and_true (is_reaped mine.v.pass))) did.plays;
        is = did.is;
        quiet = did.quiet;
        counts = did.counts;
      }
  played_so (Reaped d) die same works =
      let card_is : card_in mine.v.pass ≡ card_in mine.u.pass = ap card_in works.0 ∙ ap card_in same in record {
        mid = os;
        counters = vs;
        plays = (works.1, and_false (is_reaped mine.v.pass), refl, refl);
        is = λ m low. subst (λ (s : List (List Point)). Run fresh (at s (cell_place k m)) (os m)) (sym (ap (λ (c : Card). c.seen) card_is ∙ mine.seen_is)) (stand m low);
        quiet = λ lives. absurd (let e : true ≡ false = sym (ap is_reaped works.0) ∙ lives in cc e);
        counts = counted_first (card_in mine.v.pass) card_is;
      }

  pub phase_played : PhasePlayed k n i (gone_at us) (gone_at met) os vs (calls_of p) q seen' changes'
  phase_played = record {
    mid = so.mid;
    counters = so.counters;
    known = known_then so.counters so.counts;
    plays = subst (λ (z : Bool × List Reply × Bool). PlaysAlone k t z.0 os vs (calls_in t p) z.1 z.2 so.mid so.counters) (λ y. (sym mine.gone y, sym mine.replies y, sym mine.gone' y && not (sym mine.gone y))) so.plays;
    rest = λ j low other. let d = did_so j low in let still = idle_is j low other d in (
      d.replies ∙ still.1,
      (λ y. d.gone' y && not (d.gone y)) ∙ ap (λ (b : Bool). b && not (is_reaped d.u.pass)) still.2 ∙ and_not (is_reaped d.u.pass),
    );
    is = λ m low. subst (λ (l : List Point). Run fresh l (so.mid m)) (sym (at_end m low)) (so.is m low);
    quiet = λ j low lives x none. dite (ℕ_discrete j i)
        (λ here. subst (λ (z : ℕ). gone_at met z ≡ false → by (z + 1) (at seen' x) ≡ []) (sym here) (λ mine_lives. own_of i mine x ∙ so.quiet (sym mine.gone' ∙ sym (gone_same met ws i h.meeting.lives) ∙ mine_lives) x none) lives)
        (λ other. let d = did_so j low in others_own j low other x ∙ quiet j low (d.gone ∙ sym (idle_is j low other d).2 ∙ sym d.gone' ∙ sym (gone_same met ws j h.meeting.lives) ∙ lives) x none);
  } where
    so : HasPlayed k t changes' (is_reaped mine.u.pass) os vs (calls_in t p) mine.more mine.v (is_reaped mine.v.pass && not (is_reaped mine.u.pass))
    so = played_so mine.u.pass mine.u.die refl mine.works
