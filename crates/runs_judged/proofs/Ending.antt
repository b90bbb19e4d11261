-- The lines of a whole run fit, one after the other.
use Rattle.std.proofs.Common.{◌≡◌, ◌≢◌, ◌⊎◌, inl, inr, ℕ, ◌+◌, ◌<◌, ◌==◌, Bool, true, false, ◌&&◌, Option, Some, None, Ok, Err, List, [], ◌∷◌, ◌++◌, map, length, append_assoc, append-nil, length-append, refl, sym, ap, ◌∙◌, subst, arith}
use Rattle.std.specs.Prelude.{if◌then◌else◌, reverse}
use Rattle.std.proofs.lemmas.List.{map-append}
use Rattle.lockword.specs.declared.reply.Reply.{Reply}
use Rattle.lockword.specs.declared.reply.Reply.TheVariants.{OK, XHELD}
use Rattle.posixmutex.specs.declared.object.Object.{Object}
use Rattle.posixmutex.specs.declared.point.Operation.TheVariants as operation
use Rattle.posixmutex.specs.declared.point.Decision.{Decision}
use Rattle.memorymap.specs.Layouts.{Layout', IsLayout}
use Rattle.posixmutex.specs.Histories.{Legal, opening}
use Rattle.facts.specs.declared.fact.Queue.{Queue}
use Rattle.facts.specs.declared.fact.Queue.TheVariants.{Mutex, Condition}
use Rattle.facts.specs.declared.fact.Fact.{Fact}
use Rattle.facts.specs.declared.fact.Fact.TheVariants.{Point, Death, Wake, Reap}
use Rattle.facts.specs.declared.fact.Line.{Line}
use Rattle.facts.specs.Facts.{thread_of, decision_of}
use Rattle.facts.specs.Chances.{TimeLimitsHaveReasons, no_chances}
use Rattle.facts.specs.Lives.{is_of_call, own, Lives}
use Rattle.exitwalk.specs.declared.row.Row as walk_row
use Rattle.exitwalk.specs.declared.row.Row.TheVariants as walk
use Rattle.exitwalk.specs.Standings as walks
use Rattle.condvar.specs.declared.op.Op.{Op}
use Rattle.condvar.specs.declared.op.Op.TheVariants.{OnMutex}
use Rattle.stepprograms.specs.declared.access.Answer.TheVariants.{Trimmed}
use Rattle.mutex.specs.declared.call.Call.TheVariants as call
use Rattle.mutex.specs.Standings.{Whole}
use Rattle.mutex.specs.Whole.{whole_led}
use Rattle.condvar.specs.Ops.{mutex_of}
use Rattle.protocol.specs.declared.event.Event.{Event}
use Rattle.protocol.specs.declared.note.Note.{Note}
use Rattle.protocol.specs.declared.note.Note.TheVariants.{Nothing, Began, Stepped, Killed, Left, Expired, Walked, Renewed, Reinited}
use Rattle.protocol.specs.declared.thread.Thread.{Thread}
use Rattle.protocol.specs.declared.thread.Stage.TheVariants.{Reaped}
use Rattle.protocol.specs.Notes.{facts_of, death_facts, reap_facts, line_of, lines_from}
use Rattle.protocol.specs.Machine.{State, After, start, begun, killed, departed, lapsed, overslept, renewed, reinited, walked, has_ended, stage_walked, happens, run, notes, led, decision}
use Rattle.protocol.specs.Headline.{points_of, points_among, facts_among, seen}
use Rattle.protocol.specs.Sleepers.{IsAmong}
use Rattle.protocol.proofs.Puts.{put-same}
use Rattle.protocol.proofs.Events.{begins_at, by_event, by_stage}
use Rattle.protocol.proofs.Lives.{explained}
use Rattle.protocol.proofs.TimeLimits.{in_time}
use Rattle.verdict.specs.declared.stage.Stage.TheVariants.{Resting}
use Rattle.verdict.specs.Earlier.{objects_after}
use Rattle.verdict.specs.Explained.{with_decision, decisions}
use Rattle.verdict.specs.Verdicts.{AllFit}
use Rattle.runs_judged.proofs.Lives.{Runs, lives_run}
use Rattle.runs_judged.proofs.Turns as turns
use Rattle.runs_judged.proofs.Turns.{own_of, FitAlong}
use Rattle.runs_judged.proofs.Moments.{moment}
use Rattle.runs_judged.proofs.Facts.{OfStep, Is_point, Is_sleep, Is_wake, Is_move, Is_return, of_step, among_right, among_parts, among_deaths, among_wakes, among_reaps, run_push, notes_push}
use Rattle.runs_judged.proofs.Placing.{run_placed}
use Rattle.runs_judged.proofs.Fitting.{onto, onto-append, facts_in, all_fit, in_order, threads_fit, allowed, due, ends, ReapedOn, reaped_append, none_reaped}

-- ---- lines and their facts

facts_of_lines : (i : ℕ) (fs : List Fact) (ls : List Line) → facts_in (map (line_of i) fs ++ ls) ≡ fs ++ facts_in ls
facts_of_lines i [] ls = refl
facts_of_lines i (f ∷ fs) ls = ap (λ (gs : List Fact). f ∷ gs) (facts_of_lines i fs ls)

pub lines_tell : (i : ℕ) (ns : List Note) → facts_in (lines_from i ns) ≡ facts_among ns
lines_tell i [] = refl
lines_tell i (n ∷ ns) = facts_of_lines i (facts_of n) (lines_from (i + 1) ns) ∙ ap (λ (gs : List Fact). facts_of n ++ gs) (lines_tell (i + 1) ns)

own_facts : (t : ℕ) (ls : List Line) → own t ls ≡ own_of t (facts_in ls)
own_facts t [] = refl
own_facts t (l ∷ ls) = go (is_of_call l.fact && (thread_of l.fact == t)) (own_facts t ls)
  where
    go : (b : Bool) → own t ls ≡ own_of t (facts_in ls) → (if b then l.fact ∷ own t ls else own t ls) ≡ (if b then l.fact ∷ own_of t (facts_in ls) else own_of t (facts_in ls))
    go true e = ap (λ (fs : List Fact). l.fact ∷ fs) e
    go false e = e

-- its points and deaths
abbrev died : ℕ → ℕ → Decision
died t m = record { thread = t; mutex = m; operation = operation.Death; reply = OK }

points_of_line : (f : Fact) (fs : List Fact) (ds : List Decision) → points_of fs ≡ ds → points_of (f ∷ fs) ≡ with_decision (decision_of f) ds
points_of_line (Point d) fs ds e = ap (λ (zs : List Decision). d ∷ zs) e
points_of_line (Death t m) fs ds e = ap (λ (zs : List Decision). died t m ∷ zs) e
points_of_line f fs ds e = e

points_of_facts : (ls : List Line) → points_of (facts_in ls) ≡ decisions ls
points_of_facts [] = refl
points_of_facts (l ∷ ls) = points_of_line l.fact (facts_in ls) (decisions ls) (points_of_facts ls)

points-append : (fs gs : List Fact) → points_of (fs ++ gs) ≡ points_of fs ++ points_of gs
points-append [] gs = refl
points-append (f ∷ fs) gs = go f (points-append fs gs)
  where
    go : (f : Fact) → points_of (fs ++ gs) ≡ points_of fs ++ points_of gs → points_of (f ∷ (fs ++ gs)) ≡ points_of (f ∷ fs) ++ points_of gs
    go (Point d) e = ap (λ (zs : List Decision). d ∷ zs) e
    go (Death t m) e = ap (λ (zs : List Decision). died t m ∷ zs) e
    go f e = e

points_told : (ns : List Note) → points_of (facts_among ns) ≡ points_among ns
points_told [] = refl
points_told (n ∷ ns) = points-append (facts_of n) (facts_among ns) ∙ ap (λ (zs : List Decision). points_of (facts_of n) ++ zs) (points_told ns)

pub decisions_told : (i : ℕ) (ns : List Note) → decisions (lines_from i ns) ≡ points_among ns
decisions_told i ns = sym (points_of_facts (lines_from i ns)) ∙ ap points_of (lines_tell i ns) ∙ points_told ns

-- one note more
lines_push : (i k : ℕ) (ns : List Note) (n : Note) → k ≡ i + length ns → lines_from i (ns ++ n ∷ []) ≡ lines_from i ns ++ map (line_of k) (facts_of n)
lines_push i k [] n e = append-nil (map (line_of i) (facts_of n)) ∙ ap (λ (j : ℕ). map (line_of j) (facts_of n)) (let is : i ≡ k = omega arith in is)
lines_push i k (m ∷ ns) n e =
    ap (λ (zs : List Line). map (line_of i) (facts_of m) ++ zs) (lines_push (i + 1) k ns n (omega arith))
    ∙ sym (append_assoc (map (line_of i) (facts_of m)) (lines_from (i + 1) ns) (map (line_of k) (facts_of n)))

-- ---- who was reaped

ended_reaps : (w : walks.Standing) (r : walk_row.Row) → has_ended r ≡ true → stage_walked w r ≡ Reaped
ended_reaps w walk.Ended e = refl
ended_reaps w r e = absurd cc

-- an access of a call tells of no such end
step_reaps_none : (t u m : ℕ) (p : Option Decision) (z : Option Queue) (us vs : List ℕ) (y : Option Reply) → IsAmong (Reap t) (facts_of (Stepped u m p z us vs y)) → ⊥
step_reaps_none t u m p z us vs y h = never (of_step u m p z us vs y (Reap t) h)
  where
    never : OfStep u m p z us vs y (Reap t) → ⊥
    never (Is_point d is f) = absurd cc
    never (Is_sleep q f) = absurd cc
    never (Is_wake v f) = absurd cc
    never (Is_move v f) = absurd cc
    never (Is_return x is f) = absurd cc

-- one of a walk does where the walk has ended
walk_reaps : (t u : ℕ) (d : Option ℕ) (us : List ℕ) (b : Bool) → IsAmong (Reap t) (facts_of (Walked u d us b)) → (u ≡ t) × (b ≡ true)
walk_reaps t u d us b h = at_death (among_parts (Reap t) (death_facts u d) (map Wake us ++ reap_facts u b) h)
  where
    at_reap : (c : Bool) → IsAmong (Reap t) (reap_facts u c) → (u ≡ t) × (c ≡ true)
    at_reap true k = (ap thread_of (among_reaps u (Reap t) true k), refl)
    at_reap false k = absurd k

    at_wake : IsAmong (Reap t) (map Wake us) ⊎ IsAmong (Reap t) (reap_facts u b) → (u ≡ t) × (b ≡ true)
    at_wake (inl k) = let f = (among_wakes (Reap t) us k).1 in absurd cc
    at_wake (inr k) = at_reap b k

    at_death : IsAmong (Reap t) (death_facts u d) ⊎ IsAmong (Reap t) (map Wake us ++ reap_facts u b) → (u ≡ t) × (b ≡ true)
    at_death (inl k) = let f = (among_deaths u (Reap t) d k).1 in absurd cc
    at_death (inr k) = at_wake (among_parts (Reap t) (map Wake us) (reap_facts u b) k)

-- whose end of the walk is recorded is reaped then
module _ (s : State) (t : ℕ) where
  abbrev ReapsRightly : After → Type 0
  ReapsRightly a = IsAmong (Reap t) (facts_of a.note) → (a.state.threads t).stage ≡ Reaped

  begun_rightly : (u : ℕ) (o : Op) (b : Bool) → ReapsRightly (begun s u o (if b then Err XHELD else Ok (begins_at s.layout u o)))
  begun_rightly u o true (inl f) = absurd cc
  begun_rightly u o true (inr (inl f)) = absurd cc
  begun_rightly u o true (inr (inr (inl f))) = absurd cc
  begun_rightly u o true (inr (inr (inr h))) = absurd h
  begun_rightly u o false (inl f) = absurd cc
  begun_rightly u o false (inr h) = absurd h

  walked_rightly : (u : ℕ) (w : walks.Standing) → ReapsRightly (walked s u (s.threads u).held w)
  walked_rightly u w h =
      let so = walk_reaps t u _ _ _ h in
      ap (λ (v : ℕ). ((walked s u (s.threads u).held w).state.threads v).stage) (sym so.0) ∙ ap (λ (z : Thread). z.stage) (put-same s.threads u _) ∙ ended_reaps w _ so.1

  killed_rightly : (u : ℕ) → ReapsRightly (killed s u)
  killed_rightly u (inl f) = absurd cc
  killed_rightly u (inr h) = absurd h

  left_rightly : (u : ℕ) → ReapsRightly (departed s u)
  left_rightly u (inl f) = absurd cc
  left_rightly u (inr h) = absurd h

  lapsed_rightly : (u k : ℕ) (p : Whole) → ReapsRightly (lapsed s u (s.threads u).held (OnMutex (call.TimedLock k)) p)
  lapsed_rightly u k p (inl f) = absurd cc
  lapsed_rightly u k p (inr (inl f)) = absurd cc
  lapsed_rightly u k p (inr (inr h)) = absurd h

  overslept_rightly : (u k : ℕ) (p : Whole) → ReapsRightly (overslept s u (s.threads u).held k p)
  overslept_rightly u k p (inl f) = absurd cc
  overslept_rightly u k p (inr h) = absurd h

  renewed_rightly : (u : ℕ) → ReapsRightly (renewed s u)
  renewed_rightly u (inl f) = absurd cc
  renewed_rightly u (inr h) = absurd h

  reinited_rightly : (u j w : ℕ) → ReapsRightly (reinited s u j w)
  reinited_rightly u j w (inl f) = absurd cc
  reinited_rightly u j w (inr (inl f)) = absurd cc
  reinited_rightly u j w (inr (inr (inl f))) = absurd cc
  reinited_rightly u j w (inr (inr (inr h))) = absurd h

  reaped_stage : (e : Event) → ReapsRightly (happens s e)
  reaped_stage e =
      by_event s (λ x a. ReapsRightly a) (λ x h. absurd h) (λ u o first most inside idle b full. begun_rightly u o b)
      (λ u first most. by_stage s u ReapsRightly (λ rests h. absurd h) (λ o p is awake h. absurd (step_reaps_none t u _ _ _ _ _ _ h)) (λ c p is awake h. absurd (step_reaps_none t u _ _ _ _ _ _ h)) (λ w is awake. walked_rightly u w))
      (λ u first most alive. killed_rightly u)
      (λ u first most asleep. left_rightly u)
      (λ u k p first most is asleep may. lapsed_rightly u k p)
      (λ u k x p first most is there. overslept_rightly u k p)
      (λ u o p first most is awake trims h. let g = led o p (whole_led p (Trimmed false)) in absurd (step_reaps_none t u (mutex_of s.layout o) (decision u (mutex_of s.layout o) g.operation g.point) None [] [] g.returned h))
      (λ u first most gone. renewed_rightly u)
      (λ u j may. reinited_rightly u j 0)
      (λ u m g sp h. absurd (step_reaps_none t u m (decision u m g.operation g.point) None [] [] g.returned h))
      e

-- the lines of a note, after which whoever is reaped owns nothing
note_reaped : (k i : ℕ) (earlier : List Line) (n : Note) → ((t : ℕ) → IsAmong (Reap t) (facts_of n) → (m : ℕ) → m < k → (objects_after (onto (map (line_of i) (facts_of n)) earlier) m).owner ≢ Some t) → ReapedOn k earlier (map (line_of i) (facts_of n))
note_reaped k i earlier Nothing owns = tt
note_reaped k i earlier (Began u c None) owns = (tt, tt)
note_reaped k i earlier (Began u c (Some x)) owns = (tt, (tt, (tt, tt)))
note_reaped k i earlier (Killed u) owns = (tt, tt)
note_reaped k i earlier (Left u) owns = (tt, tt)
note_reaped k i earlier (Expired u (Mutex m)) owns = (tt, (tt, tt))
note_reaped k i earlier (Expired u (Condition m)) owns = (tt, tt)
note_reaped k i earlier (Renewed u) owns = (tt, tt)
note_reaped k i earlier (Reinited u j) owns = (tt, (tt, (tt, tt)))
note_reaped k i earlier (Stepped u m p z us vs y) owns = none_reaped k i earlier (facts_of (Stepped u m p z us vs y)) (λ t. step_reaps_none t u m p z us vs y)
note_reaped k i earlier (Walked u d us false) owns = none_reaped k i earlier (facts_of (Walked u d us false)) (λ t h. let so = (walk_reaps t u d us false h).1 in cc)
note_reaped k i earlier (Walked u d us true) owns =
    subst (ReapedOn k earlier) (sym parts)
    (reaped_append k earlier (map (line_of i) before) (line_of i (Reap u) ∷ []) (none_reaped k i earlier before (λ t h. none t (among_parts (Reap t) (death_facts u d) (map Wake us) h)))
    ((λ m below. subst (λ (ls : List Line). (objects_after ls m).owner ≢ Some u) (ap (λ (ls : List Line). onto ls earlier) parts ∙ onto-append (map (line_of i) before) (line_of i (Reap u) ∷ []) earlier) (owns u last m below)), tt))
  where
    before : List Fact
    before = death_facts u d ++ map Wake us

    parts : map (line_of i) (facts_of (Walked u d us true)) ≡ map (line_of i) before ++ line_of i (Reap u) ∷ []
    parts = ap (map (line_of i)) (sym (append_assoc (death_facts u d) (map Wake us) (Reap u ∷ []))) ∙ map-append (line_of i) before (Reap u ∷ [])

    last : IsAmong (Reap u) (facts_of (Walked u d us true))
    last = among_right (Reap u) (death_facts u d) (map Wake us ++ Reap u ∷ []) (among_right (Reap u) (map Wake us) (Reap u ∷ []) (inl refl))

    none : (t : ℕ) → IsAmong (Reap t) (death_facts u d) ⊎ IsAmong (Reap t) (map Wake us) → ⊥
    none t (inl h) = let f = (among_deaths u (Reap t) d h).1 in absurd cc
    none t (inr h) = let f = (among_wakes (Reap t) us h).1 in absurd cc

module _ (l : Layout') (counters : ℕ → ℕ) (is : IsLayout l) where
  -- the lines so far, the newest first
  abbrev told : List Event → List Line
  told es = onto (lines_from 1 (notes (start l counters) es)) []

  abbrev note_at : List Event → Event → Note
  note_at es e = (happens (run (start l counters) es) e).note

  lines_behind : (es : List Event) (e : Event) (i : ℕ) → i ≡ 1 + length (notes (start l counters) es) → lines_from 1 (notes (start l counters) (es ++ e ∷ [])) ≡ lines_from 1 (notes (start l counters) es) ++ map (line_of i) (facts_of (note_at es e))
  lines_behind es e i at = ap (lines_from 1) (notes_push (start l counters) es e) ∙ lines_push 1 i (notes (start l counters) es) (note_at es e) at

  told_behind : (es : List Event) (e : Event) (i : ℕ) → i ≡ 1 + length (notes (start l counters) es) → told (es ++ e ∷ []) ≡ onto (map (line_of i) (facts_of (note_at es e))) (told es)
  told_behind es e i at = ap (λ (ls : List Line). onto ls []) (lines_behind es e i at) ∙ onto-append (lines_from 1 (notes (start l counters) es)) (map (line_of i) (facts_of (note_at es e))) []

  -- the points and deaths are legal
  pub told_legal : (events : List Event) → Legal l.mutexes opening (decisions (lines_from 1 (notes (start l counters) events))) (seen (run (start l counters) events))
  told_legal events =
      let m = moment l counters events is in
      subst (λ (k : Layout'). Legal k.mutexes opening (decisions (lines_from 1 (notes (start l counters) events))) (seen (run (start l counters) events))) m.layout
      (subst (λ (ds : List Decision). Legal (run (start l counters) events).layout.mutexes opening ds (seen (run (start l counters) events))) (sym (decisions_told 1 (notes (start l counters) events))) m.history)

  event_owns : (es : List Event) (e : Event) (i : ℕ) → i ≡ 1 + length (notes (start l counters) es) → (t : ℕ) → IsAmong (Reap t) (facts_of (note_at es e)) → (m : ℕ) → m < l.mutexes
      → (objects_after (onto (map (line_of i) (facts_of (note_at es e))) (told es)) m).owner ≢ Some t
  event_owns es e i at t h m below =
      let stage : ((run (start l counters) (es ++ e ∷ [])).threads t).stage ≡ Reaped = ap (λ (s : State). (s.threads t).stage) (run_push (start l counters) es e) ∙ reaped_stage (run (start l counters) es) t e h in
      let owner = (moment l counters (es ++ e ∷ []) is).owners m t stage in
      subst (λ (ls : List Line). (objects_after ls m).owner ≢ Some t) (told_behind es e i at)
      (subst (λ (o : Object). o.owner ≢ Some t) (ends l.mutexes (seen (run (start l counters) (es ++ e ∷ []))) (lines_from 1 (notes (start l counters) (es ++ e ∷ []))) (told_legal (es ++ e ∷ [])) m) owner)

  reaped_from : (es later : List Event) (i : ℕ) → i ≡ 1 + length (notes (start l counters) es) → ReapedOn l.mutexes (told es) (lines_from i (notes (run (start l counters) es) later))
  reaped_from es [] i at = tt
  reaped_from es (e ∷ later) i at =
      reaped_append l.mutexes (told es) (map (line_of i) (facts_of (note_at es e))) (lines_from (i + 1) (notes (happens (run (start l counters) es) e).state later))
      (note_reaped l.mutexes i (told es) (note_at es e) (event_owns es e i at))
      (subst (λ (z : List Line × State). ReapedOn l.mutexes z.0 (lines_from (i + 1) (notes z.1 later))) (λ j. (told_behind es e i at j, run_push (start l counters) es e j))
      (reaped_from (es ++ e ∷ []) later (i + 1) (omega (arith, ap length (notes_push (start l counters) es e), length-append (notes (start l counters) es) (note_at es e ∷ []), at))))

  -- the calls of each thread go through their stages
  pub run_lives : (events : List Event) (t : ℕ) → Runs Resting (own_of t (facts_among (notes (start l counters) events)))
  run_lives events t =
      let ns = notes (start l counters) events in
      lives_run t (own_of t (facts_among ns)) (subst (Lives t) (own_facts t (lines_from 1 ns) ∙ ap (own_of t) (lines_tell 1 ns)) ((explained l counters events is).lives t))

  -- each line of a run fits those before it
  pub run_fits : (events : List Event) → AllFit l.mutexes (reverse (lines_from 1 (notes (start l counters) events)))
  run_fits events =
      let ns = notes (start l counters) events in
      all_fit l.mutexes (lines_from 1 ns) (in_order (lines_from 1 ns) (explained l counters events is).orderly)
      (threads_fit (lines_from 1 ns)
      (λ t. subst (FitAlong t []) (sym (lines_tell 1 ns)) (turns.all_fit t (facts_among ns) (run_lives events t) ((moment l counters events is).tells.alternate t) (run_placed l counters is t events))))
      (allowed l.mutexes (seen (run (start l counters) events)) (lines_from 1 ns) (told_legal events))
      (due (lines_from 1 ns) (λ t m. subst (TimeLimitsHaveReasons t m no_chances) (sym (lines_tell 1 ns)) (in_time l counters events is t m)))
      (reaped_from [] events 1 refl)
