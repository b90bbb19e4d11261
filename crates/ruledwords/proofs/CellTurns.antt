-- A call at its mutex's cell: a step there, or a section.
use Rattle.std.proofs.Common.{◌≡◌, ℕ, ◌<◌, ◌≤◌, ◌^◌, Option, Some, None, refl, sym, ap, ◌∙◌, subst, arith}
use Rattle.lockword.specs.declared.reply.Reply.{Reply}
use Rattle.stepprograms.specs.declared.access.Access.{Access}
use Rattle.stepprograms.specs.declared.access.Answer.{Answer}
use Rattle.posixmutex.specs.declared.point.Operation.{Operation}
use Rattle.posixmutex.specs.declared.point.Point.{Point}
use Rattle.stepprograms.specs.Accesses.{answer_at}
use Rattle.memorymap.specs.Layouts.{Layout', cell_place}
use Rattle.mutex.specs.declared.call.Call.{Call}
use Rattle.mutex.specs.declared.phase.Phase.{Phase}
use Rattle.mutex.specs.declared.phase.Phase.TheVariants as phase
use Rattle.mutex.specs.Laws.{decided}
use Rattle.mutex.specs.Programs.{access_of, point_of, row_operation, led, moved}
use Rattle.mutex.specs.Rows.{IsGoing}
use Rattle.mutex.specs.Standings.{Standing, Whole}
use Rattle.mutex.specs.Steps.{IsStep}
use Rattle.mutex.specs.Whole.{whole_access, whole_led, whole_moved, whole_point, IsUnderWay}
use Rattle.mutex.proofs.Addresses.{few_words}
use Rattle.mutex.proofs.Steps.{undecided}
use Rattle.ruledwords.specs.declared.pass.Card.{Card}
use Rattle.ruledwords.specs.declared.pass.Words.{Words}
use Rattle.ruledwords.specs.declared.pass.Pass.{Pass}
use Rattle.ruledwords.specs.declared.pass.Live.{Live}
use Rattle.ruledwords.specs.declared.turn.Running.{Running}
use Rattle.ruledwords.specs.declared.turn.Turn.TheVariants.{Goes, Lives}
use Rattle.ruledwords.specs.Calls.{Ready, Made, OwnKept, count_after, led_at, most, row_in, standing_of, IsOnMutex}
use Rattle.ruledwords.specs.Lists.{IsAlive, IsInCall}
use Rattle.ruledwords.specs.Passes.{card, layout_of, IsCardOf, IsPassOf, IsLive}
use Rattle.ruledwords.specs.Seen.{held}
use Rattle.ruledwords.specs.Turns.{running_call, running_of, Answers, ComesTo, HasSeenTheSame, IsAnswerOf, IsAtCell, IsCallOf, IsDecided, IsOneStep, IsRunningOf, IsUnderWay as IsUnderWayFrom}
use Rattle.ruledwords.proofs.Accesses.{counted_after, few_made, room_made}
use Rattle.ruledwords.proofs.Cards.{same_mutex, still_card}
use Rattle.ruledwords.proofs.Listing.{its_operation, goes_made as list_goes_on, ends_made as list_ends, goes_answered as list_goes_answered, ends_answered as list_ends_answered}
use Rattle.ruledwords.proofs.Making.{addressed}
use Rattle.ruledwords.proofs.Phases.{cell_access, cell_knows, cell_moved, cell_led, cell_steps}
use Rattle.ruledwords.proofs.Sections.{passes, ready_answered}
use Rattle.ruledwords.proofs.Standing.{ready_after}
use Rattle.ruledwords.proofs.Turning.{StandsIn, HasEnded, goes_on_made, ends_made, goes_on_answered, ends_answered}

same_point : (p : Whole) (op : Operation) (s : Option Reply) → p.operation ≡ op → whole_point p s ≡ point_of p.thread p.cell op s
same_point p op None e = refl
same_point p op (Some x) e = ap (λ (o : Operation). Some (record { thread = p.thread; at = p.cell; operation = o; reply = x })) e

pub cell_answers : (k : Layout') (p : Whole) (f : Phase) (c d : Card) (x : Answer) → IsAtCell f → (m : ℕ) × (n : ℕ) × IsOnMutex k (standing_of p) m × Made (standing_of p) (cell_place k m) c n d × (x ≡ answer_at (whole_access p) n) → Answers k p f c d x
cell_answers k p (phase.Announcing r) c d x at told = absurd at
cell_answers k p (phase.AtCell r) c d x at told = told
cell_answers k p (phase.Linking l y) c d x at told = absurd at
cell_answers k p (phase.Unlinking u e) c d x at told = absurd at
cell_answers k p (phase.Clearing y) c d x at told = absurd at
cell_answers k p (phase.Ended y) c d x at told = absurd at

module _ (w : Words) (r : Running) (of : IsRunningOf w r) (at : IsAtCell (running_call r).phase) where
  abbrev pub k : Layout'
  k = layout_of w

  abbrev pub c : Card
  c = card r.pass

  abbrev pub p : Whole
  p = r.program

  abbrev pub z : Standing
  z = standing_of p

  abbrev pub on : ℕ
  on = of.1.0

  pub here : IsOnMutex k z on
  here = (of.1.1.inside, of.1.1.of.cell ∙ ap (λ (t : ℕ). Rattle.memorymap.specs.Layouts.address_in k t (cell_place k on)) (sym r.ready.0))

  pub going : IsGoing z.row
  going = (cell_knows p.phase at of.1.1.list.knows).0

  few : cell_place k on < 2 ^ 64
  few = let bound = few_words k c.thread of.0.1.layout of.0.1.first of.0.1.thread in let low = of.1.1.inside in omega arith

  there : p.cell ≡ Rattle.ruledwords.specs.Calls.address_at c (cell_place k on)
  there = addressed k z c on here r.ready.0 of.0.1.base

  pub its_own_operation : row_operation z.row ≡ p.operation
  its_own_operation = its_operation k c of.0.1 on p of.1.1 at

  moves : (x : Answer) (p' : Whole) → p' ≡ whole_moved p (whole_led p x) → standing_of p' ≡ moved z (led z x)
  moves x p' to = ap standing_of to ∙ cell_moved p x at

  -- ---- a step

  -- the step was made on the call's own mutex
  pub made_here : (n : ℕ) (d : Card) → (m : ℕ) × IsOnMutex k z m × Made z (cell_place k m) c n d → Made z (cell_place k on) c n d
  made_here n d told =
      let first = subst (λ (t : ℕ). 1 ≤ t) (sym r.ready.0) of.0.1.first in
      let few = subst (λ (t : ℕ). t ≤ k.threads) (sym r.ready.0) of.0.1.thread in
      subst (λ (m : ℕ). Made z (cell_place k m) c n d) (same_mutex k z on told.0 of.0.1.layout first few here told.1) told.2

  pub answered_here : (a : Access) (n : ℕ) (y : Answer) → a ≡ whole_access p → y ≡ answer_at a n → y ≡ answer_at (access_of z) n
  answered_here a n y next is = is ∙ ap (λ (b : Access). answer_at b n) (next ∙ cell_access p at)

  module _ (one : IsOneStep (whole_access p)) (n : ℕ) (d : Card) (made : Made z (cell_place k on) c n d) (kept : OwnKept k c d) where
    stepping : IsStep (access_of z)
    stepping = cell_steps p at one

    abbrev pub x : Answer
    x = answer_at (access_of z) n

    pub card_on : IsCardOf k d
    card_on = still_card k c (cell_place k on) _ _ d of.0.1 made.sees

    -- the point that is counted
    told : (point : Option Point) → point ≡ whole_point p (whole_led p x).point → point ≡ point_of z.thread z.cell (row_operation z.row) (led_at z n).point
    told point is = is ∙ ap (λ (o : _). whole_point p o.point) (cell_led p x at) ∙ same_point p (row_operation z.row) (led_at z n).point (sym its_own_operation)

    pub count_on : (h : ℕ) (point : Option Point) → h ≡ count_after r.pass.held point → point ≡ whole_point p (whole_led p x).point → h ≡ held d
    count_on h point is was = counted_after z (cell_place k on) c d n r.pass.held h point going stepping r.ready made r.pass.count is (told point was)

    pub few_on : (h : ℕ) (point : Option Point) → h ≡ count_after r.pass.held point → point ≡ whole_point p (whole_led p x).point → h ≤ 2048
    few_on h point is was = few_made z (cell_place k on) c d n r.pass.held h point going stepping r.ready made r.room is (told point was)

    module _ (p' : Whole) (to : p' ≡ whole_moved p (whole_led p x)) where
      pub ready_on : Ready (standing_of p') d
      ready_on = subst (λ (y : Standing). Ready y d) (sym (moves x p' to)) (ready_after z (cell_place k on) c d n few there going stepping r.ready made)

      pub room_on : (h : ℕ) (point : Option Point) → h ≡ count_after r.pass.held point → point ≡ whole_point p (whole_led p x).point → h ≤ most (row_in p'.phase)
      room_on h point is was = subst (λ (y : Standing). h ≤ most y.row) (sym (moves x p' to)) (room_made z (cell_place k on) c d n r.pass.held h point going stepping r.ready made r.room is (told point was))

      pub runs_on : IsUnderWay p'.phase → (m : ℕ) × IsInCall k d m p'
      runs_on under = (on, subst (λ (y : Whole). IsInCall k d on y) (sym to) (list_goes_on k c of.0.1 on p of.1.1 at d n going stepping r.ready made kept (subst (λ (y : Whole). IsUnderWay y.phase) to under)))

      pub stands_on : (a : Pass Live) (call : Call) → IsUnderWayFrom w a call r → StandsIn w a call (standing_of p') d
      stands_on a call u = goes_on_made w a call r u on n (standing_of p') d going stepping here made (moves x p' to)

      -- what was decided has no more steps
      pub never_decided : (m : ℕ) (e : Card) (y : Reply) → IsDecided w m e y r → ⊥
      never_decided m e y was = let none = undecided z.thread z.cell z.row going stepping in let some = was.1 in absurd (cc (none, some))

      module _ (y : Reply) (ended : p'.phase ≡ phase.Ended y) where
        pub lives_on : IsAlive k d
        lives_on = list_ends k c of.0.1 on p of.1.1 at d n going stepping r.ready made kept y (sym (ap (λ (q : Whole). q.phase) to) ∙ ended)

        pub ended_on : (a : Pass Live) (call : Call) → IsUnderWayFrom w a call r → HasEnded w a call y d
        ended_on a call u = ends_made w a call r u on n y d going stepping here made (sym (ap (λ (s : Standing). s.row) (moves x p' to)) ∙ ap row_in ended)

      -- ---- the turn as a whole

      module _ (b : Pass Live) (table : b.seat.table_id ≡ r.pass.seat.table_id) (is : card b ≡ d) (point : Option Point) (had : b.held ≡ count_after r.pass.held point) (counted : point ≡ whole_point p (whole_led p x).point) where
        is_pass : IsPassOf w b
        is_pass = (table ∙ of.0.0, subst (IsCardOf k) (sym is) card_on)

        in_call : IsUnderWay p'.phase → IsPassOf w b × ((m : ℕ) × IsInCall k (card b) m p')
        in_call under = let run = runs_on under in (is_pass, (run.0, subst (λ (e : Card). IsInCall k e run.0 p') (sym is) run.1))

        alive : (y : Reply) → p'.phase ≡ phase.Ended y → IsLive w b
        alive y ended = (is_pass, subst (IsAlive k) (sym is) (lives_on y ended))

        answered : (y : Answer) → Answers k p p.phase c d y → Answers k p p.phase c (card b) y
        answered y told = subst (λ (e : Card). Answers k p p.phase c e y) (sym is) told

        told_here : Answers k p p.phase c d x
        told_here = cell_answers k p p.phase c d x at (on, n, here, made, ap (λ (a : Access). answer_at a n) (sym (cell_access p at)))

        pub on_cell : IsUnderWay p'.phase → IsCallOf w b p'
        on_cell under = record {
          ready = subst (Ready (standing_of p')) (sym is) ready_on;
          room = room_on b.held point had counted;
          going = under;
          words = in_call under;
        }

        pub goes : (under : IsUnderWay p'.phase) → ComesTo w r (Goes (running_of w b p' (on_cell under)))
        goes under = (
          in_call under,
          (x, answered x told_here, to),
          (λ a call u. let s = subst (StandsIn w a call (standing_of p')) (sym is) (stands_on a call u) in (in_call under, s.0, s.1)),
          λ m e y was. absurd (never_decided m e y was),
        )

        pub lives : (y : Reply) → p'.phase ≡ phase.Ended y → ComesTo w r (Lives b y)
        lives y ended = (
          alive y ended,
          (x, answered x told_here, sym (ap (λ (q : Whole). q.phase) to) ∙ ended),
          (λ a call u. let s = subst (HasEnded w a call y) (sym is) (ended_on y ended a call u) in (alive y ended, s.0, s.1, s.2)),
          λ m e z was. absurd (never_decided m e z was),
        )

  -- ---- a section

  module _ (x : Answer) (fits : IsAnswerOf (access_of z) x) (p' : Whole) (to : p' ≡ whole_moved p (whole_led p x)) where
    pub ready_answered_on : Ready (standing_of p') c
    ready_answered_on = subst (λ (y : Standing). Ready y c) (sym (moves x p' to)) (ready_answered z c x fits r.ready)

    pub room_answered : r.pass.held ≤ most (row_in p'.phase)
    room_answered =
        let room = (passes z.thread z.cell z.row x fits).room in
        let had = r.room in
        subst (λ (y : Standing). r.pass.held ≤ most y.row) (sym (moves x p' to)) (omega arith)

    pub runs_answered : IsUnderWay p'.phase → IsPassOf w r.pass × ((m : ℕ) × IsInCall k c m p')
    runs_answered under = (of.0, (on, subst (λ (y : Whole). IsInCall k c on y) (sym to) (list_goes_answered k c of.0.1 on p of.1.1 at x fits (subst (λ (y : Whole). IsUnderWay y.phase) to under))))

    pub stands_answered_on : (a : Pass Live) (call : Call) → IsUnderWayFrom w a call r → StandsIn w a call (standing_of p') c
    stands_answered_on a call u = goes_on_answered w a call r u x (standing_of p') fits (moves x p' to)

    pub decided_answered : (m : ℕ) (e : Card) (y : Reply) → IsDecided w m e y r → (decided (row_in p'.phase) ≡ Some y) × IsOnMutex k (standing_of p') m × HasSeenTheSame (cell_place k m) e c
    decided_answered m e y was = (ap (λ (s : Standing). decided s.row) (moves x p' to) ∙ (passes z.thread z.cell z.row x fits).same ∙ was.1, subst (λ (s : Standing). IsOnMutex k s m) (sym (moves x p' to)) was.2, was.3)

    module _ (y : Reply) (ended : p'.phase ≡ phase.Ended y) where
      pub lives_answered : IsLive w r.pass
      lives_answered = (of.0, list_ends_answered k c of.0.1 on p of.1.1 at x fits y (sym (ap (λ (q : Whole). q.phase) to) ∙ ended))

      pub ended_answered : (a : Pass Live) (call : Call) → IsUnderWayFrom w a call r → HasEnded w a call y c
      ended_answered a call u = ends_answered w a call r u x y fits (sym (ap (λ (s : Standing). s.row) (moves x p' to)) ∙ ap row_in ended)

      pub reply_answered : (m : ℕ) (e : Card) (v : Reply) → IsDecided w m e v r → y ≡ v
      reply_answered m e v was = let told : Some y ≡ Some v = sym (ap (λ (f : Phase). decided (row_in f)) ended) ∙ (decided_answered m e v was).0 in cc
