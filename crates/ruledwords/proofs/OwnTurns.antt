-- A call at one of its thread's own words.
use Rattle.std.proofs.Common.{◌≡◌, ℕ, ◌≤◌, List, Some, refl, sym, ap, ◌∙◌, subst}
use Rattle.lockword.specs.declared.reply.Reply.{Reply}
use Rattle.stepprograms.specs.declared.access.Access.{Access}
use Rattle.stepprograms.specs.declared.access.Access.TheVariants as access
use Rattle.stepprograms.specs.declared.access.Answer.{Answer}
use Rattle.stepprograms.specs.Accesses.{answer_at}
use Rattle.memorymap.specs.Layouts.{Layout', cell_place}
use Rattle.robustlist.specs.Words.{answer_on}
use Rattle.mutex.specs.declared.call.Call.{Call}
use Rattle.mutex.specs.declared.phase.Phase.{Phase}
use Rattle.mutex.specs.declared.phase.Phase.TheVariants as phase
use Rattle.mutex.specs.Calls.{acts_as, mutex_of}
use Rattle.mutex.specs.Laws.{decided}
use Rattle.mutex.specs.Programs.{first_row}
use Rattle.mutex.specs.Standings.{Standing, Whole}
use Rattle.mutex.specs.Whole.{whole_access, whole_led, whole_moved, IsUnderWay}
use Rattle.mutex.specs.WholeLists.{IsOwnAccess}
use Rattle.ruledwords.specs.declared.pass.Card.{Card}
use Rattle.ruledwords.specs.declared.pass.Change.{Change}
use Rattle.ruledwords.specs.declared.pass.Words.{Words}
use Rattle.ruledwords.specs.declared.pass.Pass.{Pass}
use Rattle.ruledwords.specs.declared.pass.Live.{Live}
use Rattle.ruledwords.specs.declared.turn.Running.{Running}
use Rattle.ruledwords.specs.declared.turn.Turn.TheVariants.{Goes, Lives}
use Rattle.ruledwords.specs.Calls.{Ready, most, row_in, standing_of, IsOnMutex}
use Rattle.ruledwords.specs.Changes.{changes_at}
use Rattle.ruledwords.specs.Lists.{known, IsAlive, IsInCall}
use Rattle.ruledwords.specs.OwnWords.{own_after}
use Rattle.ruledwords.specs.Passes.{card, layout_of, IsCardOf, IsPassOf, IsLive}
use Rattle.ruledwords.specs.Turns.{running_call, running_of, Answers, ComesTo, HasSeenTheSame, IsCallOf, IsDecided, IsRunningOf, IsUnderWay as IsUnderWayFrom}
use Rattle.ruledwords.proofs.Exchanges.{expects_still}
use Rattle.ruledwords.proofs.Listing.{goes_own, ends_own}
use Rattle.ruledwords.proofs.Noted.{seen_stored, seen_on, still_stands}
use Rattle.ruledwords.proofs.Phases.{is_load_or_store, own_fits, own_moved}
use Rattle.ruledwords.proofs.Standing.{called}
use Rattle.ruledwords.proofs.Turning.{StandsIn, HasEnded, raced_at}

-- a store changes what the thread knows of its words, and nothing else
pub own_same : (k : Layout') (c : Card) (a : Access) → own_after k c a ≡ record c { values = (own_after k c a).values }
own_same k c (access.Store at v) = refl
own_same k c a = refl

pub card_own : (k : Layout') (c : Card) (a : Access) → IsCardOf k c → IsCardOf k (own_after k c a)
card_own k c a is = subst (IsCardOf k) (sym (own_same k c a)) record { layout = is.layout; threads = is.threads; first = is.first; thread = is.thread; base = is.base; legal = is.legal }

-- no access of a call trims but a section
pub answered_untrimmed : (k : Layout') (p : Whole) (f : Phase) (c d : Card) (x : Answer) → Answers k p f c d x → d.trims ≡ c.trims
answered_untrimmed k p (phase.AtCell r) c d x told = told.3.trims
answered_untrimmed k p f c d x told = ap (λ (z : Card). z.trims) (told.0 ∙ own_same k c (whole_access p))

pub own_answers : (k : Layout') (p : Whole) (f : Phase) (c d : Card) (x : Answer) → IsOwnAccess f → d ≡ own_after k c (whole_access p) → x ≡ answer_on (whole_access p) (known k c) → Answers k p f c d x
own_answers k p (phase.Announcing r) c d x own is at = (is, at)
own_answers k p (phase.AtCell r) c d x own is at = absurd own
own_answers k p (phase.Linking l y) c d x own is at = (is, at)
own_answers k p (phase.Unlinking u e) c d x own is at = (is, at)
own_answers k p (phase.Clearing y) c d x own is at = (is, at)
own_answers k p (phase.Ended y) c d x own is at = absurd own

-- what the access was answered, what the thread knows then, and where the call is
pub own_facts : (k : Layout') (p q : Whole) (c d : Card) (a : Access) (n : ℕ) (x : Answer) → a ≡ whole_access p → d ≡ own_after k c a → answer_at a n ≡ answer_on a (known k c) → x ≡ answer_at a n → q ≡ whole_moved p (whole_led p x)
    → (d ≡ own_after k c (whole_access p)) × (x ≡ answer_on (whole_access p) (known k c)) × (q ≡ whole_moved p (whole_led p (answer_on (whole_access p) (known k c))))
own_facts k p q c d a n x next is told answered to =
    let at : x ≡ answer_on (whole_access p) (known k c) = answered ∙ told ∙ ap (λ (b : Access). answer_on b (known k c)) next in
    (is ∙ ap (own_after k c) next, at, to ∙ ap (λ (y : Answer). whole_moved p (whole_led p y)) at)

module _ (w : Words) (r : Running) (of : IsRunningOf w r) (own : IsOwnAccess (running_call r).phase) where
  abbrev pub k : Layout'
  k = layout_of w

  abbrev pub c : Card
  c = card r.pass

  abbrev pub p : Whole
  p = r.program

  abbrev pub x : Answer
  x = answer_on (whole_access p) (known k c)

  abbrev pub d : Card
  d = own_after k c (whole_access p)

  abbrev pub q : Whole
  q = whole_moved p (whole_led p x)

  same : standing_of q ≡ standing_of p
  same = own_moved p x own of.1.1.list.knows (own_fits (whole_access p) (known k c) (is_load_or_store p own))

  same_row : row_in q.phase ≡ row_in p.phase
  same_row = ap (λ (z : Standing). z.row) same

  seen_same : {z : ℕ} → HasSeenTheSame z c d
  seen_same {z} = seen_stored z c d d.values (own_same k c (whole_access p))

  own_card : IsCardOf k d
  own_card = card_own k c (whole_access p) of.0.1

  -- its pass and its program afterwards
  module _ (b : Pass Live) (p' : Whole) (table : b.seat.table_id ≡ r.pass.seat.table_id) (is : card b ≡ d) (to : p' ≡ q) where
    as_before : standing_of p' ≡ standing_of p
    as_before = ap standing_of to ∙ same

    still : {z : ℕ} → HasSeenTheSame z c (card b)
    still {z} = subst (HasSeenTheSame z c) (sym is) seen_same

    is_pass : IsPassOf w b
    is_pass = (table ∙ of.0.0, subst (IsCardOf k) (sym is) own_card)

    pub runs_on : IsUnderWay p'.phase → IsPassOf w b × ((m : ℕ) × IsInCall k (card b) m p')
    runs_on going = (
      is_pass,
      (
        of.1.0,
        subst (λ (z : Card × Whole). IsInCall k z.0 of.1.0 z.1) (λ i. (sym is i, sym to i))
            (goes_own k c of.0.1 of.1.0 p of.1.1 own (subst (λ (z : Whole). IsUnderWay z.phase) to going)),
      ),
    )

    pub ready_on : Ready (standing_of p') (card b)
    ready_on = subst (λ (z : Standing × Card). Ready z.0 z.1) (λ i. (sym as_before i, sym (is ∙ own_same k c (whole_access p)) i)) r.ready

    pub room_on : (n : ℕ) → n ≡ r.pass.held → n ≤ most (row_in p'.phase)
    room_on n held = subst (λ (z : ℕ × Standing). z.0 ≤ most z.1.row) (λ i. (sym held i, sym as_before i)) r.room

    pub stands_on : (a : Pass Live) (call : Call) → IsUnderWayFrom w a call r → StandsIn w a call (standing_of p') (card b)
    stands_on a call u = subst (λ (z : Standing). StandsIn w a call z (card b)) (sym as_before)
        (u.1, still_stands (acts_as call) (first_row call) (cell_place k (mutex_of call)) (card a) (standing_of p) c (card b) still (expects_still (standing_of p).row (cell_place k (mutex_of call)) c (card b) (ap (λ (l : List (List Change)). changes_at l (cell_place k (mutex_of call))) (ap (λ (z : Card). z.changes) (is ∙ own_same k c (whole_access p)))) u.2.expects) u.2)

    pub decided_on : (m : ℕ) (e : Card) (y : Reply) → IsDecided w m e y r → (decided (row_in p'.phase) ≡ Some y) × IsOnMutex k (standing_of p') m × HasSeenTheSame (cell_place k m) e (card b)
    decided_on m e y was = (ap (λ (z : Standing). decided z.row) as_before ∙ was.1, subst (λ (z : Standing). IsOnMutex k z m) (sym as_before) was.2, seen_on (cell_place k m) e c (card b) was.3 still)

    module _ (y : Reply) (ended : p'.phase ≡ phase.Ended y) where
      pub lives_on : IsLive w b
      lives_on = (is_pass, subst (IsAlive k) (sym is) (ends_own k c of.0.1 of.1.0 p of.1.1 own y (sym (ap (λ (z : Whole). z.phase) to) ∙ ended)))

      pub ended_on : (a : Pass Live) (call : Call) → IsUnderWayFrom w a call r → HasEnded w a call y (card b)
      ended_on a call u =
          let s = (stands_on a call u).1 in (
            called (acts_as call) (first_row call) (cell_place k (mutex_of call)) (card a) (standing_of p') (card b) y s (ap (λ (f : Phase). decided (row_in f)) ended),
            raced_at call (cell_place k (mutex_of call)) (card a) (standing_of p') (card b) y s (ap row_in ended),
            s.knows,
          )

      pub reply_on : (m : ℕ) (e : Card) (z : Reply) → IsDecided w m e z r → y ≡ z
      reply_on m e z was = let told : Some y ≡ Some z = sym (ap (λ (f : Phase). decided (row_in f)) ended) ∙ (decided_on m e z was).0 in cc

    -- ---- the turn as a whole

    module _ (had : b.held ≡ r.pass.held) where
      pub on_own : IsUnderWay p'.phase → IsCallOf w b p'
      on_own going = record { ready = ready_on; room = room_on b.held had; going = going; words = runs_on going }

      pub goes : (going : IsUnderWay p'.phase) → ComesTo w r (Goes (running_of w b p' (on_own going)))
      goes going = (
        runs_on going,
        (x, own_answers k p p.phase c (card b) x own is refl, to),
        (λ a call u. let s = stands_on a call u in (runs_on going, s.0, s.1)),
        λ m e y was. let s = decided_on m e y was in (runs_on going, s.0, s.1, s.2),
      )

      pub lives : (y : Reply) → p'.phase ≡ phase.Ended y → ComesTo w r (Lives b y)
      lives y ended = (
        lives_on y ended,
        (x, own_answers k p p.phase c (card b) x own is refl, sym (ap (λ (z : Whole). z.phase) to) ∙ ended),
        (λ a call u. let s = ended_on y ended a call u in (lives_on y ended, s.0, s.1, s.2)),
        λ m e z was. (lives_on y ended, reply_on y ended m e z was, (decided_on m e z was).2),
      )
