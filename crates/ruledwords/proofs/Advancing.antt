-- An access of a call, at its mutex's cell or at one of its thread's own words, and what the call comes to by it.
use Rattle.std.proofs.Common.{◌≡◌, ℕ, ◌≤◌, List, Option, None, refl, sym, ap, ◌∙◌, subst, ⊎_elim}
use Rattle.atomic_table.specs.declared.shared.Seat.{Seat}
use Rattle.lockword.specs.declared.reply.Reply.{Reply}
use Rattle.stepprograms.specs.declared.access.Access.{Access}
use Rattle.stepprograms.specs.declared.access.Answer.{Answer}
use Rattle.stepprograms.specs.declared.access.Answer.TheVariants.{Stored}
use Rattle.posixmutex.specs.declared.point.Point.{Point}
use Rattle.stepprograms.specs.Accesses.{answer_at}
use Rattle.memorymap.specs.Layouts.{Layout', cell_place}
use Rattle.robustlist.specs.Words.{answer_on}
use Rattle.mutex.specs.declared.phase.Phase.{Phase}
use Rattle.mutex.specs.declared.phase.Phase.TheVariants as phase
use Rattle.mutex.specs.Programs.{access_of}
use Rattle.mutex.specs.Standings.{Whole}
use Rattle.mutex.specs.Whole.{phase_led, once_stored, whole_access, whole_led, whole_moved, whole_point, IsUnderWay}
use Rattle.mutex.specs.WholeLists.{IsOwnAccess}
use Rattle.ruledwords.specs.declared.pass.Card.{Card}
use Rattle.ruledwords.specs.declared.pass.Words.{Words}
use Rattle.ruledwords.specs.declared.pass.Pass.{Pass}
use Rattle.ruledwords.specs.declared.pass.Live.{Live}
use Rattle.ruledwords.specs.declared.turn.Running.{Running}
use Rattle.ruledwords.specs.declared.turn.Turn.TheVariants.{Goes, Lives}
use Rattle.ruledwords.specs.Calls.{count_after, IsOnMutex, Made, OwnKept, standing_of}
use Rattle.ruledwords.specs.Lists.{known}
use Rattle.ruledwords.specs.OwnWords.{own_after}
use Rattle.ruledwords.specs.Passes.{card, layout_of}
use Rattle.ruledwords.specs.Rules.{card_of}
use Rattle.ruledwords.specs.Seen.{held}
use Rattle.ruledwords.specs.Turns.{running_of, ComesTo, FindsWord, Found, IsAtCell, IsCallOf, IsOneStep}
use Rattle.ruledwords.proofs.CellTurns.{made_here, answered_here, count_on, few_on, on_cell}
use Rattle.ruledwords.proofs.CellTurns.{goes as goes_at_cell, lives as lives_at_cell}
use Rattle.ruledwords.proofs.OwnTurns.{own_facts, own_same, on_own}
use Rattle.ruledwords.proofs.OwnTurns.{goes as goes_at_own, lives as lives_at_own}
use Rattle.ruledwords.proofs.Ranks.{own_or_at_cell}

-- ---- what was found, by where the call stands

pub found_at_cell : (k : Layout') (p : Whole) (f : Phase) (c : Card) (n : ℕ) (d : Card) → IsAtCell f → Found k p f c n d → OwnKept k c d × ((m : ℕ) × IsOnMutex k (standing_of p) m × Made (standing_of p) (cell_place k m) c n d)
found_at_cell k p (phase.Announcing r) c n d at found = absurd at
found_at_cell k p (phase.AtCell r) c n d at found = found
found_at_cell k p (phase.Linking l y) c n d at found = absurd at
found_at_cell k p (phase.Unlinking u e) c n d at found = absurd at
found_at_cell k p (phase.Clearing y) c n d at found = absurd at
found_at_cell k p (phase.Ended y) c n d at found = absurd at

found_own : (k : Layout') (p : Whole) (f : Phase) (c : Card) (n : ℕ) (d : Card) → IsOwnAccess f → Found k p f c n d → (d ≡ own_after k c (whole_access p)) × (answer_at (whole_access p) n ≡ answer_on (whole_access p) (known k c))
found_own k p (phase.Announcing r) c n d own found = found
found_own k p (phase.AtCell r) c n d own found = absurd own
found_own k p (phase.Linking l y) c n d own found = found
found_own k p (phase.Unlinking u e) c n d own found = found
found_own k p (phase.Clearing y) c n d own found = found
found_own k p (phase.Ended y) c n d own found = absurd own

pub found_untrimmed : (k : Layout') (p : Whole) (f : Phase) (c : Card) (n : ℕ) (d : Card) → Found k p f c n d → d.trims ≡ c.trims
found_untrimmed k p (phase.AtCell r) c n d found = found.1.2.trims
found_untrimmed k p f c n d found = ap (λ (z : Card). z.trims) (found.0 ∙ own_same k c (whole_access p))

-- an access of an own word is no point
stored_point : (f : Phase) (x : Answer) → (once_stored f x).point ≡ None
stored_point f Stored = refl
stored_point f x = refl

own_point : (p : Whole) (f : Phase) (x : Answer) → IsOwnAccess f → (phase_led p f x).point ≡ None
own_point p (phase.Announcing r) x own = stored_point _ x
own_point p (phase.AtCell r) x own = absurd own
own_point p (phase.Linking l y) x own = refl
own_point p (phase.Unlinking u e) x own = refl
own_point p (phase.Clearing y) x own = stored_point _ x
own_point p (phase.Ended y) x own = absurd own

-- ---- what the call comes to

module _ (w : Words) (a : Pass Live) (p : Whole) (of : IsCallOf w a p) (one : IsOneStep (whole_access p))
    (s : Seat (Unit {0}) (List Card)) (n : ℕ) (finds : FindsWord w a.seat s p n)
    (next : Access) (is_next : next ≡ whole_access p) (x : Answer) (is_answer : x ≡ answer_at next n)
    (q : Whole) (to : q ≡ whole_moved p (whole_led p x))
    (point : Option Point) (counted : point ≡ whole_point p (whole_led p x).point) (h : ℕ) (had : h ≡ count_after a.held point) where
  abbrev r : Running
  r = running_of w a p of

  abbrev k : Layout'
  k = layout_of w

  abbrev c : Card
  c = card a

  abbrev d : Card
  d = card_of s.me.0

  by_phase : {A : Type 0} → (IsAtCell p.phase → A) → (IsOwnAccess p.phase → A) → A
  by_phase here own = ⊎_elim own here (own_or_at_cell p.phase of.going)

  -- at the cell
  module _ (at : IsAtCell p.phase) where
    kept : OwnKept k c d
    kept = (found_at_cell k p p.phase c n d at finds.2).0

    here : Made (standing_of p) (cell_place k of.words.1.0) c n d
    here = made_here w r of.words at n d (found_at_cell k p p.phase c n d at finds.2).1

    same : x ≡ answer_at (access_of (standing_of p)) n
    same = answered_here w r of.words at next n x is_next is_answer

    to_cell : q ≡ whole_moved p (whole_led p (answer_at (access_of (standing_of p)) n))
    to_cell = to ∙ ap (λ (y : Answer). whole_moved p (whole_led p y)) same

    told : point ≡ whole_point p (whole_led p (answer_at (access_of (standing_of p)) n)).point
    told = counted ∙ ap (λ (y : Answer). whole_point p (whole_led p y).point) same

  -- at an own word
  module _ (own : IsOwnAccess p.phase) where
    facts : (d ≡ own_after k c (whole_access p)) × (x ≡ answer_on (whole_access p) (known k c)) × (q ≡ whole_moved p (whole_led p (answer_on (whole_access p) (known k c))))
    facts =
        let found = found_own k p p.phase c n d own finds.2 in
        own_facts k p q c d next n x is_next (found.0 ∙ ap (own_after k c) (sym is_next)) (subst (λ (b : Access). answer_at b n ≡ answer_on b (known k c)) (sym is_next) found.1) is_answer to

    held_as_before : h ≡ a.held
    held_as_before = had ∙ ap (count_after a.held) (counted ∙ ap (whole_point p) (own_point p p.phase x own))

  pub of_thread : d.thread ≡ a.thread
  of_thread = by_phase
      (λ at. (here at).sees.thread ∙ a.own)
      (λ own. ap (λ (e : Card). e.thread) ((facts own).0 ∙ own_same k c (whole_access p)) ∙ a.own)

  pub count : h ≡ held d
  count = by_phase
      (λ at. count_on w r of.words at one n d (here at) (kept at) h point had (told at))
      (λ own. held_as_before own ∙ a.count ∙ ap held (sym ((facts own).0 ∙ own_same k c (whole_access p))))

  pub few : h ≤ 2048
  few = by_phase
      (λ at. few_on w r of.words at one n d (here at) (kept at) h point had (told at))
      (λ own. subst (λ (m : ℕ). m ≤ 2048) (sym (held_as_before own)) a.few)

  module _ (b : Pass Live) (table : b.seat.table_id ≡ a.seat.table_id) (is : card b ≡ d) (holds : b.held ≡ h) where
    pub goes : IsUnderWay q.phase → (on : IsCallOf w b q) × ComesTo w r (Goes (running_of w b q on))
    goes under = by_phase
        (λ at. (
          on_cell w r of.words at one n d (here at) (kept at) q (to_cell at) b table is point (holds ∙ had) (told at) under,
          goes_at_cell w r of.words at one n d (here at) (kept at) q (to_cell at) b table is point (holds ∙ had) (told at) under,
        ))
        (λ own. let f = facts own in let same = holds ∙ held_as_before own in (
          on_own w r of.words own b q table (is ∙ f.0) f.2 same under,
          goes_at_own w r of.words own b q table (is ∙ f.0) f.2 same under,
        ))

    pub lives : (y : Reply) → q.phase ≡ phase.Ended y → ComesTo w r (Lives b y)
    lives y ended = by_phase
        (λ at. lives_at_cell w r of.words at one n d (here at) (kept at) q (to_cell at) b table is point (holds ∙ had) (told at) y ended)
        (λ own. let f = facts own in lives_at_own w r of.words own b q table (is ∙ f.0) f.2 (holds ∙ held_as_before own) y ended)
