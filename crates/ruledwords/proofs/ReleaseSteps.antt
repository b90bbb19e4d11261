-- Unlocks up to the waking, access by access.
use Rattle.std.proofs.Common.{◌≡◌, ◌≢◌, ℕ, ◌+◌, ◌<◌, Bool, true, false, Option, Some, None, Result, Ok, Err, [], ◌∷◌, is_some, refl, ap, sym, ◌∙◌, subst, arith}
use Rattle.std.specs.Result.{IsErrAnd}
use Rattle.lockword.specs.Cells.{fields_of}
use Rattle.lockword.specs.declared.reply.Reply.{Reply}
use Rattle.lockword.specs.declared.reply.Reply.TheVariants.{OK, EPERM}
use Rattle.stepprograms.specs.declared.access.Answer.{Answer}
use Rattle.stepprograms.specs.declared.access.Answer.TheVariants.{Stored}
use Rattle.memorymap.specs.Layouts.{cell_place}
use Rattle.posixmutex.specs.declared.point.Operation.TheVariants as operation
use Rattle.mutex.specs.declared.call.Call.TheVariants as call
use Rattle.mutex.specs.declared.phase.Phase.{Phase}
use Rattle.mutex.specs.declared.phase.Phase.TheVariants as phase
use Rattle.mutex.specs.declared.row.Row.TheVariants as row
use Rattle.mutex.specs.declared.unlock.UnlockRow.TheVariants as unlock
use Rattle.mutex.specs.Standings.{Whole}
use Rattle.mutex.specs.Steps.{Tells}
use Rattle.ruledwords.specs.declared.pass.Words.{Words}
use Rattle.ruledwords.specs.declared.pass.Pass.{Pass}
use Rattle.ruledwords.specs.declared.pass.Live.{Live}
use Rattle.ruledwords.specs.declared.turn.Wakes.{Wakes}
use Rattle.ruledwords.specs.declared.turn.Wakes.TheVariants.{Nobody, One, All}
use Rattle.ruledwords.specs.declared.step.End.{End}
use Rattle.ruledwords.specs.declared.step.End.TheVariants as end
use Rattle.ruledwords.specs.declared.turn.Running.{Running}
use Rattle.ruledwords.specs.Calls.{row_in}
use Rattle.ruledwords.specs.Changes.{ChangedNothing}
use Rattle.ruledwords.specs.Owing.{ChangesThere, FoundOwn, OwesThere, owing_at}
use Rattle.ruledwords.specs.Outcomes.{FreesAlone}
use Rattle.ruledwords.specs.Passes.{card, layout_of}
use Rattle.ruledwords.specs.Releases.{IsInRelease, IsReleasing, Refuses, ReleaseEnds, ReleasesAll, ReleasesTo, StaysReleasing}
use Rattle.ruledwords.specs.Seen.{Called, held}
use Rattle.ruledwords.specs.declared.turn.Turn.TheVariants.{Goes}
use Rattle.ruledwords.specs.Turns.{running_call, running_of, running_pass, stops_with, stops_within, Advances, IsOneStep, IsUnderWay, Turned}
use Rattle.mutex.specs.Whole.{once_stored, phase_access, phase_led, whole_access, whole_started, IsUnderWay as IsInProgress}
use Rattle.ruledwords.proofs.Beginnings.{unlock_begins}
use Rattle.ruledwords.proofs.Changes.{nothing_yet}
use Rattle.ruledwords.proofs.OwnTurns.{answered_untrimmed}
use Rattle.ruledwords.proofs.Ranks.{rank_in, turn_falls}
use Rattle.ruledwords.proofs.Releasing.{cleared, steps, told_on, refused_on}
use Rattle.ruledwords.proofs.Stepping.{counts_on}

pub not_owing : (f g : Phase) (o : Option Wakes) (b : Bool) → b ≡ is_some o → b ≡ false → OwesThere g o → g ≡ f → (v : Wakes) → f ≢ owing_at v
not_owing f g None b told none owes same v e = owes v (same ∙ e)
not_owing f g (Some x) b told none owes same v e = let bad : true ≡ false = sym told ∙ none in absurd (cc bad)

module _ (w : Words) (x : Pass Live) (m : ℕ) (a : Pass Live) (p : Whole) (rel : IsReleasing w x m a p) (not : (v : Wakes) → p.phase ≢ owing_at v) where
  abbrev pub r : Running
  r = running_of w a p rel.0

  pub is_one : IsOneStep (whole_access p)
  is_one = steps w x m r rel.1 rel.2 rel.3 rel.4 not

  module _ (b : Pass Live) where
    pub goes_on : (q : Whole) → Advances w a p b q None → IsReleasing w x m b q
    goes_on q adv =
        let t = adv rel.0 in
        let turned = t.1.1 in
        let told = told_on w x m r rel.1 rel.2 rel.3 rel.4 not (card b) turned.0 turned.1 in (
          t.0,
          t.1.2 x (call.Unlock m) rel.1,
          subst (λ (z : Whole). Tells operation.Unlock (row_in z.phase) (fields_of (card b).last)) (sym turned.2) told.0,
          subst (λ (z : Whole). FoundOwn (row_in z.phase) z.thread (card b).last) (sym turned.2) told.1,
          subst (λ (z : Whole). ChangesThere (row_in z.phase) (card x) (cell_place (layout_of w) m) (card b)) (sym turned.2) told.2,
          answered_untrimmed (layout_of w) p p.phase (card a) (card b) turned.0 turned.1 ∙ rel.5,
        )

    pub is_refused : (y : Reply) (q : Whole) → Advances w a p b q (Some y) → Refuses w x m b y
    is_refused y q adv =
        let t = adv rel.0 in
        let end = t.2 x (call.Unlock m) rel.1 in
        let is = refused_on w x m r rel.1 rel.2 rel.3 rel.4 not (card b) t.1.0 y t.1.1 t.1.2 in
        (end.0, is, subst (λ (z : Reply). Called (card x) (cell_place (layout_of w) m) ((operation.Unlock, z) ∷ []) (card b)) is end.1, answered_untrimmed (layout_of w) p p.phase (card a) (card b) t.1.0 t.1.1 ∙ rel.5)

-- ---- an access that is one step, wherever the unlock stands

abbrev may_owe : Phase → Bool
may_owe (phase.AtCell (row.Unlock (unlock.Wake all))) = true
may_owe (phase.Clearing y) = true
may_owe f = false

owing_owes : (v : Wakes) → may_owe (owing_at v) ≡ true
owing_owes Nobody = refl
owing_owes One = refl
owing_owes All = refl

owes_nowhere : (f : Phase) → may_owe f ≡ false → (v : Wakes) → f ≢ owing_at v
owes_nowhere f none v e = let bad : true ≡ false = sym (owing_owes v) ∙ ap may_owe (sym e) ∙ none in absurd (cc bad)

-- it owes nothing there, or stands before its wake, or before its entry is cleared
by_owing : {A : Type 0} (f : Phase) → (((v : Wakes) → f ≢ owing_at v) → A) → ((all : Bool) → f ≡ phase.AtCell (row.Unlock (unlock.Wake all)) → A) → ((y : Reply) → f ≡ phase.Clearing y → A) → A
by_owing (phase.AtCell (row.Unlock (unlock.Wake all))) not wake clear = wake all refl
by_owing (phase.Clearing y) not wake clear = clear y refl
by_owing f not wake clear = not (owes_nowhere f refl)

-- a store that clears its entry is its last access
ends_there : (y : Reply) (x : Answer) → IsInProgress (once_stored (phase.Ended y) x).phase → ⊥
ends_there y Stored goes = goes
ends_there y x goes = goes

ended_as : (y : Reply) (x : Answer) → (once_stored (phase.Ended y) x).phase ≡ phase.Ended OK → y ≡ OK
ended_as y Stored e = cc
ended_as y x e = absurd (cc e)

module _ (w : Words) (x : Pass Live) (m : ℕ) (a : Pass Live) (p : Whole) (one : IsOneStep (whole_access p)) (rel : IsReleasing w x m a p) (b : Pass Live) where
  no_wake : (all : Bool) → p.phase ≡ phase.AtCell (row.Unlock (unlock.Wake all)) → ⊥
  no_wake all is = subst (λ (f : Phase). IsOneStep (phase_access p f)) is one

  pub stays_on : (q : Whole) → Advances w a p b q None → IsReleasing w x m b q
  stays_on q adv = by_owing p.phase
      (λ not. goes_on w x m a p rel not b q adv)
      (λ all is. absurd (no_wake all is))
      (λ y is.
      let t = adv rel.0 in
      let turned = t.1.1 in
      absurd (ends_there y turned.0 (subst (λ (f : Phase). IsInProgress (phase_led p f turned.0).phase) is (subst (λ (z : Whole). IsInProgress z.phase) turned.2 t.0.going))))

  pub ends_alone : (y : Reply) (q : Whole) → Advances w a p b q (Some y) → y ≡ OK → FreesAlone (card x) (cell_place (layout_of w) m) (card b)
  ends_alone y q adv ok = by_owing p.phase
      (λ not. let bad : EPERM ≡ OK = sym (is_refused w x m a p rel not b y q adv).1 ∙ ok in absurd (cc bad))
      (λ all is. absurd (no_wake all is))
      (λ z is.
      let t = adv rel.0 in
      let turned = t.1 in
      let ended : (phase_led p (phase.Clearing z) turned.0).phase ≡ phase.Ended OK = ap (λ (f : Phase). (phase_led p f turned.0).phase) (sym is) ∙ turned.2 ∙ ap phase.Ended ok in
      cleared w x m (running_of w a p rel.0) rel.1 rel.2 rel.3 rel.4 (is ∙ ap phase.Clearing (ended_as z turned.0 ended)) (card b) turned.0 turned.1)

-- each access leaves fewer
pub releases_fall : (w : Words) (x : Pass Live) (m : ℕ) (a : Pass Live) (p : Whole) (rel : IsReleasing w x m a p) → ((v : Wakes) → p.phase ≢ owing_at v) → (r' : Running) → Turned (layout_of w) p a (Goes r')
    → rank_in (running_call r').phase < rank_in p.phase
releases_fall w x m a p rel not r' turned = turn_falls w (running_of w a p rel.0) r' operation.Unlock rel.1.0 (λ e. cc) rel.1.2.of (is_one w x m a p rel not) turned

-- what ends after accesses ends since before them
pub after : (w : Words) (a : Pass Live) (p : Whole) (b : Pass Live) (q : Whole) (d : Pass Live) (e : End) → StaysReleasing w a p b q → ReleaseEnds w b q d e → ReleaseEnds w a p d e
after w a p b q d end.Stopped so_far ends = λ x m is. ends x m (so_far x m is)
after w a p b q d (end.Replied y) so_far ends = λ x m is. ends x m (so_far x m is)

-- a `?` hands on how the unlock ended
handed_on : (w : Words) (a : Pass Live) (p : Whole) (b : Pass Live) (r : Result Whole End) (e : End) → IsErrAnd r (λ y. y ≡ e) → ReleaseEnds w a p b e → ReleasesTo w a p b r
handed_on w a p b (Ok q) e is ends = absurd is
handed_on w a p b (Err y) e is ends = subst (ReleaseEnds w a p b) (sym is) ends

pub all_handed_on : (w : Words) (a : Pass Live) (p : Whole) (b : Pass Live) (r : Result (Whole × Wakes) End) (e : End) → IsErrAnd r (λ y. y ≡ e) → ReleaseEnds w a p b e → ReleasesAll w a p b r
all_handed_on w a p b (Ok q) e is ends = absurd is
all_handed_on w a p b (Err y) e is ends = subst (ReleaseEnds w a p b) (sym is) ends

pub all_after : (w : Words) (a : Pass Live) (p : Whole) (b : Pass Live) (q : Whole) (d : Pass Live) (r : Result (Whole × Wakes) End) → StaysReleasing w a p b q → ReleasesAll w b q d r → ReleasesAll w a p d r
all_after w a p b q d (Ok s) so_far is = (is.0, λ x m rel. is.1 x m (so_far x m rel), is.2)
all_after w a p b q d (Err e) so_far is = after w a p b q d e so_far is

-- ---- accesses before each of which the thread's fate lets it go on

infixl 30 ◌⨾◌
-- from here to there, and from what the fate had said to what it has said then
pub record Went (w : Words) (a : Pass Live) (p : Whole) (b : Pass Live) (q : Whole) (f f' : ℕ) : Type 0 where
  pub stays : StaysReleasing w a p b q
  pub there : IsInRelease w b q
  pub fate : f' ≡ f + 0

-- one
pub went : {w : Words} {a : Pass Live} {p : Whole} {b : Pass Live} {q : Whole} {f f' : ℕ} {O : Type 0} → record { steps : StaysReleasing w a p b q; once : IsInRelease w b q × O; fate : f' ≡ f + 0 } → Went w a p b q f f'
went step = record { stays = step.steps; there = step.once.0; fate = step.fate }

-- and further ones
pub ◌⨾◌ : {w : Words} {a : Pass Live} {p : Whole} {b : Pass Live} {q : Whole} {d : Pass Live} {r : Whole} {f f' f'' : ℕ} → Went w a p b q f f' → Went w b q d r f' f'' → Went w a p d r f f''
first ⨾ more =
    let x = first.fate in
    let y = more.fate in
    record { stays = λ x m is. more.stays x m (first.stays x m is); there = more.there; fate = omega (arith, x, y) }

-- after them the unlock ended, which a `?` hands on
pub ended : {w : Words} {a : Pass Live} {p : Whole} {b : Pass Live} {q : Whole} {f f' f'' : ℕ} {O : Type 0} (d : Pass Live) (e : End) (r : Result Whole End)
    → Went w a p b q f f' → record { steps : ReleaseEnds w b q d e; once : O; fate : f'' ≡ f' + stops_with e } → IsErrAnd r (λ y. y ≡ e)
    → record { steps : ReleasesTo w a p d r; fate : f'' ≡ f + stops_within r }
ended {w} {a} {p} {b} {q} {f} {f'} {f''} d e r first last is =
    let x = first.fate in
    let y = last.fate in
    record { steps = handed_on w a p d r e is (after w a p b q d e first.stays last.steps); fate = counts_on r e f'' f is (omega (arith, x, y)) }

-- an unlock begins knowing nothing of the cell
pub releases_begun : (w : Words) (x : Pass Live) (m : ℕ) (r : Running) → whole_started (layout_of w) (card x).thread (held (card x)) (call.Unlock m) ≡ Ok (running_call r) → running_pass r ≡ x → IsUnderWay w x (call.Unlock m) r → IsReleasing w x m (running_pass r) (running_call r)
releases_begun w x m r started same u =
    let begun = unlock_begins (layout_of w) (card x).thread (held (card x)) m (running_call r) started in
    let last = (card (running_pass r)).last in (
      record { ready = r.ready; room = r.room; going = r.going; words = u.0 },
      u,
      subst (λ (p : Whole). Tells operation.Unlock (row_in p.phase) (fields_of last)) (sym begun) tt,
      subst (λ (p : Whole). FoundOwn (row_in p.phase) p.thread last) (sym begun) tt,
      subst (λ (p : Whole). ChangesThere (row_in p.phase) (card x) (cell_place (layout_of w) m) (card (running_pass r))) (sym begun)
          (subst (λ (a : Pass Live). ChangedNothing (card x) (cell_place (layout_of w) m) (card a)) (sym same) (nothing_yet (card x) (cell_place (layout_of w) m))),
      ap (λ (a : Pass Live). (card a).trims) same,
    )
