-- A release, up to the waking of sleepers.
use Rattle.std.proofs.Common.{Bool, true, false, ◌≡◌, ◌≢◌, ⊎_elim, ℕ, Option, Some, None, List, [], ◌∷◌, refl, sym, ap, ◌∙◌, subst}
use Rattle.std.specs.Prelude.{if◌then◌else◌}
use Rattle.lockword.specs.Cells.{fields_of}
use Rattle.lockword.specs.declared.reply.Reply.{Reply}
use Rattle.lockword.specs.declared.reply.Reply.TheVariants.{OK, EPERM, EFAULT}
use Rattle.stepprograms.specs.declared.access.Access.{Access}
use Rattle.stepprograms.specs.declared.access.Answer.{Answer}
use Rattle.stepprograms.specs.declared.access.Answer.TheVariants.{Stored}
use Rattle.posixmutex.specs.declared.point.Operation.{Operation}
use Rattle.posixmutex.specs.declared.point.Operation.TheVariants as operation
use Rattle.stepprograms.specs.Accesses.{answer_at}
use Rattle.memorymap.specs.Layouts.{Layout', cell_place}
use Rattle.robustlist.specs.declared.link.LinkRow.{LinkRow}
use Rattle.robustlist.specs.declared.link.LinkRow.TheVariants as link
use Rattle.robustlist.specs.declared.unlink.UnlinkRow.{UnlinkRow}
use Rattle.robustlist.specs.declared.unlink.UnlinkRow.TheVariants as unlink
use Rattle.robustlist.specs.Standings.{LinkStanding, UnlinkStanding}
use Rattle.robustlist.specs.Link.{link_moved}
use Rattle.robustlist.specs.Unlink.{unlink_moved}
use Rattle.robustlist.specs.Words.{IsAnswerOf as FitsOwn}
use Rattle.mutex.specs.declared.call.Call.TheVariants as call
use Rattle.mutex.specs.declared.phase.Phase.{Phase}
use Rattle.mutex.specs.declared.phase.Phase.TheVariants.{Announcing, AtCell, Linking, Unlinking, Clearing, Ended}
use Rattle.mutex.specs.declared.row.Row.{Row}
use Rattle.mutex.specs.declared.row.Row.TheVariants as row
use Rattle.mutex.specs.declared.unlock.UnlockRow.TheVariants as unlock
use Rattle.mutex.specs.Laws.{decided}
use Rattle.mutex.specs.Programs.{access_of, led}
use Rattle.mutex.specs.Standings.{Standing, Whole}
use Rattle.mutex.specs.Steps.{Tells}
use Rattle.mutex.specs.Whole.{phase_led, announced, leaving, after_cell, linked_at, unlinked_at, whole_access, whole_led}
use Rattle.mutex.specs.WholeLists.{IsOwnAccess}
use Rattle.mutex.proofs.Steps.{of_going, unlock_steps, unlock_refused}
use Rattle.ruledwords.specs.declared.pass.Card.{Card}
use Rattle.ruledwords.specs.declared.turn.Wakes.{Wakes}
use Rattle.ruledwords.specs.declared.turn.Wakes.TheVariants.{Nobody, One, All}
use Rattle.ruledwords.specs.declared.pass.Words.{Words}
use Rattle.ruledwords.specs.declared.pass.Pass.{Pass}
use Rattle.ruledwords.specs.declared.pass.Live.{Live}
use Rattle.ruledwords.specs.declared.turn.Running.{Running}
use Rattle.ruledwords.specs.Calls.{row_in, standing_of}
use Rattle.ruledwords.specs.Lists.{known}
use Rattle.ruledwords.specs.Outcomes.{wakes_of, FreesAlone}
use Rattle.ruledwords.specs.Owing.{owing_at, OwesThere}
use Rattle.ruledwords.specs.Passes.{card, layout_of}
use Rattle.ruledwords.specs.Seen.{Called}
use Rattle.ruledwords.specs.Turns.{access_in, Answers, IsAtCell, IsOneStep, IsUnderWay}
use Rattle.ruledwords.proofs.CellTurns.{going}
use Rattle.ruledwords.specs.Changes.{ChangedNothing, ChangedOnce}
use Rattle.ruledwords.specs.Owing.{ChangesThere, FoundOwn, IsSpoiltAsFound}
use Rattle.ruledwords.specs.OwnWords.{own_after}
use Rattle.ruledwords.proofs.Freeing.{at_wake, changes_on, found_own}
use Rattle.ruledwords.proofs.OwnTurns.{own_same}
use Rattle.ruledwords.proofs.Phases.{cell_access, cell_led, cell_phase, cell_steps, is_load_or_store, own_fits, own_moved, row_after}
use Rattle.ruledwords.proofs.Ranks.{cell_told, own_or_at_cell, own_told}
use Rattle.ruledwords.proofs.Standing.{called, tells_after}
use Rattle.ruledwords.proofs.StepsOfCalls.{one_step}
use Rattle.ruledwords.proofs.Turning.{there}

-- ---- whom it has to wake

pub wakes_told : (v : Wakes) (f : Phase) (n : ℕ) → f ≡ owing_at v → Tells operation.Unlock (row_in f) (fields_of n) → v ≡ wakes_of n
wakes_told v f n is tells = go v (subst (λ (z : Phase). Tells operation.Unlock (row_in z) (fields_of n)) is tells)
  where
    go : (v : Wakes) → Tells operation.Unlock (row_in (owing_at v)) (fields_of n) → v ≡ wakes_of n
    go Nobody off = sym (ap (λ (b : Bool). if b then (if (fields_of n).died then All else One) else Nobody) off)
    go One on = sym (ap (λ (b : Bool). if b then (if (fields_of n).died then All else One) else Nobody) on.0 ∙ ap (λ (b : Bool). if b then All else One) on.1)
    go All on = sym (ap (λ (b : Bool). if b then (if (fields_of n).died then All else One) else Nobody) on.0 ∙ ap (λ (b : Bool). if b then All else One) on.1)

pub owner_found : (v : Wakes) (f : Phase) (t n : ℕ) → f ≡ owing_at v → FoundOwn (row_in f) t n → (fields_of n).owner ≡ t
owner_found v f t n is found = go v (subst (λ (z : Phase). FoundOwn (row_in z) t n) is found)
  where
    go : (v : Wakes) → FoundOwn (row_in (owing_at v)) t n → (fields_of n).owner ≡ t
    go Nobody own = own
    go One own = own
    go All own = own

once_there : (v : Wakes) (f : Phase) (c : Card) (q : ℕ) (d : Card) → f ≡ owing_at v → ChangesThere (row_in f) c q d → ChangedOnce c q d × IsSpoiltAsFound q d
once_there v f c q d is so = go v (subst (λ (z : Phase). ChangesThere (row_in z) c q d) is so)
  where
    go : (v : Wakes) → ChangesThere (row_in (owing_at v)) c q d → ChangedOnce c q d × IsSpoiltAsFound q d
    go Nobody once = once
    go One once = once
    go All once = once

-- what a thread stores in its own words changes no cell
still_nothing : (c : Card) (q : ℕ) (d : Card) (vs : List (Option ℕ)) → ChangedNothing c q d → ChangedNothing c q record d { values = vs }
still_nothing c q d vs so = record { since = so.since; others = so.others; grows = so.grows }

still_once : (c : Card) (q : ℕ) (d : Card) (vs : List (Option ℕ)) → ChangedOnce c q d → ChangedOnce c q record d { values = vs }
still_once c q d vs so = record { since = so.since; others = so.others; word = so.word; grows = so.grows; found = so.found }

still_changed : (r : Row) (c : Card) (q : ℕ) (d : Card) (vs : List (Option ℕ)) → ChangesThere r c q d → ChangesThere r c q record d { values = vs }
still_changed (row.Lock r) c q d vs so = still_nothing c q d vs so
still_changed (row.TryLock r) c q d vs so = still_nothing c q d vs so
still_changed (row.Unlock unlock.Load) c q d vs so = still_nothing c q d vs so
still_changed (row.Unlock (unlock.Release b)) c q d vs so = still_nothing c q d vs so
still_changed (row.Unlock (unlock.Wake a)) c q d vs so = (still_once c q d vs so.0, so.1)
still_changed (row.Unlock unlock.Trim) c q d vs so = still_nothing c q d vs so
still_changed (row.Consistent r) c q d vs so = still_nothing c q d vs so
still_changed (row.Ended OK) c q d vs so = (still_once c q d vs so.0, so.1)
still_changed (row.Ended x) c q d vs so = still_nothing c q d vs so

decided_there : (v : Wakes) → decided (row_in (owing_at v)) ≡ Some OK
decided_there Nobody = refl
decided_there One = refl
decided_there All = refl

-- it stands where it owes nothing
pub owes_nothing : (f g : Phase) (o : Option Wakes) → ((v : Wakes) → o ≡ Some v → ⊥) → OwesThere g o → g ≡ f → (v : Wakes) → f ≢ owing_at v
owes_nothing f g None other owes same v e = owes v (same ∙ e)
owes_nothing f g (Some x) other owes same v e = other x refl

-- ---- turn by turn

wakes_there : (a : Bool) → AtCell (row.Unlock (unlock.Wake a)) ≡ owing_at (if a then All else One)
wakes_there true = refl
wakes_there false = refl

module _ (w : Words) (a : Pass Live) (m : ℕ) (r : Running) (u : IsUnderWay w a (call.Unlock m) r) (tells : Tells operation.Unlock (row_in r.program.phase) (fields_of (card r.pass).last))
    (found : FoundOwn (row_in r.program.phase) r.program.thread (card r.pass).last) (so : ChangesThere (row_in r.program.phase) (card a) (cell_place (layout_of w) m) (card r.pass)) where
  abbrev k : Layout'
  k = layout_of w

  abbrev p : Whole
  p = r.program

  abbrev c : Card
  c = card r.pass

  -- where it owes its wakes
  pub freed : (v : Wakes) → p.phase ≡ owing_at v → Called (card a) (cell_place k m) ((operation.Unlock, OK) ∷ []) c × ((fields_of c.last).owner ≡ (card a).thread) × (v ≡ wakes_of c.last) × ChangedOnce (card a) (cell_place k m) c
      × IsSpoiltAsFound (cell_place k m) c
  freed v is = (
    called operation.Unlock _ (cell_place k m) (card a) (standing_of p) c OK u.2 (ap (λ (f : Phase). decided (row_in f)) is ∙ decided_there v),
    owner_found v p.phase p.thread c.last is found ∙ r.ready.0 ∙ u.2.called.saw.thread,
    wakes_told v p.phase c.last is tells,
    (once_there v p.phase (card a) (cell_place k m) c is so).0,
    (once_there v p.phase (card a) (cell_place k m) c is so).1,
  )

  -- where its entry is cleared, nobody was to be woken
  pub cleared : p.phase ≡ Clearing OK → (d : Card) (x : Answer) → Answers k p p.phase c d x → FreesAlone (card a) (cell_place k m) d
  cleared is d x answers =
      let told = own_told k p p.phase c d x (subst IsOwnAccess (sym is) tt) answers in
      let same = told.0 ∙ own_same k c (whole_access p) in
      let last : d.last ≡ c.last = ap (λ (z : Card). z.last) same in
      let so = freed Nobody is in
      record {
        owner = ap (λ (n : ℕ). (fields_of n).owner) last ∙ so.1;
        nobody = ap wakes_of last ∙ sym so.2;
        once = subst (ChangedOnce (card a) (cell_place k m)) (sym same) (still_once (card a) (cell_place k m) c _ so.3);
      }

  module _ (owing_not : (v : Wakes) → p.phase ≢ owing_at v) where
    -- its access is a step
    pub steps : IsOneStep (access_in r)
    steps = one_step w r u.0 (λ at goes. unlock_steps p.thread p.cell (row_in p.phase) (fields_of c.last) goes u.2.of tells (λ to n e.
        let wakes = at_wake p.thread p.cell to n (row_in p.phase) goes u.2.of e in
        owing_not (if wakes.0 then All else One) (cell_phase p at ∙ ap AtCell wakes.1 ∙ wakes_there wakes.0)))

    -- what is recorded of the word that was found
    pub told_on : (d : Card) (x : Answer) → Answers k p p.phase c d x
        → Tells operation.Unlock (row_in (whole_led p x).phase) (fields_of d.last) × FoundOwn (row_in (whole_led p x).phase) p.thread d.last × ChangesThere (row_in (whole_led p x).phase) (card a) (cell_place k m) d
    told_on d x answers = ⊎_elim
        (λ (own : IsOwnAccess p.phase).
        let told = own_told k p p.phase c d x own answers in
        let fits = subst (FitsOwn (whole_access p)) (sym told.1) (own_fits (whole_access p) (known k c) (is_load_or_store p own)) in
        let same = ap (λ (z : Standing). z.row) (own_moved p x own u.0.1.1.list.knows fits) in
        let last : d.last ≡ c.last = ap (λ (z : Card). z.last) (told.0 ∙ own_same k c (whole_access p)) in
        let still = subst (ChangesThere (row_in p.phase) (card a) (cell_place k m)) (sym (told.0 ∙ own_same k c (whole_access p))) (still_changed (row_in p.phase) (card a) (cell_place k m) c (own_after k c (whole_access p)).values so) in
        let both = subst (λ (z : Row × ℕ). Tells operation.Unlock z.0 (fields_of z.1) × FoundOwn z.0 p.thread z.1) (λ i. (sym same i, sym last i)) (tells, found) in
        (both.0, both.1, subst (λ (z : Row). ChangesThere z (card a) (cell_place k m) d) (sym same) still))
        (λ (at : IsAtCell p.phase).
        let told = cell_told k p p.phase c d x at answers in
        let z : Standing = standing_of p in
        let answered : x ≡ answer_at (access_of z) told.1 = told.4 ∙ ap (λ (b : Access). answer_at b told.1) (cell_access p at) in
        let goes = going w r u.0 at in
        let stepping = cell_steps p at steps in
        let row_is : row_in (whole_led p x).phase ≡ (led z (answer_at (access_of z) told.1)).row = ap (λ o. row_in o.phase) (cell_led p x at) ∙ row_after p (led z x).row ∙ ap (λ (y : Answer). (led z y).row) answered in
        subst (λ (s : Row). Tells operation.Unlock s (fields_of d.last) × FoundOwn s p.thread d.last × ChangesThere s (card a) (cell_place k m) d) (sym row_is) (
          tells_after operation.Unlock z (cell_place k told.0) c d told.1 goes stepping r.ready u.2.of told.3,
          found_own z (cell_place k told.0) c d told.1 goes stepping r.ready u.2.of told.3,
          changes_on (card a) z (cell_place k m) c d told.1 u.2.called.saw.thread goes stepping r.ready u.2.of (there w a (call.Unlock m) r u told.0 told.1 d told.2 told.3) so,
        ))
        (own_or_at_cell p.phase r.going)

    -- where it returns it is refused
    no_end_linked : (x : Reply) (l : LinkStanding) (s : LinkRow) → linked_at x l s ≡ Ended OK → ⊥
    no_end_linked x l (link.Ended OK) e = absurd (cc e)
    no_end_linked x l (link.Ended y) e = absurd (cc e)
    no_end_linked x l s e = absurd (cc e)

    no_end_unlinked : (v : UnlinkStanding) (s : UnlinkRow) (d : Bool) → unlinked_at v s d ≡ Ended OK → ⊥
    no_end_unlinked v (unlink.Ended OK) d e = absurd (cc e)
    no_end_unlinked v (unlink.Ended y) d e = absurd (cc e)
    no_end_unlinked v s d e = absurd (cc e)

    no_end_announced : (s : Row) → announced p s ≡ Ended OK → ⊥
    no_end_announced (row.Unlock (unlock.Release d)) e = absurd (cc e)
    no_end_announced s e = absurd (cc e)

    no_end_own : (f : Phase) (x : Answer) → IsOwnAccess f → ((v : Wakes) → f ≢ owing_at v) → (phase_led p f x).phase ≡ Ended OK → ⊥
    no_end_own (Announcing s) Stored own other e = no_end_announced s e
    no_end_own (Announcing s) x own other e = absurd (cc e)
    no_end_own (AtCell s) x own other e = absurd own
    no_end_own (Linking l y) x own other e = no_end_linked y (link_moved l x) (link_moved l x).row e
    no_end_own (Unlinking v d) x own other e = no_end_unlinked (unlink_moved v x) (unlink_moved v x).row d e
    no_end_own (Clearing y) Stored own other e = other Nobody (ap Clearing cc)
    no_end_own (Clearing y) x own other e = absurd (cc e)
    no_end_own (Ended y) x own other e = absurd own

    no_end_left : (x : Reply) → leaving p operation.Unlock x ≡ Ended OK → ⊥
    no_end_left OK e = absurd (cc e)
    no_end_left EFAULT e = absurd (cc e)
    no_end_left x e = absurd (cc e)

    no_end_cell : (s : Row) → p.operation ≡ operation.Unlock → after_cell p s ≡ Ended OK → ⊥
    no_end_cell (row.Ended x) is e = no_end_left x (sym (ap (λ (op : Operation). leaving p op x) is) ∙ e)
    no_end_cell (row.Unlock (unlock.Release d)) is e = absurd (cc e)
    no_end_cell s is e = absurd (cc e)

    not_freed : (x : Answer) → (whole_led p x).phase ≢ Ended OK
    not_freed x e = ⊎_elim
        (λ (own : IsOwnAccess p.phase). no_end_own p.phase x own owing_not e)
        (λ (at : IsAtCell p.phase).
        let unlocks : p.operation ≡ operation.Unlock = sym (Rattle.ruledwords.proofs.CellTurns.its_own_operation w r u.0 at) ∙ of_going operation.Unlock (row_in p.phase) (going w r u.0 at) u.2.of in
        no_end_cell (led (standing_of p) x).row unlocks (sym (ap (λ o. o.phase) (cell_led p x at)) ∙ e))
        (own_or_at_cell p.phase r.going)

    pub refused_on : (d : Card) (x : Answer) (y : Reply) → Answers k p p.phase c d x → (whole_led p x).phase ≡ Ended y → y ≡ EPERM
    refused_on d x y answers ended =
        unlock_refused y (fields_of d.last) (subst (λ (f : Phase). Tells operation.Unlock (row_in f) (fields_of d.last)) ended (told_on d x answers).0) (λ ok. not_freed x (ended ∙ ap Ended ok))
