-- How many accesses of a call are left, of one that is no lock.
use Rattle.std.proofs.Common.{Bool, true, false, ◌≡◌, ◌≢◌, ◌⊎◌, inl, inr, ⊎_elim, ℕ, ◌+◌, ◌*◌, ◌<◌, ◌==◌, sym, ap, ◌∙◌, subst, arith}
use Rattle.std.specs.Prelude.{if◌then◌else◌}
use Rattle.lockword.specs.declared.reply.Reply.{Reply}
use Rattle.lockword.specs.declared.reply.Reply.TheVariants.{OK, EOWNERDEAD, EFAULT}
use Rattle.stepprograms.specs.declared.access.Access.{Access}
use Rattle.stepprograms.specs.declared.access.Answer.{Answer}
use Rattle.stepprograms.specs.declared.access.Answer.TheVariants.{Value, Stored}
use Rattle.posixmutex.specs.declared.point.Operation.{Operation}
use Rattle.posixmutex.specs.declared.point.Operation.TheVariants as operation
use Rattle.stepprograms.specs.Accesses.{answer_at}
use Rattle.memorymap.specs.Layouts.{Layout', cell_place}
use Rattle.robustlist.specs.declared.link.LinkRow.{LinkRow}
use Rattle.robustlist.specs.declared.link.LinkRow.TheVariants as link
use Rattle.robustlist.specs.declared.unlink.UnlinkRow.{UnlinkRow}
use Rattle.robustlist.specs.declared.unlink.UnlinkRow.TheVariants as unlink
use Rattle.robustlist.specs.Standings.{LinkStanding, UnlinkStanding}
use Rattle.robustlist.specs.Link.{link_access, link_resume, LinkGoes}
use Rattle.robustlist.specs.LinkLaws.{link_left}
use Rattle.robustlist.specs.Unlink.{unlink_access, unlink_resume, UnlinkGoes}
use Rattle.robustlist.specs.UnlinkLaws.{unlink_left}
use Rattle.robustlist.specs.Words.{answer_on, IsAnswerOf as FitsOwn}
use Rattle.mutex.specs.declared.phase.Phase.{Phase}
use Rattle.mutex.specs.declared.phase.Phase.TheVariants.{Announcing, AtCell, Linking, Unlinking, Clearing, Ended}
use Rattle.mutex.specs.declared.row.Row.{Row}
use Rattle.mutex.specs.declared.row.Row.TheVariants as row
use Rattle.mutex.specs.declared.unlock.UnlockRow.TheVariants as unlock
use Rattle.mutex.specs.Laws.{IsOf}
use Rattle.mutex.specs.Programs.{access_of, led}
use Rattle.mutex.specs.Standings.{Standing, Whole}
use Rattle.mutex.specs.Steps.{rank}
use Rattle.mutex.specs.Whole.{phase_access, phase_led, whole_access, whole_led, whole_moved, leaving, after_cell, linked_at, unlinked_at, IsUnderWay, PhaseKnows}
use Rattle.mutex.specs.WholeLists.{IsOwnAccess}
use Rattle.ruledwords.specs.declared.pass.Card.{Card}
use Rattle.ruledwords.specs.declared.pass.Words.{Words}
use Rattle.ruledwords.specs.declared.turn.Running.{Running}
use Rattle.ruledwords.specs.declared.turn.Turn.TheVariants.{Goes}
use Rattle.ruledwords.specs.Calls.{row_in, standing_of, IsOnMutex, Made}
use Rattle.ruledwords.specs.Lists.{known}
use Rattle.ruledwords.specs.OwnWords.{own_after}
use Rattle.ruledwords.specs.Passes.{card, layout_of}
use Rattle.ruledwords.specs.Turns.{access_in, running_call, running_pass, Answers, IsAtCell, IsOneStep, IsRunningOf, Turned}
use Rattle.ruledwords.proofs.CellTurns.{going}
use Rattle.ruledwords.proofs.Phases.{cell_access, cell_led, cell_phase, cell_steps, own_fits, is_load_or_store}
use Rattle.ruledwords.proofs.Standing.{less_left}

abbrev pub rank_in : Phase → ℕ
rank_in (Announcing r) = 30 * rank r + 29
rank_in (AtCell r) = 30 * rank r + 20
rank_in (Linking l x) = 2 + link_left l.row
rank_in (Unlinking u d) = 51 + unlink_left u.row
rank_in (Clearing x) = 1
rank_in (Ended x) = 0

-- ---- at its own words

link_falls : (x : Reply) (l : LinkStanding) (h e : ℕ) (r : LinkRow) (a : Answer) → LinkGoes r → FitsOwn (link_access h e r) a → rank_in (linked_at x (record l { row = link_resume h r a }) (link_resume h r a)) < 2 + link_left r
link_falls x l h e link.LoadFirst (Value n) goes fits = omega arith
link_falls x l h e link.LoadFirst a goes fits = absurd fits
link_falls x l h e (link.StoreNext n) Stored goes fits = omega arith
link_falls x l h e (link.StoreNext n) a goes fits = absurd fits
link_falls x l h e (link.StorePrevious n) Stored goes fits = both (n == h)
  where
    both : (b : Bool) → rank_in (linked_at x (record l { row = if b then link.StoreFirst else link.StoreBehind n }) (if b then link.StoreFirst else link.StoreBehind n)) < 5
    both true = omega arith
    both false = omega arith
link_falls x l h e (link.StorePrevious n) a goes fits = absurd fits
link_falls x l h e (link.StoreBehind n) Stored goes fits = omega arith
link_falls x l h e (link.StoreBehind n) a goes fits = absurd fits
link_falls x l h e link.StoreFirst Stored goes fits = omega arith
link_falls x l h e link.StoreFirst a goes fits = absurd fits
link_falls x l h e (link.Ended y) a goes fits = absurd goes

unlink_falls : (d : Bool) (u : UnlinkStanding) (h e : ℕ) (r : UnlinkRow) (a : Answer) → UnlinkGoes r → FitsOwn (unlink_access h e r) a → rank_in (unlinked_at (record u { row = unlink_resume h r a }) (unlink_resume h r a) d) < 51 + unlink_left r
unlink_falls d u h e unlink.LoadNext (Value n) goes fits = omega arith
unlink_falls d u h e unlink.LoadNext a goes fits = absurd fits
unlink_falls d u h e (unlink.LoadPrevious n) (Value m) goes fits = omega arith
unlink_falls d u h e (unlink.LoadPrevious n) a goes fits = absurd fits
unlink_falls d u h e (unlink.StoreNext n m) Stored goes fits = last (n == h)
  where
    last : (b : Bool) → rank_in (unlinked_at (record u { row = if b then unlink.Ended OK else unlink.StorePrevious n m }) (if b then unlink.Ended OK else unlink.StorePrevious n m) d) < 53
    last true = omega arith
    last false = omega arith
unlink_falls d u h e (unlink.StoreNext n m) a goes fits = absurd fits
unlink_falls d u h e (unlink.StorePrevious n m) Stored goes fits = omega arith
unlink_falls d u h e (unlink.StorePrevious n m) a goes fits = absurd fits
unlink_falls d u h e (unlink.Ended y) a goes fits = absurd goes

announced_falls : (p : Whole) (r : Row) → rank_in (Rattle.mutex.specs.Whole.announced p r) < 30 * rank r + 29
announced_falls p (row.Unlock (unlock.Release d)) = omega arith
announced_falls p r = omega arith

own_falls : (p : Whole) (f : Phase) (x : Answer) → IsOwnAccess f → PhaseKnows f → FitsOwn (phase_access p f) x → rank_in (phase_led p f x).phase < rank_in f
own_falls p (Announcing r) Stored own knows fits = announced_falls p r
own_falls p (Announcing r) x own knows fits = absurd fits
own_falls p (AtCell r) x own knows fits = absurd own
own_falls p (Linking l y) x own knows fits = link_falls y l l.head l.entry l.row x knows fits
own_falls p (Unlinking u d) x own knows fits = unlink_falls d u u.head u.entry u.row x knows fits
own_falls p (Clearing y) Stored own knows fits = omega arith
own_falls p (Clearing y) x own knows fits = absurd fits
own_falls p (Ended y) x own knows fits = absurd own

-- ---- at the cell

left_falls : (p : Whole) (op : Operation) (x : Reply) → rank_in (leaving p op x) < 20
left_falls p op EFAULT = omega arith
left_falls p operation.Lock OK = omega arith
left_falls p operation.Lock EOWNERDEAD = omega arith
left_falls p operation.Lock x = omega arith
left_falls p operation.TryLock OK = omega arith
left_falls p operation.TryLock EOWNERDEAD = omega arith
left_falls p operation.TryLock x = omega arith
left_falls p operation.Unlock OK = omega arith
left_falls p op x = omega arith

cell_falls : (p : Whole) (r : Row) (n : ℕ) → rank r < n → rank_in (after_cell p r) < 30 * n + 20
cell_falls p (row.Ended x) n less = let left = left_falls p p.operation x in omega (arith, left)
cell_falls p (row.Unlock (unlock.Release d)) n less = omega (arith, less)
cell_falls p r n less = omega (arith, less)

-- ---- turns

pub own_or_at_cell : (f : Phase) → IsUnderWay f → IsOwnAccess f ⊎ IsAtCell f
own_or_at_cell (Announcing r) under = inl tt
own_or_at_cell (AtCell r) under = inr tt
own_or_at_cell (Linking l x) under = inl tt
own_or_at_cell (Unlinking u d) under = inl tt
own_or_at_cell (Clearing x) under = inl tt
own_or_at_cell (Ended x) under = absurd under

pub own_told : (k : Layout') (p : Whole) (f : Phase) (c d : Card) (x : Answer) → IsOwnAccess f → Answers k p f c d x → (d ≡ own_after k c (whole_access p)) × (x ≡ answer_on (whole_access p) (known k c))
own_told k p (Announcing r) c d x own told = told
own_told k p (AtCell r) c d x own told = absurd own
own_told k p (Linking l y) c d x own told = told
own_told k p (Unlinking u e) c d x own told = told
own_told k p (Clearing y) c d x own told = told
own_told k p (Ended y) c d x own told = absurd own

pub cell_told : (k : Layout') (p : Whole) (f : Phase) (c d : Card) (x : Answer) → IsAtCell f → Answers k p f c d x → (m : ℕ) × (n : ℕ) × IsOnMutex k (standing_of p) m × Made (standing_of p) (cell_place k m) c n d × (x ≡ answer_at (whole_access p) n)
cell_told k p (Announcing r) c d x at told = absurd at
cell_told k p (AtCell r) c d x at told = told
cell_told k p (Linking l y) c d x at told = absurd at
cell_told k p (Unlinking u e) c d x at told = absurd at
cell_told k p (Clearing y) c d x at told = absurd at
cell_told k p (Ended y) c d x at told = absurd at

pub turn_falls : (w : Words) (r r' : Running) (op : Operation) → IsRunningOf w r → op ≢ operation.Lock → IsOf op (row_in (running_call r).phase) → IsOneStep (access_in r) → Turned (layout_of w) (running_call r) (running_pass r) (Goes r')
    → rank_in (running_call r').phase < rank_in (running_call r).phase
turn_falls w r r' op of other is one turned = ⊎_elim
    (λ (own : IsOwnAccess p.phase).
    let told = own_told k p p.phase c (card r'.pass) turned.0 own turned.1 in
    subst (λ (q : Whole). rank_in q.phase < rank_in p.phase) (sym turned.2)
    (own_falls p p.phase turned.0 own of.1.1.list.knows (subst (FitsOwn (whole_access p)) (sym told.1) (own_fits (whole_access p) (known k c) (is_load_or_store p own)))))
    (λ (at : IsAtCell p.phase).
    let told = cell_told k p p.phase c (card r'.pass) turned.0 at turned.1 in
    let z : Standing = standing_of p in
    let answered : turned.0 ≡ answer_at (access_of z) told.1 = told.4 ∙ ap (λ (a : Access). answer_at a told.1) (cell_access p at) in
    let less : rank (led z turned.0).row < rank z.row = subst (λ (x : Answer). rank (led z x).row < rank z.row) (sym answered)
    (less_left op z (cell_place k told.0) c (card r'.pass) told.1 other (going w r of at) (cell_steps p at one) r.ready is told.3) in
    subst (λ (f : Phase × Phase). rank_in f.0 < rank_in f.1) (λ i. (sym (ap (λ (q : Whole). q.phase) turned.2 ∙ ap (λ o. o.phase) (cell_led p turned.0 at)) i, sym (cell_phase p at) i))
    (cell_falls p (led z turned.0).row (rank z.row) less))
    (own_or_at_cell p.phase r.going)
  where
    k : Layout'
    k = layout_of w

    p : Whole
    p = r.program

    c : Card
    c = card r.pass
