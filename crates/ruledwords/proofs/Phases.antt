-- Where a whole call stands, as its mutex sees it.
use Rattle.std.proofs.Common.{Bool, true, false, ◌≡◌, ℕ, ◌==◌, Option, None, refl, sym, ap, ◌∙◌, subst}
use Rattle.std.specs.Prelude.{if◌then◌else◌}
use Rattle.lockword.specs.declared.reply.Reply.{Reply}
use Rattle.lockword.specs.declared.reply.Reply.TheVariants.{OK, EOWNERDEAD, EFAULT}
use Rattle.stepprograms.specs.declared.access.Access.{Access}
use Rattle.stepprograms.specs.declared.access.Access.TheVariants as access
use Rattle.stepprograms.specs.declared.access.Answer.{Answer}
use Rattle.stepprograms.specs.declared.access.Answer.TheVariants.{Value, Stored}
use Rattle.posixmutex.specs.declared.point.Operation.{Operation}
use Rattle.posixmutex.specs.declared.point.Operation.TheVariants as operation
use Rattle.posixmutex.specs.declared.point.Point.{Point}
use Rattle.stepprograms.specs.declared.program.Progress.{Progress}
use Rattle.stepprograms.specs.declared.program.Progress.TheVariants.{Goes, Returns}
use Rattle.robustlist.specs.declared.link.LinkRow.{LinkRow}
use Rattle.robustlist.specs.declared.link.LinkRow.TheVariants as link
use Rattle.robustlist.specs.declared.unlink.UnlinkRow.{UnlinkRow}
use Rattle.robustlist.specs.declared.unlink.UnlinkRow.TheVariants as unlink
use Rattle.robustlist.specs.Standings.{LinkStanding, UnlinkStanding}
use Rattle.robustlist.specs.Link.{link_access, link_resume, LinkGoes}
use Rattle.robustlist.specs.Unlink.{unlink_access, unlink_resume, UnlinkGoes}
use Rattle.robustlist.specs.Words.{answer_on, IsAnswerOf as FitsOwn}
use Rattle.mutex.specs.declared.phase.Phase.{Phase}
use Rattle.mutex.specs.declared.phase.Phase.TheVariants.{Announcing, AtCell, Linking, Unlinking, Clearing, Ended}
use Rattle.mutex.specs.declared.row.Row.{Row}
use Rattle.mutex.specs.declared.row.Row.TheVariants as row
use Rattle.mutex.specs.declared.lock.LockRow.TheVariants as lock
use Rattle.mutex.specs.declared.try_lock.TryLockRow.TheVariants as try
use Rattle.mutex.specs.declared.unlock.UnlockRow.TheVariants as unlock
use Rattle.mutex.specs.declared.consistent.ConsistentRow.TheVariants as consistent
use Rattle.mutex.specs.Programs.{access_of, row_access, row_operation, led, moved}
use Rattle.mutex.specs.Rows.{IsGoing, Knows}
use Rattle.mutex.specs.Standings.{Whole}
use Rattle.mutex.specs.Steps.{IsStep}
use Rattle.mutex.specs.Whole.{phase_access, phase_led, whole_access, whole_led, whole_moved, progress_in, announced, leaving, after_cell, from_cell, linked_at, unlinked_at, IsUnderWay, PhaseKnows}
use Rattle.mutex.specs.WholeLists.{IsOwnAccess, StandsAt}
use Rattle.ruledwords.specs.Calls.{row_in, standing_of}
use Rattle.ruledwords.specs.Turns.{IsAnswerOf, IsAtCell, IsLoadOrStore, IsOneStep}

-- ---- at the cell

pub at_row : (f : Phase) → IsAtCell f → f ≡ AtCell (row_in f)
at_row (Announcing r) at = absurd at
at_row (AtCell r) at = refl
at_row (Linking l x) at = absurd at
at_row (Unlinking u d) at = absurd at
at_row (Clearing x) at = absurd at
at_row (Ended x) at = absurd at

pub cell_phase : (p : Whole) → IsAtCell p.phase → p.phase ≡ AtCell (row_in p.phase)
cell_phase p at = at_row p.phase at

pub cell_access : (p : Whole) → IsAtCell p.phase → whole_access p ≡ access_of (standing_of p)
cell_access p at = ap (phase_access p) (cell_phase p at)

pub cell_led : (p : Whole) (a : Answer) → IsAtCell p.phase → whole_led p a ≡ from_cell p (led (standing_of p) a)
cell_led p a at = ap (λ (f : Phase). phase_led p f a) (cell_phase p at)

-- what it knows there, and that the row is one of its operation
pub cell_knows : (f : Phase) → IsAtCell f → PhaseKnows f → IsGoing (row_in f) × Knows (row_in f)
cell_knows (Announcing r) at knows = absurd at
cell_knows (AtCell r) at knows = knows
cell_knows (Linking l x) at knows = absurd at
cell_knows (Unlinking u d) at knows = absurd at
cell_knows (Clearing x) at knows = absurd at
cell_knows (Ended x) at knows = absurd at

pub cell_stands : (h e : ℕ) (op : Operation) (own : Bool) (f : Phase) → IsAtCell f → StandsAt h e op own f → row_operation (row_in f) ≡ op
cell_stands h e op own (Announcing r) at s = absurd at
cell_stands h e op own (AtCell r) at s = s.1
cell_stands h e op own (Linking l x) at s = absurd at
cell_stands h e op own (Unlinking u d) at s = absurd at
cell_stands h e op own (Clearing x) at s = absurd at
cell_stands h e op own (Ended x) at s = absurd at

-- its steps there are no stores
row_steps : (t cell : ℕ) (r : Row) → IsOneStep (row_access t cell r) → IsStep (row_access t cell r)
row_steps t cell (row.Lock lock.Load) one = tt
row_steps t cell (row.Lock (lock.Take v)) one = tt
row_steps t cell (row.Lock (lock.SetWaiters v)) one = tt
row_steps t cell (row.Lock (lock.Sleep v)) one = absurd one
row_steps t cell (row.Lock lock.WakeAll) one = absurd one
row_steps t cell (row.TryLock try.Load) one = tt
row_steps t cell (row.TryLock (try.Take v n)) one = tt
row_steps t cell (row.Unlock unlock.Load) one = tt
row_steps t cell (row.Unlock (unlock.Release d)) one = tt
row_steps t cell (row.Unlock (unlock.Wake a)) one = absurd one
row_steps t cell (row.Unlock unlock.Trim) one = absurd one
row_steps t cell (row.Consistent consistent.Load) one = tt
row_steps t cell (row.Consistent consistent.Declare) one = tt
row_steps t cell (row.Ended x) one = tt

pub cell_steps : (p : Whole) → IsAtCell p.phase → IsOneStep (whole_access p) → IsStep (access_of (standing_of p))
cell_steps p at one = row_steps p.thread p.cell (row_in p.phase) (subst IsOneStep (cell_access p at) one)

row_left : (p : Whole) (op : Operation) (x : Reply) → row_in (leaving p op x) ≡ row.Ended x
row_left p op EFAULT = refl
row_left p operation.Lock OK = refl
row_left p operation.Lock EOWNERDEAD = refl
row_left p operation.Lock x = refl
row_left p operation.TryLock OK = refl
row_left p operation.TryLock EOWNERDEAD = refl
row_left p operation.TryLock x = refl
row_left p operation.Unlock OK = refl
row_left p op x = refl

pub row_after : (p : Whole) (r : Row) → row_in (after_cell p r) ≡ r
row_after p (row.Ended x) = row_left p p.operation x
row_after p (row.Unlock (unlock.Release d)) = refl
row_after p r = refl

-- from the cell a call goes on as its mutex sees it go
pub cell_moved : (p : Whole) (a : Answer) → IsAtCell p.phase → standing_of (whole_moved p (whole_led p a)) ≡ moved (standing_of p) (led (standing_of p) a)
cell_moved p a at = ap (λ o. standing_of (whole_moved p o)) (cell_led p a at) ∙ ap (λ (r : Row). record { thread = p.thread; cell = p.cell; row = r }) (row_after p (led (standing_of p) a).row)

-- ---- at its own words

own_kind : (p : Whole) (f : Phase) → IsOwnAccess f → IsLoadOrStore (phase_access p f)
own_kind p (Announcing r) own = tt
own_kind p (AtCell r) own = absurd own
own_kind p (Linking l x) own = link_kind l.head l.entry l.row
  where
    link_kind : (h e : ℕ) (r : LinkRow) → IsLoadOrStore (link_access h e r)
    link_kind h e link.LoadFirst = tt
    link_kind h e (link.StoreNext n) = tt
    link_kind h e (link.StorePrevious n) = tt
    link_kind h e (link.StoreBehind n) = tt
    link_kind h e link.StoreFirst = tt
    link_kind h e (link.Ended x) = tt
own_kind p (Unlinking u d) own = unlink_kind u.head u.entry u.row
  where
    unlink_kind : (h e : ℕ) (r : UnlinkRow) → IsLoadOrStore (unlink_access h e r)
    unlink_kind h e unlink.LoadNext = tt
    unlink_kind h e (unlink.LoadPrevious n) = tt
    unlink_kind h e (unlink.StoreNext n m) = tt
    unlink_kind h e (unlink.StorePrevious n m) = tt
    unlink_kind h e (unlink.Ended x) = tt
own_kind p (Clearing x) own = tt
own_kind p (Ended x) own = absurd own

-- each is a load or a store
pub is_load_or_store : (p : Whole) → IsOwnAccess p.phase → IsLoadOrStore (whole_access p)
is_load_or_store p own = own_kind p p.phase own

-- what it is answered fits
pub own_fits : (a : Access) (w : ℕ → ℕ) → IsLoadOrStore a → FitsOwn a (answer_on a w)
own_fits (access.Load at) w kind = tt
own_fits (access.Store at v) w kind = tt
own_fits a w kind = absurd kind

link_row : (x : Reply) (l : LinkStanding) (h e : ℕ) (r : LinkRow) (a : Answer) → LinkGoes r → FitsOwn (link_access h e r) a → row_in (linked_at x l (link_resume h r a)) ≡ row.Ended x
link_row x l h e link.LoadFirst (Value n) goes fits = refl
link_row x l h e link.LoadFirst a goes fits = absurd fits
link_row x l h e (link.StoreNext n) Stored goes fits = refl
link_row x l h e (link.StoreNext n) a goes fits = absurd fits
link_row x l h e (link.StorePrevious n) Stored goes fits = both (n == h)
  where
    both : (b : Bool) → row_in (linked_at x l (if b then link.StoreFirst else link.StoreBehind n)) ≡ row.Ended x
    both true = refl
    both false = refl
link_row x l h e (link.StorePrevious n) a goes fits = absurd fits
link_row x l h e (link.StoreBehind n) Stored goes fits = refl
link_row x l h e (link.StoreBehind n) a goes fits = absurd fits
link_row x l h e link.StoreFirst Stored goes fits = refl
link_row x l h e link.StoreFirst a goes fits = absurd fits
link_row x l h e (link.Ended y) a goes fits = absurd goes

unlink_row : (d : Bool) (u : UnlinkStanding) (h e : ℕ) (r : UnlinkRow) (a : Answer) → UnlinkGoes r → FitsOwn (unlink_access h e r) a → row_in (unlinked_at u (unlink_resume h r a) d) ≡ row.Unlock (unlock.Release d)
unlink_row d u h e unlink.LoadNext (Value n) goes fits = refl
unlink_row d u h e unlink.LoadNext a goes fits = absurd fits
unlink_row d u h e (unlink.LoadPrevious n) (Value m) goes fits = refl
unlink_row d u h e (unlink.LoadPrevious n) a goes fits = absurd fits
unlink_row d u h e (unlink.StoreNext n m) Stored goes fits = last (n == h)
  where
    last : (b : Bool) → row_in (unlinked_at u (if b then unlink.Ended OK else unlink.StorePrevious n m) d) ≡ row.Unlock (unlock.Release d)
    last true = refl
    last false = refl
unlink_row d u h e (unlink.StoreNext n m) a goes fits = absurd fits
unlink_row d u h e (unlink.StorePrevious n m) Stored goes fits = refl
unlink_row d u h e (unlink.StorePrevious n m) a goes fits = absurd fits
unlink_row d u h e (unlink.Ended y) a goes fits = absurd goes

announced_row : (p : Whole) (r : Row) → row_in (announced p r) ≡ r
announced_row p (row.Unlock (unlock.Release d)) = refl
announced_row p r = refl

stored_row : (p : Whole) (f : Phase) (a : Access) (x : Answer) (v : ℕ) (at : ℕ) → a ≡ access.Store at v → FitsOwn a x → x ≡ Stored
stored_row p f (access.Store at v) Stored w z e fits = refl
stored_row p f (access.Store at v) x w z e fits = absurd fits
stored_row p f a x w z e fits = absurd (cc e)

own_row : (p : Whole) (f : Phase) (x : Answer) → IsOwnAccess f → PhaseKnows f → FitsOwn (phase_access p f) x → (row_in (phase_led p f x).phase ≡ row_in f) × ((phase_led p f x).point ≡ None)
own_row p (Announcing r) Stored own knows fits = (announced_row p r, refl)
own_row p (Announcing r) x own knows fits = absurd fits
own_row p (AtCell r) x own knows fits = absurd own
own_row p (Linking l y) x own knows fits = (link_row y (record l { row = link_resume l.head l.row x }) l.head l.entry l.row x knows fits, refl)
own_row p (Unlinking u d) x own knows fits = (unlink_row d (record u { row = unlink_resume u.head u.row x }) u.head u.entry u.row x knows fits, refl)
own_row p (Clearing y) Stored own knows fits = (refl, refl)
own_row p (Clearing y) x own knows fits = absurd fits
own_row p (Ended y) x own knows fits = absurd own

-- as its mutex sees it, the call stands where it stood
pub own_moved : (p : Whole) (x : Answer) → IsOwnAccess p.phase → PhaseKnows p.phase → FitsOwn (whole_access p) x → standing_of (whole_moved p (whole_led p x)) ≡ standing_of p
own_moved p x own knows fits = ap (λ (r : Row). record { thread = p.thread; cell = p.cell; row = r }) (own_row p p.phase x own knows fits).0

-- ---- which it is

pub own_or_cell : (f : Phase) → IsUnderWay f → (IsAtCell f → ⊥) → IsOwnAccess f
own_or_cell (Announcing r) going other = tt
own_or_cell (AtCell r) going other = absurd (other tt)
own_or_cell (Linking l x) going other = tt
own_or_cell (Unlinking u d) going other = tt
own_or_cell (Clearing x) going other = tt
own_or_cell (Ended x) going other = absurd going

pub one_own : (a : Access) → IsLoadOrStore a → IsOneStep a
one_own (access.Load at) kind = tt
one_own (access.Store at v) kind = tt
one_own a kind = absurd kind

-- a section is at the cell
pub section_at_cell : (p : Whole) → IsUnderWay p.phase → (IsOneStep (whole_access p) → ⊥) → IsAtCell p.phase
section_at_cell p going section = go p.phase going section
  where
    go : (f : Phase) → IsUnderWay f → (IsOneStep (phase_access p f) → ⊥) → IsAtCell f
    go (Announcing r) going section = absurd (section tt)
    go (AtCell r) going section = tt
    go (Linking l x) going section = absurd (section (one_own _ (own_kind p (Linking l x) tt)))
    go (Unlinking u d) going section = absurd (section (one_own _ (own_kind p (Unlinking u d) tt)))
    go (Clearing x) going section = absurd (section tt)
    go (Ended x) going section = absurd going

-- what has a section's answer is one
answer_section : (a : Access) (x : Answer) → IsAnswerOf a x → IsOneStep a → ⊥
answer_section (access.Wait at e) x fits one = one
answer_section (access.Wake at n) x fits one = one
answer_section (access.Trim at) x fits one = one
answer_section a x fits one = fits

pub answered_at_cell : (p : Whole) (x : Answer) → IsUnderWay p.phase → IsAnswerOf (whole_access p) x → IsAtCell p.phase
answered_at_cell p x going fits = section_at_cell p going (answer_section (whole_access p) x fits)

-- ---- how far it is

pub goes_under_way : (point : Option Point) (f : Phase) (result : Progress) (told : Option Point) → result ≡ Goes told → result ≡ progress_in point f → IsUnderWay f × (told ≡ point)
goes_under_way point (Ended x) result told is progress = let bad : Goes told ≡ Returns x point = sym is ∙ progress in absurd (cc bad)
goes_under_way point (Announcing r) result told is progress = let e : Goes told ≡ Goes point = sym is ∙ progress in (tt, cc e)
goes_under_way point (AtCell r) result told is progress = let e : Goes told ≡ Goes point = sym is ∙ progress in (tt, cc e)
goes_under_way point (Linking l x) result told is progress = let e : Goes told ≡ Goes point = sym is ∙ progress in (tt, cc e)
goes_under_way point (Unlinking u d) result told is progress = let e : Goes told ≡ Goes point = sym is ∙ progress in (tt, cc e)
goes_under_way point (Clearing x) result told is progress = let e : Goes told ≡ Goes point = sym is ∙ progress in (tt, cc e)

pub returns_ended : (point : Option Point) (f : Phase) (result : Progress) (reply : Reply) (told : Option Point) → result ≡ Returns reply told → result ≡ progress_in point f → (f ≡ Ended reply) × (told ≡ point)
returns_ended point (Ended x) result reply told is progress = let e : Returns reply told ≡ Returns x point = sym is ∙ progress in (ap Ended (cc e), cc e)
returns_ended point (Announcing r) result reply told is progress = let bad : Returns reply told ≡ Goes point = sym is ∙ progress in absurd (cc bad)
returns_ended point (AtCell r) result reply told is progress = let bad : Returns reply told ≡ Goes point = sym is ∙ progress in absurd (cc bad)
returns_ended point (Linking l x) result reply told is progress = let bad : Returns reply told ≡ Goes point = sym is ∙ progress in absurd (cc bad)
returns_ended point (Unlinking u d) result reply told is progress = let bad : Returns reply told ≡ Goes point = sym is ∙ progress in absurd (cc bad)
returns_ended point (Clearing x) result reply told is progress = let bad : Returns reply told ≡ Goes point = sym is ∙ progress in absurd (cc bad)
