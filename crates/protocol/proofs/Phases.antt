-- What a whole call does beyond its mutex's cell, phase by phase.
use Rattle.std.proofs.Common.{◌≡◌, ◌≢◌, ◌⊎◌, ℕ, ◌+◌, ◌*◌, ◌<◌, ◌≤◌, true, false, Option, Some, None, List, refl, arith}
use Rattle.protocol.proofs.Vocabulary.{Access, Answer, answer_at, sleeps_at, fields_of, Reply, XRACED, Phase, AtCell, Linking, Clearing, Onward, is_wake, left, decided, Joins, word_among, changed}
use Rattle.protocol.proofs.Vocabulary.{Whole, whole_access, after_cell, answer_among, LinkRow, UnlinkRow, unlink_access, answers_for, Steady, link_access}
use Rattle.robustlist.specs.LinkLaws.{link_left}
use Rattle.robustlist.specs.UnlinkLaws.{unlink_left}
use Rattle.mutex.specs.declared.row.Row.{Row}
use Rattle.mutex.specs.declared.phase.Phase.TheVariants.{Announcing, Unlinking, Ended}
use Rattle.mutex.specs.Whole.{phase_led}
use Rattle.protocol.proofs.Steps.{IsNoMove, IsNoTrim, untrimmed}
use Rattle.mutex.specs.Alone.{KeepsWaiters}
pub use Rattle.protocol.specs.Machine.{answers_at}

-- ---- what a phase says of its call

-- the reply of a call's point, once that is made
abbrev pub decided_at : Phase → Option Reply
decided_at (Announcing r) = decided r
decided_at (AtCell r) = decided r
decided_at (Linking l x) = Some x
decided_at (Unlinking u d) = None
decided_at (Clearing x) = Some x
decided_at (Ended x) = Some x

-- this many accesses a call in that phase still makes, at most, where its mutex's cell is the word w and nobody else
-- steps
abbrev pub left_at : Phase → ℕ → ℕ
left_at (Announcing r) w = 14 + 8 * left r w
left_at (AtCell r) w = 8 + 8 * left r w
left_at (Linking l x) w = 2 + link_left l.row
left_at (Unlinking u d) w = 33 + unlink_left u.row
left_at (Clearing x) w = 1
left_at (Ended x) w = 0

-- a call that no other event divided meets the word that it saw last, and is never raced
abbrev pub SteadyAt : ℕ → Phase → ℕ → Type 0
SteadyAt t (Announcing r) w = Steady t r w
SteadyAt t (AtCell r) w = Steady t r w
SteadyAt t (Linking l x) w = x ≢ XRACED
SteadyAt t (Unlinking u d) w = Unit {0}
SteadyAt t (Clearing x) w = x ≢ XRACED
SteadyAt t (Ended x) w = x ≢ XRACED

-- one access of thread t's call p, which leads to o, where its mutex's cell is the word w before, on which those of q sleep, and w' after
pub record Moves (t : ℕ) (p : Whole) (o : Onward) (w : ℕ) (q : List ℕ) (w' : ℕ) : Type 0 where
  -- a call has one point, whose reply it returns
  pub joins : Joins (decided_at p.phase) o.point (decided_at o.phase)
  -- WAITERS stays, or nobody sleeps there and nobody owns the cell
  pub waiters : KeepsWaiters w q w'
  -- it falls asleep only on a cell that is owned and has WAITERS
  pub sleeps : sleeps_at (whole_access p) w ≡ true → (0 < (fields_of w).owner) × ((fields_of w).waiters ≡ true)
  -- else fewer accesses are left
  pub fewer : sleeps_at (whole_access p) w ≡ false → left_at o.phase w' < left_at p.phase w
  -- who leaves a free cell that has WAITERS, and wakes nobody, answers for it; except for those who only looked at it
  pub answers : is_wake (whole_access p) ≡ false → (fields_of w').owner ≡ 0 → (fields_of w').waiters ≡ true → (answers_at o.phase ≡ true) ⊎ ((answers_at p.phase ≡ false) × (w' ≡ w))
  pub steady : sleeps_at (whole_access p) w ≡ false → SteadyAt t p.phase w → SteadyAt t o.phase w'

-- ---- where a call goes that leaves the cell

pub after_decided : (p : Whole) (q : Row) → decided_at (after_cell p q) ≡ decided q
after_decided p q = grind (arith)

pub after_answers : (p : Whole) (q : Row) → answers_for q ≡ true → answers_at (after_cell p q) ≡ true
after_answers p q e = grind (arith)

pub after_left : (p : Whole) (q : Row) (w : ℕ) → left_at (after_cell p q) w ≤ 14 + 8 * left q w
after_left p q w = grind (arith)

pub after_steady : (t : ℕ) (p : Whole) (q : Row) (w : ℕ) → Steady t q w → SteadyAt t (after_cell p q) w
after_steady t p q w s = grind (arith)

pub few_of_unlink : (r : UnlinkRow) → unlink_left r ≤ 4
few_of_unlink r = grind (arith)

-- ---- accesses of a thread's own words

-- a load or a store
abbrev pub IsPlain : Access → Type 0
IsPlain (Access.Load at) = Unit {0}
IsPlain (Access.Store at v) = Unit {0}
IsPlain a = ⊥

pub link_plain : (h e : ℕ) (r : LinkRow) → IsPlain (link_access h e r)
link_plain h e r = grind (arith)

pub unlink_plain : (h e : ℕ) (r : UnlinkRow) → IsPlain (unlink_access h e r)
unlink_plain h e r = grind (arith)

-- it answers alike whoever sleeps, and wakes nobody
pub plain_answer : (a : Access) (w : ℕ) (q : List ℕ) → IsPlain a → answer_among a w q ≡ answer_at a w
plain_answer (Access.Load at) w q plain = refl
plain_answer (Access.Store at v) w q plain = refl
plain_answer a w q plain = absurd plain

pub plain_no_trim : (a : Access) → IsPlain a → IsNoTrim a
plain_no_trim (Access.Load at) plain = tt
plain_no_trim (Access.Store at v) plain = tt
plain_no_trim a plain = absurd plain

pub plain_word : (a : Access) (w : ℕ) (q : List ℕ) → IsPlain a → word_among a w q ≡ changed a w
plain_word a w q plain = untrimmed a w q (plain_no_trim a plain)

pub plain_awake : (a : Access) (w : ℕ) → IsPlain a → (sleeps_at a w ≡ false) × (is_wake a ≡ false)
plain_awake (Access.Load at) w plain = (refl, refl)
plain_awake (Access.Store at v) w plain = (refl, refl)
plain_awake a w plain = absurd plain

pub plain_no_move : (a : Access) → IsPlain a → IsNoMove a
plain_no_move (Access.Load at) plain = tt
plain_no_move (Access.Store at v) plain = tt
plain_no_move a plain = absurd plain

-- a phase at a thread's own words
abbrev pub IsOwn : Phase → Type 0
IsOwn (AtCell r) = ⊥
IsOwn (Ended x) = ⊥
IsOwn f = Unit {0}

-- it makes no point
pub own_pointless : (p : Whole) (f : Phase) (a : Answer) → IsOwn f → (phase_led p f a).point ≡ None
own_pointless p f a own = grind (arith)

pub own_silent : (f : Phase) → IsOwn f → answers_at f ≡ false
own_silent f own = grind (arith)

-- a call goes on decided as it was
pub joins_same : (d : Option Reply) → Joins d None d
joins_same None = refl
joins_same (Some x) = (refl, refl)
