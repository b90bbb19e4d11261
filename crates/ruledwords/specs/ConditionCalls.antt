-- Calls on condition variables that are under way, and what their turns tell.
use Rattle.std.specs.Prelude.{◌≡◌, ℕ, List}
use Rattle.stepprograms.specs.declared.access.Access.{Access}
use Rattle.stepprograms.specs.declared.access.Access.TheVariants.{FetchAdd, CmpRequeue}
use Rattle.stepprograms.specs.declared.access.Answer.{Answer}
use Rattle.stepprograms.specs.declared.access.Answer.TheVariants.{Counts as Moved, Again}
use Rattle.stepprograms.specs.Accesses.{address_of, answer_at}
use Rattle.memorymap.specs.Layouts.{Layout', place_in}
use Rattle.robustlist.specs.Words.{answer_on}
use Rattle.condvar.specs.declared.phase.CondPhase.{CondPhase}
use Rattle.condvar.specs.declared.phase.CondPhase.TheVariants as condition
use Rattle.condvar.specs.Rows.{IsGoing}
use Rattle.condvar.specs.Standings.{CondWhole}
use Rattle.condvar.specs.Whole.{cond_access, cond_led, cond_moved, PhaseKnows}
use Rattle.ruledwords.specs.declared.pass.Card.{Card}
use Rattle.ruledwords.specs.declared.turn.CondRunning.{CondRunning}
use Rattle.ruledwords.specs.declared.turn.CondTurn.{CondTurn}
use Rattle.ruledwords.specs.declared.turn.CondTurn.TheVariants.{Goes, Locks, Lives}
use Rattle.ruledwords.specs.declared.pass.Words.{Words}
use Rattle.ruledwords.specs.declared.pass.Pass.{Pass}
use Rattle.ruledwords.specs.declared.pass.Live.{Live}
use Rattle.ruledwords.specs.Conditions.{access_at, cond_row_in, cond_standing, condition_at, unlock_of}
use Rattle.ruledwords.specs.Conditions.{Acted, CondReady, CondStanding, IsAtCondition, IsOnCondition}
use Rattle.ruledwords.specs.Counts.{mutex_at}
use Rattle.ruledwords.specs.Lists.{known, IsInCall}
use Rattle.ruledwords.specs.Looks.{noted}
use Rattle.ruledwords.specs.OwnWords.{own_after}
use Rattle.ruledwords.specs.Passes.{card, layout_of, IsCardOf, IsPassOf, IsLive}
use Rattle.ruledwords.specs.Rules.{card_of, IsOne}
use Rattle.ruledwords.specs.Turns.{running_call, running_pass, IsAnswerOf, IsOneStep, IsRunningOf}
use Rattle.atomic_table.specs.declared.shared.Seat.{Seat}

abbrev pub cond_pass : CondRunning → Pass Live
cond_pass r = r.pass

-- the call, where it stands
abbrev pub cond_call : CondRunning → CondWhole
cond_call r = r.program

-- the access that comes next
abbrev pub cond_access_in : CondRunning → Access
cond_access_in r = cond_access r.program

-- the place of the word that it reads or changes
abbrev pub cond_place_at : Layout' → CondRunning → ℕ
cond_place_at k r = place_in k (card r.pass).thread (address_of (cond_access_in r))

-- an access that is one step on one word, and no futex section
abbrev pub IsCondStep : Access → Type 0
IsCondStep (FetchAdd at v) = Unit {0}
IsCondStep a = IsOneStep a

-- what a section answers: a requeue, how many it woke and moved, or that the word differed
abbrev pub IsCondAnswerOf : Access → Answer → Type 0
IsCondAnswerOf (CmpRequeue from e n to m) (Moved woken moved) = Unit {0}
IsCondAnswerOf (CmpRequeue from e n to m) Again = Unit {0}
IsCondAnswerOf a x = IsAnswerOf a x

-- it is a call of the card's thread on a condition variable of the layout, its thread's own words are a list of what
-- the thread holds, whole or in change, and what its row needs is so as far as its thread has seen
pub record IsInCondCall (k : Layout') (c : Card) (p : CondWhole) : Type 0 where
  pub on : IsOnCondition k (condition_at k p) (cond_standing p)
  pub knows : PhaseKnows p.phase
  pub list : IsInCall k c (mutex_at k (condition_at k p)) (unlock_of p)
  pub ready : CondReady k (condition_at k p) (cond_row_in p.phase) c

-- it is a call on these words
abbrev pub IsCondRunningOf : Words → CondRunning → Type 0
IsCondRunningOf w r = IsPassOf w (cond_pass r) × IsInCondCall (layout_of w) (card (cond_pass r)) (cond_call r)

-- ---- an access at a seat

-- the seat of thread t, whose call makes the access a: it is at z, on condition variable q
pub record CanAct (w : Words) (s : Seat (Unit {0}) (List Card)) (t : ℕ) (k : Layout') (q : ℕ) (z : CondStanding)
    (a : Access) : Type 0 where
  pub table : s.table_id ≡ w.places.table.shared.table_id
  pub one : IsOne s.me
  pub is : t ≡ (card_of s.me.0).thread
  pub card : IsCardOf (layout_of w) (card_of s.me.0)
  pub layout : k ≡ layout_of w
  pub mine : z.thread ≡ (card_of s.me.0).thread
  pub on : IsOnCondition (layout_of w) q z
  pub going : IsGoing z.row
  pub step : IsCondStep (access_at z)
  pub ready : CondReady (layout_of w) q z.row (card_of s.me.0)
  pub access : a ≡ access_at z

abbrev pub HasActed : Words → Seat (Unit {0}) (List Card) → Seat (Unit {0}) (List Card) → ℕ → CondStanding → ℕ → Type 0
HasActed w s s' q z n =
    (s'.table_id ≡ s.table_id) × IsOne s'.me × Acted (layout_of w) q z z.row (card_of s.me.0) n (card_of s'.me.0)

-- the seat of thread t, whose call is at p
pub record IsSeatedCondCall (w : Words) (s : Seat (Unit {0}) (List Card)) (t : ℕ) (p : CondWhole) : Type 0 where
  pub table : s.table_id ≡ w.places.table.shared.table_id
  pub one : IsOne s.me
  pub is : t ≡ (card_of s.me.0).thread
  pub card : IsCardOf (layout_of w) (card_of s.me.0)
  pub call : IsInCondCall (layout_of w) (card_of s.me.0) p
  pub there : IsAtCondition p.phase

-- what an access found that comes in a phase: a word at the cell or at the counter, or what the thread knew of its own
-- word
abbrev pub CondFound : Layout' → CondWhole → CondPhase → Card → ℕ → Card → Type 0
CondFound k p (condition.AtWords r) c n d = Acted k (condition_at k p) (cond_standing p) r c n d
CondFound k p f c n d =
    (d ≡ own_after k c (cond_access p)) × (answer_at (cond_access p) n ≡ answer_on (cond_access p) (known k c))

abbrev pub FindsCondWord : Words → Seat (Unit {0}) (List Card) → Seat (Unit {0}) (List Card) → CondWhole → ℕ → Type 0
FindsCondWord w s s' p n =
    (s'.table_id ≡ s.table_id) × IsOne s'.me × CondFound (layout_of w) p p.phase (card_of s.me.0) n (card_of s'.me.0)

-- ---- turns

abbrev pub IsCondTurnOf : Words → CondTurn → Type 0
IsCondTurnOf w (Goes r) = IsCondRunningOf w r
IsCondTurnOf w (Locks r) = IsRunningOf w r
IsCondTurnOf w (Lives b x) = IsLive w b

-- the access was made, and the call went on with what it found. No step leads to a wait's lock
abbrev pub CondTurned : Layout' → CondWhole → Pass Live → CondTurn → Type 0
CondTurned k p a (Goes r) = (n : ℕ) × CondFound k p p.phase (card a) n (card (cond_pass r))
    × (cond_call r ≡ cond_moved p (cond_led p (answer_at (cond_access p) n)))
CondTurned k p a (Locks r) = ⊥
CondTurned k p a (Lives b y) = (n : ℕ) × CondFound k p p.phase (card a) n (card b)
    × ((cond_led p (answer_at (cond_access p) n)).phase ≡ condition.Ended y)

-- the call went on with this answer, its pass as it was
abbrev pub CondOnward : CondWhole → Answer → Pass Live → CondTurn → Type 0
CondOnward p x a (Goes r) = (cond_pass r ≡ a) × (cond_call r ≡ cond_moved p (cond_led p x))
CondOnward p x a (Locks r) = (running_pass r ≡ a) × ((cond_led p x).phase ≡ condition.Locking (running_call r))
CondOnward p x a (Lives b y) = (b ≡ a) × ((cond_led p x).phase ≡ condition.Ended y)

-- the call is where it was, and its pass knows what it knew, except for the word that it found last
abbrev pub CondUnmoved : Words → CondRunning → CondRunning → Type 0
CondUnmoved w r r' = IsCondRunningOf w r' × (cond_call r' ≡ cond_call r)
    × (card (cond_pass r')
    ≡ noted (card (cond_pass r)) (card (cond_pass r')).last (card (cond_pass r')).trims (card (cond_pass r)).changes)
