-- Running calls, and what their turns tell.
--
-- *Turns of a call.* A whole call that its caller runs access by access: where it stands, on the mutex whose cell its
-- thread has at its address, what its pass has seen since it began, that its thread's own words are a list whole or in
-- change, and that a turn goes on with the call or ends it, at its one point's reply; or its thread dies in it. A call
-- that is decided ends with that reply, and sees nothing new. A wait or a wake is the caller's to make, and its
-- answer is one that such an access can have.
use Rattle.std.specs.Prelude.{List, ◌≡◌, ℕ, ◌+◌, ◌≤◌, Option, Some, None, Result, Ok, Err, [], ◌∷◌}
use Rattle.lockword.specs.declared.reply.Reply.{Reply}
use Rattle.lockword.specs.declared.reply.Reply.TheVariants.{XRACED}
use Rattle.posixmutex.specs.declared.point.Operation.{Operation}
use Rattle.posixmutex.specs.declared.point.Operation.TheVariants.{TryLock}
use Rattle.stepprograms.specs.declared.access.Access.{Access}
use Rattle.stepprograms.specs.declared.access.Access.TheVariants.{Load, Store, Wait, Wake, Trim}
use Rattle.stepprograms.specs.declared.access.Answer.{Answer}
use Rattle.stepprograms.specs.declared.access.Answer.TheVariants.{Again, Woken, Count, Trimmed}
use Rattle.stepprograms.specs.Accesses.{address_of, answer_at}
use Rattle.memorymap.specs.Layouts.{Layout', cell_place, place_in}
use Rattle.robustlist.specs.Words.{answer_on}
use Rattle.mutex.specs.declared.call.Call.{Call}
use Rattle.mutex.specs.declared.call.Call.TheVariants as call
use Rattle.mutex.specs.declared.phase.Phase.{Phase}
use Rattle.mutex.specs.declared.phase.Phase.TheVariants as phase
use Rattle.mutex.specs.Calls.{acts_as, mutex_of}
use Rattle.mutex.specs.Laws.{decided}
use Rattle.mutex.specs.Programs.{first_row}
use Rattle.mutex.specs.Standings.{Standing, Whole}
use Rattle.mutex.specs.Steps.{IsStep}
use Rattle.mutex.specs.Whole.{whole_started, whole_access, whole_led, whole_moved, IsUnderWay as IsInProgress}
use Rattle.ruledwords.specs.declared.pass.Card.{Card}
use Rattle.ruledwords.specs.declared.pass.Words.{Words}
use Rattle.ruledwords.specs.declared.pass.Pass.{Pass}
use Rattle.ruledwords.specs.declared.pass.Live.{Live}
use Rattle.ruledwords.specs.declared.pass.Dead.{Dead}
use Rattle.ruledwords.specs.declared.turn.Running.{Running}
use Rattle.ruledwords.specs.declared.step.End.{End}
use Rattle.ruledwords.specs.declared.step.End.TheVariants as end
use Rattle.ruledwords.specs.declared.turn.Turn.{Turn}
use Rattle.ruledwords.specs.declared.turn.Turn.TheVariants.{Goes, Lives}
use Rattle.ruledwords.specs.Seen.{held, Called, Died}
use Rattle.atomic_table.specs.declared.shared.Seat.{Seat}
use Rattle.ruledwords.specs.Rules.{card_of, IsOne}
use Rattle.ruledwords.specs.Passes.{card, layout_of, IsCardOf, IsPassOf, IsLive, IsDying}
use Rattle.ruledwords.specs.Calls.{IsOnMutex, Made, OwnKept, Ready, Stands, most, row_in, standing_of}
use Rattle.ruledwords.specs.Lists.{known, IsInCall}
use Rattle.ruledwords.specs.Changes.{KnowsMoreAt, OthersChanged}
use Rattle.ruledwords.specs.Looks.{KnowsTheSame}
use Rattle.ruledwords.specs.OwnWords.{own_after}

abbrev pub running_pass : Running → Pass Live
running_pass r = r.pass

-- the call, where it stands
abbrev pub running_call : Running → Whole
running_call r = r.program

-- as its mutex sees it
abbrev pub running_program : Running → Standing
running_program r = standing_of r.program

-- the access that comes next
abbrev pub access_in : Running → Access
access_in r = whole_access r.program

-- the place of the word that it reads or changes
abbrev pub place_at : Layout' → Running → ℕ
place_at k r = place_in k (card r.pass).thread (address_of (access_in r))

-- an access that is one step on one word, and no futex section
abbrev pub IsOneStep : Access → Type 0
IsOneStep (Store at v) = Unit {0}
IsOneStep a = IsStep a

-- an access of one of a thread's own words
abbrev pub IsLoadOrStore : Access → Type 0
IsLoadOrStore (Load at) = Unit {0}
IsLoadOrStore (Store at v) = Unit {0}
IsLoadOrStore a = ⊥

-- it is at its mutex's cell
abbrev pub IsAtCell : Phase → Type 0
IsAtCell (phase.AtCell r) = Unit {0}
IsAtCell f = ⊥

-- it is a call on these words: its pass is theirs, its mutex one of their layout, and its thread's own words are a list
-- of what the thread holds, whole or in change
abbrev pub IsRunningOf : Words → Running → Type 0
IsRunningOf w r =
    IsPassOf w (running_pass r) × ((m : ℕ) × IsInCall (layout_of w) (card (running_pass r)) m (running_call r))

-- a call that is at p goes on with the pass a, as a running call on these words does
pub record IsCallOf (w : Words) (a : Pass Live) (p : Whole) : Type 0 where
  pub ready : Ready (standing_of p) (card a)
  pub room : a.held ≤ most (row_in p.phase)
  pub going : IsInProgress p.phase
  pub words : IsPassOf w a × ((m : ℕ) × IsInCall (layout_of w) (card a) m p)

-- the seat of a thread whose call is at p
pub record IsSeatedCall (w : Words) (s : Seat (Unit {0}) (List Card)) (p : Whole) : Type 0 where
  pub table : s.table_id ≡ w.places.table.shared.table_id
  pub one : IsOne s.me
  pub ready : Ready (standing_of p) (card_of s.me.0)
  pub going : IsInProgress p.phase
  pub card : IsCardOf (layout_of w) (card_of s.me.0)
  pub call : (m : ℕ) × IsInCall (layout_of w) (card_of s.me.0) m p

-- what an access found that comes in a phase: a word of its mutex's cell, or what the thread knew of its own word
abbrev pub Found : Layout' → Whole → Phase → Card → ℕ → Card → Type 0
Found k p (phase.AtCell r) c n d =
    OwnKept k c d × ((m : ℕ) × IsOnMutex k (standing_of p) m × Made (standing_of p) (cell_place k m) c n d)
Found k p f c n d =
    (d ≡ own_after k c (whole_access p)) × (answer_at (whole_access p) n ≡ answer_on (whole_access p) (known k c))

abbrev pub FindsWord : Words → Seat (Unit {0}) (List Card) → Seat (Unit {0}) (List Card) → Whole → ℕ → Type 0
FindsWord w s s' p n =
    (s'.table_id ≡ s.table_id) × IsOne s'.me × Found (layout_of w) p p.phase (card_of s.me.0) n (card_of s'.me.0)

-- the running call of such a pass and such a call
abbrev pub running_of : (w : Words) (a : Pass Live) (p : Whole) → IsCallOf w a p → Running
running_of w a p of = record { pass = a; program = p; ready = of.ready; room = of.room; going = of.going }

-- a call that began at the pass a is under way: it is on its own mutex, of which its pass has seen since what other
-- threads did, and the call's own point once that is made
abbrev pub IsUnderWay : Words → Pass Live → Call → Running → Type 0
IsUnderWay w a call r =
    IsRunningOf w r × IsOnMutex (layout_of w) (running_program r) (mutex_of call)
    × Stands (acts_as call) (first_row call) (cell_place (layout_of w) (mutex_of call)) (card a)
    (running_program r) (card (running_pass r))

-- a call begins, or is refused with no access
abbrev pub Begun : Words → Pass Live → Call → Result Running (Pass Live × Reply) → Type 0
Begun w a call (Ok r) = (whole_started (layout_of w) (card a).thread (held (card a)) call ≡ Ok (running_call r))
    × (running_pass r ≡ a) × IsUnderWay w a call r
Begun w a call (Err e) = (whole_started (layout_of w) (card a).thread (held (card a)) call ≡ Err e.1) × (e.0 ≡ a)

abbrev pub IsTurnOf : Words → Turn → Type 0
IsTurnOf w (Goes r) = IsRunningOf w r
IsTurnOf w (Lives b x) = IsLive w b

-- the access that comes in a phase was made, and answered so: at its mutex's cell, or at one of its thread's own words,
-- where the answer is what the thread knew
abbrev pub Answers : Layout' → Whole → Phase → Card → Card → Answer → Type 0
Answers k p (phase.AtCell r) c d x = (m : ℕ) × (n : ℕ) × IsOnMutex k (standing_of p) m
    × Made (standing_of p) (cell_place k m) c n d × (x ≡ answer_at (whole_access p) n)
Answers k p f c d x = (d ≡ own_after k c (whole_access p)) × (x ≡ answer_on (whole_access p) (known k c))

-- its thread, whose card was c, has made no trim since
abbrev pub TrimsNone : Card → Card → Type 0
TrimsNone c d = d.trims ≡ c.trims

-- the access was made, and the call went on with its answer
abbrev pub Turned : Layout' → Whole → Pass Live → Turn → Type 0
Turned k p a (Goes r) = (x : Answer) × Answers k p p.phase (card a) (card (running_pass r)) x
    × (running_call r ≡ whole_moved p (whole_led p x))
Turned k p a (Lives b y) =
    (x : Answer) × Answers k p p.phase (card a) (card b) x × ((whole_led p x).phase ≡ phase.Ended y)

-- what a section answers: a wait that the word differed, or that it slept and was woken; a wake, how many it woke; a
-- trim, whether it cleared the word
abbrev pub IsAnswerOf : Access → Answer → Type 0
IsAnswerOf (Wait at e) Again = Unit {0}
IsAnswerOf (Wait at e) Woken = Unit {0}
IsAnswerOf (Wake at n) (Count k) = Unit {0}
IsAnswerOf (Trim at) (Trimmed b) = Unit {0}
IsAnswerOf a x = ⊥

-- the call went on with this answer, its pass as it was
abbrev pub Onward : Whole → Answer → Pass Live → Turn → Type 0
Onward p x a (Goes r) = (running_pass r ≡ a) × (running_call r ≡ whole_moved p (whole_led p x))
Onward p x a (Lives b y) = (b ≡ a) × ((whole_led p x).phase ≡ phase.Ended y)

-- the call is where it was, at a section, and its pass knows what it knew, except for the word that it found last,
-- the trims that it made, and changes of its mutex's cell
abbrev pub Unmoved : Words → Running → Running → Type 0
Unmoved w r r' =
    IsRunningOf w r' × (running_call r' ≡ running_call r)
    × KnowsTheSame (card (running_pass r)) (card (running_pass r')) × ¬ IsOneStep (access_in r)
    ×
    ((m : ℕ) → IsOnMutex (layout_of w) (running_program r) m
    → KnowsMoreAt (card (running_pass r)) (cell_place (layout_of w) m) (card (running_pass r')))

-- a trylock of the mutex whose cell is at p gives up only after four exchanges that each found a changed cell, as the
-- pass counts them; and others have changed it as often, as the record of its changes tells
abbrev pub IsRaced : Operation → Reply → Card → ℕ → Card → Type 0
IsRaced TryLock XRACED c p d = (c.misses + 4 ≤ d.misses) × OthersChanged 4 c p d
IsRaced op x c p d = Unit {0}

-- a call that began at the pass a is under way still, or has ended: then its pass has seen its mutex's history up to
-- its one point, which has the reply, and others' points before
abbrev pub GoesOn : Words → Pass Live → Call → Turn → Type 0
GoesOn w a call (Goes r) = IsUnderWay w a call r
GoesOn w a call (Lives b x) = IsLive w b
    × Called (card a) (cell_place (layout_of w) (mutex_of call)) ((acts_as call, x) ∷ []) (card b)
    × IsRaced (acts_as call) x (card a) (cell_place (layout_of w) (mutex_of call)) (card b)
    × KnowsMoreAt (card a) (cell_place (layout_of w) (mutex_of call)) (card b)

-- a thread died in a call that began at the pass a
abbrev pub HasDied : Words → Pass Live → Call → Pass Dead → Type 0
HasDied w a call d = IsDying w d × Died (card a) (cell_place (layout_of w) (mutex_of call)) (acts_as call) (card d)
    × KnowsMoreAt (card a) (cell_place (layout_of w) (mutex_of call)) (card d)

-- wherever the call began, it goes on
abbrev pub Keeps : Words → Running → Turn → Type 0
Keeps w r turn = (a : Pass Live) (call : Call) → IsUnderWay w a call r → GoesOn w a call turn

-- ---- calls that are decided

-- the thread has seen no more of any mutex: what else it knows is of its own words, of the word that it found last, or
-- of changes of the cell at p, of which it knows what it knew, and maybe more
abbrev pub HasSeenTheSame : ℕ → Card → Card → Type 0
HasSeenTheSame p c d =
    (d ≡ record c { last = d.last; trims = d.trims; values = d.values; changes = d.changes }) × KnowsMoreAt c p d

-- a call on mutex m is decided, with this reply, by what its thread has seen at the card c: it has only to wake, to
-- trim and to end its list's change
abbrev pub IsDecided : Words → ℕ → Card → Reply → Running → Type 0
IsDecided w m c x r = IsRunningOf w r × (decided (running_program r).row ≡ Some x)
    × IsOnMutex (layout_of w) (running_program r) m
    × HasSeenTheSame (cell_place (layout_of w) m) c (card (running_pass r))

abbrev pub GoesOnDecided : Words → ℕ → Card → Reply → Turn → Type 0
GoesOnDecided w m c x (Goes r) = IsDecided w m c x r
GoesOnDecided w m c x (Lives b y) = IsLive w b × (y ≡ x) × HasSeenTheSame (cell_place (layout_of w) m) c (card b)

-- whatever it was decided, it ends so
abbrev pub KeepsDecided : Words → Running → Turn → Type 0
KeepsDecided w r turn = (m : ℕ) (c : Card) (x : Reply) → IsDecided w m c x r → GoesOnDecided w m c x turn

-- ---- in place

-- a running call came to this turn by the access that was next
abbrev pub ComesTo : Words → Running → Turn → Type 0
ComesTo w r turn = IsTurnOf w turn × Turned (layout_of w) (running_call r) (running_pass r) turn × Keeps w r turn
    × KeepsDecided w r turn

-- the access was made that was next in the call p with the pass a: they are q and b now, and the call goes on or has
-- replied
abbrev pub Advances : Words → Pass Live → Whole → Pass Live → Whole → Option Reply → Type 0
Advances w a p b q None =
    (of : IsCallOf w a p) → (on : IsCallOf w b q) × ComesTo w (running_of w a p of) (Goes (running_of w b q on))
Advances w a p b q (Some x) = (of : IsCallOf w a p) → ComesTo w (running_of w a p of) (Lives b x)

-- ---- calls that wait for nobody, run to their end

abbrev pub IsNonblocking : Call → Type 0
IsNonblocking (call.TryLock m) = Unit {0}
IsNonblocking (call.Consistent m) = Unit {0}
IsNonblocking x = ⊥

-- a call that began at the pass x is at p, with the pass a
abbrev pub IsIn : Words → Pass Live → Call → Pass Live → Whole → Type 0
IsIn w x call a p = (of : IsCallOf w a p) × IsUnderWay w x call (running_of w a p of)

abbrev pub IsInNonblocking : Words → Pass Live → Whole → Type 0
IsInNonblocking w a p = (x : Pass Live) × (call : Call) × IsNonblocking call × IsIn w x call a p

-- wherever the call began, it is at q now, with the pass b
abbrev pub StaysIn : Words → Pass Live → Whole → Pass Live → Whole → Type 0
StaysIn w a p b q = (x : Pass Live) (call : Call) → IsIn w x call a p → IsIn w x call b q

-- its thread died in it, or it replied
abbrev pub EndsIn : Words → Pass Live → Whole → Pass Live → End → Type 0
EndsIn w a p b end.Stopped = (x : Pass Live) (call : Call) → IsIn w x call a p → (q : Whole) × IsIn w x call b q
EndsIn w a p b (end.Replied y) = (x : Pass Live) (call : Call) → IsIn w x call a p → GoesOn w x call (Lives b y)

abbrev pub stops_with : End → ℕ
stops_with end.Stopped = 1
stops_with (end.Replied y) = 0

abbrev pub stops_within : {A : Type 0} → Result A End → ℕ
stops_within (Ok x) = 0
stops_within (Err e) = stops_with e
