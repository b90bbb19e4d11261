-- What the calls of a pass answer.
--
-- *What calls of running threads answer.* A trylock or a lock is refused with X_HELD exactly where the thread holds
-- 2,048, and then sees nothing new; else its reply is that of its point, whether it slept before or not. After
-- X_RACED a trylock's thread has come to know of four changes of the cell at least by other threads of the layout. A
-- declaration's reply is that of its point too. A release frees with OK or is refused with EPERM; whom it has to wake
-- is recorded by the word that it found, of which its thread was the owner and which was in the cell right before
-- the one change that the thread made of it (`ChangedOnce`; `Changes.antt`), and the wake sees nothing new. Above
-- that table stands who waits for the mutex as the history leaves it: where WAITERS was found, all of them if it is
-- unusable then, and one if it isn't; else nobody (`OwesAsLeft`). An unlock that has freed its mutex stands before
-- its wake, or before its entry is cleared (`owing_at`; `Owing.antt`). A call of words ends `Dead` exactly where its
-- fate told its thread to stop (`stops_in`), and has then made a beginning of its points; a lock and the end of an
-- unlock by a bench do so too where the thread was killed (`IsHeeded`: the fate said so once, or not at all where a
-- call ended `Dead`, and never where its thread lives). Source: pthread_mutex_lock(3p), pthread_mutex_trylock(3p),
-- pthread_mutex_unlock(3p); robust-futexes.
use Rattle.std.specs.Prelude.{◌≡◌, ℕ, ◌+◌, ◌≤◌, nat_le, Bool, true, false}
use Rattle.std.specs.Prelude.{MatchBool, Result, Ok, Err, [], ◌∷◌, if◌then◌else◌}
use Rattle.posixmutex.specs.declared.object.Object.{Object}
use Rattle.posixmutex.specs.Objects.{fresh, held_limit, Run}
use Rattle.lockword.specs.declared.reply.Reply.{Reply}
use Rattle.posixmutex.specs.declared.point.Operation.{Operation}
use Rattle.lockword.specs.Cells.{fields_of}
use Rattle.lockword.specs.declared.reply.Reply.TheVariants.{OK, EPERM, XRACED, XHELD}
use Rattle.posixmutex.specs.declared.point.Operation.TheVariants.{TryLock, Unlock, Consistent}
use Rattle.memorymap.specs.Layouts.{Layout', cell_place}
use Rattle.ruledwords.specs.declared.pass.Card.{Card}
use Rattle.ruledwords.specs.declared.pass.Words.{Words}
use Rattle.ruledwords.specs.declared.pass.Pass.{Pass}
use Rattle.ruledwords.specs.declared.pass.Live.{Live}
use Rattle.ruledwords.specs.declared.pass.Dead.{Dead}
use Rattle.ruledwords.specs.declared.turn.Outcome.{Outcome}
use Rattle.ruledwords.specs.declared.turn.Outcome.TheVariants as outcome
use Rattle.ruledwords.specs.declared.turn.Released.{Released}
use Rattle.ruledwords.specs.declared.turn.Released.TheVariants as released
use Rattle.ruledwords.specs.declared.turn.Owed.{Owed}
use Rattle.ruledwords.specs.declared.turn.Wakes.{Wakes}
use Rattle.ruledwords.specs.declared.turn.Wakes.TheVariants.{Nobody, One, All}
use Rattle.ruledwords.specs.declared.turn.Running.{Running}
use Rattle.ruledwords.specs.declared.turn.Turn.TheVariants.{Lives}
use Rattle.mutex.specs.declared.call.Call.{Call}
use Rattle.mutex.specs.Standings.{Whole}
use Rattle.ruledwords.specs.Seen.{Called, Died, held}
use Rattle.ruledwords.specs.Passes.{card, layout_of, IsLive, IsDying}
use Rattle.ruledwords.specs.Calls.{IsOnMutex}
use Rattle.ruledwords.specs.Cards.{at}
use Rattle.ruledwords.specs.Changes.{ChangedOnce, OthersChanged}
use Rattle.ruledwords.specs.Releases.{IsReleasing}
use Rattle.ruledwords.specs.Turns.{running_program, GoesOn, HasDied, HasSeenTheSame, IsIn, IsRunningOf, TrimsNone}

-- a call that may take mutex m replied so: by a thread that holds 2,048 mutexes it is refused, with nothing seen
-- again. Otherwise it is decided by one point, whose reply it is
abbrev pub Takes : Layout' → ℕ → Operation → Card → Reply → Card → Type 0
Takes k m op c r d =
    MatchBool (nat_le held_limit (held c)) ((r ≡ XHELD) × (d ≡ c)) (Called c (cell_place k m) ((op, r) ∷ []) d)

-- its thread died in it: it wasn't refused
abbrev pub DiesTaking : Layout' → ℕ → Operation → Card → Card → Type 0
DiesTaking k m op c d = (nat_le held_limit (held c) ≡ false) × Died c (cell_place k m) op d

-- a trylock of mutex m gives up only after four exchanges that each found a changed cell, as the pass counts them, and
-- as often others have changed it. Its thread has made no trim
abbrev pub Tried : Words → ℕ → Pass Live → Outcome → Type 0
Tried w m a (outcome.Lives b r) = IsLive w b × Takes (layout_of w) m TryLock (card a) r (card b)
    × (r ≡ XRACED
    → ((card a).misses + 4 ≤ (card b).misses) × OthersChanged 4 (card a) (cell_place (layout_of w) m) (card b))
    × TrimsNone (card a) (card b)
Tried w m a (outcome.Dead d) =
    IsDying w d × DiesTaking (layout_of w) m TryLock (card a) (card d) × TrimsNone (card a) (card d)

-- a declaration that mutex m is consistent: the reply is that of its point. So it is OK, EINVAL or EPERM, as the thread
-- owned the mutex and found it inconsistent, owned it, or didn't own it. Its thread has made no trim
abbrev pub Declared : Words → ℕ → Pass Live → Outcome → Type 0
Declared w m a (outcome.Lives b r) =
    IsLive w b × Called (card a) (cell_place (layout_of w) m) ((Consistent, r) ∷ []) (card b) × TrimsNone (card a) (card b)
Declared w m a (outcome.Dead d) =
    IsDying w d × Died (card a) (cell_place (layout_of w) m) Consistent (card d) × TrimsNone (card a) (card d)

-- a call that is at p with the pass a ends so, wherever it began
abbrev pub Finishes : Words → Pass Live → Whole → Outcome → Type 0
Finishes w a p (outcome.Lives b y) = (x : Pass Live) (call : Call) → IsIn w x call a p → GoesOn w x call (Lives b y)
Finishes w a p (outcome.Dead d) = (x : Pass Live) (call : Call) → IsIn w x call a p → HasDied w x call d

-- what the thread of a call knows that ended so
abbrev pub card_after : Outcome → Card
card_after (outcome.Lives b r) = card b
card_after (outcome.Dead d) = card d

-- how often its thread was told to stop, in a call that ends so: once where it died, and else never
abbrev pub stops_in : Outcome → ℕ
stops_in (outcome.Lives b r) = 0
stops_in (outcome.Dead d) = 1

abbrev pub stops_releasing : Released → ℕ
stops_releasing (released.Owes o) = 0
stops_releasing (released.Refused b r) = 0
stops_releasing (released.Dead d) = 1

-- whom a release has to wake that found this word: nobody where nobody waits, else all of a mutex that became unusable,
-- else one
abbrev pub wakes_of : ℕ → Wakes
wakes_of w = if (fields_of w).waiters then (if (fields_of w).died then All else One) else Nobody

-- whom a release owes, by the mutex as it left it and by WAITERS in the word that it found: nobody where nobody waits;
-- one of those who wait where the mutex can be taken, who then wakes the next one as it unlocks; and all of them where
-- it can't be taken any more (ENOTRECOVERABLE), as then nobody's unlock would wake the others
pub record OwesAsLeft (wakes : Wakes) (waiters : Bool) (o : Object) : Type 0 where
  pub nobody : waiters ≡ false → wakes ≡ Nobody
  pub one : waiters ≡ true → o.unusable ≡ false → wakes ≡ One
  pub all : waiters ≡ true → o.unusable ≡ true → wakes ≡ All

abbrev pub owed_running : Owed → Running
owed_running o = o.running

abbrev pub owed_pass : Owed → Pass Live
owed_pass o = o.running.pass

abbrev pub owed_wakes : Owed → Wakes
owed_wakes o = o.wakes

-- it is an unlock of these words
abbrev pub IsOwedOf : Words → Owed → Type 0
IsOwedOf w o = IsRunningOf w (owed_running o)

-- a release of mutex m: its point is an unlock with OK where the mutex is freed, and with EPERM where it is refused.
-- The word says whom it has to wake: that it found, the last that the pass met, of which its thread was the
-- owner: the cell's right before the one change that the thread has made of it. So it is those who wait for the
-- mutex as the history leaves it. Its thread has made no trim
abbrev pub Frees : Words → ℕ → Pass Live → Released → Type 0
Frees w m a (released.Owes o) =
    IsOwedOf w o × Called (card a) (cell_place (layout_of w) m) ((Unlock, OK) ∷ []) (card (owed_pass o))
    × ((fields_of (card (owed_pass o)).last).owner ≡ (card a).thread)
    × (owed_wakes o ≡ wakes_of (card (owed_pass o)).last)
    × IsOnMutex (layout_of w) (running_program (owed_running o)) m
    × ChangedOnce (card a) (cell_place (layout_of w) m) (card (owed_pass o))
    ×
    ((x : Object) → Run fresh (at (card (owed_pass o)).seen (cell_place (layout_of w) m)) x
    → OwesAsLeft (owed_wakes o) (fields_of (card (owed_pass o)).last).waiters x)
    × TrimsNone (card a) (card (owed_pass o))
Frees w m a (released.Refused b r) =
    IsLive w b × (r ≡ EPERM) × Called (card a) (cell_place (layout_of w) m) ((Unlock, EPERM) ∷ []) (card b)
    × TrimsNone (card a) (card b)
Frees w m a (released.Dead d) =
    IsDying w d × Died (card a) (cell_place (layout_of w) m) Unlock (card d) × TrimsNone (card a) (card d)

-- an unlock by the thread whose card was c has freed the mutex whose cell is at q, and its card is d now. The word that
-- its release found, the last that it met, of which its thread was the owner, was the cell's right before the one change
-- that the thread has made of it; and it said that nobody waits, so nobody was to be woken
pub record FreesAlone (c : Card) (q : ℕ) (d : Card) : Type 0 where
  pub owner : (fields_of d.last).owner ≡ c.thread
  pub nobody : wakes_of d.last ≡ Nobody
  pub once : ChangedOnce c q d

-- an unlock that is at p with the pass a frees its mutex so, wherever it began
abbrev pub FreesFrom : Words → Pass Live → Whole → Released → Type 0
FreesFrom w a p o = (x : Pass Live) (m : ℕ) → IsReleasing w x m a p → Frees w m x o

-- its thread, whose card is d now, has seen no more of any mutex
abbrev pub SeesNoMore : Words → Owed → Card → Type 0
SeesNoMore w o d = (m : ℕ) → IsOnMutex (layout_of w) (running_program (owed_running o)) m
    → HasSeenTheSame (cell_place (layout_of w) m) (card (owed_pass o)) d

-- an unlock ends exactly where nobody is to be woken: then its entry is pending no more. Nothing new is seen
abbrev pub Settles : Words → Owed → Result (Pass Live) Owed → Type 0
Settles w o (Ok b) = (owed_wakes o ≡ Nobody) × IsLive w b × SeesNoMore w o (card b)
Settles w o (Err v) = ¬ (owed_wakes o ≡ Nobody) × (v ≡ o)

-- a thread that dies before the end of its unlock makes no point. What it has seen stays
abbrev pub Abandons : Owed → Pass Dead → Type 0
Abandons o d = (card d ≡ card (owed_pass o)) × ((w : Words) → IsOwedOf w o → IsDying w d)
