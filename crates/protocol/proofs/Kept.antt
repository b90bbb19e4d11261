-- What holds of every state of the machine.
use Rattle.std.proofs.Common.{◌≡◌, ◌≢◌, ◌⊎◌, ℕ, ◌+◌, ◌<◌, ◌≤◌, true, false, Option, Some, None, List, ◌∷◌, length, arith}
use Rattle.protocol.proofs.Vocabulary.{CondCall, CondRow, CondPhase, CondWhole, OnlyWaits, Object, Operation, AreDifferent, Leads, IsChainBothWays, Layout', IsLayout, head_place}
use Rattle.protocol.proofs.Vocabulary.{cell_place, acquires, held_by, Fields, fields_of, Load, Release, Phase, AtCell, Linking, Clearing, Whole}
use Rattle.protocol.proofs.Vocabulary.{Expects, Sound, Op, OnMutex, OnCondition, Stage, Idle, Calling, AtCondition, Dying, Reaped, mutex_of, State, seen, LinkGoes, UnlinkGoes}
use Rattle.protocol.proofs.Vocabulary.{Part, WaitRow, SignalRow, BroadcastRow, place_in}
use Rattle.protocol.proofs.Seeing.{head_in, entry_in, cell_in, counter_in, words_in}
use Rattle.posixmutex.specs.declared.point.Operation.TheVariants.{Lock, Unlock, Wait}
use Rattle.exitwalk.specs.declared.row.Row as walk_row
use Rattle.exitwalk.specs.declared.row.Rest as walk_rest
use Rattle.exitwalk.specs.declared.row.Part as walk_part
use Rattle.exitwalk.specs.declared.row.Row.TheVariants as walk
use Rattle.exitwalk.specs.Standings as walks
use Rattle.exitwalk.specs.Walks as exit
use Rattle.memorymap.specs.Chains.{IsAmong}
use Rattle.robustlist.specs.LinkLaws as link_laws
use Rattle.robustlist.specs.UnlinkLaws as unlink_laws
use Rattle.mutex.specs.declared.row.Row.{Row}
use Rattle.mutex.specs.declared.row.Row.TheVariants as row
use Rattle.mutex.specs.declared.phase.Phase.TheVariants.{Announcing, Unlinking, Ended}
use Rattle.mutex.specs.Calls as calls
use Rattle.mutex.specs.Rows.{Knows, IsGoing}
use Rattle.mutex.specs.Programs.{row_operation}
use Rattle.condvar.specs.Calls as conditions
use Rattle.condvar.specs.Rows as cond_rows
use Rattle.condvar.specs.Laws as cond_laws
use Rattle.lockword.specs.Threads.{most_threads}

-- the words of a state as thread t's process has them
abbrev pub view_of : State → ℕ → ℕ → ℕ
view_of s t = words_in s.layout t s.words

-- ---- calls in progress

-- a call of thread t, which owns this many mutexes, at or before row r of its mutex's cell: the mutex, as an object,
-- is as the row expects
pub record AtRow (t held : ℕ) (op : Operation) (r : Row) (o : Object) : Type 0 where
  pub going : IsGoing r
  pub knows : Knows r
  pub expects : Expects t r o
  pub of : row_operation r ≡ op
  pub room : acquires op ≡ true → held < 2048

-- a row before which a call makes its entry pending
abbrev pub IsAnnounced : Row → Type 0
IsAnnounced (row.Lock z) = Unit {0}
IsAnnounced (row.TryLock z) = Unit {0}
IsAnnounced (row.Unlock (Release d)) = Unit {0}
IsAnnounced r = ⊥

-- in its phase
abbrev pub InPhase : ℕ → ℕ → Whole → Phase → Object → Type 0
InPhase t held p (Announcing r) o = AtRow t held p.operation r o × IsAnnounced r
InPhase t held p (AtCell r) o = AtRow t held p.operation r o
InPhase t held p (Linking l x) o = (l.head ≡ p.head) × (l.entry ≡ p.entry) × LinkGoes l.row × (o.owner ≡ Some t)
InPhase t held p (Unlinking u d) o = (u.head ≡ p.head) × (u.entry ≡ p.entry) × UnlinkGoes u.row × (p.operation ≡ Unlock) × Expects t (row.Unlock (Release d)) o
InPhase t held p (Clearing x) o = Unit {0}
InPhase t held p (Ended x) o = ⊥

-- its program is on its thread's list and mutex m's words, by their addresses in the thread's process
pub record Fits (s : State) (t held m : ℕ) (p : Whole) : Type 0 where
  pub mine : p.thread ≡ t
  pub inside : m < s.layout.mutexes
  pub head : p.head ≡ head_in s.layout t
  pub entry : p.entry ≡ entry_in s.layout t m
  pub cell : p.cell ≡ cell_in s.layout t m
  pub stands : InPhase t held p p.phase (seen s m)

-- it does what the call is to do; in a wait it is the lock that ends it
abbrev pub IsFor : Layout' → Op → Operation → Type 0
IsFor l (OnMutex c) op = op ≡ calls.acts_as c
IsFor l (OnCondition c) op = (op ≡ Lock) × (conditions.acts_as c ≡ Wait) × (conditions.condition_of c < length l.conditions)

abbrev pub Serves : Layout' → Op → Whole → Type 0
Serves l o p = IsFor l o p.operation

-- ---- calls on condition variables in progress

-- what such a call needs of its mutex's cell at row r: that its thread owns the mutex; to release it, that it is consistent; and to move sleepers there, that WAITERS is set
abbrev pub Needs : ℕ → CondRow → Fields → Type 0
Needs t (CondRow.Wait WaitRow.LoadCounter) c = (c.owner ≡ t) × (c.died ≡ false)
Needs t (CondRow.Wait (WaitRow.Release seen)) c = (c.owner ≡ t) × (c.died ≡ false)
Needs t (CondRow.Signal SignalRow.LoadCounter) c = c.owner ≡ t
Needs t (CondRow.Signal SignalRow.Count) c = c.owner ≡ t
Needs t (CondRow.Signal SignalRow.Wake) c = c.owner ≡ t
Needs t (CondRow.Broadcast BroadcastRow.LoadCounter) c = c.owner ≡ t
Needs t (CondRow.Broadcast (BroadcastRow.Count seen)) c = c.owner ≡ t
Needs t (CondRow.Broadcast (BroadcastRow.SetWaiters seen)) c = c.owner ≡ t
Needs t (CondRow.Broadcast (BroadcastRow.Move seen)) c = (c.owner ≡ t) × (c.waiters ≡ true)
Needs t r c = Unit {0}

-- a wait that has released its mutex will take it again
abbrev pub Room : ℕ → CondRow → Type 0
Room held (CondRow.Wait (WaitRow.Wake seen)) = held < 2048
Room held (CondRow.Wait (WaitRow.Sleep seen)) = held < 2048
Room held CondRow.Awake = held < 2048
Room held r = Unit {0}

-- a call of thread t at row r
pub record AtWordsRow (t held : ℕ) (op : Operation) (r : CondRow) (c : Fields) : Type 0 where
  pub going : cond_rows.IsGoing r
  pub of : cond_laws.row_operation r ≡ op
  pub needs : Needs t r c
  pub room : Room held r

-- in its phase
abbrev pub AtPhase : ℕ → ℕ → Operation → CondWhole → CondPhase → Fields → Type 0
AtPhase t held op p (CondPhase.AtWords r) c = AtWordsRow t held op r c
AtPhase t held op p (CondPhase.Announcing seen) c = (op ≡ Wait) × Needs t (CondRow.Wait (WaitRow.Release seen)) c
AtPhase t held op p (CondPhase.Unlinking u seen) c = (op ≡ Wait) × (u.head ≡ p.head) × (u.entry ≡ p.entry) × UnlinkGoes u.row × Needs t (CondRow.Wait (WaitRow.Release seen)) c
AtPhase t held op p f c = ⊥

-- it is on its thread's list and on the words of its condition variable and of that one's mutex
pub record FitsAt (s : State) (t held : ℕ) (c : CondCall) (p : CondWhole) : Type 0 where
  pub mine : p.thread ≡ t
  pub inside : mutex_of s.layout (OnCondition c) < s.layout.mutexes
  pub there : conditions.condition_of c < length s.layout.conditions
  pub head : p.head ≡ head_in s.layout t
  pub entry : p.entry ≡ entry_in s.layout t (mutex_of s.layout (OnCondition c))
  pub cell : p.cell ≡ cell_in s.layout t (mutex_of s.layout (OnCondition c))
  pub counter : p.counter ≡ counter_in s.layout t (conditions.condition_of c)
  pub stands : AtPhase t held (conditions.acts_as c) p p.phase (fields_of (s.words (cell_place s.layout (mutex_of s.layout (OnCondition c)))))

-- ---- stages

-- a walk over thread t's list
pub record Walks (l : Layout') (t : ℕ) (w : walks.Standing) : Type 0 where
  pub mine : w.thread ≡ t
  pub head : w.head ≡ head_in l t
  pub going : exit.IsGoing w.row
  pub knows : exit.Knows w.thread w.head w.row

abbrev pub Sits : State → ℕ → ℕ → Stage → Type 0
Sits s t held Idle = Unit {0}
Sits s t held (Calling o p) = Fits s t held (mutex_of s.layout o) p × Serves s.layout o p
Sits s t held (AtCondition c p) = FitsAt s t held c p
Sits s t held (Dying w) = Walks s.layout t w
Sits s t held Reaped = Unit {0}

-- ---- robust lists

-- a mutex that its thread owns and that isn't on its list: it is being put there, or about to be released
abbrev pub left_out_in : ℕ → Phase → Option ℕ
left_out_in m (AtCell (row.Unlock (Release d))) = Some m
left_out_in m (Linking l x) = Some m
left_out_in m f = None

abbrev pub left_out_at : ℕ → CondPhase → Option ℕ
left_out_at m (CondPhase.AtWords (CondRow.Wait (WaitRow.Release seen))) = Some m
left_out_at m f = None

abbrev pub left_out : Layout' → Stage → Option ℕ
left_out l (Calling o p) = left_out_in (mutex_of l o) p.phase
left_out l (AtCondition c p) = left_out_at (mutex_of l (OnCondition c)) p.phase
left_out l g = None

-- the entries are those of the mutexes that thread t owns, except for this one, by their addresses in its process
pub record Owned (s : State) (t : ℕ) (out : Option ℕ) (es : List ℕ) : Type 0 where
  pub entries : (x : ℕ) → IsAmong x es → (k : ℕ) × (k < s.layout.mutexes) × (x ≡ entry_in s.layout t k) × ((seen s k).owner ≡ Some t) × (out ≢ Some k)
  pub all : (k : ℕ) → k < s.layout.mutexes → (seen s k).owner ≡ Some t → out ≢ Some k → IsAmong (entry_in s.layout t k) es

-- the words are a list of the entries, whole or in change
abbrev pub ChainedIn : (ℕ → ℕ) → ℕ → ℕ → List ℕ → Phase → Type 0
ChainedIn w h e es (Linking l x) = link_laws.Linking h e es l.row w
ChainedIn w h e es (Unlinking u d) = unlink_laws.Unlinking h e es u.row w
ChainedIn w h e es f = IsChainBothWays w h es

abbrev pub ChainedAt : (ℕ → ℕ) → ℕ → ℕ → List ℕ → CondPhase → Type 0
ChainedAt w h e es (CondPhase.Unlinking u seen) = unlink_laws.Unlinking h e es u.row w
ChainedAt w h e es f = IsChainBothWays w h es

-- as thread t's process has them
abbrev pub Chained : Layout' → (ℕ → ℕ) → ℕ → List ℕ → Stage → Type 0
Chained l w t es (Calling o p) = ChainedIn (words_in l t w) (head_in l t) p.entry es p.phase
Chained l w t es (AtCondition c p) = ChainedAt (words_in l t w) (head_in l t) p.entry es p.phase
Chained l w t es g = IsChainBothWays (words_in l t w) (head_in l t) es

-- ---- the lists of threads that died

-- what is left to walk: from e next words lead over these entries, of mutexes that thread t owns still, and back to its head; each mutex that it owns is one of them, or the pending one p, or is
-- being treated. All this is by addresses of t's process
pub record Left (s : State) (t e p : ℕ) (es : List ℕ) (treated : Option ℕ) : Type 0 where
  pub leads : Leads (view_of s t) (head_in s.layout t) e es
  pub different : AreDifferent (head_in s.layout t ∷ es)
  pub entries : (x : ℕ) → IsAmong x es → (k : ℕ) × (k < s.layout.mutexes) × (x ≡ entry_in s.layout t k) × ((seen s k).owner ≡ Some t) × (treated ≢ Some k)
  pub all : (k : ℕ) → k < s.layout.mutexes → (seen s k).owner ≡ Some t → IsAmong (entry_in s.layout t k) es ⊎ ((p ≡ entry_in s.layout t k) ⊎ (treated ≡ Some k))
  pub pending : (p ≡ 0) ⊎ (k : ℕ) × (k < s.layout.mutexes) × (p ≡ entry_in s.layout t k)

-- the rest of a walk, after this many entries
abbrev pub LeftOf : State → ℕ → walk_rest.Rest → Option ℕ → Type 0
LeftOf s t r treated = (es : List ℕ) × Left s t r.entry r.pending es treated × (r.offset ≡ 18446744073709551615) × (length es + r.loaded ≤ 2048)

-- after the list only the pending mutex is left
abbrev pub LeftIn : State → ℕ → walk_part.Part → Option ℕ → Type 0
LeftIn s t (Part.List r) treated = LeftOf s t r treated
LeftIn s t Part.Pending treated = (k : ℕ) → k < s.layout.mutexes → (seen s k).owner ≡ Some t → treated ≡ Some k

-- the head's words, as the walk will find them
abbrev pub LeftFrom : State → ℕ → ℕ → Type 0
LeftFrom s t first = (es : List ℕ) × Left s t first (s.words (head_place t + 2)) es None × (length es ≤ 2048)

-- a mutex that is treated, by its cell's address
abbrev pub Treats : State → ℕ → ℕ → ℕ → Type 0
Treats s t at k = (k < s.layout.mutexes) × (at ≡ cell_in s.layout t k)

abbrev pub LeftToWalk : State → ℕ → walk_row.Row → Type 0
LeftToWalk s t walk.LoadFirst = LeftFrom s t (s.words (head_place t))
LeftToWalk s t (walk.LoadOffset first) = LeftFrom s t first
LeftToWalk s t (walk.LoadPending first offset) = LeftFrom s t first × (offset ≡ 18446744073709551615)
LeftToWalk s t (walk.LoadNext r) = LeftOf s t r None
LeftToWalk s t (walk.LoadWord at rest) = (k : ℕ) × Treats s t at k × LeftIn s t rest (Some k)
LeftToWalk s t (walk.Mark at v again rest) = (k : ℕ) × Treats s t at k × LeftIn s t rest (Some k) × OnlyWaits v again (s.words (place_in s.layout t at))
LeftToWalk s t (walk.WakeOne at rest) = (k : ℕ) × Treats s t at k × LeftIn s t rest None
LeftToWalk s t walk.Ended = ⊥

-- a thread's list: as it has it, or as the walk will find it; a thread that was reaped owns nothing
abbrev pub Listed : State → ℕ → Stage → Type 0
Listed s t (Dying w) = LeftToWalk s t w.row
Listed s t Reaped = (k : ℕ) → (seen s k).owner ≢ Some t
Listed s t Idle = (es : List ℕ) × Owned s t None es × Chained s.layout s.words t es Idle
Listed s t (Calling o p) = (es : List ℕ) × Owned s t (left_out s.layout (Calling o p)) es × Chained s.layout s.words t es (Calling o p)
Listed s t (AtCondition c p) = (es : List ℕ) × Owned s t (left_out s.layout (AtCondition c p)) es × Chained s.layout s.words t es (AtCondition c p)

-- ---- pending entries

-- at the cell: that of the call's mutex, from before it is looked at with the intent to take it, or before it is released
abbrev pub pending_at_row : ℕ → Row → ℕ
pending_at_row e (row.Lock z) = e
pending_at_row e (row.TryLock z) = e
pending_at_row e (row.Unlock Load) = 0
pending_at_row e (row.Unlock z) = e
pending_at_row e r = 0

abbrev pub pending_in : ℕ → Phase → ℕ
pending_in e (Announcing r) = 0
pending_in e (AtCell r) = pending_at_row e r
pending_in e (Ended x) = 0
pending_in e f = e

-- at its words, a wait's: from before it leaves the list
abbrev pub pending_at_words : ℕ → CondRow → ℕ
pending_at_words e (CondRow.Wait (WaitRow.Release seen)) = e
pending_at_words e (CondRow.Wait (WaitRow.Wake seen)) = e
pending_at_words e (CondRow.Wait (WaitRow.Sleep seen)) = e
pending_at_words e r = 0

abbrev pub pending_at : ℕ → CondPhase → ℕ
pending_at e (CondPhase.AtWords r) = pending_at_words e r
pending_at e (CondPhase.Unlinking u seen) = e
pending_at e f = 0

-- of a thread that lives
abbrev pub PendsAs : ℕ → Stage → Type 0
PendsAs w Idle = w ≡ 0
PendsAs w (Calling o p) = w ≡ pending_in p.entry p.phase
PendsAs w (AtCondition c p) = w ≡ pending_at p.entry p.phase
PendsAs w g = Unit {0}

-- a thread's head has the offset from an entry to its cell, and its pending entry; and it owns this many mutexes at
-- most
pub record HasHead (s : State) (t : ℕ) : Type 0 where
  pub offset : s.words (head_place t + 1) ≡ 18446744073709551615
  pub pending : PendsAs (s.words (head_place t + 2)) (s.threads t).stage
  pub few : (s.threads t).held ≤ 2048

pub record Kept (s : State) : Type 0 where
  pub layout : IsLayout s.layout
  pub sits : (t : ℕ) → 1 ≤ t → t ≤ s.layout.threads → Sits s t (s.threads t).held (s.threads t).stage
  pub listed : (t : ℕ) → 1 ≤ t → t ≤ s.layout.threads → Listed s t (s.threads t).stage
  pub heads : (t : ℕ) → 1 ≤ t → t ≤ s.layout.threads → HasHead s t
  pub sound : (m : ℕ) → Sound (seen s m)
  pub owners : (m u : ℕ) → (seen s m).owner ≡ Some u → (1 ≤ u) × (u ≤ s.layout.threads)
  pub held : (t : ℕ) → 1 ≤ t → t ≤ s.layout.threads → (s.threads t).held ≡ held_by t (seen s) s.layout.mutexes

-- no thread is beyond the 64th
pub last_thread : (s : State) (t : ℕ) → Kept s → t ≤ s.layout.threads → t ≤ most_threads
last_thread s t inv known = let most = inv.layout.threads.1 in omega arith
