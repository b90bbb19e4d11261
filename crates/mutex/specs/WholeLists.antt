-- A thread's robust list through a whole call: what the words say that the thread alone writes, its head's and the
-- links of the mutexes that it owns (robust-futexes; robust-futex-ABI).
--
-- `w a` is such a word at the address a in the thread's process. `owns k` tells whether the thread owns mutex k.
--
-- *A thread's list through a call.* A thread alone writes its head's first entry and its pending one, and the links of
-- the mutexes that it owns (`IsOwnPlace`). Between calls these words lead from its head, both ways, over just the
-- mutexes that it owns, and nothing is pending. In a call they do so except for one entry that is put in or taken
-- out just then, or whose mutex is about to be released; the call's entry is pending from before the cell is looked
-- at to take it, and before it is released. Dead: next words lead over mutexes that it owned, and each that it owned
-- is one of these or the pending one. Of each access of a whole call, whatever others do at its cell: the law
-- `whole_calls_keep_lists`. Source: robust-futexes; robust-futex-ABI.
use Rattle.std.specs.Prelude.{ℕ, ◌≡◌, ◌≢◌, ◌<◌, ◌≤◌, ◌+◌, ◌⊎◌, Bool, true, false, Option, Some, None, List}
use Rattle.lockword.specs.declared.reply.Reply.{Reply}
use Rattle.lockword.specs.declared.reply.Reply.TheVariants.{OK, EOWNERDEAD, EFAULT}
use Rattle.stepprograms.specs.declared.access.Answer.{Answer}
use Rattle.stepprograms.specs.Accesses.{address_of}
use Rattle.memorymap.specs.Chains.{IsAmong, IsChain, IsChainBothWays}
use Rattle.memorymap.specs.Layouts.{Layout', IsLayout, head_place, entry_place, cell_place, address_in, place_in}
use Rattle.posixmutex.specs.declared.point.Operation.{Operation}
use Rattle.posixmutex.specs.declared.point.Operation.TheVariants as operation
use Rattle.robustlist.specs.LinkLaws.{Linking as IsLinking}
use Rattle.robustlist.specs.UnlinkLaws.{Unlinking as IsUnlinking}
use Rattle.robustlist.specs.Words.{answer_on, after}
use Rattle.mutex.specs.declared.call.Call.{Call}
use Rattle.mutex.specs.declared.row.Row.{Row}
use Rattle.mutex.specs.declared.row.Row.TheVariants as row
use Rattle.mutex.specs.declared.unlock.UnlockRow.TheVariants as unlock
use Rattle.mutex.specs.declared.phase.Phase.{Phase}
use Rattle.mutex.specs.declared.phase.Phase.TheVariants.{Announcing, AtCell, Linking, Unlinking, Clearing, Ended}
use Rattle.mutex.specs.Calls.{acts_as, mutex_of}
use Rattle.mutex.specs.Standings.{Whole}
use Rattle.mutex.specs.declared.row.Led.{Led}
use Rattle.mutex.specs.Programs.{row_operation, resume_of}
use Rattle.mutex.specs.Whole.{first_phase, whole_access, whole_led, pending_place, PhaseKnows}

-- ---- addresses in thread t's process

abbrev pub head_in : Layout' → ℕ → ℕ
head_in l t = address_in l t (head_place t)

abbrev pub entry_in : Layout' → ℕ → ℕ → ℕ
entry_in l t k = address_in l t (entry_place l k)

-- the place of a word that the thread alone writes: its head's first entry or pending one, or a link of a mutex that it
-- owns
abbrev pub IsOwnPlace : Layout' → ℕ → (ℕ → Bool) → ℕ → Type 0
IsOwnPlace l t owns p = (p ≡ head_place t)
    ⊎ ((p ≡ head_place t + 2)
    ⊎ (k : ℕ) × (k < l.mutexes) × ((p ≡ entry_place l k) ⊎ (p ≡ entry_place l k + 1)) × (owns k ≡ true))

-- the address of one
pub record IsOwnAddress (l : Layout') (t : ℕ) (owns : ℕ → Bool) (a : ℕ) : Type 0 where
  pub place : ℕ
  pub from : a ≡ address_in l t place
  pub back : place_in l t a ≡ place
  pub own : IsOwnPlace l t owns place

-- ---- lists

-- the entries are those of the mutexes that the thread owns, except for this one
pub record Entries (l : Layout') (t : ℕ) (owns : ℕ → Bool) (out : Option ℕ) (es : List ℕ) : Type 0 where
  pub each : (x : ℕ) → IsAmong x es
      → (k : ℕ) × (k < l.mutexes) × (x ≡ entry_in l t k) × (owns k ≡ true) × (out ≢ Some k)
  pub all : (k : ℕ) → k < l.mutexes → owns k ≡ true → out ≢ Some k → IsAmong (entry_in l t k) es

-- between calls: from the head the words lead over just the mutexes that the thread owns, both ways, and no entry is
-- pending
pub record HasList (l : Layout') (t : ℕ) (owns : ℕ → Bool) (w : ℕ → ℕ) : Type 0 where
  pub entries : List ℕ
  pub owned : Entries l t owns None entries
  pub chain : IsChainBothWays w (head_in l t) entries
  pub pending : w (pending_place (head_in l t)) ≡ 0

-- a mutex that its thread owns and that isn't on its list: it is being put there, or about to be released
abbrev pub left_out : ℕ → Phase → Option ℕ
left_out m (AtCell (row.Unlock (unlock.Release d))) = Some m
left_out m (Linking l x) = Some m
left_out m f = None

-- the words are a list of the entries, whole or in change
abbrev pub IsChainedIn : (ℕ → ℕ) → ℕ → ℕ → List ℕ → Phase → Type 0
IsChainedIn w h e es (Linking l x) = IsLinking h e es l.row w
IsChainedIn w h e es (Unlinking u d) = IsUnlinking h e es u.row w
IsChainedIn w h e es f = IsChainBothWays w h es

-- the entry that is pending: that of the call's mutex, from before the cell is looked at with the intent to take it, or
-- before it is released
abbrev pub pending_at_row : ℕ → Row → ℕ
pending_at_row e (row.Lock r) = e
pending_at_row e (row.TryLock r) = e
pending_at_row e (row.Unlock unlock.Load) = 0
pending_at_row e (row.Unlock r) = e
pending_at_row e r = 0

abbrev pub pending_in : ℕ → Phase → ℕ
pending_in e (Announcing r) = 0
pending_in e (AtCell r) = pending_at_row e r
pending_in e (Ended x) = 0
pending_in e f = e

-- a row before which a call makes its entry pending
abbrev pub IsAnnounced : Row → Type 0
IsAnnounced (row.Lock r) = Unit {0}
IsAnnounced (row.TryLock r) = Unit {0}
IsAnnounced (row.Unlock (unlock.Release d)) = Unit {0}
IsAnnounced r = ⊥

-- who is to release a mutex owns it
abbrev pub OwnsAt : Bool → Row → Type 0
OwnsAt own (row.Unlock (unlock.Release d)) = own ≡ true
OwnsAt own r = Unit {0}

-- a call whose head and entry are at h and e is there, its thread owning its mutex as told
abbrev pub StandsAt : ℕ → ℕ → Operation → Bool → Phase → Type 0
StandsAt h e op own (Announcing r) = IsAnnounced r × OwnsAt own r × (row_operation r ≡ op)
StandsAt h e op own (AtCell r) = OwnsAt own r × (row_operation r ≡ op)
StandsAt h e op own (Linking l x) = (l.head ≡ h) × (l.entry ≡ e) × (own ≡ true)
StandsAt h e op own (Unlinking u d) = (u.head ≡ h) × (u.entry ≡ e) × (own ≡ true) × (op ≡ operation.Unlock)
StandsAt h e op own (Clearing x) = Unit {0}
StandsAt h e op own (Ended x) = ⊥

-- in a call on mutex m: its words are a list of what the thread owns, except for what is put there or released just
-- now
pub record KeepsList (l : Layout') (t : ℕ) (owns : ℕ → Bool) (m : ℕ) (op : Operation) (f : Phase) (w : ℕ → ℕ) : Type 0
  where
    pub knows : PhaseKnows f
    pub stands : StandsAt (head_in l t) (entry_in l t m) op (owns m) f
    pub entries : List ℕ
    pub owned : Entries l t owns (left_out m f) entries
    pub chain : IsChainedIn w (head_in l t) (entry_in l t m) entries f
    pub pending : w (pending_place (head_in l t)) ≡ pending_in (entry_in l t m) f

-- the call has returned, or is there so
abbrev pub Arrives : Layout' → ℕ → (ℕ → Bool) → ℕ → Operation → Phase → (ℕ → ℕ) → Type 0
Arrives l t owns m op (Ended x) w = HasList l t owns w
Arrives l t owns m op (Announcing r) w = KeepsList l t owns m op (Announcing r) w
Arrives l t owns m op (AtCell r) w = KeepsList l t owns m op (AtCell r) w
Arrives l t owns m op (Linking k x) w = KeepsList l t owns m op (Linking k x) w
Arrives l t owns m op (Unlinking u d) w = KeepsList l t owns m op (Unlinking u d) w
Arrives l t owns m op (Clearing x) w = KeepsList l t owns m op (Clearing x) w

-- it is thread t's call on mutex m
pub record IsCallOn (l : Layout') (t m : ℕ) (p : Whole) : Type 0 where
  pub thread : p.thread ≡ t
  pub head : p.head ≡ head_in l t
  pub entry : p.entry ≡ entry_in l t m
  pub cell : p.cell ≡ address_in l t (cell_place l m)

-- its access is one of its thread's own words
abbrev pub IsOwnAccess : Phase → Type 0
IsOwnAccess (AtCell r) = ⊥
IsOwnAccess (Ended x) = ⊥
IsOwnAccess f = Unit {0}

-- what the thread owns after a point of this operation, where it owned or didn't
abbrev pub owns_after : Bool → Operation → Option Reply → Bool
owns_after own operation.Lock (Some OK) = true
owns_after own operation.Lock (Some EOWNERDEAD) = true
owns_after own operation.TryLock (Some OK) = true
owns_after own operation.TryLock (Some EOWNERDEAD) = true
owns_after own operation.Unlock (Some OK) = false
owns_after own op x = own

-- words that are the same at what was the thread's own and still is
abbrev pub AgreeOnOwn : Layout' → ℕ → (ℕ → Bool) → (ℕ → Bool) → (ℕ → ℕ) → (ℕ → ℕ) → Type 0
AgreeOnOwn l t owns owns' w w' =
    (p : ℕ) → IsOwnPlace l t owns p → IsOwnPlace l t owns' p → w' (address_in l t p) ≡ w (address_in l t p)

-- what the kernel finds of a thread that dies: next words lead from its head over mutexes that it owned, and back, and
-- each that it owned is one of these or the pending one (get_robust_list(2))
pub record CanBeWalked (l : Layout') (t : ℕ) (owns : ℕ → Bool) (w : ℕ → ℕ) : Type 0 where
  pub entries : List ℕ
  pub chain : IsChain w (head_in l t) entries
  pub each : (x : ℕ) → IsAmong x entries → (k : ℕ) × (k < l.mutexes) × (x ≡ entry_in l t k) × (owns k ≡ true)
  pub all : (k : ℕ) → k < l.mutexes → owns k ≡ true
      → IsAmong (entry_in l t k) entries ⊎ (w (pending_place (head_in l t)) ≡ entry_in l t k)
  pub pending : (w (pending_place (head_in l t)) ≡ 0)
      ⊎ (k : ℕ) × (k < l.mutexes) × (w (pending_place (head_in l t)) ≡ entry_in l t k)

-- ---- what every whole call keeps of its thread's list

-- thread t of the layout, and a mutex
pub record IsThere (l : Layout') (t m : ℕ) : Type 0 where
  pub layout : IsLayout l
  pub first : 1 ≤ t
  pub last : t ≤ l.threads
  pub mutex : m < l.mutexes

-- what the thread owns after an access at the mutex's cell, which led there: no other mutex came or went; it had not
-- owned what it took, and it owns what it is to release
pub record Owns (m : ℕ) (op : Operation) (led : Led) (owns owns' : ℕ → Bool) : Type 0 where
  pub here : owns' m ≡ owns_after (owns m) op led.point
  pub elsewhere : (k : ℕ) → k ≢ m → owns' k ≡ owns k
  pub took : (x : Reply) → led.point ≡ Some x → owns_after false op (Some x) ≡ true → owns m ≡ false
  pub releases : OwnsAt (owns m) led.row
  pub faultless : led.row ≢ row.Ended EFAULT

pub record WholeListsAreKept : Type 0 where
  -- a call begins with the list as it is between calls
  pub begins_so : (l : Layout') (t : ℕ) (owns : ℕ → Bool) (c : Call) (w : ℕ → ℕ) → IsThere l t (mutex_of c)
      → HasList l t owns w → KeepsList l t owns (mutex_of c) (acts_as c) (first_phase c) w
  -- an access of its thread's own words is at such a word, and leaves a list
  pub own_words : (l : Layout') (t : ℕ) (owns : ℕ → Bool) (m : ℕ) (p : Whole) (w : ℕ → ℕ) → IsThere l t m
      → IsCallOn l t m p → IsOwnAccess p.phase → KeepsList l t owns m p.operation p.phase w →
      IsOwnAddress l t owns (address_of (whole_access p))
      × Arrives l t owns m p.operation (whole_led p (answer_on (whole_access p) w)).phase (after (whole_access p) w)
  -- so does one at the cell, whatever others do there
  pub at_the_cell : (l : Layout') (t : ℕ) (owns owns' : ℕ → Bool) (m : ℕ) (p : Whole) (r : Row) (a : Answer)
      (w w' : ℕ → ℕ) → IsThere l t m → IsCallOn l t m p → p.phase ≡ AtCell r
      → KeepsList l t owns m p.operation (AtCell r) w →
      Owns m p.operation (resume_of p.thread r a) owns owns' → AgreeOnOwn l t owns owns' w w'
      → Arrives l t owns' m p.operation (whole_led p a).phase w'
  -- wherever the thread dies, between calls or in one, the kernel finds all that it owns
  pub between_calls : (l : Layout') (t : ℕ) (owns : ℕ → Bool) (w : ℕ → ℕ) → HasList l t owns w → CanBeWalked l t owns w
  pub in_a_call : (l : Layout') (t : ℕ) (owns : ℕ → Bool) (m : ℕ) (op : Operation) (f : Phase) (w : ℕ → ℕ)
      → IsThere l t m → KeepsList l t owns m op f w → CanBeWalked l t owns w
