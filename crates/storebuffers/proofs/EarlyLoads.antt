-- Calls that load before they store: their phases up to the loads, and what these do with the buffer.
use Rattle.std.proofs.Common.{◌≡◌, ◌≢◌, inl, inr, ⊎_elim, ℕ, ◌+◌, ◌<◌, ◌≤◌, Bool, true, false, ◌&&◌, Ok, Err, Some, List, [], ◌∷◌, refl, sym, ap, ◌∙◌, subst, arith}
use Rattle.std.specs.Prelude.{if◌then◌else◌, nat_le}
use Rattle.std.proofs.lemmas.Bool.Decides.{nat_tests}
use Rattle.lockword.specs.Cells.{fields_of}
use Rattle.lockword.specs.declared.reply.Reply.TheVariants.{XHELD}
use Rattle.stepprograms.specs.declared.access.Access.TheVariants as access
use Rattle.stepprograms.specs.declared.access.Answer.{Answer}
use Rattle.memorymap.specs.Chains.{address_sum}
use Rattle.memorymap.specs.Layouts.{Layout', IsLayout, head_place, cell_place, place_in}
use Rattle.posixmutex.specs.Objects.{acquires, held_limit}
use Rattle.posixmutex.specs.declared.object.Object.{Object}
use Rattle.robustlist.specs.declared.unlink.UnlinkRow.{UnlinkRow}
use Rattle.robustlist.specs.declared.unlink.UnlinkRow.TheVariants as out
use Rattle.robustlist.specs.Unlink.{unlink_access, unlink_at}
use Rattle.mutex.specs.declared.call.Call.{Call}
use Rattle.mutex.specs.declared.call.Call.TheVariants as call
use Rattle.mutex.specs.declared.row.Row.{Row}
use Rattle.mutex.specs.declared.row.Row.TheVariants as row
use Rattle.mutex.specs.declared.lock.LockRow.TheVariants as lock
use Rattle.mutex.specs.declared.try_lock.TryLockRow.TheVariants as try
use Rattle.mutex.specs.declared.unlock.UnlockRow.TheVariants as unlock
use Rattle.mutex.specs.declared.phase.Phase.{Phase}
use Rattle.mutex.specs.declared.phase.Phase.TheVariants.{Announcing, AtCell, Linking, Unlinking, Clearing, Ended}
use Rattle.mutex.specs.Calls.{mutex_of, operation_of}
use Rattle.mutex.specs.Programs.{row_access}
use Rattle.mutex.specs.Standings.{Whole}
use Rattle.mutex.specs.Whole as whole
use Rattle.mutex.specs.Whole.{first_phase, pending_place, phase_access, phase_led, whole_access, whole_led}
use Rattle.mutex.proofs.Addresses.{head_word_again}
use Rattle.condvar.specs.Ops as ops
use Rattle.condvar.specs.declared.op.Op.{Op}
use Rattle.condvar.specs.declared.op.Op.TheVariants.{OnMutex}
use Rattle.facts.specs.declared.fact.Queue.TheVariants.{Mutex}
use Rattle.protocol.specs.declared.event.Event.{Event}
use Rattle.protocol.specs.declared.event.Event.TheVariants.{Begin, Step}
use Rattle.protocol.specs.declared.note.Note.{Note}
use Rattle.protocol.specs.declared.thread.Stage.{Stage}
use Rattle.protocol.specs.declared.thread.Stage.TheVariants.{Idle, Calling}
use Rattle.protocol.specs.declared.thread.Thread.{Thread}
use Rattle.protocol.specs.Explained.{caller}
use Rattle.protocol.specs.Headline.{seen}
use Rattle.protocol.specs.Machine.{State, start, happens, run, nothing, begun, first_stage, stage_begun, may_begin, has_thread, stepped, sleeps, went, led, answer_of, stage_after, is_met, place_met, is_asleep, stands_in}
use Rattle.protocol.proofs.Kept.{Kept}
use Rattle.protocol.proofs.Puts.{put-same}
use Rattle.protocol.proofs.Queued.{Queued, in_none, out_awake}
use Rattle.protocol.proofs.QueueRuns.{queued_after, run_queued}
use Rattle.protocol.proofs.Runs.{sound, start_kept, run_kept, run_layout}
use Rattle.protocol.proofs.Seeing.{head_in, entry_in}
use Rattle.storebuffers.specs.Buffers.{Store, Buffered, Waits, stored, Way, way_of, way_at, way_by, is_noted, way, Happening, next, run_buffered, without_drains}
use Rattle.storebuffers.specs.Buffers.Way.{Keeps, Appends, Writes, Flushes}
use Rattle.storebuffers.specs.Buffers.Happening.{Happens}
use Rattle.storebuffers.specs.OwnWords.{AreOthers}
use Rattle.storebuffers.specs.LoadsFirst.{finds, IsNext, NobodyCrosses, AreOfOthers, begins_now, steps_now, IsLink, LockLoadsFirst, UnlockLoadsFirst, LoadsComeFirst, LoadsMayComeFirst}
use Rattle.storebuffers.proofs.Stores.{stored-out}
use Rattle.storebuffers.proofs.Owning.{IsOwn, own_no_cell, shared_apart}
use Rattle.storebuffers.proofs.Dying.{others_stand}
use Rattle.storebuffers.proofs.Alike.{Does, events_alike}
use Rattle.storebuffers.proofs.Holding.{Holds, buffered, IsUnwritten, views, cells, view_is, seen_same, own_moves, happens_so, runs_so, seen_is, cell_is, begins}
use Rattle.storebuffers.proofs.OwnWords.{all_stay}
use Rattle.storebuffers.proofs.NextLoads.{starts_at, starts_queues, stores_queue, awake_in, owner_there, Unlocks, unlock_looks, unlock_announces, unlock_loads, Rows, rows_of, in_lock, Locks, lock_announces, lock_looks, lock_takes_it}

-- ---- where a run with buffers is

-- it is the machine in state s, some of whose stores wait
pub record IsAt (b : Buffered) (s : State) : Type 0 where
  pub words : ℕ → ℕ
  pub waits : ℕ → List Store
  pub is : b ≡ buffered words waits s
  pub holds : Holds words waits s

pub at_run : (b : Buffered) (s : State) (hs : List Happening) → IsAt b s → IsAt (run_buffered b hs) (run s (without_drains hs))
at_run b s hs at =
    let ran = runs_so hs at.words at.waits s at.holds in
    record { words = ran.words; waits = ran.buffers; is = ap (λ (c : Buffered). run_buffered c hs) at.is ∙ ran.to; holds = ran.holds }

pub at_event : (b : Buffered) (s : State) (e : Event) → IsAt b s → IsAt (next b (Happens e)) (happens s e).state
at_event b s e at =
    let one = happens_so at.words at.waits s e at.holds in
    record { words = one.words; waits = one.buffers; is = ap (λ (c : Buffered). next c (Happens e)) at.is ∙ one.to; holds = one.holds }

-- an event that writes nothing leaves memory
pub memory_is : (b : Buffered) (s : State) (e : Event) → IsAt b s → IsUnwritten (way s e (happens s e).note) → (next b (Happens e)).memory.words ≡ b.memory.words
memory_is b s e at stays =
    let one = happens_so at.words at.waits s e at.holds in
    ap (λ (c : Buffered). (next c (Happens e)).memory.words) at.is
    ∙ ap (λ (c : Buffered). c.memory.words) one.to
    ∙ one.unwritten stays
    ∙ sym (ap (λ (c : Buffered). c.memory.words) at.is)

-- a thread finds all that it stored, and else memory
pub finds_all : (b : Buffered) (s : State) (t p : ℕ) (at : IsAt b s) → finds b t p ≡ stored (at.waits t) at.words p
finds_all b s t p at = ap (λ (c : Buffered). finds c t p) at.is ∙ ap (λ (f : ℕ → ℕ). f p) (view_is at.words (at.waits t) (s.threads t).stage (at.holds.dead t))

-- so of its own words, and of mutexes', what the machine without buffers has
pub finds_own : (b : Buffered) (s : State) (t p : ℕ) → IsAt b s → 1 ≤ t → t ≤ s.layout.threads → IsOwn s t p → finds b t p ≡ s.words p
finds_own b s t p at pos known own = finds_all b s t p at ∙ views at.words at.waits s at.holds t p (inl (pos, known, own))

pub finds_cell : (b : Buffered) (s : State) (t m : ℕ) (l : Layout') → IsAt b s → s.layout ≡ l → m < l.mutexes → finds b t (cell_place l m) ≡ s.words (cell_place l m)
finds_cell b s t m l at same inside =
    finds_all b s t (cell_place l m) at
    ∙ subst (λ (k : Layout'). m < k.mutexes → stored (at.waits t) at.words (cell_place k m) ≡ s.words (cell_place k m)) same (λ below. cells at.words at.waits s at.holds t m below) inside

-- a mutex's word in memory is the machine's
pub memory_cell : (b : Buffered) (s : State) (m : ℕ) (l : Layout') → IsAt b s → s.layout ≡ l → m < l.mutexes → b.memory.words (cell_place l m) ≡ s.words (cell_place l m)
memory_cell b s m l at same inside =
    ap (λ (c : Buffered). c.memory.words (cell_place l m)) at.is
    ∙ subst (λ (k : Layout'). m < k.mutexes → at.words (cell_place k m) ≡ s.words (cell_place k m)) same (λ below. cell_is at.words at.waits s at.holds m below) inside

pub stage_of : (b : Buffered) (s : State) (t : ℕ) → IsAt b s → (b.memory.threads t).stage ≡ (s.threads t).stage
stage_of b s t at = ap (λ (c : Buffered). (c.memory.threads t).stage) at.is

-- ---- what a thread's own event leaves of its words

-- it stores elsewhere, and releases nothing
abbrev pub Elsewhere : ℕ → Way → Type 0
Elsewhere p Keeps = Unit {0}
Elsewhere p (Appends xs) = Waits p xs → ⊥
Elsewhere p (Writes at) = Unit {0}
Elsewhere p Flushes = ⊥

pub word_by : (s : State) (t p : ℕ) (y : Way) (a b : ℕ → ℕ) → Does s t s.words y a b → 1 ≤ t → t ≤ s.layout.threads → IsOwn s t p → Elsewhere p y → b p ≡ s.words p
word_by s t p Keeps a b does pos known own far = does p
word_by s t p (Appends xs) a b (first, most, words, mine) pos known own far = words p ∙ stored-out xs s.words p far
word_by s t p (Writes at) a b (shared, same, elsewhere) pos known own far = elsewhere p (λ e. shared_apart s t at pos known shared (subst (IsOwn s t) e own))
word_by s t p Flushes a b does pos known own far = absurd far

pub cell_by : (s : State) (t m : ℕ) (y : Way) (a b : ℕ → ℕ) → Does s t s.words y a b → IsUnwritten y → m < s.layout.mutexes → b (cell_place s.layout m) ≡ s.words (cell_place s.layout m)
cell_by s t m Keeps a b does stays inside = does (cell_place s.layout m)
cell_by s t m (Appends xs) a b (pos, known, words, mine) stays inside =
    words (cell_place s.layout m) ∙ stored-out xs s.words (cell_place s.layout m) (λ there. own_no_cell s t _ m pos known inside (mine _ there) refl)
cell_by s t m y a b does stays inside = absurd stays

module _ (s : State) (e : Event) (inv : Kept s) where
  abbrev pub its : Way
  its = way s e (happens s e).note

  pub word_stays : (p : ℕ) → 1 ≤ caller e → caller e ≤ s.layout.threads → IsOwn s (caller e) p → Elsewhere p its → (happens s e).state.words p ≡ s.words p
  word_stays p pos known own far = word_by s (caller e) p its _ _ (events_alike s s.words e inv (λ q met. refl) (λ m inside. refl) (λ u first last dead. refl)).does pos known own far

  pub cell_stays : (m : ℕ) → IsUnwritten its → m < s.layout.mutexes → (happens s e).state.words (cell_place s.layout m) ≡ s.words (cell_place s.layout m)
  cell_stays m stays inside = cell_by s (caller e) m its _ _ (events_alike s s.words e inv (λ q met. refl) (λ k below. refl) (λ u first last dead. refl)).does stays inside

  pub own_stays : (p : ℕ) → IsUnwritten its → IsOwn s (caller e) p → IsOwn (happens s e).state (caller e) p
  own_stays p stays own = own_moves s (happens s e).state (caller e) p (sound s e inv).same
      (λ k owns. ap (λ (o : Object). o.owner) (seen_same s (happens s e).state k (sound s e inv).same (λ inside. cell_stays k stays inside)) ∙ owns) own

pub cell_stays_in : (s : State) (e : Event) (l : Layout') (m : ℕ) → Kept s → s.layout ≡ l → m < l.mutexes → IsUnwritten (way s e (happens s e).note) → (happens s e).state.words (cell_place l m) ≡ s.words (cell_place l m)
cell_stays_in s e l m inv same inside stays =
    subst (λ (k : Layout'). m < k.mutexes → (happens s e).state.words (cell_place k m) ≡ s.words (cell_place k m)) same (λ below. cell_stays s e inv m stays below) inside

-- whoever makes no event stands where it stood
pub all_stand : (s : State) (others : List Event) (u : ℕ) → Kept s → AreOthers u others → (run s others).threads u ≡ s.threads u
all_stand s [] u inv none = refl
all_stand s (e ∷ es) u inv (apart, rest) = all_stand (happens s e).state es u (sound s e inv).kept rest ∙ others_stand s e inv u apart

-- ---- the phases up to the loads

-- at the cell: where a lock or a trylock looks first, where it decides, and where an unlock looks, and releases
abbrev pub IsFirst : Row → Type 0
IsFirst (row.Lock lock.Load) = Unit {0}
IsFirst (row.TryLock try.Load) = Unit {0}
IsFirst r = ⊥

abbrev pub Takes : Row → Type 0
Takes (row.Lock r) = Unit {0}
Takes (row.TryLock r) = Unit {0}
Takes r = ⊥

abbrev pub IsAsked : Row → Type 0
IsAsked (row.Unlock unlock.Load) = Unit {0}
IsAsked r = ⊥

abbrev pub IsReleasing : Row → Type 0
IsReleasing (row.Unlock (unlock.Release d)) = Unit {0}
IsReleasing r = ⊥

-- a lock or a trylock, before its first, its second and its third access
abbrev pub Announces : Phase → Type 0
Announces (Announcing r) = IsFirst r
Announces f = ⊥

abbrev pub Looks : Phase → Type 0
Looks (Announcing r) = IsFirst r
Looks (AtCell r) = IsFirst r
Looks f = ⊥

abbrev pub Decides : Phase → Type 0
Decides (Announcing r) = Unit {0}
Decides (AtCell r) = Takes r
Decides (Clearing x) = Unit {0}
Decides f = ⊥

-- an unlock
abbrev pub Asks : Phase → Type 0
Asks (AtCell r) = IsAsked r
Asks f = ⊥

abbrev pub Leaves : Phase → Type 0
Leaves (Announcing r) = IsReleasing r
Leaves (AtCell r) = IsAsked r
Leaves (Clearing x) = Unit {0}
Leaves f = ⊥

abbrev pub Unlinks : Phase → Type 0
Unlinks (Announcing r) = IsReleasing r
Unlinks (AtCell r) = IsAsked r
Unlinks (Unlinking u d) = u.row ≡ out.LoadNext
Unlinks (Clearing x) = Unit {0}
Unlinks f = ⊥

-- all of these but where a lock decides: a load, or the store of the pending entry
abbrev pub IsLook : Row → Type 0
IsLook (row.Lock lock.Load) = Unit {0}
IsLook (row.TryLock try.Load) = Unit {0}
IsLook (row.Unlock unlock.Load) = Unit {0}
IsLook r = ⊥

abbrev pub Quiet : Phase → Type 0
Quiet (Announcing r) = Unit {0}
Quiet (AtCell r) = IsLook r
Quiet (Unlinking u d) = u.row ≡ out.LoadNext
Quiet (Clearing x) = Unit {0}
Quiet f = ⊥

pub first_look : (r : Row) → IsFirst r → IsLook r
first_look (row.Lock lock.Load) k = tt
first_look (row.TryLock try.Load) k = tt
first_look r k = absurd k

pub asked_look : (r : Row) → IsAsked r → IsLook r
asked_look (row.Unlock unlock.Load) k = tt
asked_look r k = absurd k

pub announces_quiet : (f : Phase) → Announces f → Quiet f
announces_quiet (Announcing r) k = tt
announces_quiet f k = absurd k

pub looks_quiet : (f : Phase) → Looks f → Quiet f
looks_quiet (Announcing r) k = tt
looks_quiet (AtCell r) k = first_look r k
looks_quiet f k = absurd k

pub asks_quiet : (f : Phase) → Asks f → Quiet f
asks_quiet (AtCell r) k = asked_look r k
asks_quiet f k = absurd k

pub leaves_quiet : (f : Phase) → Leaves f → Quiet f
leaves_quiet (Announcing r) k = tt
leaves_quiet (AtCell r) k = asked_look r k
leaves_quiet (Clearing x) k = tt
leaves_quiet f k = absurd k

pub unlinks_quiet : (f : Phase) → Unlinks f → Quiet f
unlinks_quiet (Announcing r) k = tt
unlinks_quiet (AtCell r) k = asked_look r k
unlinks_quiet (Unlinking u d) k = k
unlinks_quiet (Clearing x) k = tt
unlinks_quiet f k = absurd k

-- one after the other, or the call has returned
abbrev pub Onto : (Phase → Type 0) → Phase → Type 0
Onto Q (Ended x) = Unit {0}
Onto Q f = Q f

pub first_takes : (r : Row) → IsFirst r → Takes r
first_takes (row.Lock lock.Load) k = tt
first_takes (row.TryLock try.Load) k = tt
first_takes r k = absurd k

pub announces_more : (f : Phase) → Announces f → Looks f
announces_more (Announcing r) k = k
announces_more f k = absurd k

pub looks_more : (f : Phase) → Looks f → Decides f
looks_more (Announcing r) k = tt
looks_more (AtCell r) k = first_takes r k
looks_more f k = absurd k

pub asks_more : (f : Phase) → Asks f → Leaves f
asks_more (AtCell r) k = k
asks_more f k = absurd k

pub leaves_more : (f : Phase) → Leaves f → Unlinks f
leaves_more (Announcing r) k = k
leaves_more (AtCell r) k = k
leaves_more (Clearing x) k = tt
leaves_more f k = absurd k

pub announces_to : (p : Whole) (f : Phase) (a : Answer) → Announces f → Onto Looks (phase_led p f a).phase
announces_to p f a k = grind (arith)

pub looks_to : (p : Whole) (f : Phase) (a : Answer) → Looks f → Onto Decides (phase_led p f a).phase
looks_to p f a k = grind (arith)

pub asks_to : (p : Whole) (f : Phase) (a : Answer) → Asks f → Onto Leaves (phase_led p f a).phase
asks_to p f a k = grind (arith)

pub leaves_to : (p : Whole) (f : Phase) (a : Answer) → Leaves f → Onto Unlinks (phase_led p f a).phase
leaves_to p f a k = grind (arith)

-- ---- what their accesses do with the buffer

pub store_unwritten : (l : Layout') (t at v : ℕ) → IsUnwritten (way_of l t (access.Store at v))
store_unwritten l t at v = go (is_met l t (access.Store at v))
  where
    go : (b : Bool) → IsUnwritten (if b then Appends (record { at = place_met l t (access.Store at v); value = v } ∷ []) else Keeps)
    go true = tt
    go false = tt

pub store_elsewhere : (l : Layout') (t at v q : ℕ) → place_in l t at ≢ q → Elsewhere q (way_of l t (access.Store at v))
store_elsewhere l t at v q apart = go (is_met l t (access.Store at v))
  where
    go : (b : Bool) → Elsewhere q (if b then Appends (record { at = place_met l t (access.Store at v); value = v } ∷ []) else Keeps)
    go true = λ there. ⊎_elim apart (λ none. none) there
    go false = tt

pub look_keeps : (l : Layout') (u t cell : ℕ) (r : Row) → IsLook r → way_of l u (row_access t cell r) ≡ Keeps
look_keeps l u t cell (row.Lock lock.Load) k = refl
look_keeps l u t cell (row.TryLock try.Load) k = refl
look_keeps l u t cell (row.Unlock unlock.Load) k = refl
look_keeps l u t cell r k = absurd k

pub quiet_unwritten : (l : Layout') (t : ℕ) (p : Whole) (f : Phase) → Quiet f → IsUnwritten (way_of l t (phase_access p f))
quiet_unwritten l t p (Announcing r) k = store_unwritten l t (pending_place p.head) p.entry
quiet_unwritten l t p (AtCell r) k = subst IsUnwritten (sym (look_keeps l t p.thread p.cell r k)) tt
quiet_unwritten l t p (Unlinking u d) k = subst (λ (r : UnlinkRow). IsUnwritten (way_of l t (unlink_access u.head u.entry r))) (sym k) tt
quiet_unwritten l t p (Clearing x) k = store_unwritten l t (pending_place p.head) 0
quiet_unwritten l t p f k = absurd k

pub quiet_elsewhere : (l : Layout') (t q : ℕ) (p : Whole) (f : Phase) → place_in l t (pending_place p.head) ≢ q → Quiet f → Elsewhere q (way_of l t (phase_access p f))
quiet_elsewhere l t q p (Announcing r) apart k = store_elsewhere l t (pending_place p.head) p.entry q apart
quiet_elsewhere l t q p (AtCell r) apart k = subst (Elsewhere q) (sym (look_keeps l t p.thread p.cell r k)) tt
quiet_elsewhere l t q p (Unlinking u d) apart k = subst (λ (r : UnlinkRow). Elsewhere q (way_of l t (unlink_access u.head u.entry r))) (sym k) tt
quiet_elsewhere l t q p (Clearing x) apart k = store_elsewhere l t (pending_place p.head) 0 q apart
quiet_elsewhere l t q p f apart k = absurd k

-- a lock that decides stores the pending entry, or makes an access at the cell that is neither a store nor a release
pub takes_elsewhere : (l : Layout') (u t cell q : ℕ) (r : Row) → Takes r → Elsewhere q (way_of l u (row_access t cell r))
takes_elsewhere l u t cell q (row.Lock lock.Load) k = tt
takes_elsewhere l u t cell q (row.Lock (lock.Take c)) k = tt
takes_elsewhere l u t cell q (row.Lock (lock.SetWaiters c)) k = tt
takes_elsewhere l u t cell q (row.Lock (lock.Sleep c)) k = tt
takes_elsewhere l u t cell q (row.Lock lock.WakeAll) k = tt
takes_elsewhere l u t cell q (row.TryLock try.Load) k = tt
takes_elsewhere l u t cell q (row.TryLock (try.Take c n)) k = tt
takes_elsewhere l u t cell q r k = absurd k

pub decides_elsewhere : (l : Layout') (t q : ℕ) (p : Whole) (f : Phase) → place_in l t (pending_place p.head) ≢ q → Decides f → Elsewhere q (way_of l t (phase_access p f))
decides_elsewhere l t q p (Announcing r) apart k = store_elsewhere l t (pending_place p.head) p.entry q apart
decides_elsewhere l t q p (AtCell r) apart k = takes_elsewhere l t p.thread p.cell q r k
decides_elsewhere l t q p (Clearing x) apart k = store_elsewhere l t (pending_place p.head) 0 q apart
decides_elsewhere l t q p f apart k = absurd k

-- what holds of an event's way, and where it leaves the buffer
pub way_so : (R : Way → Type 0) (s : State) (e : Event) (n : Note) → R (way_by s e) → R Keeps → R (way s e n)
way_so R s e n on off = go (is_noted n)
  where
    go : (b : Bool) → R (if b then way_by s e else Keeps)
    go true = on
    go false = off

-- ---- stages

-- thread t is in no call, or in one on its own list, in such a phase
abbrev pub In : Layout' → ℕ → (Phase → Type 0) → Stage → Type 0
In l t P Idle = Unit {0}
In l t P (Calling o p) = (p.head ≡ head_in l t) × P p.phase
In l t P g = ⊥

pub lands : (l : Layout') (t : ℕ) (Q : Phase → Type 0) (o : Op) (p : Whole) (f : Phase) → p.head ≡ head_in l t → Onto Q f → In l t Q (stage_after o p f)
lands l t Q o p (Announcing r) head k = (head, k)
lands l t Q o p (AtCell r) head k = (head, k)
lands l t Q o p (Linking j x) head k = (head, k)
lands l t Q o p (Unlinking u d) head k = (head, k)
lands l t Q o p (Clearing x) head k = (head, k)
lands l t Q o p (Ended x) head k = tt

-- where a begin leads
pub begun_at : (s : State) (t : ℕ) (c : Call) (R : Stage → Type 0) → (s.threads t).stage ≡ Idle → R Idle → R (Calling (OnMutex c) (whole.begins s.layout t c)) → R ((happens s (Begin t (OnMutex c))).state.threads t).stage
begun_at s t c R rests none begins_so = go (may_begin s t (OnMutex c))
  where
    here : R (s.threads t).stage
    here = subst R (sym rests) none

    starts : (b : Bool) → R ((begun s t (OnMutex c) (stage_begun c (if b then Err XHELD else Ok (whole.begins s.layout t c)))).state.threads t).stage
    starts true = here
    starts false = subst R (sym (ap (λ (z : Thread). z.stage) (put-same s.threads t (record (s.threads t) { stage = Calling (OnMutex c) (whole.begins s.layout t c) })))) begins_so

    go : (b : Bool) → R ((if b then begun s t (OnMutex c) (first_stage s.layout t (s.threads t).held (OnMutex c)) else nothing s).state.threads t).stage
    go true = starts (acquires (operation_of c) && nat_le held_limit (s.threads t).held)
    go false = here

-- where a step of a call leads, or it sleeps
pub step_at : (s : State) (t : ℕ) (o : Op) (p : Whole) (R : Stage → Type 0) → (s.threads t).stage ≡ Calling o p → R (Calling o p) → ((a : Answer) → R (stage_after o p (whole_led p a).phase)) → R ((happens s (Step t)).state.threads t).stage
step_at s t o p R is stays goes = go (has_thread s t)
  where
    here : R (s.threads t).stage
    here = subst R (sym is) stays

    moves : (b : Bool) → R ((if b then nothing s else went s t (s.threads t).held (ops.mutex_of s.layout o) (Mutex (ops.mutex_of s.layout o)) (whole_access p) (led o p (whole_led p (answer_of s t (whole_access p))))).state.threads t).stage
    moves true = here
    moves false = subst R (sym (ap (λ (z : Thread). z.stage) (put-same s.threads t _))) (goes (answer_of s t (whole_access p)))

    go : (b : Bool) → R ((if b then stepped s t (s.threads t).held (s.threads t).stage else nothing s).state.threads t).stage
    go true = subst (λ (g : Stage). R ((stepped s t (s.threads t).held g).state.threads t).stage) (sym is) (moves (sleeps s t (Calling o p)))
    go false = here

pub idle_at : (s : State) (t : ℕ) (R : Stage → Type 0) → (s.threads t).stage ≡ Idle → R Idle → R ((happens s (Step t)).state.threads t).stage
idle_at s t R is rests = go (has_thread s t)
  where
    here : R (s.threads t).stage
    here = subst R (sym is) rests

    go : (b : Bool) → R ((if b then stepped s t (s.threads t).held (s.threads t).stage else nothing s).state.threads t).stage
    go true = subst (λ (g : Stage). R ((stepped s t (s.threads t).held g).state.threads t).stage) (sym is) here
    go false = here
