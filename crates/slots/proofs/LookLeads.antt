-- Where a lock's look leads, whatever it finds: the thread is where the next row says.
use Rattle.std.proofs.Common.{◌≡◌, inl, inr, ℕ, ◌%◌, ◌^◌, ◌<◌, ◌≤◌, ◌==◌, Bool, true, false, Some, List, [], ◌∷◌, ◌++◌, refl, sym, ap, ◌∙◌, subst, arith}
use Rattle.std.specs.Prelude.{if◌then◌else◌}
use Rattle.lockword.specs.Cells.{Fields, fields_of, low_of}
use Rattle.lockword.specs.Coding.{word_of-fields_of}
use Rattle.lockword.specs.declared.reply.Reply.{Reply}
use Rattle.lockword.specs.declared.reply.Reply.TheVariants.{EBUSY, EDEADLK, EINVAL, ENOTRECOVERABLE, ETIMEDOUT}
use Rattle.posixmutex.specs.declared.point.Operation.TheVariants as operation
use Rattle.posixmutex.specs.declared.point.Operation.TheVariants.{Wait}
use Rattle.memorymap.specs.Layouts.{cell_place}
use Rattle.mutex.specs.declared.call.Call.TheVariants.{TimedLock, TryLock}
use Rattle.mutex.specs.declared.lock.LockRow.TheVariants as lock
use Rattle.mutex.specs.declared.phase.Phase.{Phase}
use Rattle.mutex.specs.declared.phase.Phase.TheVariants.{AtCell, Clearing}
use Rattle.mutex.specs.declared.row.Led.{Led}
use Rattle.mutex.specs.declared.row.Row.TheVariants.{Lock}
use Rattle.mutex.specs.Lock.{lock_sees}
use Rattle.mutex.specs.TryLock.{try_sees}
use Rattle.mutex.specs.Rows.{decides, ends}
use Rattle.mutex.specs.Standings.{Whole}
use Rattle.mutex.specs.Whole.{from_cell}
use Rattle.condvar.specs.declared.call.CondCall.{CondCall}
use Rattle.condvar.specs.Calls.{acts_as, condition_of}
use Rattle.condvar.specs.declared.op.Op.{Op}
use Rattle.condvar.specs.declared.op.Op.TheVariants.{OnMutex, OnCondition}
use Rattle.protocol.specs.declared.event.Event.{Event}
use Rattle.protocol.specs.declared.event.Event.TheVariants.{Step}
use Rattle.protocol.specs.declared.thread.Thread.{Thread}
use Rattle.protocol.specs.declared.thread.Stage.{Stage}
use Rattle.protocol.specs.declared.thread.Stage.TheVariants.{Calling}
use Rattle.protocol.specs.Machine.{State, held_after, stage_after, stands_in}
use Rattle.protocol.proofs.Kept.{Kept}
use Rattle.protocol.proofs.Seeing.{cell_in, cell_again}
use Rattle.slots.specs.Places.{cell_of}
use Rattle.slots.specs.Rows.{How, Row, Taking}
use Rattle.slots.specs.Rows.How.{Tried, Later, Waited}
use Rattle.slots.specs.Rows.Then.{ToSleep}
use Rattle.slots.specs.Stands.{RepliesAs, HasChosen, IsRetaking, IsThrough, IsToLook, IsToSleep, StandsAs}
use Rattle.slots.specs.Stands.RepliesAs.{Same}
use Rattle.slots.specs.Seen.{begins_behind, expires, owned_row, seen_events, seen_row, seen_to_sleep}
use Rattle.slots.proofs.Chains.{again_more, gives_up_more, sees_sleep_more}
use Rattle.slots.proofs.Leading.{IsAt, Leads, call_at, loads_more, on, op_of, stays}
use Rattle.slots.proofs.Meets.{Says, pends_in}
use Rattle.slots.proofs.Refusals.{sees_own, tries_owned, tries_unusable}
use Rattle.slots.proofs.Takes.{load_of}

-- these events change no word and no queue, and lead the thread to this row
abbrev pub Reaches : State → ℕ → List Event → Row → Type 0
Reaches s t es next = (ti : Thread) × Leads s t es s.words s.queues ti × StandsAs next ti.stage

sees_lost : (t : ℕ) (c : Fields) → c.unusable ≡ true → c.waiters ≡ true → lock_sees t c ≡ decides (Lock lock.WakeAll) ENOTRECOVERABLE
sees_lost t c lost waits = grind (arith)

sees_lost_alone : (t : ℕ) (c : Fields) → c.unusable ≡ true → c.waiters ≡ false → lock_sees t c ≡ ends ENOTRECOVERABLE
sees_lost_alone t c lost alone = grind (arith)

module _ (s : State) (t : ℕ) (k : Taking) (v : ℕ) (inv : Kept s) (pos : 1 ≤ t) (known : t ≤ s.layout.threads) (out : (key : ℕ) → stands_in t (s.queues key) ≡ false) (room : (s.threads t).held < 2048) (says : Says (s.words (cell_place s.layout (cell_of k.mutex))) v) where
  abbrev m : ℕ
  m = cell_of k.mutex

  abbrev h : ℕ
  h = (s.threads t).held

  abbrev w : ℕ
  w = s.words (cell_place s.layout m)

  -- the thread of a call at a phase
  abbrev at_phase : Op → Phase → Thread
  at_phase o f = on (Calling o (call_at s.layout t (op_of o) m f)) h

  from : (o : Op) (f : Phase) → IsAt s t o m f → Leads s t [] s.words s.queues (at_phase o f)
  from o f a = stays s t (Calling o (call_at s.layout t (op_of o) m f)) inv a.there

  -- a lock's look: of a call that acts as a lock
  module _ (es : List Event) (o : Op) (is : op_of o ≡ operation.Lock) (inside : m < s.layout.mutexes) (l : Leads s t es s.words s.queues (on (Calling o (call_at s.layout t operation.Lock m (AtCell (load_of true)))) h)) where
    abbrev here : Whole
    here = call_at s.layout t operation.Lock m (AtCell (load_of true))

    looks_to : (d : Led) (f : Phase) → lock_sees t (fields_of w) ≡ d → (from_cell here d).phase ≡ f → stage_after o here f ≡ Calling o (call_at s.layout t operation.Lock m f) → held_after h operation.Lock (from_cell here d).point ≡ h
        → Leads s t (es ++ Step t ∷ []) s.words s.queues (on (Calling o (call_at s.layout t operation.Lock m f)) h)
    looks_to d f sees phase stage held = loads_more s t es s.words s.queues o here h pos known l out (cell_in s.layout t m) (cell_place s.layout m) (from_cell here d) (on (Calling o (call_at s.layout t operation.Lock m f)) h)
        refl (cell_again s.layout t inv.layout pos known m inside) (ap (from_cell here) sees) (ap (stage_after o here) phase ∙ stage) held

    pub lost_wakes : (fields_of v).unusable ≡ true → (fields_of v).waiters ≡ true → Leads s t (es ++ Step t ∷ []) s.words s.queues (on (Calling o (call_at s.layout t operation.Lock m (AtCell (Lock lock.WakeAll)))) h)
    lost_wakes lost waits = looks_to (decides (Lock lock.WakeAll) ENOTRECOVERABLE) (AtCell (Lock lock.WakeAll)) (sees_lost t (fields_of w) (sym says.unusable ∙ lost) (sym says.waiters ∙ waits)) refl refl refl

    pub lost_clears : (fields_of v).unusable ≡ true → (fields_of v).waiters ≡ false → Leads s t (es ++ Step t ∷ []) s.words s.queues (on (Calling o (call_at s.layout t operation.Lock m (Clearing ENOTRECOVERABLE))) h)
    lost_clears lost alone = looks_to (ends ENOTRECOVERABLE) (Clearing ENOTRECOVERABLE) (sees_lost_alone t (fields_of w) (sym says.unusable ∙ lost) (sym says.waiters ∙ alone)) refl refl refl

    own_clears : (fields_of v).unusable ≡ false → ((fields_of v).owner == t) ≡ true → Leads s t (es ++ Step t ∷ []) s.words s.queues (on (Calling o (call_at s.layout t operation.Lock m (Clearing EDEADLK))) h)
    own_clears usable own = looks_to (ends EDEADLK) (Clearing EDEADLK) (sees_own t (fields_of w) (sym says.unusable ∙ usable) (ap (λ (n : ℕ). n == t) (sym says.owner) ∙ own)) refl refl refl

  -- a trylock's
  module _ (a : IsAt s t (OnMutex (TryLock m)) m (AtCell (load_of false))) where
    abbrev tried : Whole
    tried = call_at s.layout t operation.TryLock m (AtCell (load_of false))

    tries_to : (y : Reply) → try_sees 0 (fields_of w) ≡ ends y → from_cell tried (ends y) ≡ record { phase = Clearing y; point = Some y } → held_after h operation.TryLock (Some y) ≡ h → Leads s t (Step t ∷ []) s.words s.queues (at_phase (OnMutex (TryLock m)) (Clearing y))
    tries_to y sees leads held = loads_more s t [] s.words s.queues (OnMutex (TryLock m)) tried h pos known (from (OnMutex (TryLock m)) (AtCell (load_of false)) a) out (cell_in s.layout t m) (cell_place s.layout m) (record { phase = Clearing y; point = Some y }) (at_phase (OnMutex (TryLock m)) (Clearing y))
        refl (cell_again s.layout t inv.layout pos known m a.inside) (ap (from_cell tried) sees ∙ leads) refl held

    tried_lost : (fields_of v).unusable ≡ true → Leads s t (Step t ∷ []) s.words s.queues (at_phase (OnMutex (TryLock m)) (Clearing ENOTRECOVERABLE))
    tried_lost lost = tries_to ENOTRECOVERABLE (tries_unusable (fields_of w) (sym says.unusable ∙ lost)) refl refl

    tried_owned : (fields_of v).unusable ≡ false → ((fields_of v).owner == 0) ≡ false → Leads s t (Step t ∷ []) s.words s.queues (at_phase (OnMutex (TryLock m)) (Clearing EBUSY))
    tried_owned usable some = tries_to EBUSY (tries_owned (fields_of w) (sym says.unusable ∙ usable) (ap (λ (n : ℕ). n == 0) (sym says.owner) ∙ some)) refl refl

    -- and then the machine's lock begins, to wake all
    lock_begun : (fields_of v).unusable ≡ true → Leads s t (Step t ∷ begins_behind t (TimedLock m)) s.words s.queues (at_phase (OnMutex (TimedLock m)) (AtCell (load_of true)))
    lock_begun lost = again_more s t pos known inv.layout (Step t ∷ []) s.words s.queues h m true (OnMutex (TryLock m)) operation.TryLock m ENOTRECOVERABLE out (tried_lost lost) a.inside room (pends_in s t (OnMutex (TryLock m)) m (AtCell (load_of false)) inv pos known a)

    busy : IsThrough k.mutex Tried (Calling (OnMutex (TryLock m)) (call_at s.layout t operation.TryLock m (Clearing EBUSY)))
    busy = (call_at s.layout t operation.TryLock m (Clearing EBUSY), refl, refl)

    chooses_tried : k.how ≡ Tried → (b : Bool) → StandsAs (if b then Row.Clears k.mutex EINVAL else Row.Chooses k v) (Calling (OnMutex (TryLock m)) (call_at s.layout t operation.TryLock m (Clearing EBUSY)))
    chooses_tried is true = (OnMutex (TryLock m), call_at s.layout t operation.TryLock m (Clearing EBUSY), EBUSY, refl, refl, RepliesAs.CellsTrylock refl refl (inl refl))
    chooses_tried is false = subst (λ (i : How). HasChosen k i (fields_of v).waiters v (Calling (OnMutex (TryLock m)) (call_at s.layout t operation.TryLock m (Clearing EBUSY)))) (sym is) busy

    pub reach_tried : k.how ≡ Tried → Reaches s t (seen_events t k.mutex Tried v) (seen_row t k v)
    reach_tried is = go (fields_of v).unusable refl ((fields_of v).owner == 0) refl ((fields_of v).owner == t) (fields_of v).waiters refl
      where
        go : (a1 : Bool) → (fields_of v).unusable ≡ a1 → (b : Bool) → ((fields_of v).owner == 0) ≡ b → (e d : Bool) → (fields_of v).waiters ≡ d
            → Reaches s t (if a1 then (if d then Step t ∷ (begins_behind t (TimedLock m) ++ Step t ∷ []) else Step t ∷ []) else if b then [] else Step t ∷ [])
            (if a1 then (if d then Row.WakesAll k.mutex ENOTRECOVERABLE else Row.Clears k.mutex ENOTRECOVERABLE) else if b then Row.Takes k v else if e then Row.Clears k.mutex EDEADLK else owned_row k k.how v)
        go true lost b none e true waits = (_, lost_wakes (Step t ∷ begins_behind t (TimedLock m)) (OnMutex (TimedLock m)) refl a.inside (lock_begun lost) lost waits, inl (inr (inl (call_at s.layout t operation.Lock m (AtCell (Lock lock.WakeAll)), refl, refl)), refl))
        go true lost b none e false alone = (_, tried_lost lost, (OnMutex (TryLock m), call_at s.layout t operation.TryLock m (Clearing ENOTRECOVERABLE), ENOTRECOVERABLE, refl, refl, Same refl))
        go false usable true none e d waits = (_, from (OnMutex (TryLock m)) (AtCell (load_of false)) a, subst (λ (i : How). IsToLook k i (Calling (OnMutex (TryLock m)) tried)) (sym is) (tried, refl, refl))
        go false usable false some true d waits = (_, tried_owned usable some, (OnMutex (TryLock m), call_at s.layout t operation.TryLock m (Clearing EBUSY), EBUSY, refl, refl, RepliesAs.CellsTrylock refl refl (inr refl)))
        go false usable false some false d waits = (_, tried_owned usable some, subst (λ (i : How). StandsAs (owned_row k i v) (Calling (OnMutex (TryLock m)) (call_at s.layout t operation.TryLock m (Clearing EBUSY)))) (sym is) (chooses_tried is k.wrong))

  -- a lock's that has been to the slot, or has slept
  module _ (a : IsAt s t (OnMutex (TimedLock m)) m (AtCell (load_of true))) where
    abbrev o' : Op
    o' = OnMutex (TimedLock m)

    pub loaded : Leads s t [] s.words s.queues (at_phase o' (AtCell (load_of true)))
    loaded = from o' (AtCell (load_of true)) a

    pub gives_up : (fields_of v).unusable ≡ false → ((fields_of v).owner == 0) ≡ false → ((fields_of v).owner == t) ≡ false → (fields_of v).waiters ≡ true → Leads s t (expires t) s.words s.queues (at_phase o' (Clearing ETIMEDOUT))
    gives_up usable some other waits = gives_up_more s t pos known inv.layout [] s.words s.queues h m out a.inside loaded (sym says.unusable ∙ usable) (ap (λ (n : ℕ). n == t) (sym says.owner) ∙ other) (ap (λ (n : ℕ). n == 0) (sym says.owner) ∙ some) (sym says.waiters ∙ waits)

    chooses_later : k.how ≡ Later → (d : Bool) → (fields_of v).waiters ≡ d → (f : Stage) → HasChosen k Later d v f → StandsAs (owned_row k k.how v) f
    chooses_later is d waits f there = subst (λ (i : How). StandsAs (owned_row k i v) f) (sym is) (subst (λ (i : How). HasChosen k i (fields_of v).waiters v f) (sym is) (subst (λ (b : Bool). HasChosen k Later b v f) (sym waits) there))

    pub reach_later : k.how ≡ Later → Reaches s t (seen_events t k.mutex Later v) (seen_row t k v)
    reach_later is = go (fields_of v).unusable refl ((fields_of v).owner == 0) refl ((fields_of v).owner == t) refl (fields_of v).waiters refl
      where
        go : (a1 : Bool) → (fields_of v).unusable ≡ a1 → (b : Bool) → ((fields_of v).owner == 0) ≡ b → (e : Bool) → ((fields_of v).owner == t) ≡ e → (d : Bool) → (fields_of v).waiters ≡ d
            → Reaches s t (if a1 then Step t ∷ [] else if b then [] else if e then Step t ∷ [] else if d then expires t else [])
            (if a1 then (if d then Row.WakesAll k.mutex ENOTRECOVERABLE else Row.Clears k.mutex ENOTRECOVERABLE) else if b then Row.Takes k v else if e then Row.Clears k.mutex EDEADLK else owned_row k k.how v)
        go true lost b none e own true waits = (_, lost_wakes [] o' refl a.inside loaded lost waits, inl (inr (inl (call_at s.layout t operation.Lock m (AtCell (Lock lock.WakeAll)), refl, refl)), refl))
        go true lost b none e own false alone = (_, lost_clears [] o' refl a.inside loaded lost alone, (o', call_at s.layout t operation.Lock m (Clearing ENOTRECOVERABLE), ENOTRECOVERABLE, refl, refl, Same refl))
        go false usable true none e own d waits = (_, loaded, subst (λ (i : How). IsToLook k i (Calling o' (call_at s.layout t operation.Lock m (AtCell (load_of true))))) (sym is) (call_at s.layout t operation.Lock m (AtCell (load_of true)), refl, refl))
        go false usable false some true own d waits = (_, own_clears [] o' refl a.inside loaded usable own, (o', call_at s.layout t operation.Lock m (Clearing EDEADLK), EDEADLK, refl, refl, Same refl))
        go false usable false some false other true waits = (_, gives_up usable some other waits, chooses_later is true waits _ (call_at s.layout t operation.Lock m (Clearing ETIMEDOUT), refl, refl))
        go false usable false some false other false alone = (_, loaded, chooses_later is false alone _ (call_at s.layout t operation.Lock m (AtCell (load_of true)), refl, refl))

    -- it was at the slot, or has given it up
    pub reach_to_sleep : k.how ≡ Later → ((fields_of v).owner == t) ≡ false → Reaches s t (seen_events t k.mutex Later v) (seen_to_sleep k v)
    reach_to_sleep is other = go (fields_of v).unusable refl ((fields_of v).owner == 0) refl ((fields_of v).owner == t) other refl (fields_of v).waiters refl
      where
        go : (a1 : Bool) → (fields_of v).unusable ≡ a1 → (b : Bool) → ((fields_of v).owner == 0) ≡ b → (e : Bool) → e ≡ false → ((fields_of v).owner == t) ≡ e → (d : Bool) → (fields_of v).waiters ≡ d
            → Reaches s t (if a1 then Step t ∷ [] else if b then [] else if e then Step t ∷ [] else if d then expires t else [])
            (if a1 then (if d then Row.WakesAll k.mutex ENOTRECOVERABLE else Row.Clears k.mutex ENOTRECOVERABLE) else if b then Row.Takes k v else if d then Row.SleepsOn k v else Row.Marks k v ToSleep)
        go true lost b none e off own true waits = (_, lost_wakes [] o' refl a.inside loaded lost waits, inl (inr (inl (call_at s.layout t operation.Lock m (AtCell (Lock lock.WakeAll)), refl, refl)), refl))
        go true lost b none e off own false alone = (_, lost_clears [] o' refl a.inside loaded lost alone, (o', call_at s.layout t operation.Lock m (Clearing ENOTRECOVERABLE), ENOTRECOVERABLE, refl, refl, Same refl))
        go false usable true none e off own d waits = (_, loaded, subst (λ (i : How). IsToLook k i (Calling o' (call_at s.layout t operation.Lock m (AtCell (load_of true))))) (sym is) (call_at s.layout t operation.Lock m (AtCell (load_of true)), refl, refl))
        go false usable false some true off own d waits = absurd cc
        go false usable false some false off own true waits = (_, gives_up usable some own waits, subst (λ (i : How). IsToSleep k i v (Calling o' (call_at s.layout t operation.Lock m (Clearing ETIMEDOUT)))) (sym is) (call_at s.layout t operation.Lock m (Clearing ETIMEDOUT), refl, refl))
        go false usable false some false off own false alone = (_, loaded, subst (λ (i : How). HasChosen k i false v (Calling o' (call_at s.layout t operation.Lock m (AtCell (load_of true))))) (sym is) (call_at s.layout t operation.Lock m (AtCell (load_of true)), refl, refl))

  -- of the lock that ends a wait
  module _ (o : CondCall) (y : ℕ) (of : condition_of o ≡ y) (acts : acts_as o ≡ Wait) (a : IsAt s t (OnCondition o) m (AtCell (load_of true))) where
    abbrev it : Op
    it = OnCondition o

    waiting_load : Leads s t [] s.words s.queues (at_phase it (AtCell (load_of true)))
    waiting_load = from it (AtCell (load_of true)) a

    retakes_at : (f : Phase) → IsRetaking y f (Calling it (call_at s.layout t operation.Lock m f))
    retakes_at f = (o, call_at s.layout t operation.Lock m f, refl, of, acts, refl)

    low_seen : low_of (fields_of w) ≡ v % 2 ^ 32
    low_seen = ap (λ (n : ℕ). n % 2 ^ 32) (word_of-fields_of w) ∙ sym says.low

    chooses_waited : k.how ≡ Waited y → (d : Bool) → (fields_of v).waiters ≡ d → (f : Stage) → HasChosen k (Waited y) d v f → StandsAs (owned_row k k.how v) f
    chooses_waited is d waits f there = subst (λ (i : How). StandsAs (owned_row k i v) f) (sym is) (subst (λ (i : How). HasChosen k i (fields_of v).waiters v f) (sym is) (subst (λ (b : Bool). HasChosen k (Waited y) b v f) (sym waits) there))

    pub reach_waited : k.how ≡ Waited y → Reaches s t (seen_events t k.mutex (Waited y) v) (seen_row t k v)
    reach_waited is = go (fields_of v).unusable refl ((fields_of v).owner == 0) refl ((fields_of v).owner == t) refl (fields_of v).waiters refl
      where
        go : (a1 : Bool) → (fields_of v).unusable ≡ a1 → (b : Bool) → ((fields_of v).owner == 0) ≡ b → (e : Bool) → ((fields_of v).owner == t) ≡ e → (d : Bool) → (fields_of v).waiters ≡ d
            → Reaches s t (if a1 then Step t ∷ [] else if b then [] else if e then Step t ∷ [] else if d then Step t ∷ [] else [])
            (if a1 then (if d then Row.WakesAll k.mutex ENOTRECOVERABLE else Row.Clears k.mutex ENOTRECOVERABLE) else if b then Row.Takes k v else if e then Row.Clears k.mutex EDEADLK else owned_row k k.how v)
        go true lost b none e own true waits = (_, lost_wakes [] it refl a.inside waiting_load lost waits, inl (inr (inr (y, retakes_at (AtCell (Lock lock.WakeAll)))), refl))
        go true lost b none e own false alone = (_, lost_clears [] it refl a.inside waiting_load lost alone, (it, call_at s.layout t operation.Lock m (Clearing ENOTRECOVERABLE), ENOTRECOVERABLE, refl, refl, Same refl))
        go false usable true none e own d waits = (_, waiting_load, subst (λ (i : How). IsToLook k i (Calling it (call_at s.layout t operation.Lock m (AtCell (load_of true))))) (sym is) (retakes_at (AtCell (load_of true))))
        go false usable false some true own d waits = (_, own_clears [] it refl a.inside waiting_load usable own, (it, call_at s.layout t operation.Lock m (Clearing EDEADLK), EDEADLK, refl, refl, Same refl))
        go false usable false some false other true waits = (
          _,
          sees_sleep_more s t pos known inv.layout [] s.words s.queues h m it operation.Lock out a.inside waiting_load (sym says.unusable ∙ usable) (ap (λ (n : ℕ). n == t) (sym says.owner) ∙ other) (ap (λ (n : ℕ). n == 0) (sym says.owner) ∙ some) (sym says.waiters ∙ waits),
          chooses_waited is true waits _ (fields_of w, low_seen, retakes_at (AtCell (Lock (lock.Sleep (fields_of w))))),
        )
        go false usable false some false other false alone = (_, waiting_load, chooses_waited is false alone _ (retakes_at (AtCell (load_of true))))
