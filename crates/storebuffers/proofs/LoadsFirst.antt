-- Calls that load before they store.
use Rattle.std.proofs.Common.{◌≡◌, ◌≢◌, inl, inr, ⊎_elim, ℕ, ◌+◌, ◌<◌, ◌≤◌, Bool, true, false, ◌&&◌, Ok, Err, Some, List, [], ◌∷◌, refl, sym, ap, ◌∙◌, subst, arith}
use Rattle.std.specs.Prelude.{if◌then◌else◌, nat_le}
use Rattle.std.proofs.lemmas.Bool.Decides.{nat_tests}
use Rattle.lockword.specs.Cells.{fields_of}
use Rattle.lockword.specs.declared.reply.Reply.TheVariants.{XHELD}
use Rattle.stepprograms.specs.declared.access.Access.TheVariants as access
use Rattle.stepprograms.specs.declared.access.Answer.{Answer}
use Rattle.memorymap.specs.Chains.{address_sum}
use Rattle.memorymap.specs.Layouts.{Layout', IsLayout, head_place, cell_place, place_in}
use Rattle.posixmutex.specs.Objects.{acquires, held_limit}
use Rattle.posixmutex.specs.declared.object.Object.{Object}
use Rattle.robustlist.specs.declared.unlink.UnlinkRow.{UnlinkRow}
use Rattle.robustlist.specs.declared.unlink.UnlinkRow.TheVariants as out
use Rattle.robustlist.specs.Unlink.{unlink_access, unlink_at}
use Rattle.mutex.specs.declared.call.Call.{Call}
use Rattle.mutex.specs.declared.call.Call.TheVariants as call
use Rattle.mutex.specs.declared.row.Row.{Row}
use Rattle.mutex.specs.declared.row.Row.TheVariants as row
use Rattle.mutex.specs.declared.lock.LockRow.TheVariants as lock
use Rattle.mutex.specs.declared.try_lock.TryLockRow.TheVariants as try
use Rattle.mutex.specs.declared.unlock.UnlockRow.TheVariants as unlock
use Rattle.mutex.specs.declared.phase.Phase.{Phase}
use Rattle.mutex.specs.declared.phase.Phase.TheVariants.{Announcing, AtCell, Linking, Unlinking, Clearing, Ended}
use Rattle.mutex.specs.Calls.{mutex_of, operation_of}
use Rattle.mutex.specs.Programs.{row_access}
use Rattle.mutex.specs.Standings.{Whole}
use Rattle.mutex.specs.Whole as whole
use Rattle.mutex.specs.Whole.{first_phase, pending_place, phase_access, phase_led, whole_access, whole_led}
use Rattle.mutex.proofs.Addresses.{head_word_again}
use Rattle.condvar.specs.Ops as ops
use Rattle.condvar.specs.declared.op.Op.{Op}
use Rattle.condvar.specs.declared.op.Op.TheVariants.{OnMutex}
use Rattle.facts.specs.declared.fact.Queue.TheVariants.{Mutex}
use Rattle.protocol.specs.declared.event.Event.{Event}
use Rattle.protocol.specs.declared.event.Event.TheVariants.{Begin, Step}
use Rattle.protocol.specs.declared.note.Note.{Note}
use Rattle.protocol.specs.declared.thread.Stage.{Stage}
use Rattle.protocol.specs.declared.thread.Stage.TheVariants.{Idle, Calling}
use Rattle.protocol.specs.declared.thread.Thread.{Thread}
use Rattle.protocol.specs.Explained.{caller}
use Rattle.protocol.specs.Headline.{seen}
use Rattle.protocol.specs.Machine.{State, start, happens, run, nothing, begun, first_stage, stage_begun, may_begin, has_thread, stepped, sleeps, went, led, answer_of, stage_after, is_met, place_met, is_asleep, stands_in}
use Rattle.protocol.proofs.Kept.{Kept}
use Rattle.protocol.proofs.Puts.{put-same}
use Rattle.protocol.proofs.Queued.{Queued, in_none, out_awake}
use Rattle.protocol.proofs.QueueRuns.{queued_after, run_queued}
use Rattle.protocol.proofs.Runs.{sound, start_kept, run_kept, run_layout}
use Rattle.protocol.proofs.Seeing.{head_in, entry_in}
use Rattle.storebuffers.specs.Buffers.{Store, Buffered, Waits, stored, Way, way_of, way_at, way_by, is_noted, way, Happening, next, run_buffered, without_drains}
use Rattle.storebuffers.specs.Buffers.Way.{Keeps, Appends, Writes, Flushes}
use Rattle.storebuffers.specs.Buffers.Happening.{Happens}
use Rattle.storebuffers.specs.OwnWords.{AreOthers}
use Rattle.storebuffers.specs.LoadsFirst.{finds, IsNext, NobodyCrosses, AreOfOthers, begins_now, steps_now, IsLink, LockLoadsFirst, UnlockLoadsFirst, LoadsComeFirst, LoadsMayComeFirst}
use Rattle.storebuffers.proofs.Stores.{stored-out}
use Rattle.storebuffers.proofs.Owning.{IsOwn, own_no_cell, shared_apart}
use Rattle.storebuffers.proofs.Dying.{others_stand}
use Rattle.storebuffers.proofs.Alike.{Does, events_alike}
use Rattle.storebuffers.proofs.Holding.{Holds, buffered, IsUnwritten, views, cells, view_is, seen_same, own_moves, happens_so, runs_so, seen_is, cell_is, begins}
use Rattle.storebuffers.proofs.OwnWords.{all_stay}
use Rattle.storebuffers.proofs.NextLoads.{starts_at, starts_queues, stores_queue, awake_in, owner_there, Unlocks, unlock_looks, unlock_announces, unlock_loads, Rows, rows_of, in_lock, Locks, lock_announces, lock_looks, lock_takes_it}
use Rattle.storebuffers.proofs.EarlyLoads.{IsAt, at_run, at_event, memory_is, finds_all, finds_own, finds_cell, memory_cell, stage_of, Elsewhere, word_by, cell_by}
use Rattle.storebuffers.proofs.EarlyLoads.{its, word_stays, cell_stays, own_stays, cell_stays_in, all_stand, IsFirst, Takes, IsAsked, IsReleasing, Announces, Looks}
use Rattle.storebuffers.proofs.EarlyLoads.{Decides, Asks, Leaves, Unlinks, IsLook, Quiet, first_look, asked_look, announces_quiet, looks_quiet, asks_quiet, leaves_quiet}
use Rattle.storebuffers.proofs.EarlyLoads.{unlinks_quiet, Onto, first_takes, announces_more, looks_more, asks_more, leaves_more, announces_to, looks_to, asks_to, leaves_to, store_unwritten}
use Rattle.storebuffers.proofs.EarlyLoads.{store_elsewhere, look_keeps, quiet_unwritten, quiet_elsewhere, takes_elsewhere, decides_elsewhere, way_so, In, lands, begun_at, step_at, idle_at}

-- ---- one moment after the other

-- thread t is in such a phase, or in no call, and these of its own words are as they were in state s0
record Stands (l : Layout') (t : ℕ) (s0 : State) (Mine : ℕ → Type 0) (P : Phase → Type 0) (s : State) : Type 0 where
  kept : Kept s
  same : s.layout ≡ l
  at : In l t P (s.threads t).stage
  words : (q : ℕ) → Mine q → s.words q ≡ s0.words q
  own : (q : ℕ) → Mine q → IsOwn s t q

module _ (l : Layout') (t : ℕ) (s0 : State) (Mine : ℕ → Type 0) (is : IsLayout l) (pos : 1 ≤ t) (known : t ≤ l.threads) where
  known_in : (s : State) → s.layout ≡ l → t ≤ s.layout.threads
  known_in s same = subst (λ (k : Layout'). t ≤ k.threads) (sym same) known

  then_stands : (P Q : Phase → Type 0) (s s' : State) → Stands l t s0 Mine P s → Kept s' → s'.layout ≡ s.layout → ((q : ℕ) → Mine q → (s'.words q ≡ s.words q) × IsOwn s' t q) → In l t Q (s'.threads t).stage → Stands l t s0 Mine Q s'
  then_stands P Q s s' st kept same mine at = record { kept = kept; same = same ∙ st.same; at = at; words = λ q m. (mine q m).0 ∙ st.words q m; own = λ q m. (mine q m).1 }

  others_do : (P : Phase → Type 0) (s : State) (others : List Event) → AreOthers t others → Stands l t s0 Mine P s → Stands l t s0 Mine P (run s others)
  others_do P s others none st = then_stands P P s (run s others) st (run_kept s others st.kept) (run_layout s others st.kept)
      (λ q m. all_stay t q pos s others st.kept (known_in s st.same) none (st.own q m))
      (subst (λ (z : Thread). In l t P z.stage) (sym (all_stand s others t st.kept none)) st.at)

  begins_so : (Q : Phase → Type 0) (c : Call) → Kept s0 → s0.layout ≡ l → (s0.threads t).stage ≡ Idle → ((q : ℕ) → Mine q → IsOwn s0 t q) → Q (first_phase c) → Stands l t s0 Mine Q (happens s0 (Begin t (OnMutex c))).state
  begins_so Q c inv same rests own first = record {
    kept = (sound s0 (Begin t (OnMutex c)) inv).kept;
    same = (sound s0 (Begin t (OnMutex c)) inv).same ∙ same;
    at = begun_at s0 t c (In l t Q) rests tt (ap (λ (k : Layout'). head_in k t) same, first);
    words = λ q m. word_stays s0 (Begin t (OnMutex c)) inv q pos (known_in s0 same) (own q m) (way_so (Elsewhere q) s0 (Begin t (OnMutex c)) _ tt tt);
    own = λ q m. own_stays s0 (Begin t (OnMutex c)) inv q (way_so IsUnwritten s0 (Begin t (OnMutex c)) _ tt tt) (own q m);
  }

  -- what holds of the way of its step
  way_in : (R : Way → Type 0) (P : Phase → Type 0) (s : State) → Stands l t s0 Mine P s → R Keeps → ((p : Whole) → p.head ≡ head_in l t → P p.phase → R (way_of l t (whole_access p))) → R (way s (Step t) (happens s (Step t)).note)
  way_in R P s st keeps calls = way_so R s (Step t) (happens s (Step t)).note (subst (λ (k : Layout'). R (way_at k t (s.threads t).stage)) (sym st.same) (go (s.threads t).stage st.at)) keeps
    where
      go : (g : Stage) → In l t P g → R (way_at l t g)
      go Idle k = keeps
      go (Calling o p) (head, k) = calls p head k
      go g k = absurd k

  pending_at : (p : Whole) (q : ℕ) → p.head ≡ head_in l t → q ≢ head_place t + 2 → place_in l t (pending_place p.head) ≢ q
  pending_at p q head apart e = apart (sym e ∙ ap (λ (z : ℕ). place_in l t (address_sum z 2)) head ∙ head_word_again l t is pos known 2 (omega arith))

  unwritten_in : (P : Phase → Type 0) (s : State) → ((f : Phase) → P f → Quiet f) → Stands l t s0 Mine P s → IsUnwritten (way s (Step t) (happens s (Step t)).note)
  unwritten_in P s quiet st = way_in IsUnwritten P s st tt (λ p head k. quiet_unwritten l t p p.phase (quiet p.phase k))

  elsewhere_in : (P : Phase → Type 0) (s : State) (q : ℕ) → ((f : Phase) → P f → Quiet f) → q ≢ head_place t + 2 → Stands l t s0 Mine P s → Elsewhere q (way s (Step t) (happens s (Step t)).note)
  elsewhere_in P s q quiet apart st = way_in (Elsewhere q) P s st tt (λ p head k. quiet_elsewhere l t q p p.phase (pending_at p q head apart) (quiet p.phase k))

  stage_in : (P Q : Phase → Type 0) (s : State) (g : Stage) → ((f : Phase) → P f → Q f) → ((p : Whole) (f : Phase) (a : Answer) → P f → Onto Q (phase_led p f a).phase) → (s.threads t).stage ≡ g → In l t P g → In l t Q ((happens s (Step t)).state.threads t).stage
  stage_in P Q s Idle more moves at k = idle_at s t (In l t Q) at tt
  stage_in P Q s (Calling o p) more moves at (head, k) = step_at s t o p (In l t Q) at (head, more p.phase k) (λ a. lands l t Q o p (whole_led p a).phase head (moves p p.phase a k))
  stage_in P Q s g more moves at k = absurd k

  -- its own words after a quiet step
  words_then : (P : Phase → Type 0) (s : State) → ((f : Phase) → P f → Quiet f) → ((q : ℕ) → Mine q → q ≢ head_place t + 2) → Stands l t s0 Mine P s → (q : ℕ) → Mine q → ((happens s (Step t)).state.words q ≡ s.words q) × IsOwn (happens s (Step t)).state t q
  words_then P s quiet apart st q m = (
    word_stays s (Step t) st.kept q pos (known_in s st.same) (st.own q m) (elsewhere_in P s q quiet (apart q m) st),
    own_stays s (Step t) st.kept q (unwritten_in P s quiet st) (st.own q m),
  )

  step_so : (P Q : Phase → Type 0) (s : State) → ((f : Phase) → P f → Quiet f) → ((f : Phase) → P f → Q f) → ((p : Whole) (f : Phase) (a : Answer) → P f → Onto Q (phase_led p f a).phase) → ((q : ℕ) → Mine q → q ≢ head_place t + 2) → Stands l t s0 Mine P s → Stands l t s0 Mine Q (happens s (Step t)).state
  step_so P Q s quiet more moves apart st = then_stands P Q s (happens s (Step t)).state st (sound s (Step t) st.kept).kept (sound s (Step t) st.kept).same (words_then P s quiet apart st) (stage_in P Q s (s.threads t).stage more moves refl st.at)

-- ---- a lock, and a trylock

first_of : (c : Call) → acquires (operation_of c) ≡ true → Announces (first_phase c)
first_of (call.Lock m) takes = tt
first_of (call.TimedLock m) takes = tt
first_of (call.TryLock m) takes = tt
first_of (call.Unlock m) takes = absurd (cc takes)
first_of (call.Consistent m) takes = absurd (cc takes)

module _ (w : ℕ → ℕ) (waits : ℕ → List Store) (s : State) (h : Holds w waits s) (queued : Queued s) (t : ℕ) (pos : 1 ≤ t) (known : t ≤ s.layout.threads) (rests : (s.threads t).stage ≡ Idle) where
  abbrev l : Layout'
  l = s.layout

  abbrev b : Buffered
  b = buffered w waits s

  at : IsAt b s
  at = record { words = w; waits = waits; is = refl; holds = h }

  module _ (c : Call) (others more : List Happening) (takes : acquires (operation_of c) ≡ true) (inside : mutex_of c < s.layout.mutexes) (none : AreOfOthers t others) (never : AreOfOthers t more) where
    abbrev Head : ℕ → Type 0
    Head q = q ≡ head_place t

    abbrev begin : Event
    begin = Begin t (OnMutex c)

    abbrev s1 : State
    s1 = (happens s begin).state

    abbrev s2 : State
    s2 = (happens s1 (Step t)).state

    abbrev s3 : State
    s3 = (happens s2 (Step t)).state

    abbrev s4 : State
    s4 = run s3 (without_drains others)

    abbrev s5 : State
    s5 = (happens s4 (Step t)).state

    abbrev s6 : State
    s6 = run s5 (without_drains more)

    at1 : IsAt (begins_now b t c) s1
    at1 = at_event b s begin at

    at2 : IsAt (steps_now (begins_now b t c) t) s2
    at2 = at_event (begins_now b t c) s1 (Step t) at1

    at3 : IsAt (steps_now (steps_now (begins_now b t c) t) t) s3
    at3 = at_event (steps_now (begins_now b t c) t) s2 (Step t) at2

    at4 : IsAt (run_buffered (steps_now (steps_now (begins_now b t c) t) t) others) s4
    at4 = at_run (steps_now (steps_now (begins_now b t c) t) t) s3 others at3

    at6 : IsAt (run_buffered (steps_now (run_buffered (steps_now (steps_now (begins_now b t c) t) t) others) t) more) s6
    at6 = at_run (steps_now (run_buffered (steps_now (steps_now (begins_now b t c) t) t) others) t) s5 more (at_event (run_buffered (steps_now (steps_now (begins_now b t c) t) t) others) s4 (Step t) at4)

    -- the pending word is another
    apart : (q : ℕ) → Head q → q ≢ head_place t + 2
    apart q head e = omega (arith, head, e)

    head_own : (s' : State) → IsOwn s' t (head_place t)
    head_own s' = inl (inl refl)

    heads_own : (s' : State) (q : ℕ) → Head q → IsOwn s' t q
    heads_own s' q head = inl (inl head)

    st1 : Stands l t s Head Announces s1
    st1 = begins_so l t s Head h.kept.layout pos known Announces c h.kept refl rests (heads_own s) (first_of c takes)

    st2 : Stands l t s Head Looks s2
    st2 = step_so l t s Head h.kept.layout pos known Announces Looks s1 announces_quiet announces_more announces_to apart st1

    st3 : Stands l t s Head Decides s3
    st3 = step_so l t s Head h.kept.layout pos known Looks Decides s2 looks_quiet looks_more looks_to apart st2

    st4 : Stands l t s Head Decides s4
    st4 = others_do l t s Head h.kept.layout pos known Decides s3 (without_drains others) none st3

    known4 : t ≤ s4.layout.threads
    known4 = known_in l t s Head h.kept.layout pos known s4 st4.same

    -- the exchange, or what else it does at the cell, leaves its first entry
    decided : s5.words (head_place t) ≡ s4.words (head_place t)
    decided = word_stays s4 (Step t) st4.kept (head_place t) pos known4 (head_own s4)
        (way_in l t s Head h.kept.layout pos known (Elsewhere (head_place t)) Decides s4 st4 tt
        (λ p head k. decides_elsewhere l t (head_place t) p p.phase (pending_at l t s Head h.kept.layout pos known p (head_place t) head (apart (head_place t) refl)) k))

    kept5 : Kept s5
    kept5 = (sound s4 (Step t) st4.kept).kept

    same5 : s5.layout ≡ l
    same5 = (sound s4 (Step t) st4.kept).same ∙ st4.same

    known5 : t ≤ s5.layout.threads
    known5 = known_in l t s Head h.kept.layout pos known s5 same5

    known6 : t ≤ s6.layout.threads
    known6 = known_in l t s Head h.kept.layout pos known s6 (run_layout s5 (without_drains more) kept5 ∙ same5)

    before : finds b t (head_place t) ≡ s.words (head_place t)
    before = finds_own b s t (head_place t) at pos known (head_own s)

    quiet0 : IsUnwritten (way s begin (happens s begin).note)
    quiet0 = way_so IsUnwritten s begin (happens s begin).note tt tt

    quiet1 : IsUnwritten (way s1 (Step t) (happens s1 (Step t)).note)
    quiet1 = unwritten_in l t s Head h.kept.layout pos known Announces s1 announces_quiet st1

    quiet2 : IsUnwritten (way s2 (Step t) (happens s2 (Step t)).note)
    quiet2 = unwritten_in l t s Head h.kept.layout pos known Looks s2 looks_quiet st2

    -- where nobody crosses it, it is to load the first entry then
    abbrev word : ℕ
    word = w (cell_place l (mutex_of c))

    queued1 : Queued s1
    queued1 = queued_after s (begin ∷ []) h.kept queued

    queued4 : Queued s4
    queued4 = queued_after s3 (without_drains others) st3.kept (queued_after s1 (Step t ∷ (Step t ∷ [])) st1.kept queued1)

    known1 : t ≤ s1.layout.threads
    known1 = known_in l t s Head h.kept.layout pos known s1 st1.same

    cell2 : s2.words (cell_place l (mutex_of c)) ≡ s.words (cell_place l (mutex_of c))
    cell2 = cell_stays_in s1 (Step t) l (mutex_of c) st1.kept st1.same inside quiet1 ∙ cell_stays_in s begin l (mutex_of c) h.kept refl inside quiet0

    module _ (alone : NobodyCrosses b t c others) where
      rows : Rows c t word
      rows = rows_of c t word takes pos alone.free alone.usable

      room : (acquires (operation_of c) && nat_le held_limit (s.threads t).held) ≡ false
      room = let few : (s.threads t).held < 2048 = alone.room in grind (arith, nat_tests)

      begun1 : Locks c t word rows l s1 (Announcing rows.look)
      begun1 = starts_at s t pos known c rests inside room ∙ ap (Calling (OnMutex c)) (rows.begins l)

      awake1 : is_asleep s1 t ≡ false
      awake1 = awake_in s1 t pos known1 queued1 (OnMutex c) (in_lock c t word rows l (Announcing rows.look)) begun1 (λ e. absurd (cc e))

      awake2 : is_asleep s2 t ≡ false
      awake2 = out_awake s2 t (λ key.
          ap (stands_in t) (stores_queue s1 t pos known1 st1.kept (OnMutex c) (in_lock c t word rows l (Announcing rows.look)) _ _ begun1 awake1 refl key
          ∙ ap (λ (qs : ℕ → List ℕ). qs key) (starts_queues s t pos known c rests inside room))
          ∙ in_none s t queued (ap (sleeps s t) rests) key)

      taken4 : Locks c t word rows l s4 (AtCell rows.take)
      taken4 =
          ap (λ (z : Thread). z.stage) (all_stand s3 (without_drains others) t st3.kept none)
          ∙ lock_looks l c t word rows h.kept.layout pos known inside s2 st2.kept st2.same awake2 (cell2 ∙ sym (cell_is w waits s h (mutex_of c) inside))
          (lock_announces l c t word rows h.kept.layout pos known inside s1 st1.kept st1.same awake1 begun1)

      next_loads : IsNext (run_buffered (steps_now (run_buffered (steps_now (steps_now (begins_now b t c) t) t) others) t) more) t (access.Load (head_in l t))
      next_loads = (
        OnMutex c,
        _,
        stage_of _ s6 t at6 ∙ ap (λ (z : Thread). z.stage) (all_stand s5 (without_drains more) t kept5 never)
            ∙ lock_takes_it l c t word rows h.kept.layout pos known inside s4 st4.kept st4.same
            (awake_in s4 t pos known4 queued4 (OnMutex c) (in_lock c t word rows l (AtCell rows.take)) taken4 rows.is_no_look)
            (sym (memory_cell _ s4 (mutex_of c) l at4 st4.same inside) ∙ alone.same) taken4,
        refl,
      )

    lock_loads_first : LockLoadsFirst b t c others more
    lock_loads_first = record {
      cell = finds_cell (steps_now (begins_now b t c) t) s2 t (mutex_of c) l at2 st2.same inside
          ∙ cell_stays_in s1 (Step t) l (mutex_of c) st1.kept st1.same inside quiet1
          ∙ cell_stays_in s begin l (mutex_of c) h.kept refl inside quiet0
          ∙ sym (finds_cell b s t (mutex_of c) l at refl inside);
      unstored = memory_is (steps_now (begins_now b t c) t) s2 (Step t) at2 quiet2 ∙ memory_is (begins_now b t c) s1 (Step t) at1 quiet1 ∙ memory_is b s begin at quiet0;
      meanwhile = finds_own _ s4 t (head_place t) at4 pos known4 (head_own s4) ∙ st4.words (head_place t) refl ∙ sym before;
      first = finds_own _ s6 t (head_place t) at6 pos known6 (head_own s6)
          ∙ (all_stay t (head_place t) pos s5 (without_drains more) kept5 known5 never (head_own s5)).0
          ∙ decided ∙ st4.words (head_place t) refl ∙ sym before;
      loads = λ alone. next_loads alone;
    }

  -- ---- an unlock
  module _ (m : ℕ) (others more last : List Happening) (inside : m < s.layout.mutexes) (owns : (seen s m).owner ≡ Some t) (none : AreOfOthers t others) (never : AreOfOthers t more) (neither : AreOfOthers t last) where
    abbrev Link : ℕ → Type 0
    Link q = IsLink s.layout m q

    abbrev leaves : Event
    leaves = Begin t (OnMutex (call.Unlock m))

    abbrev u1 : State
    u1 = (happens s leaves).state

    abbrev u2 : State
    u2 = (happens u1 (Step t)).state

    abbrev u3 : State
    u3 = run u2 (without_drains others)

    abbrev u4 : State
    u4 = (happens u3 (Step t)).state

    abbrev u5 : State
    u5 = run u4 (without_drains more)

    abbrev u6 : State
    u6 = (happens u5 (Step t)).state

    abbrev u7 : State
    u7 = run u6 (without_drains last)

    abbrev b3 : Buffered
    b3 = run_buffered (steps_now (begins_now b t (call.Unlock m)) t) others

    abbrev b5 : Buffered
    b5 = run_buffered (steps_now b3 t) more

    on1 : IsAt (begins_now b t (call.Unlock m)) u1
    on1 = at_event b s leaves at

    on3 : IsAt b3 u3
    on3 = at_run (steps_now (begins_now b t (call.Unlock m)) t) u2 others (at_event (begins_now b t (call.Unlock m)) u1 (Step t) on1)

    on5 : IsAt b5 u5
    on5 = at_run (steps_now b3 t) u4 more (at_event b3 u3 (Step t) on3)

    on7 : IsAt (run_buffered (steps_now b5 t) last) u7
    on7 = at_run (steps_now b5 t) u6 last (at_event b5 u5 (Step t) on5)

    far : (q : ℕ) → Link q → q ≢ head_place t + 2
    far q (inl link) e = omega (arith, link, e)
    far q (inr link) e = omega (arith, link, e)

    link_own : (q : ℕ) → Link q → IsOwn s t q
    link_own q link = inl (inr (inr (m, inside, link, owns)))

    su1 : Stands l t s Link Asks u1
    su1 = begins_so l t s Link h.kept.layout pos known Asks (call.Unlock m) h.kept refl rests link_own tt

    su2 : Stands l t s Link Leaves u2
    su2 = step_so l t s Link h.kept.layout pos known Asks Leaves u1 asks_quiet asks_more asks_to far su1

    su3 : Stands l t s Link Leaves u3
    su3 = others_do l t s Link h.kept.layout pos known Leaves u2 (without_drains others) none su2

    su4 : Stands l t s Link Unlinks u4
    su4 = step_so l t s Link h.kept.layout pos known Leaves Unlinks u3 leaves_quiet leaves_more leaves_to far su3

    su5 : Stands l t s Link Unlinks u5
    su5 = others_do l t s Link h.kept.layout pos known Unlinks u4 (without_drains more) never su4

    kept6 : Kept u6
    kept6 = (sound u5 (Step t) su5.kept).kept

    same6 : u6.layout ≡ l
    same6 = (sound u5 (Step t) su5.kept).same ∙ su5.same

    then6 : (q : ℕ) → Link q → (u6.words q ≡ u5.words q) × IsOwn u6 t q
    then6 q link = words_then l t s Link h.kept.layout pos known Unlinks u5 unlinks_quiet far su5 q link

    then7 : (q : ℕ) → Link q → (u7.words q ≡ u6.words q) × IsOwn u7 t q
    then7 q link = all_stay t q pos u6 (without_drains last) kept6 (known_in l t s Link h.kept.layout pos known u6 same6) neither (then6 q link).1

    was : (q : ℕ) → Link q → finds b t q ≡ s.words q
    was q link = finds_own b s t q at pos known (link_own q link)

    -- what it is to load
    abbrev Stage_at : State → Phase → Type 0
    Stage_at s' f = Unlocks l t m s' f

    queued_u1 : Queued u1
    queued_u1 = queued_after s (leaves ∷ []) h.kept queued

    queued_u3 : Queued u3
    queued_u3 = queued_after u2 (without_drains others) su2.kept (queued_after u1 (Step t ∷ []) su1.kept queued_u1)

    queued_u5 : Queued u5
    queued_u5 = queued_after u4 (without_drains more) su4.kept (queued_after u3 (Step t ∷ []) su3.kept queued_u3)

    own1 : (fields_of (u1.words (cell_place l m))).owner ≡ t
    own1 = ap (λ (x : ℕ). (fields_of x).owner) (cell_stays_in s leaves l m h.kept refl inside (way_so IsUnwritten s leaves (happens s leaves).note tt tt)) ∙ owner_there s m t inside owns

    looked : (d : Bool) × Stage_at u2 (Announcing (row.Unlock (unlock.Release d)))
    looked = unlock_looks l t m h.kept.layout pos known inside u1 su1.kept queued_u1 su1.same own1 (starts_at s t pos known (call.Unlock m) rests inside refl)

    unlinks5 : Stage_at u5 (Unlinking (unlink_at (head_in l t) (entry_in l t m) out.LoadNext) looked.0)
    unlinks5 =
        ap (λ (z : Thread). z.stage) (all_stand u4 (without_drains more) t su4.kept never)
        ∙ unlock_announces l t m h.kept.layout pos known inside u3 su3.kept queued_u3 su3.same looked.0
        (ap (λ (z : Thread). z.stage) (all_stand u2 (without_drains others) t su2.kept none) ∙ looked.1)

    loads6 : (n : ℕ) × Stage_at u6 (Unlinking (unlink_at (head_in l t) (entry_in l t m) (out.LoadPrevious n)) looked.0)
    loads6 = unlock_loads l t m h.kept.layout pos known inside u5 su5.kept queued_u5 su5.same looked.0 unlinks5

    unlock_loads_first : UnlockLoadsFirst b t m others more last
    unlock_loads_first = record {
      unstored = memory_is b3 u3 (Step t) on3 (unwritten_in l t s Link h.kept.layout pos known Leaves u3 leaves_quiet su3);
      meanwhile = λ q link. finds_own b3 u3 t q on3 pos (known_in l t s Link h.kept.layout pos known u3 su3.same) (su3.own q link) ∙ su3.words q link ∙ sym (was q link);
      loads_next = λ q link. finds_own b5 u5 t q on5 pos (known_in l t s Link h.kept.layout pos known u5 su5.same) (su5.own q link) ∙ su5.words q link ∙ sym (was q link);
      loads_previous = λ q link. finds_own _ u7 t q on7 pos (known_in l t s Link h.kept.layout pos known u7 (run_layout u6 (without_drains last) kept6 ∙ same6)) (then7 q link).1
          ∙ (then7 q link).0 ∙ (then6 q link).0 ∙ su5.words q link ∙ sym (was q link);
      asks_next = (OnMutex (call.Unlock m), _, stage_of b5 u5 t on5 ∙ unlinks5, refl);
      asks_previous = (OnMutex (call.Unlock m), _, stage_of _ u7 t on7 ∙ ap (λ (z : Thread). z.stage) (all_stand u6 (without_drains last) t kept6 neither) ∙ loads6.1, refl);
    }

  come_first : LoadsComeFirst b t
  come_first = record {
    locks = λ c others more takes inside none never. lock_loads_first c others more takes inside none never;
    unlocks = λ m others more last inside owns none never neither. unlock_loads_first m others more last inside (sym (ap (λ (o : Object). o.owner) (seen_is w waits s h m)) ∙ owns) none never neither;
  }

pub loads_first : LoadsMayComeFirst
loads_first l counters before t is pos known rests =
    let s0 = start l counters in
    let ran = runs_so before s0.words (λ u. []) s0 (begins l counters is) in
    let there : t ≤ (run s0 (without_drains before)).layout.threads = subst (λ (k : Layout'). t ≤ k.threads) (sym (run_layout s0 (without_drains before) (start_kept l counters is))) known in
    subst (λ (b : Buffered). (b.memory.threads t).stage ≡ Idle → LoadsComeFirst b t) (sym ran.to)
    (λ stands. come_first ran.words ran.buffers (run s0 (without_drains before)) ran.holds (run_queued l counters (without_drains before) is) t pos there stands) rests
