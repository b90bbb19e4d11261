-- Whatever a whole call is answered, its points but that of a lock are permitted for the cell that its first load met.
use Rattle.std.proofs.Common.{◌≡◌, ℕ, ◌≤◌, ◌==◌, inl, inr, Bool, true, false, not, Option, Some, None, List, [], ◌∷◌, refl, sym, ap, ◌∙◌, subst}
use Rattle.std.specs.Prelude.{◌++◌, All, if◌then◌else◌}
use Rattle.std.proofs.lemmas.List.Elements.{All-nil, All-cons, All-append}
use Rattle.lockword.specs.Cells.{Fields, fields_of}
use Rattle.lockword.specs.declared.reply.Reply.{Reply}
use Rattle.lockword.specs.declared.reply.Reply.TheVariants.{OK, EPERM, EFAULT, XFULL, XSTATE}
use Rattle.stepprograms.specs.declared.access.Answer.{Answer}
use Rattle.stepprograms.specs.declared.access.Answer.TheVariants.{Value, Stored, Again, Woken, Count, Counts}
use Rattle.posixmutex.specs.declared.point.Operation.TheVariants as operation
use Rattle.posixmutex.specs.declared.point.Point.{Point}
use Rattle.memorymap.specs.Layouts.{Layout'}
use Rattle.robustlist.specs.declared.unlink.UnlinkRow.{UnlinkRow}
use Rattle.robustlist.specs.declared.unlink.UnlinkRow.TheVariants as unlink
use Rattle.robustlist.specs.Standings.{UnlinkStanding}
use Rattle.robustlist.specs.Unlink.{unlink_moved}
use Rattle.mutex.specs.declared.phase.Phase.{Phase}
use Rattle.mutex.specs.declared.phase.Phase.TheVariants as phase
use Rattle.mutex.specs.Standings.{Whole}
use Rattle.mutex.specs.Laws.{points, IsPermitted}
use Rattle.mutex.specs.Whole as mutex
use Rattle.condvar.specs.declared.call.CondCall.{CondCall}
use Rattle.condvar.specs.declared.call.CondCall.TheVariants as call
use Rattle.condvar.specs.declared.wait.WaitRow.TheVariants as wait
use Rattle.condvar.specs.declared.signal.SignalRow.TheVariants as signal
use Rattle.condvar.specs.declared.broadcast.BroadcastRow.TheVariants as broadcast
use Rattle.condvar.specs.declared.row.CondRow.{CondRow}
use Rattle.condvar.specs.declared.row.CondRow.TheVariants.{Wait, Signal, Broadcast, Awake}
use Rattle.condvar.specs.declared.row.CondRow.TheVariants as cond
use Rattle.condvar.specs.declared.row.Decided.{Decided}
use Rattle.condvar.specs.declared.phase.CondPhase.{CondPhase}
use Rattle.condvar.specs.declared.phase.CondPhase.TheVariants.{AtWords, Announcing, Unlinking, Locking, Ended}
use Rattle.condvar.specs.declared.phase.CondOnward.{CondOnward}
use Rattle.condvar.specs.Rows.{goes, decides, ends, full}
use Rattle.condvar.specs.Standings.{CondWhole}
use Rattle.condvar.specs.Programs.{point_of, resume_of}
use Rattle.condvar.specs.Whole.{begins, after_words, from_words, from_lock, unlinked_at, phase_led, cond_led, cond_moved}
use Rattle.condvar.specs.Laws.{GoesOnFrom}
use Rattle.condvar.specs.WholeLaws.{points_after, first_met, IsPermittedFirst}
use Rattle.condvar.proofs.Replies.{permitted}

-- what a call that stands after its first load may decide yet, for the cell met there
abbrev RowMay : Fields → ℕ → CondRow → Type 0
RowMay c t (Wait wait.LoadCell) = ⊥
RowMay c t (Wait r) = IsPermitted c t operation.Unlock OK
RowMay c t (Signal signal.LoadCell) = ⊥
RowMay c t (Signal r) = IsPermitted c t operation.Signal OK × IsPermitted c t operation.Signal XFULL
RowMay c t (Broadcast broadcast.LoadCell) = ⊥
RowMay c t (Broadcast r) = IsPermitted c t operation.Broadcast OK × IsPermitted c t operation.Broadcast XFULL
RowMay c t r = Unit {0}

abbrev May : Fields → ℕ → CondPhase → Type 0
May c t (AtWords r) = RowMay c t r
May c t (Announcing s) = IsPermitted c t operation.Unlock OK
May c t (Unlinking u s) = IsPermitted c t operation.Unlock OK
May c t (Locking w) = w.operation ≡ operation.Lock
May c t (Ended x) = Unit {0}

-- what an answer leads to: points that are permitted, and what may be decided then
abbrev Goes : Fields → ℕ → CondOnward → Type 0
Goes c t o = All (IsPermittedFirst t (Some c)) (points o.point) × May c t o.phase

none : (c : Fields) (t : ℕ) → All (IsPermittedFirst t (Some c)) []
none c t = All-nil (IsPermittedFirst t (Some c))

one : (c : Fields) (t : ℕ) (q : Point) → IsPermittedFirst t (Some c) q → All (IsPermittedFirst t (Some c)) (q ∷ [])
one c t q h = All-cons (IsPermittedFirst t (Some c)) q [] h (none c t)

signal_counts : (c : Fields) (t : ℕ) (p : CondWhole) (b : Bool) → IsPermitted c t operation.Signal OK × IsPermitted c t operation.Signal XFULL → Goes c t (from_words p (if b then ends operation.Signal XFULL else goes (Signal signal.Count)))
signal_counts c t p true m = (one c t _ (inr m.1), tt)
signal_counts c t p false m = (none c t, m)

broadcast_counts : (c : Fields) (t s : ℕ) (p : CondWhole) (b : Bool) → IsPermitted c t operation.Broadcast OK × IsPermitted c t operation.Broadcast XFULL → Goes c t (from_words p (if b then ends operation.Broadcast XFULL else goes (Broadcast (broadcast.Count s))))
broadcast_counts c t s p true m = (one c t _ (inr m.1), tt)
broadcast_counts c t s p false m = (none c t, m)

releases : (c : Fields) (t s : ℕ) (p : CondWhole) (b : Bool) → IsPermitted c t operation.Unlock OK → Goes c t (from_words p (decides (if b then Wait (wait.Wake s) else Wait (wait.Sleep s)) operation.Unlock OK))
releases c t s p true m = (one c t _ (inr m), m)
releases c t s p false m = (one c t _ (inr m), m)

-- each row after the first load, each answer
words : (c : Fields) (t : ℕ) (p : CondWhole) (r : CondRow) (a : Answer) → RowMay c t r → Goes c t (from_words p (resume_of p.thread r a))
words c t p (Wait wait.LoadCell) a m = absurd m
words c t p (Wait wait.LoadCounter) (Value s) m = (none c t, m)
words c t p (Wait wait.LoadCounter) a m = (none c t, tt)
words c t p (Wait (wait.Release s)) (Value w) m = releases c t s p (fields_of w).waiters m
words c t p (Wait (wait.Release s)) a m = (none c t, tt)
words c t p (Wait (wait.Wake s)) (Count n) m = (none c t, m)
words c t p (Wait (wait.Wake s)) a m = (none c t, tt)
words c t p (Wait (wait.Sleep s)) Again m = (none c t, refl)
words c t p (Wait (wait.Sleep s)) Woken m = (none c t, refl)
words c t p (Wait (wait.Sleep s)) a m = (none c t, tt)
words c t p (Signal signal.LoadCell) a m = absurd m
words c t p (Signal signal.LoadCounter) (Value s) m = signal_counts c t p (s == full) m
words c t p (Signal signal.LoadCounter) a m = (none c t, tt)
words c t p (Signal signal.Count) (Value s) m = (one c t _ (inr m.0), m)
words c t p (Signal signal.Count) a m = (none c t, tt)
words c t p (Signal signal.Wake) (Count n) m = (none c t, tt)
words c t p (Signal signal.Wake) a m = (none c t, tt)
words c t p (Broadcast broadcast.LoadCell) a m = absurd m
words c t p (Broadcast broadcast.LoadCounter) (Value s) m = broadcast_counts c t _ p (s == full) m
words c t p (Broadcast broadcast.LoadCounter) a m = (none c t, tt)
words c t p (Broadcast (broadcast.Count s)) (Value w) m = (one c t _ (inr m.0), m)
words c t p (Broadcast (broadcast.Count s)) a m = (none c t, tt)
words c t p (Broadcast (broadcast.SetWaiters s)) (Value w) m = (none c t, m)
words c t p (Broadcast (broadcast.SetWaiters s)) a m = (none c t, tt)
words c t p (Broadcast (broadcast.Move s)) Again m = (none c t, tt)
words c t p (Broadcast (broadcast.Move s)) (Counts n k) m = (none c t, tt)
words c t p (Broadcast (broadcast.Move s)) a m = (none c t, tt)
words c t p Awake a m = (none c t, refl)
words c t p (cond.Ended x) a m = (none c t, tt)

unlinks : (c : Fields) (t s : ℕ) (u : UnlinkStanding) (r : UnlinkRow) → IsPermitted c t operation.Unlock OK → May c t (unlinked_at u r s)
unlinks c t s u (unlink.Ended OK) m = m
unlinks c t s u (unlink.Ended y) m = tt
unlinks c t s u r m = m

-- the lock that ends a wait decides locks alone
lock_points : (c : Fields) (t : ℕ) (w : Whole) (o : Option Reply) → w.operation ≡ operation.Lock → All (IsPermittedFirst t (Some c)) (points (mutex.whole_point w o))
lock_points c t w None e = none c t
lock_points c t w (Some x) e = one c t _ (inl e)

locks : (c : Fields) (t : ℕ) (v w : Whole) (o : Option Reply) (f : Phase) → v.operation ≡ operation.Lock → w.operation ≡ operation.Lock → Goes c t (from_lock v (mutex.progress_in (mutex.whole_point w o) f))
locks c t v w o (phase.Ended x) d e = (lock_points c t w o e, tt)
locks c t v w o (phase.Announcing r) d e = (lock_points c t w o e, d)
locks c t v w o (phase.AtCell r) d e = (lock_points c t w o e, d)
locks c t v w o (phase.Linking l x) d e = (lock_points c t w o e, d)
locks c t v w o (phase.Unlinking u x) d e = (lock_points c t w o e, d)
locks c t v w o (phase.Clearing x) d e = (lock_points c t w o e, d)

-- each phase, each answer
step : (c : Fields) (t : ℕ) (p : CondWhole) (f : CondPhase) (a : Answer) → May c t f → Goes c t (phase_led p f a)
step c t p (AtWords r) a m = words c t p r a m
step c t p (Announcing s) Stored m = (none c t, m)
step c t p (Announcing s) a m = (none c t, tt)
step c t p (Unlinking u s) a m = (none c t, unlinks c t s (unlink_moved u a) (unlink_moved u a).row m)
step c t p (Locking w) a m = let o = mutex.whole_led w a in locks c t (mutex.whole_moved w o) w o.point o.phase m m
step c t p (Ended x) a m = (none c t, tt)

-- all answers
after : (c : Fields) (t : ℕ) (answers : List Answer) (p : CondWhole) (so_far : List Point) → All (IsPermittedFirst t (Some c)) so_far → May c t p.phase → All (IsPermittedFirst t (Some c)) (points_after p so_far answers)
after c t [] p so_far h m = h
after c t (a ∷ answers) p so_far h m =
    let o = cond_led p a in
    let s = step c t p p.phase a m in
    after c t answers (cond_moved p o) (so_far ++ points o.point) (All-append (IsPermittedFirst t (Some c)) so_far (points o.point) h s.0) s.1

-- a call that was answered a fault makes no point
quiet : (answers : List Answer) (p : CondWhole) (x : Reply) → p.phase ≡ Ended x → points_after p [] answers ≡ []
quiet [] p x is = refl
quiet (a ∷ answers) p x is =
    let led = ap (λ (f : CondPhase). phase_led p f a) is in
    let o = cond_led p a in
    ap (λ (q : Option Point). points_after (cond_moved p o) (points q) answers) (ap (λ (z : CondOnward). z.point) led) ∙ quiet answers (cond_moved p o) x (ap (λ (z : CondOnward). z.phase) led)

-- what a first load decides, and where it goes on
decided : (c : Fields) (t cell : ℕ) (d : Option Decided) → ((e : Decided) → d ≡ Some e → IsPermitted c t e.operation e.reply) → All (IsPermittedFirst t (Some c)) (points (point_of t cell d))
decided c t cell None h = none c t
decided c t cell (Some e) h = one c t _ (inr (h e refl))

wait_on : (c : Fields) (t : ℕ) (p : CondWhole) (b d : Bool) → let l = (if not b then ends operation.Wait EPERM else if d then ends operation.Wait XSTATE else goes (Wait wait.LoadCounter)) in GoesOnFrom t l.row (Some c) → May c t (after_words p l.row)
wait_on c t p false d g = tt
wait_on c t p true true g = tt
wait_on c t p true false g = g.0

signal_on : (c : Fields) (t : ℕ) (p : CondWhole) (b : Bool) → let l = (if not b then ends operation.Signal EPERM else goes (Signal signal.LoadCounter)) in GoesOnFrom t l.row (Some c) → May c t (after_words p l.row)
signal_on c t p false g = tt
signal_on c t p true g = g

broadcast_on : (c : Fields) (t : ℕ) (p : CondWhole) (b : Bool) → let l = (if not b then ends operation.Broadcast EPERM else goes (Broadcast broadcast.LoadCounter)) in GoesOnFrom t l.row (Some c) → May c t (after_words p l.row)
broadcast_on c t p false g = tt
broadcast_on c t p true g = g

begun : (l : Layout') (t : ℕ) (c : CondCall) (w : ℕ) → 1 ≤ t → Goes (fields_of w) t (cond_led (begins l t c) (Value w))
begun l t (call.Wait c) w pos =
    let r = Wait wait.LoadCell in
    (decided (fields_of w) t _ (resume_of t r (Value w)).decided (λ e is. permitted.at t r (Value w) e pos is), wait_on (fields_of w) t (begins l t (call.Wait c)) ((fields_of w).owner == t) (fields_of w).died (permitted.goes_on t r (Value w) pos))
begun l t (call.TimedWait c x) w pos =
    let r = Wait wait.LoadCell in
    (decided (fields_of w) t _ (resume_of t r (Value w)).decided (λ e is. permitted.at t r (Value w) e pos is), wait_on (fields_of w) t (begins l t (call.TimedWait c x)) ((fields_of w).owner == t) (fields_of w).died (permitted.goes_on t r (Value w) pos))
begun l t (call.Signal c) w pos =
    let r = Signal signal.LoadCell in
    (decided (fields_of w) t _ (resume_of t r (Value w)).decided (λ e is. permitted.at t r (Value w) e pos is), signal_on (fields_of w) t (begins l t (call.Signal c)) ((fields_of w).owner == t) (permitted.goes_on t r (Value w) pos))
begun l t (call.Broadcast c) w pos =
    let r = Broadcast broadcast.LoadCell in
    (decided (fields_of w) t _ (resume_of t r (Value w)).decided (λ e is. permitted.at t r (Value w) e pos is), broadcast_on (fields_of w) t (begins l t (call.Broadcast c)) ((fields_of w).owner == t) (permitted.goes_on t r (Value w) pos))

-- a first answer that isn't a word ends the call without a point
record Stops (l : Layout') (t : ℕ) (c : CondCall) (a : Answer) : Type 0 where
  phase : (cond_led (begins l t c) a).phase ≡ Ended EFAULT
  point : (cond_led (begins l t c) a).point ≡ None

abbrev IsNoWord : Answer → Type 0
IsNoWord (Value w) = ⊥
IsNoWord a = Unit {0}

stops : (l : Layout') (t : ℕ) (c : CondCall) (a : Answer) → IsNoWord a → Stops l t c a
stops l t (call.Wait c) (Value w) n = absurd n
stops l t (call.Wait c) a n = record { phase = refl; point = refl }
stops l t (call.TimedWait c x) (Value w) n = absurd n
stops l t (call.TimedWait c x) a n = record { phase = refl; point = refl }
stops l t (call.Signal c) (Value w) n = absurd n
stops l t (call.Signal c) a n = record { phase = refl; point = refl }
stops l t (call.Broadcast c) (Value w) n = absurd n
stops l t (call.Broadcast c) a n = record { phase = refl; point = refl }

silent : (l : Layout') (t : ℕ) (c : CondCall) (a : Answer) (answers : List Answer) → IsNoWord a → points_after (begins l t c) [] (a ∷ answers) ≡ []
silent l t c a answers n =
    let s = stops l t c a n in
    let o = cond_led (begins l t c) a in
    ap (λ (q : Option Point). points_after (cond_moved (begins l t c) o) (points q) answers) s.point ∙ quiet answers (cond_moved (begins l t c) o) EFAULT s.phase

-- from the begin on
pub first_permits : (l : Layout') (t : ℕ) (c : CondCall) (answers : List Answer) → 1 ≤ t → All (IsPermittedFirst t (first_met answers)) (points_after (begins l t c) [] answers)
first_permits l t c [] pos = All-nil (IsPermittedFirst t None)
first_permits l t c (Value w ∷ answers) pos =
    let o = cond_led (begins l t c) (Value w) in
    let b = begun l t c w pos in
    after (fields_of w) t answers (cond_moved (begins l t c) o) (points o.point) b.0 b.1
first_permits l t c (a ∷ answers) pos = subst (All (IsPermittedFirst t (first_met (a ∷ answers)))) (sym (silent l t c a answers tt)) (All-nil (IsPermittedFirst t (first_met (a ∷ answers))))
