-- No event changes the layout.
use Rattle.std.proofs.Common.{◌≡◌, ◌&&◌, ℕ, Bool, true, false, List, [], ◌∷◌, refl, ◌∙◌, if◌then◌else◌}
use Rattle.std.specs.Prelude.{Result, Ok, Err, not}
use Rattle.stepprograms.specs.declared.access.Answer.TheVariants.{Trimmed, Count}
use Rattle.condvar.specs.Calls.{condition_of}
use Rattle.condvar.specs.Whole.{cond_led}
use Rattle.condvar.specs.declared.op.Op.TheVariants.{OnMutex, OnCondition}
use Rattle.lockword.specs.declared.reply.Reply.{Reply}
use Rattle.mutex.specs.Whole.{may_expire, whole_access, whole_led}
use Rattle.condvar.specs.Ops.{mutex_of}
use Rattle.condvar.specs.declared.op.Op.{Op}
use Rattle.protocol.specs.declared.event.Event.{Event}
use Rattle.protocol.specs.declared.event.LeftTo.{LeftTo}
use Rattle.protocol.specs.declared.event.Event.TheVariants.{Begin, Step, Kill, Leave, Decline, Expire, Renew, Remake, Spare}
use Rattle.protocol.specs.declared.thread.Stage.{Stage}
use Rattle.protocol.specs.declared.thread.Stage.TheVariants.{Idle, Calling, AtCondition, Dying, Reaped}
use Rattle.memorymap.specs.Layouts.{cell_place}
use Rattle.protocol.specs.Machine.{State, After, nothing, has_thread, is_alive, is_gone, may_begin, may_remake, waiters_of, first_stage, begun, killed, renewed, reinited, departed, declined, expired, is_timed, lapsed, overslept, waits_on, spared, wakes_one, wakes_next, is_left_to, sparing, is_asleep, is_trim, sleeps, led, led_at, went, answer_of, stepped, happens, run}

-- whichever of two states comes, both have the layout
either : (s : State) (b : Bool) (a : After) → a.state.layout ≡ s.layout → (if b then a else nothing s).state.layout ≡ s.layout
either s true a h = h
either s false a h = refl

or_else : (s : State) (b : Bool) (a : After) → a.state.layout ≡ s.layout → (if b then nothing s else a).state.layout ≡ s.layout
or_else s true a h = refl
or_else s false a h = h

begun_layout : (s : State) (t : ℕ) (o : Op) (r : Result Stage Reply) → (begun s t o r).state.layout ≡ s.layout
begun_layout s t o (Ok g) = refl
begun_layout s t o (Err x) = refl

stepped_layout : (s : State) (t held : ℕ) (g : Stage) → (stepped s t held g).state.layout ≡ s.layout
stepped_layout s t held Idle = refl
stepped_layout s t held (Calling o p) =
    or_else s (sleeps s t (Calling o p)) (went s t held (mutex_of s.layout o) _ (whole_access p) (led o p (whole_led p (answer_of s t (whole_access p))))) refl
stepped_layout s t held (AtCondition c p) = refl
stepped_layout s t held (Dying w) = refl
stepped_layout s t held Reaped = refl

declined_layout : (s : State) (t held : ℕ) (g : Stage) → (declined s t held g).state.layout ≡ s.layout
declined_layout s t held (Calling o p) =
    either s (is_trim (whole_access p) && not (sleeps s t (Calling o p))) (spared s t held (mutex_of s.layout o) (led o p (whole_led p (Trimmed false)))) refl
declined_layout s t held g = refl

expired_layout : (s : State) (t held : ℕ) (g : Stage) → (expired s t held g).state.layout ≡ s.layout
expired_layout s t held (Calling (OnMutex c) p) = either s (is_timed (OnMutex c) && may_expire p.phase && sleeps s t (Calling (OnMutex c) p)) (lapsed s t held (OnMutex c) p) refl
expired_layout s t held (Calling (OnCondition c) p) = either s (is_timed (OnCondition c) && waits_on s t (condition_of c)) (overslept s t held (condition_of c) p) refl
expired_layout s t held g = refl

spare_layout : (s : State) (t : ℕ) (by : LeftTo) (held : ℕ) (g : Stage) → (sparing s t by held g).state.layout ≡ s.layout
spare_layout s t by held (Calling o p) =
    either s (wakes_one p.phase && is_left_to s t (mutex_of s.layout o) by) (spared s t held (mutex_of s.layout o) (led o p (whole_led p (Count 1)))) refl
spare_layout s t by held (AtCondition c p) =
    either s (wakes_next p.phase && is_left_to s t (mutex_of s.layout (OnCondition c)) by) (spared s t held (mutex_of s.layout (OnCondition c)) (led_at c p (cond_led p (Count 1)))) refl
spare_layout s t by held Idle = refl
spare_layout s t by held (Dying w) = refl
spare_layout s t by held Reaped = refl

happens_layout : (s : State) (e : Event) → (happens s e).state.layout ≡ s.layout
happens_layout s (Begin t o) = either s (may_begin s t o) (begun s t o (first_stage s.layout t (s.threads t).held o)) (begun_layout s t o (first_stage s.layout t (s.threads t).held o))
happens_layout s (Step t) = either s (has_thread s t) (stepped s t (s.threads t).held (s.threads t).stage) (stepped_layout s t (s.threads t).held (s.threads t).stage)
happens_layout s (Kill t) = either s (has_thread s t && is_alive (s.threads t).stage) (killed s t) refl
happens_layout s (Leave t) = either s (has_thread s t && is_asleep s t) (departed s t) refl
happens_layout s (Decline t) = either s (has_thread s t) (declined s t (s.threads t).held (s.threads t).stage) (declined_layout s t (s.threads t).held (s.threads t).stage)
happens_layout s (Expire t) = either s (has_thread s t) (expired s t (s.threads t).held (s.threads t).stage) (expired_layout s t (s.threads t).held (s.threads t).stage)
happens_layout s (Renew t) = either s (has_thread s t && is_gone (s.threads t).stage) (renewed s t) refl
happens_layout s (Remake t m) = either s (may_remake s t m) (reinited s t m (waiters_of (s.words (cell_place s.layout m)))) refl
happens_layout s (Spare t by) = either s (has_thread s t) (sparing s t by (s.threads t).held (s.threads t).stage) (spare_layout s t by (s.threads t).held (s.threads t).stage)

pub run_layout : (s : State) (es : List Event) → (run s es).layout ≡ s.layout
run_layout s [] = refl
run_layout s (e ∷ es) = run_layout (happens s e).state es ∙ happens_layout s e
