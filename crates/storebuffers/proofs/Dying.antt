-- Which threads are dead after an event.
use Rattle.std.proofs.Common.{◌≡◌, ◌≢◌, ◌⊎◌, inl, inr, ℕ, Bool, true, false, Result, Ok, Err, refl, sym, ap, ◌∙◌, arith}
use Rattle.std.specs.Prelude.{if◌then◌else◌}
use Rattle.lockword.specs.declared.reply.Reply.{Reply}
use Rattle.mutex.specs.Standings.{Whole}
use Rattle.mutex.specs.declared.phase.Phase.{Phase}
use Rattle.condvar.specs.declared.phase.CondPhase.{CondPhase}
use Rattle.condvar.specs.Standings.{CondWhole}
use Rattle.condvar.specs.declared.op.Op.{Op}
use Rattle.condvar.specs.declared.call.CondCall.{CondCall}
use Rattle.exitwalk.specs.declared.row.Row as walk_row
use Rattle.exitwalk.specs.Standings as walks
use Rattle.exitwalk.specs.Walks as exit
use Rattle.memorymap.specs.Layouts.{Layout'}
use Rattle.protocol.specs.declared.event.Event.{Event}
use Rattle.protocol.specs.declared.event.Event.TheVariants.{Begin, Step}
use Rattle.protocol.specs.declared.thread.Stage.{Stage}
use Rattle.protocol.specs.declared.thread.Thread.{Thread}
use Rattle.protocol.specs.declared.thread.Stage.TheVariants.{Dying}
use Rattle.protocol.specs.declared.note.Note.TheVariants.{Nothing}
use Rattle.protocol.specs.Machine.{State, After, Led, happens, put, is_alive, stage_after, stage_at, begun}
use Rattle.protocol.proofs.Puts.{put-same, put-other}
use Rattle.protocol.proofs.Kept.{Kept}
use Rattle.protocol.proofs.Events.{by_event, by_stage, begins_at, HowSpared, Of_unlock, Of_wait}
use Rattle.lockword.specs.declared.reply.Reply.TheVariants.{XHELD}
use Rattle.std.proofs.Common.{subst}
use Rattle.protocol.specs.Machine.{nothing}
use Rattle.storebuffers.specs.Buffers.Way.{Keeps, Writes, Flushes}
use Rattle.protocol.proofs.Working.{by_step}
use Rattle.protocol.specs.Explained.{caller}
use Rattle.storebuffers.specs.Buffers.{Way, way, way_at, way_of}

-- whoever makes no step of its own stands where it stood
begun_other : (s : State) (t : ℕ) (o : Op) (r : Result Stage Reply) (u : ℕ) → t ≢ u → (begun s t o r).state.threads u ≡ s.threads u
begun_other s t o (Ok g) u apart = put-other s.threads t _ u (λ e. apart (sym e))
begun_other s t o (Err x) u apart = refl

pub others_stand : (s : State) (e : Event) → Kept s → (u : ℕ) → caller e ≢ u → (happens s e).state.threads u ≡ s.threads u
others_stand s e inv u = by_event s (λ e a. caller e ≢ u → a.state.threads u ≡ s.threads u)
    (λ e apart. refl)
    (λ t o pos known named resting b is apart. begun_other s t o _ u apart)
    (λ t pos known. by_step s t inv pos known (λ (a : After). t ≢ u → a.state.threads u ≡ s.threads u) (λ rests apart. refl) (λ v n is awake step noted apart. put-other s.threads t _ u (λ e. apart (sym e))))
    (λ t pos known alive apart. put-other s.threads t _ u (λ e. apart (sym e)))
    (λ t pos known asleep apart. refl)
    (λ t m p pos known is asleep may apart. put-other s.threads t _ u (λ e. apart (sym e)))
    (λ t k x p pos known is waits apart. put-other s.threads t _ u (λ e. apart (sym e)))
    (λ t o p pos known is awake trims apart. put-other s.threads t _ u (λ e. apart (sym e)))
    (λ t pos known is apart. put-other s.threads t _ u (λ e. apart (sym e)))
    (λ t m may apart. refl)
    (λ t m g is apart. put-other s.threads t _ u (λ e. apart (sym e)))
    e

-- a call leads nobody to its death
alive_after : (o : Op) (p : Whole) (f : Phase) → is_alive (stage_after o p f) ≡ true
alive_after o p f = grind (arith)

alive_at : (c : CondCall) (p : CondWhole) (f : CondPhase) → is_alive (stage_at c p f) ≡ true
alive_at c p f = grind (arith)

alive_spared : (s : State) (t m : ℕ) (g : Led) → HowSpared s t m g → is_alive g.stage ≡ true
alive_spared s t m g (Of_unlock o p is mutex at leads) = ap (λ (z : Led). is_alive z.stage) leads ∙ alive_after o p _
alive_spared s t m g (Of_wait c p seen is mutex at leads) = ap (λ (z : Led). is_alive z.stage) leads ∙ alive_at c p _

-- the buffer stays
abbrev pub IsStill : Way → Type 0
IsStill Keeps = Unit {0}
IsStill (Writes at) = Unit {0}
IsStill y = ⊥

walk_still : (l : Layout') (t h : ℕ) (r : walk_row.Row) → IsStill (way_of l t (exit.row_access h r))
walk_still l t h r = grind (arith)

-- whoever is dead after its event was dead before it, and then that leaves the buffer; or all that waited has
-- reached memory
abbrev pub Dies : State → ℕ → Way → After → Type 0
Dies s t y a = is_alive (a.state.threads t).stage ≡ false → (y ≡ Flushes) ⊎ ((is_alive (s.threads t).stage ≡ false) × IsStill y)

alive_begun : (l : Layout') (t : ℕ) (o : Op) → is_alive (begins_at l t o) ≡ true
alive_begun l t o = grind (arith)

begun_dies : (s : State) (t : ℕ) (o : Op) (b : Bool) → Dies s t (way s (Begin t o) (begun s t o (if b then Err XHELD else Ok (begins_at s.layout t o))).note) (begun s t o (if b then Err XHELD else Ok (begins_at s.layout t o)))
begun_dies s t o true e = inr (e, tt)
begun_dies s t o false e = absurd (cc (sym (alive_begun s.layout t o), sym (ap (λ (z : Thread). is_alive z.stage) (put-same s.threads t (record (s.threads t) { stage = begins_at s.layout t o }))) ∙ e))

lives : (s : State) (t : ℕ) (th : Thread) (y : Way) → is_alive th.stage ≡ true → is_alive (put s.threads t th t).stage ≡ false → (y ≡ Flushes) ⊎ ((is_alive (s.threads t).stage ≡ false) × IsStill y)
lives s t th y alive e = absurd (cc (sym alive, sym (ap (λ (z : Thread). is_alive z.stage) (put-same s.threads t th)) ∙ e))

walk_dies : (s : State) (t : ℕ) (w : walks.Standing) → (s.threads t).stage ≡ Dying w → (is_alive (s.threads t).stage ≡ false) × IsStill (way_at s.layout t (s.threads t).stage)
walk_dies s t w is = (ap is_alive is, subst (λ (g : Stage). IsStill (way_at s.layout t g)) (sym is) (walk_still s.layout t w.head w.row))

pub dies_so : (s : State) (e : Event) → Dies s (caller e) (way s e (happens s e).note) (happens s e)
dies_so s e = by_event s (λ e a. Dies s (caller e) (way s e a.note) a)
    nothing_dies
    (λ t o pos known named resting b is. begun_dies s t o b)
    (λ t pos known. by_stage s t (λ a. Dies s t (way s (Step t) a.note) a)
    (λ rests e. inr (e, tt))
    (λ o p is awake. lives s t _ _ (alive_after o p _))
    (λ c p is awake. lives s t _ _ (alive_at c p _))
    (λ w is awake e. inr (walk_dies s t w is)))
    (λ t pos known alive e. inl refl)
    (λ t pos known asleep e. inr (e, tt))
    (λ t m p pos known is asleep may. lives s t _ _ refl)
    (λ t k x p pos known is waits. lives s t _ _ refl)
    (λ t o p pos known is awake trims. lives s t _ _ (alive_after o p _))
    (λ t pos known is. lives s t _ _ refl)
    (λ t m may e. inr (e, tt))
    (λ t m g is. lives s t _ _ (alive_spared s t m g is.how))
    e
  where
    nothing_dies : (e : Event) → Dies s (caller e) (way s e Nothing) (nothing s)
    nothing_dies e on = inr (on, tt)
