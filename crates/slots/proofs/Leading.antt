-- Events of one thread at one moment, one after the other: where they lead.
use Rattle.std.proofs.Common.{◌≡◌, ℕ, ◌+◌, ◌<◌, ◌≤◌, ◌==◌, Bool, true, false, None, Result, Ok, Err, List, [], ◌∷◌, ◌++◌, length, refl, sym, ap, ◌∙◌, subst, arith}
use Rattle.std.specs.Prelude.{if◌then◌else◌, nat_le, not, ◌&&◌, ◌||◌}
use mathlib.Core.Path.{fun_ext}
use Rattle.lockword.specs.Cells.{Fields, fields_of}
use Rattle.lockword.specs.declared.reply.Reply.{Reply}
use Rattle.lockword.specs.declared.reply.Reply.TheVariants.{XHELD}
use Rattle.stepprograms.specs.declared.access.Access.{Access}
use Rattle.stepprograms.specs.Accesses.{address_of, answer_among, word_among}
use Rattle.posixmutex.specs.declared.point.Operation.{Operation}
use Rattle.posixmutex.specs.declared.point.Operation.TheVariants as operation
use Rattle.posixmutex.specs.Objects.{acquires}
use Rattle.memorymap.specs.Layouts.{Layout', cell_place, place_in}
use Rattle.mutex.specs.Calls as calls
use Rattle.mutex.specs.declared.phase.Phase.{Phase}
use Rattle.mutex.specs.declared.phase.Onward.{Onward}
use Rattle.mutex.specs.Standings.{Whole}
use Rattle.mutex.specs.Whole.{whole_access, whole_at, whole_led}
use Rattle.condvar.specs.declared.call.CondCall.{CondCall}
use Rattle.condvar.specs.declared.phase.CondPhase.{CondPhase}
use Rattle.condvar.specs.declared.phase.CondOnward.{CondOnward}
use Rattle.condvar.specs.Calls.{condition_of}
use Rattle.condvar.specs.Programs as programs
use Rattle.condvar.specs.Standings.{CondWhole}
use Rattle.condvar.specs.Whole.{cond_access, cond_led}
use Rattle.condvar.specs.declared.op.Op.{Op}
use Rattle.condvar.specs.declared.op.Op.TheVariants.{OnMutex, OnCondition}
use Rattle.condvar.specs.Ops.{mutex_of, may_call, operation_of}
use Rattle.protocol.specs.declared.event.Event.{Event}
use Rattle.protocol.specs.declared.event.Event.TheVariants.{Begin, Step}
use Rattle.protocol.specs.declared.thread.Thread.{Thread}
use Rattle.protocol.specs.declared.thread.Stage.{Stage}
use Rattle.protocol.specs.declared.thread.Stage.TheVariants.{Idle, Calling, AtCondition}
use Rattle.protocol.specs.Machine.{State, After, put, begun, happens, nothing, run, held_after, is_idle, may_begin, first_stage, stage_after, stands_in}
use Rattle.protocol.specs.Machine.{joined, moved_by, queue_after, place_met, led_at, stage_at}
use Rattle.protocol.proofs.Kept.{Kept, Fits, FitsAt, Serves}
use Rattle.protocol.proofs.Accesses.{fits_in}
use Rattle.protocol.proofs.CondAccesses.{fits_at}
use Rattle.protocol.proofs.CondSteps.{cond_of}
use Rattle.protocol.proofs.Events.{begins_at, first_is, is_known}
use Rattle.protocol.proofs.Puts.{by_put, put-same, put-other}
use Rattle.protocol.proofs.Queued.{out_awake}
use Rattle.protocol.proofs.Runs.{sound}
use Rattle.protocol.proofs.Seeing.{cell_in, entry_in, head_in}
use Rattle.protocol.proofs.Steps.{IsNoMove, after, call_step, cond_step, joined_none}
use Rattle.protocol.proofs.Working.{call_goes, cond_goes}
use Rattle.slots.specs.Shown.{turned, turned_by}
use Rattle.slots.proofs.MachineRuns.{run-append}

-- a value put where it stands
pub put_back : {A : Type 0} → (f : ℕ → A) (at : ℕ) → put f at (f at) ≡ f
put_back f at = fun_ext (λ x. by_put (λ v. v ≡ f x) f at (f at) x (λ is. ap f (sym is)) (λ apart. refl))

-- and one put over another
pub put_over : {A : Type 0} → (f : ℕ → A) (at : ℕ) (a b : A) → put (put f at a) at b ≡ put f at b
put_over f at a b = fun_ext (λ x. by_put (λ v. v ≡ put f at b x) (put f at a) at b x (λ is. sym (ap (put f at b) is ∙ put-same f at b)) (λ apart. put-other f at a x apart ∙ sym (put-other f at b x apart)))

pub unmoved : (op : Operation) (held : ℕ) → held_after held op None ≡ held
unmoved op held = grind (arith)

-- what holds of both, if the test is so
pub by_test : {A : Type 0} → (P : A → Type 0) (b : Bool) (x y : A) → (b ≡ true → P x) → (b ≡ false → P y) → P (if b then x else y)
by_test P true x y on_true on_false = on_true refl
by_test P false x y on_true on_false = on_false refl

-- ---- turns

-- a mutex's word says the same of owner and UNUSABLE
abbrev pub Still : ℕ → ℕ → Type 0
Still a b = ((fields_of b).owner ≡ (fields_of a).owner) × ((fields_of b).unusable ≡ (fields_of a).unusable)

pub still_same : (a b : ℕ) → b ≡ a → Still a b
still_same a b is = (ap (λ (w : ℕ). (fields_of w).owner) is, ap (λ (w : ℕ). (fields_of w).unusable) is)

no_turn : (a b : Bool) → ((not a && a) || (b && not b)) ≡ false
no_turn true true = refl
no_turn true false = refl
no_turn false true = refl
no_turn false false = refl

turned-append : (s : State) (es fs : List Event) (f : ℕ → ℕ) → turned_by s (es ++ fs) f ≡ turned_by (run s es) fs (turned_by s es f)
turned-append s [] fs f = refl
turned-append s (e ∷ es) fs f = turned-append (happens s e).state es fs (turned s (happens s e).state f)

-- ---- where they lead

-- the state with these words, these queues, and thread t so
abbrev pub now : State → ℕ → (ℕ → ℕ) → (ℕ → List ℕ) → Thread → State
now s t w q th = record { layout = s.layout; words = w; queues = q; threads = put s.threads t th }

abbrev pub on : Stage → ℕ → Thread
on g held = record { stage = g; held = held }

-- these events lead there, and no turn changes
pub record Leads (s : State) (t : ℕ) (es : List Event) (w : ℕ → ℕ) (q : ℕ → List ℕ) (th : Thread) : Type 0 where
  pub to : run s es ≡ now s t w q th
  pub kept : Kept (now s t w q th)
  pub turns : (f : ℕ → ℕ) (j : ℕ) → j < s.layout.mutexes → turned_by s es f j ≡ f j

-- no event leads nowhere
pub stays : (s : State) (t : ℕ) (g : Stage) → Kept s → (s.threads t).stage ≡ g → Leads s t [] s.words s.queues (on g (s.threads t).held)
stays s t g inv is = record { to = to; kept = subst Kept to inv; turns = λ f j inside. refl }
  where
    to : s ≡ now s t s.words s.queues (on g (s.threads t).held)
    to = (λ i. record { layout = s.layout; words = s.words; queues = s.queues; threads = sym (put_back s.threads t) i })
        ∙ (λ i. record { layout = s.layout; words = s.words; queues = s.queues; threads = put s.threads t (record { stage = is i; held = (s.threads t).held }) })

turn_still : (s z : State) (f : ℕ → ℕ) (j : ℕ) → z.layout ≡ s.layout → Still (s.words (cell_place s.layout j)) (z.words (cell_place s.layout j)) → turned s z f j ≡ f j
turn_still s z f j layout still = ap (λ (b : Bool). if b then f j + 1 else f j) (
    (λ i. (not (not (a.owner == 0)) && not ((fields_of (z.words (cell_place (layout i) j))).owner == 0)) || (a.unusable && not (fields_of (z.words (cell_place (layout i) j))).unusable))
    ∙ (λ i. (not (not (a.owner == 0)) && not (still.0 i == 0)) || (a.unusable && not (still.1 i)))
    ∙ no_turn (not (a.owner == 0)) a.unusable
    )
  where
    a : Fields
    a = fields_of (s.words (cell_place s.layout j))

-- one event more
pub more : (s : State) (t : ℕ) (es : List Event) (w v : ℕ → ℕ) (q r : ℕ → List ℕ) (th ti : Thread) (e : Event) → Leads s t es w q th → (happens (now s t w q th) e).state ≡ now s t v r ti
    → ((j : ℕ) → j < s.layout.mutexes → Still (w (cell_place s.layout j)) (v (cell_place s.layout j))) → Leads s t (es ++ e ∷ []) v r ti
more s t es w v q r th ti e l goes still = record {
  to = run-append s es (e ∷ []) ∙ ap (λ (z : State). (happens z e).state) l.to ∙ goes;
  kept = subst Kept goes (sound (now s t w q th) e l.kept).kept;
  turns = λ f j inside.
      ap (λ (g : ℕ → ℕ). g j) (turned-append s es (e ∷ []) f)
      ∙ (λ i. turned (l.to i) (happens (l.to i) e).state (turned_by s es f) j)
      ∙ (λ i. turned (now s t w q th) (goes i) (turned_by s es f) j)
      ∙ turn_still (now s t w q th) (now s t v r ti) (turned_by s es f) j refl (still j inside)
      ∙ l.turns f j inside;
}

-- one event alone
pub first_more : (s : State) (t : ℕ) (v : ℕ → ℕ) (r : ℕ → List ℕ) (ti : Thread) (e : Event) → Kept s → (happens s e).state ≡ now s t v r ti
    → ((j : ℕ) → j < s.layout.mutexes → Still (s.words (cell_place s.layout j)) (v (cell_place s.layout j))) → Leads s t (e ∷ []) v r ti
first_more s t v r ti e inv goes still = record {
  to = goes;
  kept = subst Kept goes (sound s e inv).kept;
  turns = λ f j inside. (λ i. turned s (goes i) f j) ∙ turn_still s (now s t v r ti) f j refl (still j inside);
}

-- events after events
pub compose : (s : State) (t : ℕ) (es fs : List Event) (w v : ℕ → ℕ) (q r : ℕ → List ℕ) (th ti : Thread) → Leads s t es w q th → Leads (now s t w q th) t fs v r ti → Leads s t (es ++ fs) v r ti
compose s t es fs w v q r th ti l m = record {
  to = run-append s es fs ∙ ap (λ (z : State). run z fs) l.to ∙ m.to ∙ over;
  kept = subst Kept over m.kept;
  turns = λ f j inside.
      ap (λ (g : ℕ → ℕ). g j) (turned-append s es fs f)
      ∙ (λ i. turned_by (l.to i) fs (turned_by s es f) j)
      ∙ m.turns (turned_by s es f) j inside
      ∙ l.turns f j inside;
}
  where
    over : now (now s t w q th) t v r ti ≡ now s t v r ti
    over = λ i. record { layout = s.layout; words = v; queues = r; threads = put_over s.threads t th ti i }

-- the words stay
pub all_still : (s : State) (w : ℕ → ℕ) (j : ℕ) → j < s.layout.mutexes → Still (w (cell_place s.layout j)) (w (cell_place s.layout j))
all_still s w j inside = (refl, refl)

-- ---- a call begins

pub begins_more : (s : State) (t : ℕ) (es : List Event) (w : ℕ → ℕ) (q : ℕ → List ℕ) (h : ℕ) → 1 ≤ t → t ≤ s.layout.threads → Leads s t es w q (on Idle h) → (o : Op) → may_call s.layout o ≡ true → (acquires (operation_of o) && nat_le 2048 h) ≡ false
    → Leads s t (es ++ Begin t o ∷ []) w q (on (begins_at s.layout t o) h)
begins_more s t es w q h pos known l o may room = more s t es w w q q (on Idle h) (on (begins_at s.layout t o) h) (Begin t o) l goes (all_still s w)
  where
    z : State
    z = now s t w q (on Idle h)

    same : z.threads t ≡ on Idle h
    same = put-same s.threads t (on Idle h)

    begin : may_begin z t o ≡ true
    begin = λ i. is_known z t pos known i && is_idle (same i).stage && may i

    first : first_stage z.layout t (z.threads t).held o ≡ Ok (begins_at s.layout t o)
    first = ap (λ (y : Thread). first_stage s.layout t y.held o) same ∙ first_is s.layout t h o ∙ ap (λ (b : Bool). if b then Err XHELD else Ok (begins_at s.layout t o)) room

    goes : (happens z (Begin t o)).state ≡ now s t w q (on (begins_at s.layout t o) h)
    goes =
        ap (λ (b : Bool). (if b then begun z t o (first_stage z.layout t (z.threads t).held o) else nothing z).state) begin
        ∙ ap (λ (r : Result Stage Reply). (begun z t o r).state) first
        ∙ (λ i. record {
          layout = s.layout;
          words = w;
          queues = q;
          threads = (ap (λ (y : Thread). put z.threads t (on (begins_at s.layout t o) y.held)) same ∙ put_over s.threads t (on Idle h) (on (begins_at s.layout t o) h)) i;
        })

-- ---- a step of a call on a mutex, or of the lock that ends a wait

module _ (s : State) (t : ℕ) (es : List Event) (w : ℕ → ℕ) (q : ℕ → List ℕ) (o : Op) (p : Whole) (h : ℕ) (pos : 1 ≤ t) (known : t ≤ s.layout.threads) (l : Leads s t es w q (on (Calling o p) h)) (out : (key : ℕ) → stands_in t (q key) ≡ false) where
  abbrev z : State
  z = now s t w q (on (Calling o p) h)

  same : z.threads t ≡ on (Calling o p) h
  same = put-same s.threads t (on (Calling o p) h)

  goes_to : (happens z (Step t)).state ≡ after z t (call_step z t o p)
  goes_to = ap (λ (a : After). a.state) (call_goes z t o p l.kept pos known (ap (λ (y : Thread). y.stage) same) (out_awake z t out))

  -- an access at a place, and where its answer leads
  abbrev acts : Access → ℕ → State
  acts a pl = record {
    layout = s.layout;
    words = put w pl (word_among a (w pl) (q pl));
    queues = joined s.layout t a (moved_by a (w pl) (q pl)) (put q pl (queue_after t a (w pl) (q pl)));
    threads = put z.threads t (on (stage_after o p (whole_led p (answer_among a (w pl) (q pl))).phase) (held_after (z.threads t).held p.operation (whole_led p (answer_among a (w pl) (q pl))).point));
  }

  pub steps_more : (a : Access) (pl : ℕ) (v : ℕ → ℕ) (r : ℕ → List ℕ) (g : Onward) (ti : Thread) → whole_access p ≡ a → place_in s.layout t (address_of a) ≡ pl → IsNoMove a
      → put w pl (word_among a (w pl) (q pl)) ≡ v → put q pl (queue_after t a (w pl) (q pl)) ≡ r → whole_led p (answer_among a (w pl) (q pl)) ≡ g
      → stage_after o p g.phase ≡ ti.stage → held_after h p.operation g.point ≡ ti.held
      → ((j : ℕ) → j < s.layout.mutexes → Still (w (cell_place s.layout j)) (v (cell_place s.layout j))) → Leads s t (es ++ Step t ∷ []) v r ti
  steps_more a pl v r g ti access place none words queues leads stage held still = more s t es w v q r (on (Calling o p) h) ti (Step t) l goes still
    where
      thread : put z.threads t (on (stage_after o p (whole_led p (answer_among a (w pl) (q pl))).phase) (held_after (z.threads t).held p.operation (whole_led p (answer_among a (w pl) (q pl))).point)) ≡ put s.threads t ti
      thread =
          (λ i. put z.threads t (on (stage_after o p (leads i).phase) (held_after (same i).held p.operation (leads i).point)))
          ∙ (λ i. put z.threads t (on (stage i) (held i)))
          ∙ put_over s.threads t (on (Calling o p) h) ti

      goes : (happens z (Step t)).state ≡ now s t v r ti
      goes =
          goes_to
          ∙ ap (λ (b : Access). acts b (place_met s.layout t b)) access
          ∙ ap (acts a) place
          ∙ (λ i. record {
            layout = s.layout;
            words = words i;
            queues = (joined_none s.layout t a (moved_by a (w pl) (q pl)) (put q pl (queue_after t a (w pl) (q pl))) none ∙ queues) i;
            threads = thread i;
          })

  -- a load, wherever it leads
  pub loads_more : (at pl : ℕ) (g : Onward) (ti : Thread) → whole_access p ≡ Access.Load at → place_in s.layout t at ≡ pl → whole_led p (answer_among (Access.Load at) (w pl) (q pl)) ≡ g
      → stage_after o p g.phase ≡ ti.stage → held_after h p.operation g.point ≡ ti.held → Leads s t (es ++ Step t ∷ []) w q ti
  loads_more at pl g ti access place leads stage held = steps_more (Access.Load at) pl w q g ti access place tt (put_back w pl) (put_back q pl) leads stage held (all_still s w)

-- ---- a step of a call on a condition variable

module _ (s : State) (t : ℕ) (es : List Event) (w : ℕ → ℕ) (q : ℕ → List ℕ) (c : CondCall) (p : CondWhole) (h : ℕ) (pos : 1 ≤ t) (known : t ≤ s.layout.threads) (l : Leads s t es w q (on (AtCondition c p) h)) where
  abbrev y : State
  y = now s t w q (on (AtCondition c p) h)

  same_at : y.threads t ≡ on (AtCondition c p) h
  same_at = put-same s.threads t (on (AtCondition c p) h)

  goes_at : (happens y (Step t)).state ≡ after y t (cond_step y t c p)
  goes_at = ap (λ (a : After). a.state) (cond_goes y t c p l.kept pos known (ap (λ (x : Thread). x.stage) same_at))

  abbrev acts_at : Access → ℕ → State
  acts_at a pl = record {
    layout = s.layout;
    words = put w pl (word_among a (w pl) (q pl));
    queues = joined s.layout t a (moved_by a (w pl) (q pl)) (put q pl (queue_after t a (w pl) (q pl)));
    threads = put y.threads t (on (stage_at c p (cond_led p (answer_among a (w pl) (q pl))).phase) (held_after (y.threads t).held (led_at c p (cond_led p (answer_among a (w pl) (q pl)))).operation (led_at c p (cond_led p (answer_among a (w pl) (q pl)))).point));
  }

  pub cond_more : (a : Access) (pl : ℕ) (v : ℕ → ℕ) (r : ℕ → List ℕ) (g : CondOnward) (ti : Thread) → cond_access p ≡ a → place_in s.layout t (address_of a) ≡ pl → IsNoMove a
      → put w pl (word_among a (w pl) (q pl)) ≡ v → put q pl (queue_after t a (w pl) (q pl)) ≡ r → cond_led p (answer_among a (w pl) (q pl)) ≡ g
      → stage_at c p g.phase ≡ ti.stage → held_after h (led_at c p g).operation (led_at c p g).point ≡ ti.held
      → ((j : ℕ) → j < s.layout.mutexes → Still (w (cell_place s.layout j)) (v (cell_place s.layout j))) → Leads s t (es ++ Step t ∷ []) v r ti
  cond_more a pl v r g ti access place none words queues leads stage held still = more s t es w v q r (on (AtCondition c p) h) ti (Step t) l goes still
    where
      thread : put y.threads t (on (stage_at c p (cond_led p (answer_among a (w pl) (q pl))).phase) (held_after (y.threads t).held (led_at c p (cond_led p (answer_among a (w pl) (q pl)))).operation (led_at c p (cond_led p (answer_among a (w pl) (q pl)))).point)) ≡ put s.threads t ti
      thread =
          (λ i. put y.threads t (on (stage_at c p (leads i).phase) (held_after (same_at i).held (led_at c p (leads i)).operation (led_at c p (leads i)).point)))
          ∙ (λ i. put y.threads t (on (stage i) (held i)))
          ∙ put_over s.threads t (on (AtCondition c p) h) ti

      goes : (happens y (Step t)).state ≡ now s t v r ti
      goes =
          goes_at
          ∙ ap (λ (b : Access). acts_at b (place_met s.layout t b)) access
          ∙ ap (acts_at a) place
          ∙ (λ i. record {
            layout = s.layout;
            words = words i;
            queues = (joined_none s.layout t a (moved_by a (w pl) (q pl)) (put q pl (queue_after t a (w pl) (q pl))) none ∙ queues) i;
            threads = thread i;
          })

  pub cond_loads : (at pl : ℕ) (g : CondOnward) (ti : Thread) → cond_access p ≡ Access.Load at → place_in s.layout t at ≡ pl → cond_led p (answer_among (Access.Load at) (w pl) (q pl)) ≡ g
      → stage_at c p g.phase ≡ ti.stage → held_after h (led_at c p g).operation (led_at c p g).point ≡ ti.held → Leads s t (es ++ Step t ∷ []) w q ti
  cond_loads at pl g ti access place leads stage held = cond_more (Access.Load at) pl w q g ti access place tt (put_back w pl) (put_back q pl) leads stage held (all_still s w)

-- ---- where a thread is

-- a call of thread t on mutex k, by their addresses
abbrev pub call_at : Layout' → ℕ → Operation → ℕ → Phase → Whole
call_at l t op k f = whole_at t op (head_in l t) (entry_in l t k) (cell_in l t k) f

-- what its accesses do to the mutex
abbrev pub op_of : Op → Operation
op_of (OnMutex c) = calls.acts_as c
op_of (OnCondition c) = operation.Lock

serves_is : (l : Layout') (o : Op) (p : Whole) → Serves l o p → p.operation ≡ op_of o
serves_is l (OnMutex c) p is = is
serves_is l (OnCondition c) p is = is.0

-- the record Sits of a call: its mutex is in the layout, and it is there
pub record IsAt (s : State) (t : ℕ) (o : Op) (k : ℕ) (f : Phase) : Type 0 where
  pub inside : k < s.layout.mutexes
  pub there : (s.threads t).stage ≡ Calling o (call_at s.layout t (op_of o) k f)

pub is_at : (s : State) (t : ℕ) (o : Op) (p : Whole) (k : ℕ) (f : Phase) → Kept s → 1 ≤ t → t ≤ s.layout.threads → (s.threads t).stage ≡ Calling o p → p.phase ≡ f → mutex_of s.layout o ≡ k → IsAt s t o k f
is_at s t o p k f inv pos known is phase about = record {
  inside = subst (λ (j : ℕ). j < s.layout.mutexes) about fits.0.inside;
  there = is ∙ ap (Calling o) same;
}
  where
    fits : Fits s t (s.threads t).held (mutex_of s.layout o) p × Serves s.layout o p
    fits = fits_in s t o p inv pos known is

    same : p ≡ call_at s.layout t (op_of o) k f
    same = λ i. record {
      thread = fits.0.mine i;
      operation = serves_is s.layout o p fits.1 i;
      head = fits.0.head i;
      entry = (fits.0.entry ∙ ap (entry_in s.layout t) about) i;
      cell = (fits.0.cell ∙ ap (cell_in s.layout t) about) i;
      phase = phase i;
    }

-- a call on a condition variable, at its words
pub record IsAtWord (s : State) (t : ℕ) (c : CondCall) (f : CondPhase) : Type 0 where
  pub counter : condition_of c < length s.layout.conditions
  pub cell : programs.mutex_of s.layout c < s.layout.mutexes
  pub there : (s.threads t).stage ≡ AtCondition c (cond_of s.layout t c f)

pub is_at_word : (s : State) (t : ℕ) (c : CondCall) (p : CondWhole) (f : CondPhase) → Kept s → 1 ≤ t → t ≤ s.layout.threads → (s.threads t).stage ≡ AtCondition c p → p.phase ≡ f → IsAtWord s t c f
is_at_word s t c p f inv pos known is phase = record { counter = fits.there; cell = fits.inside; there = is ∙ ap (AtCondition c) same }
  where
    fits : FitsAt s t (s.threads t).held c p
    fits = fits_at s t c p inv pos known is

    same : p ≡ cond_of s.layout t c f
    same = λ i. record { thread = fits.mine i; head = fits.head i; entry = fits.entry i; cell = fits.cell i; counter = fits.counter i; phase = phase i }
