-- Events at positions that are kept.
use Rattle.std.proofs.Common.{◌≡◌, ℕ, zero, suc, ◌<◌, ◌≤◌, Bool, true, false, ◌&&◌, List, [], ◌∷◌, length, Option, Some, refl, sym, ap, ◌∙◌, subst, arith}
use Rattle.std.specs.Prelude.{not, if◌then◌else◌, slice_index}
use Rattle.std.proofs.lemmas.Bool.Decides.{nat_tests}
use Rattle.memorymap.specs.Layouts.{Layout', IsLayout, cell_place}
use Rattle.posixmutex.specs.declared.point.Operation.{Operation}
use Rattle.lockword.specs.Cells.{Fields, fields_of}
use Rattle.lockword.specs.Threads.{most_threads}
use Rattle.posixmutex.specs.declared.object.Object.{Object}
use Rattle.posixmutex.specs.Objects.{object_of, owner_of}
use Rattle.protocol.specs.Headline.{seen}
use Rattle.protocol.proofs.Steps.{seen-inside}
use Rattle.interleave.proofs.Reaches.{owner_is}
use Rattle.std.specs.Option.{SomeIff}
use Rattle.condvar.specs.Standings.{CondWhole}
use Rattle.condvar.specs.declared.phase.CondPhase.{CondPhase}
use Rattle.condvar.specs.declared.phase.CondPhase.TheVariants as cond
use Rattle.condvar.specs.declared.op.Op.{Op}
use Rattle.condvar.specs.Ops.{is_in}
use Rattle.mutex.specs.Standings.{Whole}
use Rattle.protocol.specs.declared.event.Event.{Event}
use Rattle.protocol.specs.declared.event.Event.TheVariants.{Begin, Step, Kill, Leave, Expire, Decline, Renew, Remake, Spare}
use Rattle.protocol.specs.declared.note.Note.{Note}
use Rattle.protocol.specs.declared.thread.Stage.{Stage}
use Rattle.protocol.specs.declared.thread.Stage.TheVariants.{Idle, Calling, AtCondition, Dying, Reaped}
use Rattle.protocol.specs.declared.thread.Thread.{Thread}
use Rattle.protocol.specs.Machine.{State, happens, start, nothing, has_thread, is_idle, is_alive, is_asleep, may_begin, begun, first_stage, stepped, killed, departed, expired, sparing}
use Rattle.condvar.specs.Ops.{may_call}
use Rattle.protocol.proofs.Kept.{Kept, Sits, AtPhase}
use Rattle.protocol.proofs.Runs.{start_kept, run_kept, run_layout}
use Rattle.interleave.specs.Notes.{is_nothing}
use Rattle.interleave.specs.Shown.{Shown, state_of, thread_at}
use Rattle.interleave.specs.Saved.{saved_state}
use Rattle.interleave.specs.Steps.{IsOnItsWay}
use Rattle.interleave.proofs.Reaches.{kept_step}
use Rattle.outcomes.specs.declared.plan.Plan.{Plan}
use Rattle.outcomes.specs.declared.kept.Kept as kept
use Rattle.outcomes.specs.Positions.{Position, rests}
use Rattle.outcomes.specs.Events.{MayCome, is_out}
use Rattle.outcomes.specs.Comparisons.{IsBefore, IsComparable, AreComparable}
use Rattle.outcomes.specs.Kept.{position_in, IsKept}
use Rattle.outcomes.specs.Searches.{thread_of}

-- the law's invariant holds of what was reached
pub saved_kept : (plan : Plan) (k : kept.Kept) → IsKept plan k → Kept (position_in plan.layout k).state
saved_kept plan k h =
    let r = h.saved in
    subst Kept (sym r.is) (run_kept (start plan.layout r.counters) r.events (start_kept plan.layout r.counters r.layout))

-- an event keeps the layout
happens_layout : (s : State) (e : Event) → Kept s → (happens s e).state.layout ≡ s.layout
happens_layout s e inv = run_layout s (e ∷ []) inv

-- ---- a machine that is restored, and makes an event

module _ (plan : Plan) (k : kept.Kept) (m m' m'' : Shown) (e : Event) (h : IsKept plan k) (same : m.layout ≡ plan.layout) (restored : state_of m' ≡ saved_state m.layout k.saved) (goes : state_of m'' ≡ (happens (state_of m') e).state) where
  pub at_first : state_of m' ≡ saved_state plan.layout k.saved
  at_first = restored ∙ ap (λ (l : Layout'). saved_state l k.saved) same

  pub layout_then : m''.layout ≡ plan.layout
  layout_then = ap (λ (s : State). s.layout) goes ∙ ap (λ (s : State). (happens s e).state.layout) at_first ∙ happens_layout (saved_state plan.layout k.saved) e (saved_kept plan k h)

  pub state_then : state_of m'' ≡ (happens (saved_state plan.layout k.saved) e).state
  state_then = goes ∙ ap (λ (s : State). (happens s e).state) at_first

  pub note_then : (n : Note) → n ≡ (happens (state_of m') e).note → n ≡ (happens (saved_state plan.layout k.saved) e).note
  note_then n is = is ∙ ap (λ (s : State). (happens s e).note) at_first

-- ---- threads are comparable

before_at : (t held : ℕ) (op : Operation) (p : CondWhole) (f : CondPhase) (c : Fields) → AtPhase t held op p f c → IsBefore f
before_at t held op p (cond.AtWords r) c h = tt
before_at t held op p (cond.Announcing seen) c h = tt
before_at t held op p (cond.Unlinking u seen) c h = tt
before_at t held op p (cond.Locking w) c h = absurd h
before_at t held op p (cond.Ended x) c h = absurd h

comparable_at : (s : State) → Kept s → IsLayout s.layout → (t : ℕ) → 1 ≤ t → t ≤ s.layout.threads → IsComparable (s.threads t).stage
comparable_at s inv is t first last = go (s.threads t).stage (inv.sits t first last) (kept_step s inv is t first last).0
  where
    go : (g : Stage) → Sits s t (s.threads t).held g → IsOnItsWay s.layout g → IsComparable g
    go Idle f way = tt
    go (Calling o p) f way = way.2
    go (AtCondition c p) f way = before_at t (s.threads t).held _ p p.phase _ f.stands
    go (Dying w) f way = tt
    go Reaped f way = tt

all_comparable : (ts : List Thread) → ((i : ℕ) → i < length ts → IsComparable (thread_at ts (suc i)).stage) → AreComparable ts
all_comparable [] each = tt
all_comparable (th ∷ ths) each = (each 0 (omega arith), all_comparable ths (λ i lt. each (suc i) (omega (arith, lt))))

pub comparable : (plan : Plan) (k : kept.Kept) → IsKept plan k → AreComparable k.saved.threads.items
comparable plan k h = all_comparable k.saved.threads.items (λ i lt. let n = h.saved.threads in comparable_at (position_in plan.layout k).state (saved_kept plan k h) h.saved.layout (suc i) (omega arith) (omega arith))

-- what a thread calls is the layout's
pub is_inside : (plan : Plan) (k : kept.Kept) → IsKept plan k → (t : ℕ) (o : Op) (p : Whole) → 1 ≤ t → t ≤ plan.layout.threads → (thread_at k.saved.threads.items t).stage ≡ Calling o p → is_in plan.layout o ≡ true
is_inside plan k h t o p first last is =
    (subst (λ (g : Stage). IsOnItsWay plan.layout g) is (kept_step (position_in plan.layout k).state (saved_kept plan k h) h.saved.layout t first last).0).0

-- ---- whose events come

no_thread : (s : State) (t : ℕ) → (has_thread s t ≡ false → ⊥) → (1 ≤ t) × (t ≤ s.layout.threads)
no_thread s t there = go (has_thread s t) refl
  where
    go : (b : Bool) → has_thread s t ≡ b → (1 ≤ t) × (t ≤ s.layout.threads)
    go true e = (grind (arith, nat_tests), grind (arith, nat_tests))
    go false e = absurd (there e)

-- an event that does something is of a thread that is there
pub of_a_thread : (plan : Plan) (p : Position) (e : Event) → MayCome plan p e → (1 ≤ thread_of e) × (thread_of e ≤ p.state.layout.threads)
of_a_thread plan p (Begin t o) h = no_thread p.state t (λ none. let does = h.1 in let s = p.state in
    let never : may_begin s t o ≡ false = ap (λ (b : Bool). (b && is_idle (s.threads t).stage) && may_call s.layout o) none in
    let nothing_comes : happens s (Begin t o) ≡ nothing s = ap (λ (b : Bool). if b then begun s t o (first_stage s.layout t (s.threads t).held o) else nothing s) never in
    let says : is_nothing (happens s (Begin t o)).note ≡ true = ap (λ a. is_nothing a.note) nothing_comes in cc)
of_a_thread plan p (Step t) h = no_thread p.state t (λ none. let does = h.1 in let s = p.state in
    let says : is_nothing (happens s (Step t)).note ≡ true = ap (λ (b : Bool). is_nothing (if b then stepped s t (s.threads t).held (s.threads t).stage else nothing s).note) none in cc)
of_a_thread plan p (Kill t) h = no_thread p.state t (λ none. let does = h.1 in let s = p.state in
    let says : is_nothing (happens s (Kill t)).note ≡ true = ap (λ (b : Bool). is_nothing (if b && is_alive (s.threads t).stage then killed s t else nothing s).note) none in cc)
of_a_thread plan p (Leave t) h = no_thread p.state t (λ none. let does = h.1 in let s = p.state in
    let says : is_nothing (happens s (Leave t)).note ≡ true = ap (λ (b : Bool). is_nothing (if b && is_asleep s t then departed s t else nothing s).note) none in cc)
of_a_thread plan p (Expire t) h = no_thread p.state t (λ none. let does = h.1 in let s = p.state in
    let says : is_nothing (happens s (Expire t)).note ≡ true = ap (λ (b : Bool). is_nothing (if b then expired s t (s.threads t).held (s.threads t).stage else nothing s).note) none in cc)
of_a_thread plan p (Spare t by) h = no_thread p.state t (λ none. let does = h.1 in let s = p.state in
    let says : is_nothing (happens s (Spare t by)).note ≡ true = ap (λ (b : Bool). is_nothing (if b then sparing s t by (s.threads t).held (s.threads t).stage else nothing s).note) none in cc)
of_a_thread plan p (Decline t) h = absurd h.0
of_a_thread plan p (Renew t) h = absurd h.0
of_a_thread plan p (Remake t m) h = absurd h.0

-- and one that its thread isn't where it can make does nothing
not_true : (b : Bool) → not b ≡ true → b ≡ false
not_true true h = absurd cc
not_true false h = refl

still_idle : (s : State) (t : ℕ) (o : Op) → is_idle (s.threads t).stage ≡ false → is_nothing (happens s (Begin t o)).note ≡ true
still_idle s t o busy =
    let never : may_begin s t o ≡ false = ap (λ (b : Bool). (has_thread s t && b) && may_call s.layout o) busy ∙ go (has_thread s t) in
    ap (λ (b : Bool). is_nothing (if b then begun s t o (first_stage s.layout t (s.threads t).held o) else nothing s).note) never
  where
    go : (b : Bool) → ((b && false) && may_call s.layout o) ≡ false
    go true = refl
    go false = refl

still_at_rest : (s : State) (t : ℕ) → rests (s.threads t).stage ≡ true → is_nothing (happens s (Step t)).note ≡ true
still_at_rest s t h = go (has_thread s t) (s.threads t).stage h
  where
    go : (b : Bool) (g : Stage) → rests g ≡ true → is_nothing (if b then stepped s t (s.threads t).held g else nothing s).note ≡ true
    go false g h = refl
    go true Idle h = refl
    go true Reaped h = refl
    go true (Calling o p) h = absurd cc
    go true (AtCondition c p) h = absurd cc
    go true (Dying w) h = absurd cc

pub ruled_out : (s : State) (e : Event) → is_out (s.threads (thread_of e)).stage e ≡ true → is_nothing (happens s e).note ≡ true
ruled_out s (Begin t o) h = still_idle s t o (not_true (is_idle (s.threads t).stage) h)
ruled_out s (Step t) h = still_at_rest s t h
ruled_out s (Kill t) h = absurd cc
ruled_out s (Leave t) h = absurd cc
ruled_out s (Expire t) h = absurd cc
ruled_out s (Decline t) h = absurd cc
ruled_out s (Renew t) h = absurd cc
ruled_out s (Remake t m) h = absurd cc
ruled_out s (Spare t by) h = absurd cc

-- ---- owners

-- a mutex's owner is 0 or a thread
owner_small : (s : State) → Kept s → IsLayout s.layout → (k o : ℕ) → k < s.layout.mutexes → o ≡ (fields_of (s.words (cell_place s.layout k))).owner → o ≤ most_threads
owner_small s inv is k zero inside e = omega arith
owner_small s inv is k (suc n) inside e =
    let own : (seen s k).owner ≡ Some (suc n) = ap (λ (o : Object). o.owner) (seen-inside s k inside) ∙ ap owner_of (sym e) in
    let known = inv.owners k (suc n) own in
    let most = is.threads.1 in omega arith

pub owner_fits : (plan : Plan) (k : kept.Kept) → IsKept plan k → (m : ℕ) → m < plan.layout.mutexes → (fields_of (slice_index k.saved.words.items (cell_place plan.layout m))).owner ≤ most_threads
owner_fits plan k h m inside = owner_small (position_in plan.layout k).state (saved_kept plan k h) h.saved.layout m _ inside refl

-- a mutex that is read from its word
pub seen_is : (plan : Plan) (k : kept.Kept) → IsKept plan k → (m w : ℕ) (c : Fields) (owner : Option ℕ) (died unusable : Bool) → m < plan.layout.mutexes → w ≡ slice_index k.saved.words.items (cell_place plan.layout m) → c ≡ fields_of w
    → SomeIff owner ((1 ≤ c.owner) × (c.owner ≤ most_threads)) c.owner → died ≡ c.died → unusable ≡ c.unusable → record { owner = owner; inconsistent = died; unusable = unusable } ≡ seen (position_in plan.layout k).state m
seen_is plan k h m w c owner died unusable inside word cell is d u =
    let fields : c ≡ fields_of (slice_index k.saved.words.items (cell_place plan.layout m)) = cell ∙ ap fields_of word in
    let small : c.owner ≤ most_threads = subst (λ (f : Fields). f.owner ≤ most_threads) (sym fields) (owner_fits plan k h m inside) in
    (λ i. record { owner = owner_is owner c.owner is small i; inconsistent = d i; unusable = u i }) ∙ ap object_of fields ∙ sym (seen-inside (position_in plan.layout k).state m inside)
