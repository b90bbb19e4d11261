-- Where exchanges of locks lead: those that take, and those that set WAITERS.
use Rattle.std.proofs.Common.{◌≡◌, inl, inr, ℕ, ◌+◌, ◌*◌, ◌/◌, ◌%◌, ◌<◌, ◌==◌, Bool, true, false, [], ◌∷◌, refl, sym, ap, ◌∙◌, subst, arith}
use Rattle.std.specs.Prelude.{if◌then◌else◌, ◌&&◌}
use Rattle.lockword.specs.Cells.{bit, fields_of}
use Rattle.lockword.specs.declared.reply.Reply.{Reply}
use Rattle.lockword.specs.declared.reply.Reply.TheVariants.{OK, EOWNERDEAD}
use Rattle.memorymap.specs.Layouts.{cell_place}
use Rattle.robustlist.specs.Link.{link_started}
use Rattle.mutex.specs.declared.call.Call.TheVariants.{TimedLock, TryLock}
use Rattle.mutex.specs.declared.phase.Phase.{Phase}
use Rattle.mutex.specs.declared.phase.Phase.TheVariants.{AtCell, Linking}
use Rattle.mutex.specs.Rows.{acquired}
use Rattle.mutex.specs.Standings.{Whole}
use Rattle.mutex.specs.Whole.{leaving}
use Rattle.condvar.specs.declared.op.Op.{Op}
use Rattle.condvar.specs.declared.op.Op.TheVariants.{OnMutex, OnCondition}
use Rattle.condvar.specs.Ops.{mutex_of}
use Rattle.protocol.specs.declared.event.Event.TheVariants.{Step}
use Rattle.protocol.specs.declared.thread.Stage.{Stage}
use Rattle.protocol.specs.declared.thread.Stage.TheVariants.{Calling}
use Rattle.protocol.specs.Machine.{State, run}
use Rattle.protocol.proofs.Kept.{Kept}
use Rattle.protocol.proofs.Seeing.{entry_in, head_in}
use Rattle.slots.specs.Places.{cell_of, is_slot, our_own, slot_of}
use Rattle.slots.specs.Rows.{Choice, How, Row, Taking}
use Rattle.slots.specs.Rows.How.{Tried, Later, Waited}
use Rattle.slots.specs.Shown.{Slots, shown}
use Rattle.slots.specs.Stands.{IsIn, IsToLook, StandsAs, at_load}
use Rattle.slots.specs.Accesses.{Finds, IsAbout, IsAtRow}
use Rattle.slots.specs.Further.{MayTake}
use Rattle.slots.specs.Invariant.{fields_at}
use Rattle.slots.proofs.Chains.{lock_or_try}
use Rattle.slots.proofs.Decisions.{at_load_later}
use Rattle.slots.proofs.Free.{reached_kept}
use Rattle.slots.proofs.Leading.{IsAt, call_at, is_at, op_of}
use Rattle.slots.proofs.Meets.{cell_says}
use Rattle.slots.proofs.Shows.{shown_cell}
use Rattle.slots.proofs.Takes.{both_stage, load_of}

-- a call that has taken goes on to the link
links_from : (b : Bool) (p : Whole) (d : Bool) → leaving p (lock_or_try b) (if d then EOWNERDEAD else OK) ≡ Linking (link_started p.head p.entry) (if d then EOWNERDEAD else OK)
links_from true p true = refl
links_from true p false = refl
links_from false p true = refl
links_from false p false = refl

-- a slot says of its owner's death what the machine's word says
slot_died : (w n : ℕ) (b : Bool) → (fields_of (w + bit b 4294967296 + n * 8589934592)).died ≡ (fields_of w).died
slot_died w n true = ap (λ (z : ℕ). z == 1) (let e : (w + 4294967296 + n * 8589934592) / 1073741824 % 2 ≡ w / 1073741824 % 2 = omega arith in e)
slot_died w n false = ap (λ (z : ℕ). z == 1) (let e : (w + 0 + n * 8589934592) / 1073741824 % 2 ≡ w / 1073741824 % 2 = omega arith in e)

module _ (x : Slots) (t : ℕ) (c : Choice) (at : IsAtRow x t) where
  abbrev z : State
  z = x.machine

  abbrev g : Stage
  g = (z.threads t).stage

  inv : Kept z
  inv = reached_kept z at.reached

  -- the stage of a call on mutex k that has taken it
  abbrev linking : ℕ → Phase
  linking k = Linking (link_started (head_in z.layout t) (entry_in z.layout t k)) (acquired (fields_at z k))

  takes_to : (o : Op) (k : ℕ) (b : Bool) → op_of o ≡ lock_or_try b → mutex_of z.layout o ≡ k → IsAt z t o k (AtCell (load_of b)) → (fields_at z k).owner ≡ 0 → (fields_at z k).unusable ≡ false
      → ((run z (Step t ∷ Step t ∷ [])).threads t).stage ≡ Calling o (call_at z.layout t (op_of o) k (linking k))
  takes_to o k b op about a none usable =
      both_stage z t o (call_at z.layout t (op_of o) k (AtCell (load_of b))) b inv at.first at.last a.there at.out (ap (λ (j : ℕ). (fields_at z j).owner) about ∙ none) (ap (λ (j : ℕ). (fields_at z j).unusable) about ∙ usable) (linking k)
      ((λ i. leaving (call_at z.layout t (op_of o) k (AtCell (load_of b))) (op i) (acquired (fields_at z (about i)))) ∙ links_from b (call_at z.layout t (op_of o) k (AtCell (load_of b))) (fields_at z k).died) refl

  -- the reply that memory tells
  tells : (m v : ℕ) → cell_of m < z.layout.mutexes → shown x (cell_place z.layout (cell_of m)) ≡ v → acquired (fields_at z (cell_of m)) ≡ acquired (fields_of v)
  tells m v inside found = ap (λ (d : Bool). if d then EOWNERDEAD else OK) (sym (cell_says x m inside).died ∙ ap (λ (u : ℕ). (fields_of u).died) found)

  pub cell_taken : (k : Taking) (v : ℕ) (how : How) → MayTake x t k.mutex → Finds x (cell_of k.mutex) v → IsToLook k how g → IsAbout z.layout k.mutex g → StandsAs (Row.Links k.mutex (acquired (fields_of v))) ((run z (Step t ∷ Step t ∷ [])).threads t).stage
  cell_taken k v how may f there about = subst (λ (y : Reply). StandsAs (Row.Links k.mutex y) ((run z (Step t ∷ Step t ∷ [])).threads t).stage) (tells k.mutex v may.inside f.found) (go how there)
    where
      m : ℕ
      m = cell_of k.mutex

      go : (i : How) → IsToLook k i g → StandsAs (Row.Links k.mutex (acquired (fields_at z (cell_of k.mutex)))) ((run z (Step t ∷ Step t ∷ [])).threads t).stage
      go Tried (p, is, phase) = (_, inl (_, takes_to (OnMutex (TryLock (cell_of k.mutex))) (cell_of k.mutex) false refl refl (is_at z t (OnMutex (TryLock (cell_of k.mutex))) p (cell_of k.mutex) (AtCell (load_of false)) inv at.first at.last is phase refl) f.free f.usable, refl))
      go Later (p, is, phase) = (_, inr (inl (_, takes_to (OnMutex (TimedLock (cell_of k.mutex))) (cell_of k.mutex) true refl refl (is_at z t (OnMutex (TimedLock (cell_of k.mutex))) p (cell_of k.mutex) (AtCell (load_of true)) inv at.first at.last is phase refl) f.free f.usable, refl)))
      go (Waited y) (o, p, is, of, acts, phase) = (_, inr (inr (y, (o, _, takes_to (OnCondition o) (cell_of k.mutex) true refl (subst (IsAbout z.layout k.mutex) is about) (is_at z t (OnCondition o) p (cell_of k.mutex) (AtCell (load_of true)) inv at.first at.last is phase (subst (IsAbout z.layout k.mutex) is about)) f.free f.usable, of, acts, refl))))

  pub tried_taken : (m v : ℕ) → MayTake x t m → Finds x (cell_of m) v → IsIn (TryLock (cell_of m)) (AtCell (load_of false)) g → StandsAs (Row.Links m (acquired (fields_of v))) ((run z (Step t ∷ Step t ∷ [])).threads t).stage
  tried_taken m v may f (p, is, phase) = subst (λ (y : Reply). StandsAs (Row.Links m y) ((run z (Step t ∷ Step t ∷ [])).threads t).stage) (tells m v may.inside f.found)
      (_, inl (_, takes_to (OnMutex (TryLock (cell_of m))) (cell_of m) false refl refl (is_at z t (OnMutex (TryLock (cell_of m))) p (cell_of m) (AtCell (load_of false)) inv at.first at.last is phase refl) f.free f.usable, refl))

  pub heir_taken : (k : Taking) (v : ℕ) → MayTake x t k.mutex → Finds x (cell_of k.mutex) v → IsIn (TimedLock (cell_of k.mutex)) at_load g → StandsAs (Row.HeirHas k (acquired (fields_of v))) ((run z (Step t ∷ Step t ∷ [])).threads t).stage
  heir_taken k v may f there = subst (λ (y : Reply). StandsAs (Row.HeirHas k y) ((run z (Step t ∷ Step t ∷ [])).threads t).stage) (tells k.mutex v may.inside f.found)
      (_, (_, takes_to (OnMutex (TimedLock (cell_of k.mutex))) (cell_of k.mutex) true refl refl (at_load_later x t c at k.mutex there) f.free f.usable, refl))

  pub slot_taken : (k : Taking) (v : ℕ) → slot_of k.mutex < z.layout.mutexes → Finds x (slot_of k.mutex) v → IsIn (TryLock (slot_of k.mutex)) (AtCell (load_of false)) g → StandsAs (Row.SlotLinks k (fields_of v).died) ((run z (Step t ∷ Step t ∷ [])).threads t).stage
  slot_taken k v inside f (p, is, phase) = subst (λ (d : Bool). StandsAs (Row.SlotLinks k d) ((run z (Step t ∷ Step t ∷ [])).threads t).stage) died
      (_, (_, takes_to (OnMutex (TryLock (slot_of k.mutex))) (slot_of k.mutex) false refl refl (is_at z t (OnMutex (TryLock (slot_of k.mutex))) p (slot_of k.mutex) (AtCell (load_of false)) inv at.first at.last is phase refl) f.free f.usable, refl))
    where
      died : (fields_at z (slot_of k.mutex)).died ≡ (fields_of v).died
      died = sym (slot_died (z.words (cell_place z.layout (slot_of k.mutex))) (x.turns (slot_of k.mutex)) (is_slot (slot_of k.mutex) && x.awake (our_own (slot_of k.mutex)))) ∙ ap (λ (u : ℕ). (fields_of u).died) (sym (shown_cell x (slot_of k.mutex) inside) ∙ f.found)
