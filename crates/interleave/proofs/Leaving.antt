-- Sleepers that leave their queue by themselves, and trims that are declined: a write into the lists is a write into the state.
use Rattle.std.proofs.Common.{◌≡◌, ℕ, ◌≤◌, Bool, true, false, ◌&&◌, List, refl, sym, ap, ◌∙◌, arith}
use Rattle.std.specs.Prelude.{if◌then◌else◌, not}
use Rattle.std.proofs.lemmas.Bool.Decides.{nat_tests}
use mathlib.Core.Path.{fun_ext}
use Rattle.memorymap.specs.Layouts.{Layout'}
use Rattle.stepprograms.specs.declared.access.Answer.TheVariants.{Trimmed}
use Rattle.stepprograms.specs.declared.access.Access.{Access}
use Rattle.mutex.specs.Standings.{Whole}
use Rattle.mutex.specs.Whole.{whole_access, whole_led}
use Rattle.condvar.specs.Ops.{mutex_of}
use Rattle.condvar.specs.declared.op.Op.{Op}
use Rattle.syscalls.specs.Kernels.{Kernel', Leaves, queue_of}
use Rattle.protocol.specs.declared.event.Event.TheVariants.{Leave, Decline}
use Rattle.protocol.specs.declared.note.Note.TheVariants.{Left}
use Rattle.protocol.specs.declared.thread.Thread.{Thread}
use Rattle.protocol.specs.declared.thread.Stage.{Stage}
use Rattle.protocol.specs.declared.thread.Stage.TheVariants.{Calling}
use Rattle.protocol.specs.Machine.{State, After, has_thread, is_asleep, is_trim, nothing, departed, spared, declined, sleeps, led, happens}
use Rattle.protocol.proofs.Queues.{without_same}
use Rattle.interleave.specs.Shown.{state_at}
use Rattle.interleave.specs.Steps.{SleepsInItsCall}
use Rattle.interleave.proofs.Sleeping.{outside, told_asleep}

module _ (l : Layout') (ws : List ℕ) (kernel after : Kernel') (ts : List Thread) (t : ℕ) (first : 1 ≤ t) (known : t ≤ l.threads) (in_call : SleepsInItsCall (state_at l ws kernel ts) t) where
  abbrev s : State
  s = state_at l ws kernel ts

  there : has_thread s t ≡ true
  there = grind (arith, nat_tests)

  -- whoever stood in a queue left it
  module _ (left : Leaves kernel after t true) where
    happens_so : happens s (Leave t) ≡ departed s t
    happens_so =
        ap (λ (b : Bool). if b && is_asleep s t then departed s t else nothing s) there
        ∙ ap (λ (b : Bool). if b then departed s t else nothing s) (sym (told_asleep s kernel t (λ key. refl) in_call true left.answer))

    pub left_state : state_at l ws after ts ≡ (happens s (Leave t)).state
    left_state = (λ i. record s { queues = fun_ext left.queues i }) ∙ sym (ap (λ (a : After). a.state) happens_so)

    pub left_note : Left t ≡ (happens s (Leave t)).note
    left_note = sym (ap (λ (a : After). a.note) happens_so)

  -- whoever was in none stays
  module _ (left : Leaves kernel after t false) where
    rests : happens s (Leave t) ≡ nothing s
    rests =
        ap (λ (b : Bool). if b && is_asleep s t then departed s t else nothing s) there
        ∙ ap (λ (b : Bool). if b then departed s t else nothing s) (sym (told_asleep s kernel t (λ key. refl) in_call false left.answer))

    same : (key : ℕ) → queue_of after key ≡ queue_of kernel key
    same key = left.queues key ∙ without_same t (queue_of kernel key) (outside t (queue_of kernel key) (left.answer key))

    pub stayed_state : state_at l ws after ts ≡ (happens s (Leave t)).state
    stayed_state = (λ i. record s { queues = fun_ext same i }) ∙ sym (ap (λ (a : After). a.state) rests)

    pub stayed_note : (happens s (Leave t)).note ≡ (nothing s).note
    stayed_note = ap (λ (a : After). a.note) rests

-- ---- declines

-- a thread that sleeps isn't about to trim, and no more is one whose next access is another
neither : (b : Bool) (x y : After) → (if b && false then x else y) ≡ y
neither true x y = refl
neither false x y = refl

declined_asleep : (s : State) (t held : ℕ) (g : Stage) → sleeps s t g ≡ true → declined s t held g ≡ nothing s
declined_asleep s t held (Calling o p) e =
    ap (λ (b : Bool). if is_trim (whole_access p) && not b then spared s t held (mutex_of s.layout o) (led o p (whole_led p (Trimmed false))) else nothing s) e
    ∙ neither (is_trim (whole_access p)) (spared s t held (mutex_of s.layout o) (led o p (whole_led p (Trimmed false)))) (nothing s)
declined_asleep s t held g e = refl

pub asleep_rests : (s : State) (t : ℕ) → is_asleep s t ≡ true → happens s (Decline t) ≡ nothing s
asleep_rests s t e = go (has_thread s t)
  where
    go : (b : Bool) → (if b then declined s t (s.threads t).held (s.threads t).stage else nothing s) ≡ nothing s
    go true = declined_asleep s t (s.threads t).held (s.threads t).stage e
    go false = refl

no_trim : (a : Access) → ((at : ℕ) → a ≡ Access.Trim at → ⊥) → is_trim a ≡ false
no_trim (Access.Trim at) other = absurd (other at refl)
no_trim a other = refl

pub no_trim_rests : (s : State) (t : ℕ) (o : Op) (p : Whole) (a : Access) → (s.threads t).stage ≡ Calling o p → a ≡ whole_access p → ((at : ℕ) → a ≡ Access.Trim at → ⊥) → happens s (Decline t) ≡ nothing s
no_trim_rests s t o p a is next other = go (has_thread s t)
  where
    trims : is_trim (whole_access p) ≡ false
    trims = sym (ap is_trim next) ∙ no_trim a other

    go : (b : Bool) → (if b then declined s t (s.threads t).held (s.threads t).stage else nothing s) ≡ nothing s
    go true =
        ap (declined s t (s.threads t).held) is
        ∙ ap (λ (b : Bool). if b && not (sleeps s t (Calling o p)) then spared s t (s.threads t).held (mutex_of s.layout o) (led o p (whole_led p (Trimmed false))) else nothing s) trims
    go false = refl

-- one that is about to trim goes on as if its trim had cleared nothing
module _ (s : State) (t : ℕ) (o : Op) (p : Whole) (th : Thread) (there : has_thread s t ≡ true) (e : s.threads t ≡ th) (is : th.stage ≡ Calling o p) (trims : is_trim (whole_access p) ≡ true) (awake : is_asleep s t ≡ false) where
  abbrev goes : After
  goes = spared s t th.held (mutex_of s.layout o) (led o p (whole_led p (Trimmed false)))

  pub declined_by : happens s (Decline t) ≡ spared s t th.held (mutex_of s.layout o) (led o p (whole_led p (Trimmed false)))
  declined_by =
      ap (λ (b : Bool). if b then declined s t (s.threads t).held (s.threads t).stage else nothing s) there
      ∙ ap (λ (z : Thread). declined s t z.held z.stage) e
      ∙ ap (declined s t th.held) is
      ∙ ap (λ (b : Bool). if b && not (sleeps s t (Calling o p)) then goes else nothing s) trims
      ∙ ap (λ (b : Bool). if not b then goes else nothing s) (sym (ap (sleeps s t) (ap (λ (z : Thread). z.stage) e ∙ is)) ∙ awake)
