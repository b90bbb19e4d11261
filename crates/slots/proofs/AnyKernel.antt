-- If a kernel wakes one that sleeps on a mutex, that is as if the sleep had been interrupted.
use mathlib.Core.Path.{fun_ext}
use Rattle.std.proofs.Common.{◌≡◌, ℕ, ◌<◌, ◌≤◌, Bool, true, false, List, [], ◌∷◌, refl, sym, ap, ◌∙◌, subst, arith}
use Rattle.std.specs.Prelude.{if◌then◌else◌, ◌&&◌, nat_lt}
use Rattle.std.proofs.lemmas.Bool.Decides.{nat_tests}
use Rattle.memorymap.specs.Layouts.{cell_place}
use Rattle.buckets.specs.Queues.{without}
use Rattle.protocol.specs.declared.event.Event.TheVariants.{Leave}
use Rattle.protocol.specs.Machine.{State, After, departed, happens, has_thread, is_asleep, nothing, put, stands_in}
use Rattle.protocol.proofs.Events.{is_known}
use Rattle.protocol.proofs.Puts.{by_put}
use Rattle.protocol.proofs.Queued.{Queued, asleep_there}
use Rattle.protocol.proofs.Queues.{Once, first_stands, not_true, without_same}
use Rattle.slots.specs.Shown.{Slots, begin, turned}
use Rattle.slots.specs.Runs.{Happening, events_of, next, reached_from}
use Rattle.slots.specs.Runs.Happening.{Interrupts}
use Rattle.slots.specs.Kernels.{AllTrustedInAny, AnyHappening, AnyKernelWillDo, RousesNobody, next_in_any, reached_in_any, roused, without_one}
use Rattle.slots.specs.Kernels.AnyHappening.{Happens, Rouses}
use Rattle.slots.specs.Laws.{IsReached}
use Rattle.slots.specs.Premises.{AllTrusted}
use Rattle.slots.proofs.AllRows.{reached_run}
use Rattle.slots.proofs.Free.{empty_where, reached_queued}
use Rattle.slots.proofs.Kernels.{dropped}
use Rattle.slots.proofs.Leading.{by_test}
use Rattle.slots.proofs.MachineRuns.{next_is}
use Rattle.slots.proofs.Shows.{turn_stays}

inside_if : (k n : ℕ) → nat_lt k n ≡ true → k < n
inside_if k n e = grind (arith, nat_tests)

without_first : (u : ℕ) (us : List ℕ) → stands_in u us ≡ false → without u (u ∷ us) ≡ us
without_first u us out = grind (arith, without_same u us)

module _ (x : Slots) (k : ℕ) (from : IsReached x.machine) where
  abbrev z : State
  z = x.machine

  abbrev at : ℕ
  at = cell_place z.layout k

  queued : Queued z
  queued = reached_queued z from

  with_queues : (ℕ → List ℕ) → Slots
  with_queues q = record x { machine = record z { queues = q } }

  roused_nobody : z.queues at ≡ [] → roused x k ≡ x
  roused_nobody none = ap (λ (q : ℕ → List ℕ). record x { machine = record z { queues = q } })
      (fun_ext (λ p. by_put (λ (q : List ℕ). q ≡ z.queues p) z.queues at (without_one (z.queues at)) p (λ here. dropped 1 (z.queues at) none ∙ ap z.queues (sym here)) (λ apart. refl)))

  module _ (u : ℕ) (us : List ℕ) (is : z.queues at ≡ u ∷ us) where
    stands : stands_in u (z.queues at) ≡ true
    stands = ap (stands_in u) is ∙ first_stands u us

    pub first : 1 ≤ u
    first = (queued.sleeps at u stands).0

    pub last : u ≤ z.layout.threads
    last = (queued.sleeps at u stands).1

    both : (has_thread z u && is_asleep z u) ≡ true
    both = λ i. is_known z u first last i && asleep_there z u at queued stands i

    goes : happens z (Leave u) ≡ departed z u
    goes = ap (λ (b : Bool). if b then departed z u else nothing z) both

    alone : stands_in u us ≡ false
    alone = (subst Once is (queued.once at)).0

    leaves : (p : ℕ) → put z.queues at (without_one (z.queues at)) p ≡ without u (z.queues p)
    leaves p = by_put (λ (q : List ℕ). q ≡ without u (z.queues p)) z.queues at (without_one (z.queues at)) p
        (λ here. ap without_one is ∙ sym (without_first u us alone) ∙ ap (without u) (sym is) ∙ ap (λ (j : ℕ). without u (z.queues j)) (sym here))
        (λ apart. sym (without_same u (z.queues p) (not_true (stands_in u (z.queues p)) (λ there. apart (queued.one u p at there stands)))))

    pub roused_one : roused x k ≡ next x (Interrupts u)
    roused_one = ap (λ (q : ℕ → List ℕ). record x { machine = record z { queues = q } }) (fun_ext leaves)
        ∙ ap (λ (f : ℕ → ℕ). record x { machine = (departed z u).state; turns = f }) (fun_ext (λ j. sym (turn_stays z (departed z u).state x.turns j refl refl)))
        ∙ ap (λ (a : After). record x { machine = a.state; turns = turned z a.state x.turns }) (sym goes)

pub rouses_nobody : RousesNobody
rouses_nobody x k from alone = by_test (λ (y : Slots). y ≡ x) (nat_lt k x.machine.layout.mutexes) (roused x k) x
    (λ e. roused_nobody x k from (empty_where (x.machine.queues (cell_place x.machine.layout k)) (λ u there. absurd (cc (sym ((reached_queued x.machine from).bits k u (inside_if k x.machine.layout.mutexes e) there) ∙ alone)))))
    (λ e. refl)

-- ---- runs

abbrev Ordinary : Slots → Slots → Type 0
Ordinary x y = (hs : List Happening) × AllTrusted x hs × (y ≡ reached_from x hs)

abbrev Later : List AnyHappening → Type 0
Later ks = (y : Slots) → IsReached y.machine → AllTrustedInAny y ks → Ordinary y (reached_in_any y ks)

ordinary : (x : Slots) (ks : List AnyHappening) → IsReached x.machine → AllTrustedInAny x ks → Ordinary x (reached_in_any x ks)
ordinary x [] from trusted = ([], tt, refl)
ordinary x (Happens h ∷ ks) from (w, trusted) =
    let rest = ordinary (next x h) ks (subst IsReached (sym (next_is x h)) (reached_run x.machine (events_of x h) from)) trusted in
    (h ∷ rest.0, (w, rest.1), rest.2)
ordinary x (Rouses k ∷ ks) from trusted = go (λ y. ordinary y ks) (nat_lt k x.machine.layout.mutexes) refl (x.machine.queues (cell_place x.machine.layout k)) refl
  where
    nothing_more : Later ks → next_in_any x (Rouses k) ≡ x → Ordinary x (reached_in_any (next_in_any x (Rouses k)) ks)
    nothing_more later same = subst (λ (y : Slots). Ordinary x (reached_in_any y ks)) (sym same) (later x from (subst (λ (y : Slots). AllTrustedInAny y ks) same trusted))

    one_more : Later ks → (u : ℕ) → 1 ≤ u → u ≤ x.machine.layout.threads → next_in_any x (Rouses k) ≡ next x (Interrupts u) → Ordinary x (reached_in_any (next_in_any x (Rouses k)) ks)
    one_more later u first last same =
        let rest = later (next x (Interrupts u)) (reached_run x.machine (Leave u ∷ []) from) (subst (λ (y : Slots). AllTrustedInAny y ks) same trusted) in
        subst (λ (y : Slots). Ordinary x (reached_in_any y ks)) (sym same) (Interrupts u ∷ rest.0, ((first, last, tt), rest.1), rest.2)

    where_inside : nat_lt k x.machine.layout.mutexes ≡ true → (y : Slots) → roused x k ≡ y → next_in_any x (Rouses k) ≡ y
    where_inside e y same = ap (λ (b : Bool). if b then roused x k else x) e ∙ same

    go : Later ks → (b : Bool) → nat_lt k x.machine.layout.mutexes ≡ b → (q : List ℕ) → x.machine.queues (cell_place x.machine.layout k) ≡ q → Ordinary x (reached_in_any (next_in_any x (Rouses k)) ks)
    go later false e q is = nothing_more later (ap (λ (b : Bool). if b then roused x k else x) e)
    go later true e [] is = nothing_more later (where_inside e x (roused_nobody x k from is))
    go later true e (u ∷ us) is = one_more later u (first x k from u us is) (last x k from u us is) (where_inside e (next x (Interrupts u)) (roused_one x k from u us is))

pub any_kernel : AnyKernelWillDo
any_kernel l ks is trusted = ordinary (begin l) ks (record { layout = l; counters = λ c. 0; events = []; is = is; here = refl }) trusted
