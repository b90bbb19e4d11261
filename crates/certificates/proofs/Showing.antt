-- Which threads are doomed.
use Rattle.std.proofs.Common.{◌≡◌, ◌≢◌, ℕ, ◌<◌, ◌==◌, Bool, true, false, List, length, refl, ap, ◌∙◌, arith, get_or-set_same, get_or-set_other}
use Rattle.std.specs.Prelude.{if◌then◌else◌, slice_set}
use Rattle.std.proofs.lemmas.Bool.Decides.{nat_tests}
use mathlib.Core.Path.{fun_ext}
use Rattle.facts.specs.declared.fact.Fact.{Fact}
use Rattle.verdict.specs.Earlier.{is_killed}
use Rattle.verdict.proofs.Stages.{Kept}
use Rattle.histories.specs.Histories.{nobody, with, without}
use Rattle.histories.specs.declared.head.Head.{Head}
use Rattle.certificates.specs.declared.phase.Phase.{Phase}
use Rattle.certificates.specs.declared.phase.Phase.TheVariants.{Resting, Calling, Dying, Reaped}
use Rattle.certificates.specs.declared.state.State.{State}
use Rattle.certificates.specs.Phases.{stage_of}
use Rattle.certificates.specs.States.{IsAlive, IsNew, doom_at}

pub with_one : (ds : List Bool) (t : ℕ) → t < length ds → doom_at (slice_set ds t true) ≡ with t (doom_at ds)
with_one ds t lt = fun_ext (λ u. by_cases u (t == u) refl) where
  by_cases : (u : ℕ) (b : Bool) → (t == u) ≡ b → doom_at (slice_set ds t true) u ≡ (if b then true else doom_at ds u)
  by_cases u true is =
      let same : u ≡ t = grind (arith, nat_tests) in
      ap (doom_at (slice_set ds t true)) same ∙ get_or-set_same ds t true false lt
  by_cases u false is =
      let other : u ≢ t = grind (arith, nat_tests) in
      get_or-set_other ds t u true false other

pub without_one : (ds : List Bool) (t : ℕ) → t < length ds → doom_at (slice_set ds t false) ≡ without t (doom_at ds)
without_one ds t lt = fun_ext (λ u. by_cases u (t == u) refl) where
  by_cases : (u : ℕ) (b : Bool) → (t == u) ≡ b → doom_at (slice_set ds t false) u ≡ (if b then false else doom_at ds u)
  by_cases u true is =
      let same : u ≡ t = grind (arith, nat_tests) in
      ap (doom_at (slice_set ds t false)) same ∙ get_or-set_same ds t false false lt
  by_cases u false is =
      let other : u ≢ t = grind (arith, nat_tests) in
      get_or-set_other ds t u false false other

pub nobody_yet : (h : Head) (s : State) → IsNew h s → doom_at s.doomed.items ≡ nobody
nobody_yet h s new = fun_ext new.doomed

pub alive : (p : Phase) (fs : List Fact) → IsAlive p → Kept (stage_of p) fs → is_killed fs ≡ false
alive Resting fs a k = k.2
alive (Calling c m) fs a k = k.2
alive Dying fs a k = absurd a
alive Reaped fs a k = absurd a
