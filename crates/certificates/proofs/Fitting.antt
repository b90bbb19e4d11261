-- What is kept of a certificate says what its lines so far told.
use Rattle.std.proofs.Common.{◌≡◌, ◌≢◌, ℕ, ◌<◌, ◌==◌, ◌+◌, Bool, true, false, List, [], ◌∷◌, length, refl, sym, ap, subst, ◌∙◌, arith, get_or-set_same, get_or-set_other}
use Rattle.std.specs.Prelude.{if◌then◌else◌, slice_index, slice_set}
use Rattle.std.proofs.lemmas.Bool.Decides.{nat_tests}
use mathlib.Core.Path.{fun_ext}
use Rattle.posixmutex.specs.declared.object.Object.{Object}
use Rattle.facts.specs.Lives.{IsWait}
use Rattle.facts.specs.declared.fact.Begun.{Begun}
use Rattle.facts.specs.declared.fact.Fact.{Fact}
use Rattle.facts.specs.declared.fact.Fact.TheVariants.{Point}
use Rattle.facts.specs.declared.fact.Line.{Line}
use Rattle.facts.specs.Facts.{thread_of, decision_of}
use Rattle.facts.specs.Orders.{Each, Later}
use Rattle.verdict.specs.Earlier.{begun_at, freed_at, moved, objects_after, told_of}
use Rattle.verdict.specs.Fits.{Allows, Fits, IsDue, OwnsNothing}
use Rattle.verdict.specs.Judges.{IsMutex, begun_next, freed_next, object_at}
use Rattle.verdict.specs.Stages.{May, next}
use Rattle.verdict.specs.Verdicts.{AllFit}
use Rattle.verdict.proofs.Chances.{begun_kept, begun_length, freed_kept, freed_length, so_waited}
use Rattle.verdict.proofs.Stages.{Kept, may_fits, next_kept, same_call}
use Rattle.histories.specs.declared.entry.Entry.{Entry}
use Rattle.histories.specs.declared.entry.Entry.TheVariants.{Told, Doom}
use Rattle.histories.specs.declared.head.Head.{Head}
use Rattle.histories.specs.Histories.{ReleasesWell}
use Rattle.certificates.specs.declared.phase.Phase.{Phase}
use Rattle.certificates.specs.declared.phase.Phase.TheVariants.{Resting, Calling, Dying, Reaped}
use Rattle.certificates.specs.declared.state.State.{State}
use Rattle.certificates.specs.Phases.{stage_of}
use Rattle.certificates.specs.States.{Accepts, Awaits, IsNew, IsSound, Moves, Releases, phase_at}
use Rattle.certificates.specs.Certificates.{trace_of}

-- ---- numbers

-- the number of the next line
abbrev pub number : List Entry → ℕ
number es = length (trace_of es) + 1

each_weaker : (P Q : Line → Type 0) (ls : List Line) → ((a : Line) → P a → Q a) → Each P ls → Each Q ls
each_weaker P Q [] f h = tt
each_weaker P Q (l ∷ ls) f h = (f l h.0, each_weaker P Q ls f h.1)

below : (es : List Entry) → Each (λ a. a.event < number es) (trace_of es)
below [] = tt
below (Told f ∷ es) = (omega arith, each_weaker (λ a. a.event < number es) (λ a. a.event < number (Told f ∷ es)) (trace_of es) (λ a h. omega (arith, h)) (below es))
below (Doom t ∷ es) = below es

later : (a b : Line) → a.event < b.event → Later a b
later a b lt = record {
  never_falls = omega arith;
  decisions_rise = λ x y. lt;
  one_thread = λ same x y. absurd (omega arith);
  kill_before = λ x. lt;
  kill_behind = λ x. lt;
}

-- ---- what is kept

pub record Reflects (s : State) (told : List Line) : Type 0 where
  pub phases : (t : ℕ) → Kept (stage_of (phase_at s.phases.items t)) (told_of t told)
  pub objects : object_at s.objects.items ≡ objects_after told
  pub lines : s.lines ≡ length told
  pub begun : (t : ℕ) → t < length s.begun.items → slice_index s.begun.items t ≡ begun_at t told
  pub freed : (m : ℕ) → m < length s.freed.items → slice_index s.freed.items m ≡ freed_at m told

-- the next line
abbrev pub line : List Entry → Fact → Line
line es f = record { event = number es; fact = f }

awaits_due : (n : ℕ) (s : State) (told : List Line) (f : Fact) → IsSound s → Reflects s told → AllFit n told → thread_of f < length s.phases.items → IsMutex (length s.objects.items) f → May (stage_of (phase_at s.phases.items (thread_of f))) f → Allows (length s.objects.items) (object_at s.objects.items) (decision_of f) → Awaits s f → IsDue told f
awaits_due n s told (Point d) sound r fit thread mutex may allows awaits = λ by on late.
    sym (so_waited n (length s.objects.items) (object_at s.objects.items) told (stage_of (phase_at s.phases.items d.thread)) d (slice_index s.begun.items d.thread) (slice_index s.freed.items d.mutex) fit (r.phases d.thread) may allows late r.objects
    (r.begun d.thread (omega (arith, thread, sound.each_begun))) (r.freed d.mutex (omega (arith, mutex, sound.each_freed))))
    ∙ awaits late
awaits_due n s told f sound r fit thread mutex may allows awaits = tt

pub accepts_fits : (n : ℕ) (s : State) (es : List Entry) (f : Fact) → IsSound s → Reflects s (trace_of es) → AllFit n (trace_of es) → Accepts s f → Fits (length s.objects.items) (trace_of es) (line es f)
accepts_fits n s es f sound r fit a = record {
  in_order = each_weaker (λ b. b.event < number es) (λ b. Later b (line es f)) (trace_of es) (λ b lt. later b (line es f) lt) (below es);
  of_thread = may_fits _ f _ (r.phases (thread_of f)) a.may;
  allowed = subst (λ os. Allows (length s.objects.items) os (decision_of f)) r.objects a.allowed;
  due = awaits_due n s (trace_of es) f sound r fit a.thread a.inside a.may a.allowed a.awaits;
  reaped = subst (λ os. OwnsNothing (length s.objects.items) os f) r.objects a.reaped;
}

releases : (p : Phase) (os : List Object) (told : List Line) (f : Fact) → Kept (stage_of p) (told_of (thread_of f) told) → May (stage_of p) f → Releases p os f → object_at os ≡ objects_after told → ReleasesWell told f
releases (Calling c m) os told (Point d) kept may rel same = λ k unlock call wait.
    let is : k ≡ c = same_call _ c k kept.0 call in
    subst (λ (g : ℕ → Object). (g d.mutex).inconsistent ≡ false) same (rel unlock (subst (λ (b : Begun). IsWait b.operation) is wait))
releases Resting os told (Point d) kept may rel same = absurd may
releases Dying os told (Point d) kept may rel same = absurd may
releases Reaped os told (Point d) kept may rel same = absurd may
releases p os told f kept may rel same = tt

pub accepts_releases : (s : State) (told : List Line) (f : Fact) → Reflects s told → Accepts s f → ReleasesWell told f
accepts_releases s told f r a = releases (phase_at s.phases.items (thread_of f)) s.objects.items told f (r.phases (thread_of f)) a.may a.releases r.objects

-- the phases after a fact
phases_next : (xs : List Phase) (told : List Line) (e : Line) (after : Phase) → thread_of e.fact < length xs → ((t : ℕ) → Kept (stage_of (phase_at xs t)) (told_of t told)) → May (stage_of (phase_at xs (thread_of e.fact))) e.fact
    → stage_of after ≡ next (stage_of (phase_at xs (thread_of e.fact))) e.fact → (t : ℕ) → Kept (stage_of (phase_at (slice_set xs (thread_of e.fact) after) t)) (told_of t (e ∷ told))
phases_next xs told e after lt kept may goes t = by_cases (thread_of e.fact == t) refl where
  by_cases : (b : Bool) → (thread_of e.fact == t) ≡ b → Kept (stage_of (phase_at (slice_set xs (thread_of e.fact) after) t)) (if b then e.fact ∷ told_of t told else told_of t told)
  by_cases true is =
      let same : thread_of e.fact ≡ t = grind (arith, nat_tests) in
      let here = ap stage_of (get_or-set_same xs (thread_of e.fact) after Resting lt) ∙ goes in
      subst (λ v. Kept (stage_of (phase_at (slice_set xs (thread_of e.fact) after) v)) (e.fact ∷ told_of v told)) same
      (subst (λ z. Kept z (e.fact ∷ told_of (thread_of e.fact) told)) (sym here) (next_kept (stage_of (phase_at xs (thread_of e.fact))) e.fact (told_of (thread_of e.fact) told) (kept (thread_of e.fact)) may))
  by_cases false is =
      let other : t ≢ thread_of e.fact = grind (arith, nat_tests) in
      subst (λ z. Kept (stage_of z) (told_of t told)) (sym (get_or-set_other xs (thread_of e.fact) t after Resting other)) (kept t)

pub reflects_next : (s k : State) (told : List Line) (e : Line) (ds : List Bool) → e.event ≡ length told + 1 → Reflects s told → Accepts s e.fact → Moves s e.fact ds k → Reflects k (e ∷ told)
reflects_next s k told e ds number r a m = record {
  phases = λ t. subst (λ xs. Kept (stage_of (phase_at xs t)) (told_of t (e ∷ told))) (sym m.phases) (phases_next s.phases.items told e m.after a.thread r.phases a.may m.goes t);
  objects = m.objects ∙ ap (λ os. moved os (decision_of e.fact)) r.objects;
  lines = omega (arith, m.lines, r.lines);
  begun = λ t low.
      let its : k.begun.items ≡ begun_next s.begun.items e.event e.fact = m.begun ∙ ap (λ i. begun_next s.begun.items i e.fact) at in
      ap (λ bs. slice_index bs t) its ∙ begun_kept s.begun.items told e r.begun t (omega (arith, low, ap length its, begun_length s.begun.items e.event e.fact));
  freed = λ j low.
      let its : k.freed.items ≡ freed_next s.freed.items e.event e.fact = m.freed ∙ ap (λ i. freed_next s.freed.items i e.fact) at in
      ap (λ fs. slice_index fs j) its ∙ freed_kept s.freed.items told e r.freed j (omega (arith, low, ap length its, freed_length s.freed.items e.event e.fact));
} where
  at : s.lines + 1 ≡ e.event
  at = omega (arith, number, r.lines)

-- before the first line
pub reflects_new : (h : Head) (s : State) → IsNew h s → Reflects s []
reflects_new h s new = record {
  phases = λ t. subst (λ p. Kept (stage_of p) []) (sym (new.phases t)) (refl, refl, refl, refl);
  objects = fun_ext new.objects;
  lines = new.lines;
  begun = λ t lt. new.begun t;
  freed = λ m lt. new.freed m;
}
