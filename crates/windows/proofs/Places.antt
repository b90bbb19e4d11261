-- Where steps leave threads and mutexes, step after step.
use Rattle.std.proofs.Common.{◌≡◌, ◌≢◌, ℕ, ◌<◌, ◌≤◌, ◌+◌, ◌==◌, Bool, true, false, List, [], ◌∷◌, length, reverse, take, get_or, refl, sym, ap, subst, ◌∙◌, arith, get_or-set_same, get_or-set_other}
use Rattle.std.specs.Prelude.{if◌then◌else◌, slice_index, slice_set}
use Rattle.std.proofs.lemmas.Bool.Decides.{nat_tests}
use Rattle.std.proofs.lemmas.List.{get_or_past, reverse-append, take_more}
use mathlib.Core.Path.{fun_ext}
use Rattle.posixmutex.specs.declared.object.Object.{Object}
use Rattle.facts.specs.declared.fact.Begun.{Begun}
use Rattle.facts.specs.declared.fact.Fact.{Fact}
use Rattle.facts.specs.declared.fact.Line.{Line}
use Rattle.facts.specs.Facts.{thread_of, decision_of}
use Rattle.verdict.specs.declared.stage.Made.TheVariants as made
use Rattle.verdict.specs.declared.stage.Stage.TheVariants as stage
use Rattle.verdict.specs.Earlier.{begun_at, chances_behind, freed_at, moved, told_of}
use Rattle.verdict.specs.Fits.{FitsThread}
use Rattle.verdict.specs.Judges.{has_waited, object_at}
use Rattle.verdict.specs.Stages.{next}
use Rattle.verdict.specs.Verdicts.{AllFit}
use Rattle.verdict.proofs.Chances.{waits}
use Rattle.verdict.proofs.Stages.{Kept, fits_may, next_kept}
use Rattle.histories.specs.declared.entry.Entry.{Entry}
use Rattle.histories.specs.declared.entry.Entry.TheVariants.{Told, Doom}
use Rattle.histories.specs.declared.head.Head.{Head}
use Rattle.certificates.specs.declared.phase.Phase.{Phase}
use Rattle.certificates.specs.declared.phase.Made.TheVariants as my
use Rattle.certificates.specs.declared.phase.Phase.TheVariants.{Resting, Calling}
use Rattle.certificates.specs.declared.state.State.{State}
use Rattle.certificates.specs.Certificates.{trace_of}
use Rattle.certificates.specs.Phases.{stage_of}
use Rattle.certificates.specs.States.{Accepts, IsNew, IsSound, Moves, phase_at}
use Rattle.certificates.proofs.Fitting.{Reflects, accepts_fits, line, reflects_next}
use Rattle.windows.specs.Places.{LeaveAlike, Reaches, Takes, WaitsAlike, may_time_out, stage_after, told}

threads_next : (xs : List Phase) (lines : List Line) (e : Line) (after : Phase) → thread_of e.fact < length xs → ((t : ℕ) → stage_of (phase_at xs t) ≡ stage_after (told_of t lines))
    → stage_of after ≡ next (stage_of (phase_at xs (thread_of e.fact))) e.fact → (t : ℕ) → stage_of (phase_at (slice_set xs (thread_of e.fact) after) t) ≡ stage_after (told_of t (e ∷ lines))
threads_next xs lines e after lt kept goes t = by_cases (thread_of e.fact == t) refl where
  by_cases : (b : Bool) → (thread_of e.fact == t) ≡ b → stage_of (phase_at (slice_set xs (thread_of e.fact) after) t) ≡ stage_after (if b then e.fact ∷ told_of t lines else told_of t lines)
  by_cases true is =
      let same : thread_of e.fact ≡ t = grind (arith, nat_tests) in
      let here : stage_of (phase_at (slice_set xs (thread_of e.fact) after) (thread_of e.fact)) ≡ next (stage_after (told_of (thread_of e.fact) lines)) e.fact =
      ap stage_of (get_or-set_same xs (thread_of e.fact) after Resting lt) ∙ goes ∙ ap (λ z. next z e.fact) (kept (thread_of e.fact)) in
      subst (λ v. stage_of (phase_at (slice_set xs (thread_of e.fact) after) v) ≡ next (stage_after (told_of v lines)) e.fact) same here
  by_cases false is =
      let other : t ≢ thread_of e.fact = grind (arith, nat_tests) in
      ap stage_of (get_or-set_other xs (thread_of e.fact) t after Resting other) ∙ kept t

-- ---- stages

-- the stage of each thread of a trace says what was recorded of it
kept_after : (n : ℕ) (es : List Line) → AllFit n es → (t : ℕ) → Kept (stage_after (told_of t es)) (told_of t es)
kept_after n [] fit t = (refl, refl, refl, refl)
kept_after n (e ∷ es) fit t = go (thread_of e.fact == t) refl (kept_after n es fit.1 t) where
  go : (b : Bool) → (thread_of e.fact == t) ≡ b → Kept (stage_after (told_of t es)) (told_of t es) → Kept (stage_after (if b then e.fact ∷ told_of t es else told_of t es)) (if b then e.fact ∷ told_of t es else told_of t es)
  go true is so_far =
      let same : thread_of e.fact ≡ t = grind (arith, nat_tests) in
      next_kept (stage_after (told_of t es)) e.fact (told_of t es) so_far (fits_may (stage_after (told_of t es)) e.fact (told_of t es) so_far (subst (λ u. FitsThread (told_of u es) e.fact) same fit.0.of_thread))
  go false is so_far = so_far

reflects : (s : State) (lines : List Line) → Reaches s lines → Reflects s lines
reflects s lines r = record {
  phases = λ t. subst (λ z. Kept z (told_of t lines)) (sym (r.threads t)) (kept_after (length s.objects.items) lines r.fits t);
  objects = r.mutexes;
  lines = r.count;
  begun = r.begun;
  freed = r.freed;
}

-- one line more
reaches_next : (s k : State) (es : List Entry) (f : Fact) (ds : List Bool) → IsSound s → Reaches s (trace_of es) → Accepts s f → Moves s f ds k → Reaches k (line es f ∷ trace_of es)
reaches_next s k es f ds sound r a m =
    let next = reflects_next s k (trace_of es) (line es f) ds refl (reflects s (trace_of es) r) a m in
    record {
      threads = λ t. subst (λ xs. stage_of (phase_at xs t) ≡ stage_after (told_of t (line es f ∷ trace_of es))) (sym m.phases) (threads_next s.phases.items (trace_of es) (line es f) m.after a.thread r.threads m.goes t);
      mutexes = m.objects ∙ ap (λ os. moved os (decision_of f)) r.mutexes;
      fits = subst (λ n. AllFit n (line es f ∷ trace_of es)) (sym m.many) (accepts_fits (length s.objects.items) s es f sound (reflects s (trace_of es) r) r.fits a, r.fits);
      count = next.lines;
      begun = next.begun;
      freed = next.freed;
    }

-- before the first one
pub reaches_new : (h : Head) (s : State) → IsNew h s → Reaches s []
reaches_new h s new = record {
  threads = λ t. ap stage_of (new.phases t);
  mutexes = fun_ext new.objects;
  fits = tt;
  count = new.lines;
  begun = λ t lt. new.begun t;
  freed = λ m lt. new.freed m;
}

one_more : (steps : List Entry) (n : ℕ) (e : Entry) → n < length steps → e ≡ get_or steps n e → reverse (take (n + 1) steps) ≡ e ∷ reverse (take n steps)
one_more steps n e lt at =
    ap reverse (take_more steps n e lt) ∙ reverse-append (take n steps) (get_or steps n e ∷ []) ∙ ap (λ (x : Entry). x ∷ reverse (take n steps)) (sym at)

-- one step more
pub reaches_step : (steps : List Entry) (n : ℕ) (e : Entry) (s k : State) → n < length steps → e ≡ get_or steps n e → IsSound s → Reaches s (told n steps) → Takes s e k → Reaches k (told (n + 1) steps)
reaches_step steps n (Told f) s k lt at sound r x =
    subst (λ (es : List Entry). Reaches k (trace_of es)) (sym (one_more steps n (Told f) lt at)) (reaches_next s k (reverse (take n steps)) f s.doomed.items sound r x.0 x.1)
reaches_step steps n (Doom t) s k lt at sound r x =
    subst (λ (es : List Entry). Reaches k (trace_of es)) (sym (one_more steps n (Doom t) lt at)) (subst (λ (j : State). Reaches j (told n steps)) (sym x) r)

-- ---- two places

phase_of : (p : Phase) (c : Begun) (z : Bool) → stage_of p ≡ stage.Calling c made.Nothing z → p ≡ Calling c my.Nothing
phase_of (Calling k my.Nothing) c z is = cc
phase_of (Calling k my.Released) c z is = absurd cc
phase_of (Calling k (my.Decided x)) c z is = absurd cc
phase_of p c z is = absurd cc

-- what is kept says whether a call that has had no point has waited
so_kept : (s : State) (lines : List Line) (t : ℕ) (c : Begun) (z : Bool) → Reaches s lines → stage_after (told_of t lines) ≡ stage.Calling c made.Nothing z → t < length s.begun.items → c.mutex < length s.freed.items → (chances_behind t c.mutex lines).waited ≡ may_time_out s t c.mutex
so_kept s lines t c z r is thread mutex =
    let kept : Kept (stage.Calling c made.Nothing z) (told_of t lines) = subst (λ y. Kept y (told_of t lines)) is (kept_after (length s.objects.items) lines r.fits t) in
    waits (length s.objects.items) t c.mutex lines c r.fits kept.0 kept.4
    ∙ ap (λ (os : ℕ → Object). has_waited t (os c.mutex).owner (begun_at t lines) (freed_at c.mutex lines)) (sym r.mutexes)
    ∙ ap (λ b. has_waited t (object_at s.objects.items c.mutex).owner b (freed_at c.mutex lines)) (sym (r.begun t thread))
    ∙ ap (λ f. has_waited t (object_at s.objects.items c.mutex).owner (slice_index s.begun.items t) f) (sym (r.freed c.mutex mutex))

-- a thread without a phase of its own rests
pub no_thread : (a b : State) (t : ℕ) → length a.phases.items ≤ t → WaitsAlike a b t
no_thread a b t past = λ c is timed. let rests : phase_at a.phases.items t ≡ Resting = get_or_past a.phases.items t Resting past in let no : Resting ≡ Calling c my.Nothing = sym rests ∙ is in absurd cc

-- where the same is kept of two traces, they leave threads and mutexes alike
pub alike : (a b : State) (xs ys : List Line) → Reaches a xs → Reaches b ys → a.phases.items ≡ b.phases.items → a.objects.items ≡ b.objects.items → ((t : ℕ) → WaitsAlike a b t) → LeaveAlike xs ys
alike a b xs ys ra rb phases objects waited = record {
  threads = λ t. sym (ra.threads t) ∙ ap (λ ps. stage_of (phase_at ps t)) phases ∙ rb.threads t;
  mutexes = λ m. ap (λ (os : ℕ → _). os m) (sym ra.mutexes ∙ ap object_at objects ∙ rb.mutexes);
  waits = λ t c z is timed.
      let there : stage_after (told_of t ys) ≡ stage.Calling c made.Nothing z = sym (sym (ra.threads t) ∙ ap (λ ps. stage_of (phase_at ps t)) phases ∙ rb.threads t) ∙ is in
      let w = waited t c (phase_of (phase_at a.phases.items t) c z (ra.threads t ∙ is)) timed in
      so_kept a xs t c z ra is w.thread.0 w.mutex.0 ∙ w.same ∙ sym (so_kept b ys t c z rb there w.thread.1 w.mutex.1);
}
