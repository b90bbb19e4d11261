-- What a pass keeps says what the lines so far told.
use Rattle.std.proofs.Common.{◌≡◌, ◌≢◌, inl, inr, ℕ, ◌<◌, ◌≤◌, ◌==◌, ◌+◌, Bool, true, false, List, [], ◌∷◌, length, Option, None, Some, MatchOption, Ok, nat_lt, refl, sym, ap, subst, ◌∙◌, arith, get_or-set_same, get_or-set_other}
use Rattle.std.specs.Prelude.{◌⊎◌, if◌then◌else◌, slice_index, slice_set}
use Rattle.std.proofs.lemmas.Bool.Decides.{nat_tests}
use mathlib.Core.Path.{fun_ext}
use Rattle.lockword.specs.declared.reply.Reply.TheVariants.{ETIMEDOUT}
use Rattle.posixmutex.specs.declared.object.Object.{Object}
use Rattle.posixmutex.specs.declared.point.Decision.{Decision}
use Rattle.facts.specs.declared.fact.Fact.{Fact}
use Rattle.facts.specs.declared.fact.Fact.TheVariants.{Point}
use Rattle.facts.specs.declared.fact.Line.{Line}
use Rattle.verdict.specs.declared.stage.Stage.{Stage}
use Rattle.verdict.specs.declared.stage.Stage.TheVariants.{Resting}
use Rattle.verdict.specs.declared.judge.Judge.{Judge}
use Rattle.verdict.specs.declared.checking.Pass.{Pass}
use Rattle.facts.specs.Facts.{thread_of, decision_of, is_point}
use Rattle.verdict.specs.Earlier.{begun_at, chances_behind, freed_at, told_of, objects_after, moved, latest}
use Rattle.facts.specs.Orders.{Later, Each}
use Rattle.verdict.specs.Fits.{Fits, FitsThread, Allows, IsDue, OwnsNothing}
use Rattle.verdict.specs.Misfits.{IsMisfit, IsTooEarly, OwnsSome, Refuses}
use Rattle.verdict.specs.declared.misfit.Misfit.{Misfit}
use Rattle.verdict.specs.declared.misfit.Misfit.TheVariants.{EndFalls, TooEarly}
use Rattle.verdict.specs.declared.misfit.TraceMisfit.{TraceMisfit}
use Rattle.verdict.specs.Judges.{Accepts, Awaits, Hurries, Rejects, Moves, IsInside, IsMutex, IsNew, IsSound, begun_next, freed_next, may_time_out, object_at, stage_at}
use Rattle.verdict.specs.Stages.{May, next}
use Rattle.verdict.specs.Places.{Stands, placed}
use Rattle.verdict.specs.Verdicts.{AllFit, IsFound, IsReason, point_lines}
use Rattle.verdict.specs.Passes.{AnswersLines, Decides, IsFresh, Takes, found_at, misfit_at}
use Rattle.verdict.specs.Reading.{lines_read, line_read}
use Rattle.lines.specs.Lines.{lines_of}
use Rattle.std.specs.Option.{is_some}
use Rattle.verdict.specs.declared.head.Head.{Head}
use Rattle.verdict.specs.declared.reading.Read.TheVariants.{Told, End}
use Rattle.verdict.proofs.Lines.{goes_told, goes_end, ended_empty}
use Rattle.verdict.proofs.Burials.{explains}
use Rattle.verdict.proofs.Places.{Recalls, clashes_out, recalls_next, recalls_nowhere, stands_later, stands_before}
use Rattle.verdict.proofs.Chances.{begun_kept, begun_length, freed_kept, freed_length, so_waited}
use Rattle.verdict.proofs.Misfits.{early_breaks, forbids_out, life_breaks, misfit_fails, order_breaks, owns_breaks, refuses_breaks}
use Rattle.verdict.proofs.Stages.{Kept, may_fits, next_kept}

-- the judge keeps what these lines told
pub record Reflects (j : Judge) (told : List Line) : Type 0 where
  pub stages : (t : ℕ) → Kept (stage_at j.stages.items t) (told_of t told)
  pub objects : object_at j.objects.items ≡ objects_after told
  pub stands : (e : Line) → 1 ≤ e.event → Stands j.place e → Each (λ a. Later a e) told
  pub recalls : Recalls j.place told
  pub event : j.place.event ≡ latest told
  pub begun : (t : ℕ) → t < length j.begun.items → slice_index j.begun.items t ≡ begun_at t told
  pub freed : (m : ℕ) → m < length j.freed.items → slice_index j.freed.items m ≡ freed_at m told

-- ---- time limits

-- what is kept says whether a call that is out of time has waited
time_told : (n : ℕ) (j : Judge) (told : List Line) (d : Decision) → Reflects j told → IsSound j → AllFit n told → IsInside (length j.stages.items) (length j.objects.items) (Point d) → May (stage_at j.stages.items d.thread) (Point d) → Allows (length j.objects.items) (object_at j.objects.items) (Some d) → d.reply ≡ ETIMEDOUT
    → may_time_out j d ≡ (chances_behind d.thread d.mutex told).waited
time_told n j told d r sound fit inside may allows late =
    so_waited n (length j.objects.items) (object_at j.objects.items) told (stage_at j.stages.items d.thread) d (slice_index j.begun.items d.thread) (slice_index j.freed.items d.mutex) fit (r.stages d.thread) may allows late r.objects
    (r.begun d.thread (omega (arith, inside.0, sound.each_begun))) (r.freed d.mutex (omega (arith, inside.1, sound.each_freed)))

awaits_due : (n : ℕ) (j : Judge) (told : List Line) (f : Fact) → Reflects j told → IsSound j → AllFit n told → IsInside (length j.stages.items) (length j.objects.items) f → May (stage_at j.stages.items (thread_of f)) f → Allows (length j.objects.items) (object_at j.objects.items) (decision_of f) → Awaits j f → IsDue told f
awaits_due n j told (Point d) r sound fit inside may allows awaits = λ by on late. sym (time_told n j told d r sound fit inside may allows late) ∙ awaits late
awaits_due n j told f r sound fit inside may allows awaits = tt

hurries_early : (n : ℕ) (m : Misfit) (j : Judge) (told : List Line) (f : Fact) → Reflects j told → IsSound j → AllFit n told → IsInside (length j.stages.items) (length j.objects.items) f → May (stage_at j.stages.items (thread_of f)) f → Allows (length j.objects.items) (object_at j.objects.items) (decision_of f) → Hurries m j f → IsTooEarly m told f
hurries_early n (TooEarly i) j told (Point d) r sound fit inside may allows h = (
  h.0 ∙ r.begun d.thread (omega (arith, inside.0, sound.each_begun)),
  h.1,
  sym (time_told n j told d r sound fit inside may allows h.1) ∙ h.2,
)
hurries_early n m j told f r sound fit inside may allows h = absurd h

-- ---- a line

pub accepts_fits : (n : ℕ) (j : Judge) (told : List Line) (e : Line) → Reflects j told → IsSound j → AllFit n told → IsInside (length j.stages.items) (length j.objects.items) e.fact → 1 ≤ e.event → Accepts j e → Fits (length j.objects.items) told e
accepts_fits n j told e r sound fit inside some a = record {
  in_order = r.stands e some a.stands;
  of_thread = may_fits _ e.fact _ (r.stages (thread_of e.fact)) a.may;
  allowed = subst (λ os. Allows (length j.objects.items) os (decision_of e.fact)) r.objects a.allowed;
  due = awaits_due n j told e.fact r sound fit inside a.may a.allowed a.awaits;
  reaped = subst (λ os. OwnsNothing (length j.objects.items) os e.fact) r.objects a.reaped;
}

rejects_change : (n : ℕ) (m : Misfit) (j : Judge) (told : List Line) (e : Line) → Reflects j told → IsSound j → AllFit n told → IsInside (length j.stages.items) (length j.objects.items) e.fact → May (stage_at j.stages.items (thread_of e.fact)) e.fact → Each (λ a. Later a e) told → FitsThread (told_of (thread_of e.fact) told) e.fact
    → Refuses m (length j.objects.items) (object_at j.objects.items) (decision_of e.fact) ⊎ ((Allows (length j.objects.items) (object_at j.objects.items) (decision_of e.fact) × Hurries m j e.fact) ⊎ OwnsSome m (length j.objects.items) (object_at j.objects.items) e.fact) → IsMisfit m (length j.objects.items) told e
rejects_change n m j told e r sound fit inside may order life (inl h) =
    let out = subst (λ os. Refuses m (length j.objects.items) os (decision_of e.fact)) r.objects h in
    inr (inr (inl (order, life, out, refuses_breaks m (length j.objects.items) (objects_after told) (decision_of e.fact) out)))
rejects_change n m j told e r sound fit inside may order life (inr (inl h)) =
    let out = hurries_early n m j told e.fact r sound fit inside may h.0 h.1 in
    let allowed = subst (λ os. Allows (length j.objects.items) os (decision_of e.fact)) r.objects h.0 in
    inr (inr (inr (inl (order, life, allowed, out, early_breaks m told e.fact out))))
rejects_change n m j told e r sound fit inside may order life (inr (inr h)) =
    let out = subst (λ os. OwnsSome m (length j.objects.items) os e.fact) r.objects h in
    inr (inr (inr (inr (order, life, out, owns_breaks m (length j.objects.items) (objects_after told) e.fact out))))

pub rejects_misfit : (n : ℕ) (m : Misfit) (j : Judge) (told : List Line) (e : Line) → Reflects j told → IsSound j → AllFit n told → IsInside (length j.stages.items) (length j.objects.items) e.fact → 1 ≤ e.event → Rejects m j e → IsMisfit m (length j.objects.items) told e
rejects_misfit n m j told e r sound fit inside some (inl h) = let out = clashes_out m j.place told e r.recalls r.event some h in inl (out, order_breaks m told e out)
rejects_misfit n m j told e r sound fit inside some (inr (stands, inl h)) =
    let out = forbids_out m (stage_at j.stages.items (thread_of e.fact)) e.fact (told_of (thread_of e.fact) told) (r.stages (thread_of e.fact)) h in
    inr (inl (r.stands e some stands, out, life_breaks m (told_of (thread_of e.fact) told) e.fact out))
rejects_misfit n m j told e r sound fit inside some (inr (stands, inr h)) = rejects_change n m j told e r sound fit inside h.0 (r.stands e some stands) (may_fits _ e.fact _ (r.stages (thread_of e.fact)) h.0) h.1

-- the stages after a fact
stages_next : (xs : List Stage) (told : List Line) (e : Line) → thread_of e.fact < length xs → ((t : ℕ) → Kept (stage_at xs t) (told_of t told)) → May (stage_at xs (thread_of e.fact)) e.fact
    → (t : ℕ) → Kept (stage_at (slice_set xs (thread_of e.fact) (next (stage_at xs (thread_of e.fact)) e.fact)) t) (told_of t (e ∷ told))
stages_next xs told e lt kept may t = by_cases (thread_of e.fact == t) refl where
  by_cases : (b : Bool) → (thread_of e.fact == t) ≡ b → Kept (stage_at (slice_set xs (thread_of e.fact) (next (stage_at xs (thread_of e.fact)) e.fact)) t) (if b then e.fact ∷ told_of t told else told_of t told)
  by_cases true is =
      let same : thread_of e.fact ≡ t = grind (arith, nat_tests) in
      let here = get_or-set_same xs (thread_of e.fact) (next (stage_at xs (thread_of e.fact)) e.fact) Resting lt in
      subst (λ v. Kept (stage_at (slice_set xs (thread_of e.fact) (next (stage_at xs (thread_of e.fact)) e.fact)) v) (e.fact ∷ told_of v told)) same
      (subst (λ z. Kept z (e.fact ∷ told_of (thread_of e.fact) told)) (sym here) (next_kept (stage_at xs (thread_of e.fact)) e.fact (told_of (thread_of e.fact) told) (kept (thread_of e.fact)) may))
  by_cases false is =
      let other : t ≢ thread_of e.fact = grind (arith, nat_tests) in
      subst (λ z. Kept z (told_of t told)) (sym (get_or-set_other xs (thread_of e.fact) t (next (stage_at xs (thread_of e.fact)) e.fact) Resting other)) (kept t)

pub reflects_next : (j k : Judge) (told : List Line) (e : Line) → Reflects j told → 1 ≤ e.event → thread_of e.fact < length j.stages.items → Accepts j e → Moves j e k → Reflects k (e ∷ told)
reflects_next j k told e r some lt a m = record {
  stages = λ t. subst (λ xs. Kept (stage_at xs t) (told_of t (e ∷ told))) (sym m.stages) (stages_next j.stages.items told e lt r.stages a.may t);
  objects = m.objects ∙ ap (λ os. moved os (decision_of e.fact)) r.objects;
  stands = λ x one s.
      let there : Stands (placed j.place e) x = subst (λ p. Stands p x) m.place s in
      (stands_later j.place e x a.stands there, r.stands x one (stands_before j.place e x a.stands there));
  recalls = subst (λ p. Recalls p (e ∷ told)) (sym m.place) (recalls_next j.place told e r.recalls);
  event = ap (λ p. p.event) m.place;
  begun = λ t low.
      let low' : t < length j.begun.items = omega (arith, low, ap length m.begun, begun_length j.begun.items e.event e.fact) in
      ap (λ bs. slice_index bs t) m.begun ∙ begun_kept j.begun.items told e r.begun t low';
  freed = λ k low.
      let low' : k < length j.freed.items = omega (arith, low, ap length m.freed, freed_length j.freed.items e.event e.fact) in
      ap (λ fs. slice_index fs k) m.freed ∙ freed_kept j.freed.items told e r.freed k low';
}

-- what a pass keeps of the lines so far
abbrev pub Shows : ℕ → Pass → List Line → Type 0
Shows n p told = MatchOption p.illegal (AllFit n told × Reflects p.judge told × (p.points ≡ point_lines told)) (λ why. IsReason n told why)

pub none_of : {A : Type 0} (o : Option A) → is_some o ≡ false → o ≡ None
none_of None e = refl
none_of (Some k) e = absurd cc

pub counted : (b : Bool) (n : ℕ) → b ≡ true → n + 1 ≡ (if b then 1 + n else n)
counted true n e = omega arith
counted false n e = absurd cc

pub missed : (b : Bool) (n : ℕ) → b ≡ false → n ≡ (if b then 1 + n else n)
missed false n e = refl
missed true n e = absurd cc

pub judges : (p : Pass) (n : ℕ) (e : Line) (q : Pass) → p.illegal ≡ None → Decides p n e q → Takes p n e q
judges p n e q none d = subst (λ o. MatchOption o (Decides p n e q) (λ why. q.illegal ≡ Some why)) (sym none) d

pub shows_next : (n : ℕ) (p q : Pass) (told : List Line) (line : ℕ) (e : Line) → Shows n p told → Takes p line e q → IsSound p.judge → length p.judge.objects.items ≡ n → 1 ≤ e.event → thread_of e.fact < length p.judge.stages.items → IsMutex n e.fact → line ≡ length told + 2 → Shows n q (e ∷ told)
shows_next n p q told line e shows takes sound is some lt mutex here = go p.illegal shows takes where
  inside : IsInside (length p.judge.stages.items) (length p.judge.objects.items) e.fact
  inside = (lt, subst (λ k. IsMutex k e.fact) (sym is) mutex)

  go : (o : Option TraceMisfit) → MatchOption o (AllFit n told × Reflects p.judge told × (p.points ≡ point_lines told)) (λ why. IsReason n told why) → MatchOption o (Decides p line e q) (λ why. q.illegal ≡ Some why) → Shows n q (e ∷ told)
  go None s (inl d) =
      let fits : Fits n told e = subst (λ k. Fits k told e) is (accepts_fits n p.judge told e s.1 sound s.0 inside some d.0) in
      subst (λ o. MatchOption o (AllFit n (e ∷ told) × Reflects q.judge (e ∷ told) × (q.points ≡ point_lines (e ∷ told))) (λ why. IsReason n (e ∷ told) why)) (sym d.2)
      ((fits, s.0), reflects_next p.judge q.judge told e s.1 some lt d.0 d.1, d.3 ∙ ap (λ k. if is_point e.fact then 1 + k else k) s.2)
  go None s (inr d) =
      let reason : IsMisfit d.0 n told e = subst (λ k. IsMisfit d.0 k told e) is (rejects_misfit n d.0 p.judge told e s.1 sound s.0 inside some d.1) in
      let found : IsReason n (e ∷ told) (misfit_at line d.0) = record {
        first = record {
          newer = [];
          misfit = e;
          earlier = told;
          all = refl;
          fit = s.0;
          fails = misfit_fails d.0 n told e reason;
          here = here;
        };
        reason = reason;
      } in
      subst (λ o. MatchOption o (AllFit n (e ∷ told) × Reflects q.judge (e ∷ told) × (q.points ≡ point_lines (e ∷ told))) (λ why. IsReason n (e ∷ told) why)) (sym d.2) found
  go (Some why) s d =
      let found : IsReason n (e ∷ told) why = record {
        first = record {
          newer = e ∷ s.first.newer;
          misfit = s.first.misfit;
          earlier = s.first.earlier;
          all = ap (λ es. e ∷ es) s.first.all;
          fit = s.first.fit;
          fails = s.first.fails;
          here = s.first.here;
        };
        reason = s.reason;
      } in
      subst (λ o. MatchOption o (AllFit n (e ∷ told) × Reflects q.judge (e ∷ told) × (q.points ≡ point_lines (e ∷ told))) (λ why. IsReason n (e ∷ told) why)) (sym d) found

-- before the first line after the head
reflects_new : (h : Head) (j : Judge) → IsNew h j → Reflects j []
reflects_new h j new = record {
  stages = λ t. subst (λ s. Kept s []) (sym (new.stages t)) (refl, refl, refl, refl);
  objects = fun_ext new.objects;
  stands = λ e some s. tt;
  recalls = subst (λ p. Recalls p []) (sym new.place) recalls_nowhere;
  event = ap (λ p. p.event) new.place;
  begun = λ t lt. new.begun t;
  freed = λ m lt. new.freed m;
}

pub shows_new : (n : ℕ) (p : Pass) → IsFresh p → Shows n p []
shows_new n p fresh = subst (λ o. MatchOption o (AllFit n [] × Reflects p.judge [] × (p.points ≡ point_lines [])) (λ why. IsReason n [] why)) (sym fresh.illegal) (tt, reflects_new p.judge.head p.judge fresh.judge, fresh.points)

-- at the last line
pub judged : (h : Head) (p : Pass) (told : List Line) (line last : ℕ) → Shows h.mutexes p told → line ≡ length told + 2 → Each (λ e. IsMutex h.mutexes e.fact) told
    → IsFound (record { head = h; told = told; last = last }) (found_at p.illegal p.points line p.judge.place.event (nat_lt last p.judge.place.event))
judged h p told line last shows here inside = go p.illegal shows where
  go : (o : Option TraceMisfit) → MatchOption o (AllFit h.mutexes told × Reflects p.judge told × (p.points ≡ point_lines told)) (λ why. IsReason h.mutexes told why)
      → IsFound (record { head = h; told = told; last = last }) (found_at o p.points line p.judge.place.event (nat_lt last p.judge.place.event))
  go (Some why) s = inl s
  go None s = short (nat_lt last p.judge.place.event) refl where
    short : (b : Bool) → nat_lt last p.judge.place.event ≡ b → IsFound (record { head = h; told = told; last = last }) (found_at None p.points line p.judge.place.event b)
    short true is = let at = s.1.event in let low : last < p.judge.place.event = grind (arith, nat_tests) in inr (record { short = record { fit = s.0; below = omega arith; here = here }; event = ap EndFalls at })
    short false is = let at = s.1.event in let high : p.judge.place.event ≤ last = grind (arith, nat_tests) in (record { fits = s.0; ends = omega arith; explained = explains h.mutexes told s.0 inside }, s.2)

-- how far a pass has come over the lines of a text
pub record Progress (text rest : List ℕ) (h : Head) (line : ℕ) (p : Pass) : Type 0 where
  pub told : List Line
  pub so_far : lines_read line h told (lines_of rest) ≡ lines_read 2 h [] (lines_of text)
  pub shows : Shows h.mutexes p told
  pub here : line ≡ length told + 2
  pub inside : Each (λ e. IsMutex h.mutexes e.fact) told

pub begins : (text : List ℕ) (p : Pass) → IsFresh p → Progress text text p.judge.head 2 p
begins text p fresh = record { told = []; so_far = refl; shows = shows_new p.judge.head.mutexes p fresh; here = refl; inside = tt }

pub takes_line : (text rest first after : List ℕ) (h : Head) (line : ℕ) (p q : Pass) (e : Line) → Progress text rest h line p → lines_of rest ≡ first ∷ lines_of after → Ok (Told e) ≡ line_read h first → Takes p line e q → IsSound p.judge → length p.judge.objects.items ≡ h.mutexes → 1 ≤ e.event → thread_of e.fact < length p.judge.stages.items → IsMutex h.mutexes e.fact
    → Progress text after h (line + 1) q
takes_line text rest first after h line p q e g parts read takes sound is some lt mutex =
    let here = g.here in
    record {
      told = e ∷ g.told;
      so_far = goes_told line h g.told e first rest after _ parts (sym read) g.so_far;
      shows = shows_next h.mutexes p q g.told line e g.shows takes sound is some lt mutex here;
      here = omega arith;
      inside = (mutex, g.inside);
    }

pub ends_well : (text rest first after : List ℕ) (h : Head) (line last : ℕ) (p : Pass) → Progress text rest h line p → lines_of rest ≡ first ∷ lines_of after → Ok (End last) ≡ line_read h first → after ≡ [] → AnswersLines (lines_read 2 h [] (lines_of text)) (Ok (found_at p.illegal p.points line p.judge.place.event (nat_lt last p.judge.place.event)))
ends_well text rest first after h line last p g parts read empty =
    (record { head = h; told = g.told; last = last }, goes_end line h g.told last first rest after _ parts (sym read) g.so_far ∙ ended_empty (line + 1) h g.told last after empty, judged h p g.told line last g.shows g.here g.inside)
