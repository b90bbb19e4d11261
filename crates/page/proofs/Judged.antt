-- A page's states are the judge's.
use Rattle.std.proofs.Common.{◌≡◌, ⊎_elim, inl, inr, ℕ, ◌+◌, ◌-◌, ◌<◌, ◌≤◌, ◌⊎◌, Bool, true, false, cond, Option, Some, None, List, [], ◌∷◌, length, refl, sym, ap, subst, ◌∙◌, arith, get_or-set_same, get_or-set_other}
use Rattle.std.specs.Prelude.{◌==◌, slice_set, if◌then◌else◌}
use Rattle.std.specs.Option.{is_some}
use Rattle.std.specs.List.{count_by}
use Rattle.std.proofs.lemmas.Bool.Decides.{nat_tests}
use Rattle.std.proofs.lemmas.List.{length-set}
use Rattle.std.proofs.lemmas.List.Recursion.{is_count_by}
use mathlib.Core.Path.{fun_ext}
use Rattle.lockword.specs.declared.reply.Reply.{Reply}
use Rattle.posixmutex.specs.declared.object.Object.{Object}
use Rattle.posixmutex.specs.declared.point.Operation.{Operation}
use Rattle.posixmutex.specs.declared.point.Operation.TheVariants.{TimedLock, Unlock, Wait, TimedWait}
use Rattle.posixmutex.specs.Objects.{fresh}
use Rattle.facts.specs.declared.fact.Queue.{Queue}
use Rattle.facts.specs.declared.fact.Queue.TheVariants.{Mutex}
use Rattle.facts.specs.declared.fact.Fact.{Fact}
use Rattle.facts.specs.declared.fact.Fact.TheVariants.{Begin, Point, Death, Sleep, Wake, Move, Return, Kill, Reap, Renew}
use Rattle.facts.specs.declared.fact.Line.{Line}
use Rattle.facts.specs.Facts.{decision_of, is_renewal, thread_of}
use Rattle.facts.specs.Lives.{Act}
use Rattle.verdict.specs.declared.head.Head.{Head}
use Rattle.verdict.specs.declared.judge.Judge.{Judge}
use Rattle.verdict.specs.declared.stage.Made.{Made}
use Rattle.verdict.specs.declared.stage.Made.TheVariants.{Nothing, Released, Decided}
use Rattle.verdict.specs.declared.stage.Stage.{Stage}
use Rattle.verdict.specs.declared.stage.Stage.TheVariants.{Resting, Calling, Dying, Reaped}
use Rattle.verdict.specs.Earlier.{moved, objects_after, told_of}
use Rattle.verdict.specs.Fits.{FitsThread}
use Rattle.verdict.specs.Judges.{object_at, stage_at}
use Rattle.verdict.specs.Stages.{May, MayPoint, next, pointed}
use Rattle.verdict.specs.Verdicts.{AllFit}
use Rattle.verdict.proofs.Stages.{Kept, fits_may, next_kept}
use Rattle.page.specs.declared.status.Bed.{Bed}
use Rattle.page.specs.declared.status.Status.{Status}
use Rattle.page.specs.Judged.{Agrees, HasTaken, IsAsJudged, IsNewest, IsPointOf, StatesAreTheJudges, act_told, queue_told, stage_in, stage_of}
use Rattle.page.specs.States.{statuses}
use Rattle.page.specs.Statuses.{after, bed_of, first_status, life_in, point_in, slept, status_of}
use Rattle.page.proofs.Behind.{length_listed, listed_at, told_by, told_more}

-- ---- line by line

pub nowhere : (b : Option Bed) → is_some b ≡ false → b ≡ None
nowhere None e = refl
nowhere (Some b) e = absurd cc

point_next : (a : Operation) (made : Made) (b : Operation) (x : Reply) (p : Option Act) → IsPointOf a made p → MayPoint a made b x → IsPointOf a (pointed a b x) (Some (b, x))
point_next Wait Nothing Wait x p h m = inl refl
point_next Wait Nothing Unlock x p h m = (inl refl, ap (λ (y : Reply). Some (Unlock, y)) m)
point_next Wait Nothing b x p h m = absurd cc
point_next Wait Released b x p h m = subst (λ (r : Operation). IsPointOf Wait (pointed Wait r x) (Some (r, x))) (sym m) (inr (inl (inl (inl refl), refl)))
point_next Wait (Decided y) b x p h m = absurd m
point_next TimedWait Nothing Wait x p h m = inr (inr (refl, refl))
point_next TimedWait Nothing Unlock x p h m = (inr refl, ap (λ (y : Reply). Some (Unlock, y)) m)
point_next TimedWait Nothing b x p h m = absurd m
point_next TimedWait Released b x p h m = subst (λ (r : Operation). IsPointOf TimedWait (pointed TimedWait r x) (Some (r, x))) (sym m) (inr (inl (inl (inr refl), refl)))
point_next TimedWait (Decided y) b x p h m = absurd m
point_next TimedLock Nothing b x p h (inl m) = inl (ap (λ (o : Operation). Some (o, x)) m)
point_next TimedLock Nothing b x p h (inr m) = subst (λ (r : Operation). IsPointOf TimedLock (pointed TimedLock r x) (Some (r, x))) (sym m) (inr (inl (inr refl, refl)))
point_next a Nothing b x p h m = inl (ap (λ (o : Operation). Some (o, x)) m)
point_next a Released b x p h m = ⊎_elim (λ (e : a ≡ Wait). absurd cc) (λ (e : a ≡ TimedWait). absurd cc) h.0
point_next a (Decided y) b x p h m = absurd m

-- what a fact makes of a status goes with what it makes of the stage
agrees_next : (stage : Stage) (s : Status) (f : Fact) (k : ℕ) → Agrees stage s → May stage f → Agrees (next stage f) (after s f k)
agrees_next Resting s (Begin t c) k a m = (refl, refl, ap is_some a.0.bed, a.1, a.2)
agrees_next Resting s (Kill t) k a m = (record { call = refl; point = refl; bed = refl }, refl, a.2)
agrees_next (Calling c made z) s (Kill t) k a m = (record { call = refl; point = refl; bed = refl }, refl, a.4)
agrees_next (Calling c made z) s (Point d) k a m = (a.0, point_next c.operation made d.operation d.reply s.point a.1 m.2, a.2, a.3, a.4)
agrees_next (Calling c made z) s (Sleep t q) k a m = (a.0, a.1, refl, a.3, a.4)
agrees_next (Calling c made z) s (Wake t) k a m = (a.0, a.1, refl, a.3, a.4)
agrees_next (Calling c made z) s (Move t n) k a m = (a.0, a.1, sym m, a.3, a.4)
agrees_next (Calling c made z) s (Return t x) k a m = (record { call = refl; point = refl; bed = nowhere s.bed (a.2 ∙ m.0) }, a.3, a.4)
agrees_next Dying s (Death t n) k a m = a
agrees_next Dying s (Reap t) k a m = (record { call = a.0.call; point = a.0.point; bed = a.0.bed }, a.1, refl)
agrees_next Reaped s (Renew t) k a m = (record { call = a.0.call; point = a.0.point; bed = a.0.bed }, refl, refl)
agrees_next stage s f k a m = absurd m

abbrev pub Goes : List Fact → Status → Type 0
Goes fs s = Kept (stage_in fs) fs × Agrees (stage_in fs) s

goes_next : (own : Bool) (t : ℕ) (e : Line) (es : List Line) → (own ≡ true → FitsThread (told_of t es) e.fact) → Goes (told_of t es) (status_of t es) → Goes (if own then e.fact ∷ told_of t es else told_of t es) (told_by own t e es)
goes_next true t e es fits h =
    let fs = told_of t es in
    let may : May (stage_in fs) e.fact = fits_may (stage_in fs) e.fact fs h.0 (fits refl) in
    (next_kept (stage_in fs) e.fact fs h.0 may, subst (Agrees (next (stage_in fs) e.fact)) (sym (told_more e.fact (length es + 2) fs (bed_of t es))) (agrees_next (stage_in fs) (status_of t es) e.fact (length es + 2) h.1 may))
goes_next false t e es fits h = h

is_own : (a b : ℕ) → (a == b) ≡ true → a ≡ b
is_own a b is = grind (arith, nat_tests)

other : (a b : ℕ) → a ≡ b → (a == b) ≡ false → ⊥
other a b same is = grind (arith, nat_tests)

pub goes : (n t : ℕ) (es : List Line) → AllFit n es → Goes (told_of t es) (status_of t es)
goes n t [] fit = ((refl, refl, refl, refl), (record { call = refl; point = refl; bed = refl }, refl, refl))
goes n t (e ∷ es) fit = goes_next (thread_of e.fact == t) t e es (λ own. subst (λ (u : ℕ). FitsThread (told_of u es) e.fact) (is_own (thread_of e.fact) t own) fit.0.of_thread) (goes n t es fit.1)

-- ---- the newest

newest_here : {A : Type 0} (kind : Fact → Option A) (t : ℕ) (e : Line) (es : List Line) (x : A) (k : ℕ) → k ≡ length es + 2 → thread_of e.fact ≡ t → kind e.fact ≡ Some x → IsNewest kind t (e ∷ es) x k
newest_here kind t e es x k at own tells = record {
  newer = [];
  line = e;
  older = es;
  all = refl;
  here = at;
  own = own;
  tells = tells;
  since = tt;
}

newest_more : {A : Type 0} (kind : Fact → Option A) (t : ℕ) (e : Line) (es : List Line) (x : A) (k : ℕ) → (thread_of e.fact ≡ t → kind e.fact ≡ None) → IsNewest kind t es x k → IsNewest kind t (e ∷ es) x k
newest_more kind t e es x k none n = record {
  newer = e ∷ n.newer;
  line = n.line;
  older = n.older;
  all = ap (λ (ls : List Line). e ∷ ls) n.all;
  here = n.here;
  own = n.own;
  tells = n.tells;
  since = (none, n.since);
}

abbrev pub bed_at : Queue → ℕ → Bed
bed_at q k = record { queue = q; line = k }

bed_told : (q : Queue) (k : ℕ) (x : Bed) → Some (bed_at q k) ≡ Some x → (Some q ≡ Some x.queue) × (x.line ≡ k)
bed_told q k x h = let g : bed_at q k ≡ x = cc in (ap (λ (y : Bed). Some y.queue) g, ap (λ (y : Bed). y.line) (sym g))

slept_so : (f : Fact) (k : ℕ) (b : Option Bed) (x : Bed) → slept f k b ≡ Some x → ((queue_told f ≡ Some x.queue) × (x.line ≡ k)) ⊎ ((queue_told f ≡ None) × (b ≡ Some x))
slept_so (Sleep t q) k b x h = inl (bed_told q k x h)
slept_so (Move t m) k b x h = inl (bed_told (Mutex m) k x h)
slept_so (Wake t) k b x h = absurd cc
slept_so (Kill t) k b x h = absurd cc
slept_so f k b x h = inr (refl, h)

pointed_so : (f : Fact) (fs : List Fact) (p : Act) → point_in (f ∷ fs) ≡ Some p → (act_told f ≡ Some p) ⊎ ((act_told f ≡ None) × (point_in fs ≡ Some p))
pointed_so (Begin t c) fs p h = absurd cc
pointed_so (Return t x) fs p h = absurd cc
pointed_so (Kill t) fs p h = absurd cc
pointed_so (Point d) fs p h = inl h
pointed_so f fs p h = inr (refl, h)

-- from line to line
bed_here : (t : ℕ) (e : Line) (es : List Line) (b : Bed) → thread_of e.fact ≡ t → (bed_of t es ≡ Some b → IsNewest queue_told t es b.queue b.line) → ((queue_told e.fact ≡ Some b.queue) × (b.line ≡ length es + 2)) ⊎ ((queue_told e.fact ≡ None) × (bed_of t es ≡ Some b)) → IsNewest queue_told t (e ∷ es) b.queue b.line
bed_here t e es b own before (inl g) = newest_here queue_told t e es b.queue b.line g.1 own g.0
bed_here t e es b own before (inr g) = newest_more queue_told t e es b.queue b.line (λ _. g.0) (before g.1)

bed_by : (own : Bool) (t : ℕ) (e : Line) (es : List Line) (b : Bed) → (thread_of e.fact == t) ≡ own → (bed_of t es ≡ Some b → IsNewest queue_told t es b.queue b.line) → (if own then slept e.fact (length es + 2) (bed_of t es) else bed_of t es) ≡ Some b → IsNewest queue_told t (e ∷ es) b.queue b.line
bed_by true t e es b is before h = bed_here t e es b (is_own (thread_of e.fact) t is) before (slept_so e.fact (length es + 2) (bed_of t es) b h)
bed_by false t e es b is before h = newest_more queue_told t e es b.queue b.line (λ own. absurd (other (thread_of e.fact) t own is)) (before h)

bed_newest : (t : ℕ) (es : List Line) (b : Bed) → bed_of t es ≡ Some b → IsNewest queue_told t es b.queue b.line
bed_newest t [] b h = absurd cc
bed_newest t (e ∷ es) b h = bed_by (thread_of e.fact == t) t e es b refl (bed_newest t es b) h

abbrev pub Pointed : ℕ → List Line → Act → Type 0
Pointed t es p = (k : ℕ) × IsNewest act_told t es p k

point_more : (t : ℕ) (e : Line) (es : List Line) (p : Act) → (thread_of e.fact ≡ t → act_told e.fact ≡ None) → Pointed t es p → Pointed t (e ∷ es) p
point_more t e es p none n = (n.0, newest_more act_told t e es p n.0 none n.1)

point_here : (t : ℕ) (e : Line) (es : List Line) (p : Act) → thread_of e.fact ≡ t → (point_in (told_of t es) ≡ Some p → Pointed t es p) → (act_told e.fact ≡ Some p) ⊎ ((act_told e.fact ≡ None) × (point_in (told_of t es) ≡ Some p)) → Pointed t (e ∷ es) p
point_here t e es p own before (inl g) = (length es + 2, newest_here act_told t e es p (length es + 2) refl own g)
point_here t e es p own before (inr g) = point_more t e es p (λ _. g.0) (before g.1)

point_by : (own : Bool) (t : ℕ) (e : Line) (es : List Line) (p : Act) → (thread_of e.fact == t) ≡ own → (point_in (told_of t es) ≡ Some p → Pointed t es p) → point_in (if own then e.fact ∷ told_of t es else told_of t es) ≡ Some p → Pointed t (e ∷ es) p
point_by true t e es p is before h = point_here t e es p (is_own (thread_of e.fact) t is) before (pointed_so e.fact (told_of t es) p h)
point_by false t e es p is before h = point_more t e es p (λ own. absurd (other (thread_of e.fact) t own is)) (before h)

point_newest : (t : ℕ) (es : List Line) (p : Act) → point_in (told_of t es) ≡ Some p → Pointed t es p
point_newest t [] p h = absurd cc
point_newest t (e ∷ es) p h = point_by (thread_of e.fact == t) t e es p refl (point_newest t es p) h

-- ---- lives

some_life : (fs : List Fact) → 1 ≤ life_in fs
some_life [] = omega arith
some_life (Renew t ∷ fs) = let h = some_life fs in omega (arith, h)
some_life (f ∷ fs) = some_life fs

abbrev pub former : List Fact → ℕ
former fs = life_in fs - 1

former_next : (f : Fact) (fs : List Fact) → former (f ∷ fs) ≡ cond (is_renewal f) (1 + former fs) (former fs)
former_next (Renew t) fs = let h = some_life fs in omega (arith, h)
former_next f fs = refl

lives_counted : (fs : List Fact) → life_in fs ≡ 1 + count_by is_renewal fs
lives_counted fs = let h = some_life fs in let c : former fs ≡ count_by is_renewal fs = is_count_by former is_renewal refl former_next fs in omega (arith, h, c)

-- ---- a judge

pub record Keeps (h : Head) (es : List Line) (j : Judge) : Type 0 where
  pub each : length j.stages.items ≡ h.threads + 1
  pub stages : (t : ℕ) → stage_at j.stages.items t ≡ stage_of t es
  pub objects : object_at j.objects.items ≡ objects_after es

stages_next : (xs : List Stage) (e : Line) (es : List Line) → thread_of e.fact < length xs → ((t : ℕ) → stage_at xs t ≡ stage_of t es) → (t : ℕ) → stage_at (slice_set xs (thread_of e.fact) (next (stage_at xs (thread_of e.fact)) e.fact)) t ≡ stage_of t (e ∷ es)
stages_next xs e es lt kept t = by_own (thread_of e.fact == t) refl where
  by_own : (own : Bool) → (thread_of e.fact == t) ≡ own → stage_at (slice_set xs (thread_of e.fact) (next (stage_at xs (thread_of e.fact)) e.fact)) t ≡ stage_in (if own then e.fact ∷ told_of t es else told_of t es)
  by_own true is =
      subst (λ (v : ℕ). stage_at (slice_set xs (thread_of e.fact) (next (stage_at xs (thread_of e.fact)) e.fact)) v ≡ next (stage_of v es) e.fact) (is_own (thread_of e.fact) t is)
      (get_or-set_same xs (thread_of e.fact) (next (stage_at xs (thread_of e.fact)) e.fact) Resting lt ∙ ap (λ (s : Stage). next s e.fact) (kept (thread_of e.fact)))
  by_own false is = get_or-set_other xs (thread_of e.fact) t (next (stage_at xs (thread_of e.fact)) e.fact) Resting (λ same. other (thread_of e.fact) t (sym same) is) ∙ kept t

keeps : (h : Head) (es : List Line) (j : Judge) → HasTaken h es j → Keeps h es j
keeps h [] j new = record {
  each = new.each_stage;
  stages = new.stages;
  objects = fun_ext new.objects;
}
keeps h (e ∷ es) j taken =
    let k = keeps h es taken.0 taken.1 in
    record {
      each = ap length taken.4.stages ∙ length-set taken.0.stages.items (thread_of e.fact) (next (stage_at taken.0.stages.items (thread_of e.fact)) e.fact) ∙ k.each;
      stages = λ t. ap (λ (xs : List Stage). stage_at xs t) taken.4.stages ∙ stages_next taken.0.stages.items e es (subst (λ (n : ℕ). thread_of e.fact < n) (sym k.each) taken.2.1.0) k.stages t;
      objects = taken.4.objects ∙ ap (λ (os : ℕ → Object). moved os (decision_of e.fact)) k.objects;
    }

-- ---- the states

judged_so : (h : Head) (t : ℕ) (es : List Line) → AllFit h.mutexes es → IsAsJudged h t es (status_of t es)
judged_so h t es fit = record {
  stage = (goes h.mutexes t es fit).1;
  judge = λ j taken. (keeps h es j taken).stages t;
  bed = bed_newest t es;
  point = point_newest t es;
  life = lives_counted (told_of t es);
}

pub states_are_the_judges : StatesAreTheJudges
states_are_the_judges h es fit = record {
  each_thread = length_listed (statuses es) (h.threads + 1);
  each_mutex = length_listed (objects_after es) h.mutexes;
  threads = λ t lt. subst (IsAsJudged h t es) (sym (listed_at (statuses es) (h.threads + 1) t first_status lt)) (judged_so h t es fit);
  mutexes = λ j taken m lt. listed_at (objects_after es) h.mutexes m fresh lt ∙ sym (ap (λ (os : ℕ → Object). os m) (keeps h es j taken).objects);
}
