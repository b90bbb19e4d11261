-- Whether a call may be out of time, by what is kept of its thread and its mutex.
use Rattle.std.proofs.Common.{◌≡◌, ◌≢◌, ⊎_elim, ℕ, ◌<◌, ◌≤◌, ◌==◌, ◌&&◌, ◌||◌, not, nat_le, nat_lt, MatchBool, Bool, true, false, List, [], ◌∷◌, ◌++◌, length, Option, None, Some, refl, sym, ap, subst, ◌∙◌, arith, get_or-set_same, get_or-set_other}
use Rattle.std.specs.Prelude.{if◌then◌else◌, slice_index, slice_set}
use Rattle.std.proofs.Math.Bool.{or-true}
use Rattle.std.proofs.Math.ListN.{length-set}
use Rattle.std.proofs.lemmas.Bool.Decides.{nat_tests}
use Rattle.lockword.specs.declared.reply.Reply.{Reply}
use Rattle.lockword.specs.declared.reply.Reply.TheVariants.{OK, ETIMEDOUT, XHELD}
use Rattle.posixmutex.specs.declared.object.Object.{Object}
use Rattle.posixmutex.specs.declared.point.Decision.{Decision}
use Rattle.posixmutex.specs.declared.point.Operation.{Operation}
use Rattle.posixmutex.specs.declared.point.Operation.TheVariants.{Lock, TimedLock, Unlock, Consistent, Wait, TimedWait, Death}
use Rattle.posixmutex.specs.Objects.{Permits, Does, IsByOwner, acquires, releases, stepped}
use Rattle.posixmutex.specs.Histories.{held_by}
use Rattle.posixmutex.proofs.Reasons.{reasons}
use Rattle.posixmutex.proofs.Steps.{determined}
use Rattle.facts.specs.declared.fact.Begun.{Begun}
use Rattle.facts.specs.declared.fact.Fact.{Fact}
use Rattle.facts.specs.declared.fact.Fact.TheVariants.{Begin, Kill, Point, Death as Died, Return}
use Rattle.facts.specs.declared.fact.Line.{Line}
use Rattle.facts.specs.Facts.{thread_of, decision_of, decides, is_passive}
use Rattle.facts.specs.Chances.{begins_call, is_anothers, mutex_next}
use Rattle.facts.specs.Lives.{Act}
use Rattle.facts.specs.Orders.{Later, Each}
use Rattle.verdict.specs.declared.stage.Made.{Made}
use Rattle.verdict.specs.declared.stage.Made.TheVariants.{Nothing, Released, Decided}
use Rattle.verdict.specs.declared.stage.Stage.{Stage}
use Rattle.verdict.specs.declared.stage.Stage.TheVariants.{Resting, Calling, Dying, Reaped}
use Rattle.verdict.specs.Earlier.{begun_at, call_in, chances_behind, freed_at, frees, gives_up, is_killed, moved, objects_after, points_in, told_of}
use Rattle.verdict.specs.Fits.{Allows, FitsThread}
use Rattle.verdict.specs.Judges.{begun_next, freed_next, has_waited}
use Rattle.verdict.specs.Stages.{May, MayPoint}
use Rattle.verdict.specs.Verdicts.{AllFit}
use Rattle.verdict.proofs.Burials.{no_call}
use Rattle.verdict.proofs.Lives.{lived}
use Rattle.verdict.proofs.Owners.{does_owners}
use Rattle.verdict.proofs.Stages.{Of, Kept, nobody_calls}

-- ---- the mutex

same_test : (a b : ℕ) → (a == b) ≡ (b == a)
same_test a b = go (a == b) refl (b == a) refl where
  go : (x : Bool) → (a == b) ≡ x → (y : Bool) → (b == a) ≡ y → x ≡ y
  go true e true f = refl
  go false e false f = refl
  go true e false f = absurd (grind (arith, nat_tests))
  go false e true f = absurd (grind (arith, nat_tests))

mutex_is : (m : ℕ) (o : Object) (os : ℕ → Object) (f : Fact) → o ≡ os m → mutex_next m o f ≡ moved os (decision_of f) m
mutex_is m o os (Point d) is = ap (λ (b : Bool). if b then stepped o d.thread d.operation d.reply else o) (same_test d.mutex m) ∙ ap (λ (z : Object). if m == d.mutex then stepped z d.thread d.operation d.reply else z) is
mutex_is m o os (Died t k) is = ap (λ (b : Bool). if b then stepped o t Death OK else o) (same_test k m) ∙ ap (λ (z : Object). if m == k then stepped z t Death OK else z) is
mutex_is m o os f is = is

pub chance_object : (t m : ℕ) (told : List Line) → (chances_behind t m told).mutex ≡ objects_after told m
chance_object t m [] = refl
chance_object t m (e ∷ es) = mutex_is m (chances_behind t m es).mutex (objects_after es) e.fact (chance_object t m es)

pub waited_next : (t m : ℕ) (e : Line) (es : List Line) → (chances_behind t m (e ∷ es)).waited ≡ ((not (begins_call t e.fact) && (chances_behind t m es).waited) || is_anothers t (objects_after (e ∷ es) m).owner)
waited_next t m e es = ap (λ (o : Object). (not (begins_call t e.fact) && (chances_behind t m es).waited) || is_anothers t o.owner) (chance_object t m (e ∷ es))

-- ---- a step of another thread

-- who gives the mutex up has owned it
gives : (held : ℕ) (o : Object) (u : ℕ) (op : Operation) (x : Reply) (n : Object) → Does held o u op x n → gives_up op x ≡ true → (o.owner ≡ Some u) × (n.owner ≡ None)
gives held o u op OK n does is = (reasons held o u op OK n does).frees is refl
gives held o u op x n does is = absurd cc

-- and nobody else loses it
by_owner : (o : Object) (u : ℕ) (op : Operation) (n : Object) → IsByOwner o op n → releases op ≡ false → o.owner ≡ Some u → n.owner ≡ None → ⊥
by_owner o u Unlock n by is own none = absurd cc
by_owner o u Death n by is own none = absurd cc
by_owner o u Consistent n by is own none = let e : Some u ≡ None = sym own ∙ sym by.1 ∙ none in absurd cc
by_owner o u op n by is own none = by

loses : (held : ℕ) (o : Object) (u : ℕ) (op : Operation) (x : Reply) (n : Object) → Does held o u op x n → gives_up op x ≡ false → o.owner ≡ Some u → n.owner ≡ None → ⊥
loses held o u op x n does is own none =
    ⊎_elim (λ same. let e : Some u ≡ None = sym own ∙ sym (ap (λ (z : Object). z.owner) same) ∙ none in absurd cc)
    (λ by. by_owner o u op n by.1 (subst (λ y. gives_up op y ≡ false) by.0 is) own none) ((reasons held o u op x n does).own own)

absorbed : (t : ℕ) (o : Option ℕ) (b f : ℕ) → (has_waited t o b f || is_anothers t o) ≡ has_waited t o b f
absorbed t None b f = go (nat_lt b f) where
  go : (x : Bool) → (x || false) ≡ x
  go true = refl
  go false = refl
absorbed t (Some u) b f = go (not (u == t)) where
  go : (x : Bool) → (x || x) ≡ x
  go true = refl
  go false = refl

step_waits : (held t u b f i : ℕ) (o n : Object) (op : Operation) (x : Reply) → u ≢ t → b < i → Does held o u op x n
    → (has_waited t o.owner b f || is_anothers t n.owner) ≡ has_waited t n.owner b (if gives_up op x then i else f)
step_waits held t u b f i o n op x other lt does = by_cases (gives_up op x) refl where
  no : (u == t) ≡ false
  no = grind (arith, nat_tests)

  by_cases : (g : Bool) → gives_up op x ≡ g → (has_waited t o.owner b f || is_anothers t n.owner) ≡ has_waited t n.owner b (if g then i else f)
  by_cases true is =
      let gone = gives held o u op x n does is in
      let was : has_waited t o.owner b f ≡ true = ap (λ w. has_waited t w b f) gone.0 ∙ ap not no in
      let later : nat_lt b i ≡ true = grind (arith, nat_tests) in
      ap (λ w. w || is_anothers t n.owner) was ∙ sym (ap (λ w. has_waited t w b i) gone.1 ∙ later)
  by_cases false is =
      ⊎_elim
      (λ same. ap (λ w. has_waited t o.owner b f || is_anothers t w) same ∙ absorbed t o.owner b f ∙ ap (λ w. has_waited t w b f) (sym same))
      (λ changes. ⊎_elim
      (λ takes.
      let now : has_waited t n.owner b f ≡ true = ap (λ w. has_waited t w b f) takes.1 ∙ ap not no in
      let is_so : is_anothers t n.owner ≡ true = ap (is_anothers t) takes.1 ∙ ap not no in
      ap (λ w. has_waited t o.owner b f || w) is_so ∙ or-true (has_waited t o.owner b f) ∙ sym now)
      (λ gone. absurd (loses held o u op x n does is gone.0 gone.1)) changes) (does_owners held o u op x n does)

-- ---- one fact

decided_waits : (n t m i b f : ℕ) (os : ℕ → Object) (w : Bool) (d : Decision) (z : Bool) → z ≡ ((d.mutex == m) && gives_up d.operation d.reply) → Allows n os (Some d) → w ≡ has_waited t (os m).owner b f → d.thread ≢ t → b < i
    → (w || is_anothers t (moved os (Some d) m).owner) ≡ has_waited t (moved os (Some d) m).owner b (if z then i else f)
decided_waits n t m i b f os w d z freed allows so other lt = go (m == d.mutex) refl where
  go : (x : Bool) → (m == d.mutex) ≡ x
      → (w || is_anothers t (if x then stepped (os m) d.thread d.operation d.reply else os m).owner) ≡ has_waited t (if x then stepped (os m) d.thread d.operation d.reply else os m).owner b (if z then i else f)
  go true is =
      let same : d.mutex ≡ m = grind (arith, nat_tests) in
      let done = allows.1 in
      let made : allows.0 ≡ stepped (os m) d.thread d.operation d.reply = determined (held_by d.thread os n) (os d.mutex) d.thread d.operation d.reply allows.0 done ∙ ap (λ k. stepped (os k) d.thread d.operation d.reply) same in
      let here = subst (λ k. Does (held_by d.thread os n) (os k) d.thread d.operation d.reply allows.0) same done in
      let frees_it : z ≡ gives_up d.operation d.reply = freed ∙ ap (λ y. y && gives_up d.operation d.reply) (same_test d.mutex m ∙ is) in
      ap (λ v. v || is_anothers t (stepped (os m) d.thread d.operation d.reply).owner) so
      ∙ subst (λ (p : Object). (has_waited t (os m).owner b f || is_anothers t p.owner) ≡ has_waited t p.owner b (if gives_up d.operation d.reply then i else f)) made (step_waits (held_by d.thread os n) t d.thread b f i (os m) allows.0 d.operation d.reply other lt here)
      ∙ ap (λ y. has_waited t (stepped (os m) d.thread d.operation d.reply).owner b (if y then i else f)) (sym frees_it)
  go false is =
      let spares : z ≡ false = freed ∙ ap (λ y. y && gives_up d.operation d.reply) (same_test d.mutex m ∙ is) in
      ap (λ v. v || is_anothers t (os m).owner) so ∙ absorbed t (os m).owner b f ∙ ap (λ y. has_waited t (os m).owner b (if y then i else f)) (sym spares)

-- a call that has just begun
fresh_call : (t i f : ℕ) (o : Option ℕ) → f ≤ i → is_anothers t o ≡ has_waited t o i f
fresh_call t i f None low = let not_yet : nat_lt i f ≡ false = grind (arith, nat_tests) in sym not_yet
fresh_call t i f (Some u) low = refl

and_true : (x : Bool) → x ≡ (x && true)
and_true true = refl
and_true false = refl

fact_waits : (n t m i b f : ℕ) (os : ℕ → Object) (w : Bool) (g : Fact) → f ≤ i → Allows n os (decision_of g) → (begins_call t g ≡ false → w ≡ has_waited t (os m).owner b f) → (decides g ≡ true → (thread_of g ≢ t) × (b < i))
    → ((not (begins_call t g) && w) || is_anothers t (moved os (decision_of g) m).owner) ≡ has_waited t (moved os (decision_of g) m).owner (if begins_call t g then i else b) (if frees m g then i else f)
fact_waits n t m i b f os w (Begin u c) low allows so other = go (u == t) so where
  go : (x : Bool) → (x ≡ false → w ≡ has_waited t (os m).owner b f) → ((not x && w) || is_anothers t (os m).owner) ≡ has_waited t (os m).owner (if x then i else b) f
  go true so = fresh_call t i f (os m).owner low
  go false so = ap (λ v. v || is_anothers t (os m).owner) (so refl) ∙ absorbed t (os m).owner b f
fact_waits n t m i b f os w (Point d) low allows so other = decided_waits n t m i b f os w d ((d.mutex == m) && gives_up d.operation d.reply) refl allows (so refl) (other refl).0 (other refl).1
fact_waits n t m i b f os w (Died u k) low allows so other = decided_waits n t m i b f os w (record { thread = u; mutex = k; operation = Death; reply = OK }) (k == m) (and_true (k == m)) allows (so refl) (other refl).0 (other refl).1
fact_waits n t m i b f os w g low allows so other = ap (λ v. v || is_anothers t (os m).owner) (so refl) ∙ absorbed t (os m).owner b f

-- ---- the facts before it

-- a thread in a call, which this fact of it doesn't begin, was in it
called : (t : ℕ) (f : Fact) (fs : List Fact) (c : Begun) → (thread_of f == t) ≡ true → begins_call t f ≡ false → call_in (f ∷ fs) ≡ Some c → call_in fs ≡ Some c
called t (Begin u k) fs c mine old is = let both : true ≡ false = sym mine ∙ old in absurd cc
called t (Return u x) fs c mine old is = absurd cc
called t (Kill u) fs c mine old is = absurd cc
called t f fs c mine old is = is

still_called : (t : ℕ) (e : Line) (es : List Line) (c : Begun) → begins_call t e.fact ≡ false → call_in (told_of t (e ∷ es)) ≡ Some c → call_in (told_of t es) ≡ Some c
still_called t e es c old is = go (thread_of e.fact == t) refl is where
  go : (b : Bool) → (thread_of e.fact == t) ≡ b → call_in (if b then e.fact ∷ told_of t es else told_of t es) ≡ Some c → call_in (told_of t es) ≡ Some c
  go false mine is = is
  go true mine is = called t e.fact (told_of t es) c mine old is

one_there : (ps : List Act) (p : Act) → ps ++ p ∷ [] ≡ [] → ⊥
one_there [] p is = absurd cc
one_there (q ∷ ps) p is = absurd cc

unpointed : (t : ℕ) (f : Fact) (fs : List Fact) → (thread_of f == t) ≡ true → begins_call t f ≡ false → points_in (f ∷ fs) ≡ [] → points_in fs ≡ []
unpointed t (Begin u k) fs mine old is = let both : true ≡ false = sym mine ∙ old in absurd cc
unpointed t (Point d) fs mine old is = absurd (one_there (points_in fs) (d.operation, d.reply) is)
unpointed t f fs mine old is = is

still_unpointed : (t : ℕ) (e : Line) (es : List Line) → begins_call t e.fact ≡ false → points_in (told_of t (e ∷ es)) ≡ [] → points_in (told_of t es) ≡ []
still_unpointed t e es old is = go (thread_of e.fact == t) refl is where
  go : (b : Bool) → (thread_of e.fact == t) ≡ b → points_in (if b then e.fact ∷ told_of t es else told_of t es) ≡ [] → points_in (told_of t es) ≡ []
  go false mine is = is
  go true mine is = unpointed t e.fact (told_of t es) mine old is

-- its own begin is in an event before that of another thread's step
a_begin : (t : ℕ) (f : Fact) → begins_call t f ≡ true → (is_passive f ≡ false) × (thread_of f ≡ t)
a_begin t (Begin u c) is = (refl, grind (arith, nat_tests))
a_begin t f is = absurd cc

began_before : (t : ℕ) (a e : Line) → begins_call t a.fact ≡ true → Later a e → is_passive e.fact ≡ false → thread_of e.fact ≢ t → a.event < e.event
began_before t a e begins l acts other = go (a.event == e.event) refl where
  go : (b : Bool) → (a.event == e.event) ≡ b → a.event < e.event
  go true is =
      let same : a.event ≡ e.event = grind (arith, nat_tests) in
      let begin = a_begin t a.fact begins in
      absurd (other (sym (l.one_thread same begin.0 acts) ∙ begin.1))
  go false is = let apart : a.event ≢ e.event = grind (arith, nat_tests) in let le = l.never_falls in omega arith

begun_before : (t : ℕ) (es : List Line) (e : Line) (c : Begun) → Each (λ a. Later a e) es → is_passive e.fact ≡ false → thread_of e.fact ≢ t → call_in (told_of t es) ≡ Some c → begun_at t es < e.event
begun_before t [] e c order acts other is = absurd cc
begun_before t (a ∷ es) e c order acts other is = go (begins_call t a.fact) refl (λ old. begun_before t es e c order.1 acts other (still_called t a es c old is)) where
  go : (b : Bool) → begins_call t a.fact ≡ b → (begins_call t a.fact ≡ false → begun_at t es < e.event) → (if b then a.event else begun_at t es) < e.event
  go true begins rest = began_before t a e begins order.0 acts other
  go false old rest = rest old

freed_before : (m : ℕ) (es : List Line) (e : Line) → Each (λ a. Later a e) es → freed_at m es ≤ e.event
freed_before m [] e order = omega arith
freed_before m (a ∷ es) e order = go (frees m a.fact) (freed_before m es e order.1) where
  go : (b : Bool) → freed_at m es ≤ e.event → (if b then a.event else freed_at m es) ≤ e.event
  go true rest = order.0.never_falls
  go false rest = rest

-- a point or a death is no begin, and nobody else's event tells it
acting : (t : ℕ) (f : Fact) → decides f ≡ true → (is_passive f ≡ false) × (begins_call t f ≡ false)
acting t (Point d) is = (refl, refl)
acting t (Died u m) is = (refl, refl)
acting t f is = absurd cc

-- a thread in a call that has had no point has neither
no_step : (f : Fact) (fs : List Fact) (c : Begun) → decides f ≡ true → FitsThread fs f → (is_killed fs ≡ true → call_in fs ≡ None) → call_in (f ∷ fs) ≡ Some c → points_in (f ∷ fs) ≡ [] → ⊥
no_step (Point d) fs c is fits dead call points = one_there (points_in fs) (d.operation, d.reply) points
no_step (Died u m) fs c is fits dead call points = nobody_calls _ (dead fits.0) call
no_step f fs c is fits dead call points = absurd cc

others_step : (n t : ℕ) (e : Line) (es : List Line) (c : Begun) → AllFit n es → FitsThread (told_of (thread_of e.fact) es) e.fact → call_in (told_of t (e ∷ es)) ≡ Some c → points_in (told_of t (e ∷ es)) ≡ [] → decides e.fact ≡ true → thread_of e.fact ≢ t
others_step n t e es c fit fits call points does same =
    let mine : (thread_of e.fact == t) ≡ true = grind (arith, nat_tests) in
    let own = ap (λ b. if b then e.fact ∷ told_of t es else told_of t es) mine in
    no_step e.fact (told_of t es) c does (subst (λ u. FitsThread (told_of u es) e.fact) same fits) (λ dead. let l = lived n t es fit in no_call l.stage (told_of t es) l.kept dead)
    (sym (ap call_in own) ∙ call) (sym (ap points_in own) ∙ points)

-- ---- all of them

-- of a thread in a call that has had no point
pub waits : (n t m : ℕ) (told : List Line) (c : Begun) → AllFit n told → call_in (told_of t told) ≡ Some c → points_in (told_of t told) ≡ []
    → (chances_behind t m told).waited ≡ has_waited t (objects_after told m).owner (begun_at t told) (freed_at m told)
waits n t m [] c fit call points = absurd cc
waits n t m (e ∷ es) c fit call points = waited_next t m e es ∙ fact_waits n t m e.event (begun_at t es) (freed_at m es) (objects_after es) (chances_behind t m es).waited e.fact (freed_before m es e fit.0.in_order) fit.0.allowed
    (λ old. waits n t m es c fit.1 (still_called t e es c old call) (still_unpointed t e es old points))
    (λ does.
    let other = others_step n t e es c fit.1 fit.0.of_thread call points does in
    let kind = acting t e.fact does in
    (other, begun_before t es e c fit.0.in_order kind.0 other (still_called t e es c kind.1 call)))

-- ---- a call that is out of time

-- has had no point
pub late_is_timed : (held : ℕ) (o : Object) (t : ℕ) (op : Operation) (n : Object) → Does held o t op ETIMEDOUT n → op ≡ TimedLock
late_is_timed held o t op n does = by_cases (acquires op && nat_le 2048 held) does where
  timed : (a : Operation) → Permits o t a ETIMEDOUT n → a ≡ TimedLock
  timed TimedLock h = refl
  timed a h = absurd h

  by_cases : (b : Bool) → MatchBool b ((ETIMEDOUT ≡ XHELD) × (n ≡ o)) (Permits o t op ETIMEDOUT n) → op ≡ TimedLock
  by_cases true h = let no : ETIMEDOUT ≡ XHELD = h.0 in absurd cc
  by_cases false h = timed op h

unmade : (a : Operation) (ps : List Act) (made : Made) (b : Operation) (x : Reply) → Of a ps made → MayPoint a made b x → b ≡ TimedLock → ps ≡ []
unmade a ps Nothing b x of may is = of
unmade a ps Released b x of may is = absurd (cc (released a may, is))
  where
    released : (k : Operation) → MayPoint k Released b x → b ≡ Lock
    released Wait h = h
    released TimedWait h = h
    released TimedLock h = h
    released k h = h
unmade Wait ps (Decided y) b x of may is = absurd may
unmade TimedLock ps (Decided y) b x of may is = absurd may
unmade a ps (Decided y) b x of may is = absurd may

first_point : (s : Stage) (fs : List Fact) (d : Decision) → Kept s fs → May s (Point d) → d.operation ≡ TimedLock → (c : Begun) × (call_in fs ≡ Some c) × (points_in fs ≡ [])
first_point (Calling c made z) fs d kept may is = (c, kept.0, unmade c.operation (points_in fs) made d.operation d.reply kept.4 may.2 is)
first_point Resting fs d kept may is = absurd may
first_point Dying fs d kept may is = absurd may
first_point Reaped fs d kept may is = absurd may

out_of_time : (n : ℕ) (os : ℕ → Object) (d : Decision) → Allows n os (Some d) → d.reply ≡ ETIMEDOUT → d.operation ≡ TimedLock
out_of_time n os d allows late = late_is_timed (held_by d.thread os n) (os d.mutex) d.thread d.operation allows.0 (subst (λ x. Does (held_by d.thread os n) (os d.mutex) d.thread d.operation x allows.0) late allows.1)

-- what is kept says whether it has waited
pub so_waited : (n k : ℕ) (os : ℕ → Object) (told : List Line) (s : Stage) (d : Decision) (b f : ℕ) → AllFit n told → Kept s (told_of d.thread told) → May s (Point d) → Allows k os (Some d) → d.reply ≡ ETIMEDOUT → os ≡ objects_after told → b ≡ begun_at d.thread told → f ≡ freed_at d.mutex told
    → has_waited d.thread (os d.mutex).owner b f ≡ (chances_behind d.thread d.mutex told).waited
so_waited n k os told s d b f fit kept may allows late objects begun freed =
    let first = first_point s (told_of d.thread told) d kept may (out_of_time k os d allows late) in
    ap (λ (ps : ℕ → Object). has_waited d.thread (ps d.mutex).owner b f) objects
    ∙ ap (λ i. has_waited d.thread (objects_after told d.mutex).owner i f) begun
    ∙ ap (λ i. has_waited d.thread (objects_after told d.mutex).owner (begun_at d.thread told) i) freed
    ∙ sym (waits n d.thread d.mutex told first.0 fit first.1 first.2)

-- ---- what is kept

pub begun_kept : (bs : List ℕ) (told : List Line) (e : Line) → ((t : ℕ) → t < length bs → slice_index bs t ≡ begun_at t told) → (t : ℕ) → t < length bs → slice_index (begun_next bs e.event e.fact) t ≡ begun_at t (e ∷ told)
begun_kept bs told e kept t lt = go e.fact where
  go : (f : Fact) → slice_index (begun_next bs e.event f) t ≡ (if begins_call t f then e.event else begun_at t told)
  go (Begin u c) = here (u == t) refl where
    here : (b : Bool) → (u == t) ≡ b → slice_index (slice_set bs u e.event) t ≡ (if b then e.event else begun_at t told)
    here true is =
        let same : u ≡ t = grind (arith, nat_tests) in
        ap (λ k. slice_index (slice_set bs k e.event) t) same ∙ get_or-set_same bs t e.event 0 lt
    here false is = let other : t ≢ u = grind (arith, nat_tests) in get_or-set_other bs u t e.event 0 other ∙ kept t lt
  go f = kept t lt

freed_kept_by : (fs : List ℕ) (told : List Line) (i k m : ℕ) → m < length fs → slice_index fs m ≡ freed_at m told → slice_index (slice_set fs k i) m ≡ (if k == m then i else freed_at m told)
freed_kept_by fs told i k m lt kept = here (k == m) refl where
  here : (b : Bool) → (k == m) ≡ b → slice_index (slice_set fs k i) m ≡ (if b then i else freed_at m told)
  here true is =
      let same : k ≡ m = grind (arith, nat_tests) in
      ap (λ j. slice_index (slice_set fs j i) m) same ∙ get_or-set_same fs m i 0 lt
  here false is = let other : m ≢ k = grind (arith, nat_tests) in get_or-set_other fs k m i 0 other ∙ kept

pub freed_kept : (fs : List ℕ) (told : List Line) (e : Line) → ((m : ℕ) → m < length fs → slice_index fs m ≡ freed_at m told) → (m : ℕ) → m < length fs → slice_index (freed_next fs e.event e.fact) m ≡ freed_at m (e ∷ told)
freed_kept fs told e kept m lt = go e.fact where
  go : (f : Fact) → slice_index (freed_next fs e.event f) m ≡ (if frees m f then e.event else freed_at m told)
  go (Point d) = here (gives_up d.operation d.reply) where
    unfreed : (x : Bool) → freed_at m told ≡ (if x && false then e.event else freed_at m told)
    unfreed true = refl
    unfreed false = refl

    here : (b : Bool) → slice_index (if b then slice_set fs d.mutex e.event else fs) m ≡ (if (d.mutex == m) && b then e.event else freed_at m told)
    here true = freed_kept_by fs told e.event d.mutex m lt (kept m lt) ∙ ap (λ x. if x then e.event else freed_at m told) (and_true (d.mutex == m))
    here false = kept m lt ∙ unfreed (d.mutex == m)
  go (Died u k) = freed_kept_by fs told e.event k m lt (kept m lt)
  go f = kept m lt

pub begun_length : (bs : List ℕ) (i : ℕ) (f : Fact) → length (begun_next bs i f) ≡ length bs
begun_length bs i (Begin t c) = length-set bs t i
begun_length bs i f = refl

pub freed_length : (fs : List ℕ) (i : ℕ) (f : Fact) → length (freed_next fs i f) ≡ length fs
freed_length fs i (Point d) = go (gives_up d.operation d.reply) where
  go : (b : Bool) → length (if b then slice_set fs d.mutex i else fs) ≡ length fs
  go true = length-set fs d.mutex i
  go false = refl
freed_length fs i (Died t m) = length-set fs m i
freed_length fs i f = refl
