-- The steps so far certify the entries so far.
use Rattle.std.proofs.Common.{◌≡◌, ℕ, zero, suc, ◌<◌, ◌≤◌, ◌+◌, ◌==◌, inl, inr, Bool, true, false, not, ◌||◌, List, [], ◌∷◌, ◌++◌, length, reverse, take, Option, Some, None, refl, sym, ap, subst, ◌∙◌, arith, add-one}
use Rattle.std.specs.List.{slice_get}
use Rattle.std.proofs.lemmas.List.{reverse-append}
use Rattle.std.specs.Prelude.{if◌then◌else◌, slice_index, slice_set}
use Rattle.std.proofs.lemmas.Bool.Decides.{nat_tests}
use Rattle.facts.specs.declared.fact.Fact.{Fact}
use Rattle.facts.specs.declared.fact.Fact.TheVariants.{Kill}
use Rattle.facts.specs.Facts.{thread_of}
use Rattle.verdict.specs.Earlier.{begun_at, freed_at, told_of}
use Rattle.verdict.specs.Fits.{Fits}
use Rattle.verdict.specs.Judges.{IsMutex, object_at}
use Rattle.verdict.proofs.Stages.{Kept}
use Rattle.histories.specs.declared.entry.Entry.{Entry}
use Rattle.histories.specs.declared.entry.Entry.TheVariants.{Told, Doom}
use Rattle.histories.specs.declared.head.Head.{Head}
use Rattle.histories.specs.Histories.{Certifies, Shows, Nothing, Hides, Tells, Dooms, Kills, is_hidden, without}
use Rattle.certificates.specs.declared.state.State.{State}
use Rattle.certificates.specs.Phases.{stage_of}
use Rattle.certificates.specs.States.{Accepts, IsDoomed, IsNew, IsSound, Moves, doom_at, phase_at}
use Rattle.certificates.specs.Certificates.{Takes, TakesFact, is_doomed, seen_of, trace_of}
use Rattle.certificates.proofs.Fitting.{Reflects, accepts_fits, accepts_releases, line, reflects_new, reflects_next}
use Rattle.certificates.proofs.Showing.{alive, nobody_yet, with_one, without_one}

-- ---- who is doomed, and what is seen

-- no kill is hidden
hidden_dooms : (f : Fact) (t : ℕ) (es : List Entry) → is_hidden f ≡ true → is_doomed t (Told f ∷ es) ≡ is_doomed t es
hidden_dooms (Kill u) t es h = let no : false ≡ true = h in absurd cc
hidden_dooms f t es h = refl

-- nor is anybody spared who wasn't doomed
free_dooms : (f : Fact) (t : ℕ) (es : List Entry) → is_doomed (thread_of f) es ≡ false → is_doomed t (Told f ∷ es) ≡ is_doomed t es
free_dooms (Kill u) t es free = by_cases (u == t) refl where
  by_cases : (b : Bool) → (u == t) ≡ b → (if b then false else is_doomed t es) ≡ is_doomed t es
  by_cases true is = let same : u ≡ t = grind (arith, nat_tests) in sym (ap (λ (v : ℕ). is_doomed v es) (sym same) ∙ free)
  by_cases false is = refl
free_dooms f t es free = refl

kill_dooms : (f : Fact) (t : ℕ) (es : List Entry) (d : ℕ → Bool) → f ≡ Kill (thread_of f) → d t ≡ is_doomed t es → without (thread_of f) d t ≡ is_doomed t (Told f ∷ es)
kill_dooms f t es d is same = ap (λ (b : Bool). if thread_of f == t then false else b) same ∙ sym (ap (λ (g : Fact). is_doomed t (Told g ∷ es)) is)

hidden_unseen : (f : Fact) (es : List Entry) → is_hidden f ≡ true → seen_of (Told f ∷ es) ≡ seen_of es
hidden_unseen f es h = ap (λ (b : Bool). if not (b || is_doomed (thread_of f) es) then Told f ∷ seen_of es else seen_of es) h

pub told_seen : (f : Fact) (es : List Entry) → is_hidden f ≡ false → is_doomed (thread_of f) es ≡ false → seen_of (Told f ∷ es) ≡ Told f ∷ seen_of es
told_seen f es h free = λ i. if not (h i || free i) then Told f ∷ seen_of es else seen_of es

doomed_unseen : (f : Fact) (es : List Entry) → is_hidden f ≡ false → is_doomed (thread_of f) es ≡ true → seen_of (Told f ∷ es) ≡ seen_of es
doomed_unseen f es h dead = λ i. if not (h i || dead i) then Told f ∷ seen_of es else seen_of es

-- ---- what is kept

pub record Stands (n : ℕ) (h steps : List Entry) (s : State) : Type 0 where
  pub many : length s.objects.items ≡ n
  pub reflects : Reflects s (trace_of steps)
  pub certifies : Certifies n (doom_at s.doomed.items) (trace_of steps) h
  pub doomed : (t : ℕ) → doom_at s.doomed.items t ≡ is_doomed t steps
  pub seen : seen_of steps ≡ h

pub begins : (h : Head) (s : State) → IsNew h s → Stands h.mutexes [] [] s
begins h s new = record {
  many = new.many;
  reflects = reflects_new h s new;
  certifies = record { fits = tt; waits = tt; inside = tt; shows = subst (λ d. Shows d [] []) (sym (nobody_yet h s new)) Nothing };
  doomed = new.doomed;
  seen = refl;
}

-- a line that fits, where it shows this history
goes : (n : ℕ) (h more steps : List Entry) (f : Fact) (ds : List Bool) (s k : State) → IsSound s → Stands n h steps s → Accepts s f → Moves s f ds k → (Shows (doom_at s.doomed.items) (trace_of steps) h → Shows (doom_at ds) (line steps f ∷ trace_of steps) more)
    → ((t : ℕ) → doom_at ds t ≡ is_doomed t (Told f ∷ steps)) → seen_of (Told f ∷ steps) ≡ more → Stands n more (Told f ∷ steps) k
goes n h more steps f ds s k sound w a m shows doomed seen = record {
  many = m.many ∙ w.many;
  reflects = reflects_next s k (trace_of steps) (line steps f) ds refl w.reflects a m;
  certifies = record {
    fits = (subst (λ j. Fits j (trace_of steps) (line steps f)) w.many (accepts_fits n s steps f sound w.reflects w.certifies.fits a), w.certifies.fits);
    waits = (accepts_releases s (trace_of steps) f w.reflects a, w.certifies.waits);
    inside = (subst (λ j. IsMutex j f) w.many a.inside, w.certifies.inside);
    shows = subst (λ xs. Shows (doom_at xs) (line steps f ∷ trace_of steps) more) (sym m.doomed) (shows w.certifies.shows);
  };
  doomed = λ t. ap (λ xs. doom_at xs t) m.doomed ∙ doomed t;
  seen = seen;
}

takes_fact : (n : ℕ) (h steps : List Entry) (next : Option Entry) (f : Fact) (tells : Bool) (s k : State) → IsSound s → Stands n h steps s → Accepts s f → TakesFact s next f tells k → Stands n (if tells then Told f ∷ h else h) (Told f ∷ steps) k
takes_fact n h steps next f tells s k sound w a (inl x) =
    subst (λ b. Stands n (if b then Told f ∷ h else h) (Told f ∷ steps) k) (sym x.1)
    (goes n h h steps f s.doomed.items s k sound w a x.2 (λ shows. Hides (doom_at s.doomed.items) (line steps f) (trace_of steps) h x.0 shows)
    (λ t. w.doomed t ∙ sym (hidden_dooms f t steps x.0)) (hidden_unseen f steps x.0 ∙ w.seen))
takes_fact n h steps next f tells s k sound w a (inr (inl x)) =
    let free : is_doomed (thread_of f) steps ≡ false = sym (w.doomed (thread_of f)) ∙ x.1 in
    subst (λ b. Stands n (if b then Told f ∷ h else h) (Told f ∷ steps) k) (sym x.2)
    (goes n h (Told f ∷ h) steps f s.doomed.items s k sound w a x.4 (λ shows. Tells (doom_at s.doomed.items) (line steps f) (trace_of steps) h x.0 x.1 shows)
    (λ t. w.doomed t ∙ sym (free_dooms f t steps free)) (told_seen f steps x.0 free ∙ ap (λ (es : List Entry). Told f ∷ es) w.seen))
takes_fact n h steps next f tells s k sound w a (inr (inr x)) =
    let inside : thread_of f < length s.doomed.items = omega (arith, a.thread, sound.each_doom) in
    subst (λ b. Stands n (if b then Told f ∷ h else h) (Told f ∷ steps) k) (sym x.2)
    (goes n h h steps f (slice_set s.doomed.items (thread_of f) false) s k sound w a x.3
    (λ shows. subst (λ d. Shows d (line steps f ∷ trace_of steps) h) (sym (without_one s.doomed.items (thread_of f) inside))
    (Kills (doom_at s.doomed.items) (thread_of f) (line steps f) (trace_of steps) h x.0 x.1 shows))
    (λ t. ap (λ (d : ℕ → Bool). d t) (without_one s.doomed.items (thread_of f) inside) ∙ kill_dooms f t steps (doom_at s.doomed.items) x.0 (w.doomed t))
    (doomed_unseen f steps (ap is_hidden x.0) (sym (w.doomed (thread_of f)) ∙ x.1) ∙ w.seen))

-- a doom
dooms : (n : ℕ) (h steps : List Entry) (t : ℕ) (s k : State) → IsSound s → Stands n h steps s → IsDoomed s t k → Stands n (Doom t ∷ h) (Doom t ∷ steps) k
dooms n h steps t s k sound w d =
    let inside : t < length s.doomed.items = omega (arith, d.thread, sound.each_doom) in
    let now = ap doom_at d.doomed ∙ with_one s.doomed.items t inside in
    record {
      many = ap length d.objects ∙ w.many;
      reflects = record {
        phases = λ u. subst (λ xs. Kept (stage_of (phase_at xs u)) (told_of u (trace_of steps))) (sym d.phases) (w.reflects.phases u);
        objects = ap object_at d.objects ∙ w.reflects.objects;
        lines = d.lines ∙ w.reflects.lines;
        begun = subst (λ bs. (u : ℕ) → u < length bs → slice_index bs u ≡ begun_at u (trace_of steps)) (sym d.begun) w.reflects.begun;
        freed = subst (λ fs. (u : ℕ) → u < length fs → slice_index fs u ≡ freed_at u (trace_of steps)) (sym d.freed) w.reflects.freed;
      };
      certifies = record {
        fits = w.certifies.fits;
        waits = w.certifies.waits;
        inside = w.certifies.inside;
        shows = subst (λ g. Shows g (trace_of steps) (Doom t ∷ h)) (sym now)
            (Dooms (doom_at s.doomed.items) t (trace_of steps) h d.free (alive (phase_at s.phases.items t) (told_of t (trace_of steps)) d.alive (w.reflects.phases t)) w.certifies.shows);
      };
      doomed = λ u. ap (λ (g : ℕ → Bool). g u) now ∙ ap (λ (b : Bool). if t == u then true else b) (w.doomed u);
      seen = ap (λ (es : List Entry). Doom t ∷ es) w.seen;
    }

pub takes : (n : ℕ) (h steps : List Entry) (next : Option Entry) (e : Entry) (tells : Bool) (s k : State) → IsSound s → Stands n h steps s → Takes s next e tells k → Stands n (if tells then e ∷ h else h) (e ∷ steps) k
takes n h steps next (Told f) tells s k sound w x = takes_fact n h steps next f tells s k sound w x.0 x.1
takes n h steps next (Doom t) tells s k sound w x = subst (λ b. Stands n (if b then Doom t ∷ h else h) (Doom t ∷ steps) k) (sym x.0) (dooms n h steps t s k sound w x.2)

-- what is recorded is the history's next entry
pub tells_next : (next : Option Entry) (e : Entry) (s k : State) → Takes s next e true k → next ≡ Some e
tells_next next (Told f) s k x = told x.1 where
  told : TakesFact s next f true k → next ≡ Some (Told f)
  told (inl y) = let no : true ≡ false = y.1 in absurd cc
  told (inr (inl y)) = y.3
  told (inr (inr y)) = let no : true ≡ false = y.2 in absurd cc
tells_next next (Doom t) s k x = x.1

-- ---- as the loop goes on

got : (xs : List Entry) (i : ℕ) (e : Entry) → slice_get xs i ≡ Some e → (take (suc i) xs ≡ take i xs ++ e ∷ []) × (i < length xs)
got [] i e is = let no : None ≡ Some e = is in absurd cc
got (x ∷ xs) zero e is = let same : x ≡ e = cc in (ap (λ y. y ∷ []) same, omega arith)
got (x ∷ xs) (suc i) e is = let rest = got xs i e is in (ap (λ ys. x ∷ ys) rest.0, omega (arith, rest.1))

pub one_more : (xs : List Entry) (i : ℕ) (e : Entry) → take (i + 1) xs ≡ take i xs ++ e ∷ [] → reverse (take (i + 1) xs) ≡ e ∷ reverse (take i xs)
one_more xs i e is = ap reverse is ∙ reverse-append (take i xs) (e ∷ [])

pub shown_within : (xs : List Entry) (shown : ℕ) (e : Entry) (s k : State) → Takes s (slice_get xs shown) e true k → shown < length xs
shown_within xs shown e s k x = (got xs shown e (tells_next (slice_get xs shown) e s k x)).1

-- the history's entries up to here are recorded
pub turns : (n : ℕ) (xs steps : List Entry) (shown i : ℕ) (e : Entry) (tells : Bool) (s k : State) → IsSound s → take (i + 1) steps ≡ take i steps ++ e ∷ [] → Takes s (slice_get xs shown) e tells k
    → Stands n (reverse (take shown xs)) (reverse (take i steps)) s → Stands n (reverse (take (if tells then shown + 1 else shown) xs)) (reverse (take (i + 1) steps)) k
turns n xs steps shown i e true s k sound step x w =
    let more = got xs shown e (tells_next (slice_get xs shown) e s k x) in
    let told : take (shown + 1) xs ≡ take shown xs ++ e ∷ [] = rw add-one more.0 in
    subst (λ h. Stands n h (reverse (take (i + 1) steps)) k) (sym (one_more xs shown e told))
    (subst (λ es. Stands n (e ∷ reverse (take shown xs)) es k) (sym (one_more steps i e step))
    (takes n (reverse (take shown xs)) (reverse (take i steps)) (slice_get xs shown) e true s k sound w x))
turns n xs steps shown i e false s k sound step x w =
    subst (λ es. Stands n (reverse (take shown xs)) es k) (sym (one_more steps i e step))
    (takes n (reverse (take shown xs)) (reverse (take i steps)) (slice_get xs shown) e false s k sound w x)

pub within_next : (tells : Bool) (shown total : ℕ) → (tells ≡ true → shown < total) → shown ≤ total → (if tells then shown + 1 else shown) ≤ total
within_next true shown total h le = let lt : shown < total = h refl in omega arith
within_next false shown total h le = le
