-- Each fact that is recorded of a thread fits those recorded of it before, where its calls go through their stages and
-- its sleeps alternate.
use Rattle.std.proofs.Common.{◌≡◌, ◌≢◌, ℕ, ◌==◌, Bool, true, false, ◌&&◌, Option, Some, None, List, [], ◌∷◌, refl, sym, ap, ◌∙◌, subst, eqb-true, eq-eqb}
use Rattle.std.specs.Prelude.{if◌then◌else◌, MatchBool}
use Rattle.std.specs.Option.{is_some}
use Rattle.facts.specs.declared.fact.Begun.{Begun}
use Rattle.facts.specs.declared.fact.Queue.{Queue}
use Rattle.facts.specs.declared.fact.Queue.TheVariants.{Mutex}
use Rattle.facts.specs.declared.fact.Fact.{Fact}
use Rattle.facts.specs.declared.fact.Fact.TheVariants.{Begin, Point, Death, Sleep, Wake, Move, Return, Kill, Reap, Renew}
use Rattle.facts.specs.Facts.{thread_of}
use Rattle.facts.specs.Lives.{is_of_call}
use Rattle.verdict.specs.declared.stage.Made.{Made}
use Rattle.verdict.specs.declared.stage.Made.TheVariants.{Nothing}
use Rattle.verdict.specs.declared.stage.Stage.{Stage}
use Rattle.verdict.specs.declared.stage.Stage.TheVariants.{Resting, Calling, Dying, Reaped}
use Rattle.verdict.specs.Stages.{May, next}
use Rattle.verdict.specs.Fits.{FitsThread}
use Rattle.verdict.proofs.Stages.{Kept, may_fits, next_kept}
use Rattle.protocol.specs.Applies.{Told, AtRest, InCall, Dead, Gone, told_next}
use Rattle.protocol.specs.Wakings.{asleep_next, MayFollow, Alternates}
use Rattle.runs_judged.proofs.Lives.{Runs}

-- ---- what is recorded of one thread

-- of its calls and its death
abbrev pub own_of : ℕ → List Fact → List Fact
own_of t [] = []
own_of t (f ∷ fs) = if is_of_call f && (thread_of f == t) then f ∷ own_of t fs else own_of t fs

-- where thread t's calls are so far and where it sleeps, a point of it or a return may be recorded only while it is
-- awake, and a sleep, a wake and a move only in a call
abbrev pub Placed : ℕ → Told → Option Queue → Fact → Type 0
Placed t o w (Point d) = d.thread ≡ t → w ≡ None
Placed t o w (Return u x) = u ≡ t → w ≡ None
Placed t o w (Sleep u q) = u ≡ t → o ≡ InCall
Placed t o w (Wake u) = u ≡ t → o ≡ InCall
Placed t o w (Move u m) = u ≡ t → o ≡ InCall
Placed t o w f = Unit {0}

abbrev pub ArePlaced : ℕ → Told → Option Queue → List Fact → Type 0
ArePlaced t o w [] = Unit {0}
ArePlaced t o w (f ∷ fs) = Placed t o w f × ArePlaced t (told_next t o f) (asleep_next t w f) fs

-- each fact of the thread fits those before it, which stand newest first
abbrev pub FitAlong : ℕ → List Fact → List Fact → Type 0
FitAlong t before [] = Unit {0}
FitAlong t before (f ∷ fs) = MatchBool (thread_of f == t) (FitsThread before f × FitAlong t (f ∷ before) fs) (FitAlong t before fs)

-- ---- stages

-- a stage of the thread's calls, where it sleeps so
abbrev asleep_in : Stage → Option Queue → Stage
asleep_in (Calling c m z) w = Calling c m (is_some w)
asleep_in v w = v

-- it is what was recorded of its calls; and at rest it is awake, and so once it is dead
abbrev Agrees : Told → Stage → Option Queue → Type 0
Agrees AtRest Resting w = w ≡ None
Agrees InCall (Calling c m z) w = z ≡ false
Agrees Dead Dying w = w ≡ None
Agrees Gone Reaped w = w ≡ None
Agrees o v w = ⊥

unsaid : (w : Option Queue) → w ≡ None → is_some w ≡ false
unsaid w e = ap is_some e

said : (w : Option Queue) → w ≢ None → is_some w ≡ true
said None h = absurd (h refl)
said (Some q) h = refl

-- ---- one fact

-- a fact of thread t, which leads it from stage v to this one
record Goes (t : ℕ) (f : Fact) (v : Stage) (o : Told) (w : Option Queue) (stage : Stage) : Type 0 where
  may : May (asleep_in v w) f
  leads : next (asleep_in v w) f ≡ asleep_in stage (asleep_next t w f)
  agrees : Agrees (told_next t o f) stage (asleep_next t w f)

-- whose fact it is
mine : (t u : ℕ) {A : Type 0} (x y : A) → u ≡ t → (if u == t then x else y) ≡ x
mine t u x y is = ap (λ (b : Bool). if b then x else y) (eq-eqb u t is)

-- of its calls, by the stage that it is at
rests_on : (t : ℕ) (f : Fact) (w : Option Queue) → thread_of f ≡ t → is_of_call f ≡ true → May Resting f → w ≡ None → Goes t f Resting AtRest w (next Resting f)
rests_on t (Begin u c) w is call may awake = record {
  may = tt;
  leads = ap (λ (z : Bool). Calling c Nothing z) (sym (unsaid w awake));
  agrees = subst (λ (o : Told). Agrees o (Calling c Nothing false) w) (sym (mine t u InCall AtRest is)) refl;
}
rests_on t (Kill u) w is call may awake = record {
  may = tt;
  leads = refl;
  agrees = subst (λ (o : Told). Agrees o Dying (if u == t then None else w)) (sym (mine t u Dead AtRest is)) (mine t u None w is);
}
rests_on t f w is call may awake = absurd may

calls_on : (t : ℕ) (f : Fact) (c : Begun) (m : Made) (w : Option Queue) → thread_of f ≡ t → is_of_call f ≡ true → May (Calling c m false) f → Placed t InCall w f → Goes t f (Calling c m false) InCall w (next (Calling c m false) f)
calls_on t (Kill u) c m w is call may placed = record {
  may = tt;
  leads = refl;
  agrees = subst (λ (o : Told). Agrees o Dying (if u == t then None else w)) (sym (mine t u Dead InCall is)) (mine t u None w is);
}
calls_on t (Point d) c m w is call may placed = record {
  may = (unsaid w (placed is), may.1, may.2);
  leads = refl;
  agrees = refl;
}
calls_on t (Return u x) c m w is call may placed = record {
  may = (unsaid w (placed is), may.1);
  leads = refl;
  agrees = subst (λ (o : Told). Agrees o Resting w) (sym (mine t u AtRest InCall is)) (placed is);
}
calls_on t (Sleep u q) c m w is call may placed = absurd cc
calls_on t (Wake u) c m w is call may placed = absurd cc
calls_on t (Move u k) c m w is call may placed = absurd cc
calls_on t f c m w is call may placed = absurd may

dies_on : (t : ℕ) (f : Fact) (w : Option Queue) → thread_of f ≡ t → May Dying f → w ≡ None → Goes t f Dying Dead w (next Dying f)
dies_on t (Death u k) w is may awake = record { may = tt; leads = refl; agrees = awake }
dies_on t (Reap u) w is may awake = record { may = tt; leads = refl; agrees = subst (λ (o : Told). Agrees o Reaped w) (sym (mine t u Gone Dead is)) awake }
dies_on t f w is may awake = absurd may

anew : (t : ℕ) (f : Fact) (w : Option Queue) → thread_of f ≡ t → May Reaped f → w ≡ None → Goes t f Reaped Gone w (next Reaped f)
anew t (Renew u) w is may awake = record { may = tt; leads = refl; agrees = subst (λ (o : Told). Agrees o Resting w) (sym (mine t u AtRest Gone is)) awake }
anew t f w is may awake = absurd may

-- of who sleeps: in a call
sleeps_on : (t : ℕ) (f : Fact) (c : Begun) (m : Made) (w : Option Queue) → thread_of f ≡ t → is_of_call f ≡ false → MayFollow t w f → Goes t f (Calling c m false) InCall w (Calling c m false)
sleeps_on t (Sleep u q) c m w is call follows = record {
  may = unsaid w (follows is);
  leads = ap (λ (z : Option Queue). Calling c m (is_some z)) (sym (mine t u (Some q) w is));
  agrees = refl;
}
sleeps_on t (Wake u) c m w is call follows = record {
  may = said w (follows is);
  leads = ap (λ (z : Option Queue). Calling c m (is_some z)) (sym (mine t u None w is));
  agrees = refl;
}
sleeps_on t (Move u k) c m w is call follows = record {
  may = said w (follows is);
  leads = ap (Calling c m) (said w (follows is)) ∙ ap (λ (z : Option Queue). Calling c m (is_some z)) (sym (mine t u (Some (Mutex k)) w is));
  agrees = refl;
}
sleeps_on t f c m w is call follows = absurd cc

-- it is recorded of who sleeps only in a call
in_call : (t : ℕ) (f : Fact) (o : Told) (w : Option Queue) → thread_of f ≡ t → is_of_call f ≡ false → Placed t o w f → o ≡ InCall
in_call t (Sleep u q) o w is call placed = placed is
in_call t (Wake u) o w is call placed = placed is
in_call t (Move u k) o w is call placed = placed is
in_call t f o w is call placed = absurd cc

goes_on : (t : ℕ) (f : Fact) (v : Stage) (o : Told) (w : Option Queue) → thread_of f ≡ t → is_of_call f ≡ true → May v f → Agrees o v w → Placed t o w f → Goes t f v o w (next v f)
goes_on t f Resting AtRest w is call may a placed = rests_on t f w is call may a
goes_on t f (Calling c m z) InCall w is call may a placed = subst (λ (b : Bool). Goes t f (Calling c m b) InCall w (next (Calling c m b) f)) (sym a) (calls_on t f c m w is call (subst (λ (b : Bool). May (Calling c m b) f) a may) placed)
goes_on t f Dying Dead w is call may a placed = dies_on t f w is may a
goes_on t f Reaped Gone w is call may a placed = anew t f w is may a
goes_on t f v o w is call may a placed = absurd a

-- where it stays
stays_on : (t : ℕ) (f : Fact) (v : Stage) (o : Told) (w : Option Queue) → thread_of f ≡ t → is_of_call f ≡ false → o ≡ InCall → Agrees o v w → MayFollow t w f → Goes t f v o w v
stays_on t f (Calling c m z) InCall w is call in_it a follows = subst (λ (b : Bool). Goes t f (Calling c m b) InCall w (Calling c m b)) (sym a) (sleeps_on t f c m w is call follows)
stays_on t f Resting AtRest w is call in_it a follows = absurd cc
stays_on t f Dying Dead w is call in_it a follows = absurd cc
stays_on t f Reaped Gone w is call in_it a follows = absurd cc
stays_on t f v o w is call in_it a follows = absurd a

-- ---- all of them

-- another thread's fact tells nothing of it
pub sleep_other : (t : ℕ) (w : Option Queue) (f : Fact) → (thread_of f == t) ≡ false → asleep_next t w f ≡ w
sleep_other t w (Sleep u q) e = ap (λ (b : Bool). if b then Some q else w) e
sleep_other t w (Move u m) e = ap (λ (b : Bool). if b then Some (Mutex m) else w) e
sleep_other t w (Wake u) e = ap (λ (b : Bool). if b then None else w) e
sleep_other t w (Kill u) e = ap (λ (b : Bool). if b then None else w) e
sleep_other t w f e = refl

told_other : (t : ℕ) (o : Told) (f : Fact) → (thread_of f == t) ≡ false → told_next t o f ≡ o
told_other t o (Begin u c) e = ap (λ (b : Bool). if b then InCall else o) e
told_other t o (Return u x) e = ap (λ (b : Bool). if b then AtRest else o) e
told_other t o (Kill u) e = ap (λ (b : Bool). if b then Dead else o) e
told_other t o (Reap u) e = ap (λ (b : Bool). if b then Gone else o) e
told_other t o (Renew u) e = ap (λ (b : Bool). if b then AtRest else o) e
told_other t o f e = refl

-- what is recorded of its calls and not of its sleeps
told_sleeping : (t : ℕ) (o : Told) (f : Fact) → is_of_call f ≡ false → told_next t o f ≡ o
told_sleeping t o (Sleep u q) e = refl
told_sleeping t o (Move u m) e = refl
told_sleeping t o (Wake u) e = refl
told_sleeping t o f e = absurd cc

pub fits_along : (t : ℕ) (fs before : List Fact) (v : Stage) (o : Told) (w : Option Queue) → Kept (asleep_in v w) before → Agrees o v w → Runs v (own_of t fs) → Alternates t w fs → ArePlaced t o w fs → FitAlong t before fs
fits_along t [] before v o w kept a runs alternates placed = tt
fits_along t (f ∷ fs) before v o w kept a runs alternates placed = go (thread_of f == t) refl (is_of_call f) refl runs (fits_along t fs)
  where
    go : (b : Bool) → (thread_of f == t) ≡ b → (c : Bool) → is_of_call f ≡ c → Runs v (if c && b then f ∷ own_of t fs else own_of t fs)
        → ((past : List Fact) (x : Stage) (p : Told) (q : Option Queue) → Kept (asleep_in x q) past → Agrees p x q → Runs x (own_of t fs) → Alternates t q fs → ArePlaced t p q fs → FitAlong t past fs)
        → MatchBool b (FitsThread before f × FitAlong t (f ∷ before) fs) (FitAlong t before fs)
    go false e c call runs rest =
        let same = sleep_other t w f e in
        let still = told_other t o f e in
        rest before v o w kept a (unowned c runs) (subst (λ (q : Option Queue). Alternates t q fs) same alternates.1) (subst (λ (p : Told). ArePlaced t p w fs) still (subst (λ (q : Option Queue). ArePlaced t (told_next t o f) q fs) same placed.1))
      where
        unowned : (c : Bool) → Runs v (if c && false then f ∷ own_of t fs else own_of t fs) → Runs v (own_of t fs)
        unowned true h = h
        unowned false h = h
    go true e true call runs rest =
        let is : thread_of f ≡ t = eqb-true (thread_of f) t e in
        let g = goes_on t f v o w is call runs.0 a placed.0 in
        (may_fits (asleep_in v w) f before kept g.may, rest (f ∷ before) (next v f) (told_next t o f) (asleep_next t w f) (subst (λ (x : Stage). Kept x (f ∷ before)) g.leads (next_kept (asleep_in v w) f before kept g.may)) g.agrees runs.1 alternates.1 placed.1)
    go true e false call runs rest =
        let is : thread_of f ≡ t = eqb-true (thread_of f) t e in
        let g = stays_on t f v o w is call (in_call t f o w is call placed.0) a alternates.0 in
        (may_fits (asleep_in v w) f before kept g.may, rest (f ∷ before) v (told_next t o f) (asleep_next t w f) (subst (λ (x : Stage). Kept x (f ∷ before)) g.leads (next_kept (asleep_in v w) f before kept g.may)) g.agrees runs alternates.1 placed.1)

-- from the beginning, when nothing is recorded yet
pub all_fit : (t : ℕ) (fs : List Fact) → Runs Resting (own_of t fs) → Alternates t None fs → ArePlaced t AtRest None fs → FitAlong t [] fs
all_fit t fs runs alternates placed = fits_along t fs [] Resting AtRest None (refl, refl, refl, refl) refl runs alternates placed
