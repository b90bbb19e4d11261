-- What fits line by line makes the lives of each thread.
use Rattle.std.proofs.Common.{◌≡◌, ℕ, ◌==◌, ◌&&◌, Bool, true, false, List, [], ◌∷◌, ◌++◌, refl, sym, ap, subst, ◌∙◌, arith, append_assoc}
use Rattle.std.specs.Prelude.{if◌then◌else◌, reverse}
use Rattle.std.proofs.lemmas.List.{reverse-append}
use Rattle.std.proofs.lemmas.Bool.Decides.{nat_tests}
use Rattle.facts.specs.declared.fact.Begun.{Begun}
use Rattle.facts.specs.declared.fact.Fact.{Fact}
use Rattle.facts.specs.declared.fact.Fact.TheVariants.{Begin, Kill, Point, Death, Sleep, Wake, Move, Return, Reap, Renew}
use Rattle.facts.specs.declared.fact.Line.{Line}
use Rattle.verdict.specs.declared.stage.Made.{Made}
use Rattle.verdict.specs.declared.stage.Stage.{Stage}
use Rattle.verdict.specs.declared.stage.Stage.TheVariants.{Resting, Calling, Dying, Reaped}
use Rattle.facts.specs.Lives.{Act, is_of_call, own, made_by, made, Mourned, Unburied, Tells_of, Buried, Life, Rests, Returns, Stays, Cut, Dies, EndsReaped, Lives, Last, Earlier}
use Rattle.facts.specs.Facts.{thread_of, is_renewal}
use Rattle.verdict.specs.Earlier.{told_of}
use Rattle.verdict.specs.Explained.{Alternates, Doing, Idle, Awake, Asleep}
use Rattle.verdict.specs.Fits.{FitsThread}
use Rattle.verdict.specs.Stages.{May, next}
use Rattle.verdict.specs.Verdicts.{AllFit}
use Rattle.verdict.proofs.Stages.{Of, Kept, beginning, onward, returned, fits_may, next_kept}

append_nil : {A : Type 0} (xs : List A) → xs ++ [] ≡ xs
append_nil [] = refl
append_nil (x ∷ xs) = ap (λ ys. x ∷ ys) (append_nil xs)

-- ---- a life so far, and how it may go on

-- the facts end in a call with these points, before which there is a life
pub record InCall (t : ℕ) (c : Begun) (m : Made) (fs : List Fact) : Type 0 where
  pub before : List Fact
  pub points : List Act
  pub all : fs ≡ before ++ Begin t c ∷ made t c points
  pub of : Of c.operation points m
  pub goes_on : (later : List Fact) → Life t later → Life t (before ++ later)

abbrev pub Past : ℕ → Stage → List Fact → Type 0
Past t Resting fs = (later : List Fact) → Life t later → Life t (fs ++ later)
Past t (Calling c m z) fs = InCall t c m fs
Past t Dying fs = (later : List Fact) → Mourned t later → Life t (fs ++ later)
Past t Reaped fs = Life t fs × EndsReaped t fs

pub whole : (t : ℕ) (s : Stage) (fs : List Fact) → Past t s fs → Life t fs
whole t Resting fs p = subst (Life t) (append_nil fs) (p [] Rests)
whole t (Calling c m z) fs p = subst (Life t) (sym p.all) (p.goes_on (Begin t c ∷ made t c p.points) (Stays c p.points (beginning c.operation p.points m p.of)))
whole t Dying fs p = subst (Life t) (append_nil fs) (p [] Unburied)
whole t Reaped fs p = p.0

made_more : (t : ℕ) (c : Begun) (ps : List Act) (p : Act) → made t c ps ++ made_by t c p ∷ [] ≡ made t c (ps ++ p ∷ [])
made_more t c [] p = refl
made_more t c (q ∷ ps) p = ap (λ fs. made_by t c q ∷ fs) (made_more t c ps p)

-- a fact after a call's points
behind : (t : ℕ) (c : Begun) (fs before : List Fact) (ps : List Act) (f : Fact) (later : List Fact) → fs ≡ before ++ Begin t c ∷ made t c ps → (fs ++ f ∷ []) ++ later ≡ before ++ Begin t c ∷ (made t c ps ++ f ∷ later)
behind t c fs before ps f later all = append_assoc fs (f ∷ []) later ∙ ap (λ gs. gs ++ f ∷ later) all ∙ append_assoc before (Begin t c ∷ made t c ps) (f ∷ later)

-- the thread's own fact, in this life
own_fact : (t : ℕ) (s : Stage) (f : Fact) (fs : List Fact) → is_renewal f ≡ false → thread_of f ≡ t → is_of_call f ≡ true → May s f → Past t s fs → Past t (next s f) (fs ++ f ∷ [])
own_fact t Resting (Begin u c) fs old is life m p = record {
  before = fs;
  points = [];
  all = ap (λ v. fs ++ Begin v c ∷ []) is;
  of = refl;
  goes_on = p;
}
own_fact t Resting (Kill u) fs old is life m p = λ later h. subst (Life t) (sym (append_assoc fs (Kill u ∷ []) later)) (subst (λ v. Life t (fs ++ Kill v ∷ later)) (sym is) (p (Kill t ∷ later) (Dies later h)))
own_fact t (Calling c made_so z) (Kill u) fs old is life m p = λ later h.
    subst (Life t) (sym (behind t c fs p.before p.points (Kill u) later p.all))
    (subst (λ v. Life t (p.before ++ Begin t c ∷ (made t c p.points ++ Kill v ∷ later))) (sym is) (p.goes_on (Begin t c ∷ (made t c p.points ++ Kill t ∷ later)) (Cut c p.points later (beginning c.operation p.points made_so p.of) h)))
own_fact t (Calling c made_so z) (Point d) fs old is life m p = record {
  before = p.before;
  points = p.points ++ (d.operation, d.reply) ∷ [];
  all =
      let same : d ≡ record { thread = t; mutex = c.mutex; operation = d.operation; reply = d.reply } = λ i. record { thread = is i; mutex = m.1 i; operation = d.operation; reply = d.reply } in
      ap (λ gs. gs ++ Point d ∷ []) p.all ∙ append_assoc p.before (Begin t c ∷ made t c p.points) (Point d ∷ []) ∙ ap (λ k. p.before ++ Begin t c ∷ (made t c p.points ++ Point k ∷ [])) same
      ∙ ap (λ gs. p.before ++ Begin t c ∷ gs) (made_more t c p.points (d.operation, d.reply));
  of = onward c.operation p.points made_so d.operation d.reply p.of m.2;
  goes_on = p.goes_on;
}
own_fact t (Calling c made_so z) (Return u x) fs old is life m p = λ later h.
    subst (Life t) (sym (behind t c fs p.before p.points (Return u x) later p.all))
    (subst (λ v. Life t (p.before ++ Begin t c ∷ (made t c p.points ++ Return v x ∷ later))) (sym is) (p.goes_on (Begin t c ∷ (made t c p.points ++ Return t x ∷ later)) (Returns c p.points x later (returned c.operation p.points made_so x p.of m.1) h)))
own_fact t Dying (Death u k) fs old is life m p = λ later h. subst (Life t) (sym (append_assoc fs (Death u k ∷ []) later)) (subst (λ v. Life t (fs ++ Death v k ∷ later)) (sym is) (p (Death t k ∷ later) (Tells_of k later h)))
own_fact t Dying (Reap u) fs old is life m p = (subst (λ v. Life t (fs ++ Reap v ∷ [])) (sym is) (p (Reap t ∷ []) Buried), (fs, ap (λ v. fs ++ Reap v ∷ []) is))
own_fact t Reaped (Renew u) fs old is life m p = absurd cc
own_fact t (Calling c made_so z) (Sleep u k) fs old is life m p = absurd cc
own_fact t (Calling c made_so z) (Wake u) fs old is life m p = absurd cc
own_fact t (Calling c made_so z) (Move u k) fs old is life m p = absurd cc
own_fact t s f fs old is life m p = absurd m

-- who sleeps is no part of a life
quiet_fact : (t : ℕ) (s : Stage) (f : Fact) (fs : List Fact) → is_of_call f ≡ false → May s f → Past t s fs → Past t (next s f) fs
quiet_fact t (Calling c made_so z) (Sleep u k) fs q m p = p
quiet_fact t (Calling c made_so z) (Wake u) fs q m p = p
quiet_fact t (Calling c made_so z) (Move u k) fs q m p = p
quiet_fact t (Calling c made_so z) (Kill u) fs q m p = absurd cc
quiet_fact t (Calling c made_so z) (Point d) fs q m p = absurd cc
quiet_fact t (Calling c made_so z) (Return u x) fs q m p = absurd cc
quiet_fact t Resting (Begin u c) fs q m p = absurd cc
quiet_fact t Resting (Kill u) fs q m p = absurd cc
quiet_fact t Dying (Death u k) fs q m p = absurd cc
quiet_fact t Dying (Reap u) fs q m p = absurd cc
quiet_fact t Reaped (Renew u) fs q m p = absurd cc
quiet_fact t s f fs q m p = absurd m

-- ---- lives so far

-- the facts are those of former lives, each ended by its reaping, and then those of this one
pub record Now (t : ℕ) (s : Stage) (fs : List Fact) : Type 0 where
  pub former : List Fact
  pub life : List Fact
  pub all : fs ≡ former ++ life
  pub goes_on : (later : List Fact) → Lives t later → Lives t (former ++ later)
  pub past : Past t s life

pub all_lives : (t : ℕ) (s : Stage) (fs : List Fact) → Now t s fs → Lives t fs
all_lives t s fs n = subst (Lives t) (sym n.all) (n.goes_on n.life (Last n.life (whole t s n.life n.past)))

newborn : (t : ℕ) → Now t Resting []
newborn t = record { former = []; life = []; all = refl; goes_on = λ later h. h; past = λ later h. h }

-- the thread lives again
renewed_fact : (t : ℕ) (s : Stage) (f : Fact) (fs : List Fact) → is_renewal f ≡ true → thread_of f ≡ t → May s f → Now t s fs → Now t (next s f) (fs ++ f ∷ [])
renewed_fact t Reaped (Renew u) fs new is m n = record {
  former = n.former ++ (n.life ++ Renew t ∷ []);
  life = [];
  all = ap (λ gs. gs ++ Renew u ∷ []) n.all ∙ append_assoc n.former n.life (Renew u ∷ []) ∙ ap (λ v. n.former ++ (n.life ++ Renew v ∷ [])) is ∙ sym (append_nil (n.former ++ (n.life ++ Renew t ∷ [])));
  goes_on = λ later h.
      let joined = append_assoc n.former (n.life ++ Renew t ∷ []) later ∙ ap (λ gs. n.former ++ gs) (append_assoc n.life (Renew t ∷ []) later) in
      subst (Lives t) (sym joined) (n.goes_on (n.life ++ Renew t ∷ later) (Earlier n.life later n.past.0 n.past.1 h));
  past = λ later h. h;
}
renewed_fact t s (Renew u) fs new is m n = absurd m
renewed_fact t s (Begin u c) fs new is m n = absurd cc
renewed_fact t s (Kill u) fs new is m n = absurd cc
renewed_fact t s (Point d) fs new is m n = absurd cc
renewed_fact t s (Death u k) fs new is m n = absurd cc
renewed_fact t s (Sleep u q) fs new is m n = absurd cc
renewed_fact t s (Wake u) fs new is m n = absurd cc
renewed_fact t s (Move u k) fs new is m n = absurd cc
renewed_fact t s (Return u x) fs new is m n = absurd cc
renewed_fact t s (Reap u) fs new is m n = absurd cc

-- one fact more
goes_on_with : (t : ℕ) (s : Stage) (f : Fact) (fs : List Fact) → thread_of f ≡ t → is_of_call f ≡ true → May s f → Now t s fs → Now t (next s f) (fs ++ f ∷ [])
goes_on_with t s f fs is told m n = go (is_renewal f) refl where
  go : (b : Bool) → is_renewal f ≡ b → Now t (next s f) (fs ++ f ∷ [])
  go true new = renewed_fact t s f fs new is m n
  go false old = record {
    former = n.former;
    life = n.life ++ f ∷ [];
    all = ap (λ gs. gs ++ f ∷ []) n.all ∙ append_assoc n.former n.life (f ∷ []);
    goes_on = n.goes_on;
    past = own_fact t s f n.life old is told m n.past;
  }

stays_with : (t : ℕ) (s : Stage) (f : Fact) (fs : List Fact) → is_of_call f ≡ false → May s f → Now t s fs → Now t (next s f) fs
stays_with t s f fs q m n = record {
  former = n.former;
  life = n.life;
  all = n.all;
  goes_on = n.goes_on;
  past = quiet_fact t s f n.life q m n.past;
}

-- ---- line by line

own-append : (t : ℕ) (xs ys : List Line) → own t (xs ++ ys) ≡ own t xs ++ own t ys
own-append t [] ys = refl
own-append t (x ∷ xs) ys = go (is_of_call x.fact && (thread_of x.fact == t)) (own-append t xs ys) where
  go : (b : Bool) → own t (xs ++ ys) ≡ own t xs ++ own t ys → (if b then x.fact ∷ own t (xs ++ ys) else own t (xs ++ ys)) ≡ (if b then x.fact ∷ own t xs else own t xs) ++ own t ys
  go true e = ap (λ fs. x.fact ∷ fs) e
  go false e = e

own-newest : (t : ℕ) (e : Line) (es : List Line) → own t (reverse (e ∷ es)) ≡ own t (reverse es) ++ own t (e ∷ [])
own-newest t e es = ap (own t) (reverse-append (e ∷ []) es) ∙ own-append t (reverse es) (e ∷ [])

-- ---- who sleeps

abbrev pub doing : Stage → Doing
doing Resting = Idle
doing (Calling c m true) = Asleep
doing (Calling c m false) = Awake
doing Dying = Idle
doing Reaped = Idle

alternates : (s : Stage) (f : Fact) (later : List Fact) → May s f → Alternates (doing (next s f)) later → Alternates (doing s) (f ∷ later)
alternates Resting (Begin t c) later m a = a
alternates Resting (Kill t) later m a = a
alternates (Calling c made_so true) (Kill t) later m a = a
alternates (Calling c made_so false) (Kill t) later m a = a
alternates (Calling c made_so false) (Point d) later m a = a
alternates (Calling c made_so true) (Point d) later m a = let e : true ≡ false = m.0 in absurd cc
alternates (Calling c made_so false) (Sleep t q) later m a = a
alternates (Calling c made_so true) (Sleep t q) later m a = let e : true ≡ false = m in absurd cc
alternates (Calling c made_so true) (Wake t) later m a = a
alternates (Calling c made_so false) (Wake t) later m a = let e : false ≡ true = m in absurd cc
alternates (Calling c made_so true) (Move t k) later m a = a
alternates (Calling c made_so false) (Move t k) later m a = let e : false ≡ true = m in absurd cc
alternates (Calling c made_so false) (Return t x) later m a = a
alternates (Calling c made_so true) (Return t x) later m a = let e : true ≡ false = m.0 in absurd cc
alternates Dying (Death t k) later m a = a
alternates Dying (Reap t) later m a = a
alternates Reaped (Renew t) later m a = a
alternates s f later m a = absurd m

told_of-append : (t : ℕ) (xs ys : List Line) → told_of t (xs ++ ys) ≡ told_of t xs ++ told_of t ys
told_of-append t [] ys = refl
told_of-append t (x ∷ xs) ys = go (thread_of x.fact == t) (told_of-append t xs ys) where
  go : (b : Bool) → told_of t (xs ++ ys) ≡ told_of t xs ++ told_of t ys → (if b then x.fact ∷ told_of t (xs ++ ys) else told_of t (xs ++ ys)) ≡ (if b then x.fact ∷ told_of t xs else told_of t xs) ++ told_of t ys
  go true e = ap (λ fs. x.fact ∷ fs) e
  go false e = e

told_of-newest : (t : ℕ) (e : Line) (es : List Line) → told_of t (reverse (e ∷ es)) ≡ told_of t (reverse es) ++ told_of t (e ∷ [])
told_of-newest t e es = ap (told_of t) (reverse-append (e ∷ []) es) ∙ told_of-append t (reverse es) (e ∷ [])

-- so far it alternates, and may go on so from this stage
abbrev pub Slept : Stage → List Fact → Type 0
Slept s fs = (later : List Fact) → Alternates (doing s) later → Alternates Idle (fs ++ later)

slept_next : (s : Stage) (f : Fact) (fs : List Fact) → May s f → Slept s fs → Slept (next s f) (fs ++ f ∷ [])
slept_next s f fs m slept later a = subst (Alternates Idle) (sym (append_assoc fs (f ∷ []) later)) (slept (f ∷ later) (alternates s f later m a))

-- how far thread t has come after these lines
pub record Lived (t : ℕ) (told : List Line) : Type 0 where
  pub stage : Stage
  pub kept : Kept stage (told_of t told)
  pub past : Now t stage (own t (reverse told))
  pub slept : Slept stage (told_of t (reverse told))

step : (t : ℕ) (e : Line) (es : List Line) (fits : FitsThread (told_of (thread_of e.fact) es) e.fact) → Lived t es → Lived t (e ∷ es)
step t e es fits l = by_thread (thread_of e.fact == t) refl where
  by_call : (u : thread_of e.fact ≡ t) (w : Bool) → is_of_call e.fact ≡ w → May l.stage e.fact → Now t (next l.stage e.fact) (own t (reverse es) ++ (if w && true then e.fact ∷ [] else []))
  by_call u true is may = goes_on_with t l.stage e.fact (own t (reverse es)) u is may l.past
  by_call u false is may = subst (Now t (next l.stage e.fact)) (sym (append_nil (own t (reverse es)))) (stays_with t l.stage e.fact (own t (reverse es)) is may l.past)

  by_thread : (b : Bool) → (thread_of e.fact == t) ≡ b → Lived t (e ∷ es)
  by_thread true is =
      let u : thread_of e.fact ≡ t = grind (arith, nat_tests) in
      let may = fits_may l.stage e.fact (told_of t es) l.kept (subst (λ v. FitsThread (told_of v es) e.fact) u fits) in
      record {
        stage = next l.stage e.fact;
        kept = subst (λ b. Kept (next l.stage e.fact) (if b then e.fact ∷ told_of t es else told_of t es)) (sym is) (next_kept l.stage e.fact (told_of t es) l.kept may);
        past = subst (Now t (next l.stage e.fact)) (sym (own-newest t e es)) (subst (λ b. Now t (next l.stage e.fact) (own t (reverse es) ++ (if is_of_call e.fact && b then e.fact ∷ [] else []))) (sym is) (by_call u (is_of_call e.fact) refl may));
        slept = subst (Slept (next l.stage e.fact)) (sym (told_of-newest t e es))
            (subst (λ b. Slept (next l.stage e.fact) (told_of t (reverse es) ++ (if b then e.fact ∷ [] else []))) (sym is) (slept_next l.stage e.fact (told_of t (reverse es)) may l.slept));
      }
  by_thread false is = record {
    stage = l.stage;
    kept = subst (λ b. Kept l.stage (if b then e.fact ∷ told_of t es else told_of t es)) (sym is) l.kept;
    past = subst (Now t l.stage) (sym (own-newest t e es)) (subst (λ b. Now t l.stage (own t (reverse es) ++ (if is_of_call e.fact && b then e.fact ∷ [] else []))) (sym is) (silent (is_of_call e.fact)));
    slept = subst (Slept l.stage) (sym (told_of-newest t e es)) (subst (λ b. Slept l.stage (told_of t (reverse es) ++ (if b then e.fact ∷ [] else []))) (sym is) (subst (Slept l.stage) (sym (append_nil (told_of t (reverse es)))) l.slept));
  }
    where
      silent : (w : Bool) → Now t l.stage (own t (reverse es) ++ (if w && false then e.fact ∷ [] else []))
      silent true = subst (Now t l.stage) (sym (append_nil (own t (reverse es)))) l.past
      silent false = subst (Now t l.stage) (sym (append_nil (own t (reverse es)))) l.past

pub lived : (n t : ℕ) (told : List Line) → AllFit n told → Lived t told
lived n t [] fit = record { stage = Resting; kept = (refl, refl, refl, refl); past = newborn t; slept = λ later a. a }
lived n t (e ∷ es) fit = step t e es fit.0.of_thread (lived n t es fit.1)

pub lives : (n : ℕ) (told : List Line) → AllFit n told → (t : ℕ) → Lives t (own t (reverse told))
lives n told fit t = let l = lived n t told fit in all_lives t l.stage (own t (reverse told)) l.past

pub sleeps : (n : ℕ) (told : List Line) → AllFit n told → (t : ℕ) → Alternates Idle (told_of t (reverse told))
sleeps n told fit t = let l = lived n t told fit in subst (Alternates Idle) (append_nil (told_of t (reverse told))) (l.slept [] tt)
