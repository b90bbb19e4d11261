-- What is recorded of a thread's calls, its deaths and its renewals goes through the stages that a checker keeps of
-- it.
use Rattle.std.proofs.Common.{◌≡◌, ⊎_elim, inl, inr, ℕ, false, List, [], ◌∷◌, ◌++◌, refl, sym, ap, ◌∙◌, subst, append_assoc, append-nil}
use Rattle.lockword.specs.declared.reply.Reply.{Reply}
use Rattle.lockword.specs.declared.reply.Reply.TheVariants.{OK}
use Rattle.posixmutex.specs.declared.point.Operation.{Operation}
use Rattle.posixmutex.specs.declared.point.Operation.TheVariants.{TimedLock, Unlock, Wait, TimedWait}
use Rattle.facts.specs.declared.fact.Begun.{Begun}
use Rattle.facts.specs.declared.fact.Fact.{Fact}
use Rattle.facts.specs.declared.fact.Fact.TheVariants.{Return, Kill, Reap, Renew}
use Rattle.facts.specs.Lives.{Act, IsWait, MayReturn, Complete, Beginning, made, Mourned, Unburied, Tells_of, Buried, Life, Rests, Returns, Stays, Cut, Dies, Lives, Last, Earlier}
use Rattle.verdict.specs.declared.stage.Made.{Made}
use Rattle.verdict.specs.declared.stage.Made.TheVariants.{Nothing, Released, Decided}
use Rattle.verdict.specs.declared.stage.Stage.{Stage}
use Rattle.verdict.specs.declared.stage.Stage.TheVariants.{Resting, Calling, Dying, Reaped}
use Rattle.verdict.specs.Misfits.{Replied}
use Rattle.verdict.specs.Stages.{May, MayReturnNow, next}
use Rattle.verdict.proofs.Stages.{Of, onward, may_point}

-- these facts may be recorded, one after the other, of a thread at this stage
abbrev pub Runs : Stage → List Fact → Type 0
Runs v [] = Unit {0}
Runs v (f ∷ fs) = May v f × Runs (next v f) fs

-- whoever makes the first of more points makes a beginning
shorter : (op : Operation) (ps qs : List Act) (p : Act) → Beginning op (ps ++ p ∷ qs) → Beginning op (ps ++ p ∷ [])
shorter op ps qs p (rest, x, all) = (qs ++ rest, x, subst (λ (zs : List Act). Complete op zs x) (append_assoc ps (p ∷ qs) rest ∙ sym (append_assoc ps (p ∷ []) (qs ++ rest))) all)

-- a wait that has released its mutex has a point to come
unfinished : (op : Operation) (x : Reply) → IsWait op → Complete op ((Unlock, OK) ∷ []) x → ⊥
unfinished op x (inl is) all =
    let h : Complete Wait ((Unlock, OK) ∷ []) x = subst (λ (a : Operation). Complete a ((Unlock, OK) ∷ []) x) is all in
    let e : Unlock ≡ Wait = ap (λ (p : Act). p.0) h in
    absurd cc
unfinished op x (inr is) all =
    let h : Complete TimedWait ((Unlock, OK) ∷ []) x = subst (λ (a : Operation). Complete a ((Unlock, OK) ∷ []) x) is all in
    let e : Unlock ≡ Wait = h.0 in
    absurd cc

-- a call whose points are made may return what is recorded
all_made : (op : Operation) (ps : List Act) (m : Made) (x : Reply) → Of op ps m → Complete op ps x → MayReturnNow op m x
all_made op ps Nothing x of is = absurd (subst (λ (zs : List Act). Complete op zs x) of is)
all_made op ps Released x of is = absurd (unfinished op x of.0 (subst (λ (zs : List Act). Complete op zs x) of.1 is))
all_made op ps (Decided y) x of is = by_last op ps of.1 is
  where
    by_last : (a : Operation) (qs : List Act) → Replied qs y → Complete a qs x → MayReturn a y x
    by_last a [] r k = absurd k
    by_last TimedLock (p ∷ []) r k = ⊎_elim (λ b. sym (ap (λ (z : Act). z.1) b) ∙ r) (λ b. sym (ap (λ (z : Act). z.1) b) ∙ r) k
    by_last TimedWait (p ∷ []) r k = subst (λ z. MayReturn TimedWait z x) r k.1
    by_last a (p ∷ []) r k = sym (ap (λ (z : Act). z.1) k) ∙ r
    by_last Wait (p ∷ q ∷ []) r k = sym (ap (λ (z : Act). z.1) k.1) ∙ r
    by_last TimedWait (p ∷ q ∷ []) r k = subst (λ z. MayReturn TimedWait z x) r k.2
    by_last a (p ∷ q ∷ []) r k = absurd k
    by_last a (p ∷ q ∷ s ∷ rs) r k = absurd k

-- the points of a call, of which some are made, and then what may come after them
call_runs : (t : ℕ) (c : Begun) (ps qs : List Act) (m : Made) (rest : List Fact) → Of c.operation qs m → Beginning c.operation (qs ++ ps) → ((n : Made) → Of c.operation (qs ++ ps) n → Runs (Calling c n false) rest)
    → Runs (Calling c m false) (made t c ps ++ rest)
call_runs t c [] qs m rest of begins later = later m (subst (λ (zs : List Act). Of c.operation zs m) (sym (append-nil qs)) of)
call_runs t c (p ∷ ps) qs m rest of begins later =
    let may = may_point c.operation qs m p.0 p.1 of (shorter c.operation qs ps p begins) in
    let same : (qs ++ p ∷ []) ++ ps ≡ qs ++ p ∷ ps = append_assoc qs (p ∷ []) ps in (
      (refl, refl, may),
      call_runs t c ps (qs ++ p ∷ []) _ rest (onward c.operation qs m p.0 p.1 of may) (subst (Beginning c.operation) (sym same) begins)
          (λ n all. later n (subst (λ (zs : List Act). Of c.operation zs n) same all)),
    )

mourned_runs : (t : ℕ) (fs : List Fact) → Mourned t fs → Runs Dying fs
mourned_runs t _ Unburied = tt
mourned_runs t _ (Tells_of m later rest) = (tt, mourned_runs t later rest)
mourned_runs t _ Buried = (tt, tt)

complete_begins : (op : Operation) (ps : List Act) (x : Reply) → Complete op ps x → Beginning op ps
complete_begins op ps x all = ([], x, subst (λ (zs : List Act). Complete op zs x) (sym (append-nil ps)) all)

-- so does a life
life_runs : (t : ℕ) (fs : List Fact) → Life t fs → Runs Resting fs
life_runs t _ Rests = tt
life_runs t _ (Returns c ps x later all life) =
    (tt, call_runs t c ps [] Nothing (Return t x ∷ later) refl (complete_begins c.operation ps x all) (λ n of. ((refl, all_made c.operation ps n x of all), life_runs t later life)))
life_runs t _ (Stays c ps begins) = (tt, subst (Runs (Calling c Nothing false)) (append-nil (made t c ps)) (call_runs t c ps [] Nothing [] refl begins (λ n of. tt)))
life_runs t _ (Cut c ps later begins mourned) = (tt, call_runs t c ps [] Nothing (Kill t ∷ later) refl begins (λ n of. (tt, mourned_runs t later mourned)))
life_runs t _ (Dies later mourned) = (tt, mourned_runs t later mourned)

-- ---- lives

-- the stage after these facts
abbrev stage_behind : Stage → List Fact → Stage
stage_behind v [] = v
stage_behind v (f ∷ fs) = stage_behind (next v f) fs

runs_append : (v : Stage) (fs gs : List Fact) → Runs v fs → Runs (stage_behind v fs) gs → Runs v (fs ++ gs)
runs_append v [] gs h k = k
runs_append v (f ∷ fs) gs h k = (h.0, runs_append (next v f) fs gs h.1 k)

-- after a reaping
reaped_behind : (t : ℕ) (v : Stage) (before : List Fact) → stage_behind v (before ++ Reap t ∷ []) ≡ Reaped
reaped_behind t v [] = refl
reaped_behind t v (f ∷ before) = reaped_behind t (next v f) before

-- so do lives, one after the other
pub lives_run : (t : ℕ) (fs : List Fact) → Lives t fs → Runs Resting fs
lives_run t _ (Last life l) = life_runs t life l
lives_run t _ (Earlier life later l e more) =
    runs_append Resting life (Renew t ∷ later) (life_runs t life l)
    (subst (λ (v : Stage). Runs v (Renew t ∷ later)) (sym (ap (stage_behind Resting) e.1 ∙ reaped_behind t Resting e.0)) (tt, lives_run t later more))
