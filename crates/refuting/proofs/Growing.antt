-- States that are added.
use Rattle.std.proofs.Common.{ℕ, ◌≡◌, ◌⊎◌, inl, inr, List, [], ◌∷◌, ◌++◌, sym, subst, ◌∙◌, ap, append-nil, append_assoc}
use Rattle.std.specs.Prelude.{Contains, Option, Some, None, IfSome, MatchOption}
use Rattle.std.proofs.lemmas.List.Elements.{Contains-append_left, Contains-push_cases}
use Rattle.lockword.specs.declared.reply.Reply.{Reply}
use Rattle.lockword.specs.declared.reply.Reply.TheVariants.{OK, EOWNERDEAD}
use Rattle.posixmutex.specs.declared.object.Object.{Object}
use Rattle.facts.specs.declared.fact.Begun.{Begun}
use Rattle.refuting.specs.declared.state.State.{State}
use Rattle.refuting.specs.declared.turn.Turn.{Turn}
use Rattle.refuting.specs.States.{Covered, Covers}
use Rattle.refuting.specs.Steps.{AreNoted, FollowsCall, FollowsDeath, FollowsReply, FollowsThread, Grows, IsNoted, MayChange, changed}
use Rattle.refuting.specs.Turns.{call_on, turn_at}
use Rattle.posixmutex.specs.Objects.{Does}
use Rattle.posixmutex.proofs.Steps.{determined}
use Rattle.posixmutex.specs.declared.point.Operation.{Operation}
use Rattle.refuting.proofs.States.{covered_on}

pub noted_more : (m : ℕ) (ts : List Turn) (ss rs : List State) (s : State) → AreNoted m ts ss → IsNoted m ts s → (rs ≡ ss) ⊎ (rs ≡ ss ++ s ∷ []) → AreNoted m ts rs
noted_more m ts ss rs s all one (inl same) = subst (AreNoted m ts) (sym same) all
noted_more m ts ss rs s all one (inr more) = subst (AreNoted m ts) (sym more) (λ r c. by_cases r (Contains-push_cases ss s r c)) where
  by_cases : (r : State) → Contains ss r ⊎ (s ≡ r) → IsNoted m ts r
  by_cases r (inl old) = all r old
  by_cases r (inr new) = subst (IsNoted m ts) new one

-- the state is there that was added, instead of this one
pub covered_some : (after : Option State) (ss : List State) (s r : State) → after ≡ Some s → Covers r s → Covered ss r → IfSome after (Covered ss)
covered_some after ss s r is cov c = subst (λ o. IfSome o (Covered ss)) (sym is) (covered_on ss r s c cov)

pub grows_none : (ss : List State) → Grows ss ss
grows_none ss = ([], sym (append-nil ss))

pub grows_on : (a b c : List State) → Grows a b → Grows b c → Grows a c
grows_on a b c x y = (x.0 ++ y.0, y.1 ∙ ap (λ z. z ++ y.0) x.1 ∙ append_assoc a x.0 y.0)

pub still_there : (ss rs : List State) (r : State) → Grows ss rs → Contains ss r → Contains rs r
still_there ss rs r g c = subst (λ z. Contains z r) (sym g.1) (Contains-append_left ss g.0 r c)

pub still_covered : (ss rs : List State) (s : State) → Grows ss rs → Covered ss s → Covered rs s
still_covered ss rs s g c = (c.0, still_there ss rs c.0 g c.1, c.2)

pub still_replied : (ss rs : List State) (s : State) (t : ℕ) (a : Operation) (x : Reply) → Grows ss rs → FollowsReply ss s t a x → FollowsReply rs s t a x
still_replied ss rs s t a x g f = λ o may. still_covered ss rs (changed s t a x o) g (f o may)

pub still_called : (m : ℕ) (turn : Turn) (ss rs : List State) (s : State) (t : ℕ) → Grows ss rs → FollowsCall m turn ss s t → FollowsCall m turn rs s t
still_called m turn ss rs s t g f = λ c is. (still_replied ss rs s t c.operation OK g (f c is).0, still_replied ss rs s t c.operation EOWNERDEAD g (f c is).1)

pub still_follows : (m : ℕ) (ts : List Turn) (ss rs : List State) (s : State) (t : ℕ) → Grows ss rs → FollowsThread m ts ss s t → FollowsThread m ts rs s t
still_follows m ts ss rs s t g f = record {
  changes = still_called m (turn_at ts t) ss rs s t g f.changes;
  dies = λ c o turn may. still_covered ss rs _ g (f.dies c o turn may);
}

-- ---- one thread

-- what is added for a reply is all that may follow by it
pub replied : (after : Option State) (ss : List State) (s : State) (t : ℕ) (a : Operation) (x : Reply) → MatchOption after ((o : Object) → ¬ MayChange s t a x o) (λ r. (o : Object) × MayChange s t a x o × (r ≡ changed s t a x o)) → IfSome after (Covered ss) → FollowsReply ss s t a x
replied None ss s t a x none added o may = absurd (none o may)
replied (Some r) ss s t a x is added o may = subst (Covered ss) (is.2 ∙ ap (changed s t a x) (only s t a x is.0 o is.1 may)) added
  where
    only : (s : State) (t : ℕ) (a : Operation) (x : Reply) (o p : Object) → MayChange s t a x o → MayChange s t a x p → o ≡ p
    only s t a x o p m n =
        let same : Some m.operation ≡ Some n.operation = sym m.next ∙ n.next in
        let op : n.operation ≡ m.operation = cc in
        determined 0 s.object t m.operation x o m.does ∙ sym (determined 0 s.object t m.operation x p (subst (λ b. Does 0 s.object t b x p) op n.does))

pub called : (m : ℕ) (turn : Turn) (call : Begun) (ss rs : List State) (s : State) (t : ℕ) → call_on m turn ≡ Some call → Grows ss rs → FollowsReply ss s t call.operation OK → FollowsReply rs s t call.operation EOWNERDEAD → FollowsCall m turn rs s t
called m turn call ss rs s t is g ok dead c also =
    let both : Some call ≡ Some c = sym is ∙ also in
    let same : call ≡ c = cc in
    subst (λ d. FollowsReply rs s t d.operation OK × FollowsReply rs s t d.operation EOWNERDEAD) same (still_replied ss rs s t call.operation OK g ok, dead)

pub dead_too : (m : ℕ) (ts : List Turn) (turn : Turn) (ss rs : List State) (s : State) (t : ℕ) → turn ≡ turn_at ts t → Grows ss rs → FollowsCall m turn ss s t → FollowsDeath turn rs s t → FollowsThread m ts rs s t
dead_too m ts turn ss rs s t is g call death = record {
  changes = subst (λ z. FollowsCall m z rs s t) is (still_called m turn ss rs s t g call);
  dies = subst (λ z. FollowsDeath z rs s t) is death;
}
