-- Each reason has its words, and what they say is so.
use Rattle.std.proofs.Common.{◌≡◌, ◌≢◌, ◌≤◌, inl, inr, ℕ, Option, Some, None, List, [], ◌++◌, refl, sym, ap, subst, ◌∙◌, append_assoc, append-nil}
use Rattle.std.specs.Prelude.{codes, decimal}
use Rattle.facts.specs.declared.fact.Begun.{Begun}
use Rattle.facts.specs.declared.fact.Fact.{Fact}
use Rattle.facts.specs.declared.fact.Fact.TheVariants as fact
use Rattle.facts.specs.declared.fact.Line.{Line}
use Rattle.facts.specs.Facts.{decision_of, thread_of}
use Rattle.facts.specs.Lives.{IsWait}
use Rattle.lockword.specs.declared.reply.Reply.{Reply}
use Rattle.lockword.specs.declared.reply.Reply.TheVariants.{XHELD}
use Rattle.lockword.specs.Replies.{reply_word}
use Rattle.posixmutex.specs.Histories.{held_by}
use Rattle.posixmutex.specs.Objects.{Permits, held_limit}
use Rattle.posixmutex.specs.Words.{operation_word}
use Rattle.posixmutex.specs.declared.object.Object.{Object}
use Rattle.posixmutex.specs.declared.point.Decision.{Decision}
use Rattle.posixmutex.specs.declared.point.Operation.{Operation}
use Rattle.verdict.specs.declared.misfit.Misfit.{Misfit}
use Rattle.verdict.specs.declared.misfit.Misfit.TheVariants as misfit
use Rattle.verdict.specs.Earlier.{begun_at, objects_after, points_in, told_of}
use Rattle.verdict.specs.Misfits.{IsMisfit, IsOutOfLife, IsOutOfOrder, IsTooEarly, OwnsSome, Refuses, RefusesStep}
use Rattle.reasons.specs.Reasons.{object_text}
use Rattle.reasons.specs.Truths.{EndHasItsWords, HasReleased, IsDecided, IsIn, ReasonsAreTrue}

-- ---- a reason is of the line's order, of its thread's life, of its mutex, of its time or of what its thread owns

no_step : (m : Misfit) (n : ℕ) (os : ℕ → Object) → ((held : ℕ) (o : Object) (d : Decision) → RefusesStep m held o d → ⊥) → (D : Option Decision) → Refuses m n os D → ⊥
no_step m n os never None h = h
no_step m n os never (Some d) h = never (held_by d.thread os n) (os d.mutex) d h

of_order : (m : Misfit) (n : ℕ) (es : List Line) (e : Line) → (IsOutOfLife m (told_of (thread_of e.fact) es) e.fact → ⊥) → ((held : ℕ) (o : Object) (d : Decision) → RefusesStep m held o d → ⊥) → (OwnsSome m n (objects_after es) e.fact → ⊥) → (IsTooEarly m es e.fact → ⊥) → IsMisfit m n es e → IsOutOfOrder m es e
of_order m n es e a b c d (inl h) = h.0
of_order m n es e a b c d (inr (inl h)) = absurd (a h.1)
of_order m n es e a b c d (inr (inr (inl h))) = absurd (no_step m n (objects_after es) b (decision_of e.fact) h.2)
of_order m n es e a b c d (inr (inr (inr (inl h)))) = absurd (d h.3)
of_order m n es e a b c d (inr (inr (inr (inr h)))) = absurd (c h.2)

of_life : (m : Misfit) (n : ℕ) (es : List Line) (e : Line) → (IsOutOfOrder m es e → ⊥) → ((held : ℕ) (o : Object) (d : Decision) → RefusesStep m held o d → ⊥) → (OwnsSome m n (objects_after es) e.fact → ⊥) → (IsTooEarly m es e.fact → ⊥) → IsMisfit m n es e → IsOutOfLife m (told_of (thread_of e.fact) es) e.fact
of_life m n es e a b c d (inl h) = absurd (a h.0)
of_life m n es e a b c d (inr (inl h)) = h.1
of_life m n es e a b c d (inr (inr (inl h))) = absurd (no_step m n (objects_after es) b (decision_of e.fact) h.2)
of_life m n es e a b c d (inr (inr (inr (inl h)))) = absurd (d h.3)
of_life m n es e a b c d (inr (inr (inr (inr h)))) = absurd (c h.2)

of_step : (m : Misfit) (n : ℕ) (es : List Line) (e : Line) → (IsOutOfOrder m es e → ⊥) → (IsOutOfLife m (told_of (thread_of e.fact) es) e.fact → ⊥) → (OwnsSome m n (objects_after es) e.fact → ⊥) → (IsTooEarly m es e.fact → ⊥) → IsMisfit m n es e → Refuses m n (objects_after es) (decision_of e.fact)
of_step m n es e a b c d (inl h) = absurd (a h.0)
of_step m n es e a b c d (inr (inl h)) = absurd (b h.1)
of_step m n es e a b c d (inr (inr (inl h))) = h.2
of_step m n es e a b c d (inr (inr (inr (inl h)))) = absurd (d h.3)
of_step m n es e a b c d (inr (inr (inr (inr h)))) = absurd (c h.2)

of_time : (m : Misfit) (n : ℕ) (es : List Line) (e : Line) → (IsOutOfOrder m es e → ⊥) → (IsOutOfLife m (told_of (thread_of e.fact) es) e.fact → ⊥) → ((held : ℕ) (o : Object) (d : Decision) → RefusesStep m held o d → ⊥) → (OwnsSome m n (objects_after es) e.fact → ⊥) → IsMisfit m n es e → IsTooEarly m es e.fact
of_time m n es e a b c d (inl h) = absurd (a h.0)
of_time m n es e a b c d (inr (inl h)) = absurd (b h.1)
of_time m n es e a b c d (inr (inr (inl h))) = absurd (no_step m n (objects_after es) c (decision_of e.fact) h.2)
of_time m n es e a b c d (inr (inr (inr (inl h)))) = h.3
of_time m n es e a b c d (inr (inr (inr (inr h)))) = absurd (d h.2)

of_owned : (m : Misfit) (n : ℕ) (es : List Line) (e : Line) → (IsOutOfOrder m es e → ⊥) → (IsOutOfLife m (told_of (thread_of e.fact) es) e.fact → ⊥) → ((held : ℕ) (o : Object) (d : Decision) → RefusesStep m held o d → ⊥) → (IsTooEarly m es e.fact → ⊥) → IsMisfit m n es e → OwnsSome m n (objects_after es) e.fact
of_owned m n es e a b c d (inl h) = absurd (a h.0)
of_owned m n es e a b c d (inr (inl h)) = absurd (b h.1)
of_owned m n es e a b c d (inr (inr (inl h))) = absurd (no_step m n (objects_after es) c (decision_of e.fact) h.2)
of_owned m n es e a b c d (inr (inr (inr (inl h)))) = absurd (d h.3)
of_owned m n es e a b c d (inr (inr (inr (inr h)))) = h.2

-- ---- the words

-- a number, or words, at the end of a text
at_end : (before piece : List ℕ) → before ++ (piece ++ codes "") ≡ before ++ piece
at_end before piece = ap (λ l. before ++ l) (append-nil piece)

call_words : (before operation number : List ℕ) → (before ++ (operation ++ codes "")) ++ (codes " of m" ++ (number ++ codes "")) ≡ before ++ (operation ++ (codes " of m" ++ number))
call_words before operation number =
    ap (λ l. (before ++ l) ++ (codes " of m" ++ (number ++ codes ""))) (append-nil operation)
    ∙ ap (λ l. (before ++ operation) ++ (codes " of m" ++ l)) (append-nil number)
    ∙ append_assoc before operation (codes " of m" ++ number)

reply_words : (before reply object : List ℕ) → (before ++ (reply ++ codes ": ")) ++ object ≡ before ++ (reply ++ (codes ": " ++ object))
reply_words before reply object =
    append_assoc before (reply ++ codes ": ") object ∙ ap (λ l. before ++ l) (append_assoc reply (codes ": ") object)

-- ---- what is so of a point, a return, a reaping

other_mutex : (m : ℕ) (fs : List Fact) (f : Fact) → IsOutOfLife (misfit.OtherMutex m) fs f → (c : Begun) × IsIn fs c × (c.mutex ≡ m)
other_mutex m fs (fact.Point d) h = (h.0, h.1.call, sym h.2)
other_mutex m fs f h = absurd h

other_operation : (o : Operation) (fs : List Fact) (f : Fact) → IsOutOfLife (misfit.OtherOperation o) fs f → (c : Begun) × IsIn fs c × (c.operation ≡ o)
other_operation o fs (fact.Point d) h = (h.0, h.1.call, sym h.2)
other_operation o fs f h = absurd h

refused : (fs : List Fact) (f : Fact) → IsOutOfLife misfit.ReleaseRefused fs f → (c : Begun) × IsIn fs c × IsWait c.operation
refused fs (fact.Point d) h = (h.0, h.1.call, h.2)
refused fs f h = absurd h

released : (fs : List Fact) (f : Fact) → IsOutOfLife misfit.Released fs f → HasReleased fs
released fs (fact.Point d) h = (h.0, h.1.call, h.2, h.3)
released fs (fact.Return t x) h = (h.0, h.1.call, h.2, h.3)
released fs f h = absurd h

decided : (x : Reply) (fs : List Fact) (f : Fact) → IsOutOfLife (misfit.Decided x) fs f → IsDecided fs x
decided x fs (fact.Point d) h = (h.0, h.1.call, h.2, h.3)
decided x fs f h = absurd h

undecided : (fs : List Fact) (f : Fact) → IsOutOfLife misfit.Undecided fs f → (c : Begun) × IsIn fs c × (points_in fs ≡ [])
undecided fs (fact.Return t x) h = (h.0, h.1.call, h.2)
undecided fs f h = absurd h

other_reply : (x : Reply) (fs : List Fact) (f : Fact) → IsOutOfLife (misfit.OtherReply x) fs f → IsDecided fs x
other_reply x fs (fact.Return t y) h = (h.0, h.1.call, h.2, h.3)
other_reply x fs f h = absurd h

not_allowed : (o : Object) (x : Reply) (n : ℕ) (os : ℕ → Object) (D : Option Decision) → Refuses (misfit.NotAllowed o x) n os D → (d : Decision) × (D ≡ Some d) × (x ≡ d.reply) × (o ≡ os d.mutex) × ((new : Object) → Permits o d.thread d.operation x new → ⊥)
not_allowed o x n os None h = absurd h
not_allowed o x n os (Some d) h = (d, refl, h.1, h.0, λ new p. h.4 new (subst (λ (q : Object). Permits q d.thread d.operation x new) h.0 p))

at_limit : (k : ℕ) (n : ℕ) (os : ℕ → Object) (D : Option Decision) → Refuses (misfit.AtLimit k) n os D → (d : Decision) × (D ≡ Some d) × (k ≡ held_by d.thread os n) × (held_limit ≤ k) × (d.reply ≢ XHELD)
at_limit k n os None h = absurd h
at_limit k n os (Some d) h = (d, refl, h.0, subst (λ (j : ℕ). held_limit ≤ j) (sym h.0) h.1, h.3)

not_owner : (o : Object) (n : ℕ) (os : ℕ → Object) (D : Option Decision) → Refuses (misfit.NotOwner o) n os D → (d : Decision) × (D ≡ Some d) × (o ≡ os d.mutex) × (o.owner ≢ Some d.thread)
not_owner o n os None h = absurd h
not_owner o n os (Some d) h = (d, refl, h.0, subst (λ (q : Object). q.owner ≢ Some d.thread) (sym h.0) h.2)

too_early : (i : ℕ) (es : List Line) (f : Fact) → IsTooEarly (misfit.TooEarly i) es f → i ≡ begun_at (thread_of f) es
too_early i es (fact.Point d) h = h.0
too_early i es f h = absurd h

still_owns : (m n : ℕ) (os : ℕ → Object) (f : Fact) → OwnsSome (misfit.StillOwns m) n os f → (os m).owner ≡ Some (thread_of f)
still_owns m n os (fact.Reap t) h = h.1
still_owns m n os f h = absurd h

pub reasons_are_true : ReasonsAreTrue
reasons_are_true n es e (misfit.EventFalls i) why = let h = of_order (misfit.EventFalls i) n es e (λ x. x) (λ k o d x. x) (λ x. x) (λ x. x) why in (refl, sym h.0, h.1)
reasons_are_true n es e (misfit.AnothersEvent t) why = (at_end (codes "the event is one of thread t") (decimal t), (of_order (misfit.AnothersEvent t) n es e (λ x. x) (λ k o d x. x) (λ x. x) (λ x. x) why).0)
reasons_are_true n es e (misfit.EventDecided) why = (refl, (of_order misfit.EventDecided n es e (λ x. x) (λ k o d x. x) (λ x. x) (λ x. x) why).0)
reasons_are_true n es e (misfit.KillShares) why = let h = of_order misfit.KillShares n es e (λ x. x) (λ k o d x. x) (λ x. x) (λ x. x) why in (refl, h.1, h.0)
reasons_are_true n es e (misfit.EventKilled) why = (refl, of_order misfit.EventKilled n es e (λ x. x) (λ k o d x. x) (λ x. x) (λ x. x) why)
reasons_are_true n es e (misfit.InCall c) why = (call_words (codes "the thread is in a call already: ") (operation_word c.operation) (decimal c.mutex), (of_life (misfit.InCall c) n es e (λ x. x) (λ k o d x. x) (λ x. x) (λ x. x) why).1)
reasons_are_true n es e (misfit.NoCall) why = (refl, (of_life misfit.NoCall n es e (λ x. x) (λ k o d x. x) (λ x. x) (λ x. x) why).1)
reasons_are_true n es e (misfit.Asleep) why = (refl, (of_life misfit.Asleep n es e (λ x. x) (λ k o d x. x) (λ x. x) (λ x. x) why).1)
reasons_are_true n es e (misfit.Awake) why = (refl, (of_life misfit.Awake n es e (λ x. x) (λ k o d x. x) (λ x. x) (λ x. x) why).1)
reasons_are_true n es e (misfit.Killed) why = let h = of_life misfit.Killed n es e (λ x. x) (λ k o d x. x) (λ x. x) (λ x. x) why in (refl, (h.1.killed, h.2))
reasons_are_true n es e (misfit.NotReaped) why = let h = of_life misfit.NotReaped n es e (λ x. x) (λ k o d x. x) (λ x. x) (λ x. x) why in (refl, (h.1.killed, h.2))
reasons_are_true n es e (misfit.Reaped) why = (refl, (of_life misfit.Reaped n es e (λ x. x) (λ k o d x. x) (λ x. x) (λ x. x) why).2)
reasons_are_true n es e (misfit.Alive) why = (refl, (of_life misfit.Alive n es e (λ x. x) (λ k o d x. x) (λ x. x) (λ x. x) why).1)
reasons_are_true n es e (misfit.OtherMutex m) why = (at_end (codes "the thread's call is on m") (decimal m), other_mutex m (told_of (thread_of e.fact) es) e.fact (of_life (misfit.OtherMutex m) n es e (λ x. x) (λ k o d x. x) (λ x. x) (λ x. x) why))
reasons_are_true n es e (misfit.OtherOperation o) why = (refl, other_operation o (told_of (thread_of e.fact) es) e.fact (of_life (misfit.OtherOperation o) n es e (λ x. x) (λ k o d x. x) (λ x. x) (λ x. x) why))
reasons_are_true n es e (misfit.ReleaseRefused) why = (refl, refused (told_of (thread_of e.fact) es) e.fact (of_life misfit.ReleaseRefused n es e (λ x. x) (λ k o d x. x) (λ x. x) (λ x. x) why))
reasons_are_true n es e (misfit.Released) why = (refl, released (told_of (thread_of e.fact) es) e.fact (of_life misfit.Released n es e (λ x. x) (λ k o d x. x) (λ x. x) (λ x. x) why))
reasons_are_true n es e (misfit.Decided x) why = (at_end (codes "the call has its points already, and the last replied ") (reply_word x), decided x (told_of (thread_of e.fact) es) e.fact (of_life (misfit.Decided x) n es e (λ x. x) (λ k o d x. x) (λ x. x) (λ x. x) why))
reasons_are_true n es e (misfit.Undecided) why = (refl, undecided (told_of (thread_of e.fact) es) e.fact (of_life misfit.Undecided n es e (λ x. x) (λ k o d x. x) (λ x. x) (λ x. x) why))
reasons_are_true n es e (misfit.OtherReply x) why = (at_end (codes "the call's point replied ") (reply_word x), other_reply x (told_of (thread_of e.fact) es) e.fact (of_life (misfit.OtherReply x) n es e (λ x. x) (λ k o d x. x) (λ x. x) (λ x. x) why))
reasons_are_true n es e (misfit.NotAllowed o x) why = (reply_words (codes "the mutex doesn't allow the reply ") (reply_word x) (object_text o), not_allowed o x n (objects_after es) (decision_of e.fact) (of_step (misfit.NotAllowed o x) n es e (λ x. x) (λ x. x) (λ x. x) (λ x. x) why))
reasons_are_true n es e (misfit.AtLimit k) why = (refl, at_limit k n (objects_after es) (decision_of e.fact) (of_step (misfit.AtLimit k) n es e (λ x. x) (λ x. x) (λ x. x) (λ x. x) why))
reasons_are_true n es e (misfit.NotOwner o) why = (refl, not_owner o n (objects_after es) (decision_of e.fact) (of_step (misfit.NotOwner o) n es e (λ x. x) (λ x. x) (λ x. x) (λ x. x) why))
reasons_are_true n es e (misfit.TooEarly i) why = (refl, too_early i es e.fact (of_time (misfit.TooEarly i) n es e (λ x. x) (λ x. x) (λ k o d x. x) (λ x. x) why))
reasons_are_true n es e (misfit.StillOwns m) why = (at_end (codes "the thread still owns m") (decimal m), still_owns m n (objects_after es) e.fact (of_owned (misfit.StillOwns m) n es e (λ x. x) (λ x. x) (λ k o d x. x) (λ x. x) why))
reasons_are_true n es e (misfit.EndFalls i) why = of_order (misfit.EndFalls i) n es e (λ x. x) (λ k o d x. x) (λ x. x) (λ x. x) why

pub end_has_its_words : EndHasItsWords
end_has_its_words i = refl
