-- A call, and one more.
use Rattle.std.proofs.Common.{◌≡◌, ◌≢◌, ◌∙◌, ℕ, ◌+◌, ◌<◌, Bool, true, false, Option, Some, List, [], ◌∷◌, ◌++◌, length, take, get_or, slice_get, refl, sym, ap, subst, arith}
use Rattle.std.proofs.lemmas.List.{take_more}
use Rattle.std.proofs.lemmas.Option.{slice_get-get_or}
use Rattle.lockword.specs.declared.reply.Reply.{Reply}
use Rattle.lockword.specs.declared.reply.Reply.TheVariants.{OK}
use Rattle.memorymap.specs.Layouts.{Layout', cell_place}
use Rattle.posixmutex.specs.declared.point.Operation.TheVariants as operation
use Rattle.ruledwords.specs.declared.pass.Card.{Card}
use Rattle.ruledwords.specs.declared.turn.Outcome.{Outcome}
use Rattle.ruledwords.specs.declared.turn.Outcome.TheVariants as outcome
use Rattle.ruledwords.specs.declared.turn.Owed.{Owed}
use Rattle.ruledwords.specs.declared.turn.Released.TheVariants.{Owes}
use Rattle.ruledwords.specs.declared.pass.Live.{Live}
use Rattle.ruledwords.specs.declared.pass.Pass.{Pass}
use Rattle.ruledwords.specs.declared.pass.Words.{Words}
use Rattle.ruledwords.specs.Deaths.{IsReaped}
use Rattle.ruledwords.specs.Outcomes.{owed_pass, Frees}
use Rattle.ruledwords.specs.Passes.{card, layout_of}
use Rattle.ruledwords.specs.Seen.{Called}
use Rattle.ruledwords.proofs.Noted.{still_called}
use Rattle.mutex.specs.declared.call.Call.TheVariants.{Unlock}
use Rattle.condvar.specs.declared.op.Op.{Op}
use Rattle.condvar.specs.declared.op.Op.TheVariants.{OnMutex}
use Rattle.threadbench.specs.declared.job.WorkerPass.{WorkerPass}
use Rattle.threadbench.specs.Answered.{Replied, Answered, CallEnds, DiesIn}
use Rattle.threadbench.specs.Calls.{Paid}
use Rattle.threadbench.specs.Jobs.{StopsAs, WasLost, Worked}

-- an unlock whose mutex is freed, and whose sleepers are woken or not
pub unlock_ends : (w : Words) (m : ℕ) (a : Pass Live) (o : Owed) (end : Outcome) → Frees w m a (Owes o) → Paid w o end → CallEnds w a (OnMutex (Unlock m)) end
unlock_ends w m a o (outcome.Lives b r) freed paid =
    let called = still_called (card a) (cell_place (layout_of w) m) ((operation.Unlock, OK) ∷ []) (card (owed_pass o)) (card b) (paid.2 m freed.4) freed.1 in (
      paid.0,
      subst (λ (x : Reply). Called (card a) (cell_place (layout_of w) m) ((operation.Unlock, x) ∷ []) (card b)) (sym paid.1) called,
    )
unlock_ends w m a o (outcome.Dead d) freed paid =
    let called = still_called (card a) (cell_place (layout_of w) m) ((operation.Unlock, OK) ∷ []) (card (owed_pass o)) (card d) (paid.1 m freed.4) freed.1 in (
      paid.0,
      record { acts = (operation.Unlock, OK) ∷ []; beginning = ([], OK, refl); saw = called.saw },
    )

-- the calls so far and then one more
pub answered_more : (k : Layout') (a : Card) (cs : List Op) (rs : List Reply) (p : Card) (c : Op) (r : Reply) (b : Card) → Answered k a cs rs p → Replied k p c r b → Answered k a (cs ++ c ∷ []) (rs ++ r ∷ []) b
answered_more k a [] [] p c r b so_far one = (b, subst (λ (z : Card). Replied k z c r b) (sym so_far) one, refl)
answered_more k a [] (s ∷ rs) p c r b so_far one = absurd so_far
answered_more k a (d ∷ cs) [] p c r b so_far one = absurd so_far
answered_more k a (d ∷ cs) (s ∷ rs) p c r b so_far one = (so_far.0, so_far.1, answered_more k so_far.0 cs rs p c r b so_far.2 one)

-- the calls up to one, and that one
pub answered_next : (k : Layout') (a : Card) (calls : List Op) (i : ℕ) (d : Op) (rs rs' : List Reply) (p : Card) (r : Reply) (b : Card) → i < length calls → Answered k a (take i calls) rs p → Replied k p (get_or calls i d) r b → rs' ≡ rs ++ r ∷ []
    → Answered k a (take (i + 1) calls) rs' b
answered_next k a calls i d rs rs' p r b lt so_far one told =
    subst (λ (cs : List Op). Answered k a cs rs' b) (sym (take_more calls i d lt)) (subst (λ (z : List Reply). Answered k a (take i calls ++ get_or calls i d ∷ []) z b) (sym told) (answered_more k a (take i calls) rs p (get_or calls i d) r b so_far one))

-- the call at a place, found in two ways
pub the_same_call : (calls : List Op) (i k : ℕ) (d call : Op) → k < length calls → i ≡ k → slice_get calls i ≡ Some call → get_or calls k d ≡ call
the_same_call calls i k d call lt here at = let both : Some (get_or calls k d) ≡ Some call = sym (slice_get-get_or calls k d lt) ∙ ap (slice_get calls) (sym here) ∙ at in cc

-- what a gate says for certain of a call it answers
heard : (says : ℕ → ℕ → Op → Option Bool) (t u n k : ℕ) (x y : Op) (answer b : Bool) → ((b : Bool) → says t n x ≡ Some b → answer ≡ b) → t ≡ u → n ≡ k → x ≡ y → says u k y ≡ Some b → answer ≡ b
heard says t u n k x y answer b tells same at is said = tells b (subst (λ (z : ℕ × ℕ × Op). says z.0 z.1 z.2 ≡ Some b) (λ i. (sym same i, sym at i, sym is i)) said)

-- a gate that let a call through doesn't surely refuse it
pub let_through : (says : ℕ → ℕ → Op → Option Bool) (t u n k : ℕ) (x y : Op) (answer : Bool) → ((b : Bool) → says t n x ≡ Some b → answer ≡ b) → t ≡ u → n ≡ k → x ≡ y → answer ≡ true → says u k y ≢ Some false
let_through says t u n k x y answer tells same at is lets refuses =
    let bad : true ≡ false = sym lets ∙ heard says t u n k x y answer false tells same at is refuses in
    absurd (cc bad)

refuses : (says : ℕ → ℕ → Op → Option Bool) (t u n k : ℕ) (x y : Op) (answer : Bool) → ((b : Bool) → says t n x ≡ Some b → answer ≡ b) → t ≡ u → n ≡ k → x ≡ y → answer ≡ false → says u k y ≢ Some true
refuses says t u n k x y answer tells same at is stops lets =
    let bad : false ≡ true = sym stops ∙ heard says t u n k x y answer true tells same at is lets in
    absurd (cc bad)

-- the next call was refused
pub next_refused : (says : ℕ → ℕ → Op → Option Bool) (t u n : ℕ) (calls : List Op) (i m : ℕ) (d : Op) (answer : Bool) → i < length calls → m ≡ i → ((b : Bool) → says t n (get_or calls i d) ≡ Some b → answer ≡ b) → t ≡ u → n ≡ m + 1 → answer ≡ false
    → (call : Op) × (slice_get calls m ≡ Some call) × (says u (m + 1) call ≢ Some true)
next_refused says t u n calls i m d answer low at tells same number stops =
    (get_or calls i d, ap (slice_get calls) at ∙ slice_get-get_or calls i d low, refuses says t u n (m + 1) (get_or calls i d) (get_or calls i d) answer tells same number refl stops)

-- or its thread died in it, and its list was walked
pub next_lost : (says : ℕ → ℕ → Op → Option Bool) (t u n : ℕ) (calls : List Op) (i m : ℕ) (d : Op) (answer : Bool) (k : Layout') (c dead after : Card) → i < length calls → m ≡ i → ((b : Bool) → says t n (get_or calls i d) ≡ Some b → answer ≡ b) → t ≡ u → n ≡ m + 1
    → answer ≡ true → DiesIn k c (get_or calls i d) dead → IsReaped k dead after → (call : Op) × (slice_get calls m ≡ Some call) × (says u (m + 1) call ≢ Some false) × WasLost k c call after
next_lost says t u n calls i m d answer k c dead after low at tells same number lets died reaped = (
  get_or calls i d,
  ap (slice_get calls) at ∙ slice_get-get_or calls i d low,
  let_through says t u n (m + 1) (get_or calls i d) (get_or calls i d) answer tells same number refl lets,
  record { dead = dead; died = died; reaped = reaped },
)

-- a thread that was answered i calls, and stops
pub stops_there : (w : Words) (says : ℕ → ℕ → Op → Option Bool) (a : Card) (calls : List Op) (i : ℕ) (rs : List Reply) (c : Card) (pass : WorkerPass) → i < length calls → length rs ≡ i → Answered (layout_of w) a (take i calls) rs c
    → ((j : ℕ) (call : Op) → j < length rs → slice_get calls j ≡ Some call → says a.thread (j + 1) call ≢ Some false) → StopsAs w (says a.thread) calls (length rs) c pass → Worked w says a calls rs pass
stops_there w says a calls i rs c pass low counted answered lets stops = record {
  few = omega (arith, low, counted);
  last = c;
  answered = subst (λ (n : ℕ). Answered (layout_of w) a (take n calls) rs c) (sym counted) answered;
  let_through = lets;
  stops = stops;
}
