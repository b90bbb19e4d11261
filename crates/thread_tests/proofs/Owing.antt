-- An unlock that has somebody to wake, where nobody sleeps.
use Rattle.std.proofs.Common.{◌≡◌, ℕ, Bool, false, refl, sym, ap, ◌∙◌, subst}
use Rattle.lockword.specs.declared.reply.Reply.TheVariants.{OK}
use Rattle.stepprograms.specs.declared.access.Access.TheVariants as access
use Rattle.stepprograms.specs.declared.access.Answer.TheVariants.{Count, Trimmed}
use Rattle.posixmutex.specs.declared.point.Operation.{Operation}
use Rattle.posixmutex.specs.declared.point.Operation.TheVariants as operation
use Rattle.mutex.specs.declared.phase.Phase.{Phase}
use Rattle.mutex.specs.declared.phase.Phase.TheVariants.{AtCell, Clearing}
use Rattle.mutex.specs.declared.row.Row.TheVariants.{Unlock}
use Rattle.mutex.specs.declared.unlock.UnlockRow.TheVariants.{Trim}
use Rattle.mutex.specs.Standings.{Whole}
use Rattle.mutex.specs.Whole.{leaving, phase_access, phase_led, whole_access, whole_led, whole_moved}
use Rattle.mutex.specs.WholeLists.{StandsAt}
use Rattle.ruledwords.specs.declared.pass.Words.{Words}
use Rattle.ruledwords.specs.declared.turn.Running.{Running}
use Rattle.ruledwords.specs.declared.turn.Owed.{Owed}
use Rattle.ruledwords.specs.declared.turn.Wakes.{Wakes}
use Rattle.ruledwords.specs.declared.turn.Wakes.TheVariants.{Nobody, One, All}
use Rattle.ruledwords.specs.Outcomes.{owed_running, owed_wakes, IsOwedOf}
use Rattle.ruledwords.specs.Owing.{owing_at}
use Rattle.ruledwords.specs.Turns.{running_call}

-- its operation
unlocks : (v : Wakes) (h e : ℕ) (op : Operation) (own : Bool) (f : Phase) → ¬ (v ≡ Nobody) → f ≡ owing_at v → StandsAt h e op own f → op ≡ operation.Unlock
unlocks Nobody h e op own f some at stands = absurd (some refl)
unlocks One h e op own f some at stands = let there : StandsAt h e op own (owing_at One) = subst (λ (z : Phase). StandsAt h e op own z) at stands in sym there.1
unlocks All h e op own f some at stands = let there : StandsAt h e op own (owing_at All) = subst (λ (z : Phase). StandsAt h e op own z) at stands in sym there.1

-- where it stands once it has woken nobody: to wake one it trims
abbrev pub after : Wakes → Phase
after One = AtCell (Unlock Trim)
after v = Clearing OK

woke_nobody : (p : Whole) (v : Wakes) → ¬ (v ≡ Nobody) → p.phase ≡ owing_at v → p.operation ≡ operation.Unlock → (whole_led p (Count 0)).phase ≡ after v
woke_nobody p Nobody some at op = absurd (some refl)
woke_nobody p One some at op = ap (λ (f : Phase). (phase_led p f (Count 0)).phase) at
woke_nobody p All some at op = ap (λ (f : Phase). (phase_led p f (Count 0)).phase) at ∙ ap (λ (o : Operation). leaving p o OK) op

trimmed_nothing : (p : Whole) → p.phase ≡ AtCell (Unlock Trim) → p.operation ≡ operation.Unlock → (whole_led p (Trimmed false)).phase ≡ Clearing OK
trimmed_nothing p at op = ap (λ (f : Phase). (phase_led p f (Trimmed false)).phase) at ∙ ap (λ (o : Operation). leaving p o OK) op

trims : (q : Whole) (v : Wakes) (at : ℕ) → q.phase ≡ after v → whole_access q ≡ access.Trim at → q.phase ≡ AtCell (Unlock Trim)
trims q One at there is = there
trims q Nobody at there is = absurd (cc (there, is))
trims q All at there is = absurd (cc (there, is))

pub clears : (q : Whole) (v : Wakes) → q.phase ≡ after v → ((at : ℕ) → ¬ (whole_access q ≡ access.Trim at)) → q.phase ≡ Clearing OK
clears q One there other = absurd (other q.cell (ap (phase_access q) there))
clears q Nobody there other = there
clears q All there other = there

-- the call, once it has woken nobody
pub record Woke (o : Owed) (q : Whole) : Type 0 where
  pub stands : q.phase ≡ after (owed_wakes o)
  pub unlocks : q.operation ≡ operation.Unlock

pub behind_wake : (w : Words) (o : Owed) (r : Running) (q : Whole) → IsOwedOf w o → ¬ (owed_wakes o ≡ Nobody) → r ≡ owed_running o
    → q ≡ whole_moved (running_call r) (whole_led (running_call r) (Count 0)) → Woke o q
behind_wake w o r q of some same moved =
    let p : Whole = running_call (owed_running o) in
    let op : p.operation ≡ operation.Unlock = unlocks (owed_wakes o) _ _ p.operation _ p.phase some o.at of.1.1.list.stands in
    let here : q ≡ whole_moved p (whole_led p (Count 0)) = moved ∙ ap (λ (x : Running). whole_moved (running_call x) (whole_led (running_call x) (Count 0))) same in
    record {
      stands = ap (λ (z : Whole). z.phase) here ∙ woke_nobody p (owed_wakes o) some o.at op;
      unlocks = ap (λ (z : Whole). z.operation) here ∙ op;
    }

-- and once it has trimmed nothing
pub behind_trim : (o : Owed) (q z : Whole) (at : ℕ) → Woke o q → whole_access q ≡ access.Trim at → z ≡ whole_moved q (whole_led q (Trimmed false)) → z.phase ≡ Clearing OK
behind_trim o q z at woke trim moved = ap (λ (x : Whole). x.phase) moved ∙ trimmed_nothing q (trims q (owed_wakes o) at woke.stands trim) woke.unlocks
