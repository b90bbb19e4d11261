-- What a call of the machine returns at the last of several events.
use Rattle.std.proofs.Common.{◌≡◌, ℕ, ◌≤◌, false, List, [], ◌∷◌, ◌++◌, refl, ap, ◌∙◌}
use Rattle.stepprograms.specs.declared.access.Access.{Access}
use Rattle.stepprograms.specs.Accesses.{address_of, answer_among}
use Rattle.memorymap.specs.Layouts.{place_in}
use Rattle.mutex.specs.declared.phase.Onward.{Onward}
use Rattle.mutex.specs.Standings.{Whole}
use Rattle.mutex.specs.Whole.{whole_access, whole_led}
use Rattle.condvar.specs.declared.call.CondCall.{CondCall}
use Rattle.condvar.specs.declared.phase.CondOnward.{CondOnward}
use Rattle.condvar.specs.Standings.{CondWhole}
use Rattle.condvar.specs.Whole.{cond_access, cond_led}
use Rattle.condvar.specs.declared.op.Op.{Op}
use Rattle.protocol.specs.declared.event.Event.{Event}
use Rattle.protocol.specs.declared.event.Event.TheVariants.{Step}
use Rattle.protocol.specs.declared.thread.Thread.{Thread}
use Rattle.protocol.specs.declared.thread.Stage.TheVariants.{Calling, AtCondition}
use Rattle.protocol.specs.Machine.{After, State, happens, place_met, returned, returned_at, run, stands_in}
use Rattle.protocol.proofs.Puts.{put-same}
use Rattle.protocol.proofs.Queued.{out_awake}
use Rattle.protocol.proofs.Working.{call_goes, cond_goes}
use Rattle.slots.specs.Refused.{last_reply, noted_reply}
use Rattle.slots.proofs.Leading.{Leads, now, on}

last_is : (s : State) (es : List Event) (e : Event) → last_reply s (es ++ e ∷ []) ≡ noted_reply (happens (run s es) e).note
last_is s [] e = refl
last_is s (f ∷ []) e = refl
last_is s (f ∷ g ∷ es) e = last_is (happens s f).state (g ∷ es) e

module _ (s : State) (t : ℕ) (es : List Event) (w : ℕ → ℕ) (q : ℕ → List ℕ) (h : ℕ) (pos : 1 ≤ t) (known : t ≤ s.layout.threads) where
  -- of a call on a mutex, by an access at a place
  pub call_returns : (o : Op) (p : Whole) → ((key : ℕ) → stands_in t (q key) ≡ false) → Leads s t es w q (on (Calling o p) h) → (a : Access) (pl : ℕ) (g : Onward) → whole_access p ≡ a → place_in s.layout t (address_of a) ≡ pl
      → whole_led p (answer_among a (w pl) (q pl)) ≡ g → last_reply s (es ++ Step t ∷ []) ≡ returned o g.phase
  call_returns o p out l a pl g access place leads =
      last_is s es (Step t)
      ∙ ap (λ (x : State). noted_reply (happens x (Step t)).note) l.to
      ∙ ap (λ (x : After). noted_reply x.note) (call_goes z t o p l.kept pos known (ap (λ (y : Thread). y.stage) (put-same s.threads t (on (Calling o p) h))) (out_awake z t out))
      ∙ ap (λ (b : Access). returned o (whole_led p (answer_among b (w (place_met s.layout t b)) (q (place_met s.layout t b)))).phase) access
      ∙ ap (λ (n : ℕ). returned o (whole_led p (answer_among a (w n) (q n))).phase) place
      ∙ ap (λ (x : Onward). returned o x.phase) leads
    where
      z : State
      z = now s t w q (on (Calling o p) h)

  -- and on a condition variable
  pub cond_returns : (o : CondCall) (p : CondWhole) → Leads s t es w q (on (AtCondition o p) h) → (a : Access) (pl : ℕ) (g : CondOnward) → cond_access p ≡ a → place_in s.layout t (address_of a) ≡ pl
      → cond_led p (answer_among a (w pl) (q pl)) ≡ g → last_reply s (es ++ Step t ∷ []) ≡ returned_at g.phase
  cond_returns o p l a pl g access place leads =
      last_is s es (Step t)
      ∙ ap (λ (x : State). noted_reply (happens x (Step t)).note) l.to
      ∙ ap (λ (x : After). noted_reply x.note) (cond_goes z t o p l.kept pos known (ap (λ (y : Thread). y.stage) (put-same s.threads t (on (AtCondition o p) h))))
      ∙ ap (λ (b : Access). returned_at (cond_led p (answer_among b (w (place_met s.layout t b)) (q (place_met s.layout t b)))).phase) access
      ∙ ap (λ (n : ℕ). returned_at (cond_led p (answer_among a (w n) (q n))).phase) place
      ∙ ap (λ (x : CondOnward). returned_at x.phase) leads
    where
      z : State
      z = now s t w q (on (AtCondition o p) h)
