-- In any run, the machine's call on a condition variable is that of our call.
use Rattle.std.proofs.Common.{◌≡◌, inl, inr, ℕ, ◌≤◌, Bool, true, false, refl, sym, ap, ◌∙◌, subst}
use Rattle.lockword.specs.Cells.{fields_of}
use Rattle.memorymap.specs.Layouts.{Layout'}
use Rattle.mutex.specs.declared.call.Call.{Call}
use Rattle.mutex.specs.declared.phase.Phase.{Phase}
use Rattle.condvar.specs.Calls.{acts_as, condition_of}
use Rattle.condvar.specs.Standings.{CondWhole}
use Rattle.condvar.specs.declared.call.CondCall.{CondCall}
use Rattle.condvar.specs.declared.call.CondCall.TheVariants as cond_call
use Rattle.condvar.specs.declared.op.Op.TheVariants.{OnCondition}
use Rattle.protocol.specs.declared.thread.Stage.{Stage}
use Rattle.protocol.specs.declared.thread.Stage.TheVariants.{AtCondition}
use Rattle.protocol.specs.Machine.{is_alive, is_timed}
use Rattle.slots.specs.Rows.{Before, Giving, How, Onward, Row, Taking}
use Rattle.slots.specs.Rows.Before.{Linked, Mended, Again}
use Rattle.slots.specs.Rows.Giving.{OfUnlock, OfWait}
use Rattle.slots.specs.Rows.How.{Tried, Later, Waited}
use Rattle.slots.specs.Rows.Onward.{Has, Fails, Sleeps}
use Rattle.slots.specs.Shown.{begin}
use Rattle.slots.specs.Seen.{wait_of}
use Rattle.slots.specs.Stands.{HasChosen, IsFreeing, IsHeirToBe, IsIn, IsRetaking, IsTaking, IsThrough, IsToLook, IsToSleep, StandsAs}
use Rattle.slots.specs.Runs.{is_resting, reached}
use Rattle.slots.specs.Replies.{counts_as}
use Rattle.slots.specs.Conditions.{ConditionCallsAreOurs, IsOfCall}
use Rattle.slots.specs.Outcomes.{call_so_far, count_of}
use Rattle.slots.proofs.Following.{begins_steady, layout_then, steady_run}
use Rattle.slots.proofs.Origins.{AsBegun, CountFrom, WaitFrom}
use Rattle.slots.proofs.Outcomes.{Tells, begun_in}
use Rattle.slots.proofs.Steady.{Steady}

-- ---- no other row is in such a call

abbrev at_condition : Stage → Bool
at_condition (AtCondition o p) = true
at_condition g = false

abbrev gives_wait : Giving → Bool
gives_wait (OfUnlock d) = false
gives_wait (OfWait k n slept timed) = true

abbrev is_condition_row : Row → Bool
is_condition_row (Row.GiveUnlinks m y) = gives_wait y
is_condition_row (Row.GiveFinds m y) = gives_wait y
is_condition_row (Row.Gives m y) = gives_wait y
is_condition_row (Row.HandsOn m y is) = gives_wait y
is_condition_row (Row.LooksBack m y is) = gives_wait y
is_condition_row (Row.WakesOne m y is) = gives_wait y
is_condition_row (Row.WaitSets m k n timed) = true
is_condition_row (Row.WaitSleeps m k n timed) = true
is_condition_row (Row.CountWakes m k n) = true
is_condition_row (Row.AllMarks m k n) = true
is_condition_row (Row.AllMoves m k n) = true
is_condition_row r = false

module _ (g : Stage) where
  abbrev Off : Type 0
  Off = at_condition g ≡ false

  in_call : (c : Call) (f : Phase) → IsIn c f g → Off
  in_call c f (p, is, phase) = ap at_condition is

  retaking : (k : ℕ) (f : Phase) → IsRetaking k f g → Off
  retaking k f (c, p, is, of, acts, phase) = ap at_condition is

  to_look : (k : Taking) (h : How) → IsToLook k h g → Off
  to_look k Tried there = in_call _ _ there
  to_look k Later there = in_call _ _ there
  to_look k (Waited z) there = retaking z _ there

  through : (m : ℕ) (h : How) → IsThrough m h g → Off
  through m Tried there = in_call _ _ there
  through m Later there = in_call _ _ there
  through m (Waited z) there = absurd there

  to_sleep : (k : Taking) (h : How) (v : ℕ) → IsToSleep k h v g → Off
  to_sleep k Tried v there = in_call _ _ there
  to_sleep k Later v there = in_call _ _ there
  to_sleep k (Waited z) v (c, low, there) = retaking z _ there

  chosen : (k : Taking) (h : How) (b : Bool) (v : ℕ) → HasChosen k h b v g → Off
  chosen k Tried b v there = in_call _ _ there
  chosen k Later true v there = in_call _ _ there
  chosen k Later false v there = in_call _ _ there
  chosen k (Waited z) true v there = to_sleep k (Waited z) v there
  chosen k (Waited z) false v there = retaking z _ there

  taking : (m : ℕ) (f : Phase) → IsTaking m f g → Off
  taking m f (inl there) = in_call _ _ there
  taking m f (inr (inl there)) = in_call _ _ there
  taking m f (inr (inr (k, there))) = retaking k _ there

  freeing : (m : ℕ) (f : Onward) → IsFreeing m f g → Off
  freeing m (Has r) there = in_call _ _ there
  freeing m (Fails r) there = in_call _ _ there
  freeing m Sleeps there = in_call _ _ there

  heir_to_be : (m : ℕ) (b : Before) → IsHeirToBe m b g → Off
  heir_to_be m Linked there = in_call _ _ there
  heir_to_be m Mended is = ap at_condition is
  heir_to_be m Again there = in_call _ _ there

  off_row : (r : Row) → is_condition_row r ≡ false → StandsAs r g → Off
  off_row (Row.Sees k) un there = to_look k k.how there
  off_row (Row.Takes k v) un there = to_look k k.how there
  off_row (Row.Chooses k v) un there = chosen k k.how (fields_of v).waiters v there
  off_row (Row.SeesAgain k v) un there = chosen k k.how (fields_of v).waiters v there
  off_row (Row.Marks k v n) un there = chosen k k.how false v there
  off_row (Row.SleepsOn k v) un there = to_sleep k k.how v there
  off_row (Row.Asleep k) un there = to_look k k.how there
  off_row (Row.Late k) un there = through k.mutex Later there
  off_row (Row.LateSees k) un there = through k.mutex Later there
  off_row (Row.WakesAll m r) un (inl (there, same)) = taking m _ there
  off_row (Row.WakesAll m r) un (inr (there, same)) = in_call _ _ there
  off_row (Row.Links m r) un (u, there) = taking m _ there
  off_row (Row.Clears m r) un (c, p, x, is, phase, same) = ap at_condition is
  off_row (Row.SlotPends k v) un there = through k.mutex k.how there
  off_row (Row.SlotTakes k v) un there = in_call _ _ there
  off_row (Row.SlotLeft k) un (inl there) = in_call _ _ there
  off_row (Row.SlotLeft k) un (inr there) = in_call _ _ there
  off_row (Row.SeesToSleep k) un there = to_look k k.how there
  off_row (Row.SlotLinks k d) un (u, there) = in_call _ _ there
  off_row (Row.SlotClears k) un there = in_call _ _ there
  off_row (Row.HeirPends k b) un there = heir_to_be k.mutex b there
  off_row (Row.HeirSets k) un there = in_call _ _ there
  off_row (Row.HeirLooks k) un there = in_call _ _ there
  off_row (Row.HeirPendsOn k v over) un there = in_call _ _ there
  off_row (Row.HeirTakes k v) un there = in_call _ _ there
  off_row (Row.HeirHas k r) un (u, there) = in_call _ _ there
  off_row (Row.HeirLinks k r) un (u, there) = in_call _ _ there
  off_row (Row.GivesUp k) un there = in_call _ _ there
  off_row (Row.LastLooks k) un there = in_call _ _ there
  off_row (Row.LastMarks k v) un there = in_call _ _ there
  off_row (Row.HeirWakes k) un there = in_call _ _ there
  off_row (Row.Frees k f) un there = freeing k.mutex f there
  off_row (Row.FreeUnlinks k f) un (u, there) = in_call _ _ there
  off_row (Row.FreeGives k f) un there = in_call _ _ there
  off_row (Row.TryTakes m v) un there = in_call _ _ there
  off_row (Row.GiveUnlinks m (OfUnlock d)) un (u, there) = in_call _ _ there
  off_row (Row.GiveUnlinks m (OfWait k n slept timed)) un there = absurd cc
  off_row (Row.GiveFinds m (OfUnlock d)) un there = in_call _ _ there
  off_row (Row.GiveFinds m (OfWait k n slept timed)) un there = absurd cc
  off_row (Row.Gives m (OfUnlock d)) un there = in_call _ _ there
  off_row (Row.Gives m (OfWait k n slept timed)) un there = absurd cc
  off_row (Row.HandsOn m (OfUnlock d) is) un there = in_call _ _ there
  off_row (Row.HandsOn m (OfWait k n slept timed) is) un there = absurd cc
  off_row (Row.LooksBack m (OfUnlock d) is) un there = in_call _ _ there
  off_row (Row.LooksBack m (OfWait k n slept timed) is) un there = absurd cc
  off_row (Row.WakesOne m (OfUnlock d) is) un there = in_call _ _ there
  off_row (Row.WakesOne m (OfWait k n slept timed) is) un there = absurd cc
  off_row (Row.Trims m is) un there = in_call _ _ there
  off_row (Row.WaitSets m k n timed) un there = absurd cc
  off_row (Row.WaitSleeps m k n timed) un there = absurd cc
  off_row (Row.WaitAsleep m k n timed) un there = retaking k _ there.0
  off_row (Row.WaitLate m k n) un there = retaking k _ there
  off_row (Row.CountWakes m k n) un there = absurd cc
  off_row (Row.AllMarks m k n) un there = absurd cc
  off_row (Row.AllMoves m k n) un there = absurd cc
  off_row r un is = ap at_condition is

-- ---- these rows

abbrev call_of : Stage → CondCall
call_of (AtCondition o p) = o
call_of g = cond_call.Wait 0

module _ (g : Stage) (o : CondCall) (p : CondWhole) (is : g ≡ AtCondition o p) (b : Row) (passed : Bool) (T : ℕ → ℕ → Type 0) where
  of_wait : (k : ℕ) (timed : Bool) (q : CondWhole) → g ≡ AtCondition (wait_of k timed) q → WaitFrom k timed b → IsOfCall b o
  of_wait k timed q there from = go timed b from (ap call_of (sym is ∙ there))
    where
      go : (d : Bool) (b : Row) → WaitFrom k d b → o ≡ wait_of k d → IsOfCall b o
      go true (Row.WaitLooks m j timed) f same = (ap condition_of same ∙ sym f.0, ap acts_as same, ap (λ (c : CondCall). is_timed (OnCondition c)) same ∙ sym f.1)
      go false (Row.WaitLooks m j timed) f same = (ap condition_of same ∙ sym f.0, ap acts_as same, ap (λ (c : CondCall). is_timed (OnCondition c)) same ∙ sym f.1)
      go d b f same = absurd f

  of_count : (k : ℕ) (all : Bool) (c : CondCall) (q : CondWhole) → g ≡ AtCondition c q → condition_of c ≡ k → acts_as c ≡ counts_as all → CountFrom k all b → IsOfCall b o
  of_count k all c q there of acts from = go b from (ap call_of (sym is ∙ there))
    where
      go : (b : Row) → CountFrom k all b → o ≡ c → IsOfCall b o
      go (Row.CountLooks m j d) f same = (ap condition_of same ∙ of ∙ sym f.0, ap acts_as same ∙ acts ∙ ap counts_as (sym f.1))
      go b f same = absurd f

  condition_row : (r : Row) → is_condition_row r ≡ true → StandsAs r g → AsBegun b passed T r → IsOfCall b o
  condition_row (Row.GiveUnlinks m (OfWait k n slept timed)) on (q, u, there, phase) f = of_wait k timed q there f
  condition_row (Row.GiveUnlinks m (OfUnlock d)) on there f = absurd cc
  condition_row (Row.GiveFinds m (OfWait k n slept timed)) on (q, there, phase) f = of_wait k timed q there f
  condition_row (Row.GiveFinds m (OfUnlock d)) on there f = absurd cc
  condition_row (Row.Gives m (OfWait k n slept timed)) on (q, there, phase) f = of_wait k timed q there f
  condition_row (Row.Gives m (OfUnlock d)) on there f = absurd cc
  condition_row (Row.HandsOn m (OfWait k n slept timed) is) on (q, there, phase) f = of_wait k timed q there f.0
  condition_row (Row.HandsOn m (OfUnlock d) is) on there f = absurd cc
  condition_row (Row.LooksBack m (OfWait k n slept timed) is) on (q, there, phase) f = of_wait k timed q there f.0
  condition_row (Row.LooksBack m (OfUnlock d) is) on there f = absurd cc
  condition_row (Row.WakesOne m (OfWait k n slept timed) is) on (q, there, phase) f = of_wait k timed q there f.0
  condition_row (Row.WakesOne m (OfUnlock d) is) on there f = absurd cc
  condition_row (Row.WaitSets m k n timed) on (q, there, phase) f = of_wait k timed q there f
  condition_row (Row.WaitSleeps m k n timed) on (q, there, phase) f = of_wait k timed q there f.0
  condition_row (Row.CountWakes m k n) on (q, there, phase) f = of_count k false (cond_call.Signal k) q there refl refl f
  condition_row (Row.AllMarks m k n) on (seen, same, (q, there, phase)) f = of_count k true (cond_call.Broadcast k) q there refl refl f
  condition_row (Row.AllMoves m k n) on (seen, same, (q, there, phase)) f = of_count k true (cond_call.Broadcast k) q there refl refl f
  condition_row r on there f = absurd cc

busy_there : (r : Row) → is_condition_row r ≡ true → is_resting r ≡ false
busy_there Row.Rests e = absurd cc
busy_there r e = refl

pub calls_are_ours : ConditionCallsAreOurs
calls_are_ours l hs t o p is pos known trusted at = go (is_condition_row ((reached l hs).rows t)) refl
  where
    st : Steady (reached l hs)
    st = steady_run (begin l) hs (begins_steady l is) trusted

    here : t ≤ (reached l hs).machine.layout.threads
    here = subst (λ (k : Layout'). t ≤ k.threads) (sym (layout_then (begin l) hs (begins_steady l is) trusted)) known

    stands : StandsAs ((reached l hs).rows t) ((reached l hs).machine.threads t).stage
    stands = st.there t pos here (ap is_alive at)

    go : (b : Bool) → is_condition_row ((reached l hs).rows t) ≡ b → IsOfCall (call_so_far l hs t).began o
    go true on = condition_row ((reached l hs).machine.threads t).stage o p at (call_so_far l hs t).began (call_so_far l hs t).passed (Tells (count_of (reached l hs)) (call_so_far l hs t).signalled)
        ((reached l hs).rows t) on stands (begun_in l hs t is pos known trusted (busy_there ((reached l hs).rows t) on))
    go false off = absurd (cc (sym (off_row ((reached l hs).machine.threads t).stage ((reached l hs).rows t) off stands) ∙ ap at_condition at))
