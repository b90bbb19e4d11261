-- Calls on condition variables that no other event divides.
use Rattle.std.proofs.Common.{◌≡◌, ◌≢◌, ℕ, zero, suc, ◌≤◌, ◌%◌, ◌^◌, true, false, Some, refl, sym, ap, ◌∙◌, subst, arith}
use Rattle.protocol.proofs.Vocabulary.{CondCall, CondRow, Signal, Broadcast, Awake, CondPhase, CondOnward, condition_of, cell_after, counter_after, met_word, CondWhole}
use Rattle.protocol.proofs.Vocabulary.{cond_access, after_words, Object, Operation, answer_at, sleeps_at, Does, object_of, Fields, fields_of}
use Rattle.protocol.proofs.Vocabulary.{Reply, OK, XRACED, or_waiting, AtCondition, State, is_calling, stands_in, is_asleep, place_met, stage_at, reply_at, returned_at}
use Rattle.protocol.proofs.Vocabulary.{seen, eqb-false, WaitRow, SignalRow, BroadcastRow, names, IsWaiting}
use Rattle.condvar.specs.declared.row.CondRow.TheVariants.{Wait, Ended}
use Rattle.condvar.specs.Calls.{acts_as}
use Rattle.condvar.specs.Rows.{IsGoing}
use Rattle.condvar.specs.Laws.{row_operation}
use Rattle.condvar.specs.Programs.{row_access, resume_of}
use Rattle.protocol.proofs.Kept.{Needs, FitsAt, Kept}
use Rattle.protocol.proofs.Steps.{cond_onto, cond_step, its_mutex, its_cell, its_counter, cond_after, cell_at, counter_at}
use Rattle.protocol.proofs.Stepping.{Stepping}
use Rattle.protocol.proofs.Endings.{cond_ends}
use Rattle.protocol.proofs.Working.{cond_goes}
use Rattle.protocol.proofs.Queues.{Turned}
use Rattle.protocol.proofs.Queued.{Queued, out_awake, mine, turn, still_out, went_queued}
use Rattle.protocol.proofs.CondSteps.{cond_of, met_is, leads as words_lead, before, here, counter_here}
use Rattle.protocol.proofs.OwnWords.{own_seen, own_counter}
use Rattle.protocol.proofs.CondAccesses.{IsBefore, Nears, by_access, cond_sleeps, cond_stepping}
use Rattle.protocol.proofs.Comings.{ComesBack, at_first, takes_step}

-- a call of thread t, which held this many mutexes when its mutex was this object
module _ (t held : ℕ) (o : Object) where
  -- it is the consistent mutex's owner
  abbrev pub IsIts : Type 0
  IsIts = (o.owner ≡ Some t) × (o.inconsistent ≡ false)

  -- what it knows in a phase, of the counter and of the mutex as it is now: undecided, that the mutex is as it was; decided, as the reply tells; and a wait, that the counter is as it saw it
  abbrev pub Knows : Operation → ℕ → Object → CondPhase → Type 0
  Knows op k now (CondPhase.AtWords (Wait (WaitRow.Release x))) = (x ≡ k % 2 ^ 32) × (now ≡ o)
  Knows op k now (CondPhase.AtWords (Wait (WaitRow.Wake x))) = (x ≡ k % 2 ^ 32) × IsIts
  Knows op k now (CondPhase.AtWords (Wait (WaitRow.Sleep x))) = (x ≡ k % 2 ^ 32) × IsIts
  Knows op k now (CondPhase.AtWords (Signal SignalRow.Wake)) = Does held o t op OK now
  Knows op k now (CondPhase.AtWords (Broadcast (BroadcastRow.SetWaiters x))) = Does held o t op OK now
  Knows op k now (CondPhase.AtWords (Broadcast (BroadcastRow.Move x))) = Does held o t op OK now
  Knows op k now (CondPhase.AtWords r) = now ≡ o
  Knows op k now (CondPhase.Announcing x) = (x ≡ k % 2 ^ 32) × (now ≡ o)
  Knows op k now (CondPhase.Unlinking u x) = (x ≡ k % 2 ^ 32) × (now ≡ o)
  Knows op k now (CondPhase.Locking w) = ⊥
  Knows op k now (CondPhase.Ended x) = (x ≢ XRACED) × Does held o t op x now

  module _ (w : ℕ) (pos : 1 ≤ t) where
    abbrev c : Fields
    c = fields_of w

    abbrev now : Object
    now = object_of c

    -- what the cell says of the owner is so of the object
    owns_then : now ≡ o → c.owner ≡ t → o.owner ≡ Some t
    owns_then same own = sym (ap (λ (z : Object). z.owner) same) ∙ names t c pos own

    -- what each row leads to
    knows_row : (cell counter k : ℕ) (r : CondRow) (p : CondWhole) → IsGoing r → Needs t r c → Knows (row_operation r) k now (CondPhase.AtWords r) → sleeps_at (row_access t cell counter r) (met_word r w k) ≡ false
        → Knows (row_operation r) (counter_after t cell counter r k) (object_of (fields_of (cell_after t cell counter r w))) (after_words p (resume_of t r (answer_at (row_access t cell counter r) (met_word r w k))).row)
    knows_row cell counter k (Wait WaitRow.LoadCell) p going needs same quiet = grind (arith)
    knows_row cell counter k (Wait WaitRow.LoadCounter) p going needs same quiet = (refl, same)
    knows_row cell counter k (Wait (WaitRow.Release x)) p going needs known quiet = grind (arith)
    knows_row cell counter k (Wait (WaitRow.Wake x)) p going needs known quiet = known
    knows_row cell counter k (Wait (WaitRow.Sleep x)) p going needs known quiet = absurd (eqb-false (k % 2 ^ 32) x quiet (sym known.0))
    knows_row cell counter k (Signal SignalRow.LoadCell) p going needs same quiet = grind (arith)
    knows_row cell counter k (Signal SignalRow.LoadCounter) p going needs same quiet = grind (arith)
    knows_row cell counter k (Signal SignalRow.Count) p going needs same quiet = (owns_then same needs, same)
    knows_row cell counter k (Signal SignalRow.Wake) p going needs did quiet = ((λ x. cc x), did)
    knows_row cell counter k (Broadcast BroadcastRow.LoadCell) p going needs same quiet = grind (arith)
    knows_row cell counter k (Broadcast BroadcastRow.LoadCounter) p going needs same quiet = grind (arith)
    knows_row cell counter k (Broadcast (BroadcastRow.Count x)) p going needs same quiet = (owns_then same needs, same)
    knows_row cell counter k (Broadcast (BroadcastRow.SetWaiters x)) p going needs did quiet = (did.0, ap object_of (or_waiting w) ∙ did.1)
    knows_row cell counter k (Broadcast (BroadcastRow.Move x)) p going needs did quiet = ((λ e. cc e), did)
    knows_row cell counter k Awake p going needs known quiet = absurd going
    knows_row cell counter k (Ended x) p going needs known quiet = absurd going

  -- ---- in the machine
  module _ (c : CondCall) where
    -- of a state
    abbrev pub KnowsIn : State → CondPhase → Type 0
    KnowsIn s f = Knows (acts_as c) (s.words (its_counter s c)) (seen s (its_mutex s c)) f

    -- before its release it has decided nothing
    undecided : (op : Operation) (k x : ℕ) (now : Object) (f : CondPhase) → IsBefore x f → Knows op k now f → (x ≡ k % 2 ^ 32) × (now ≡ o)
    undecided op k x now f before knows = grind (arith)

    abbrev Keeps : State → CondWhole → Type 0
    Keeps s p = sleeps_at (cond_access p) (s.words (place_met s.layout t (cond_access p))) ≡ false → KnowsIn s p.phase → KnowsIn (cond_after s t c p) (cond_onto s t p).phase

    keeps_on : (s : State) (p : CondWhole) → Kept s → 1 ≤ t → t ≤ s.layout.threads → (s.threads t).stage ≡ AtCondition c p → Keeps s p
    keeps_on s p inv pos known is = by_access s t c inv pos known (Keeps s) row nearer p is
      where
        row : (r : CondRow) → FitsAt s t (s.threads t).held c (cond_of s.layout t c (CondPhase.AtWords r)) → Stepping s t (cond_step s t c (cond_of s.layout t c (CondPhase.AtWords r))) → Keeps s (cond_of s.layout t c (CondPhase.AtWords r))
        row r fits step quiet knows =
            subst (λ (g : CondOnward). KnowsIn (cond_after s t c (cond_of s.layout t c (CondPhase.AtWords r))) g.phase) (sym (words_lead s t c r inv pos known fits))
            (subst (λ (z : Operation × ℕ × Object). Knows z.0 z.1 z.2 (after_words (cond_of s.layout t c (CondPhase.AtWords r)) to_row))
            (λ i. (fits.stands.of i, sym (counter_here s t c r inv pos known fits) i, sym (here s t c r inv pos known fits) i))
            (knows_row w pos (cell_at s t c) (counter_at s t c) k r (cond_of s.layout t c (CondPhase.AtWords r)) fits.stands.going fits.stands.needs
            (subst (λ (z : Operation × Object). Knows z.0 k z.1 (CondPhase.AtWords r)) (λ i. (sym fits.stands.of i, before s t c r inv pos known fits i)) knows)
            (ap (sleeps_at (row_access t (cell_at s t c) (counter_at s t c) r)) (sym (met_is s t c r inv pos known fits)) ∙ quiet)))
          where
            w : ℕ
            w = s.words (its_cell s c)

            k : ℕ
            k = s.words (its_counter s c)

            to_row : CondRow
            to_row = (resume_of t r (answer_at (row_access t (cell_at s t c) (counter_at s t c) r) (met_word r w k))).row

        nearer : (x : ℕ) (q : CondWhole) → Nears s t c x q → Keeps s q
        nearer x q near quiet knows = near.leads (KnowsIn (cond_after s t c q)) (λ u. still) still
          where
            still : (x ≡ (cond_after s t c q).words (its_counter s c) % 2 ^ 32) × (seen (cond_after s t c q) (its_mutex s c) ≡ o)
            still =
                let was = undecided (acts_as c) _ x _ q.phase near.before knows in
                let pointless = ap reply_at near.pointless in (
                  was.0 ∙ ap (λ (n : ℕ). n % 2 ^ 32) (sym (own_counter s t (cond_step s t c q) inv pos known near.step.inside near.plain near.mine pointless (condition_of c))),
                  own_seen s t (cond_step s t c q) inv pos known near.step.inside near.plain near.mine pointless (its_mutex s c) ∙ was.1,
                )

    -- it sleeps only where it is a wait by the owner of a consistent mutex
    sleeps_known : (s : State) (p : CondWhole) → Kept s → 1 ≤ t → t ≤ s.layout.threads → (s.threads t).stage ≡ AtCondition c p → sleeps_at (cond_access p) (s.words (place_met s.layout t (cond_access p))) ≡ true → KnowsIn s p.phase → (acts_as c ≡ Operation.Wait) × IsIts
    sleeps_known s p inv pos known is on knows = grind (arith)

    -- where it sleeps
    abbrev pub Waits : State → Type 0
    Waits z = IsWaiting o t (acts_as c) (Some (condition_of c)) z

    now_waits : (s : State) (p : CondWhole) → Kept s → Queued s → 1 ≤ t → t ≤ s.layout.threads → (s.threads t).stage ≡ AtCondition c p → is_asleep s t ≡ false → sleeps_at (cond_access p) (s.words (place_met s.layout t (cond_access p))) ≡ true → KnowsIn s p.phase → Waits (cond_after s t c p)
    now_waits s p inv queued pos known is awake on knows =
        let why = sleeps_known s p inv pos known is on knows in
        record { waits = why.0; owns = why.1; there = (condition_of c, refl, stands (turn s t (cond_step s t c p) step pos known is queued awake t)) }
      where
        step : Stepping s t (cond_step s t c p)
        step = cond_stepping s t c p inv pos known is

        place : place_met s.layout t (cond_access p) ≡ its_counter s c
        place = cond_sleeps s t c p inv pos known is on

        stands : Turned s.layout t t (cond_access p) (place_met s.layout t (cond_access p)) (s.words (place_met s.layout t (cond_access p))) s.queues (cond_after s t c p).queues → stands_in t ((cond_after s t c p).queues (its_counter s c)) ≡ true
        stands h = grind (arith)

    -- a call that is awake, whatever steps it has made
    pub comes_at : (n : ℕ) (s : State) (p : CondWhole) → Kept s → Queued s → 1 ≤ t → t ≤ s.layout.threads → (s.threads t).stage ≡ AtCondition c p → is_asleep s t ≡ false → KnowsIn s p.phase
        → ComesBack t held (its_mutex s c) (acts_as c) o Waits s n
    comes_at zero s p inv queued pos known is awake knows = at_first t held (its_mutex s c) (acts_as c) o Waits s (cond_step s t c p) (cond_stepping s t c p inv pos known is) is awake
    comes_at (suc n) s p inv queued pos known is awake knows =
        takes_step t held (its_mutex s c) (acts_as c) o Waits s (cond_step s t c p) step queued pos known is awake (its_mutex s c) _ _ _ _ (returned_at (cond_onto s t p).phase) (cond_goes s t c p inv pos known is) (cond_ends c p (cond_onto s t p)) n
        (λ on. now_waits s p inv queued pos known is awake on knows)
        (λ x quiet e. returns x (cond_onto s t p).phase e (keeps_on s p inv pos known is quiet knows))
        (λ quiet calling. on quiet calling (comes_at n))
      where
        step : Stepping s t (cond_step s t c p)
        step = cond_stepping s t c p inv pos known is

        returns : (x : Reply) (f : CondPhase) → returned_at f ≡ Some x → KnowsIn (cond_after s t c p) f → (x ≢ XRACED) × Does held o t (acts_as c) x (seen (cond_after s t c p) (its_mutex s c))
        returns x (CondPhase.Ended y) e h = subst (λ (z : Reply). (z ≢ XRACED) × Does held o t (acts_as c) z (seen (cond_after s t c p) (its_mutex s c))) (replied e) h
          where
            replied : Some y ≡ Some x → y ≡ x
            replied same = cc
        returns x (CondPhase.AtWords r) e h = absurd (cc e)
        returns x (CondPhase.Announcing y) e h = absurd (cc e)
        returns x (CondPhase.Unlinking u y) e h = absurd (cc e)
        returns x (CondPhase.Locking w) e h = absurd (cc e)

        on : sleeps_at (cond_access p) (s.words (place_met s.layout t (cond_access p))) ≡ false → is_calling (stage_at c p (cond_onto s t p).phase) ≡ true
            → ((z : State) (q : CondWhole) → Kept z → Queued z → 1 ≤ t → t ≤ z.layout.threads → (z.threads t).stage ≡ AtCondition c q → is_asleep z t ≡ false → KnowsIn z q.phase → ComesBack t held (its_mutex z c) (acts_as c) o Waits z n)
            → ComesBack t held (its_mutex s c) (acts_as c) o Waits (cond_after s t c p) n
        on quiet calling further = go (cond_onto s t p).phase refl calling (keeps_on s p inv pos known is quiet knows)
          where
            there : (f : CondPhase) → (cond_onto s t p).phase ≡ f → ((cond_after s t c p).threads t).stage ≡ stage_at c p f
            there f is_f = mine s t (cond_step s t c p) step pos known is queued awake ∙ ap (stage_at c p) is_f

            out : is_asleep (cond_after s t c p) t ≡ false
            out = out_awake (cond_after s t c p) t (still_out s t (cond_step s t c p) step pos known is queued awake quiet)

            queued_then : Queued (cond_after s t c p)
            queued_then = went_queued s t (cond_step s t c p) step pos known is queued awake

            go : (f : CondPhase) → (cond_onto s t p).phase ≡ f → is_calling (stage_at c p f) ≡ true → KnowsIn (cond_after s t c p) f → ComesBack t held (its_mutex s c) (acts_as c) o Waits (cond_after s t c p) n
            go (CondPhase.AtWords r) is_f calling h = further (cond_after s t c p) (record p { phase = CondPhase.AtWords r }) step.kept queued_then pos known (there (CondPhase.AtWords r) is_f) out h
            go (CondPhase.Announcing x) is_f calling h = further (cond_after s t c p) (record p { phase = CondPhase.Announcing x }) step.kept queued_then pos known (there (CondPhase.Announcing x) is_f) out h
            go (CondPhase.Unlinking u x) is_f calling h = further (cond_after s t c p) (record p { phase = CondPhase.Unlinking u x }) step.kept queued_then pos known (there (CondPhase.Unlinking u x) is_f) out h
            go (CondPhase.Locking w) is_f calling h = absurd h
            go (CondPhase.Ended x) is_f calling h = absurd (cc calling)
