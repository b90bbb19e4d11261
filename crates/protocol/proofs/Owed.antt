-- Threads that run alone.
use Rattle.std.proofs.Common.{◌≡◌, ◌⊎◌, ⊎_elim, inl, inr, ℕ, zero, suc, ◌<◌, ◌≤◌, Bool, true, false, Option, Some, None, refl, sym, ap, ◌∙◌, subst, arith}
use Rattle.protocol.proofs.Vocabulary.{Object, cell_place, counter_place, sleeps_at, Reply, Step, Stage, State, stands_in, sleepers, is_asleep, happens, seen, IsUnowned, nat_tests}
use Rattle.protocol.proofs.Vocabulary.{place_in}
use Rattle.protocol.specs.Machine.{has_thread, is_busy, is_dying}
use Rattle.protocol.specs.Sleepers.{Sleeps, alone, Owes, SomebodyOwes, IsAtRest, EndsAlone}
use Rattle.protocol.proofs.Objects.{owners}
use Rattle.protocol.proofs.Kept.{Kept}
use Rattle.protocol.proofs.Steps.{Tells, Transition, after, place_of, met}
use Rattle.protocol.proofs.Stepping.{AnswersAs, left_of, Continues, Settles, Wakes_there, Answers_now, Found_free}
use Rattle.protocol.proofs.Events.{IsWorking}
use Rattle.protocol.proofs.Working.{Goes, awake_goes}
use Rattle.protocol.proofs.Places.{counter_is_no_cell}
use Rattle.protocol.proofs.Queues.{Turned, As_before, Falls, Woken, Moved}
use Rattle.protocol.proofs.Queued.{Answering, Queued, out_awake, mine, turn, carries, stood, now_asleep, this_answers, woken_one, went_queued}
use Rattle.protocol.proofs.Cases.{by_same, at_or_else}

-- whoever answers for a mutex is in a call, or dead
answers_work : (s : State) (m t : ℕ) (g : Stage) → AnswersAs s.layout s.words m t g → IsWorking g
answers_work s m t g a = grind (arith)

-- ---- whoever answers for a free mutex takes it, or wakes one

-- what holds k steps later holds one more step later
later : (s s' : State) (t m n : ℕ) → (happens s (Step t)).state ≡ s' → ((u : ℕ) → Sleeps s' u m → Sleeps s u m) → Owes s' t m n → Owes s t m (suc n)
later s s' t m n to stood owes = (
  suc owes.0,
  (let k = owes.1 in omega arith),
  ⊎_elim
      (λ own. inl (subst (λ (z : State). (seen (alone z t owes.0) m).owner ≡ Some t) (sym to) own))
      (λ gone. inr (gone.0, stood gone.0 gone.1, subst (λ (z : State). stands_in gone.0 (sleepers (alone z t owes.0) m) ≡ false) (sym to) gone.2))
      owes.2,
)

-- one step is enough
at_once : (s s' : State) (t m n : ℕ) → (happens s (Step t)).state ≡ s' → ((seen s' m).owner ≡ Some t) ⊎ ((u : ℕ) × Sleeps s u m × (stands_in u (sleepers s' m) ≡ false)) → Owes s t m (suc n)
at_once s s' t m n to done = (
  1,
  omega arith,
  ⊎_elim
      (λ own. inl (subst (λ (z : State). (seen z m).owner ≡ Some t) (sym to) own))
      (λ gone. inr (gone.0, gone.1, subst (λ (z : State). stands_in gone.0 (sleepers z m) ≡ false) (sym to) gone.2))
      done,
)

-- one step of thread t, which answers for mutex m, where thread u sleeps on that
module _ (s : State) (t m u : ℕ) (inv : Kept s) (queued : Queued s) (a : Answering s m t) (inside : m < s.layout.mutexes) (none : IsUnowned s m) (stands : Sleeps s u m) where
  awake : is_asleep s t ≡ false
  awake = out_awake s t a.awake

  pub goes : Goes s t
  goes = awake_goes s t inv a.first a.last awake (answers_work s m t (s.threads t).stage a.answers)

  abbrev v : Transition
  v = goes.v

  abbrev s' : State
  s' = after s t v

  -- an owner that the step gives is this thread
  owner_is : ((seen s' m).owner ≡ None) ⊎ ((seen s' m).owner ≡ Some t)
  owner_is =
      at_or_else (λ (k : ℕ). IsUnowned s k → ((seen s' k).owner ≡ None) ⊎ ((seen s' k).owner ≡ Some t)) v.mutex m (given (seen s' v.mutex).owner refl)
      (λ other free. inl (ap (λ (z : Object). z.owner) (goes.step.far m other) ∙ free)) none
    where
      given : (o : Option ℕ) → (seen s' v.mutex).owner ≡ o → (seen s v.mutex).owner ≡ None → (o ≡ None) ⊎ (o ≡ Some t)
      given None own free = inl refl
      given (Some x) own free = inr (ap Some (who v.point goes.step.tells))
        where
          who : (y : Option Reply) → Tells t (seen s v.mutex) v.operation y (seen s' v.mutex) → x ≡ t
          who None same = absurd (cc (sym free ∙ (sym (ap (λ (z : Object). z.owner) same) ∙ own)))
          who (Some y) permits = ⊎_elim (λ before. absurd (cc (sym free ∙ before))) (λ this. this) (owners (seen s v.mutex) (seen s' v.mutex) t x v.operation y permits own)

  abbrev Done : Type 0
  Done = ((seen s' m).owner ≡ Some t) ⊎ ((x : ℕ) × Sleeps s x m × (stands_in x (sleepers s' m) ≡ false))

  -- it takes the mutex now, or wakes one, or goes on to do so with fewer steps left
  pub record StillOwes : Type 0 where
    pub answers : Answering s' m t
    pub free : IsUnowned s' m
    pub slept : (x : ℕ) → Sleeps s' x m → Sleeps s x m
    pub still : Sleeps s' u m
    pub fewer : left_of s' (s'.threads t).stage < left_of s (s.threads t).stage

  pub settles : Done ⊎ StillOwes
  settles = ⊎_elim (λ free. ⊎_elim (λ waits. go free (goes.step.settles m inside free waits)) (λ nobody. inl (inr (u, stands, ap (stands_in u) nobody.0))) (goes.step.waiters m inside (queued.bits m u inside stands))) (λ own. inl (inl own)) owner_is
    where
      on : IsUnowned s' m → Continues s t v m → Done ⊎ StillOwes
      on free c = pick (turn s t v goes.step a.first a.last goes.is queued awake u)
        where
          pick : Turned s.layout u t v.access (place_of s t v) (met s t v) s.queues s'.queues → Done ⊎ StillOwes
          pick (As_before quiet unwoken unmoved same) = inr record {
            answers = this_answers s t v goes.step a.first a.last goes.is queued awake m c;
            free = free;
            slept = λ x there. ⊎_elim (λ old. old.1) (λ new. ⊎_elim (λ falls. absurd (cc (c.0, falls.1))) (λ moved. absurd (moved.owned (subst (IsUnowned s) (let place = moved.to in omega (arith, place)) none))) new) (stood s t v goes.step a.first a.last goes.is queued awake x (cell_place s.layout m) there);
            still = same (cell_place s.layout m) ∙ stands;
            fewer = subst (λ (z : Stage × Stage). left_of s' z.0 < left_of s z.1) (λ i. (sym (mine s t v goes.step a.first a.last goes.is queued awake) i, sym goes.is i)) (goes.step.fewer c.0);
          }
          pick (Falls me on nobody moves there elsewhere) = absurd (cc (c.0, on))
          pick (Woken quiet woken unmoved before gone) = inl (inr (u, stands, gone (cell_place s.layout m)))
          pick (Moved from e n to k is quiet unwoken moved before there elsewhere) =
              by_same (cell_place s.layout m) (place_in s.layout t to)
              (λ here.
              let carried = carries s t v goes.step a.first a.last goes.is queued awake u (cell_place s.layout m) from e n to k is before here in
              absurd (counter_is_no_cell s.layout m carried.from inside (sym (queued.one u (cell_place s.layout m) (counter_place s.layout carried.from) stands carried.left))))
              (λ apart. inl (inr (u, stands, elsewhere (cell_place s.layout m) apart)))

      go : IsUnowned s' m → Settles s t v m → Done ⊎ StillOwes
      go free (Wakes_there n some wakes) = let x = woken_one s t v goes.step a.first a.last goes.is queued awake m u n inside some wakes stands in inl (inr (x.0, x.1, x.2 (cell_place s.layout m)))
      go free (Answers_now c) = on free c
      go free (Found_free before more) = on free (more (subst (AnswersAs s.layout s.words m t) goes.is a.answers))

owes : (n : ℕ) (s : State) (t m u : ℕ) → Kept s → Queued s → Answering s m t → m < s.layout.mutexes → IsUnowned s m → Sleeps s u m → left_of s (s.threads t).stage ≤ n → Owes s t m n
owes zero s t m u inv queued a inside none stands few = let g = goes s t m u inv queued a inside none stands in absurd (let some = g.step.some in let left : left_of s (s.threads t).stage ≡ left_of s g.v.from = ap (left_of s) g.is in omega (arith, some, few, left))
owes (suc n) s t m u inv queued a inside none stands few =
    let g = goes s t m u inv queued a inside none stands in
    ⊎_elim
    (λ done. at_once s (after s t g.v) t m n g.to done)
    (λ on. later s (after s t g.v) t m n g.to on.slept
    (owes n (after s t g.v) t m u g.step.kept (went_queued s t g.v g.step a.first a.last g.is queued (awake s t m u inv queued a inside none stands)) on.answers inside on.free on.still (let less = on.fewer in omega (arith, less, few))))
    (settles s t m u inv queued a inside none stands)

-- a thread in a call is busy, and one that was killed is dying
works_awake : (s : State) (t : ℕ) → 1 ≤ t → t ≤ s.layout.threads → (g : Stage) → (s.threads t).stage ≡ g → IsWorking g → (is_busy s t ≡ true) ⊎ (is_dying s t ≡ true)
works_awake s t pos known g is working = grind (arith)

pub somebody_owes : (s : State) → Kept s → Queued s → SomebodyOwes s
somebody_owes s inv queued m u inside none stands =
    let old = queued.answered m u inside none stands in
    let a : Answering s m old.0 = old.1 in
    let g = goes s old.0 m u inv queued a inside none stands in
    let few : left_of s (s.threads old.0).stage ≤ 9000 = subst (λ (z : Stage). left_of s z ≤ 9000) (sym g.is) g.step.few in
    (old.0, (works_awake s old.0 a.first a.last (s.threads old.0).stage refl (answers_work s m old.0 (s.threads old.0).stage a.answers), a.awake), owes 9000 s old.0 m u inv queued a inside none stands few)

-- ---- whoever is awake comes to rest

abbrev Rests : State → ℕ → ℕ → Type 0
Rests s t n = (k : ℕ) × (k ≤ n) × IsAtRest (alone s t k) t

rests_later : (s s' : State) (t n : ℕ) → (happens s (Step t)).state ≡ s' → Rests s' t n → Rests s t (suc n)
rests_later s s' t n to rests = (suc rests.0, (let k = rests.1 in omega arith), subst (λ (z : State). IsAtRest (alone z t rests.0) t) (sym to) rests.2)

rests_now : (s : State) (t n : ℕ) → IsAtRest s t → Rests s t n
rests_now s t n h = (0, omega arith, h)

-- a thread rests, or sleeps, or goes on
rests_or : (n : ℕ) (s : State) (t : ℕ) → (is_asleep s t ≡ false → IsWorking (s.threads t).stage → Rests s t n) → Rests s t n
rests_or n s t on = grind (arith)

-- one step, and then those that are left
one_more : (n : ℕ) (s : State) (t : ℕ) (queued : Queued s) (pos : 1 ≤ t) (known : t ≤ s.layout.threads) (awake : is_asleep s t ≡ false) (g : Goes s t) → left_of s (s.threads t).stage ≤ suc n
    → (left_of (after s t g.v) ((after s t g.v).threads t).stage ≤ n → Rests (after s t g.v) t n) → Rests s t (suc n)
one_more n s t queued pos known awake g few further = rests_later s (after s t g.v) t n g.to (go (sleeps_at g.v.access (met s t g.v)) refl)
  where
    go : (b : Bool) → sleeps_at g.v.access (met s t g.v) ≡ b → Rests (after s t g.v) t n
    go true on = rests_now (after s t g.v) t n (inr (now_asleep s t g.v g.step pos known g.is queued awake on))
    go false quiet =
        further
        (let less = g.step.fewer quiet in
        let before : left_of s (s.threads t).stage ≡ left_of s g.v.from = ap (left_of s) g.is in
        let left_then : left_of (after s t g.v) ((after s t g.v).threads t).stage ≡ left_of (after s t g.v) g.v.next = ap (left_of (after s t g.v)) (mine s t g.v g.step pos known g.is queued awake) in
        omega (arith, less, few, before, left_then))

ends : (n : ℕ) (s : State) (t : ℕ) → Kept s → Queued s → 1 ≤ t → t ≤ s.layout.threads → left_of s (s.threads t).stage ≤ n → Rests s t n
ends zero s t inv queued pos known few =
    rests_or zero s t (λ awake working.
    let g = awake_goes s t inv pos known awake working in
    absurd (let some = g.step.some in let before : left_of s (s.threads t).stage ≡ left_of s g.v.from = ap (left_of s) g.is in omega (arith, some, few, before)))
ends (suc n) s t inv queued pos known few =
    rests_or (suc n) s t (λ awake working.
    let g = awake_goes s t inv pos known awake working in
    one_more n s t queued pos known awake g few (λ less. ends n (after s t g.v) t g.step.kept (went_queued s t g.v g.step pos known g.is queued awake) pos known less))

pub ends_alone : (s : State) → Kept s → Queued s → (t : ℕ) → EndsAlone s t
ends_alone s inv queued t awake = ends 9000 s t inv queued pos last few
  where
    there : has_thread s t ≡ true
    there = grind (arith)

    pos : 1 ≤ t
    pos = let known = there in grind (arith, nat_tests)

    last : t ≤ s.layout.threads
    last = let known = there in grind (arith, nat_tests)

    few : left_of s (s.threads t).stage ≤ 9000
    few = go (s.threads t).stage refl
      where
        works : IsWorking (s.threads t).stage → left_of s (s.threads t).stage ≤ 9000
        works working = let g = awake_goes s t inv pos last (out_awake s t awake.1) working in subst (λ (z : Stage). left_of s z ≤ 9000) (sym g.is) g.step.few

        go : (g : Stage) → (s.threads t).stage ≡ g → left_of s (s.threads t).stage ≤ 9000
        go g is = grind (arith)
