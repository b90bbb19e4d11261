-- At which moments of its calls a thread may sleep, as the trace tells it.
use Rattle.std.proofs.Common.{◌≡◌, ◌⊎◌, inl, inr, ℕ, ◌==◌, Bool, true, false, Option, Some, None, Ok, Err, List, [], ◌∷◌, ◌++◌, map, refl, sym, ap, ◌∙◌, subst, eq-eqb}
use Rattle.std.specs.Prelude.{if◌then◌else◌}
use Rattle.lockword.specs.declared.reply.Reply.{Reply}
use Rattle.lockword.specs.declared.reply.Reply.TheVariants.{OK, XHELD}
use Rattle.posixmutex.specs.declared.point.Operation.{Operation}
use Rattle.posixmutex.specs.declared.point.Decision.{Decision}
use Rattle.memorymap.specs.Layouts.{Layout', IsLayout}
use Rattle.facts.specs.declared.fact.Queue.{Queue}
use Rattle.facts.specs.declared.fact.Queue.TheVariants.{Condition, Mutex}
use Rattle.facts.specs.declared.fact.Begun.{Begun}
use Rattle.facts.specs.declared.fact.Fact.{Fact}
use Rattle.facts.specs.declared.fact.Fact.TheVariants.{Point, Sleep, Wake, Move, Return, Kill, Renew}
use Rattle.facts.specs.Facts.{thread_of}
use Rattle.condvar.specs.declared.op.Op.{Op}
use Rattle.stepprograms.specs.declared.access.Answer.TheVariants.{Trimmed}
use Rattle.mutex.specs.Whole.{whole_led}
use Rattle.condvar.specs.Ops.{mutex_of}
use Rattle.protocol.specs.declared.event.Event.{Event}
use Rattle.protocol.specs.declared.note.Note.{Note}
use Rattle.protocol.specs.declared.note.Note.TheVariants.{Nothing, Began, Stepped, Killed, Left, Expired, Walked, Renewed, Reinited}
use Rattle.protocol.specs.declared.thread.Stage.TheVariants.{Idle}
use Rattle.protocol.specs.Notes.{facts_of, point_facts, sleep_facts, moves_to, return_facts, death_facts, reap_facts}
use Rattle.protocol.specs.Machine.{State, After, start, stands_in, begun, reinited, decision, is_asleep, happens, run, notes, led}
use Rattle.protocol.specs.Headline.{facts_among}
use Rattle.protocol.specs.Sleepers.{IsAmong}
use Rattle.protocol.specs.Applies.{Told, AtRest, InCall, told_next, told_after, last_told, IsInNoQueue}
use Rattle.protocol.specs.Wakings.{asleep_next, asleep_after, told_asleep, TellsTurns}
use Rattle.protocol.specs.Ops.{queue_place}
use Rattle.protocol.proofs.Events.{begins_at, by_event, by_stage}
use Rattle.protocol.proofs.Stepping.{SleepsAs}
use Rattle.protocol.proofs.Queued.{in_none}
use Rattle.protocol.proofs.Sparing.{spare_is}
use Rattle.runs_judged.proofs.Turns.{ArePlaced}
use Rattle.runs_judged.proofs.Moments.{Moment, moment, queued_in_call, awake_told, resting_awake}
use Rattle.runs_judged.proofs.Facts.{among_left, among_right, OfStep, Is_point, Is_sleep, Is_wake, Is_move, Is_return, of_step, OfWalk, Is_death, Wakes_one, Is_reap, of_walk, told_append, asleep_append, told_push, asleep_push, run_push, notes_push}

-- ---- the parts of an access

placed_append : (t : ℕ) (o : Told) (w : Option Queue) (fs gs : List Fact) → ArePlaced t o w fs → ArePlaced t (told_after t o fs) (asleep_after t w fs) gs → ArePlaced t o w (fs ++ gs)
placed_append t o w [] gs h k = k
placed_append t o w (f ∷ fs) gs h k = (h.0, placed_append t (told_next t o f) (asleep_next t w f) fs gs h.1 k)

told_moves : (t m : ℕ) (o : Told) (us : List ℕ) → told_after t o (map (moves_to m) us) ≡ o
told_moves t m o [] = refl
told_moves t m o (u ∷ us) = told_moves t m o us

told_wakes : (t : ℕ) (o : Told) (us : List ℕ) → told_after t o (map Wake us) ≡ o
told_wakes t o [] = refl
told_wakes t o (u ∷ us) = told_wakes t o us

told_sleep : (t u : ℕ) (o : Told) (z : Option Queue) → told_after t o (sleep_facts u z) ≡ o
told_sleep t u o None = refl
told_sleep t u o (Some q) = refl

told_point : (t : ℕ) (o : Told) (p : Option Decision) → told_after t o (point_facts p) ≡ o
told_point t o None = refl
told_point t o (Some d) = refl

asleep_point : (t : ℕ) (w : Option Queue) (p : Option Decision) → asleep_after t w (point_facts p) ≡ w
asleep_point t w None = refl
asleep_point t w (Some d) = refl

asleep_return : (t u : ℕ) (w : Option Queue) (y : Option Reply) → asleep_after t w (return_facts u y) ≡ w
asleep_return t u w None = refl
asleep_return t u w (Some x) = refl

moves_placed : (t m : ℕ) (o : Told) (w : Option Queue) (us : List ℕ) → (IsAmong (Move t m) (map (moves_to m) us) → o ≡ InCall) → ArePlaced t o w (map (moves_to m) us)
moves_placed t m o w [] h = tt
moves_placed t m o w (u ∷ us) h = ((λ is. h (inl (ap (λ (v : ℕ). Move v m) is))), moves_placed t m o (asleep_next t w (Move u m)) us (λ k. h (inr k)))

wakes_placed : (t : ℕ) (o : Told) (w : Option Queue) (us : List ℕ) → (IsAmong (Wake t) (map Wake us) → o ≡ InCall) → ArePlaced t o w (map Wake us)
wakes_placed t o w [] h = tt
wakes_placed t o w (u ∷ us) h = ((λ is. h (inl (ap Wake is))), wakes_placed t o (asleep_next t w (Wake u)) us (λ k. h (inr k)))

sleep_placed : (t u : ℕ) (o : Told) (w : Option Queue) (z : Option Queue) → ((q : Queue) → IsAmong (Sleep t q) (sleep_facts u z) → o ≡ InCall) → ArePlaced t o w (sleep_facts u z)
sleep_placed t u o w None h = tt
sleep_placed t u o w (Some q) h = ((λ is. h q (inl (ap (λ (v : ℕ). Sleep v q) is))), tt)

point_placed : (t : ℕ) (o : Told) (w : Option Queue) (p : Option Decision) → ((d : Decision) → IsAmong (Point d) (point_facts p) → d.thread ≡ t → w ≡ None) → ArePlaced t o w (point_facts p)
point_placed t o w None h = tt
point_placed t o w (Some d) h = ((λ is. h d (inl refl) is), tt)

return_placed : (t u : ℕ) (o : Told) (w : Option Queue) (y : Option Reply) → ((x : Reply) → IsAmong (Return t x) (return_facts u y) → w ≡ None) → ArePlaced t o w (return_facts u y)
return_placed t u o w None h = tt
return_placed t u o w (Some x) h = ((λ is. h x (inl (ap (λ (v : ℕ). Return v x) is))), tt)

told_stepped : (t : ℕ) (o : Told) (u m : ℕ) (p : Option Decision) (z : Option Queue) (us vs : List ℕ) (y : Option Reply) → told_after t o (facts_of (Stepped u m p z us vs y)) ≡ told_after t o (return_facts u y)
told_stepped t o u m p z us vs y =
    told_append t o (point_facts p) (sleep_facts u z ++ (map Wake us ++ (map (moves_to m) vs ++ return_facts u y)))
    ∙ ap (λ (a : Told). told_after t a (sleep_facts u z ++ (map Wake us ++ (map (moves_to m) vs ++ return_facts u y)))) (told_point t o p)
    ∙ told_append t o (sleep_facts u z) (map Wake us ++ (map (moves_to m) vs ++ return_facts u y))
    ∙ ap (λ (a : Told). told_after t a (map Wake us ++ (map (moves_to m) vs ++ return_facts u y))) (told_sleep t u o z)
    ∙ told_append t o (map Wake us) (map (moves_to m) vs ++ return_facts u y)
    ∙ ap (λ (a : Told). told_after t a (map (moves_to m) vs ++ return_facts u y)) (told_wakes t o us)
    ∙ told_append t o (map (moves_to m) vs) (return_facts u y)
    ∙ ap (λ (a : Told). told_after t a (return_facts u y)) (told_moves t m o vs)

-- ---- the facts of a note

-- what the moment says of them
record Knows (t : ℕ) (o : Told) (w : Option Queue) (fs : List Fact) : Type 0 where
  sleeps : (q : Queue) → IsAmong (Sleep t q) fs → o ≡ InCall
  wakes : IsAmong (Wake t) fs → o ≡ InCall
  moves : (m : ℕ) → IsAmong (Move t m) fs → o ≡ InCall
  returns : (x : Reply) → IsAmong (Return t x) fs → asleep_after t w fs ≡ None

-- a point is recorded of a thread that was awake, but where its time limit came, as its wake is recorded before
abbrev TellsAwake : ℕ → Option Queue → Note → Type 0
TellsAwake t w (Expired u m) = Unit {0}
TellsAwake t w n = (d : Decision) → IsAmong (Point d) (facts_of n) → d.thread ≡ t → w ≡ None

module _ (t : ℕ) (o : Told) (w : Option Queue) where
  step_placed : (u m : ℕ) (p : Option Decision) (z : Option Queue) (us vs : List ℕ) (y : Option Reply) → Knows t o w (facts_of (Stepped u m p z us vs y)) → TellsAwake t w (Stepped u m p z us vs y) → ArePlaced t o w (facts_of (Stepped u m p z us vs y))
  step_placed u m p z us vs y k awake =
      placed_append t o w P (S ++ (W ++ (M ++ R))) (point_placed t o w p (λ d h. awake d (among_left (Point d) P (S ++ (W ++ (M ++ R))) h)))
      (from P o w (told_point t o p) (S ++ (W ++ (M ++ R)))
      (placed_append t o wp S (W ++ (M ++ R)) (sleep_placed t u o wp z (λ q h. k.sleeps q (among_right (Sleep t q) P (S ++ (W ++ (M ++ R))) (among_left (Sleep t q) S (W ++ (M ++ R)) h))))
      (from S o wp (told_sleep t u o z) (W ++ (M ++ R))
      (placed_append t o ws W (M ++ R) (wakes_placed t o ws us (λ h. k.wakes (among_right (Wake t) P (S ++ (W ++ (M ++ R))) (among_right (Wake t) S (W ++ (M ++ R)) (among_left (Wake t) W (M ++ R) h)))))
      (from W o ws (told_wakes t o us) (M ++ R)
      (placed_append t o ww M R (moves_placed t m o ww vs (λ h. k.moves m (among_right (Move t m) P (S ++ (W ++ (M ++ R))) (among_right (Move t m) S (W ++ (M ++ R)) (among_right (Move t m) W (M ++ R) (among_left (Move t m) M R h))))))
      (from M o ww (told_moves t m o vs) R
      (return_placed t u o wm y (λ x h. sym (last x) ∙ k.returns x (among_right (Return t x) P (S ++ (W ++ (M ++ R))) (among_right (Return t x) S (W ++ (M ++ R)) (among_right (Return t x) W (M ++ R) (among_right (Return t x) M R h)))))))))))))
    where
      P : List Fact
      P = point_facts p

      S : List Fact
      S = sleep_facts u z

      W : List Fact
      W = map Wake us

      M : List Fact
      M = map (moves_to m) vs

      R : List Fact
      R = return_facts u y

      wp : Option Queue
      wp = asleep_after t w P

      ws : Option Queue
      ws = asleep_after t wp S

      ww : Option Queue
      ww = asleep_after t ws W

      wm : Option Queue
      wm = asleep_after t ww M

      from : (fs : List Fact) (a : Told) (b : Option Queue) → told_after t a fs ≡ a → (gs : List Fact) → ArePlaced t a (asleep_after t b fs) gs → ArePlaced t (told_after t a fs) (asleep_after t b fs) gs
      from fs a b e gs h = subst (λ (c : Told). ArePlaced t c (asleep_after t b fs) gs) (sym e) h

      last : (x : Reply) → asleep_after t w (P ++ (S ++ (W ++ (M ++ R)))) ≡ wm
      last x = asleep_append t w P (S ++ (W ++ (M ++ R))) ∙ asleep_append t wp S (W ++ (M ++ R)) ∙ asleep_append t ws W (M ++ R) ∙ asleep_append t ww M R ∙ asleep_return t u wm y

  walk_placed : (u : ℕ) (d : Option ℕ) (us : List ℕ) (b : Bool) → (IsAmong (Wake t) (facts_of (Walked u d us b)) → o ≡ InCall) → ArePlaced t o w (facts_of (Walked u d us b))
  walk_placed u d us b h = at_death d (λ k. h (among_right (Wake t) (death_facts u d) (map Wake us ++ reap_facts u b) (among_left (Wake t) (map Wake us) (reap_facts u b) k)))
    where
      at_reap : (c : Bool) (a : Told) (v : Option Queue) → ArePlaced t a v (reap_facts u c)
      at_reap true a v = (tt, tt)
      at_reap false a v = tt

      wakes : (IsAmong (Wake t) (map Wake us) → o ≡ InCall) → ArePlaced t o w (map Wake us ++ reap_facts u b)
      wakes k = placed_append t o w (map Wake us) (reap_facts u b) (wakes_placed t o w us k) (at_reap b _ _)

      at_death : (e : Option ℕ) → (IsAmong (Wake t) (map Wake us) → o ≡ InCall) → ArePlaced t o w (death_facts u e ++ (map Wake us ++ reap_facts u b))
      at_death None k = wakes k
      at_death (Some m) k = (tt, wakes k)

  placed_note : (n : Note) → Knows t o w (facts_of n) → TellsAwake t w n → ArePlaced t o w (facts_of n)
  placed_note Nothing k awake = tt
  placed_note (Began u c None) k awake = (tt, tt)
  placed_note (Began u c (Some x)) k awake = (tt, ((λ is. awake _ (inr (inl refl)) is), ((λ is. k.returns x (inr (inr (inl (ap (λ (v : ℕ). Return v x) is))))), tt)))
  placed_note (Killed u) k awake = (tt, tt)
  placed_note (Left u) k awake = wakes_placed t o w (u ∷ []) k.wakes
  placed_note (Expired u (Condition c)) k awake = wakes_placed t o w (u ∷ []) k.wakes
  placed_note (Expired u (Mutex m)) k awake = ((λ is. k.wakes (inl (ap Wake is))), ((λ is. ap (λ (b : Bool). if b then None else w) (eq-eqb u t is)), tt))
  placed_note (Renewed u) k awake = (tt, tt)
  placed_note (Reinited u j) k awake = (tt, ((λ is. awake _ (inr (inl refl)) is), ((λ is. k.returns OK (inr (inr (inl (ap (λ (v : ℕ). Return v OK) is))))), tt)))
  placed_note (Walked u d us b) k awake = walk_placed u d us b k.wakes
  placed_note (Stepped u m p z us vs y) k awake = step_placed u m p z us vs y k awake

-- ---- what the moment says

-- an access that tells of a sleep of thread t leaves it in its call; so it was in one
slept_in_call : (t : ℕ) (o : Told) (n : Note) (q : Queue) → IsAmong (Sleep t q) (facts_of n) → told_after t o (facts_of n) ≡ InCall → o ≡ InCall
slept_in_call t o Nothing q h e = absurd h
slept_in_call t o (Began u c None) q (inl f) e = absurd cc
slept_in_call t o (Began u c None) q (inr h) e = absurd h
slept_in_call t o (Began u c (Some x)) q (inl f) e = absurd cc
slept_in_call t o (Began u c (Some x)) q (inr (inl f)) e = absurd cc
slept_in_call t o (Began u c (Some x)) q (inr (inr (inl f))) e = absurd cc
slept_in_call t o (Began u c (Some x)) q (inr (inr (inr h))) e = absurd h
slept_in_call t o (Killed u) q (inl f) e = absurd cc
slept_in_call t o (Killed u) q (inr h) e = absurd h
slept_in_call t o (Left u) q (inl f) e = absurd cc
slept_in_call t o (Left u) q (inr h) e = absurd h
slept_in_call t o (Expired u (Mutex m)) q (inl f) e = absurd cc
slept_in_call t o (Expired u (Mutex m)) q (inr (inl f)) e = absurd cc
slept_in_call t o (Expired u (Mutex m)) q (inr (inr h)) e = absurd h
slept_in_call t o (Expired u (Condition c)) q (inl f) e = absurd cc
slept_in_call t o (Expired u (Condition c)) q (inr h) e = absurd h
slept_in_call t o (Renewed u) q (inl f) e = absurd cc
slept_in_call t o (Renewed u) q (inr h) e = absurd h
slept_in_call t o (Reinited u j) q (inl f) e = absurd cc
slept_in_call t o (Reinited u j) q (inr (inl f)) e = absurd cc
slept_in_call t o (Reinited u j) q (inr (inr (inl f))) e = absurd cc
slept_in_call t o (Reinited u j) q (inr (inr (inr h))) e = absurd h
slept_in_call t o (Walked u d us b) q h e = never (of_walk u d us b (Sleep t q) h)
  where
    never : OfWalk u (Sleep t q) → o ≡ InCall
    never (Is_death m f) = absurd cc
    never (Wakes_one v f) = absurd cc
    never (Is_reap f) = absurd cc
slept_in_call t o (Stepped u m p z us vs y) q h e = go y (sym (told_stepped t o u m p z us vs y) ∙ e)
  where
    go : (r : Option Reply) → told_after t o (return_facts u r) ≡ InCall → o ≡ InCall
    go None f = f
    go (Some x) f = pick (u == t) f
      where
        pick : (b : Bool) → (if b then AtRest else o) ≡ InCall → o ≡ InCall
        pick true g = absurd cc
        pick false g = g

-- whose return is recorded is at rest after it
returned_rests : (t : ℕ) (o : Told) (n : Note) (x : Reply) → IsAmong (Return t x) (facts_of n) → told_after t o (facts_of n) ≡ AtRest
returned_rests t o Nothing x h = absurd h
returned_rests t o (Began u c None) x (inl f) = absurd cc
returned_rests t o (Began u c None) x (inr h) = absurd h
returned_rests t o (Began u c (Some r)) x (inl f) = absurd cc
returned_rests t o (Began u c (Some r)) x (inr (inl f)) = absurd cc
returned_rests t o (Began u c (Some r)) x (inr (inr (inl f))) = ap (λ (b : Bool). if b then AtRest else if u == t then InCall else o) (eq-eqb u t (ap thread_of f))
returned_rests t o (Began u c (Some r)) x (inr (inr (inr h))) = absurd h
returned_rests t o (Killed u) x (inl f) = absurd cc
returned_rests t o (Killed u) x (inr h) = absurd h
returned_rests t o (Left u) x (inl f) = absurd cc
returned_rests t o (Left u) x (inr h) = absurd h
returned_rests t o (Expired u (Mutex m)) x (inl f) = absurd cc
returned_rests t o (Expired u (Mutex m)) x (inr (inl f)) = absurd cc
returned_rests t o (Expired u (Mutex m)) x (inr (inr h)) = absurd h
returned_rests t o (Expired u (Condition c)) x (inl f) = absurd cc
returned_rests t o (Expired u (Condition c)) x (inr h) = absurd h
returned_rests t o (Renewed u) x (inl f) = absurd cc
returned_rests t o (Renewed u) x (inr h) = absurd h
returned_rests t o (Reinited u j) x (inl f) = absurd cc
returned_rests t o (Reinited u j) x (inr (inl f)) = absurd cc
returned_rests t o (Reinited u j) x (inr (inr (inl f))) = ap (λ (b : Bool). if b then AtRest else if u == t then InCall else o) (eq-eqb u t (ap thread_of f))
returned_rests t o (Reinited u j) x (inr (inr (inr h))) = absurd h
returned_rests t o (Walked u d us b) x h = never (of_walk u d us b (Return t x) h)
  where
    never : OfWalk u (Return t x) → told_after t o (facts_of (Walked u d us b)) ≡ AtRest
    never (Is_death m f) = absurd cc
    never (Wakes_one v f) = absurd cc
    never (Is_reap f) = absurd cc
returned_rests t o (Stepped u m p z us vs y) x h = told_stepped t o u m p z us vs y ∙ go (of_step u m p z us vs y (Return t x) h)
  where
    go : OfStep u m p z us vs y (Return t x) → told_after t o (return_facts u y) ≡ AtRest
    go (Is_return r is f) = ap (λ (k : Option Reply). told_after t o (return_facts u k)) is ∙ ap (λ (b : Bool). if b then AtRest else o) (eq-eqb u t (ap thread_of f))
    go (Is_point d is f) = absurd cc
    go (Is_sleep q f) = absurd cc
    go (Is_wake v f) = absurd cc
    go (Is_move v f) = absurd cc

-- a point is recorded of the thread whose event it is, which is awake, but where its time limit comes
module _ (l : Layout') (s : State) (ns : List Note) (m : Moment l s ns) (t : ℕ) where
  abbrev PointsTold : Note → Type 0
  PointsTold n = TellsAwake t (told_asleep t ns) n

  abbrev PointsAwake : After → Type 0
  PointsAwake a = PointsTold a.note

  abbrev awake_now : (u : ℕ) → IsInNoQueue s u → u ≡ t → told_asleep t ns ≡ None
  awake_now u out is = awake_told l s ns m t (subst (IsInNoQueue s) is out)

  idle_out : (u : ℕ) → (s.threads u).stage ≡ Idle → IsInNoQueue s u
  idle_out u idle key = go (stands_in u (s.queues key)) refl
    where
      go : (b : Bool) → stands_in u (s.queues key) ≡ b → b ≡ false
      go false e = refl
      go true e = absurd (subst (SleepsAs s.layout key) idle (m.queued.sleeps key u e).2)

  refused_awake : (u : ℕ) (c : Begun) (x : Reply) → IsInNoQueue s u → PointsTold (Began u c (Some x))
  refused_awake u c x out d (inl f) is = absurd cc
  refused_awake u c x out d (inr (inl f)) is = awake_now u out (ap thread_of f ∙ is)
  refused_awake u c x out d (inr (inr (inl f))) is = absurd cc
  refused_awake u c x out d (inr (inr (inr h))) is = absurd h

  started_awake : (u : ℕ) (c : Begun) → PointsTold (Began u c None)
  started_awake u c d (inl f) is = absurd cc
  started_awake u c d (inr h) is = absurd h

  begun_awake : (u : ℕ) (o : Op) → (s.threads u).stage ≡ Idle → (b : Bool) → PointsAwake (begun s u o (if b then Err XHELD else Ok (begins_at s.layout u o)))
  begun_awake u o idle true = refused_awake u _ XHELD (idle_out u idle)
  begun_awake u o idle false = started_awake u _

  reinited_awake : (u j w : ℕ) → (s.threads u).stage ≡ Idle → PointsAwake (reinited s u j w)
  reinited_awake u j w idle d (inl f) is = absurd cc
  reinited_awake u j w idle d (inr (inl f)) is = awake_now u (idle_out u idle) (ap thread_of f ∙ is)
  reinited_awake u j w idle d (inr (inr (inl f))) is = absurd cc
  reinited_awake u j w idle d (inr (inr (inr h))) is = absurd h

  stepped_awake : (u k : ℕ) (op : Operation) (x : Option Reply) (z : Option Queue) (us vs : List ℕ) (y : Option Reply) → is_asleep s u ≡ false → (d : Decision) → IsAmong (Point d) (facts_of (Stepped u k (decision u k op x) z us vs y)) → d.thread ≡ t → told_asleep t ns ≡ None
  stepped_awake u k op x z us vs y awake d h is = go x (of_step u k (decision u k op x) z us vs y (Point d) h)
    where
      go : (r : Option Reply) → OfStep u k (decision u k op r) z us vs y (Point d) → told_asleep t ns ≡ None
      go (Some r) (Is_point p e f) = awake_now u (in_none s u m.queued awake) (ap (λ (c : Option Decision). decider c) e ∙ ap thread_of f ∙ is)
        where
          decider : Option Decision → ℕ
          decider None = 0
          decider (Some c) = c.thread
      go None (Is_point p e f) = absurd cc
      go r (Is_sleep q f) = absurd cc
      go r (Is_wake v f) = absurd cc
      go r (Is_move v f) = absurd cc
      go r (Is_return v e f) = absurd cc

  points_awake : (e : Event) → PointsAwake (happens s e)
  points_awake e =
      by_event s (λ x a. PointsAwake a)
      (λ x d h is. absurd h)
      (λ u o first most inside idle b full. begun_awake u o idle b)
      (λ u first most.
      by_stage s u PointsAwake (λ rests d h is. absurd h)
      (λ o p is awake. stepped_awake u _ _ _ _ _ _ _ awake)
      (λ c p is awake. stepped_awake u _ _ _ _ _ _ _ awake)
      (λ w is awake d h same. never u (of_walk u _ _ _ (Point d) h)))
      (λ u first most alive d h is. died u d h)
      (λ u first most asleep d h is. left u d h)
      (λ u k p first most is asleep may. tt)
      (λ u k x p first most is there. tt)
      (λ u o p first most is awake trims. let g = led o p (whole_led p (Trimmed false)) in stepped_awake u (mutex_of s.layout o) g.operation g.point None [] [] g.returned awake)
      (λ u first most gone d h is. anew u d h)
      (λ u j may. reinited_awake u j 0 may.resting)
      (λ u k g sp. subst PointsAwake (sym (spare_is s u k g sp m.kept)) (λ d h is. absurd h))
      e
    where
      never : {d : Decision} (u : ℕ) → OfWalk u (Point d) → told_asleep t ns ≡ None
      never u (Is_death k f) = absurd cc
      never u (Wakes_one v f) = absurd cc
      never u (Is_reap f) = absurd cc

      died : (u : ℕ) (d : Decision) → (Kill u ≡ Point d) ⊎ ⊥ → told_asleep t ns ≡ None
      died u d (inl f) = absurd cc
      died u d (inr h) = absurd h

      left : (u : ℕ) (d : Decision) → (Wake u ≡ Point d) ⊎ ⊥ → told_asleep t ns ≡ None
      left u d (inl f) = absurd cc
      left u d (inr h) = absurd h

      anew : (u : ℕ) (d : Decision) → (Renew u ≡ Point d) ⊎ ⊥ → told_asleep t ns ≡ None
      anew u d (inl f) = absurd cc
      anew u d (inr h) = absurd h

-- ---- runs

-- the moment after one event more
pub behind : (l : Layout') (counters : ℕ → ℕ) (es : List Event) (e : Event) → IsLayout l → Moment l (happens (run (start l counters) es) e).state (notes (start l counters) es ++ (happens (run (start l counters) es) e).note ∷ [])
behind l counters es e is = subst (λ (z : State × List Note). Moment l z.0 z.1) (λ i. (run_push (start l counters) es e i, notes_push (start l counters) es e i)) (moment l counters (es ++ e ∷ []) is)

module _ (l : Layout') (counters : ℕ → ℕ) (is : IsLayout l) (t : ℕ) where
  event_placed : (es : List Event) (e : Event) → ArePlaced t (last_told t (notes (start l counters) es)) (told_asleep t (notes (start l counters) es)) (facts_of (happens (run (start l counters) es) e).note)
  event_placed es e = placed_note t (last_told t ns) (told_asleep t ns) n record {
    sleeps = λ q h. slept_in_call t (last_told t ns) n q h (sym (told_push t ns n) ∙ queued_in_call l s' (ns ++ n ∷ []) after t (queue_place s'.layout q) ((turns.sleep q).0 h).2);
    wakes = λ h. let left = (turns.wake.0 h).0.0 in queued_in_call l s ns before t left.0 left.1;
    moves = λ m h. let moved = ((turns.move m).0 h).0 in queued_in_call l s ns before t _ moved.3;
    returns = λ x h. sym (asleep_push t ns n) ∙ resting_awake l s' (ns ++ n ∷ []) after t (λ on. let rests = told_push t ns n ∙ returned_rests t (last_told t ns) n x h in let never : AtRest ≡ InCall = sym rests ∙ on in absurd cc);
  } (points_awake l s ns before t e)
    where
      s : State
      s = run (start l counters) es

      ns : List Note
      ns = notes (start l counters) es

      n : Note
      n = (happens s e).note

      s' : State
      s' = (happens s e).state

      before : Moment l s ns
      before = moment l counters es is

      after : Moment l s' (ns ++ n ∷ [])
      after = behind l counters es e is

      turns : TellsTurns s e t
      turns = before.tells.next e t

  placed_from : (es later : List Event) → ArePlaced t (last_told t (notes (start l counters) es)) (told_asleep t (notes (start l counters) es)) (facts_among (notes (run (start l counters) es) later))
  placed_from es [] = tt
  placed_from es (e ∷ later) =
      let s = run (start l counters) es in
      let ns = notes (start l counters) es in
      let n = (happens s e).note in
      placed_append t (last_told t ns) (told_asleep t ns) (facts_of n) (facts_among (notes (happens s e).state later)) (event_placed es e)
      (subst (λ (z : State × List Note). ArePlaced t (told_after t (last_told t ns) (facts_of n)) (asleep_after t (told_asleep t ns) (facts_of n)) (facts_among (notes z.0 later))) (λ i. (run_push (start l counters) es e i, ns))
      (subst (λ (z : Told × Option Queue). ArePlaced t z.0 z.1 (facts_among (notes (run (start l counters) (es ++ e ∷ [])) later)))
      (λ i. ((ap (last_told t) (notes_push (start l counters) es e) ∙ told_push t ns n) i, (ap (told_asleep t) (notes_push (start l counters) es e) ∙ asleep_push t ns n) i))
      (placed_from (es ++ e ∷ []) later)))

  -- so it is of a whole run
  pub run_placed : (events : List Event) → ArePlaced t AtRest None (facts_among (notes (start l counters) events))
  run_placed events = placed_from [] events
