-- What calls returned, and which of them died, is in one history.
use Rattle.std.proofs.Common.{◌≡◌, ◌≢◌, ◌⊎◌, inl, inr, ⊎_elim, ℕ, ◌+◌, ◌<◌, Bool, true, false, Option, List, [], ◌∷◌, ◌++◌, length, take, get_or, refl, sym, ap, ◌∙◌, subst, arith, append_assoc, append-nil}
use Rattle.std.specs.Prelude.{nat_le, MatchBool, ◌==◌, if◌then◌else◌}
use mathlib.Core.Logic.{dite}
use native.Mathlib.Decide.{ℕ_discrete}
use Rattle.lockword.specs.declared.reply.Reply.{Reply}
use Rattle.lockword.specs.declared.reply.Reply.TheVariants.{OK, XHELD}
use Rattle.posixmutex.specs.declared.point.Point.{Point}
use Rattle.posixmutex.specs.declared.point.Operation.{Operation}
use Rattle.posixmutex.specs.declared.point.Operation.TheVariants as operation
use Rattle.memorymap.specs.Layouts.{Layout', cell_place, counter_place}
use Rattle.posixmutex.specs.Objects.{acquires}
use Rattle.facts.specs.Lives.{Act, Beginning, Complete}
use Rattle.condvar.specs.declared.op.Op.{Op}
use Rattle.condvar.specs.declared.op.Op.TheVariants.{OnMutex, OnCondition}
use Rattle.condvar.specs.declared.call.CondCall.TheVariants.{Wait, TimedWait, Signal, Broadcast}
use Rattle.condvar.specs.Ops.{acts_as, mutex_of}
use Rattle.mutex.specs.declared.call.Call.TheVariants.{Lock, TimedLock, TryLock, Unlock, Consistent}
use Rattle.ruledwords.specs.declared.pass.Card.{Card}
use Rattle.ruledwords.specs.declared.pass.Words.{Words}
use Rattle.ruledwords.specs.Cards.{at}
use Rattle.ruledwords.specs.ConditionStands.{CondEnded}
use Rattle.ruledwords.specs.Counts.{cell_at, counter_in, total_of, Counted}
use Rattle.ruledwords.specs.Deaths.{deaths, IsReaped}
use Rattle.ruledwords.specs.OwnWords.{owns_in}
use Rattle.ruledwords.specs.Passes.{card, layout_of}
use Rattle.ruledwords.specs.Seen.{by, held, held_after, points_of, Called, Died, Saw}
use Rattle.threadbench.specs.declared.job.WorkerPass.{WorkerPass}
use Rattle.threadbench.specs.declared.job.WorkerPass.TheVariants.{Lives, Reaped}
use Rattle.threadbench.specs.Answered.{card_in, Answered, DiesIn, Replied}
use Rattle.threadbench.specs.Conditions.{TookAgain}
use Rattle.threadbench.specs.Jobs.{WasLost, Worked}
use Rattle.report.specs.declared.threads.Worker.{Worker}
use Rattle.report.specs.Histories.{AreTold, ArePointsBehind, CountUp}
use Rattle.report.specs.Meetings.{is_reaped}
use Rattle.report.specs.Threads.{open_gate, Works, WorksFrom}
use Rattle.report.proofs.Working.{all_answered}

-- what a call adds to the points that its own thread made at p: nothing, or all that it has
abbrev Adds : Card → ℕ → ℕ → Operation → Reply → Card → Type 0
Adds c place p op r d =
    (d.thread ≡ c.thread) × (((place ≢ p) ⊎ ((acquires op ≡ true) × (r ≡ XHELD))) × (by c.thread (at d.seen p) ≡ by c.thread (at c.seen p))
    ⊎ (place ≡ p) × (acts : List Act) × Complete op acts r × (by c.thread (at d.seen p) ≡ by c.thread (at c.seen p) ++ points_of c.thread p acts))

called_adds : (c d : Card) (place p : ℕ) (op : Operation) (r : Reply) (acts : List Act) → Complete op acts r → Called c place acts d → Adds c place p op r d
called_adds c d place p op r acts complete called = let sees = called.saw in (
  sees.thread,
  dite (ℕ_discrete p place)
      (λ here. inr (sym here, acts, complete, subst (λ (z : ℕ). by c.thread (at d.seen z) ≡ by c.thread (at c.seen z) ++ points_of c.thread z acts) (sym here) sees.own))
      (λ other. inl (inl (λ e. other (sym e)), ap (by c.thread) (sees.elsewhere p other))),
)

held_adds : (c d : Card) (place p : ℕ) (op : Operation) (r : Reply) → acquires op ≡ true → r ≡ XHELD → d ≡ c → Adds c place p op r d
held_adds c d place p op r takes refused same = (ap (λ (z : Card). z.thread) same, inl (inr (takes, refused), ap (λ (z : Card). by c.thread (at z.seen p)) same))

either_adds : (b : Bool) (c d : Card) (place p : ℕ) (op : Operation) (r : Reply) (P : Type 0) → acquires op ≡ true → Complete op ((op, r) ∷ []) r → (P → Called c place ((op, r) ∷ []) d) → MatchBool b ((r ≡ XHELD) × (d ≡ c)) P → Adds c place p op r d
either_adds true c d place p op r P takes complete calls m = held_adds c d place p op r takes m.0 m.1
either_adds false c d place p op r P takes complete calls m = called_adds c d place p op r ((op, r) ∷ []) complete (calls m)

replied_adds : (k : Layout') (a : Card) (call : Op) (r : Reply) (b : Card) (p : ℕ) → Replied k a call r b → Adds a (cell_place k (mutex_of k call)) p (acts_as call) r b
replied_adds k a (OnMutex (Lock m)) r b p t = either_adds (nat_le 2048 (held a)) a b (cell_place k m) p _ r _ refl refl (λ c. c) t
replied_adds k a (OnMutex (TimedLock m)) r b p t = either_adds (nat_le 2048 (held a)) a b (cell_place k m) p _ r _ refl refl (λ c. c) t
replied_adds k a (OnMutex (TryLock m)) r b p t = either_adds (nat_le 2048 (held a)) a b (cell_place k m) p _ r _ refl refl (λ c. c) t.0
replied_adds k a (OnMutex (Unlock m)) r b p t = called_adds a b (cell_place k m) p operation.Unlock r ((operation.Unlock, r) ∷ []) refl t
replied_adds k a (OnMutex (Consistent m)) r b p t = called_adds a b (cell_place k m) p operation.Consistent r ((operation.Consistent, r) ∷ []) refl t
replied_adds k a (OnCondition (Signal q)) r b p t = called_adds a b (cell_at k q) p operation.Signal r ((operation.Signal, r) ∷ []) refl t.called
replied_adds k a (OnCondition (Broadcast q)) r b p t = called_adds a b (cell_at k q) p operation.Broadcast r ((operation.Broadcast, r) ∷ []) refl t.called
replied_adds k a (OnCondition (Wait q)) r b p t = ⊎_elim
    (λ (refused : CondEnded k q operation.Wait r a b). called_adds a b (cell_at k q) p operation.Wait r ((operation.Wait, r) ∷ []) refl refused.called)
    (λ (took : TookAgain k a q r b). called_adds a b (cell_at k q) p operation.Wait r ((operation.Unlock, OK) ∷ (operation.Lock, r) ∷ []) (refl, refl) took.called)
    t
replied_adds k a (OnCondition (TimedWait q y)) r b p t = ⊎_elim
    (λ (refused : CondEnded k q operation.Wait r a b). called_adds a b (cell_at k q) p operation.Wait r ((operation.Wait, r) ∷ []) refl refused.called)
    (λ (took : TookAgain k a q r b). called_adds a b (cell_at k q) p operation.Wait r ((operation.Unlock, OK) ∷ (operation.Lock, r) ∷ []) (refl, refl) took.called)
    t

-- what calls add
abbrev pub HaveAdded : ℕ → Layout' → ℕ → List Op → List Reply → Card → Card → Type 0
HaveAdded t k m cs rs c d = (d.thread ≡ t) × ((xs : List Point) × (by t (at d.seen (cell_place k m)) ≡ by t (at c.seen (cell_place k m)) ++ xs) × AreTold k t m cs rs xs)

first_added : (t : ℕ) (k : Layout') (m : ℕ) (call : Op) (cs : List Op) (r : Reply) (rs : List Reply) (c d e : Card) → c.thread ≡ t → Adds c (cell_place k (mutex_of k call)) (cell_place k m) (acts_as call) r d → HaveAdded t k m cs rs d e → HaveAdded t k m (call ∷ cs) (r ∷ rs) c e
first_added t k m call cs r rs c d e mine adds rest =
    let p : ℕ = cell_place k m in
    let there : ℕ = cell_place k (mutex_of k call) in
    let op : Operation = acts_as call in
    let xs = rest.1.0 in (
      rest.0,
      ⊎_elim
          (λ (no : ((there ≢ p) ⊎ ((acquires op ≡ true) × (r ≡ XHELD))) × (by c.thread (at d.seen p) ≡ by c.thread (at c.seen p))).
          (xs, rest.1.1 ∙ ap (λ l. l ++ xs) (subst (λ (z : ℕ). by z (at d.seen p) ≡ by z (at c.seen p)) mine no.1), inl (⊎_elim (λ (apart : there ≢ p). inl (λ same. apart (ap (cell_place k) same))) (λ (x : (acquires op ≡ true) × (r ≡ XHELD)). inr x) no.0, rest.1.2)))
          (λ (yes : (there ≡ p) × (acts : List Act) × Complete op acts r × (by c.thread (at d.seen p) ≡ by c.thread (at c.seen p) ++ points_of c.thread p acts)).
          let points : List Point = points_of t p yes.1 in (
            points ++ xs,
            rest.1.1 ∙ ap (λ l. l ++ xs) (subst (λ (z : ℕ). by z (at d.seen p) ≡ by z (at c.seen p) ++ points_of z p yes.1) mine yes.3) ∙ append_assoc (by t (at c.seen p)) points xs,
            inr ((let e = yes.0 in omega arith), yes.1, yes.2, xs, refl, rest.1.2),
          ))
          adds.1,
    )

pub added : (k : Layout') (t m : ℕ) (a : Card) (cs : List Op) (rs : List Reply) (b : Card) → a.thread ≡ t → Answered k a cs rs b → HaveAdded t k m cs rs a b
added k t m a [] [] b mine same = (ap (λ (z : Card). z.thread) (sym same) ∙ mine, ([], ap (λ (z : Card). by t (at z.seen (cell_place k m))) (sym same) ∙ sym (append-nil _), refl))
added k t m a [] (r ∷ rs) b mine answered = absurd answered
added k t m a (c ∷ cs) [] b mine answered = absurd answered
added k t m a (c ∷ cs) (r ∷ rs) b mine answered =
    let adds = replied_adds k a c r answered.0 (cell_place k m) answered.1 in
    first_added t k m c cs r rs a answered.0 b mine adds (added k t m answered.0 cs rs b (adds.0 ∙ mine) answered.2)

-- ---- a thread that died

-- a call in which a thread dies adds some of its first points, or all, where it is on the mutex
abbrev pub died_of : (k : Layout') (c : Card) (call : Op) (d : Card) → DiesIn k c call d → Died c (cell_place k (mutex_of k call)) (acts_as call) d
died_of k c (OnMutex (Lock m)) d dies = dies.1
died_of k c (OnMutex (TimedLock m)) d dies = dies.1
died_of k c (OnMutex (TryLock m)) d dies = dies.1
died_of k c (OnMutex (Unlock m)) d dies = dies
died_of k c (OnMutex (Consistent m)) d dies = dies
died_of k c (OnCondition call) d dies = dies.died

record AddsSome (k : Layout') (m : ℕ) (call : Op) (c d : Card) : Type 0 where
  acts : List Act
  begun : mutex_of k call ≡ m → Beginning (acts_as call) acts
  elsewhere : mutex_of k call ≢ m → acts ≡ []
  own : by c.thread (at d.seen (cell_place k m)) ≡ by c.thread (at c.seen (cell_place k m)) ++ points_of c.thread (cell_place k m) acts

some_added : (k : Layout') (m : ℕ) (call : Op) (c d : Card) → Died c (cell_place k (mutex_of k call)) (acts_as call) d → AddsSome k m call c d
some_added k m call c d died = dite (ℕ_discrete (mutex_of k call) m)
    (λ (here : mutex_of k call ≡ m). record {
      acts = died.acts;
      begun = λ same. died.beginning;
      elsewhere = λ other. absurd (other here);
      own = subst (λ (n : ℕ). by c.thread (at d.seen (cell_place k n)) ≡ by c.thread (at c.seen (cell_place k n)) ++ points_of c.thread (cell_place k n) died.acts) here died.saw.own;
    })
    (λ (other : mutex_of k call ≢ m). record {
      acts = [];
      begun = λ same. absurd (other same);
      elsewhere = λ apart. refl;
      own = ap (by c.thread) (died.saw.elsewhere (cell_place k m) (λ same. other (let e = same in omega (arith, e)))) ∙ sym (append-nil (by c.thread (at c.seen (cell_place k m))));
    })

-- and the walk over its list adds its death, where it held the mutex
by_walk : (k : Layout') (m : ℕ) (dead d : Card) → m < k.mutexes → IsReaped k dead d → by dead.thread (at d.seen (cell_place k m)) ≡ by dead.thread (at dead.seen (cell_place k m)) ++ deaths dead.thread (cell_place k m) (held_after false (by dead.thread (at dead.seen (cell_place k m))))
by_walk k m dead d low reaped = go (owns_in k dead m) refl where
  go : (b : Bool) → owns_in k dead m ≡ b → by dead.thread (at d.seen (cell_place k m)) ≡ by dead.thread (at dead.seen (cell_place k m)) ++ deaths dead.thread (cell_place k m) (owns_in k dead m)
  go true owns = (reaped.told m low owns).saw.own ∙ ap (λ (b : Bool). by dead.thread (at dead.seen (cell_place k m)) ++ deaths dead.thread (cell_place k m) b) (sym owns)
  go false owns = ap (by dead.thread) (reaped.stays m low owns) ∙ sym (append-nil (by dead.thread (at dead.seen (cell_place k m)))) ∙ ap (λ (b : Bool). by dead.thread (at dead.seen (cell_place k m)) ++ deaths dead.thread (cell_place k m) b) (sym owns)

-- both
pub lost : (k : Layout') (m : ℕ) (call : Op) (t : ℕ) (c d : Card) → c.thread ≡ t → m < k.mutexes → WasLost k c call d → (acts : List Act) × (mutex_of k call ≡ m → Beginning (acts_as call) acts) × (mutex_of k call ≢ m → acts ≡ []) × (d.thread ≡ t)
    × (by t (at d.seen (cell_place k m)) ≡ (by t (at c.seen (cell_place k m)) ++ points_of t (cell_place k m) acts) ++ deaths t (cell_place k m) (held_after false (by t (at c.seen (cell_place k m)) ++ points_of t (cell_place k m) acts)))
lost k m call t c d mine low was =
    let died = died_of k c call was.dead was.died in
    let some = some_added k m call c was.dead died in
    let same : was.dead.thread ≡ t = died.saw.thread ∙ mine in
    let p : ℕ = cell_place k m in
    let own = subst (λ (u : ℕ). by u (at was.dead.seen p) ≡ by u (at c.seen p) ++ points_of u p some.acts) mine some.own in
    let walk = subst (λ (u : ℕ). by u (at d.seen p) ≡ by u (at was.dead.seen p) ++ deaths u p (held_after false (by u (at was.dead.seen p)))) same (by_walk k m was.dead d low was.reaped) in (
      some.acts,
      some.begun,
      some.elsewhere,
      was.reaped.thread ∙ same,
      walk ∙ ap (λ (l : List Point). l ++ deaths t p (held_after false l)) own,
    )

-- ---- what a thread came to see

-- after what it had seen of the mutex whose cell is at p it has seen more
abbrev pub Grew : Card → ℕ → Card → Type 0
Grew c p d = (since : List Point) × (at d.seen p ≡ at c.seen p ++ since)

pub saw_grew : (c d : Card) (place p : ℕ) (acts : List Act) → Saw c place acts d → Grew c p d
saw_grew c d place p acts saw = dite (ℕ_discrete p place)
    (λ here. subst (λ (z : ℕ). Grew c z d) (sym here) (saw.since, saw.grows))
    (λ other. ([], saw.elsewhere p other ∙ sym (append-nil (at c.seen p))))

same_grew : (c d : Card) (p : ℕ) → d ≡ c → Grew c p d
same_grew c d p same = ([], ap (λ (z : Card). at z.seen p) same ∙ sym (append-nil (at c.seen p)))

pub then_grew : (c d e : Card) (p : ℕ) → Grew c p d → Grew d p e → Grew c p e
then_grew c d e p first later = (first.0 ++ later.0, later.1 ∙ ap (λ (l : List Point). l ++ later.0) first.1 ∙ append_assoc (at c.seen p) first.0 later.0)

either_grew : (b : Bool) (c d : Card) (place p : ℕ) (r : Reply) (acts : List Act) → MatchBool b ((r ≡ XHELD) × (d ≡ c)) (Called c place acts d) → Grew c p d
either_grew true c d place p r acts m = same_grew c d p m.1
either_grew false c d place p r acts m = saw_grew c d place p acts m.saw

replied_grew : (k : Layout') (a : Card) (call : Op) (r : Reply) (b : Card) (p : ℕ) → Replied k a call r b → Grew a p b
replied_grew k a (OnMutex (Lock m)) r b p t = either_grew (nat_le 2048 (held a)) a b (cell_place k m) p r ((operation.Lock, r) ∷ []) t
replied_grew k a (OnMutex (TimedLock m)) r b p t = either_grew (nat_le 2048 (held a)) a b (cell_place k m) p r ((operation.Lock, r) ∷ []) t
replied_grew k a (OnMutex (TryLock m)) r b p t = either_grew (nat_le 2048 (held a)) a b (cell_place k m) p r ((operation.TryLock, r) ∷ []) t.0
replied_grew k a (OnMutex (Unlock m)) r b p t = saw_grew a b (cell_place k m) p ((operation.Unlock, r) ∷ []) t.saw
replied_grew k a (OnMutex (Consistent m)) r b p t = saw_grew a b (cell_place k m) p ((operation.Consistent, r) ∷ []) t.saw
replied_grew k a (OnCondition (Signal q)) r b p t = saw_grew a b (cell_at k q) p ((operation.Signal, r) ∷ []) t.called.saw
replied_grew k a (OnCondition (Broadcast q)) r b p t = saw_grew a b (cell_at k q) p ((operation.Broadcast, r) ∷ []) t.called.saw
replied_grew k a (OnCondition (Wait q)) r b p t = ⊎_elim
    (λ (refused : CondEnded k q operation.Wait r a b). saw_grew a b (cell_at k q) p ((operation.Wait, r) ∷ []) refused.called.saw)
    (λ (took : TookAgain k a q r b). saw_grew a b (cell_at k q) p ((operation.Unlock, OK) ∷ (operation.Lock, r) ∷ []) took.called.saw)
    t
replied_grew k a (OnCondition (TimedWait q y)) r b p t = ⊎_elim
    (λ (refused : CondEnded k q operation.Wait r a b). saw_grew a b (cell_at k q) p ((operation.Wait, r) ∷ []) refused.called.saw)
    (λ (took : TookAgain k a q r b). saw_grew a b (cell_at k q) p ((operation.Unlock, OK) ∷ (operation.Lock, r) ∷ []) took.called.saw)
    t

pub answered_grew : (k : Layout') (p : ℕ) (a : Card) (cs : List Op) (rs : List Reply) (b : Card) → Answered k a cs rs b → Grew a p b
answered_grew k p a [] [] b same = same_grew a b p (sym same)
answered_grew k p a [] (r ∷ rs) b answered = absurd answered
answered_grew k p a (c ∷ cs) [] b answered = absurd answered
answered_grew k p a (c ∷ cs) (r ∷ rs) b answered = then_grew a answered.0 b p (replied_grew k a c r answered.0 p answered.1) (answered_grew k p answered.0 cs rs b answered.2)

pub reaped_grew : (k : Layout') (m : ℕ) (dead d : Card) → m < k.mutexes → IsReaped k dead d → Grew dead (cell_place k m) d
reaped_grew k m dead d low reaped = go (owns_in k dead m) refl where
  go : (b : Bool) → owns_in k dead m ≡ b → Grew dead (cell_place k m) d
  go true owns = let saw = (reaped.told m low owns).saw in (saw.since, saw.grows)
  go false owns = ([], reaped.stays m low owns ∙ sym (append-nil (at dead.seen (cell_place k m))))

pub worked_grew : (w : Words) (m : ℕ) (a : Card) (cs : List Op) (rs : List Reply) (pass : WorkerPass) → m < (layout_of w).mutexes → Worked w open_gate a cs rs pass → Grew a (cell_place (layout_of w) m) (card_in pass)
worked_grew w m a cs rs (Lives b) low worked =
    let p : ℕ = cell_place (layout_of w) m in
    answered_grew (layout_of w) p a cs rs (card b) (all_answered w a cs rs b worked)
worked_grew w m a cs rs (Reaped d) low worked =
    let k : Layout' = layout_of w in
    let p : ℕ = cell_place k m in
    let next = worked.stops.1 in
    let was = next.3 in
    let died = died_of k worked.last next.0 was.dead was.died in
    then_grew a worked.last (card d) p (answered_grew k p a (take (length rs) cs) rs worked.last worked.answered)
    (then_grew worked.last was.dead (card d) p (saw_grew worked.last was.dead (cell_place k (mutex_of k next.0)) p died.acts died.saw) (reaped_grew k m was.dead (card d) low was.reaped))

-- whose card it is
thread_on : (w : Words) (t : ℕ) (a : Card) (cs : List Op) (rs : List Reply) (pass : WorkerPass) → a.thread ≡ t → Worked w open_gate a cs rs pass → (card_in pass).thread ≡ t
thread_on w t a cs rs (Lives b) mine worked = (added (layout_of w) t 0 a cs rs (card b) mine (all_answered w a cs rs b worked)).0
thread_on w t a cs rs (Reaped d) mine worked =
    let next = worked.stops.1 in
    let was = next.3 in
    let died = died_of (layout_of w) worked.last next.0 was.dead was.died in
    was.reaped.thread ∙ died.saw.thread ∙ (added (layout_of w) t 0 a (take (length rs) cs) rs worked.last mine worked.answered).0

pub thread_stays : (w : Words) (calls : List Op) (u : Worker) (more : List Reply) (v : Worker) → Works w calls u more v → (card_in v.pass).thread ≡ (card_in u.pass).thread
thread_stays w calls u more v works = from u.pass u.die works where
  from : (pass : WorkerPass) (die : Option ℕ) → WorksFrom w calls die pass more v → (card_in v.pass).thread ≡ (card_in pass).thread
  from (Lives a) die works = thread_on w (card a).thread (card a) calls more v.pass refl works.0
  from (Reaped d) die works = ap (λ (z : WorkerPass). (card_in z).thread) works.0

-- ---- all of them

-- the points of a thread, as far as it came, after those that it had made
pub points_behind : (w : Words) (t m : ℕ) (before : List Point) (a : Card) (cs : List Op) (rs : List Reply) (pass : WorkerPass) → m < (layout_of w).mutexes → a.thread ≡ t → by t (at a.seen (cell_place (layout_of w) m)) ≡ before → Worked w open_gate a cs rs pass
    → ((card_in pass).thread ≡ t) × (xs : List Point) × (by t (at (card_in pass).seen (cell_place (layout_of w) m)) ≡ before ++ xs) × ArePointsBehind (layout_of w) t m before cs rs (is_reaped pass) xs
points_behind w t m before a cs rs (Lives b) low mine had worked =
    let did = added (layout_of w) t m a cs rs (card b) mine (all_answered w a cs rs b worked) in
    (did.0, did.1.0, did.1.1 ∙ ap (λ (l : List Point). l ++ did.1.0) had, did.1.2)
points_behind w t m before a cs rs (Reaped d) low mine had worked =
    let k : Layout' = layout_of w in
    let p : ℕ = cell_place k m in
    let did = added k t m a (take (length rs) cs) rs worked.last mine worked.answered in
    let answered : List Point = did.1.0 in
    let own : by t (at worked.last.seen p) ≡ before ++ answered = did.1.1 ∙ ap (λ (l : List Point). l ++ answered) had in
    let next = worked.stops.1 in
    let end = lost k m next.0 t worked.last (card d) did.0 low next.3 in
    let some : List Point = points_of t p end.0 in
    let dead : List Point → List Point = λ l. deaths t p (held_after false l) in
    let on : by t (at worked.last.seen p) ++ some ≡ before ++ (answered ++ some) = ap (λ (l : List Point). l ++ some) own ∙ append_assoc before answered some in (
      end.3,
      (answered ++ some) ++ dead (before ++ (answered ++ some)),
      end.4 ∙ ap (λ (l : List Point). l ++ dead l) on ∙ append_assoc before (answered ++ some) (dead (before ++ (answered ++ some))),
      record {
        call = next.0;
        next = next.1;
        answered = answered;
        told = did.1.2;
        acts = end.0;
        begun = end.1;
        elsewhere = end.2;
        all = refl;
      },
    )

-- ---- counters

-- the same counters have the same sum
same_total : (m : ℕ) (ns : List ℕ) (f g : ℕ → ℕ) (q : ℕ) → ((i : ℕ) → i < q + length ns → f i ≡ g i) → total_of m ns f q ≡ total_of m ns g q
same_total m [] f g q same = refl
same_total m (n ∷ ns) f g q same =
    (λ i. (if n == m then same q (omega arith) i else 0) + total_of m ns f (q + 1))
    ∙ ap (λ (x : ℕ). (if n == m then g q else 0) + x) (same_total m ns f g (q + 1) (λ i low. same i (omega (arith, low))))

pub counted_up : (k : Layout') (presets ws counters : List ℕ) (js : List (List Point)) → ((q : ℕ) → q < length k.conditions → get_or counters q 0 ≡ get_or ws (counter_place k q) 0) → Counted k presets ws js → CountUp k presets counters js
counted_up k presets ws counters js are counted = record {
  sums = λ m low. same_total m k.conditions (λ q. get_or counters q 0) (counter_in k ws) 0 (λ i few. are i (omega (arith, few))) ∙ counted.sums m low;
  still = λ q low none. are q low ∙ counted.still q low none;
}
