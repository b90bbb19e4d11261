-- What an event does where only words differ that its thread doesn't meet.
use Rattle.std.proofs.Common.{◌≡◌, ◌≢◌, ◌⊎◌, inl, inr, ⊎_elim, ℕ, zero, suc, ◌+◌, ◌<◌, ◌≤◌, ◌==◌, Bool, true, false, ◌&&◌, Result, Ok, Err, List, [], ◌∷◌, refl, sym, ap, ◌∙◌, subst, arith}
use Rattle.std.specs.Prelude.{if◌then◌else◌, not, nat_lt, ◌||◌}
use Rattle.std.proofs.lemmas.Bool.Decides.{nat_tests}
use Rattle.lockword.specs.declared.reply.Reply.{Reply}
use Rattle.lockword.specs.Cells.{fields_of}
use Rattle.stepprograms.specs.declared.access.Access.{Access}
use Rattle.stepprograms.specs.declared.access.Access.TheVariants as access
use Rattle.stepprograms.specs.declared.access.Answer.{Answer}
use Rattle.stepprograms.specs.declared.access.Answer.TheVariants.{Fault, Trimmed, Count}
use Rattle.stepprograms.specs.Accesses.{word_among, answer_among, sleeps_at}
use Rattle.posixmutex.specs.declared.point.Operation.TheVariants as operation
use Rattle.memorymap.specs.Layouts.{head_place, head_word, entry_place, cell_place, address_in}
use Rattle.facts.specs.declared.fact.Queue.{Queue}
use Rattle.facts.specs.declared.fact.Queue.TheVariants.{Mutex, Condition}
use Rattle.mutex.specs.Whole.{may_expire, whole_access, whole_led}
use Rattle.condvar.specs.Ops.{mutex_of}
use Rattle.condvar.specs.Calls.{condition_of}
use Rattle.condvar.specs.declared.op.Op.{Op}
use Rattle.condvar.specs.declared.op.Op.TheVariants.{OnMutex, OnCondition}
use Rattle.condvar.specs.Whole.{cond_access, cond_led}
use Rattle.exitwalk.specs.Standings as walks
use Rattle.exitwalk.specs.Walks as exit
use Rattle.exitwalk.specs.declared.row.Part.TheVariants as part
use Rattle.exitwalk.specs.declared.row.Row as walk_row
use Rattle.exitwalk.specs.declared.row.Row.TheVariants as walk
use Rattle.protocol.specs.declared.event.Event.{Event}
use Rattle.protocol.specs.declared.event.Event.TheVariants.{Begin, Step, Kill, Leave, Expire, Decline, Renew, Remake, Spare}
use Rattle.protocol.specs.declared.event.LeftTo.{LeftTo}
use Rattle.protocol.specs.declared.thread.Stage.{Stage}
use Rattle.protocol.specs.declared.thread.Stage.TheVariants.{Idle, Calling, AtCondition, Dying, Reaped}
use Rattle.protocol.specs.declared.note.Note.TheVariants.{Stepped, Walked}
use Rattle.protocol.specs.Machine.{State, After, put, place_met, is_met, words_after, answer_of, joined, moved_by, woken_by, queue_after, happens, nothing, begun, first_stage, went, walked}
use Rattle.protocol.specs.Machine.{Led, led, led_at, held_after, decision, slept_in, stepped, declined, spared, killed, departed, renewed, reinited, has_thread, is_alive, is_asleep, is_gone, is_trim, sleeps}
use Rattle.protocol.specs.Machine.{may_begin, may_remake, waiters_of, is_first, is_idle, death_at, told_of, has_ended, stage_walked}
use Rattle.protocol.specs.Machine.{expired, is_timed, lapsed, overslept, waits_on, another_answers, answers, a_walk_minds, is_left_to, minds, walk_minds, wakes_one, wakes_next, sparing}
use Rattle.protocol.proofs.Puts.{by_put, put-same, put-other}
use Rattle.protocol.proofs.Kept.{Kept, Sits}
use Rattle.protocol.proofs.Renewals.{renewed_word, renewed_elsewhere}
use Rattle.protocol.specs.Explained.{caller}
use Rattle.storebuffers.specs.Buffers.{stored, with_words, Way, way, way_at, way_of, head_stores, Waits}
use Rattle.storebuffers.specs.Buffers.Way.{Keeps, Appends, Writes, Flushes}
use Rattle.storebuffers.proofs.Owning.{IsOwn, IsShared, IsMet, Meets, is_met_by, calls_meet, conditions_meet, walks_meet}

-- what an event of thread t, with its buffer so, makes of its view v of the words, and of the machine's
abbrev pub Does : State → ℕ → (ℕ → ℕ) → Way → (ℕ → ℕ) → (ℕ → ℕ) → Type 0
Does s t v Keeps a b = (p : ℕ) → b p ≡ s.words p
Does s t v (Appends xs) a b = (1 ≤ t) × (t ≤ s.layout.threads) × ((p : ℕ) → b p ≡ stored xs s.words p) × ((p : ℕ) → Waits p xs → IsOwn s t p)
Does s t v (Writes at) a b = IsShared s.layout at × (a at ≡ b at) × ((p : ℕ) → p ≢ at → b p ≡ s.words p)
Does s t v Flushes a b = (at : ℕ) × IsMet s t at × (a at ≡ b at) × ((p : ℕ) → p ≢ at → (a p ≡ v p) × (b p ≡ s.words p))

-- all but the words comes out the same
pub record Alike (s : State) (t : ℕ) (v : ℕ → ℕ) (y : Way) (a b : After) : Type 0 where
  pub note : a.note ≡ b.note
  pub rest : a.state ≡ with_words b.state a.state.words
  pub does : Does s t v y a.state.words b.state.words

-- the words that thread t may meet are as the machine has them
abbrev pub Views : State → ℕ → (ℕ → ℕ) → Type 0
Views s t v = (p : ℕ) → IsMet s t p → v p ≡ s.words p

-- what the dead had pending is as the machine has it
abbrev pub Pending_as : State → (ℕ → ℕ) → Type 0
Pending_as s v = (u : ℕ) → 1 ≤ u → u ≤ s.layout.threads → is_alive (s.threads u).stage ≡ false → v (head_place u + 2) ≡ s.words (head_place u + 2)

-- ---- one access

module _ (s : State) (t : ℕ) (pos : 1 ≤ t) (known : t ≤ s.layout.threads) (v : ℕ → ℕ) (a : Access) (meets : Meets s t a) (same : v (place_met s.layout t a) ≡ s.words (place_met s.layout t a)) where
  abbrev at_met : ℕ
  at_met = place_met s.layout t a

  -- at the word that it meets, and elsewhere
  at_word : (c : Bool) → (if c then put v at_met (word_among a (v at_met) (s.queues at_met)) else v) at_met ≡ (if c then put s.words at_met (word_among a (s.words at_met) (s.queues at_met)) else s.words) at_met
  at_word true = put-same v at_met (word_among a (v at_met) (s.queues at_met)) ∙ ap (λ (x : ℕ). word_among a x (s.queues at_met)) same ∙ sym (put-same s.words at_met (word_among a (s.words at_met) (s.queues at_met)))
  at_word false = same

  elsewhere : (c : Bool) (w : ℕ → ℕ) (p : ℕ) → p ≢ at_met → (if c then put w at_met (word_among a (w at_met) (s.queues at_met)) else w) p ≡ w p
  elsewhere true w p apart = put-other w at_met (word_among a (w at_met) (s.queues at_met)) p apart
  elsewhere false w p apart = refl

  writes : IsShared s.layout at_met → Does s t v (Writes at_met) (words_after (with_words s v) t a) (words_after s t a)
  writes shared = (shared, at_word (is_met s.layout t a), λ p apart. elsewhere (is_met s.layout t a) s.words p apart)

  flushes : Does s t v Flushes (words_after (with_words s v) t a) (words_after s t a)
  flushes = (at_met, is_met_by s t a pos known meets, at_word (is_met s.layout t a), λ p apart. (elsewhere (is_met s.layout t a) v p apart, elsewhere (is_met s.layout t a) s.words p apart))

-- a load changes nothing
load_stays : (w : ℕ → ℕ) (at p : ℕ) (c : Bool) → (if c then put w at (w at) else w) p ≡ w p
load_stays w at p true = by_put (λ x. x ≡ w p) w at (w at) p (λ is. ap w (sym is)) (λ apart. refl)
load_stays w at p false = refl

store_alike : (s : State) (t : ℕ) → 1 ≤ t → t ≤ s.layout.threads → (v : ℕ → ℕ) (at y : ℕ) → IsOwn s t at → (c : Bool) → Does s t v (if c then Appends (record { at = at; value = y } ∷ []) else Keeps) (if c then put v at y else v) (if c then put s.words at y else s.words)
store_alike s t pos known v at y own true = (pos, known, λ p. refl, λ p h. ⊎_elim (λ e. subst (IsOwn s t) e own) (λ none. absurd none) h)
store_alike s t pos known v at y own false = λ p. refl

words_alike : (s : State) (t : ℕ) → 1 ≤ t → t ≤ s.layout.threads → (v : ℕ → ℕ) (a : Access) → Meets s t a → v (place_met s.layout t a) ≡ s.words (place_met s.layout t a) → Does s t v (way_of s.layout t a) (words_after (with_words s v) t a) (words_after s t a)
words_alike s t pos known v (access.Load x) meets same = λ p. load_stays s.words (place_met s.layout t (access.Load x)) p (is_met s.layout t (access.Load x))
words_alike s t pos known v (access.Store x y) (inl (plain, own)) same = store_alike s t pos known v (place_met s.layout t (access.Store x y)) y own (is_met s.layout t (access.Store x y))
words_alike s t pos known v (access.Store x y) (inr (none, shared)) same = absurd none
words_alike s t pos known v (access.Exchange x o n) (inl (plain, own)) same = absurd plain
words_alike s t pos known v (access.Exchange x o n) (inr (none, shared)) same = writes s t pos known v (access.Exchange x o n) (inr (none, shared)) same shared
words_alike s t pos known v (access.FetchXor x o) meets same = flushes s t pos known v (access.FetchXor x o) meets same
words_alike s t pos known v (access.FetchOr x o) (inl (plain, own)) same = absurd plain
words_alike s t pos known v (access.FetchOr x o) (inr (none, shared)) same = writes s t pos known v (access.FetchOr x o) (inr (none, shared)) same shared
words_alike s t pos known v (access.FetchAnd x o) (inl (plain, own)) same = absurd plain
words_alike s t pos known v (access.FetchAnd x o) (inr (none, shared)) same = writes s t pos known v (access.FetchAnd x o) (inr (none, shared)) same shared
words_alike s t pos known v (access.FetchAdd x o) (inl (plain, own)) same = absurd plain
words_alike s t pos known v (access.FetchAdd x o) (inr (none, shared)) same = writes s t pos known v (access.FetchAdd x o) (inr (none, shared)) same shared
words_alike s t pos known v (access.Wait x e) meets same = λ p. load_stays s.words (place_met s.layout t (access.Wait x e)) p (is_met s.layout t (access.Wait x e))
words_alike s t pos known v (access.Wake x n) meets same = λ p. load_stays s.words (place_met s.layout t (access.Wake x n)) p (is_met s.layout t (access.Wake x n))
words_alike s t pos known v (access.Requeue f n o k) meets same = λ p. load_stays s.words (place_met s.layout t (access.Requeue f n o k)) p (is_met s.layout t (access.Requeue f n o k))
words_alike s t pos known v (access.CmpRequeue f e n o k) meets same = λ p. load_stays s.words (place_met s.layout t (access.CmpRequeue f e n o k)) p (is_met s.layout t (access.CmpRequeue f e n o k))
words_alike s t pos known v (access.Trim x) (inl (plain, own)) same = absurd plain
words_alike s t pos known v (access.Trim x) (inr (none, shared)) same = writes s t pos known v (access.Trim x) (inr (none, shared)) same shared

-- of a call
module _ (s : State) (t : ℕ) (pos : 1 ≤ t) (known : t ≤ s.layout.threads) (v : ℕ → ℕ) (held m : ℕ) (q : Queue) (a : Access) (g : Answer → Led) (meets : Meets s t a) (same : v (place_met s.layout t a) ≡ s.words (place_met s.layout t a)) where
  abbrev here : ℕ
  here = place_met s.layout t a

  abbrev c : Bool
  c = is_met s.layout t a

  abbrev line : List ℕ
  line = s.queues here

  -- what it leaves, by the word that it meets
  abbrev shape : (ℕ → ℕ) → ℕ → After
  shape w x =
      let to = g (if c then answer_among a x line else Fault) in
      record {
        state = record {
          layout = s.layout;
          words = w;
          queues = if c then joined s.layout t a (moved_by a x line) (put s.queues here (queue_after t a x line)) else s.queues;
          threads = put s.threads t (record { stage = to.stage; held = held_after held to.operation to.point });
        };
        note = Stepped t m (decision t m to.operation to.point) (slept_in q (c && sleeps_at a x)) (if c then woken_by a x line else []) (if c then moved_by a x line else []) to.returned;
      }

  went_alike : Alike s t v (way_of s.layout t a) (went (with_words s v) t held m q a (g (answer_of (with_words s v) t a))) (went s t held m q a (g (answer_of s t a)))
  went_alike = record {
    note = ap (λ (x : ℕ). (shape (words_after (with_words s v) t a) x).note) same;
    rest = ap (λ (x : ℕ). (shape (words_after (with_words s v) t a) x).state) same;
    does = words_alike s t pos known v a meets same;
  }

-- of a walk
module _ (s : State) (t : ℕ) (pos : 1 ≤ t) (known : t ≤ s.layout.threads) (v : ℕ → ℕ) (held : ℕ) (w : walks.Standing) (meets : Meets s t (exit.access_of w)) (same : v (place_met s.layout t (exit.access_of w)) ≡ s.words (place_met s.layout t (exit.access_of w))) where
  abbrev by : Access
  by = exit.access_of w

  abbrev spot : ℕ
  spot = place_met s.layout t by

  abbrev there : Bool
  there = is_met s.layout t by

  abbrev sleeping : List ℕ
  sleeping = s.queues spot

  abbrev walk_shape : (ℕ → ℕ) → ℕ → After
  walk_shape words x =
      let answer = if there then answer_among by x sleeping else Fault in
      let death = death_at s.layout t (exit.point_of w.thread w.row answer) in
      let row = exit.row_after w.thread w.head w.row answer in
      record {
        state = record {
          layout = s.layout;
          words = words;
          queues = if there then joined s.layout t by (moved_by by x sleeping) (put s.queues spot (queue_after t by x sleeping)) else s.queues;
          threads = put s.threads t (record { stage = stage_walked w row; held = held_after held operation.Death (told_of death) });
        };
        note = Walked t death (if there then woken_by by x sleeping else []) (has_ended row);
      }

  walk_alike : Alike s t v (way_of s.layout t by) (walked (with_words s v) t held w) (walked s t held w)
  walk_alike = record {
    note = ap (λ (x : ℕ). (walk_shape (words_after (with_words s v) t by) x).note) same;
    rest = ap (λ (x : ℕ). (walk_shape (words_after (with_words s v) t by) x).state) same;
    does = words_alike s t pos known v by meets same;
  }

-- ---- events

-- event e on its thread's view v comes to a, and on the machine's words to b
abbrev pub Comes : State → (ℕ → ℕ) → Event → After → After → Type 0
Comes s v e a b = Alike s (caller e) v (way s e b.note) a b

known_thread : (s : State) (t : ℕ) (b : Bool) → (has_thread s t && b) ≡ true → (1 ≤ t) × (t ≤ s.layout.threads)
known_thread s t b e = grind (arith, nat_tests)

module _ (s : State) (v : ℕ → ℕ) where
  -- where its test fails nothing happens
  chosen : (e : Event) (c : Bool) (a b : After) → (c ≡ true → Comes s v e a b) → Comes s v e (if c then a else nothing (with_words s v)) (if c then b else nothing s)
  chosen e true a b passes = passes refl
  chosen e false a b passes = record { note = refl; rest = refl; does = λ p. refl }

  -- so it is where the test looks at words, and comes out the same
  chosen_alike : (e : Event) (on_view on_words : Bool) → on_view ≡ on_words → (a b : After) → (on_words ≡ true → Comes s v e a b) → Comes s v e (if on_view then a else nothing (with_words s v)) (if on_words then b else nothing s)
  chosen_alike e on_view on_words same a b passes = subst (λ (c : Bool). Comes s v e (if c then a else nothing (with_words s v)) (if on_words then b else nothing s)) (sym same) (chosen e on_words a b passes)

  -- a shared word that is written
  shared_put : (t at x : ℕ) → IsShared s.layout at → Does s t v (Writes at) (put v at x) (put s.words at x)
  shared_put t at x shared = (shared, put-same v at x ∙ sym (put-same s.words at x), λ p apart. put-other s.words at x p apart)

  begun_alike : (t : ℕ) (o : Op) (r : Result Stage Reply) → Comes s v (Begin t o) (begun (with_words s v) t o r) (begun s t o r)
  begun_alike t o (Ok g) = record { note = refl; rest = refl; does = λ p. refl }
  begun_alike t o (Err x) = record { note = refl; rest = refl; does = λ p. refl }

  killed_alike : (t : ℕ) → 1 ≤ t → t ≤ s.layout.threads → Views s t v → Comes s v (Kill t) (killed (with_words s v) t) (killed s t)
  killed_alike t pos known views =
      record { note = refl; rest = refl; does = (head_place t, inl (pos, known, inl (inl refl)), views (head_place t) (inl (pos, known, inl (inl refl))), λ p apart. (refl, refl)) }

  declined_alike : (t held : ℕ) (g : Stage) → Comes s v (Decline t) (declined (with_words s v) t held g) (declined s t held g)
  declined_alike t held (Calling o p) = chosen (Decline t) (is_trim (whole_access p) && not (sleeps s t (Calling o p)))
      (spared (with_words s v) t held (mutex_of s.layout o) (led o p (whole_led p (Trimmed false))))
      (spared s t held (mutex_of s.layout o) (led o p (whole_led p (Trimmed false))))
      (λ on. record { note = refl; rest = refl; does = λ p. refl })
  declined_alike t held Idle = record { note = refl; rest = refl; does = λ p. refl }
  declined_alike t held (AtCondition c p) = record { note = refl; rest = refl; does = λ p. refl }
  declined_alike t held (Dying w) = record { note = refl; rest = refl; does = λ p. refl }
  declined_alike t held Reaped = record { note = refl; rest = refl; does = λ p. refl }

  expired_alike : (t held : ℕ) (g : Stage) → Comes s v (Expire t) (expired (with_words s v) t held g) (expired s t held g)
  expired_alike t held (Calling (OnMutex c) p) =
      chosen (Expire t) (is_timed (OnMutex c) && may_expire p.phase && sleeps s t (Calling (OnMutex c) p)) (lapsed (with_words s v) t held (OnMutex c) p) (lapsed s t held (OnMutex c) p)
      (λ on. record { note = refl; rest = refl; does = λ p. refl })
  expired_alike t held (Calling (OnCondition c) p) =
      chosen (Expire t) (is_timed (OnCondition c) && waits_on s t (condition_of c)) (overslept (with_words s v) t held (condition_of c) p) (overslept s t held (condition_of c) p)
      (λ on. record { note = refl; rest = refl; does = λ p. refl })
  expired_alike t held Idle = record { note = refl; rest = refl; does = λ p. refl }
  expired_alike t held (AtCondition c p) = record { note = refl; rest = refl; does = λ p. refl }
  expired_alike t held (Dying w) = record { note = refl; rest = refl; does = λ p. refl }
  expired_alike t held Reaped = record { note = refl; rest = refl; does = λ p. refl }

  -- who answers for a mutex is no matter of words, but of what the dead had pending
  answers_same : (m u : ℕ) → 1 ≤ u → u ≤ s.layout.threads → Pending_as s v → (g : Stage) → (s.threads u).stage ≡ g → answers s.layout v m u g ≡ answers s.layout s.words m u g
  answers_same m u first last pending (Calling o p) is = refl
  answers_same m u first last pending (AtCondition c p) is = refl
  answers_same m u first last pending (Dying w) is = ap (λ (x : ℕ). is_first w.row && (x == address_in s.layout u (entry_place s.layout m))) (pending u first last (ap is_alive is))
  answers_same m u first last pending Idle is = refl
  answers_same m u first last pending Reaped is = refl

  another_same : (t m n : ℕ) → n ≤ s.layout.threads → Pending_as s v → another_answers (with_words s v) t m n ≡ another_answers s t m n
  another_same t m zero few pending = refl
  another_same t m (suc n) few pending =
      let here : answers s.layout v m (suc n) (s.threads (suc n)).stage ≡ answers s.layout s.words m (suc n) (s.threads (suc n)).stage = answers_same m (suc n) (omega arith) few pending (s.threads (suc n)).stage refl in
      let later : another_answers (with_words s v) t m n ≡ another_answers s t m n = another_same t m n (omega arith) pending in
      λ i. (not (suc n == t) && not (is_asleep s (suc n)) && here i) || later i

  -- so it is of walks
  minds_same : (m u : ℕ) → v (head_place u + 2) ≡ s.words (head_place u + 2) → (r : walk_row.Row) → minds s.layout v m u r ≡ minds s.layout s.words m u r
  minds_same m u same walk.LoadFirst = ap (λ (x : ℕ). x == address_in s.layout u (entry_place s.layout m)) same
  minds_same m u same (walk.LoadOffset f) = ap (λ (x : ℕ). x == address_in s.layout u (entry_place s.layout m)) same
  minds_same m u same (walk.LoadPending f o) = ap (λ (x : ℕ). x == address_in s.layout u (entry_place s.layout m)) same
  minds_same m u same (walk.LoadNext r) = refl
  minds_same m u same (walk.LoadWord at (part.List r)) = refl
  minds_same m u same (walk.LoadWord at part.Pending) = refl
  minds_same m u same (walk.Mark at x twice (part.List r)) = refl
  minds_same m u same (walk.Mark at x twice part.Pending) = refl
  minds_same m u same (walk.WakeOne at (part.List r)) = refl
  minds_same m u same (walk.WakeOne at part.Pending) = refl
  minds_same m u same walk.Ended = refl

  walk_same : (m u : ℕ) → 1 ≤ u → u ≤ s.layout.threads → Pending_as s v → (g : Stage) → (s.threads u).stage ≡ g → walk_minds s.layout v m u g ≡ walk_minds s.layout s.words m u g
  walk_same m u first last pending (Dying w) is = minds_same m u (pending u first last (ap is_alive is)) w.row
  walk_same m u first last pending (Calling o p) is = refl
  walk_same m u first last pending (AtCondition c p) is = refl
  walk_same m u first last pending Idle is = refl
  walk_same m u first last pending Reaped is = refl

  a_walk_same : (m n : ℕ) → n ≤ s.layout.threads → Pending_as s v → a_walk_minds (with_words s v) m n ≡ a_walk_minds s m n
  a_walk_same m zero few pending = refl
  a_walk_same m (suc n) few pending =
      let here : walk_minds s.layout v m (suc n) (s.threads (suc n)).stage ≡ walk_minds s.layout s.words m (suc n) (s.threads (suc n)).stage = walk_same m (suc n) (omega arith) few pending (s.threads (suc n)).stage refl in
      let later : a_walk_minds (with_words s v) m n ≡ a_walk_minds s m n = a_walk_same m n (omega arith) pending in
      λ i. here i || later i

  -- and that somebody owns it is one of its cell
  left_same : Pending_as s v → ((m : ℕ) → m < s.layout.mutexes → v (cell_place s.layout m) ≡ s.words (cell_place s.layout m)) → (t m : ℕ) → m < s.layout.mutexes → (by : LeftTo) → is_left_to (with_words s v) t m by ≡ is_left_to s t m by
  left_same pending cells t m inside LeftTo.Thread = another_same t m s.layout.threads (omega arith) pending
  left_same pending cells t m inside LeftTo.Owner = ap (λ (x : ℕ). not ((fields_of x).owner == 0)) (cells m inside)
  left_same pending cells t m inside LeftTo.Walk = a_walk_same m s.layout.threads (omega arith) pending

  abbrev Inside : Stage → Type 0
  Inside (Calling o p) = mutex_of s.layout o < s.layout.mutexes
  Inside (AtCondition c p) = mutex_of s.layout (OnCondition c) < s.layout.mutexes
  Inside g = Unit {0}

  inside_of : (t held : ℕ) (g : Stage) → Sits s t held g → Inside g
  inside_of t held (Calling o p) fits = fits.0.inside
  inside_of t held (AtCondition c p) fits = fits.inside
  inside_of t held Idle fits = tt
  inside_of t held (Dying w) fits = tt
  inside_of t held Reaped fits = tt

  sparing_alike : Pending_as s v → ((m : ℕ) → m < s.layout.mutexes → v (cell_place s.layout m) ≡ s.words (cell_place s.layout m)) → (t : ℕ) (by : LeftTo) (held : ℕ) (g : Stage) → Inside g
      → Comes s v (Spare t by) (sparing (with_words s v) t by held g) (sparing s t by held g)
  sparing_alike pending cells t by held (Calling o p) inside =
      chosen_alike (Spare t by) (wakes_one p.phase && is_left_to (with_words s v) t (mutex_of s.layout o) by) (wakes_one p.phase && is_left_to s t (mutex_of s.layout o) by)
      (ap (λ (b : Bool). wakes_one p.phase && b) (left_same pending cells t (mutex_of s.layout o) inside by))
      (spared (with_words s v) t held (mutex_of s.layout o) (led o p (whole_led p (Count 1))))
      (spared s t held (mutex_of s.layout o) (led o p (whole_led p (Count 1))))
      (λ on. record { note = refl; rest = refl; does = λ p. refl })
  sparing_alike pending cells t by held (AtCondition c p) inside =
      chosen_alike (Spare t by) (wakes_next p.phase && is_left_to (with_words s v) t (mutex_of s.layout (OnCondition c)) by) (wakes_next p.phase && is_left_to s t (mutex_of s.layout (OnCondition c)) by)
      (ap (λ (b : Bool). wakes_next p.phase && b) (left_same pending cells t (mutex_of s.layout (OnCondition c)) inside by))
      (spared (with_words s v) t held (mutex_of s.layout (OnCondition c)) (led_at c p (cond_led p (Count 1))))
      (spared s t held (mutex_of s.layout (OnCondition c)) (led_at c p (cond_led p (Count 1))))
      (λ on. record { note = refl; rest = refl; does = λ p. refl })
  sparing_alike pending cells t by held Idle inside = record { note = refl; rest = refl; does = λ p. refl }
  sparing_alike pending cells t by held (Dying w) inside = record { note = refl; rest = refl; does = λ p. refl }
  sparing_alike pending cells t by held Reaped inside = record { note = refl; rest = refl; does = λ p. refl }

  module _ (t : ℕ) (inv : Kept s) (pos : 1 ≤ t) (known : t ≤ s.layout.threads) (views : Views s t v) where
    -- an access, by the way of the stage in which its thread stands
    staged : (g : Stage) (a b : After) → (s.threads t).stage ≡ g → Alike s t v (way_at s.layout t g) a b → Alike s t v (way_at s.layout t (s.threads t).stage) a b
    staged g a b is alike = subst (λ (h : Stage). Alike s t v (way_at s.layout t h) a b) (sym is) alike

    stepped_alike : (held : ℕ) (g : Stage) → (s.threads t).stage ≡ g → Comes s v (Step t) (stepped (with_words s v) t held g) (stepped s t held g)
    stepped_alike held Idle is = record { note = refl; rest = refl; does = λ p. refl }
    stepped_alike held Reaped is = record { note = refl; rest = refl; does = λ p. refl }
    stepped_alike held (Calling o p) is = go (sleeps s t (Calling o p))
      where
        meets : Meets s t (whole_access p)
        meets = calls_meet s t inv pos known o p is

        on_view : After
        on_view = went (with_words s v) t held (mutex_of s.layout o) (Mutex (mutex_of s.layout o)) (whole_access p) (led o p (whole_led p (answer_of (with_words s v) t (whole_access p))))

        on_words : After
        on_words = went s t held (mutex_of s.layout o) (Mutex (mutex_of s.layout o)) (whole_access p) (led o p (whole_led p (answer_of s t (whole_access p))))

        go : (c : Bool) → Comes s v (Step t) (if c then nothing (with_words s v) else on_view) (if c then nothing s else on_words)
        go true = record { note = refl; rest = refl; does = λ q. refl }
        go false = staged (Calling o p) on_view on_words is
            (went_alike s t pos known v held (mutex_of s.layout o) (Mutex (mutex_of s.layout o)) (whole_access p) (λ a. led o p (whole_led p a)) meets (views _ (is_met_by s t (whole_access p) pos known meets)))
    stepped_alike held (AtCondition c p) is =
        let meets = conditions_meet s t inv pos known c p is in
        staged (AtCondition c p) (stepped (with_words s v) t held (AtCondition c p)) (stepped s t held (AtCondition c p)) is
        (went_alike s t pos known v held (mutex_of s.layout (OnCondition c)) (Condition (condition_of c)) (cond_access p) (λ a. led_at c p (cond_led p a)) meets (views _ (is_met_by s t (cond_access p) pos known meets)))
    stepped_alike held (Dying w) is =
        let meets = walks_meet s t inv pos known w is in
        staged (Dying w) (stepped (with_words s v) t held (Dying w)) (stepped s t held (Dying w)) is
        (walk_alike s t pos known v held w meets (views _ (is_met_by s t (exit.access_of w) pos known meets)))

  module _ (t : ℕ) (pos : 1 ≤ t) (known : t ≤ s.layout.threads) where
    abbrev head : ℕ → ℕ
    head k = head_place t + k

    abbrev at_first : ℕ → ℕ
    at_first k = head_word s.layout (head k)

    outside : (p : ℕ) → p ≢ head 0 → p ≢ head 1 → p ≢ head 2 → (p < head_place t) ⊎ (head_place t + 3 ≤ p)
    outside p none one two = grind (arith)

    -- its three stores are what a renewal writes
    head_is_stored : (p : ℕ) → (renewed s t).state.words p ≡ stored (head_stores s.layout t) s.words p
    head_is_stored p =
        sym (by_put (λ x. x ≡ (renewed s t).state.words p) (put (put s.words (head 0) (at_first 0)) (head 1) (at_first 1)) (head 2) (at_first 2) p
        (λ is. sym (ap (renewed s t).state.words is ∙ renewed_word s t pos known 2 (omega arith)))
        (λ two. by_put (λ x. x ≡ (renewed s t).state.words p) (put s.words (head 0) (at_first 0)) (head 1) (at_first 1) p
        (λ is. sym (ap (renewed s t).state.words is ∙ renewed_word s t pos known 1 (omega arith)))
        (λ one. by_put (λ x. x ≡ (renewed s t).state.words p) s.words (head 0) (at_first 0) p
        (λ is. sym (ap (renewed s t).state.words is ∙ renewed_word s t pos known 0 (omega arith)))
        (λ none. sym (renewed_elsewhere s t pos known p (outside p none one two))))))

    head_is_own : (p : ℕ) → Waits p (head_stores s.layout t) → IsOwn s t p
    head_is_own p (inl e) = inl (inl (omega (arith, e)))
    head_is_own p (inr (inl e)) = inr (sym e)
    head_is_own p (inr (inr (inl e))) = inl (inr (inl (sym e)))
    head_is_own p (inr (inr (inr none))) = absurd none

    renewed_alike : Comes s v (Renew t) (renewed (with_words s v) t) (renewed s t)
    renewed_alike = record { note = refl; rest = refl; does = (pos, known, head_is_stored, head_is_own) }

  module _ (t m : ℕ) (cell : m < s.layout.mutexes → v (cell_place s.layout m) ≡ s.words (cell_place s.layout m)) where
    -- their tests look at the cell
    same_remake : (b : Bool) → nat_lt m s.layout.mutexes ≡ b → may_remake (with_words s v) t m ≡ may_remake s t m
    same_remake true e = ap (λ (x : ℕ). has_thread s t && is_idle (s.threads t).stage && nat_lt m s.layout.mutexes && (fields_of x).unusable) (cell (grind (arith, nat_tests)))
    same_remake false e = grind (arith)

    remake_inside : may_remake s t m ≡ true → m < s.layout.mutexes
    remake_inside e = grind (arith, nat_tests)

    remake_alike : Comes s v (Remake t m) (happens (with_words s v) (Remake t m)) (happens s (Remake t m))
    remake_alike = chosen_alike (Remake t m) (may_remake (with_words s v) t m) (may_remake s t m) (same_remake (nat_lt m s.layout.mutexes) refl) (reinited (with_words s v) t m (waiters_of (v at))) (reinited s t m (waiters_of (s.words at))) alike
      where
        at : ℕ
        at = cell_place s.layout m

        alike : may_remake s t m ≡ true → Comes s v (Remake t m) (reinited (with_words s v) t m (waiters_of (v at))) (reinited s t m (waiters_of (s.words at)))
        alike e = subst (λ (x : ℕ). Comes s v (Remake t m) (reinited (with_words s v) t m (waiters_of x)) (reinited s t m (waiters_of (s.words at)))) (sym (cell (remake_inside e)))
            (record { note = refl; rest = refl; does = shared_put t at (waiters_of (s.words at)) (inl (m, remake_inside e, refl)) })

-- each event, on its thread's view
pub events_alike : (s : State) (v : ℕ → ℕ) (e : Event) → Kept s → Views s (caller e) v → ((m : ℕ) → m < s.layout.mutexes → v (cell_place s.layout m) ≡ s.words (cell_place s.layout m)) → Pending_as s v
    → Comes s v e (happens (with_words s v) e) (happens s e)
events_alike s v (Begin t o) inv views cells pending =
    let first = first_stage s.layout t (s.threads t).held o in
    chosen s v (Begin t o) (may_begin s t o) (begun (with_words s v) t o first) (begun s t o first) (λ on. begun_alike s v t o first)
events_alike s v (Step t) inv views cells pending = go (has_thread s t) refl
  where
    go : (c : Bool) → has_thread s t ≡ c
        → Comes s v (Step t) (if c then stepped (with_words s v) t (s.threads t).held (s.threads t).stage else nothing (with_words s v)) (if c then stepped s t (s.threads t).held (s.threads t).stage else nothing s)
    go true e =
        let pos : 1 ≤ t = grind (arith, nat_tests) in
        let known : t ≤ s.layout.threads = grind (arith, nat_tests) in
        stepped_alike s v t inv pos known views (s.threads t).held (s.threads t).stage refl
    go false e = record { note = refl; rest = refl; does = λ p. refl }
events_alike s v (Kill t) inv views cells pending =
    chosen s v (Kill t) (has_thread s t && is_alive (s.threads t).stage) (killed (with_words s v) t) (killed s t)
    (λ on. let there = known_thread s t (is_alive (s.threads t).stage) on in killed_alike s v t there.0 there.1 views)
events_alike s v (Leave t) inv views cells pending =
    chosen s v (Leave t) (has_thread s t && is_asleep s t) (departed (with_words s v) t) (departed s t) (λ on. record { note = refl; rest = refl; does = λ p. refl })
events_alike s v (Expire t) inv views cells pending =
    chosen s v (Expire t) (has_thread s t) (expired (with_words s v) t (s.threads t).held (s.threads t).stage) (expired s t (s.threads t).held (s.threads t).stage)
    (λ on. expired_alike s v t (s.threads t).held (s.threads t).stage)
events_alike s v (Decline t) inv views cells pending =
    chosen s v (Decline t) (has_thread s t) (declined (with_words s v) t (s.threads t).held (s.threads t).stage) (declined s t (s.threads t).held (s.threads t).stage)
    (λ on. declined_alike s v t (s.threads t).held (s.threads t).stage)
events_alike s v (Renew t) inv views cells pending =
    chosen s v (Renew t) (has_thread s t && is_gone (s.threads t).stage) (renewed (with_words s v) t) (renewed s t)
    (λ on. let there = known_thread s t (is_gone (s.threads t).stage) on in renewed_alike s v t there.0 there.1)
events_alike s v (Remake t m) inv views cells pending = remake_alike s v t m (cells m)
events_alike s v (Spare t by) inv views cells pending =
    chosen s v (Spare t by) (has_thread s t) (sparing (with_words s v) t by (s.threads t).held (s.threads t).stage) (sparing s t by (s.threads t).held (s.threads t).stage)
    (λ on. sparing_alike s v pending cells t by (s.threads t).held (s.threads t).stage (inside_of s v t (s.threads t).held (s.threads t).stage (sits on)))
  where
    sits : has_thread s t ≡ true → Sits s t (s.threads t).held (s.threads t).stage
    sits on = inv.sits t (grind (arith, nat_tests)) (grind (arith, nat_tests))
