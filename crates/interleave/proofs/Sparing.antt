-- Wakes that are spared, and calls that go on with an answer to an access that isn't made: a write into the list of threads is a write into the state.
use Rattle.std.specs.Option.{SomeIff}
use Rattle.std.proofs.Common.{Option, Some, ◌≡◌, ◌≢◌, ℕ, suc, ◌+◌, ◌<◌, ◌≤◌, ◌==◌, Bool, true, false, ◌&&◌, None, List, [], length, refl, sym, ap, ◌∙◌, subst, arith, slice_index_or, slice_set, eqb-true}
use Rattle.std.specs.Prelude.{if◌then◌else◌, not, ◌||◌}
use Rattle.std.proofs.lemmas.Bool.Decides.{nat_tests}
use Rattle.memorymap.specs.Layouts.{Layout'}
use Rattle.stepprograms.specs.declared.access.Answer.{Answer}
use Rattle.stepprograms.specs.declared.access.Answer.TheVariants.{Count}
use Rattle.stepprograms.specs.declared.program.Progress.{Progress}
use Rattle.condvar.specs.Ops.{mutex_of}
use Rattle.facts.specs.declared.fact.Queue.{Queue}
use Rattle.syscalls.specs.Kernels.{Kernel'}
use Rattle.protocol.specs.declared.event.Event.{Event}
use Rattle.protocol.specs.declared.event.Event.TheVariants.{Spare}
use Rattle.protocol.specs.declared.event.LeftTo.{LeftTo}
use Rattle.protocol.specs.declared.note.Note.{Note}
use Rattle.protocol.specs.declared.note.Note.TheVariants.{Nothing, Stepped}
use Rattle.protocol.specs.declared.thread.Thread.{Thread}
use Rattle.protocol.specs.declared.thread.Stage.{Stage}
use Rattle.protocol.specs.Machine.{State, After, has_thread, nothing, idle, spared, sparing, slept_in, wakes_one, wakes_next, a_walk_minds, another_answers, answers, is_left_to, walk_minds, is_asleep, Led, put, held_after, happens}
use Rattle.std.proofs.lemmas.Bool.{eqb-false}
use Rattle.protocol.proofs.Sparing.{a_walk_again, another_again}
use Rattle.interleave.specs.declared.accesses.Performed.{Performed}
use Rattle.interleave.specs.declared.calls.InCall.{InCall}
use Rattle.interleave.specs.declared.calls.InCall.TheVariants as in_call
use Rattle.interleave.specs.Calls.{led_by, op_of, progress_behind, stage_behind, stage_of}
use Rattle.interleave.specs.Perform.{decision_with, held_with, point_in, reply_in}
use Rattle.interleave.specs.Shown.{state_at, thread_at}
use Rattle.interleave.proofs.Views.{threads-set, thread_at-index, made_by, IsMade}
use Rattle.lockword.specs.Threads.{most_threads}

-- a call in progress is about to wake one sleeper of its mutex
abbrev pub wakes_by : InCall → Bool
wakes_by (in_call.Calling o p) = wakes_one p.phase
wakes_by (in_call.AtCondition c p) = wakes_next p.phase

sparing_by : (s : State) (t : ℕ) (by : LeftTo) (held : ℕ) (call : InCall)
    → sparing s t by held (stage_of call) ≡ (if wakes_by call && is_left_to s t (mutex_of s.layout (op_of call)) by then spared s t held (mutex_of s.layout (op_of call)) (led_by call (Count 1)) else nothing s)
sparing_by s t by held (in_call.Calling o p) = refl
sparing_by s t by held (in_call.AtCondition c p) = refl

-- a thread in a call
module _ (s : State) (t : ℕ) (by : LeftTo) (call : InCall) (is : (s.threads t).stage ≡ stage_of call) where
  abbrev spares : After
  spares = spared s t (s.threads t).held (mutex_of s.layout (op_of call)) (led_by call (Count 1))

  ran : (b x : Bool) → has_thread s t ≡ b → (wakes_by call && is_left_to s t (mutex_of s.layout (op_of call)) by) ≡ x → happens s (Spare t by) ≡ (if b then (if x then spares else nothing s) else nothing s)
  ran b x there told =
      ap (λ (g : Stage). if has_thread s t then sparing s t by (s.threads t).held g else nothing s) is
      ∙ ap (λ (a : After). if has_thread s t then a else nothing s) (sparing_by s t by (s.threads t).held call)
      ∙ (λ i. if there i then (if told i then spares else nothing s) else nothing s)

  -- where it isn't about to wake one, or no other answers, nothing happens
  pub rests : (wakes_by call && is_left_to s t (mutex_of s.layout (op_of call)) by) ≡ false → (s ≡ (happens s (Spare t by)).state) × (Nothing ≡ (happens s (Spare t by)).note)
  rests never = (sym (ap (λ (a : After). a.state) stays), sym (ap (λ (a : After). a.note) stays))
    where
      go : (b : Bool) → (if b then nothing s else nothing s) ≡ nothing s
      go true = refl
      go false = refl

      stays : happens s (Spare t by) ≡ nothing s
      stays = ran (has_thread s t) false refl never ∙ go (has_thread s t)

-- ---- as the code reads the thread in its list

pub is_there : (s : State) (k t : ℕ) → k + 1 ≡ t → t ≤ s.layout.threads → has_thread s t ≡ true
is_there s k t at known = grind (arith, nat_tests)

-- its wake is spared
pub spares_there : (l : Layout') (ts : List Thread) (k t : ℕ) (by : LeftTo) (call : InCall) (th : Thread) → k + 1 ≡ t → t ≤ l.threads → thread_at ts t ≡ th → (thread_at ts t).stage ≡ stage_of call → wakes_by call ≡ true
    → (ws : List ℕ) (kernel : Kernel') → is_left_to (state_at l ws kernel ts) t (mutex_of l (op_of call)) by ≡ true
    → happens (state_at l ws kernel ts) (Spare t by) ≡ spared (state_at l ws kernel ts) t th.held (mutex_of l (op_of call)) (led_by call (Count 1))
spares_there l ts k t by call th at known e is wakes ws kernel left =
    let s : State = state_at l ws kernel ts in
    ran s t by call is true true (is_there s k t at known) (ap (λ (b : Bool). b && is_left_to s t (mutex_of l (op_of call)) by) wakes ∙ left)
    ∙ ap (λ (z : Thread). spared s t z.held (mutex_of l (op_of call)) (led_by call (Count 1))) e

-- where it stands
pub stands_there : (ts : List Thread) (k t : ℕ) (th : Thread) (g : Stage) → k + 1 ≡ t → th ≡ slice_index_or ts k idle → th.stage ≡ g → (thread_at ts t).stage ≡ g
stands_there ts k t th g at read is = ap (λ (z : Thread). z.stage) (thread_at-index ts k t at ∙ sym read) ∙ is

-- a test that fails
pub fails_first : (a b : Bool) → a ≡ false → (a && b) ≡ false
fails_first true b e = absurd cc
fails_first false b e = refl

pub fails_second : (a b : Bool) → b ≡ false → (a && b) ≡ false
fails_second true b e = e
fails_second false b e = refl

-- a thread in a call goes on with an answer to an access that isn't made: as the code made of it, and as the definition does
module _ (l : Layout') (ts : List Thread) (k t : ℕ) (call : InCall) (x : Answer) (th : Thread) (at : k + 1 ≡ t) (known : t ≤ l.threads) (len : length ts ≡ l.threads)
    (done : Performed) (quiet : done ≡ record { answer = x; slept = false; woken = []; moved = [] }) (pr : Progress) (came : pr ≡ progress_behind call done.answer)
    (g : Stage) (held : ℕ) (staged : g ≡ stage_behind call done.answer) (counted : held ≡ held_with th.held (point_in pr))
    (m : ℕ) (q : Queue) (note : Note) (of : m ≡ mutex_of l (op_of call)) (noted : note ≡ Stepped t m (decision_with t m (point_in pr)) (slept_in q done.slept) done.woken done.moved (reply_in pr))
    (e : Event) (ws : List ℕ) (kernel : Kernel') (happened : happens (state_at l ws kernel ts) e ≡ spared (state_at l ws kernel ts) t th.held (mutex_of l (op_of call)) (led_by call x)) where
  abbrev was : State
  was = state_at l ws kernel ts

  abbrev to : Led
  to = led_by call x

  told : pr ≡ progress_behind call x
  told = came ∙ (λ i. progress_behind call (quiet i).answer)

  is_made : IsMade t (mutex_of l (op_of call)) th.held to (record { stage = stage_behind call x; held = held_with th.held (point_in (progress_behind call x)); point = decision_with t (mutex_of l (op_of call)) (point_in (progress_behind call x)); returned = reply_in (progress_behind call x) })
  is_made = made_by t (mutex_of l (op_of call)) th.held call x

  -- both what it leaves and what is noted of it
  pub answered_shows : (state_at l ws kernel (slice_set ts k (record { stage = g; held = held })) ≡ (happens was e).state) × (note ≡ (happens was e).note)
  answered_shows =
      let stage : g ≡ to.stage = staged ∙ (λ i. stage_behind call (quiet i).answer) ∙ is_made.stage in
      let few : held ≡ held_after th.held to.operation to.point = counted ∙ (λ i. held_with th.held (point_in (told i))) ∙ is_made.held in
      let threads : thread_at (slice_set ts k (record { stage = g; held = held })) ≡ put (thread_at ts) t (record { stage = to.stage; held = held_after th.held to.operation to.point }) =
      threads-set ts k t (record { stage = g; held = held }) at (omega arith) ∙ (λ i. put (thread_at ts) t (record { stage = stage i; held = few i })) in (
        (λ i. record was { threads = threads i }) ∙ sym (ap (λ (a : After). a.state) happened),
        noted
            ∙ (λ i. Stepped t (of i) (decision_with t (of i) (point_in (told i))) (slept_in q (quiet i).slept) (quiet i).woken (quiet i).moved (reply_in (told i)))
            ∙ (λ i. Stepped t (mutex_of l (op_of call)) (is_made.point i) None [] [] (is_made.returned i))
            ∙ sym (ap (λ (a : After). a.note) happened),
      )

-- ---- another that answers

-- whoever sleeps doesn't
pub asleep_fails : (a b c : Bool) → b ≡ true → false ≡ (not a && not b && c)
asleep_fails true b c e = refl
asleep_fails false true c e = refl
asleep_fails false false c e = absurd cc

-- another that is awake does where it answers
pub other_holds : (a b c : Bool) → a ≡ false → b ≡ false → c ≡ (not a && not b && c)
other_holds false false c e f = refl
other_holds true b c e f = absurd cc
other_holds false true c e f = absurd cc

-- none of one thread more
pub one_more : (s : State) (t m i : ℕ) → another_answers s t m i ≡ false → (not (suc i == t) && not (is_asleep s (suc i)) && answers s.layout s.words m (suc i) (s.threads (suc i)).stage) ≡ false → another_answers s t m (i + 1) ≡ false
one_more s t m i none here = subst (λ (n : ℕ). another_answers s t m n ≡ false) (one_suc i) (ap (λ (b : Bool). b || another_answers s t m i) here ∙ none)
  where
    one_suc : (i : ℕ) → suc i ≡ i + 1
    one_suc i = omega arith

-- one does
pub one_does : (s : State) (t m i n : ℕ) → i < n → (not (suc i == t) && not (is_asleep s (suc i)) && answers s.layout s.words m (suc i) (s.threads (suc i)).stage) ≡ true → true ≡ another_answers s t m n
one_does s t m i n below here = go (suc i == t) refl (is_asleep s (suc i)) refl (answers s.layout s.words m (suc i) (s.threads (suc i)).stage) refl here
  where
    go : (a : Bool) → (suc i == t) ≡ a → (b : Bool) → is_asleep s (suc i) ≡ b → (c : Bool) → answers s.layout s.words m (suc i) (s.threads (suc i)).stage ≡ c → (not a && not b && c) ≡ true → true ≡ another_answers s t m n
    go false apart false awake true looks e = sym (another_again s t m n (suc i) (omega arith) (omega arith) (eqb-false (suc i) t apart) awake looks)
    go true is b f c g e = absurd cc
    go false apart true f c g e = absurd cc
    go false apart false f false g e = absurd cc

-- by their ids
pub differs : (t u x y : ℕ) → x ≡ t → y ≡ u → x ≢ y → (t == u) ≡ false
differs t u x y is other apart = go (t == u) refl
  where
    go : (b : Bool) → (t == u) ≡ b → b ≡ false
    go false e = refl
    go true e = absurd (apart (is ∙ eqb-true t u e ∙ sym other))

-- the thread with one more than this index
pub its_own : (r : Option ℕ) (i t : ℕ) → SomeIff r ((1 ≤ i + 1) × (i + 1 ≤ most_threads)) (i + 1) → r ≡ Some t → t ≡ suc i
its_own r i t h is = grind (arith)

-- ---- a walk that does

-- none of one thread more
pub no_walk_more : (s : State) (m i : ℕ) → a_walk_minds s m i ≡ false → walk_minds s.layout s.words m (suc i) (s.threads (suc i)).stage ≡ false → a_walk_minds s m (i + 1) ≡ false
no_walk_more s m i none here = subst (λ (n : ℕ). a_walk_minds s m n ≡ false) (one_suc i) (ap (λ (b : Bool). b || a_walk_minds s m i) here ∙ none)
  where
    one_suc : (i : ℕ) → suc i ≡ i + 1
    one_suc i = omega arith

-- one does
pub one_walk_does : (s : State) (m i n : ℕ) → i < n → walk_minds s.layout s.words m (suc i) (s.threads (suc i)).stage ≡ true → true ≡ a_walk_minds s m n
one_walk_does s m i n below here = sym (a_walk_again s m n (suc i) (omega arith) (omega arith) here)
