-- One access of a call, on the words and the threads of the machine.
use Rattle.std.proofs.Common.{◌≡◌, ℕ, ◌<◌, Bool, true, Option, Some, None, List, [], refl, sym, ap, subst, arith}
use Rattle.protocol.proofs.Vocabulary.{CondCall, CondOnward, condition_of, CondWhole, cond_access, cond_led, Queue, Mutex, Condition, Access, Answer, Operation, Object, Layout'}
use Rattle.protocol.proofs.Vocabulary.{counter_place, cell_place, changed, sleeps_at, word_among, Permits, Run, object_of, fresh, acquires, fields_of, Reply, OK, EOWNERDEAD, Onward, Whole, whole_access}
use Rattle.protocol.proofs.Vocabulary.{whole_led, decided, Joins, Thread, Stage, Calling, AtCondition, Op, OnCondition, mutex_of, Note, Stepped, State, put, is_valid, is_met}
use Rattle.protocol.proofs.Vocabulary.{place_met, answer_among, queue_after, woken_by, moved_by, joined, answer_of, woken, led, led_at, went, held_after, decision, slept_in, seen}
use Rattle.protocol.proofs.Vocabulary.{if◌then◌else◌, nat_lt, nat_tests, Fault}
use Rattle.mutex.specs.declared.row.Row.{Row}
use Rattle.mutex.specs.Rows.{IsGoing}
use Rattle.mutex.specs.Programs.{row_access, row_operation, point_of}
use Rattle.mutex.specs.Laws.{points, IsOf}
use Rattle.protocol.proofs.Seeing.{cell_in, counter_in}
use Rattle.protocol.specs.Machine.{words_after, queues_after, moved, Led}

-- an access that is no trim
abbrev pub IsNoTrim : Access → Type 0
IsNoTrim (Access.Trim at) = ⊥
IsNoTrim a = Unit {0}

-- it does what it does to its word, whoever sleeps there
pub untrimmed : (a : Access) (w : ℕ) (q : List ℕ) → IsNoTrim a → word_among a w q ≡ changed a w
untrimmed (Access.Trim at) w q none = absurd none
untrimmed a w q none = refl

-- each cell is inside
pub is_valid-cell : (l : Layout') (m : ℕ) → m < l.mutexes → is_valid l (cell_place l m) ≡ true
is_valid-cell l m inside = grind (arith, nat_tests)

-- what is seen of a mutex is what its cell says
pub seen-inside : (s : State) (m : ℕ) → m < s.layout.mutexes → seen s m ≡ object_of (fields_of (s.words (cell_place s.layout m)))
seen-inside s m inside =
    let lt : nat_lt m s.layout.mutexes ≡ true = grind (arith, nat_tests) in
    ap (λ (b : Bool). if b then object_of (fields_of (s.words (cell_place s.layout m))) else fresh) lt

-- what a point tells of the mutex; where there is none, nothing changed
abbrev pub Tells : ℕ → Object → Operation → Option Reply → Object → Type 0
Tells t o op None n = n ≡ o
Tells t o op (Some x) n = Permits o t op x n

-- what the law of programs says of a step, in the words of the machine
pub run_tells : (t cell : ℕ) (o n : Object) (op : Operation) (x : Option Reply) → Run o (points (point_of t cell op x)) n → Tells t o op x n
run_tells t cell o n op None r = r
run_tells t cell o n op (Some x) r = subst (Permits o t op x) (sym r.2) r.1

-- a call stays of its operation
pub same_operation : (r q : Row) → IsGoing q → IsOf (row_operation r) q → row_operation q ≡ row_operation r
same_operation r q going same = grind (arith)

-- a reply that leaves a thread with one mutex more
abbrev pub Takes : Reply → Type 0
Takes OK = Unit {0}
Takes EOWNERDEAD = Unit {0}
Takes x = ⊥

-- a lock or trylock that goes on has taken nothing: it is undecided, or lost
pub not_taken : (r : Row) (x : Reply) → IsGoing r → acquires (row_operation r) ≡ true → decided r ≡ Some x → Takes x → ⊥
not_taken r x going takes e took = grind (arith)

-- a point by which nothing was taken leaves a lock or trylock with as many mutexes
held_lost : (op : Operation) (held : ℕ) (x : Reply) → acquires op ≡ true → (Takes x → ⊥) → held_after held op (Some x) ≡ held
held_lost op held x takes lost = grind (arith)

-- without a point a thread holds as many mutexes
pub unmoved : (op : Operation) (held : ℕ) → held_after held op None ≡ held
unmoved op held = grind (arith)

-- an access after which a lock or trylock goes on leaves its thread with as many mutexes
pub same_held : (d x y : Option Reply) (op : Operation) (held : ℕ) → Joins d x y → acquires op ≡ true → ((z : Reply) → y ≡ Some z → Takes z → ⊥) → held_after held op x ≡ held
same_held d None y op held joins takes lost = unmoved op held
same_held None (Some z) y op held joins takes lost = held_lost op held z takes (lost z joins)
same_held (Some r) (Some z) y op held joins takes lost = absurd (cc joins.0)

-- ---- one access of a thread

-- where it was; the access; where it leads; and what point that is, of an operation on a mutex
pub record Transition : Type 0 where
  pub from : Stage
  pub access : Access
  pub next : Stage
  pub mutex : ℕ
  pub operation : Operation
  pub point : Option Reply

-- after an access the thread is th
abbrev pub done : State → ℕ → Access → Thread → State
done s t a th = record {
  layout = s.layout;
  words = put s.words (place_met s.layout t a) (word_among a (s.words (place_met s.layout t a)) (s.queues (place_met s.layout t a)));
  queues = joined s.layout t a (moved_by a (s.words (place_met s.layout t a)) (s.queues (place_met s.layout t a))) (put s.queues (place_met s.layout t a) (queue_after t a (s.words (place_met s.layout t a)) (s.queues (place_met s.layout t a))));
  threads = put s.threads t th;
}

abbrev pub thread_after : State → ℕ → Transition → Thread
thread_after s t v = record { stage = v.next; held = held_after (s.threads t).held v.operation v.point }

abbrev pub after : State → ℕ → Transition → State
after s t v = done s t v.access (thread_after s t v)

-- the place of the word that it meets, the word, and who sleeps there
abbrev pub place_of : State → ℕ → Transition → ℕ
place_of s t v = place_met s.layout t v.access

abbrev pub met : State → ℕ → Transition → ℕ
met s t v = s.words (place_of s t v)

abbrev pub met_queue : State → ℕ → Transition → List ℕ
met_queue s t v = s.queues (place_of s t v)

-- ---- requeues

-- an access that moves nobody
abbrev pub IsNoMove : Access → Type 0
IsNoMove (Access.Requeue from n to k) = ⊥
IsNoMove (Access.CmpRequeue from e n to k) = ⊥
IsNoMove a = Unit {0}

-- it is met where its address is valid
pub met_no_move : (l : Layout') (t : ℕ) (a : Access) → IsNoMove a → is_met l t a ≡ is_valid l (place_met l t a)
met_no_move l t (Access.Requeue from n to k) none = absurd none
met_no_move l t (Access.CmpRequeue from e n to k) none = absurd none
met_no_move l t a none = refl

pub moves_none : (a : Access) (w : ℕ) (q : List ℕ) → IsNoMove a → moved_by a w q ≡ []
moves_none (Access.Requeue from n to k) w q none = absurd none
moves_none (Access.CmpRequeue from e n to k) w q none = absurd none
moves_none a w q none = refl

pub joined_none : (l : Layout') (t : ℕ) (a : Access) (us : List ℕ) (qs : ℕ → List ℕ) → IsNoMove a → joined l t a us qs ≡ qs
joined_none l t (Access.Requeue from n to k) us qs none = absurd none
joined_none l t (Access.CmpRequeue from e n to k) us qs none = absurd none
joined_none l t a us qs none = refl

-- a row of a call on a mutex moves nobody
pub row_no_move : (t cell : ℕ) (r : Row) → IsNoMove (row_access t cell r)
row_no_move t cell r = grind (arith)

-- ---- where an access is met

module _ (s : State) (t : ℕ) (a : Access) (valid : is_met s.layout t a ≡ true) where
  abbrev at : ℕ
  at = place_met s.layout t a

  abbrev w : ℕ
  w = s.words at

  abbrev q : List ℕ
  q = s.queues at

  pub answer-is : answer_of s t a ≡ answer_among a w q
  answer-is = ap (λ (b : Bool). if b then answer_among a w q else Fault) valid

  pub words-is : words_after s t a ≡ put s.words at (word_among a w q)
  words-is = ap (λ (b : Bool). if b then put s.words at (word_among a w q) else s.words) valid

  pub queues-is : queues_after s t a ≡ joined s.layout t a (moved_by a w q) (put s.queues at (queue_after t a w q))
  queues-is = ap (λ (b : Bool). if b then joined s.layout t a (moved_by a w q) (put s.queues at (queue_after t a w q)) else s.queues) valid

  pub woken-is : woken s t a ≡ woken_by a w q
  woken-is = ap (λ (b : Bool). if b then woken_by a w q else []) valid

  pub moved-is : moved s t a ≡ moved_by a w q
  moved-is = ap (λ (b : Bool). if b then moved_by a w q else []) valid

-- ---- one access of a call

-- from a stage, by an access, where its answer leads
abbrev pub step_of : Stage → ℕ → Access → Led → Transition
step_of from m a g = record { from = from; access = a; next = g.stage; mutex = m; operation = g.operation; point = g.point }

-- as it is noted, of one that would sleep in queue k
abbrev pub note_of : State → ℕ → ℕ → Queue → Access → Led → Note
note_of s t m k a g =
    Stepped t m (decision t m g.operation g.point) (slept_in k (sleeps_at a (s.words (place_met s.layout t a)))) (woken_by a (s.words (place_met s.layout t a)) (s.queues (place_met s.layout t a)))
    (moved_by a (s.words (place_met s.layout t a)) (s.queues (place_met s.layout t a))) g.returned

-- what it leaves and notes, where it is met
pub went-is : (s : State) (t m : ℕ) (k : Queue) (from : Stage) (a : Access) (leads : Answer → Led) → is_met s.layout t a ≡ true
    → went s t (s.threads t).held m k a (leads (answer_of s t a))
    ≡ record {
      state = after s t (step_of from m a (leads (answer_among a (s.words (place_met s.layout t a)) (s.queues (place_met s.layout t a)))));
      note = note_of s t m k a (leads (answer_among a (s.words (place_met s.layout t a)) (s.queues (place_met s.layout t a))));
    }
went-is s t m k from a leads valid = grind (arith)

-- of a call on a mutex, or the lock that ends a wait
abbrev pub onto : State → ℕ → Whole → Onward
onto s t p = whole_led p (answer_among (whole_access p) (s.words (place_met s.layout t (whole_access p))) (s.queues (place_met s.layout t (whole_access p))))

abbrev pub call_step : State → ℕ → Op → Whole → Transition
call_step s t o p = step_of (Calling o p) (mutex_of s.layout o) (whole_access p) (led o p (onto s t p))

abbrev pub call_note : State → ℕ → Op → Whole → Note
call_note s t o p = note_of s t (mutex_of s.layout o) (Mutex (mutex_of s.layout o)) (whole_access p) (led o p (onto s t p))

-- of a call on a condition variable, before that
abbrev pub cond_onto : State → ℕ → CondWhole → CondOnward
cond_onto s t p = cond_led p (answer_among (cond_access p) (s.words (place_met s.layout t (cond_access p))) (s.queues (place_met s.layout t (cond_access p))))

abbrev pub cond_step : State → ℕ → CondCall → CondWhole → Transition
cond_step s t c p = step_of (AtCondition c p) (mutex_of s.layout (OnCondition c)) (cond_access p) (led_at c p (cond_onto s t p))

abbrev pub cond_note : State → ℕ → CondCall → CondWhole → Note
cond_note s t c p = note_of s t (mutex_of s.layout (OnCondition c)) (Condition (condition_of c)) (cond_access p) (led_at c p (cond_onto s t p))

-- what such a call is about: its mutex, that one's cell, and its counter
abbrev pub its_mutex : State → CondCall → ℕ
its_mutex s c = mutex_of s.layout (OnCondition c)

abbrev pub its_cell : State → CondCall → ℕ
its_cell s c = cell_place s.layout (its_mutex s c)

abbrev pub its_counter : State → CondCall → ℕ
its_counter s c = counter_place s.layout (condition_of c)

-- the addresses of the two, in thread t's process
abbrev pub cell_at : State → ℕ → CondCall → ℕ
cell_at s t c = cell_in s.layout t (its_mutex s c)

abbrev pub counter_at : State → ℕ → CondCall → ℕ
counter_at s t c = counter_in s.layout t (condition_of c)

-- the state that its access leaves
abbrev pub cond_after : State → ℕ → CondCall → CondWhole → State
cond_after s t c p = after s t (cond_step s t c p)
