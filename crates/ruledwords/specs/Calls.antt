-- The accesses of a call, on what its pass knows.
use Rattle.std.specs.Prelude.{◌≡◌, ℕ, ◌+◌, ◌-◌, ◌^◌, ◌<◌, ◌≤◌, Bool, true, Option, Some, None, List, [], ◌∷◌, length}
use Rattle.lockword.specs.Cells.{fields_of, word_of}
use Rattle.lockword.specs.declared.reply.Reply.{Reply}
use Rattle.lockword.specs.declared.reply.Reply.TheVariants.{OK, EOWNERDEAD}
use Rattle.stepprograms.specs.declared.access.Access.{Access}
use Rattle.stepprograms.specs.declared.access.Answer.{Answer}
use Rattle.posixmutex.specs.declared.point.Operation.{Operation}
use Rattle.posixmutex.specs.declared.point.Operation.TheVariants.{Lock, TryLock, Unlock, Death}
use Rattle.posixmutex.specs.declared.point.Point.{Point}
use Rattle.posixmutex.specs.declared.object.Object.{Object}
use Rattle.stepprograms.specs.Accesses.{changed, answer_at}
use Rattle.posixmutex.specs.Histories.{is_thread}
use Rattle.memorymap.specs.Addresses.{address_from}
use Rattle.memorymap.specs.Layouts.{Layout', cell_place, address_in}
use Rattle.posixmutex.specs.Objects.{held_limit, fresh, Run, object_of, acquires}
use Rattle.facts.specs.Lives.{Act}
use Rattle.mutex.specs.declared.row.Row.{Row}
use Rattle.mutex.specs.declared.row.Row.TheVariants as row
use Rattle.mutex.specs.declared.row.Led.{Led}
use Rattle.mutex.specs.declared.lock.LockRow.TheVariants as lock
use Rattle.mutex.specs.declared.try_lock.TryLockRow.TheVariants as try
use Rattle.mutex.specs.declared.phase.Phase.{Phase}
use Rattle.mutex.specs.declared.phase.Phase.TheVariants as phase
use Rattle.mutex.specs.declared.unlock.UnlockRow.TheVariants.{Release}
use Rattle.mutex.specs.Laws.{Expects, Sound, points, decided, IsOf, reached, changes, tells_change}
use Rattle.mutex.specs.Programs.{access_of, led, point_of, row_operation}
use Rattle.mutex.specs.Rows.{Knows}
use Rattle.mutex.specs.Standings.{Standing, Whole}
use Rattle.mutex.specs.Whole.{IsUnderWay}
use Rattle.mutex.specs.Steps.{Expects-prop, Knows-prop}
use Rattle.ruledwords.specs.declared.pass.Card.{Card}
use Rattle.ruledwords.specs.Cards.{at, value_at}
use Rattle.ruledwords.specs.Changes.{changes_at, left_by, made_by_others, KnowsMoreAt, Writes}
use Rattle.ruledwords.specs.Seen.{holds, Sees, Called}
use Rattle.ruledwords.specs.OwnWords.{IsOwn, KnowsOwn}
use Rattle.ruledwords.specs.Rules.{Sat, At, Turns}
use Rattle.std.proofs.Props.{props}
use Rattle.lockword.specs.Threads.{most_threads}

-- where a call stands as its mutex sees it: before a row, or at its end once it has been finished with the cell
abbrev pub row_in : Phase → Row
row_in (phase.Announcing r) = r
row_in (phase.AtCell r) = r
row_in (phase.Linking l x) = row.Ended x
row_in (phase.Unlinking u d) = row.Unlock (Release d)
row_in (phase.Clearing x) = row.Ended x
row_in (phase.Ended x) = row.Ended x

abbrev pub standing_of : Whole → Standing
standing_of p = record { thread = p.thread; cell = p.cell; row = row_in p.phase }

-- where a call goes whose access meets this word
abbrev pub led_at : Standing → ℕ → Led
led_at p n = led p (answer_at (access_of p) n)

-- the access is an exchange that found another word
abbrev pub fails : Access → ℕ → ℕ
fails a n = tells_change (answer_at a n)

-- the address that the card's thread has for a place
abbrev pub address_at : Card → ℕ → ℕ
address_at c q = address_from c.base q

-- the call is on mutex m of the layout: that is the mutex whose cell its thread has at the call's address
abbrev pub IsOnMutex : Layout' → Standing → ℕ → Type 0
IsOnMutex k p m = (m < k.mutexes) × (p.cell ≡ address_in k p.thread (cell_place k m))

abbrev pub IsInLayout : Layout' → Standing → Type 0
IsInLayout k p = (m : ℕ) × IsOnMutex k p m

-- it is a call of the card's thread, and what its row needs of the mutex is so, as far as that thread has seen it
abbrev pub Ready : Standing → Card → Type 0
Ready p c = (p.thread ≡ c.thread) × Knows p.row
    × ((q : ℕ) (o : Object) → q < 2 ^ 64 → p.cell ≡ address_at c q → Run fresh (at c.seen q) o
    → Expects c.thread p.row o)

-- an access of a call, at the cell at q, whose word was n: its point, if it is one, is what the thread newly sees
pub record Made (p : Standing) (q : ℕ) (c : Card) (n : ℕ) (d : Card) : Type 0 where
  pub sees : Sees c q (points (point_of c.thread q (row_operation p.row) (led_at p n).point))
      (object_of (fields_of (changed (access_of p) n))) d
  pub misses : d.misses ≡ c.misses + fails (access_of p) n
  pub last : d.last ≡ n
  pub counted : d.counted ≡ c.counted
  pub trims : d.trims ≡ c.trims
  pub writes : Writes c q n (changed (access_of p) n) d
  pub sound : Sound (object_of (fields_of n))
  pub met : Expects c.thread p.row (object_of (fields_of n))
  pub holder : holds c.thread (at c.seen q) ≡ is_thread c.thread (object_of (fields_of n)).owner
  pub thread : (1 ≤ c.thread) × (c.thread ≤ most_threads)

-- what the thread knows of its own words is as it was at those that stay its own; and it knows all, if it did
pub record OwnKept (k : Layout') (c d : Card) : Type 0 where
  pub agrees : (p : ℕ) → IsOwn k c p → IsOwn k d p → value_at d.values p ≡ value_at c.values p
  pub knows : KnowsOwn k c → KnowsOwn k d
  pub heads : (p : ℕ) → p < cell_place k 0 → value_at d.values p ≡ value_at c.values p

abbrev pub made : Layout' → Standing → At → Sat → ℕ → Sat → Type 0
made k p st me r me' = Turns me me' (λ c d. Made p st.word c r d × OwnKept k c d)

abbrev pub count_by : ℕ → Operation → Reply → ℕ
count_by n Lock OK = n + 1
count_by n Lock EOWNERDEAD = n + 1
count_by n TryLock OK = n + 1
count_by n TryLock EOWNERDEAD = n + 1
count_by n Unlock OK = n - 1
count_by n Death OK = n - 1
count_by n op r = n

-- how many mutexes a thread holds that held this many before its point
abbrev pub count_after : ℕ → Option Point → ℕ
count_after n None = n
count_after n (Some x) = count_by n x.operation x.reply

abbrev pub most_of : Option Reply → Bool → ℕ
most_of None true = held_limit - 1
most_of x b = held_limit

-- this many a thread holds at most that is there: one less where it may still take one
abbrev pub most : Row → ℕ
most r = most_of (decided r) (acquires (row_operation r))

-- what a call of this operation has decided, with this reply if with any
abbrev pub acts : Operation → Option Reply → List Act
acts op None = []
acts op (Some x) = (op, x) ∷ []

-- an exchange of the cell at q is to find the word that the changes leave of which its thread knows
abbrev pub ExpectsKnown : Row → ℕ → Card → Type 0
ExpectsKnown (row.Lock (lock.Take seen)) q d = left_by (changes_at d.changes q) ≡ word_of seen
ExpectsKnown (row.Lock (lock.SetWaiters seen)) q d = left_by (changes_at d.changes q) ≡ word_of seen
ExpectsKnown (row.TryLock (try.Take seen failed)) q d = left_by (changes_at d.changes q) ≡ word_of seen
ExpectsKnown r q d = Unit {0}

-- a call on the mutex whose cell is at q, begun at the card c, is at the program p, and its pass has the card d: it
-- is decided as its row tells; of its exchanges those failed that its answers tell, and others have changed the cell as
-- often at least; it has come to know of no other word's changes
pub record Stands (op : Operation) (first : Row) (q : ℕ) (c : Card) (p : Standing) (d : Card) : Type 0 where
  pub of : IsOf op p.row
  pub called : Called c q (acts op (decided p.row)) d
  pub answers : List Answer
  pub reaches : reached c.thread first answers ≡ p.row
  pub misses : d.misses ≡ c.misses + changes answers
  pub knows : KnowsMoreAt c q d
  pub expects : ExpectsKnown p.row q d
  pub others : changes answers ≤ length (made_by_others c.thread knows.here.0)

pub ready_prop : (p : Standing) (c : Card) → IsProp (Ready p c)
ready_prop p c = Prim.hlevel (props, Expects-prop, Knows-prop)

pub under_way_prop : (f : Phase) → IsProp (IsUnderWay f)
under_way_prop (phase.Announcing r) = Prim.hlevel props
under_way_prop (phase.AtCell r) = Prim.hlevel props
under_way_prop (phase.Linking l x) = Prim.hlevel props
under_way_prop (phase.Unlinking u d) = Prim.hlevel props
under_way_prop (phase.Clearing x) = Prim.hlevel props
under_way_prop (phase.Ended x) = Prim.hlevel props
