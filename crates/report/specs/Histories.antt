-- One history of each mutex, in which all threads' replies stand.
--
-- *Stand together.* Each mutex has one legal history of points of the script's threads, after which it is as its last
-- word says of its owner, OWNER_DIED and UNUSABLE; of WAITERS a history says nothing. Of each thread it has just the
-- points of that thread's calls on the mutex and on its condition variables, in their order, with the reply that the
-- call was given: one for each, and of a wait that wasn't refused an unlock and then a lock; a call that was refused
-- with X_HELD has none. Of one that died these are the points of the calls that were answered, then all or some of the
-- next call's, and at last its death, where it held the mutex. The counters of a mutex's condition variables, added up,
-- count the signals and the broadcasts of its history that were returned OK.
--
-- *Stand in order.* The history of each mutex is the phases' histories, one after the other. Each phase's has of each
-- thread that lived just the points of its calls in that phase, in their order and with its replies in it; a thread
-- that dies in it has then some points of its next call, or all, and its death where it held the mutex, from this phase
-- or an earlier one; one that had died has none. A thread's replies are those of the phases, one after the other.
-- `HasPassed` and `HavePassed` (`Threads.antt`): in each phase the threads made their calls, and then all met
-- (`HaveMet`; `Meetings.antt`).
use Rattle.std.specs.Prelude.{ℕ, Bool, true, false, ◌≡◌, ◌≢◌, ◌+◌, ◌<◌, ◌≤◌, ◌⊎◌, ◌||◌, List, []}
use Rattle.std.specs.Prelude.{◌∷◌, ◌++◌, Vec, Some, length, slice_get, slice_index, take}
use Rattle.std.specs.declared.alloc.Global.{Global}
use Rattle.std.specs.List.{flat_map}
use Rattle.lockword.specs.Cells.{fields_of}
use Rattle.lockword.specs.declared.reply.Reply.{Reply}
use Rattle.lockword.specs.declared.reply.Reply.TheVariants.{XHELD}
use Rattle.posixmutex.specs.declared.point.Point.{Point}
use Rattle.memorymap.specs.Layouts.{Layout', cell_place}
use Rattle.posixmutex.specs.declared.object.Object.{Object}
use Rattle.posixmutex.specs.Histories.{opening}
use Rattle.posixmutex.specs.Objects.{acquires, fresh, object_of, Run}
use Rattle.condvar.specs.declared.op.Op.{Op}
use Rattle.condvar.specs.Ops.{acts_as, mutex_of}
use Rattle.facts.specs.Lives.{Act, Beginning, Complete}
use Rattle.ruledwords.specs.Cards.{at}
use Rattle.ruledwords.specs.Counts.{cell_at, counts_in, total_of}
use Rattle.ruledwords.specs.Deaths.{deaths}
use Rattle.ruledwords.specs.Seen.{by, held_after, points_of, Leaves}
use Rattle.report.specs.Lone.{AreLone, ArePlayed}
use Rattle.report.specs.Parts.{Part}

-- the points that calls of thread t made of mutex m: of each call on it, or on a condition variable of it, all its
-- points, in the order of the calls, the last with the reply that the call was given. That is one point, and of a wait
-- that wasn't refused an unlock and then a lock. A lock or trylock that is refused as the thread holds 2,048 mutexes
-- has none
abbrev pub AreTold : Layout' → ℕ → ℕ → List Op → List Reply → List Point → Type 0
AreTold k t m [] [] xs = xs ≡ []
AreTold k t m (c ∷ cs) (r ∷ rs) xs =
    (((mutex_of k c ≢ m) ⊎ ((acquires (acts_as c) ≡ true) × (r ≡ XHELD))) × AreTold k t m cs rs xs)
    ⊎
    ((mutex_of k c ≡ m) × (acts : List Act) × Complete (acts_as c) acts r × (ys : List Point)
    × (xs ≡ points_of t (cell_place k m) acts ++ ys) × AreTold k t m cs rs ys)
AreTold k t m [] (r ∷ rs) xs = ⊥
AreTold k t m (c ∷ cs) [] xs = ⊥

-- the points that thread t made of mutex m, after its earlier ones, and that died before it answered all these calls:
-- those of the calls that were answered, and then, if the next call is on this mutex or on a condition variable of it,
-- all that it has or some of the first. If the thread held the mutex then, its death as the mutex's owner comes last
pub record AreLastWordsBehind (k : Layout') (t m : ℕ) (earlier : List Point) (calls : List Op) (replies : List Reply)
    (xs : List Point) : Type 0 where
  pub call : Op
  pub next : slice_get calls (length replies) ≡ Some call
  pub answered : List Point
  pub told : AreTold k t m (take (length replies) calls) replies answered
  pub acts : List Act
  pub begun : mutex_of k call ≡ m → Beginning (acts_as call) acts
  pub elsewhere : mutex_of k call ≢ m → acts ≡ []
  pub all : xs
      ≡ (answered ++ points_of t (cell_place k m) acts)
      ++ deaths t (cell_place k m) (held_after false (earlier ++ (answered ++ points_of t (cell_place k m) acts)))

-- whether the thread died or not
abbrev pub ArePointsBehind : Layout' → ℕ → ℕ → List Point → List Op → List Reply → Bool → List Point → Type 0
ArePointsBehind k t m earlier calls replies true xs = AreLastWordsBehind k t m earlier calls replies xs
ArePointsBehind k t m earlier calls replies false xs = AreTold k t m calls replies xs

-- all points that it made
abbrev pub ArePointsOf : Layout' → ℕ → ℕ → List Op → List Reply → Bool → List Point → Type 0
ArePointsOf k t m calls replies died xs = ArePointsBehind k t m [] calls replies died xs

-- the counters of condition variables that began with these values: those of a mutex, added up, are what they were at
-- first, and one more for each signal or broadcast of its history that was returned OK. Where there is none, each is
-- what it was
pub record CountUp (k : Layout') (presets counters : List ℕ) (histories : List (List Point)) : Type 0 where
  pub sums : (m : ℕ) → m < k.mutexes
      → total_of m k.conditions (slice_index counters) 0
      ≡ total_of m k.conditions (slice_index presets) 0 + counts_in (at histories (cell_place k m))
  pub still : (q : ℕ) → q < length k.conditions → counts_in (at histories (cell_at k q)) ≡ 0
      → slice_index counters q ≡ slice_index presets q

-- ---- phases

-- how many replies a thread has for this many calls: as many where it lives, and fewer where it died
abbrev pub IsCountOf : Bool → ℕ → ℕ → Type 0
IsCountOf true replies calls = replies < calls
IsCountOf false replies calls = replies ≡ calls

-- what a phase adds of thread i + 1, with these calls in it, where these points of each mutex stand before the phase:
-- the points of its calls, in their order and with the replies that it was given. One that had died adds nothing
abbrev pub TakesPart : Layout' → ℕ → Bool → (ℕ → List Point) → List Op → List Reply → Bool → (ℕ → List Point) → Type 0
TakesPart k i true earlier calls replies died points =
    (replies ≡ []) × (died ≡ false) × ((m : ℕ) → m < k.mutexes → by (i + 1) (points m) ≡ [])
TakesPart k i false earlier calls replies died points =
    IsCountOf died (length replies) (length calls)
    ×
    ((m : ℕ) → m < k.mutexes
    → ArePointsBehind k (i + 1) m (by (i + 1) (earlier m)) calls replies died (by (i + 1) (points m)))

-- what phases add, one after the other, in which threads have these calls. Some had died before, and these points stand
-- before the first phase
abbrev pub AreParts : Layout' → (ℕ → Bool) → (ℕ → List Point) → List (ℕ → List Op) → List Part → Type 0
AreParts k gone earlier [] [] = Unit {0}
AreParts k gone earlier (calls ∷ phases) (q ∷ parts) =
    ((i : ℕ) → i < k.threads → TakesPart k i (gone i) earlier (calls (i + 1)) (q.replies i) (q.died i) q.points)
    × AreParts k (λ i. gone i || q.died i) (λ m. earlier m ++ q.points m) phases parts
AreParts k gone earlier [] (q ∷ parts) = ⊥
AreParts k gone earlier (calls ∷ phases) [] = ⊥

abbrev pub some_died : ℕ → List Part → Bool
some_died i [] = false
some_died i (q ∷ parts) = q.died i || some_died i parts

-- the phases are in their order: the history of each mutex has all points of a phase before those of the next, and
-- each thread's replies are those of the phases, one after the other. Where each of the first n phases has one thread's
-- calls alone, whatever the later ones have, each of its replies is the answer of the mutexes and the counters as they
-- are then. The mutexes are left as their histories up to there leave them, and the counters of all phases as they are
-- at last
pub record StandInOrder (k : Layout') (phases : List (ℕ → List Op)) (presets : List ℕ)
    (replies : List (Vec Reply Global)) (died : List Bool) (counters : List ℕ) (histories : List (List Point)) : Type 0
  where
    pub parts : List Part
    pub are : AreParts k (λ i. false) (λ m. []) phases parts
    pub history : (m : ℕ) → m < k.mutexes → at histories (cell_place k m) ≡ flat_map (λ q. q.points m) parts
    pub answered : (i : ℕ) (r : Vec Reply Global) → slice_get replies i ≡ Some r
        → r.items ≡ flat_map (λ q. q.replies i) parts
    pub dead : (i : ℕ) (d : Bool) → slice_get died i ≡ Some d → d ≡ some_died i parts
    pub lone : (n : ℕ) (is : List ℕ) → AreLone k.threads (take n phases) is
        → (os : ℕ → Object) × (vs : ℕ → ℕ)
        × ArePlayed k (λ i. false) opening (slice_index presets) (take n phases) is (take n parts) os vs
        × ((m : ℕ) → m < k.mutexes → Run fresh (flat_map (λ q. q.points m) (take n parts)) (os m))
        × (length phases ≤ n → (q : ℕ) → q < length k.conditions → slice_index counters q ≡ vs q)

-- ---- all of it

-- what threads with these calls got, which of them died, and what is left: each mutex has one legal
-- history of points of these threads, after which it is as its word says, and of each thread it has just the points
-- of that thread's calls, and its death where it died as the owner. The counters count the signals and the
-- broadcasts of these histories
pub record StandTogether (k : Layout') (calls : ℕ → List Op) (phases : List (ℕ → List Op)) (presets : List ℕ)
    (replies : List (Vec Reply Global)) (died : List Bool) (cells counters : List ℕ) : Type 0 where
  pub histories : List (List Point)
  pub legal : (m : ℕ) → m < k.mutexes
      → Leaves k.threads (cell_place k m) (at histories (cell_place k m)) (object_of (fields_of (slice_index cells m)))
  pub told : (i : ℕ) (r : Vec Reply Global) (d : Bool) (m : ℕ) → slice_get replies i ≡ Some r
      → slice_get died i ≡ Some d → m < k.mutexes
      → ArePointsOf k (i + 1) m (calls (i + 1)) r.items d (by (i + 1) (at histories (cell_place k m)))
  pub counted : CountUp k presets counters histories
  pub in_order : StandInOrder k phases presets replies died counters histories
