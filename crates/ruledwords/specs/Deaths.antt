-- The kernel's walk for a thread that died, on what the thread's pass knows (robust-futexes; get_robust_list(2)).
--
-- *A walk's tale.* What the walk tells the dead thread's pass: of each mutex that the thread held, its death as the
-- owner, once, after what it had seen and then others' points, and as the last that it has seen of the mutex; of no
-- other mutex anything; and it changes cells alone (`IsNoCell`). At its end the thread holds nothing. Source:
-- get_robust_list(2); pthread_mutex_lock(3p), EOWNERDEAD.
use Rattle.std.specs.Prelude.{◌≡◌, ◌≢◌, ℕ, ◌<◌, ◌==◌, ◌⊎◌, Bool, true, false, Some, List, [], ◌∷◌, ◌++◌, if◌then◌else◌}
use Rattle.lockword.specs.Cells.{fields_of}
use Rattle.lockword.specs.declared.reply.Reply.TheVariants.{OK}
use Rattle.stepprograms.specs.declared.access.Access.{Access}
use Rattle.stepprograms.specs.declared.access.Access.TheVariants.{Wake}
use Rattle.stepprograms.specs.declared.access.Answer.{Answer}
use Rattle.stepprograms.specs.declared.access.Answer.TheVariants.{Count}
use Rattle.posixmutex.specs.declared.point.Operation.TheVariants.{Death}
use Rattle.posixmutex.specs.declared.point.Point.{Point}
use Rattle.stepprograms.specs.Accesses.{address_of, answer_at}
use Rattle.posixmutex.specs.Histories.{is_thread}
use Rattle.memorymap.specs.Layouts.{Layout', cell_place, place_in}
use Rattle.posixmutex.specs.declared.object.Object.{Object}
use Rattle.posixmutex.specs.Objects.{fresh, Run, object_of}
use Rattle.exitwalk.specs.declared.row.Row.{Row}
use Rattle.exitwalk.specs.declared.row.Row.TheVariants as row
use Rattle.exitwalk.specs.Standings.{Standing}
use Rattle.exitwalk.specs.Walks.{access_of, marked_word, moved, row_after, IsGoing, Knows}
use Rattle.mutex.specs.WholeLists.{head_in}
use Rattle.ruledwords.specs.declared.pass.Card.{Card}
use Rattle.ruledwords.specs.declared.pass.Words.{Words}
use Rattle.ruledwords.specs.declared.pass.Pass.{Pass}
use Rattle.ruledwords.specs.declared.pass.Dead.{Dead}
use Rattle.ruledwords.specs.declared.turn.Reaping.{Reaping}
use Rattle.ruledwords.specs.declared.turn.Walked.{Walked}
use Rattle.ruledwords.specs.declared.turn.Walked.TheVariants as walked
use Rattle.ruledwords.specs.Cards.{at, mark_at, put_mark}
use Rattle.ruledwords.specs.Seen.{by, holds, EndsWith, Sees}
use Rattle.ruledwords.specs.Calls.{OwnKept}
use Rattle.ruledwords.specs.Changes.{ChangedNone, KnowsOn, Writes}
use Rattle.ruledwords.specs.Lists.{known}
use Rattle.ruledwords.specs.Looks.{Finds}
use Rattle.ruledwords.specs.OwnWords.{owns_in, KnowsOwn}
use Rattle.ruledwords.specs.Passes.{card, layout_of, IsCardOf, IsPassOf}
use Rattle.atomic_table.specs.declared.shared.Seat.{Seat}
use Rattle.ruledwords.specs.Rules.{card_of, IsOne, Sat, At, Turns}
use Rattle.ruledwords.specs.Walks.{LeftAt, OwnsNothing}

-- ---- what an access at a cell tells

-- the owner's death, if it was one
abbrev pub deaths : ℕ → ℕ → Bool → List Point
deaths t q b = if b then record { thread = t; at = q; operation = Death; reply = OK } ∷ [] else []

-- where the thread owns the mutex and has seen WAITERS in its cell, that is set there
abbrev pub MindsWaiters : Card → ℕ → ℕ → Type 0
MindsWaiters c q n = mark_at c.marks q ≡ true → (fields_of n).owner ≡ c.thread → (fields_of n).waiters ≡ true

-- a thread that found the word n in the cell at q, and remembers whether WAITERS was set there
abbrev pub remembering : Card → ℕ → ℕ → Card
remembering c q n = record c { last = n; marks = put_mark c.marks q (fields_of n).waiters }

-- it has looked at a cell, whose word was r. Nothing new is seen
abbrev pub examined : At → Sat → ℕ → Sat → Type 0
examined st me r me' =
    Turns me me' (λ c d. (d ≡ remembering c st.word r) × Finds c st.word r × MindsWaiters c st.word r)

-- what an exchange of a word for the same one marked leaves
abbrev pub left_by_mark : ℕ → ℕ → ℕ
left_by_mark old n = if n == old then marked_word old else n

-- it has exchanged the word old of the cell at q for the same one marked, if that was the word: the owner's death. The
-- word was n, and while the thread owned the mutex nobody else changed it
pub record Marks (k : Layout') (q old : ℕ) (c : Card) (n : ℕ) (d : Card) : Type 0 where
  pub sees : Sees c q (deaths c.thread q (n == old)) (object_of (fields_of (left_by_mark old n))) d
  pub misses : d.misses ≡ c.misses
  pub last : d.last ≡ n
  pub writes : Writes c q n (left_by_mark old n) d
  pub remembers : mark_at d.marks q ≡ (fields_of (left_by_mark old n)).waiters
  pub minds : MindsWaiters c q n
  pub narrow : (fields_of n).rest ≡ 0
  pub stays : (o : Object) → Run fresh (at c.seen q) o → o.owner ≡ Some c.thread → object_of (fields_of n) ≡ o
  pub holder : holds c.thread (at c.seen q) ≡ is_thread c.thread (object_of (fields_of n)).owner
  pub kept : OwnKept k c d

abbrev pub marked : Layout' → At → Sat → ℕ → Sat → Type 0
marked k st me r me' = Turns me me' (λ c d. Marks k st.word st.first c r d)

-- ---- what is left of a walk, as the card knows

-- the word v was found in the cell at q: since then others can only have set WAITERS in it, and not even that where it
-- was set
pub record WasSeen (c : Card) (q v : ℕ) (tried : Bool) : Type 0 where
  pub found : Finds c q v
  pub remembered : (fields_of v).waiters ≡ true → mark_at c.marks q ≡ true
  pub again : tried ≡ true → (fields_of v).waiters ≡ true

abbrev pub IsLeftAt : Layout' → Card → Row → Type 0
IsLeftAt k c r = LeftAt k c.thread (owns_in k c) (known k c) (WasSeen c) r

-- a walk of the card's thread, whose words it knows and of whose mutexes none is forgotten
pub record IsWalking (k : Layout') (c : Card) (s : Standing) : Type 0 where
  pub knows : KnowsOwn k c
  pub thread : s.thread ≡ c.thread
  pub head : s.head ≡ head_in k c.thread
  pub row : Knows s.thread s.head s.row
  pub left : IsLeftAt k c s.row

-- ---- what a walk tells

-- after what its thread had seen of the mutex whose cell is at q stand other threads' points and these of its own
pub record SawThere (c : Card) (q : ℕ) (mine : List Point) (d : Card) : Type 0 where
  pub since : List Point
  pub grows : at d.seen q ≡ at c.seen q ++ since
  pub own : by c.thread (at d.seen q) ≡ by c.thread (at c.seen q) ++ mine

-- its death as the mutex's owner is recorded, once, and is the last that it has seen of the mutex
pub record TellsDeath (c : Card) (q : ℕ) (d : Card) : Type 0 where
  pub saw : SawThere c q (deaths c.thread q true) d
  pub last : EndsWith (at d.seen q) (deaths c.thread q true)

-- no mutex's cell is there
abbrev pub IsNoCell : Layout' → ℕ → Type 0
IsNoCell k p = (m : ℕ) → m < k.mutexes → p ≢ cell_place k m

-- so far: of each mutex that the thread held at the card c its death is recorded, or it holds the mutex still; of no
-- other is anything new seen
pub record HasWalked (k : Layout') (c d : Card) : Type 0 where
  pub thread : d.thread ≡ c.thread
  pub threads : d.threads ≡ c.threads
  pub base : d.base ≡ c.base
  pub told : (m : ℕ) → m < k.mutexes → owns_in k c m ≡ true
      → ((owns_in k d m ≡ true) × SawThere c (cell_place k m) [] d) ⊎ TellsDeath c (cell_place k m) d
  pub stays : (m : ℕ) → m < k.mutexes → owns_in k c m ≡ false → at d.seen (cell_place k m) ≡ at c.seen (cell_place k m)
  pub changes : KnowsOn c d
  pub still : ChangedNone (IsNoCell k) c d

-- at its end: of each mutex that the thread held when it died, its death is recorded, and it holds nothing any more;
-- what it has seen of any other mutex stays. It knows its own words still
pub record IsReaped (k : Layout') (c d : Card) : Type 0 where
  pub thread : d.thread ≡ c.thread
  pub threads : d.threads ≡ c.threads
  pub base : d.base ≡ c.base
  pub told : (m : ℕ) → m < k.mutexes → owns_in k c m ≡ true → TellsDeath c (cell_place k m) d
  pub stays : (m : ℕ) → m < k.mutexes → owns_in k c m ≡ false → at d.seen (cell_place k m) ≡ at c.seen (cell_place k m)
  pub changes : KnowsOn c d
  pub still : ChangedNone (IsNoCell k) c d
  pub none : OwnsNothing k (owns_in k d)
  pub knows : KnowsOwn k d

-- ---- an access at a seat

-- the seat of thread t, which died, and the walk of its list
pub record IsSeatedWalk (w : Words) (z : Seat (Unit {0}) (List Card)) (t : ℕ) (s : Standing) : Type 0 where
  pub table : z.table_id ≡ w.places.table.shared.table_id
  pub one : IsOne z.me
  pub is : t ≡ (card_of z.me.0).thread
  pub card : IsCardOf (layout_of w) (card_of z.me.0)
  pub going : IsGoing s.row
  pub walk : IsWalking (layout_of w) (card_of z.me.0) s

-- what was found at a row: a word of a cell, or what the thread knew of its own word
abbrev pub FoundAt : Layout' → Standing → Row → Card → ℕ → Card → Type 0
FoundAt k s (row.LoadWord at rest) c n d = (d ≡ remembering c (place_in k c.thread at) n)
    × Finds c (place_in k c.thread at) n × MindsWaiters c (place_in k c.thread at) n
FoundAt k s (row.Mark at v again rest) c n d = Marks k (place_in k c.thread at) v c n d
FoundAt k s r c n d = (d ≡ c) × (n ≡ known k c (address_of (access_of s)))

abbrev pub FoundByWalk : Words → Seat (Unit {0}) (List Card) → Seat (Unit {0}) (List Card) → Standing → ℕ → Type 0
FoundByWalk w z z' s n =
    (z'.table_id ≡ z.table_id) × IsOne z'.me × FoundAt (layout_of w) s s.row (card_of z.me.0) n (card_of z'.me.0)

-- ---- walks in progress

abbrev pub reaping_pass : Reaping → Pass Dead
reaping_pass r = r.pass

abbrev pub reaping_walk : Reaping → Standing
reaping_walk r = r.walk

-- the access that comes next
abbrev pub reaping_access : Reaping → Access
reaping_access r = access_of r.walk

-- the place of the word that it reads or changes
abbrev pub reaping_place : Layout' → Reaping → ℕ
reaping_place k r = place_in k (card r.pass).thread (address_of (reaping_access r))

-- a futex section, which the walk's caller makes
abbrev pub IsWake : Access → Type 0
IsWake (Wake at n) = Unit {0}
IsWake a = ⊥

-- its pass is of these words, and nothing that its thread holds is forgotten
abbrev pub IsReapingOf : Words → Reaping → Type 0
IsReapingOf w r = IsPassOf w (reaping_pass r) × IsWalking (layout_of w) (card (reaping_pass r)) (reaping_walk r)

-- a walk that began at the card c is under way still, or has come to its end
abbrev pub WalksOn : Words → Card → Walked → Type 0
WalksOn w c (walked.Goes r) = IsReapingOf w r × HasWalked (layout_of w) c (card (reaping_pass r))
WalksOn w c (walked.Reaped p) = IsPassOf w p × IsReaped (layout_of w) c (card p)

-- wherever it began, it goes on
abbrev pub KeepsWalking : Words → Reaping → Walked → Type 0
KeepsWalking w r turn = (c : Card) → HasWalked (layout_of w) c (card (reaping_pass r)) → WalksOn w c turn

-- the walk went on with this answer
abbrev pub WentOn : Standing → Answer → Walked → Type 0
WentOn s x (walked.Goes r) = reaping_walk r ≡ moved s x
WentOn s x (walked.Reaped p) = row_after s.thread s.head s.row x ≡ row.Ended

-- what its thread knows then
abbrev pub card_after : Walked → Card
card_after (walked.Goes r) = card (reaping_pass r)
card_after (walked.Reaped p) = card p

-- its access was made, and the walk went on with what that found
abbrev pub WentOnFound : Layout' → Reaping → Walked → Type 0
WentOnFound k r turn = (n : ℕ)
    × FoundAt k (reaping_walk r) (reaping_walk r).row (card (reaping_pass r)) n (card_after turn)
    × WentOn (reaping_walk r) (answer_at (access_of (reaping_walk r)) n) turn

-- what a wake is answered
abbrev pub IsCount : Answer → Type 0
IsCount (Count n) = Unit {0}
IsCount x = ⊥
