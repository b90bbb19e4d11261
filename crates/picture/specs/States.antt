-- What lanes and bands show is what the lines tell.
--
-- *A lane shows its thread.* After some lines, the newest one by which a call or a life of the thread began or ended says
-- what its lane shows: no call, a call, death, or that the thread was reaped. In a call, the newest sleep or wake says
-- whether the thread sleeps.
--
-- *A band shows its mutex.* If the points and deaths are a legal history of all mutexes (posixmutex), a band shows the
-- object that this history leaves of its mutex.
--
-- *Signs and classes tell states apart.* The signs and words of a row, the colours of a lane and a band, and the shapes of
-- marks are those of the tables in FORMATS, and no two states or kinds of lines that differ there look the same.
use Rattle.std.specs.Prelude.{ℕ, ◌≡◌, ◌<◌, ◌≤◌, ◌==◌, Bool, true, false, Option, Some, None, List, [], ◌∷◌, ◌++◌}
use Rattle.std.specs.Prelude.{codes, if◌then◌else◌, slice_index_or}
use Rattle.std.specs.Prelude.{◌≢◌}
use Rattle.std.specs.Prelude.{◌+◌, decimal, length}
use Rattle.std.specs.List.{concat}
use Rattle.lockword.specs.Replies.{reply_word}
use Rattle.posixmutex.specs.Words.{operation_word}
use Rattle.facts.specs.declared.fact.Queue.TheVariants.{Condition, Mutex}
use Rattle.picture.specs.Names.{Called, condition_head, condition_tail, mutex_head, mutex_tail, thread_head, thread_tail}
use Rattle.picture.specs.Rows.{owner_pieces}
use Rattle.picture.specs.Words.{words}
use Rattle.std.specs.Char.{encode_utf8}
use Rattle.lockword.specs.declared.reply.Reply.{Reply}
use Rattle.lockword.specs.Threads.{most_threads}
use Rattle.posixmutex.specs.declared.object.Object.{Object}
use Rattle.posixmutex.specs.declared.point.Decision.{Decision}
use Rattle.posixmutex.specs.declared.point.Operation.{Operation}
use Rattle.posixmutex.specs.Histories.{Legal, opening}
use Rattle.posixmutex.specs.Objects.{fresh}
use Rattle.facts.specs.declared.fact.Begun.{Begun}
use Rattle.facts.specs.declared.fact.Fact.{Fact}
use Rattle.facts.specs.declared.fact.Fact.TheVariants.{Begin, Point, Death, Sleep, Wake, Move, Return, Kill, Reap, Renew}
use Rattle.facts.specs.declared.fact.Line.{Line}
use Rattle.facts.specs.declared.fact.Queue.{Queue}
use Rattle.facts.specs.Facts.{decision_of, thread_of}
use Rattle.picture.specs.declared.bands.Bands.{Bands}
use Rattle.picture.specs.declared.lane.Lane.{Lane}
use Rattle.picture.specs.declared.lane.Lane.TheVariants as lane
use Rattle.picture.specs.declared.scene.Scene.{Scene}
use Rattle.picture.specs.Bands.{mutex_at, shown}
use Rattle.picture.specs.Lanes.{stays}
use Rattle.picture.specs.Laws.{mentions}
use Rattle.picture.specs.Rows.{sign}
use Rattle.picture.specs.Scenes.{behind, first_scene, lane_at}
use Rattle.picture.specs.Shapes.{band_class, lane_class, mark_class, mark_path}
use Rattle.picture.specs.Style.{style}

-- ---- after some lines

-- what all lanes and bands show after the first lines, the oldest first, if these later ones follow
abbrev pub scene_after : Bands → Scene → List Line → List Line → Scene
scene_after b s [] later = s
scene_after b s (l ∷ ls) later = scene_after b (behind b s l (l ∷ (ls ++ later))) ls later

-- the facts of thread t, the newest first, if these were reported of it before
abbrev pub told_of : ℕ → List Fact → List Line → List Fact
told_of t fs [] = fs
told_of t fs (l ∷ ls) = told_of t (if thread_of l.fact == t then l.fact ∷ fs else fs) ls

-- a call or a life begins or ends
abbrev pub is_turn : Fact → Bool
is_turn (Begin t c) = true
is_turn (Return t x) = true
is_turn (Kill t) = true
is_turn (Reap t) = true
is_turn (Renew t) = true
is_turn f = false

-- the newest such fact
abbrev pub turn_in : List Fact → Option Fact
turn_in [] = None
turn_in (f ∷ fs) = if is_turn f then Some f else turn_in fs

-- the newest of the sleeps and wakes since then is a sleep
abbrev pub sleeps_in : List Fact → Bool
sleeps_in [] = false
sleeps_in (Sleep t q ∷ fs) = true
sleeps_in (Wake t ∷ fs) = false
sleeps_in (f ∷ fs) = if is_turn f then false else sleeps_in fs

-- what a lane shows of a thread with these facts, the newest first
pub record ShowsItsThread (fs : List Fact) (l : Lane) : Type 0 where
  pub untold : turn_in fs ≡ None → l ≡ lane.Idle
  pub awake : (t : ℕ) (c : Begun) → turn_in fs ≡ Some (Begin t c) → sleeps_in fs ≡ false → l ≡ lane.Calling c.operation
  pub asleep : (t : ℕ) (c : Begun) → turn_in fs ≡ Some (Begin t c) → sleeps_in fs ≡ true → l ≡ lane.Asleep c.operation
  pub returned : (t : ℕ) (x : Reply) → turn_in fs ≡ Some (Return t x) → l ≡ lane.Idle
  pub killed : (t : ℕ) → turn_in fs ≡ Some (Kill t) → l ≡ lane.Dying
  pub reaped : (t : ℕ) → turn_in fs ≡ Some (Reap t) → l ≡ lane.Reaped
  pub renewed : (t : ℕ) → turn_in fs ≡ Some (Renew t) → l ≡ lane.Idle

-- so it is of each thread after each line
abbrev pub LanesShowThreads : Type 0
LanesShowThreads = (b : Bands) (ls later : List Line) (t : ℕ) → t ≤ most_threads
    → ShowsItsThread (told_of t [] ls) (lane_at (scene_after b first_scene ls later).lanes t)

-- the points and deaths
abbrev pub and_then : Option Decision → List Decision → List Decision
and_then None ds = ds
and_then (Some d) ds = d ∷ ds

abbrev pub decisions : List Line → List Decision
decisions [] = []
decisions (l ∷ ls) = and_then (decision_of l.fact) (decisions ls)

-- the bands of a picture that has room for that many show their mutexes, as a legal history of n mutexes leaves them
abbrev pub BandsShowMutexes : Type 0
BandsShowMutexes = (room mutexes n : ℕ) (all ls later : List Line) (new : ℕ → Object) → room ≤ 16
    → Legal n opening (decisions ls) new → (i : ℕ) → i < (shown room mutexes all).count
    → slice_index_or (scene_after (shown room mutexes all) first_scene ls later).objects i fresh
    ≡ new (mutex_at (shown room mutexes all) i)

-- ---- signs and classes

-- a lane in a row of text: a dot between calls, a line in a call, z asleep, a broken line while the list of a dead thread
-- is walked, and a dagger for a reaped thread
pub record LanesHaveTheirSigns : Type 0 where
  pub idle : stays lane.Idle ≡ encode_utf8 183
  pub calling : (op : Operation) → stays (lane.Calling op) ≡ encode_utf8 9474
  pub asleep : (op : Operation) → stays (lane.Asleep op) ≡ codes "z"
  pub dying : stays lane.Dying ≡ encode_utf8 9550
  pub reaped : stays lane.Reaped ≡ encode_utf8 8224

-- the sign of a line, if its arrow comes from there
pub record LinesHaveTheirSigns : Type 0 where
  pub begins : (t : ℕ) (c : Begun) (from : Option ℕ) → sign (Begin t c) from ≡ encode_utf8 9484
  pub point : (d : Decision) (from : Option ℕ) → sign (Point d) from ≡ encode_utf8 9679
  pub returns : (t : ℕ) (x : Reply) (from : Option ℕ) → sign (Return t x) from ≡ encode_utf8 9492
  pub sleeps : (t : ℕ) (q : Queue) (from : Option ℕ) → sign (Sleep t q) from ≡ codes "z"
  pub killed : (t : ℕ) (from : Option ℕ) → sign (Kill t) from ≡ encode_utf8 9587
  pub death : (t m : ℕ) (from : Option ℕ) → sign (Death t m) from ≡ codes "!"
  pub reaped : (t : ℕ) (from : Option ℕ) → sign (Reap t) from ≡ encode_utf8 8224
  pub renewed : (t : ℕ) (from : Option ℕ) → sign (Renew t) from ≡ codes "*"
  pub woken : (t : ℕ) → sign (Wake t) None ≡ encode_utf8 9675
  pub moved : (t m : ℕ) → sign (Move t m) None ≡ encode_utf8 9675
  pub woken_from_left : (t a : ℕ) → a < t → sign (Wake t) (Some a) ≡ codes ">"
  pub woken_from_right : (t a : ℕ) → t ≤ a → sign (Wake t) (Some a) ≡ codes "<"
  pub moved_from_left : (t m a : ℕ) → a < t → sign (Move t m) (Some a) ≡ codes ">"
  pub moved_from_right : (t m a : ℕ) → t ≤ a → sign (Move t m) (Some a) ≡ codes "<"

-- shapes of this class have this style
abbrev pub Styled : List ℕ → List ℕ → Type 0
Styled class how = mentions (codes "." ++ class ++ codes "{" ++ how ++ codes "}") style ≡ true

-- a lane in SVG: a call is blue, sleep in it light grey, the time from a kill to the end of the walk pale red; between
-- calls and after the walk there is nothing
pub record LanesHaveTheirColours : Type 0 where
  pub idle : lane_class lane.Idle ≡ None
  pub calling : (op : Operation) → lane_class (lane.Calling op) ≡ Some (codes "c")
  pub asleep : (op : Operation) → lane_class (lane.Asleep op) ≡ Some (codes "s")
  pub dying : lane_class lane.Dying ≡ Some (codes "d")
  pub reaped : lane_class lane.Reaped ≡ None
  pub blue : Styled (codes "c") (codes "fill:#9bd")
  pub light_grey : Styled (codes "s") (codes "fill:#ddd")
  pub pale_red : Styled (codes "d") (codes "fill:#fbb")

-- a band: green with an owner, orange if that has to declare the mutex consistent, pale orange if an owner died and
-- nobody got EOWNERDEAD yet, dark grey if it is unusable
pub record BandsHaveTheirColours : Type 0 where
  pub owned : (o : Object) (t : ℕ) → o.owner ≡ Some t → o.inconsistent ≡ false → band_class o ≡ Some (codes "o")
  pub undeclared : (o : Object) (t : ℕ) → o.owner ≡ Some t → o.inconsistent ≡ true → band_class o ≡ Some (codes "i")
  pub died : (o : Object) → o.owner ≡ None → o.unusable ≡ false → o.inconsistent ≡ true
      → band_class o ≡ Some (codes "w")
  pub unusable : (o : Object) → o.owner ≡ None → o.unusable ≡ true → band_class o ≡ Some (codes "u")
  pub free : (o : Object) → o.owner ≡ None → o.unusable ≡ false → o.inconsistent ≡ false → band_class o ≡ None
  pub green : Styled (codes "o") (codes "fill:#8c8")
  pub orange : Styled (codes "i") (codes "fill:#fb6")
  pub pale_orange : Styled (codes "w") (codes "fill:#fdb")
  pub dark_grey : Styled (codes "u") (codes "fill:#888")

-- a mark: a point is a black disc, a wake or a move a blue circle, a kill, a death and a reaping are red, all others
-- black strokes
pub record MarksHaveTheirColours : Type 0 where
  pub begins : (t : ℕ) (c : Begun) → mark_class (Begin t c) ≡ codes "b"
  pub point : (d : Decision) → mark_class (Point d) ≡ codes "p"
  pub returns : (t : ℕ) (x : Reply) → mark_class (Return t x) ≡ codes "b"
  pub sleeps : (t : ℕ) (q : Queue) → mark_class (Sleep t q) ≡ codes "b"
  pub woken : (t : ℕ) → mark_class (Wake t) ≡ codes "q"
  pub moved : (t m : ℕ) → mark_class (Move t m) ≡ codes "q"
  pub killed : (t : ℕ) → mark_class (Kill t) ≡ codes "k"
  pub death : (t m : ℕ) → mark_class (Death t m) ≡ codes "k"
  pub reaped : (t : ℕ) → mark_class (Reap t) ≡ codes "k"
  pub renewed : (t : ℕ) → mark_class (Renew t) ≡ codes "b"
  pub strokes : mentions (codes "path{fill:none;stroke:#222;") style ≡ true
  pub discs : Styled (codes "p") (codes "fill:#222")
  pub circles : Styled (codes "q") (codes "fill:#fff;stroke:#07c")
  pub arrows : mentions (codes ".a{stroke:#07c;") style ≡ true
  pub red : Styled (codes "k") (codes "stroke:#c00")

-- what each mark is drawn as, from the middle of the lane: one stroke through it for a begin and a return, the three
-- strokes of a z, a circle of radius 4, two crossing strokes, a stroke over a point, a dagger and a star
pub record MarksHaveTheirShapes : Type 0 where
  pub begins : (t : ℕ) (c : Begun) → mark_path (Begin t c) ≡ codes "m-7 0h14"
  pub returns : (t : ℕ) (x : Reply) → mark_path (Return t x) ≡ codes "m-7 0h14"
  pub sleeps : (t : ℕ) (q : Queue) → mark_path (Sleep t q) ≡ codes "m-4-4h8l-8 8h8"
  pub point : (d : Decision) → mark_path (Point d) ≡ codes "m-4 0a4 4 0 1 0 8 0a4 4 0 1 0-8 0"
  pub woken : (t : ℕ) → mark_path (Wake t) ≡ codes "m-4 0a4 4 0 1 0 8 0a4 4 0 1 0-8 0"
  pub moved : (t m : ℕ) → mark_path (Move t m) ≡ codes "m-4 0a4 4 0 1 0 8 0a4 4 0 1 0-8 0"
  pub killed : (t : ℕ) → mark_path (Kill t) ≡ codes "m-5-5l10 10m0-10l-10 10"
  pub death : (t m : ℕ) → mark_path (Death t m) ≡ codes "m0-6v7m0 3v2"
  pub reaped : (t : ℕ) → mark_path (Reap t) ≡ codes "m0-6v12m-4-8h8"
  pub renewed : (t : ℕ) → mark_path (Renew t) ≡ codes "m0-6v12m-5-9l10 6m0-6l-10 6"

-- ---- words

-- the text of a mutex in its column: its owner's name, with `!` if an owner died and nobody has declared it consistent; `-`
-- without an owner; `lost` if it is unusable
pub record BandsHaveTheirWords (n : Called) : Type 0 where
  pub owned : (o : Object) (t : ℕ) → o.owner ≡ Some t → o.inconsistent ≡ false
      → concat (owner_pieces n o) ≡ thread_head n t ++ thread_tail n t
  pub undeclared : (o : Object) (t : ℕ) → o.owner ≡ Some t → o.inconsistent ≡ true
      → concat (owner_pieces n o) ≡ thread_head n t ++ (thread_tail n t ++ codes "!")
  pub free : (o : Object) → o.owner ≡ None → o.unusable ≡ false → o.inconsistent ≡ false
      → concat (owner_pieces n o) ≡ codes "-"
  pub died : (o : Object) → o.owner ≡ None → o.unusable ≡ false → o.inconsistent ≡ true
      → concat (owner_pieces n o) ≡ codes "-!"
  pub unusable : (o : Object) → o.owner ≡ None → o.unusable ≡ true → concat (owner_pieces n o) ≡ codes "lost"

-- the words of a line whose lane shows this: of a call its operation, its condition variable if it has one, and its mutex; of
-- a point its mutex, its operation if that isn't the call's, and the reply; and so on
pub record LinesHaveTheirWords (n : Called) (l : Lane) : Type 0 where
  pub begins : (t m : ℕ) (op : Operation) → concat (words n l (Begin t (record { operation = op; mutex = m; condition = None })))
      ≡ operation_word op ++ (codes " " ++ (mutex_head n m ++ mutex_tail n m))
  pub waits : (t m k : ℕ) (op : Operation)
      → concat (words n l (Begin t (record { operation = op; mutex = m; condition = Some k })))
      ≡ operation_word op
      ++ (codes " " ++ (condition_head n k ++ (condition_tail n k ++ (codes " " ++ (mutex_head n m ++ mutex_tail n m)))))
  pub own_point : (d : Decision) → l ≡ lane.Calling d.operation → concat (words n l (Point d))
      ≡ mutex_head n d.mutex ++ (mutex_tail n d.mutex ++ (codes " " ++ reply_word d.reply))
  pub other_point : (d : Decision) (op : Operation) → l ≡ lane.Calling op → op ≢ d.operation → concat (words n l (Point d))
      ≡ mutex_head n d.mutex
      ++ (mutex_tail n d.mutex ++ (codes " " ++ (operation_word d.operation ++ (codes " " ++ reply_word d.reply))))
  pub death : (t m : ℕ) → concat (words n l (Death t m)) ≡ mutex_head n m ++ (mutex_tail n m ++ codes " owner died")
  pub sleeps : (t m : ℕ) → concat (words n l (Sleep t (Mutex m))) ≡ codes "on " ++ (mutex_head n m ++ mutex_tail n m)
  pub waits_on : (t k : ℕ) → concat (words n l (Sleep t (Condition k))) ≡ codes "on " ++ (condition_head n k ++ condition_tail n k)
  pub woken : (t : ℕ) → concat (words n l (Wake t)) ≡ codes "woken"
  pub moved : (t m : ℕ) → concat (words n l (Move t m)) ≡ codes "to " ++ (mutex_head n m ++ mutex_tail n m)
  pub returns : (t : ℕ) (x : Reply) → concat (words n l (Return t x)) ≡ reply_word x
  pub killed : (t : ℕ) → concat (words n l (Kill t)) ≡ codes "killed"
  pub reaped : (t : ℕ) → concat (words n l (Reap t)) ≡ codes "reaped"
  pub renewed : (t : ℕ) → concat (words n l (Renew t)) ≡ codes "renewed"

-- what a thing with this number is called: by its name if there is one, else by a letter and its number. The first thread is
-- thread 1
pub record ThingsHaveTheirNames (n : Called) : Type 0 where
  pub threads : (i : ℕ) → i < length n.threads
      → thread_head n (i + 1) ++ thread_tail n (i + 1) ≡ slice_index_or n.threads i []
  pub numbered_threads : (i : ℕ) → length n.threads ≤ i
      → thread_head n (i + 1) ++ thread_tail n (i + 1) ≡ codes "t" ++ decimal (i + 1)
  pub mutexes : (i : ℕ) → i < length n.mutexes → mutex_head n i ++ mutex_tail n i ≡ slice_index_or n.mutexes i []
  pub numbered_mutexes : (i : ℕ) → length n.mutexes ≤ i → mutex_head n i ++ mutex_tail n i ≡ codes "m" ++ decimal i
  pub conditions : (i : ℕ) → i < length n.conditions
      → condition_head n i ++ condition_tail n i ≡ slice_index_or n.conditions i []
  pub numbered_conditions : (i : ℕ) → length n.conditions ≤ i
      → condition_head n i ++ condition_tail n i ≡ codes "c" ++ decimal i

pub record StatesAreToldApart : Type 0 where
  pub names : (n : Called) → ThingsHaveTheirNames n
  pub band_words : (n : Called) → BandsHaveTheirWords n
  pub line_words : (n : Called) (l : Lane) → LinesHaveTheirWords n l
  pub lane_signs : LanesHaveTheirSigns
  pub line_signs : LinesHaveTheirSigns
  pub lane_colours : LanesHaveTheirColours
  pub band_colours : BandsHaveTheirColours
  pub mark_colours : MarksHaveTheirColours
  pub mark_shapes : MarksHaveTheirShapes
