-- The rule of the shared words: what holds between any two steps, of the words and of what all passes know.
--
-- Histories: some legal list of points of each mutex leaves the mutex as its cell says. What a pass has seen begins it,
-- and has all points of the pass's thread. Own words: a thread alone writes its head, the links of the mutexes that it
-- owns and the counters of their condition variables. Its pass may know their values. While it owns a mutex in which it
-- saw WAITERS, that stays set. Counters count the signals and the broadcasts that were returned OK. Changes: each
-- cell's words and each counter's, one after the other, and who wrote each. What a pass knows of them begins them, and
-- has all that its thread wrote; all others are by threads.
--
-- *The rule.* What holds between any two steps of all threads: of each mutex some legal list of points leaves it as its
-- cell says; what each pass has seen begins it and has all of its own thread's points; there is one pass a thread; a
-- thread's own words (its head, the links of the mutexes that it owns, the counters of their condition variables) are
-- as its pass knows them; and counters count (`Counted`).
--
-- *The last words.* When the words are closed with some passes, one or all, each cell is as one legal list of its mutex
-- says; the list begins with what each of these passes saw, and of each of their threads it has just the thread's own
-- points (`IsAmong`). Counters count what counts in these lists (`Counted`, of `presets_of`), and each is as its
-- changes leave it, all that were made, to which what these passes know of changes is tied (`Tied`).
use Rattle.std.specs.Prelude.{◌≡◌, ℕ, zero, suc, ◌+◌, ◌-◌, ◌/◌, ◌%◌, ◌<◌, ◌≤◌, ◌==◌, ◌&&◌, nat_lt, true}
use Rattle.std.specs.Prelude.{Option, Some, List, [], ◌∷◌, All, length, drop, slice_index, if◌then◌else◌}
use mathlib.Core.Option.{some}
use mathlib.Core.List.{IsPrefix}
use lib.ListN.{get_elem?}
use Rattle.atomic_table.specs.Table.{State, Me, Step}
use Rattle.lockword.specs.Cells.{fields_of}
use Rattle.posixmutex.specs.declared.point.Point.{Point}
use Rattle.posixmutex.specs.declared.object.Object.{Object}
use Rattle.memorymap.specs.Layouts.{Layout', IsLayout, head_place, cell_place, counter_place}
use Rattle.memorymap.specs.Layouts.{words_of, base_of, address_in, cell_offset, first_word}
use Rattle.posixmutex.specs.Objects.{object_of}
use Rattle.ruledwords.specs.declared.pass.Card.{Card}
use Rattle.ruledwords.specs.declared.pass.Change.{Change}
use Rattle.ruledwords.specs.declared.pass.Opening.{Opening}
use Rattle.ruledwords.specs.Cards.{at, value_at, put_value, mark_at}
use Rattle.ruledwords.specs.Changes.{behind_unknown, changes_at, first_changes}
use Rattle.ruledwords.specs.Changes.{left_by, AllTied, AreBehindFirst, Recorded}
use Rattle.ruledwords.specs.Counts.{Counted}
use Rattle.ruledwords.specs.Seen.{by, Leaves, Joined}

-- ---- the beginning

-- the words at first, counters that begin at these values among them
abbrev pub opening_word : Layout' → List ℕ → ℕ → ℕ
opening_word k counters = first_word k (slice_index counters)

-- a thread knows its head, whose first word is the head's own address in the thread's process
abbrev pub first_values : Layout' → ℕ → List (Option ℕ)
first_values k t = put_value
    (put_value (put_value [] (head_place t) (Some (address_in k t (head_place t)))) (head_place t + 1)
    (Some cell_offset)) (head_place t + 2) (Some 0)

-- a thread knows what the counters begin with, and nothing of the cells' words
abbrev pub first_known : Layout' → List ℕ → List (List Change)
first_known k counters = behind_unknown (counter_place k 0) (first_changes counters)

-- what thread t of a layout knows at first, whose counters begin with these values: its own head, these values, and
-- nothing of any mutex
abbrev pub first_card : Layout' → List ℕ → ℕ → Card
first_card k counters t = record {
  threads = k.threads;
  thread = t;
  base = base_of k t;
  seen = [];
  misses = 0;
  last = 0;
  trims = 0;
  counted = 0;
  values = first_values k t;
  marks = [];
  changes = first_known k counters;
}

-- the cards of this many threads from t on
abbrev pub hand : Layout' → List ℕ → ℕ → ℕ → List Card
hand k counters t zero = []
hand k counters t (suc more) = first_card k counters t ∷ hand k counters (t + 1) more

-- ---- what the rule's key says

-- the values that the counters began with, in the order of their numbers
abbrev pub presets_in : Opening → List ℕ
presets_in o = drop (counter_place o.layout 0) o.words.items

-- ---- whose the words are

-- the mutex whose owner alone writes at p, the place of a link or a counter
abbrev pub guard : Layout' → ℕ → ℕ
guard k p =
    if nat_lt p (counter_place k 0) then (p - cell_place k 0) / 3 else slice_index k.conditions (p - counter_place k 0)

abbrev pub owner_at : Layout' → List ℕ → ℕ → ℕ
owner_at k ws m = (fields_of (slice_index ws (cell_place k m))).owner

-- the thread that alone writes at p, 0 for none: anybody may change a cell
abbrev pub keeper : Layout' → List ℕ → ℕ → ℕ
keeper k ws p =
    if nat_lt p (cell_place k 0) then (p + 2) / 3
    else if nat_lt p (counter_place k 0) && ((p - cell_place k 0) % 3 == 0) then 0 else owner_at k ws (guard k p)

-- ---- what holds

-- what a card says is so: its history begins that of each mutex and has all points of its thread, and the values and
-- marks that it knows are those of the words
pub record Fits (k : Layout') (ws : List ℕ) (js : List (List Point)) (c : Card) : Type 0 where
  pub thread : (1 ≤ c.thread) × (c.thread ≤ k.threads)
  pub threads : c.threads ≡ k.threads
  pub begins : (p : ℕ) → IsPrefix (at c.seen p) (at js p)
  pub own : (p : ℕ) → by c.thread (at c.seen p) ≡ by c.thread (at js p)
  pub values : (p x : ℕ) → value_at c.values p ≡ Some x → (slice_index ws p ≡ x) × (keeper k ws p ≡ c.thread)
  pub marks : (m : ℕ) → m < k.mutexes → mark_at c.marks (cell_place k m) ≡ true → owner_at k ws m ≡ c.thread
      → (fields_of (slice_index ws (cell_place k m))).waiters ≡ true

abbrev pub AllFit : Layout' → List ℕ → List (List Point) → List Card → Type 0
AllFit k ws js [] = Unit {0}
AllFit k ws js (c ∷ cs) = Fits k ws js c × AllFit k ws js cs

-- how many cards are of the thread t
abbrev pub cards_of : ℕ → List Card → ℕ
cards_of t [] = 0
cards_of t (c ∷ cs) = (if c.thread == t then 1 else 0) + cards_of t cs

abbrev pub all_cards_of : ℕ → List (List Card) → ℕ
all_cards_of t [] = 0
all_cards_of t (v ∷ vs) = cards_of t v + all_cards_of t vs

-- the rule; the bits of a cell above its flags are 0, and a counter has 32 bits
pub record Kept (k : Layout') (presets : List ℕ) (s : State (Unit {0}) (List Card)) : Type 0 where
  pub layout : IsLayout k
  pub wide : length s.words ≡ words_of k
  pub histories : List (List Point)
  pub leaves : (m : ℕ) → m < k.mutexes
      → Leaves k.threads (cell_place k m) (at histories (cell_place k m))
      (object_of (fields_of (slice_index s.words (cell_place k m))))
  pub legal : (p : ℕ) → (o : Object) × Leaves k.threads p (at histories p) o
  pub narrow : (m : ℕ) → m < k.mutexes → (fields_of (slice_index s.words (cell_place k m))).rest ≡ 0
  pub counters : (q : ℕ) → q < length k.conditions → slice_index s.words (counter_place k q) < 4294967296
  pub counted : Counted k presets s.words histories
  pub fits : (id : ℕ) (v : List Card) → get_elem? s.views id ≡ some v → AllFit k s.words histories v
  pub once : (t : ℕ) → all_cards_of t s.views ≤ 1
  pub recorded : Recorded k s.words s.views

-- ---- what steps tell

abbrev pub Sat : Type 0
Sat = Me (Unit {0}) (List Card)

abbrev pub At : Type 0
At = Step (Unit {0})

-- the one card of a pass
abbrev pub card_of : List Card → Card
card_of [] = record {
  threads = 0;
  thread = 0;
  base = 0;
  seen = [];
  misses = 0;
  last = 0;
  trims = 0;
  counted = 0;
  values = [];
  marks = [];
  changes = [];
}
card_of (c ∷ cs) = c

abbrev pub IsOne : Sat → Type 0
IsOne me = me ≡ (card_of me.0 ∷ [], [])

-- one card becomes another, of which this is recorded
abbrev pub Turns : Sat → Sat → (Card → Card → Type 0) → Type 0
Turns me me' tells = (c : Card) → me ≡ (c ∷ [], []) → (d : Card) × (me' ≡ (d ∷ [], [])) × tells c d

-- how the cards of one seat are dealt: the first, and the rest
abbrev pub first_of : List Card → List Card
first_of [] = []
first_of (c ∷ cs) = c ∷ []

abbrev pub rest_of : List Card → List Card
rest_of [] = []
rest_of (c ∷ cs) = cs

-- a load by a seat that has two cards
abbrev pub met : At → Sat → ℕ → Sat → Type 0
met st me r me' =
    (c d : Card) → me ≡ (c ∷ d ∷ [], []) → (c' : Card) × (d' : Card) × (me' ≡ (c' ∷ d' ∷ [], [])) × Joined c d c' d'

-- what a pass saw begins these lists, which have just its thread's points of its own
pub record IsAmong (histories : List (List Point)) (c : Card) : Type 0 where
  pub begins : (p : ℕ) → IsPrefix (at c.seen p) (at histories p)
  pub own : (p : ℕ) → by c.thread (at histories p) ≡ by c.thread (at c.seen p)

-- the last words: each cell is as one legal list of its mutex says, in which is what these passes saw, all of them. A
-- cell has no bits above its flags. The counters count what counts in these lists; and each is as the changes of it
-- leave it, all that were made, of which these passes know the first and their threads' own; all that a pass doesn't
-- know of are by threads that there are
pub record Ends (k : Layout') (presets : List ℕ) (cards : List Card) (words : List ℕ) : Type 0 where
  pub histories : List (List Point)
  pub leaves : (m : ℕ) → m < k.mutexes
      → Leaves k.threads (cell_place k m) (at histories (cell_place k m))
      (object_of (fields_of (slice_index words (cell_place k m))))
  pub narrow : (m : ℕ) → m < k.mutexes → (fields_of (slice_index words (cell_place k m))).rest ≡ 0
  pub counted : Counted k presets words histories
  pub changes : List (List Change)
  pub count : (q : ℕ) → q < length k.conditions
      → left_by (changes_at changes (counter_place k q)) ≡ slice_index words (counter_place k q)
  pub authors : (p : ℕ) → AreBehindFirst k.threads (changes_at changes p)
  pub tied : AllTied k.threads changes cards
  pub among : All (IsAmong histories) cards
