-- The walk over a dead thread's robust list, access by access (robust-futexes.rst, robust-futex-ABI.rst,
-- get_robust_list(2)).
--
-- | is at       | access                            | then
-- | LoadFirst   | load the head's first word        | LoadOffset
-- | LoadOffset  | load the head's second word       | LoadPending
-- | LoadPending | load the head's third word        | Forward, with no entry loaded
-- | LoadNext    | load the entry: the next one      | Forward where it is the pending entry. Else LoadWord of the entry's mutex, and then Forward
-- | LoadWord    | load a mutex's word               | Look at it
-- | Mark        | exchange the word seen for the    | marked, which is the owner's death: WakeOne where WAITERS was set, else on.
-- |             | same, marked                      | Changed: Look at the word found; after a second exchange leave it alone, and on
-- | WakeOne     | wake one sleeper on the word      | on
--
-- Forward: LoadNext; but at the list's end, the head's own address, and after 2,048 entries, LoadWord of the pending
-- entry's mutex, and then the end; where there is no pending entry, the end at once. Look: the word is marked where its
-- owner is the dead thread, and else left alone; except for the pending entry's, which nobody owns, WakeOne. A
-- fault, or an answer that isn't one of the access, is the end. An entry's mutex is at the entry's address and the
-- offset, modulo 2^64. This project's own, of which nothing is claimed of a kernel: the end at a fault, the pending
-- entry included; the word left alone after a second exchange; the wake for an unowned pending word; and that the
-- bits above the low half stay.
--
-- Why an entry's next one is loaded before its mutex's word is marked, drawn in the wrong order:
--
--     the walk for t1, at mutex m                 t2 locks m
--     Mark      m is nobody's, its owner died
--                                                 Take     m is t2's
--                                                 Linking  m's next entry is the first of t2's list
--     LoadNext  goes on along t2's list, and the mutexes after m that t1 owned stay its own
use Rattle.std.specs.Prelude.{ℕ, ◌≡◌, ◌+◌, ◌==◌, ◌≤◌, ◌<◌, ◌&&◌, ◌||◌, Bool}
use Rattle.std.specs.Prelude.{true, false, Option, Some, None, if◌then◌else◌}
use Rattle.posixmutex.specs.Objects.{held_limit}
use Rattle.lockword.specs.Cells.{fields_of, word_of, marked}
use Rattle.lockword.specs.declared.reply.Reply.TheVariants.{OK}
use Rattle.stepprograms.specs.declared.access.Access.{Access}
use Rattle.stepprograms.specs.declared.access.Access.TheVariants.{Load, Exchange, Wake}
use Rattle.stepprograms.specs.declared.access.Answer.{Answer}
use Rattle.stepprograms.specs.declared.access.Answer.TheVariants.{Value, Exchanged, Changed, Count}
use Rattle.posixmutex.specs.declared.point.Operation.TheVariants.{Death}
use Rattle.posixmutex.specs.declared.point.Point.{Point}
use Rattle.stepprograms.specs.declared.program.Progress.{Progress}
use Rattle.stepprograms.specs.declared.program.Progress.TheVariants.{Goes, Returns}
use Rattle.exitwalk.specs.declared.row.Rest.{Rest}
use Rattle.exitwalk.specs.declared.row.Part.{Part}
use Rattle.exitwalk.specs.declared.row.Part.TheVariants.{List, Pending}
use Rattle.exitwalk.specs.declared.row.Row.{Row}
use Rattle.exitwalk.specs.declared.row.Row.TheVariants.{LoadFirst, LoadOffset, LoadPending}
use Rattle.exitwalk.specs.declared.row.Row.TheVariants.{LoadNext, LoadWord, Mark, WakeOne, Ended}
use Rattle.exitwalk.specs.Standings.{Standing}
use Rattle.exitwalk.specs.Words.{sum_of}

-- what a mark makes of a word
abbrev pub marked_word : ℕ → ℕ
marked_word v = word_of (marked (fields_of v))

abbrev pub is_pending : Part → Bool
is_pending (List r) = false
is_pending Pending = true

abbrev pub row_access : ℕ → Row → Access
row_access h LoadFirst = Load h
row_access h (LoadOffset first) = Load (sum_of h 1)
row_access h (LoadPending first offset) = Load (sum_of h 2)
row_access h (LoadNext r) = Load r.entry
row_access h (LoadWord at part) = Load at
row_access h (Mark at seen again part) = Exchange at seen (marked_word seen)
row_access h (WakeOne at part) = Wake at 1
row_access h Ended = Load h

abbrev pub to_pending : ℕ → ℕ → Row
to_pending offset pending = if pending == 0 then Ended else LoadWord (sum_of pending offset) Pending

abbrev pub forward : ℕ → Rest → Row
forward h r = if r.entry == h || r.loaded == held_limit then to_pending r.offset r.pending else LoadNext r

abbrev pub goes_on : ℕ → Part → Row
goes_on h (List r) = forward h r
goes_on h Pending = Ended

-- with one entry more loaded, and the next one known
abbrev pub further : Rest → ℕ → Rest
further r next = record { entry = next; offset = r.offset; pending = r.pending; loaded = r.loaded + 1 }

abbrev pub after_next : ℕ → Rest → ℕ → Row
after_next h r next =
    if r.entry == r.pending
    then forward h (further r next)
    else LoadWord (sum_of r.entry r.offset) (List (further r next))

abbrev pub looks : ℕ → ℕ → ℕ → ℕ → Bool → Part → Row
looks t h at v again part =
    if is_pending part && ((fields_of v).owner == 0) then WakeOne at part
    else if (fields_of v).owner == t then Mark at v again part
    else goes_on h part

-- after a mark: somebody who may sleep is woken
abbrev pub after_mark : ℕ → ℕ → ℕ → Part → Row
after_mark h at seen part = if (fields_of seen).waiters then WakeOne at part else goes_on h part

-- after an exchange that found another word: that is looked at, once
abbrev pub after_miss : ℕ → ℕ → ℕ → Bool → Part → ℕ → Row
after_miss t h at again part found = if again then goes_on h part else looks t h at found true part

-- where an answer leads, row by row
abbrev pub row_after : ℕ → ℕ → Row → Answer → Row
row_after t h LoadFirst (Value v) = LoadOffset v
row_after t h (LoadOffset first) (Value v) = LoadPending first v
row_after t h (LoadPending first offset) (Value v) =
    forward h (record { entry = first; offset = offset; pending = v; loaded = 0 })
row_after t h (LoadNext r) (Value v) = after_next h r v
row_after t h (LoadWord at part) (Value v) = looks t h at v false part
row_after t h (Mark at seen again part) Exchanged = after_mark h at seen part
row_after t h (Mark at seen again part) (Changed found) = after_miss t h at again part found
row_after t h (WakeOne at part) (Count n) = goes_on h part
row_after t h r a = Ended

-- the exchange that marks a word is the owner's death at that address
abbrev pub point_of : ℕ → Row → Answer → Option Point
point_of t (Mark at seen again part) Exchanged = Some (record { thread = t; at = at; operation = Death; reply = OK })
point_of t r a = None

-- the walk hasn't ended
abbrev pub IsGoing : Row → Type 0
IsGoing Ended = ⊥
IsGoing r = Unit {0}

-- of a list's rest one entry at least has been loaded, and 2,048 at most
abbrev pub IsCounted : Part → Type 0
IsCounted (List r) = (1 ≤ r.loaded) × (r.loaded ≤ held_limit)
IsCounted Pending = Unit {0}

-- what a walk of thread t's list knows, whose head is at h: an entry that it loads isn't the head, a word that it marks
-- was seen with that owner
abbrev pub Knows : ℕ → ℕ → Row → Type 0
Knows t h (LoadNext r) = ((r.entry == h) ≡ false) × (r.loaded < held_limit)
Knows t h (LoadWord at part) = IsCounted part
Knows t h (Mark at seen again part) = ((fields_of seen).owner ≡ t) × IsCounted part
Knows t h (WakeOne at part) = IsCounted part
Knows t h r = Unit {0}

abbrev pub walk_at : ℕ → ℕ → Row → Standing
walk_at t h r = record { thread = t; head = h; row = r }

abbrev pub begun : ℕ → ℕ → Standing
begun t h = walk_at t h LoadFirst

abbrev pub access_of : Standing → Access
access_of s = row_access s.head s.row

abbrev pub moved : Standing → Answer → Standing
moved s a = record s { row = row_after s.thread s.head s.row a }

abbrev pub progress_at : Option Point → Row → Progress
progress_at point Ended = Returns OK point
progress_at point r = Goes point

abbrev pub progress_of : Standing → Answer → Progress
progress_of s a = progress_at (point_of s.thread s.row a) (row_after s.thread s.head s.row a)
