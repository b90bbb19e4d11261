-- In which order the facts of an event, and those of one event after the other, are recorded.
use Rattle.std.proofs.Common.{◌≡◌, ℕ, ◌+◌, ◌≤◌, Bool, true, false, Option, Some, None, List, [], ◌∷◌, ◌++◌, map, refl, sym, ◌∙◌, arith}
use Rattle.protocol.proofs.Vocabulary.{Expired}
use Rattle.protocol.proofs.Vocabulary.{Condition, Mutex}
use Rattle.protocol.proofs.Vocabulary.{Left, Renewed, Reinited}
use Rattle.protocol.proofs.Vocabulary.{Fact, Queue, Operation, Reply, Stepped, Event, facts_of, sleep_facts, moves_to, return_facts, death_facts, reap_facts, decision, caller}
use Rattle.protocol.proofs.Vocabulary.{line_of, caller_of, lines_from, Note, Nothing, Began, Killed, Walked}
use Rattle.facts.specs.declared.fact.Line.{Line}
use Rattle.facts.specs.Facts.{thread_of, decides, is_passive, is_kill, is_renewal}
use Rattle.facts.specs.Orders.{Later, Each, Orderly}
use Rattle.protocol.specs.Explained.{is_begin, is_last, decides_first, Within, AreWithin}
use Rattle.protocol.proofs.NoteFacts.{IsOfSleep, behind_woken, behind_point, of_access, of_walk}

-- ---- which facts one event may tell, of thread u: no two points, and except for wakes nothing of others
abbrev pub NoPoint : List Fact → Type 0
NoPoint [] = Unit {0}
NoPoint (f ∷ fs) = (decides f ≡ false) × NoPoint fs

abbrev pub Fine : ℕ → List Fact → Type 0
Fine u [] = Unit {0}
Fine u (f ∷ fs) = (is_passive f ≡ false → thread_of f ≡ u) × (decides f ≡ true → NoPoint fs) × Fine u fs

sleep_decides : (u : ℕ) (f : Fact) → IsOfSleep u f → decides f ≡ false
sleep_decides u f of = grind (arith)

sleep_thread : (u : ℕ) (f : Fact) → IsOfSleep u f → is_passive f ≡ false → thread_of f ≡ u
sleep_thread u f of active = grind (arith)

slept_pointless : (u m : ℕ) (z : Option Queue) (ws ms : List ℕ) (y : Option Reply) → NoPoint (sleep_facts u z ++ (map Fact.Wake ws ++ (map (moves_to m) ms ++ return_facts u y)))
slept_pointless u m z ws ms y = behind_point NoPoint u m z ws ms (return_facts u y) (λ f of fs rest. (sleep_decides u f of, rest)) (grind (arith))

returned_fine : (u : ℕ) (y : Option Reply) → Fine u (return_facts u y)
returned_fine u None = tt
returned_fine u (Some x) = ((λ e. refl), (λ e. tt), tt)

slept_fine : (u m : ℕ) (z : Option Queue) (ws ms : List ℕ) (y : Option Reply) → Fine u (sleep_facts u z ++ (map Fact.Wake ws ++ (map (moves_to m) ms ++ return_facts u y)))
slept_fine u m z ws ms y = behind_point (Fine u) u m z ws ms (return_facts u y) (λ f of fs rest. (sleep_thread u f of, (λ e. absurd (cc (e, sleep_decides u f of))), rest)) (returned_fine u y)

pub access_fine : (u m : ℕ) (op : Operation) (x : Option Reply) (z : Option Queue) (ws ms : List ℕ) (y : Option Reply) → Fine u (facts_of (Stepped u m (decision u m op x) z ws ms y))
access_fine u m op None z ws ms y = slept_fine u m z ws ms y
access_fine u m op (Some x) z ws ms y = ((λ e. refl), (λ e. slept_pointless u m z ws ms y), slept_fine u m z ws ms y)

reaped_pointless : (u : ℕ) (ws : List ℕ) (y : Bool) → NoPoint (map Fact.Wake ws ++ reap_facts u y)
reaped_pointless u ws y = behind_woken NoPoint ws (reap_facts u y) (λ w fs rest. (refl, rest)) (grind (arith))

reaped_fine : (u : ℕ) (ws : List ℕ) (y : Bool) → Fine u (map Fact.Wake ws ++ reap_facts u y)
reaped_fine u ws y = behind_woken (Fine u) ws (reap_facts u y) (λ w fs rest. ((λ e. absurd cc), (λ e. absurd cc), rest)) (reap_fine y)
  where
    reap_fine : (b : Bool) → Fine u (reap_facts u b)
    reap_fine false = tt
    reap_fine true = ((λ e. refl), (λ e. tt), tt)

pub walked_fine : (u : ℕ) (d : Option ℕ) (ws : List ℕ) (y : Bool) → Fine u (death_facts u d ++ (map Fact.Wake ws ++ reap_facts u y))
walked_fine u None ws y = reaped_fine u ws y
walked_fine u (Some m) ws y = ((λ e. refl), (λ e. reaped_pointless u ws y), reaped_fine u ws y)

-- ---- a kill is recorded alone
abbrev pub NoKill : List Fact → Type 0
NoKill [] = Unit {0}
NoKill (f ∷ fs) = (is_kill f ≡ false) × NoKill fs

abbrev pub KillsAlone : List Fact → Type 0
KillsAlone [] = Unit {0}
KillsAlone (f ∷ []) = Unit {0}
KillsAlone (f ∷ g ∷ fs) = NoKill (f ∷ g ∷ fs)

pub no_kill_alone : (fs : List Fact) → NoKill fs → KillsAlone fs
no_kill_alone [] none = tt
no_kill_alone (f ∷ []) none = tt
no_kill_alone (f ∷ g ∷ fs) none = none

alone_behind : (f : Fact) (fs : List Fact) → KillsAlone (f ∷ fs) → KillsAlone fs
alone_behind f [] alone = tt
alone_behind f (g ∷ fs) alone = no_kill_alone (g ∷ fs) alone.1

-- neither the one nor the others is a kill, if there are others
abbrev Beside : Fact → List Fact → Type 0
Beside f [] = Unit {0}
Beside f (g ∷ fs) = (is_kill f ≡ false) × (is_kill g ≡ false) × Beside f fs

no_kill_beside : (f : Fact) → is_kill f ≡ false → (fs : List Fact) → NoKill fs → Beside f fs
no_kill_beside f lives [] none = tt
no_kill_beside f lives (g ∷ fs) none = (lives, none.0, no_kill_beside f lives fs none.1)

beside : (f : Fact) (fs : List Fact) → KillsAlone (f ∷ fs) → Beside f fs
beside f [] alone = tt
beside f (g ∷ fs) alone = no_kill_beside f alone.0 (g ∷ fs) alone.1

sleep_no_kill : (u : ℕ) (f : Fact) → IsOfSleep u f → is_kill f ≡ false
sleep_no_kill u f of = grind (arith)

pub access_no_kill : (u m : ℕ) (op : Operation) (x : Option Reply) (z : Option Queue) (ws ms : List ℕ) (y : Option Reply) → NoKill (facts_of (Stepped u m (decision u m op x) z ws ms y))
access_no_kill u m op x z ws ms y = of_access NoKill u m (decision u m op x) z ws ms y (λ e fs rest. (refl, rest)) (λ f of fs rest. (sleep_no_kill u f of, rest)) (grind (arith))

pub walked_no_kill : (u : ℕ) (d : Option ℕ) (ws : List ℕ) (y : Bool) → NoKill (death_facts u d ++ (map Fact.Wake ws ++ reap_facts u y))
walked_no_kill u d ws y = of_walk NoKill u d ws y (λ m fs rest. (refl, rest)) (λ w fs rest. (refl, rest)) (grind (arith))

-- ---- the order of lines

-- the line's event is one of these, of which the first has number i, and except for a wake it is its thread's
abbrev pub Called : ℕ → List Event → Line → Type 0
Called i es l = (i ≤ l.event) × (is_passive l.fact ≡ false → thread_of l.fact ≡ caller_of i es l.event)

-- what holds of each line gives another thing of each
pub each : (P Q : Line → Type 0) → ((l : Line) → P l → Q l) → (ls : List Line) → Each P ls → Each Q ls
each P Q go [] all = tt
each P Q go (l ∷ ls) all = (go l all.0, each P Q go ls all.1)

-- the first of the events is its caller's
caller_of-first : (i : ℕ) (e : Event) (es : List Event) → caller_of i (e ∷ es) i ≡ caller e
caller_of-first i e es = grind (arith)

-- a line of a later event is called among all of them too
called_later : (i : ℕ) (e : Event) (es : List Event) (l : Line) → Called (i + 1) es l → Called i (e ∷ es) l
called_later i e es l c = grind (arith)

-- lines that are in order, and of events from i on
abbrev pub InOrder : ℕ → List Event → List Line → Type 0
InOrder i es ls = Orderly ls × Each (Called i es) ls

-- a line of event i stands rightly before lines of later events
before_all : (i : ℕ) (es : List Event) (f : Fact) (ls : List Line) → Each (Called (i + 1) es) ls → Each (Later (line_of i f)) ls
before_all i es f ls =
    each (Called (i + 1) es) (Later (line_of i f)) (λ l c. record {
      never_falls = let at = c.0 in omega arith;
      decisions_rise = λ a b. let at = c.0 in omega arith;
      one_thread = λ same a b. absurd (let at = c.0 in omega arith);
      kill_before = λ a. let at = c.0 in omega arith;
      kill_behind = λ a. let at = c.0 in omega arith;
    }) ls

-- a line of event i stands rightly before the others of that event, and before those of later ones
beside_all : (u i : ℕ) (f : Fact) (fs : List Fact) (ls : List Line) → (is_passive f ≡ false → thread_of f ≡ u) → (decides f ≡ true → NoPoint fs) → Beside f fs → Fine u fs → Each (Later (line_of i f)) ls → Each (Later (line_of i f)) (map (line_of i) fs ++ ls)
beside_all u i f [] ls mine alone quiet fine later = later
beside_all u i f (g ∷ fs) ls mine alone quiet fine later = (
  record {
    never_falls = omega arith;
    decisions_rise = λ a b. absurd (cc ((alone a).0, b));
    one_thread = λ same a b. mine a ∙ sym (fine.0 b);
    kill_before = λ a. absurd (cc (a, quiet.0));
    kill_behind = λ a. absurd (cc (a, quiet.1));
  },
  beside_all u i f fs ls mine (λ a. (alone a).1) quiet.2 fine.2 later,
)

-- what one event tells stands rightly before what later ones tell
pub placed : (i : ℕ) (e : Event) (es : List Event) (fs : List Fact) (ls : List Line) → Fine (caller e) fs → KillsAlone fs → InOrder (i + 1) es ls → InOrder i (e ∷ es) (map (line_of i) fs ++ ls)
placed i e es [] ls fine alone (order, called) = (order, each (Called (i + 1) es) (Called i (e ∷ es)) (called_later i e es) ls called)
placed i e es (f ∷ fs) ls fine alone (order, called) =
    let others = placed i e es fs ls fine.2 (alone_behind f fs alone) (order, called) in (
      (beside_all (caller e) i f fs ls fine.0 fine.1 (beside f fs alone) fine.2 (before_all i es f ls called), others.0),
      ((omega arith, λ own. fine.0 own ∙ sym (caller_of-first i e es)), others.1),
    )

-- ---- the lines of one event

abbrev Inside : Fact → List Fact → Type 0
Inside f [] = Unit {0}
Inside f (g ∷ gs) = (is_begin g ≡ false) × (is_last f ≡ false) × (is_passive f ≡ true → decides_first g ≡ false) × ((is_renewal f ≡ false) × (is_renewal g ≡ false)) × Inside f gs

abbrev pub AreInside : List Fact → Type 0
AreInside [] = Unit {0}
AreInside (f ∷ fs) = Inside f fs × AreInside fs

-- facts none of which begins a call, decides anything before a wake or is a renewal
abbrev Plain : List Fact → Type 0
Plain [] = Unit {0}
Plain (f ∷ fs) = (is_begin f ≡ false) × (decides_first f ≡ false) × (is_renewal f ≡ false) × Plain fs

-- they may be after whatever isn't the last, and no renewal
behind : (f : Fact) → is_last f ≡ false → is_renewal f ≡ false → (fs : List Fact) → Plain fs → Inside f fs
behind f goes_on old [] plain = tt
behind f goes_on old (g ∷ gs) plain = (plain.0, goes_on, (λ e. plain.1), (old, plain.2), behind f goes_on old gs plain.3)

-- facts, one after the other, that are no last ones, and before a last one
abbrev Ordered : List Fact → Type 0
Ordered fs = Plain fs × AreInside fs

ahead : (f : Fact) → is_begin f ≡ false → decides_first f ≡ false → is_last f ≡ false → is_renewal f ≡ false → (fs : List Fact) → Ordered fs → Ordered (f ∷ fs)
ahead f begins decided goes_on old fs h = ((begins, decided, old, h.0), (behind f goes_on old fs h.0, h.1))

of_sleep : (u : ℕ) (f : Fact) → IsOfSleep u f → (is_begin f ≡ false) × (decides_first f ≡ false) × (is_last f ≡ false) × (is_renewal f ≡ false)
of_sleep u f of = grind (arith)

returned_ordered : (u : ℕ) (y : Option Reply) → Ordered (return_facts u y)
returned_ordered u None = (tt, tt)
returned_ordered u (Some x) = ((refl, refl, refl, tt), (tt, tt))

reaped_ordered : (u : ℕ) (y : Bool) → Ordered (reap_facts u y)
reaped_ordered u false = (tt, tt)
reaped_ordered u true = ((refl, refl, refl, tt), (tt, tt))

slept_ordered : (u m : ℕ) (z : Option Queue) (ws ms : List ℕ) (y : Option Reply) → Ordered (sleep_facts u z ++ (map Fact.Wake ws ++ (map (moves_to m) ms ++ return_facts u y)))
slept_ordered u m z ws ms y = behind_point Ordered u m z ws ms (return_facts u y) (λ f of fs rest. let is = of_sleep u f of in ahead f is.0 is.1 is.2 is.3 fs rest) (returned_ordered u y)

woken_ordered : (u : ℕ) (ws : List ℕ) (y : Bool) → Ordered (map Fact.Wake ws ++ reap_facts u y)
woken_ordered u ws y = behind_woken Ordered ws (reap_facts u y) (λ w fs rest. ahead (Fact.Wake w) refl refl refl refl fs rest) (reaped_ordered u y)

-- each note tells them so
pub told_inside : (n : Note) → AreInside (facts_of n)
told_inside Nothing = tt
told_inside (Began t c None) = (tt, tt)
told_inside (Began t c (Some x)) = ((refl, refl, (λ e. absurd cc), (refl, refl), (refl, refl, (λ e. absurd cc), (refl, refl), tt)), ((refl, refl, (λ e. absurd cc), (refl, refl), tt), (tt, tt)))
told_inside (Stepped u m None z ws ms y) = (slept_ordered u m z ws ms y).1
told_inside (Stepped u m (Some d) z ws ms y) = let later = slept_ordered u m z ws ms y in (behind (Fact.Point d) refl refl _ later.0, later.1)
told_inside (Killed t) = (tt, tt)
told_inside (Left t) = (tt, tt)
told_inside (Expired t (Mutex m)) = ((refl, refl, (λ e. refl), (refl, refl), tt), (tt, tt))
told_inside (Expired t (Condition k)) = (tt, tt)
told_inside (Renewed t) = (tt, tt)
told_inside (Reinited t m) = ((refl, refl, (λ e. absurd cc), (refl, refl), (refl, refl, (λ e. absurd cc), (refl, refl), tt)), ((refl, refl, (λ e. absurd cc), (refl, refl), tt), (tt, tt)))
told_inside (Walked u None ws y) = (woken_ordered u ws y).1
told_inside (Walked u (Some m) ws y) = let later = woken_ordered u ws y in (behind (Fact.Death u m) refl refl _ later.0, later.1)

-- events from i on
abbrev From : ℕ → List Line → Type 0
From i ls = Each (λ l. i ≤ l.event) ls

from_map : (i : ℕ) (fs : List Fact) (ls : List Line) → From i ls → From i (map (line_of i) fs ++ ls)
from_map i [] ls h = h
from_map i (f ∷ fs) ls h = (omega arith, from_map i fs ls h)

from_later : (i : ℕ) (ls : List Line) → From (i + 1) ls → From i ls
from_later i ls h = each (λ l. i + 1 ≤ l.event) (λ l. i ≤ l.event) (λ l at. omega (arith, at)) ls h

lines_after : (i : ℕ) (ns : List Note) → From i (lines_from i ns)
lines_after i [] = tt
lines_after i (n ∷ ns) = from_map i (facts_of n) (lines_from (i + 1) ns) (from_later i (lines_from (i + 1) ns) (lines_after (i + 1) ns))

-- lines of later events are of none of these
apart : (i : ℕ) (f : Fact) (ls : List Line) → From (i + 1) ls → Each (Within (line_of i f)) ls
apart i f ls h = each (λ l. i + 1 ≤ l.event) (Within (line_of i f)) (λ l at. record { first = λ e. absurd (omega (arith, at)); last = λ e. absurd (omega (arith, at)); decided = λ e. absurd (omega (arith, at)); alone = λ e. absurd (omega (arith, at)) }) ls h

beside_those : (i : ℕ) (f : Fact) (fs : List Fact) (ls : List Line) → Inside f fs → Each (Within (line_of i f)) ls → Each (Within (line_of i f)) (map (line_of i) fs ++ ls)
beside_those i f [] ls inside later = later
beside_those i f (g ∷ gs) ls inside later = (record { first = λ e. inside.0; last = λ e. inside.1; decided = λ e. inside.2; alone = λ e. inside.3 }, beside_those i f gs ls inside.4 later)

within_one : (i : ℕ) (fs : List Fact) (ls : List Line) → AreInside fs → From (i + 1) ls → AreWithin ls → AreWithin (map (line_of i) fs ++ ls)
within_one i [] ls inside later rest = rest
within_one i (f ∷ fs) ls inside later rest = (beside_those i f fs ls inside.0 (apart i f ls later), within_one i fs ls inside.1 later rest)

pub within : (i : ℕ) (ns : List Note) → AreWithin (lines_from i ns)
within i [] = tt
within i (n ∷ ns) = within_one i (facts_of n) (lines_from (i + 1) ns) (told_inside n) (lines_after (i + 1) ns) (within (i + 1) ns)
