-- A call, turn by turn.
use Rattle.std.proofs.Common.{false, ◌≡◌, ℕ, ◌≤◌, None, Ok, [], ◌∷◌, refl, sym, ap, ◌∙◌, subst, arith}
use Rattle.std.specs.Prelude.{◌&&◌, nat_le}
use Rattle.std.proofs.lemmas.Bool.Decides.{nat_tests}
use Rattle.lockword.specs.declared.reply.Reply.{Reply}
use Rattle.facts.specs.Lives.{Complete}
use Rattle.lockword.specs.declared.reply.Reply.TheVariants.{XRACED}
use Rattle.stepprograms.specs.declared.access.Answer.{Answer}
use Rattle.posixmutex.specs.declared.point.Operation.TheVariants as operation
use Rattle.memorymap.specs.Layouts.{Layout', cell_place, address_in}
use Rattle.posixmutex.specs.declared.object.Object.{Object}
use Rattle.posixmutex.specs.Objects.{acquires, fresh}
use Rattle.mutex.specs.declared.call.Call.{Call}
use Rattle.mutex.specs.declared.call.Call.TheVariants.{Lock, TimedLock, TryLock, Unlock, Consistent}
use Rattle.mutex.specs.declared.row.Row.TheVariants as row
use Rattle.mutex.specs.Calls.{acts_as, mutex_of, operation_of}
use Rattle.mutex.specs.declared.row.Row.{Row}
use Rattle.mutex.specs.Laws.{decided, Expects, IsOf}
use Rattle.mutex.specs.Programs.{access_of, first_row, led, moved}
use Rattle.mutex.specs.Rows.{IsGoing, Knows}
use Rattle.mutex.specs.Whole.{first_phase, whole_started, begins as whole_begins, IsUnderWay as IsInProgress}
use Rattle.mutex.specs.Standings.{Standing, Whole}
use Rattle.mutex.specs.Steps.{IsStep}
use Rattle.ruledwords.specs.declared.pass.Card.{Card}
use Rattle.ruledwords.specs.declared.pass.Words.{Words}
use Rattle.ruledwords.specs.declared.pass.Pass.{Pass}
use Rattle.ruledwords.specs.declared.pass.Live.{Live}
use Rattle.ruledwords.specs.declared.turn.Running.{Running}
use Rattle.ruledwords.specs.Passes.{card, layout_of}
use Rattle.ruledwords.specs.Changes.{KnowsMoreAt}
use Rattle.ruledwords.specs.Seen.{Called, Died}
use Rattle.ruledwords.specs.Calls.{ExpectsKnown, IsOnMutex, Ready, Stands, Made, led_at, most, row_in, standing_of}
use Rattle.ruledwords.specs.Turns.{running_program, IsUnderWay, IsAnswerOf, IsRaced}
use Rattle.ruledwords.proofs.Beginnings.{by_test}
use Rattle.ruledwords.proofs.Cards.{same_mutex, dies}
use Rattle.ruledwords.proofs.Standing.{begins, stands_after, called, raced_four}
use Rattle.ruledwords.proofs.Sections.{stands_answered}

-- ---- a call begins

first_of : (c : Call) → IsOf (acts_as c) (first_row c)
first_of (Lock m) = refl
first_of (TimedLock m) = refl
first_of (TryLock m) = refl
first_of (Unlock m) = refl
first_of (Consistent m) = refl

first_undecided : (c : Call) → decided (first_row c) ≡ None
first_undecided (Lock m) = refl
first_undecided (TimedLock m) = refl
first_undecided (TryLock m) = refl
first_undecided (Unlock m) = refl
first_undecided (Consistent m) = refl

first_expects : (q : ℕ) (c : Card) (call : Call) → ExpectsKnown (first_row call) q c
first_expects q c (Lock m) = tt
first_expects q c (TimedLock m) = tt
first_expects q c (TryLock m) = tt
first_expects q c (Unlock m) = tt
first_expects q c (Consistent m) = tt

-- where a call stands that begins
pub starts : (k : Layout') (t h : ℕ) (c : Call) (p : Whole) → whole_started k t h c ≡ Ok p → p ≡ whole_begins k t c
starts k t h c p e = (by_test (acquires (operation_of c) && nat_le 2048 h) (whole_begins k t c) p e).1

-- as its mutex sees it, at the first row
pub starts_so : (k : Layout') (t : ℕ) (c : Call) → standing_of (whole_begins k t c) ≡ record { thread = t; cell = address_in k t (cell_place k (mutex_of c)); row = first_row c }
starts_so k t (Lock m) = refl
starts_so k t (TimedLock m) = refl
starts_so k t (TryLock m) = refl
starts_so k t (Unlock m) = refl
starts_so k t (Consistent m) = refl

pub begun : (k : Layout') (c : Card) (call : Call) (p : Whole) → p ≡ whole_begins k c.thread call → Stands (acts_as call) (first_row call) (cell_place k (mutex_of call)) c (standing_of p) c
begun k c call p is =
    let at : Standing = record { thread = c.thread; cell = address_in k c.thread (cell_place k (mutex_of call)); row = first_row call } in
    subst (λ (q : Standing). Stands (acts_as call) (first_row call) (cell_place k (mutex_of call)) c q c) (sym (ap standing_of is ∙ starts_so k c.thread call))
    (begins (acts_as call) (cell_place k (mutex_of call)) c at (first_of call) (first_undecided call) (first_expects (cell_place k (mutex_of call)) c call))

first_knows : (t : ℕ) (c : Call) (o : Object) → Knows (first_row c) × Expects t (first_row c) o
first_knows t (Lock m) o = (tt, tt)
first_knows t (TimedLock m) o = (tt, tt)
first_knows t (TryLock m) o = (tt, tt)
first_knows t (Unlock m) o = (tt, tt)
first_knows t (Consistent m) o = (tt, tt)

pub begun_ready : (k : Layout') (c : Card) (call : Call) (p : Whole) → p ≡ whole_begins k c.thread call → Ready (standing_of p) c
begun_ready k c call p is =
    let at : Standing = record { thread = c.thread; cell = address_in k c.thread (cell_place k (mutex_of call)); row = first_row call } in
    let ready : Ready at c = (refl, (first_knows c.thread call fresh).0, λ q o small there run. (first_knows c.thread call o).1) in
    subst (λ (z : Standing). Ready z c) (sym (ap standing_of is ∙ starts_so k c.thread call)) ready

first_room : (c : Call) (h : ℕ) → (acquires (operation_of c) && nat_le 2048 h) ≡ false → h ≤ 2048 → h ≤ most (first_row c)
first_room (Lock m) h free few = grind (arith, nat_tests)
first_room (TimedLock m) h free few = grind (arith, nat_tests)
first_room (TryLock m) h free few = grind (arith, nat_tests)
first_room (Unlock m) h free few = omega arith
first_room (Consistent m) h free few = omega arith

first_under_way : (c : Call) → IsInProgress (first_phase c)
first_under_way (Lock m) = tt
first_under_way (TimedLock m) = tt
first_under_way (TryLock m) = tt
first_under_way (Unlock m) = tt
first_under_way (Consistent m) = tt

pub begun_room : (k : Layout') (t h : ℕ) (call : Call) (p : Whole) → whole_started k t h call ≡ Ok p → h ≤ 2048 → h ≤ most (row_in p.phase)
begun_room k t h call p e few =
    let b = by_test (acquires (operation_of call) && nat_le 2048 h) (whole_begins k t call) p e in
    subst (λ (r : Row). h ≤ most r) (sym (ap (λ (z : Standing). z.row) (ap standing_of b.1 ∙ starts_so k t call))) (first_room call h b.0 few)

pub begun_under_way : (k : Layout') (t h : ℕ) (call : Call) (p : Whole) → whole_started k t h call ≡ Ok p → IsInProgress p.phase
begun_under_way k t h call p e = subst (λ (z : Whole). IsInProgress z.phase) (sym (starts k t h call p e)) (first_under_way call)

-- ---- it goes on, or ends

-- a trylock that gives up
pub raced_at : (call : Call) (q : ℕ) (c : Card) (p : Standing) (d : Card) (x : Reply) → Stands (acts_as call) (first_row call) q c p d → p.row ≡ row.Ended x → IsRaced (acts_as call) x c q d
raced_at (Lock m) q c p d x s is = tt
raced_at (TimedLock m) q c p d x s is = tt
raced_at (TryLock m) q c p d XRACED s is = raced_four operation.TryLock q c p d s is
raced_at (TryLock m) q c p d x s is = tt
raced_at (Unlock m) q c p d x s is = tt
raced_at (Consistent m) q c p d x s is = tt

-- where it stands, and what its pass has seen
abbrev pub StandsIn : Words → Pass Live → Call → Standing → Card → Type 0
StandsIn w a call z d = IsOnMutex (layout_of w) z (mutex_of call) × Stands (acts_as call) (first_row call) (cell_place (layout_of w) (mutex_of call)) (card a) z d

abbrev pub HasEnded : Words → Pass Live → Call → Reply → Card → Type 0
HasEnded w a call x d = Called (card a) (cell_place (layout_of w) (mutex_of call)) ((acts_as call, x) ∷ []) d × IsRaced (acts_as call) x (card a) (cell_place (layout_of w) (mutex_of call)) d × KnowsMoreAt (card a) (cell_place (layout_of w) (mutex_of call)) d

module _ (w : Words) (a : Pass Live) (call : Call) (r : Running) (u : IsUnderWay w a call r) where
  abbrev place : ℕ
  place = cell_place (layout_of w) (mutex_of call)

  abbrev z : Standing
  z = running_program r

  mine : z.thread ≡ (card r.pass).thread
  mine = r.ready.0

  -- the access that was made, at the call's own mutex
  pub there : (m n : ℕ) (d : Card) → IsOnMutex (layout_of w) z m → Made z (cell_place (layout_of w) m) (card r.pass) n d → Made z place (card r.pass) n d
  there m n d here made = subst (λ (l : ℕ). Made z (cell_place (layout_of w) l) (card r.pass) n d)
      (sym (same_mutex (layout_of w) z m (mutex_of call) u.0.0.1.layout (subst (λ (t : ℕ). 1 ≤ t) (sym mine) u.0.0.1.first) (subst (λ (t : ℕ). t ≤ (layout_of w).threads) (sym mine) u.0.0.1.thread) here u.1)) made

  stands_made : (m n : ℕ) (d : Card) → IsGoing z.row → IsStep (access_of z) → IsOnMutex (layout_of w) z m → Made z (cell_place (layout_of w) m) (card r.pass) n d
      → Stands (acts_as call) (first_row call) place (card a) (moved z (led_at z n)) d
  stands_made m n d going stepping here made = stands_after (acts_as call) (first_row call) place (card a) z (card r.pass) d n going stepping r.ready u.2 (there m n d here made)

  pub goes_on_made : (m n : ℕ) (y : Standing) (d : Card) → IsGoing z.row → IsStep (access_of z) → IsOnMutex (layout_of w) z m → Made z (cell_place (layout_of w) m) (card r.pass) n d → y ≡ moved z (led_at z n) → StandsIn w a call y d
  goes_on_made m n y d going stepping here made is = subst (λ (y : Standing). StandsIn w a call y d) (sym is) (u.1, stands_made m n d going stepping here made)

  pub ends_made : (m n : ℕ) (x : Reply) (d : Card) → IsGoing z.row → IsStep (access_of z) → IsOnMutex (layout_of w) z m → Made z (cell_place (layout_of w) m) (card r.pass) n d → (led_at z n).row ≡ row.Ended x → HasEnded w a call x d
  ends_made m n x d going stepping here made is =
      let s = stands_made m n d going stepping here made in
      let end : Standing = moved z (led_at z n) in
      (called (acts_as call) (first_row call) place (card a) end d x s (ap decided is), raced_at call place (card a) end d x s is, s.knows)

  pub goes_on_answered : (x : Answer) (y : Standing) → IsAnswerOf (access_of z) x → y ≡ moved z (led z x) → StandsIn w a call y (card r.pass)
  goes_on_answered x y fits is =
      subst (λ (y : Standing). StandsIn w a call y (card r.pass)) (sym is) (u.1, stands_answered (acts_as call) (first_row call) place (card a) z (card r.pass) x fits r.ready u.2)

  pub ends_answered : (x : Answer) (y : Reply) → IsAnswerOf (access_of z) x → (led z x).row ≡ row.Ended y → HasEnded w a call y (card r.pass)
  ends_answered x y fits is =
      let s = stands_answered (acts_as call) (first_row call) place (card a) z (card r.pass) x fits r.ready u.2 in
      let end : Standing = moved z (led z x) in
      (called (acts_as call) (first_row call) place (card a) end (card r.pass) y s (ap decided is), raced_at call place (card a) end (card r.pass) y s is, s.knows)

-- one point is all of a call on a mutex
one_point : (c : Call) (x : Reply) → Complete (acts_as c) ((acts_as c, x) ∷ []) x
one_point (Lock m) x = refl
one_point (TryLock m) x = refl
one_point (TimedLock m) x = refl
one_point (Unlock m) x = refl
one_point (Consistent m) x = refl

-- a thread that dies in it
pub died_in : (w : Words) (a : Pass Live) (call : Call) (r : Running) (d : Card) → IsUnderWay w a call r → d ≡ card r.pass → Died (card a) (cell_place (layout_of w) (mutex_of call)) (acts_as call) d × KnowsMoreAt (card a) (cell_place (layout_of w) (mutex_of call)) d
died_in w a call r d u same =
    subst (λ (z : Card). Died (card a) (cell_place (layout_of w) (mutex_of call)) (acts_as call) z × KnowsMoreAt (card a) (cell_place (layout_of w) (mutex_of call)) z) (sym same)
    (dies (card a) (cell_place (layout_of w) (mutex_of call)) (acts_as call) (decided (running_program r).row) (card r.pass) (one_point call) u.2.called, u.2.knows)
