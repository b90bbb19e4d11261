-- Threads that die, and the accesses of their walks: a write into the lists is a write into the state.
use Rattle.std.proofs.Common.{◌≡◌, ◌≢◌, ℕ, ◌+◌, ◌-◌, ◌/◌, ◌%◌, ◌<◌, ◌≤◌, ◌==◌, Bool, true, false, ◌&&◌, List, length, Option, Some, None, refl, sym, ap, ◌∙◌, arith, slice_set}
use Rattle.std.specs.Prelude.{if◌then◌else◌, slice_index, nat_le, nat_lt, MatchOption}
use Rattle.std.proofs.lemmas.Bool.Decides.{nat_tests}
use Rattle.posixmutex.specs.declared.point.Point.{Point}
use Rattle.stepprograms.specs.declared.program.Progress.{Progress}
use Rattle.posixmutex.specs.declared.point.Operation.TheVariants.{Death}
use Rattle.memorymap.specs.Layouts.{Layout', words_of, cell_place, base_of, is_place}
use Rattle.exitwalk.specs.declared.row.Row.{Row}
use Rattle.exitwalk.specs.declared.row.Row.TheVariants.{LoadFirst, LoadOffset, LoadPending, LoadNext, LoadWord, Mark, WakeOne, Ended}
use Rattle.exitwalk.specs.Standings.{Standing}
use Rattle.exitwalk.specs.Walks.{access_of, row_after, point_of, moved, progress_at, progress_of}
use Rattle.syscalls.specs.Kernels.{Kernel', queue_of}
use Rattle.protocol.specs.declared.event.Event.TheVariants.{Step}
use Rattle.protocol.specs.declared.thread.Thread.{Thread}
use Rattle.protocol.specs.declared.thread.Stage.TheVariants.{Dying}
use Rattle.protocol.specs.declared.note.Note.TheVariants.{Walked}
use Rattle.protocol.specs.Machine.{State, After, put, answer_of, words_after, queues_after, woken, has_thread, nothing, mutex_at, death_at, told_of, has_ended, stage_walked, walked, stepped, held_after, happens}
use Rattle.protocol.proofs.WalkSteps.{mutex_at-cell}
use Rattle.interleave.specs.declared.accesses.Performed.{Performed}
use Rattle.interleave.specs.Shown.{thread_at, state_at}
use Rattle.interleave.specs.Perform.{Performs, list_words, point_in, has_returned, stage_walked_in}
use Rattle.interleave.proofs.Views.{threads-set, answer-is, words-is, queues-is, woken-is}

-- ---- a walk

-- a test that fails one way or another finds no mutex
none_at : (l : Layout') (p : ℕ) → ((m : ℕ) → m < l.mutexes → p ≢ cell_place l m) → None ≡ mutex_at l p
none_at l p apart = go (nat_le (cell_place l 0) p) refl ((p - cell_place l 0) % 3 == 0) refl (nat_lt ((p - cell_place l 0) / 3) l.mutexes) refl
  where
    go : (a : Bool) → nat_le (cell_place l 0) p ≡ a → (b : Bool) → ((p - cell_place l 0) % 3 == 0) ≡ b → (c : Bool) → nat_lt ((p - cell_place l 0) / 3) l.mutexes ≡ c
        → None ≡ (if a && b && c then Some ((p - cell_place l 0) / 3) else None)
    go false e b f c g = refl
    go true e false f c g = refl
    go true e true f false g = refl
    go true e true f true g =
        let from : cell_place l 0 ≤ p = grind (arith, nat_tests) in
        let whole : (p - cell_place l 0) % 3 ≡ 0 = grind (arith, nat_tests) in
        let inside : (p - cell_place l 0) / 3 < l.mutexes = grind (arith, nat_tests) in
        let is : p ≡ cell_place l ((p - cell_place l 0) / 3) = omega (arith, from, whole) in
        absurd (apart ((p - cell_place l 0) / 3) inside is)

-- the mutex whose cell is at a place is what the definition finds there
pub found_at : (l : Layout') (p : ℕ) (r : Option ℕ) → MatchOption r ((m : ℕ) → m < l.mutexes → p ≢ cell_place l m) (λ m. (m < l.mutexes) × (p ≡ cell_place l m)) → r ≡ mutex_at l p
found_at l p None h = none_at l p h
found_at l p (Some m) h = sym (ap (mutex_at l) h.1 ∙ mutex_at-cell l m h.0)

-- where a layout has no place there is no mutex
nowhere : (l : Layout') (p : ℕ) → is_place l p ≡ false → None ≡ mutex_at l p
nowhere l p outside = none_at l p (λ m lt is. apart m lt is)
  where
    apart : (m : ℕ) → m < l.mutexes → p ≡ cell_place l m → ⊥
    apart m lt is =
        let there : is_place l p ≡ true = grind (arith, nat_tests) in
        let both : true ≡ false = sym there ∙ outside in
        absurd (cc both)

-- so none is found of an address that isn't valid
pub unplaced : (l : Layout') (p : ℕ) → None ≡ (if is_place l p then Some p else None) → None ≡ mutex_at l p
unplaced l p e = go (is_place l p) refl e
  where
    go : (b : Bool) → is_place l p ≡ b → None ≡ (if b then Some p else None) → None ≡ mutex_at l p
    go true is e = absurd (cc e)
    go false is e = nowhere l p is

-- and of one that is, the mutex at its place
pub placed : (l : Layout') (p q : ℕ) → Some q ≡ (if is_place l p then Some p else None) → q ≡ p
placed l p q e = go (is_place l p) e
  where
    go : (b : Bool) → Some q ≡ (if b then Some p else None) → q ≡ p
    go true e = cc e
    go false e = absurd (cc e)

-- where the thread stands after a step of its walk, as the definition says
walked-is : (w : Standing) (pt : Option Point) (r : Row) → stage_walked_in (record w { row = r }) (progress_at pt r) ≡ stage_walked w r
walked-is w pt LoadFirst = refl
walked-is w pt (LoadOffset first) = refl
walked-is w pt (LoadPending first offset) = refl
walked-is w pt (LoadNext rest) = refl
walked-is w pt (LoadWord at part) = refl
walked-is w pt (Mark at seen again part) = refl
walked-is w pt (WakeOne at part) = refl
walked-is w pt Ended = refl

-- whether it has ended
ended-is : (pt : Option Point) (r : Row) → has_returned (progress_at pt r) ≡ has_ended r
ended-is pt LoadFirst = refl
ended-is pt (LoadOffset first) = refl
ended-is pt (LoadPending first offset) = refl
ended-is pt (LoadNext rest) = refl
ended-is pt (LoadWord at part) = refl
ended-is pt (Mark at seen again part) = refl
ended-is pt (WakeOne at part) = refl
ended-is pt Ended = refl

-- and the point that it told
point-is : (pt : Option Point) (r : Row) → point_in (progress_at pt r) ≡ pt
point-is pt LoadFirst = refl
point-is pt (LoadOffset first) = refl
point-is pt (LoadPending first offset) = refl
point-is pt (LoadNext rest) = refl
point-is pt (LoadWord at part) = refl
point-is pt (Mark at seen again part) = refl
point-is pt (WakeOne at part) = refl
point-is pt Ended = refl

module _ (l : Layout') (ws ws' : List ℕ) (kernel after : Kernel') (ts : List Thread) (k t : ℕ) (w w' : Standing) (th : Thread) (done : Performed) (pr : Progress)
    (known : t ≤ l.threads) (at : k + 1 ≡ t) (len : length ts ≡ l.threads) (room : length ws ≡ words_of l)
    (e : thread_at ts t ≡ th) (dies : th.stage ≡ Dying w) (performs : Performs ws kernel after (base_of l t) t (access_of w) done) (wrote : ws' ≡ list_words ws kernel (base_of l t) (access_of w))
    (went_on : w' ≡ moved w done.answer) (progress : pr ≡ progress_of w done.answer) where
  abbrev s : State
  s = state_at l ws kernel ts

  abbrev to : Row
  to = row_after w.thread w.head w.row (answer_of s t (access_of w))

  abbrev tells : Option Point
  tells = point_of w.thread w.row (answer_of s t (access_of w))

  answers : done.answer ≡ answer_of s t (access_of w)
  answers = answer-is l ws kernel ts room t (access_of w) after done performs

  ran : happens s (Step t) ≡ walked s t th.held w
  ran =
      let is : has_thread s t ≡ true = grind (arith, nat_tests) in
      ap (λ (b : Bool). if b then stepped s t (thread_at ts t).held (thread_at ts t).stage else nothing s) is ∙ ap (λ (z : Thread). stepped s t z.held z.stage) e ∙ ap (stepped s t th.held) dies

  goes : pr ≡ progress_at tells to
  goes = progress ∙ ap (progress_of w) answers

  stands : w' ≡ record w { row = to }
  stands = went_on ∙ ap (moved w) answers

  stage : stage_walked_in w' pr ≡ stage_walked w to
  stage = (λ i. stage_walked_in (stands i) (goes i)) ∙ walked-is w tells to

  death : death_at l t (point_in pr) ≡ death_at l t tells
  death = ap (λ (x : Progress). death_at l t (point_in x)) goes ∙ ap (death_at l t) (point-is tells to)

  pub walk_state : state_at l ws' after (slice_set ts k (record { stage = stage_walked_in w' pr; held = held_after th.held Death (told_of (death_at l t (point_in pr))) })) ≡ (happens s (Step t)).state
  walk_state =
      let words : (λ q. slice_index ws' q) ≡ words_after s t (access_of w) = ap (λ (v : List ℕ). λ (q : ℕ). slice_index v q) wrote ∙ words-is l ws kernel ts room t (access_of w) in
      let queues : (λ q. queue_of after q) ≡ queues_after s t (access_of w) = queues-is l ws kernel ts room t (access_of w) after done performs in
      let threads : thread_at (slice_set ts k (record { stage = stage_walked_in w' pr; held = held_after th.held Death (told_of (death_at l t (point_in pr))) })) ≡ put (thread_at ts) t (record { stage = stage_walked w to; held = held_after th.held Death (told_of (death_at l t tells)) }) =
      threads-set ts k t (record { stage = stage_walked_in w' pr; held = held_after th.held Death (told_of (death_at l t (point_in pr))) }) at (omega arith)
      ∙ (λ i. put (thread_at ts) t (record { stage = stage i; held = held_after th.held Death (told_of (death i)) })) in
      (λ i. record { layout = l; words = words i; queues = queues i; threads = threads i }) ∙ sym (ap (λ (a : After). a.state) ran)

  pub walk_note : Walked t (death_at l t (point_in pr)) done.woken (has_returned pr) ≡ (happens s (Step t)).note
  walk_note =
      let wakes : done.woken ≡ woken s t (access_of w) = woken-is l ws kernel ts room t (access_of w) after done performs in
      let ends : has_returned pr ≡ has_ended to = ap has_returned goes ∙ ended-is tells to in
      (λ i. Walked t (death i) (wakes i) (ends i)) ∙ sym (ap (λ (a : After). a.note) ran)
