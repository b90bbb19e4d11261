-- Each access of a call at its mutex's cell or at its condition variable's counter keeps the rule.
use Rattle.std.proofs.Common.{Bool, true, false, ◌≡◌, ℕ, ◌+◌, ◌^◌, ◌<◌, ◌≤◌, ◌==◌, get_or, set, Option, Some, None, List, [], ◌∷◌, ◌++◌, refl, sym, ap, ◌∙◌, subst, arith, bit_or}
use Rattle.std.specs.Prelude.{if◌then◌else◌, length, not}
use mathlib.Core.Option.{none}
use Rattle.atomic_table.specs.Table.{step, keeps, Allows}
use Rattle.lockword.specs.Cells.{Fields, fields_of}
use Rattle.lockword.specs.declared.reply.Reply.{Reply}
use Rattle.lockword.specs.declared.reply.Reply.TheVariants.{EPERM, XSTATE}
use Rattle.lockword.proofs.Bits.{or_waiting}
use Rattle.posixmutex.specs.declared.object.Object.{Object}
use Rattle.posixmutex.specs.declared.point.Operation.{Operation}
use Rattle.posixmutex.specs.declared.point.Operation.TheVariants as operation
use Rattle.posixmutex.specs.declared.point.Point.{Point}
use Rattle.stepprograms.specs.Accesses.{changed}
use Rattle.memorymap.specs.Layouts.{Layout', IsLayout, cell_place, counter_place}
use Rattle.posixmutex.specs.Objects.{fresh, Run, object_of}
use Rattle.posixmutex.proofs.Objects.{run_same}
use Rattle.posixmutex.proofs.Owners.{owner_of-is}
use Rattle.mutex.specs.Laws.{points, Sound}
use Rattle.condvar.specs.declared.broadcast.BroadcastRow.TheVariants as broadcast
use Rattle.condvar.specs.declared.row.CondRow.{CondRow}
use Rattle.condvar.specs.declared.row.CondRow.TheVariants as cond
use Rattle.condvar.specs.declared.row.Decided.{Decided}
use Rattle.condvar.specs.declared.signal.SignalRow.TheVariants as signal
use Rattle.condvar.specs.declared.wait.WaitRow.TheVariants as wait
use Rattle.condvar.specs.Broadcast.{waiters_bit}
use Rattle.condvar.specs.Laws.{counts_by, is_at_counter, largest_counter}
use Rattle.condvar.specs.Programs.{point_of, row_access}
use Rattle.condvar.specs.Rows.{ends, goes, IsGoing}
use Rattle.condvar.proofs.Rights.{right}
use Rattle.ruledwords.specs.declared.pass.Card.{Card}
use Rattle.ruledwords.specs.declared.pass.Change.{Change}
use Rattle.ruledwords.specs.Calls.{address_at, OwnKept}
use Rattle.ruledwords.specs.Cards.{at, value_at, put_mark}
use Rattle.ruledwords.specs.Changes.{put_changes, Writes}
use Rattle.ruledwords.specs.Conditions.{access_at, acted, cond_led_at, having_set, release_of, CondReady, CondStanding, Counts, Meets}
use Rattle.ruledwords.specs.ConditionCalls.{IsCondStep}
use Rattle.ruledwords.specs.Counts.{cell_at, counter_in, mutex_at}
use Rattle.ruledwords.specs.Looks.{Finds}
use Rattle.ruledwords.specs.OwnWords.{owns_in, IsOwn}
use Rattle.ruledwords.specs.Rules.{owner_at, Kept, Turns}
use Rattle.ruledwords.specs.Seen.{holds, Sees}
use Rattle.ruledwords.proofs.Changes.{writes_there}
use Rattle.ruledwords.proofs.Counters.{behind, counting, counter_small, kept_counted, sees_counted, writes_counted}
use Rattle.ruledwords.proofs.Counts.{of_mutex, told_counts}
use Rattle.ruledwords.proofs.Held.{owner_held}
use Rattle.ruledwords.proofs.Keepers.{inside, other_cell}
use Rattle.ruledwords.proofs.Lists.{told, value_put, value_put_else}
use Rattle.ruledwords.proofs.Looks.{found}
use Rattle.ruledwords.proofs.Moves.{Knowing, Marked, Steady, allows, changing, marked_own, none_where_same, says, turns}
use Rattle.ruledwords.proofs.OwnWords.{own_place}
use Rattle.ruledwords.proofs.Steps.{holder, is_owner_by, makes, may_have, others_run_keep, own_kept, since_seen, sound, values_after}
use Rattle.ruledwords.proofs.Trims.{fits_left, kept_left}
use mathlib.Core.Logic.{dite}
use mathlib.Core.Path.{fun_ext}
use native.Mathlib.Decide.{ℕ_discrete}
use Rattle.mutex.specs.WholeLists.{IsOwnPlace}
use Rattle.lockword.specs.Threads.{most_threads}

-- ---- points

abbrev pub op_in : Option Decided → Operation
op_in None = operation.Wait
op_in (Some d) = d.operation

abbrev pub reply_in : Option Decided → Option Reply
reply_in None = None
reply_in (Some d) = Some d.reply

pub told_decided : (t p : ℕ) (d : Option Decided) → told t p (op_in d) (reply_in d) ≡ points (point_of t p d)
told_decided t p None = refl
told_decided t p (Some d) = refl

told_count : (d : Option Decided) → told_counts (op_in d) (reply_in d) ≡ counts_by d
told_count None = refl
told_count (Some d) = refl

-- it is no matter to the mutex at which address its point names it
run_here : (o n : Object) (t p q : ℕ) (d : Option Decided) → Run o (points (point_of t p d)) n → Run o (points (point_of t q d)) n
run_here o n t p q None run = run
run_here o n t p q (Some d) run = run

-- ---- a load of the cell

meets : {o : List ℕ} (k : Layout') (slots id : ℕ) (c : Card) (q : ℕ) → mutex_at k q < k.mutexes → (p : CondStanding)
    → ((n : ℕ) → 1 ≤ c.thread → c.thread ≤ most_threads → Sound (object_of (fields_of n)) → Run (object_of (fields_of n)) (points (point_of c.thread p.cell (cond_led_at p n).decided)) (object_of (fields_of n)))
    → ((n : ℕ) → counts_by (cond_led_at p n).decided ≡ 0)
    → Allows (Kept k o) slots id (c ∷ [], []) (cell_at k q) (λ n. n) (λ n me'. Turns (c ∷ [], []) me' (λ c d. Meets k q p c n d))
meets {o} k slots id c q low p runs countless =
    allows k slots id c m (λ n. op_in (cond_led_at p n).decided) (λ n. n) (λ n. reply_in (cond_led_at p n).decided) (λ n. c.misses) (λ n. n) (λ ws n. values_after k m c ws n) (λ n me'. Turns (c ∷ [], []) me' (λ c d. Meets k q p c n d)) low
    (λ ws n known. may_have k ws m c n n _ _ refl)
    (λ n known. ((λ owned on. on), λ clear. clear))
    (λ n. told_count (cond_led_at p n).decided ∙ countless n)
    (λ n known. none_where_same c.thread z (op_in (cond_led_at p n).decided) (reply_in (cond_led_at p n).decided) (object_of (fields_of n)) (told_runs n known))
    told_runs
    (λ ws n d known sees writes misses last counted trims mark values. turns c d (λ c d. Meets k q p c n d) record {
      sees = subst (λ (xs : List Point). Sees c z xs (object_of (fields_of n)) d) (told_decided c.thread z (cond_led_at p n).decided) sees;
      misses = misses;
      last = last;
      writes = writes;
      holder = holder k c z n known;
      kept = own_kept k m low ws c d ((fields_of n).owner == c.thread) (holds c.thread (at c.seen z)) sees.thread known.thread.0 known.thread.1 values (holds_then n d known sees) refl
          (λ l other. ap (holds d.thread) (sees.elsewhere (cell_place k l) (other_cell k m l other)) ∙ ap (λ (t : ℕ). holds t (at c.seen (cell_place k l))) sees.thread);
    })
  where
    m : ℕ
    m = mutex_at k q

    z : ℕ
    z = cell_at k q

    short : (n : ℕ) → Knowing k c z n → c.thread ≤ most_threads
    short n known = let a = known.thread.1 in let b = known.thread.2 in omega arith

    told_runs : (n : ℕ) → Knowing k c z n → Run (object_of (fields_of n)) (told c.thread z (op_in (cond_led_at p n).decided) (reply_in (cond_led_at p n).decided)) (object_of (fields_of n))
    told_runs n known = subst (λ (xs : List Point). Run (object_of (fields_of n)) xs (object_of (fields_of n))) (sym (told_decided c.thread z (cond_led_at p n).decided))
        (run_here (object_of (fields_of n)) (object_of (fields_of n)) c.thread p.cell z (cond_led_at p n).decided (runs n known.thread.0 (short n known) (sound k c z n known)))

    holds_then : (n : ℕ) (d : Card) → Knowing k c z n → {new : List Point} → Sees c z new (object_of (fields_of n)) d → owns_in k d m ≡ ((fields_of n).owner == c.thread)
    holds_then n d known sees = ap (λ (t : ℕ). holds t (at d.seen z)) sees.thread ∙ owner_held c.thread fresh (at d.seen z) (object_of (fields_of n)) sees.leaves.0 ∙ is_owner_by c.thread (fields_of n).owner known.thread.0

-- what a first load decides counts nothing
wait_countless : (other died : Bool) → counts_by (if other then ends operation.Wait EPERM else if died then ends operation.Wait XSTATE else goes (cond.Wait wait.LoadCounter)).decided ≡ 0
wait_countless true died = refl
wait_countless false true = refl
wait_countless false false = refl

signal_countless : (other : Bool) → counts_by (if other then ends operation.Signal EPERM else goes (cond.Signal signal.LoadCounter)).decided ≡ 0
signal_countless true = refl
signal_countless false = refl

broadcast_countless : (other : Bool) → counts_by (if other then ends operation.Broadcast EPERM else goes (cond.Broadcast broadcast.LoadCounter)).decided ≡ 0
broadcast_countless true = refl
broadcast_countless false = refl

-- ---- a step at the counter

-- what it is to do: a step of the mutex as an object, which it leaves, that the counter counts
pub record CountsRight (t : ℕ) (p : CondStanding) (n w v : ℕ) : Type 0 where
  pub runs : Run (object_of (fields_of w)) (points (point_of t p.cell (cond_led_at p n).decided)) (object_of (fields_of w))
  pub counts : v ≡ n + counts_by (cond_led_at p n).decided
  pub within : v ≤ largest_counter

counts_kept : (k : Layout') (c : Card) (q : ℕ) (xs : List Point) (n v : ℕ) (zs : List Change) → (1 ≤ c.thread) × (c.thread ≤ k.threads) → owns_in k (counting k q c xs n v zs) (mutex_at k q) ≡ owns_in k c (mutex_at k q) → OwnKept k c (counting k q c xs n v zs)
counts_kept k c q xs n v zs thread same = record {
  agrees = λ p own own'. else_same p own;
  knows = λ all. record { each = λ p own. let mine = subst (λ (f : ℕ → Bool). IsOwnPlace k c.thread f p) owns_same own in let x = all.each p mine in (x.0, else_same p mine ∙ x.1); offset = head_same _ (omega (arith, last)) ∙ all.offset };
  heads = head_same;
}
  where
    last : c.thread ≤ k.threads
    last = thread.1

    d : Card
    d = counting k q c xs n v zs

    head_same : (p : ℕ) → p < cell_place k 0 → value_at d.values p ≡ value_at c.values p
    head_same p low = value_put_else c.values (counter_place k q) p (Some v) (λ e. absurd (omega arith))

    else_same : (p : ℕ) → IsOwn k c p → value_at d.values p ≡ value_at c.values p
    else_same p own = value_put_else c.values (counter_place k q) p (Some v) (λ e. (own_place k c p thread own).1 q (sym e))

    owns_same : owns_in k d ≡ owns_in k c
    owns_same = fun_ext (λ l. dite (ℕ_discrete l (mutex_at k q))
        (λ here. ap (owns_in k d) here ∙ same ∙ ap (owns_in k c) (sym here))
        (λ other. ap (holds c.thread) (Rattle.ruledwords.proofs.Lists.at_put_else c.seen (cell_at k q) (cell_place k l) xs (other_cell k (mutex_at k q) l other))))

counts_at : {o : List ℕ} (k : Layout') (slots id : ℕ) (c : Card) (q : ℕ) → q < length k.conditions → (p : CondStanding) (f : ℕ → ℕ)
    → ((o : Object) → Run fresh (at c.seen (cell_at k q)) o → o.owner ≡ Some c.thread)
    → ((n w : ℕ) → 1 ≤ c.thread → c.thread ≤ most_threads → Sound (object_of (fields_of w)) → n ≤ largest_counter → ((x : ℕ) → value_at c.values (counter_place k q) ≡ Some x → n ≡ x)
    → ((o : Object) → Run fresh (at c.seen (cell_at k q)) o → object_of (fields_of w) ≡ o) → CountsRight c.thread p n w (f n))
    → ((n : ℕ) → f n ≡ changed (access_at p) n)
    → Allows (Kept k o) slots id (c ∷ [], []) (counter_place k q) f (λ n me'. Turns (c ∷ [], []) me' (λ c d. Counts k q p c n d))
counts_at {o} k slots id c q low p f mine rights is_change s h deep is small =
    let m : ℕ = mutex_at k q in
    let z : ℕ = cell_at k q in
    let a : ℕ = counter_place k q in
    let n : ℕ = get_or s.words a 0 in
    let w : ℕ = get_or s.words z 0 in
    let in_layout : m < k.mutexes = of_mutex k q h.layout low in
    let fit = (h.fits id (c ∷ []) is).0 in
    let known : Knowing k c z w = record { xs = at h.histories z; leaves = h.leaves m in_layout; begins = fit.begins z; own = fit.own z; thread = (fit.thread.0, fit.thread.1, h.layout.threads.1); narrow = h.narrow m in_layout; mark = fit.marks m in_layout } in
    let since = since_seen k c z w known in
    let own = mine since.0.0 since.1 in
    let same : object_of (fields_of w) ≡ since.0.0 = others_run_keep c.thread since.0.0 since.0.1 (object_of (fields_of w)) own since.3 since.2 in
    let owner : (object_of (fields_of w)).owner ≡ Some c.thread = ap (λ (x : Object). x.owner) same ∙ own in
    let owned : owner_at k s.words m ≡ c.thread = owner_of-is (fields_of w).owner c.thread owner in
    let still : (x : Object) → Run fresh (at c.seen z) x → object_of (fields_of w) ≡ x = λ x run. same ∙ run_same fresh since.0.0 x (at c.seen z) since.1 run in
    let tells : (x : ℕ) → value_at c.values a ≡ Some x → n ≡ x = λ x e. (fit.values a x e).0 in
    let little = counter_small k s h q low in
    let short : c.thread ≤ most_threads = let x = fit.thread.1 in let y = h.layout.threads.1 in omega arith in
    let r = rights n w fit.thread.0 short (sound k c z w known) little tells still in
    let by = (cond_led_at p n).decided in
    let run : Run (says s.words z) (told c.thread z (op_in by) (reply_in by)) (says s.words z) =
    subst (λ (xs : List Point). Run (object_of (fields_of w)) xs (object_of (fields_of w))) (sym (told_decided c.thread z by)) (run_here (object_of (fields_of w)) (object_of (fields_of w)) c.thread p.cell z by r.runs) in
    let bound = r.within in
    let few : f n < 4294967296 = omega arith in
    let more : f n ≡ counter_in k s.words q + told_counts (op_in by) (reply_in by) = r.counts ∙ ap (λ (x : ℕ). n + x) (sym (told_count by)) in
    let xs : List Point = at h.histories z ++ told c.thread z (op_in by) (reply_in by) in
    let d : Card = behind o k s h id c q (op_in by) (reply_in by) n (f n) is low owned run few more in
    let sees = sees_counted o k s h id c q (op_in by) (reply_in by) n (f n) is low owned run few more in
    let held_same : owns_in k d m ≡ owns_in k c m = owner_held c.thread fresh (at d.seen z) (object_of (fields_of w)) sees.leaves.0 ∙ sym (holder k c z w known) in (
      d ∷ [],
      keeps,
      tt,
      kept_counted o k s h id c q (op_in by) (reply_in by) n (f n) is low owned run few more,
      turns c d (λ c d. Counts k q p c n d) record {
        object = object_of (fields_of w);
        sees = subst (λ (ys : List Point). Sees c z ys (object_of (fields_of w)) d) (told_decided c.thread z by) sees;
        owner = owner;
        still = still;
        misses = refl;
        counted = refl;
        known = tells;
        value = value_put c.values a (Some (f n)) ∙ ap Some (is_change n);
        within = little;
        writes = subst (λ (v : ℕ). Writes c a n v d) (is_change n) (writes_counted o k s h id c q (op_in by) (reply_in by) n (f n) is low owned run few more);
        kept = counts_kept k c q xs n (f n) _ fit.thread held_same;
      },
    )

-- ---- a setting of WAITERS

flags : {o : List ℕ} (k : Layout') (slots id : ℕ) (c : Card) (m : ℕ) → m < k.mutexes
    → Allows (Kept k o) slots id (c ∷ [], []) (cell_place k m) (λ n. bit_or n waiters_bit) (λ n me'. Turns (c ∷ [], []) me' (λ c d. (d ≡ having_set c (cell_place k m) n d.changes) × Finds c (cell_place k m) n × Writes c (cell_place k m) n (bit_or n waiters_bit) d))
flags {o} k slots id c m low s h deep is small =
    let p : ℕ = cell_place k m in
    let n : ℕ = get_or s.words p 0 in
    let f = (h.fits id (c ∷ []) is).0 in
    let v : ℕ = bit_or n waiters_bit in
    let d : Card = having_set c p n (put_changes c.changes p (changing k s h c m v)) in
    let sets = or_waiting n in
    let within : p < length s.words = subst (λ (z : ℕ). p < z) (sym h.wide) (inside k m low) in
    let object : object_of (fields_of v) ≡ says s.words p = ap object_of sets in
    let owner : (fields_of v).owner ≡ owner_at k s.words m = ap (λ (x : Fields). x.owner) sets in
    let steady : Steady n v = ((λ owned on. ap (λ (x : Fields). x.waiters) sets), λ clear. ap (λ (x : Fields). x.rest) sets ∙ clear) in
    let left = fits_left k s h m low v object owner steady c f in
    let marked = subst (λ (b : Bool). Marked k (set s.words p v) c.thread (put_mark c.marks p b)) (ap (λ (x : Fields). x.waiters) sets) (marked_own k s.words m v c.thread c.marks within f.marks) in (
      d ∷ [],
      keeps,
      tt,
      kept_left k s h m low v object owner steady id c d is refl refl record { thread = left.thread; threads = left.threads; begins = left.begins; own = left.own; values = left.values; marks = marked },
      turns c d (λ c d. (d ≡ having_set c p n d.changes) × Finds c p n × Writes c p n v d) (refl, found k s h c m low f, writes_there k s.words s.views h.recorded id c d p v f.thread f.threads (h.recorded.leave m low) is refl),
    )

-- ---- any access

-- where it is
abbrev pub place_for : Layout' → ℕ → CondRow → ℕ
place_for k q r = if is_at_counter r then counter_place k q else cell_at k q

module _ (k : Layout') (slots id : ℕ) (c : Card) (q : ℕ) (layout : IsLayout k) (low : q < length k.conditions) (legal : (z : Object) × Run fresh (at c.seen (cell_at k q)) z)
    (cell counter : ℕ) (there : cell ≡ address_at c (cell_at k q)) (few : cell_at k q < 2 ^ 64) (base : c.base ≤ 1000000000) where
  abbrev standing : CondRow → CondStanding
  standing r = record { thread = c.thread; cell = cell; counter = counter; row = r }

  in_layout : mutex_at k q < k.mutexes
  in_layout = of_mutex k q layout low

  -- the words are as the row needs them
  owned : (w : ℕ) → object_of (fields_of w) ≡ legal.0 → legal.0.owner ≡ Some c.thread → (fields_of w).owner ≡ c.thread
  owned w same own = owner_of-is (fields_of w).owner c.thread (ap (λ (x : Object). x.owner) same ∙ own)

  pub acts : {o : List ℕ} (r : CondRow) (x y : ℕ) → IsGoing r → IsCondStep (row_access c.thread cell counter r) → CondReady k q r c
      → Allows (Kept k o) slots id (c ∷ [], []) (place_for k q r) (changed (row_access c.thread cell counter r)) (acted k q (standing r) (step slots (place_for k q r) x y none) (c ∷ [], []))
  acts (cond.Wait wait.LoadCell) x y going one ready = meets k slots id c q in_layout (standing (cond.Wait wait.LoadCell))
      (λ n pos short sound. (right c.thread cell counter n 0 (cond.Wait wait.LoadCell) pos short tt (omega arith) sound tt).runs) (λ n. wait_countless (not ((fields_of n).owner == c.thread)) (fields_of n).died)
  acts (cond.Signal signal.LoadCell) x y going one ready = meets k slots id c q in_layout (standing (cond.Signal signal.LoadCell))
      (λ n pos short sound. (right c.thread cell counter n 0 (cond.Signal signal.LoadCell) pos short tt (omega arith) sound tt).runs) (λ n. signal_countless (not ((fields_of n).owner == c.thread)))
  acts (cond.Broadcast broadcast.LoadCell) x y going one ready = meets k slots id c q in_layout (standing (cond.Broadcast broadcast.LoadCell))
      (λ n pos short sound. (right c.thread cell counter n 0 (cond.Broadcast broadcast.LoadCell) pos short tt (omega arith) sound tt).runs) (λ n. broadcast_countless (not ((fields_of n).owner == c.thread)))
  acts (cond.Wait (wait.Release seen)) x y going one ready = makes k slots id c (mutex_at k q) in_layout few (release_of (standing (cond.Wait (wait.Release seen)))) _ refl there tt tt
      (refl, tt, λ z o small at_it run. let here : z ≡ cell_at k q = omega (arith, few, small, at_it, there, base) in ready o (subst (λ (w : ℕ). Run fresh (at c.seen w) o) here run)) x y
  acts (cond.Broadcast (broadcast.SetWaiters seen)) x y going one ready = flags k slots id c (mutex_at k q) in_layout
  acts (cond.Wait wait.LoadCounter) x y going one ready = counts_at k slots id c q low (standing (cond.Wait wait.LoadCounter)) _ (λ z run. (ready z run).0)
      (λ n w pos short sound little tells still.
      let needs = ready legal.0 legal.1 in
      let same = still legal.0 legal.1 in
      let r = right c.thread cell counter w n (cond.Wait wait.LoadCounter) pos short tt little sound (owned w same needs.0, ap (λ (z : Object). z.inconsistent) same ∙ needs.1) in
      record { runs = r.runs; counts = r.counts; within = r.within })
      (λ n. refl)
  acts (cond.Signal signal.LoadCounter) x y going one ready = counts_at k slots id c q low (standing (cond.Signal signal.LoadCounter)) _ ready
      (λ n w pos short sound little tells still.
      let r = right c.thread cell counter w n (cond.Signal signal.LoadCounter) pos short tt little sound (owned w (still legal.0 legal.1) (ready legal.0 legal.1)) in
      record { runs = r.runs; counts = r.counts; within = r.within })
      (λ n. refl)
  acts (cond.Signal signal.Count) x y going one ready = counts_at k slots id c q low (standing (cond.Signal signal.Count)) _ (λ z run. (ready z run).0)
      (λ n w pos short sound little tells still.
      let needs = ready legal.0 legal.1 in
      let known : n ≡ needs.1.0 = tells needs.1.0 needs.1.1 in
      let r = right c.thread cell counter w n (cond.Signal signal.Count) pos short tt little sound (owned w (still legal.0 legal.1) needs.0, λ full. needs.1.2 (sym known ∙ full)) in
      record { runs = r.runs; counts = r.counts; within = r.within })
      (λ n. refl)
  acts (cond.Broadcast broadcast.LoadCounter) x y going one ready = counts_at k slots id c q low (standing (cond.Broadcast broadcast.LoadCounter)) _ ready
      (λ n w pos short sound little tells still.
      let r = right c.thread cell counter w n (cond.Broadcast broadcast.LoadCounter) pos short tt little sound (owned w (still legal.0 legal.1) (ready legal.0 legal.1)) in
      record { runs = r.runs; counts = r.counts; within = r.within })
      (λ n. refl)
  acts (cond.Broadcast (broadcast.Count seen)) x y going one ready = counts_at k slots id c q low (standing (cond.Broadcast (broadcast.Count seen))) _ (λ z run. (ready z run).0)
      (λ n w pos short sound little tells still.
      let needs = ready legal.0 legal.1 in
      let known : n ≡ seen = tells seen needs.1 in
      let r = right c.thread cell counter w n (cond.Broadcast (broadcast.Count seen)) pos short tt little sound (owned w (still legal.0 legal.1) needs.0, (λ full. needs.2 (sym known ∙ full)), known) in
      record { runs = r.runs; counts = r.counts; within = r.within })
      (λ n. refl)
  acts (cond.Wait (wait.Wake seen)) x y going one ready = absurd one
  acts (cond.Wait (wait.Sleep seen)) x y going one ready = absurd one
  acts (cond.Signal signal.Wake) x y going one ready = absurd one
  acts (cond.Broadcast (broadcast.Move seen)) x y going one ready = absurd one
  acts cond.Awake x y going one ready = absurd going
  acts (cond.Ended z) x y going one ready = absurd going
