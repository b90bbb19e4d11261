-- A call, access by access.
use Rattle.std.proofs.Common.{Bool, true, false, ◌≡◌, ◌≢◌, ℕ, ◌+◌, ◌^◌, ◌<◌, ◌≤◌, Option, Some, None, List, [], ◌∷◌, ◌++◌, length, refl, sym, ap, ◌∙◌, subst, arith}
use Rattle.lockword.specs.Cells.{fields_of}
use Rattle.lockword.specs.declared.reply.Reply.{Reply}
use Rattle.lockword.specs.declared.reply.Reply.TheVariants.{OK, EOWNERDEAD, XRACED}
use Rattle.stepprograms.specs.declared.access.Answer.{Answer}
use Rattle.posixmutex.specs.declared.point.Operation.{Operation}
use Rattle.posixmutex.specs.declared.point.Operation.TheVariants.{Lock, TryLock, Unlock, Death}
use Rattle.posixmutex.specs.declared.object.Object.{Object}
use Rattle.stepprograms.specs.Accesses.{changed, answer_at}
use Rattle.posixmutex.specs.Objects.{fresh, Run, object_of, acquires}
use Rattle.posixmutex.proofs.Objects.{run_same}
use Rattle.mutex.specs.declared.row.Row.{Row}
use Rattle.mutex.specs.declared.row.Row.TheVariants as row
use Rattle.mutex.specs.declared.try_lock.TryLockRow.TheVariants as try
use Rattle.mutex.specs.Laws.{Expects, Right, Joins, decided, IsOf, reached, changes, tells_change}
use Rattle.mutex.specs.Programs.{access_of, row_operation, resume_of, point_of, moved}
use Rattle.mutex.specs.Rows.{IsGoing}
use Rattle.mutex.specs.Standings.{Standing}
use Rattle.mutex.specs.Steps.{IsStep, Minds, Tells, rank}
use Rattle.mutex.proofs.Races.{raced}
use Rattle.mutex.proofs.Steps.{right_step, minds, undecided, of_going, undecided_going}
use Rattle.ruledwords.specs.declared.pass.Card.{Card}
use Rattle.ruledwords.specs.Cards.{at}
use Rattle.ruledwords.specs.Seen.{held, Sees, Called}
use Rattle.ruledwords.specs.Changes.{change_of, made_by_others, OthersChanged}
use Rattle.ruledwords.specs.Calls.{address_at, acts, ExpectsKnown, Ready, Made, Stands, led_at, count_by, count_after, most, most_of}
use Rattle.ruledwords.proofs.Changes.{knows_on_by, left_behind, more_by, more_on, more_yet, none_by, others_changed, others_on}
use Rattle.ruledwords.proofs.Exchanges.{expects_next, failed}
use Rattle.ruledwords.proofs.Cards.{run_at, saw_nothing, saw_more}
use Rattle.ruledwords.proofs.Lists.{told}
use Rattle.ruledwords.proofs.Held.{held_sees}
use Rattle.lockword.specs.Threads.{most_threads}

-- a call that begins
pub begins : (op : Operation) (q : ℕ) (c : Card) (p : Standing) → IsOf op p.row → decided p.row ≡ None → ExpectsKnown p.row q c → Stands op p.row q c p c
begins op q c p of none expects = record {
  of = of;
  called = subst (λ (z : Option Reply). Called c q (acts op z) c) (sym none) (saw_nothing c q);
  answers = [];
  reaches = refl;
  misses = (let e : c.misses ≡ c.misses + 0 = omega arith in e);
  knows = more_yet c q;
  expects = expects;
  others = (let none : 0 ≤ 0 = omega arith in none);
}

-- the laws of programs, of an access that was made
pub made_right : (p : Standing) (q : ℕ) (c d : Card) (n : ℕ) → IsGoing p.row → IsStep (access_of p) → Ready p c → Made p q c n d → Right c.thread p.cell p.row (led_at p n) n (changed (access_of p) n)
made_right p q c d n going step ready m = subst (λ (t : ℕ). Right t p.cell p.row (led_at p n) n (changed (access_of p) n)) ready.0
    (right_step p.thread p.cell n p.row (subst (λ (z : ℕ). 1 ≤ z) (sym ready.0) m.thread.0) (subst (λ (z : ℕ). z ≤ most_threads) (sym ready.0) m.thread.1) going step ready.1 m.sound (subst (λ (z : ℕ). Expects z p.row (object_of (fields_of n))) (sym ready.0) m.met))

made_minds : (p : Standing) (q : ℕ) (c d : Card) (n : ℕ) → IsGoing p.row → IsStep (access_of p) → Ready p c → Made p q c n d → Minds p.row (led_at p n) n (changed (access_of p) n)
made_minds p q c d n going step ready m = minds p.thread p.cell n p.row (subst (λ (z : ℕ). z ≤ most_threads) (sym ready.0) m.thread.1) going step ready.1 (subst (λ (z : ℕ). Expects z p.row (object_of (fields_of n))) (sym ready.0) m.met)

-- the point that is made is the one that the next row tells
pub made_point : (p : Standing) (q : ℕ) (c d : Card) (n : ℕ) → IsGoing p.row → IsStep (access_of p) → Ready p c → Made p q c n d → decided (led_at p n).row ≡ (led_at p n).point
made_point p q c d n going step ready m = subst (λ (z : Option Reply). Joins z (led_at p n).point (decided (led_at p n).row)) (undecided p.thread p.cell p.row going step) (made_right p q c d n going step ready m).tells

pub ready_after : (p : Standing) (q : ℕ) (c d : Card) (n : ℕ) → q < 2 ^ 64 → p.cell ≡ address_at c q → IsGoing p.row → IsStep (access_of p) → Ready p c → Made p q c n d → Ready (moved p (led_at p n)) d
ready_after p q c d n few there going step ready m =
    let r = made_right p q c d n going step ready m in
    let u : Object = object_of (fields_of (changed (access_of p) n)) in (
      ready.0 ∙ sym m.sees.thread,
      r.knows,
      λ z o small at' run.
          let base = m.sees.base in
          let here : z ≡ q = omega (arith, few, small, at', there, base) in
          subst (λ (z : ℕ × Object). Expects z.0 (led_at p n).row z.1) (λ i. (sym m.sees.thread i, run_same fresh u o (at d.seen q) m.sees.leaves.0 (subst (λ (y : ℕ). Run fresh (at d.seen y) o) here run) i)) r.expects,
    )

pub reached_more : (t : ℕ) (r : Row) (xs : List Answer) (a : Answer) → reached t r (xs ++ a ∷ []) ≡ (resume_of t (reached t r xs) a).row
reached_more t r [] a = refl
reached_more t r (x ∷ xs) a = reached_more t (resume_of t r x).row xs a

pub changes_more : (xs : List Answer) (a : Answer) → changes (xs ++ a ∷ []) ≡ changes xs + tells_change a
changes_more [] a = omega arith
changes_more (x ∷ xs) a = let r = changes_more xs a in omega arith

pub stands_after : (op : Operation) (first : Row) (q : ℕ) (c : Card) (p : Standing) (d e : Card) (n : ℕ) → IsGoing p.row → IsStep (access_of p) → Ready p d → Stands op first q c p d → Made p q d n e → Stands op first q c (moved p (led_at p n)) e
stands_after op first q c p d e n going step ready s m =
    let r = made_right p q d e n going step ready m in
    let none = undecided p.thread p.cell p.row going step in
    let point = made_point p q d e n going step ready m in
    let is = of_going op p.row going s.of in
    let u : Object = object_of (fields_of (changed (access_of p) n)) in
    let a : Answer = answer_at (access_of p) n in
    let next : Option Reply = decided (led_at p n).row in
    -- what the step added, told of the operation of the call
    let added : Sees d q (told d.thread q op next) u e = subst (λ (z : Operation × Option Reply). Sees d q (told d.thread q z.0 z.1) u e) (λ i. (is i, sym point i)) m.sees in
    let had = s.misses in
    let more = m.misses in
    let sum = changes_more s.answers a in
    let thread = s.called.saw.thread in
    -- how many changes by others are known then
    let found : tells_change a ≤ length (made_by_others c.thread (m.writes.since ++ change_of d.thread n (changed (access_of p) n))) =
    subst (λ (t : ℕ). tells_change a ≤ length (made_by_others t (m.writes.since ++ change_of d.thread n (changed (access_of p) n)))) thread (failed q n (changed (access_of p) n) d e m.writes p.thread p.cell p.row s.expects) in
    let all = others_on (changes s.answers) (tells_change a) c.thread s.knows.here.0 (m.writes.since ++ change_of d.thread n (changed (access_of p) n)) s.others found in
    record {
      of = subst (λ (z : Operation). IsOf z (led_at p n).row) is r.stays;
      called = saw_more c q d op next u e (subst (λ (z : Option Reply). Called c q (acts op z) d) none s.called) added (knows_on_by d e q n (changed (access_of p) n) m.writes) (λ few. none_by d e q n (changed (access_of p) n) m.writes);
      answers = s.answers ++ a ∷ [];
      reaches = reached_more c.thread first s.answers a ∙ ap (λ (z : Row). (resume_of c.thread z a).row) s.reaches ∙ ap (λ (t : ℕ). (resume_of t p.row a).row) (sym (ready.0 ∙ thread));
      misses = omega arith;
      knows = more_on c d e q s.called.saw.threads s.knows (more_by d e q n (changed (access_of p) n) m.counted m.writes);
      expects = expects_next q e p.thread p.cell n p.row (left_behind d e q n (changed (access_of p) n) m.writes);
      others = subst (λ (z : ℕ). z ≤ length (made_by_others c.thread (s.knows.here.0 ++ (m.writes.since ++ change_of d.thread n (changed (access_of p) n))))) (sym sum) all;
    }

-- what is recorded of the word that a release found
pub tells_after : (op : Operation) (p : Standing) (q : ℕ) (c d : Card) (n : ℕ) → IsGoing p.row → IsStep (access_of p) → Ready p c → IsOf op p.row → Made p q c n d → Tells op (led_at p n).row (fields_of d.last)
tells_after op p q c d n going step ready of m =
    subst (λ (z : Operation × ℕ). Tells z.0 (led_at p n).row (fields_of z.1)) (λ i. (of_going op p.row going of i, sym m.last i)) (made_minds p q c d n going step ready m).tells

-- of a call that is no lock, fewer steps are left
pub less_left : (op : Operation) (p : Standing) (q : ℕ) (c d : Card) (n : ℕ) → op ≢ Lock → IsGoing p.row → IsStep (access_of p) → Ready p c → IsOf op p.row → Made p q c n d → rank (led_at p n).row < rank p.row
less_left op p q c d n other going step ready of m = (made_minds p q c d n going step ready m).falls (λ lock. other (sym (of_going op p.row going of) ∙ lock))

-- ---- how many mutexes are held

-- it is no matter whose point it is, and where
count_any : (t u q z : ℕ) (op : Operation) (r : Option Reply) (h : ℕ) → count_after h (point_of t q op r) ≡ count_after h (point_of u z op r)
count_any t u q z op None h = refl
count_any t u q z op (Some x) h = refl

pub held_made : (p : Standing) (q : ℕ) (c d : Card) (n : ℕ) → IsGoing p.row → IsStep (access_of p) → Ready p c → Made p q c n d → held d ≡ count_after (held c) (point_of p.thread p.cell (row_operation p.row) (led_at p n).point)
held_made p q c d n going step ready m =
    held_sees c q (row_operation p.row) (led_at p n).point (object_of (fields_of n)) (object_of (fields_of (changed (access_of p) n))) d m.sees
    (run_at (object_of (fields_of n)) (object_of (fields_of (changed (access_of p) n))) c.thread p.cell q (row_operation p.row) (led_at p n).point (made_right p q c d n going step ready m).runs) m.holder
    ∙ count_any c.thread p.thread q p.cell (row_operation p.row) (led_at p n).point (held c)

most_le : (r : Option Reply) (b : Bool) → most_of r b ≤ 2048
most_le None true = omega arith
most_le None false = omega arith
most_le (Some x) b = omega arith

count_le : (op : Operation) (x : Reply) (h : ℕ) → h ≤ most_of None (acquires op) → count_by h op x ≤ 2048
count_le Lock OK h le = omega arith
count_le Lock EOWNERDEAD h le = omega arith
count_le Lock x h le = omega arith
count_le TryLock OK h le = omega arith
count_le TryLock EOWNERDEAD h le = omega arith
count_le TryLock x h le = omega arith
count_le Unlock OK h le = omega arith
count_le Unlock x h le = omega arith
count_le Death OK h le = omega arith
count_le Death x h le = omega arith
count_le op x h le = omega arith

-- who may still take a mutex has room for it
pub room_after : (p : Standing) (q : ℕ) (c d : Card) (n h : ℕ) → IsGoing p.row → IsStep (access_of p) → Ready p c → Made p q c n d → h ≤ most p.row → count_after h (point_of p.thread p.cell (row_operation p.row) (led_at p n).point) ≤ most (led_at p n).row
room_after p q c d n h going step ready m le =
    go (led_at p n).point refl
  where
    none : decided p.row ≡ None
    none = undecided p.thread p.cell p.row going step

    before : h ≤ most_of None (acquires (row_operation p.row))
    before = subst (λ (z : Option Reply). h ≤ most_of z (acquires (row_operation p.row))) none le

    go : (r : Option Reply) → (led_at p n).point ≡ r → count_after h (point_of p.thread p.cell (row_operation p.row) r) ≤ most (led_at p n).row
    go None is =
        let still = made_point p q c d n going step ready m ∙ is in
        let same = of_going (row_operation p.row) (led_at p n).row (undecided_going (led_at p n).row still) (made_right p q c d n going step ready m).stays in
        subst (λ (z : Option Reply × Operation). h ≤ most_of z.0 (acquires z.1)) (λ i. (sym still i, sym same i)) before
    go (Some x) is =
        let now = made_point p q c d n going step ready m ∙ is in
        subst (λ (z : Option Reply). count_by h (row_operation p.row) x ≤ most_of z (acquires (row_operation (led_at p n).row))) (sym now) (count_le (row_operation p.row) x h before)

pub few_after : (h : ℕ) (r : Row) → h ≤ most r → h ≤ 2048
few_after h r le = let m = most_le (decided r) (acquires (row_operation r)) in omega arith

-- ---- the end

-- a call that is decided
pub called : (op : Operation) (first : Row) (q : ℕ) (c : Card) (p : Standing) (d : Card) (r : Reply) → Stands op first q c p d → decided p.row ≡ Some r → Called c q ((op, r) ∷ []) d
called op first q c p d r s is = subst (λ (z : Option Reply). Called c q (acts op z) d) is s.called

pub raced_four : (op : Operation) (q : ℕ) (c : Card) (p : Standing) (d : Card) → Stands op (row.TryLock try.Load) q c p d → p.row ≡ row.Ended XRACED → (c.misses + 4 ≤ d.misses) × OthersChanged 4 c q d
raced_four op q c p d s is = let four = raced c.thread s.answers (s.reaches ∙ is) in let m = s.misses in ((omega arith), others_changed 4 (changes s.answers) c q d s.knows four s.others)
