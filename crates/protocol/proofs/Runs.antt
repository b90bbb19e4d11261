-- Whole runs.
use Rattle.std.proofs.Common.{◌≡◌, ◌≢◌, ℕ, zero, suc, ◌+◌, ◌<◌, ◌≤◌, Bool, true, false, ◌&&◌, Option, Some, None, Ok, Err, List, [], ◌∷◌, ◌++◌, refl, sym, ap, ◌∙◌, subst, arith}
use Rattle.std.proofs.Common.{eq-eqb, ◌%◌, ◌==◌}
use Rattle.protocol.proofs.Vocabulary.{LoadFirst, Object, Operation, Decision, Layout', IsLayout, head_place, Does, Permits, acquires, fresh, held_by, Reply, XHELD, Op, mutex_of}
use Rattle.protocol.proofs.Vocabulary.{Limit, overslept, CondCall, OnCondition}
use Rattle.protocol.proofs.Vocabulary.{Names, Event, Thread, Stage, Idle, Dying, Note, facts_of, State, After, put, start, nothing, is_alive, killed, begun, happens, run, notes}
use Rattle.protocol.proofs.Vocabulary.{seen, if◌then◌else◌, nat_le, MatchBool, nat_tests, first_word, points_of, points_among, HistoryIsLegal, address_in}
use Rattle.protocol.proofs.Vocabulary.{Calling, AtCondition, Reaped, departed, renewed, reinited, MayRemake, Whole, cell_place}
use Rattle.protocol.proofs.Renewals.{renewed_seen, renew_kept}
use Rattle.protocol.proofs.Reinits.{Says_nothing, waiters_say_nothing, unowned, reinited_seen, reinited_far, reinit_kept}
use Rattle.posixmutex.specs.Histories.{Legal, opening}
use Rattle.robustlist.proofs.Lists.{begins_empty}
use Rattle.condvar.specs.Ops.{operation_of}
use Rattle.protocol.proofs.Puts.{by_put}
use Rattle.protocol.proofs.Objects.{one}
use Rattle.protocol.proofs.Counts.{held_by-same}
use Rattle.protocol.proofs.Kept.{Sits, Listed, Walks, LeftToWalk, PendsAs, Kept, Owned, left_out}
use Rattle.protocol.proofs.Steps.{Tells, Transition, after}
use Rattle.protocol.proofs.Stepping.{Stepping}
use Rattle.protocol.proofs.Events.{begins_at, names_mutex, by_event, IsTrimming}
use Rattle.protocol.proofs.Working.{Noted, noted_points, point_of, by_step}
use Rattle.protocol.proofs.Lists.{left_from}
use Rattle.protocol.proofs.WalkSteps.{walk_of}
use Rattle.protocol.proofs.Cases.{at_or_else}
use Rattle.protocol.proofs.WalksLeft.{left_to_walk_carries}
use Rattle.protocol.proofs.Seeing.{head_in, words_in, head_again}
use Rattle.memorymap.specs.Layouts.{thread_of, head_word, cell_offset}
use Rattle.protocol.proofs.Frames.{knows_at}
use Rattle.protocol.proofs.Departures.{queues_kept}
use Rattle.lockword.specs.declared.reply.Reply.TheVariants.{ETIMEDOUT}
use Rattle.mutex.specs.declared.row.Row.TheVariants.{Lock}
use Rattle.protocol.proofs.Vocabulary.{AtCell, Call, LockRow, OnMutex, lapsed}
use Rattle.protocol.proofs.Expiring.{expires_at, lapse_kept}
use Rattle.protocol.proofs.Oversleeping.{overslept_kept}
use Rattle.protocol.proofs.Declines.{declined_state, quiet, spared_is, decline_kept}
use Rattle.buckets.specs.Queues.{without}
use Rattle.protocol.proofs.Vocabulary.{Led}
use Rattle.protocol.proofs.Events.{Sparing}
use Rattle.protocol.proofs.Sparing.{spare_is, spare_kept, spared_state, unwoken}

-- the decisions take the mutexes from what the one state's cells say to what the other's do
abbrev pub Told : State → List Decision → State → Type 0
Told s [] s' = (k : ℕ) → seen s' k ≡ seen s k
Told s (d ∷ ds) s' = (d.mutex < s.layout.mutexes) × Does (held_by d.thread (seen s) s.layout.mutexes) (seen s d.mutex) d.thread d.operation d.reply (seen s' d.mutex) × ((k : ℕ) → k ≢ d.mutex → seen s' k ≡ seen s k) × (ds ≡ [])

pub record Sound' (s : State) (a : After) : Type 0 where
  pub kept : Kept a.state
  pub same : a.state.layout ≡ s.layout
  pub told : Told s (points_of (facts_of a.note)) a.state

-- an event that does nothing is sound
idles : (s : State) → Kept s → Sound' s (nothing s)
idles s inv = record { kept = inv; same = refl; told = λ k. refl }

-- ---- a call begins

first_sits : (s : State) (t held : ℕ) (o : Op) → IsLayout s.layout → Names s.layout o → (acquires (operation_of o) ≡ true → held < 2048) → Sits s t held (begins_at s.layout t o)
first_sits s t held o is named room = grind (arith)

-- its list is as it was
first_listed : (s : State) (t : ℕ) (o : Op) → Listed s t Idle → Listed s t (begins_at s.layout t o)
first_listed s t o h = grind (arith)

-- nothing is pending yet
pub first_pends : (l : Layout') (t w : ℕ) (o : Op) → w ≡ 0 → PendsAs w (begins_at l t o)
first_pends l t w o is = grind (arith)

-- the machine with another call in progress
abbrev with_call : State → ℕ → Stage → State
with_call s t g = record s { threads = put s.threads t (record (s.threads t) { stage = g }) }

module _ (s : State) (t : ℕ) (o : Op) (inv : Kept s) (pos : 1 ≤ t) (known : t ≤ s.layout.threads) (named : Names s.layout o) (resting : (s.threads t).stage ≡ Idle) where
  abbrev held : ℕ
  held = (s.threads t).held

  abbrev g : Stage
  g = begins_at s.layout t o

  abbrev k : ℕ
  k = mutex_of s.layout o

  -- whoever sits there sits there still
  still : (u h : ℕ) (f : Stage) → Sits s u h f → Sits (with_call s t g) u h f
  still u h f f' = grind (arith)

  owned_still : (u : ℕ) (out : Option ℕ) (es : List ℕ) → Owned s u out es → Owned (with_call s t g) u out es
  owned_still u out es owned = record { entries = owned.entries; all = owned.all }

  listed_still : (u h : ℕ) (f : Stage) → Sits s u h f → Listed s u f → Listed (with_call s t g) u f
  listed_still u h Idle sits (es, owned, ch) = (es, owned_still u None es owned, ch)
  listed_still u h (Calling c p) sits (es, owned, ch) = (es, owned_still u (left_out s.layout (Calling c p)) es owned, ch)
  listed_still u h (AtCondition c p) sits (es, owned, ch) = (es, owned_still u (left_out s.layout (AtCondition c p)) es owned, ch)
  listed_still u h (Dying w) sits l =
      left_to_walk_carries s s.words s.queues (with_call s t g).threads u (λ x k below is own. refl) refl refl (λ k own. own) (λ k own. own) (λ k at v again treats owner only. only) w.row (knows_at s.layout u w sits) l
  listed_still u h Reaped sits none = none

  begun_kept : (acquires (operation_of o) ≡ true → held < 2048) → Kept (with_call s t g)
  begun_kept room = record {
    layout = inv.layout;
    sits = λ u first most. by_put (λ (z : Thread). Sits (with_call s t g) u z.held z.stage) s.threads t (record (s.threads t) { stage = g }) u
        (λ is. subst (λ (v : ℕ). Sits (with_call s t g) v held g) (sym is) (still t held g (first_sits s t held o inv.layout named room)))
        (λ apart. still u (s.threads u).held (s.threads u).stage (inv.sits u first most));
    listed = λ u first most. by_put (λ (z : Thread). Listed (with_call s t g) u z.stage) s.threads t (record (s.threads t) { stage = g }) u
        (λ is. subst (λ (v : ℕ). Listed (with_call s t g) v g) (sym is) (listed_still t held g (first_sits s t held o inv.layout named room) (first_listed s t o (subst (Listed s t) resting (inv.listed t pos known)))))
        (λ apart. listed_still u (s.threads u).held (s.threads u).stage (inv.sits u first most) (inv.listed u first most));
    heads = λ u first most. record {
      offset = (inv.heads u first most).offset;
      pending = by_put (λ (z : Thread). PendsAs (s.words (head_place u + 2)) z.stage) s.threads t (record (s.threads t) { stage = g }) u
          (λ is. first_pends s.layout t (s.words (head_place u + 2)) o (ap (λ (v : ℕ). s.words (head_place v + 2)) is ∙ subst (PendsAs (s.words (head_place t + 2))) resting (inv.heads t pos known).pending))
          (λ apart. (inv.heads u first most).pending);
      few = by_put (λ (z : Thread). z.held ≤ 2048) s.threads t (record (s.threads t) { stage = g }) u (λ is. (inv.heads t pos known).few) (λ apart. (inv.heads u first most).few);
    };
    sound = inv.sound;
    owners = inv.owners;
    held = λ u first most. by_put (λ (z : Thread). z.held ≡ held_by u (seen s) s.layout.mutexes) s.threads t (record (s.threads t) { stage = g }) u
        (λ is. subst (λ (v : ℕ). held ≡ held_by v (seen s) s.layout.mutexes) (sym is) (inv.held t pos known))
        (λ apart. inv.held u first most);
  }

  refused : (b : Bool) → (acquires (operation_of o) && nat_le 2048 held) ≡ b → b ≡ true → Does (held_by t (seen s) s.layout.mutexes) (seen s k) t (operation_of o) XHELD (seen s k)
  refused b e is =
      let now : (acquires (operation_of o) && nat_le 2048 (held_by t (seen s) s.layout.mutexes)) ≡ true = subst (λ (h : ℕ). (acquires (operation_of o) && nat_le 2048 h) ≡ true) (inv.held t pos known) (e ∙ is) in
      subst (λ (x : Bool). MatchBool x ((XHELD ≡ XHELD) × (seen s k ≡ seen s k)) (Permits (seen s k) t (operation_of o) XHELD (seen s k))) (sym now) (refl, refl)

  begins_call : (b : Bool) → (acquires (operation_of o) && nat_le 2048 held) ≡ b → Sound' s (begun s t o (if b then Err XHELD else Ok g))
  begins_call true e = record { kept = inv; same = refl; told = (names_mutex s.layout o inv.layout named, refused true e refl, (λ j apart. refl), refl) }
  begins_call false e = record { kept = begun_kept (λ takes. grind (arith, nat_tests)); same = refl; told = λ j. refl }

-- ---- a call goes on

-- what the table permits is a step, where the thread may take another mutex
pub does : (held t : ℕ) (o n : Object) (op : Operation) (x : Reply) → (acquires op ≡ true → held < 2048) → Permits o t op x n → Does held o t op x n
does held t o n op x room permits = grind (arith)

-- an access of thread t is sound
access_sound : (s : State) (t : ℕ) (v : Transition) (n : Note) → Kept s → 1 ≤ t → t ≤ s.layout.threads → Stepping s t v → Noted s t v n → Sound' s (record { state = after s t v; note = n })
access_sound s t v n inv pos known g noted = record { kept = g.kept; same = refl; told = subst (λ (ds : List Decision). Told s ds (after s t v)) (sym (noted_points s t v n noted)) (told v.point refl g.tells) }
  where
    unchanged : seen (after s t v) v.mutex ≡ seen s v.mutex → (k : ℕ) → seen (after s t v) k ≡ seen s k
    unchanged same k = at_or_else (λ (j : ℕ). seen (after s t v) j ≡ seen s j) v.mutex k same (g.far k)

    told : (x : Option Reply) → v.point ≡ x → Tells t (seen s v.mutex) v.operation x (seen (after s t v) v.mutex) → Told s (point_of t v.mutex v.operation x) (after s t v)
    told None is same = unchanged same
    told (Some x) is permits = (g.inside, does _ t _ _ v.operation x (λ takes. subst (λ (h : ℕ). h < 2048) (inv.held t pos known) (g.room x is takes)) permits, g.far, refl)

-- the state after a death
module _ (s : State) (t : ℕ) (inv : Kept s) (pos : 1 ≤ t) (known : t ≤ s.layout.threads) (alive : is_alive (s.threads t).stage ≡ true) where
  abbrev dead : Thread
  dead = record (s.threads t) { stage = Dying (walk_of s.layout t LoadFirst) }

  abbrev s1 : State
  s1 = (killed s t).state

  dead_sits : (u h : ℕ) (g : Stage) → Sits s u h g → Sits s1 u h g
  dead_sits u h g f = grind (arith)

  dead_listed : (u : ℕ) (g : Stage) → Listed s u g → Listed s1 u g
  dead_listed u g l = grind (arith)

  pub kill_kept : Kept s1
  kill_kept = record {
    layout = inv.layout;
    sits = λ u first most. by_put (λ (z : Thread). Sits s1 u z.held z.stage) s.threads t dead u
        (λ is. subst (λ (v : ℕ). Walks s.layout v (walk_of s.layout t LoadFirst)) (sym is) (record { mine = refl; head = refl; going = tt; knows = tt }))
        (λ apart. dead_sits u (s.threads u).held (s.threads u).stage (inv.sits u first most));
    listed = λ u first most. by_put (λ (z : Thread). Listed s1 u z.stage) s.threads t dead u
        (λ is. subst (λ (v : ℕ). LeftToWalk s1 v LoadFirst) (sym is)
        (left_to_walk_carries s s1.words s1.queues s1.threads t (λ x k below is own. refl) refl refl (λ k own. own) (λ k own. own) (λ k at v again treats owner only. only) LoadFirst tt (left_from s t inv pos known alive)))
        (λ apart. dead_listed u (s.threads u).stage (inv.listed u first most));
    heads = λ u first most. record {
      offset = (inv.heads u first most).offset;
      pending = by_put (λ (z : Thread). PendsAs (s.words (head_place u + 2)) z.stage) s.threads t dead u (λ is. tt) (λ apart. (inv.heads u first most).pending);
      few = by_put (λ (z : Thread). z.held ≤ 2048) s.threads t dead u (λ is. (inv.heads t pos known).few) (λ apart. (inv.heads u first most).few);
    };
    sound = inv.sound;
    owners = inv.owners;
    held = λ u first most. by_put (λ (z : Thread). z.held ≡ held_by u (seen s) s.layout.mutexes) s.threads t dead u
        (λ is. subst (λ (v : ℕ). (s.threads t).held ≡ held_by v (seen s) s.layout.mutexes) (sym is) (inv.held t pos known))
        (λ apart. inv.held u first most);
  }

-- a death is sound: the walk will find what the thread owned
kill_sound : (s : State) (t : ℕ) → Kept s → 1 ≤ t → t ≤ s.layout.threads → is_alive (s.threads t).stage ≡ true → Sound' s (killed s t)
kill_sound s t inv pos known alive = record { kept = kill_kept s t inv pos known alive; same = refl; told = λ k. refl }

-- so is a leave, which changes the queues alone
leave_sound : (s : State) (t : ℕ) → Kept s → Sound' s (departed s t)
leave_sound s t inv = record { kept = queues_kept s (λ key. without t (s.queues key)) inv; same = refl; told = λ k. refl }

-- and a lock that is out of time: its point changes nothing
lapse_sound : (s : State) (t m : ℕ) (p : Whole) → Kept s → 1 ≤ t → t ≤ s.layout.threads → (s.threads t).stage ≡ Calling (OnMutex (Call.TimedLock m)) p → (r : LockRow) → p.phase ≡ AtCell (Lock r)
    → Sound' s (lapsed s t (s.threads t).held (OnMutex (Call.TimedLock m)) p)
lapse_sound s t m p inv pos known is r at =
    let fits = subst (Sits s t (s.threads t).held) (is ∙ ap (Calling (OnMutex (Call.TimedLock m))) (λ i. record { thread = p.thread; operation = p.operation; head = p.head; entry = p.entry; cell = p.cell; phase = at i })) (inv.sits t pos known) in
    let room : (s.threads t).held < 2048 = fits.0.stands.room (ap acquires fits.1) in
    record {
      kept = lapse_kept s t (OnMutex (Call.TimedLock m)) p is r at inv pos known;
      same = refl;
      told = (fits.0.inside, does _ t _ _ Operation.TimedLock ETIMEDOUT (λ takes. subst (λ (h : ℕ). h < 2048) (inv.held t pos known) room) refl, (λ k apart. refl), refl);
    }

-- and a wait that is out of time
oversleep_sound : (s : State) (t k : ℕ) (x : Limit) (p : Whole) → Kept s → 1 ≤ t → t ≤ s.layout.threads → (s.threads t).stage ≡ Calling (OnCondition (CondCall.TimedWait k x)) p → Sound' s (overslept s t (s.threads t).held k p)
oversleep_sound s t k x p inv pos known is = record { kept = overslept_kept s t k x p is inv pos known; same = refl; told = λ j. refl }

-- and a trim that is declined
decline_sound : (s : State) (t : ℕ) (o : Op) (p : Whole) (is : (s.threads t).stage ≡ Calling o p) (trims : IsTrimming p) → Kept s → 1 ≤ t → t ≤ s.layout.threads
    → Sound' s (record { state = declined_state s t o p is trims; note = quiet s t o p is trims })
decline_sound s t o p is trims inv pos known = record { kept = decline_kept s t o p is trims inv pos known; same = refl; told = λ k. refl }

-- and a renewal, which changes no mutex
renew_sound : (s : State) (t : ℕ) → Kept s → 1 ≤ t → t ≤ s.layout.threads → (s.threads t).stage ≡ Reaped → Sound' s (renewed s t)
renew_sound s t inv pos known gone = record { kept = renew_kept s t pos known inv gone; same = refl; told = renewed_seen s t pos known }

-- and a remake, which is a step of its mutex
reinit_sound : (s : State) (t m w : ℕ) → Says_nothing w → Kept s → MayRemake s t m → Sound' s (reinited s t m w)
reinit_sound s t m w says inv may = record { kept = reinit_kept s t m w says may inv; same = refl; told = (may.inside, (may.unusable, unowned s t m w says may inv, reinited_seen s t m w says may), reinited_far s t m w says may, refl) }

-- and a wake that is spared
spare_sound : (s : State) (t m : ℕ) (g : Led) (sp : Sparing s t m g) → Kept s → Sound' s (record { state = spared_state s t m g sp.how; note = unwoken t m })
spare_sound s t m g sp inv = record { kept = spare_kept s t m g sp inv; same = refl; told = λ k. refl }

-- each event is sound
pub sound : (s : State) (e : Event) → Kept s → Sound' s (happens s e)
sound s e inv =
    by_event s (λ (x : Event) (a : After). Sound' s a)
    (λ x. idles s inv)
    (λ t o pos known named idle b full. begins_call s t o inv pos known named idle b full)
    (λ t pos known. by_step s t inv pos known (Sound' s) (λ rests. idles s inv) (λ v n is awake g noted. access_sound s t v n inv pos known g noted))
    (λ t pos known alive. kill_sound s t inv pos known alive)
    (λ t pos known asleep. leave_sound s t inv)
    (λ t m p pos known is asleep may. let e = expires_at p.phase may in lapse_sound s t m p inv pos known is e.0 e.1)
    (λ t k x p pos known is there. oversleep_sound s t k x p inv pos known is)
    (λ t o p pos known is awake trims. subst (Sound' s) (sym (spared_is s t o p is trims inv pos known)) (decline_sound s t o p is trims inv pos known))
    (λ t pos known gone. renew_sound s t inv pos known gone)
    (λ t m may. reinit_sound s t m _ (waiters_say_nothing (s.words (cell_place s.layout m))) inv may)
    (λ t m g sp. subst (Sound' s) (sym (spare_is s t m g sp inv)) (spare_sound s t m g sp inv))
    e

-- ---- the beginning

-- so at the start each mutex is free
pub seen-start : (l : Layout') (counters : ℕ → ℕ) (m : ℕ) → seen (start l counters) m ≡ fresh
seen-start l counters m = grind (arith)

-- and nobody holds any
nobody_owns : (t n : ℕ) (f : ℕ → Object) → ((m : ℕ) → f m ≡ fresh) → held_by t f n ≡ 0
nobody_owns t zero f all = refl
nobody_owns t (suc n) f all = let first : one t (f n) ≡ 0 = ap (one t) (all n) in let others = nobody_owns t n f all in omega arith

head_first : (l : Layout') (counters : ℕ → ℕ) (t : ℕ) → 1 ≤ t → t ≤ l.threads → first_word l counters (head_place t) ≡ head_in l t
head_first l counters t first most =
    among_heads ∙ ap (λ (b : Bool). if b then address_in l (thread_of (head_place t)) (head_place t) else if head_place t % 3 == 2 then cell_offset else 0) (eq-eqb (head_place t % 3) 1 (omega arith))
    ∙ ap (λ (u : ℕ). address_in l u (head_place t)) (omega arith)
  where
    among_heads : first_word l counters (head_place t) ≡ head_word l (head_place t)
    among_heads = grind (arith, nat_tests)

head_second : (l : Layout') (counters : ℕ → ℕ) (t : ℕ) → 1 ≤ t → t ≤ l.threads → first_word l counters (head_place t + 1) ≡ 18446744073709551615
head_second l counters t first most = grind (arith)

head_third : (l : Layout') (counters : ℕ → ℕ) (t : ℕ) → 1 ≤ t → t ≤ l.threads → first_word l counters (head_place t + 2) ≡ 0
head_third l counters t first most = grind (arith)

start_listed : (l : Layout') (counters : ℕ → ℕ) (t : ℕ) → IsLayout l → 1 ≤ t → t ≤ l.threads → Listed (start l counters) t Idle
start_listed l counters t is first most = (
  [],
  record { entries = λ x among. absurd among; all = λ k below own outside. absurd (cc (ap (λ (o : Object). o.owner) (seen-start l counters k), own)) },
  begins_empty (words_in l t (first_word l counters)) (head_in l t) (ap (first_word l counters) (head_again l t is first most) ∙ head_first l counters t first most),
)

-- the start keeps the invariant
pub start_kept : (l : Layout') (counters : ℕ → ℕ) → IsLayout l → Kept (start l counters)
start_kept l counters is = record {
  layout = is;
  sits = λ t first most. tt;
  listed = λ t first most. start_listed l counters t is first most;
  heads = λ t first most. record { offset = head_second l counters t first most; pending = head_third l counters t first most; few = omega arith };
  sound = λ m u. absurd (cc (ap (λ (o : Object). o.unusable) (seen-start l counters m), u));
  owners = λ m u own. absurd (cc (ap (λ (o : Object). o.owner) (seen-start l counters m), own));
  held = λ t first most. sym (nobody_owns t l.mutexes (seen (start l counters)) (seen-start l counters));
}

-- ---- runs

-- each run keeps it
pub run_kept : (s : State) (es : List Event) → Kept s → Kept (run s es)
run_kept s [] inv = inv
run_kept s (e ∷ es) inv = run_kept (happens s e).state es (sound s e inv).kept

-- and the layout
pub run_layout : (s : State) (es : List Event) → Kept s → (run s es).layout ≡ s.layout
run_layout s [] inv = refl
run_layout s (e ∷ es) inv = run_layout (happens s e).state es (sound s e inv).kept ∙ (sound s e inv).same

-- the points of one event, and then a legal history, are a legal history
legal_told : (s s' : State) (ds rest : List Decision) (old new : ℕ → Object) → Told s ds s' → ((k : ℕ) → old k ≡ seen s k) → ((now : ℕ → Object) → ((k : ℕ) → now k ≡ seen s' k) → Legal s.layout.mutexes now rest new) → Legal s.layout.mutexes old (ds ++ rest) new
legal_told s s' [] rest old new tells same further = further old (λ k. same k ∙ sym (tells k))
legal_told s s' (d ∷ ds) rest old new tells same further = (
  tells.0,
  (
    seen s',
    subst (λ (o : Object). Does (held_by d.thread old s.layout.mutexes) o d.thread d.operation d.reply (seen s' d.mutex)) (sym (same d.mutex))
        (subst (λ (h : ℕ). Does h (seen s d.mutex) d.thread d.operation d.reply (seen s' d.mutex)) (sym (held_by-same d.thread s.layout.mutexes (seen s) old (λ k lt. same k))) tells.1),
    (λ k apart. tells.2 k apart ∙ sym (same k)),
    subst (λ (z : List Decision). Legal s.layout.mutexes (seen s') (z ++ rest) new) (sym tells.3) (further (seen s') (λ k. refl)),
  ),
)

-- the points of a run are a legal history, from any state that keeps the invariant
history : (s : State) (es : List Event) → Kept s → (old : ℕ → Object) → ((k : ℕ) → old k ≡ seen s k) → Legal s.layout.mutexes old (points_among (notes s es)) (seen (run s es))
history s [] inv old same = λ k. sym (same k)
history s (e ∷ es) inv old same =
    let one_event = sound s e inv in
    let s' = (happens s e).state in
    legal_told s s' (points_of (facts_of (happens s e).note)) (points_among (notes s' es)) old (seen (run s' es)) one_event.told same
    (λ now is. subst (λ (l : Layout'). Legal l.mutexes now (points_among (notes s' es)) (seen (run s' es))) one_event.same (history s' es one_event.kept now is))

-- so they are from the start
pub legal : HistoryIsLegal
legal l counters events is =
    let s = start l counters in
    let inv = start_kept l counters is in
    subst (λ (k : Layout'). Legal k.mutexes opening (points_among (notes s events)) (seen (run s events))) (sym (run_layout s events inv)) (history s events inv opening (λ k. sym (seen-start l counters k)))
