-- The counters of condition variables, where one thread alone changes any: each is what it was and what the thread has counted there.
use Rattle.std.proofs.Common.{◌≡◌, ◌≢◌, ◌⊎◌, inl, inr, ⊎_elim, ℕ, ◌+◌, ◌<◌, ◌==◌, Bool, true, false, not, Option, None, Some, List, [], ◌∷◌, ◌++◌, length, refl, sym, ap, ◌∙◌, subst, arith, append_assoc, append-nil, eq-eqb, ne_eqb, eqb-true}
use Rattle.std.specs.Prelude.{if◌then◌else◌, MatchBool, nat_le}
use Rattle.std.proofs.lemmas.Bool.{eqb-false}
use Rattle.std.proofs.lemmas.List.Elements.{filter-append}
use mathlib.Core.Logic.{dite}
use native.Mathlib.Decide.{ℕ_discrete}
use Rattle.lockword.specs.declared.reply.Reply.{Reply}
use Rattle.lockword.specs.declared.reply.Reply.TheVariants.{OK, EPERM, XFULL, XHELD}
use Rattle.posixmutex.specs.declared.point.Operation.{Operation}
use Rattle.posixmutex.specs.declared.point.Operation.TheVariants as operation
use Rattle.memorymap.specs.Layouts.{Layout', cell_place, counter_place}
use Rattle.mutex.specs.declared.call.Call.TheVariants.{Lock, TimedLock, TryLock, Unlock, Consistent}
use Rattle.condvar.specs.declared.op.Op.{Op}
use Rattle.condvar.specs.declared.op.Op.TheVariants.{OnMutex, OnCondition}
use Rattle.condvar.specs.declared.call.CondCall.TheVariants.{Wait, TimedWait, Signal, Broadcast}
use Rattle.condvar.specs.Laws.{largest_counter, reply_counts}
use Rattle.condvar.specs.Ops.{acts_as, condition_of, mutex_of}
use Rattle.facts.specs.Lives.{Act, Beginning, Complete}
use Rattle.ruledwords.specs.declared.pass.Card.{Card}
use Rattle.ruledwords.specs.declared.pass.Change.{Change}
use Rattle.ruledwords.specs.Changes.{changes_at, left_by, left_of, made_by, made_by_others, CountedOnce, KnowsOn, Loaded}
use Rattle.ruledwords.specs.ConditionStands.{CondEnded, CountsThere, DiesOn, LoadedBehind}
use Rattle.ruledwords.specs.Counts.{cell_at, mutex_at}
use Rattle.ruledwords.specs.OwnWords.{owns_in}
use Rattle.ruledwords.specs.Seen.{count_acts, held, Called, Died, Saw}
use Rattle.ruledwords.proofs.Keepers.{counter_no_cell}
use Rattle.threadbench.specs.Answered.{DiesIn, Replied}
use Rattle.threadbench.specs.Conditions.{TookAgain}
use Rattle.threadbench.specs.Jobs.{WasLost}
use Rattle.report.specs.Lone.{counter_of, counters_behind, raised, AreByCounter, IsByCounter}
use Rattle.report.proofs.Told.{died_of}

-- ---- changes of one thread

-- changes that neither thread t made nor any other are none
pub nobodys_change : (t : ℕ) (zs : List Change) → made_by t zs ≡ [] → made_by_others t zs ≡ [] → zs ≡ []
nobodys_change t [] none nobody = refl
nobodys_change t (z ∷ zs) none nobody = go (z.thread == t) none nobody where
  go : (b : Bool) → (if b then z ∷ made_by t zs else made_by t zs) ≡ [] → (if not b then z ∷ made_by_others t zs else made_by_others t zs) ≡ [] → z ∷ zs ≡ []
  go true none nobody = absurd (cc none)
  go false none nobody = absurd (cc nobody)

both_none : (ls ms : List Change) → ls ++ ms ≡ [] → (ls ≡ []) × (ms ≡ [])
both_none [] ms e = (refl, e)
both_none (l ∷ ls) ms e = absurd (cc e)

others_none : (t : ℕ) (xs ys : List Change) → made_by_others t (xs ++ ys) ≡ [] → (made_by_others t xs ≡ []) × (made_by_others t ys ≡ [])
others_none t xs ys none = both_none (made_by_others t xs) (made_by_others t ys) (sym (filter-append (λ (x : Change). not (x.thread == t)) xs ys) ∙ none)

pub same_rest : {A : Type 0} (xs ys zs : List A) → xs ++ ys ≡ xs ++ zs → ys ≡ zs
same_rest [] ys zs e = e
same_rest (x ∷ xs) ys zs e = same_rest xs ys zs (cc e)

-- who has made none since
pub made_none : (t : ℕ) (xs ys : List Change) → made_by t (xs ++ ys) ≡ made_by t xs → made_by t ys ≡ []
made_none t xs ys same = same_rest (made_by t xs) (made_by t ys) [] (sym (filter-append (λ (x : Change). x.thread == t) xs ys) ∙ same ∙ sym (append-nil (made_by t xs)))

left_last : (w : ℕ) (xs : List Change) (x : Change) → left_of w (xs ++ x ∷ []) ≡ x.word
left_last w [] x = refl
left_last w (y ∷ xs) x = left_last y.word xs x

-- ---- counters that are raised

raised_none : (vs : ℕ → ℕ) (o : Option ℕ) (n q : ℕ) → n ≡ 0 → raised vs o n q ≡ vs q
raised_none vs None n q none = refl
raised_none vs (Some p) n q none = go (q == p) where
  go : (b : Bool) → (if b then vs q + n else vs q) ≡ vs q
  go true = omega (arith, none)
  go false = refl

raised_here : (vs : ℕ → ℕ) (p n q : ℕ) → q ≡ p → raised vs (Some p) n q ≡ vs q + n
raised_here vs p n q same = ap (λ (b : Bool). if b then vs q + n else vs q) (eq-eqb q p same)

raised_there : (vs : ℕ → ℕ) (p n q : ℕ) → q ≢ p → raised vs (Some p) n q ≡ vs q
raised_there vs p n q other = ap (λ (b : Bool). if b then vs q + n else vs q) (ne_eqb q p other)

-- ---- the points of a call

-- it has one point, of its own operation
abbrev Once : Operation → Type 0
Once op = ((p : Act) (x : Reply) → Complete op (p ∷ []) x → p ≡ (op, x)) × ((p q : Act) (x : Reply) → Complete op (p ∷ q ∷ []) x → ⊥)

-- a call that has one point has made it or not
one_act : (op : Operation) → Once op → (acts rest : List Act) (x : Reply) → Complete op (acts ++ rest) x → (acts ≡ []) ⊎ ((y : Reply) × (acts ≡ (op, y) ∷ []))
one_act op one [] rest x is = inl refl
one_act op one (p ∷ []) [] x is = inr (x, ap (λ (a : Act). a ∷ []) (one.0 p x is))
one_act op one (p ∷ []) (q ∷ []) x is = absurd (one.1 p q x is)
one_act op one (p ∷ []) (q ∷ r ∷ rest) x is = absurd is
one_act op one (p ∷ q ∷ []) [] x is = absurd (one.1 p q x is)
one_act op one (p ∷ q ∷ []) (r ∷ rest) x is = absurd is
one_act op one (p ∷ q ∷ r ∷ acts) rest x is = absurd is

-- on a mutex none counts
none_counts : (op : Operation) → Once op → ((x : Reply) → reply_counts op x ≡ 0) → (acts : List Act) → Beginning op acts → count_acts acts ≡ 0
none_counts op one none acts begun = ⊎_elim
    (λ (nothing : acts ≡ []). ap count_acts nothing)
    (λ (some : (y : Reply) × (acts ≡ (op, y) ∷ [])). ap count_acts some.1 ∙ (let few = none some.0 in let e : reply_counts op some.0 + 0 ≡ 0 = omega arith in e))
    (one_act op one acts begun.0 begun.1 begun.2)

-- nor in a wait
wait_counts : (acts rest : List Act) (x : Reply) → Complete operation.Wait (acts ++ rest) x → count_acts acts ≡ 0
wait_counts [] rest x is = refl
wait_counts (p ∷ []) [] x is = ap (λ (a : Act). count_acts (a ∷ [])) is
wait_counts (p ∷ []) (q ∷ []) x is = ap (λ (a : Act). count_acts (a ∷ [])) is.0
wait_counts (p ∷ []) (q ∷ r ∷ rest) x is = absurd is
wait_counts (p ∷ q ∷ []) [] x is = (λ i. count_acts (is.0 i ∷ is.1 i ∷ []))
wait_counts (p ∷ q ∷ []) (r ∷ rest) x is = absurd is
wait_counts (p ∷ q ∷ r ∷ acts) rest x is = absurd is

-- what a counter has to do with none of them
plain : (op : Operation) (v : ℕ) → Once op → ((x : Reply) → IsByCounter v op x) → (acts : List Act) → Beginning op acts → AreByCounter v acts
plain op v one any acts begun = ⊎_elim
    (λ (nothing : acts ≡ []). subst (AreByCounter v) (sym nothing) tt)
    (λ (some : (y : Reply) × (acts ≡ (op, y) ∷ [])). subst (AreByCounter v) (sym some.1) (any some.0, tt))
    (one_act op one acts begun.0 begun.1 begun.2)

wait_plain : (v : ℕ) (acts rest : List Act) (x : Reply) → Complete operation.Wait (acts ++ rest) x → AreByCounter v acts
wait_plain v [] rest x is = tt
wait_plain v (p ∷ []) [] x is = subst (λ (a : Act). AreByCounter v (a ∷ [])) (sym is) (tt, tt)
wait_plain v (p ∷ []) (q ∷ []) x is = subst (λ (a : Act). AreByCounter v (a ∷ [])) (sym is.0) (tt, tt)
wait_plain v (p ∷ []) (q ∷ r ∷ rest) x is = absurd is
wait_plain v (p ∷ q ∷ []) [] x is = subst (λ (l : Act × Act). AreByCounter v (l.0 ∷ l.1 ∷ [])) (λ i. (sym is.0 i, sym is.1 i)) (tt, (tt, tt))
wait_plain v (p ∷ q ∷ []) (r ∷ rest) x is = absurd is
wait_plain v (p ∷ q ∷ r ∷ acts) rest x is = absurd is

-- ---- a thread alone

module _ (k : Layout') (t : ℕ) (changes' : List (List Change)) where
  -- what all know at the end goes on from what the card's thread knows
  abbrev pub Onward : Card → Type 0
  Onward c = (p : ℕ) → (zs : List Change) × (changes_at changes' p ≡ changes_at c.changes p ++ zs)

  -- the card's thread knows that the counters have these values; and up to the end there are only changes by thread t
  pub record Tallies (c : Card) (vs : ℕ → ℕ) : Type 0 where
    pub rest : (q : ℕ) → q < length k.conditions → (zs : List Change) × (changes_at changes' (counter_place k q) ≡ changes_at c.changes (counter_place k q) ++ zs) × (made_by_others t zs ≡ [])
    pub are : (q : ℕ) → q < length k.conditions → left_by (changes_at c.changes (counter_place k q)) ≡ vs q

  pub tallies_as : (c : Card) (vs vs' : ℕ → ℕ) → ((q : ℕ) → vs' q ≡ vs q) → Tallies c vs → Tallies c vs'
  tallies_as c vs vs' same s = record { rest = s.rest; are = λ q low. s.are q low ∙ sym (same q) }

  -- what it came to know since is its own
  own_since : (c e : Card) (p : ℕ) (zs : List Change) → changes_at changes' p ≡ changes_at c.changes p ++ zs → made_by_others t zs ≡ [] → (ws : List Change) → changes_at e.changes p ≡ changes_at c.changes p ++ ws → (ys : List Change) → changes_at changes' p ≡ changes_at e.changes p ++ ys
      → (made_by_others t ws ≡ []) × (made_by_others t ys ≡ [])
  own_since c e p zs all none ws grows ys ahead =
      let mine : List Change = changes_at c.changes p in
      let same : zs ≡ ws ++ ys = same_rest mine zs (ws ++ ys) (sym all ∙ ahead ∙ ap (λ (l : List Change). l ++ ys) grows ∙ append_assoc mine ws ys) in
      others_none t ws ys (sym (ap (made_by_others t) same) ∙ none)

  module _ (c e : Card) (vs : ℕ → ℕ) (mine : c.thread ≡ t) (s : Tallies c vs) (on : KnowsOn c e) (ahead : Onward e) where
    rest_then : (q : ℕ) → q < length k.conditions → (zs : List Change) × (changes_at changes' (counter_place k q) ≡ changes_at e.changes (counter_place k q) ++ zs) × (made_by_others t zs ≡ [])
    rest_then q low =
        let p : ℕ = counter_place k q in
        let r = s.rest q low in
        ((ahead p).0, (ahead p).1, (own_since c e p r.0 r.1 r.2 (on p).0 (sym (on p).1) (ahead p).0 (ahead p).1).1)

    -- a counter at which it has changed nothing
    still_there : (q : ℕ) → q < length k.conditions → made_by c.thread (changes_at e.changes (counter_place k q)) ≡ made_by c.thread (changes_at c.changes (counter_place k q)) → changes_at e.changes (counter_place k q) ≡ changes_at c.changes (counter_place k q)
    still_there q low same =
        let p : ℕ = counter_place k q in
        let r = s.rest q low in
        let ws : List Change = (on p).0 in
        let nobody = (own_since c e p r.0 r.1 r.2 ws (sym (on p).1) (ahead p).0 (ahead p).1).0 in
        let made : made_by t (changes_at e.changes p) ≡ made_by t (changes_at c.changes p) = subst (λ (u : ℕ). made_by u (changes_at e.changes p) ≡ made_by u (changes_at c.changes p)) mine same in
        let none : made_by t ws ≡ [] = made_none t (changes_at c.changes p) ws (ap (made_by t) (on p).1 ∙ made) in
        sym (on p).1 ∙ ap (λ (l : List Change). changes_at c.changes p ++ l) (nobodys_change t ws none nobody) ∙ append-nil (changes_at c.changes p)

    -- a call that counts nowhere
    pub tallies_still : ((q : ℕ) → q < length k.conditions → made_by c.thread (changes_at e.changes (counter_place k q)) ≡ made_by c.thread (changes_at c.changes (counter_place k q))) → Tallies e vs
    tallies_still same = record { rest = rest_then; are = λ q low. ap left_by (still_there q low (same q low)) ∙ s.are q low }

    -- one that has loaded counter q
    tallies_loaded : (q : ℕ) → q < length k.conditions → Loaded c (counter_place k q) e → e.counted ≡ vs q
    tallies_loaded q low loaded =
        let p : ℕ = counter_place k q in
        let so = loaded.nothing in
        let none : made_by c.thread (changes_at e.changes p) ≡ made_by c.thread (changes_at c.changes p) = ap (made_by c.thread) so.grows ∙ filter-append (λ (x : Change). x.thread == c.thread) (changes_at c.changes p) so.since ∙ ap (λ (l : List Change). made_by c.thread (changes_at c.changes p) ++ l) so.others ∙ append-nil _ in
        sym loaded.left ∙ ap left_by (still_there q low none) ∙ s.are q low

    -- one that has counted at counter q
    module _ (q z : ℕ) (low : q < length k.conditions) (no_cell : (x : ℕ) → counter_place k x ≢ z) (once : CountedOnce c z (counter_place k q) e) where
      abbrev p : ℕ
      p = counter_place k q

      last : Change
      last = record { thread = c.thread; word = e.counted + 1 }

      nothing_before : once.since ≡ []
      nothing_before =
          let r = s.rest q low in
          let grows : changes_at e.changes p ≡ changes_at c.changes p ++ (once.since ++ record { thread = c.thread; word = e.counted + 1 } ∷ []) = once.grows ∙ append_assoc (changes_at c.changes p) once.since (record { thread = c.thread; word = e.counted + 1 } ∷ []) in
          let own = (own_since c e p r.0 r.1 r.2 (once.since ++ record { thread = c.thread; word = e.counted + 1 } ∷ []) grows (ahead p).0 (ahead p).1).0 in
          nobodys_change t once.since (subst (λ (u : ℕ). made_by u once.since ≡ []) mine once.others) (others_none t once.since (record { thread = c.thread; word = e.counted + 1 } ∷ []) own).0

      pub found : e.counted ≡ vs q
      found = sym once.found ∙ ap (λ (l : List Change). left_by (changes_at c.changes p ++ l)) nothing_before ∙ ap left_by (append-nil (changes_at c.changes p)) ∙ s.are q low

      pub tallies_counted : Tallies e (raised vs (Some q) 1)
      tallies_counted = record {
        rest = rest_then;
        are = λ x inside. dite (ℕ_discrete x q)
            (λ here. ap (λ (y : ℕ). left_by (changes_at e.changes (counter_place k y))) here ∙ ap left_by once.grows ∙ left_last 0 (changes_at c.changes p ++ once.since) (record { thread = c.thread; word = e.counted + 1 })
            ∙ ap (λ (y : ℕ). y + 1) (found ∙ ap vs (sym here)) ∙ sym (raised_here vs q 1 x here))
            (λ other. ap left_by (still_there x inside (once.elsewhere (counter_place k x) (no_cell x, λ e. other (omega (arith, e))))) ∙ s.are x inside ∙ sym (raised_there vs q 1 x other));
      }

  -- whatever its acts, where none counts it has changed no counter
  quiet : (c e : Card) (m : ℕ) (acts : List Act) → m < k.mutexes → count_acts acts ≡ 0 → Saw c (cell_place k m) acts e → (q : ℕ) → q < length k.conditions → made_by c.thread (changes_at e.changes (counter_place k q)) ≡ made_by c.thread (changes_at c.changes (counter_place k q))
  quiet c e m acts low none saw q inside = saw.still none (counter_place k q) (counter_no_cell k q m low)

  -- ---- a call

  -- what a call's reply and the counters after it are
  abbrev Out : ℕ → Operation → (ℕ → ℕ) → Card → Reply → Type 0
  Out q op vs e r = IsByCounter (vs q) op r × Tallies e (raised vs (Some q) (reply_counts op r))

  -- a signal or a broadcast
  counting_call : (op : Operation) (q : ℕ) (c e : Card) (vs : ℕ → ℕ) (r : Reply) → c.thread ≡ t → Tallies c vs → Onward e → mutex_at k q < k.mutexes → q < length k.conditions
      → (CountsThere op OK c (cell_at k q) (counter_place k q) e → CountedOnce c (cell_at k q) (counter_place k q) e) → (CountsThere op XFULL c (cell_at k q) (counter_place k q) e → Loaded c (counter_place k q) e)
      → reply_counts op OK ≡ 1 → reply_counts op XFULL ≡ 0 → reply_counts op EPERM ≡ 0 → ((v : ℕ) → v ≢ largest_counter → IsByCounter v op OK) → ((v : ℕ) → v ≡ largest_counter → IsByCounter v op XFULL) → ((v : ℕ) → IsByCounter v op EPERM)
      → Called c (cell_at k q) ((op, r) ∷ []) e → CountsThere op r c (cell_at k q) (counter_place k q) e → r ≡ (if owns_in k c (mutex_at k q) then (if e.counted == largest_counter then XFULL else OK) else EPERM) → Out q op vs e r
  counting_call op q c e vs r mine s ahead low inside once loads one no_more refuses free full closed called there reply = go (owns_in k c (mutex_at k q)) (e.counted == largest_counter) refl reply where
    Told : Reply → Type 0
    Told x = Called c (cell_at k q) ((op, x) ∷ []) e × CountsThere op x c (cell_at k q) (counter_place k q) e

    none_of : (x : Reply) → reply_counts op x ≡ 0 → count_acts ((op, x) ∷ []) ≡ 0
    none_of x none = omega (arith, none)

    still : (x : Reply) → reply_counts op x ≡ 0 → Called c (cell_at k q) ((op, x) ∷ []) e → Tallies e (raised vs (Some q) (reply_counts op x))
    still x none h = tallies_as e vs (raised vs (Some q) (reply_counts op x)) (λ y. raised_none vs (Some q) (reply_counts op x) y none) (tallies_still c e vs mine s h.saw.knows ahead (quiet c e (mutex_at k q) ((op, x) ∷ []) low (none_of x none) h.saw))

    counts : (e.counted == largest_counter) ≡ false → Called c (cell_at k q) ((op, OK) ∷ []) e → CountedOnce c (cell_at k q) (counter_place k q) e → Out q op vs e OK
    counts is h so =
        let z : ℕ = cell_at k q in
        let no_cell : (x : ℕ) → counter_place k x ≢ z = λ x. counter_no_cell k x (mutex_at k q) low in
        let same = found c e vs mine s h.saw.knows ahead q z inside no_cell so in (
          free (vs q) (λ full. eqb-false e.counted largest_counter is (same ∙ full)),
          subst (λ (n : ℕ). Tallies e (raised vs (Some q) n)) (sym one) (tallies_counted c e vs mine s h.saw.knows ahead q z inside no_cell so),
        )

    go : (b f : Bool) → (e.counted == largest_counter) ≡ f → r ≡ (if b then (if f then XFULL else OK) else EPERM) → Out q op vs e r
    go false f is same = let told = subst Told same (called, there) in subst (Out q op vs e) (sym same) (closed (vs q), still EPERM refuses told.0)
    go true true is same =
        let told = subst Told same (called, there) in
        subst (Out q op vs e) (sym same) (full (vs q) (sym (tallies_loaded c e vs mine s told.0.saw.knows ahead q inside (loads told.1)) ∙ eqb-true e.counted largest_counter is), still XFULL no_more told.0)
    go true false is same = let told = subst Told same (called, there) in subst (Out q op vs e) (sym same) (counts is told.0 (once told.1))

  -- any other call counts nowhere
  other_call : (c e : Card) (vs : ℕ → ℕ) (o : Option ℕ) (m n : ℕ) (acts : List Act) → c.thread ≡ t → Tallies c vs → Onward e → m < k.mutexes → count_acts acts ≡ 0 → n ≡ 0 → Saw c (cell_place k m) acts e → Tallies e (raised vs o n)
  other_call c e vs o m n acts mine s ahead low none few saw = tallies_as e vs (raised vs o n) (λ y. raised_none vs o n y few) (tallies_still c e vs mine s saw.knows ahead (quiet c e m acts low none saw))

  -- a lock or a trylock, which may be refused at once
  taking_call : (b : Bool) (c e : Card) (vs : ℕ → ℕ) (m n : ℕ) (op : Operation) (r : Reply) → c.thread ≡ t → Tallies c vs → Onward e → m < k.mutexes → count_acts ((op, r) ∷ []) ≡ 0 → MatchBool b ((r ≡ XHELD) × (e ≡ c)) (Called c (cell_place k m) ((op, r) ∷ []) e) → Tallies e (raised vs None n)
  taking_call true c e vs m n op r mine s ahead low none told = subst (λ (z : Card). Tallies z (raised vs None n)) (sym told.1) (tallies_as c vs (raised vs None n) (λ y. refl) s)
  taking_call false c e vs m n op r mine s ahead low none told = tallies_as e vs (raised vs None n) (λ y. refl) (tallies_still c e vs mine s told.saw.knows ahead (quiet c e m ((op, r) ∷ []) low none told.saw))

  pub replied_tallies : (c e : Card) (vs : ℕ → ℕ) (call : Op) (r : Reply) → c.thread ≡ t → mutex_of k call < k.mutexes → ((q : ℕ) → condition_of call ≡ Some q → q < length k.conditions) → Tallies c vs → Replied k c call r e → Onward e
      → IsByCounter (counter_of vs (condition_of call)) (acts_as call) r × Tallies e (counters_behind vs call r)
  replied_tallies c e vs (OnMutex (Lock m)) r mine low inside s told ahead = (tt, taking_call (nat_le 2048 (held c)) c e vs m 0 operation.Lock r mine s ahead low refl told)
  replied_tallies c e vs (OnMutex (TimedLock m)) r mine low inside s told ahead = (tt, taking_call (nat_le 2048 (held c)) c e vs m 0 operation.Lock r mine s ahead low refl told)
  replied_tallies c e vs (OnMutex (TryLock m)) r mine low inside s told ahead = (tt, taking_call (nat_le 2048 (held c)) c e vs m 0 operation.TryLock r mine s ahead low refl told.0)
  replied_tallies c e vs (OnMutex (Unlock m)) r mine low inside s told ahead = (tt, other_call c e vs None m 0 ((operation.Unlock, r) ∷ []) mine s ahead low refl refl told.saw)
  replied_tallies c e vs (OnMutex (Consistent m)) r mine low inside s told ahead = (tt, other_call c e vs None m 0 ((operation.Consistent, r) ∷ []) mine s ahead low refl refl told.saw)
  replied_tallies c e vs (OnCondition (Signal q)) r mine low inside s told ahead = counting_call operation.Signal q c e vs r mine s ahead low (inside q refl) (λ x. x) (λ x. x) refl refl refl (λ v x. x) (λ v x. x) (λ v. tt) told.called told.there told.reply
  replied_tallies c e vs (OnCondition (Broadcast q)) r mine low inside s told ahead = counting_call operation.Broadcast q c e vs r mine s ahead low (inside q refl) (λ x. x) (λ x. x) refl refl refl (λ v x. x) (λ v x. x) (λ v. tt) told.called told.there told.reply
  replied_tallies c e vs (OnCondition (Wait q)) r mine low inside s told ahead = (
    tt,
    ⊎_elim
        (λ (refused : CondEnded k q operation.Wait r c e). other_call c e vs (Some q) (mutex_at k q) 0 ((operation.Wait, r) ∷ []) mine s ahead low refl refl refused.called.saw)
        (λ (took : TookAgain k c q r e). other_call c e vs (Some q) (mutex_at k q) 0 ((operation.Unlock, OK) ∷ (operation.Lock, r) ∷ []) mine s ahead low refl refl took.called.saw)
        told,
  )
  replied_tallies c e vs (OnCondition (TimedWait q y)) r mine low inside s told ahead = (
    tt,
    ⊎_elim
        (λ (refused : CondEnded k q operation.Wait r c e). other_call c e vs (Some q) (mutex_at k q) 0 ((operation.Wait, r) ∷ []) mine s ahead low refl refl refused.called.saw)
        (λ (took : TookAgain k c q r e). other_call c e vs (Some q) (mutex_at k q) 0 ((operation.Unlock, OK) ∷ (operation.Lock, r) ∷ []) mine s ahead low refl refl took.called.saw)
        told,
  )

  -- ---- its death

  abbrev pub acts_in : (c : Card) (call : Op) (dead : Card) → DiesIn k c call dead → List Act
  acts_in c call dead dies = (died_of k c call dead dies).acts

  -- what it has counted in the call in which it died, and where
  abbrev DiesCounting : (c : Card) (vs : ℕ → ℕ) (call : Op) (dead : Card) → DiesIn k c call dead → Type 0
  DiesCounting c vs call dead dies = AreByCounter (counter_of vs (condition_of call)) (acts_in c call dead dies) × Tallies dead (raised vs (condition_of call) (count_acts (acts_in c call dead dies)))

  dies_quietly : (c dead : Card) (vs : ℕ → ℕ) (o : Option ℕ) (m : ℕ) (op : Operation) → c.thread ≡ t → Tallies c vs → Onward dead → m < k.mutexes → (died : Died c (cell_place k m) op dead) → AreByCounter (counter_of vs o) died.acts → count_acts died.acts ≡ 0
      → AreByCounter (counter_of vs o) died.acts × Tallies dead (raised vs o (count_acts died.acts))
  dies_quietly c dead vs o m op mine s ahead low died by none = (by, other_call c dead vs o m (count_acts died.acts) died.acts mine s ahead low none none died.saw)

  -- in a signal or a broadcast
  dies_counting : (op : Operation) (q : ℕ) (c dead : Card) (vs : ℕ → ℕ) → c.thread ≡ t → Tallies c vs → Onward dead → mutex_at k q < k.mutexes → q < length k.conditions
      → Once op → ((x : Reply) → ((reply_counts op x ≡ 0) × ((v : ℕ) → IsByCounter v op x)) ⊎ ((x ≡ OK) ⊎ (x ≡ XFULL))) → reply_counts op OK ≡ 1 → ((v : ℕ) → v ≢ largest_counter → IsByCounter v op OK)
      → (LoadedBehind ((op, OK) ∷ []) c (cell_at k q) (counter_place k q) dead → CountedOnce c (cell_at k q) (counter_place k q) dead × (dead.counted ≢ largest_counter)) → (LoadedBehind ((op, XFULL) ∷ []) c (cell_at k q) (counter_place k q) dead → ⊥)
      → (dies : DiesOn k q op c dead) → AreByCounter (vs q) dies.died.acts × Tallies dead (raised vs (Some q) (count_acts dies.died.acts))
  dies_counting op q c dead vs mine s ahead low inside one either ok free loads never dies = ⊎_elim
      (λ (nothing : dies.died.acts ≡ []). quietly (subst (AreByCounter (vs q)) (sym nothing) tt) (ap count_acts nothing))
      (λ (some : (y : Reply) × (dies.died.acts ≡ (op, y) ∷ [])). by_reply some.0 some.1 (either some.0))
      (one_act op one dies.died.acts dies.died.beginning.0 dies.died.beginning.1 dies.died.beginning.2)
    where
      Out' : Type 0
      Out' = AreByCounter (vs q) dies.died.acts × Tallies dead (raised vs (Some q) (count_acts dies.died.acts))

      quietly : AreByCounter (vs q) dies.died.acts → count_acts dies.died.acts ≡ 0 → Out'
      quietly by none = dies_quietly c dead vs (Some q) (mutex_at k q) op mine s ahead low dies.died by none

      counts : dies.died.acts ≡ (op, OK) ∷ [] → Out'
      counts acts =
          let many : count_acts dies.died.acts ≡ 1 = ap count_acts acts ∙ (let e : reply_counts op OK + 0 ≡ 1 = omega (arith, ok) in e) in
          let z : ℕ = cell_at k q in
          let no_cell : (x : ℕ) → counter_place k x ≢ z = λ x. counter_no_cell k x (mutex_at k q) low in
          let so = loads (subst (λ (l : List Act). LoadedBehind l c (cell_at k q) (counter_place k q) dead) acts dies.loaded) in
          let same = found c dead vs mine s dies.died.saw.knows ahead q z inside no_cell so.0 in (
            subst (AreByCounter (vs q)) (sym acts) (free (vs q) (λ full. so.1 (same ∙ full)), tt),
            subst (λ (n : ℕ). Tallies dead (raised vs (Some q) n)) (sym many) (tallies_counted c dead vs mine s dies.died.saw.knows ahead q z inside no_cell so.0),
          )

      by_reply : (y : Reply) → dies.died.acts ≡ (op, y) ∷ [] → ((reply_counts op y ≡ 0) × ((v : ℕ) → IsByCounter v op y)) ⊎ ((y ≡ OK) ⊎ (y ≡ XFULL)) → Out'
      by_reply y acts (inl plain) = quietly (subst (AreByCounter (vs q)) (sym acts) (plain.1 (vs q), tt)) (ap count_acts acts ∙ (let none = plain.0 in let e : reply_counts op y + 0 ≡ 0 = omega (arith, none) in e))
      by_reply y acts (inr (inl is)) = counts (acts ∙ ap (λ (x : Reply). (op, x) ∷ []) is)
      by_reply y acts (inr (inr is)) = absurd (never (subst (λ (l : List Act). LoadedBehind l c (cell_at k q) (counter_place k q) dead) (acts ∙ ap (λ (x : Reply). (op, x) ∷ []) is) dies.loaded))

  signal_counts : (x : Reply) → ((reply_counts operation.Signal x ≡ 0) × ((v : ℕ) → IsByCounter v operation.Signal x)) ⊎ ((x ≡ OK) ⊎ (x ≡ XFULL))
  signal_counts OK = inr (inl refl)
  signal_counts XFULL = inr (inr refl)
  signal_counts x = inl (refl, λ v. tt)

  broadcast_counts : (x : Reply) → ((reply_counts operation.Broadcast x ≡ 0) × ((v : ℕ) → IsByCounter v operation.Broadcast x)) ⊎ ((x ≡ OK) ⊎ (x ≡ XFULL))
  broadcast_counts OK = inr (inl refl)
  broadcast_counts XFULL = inr (inr refl)
  broadcast_counts x = inl (refl, λ v. tt)

  dead_tallies : (c dead : Card) (vs : ℕ → ℕ) (call : Op) → c.thread ≡ t → mutex_of k call < k.mutexes → ((q : ℕ) → condition_of call ≡ Some q → q < length k.conditions) → Tallies c vs → (dies : DiesIn k c call dead) → Onward dead → DiesCounting c vs call dead dies
  dead_tallies c dead vs (OnMutex (Lock m)) mine low inside s dies ahead = dies_quietly c dead vs None m operation.Lock mine s ahead low dies.1 (plain operation.Lock 0 ((λ p x e. e), (λ p q x e. e)) (λ x. tt) dies.1.acts dies.1.beginning) (none_counts operation.Lock ((λ p x e. e), (λ p q x e. e)) (λ x. refl) dies.1.acts dies.1.beginning)
  dead_tallies c dead vs (OnMutex (TimedLock m)) mine low inside s dies ahead = dies_quietly c dead vs None m operation.Lock mine s ahead low dies.1 (plain operation.Lock 0 ((λ p x e. e), (λ p q x e. e)) (λ x. tt) dies.1.acts dies.1.beginning) (none_counts operation.Lock ((λ p x e. e), (λ p q x e. e)) (λ x. refl) dies.1.acts dies.1.beginning)
  dead_tallies c dead vs (OnMutex (TryLock m)) mine low inside s dies ahead = dies_quietly c dead vs None m operation.TryLock mine s ahead low dies.1 (plain operation.TryLock 0 ((λ p x e. e), (λ p q x e. e)) (λ x. tt) dies.1.acts dies.1.beginning) (none_counts operation.TryLock ((λ p x e. e), (λ p q x e. e)) (λ x. refl) dies.1.acts dies.1.beginning)
  dead_tallies c dead vs (OnMutex (Unlock m)) mine low inside s dies ahead = dies_quietly c dead vs None m operation.Unlock mine s ahead low dies (plain operation.Unlock 0 ((λ p x e. e), (λ p q x e. e)) (λ x. tt) dies.acts dies.beginning) (none_counts operation.Unlock ((λ p x e. e), (λ p q x e. e)) (λ x. refl) dies.acts dies.beginning)
  dead_tallies c dead vs (OnMutex (Consistent m)) mine low inside s dies ahead = dies_quietly c dead vs None m operation.Consistent mine s ahead low dies (plain operation.Consistent 0 ((λ p x e. e), (λ p q x e. e)) (λ x. tt) dies.acts dies.beginning) (none_counts operation.Consistent ((λ p x e. e), (λ p q x e. e)) (λ x. refl) dies.acts dies.beginning)
  dead_tallies c dead vs (OnCondition (Wait q)) mine low inside s dies ahead = dies_quietly c dead vs (Some q) (mutex_at k q) operation.Wait mine s ahead low dies.died (wait_plain (vs q) dies.died.acts dies.died.beginning.0 dies.died.beginning.1 dies.died.beginning.2) (wait_counts dies.died.acts dies.died.beginning.0 dies.died.beginning.1 dies.died.beginning.2)
  dead_tallies c dead vs (OnCondition (TimedWait q y)) mine low inside s dies ahead = dies_quietly c dead vs (Some q) (mutex_at k q) operation.Wait mine s ahead low dies.died (wait_plain (vs q) dies.died.acts dies.died.beginning.0 dies.died.beginning.1 dies.died.beginning.2) (wait_counts dies.died.acts dies.died.beginning.0 dies.died.beginning.1 dies.died.beginning.2)
  dead_tallies c dead vs (OnCondition (Signal q)) mine low inside s dies ahead = dies_counting operation.Signal q c dead vs mine s ahead low (inside q refl) ((λ p x e. e), (λ p q x e. e)) signal_counts refl (λ v x. x) (λ x. x) (λ x. x) dies
  dead_tallies c dead vs (OnCondition (Broadcast q)) mine low inside s dies ahead = dies_counting operation.Broadcast q c dead vs mine s ahead low (inside q refl) ((λ p x e. e), (λ p q x e. e)) broadcast_counts refl (λ v x. x) (λ x. x) (λ x. x) dies

  -- and the walk over its list counts nothing
  pub lost_tallies : (c d : Card) (vs : ℕ → ℕ) (call : Op) → c.thread ≡ t → mutex_of k call < k.mutexes → ((q : ℕ) → condition_of call ≡ Some q → q < length k.conditions) → Tallies c vs → (was : WasLost k c call d) → Onward d
      → AreByCounter (counter_of vs (condition_of call)) (acts_in c call was.dead was.died) × Tallies d (raised vs (condition_of call) (count_acts (acts_in c call was.dead was.died)))
  lost_tallies c d vs call mine low inside s was ahead = (dead.0, tallies_still was.dead d _ whose dead.1 was.reaped.changes ahead (λ q there. was.reaped.still (counter_place k q) (λ m below. counter_no_cell k q m below))) where
    before : Onward was.dead
    before p = ((was.reaped.changes p).0 ++ (ahead p).0, (ahead p).1 ∙ ap (λ (l : List Change). l ++ (ahead p).0) (sym (was.reaped.changes p).1) ∙ append_assoc (changes_at was.dead.changes p) (was.reaped.changes p).0 (ahead p).0)

    whose : was.dead.thread ≡ t
    whose = (died_of k c call was.dead was.died).saw.thread ∙ mine

    dead : DiesCounting c vs call was.dead was.died
    dead = dead_tallies c was.dead vs call mine low inside s was.died before
