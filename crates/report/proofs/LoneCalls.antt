-- Calls that a thread makes while no other one is in a call: each is answered as its mutex is.
use Rattle.std.proofs.Common.{◌≡◌, ◌≢◌, ⊎_elim, ℕ, ◌<◌, ◌≤◌, ◌==◌, Bool, true, false, nat_le, Some, None, List, [], ◌∷◌, ◌++◌, refl, sym, ap, ◌∙◌, subst, arith, append_assoc, eq-eqb, ne_eqb, not, length, length-append, ◌+◌}
use Rattle.std.specs.Prelude.{◌&&◌, if◌then◌else◌, MatchBool}
use Rattle.std.proofs.lemmas.List.Elements.{filter-append}
use mathlib.Core.Logic.{dite}
use native.Mathlib.Decide.{ℕ_discrete}
use Rattle.lockword.specs.declared.reply.Reply.{Reply}
use Rattle.lockword.specs.declared.reply.Reply.TheVariants.{OK, XHELD, XRACED}
use Rattle.posixmutex.specs.declared.object.Object.{Object}
use Rattle.posixmutex.specs.declared.point.Operation.{Operation}
use Rattle.posixmutex.specs.declared.point.Operation.TheVariants as operation
use Rattle.posixmutex.specs.declared.point.Point.{Point}
use Rattle.posixmutex.specs.Histories.{is_thread, held_by}
use Rattle.memorymap.specs.Layouts.{Layout', cell_place}
use Rattle.posixmutex.specs.Objects.{acquires, bereaved, fresh, held_limit, stepped, Permits, Run}
use Rattle.posixmutex.proofs.Objects.{run_same, run_sound, run_split}
use Rattle.posixmutex.proofs.Steps.{determined}
use Rattle.mutex.specs.declared.call.Call.TheVariants.{Lock, TimedLock, TryLock, Unlock, Consistent}
use Rattle.condvar.specs.declared.op.Op.{Op}
use Rattle.condvar.specs.declared.op.Op.TheVariants.{OnMutex, OnCondition}
use Rattle.condvar.specs.declared.call.CondCall.TheVariants.{Wait, TimedWait, Signal, Broadcast}
use Rattle.condvar.specs.Ops.{acts_as, condition_of, mutex_of}
use Rattle.facts.specs.Lives.{Act, Beginning}
use Rattle.ruledwords.specs.declared.pass.Card.{Card}
use Rattle.ruledwords.specs.declared.pass.Change.{Change}
use Rattle.ruledwords.specs.Cards.{at}
use Rattle.ruledwords.specs.Changes.{changes_at, made_by, made_by_others, AreBehindFirst, AreBy, KnowsOn, OthersChanged}
use Rattle.ruledwords.proofs.Changes.{knows_on_self, knows_on_then}
use Rattle.ruledwords.specs.ConditionStands.{CondEnded}
use Rattle.ruledwords.specs.Counts.{cell_at}
use Rattle.ruledwords.specs.Deaths.{deaths}
use Rattle.ruledwords.specs.OwnWords.{owns_in}
use Rattle.ruledwords.specs.Seen.{by, count_held, held, held_after, holds, points_of, AllOf, Called, Died, Saw}
use Rattle.threadbench.specs.Answered.{Answered, DiesIn, Replied}
use Rattle.threadbench.specs.Conditions.{TookAgain}
use Rattle.threadbench.specs.Jobs.{WasLost}
use Rattle.report.specs.Lone.{answer, answer_to, behind, bereft, counter_of, counters_behind, AreAnswered, IsAnswer, IsByCounter}
use Rattle.ruledwords.proofs.Held.{owner_held}
use Rattle.report.proofs.Holding.{counts_owned}
use Rattle.report.proofs.LoneCounters.{acts_in, replied_tallies, Tallies}
use Rattle.report.proofs.Permitted.{full_taking, permits_answer, waited_answer}
use Rattle.report.proofs.Told.{answered_grew, died_of, reaped_grew, saw_grew, Grew}

-- ---- points of one thread

-- thread t made all of them
abbrev pub OnlyBy : ℕ → List Point → Type 0
OnlyBy t [] = Unit {0}
OnlyBy t (x ∷ xs) = (x.thread ≡ t) × OnlyBy t xs

pub by_only : (t : ℕ) (xs : List Point) → OnlyBy t xs → by t xs ≡ xs
by_only t [] only = refl
by_only t (x ∷ xs) only = ap (λ (b : Bool). if b then x ∷ by t xs else by t xs) (eq-eqb x.thread t only.0) ∙ ap (λ (l : List Point). x ∷ l) (by_only t xs only.1)

only_front : (t : ℕ) (xs ys : List Point) → OnlyBy t (xs ++ ys) → OnlyBy t xs
only_front t [] ys only = tt
only_front t (x ∷ xs) ys only = (only.0, only_front t xs ys only.1)

pub only_rest : (t : ℕ) (xs ys : List Point) → OnlyBy t (xs ++ ys) → OnlyBy t ys
only_rest t [] ys only = only
only_rest t (x ∷ xs) ys only = only_rest t xs ys only.1

-- where no other thread made any of the last ones
pub only_from : (n p t : ℕ) (ys xs : List Point) → AllOf n p (ys ++ xs) → ((u : ℕ) → 1 ≤ u → u ≤ n → u ≢ t → by u xs ≡ []) → OnlyBy t xs
only_from n p t (y ∷ ys) xs of none = only_from n p t ys xs of.1 none
only_from n p t [] [] of none = tt
only_from n p t [] (x ∷ xs) of none = (mine, only_from n p t [] xs of.1 (λ u pos most other. sym (passes u other) ∙ none u pos most other)) where
  first : by x.thread (x ∷ xs) ≡ x ∷ by x.thread xs
  first = ap (λ (b : Bool). if b then x ∷ by x.thread xs else by x.thread xs) (eq-eqb x.thread x.thread refl)

  mine : x.thread ≡ t
  mine = dite (ℕ_discrete x.thread t) (λ e. e) (λ other. absurd (let e : x ∷ by x.thread xs ≡ [] = sym first ∙ none x.thread of.0.1 of.0.2 other in cc e))

  passes : (u : ℕ) → u ≢ t → by u (x ∷ xs) ≡ by u xs
  passes u other = ap (λ (b : Bool). if b then x ∷ by u xs else by u xs) (ne_eqb x.thread u (λ e. other (sym e ∙ mine)))

same_rest : {A : Type 0} (xs ys zs : List A) → xs ++ ys ≡ xs ++ zs → ys ≡ zs
same_rest [] ys zs e = e
same_rest (x ∷ xs) ys zs e = same_rest xs ys zs (cc e)

by_append : (t : ℕ) (xs ys : List Point) → by t (xs ++ ys) ≡ by t xs ++ by t ys
by_append t xs ys = filter-append (λ (x : Point). x.thread == t) xs ys

pub sound : (xs : List Point) (o : Object) → Run fresh xs o → o.unusable ≡ true → o.owner ≡ None
sound xs o run = run_sound fresh xs o (λ u. refl) run

-- what a step leaves
and_false : (a : Bool) → (a && false) ≡ false
and_false true = refl
and_false false = refl

permits_steps : (o : Object) (t : ℕ) (op : Operation) (r : Reply) (n : Object) → Permits o t op r n → n ≡ stepped o t op r
permits_steps o t op r n p = determined 0 o t op r n (subst (λ (b : Bool). MatchBool b ((r ≡ XHELD) × (n ≡ o)) (Permits o t op r n)) (sym (and_false (acquires op))) p)

-- ---- changes

-- n threads made these, and none of them but t
pub none_others : (n t : ℕ) (zs : List Change) → AreBy n zs → ((u : ℕ) → 1 ≤ u → u ≤ n → u ≢ t → made_by u zs ≡ []) → made_by_others t zs ≡ []
none_others n t [] are none = refl
none_others n t (x ∷ zs) are none = ap (λ (b : Bool). if not b then x ∷ made_by_others t zs else made_by_others t zs) (eq-eqb x.thread t mine) ∙ none_others n t zs are.1 (later t x zs none) where
  first : made_by x.thread (x ∷ zs) ≡ x ∷ made_by x.thread zs
  first = ap (λ (b : Bool). if b then x ∷ made_by x.thread zs else made_by x.thread zs) (eq-eqb x.thread x.thread refl)

  mine : x.thread ≡ t
  mine = dite (ℕ_discrete x.thread t) (λ e. e) (λ other. absurd (let e : x ∷ made_by x.thread zs ≡ [] = sym first ∙ none x.thread are.0.0 are.0.1 other in cc e))

  later : (t : ℕ) (x : Change) (zs : List Change) → ((u : ℕ) → 1 ≤ u → u ≤ n → u ≢ t → made_by u (x ∷ zs) ≡ []) → (u : ℕ) → 1 ≤ u → u ≤ n → u ≢ t → made_by u zs ≡ []
  later t x zs none u pos most other = go (x.thread == u) (none u pos most other) where
    go : (b : Bool) → (if b then x ∷ made_by u zs else made_by u zs) ≡ [] → made_by u zs ≡ []
    go true e = absurd (cc e)
    go false e = e

pub by_each : (n : ℕ) (ys zs : List Change) → AreBy n (ys ++ zs) → AreBy n zs
by_each n [] zs are = are
by_each n (y ∷ ys) zs are = by_each n ys zs are.1

-- of the last changes of a word another thread made at most one: the first of all, which is the word as it was given
pub others_few : (n t : ℕ) (ys zs : List Change) → AreBehindFirst n (ys ++ zs) → ((u : ℕ) → 1 ≤ u → u ≤ n → u ≢ t → made_by u zs ≡ []) → length (made_by_others t zs) ≤ 1
others_few n t (y ∷ ys) zs are none = let no : length (made_by_others t zs) ≡ 0 = ap length (none_others n t zs (by_each n ys zs are) none) in omega (arith, no)
others_few n t [] [] are none = omega arith
others_few n t [] (x ∷ zs) are none = go (x.thread == t) (none_others n t zs are (λ u pos most other. passes u (x.thread == u) (none u pos most other))) where
  passes : (u : ℕ) (b : Bool) → (if b then x ∷ made_by u zs else made_by u zs) ≡ [] → made_by u zs ≡ []
  passes u true e = absurd (cc e)
  passes u false e = e

  go : (b : Bool) → made_by_others t zs ≡ [] → length (if not b then x ∷ made_by_others t zs else made_by_others t zs) ≤ 1
  go true e = let no : length (made_by_others t zs) ≡ 0 = ap length e in omega (arith, no)
  go false e = let no : length (x ∷ made_by_others t zs) ≡ 1 = ap (λ (l : List Change). length (x ∷ l)) e in omega (arith, no)

others_sum : (t : ℕ) (xs ys : List Change) → length (made_by_others t (xs ++ ys)) ≡ length (made_by_others t xs) + length (made_by_others t ys)
others_sum t xs ys = ap length (filter-append (λ (x : Change). not (x.thread == t)) xs ys) ∙ length-append (made_by_others t xs) (made_by_others t ys)

-- a card of the same threads, which knows on
abbrev pub Onwards : Card → Card → Type 0
Onwards a b = (b.threads ≡ a.threads) × KnowsOn a b

pub onwards_self : (a : Card) → Onwards a a
onwards_self a = (refl, knows_on_self a)

pub onwards_then : (a b c : Card) → Onwards a b → Onwards b c → Onwards a c
onwards_then a b c one two = (two.0 ∙ one.0, knows_on_then a b c one.0 one.1 two.1)

took_knows : (b : Bool) (a d : Card) (place : ℕ) (op : Operation) (r : Reply) → MatchBool b ((r ≡ XHELD) × (d ≡ a)) (Called a place ((op, r) ∷ []) d) → Onwards a d
took_knows true a d place op r told = subst (Onwards a) (sym told.1) (onwards_self a)
took_knows false a d place op r told = (told.saw.threads, told.saw.knows)

-- what a call leaves known
replied_knows : (k : Layout') (a : Card) (call : Op) (r : Reply) (b : Card) → Replied k a call r b → Onwards a b
replied_knows k a (OnMutex (Lock m)) r b told = took_knows (nat_le 2048 (held a)) a b (cell_place k m) operation.Lock r told
replied_knows k a (OnMutex (TimedLock m)) r b told = took_knows (nat_le 2048 (held a)) a b (cell_place k m) operation.Lock r told
replied_knows k a (OnMutex (TryLock m)) r b told = took_knows (nat_le 2048 (held a)) a b (cell_place k m) operation.TryLock r told.0
replied_knows k a (OnMutex (Unlock m)) r b told = (told.saw.threads, told.saw.knows)
replied_knows k a (OnMutex (Consistent m)) r b told = (told.saw.threads, told.saw.knows)
replied_knows k a (OnCondition (Signal q)) r b told = (told.called.saw.threads, told.called.saw.knows)
replied_knows k a (OnCondition (Broadcast q)) r b told = (told.called.saw.threads, told.called.saw.knows)
replied_knows k a (OnCondition (Wait q)) r b told = ⊎_elim (λ (refused : CondEnded k q operation.Wait r a b). (refused.called.saw.threads, refused.called.saw.knows)) (λ (took : TookAgain k a q r b). (took.called.saw.threads, took.called.saw.knows)) told
replied_knows k a (OnCondition (TimedWait q y)) r b told = ⊎_elim (λ (refused : CondEnded k q operation.Wait r a b). (refused.called.saw.threads, refused.called.saw.knows)) (λ (took : TookAgain k a q r b). (took.called.saw.threads, took.called.saw.knows)) told

pub answered_knows : (k : Layout') (a : Card) (cs : List Op) (rs : List Reply) (b : Card) → Answered k a cs rs b → Onwards a b
answered_knows k a [] [] b same = subst (Onwards a) same (onwards_self a)
answered_knows k a [] (r ∷ rs) b answered = absurd answered
answered_knows k a (c ∷ cs) [] b answered = absurd answered
answered_knows k a (c ∷ cs) (r ∷ rs) b answered = onwards_then a answered.0 b (replied_knows k a c r answered.0 answered.1) (answered_knows k answered.0 cs rs b answered.2)

-- calls on mutexes and condition variables that there are
abbrev pub IsThere : Layout' → Op → Type 0
IsThere k c = (mutex_of k c < k.mutexes) × ((q : ℕ) → condition_of c ≡ Some q → q < length k.conditions)

abbrev pub Within : Layout' → List Op → Type 0
Within k [] = Unit {0}
Within k (c ∷ cs) = IsThere k c × Within k cs

-- ---- a thread alone

module _ (k : Layout') (t : ℕ) (seen' : List (List Point)) (changes' : List (List Change)) (whole : (m : ℕ) → m < k.mutexes → (o : Object) × Run fresh (at seen' (cell_place k m)) o) where
  -- what all know at the end goes on from what the card's thread has seen of each mutex, and knows of each word's changes
  abbrev pub Tails : Card → Type 0
  Tails c = ((m : ℕ) → m < k.mutexes → (xs : List Point) × (at seen' (cell_place k m) ≡ at c.seen (cell_place k m) ++ xs)) × ((p : ℕ) → (zs : List Change) × (changes_at changes' p ≡ changes_at c.changes p ++ zs))

  -- thread t has this card, and has seen that the mutexes are so; up to the end there are only its own points, and
  -- except for a word as it was given only its own changes
  pub record Stands (c : Card) (os : ℕ → Object) : Type 0 where
    pub thread : c.thread ≡ t
    pub is : (m : ℕ) → m < k.mutexes → Run fresh (at c.seen (cell_place k m)) (os m)
    pub quiet : (p : ℕ) → ((m : ℕ) → m < k.mutexes → p ≢ cell_place k m) → by t (at c.seen p) ≡ []
    pub tails : Tails c
    pub alone : (m : ℕ) (low : m < k.mutexes) → OnlyBy t (tails.0 m low).0
    pub lonely : (p : ℕ) → length (made_by_others t (tails.1 p).0) ≤ 1

  stands_same : (c : Card) (os os' : ℕ → Object) → Stands c os → ((m : ℕ) → os' m ≡ os m) → Stands c os'
  stands_same c os os' s same = record { thread = s.thread; is = λ m low. subst (Run fresh (at c.seen (cell_place k m))) (sym (same m)) (s.is m low); quiet = s.quiet; tails = s.tails; alone = s.alone; lonely = s.lonely }

  -- it holds the mutexes that it owns
  held_is : (c : Card) (os : ℕ → Object) → Stands c os → held c ≡ held_by t os k.mutexes
  held_is c os s = ap (λ (u : ℕ). count_held u c.seen) s.thread ∙ counts_owned k t os k.mutexes c.seen (λ p none. ap (held_after false) (s.quiet p none)) (λ m low. owner_held t fresh (at c.seen (cell_place k m)) (os m) (s.is m low))

  -- what it saw since is what it made itself
  only_own : (c e : Card) (os : ℕ → Object) (m : ℕ) (ps : List Point) → m < k.mutexes → Stands c os → Tails e → Grew c (cell_place k m) e → by t (at e.seen (cell_place k m)) ≡ by t (at c.seen (cell_place k m)) ++ ps → at e.seen (cell_place k m) ≡ at c.seen (cell_place k m) ++ ps
  only_own c e os m ps low s tails grew own =
      let p : ℕ = cell_place k m in
      let since : List Point = grew.0 in
      let rest : List Point = (tails.0 m low).0 in
      let all : (s.tails.0 m low).0 ≡ since ++ rest = same_rest (at c.seen p) (s.tails.0 m low).0 (since ++ rest) (sym (s.tails.0 m low).1 ∙ (tails.0 m low).1 ∙ ap (λ (l : List Point). l ++ rest) grew.1 ∙ append_assoc (at c.seen p) since rest) in
      let only : OnlyBy t since = only_front t since rest (subst (OnlyBy t) all (s.alone m low)) in
      let mine : by t since ≡ ps = same_rest (by t (at c.seen p)) (by t since) ps (sym (by_append t (at c.seen p) since) ∙ ap (by t) (sym grew.1) ∙ own) in
      grew.1 ∙ ap (λ (l : List Point). at c.seen p ++ l) (sym (by_only t since only) ∙ mine)

  still_alone : (c e : Card) (os : ℕ → Object) (m : ℕ) (low : m < k.mutexes) → Stands c os → (tails : Tails e) → Grew c (cell_place k m) e → OnlyBy t (tails.0 m low).0
  still_alone c e os m low s tails grew =
      let p : ℕ = cell_place k m in
      let since : List Point = grew.0 in
      let rest : List Point = (tails.0 m low).0 in
      let all : (s.tails.0 m low).0 ≡ since ++ rest = same_rest (at c.seen p) (s.tails.0 m low).0 (since ++ rest) (sym (s.tails.0 m low).1 ∙ (tails.0 m low).1 ∙ ap (λ (l : List Point). l ++ rest) grew.1 ∙ append_assoc (at c.seen p) since rest) in
      only_rest t since rest (subst (OnlyBy t) all (s.alone m low))

  known_before : (c d : Card) → KnowsOn c d → Tails d → (p : ℕ) → (zs : List Change) × (changes_at changes' p ≡ changes_at c.changes p ++ zs)
  known_before c d on tails p = ((on p).0 ++ (tails.1 p).0, (tails.1 p).1 ∙ ap (λ (l : List Change). l ++ (tails.1 p).0) (sym (on p).1) ∙ append_assoc (changes_at c.changes p) (on p).0 (tails.1 p).0)

  changes_left : (c e : Card) (os : ℕ → Object) (p : ℕ) (since : List Change) → (s : Stands c os) → (tails : Tails e) → changes_at e.changes p ≡ changes_at c.changes p ++ since → (s.tails.1 p).0 ≡ since ++ (tails.1 p).0
  changes_left c e os p since s tails grows =
      let mine : List Change = changes_at c.changes p in
      let rest : List Change = (tails.1 p).0 in
      same_rest mine (s.tails.1 p).0 (since ++ rest) (sym (s.tails.1 p).1 ∙ (tails.1 p).1 ∙ ap (λ (l : List Change). l ++ rest) grows ∙ append_assoc mine since rest)

  still_lonely : (c e : Card) (os : ℕ → Object) (p : ℕ) → Stands c os → (tails : Tails e) → KnowsOn c e → length (made_by_others t (tails.1 p).0) ≤ 1
  still_lonely c e os p s tails on =
      let all = ap (λ (l : List Change). length (made_by_others t l)) (changes_left c e os p (on p).0 s tails (sym (on p).1)) in
      let sum = others_sum t (on p).0 (tails.1 p).0 in
      let few = s.lonely p in
      omega (arith, all, sum, few)

  -- so no trylock is raced
  never_raced : (c e : Card) (os : ℕ → Object) (p : ℕ) → Stands c os → Tails e → OthersChanged 4 c p e → ⊥
  never_raced c e os p s tails raced =
      let all = ap (λ (l : List Change). length (made_by_others t l)) (changes_left c e os p raced.since s tails raced.grows) in
      let sum = others_sum t raced.since (tails.1 p).0 in
      let few = s.lonely p in
      let many : 4 ≤ length (made_by_others t raced.since) = subst (λ (u : ℕ). 4 ≤ length (made_by_others u raced.since)) s.thread raced.others in
      absurd (omega (arith, all, sum, few, many))

  -- the mutex after a beginning of what all see at the end
  run_there : (e : Card) (m : ℕ) → m < k.mutexes → Tails e → (o : Object) × Run fresh (at e.seen (cell_place k m)) o
  run_there e m low tails =
      let all = subst (λ (l : List Point). Run fresh l (whole m low).0) (tails.0 m low).1 (whole m low).1 in
      let part = run_split fresh (whole m low).0 (at e.seen (cell_place k m)) (tails.0 m low).0 all in
      (part.0, part.1)

  -- its own points lead there
  runs_on : (c e : Card) (os : ℕ → Object) (m : ℕ) (ps : List Point) → m < k.mutexes → Stands c os → Tails e → at e.seen (cell_place k m) ≡ at c.seen (cell_place k m) ++ ps → (o : Object) × Run (os m) ps o × Run fresh (at e.seen (cell_place k m)) o
  runs_on c e os m ps low s tails grows =
      let p : ℕ = cell_place k m in
      let there = run_there e m low tails in
      let part = run_split fresh there.0 (at c.seen p) ps (subst (λ (l : List Point). Run fresh l there.0) grows there.1) in
      (there.0, subst (λ (o : Object). Run o ps there.0) (run_same fresh part.0 (os m) (at c.seen p) part.1 (s.is m low)) part.2, there.1)

  -- a call on mutex m, after which the mutexes are os'
  stands_on : (c e : Card) (os os' : ℕ → Object) (m : ℕ) (acts : List Act) → Stands c os → Saw c (cell_place k m) acts e → Tails e → Run fresh (at e.seen (cell_place k m)) (os' m) → ((l : ℕ) → l ≢ m → os' l ≡ os l) → m < k.mutexes → Stands e os'
  stands_on c e os os' m acts s saw tails run others low = record {
    thread = saw.thread ∙ s.thread;
    is = λ l lower. dite (ℕ_discrete l m)
        (λ here. subst (λ (z : ℕ). Run fresh (at e.seen (cell_place k z)) (os' z)) (sym here) run)
        (λ other. subst (λ (z : Object × List Point). Run fresh z.1 z.0) (λ i. (sym (others l other) i, sym (saw.elsewhere (cell_place k l) (λ e. other (omega (arith, e)))) i)) (s.is l lower));
    quiet = λ p none. ap (by t) (saw.elsewhere p (none m low)) ∙ s.quiet p none;
    tails = tails;
    alone = λ l lower. still_alone c e os l lower s tails (saw_grew c e (cell_place k m) (cell_place k l) acts saw);
    lonely = λ p. still_lonely c e os p s tails saw.knows;
  }

  own_points : (c e : Card) (os : ℕ → Object) (m : ℕ) (acts : List Act) → m < k.mutexes → Stands c os → Saw c (cell_place k m) acts e → Tails e → at e.seen (cell_place k m) ≡ at c.seen (cell_place k m) ++ points_of t (cell_place k m) acts
  own_points c e os m acts low s saw tails =
      let p : ℕ = cell_place k m in
      only_own c e os m (points_of t p acts) low s tails (saw_grew c e p p acts saw) (subst (λ (u : ℕ). by u (at e.seen p) ≡ by u (at c.seen p) ++ points_of u p acts) s.thread saw.own)

  here_is : (os : ℕ → Object) (m l : ℕ) (o : Object) → l ≡ m → (if l == m then o else os l) ≡ o
  here_is os m l o e = ap (λ (b : Bool). if b then o else os l) (eq-eqb l m e)

  there_is : (os : ℕ → Object) (m l : ℕ) (o : Object) → l ≢ m → (if l == m then o else os l) ≡ os l
  there_is os m l o e = ap (λ (b : Bool). if b then o else os l) (ne_eqb l m e)

  -- ---- a call of one point

  abbrev With : Card → (ℕ → Object) → ℕ → ℕ → Operation → Reply → Type 0
  With e os v m op r = IsAnswer (held_by t os k.mutexes) t v op (os m) r × Stands e (λ l. if l == m then stepped (os l) t op r else os l)

  one_point : (c e : Card) (os : ℕ → Object) (v m : ℕ) (op : Operation) (r : Reply) → m < k.mutexes → (acquires op ≡ true → nat_le held_limit (held_by t os k.mutexes) ≡ false) → op ≢ operation.Death → (op ≡ operation.TryLock → r ≢ XRACED) → IsByCounter v op r → Stands c os → Called c (cell_place k m) ((op, r) ∷ []) e → Tails e → With e os v m op r
  one_point c e os v m op r low few alive won by s called tails =
      let p : ℕ = cell_place k m in
      let grows = own_points c e os m ((op, r) ∷ []) low s called.saw tails in
      let on = runs_on c e os m (points_of t p ((op, r) ∷ [])) low s tails grows in
      let step : Permits (os m) t op r on.1.0 = on.1.1 in
      let becomes : on.0 ≡ stepped (os m) t op r = on.1.2 ∙ permits_steps (os m) t op r on.1.0 step in
      let os' : ℕ → Object = λ l. if l == m then stepped (os l) t op r else os l in (
        permits_answer (held_by t os k.mutexes) t v (os m) on.1.0 op r few (sound (at c.seen p) (os m) (s.is m low)) alive won by step,
        stands_on c e os os' m ((op, r) ∷ []) s called.saw tails (subst (Run fresh (at e.seen p)) (becomes ∙ sym (here_is os m m (stepped (os m) t op r) refl)) on.2) (λ l other. there_is os m l (stepped (os l) t op r) other) low,
      )

  -- a lock or a trylock
  takes_one : (c e : Card) (os : ℕ → Object) (v m : ℕ) (op : Operation) (r : Reply) → m < k.mutexes → op ≢ operation.Death → (op ≡ operation.TryLock → r ≢ XRACED) → IsByCounter v op r → Stands c os
      → MatchBool (nat_le held_limit (held c)) ((r ≡ XHELD) × (e ≡ c)) (Called c (cell_place k m) ((op, r) ∷ []) e) → Tails e
      → (nat_le held_limit (held_by t os k.mutexes) ≡ true → (answer (held_by t os k.mutexes) t v op (os m) ≡ Some XHELD) × ((o : Object) → stepped o t op XHELD ≡ o)) → With e os v m op r
  takes_one c e os v m op r low alive won by s took tails full = go (nat_le held_limit (held c)) (ap (nat_le held_limit) (sym (held_is c os s))) took where
    kept : (b : Bool) (o : Object) → stepped o t op XHELD ≡ o → (if b then stepped o t op XHELD else o) ≡ o
    kept true o e = e
    kept false o e = refl

    go : (b : Bool) → nat_le held_limit (held_by t os k.mutexes) ≡ b → MatchBool b ((r ≡ XHELD) × (e ≡ c)) (Called c (cell_place k m) ((op, r) ∷ []) e) → With e os v m op r
    go true is refused =
        let told = full is in
        subst (λ (z : Reply). With e os v m op z) (sym refused.0)
        (told.0, subst (λ (z : Card). Stands z (λ l. if l == m then stepped (os l) t op XHELD else os l)) (sym refused.1) (stands_same c os (λ l. if l == m then stepped (os l) t op XHELD else os l) s (λ l. kept (l == m) (os l) (told.1 (os l)))))
    go false is called = one_point c e os v m op r low (λ acquires. is) alive won by s called tails

  -- ---- a wait

  -- one that released its mutex and took it again
  took_again : (c e : Card) (os : ℕ → Object) (v q m : ℕ) (r : Reply) → cell_at k q ≡ cell_place k m → m < k.mutexes → Stands c os → TookAgain k c q r e → Tails e → With e os v m operation.Wait r
  took_again c e os v q m r at_m low s took tails =
      let p : ℕ = cell_place k m in
      let acts : List Act = (operation.Unlock, OK) ∷ (operation.Lock, r) ∷ [] in
      let called : Called c p acts e = subst (λ (z : ℕ). Called c z acts e) at_m took.called in
      let released : Called c p ((operation.Unlock, OK) ∷ []) took.awake = subst (λ (z : ℕ). Called c z ((operation.Unlock, OK) ∷ []) took.awake) at_m took.released in
      let later : Called took.awake p ((operation.Lock, r) ∷ []) e = subst (λ (z : ℕ). Called took.awake z ((operation.Lock, r) ∷ []) e) at_m took.took in
      let tails' : Tails took.awake = (λ l lower. ahead took.awake e l lower tails (saw_grew took.awake e p (cell_place k l) ((operation.Lock, r) ∷ []) later.saw), known_before took.awake e later.saw.knows tails) in
      let grows = own_points c e os m acts low s called.saw tails in
      let on = runs_on c e os m (points_of t p acts) low s tails grows in
      let mid : Object = on.1.0 in
      let first = own_points c took.awake os m ((operation.Unlock, OK) ∷ []) low s released.saw tails' in
      let there = runs_on c took.awake os m (points_of t p ((operation.Unlock, OK) ∷ [])) low s tails' first in
      let same : there.0 ≡ mid = there.1.2 ∙ permits_steps (os m) t operation.Unlock OK there.1.0 there.1.1 ∙ sym (permits_steps (os m) t operation.Unlock OK mid on.1.1) in
      let fine : mid.unusable ≡ false = sym (ap (λ (o : Object). o.unusable) same) ∙ took.usable there.0 (subst (λ (z : ℕ). Run fresh (at took.awake.seen z) there.0) (sym at_m) there.2) in
      let answered = waited_answer (held_by t os k.mutexes) t v (os m) mid on.1.2.0 r on.1.1 fine on.1.2.1 in
      let becomes : on.0 ≡ os m = on.1.2.2 ∙ answered.1 in
      let keeps : stepped (os m) t operation.Wait r ≡ os m = stays (os m) r in
      let os' : ℕ → Object = λ l. if l == m then stepped (os l) t operation.Wait r else os l in (
        answered.0,
        stands_on c e os os' m acts s called.saw tails (subst (Run fresh (at e.seen p)) (becomes ∙ sym keeps ∙ sym (here_is os m m (stepped (os m) t operation.Wait r) refl)) on.2) (λ l other. there_is os m l (stepped (os l) t operation.Wait r) other) low,
      )
    where
      ahead : (d e : Card) (l : ℕ) → l < k.mutexes → Tails e → Grew d (cell_place k l) e → (xs : List Point) × (at seen' (cell_place k l) ≡ at d.seen (cell_place k l) ++ xs)
      ahead d e l lower tails grew = (grew.0 ++ (tails.0 l lower).0, (tails.0 l lower).1 ∙ ap (λ (x : List Point). x ++ (tails.0 l lower).0) grew.1 ∙ append_assoc (at d.seen (cell_place k l)) grew.0 (tails.0 l lower).0)

      stays : (o : Object) (x : Reply) → stepped o t operation.Wait x ≡ o
      stays o x = refl

  -- ---- any call

  replied_alone : (c e : Card) (os : ℕ → Object) (vs : ℕ → ℕ) (call : Op) (r : Reply) → mutex_of k call < k.mutexes → IsByCounter (counter_of vs (condition_of call)) (acts_as call) r → Stands c os → Replied k c call r e → Tails e → (answer_to k t os vs call ≡ Some r) × Stands e (behind k t os call r)
  replied_alone c e os vs (OnMutex (Lock m)) r low by s told tails = takes_one c e os 0 m operation.Lock r low (λ same. cc same) (λ same. absurd (cc same)) by s told tails (λ is. (full_taking t _ (os m).unusable (os m).owner (os m).inconsistent _ _ is, λ o. refl))
  replied_alone c e os vs (OnMutex (TimedLock m)) r low by s told tails = takes_one c e os 0 m operation.Lock r low (λ same. cc same) (λ same. absurd (cc same)) by s told tails (λ is. (full_taking t _ (os m).unusable (os m).owner (os m).inconsistent _ _ is, λ o. refl))
  replied_alone c e os vs (OnMutex (TryLock m)) r low by s told tails = takes_one c e os 0 m operation.TryLock r low (λ same. cc same) (λ same raced. never_raced c e os (cell_place k m) s tails (told.1 raced).1) by s told.0 tails (λ is. (full_taking t _ (os m).unusable (os m).owner (os m).inconsistent _ _ is, λ o. refl))
  replied_alone c e os vs (OnMutex (Unlock m)) r low by s told tails = one_point c e os 0 m operation.Unlock r low (λ same. absurd (cc same)) (λ same. cc same) (λ same. absurd (cc same)) by s told tails
  replied_alone c e os vs (OnMutex (Consistent m)) r low by s told tails = one_point c e os 0 m operation.Consistent r low (λ same. absurd (cc same)) (λ same. cc same) (λ same. absurd (cc same)) by s told tails
  replied_alone c e os vs (OnCondition (Signal q)) r low by s told tails = one_point c e os (vs q) (mutex_of k (OnCondition (Signal q))) operation.Signal r low (λ same. absurd (cc same)) (λ same. cc same) (λ same. absurd (cc same)) by s told.called tails
  replied_alone c e os vs (OnCondition (Broadcast q)) r low by s told tails = one_point c e os (vs q) (mutex_of k (OnCondition (Broadcast q))) operation.Broadcast r low (λ same. absurd (cc same)) (λ same. cc same) (λ same. absurd (cc same)) by s told.called tails
  replied_alone c e os vs (OnCondition (Wait q)) r low by s told tails = ⊎_elim
      (λ (refused : CondEnded k q operation.Wait r c e). one_point c e os (vs q) (mutex_of k (OnCondition (Wait q))) operation.Wait r low (λ same. absurd (cc same)) (λ same. cc same) (λ same. absurd (cc same)) by s refused.called tails)
      (λ (took : TookAgain k c q r e). took_again c e os (vs q) q (mutex_of k (OnCondition (Wait q))) r refl low s took tails)
      told
  replied_alone c e os vs (OnCondition (TimedWait q y)) r low by s told tails = ⊎_elim
      (λ (refused : CondEnded k q operation.Wait r c e). one_point c e os (vs q) (mutex_of k (OnCondition (TimedWait q y))) operation.Wait r low (λ same. absurd (cc same)) (λ same. cc same) (λ same. absurd (cc same)) by s refused.called tails)
      (λ (took : TookAgain k c q r e). took_again c e os (vs q) q (mutex_of k (OnCondition (TimedWait q y))) r refl low s took tails)
      told

  -- ---- all of its calls

  before : (c d : Card) → Tails d → ((p : ℕ) → Grew c p d) → KnowsOn c d → Tails c
  before c d tails grew on = (
    λ m low.
        let p : ℕ = cell_place k m in
        let g = grew p in
        (g.0 ++ (tails.0 m low).0, (tails.0 m low).1 ∙ ap (λ (l : List Point). l ++ (tails.0 m low).0) g.1 ∙ append_assoc (at c.seen p) g.0 (tails.0 m low).0),
    known_before c d on tails,
  )

  pub answered_alone : (c d : Card) (os : ℕ → Object) (vs : ℕ → ℕ) (cs : List Op) (rs : List Reply) → Within k cs → Stands c os → Tallies k t changes' c vs → Answered k c cs rs d → Tails d → (os' : ℕ → Object) × (vs' : ℕ → ℕ) × AreAnswered k t os vs cs rs os' vs' × Stands d os' × Tallies k t changes' d vs'
  answered_alone c d os vs [] [] within s counts same tails = (os, vs, (refl, refl), subst (λ (z : Card). Stands z os) same s, subst (λ (z : Card). Tallies k t changes' z vs) same counts)
  answered_alone c d os vs [] (r ∷ rs) within s counts answered tails = absurd answered
  answered_alone c d os vs (x ∷ cs) [] within s counts answered tails = absurd answered
  answered_alone c d os vs (x ∷ cs) (r ∷ rs) within s counts answered tails =
      let e : Card = answered.0 in
      let tails' : Tails e = before e d tails (λ p. answered_grew k p e cs rs d answered.2) (answered_knows k e cs rs d answered.2).1 in
      let counted = replied_tallies k t changes' c e vs x r s.thread within.0.0 within.0.1 counts answered.1 tails'.1 in
      let first = replied_alone c e os vs x r within.0.0 counted.0 s answered.1 tails' in
      let rest = answered_alone e d (behind k t os x r) (counters_behind vs x r) cs rs within.1 first.1 counted.1 answered.2 tails in
      (rest.0, rest.1, (first.0, rest.2), rest.3, rest.4)

  -- ---- its death

  -- in a lock or a trylock it wasn't refused
  never_refused : (c dead : Card) (os : ℕ → Object) (call : Op) → Stands c os → DiesIn k c call dead → acquires (acts_as call) ≡ true → nat_le held_limit (held_by t os k.mutexes) ≡ false
  never_refused c dead os (OnMutex (Lock m)) s dies takes = ap (nat_le held_limit) (sym (held_is c os s)) ∙ dies.0
  never_refused c dead os (OnMutex (TimedLock m)) s dies takes = ap (nat_le held_limit) (sym (held_is c os s)) ∙ dies.0
  never_refused c dead os (OnMutex (TryLock m)) s dies takes = ap (nat_le held_limit) (sym (held_is c os s)) ∙ dies.0
  never_refused c dead os (OnMutex (Unlock m)) s dies takes = absurd (cc takes)
  never_refused c dead os (OnMutex (Consistent m)) s dies takes = absurd (cc takes)
  never_refused c dead os (OnCondition (Wait q)) s dies takes = absurd (cc takes)
  never_refused c dead os (OnCondition (TimedWait q y)) s dies takes = absurd (cc takes)
  never_refused c dead os (OnCondition (Signal q)) s dies takes = absurd (cc takes)
  never_refused c dead os (OnCondition (Broadcast q)) s dies takes = absurd (cc takes)

  -- the mutexes as its death leaves them, and who has seen that
  pub record LeftBehind (os os' : ℕ → Object) (call : Op) (d : Card) (n : List Act) : Type 0 where
    pub few : acquires (acts_as call) ≡ true → nat_le held_limit (held_by t os k.mutexes) ≡ false
    pub acts : List Act
    pub counts : acts ≡ n
    pub begun : Beginning (acts_as call) acts
    pub left : Object
    pub decided : Run (os (mutex_of k call)) (points_of t (cell_place k (mutex_of k call)) acts) left
    pub after : os' ≡ (λ m. bereft t (if m == mutex_of k call then left else os m))
    pub thread : d.thread ≡ t
    pub is : (m : ℕ) → m < k.mutexes → Run fresh (at d.seen (cell_place k m)) (os' m)

  pub died_alone : (c d : Card) (os : ℕ → Object) (call : Op) → mutex_of k call < k.mutexes → Stands c os → (was : WasLost k c call d) → Tails d → (os' : ℕ → Object) × LeftBehind os os' call d (acts_in k t changes' c call was.dead was.died)
  died_alone c d os call low s was tails = (after, record { few = never_refused c was.dead os call s was.died; acts = died.acts; counts = refl; begun = died.beginning; left = on.0; decided = on.1; after = refl; thread = was.reaped.thread ∙ still.thread; is = λ l lower. told l lower (owns_in k was.dead l) refl }) where
    m : ℕ
    m = mutex_of k call

    died : Died c (cell_place k (mutex_of k call)) (acts_as call) was.dead
    died = died_of k c call was.dead was.died

    tails' : Tails was.dead
    tails' = (
      λ l lower.
          let p : ℕ = cell_place k l in
          let g = reaped_grew k l was.dead d lower was.reaped in
          (g.0 ++ (tails.0 l lower).0, (tails.0 l lower).1 ∙ ap (λ (x : List Point). x ++ (tails.0 l lower).0) g.1 ∙ append_assoc (at was.dead.seen p) g.0 (tails.0 l lower).0),
      known_before was.dead d was.reaped.changes tails,
    )

    on : (o : Object) × Run (os m) (points_of t (cell_place k m) died.acts) o × Run fresh (at was.dead.seen (cell_place k m)) o
    on = runs_on c was.dead os m (points_of t (cell_place k m) died.acts) low s tails' (own_points c was.dead os m died.acts low s died.saw tails')

    mid : ℕ → Object
    mid l = if l == m then on.0 else os l

    after : ℕ → Object
    after l = bereft t (mid l)

    still : Stands was.dead mid
    still = stands_on c was.dead os mid m died.acts s died.saw tails' (subst (Run fresh (at was.dead.seen (cell_place k m))) (sym (here_is os m m on.0 refl)) on.2) (λ l other. there_is os m l on.0 other) low

    owner_is : (l : ℕ) → l < k.mutexes → is_thread t (mid l).owner ≡ owns_in k was.dead l
    owner_is l lower = sym (owner_held t fresh (at was.dead.seen (cell_place k l)) (mid l) (still.is l lower)) ∙ ap (λ (u : ℕ). holds u (at was.dead.seen (cell_place k l))) (sym still.thread)

    told : (l : ℕ) (lower : l < k.mutexes) (b : Bool) → owns_in k was.dead l ≡ b → Run fresh (at d.seen (cell_place k l)) (after l)
    told l lower true owns =
        let p : ℕ = cell_place k l in
        let saw = (was.reaped.told l lower owns).saw in
        let own : by t (at d.seen p) ≡ by t (at was.dead.seen p) ++ deaths t p true = subst (λ (u : ℕ). by u (at d.seen p) ≡ by u (at was.dead.seen p) ++ deaths u p true) still.thread saw.own in
        let grows = only_own was.dead d mid l (deaths t p true) lower still tails (saw.since, saw.grows) own in
        let run = runs_on was.dead d mid l (deaths t p true) lower still tails grows in
        let becomes : run.0 ≡ bereaved (mid l) = run.1.2 ∙ permits_steps (mid l) t operation.Death OK run.1.0 run.1.1 in
        let is : bereft t (mid l) ≡ bereaved (mid l) = ap (λ (b : Bool). if b then bereaved (mid l) else mid l) (owner_is l lower ∙ owns) in
        subst (Run fresh (at d.seen p)) (becomes ∙ sym is) run.2
    told l lower false owns =
        let p : ℕ = cell_place k l in
        let is : bereft t (mid l) ≡ mid l = ap (λ (b : Bool). if b then bereaved (mid l) else mid l) (owner_is l lower ∙ owns) in
        subst (λ (z : List Point × Object). Run fresh z.0 z.1) (λ i. (sym (was.reaped.stays l lower owns) i, sym is i)) (still.is l lower)
