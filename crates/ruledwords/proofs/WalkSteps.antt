-- A dead thread's walk, access by access, on what its pass knows.
use Rattle.std.proofs.Common.{Bool, true, false, ◌≡◌, ◌≢◌, ◌⊎◌, inl, inr, ⊎_elim, ℕ, zero, suc, ◌^◌, ◌<◌, ◌≤◌, ◌==◌, Option, Some, None, List, [], ◌++◌, refl, sym, ap, ◌∙◌, subst, arith, append-nil, append_assoc, eq-eqb}
use Rattle.std.specs.Prelude.{if◌then◌else◌, nat_lt}
use Rattle.std.proofs.lemmas.Bool.{eqb-false}
use mathlib.Core.Logic.{dite}
use native.Mathlib.Decide.{ℕ_discrete}
use Rattle.lockword.specs.Cells.{fields_of}
use Rattle.lockword.specs.declared.reply.Reply.{Reply}
use Rattle.lockword.specs.declared.reply.Reply.TheVariants.{OK}
use Rattle.stepprograms.specs.declared.access.Answer.{Answer}
use Rattle.stepprograms.specs.declared.access.Answer.TheVariants.{Value, Exchanged, Changed, Count}
use Rattle.posixmutex.specs.declared.object.Object.{Object}
use Rattle.posixmutex.specs.declared.point.Operation.TheVariants.{Death}
use Rattle.posixmutex.specs.declared.point.Point.{Point}
use Rattle.stepprograms.specs.declared.program.Progress.{Progress}
use Rattle.stepprograms.specs.declared.program.Progress.TheVariants.{Goes, Returns}
use Rattle.stepprograms.specs.Accesses.{answer_at}
use Rattle.memorymap.specs.Chains.{address_sum}
use Rattle.memorymap.specs.Layouts.{Layout', cell_place, entry_place, place_in}
use Rattle.posixmutex.specs.Objects.{object_of, owner_of, Run}
use Rattle.exitwalk.specs.declared.row.Part.{Part}
use Rattle.exitwalk.specs.declared.row.Row.{Row}
use Rattle.exitwalk.specs.declared.row.Row.TheVariants.{LoadFirst, LoadOffset, LoadPending, LoadNext, LoadWord, Mark, WakeOne, Ended}
use Rattle.exitwalk.specs.Standings.{Standing}
use Rattle.exitwalk.specs.Walks.{access_of, after_mark, after_miss, goes_on, looks, marked_word, moved, point_of, progress_at, row_access, row_after, IsGoing, Knows}
use Rattle.exitwalk.proofs.Steps.{steps}
use Rattle.mutex.specs.WholeLists.{head_in, entry_in}
use Rattle.mutex.proofs.Addresses.{again}
use Rattle.ruledwords.specs.declared.pass.Card.{Card}
use Rattle.ruledwords.specs.Cards.{at, mark_at, value_at}
use Rattle.ruledwords.specs.Seen.{by, held, held_after, holds, Leaves, Sees}
use Rattle.ruledwords.specs.Calls.{count_after}
use Rattle.ruledwords.specs.Deaths.{deaths, left_by_mark, remembering, FoundAt, HasWalked, IsCount, IsLeftAt, IsNoCell, IsReaped, IsWalking, IsWake, Marks, MindsWaiters, SawThere, TellsDeath, WasSeen}
use Rattle.ruledwords.specs.Lists.{known, or_zero}
use Rattle.ruledwords.specs.Looks.{Finds}
use Rattle.ruledwords.specs.OwnWords.{owns_in, KnowsOwn}
use Rattle.ruledwords.specs.Passes.{IsCardOf}
use Rattle.ruledwords.specs.Walks.{LeftAt, LeftIn, IsTreated, OwnsNothing}
use Rattle.ruledwords.proofs.Cards.{still_card}
use Rattle.ruledwords.proofs.Held.{held_append, held_sees}
use Rattle.ruledwords.proofs.Keepers.{inside, other_cell}
use Rattle.ruledwords.proofs.Lists.{mark_put}
use Rattle.ruledwords.proofs.Marking.{runs}
use Rattle.ruledwords.proofs.Walking.{forward_arrives, goes_on_arrives, looks_arrives, next_arrives, part_same, part_then}
use Rattle.ruledwords.proofs.Changes.{knows_on_by, knows_on_self, knows_on_then, none_by, none_self, none_then}
use Rattle.ruledwords.proofs.WalkBeginnings.{found_own, found_owner, here, own_of, same_word, Own}

-- ---- one access

-- so far nothing is recorded
pub walked_nothing : (k : Layout') (c : Card) → HasWalked k c c
walked_nothing k c = record {
  thread = refl;
  threads = refl;
  base = refl;
  told = λ m below own. inl (own, record { since = []; grows = sym (append-nil _); own = sym (append-nil _) });
  stays = λ m below none. refl;
  changes = knows_on_self c;
  still = none_self (IsNoCell k) c;
}

-- what an access of a walk brought
pub record Went (k : Layout') (c d : Card) (s : Standing) (x : Answer) : Type 0 where
  pub thread : d.thread ≡ c.thread
  pub card : IsCardOf k d
  pub knows : KnowsOwn k d
  pub row : Knows s.thread s.head (row_after s.thread s.head s.row x)
  pub left : IsLeftAt k d (row_after s.thread s.head s.row x)
  pub walked : (first : Card) → HasWalked k first c → HasWalked k first d
  pub count : held d ≡ count_after (held c) (point_of s.thread s.row x)

module _ (k : Layout') (c : Card) (is : IsCardOf k c) (knows : KnowsOwn k c) where
  abbrev u : ℕ
  u = c.thread

  abbrev h : ℕ
  h = head_in k u

  abbrev Here : Row → Standing
  Here r = record { thread = u; head = h; row = r }

  abbrev At : Row → Type 0
  At r = LeftAt k u (owns_in k c) (known k c) (WasSeen c) r

  -- the card is as it was
  went_same : (r : Row) (x : Answer) → Knows u h r → At (row_after u h r x) → point_of u r x ≡ None → Went k c c (Here r) x
  went_same r x row left none = record { thread = refl; card = is; knows = knows; row = steps.knows u h r x row; left = left; walked = λ first was. was; count = ap (count_after (held c)) (sym none) }

  -- the place of a cell
  cell_again : (a m : ℕ) → IsTreated k u a m → place_in k u a ≡ cell_place k m
  cell_again a m treated = ap (place_in k u) treated.1 ∙ again k u is.layout is.first is.thread (cell_place k m) (inside k m treated.0)

  -- ---- at one of the thread's own words

  went_own : (r : Row) (d : Card) (n : ℕ) (x : Answer) → Knows u h r → At (row_after u h r x) → point_of u r x ≡ None → d ≡ c → Went k c d (Here r) x
  went_own r d n x row left none same = subst (λ (z : Card). Went k c z (Here r) x) (sym same) (went_same r x row left none)

  -- ---- a look at a cell

  went_look : (a m n : ℕ) (rest : Part) → Knows u h (LoadWord a rest) → IsTreated k u a m → LeftIn k u (owns_in k c) (known k c) rest (Some m) → Finds c (cell_place k m) n → MindsWaiters c (cell_place k m) n → Went k c (remembering c (cell_place k m) n) (Here (LoadWord a rest)) (Value n)
  went_look a m n rest row treated left finds minds = record {
    row = steps.knows u h (LoadWord a rest) (Value n) row;
    thread = refl;
    card = record { layout = is.layout; threads = is.threads; first = is.first; thread = is.thread; base = is.base; legal = is.legal };
    knows = record { each = knows.each; offset = knows.offset };
    left = looks_arrives k u is.layout is.first is.thread (owns_in k c) (known k c) (WasSeen (remembering c (cell_place k m) n)) a m n false rest treated left (found_owner k c is (cell_place k m) n finds)
        (λ mine. record { found = finds; remembered = λ on. mark_put c.marks (cell_place k m) (fields_of n).waiters ∙ on; again = λ e. absurd (cc e) });
    walked = λ first was. record { thread = was.thread; threads = was.threads; base = was.base; told = λ l below own. ⊎_elim (λ still. inl (still.0, record { since = still.1.since; grows = still.1.grows; own = still.1.own })) (λ told. inr (record { saw = record { since = told.saw.since; grows = told.saw.grows; own = told.saw.own }; last = told.last })) (was.told l below own); stays = was.stays; changes = was.changes; still = was.still };
    count = refl;
  }

  -- ---- the exchange that marks

  module _ (a m v n : ℕ) (tried : Bool) (rest : Part) (d : Card) (treated : IsTreated k u a m) (left : LeftIn k u (owns_in k c) (known k c) rest (Some m)) (seen : WasSeen c (cell_place k m) v tried) (row : Knows u h (Mark a v tried rest)) (marks : Marks k (cell_place k m) v c n d) where
    abbrev q : ℕ
    q = cell_place k m

    mine : (fields_of v).owner ≡ u
    mine = row.0

    same_thread : d.thread ≡ u
    same_thread = marks.sees.thread

    -- the thread owns the mutex
    owns_here : owns_in k c m ≡ true
    owns_here = found_owner k c is q v seen.found ∙ eq-eqb (fields_of v).owner u mine

    object : (o : Object) × Own k c is q o
    object = own_of k c is q owns_here

    -- what it holds then
    held_then : (b : Bool) → Sees c q (deaths u q b) (object_of (fields_of (if b then marked_word v else n))) d → owns_in k d m ≡ held_after (owns_in k c m) (deaths u q b)
    held_then b sees = ap (λ (t : ℕ). holds t (at d.seen q)) sees.thread ∙ ap (held_after false) sees.own ∙ held_append false (by u (at c.seen q)) (deaths u q b)

    elsewhere : (j : ℕ) → j ≢ m → owns_in k d j ≡ owns_in k c j
    elsewhere j other = ap (λ (t : ℕ). holds t (at d.seen (cell_place k j))) same_thread ∙ ap (holds u) (marks.sees.elsewhere (cell_place k j) (other_cell k m j other))

    -- the links that it owns still are as it knew them
    agree : (j : ℕ) → j < k.mutexes → owns_in k c j ≡ true → owns_in k d j ≡ true → known k d (entry_in k u j) ≡ known k c (entry_in k u j)
    agree j below own own' =
        let back : place_in k u (entry_in k u j) ≡ entry_place k j = again k u is.layout is.first is.thread (entry_place k j) (omega arith) in
        ap (λ (z : Option ℕ). if nat_lt (entry_in k u j) (2 ^ 64) then or_zero z else 0)
        (ap (value_at d.values) (ap (λ (t : ℕ). place_in k t (entry_in k u j)) same_thread ∙ back)
        ∙ marks.kept.agrees (entry_place k j) (inr (inr (j, below, inl refl, own))) (inr (inr (j, below, inl refl, own')))
        ∙ ap (value_at c.values) (sym back))

    abbrev AtThen : Row → Type 0
    AtThen r = LeftAt k u (owns_in k d) (known k d) (WasSeen d) r

    -- where the exchange failed, WAITERS has been set since, and it was not set before
    module _ (differs : n ≢ v) where
      same_object : object_of (fields_of v) ≡ object_of (fields_of n)
      same_object = found_own k c is q v seen.found object.0 object.1 ∙ sym (marks.stays object.0 object.1.0 object.1.1)

      mine_still : (fields_of n).owner ≡ u
      mine_still = owner_back (fields_of n).owner (sym (ap (λ (o : Object). o.owner) same_object) ∙ ap (λ (o : ℕ). owner_of o) mine)
        where
          owner_back : (a : ℕ) → owner_of a ≡ owner_of u → a ≡ u
          owner_back a e = let first = is.first in back a u first e
            where
              back : (a b : ℕ) → 1 ≤ b → owner_of a ≡ owner_of b → a ≡ b
              back zero zero pos e = refl
              back zero (suc b) pos e = absurd (cc e)
              back (suc a) zero pos e = absurd (omega arith)
              back (suc a) (suc b) pos e = cc e

      not_before : (b : Bool) → (fields_of v).waiters ≡ b → b ≡ false
      not_before true on =
          let now : (fields_of n).waiters ≡ true = marks.minds (seen.remembered on) mine_still in
          absurd (differs (sym (same_word v n same_object seen.found.3 marks.narrow (on ∙ sym now))))
      not_before false off = refl

      before : (fields_of v).waiters ≡ false
      before = not_before (fields_of v).waiters refl

      since : (b : Bool) → (fields_of n).waiters ≡ b → b ≡ true
      since true on = refl
      since false off = absurd (differs (sym (same_word v n same_object seen.found.3 marks.narrow (before ∙ sym off))))

      first_time : (b : Bool) → tried ≡ b → b ≡ false
      first_time true e = absurd (let on = seen.again e in let off = before in cc (on, off))
      first_time false e = refl

    -- ---- where it leads

    abbrev left_word : Bool → ℕ
    left_word b = if b then marked_word v else n

    abbrev answered : Bool → Answer
    answered b = if b then Exchanged else Changed n

    gone : (b : Bool) → b ≡ true → Sees c q (deaths u q b) (object_of (fields_of (left_word b))) d → owns_in k d m ≡ false
    gone true e sees = held_then true sees
    gone false e sees = absurd (cc e)

    kept_all : (b : Bool) → b ≡ false → Sees c q (deaths u q b) (object_of (fields_of (left_word b))) d → (j : ℕ) → owns_in k d j ≡ owns_in k c j
    kept_all true e sees j = absurd (cc e)
    kept_all false e sees j = dite (ℕ_discrete j m) (λ same. ap (owns_in k d) same ∙ held_then false sees ∙ ap (owns_in k c) (sym same)) (λ other. elsewhere j other)

    left_marked : owns_in k d m ≡ false → AtThen (after_mark h a v rest)
    left_marked none = go (fields_of v).waiters
      where
        then_left : LeftIn k u (owns_in k d) (known k d) rest None
        then_left = part_then k u (owns_in k c) (owns_in k d) (known k c) (known k d) m none elsewhere (λ j below other own. agree j below own (elsewhere j other ∙ own)) rest left

        go : (b : Bool) → AtThen (if b then WakeOne a rest else goes_on h rest)
        go true = (m, treated, then_left)
        go false = goes_on_arrives k u is.layout is.first is.thread (owns_in k d) (known k d) (WasSeen d) rest then_left

    left_missed : n ≢ v → ((j : ℕ) → owns_in k d j ≡ owns_in k c j) → Leaves c.threads q (at d.seen q) (object_of (fields_of n)) → mark_at d.marks q ≡ (fields_of n).waiters → AtThen (after_miss u h a tried rest n)
    left_missed differs same leaves remembers = subst (λ (b : Bool). AtThen (if b then goes_on h rest else looks u h a n true rest)) (sym (first_time differs tried refl))
        (looks_arrives k u is.layout is.first is.thread (owns_in k d) (known k d) (WasSeen d) a m n true rest treated
        (part_same k u (owns_in k c) (owns_in k d) (known k c) (known k d) same (λ j below own. agree j below own (same j ∙ own)) rest (Some m) left)
        (same m ∙ owns_here ∙ sym (eq-eqb (fields_of n).owner u (mine_still differs)))
        (λ mine. record {
          found = ([], subst (λ (z : ℕ × List Point). Leaves z.0 q z.1 (object_of (fields_of n))) (λ i. (sym marks.sees.threads i, sym (append-nil (at d.seen q)) i)) leaves, refl, marks.narrow);
          remembered = λ on. remembers ∙ on;
          again = λ e. since differs (fields_of n).waiters refl;
        }))

    left_then : (b : Bool) → (n == v) ≡ b → Sees c q (deaths u q b) (object_of (fields_of (left_word b))) d → mark_at d.marks q ≡ (fields_of (left_word b)).waiters → AtThen (row_after u h (Mark a v tried rest) (answered b))
    left_then true e sees remembers = left_marked (gone true refl sees)
    left_then false e sees remembers = left_missed (eqb-false n v e) (kept_all false refl sees) sees.leaves remembers

    -- ---- what is recorded

    told_here : (first : Card) → HasWalked k first c → (b : Bool) → Sees c q (deaths u q b) (object_of (fields_of (left_word b))) d → owns_in k first m ≡ true → ((owns_in k d m ≡ true) × SawThere first q [] d) ⊎ TellsDeath first q d
    told_here first was b sees own = ⊎_elim (λ still. go b sees still.1) (λ told. absurd (let died = dead told in cc (died, owns_here))) (was.told m treated.0 own)
      where
        dead : TellsDeath first q c → owns_in k c m ≡ false
        dead told = ap (λ (t : ℕ). holds t (at c.seen q)) was.thread ∙ ap (held_after false) told.saw.own ∙ held_append false (by first.thread (at first.seen q)) (deaths first.thread q true)

        saw : (b : Bool) → Sees c q (deaths u q b) (object_of (fields_of (left_word b))) d → SawThere first q [] c → SawThere first q (deaths first.thread q b) d
        saw b sees before = record {
          since = before.since ++ (sees.between ++ deaths u q b);
          grows = sees.grows ∙ ap (λ (xs : List Point). (xs ++ sees.between) ++ deaths u q b) before.grows ∙ append_assoc (at first.seen q ++ before.since) sees.between (deaths u q b) ∙ append_assoc (at first.seen q) before.since (sees.between ++ deaths u q b);
          own = ap (λ (t : ℕ). by t (at d.seen q)) (sym was.thread) ∙ sees.own ∙ ap (λ (xs : List Point). xs ++ deaths u q b) (ap (λ (t : ℕ). by t (at c.seen q)) was.thread ∙ before.own ∙ append-nil _) ∙ ap (λ (t : ℕ). by first.thread (at first.seen q) ++ deaths t q b) was.thread;
        }

        go : (b : Bool) → Sees c q (deaths u q b) (object_of (fields_of (left_word b))) d → SawThere first q [] c → ((owns_in k d m ≡ true) × SawThere first q [] d) ⊎ TellsDeath first q d
        go true sees before = inr record {
          saw = saw true sees before;
          last = (at c.seen q ++ sees.between, sees.grows ∙ ap (λ (t : ℕ). (at c.seen q ++ sees.between) ++ deaths t q true) was.thread);
        }
        go false sees before = inl (kept_all false refl sees m ∙ owns_here, saw false sees before)

    walked_then : (b : Bool) → Sees c q (deaths u q b) (object_of (fields_of (left_word b))) d → (first : Card) → HasWalked k first c → HasWalked k first d
    walked_then b sees first was = record {
      thread = sees.thread ∙ was.thread;
      threads = sees.threads ∙ was.threads;
      base = sees.base ∙ was.base;
      told = λ l below own. dite (ℕ_discrete l m)
          (λ same. subst (λ (z : ℕ). ((owns_in k d z ≡ true) × SawThere first (cell_place k z) [] d) ⊎ TellsDeath first (cell_place k z) d) (sym same) (told_here first was b sees (ap (owns_in k first) (sym same) ∙ own)))
          (λ other.
          let seen_same = sees.elsewhere (cell_place k l) (other_cell k m l other) in
          ⊎_elim
          (λ still. inl (elsewhere l other ∙ still.0, record { since = still.1.since; grows = seen_same ∙ still.1.grows; own = ap (by first.thread) seen_same ∙ still.1.own }))
          (λ told. inr record { saw = record { since = told.saw.since; grows = seen_same ∙ told.saw.grows; own = ap (by first.thread) seen_same ∙ told.saw.own }; last = (told.last.0, seen_same ∙ told.last.1) })
          (was.told l below own));
      stays = λ l below none. dite (ℕ_discrete l m)
          (λ same. absurd (
          let then_seen = was.stays m treated.0 (ap (owns_in k first) (sym same) ∙ none) in
          let nobody : owns_in k c m ≡ false = ap (λ (t : ℕ). holds t (at c.seen q)) was.thread ∙ ap (holds first.thread) then_seen ∙ ap (owns_in k first) (sym same) ∙ none in
          cc (nobody, owns_here)))
          (λ other. sees.elsewhere (cell_place k l) (other_cell k m l other) ∙ was.stays l below none);
      changes = knows_on_then first c d was.threads was.changes (knows_on_by c d q n (left_by_mark v n) marks.writes);
      still = none_then (λ x. x ≢ q) (IsNoCell k) first c d was.thread (λ x none. none m treated.0) was.still (none_by c d q n (left_by_mark v n) marks.writes);
    }

    counted : (b : Bool) → Sees c q (deaths u q b) (object_of (fields_of (left_word b))) d → Run (object_of (fields_of n)) (deaths u q b) (object_of (fields_of (left_word b))) → held d ≡ count_after (held c) (point_of u (Mark a v tried rest) (answered b))
    counted true sees run = held_sees c q Death (Some OK) (object_of (fields_of n)) (object_of (fields_of (left_word true))) d sees run marks.holder
    counted false sees run = held_sees c q Death None (object_of (fields_of n)) (object_of (fields_of (left_word false))) d sees run marks.holder

    went_mark : Went k c d (Here (Mark a v tried rest)) (answered (n == v))
    went_mark = record {
      thread = same_thread;
      card = still_card k c q _ _ d is marks.sees;
      knows = marks.kept.knows knows;
      row = steps.knows u h (Mark a v tried rest) (answered (n == v)) row;
      left = subst (λ (z : ℕ). LeftAt k z (owns_in k d) (known k d) (WasSeen d) (row_after u h (Mark a v tried rest) (answered (n == v)))) (sym same_thread) (left_then (n == v) refl marks.sees marks.remembers);
      walked = λ first was. walked_then (n == v) marks.sees first was;
      count = counted (n == v) marks.sees (runs u v is.first mine n q);
    }

  -- ---- whatever the row

  went_at : (r : Row) → IsGoing r → Knows u h r → (IsWake (row_access h r) → ⊥) → At r → (n : ℕ) (d : Card) → FoundAt k (Here r) r c n d → Went k c d (Here r) (answer_at (row_access h r) n)
  went_at LoadFirst going row still left n d found = went_own LoadFirst d n (Value n) row (subst (λ (z : ℕ). At (LoadOffset z)) (sym found.1) left) refl found.0
  went_at (LoadOffset first) going row still left n d found = went_own (LoadOffset first) d n (Value n) row (left, found.1 ∙ left.2) refl found.0
  went_at (LoadPending first offset) going row still (left, is_offset) n d found = went_own (LoadPending first offset) d n (Value n) row
      (subst (λ (z : ℕ). At (row_after u h (LoadPending first offset) (Value z))) (sym found.1)
      (forward_arrives k u is.layout is.first is.thread (owns_in k c) (known k c) (WasSeen c) (record { entry = first; offset = offset; pending = known k c (address_sum h 2); loaded = 0 }) (left.0, left.1, is_offset, let few = left.3 in omega arith)))
      refl found.0
  went_at (LoadNext r) going row still left n d found = went_own (LoadNext r) d n (Value n) row
      (subst (λ (z : ℕ). At (row_after u h (LoadNext r) (Value z))) (sym found.1) (next_arrives k u is.layout is.first is.thread (owns_in k c) (known k c) (WasSeen c) r row left)) refl found.0
  went_at (LoadWord a rest) going row still (m, treated, left) n d found =
      let place = cell_again a m treated in
      subst (λ (z : Card). Went k c z (Here (LoadWord a rest)) (Value n)) (sym (found.0 ∙ ap (λ (q : ℕ). remembering c q n) place))
      (went_look a m n rest row treated left (subst (λ (q : ℕ). Finds c q n) place found.1) (subst (λ (q : ℕ). MindsWaiters c q n) place found.2))
  went_at (Mark a v tried rest) going row still (m, treated, left, seen) n d found = went_mark a m v n tried rest d treated left seen row (subst (λ (q : ℕ). Marks k q v c n d) (cell_again a m treated) found)
  went_at (WakeOne a rest) going row still left n d found = absurd (still tt)
  went_at Ended going row still left n d found = absurd going

  -- after a wake
  went_wake : (r : Row) → IsGoing r → Knows u h r → IsWake (row_access h r) → At r → (j : ℕ) → Went k c c (Here r) (Count j)
  went_wake LoadFirst going row wake left j = absurd wake
  went_wake (LoadOffset first) going row wake left j = absurd wake
  went_wake (LoadPending first offset) going row wake left j = absurd wake
  went_wake (LoadNext r) going row wake left j = absurd wake
  went_wake (LoadWord a rest) going row wake left j = absurd wake
  went_wake (Mark a v tried rest) going row wake left j = absurd wake
  went_wake (WakeOne a rest) going row wake (m, treated, left) j = went_same (WakeOne a rest) (Count j) row (goes_on_arrives k u is.layout is.first is.thread (owns_in k c) (known k c) (WasSeen c) rest left) refl
  went_wake Ended going row wake left j = absurd going

pub went : (k : Layout') (c : Card) → IsCardOf k c → (s : Standing) → IsWalking k c s → IsGoing s.row → (IsWake (access_of s) → ⊥) → (n : ℕ) (d : Card) → FoundAt k s s.row c n d → Went k c d s (answer_at (access_of s) n)
went k c is s walking going =
    subst (λ (z : Standing). Knows z.thread z.head z.row → (IsWake (access_of z) → ⊥) → (n : ℕ) (d : Card) → FoundAt k z z.row c n d → Went k c d z (answer_at (access_of z) n)) (sym (here k c s walking))
    (λ row still n d found. went_at k c is walking.knows s.row going row still walking.left n d found) walking.row

pub went_on : (k : Layout') (c : Card) → IsCardOf k c → (s : Standing) → IsWalking k c s → IsGoing s.row → IsWake (access_of s) → (j : ℕ) → Went k c c s (Count j)
went_on k c is s walking going =
    subst (λ (z : Standing). Knows z.thread z.head z.row → IsWake (access_of z) → (j : ℕ) → Went k c c z (Count j)) (sym (here k c s walking))
    (λ row wake j. went_wake k c is walking.knows s.row going row wake walking.left j) walking.row

-- the same for whatever is a count
pub counts : (k : Layout') (c : Card) → IsCardOf k c → (s : Standing) → IsWalking k c s → IsGoing s.row → IsWake (access_of s) → (x : Answer) → IsCount x → Went k c c s x
counts k c is s walking going wake (Count j) count = went_on k c is s walking going wake j
counts k c is s walking going wake x count = absurd count

-- the end
pub walked_to_end : (k : Layout') (first d : Card) → HasWalked k first d → OwnsNothing k (owns_in k d) → KnowsOwn k d → IsReaped k first d
walked_to_end k first d was none knows = record {
  thread = was.thread;
  threads = was.threads;
  base = was.base;
  told = λ m below own. ⊎_elim (λ still. absurd (let nobody = none m below in let somebody = still.0 in cc (nobody, somebody))) (λ told. told) (was.told m below own);
  stays = was.stays;
  changes = was.changes;
  still = was.still;
  none = none;
  knows = knows;
}

-- ---- how far an answer brought the walk

pub walk_goes : (point : Option Point) (r : Row) (result : Progress) (p : Option Point) → result ≡ Goes p → result ≡ progress_at point r → IsGoing r × (p ≡ point)
walk_goes point LoadFirst result p is was = let e : Goes p ≡ Goes point = sym is ∙ was in (tt, cc)
walk_goes point (LoadOffset f) result p is was = let e : Goes p ≡ Goes point = sym is ∙ was in (tt, cc)
walk_goes point (LoadPending f o) result p is was = let e : Goes p ≡ Goes point = sym is ∙ was in (tt, cc)
walk_goes point (LoadNext r) result p is was = let e : Goes p ≡ Goes point = sym is ∙ was in (tt, cc)
walk_goes point (LoadWord a rest) result p is was = let e : Goes p ≡ Goes point = sym is ∙ was in (tt, cc)
walk_goes point (Mark a v tried rest) result p is was = let e : Goes p ≡ Goes point = sym is ∙ was in (tt, cc)
walk_goes point (WakeOne a rest) result p is was = let e : Goes p ≡ Goes point = sym is ∙ was in (tt, cc)
walk_goes point Ended result p is was = let e : Goes p ≡ Returns OK point = sym is ∙ was in absurd (cc e)

pub walk_returns : (point : Option Point) (r : Row) (result : Progress) (y : Reply) (p : Option Point) → result ≡ Returns y p → result ≡ progress_at point r → (r ≡ Ended) × (p ≡ point)
walk_returns point LoadFirst result y p is was = let e : Returns y p ≡ Goes point = sym is ∙ was in absurd (cc e)
walk_returns point (LoadOffset f) result y p is was = let e : Returns y p ≡ Goes point = sym is ∙ was in absurd (cc e)
walk_returns point (LoadPending f o) result y p is was = let e : Returns y p ≡ Goes point = sym is ∙ was in absurd (cc e)
walk_returns point (LoadNext r) result y p is was = let e : Returns y p ≡ Goes point = sym is ∙ was in absurd (cc e)
walk_returns point (LoadWord a rest) result y p is was = let e : Returns y p ≡ Goes point = sym is ∙ was in absurd (cc e)
walk_returns point (Mark a v tried rest) result y p is was = let e : Returns y p ≡ Goes point = sym is ∙ was in absurd (cc e)
walk_returns point (WakeOne a rest) result y p is was = let e : Returns y p ≡ Goes point = sym is ∙ was in absurd (cc e)
walk_returns point Ended result y p is was = let e : Returns y p ≡ Returns OK point = sym is ∙ was in (refl, cc)

-- no access of a walk adds to what its thread holds
pub few_after : (t h : ℕ) (r : Row) (x : Answer) → h ≤ 2048 → count_after h (point_of t r x) ≤ 2048
few_after t h (Mark a v tried rest) Exchanged few = omega arith
few_after t h r x few = few

module _ (k : Layout') (c d : Card) (s : Standing) (x : Answer) (walking : IsWalking k c s) (w : Went k c d s x) where
  -- it goes on
  pub walks_on : (s' : Standing) → s' ≡ moved s x → IsWalking k d s'
  walks_on s' to = subst (IsWalking k d) (sym to) record {
    knows = w.knows;
    thread = walking.thread ∙ sym w.thread;
    head = walking.head ∙ ap (head_in k) (sym w.thread);
    row = w.row;
    left = w.left;
  }

  -- it has ended
  pub walk_ends : row_after s.thread s.head s.row x ≡ Ended → (first : Card) → HasWalked k first c → IsReaped k first d
  walk_ends ended first was = walked_to_end k first d (w.walked first was) (subst (IsLeftAt k d) ended w.left) w.knows

  pub count_then : (h h' : ℕ) (point : Option Point) → h ≡ held c → h' ≡ count_after h point → point ≡ point_of s.thread s.row x → h' ≡ held d
  count_then h h' point was is told = is ∙ ap (count_after h) told ∙ ap (λ (n : ℕ). count_after n (point_of s.thread s.row x)) was ∙ sym w.count

  pub few_then : (h h' : ℕ) (point : Option Point) → h ≤ 2048 → h' ≡ count_after h point → point ≡ point_of s.thread s.row x → h' ≤ 2048
  few_then h h' point few is told = subst (λ (n : ℕ). n ≤ 2048) (sym (is ∙ ap (count_after h) told)) (few_after s.thread h s.row x few)
