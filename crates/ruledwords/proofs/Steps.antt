-- Any access of a call, made at its cell.
use Rattle.std.proofs.Common.{Bool, true, false, ◌≡◌, ◌≢◌, ◌⊎◌, inl, inr, ⊎_elim, ℕ, zero, suc, ◌+◌, ◌^◌, ◌-◌, ◌/◌, ◌<◌, ◌≤◌, ◌==◌, get_or, Option, Some, None, List, [], ◌∷◌, ◌++◌, refl, sym, ap, ◌∙◌, subst, arith, eqb-true}
use Rattle.std.specs.Prelude.{if◌then◌else◌}
use Rattle.std.proofs.lemmas.Bool.Decides.{nat_tests}
use mathlib.Core.Logic.{dite}
use mathlib.Core.Option.{none}
use native.Mathlib.Decide.{ℕ_discrete}
use Rattle.atomic_table.specs.Table.{step, Allows}
use Rattle.lockword.specs.Cells.{fields_of}
use Rattle.lockword.specs.declared.reply.Reply.{Reply}
use Rattle.stepprograms.specs.declared.access.Access.{Access}
use Rattle.posixmutex.specs.declared.point.Point.{Point}
use Rattle.posixmutex.specs.declared.object.Object.{Object}
use Rattle.stepprograms.specs.Accesses.{changed}
use Rattle.posixmutex.specs.Histories.{is_thread}
use Rattle.memorymap.specs.Layouts.{Layout', head_place, cell_place, entry_place, counter_place}
use Rattle.posixmutex.specs.Objects.{fresh, Run, object_of, owner_of}
use Rattle.posixmutex.proofs.Objects.{run_split, run_sound, others_keep}
use Rattle.mutex.specs.declared.row.Row.{Row}
use Rattle.mutex.specs.declared.row.Row.TheVariants as row
use Rattle.mutex.specs.Laws.{Expects, Sound, Right}
use Rattle.mutex.specs.Programs.{access_of, row_operation}
use Rattle.mutex.specs.Rows.{IsGoing}
use Rattle.mutex.specs.Standings.{Standing}
use Rattle.mutex.specs.Steps.{IsStep, Minds}
use Rattle.mutex.proofs.Steps.{right_step, minds, carries}
use Rattle.ruledwords.specs.declared.pass.Card.{Card}
use Rattle.ruledwords.specs.Cards.{at, value_at, put_value}
use Rattle.ruledwords.specs.Changes.{Writes}
use Rattle.ruledwords.specs.Seen.{by, holds, Sees}
use Rattle.ruledwords.specs.Calls.{address_at, Ready, Made, OwnKept, made, led_at, fails}
use Rattle.ruledwords.specs.OwnWords.{owns_in, IsOwn, KnowsOwn}
use Rattle.ruledwords.specs.Rules.{Kept}
use Rattle.ruledwords.proofs.Cards.{run_at}
use Rattle.ruledwords.proofs.Counts.{told_counts}
use Rattle.ruledwords.proofs.Lists.{NoReinit, by_append, told, only, value_only, value_put, value_put_else, no_more}
use Rattle.ruledwords.proofs.Held.{owner_held}
use Rattle.ruledwords.proofs.Keepers.{IsLink, other_cell, stays, stays_not}
use Rattle.ruledwords.proofs.Moves.{Knowing, MayHave, allows, turns}
use Rattle.lockword.specs.Threads.{most_threads}

-- what a card knows once it knows the links of m
abbrev pub learnt : Layout' → ℕ → List ℕ → List (Option ℕ) → List (Option ℕ)
learnt k m ws vs = put_value (put_value vs (entry_place k m) (Some (get_or ws (entry_place k m) 0))) (entry_place k m + 1) (Some (get_or ws (entry_place k m + 1) 0))

-- the values that are known after a step, by whether the thread owns the mutex then and whether it owned it before
abbrev pub values_by : Layout' → ℕ → List ℕ → List (Option ℕ) → Bool → Bool → List (Option ℕ)
values_by k m ws vs true true = vs
values_by k m ws vs true false = learnt k m ws vs
values_by k m ws vs false b = only (stays k m) vs

abbrev pub values_after : Layout' → ℕ → Card → List ℕ → ℕ → List (Option ℕ)
values_after k m c ws n = values_by k m ws c.values ((fields_of n).owner == c.thread) (holds c.thread (at c.seen (cell_place k m)))

learnt_else : (k : Layout') (m : ℕ) (ws : List ℕ) (vs : List (Option ℕ)) (p : ℕ) → (IsLink k m p → ⊥) → value_at (learnt k m ws vs) p ≡ value_at vs p
learnt_else k m ws vs p apart = value_put_else (put_value vs (entry_place k m) (Some (get_or ws (entry_place k m) 0))) (entry_place k m + 1) p (Some (get_or ws (entry_place k m + 1) 0)) (λ e. apart (inr e)) ∙ value_put_else vs (entry_place k m) p (Some (get_or ws (entry_place k m) 0)) (λ e. apart (inl e))

learnt_here : (k : Layout') (m : ℕ) (ws : List ℕ) (vs : List (Option ℕ)) (p : ℕ) → IsLink k m p → value_at (learnt k m ws vs) p ≡ Some (get_or ws p 0)
learnt_here k m ws vs p (inl e) =
    subst (λ (z : ℕ). value_at (learnt k m ws vs) z ≡ Some (get_or ws z 0)) (sym e)
    (value_put_else (put_value vs (entry_place k m) (Some (get_or ws (entry_place k m) 0))) (entry_place k m + 1) (entry_place k m) (Some (get_or ws (entry_place k m + 1) 0)) (λ f. absurd (omega (arith, f))) ∙ value_put vs (entry_place k m) (Some (get_or ws (entry_place k m) 0)))
learnt_here k m ws vs p (inr e) = subst (λ (z : ℕ). value_at (learnt k m ws vs) z ≡ Some (get_or ws z 0)) (sym e) (value_put (put_value vs (entry_place k m) (Some (get_or ws (entry_place k m) 0))) (entry_place k m + 1) (Some (get_or ws (entry_place k m + 1) 0)))

is_link : (k : Layout') (m p : ℕ) → IsLink k m p ⊎ (IsLink k m p → ⊥)
is_link k m p = dite (ℕ_discrete p (entry_place k m)) (λ e. inl (inl e)) (λ other. dite (ℕ_discrete p (entry_place k m + 1)) (λ e. inl (inr e)) (λ apart. inr (λ l. ⊎_elim other apart l)))

pub may_have : (k : Layout') (ws : List ℕ) (m : ℕ) (c : Card) (v n : ℕ) (own held : Bool) → ((fields_of n).owner == c.thread) ≡ own → MayHave k ws m c v n (values_by k m ws c.values own held)
may_have k ws m c v n true true own p x e = inl (e, λ high here was. eqb-true (fields_of n).owner c.thread own)
may_have k ws m c v n true false own p x e = ⊎_elim
    (λ (link : IsLink k m p). inr (link, cc (sym (learnt_here k m ws c.values p link) ∙ e), eqb-true (fields_of n).owner c.thread own))
    (λ (apart : IsLink k m p → ⊥). inl (sym (learnt_else k m ws c.values p apart) ∙ e, λ high here was. eqb-true (fields_of n).owner c.thread own))
    (is_link k m p)
may_have k ws m c v n false held other p x e = let kept = value_only (stays k m) c.values p x e in inl (kept.1, λ high here was. absurd (stays_not k m p kept.0 high here))

-- a run of points by others changes nothing of an owned mutex
pub others_run_keep : (t : ℕ) (o : Object) (xs : List Point) (n : Object) → o.owner ≡ Some t → by t xs ≡ [] → Run o xs n → n ≡ o
others_run_keep t o [] n own nobody r = r
others_run_keep t o (x ∷ xs) n own nobody r =
    go (λ apart more. let same : r.0 ≡ o = others_keep o r.0 x.thread t x.operation x.reply own apart r.1 in others_run_keep t r.0 xs n (ap (λ (z : Object). z.owner) same ∙ own) more r.2 ∙ same) (x.thread == t) refl nobody
  where
    go : ((¬ (x.thread ≡ t)) → by t xs ≡ [] → n ≡ o) → (b : Bool) → (x.thread == t) ≡ b → (if b then x ∷ by t xs else by t xs) ≡ [] → n ≡ o
    go rest true is nobody = absurd (cc nobody)
    go rest false is nobody = rest (Rattle.std.proofs.lemmas.Bool.eqb-false x.thread t is) nobody

module _ (k : Layout') (c : Card) (p n : ℕ) (known : Knowing k c p n) where
  -- what others did since the thread saw the mutex
  since : Object × List Point → Type 0
  since z = Run fresh (at c.seen p) z.0 × Run z.0 z.1 (object_of (fields_of n)) × (by c.thread z.1 ≡ [])

  pub since_seen : (z : Object × List Point) × Run fresh (at c.seen p) z.0 × Run z.0 z.1 (object_of (fields_of n)) × (by c.thread z.1 ≡ [])
  since_seen =
      let mine = at c.seen p in
      let cut = run_split fresh (object_of (fields_of n)) mine known.begins.0 (subst (λ xs. Run fresh xs (object_of (fields_of n))) (sym known.begins.1) known.leaves.0) in
      let alone : by c.thread mine ++ by c.thread known.begins.0 ≡ by c.thread mine = sym (by_append c.thread mine known.begins.0) ∙ ap (by c.thread) known.begins.1 ∙ sym known.own in
      ((cut.0, known.begins.0), cut.1, cut.2, no_more (by c.thread mine) (by c.thread known.begins.0) alone)

  -- the thread holds the mutex exactly where it owns it
  pub holder : holds c.thread (at c.seen p) ≡ is_thread c.thread (object_of (fields_of n)).owner
  holder = ap (λ xs. Rattle.ruledwords.specs.Seen.held_after false xs) known.own ∙ owner_held c.thread fresh known.xs (object_of (fields_of n)) known.leaves.0

  pub sound : Sound (object_of (fields_of n))
  sound = run_sound fresh known.xs (object_of (fields_of n)) (λ e. refl) known.leaves.0

-- ---- what the thread knows of its own words

only_same : (f : ℕ → Bool) (xs : List (Option ℕ)) (p : ℕ) → f p ≡ true → value_at (only f xs) p ≡ value_at xs p
only_same f [] p is = refl
only_same f (x ∷ xs) zero is = ap (λ (b : Bool). if b then x else None) is
only_same f (x ∷ xs) (suc p) is = only_same (λ q. f (suc q)) xs p is

-- a place of a head, or of the links of another mutex, stays
stays_head : (k : Layout') (m p : ℕ) → p < cell_place k 0 → stays k m p ≡ true
stays_head k m p low = grind (arith, nat_tests)

stays_link : (k : Layout') (m l p : ℕ) → m < k.mutexes → l < k.mutexes → l ≢ m → IsLink k l p → stays k m p ≡ true
stays_link k m l p low inside other link = ⊎_elim (λ (e : p ≡ entry_place k l). by_place (omega arith) (omega arith)) (λ (e : p ≡ entry_place k l + 1). by_place (omega arith) (omega arith)) link
  where
    by_place : p < counter_place k 0 → (p - cell_place k 0) / 3 ≡ l → stays k m p ≡ true
    by_place below is = grind (arith, nat_tests)

other_link : (k : Layout') (m l p : ℕ) → l ≢ m → IsLink k l p → IsLink k m p → ⊥
other_link k m l p other a b = ⊎_elim
    (λ (e : p ≡ entry_place k l). ⊎_elim (λ (f : p ≡ entry_place k m). other (omega arith)) (λ (f : p ≡ entry_place k m + 1). absurd (omega arith)) b)
    (λ (e : p ≡ entry_place k l + 1). ⊎_elim (λ (f : p ≡ entry_place k m). absurd (omega arith)) (λ (f : p ≡ entry_place k m + 1). other (omega arith)) b)
    a

head_no_link : (k : Layout') (m p : ℕ) → p < cell_place k 0 → IsLink k m p → ⊥
head_no_link k m p low link = ⊎_elim (λ (e : p ≡ entry_place k m). absurd (omega arith)) (λ (e : p ≡ entry_place k m + 1). absurd (omega arith)) link

-- a card whose thread made a step at m's cell and knows these values then; it holds m then or not, and other mutexes as before
module _ (k : Layout') (m : ℕ) (low : m < k.mutexes) (ws : List ℕ) (c d : Card) (own held : Bool) (same : d.thread ≡ c.thread) (starts : 1 ≤ c.thread) (thread : c.thread ≤ k.threads) (values : d.values ≡ values_by k m ws c.values own held)
    (after : owns_in k d m ≡ own) (was : owns_in k c m ≡ held) (elsewhere : (l : ℕ) → l ≢ m → owns_in k d l ≡ owns_in k c l) where
  at_head : (b h : Bool) (p : ℕ) → p < cell_place k 0 → value_at (values_by k m ws c.values b h) p ≡ value_at c.values p
  at_head true true p below = refl
  at_head true false p below = learnt_else k m ws c.values p (head_no_link k m p below)
  at_head false h p below = only_same (stays k m) c.values p (stays_head k m p below)

  -- another mutex's links
  at_other : (b h : Bool) (l p : ℕ) → l < k.mutexes → l ≢ m → IsLink k l p → value_at (values_by k m ws c.values b h) p ≡ value_at c.values p
  at_other true true l p inside other link = refl
  at_other true false l p inside other link = learnt_else k m ws c.values p (other_link k m l p other link)
  at_other false h l p inside other link = only_same (stays k m) c.values p (stays_link k m l p low inside other link)

  -- m's own, where it is held before and after
  at_mine : (b h : Bool) (p : ℕ) → b ≡ true → h ≡ true → value_at (values_by k m ws c.values b h) p ≡ value_at c.values p
  at_mine true true p e f = refl
  at_mine true false p e f = absurd (cc f)
  at_mine false h p e f = absurd (cc e)

  head_below : (t p : ℕ) → 1 ≤ t → t ≤ k.threads → (p ≡ head_place t) ⊎ (p ≡ head_place t + 2) → p < cell_place k 0
  head_below t p first known here = ⊎_elim (λ (e : p ≡ head_place t). omega (arith, known)) (λ (e : p ≡ head_place t + 2). omega (arith, known)) here

  of_d : (p : ℕ) → value_at d.values p ≡ value_at (values_by k m ws c.values own held) p
  of_d p = ap (λ (vs : List (Option ℕ)). value_at vs p) values

  agrees : (p : ℕ) → IsOwn k c p → IsOwn k d p → value_at d.values p ≡ value_at c.values p
  agrees p (inl e) own_then = of_d p ∙ at_head own held p (head_below c.thread p starts thread (inl e))
  agrees p (inr (inl e)) own_then = of_d p ∙ at_head own held p (head_below c.thread p starts thread (inr e))
  agrees p (inr (inr (l, inside, link, holds_l))) own_then = of_d p ∙ dite (ℕ_discrete l m)
      (λ here. at_mine own held p (sym after ∙ then_held p (subst (λ (z : ℕ). IsLink k z p) here link) own_then) (sym was ∙ ap (owns_in k c) (sym here) ∙ holds_l))
      (λ other. at_other own held l p inside other link)
    where
      then_held : (p : ℕ) → IsLink k m p → IsOwn k d p → owns_in k d m ≡ true
      then_held p link (inl e) = absurd (head_no_link k m p (head_below d.thread p (subst (λ (z : ℕ). 1 ≤ z) (sym same) starts) (subst (λ (z : ℕ). z ≤ k.threads) (sym same) thread) (inl e)) link)
      then_held p link (inr (inl e)) = absurd (head_no_link k m p (head_below d.thread p (subst (λ (z : ℕ). 1 ≤ z) (sym same) starts) (subst (λ (z : ℕ). z ≤ k.threads) (sym same) thread) (inr e)) link)
      then_held p link (inr (inr (j, below, its, held_j))) = dite (ℕ_discrete j m) (λ at_m. ap (owns_in k d) (sym at_m) ∙ held_j) (λ other. absurd (other_link k m j p other its link))

  abbrev Known : Card → ℕ → Type 0
  Known z p = (x : ℕ) × (value_at z.values p ≡ Some x)

  known_by : (b h : Bool) (p : ℕ) → b ≡ true → IsLink k m p → (h ≡ true → Known c p) → (x : ℕ) × (value_at (values_by k m ws c.values b h) p ≡ Some x)
  known_by true true p e link before = before refl
  known_by true false p e link before = (get_or ws p 0, learnt_here k m ws c.values p link)
  known_by false h p e link before = absurd (cc e)

  knows_each : ((p : ℕ) → IsOwn k c p → (x : ℕ) × (value_at c.values p ≡ Some x)) → (p : ℕ) → IsOwn k d p → (x : ℕ) × (value_at d.values p ≡ Some x)
  knows_each all p (inl e) = let x = all p (inl (e ∙ ap head_place same)) in (x.0, of_d p ∙ at_head own held p (head_below c.thread p starts thread (inl (e ∙ ap head_place same))) ∙ x.1)
  knows_each all p (inr (inl e)) =
      let here : p ≡ head_place c.thread + 2 = e ∙ ap (λ (t : ℕ). head_place t + 2) same in
      let x = all p (inr (inl here)) in (x.0, of_d p ∙ at_head own held p (head_below c.thread p starts thread (inr here)) ∙ x.1)
  knows_each all p (inr (inr (l, inside, link, holds_l))) = dite (ℕ_discrete l m)
      (λ here.
      let x = known_by own held p (sym after ∙ ap (owns_in k d) (sym here) ∙ holds_l) (subst (λ (z : ℕ). IsLink k z p) here link) (λ h. all p (inr (inr (m, low, subst (λ (z : ℕ). IsLink k z p) here link, was ∙ h)))) in
      (x.0, of_d p ∙ x.1))
      (λ other. let x = all p (inr (inr (l, inside, link, sym (elsewhere l other) ∙ holds_l))) in (x.0, of_d p ∙ at_other own held l p inside other link ∙ x.1))

  knows : KnowsOwn k c → KnowsOwn k d
  knows all = record {
    each = knows_each all.each;
    offset = ap (λ (t : ℕ). value_at d.values (head_place t + 1)) same ∙ of_d (head_place c.thread + 1) ∙ at_head own held (head_place c.thread + 1) (omega (arith, thread)) ∙ all.offset;
  }

  pub own_kept : OwnKept k c d
  own_kept = record { agrees = agrees; knows = knows; heads = λ p below. of_d p ∙ at_head own held p below }

-- whoever owns a mutex by its word
pub is_owner_by : (t o : ℕ) → 1 ≤ t → is_thread t (owner_of o) ≡ (o == t)
is_owner_by t zero pos = grind (arith, nat_tests)
is_owner_by t (suc o) pos = refl

-- no call of a mutex counts
countless : (r : Row) (x : Option Reply) → told_counts (row_operation r) x ≡ 0
countless r None = refl
countless (row.Lock r) (Some x) = refl
countless (row.TryLock r) (Some x) = refl
countless (row.Unlock r) (Some x) = refl
countless (row.Consistent r) (Some x) = refl
countless (row.Ended y) (Some x) = refl

-- and none reinitialises a mutex
unreinited : (r : Row) (x : Option Reply) → NoReinit (row_operation r) x
unreinited r None = tt
unreinited (row.Lock r) (Some x) = λ e. cc e
unreinited (row.TryLock r) (Some x) = λ e. cc e
unreinited (row.Unlock r) (Some x) = λ e. cc e
unreinited (row.Consistent r) (Some x) = λ e. cc e
unreinited (row.Ended y) (Some x) = λ e. cc e

-- the access of a call may be made
pub makes : {o : List ℕ} (k : Layout') (slots id : ℕ) (c : Card) (m : ℕ) → m < k.mutexes → cell_place k m < 2 ^ 64 → (p : Standing) (a : Access) → access_of p ≡ a → p.cell ≡ address_at c (cell_place k m) → IsGoing p.row → IsStep (access_of p) → Ready p c → (x y : ℕ)
    → Allows (Kept k o) slots id (c ∷ [], []) (cell_place k m) (changed a) (made k p (step slots (cell_place k m) x y none) (c ∷ [], []))
makes k slots id c m low few p a is there going stepping ready x y =
    allows k slots id c m (λ n. row_operation p.row) (changed a) (λ n. (led_at p n).point) (λ n. c.misses + fails (access_of p) n) (λ n. n) (λ ws n. values_after k m c ws (changed a n)) (made k p (step slots (cell_place k m) x y none) (c ∷ [], [])) low
    (λ ws n known. may_have k ws m c n (changed a n) _ _ refl)
    (λ n known. (λ owned on. subst (λ (z : Access). (fields_of (changed z n)).waiters ≡ true) is ((mind n known).waiters on), λ clear. subst (λ (z : Access). (fields_of (changed z n)).rest ≡ 0) is ((mind n known).rest clear)))
    (λ n. countless p.row (led_at p n).point)
    (λ n known. unreinited p.row (led_at p n).point)
    (λ n known. subst (λ (z : Access). Run (object_of (fields_of n)) (told c.thread q (row_operation p.row) (led_at p n).point) (object_of (fields_of (changed z n)))) is
    (run_at (object_of (fields_of n)) (object_of (fields_of (changed (access_of p) n))) c.thread p.cell q (row_operation p.row) (led_at p n).point (rights n known).runs))
    (λ ws n d known sees writes misses last counted trims mark values. turns c d (λ c d. Made p q c n d × OwnKept k c d) (
      record {
        sees = subst (λ (z : Access). Sees c q (told c.thread q (row_operation p.row) (led_at p n).point) (object_of (fields_of (changed z n))) d) (sym is) sees;
        misses = misses;
        last = last;
        counted = counted;
        trims = trims;
        writes = subst (λ (z : Access). Writes c q n (changed z n) d) (sym is) writes;
        sound = sound k c q n known;
        met = met n known;
        holder = holder k c q n known;
        thread = (known.thread.0, let a = known.thread.1 in let b = known.thread.2 in let e : c.thread ≤ most_threads = omega arith in e);
      },
      own_kept k m low ws c d ((fields_of (changed a n)).owner == c.thread) (holds c.thread (at c.seen q)) sees.thread known.thread.0 known.thread.1 values (holds_then n d known sees) refl (λ l other. ap (holds d.thread) (sees.elsewhere (cell_place k l) (other_cell k m l other)) ∙ ap (λ (t : ℕ). holds t (at c.seen (cell_place k l))) sees.thread),
    ))
  where
    q : ℕ
    q = cell_place k m

    met : (n : ℕ) → Knowing k c (cell_place k m) n → Expects c.thread p.row (object_of (fields_of n))
    met n known =
        let s = since_seen k c (cell_place k m) n known in
        carries c.thread p.row s.0.0 (object_of (fields_of n)) (λ own. others_run_keep c.thread s.0.0 s.0.1 (object_of (fields_of n)) own s.3 s.2) (ready.2 (cell_place k m) s.0.0 few there s.1)

    -- after the step the thread holds the mutex exactly where it owns it
    holds_then : (n : ℕ) (d : Card) → Knowing k c (cell_place k m) n → {new : List Point} → Sees c q new (object_of (fields_of (changed a n))) d → owns_in k d m ≡ ((fields_of (changed a n)).owner == c.thread)
    holds_then n d known sees = ap (λ (t : ℕ). holds t (at d.seen q)) sees.thread ∙ owner_held c.thread fresh (at d.seen q) (object_of (fields_of (changed a n))) sees.leaves.0 ∙ is_owner_by c.thread (fields_of (changed a n)).owner known.thread.0

    short : (n : ℕ) → Knowing k c (cell_place k m) n → (1 ≤ p.thread) × (p.thread ≤ most_threads)
    short n known = let a = known.thread.0 in let b = known.thread.1 in let d = known.thread.2 in let e = ready.0 in (omega arith, omega arith)

    rights : (n : ℕ) → Knowing k c (cell_place k m) n → Right c.thread p.cell p.row (led_at p n) n (changed (access_of p) n)
    rights n known = subst (λ (t : ℕ). Right t p.cell p.row (led_at p n) n (changed (access_of p) n)) ready.0
        (right_step p.thread p.cell n p.row (short n known).0 (short n known).1 going stepping ready.1 (sound k c (cell_place k m) n known) (subst (λ (t : ℕ). Expects t p.row (object_of (fields_of n))) (sym ready.0) (met n known)))

    mind : (n : ℕ) → Knowing k c (cell_place k m) n → Minds p.row (led_at p n) n (changed (access_of p) n)
    mind n known = minds p.thread p.cell n p.row (short n known).1 going stepping ready.1 (subst (λ (t : ℕ). Expects t p.row (object_of (fields_of n))) (sym ready.0) (met n known))
