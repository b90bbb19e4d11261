-- A step at a cell keeps the rule, and adds to what its card saw.
use Rattle.std.proofs.Common.{Bool, true, ◌≡◌, ◌≢◌, ◌⊎◌, ℕ, zero, suc, ◌+◌, ◌<◌, ◌≤◌, Option, Some, None, List, [], ◌∷◌, ◌++◌, length, get_or, set, refl, sym, ap, ◌∙◌, subst, ⊎_elim, arith, append-nil, length-set, get_or-set_other, get_or-set_same, eqb-true, eq-eqb}
use mathlib.Core.Logic.{dite}
use mathlib.Core.Option.{some}
use mathlib.Core.List.{IsPrefix}
use native.Mathlib.Decide.{ℕ_discrete}
use lib.ListN.{get_elem?}
use Rattle.atomic_table.specs.Table.{State, Me, keeps, Allows}
use Rattle.atomic_table.proofs.Lists.{at_set}
use Rattle.lockword.specs.Cells.{fields_of}
use Rattle.lockword.specs.declared.reply.Reply.{Reply}
use Rattle.lockword.specs.declared.reply.Reply.TheVariants.{OK}
use Rattle.posixmutex.specs.declared.point.Operation.{Operation}
use Rattle.posixmutex.specs.declared.point.Operation.TheVariants.{Reinit}
use Rattle.posixmutex.specs.declared.point.Point.{Point}
use Rattle.posixmutex.specs.declared.object.Object.{Object}
use Rattle.posixmutex.specs.Histories.{is_thread}
use Rattle.memorymap.specs.Layouts.{Layout', cell_place, counter_place}
use Rattle.posixmutex.specs.Objects.{fresh, Run, object_of, owner_of}
use Rattle.posixmutex.proofs.Objects.{run_append}
use Rattle.ruledwords.specs.declared.pass.Card.{Card}
use Rattle.ruledwords.specs.declared.pass.Change.{Change}
use Rattle.ruledwords.specs.Cards.{at, put, value_at, mark_at, put_mark}
use Rattle.ruledwords.specs.Changes.{changes_at, put_changes, change_of, Writes}
use Rattle.ruledwords.specs.Counts.{counts_in}
use Rattle.ruledwords.specs.Seen.{by, Leaves, Sees}
use Rattle.ruledwords.specs.Rules.{guard, owner_at, keeper, Fits, AllFit, cards_of, Kept, Turns}
use Rattle.ruledwords.proofs.Lists.{at_put, at_put_else, mark_put, mark_put_else, by_append, told, by_own, by_other, NoReinit, all_of_append, all_of_told, prefix_self, prefix_more, all_set, all_two, counted}
use Rattle.ruledwords.proofs.Changes.{recorded_change, writes_there}
use Rattle.ruledwords.proofs.Counts.{counted_same, counts_more, told_counts}
use Rattle.ruledwords.proofs.Held.{others_run}
use Rattle.ruledwords.proofs.Keepers.{IsLink, link_keeper, link_no_cell, cell_keeper, keeper_set, other_cell, inside, counter_no_cell, owner_here, owner_set}
use Rattle.lockword.specs.Threads.{most_threads}

abbrev pub St : Type 0
St = State (Unit {0}) (List Card)

abbrev pub Sat : Type 0
Sat = Me (Unit {0}) (List Card)

-- what the words say of a mutex
abbrev pub says : List ℕ → ℕ → Object
says ws p = object_of (fields_of (get_or ws p 0))

-- ---- owners

is_owner : (t a : ℕ) → 1 ≤ t → a ≡ t → is_thread t (owner_of a) ≡ true
is_owner t zero pos e = absurd (omega arith)
is_owner t (suc a) pos e = eq-eqb (suc a) t e

pub owner_is : (t a : ℕ) → is_thread t (owner_of a) ≡ true → a ≡ t
owner_is t zero e = absurd (cc e)
owner_is t (suc a) e = eqb-true (suc a) t e

-- another's run of points changes nothing of what a thread owns
owner_stays : (t v n : ℕ) (xs : List Point) → 1 ≤ t → by t xs ≡ [] → Run (object_of (fields_of v)) xs (object_of (fields_of n)) → (fields_of v).owner ≡ t → (fields_of n).owner ≡ t
owner_stays t v n xs pos none run own = owner_is t (fields_of n).owner (sym (others_run t (object_of (fields_of v)) xs (object_of (fields_of n)) none run) ∙ is_owner t (fields_of v).owner pos own)

owner_was : (t v n : ℕ) (xs : List Point) → 1 ≤ t → by t xs ≡ [] → Run (object_of (fields_of v)) xs (object_of (fields_of n)) → (fields_of n).owner ≡ t → (fields_of v).owner ≡ t
owner_was t v n xs pos none run own = owner_is t (fields_of v).owner (others_run t (object_of (fields_of v)) xs (object_of (fields_of n)) none run ∙ is_owner t (fields_of n).owner pos own)

-- ---- values and marks

-- the card after it saw the list xs at p
abbrev pub after : Card → ℕ → List Point → ℕ → ℕ → List (Option ℕ) → Bool → List Change → Card
after c p xs misses last vs mark zs = record { threads = c.threads; thread = c.thread; base = c.base; seen = put c.seen p xs; misses = misses; last = last; trims = c.trims; counted = c.counted; values = vs; marks = put_mark c.marks p mark; changes = put_changes c.changes p zs }

abbrev pub Told : Layout' → List ℕ → ℕ → List (Option ℕ) → Type 0
Told k ws t vs = (p x : ℕ) → value_at vs p ≡ Some x → (get_or ws p 0 ≡ x) × (keeper k ws p ≡ t)

abbrev pub Marked : Layout' → List ℕ → ℕ → List Bool → Type 0
Marked k ws t bs = (m : ℕ) → m < k.mutexes → mark_at bs (cell_place k m) ≡ true → owner_at k ws m ≡ t → (fields_of (get_or ws (cell_place k m) 0)).waiters ≡ true

-- which values a card may have when the word of m goes from v to n: those that it had, as far as they stay its thread's own; and where its thread owns m then, what the words of its links are
abbrev pub MayHave : Layout' → List ℕ → ℕ → Card → ℕ → ℕ → List (Option ℕ) → Type 0
MayHave k ws m c v n vs = (p x : ℕ) → value_at vs p ≡ Some x
    → ((value_at c.values p ≡ Some x) × (cell_place k 0 ≤ p → guard k p ≡ m → (fields_of v).owner ≡ c.thread → (fields_of n).owner ≡ c.thread)) ⊎ (IsLink k m p × (get_or ws p 0 ≡ x) × ((fields_of n).owner ≡ c.thread))

-- WAITERS stays while the mutex is owned, and the bits above the flags stay clear
abbrev pub Steady : ℕ → ℕ → Type 0
Steady v n = ((fields_of v).owner ≢ 0 → (fields_of v).waiters ≡ true → (fields_of n).waiters ≡ true) × ((fields_of v).rest ≡ 0 → (fields_of n).rest ≡ 0)

no_cell : (k : Layout') (ws : List ℕ) (m t p : ℕ) → m < k.mutexes → 1 ≤ t → keeper k ws p ≡ t → p ≢ cell_place k m
no_cell k ws m t p low pos own e = let none = cell_keeper k ws m low in let same = ap (keeper k ws) e in absurd (omega arith)

told_after : (k : Layout') (ws : List ℕ) (m n t : ℕ) (vs vs' : List (Option ℕ)) → m < k.mutexes → 1 ≤ t → cell_place k m < length ws → Told k ws t vs
    → ((p x : ℕ) → value_at vs' p ≡ Some x → (value_at vs p ≡ Some x) × (cell_place k 0 ≤ p → guard k p ≡ m → owner_at k ws m ≡ t → (fields_of n).owner ≡ t)) → Told k (set ws (cell_place k m) n) t vs'
told_after k ws m n t vs vs' low pos within told keep p x e =
    let kept = keep p x e in
    let was = told p x kept.0 in
    (get_or-set_other ws (cell_place k m) p n 0 (no_cell k ws m t p low pos was.1) ∙ was.0, keeper_set k ws m n t p within was.1 kept.1)

-- of one that may have learnt more
own_told : (k : Layout') (ws : List ℕ) (m n : ℕ) (c : Card) (vs : List (Option ℕ)) → m < k.mutexes → 1 ≤ c.thread → cell_place k m < length ws → Told k ws c.thread c.values → MayHave k ws m c (get_or ws (cell_place k m) 0) n vs → Told k (set ws (cell_place k m) n) c.thread vs
own_told k ws m n c vs low pos within told have p x e = ⊎_elim
    (λ (kept : (value_at c.values p ≡ Some x) × (cell_place k 0 ≤ p → guard k p ≡ m → owner_at k ws m ≡ c.thread → (fields_of n).owner ≡ c.thread)).
    let was = told p x kept.0 in
    (get_or-set_other ws (cell_place k m) p n 0 (no_cell k ws m c.thread p low pos was.1) ∙ was.0, keeper_set k ws m n c.thread p within was.1 kept.1))
    (λ (learnt : IsLink k m p × (get_or ws p 0 ≡ x) × ((fields_of n).owner ≡ c.thread)).
    (get_or-set_other ws (cell_place k m) p n 0 (link_no_cell k m m p learnt.0) ∙ learnt.1, link_keeper k (set ws (cell_place k m) n) m p low learnt.0 ∙ owner_here k ws m n within ∙ learnt.2))
    (have p x e)

marked_other : (k : Layout') (ws : List ℕ) (m n t : ℕ) (bs : List Bool) → cell_place k m < length ws → 1 ≤ t → ((fields_of n).owner ≡ t → owner_at k ws m ≡ t) → Steady (get_or ws (cell_place k m) 0) n → Marked k ws t bs
    → Marked k (set ws (cell_place k m) n) t bs
marked_other k ws m n t bs within pos was steady marked l low e own = dite (ℕ_discrete l m)
    (λ same.
    let owned : owner_at k ws m ≡ t = was (sym (owner_here k ws m n within) ∙ subst (λ (z : ℕ). owner_at k (set ws (cell_place k m) n) z ≡ t) same own) in
    let on = subst (λ (z : ℕ). (fields_of (get_or ws (cell_place k z) 0)).waiters ≡ true) same (marked l low e (subst (λ (z : ℕ). owner_at k ws z ≡ t) (sym same) owned)) in
    subst (λ (z : ℕ). (fields_of (get_or (set ws (cell_place k m) n) (cell_place k z) 0)).waiters ≡ true) (sym same)
    (ap (λ (v : ℕ). (fields_of v).waiters) (get_or-set_same ws (cell_place k m) n 0 within) ∙ steady.0 (λ none. absurd (omega arith)) on))
    (λ other. ap (λ (v : ℕ). (fields_of v).waiters) (get_or-set_other ws (cell_place k m) (cell_place k l) n 0 (other_cell k m l other)) ∙ marked l low e (sym (owner_set k ws m n l other) ∙ own))

pub marked_own : (k : Layout') (ws : List ℕ) (m n t : ℕ) (bs : List Bool) → cell_place k m < length ws → Marked k ws t bs → Marked k (set ws (cell_place k m) n) t (put_mark bs (cell_place k m) (fields_of n).waiters)
marked_own k ws m n t bs within marked l low e own = dite (ℕ_discrete l m)
    (λ same.
    let here = subst (λ (z : ℕ). mark_at (put_mark bs (cell_place k m) (fields_of n).waiters) (cell_place k z) ≡ true) same e in
    subst (λ (z : ℕ). (fields_of (get_or (set ws (cell_place k m) n) (cell_place k z) 0)).waiters ≡ true) (sym same)
    (ap (λ (v : ℕ). (fields_of v).waiters) (get_or-set_same ws (cell_place k m) n 0 within) ∙ sym (mark_put bs (cell_place k m) (fields_of n).waiters) ∙ here))
    (λ other.
    ap (λ (v : ℕ). (fields_of v).waiters) (get_or-set_other ws (cell_place k m) (cell_place k l) n 0 (other_cell k m l other))
    ∙ marked l low (sym (mark_put_else bs (cell_place k m) (cell_place k l) (fields_of n).waiters (other_cell k m l other)) ∙ e) (sym (owner_set k ws m n l other) ∙ own))

-- ---- cards

fits_other : (k : Layout') (ws ws' : List ℕ) (js : List (List Point)) (p t : ℕ) (op : Operation) (r : Option Reply) (c : Card) → t ≢ c.thread → Fits k ws js c → Told k ws' c.thread c.values × Marked k ws' c.thread c.marks → Fits k ws' (put js p (at js p ++ told t p op r)) c
fits_other k ws ws' js p t op r c apart f knows = record {
  values = knows.0;
  marks = knows.1;
  thread = f.thread;
  threads = f.threads;
  begins = λ q. dite (ℕ_discrete q p)
      (λ e. subst (λ (z : ℕ). IsPrefix (at c.seen z) (at (put js p (at js p ++ told t p op r)) z)) (sym e)
      (subst (IsPrefix (at c.seen p)) (sym (at_put js p (at js p ++ told t p op r))) (prefix_more _ _ (told t p op r) (f.begins p))))
      (λ n. subst (IsPrefix (at c.seen q)) (sym (at_put_else js p q (at js p ++ told t p op r) n)) (f.begins q));
  own = λ q. dite (ℕ_discrete q p)
      (λ e. subst (λ (z : ℕ). by c.thread (at c.seen z) ≡ by c.thread (at (put js p (at js p ++ told t p op r)) z)) (sym e)
      (f.own p ∙ sym (ap (by c.thread) (at_put js p (at js p ++ told t p op r)) ∙ by_append c.thread (at js p) (told t p op r) ∙ ap (λ l. by c.thread (at js p) ++ l) (by_other c.thread t p op r apart) ∙ append-nil _)))
      (λ n. f.own q ∙ ap (by c.thread) (sym (at_put_else js p q (at js p ++ told t p op r) n)));
}

pub all_fit_other : (k : Layout') (ws ws' : List ℕ) (js : List (List Point)) (p t : ℕ) (op : Operation) (r : Option Reply) (cs : List Card) → ((c : Card) → t ≢ c.thread → Fits k ws js c → Told k ws' c.thread c.values × Marked k ws' c.thread c.marks)
    → cards_of t cs ≡ 0 → AllFit k ws js cs → AllFit k ws' (put js p (at js p ++ told t p op r)) cs
all_fit_other k ws ws' js p t op r [] knows none f = tt
all_fit_other k ws ws' js p t op r (c ∷ cs) knows none f =
    let apart : t ≢ c.thread = λ e. let some_card = counted t c cs e in absurd (omega arith) in
    (fits_other k ws ws' js p t op r c apart f.0 (knows c apart f.0), all_fit_other k ws ws' js p t op r cs knows (omega arith) f.1)

-- who has seen all that happened to one mutex
pub begins_told : (js seen : List (List Point)) (p : ℕ) (xs : List Point) → ((q : ℕ) → IsPrefix (at seen q) (at js q)) → (q : ℕ) → IsPrefix (at (put seen p xs) q) (at (put js p xs) q)
begins_told js seen p xs begins q = dite (ℕ_discrete q p)
    (λ e. subst (λ (z : ℕ). IsPrefix (at (put seen p xs) z) (at (put js p xs) z)) (sym e)
    (subst (λ l. IsPrefix l (at (put js p xs) p)) (at_put js p xs ∙ sym (at_put seen p xs)) (prefix_self (at (put js p xs) p))))
    (λ n. subst (λ l. IsPrefix l (at (put js p xs) q)) (sym (at_put_else seen p q xs n)) (subst (IsPrefix (at seen q)) (sym (at_put_else js p q xs n)) (begins q)))

pub by_told : (t : ℕ) (js seen : List (List Point)) (p : ℕ) (xs : List Point) → ((q : ℕ) → by t (at seen q) ≡ by t (at js q)) → (q : ℕ) → by t (at (put seen p xs) q) ≡ by t (at (put js p xs) q)
by_told t js seen p xs own q = dite (ℕ_discrete q p)
    (λ e. subst (λ (z : ℕ). by t (at (put seen p xs) z) ≡ by t (at (put js p xs) z)) (sym e) (ap (by t) (at_put seen p xs ∙ sym (at_put js p xs))))
    (λ n. ap (by t) (at_put_else seen p q xs n) ∙ own q ∙ ap (by t) (sym (at_put_else js p q xs n)))

fits_own : (k : Layout') (ws ws' : List ℕ) (js : List (List Point)) (p : ℕ) (op : Operation) (r : Option Reply) (c : Card) (misses last : ℕ) (vs : List (Option ℕ)) (b : Bool) (zs : List Change) → Fits k ws js c → Told k ws' c.thread vs → Marked k ws' c.thread (put_mark c.marks p b)
    → Fits k ws' (put js p (at js p ++ told c.thread p op r)) (after c p (at js p ++ told c.thread p op r) misses last vs b zs)
fits_own k ws ws' js p op r c misses last vs b zs f knows marked = let xs : List Point = at js p ++ told c.thread p op r in record {
  values = knows;
  marks = marked;
  thread = f.thread;
  threads = f.threads;
  begins = begins_told js c.seen p xs f.begins;
  own = by_told c.thread js c.seen p xs f.own;
}

-- ---- the rule

-- a step that leaves the mutex as it was didn't reinitialise it
pub none_where_same : (t p : ℕ) (op : Operation) (r : Option Reply) (o : Object) → Run o (told t p op r) o → NoReinit op r
none_where_same t p op None o run = tt
none_where_same t p op (Some x) o run = λ e. go x (subst (λ (z : Operation). Run o (told t p z (Some x)) o) e run)
  where
    go : (x : Reply) → Run o (told t p Reinit (Some x)) o → ⊥
    go OK run = absurd (cc (run.1.0, ap (λ (z : Object). z.unusable) (run.2 ∙ run.1.2)))
    go x run = run.1

pub leaves_more : (k : Layout') (p t : ℕ) (xs : List Point) (o n : Object) (op : Operation) (r : Option Reply) → 1 ≤ t → t ≤ k.threads → NoReinit op r → Leaves k.threads p xs o → Run o (told t p op r) n → Leaves k.threads p (xs ++ told t p op r) n
leaves_more k p t xs o n op r pos low made l run = (run_append fresh o n xs (told t p op r) l.0 run, all_of_append k.threads p xs (told t p op r) l.1 (all_of_told k.threads t p op r pos low made))

-- the changes of m's cell after an access of the card's thread that leaves n there
abbrev pub changing : {o : List ℕ} (k : Layout') (s : St) (h : Kept k o s) (c : Card) (m n : ℕ) → List Change
changing k s h c m n = changes_at h.recorded.changes (cell_place k m) ++ change_of c.thread (get_or s.words (cell_place k m) 0) n

kept_step : (o : List ℕ) (k : Layout') (s : St) (h : Kept k o s) (id : ℕ) (c : Card) (m : ℕ) (op : Operation) (r : Option Reply) (n misses last : ℕ) (vs : List (Option ℕ)) → get_elem? s.views id ≡ some (c ∷ []) → m < k.mutexes → MayHave k s.words m c (get_or s.words (cell_place k m) 0) n vs
    → Steady (get_or s.words (cell_place k m) 0) n → told_counts op r ≡ 0 → NoReinit op r → Run (says s.words (cell_place k m)) (told c.thread (cell_place k m) op r) (object_of (fields_of n))
    → Kept k o record { words = set s.words (cell_place k m) n; homes = s.homes; views = set s.views id (after c (cell_place k m) (at h.histories (cell_place k m) ++ told c.thread (cell_place k m) op r) misses last vs (fields_of n).waiters (changing k s h c m n) ∷ []) }
kept_step o k s h id c m op r n misses last vs is low keep steady countless made run =
    let p : ℕ = cell_place k m in
    let js = h.histories in
    let xs : List Point = at js p ++ told c.thread p op r in
    let fit = (h.fits id (c ∷ []) is).0 in
    let w : List Card = after c p xs misses last vs (fields_of n).waiters (changing k s h c m n) ∷ [] in
    let within : p < length s.words = subst (λ (z : ℕ). p < z) (sym h.wide) (inside k m low) in
    let ws' = set s.words p n in
    let now = leaves_more k p c.thread (at js p) _ (object_of (fields_of n)) op r fit.thread.0 fit.thread.1 made (h.leaves m low) run in
    record {
      layout = h.layout;
      wide = length-set s.words p n ∙ h.wide;
      histories = put js p xs;
      leaves = λ l lower. dite (ℕ_discrete l m)
          (λ e. subst (λ (z : ℕ). Leaves k.threads (cell_place k z) (at (put js p xs) (cell_place k z)) (says ws' (cell_place k z))) (sym e)
          (subst (λ (z : List Point × ℕ). Leaves k.threads p z.0 (object_of (fields_of z.1))) (λ i. (sym (at_put js p xs) i, sym (get_or-set_same s.words p n 0 within) i)) now))
          (λ other. subst (λ (z : List Point × ℕ). Leaves k.threads (cell_place k l) z.0 (object_of (fields_of z.1)))
          (λ i. (sym (at_put_else js p (cell_place k l) xs (other_cell k m l other)) i, sym (get_or-set_other s.words p (cell_place k l) n 0 (other_cell k m l other)) i)) (h.leaves l lower));
      legal = λ q. dite (ℕ_discrete q p)
          (λ e. (object_of (fields_of n), subst (λ (z : ℕ). Leaves k.threads z (at (put js p xs) z) (object_of (fields_of n))) (sym e) (subst (λ l. Leaves k.threads p l (object_of (fields_of n))) (sym (at_put js p xs)) now)))
          (λ other. let was = h.legal q in (was.0, subst (λ l. Leaves k.threads q l was.0) (sym (at_put_else js p q xs other)) was.1));
      narrow = λ l lower. dite (ℕ_discrete l m)
          (λ e. ap (λ (z : ℕ). (fields_of (get_or ws' (cell_place k z) 0)).rest) e ∙ ap (λ (v : ℕ). (fields_of v).rest) (get_or-set_same s.words p n 0 within) ∙ steady.1 (h.narrow m low))
          (λ other. ap (λ (v : ℕ). (fields_of v).rest) (get_or-set_other s.words p (cell_place k l) n 0 (other_cell k m l other)) ∙ h.narrow l lower);
      counters = λ q lower. subst (λ (z : ℕ). z < 4294967296) (sym (get_or-set_other s.words p (counter_place k q) n 0 (counter_no_cell k q m low))) (h.counters q lower);
      counted = counted_same k o s.words ws' js (put js p xs) h.layout h.counted (λ q lower. get_or-set_other s.words p (counter_place k q) n 0 (counter_no_cell k q m low))
          (λ l lower. dite (ℕ_discrete l m)
          (λ e. subst (λ (z : ℕ). counts_in (at (put js p xs) (cell_place k z)) ≡ counts_in (at js (cell_place k z))) (sym e)
          (ap counts_in (at_put js p xs) ∙ counts_more c.thread p op r (at js p) ∙ ap (λ (z : ℕ). counts_in (at js p) + z) countless ∙ (let none : counts_in (at js p) + 0 ≡ counts_in (at js p) = omega arith in none)))
          (λ other. ap counts_in (at_put_else js p (cell_place k l) xs (other_cell k m l other))));
      fits = λ j v e. ⊎_elim
          (λ (t : (j ≡ id) × (w ≡ v)).
          subst (AllFit k ws' (put js p xs)) t.1
          (fits_own k s.words ws' js p op r c misses last vs (fields_of n).waiters (changing k s h c m n) fit (own_told k s.words m n c vs low fit.thread.0 within fit.values keep) (marked_own k s.words m n c.thread c.marks within fit.marks), tt))
          (λ (t : (j ≢ id) × (get_elem? s.views j ≡ some v)).
          let two = all_two c.thread s.views id j (c ∷ []) v is t.1 t.0 in
          let once = h.once c.thread in
          let mine = counted c.thread c [] refl in
          all_fit_other k s.words ws' js p c.thread op r v
          (λ d other f.
          let none = by_other d.thread c.thread p op r other in (
            told_after k s.words m n d.thread d.values d.values low f.thread.0 within f.values (λ q x e. (e, λ high here own. owner_stays d.thread _ n (told c.thread p op r) f.thread.0 none run own)),
            marked_other k s.words m n d.thread d.marks within f.thread.0 (λ own. owner_was d.thread _ n (told c.thread p op r) f.thread.0 none run own) steady f.marks,
          ))
          (omega arith) (h.fits j v t.1))
          (at_set s.views id j w v e);
      once = λ t. let same = all_set t s.views id (c ∷ []) w is in let once = h.once t in omega arith;
      recorded = recorded_change k s.words s.views h.recorded id c (after c p xs misses last vs (fields_of n).waiters (changing k s h c m n)) p n fit.thread is within h.once refl refl (h.recorded.leave m low);
    }

pub sees_step : {o : List ℕ} (k : Layout') (s : St) (h : Kept k o s) (id : ℕ) (c : Card) (m : ℕ) (op : Operation) (r : Option Reply) (n misses last : ℕ) (vs : List (Option ℕ)) → get_elem? s.views id ≡ some (c ∷ []) → m < k.mutexes
    → NoReinit op r → Run (says s.words (cell_place k m)) (told c.thread (cell_place k m) op r) (object_of (fields_of n))
    → Sees c (cell_place k m) (told c.thread (cell_place k m) op r) (object_of (fields_of n)) (after c (cell_place k m) (at h.histories (cell_place k m) ++ told c.thread (cell_place k m) op r) misses last vs (fields_of n).waiters (changing k s h c m n))
sees_step k s h id c m op r n misses last vs is low made run =
    let p : ℕ = cell_place k m in
    let new : List Point = told c.thread p op r in
    let xs : List Point = at h.histories p ++ new in
    let fit = (h.fits id (c ∷ []) is).0 in
    let there = at_put c.seen p xs in
    let now = leaves_more k p c.thread (at h.histories p) _ (object_of (fields_of n)) op r fit.thread.0 fit.thread.1 made (h.leaves m low) run in
    record {
      thread = refl;
      threads = refl;
      base = refl;
      elsewhere = λ q other. at_put_else c.seen p q xs other;
      between = (fit.begins p).0;
      grows = there ∙ ap (λ l. l ++ new) (sym (fit.begins p).1);
      own = ap (by c.thread) there ∙ by_append c.thread (at h.histories p) new ∙ ap (λ l. by c.thread (at h.histories p) ++ l) (by_own c.thread p op r) ∙ ap (λ l. l ++ new) (sym (fit.own p));
      leaves = subst (λ (z : ℕ × List Point). Leaves z.0 p z.1 (object_of (fields_of n))) (λ i. (sym fit.threads i, sym there i)) now;
    }

abbrev pub card_or : Card → Sat → Card
card_or d (x ∷ xs, ys) = x
card_or d ([], ys) = d

pub turns : (c d : Card) (tells : Card → Card → Type 0) → tells c d → Turns (c ∷ [], []) (d ∷ [], []) tells
turns c d tells t c' e = (d, refl, subst (λ (x : Card). tells x d) (ap (card_or c) e) t)

-- what the card's thread knows of the mutex whose cell is at p, where the word there is n
pub record Knowing (k : Layout') (c : Card) (p n : ℕ) : Type 0 where
  pub xs : List Point
  pub leaves : Leaves k.threads p xs (object_of (fields_of n))
  pub begins : IsPrefix (at c.seen p) xs
  pub own : by c.thread (at c.seen p) ≡ by c.thread xs
  pub thread : (1 ≤ c.thread) × (c.thread ≤ k.threads) × (k.threads ≤ most_threads)
  pub narrow : (fields_of n).rest ≡ 0
  pub mark : mark_at c.marks p ≡ true → (fields_of n).owner ≡ c.thread → (fields_of n).waiters ≡ true

-- a step at a cell may be made: what it does to the word is a step of the mutex as an object that no counter counts, WAITERS stays while it is owned, and what is to be kept of the values is so afterwards
pub allows : {o : List ℕ} (k : Layout') (slots id : ℕ) (c : Card) (m : ℕ) (op : ℕ → Operation) (f : ℕ → ℕ) (r : ℕ → Option Reply) (misses last : ℕ → ℕ) (vs : List ℕ → ℕ → List (Option ℕ)) (tells : ℕ → Sat → Type 0) → m < k.mutexes
    → ((ws : List ℕ) (n : ℕ) → Knowing k c (cell_place k m) n → MayHave k ws m c n (f n) (vs ws n))
    → ((n : ℕ) → Knowing k c (cell_place k m) n → Steady n (f n))
    → ((n : ℕ) → told_counts (op n) (r n) ≡ 0)
    → ((n : ℕ) → Knowing k c (cell_place k m) n → NoReinit (op n) (r n))
    → ((n : ℕ) → Knowing k c (cell_place k m) n → Run (object_of (fields_of n)) (told c.thread (cell_place k m) (op n) (r n)) (object_of (fields_of (f n))))
    → ((ws : List ℕ) (n : ℕ) (d : Card) → Knowing k c (cell_place k m) n → Sees c (cell_place k m) (told c.thread (cell_place k m) (op n) (r n)) (object_of (fields_of (f n))) d → Writes c (cell_place k m) n (f n) d → d.misses ≡ misses n → d.last ≡ last n → d.counted ≡ c.counted → d.trims ≡ c.trims → mark_at d.marks (cell_place k m) ≡ (fields_of (f n)).waiters → d.values ≡ vs ws n → tells n (d ∷ [], []))
    → Allows (Kept k o) slots id (c ∷ [], []) (cell_place k m) f tells
allows {o} k slots id c m op f r misses last vs tells low keeps_values steadies countless none_reinits runs says_of s h deep is small =
    let p : ℕ = cell_place k m in
    let n : ℕ = get_or s.words p 0 in
    let fit = (h.fits id (c ∷ []) is).0 in
    let knows : Knowing k c p n = record { xs = at h.histories p; leaves = h.leaves m low; begins = fit.begins p; own = fit.own p; thread = (fit.thread.0, fit.thread.1, h.layout.threads.1); narrow = h.narrow m low; mark = fit.marks m low } in
    let run = runs n knows in
    let keep = keeps_values s.words n knows in
    let steady = steadies n knows in (
      after c p (at h.histories p ++ told c.thread p (op n) (r n)) (misses n) (last n) (vs s.words n) (fields_of (f n)).waiters (changing k s h c m (f n)) ∷ [],
      keeps,
      tt,
      kept_step o k s h id c m (op n) (r n) (f n) (misses n) (last n) (vs s.words n) is low keep steady (countless n) (none_reinits n knows) run,
      says_of s.words n _ knows (sees_step k s h id c m (op n) (r n) (f n) (misses n) (last n) (vs s.words n) is low (none_reinits n knows) run) (writes_there k s.words s.views h.recorded id c _ p (f n) fit.thread fit.threads (h.recorded.leave m low) is refl) refl refl refl refl (mark_put c.marks p (fields_of (f n)).waiters) refl,
    )
