-- Phases of real threads, thread by thread.
use Rattle.std.proofs.Common.{◌≡◌, ◌≢◌, ◌⊎◌, inl, inr, ⊎_elim, ℕ, zero, suc, ◌+◌, ◌<◌, ◌≤◌, Some, List, [], ◌∷◌, ◌++◌, length, map, set, get_or, slice_get, Vec, refl, sym, ap, ◌∙◌, subst, arith, length-append, length-set, All, take, append_assoc, Option, Bool, true, false, ◌==◌, if◌then◌else◌, Result, Ok, Err, IfOk}
use Rattle.std.proofs.lemmas.List.{take_more, map-append}
use Rattle.std.proofs.lemmas.List.Elements.{All-append, All-head, All-tail}
use Rattle.std.proofs.lemmas.Option.{get_or_from_slice_get, slice_get_within, slice_get-get_or, same_Some}
use Rattle.std.specs.List.{flat_map}
use Rattle.std.specs.declared.alloc.Global.{Global}
use Rattle.lockword.specs.declared.reply.Reply.{Reply}
use Rattle.memorymap.specs.Layouts.{Layout'}
use Rattle.condvar.specs.declared.op.Op.{Op}
use Rattle.condvar.specs.Ops.{is_in}
use Rattle.ruledwords.specs.declared.pass.Live.{Live}
use Rattle.ruledwords.specs.declared.pass.Pass.{Pass}
use Rattle.ruledwords.specs.declared.pass.Spent.{Spent}
use Rattle.ruledwords.specs.declared.pass.Card.{Card}
use Rattle.ruledwords.specs.declared.pass.Words.{Words}
use Rattle.ruledwords.specs.Passes.{card, layout_of, IsLive}
use Rattle.script.specs.declared.workload.Job.{Job as Ordered}
use Rattle.script.specs.declared.workload.Phase.{Phase}
use Rattle.threadbench.specs.declared.job.Job.{Job}
use Rattle.threadbench.specs.declared.job.Record.{Record}
use Rattle.threadbench.specs.declared.job.WorkerPass.{WorkerPass}
use Rattle.threadbench.specs.declared.job.WorkerPass.TheVariants.{Lives, Reaped}
use Rattle.threadbench.specs.Answered.{card_in, IsWorkerOf}
use Rattle.threadbench.specs.Each.{EachWith}
use Rattle.threadbench.specs.Jobs.{IsJobOf, IsDone, AreDone, LivesOn}
use Rattle.threadbench.proofs.Living.{works_on as still_works}
use Rattle.report.specs.declared.threads.Worker.{Worker}
use Rattle.report.specs.Meetings.{is_reaped, HaveMet}
use Rattle.report.specs.Threads.{open_gate, ArePossible, IsRightPhase, calls_at, calls_in, AreFirst, AreAssigned, AreGathered, HasPassed, HavePassed, HaveWorked, HaveMade, Works}
use Rattle.streams.proofs.Listed.{mapped_at}
use Rattle.report.proofs.Working.{done_works}

-- ---- what is at a place of a list

at_snoc : {A : Type 0} (xs : List A) (x y : A) (i : ℕ) → slice_get (xs ++ x ∷ []) i ≡ Some y → ((i < length xs) × (slice_get xs i ≡ Some y)) ⊎ ((i ≡ length xs) × (x ≡ y))
at_snoc [] x y zero e = inr (refl, cc e)
at_snoc [] x y (suc i) e = absurd (cc e)
at_snoc (z ∷ xs) x y zero e = inl (omega arith, e)
at_snoc (z ∷ xs) x y (suc i) e = ⊎_elim (λ (t : (i < length xs) × (slice_get xs i ≡ Some y)). inl (omega (arith, t.0), t.1)) (λ (t : (i ≡ length xs) × (x ≡ y)). inr (ap suc t.0, t.1)) (at_snoc xs x y i e)

at_set : {A : Type 0} (xs : List A) (i : ℕ) (x : A) → i < length xs → slice_get (set xs i x) i ≡ Some x
at_set [] i x lt = absurd (omega arith)
at_set (y ∷ ys) zero x lt = refl
at_set (y ∷ ys) (suc i) x lt = at_set ys i x (omega arith)

beside_set : {A : Type 0} (xs : List A) (i j : ℕ) (x : A) → j ≢ i → slice_get (set xs i x) j ≡ slice_get xs j
beside_set [] i j x apart = refl
beside_set (y ∷ ys) zero zero x apart = absurd (apart refl)
beside_set (y ∷ ys) zero (suc j) x apart = refl
beside_set (y ∷ ys) (suc i) zero x apart = refl
beside_set (y ∷ ys) (suc i) (suc j) x apart = beside_set ys i j x (λ e. apart (ap suc e))

-- ---- a thread for each pass

pub first_more : (bs : List (Pass Live)) (dies : List (Option ℕ)) (vs : List Worker) (b : Pass Live) (v : Worker) → AreFirst bs dies vs → v.pass ≡ Lives b → slice_get dies (length vs) ≡ Some v.die → AreFirst (bs ++ b ∷ []) dies (vs ++ v ∷ [])
first_more bs dies vs b v so_far its die = record {
  as_many = let many = so_far.as_many in omega (arith, length-append bs (b ∷ []), length-append vs (v ∷ []));
  each = λ i a u is is'. both i a u (at_snoc bs b a i is) (at_snoc vs v u i is');
} where
  both : (i : ℕ) (a : Pass Live) (u : Worker) → ((i < length bs) × (slice_get bs i ≡ Some a)) ⊎ ((i ≡ length bs) × (b ≡ a)) → ((i < length vs) × (slice_get vs i ≡ Some u)) ⊎ ((i ≡ length vs) × (v ≡ u)) → (u.pass ≡ Lives a) × (slice_get dies i ≡ Some u.die)
  both i a u (inl here) (inl there) = so_far.each i a u here.1 there.1
  both i a u (inl here) (inr there) = let many = so_far.as_many in let low = here.0 in let high = there.0 in absurd (omega arith)
  both i a u (inr here) (inl there) = let many = so_far.as_many in let low = there.0 in let high = here.0 in absurd (omega arith)
  both i a u (inr here) (inr there) = (
    ap (λ (x : Worker). x.pass) (sym there.1) ∙ its ∙ ap Lives here.1,
    ap (slice_get dies) there.0 ∙ die ∙ ap (λ (x : Worker). Some x.die) there.1,
  )

-- ---- a job for each thread

pub one_more_assigned : (p : Phase) (vs : List Worker) (js : List Job) (v : Worker) (j : Job) → AreAssigned p vs js → j.pass ≡ v.pass → j.die ≡ v.die → j.calls.items ≡ calls_in (length js + 1) p → AreAssigned p (vs ++ v ∷ []) (js ++ j ∷ [])
one_more_assigned p vs js v j so_far pass die calls = record {
  as_many = let many = so_far.as_many in omega (arith, length-append vs (v ∷ []), length-append js (j ∷ []));
  each = λ i u k is is'. both i u k (at_snoc vs v u i is) (at_snoc js j k i is');
} where
  both : (i : ℕ) (u : Worker) (k : Job) → ((i < length vs) × (slice_get vs i ≡ Some u)) ⊎ ((i ≡ length vs) × (v ≡ u)) → ((i < length js) × (slice_get js i ≡ Some k)) ⊎ ((i ≡ length js) × (j ≡ k)) → (k.pass ≡ u.pass) × (k.die ≡ u.die) × (k.calls.items ≡ calls_in (i + 1) p)
  both i u k (inl here) (inl there) = so_far.each i u k here.1 there.1
  both i u k (inl here) (inr there) = let many = so_far.as_many in let low = here.0 in let high = there.0 in absurd (omega arith)
  both i u k (inr here) (inl there) = let many = so_far.as_many in let low = there.0 in let high = here.0 in absurd (omega arith)
  both i u k (inr here) (inr there) = (
    ap (λ (x : Job). x.pass) (sym there.1) ∙ pass ∙ ap (λ (x : Worker). x.pass) here.1,
    ap (λ (x : Job). x.die) (sym there.1) ∙ die ∙ ap (λ (x : Worker). x.die) here.1,
    ap (λ (x : Job). x.calls.items) (sym there.1) ∙ calls ∙ ap (λ (n : ℕ). calls_in (n + 1) p) (sym there.0),
  )

-- ---- a record of each thread more

pub gathered_more : (ks : List Record) (k : Record) (bs : List Worker) (b : Worker) (before after : List (Vec Reply Global)) (n : ℕ) (r r' : Vec Reply Global) → AreGathered ks bs before after → ((i : ℕ) → length bs ≤ i → slice_get after i ≡ slice_get before i) → n ≡ length bs → n < length after → b ≡ record { pass = k.pass; die = k.die } → r ≡ get_or after n r → r'.items ≡ r.items ++ k.replies.items
    → AreGathered (ks ++ k ∷ []) (bs ++ b ∷ []) before (set after n r')
gathered_more ks k bs b before after n r r' so_far others count lt its at grown = record {
  as_many = let many = so_far.as_many in omega (arith, length-append ks (k ∷ []), length-append bs (b ∷ []));
  as_long = length-set after n r' ∙ so_far.as_long;
  each = λ i l c x x' is_l is_c is_x is_x'. both i l c x x' (at_snoc ks k l i is_l) (at_snoc bs b c i is_c) is_x is_x';
} where
  both : (i : ℕ) (l : Record) (c : Worker) (x x' : Vec Reply Global) → ((i < length ks) × (slice_get ks i ≡ Some l)) ⊎ ((i ≡ length ks) × (k ≡ l)) → ((i < length bs) × (slice_get bs i ≡ Some c)) ⊎ ((i ≡ length bs) × (b ≡ c)) → slice_get before i ≡ Some x → slice_get (set after n r') i ≡ Some x' → (c ≡ record { pass = l.pass; die = l.die }) × (x'.items ≡ x.items ++ l.replies.items)
  both i l c x x' (inl p) (inl q) is_x is_x' = let low = q.0 in let apart : i ≢ n = omega arith in so_far.each i l c x x' p.1 q.1 is_x (sym (beside_set after n i r' apart) ∙ is_x')
  both i l c x x' (inl p) (inr q) is_x is_x' = let many = so_far.as_many in let low = p.0 in let high = q.0 in absurd (omega arith)
  both i l c x x' (inr p) (inl q) is_x is_x' = let many = so_far.as_many in let low = q.0 in let high = p.0 in absurd (omega arith)
  both i l c x x' (inr p) (inr q) is_x is_x' =
      let here : i ≡ n = q.0 ∙ sym count in
      let same : Some r' ≡ Some x' = sym (at_set after n r' lt) ∙ ap (λ (j : ℕ). slice_get (set after n r') j) (sym here) ∙ is_x' in
      let now : slice_get after i ≡ Some x = others i (let e = q.0 in omega arith) ∙ is_x in
      let was : r ≡ x = at ∙ ap (λ (j : ℕ). get_or after j r) (sym here) ∙ get_or_from_slice_get after i x r now in
      let is : r' ≡ x' = cc same in
      let rec : k ≡ l = p.1 in (
        sym q.1 ∙ its ∙ ap (λ (z : Record). record { pass = z.pass; die = z.die }) rec,
        ap (λ (z : Vec Reply Global). z.items) (sym is) ∙ grown ∙ ap (λ (z : Vec Reply Global). z.items ++ k.replies.items) was ∙ ap (λ (z : Record). x.items ++ z.replies.items) rec,
      )

-- the other threads' stay
pub others_stay : (bs : List Worker) (b : Worker) (before after : List (Vec Reply Global)) (n : ℕ) (r' : Vec Reply Global) → ((i : ℕ) → length bs ≤ i → slice_get after i ≡ slice_get before i) → n ≡ length bs → (i : ℕ) → length (bs ++ b ∷ []) ≤ i → slice_get (set after n r') i ≡ slice_get before i
others_stay bs b before after n r' others count i past =
    let longer = length-append bs (b ∷ []) in
    let apart : i ≢ n = omega arith in
    beside_set after n i r' apart ∙ others i (omega arith)

-- ---- a phase, and all phases

pub length_mapped : {A B : Type 0} (f : A → B) (xs : List A) → length (map f xs) ≡ length xs
length_mapped f [] = refl
length_mapped f (x ∷ xs) = ap suc (length_mapped f xs)

pub some_at : {A : Type 0} (xs : List A) (i : ℕ) → i < length xs → (x : A) × (slice_get xs i ≡ Some x)
some_at [] i lt = absurd (omega arith)
some_at (x ∷ xs) zero lt = (x, refl)
some_at (x ∷ xs) (suc i) lt = some_at xs i (omega arith)

pub all_at : {A : Type 0} (P : A → Type 0) (xs : List A) (i : ℕ) (x : A) → All P xs → slice_get xs i ≡ Some x → P x
all_at P xs i x all is = subst P (get_or_from_slice_get xs i x x is) (all i x (slice_get_within xs i x is))

each_at : {A B : Type 0} (P : A → B → Type 0) (xs : List A) (ys : List B) (i : ℕ) (x : A) (y : B) → EachWith P xs ys → slice_get xs i ≡ Some x → slice_get ys i ≡ Some y → P x y
each_at P [] ys i x y each is is' = absurd (cc is)
each_at P (a ∷ xs) [] i x y each is is' = absurd each
each_at P (a ∷ xs) (b ∷ ys) zero x y each is is' = let one : a ≡ x = cc is in let other : b ≡ y = cc is' in subst (λ (z : _). P z y) one (subst (P a) other each.0)
each_at P (a ∷ xs) (b ∷ ys) (suc i) x y each is is' = each_at P xs ys i x y each.1 is is'

pub as_long : {A B : Type 0} (P : A → B → Type 0) (xs : List A) (ys : List B) → EachWith P xs ys → length ys ≡ length xs
as_long P [] [] p = refl
as_long P [] (y ∷ ys) p = absurd p
as_long P (x ∷ xs) [] p = absurd p
as_long P (x ∷ xs) (y ∷ ys) p = ap suc (as_long P xs ys p.1)

-- its calls in a phase are on mutexes and condition variables that there are
right_calls : (k : Layout') (t : ℕ) (j : Ordered) → ArePossible k j.calls → All (λ c. is_in k c ≡ true) (calls_at t j)
right_calls k t j all = go (j.thread == t) where
  go : (b : Bool) → All (λ c. is_in k c ≡ true) (if b then j.calls.items else [])
  go true = all
  go false = λ i d lt. absurd (omega (arith, lt))

pub rights : (k : Layout') (t : ℕ) (jobs : List Ordered) → All (λ j. ArePossible k j.calls) jobs → All (λ c. is_in k c ≡ true) (flat_map (calls_at t) jobs)
rights k t [] all = λ i d lt. absurd (omega (arith, lt))
rights k t (j ∷ jobs) all =
    All-append (λ c. is_in k c ≡ true) (calls_at t j) (flat_map (calls_at t) jobs) (right_calls k t j (All-head (λ x. ArePossible k x.calls) j jobs all)) (rights k t jobs (All-tail (λ x. ArePossible k x.calls) j jobs all))

-- the jobs that bench and phase allow
pub jobs_right : (w : Words) (p : Phase) (vs : List Worker) (js : List Job) → AreAssigned p vs js → All (λ v. IsWorkerOf w v.pass) vs → IsRightPhase (layout_of w) p → (k : ℕ) (d : Job) → k < length js → IsJobOf w (get_or js k d)
jobs_right w p vs js assigned right possible k d lt =
    let many = assigned.as_many in
    let mine = some_at vs k (omega arith) in
    let both = assigned.each k mine.0 (get_or js k d) mine.1 (slice_get-get_or js k d lt) in (
      subst (λ (z : WorkerPass). IsWorkerOf w z) (sym both.0) (all_at (λ v. IsWorkerOf w v.pass) vs k mine.0 right mine.1),
      subst (λ (cs : List Op). All (λ c. is_in (layout_of w) c ≡ true) cs) (sym both.2) (rights (layout_of w) (k + 1) p.jobs.items possible),
    )

-- a thread in a phase
worked_at : (w : Words) (p : Phase) (vs vs' : List Worker) (js : List Job) (ks : List Record) (rs rs' : List (Vec Reply Global)) → AreAssigned p vs js → All (λ v. IsWorkerOf w v.pass) vs → AreDone w open_gate js ks → AreGathered ks vs' rs rs' → (i : ℕ) (u v : Worker) (r r' : Vec Reply Global) → slice_get vs i ≡ Some u → slice_get vs' i ≡ Some v → slice_get rs i ≡ Some r → slice_get rs' i ≡ Some r'
    → IsWorkerOf w v.pass × ((more : List Reply) × (r'.items ≡ r.items ++ more) × Works w (calls_in (i + 1) p) u more v)
worked_at w p vs vs' js ks rs rs' assigned right done gathered i u v r r' is_u is_v is_r is_r' =
    let low : i < length vs = slice_get_within vs i u is_u in
    let many = assigned.as_many in
    let j : (j : Job) × (slice_get js i ≡ Some j) = some_at js i (omega arith) in
    let long = as_long (IsDone w open_gate) js ks done in
    let k : (k : Record) × (slice_get ks i ≡ Some k) = some_at ks i (omega arith) in
    let its = assigned.each i u j.0 is_u j.1 in
    let did = each_at (IsDone w open_gate) js ks i j.0 k.0 done j.1 k.1 in
    let left = gathered.each i k.0 v r r' k.1 is_v is_r is_r' in
    let was = subst (λ (z : WorkerPass). IsWorkerOf w z) (sym its.0) (all_at (λ v. IsWorkerOf w v.pass) vs i u right is_u) in (
      subst (λ (z : Worker). IsWorkerOf w z.pass) (sym left.0) (still_works w open_gate j.0 k.0 did was),
      (k.0.replies.items, left.1, done_works w (calls_in (i + 1) p) u v j.0 k.0 its.0 its.1 its.2 left.0 did),
    )

-- and all of them
pub worked : (w : Words) (p : Phase) (vs vs' : List Worker) (js : List Job) (ks : List Record) (rs rs' : List (Vec Reply Global)) → AreAssigned p vs js → All (λ v. IsWorkerOf w v.pass) vs → AreDone w open_gate js ks → AreGathered ks vs' rs rs' → length rs ≡ length vs → HaveWorked w p vs vs' rs rs'
worked w p vs vs' js ks rs rs' assigned before done gathered same = record {
  as_many = many;
  as_long = gathered.as_long;
  right = right;
  each = λ i u v r r' is_u is_v is_r is_r'. (worked_at w p vs vs' js ks rs rs' assigned before done gathered i u v r r' is_u is_v is_r is_r').1;
} where
  many : length vs' ≡ length vs
  many = gathered.as_many ∙ as_long (IsDone w open_gate) js ks done ∙ assigned.as_many

  right : (i : ℕ) (d : Worker) → i < length vs' → IsWorkerOf w (get_or vs' i d).pass
  right i d lt =
      let count = many in
      let long = gathered.as_long in
      let u = some_at vs i (omega arith) in
      let r = some_at rs i (omega arith) in
      let r' = some_at rs' i (omega arith) in
      (worked_at w p vs vs' js ks rs rs' assigned before done gathered i u.0 (get_or vs' i d) r.0 r'.0 u.1 (slice_get-get_or vs' i d lt) r.1 r'.1).0

a_worker : (w : Words) (pass : WorkerPass) → LivesOn w pass → IsWorkerOf w pass
a_worker w (Lives a) lives = lives
a_worker w (Reaped d) lives = absurd lives

-- before the first phase
pub none_made : (w : Words) (firsts : List Worker) (rs : List (Vec Reply Global)) → All (λ v. LivesOn w v.pass) firsts → length rs ≡ length firsts → All (λ r. r.items ≡ []) rs → HaveMade w [] firsts firsts rs
none_made w firsts rs live same empty = record {
  as_many = refl;
  as_long = same;
  right = λ i d lt. a_worker w (get_or firsts i d).pass (live i d lt);
  none = rs;
  each = same;
  empty = empty;
  passed = (refl, refl);
}

passed_more : (w : Words) (ps : List Phase) (p : Phase) (us vs vs' : List Worker) (rs rs' rs'' : List (Vec Reply Global)) → HavePassed w ps us rs vs rs' → HasPassed w p vs vs' rs' rs'' → HavePassed w (ps ++ p ∷ []) us rs vs' rs''
passed_more w [] p us vs vs' rs rs' rs'' passed h =
    (vs', rs'', subst (λ (z : List Worker × List (Vec Reply Global)). HasPassed w p z.0 vs' z.1 rs'') (λ i. (sym passed.0 i, sym passed.1 i)) h, (refl, refl))
passed_more w (q ∷ ps) p us vs vs' rs rs' rs'' passed h = (passed.0, passed.1, passed.2, passed_more w ps p passed.0 vs vs' passed.1 rs' rs'' passed.3 h)

many_met : (w : Words) (vs met : List Worker) → HaveMet w vs met → length met ≡ length vs
many_met w vs met m = sym (length_mapped (λ (z : Worker). z.die) met) ∙ ap length m.numbers ∙ length_mapped (λ (z : Worker). z.die) vs

-- one phase more
pub made_next : (w : Words) (ps : List Phase) (i : ℕ) (p : Phase) (firsts vs vs' : List Worker) (rs rs' : List (Vec Reply Global)) → i < length ps → p ≡ get_or ps i p → HaveMade w (take i ps) firsts vs rs → HasPassed w p vs vs' rs rs' → HaveMade w (take (i + 1) ps) firsts vs' rs'
made_next w ps i p firsts vs vs' rs rs' lt at made h = record {
  as_many = many_met w h.worked vs' h.meeting ∙ h.work.as_many ∙ made.as_many;
  as_long = h.work.as_long ∙ made.as_long;
  right = h.meeting.right;
  none = made.none;
  each = made.each;
  empty = made.empty;
  passed = subst (λ (qs : List Phase). HavePassed w qs firsts made.none vs' rs') (ap (λ (q : Phase). take i ps ++ q ∷ []) at ∙ sym (take_more ps i p lt)) (passed_more w (take i ps) p firsts vs vs' made.none rs rs' made.passed h);
}

-- ---- the end

pub if_ok : {T E : Type 0} (P Q : T → Type 0) (r : Result T E) → IfOk r P → ((x : T) → P x → Q x) → IfOk r Q
if_ok P Q (Ok x) is go = go x is
if_ok P Q (Err e) is go = is

-- a pass more, put aside for the end
pub cards_more : (ps ps' : List (Pass Spent)) (p : Pass Spent) (v : Worker) (left rest : List Worker) (all : List Card) → ps' ≡ ps ++ p ∷ [] → card p ≡ card_in v.pass → left ≡ v ∷ rest → map (λ (q : Pass Spent). card q) ps ++ map (λ (u : Worker). card_in u.pass) left ≡ all → map (λ (q : Pass Spent). card q) ps' ++ map (λ (u : Worker). card_in u.pass) rest ≡ all
cards_more ps ps' p v left rest all more same first so_far =
    let cards : List (Pass Spent) → List Card = map (λ (q : Pass Spent). card q) in
    let theirs : List Worker → List Card = map (λ (u : Worker). card_in u.pass) in
    ap (λ (qs : List (Pass Spent)). cards qs ++ theirs rest) more ∙ ap (λ (cs : List Card). cs ++ theirs rest) (map-append (λ (q : Pass Spent). card q) ps (p ∷ [])) ∙ append_assoc (cards ps) (card p ∷ []) (theirs rest) ∙ ap (λ (c : Card). cards ps ++ c ∷ theirs rest) same
    ∙ ap (λ (vs : List Worker). cards ps ++ theirs vs) (sym first) ∙ so_far

-- whether a thread died
pub its_end : (vs : List Worker) (died : List Bool) (i : ℕ) (v : Worker) (d : Bool) → died ≡ map (λ v. is_reaped v.pass) vs → slice_get vs i ≡ Some v → slice_get died i ≡ Some d → is_reaped v.pass ≡ d
its_end vs died i v d same is_v is_d = same_Some _ _ (sym (mapped_at (λ v. is_reaped v.pass) vs i v is_v) ∙ ap (λ (ds : List Bool). slice_get ds i) (sym same) ∙ is_d)

-- the first threads live
pub firsts_live : (w : Words) (passes : List (Pass Live)) (dies : List (Option ℕ)) (firsts : List Worker) → AreFirst passes dies firsts → All (λ a. IsLive w a) passes → (i : ℕ) (d : Worker) → i < length firsts → LivesOn w (get_or firsts i d).pass
firsts_live w passes dies firsts numbers live i d lt =
    let many = numbers.as_many in
    let a = some_at passes i (omega arith) in
    let its = numbers.each i a.0 (get_or firsts i d) a.1 (slice_get-get_or firsts i d lt) in
    subst (λ (z : WorkerPass). LivesOn w z) (sym its.0) (all_at (λ a. IsLive w a) passes i a.0 live a.1)
