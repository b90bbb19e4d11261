-- Kills of the threads of one process.
use Rattle.std.proofs.Common.{◌≡◌, ℕ, zero, suc, ◌+◌, ◌-◌, ◌<◌, ◌≤◌, ◌==◌, Bool, true, false, cond, List, [], ◌∷◌, ◌++◌, length, map, get_or, Some, Ok, Err, refl, sym, ap, ◌∙◌, subst, arith, append-nil, eqb-true, eq-eqb, ◌≢◌}
use Rattle.std.proofs.lemmas.Bool.{eqb-false}
use Rattle.std.proofs.lemmas.Grind.{get_or_default_zero}
use Rattle.std.specs.Prelude.{slice_get, slice_index}
use Rattle.std.specs.List.{filter, range_with_len, Contains}
use Rattle.std.proofs.lemmas.List.{map-append}
use Rattle.std.proofs.lemmas.List.Elements.{filter-append}
use Rattle.std.proofs.lemmas.Option.{get_or_from_slice_get, slice_get-get_or}
use Rattle.memorymap.specs.Layouts.{Layout'}
use Rattle.protocol.specs.declared.event.Event.{Event}
use Rattle.protocol.specs.declared.event.Event.TheVariants.{Kill}
use Rattle.protocol.specs.declared.note.Note.{Note}
use Rattle.protocol.specs.Machine.{State}
use Rattle.script.specs.declared.fault.Fault.{Fault}
use Rattle.script.specs.Limits.{max_events}
use Rattle.script.specs.Scope.{Scope, IsWellFormed}
use Rattle.script.specs.Playing.{Adds, first_state, layout_of, killing, members_among}
use Rattle.script.specs.Killing.{KillsProcess, KillallKillsOneProcess}
use Rattle.script.proofs.Layouts.{run_layout}
use Rattle.script.proofs.Plays.{then_adds, adds_fewer}

-- ---- the threads, one after the other

range_split : (a m n : ℕ) → range_with_len a (m + n) ≡ range_with_len a m ++ range_with_len (a + m) n
range_split a zero n =
    let none : 0 + n ≡ n = omega arith in
    let same : a + 0 ≡ a = omega arith in
    ap (range_with_len a) none ∙ ap (λ (k : ℕ). range_with_len k n) (sym same)
range_split a (suc m) n =
    let one : suc m + n ≡ suc (m + n) = omega arith in
    let same : a + 1 + m ≡ a + suc m = omega arith in
    ap (range_with_len a) one ∙ ap (λ (l : List ℕ). a ∷ l) (range_split (a + 1) m n ∙ ap (λ (k : ℕ). range_with_len (a + 1) m ++ range_with_len k n) same)

-- the kills of the first k threads
abbrev pub killed_among : Layout' → ℕ → ℕ → List Event
killed_among l p k = map Kill (members_among l p k)

-- those of one thread more
abbrev pub one_kill : Layout' → ℕ → ℕ → List Event
one_kill l p k = cond (slice_index l.processes k == p) (Kill (k + 1) ∷ []) []

split_kills : (l : Layout') (p m n : ℕ) → killed_among l p (m + n) ≡ killed_among l p m ++ map Kill (filter (λ t. slice_index l.processes (t - 1) == p) (range_with_len (1 + m) n))
split_kills l p m n =
    let test : ℕ → Bool = λ t. slice_index l.processes (t - 1) == p in
    ap (λ (ts : List ℕ). map Kill (filter test ts)) (range_split 1 m n)
    ∙ ap (λ (ts : List ℕ). map Kill ts) (filter-append test (range_with_len 1 m) (range_with_len (1 + m) n))
    ∙ map-append Kill (filter test (range_with_len 1 m)) (filter test (range_with_len (1 + m) n))

mapped : (b : Bool) (t : ℕ) → map Kill (cond b (t ∷ []) []) ≡ cond b (Kill t ∷ []) []
mapped true t = refl
mapped false t = refl

pub next_kill : (l : Layout') (p k : ℕ) → killed_among l p (k + 1) ≡ killed_among l p k ++ one_kill l p k
next_kill l p k =
    let place : 1 + k - 1 ≡ k = omega arith in
    let id : 1 + k ≡ k + 1 = omega arith in
    split_kills l p k 1 ∙ ap (λ (es : List Event). killed_among l p k ++ es)
    (mapped (slice_index l.processes (1 + k - 1) == p) (1 + k) ∙ (λ i. cond (slice_index l.processes (place i) == p) (Kill (id i) ∷ []) []))

-- where the loop over the threads is after k of them
pub record IsKilling (s s' : State) (ns ns' : List Note) (p k : ℕ) : Type 0 where
  pub so_far : Adds s s' ns ns' (killed_among s.layout p k) (Ok tt)
  pub same : s'.layout ≡ s.layout

pub kills_first : (s : State) (ns : List Note) (p : ℕ) → length ns ≤ max_events → IsKilling s s ns ns p 0
kills_first s ns p fits = record { so_far = (refl, sym (append-nil ns), omega arith); same = refl }

none_killed : (l : Layout') (p k : ℕ) → (slice_index l.processes k == p) ≡ false → killed_among l p (k + 1) ≡ killed_among l p k
none_killed l p k other = next_kill l p k ∙ ap (λ (b : Bool). killed_among l p k ++ cond b (Kill (k + 1) ∷ []) []) other ∙ append-nil (killed_among l p k)

one_killed : (l : Layout') (p k : ℕ) → (slice_index l.processes k == p) ≡ true → killed_among l p (k + 1) ≡ killed_among l p k ++ Kill (k + 1) ∷ []
one_killed l p k its = next_kill l p k ∙ ap (λ (b : Bool). killed_among l p k ++ cond b (Kill (k + 1) ∷ []) []) its

-- a thread of another process
pub kills_pass : (s s' : State) (ns ns' : List Note) (p k : ℕ) → IsKilling s s' ns ns' p k → (slice_index s.layout.processes k == p) ≡ false → IsKilling s s' ns ns' p (k + 1)
kills_pass s s' ns ns' p k h other = record {
  so_far = subst (λ (es : List Event). Adds s s' ns ns' es (Ok tt)) (sym (none_killed s.layout p k other)) h.so_far;
  same = h.same;
}

-- a thread of the process
pub kills_next : (s s' s'' : State) (ns ns' ns'' : List Note) (p k : ℕ) → IsKilling s s' ns ns' p k → (slice_index s.layout.processes k == p) ≡ true → Adds s' s'' ns' ns'' (Kill (k + 1) ∷ []) (Ok tt) → IsKilling s s'' ns ns'' p (k + 1)
kills_next s s' s'' ns ns' ns'' p k h its a = record {
  so_far = subst (λ (es : List Event). Adds s s'' ns ns'' es (Ok tt)) (sym (one_killed s.layout p k its)) (then_adds s s' s'' ns ns' ns'' (killed_among s.layout p k) (Kill (k + 1) ∷ []) (Ok tt) h.so_far a);
  same = ap (λ (z : State). z.layout) a.0 ∙ run_layout s' (Kill (k + 1) ∷ []) ∙ h.same;
}

pub kills_fail : (s s' s'' : State) (ns ns' ns'' : List Note) (p k : ℕ) (f : Fault) → IsKilling s s' ns ns' p k → k < s.layout.threads → (slice_index s.layout.processes k == p) ≡ true → Adds s' s'' ns' ns'' (Kill (k + 1) ∷ []) (Err f)
    → Adds s s'' ns ns'' (killing s.layout p) (Err f)
kills_fail s s' s'' ns ns' ns'' p k f h lt its a =
    let l = s.layout in
    let all : k + 1 + (l.threads - (k + 1)) ≡ l.threads = omega arith in
    let rest = map Kill (filter (λ t. slice_index l.processes (t - 1) == p) (range_with_len (1 + (k + 1)) (l.threads - (k + 1)))) in
    let whole : (killed_among l p k ++ Kill (k + 1) ∷ []) ++ rest ≡ killing l p = ap (λ (es : List Event). es ++ rest) (sym (one_killed l p k its)) ∙ sym (split_kills l p (k + 1) (l.threads - (k + 1))) ∙ ap (killed_among l p) all in
    subst (λ (es : List Event). Adds s s'' ns ns'' es (Err f)) whole
    (adds_fewer s s'' s'' ns ns'' ns'' (killed_among l p k ++ Kill (k + 1) ∷ []) rest f (then_adds s s' s'' ns ns' ns'' (killed_among l p k) (Kill (k + 1) ∷ []) (Err f) h.so_far a))

pub kills_last : (s s' : State) (ns ns' : List Note) (p k : ℕ) → IsKilling s s' ns ns' p k → k ≡ s.layout.threads → Adds s s' ns ns' (killing s.layout p) (Ok tt)
kills_last s s' ns ns' p k h all = subst (λ (n : ℕ). Adds s s' ns ns' (killed_among s.layout p n) (Ok tt)) all h.so_far

-- the process that the code looked up is the one that is killed
pub its_process : (l l' : Layout') (p k t x : ℕ) → t ≡ k + 1 → l' ≡ l → x ≡ slice_index l'.processes (t - 1) → x ≡ slice_index l.processes k
its_process l l' p k t x is same found =
    let place : t - 1 ≡ k = omega arith in
    found ∙ (λ i. slice_index (same i).processes (place i))

-- ---- which threads they are

-- who is among n threads from a on passes the test and is one of them
passes : (test : ℕ → Bool) (a n j : ℕ) → j < length (filter test (range_with_len a n))
    → (a ≤ get_or (filter test (range_with_len a n)) j 0) × (get_or (filter test (range_with_len a n)) j 0 < a + n) × (test (get_or (filter test (range_with_len a n)) j 0) ≡ true)
passes test a zero j inside = absurd (omega arith)
passes test a (suc n) j inside = go (λ k lt. passes test (a + 1) n k lt) (test a) refl j inside
  where
    Rest : Type 0
    Rest = (k : ℕ) → k < length (filter test (range_with_len (a + 1) n))
        → (a + 1 ≤ get_or (filter test (range_with_len (a + 1) n)) k 0) × (get_or (filter test (range_with_len (a + 1) n)) k 0 < a + 1 + n) × (test (get_or (filter test (range_with_len (a + 1) n)) k 0) ≡ true)

    Among : ℕ → Type 0
    Among t = (a ≤ t) × (t < a + suc n) × (test t ≡ true)

    later : Rest → (k : ℕ) → k < length (filter test (range_with_len (a + 1) n)) → Among (get_or (filter test (range_with_len (a + 1) n)) k 0)
    later rest k lt = let found = rest k lt in let low = found.0 in let high = found.1 in (omega arith, omega arith, found.2)

    go : Rest → (b : Bool) → test a ≡ b → (j : ℕ) → j < length (cond b (a ∷ filter test (range_with_len (a + 1) n)) (filter test (range_with_len (a + 1) n)))
        → Among (get_or (cond b (a ∷ filter test (range_with_len (a + 1) n)) (filter test (range_with_len (a + 1) n))) j 0)
    go rest false is j inside = later rest j inside
    go rest true is zero inside = (omega arith, omega arith, is)
    go rest true is (suc j) inside = later rest j (omega (arith, inside))

-- and who passes it is among them
comes : (test : ℕ → Bool) (a n t : ℕ) → a ≤ t → t < a + n → test t ≡ true → Contains (filter test (range_with_len a n)) t
comes test a zero t low high is = absurd (omega arith)
comes test a (suc n) t low high is = go (test a) refl (a == t) refl (λ apart. let differ : a ≢ t = eqb-false a t apart in comes test (a + 1) n t (omega arith) (omega arith) is)
  where
    go : (b : Bool) → test a ≡ b → (d : Bool) → (a == t) ≡ d → ((a == t) ≡ false → Contains (filter test (range_with_len (a + 1) n)) t)
        → Contains (cond b (a ∷ filter test (range_with_len (a + 1) n)) (filter test (range_with_len (a + 1) n))) t
    go true passed true same rest = (0, omega arith, eqb-true a t same)
    go true passed false apart rest = let h = rest apart in (suc h.0, let inside = h.1 in omega arith, h.2)
    go false failed true same rest = absurd (cc (sym failed ∙ ap test (eqb-true a t same) ∙ is))
    go false failed false apart rest = rest apart

-- the members among n threads from a on are in order
in_order : (test : ℕ → Bool) (a n i j : ℕ) → i < j → j < length (filter test (range_with_len a n)) → get_or (filter test (range_with_len a n)) i 0 < get_or (filter test (range_with_len a n)) j 0
in_order test a zero i j lt inside = absurd (omega arith)
in_order test a (suc n) i j lt inside = go (λ k m below within. in_order test (a + 1) n k m below within) (test a) i j lt inside
  where
    Rest : Type 0
    Rest = (k m : ℕ) → k < m → m < length (filter test (range_with_len (a + 1) n)) → get_or (filter test (range_with_len (a + 1) n)) k 0 < get_or (filter test (range_with_len (a + 1) n)) m 0

    go : Rest → (b : Bool) (i j : ℕ) → i < j → j < length (cond b (a ∷ filter test (range_with_len (a + 1) n)) (filter test (range_with_len (a + 1) n)))
        → get_or (cond b (a ∷ filter test (range_with_len (a + 1) n)) (filter test (range_with_len (a + 1) n))) i 0 < get_or (cond b (a ∷ filter test (range_with_len (a + 1) n)) (filter test (range_with_len (a + 1) n))) j 0
    go rest false i j lt inside = rest i j lt inside
    go rest true i zero lt inside = absurd (omega arith)
    go rest true zero (suc j) lt inside = let least = (passes test (a + 1) n j (omega (arith, inside))).0 in omega (arith, least)
    go rest true (suc i) (suc j) lt inside = rest i j (omega arith) (omega (arith, inside))

-- a thread of the layout is one of the script
kills_of : (s : Scope) (p : ℕ) → IsWellFormed s → KillsProcess s p (killing (layout_of s) p)
kills_of s p whole = record {
  killed = members_among (layout_of s) p (length s.threads);
  kills = refl;
  in_order = in_order test 1 (length s.threads);
  its_own = λ t there.
      let at : get_or ts there.0 0 ≡ t = sym (get_or_default_zero ts there.0 t there.1) ∙ there.2 in
      let found = passes test 1 (length s.threads) there.0 there.1 in
      let low : 1 ≤ t = subst (λ (u : ℕ). 1 ≤ u) at found.0 in
      let high : t < 1 + length s.threads = subst (λ (u : ℕ). u < 1 + length s.threads) at found.1 in
      let is : test t ≡ true = ap test (sym at) ∙ found.2 in
      let each = whole.within.each_thread in
      (low, slice_get-get_or s.members (t - 1) 0 (omega arith) ∙ ap Some (eqb-true (get_or s.members (t - 1) 0) p is));
  all = λ t its.
      let value : get_or s.members (t - 1) 0 ≡ p = get_or_from_slice_get s.members (t - 1) p 0 its.1 in
      let each = whole.within.each_thread in
      let low = its.0 in
      let inside : t - 1 < length s.members = inside_of s.members (t - 1) p its.1 in
      comes test 1 (length s.threads) t low (omega arith) (eq-eqb (get_or s.members (t - 1) 0) p value);
}
  where
    test : ℕ → Bool
    test t = slice_index s.members (t - 1) == p

    ts : List ℕ
    ts = filter (λ t. slice_index s.members (t - 1) == p) (range_with_len 1 (length s.threads))

    inside_of : (xs : List ℕ) (i x : ℕ) → slice_get xs i ≡ Some x → i < length xs
    inside_of [] i x h = absurd cc
    inside_of (y ∷ ys) zero x h = omega arith
    inside_of (y ∷ ys) (suc i) x h = let rest = inside_of ys i x h in omega arith

pub kills_one : KillallKillsOneProcess
kills_one s before p whole = subst (λ (l : Layout'). KillsProcess s p (killing l p)) (sym (run_layout (first_state s) before)) (kills_of s p whole)
