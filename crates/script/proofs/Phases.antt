-- Phases, one after the other, and the calls in them.
use Rattle.std.proofs.Common.{◌≡◌, ℕ, ◌+◌, ◌-◌, ◌<◌, ◌≤◌, Bool, true, false, not, nat_lt, cond, List, [], ◌∷◌, ◌++◌, length, map, take, drop, get_or, Some, None, refl, sym, ap, ◌∙◌, arith, length-drop, length-append, append-nil, add-one, Result, Ok, Err, IfOk, set, subst, ◌==◌, ◌≢◌, if◌then◌else◌}
use Rattle.std.specs.Prelude.{Vec}
use Rattle.std.specs.declared.alloc.Global.{Global}
use Rattle.std.specs.List.{slice_split, position, position_or_len}
use Rattle.std.proofs.lemmas.Bool.Decides.{nat_tests}
use Rattle.std.proofs.lemmas.List.{take_all, drop_more, map_push, map-set, get_or-map, get_or_append_left, get_or-append_right, get_or-drop, get_or-set_same, get_or-set_other, length-set}
use Rattle.std.proofs.Math.Seq.{take-suc}
use Rattle.std.proofs.lemmas.List.Concat.{flat_map-append}
use Rattle.std.proofs.lemmas.List.Sums.{prefix_len-le-length}
use Rattle.std.proofs.lemmas.List.Splits.{slice_split_first}
use Rattle.condvar.specs.declared.op.Op.{Op}
use Rattle.script.specs.declared.command.Action.{Action}
use Rattle.script.specs.declared.command.Action.TheVariants as action
use Rattle.script.specs.declared.command.Command.{Command}
use Rattle.script.specs.declared.workload.Job.{Job}
use Rattle.script.specs.Jobs.{Job', AreCalls, call_by, calls_by, job_of, jobs_up_to, job_seen, lists_seen}
use Rattle.lines.proofs.Cutting.{none_passes}
use Rattle.script.proofs.Names.{length-map_of}

-- no element passes
pub parts_none : {X : Type 0} (p : X → Bool) (xs : List X) → position p xs ≡ None → slice_split p xs ≡ xs ∷ []
parts_none p xs h = go (nat_lt (position_or_len p xs) (length xs)) (refl) h where
  go : (b : Bool) → nat_lt (position_or_len p xs) (length xs) ≡ b → cond b (Some (position_or_len p xs)) None ≡ None → slice_split p xs ≡ xs ∷ []
  go true e n = absurd cc
  go false e n = let most = prefix_len-le-length (λ x. not (p x)) xs in none_passes p xs (grind (arith, nat_tests))

pub parts_at : {X : Type 0} (p : X → Bool) (xs : List X) (i : ℕ) → position p xs ≡ Some i → slice_split p xs ≡ take i xs ∷ slice_split p (drop (i + 1) xs)
parts_at p [] i h = absurd cc
parts_at p (x ∷ xs) i h = go (nat_lt (position_or_len p (x ∷ xs)) (length (x ∷ xs))) refl h where
  go : (b : Bool) → nat_lt (position_or_len p (x ∷ xs)) (length (x ∷ xs)) ≡ b → cond b (Some (position_or_len p (x ∷ xs))) None ≡ Some i → slice_split p (x ∷ xs) ≡ take i (x ∷ xs) ∷ slice_split p (drop (i + 1) (x ∷ xs))
  go false e n = absurd cc
  go true e n =
      let here : position_or_len p (x ∷ xs) ≡ i = cc in
      slice_split_first p (x ∷ xs) x (grind (arith, nat_tests)) ∙ ap (λ (k : ℕ). take k (x ∷ xs) ∷ slice_split p (drop (k + 1) (x ∷ xs))) here

pub all_of : {X : Type 0} (n : ℕ) (xs : List X) → take (length xs - n) (drop n xs) ≡ drop n xs
all_of n xs = take_all (length xs - n) (drop n xs) (omega (arith, length-drop n xs))

-- ---- the calls of each thread

calls_push : (t : ℕ) (cs : List Command) (c : Command) → calls_by t (cs ++ c ∷ []) ≡ calls_by t cs ++ call_by t c.action
calls_push t cs c = flat_map-append (λ x. call_by t x.action) cs (c ∷ []) ∙ ap (λ (ks : List Op). calls_by t cs ++ ks) (append-nil (call_by t c.action))

-- no calls yet, for one thread more
pub none_more : (n : ℕ) (ls : List (List Op)) → AreCalls n [] ls → AreCalls (n + 1) [] (ls ++ [] ∷ [])
none_more n ls h = record {
  as_many = let many = h.as_many in omega (arith, length-append ls ([] ∷ []));
  each = λ i lt. by_cases i lt (nat_lt i n) refl;
} where
  by_cases : (i : ℕ) → i < n + 1 → (b : Bool) → nat_lt i n ≡ b → get_or (ls ++ [] ∷ []) i [] ≡ []
  by_cases i lt true e = let many = h.as_many in let lower : i < n = grind (arith, nat_tests) in get_or_append_left ls ([] ∷ []) [] i (omega arith) ∙ h.each i lower
  by_cases i lt false e = let most : n ≤ i = grind (arith, nat_tests) in let first : i - n ≡ 0 = omega arith in get_or-append_right ls ([] ∷ []) n i [] h.as_many most ∙ ap (λ (j : ℕ). get_or ([] ∷ []) j []) first

pub none_yet : AreCalls 0 [] []
none_yet = record { as_many = refl; each = λ i lt. absurd (omega (arith, lt)) }

pub none_pushed : (n : ℕ) (vs : List (Vec Op Global)) (v : Vec Op Global) → v.items ≡ [] → AreCalls n [] (lists_seen vs) → AreCalls (n + 1) [] (lists_seen (vs ++ v ∷ []))
none_pushed n vs v e h = rw (map_push (λ x. x.items) vs v, e) (none_more n (lists_seen vs) h)

-- a call of thread j + 1 more
pub call_more : (n j : ℕ) (cs : List Command) (c : Command) (k : Op) (ls : List (List Op)) → j < length ls → c.action ≡ action.Call (j + 1) k → AreCalls n cs ls → AreCalls n (cs ++ c ∷ []) (set ls j (get_or ls j [] ++ k ∷ []))
call_more n j cs c k ls lt is h = record {
  as_many = length-set ls j (get_or ls j [] ++ k ∷ []) ∙ h.as_many;
  each = λ i few. by_cases i few (i == j) refl;
} where
  by_cases : (i : ℕ) → i < n → (b : Bool) → (i == j) ≡ b → get_or (set ls j (get_or ls j [] ++ k ∷ [])) i [] ≡ calls_by (i + 1) (cs ++ c ∷ [])
  by_cases i few true e =
      let same : i ≡ j = grind (arith, nat_tests) in
      let its : ((j + 1) == (i + 1)) ≡ true = grind (arith, nat_tests) in
      ap (λ (x : ℕ). get_or (set ls j (get_or ls j [] ++ k ∷ [])) x []) same ∙ get_or-set_same ls j (get_or ls j [] ++ k ∷ []) [] lt
      ∙ ap (λ (x : ℕ). get_or ls x [] ++ k ∷ []) (sym same) ∙ ap (λ (x : List Op). x ++ k ∷ []) (h.each i few)
      ∙ ap (λ (b : Bool). calls_by (i + 1) cs ++ (if b then k ∷ [] else [])) (sym its)
      ∙ ap (λ (a : Action). calls_by (i + 1) cs ++ call_by (i + 1) a) (sym is) ∙ sym (calls_push (i + 1) cs c)
  by_cases i few false e =
      let other : i ≢ j = grind (arith, nat_tests) in
      let not_its : ((j + 1) == (i + 1)) ≡ false = grind (arith, nat_tests) in
      get_or-set_other ls j i (get_or ls j [] ++ k ∷ []) [] other ∙ h.each i few ∙ sym (append-nil (calls_by (i + 1) cs))
      ∙ ap (λ (b : Bool). calls_by (i + 1) cs ++ (if b then k ∷ [] else [])) (sym not_its)
      ∙ ap (λ (a : Action). calls_by (i + 1) cs ++ call_by (i + 1) a) (sym is) ∙ sym (calls_push (i + 1) cs c)

-- the same of the code's lists
pub call_pushed : (n j t : ℕ) (cs : List Command) (c : Command) (k : Op) (vs : List (Vec Op Global)) (old new : Vec Op Global) → j < length vs → old ≡ get_or vs j old → new.items ≡ old.items ++ k ∷ [] → t ≡ j + 1 → c.action ≡ action.Call t k
    → AreCalls n cs (lists_seen vs) → AreCalls n (cs ++ c ∷ []) (lists_seen (set vs j new))
call_pushed n j t cs c k vs old new lt at grown its is h =
    let theirs : get_or (lists_seen vs) j [] ≡ old.items = get_or-map (λ v. v.items) vs j old [] lt ∙ ap (λ (v : Vec Op Global). v.items) (sym at) in
    let whole : lists_seen (set vs j new) ≡ set (lists_seen vs) j (get_or (lists_seen vs) j [] ++ k ∷ []) = map-set (λ v. v.items) vs j new ∙ ap (λ (x : List Op). set (lists_seen vs) j x) (grown ∙ ap (λ (x : List Op). x ++ k ∷ []) (sym theirs)) in
    rw whole (call_more n j cs c k (lists_seen vs) (omega (arith, length-map_of (λ v. v.items) vs, lt)) (is ∙ ap (λ (u : ℕ). action.Call u k) its) h)

-- ---- the jobs of a phase

-- where the loop over the lists is before that of thread k + 1
pub record IsSoFar (all rest : List (List Op)) (jobs : List Job') (k : ℕ) : Type 0 where
  pub many : k + length rest ≡ length all
  pub left : drop k all ≡ rest
  pub so_far : (n : ℕ) (cs : List Command) → AreCalls n cs all → jobs ≡ jobs_up_to k cs

pub far_first : (all : List (List Op)) → IsSoFar all all [] 0
far_first all = record { many = omega arith; left = refl; so_far = λ n cs h. refl }

here_at : (all rest : List (List Op)) (x : List Op) (k : ℕ) → drop k all ≡ x ∷ rest → get_or all k [] ≡ x
here_at all rest x k e = let place : k + 0 ≡ k = omega arith in ap (λ (j : ℕ). get_or all j []) (sym place) ∙ sym (get_or-drop k all 0 []) ∙ ap (λ (l : List (List Op)). get_or l 0 []) e

up_one : (k : ℕ) (cs : List Command) → jobs_up_to (k + 1) cs ≡ jobs_up_to k cs ++ job_of (k + 1) (calls_by (k + 1) cs)
up_one k cs = rw add-one refl

pub far_next : (all rest : List (List Op)) (x : List Op) (jobs : List Job') (k : ℕ) → IsSoFar all (x ∷ rest) jobs k → IsSoFar all rest (jobs ++ job_of (k + 1) x) (k + 1)
far_next all rest x jobs k h = record {
  many = let many = h.many in omega arith;
  left = let many = h.many in ap (λ (l : List (List Op)). drop 1 l) (sym (drop_more all k [] (omega arith)) ∙ h.left);
  so_far = λ n cs a.
      let many = h.many in
      let as_many = a.as_many in
      let mine : x ≡ calls_by (k + 1) cs = sym (here_at all rest x k h.left) ∙ a.each k (omega arith) in
      (λ i. h.so_far n cs a i ++ job_of (k + 1) (mine i)) ∙ sym (up_one k cs);
}

pub far_last : (all : List (List Op)) (jobs : List Job') (k n : ℕ) (cs : List Command) → IsSoFar all [] jobs k → AreCalls n cs all → jobs ≡ jobs_up_to n cs
far_last all jobs k n cs h a =
    let many = h.many in
    let as_many = a.as_many in
    let whole : k ≡ n = omega arith in
    h.so_far n cs a ∙ ap (λ (j : ℕ). jobs_up_to j cs) whole

pub job_some : (t : ℕ) (x : List Op) → 0 < length x → job_of t x ≡ record { thread = t; calls = x } ∷ []
job_some t [] some = absurd (omega (arith, some))
job_some t (c ∷ cs) some = refl

pub job_none : (t : ℕ) (x : List Op) → length x ≡ 0 → job_of t x ≡ []
job_none t [] none = refl
job_none t (c ∷ cs) none = absurd (omega (arith, none))

-- ---- the same of the code's lists

pub room : (all rest more : List (Vec Op Global)) (x : Vec Op Global) (jobs : List Job') (k : ℕ) → IsSoFar (lists_seen all) (lists_seen rest) jobs k → rest ≡ x ∷ more → k + 1 ≤ length all
room all rest more x jobs k h e =
    let many = h.many in
    let some : length rest ≡ length more + 1 = ap length e ∙ omega arith in
    omega (arith, length-map_of (λ v. v.items) all, length-map_of (λ v. v.items) rest)

pub turned : (all rest more : List (Vec Op Global)) (x : Vec Op Global) (jobs : List Job') (k : ℕ) → IsSoFar (lists_seen all) (lists_seen rest) jobs k → rest ≡ x ∷ more → IsSoFar (lists_seen all) (lists_seen more) (jobs ++ job_of (k + 1) x.items) (k + 1)
turned all rest more x jobs k h e = far_next (lists_seen all) (lists_seen more) x.items jobs k (subst (λ (r : List (Vec Op Global)). IsSoFar (lists_seen all) (lists_seen r) jobs k) e h)

pub turned_some : (all rest more : List (Vec Op Global)) (x : Vec Op Global) (jobs : List Job) (k : ℕ) → IsSoFar (lists_seen all) (lists_seen rest) (map job_seen jobs) k → rest ≡ x ∷ more → (x.len == 0) ≡ false → (t : ℕ) → t ≡ k + 1
    → IsSoFar (lists_seen all) (lists_seen more) (map job_seen (jobs ++ record { thread = t; calls = x } ∷ [])) (k + 1)
turned_some all rest more x jobs k h e filled t is =
    let some : 0 < length x.items = let ok = x.ok in grind (arith, nat_tests) in
    rw (is, map_push job_seen jobs (record { thread = k + 1; calls = x })) (subst (λ (js : List Job'). IsSoFar (lists_seen all) (lists_seen more) (map job_seen jobs ++ js) (k + 1)) (job_some (k + 1) x.items some) (turned all rest more x (map job_seen jobs) k h e))

pub turned_none : (all rest more : List (Vec Op Global)) (x : Vec Op Global) (jobs : List Job) (k : ℕ) → IsSoFar (lists_seen all) (lists_seen rest) (map job_seen jobs) k → rest ≡ x ∷ more → (x.len == 0) ≡ true
    → IsSoFar (lists_seen all) (lists_seen more) (map job_seen jobs) (k + 1)
turned_none all rest more x jobs k h e empty =
    let none : length x.items ≡ 0 = let ok = x.ok in grind (arith, nat_tests) in
    subst (λ (js : List Job'). IsSoFar (lists_seen all) (lists_seen more) js (k + 1)) (ap (λ (js : List Job'). map job_seen jobs ++ js) (job_none (k + 1) x.items none) ∙ append-nil (map job_seen jobs)) (turned all rest more x (map job_seen jobs) k h e)

pub turned_all : (all rest : List (Vec Op Global)) (jobs : List Job) (k n : ℕ) (cs : List Command) → IsSoFar (lists_seen all) (lists_seen rest) (map job_seen jobs) k → length rest ≡ 0 → AreCalls n cs (lists_seen all) → map job_seen jobs ≡ jobs_up_to n cs
turned_all all [] jobs k n cs h none a = far_last (lists_seen all) (map job_seen jobs) k n cs h a
turned_all all (x ∷ rest) jobs k n cs h none a = absurd (omega (arith, none))

-- ---- commands one after the other

pub take_next : {X : Type 0} (xs : List X) (k : ℕ) (x : X) → k < length xs → x ≡ get_or xs k x → take k xs ++ x ∷ [] ≡ take (k + 1) xs
take_next xs k x lt is = rw add-one (ap (λ y. take k xs ++ y ∷ []) is ∙ sym (take-suc xs k x lt))

pub if_ok : {A E : Type 0} (P Q : A → Type 0) (r : Result A E) → IfOk r P → ((x : A) → P x → Q x) → IfOk r Q
if_ok P Q (Ok x) h f = f x h
if_ok P Q (Err e) h f = tt
