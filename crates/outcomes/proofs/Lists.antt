-- Loops over lists and over threads.
use Rattle.std.proofs.Common.{◌≡◌, ◌≢◌, ℕ, zero, suc, ◌+◌, ◌<◌, ◌≤◌, ◌==◌, Bool, true, false, ◌&&◌, ◌||◌, List, [], ◌∷◌, ◌++◌, length, take, drop, map, Option, refl, sym, ap, ◌∙◌, arith, get_or, eqb-true}
use Rattle.std.specs.Prelude.{if◌then◌else◌}
use Rattle.std.proofs.lemmas.Bool.Decides.{nat_tests}
use Rattle.std.proofs.lemmas.List.{take_more, take_all, map_push, get_or-map, length-map}
use Rattle.std.proofs.Math.Seq.{drop-cons}
use Rattle.lockword.specs.declared.reply.Reply.{Reply}
use Rattle.protocol.specs.declared.thread.Thread.{Thread}
use Rattle.interleave.specs.Shown.{thread_at}
use Rattle.std.proofs.lemmas.Grind.{common_steps}
use Rattle.protocol.specs.Machine.{State, idle, is_idle, is_alive, stands_in}
use Rattle.interleave.specs.declared.saved.Sleeper.{Sleeper}
use Rattle.interleave.specs.Saved.{sleepers_at}
use Rattle.outcomes.specs.declared.plan.Item.{Item}
use Rattle.outcomes.specs.declared.plan.Plan.{Plan}
use Rattle.outcomes.specs.Plans.{comes_after, call_of, next_among}
use Rattle.outcomes.specs.Positions.{Position, rests, all_rest, some_earlier, is_earlier, killed_among, next_call}

-- ---- the next call

-- an item that comes is the next
pub next_here : (last : Option Reply) (i : ℕ) (items : List Item) (d : Item) → i < length items → comes_after last (get_or items i d).after ≡ true → next_among last i (drop i items) ≡ call_of (i + 1) (get_or items i d).phase (get_or items i d).act
next_here last i items d lt comes =
    ap (next_among last i) (drop-cons items i d lt)
    ∙ ap (λ (b : Bool). if b then call_of (i + 1) (get_or items i d).phase (get_or items i d).act else next_among last (i + 1) (drop (suc i) items)) comes

-- and one that doesn't is skipped
pub next_later : (last : Option Reply) (i : ℕ) (items : List Item) (d : Item) → i < length items → comes_after last (get_or items i d).after ≡ false → next_among last i (drop i items) ≡ next_among last (i + 1) (drop (i + 1) items)
next_later last i items d lt skips =
    let more : suc i ≡ i + 1 = omega arith in
    ap (next_among last i) (drop-cons items i d lt)
    ∙ ap (λ (b : Bool). if b then call_of (i + 1) (get_or items i d).phase (get_or items i d).act else next_among last (i + 1) (drop (suc i) items)) skips
    ∙ ap (λ (k : ℕ). next_among last (i + 1) (drop k items)) more

-- ---- threads one after the other

and_false : (a : Bool) → (a && false) ≡ false
and_false true = refl
and_false false = refl

or_true : (a : Bool) → (a || true) ≡ true
or_true true = refl
or_true false = refl

or_false : (a : Bool) → (a || false) ≡ a
or_false true = refl
or_false false = refl

and_true : (a : Bool) → (a && true) ≡ a
and_true true = refl
and_true false = refl

-- one that doesn't rest is enough
pub one_busy : (s : State) (i n : ℕ) → i < n → rests (s.threads (suc i)).stage ≡ false → all_rest s n ≡ false
one_busy s i zero lt busy = absurd (omega arith)
one_busy s i (suc n) lt busy = go (i == n) refl (one_busy s i n)
  where
    go : (b : Bool) → (i == n) ≡ b → (i < n → rests (s.threads (suc i)).stage ≡ false → all_rest s n ≡ false) → (all_rest s n && rests (s.threads (suc n)).stage) ≡ false
    go true e before = let same : i ≡ n = eqb-true i n e in ap (λ (b : Bool). all_rest s n && b) (ap (λ (k : ℕ). rests (s.threads (suc k)).stage) (sym same) ∙ busy) ∙ and_false (all_rest s n)
    go false e before = let below : i < n = grind (arith, nat_tests) in ap (λ (b : Bool). b && rests (s.threads (suc n)).stage) (before below busy)

pub one_more_rests : (s : State) (i : ℕ) → all_rest s i ≡ true → rests (s.threads (suc i)).stage ≡ true → all_rest s (i + 1) ≡ true
one_more_rests s i all one = let more : i + 1 ≡ suc i = omega arith in ap (all_rest s) more ∙ (λ j. all j && one j)

-- one that is earlier is enough
pub one_earlier : (plan : Plan) (p : Position) (phase i n : ℕ) → i < n → (is_idle (p.state.threads (suc i)).stage && is_earlier phase (next_call plan p.places (suc i))) ≡ true → some_earlier plan p phase n ≡ true
one_earlier plan p phase i zero lt one = absurd (omega arith)
one_earlier plan p phase i (suc n) lt one = go (i == n) refl (one_earlier plan p phase i n)
  where
    go : (b : Bool) → (i == n) ≡ b → (i < n → (is_idle (p.state.threads (suc i)).stage && is_earlier phase (next_call plan p.places (suc i))) ≡ true → some_earlier plan p phase n ≡ true)
        → (some_earlier plan p phase n || (is_idle (p.state.threads (suc n)).stage && is_earlier phase (next_call plan p.places (suc n)))) ≡ true
    go true e before =
        let same : i ≡ n = eqb-true i n e in
        ap (λ (b : Bool). some_earlier plan p phase n || b) (ap (λ (k : ℕ). is_idle (p.state.threads (suc k)).stage && is_earlier phase (next_call plan p.places (suc k))) (sym same) ∙ one) ∙ or_true (some_earlier plan p phase n)
    go false e before = let below : i < n = grind (arith, nat_tests) in ap (λ (b : Bool). b || (is_idle (p.state.threads (suc n)).stage && is_earlier phase (next_call plan p.places (suc n)))) (before below one)

pub one_more_later : (plan : Plan) (p : Position) (phase i : ℕ) → some_earlier plan p phase i ≡ false → (is_idle (p.state.threads (suc i)).stage && is_earlier phase (next_call plan p.places (suc i))) ≡ false → some_earlier plan p phase (i + 1) ≡ false
one_more_later plan p phase i all one = let more : i + 1 ≡ suc i = omega arith in ap (some_earlier plan p phase) more ∙ (λ j. all j || one j)

-- no more are killed than there are
pub few_killed : (s : State) (n : ℕ) → killed_among s n ≤ n
few_killed s zero = omega arith
few_killed s (suc n) = let before = few_killed s n in go (is_alive (s.threads (suc n)).stage) before
  where
    go : (b : Bool) → killed_among s n ≤ n → killed_among s n + (if b then 0 else 1) ≤ suc n
    go true h = omega arith
    go false h = omega arith

pub one_more_killed : (s : State) (i before x now : ℕ) → before ≡ killed_among s i → x ≡ (if is_alive (s.threads (suc i)).stage then 0 else 1) → now ≡ before + x → now ≡ killed_among s (i + 1)
one_more_killed s i before x now was is counts =
    let more : i + 1 ≡ suc i = omega arith in
    counts ∙ (λ j. was j + is j) ∙ ap (killed_among s) (sym more)

pub few_more : (s : State) (i x : ℕ) → x ≡ (if is_alive (s.threads (suc i)).stage then 0 else 1) → x ≤ 1
few_more s i x is = go (is_alive (s.threads (suc i)).stage) is
  where
    go : (b : Bool) → x ≡ (if b then 0 else 1) → x ≤ 1
    go true e = omega arith
    go false e = omega arith

-- ---- a thread among the sleepers

pub is_here : (t place : ℕ) (ss : List Sleeper) (i : ℕ) (s : Sleeper) → i < length ss → s ≡ get_or ss i s → ((s.place == place) && (s.thread == t)) ≡ true → stands_in t (sleepers_at (drop i ss) place) ≡ true
is_here t place ss i s lt is here =
    ap (λ (xs : List Sleeper). stands_in t (sleepers_at xs place)) (drop-cons ss i s lt ∙ ap (λ (x : Sleeper). x ∷ drop (suc i) ss) (sym is))
    ∙ go (s.place == place) (s.thread == t) refl here
  where
    go : (a b : Bool) → (s.thread == t) ≡ b → (a && b) ≡ true → stands_in t (if a then s.thread ∷ sleepers_at (drop (suc i) ss) place else sleepers_at (drop (suc i) ss) place) ≡ true
    go true true eq e = ap (λ (b : Bool). if b then true else stands_in t (sleepers_at (drop (suc i) ss) place)) eq
    go true false eq e = absurd cc
    go false b eq e = absurd cc

-- and one that isn't this thread at this place changes nothing
pub is_other : (t place : ℕ) (ss : List Sleeper) (i : ℕ) (s : Sleeper) → i < length ss → s ≡ get_or ss i s → ((s.place == place) && (s.thread == t)) ≡ false → stands_in t (sleepers_at (drop i ss) place) ≡ stands_in t (sleepers_at (drop (i + 1) ss) place)
is_other t place ss i s lt is other =
    let more : suc i ≡ i + 1 = omega arith in
    ap (λ (xs : List Sleeper). stands_in t (sleepers_at xs place)) (drop-cons ss i s lt ∙ ap (λ (x : Sleeper). x ∷ drop (suc i) ss) (sym is))
    ∙ go (s.place == place) (s.thread == t) refl other
    ∙ ap (λ (k : ℕ). stands_in t (sleepers_at (drop k ss) place)) more
  where
    go : (a b : Bool) → (s.thread == t) ≡ b → (a && b) ≡ false → stands_in t (if a then s.thread ∷ sleepers_at (drop (suc i) ss) place else sleepers_at (drop (suc i) ss) place) ≡ stands_in t (sleepers_at (drop (suc i) ss) place)
    go true true eq e = absurd cc
    go true false eq e = ap (λ (b : Bool). if b then true else stands_in t (sleepers_at (drop (suc i) ss) place)) eq
    go false b eq e = refl

-- ---- threads of a list

-- the thread with the id after an index, in a list that reads as this one
pub thread_is : (ts now : List Thread) (i : ℕ) (th : Thread) → now ≡ ts → i < length now → th ≡ get_or now i th → thread_at ts (suc i) ≡ th
thread_is ts now i th same lt is = ap (λ (xs : List Thread). get_or xs i idle) (sym same) ∙ from now i th lt is
  where
    from : (xs : List Thread) (i : ℕ) (th : Thread) → i < length xs → th ≡ get_or xs i th → get_or xs i idle ≡ th
    from xs i th lt is = grind (arith, common_steps)

-- ---- two lists item by item

pub map_more : {X Y : Type 0} (f : X → Y) (xs ys : List X) (i : ℕ) (x y : X) → i < length xs → i < length ys → x ≡ get_or xs i x → y ≡ get_or ys i y → map f (take i xs) ≡ map f (take i ys) → f x ≡ f y → map f (take (i + 1) xs) ≡ map f (take (i + 1) ys)
map_more f xs ys i x y lt below is it before same =
    ap (map f) (take_more xs i x lt) ∙ map_push f (take i xs) (get_or xs i x) ∙ (λ j. before j ++ (ap f (sym is) ∙ same ∙ ap f it) j ∷ []) ∙ sym (map_push f (take i ys) (get_or ys i y)) ∙ ap (map f) (sym (take_more ys i y below))

pub map_differs : {X Y : Type 0} (f : X → Y) (xs ys : List X) (i : ℕ) (x y : X) → i < length xs → i < length ys → x ≡ get_or xs i x → y ≡ get_or ys i y → f x ≢ f y → map f xs ≢ map f ys
map_differs f xs ys i x y lt below is it apart = λ e.
    apart (ap f is ∙ sym (get_or-map f xs i x (f x) lt) ∙ ap (λ zs. get_or zs i (f x)) e ∙ get_or-map f ys i y (f x) below ∙ sym (ap f it))

pub map_longer : {X Y : Type 0} (f : X → Y) (xs ys : List X) → length xs ≢ length ys → map f xs ≢ map f ys
map_longer f xs ys apart = λ e. apart (sym (length-map xs f) ∙ ap (λ zs. length zs) e ∙ length-map ys f)

pub map_all : {X Y : Type 0} (f : X → Y) (xs ys : List X) (i : ℕ) → length xs ≤ i → length xs ≡ length ys → map f (take i xs) ≡ map f (take i ys) → map f xs ≡ map f ys
map_all f xs ys i past same e = ap (map f) (sym (take_all i xs past)) ∙ e ∙ ap (map f) (take_all i ys (omega arith))

-- a list that has what a function makes of the first items of another one, and of one more
pub grown : {X Y : Type 0} (f : X → Y) (xs : List X) (ys : List Y) (i : ℕ) (x : X) → i < length xs → x ≡ get_or xs i x → ys ≡ map f (take i xs) → ys ++ f x ∷ [] ≡ map f (take (i + 1) xs)
grown f xs ys i x lt is before = (λ j. before j ++ f (is j) ∷ []) ∙ sym (map_push f (take i xs) (get_or xs i x)) ∙ ap (map f) (sym (take_more xs i x lt))

pub fit_more : {X Z : Type 0} (f : X → Z) (xs : List X) (zs : List Z) (i : ℕ) (x : X) (z : Z) → i < length xs → i < length zs → x ≡ get_or xs i x → z ≡ get_or zs i z → map f (take i xs) ≡ take i zs → f x ≡ z → map f (take (i + 1) xs) ≡ take (i + 1) zs
fit_more f xs zs i x z lt below is it before same =
    ap (map f) (take_more xs i x lt) ∙ map_push f (take i xs) (get_or xs i x) ∙ (λ j. before j ++ (ap f (sym is) ∙ same ∙ it) j ∷ []) ∙ sym (take_more zs i z below)

pub fit_all : {X Z : Type 0} (f : X → Z) (xs : List X) (zs : List Z) (i : ℕ) → length xs ≤ i → length xs ≡ length zs → map f (take i xs) ≡ take i zs → map f xs ≡ zs
fit_all f xs zs i past same e = ap (map f) (sym (take_all i xs past)) ∙ e ∙ take_all i zs (omega arith)

pub like_more : {X Y Z : Type 0} (f : X → Z) (g : Y → Z) (xs : List X) (ys : List Y) (i : ℕ) (x : X) (y : Y) → i < length xs → i < length ys → x ≡ get_or xs i x → y ≡ get_or ys i y → map f (take i xs) ≡ map g (take i ys) → f x ≡ g y → map f (take (i + 1) xs) ≡ map g (take (i + 1) ys)
like_more f g xs ys i x y lt below is it before same =
    ap (map f) (take_more xs i x lt) ∙ map_push f (take i xs) (get_or xs i x) ∙ (λ j. before j ++ (ap f (sym is) ∙ same ∙ ap g it) j ∷ []) ∙ sym (map_push g (take i ys) (get_or ys i y)) ∙ ap (map g) (sym (take_more ys i y below))

pub like_all : {X Y Z : Type 0} (f : X → Z) (g : Y → Z) (xs : List X) (ys : List Y) (i : ℕ) → length xs ≤ i → length xs ≡ length ys → map f (take i xs) ≡ map g (take i ys) → map f xs ≡ map g ys
like_all f g xs ys i past same e = ap (map f) (sym (take_all i xs past)) ∙ e ∙ ap (map g) (take_all i ys (omega arith))
