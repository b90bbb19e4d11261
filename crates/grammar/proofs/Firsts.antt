-- The word that is reported is the first that is wrong.
use Rattle.std.proofs.Common.{◌≡◌, ℕ, suc, ◌+◌, ◌<◌, ◌≤◌, Bool, true, false, List, [], ◌∷◌, ◌++◌, length, take, drop, Option, Some, None, IsSome, option_and_then, if◌then◌else◌, refl, sym, subst, ap, ◌∙◌, arith, add-one}
use Rattle.std.specs.Prelude.{slice_get}
use Rattle.std.specs.Option.{option_map_or}
use Rattle.std.specs.Prelude.{nat_lt as ltb}
use Rattle.std.proofs.lemmas.Bool.Decides.{nat_tests}
use Rattle.std.proofs.lemmas.List.{take_all, take-append-drop}
use Rattle.std.proofs.lemmas.List.Sums.{sum_by-cons}
use Rattle.lines.specs.Lines.{words_of}
use Rattle.grammar.specs.declared.next.Next.{Next}
use Rattle.grammar.specs.declared.wrong.Kind.{Kind}
use Rattle.grammar.specs.declared.wrong.Wrong.{Wrong}
use Rattle.grammar.specs.Nexts.{after, is_over}
use Rattle.grammar.specs.Wrongs.{Awaits, CanGoOn, IsFirstWrong, ends_at, first_of, offset_of, met, wrong_at, wrong_in, wrong_last}
use Rattle.grammar.proofs.Running.{ends, finish, finishes, run, run-append}
use Rattle.grammar.proofs.AllKinds.{lines_are_run}

-- ---- what can go on

runs_to_some : (o : Option Next) (ws : List (List ℕ)) → ends (option_and_then (λ m. run m ws) o) ≡ true → IsSome o
runs_to_some None ws e = absurd cc
runs_to_some (Some n) ws e = refl

-- words with which a line can go on are gone through
pub gone_through : (k : Kind) (ws : List (List ℕ)) → CanGoOn k ws → IsSome (run (first_of k) ws)
gone_through k ws c =
    runs_to_some (run (first_of k) ws) c.0 (ap ends (sym (run-append (first_of k) ws c.0)) ∙ sym (lines_are_run k (ws ++ c.0)) ∙ c.1)

-- and the other way round
pub goes_on : (k : Kind) (ws : List (List ℕ)) (n : Next) → run (first_of k) ws ≡ Some n → CanGoOn k ws
goes_on k ws n e =
    (finish n, lines_are_run k (ws ++ finish n) ∙ ap ends (run-append (first_of k) ws (finish n) ∙ ap (λ (o : Option Next). option_and_then (λ m. run m (finish n)) o) e) ∙ finishes n)

one_more : (o : Option Next) → option_and_then (λ m. Some m) o ≡ o
one_more None = refl
one_more (Some m) = refl

-- one word more
run_more : (n m : Next) (ws : List (List ℕ)) (w : List ℕ) → run n ws ≡ Some m → run n (ws ++ w ∷ []) ≡ after m w
run_more n m ws w e =
    run-append n ws (w ∷ []) ∙ ap (λ (o : Option Next). option_and_then (λ q. run q (w ∷ [])) o) e ∙ one_more (after m w)

the_value : {A : Type 0} (o : Option A) → IsSome o → (x : A) × (o ≡ Some x)
the_value None h = absurd cc
the_value (Some x) h = (x, refl)

pub awaits : (k : Kind) (ws : List (List ℕ)) (n : Next) → run (first_of k) ws ≡ Some n → Awaits k ws n
awaits k ws n e w = (
  λ c. subst IsSome (run_more (first_of k) n ws w e) (gone_through k (ws ++ w ∷ []) c),
  λ h. let v = the_value (after n w) h in goes_on k (ws ++ w ∷ []) v.0 (run_more (first_of k) n ws w e ∙ v.1),
)

-- ---- what is reported

-- after this many of the words, which go from n to what x has
pub record Found (n : Next) (i at : ℕ) (ws : List (List ℕ)) (x : Wrong) : Type 0 where
  pub many : ℕ
  pub word : x.word ≡ i + many
  pub within : many ≤ length ws
  pub front : run n (take many ws) ≡ Some x.next
  pub stops : many < length ws → run n (take (suc many) ws) ≡ None
  pub short : many ≡ length ws → is_over x.next ≡ false
  pub start : x.start ≡ at + offset_of many ws
  pub finish : x.end ≡ at + ends_at many ws

-- at the first of them
at_first : (n : Next) (i at : ℕ) (w : List ℕ) (ws : List (List ℕ)) → after n w ≡ None → Found n i at (w ∷ ws) (wrong_at i at w n)
at_first n i at w ws h = record {
  many = 0;
  word = omega arith;
  within = omega arith;
  front = refl;
  stops = λ lt. rw h refl;
  short = λ e. absurd (omega (arith, e));
  start = omega arith;
  finish = omega arith;
}

at_last : (n m : Next) (i at : ℕ) (w : List ℕ) → after n w ≡ Some m → is_over m ≡ false → Found n i at (w ∷ []) (wrong_at (i + 1) (at + length w + 1) [] m)
at_last n m i at w h o = record {
  many = 1;
  word = refl;
  within = omega arith;
  front = rw h refl;
  stops = λ lt. absurd (omega (arith, lt));
  short = λ e. o;
  start = omega arith;
  finish = omega arith;
}

-- a word more before it
offset-suc : (i : ℕ) (w : List ℕ) (ws : List (List ℕ)) → offset_of (suc i) (w ∷ ws) ≡ (length w + 1) + offset_of i ws
offset-suc i w ws = sum_by-cons (λ v. length v + 1) w (take i ws)

ends_at-suc : (i : ℕ) (w : List ℕ) (ws : List (List ℕ)) → ends_at (suc i) (w ∷ ws) ≡ offset_of (suc i) (w ∷ ws) + option_map_or length (slice_get ws i) 0
ends_at-suc i w ws = refl

behind : (n m : Next) (i at : ℕ) (w v : List ℕ) (ws : List (List ℕ)) (x : Wrong) → after n w ≡ Some m → Found m (i + 1) (at + length w + 1) (v ∷ ws) x → Found n i at (w ∷ v ∷ ws) x
behind n m i at w v ws x h f = record {
  many = suc f.many;
  word = omega (arith, f.word);
  within = omega (arith, f.within);
  front = rw h f.front;
  stops = λ lt. rw h (f.stops (omega (arith, lt)));
  short = λ e. f.short (omega (arith, e));
  start = omega (arith, f.start, offset-suc f.many w (v ∷ ws));
  finish = omega (arith, f.finish, offset-suc f.many w (v ∷ ws), ends_at-suc f.many w (v ∷ ws));
}

last_case : (n : Next) (i at : ℕ) (w : List ℕ) (x : Wrong) (o : Option Next) → after n w ≡ o → wrong_last i at w n o ≡ Some x → Found n i at (w ∷ []) x
last_case n i at w x None h e = subst (Found n i at (w ∷ [])) (some_is e) (at_first n i at w [] h)
  where
    some_is : {A : Type 0} {a b : A} → Some a ≡ Some b → a ≡ b
    some_is e = cc
last_case n i at w x (Some m) h e = over (is_over m) refl e
  where
    over : (b : Bool) → is_over m ≡ b → (if b then None else Some (wrong_at (i + 1) (at + length w + 1) [] m)) ≡ Some x → Found n i at (w ∷ []) x
    over true o e = absurd cc
    over false o e = let same : wrong_at (i + 1) (at + length w + 1) [] m ≡ x = cc in subst (Found n i at (w ∷ [])) same (at_last n m i at w h o)

more_case : (n : Next) (i at : ℕ) (w v : List ℕ) (ws : List (List ℕ)) (x : Wrong) (more : Next → Option Wrong) → ((m : Next) → more m ≡ Some x → Found m (i + 1) (at + length w + 1) (v ∷ ws) x) → (o : Option Next) → after n w ≡ o → met i at w n more o ≡ Some x → Found n i at (w ∷ v ∷ ws) x
more_case n i at w v ws x more all None h e = let same : wrong_at i at w n ≡ x = cc in subst (Found n i at (w ∷ v ∷ ws)) same (at_first n i at w (v ∷ ws) h)
more_case n i at w v ws x more all (Some m) h e = behind n m i at w v ws x h (all m e)

pub found : (n : Next) (i at : ℕ) (ws : List (List ℕ)) (x : Wrong) → wrong_in n i at ws ≡ Some x → Found n i at ws x
unfolding wrong_in
found n i at [] x e = absurd cc
found n i at (w ∷ []) x e = last_case n i at w x (after n w) refl e
found n i at (w ∷ v ∷ ws) x e = more_case n i at w v ws x (λ m. wrong_in m (i + 1) (at + length w + 1) (v ∷ ws)) (λ m h. found m (i + 1) (at + length w + 1) (v ∷ ws) x h) (after n w) refl e

-- ---- where nothing is

last_right : (n : Next) (i at : ℕ) (w : List ℕ) (o : Option Next) → wrong_last i at w n o ≡ None → ends (option_and_then (λ m. run m []) o) ≡ true
last_right n i at w None e = absurd cc
last_right n i at w (Some m) e = over (is_over m) e
  where
    over : (b : Bool) → (if b then None else Some (wrong_at (i + 1) (at + length w + 1) [] m)) ≡ None → b ≡ true
    over true e = refl
    over false e = absurd cc

more_right : (n : Next) (i at : ℕ) (w : List ℕ) (ws : List (List ℕ)) (more : Next → Option Wrong) → ((m : Next) → more m ≡ None → ends (run m ws) ≡ true) → (o : Option Next) → met i at w n more o ≡ None → ends (option_and_then (λ m. run m ws) o) ≡ true
more_right n i at w ws more all None e = absurd cc
more_right n i at w ws more all (Some m) e = all m e

pub right : (n : Next) (i at : ℕ) (ws : List (List ℕ)) → 0 < length ws → wrong_in n i at ws ≡ None → ends (run n ws) ≡ true
unfolding wrong_in
right n i at [] some e = absurd (omega (arith, some))
right n i at (w ∷ []) some e = last_right n i at w (after n w) e
right n i at (w ∷ v ∷ ws) some e = more_right n i at w (v ∷ ws) (λ m. wrong_in m (i + 1) (at + length w + 1) (v ∷ ws)) (λ m h. right m (i + 1) (at + length w + 1) (v ∷ ws) (omega arith) h) (after n w) e

-- and where something is, no line ends
none_ends : (o : Option Next) → o ≡ None → ends o ≡ false
none_ends None e = refl
none_ends (Some n) e = absurd cc

take_rest : (n : Next) (ws : List (List ℕ)) (i : ℕ) → run n (take i ws) ≡ None → run n ws ≡ None
take_rest n ws i e = ap (run n) (sym (take-append-drop i ws)) ∙ run-append n (take i ws) (drop i ws) ∙ ap (λ (o : Option Next). option_and_then (λ m. run m (drop i ws)) o) e

pub unended : (n : Next) (i at : ℕ) (ws : List (List ℕ)) (x : Wrong) → Found n i at ws x → ends (run n ws) ≡ false
unended n i at ws x f = by_end (ltb f.many (length ws)) refl
  where
    by_end : (b : Bool) → ltb f.many (length ws) ≡ b → ends (run n ws) ≡ false
    by_end true e = none_ends (run n ws) (take_rest n ws (suc f.many) (f.stops (grind (arith, nat_tests))))
    by_end false e = let all : f.many ≡ length ws = let h : length ws ≤ f.many = grind (arith, nat_tests) in omega (arith, h, f.within) in ap (λ l. ends (run n l)) (sym (take_all f.many ws (omega (arith, all)))) ∙ ap ends f.front ∙ f.short all

-- ---- of a line

pub first : (k : Kind) (ws : List (List ℕ)) (x : Wrong) → (f : Found (first_of k) 0 0 ws x) → IsFirstWrong k ws f.many
first k ws x f = record {
  within = f.within;
  front = goes_on k (take f.many ws) x.next f.front;
  stops = λ lt c. let some : IsSome (run (first_of k) (take (suc f.many) ws)) = subst (λ (i : ℕ). IsSome (run (first_of k) (take i ws))) (add-one f.many) (gone_through k (take (f.many + 1) ws) c) in absurd (none (run (first_of k) (take (suc f.many) ws)) (f.stops lt) some);
  short = λ e. let all : take f.many ws ≡ ws = take_all f.many ws (omega (arith, e)) in lines_are_run k ws ∙ ap (λ (l : List (List ℕ)). ends (run (first_of k) l)) (sym all) ∙ ap ends f.front ∙ f.short e;
}
  where
    none : {A : Type 0} (o : Option A) → o ≡ None → IsSome o → ⊥
    none None e h = cc
    none (Some x) e h = cc

-- ---- where a word stands after one that is cut off

pub offset_on : (i j : ℕ) (w : List ℕ) (text more : List ℕ) → words_of text ≡ w ∷ words_of more → i ≡ j + 1 → offset_of i (words_of text) ≡ (length w + 1) + offset_of j (words_of more)
offset_on i j w text more e is = ap (λ n. offset_of n (words_of text)) (is ∙ add-one j) ∙ ap (offset_of (suc j)) e ∙ offset-suc j w (words_of more)

pub end_on : (i j : ℕ) (w : List ℕ) (text more : List ℕ) → words_of text ≡ w ∷ words_of more → i ≡ j + 1 → ends_at i (words_of text) ≡ (length w + 1) + ends_at j (words_of more)
end_on i j w text more e is =
    let end = ap (λ n. ends_at n (words_of text)) (is ∙ add-one j) ∙ ap (ends_at (suc j)) e ∙ ends_at-suc j w (words_of more) in
    omega (arith, end, offset-suc j w (words_of more))
