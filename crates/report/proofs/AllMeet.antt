-- Threads whose passes meet.
use Rattle.std.proofs.Common.{◌≡◌, ℕ, zero, suc, ◌<◌, Bool, true, false, not, Option, Some, List, [], ◌∷◌, ◌++◌, length, map, take, get_or, slice_get, All, refl, sym, ap, ◌∙◌, subst, arith, append_assoc}
use Rattle.std.specs.Prelude.{Result, Ok, Err, IfOk, Vec}
use Rattle.std.specs.declared.alloc.AllocError.{AllocError}
use Rattle.std.specs.declared.alloc.Global.{Global}
use Rattle.std.proofs.lemmas.Option.{slice_get-get_or, same_Some}
use Rattle.ruledwords.specs.declared.pass.Card.{Card}
use Rattle.ruledwords.specs.declared.pass.EitherPass.{EitherPass}
use Rattle.ruledwords.specs.declared.pass.EitherPass.TheVariants.{First, Second}
use Rattle.ruledwords.specs.declared.pass.Live.{Live}
use Rattle.ruledwords.specs.declared.pass.Reaped.{Reaped as ReapedThread}
use Rattle.ruledwords.specs.declared.pass.Words.{Words}
use Rattle.ruledwords.specs.Lists.{StaysSo}
use Rattle.ruledwords.specs.Meetings.{card_in as card_of_either, is_first, IsEitherOf, KnowAll, HaveMet as PassesHaveMet}
use Rattle.ruledwords.specs.Passes.{layout_of}
use Rattle.threadbench.specs.declared.job.WorkerPass.{WorkerPass}
use Rattle.threadbench.specs.declared.job.WorkerPass.TheVariants.{Lives, Reaped}
use Rattle.threadbench.specs.Answered.{card_in, IsWorkerOf}
use Rattle.report.specs.declared.threads.Worker.{Worker}
use Rattle.report.specs.Meetings.{as_either, as_worker, is_reaped, HaveMet}
use Rattle.streams.proofs.Listed.{mapped_at}
use Rattle.report.proofs.Phases.{all_at, length_mapped, some_at}

-- ---- passes one by one

same_card : (p : WorkerPass) → card_of_either (as_either p) ≡ card_in p
same_card (Lives a) = refl
same_card (Reaped d) = refl

same_card_back : (q : EitherPass Live ReapedThread) → card_in (as_worker q) ≡ card_of_either q
same_card_back (First p) = refl
same_card_back (Second p) = refl

same_kind : (p : WorkerPass) → is_first (as_either p) ≡ not (is_reaped p)
same_kind (Lives a) = refl
same_kind (Reaped d) = refl

same_kind_back : (q : EitherPass Live ReapedThread) → is_reaped (as_worker q) ≡ not (is_first q)
same_kind_back (First p) = refl
same_kind_back (Second p) = refl

not_not : (b : Bool) → not (not b) ≡ b
not_not true = refl
not_not false = refl

pub either_is : (w : Words) (p : WorkerPass) → IsWorkerOf w p → IsEitherOf w (as_either p)
either_is w (Lives a) is = is.0
either_is w (Reaped d) is = is

-- who lived lives, with its own words as before
worker_is : (w : Words) (p : WorkerPass) (q : EitherPass Live ReapedThread) → IsWorkerOf w p → IsEitherOf w q → is_first q ≡ is_first (as_either p) → StaysSo (layout_of w) (card_of_either (as_either p)) (card_of_either q) → IsWorkerOf w (as_worker q)
worker_is w (Lives a) (First b) is of kind stays = (of, stays.0 is.1)
worker_is w (Lives a) (Second d) is of kind stays = absurd (cc kind)
worker_is w (Reaped d) (First b) is of kind stays = absurd (cc kind)
worker_is w (Reaped d) (Second e) is of kind stays = of

-- ---- all of them

pub eithers_are : (w : Words) (us : List Worker) (ps : List (EitherPass Live ReapedThread)) → All (λ v. IsWorkerOf w v.pass) us → ps ≡ map (λ v. as_either v.pass) us → All (IsEitherOf w) ps
eithers_are w us ps all same = subst (All (IsEitherOf w)) (sym same) (go us (λ i u is. all_at (λ (v : Worker). IsWorkerOf w v.pass) us i u all is)) where
  go : (vs : List Worker) → ((i : ℕ) (u : Worker) → slice_get vs i ≡ Some u → IsWorkerOf w u.pass) → (i : ℕ) (d : EitherPass Live ReapedThread) → i < length (map (λ (v : Worker). as_either v.pass) vs) → IsEitherOf w (get_or (map (λ (v : Worker). as_either v.pass) vs) i d)
  go [] each i d low = absurd (omega (arith, low))
  go (v ∷ vs) each zero d low = either_is w v.pass (each 0 v refl)
  go (v ∷ vs) each (suc i) d low = go vs (λ j u is. each (suc j) u is) i d (omega (arith, low))

cards_before : (us : List Worker) → map card_of_either (map (λ (v : Worker). as_either v.pass) us) ≡ map (λ (v : Worker). card_in v.pass) us
cards_before [] = refl
cards_before (u ∷ us) = (λ i. same_card u.pass i ∷ cards_before us i)

cards_behind : (vs : List Worker) (qs : List (EitherPass Live ReapedThread)) → map (λ (v : Worker). v.pass) vs ≡ map as_worker qs → map card_of_either qs ≡ map (λ (v : Worker). card_in v.pass) vs
cards_behind [] [] same = refl
cards_behind [] (q ∷ qs) same = absurd (cc same)
cards_behind (v ∷ vs) [] same = absurd (cc same)
cards_behind (v ∷ vs) (q ∷ qs) same = let first : v.pass ≡ as_worker q = cc same in let rest = cards_behind vs qs (cc same) in (λ i. (sym (same_card_back q) ∙ ap card_in (sym first)) i ∷ rest i)

kinds_before : (us : List Worker) → map is_first (map (λ (v : Worker). as_either v.pass) us) ≡ map not (map (λ (v : Worker). is_reaped v.pass) us)
kinds_before [] = refl
kinds_before (u ∷ us) = (λ i. same_kind u.pass i ∷ kinds_before us i)

kinds_behind : (vs : List Worker) (qs : List (EitherPass Live ReapedThread)) → map (λ (v : Worker). v.pass) vs ≡ map as_worker qs → map (λ (v : Worker). is_reaped v.pass) vs ≡ map not (map is_first qs)
kinds_behind [] [] same = refl
kinds_behind [] (q ∷ qs) same = absurd (cc same)
kinds_behind (v ∷ vs) [] same = absurd (cc same)
kinds_behind (v ∷ vs) (q ∷ qs) same = let first : v.pass ≡ as_worker q = cc same in let rest = kinds_behind vs qs (cc same) in (λ i. (ap is_reaped first ∙ same_kind_back q) i ∷ rest i)

twice : (bs : List Bool) → map not (map not bs) ≡ bs
twice [] = refl
twice (b ∷ bs) = (λ i. not_not b i ∷ twice bs i)

pub all_met : (w : Words) (us vs : List Worker) (ps qs : List (EitherPass Live ReapedThread)) (dies : List (Option ℕ)) → All (λ v. IsWorkerOf w v.pass) us → ps ≡ map (λ v. as_either v.pass) us → PassesHaveMet w ps qs → map (λ v. v.pass) vs ≡ map as_worker qs → map (λ v. v.die) vs ≡ dies → dies ≡ map (λ v. v.die) us → HaveMet w us vs
all_met w us vs ps qs dies all from met to numbers numbers' = record {
  know = subst (λ (z : List Card × List Card). KnowAll z.0 z.1) (λ i. (cards i, cards_behind vs qs to i)) met.know;
  right = right;
  lives = kinds_behind vs qs to ∙ ap (map not) (met.kinds ∙ ap (map is_first) from ∙ kinds_before us) ∙ twice (map (λ (v : Worker). is_reaped v.pass) us);
  numbers = numbers ∙ numbers';
} where
  cards : map card_of_either ps ≡ map (λ (v : Worker). card_in v.pass) us
  cards = ap (map card_of_either) from ∙ cards_before us

  right : (i : ℕ) (d : Worker) → i < length vs → IsWorkerOf w (get_or vs i d).pass
  right i d low =
      let v : Worker = get_or vs i d in
      let is_v = slice_get-get_or vs i d low in
      let many : length vs ≡ length qs = sym (length_mapped (λ (z : Worker). z.pass) vs) ∙ ap length to ∙ length_mapped as_worker qs in
      let as_many : length qs ≡ length ps = sym (length_mapped is_first qs) ∙ ap length met.kinds ∙ length_mapped is_first ps in
      let as_long : length ps ≡ length us = ap length from ∙ length_mapped (λ (z : Worker). as_either z.pass) us in
      let q = some_at qs i (omega (arith, low, many)) in
      let u = some_at us i (omega (arith, low, many, as_many, as_long)) in
      let its : v.pass ≡ as_worker q.0 = same_Some _ _ (sym (mapped_at (λ (z : Worker). z.pass) vs i v is_v) ∙ ap (λ (l : List WorkerPass). slice_get l i) to ∙ mapped_at as_worker qs i q.0 q.1) in
      let is_p : slice_get ps i ≡ Some (as_either u.0.pass) = ap (λ (l : List (EitherPass Live ReapedThread)). slice_get l i) from ∙ mapped_at (λ (z : Worker). as_either z.pass) us i u.0 u.1 in
      let kind : is_first q.0 ≡ is_first (as_either u.0.pass) = same_Some _ _ (sym (mapped_at is_first qs i q.0 q.1) ∙ ap (λ (l : List Bool). slice_get l i) met.kinds ∙ mapped_at is_first ps i (as_either u.0.pass) is_p) in
      let stays = met.lists i (card_of_either (as_either u.0.pass)) (card_of_either q.0) (mapped_at card_of_either ps i (as_either u.0.pass) is_p) (mapped_at card_of_either qs i q.0 q.1) in
      subst (IsWorkerOf w) (sym its) (worker_is w u.0.pass q.0 (all_at (λ (z : Worker). IsWorkerOf w z.pass) us i u.0 all u.1) (all_at (IsEitherOf w) qs i q.0 met.of q.1) kind stays)

-- ---- loops

pub one_more : {A B : Type 0} (f : A → B) (ys ys' : List B) (y : B) (x : A) (left rest : List A) (all : List B) → ys' ≡ ys ++ y ∷ [] → y ≡ f x → left ≡ x ∷ rest → ys ++ map f left ≡ all → ys' ++ map f rest ≡ all
one_more f ys ys' y x left rest all more is first so_far =
    ap (λ qs. qs ++ map f rest) more ∙ append_assoc ys (y ∷ []) (map f rest) ∙ ap (λ z. ys ++ z ∷ map f rest) is ∙ ap (λ xs. ys ++ map f xs) (sym first) ∙ so_far

pub all_taken : {A : Type 0} (xs : List A) (n : ℕ) → n ≡ length xs → take n xs ≡ xs
all_taken [] zero same = refl
all_taken [] (suc n) same = refl
all_taken (x ∷ xs) zero same = absurd (omega (arith, same))
all_taken (x ∷ xs) (suc n) same = ap (λ l. x ∷ l) (all_taken xs n (omega (arith, same)))

pub met_if : (w : Words) (us : List Worker) (ps qs : List (EitherPass Live ReapedThread)) (dies : List (Option ℕ)) (r : Result (Vec Worker Global) AllocError) → All (λ v. IsWorkerOf w v.pass) us → ps ≡ map (λ v. as_either v.pass) us → PassesHaveMet w ps qs → dies ≡ map (λ v. v.die) us
    → IfOk r (λ vs. map (λ v. v.pass) vs.items ≡ map as_worker qs) → IfOk r (λ vs. map (λ v. v.die) vs.items ≡ dies) → IfOk r (λ vs. HaveMet w us vs.items)
met_if w us ps qs dies (Ok vs) all from met numbers to kept = all_met w us vs.items ps qs dies all from met to kept numbers
met_if w us ps qs dies (Err e) all from met numbers to kept = to
