-- Hands, one after the other.
use Rattle.std.proofs.Common.{◌≡◌, ℕ, zero, suc, ◌<◌, Bool, Option, List, [], ◌∷◌, ◌++◌, length, map, All, slice_index_or, sym, ap, ◌∙◌, subst, append_assoc, arith}
use Rattle.std.proofs.lemmas.List.{map-append}
use Rattle.condvar.specs.declared.op.Op.{Op}
use Rattle.ruledwords.specs.declared.pass.Words.{Words}
use Rattle.threadbench.specs.declared.hand.Hand.{Hand}
use Rattle.threadbench.specs.declared.job.Job.{Job}
use Rattle.threadbench.specs.declared.job.Record.{Record}
use Rattle.threadbench.specs.Each.{EachWith}
use Rattle.threadbench.specs.Hands.{job_of}
use Rattle.threadbench.specs.Jobs.{IsDone, AreDone}
use Rattle.threadbench.proofs.Each.{snoc}

-- a hand for one job more
pub jobs_more : {G : Type 0} (hands hands' : List (Hand G)) (hand : Hand G) (job : Job) (left rest jobs : List Job) → hands' ≡ hands ++ hand ∷ [] → job_of hand ≡ job → left ≡ job ∷ rest → map job_of hands ++ left ≡ jobs → map job_of hands' ++ rest ≡ jobs
jobs_more hands hands' hand job left rest jobs more is first so_far =
    ap (λ (l : List (Hand _)). map job_of l ++ rest) more ∙ ap (λ (l : List Job). l ++ rest) (map-append job_of hands (hand ∷ [])) ∙ append_assoc (map job_of hands) (job_of hand ∷ []) rest
    ∙ ap (λ (j : Job). map job_of hands ++ j ∷ rest) is ∙ ap (λ (l : List Job). map job_of hands ++ l) (sym first) ∙ so_far

-- one job more is given back
pub given_back : {G : Type 0} (left rest : List (Hand G)) (hand : Hand G) (jobs jobs' all : List Job) (job : Job) → left ≡ hand ∷ rest → jobs' ≡ jobs ++ job ∷ [] → job ≡ job_of hand → jobs ++ map job_of left ≡ all → jobs' ++ map job_of rest ≡ all
given_back left rest hand jobs jobs' all job first more is so_far =
    ap (λ (l : List Job). l ++ map job_of rest) more ∙ append_assoc jobs (job ∷ []) (map job_of rest) ∙ ap (λ (j : Job). jobs ++ j ∷ map job_of rest) is ∙ ap (λ (l : List (Hand _)). jobs ++ map job_of l) (sym first) ∙ so_far

-- one job more has its record
pub records_more : {G : Type 0} (w : Words) (says : ℕ → ℕ → Op → Option Bool) (done : List (Hand G)) (hand : Hand G) (rs rs' : List Record) (r : Record) → AreDone w says (map job_of done) rs → IsDone w says (job_of hand) r → rs' ≡ rs ++ r ∷ [] → AreDone w says (map job_of (done ++ hand ∷ [])) rs'
records_more w says done hand rs rs' r so_far one more =
    subst (λ (js : List Job). EachWith (IsDone w says) js rs') (sym (map-append job_of done (hand ∷ []))) (subst (EachWith (IsDone w says) (map job_of done ++ job_of hand ∷ [])) (sym more) (snoc (IsDone w says) (map job_of done) rs (job_of hand) r so_far one))

-- what holds of each job holds of each hand's
at_hands : {G : Type 0} (P : Job → Type 0) (hands : List (Hand G)) → All P (map job_of hands) → (k : ℕ) (d : Hand G) → k < length hands → P (job_of (slice_index_or hands k d))
at_hands P [] all k d lt = absurd (omega (arith, lt))
at_hands P (h ∷ hs) all zero d lt = all 0 (job_of d) (omega arith)
at_hands P (h ∷ hs) all (suc k) d lt = at_hands P hs (λ i e low. all (suc i) e (omega (arith, low))) k d (omega (arith, lt))

pub of_hands : {G : Type 0} (P : Job → Type 0) (hands : List (Hand G)) (jobs : List Job) → map job_of hands ≡ jobs → All P jobs → (k : ℕ) (d : Hand G) → k < length hands → P (job_of (slice_index_or hands k d))
of_hands P hands jobs same all = at_hands P hands (subst (All P) (sym same) all)
