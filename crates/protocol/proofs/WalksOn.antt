-- The word that a walk is to mark is the dead thread's.
use Rattle.std.proofs.Common.{◌≡◌, ◌⊎◌, inl, inr, ℕ, ◌≤◌, ap, ◌∙◌, subst, arith}
use Rattle.lockword.specs.Cells.{Fields, fields_of, word_of, waiting}
use Rattle.lockword.specs.Coding.{fields_of-word_of}
use Rattle.exitwalk.specs.Steps.{waiting_word}
use Rattle.exitwalk.specs.Walks.{Knows}
use Rattle.exitwalk.specs.Standings.{Standing}
use Rattle.protocol.proofs.Vocabulary.{Layout', State, start, run, LoadFirst, LoadOffset, LoadPending, LoadNext, LoadWord, Mark, WakeOne, place_in}
use Rattle.exitwalk.specs.declared.row.Row.{Row}
use Rattle.exitwalk.specs.declared.row.Row.TheVariants.{Ended}
use Rattle.protocol.specs.declared.thread.Stage.TheVariants.{Dying}
use Rattle.protocol.specs.WalksOn.{StaysOwned, WalksGoOn}
use Rattle.protocol.proofs.Kept.{Listed, Sits, Walks, LeftToWalk, Kept, last_thread}
use Rattle.protocol.proofs.Runs.{start_kept, run_kept, run_layout}
use Rattle.lockword.specs.Threads.{most_threads}

-- a word that has only got WAITERS since it was seen has the owner that it was seen with
same_owner : (v w t : ℕ) → (fields_of v).owner ≡ t → t ≤ most_threads → (w ≡ v) ⊎ (w ≡ waiting_word v) → (fields_of w).owner ≡ t
same_owner v w t own small (inl e) = ap (λ (x : ℕ). (fields_of x).owner) e ∙ own
same_owner v w t own small (inr e) =
    let back : fields_of (word_of (waiting (fields_of v))) ≡ waiting (fields_of v) = fields_of-word_of (waiting (fields_of v)) (omega arith) in
    ap (λ (x : ℕ). (fields_of x).owner) e ∙ ap (λ (c : Fields). c.owner) back ∙ own

stays : (s : State) (t h : ℕ) (r : Row) → t ≤ most_threads → Knows t h r → LeftToWalk s t r → StaysOwned s t r
stays s t h (Mark at v again rest) small knows (k, treats, l, only) = same_owner v (s.words (place_in s.layout t at)) t knows.0 small only.stays
stays s t h LoadFirst small knows l = tt
stays s t h (LoadOffset f) small knows l = tt
stays s t h (LoadPending f o) small knows l = tt
stays s t h (LoadNext r) small knows l = tt
stays s t h (LoadWord at rest) small knows l = tt
stays s t h (WakeOne at rest) small knows l = tt
stays s t h Ended small knows l = tt

kept_stays : (s : State) → Kept s → (t : ℕ) → 1 ≤ t → t ≤ s.layout.threads → (w : Standing) → (s.threads t).stage ≡ Dying w → StaysOwned s t w.row
kept_stays s inv t first most w is =
    let sits : Walks s.layout t w = subst (Sits s t (s.threads t).held) is (inv.sits t first most) in
    let listed : LeftToWalk s t w.row = subst (Listed s t) is (inv.listed t first most) in
    stays s t w.head w.row (last_thread s t inv most) (subst (λ (u : ℕ). Knows u w.head w.row) sits.mine sits.knows) listed

pub marks_its_own : WalksGoOn
marks_its_own l counters events is t first most =
    let inv = start_kept l counters is in
    let same : (run (start l counters) events).layout.threads ≡ l.threads = ap (λ (z : Layout'). z.threads) (run_layout (start l counters) events inv) in
    kept_stays (run (start l counters) events) (run_kept (start l counters) events inv) t first (omega arith)
