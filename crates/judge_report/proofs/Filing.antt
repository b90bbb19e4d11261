-- What is known where a certificate was kept.
use Rattle.std.proofs.Common.{◌≡◌, ℕ, ◌+◌, List, [], ◌∷◌, ◌++◌, length, reverse, Option, IfOk, Result, Ok, Err, sym, ap, subst, ◌∙◌}
use Rattle.std.specs.Prelude.{Vec}
use Rattle.std.specs.declared.alloc.Global.{Global}
use Rattle.std.specs.Io.KnownBytes.{Appends}
use Rattle.std.proofs.lemmas.List.{length-reverse, reverse-append}
use Rattle.histories.specs.declared.head.Head.{Head}
use Rattle.histories.specs.declared.entry.Entry.{Entry}
use Rattle.judge.specs.declared.judging.Judgement.{Judgement}
use Rattle.lockword.specs.declared.reply.Reply.{Reply}
use Rattle.judge.specs.declared.judging.Judgement.TheVariants.{Legal, Illegal, Undecided}
use Rattle.judge.specs.declared.reason.Reason.{Reason}
use Rattle.windows.specs.declared.cutting.Window.{Window}
use Rattle.judge_report.specs.declared.asking.Keeping.{Keeping}
use Rattle.judge_report.specs.declared.keeping.Cut.{Cut}
use Rattle.judge_report.specs.Asked.{Kept, kept_of}
use Rattle.judge_report.specs.Heard.{Heard}
use Rattle.judge_report.specs.Kept.{AreKept, IsFilled, IsIllegalKept, IsKept, IsUndecidedKept, IsWindowKept, IsWritten}

pub written_so : {E : Type 0} (Makes Fills : List ℕ → Option (List ℕ) → Type 0) (name text : List ℕ) (a b : Option (List ℕ)) (r : Result (Unit {0}) E) → Makes name a → Appends a b text → IfOk r (λ _. Fills name b)
    → IfOk r (λ _. IsWritten Makes Fills name text)
written_so Makes Fills name text a b (Ok u) makes all fills = record { made = a; filled = b; makes = makes; fills = fills; all = all }
written_so Makes Fills name text a b (Err e) makes all fills = tt

-- one window more
pub one_more : (Makes Fills : List ℕ → Option (List ℕ) → Type 0) (out : List ℕ) (h : Head) (steps : List Entry) (from to : ℕ) (w : Window) (c : Cut) (cs cs' : List Cut) → cs' ≡ cs ++ c ∷ [] → w.from ≡ from → to ≡ w.to → c.number ≡ length cs + 1
    → IsWindowKept Makes Fills out h steps w c → AreKept Makes Fills out h steps from (reverse cs) → AreKept Makes Fills out h steps to (reverse cs')
one_more Makes Fills out h steps from to w c cs cs' more begins ends number is so =
    let behind : reverse cs' ≡ c ∷ reverse cs = ap reverse more ∙ reverse-append cs (c ∷ []) in
    subst (AreKept Makes Fills out h steps to) (sym behind)
    (w, sym ends, number ∙ ap (λ (n : ℕ). n + 1) (sym (length-reverse cs)), is, subst (λ (n : ℕ). AreKept Makes Fills out h steps n (reverse cs)) (sym begins) so)

-- a certificate's windows, where it is a legal history's
pub filled_so : {E : Type 0} (Makes Fills : List ℕ → Option (List ℕ) → Type 0) (kept : Kept) (k : Heard) (j : Judgement) (steps : Vec Entry Global) (r : Result (Vec Cut Global) E) → j ≡ Legal steps
    → IfOk r (λ cuts. IsKept Makes Fills kept k.head steps.items cuts.items) → IfOk r (λ cuts. IsFilled Makes Fills kept k j cuts.items)
filled_so Makes Fills kept k j steps r legal holds =
    subst (λ (q : Judgement). IfOk r (λ cuts. IsFilled Makes Fills kept k q cuts.items)) (sym legal) holds

-- a trace of an illegal history
pub filled_illegal : {E : Type 0} (Makes Fills : List ℕ → Option (List ℕ) → Type 0) (kept : Kept) (k : Heard) (j : Judgement) (at : ℕ) (why : Reason) (possible : Vec Reply Global) (steps : Vec Entry Global) (r : Result (Vec Cut Global) E) → j ≡ Illegal at why possible steps
    → IfOk r (λ cuts. IsIllegalKept Makes Fills kept k.head steps.items × (cuts.items ≡ [])) → IfOk r (λ cuts. IsFilled Makes Fills kept k j cuts.items)
filled_illegal Makes Fills kept k j at why possible steps r illegal holds =
    subst (λ (q : Judgement). IfOk r (λ cuts. IsFilled Makes Fills kept k q cuts.items)) (sym illegal) holds

-- nothing of an undecided one
pub filled_undecided : {E : Type 0} (Makes Fills : List ℕ → Option (List ℕ) → Type 0) (kept : Kept) (k : Heard) (j : Judgement) (at : ℕ) (r : Result (Vec Cut Global) E) → j ≡ Undecided at
    → IfOk r (λ cuts. IsUndecidedKept Makes Fills kept × (cuts.items ≡ [])) → IfOk r (λ cuts. IsFilled Makes Fills kept k j cuts.items)
filled_undecided Makes Fills kept k j at r undecided holds =
    subst (λ (q : Judgement). IfOk r (λ cuts. IsFilled Makes Fills kept k q cuts.items)) (sym undecided) holds

pub kept_so : (Makes Fills : List ℕ → Option (List ℕ) → Type 0) (keeping is : Keeping) (h : Head) (steps : List Entry) (cs : List Cut) → keeping ≡ is → IsKept Makes Fills (kept_of is) h steps cs → IsKept Makes Fills (kept_of keeping) h steps cs
kept_so Makes Fills keeping is h steps cs same holds = subst (λ (q : Keeping). IsKept Makes Fills (kept_of q) h steps cs) (sym same) holds
