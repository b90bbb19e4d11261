-- What is said of a history that is drawn is what is printed of it.
use Rattle.std.proofs.Common.{◌≡◌, ℕ, Bool, List, [], ◌∷◌, ◌++◌, reverse, Some, sym, ap, subst, ◌∙◌}
use Rattle.std.specs.Prelude.{codes, Vec}
use Rattle.std.specs.declared.alloc.Global.{Global}
use Rattle.lockword.specs.declared.reply.Reply.{Reply}
use Rattle.histories.specs.declared.entry.Entry.{Entry}
use Rattle.histories.specs.declared.entry.HistoryLine.{HistoryLine}
use Rattle.histories.specs.Histories.{LegalHistory}
use Rattle.histories.proofs.Showing.{beginnings}
use Rattle.judge.specs.declared.judging.Judgement.TheVariants.{Illegal}
use Rattle.judge.specs.declared.reason.Reason.{Reason}
use Rattle.judge.specs.Reasons.{reason_of}
use Rattle.judge_report.specs.declared.keeping.Cut.{Cut}
use Rattle.judge_report.specs.Heard.{Heard}
use Rattle.judge_report.specs.Laws.{ExplanationsAreSaid, IsFoundIllegal}
use Rattle.judge_report.specs.Said.{IsIllegal, IsSaid, told}
use Rattle.judge_report.specs.Texts.{illegal_text}
use Rattle.judge_report.specs.Traces.{IsExplained}
use Rattle.judge_report.proofs.Saying.{told-append}
use Rattle.judge_report.proofs.Statuses.{illegal_begins, never_legal, number_of_text}

-- ---- there is one first illegal line

legal_older : (n : ℕ) (xs : List HistoryLine) (b : HistoryLine) (fs es : List HistoryLine) → es ≡ xs ++ b ∷ fs → LegalHistory n (told es) → LegalHistory n (told (b ∷ fs))
legal_older n xs b fs es is legal = beginnings n (told xs) (told (b ∷ fs)) (subst (LegalHistory n) (ap told is ∙ told-append xs (b ∷ fs)) legal)

abbrev Same : HistoryLine → HistoryLine → List HistoryLine → List HistoryLine → Type 0
Same a b es fs = (a ≡ b) × (es ≡ fs)

one_first : (n : ℕ) (xs ys : List HistoryLine) (a b : HistoryLine) (es fs : List HistoryLine) → xs ++ a ∷ es ≡ ys ++ b ∷ fs → LegalHistory n (told es) → (LegalHistory n (told (a ∷ es)) → ⊥) → LegalHistory n (told fs) → (LegalHistory n (told (b ∷ fs)) → ⊥) → Same a b es fs
one_first n [] [] a b es fs same legal never before other = (cc, cc)
one_first n [] (y ∷ ys) a b es fs same legal never before other = let rest : es ≡ ys ++ b ∷ fs = cc in absurd (other (legal_older n ys b fs es rest legal))
one_first n (x ∷ xs) [] a b es fs same legal never before other = let rest : fs ≡ xs ++ a ∷ es = cc in absurd (never (legal_older n xs a es fs rest before))
one_first n (x ∷ xs) (y ∷ ys) a b es fs same legal never before other = let rest : xs ++ a ∷ es ≡ ys ++ b ∷ fs = cc in one_first n xs ys a b es fs rest legal never before other

some_same : (x y : Reason) → Some x ≡ Some y → x ≡ y
some_same x y is = cc

-- ---- what is said

found_illegal : (k : Heard) (line : HistoryLine) (why : Reason) (possible : List Reply) (steps : List Entry) (is : IsIllegal k line why possible steps) (said : List ℕ) → said ≡ illegal_text (reverse is.first.before.earlier) line why possible → IsFoundIllegal k said
found_illegal k line why possible steps is said text =
    (never_legal k line is.first, (line, is.first, number_of_text (codes "illegal at line ") line.number said _ text (illegal_begins (reverse is.first.before.earlier) line why possible)))

both : (k : Heard) (a b : HistoryLine) (v w : Reason) (ys zs : List Reply) (ss ts : List Entry) (x : IsIllegal k a v ys ss) (y : IsIllegal k b w zs ts) (said : List ℕ) → said ≡ illegal_text (reverse x.first.before.earlier) a v ys → said ≡ illegal_text (reverse y.first.before.earlier) b w ys
both k a b v w ys zs ss ts x y said text =
    let p = x.first.before in
    let q = y.first.before in
    let same = one_first k.head.mutexes p.later q.later a b p.earlier q.earlier (sym p.all ∙ q.all) p.legal x.first.never q.legal y.first.never in
    let reasons : reason_of (told p.earlier) a.entry ≡ reason_of (told q.earlier) b.entry = ap (λ (es : List HistoryLine). reason_of (told es) a.entry) same.1 ∙ ap (λ (l : HistoryLine). reason_of (told q.earlier) l.entry) same.0 in
    let why = some_same v w (sym x.reason ∙ reasons ∙ y.reason) in
    text ∙ ap (λ (es : List HistoryLine). illegal_text (reverse es) a v ys) same.1 ∙ ap (λ (l : HistoryLine). illegal_text (reverse q.earlier) l v ys) same.0
    ∙ ap (λ (r : Reason). illegal_text (reverse q.earlier) b r ys) why

same_said : (waiting : Bool) (k : Heard) (steps : List Entry) (said : List ℕ) (at : ℕ) (why : Reason) (possible : Vec Reply Global) (printed : Vec Entry Global) (cuts : List Cut) (text : List ℕ)
    → IsExplained k steps (Some said) → IsSaid waiting k (Illegal at why possible printed) cuts text
    → (ls : List HistoryLine) × (line : HistoryLine) × (ys : List Reply) × (text ≡ illegal_text ls line why possible.items) × (said ≡ illegal_text ls line why ys)
same_said waiting k steps said at why possible printed cuts text e s =
    (reverse s.1.first.before.earlier, s.0, e.2, s.2, both k e.0 s.0 e.1 why e.2 possible.items steps printed.items e.3 s.1 said e.4)

pub explained_so : ExplanationsAreSaid
explained_so = record {
  legal = λ k steps e. e.legal;
  illegal = λ k steps said e. found_illegal k e.0 e.1 e.2 steps e.3 said e.4;
  same = same_said;
}
