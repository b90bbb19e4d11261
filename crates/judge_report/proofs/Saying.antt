-- What a judgement says of the history that was read.
use Rattle.std.proofs.Common.{◌≡◌, ℕ, ◌+◌, ◌<◌, List, [], ◌∷◌, ◌++◌, length, reverse, take, drop, get_or, refl, sym, ap, ap₂, subst, subst₂, ◌∙◌, append_assoc}
use Rattle.std.proofs.lemmas.Option.{get_or_from_slice_get}
use Rattle.std.proofs.lemmas.List.{reverse-append, reverse-reverse, take-append-drop, take_more}
use Rattle.lockword.specs.declared.reply.Reply.{Reply}
use Rattle.histories.specs.declared.entry.Entry.{Entry}
use Rattle.histories.specs.declared.entry.HistoryLine.{HistoryLine}
use Rattle.histories.specs.Histories.{LegalHistory}
use Rattle.certificates.specs.Certificates.{IsCertificate, entries, whose}
use Rattle.judge.specs.declared.reason.Reason.{Reason}
use Rattle.judge.specs.Judgements.{ArePossible, EndsIn, IsIllegal as IsJudgedIllegal, IsLegalBefore as IsJudgedBefore, IsNeverLegal}
use Rattle.judge.specs.Reasons.{reason_of}
use Rattle.judge.proofs.Legal.{legal}
use Rattle.judge_report.specs.declared.reading.History.{History}
use Rattle.judge_report.specs.Heard.{heard_of}
use Rattle.judge_report.specs.Said.{IsFirstIllegal, IsIllegal, IsLegal, IsLegalBefore, told}

pub told-append : (xs ys : List HistoryLine) → told (xs ++ ys) ≡ told xs ++ told ys
told-append [] ys = refl
told-append (x ∷ xs) ys = ap (λ (es : List Entry). x.entry ∷ es) (told-append xs ys)

told-reverse : (ls : List HistoryLine) → reverse (entries ls) ≡ told (reverse ls)
told-reverse [] = refl
told-reverse (l ∷ ls) =
    reverse-append (l.entry ∷ []) (entries ls) ∙ ap (λ (es : List Entry). es ++ l.entry ∷ []) (told-reverse ls)
    ∙ sym (told-append (reverse ls) (l ∷ [])) ∙ ap told (sym (reverse-append (l ∷ []) ls))

pub is_legal : (h : History) (steps : List Entry) → IsCertificate h.head.mutexes h.lines.items steps → IsLegal (heard_of h) steps
is_legal h steps c = record {
  legal = subst (LegalHistory h.head.mutexes) (told-reverse h.lines.items) (legal h.head.mutexes h.lines.items steps c);
  certificate = subst (λ (ls : List HistoryLine). IsCertificate h.head.mutexes ls steps) (sym (reverse-reverse h.lines.items)) c;
}

split_at : (ls : List HistoryLine) (at : ℕ) (l : HistoryLine) → at < length ls → l ≡ get_or ls at l → ls ≡ take at ls ++ (l ∷ drop (at + 1) ls)
split_at ls at l lt is =
    sym (take-append-drop (at + 1) ls) ∙ ap (λ (xs : List HistoryLine). xs ++ drop (at + 1) ls) (take_more ls at l lt ∙ ap (λ (x : HistoryLine). take at ls ++ x ∷ []) (sym is))
    ∙ append_assoc (take at ls) (l ∷ []) (drop (at + 1) ls)

pub is_legal_before : (h : History) (at : ℕ) (l : HistoryLine) → IsJudgedBefore h.head h.lines.items at → l ≡ get_or h.lines.items at l → IsLegalBefore (heard_of h) l
is_legal_before h at l judged is =
    let ls = h.lines.items in
    record {
      later = reverse (drop (at + 1) ls);
      earlier = reverse (take at ls);
      all = ap reverse (split_at ls at l judged.0 is) ∙ reverse-append (take at ls) (l ∷ drop (at + 1) ls)
          ∙ ap (λ (xs : List HistoryLine). xs ++ reverse (take at ls)) (reverse-append (l ∷ []) (drop (at + 1) ls))
          ∙ append_assoc (reverse (drop (at + 1) ls)) (l ∷ []) (reverse (take at ls));
      legal = subst (LegalHistory h.head.mutexes) (told-reverse (take at ls)) judged.1.1;
    }

pub is_first_illegal : (h : History) (at : ℕ) (l : HistoryLine) → IsJudgedBefore h.head h.lines.items at × IsNeverLegal h.head h.lines.items at → l ≡ get_or h.lines.items at l → IsFirstIllegal (heard_of h) l
unfolding is_legal_before
is_first_illegal h at l judged is =
    let ls = h.lines.items in
    let first : take (at + 1) ls ≡ take at ls ++ l ∷ [] = take_more ls at l judged.0.0 ∙ ap (λ (x : HistoryLine). take at ls ++ x ∷ []) (sym is) in
    let same : told (l ∷ reverse (take at ls)) ≡ reverse (entries (take (at + 1) ls)) =
    ap told (sym (reverse-append (take at ls) (l ∷ []))) ∙ sym (ap (λ (xs : List HistoryLine). told (reverse xs)) first) ∙ sym (told-reverse (take (at + 1) ls)) in
    record {
      before = is_legal_before h at l judged.0 is;
      never = λ legal. judged.1 (subst (LegalHistory h.head.mutexes) same legal);
    }

pub is_illegal : (h : History) (at : ℕ) (l : HistoryLine) (why : Reason) (possible : List Reply) (steps : List Entry) → IsJudgedIllegal h.head h.lines.items at why possible steps → l ≡ get_or h.lines.items at l
    → IsIllegal (heard_of h) l why possible steps
unfolding is_first_illegal is_legal_before
is_illegal h at l why possible steps judged is =
    let ls = h.lines.items in
    let same : l ≡ judged.line = is ∙ get_or_from_slice_get ls at judged.line l judged.stands in
    record {
      first = is_first_illegal h at l (judged.before, judged.never) is;
      reason = ap₂ (λ (es : List Entry) (x : HistoryLine). reason_of es x.entry) (sym (told-reverse (take at ls))) same ∙ judged.reason;
      could = subst₂ (λ (xs : List HistoryLine) (x : HistoryLine). ArePossible h.head xs (whose x.entry) why possible) (sym (reverse-reverse (take at ls))) (sym same) judged.could;
      shown = subst₂ (λ (xs : List HistoryLine) (x : HistoryLine). EndsIn h.head xs x.entry steps) (sym (reverse-reverse (take at ls))) (sym same) judged.shown;
    }

-- and the lines before it are those up to its place
pub illegal_so : (h : History) (at : ℕ) (l : HistoryLine) (why : Reason) (possible : List Reply) (steps : List Entry) → IsJudgedIllegal h.head h.lines.items at why possible steps → l ≡ get_or h.lines.items at l
    → (i : IsIllegal (heard_of h) l why possible steps) × (take at h.lines.items ≡ reverse i.first.before.earlier)
unfolding is_illegal is_first_illegal is_legal_before
illegal_so h at l why possible steps judged is = (is_illegal h at l why possible steps judged is, sym (reverse-reverse (take at h.lines.items)))
