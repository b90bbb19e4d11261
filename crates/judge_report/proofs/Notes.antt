-- The notes on an illegal return, in their order.
use Rattle.std.proofs.Common.{◌≡◌, ℕ, ◌-◌, List, [], ◌∷◌, ◌++◌, Some, append_assoc, append-nil, refl, sym, ap, ◌∙◌}
use Rattle.std.specs.Prelude.{codes, decimal, reverse}
use Rattle.std.specs.List.{slice_get}
use Rattle.lockword.specs.declared.reply.Reply.{Reply}
use Rattle.lockword.specs.Replies.{reply_word}
use Rattle.posixmutex.specs.declared.point.Operation.{Operation}
use Rattle.histories.specs.declared.entry.Entry.{Entry}
use Rattle.histories.specs.declared.entry.Entry.TheVariants.{Told, Doom}
use Rattle.histories.specs.declared.entry.HistoryLine.{HistoryLine}
use Rattle.certificates.specs.Certificates.{entries, whose}
use Rattle.judge.specs.declared.evidence.EarlierReply.{EarlierReply}
use Rattle.judge.specs.declared.reason.Reason.{Reason}
use Rattle.judge.specs.declared.reason.Reason.TheVariants.{NoOrder}
use Rattle.judge.specs.Evidence.{evidence_of}
use Rattle.judge_report.specs.Laws.{NotesAreInOrder, opening, see_line, told_so}
use Rattle.judge_report.specs.Texts.{begin_note, death_note, earlier_note, entry_thread, evidence_notes, first_text, here_text, illegal_text, illegal_title, ors_text, possible_note, quote, reply_note, why_note}

-- it is the thread whose line it is
named_by : (e : Entry) → entry_thread e ≡ whose e
named_by (Told f) = refl
named_by (Doom t) = refl

-- a text of five parts, of which the last is known
first_is : (t : ℕ) (y : Reply) → first_text t y ≡ codes "  = t" ++ (decimal t ++ (codes " could be told " ++ (reply_word y ++ [])))
first_is t y = refl

thread_so : (ls : List HistoryLine) (l : HistoryLine) (why : Reason) (y : Reply) (ys : List Reply)
    → (rest : List ℕ) × (illegal_text ls l why (y ∷ ys) ≡ opening l why ++ (codes "  = t" ++ (decimal (whose l.entry) ++ (codes " could be told " ++ (reply_word y ++ rest)))))
thread_so ls l why y ys =
    let t = whose l.entry in
    let more = ors_text ys ++ here_text in
    let notes = why_note ls why in
    let rest = more ++ notes in
    let so : possible_note t (y ∷ ys) ++ notes ≡ codes "  = t" ++ (decimal t ++ (codes " could be told " ++ (reply_word y ++ rest))) =
    append_assoc (first_text t y) more notes
    ∙ append_assoc (codes "  = t") (decimal t ++ (codes " could be told " ++ (reply_word y ++ []))) rest
    ∙ ap (λ (x : List ℕ). codes "  = t" ++ x)
    (append_assoc (decimal t) (codes " could be told " ++ (reply_word y ++ [])) rest
    ∙ ap (λ (x : List ℕ). decimal t ++ x)
    (append_assoc (codes " could be told ") (reply_word y ++ []) rest
    ∙ ap (λ (x : List ℕ). codes " could be told " ++ (x ++ rest)) (append-nil (reply_word y)))) in (
      rest,
      ap (λ (u : ℕ). illegal_title l why ++ (quote l ++ (possible_note u (y ∷ ys) ++ notes))) (named_by l.entry)
          ∙ sym (append_assoc (illegal_title l why) (quote l) (possible_note t (y ∷ ys) ++ notes))
          ∙ ap (λ (x : List ℕ). opening l why ++ x) so,
    )

-- a note on a line, as it is put together
see_is : (l : HistoryLine) (words : List ℕ)
    → (codes "  = see line " ++ (decimal l.number ++ (codes " (event " ++ (decimal l.event ++ words)))) ++ quote l ≡ see_line l words
see_is l words =
    append_assoc (codes "  = see line ") (decimal l.number ++ (codes " (event " ++ (decimal l.event ++ words))) (quote l)
    ∙ ap (λ (x : List ℕ). codes "  = see line " ++ x)
    (append_assoc (decimal l.number) (codes " (event " ++ (decimal l.event ++ words)) (quote l)
    ∙ ap (λ (x : List ℕ). decimal l.number ++ x)
    (append_assoc (codes " (event ") (decimal l.event ++ words) (quote l)
    ∙ ap (λ (x : List ℕ). codes " (event " ++ x) (append_assoc (decimal l.event) words (quote l))))

begin_is : (b : HistoryLine) → begin_note (Some b) ≡ see_line b (codes "): the call began\n")
begin_is b = see_is b (codes "): the call began\n")

began : (ls : List HistoryLine) (l b : HistoryLine) (op : Operation) (m n : ℕ) (x : Reply) (ys : List Reply) → slice_get ls (n - 1) ≡ Some b
    → (front : List ℕ) × (illegal_text ls l (NoOrder op m x n) ys ≡ front ++ see_line b (codes "): the call began\n"))
began ls l b op m n x ys there =
    let title = illegal_title l (NoOrder op m x n) in
    let possible = possible_note (entry_thread l.entry) ys in
    let evidence = evidence_notes ls m (evidence_of m (reverse (entries ls))) in
    let last = see_line b (codes "): the call began\n") in
    let note : begin_note (slice_get ls (n - 1)) ≡ last = ap begin_note there ∙ begin_is b in (
      title ++ (quote l ++ (possible ++ evidence)),
      ap (λ (z : List ℕ). title ++ (quote l ++ (possible ++ (evidence ++ z)))) note
          ∙ sym (append_assoc title (quote l ++ (possible ++ evidence)) last
          ∙ ap (λ (z : List ℕ). title ++ z) (append_assoc (quote l) (possible ++ evidence) last
          ∙ ap (λ (z : List ℕ). quote l ++ z) (append_assoc possible evidence last))),
    )

reply_is : (r : EarlierReply) (l : HistoryLine) (m : ℕ) → reply_note m r (Some l) ≡ see_line l (told_so r m)
reply_is r l m = see_is l (told_so r m)

earlier_is : (ls : List HistoryLine) (r : EarlierReply) (l : HistoryLine) (m : ℕ) → slice_get ls (r.place - 1) ≡ Some l → earlier_note ls m (Some r) ≡ see_line l (told_so r m)
earlier_is ls r l m there = ap (reply_note m r) there ∙ reply_is r l m

replies_so : (ls : List HistoryLine) (g d a : EarlierReply) (gl dl al : HistoryLine) (m n : ℕ) → slice_get ls (g.place - 1) ≡ Some gl → slice_get ls (d.place - 1) ≡ Some dl → slice_get ls (a.place - 1) ≡ Some al
    → evidence_notes ls m (record { death = Some n; got = Some g; declared = Some d; left = Some a })
    ≡ death_note m (slice_get ls (n - 1)) ++ (see_line gl (told_so g m) ++ (see_line dl (told_so d m) ++ see_line al (told_so a m)))
replies_so ls g d a gl dl al m n got declared left =
    let death = death_note m (slice_get ls (n - 1)) in
    ap (λ (z : List ℕ). death ++ (z ++ (earlier_note ls m (Some d) ++ earlier_note ls m (Some a)))) (earlier_is ls g gl m got)
    ∙ ap (λ (z : List ℕ). death ++ (see_line gl (told_so g m) ++ (z ++ earlier_note ls m (Some a)))) (earlier_is ls d dl m declared)
    ∙ ap (λ (z : List ℕ). death ++ (see_line gl (told_so g m) ++ (see_line dl (told_so d m) ++ z))) (earlier_is ls a al m left)

pub notes_so : NotesAreInOrder
notes_so = record { thread = thread_so; begin = began; replies = replies_so }
