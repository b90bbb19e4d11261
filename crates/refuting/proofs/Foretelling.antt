-- What calls return, looked up from the last line on.
use Rattle.std.proofs.Common.{◌≡◌, ℕ, ◌<◌, ◌≤◌, ◌+◌, ◌-◌, List, [], ◌∷◌, ◌++◌, length, get_or, reverse, drop, sym, ap, ◌∙◌, arith}
use Rattle.std.specs.Prelude.{Option, None, slice_index_or}
use Rattle.std.proofs.Math.Seq.{drop-length}
use Rattle.std.proofs.lemmas.List.{drop_more, reverse-append}
use Rattle.lockword.specs.declared.reply.Reply.{Reply}
use Rattle.histories.specs.declared.entry.Entry.{Entry}
use Rattle.histories.specs.declared.entry.HistoryLine.{HistoryLine}
use Rattle.refuting.specs.Turns.{entries, entry_thread, replies_of, reply_in}

-- of the last lines, this many
abbrev pub last : List HistoryLine → ℕ → List HistoryLine
last ls count = drop (length ls - count) ls

pub record Foretold (ls : List HistoryLine) (next replies : List (Option Reply)) (count : ℕ) : Type 0 where
  pub few : count ≤ length ls
  pub says : (t : ℕ) → slice_index_or next t None ≡ reply_in t (entries (last ls count))
  pub kept : replies ≡ reverse (replies_of (last ls count))

pub none_yet : (ls : List HistoryLine) (next : List (Option Reply)) → ((t : ℕ) → slice_index_or next t None ≡ None) → Foretold ls next [] 0
none_yet ls next alike = record {
  few = omega arith;
  says = λ t. alike t ∙ sym (ap (λ xs. reply_in t (entries xs)) nothing);
  kept = sym (ap (λ xs. reverse (replies_of xs)) nothing);
} where
  nothing : last ls 0 ≡ []
  nothing = let all : length ls - 0 ≡ length ls = omega arith in ap (λ k. drop k ls) all ∙ drop-length ls

one_longer : (ls : List HistoryLine) (back i : ℕ) (l d : HistoryLine) → back < length ls → i ≡ length ls - 1 - back → get_or ls i d ≡ l → last ls (back + 1) ≡ l ∷ last ls back
one_longer ls back i l d lt at is =
    let inside : i < length ls = omega (arith, lt, at) in
    let here : length ls - (back + 1) ≡ i = omega (arith, at) in
    let next : i + 1 ≡ length ls - back = omega (arith, at, lt) in
    ap (λ k. drop k ls) here ∙ drop_more ls i d inside ∙ ap (λ x. x ∷ drop (i + 1) ls) is ∙ ap (λ k. l ∷ drop k ls) next

pub one_back : (ls : List HistoryLine) (next new rs qs : List (Option Reply)) (back i : ℕ) (l d : HistoryLine) → back < length ls → i ≡ length ls - 1 - back → get_or ls i d ≡ l → Foretold ls next rs back
    → qs ≡ rs ++ slice_index_or next (entry_thread l.entry) None ∷ []
    → ((t : ℕ) (es : List Entry) → slice_index_or next t None ≡ reply_in t es → slice_index_or new t None ≡ reply_in t (l.entry ∷ es)) → Foretold ls new qs (back + 1)
one_back ls next new rs qs back i l d lt at is f more hears =
    let longer = one_longer ls back i l d lt at is in
    let u = entry_thread l.entry in
    record {
      few = omega (arith, lt);
      says = λ t. hears t (entries (last ls back)) (f.says t) ∙ sym (ap (λ xs. reply_in t (entries xs)) longer);
      kept = more ∙ ap (λ xs. xs ++ slice_index_or next u None ∷ []) f.kept ∙ ap (λ x. reverse (replies_of (last ls back)) ++ x ∷ []) (f.says u)
          ∙ sym (reverse-append (reply_in u (entries (last ls back)) ∷ []) (replies_of (last ls back))) ∙ sym (ap (λ xs. reverse (replies_of xs)) longer);
    }
