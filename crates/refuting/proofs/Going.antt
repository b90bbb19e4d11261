-- The lines, one by one.
use Rattle.std.proofs.Common.{◌≡◌, ℕ, zero, suc, ◌<◌, ◌+◌, Bool, true, false, List, [], ◌∷◌, ◌++◌, length, get_or, reverse, take, drop, refl, sym, ap, subst, ◌∙◌, arith, MatchBool}
use Rattle.std.specs.Prelude.{Option}
use Rattle.std.proofs.lemmas.List.{drop_more, reverse-append, take_more, map-append, take-append-drop}
use Rattle.lockword.specs.declared.reply.Reply.{Reply}
use Rattle.histories.specs.declared.entry.Entry.{Entry}
use Rattle.histories.specs.declared.entry.HistoryLine.{HistoryLine}
use Rattle.histories.specs.Histories.{LegalHistory}
use Rattle.histories.proofs.Showing.{beginnings}
use Rattle.refuting.specs.declared.refuter.Refuter.{Refuter}
use Rattle.refuting.specs.Following.{Follows, Takes}
use Rattle.refuting.specs.Turns.{entries, entry_thread, replies_of, reply_in}

pub record Going (n m : ℕ) (ls : List HistoryLine) (count : ℕ) (r : Refuter) : Type 0 where
  pub mutex : r.mutex ≡ m
  pub inside : m < n
  pub follows : Follows n (reverse (entries (take count ls))) (entries (drop count ls)) r

pub first : (n m : ℕ) (ls : List HistoryLine) (r : Refuter) → r.mutex ≡ m → m < n → ((n : ℕ) (future : List Entry) → Follows n [] future r) → Going n m ls 0 r
first n m ls r is lt f = record { mutex = is; inside = lt; follows = f n (entries ls) }

pub as_many : (ls : List HistoryLine) → length (replies_of ls) ≡ length ls
as_many [] = refl
as_many (l ∷ ls) = ap suc (as_many ls)

one_more : (k : ℕ) → k + 1 ≡ suc k
one_more k = omega arith

read_reply : (ls : List HistoryLine) (k : ℕ) (d : HistoryLine) (x : Option Reply) → k < length ls → get_or (replies_of ls) k x ≡ reply_in (entry_thread (get_or ls k d).entry) (entries (drop (suc k) ls))
read_reply [] k d x lt = absurd (omega (arith, lt))
read_reply (l ∷ ls) zero d x lt = refl
read_reply (l ∷ ls) (suc k) d x lt = read_reply ls k d x (omega (arith, lt))

one_earlier : (ls : List HistoryLine) (k : ℕ) (l d : HistoryLine) → k < length ls → get_or ls k d ≡ l → reverse (entries (take (k + 1) ls)) ≡ l.entry ∷ reverse (entries (take k ls))
one_earlier ls k l d lt is =
    ap (λ xs. reverse (entries xs)) (take_more ls k d lt ∙ ap (λ x. take k ls ++ x ∷ []) is) ∙ ap reverse (map-append (λ (q : HistoryLine). q.entry) (take k ls) (l ∷ [])) ∙ reverse-append (entries (take k ls)) (l.entry ∷ [])

one_later : (ls : List HistoryLine) (k : ℕ) (l d : HistoryLine) → k < length ls → get_or ls k d ≡ l → entries (drop k ls) ≡ l.entry ∷ entries (drop (k + 1) ls)
one_later ls k l d lt is = ap entries (drop_more ls k d lt ∙ ap (λ x. x ∷ drop (k + 1) ls) is)

-- what taking the line says
said : (n m : ℕ) (ls : List HistoryLine) (k : ℕ) (l d : HistoryLine) (replies : List (Option Reply)) (x y : Option Reply) (r s : Refuter) (going : Bool) → Going n m ls k r → k < length ls → get_or ls k d ≡ l → replies ≡ replies_of ls → get_or replies k y ≡ x
    → Takes r l.entry x going s → MatchBool going (Follows n (l.entry ∷ reverse (entries (take k ls))) (entries (drop (k + 1) ls)) s × (s.mutex ≡ r.mutex)) (LegalHistory n (l.entry ∷ reverse (entries (take k ls))) → ⊥)
said n m ls k l d replies x y r s going g lt is known reply takes =
    takes n (reverse (entries (take k ls))) (entries (drop (k + 1) ls)) (subst (λ z. z < n) (sym g.mutex) g.inside)
    (subst (λ es. Follows n (reverse (entries (take k ls))) es r) (one_later ls k l d lt is) g.follows)
    (sym reply ∙ ap (λ xs. get_or xs k y) known ∙ read_reply ls k d y lt ∙ ap (λ j. reply_in (entry_thread (get_or ls k d).entry) (entries (drop j ls))) (sym (one_more k)) ∙ ap (λ (q : HistoryLine). reply_in (entry_thread q.entry) (entries (drop (k + 1) ls))) is)

pub goes : (n m : ℕ) (ls : List HistoryLine) (k : ℕ) (l d : HistoryLine) (replies : List (Option Reply)) (x y : Option Reply) (r s : Refuter) → Going n m ls k r → k < length ls → get_or ls k d ≡ l → replies ≡ replies_of ls → get_or replies k y ≡ x → Takes r l.entry x true s → Going n m ls (k + 1) s
goes n m ls k l d replies x y r s g lt is known reply takes =
    let h = said n m ls k l d replies x y r s true g lt is known reply takes in
    record {
      mutex = h.1 ∙ g.mutex;
      inside = g.inside;
      follows = subst (λ es. Follows n es (entries (drop (k + 1) ls)) s) (sym (one_earlier ls k l d lt is)) h.0;
    }

-- the lines up to here are the oldest of all
oldest : (ls : List HistoryLine) (k : ℕ) → reverse (entries ls) ≡ reverse (entries (drop k ls)) ++ reverse (entries (take k ls))
oldest ls k = sym (ap (λ xs. reverse (entries xs)) (take-append-drop k ls)) ∙ ap reverse (map-append (λ (q : HistoryLine). q.entry) (take k ls) (drop k ls)) ∙ reverse-append (entries (take k ls)) (entries (drop k ls))

pub stops : (n m : ℕ) (ls : List HistoryLine) (k : ℕ) (l d : HistoryLine) (replies : List (Option Reply)) (x y : Option Reply) (r s : Refuter) → Going n m ls k r → k < length ls → get_or ls k d ≡ l → replies ≡ replies_of ls → get_or replies k y ≡ x → Takes r l.entry x false s → LegalHistory n (reverse (entries ls)) → ⊥
stops n m ls k l d replies x y r s g lt is known reply takes legal =
    let never = said n m ls k l d replies x y r s false g lt is known reply takes in
    never (subst (LegalHistory n) (one_earlier ls k l d lt is) (beginnings n (reverse (entries (drop (k + 1) ls))) (reverse (entries (take (k + 1) ls))) (subst (LegalHistory n) (oldest ls (k + 1)) legal)))
