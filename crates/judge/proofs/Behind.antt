-- What lines say, of which the newest is taken away.
use Rattle.std.proofs.Common.{◌≡◌, ℕ, ◌+◌, ◌==◌, Bool, true, false, List, [], ◌∷◌, ◌++◌, length, reverse, if◌then◌else◌, Option, Some, None, refl, sym, ap, ◌∙◌}
use Rattle.std.specs.Option.{is_some}
use Rattle.std.proofs.lemmas.List.{length-map, length-reverse}
use Rattle.histories.specs.declared.entry.HistoryLine.{HistoryLine}
use Rattle.certificates.specs.Certificates.{entries, whose}
use Rattle.judge.specs.declared.evidence.Change.{Change}
use Rattle.judge.specs.declared.evidence.EarlierReply.{EarlierReply}
use Rattle.judge.specs.Evidence.{death_behind, first_of, is_death, known_or, owned, owned_at, reply_at, reply_behind}
use Rattle.judge.specs.Reasons.{standing_after, standing_behind}
use Rattle.judge.proofs.Lines.{entries-push}

newest_first : (ks ls : List HistoryLine) (l : HistoryLine) → ks ≡ ls ++ l ∷ [] → reverse (entries ks) ≡ l.entry ∷ reverse (entries ls)
newest_first ks ls l is = ap (λ (xs : List HistoryLine). reverse (entries xs)) is ∙ entries-push ls l

many : (ls : List HistoryLine) → length (reverse (entries ls)) ≡ length ls
many ls = length-reverse (entries ls) ∙ length-map ls (λ (x : HistoryLine). x.entry)

-- the newest line is the thread's own, or isn't
pub standing_here : (t : ℕ) (ks ls : List HistoryLine) (l : HistoryLine) → ks ≡ ls ++ l ∷ [] → length ls + 1 ≡ length ks → (whose l.entry == t) ≡ true → standing_behind t (reverse (entries ks)) ≡ standing_after l.entry (length ks)
standing_here t ks ls l is more own =
    ap (standing_behind t) (newest_first ks ls l is) ∙ ap (λ (c : Bool). if c then standing_after l.entry (length (reverse (entries ls)) + 1) else standing_behind t (reverse (entries ls))) own
    ∙ ap (λ (n : ℕ). standing_after l.entry (n + 1)) (many ls) ∙ ap (standing_after l.entry) more

pub standing_further : (t : ℕ) (ks ls : List HistoryLine) (l : HistoryLine) → ks ≡ ls ++ l ∷ [] → (whose l.entry == t) ≡ false → standing_behind t (reverse (entries ks)) ≡ standing_behind t (reverse (entries ls))
standing_further t ks ls l is other =
    ap (standing_behind t) (newest_first ks ls l is) ∙ ap (λ (c : Bool). if c then standing_after l.entry (length (reverse (entries ls)) + 1) else standing_behind t (reverse (entries ls))) other

-- it says whether the thread owns the mutex, or doesn't say it
known_here : (o other : Option Bool) → is_some o ≡ true → known_or o other ≡ o
known_here (Some b) other some = refl
known_here None other some = let no : false ≡ true = some in absurd cc

known_further : (o other : Option Bool) → is_some o ≡ false → known_or o other ≡ other
known_further None other none = refl
known_further (Some b) other none = let no : true ≡ false = none in absurd cc

pub owned_here : (m t : ℕ) (ks ls : List HistoryLine) (l : HistoryLine) (o : Option Bool) → ks ≡ ls ++ l ∷ [] → o ≡ owned_at m t l.entry (reverse (entries ls)) → is_some o ≡ true → owned m t (reverse (entries ks)) ≡ o
owned_here m t ks ls l o is at some =
    ap (owned m t) (newest_first ks ls l is) ∙ ap (λ (x : Option Bool). known_or x (owned m t (reverse (entries ls)))) (sym at) ∙ known_here o (owned m t (reverse (entries ls))) some

pub owned_further : (m t : ℕ) (ks ls : List HistoryLine) (l : HistoryLine) (o : Option Bool) → ks ≡ ls ++ l ∷ [] → o ≡ owned_at m t l.entry (reverse (entries ls)) → is_some o ≡ false → owned m t (reverse (entries ks)) ≡ owned m t (reverse (entries ls))
owned_further m t ks ls l o is at none =
    ap (owned m t) (newest_first ks ls l is) ∙ ap (λ (x : Option Bool). known_or x (owned m t (reverse (entries ls)))) (sym at) ∙ known_further o (owned m t (reverse (entries ls))) none

-- it tells of such a death, or doesn't
pub death_here : (m : ℕ) (ks ls : List HistoryLine) (l : HistoryLine) (b : Bool) → ks ≡ ls ++ l ∷ [] → length ls + 1 ≡ length ks → b ≡ is_death m l.entry (reverse (entries ls)) → b ≡ true → death_behind m (reverse (entries ks)) ≡ Some (length ks)
death_here m ks ls l b is more at so =
    ap (death_behind m) (newest_first ks ls l is) ∙ ap (λ (c : Bool). if c then Some (length (reverse (entries ls)) + 1) else death_behind m (reverse (entries ls))) (sym at ∙ so)
    ∙ ap (λ (n : ℕ). Some (n + 1)) (many ls) ∙ ap (λ (n : ℕ). Some n) more

pub death_further : (m : ℕ) (ks ls : List HistoryLine) (l : HistoryLine) (b : Bool) → ks ≡ ls ++ l ∷ [] → b ≡ is_death m l.entry (reverse (entries ls)) → b ≡ false → death_behind m (reverse (entries ks)) ≡ death_behind m (reverse (entries ls))
death_further m ks ls l b is at so =
    ap (death_behind m) (newest_first ks ls l is) ∙ ap (λ (c : Bool). if c then Some (length (reverse (entries ls)) + 1) else death_behind m (reverse (entries ls))) (sym at ∙ so)

-- it is such a reply, or isn't
first_here : (o other : Option EarlierReply) → is_some o ≡ true → first_of o other ≡ o
first_here (Some r) other some = refl
first_here None other some = let no : false ≡ true = some in absurd cc

first_further : (o other : Option EarlierReply) → is_some o ≡ false → first_of o other ≡ other
first_further None other none = refl
first_further (Some r) other none = let no : true ≡ false = none in absurd cc

counted : (k : Change) (m : ℕ) (ks ls : List HistoryLine) (l : HistoryLine) → length ls + 1 ≡ length ks → reply_at k m l.entry (reverse (entries ls)) (length (reverse (entries ls)) + 1) ≡ reply_at k m l.entry (reverse (entries ls)) (length ks)
counted k m ks ls l more = ap (λ (n : ℕ). reply_at k m l.entry (reverse (entries ls)) (n + 1)) (many ls) ∙ ap (reply_at k m l.entry (reverse (entries ls))) more

pub reply_here : (k : Change) (m : ℕ) (ks ls : List HistoryLine) (l : HistoryLine) (o : Option EarlierReply) → ks ≡ ls ++ l ∷ [] → length ls + 1 ≡ length ks → o ≡ reply_at k m l.entry (reverse (entries ls)) (length ks) → is_some o ≡ true → reply_behind k m (reverse (entries ks)) ≡ o
reply_here k m ks ls l o is more at some =
    ap (reply_behind k m) (newest_first ks ls l is) ∙ ap (λ (x : Option EarlierReply). first_of x (reply_behind k m (reverse (entries ls)))) (counted k m ks ls l more ∙ sym at) ∙ first_here o (reply_behind k m (reverse (entries ls))) some

pub reply_further : (k : Change) (m : ℕ) (ks ls : List HistoryLine) (l : HistoryLine) (o : Option EarlierReply) → ks ≡ ls ++ l ∷ [] → length ls + 1 ≡ length ks → o ≡ reply_at k m l.entry (reverse (entries ls)) (length ks) → is_some o ≡ false → reply_behind k m (reverse (entries ks)) ≡ reply_behind k m (reverse (entries ls))
reply_further k m ks ls l o is more at none =
    ap (reply_behind k m) (newest_first ks ls l is) ∙ ap (λ (x : Option EarlierReply). first_of x (reply_behind k m (reverse (entries ls)))) (counted k m ks ls l more ∙ sym at) ∙ first_further o (reply_behind k m (reverse (entries ls))) none
