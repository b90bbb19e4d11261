-- The items of a trace's lines, one line after the other.
use Rattle.std.proofs.Common.{◌≡◌, ℕ, suc, ◌+◌, ◌<◌, ◌≤◌, List, [], ◌∷◌, ◌++◌, length, map, take, drop, get_or, sym, ap, subst, ◌∙◌, add-one, append-nil, append_assoc, arith, drop-cons}
use Rattle.std.specs.Prelude.{All, Option, reverse}
use Rattle.std.proofs.Math.Seq.{drop-length}
use Rattle.std.proofs.lemmas.List.{length-take, map-append, reverse-append, take_more}
use Rattle.std.specs.List.{concat}
use Rattle.std.proofs.lemmas.List.Folds.{concat-append}
use Rattle.std.proofs.lemmas.List.Elements.{All-get_or}
use Rattle.facts.specs.declared.fact.Line.{Line}
use Rattle.verdict.specs.declared.checking.Finding.{Finding}
use Rattle.verdict.specs.declared.told.Told.{Told}
use Rattle.page.specs.Data.{history_lines, history_shown, lines_shown, shown_lines}
use Rattle.page.specs.Shows.{Item, items_behind, turn}
use Rattle.page.specs.Texts.{item_text, items_text}

from_next : (ls : List Line) (i : ℕ) (l : Line) → i < length ls → l ≡ get_or ls i l → drop i ls ≡ l ∷ drop (i + 1) ls
from_next ls i l lt is = rw (add-one, drop-cons ls i l) (ap (λ x. x ∷ drop (suc i) ls) (sym is))

items_joined : (xs ys : List Item) → items_text (xs ++ ys) ≡ items_text xs ++ items_text ys
items_joined xs ys = ap concat (map-append item_text xs ys) ∙ concat-append (map item_text xs) (map item_text ys)

pub items_next : (threads mutexes : ℕ) (es ls : List Line) (i : ℕ) (l : Line) → i < length ls → l ≡ get_or ls i l → items_text (items_behind threads mutexes es (drop i ls)) ≡ items_text (turn threads mutexes es l) ++ items_text (items_behind threads mutexes (l ∷ es) (drop (i + 1) ls))
items_next threads mutexes es ls i l lt is = subst (λ (xs : List Line). items_text (items_behind threads mutexes es xs) ≡ items_text (turn threads mutexes es l) ++ items_text (items_behind threads mutexes (l ∷ es) (drop (i + 1) ls))) (sym (from_next ls i l lt is)) (items_joined (turn threads mutexes es l) (items_behind threads mutexes (l ∷ es) (drop (i + 1) ls)))

-- a line more is in front of those before it
pub turned : (ls : List Line) (i : ℕ) (l : Line) → i < length ls → l ≡ get_or ls i l → l ∷ reverse (take i ls) ≡ reverse (take (i + 1) ls)
turned ls i l lt is = sym (ap reverse (take_more ls i l lt) ∙ reverse-append (take i ls) (get_or ls i l ∷ []) ∙ ap (λ (x : Line). x ∷ reverse (take i ls)) (sym is))

pub items_end : (threads mutexes : ℕ) (es ls : List Line) (i : ℕ) → i ≡ length ls → items_text (items_behind threads mutexes es (drop i ls)) ≡ []
items_end threads mutexes es ls i all = ap (λ (xs : List Line). items_text (items_behind threads mutexes es xs)) (ap (λ (n : ℕ). drop n ls) all ∙ drop-length ls)

pub item_of : (P : Line → Type 0) (ls : List Line) (i : ℕ) (l : Line) → i < length ls → l ≡ get_or ls i l → All P ls → P l
item_of P ls i l lt is all = subst P (sym is) (All-get_or P ls i l lt all)

pub short : (ls : List Line) (i : ℕ) → length ls ≤ 100000 → length (take i ls) ≤ 100000
short ls i few = let h = length-take i ls in omega (arith, few, h)

pub few_taken : (ls : List Line) (n : ℕ) → n ≤ 100000 → length (take n ls) ≤ 100000
few_taken ls n few = let h = length-take n ls in omega (arith, few, h)

-- the lines that are shown
pub shown_so : (t : Told) (f : Finding) (ls : List Line) (n : ℕ) → ls ≡ t.lines.items → n ≡ shown_lines f (length ls) → take n ls ≡ lines_shown t f
shown_so t f ls n is so = ap (take n) is ∙ ap (λ (k : ℕ). take k t.lines.items) (so ∙ ap (λ (us : List Line). shown_lines f (length us)) is)

pub history_so : (t : Told) (why : Option (List ℕ)) (ls : List Line) (n : ℕ) → ls ≡ t.lines.items → n ≡ history_lines why (length ls) → take n ls ≡ history_shown t why
history_so t why ls n is so = ap (take n) is ∙ ap (λ (k : ℕ). take k t.lines.items) (so ∙ ap (λ (us : List Line). history_lines why (length us)) is)

-- ---- a text that grows by what is still to come

pub one_further : (start old new whole rest next more : List ℕ) → old ++ rest ≡ start ++ whole → rest ≡ next ++ more → new ≡ old ++ next → new ++ more ≡ start ++ whole
one_further start old new whole rest next more before is added = ap (λ (l : List ℕ). l ++ more) added ∙ append_assoc old next more ∙ ap (λ (l : List ℕ). old ++ l) (sym is) ∙ before

pub nothing_more : (start new whole rest : List ℕ) → rest ≡ [] → new ++ rest ≡ start ++ whole → new ≡ start ++ whole
nothing_more start new whole rest none all = sym (append-nil new) ∙ ap (λ (l : List ℕ). new ++ l) (sym none) ∙ all
