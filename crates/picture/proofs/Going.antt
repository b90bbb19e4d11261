-- Drawing line after line, as a loop does.
use Rattle.std.proofs.Common.{◌≡◌, ℕ, suc, ◌+◌, ◌<◌, List, [], ◌∷◌, ◌++◌, length, drop, get_or, Option, Result, IsErr, sym, ap, subst, ◌∙◌, append_assoc, append-nil, refl, add-one, drop-cons}
use Rattle.std.proofs.Math.Seq.{drop-length}
use Rattle.std.specs.Io.KnownBytes.{Appends}
use Rattle.streams.specs.Leaves.{AppendsFront, Leaves}
use Rattle.streams.proofs.Writers.{Appends-nil, Appends-trans, ends_at_second, then_leaves}
use Rattle.facts.specs.declared.fact.Line.{Line}
use Rattle.picture.specs.declared.scene.Scene.{Scene}
use Rattle.picture.specs.declared.svg.Since.{Since}
use Rattle.picture.specs.declared.bands.Extent.{Extent}
use Rattle.picture.specs.Drawn.{extent_in, lanes_of, rows_text, text_extent}
use Rattle.picture.specs.Layouts.{band_room}
use Rattle.picture.specs.Names.{Called}
use Rattle.picture.specs.Rows.{row_text}
use Rattle.picture.specs.Scenes.{behind}
use Rattle.picture.specs.Svg.{begins_at, line_marks, line_parts, marks, parts, rests}

-- a writer holds a beginning of a text, after which this is to come
pub record Sofar (a b : Option (List ℕ)) (text rest : List ℕ) : Type 0 where
  pub done : List ℕ
  pub holds : Appends a b done
  pub whole : text ≡ done ++ rest

pub begins : (a : Option (List ℕ)) (text : List ℕ) → Sofar a a text text
begins a text = record { done = []; holds = Appends-nil a; whole = refl }

pub goes_on : (a b c : Option (List ℕ)) (text rest next more : List ℕ) → Sofar a b text rest → rest ≡ next ++ more → Appends b c next → Sofar a c text more
goes_on a b c text rest next more s e p = record {
  done = s.done ++ next;
  holds = Appends-trans a b c s.done next s.holds p;
  whole = s.whole ∙ ap (λ l. s.done ++ l) e ∙ sym (append_assoc s.done next more);
}

pub stops : {X E : Type 0} (a b c : Option (List ℕ)) (r : Result X E) (text rest next more : List ℕ) → IsErr r → Sofar a b text rest → rest ≡ next ++ more → AppendsFront b c next → Leaves a c r text
stops a b c r text rest next more h s e q = subst (Leaves a c r) (sym (s.whole ∙ ap (λ l. s.done ++ l) e)) (ends_at_second a b c r s.done next more h s.holds q)

pub ends : (a b : Option (List ℕ)) (text : List ℕ) → Sofar a b text [] → Appends a b text
ends a b text s = subst (Appends a b) (sym (s.whole ∙ append-nil s.done)) s.holds

-- ---- lists of lines

from_next : (ls : List Line) (i : ℕ) (l : Line) → i < length ls → l ≡ get_or ls i l → drop i ls ≡ l ∷ drop (i + 1) ls
from_next ls i l lt is = rw (add-one, drop-cons ls i l) (ap (λ x. x ∷ drop (suc i) ls) (sym is))

pub row_next : (n : Called) (x : Extent) (s : Scene) (ls : List Line) (i : ℕ) (l : Line) → i < length ls → l ≡ get_or ls i l → rows_text n x s (drop i ls) ≡ row_text n x (behind x.bands s l (drop i ls)) l ++ rows_text n x (behind x.bands s l (drop i ls)) (drop (i + 1) ls)
row_next n x s ls i l lt is = subst (λ (xs : List Line). rows_text n x s xs ≡ row_text n x (behind x.bands s l xs) l ++ rows_text n x (behind x.bands s l xs) (drop (i + 1) ls)) (sym (from_next ls i l lt is)) refl

pub marks_next : (n : Called) (x : Extent) (s : Scene) (k : ℕ) (ls : List Line) (i : ℕ) (l : Line) → i < length ls → l ≡ get_or ls i l → marks n x s k (drop i ls) ≡ line_marks n x (behind x.bands s l (drop i ls)) l k ++ marks n x (behind x.bands s l (drop i ls)) (k + 1) (drop (i + 1) ls)
marks_next n x s k ls i l lt is = subst (λ (xs : List Line). marks n x s k xs ≡ line_marks n x (behind x.bands s l xs) l k ++ marks n x (behind x.bands s l xs) (k + 1) (drop (i + 1) ls)) (sym (from_next ls i l lt is)) refl

pub parts_next : (n : Called) (x : Extent) (s : Scene) (z : Since) (k : ℕ) (ls : List Line) (i : ℕ) (l : Line) → i < length ls → l ≡ get_or ls i l → parts n x s z k (drop i ls) ≡ line_parts n x s z l.fact k ++ parts n x (behind x.bands s l (drop i ls)) (begins_at x.bands z l.fact k) (k + 1) (drop (i + 1) ls)
parts_next n x s z k ls i l lt is = subst (λ (xs : List Line). parts n x s z k xs ≡ line_parts n x s z l.fact k ++ parts n x (behind x.bands s l xs) (begins_at x.bands z l.fact k) (k + 1) (drop (i + 1) ls)) (sym (from_next ls i l lt is)) refl

-- ---- the last of a text

-- what is still to come, as far as it came
pub ends_with : {X E : Type 0} (a b c : Option (List ℕ)) (r : Result X E) (text last : List ℕ) → Sofar a b text last → Leaves b c r last → Leaves a c r text
ends_with a b c r text last s h = subst (Leaves a c r) (sym s.whole) (then_leaves a b c r s.done last s.holds h)

pub parts_end : (n : Called) (x : Extent) (s : Scene) (z : Since) (k : ℕ) (ls : List Line) (i : ℕ) → i ≡ length ls → parts n x s z k (drop i ls) ≡ rests n x s z k
parts_end n x s z k ls i all = ap (parts n x s z k) (ap (λ n. drop n ls) all ∙ drop-length ls)

-- ---- what a picture in text has

pub is_extent : (threads mutexes : ℕ) (n : Called) (ls : List Line) (room lanes : ℕ) (x : Extent) → room ≡ band_room lanes → lanes ≡ lanes_of threads → x ≡ extent_in room n threads mutexes ls → x ≡ text_extent n threads mutexes ls
is_extent threads mutexes n ls room lanes x roomy few is = is ∙ ap (λ r. extent_in r n threads mutexes ls) (roomy ∙ ap band_room few)
