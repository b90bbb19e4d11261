-- Where an SVG picture draws.
use Rattle.picture.specs.Bands.{band_of}
use Rattle.facts.specs.Facts.{decision_of}
use Rattle.facts.specs.declared.fact.Fact.TheVariants.{Begin, Point, Death, Sleep, Wake, Move, Return, Kill, Reap, Renew}
use Rattle.posixmutex.specs.declared.point.Decision.{Decision}
use Rattle.lockword.specs.Threads.{most_threads}
use Rattle.std.proofs.lemmas.List.{get_or-replicate, get_or-set_other, get_or-set_same, length-replicate, length-set}
use Rattle.std.specs.Option.{is_some}
use Rattle.std.specs.List.{concat, repeat}
use Rattle.picture.specs.Drawn.{drawn_with, rows_text, text_extent}
use Rattle.picture.specs.Heads.{heads}
use Rattle.picture.specs.Positions.{TextDrawsInOrder, TextIsInOrder}
use Rattle.picture.specs.Rows.{end_text as end_row, row_text}
use Rattle.picture.specs.Positions.{decides_band, is_band, turns_band}
use Rattle.picture.specs.Scenes.{most_bands}
use Rattle.picture.specs.Svg.{since_at, since_band}
use Rattle.picture.specs.declared.bands.Bands.{Bands}
use Rattle.std.proofs.Common.{eqb-true, ◌≡◌, ◌∙◌, ◌+◌, ◌-◌, ◌*◌, ◌<◌, ◌≤◌, ◌∷◌, ◌++◌, Bool, true, false, ℕ, zero, suc, Option, Some, None, List, [], append-nil, append_assoc, ap, length, max, refl, subst, suc-mul, sym, arith}
use Rattle.std.specs.Prelude.{not, slice_index_or, slice_set, ◌==◌, ◌&&◌, ◌≢◌, codes, decimal, if◌then◌else◌, nat_lt}
use Rattle.std.proofs.lemmas.Bool.Decides.{nat_tests}
use Rattle.facts.specs.Facts.{thread_of}
use Rattle.facts.specs.declared.fact.Fact.{Fact}
use Rattle.facts.specs.declared.fact.Line.{Line}
use Rattle.picture.specs.Names.{Called}
use Rattle.picture.specs.Pieces.{each}
use Rattle.picture.specs.Places.{band_apart, band_middle, band_wide, band_x, lane_x, margin, row_y}
use Rattle.picture.specs.Positions.{BandIsAtItsPlace, Contains, IsDrawnInPlace, LaneIsAtItsPlace, LineIsAtItsPlace, RowsHaveRoom, SvgDrawsInPlace, is_move, newest_that, turns_lane, path_at, rectangle_at, since_after}
use Rattle.picture.specs.Rows.{from_at, is_from_right, words_at}
use Rattle.picture.specs.Scenes.{behind, first_scene}
use Rattle.picture.specs.Shapes.{band_box, lane_box, mark_class, mark_path, number_label, rectangle, words_label}
use Rattle.picture.specs.States.{scene_after}
use Rattle.picture.specs.Svg.{Marked, band_from, band_part, band_rest, ends_lane, lane_from, lane_part, lane_rest, lane_rests, part_at, svg_height, svg_width, begins_at, end_text, first_since, line_marks, line_parts, mark_of, marks, misfit_row, misfit_shape, note_end, note_of, parts, rests, svg_band, svg_bands, svg_extent, svg_heads, svg_lane, svg_lane_behind, svg_lanes, svg_open, svg_with}
use Rattle.picture.specs.declared.bands.Extent.{Extent}
use Rattle.picture.specs.declared.scene.Scene.{Scene}
use Rattle.picture.specs.declared.svg.Since.{Since}
use Rattle.picture.proofs.Own.{each_at}
use Rattle.picture.proofs.Room.{along_last}

-- ---- parts of texts

whole : (part : List ℕ) → Contains part part
whole part = record { before = []; later = []; all = sym (append-nil part) }

left : (a b part : List ℕ) → Contains a part → Contains (a ++ b) part
left a b part h = record {
  before = h.before;
  later = h.later ++ b;
  all = ap (λ l. l ++ b) h.all ∙ append_assoc h.before (part ++ h.later) b ∙ ap (λ l. h.before ++ l) (append_assoc part h.later b);
}

right : (a b part : List ℕ) → Contains b part → Contains (a ++ b) part
right a b part h = record {
  before = a ++ h.before;
  later = h.later;
  all = ap (λ l. a ++ l) h.all ∙ sym (append_assoc a h.before (part ++ h.later));
}

-- a part at the front, of two or three pieces
two : (a b later : List ℕ) → Contains (a ++ (b ++ later)) (a ++ b)
two a b later = record { before = []; later = later; all = sym (append_assoc a b later) }

three : (a b c later : List ℕ) → Contains (a ++ (b ++ (c ++ later))) (a ++ (b ++ c))
three a b c later = record { before = []; later = later; all = ap (λ l. a ++ l) (sym (append_assoc b c later)) ∙ sym (append_assoc a (b ++ c) later) }

four : (a b c d later : List ℕ) → Contains (a ++ (b ++ (c ++ (d ++ later)))) (a ++ (b ++ (c ++ d)))
four a b c d later = record { before = []; later = later; all = ap (λ l. a ++ (b ++ l)) (sym (append_assoc c d later)) ∙ ap (λ l. a ++ l) (sym (append_assoc b (c ++ d) later)) ∙ sym (append_assoc a (b ++ (c ++ d)) later) }

five : (a b c d e later : List ℕ) → Contains (a ++ (b ++ (c ++ (d ++ (e ++ later))))) (a ++ (b ++ (c ++ (d ++ e))))
five a b c d e later = record {
  before = [];
  later = later;
  all =
      ap (λ l. a ++ (b ++ (c ++ l))) (sym (append_assoc d e later)) ∙ ap (λ l. a ++ (b ++ l)) (sym (append_assoc c (d ++ e) later)) ∙ ap (λ l. a ++ l) (sym (append_assoc b (c ++ (d ++ e)) later))
      ∙ sym (append_assoc a (b ++ (c ++ (d ++ e))) later);
}

-- of the texts of the numbers below n, one
one_of : (f : ℕ → List ℕ) (n m : ℕ) → m < n → Contains (each f n) (f m)
one_of f n m lt = let h = each_at f n m lt in record { before = each f m; later = h.0; all = h.1 }

-- ---- shapes

rectangle_is : (class : List ℕ) (x y wide high : ℕ) → rectangle class x y wide high ≡ rectangle_at class x y wide high
rectangle_is class x y wide high = refl

-- the middle of a mark or an arrow
mark_at : (x : Extent) (f : Fact) (k : ℕ) → mark_of x f None k ≡ path_at (mark_class f) (lane_x x (thread_of f)) (row_y k) (mark_path f)
mark_at x f k = refl

arrow_left : (x : Extent) (f : Fact) (a k : ℕ) → lane_x x a < lane_x x (thread_of f) → mark_of x f (Some a) k ≡ path_at (codes "a") (lane_x x a) (row_y k) (codes "H" ++ decimal (lane_x x (thread_of f) - 6))
arrow_left x f a k lt =
    let is : nat_lt (lane_x x a) (lane_x x (thread_of f)) ≡ true = grind (arith, nat_tests, lt) in
    ap (λ (b : Bool). path_at (codes "a") (lane_x x a) (row_y k) (codes "H" ++ decimal (if b then lane_x x (thread_of f) - 6 else lane_x x (thread_of f) + 6))) is

arrow_right : (x : Extent) (f : Fact) (a k : ℕ) → lane_x x (thread_of f) < lane_x x a → mark_of x f (Some a) k ≡ path_at (codes "a") (lane_x x a) (row_y k) (codes "H" ++ decimal (lane_x x (thread_of f) + 6))
arrow_right x f a k lt =
    let is : nat_lt (lane_x x a) (lane_x x (thread_of f)) ≡ false = grind (arith, nat_tests, lt) in
    ap (λ (b : Bool). path_at (codes "a") (lane_x x a) (row_y k) (codes "H" ++ decimal (if b then lane_x x (thread_of f) - 6 else lane_x x (thread_of f) + 6))) is

line_at : (n : Called) (x : Extent) (s : Scene) (l : Line) (k : ℕ) → LineIsAtItsPlace n x s l k
line_at n x s l k = record {
  mark = mark_of x l.fact (from_at s l) k;
  drawn = record { before = number_label l.event k; later = words_label (words_at n s l) (lane_x x (thread_of l.fact)) k (is_from_right (thread_of l.fact) (from_at s l)); all = refl };
  marks = record {
    alone = λ none. (mark_class l.fact, mark_path l.fact, ap (λ (o : Option ℕ). mark_of x l.fact o k) none);
    from_left = λ a some lt. ap (λ (o : Option ℕ). mark_of x l.fact o k) some ∙ arrow_left x l.fact a k lt;
    from_right = λ a some lt. ap (λ (o : Option ℕ). mark_of x l.fact o k) some ∙ arrow_right x l.fact a k lt;
  };
}

lane_at_place : (n : Called) (x : Extent) (u : ℕ) → LaneIsAtItsPlace n x u
lane_at_place n x u = record {
  name = λ bottom. refl;
  shows = λ l class from to is. ap (λ (o : Option (List ℕ)). lane_box o (lane_x x u) from to) is;
}

-- a band is as far from the next one as it has room for a name
next_band : (k i : ℕ) → k * (i + 1) ≡ k * i + k
next_band zero i = omega arith
next_band (suc k) i = let rest = next_band k i in omega (arith, rest, suc-mul k (i + 1), suc-mul k i)

band_at_place : (n : Called) (x : Extent) (i : ℕ) → BandIsAtItsPlace n x i
band_at_place n x i = record {
  middle = band_x x i + band_middle x;
  wide = band_wide x;
  inside = (refl, (let next = next_band (band_apart x) i in omega (arith, next)), omega arith);
  name = refl;
  free = λ o class from to none is. ap (λ (c : Option (List ℕ)). band_box n x c o.owner i from to) is ∙ ap (λ (w : Option ℕ). band_box n x (Some class) w i from to) none ∙ append-nil (rectangle class (band_x x i) (row_y from - 9) (band_wide x) (row_y to - row_y from));
  owned = λ o t class from to some is. ap (λ (c : Option (List ℕ)). band_box n x c o.owner i from to) is ∙ ap (λ (w : Option ℕ). band_box n x (Some class) w i from to) some;
}

-- below the end stands what is said of a line that doesn't fit
noted : (top y : ℕ) (note : List ℕ) → Contains (misfit_shape (decimal top) (decimal y) ++ (note ++ codes "</text>\n")) (codes "x=\"54\" y=\"" ++ (decimal y ++ (codes "\" fill=\"#c00\">" ++ note)))
noted top y note =
    let first = codes "<rect class=\"m\" y=\"" in
    let middle = codes "\" width=\"100%\" height=\"18\" fill=\"#c00\" fill-opacity=\".2\"/>\n<text class=\"m\" x=\"54\" y=\"" in
    let fill = codes "\" fill=\"#c00\">" in
    let rest = note ++ codes "</text>\n" in
    let same : first ++ (decimal top ++ (middle ++ (decimal y ++ (fill ++ rest)))) ≡ misfit_shape (decimal top) (decimal y) ++ rest = sym (ap (λ l. first ++ l) (append_assoc (decimal top) (middle ++ (decimal y ++ fill)) rest ∙ ap (λ l. decimal top ++ (middle ++ l)) (append_assoc (decimal y) fill rest))) in
    subst (λ l. Contains l (codes "x=\"54\" y=\"" ++ (decimal y ++ (fill ++ note)))) same
    (right first _ _ (right (decimal top) _ _ (right (codes "\" width=\"100%\" height=\"18\" fill=\"#c00\" fill-opacity=\".2\"/>\n<text class=\"m\" ") _ _
    (four (codes "x=\"54\" y=\"") (decimal y) fill note (codes "</text>\n")))))

rows_have_room : RowsHaveRoom
rows_have_room = record {
  first = omega arith;
  next = λ k. omega arith;
  foot = λ last lines. (
    row_y lines + 22,
    right (codes "<text class=\"n\" x=\"48\" y=\"") _ _ (right (decimal (row_y lines + 22)) _ _ (right (codes "\">") _ _ (right (decimal last) _ _ (right (codes "</text><text x=\"54\" ") _ _
        (three (codes "y=\"") (decimal (row_y lines + 22)) (codes "\">end") (codes "</text>\n</svg>\n")))))),
    omega arith,
    omega arith,
  );
  misfit = λ m lines. (
    left (misfit_row m.line lines) _ _ (two (codes "<rect class=\"m\" y=\"") (decimal (row_y (m.line - 1) - 9)) _),
    (
      row_y lines + 33,
      noted (row_y (m.line - 1) - 9) (row_y lines + 33) (note_of m.line m.note),
      omega arith,
      omega arith,
    ),
  );
}

-- ---- lines

line_in_marks : (n : Called) (x : Extent) (s : Scene) (k : ℕ) (before later : List Line) (l : Line) → Contains (marks n x s k (before ++ (l ∷ later))) (line_marks n x (scene_after x.bands s (before ++ (l ∷ [])) later) l (length before + k))
line_in_marks n x s k [] later l = left (line_marks n x (behind x.bands s l (l ∷ later)) l k) _ _ (subst (λ (j : ℕ). Contains (line_marks n x (behind x.bands s l (l ∷ later)) l k) (line_marks n x (behind x.bands s l (l ∷ later)) l j)) (omega arith) (whole (line_marks n x (behind x.bands s l (l ∷ later)) l k)))
line_in_marks n x s k (e ∷ before) later l =
    let mid : Scene = behind x.bands s e (e ∷ (before ++ (l ∷ later))) in
    let rest = line_in_marks n x mid (k + 1) before later l in
    let same : length before + (k + 1) ≡ length (e ∷ before) + k = omega arith in
    let there : (before ++ (l ∷ [])) ++ later ≡ before ++ (l ∷ later) = append_assoc before (l ∷ []) later in
    right (line_marks n x mid e k) (marks n x mid (k + 1) (before ++ (l ∷ later))) _
    (subst (λ (j : ℕ). Contains (marks n x mid (k + 1) (before ++ (l ∷ later))) (line_marks n x (scene_after x.bands (behind x.bands s e (e ∷ ((before ++ (l ∷ [])) ++ later))) (before ++ (l ∷ [])) later) l j)) same
    (subst (λ (ls : List Line). Contains (marks n x mid (k + 1) (before ++ (l ∷ later))) (line_marks n x (scene_after x.bands (behind x.bands s e (e ∷ ls)) (before ++ (l ∷ [])) later) l (length before + (k + 1)))) (sym there) rest))

part_in_parts : (n : Called) (x : Extent) (s : Scene) (since : Since) (k : ℕ) (before later : List Line) (l : Line) → Contains (parts n x s since k (before ++ (l ∷ later))) (line_parts n x (scene_after x.bands s before (l ∷ later)) (since_after x since k before) l.fact (length before + k))
part_in_parts n x s since k [] later l = left (line_parts n x s since l.fact k) _ _ (subst (λ (j : ℕ). Contains (line_parts n x s since l.fact k) (line_parts n x s since l.fact j)) (omega arith) (whole (line_parts n x s since l.fact k)))
part_in_parts n x s since k (e ∷ before) later l =
    let mid : Scene = behind x.bands s e (e ∷ (before ++ (l ∷ later))) in
    let then_since : Since = begins_at x.bands since e.fact k in
    let same : length before + (k + 1) ≡ length (e ∷ before) + k = omega arith in
    right (line_parts n x s since e.fact k) (parts n x mid then_since (k + 1) (before ++ (l ∷ later))) _
    (subst (λ (j : ℕ). Contains (parts n x mid then_since (k + 1) (before ++ (l ∷ later))) (line_parts n x (scene_after x.bands mid before (l ∷ later)) (since_after x then_since (k + 1) before) l.fact j)) same
    (part_in_parts n x mid then_since (k + 1) before later l))

rest_in_parts : (n : Called) (x : Extent) (s : Scene) (since : Since) (k : ℕ) (ls : List Line) → Contains (parts n x s since k ls) (rests n x (scene_after x.bands s ls []) (since_after x since k ls) (length ls + k))
rest_in_parts n x s since k [] = subst (λ (j : ℕ). Contains (rests n x s since k) (rests n x s since j)) (omega arith) (whole (rests n x s since k))
rest_in_parts n x s since k (e ∷ ls) =
    let mid : Scene = behind x.bands s e (e ∷ ls) in
    let then_since : Since = begins_at x.bands since e.fact k in
    let same : length ls + (k + 1) ≡ length (e ∷ ls) + k = omega arith in
    right (line_parts n x s since e.fact k) (parts n x mid then_since (k + 1) ls) _
    (subst (λ (j : ℕ). Contains (parts n x mid then_since (k + 1) ls) (rests n x (scene_after x.bands (behind x.bands s e (e ∷ (ls ++ []))) ls []) (since_after x then_since (k + 1) ls) j)) same
    (subst (λ (all : List Line). Contains (parts n x mid then_since (k + 1) ls) (rests n x (scene_after x.bands (behind x.bands s e (e ∷ all)) ls []) (since_after x then_since (k + 1) ls) (length ls + (k + 1)))) (sym (append-nil ls))
    (rest_in_parts n x mid then_since (k + 1) ls)))

-- ---- what a line ends

within : (a b part : List ℕ) → Contains a b → Contains b part → Contains a part
within a b part outer inner = record {
  before = outer.before ++ inner.before;
  later = inner.later ++ outer.later;
  all =
      outer.all ∙ ap (λ l. outer.before ++ (l ++ outer.later)) inner.all ∙ ap (λ l. outer.before ++ l) (append_assoc inner.before (part ++ inner.later) outer.later)
      ∙ sym (append_assoc outer.before inner.before ((part ++ inner.later) ++ outer.later)) ∙ ap (λ l. (outer.before ++ inner.before) ++ l) (append_assoc part inner.later outer.later);
}

turns_is : (own : Bool) (f : Fact) → (own && not (is_some (decision_of f)) && not (is_move f)) ≡ (own && ends_lane f)
turns_is true (Begin t c) = refl
turns_is true (Point d) = refl
turns_is true (Death t m) = refl
turns_is true (Sleep t q) = refl
turns_is true (Wake t) = refl
turns_is true (Move t m) = refl
turns_is true (Return t x) = refl
turns_is true (Kill t) = refl
turns_is true (Reap t) = refl
turns_is true (Renew t) = refl
turns_is false f = refl

turned : (l : Line) → turns_lane (thread_of l.fact) l ≡ true → ends_lane l.fact ≡ true
turned l h = both (thread_of l.fact == thread_of l.fact) (ends_lane l.fact) (sym (turns_is (thread_of l.fact == thread_of l.fact) l.fact) ∙ h)
  where
    both : (a b : Bool) → (a && b) ≡ true → b ≡ true
    both true b h = h
    both false b h = absurd cc

ended : (x : Extent) (s : Scene) (since : Since) (f : Fact) (k : ℕ) → ends_lane f ≡ true → Contains (lane_part x s since f k) (lane_from x s.lanes since.lanes (thread_of f) k)
ended x s since f k is = subst (λ (b : Bool). Contains (if b then lane_from x s.lanes since.lanes (thread_of f) k else []) (lane_from x s.lanes since.lanes (thread_of f) k)) (sym is) (whole (lane_from x s.lanes since.lanes (thread_of f) k))

banded : (n : Called) (x : Extent) (s : Scene) (since : Since) (f : Fact) (d : Decision) (i k : ℕ) → decision_of f ≡ Some d → band_of x.bands d.mutex ≡ Some i → Contains (band_part n x s since (decision_of f) k) (band_from n x s.objects since.bands i k)
banded n x s since f d i k decides band =
    subst (λ (D : Option Decision). Contains (band_part n x s since D k) (band_from n x s.objects since.bands i k)) (sym decides)
    (subst (λ (o : Option ℕ). Contains (part_at n x s since o k) (band_from n x s.objects since.bands i k)) (sym band) (whole (band_from n x s.objects since.bands i k)))

-- ---- since when

since_one : (t k found : ℕ) (lanes : List ℕ) (f : Fact) (own ends : Bool) → (thread_of f == t) ≡ own → ends_lane f ≡ ends → t < length lanes → slice_index_or lanes t 0 ≡ found → slice_index_or (if ends then slice_set lanes (thread_of f) k else lanes) t 0 ≡ (if own && ends then k else found)
since_one t k found lanes f true true own ends lt is =
    let same : thread_of f ≡ t = eqb-true (thread_of f) t own in
    subst (λ (u : ℕ). slice_index_or (slice_set lanes u k) t 0 ≡ k) (sym same) (get_or-set_same lanes t k 0 lt)
since_one t k found lanes f false true own ends lt is =
    let other : t ≢ thread_of f = λ e. (let h : (thread_of f == t) ≡ true = grind (arith, nat_tests, e) in let b : true ≡ false = sym h ∙ own in absurd cc) in
    get_or-set_other lanes (thread_of f) t k 0 other ∙ is
since_one t k found lanes f true false own ends lt is = is
since_one t k found lanes f false false own ends lt is = is

since_long : (lanes : List ℕ) (f : Fact) (k : ℕ) (ends : Bool) → length (if ends then slice_set lanes (thread_of f) k else lanes) ≡ length lanes
since_long lanes f k true = length-set lanes (thread_of f) k
since_long lanes f k false = refl

since_go : (x : Extent) (t : ℕ) (s : Since) (k found : ℕ) (ls : List Line) → t < length s.lanes → slice_index_or s.lanes t 0 ≡ found → slice_index_or (since_after x s k ls).lanes t 0 ≡ newest_that (turns_lane t) found k ls
since_go x t s k found [] lt is = is
since_go x t s k found (l ∷ ls) lt is =
    since_go x t (begins_at x.bands s l.fact k) (k + 1) (if turns_lane t l then k else found) ls
    (let long = since_long s.lanes l.fact k (ends_lane l.fact) in omega (arith, long, lt))
    (since_one t k found s.lanes l.fact (thread_of l.fact == t) (ends_lane l.fact) refl refl lt is
    ∙ ap (λ (b : Bool). if b then k else found) (sym (turns_is (thread_of l.fact == t) l.fact)))

band_one : (i k found : ℕ) (bands : List ℕ) (j : ℕ) (own : Bool) → (j == i) ≡ own → i < length bands → slice_index_or bands i 0 ≡ found → slice_index_or (slice_set bands j k) i 0 ≡ (if own then k else found)
band_one i k found bands j true own lt is =
    let same : j ≡ i = eqb-true j i own in
    subst (λ (u : ℕ). slice_index_or (slice_set bands u k) i 0 ≡ k) (sym same) (get_or-set_same bands i k 0 lt)
band_one i k found bands j false own lt is =
    let other : i ≢ j = λ e. (let h : (j == i) ≡ true = grind (arith, nat_tests, e) in let b : true ≡ false = sym h ∙ own in absurd cc) in
    get_or-set_other bands j i k 0 other ∙ is

band_at_one : (i k found : ℕ) (bands : List ℕ) (r : Option ℕ) → i < length bands → slice_index_or bands i 0 ≡ found → slice_index_or (since_at bands r k) i 0 ≡ (if is_band i r then k else found)
band_at_one i k found bands None lt is = is
band_at_one i k found bands (Some j) lt is = band_one i k found bands j (j == i) refl lt is

band_by_one : (x : Extent) (i k found : ℕ) (bands : List ℕ) (D : Option Decision) → i < length bands → slice_index_or bands i 0 ≡ found → slice_index_or (since_band x.bands bands D k) i 0 ≡ (if decides_band x i D then k else found)
band_by_one x i k found bands None lt is = is
band_by_one x i k found bands (Some d) lt is = band_at_one i k found bands (band_of x.bands d.mutex) lt is

bands_long : (bands : List ℕ) (r : Option ℕ) (k : ℕ) → length (since_at bands r k) ≡ length bands
bands_long bands None k = refl
bands_long bands (Some j) k = length-set bands j k

all_long : (b : Bands) (bands : List ℕ) (D : Option Decision) (k : ℕ) → length (since_band b bands D k) ≡ length bands
all_long b bands None k = refl
all_long b bands (Some d) k = bands_long bands (band_of b d.mutex) k

bands_go : (x : Extent) (i : ℕ) (s : Since) (k found : ℕ) (ls : List Line) → i < length s.bands → slice_index_or s.bands i 0 ≡ found → slice_index_or (since_after x s k ls).bands i 0 ≡ newest_that (turns_band x i) found k ls
bands_go x i s k found [] lt is = is
bands_go x i s k found (l ∷ ls) lt is =
    bands_go x i (begins_at x.bands s l.fact k) (k + 1) (if turns_band x i l then k else found) ls
    (let long = all_long x.bands s.bands (decision_of l.fact) k in omega (arith, long, lt))
    (band_by_one x i k found s.bands (decision_of l.fact) lt is)

-- ---- the picture

module _ (n : Called) (x : Extent) (ls : List Line) (last : ℕ) (misfit : Option Marked) where
  heads_rest : List ℕ
  heads_rest = parts n x first_scene first_since 1 ls ++ (marks n x first_scene 1 ls ++ end_text misfit last (length ls))

  of_heads : (part : List ℕ) → Contains (svg_bands n x ++ svg_lanes n x (row_y (length ls) + 18)) part → Contains (svg_with n x ls last misfit) part
  of_heads part h = left (svg_heads n x misfit (length ls)) _ part (right (svg_open x misfit (length ls)) _ part h)

  of_parts : (part : List ℕ) → Contains (parts n x first_scene first_since 1 ls) part → Contains (svg_with n x ls last misfit) part
  of_parts part h = right (svg_heads n x misfit (length ls)) _ part (left (parts n x first_scene first_since 1 ls) _ part h)

  of_marks : (part : List ℕ) → Contains (marks n x first_scene 1 ls) part → Contains (svg_with n x ls last misfit) part
  of_marks part h = right (svg_heads n x misfit (length ls)) _ part (right (parts n x first_scene first_since 1 ls) _ part (left (marks n x first_scene 1 ls) _ part h))

  lane_is : (u : ℕ) → 1 ≤ u → u ≤ x.threads → Contains (svg_with n x ls last misfit) (svg_lane n x (row_y (length ls) + 18) u)
  lane_is u some few =
      let is : u - 1 + 1 ≡ u = omega (arith, some) in
      let one = one_of (svg_lane_behind n x (row_y (length ls) + 18)) x.threads (u - 1) (omega (arith, some, few)) in
      of_heads _ (right (svg_bands n x) (svg_lanes n x (row_y (length ls) + 18)) _ (subst (λ (v : ℕ). Contains (svg_lanes n x (row_y (length ls) + 18)) (svg_lane n x (row_y (length ls) + 18) v)) is one))

  of_part : (before later : List Line) (l : Line) (part : List ℕ) → ls ≡ before ++ (l ∷ later) → Contains (line_parts n x (scene_after x.bands first_scene before (l ∷ later)) (since_after x first_since 1 before) l.fact (length before + 1)) part → Contains (svg_with n x ls last misfit) part
  of_part before later l part is h = of_parts part (subst (λ (all : List Line). Contains (parts n x first_scene first_since 1 all) part) (sym is) (within _ _ part (part_in_parts n x first_scene first_since 1 before later l) h))

  of_rests : (part : List ℕ) → Contains (rests n x (scene_after x.bands first_scene ls []) (since_after x first_since 1 ls) (length ls + 1)) part → Contains (svg_with n x ls last misfit) part
  of_rests part h = of_parts part (within _ _ part (rest_in_parts n x first_scene first_since 1 ls) h)

  last_lane : (u : ℕ) → 1 ≤ u → u ≤ x.threads → Contains (svg_with n x ls last misfit) (lane_from x (scene_after x.bands first_scene ls []).lanes (since_after x first_since 1 ls).lanes u (length ls + 1))
  last_lane u some few =
      let is : u - 1 + 1 ≡ u = omega (arith, some) in
      let lanes = (scene_after x.bands first_scene ls []).lanes in
      let since = (since_after x first_since 1 ls).lanes in
      of_rests _ (left (lane_rests x lanes since (length ls + 1)) _ _ (subst (λ (v : ℕ). Contains (lane_rests x lanes since (length ls + 1)) (lane_from x lanes since v (length ls + 1))) is (one_of (lane_rest x lanes since (length ls + 1)) x.threads (u - 1) (omega (arith, some, few)))))

  size_is : Contains (svg_with n x ls last misfit) (codes "width=\"" ++ (decimal (svg_width x misfit) ++ (codes "\" height=\"" ++ (decimal (svg_height (length ls)) ++ codes "\""))))
  size_is = left (svg_heads n x misfit (length ls)) _ _ (left (svg_open x misfit (length ls)) _ _ (right (codes "<svg xmlns=\"http://www.w3.org/2000/svg\" ") _ _ (five (codes "width=\"") (decimal (svg_width x misfit)) (codes "\" height=\"") (decimal (svg_height (length ls))) (codes "\"") _)))

  drawn_in_place : IsDrawnInPlace n x ls misfit (svg_with n x ls last misfit)
  drawn_in_place = record {
    lanes = lane_is;
    bands = λ i lt. of_heads _ (left (svg_bands n x) _ _ (one_of (svg_band n x) x.bands.count i lt));
    lines = λ before later l is. of_marks _ (subst (λ (all : List Line). Contains (marks n x first_scene 1 all) (line_marks n x (scene_after x.bands first_scene (before ++ (l ∷ [])) later) l (length before + 1))) (sym is) (line_in_marks n x first_scene 1 before later l));
    size = size_is;
    stays = λ before later l is turns. of_part before later l _ is (left _ _ _ (ended x (scene_after x.bands first_scene before (l ∷ later)) (since_after x first_since 1 before) l.fact (length before + 1) (turned l turns)));
    owned = λ before later l d i is decides band. of_part before later l _ is (right (lane_part x (scene_after x.bands first_scene before (l ∷ later)) (since_after x first_since 1 before) l.fact (length before + 1)) _ _ (banded n x (scene_after x.bands first_scene before (l ∷ later)) (since_after x first_since 1 before) l.fact d i (length before + 1) decides band));
    last_lanes = last_lane;
    last_bands = λ i lt. of_rests _ (right (lane_rests x (scene_after x.bands first_scene ls []).lanes (since_after x first_since 1 ls).lanes (length ls + 1)) _ _ (one_of (band_rest n x (scene_after x.bands first_scene ls []).objects (since_after x first_since 1 ls).bands (length ls + 1)) x.bands.count i lt));
  }

below_max : (k a b : ℕ) → k < a → k < max a b
below_max k a b lt = omega (arith, lt)

pub svg_draws_in_place : SvgDrawsInPlace
svg_draws_in_place = record {
  line = line_at;
  lane = lane_at_place;
  band = band_at_place;
  rows = rows_have_room;
  apart = λ x misfit u some few. (omega arith, (let last = along_last x u few in below_max (lane_x x u) (lane_x x x.threads + margin x) (note_end misfit) (omega (arith, last))));
  all = λ n threads mutexes ls last misfit. drawn_in_place n (svg_extent n threads mutexes ls) ls last misfit;
  since = λ x ls. record {
    bands = λ i lt. bands_go x i first_since 1 0 ls (let long = length-replicate {A = ℕ} most_bands 0 in omega (arith, long, lt)) (get_or-replicate {A = ℕ} most_bands i 0 0 lt);
    lanes = λ t few. since_go x t first_since 1 0 ls (let long = length-replicate {A = ℕ} (most_threads + 1) 0 in omega (arith, long, few)) (get_or-replicate {A = ℕ} (most_threads + 1) t 0 0 (omega (arith, few)));
  };
}

-- ---- the picture in text

line_in_rows : (n : Called) (x : Extent) (s : Scene) (before later : List Line) (l : Line) → Contains (rows_text n x s (before ++ (l ∷ later))) (row_text n x (scene_after x.bands s (before ++ (l ∷ [])) later) l)
line_in_rows n x s [] later l = left (row_text n x (behind x.bands s l (l ∷ later)) l) _ _ (whole (row_text n x (behind x.bands s l (l ∷ later)) l))
line_in_rows n x s (e ∷ before) later l =
    let mid : Scene = behind x.bands s e (e ∷ (before ++ (l ∷ later))) in
    let there : (before ++ (l ∷ [])) ++ later ≡ before ++ (l ∷ later) = append_assoc before (l ∷ []) later in
    right (row_text n x mid e) (rows_text n x mid (before ++ (l ∷ later))) _
    (subst (λ (ls : List Line). Contains (rows_text n x mid (before ++ (l ∷ later))) (row_text n x (scene_after x.bands (behind x.bands s e (e ∷ ls)) (before ++ (l ∷ [])) later) l)) (sym there)
    (line_in_rows n x mid before later l))

end_is : (last : ℕ) → end_row last ≡ repeat (6 - length (decimal last)) (codes " ") ++ (decimal last ++ codes "  end\n")
end_is last = append_assoc (repeat (6 - length (decimal last)) (codes " ")) (concat (decimal last ∷ codes "  " ∷ [])) (codes "end\n") ∙ ap (λ l. repeat (6 - length (decimal last)) (codes " ") ++ l) (append_assoc (decimal last) (codes "  ") (codes "end\n"))

in_order : (n : Called) (x : Extent) (ls : List Line) (last : ℕ) → TextIsInOrder n x ls last (drawn_with n x ls last)
in_order n x ls last = record {
  lines = λ before later l is. right (heads n x) _ _ (left (rows_text n x first_scene ls) _ _ (subst (λ (all : List Line). Contains (rows_text n x first_scene all) (row_text n x (scene_after x.bands first_scene (before ++ (l ∷ [])) later) l)) (sym is) (line_in_rows n x first_scene before later l)));
  end = (
    heads n x ++ (rows_text n x first_scene ls ++ repeat (6 - length (decimal last)) (codes " ")),
    ap (λ e. heads n x ++ (rows_text n x first_scene ls ++ e)) (end_is last)
        ∙ ap (λ e. heads n x ++ e) (sym (append_assoc (rows_text n x first_scene ls) (repeat (6 - length (decimal last)) (codes " ")) (decimal last ++ codes "  end\n")))
        ∙ sym (append_assoc (heads n x) (rows_text n x first_scene ls ++ repeat (6 - length (decimal last)) (codes " ")) (decimal last ++ codes "  end\n")),
  );
}

pub text_draws_in_order : TextDrawsInOrder
text_draws_in_order n threads mutexes ls last = in_order n (text_extent n threads mutexes ls) ls last
