-- The texts of an SVG picture have room.
use Rattle.std.proofs.Common.{◌≡◌, ap, ◌∙◌, ℕ, zero, suc, ◌+◌, ◌-◌, ◌*◌, ◌/◌, ◌<◌, ◌≤◌, ◌^◌, Bool, true, false, max, length, refl, arith, ◌++◌}
use Rattle.std.specs.Prelude.{nat_le, if◌then◌else◌}
use Rattle.std.specs.List.{concat}
use Rattle.std.proofs.lemmas.Bool.Decides.{nat_tests}
use Rattle.std.proofs.Math.Nat.{suc-mul}
use Rattle.facts.specs.declared.fact.Line.{Line}
use Rattle.facts.specs.Facts.{thread_of}
use Rattle.picture.specs.declared.bands.Extent.{Extent}
use Rattle.picture.specs.declared.scene.Scene.{Scene}
use Rattle.picture.specs.Bands.{mutex_at}
use Rattle.picture.specs.Laws.{AreNames, HasNumbersOfATrace, HasRoom, HasRoomForNames, TextsHaveRoom, pixels, words_end}
use Rattle.picture.specs.Names.{Called, mutex_head, mutex_tail, thread_head, thread_tail}
use Rattle.picture.specs.Places.{along, apart, band_apart, band_x, lane_x, margin, name_room, words_room}
use Rattle.picture.specs.Rows.{from_at, is_from_right, words_at}
use Rattle.picture.specs.Scenes.{lane_at}
use Rattle.picture.specs.Svg.{mark_of, note_end, note_of}
use Rattle.picture.proofs.Letters.{both_letters, number_letters, thread_pieces, words_letters}
use Rattle.picture.proofs.Shown.{mutex_letters}

pixels_of : (n k : ℕ) → n ≤ k → pixels n ≤ 15 * k / 2
pixels_of n k le = omega (arith, le)

-- no lane is after the last one
up_to : (k a b : ℕ) → a ≤ b → k * a ≤ k * b
up_to zero a b le = omega arith
up_to (suc k) a b le =
    let rest = up_to k a b le in
    omega (arith, rest, le, suc-mul k a, suc-mul k b)

pub along_last : (x : Extent) (u : ℕ) → u ≤ x.threads → along x u ≤ along x x.threads
along_last x u le = up_to (apart x) (u - 1) (x.threads - 1) (omega (arith, le))

-- the next lane is so far from this one
one_further : (k a : ℕ) → k * (a + 1) ≡ k * a + k
one_further zero a = omega arith
one_further (suc k) a =
    let rest = one_further k a in
    omega (arith, rest, suc-mul k (a + 1), suc-mul k a)

along_next : (x : Extent) (u : ℕ) → 1 ≤ u → along x (u + 1) ≡ along x u + apart x
along_next x u some = ap (λ k. apart x * k) (let e : u + 1 - 1 ≡ u - 1 + 1 = omega (arith, some) in e) ∙ one_further (apart x) (u - 1)

-- the words of a line, of which names have that many letters at most
words_fit : (m n : ℕ) → 5 ≤ m → m ≤ 16 → n ≤ max (12 + 2 * m) (27 + m) → 17 + pixels n ≤ 220 + 8 * m
words_fit m n low high le = omega (arith, le, low, high)

-- a marked line makes a picture no narrower
up_to_max : (k a b : ℕ) → k ≤ a → k ≤ max a b
up_to_max k a b le = omega (arith, le)

-- what is said of one has 8 pixels for a letter
note_fits : (n a : ℕ) → 54 + pixels n ≤ max a (54 + 8 * n)
note_fits n a = omega arith

room_of : (n : Called) (x : Extent) (s : Scene) (l : Line) → AreNames n → HasRoomForNames n x → HasNumbersOfATrace s l → 1 ≤ thread_of l.fact → thread_of l.fact ≤ x.threads → HasRoom n x s l
room_of n x s l names room numbers some few =
    let t = thread_of l.fact in
    let letters = words_letters n x names room (lane_at s.lanes t) l.fact numbers.first numbers.second in
    let wide = words_fit (max x.letters 5) (length (concat (words_at n s l))) (omega arith) (let most = room.few in omega (arith, most)) letters.few in
    let last = along_last x t few in
    let next = along_next x t some in
    let digits = number_letters l.event 6 (omega arith) numbers.event (omega (arith, numbers.event)) in
    record {
      inside = λ misfit. up_to_max (words_end n x s l) (lane_x x x.threads + margin x) (note_end misfit) (omega (arith, wide, last));
      apart = λ five.
          let lanes : apart x ≡ words_room x = grind (arith, nat_tests, five) in
          omega (arith, wide, next, lanes);
      event = omega (arith, digits.few);
    }

far_enough : (x : Extent) → 8 * max x.letters 3 + 6 ≤ apart x
far_enough x = go (nat_le x.threads 5) (nat_le x.threads 8) (nat_le x.threads 16)
  where
    go : (a b c : Bool) → 8 * max x.letters 3 + 6 ≤ (if a then words_room x else max (if b then 120 else (if c then 60 else 30)) (name_room x))
    go true b c = omega arith
    go false true c = omega arith
    go false false true = omega arith
    go false false false = omega arith

-- names of bands and of lanes don't touch
bands_apart : (n : Called) (x : Extent) → AreNames n → HasRoomForNames n x → (i : ℕ) → i < x.bands.count → mutex_at x.bands i < 10 ^ 4 → band_x x i + pixels (length (mutex_head n (mutex_at x.bands i) ++ mutex_tail n (mutex_at x.bands i))) < band_x x (i + 1)
bands_apart n x names room i lt small =
    let letters = both_letters _ _ _ (mutex_letters n x names room i lt small) in
    let next = one_further (band_apart x) i in
    omega (arith, letters.few, next)

lanes_apart : (n : Called) (x : Extent) → AreNames n → HasRoomForNames n x → (u : ℕ) → 1 ≤ u → u < 10 ^ 2 → lane_x x u + pixels (length (thread_head n u ++ thread_tail n u)) < lane_x x (u + 1)
lanes_apart n x names room u some small =
    let letters = both_letters _ _ _ (thread_pieces n x names room u small) in
    let next = along_next x u some in
    let far : 8 * max x.letters 3 + 6 ≤ apart x = far_enough x in
    omega (arith, letters.few, next, far)

pub have_room : TextsHaveRoom
have_room = record {
  font = record { first = refl; fonts = refl; anchors = refl };
  drawn = λ n x s l k. record { mark = mark_of x l.fact (from_at s l) k; above = is_from_right (thread_of l.fact) (from_at s l); whole = refl };
  lines = room_of;
  bands = bands_apart;
  note = λ x m. note_fits (length (note_of m.line m.note)) (lane_x x x.threads + margin x);
  lanes = lanes_apart;
}
