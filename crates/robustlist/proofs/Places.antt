-- Places of lists: which differ, and which are a list's.
use Rattle.std.proofs.Common.{◌≡◌, ◌≢◌, ◌⊎◌, inl, inr, ℕ, ◌==◌, Bool, true, false, List, [], ◌∷◌, arith, refl, sym, ap, ◌∙◌}
use Rattle.std.specs.Prelude.{if◌then◌else◌}
use Rattle.std.proofs.lemmas.Bool.Decides.{nat_tests}
use Rattle.memorymap.specs.Chains.{previous_place, IsAmong, IsApart, AreDifferent, links_of, places_of, without}
use Rattle.robustlist.specs.Words.{put, IsOn}
use Rattle.robustlist.specs.LinkLaws.{LiesApart}

pub apart-among : (p x : ℕ) (xs : List ℕ) → IsApart p xs → IsAmong x xs → p ≢ x
apart-among p x [] a m = absurd m
apart-among p x (y ∷ ys) a (inl is) = λ s. a.0 (s ∙ is)
apart-among p x (y ∷ ys) a (inr m) = apart-among p x ys a.1 m

next-among : (e : ℕ) (es : List ℕ) → IsAmong e es → IsAmong e (links_of es)
next-among e [] m = m
next-among e (x ∷ es) (inl is) = inl is
next-among e (x ∷ es) (inr m) = inr (inr (next-among e es m))

previous-among : (e : ℕ) (es : List ℕ) → IsAmong e es → IsAmong (previous_place e) (links_of es)
previous-among e [] m = m
previous-among e (x ∷ es) (inl is) = inr (inl (ap (λ y. previous_place y) is))
previous-among e (x ∷ es) (inr m) = inr (inr (previous-among e es m))

-- a place apart from the links of a list is neither word of an entry
pub avoids : (p e : ℕ) (es : List ℕ) → IsApart p (links_of es) → IsAmong e es → (p ≢ e) × (p ≢ previous_place e)
avoids p e es a m = (apart-among p e (links_of es) a (next-among e es m), apart-among p (previous_place e) (links_of es) a (previous-among e es m))

pub avoids-all : (p : ℕ) (es : List ℕ) → ((e : ℕ) → IsAmong e es → (p ≢ e) × (p ≢ previous_place e)) → IsApart p (links_of es)
avoids-all p [] s = tt
avoids-all p (e ∷ es) s = let here = s e (inl refl) in (here.0, (here.1, avoids-all p es (λ x m. s x (inr m))))

-- a place that differs from some number
differs : (p x : ℕ) → x ≢ p → p ≢ x
differs p x o s = o (sym s)

-- an entry's two words are two
pub own-places : (e : ℕ) → e ≢ previous_place e
own-places e = omega arith

-- the places of a head and its entries, and of one entry more that lies apart
pub places-more : (h e : ℕ) (es : List ℕ) → AreDifferent (places_of h es) → LiesApart h e es → AreDifferent (places_of h (e ∷ es))
places-more h e es d a =
    let n = a.0 in
    let p = a.1 in (
      (d.0.0, (d.0.1.0, (differs h e n.0, (differs h (previous_place e) p.0, d.0.1.1)))),
      (
        (d.1.0.0, (differs _ e n.1.0, (differs _ (previous_place e) p.1.0, d.1.0.1))),
        ((differs _ e n.1.1.0, (differs _ (previous_place e) p.1.1.0, d.1.1.0)), ((own-places e, n.1.1.1), (p.1.1.1, d.1.1.1))),
      ),
    )

-- the head's first word lies apart from the entries'
pub head-apart : (h : ℕ) (es : List ℕ) → AreDifferent (places_of h es) → IsApart h (links_of es)
head-apart h es d = d.0.1.1

-- the entries' words are different
pub links-apart : (h : ℕ) (es : List ℕ) → AreDifferent (places_of h es) → AreDifferent (links_of es)
links-apart h es d = d.1.1.1

-- what is apart from the links is apart from the entries
apart-entries : (p : ℕ) (es : List ℕ) → IsApart p (links_of es) → IsApart p es
apart-entries p [] a = tt
apart-entries p (e ∷ es) a = (a.0, apart-entries p es a.1.1)

different-entries : (es : List ℕ) → AreDifferent (links_of es) → AreDifferent es
different-entries [] d = tt
different-entries (e ∷ es) d = (apart-entries e es d.0.1, different-entries es d.1.1)

-- the head and the entries are different where their words have places of their own
pub entries-different : (h : ℕ) (es : List ℕ) → AreDifferent (places_of h es) → AreDifferent (h ∷ es)
entries-different h es d = (apart-entries h es (head-apart h es d), different-entries es (links-apart h es d))

-- lists without an entry
pub without_first : (e x : ℕ) (xs : List ℕ) → e ≡ x → without e (x ∷ xs) ≡ xs
without_first e x xs is = grind (arith, nat_tests)

pub without_later : (e x : ℕ) (xs : List ℕ) → x ≢ e → without e (x ∷ xs) ≡ x ∷ without e xs
without_later e x xs o = grind (arith, nat_tests)

pub without-among : (e d : ℕ) (es : List ℕ) → IsAmong d (without e es) → IsAmong d es
without-among e d [] m = m
without-among e d (x ∷ xs) m = go (without-among e d xs) (x == e) m
  where
    go : (IsAmong d (without e xs) → IsAmong d xs) → (b : Bool) → IsAmong d (if b then xs else x ∷ without e xs) → (d ≡ x) ⊎ IsAmong d xs
    go i true m = inr m
    go i false (inl is) = inl is
    go i false (inr m) = inr (i m)

without-apart : (p e : ℕ) (es : List ℕ) → IsApart p (links_of es) → IsApart p (links_of (without e es))
without-apart p e es a = avoids-all p (without e es) (λ x m. avoids p x es a (without-among e x es m))

without-links : (e : ℕ) (es : List ℕ) → AreDifferent (links_of es) → AreDifferent (links_of (without e es))
without-links e [] d = d
without-links e (x ∷ xs) d = go (without-links e xs d.1.1) (x == e)
  where
    go : AreDifferent (links_of (without e xs)) → (b : Bool) → AreDifferent (links_of (if b then xs else x ∷ without e xs))
    go i true = d.1.1
    go i false = ((d.0.0, without-apart x e xs d.0.1), (without-apart (previous_place x) e xs d.1.0, i))

-- the places are still different without an entry
pub places-without : (h e : ℕ) (es : List ℕ) → AreDifferent (places_of h es) → AreDifferent (places_of h (without e es))
places-without h e es d = (
  (d.0.0, (d.0.1.0, without-apart h e es d.0.1.1)),
  (
    (d.1.0.0, without-apart _ e es d.1.0.1),
    (without-apart _ e es d.1.1.0, without-links e es d.1.1.1),
  ),
)

-- a place on a smaller list is on the list
pub on-without : (h e p : ℕ) (es : List ℕ) → IsOn h (without e es) p → IsOn h es p
on-without h e p es (inl is) = inl is
on-without h e p es (inr (x, m, at)) = inr (x, without-among e x es m, at)

-- words with a value at a place, there and elsewhere
pub put_same : (w : ℕ → ℕ) (k v : ℕ) → put w k v k ≡ v
put_same w k v = grind (arith, nat_tests)

pub put_other : (w : ℕ → ℕ) (k v j : ℕ) → j ≢ k → put w k v j ≡ w j
put_other w k v j o = grind (arith, nat_tests)

-- words that agree at a place do so with the same value put somewhere
pub put-agrees : (v w : ℕ → ℕ) (k x j : ℕ) → w j ≡ v j → put w k x j ≡ put v k x j
put-agrees v w k x j s = go (j == k)
  where
    go : (b : Bool) → (if b then x else w j) ≡ (if b then x else v j)
    go true = refl
    go false = s
