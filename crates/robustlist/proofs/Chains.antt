-- Chains before, between and after the stores of a link and of an unlink.
use Rattle.std.proofs.Common.{◌≡◌, ◌≢◌, ◌⊎◌, inl, inr, ℕ, ◌==◌, Bool, true, false, List, [], ◌∷◌, arith, refl, sym, ap, ◌∙◌, subst}
use Rattle.std.specs.Prelude.{if◌then◌else◌}
use Rattle.std.proofs.lemmas.Bool.Decides.{nat_tests}
use Rattle.memorymap.specs.Chains.{previous_place, IsAmong, IsApart, AreDifferent, links_of, places_of, Leads, LeadsBack, IsChainBothWays, without}
use Rattle.robustlist.specs.Words.{put}
use Rattle.robustlist.specs.LinkLaws.{put_in_front}
use Rattle.robustlist.proofs.Places.{avoids, head-apart, links-apart, entries-different, without_first, without_later, without-among, put_same, put_other}

-- from the place `at`, next words visit just these entries and come to h, and each entry's previous word is the place before it
abbrev pub Chained : (ℕ → ℕ) → ℕ → ℕ → List ℕ → Type 0
Chained w h at [] = w at ≡ h
Chained w h at (e ∷ es) = (w at ≡ e) × (w (previous_place e) ≡ at) × Chained w h e es

pub leads : (w : ℕ → ℕ) (h at : ℕ) (es : List ℕ) → Chained w h at es → Leads w h (w at) es
leads w h at [] c = c
leads w h at (e ∷ es) c = (c.0, leads w h e es c.2)

leads-back : (w : ℕ → ℕ) (h at : ℕ) (es : List ℕ) → Chained w h at es → LeadsBack w at es
leads-back w h at [] c = tt
leads-back w h at (e ∷ es) c = (c.1, leads-back w h e es c.2)

joined : (w : ℕ → ℕ) (h at : ℕ) (es : List ℕ) → Leads w h (w at) es → LeadsBack w at es → Chained w h at es
joined w h at [] l b = l
joined w h at (e ∷ es) l b = (l.0, b.0, joined w h e es l.1 b.1)

-- a chain both ways, and back
pub both-ways : (w : ℕ → ℕ) (h : ℕ) (es : List ℕ) → AreDifferent (places_of h es) → Chained w h h es → IsChainBothWays w h es
both-ways w h es d c = record { chain = record { leads = leads w h h es c; different = entries-different h es d }; back = leads-back w h h es c; places = d }

pub chained : (w : ℕ → ℕ) (h : ℕ) (es : List ℕ) → IsChainBothWays w h es → Chained w h h es
chained w h es c = joined w h h es c.chain.leads c.back

-- words that agree at the entries' next words lead alike
pub leads-same : (v w : ℕ → ℕ) (h a b : ℕ) (es : List ℕ) → b ≡ a → ((e : ℕ) → IsAmong e es → w e ≡ v e) → Leads v h a es → Leads w h b es
leads-same v w h a b [] is s c = is ∙ c
leads-same v w h a b (e ∷ es) is s c = (is ∙ c.0, leads-same v w h (v e) (w e) es (s e (inl refl)) (λ x m. s x (inr m)) c.1)

-- words that agree at a chain's places have the same chain
pub chain-same : (v w : ℕ → ℕ) (h at : ℕ) (es : List ℕ) → w at ≡ v at → ((e : ℕ) → IsAmong e es → (w e ≡ v e) × (w (previous_place e) ≡ v (previous_place e))) → Chained v h at es → Chained w h at es
chain-same v w h at [] is s c = is ∙ c
chain-same v w h at (e ∷ es) is s c = (is ∙ c.0, (s e (inl refl)).1 ∙ c.1, chain-same v w h e es (s e (inl refl)).0 (λ x m. s x (inr m)) c.2)

-- a store elsewhere leaves a chain
chain-put : (w : ℕ → ℕ) (h at p x : ℕ) (es : List ℕ) → at ≢ p → IsApart p (links_of es) → Chained w h at es → Chained (put w p x) h at es
chain-put w h at p x es o a c =
    chain-same w (put w p x) h at es (put_other w p x at o) (λ e m. let k = avoids p e es a m in (put_other w p x e (λ s. k.0 (sym s)), put_other w p x (previous_place e) (λ s. k.1 (sym s)))) c

-- the words of a link, where f is the first entry so far, with its previous word at c; b is the entry's own previous word
link_first : (w : ℕ → ℕ) (h e b : ℕ) → h ≢ e → h ≢ b → e ≢ b → (put (put (put w e h) b h) h e h ≡ e) × (put (put (put w e h) b h) h e b ≡ h) × (put (put (put w e h) b h) h e e ≡ h)
link_first w h e b o p q = grind (arith, nat_tests)

link_front : (w : ℕ → ℕ) (h e b x c : ℕ) → h ≢ e → h ≢ b → e ≢ b → h ≢ c → e ≢ c → b ≢ c →
    (put (put (put (put w e x) b h) c e) h e h ≡ e) × (put (put (put (put w e x) b h) c e) h e b ≡ h) × (put (put (put (put w e x) b h) c e) h e e ≡ x) × (put (put (put (put w e x) b h) c e) h e c ≡ e)
link_front w h e b x c o p q r s t = grind (arith, nat_tests)

same_is : (h f : ℕ) → f ≡ h → (f == h) ≡ true
same_is h f is = grind (arith, nat_tests)

other_is : (h f : ℕ) → h ≢ f → (f == h) ≡ false
other_is h f o = grind (arith, nat_tests)

link_next : (w : ℕ → ℕ) (h e x : ℕ) (es : List ℕ) → AreDifferent (places_of h (e ∷ x ∷ es)) → Chained w h x es → Chained (put (put (put (put w e x) (previous_place e) h) (previous_place x) e) h e) h x es
link_next w h e x es d k =
    let head = head-apart h (e ∷ x ∷ es) d in
    let links = links-apart h (e ∷ x ∷ es) d in
    let b = previous_place e in
    let c = previous_place x in
    let one = chain-put w h x e x es (λ s. links.0.1.0 (sym s)) links.0.1.1.1 k in
    let two = chain-put (put w e x) h x b h es (λ s. links.1.0.0 (sym s)) links.1.0.1.1 one in
    let three = chain-put (put (put w e x) b h) h x c e es links.1.1.0.0 links.1.1.1.0 two in
    chain-put (put (put (put w e x) b h) c e) h x h e es (λ s. head.1.1.0 (sym s)) head.1.1.1.1 three

-- the whole of a link: f is what the head's word was
pub linked : (w : ℕ → ℕ) (h e f : ℕ) (es : List ℕ) → f ≡ w h → AreDifferent (places_of h (e ∷ es)) → Chained w h h es → Chained (put_in_front h e f (put (put w e f) (previous_place e) h)) h h (e ∷ es)
linked w h e f [] is d k =
    let head = head-apart h (e ∷ []) d in
    let links = links-apart h (e ∷ []) d in
    let c = link_first w h e (previous_place e) head.0 head.1.0 links.0.0 in
    subst (λ g. Chained (put_in_front h e g (put (put w e g) (previous_place e) h)) h h (e ∷ [])) (sym (is ∙ k))
    (subst (λ (b : Bool). Chained (if b then put (put (put w e h) (previous_place e) h) h e else put (put (put (put w e h) (previous_place e) h) (previous_place h) e) h e) h h (e ∷ [])) (sym (same_is h h refl)) (c.0, c.1, c.2))
linked w h e f (x ∷ es) is d k =
    let head = head-apart h (e ∷ x ∷ es) d in
    let links = links-apart h (e ∷ x ∷ es) d in
    let b = previous_place e in
    let c = previous_place x in
    let front = link_front w h e b x c head.0 head.1.0 links.0.0 head.1.1.1.0 links.0.1.1.0 links.1.0.1.0 in
    let rest = link_next w h e x es d k.2 in
    subst (λ g. Chained (put_in_front h e g (put (put w e g) b h)) h h (e ∷ x ∷ es)) (sym (is ∙ k.0))
    (subst (λ (t : Bool). Chained (if t then put (put (put w e x) b h) h e else put (put (put (put w e x) b h) c e) h e) h h (e ∷ x ∷ es)) (sym (other_is h x head.1.1.0)) (front.0, front.1, (front.2, front.3, rest)))

-- an entry's previous word is the place before the list, or another entry; its next word is the head, or another entry
pub previous : (w : ℕ → ℕ) (h at e : ℕ) (es : List ℕ) → Chained w h at es → AreDifferent (links_of es) → IsAmong e es → (w (previous_place e) ≡ at) ⊎ IsAmong (w (previous_place e)) (without e es)
previous w h at e [] c d m = absurd m
previous w h at e (x ∷ es) c d (inl is) = inl (ap (λ y. w (previous_place y)) is ∙ c.1)
previous w h at e (x ∷ es) c d (inr m) = subst (λ l. (w (previous_place e) ≡ at) ⊎ IsAmong (w (previous_place e)) l) (sym (without_later e x es (avoids x e es d.0.1 m).0)) (later (previous w h x e es c.2 d.1.1 m))
  where
    later : (w (previous_place e) ≡ x) ⊎ IsAmong (w (previous_place e)) (without e es) → (w (previous_place e) ≡ at) ⊎ IsAmong (w (previous_place e)) (x ∷ without e es)
    later (inl is) = inr (inl is)
    later (inr m) = inr (inr m)

pub following : (w : ℕ → ℕ) (h at e : ℕ) (es : List ℕ) → Chained w h at es → AreDifferent (links_of es) → IsAmong e es → (w e ≡ h) ⊎ IsAmong (w e) (without e es)
following w h at e [] c d m = absurd m
following w h at e (x ∷ []) c d (inl is) = inl (ap w is ∙ c.2)
following w h at e (x ∷ y ∷ es) c d (inl is) = subst (λ l. (w e ≡ h) ⊎ IsAmong (w e) l) (sym (without_first e x (y ∷ es) is)) (inr (inl (ap w is ∙ c.2.0)))
following w h at e (x ∷ es) c d (inr m) = subst (λ l. (w e ≡ h) ⊎ IsAmong (w e) l) (sym (without_later e x es (avoids x e es d.0.1 m).0)) (later (following w h x e es c.2 d.1.1 m))
  where
    later : (w e ≡ h) ⊎ IsAmong (w e) (without e es) → (w e ≡ h) ⊎ IsAmong (w e) (x ∷ without e es)
    later (inl is) = inl is
    later (inr m) = inr (inr m)

-- an unlink's first store: the next words pass the entry by
passes : (w : ℕ → ℕ) (h at e : ℕ) (es : List ℕ) → Chained w h at (e ∷ es) → IsApart at (links_of es) → Leads (put w at (w e)) h (put w at (w e) at) es
passes w h at e es c a = leads-same w (put w at (w e)) h (w e) (put w at (w e) at) es (put_same w at (w e)) (λ x m. put_other w at (w e) x (λ s. (avoids at x es a m).0 (sym s))) (leads w h e es c.2)

unlink-leads : (w : ℕ → ℕ) (h at e : ℕ) (es : List ℕ) → Chained w h at es → IsApart at (links_of es) → AreDifferent (links_of es) → IsAmong e es →
    Leads (put w (w (previous_place e)) (w e)) h (put w (w (previous_place e)) (w e) at) (without e es)
unlink-leads w h at e [] c a g m = absurd m
unlink-leads w h at e (x ∷ es) c a g (inl is) =
    let here = passes w h at x es c a.1.1 in
    subst (Leads (put w (w (previous_place e)) (w e)) h (put w (w (previous_place e)) (w e) at)) (sym (without_first e x es is))
    (subst (λ y. Leads (put w (w (previous_place y)) (w y)) h (put w (w (previous_place y)) (w y) at) es) (sym is) (subst (λ p. Leads (put w p (w x)) h (put w p (w x) at) es) (sym c.1) here))
unlink-leads w h at e (x ∷ es) c a g (inr m) =
    let p = w (previous_place e) in
    let far : at ≢ p = apart (previous w h x e es c.2 g.1.1 m) in
    subst (Leads (put w p (w e)) h (put w p (w e) at)) (sym (without_later e x es (avoids x e es g.0.1 m).0))
    (put_other w p (w e) at far ∙ c.0, unlink-leads w h x e es c.2 g.0.1 g.1.1 m)
  where
    apart : (w (previous_place e) ≡ x) ⊎ IsAmong (w (previous_place e)) (without e es) → at ≢ w (previous_place e)
    apart (inl is) = λ s. a.0 (s ∙ is)
    apart (inr k) = (avoids at (w (previous_place e)) es a.1.1 (without-among e (w (previous_place e)) es k)).0

-- what an unlink stores; n and p are the entry's next and previous word
abbrev pub unlinked : (ℕ → ℕ) → ℕ → ℕ → ℕ → ℕ → ℕ
unlinked w h n p = if n == h then put w p n else put (put w p n) (previous_place n) p

-- the words at a place that it doesn't store to; c is where n has its previous word
unlinked_elsewhere : (w : ℕ → ℕ) (h n p c j : ℕ) → j ≢ p → (n ≢ h → j ≢ c) → (if n == h then put w p n else put (put w p n) c p) j ≡ w j
unlinked_elsewhere w h n p c j a b = grind (arith, nat_tests)

unlinked_other : (w : ℕ → ℕ) (h n p j : ℕ) → j ≢ p → (n ≢ h → j ≢ previous_place n) → unlinked w h n p j ≡ w j
unlinked_other w h n p j a b = unlinked_elsewhere w h n p (previous_place n) j a b

unlink_last : (w : ℕ → ℕ) (h at c : ℕ) → (if h == h then put w at h else put (put w at h) c at) at ≡ h
unlink_last w h at c = grind (arith, nat_tests)

unlink_front : (w : ℕ → ℕ) (h at x c : ℕ) → x ≢ h → at ≢ c → ((if x == h then put w at x else put (put w at x) c at) at ≡ x) × ((if x == h then put w at x else put (put w at x) c at) c ≡ at)
unlink_front w h at x c o a = grind (arith, nat_tests)

-- an unlink of the first entry
unlink-here : (w : ℕ → ℕ) (h at e : ℕ) (es : List ℕ) → Chained w h at (e ∷ es) → IsApart at (links_of (e ∷ es)) → IsApart h (links_of (e ∷ es)) → AreDifferent (links_of (e ∷ es)) → Chained (unlinked w h (w e) at) h at es
unlink-here w h at e [] c a o g = subst (λ n. unlinked w h n at at ≡ h) (sym c.2) (unlink_last w h at (previous_place h))
unlink-here w h at e (x ∷ xs) c a o g =
    let away : x ≢ h = λ s. o.1.1.0 (sym s) in
    let links = g.1.1 in
    let f = unlink_front w h at x (previous_place x) away a.1.1.1.0 in
    let rest = chain-same w (unlinked w h x at) h x xs
    (unlinked_other w h x at x (λ s. a.1.1.0 (sym s)) (λ _. links.0.0))
    (λ d m.
    let i = avoids at d xs a.1.1.1.1 m in
    let j = avoids (previous_place x) d xs links.1.0 m in (
      unlinked_other w h x at d (λ s. i.0 (sym s)) (λ _ s. j.0 (sym s)),
      unlinked_other w h x at (previous_place d) (λ s. i.1 (sym s)) (λ _ s. j.1 (sym s)),
    ))
    c.2.2 in
    subst (λ n. Chained (unlinked w h n at) h at (x ∷ xs)) (sym c.2.0) (f.0, f.1, rest)

unlink-chain : (w : ℕ → ℕ) (h at e : ℕ) (es : List ℕ) → Chained w h at es → IsApart at (links_of es) → IsApart h (links_of es) → AreDifferent (links_of es) → IsAmong e es → Chained (unlinked w h (w e) (w (previous_place e))) h at (without e es)
unlink-chain w h at e [] c a o g m = absurd m
unlink-chain w h at e (x ∷ es) c a o g (inl is) =
    let here = unlink-here w h at x es c a o g in
    subst (Chained (unlinked w h (w e) (w (previous_place e))) h at) (sym (without_first e x es is))
    (subst (λ y. Chained (unlinked w h (w y) (w (previous_place y))) h at es) (sym is) (subst (λ p. Chained (unlinked w h (w x) p) h at es) (sym c.1) here))
unlink-chain w h at e (x ∷ es) c a o g (inr m) =
    let n = w e in
    let p = w (previous_place e) in
    let back = previous w h x e es c.2 g.1.1 m in
    let on = following w h x e es c.2 g.1.1 m in
    subst (Chained (unlinked w h n p) h at) (sym (without_later e x es (avoids x e es g.0.1 m).0)) (
      unlinked_other w h n p at (from at a.0 a.1.1 back) (to at a.1.1 on) ∙ c.0,
      unlinked_other w h n p (previous_place x) (from (previous_place x) (λ s. g.0.0 (sym s)) g.1.0 back) (to (previous_place x) g.1.0 on) ∙ c.1,
      unlink-chain w h x e es c.2 g.0.1 o.1.1 g.1.1 m,
    )
  where
    from : (j : ℕ) → j ≢ x → IsApart j (links_of es) → (w (previous_place e) ≡ x) ⊎ IsAmong (w (previous_place e)) (without e es) → j ≢ w (previous_place e)
    from j o f (inl is) = λ s. o (s ∙ is)
    from j o f (inr k) = (avoids j (w (previous_place e)) es f (without-among e (w (previous_place e)) es k)).0

    to : (j : ℕ) → IsApart j (links_of es) → (w e ≡ h) ⊎ IsAmong (w e) (without e es) → w e ≢ h → j ≢ previous_place (w e)
    to j f (inl is) = λ o. absurd (o is)
    to j f (inr k) = λ _. (avoids j (w e) es f (without-among e (w e) es k)).1

-- an unlink's first store makes the next words pass the entry by, and both make the chain without it
pub unlinks : (w : ℕ → ℕ) (h e : ℕ) (es : List ℕ) → Chained w h h es → AreDifferent (places_of h es) → IsAmong e es →
    Leads (put w (w (previous_place e)) (w e)) h (put w (w (previous_place e)) (w e) h) (without e es) × Chained (unlinked w h (w e) (w (previous_place e))) h h (without e es)
unlinks w h e es c d m =
    let a = head-apart h es d in
    let g = links-apart h es d in
    (unlink-leads w h h e es c a g m, unlink-chain w h h e es c a a g m)
