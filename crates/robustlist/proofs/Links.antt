-- A link, row by row.
use Rattle.std.proofs.Common.{◌≡◌, ◌≢◌, inl, inr, ℕ, ◌<◌, ◌==◌, Bool, true, false, List, [], ◌∷◌, arith, refl, sym, ap, ◌∙◌, subst}
use Rattle.std.specs.Prelude.{if◌then◌else◌}
use Rattle.std.proofs.lemmas.Bool.Decides.{nat_tests}
use Rattle.lockword.specs.declared.reply.Reply.{Reply}
use Rattle.lockword.specs.declared.reply.Reply.TheVariants.{OK, EFAULT}
use Rattle.stepprograms.specs.declared.access.Access.TheVariants as access
use Rattle.stepprograms.specs.declared.access.Answer.{Answer}
use Rattle.stepprograms.specs.declared.access.Answer.TheVariants as answer
use Rattle.stepprograms.specs.Accesses.{address_of}
use Rattle.memorymap.specs.Chains.{previous_place, IsAmong, AreDifferent, links_of, IsChain, IsChainBothWays}
use Rattle.robustlist.specs.declared.link.LinkRow.{LinkRow}
use Rattle.robustlist.specs.declared.link.LinkRow.TheVariants.{LoadFirst, StoreNext, StorePrevious, StoreBehind, StoreFirst, Ended}
use Rattle.robustlist.specs.Words.{put, answer_on, after, IsAnswerOf, IsOn, Agree, Makes}
use Rattle.robustlist.specs.Link.{link_access, link_stored, link_resume, link_after_both, LinkGoes}
use Rattle.robustlist.specs.LinkLaws.{LiesApart, first_of, link_list, put_in_front, link_finished, Linking, link_left, LinksAreRight}
use Rattle.robustlist.proofs.Places.{avoids, places-more, head-apart, links-apart, put_other, put-agrees}
use Rattle.robustlist.proofs.Chains.{leads-same, chain-same, chained, both-ways, linked}
use Rattle.robustlist.proofs.Agreement.{by_address, made}

-- the head's word is the first entry, or the head
pub first-is : (w : ℕ → ℕ) (h : ℕ) (es : List ℕ) → IsChain w h es → w h ≡ first_of h es
first-is w h [] c = c.leads
first-is w h (x ∷ es) c = c.leads.0

first-among : (h : ℕ) (es : List ℕ) → first_of h es ≢ h → IsAmong (first_of h es) es
first-among h [] o = absurd (o refl)
first-among h (x ∷ es) o = inl refl

pub among-first : (f h : ℕ) (es : List ℕ) → f ≡ first_of h es → f ≢ h → IsAmong f es
among-first f h es is o = subst (λ g. IsAmong g es) (sym is) (first-among h es (λ s. o (is ∙ s)))

pub begins : (h e : ℕ) (es : List ℕ) (w : ℕ → ℕ) → IsChainBothWays w h es → LiesApart h e es → Linking h e es LoadFirst w
begins h e es w c a =
    let d = places-more h e es c.places a in
    record {
      places = d;
      carries = tt;
      chain = c.chain;
      finished = both-ways (put_in_front h e (w h) (put (put w e (w h)) (previous_place e) h)) h (e ∷ es) d (linked w h e (w h) es refl d (chained w h es c));
    }

-- an entry's next word is no other's previous word
apart-next : (f : ℕ) (l : List ℕ) → AreDifferent (links_of l) → IsAmong f l → (y : ℕ) → IsAmong y l → y ≢ previous_place f
apart-next f [] d s y m = absurd s
apart-next f (x ∷ xs) d (inl is) y (inl at) = λ q. d.0.0 (sym at ∙ q ∙ ap (λ z. previous_place z) is)
apart-next f (x ∷ xs) d (inl is) y (inr m) = λ q. (avoids (previous_place x) y xs d.1.0 m).0 (ap (λ z. previous_place z) (sym is) ∙ sym q)
apart-next f (x ∷ xs) d (inr s) y (inl at) = λ q. (avoids x f xs d.0.1 s).1 (sym at ∙ q)
apart-next f (x ∷ xs) d (inr s) y (inr m) = apart-next f xs d.1.1 s y m

-- a store to no next word of a chain
past : (w : ℕ → ℕ) (h p x : ℕ) (es : List ℕ) → h ≢ p → ((y : ℕ) → IsAmong y es → y ≢ p) → IsChain w h es → IsChain (put w p x) h es
past w h p x es o n c = record { leads = leads-same w (put w p x) h (w h) (put w p x h) es (put_other w p x h o) (λ y s. put_other w p x y (n y s)) c.leads; different = c.different }

list-among : (e : ℕ) (es : List ℕ) (r : LinkRow) (x : ℕ) → IsAmong x (link_list e es r) → IsAmong x (e ∷ es)
list-among e es (Ended y) x s = s
list-among e es LoadFirst x s = inr s
list-among e es (StoreNext f) x s = inr s
list-among e es (StorePrevious f) x s = inr s
list-among e es (StoreBehind f) x s = inr s
list-among e es StoreFirst x s = inr s

-- words that agree at a place do so after the stores to be made
same-front : (v w : ℕ → ℕ) (h e f j : ℕ) → w j ≡ v j → put_in_front h e f w j ≡ put_in_front h e f v j
same-front v w h e f j s = go (f == h)
  where
    go : (b : Bool) → (if b then put w h e else put (put w (previous_place f) e) h e) j ≡ (if b then put v h e else put (put v (previous_place f) e) h e) j
    go true = put-agrees v w h e j s
    go false = put-agrees (put v (previous_place f) e) (put w (previous_place f) e) h e j (put-agrees v w (previous_place f) e j s)

same-whole : (v w : ℕ → ℕ) (h e f j : ℕ) → w j ≡ v j → put_in_front h e f (put (put w e f) (previous_place e) h) j ≡ put_in_front h e f (put (put v e f) (previous_place e) h) j
same-whole v w h e f j s = same-front (put (put v e f) (previous_place e) h) (put (put w e f) (previous_place e) h) h e f j (put-agrees (put v e f) (put w e f) (previous_place e) h j (put-agrees v w e f j s))

same-finished : (h e : ℕ) (r : LinkRow) (v w : ℕ → ℕ) → w h ≡ v h → (j : ℕ) → w j ≡ v j → link_finished h e r w j ≡ link_finished h e r v j
same-finished h e LoadFirst v w o j s = subst (λ f. put_in_front h e f (put (put w e f) (previous_place e) h) j ≡ put_in_front h e (v h) (put (put v e (v h)) (previous_place e) h) j) (sym o) (same-whole v w h e (v h) j s)
same-finished h e (StoreNext f) v w o j s = same-whole v w h e f j s
same-finished h e (StorePrevious f) v w o j s = same-front (put v (previous_place e) h) (put w (previous_place e) h) h e f j (put-agrees v w (previous_place e) h j s)
same-finished h e (StoreBehind f) v w o j s = put-agrees (put v (previous_place f) e) (put w (previous_place f) e) h e j (put-agrees v w (previous_place f) e j s)
same-finished h e StoreFirst v w o j s = put-agrees v w h e j s
same-finished h e (Ended x) v w o j s = s

pub others : (h e : ℕ) (es : List ℕ) (r : LinkRow) (v w : ℕ → ℕ) → Agree h (e ∷ es) v w → Linking h e es r v → Linking h e es r w
others h e es r v w a k =
    let head : w h ≡ v h = a h (inl refl) in
    record {
      places = k.places;
      carries = k.carries;
      chain = record { leads = leads-same v w h (v h) (w h) (link_list e es r) head (λ x s. a x (inr (x, list-among e es r x s, inl refl))) k.chain.leads; different = k.chain.different };
      finished = both-ways (link_finished h e r w) h (e ∷ es) k.places
          (chain-same (link_finished h e r v) (link_finished h e r w) h h (e ∷ es) (same-finished h e r v w head h head)
          (λ x s. (same-finished h e r v w head x (a x (inr (x, s, inl refl))), same-finished h e r v w head (previous_place x) (a (previous_place x) (inr (x, s, inr refl))))) (chained (link_finished h e r v) h (e ∷ es) k.finished));
    }

-- each access, on words that nobody else writes; one that has ended only looks
pub makes : (h e : ℕ) (es : List ℕ) (r : LinkRow) (w : ℕ → ℕ) → Linking h e es r w → Linking h e es (link_resume h r (answer_on (link_access h e r) w)) (after (link_access h e r) w)
makes h e es LoadFirst w k =
    others h e es (StoreNext (w h)) w (λ p. if p == h then w p else w p) (λ p _. by_address p h (w p))
    (record { places = k.places; carries = first-is w h es k.chain; chain = k.chain; finished = k.finished })
makes h e es (StoreNext f) w k =
    let head = head-apart h (e ∷ es) k.places in
    let links = links-apart h (e ∷ es) k.places in
    record { places = k.places; carries = k.carries; chain = past w h e f es head.0 (λ y s is. (avoids e y es links.0.1 s).0 (sym is)) k.chain; finished = k.finished }
makes h e es (StorePrevious f) w k = go (f == h) refl k.finished
  where
    b : ℕ
    b = previous_place e

    chain : IsChain (put w (previous_place e) h) h es
    chain =
        let head = head-apart h (e ∷ es) k.places in
        let links = links-apart h (e ∷ es) k.places in
        past w h (previous_place e) h es head.1.0 (λ y s is. (avoids (previous_place e) y es links.1.0 s).0 (sym is)) k.chain

    go : (t : Bool) → (f == h) ≡ t → IsChainBothWays (if t then put (put w (previous_place e) h) h e else put (put (put w (previous_place e) h) (previous_place f) e) h e) h (e ∷ es) → Linking h e es (if t then StoreFirst else StoreBehind f) (put w (previous_place e) h)
    go true is c = record { places = k.places; carries = tt; chain = chain; finished = c }
    go false is c = record { places = k.places; carries = (k.carries, grind (arith, nat_tests)); chain = chain; finished = c }
makes h e es (StoreBehind f) w k =
    let among = among-first f h es k.carries.0 k.carries.1 in
    let head = head-apart h (e ∷ es) k.places in
    let links = links-apart h (e ∷ es) k.places in
    record { places = k.places; carries = tt; chain = past w h (previous_place f) e es (avoids h f es head.1.1 among).1 (apart-next f es links.1.1 among) k.chain; finished = k.finished }
makes h e es StoreFirst w k = record { places = k.places; carries = refl; chain = k.finished.chain; finished = k.finished }
makes h e es (Ended x) w k = others h e es (Ended x) w (λ q. if q == h then w q else w q) (λ q _. by_address q h (w q)) k

pub steps : (h e : ℕ) (es : List ℕ) (r : LinkRow) (v w : ℕ → ℕ) → LinkGoes r → Linking h e es r v → Makes (link_access h e r) h (e ∷ es) v w → Linking h e es (link_resume h r (answer_on (link_access h e r) v)) w
steps h e es r v w g k m = others h e es (link_resume h r (answer_on (link_access h e r) v)) (after (link_access h e r) v) w (made (link_access h e r) h (e ∷ es) v w m) (makes h e es r v k)

pub near : (h e : ℕ) (es : List ℕ) (r : LinkRow) (w : ℕ → ℕ) → Linking h e es r w → IsOn h (e ∷ es) (address_of (link_access h e r))
near h e es LoadFirst w k = inl refl
near h e es (StoreNext f) w k = inr (e, inl refl, inl refl)
near h e es (StorePrevious f) w k = inr (e, inl refl, inr refl)
near h e es (StoreBehind f) w k = inr (f, inr (among-first f h es k.carries.0 k.carries.1), inr refl)
near h e es StoreFirst w k = inl refl
near h e es (Ended x) w k = inl refl

left-after : (h f : ℕ) → link_left (link_after_both h f) < 3
left-after h f = go (f == h)
  where
    go : (b : Bool) → link_left (if b then StoreFirst else StoreBehind f) < 3
    go true = omega arith
    go false = omega arith

-- whatever a store is answered
stored-falls : (r : LinkRow) (n : ℕ) (a : Answer) → link_left r < n → 0 < n → link_left (link_stored a r) < n
stored-falls r n answer.Stored l o = l
stored-falls r n a l o = o

falls : (h : ℕ) (r : LinkRow) (a : Answer) → LinkGoes r → link_left (link_resume h r a) < link_left r
falls h LoadFirst (answer.Value f) g = omega arith
falls h LoadFirst a g = omega arith
falls h (StoreNext f) a g = stored-falls (StorePrevious f) 4 a (omega arith) (omega arith)
falls h (StorePrevious f) a g = stored-falls (link_after_both h f) 3 a (left-after h f) (omega arith)
falls h (StoreBehind f) a g = stored-falls StoreFirst 2 a (omega arith) (omega arith)
falls h StoreFirst a g = stored-falls (Ended OK) 1 a (omega arith) (omega arith)
falls h (Ended x) a g = absurd g

stored-faults : (at v : ℕ) (r : LinkRow) (a : Answer) → (IsAnswerOf (access.Store at v) a → ⊥) → link_stored a r ≡ Ended EFAULT
stored-faults at v r answer.Stored n = absurd (n tt)
stored-faults at v r a n = refl

faults : (h e : ℕ) (r : LinkRow) (a : Answer) → LinkGoes r → (IsAnswerOf (link_access h e r) a → ⊥) → link_resume h r a ≡ Ended EFAULT
faults h e LoadFirst (answer.Value f) g n = absurd (n tt)
faults h e LoadFirst a g n = refl
faults h e (StoreNext f) a g n = stored-faults e f (StorePrevious f) a n
faults h e (StorePrevious f) a g n = stored-faults (previous_place e) h (link_after_both h f) a n
faults h e (StoreBehind f) a g n = stored-faults (previous_place f) e StoreFirst a n
faults h e StoreFirst a g n = stored-faults h e (Ended OK) a n
faults h e (Ended x) a g n = absurd g

stored-leads : (at v : ℕ) (r q : LinkRow) (a : Answer) → IsAnswerOf (access.Store at v) a → link_stored a r ≡ q → r ≡ q
stored-leads at v r q answer.Stored m is = is
stored-leads at v r q a m is = absurd m

-- the reply of a row that has ended, OK of another
abbrev pub reply_at : LinkRow → Reply
reply_at (Ended x) = x
reply_at r = OK

ended-ok : (r : LinkRow) (x : Reply) → reply_at r ≡ OK → r ≡ Ended x → x ≡ OK
ended-ok r x ok is = ap reply_at (sym is) ∙ ok

after-ok : (h f : ℕ) → reply_at (link_after_both h f) ≡ OK
after-ok h f = go (f == h)
  where
    go : (b : Bool) → reply_at (if b then StoreFirst else StoreBehind f) ≡ OK
    go true = refl
    go false = refl

replies : (h e : ℕ) (r : LinkRow) (a : Answer) (x : Reply) → LinkGoes r → IsAnswerOf (link_access h e r) a → link_resume h r a ≡ Ended x → x ≡ OK
replies h e LoadFirst (answer.Value f) x g m is = ended-ok (StoreNext f) x refl is
replies h e LoadFirst a x g m is = absurd m
replies h e (StoreNext f) a x g m is = ended-ok (StorePrevious f) x refl (stored-leads e f (StorePrevious f) (Ended x) a m is)
replies h e (StorePrevious f) a x g m is = ended-ok (link_after_both h f) x (after-ok h f) (stored-leads (previous_place e) h (link_after_both h f) (Ended x) a m is)
replies h e (StoreBehind f) a x g m is = ended-ok StoreFirst x refl (stored-leads (previous_place f) e StoreFirst (Ended x) a m is)
replies h e StoreFirst a x g m is = ended-ok (Ended OK) x refl (stored-leads h e (Ended OK) (Ended x) a m is)
replies h e (Ended y) a x g m is = absurd g

pub right : LinksAreRight
right = record {
  begins = begins;
  steps = steps;
  ends = λ h e es x w k. (k.carries, k.finished);
  leads = λ h e es r w k. k.chain;
  near = near;
  others = others;
  falls = falls;
  faults = faults;
  replies = replies;
}
