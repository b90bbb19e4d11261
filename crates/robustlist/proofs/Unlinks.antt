-- An unlink, row by row.
use Rattle.std.proofs.Common.{◌≡◌, ◌≢◌, ◌⊎◌, inl, inr, ℕ, ◌<◌, ◌==◌, Bool, true, false, List, arith, refl, sym, ap, ◌∙◌, subst}
use Rattle.std.specs.Prelude.{if◌then◌else◌}
use Rattle.std.proofs.lemmas.Bool.Decides.{nat_tests}
use Rattle.lockword.specs.declared.reply.Reply.{Reply}
use Rattle.lockword.specs.declared.reply.Reply.TheVariants.{OK, EFAULT}
use Rattle.stepprograms.specs.declared.access.Access.TheVariants as access
use Rattle.stepprograms.specs.declared.access.Answer.{Answer}
use Rattle.stepprograms.specs.declared.access.Answer.TheVariants as answer
use Rattle.stepprograms.specs.Accesses.{address_of}
use Rattle.memorymap.specs.Chains.{previous_place, IsAmong, Leads, IsChain, IsChainBothWays, without}
use Rattle.robustlist.specs.declared.unlink.UnlinkRow.{UnlinkRow}
use Rattle.robustlist.specs.declared.unlink.UnlinkRow.TheVariants.{LoadNext, LoadPrevious, StoreNext, StorePrevious, Ended}
use Rattle.robustlist.specs.Words.{put, answer_on, after, IsAnswerOf, IsOn, Agree, Makes}
use Rattle.robustlist.specs.Unlink.{unlink_access, unlink_stored, unlink_resume, unlink_after_next, UnlinkGoes}
use Rattle.robustlist.specs.UnlinkLaws.{unlink_list, UnlinkKnows, Unlinking, unlink_left, UnlinksAreRight}
use Rattle.robustlist.proofs.Places.{links-apart, entries-different, places-without, without-among, on-without, put-agrees}
use Rattle.robustlist.proofs.Chains.{Chained, leads-same, chain-same, chained, both-ways, previous, following, unlinked, unlinks}
use Rattle.robustlist.proofs.Agreement.{by_address, made}

pub begins : (h e : ℕ) (es : List ℕ) (w : ℕ → ℕ) → IsChainBothWays w h es → IsAmong e es → Unlinking h e es LoadNext w
begins h e es w c m = record { places = c.places; among = m; chain = c.chain; knows = c }

list-among : (e : ℕ) (es : List ℕ) (r : UnlinkRow) (x : ℕ) → IsAmong x (unlink_list e es r) → IsAmong x es
list-among e es LoadNext x s = s
list-among e es (LoadPrevious n) x s = s
list-among e es (StoreNext n p) x s = s
list-among e es (StorePrevious n p) x s = without-among e x es s
list-among e es (Ended y) x s = without-among e x es s

-- words that agree at a list's places, and after the same store, have the same chain both ways
same-both : (h : ℕ) (es : List ℕ) (v w : ℕ → ℕ) → Agree h es v w → IsChainBothWays v h es → IsChainBothWays w h es
same-both h es v w a c = both-ways w h es c.places (chain-same v w h h es (a h (inl refl)) (λ x s. (a x (inr (x, s, inl refl)), a (previous_place x) (inr (x, s, inr refl)))) (chained v h es c))

knows-same : (h e : ℕ) (es : List ℕ) (r : UnlinkRow) (v w : ℕ → ℕ) → Agree h es v w → IsAmong e es → UnlinkKnows h e es r v → UnlinkKnows h e es r w
knows-same h e es LoadNext v w a s k = same-both h es v w a k
knows-same h e es (LoadPrevious n) v w a s k = (same-both h es v w a k.0, k.1 ∙ sym (a e (inr (e, s, inl refl))))
knows-same h e es (StoreNext n p) v w a s k = (same-both h es v w a k.0, k.1 ∙ sym (a e (inr (e, s, inl refl))), k.2 ∙ sym (a (previous_place e) (inr (e, s, inr refl))))
knows-same h e es (StorePrevious n p) v w a s k =
    (same-both h (without e es) (put v (previous_place n) p) (put w (previous_place n) p) (λ q on. put-agrees v w (previous_place n) p q (a q (on-without h e q es on))) k.0, k.1)
knows-same h e es (Ended x) v w a s k = (same-both h (without e es) v w (λ q on. a q (on-without h e q es on)) k.0, k.1)

others : (h e : ℕ) (es : List ℕ) (r : UnlinkRow) (v w : ℕ → ℕ) → Agree h es v w → Unlinking h e es r v → Unlinking h e es r w
others h e es r v w a k = record {
  places = k.places;
  among = k.among;
  chain = record { leads = leads-same v w h (v h) (w h) (unlink_list e es r) (a h (inl refl)) (λ x s. a x (inr (x, list-among e es r x s, inl refl))) k.chain.leads; different = k.chain.different };
  knows = knows-same h e es r v w a k.among k.knows;
}

-- an entry's words
pub next-is : (w : ℕ → ℕ) (h e n : ℕ) (es : List ℕ) → IsChainBothWays w h es → IsAmong e es → n ≡ w e → (n ≡ h) ⊎ IsAmong n (without e es)
next-is w h e n es c m is = subst (λ x. (x ≡ h) ⊎ IsAmong x (without e es)) (sym is) (following w h h e es (chained w h es c) (links-apart h es c.places) m)

pub previous-is : (w : ℕ → ℕ) (h e p : ℕ) (es : List ℕ) → IsChainBothWays w h es → IsAmong e es → p ≡ w (previous_place e) → (p ≡ h) ⊎ IsAmong p (without e es)
previous-is w h e p es c m is = subst (λ x. (x ≡ h) ⊎ IsAmong x (without e es)) (sym is) (previous w h h e es (chained w h es c) (links-apart h es c.places) m)

-- each access, on words that nobody else writes; one that has ended only looks
pub makes : (h e : ℕ) (es : List ℕ) (r : UnlinkRow) (w : ℕ → ℕ) → Unlinking h e es r w → Unlinking h e es (unlink_resume h r (answer_on (unlink_access h e r) w)) (after (unlink_access h e r) w)
makes h e es LoadNext w k =
    others h e es (LoadPrevious (w e)) w (λ q. if q == e then w q else w q) (λ q _. by_address q e (w q)) (record { places = k.places; among = k.among; chain = k.chain; knows = (k.knows, refl) })
makes h e es (LoadPrevious n) w k =
    others h e es (StoreNext n (w (previous_place e))) w (λ q. if q == previous_place e then w q else w q) (λ q _. by_address q (previous_place e) (w q))
    (record { places = k.places; among = k.among; chain = k.chain; knows = (k.knows.0, k.knows.1, refl) })
makes h e es (StoreNext n p) w k = go (n == h) refl whole
  where
    both : Leads (put w (w (previous_place e)) (w e)) h (put w (w (previous_place e)) (w e) h) (without e es) × Chained (unlinked w h (w e) (w (previous_place e))) h h (without e es)
    both = unlinks w h e es (chained w h es k.knows.0) k.places k.among

    lead : Leads (put w p n) h (put w p n h) (without e es)
    lead =
        subst (λ q. Leads (put w q n) h (put w q n h) (without e es)) (sym k.knows.2)
        (subst (λ y. Leads (put w (w (previous_place e)) y) h (put w (w (previous_place e)) y h) (without e es)) (sym k.knows.1) both.0)

    chain : IsChain (put w p n) h (without e es)
    chain = record { leads = lead; different = entries-different h (without e es) (places-without h e es k.places) }

    whole : IsChainBothWays (unlinked w h n p) h (without e es)
    whole = both-ways (unlinked w h n p) h (without e es) (places-without h e es k.places)
        (subst (λ q. Chained (unlinked w h n q) h h (without e es)) (sym k.knows.2) (subst (λ y. Chained (unlinked w h y (w (previous_place e))) h h (without e es)) (sym k.knows.1) both.1))

    entry : (n ≡ h) ⊎ IsAmong n (without e es) → n ≢ h → IsAmong n (without e es)
    entry (inl is) o = absurd (o is)
    entry (inr m) o = m

    go : (b : Bool) → (n == h) ≡ b → IsChainBothWays (if b then put w p n else put (put w p n) (previous_place n) p) h (without e es) → Unlinking h e es (if b then Ended OK else StorePrevious n p) (put w p n)
    go true is c = record { places = k.places; among = k.among; chain = chain; knows = (c, refl) }
    go false is c = record { places = k.places; among = k.among; chain = chain; knows = (c, entry (next-is w h e n es k.knows.0 k.among k.knows.1) (grind (arith, nat_tests))) }
makes h e es (StorePrevious n p) w k = record { places = k.places; among = k.among; chain = k.knows.0.chain; knows = (k.knows.0, refl) }
makes h e es (Ended x) w k = others h e es (Ended x) w (λ q. if q == h then w q else w q) (λ q _. by_address q h (w q)) k

steps : (h e : ℕ) (es : List ℕ) (r : UnlinkRow) (v w : ℕ → ℕ) → UnlinkGoes r → Unlinking h e es r v → Makes (unlink_access h e r) h es v w → Unlinking h e es (unlink_resume h r (answer_on (unlink_access h e r) v)) w
steps h e es r v w g k m = others h e es (unlink_resume h r (answer_on (unlink_access h e r) v)) (after (unlink_access h e r) v) w (made (unlink_access h e r) h es v w m) (makes h e es r v k)

-- an unlink stores at a place of the list without the entry
pub stores-near : (h e n p : ℕ) (es : List ℕ) (w : ℕ → ℕ) → Unlinking h e es (StoreNext n p) w → IsOn h (without e es) p
stores-near h e n p es w k = go (previous-is w h e p es k.knows.0 k.among k.knows.2)
  where
    go : (p ≡ h) ⊎ IsAmong p (without e es) → (p ≡ h) ⊎ (x : ℕ) × IsAmong x (without e es) × ((p ≡ x) ⊎ (p ≡ previous_place x))
    go (inl is) = inl is
    go (inr m) = inr (p, m, inl refl)

pub near : (h e : ℕ) (es : List ℕ) (r : UnlinkRow) (w : ℕ → ℕ) → Unlinking h e es r w → IsOn h es (address_of (unlink_access h e r))
near h e es LoadNext w k = inr (e, k.among, inl refl)
near h e es (LoadPrevious n) w k = inr (e, k.among, inr refl)
near h e es (StoreNext n p) w k = on-without h e p es (stores-near h e n p es w k)
near h e es (StorePrevious n p) w k = inr (n, without-among e n es k.knows.1, inr refl)
near h e es (Ended x) w k = inl refl

left-after : (h n p : ℕ) → unlink_left (unlink_after_next h n p) < 2
left-after h n p = go (n == h)
  where
    go : (b : Bool) → unlink_left (if b then Ended OK else StorePrevious n p) < 2
    go true = omega arith
    go false = omega arith

-- whatever a store is answered
stored-falls : (r : UnlinkRow) (n : ℕ) (a : Answer) → unlink_left r < n → 0 < n → unlink_left (unlink_stored a r) < n
stored-falls r n answer.Stored l o = l
stored-falls r n a l o = o

falls : (h : ℕ) (r : UnlinkRow) (a : Answer) → UnlinkGoes r → unlink_left (unlink_resume h r a) < unlink_left r
falls h LoadNext (answer.Value n) g = omega arith
falls h LoadNext a g = omega arith
falls h (LoadPrevious n) (answer.Value p) g = omega arith
falls h (LoadPrevious n) a g = omega arith
falls h (StoreNext n p) a g = stored-falls (unlink_after_next h n p) 2 a (left-after h n p) (omega arith)
falls h (StorePrevious n p) a g = stored-falls (Ended OK) 1 a (omega arith) (omega arith)
falls h (Ended x) a g = absurd g

stored-faults : (at v : ℕ) (r : UnlinkRow) (a : Answer) → (IsAnswerOf (access.Store at v) a → ⊥) → unlink_stored a r ≡ Ended EFAULT
stored-faults at v r answer.Stored n = absurd (n tt)
stored-faults at v r a n = refl

faults : (h e : ℕ) (r : UnlinkRow) (a : Answer) → UnlinkGoes r → (IsAnswerOf (unlink_access h e r) a → ⊥) → unlink_resume h r a ≡ Ended EFAULT
faults h e LoadNext (answer.Value v) g o = absurd (o tt)
faults h e LoadNext a g o = refl
faults h e (LoadPrevious n) (answer.Value v) g o = absurd (o tt)
faults h e (LoadPrevious n) a g o = refl
faults h e (StoreNext n p) a g o = stored-faults p n (unlink_after_next h n p) a o
faults h e (StorePrevious n p) a g o = stored-faults (previous_place n) p (Ended OK) a o
faults h e (Ended x) a g o = absurd g

stored-leads : (at v : ℕ) (r q : UnlinkRow) (a : Answer) → IsAnswerOf (access.Store at v) a → unlink_stored a r ≡ q → r ≡ q
stored-leads at v r q answer.Stored m is = is
stored-leads at v r q a m is = absurd m

-- the reply of a row that has ended, OK of another
abbrev pub reply_at : UnlinkRow → Reply
reply_at (Ended x) = x
reply_at r = OK

ended-ok : (r : UnlinkRow) (x : Reply) → reply_at r ≡ OK → r ≡ Ended x → x ≡ OK
ended-ok r x ok is = ap reply_at (sym is) ∙ ok

after-ok : (h n p : ℕ) → reply_at (unlink_after_next h n p) ≡ OK
after-ok h n p = go (n == h)
  where
    go : (b : Bool) → reply_at (if b then Ended OK else StorePrevious n p) ≡ OK
    go true = refl
    go false = refl

replies : (h e : ℕ) (r : UnlinkRow) (a : Answer) (x : Reply) → UnlinkGoes r → IsAnswerOf (unlink_access h e r) a → unlink_resume h r a ≡ Ended x → x ≡ OK
replies h e LoadNext (answer.Value v) x g m is = ended-ok (LoadPrevious v) x refl is
replies h e LoadNext a x g m is = absurd m
replies h e (LoadPrevious n) (answer.Value v) x g m is = ended-ok (StoreNext n v) x refl is
replies h e (LoadPrevious n) a x g m is = absurd m
replies h e (StoreNext n p) a x g m is = ended-ok (unlink_after_next h n p) x (after-ok h n p) (stored-leads p n (unlink_after_next h n p) (Ended x) a m is)
replies h e (StorePrevious n p) a x g m is = ended-ok (Ended OK) x refl (stored-leads (previous_place n) p (Ended OK) (Ended x) a m is)
replies h e (Ended y) a x g m is = absurd g

pub right : UnlinksAreRight
right = record {
  begins = begins;
  steps = steps;
  ends = λ h e es x w k. (k.knows.1, k.knows.0);
  leads = λ h e es r w k. k.chain;
  near = near;
  others = others;
  falls = falls;
  faults = faults;
  replies = replies;
}
