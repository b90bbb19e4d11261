use Rattle.robustlist.proofs.laws.links_alone.Goals as goal
use Rattle.std.proofs.Common.{◌≡◌, ◌≢◌, ℕ, zero, suc, ◌+◌, ◌<◌, List, [], ◌∷◌, arith, refl, sym, ap, ◌∙◌, subst}
use Rattle.std.proofs.lemmas.Bool.Decides.{nat_tests}
use Rattle.lockword.specs.declared.reply.Reply.TheVariants.{OK}
use Rattle.memorymap.specs.Chains.{IsChain, IsChainBothWays}
use Rattle.robustlist.specs.declared.link.LinkRow.{LinkRow}
use Rattle.robustlist.specs.declared.link.LinkRow.TheVariants.{LoadFirst, StoreNext, StorePrevious, StoreBehind}
use Rattle.robustlist.specs.declared.link.LinkRow.TheVariants.{StoreFirst, Ended}
use Rattle.robustlist.specs.Words.{answer_on, IsOn}
use Rattle.robustlist.specs.Link.{link_access, link_after_both, link_resume, LinkGoes}
use Rattle.robustlist.specs.LinkLaws.{LiesApart, link_finished, Linking, link_run, LinkOf, LinksAlone}
use Rattle.robustlist.proofs.Agreement.{elsewhere}
use Rattle.robustlist.proofs.Places.{head-apart}
use Rattle.robustlist.proofs.Links.{begins, makes, near}

-- A link on words that nobody else writes.

-- where the entry's own words are stored
into_empty : (h : ℕ) → link_after_both h h ≡ StoreFirst
into_empty h = grind (arith, nat_tests)

into_other : (h f : ℕ) → f ≢ h → link_after_both h f ≡ StoreBehind f
into_other h f o = grind (arith, nat_tests)

none_left : (k n : ℕ) → n + k < n → ⊥
none_left k n l = omega arith

-- up to its last access
leads_old : (h e : ℕ) (es : List ℕ) (r : LinkRow) (w : ℕ → ℕ) → LinkGoes r → Linking h e es r w → IsChain w h es
leads_old h e es LoadFirst w g k = k.chain
leads_old h e es (StoreNext f) w g k = k.chain
leads_old h e es (StorePrevious f) w g k = k.chain
leads_old h e es (StoreBehind f) w g k = k.chain
leads_old h e es StoreFirst w g k = k.chain
leads_old h e es (Ended x) w g k = absurd g

module _ (h e : ℕ) (es : List ℕ) (w : ℕ → ℕ) (c : IsChainBothWays w h es) (a : LiesApart h e es) where
  linking : (k : ℕ) → Linking h e es (link_run k h e w).row (link_run k h e w).words
  linking zero = begins h e es w c a
  linking (suc k) = makes h e es (link_run k h e w).row (link_run k h e w).words (linking k)

  stays : (k p : ℕ) → (IsOn h (e ∷ es) p → ⊥) → (link_run k h e w).words p ≡ w p
  stays zero p o = refl
  stays (suc k) p o =
      elsewhere (link_access h e (link_run k h e w).row) (link_run k h e w).words p
      (λ s. o (subst (λ q. IsOn h (e ∷ es) q) (sym s) (near h e es (link_run k h e w).row (link_run k h e w).words (linking k)))) ∙ stays k p o

  -- at a row that it has come to
  goes_at : (k : ℕ) (r : LinkRow) → LinkGoes r → (link_run k h e w).row ≡ r → LinkGoes (link_run k h e w).row × IsChain (link_run k h e w).words h es
  goes_at k r g is = let going = subst LinkGoes (sym is) g in (going, leads_old h e es (link_run k h e w).row (link_run k h e w).words going (linking k))

  ended_at : (k : ℕ) → (link_run k h e w).row ≡ Ended OK → IsChainBothWays (link_run k h e w).words h (e ∷ es)
  ended_at k is = let whole = linking k in go (link_run k h e w).row is whole
    where
      go : (r : LinkRow) → r ≡ Ended OK → Linking h e es r (link_run k h e w).words → IsChainBothWays (link_run k h e w).words h (e ∷ es)
      go r is l = subst (λ q. IsChainBothWays (link_finished h e q (link_run k h e w).words) h (e ∷ es)) is l.finished

  -- from a row that it has come to to the next
  next : (k : ℕ) (r : LinkRow) → (link_run k h e w).row ≡ r → (link_run (suc k) h e w).row ≡ link_resume h r (answer_on (link_access h e r) (link_run k h e w).words)
  next k r is = ap (λ q. link_resume h q (answer_on (link_access h e q) (link_run k h e w).words)) is

empty : (h e : ℕ) (w : ℕ → ℕ) → IsChainBothWays w h [] → LiesApart h e [] → LinkOf h e [] w
empty h e w c a = record { goes = goes; returns = last; linked = ended_at h e [] w c a 4 last; stays = λ k p _. stays h e [] w c a k p }
  where
    third : (link_run 3 h e w).row ≡ StoreFirst
    third = ap (λ f. link_after_both h f) c.chain.leads ∙ into_empty h

    last : (link_run 4 h e w).row ≡ Ended OK
    last = next h e [] w c a 3 StoreFirst third

    goes : (k : ℕ) → k < 4 → LinkGoes (link_run k h e w).row × IsChain (link_run k h e w).words h []
    goes zero l = goes_at h e [] w c a 0 LoadFirst tt refl
    goes (suc zero) l = goes_at h e [] w c a 1 (StoreNext (w h)) tt refl
    goes (suc (suc zero)) l = goes_at h e [] w c a 2 (StorePrevious (w h)) tt refl
    goes (suc (suc (suc zero))) l = goes_at h e [] w c a 3 StoreFirst tt third
    goes (suc (suc (suc (suc k)))) l = absurd (none_left k 4 (omega arith))

other : (h e x : ℕ) (es : List ℕ) (w : ℕ → ℕ) → IsChainBothWays w h (x ∷ es) → LiesApart h e (x ∷ es) → LinkOf h e (x ∷ es) w
other h e x es w c a = record { goes = goes; returns = last; linked = ended_at h e (x ∷ es) w c a 5 last; stays = λ k p _. stays h e (x ∷ es) w c a k p }
  where
    third : (link_run 3 h e w).row ≡ StoreBehind x
    third = ap (λ f. link_after_both h f) c.chain.leads.0 ∙ into_other h x (λ s. (head-apart h (x ∷ es) c.places).0 (sym s))

    fourth : (link_run 4 h e w).row ≡ StoreFirst
    fourth = next h e (x ∷ es) w c a 3 (StoreBehind x) third

    last : (link_run 5 h e w).row ≡ Ended OK
    last = next h e (x ∷ es) w c a 4 StoreFirst fourth

    goes : (k : ℕ) → k < 5 → LinkGoes (link_run k h e w).row × IsChain (link_run k h e w).words h (x ∷ es)
    goes zero l = goes_at h e (x ∷ es) w c a 0 LoadFirst tt refl
    goes (suc zero) l = goes_at h e (x ∷ es) w c a 1 (StoreNext (w h)) tt refl
    goes (suc (suc zero)) l = goes_at h e (x ∷ es) w c a 2 (StorePrevious (w h)) tt refl
    goes (suc (suc (suc zero))) l = goes_at h e (x ∷ es) w c a 3 (StoreBehind x) tt third
    goes (suc (suc (suc (suc zero)))) l = goes_at h e (x ∷ es) w c a 4 StoreFirst tt fourth
    goes (suc (suc (suc (suc (suc k))))) l = absurd (none_left k 5 (omega arith))

alone : LinksAlone
alone h e [] w c a = empty h e w c a
alone h e (x ∷ es) w c a = other h e x es w c a

pub returns : goal.returns
returns c = alone
