use Rattle.robustlist.proofs.laws.unlinks_alone.Goals as goal
use Rattle.stepprograms.specs.declared.access.Access.TheVariants as access
use Rattle.std.proofs.Common.{◌≡◌, ◌≢◌, inl, inr, ℕ, zero, suc, ◌+◌, ◌<◌, ◌==◌, Bool, true, false, List, [], ◌∷◌}
use Rattle.std.proofs.Common.{arith, refl, sym, ap, ◌∙◌, subst}
use Rattle.std.specs.Prelude.{if◌then◌else◌}
use Rattle.std.proofs.lemmas.Bool.Decides.{nat_tests}
use Rattle.lockword.specs.declared.reply.Reply.TheVariants.{OK}
use Rattle.memorymap.specs.Chains.{previous_place, IsAmong, IsApart, AreDifferent, links_of, IsChain, IsChainBothWays}
use Rattle.memorymap.specs.Chains.{without}
use Rattle.robustlist.specs.declared.unlink.UnlinkRow.{UnlinkRow}
use Rattle.robustlist.specs.declared.unlink.UnlinkRow.TheVariants.{LoadNext, LoadPrevious, StoreNext, StorePrevious}
use Rattle.robustlist.specs.declared.unlink.UnlinkRow.TheVariants.{Ended}
use Rattle.robustlist.specs.Words.{answer_on, after, IsOn}
use Rattle.robustlist.specs.Unlink.{unlink_access, unlink_after_next, unlink_resume, UnlinkGoes}
use Rattle.robustlist.specs.UnlinkLaws.{unlink_list, Unlinking, unlink_run, is_last, unlink_accesses, UnlinkOf}
use Rattle.robustlist.specs.UnlinkLaws.{UnlinksAlone}
use Rattle.robustlist.proofs.Agreement.{by_address, elsewhere}
use Rattle.robustlist.proofs.Places.{avoids, head-apart, links-apart}
use Rattle.robustlist.proofs.Chains.{Chained, chained}
use Rattle.robustlist.proofs.Unlinks.{begins, makes, stores-near}

-- An unlink on words that nobody else writes.

-- after the first store
of_last : (h n p : ℕ) → n ≡ h → unlink_after_next h n p ≡ Ended OK
of_last h n p is = grind (arith, nat_tests)

of_other : (h n p : ℕ) → n ≢ h → unlink_after_next h n p ≡ StorePrevious n p
of_other h n p o = grind (arith, nat_tests)

none_left : (k n : ℕ) → n + k < n → ⊥
none_left k n l = omega arith

-- an entry is the last exactly where its next word leads to the head
different : (x e : ℕ) → e ≢ x → (x == e) ≡ false
different x e o = grind (arith, nat_tests)

same : (x e : ℕ) → e ≡ x → (x == e) ≡ false → ⊥
same x e is f = grind (arith, nat_tests)

not_last : (e : ℕ) (es : List ℕ) → (IsAmong e es → ⊥) → is_last e es ≡ false
not_last e [] o = refl
not_last e (x ∷ []) o = different x e (λ s. o (inl s))
not_last e (x ∷ y ∷ es) o = not_last e (y ∷ es) (λ m. o (inr m))

contrary : (b : Bool) → b ≡ false → b ≡ true → ⊥
contrary b f t = cc

last-leads : (w : ℕ → ℕ) (h at e : ℕ) (es : List ℕ) → Chained w h at es → IsApart h (links_of es) → AreDifferent (links_of es) → IsAmong e es → (is_last e es ≡ true → w e ≡ h) × (is_last e es ≡ false → w e ≢ h)
last-leads w h at e [] c o d m = absurd m
last-leads w h at e (x ∷ []) c o d (inl is) = (λ t. ap w is ∙ c.2, λ f. absurd (same x e is f))
last-leads w h at e (x ∷ []) c o d (inr m) = absurd m
last-leads w h at e (x ∷ y ∷ es) c o d (inl is) = (
  λ t. absurd (contrary (is_last e (y ∷ es)) (not_last e (y ∷ es) (λ m. (avoids x e (y ∷ es) d.0.1 m).0 (sym is))) t),
  λ f s. o.1.1.0 (sym s ∙ ap w is ∙ c.2.0),
)
last-leads w h at e (x ∷ y ∷ es) c o d (inr m) = last-leads w h x e (y ∷ es) c.2 o.1.1 d.1.1 m

-- an access writes no word but those of the list without the entry
spares : (h e : ℕ) (es : List ℕ) (r : UnlinkRow) (w : ℕ → ℕ) → Unlinking h e es r w → (q : ℕ) → (IsOn h (without e es) q → ⊥) → after (unlink_access h e r) w q ≡ w q
spares h e es LoadNext w k q o = by_address q e (w q)
spares h e es (LoadPrevious n) w k q o = by_address q (previous_place e) (w q)
spares h e es (StoreNext n p) w k q o = elsewhere (access.Store p n) w q (λ s. o (subst (λ x. IsOn h (without e es) x) (sym s) (stores-near h e n p es w k)))
spares h e es (StorePrevious n p) w k q o = elsewhere (access.Store (previous_place n) p) w q (λ s. o (inr (n, k.knows.1, inr s)))
spares h e es (Ended x) w k q o = by_address q h (w q)

module _ (h e : ℕ) (es : List ℕ) (w : ℕ → ℕ) (c : IsChainBothWays w h es) (m : IsAmong e es) where
  unlinking : (k : ℕ) → Unlinking h e es (unlink_run k h e w).row (unlink_run k h e w).words
  unlinking zero = begins h e es w c m
  unlinking (suc k) = makes h e es (unlink_run k h e w).row (unlink_run k h e w).words (unlinking k)

  stays : (k q : ℕ) → (IsOn h (without e es) q → ⊥) → (unlink_run k h e w).words q ≡ w q
  stays zero q o = refl
  stays (suc k) q o = spares h e es (unlink_run k h e w).row (unlink_run k h e w).words (unlinking k) q o ∙ stays k q o

  before : (k : ℕ) → k < 3 → IsChain (unlink_run k h e w).words h es
  before zero l = (unlinking 0).chain
  before (suc zero) l = (unlinking 1).chain
  before (suc (suc zero)) l = (unlinking 2).chain
  before (suc (suc (suc k))) l = absurd (none_left k 3 (omega arith))

  -- at a row that it has come to
  goes_at : (k : ℕ) (r : UnlinkRow) → UnlinkGoes r → (unlink_run k h e w).row ≡ r → UnlinkGoes (unlink_run k h e w).row
  goes_at k r g is = subst UnlinkGoes (sym is) g

  list_at : (k : ℕ) (r : UnlinkRow) → (unlink_run k h e w).row ≡ r → unlink_list e es r ≡ without e es → IsChain (unlink_run k h e w).words h (without e es)
  list_at k r is l = subst (λ x. IsChain (unlink_run k h e w).words h x) (ap (unlink_list e es) is ∙ l) (unlinking k).chain

  ended_at : (k : ℕ) → (unlink_run k h e w).row ≡ Ended OK → IsChainBothWays (unlink_run k h e w).words h (without e es)
  ended_at k is = (subst (λ r. Unlinking h e es r (unlink_run k h e w).words) is (unlinking k)).knows.0

  next : (k : ℕ) (r : UnlinkRow) → (unlink_run k h e w).row ≡ r → (unlink_run (suc k) h e w).row ≡ unlink_resume h r (answer_on (unlink_access h e r) (unlink_run k h e w).words)
  next k r is = ap (λ q. unlink_resume h q (answer_on (unlink_access h e q) (unlink_run k h e w).words)) is

  goes3 : (k : ℕ) → k < 3 → UnlinkGoes (unlink_run k h e w).row
  goes3 zero l = tt
  goes3 (suc zero) l = tt
  goes3 (suc (suc zero)) l = tt
  goes3 (suc (suc (suc k))) l = absurd (none_left k 3 (omega arith))

of_the_last : (h e : ℕ) (es : List ℕ) (w : ℕ → ℕ) → IsChainBothWays w h es → IsAmong e es → w e ≡ h → unlink_accesses e es ≡ 3 → UnlinkOf h e es w
of_the_last h e es w c m is n = record {
  goes = λ k l. goes3 h e es w c m k (subst (λ x. k < x) n l);
  before = before h e es w c m;
  since = list_at h e es w c m 3 (Ended OK) last refl;
  returns = subst (λ x. (unlink_run x h e w).row ≡ Ended OK) (sym n) last;
  unlinked = subst (λ x. IsChainBothWays (unlink_run x h e w).words h (without e es)) (sym n) (ended_at h e es w c m 3 last);
  stays = λ k q _. stays h e es w c m k q;
}
  where
    last : (unlink_run 3 h e w).row ≡ Ended OK
    last = of_last h (w e) ((unlink_run 1 h e w).words (previous_place e)) is

of_another : (h e : ℕ) (es : List ℕ) (w : ℕ → ℕ) → IsChainBothWays w h es → IsAmong e es → w e ≢ h → unlink_accesses e es ≡ 4 → UnlinkOf h e es w
of_another h e es w c m o n = record {
  goes = λ k l. goes k (subst (λ x. k < x) n l);
  before = before h e es w c m;
  since = list_at h e es w c m 3 (StorePrevious (w e) ((unlink_run 1 h e w).words (previous_place e))) third refl;
  returns = subst (λ x. (unlink_run x h e w).row ≡ Ended OK) (sym n) last;
  unlinked = subst (λ x. IsChainBothWays (unlink_run x h e w).words h (without e es)) (sym n) (ended_at h e es w c m 4 last);
  stays = λ k q _. stays h e es w c m k q;
}
  where
    third : (unlink_run 3 h e w).row ≡ StorePrevious (w e) ((unlink_run 1 h e w).words (previous_place e))
    third = of_other h (w e) ((unlink_run 1 h e w).words (previous_place e)) o

    last : (unlink_run 4 h e w).row ≡ Ended OK
    last = next h e es w c m 3 (StorePrevious (w e) ((unlink_run 1 h e w).words (previous_place e))) third

    goes : (k : ℕ) → k < 4 → UnlinkGoes (unlink_run k h e w).row
    goes zero l = tt
    goes (suc zero) l = tt
    goes (suc (suc zero)) l = tt
    goes (suc (suc (suc zero))) l = goes_at h e es w c m 3 (StorePrevious (w e) ((unlink_run 1 h e w).words (previous_place e))) tt third
    goes (suc (suc (suc (suc k)))) l = absurd (none_left k 4 (omega arith))

alone : UnlinksAlone
alone h e es w c m = go (is_last e es) refl
  where
    leads : (is_last e es ≡ true → w e ≡ h) × (is_last e es ≡ false → w e ≢ h)
    leads = last-leads w h h e es (chained w h es c) (head-apart h es c.places) (links-apart h es c.places) m

    go : (b : Bool) → is_last e es ≡ b → UnlinkOf h e es w
    go true is = of_the_last h e es w c m (leads.0 is) (ap (λ (b : Bool). if b then 3 else 4) is)
    go false is = of_another h e es w c m (leads.1 is) (ap (λ (b : Bool). if b then 3 else 4) is)

pub returns : goal.returns
returns c = alone
