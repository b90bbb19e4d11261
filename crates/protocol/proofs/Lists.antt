-- The list of each thread.
use Rattle.std.proofs.Common.{◌≡◌, ◌≢◌, ◌⊎◌, inl, inr, ⊎_elim, ℕ, zero, suc, ◌+◌, ◌<◌, ◌≤◌, true, Option, Some, None, List, [], ◌∷◌, length, refl, sym, ap, ◌∙◌, subst, arith}
use Rattle.protocol.proofs.Vocabulary.{CondPhase, Object, AreDifferent, Layout', head_place, held_by, Load, Release, Phase, AtCell, Linking, Clearing, Whole, Op, Leads}
use Rattle.protocol.proofs.Vocabulary.{mutex_of, Stage, Idle, Calling, AtCondition, Dying, Reaped, State, is_alive, seen, OnCondition, UnlinkRow, LinkGoes, LinkRow, IsLayout}
use Rattle.protocol.proofs.Vocabulary.{entries-different, without-among, WaitRow, CondRow}
use Rattle.memorymap.specs.Chains.{IsAmong, IsChain, without}
use Rattle.memorymap.proofs.Entries.{length_without, different_without, is_there}
use Rattle.robustlist.specs.LinkLaws as link_laws
use Rattle.robustlist.specs.UnlinkLaws as unlink_laws
use Rattle.mutex.specs.declared.unlock.UnlockRow.TheVariants.{Wake, Trim}
use Rattle.mutex.specs.declared.row.Row.TheVariants as row
use Rattle.mutex.specs.declared.phase.Phase.TheVariants.{Announcing, Unlinking, Ended}
use Rattle.protocol.specs.Lists.{HasList}
use Rattle.protocol.proofs.Objects.{one, one-own}
use Rattle.protocol.proofs.Kept.{left_out_at, ChainedAt, pending_at, InPhase, left_out_in, Owned, ChainedIn, Listed, pending_in, PendsAs, LeftFrom, Kept, view_of}
use Rattle.mutex.proofs.OwnPlaces.{among_without, without_is_apart}
use Rattle.protocol.proofs.Accesses.{fits_in}
use Rattle.protocol.proofs.CondAccesses.{fits_at}
use Rattle.protocol.proofs.Cases.{by_same, some_same}
use Rattle.protocol.proofs.Seeing.{head_in, entry_in, head_again}
use Rattle.mutex.proofs.Addresses.{same_entry}

-- ---- a list is no longer than its thread owns mutexes

module _ (l : Layout') (t : ℕ) (is : IsLayout l) (pos : 1 ≤ t) (known : t ≤ l.threads) (f : ℕ → Object) where
  pub no_longer : (n : ℕ) (es : List ℕ) → n ≤ l.mutexes → AreDifferent es → ((e : ℕ) → IsAmong e es → (k : ℕ) × (k < n) × (e ≡ entry_in l t k) × ((f k).owner ≡ Some t)) → length es ≤ held_by t f n
  no_longer zero [] within different each = omega arith
  no_longer zero (x ∷ xs) within different each = absurd (let k = each x (inl refl) in let below = k.1 in omega arith)
  no_longer (suc n) es within different each = go (is_there (entry_in l t n) es) (λ ds. no_longer n ds (omega arith))
    where
      go : IsAmong (entry_in l t n) es ⊎ (IsAmong (entry_in l t n) es → ⊥) → ((ds : List ℕ) → AreDifferent ds → ((e : ℕ) → IsAmong e ds → (k : ℕ) × (k < n) × (e ≡ entry_in l t k) × ((f k).owner ≡ Some t)) → length ds ≤ held_by t f n) → length es ≤ held_by t f (suc n)
      go (inl there) shorter =
          let own = each (entry_in l t n) there in
          let at : own.0 ≡ n = same_entry l t is pos known own.0 n (let below = own.1 in omega (arith, below)) (omega arith) (sym own.2) in
          let counts : one t (f n) ≡ 1 = one-own t (f n) (sym (ap (λ (k : ℕ). (f k).owner) at) ∙ own.3) in
          let rest = shorter (without (entry_in l t n) es) (different_without (entry_in l t n) es different) (λ e among.
          let k = each e (without-among (entry_in l t n) e es among) in
          let apart = without_is_apart (entry_in l t n) e es different among in
          (k.0, (let below = k.1 in let place = k.2 in let other : k.0 ≢ n = λ is. apart (place ∙ ap (entry_in l t) is) in omega arith), k.2, k.3)) in
          let size = length_without (entry_in l t n) es there in
          omega arith
      go (inr none) shorter =
          let rest = shorter es different (λ e among.
          let k = each e among in
          (k.0, (let below = k.1 in let other : k.0 ≢ n = λ is. none (subst (λ (x : ℕ). IsAmong x es) (k.2 ∙ ap (entry_in l t) is) among) in omega arith), k.2, k.3)) in
          omega arith

-- ---- what the words lead over

-- of a link that goes on, the old list
link_leads : (h e : ℕ) (es : List ℕ) (r : LinkRow) (w : ℕ → ℕ) → LinkGoes r → link_laws.Linking h e es r w → IsChain w h es
link_leads h e es r w going ch = grind (arith)

-- of an unlink, the old list or the one without the entry
unlink_leads : (h e : ℕ) (es : List ℕ) (r : UnlinkRow) (w : ℕ → ℕ) → unlink_laws.Unlinking h e es r w → IsChain w h es ⊎ IsChain w h (without e es)
unlink_leads h e es r w ch = grind (arith)

module _ (s : State) (t : ℕ) (inv : Kept s) (first : 1 ≤ t) (most : t ≤ s.layout.threads) where
  -- the entries of a list that leaves out at most the pending one
  finds : (es : List ℕ) (out : Option ℕ) → IsChain (view_of s t) (head_in s.layout t) es → Owned s t out es → ((m : ℕ) → m < s.layout.mutexes → out ≡ Some m → s.words (head_place t + 2) ≡ entry_in s.layout t m) → HasList s t
  finds es out chain owned pends = record {
    entries = es;
    chain = chain;
    few = let short = no_longer s.layout t inv.layout first most (seen s) s.layout.mutexes es (omega arith) chain.different.1 (λ e among. let x = owned.entries e among in (x.0, x.1, x.2, x.3)) in let holds = inv.held t first most in let less = (inv.heads t first most).few in omega arith;
    owned = λ e among. let x = owned.entries e among in (x.0, x.1, x.2, x.3);
    all = λ m inside own. left out refl m inside own;
    offset = (inv.heads t first most).offset;
  }
    where
      left : (o : Option ℕ) → out ≡ o → (m : ℕ) → m < s.layout.mutexes → (seen s m).owner ≡ Some t → IsAmong (entry_in s.layout t m) es ⊎ (s.words (head_place t + 2) ≡ entry_in s.layout t m)
      left None is m inside own = inl (owned.all m inside own (λ e. cc (is, e)))
      left (Some k) is m inside own = by_same k m (λ e. inr (pends m inside (is ∙ ap Some e))) (λ other. inl (owned.all m inside own (λ same. other (some_same k m (sym is ∙ same)))))

  -- a call that leaves out none
  none_left : (es : List ℕ) → IsChain (view_of s t) (head_in s.layout t) es → Owned s t None es → HasList s t
  none_left es chain owned = finds es None chain owned (λ m inside e. absurd (cc e))

  -- a thread whose entry is about to leave its list
  in_unlink : (m e : ℕ) (es : List ℕ) (r : UnlinkRow) → m < s.layout.mutexes → e ≡ entry_in s.layout t m → s.words (head_place t + 2) ≡ e → Owned s t None es → unlink_laws.Unlinking (head_in s.layout t) e es r (view_of s t) → HasList s t
  in_unlink m e es r inside entry pends owned ch = go (unlink_leads (head_in s.layout t) e es r (view_of s t) ch)
    where
      go : IsChain (view_of s t) (head_in s.layout t) es ⊎ IsChain (view_of s t) (head_in s.layout t) (without e es) → HasList s t
      go (inl chain) = none_left es chain owned
      go (inr chain) = finds (without e es) (Some m) chain
          record {
            entries = λ x among. let k = owned.entries x (without-among e x es among) in
                (k.0, k.1, k.2, k.3, λ same. without_is_apart e x es (entries-different (head_in s.layout t) es ch.places).1 among (k.2 ∙ ap (entry_in s.layout t) (sym (some_same m k.0 same)) ∙ sym entry));
            all = λ k below own outside. among_without e (entry_in s.layout t k) es (owned.all k below own (λ x. cc x)) (λ same. outside (ap Some (sym (same_entry s.layout t inv.layout first most k m below inside (same ∙ entry)))));
          }
          (λ k below x. pends ∙ entry ∙ ap (entry_in s.layout t) (some_same m k x))

  -- a call on a condition variable
  in_condition : (m e : ℕ) (f : CondPhase) → m < s.layout.mutexes → e ≡ entry_in s.layout t m → s.words (head_place t + 2) ≡ pending_at e f → (es : List ℕ) → Owned s t (left_out_at m f) es → ChainedAt (view_of s t) (head_in s.layout t) e es f → HasList s t
  in_condition m e (CondPhase.AtWords (CondRow.Wait (WaitRow.Release x))) inside entry pends es owned ch = finds es (Some m) ch.chain owned (λ k inside is. pends ∙ entry ∙ ap (entry_in s.layout t) (some_same m k is))
  in_condition m e (CondPhase.AtWords (CondRow.Wait WaitRow.LoadCell)) inside entry pends es owned ch = none_left es ch.chain owned
  in_condition m e (CondPhase.AtWords (CondRow.Wait WaitRow.LoadCounter)) inside entry pends es owned ch = none_left es ch.chain owned
  in_condition m e (CondPhase.AtWords (CondRow.Wait (WaitRow.Wake x))) inside entry pends es owned ch = none_left es ch.chain owned
  in_condition m e (CondPhase.AtWords (CondRow.Wait (WaitRow.Sleep x))) inside entry pends es owned ch = none_left es ch.chain owned
  in_condition m e (CondPhase.AtWords (CondRow.Signal r)) inside entry pends es owned ch = none_left es ch.chain owned
  in_condition m e (CondPhase.AtWords (CondRow.Broadcast r)) inside entry pends es owned ch = none_left es ch.chain owned
  in_condition m e (CondPhase.AtWords CondRow.Awake) inside entry pends es owned ch = none_left es ch.chain owned
  in_condition m e (CondPhase.AtWords (CondRow.Ended x)) inside entry pends es owned ch = none_left es ch.chain owned
  in_condition m e (CondPhase.Announcing x) inside entry pends es owned ch = none_left es ch.chain owned
  in_condition m e (CondPhase.Unlinking u x) inside entry pends es owned ch = in_unlink m e es u.row inside entry pends owned ch
  in_condition m e (CondPhase.Locking w) inside entry pends es owned ch = none_left es ch.chain owned
  in_condition m e (CondPhase.Ended x) inside entry pends es owned ch = none_left es ch.chain owned

  in_call : (c : Op) (p : Whole) (f : Phase) → mutex_of s.layout c < s.layout.mutexes → InPhase t (s.threads t).held p f (seen s (mutex_of s.layout c)) → p.entry ≡ entry_in s.layout t (mutex_of s.layout c) → s.words (head_place t + 2) ≡ pending_in p.entry f
      → (es : List ℕ) → Owned s t (left_out_in (mutex_of s.layout c) f) es → ChainedIn (view_of s t) (head_in s.layout t) p.entry es f → HasList s t
  in_call c p (Announcing r) inside stands entry pends es owned ch = none_left es ch.chain owned
  in_call c p (AtCell (row.Unlock (Release d))) inside stands entry pends es owned ch = finds es (Some (mutex_of s.layout c)) ch.chain owned (λ m below e. pends ∙ entry ∙ ap (entry_in s.layout t) (some_same (mutex_of s.layout c) m e))
  in_call c p (AtCell (row.Unlock Load)) inside stands entry pends es owned ch = none_left es ch.chain owned
  in_call c p (AtCell (row.Unlock (Wake a))) inside stands entry pends es owned ch = none_left es ch.chain owned
  in_call c p (AtCell (row.Unlock Trim)) inside stands entry pends es owned ch = none_left es ch.chain owned
  in_call c p (AtCell (row.Lock r)) inside stands entry pends es owned ch = none_left es ch.chain owned
  in_call c p (AtCell (row.TryLock r)) inside stands entry pends es owned ch = none_left es ch.chain owned
  in_call c p (AtCell (row.Consistent r)) inside stands entry pends es owned ch = none_left es ch.chain owned
  in_call c p (AtCell (row.Ended x)) inside stands entry pends es owned ch = none_left es ch.chain owned
  in_call c p (Linking l x) inside stands entry pends es owned ch = finds es (Some (mutex_of s.layout c)) (link_leads (head_in s.layout t) p.entry es l.row (view_of s t) stands.2 ch) owned (λ m below e. pends ∙ entry ∙ ap (entry_in s.layout t) (some_same (mutex_of s.layout c) m e))
  in_call c p (Unlinking u d) inside stands entry pends es owned ch = in_unlink (mutex_of s.layout c) p.entry es u.row inside entry pends owned ch
  in_call c p (Clearing x) inside stands entry pends es owned ch = none_left es ch.chain owned
  in_call c p (Ended x) inside stands entry pends es owned ch = absurd stands

  -- of a thread that lives
  pub has_list : is_alive (s.threads t).stage ≡ true → HasList s t
  has_list alive = go (s.threads t).stage refl alive (inv.listed t first most)
    where
      go : (g : Stage) → (s.threads t).stage ≡ g → is_alive g ≡ true → Listed s t (s.threads t).stage → HasList s t
      go Idle is alive listed = let there : Listed s t Idle = subst (Listed s t) is listed in none_left there.0 there.2.chain there.1
      go (Calling c p) is alive listed =
          let there : Listed s t (Calling c p) = subst (Listed s t) is listed in
          let fits = fits_in s t c p inv first most is in
          in_call c p p.phase fits.0.inside fits.0.stands fits.0.entry (subst (PendsAs (s.words (head_place t + 2))) is (inv.heads t first most).pending) there.0 there.1 there.2
      go (AtCondition c p) is alive listed =
          let there : Listed s t (AtCondition c p) = subst (Listed s t) is listed in
          let fits = fits_at s t c p inv first most is in
          in_condition (mutex_of s.layout (OnCondition c)) p.entry p.phase fits.inside fits.entry (subst (PendsAs (s.words (head_place t + 2))) is (inv.heads t first most).pending) there.0 there.1 there.2
      go (Dying w) is alive listed = absurd cc
      go Reaped is alive listed = absurd cc

  pending_word : is_alive (s.threads t).stage ≡ true → (s.words (head_place t + 2) ≡ 0) ⊎ ((k : ℕ) × (k < s.layout.mutexes) × (s.words (head_place t + 2) ≡ entry_in s.layout t k))
  pending_word alive = grind (arith)

  -- what the walk will find, were it to die now
  pub left_from : is_alive (s.threads t).stage ≡ true → LeftFrom s t (s.words (head_place t))
  left_from alive =
      let found = has_list alive in (
        found.entries,
        record {
          leads = subst (λ (p : ℕ). Leads (view_of s t) (head_in s.layout t) (s.words p) found.entries) (head_again s.layout t inv.layout first most) found.chain.leads;
          different = found.chain.different;
          entries = λ x among. let k = found.owned x among in (k.0, k.1, k.2, k.3, λ e. cc e);
          all = λ k below own. ⊎_elim inl (λ pends. inr (inl pends)) (found.all k below own);
          pending = pending_word alive;
        },
        found.few,
      )
