-- Where each access of a walk leads, and what is left to walk then.
use Rattle.std.proofs.Common.{◌≡◌, ◌≢◌, ◌⊎◌, inl, inr, ⊎_elim, ℕ, suc, ◌+◌, ◌<◌, ◌≤◌, ◌==◌, Bool, true, false, ◌&&◌, Option, Some, None, List, [], ◌∷◌, length, refl, sym, ap, ◌∙◌, subst, arith, eqb-true}
use Rattle.protocol.proofs.Vocabulary.{Rest, Part, LoadFirst, LoadOffset, LoadPending, LoadNext, LoadWord, Mark, WakeOne, sum_of, Object, AreDifferent, Leads, IsLayout}
use Rattle.protocol.proofs.Vocabulary.{entry_place, address_sum, owner_of, fields_of, State, seen, if◌then◌else◌, eqb-false, ◌||◌, apart-among}
use Rattle.memorymap.specs.Chains.{IsAmong}
use Rattle.exitwalk.specs.declared.row.Row.{Row}
use Rattle.exitwalk.specs.declared.row.Row.TheVariants.{Ended}
use Rattle.exitwalk.specs.Words.{has_waiters}
use Rattle.exitwalk.specs.Walks.{Knows, is_pending, to_pending, forward, goes_on, further, after_next, looks}
use Rattle.protocol.proofs.Seeing.{head_in, entry_in, not_null, cell_before}
use Rattle.mutex.proofs.Addresses.{same_entry}
use Rattle.protocol.proofs.Kept.{LeftOf, LeftIn, Treats, LeftToWalk, view_of}
use Rattle.protocol.proofs.Places.{treated_at}
use Rattle.protocol.proofs.Steps.{seen-inside}

-- it owns nothing
abbrev pub OwnsNothing : State → ℕ → Type 0
OwnsNothing s t = (k : ℕ) → k < s.layout.mutexes → (seen s k).owner ≢ Some t

-- the walk has ended, and nothing is owned; or it is where it should be
abbrev pub Arrived : State → ℕ → Row → Type 0
Arrived s t Ended = OwnsNothing s t
Arrived s t LoadFirst = LeftToWalk s t LoadFirst
Arrived s t (LoadOffset f) = LeftToWalk s t (LoadOffset f)
Arrived s t (LoadPending f o) = LeftToWalk s t (LoadPending f o)
Arrived s t (LoadNext r) = LeftToWalk s t (LoadNext r)
Arrived s t (LoadWord at rest) = LeftToWalk s t (LoadWord at rest)
Arrived s t (Mark at v again rest) = LeftToWalk s t (Mark at v again rest)
Arrived s t (WakeOne at rest) = LeftToWalk s t (WakeOne at rest)

some_same : (i j : ℕ) → Some i ≡ Some j → j ≡ i
some_same i j e = cc

module _ (s : State) (t : ℕ) (layout : IsLayout s.layout) (pos : 1 ≤ t) (known : t ≤ s.layout.threads) where
  abbrev h : ℕ
  h = head_in s.layout t

  -- after the list
  to_pending_arrives : (p : ℕ) → ((p ≡ 0) ⊎ (k : ℕ) × (k < s.layout.mutexes) × (p ≡ entry_in s.layout t k)) → ((k : ℕ) → k < s.layout.mutexes → (seen s k).owner ≡ Some t → p ≡ entry_in s.layout t k) → Arrived s t (to_pending 18446744073709551615 p)
  to_pending_arrives p (inl none) owned = subst (Arrived s t) (sym (ap (to_pending 18446744073709551615) none)) (λ k below own. not_null s.layout t layout pos known (entry_place s.layout k) (omega arith) (omega arith) (sym (owned k below own) ∙ none))
  to_pending_arrives p (inr (k, below, is)) owned = go (p == 0) refl
    where
      treats : Treats s t (address_sum p 18446744073709551615) k
      treats = (below, ap (λ (e : ℕ). address_sum e 18446744073709551615) is ∙ cell_before s.layout t layout pos known k below)

      go : (b : Bool) → (p == 0) ≡ b → Arrived s t (if b then Ended else LoadWord (address_sum p 18446744073709551615) Part.Pending)
      go true e = absurd (not_null s.layout t layout pos known (entry_place s.layout k) (omega arith) (omega arith) (sym is ∙ eqb-true p 0 e))
      go false e = (k, treats, λ j inside own. ap Some (same_entry s.layout t layout pos known k j below inside (sym is ∙ owned j inside own)))

  -- the next entry, or after the list
  pub forward_arrives : (r : Rest) → LeftOf s t r None → Arrived s t (forward h r)
  forward_arrives r (es, l, offset, few) = go (r.entry == h) refl (r.loaded == 2048) refl
    where
      owned_then : es ≡ [] → (k : ℕ) → k < s.layout.mutexes → (seen s k).owner ≡ Some t → r.pending ≡ entry_in s.layout t k
      owned_then none k below own = ⊎_elim (λ among. absurd (subst (IsAmong (entry_in s.layout t k)) none among)) (λ rest. ⊎_elim (λ is. is) (λ no_one. absurd (cc no_one)) rest) (l.all k below own)

      behind : es ≡ [] → Arrived s t (to_pending r.offset r.pending)
      behind none = subst (λ (o : ℕ). Arrived s t (to_pending o r.pending)) (sym offset) (to_pending_arrives r.pending l.pending (owned_then none))

      at_head : r.entry ≡ h → (ds : List ℕ) → es ≡ ds → es ≡ []
      at_head is [] same = same
      at_head is (x ∷ xs) same =
          let leads : Leads (view_of s t) h r.entry (x ∷ xs) = subst (Leads (view_of s t) h r.entry) same l.leads in
          let different : AreDifferent (h ∷ (x ∷ xs)) = subst (λ (ds : List ℕ). AreDifferent (h ∷ ds)) same l.different in
          absurd (different.0.0 (sym is ∙ leads.0))

      full : r.loaded ≡ 2048 → (ds : List ℕ) → es ≡ ds → es ≡ []
      full is [] same = same
      full is (x ∷ xs) same = absurd (let size : length es ≡ suc (length xs) = ap length same in omega arith)

      go : (a : Bool) → (r.entry == h) ≡ a → (b : Bool) → (r.loaded == 2048) ≡ b → Arrived s t (if a || b then to_pending r.offset r.pending else LoadNext r)
      go true e b x = behind (at_head (eqb-true r.entry h e) es refl)
      go false e true x = behind (full (eqb-true r.loaded 2048 x) es refl)
      go false e false x = (es, l, offset, few)

  -- from an entry: it is skipped where it is pending, and else its cell comes next
  pub next_arrives : (r : Rest) → Knows t h (LoadNext r) → LeftOf s t r None → Arrived s t (after_next h r (view_of s t r.entry))
  next_arrives r knows (es, l, offset, few) = at es refl
    where
      at : (ds : List ℕ) → es ≡ ds → Arrived s t (after_next h r (view_of s t r.entry))
      at [] same = absurd (eqb-false r.entry h knows.0 (subst (Leads (view_of s t) h r.entry) same l.leads))
      at (x ∷ xs) same = go (r.entry == r.pending) refl
        where
          leads : Leads (view_of s t) h r.entry (x ∷ xs)
          leads = subst (Leads (view_of s t) h r.entry) same l.leads

          different : AreDifferent (h ∷ (x ∷ xs))
          different = subst (λ (ds : List ℕ). AreDifferent (h ∷ ds)) same l.different

          size : length xs + (r.loaded + 1) ≤ 2048
          size = let long : length es ≡ suc (length xs) = ap length same in omega arith

          first : (k : ℕ) × (k < s.layout.mutexes) × (x ≡ entry_in s.layout t k) × ((seen s k).owner ≡ Some t) × (None ≢ Some k)
          first = l.entries x (subst (IsAmong x) (sym same) (inl refl))

          later : (y : ℕ) → IsAmong y xs → (k : ℕ) × (k < s.layout.mutexes) × (y ≡ entry_in s.layout t k) × ((seen s k).owner ≡ Some t) × (None ≢ Some k)
          later y among = l.entries y (subst (IsAmong y) (sym same) (inr among))

          next_leads : Leads (view_of s t) h (view_of s t r.entry) xs
          next_leads = subst (λ (e : ℕ). Leads (view_of s t) h (view_of s t e) xs) (sym leads.0) leads.1

          -- after that entry, which is pending, or is treated now
          rest_left : (out : Option ℕ) → ((k : ℕ) → k < s.layout.mutexes → entry_in s.layout t k ≡ x → (r.pending ≡ entry_in s.layout t k) ⊎ (out ≡ Some k)) → ((y : ℕ) → IsAmong y xs → (k : ℕ) → y ≡ entry_in s.layout t k → out ≢ Some k) → LeftOf s t (further r (view_of s t r.entry)) out
          rest_left out of_first apart = (
            xs,
            record {
              leads = next_leads;
              different = (different.0.1, different.1.1);
              entries = λ y among. let k = later y among in (k.0, k.1, k.2, k.3, apart y among k.0 k.2);
              all = λ k below own. ⊎_elim
                  (λ among. listed k below (subst (IsAmong (entry_in s.layout t k)) same among))
                  (λ rest. inr (⊎_elim inl (λ no_one. absurd (cc no_one)) rest))
                  (l.all k below own);
              pending = l.pending;
            },
            offset,
            size,
          )
            where
              listed : (k : ℕ) → k < s.layout.mutexes → (entry_in s.layout t k ≡ x) ⊎ IsAmong (entry_in s.layout t k) xs → IsAmong (entry_in s.layout t k) xs ⊎ ((r.pending ≡ entry_in s.layout t k) ⊎ (out ≡ Some k))
              listed k below (inl here) = inr (of_first k below here)
              listed k below (inr among) = inl among

          go : (b : Bool) → (r.entry == r.pending) ≡ b → Arrived s t (if b then forward h (further r (view_of s t r.entry)) else LoadWord (sum_of r.entry r.offset) (Part.List (further r (view_of s t r.entry))))
          go true e = forward_arrives (further r (view_of s t r.entry)) (rest_left None (λ k below here. inl (sym (eqb-true r.entry r.pending e) ∙ leads.0 ∙ sym here)) (λ y among k place none. cc none))
          go false e = (
            first.0,
            (first.1, ap (λ (o : ℕ). sum_of r.entry o) offset ∙ ap (λ (x : ℕ). sum_of x 18446744073709551615) (leads.0 ∙ first.2) ∙ cell_before s.layout t layout pos known first.0 first.1),
            rest_left (Some first.0)
                (λ k below here. inr (ap Some (same_entry s.layout t layout pos known first.0 k first.1 below (sym first.2 ∙ sym here))))
                (λ y among k place is. apart-among x y xs different.1.0 among (first.2 ∙ ap (entry_in s.layout t) (sym (some_same first.0 k is)) ∙ sym place)),
          )

  -- a mutex that isn't t's (any more) needs no treatment
  untreated : (r : Rest) (k : ℕ) → (seen s k).owner ≢ Some t → LeftOf s t r (Some k) → LeftOf s t r None
  untreated r k not_own (es, l, offset, few) = (
    es,
    record {
      leads = l.leads;
      different = l.different;
      entries = λ y among. let j = l.entries y among in (j.0, j.1, j.2, j.3, λ e. cc e);
      all = λ j below own. ⊎_elim inl (λ rest. inr (⊎_elim inl (λ is. absurd (not_own (ap (λ (i : ℕ). (seen s i).owner) (sym (some_same k j is)) ∙ own))) rest)) (l.all j below own);
      pending = l.pending;
    },
    offset,
    few,
  )

  -- then the walk goes on
  pub goes_on_arrives : (rest : Part) → LeftIn s t rest None → Arrived s t (goes_on h rest)
  goes_on_arrives (Part.List r) l = forward_arrives r l
  goes_on_arrives Part.Pending l = λ k below own. cc (l k below own)

  pub passes : (rest : Part) (k : ℕ) → (seen s k).owner ≢ Some t → LeftIn s t rest (Some k) → LeftIn s t rest None
  passes (Part.List r) k not_own l = untreated r k not_own l
  passes Part.Pending k not_own l = λ j below own. absurd (not_own (ap (λ (i : ℕ). (seen s i).owner) (sym (some_same k j (l j below own))) ∙ own))

  -- a word is looked at
  pub looks_arrives : (at k : ℕ) (again : Bool) (rest : Part) → Treats s t at k → LeftIn s t rest (Some k) → (again ≡ true → has_waiters (view_of s t at) ≡ true) → Arrived s t (looks t h at (view_of s t at) again rest)
  looks_arrives at k again rest treats l waits = go (is_pending rest && ((fields_of (view_of s t at)).owner == 0)) refl ((fields_of (view_of s t at)).owner == t) refl
    where
      owner_is : (seen s k).owner ≡ owner_of (fields_of (view_of s t at)).owner
      owner_is = ap (λ (o : Object). o.owner) (seen-inside s k treats.0) ∙ ap (λ (x : ℕ). owner_of (fields_of (s.words x)).owner) (sym (treated_at s t layout pos known at k treats))

      not_owned : (fields_of (view_of s t at)).owner ≢ t → (seen s k).owner ≢ Some t
      not_owned apart own = grind (arith)

      free_then : (a : Bool) → (is_pending rest && ((fields_of (view_of s t at)).owner == 0)) ≡ true → (fields_of (view_of s t at)).owner ≡ 0
      free_then a e = both (is_pending rest) ((fields_of (view_of s t at)).owner == 0) refl e
        where
          both : (x y : Bool) → ((fields_of (view_of s t at)).owner == 0) ≡ y → (x && y) ≡ true → (fields_of (view_of s t at)).owner ≡ 0
          both true true z e = eqb-true (fields_of (view_of s t at)).owner 0 z
          both true false z e = absurd cc
          both false y z e = absurd cc

      go : (a : Bool) → (is_pending rest && ((fields_of (view_of s t at)).owner == 0)) ≡ a → (b : Bool) → ((fields_of (view_of s t at)).owner == t) ≡ b → Arrived s t (if a then WakeOne at rest else if b then Mark at (view_of s t at) again rest else goes_on h rest)
      go true e b x = (k, treats, passes rest k (not_owned (λ is. let free = free_then true e in omega (arith, is, free))) l)
      go false e true x = (k, treats, l, record { stays = inl refl; set = waits })
      go false e false x = goes_on_arrives rest (passes rest k (not_owned (eqb-false (fields_of (view_of s t at)).owner t x)) l)
