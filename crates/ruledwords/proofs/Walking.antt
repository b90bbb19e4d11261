-- Where each access of a dead thread's walk leads, and what is left to walk then.
use Rattle.std.proofs.Common.{◌≡◌, ◌≢◌, ◌⊎◌, inl, inr, ⊎_elim, ℕ, suc, ◌+◌, ◌<◌, ◌≤◌, ◌==◌, ◌||◌, ◌&&◌, Bool, true, false, Option, Some, None, List, [], ◌∷◌, length, refl, sym, ap, ◌∙◌, subst, arith, eqb-true}
use Rattle.std.specs.Prelude.{if◌then◌else◌}
use Rattle.std.proofs.lemmas.Bool.{eqb-false}
use Rattle.lockword.specs.Cells.{fields_of}
use Rattle.memorymap.specs.Chains.{IsAmong, AreDifferent, Leads, address_sum}
use Rattle.memorymap.specs.Layouts.{Layout', IsLayout, entry_place, cell_place, cell_offset, words_of, address_in}
use Rattle.robustlist.proofs.Chains.{leads-same}
use Rattle.robustlist.proofs.Places.{apart-among}
use Rattle.exitwalk.specs.declared.row.Part.{Part}
use Rattle.exitwalk.specs.declared.row.Part.TheVariants as part
use Rattle.exitwalk.specs.declared.row.Rest.{Rest}
use Rattle.exitwalk.specs.declared.row.Row.{Row}
use Rattle.exitwalk.specs.declared.row.Row.TheVariants.{LoadNext, LoadWord, Mark, WakeOne, Ended}
use Rattle.exitwalk.specs.Words.{sum_of}
use Rattle.exitwalk.specs.Walks.{Knows, is_pending, to_pending, forward, goes_on, further, after_next, looks}
use Rattle.mutex.specs.WholeLists.{head_in, entry_in}
use Rattle.mutex.proofs.Addresses.{few_words, low, same_entry}
use Rattle.ruledwords.specs.Walks.{Left, LeftOf, LeftIn, LeftAt, IsTreated}

some_same : (i j : ℕ) → Some i ≡ Some j → j ≡ i
some_same i j e = cc

module _ (l : Layout') (t : ℕ) (layout : IsLayout l) (pos : 1 ≤ t) (known : t ≤ l.threads) where
  -- no word is at 0
  pub not_null : (p : ℕ) → 1 ≤ p → p < words_of l → address_in l t p ≢ 0
  not_null p first inside e = let few = few_words l t layout pos known in let base = low l t layout pos known in omega (arith, inside, e)

  -- an entry's cell, by the offset
  pub cell_before : (k : ℕ) → k < l.mutexes → address_sum (entry_in l t k) cell_offset ≡ address_in l t (cell_place l k)
  cell_before k inside = let few = few_words l t layout pos known in let base = low l t layout pos known in omega (arith, inside)

module _ (l : Layout') (t : ℕ) (layout : IsLayout l) (pos : 1 ≤ t) (known : t ≤ l.threads) (owns : ℕ → Bool) (w : ℕ → ℕ) (seen : ℕ → ℕ → Bool → Type 0) where
  abbrev h : ℕ
  h = head_in l t

  abbrev At : Row → Type 0
  At r = LeftAt l t owns w seen r

  not_owned : (k : ℕ) → owns k ≡ false → owns k ≡ true → ⊥
  not_owned k none own = cc (none, own)

  owns_or : (k : ℕ) → ((owns k ≡ true) → ⊥) → owns k ≡ false
  owns_or k not = go (owns k) refl
    where
      go : (b : Bool) → owns k ≡ b → owns k ≡ false
      go true e = absurd (not e)
      go false e = e

  -- after the list
  to_pending_arrives : (p : ℕ) → ((p ≡ 0) ⊎ (k : ℕ) × (k < l.mutexes) × (p ≡ entry_in l t k)) → ((k : ℕ) → k < l.mutexes → owns k ≡ true → p ≡ entry_in l t k) → At (to_pending cell_offset p)
  to_pending_arrives p (inl none) owned = subst At (sym (ap (to_pending cell_offset) none)) (λ k below. owns_or k (λ own. not_null l t layout pos known (entry_place l k) (omega arith) (omega arith) (sym (owned k below own) ∙ none)))
  to_pending_arrives p (inr (k, below, is)) owned = go (p == 0) refl
    where
      treats : IsTreated l t (address_sum p cell_offset) k
      treats = (below, ap (λ (e : ℕ). address_sum e cell_offset) is ∙ cell_before l t layout pos known k below)

      go : (b : Bool) → (p == 0) ≡ b → At (if b then Ended else LoadWord (address_sum p cell_offset) part.Pending)
      go true e = absurd (not_null l t layout pos known (entry_place l k) (omega arith) (omega arith) (sym is ∙ eqb-true p 0 e))
      go false e = (k, treats, λ j inside own. ap Some (same_entry l t layout pos known k j below inside (sym is ∙ owned j inside own)))

  -- the next entry, or after the list
  pub forward_arrives : (r : Rest) → LeftOf l t owns w r None → At (forward h r)
  forward_arrives r (es, x, offset, few) = go (r.entry == h) refl (r.loaded == 2048) refl
    where
      owned_then : es ≡ [] → (k : ℕ) → k < l.mutexes → owns k ≡ true → r.pending ≡ entry_in l t k
      owned_then none k below own = ⊎_elim (λ among. absurd (subst (IsAmong (entry_in l t k)) none among)) (λ rest. ⊎_elim (λ is. is) (λ no_one. absurd (cc no_one)) rest) (x.all k below own)

      behind : es ≡ [] → At (to_pending r.offset r.pending)
      behind none = subst (λ (o : ℕ). At (to_pending o r.pending)) (sym offset) (to_pending_arrives r.pending x.pending (owned_then none))

      at_head : r.entry ≡ h → (ds : List ℕ) → es ≡ ds → es ≡ []
      at_head is [] same = same
      at_head is (y ∷ ys) same =
          let leads : Leads w h r.entry (y ∷ ys) = subst (Leads w h r.entry) same x.leads in
          let different : AreDifferent (h ∷ (y ∷ ys)) = subst (λ (ds : List ℕ). AreDifferent (h ∷ ds)) same x.different in
          absurd (different.0.0 (sym is ∙ leads.0))

      full : r.loaded ≡ 2048 → (ds : List ℕ) → es ≡ ds → es ≡ []
      full is [] same = same
      full is (y ∷ ys) same = absurd (let size : length es ≡ suc (length ys) = ap length same in omega arith)

      go : (a : Bool) → (r.entry == h) ≡ a → (b : Bool) → (r.loaded == 2048) ≡ b → At (if a || b then to_pending r.offset r.pending else LoadNext r)
      go true e b y = behind (at_head (eqb-true r.entry h e) es refl)
      go false e true y = behind (full (eqb-true r.loaded 2048 y) es refl)
      go false e false y = (es, x, offset, few)

  -- from an entry: it is skipped where it is pending, and else its cell comes next
  pub next_arrives : (r : Rest) → Knows t h (LoadNext r) → LeftOf l t owns w r None → At (after_next h r (w r.entry))
  next_arrives r knows (es, x, offset, few) = at es refl
    where
      at : (ds : List ℕ) → es ≡ ds → At (after_next h r (w r.entry))
      at [] same = absurd (eqb-false r.entry h knows.0 (subst (Leads w h r.entry) same x.leads))
      at (y ∷ ys) same = go (r.entry == r.pending) refl
        where
          leads : Leads w h r.entry (y ∷ ys)
          leads = subst (Leads w h r.entry) same x.leads

          different : AreDifferent (h ∷ (y ∷ ys))
          different = subst (λ (ds : List ℕ). AreDifferent (h ∷ ds)) same x.different

          size : length ys + (r.loaded + 1) ≤ 2048
          size = let long : length es ≡ suc (length ys) = ap length same in omega arith

          first : (k : ℕ) × (k < l.mutexes) × (y ≡ entry_in l t k) × (owns k ≡ true) × (None ≢ Some k)
          first = x.entries y (subst (IsAmong y) (sym same) (inl refl))

          later : (z : ℕ) → IsAmong z ys → (k : ℕ) × (k < l.mutexes) × (z ≡ entry_in l t k) × (owns k ≡ true) × (None ≢ Some k)
          later z among = x.entries z (subst (IsAmong z) (sym same) (inr among))

          next_leads : Leads w h (w r.entry) ys
          next_leads = subst (λ (e : ℕ). Leads w h (w e) ys) (sym leads.0) leads.1

          -- after that entry, which is pending, or is treated now
          rest_left : (out : Option ℕ) → ((k : ℕ) → k < l.mutexes → entry_in l t k ≡ y → (r.pending ≡ entry_in l t k) ⊎ (out ≡ Some k)) → ((z : ℕ) → IsAmong z ys → (k : ℕ) → z ≡ entry_in l t k → out ≢ Some k) → LeftOf l t owns w (further r (w r.entry)) out
          rest_left out of_first apart = (
            ys,
            record {
              leads = next_leads;
              different = (different.0.1, different.1.1);
              entries = λ z among. let k = later z among in (k.0, k.1, k.2, k.3, apart z among k.0 k.2);
              all = λ k below own. ⊎_elim
                  (λ among. listed k below (subst (IsAmong (entry_in l t k)) same among))
                  (λ rest. inr (⊎_elim inl (λ no_one. absurd (cc no_one)) rest))
                  (x.all k below own);
              pending = x.pending;
            },
            offset,
            size,
          )
            where
              listed : (k : ℕ) → k < l.mutexes → (entry_in l t k ≡ y) ⊎ IsAmong (entry_in l t k) ys → IsAmong (entry_in l t k) ys ⊎ ((r.pending ≡ entry_in l t k) ⊎ (out ≡ Some k))
              listed k below (inl here) = inr (of_first k below here)
              listed k below (inr among) = inl among

          go : (b : Bool) → (r.entry == r.pending) ≡ b → At (if b then forward h (further r (w r.entry)) else LoadWord (sum_of r.entry r.offset) (part.List (further r (w r.entry))))
          go true e = forward_arrives (further r (w r.entry)) (rest_left None (λ k below here. inl (sym (eqb-true r.entry r.pending e) ∙ leads.0 ∙ sym here)) (λ z among k place none. cc none))
          go false e = (
            first.0,
            (first.1, ap (λ (o : ℕ). sum_of r.entry o) offset ∙ ap (λ (z : ℕ). sum_of z cell_offset) (leads.0 ∙ first.2) ∙ cell_before l t layout pos known first.0 first.1),
            rest_left (Some first.0)
                (λ k below here. inr (ap Some (same_entry l t layout pos known first.0 k first.1 below (sym first.2 ∙ sym here))))
                (λ z among k place is. apart-among y z ys different.1.0 among (first.2 ∙ ap (entry_in l t) (sym (some_same first.0 k is)) ∙ sym place)),
          )

  -- a mutex that isn't the thread's (any more) needs no treatment
  untreated : (r : Rest) (k : ℕ) → owns k ≡ false → LeftOf l t owns w r (Some k) → LeftOf l t owns w r None
  untreated r k none (es, x, offset, few) = (
    es,
    record {
      leads = x.leads;
      different = x.different;
      entries = λ y among. let j = x.entries y among in (j.0, j.1, j.2, j.3, λ e. cc e);
      all = λ j below own. ⊎_elim inl (λ rest. inr (⊎_elim inl (λ is. absurd (not_owned j (ap owns (some_same k j is) ∙ none) own)) rest)) (x.all j below own);
      pending = x.pending;
    },
    offset,
    few,
  )

  -- then the walk goes on
  pub goes_on_arrives : (rest : Part) → LeftIn l t owns w rest None → At (goes_on h rest)
  goes_on_arrives (part.List r) x = forward_arrives r x
  goes_on_arrives part.Pending x = λ k below. owns_or k (λ own. cc (x k below own))

  passes : (rest : Part) (k : ℕ) → owns k ≡ false → LeftIn l t owns w rest (Some k) → LeftIn l t owns w rest None
  passes (part.List r) k none x = untreated r k none x
  passes part.Pending k none x = λ j below own. absurd (not_owned j (ap owns (some_same k j (x j below own)) ∙ none) own)

  -- a word is looked at, of which the thread is the owner exactly where it owns the mutex
  pub looks_arrives : (at k v : ℕ) (again : Bool) (rest : Part) → IsTreated l t at k → LeftIn l t owns w rest (Some k) → owns k ≡ ((fields_of v).owner == t) → (((fields_of v).owner ≡ t) → seen (cell_place l k) v again) → At (looks t h at v again rest)
  looks_arrives at k v again rest treats x own was = go (is_pending rest && ((fields_of v).owner == 0)) refl ((fields_of v).owner == t) refl
    where
      free_then : (is_pending rest && ((fields_of v).owner == 0)) ≡ true → (fields_of v).owner ≡ 0
      free_then e = both (is_pending rest) ((fields_of v).owner == 0) refl e
        where
          both : (x y : Bool) → ((fields_of v).owner == 0) ≡ y → (x && y) ≡ true → (fields_of v).owner ≡ 0
          both true true z e = eqb-true (fields_of v).owner 0 z
          both true false z e = absurd cc
          both false y z e = absurd cc

      go : (a : Bool) → (is_pending rest && ((fields_of v).owner == 0)) ≡ a → (b : Bool) → ((fields_of v).owner == t) ≡ b → At (if a then WakeOne at rest else if b then Mark at v again rest else goes_on h rest)
      go true e true y = absurd (let free = free_then e in let mine = eqb-true (fields_of v).owner t y in omega arith)
      go true e false y = (k, treats, passes rest k (own ∙ y) x)
      go false e true y = (k, treats, x, was (eqb-true (fields_of v).owner t y))
      go false e false y = goes_on_arrives rest (passes rest k (own ∙ y) x)

-- nothing but one mutex has changed, which the thread owns no more: it is treated now
module _ (l : Layout') (t : ℕ) (owns owns' : ℕ → Bool) (w w' : ℕ → ℕ) (k : ℕ) (gone : owns' k ≡ false) (others : (j : ℕ) → j ≢ k → owns' j ≡ owns j) (agree : (j : ℕ) → j < l.mutexes → j ≢ k → owns j ≡ true → w' (entry_in l t j) ≡ w (entry_in l t j)) where
  left_then : (e p : ℕ) (es : List ℕ) → Left l t owns w e p es (Some k) → Left l t owns' w' e p es None
  left_then e p es x = record {
    leads = leads-same w w' (head_in l t) e e es refl (λ y among. let j = x.entries y among in let other : j.0 ≢ k = λ same. j.4 (ap Some (sym same)) in ap w' j.2 ∙ agree j.0 j.1 other j.3 ∙ ap w (sym j.2)) x.leads;
    different = x.different;
    entries = λ y among. let j = x.entries y among in (j.0, j.1, j.2, others j.0 (λ same. j.4 (ap Some (sym same))) ∙ j.3, λ e. cc e);
    all = λ j below has.
        let other : j ≢ k = λ same. cc (sym has ∙ ap owns' same ∙ gone) in
        ⊎_elim inl (λ more. inr (⊎_elim inl (λ same. absurd (other (some_same k j same))) more)) (x.all j below (sym (others j other) ∙ has));
    pending = x.pending;
  }

  pub part_then : (z : Part) → LeftIn l t owns w z (Some k) → LeftIn l t owns' w' z None
  part_then (part.List z) (es, x, offset, few) = (es, left_then z.entry z.pending es x, offset, few)
  part_then part.Pending x = λ j below has.
      let other : j ≢ k = λ same. cc (sym has ∙ ap owns' same ∙ gone) in
      absurd (other (some_same k j (x j below (sym (others j other) ∙ has))))

-- nothing has changed
module _ (l : Layout') (t : ℕ) (owns owns' : ℕ → Bool) (w w' : ℕ → ℕ) (same : (j : ℕ) → owns' j ≡ owns j) (agree : (j : ℕ) → j < l.mutexes → owns j ≡ true → w' (entry_in l t j) ≡ w (entry_in l t j)) where
  left_same : (e p : ℕ) (es : List ℕ) (k : Option ℕ) → Left l t owns w e p es k → Left l t owns' w' e p es k
  left_same e p es k x = record {
    leads = leads-same w w' (head_in l t) e e es refl (λ y among. let j = x.entries y among in ap w' j.2 ∙ agree j.0 j.1 j.3 ∙ ap w (sym j.2)) x.leads;
    different = x.different;
    entries = λ y among. let j = x.entries y among in (j.0, j.1, j.2, same j.0 ∙ j.3, j.4);
    all = λ j below has. x.all j below (sym (same j) ∙ has);
    pending = x.pending;
  }

  pub part_same : (z : Part) (k : Option ℕ) → LeftIn l t owns w z k → LeftIn l t owns' w' z k
  part_same (part.List z) k (es, x, offset, few) = (es, left_same z.entry z.pending es k x, offset, few)
  part_same part.Pending k x = λ j below has. x j below (sym (same j) ∙ has)
