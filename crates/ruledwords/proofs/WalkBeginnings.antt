-- What a dead thread's pass knows as its walk begins: the word of a cell of a mutex that it owns, and a list that is no longer than the walk goes.
use Rattle.std.proofs.Common.{Bool, true, false, ◌≡◌, ◌≢◌, ◌⊎◌, inl, inr, ⊎_elim, ℕ, zero, suc, ◌+◌, ◌^◌, ◌<◌, ◌≤◌, ◌==◌, Option, Some, None, List, [], ◌∷◌, ◌++◌, length, refl, sym, ap, ◌∙◌, subst, arith, append-nil, eqb-true}
use Rattle.std.specs.Prelude.{if◌then◌else◌, nat_lt}
use Rattle.std.proofs.lemmas.Bool.Decides.{nat_tests}
use Rattle.lockword.specs.Cells.{fields_of, word_of}
use Rattle.lockword.specs.Coding.{word_of-fields_of}
use Rattle.posixmutex.specs.declared.object.Object.{Object}
use Rattle.posixmutex.specs.declared.point.Point.{Point}
use Rattle.memorymap.specs.Chains.{AreDifferent, IsAmong, address_sum, without}
use Rattle.memorymap.proofs.Entries.{length_without, different_without, is_there}
use Rattle.posixmutex.specs.Histories.{is_thread}
use Rattle.memorymap.specs.Layouts.{Layout', cell_place, place_in}
use Rattle.posixmutex.specs.Objects.{fresh, object_of, owner_of, Run}
use Rattle.posixmutex.proofs.Objects.{run_same, run_split}
use Rattle.exitwalk.specs.declared.row.Row.TheVariants.{LoadFirst}
use Rattle.exitwalk.specs.Standings.{Standing}
use Rattle.mutex.specs.WholeLists.{head_in, entry_in}
use Rattle.robustlist.proofs.Places.{without-among}
use Rattle.mutex.proofs.Addresses.{head_word_again, same_entry}
use Rattle.mutex.proofs.OwnPlaces.{without_is_apart}
use Rattle.ruledwords.specs.declared.pass.Card.{Card}
use Rattle.ruledwords.specs.Cards.{at, value_at}
use Rattle.ruledwords.specs.Seen.{by, count_held, held, held_after, holds}
use Rattle.ruledwords.specs.Deaths.{IsLeftAt, IsWalking}
use Rattle.ruledwords.specs.Lists.{known, or_zero, IsMortal}
use Rattle.ruledwords.specs.Looks.{Finds}
use Rattle.ruledwords.specs.OwnWords.{owns_in, KnowsOwn}
use Rattle.ruledwords.specs.Passes.{IsCardOf}
use Rattle.ruledwords.proofs.Held.{owner_held}
use Rattle.ruledwords.proofs.Lists.{by_append}
use Rattle.ruledwords.proofs.Steps.{is_owner_by, others_run_keep}

-- ---- the word of a cell, as a thread that owns the mutex finds it

module _ (k : Layout') (c : Card) (is : IsCardOf k c) where
  abbrev me : ℕ
  me = c.thread

  -- by a legal list whose last points are others', the thread is the owner exactly where it holds the mutex
  pub found_owner : (q n : ℕ) → Finds c q n → holds me (at c.seen q) ≡ ((fields_of n).owner == me)
  found_owner q n f =
      sym (ap (held_after false) (by_append me (at c.seen q) f.0 ∙ ap (λ (xs : List Point). by me (at c.seen q) ++ xs) f.2 ∙ append-nil _))
      ∙ owner_held me fresh (at c.seen q ++ f.0) (object_of (fields_of n)) f.1.0 ∙ is_owner_by me (fields_of n).owner is.first

  -- what the mutex is while the thread owns it
  abbrev pub Own : ℕ → Object → Type 0
  Own q o = Run fresh (at c.seen q) o × (o.owner ≡ Some me)

  pub own_of : (q : ℕ) → holds me (at c.seen q) ≡ true → (o : Object) × Own q o
  own_of q mine =
      let o = is.legal q in (o.0, (o.1.0, owner_told o.0.owner (sym (owner_held me fresh (at c.seen q) o.0 o.1.0) ∙ mine)))
    where
      owner_told : (w : Option ℕ) → is_thread me w ≡ true → w ≡ Some me
      owner_told None e = absurd (cc e)
      owner_told (Some u) e = ap Some (eqb-true u me e)

  -- others change nothing of it
  pub found_own : (q n : ℕ) → Finds c q n → (o : Object) → Own q o → object_of (fields_of n) ≡ o
  found_own q n f o own =
      let cut = run_split fresh (object_of (fields_of n)) (at c.seen q) f.0 f.1.0 in
      let there : cut.0 ≡ o = run_same fresh cut.0 o (at c.seen q) cut.1 own.0 in
      others_run_keep me cut.0 f.0 (object_of (fields_of n)) (ap (λ (z : Object). z.owner) there ∙ own.1) f.2 cut.2 ∙ there

-- words that say the same of the mutex, and have no bits above the flags, differ in WAITERS alone
pub same_word : (v n : ℕ) → object_of (fields_of v) ≡ object_of (fields_of n) → (fields_of v).rest ≡ 0 → (fields_of n).rest ≡ 0 → (fields_of v).waiters ≡ (fields_of n).waiters → v ≡ n
same_word v n same narrow clear waits =
    sym (word_of-fields_of v)
    ∙ ap word_of (λ i. record {
      owner = owner_same (fields_of v).owner (fields_of n).owner (ap (λ (o : Object). o.owner) same) i;
      died = ap (λ (o : Object). o.inconsistent) same i;
      waiters = waits i;
      unusable = ap (λ (o : Object). o.unusable) same i;
      rest = (narrow ∙ sym clear) i;
    })
    ∙ word_of-fields_of n
  where
    owner_same : (a b : ℕ) → owner_of a ≡ owner_of b → a ≡ b
    owner_same zero zero e = refl
    owner_same zero (suc b) e = absurd (cc e)
    owner_same (suc a) zero e = absurd (cc e)
    owner_same (suc a) (suc b) e = cc e

-- ---- a list is no longer than its thread holds mutexes

abbrev one : Bool → ℕ
one b = if b then 1 else 0

-- how many of the first n lists say that thread t holds their mutex
abbrev upto : ℕ → List (List Point) → ℕ → ℕ
upto t xss zero = 0
upto t xss (suc n) = one (holds t (at xss n)) + upto t xss n

upto_none : (t n : ℕ) → upto t [] n ≡ 0
upto_none t zero = refl
upto_none t (suc n) = let rest = upto_none t n in omega arith

upto_one : (t : ℕ) (x : List Point) (xs : List (List Point)) (n : ℕ) → upto t (x ∷ xs) (suc n) ≡ one (holds t x) + upto t xs n
upto_one t x xs zero = omega arith
upto_one t x xs (suc n) = let rest = upto_one t x xs n in omega arith

upto_all : (t : ℕ) (xss : List (List Point)) (n : ℕ) → upto t xss n ≤ count_held t xss
upto_all t [] n = let none = upto_none t n in omega arith
upto_all t (x ∷ xs) zero = omega arith
upto_all t (x ∷ xs) (suc n) = let first = upto_one t x xs n in let rest = upto_all t xs n in omega arith

-- how many of the first n mutexes the thread holds
abbrev owned : Layout' → Card → ℕ → ℕ
owned k c zero = 0
owned k c (suc n) = one (owns_in k c n) + owned k c n

owned_upto : (k : Layout') (c : Card) (n : ℕ) → owned k c n ≤ upto c.thread c.seen (cell_place k n)
owned_upto k c zero = omega arith
owned_upto k c (suc n) =
    let rest = owned_upto k c n in
    let place : cell_place k (suc n) ≡ suc (suc (suc (cell_place k n))) = omega arith in
    subst (λ (p : ℕ). one (owns_in k c n) + owned k c n ≤ upto c.thread c.seen p) (sym place) (omega arith)

module _ (k : Layout') (c : Card) (is : IsCardOf k c) where
  no_longer : (n : ℕ) (es : List ℕ) → n ≤ k.mutexes → AreDifferent es → ((e : ℕ) → IsAmong e es → (m : ℕ) × (m < n) × (e ≡ entry_in k c.thread m) × (owns_in k c m ≡ true)) → length es ≤ owned k c n
  no_longer zero [] within different each = omega arith
  no_longer zero (x ∷ xs) within different each = absurd (let m = each x (inl refl) in let below = m.1 in omega arith)
  no_longer (suc n) es within different each = go (is_there (entry_in k c.thread n) es) (λ ds. no_longer n ds (omega arith))
    where
      go : IsAmong (entry_in k c.thread n) es ⊎ (IsAmong (entry_in k c.thread n) es → ⊥) → ((ds : List ℕ) → AreDifferent ds → ((e : ℕ) → IsAmong e ds → (m : ℕ) × (m < n) × (e ≡ entry_in k c.thread m) × (owns_in k c m ≡ true)) → length ds ≤ owned k c n) → length es ≤ owned k c (suc n)
      go (inl there) shorter =
          let own = each (entry_in k c.thread n) there in
          let at_n : own.0 ≡ n = same_entry k c.thread is.layout is.first is.thread own.0 n (let below = own.1 in omega (arith, below)) (omega arith) (sym own.2) in
          let counts : one (owns_in k c n) ≡ 1 = ap one (ap (owns_in k c) (sym at_n) ∙ own.3) in
          let rest = shorter (without (entry_in k c.thread n) es) (different_without (entry_in k c.thread n) es different) (λ e among.
          let m = each e (without-among (entry_in k c.thread n) e es among) in
          let apart = without_is_apart (entry_in k c.thread n) e es different among in
          (m.0, (let below = m.1 in let place = m.2 in let other : m.0 ≢ n = λ same. apart (place ∙ ap (entry_in k c.thread) same) in omega arith), m.2, m.3)) in
          let size = length_without (entry_in k c.thread n) es there in
          omega arith
      go (inr none) shorter =
          let rest = shorter es different (λ e among.
          let m = each e among in
          (m.0, (let below = m.1 in let other : m.0 ≢ n = λ same. none (subst (λ (x : ℕ). IsAmong x es) (m.2 ∙ ap (entry_in k c.thread) same) among) in omega arith), m.2, m.3)) in
          omega arith

  few_entries : (es : List ℕ) → AreDifferent es → ((e : ℕ) → IsAmong e es → (m : ℕ) × (m < k.mutexes) × (e ≡ entry_in k c.thread m) × (owns_in k c m ≡ true)) → length es ≤ held c
  few_entries es different each =
      let a = no_longer k.mutexes es (omega arith) different each in
      let b = owned_upto k c k.mutexes in
      let d = upto_all c.thread c.seen (cell_place k k.mutexes) in
      omega arith

  -- ---- at the beginning

  small_sum : (a n : ℕ) → nat_lt (address_sum a n) (2 ^ 64) ≡ true
  small_sum a n = lower (address_sum a n) (omega arith)
    where
      lower : (x : ℕ) → x < 2 ^ 64 → nat_lt x (2 ^ 64) ≡ true
      lower x small = grind (arith, nat_tests)

  offset_known : KnowsOwn k c → known k c (address_sum (head_in k c.thread) 1) ≡ 18446744073709551615
  offset_known knows =
      ap (λ (b : Bool). if b then or_zero (value_at c.values (place_in k c.thread (address_sum (head_in k c.thread) 1))) else 0) (small_sum (head_in k c.thread) 1)
      ∙ ap (λ (q : ℕ). or_zero (value_at c.values q)) (head_word_again k c.thread is.layout is.first is.thread 1 (omega arith)) ∙ ap or_zero knows.offset

  pub walk_begins : IsMortal k c → held c ≤ 2048 → IsLeftAt k c LoadFirst
  walk_begins mortal most =
      let found = mortal.list in
      let short = few_entries found.entries found.chain.different.1 found.each in (
        found.entries,
        record {
          leads = found.chain.leads;
          different = found.chain.different;
          entries = λ x among. let m = found.each x among in (m.0, m.1, m.2, m.3, λ e. cc e);
          all = λ m below own. ⊎_elim inl (λ pends. inr (inl pends)) (found.all m below own);
          pending = found.pending;
        },
        offset_known mortal.knows,
        (omega arith),
      )

-- the walk where it stands
pub here : (k : Layout') (c : Card) (s : Standing) → IsWalking k c s → s ≡ record { thread = c.thread; head = head_in k c.thread; row = s.row }
here k c s walking = λ i. record { thread = walking.thread i; head = walking.head i; row = s.row }
