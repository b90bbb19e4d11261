-- Which word an access of a dead thread's walk is at.
use Rattle.std.proofs.Common.{Bool, true, ◌≡◌, inl, inr, ℕ, ◌+◌, ◌^◌, ◌<◌, Some, List, [], ◌∷◌, refl, sym, ap, ◌∙◌, subst, arith}
use Rattle.std.specs.Prelude.{if◌then◌else◌, nat_lt}
use Rattle.std.proofs.lemmas.Bool.{eqb-false}
use Rattle.std.proofs.lemmas.Bool.Decides.{nat_tests}
use Rattle.stepprograms.specs.declared.access.Access.TheVariants.{Exchange, Load}
use Rattle.stepprograms.specs.Accesses.{address_of}
use Rattle.memorymap.specs.Chains.{IsAmong, Leads, address_sum}
use Rattle.memorymap.specs.Layouts.{Layout', cell_place, entry_place, head_place, place_in, words_of}
use Rattle.exitwalk.specs.declared.row.Part.{Part}
use Rattle.exitwalk.specs.declared.row.Row.{Row}
use Rattle.exitwalk.specs.declared.row.Row.TheVariants.{LoadFirst, LoadOffset, LoadPending, LoadNext, LoadWord, Mark, WakeOne, Ended}
use Rattle.exitwalk.specs.Standings.{Standing}
use Rattle.exitwalk.specs.Walks.{access_of, marked_word, row_access, IsGoing, Knows}
use Rattle.mutex.specs.WholeLists.{head_in, entry_in}
use Rattle.mutex.proofs.Addresses.{again, head_word_again}
use Rattle.ruledwords.specs.declared.pass.Card.{Card}
use Rattle.ruledwords.specs.Cards.{value_at}
use Rattle.ruledwords.specs.Deaths.{FoundAt, IsWalking, WasSeen}
use Rattle.ruledwords.specs.Lists.{known, or_zero}
use Rattle.ruledwords.specs.OwnWords.{owns_in, KnowsOwn}
use Rattle.ruledwords.specs.Passes.{IsCardOf}
use Rattle.ruledwords.specs.Walks.{LeftAt, IsTreated}
use Rattle.ruledwords.proofs.Keepers.{inside}
use Rattle.ruledwords.proofs.WalkBeginnings.{here}

-- ---- which word an access is at

-- the thread's own words
abbrev pub IsOwnRow : Row → Type 0
IsOwnRow LoadFirst = Unit {0}
IsOwnRow (LoadOffset first) = Unit {0}
IsOwnRow (LoadPending first offset) = Unit {0}
IsOwnRow (LoadNext r) = Unit {0}
IsOwnRow r = ⊥

pub own_row : (h : ℕ) (r : Row) (a : ℕ) → row_access h r ≡ Load a → IsGoing r → ((b : ℕ) (rest : Part) → r ≡ LoadWord b rest → ⊥) → IsOwnRow r
own_row h LoadFirst a is going other = tt
own_row h (LoadOffset first) a is going other = tt
own_row h (LoadPending first offset) a is going other = tt
own_row h (LoadNext r) a is going other = tt
own_row h (LoadWord b rest) a is going other = other b rest refl
own_row h (Mark b v tried rest) a is going other = absurd (cc is)
own_row h (WakeOne b rest) a is going other = absurd (cc is)
own_row h Ended a is going other = going

pub marking_row : (h : ℕ) (r : Row) (a old new : ℕ) → row_access h r ≡ Exchange a old new → (tried : Bool) × (rest : Part) × (r ≡ Mark a old tried rest) × (new ≡ marked_word old)
marking_row h LoadFirst a old new is = absurd (cc is)
marking_row h (LoadOffset first) a old new is = absurd (cc is)
marking_row h (LoadPending first offset) a old new is = absurd (cc is)
marking_row h (LoadNext r) a old new is = absurd (cc is)
marking_row h (LoadWord b rest) a old new is = absurd (cc is)
marking_row h (Mark b v tried rest) a old new is =
    let same : b ≡ a = cc is in
    let seen : v ≡ old = cc is in
    let marked : marked_word v ≡ new = cc is in
    (tried, rest, (λ i. Mark (same i) (seen i) tried rest), sym marked ∙ ap marked_word seen)
marking_row h (WakeOne b rest) a old new is = absurd (cc is)
marking_row h Ended a old new is = absurd (cc is)

-- what the thread knows at a row of its own words, and where that is
pub record KnownThere (k : Layout') (c : Card) (a : ℕ) : Type 0 where
  pub word : ℕ
  pub value : value_at c.values (place_in k c.thread a) ≡ Some word
  pub inside : place_in k c.thread a < words_of k
  pub same : known k c a ≡ word

module _ (k : Layout') (c : Card) (is : IsCardOf k c) (knows : KnowsOwn k c) where
  there_at : (a p x : ℕ) → a < 2 ^ 64 → place_in k c.thread a ≡ p → p < words_of k → value_at c.values p ≡ Some x → KnownThere k c a
  there_at a p x small place below value = record {
    word = x;
    value = ap (value_at c.values) place ∙ value;
    inside = subst (λ (z : ℕ). z < words_of k) (sym place) below;
    same = ap (λ (b : Bool). if b then or_zero (value_at c.values (place_in k c.thread a)) else 0) (lower a small) ∙ ap or_zero (ap (value_at c.values) place ∙ value);
  }
    where
      lower : (n : ℕ) → n < 2 ^ 64 → nat_lt n (2 ^ 64) ≡ true
      lower n small = grind (arith, nat_tests)

  head_there : (i : ℕ) → i < 3 → (x : ℕ) → value_at c.values (head_place c.thread + i) ≡ Some x → KnownThere k c (address_sum (head_in k c.thread) i)
  head_there i few x value = let last = is.thread in let first = is.first in there_at (address_sum (head_in k c.thread) i) (head_place c.thread + i) x (omega arith) (head_word_again k c.thread is.layout is.first is.thread i few) (omega (arith, last, first, few)) value

  known_at_row : (r : Row) → IsOwnRow r → Knows c.thread (head_in k c.thread) r → LeftAt k c.thread (owns_in k c) (known k c) (WasSeen c) r → KnownThere k c (address_of (row_access (head_in k c.thread) r))
  known_at_row LoadFirst own row left =
      let x = knows.each (head_place c.thread) (inl refl) in
      let last = is.thread in
      let first = is.first in
      there_at (head_in k c.thread) (head_place c.thread) x.0 (omega arith) (again k c.thread is.layout is.first is.thread (head_place c.thread) (omega (arith, last, first))) (omega (arith, last, first)) x.1
  known_at_row (LoadOffset f) own row left = head_there 1 (omega arith) _ knows.offset
  known_at_row (LoadPending f o) own row left = let x = knows.each (head_place c.thread + 2) (inr (inl refl)) in head_there 2 (omega arith) x.0 x.1
  known_at_row (LoadNext r) own row (es, x, offset, few) = at_entry es refl
    where
      at_entry : (ds : List ℕ) → es ≡ ds → KnownThere k c r.entry
      at_entry [] same = absurd (eqb-false r.entry (head_in k c.thread) row.0 (subst (Leads (known k c) (head_in k c.thread) r.entry) same x.leads))
      at_entry (y ∷ ys) same =
          let leads : Leads (known k c) (head_in k c.thread) r.entry (y ∷ ys) = subst (Leads (known k c) (head_in k c.thread) r.entry) same x.leads in
          let m = x.entries y (subst (IsAmong y) (sym same) (inl refl)) in
          let low = m.1 in
          let v = knows.each (entry_place k m.0) (inr (inr (m.0, m.1, inl refl, m.3))) in
          let entry : r.entry ≡ entry_in k c.thread m.0 = leads.0 ∙ m.2 in
          subst (KnownThere k c) (sym entry) (there_at (entry_in k c.thread m.0) (entry_place k m.0) v.0 (omega arith) (again k c.thread is.layout is.first is.thread (entry_place k m.0) (omega (arith, low))) (omega (arith, low)) v.1)
  known_at_row (LoadWord a rest) own row left = absurd own
  known_at_row (Mark a v tried rest) own row left = absurd own
  known_at_row (WakeOne a rest) own row left = absurd own
  known_at_row Ended own row left = absurd own

pub known_there : (k : Layout') (c : Card) → IsCardOf k c → (s : Standing) → IsWalking k c s → IsOwnRow s.row → KnownThere k c (address_of (access_of s))
known_there k c is s walking own =
    subst (λ (z : Standing). Knows z.thread z.head z.row → KnownThere k c (address_of (access_of z))) (sym (here k c s walking)) (λ row. known_at_row k c is walking.knows s.row own row walking.left) walking.row

-- the mutex whose cell a row is at
pub cell_at_row : (k : Layout') (c : Card) → IsCardOf k c → (a m : ℕ) → IsTreated k c.thread a m → (m < k.mutexes) × (place_in k c.thread a ≡ cell_place k m)
cell_at_row k c is a m treated = (treated.0, ap (place_in k c.thread) treated.1 ∙ again k c.thread is.layout is.first is.thread (cell_place k m) (inside k m treated.0))

pub found_own_row : (k : Layout') (s : Standing) (r : Row) (c : Card) (n : ℕ) (d : Card) → IsOwnRow r → d ≡ c → n ≡ known k c (address_of (access_of s)) → FoundAt k s r c n d
found_own_row k s LoadFirst c n d own same word = (same, word)
found_own_row k s (LoadOffset first) c n d own same word = (same, word)
found_own_row k s (LoadPending first offset) c n d own same word = (same, word)
found_own_row k s (LoadNext r) c n d own same word = (same, word)
found_own_row k s (LoadWord a rest) c n d own same word = absurd own
found_own_row k s (Mark a v tried rest) c n d own same word = absurd own
found_own_row k s (WakeOne a rest) c n d own same word = absurd own
found_own_row k s Ended c n d own same word = absurd own
