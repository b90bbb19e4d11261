-- One access of an unlink, in whatever call: thread t takes the entry of mutex k out of its list.
use Rattle.std.proofs.Common.{◌≡◌, ℕ, ◌+◌, ◌<◌, ◌≤◌, Some, None, List, refl, sym, ap, ◌∙◌, subst}
use Rattle.protocol.proofs.Vocabulary.{IsChainBothWays, AreDifferent, head_place, address_of, place_met, Reply, OK, Access, Thread, State}
use Rattle.protocol.proofs.Vocabulary.{UnlinkRow, UnlinkGoes, unlink_access, unlink_resume, answer_on, entries-different, without-among}
use Rattle.memorymap.specs.Chains.{without}
use Rattle.robustlist.specs.UnlinkLaws.{Unlinking, unlink_left}
use Rattle.robustlist.proofs.Unlinks as unlinks
use Rattle.protocol.proofs.Phases.{IsPlain, unlink_plain}
use Rattle.protocol.proofs.Seeing.{head_in, entry_in}
use Rattle.mutex.proofs.Addresses.{same_entry}
use Rattle.protocol.proofs.Kept.{Owned, Kept, view_of}
use Rattle.protocol.proofs.Places.{IsMine, Links, list_links, links_mine}
use Rattle.mutex.proofs.OwnPlaces.{among_without, without_is_apart}
use Rattle.protocol.proofs.Steps.{done}
use Rattle.protocol.proofs.OwnWords.{own_makes, own_pending}
use Rattle.protocol.proofs.Cases.{some_same}

module _ (s : State) (t : ℕ) (th : Thread) (inv : Kept s) (pos : 1 ≤ t) (known : t ≤ s.layout.threads) (k : ℕ) (inside : k < s.layout.mutexes) (entry : ℕ) (of : entry ≡ entry_in s.layout t k)
    (r : UnlinkRow) (going : UnlinkGoes r) (es : List ℕ) (owned : Owned s t None es) (ch : Unlinking (head_in s.layout t) entry es r (view_of s t)) where
  abbrev a : Access
  a = unlink_access (head_in s.layout t) entry r

  abbrev then_row : UnlinkRow
  then_row = unlink_resume (head_in s.layout t) r (answer_on a (view_of s t))

  pub plain : IsPlain a
  plain = unlink_plain (head_in s.layout t) entry r

  links : Links s t (address_of a)
  links = list_links s t inv.layout pos known None es _ owned (unlinks.near (head_in s.layout t) entry es r (view_of s t) ch)

  pub mine : IsMine s t (place_met s.layout t a)
  mine = links_mine s t _ links

  pub chain_then : Unlinking (head_in s.layout t) entry es then_row (view_of (done s t a th) t)
  chain_then = unlinks.right.steps (head_in s.layout t) entry es r (view_of s t) (view_of (done s t a th) t) going ch (own_makes s t a th es (λ y on. list_links s t inv.layout pos known None es y owned on) links plain)

  pub falls : unlink_left then_row < unlink_left r
  falls = unlinks.right.falls (head_in s.layout t) r (answer_on a (view_of s t)) going

  pub still_pending : (done s t a th).words (head_place t + 2) ≡ s.words (head_place t + 2)
  still_pending = own_pending s t a th pos known links

  -- without the entry
  different : AreDifferent es
  different = (entries-different (head_in s.layout t) es ch.places).1

  pub owned_less : Owned s t (Some k) (without entry es)
  owned_less = record {
    entries = λ y among. let e = owned.entries y (without-among entry y es among) in (e.0, e.1, e.2, e.3, λ same. without_is_apart entry y es different among (e.2 ∙ ap (entry_in s.layout t) (sym (some_same k e.0 same)) ∙ sym of));
    all = λ j below own outside. among_without entry (entry_in s.layout t j) es (owned.all j below own (λ e. cc e)) (λ same. outside (ap Some (sym (same_entry s.layout t inv.layout pos known j k below inside (same ∙ of)))));
  }

  -- what is so of each row at which it goes on, and of its end, is so of the row to which it leads
  pub by_row : (P : UnlinkRow → Type 0) → ((q : UnlinkRow) → then_row ≡ q → UnlinkGoes q → P q) → (IsChainBothWays (view_of (done s t a th) t) (head_in s.layout t) (without entry es) → P (UnlinkRow.Ended OK)) → P then_row
  by_row P on out = go then_row refl
    where
      go : (q : UnlinkRow) → then_row ≡ q → P q
      go UnlinkRow.LoadNext is = on UnlinkRow.LoadNext is tt
      go (UnlinkRow.LoadPrevious n) is = on (UnlinkRow.LoadPrevious n) is tt
      go (UnlinkRow.StoreNext n q) is = on (UnlinkRow.StoreNext n q) is tt
      go (UnlinkRow.StorePrevious n q) is = on (UnlinkRow.StorePrevious n q) is tt
      go (UnlinkRow.Ended x) is =
          let ends = unlinks.right.ends (head_in s.layout t) entry es x (view_of (done s t a th) t) (subst (λ (q : UnlinkRow). Unlinking (head_in s.layout t) entry es q (view_of (done s t a th) t)) is chain_then) in
          subst (λ (z : Reply). P (UnlinkRow.Ended z)) (sym ends.0) (out ends.1)
