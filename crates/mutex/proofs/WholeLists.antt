-- Every whole call keeps its thread's list.
use Rattle.std.proofs.Common.{◌≡◌, ◌≢◌, ◌⊎◌, inl, inr, ℕ, ◌<◌, Bool, true, Option, Some, None, List, ◌∷◌, refl, sym, ap, ◌∙◌, subst, ⊎_elim, arith, eq-eqb, ne_eqb}
use Rattle.std.specs.Prelude.{if◌then◌else◌}
use mathlib.Core.Logic.{dite}
use native.Mathlib.Decide.{ℕ_discrete}
use Rattle.lockword.specs.declared.reply.Reply.{Reply}
use Rattle.stepprograms.specs.declared.access.Access.{Access}
use Rattle.stepprograms.specs.declared.access.Access.TheVariants.{Store}
use Rattle.stepprograms.specs.Accesses.{address_of, changed}
use Rattle.memorymap.specs.Chains.{IsAmong, AreDifferent, IsChain, IsChainBothWays, without}
use Rattle.memorymap.specs.Layouts.{Layout', cell_place, address_in}
use Rattle.posixmutex.specs.declared.point.Operation.{Operation}
use Rattle.robustlist.specs.declared.link.LinkRow.{LinkRow}
use Rattle.robustlist.specs.declared.unlink.UnlinkRow.{UnlinkRow}
use Rattle.robustlist.specs.Standings.{LinkStanding, UnlinkStanding}
use Rattle.robustlist.specs.Words.{answer_on, after, Makes}
use Rattle.robustlist.specs.Link.{link_access, link_resume, LinkGoes}
use Rattle.robustlist.specs.Unlink.{unlink_access, unlink_resume, UnlinkGoes}
use Rattle.robustlist.specs.LinkLaws.{Linking as IsLinking, link_list}
use Rattle.robustlist.specs.UnlinkLaws.{Unlinking as IsUnlinking, unlink_list}
use Rattle.robustlist.proofs.Links as links
use Rattle.robustlist.proofs.Unlinks as unlinks
use Rattle.robustlist.proofs.Places.{entries-different, without-among}
use Rattle.mutex.specs.declared.row.Row.{Row}
use Rattle.mutex.specs.declared.row.Row.TheVariants as row
use Rattle.mutex.specs.declared.unlock.UnlockRow.TheVariants as unlock
use Rattle.mutex.specs.declared.phase.Phase.{Phase}
use Rattle.mutex.specs.declared.phase.Phase.TheVariants.{Announcing, AtCell, Linking, Unlinking, Clearing, Ended}
use Rattle.mutex.specs.Standings.{Whole}
use Rattle.mutex.specs.declared.call.Call.{Call}
use Rattle.mutex.specs.declared.call.Call.TheVariants as call
use Rattle.mutex.specs.Calls.{mutex_of, acts_as}
use Rattle.mutex.specs.Programs.{resume_of}
use Rattle.stepprograms.specs.declared.access.Answer.{Answer}
use Rattle.mutex.proofs.AtTheCell.{by_row}
use Rattle.mutex.specs.Whole.{first_phase, phase_access, phase_led, whole_access, whole_led, pending_place, announced, linked_at, unlinked_at}
use Rattle.mutex.specs.WholeLists.{head_in, entry_in, IsOwnAddress, Entries, HasList, KeepsList, Arrives, IsThere, IsCallOn, IsOwnAccess, Owns, AgreeOnOwn, CanBeWalked, WholeListsAreKept}
use Rattle.mutex.proofs.Addresses.{same_entry}
use Rattle.mutex.proofs.OwnPlaces.{Links, list_links, more_links, links_own, pending_own, links_not_pending, both_same, among_without, without_is_apart}

-- ---- one access of words that nobody else writes

after_here : (a : Access) (w : ℕ → ℕ) → after a w (address_of a) ≡ changed a (w (address_of a))
after_here a w = ap (λ (b : Bool). if b then changed a (w (address_of a)) else w (address_of a)) (eq-eqb (address_of a) (address_of a) refl)

after_other : (a : Access) (w : ℕ → ℕ) (p : ℕ) → p ≢ address_of a → after a w p ≡ w p
after_other a w p apart = ap (λ (b : Bool). if b then changed a (w p) else w p) (ne_eqb p (address_of a) apart)

makes : (a : Access) (h : ℕ) (es : List ℕ) (w : ℕ → ℕ) → Makes a h es w (after a w)
makes a h es w = record { changes = after_here a w; keeps = λ p on apart. after_other a w p apart }

-- ---- a call of thread t on mutex m

module _ (l : Layout') (t : ℕ) (owns : ℕ → Bool) (m : ℕ) (is : IsThere l t m) (op : Operation) where
  abbrev head : ℕ
  head = head_in l t

  abbrev entry : ℕ
  entry = entry_in l t m

  abbrev pend : ℕ
  pend = pending_place head

  abbrev at_phase : Phase → Whole
  at_phase f = record { thread = t; operation = op; head = head; entry = entry; cell = address_in l t (cell_place l m); phase = f }

  abbrev Lands : Phase → (ℕ → ℕ) → Type 0
  Lands f w = Arrives l t owns m op f w

  -- what is left to show of an access of its own words
  abbrev Goes : Phase → (ℕ → ℕ) → Type 0
  Goes f w = IsOwnAddress l t owns (address_of (phase_access (at_phase f) f)) × Lands (phase_led (at_phase f) f (answer_on (phase_access (at_phase f) f) w)).phase (after (phase_access (at_phase f) f) w)

  -- a store to the pending entry leaves the list
  pending_keeps : (out : Option ℕ) (es : List ℕ) (x : ℕ) (w : ℕ → ℕ) → Entries l t owns out es → IsChainBothWays w head es → IsChainBothWays (after (Store pend x) w) head es
  pending_keeps out es x w owned ch =
      both_same w (after (Store pend x) w) head es
      (λ y on. after_other (Store pend x) w y (links_not_pending l t owns is.layout is.first is.last y (list_links l t owns is.layout is.first is.last out es y owned on))) ch

  -- the entry is made pending
  announcing : (r : Row) (w : ℕ → ℕ) → KeepsList l t owns m op (Announcing r) w → Lands (announced (at_phase (Announcing r)) r) (after (Store pend entry) w)
  announcing (row.Lock z) w k = record { knows = k.knows; stands = (k.stands.1, k.stands.2); entries = k.entries; owned = k.owned; chain = pending_keeps None k.entries entry w k.owned k.chain; pending = after_here (Store pend entry) w }
  announcing (row.TryLock z) w k = record { knows = k.knows; stands = (k.stands.1, k.stands.2); entries = k.entries; owned = k.owned; chain = pending_keeps None k.entries entry w k.owned k.chain; pending = after_here (Store pend entry) w }
  announcing (row.Unlock (unlock.Release d)) w k = record {
    knows = tt;
    stands = (refl, refl, k.stands.1, sym k.stands.2);
    entries = k.entries;
    owned = k.owned;
    chain = unlinks.right.begins head entry k.entries (after (Store pend entry) w) (pending_keeps None k.entries entry w k.owned k.chain) (k.owned.all m is.mutex k.stands.1 (λ e. cc e));
    pending = after_here (Store pend entry) w;
  }
  announcing r w k = absurd (grind (arith))

  announces : (r : Row) (w : ℕ → ℕ) → KeepsList l t owns m op (Announcing r) w → Goes (Announcing r) w
  announces r w k = (pending_own l t owns is.layout is.first is.last, announcing r w k)

  -- it is cleared
  clears : (x : Reply) (w : ℕ → ℕ) → KeepsList l t owns m op (Clearing x) w → Goes (Clearing x) w
  clears x w k = (pending_own l t owns is.layout is.first is.last, record { entries = k.entries; owned = k.owned; chain = pending_keeps None k.entries 0 w k.owned k.chain; pending = after_here (Store pend 0) w })

  -- the entry is put in front of the list
  abbrev link_at : LinkRow → LinkStanding
  link_at r = record { head = head; entry = entry; row = r }

  module _ (r : LinkRow) (x : Reply) (w : ℕ → ℕ) (k : KeepsList l t owns m op (Linking (link_at r) x) w) where
    abbrev a : Access
    a = link_access head entry r

    abbrev linked_to : LinkRow
    linked_to = link_resume head r (answer_on a w)

    at_link : Links l t owns (address_of a)
    at_link = more_links l t owns is.layout is.first is.last m (Some m) k.entries (address_of a) k.owned is.mutex k.stands.2 (links.near head entry k.entries r w k.chain)

    link_pends : after a w pend ≡ entry
    link_pends = after_other a w pend (λ e. links_not_pending l t owns is.layout is.first is.last (address_of a) at_link (sym e)) ∙ k.pending

    chain_then : IsLinking head entry k.entries linked_to (after a w)
    chain_then = links.right.steps head entry k.entries r w (after a w) k.knows k.chain (makes a head (entry ∷ k.entries) w)

    owned_more : Entries l t owns None (entry ∷ k.entries)
    owned_more = record {
      each = λ y among. with_one y among;
      all = λ j below own outside. dite (ℕ_discrete j m) (λ here. inl (ap (entry_in l t) here)) (λ other. inr (k.owned.all j below own (λ e. other (sym (cc e)))));
    } where
      with_one : (y : ℕ) → (y ≡ entry) ⊎ IsAmong y k.entries → (j : ℕ) × (j < l.mutexes) × (y ≡ entry_in l t j) × (owns j ≡ true) × (None ≢ Some j)
      with_one y (inl here) = (m, is.mutex, here, k.stands.2, λ e. cc e)
      with_one y (inr among) = let e = k.owned.each y among in (e.0, e.1, e.2, e.3, λ f. cc f)

    goes_on : (q : LinkRow) → linked_to ≡ q → LinkGoes q → Lands (Linking (link_at linked_to) x) (after a w)
    goes_on q to going = record { knows = subst LinkGoes (sym to) going; stands = (refl, refl, k.stands.2); entries = k.entries; owned = k.owned; chain = chain_then; pending = link_pends }

    is_linked : (q : LinkRow) → linked_to ≡ q → Lands (linked_at x (link_at linked_to) q) (after a w)
    is_linked LinkRow.LoadFirst to = goes_on LinkRow.LoadFirst to tt
    is_linked (LinkRow.StoreNext f) to = goes_on (LinkRow.StoreNext f) to tt
    is_linked (LinkRow.StorePrevious f) to = goes_on (LinkRow.StorePrevious f) to tt
    is_linked (LinkRow.StoreBehind f) to = goes_on (LinkRow.StoreBehind f) to tt
    is_linked LinkRow.StoreFirst to = goes_on LinkRow.StoreFirst to tt
    is_linked (LinkRow.Ended y) to =
        let end = links.right.ends head entry k.entries y (after a w) (subst (λ q. IsLinking head entry k.entries q (after a w)) to chain_then) in
        subst (λ (z : Reply). Lands (linked_at x (link_at linked_to) (LinkRow.Ended z)) (after a w)) (sym end.0) record { knows = tt; stands = tt; entries = entry ∷ k.entries; owned = owned_more; chain = end.1; pending = link_pends }

    links_in : Goes (Linking (link_at r) x) w
    links_in = (links_own l t owns is.layout is.first is.last (address_of a) at_link, is_linked linked_to refl)

  -- the entry is taken out of the list
  abbrev unlink_at : UnlinkRow → UnlinkStanding
  unlink_at r = record { head = head; entry = entry; row = r }

  module _ (r : UnlinkRow) (d : Bool) (w : ℕ → ℕ) (k : KeepsList l t owns m op (Unlinking (unlink_at r) d) w) where
    abbrev b : Access
    b = unlink_access head entry r

    abbrev unlinked_to : UnlinkRow
    unlinked_to = unlink_resume head r (answer_on b w)

    at_unlink : Links l t owns (address_of b)
    at_unlink = list_links l t owns is.layout is.first is.last None k.entries (address_of b) k.owned (unlinks.near head entry k.entries r w k.chain)

    unlink_pends : after b w pend ≡ entry
    unlink_pends = after_other b w pend (λ e. links_not_pending l t owns is.layout is.first is.last (address_of b) at_unlink (sym e)) ∙ k.pending

    chain_so : IsUnlinking head entry k.entries unlinked_to (after b w)
    chain_so = unlinks.right.steps head entry k.entries r w (after b w) k.knows k.chain (makes b head k.entries w)

    different : AreDifferent k.entries
    different = (entries-different head k.entries chain_so.places).1

    owned_less : Entries l t owns (Some m) (without entry k.entries)
    owned_less = record {
      each = λ y among. let e = k.owned.each y (without-among entry y k.entries among) in (e.0, e.1, e.2, e.3, λ same. without_is_apart entry y k.entries different among (e.2 ∙ ap (entry_in l t) (sym (cc same))));
      all = λ j below own outside. among_without entry (entry_in l t j) k.entries (k.owned.all j below own (λ e. cc e)) (λ same. outside (ap Some (sym (same_entry l t is.layout is.first is.last j m below is.mutex same))));
    }

    unlinks_on : (q : UnlinkRow) → unlinked_to ≡ q → UnlinkGoes q → Lands (Unlinking (unlink_at unlinked_to) d) (after b w)
    unlinks_on q to going = record { knows = subst UnlinkGoes (sym to) going; stands = (refl, refl, k.stands.2, k.stands.3); entries = k.entries; owned = k.owned; chain = chain_so; pending = unlink_pends }

    is_unlinked : (q : UnlinkRow) → unlinked_to ≡ q → Lands (unlinked_at (unlink_at unlinked_to) q d) (after b w)
    is_unlinked UnlinkRow.LoadNext to = unlinks_on UnlinkRow.LoadNext to tt
    is_unlinked (UnlinkRow.LoadPrevious n) to = unlinks_on (UnlinkRow.LoadPrevious n) to tt
    is_unlinked (UnlinkRow.StoreNext n p) to = unlinks_on (UnlinkRow.StoreNext n p) to tt
    is_unlinked (UnlinkRow.StorePrevious n p) to = unlinks_on (UnlinkRow.StorePrevious n p) to tt
    is_unlinked (UnlinkRow.Ended y) to =
        let end = unlinks.right.ends head entry k.entries y (after b w) (subst (λ q. IsUnlinking head entry k.entries q (after b w)) to chain_so) in
        subst (λ (z : Reply). Lands (unlinked_at (unlink_at unlinked_to) (UnlinkRow.Ended z) d) (after b w)) (sym end.0) record { knows = (tt, tt); stands = (k.stands.2, sym k.stands.3); entries = without entry k.entries; owned = owned_less; chain = end.1; pending = unlink_pends }

    unlinks_out : Goes (Unlinking (unlink_at r) d) w
    unlinks_out = (links_own l t owns is.layout is.first is.last (address_of b) at_unlink, is_unlinked unlinked_to refl)

-- ---- a call is such a one

module _ (l : Layout') (t m : ℕ) (p : Whole) (of : IsCallOn l t m p) where
  abbrev standing : Phase → Whole
  standing f = record { thread = t; operation = p.operation; head = head_in l t; entry = entry_in l t m; cell = address_in l t (cell_place l m); phase = f }

  is_standing : standing p.phase ≡ p
  is_standing = λ i. record { thread = sym of.thread i; operation = p.operation; head = sym of.head i; entry = sym of.entry i; cell = sym of.cell i; phase = p.phase }

link_is : (l : LinkStanding) (h e : ℕ) → l.head ≡ h → l.entry ≡ e → record { head = h; entry = e; row = l.row } ≡ l
link_is l h e x y = λ i. record { head = sym x i; entry = sym y i; row = l.row }

unlink_is : (u : UnlinkStanding) (h e : ℕ) → u.head ≡ h → u.entry ≡ e → record { head = h; entry = e; row = u.row } ≡ u
unlink_is u h e x y = λ i. record { head = sym x i; entry = sym y i; row = u.row }

begins_so : (l : Layout') (t : ℕ) (owns : ℕ → Bool) (c : Call) (w : ℕ → ℕ) → IsThere l t (mutex_of c) → HasList l t owns w → KeepsList l t owns (mutex_of c) (acts_as c) (first_phase c) w
begins_so l t owns (call.Lock m) w is h = record { knows = (tt, tt); stands = (tt, tt, refl); entries = h.entries; owned = h.owned; chain = h.chain; pending = h.pending }
begins_so l t owns (call.TimedLock m) w is h = record { knows = (tt, tt); stands = (tt, tt, refl); entries = h.entries; owned = h.owned; chain = h.chain; pending = h.pending }
begins_so l t owns (call.TryLock m) w is h = record { knows = (tt, tt); stands = (tt, tt, refl); entries = h.entries; owned = h.owned; chain = h.chain; pending = h.pending }
begins_so l t owns (call.Unlock m) w is h = record { knows = (tt, tt); stands = (tt, refl); entries = h.entries; owned = h.owned; chain = h.chain; pending = h.pending }
begins_so l t owns (call.Consistent m) w is h = record { knows = (tt, tt); stands = (tt, refl); entries = h.entries; owned = h.owned; chain = h.chain; pending = h.pending }

own_phase : (l : Layout') (t : ℕ) (owns : ℕ → Bool) (m : ℕ) (is : IsThere l t m) (op : Operation) (f : Phase) (w : ℕ → ℕ) → IsOwnAccess f → KeepsList l t owns m op f w → Goes l t owns m is op f w
own_phase l t owns m is op (Announcing r) w own k = announces l t owns m is op r w k
own_phase l t owns m is op (Clearing x) w own k = clears l t owns m is op x w k
own_phase l t owns m is op (Linking s x) w own k =
    let same = link_is s (head_in l t) (entry_in l t m) k.stands.0 k.stands.1 in
    subst (λ (z : LinkStanding). Goes l t owns m is op (Linking z x) w) same (links_in l t owns m is op s.row x w (subst (λ (z : LinkStanding). KeepsList l t owns m op (Linking z x) w) (sym same) k))
own_phase l t owns m is op (Unlinking u d) w own k =
    let same = unlink_is u (head_in l t) (entry_in l t m) k.stands.0 k.stands.1 in
    subst (λ (z : UnlinkStanding). Goes l t owns m is op (Unlinking z d) w) same (unlinks_out l t owns m is op u.row d w (subst (λ (z : UnlinkStanding). KeepsList l t owns m op (Unlinking z d) w) (sym same) k))
own_phase l t owns m is op f w own k = absurd own

own_words : (l : Layout') (t : ℕ) (owns : ℕ → Bool) (m : ℕ) (p : Whole) (w : ℕ → ℕ) → IsThere l t m → IsCallOn l t m p → IsOwnAccess p.phase → KeepsList l t owns m p.operation p.phase w
    → IsOwnAddress l t owns (address_of (whole_access p)) × Arrives l t owns m p.operation (whole_led p (answer_on (whole_access p) w)).phase (after (whole_access p) w)
own_words l t owns m p w is of own k =
    subst (λ (z : Whole). IsOwnAddress l t owns (address_of (whole_access z)) × Arrives l t owns m p.operation (whole_led z (answer_on (whole_access z) w)).phase (after (whole_access z) w)) (is_standing l t m p of)
    (own_phase l t owns m is p.operation p.phase w own k)

at_the_cell : (l : Layout') (t : ℕ) (owns owns' : ℕ → Bool) (m : ℕ) (p : Whole) (r : Row) (a : Answer) (w w' : ℕ → ℕ) → IsThere l t m → IsCallOn l t m p → p.phase ≡ AtCell r → KeepsList l t owns m p.operation (AtCell r) w
    → Owns m p.operation (resume_of p.thread r a) owns owns' → AgreeOnOwn l t owns owns' w w' → Arrives l t owns' m p.operation (whole_led p a).phase w'
at_the_cell l t owns owns' m p r a w w' is of at k o agree =
    subst (λ (z : Whole). Arrives l t owns' m p.operation (whole_led z a).phase w') (is_standing l t m p of)
    (subst (λ (g : Phase). Arrives l t owns' m p.operation (phase_led (standing l t m p of p.phase) g a).phase w') (sym at)
    (by_row l t m is p.operation owns owns' a w w' agree p.phase r k (subst (λ (z : ℕ). Owns m p.operation (resume_of z r a) owns owns') of.thread o)))

-- ---- what the kernel finds

between_calls : (l : Layout') (t : ℕ) (owns : ℕ → Bool) (w : ℕ → ℕ) → HasList l t owns w → CanBeWalked l t owns w
between_calls l t owns w h = record {
  entries = h.entries;
  chain = h.chain.chain;
  each = λ x among. let e = h.owned.each x among in (e.0, e.1, e.2, e.3);
  all = λ k below own. inl (h.owned.all k below own (λ e. cc e));
  pending = inl h.pending;
}

-- with this list, on which all is that the thread owns except for what is pending
module _ (l : Layout') (t : ℕ) (owns : ℕ → Bool) (m : ℕ) (is : IsThere l t m) (w : ℕ → ℕ) where
  abbrev pending_word : ℕ
  pending_word = w (pending_place (head_in l t))

  found_with : (out : Option ℕ) (es : List ℕ) → Entries l t owns out es → IsChain w (head_in l t) es → ((k : ℕ) → out ≡ Some k → pending_word ≡ entry_in l t k) → (pending_word ≡ 0) ⊎ (pending_word ≡ entry_in l t m) → CanBeWalked l t owns w
  found_with out es owned chain pends word = record {
    entries = es;
    chain = chain;
    each = λ x among. let e = owned.each x among in (e.0, e.1, e.2, e.3);
    all = λ k below own. left k below own out refl;
    pending = ⊎_elim (λ (e : pending_word ≡ 0). inl e) (λ (e : pending_word ≡ entry_in l t m). inr (m, is.mutex, e)) word;
  } where
    left : (k : ℕ) → k < l.mutexes → owns k ≡ true → (o : Option ℕ) → out ≡ o → IsAmong (entry_in l t k) es ⊎ (pending_word ≡ entry_in l t k)
    left k below own None e = inl (owned.all k below own (λ f. absurd (cc (sym e ∙ f))))
    left k below own (Some j) e = dite (ℕ_discrete k j) (λ here. inr (pends k (e ∙ ap Some (sym here)))) (λ other. inl (owned.all k below own (λ f. other (sym (cc (sym e ∙ f))))))

  nobody_left : (k : ℕ) → None ≡ Some k → pending_word ≡ entry_in l t k
  nobody_left k e = absurd (cc e)

  m_left : pending_word ≡ entry_in l t m → (k : ℕ) → Some m ≡ Some k → pending_word ≡ entry_in l t k
  m_left is_pending k e = is_pending ∙ ap (entry_in l t) (cc e)

  -- in the midst of an unlink
  found_less : (es : List ℕ) → Entries l t owns None es → AreDifferent es → IsChain w (head_in l t) (without (entry_in l t m) es) → pending_word ≡ entry_in l t m → CanBeWalked l t owns w
  found_less es owned different chain is_pending = record {
    entries = without (entry_in l t m) es;
    chain = chain;
    each = λ x among. let e = owned.each x (without-among (entry_in l t m) x es among) in (e.0, e.1, e.2, e.3);
    all = λ k below own. dite (ℕ_discrete k m)
        (λ here. inr (is_pending ∙ ap (entry_in l t) (sym here)))
        (λ other. inl (among_without (entry_in l t m) (entry_in l t k) es (owned.all k below own (λ e. cc e)) (λ same. other (same_entry l t is.layout is.first is.last k m below is.mutex same))));
    pending = inr (m, is.mutex, is_pending);
  }

  module _ (op : Operation) where
    in_link : (s : LinkStanding) (x : Reply) (r : LinkRow) → s.row ≡ r → KeepsList l t owns m op (Linking s x) w → CanBeWalked l t owns w
    in_link s x LinkRow.LoadFirst e k = found_with (Some m) k.entries k.owned (subst (λ (q : LinkRow). IsChain w (head_in l t) (link_list (entry_in l t m) k.entries q)) e k.chain.chain) (m_left k.pending) (inr k.pending)
    in_link s x (LinkRow.StoreNext f) e k = found_with (Some m) k.entries k.owned (subst (λ (q : LinkRow). IsChain w (head_in l t) (link_list (entry_in l t m) k.entries q)) e k.chain.chain) (m_left k.pending) (inr k.pending)
    in_link s x (LinkRow.StorePrevious f) e k = found_with (Some m) k.entries k.owned (subst (λ (q : LinkRow). IsChain w (head_in l t) (link_list (entry_in l t m) k.entries q)) e k.chain.chain) (m_left k.pending) (inr k.pending)
    in_link s x (LinkRow.StoreBehind f) e k = found_with (Some m) k.entries k.owned (subst (λ (q : LinkRow). IsChain w (head_in l t) (link_list (entry_in l t m) k.entries q)) e k.chain.chain) (m_left k.pending) (inr k.pending)
    in_link s x LinkRow.StoreFirst e k = found_with (Some m) k.entries k.owned (subst (λ (q : LinkRow). IsChain w (head_in l t) (link_list (entry_in l t m) k.entries q)) e k.chain.chain) (m_left k.pending) (inr k.pending)
    in_link s x (LinkRow.Ended y) e k = absurd (subst LinkGoes e k.knows)

    in_unlink : (u : UnlinkStanding) (d : Bool) (r : UnlinkRow) → u.row ≡ r → KeepsList l t owns m op (Unlinking u d) w → CanBeWalked l t owns w
    in_unlink u d UnlinkRow.LoadNext e k = found_with None k.entries k.owned (subst (λ (q : UnlinkRow). IsChain w (head_in l t) (unlink_list (entry_in l t m) k.entries q)) e k.chain.chain) nobody_left (inr k.pending)
    in_unlink u d (UnlinkRow.LoadPrevious n) e k = found_with None k.entries k.owned (subst (λ (q : UnlinkRow). IsChain w (head_in l t) (unlink_list (entry_in l t m) k.entries q)) e k.chain.chain) nobody_left (inr k.pending)
    in_unlink u d (UnlinkRow.StoreNext n p) e k = found_with None k.entries k.owned (subst (λ (q : UnlinkRow). IsChain w (head_in l t) (unlink_list (entry_in l t m) k.entries q)) e k.chain.chain) nobody_left (inr k.pending)
    in_unlink u d (UnlinkRow.StorePrevious n p) e k = found_less k.entries k.owned (entries-different (head_in l t) k.entries k.chain.places).1 (subst (λ (q : UnlinkRow). IsChain w (head_in l t) (unlink_list (entry_in l t m) k.entries q)) e k.chain.chain) k.pending
    in_unlink u d (UnlinkRow.Ended y) e k = absurd (subst UnlinkGoes e k.knows)

    in_a_call : (f : Phase) → KeepsList l t owns m op f w → CanBeWalked l t owns w
    in_a_call (Announcing r) k = found_with None k.entries k.owned k.chain.chain nobody_left (inl k.pending)
    in_a_call (AtCell (row.Lock r)) k = found_with None k.entries k.owned k.chain.chain nobody_left (inr k.pending)
    in_a_call (AtCell (row.TryLock r)) k = found_with None k.entries k.owned k.chain.chain nobody_left (inr k.pending)
    in_a_call (AtCell (row.Unlock unlock.Load)) k = found_with None k.entries k.owned k.chain.chain nobody_left (inl k.pending)
    in_a_call (AtCell (row.Unlock (unlock.Release d))) k = found_with (Some m) k.entries k.owned k.chain.chain (m_left k.pending) (inr k.pending)
    in_a_call (AtCell (row.Unlock (unlock.Wake all))) k = found_with None k.entries k.owned k.chain.chain nobody_left (inr k.pending)
    in_a_call (AtCell (row.Unlock unlock.Trim)) k = found_with None k.entries k.owned k.chain.chain nobody_left (inr k.pending)
    in_a_call (AtCell (row.Consistent r)) k = found_with None k.entries k.owned k.chain.chain nobody_left (inl k.pending)
    in_a_call (AtCell (row.Ended x)) k = absurd k.knows.0
    in_a_call (Linking s x) k = in_link s x s.row refl k
    in_a_call (Unlinking u d) k = in_unlink u d u.row refl k
    in_a_call (Clearing x) k = found_with None k.entries k.owned k.chain.chain nobody_left (inr k.pending)
    in_a_call (Ended x) k = absurd k.stands

pub right : WholeListsAreKept
right = record {
  begins_so = begins_so;
  own_words = own_words;
  at_the_cell = at_the_cell;
  between_calls = between_calls;
  in_a_call = λ l t owns m op f w is k. in_a_call l t owns m is w op f k;
}
