-- One access of a call to its thread's own words: its head's, and the links of its mutexes.
use Rattle.std.proofs.Common.{◌≡◌, inl, inr, ℕ, ◌+◌, ◌*◌, ◌<◌, ◌≤◌, Bool, Option, Some, None, List, ◌∷◌, refl, sym, ap, ◌∙◌, subst, arith}
use Rattle.protocol.proofs.Vocabulary.{address_of, answer_at, IsChainBothWays, address_sum, head_place, cell_place, Reply, Phase, Access, Thread, place_in, place_met}
use Rattle.protocol.proofs.Vocabulary.{Linking, Clearing, Onward, left, decided, Joins, Whole, whole_access, Op, mutex_of, Calling, State, put, seen, LinkRow, UnlinkRow}
use Rattle.protocol.proofs.Vocabulary.{UnlinkStanding, LinkGoes, unlink_access, unlink_resume, UnlinkGoes, answer_on, link_access}
use Rattle.protocol.proofs.Vocabulary.{link_resume}
use Rattle.memorymap.specs.Chains.{without}
use Rattle.robustlist.specs.Standings.{LinkStanding}
use Rattle.robustlist.specs.LinkLaws as link_laws
use Rattle.robustlist.specs.UnlinkLaws as unlink_laws
use Rattle.robustlist.proofs.Links as links
use Rattle.mutex.specs.declared.row.Row.{Row}
use Rattle.mutex.specs.declared.phase.Phase.TheVariants.{Announcing, Unlinking}
use Rattle.mutex.specs.Whole.{phase_led, announced, linked_at, unlinked_at}
use Rattle.protocol.proofs.Puts.{put-same, put-other}
use Rattle.protocol.proofs.Phases.{decided_at, left_at, SteadyAt, Moves, IsPlain, IsOwn, plain_answer, plain_awake, own_pointless, own_silent, joins_same, link_plain, plain_no_move}
use Rattle.protocol.proofs.Kept.{AtRow, Fits, Serves, left_out_in, Owned, ChainedIn, Listed, IsAnnounced, pending_in, PendsAs, Kept}
use Rattle.protocol.proofs.Places.{IsMine, mine_is_valid, Links, links_mine, links_not_pending, list_links, more_links}
use Rattle.mutex.proofs.OwnPlaces.{both_same}
use Rattle.protocol.proofs.Steps.{Transition, onto, thread_after, after, place_of, met, met_queue, call_step, done}
use Rattle.protocol.proofs.Arrivals.{Arrives, sits_after, listed_after, pending_then}
use Rattle.protocol.proofs.CallSteps.{CallStep}
use Rattle.protocol.proofs.OwnWords.{own_cells, own_seen, own_tells, own_owned, own_counter, own_pendings, own_kept, own_makes, own_pending}
use Rattle.protocol.proofs.Leaving as leaving
use Rattle.robustlist.specs.Words.{IsOn}
use Rattle.protocol.proofs.Seeing.{head_in, words_in}
use Rattle.mutex.proofs.Addresses.{head_word_again}

-- what is left to show of an access of its own words that leads to a phase
record Lands (s : State) (t : ℕ) (c : Op) (p : Whole) (f : Phase) : Type 0 where
  joins : Joins (decided_at p.phase) None (decided_at f)
  fewer : left_at f (s.words (cell_place s.layout (mutex_of s.layout c))) < left_at p.phase (s.words (cell_place s.layout (mutex_of s.layout c)))
  steady : SteadyAt t p.phase (s.words (cell_place s.layout (mutex_of s.layout c))) → SteadyAt t f (s.words (cell_place s.layout (mutex_of s.layout c)))
  arrives : Arrives t (s.threads t).held p f (seen s (mutex_of s.layout c))
  pending : (after s t (call_step s t c p)).words (head_place t + 2) ≡ pending_in p.entry f
  list : (es : List ℕ) × Owned s t (left_out_in (mutex_of s.layout c) f) es × ChainedIn (words_in s.layout t (after s t (call_step s t c p)).words) (head_in s.layout t) p.entry es f

-- an access of thread t's call to one of its own words
module _ (s : State) (t : ℕ) (c : Op) (p : Whole) (inv : Kept s) (pos : 1 ≤ t) (known : t ≤ s.layout.threads) (fits : Fits s t (s.threads t).held (mutex_of s.layout c) p) (serves : Serves s.layout c p) (own : IsOwn p.phase) (plain : IsPlain (whole_access p)) (mine : IsMine s t (place_met s.layout t (whole_access p))) where
  abbrev place : ℕ
  place = cell_place s.layout (mutex_of s.layout c)

  abbrev v : Transition
  v = call_step s t c p

  abbrev o : Onward
  o = onto s t p

  -- where it leads, by the word there
  pub own_leads : o ≡ phase_led p p.phase (answer_at (whole_access p) (met s t v))
  own_leads = ap (phase_led p p.phase) (plain_answer (whole_access p) (met s t v) (met_queue s t v) plain)

  no_point : v.point ≡ None
  no_point = ap (λ (z : Onward). z.point) own_leads ∙ own_pointless p p.phase (answer_at (whole_access p) (met s t v)) own

  -- it knows the same of its mutex as before
  moves_so : Lands s t c p (onto s t p).phase → Moves t p o (s.words place) (s.queues place) ((after s t v).words place)
  moves_so lands = subst (Moves t p o (s.words place) (s.queues place)) (sym (own_cells s t v inv pos known fits.inside plain mine no_point (mutex_of s.layout c) fits.inside)) record {
    joins = subst (λ (x : Option Reply). Joins (decided_at p.phase) x (decided_at o.phase)) (sym no_point) lands.joins;
    waiters = λ e. inl e;
    sleeps = λ e. absurd (cc (e, (plain_awake (whole_access p) (s.words place) plain).0));
    fewer = λ e. lands.fewer;
    answers = λ e free on. inr (own_silent p.phase own, refl);
    steady = λ e was. lands.steady was;
  }

  goes_own : Lands s t c p (onto s t p).phase → CallStep s t c p
  goes_own lands = record {
    valid = mine_is_valid s t (place_of s t v) pos known mine;
    no_move = plain_no_move (whole_access p) plain;
    meets = inl (plain, mine);
    kept = own_kept s t v inv pos known fits.inside plain mine no_point
        (sits_after s t (s.threads t).held c p fits serves (whole_access p) (thread_after s t v) (s.threads t).held o.phase
        (subst (Arrives t (s.threads t).held p o.phase) (sym (own_seen s t v inv pos known fits.inside plain mine no_point (mutex_of s.layout c))) lands.arrives))
        (listed_after (after s t v) t c p lands.list.0 o.phase
        (own_owned s t v inv pos known fits.inside plain mine no_point (left_out_in (mutex_of s.layout c) o.phase) lands.list.0 lands.list.1) lands.list.2)
        (pending_then c p o.phase ((after s t v).words (head_place t + 2)) lands.pending);
    moves = moves_so lands;
    same_sleep = (plain_awake (whole_access p) (met s t v) plain).0 ∙ sym (plain_awake (whole_access p) (s.words place) plain).0;
    place = λ e. absurd (cc (e, (plain_awake (whole_access p) (met s t v) plain).0));
    wakes = λ e. absurd (cc (e, (plain_awake (whole_access p) 0 plain).1));
    sleeper = λ e. absurd (cc (e, (plain_awake (whole_access p) (met s t v) plain).0));
    tells = own_tells s t v inv pos known fits.inside plain mine no_point;
    room = λ x e takes. absurd (cc (e, no_point));
    far = λ k apart. own_seen s t v inv pos known fits.inside plain mine no_point k;
    cells = λ k inside apart. own_cells s t v inv pos known fits.inside plain mine no_point k inside;
    pendings = own_pendings s t v inv pos known fits.inside plain mine no_point;
    counters = own_counter s t v inv pos known fits.inside plain mine no_point;
  }

-- a call whose phase has its object as it is
module _ (s : State) (t : ℕ) (c : Op) (p : Whole) (inv : Kept s) (pos : 1 ≤ t) (known : t ≤ s.layout.threads) (serves : Serves s.layout c p) where
  abbrev held : ℕ
  held = (s.threads t).held

  abbrev head : ℕ
  head = head_in s.layout t

  abbrev view : (ℕ → ℕ) → ℕ → ℕ
  view = words_in s.layout t

  -- the pending word
  abbrev pending_place : ℕ
  pending_place = place_in s.layout t (address_sum p.head 2)

  pending_at : p.head ≡ head → pending_place ≡ head_place t + 2
  pending_at is = ap (λ (h : ℕ). place_in s.layout t (address_sum h 2)) is ∙ head_word_again s.layout t inv.layout pos known 2 (omega arith)

  -- a store to it
  stored : (x : ℕ) → p.head ≡ head → put s.words pending_place x (head_place t + 2) ≡ x
  stored x is = ap (λ (y : ℕ). put s.words pending_place x y) (sym (pending_at is)) ∙ put-same s.words pending_place x

  -- leaves the list
  pending_keeps : (out : Option ℕ) (es : List ℕ) (x : ℕ) → p.head ≡ head → Owned s t out es → IsChainBothWays (view s.words) head es → IsChainBothWays (view (put s.words pending_place x)) head es
  pending_keeps out es x is owned ch =
      both_same (view s.words) (view (put s.words pending_place x)) head es
      (λ y on. put-other s.words pending_place x (place_in s.layout t y) (λ e. links_not_pending s t y pos known (list_links s t inv.layout pos known out es y owned on) (e ∙ pending_at is))) ch

  -- ---- the entry is made pending
  module _ (r : Row) (fits : Fits s t held (mutex_of s.layout c) (record p { phase = Announcing r })) where
    abbrev before : Whole
    before = record p { phase = Announcing r }

    announced_decided : (z : Row) → decided_at (announced before z) ≡ decided z
    announced_decided z = grind (arith)

    announced_left : (z : Row) (w : ℕ) → left_at (announced before z) w < 14 + 8 * left z w
    announced_left z w = grind (arith)

    announced_steady : (z : Row) (w : ℕ) → SteadyAt t (Announcing z) w → SteadyAt t (announced before z) w
    announced_steady z w was = grind (arith)

    announced_pends : (z : Row) → IsAnnounced z → p.entry ≡ pending_in p.entry (announced before z)
    announced_pends z is = grind (arith)

    announced_arrives : (z : Row) → AtRow t held p.operation z (seen s (mutex_of s.layout c)) → Arrives t held before (announced before z) (seen s (mutex_of s.layout c))
    announced_arrives z at = grind (arith)

    abbrev new_words : ℕ → ℕ
    new_words = (after s t (call_step s t c before)).words

    announced_list : (z : Row) (es : List ℕ) → AtRow t held p.operation z (seen s (mutex_of s.layout c)) → Owned s t None es → IsChainBothWays (view new_words) head es → Owned s t (left_out_in (mutex_of s.layout c) (announced before z)) es × ChainedIn (view new_words) head p.entry es (announced before z)
    announced_list z es at owned ch = grind (arith)

    pub announcing : (s.threads t).stage ≡ Calling c before → Listed s t (Calling c before) → CallStep s t c before
    announcing is (es, owned, ch) =
        let list = announced_list r es fits.stands.0 owned (pending_keeps None es p.entry fits.head owned ch) in
        goes_own s t c before inv pos known fits serves tt tt (inr (inl (pending_at fits.head))) record {
          joins = subst (Joins (decided r) None) (sym (announced_decided r)) (joins_same (decided r));
          fewer = announced_left r (s.words (cell_place s.layout (mutex_of s.layout c)));
          steady = announced_steady r (s.words (cell_place s.layout (mutex_of s.layout c)));
          arrives = announced_arrives r fits.stands.0;
          pending = stored p.entry fits.head ∙ announced_pends r fits.stands.1;
          list = (es, list.0, list.1);
        }

  -- ---- the pending entry is cleared
  pub clearing : (x : Reply) → Fits s t held (mutex_of s.layout c) (record p { phase = Clearing x }) → (s.threads t).stage ≡ Calling c (record p { phase = Clearing x }) → Listed s t (Calling c (record p { phase = Clearing x })) → CallStep s t c (record p { phase = Clearing x })
  clearing x fits is (es, owned, ch) =
      goes_own s t c (record p { phase = Clearing x }) inv pos known fits serves tt tt (inr (inl (pending_at fits.head))) record {
        joins = (refl, refl);
        fewer = omega arith;
        steady = λ was. was;
        arrives = tt;
        pending = stored 0 fits.head;
        list = (es, owned, pending_keeps None es 0 fits.head owned ch);
      }

  -- ---- the entry is put in front of the list
  abbrev k : ℕ
  k = mutex_of s.layout c

  abbrev link_at : LinkRow → LinkStanding
  link_at r = record { head = head; entry = p.entry; row = r }

  module _ (r : LinkRow) (x : Reply) (fits : Fits s t held k (record p { phase = Linking (link_at r) x })) (is_in : (s.threads t).stage ≡ Calling c (record p { phase = Linking (link_at r) x })) (es : List ℕ) (owned : Owned s t (Some k) es) (ch : link_laws.Linking head p.entry es r (view s.words)) where
    abbrev linking_call : Whole
    linking_call = record p { phase = Linking (link_at r) x }

    abbrev a : Access
    a = link_access head p.entry r

    abbrev th : Thread
    th = thread_after s t (call_step s t c linking_call)

    abbrev linked_words : ℕ → ℕ
    linked_words = (done s t a th).words

    abbrev led_to : LinkRow
    led_to = link_resume head r (answer_on a (view s.words))

    each : (y : ℕ) → IsOn head (p.entry ∷ es) y → Links s t y
    each y on = more_links s t inv.layout pos known k (Some k) p.entry es y owned fits.inside fits.entry fits.stands.3 on

    at_link : Links s t (address_of a)
    at_link = each (address_of a) (links.near head p.entry es r (view s.words) ch)

    link_pends : linked_words (head_place t + 2) ≡ p.entry
    link_pends = own_pending s t a th pos known at_link ∙ subst (PendsAs (s.words (head_place t + 2))) is_in (inv.heads t pos known).pending

    chain_then : link_laws.Linking head p.entry es led_to (view linked_words)
    chain_then = links.right.steps head p.entry es r (view s.words) (view linked_words) fits.stands.2 ch (own_makes s t a th (p.entry ∷ es) each at_link (link_plain head p.entry r))

    falls : link_laws.link_left led_to < link_laws.link_left r
    falls = links.right.falls head r (answer_on a (view s.words)) fits.stands.2

    owned_more : Owned s t None (p.entry ∷ es)
    owned_more = grind (arith)

    goes_on : (q : LinkRow) → led_to ≡ q → LinkGoes q → Lands s t c linking_call (Linking (link_at led_to) x)
    goes_on q is going = record {
      joins = (refl, refl);
      fewer = let few = falls in omega arith;
      steady = λ was. was;
      arrives = (fits.stands.0, fits.stands.1, subst LinkGoes (sym is) going, fits.stands.3);
      pending = link_pends;
      list = (es, owned, chain_then);
    }

    is_linked : (q : LinkRow) → led_to ≡ q → Lands s t c linking_call (linked_at x (link_at led_to) q)
    is_linked LinkRow.LoadFirst is = goes_on LinkRow.LoadFirst is tt
    is_linked (LinkRow.StoreNext f) is = goes_on (LinkRow.StoreNext f) is tt
    is_linked (LinkRow.StorePrevious f) is = goes_on (LinkRow.StorePrevious f) is tt
    is_linked (LinkRow.StoreBehind f) is = goes_on (LinkRow.StoreBehind f) is tt
    is_linked LinkRow.StoreFirst is = goes_on LinkRow.StoreFirst is tt
    is_linked (LinkRow.Ended y) is =
        let ends = links.right.ends head p.entry es y (view linked_words) (subst (λ q. link_laws.Linking head p.entry es q (view linked_words)) is chain_then) in
        subst (λ (z : Reply). Lands s t c linking_call (linked_at x (link_at led_to) (LinkRow.Ended z))) (sym ends.0) record {
          joins = (refl, refl);
          fewer = omega arith;
          steady = λ was. was;
          arrives = tt;
          pending = link_pends;
          list = (p.entry ∷ es, owned_more, ends.1);
        }

    pub linking_goes : CallStep s t c linking_call
    linking_goes =
        let plain : IsPlain a = link_plain head p.entry r in
        let mine = links_mine s t (address_of a) at_link in
        let leads : (onto s t linking_call).phase ≡ linked_at x (link_at led_to) led_to = ap (λ (o : Onward). o.phase) (own_leads s t c linking_call inv pos known fits serves tt plain mine) in
        goes_own s t c linking_call inv pos known fits serves tt plain mine (subst (Lands s t c linking_call) (sym leads) (is_linked led_to refl))

  -- ---- the entry is taken out of the list
  abbrev unlink_at : UnlinkRow → UnlinkStanding
  unlink_at r = record { head = head; entry = p.entry; row = r }

  still_unlinking : (u : UnlinkStanding) (q : UnlinkRow) (d : Bool) → UnlinkGoes q → unlinked_at u q d ≡ Unlinking u d
  still_unlinking u q d going = grind (arith)

  module _ (r : UnlinkRow) (d : Bool) (fits : Fits s t held k (record p { phase = Unlinking (unlink_at r) d })) (is_in : (s.threads t).stage ≡ Calling c (record p { phase = Unlinking (unlink_at r) d })) (es : List ℕ) (owned : Owned s t None es) (ch : unlink_laws.Unlinking head p.entry es r (view s.words)) where
    abbrev unlinking_call : Whole
    unlinking_call = record p { phase = Unlinking (unlink_at r) d }

    abbrev after_thread : Thread
    after_thread = thread_after s t (call_step s t c unlinking_call)

    abbrev unlinked_words : ℕ → ℕ
    unlinked_words = (after s t (call_step s t c unlinking_call)).words

    abbrev to_row : UnlinkRow
    to_row = unlink_resume head r (answer_on (unlink_access head p.entry r) (view s.words))

    unlink_pends : unlinked_words (head_place t + 2) ≡ p.entry
    unlink_pends = leaving.still_pending s t after_thread inv pos known k fits.inside p.entry fits.entry r fits.stands.2 es owned ch ∙ subst (PendsAs (s.words (head_place t + 2))) is_in (inv.heads t pos known).pending

    unlink_on : (q : UnlinkRow) → to_row ≡ q → UnlinkGoes q → Lands s t c unlinking_call (Unlinking (unlink_at to_row) d)
    unlink_on q is going = record {
      joins = refl;
      fewer = let few = leaving.falls s t after_thread inv pos known k fits.inside p.entry fits.entry r fits.stands.2 es owned ch in omega arith;
      steady = λ was. tt;
      arrives = (fits.stands.0, fits.stands.1, subst UnlinkGoes (sym is) going, fits.stands.3, fits.stands.4);
      pending = unlink_pends;
      list = (es, owned, leaving.chain_then s t after_thread inv pos known k fits.inside p.entry fits.entry r fits.stands.2 es owned ch);
    }

    is_unlinked : Lands s t c unlinking_call (unlinked_at (unlink_at to_row) to_row d)
    is_unlinked =
        leaving.by_row s t after_thread inv pos known k fits.inside p.entry fits.entry r fits.stands.2 es owned ch (λ (q : UnlinkRow). Lands s t c unlinking_call (unlinked_at (unlink_at to_row) q d))
        (λ q is going. subst (Lands s t c unlinking_call) (sym (still_unlinking (unlink_at to_row) q d going)) (unlink_on q is going))
        (λ chain. record {
          joins = refl;
          fewer = omega arith;
          steady = λ was. tt;
          arrives = record { going = tt; knows = tt; expects = fits.stands.4; of = sym fits.stands.3; room = λ takes. absurd (cc (takes, fits.stands.3)) };
          pending = unlink_pends;
          list = (without p.entry es, leaving.owned_less s t after_thread inv pos known k fits.inside p.entry fits.entry r fits.stands.2 es owned ch, chain);
        })

    pub unlinking_goes : CallStep s t c unlinking_call
    unlinking_goes =
        let plain = leaving.plain s t after_thread inv pos known k fits.inside p.entry fits.entry r fits.stands.2 es owned ch in
        let mine = leaving.mine s t after_thread inv pos known k fits.inside p.entry fits.entry r fits.stands.2 es owned ch in
        let leads : (onto s t unlinking_call).phase ≡ unlinked_at (unlink_at to_row) to_row d = ap (λ (o : Onward). o.phase) (own_leads s t c unlinking_call inv pos known fits serves tt plain mine) in
        goes_own s t c unlinking_call inv pos known fits serves tt plain mine (subst (Lands s t c unlinking_call) (sym leads) is_unlinked)
