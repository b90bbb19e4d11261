-- One load or store of a thread's own words that makes no point: its head's, and the links of its mutexes.
use Rattle.std.proofs.Common.{◌≡◌, ◌≢◌, inl, inr, ℕ, ◌+◌, ◌<◌, ◌≤◌, false, Option, None, List, refl, sym, ap, ◌∙◌, subst}
use Rattle.protocol.proofs.Vocabulary.{Object, sleeps_at, head_place, cell_place, counter_place, fields_of, Reply, Sound, State, held_after, seen, word_among, Access, Makes, Thread, address_of, place_in, place_met}
use Rattle.robustlist.specs.Words.{IsOn}
use Rattle.protocol.proofs.Puts.{put-same, put-other}
use Rattle.protocol.proofs.Phases.{IsPlain, plain_awake, plain_no_move, plain_word}
use Rattle.protocol.proofs.Seeing.{head_in, words_in}
use Rattle.protocol.proofs.Kept.{Sits, Owned, Listed, PendsAs, Kept}
use Rattle.protocol.proofs.Places.{IsMine, Links, links_not_pending, links_apart, offset_is_nobodys, mine_is_valid, mine_is_no_cell, mine_is_no_counter, mine_is_not_theirs}
use Rattle.protocol.proofs.Steps.{Tells, Transition, met_no_move, unmoved, thread_after, done, after, place_of, met}
use Rattle.protocol.proofs.Frames.{kept_where}
use Rattle.protocol.proofs.Stepping.{AnswersAs, left_of, Moves_none, Found_free, Stepping}
use Rattle.protocol.proofs.Cases.{same_object}

module _ (s : State) (t : ℕ) (v : Transition) (inv : Kept s) (pos : 1 ≤ t) (known : t ≤ s.layout.threads) (inside : v.mutex < s.layout.mutexes) (plain : IsPlain v.access) (mine : IsMine s t (place_of s t v)) (pointless : v.point ≡ None) where
  abbrev s' : State
  s' = after s t v

  abbrev at : ℕ
  at = place_of s t v

  pub own_words : (x : ℕ) → x ≢ at → s'.words x ≡ s.words x
  own_words x apart = put-other s.words at (word_among v.access (s.words at) (s.queues at)) x apart

  pub own_cells : (k : ℕ) → k < s.layout.mutexes → s'.words (cell_place s.layout k) ≡ s.words (cell_place s.layout k)
  own_cells k below = own_words (cell_place s.layout k) (λ e. mine_is_no_cell s t at k pos known below mine (sym e))

  pub own_seen : (k : ℕ) → seen s' k ≡ seen s k
  own_seen k = same_object s.layout s.words s'.words k (own_cells k)

  pub own_counter : (k : ℕ) → s'.words (counter_place s.layout k) ≡ s.words (counter_place s.layout k)
  own_counter k = own_words (counter_place s.layout k) (λ e. mine_is_no_counter s t at k pos known mine (sym e))

  pub own_cell : (k : ℕ) → k < s.layout.mutexes → fields_of (s'.words (cell_place s.layout k)) ≡ fields_of (s.words (cell_place s.layout k))
  own_cell k below = ap fields_of (own_cells k below)

  pub held_same : held_after (s.threads t).held v.operation v.point ≡ (s.threads t).held
  held_same = ap (held_after (s.threads t).held v.operation) pointless ∙ unmoved v.operation (s.threads t).held

  pub own_owned : (out : Option ℕ) (es : List ℕ) → Owned s t out es → Owned s' t out es
  own_owned out es owned = record {
    entries = λ x among. let e = owned.entries x among in (e.0, e.1, e.2, ap (λ (z : Object). z.owner) (own_seen e.0) ∙ e.3, e.4);
    all = λ k below have outside. owned.all k below (sym (ap (λ (z : Object). z.owner) (own_seen k)) ∙ have) outside;
  }

  pub own_tells : Tells t (seen s v.mutex) v.operation v.point (seen s' v.mutex)
  own_tells = subst (λ (x : Option Reply). Tells t (seen s v.mutex) v.operation x (seen s' v.mutex)) (sym pointless) (own_seen v.mutex)

  pub awake : sleeps_at v.access (met s t v) ≡ false
  awake = (plain_awake v.access (met s t v) plain).0

  -- what holds of every state holds then, where its thread sits rightly and has its list
  pub own_kept : Sits s' t (s.threads t).held v.next → Listed s' t v.next → PendsAs (s'.words (head_place t + 2)) v.next → Kept s'
  own_kept sits listed pends =
      kept_where s t v.mutex v.access (thread_after s t v) v.operation v.point inv pos known inside (λ k apart. own_seen k) own_tells refl
      (λ x e takes. absurd (cc (e, pointless)))
      (λ u first most. own_words (head_place u + 1) (offset_is_nobodys s t u at pos known first most mine))
      (λ u x first most apart theirs. own_words x (mine_is_not_theirs s u t x at first most pos known (λ e. apart (sym e)) theirs mine))
      (λ u k first most apart below own. inl (own_cells k below))
      (subst (λ (h : ℕ). Sits s' t h v.next) (sym held_same) sits)
      listed
      pends
      (subst Sound (sym (own_seen v.mutex)) (inv.sound v.mutex))

  pub own_pendings : (u : ℕ) → 1 ≤ u → u ≤ s.layout.threads → t ≢ u → s'.words (head_place u + 2) ≡ s.words (head_place u + 2)
  own_pendings u first most apart = own_words (head_place u + 2) (mine_is_not_theirs s u t (head_place u + 2) at first most pos known (λ e. apart (sym e)) (inr (inl refl)) mine)

  pub own_stepping : Sits s' t (s.threads t).held v.next → Listed s' t v.next → PendsAs (s'.words (head_place t + 2)) v.next → ((k : ℕ) → AnswersAs s.layout s.words k t v.from → ⊥) → 0 < left_of s v.from → left_of s v.from ≤ 9000 → left_of s' v.next < left_of s v.from → Stepping s t v
  own_stepping sits listed pends silent some few fewer = record {
    valid = met_no_move s.layout t v.access (plain_no_move v.access plain) ∙ mine_is_valid s t at pos known mine;
    inside = inside;
    kept = own_kept sits listed pends;
    tells = own_tells;
    room = λ x e takes. absurd (cc (e, pointless));
    far = λ k apart. own_seen k;
    waiters = λ k below on. inl (ap (λ (x : ℕ). (fields_of x).waiters) (own_cells k below) ∙ on);
    pendings = own_pendings;
    sleeper = λ on. absurd (cc (on, awake));
    asleep = λ on. absurd (cc (on, awake));
    moving = Moves_none (plain_no_move v.access plain);
    settles = λ k below none on. Found_free (sym (ap (λ (z : Object). z.owner) (own_seen k)) ∙ none) (λ was. absurd (silent k was));
    some = some;
    few = few;
    fewer = λ quiet. fewer;
  }

-- a load or store of thread t at an address of its list
module _ (s : State) (t : ℕ) (a : Access) (th : Thread) where
  abbrev there : ℕ
  there = place_met s.layout t a

  -- is what it makes of the list's words
  pub own_makes : (es : List ℕ) → ((y : ℕ) → IsOn (head_in s.layout t) es y → Links s t y) → Links s t (address_of a) → IsPlain a → Makes a (head_in s.layout t) es (words_in s.layout t s.words) (words_in s.layout t (done s t a th).words)
  own_makes es each at plain = record {
    changes = put-same s.words there (word_among a (s.words there) (s.queues there)) ∙ plain_word a (s.words there) (s.queues there) plain;
    keeps = λ y on apart. put-other s.words there (word_among a (s.words there) (s.queues there)) (place_in s.layout t y) (links_apart s t y (address_of a) (each y on) at apart);
  }

  -- and leaves the pending word
  pub own_pending : 1 ≤ t → t ≤ s.layout.threads → Links s t (address_of a) → (done s t a th).words (head_place t + 2) ≡ s.words (head_place t + 2)
  own_pending pos known at = put-other s.words there (word_among a (s.words there) (s.queues there)) (head_place t + 2) (λ e. links_not_pending s t (address_of a) pos known at (sym e))
