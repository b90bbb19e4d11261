-- Unusable mutexes that are reinitialised, with a word that says nothing but that somebody may sleep there.
use Rattle.std.proofs.Common.{◌≡◌, ◌≢◌, inl, ℕ, ◌+◌, ◌<◌, ◌≤◌, Bool, true, false, None, Some, refl, sym, ap, ◌∙◌, subst, arith}
use Rattle.protocol.proofs.Vocabulary.{Object, Operation, Access, OK, head_place, cell_place, counter_place, fields_of, object_of, fresh, Sound, stands_in, Thread, Idle, State, put, seen}
use Rattle.protocol.proofs.Vocabulary.{sleepers, if◌then◌else◌, nat_lt, place_in, reinited, waiters_of, MayRemake}
use Rattle.lockword.specs.Cells.{bit, waiters_alone}
use mathlib.Core.Path.{fun_ext}
use Rattle.protocol.proofs.Puts.{by_put, put-same, put-other}
use Rattle.protocol.proofs.Seeing.{cell_in, head_in, cell_again}
use Rattle.protocol.proofs.Kept.{Listed, PendsAs, Kept, view_of}
use Rattle.protocol.proofs.Places.{mine_is_no_cell, head_is_no_cell, counter_is_no_cell, list_links, links_mine}
use Rattle.mutex.proofs.OwnPlaces.{both_same}
use Rattle.protocol.proofs.Steps.{seen-inside, done}
use Rattle.protocol.proofs.Frames.{kept_where}
use Rattle.protocol.proofs.Stepping.{HasWaiters}
use Rattle.protocol.proofs.WalkStepping.{same_answers}
use Rattle.protocol.proofs.Departures.{queues_kept}
use Rattle.protocol.proofs.Queued.{Queued, Answering}
use Rattle.protocol.proofs.Cases.{at_or_else, same_object}

-- either word says that nobody owns it, and that it is neither inconsistent nor unusable
abbrev pub Says_nothing : ℕ → Type 0
Says_nothing w = object_of (fields_of w) ≡ fresh

pub waiters_say_nothing : (w : ℕ) → Says_nothing (waiters_of w)
waiters_say_nothing w = go (fields_of w).waiters
  where
    go : (b : Bool) → Says_nothing (bit b waiters_alone)
    go true = refl
    go false = refl

pub waiters_kept : (w : ℕ) → (fields_of (waiters_of w)).waiters ≡ (fields_of w).waiters
waiters_kept w = go (fields_of w).waiters
  where
    go : (b : Bool) → (fields_of (bit b waiters_alone)).waiters ≡ b
    go true = refl
    go false = refl

module _ (s : State) (t m w : ℕ) (says : Says_nothing w) (may : MayRemake s t m) where
  abbrev s1 : State
  s1 = (reinited s t m w).state

  abbrev place : ℕ
  place = cell_place s.layout m

  -- ---- words

  pub reinited_word : s1.words place ≡ w
  reinited_word = put-same s.words place w

  pub reinited_elsewhere : (p : ℕ) → p ≢ place → s1.words p ≡ s.words p
  reinited_elsewhere p apart = put-other s.words place w p apart

  pub reinited_cell : (k : ℕ) → k ≢ m → s1.words (cell_place s.layout k) ≡ s.words (cell_place s.layout k)
  reinited_cell k apart = reinited_elsewhere (cell_place s.layout k) (λ e. apart (omega (arith, e)))

  pub reinited_counter : (k : ℕ) → s1.words (counter_place s.layout k) ≡ s.words (counter_place s.layout k)
  reinited_counter k = reinited_elsewhere (counter_place s.layout k) (counter_is_no_cell s.layout m k may.inside)

  reinited_pending : (u : ℕ) → 1 ≤ u → u ≤ s.layout.threads → s1.words (head_place u + 2) ≡ s.words (head_place u + 2)
  reinited_pending u first last = reinited_elsewhere (head_place u + 2) (head_is_no_cell s.layout u m 2 first last (omega arith))

  -- ---- mutexes

  pub reinited_seen : seen s1 m ≡ fresh
  reinited_seen = seen-inside s1 m may.inside ∙ ap (λ (v : ℕ). object_of (fields_of v)) reinited_word ∙ says

  pub reinited_far : (k : ℕ) → k ≢ m → seen s1 k ≡ seen s k
  reinited_far k apart = ap (λ (v : ℕ). if nat_lt k s.layout.mutexes then object_of (fields_of v) else fresh) (reinited_cell k apart)

  module _ (inv : Kept s) where
    -- an unusable mutex is nobody's
    pub unowned : (seen s m).owner ≡ None
    unowned = inv.sound m may.unusable

    theirs : (u k : ℕ) → (seen s k).owner ≡ Some u → k ≢ m
    theirs u k own e = cc (sym own ∙ ap (λ (j : ℕ). (seen s j).owner) e ∙ unowned)

    -- it is as if the thread stored the word, in no call before and after
    abbrev store : Access
    store = Access.Store (cell_in s.layout t m) w

    abbrev resting : Thread
    resting = record { stage = Idle; held = (s.threads t).held }

    abbrev s2 : State
    s2 = done s t store resting

    words_are : s2.words ≡ s1.words
    words_are = ap (λ (p : ℕ). put s.words p w) (cell_again s.layout t inv.layout may.first may.last m may.inside)

    word_is : (p : ℕ) → s2.words p ≡ s1.words p
    word_is p = ap (λ (f : ℕ → ℕ). f p) words_are

    word_there : (p : ℕ) → p ≢ place → s2.words p ≡ s.words p
    word_there p apart = word_is p ∙ reinited_elsewhere p apart

    seen_is : (k : ℕ) → seen s2 k ≡ seen s1 k
    seen_is k = same_object s.layout s1.words s2.words k (λ below. word_is (cell_place s.layout k))

    here : seen s2 m ≡ fresh
    here = seen_is m ∙ reinited_seen

    far : (k : ℕ) → k ≢ m → seen s2 k ≡ seen s k
    far k apart = seen_is k ∙ reinited_far k apart

    owned_before : (u k : ℕ) → (seen s2 k).owner ≡ Some u → (seen s k).owner ≡ Some u
    owned_before u k = at_or_else (λ (j : ℕ). (seen s2 j).owner ≡ Some u → (seen s j).owner ≡ Some u) m k (λ own. absurd (cc (sym (ap (λ (o : Object). o.owner) here) ∙ own))) (λ apart own. sym (ap (λ (o : Object). o.owner) (far k apart)) ∙ own)

    listed : Listed s t Idle → Listed s2 t Idle
    listed (es, owned, ch) = (
      es,
      record {
        entries = λ x among. let e = owned.entries x among in (e.0, e.1, e.2, ap (λ (o : Object). o.owner) (far e.0 (theirs t e.0 e.3)) ∙ e.3, e.4);
        all = λ k below own outside. owned.all k below (owned_before t k own) outside;
      },
      both_same (view_of s t) (view_of s2 t) (head_in s.layout t) es
          (λ x on. word_there (place_in s.layout t x) (mine_is_no_cell s t (place_in s.layout t x) m may.first may.last may.inside (links_mine s t x (list_links s t inv.layout may.first may.last None es x owned on)))) ch,
    )

    kept : Kept s2
    kept =
        kept_where s t m store resting Operation.Reinit (Some OK) inv may.first may.last may.inside far (may.unusable, unowned, here) refl
        (λ x e takes. absurd cc)
        (λ u first last. word_there (head_place u + 1) (head_is_no_cell s.layout u m 1 first last (omega arith)))
        (λ u x first last apart mine. word_there x (mine_is_no_cell s u x m first last may.inside mine))
        (λ u k first last apart below own. inl (word_there (cell_place s.layout k) (λ e. theirs u k own (omega (arith, e)))))
        tt
        (listed (subst (Listed s t) may.resting (inv.listed t may.first may.last)))
        (word_there (head_place t + 2) (head_is_no_cell s.layout t m 2 may.first may.last (omega arith)) ∙ subst (PendsAs (s.words (head_place t + 2))) may.resting (inv.heads t may.first may.last).pending)
        (subst Sound (sym here) (λ e. refl))

    threads_are : s2.threads ≡ s.threads
    threads_are = fun_ext (λ u. by_put (λ (z : Thread). z ≡ s.threads u) s.threads t resting u (λ is. as_before ∙ sym (ap s.threads is)) (λ apart. refl))
      where
        as_before : resting ≡ s.threads t
        as_before = λ i. record { stage = sym may.resting i; held = (s.threads t).held }

    pub reinit_kept : Kept s1
    reinit_kept =
        subst (λ (z : (ℕ → ℕ) × (ℕ → Thread)). Kept (record { layout = s.layout; words = z.0; queues = s.queues; threads = z.1 })) (λ i. (words_are i, threads_are i))
        (queues_kept s2 s.queues kept)

  -- ---- who sleeps

  answers_still : (k x : ℕ) → Answering s k x → Answering s1 k x
  answers_still k x a = record {
    first = a.first;
    last = a.last;
    answers = same_answers s.layout s.words s1.words k x (s.threads x).stage (reinited_pending x a.first a.last) a.answers;
    awake = a.awake;
  }

  -- whoever sleeps on the mutex finds WAITERS still
  abbrev Kept_for_sleepers : Type 0
  Kept_for_sleepers = (u : ℕ) → stands_in u (sleepers s m) ≡ true → HasWaiters s m → (fields_of w).waiters ≡ true

  bits_still : Kept_for_sleepers → Queued s → (k u : ℕ) → k < s.layout.mutexes → stands_in u (sleepers s k) ≡ true → HasWaiters s1 k
  bits_still stays queued k u below there =
      at_or_else (λ (j : ℕ). stands_in u (sleepers s j) ≡ true → HasWaiters s j → HasWaiters s1 j) m k
      (λ here on. ap (λ (v : ℕ). (fields_of v).waiters) reinited_word ∙ stays u here on)
      (λ apart here on. ap (λ (v : ℕ). (fields_of v).waiters) (reinited_cell k apart) ∙ on) there (queued.bits k u below there)

  -- nobody owned it before either
  owner_before : Kept s → (k : ℕ) → (seen s1 k).owner ≡ None → (seen s k).owner ≡ None
  owner_before inv k =
      at_or_else (λ (j : ℕ). (seen s1 j).owner ≡ None → (seen s j).owner ≡ None) m k (λ none. unowned inv)
      (λ apart none. sym (ap (λ (o : Object). o.owner) (reinited_far k apart)) ∙ none)

  answered_still : Kept s → Queued s → (k u : ℕ) → k < s.layout.mutexes → (seen s1 k).owner ≡ None → stands_in u (sleepers s k) ≡ true → (x : ℕ) × Answering s1 k x
  answered_still inv queued k u below none there = let old = queued.answered k u below (owner_before inv k none) there in (old.0, answers_still k old.0 old.1)

  pub reinit_queued : Kept s → Kept_for_sleepers → Queued s → Queued s1
  reinit_queued inv stays queued = record {
    sleeps = queued.sleeps;
    one = queued.one;
    once = queued.once;
    bits = bits_still stays queued;
    answered = answered_still inv queued;
  }

pub sleepers_kept : (s : State) (m u : ℕ) → stands_in u (sleepers s m) ≡ true → HasWaiters s m → (fields_of (waiters_of (s.words (cell_place s.layout m)))).waiters ≡ true
sleepers_kept s m u there on = waiters_kept (s.words (cell_place s.layout m)) ∙ on
