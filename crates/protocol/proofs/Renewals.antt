-- Threads that were reaped and live again.
use Rattle.std.proofs.Common.{◌≡◌, ◌≢◌, ◌⊎◌, inl, inr, ℕ, zero, suc, ◌+◌, ◌<◌, ◌≤◌, Bool, true, false, None, Some, [], refl, sym, ap, ◌∙◌, subst, arith}
use Rattle.protocol.proofs.Vocabulary.{Object, Operation, Access, Layout', head_place, cell_place, counter_place, fields_of, held_by, stands_in, Thread, Stage, Idle, Reaped, State, put, seen, if◌then◌else◌, nat_tests}
use Rattle.protocol.proofs.Vocabulary.{address_in, place_in}
use mathlib.Core.Path.{fun_ext}
use Rattle.memorymap.specs.Layouts.{head_word, cell_offset}
use Rattle.robustlist.proofs.Lists.{begins_empty}
use Rattle.protocol.specs.Machine.{idle, is_in_head, renewed}
use Rattle.protocol.specs.Applies.{IsInNoQueue}
use Rattle.protocol.proofs.Puts.{by_put, put-same, put-other}
use Rattle.protocol.proofs.Objects.{one}
use Rattle.protocol.proofs.Seeing.{head_in, words_in, head_again}
use Rattle.mutex.proofs.Addresses.{again}
use Rattle.protocol.proofs.Kept.{Listed, Kept}
use Rattle.protocol.proofs.Steps.{Transition, after}
use Rattle.protocol.proofs.Stepping.{SleepsAs, AnswersAs}
use Rattle.protocol.proofs.WalkStepping.{same_answers}
use Rattle.protocol.proofs.OwnWords.{own_words, own_seen, own_kept}
use Rattle.protocol.proofs.Departures.{queues_kept}
use Rattle.protocol.proofs.Queued.{Queued, Answering}
use Rattle.protocol.proofs.Queues.{not_true}
use Rattle.protocol.proofs.Cases.{at_or_else, same_object}

-- ---- words

-- the words of a head at first
pub first_of_head : (l : Layout') (t : ℕ) → 1 ≤ t → head_word l (head_place t) ≡ head_in l t
first_of_head l t pos = grind (arith, nat_tests)

pub second_of_head : (l : Layout') (t : ℕ) → 1 ≤ t → head_word l (head_place t + 1) ≡ cell_offset
second_of_head l t pos = grind (arith, nat_tests)

pub third_of_head : (l : Layout') (t : ℕ) → 1 ≤ t → head_word l (head_place t + 2) ≡ 0
third_of_head l t pos = grind (arith, nat_tests)

-- a place before the head's, or after them
outside_head : (t p : ℕ) → (p < head_place t) ⊎ (head_place t + 3 ≤ p) → is_in_head t p ≡ false
outside_head t p (inl before) = grind (arith, nat_tests)
outside_head t p (inr behind) = grind (arith, nat_tests)

inside_head : (t k : ℕ) → k < 3 → is_in_head t (head_place t + k) ≡ true
inside_head t k few = grind (arith, nat_tests)

-- whoever owns no mutex counts none
owns_none : (t n : ℕ) (f : ℕ → Object) → ((m : ℕ) → (f m).owner ≢ Some t) → held_by t f n ≡ 0
owns_none t zero f none = refl
owns_none t (suc n) f none = let last : one t (f n) ≡ 0 = counts_none t (f n) (none n) in let before = owns_none t n f none in omega arith
  where
    counts_none : (t : ℕ) (o : Object) → o.owner ≢ Some t → one t o ≡ 0
    counts_none t o apart = grind (arith)

-- WAITERS, as a word says
abbrev IsWaiting : ℕ → Type 0
IsWaiting w = (fields_of w).waiters ≡ true

-- ---- one renewal

module _ (s : State) (t : ℕ) (pos : 1 ≤ t) (known : t ≤ s.layout.threads) where
  abbrev pub s1 : State
  s1 = (renewed s t).state

  pub renewed_word : (k : ℕ) → k < 3 → s1.words (head_place t + k) ≡ head_word s.layout (head_place t + k)
  renewed_word k few = ap (λ (b : Bool). if b then head_word s.layout (head_place t + k) else s.words (head_place t + k)) (inside_head t k few)

  pub renewed_elsewhere : (p : ℕ) → (p < head_place t) ⊎ (head_place t + 3 ≤ p) → s1.words p ≡ s.words p
  renewed_elsewhere p out = ap (λ (b : Bool). if b then head_word s.layout p else s.words p) (outside_head t p out)

  pub renewed_cell : (m : ℕ) → s1.words (cell_place s.layout m) ≡ s.words (cell_place s.layout m)
  renewed_cell m = renewed_elsewhere (cell_place s.layout m) (inr (omega arith))

  pub renewed_counter : (k : ℕ) → s1.words (counter_place s.layout k) ≡ s.words (counter_place s.layout k)
  renewed_counter k = renewed_elsewhere (counter_place s.layout k) (inr (omega arith))

  pub renewed_seen : (m : ℕ) → seen s1 m ≡ seen s m
  renewed_seen m = same_object s.layout s.words s1.words m (λ below. renewed_cell m)

  -- another's head
  pub renewed_pending : (u : ℕ) → 1 ≤ u → u ≢ t → s1.words (head_place u + 2) ≡ s.words (head_place u + 2)
  renewed_pending u first apart = renewed_elsewhere (head_place u + 2) (before_or_behind)
    where
      before_or_behind : (head_place u + 2 < head_place t) ⊎ (head_place t + 3 ≤ head_place u + 2)
      before_or_behind = grind (arith)

  pub renewed_thread : s1.threads t ≡ idle
  renewed_thread = put-same s.threads t idle

  pub renewed_other : (u : ℕ) → u ≢ t → s1.threads u ≡ s.threads u
  renewed_other u apart = put-other s.threads t idle u apart

  module _ (inv : Kept s) (gone : (s.threads t).stage ≡ Reaped) where
    pub reaped_owns_none : (m : ℕ) → (seen s m).owner ≢ Some t
    reaped_owns_none = subst (λ (g : Stage). Listed s t g) gone (inv.listed t pos known)

    -- its head's first word, and then its pending one, are stored as they were at first; between the two it is still
    -- dead
    abbrev pub first_store : Transition
    first_store = record { from = Reaped; access = Access.Store (head_in s.layout t) (head_in s.layout t); next = Reaped; mutex = 0; operation = Operation.Lock; point = None }

    abbrev pub second_store : Transition
    second_store = record { from = Reaped; access = Access.Store (address_in s.layout t (head_place t + 2)) 0; next = Idle; mutex = 0; operation = Operation.Lock; point = None }

    abbrev between : State
    between = after s t first_store

    abbrev behind : State
    behind = after between t second_store

    first_place : place_in s.layout t (head_in s.layout t) ≡ head_place t
    first_place = head_again s.layout t inv.layout pos known

    second_place : place_in s.layout t (address_in s.layout t (head_place t + 2)) ≡ head_place t + 2
    second_place = again s.layout t inv.layout pos known (head_place t + 2) (omega arith)

    some_mutex : 0 < s.layout.mutexes
    some_mutex = inv.layout.mutexes.0

    between_seen : (m : ℕ) → seen between m ≡ seen s m
    between_seen m = own_seen s t first_store inv pos known some_mutex tt (inl first_place) refl m

    between_kept : Kept between
    between_kept = own_kept s t first_store inv pos known some_mutex tt (inl first_place) refl tt (λ m own. reaped_owns_none m (sym (ap (λ (o : Object). o.owner) (between_seen m)) ∙ own)) tt

    behind_seen : (m : ℕ) → seen behind m ≡ seen s m
    behind_seen m = own_seen between t second_store between_kept pos known some_mutex tt (inr (inl second_place)) refl m ∙ between_seen m

    behind_first : behind.words (head_place t) ≡ head_in s.layout t
    behind_first =
        own_words between t second_store between_kept pos known some_mutex tt (inr (inl second_place)) refl (head_place t) (λ e. omega (arith, e, second_place))
        ∙ ap (λ (p : ℕ). put s.words p (head_in s.layout t) (head_place t)) first_place ∙ put-same s.words (head_place t) (head_in s.layout t)

    behind_third : behind.words (head_place t + 2) ≡ 0
    behind_third = ap (λ (p : ℕ). put between.words p 0 (head_place t + 2)) second_place ∙ put-same between.words (head_place t + 2) 0

    behind_kept : Kept behind
    behind_kept =
        own_kept between t second_store between_kept pos known some_mutex tt (inr (inl second_place)) refl tt (
          [],
          record { entries = λ x among. absurd among; all = λ k below own outside. absurd (reaped_owns_none k (sym (ap (λ (o : Object). o.owner) (behind_seen k)) ∙ own)) },
          begins_empty (words_in s.layout t behind.words) (head_in s.layout t) (ap behind.words first_place ∙ behind_first),
        ) behind_third

    words_are : behind.words ≡ s1.words
    words_are = (λ i. put (put s.words (first_place i) (head_in s.layout t)) (second_place i) 0) ∙ fun_ext each
      where
        each : (p : ℕ) → put (put s.words (head_place t) (head_in s.layout t)) (head_place t + 2) 0 p ≡ s1.words p
        each p = grind (arith, nat_tests)

    none_held : (s.threads t).held ≡ 0
    none_held = inv.held t pos known ∙ owns_none t s.layout.mutexes (seen s) reaped_owns_none

    threads_are : behind.threads ≡ s1.threads
    threads_are = fun_ext each
      where
        mine_is : record { stage = Idle; held = (between.threads t).held } ≡ idle
        mine_is = ap (λ (h : ℕ). record { stage = Idle; held = h }) (ap (λ (z : Thread). z.held) (put-same s.threads t (record { stage = Reaped; held = (s.threads t).held })) ∙ none_held)

        each : (u : ℕ) → behind.threads u ≡ s1.threads u
        each u =
            by_put (λ (z : Thread). z ≡ s1.threads u) between.threads t (record { stage = Idle; held = (between.threads t).held }) u
            (λ is. mine_is ∙ sym (ap s1.threads is ∙ renewed_thread))
            (λ apart. put-other s.threads t (record { stage = Reaped; held = (s.threads t).held }) u apart ∙ sym (renewed_other u apart))

    pub renew_kept : Kept s1
    renew_kept =
        subst (λ (z : (ℕ → ℕ) × (ℕ → Thread)). Kept (record { layout = s.layout; words = z.0; queues = s.queues; threads = z.1 })) (λ i. (words_are i, threads_are i))
        (queues_kept behind s.queues behind_kept)

  -- ---- who sleeps
  module _ (queued : Queued s) (gone : (s.threads t).stage ≡ Reaped) where
    pub reaped_out : IsInNoQueue s t
    reaped_out key = not_true (stands_in t (s.queues key)) (λ stands. subst (SleepsAs s.layout key) gone (queued.sleeps key t stands).2)

    stage_stays : (u : ℕ) → u ≢ t → (s1.threads u).stage ≡ (s.threads u).stage
    stage_stays u apart = ap (λ (z : Thread). z.stage) (renewed_other u apart)

    asleep_apart : (u key : ℕ) → stands_in u (s.queues key) ≡ true → u ≢ t
    asleep_apart u key there is = cc (sym (ap (λ (v : ℕ). stands_in v (s.queues key)) is) ∙ there, reaped_out key)

    answers_still : (m x : ℕ) → Answering s m x → Answering s1 m x
    answers_still m x =
        at_or_else (λ (y : ℕ). Answering s m y → Answering s1 m y) t x
        (λ a. absurd (subst (AnswersAs s.layout s.words m t) gone a.answers))
        (λ apart a. record {
          first = a.first;
          last = a.last;
          answers = subst (AnswersAs s.layout s1.words m x) (sym (stage_stays x apart)) (same_answers s.layout s.words s1.words m x (s.threads x).stage (renewed_pending x a.first apart) a.answers);
          awake = a.awake;
        })

    pub renew_queued : Queued s1
    renew_queued = record {
      sleeps = λ key u there. let slept = queued.sleeps key u there in (slept.0, slept.1, subst (SleepsAs s.layout key) (sym (stage_stays u (asleep_apart u key there))) slept.2);
      one = queued.one;
      once = queued.once;
      bits = λ m u inside there. subst IsWaiting (sym (renewed_cell m)) (queued.bits m u inside there);
      answered = λ m u inside none there. let old = queued.answered m u inside (sym (ap (λ (o : Object). o.owner) (renewed_seen m)) ∙ none) there in (old.0, answers_still m old.0 old.1);
    }
