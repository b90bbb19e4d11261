-- Sleepers that leave their queue by themselves.
use Rattle.std.proofs.Common.{◌≡◌, ℕ, Bool, true, false, Option, None, List, [], ◌∷◌, refl, arith}
use Rattle.protocol.proofs.Vocabulary.{Stage, Idle, Calling, AtCondition, Dying, Reaped, State, stands_in, stands_at, cell_place, is_asleep, departed, if◌then◌else◌}
use Rattle.buckets.specs.Queues.{without}
use Rattle.protocol.specs.Machine.{places_of}
use Rattle.protocol.specs.Applies.{IsInAQueue}
use Rattle.protocol.proofs.Kept.{Kept, Sits, Listed, Owned, left_out}
use Rattle.protocol.proofs.WalksLeft.{left_to_walk_carries}
use Rattle.protocol.proofs.Frames.{knows_at}
use Rattle.protocol.proofs.Queues.{Once, without_stands, once_without, not_true}
use Rattle.protocol.proofs.Queued.{Queued}

-- who sleeps where is nothing to calls, lists and walks
module _ (s : State) (qs : ℕ → List ℕ) (inv : Kept s) where
  abbrev s1 : State
  s1 = record s { queues = qs }

  still : (u h : ℕ) (g : Stage) → Sits s u h g → Sits s1 u h g
  still u h g f = grind (arith)

  owned_still : (u : ℕ) (out : Option ℕ) (es : List ℕ) → Owned s u out es → Owned s1 u out es
  owned_still u out es owned = record { entries = owned.entries; all = owned.all }

  listed_still : (u h : ℕ) (g : Stage) → Sits s u h g → Listed s u g → Listed s1 u g
  listed_still u h Idle sits (es, owned, ch) = (es, owned_still u None es owned, ch)
  listed_still u h (Calling c p) sits (es, owned, ch) = (es, owned_still u (left_out s.layout (Calling c p)) es owned, ch)
  listed_still u h (AtCondition c p) sits (es, owned, ch) = (es, owned_still u (left_out s.layout (AtCondition c p)) es owned, ch)
  listed_still u h (Dying w) sits l =
      left_to_walk_carries s s.words qs s.threads u (λ x k below is own. refl) refl refl (λ k own. own) (λ k own. own) (λ k at v again treats owner only. only) w.row (knows_at s.layout u w sits) l
  listed_still u h Reaped sits none = none

  pub queues_kept : Kept s1
  queues_kept = record {
    layout = inv.layout;
    sits = λ u first most. still u (s.threads u).held (s.threads u).stage (inv.sits u first most);
    listed = λ u first most. listed_still u (s.threads u).held (s.threads u).stage (inv.sits u first most) (inv.listed u first most);
    heads = λ u first most. record { offset = (inv.heads u first most).offset; pending = (inv.heads u first most).pending; few = (inv.heads u first most).few };
    sound = inv.sound;
    owners = inv.owners;
    held = inv.held;
  }

-- whoever sleeps stands in a queue
stands_where : (t : ℕ) (qs : ℕ → List ℕ) (ps : List ℕ) → stands_at t qs ps ≡ true → (key : ℕ) × (stands_in t (qs key) ≡ true)
stands_where t qs [] e = absurd cc
stands_where t qs (p ∷ ps) e = go (stands_in t (qs p)) refl e (stands_where t qs ps)
  where
    go : (b : Bool) → stands_in t (qs p) ≡ b → (if b then true else stands_at t qs ps) ≡ true → (stands_at t qs ps ≡ true → (key : ℕ) × (stands_in t (qs key) ≡ true)) → (key : ℕ) × (stands_in t (qs key) ≡ true)
    go true here e later = (p, here)
    go false none e later = later e

pub asleep_where : (s : State) (t : ℕ) → is_asleep s t ≡ true → IsInAQueue s t
asleep_where s t e = stands_where t s.queues (places_of s.layout (s.threads t).stage) e

-- where the queues alone change, and nobody comes to one, whoever answered answers still
pub fewer_queued : (s : State) (qs : ℕ → List ℕ) → ((u key : ℕ) → stands_in u (qs key) ≡ true → stands_in u (s.queues key) ≡ true) → ((key : ℕ) → Once (qs key)) → Queued s → Queued (record s { queues = qs })
fewer_queued s qs stood once queued = record {
  sleeps = λ key u stands. queued.sleeps key u (stood u key stands);
  one = λ u key at here there. queued.one u key at (stood u key here) (stood u at there);
  once = once;
  bits = λ m u inside stands. queued.bits m u inside (stood u (cell_place s.layout m) stands);
  answered = λ m u inside none stands.
      let old = queued.answered m u inside none (stood u (cell_place s.layout m) stands) in (
        old.0,
        record { first = old.1.first; last = old.1.last; answers = old.1.answers; awake = λ key. not_true (stands_in old.0 (qs key)) (λ stands. cc (stood old.0 key stands, old.1.awake key)) },
      );
}

-- so it is where a sleeper leaves
pub leave_queued : (s : State) (t : ℕ) → Queued s → Queued (departed s t).state
leave_queued s t queued = fewer_queued s (λ key. without t (s.queues key)) (λ u key stands. (without_stands t u (s.queues key) stands).0) (λ key. once_without t (s.queues key) (queued.once key)) queued
