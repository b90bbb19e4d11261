-- What is left of a dead thread's walk, in a state whose other words and queues may be others.
use Rattle.std.proofs.Common.{◌≡◌, ◌+◌, ◌<◌, ℕ, Bool, Option, Some, None, List, refl, sym, subst}
use Rattle.protocol.proofs.Vocabulary.{Thread, State, seen, fields_of, head_place, place_in, Rest, Part, LoadFirst, LoadOffset, LoadPending, LoadNext, LoadWord, Mark, WakeOne}
use Rattle.protocol.proofs.Vocabulary.{OnlyWaits, leads-same}
use Rattle.exitwalk.specs.declared.row.Row.{Row}
use Rattle.exitwalk.specs.declared.row.Row.TheVariants.{Ended}
use Rattle.exitwalk.specs.Walks.{Knows}
use Rattle.protocol.proofs.Seeing.{head_in, entry_in, words_in}
use Rattle.protocol.proofs.Kept.{Left, LeftOf, LeftIn, LeftFrom, Treats, LeftToWalk}

abbrev pub changed_to : State → (ℕ → ℕ) → (ℕ → List ℕ) → (ℕ → Thread) → State
changed_to s words queues threads = record { layout = s.layout; words = words; queues = queues; threads = threads }

-- the words of thread u's list are as they were; it owns the same mutexes; and a cell that it is about to mark has WAITERS set at most
module _ (s : State) (words : ℕ → ℕ) (queues : ℕ → List ℕ) (threads : ℕ → Thread) (u : ℕ)
    (entry : (x k : ℕ) → k < s.layout.mutexes → x ≡ entry_in s.layout u k → (seen s k).owner ≡ Some u → words (place_in s.layout u x) ≡ s.words (place_in s.layout u x))
    (first : words (head_place u) ≡ s.words (head_place u)) (pending : words (head_place u + 2) ≡ s.words (head_place u + 2))
    (owns : (k : ℕ) → (seen s k).owner ≡ Some u → (seen (changed_to s words queues threads) k).owner ≡ Some u)
    (owned : (k : ℕ) → (seen (changed_to s words queues threads) k).owner ≡ Some u → (seen s k).owner ≡ Some u)
    (marks : (k at v : ℕ) (again : Bool) → Treats s u at k → (fields_of v).owner ≡ u → OnlyWaits v again (s.words (place_in s.layout u at)) → OnlyWaits v again (words (place_in s.layout u at))) where
  abbrev s' : State
  s' = changed_to s words queues threads

  left_carries : (e p : ℕ) (es : List ℕ) (treated : Option ℕ) → Left s u e p es treated → Left s' u e p es treated
  left_carries e p es treated l = record {
    leads = leads-same (words_in s.layout u s.words) (words_in s.layout u words) (head_in s.layout u) e e es refl (λ x among. let k = l.entries x among in entry x k.0 k.1 k.2 k.3) l.leads;
    different = l.different;
    entries = λ x among. let k = l.entries x among in (k.0, k.1, k.2, owns k.0 k.3, k.4);
    all = λ k below own. l.all k below (owned k own);
    pending = l.pending;
  }

  rest_carries : (r : Rest) (treated : Option ℕ) → LeftOf s u r treated → LeftOf s' u r treated
  rest_carries r treated (es, l, offset, few) = (es, left_carries r.entry r.pending es treated l, offset, few)

  part_carries : (rest : Part) (treated : Option ℕ) → LeftIn s u rest treated → LeftIn s' u rest treated
  part_carries (Part.List r) treated l = rest_carries r treated l
  part_carries Part.Pending treated l = λ k below own. l k below (owned k own)

  from_carries : (e : ℕ) → LeftFrom s u e → LeftFrom s' u e
  from_carries e (es, l, few) = (es, subst (λ (p : ℕ). Left s' u e p es None) (sym pending) (left_carries e (s.words (head_place u + 2)) es None l), few)

  pub left_to_walk_carries : (r : Row) → Knows u (head_in s.layout u) r → LeftToWalk s u r → LeftToWalk s' u r
  left_to_walk_carries LoadFirst knows l = subst (LeftFrom s' u) (sym first) (from_carries (s.words (head_place u)) l)
  left_to_walk_carries (LoadOffset f) knows l = from_carries f l
  left_to_walk_carries (LoadPending f o) knows (l, offset) = (from_carries f l, offset)
  left_to_walk_carries (LoadNext r) knows l = rest_carries r None l
  left_to_walk_carries (LoadWord at rest) knows (k, treats, l) = (k, treats, part_carries rest (Some k) l)
  left_to_walk_carries (Mark at v again rest) knows (k, treats, l, only) = (k, treats, part_carries rest (Some k) l, marks k at v again treats knows.0 only)
  left_to_walk_carries (WakeOne at rest) knows (k, treats, l) = (k, treats, part_carries rest None l)
  left_to_walk_carries Ended knows l = l
