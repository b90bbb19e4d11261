-- Buffers that are emptied store by store.
use Rattle.std.proofs.Common.{◌≡◌, ℕ, List, [], ◌∷◌, length, refl, sym, ap, ◌∙◌}
use Rattle.std.specs.Prelude.{replicate}
use Rattle.protocol.proofs.Puts.{put-same, put-other}
use Rattle.storebuffers.specs.Buffers.{Store, Buffered, stored, with_words, drained, run_buffered}
use Rattle.storebuffers.specs.Buffers.Happening.{Drain}
use Rattle.storebuffers.specs.Runs.{AreDrained, BuffersDrain}

-- one drain of thread t, whose oldest store is x, and then those that empty the rest
module _ (t : ℕ) (x : Store) (xs : List Store) (b : Buffered) (is : b.buffers t ≡ x ∷ xs) where
  abbrev one : Buffered
  one = drained b t (x ∷ xs)

  its : one.buffers t ≡ xs
  its = put-same b.buffers t xs

  to : run_buffered b (replicate (length (x ∷ xs)) (Drain t)) ≡ run_buffered one (replicate (length xs) (Drain t))
  to = ap (λ (ys : List Store). run_buffered (drained b t ys) (replicate (length xs) (Drain t))) is

  one_more : AreDrained one (run_buffered one (replicate (length xs) (Drain t))) t → AreDrained b (run_buffered b (replicate (length (x ∷ xs)) (Drain t))) t
  one_more rest = record {
    memory = ap (λ (c : Buffered). c.memory) to
        ∙ rest.memory
        ∙ ap (λ (ys : List Store). with_words b.memory (stored ys one.memory.words)) its
        ∙ ap (λ (ys : List Store). with_words b.memory (stored ys b.memory.words)) (sym is);
    empty = ap (λ (c : Buffered). c.buffers t) to ∙ rest.empty;
    others = λ u apart. ap (λ (c : Buffered). c.buffers u) to ∙ rest.others u apart ∙ put-other b.buffers t xs u apart;
  }

empties : (t : ℕ) (xs : List Store) (b : Buffered) → b.buffers t ≡ xs → AreDrained b (run_buffered b (replicate (length xs) (Drain t))) t
empties t [] b is =
    record { memory = ap (λ (ys : List Store). with_words b.memory (stored ys b.memory.words)) (sym is); empty = is; others = λ u apart. refl }
empties t (x ∷ xs) b is = one_more t x xs b is (empties t xs (drained b t (x ∷ xs)) (put-same b.buffers t xs))

pub drain : BuffersDrain
drain b t = empties t (b.buffers t) b refl
