-- What a trim of the kernel is to the machine.
use Rattle.std.proofs.Common.{◌≡◌, ℕ, ◌&&◌, Bool, true, false, List, [], Ok, Err, Result, refl, sym, ap, ◌∙◌, eq-eqb}
use Rattle.std.specs.Prelude.{if◌then◌else◌, slice_index, slice_set, MatchResult}
use Rattle.lockword.specs.declared.reply.Reply.{Reply}
use Rattle.lockword.specs.declared.reply.Reply.TheVariants.{EFAULT}
use Rattle.stepprograms.specs.declared.access.Access.TheVariants.{Trim}
use Rattle.stepprograms.specs.declared.access.Answer.TheVariants.{Trimmed, Fault}
use Rattle.lockword.specs.Cells.{waiters_alone}
use Rattle.stepprograms.specs.Accesses.{is_nobody, is_trimmed, Trims}
use Rattle.memorymap.specs.Addresses.{seen_at}
use Rattle.stepprograms.proofs.Trims.{trims_free, trims_unslept}
use Rattle.syscalls.specs.Kernels.{Kernel', queue_of}
use Rattle.syscalls.specs.Memories.{is_valid}
use Rattle.syscalls.specs.Answers.{TrimAnswers, TrimsAt}
use Rattle.protocol.specs.Machine.{put}
use Rattle.interleave.specs.Perform.{trim_performed, Performs, list_words}
use Rattle.interleave.proofs.Requeues.{and_false, put-itself}

-- the meaning of a trim leaves one answer and one word
one_answer : (w : ℕ) (q : List ℕ) (after : ℕ) (b : Bool) → Trims w q after b → b ≡ is_trimmed w q
one_answer w q after true t = let both = t.answer.0 refl in sym (λ i. eq-eqb w waiters_alone both.0 i && is_nobody (both.1 i))
one_answer w q after false t = go (is_trimmed w q) refl
  where
    go : (b : Bool) → is_trimmed w q ≡ b → false ≡ b
    go true is = t.answer.1 (trims_free w q is, trims_unslept w q is)
    go false is = refl

one_word : (w : ℕ) (q : List ℕ) (after : ℕ) (b : Bool) → Trims w q after b → after ≡ (if b then 0 else w)
one_word w q after true t = t.cleared refl
one_word w q after false t = t.kept refl

module _ (ws ws' : List ℕ) (kernel : Kernel') (base t at : ℕ) where
  -- the place of the word
  abbrev place : ℕ
  place = seen_at base at

  abbrev w : ℕ
  w = slice_index ws place

  abbrev q : List ℕ
  q = queue_of kernel place

  -- no queue changes
  stay : (b : Bool) (p : ℕ) → queue_of kernel p ≡ (if b then put (queue_of kernel) place q else queue_of kernel) p
  stay true p = ap (λ (f : ℕ → List ℕ). f p) (sym (put-itself (queue_of kernel) place))
  stay false p = refl

  -- and nobody is woken or moved
  abbrev empty : List ℕ
  empty = []

  nobody : (b : Bool) → empty ≡ (if b then empty else empty)
  nobody true = refl
  nobody false = refl

  pub performs_trim : (r : Result Bool Reply) → TrimAnswers ws place r → MatchResult r (TrimsAt ws ws' place q) (λ e. ws' ≡ ws) → Performs ws kernel kernel base t (Trim at) (trim_performed r)
  performs_trim (Ok b) valid trims = record {
    answer = ap Trimmed (one_answer w q (slice_index ws' place) b trims.word) ∙ sym (ap (λ (c : Bool). if c then Trimmed (is_trimmed w q) else Fault) valid);
    slept = and_false (is_valid ws place);
    woken = nobody (is_valid ws place);
    moved = nobody (is_valid ws place);
    queues = stay (is_valid ws place);
    threads = refl;
    heads = refl;
  }
  performs_trim (Err EFAULT) invalid same = record {
    answer = sym (ap (λ (c : Bool). if c then Trimmed (is_trimmed w q) else Fault) invalid);
    slept = and_false (is_valid ws place);
    woken = nobody (is_valid ws place);
    moved = nobody (is_valid ws place);
    queues = stay (is_valid ws place);
    threads = refl;
    heads = refl;
  }
  performs_trim (Err e) answers same = absurd answers

  pub trims_words : (r : Result Bool Reply) → TrimAnswers ws place r → MatchResult r (TrimsAt ws ws' place q) (λ e. ws' ≡ ws) → ws' ≡ list_words ws kernel base (Trim at)
  trims_words (Ok b) valid trims =
      trims.others
      ∙ ap (slice_set ws place) (one_word w q (slice_index ws' place) b trims.word ∙ ap (λ (c : Bool). if c then 0 else w) (one_answer w q (slice_index ws' place) b trims.word))
      ∙ sym (ap (λ (c : Bool). if c then slice_set ws place (if is_trimmed w q then 0 else w) else ws) valid)
  trims_words (Err EFAULT) invalid same = same ∙ sym (ap (λ (c : Bool). if c then slice_set ws place (if is_trimmed w q then 0 else w) else ws) invalid)
  trims_words (Err e) answers same = absurd answers
