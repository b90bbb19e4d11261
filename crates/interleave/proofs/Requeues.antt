-- What a requeue of the kernel is to the machine.
use Rattle.std.proofs.Common.{◌≡◌, ◌≢◌, ℕ, ◌==◌, ◌%◌, ◌^◌, Bool, true, false, ◌&&◌, List, [], ◌++◌, take, drop, length, Ok, Err, Result, refl, sym, ap, ◌∙◌, eqb-true, eq-eqb}
use Rattle.std.specs.Prelude.{if◌then◌else◌, not, slice_index, MatchResult}
use mathlib.Core.Path.{fun_ext}
use Rattle.std.proofs.lemmas.List.{append-nil}
use Rattle.lockword.specs.declared.reply.Reply.{Reply}
use Rattle.lockword.specs.declared.reply.Reply.TheVariants.{EAGAIN, EFAULT, EINVAL}
use Rattle.stepprograms.specs.declared.access.Access.TheVariants.{Requeue, CmpRequeue}
use Rattle.stepprograms.specs.declared.access.Answer.TheVariants.{Again, Counts, Fault}
use Rattle.memorymap.specs.Addresses.{seen_at}
use Rattle.syscalls.specs.Kernels.{Kernel', queue_of, Requeues}
use Rattle.syscalls.specs.Memories.{is_valid}
use Rattle.syscalls.specs.Answers.{BothValid, RequeueAnswers, CmpRequeueAnswers}
use Rattle.protocol.specs.Machine.{put}
use Rattle.protocol.proofs.Puts.{by_put, put-other}
use Rattle.interleave.specs.declared.accesses.Performed.{Performed}
use Rattle.interleave.specs.Perform.{Performs, requeue_performed}

pub and_false : (b : Bool) → false ≡ (b && false)
and_false true = refl
and_false false = refl

-- a function with the value that it has there anyway
pub put-itself : {A : Type 0} (f : ℕ → A) (k : ℕ) → put f k (f k) ≡ f
put-itself f k = fun_ext (λ p. by_put (λ x. x ≡ f p) f k (f k) p (λ is. ap f (sym is)) (λ apart. refl))

differs : (from to : ℕ) → from ≢ to → (from == to) ≡ false
differs from to apart = go (from == to) refl
  where
    go : (b : Bool) → (from == to) ≡ b → (from == to) ≡ false
    go true is = absurd (apart (eqb-true from to is))
    go false is = is

same_place : (n : ℕ) → (n == n) ≡ true
same_place n = eq-eqb n n refl

-- of a section that was refused
abbrev nobody : Performed
nobody = record { answer = Fault; slept = false; woken = []; moved = [] }

module _ (ws : List ℕ) (old new : Kernel') (base t from n to k : ℕ) where
  -- the places of the two words
  abbrev source : ℕ
  source = seen_at base from

  abbrev target : ℕ
  target = seen_at base to

  abbrev q : List ℕ
  q = queue_of old source

  abbrev met : Bool
  met = is_valid ws source && (is_valid ws target && not (source == target))

  is_met : BothValid ws source target → source ≢ target → met ≡ true
  is_met valid apart = λ i. valid.0 i && (valid.1 i && not (differs source target apart i))

  unmet_same : source ≡ target → met ≡ false
  unmet_same same = ap (λ (b : Bool). is_valid ws source && (is_valid ws target && not b)) (ap (λ (x : ℕ). x == target) same ∙ same_place target) ∙ go (is_valid ws source) (is_valid ws target)
    where
      go : (a b : Bool) → (a && (b && false)) ≡ false
      go true true = refl
      go true false = refl
      go false b = refl

  unmet_invalid : ¬ BothValid ws source target → met ≡ false
  unmet_invalid not_both = go (is_valid ws source) refl (is_valid ws target) refl
    where
      go : (a : Bool) → is_valid ws source ≡ a → (b : Bool) → is_valid ws target ≡ b → (a && (b && not (source == target))) ≡ false
      go true x true y = absurd (not_both (x, y))
      go true x false y = refl
      go false x b y = refl

  abbrev left : List ℕ
  left = drop k (drop n q)

  abbrev these : List ℕ
  these = take k (drop n q)

  abbrev after : List ℕ → List ℕ → ℕ → List ℕ
  after rest moved = put (put (queue_of old) source rest) target (put (queue_of old) source rest target ++ moved)

  -- ---- refused

  refused : met ≡ false → new ≡ old → Performs ws old new base t (Requeue from n to k) nobody
  refused none same = record {
    answer = sym (ap (λ (b : Bool). if b then Counts (length (take n q)) (length these) else Fault) none);
    slept = and_false met;
    woken = sym (ap (λ (b : Bool). if b then take n q else []) none);
    moved = sym (ap (λ (b : Bool). if b then these else []) none);
    queues = λ p. ap (λ (z : Kernel'). queue_of z p) same ∙ sym (ap (λ (b : Bool). (if b then after left these else queue_of old) p) none);
    threads = ap (λ (z : Kernel'). z.threads) same;
    heads = ap (λ (z : Kernel'). z.heads) same;
  }

  -- ---- done

  requeued : (us vs : List ℕ) → met ≡ true → source ≢ target → Requeues old new source n target k us vs → Performs ws old new base t (Requeue from n to k) (record { answer = Counts (length us) (length vs); slept = false; woken = us; moved = vs })
  requeued us vs on apart r = record {
    answer = (λ i. Counts (length (r.firsts i)) (length (r.next i))) ∙ sym (ap (λ (b : Bool). if b then Counts (length (take n q)) (length these) else Fault) on);
    slept = and_false met;
    woken = r.firsts ∙ sym (ap (λ (b : Bool). if b then take n q else []) on);
    moved = r.next ∙ sym (ap (λ (b : Bool). if b then these else []) on);
    queues = λ p. each p ∙ sym (ap (λ (b : Bool). (if b then after left these else queue_of old) p) on);
    threads = r.threads;
    heads = r.heads;
  }
    where
      there : put (queue_of old) source left target ≡ queue_of old target
      there = put-other (queue_of old) source left target (λ e. apart (sym e))

      each : (p : ℕ) → queue_of new p ≡ after left these p
      each p =
          by_put (λ x. queue_of new p ≡ x) (put (queue_of old) source left) target (put (queue_of old) source left target ++ these) p
          (λ is. ap (queue_of new) is ∙ r.joined ∙ (λ i. sym there i ++ r.next i))
          (λ other. by_put (λ x. queue_of new p ≡ x) (queue_of old) source left p (λ is. ap (queue_of new) is ∙ r.left) (λ elsewhere. r.others p elsewhere other))

  pub performs_requeue : (r : Result (List ℕ × List ℕ) Reply) → RequeueAnswers ws source target r → MatchResult r (λ x. Requeues old new source n target k x.0 x.1) (λ e. new ≡ old) → Performs ws old new base t (Requeue from n to k) (requeue_performed r)
  performs_requeue (Ok x) (apart, valid) changes = requeued x.0 x.1 (is_met valid apart) apart changes
  performs_requeue (Err EINVAL) same changes = refused (unmet_same same) changes
  performs_requeue (Err EFAULT) (apart, invalid) changes = refused (unmet_invalid invalid) changes
  performs_requeue (Err e) answers changes = absurd answers

  -- ---- where the word is compared
  module _ (e : ℕ) where
    abbrev same_word : Bool
    same_word = slice_index ws source % 2 ^ 32 == e

    refused_too : met ≡ false → new ≡ old → Performs ws old new base t (CmpRequeue from e n to k) nobody
    refused_too none same = record {
      answer = sym (ap (λ (b : Bool). if b then (if same_word then Counts (length (take n q)) (length these) else Again) else Fault) none);
      slept = and_false met;
      woken = sym (ap (λ (b : Bool). if b then (if same_word then take n q else []) else []) none);
      moved = sym (ap (λ (b : Bool). if b then (if same_word then these else []) else []) none);
      queues = λ p. ap (λ (z : Kernel'). queue_of z p) same ∙ sym (ap (λ (b : Bool). (if b then after (if same_word then left else q) (if same_word then these else []) else queue_of old) p) none);
      threads = ap (λ (z : Kernel'). z.threads) same;
      heads = ap (λ (z : Kernel'). z.heads) same;
    }

    -- a word as expected is none difference
    expected : same_word ≡ true → (d : Performed) → Performs ws old new base t (Requeue from n to k) d → Performs ws old new base t (CmpRequeue from e n to k) d
    expected on d p = record {
      answer = p.answer ∙ sym (ap (λ (b : Bool). if met then (if b then Counts (length (take n q)) (length these) else Again) else Fault) on);
      slept = p.slept;
      woken = p.woken ∙ sym (ap (λ (b : Bool). if met then (if b then take n q else []) else []) on);
      moved = p.moved ∙ sym (ap (λ (b : Bool). if met then (if b then these else []) else []) on);
      queues = λ x. p.queues x ∙ sym (ap (λ (b : Bool). (if met then after (if b then left else q) (if b then these else []) else queue_of old) x) on);
      threads = p.threads;
      heads = p.heads;
    }

    -- one that differs leaves all as they are
    differing : met ≡ true → same_word ≡ false → new ≡ old → Performs ws old new base t (CmpRequeue from e n to k) (record { answer = Again; slept = false; woken = []; moved = [] })
    differing on other same = record {
      answer = sym (λ i. if on i then (if other i then Counts (length (take n q)) (length these) else Again) else Fault);
      slept = and_false met;
      woken = sym (λ i. if on i then (if other i then take n q else []) else []);
      moved = sym (λ i. if on i then (if other i then these else []) else []);
      queues = λ p. ap (λ (z : Kernel'). queue_of z p) same ∙ ap (λ (f : ℕ → List ℕ). f p) (sym unmoved) ∙ sym (λ i. (if on i then after (if other i then left else q) (if other i then these else []) else queue_of old) p);
      threads = ap (λ (z : Kernel'). z.threads) same;
      heads = ap (λ (z : Kernel'). z.heads) same;
    }
      where
        unmoved : after q [] ≡ queue_of old
        unmoved =
            ap (λ (f : ℕ → List ℕ). put f target (f target ++ [])) (put-itself (queue_of old) source)
            ∙ ap (put (queue_of old) target) (append-nil (queue_of old target))
            ∙ put-itself (queue_of old) target

    pub performs_cmp_requeue : (r : Result (List ℕ × List ℕ) Reply) → CmpRequeueAnswers ws source e target r → MatchResult r (λ x. Requeues old new source n target k x.0 x.1) (λ f. new ≡ old) → Performs ws old new base t (CmpRequeue from e n to k) (requeue_performed r)
    performs_cmp_requeue (Ok x) (apart, valid, is) changes = expected (eq-eqb (slice_index ws source % 2 ^ 32) e is) (requeue_performed (Ok x)) (requeued x.0 x.1 (is_met valid apart) apart changes)
    performs_cmp_requeue (Err EAGAIN) (apart, valid, other) changes = differing (is_met valid apart) (differs (slice_index ws source % 2 ^ 32) e other) changes
    performs_cmp_requeue (Err EINVAL) same changes = refused_too (unmet_same same) changes
    performs_cmp_requeue (Err EFAULT) (apart, invalid) changes = refused_too (unmet_invalid invalid) changes
    performs_cmp_requeue (Err f) answers changes = absurd answers
