use Rattle.std.proofs.Common.{◌≡◌, ◌+◌, ◌%◌, ◌^◌, ℕ, true, false, Bool, List, take, drop, Some, None, sym, ap, ◌∙◌, subst, arith}
use Rattle.std.specs.Prelude.{if◌then◌else◌, slice_index, bit_and, Result, Ok, Err, MatchResult}
use Rattle.lockword.specs.declared.reply.Reply.{Reply}
use Rattle.lockword.specs.declared.reply.Reply.TheVariants.{EAGAIN, EFAULT}
use Rattle.std.proofs.Common.{rules}
use Rattle.std.proofs.lemmas.Nat.{and_mask}
use Rattle.memorymap.proofs.Mappings.{sums}
use Rattle.protocol.specs.Machine.{stands_in}
use Rattle.syscalls.specs.Answers.{WaitAnswers}
use Rattle.syscalls.specs.Memories.{is_valid}
use Rattle.syscalls.specs.Kernels.{Kernel', queue_of, FallsAsleep}
use Rattle.interleave.specs.declared.saved.Sleeper.{Sleeper}
use Rattle.interleave.specs.Saved.{sleepers_at, AreApart}
use Rattle.interleave.proofs.Saving.{split_at, stands_between, apart_between, one_of, asleep_more}
use Rattle.interleave.proofs.Sleeping.{contained}
use Rattle.interleave.proofs.saved.put_to_sleep.Goals as goal
use Rattle.interleave.proofs.saved.put_to_sleep.Goals.{in-Some, in_default}

pub wait-requires-clause-known : goal.wait-requires-clause-known
wait-requires-clause-known c =
    let ss = c.args.sleepers.now in
    let i = c.loop-sleeper.sleeper-index in
    let s = c.sleeper-item.result in
    let split = split_at i ss s c.loop-sleeper-test.true c.sleeper-item.is in
    let stands : stands_in s.thread (sleepers_at ss s.place) ≡ true = ap (λ (xs : List Sleeper). stands_in s.thread (sleepers_at xs s.place)) split ∙ stands_between (take i ss) s (drop (i + 1) ss) in
    let known = (c.requires.known s.place s.thread stands).0 in
    let threads = c.loop-sleeper.invariant.threads in
    omega (arith, known, threads)

pub wait-requires-clause-awake : goal.wait-requires-clause-awake
wait-requires-clause-awake c = λ key h.
    let ss = c.args.sleepers.now in
    let i = c.loop-sleeper.sleeper-index in
    let s = c.sleeper-item.result in
    let split = split_at i ss s c.loop-sleeper-test.true c.sleeper-item.is in
    let one = apart_between (take i ss) s (drop (i + 1) ss) (subst AreApart split c.requires.apart) in
    let out : stands_in s.thread (sleepers_at (take i ss) key) ≡ false = one_of s.thread (take i ss) key one in
    let stands : stands_in s.thread (sleepers_at (take i ss) key) ≡ true = ap (stands_in s.thread) (sym (c.loop-sleeper.invariant.queues key)) ∙ contained s.thread (queue_of c.loop-sleeper.kernel key) h in
    cc

-- a wait on a valid place, for the low half of its word, sleeps
slept : (words : List ℕ) (old new : Kernel') (t at place e : ℕ) (r : Result (Unit {0}) Reply) → at ≡ place → is_valid words place ≡ true → e ≡ slice_index words place % 2 ^ 32 → WaitAnswers words at e r → MatchResult r (λ _. FallsAsleep old new t at) (λ _. new ≡ old) → FallsAsleep old new t place
slept words old new t at place e r same valid low answer changes = go r (subst (λ (a : ℕ). WaitAnswers words a e r) same answer) (subst (λ (a : ℕ). MatchResult r (λ _. FallsAsleep old new t a) (λ _. new ≡ old)) same changes)
  where
    go : (r : Result (Unit {0}) Reply) → WaitAnswers words place e r → MatchResult r (λ _. FallsAsleep old new t place) (λ _. new ≡ old) → FallsAsleep old new t place
    go (Ok x) answer changes = changes
    go (Err EAGAIN) answer changes = absurd (answer.1 (sym low))
    go (Err EFAULT) answer changes = absurd (let no : is_valid words place ≡ false = search (rules, answer) in cc)
    go (Err x) answer changes = absurd answer

pub loop-sleeper-preserved : goal.loop-sleeper-preserved
loop-sleeper-preserved c =
    let ss = c.args.sleepers.now in
    let i = c.loop-sleeper.sleeper-index in
    let s = c.sleeper-item.result in
    let words = c.args.memory.now in
    let split = split_at i ss s c.loop-sleeper-test.true c.sleeper-item.is in
    let stands : stands_in s.thread (sleepers_at ss s.place) ≡ true = ap (λ (xs : List Sleeper). stands_in s.thread (sleepers_at xs s.place)) split ∙ stands_between (take i ss) s (drop (i + 1) ss) in
    let valid = (c.requires.known s.place s.thread stands).1 in
    let read : c.load.result ≡ Some (slice_index words s.place) = c.load.ensures ∙ ap (λ (b : Bool). if b then Some (slice_index words s.place) else None) valid in
    elim c.match-load.branch [
      | in-Some w ↦
          (let word : w.in-Some.word ≡ slice_index words s.place = (let a = w.in-Some.is in cc) in
          let masked : bit_and w.in-Some.word 4294967295 ≡ w.in-Some.word % 2 ^ 32 = and_mask w.in-Some.word 32 in
          let falls = slept words c.loop-sleeper.kernel w.wait.new.self s.thread _ s.place _ w.wait.result (sums.at_zero s.place (omega arith)).1 valid (masked ∙ ap (λ (n : ℕ). n % 2 ^ 32) word) w.wait.ensures.answer w.wait.ensures.changes in
          rw w.kernel-is (record {
            queues = λ key. asleep_more ss i s (queue_of c.loop-sleeper.kernel) key (queue_of w.wait.new.self key) c.loop-sleeper-test.true c.sleeper-item.is c.loop-sleeper.invariant.queues (falls.queues key);
            threads = falls.threads ∙ c.loop-sleeper.invariant.threads;
            heads = falls.heads ∙ c.loop-sleeper.invariant.heads;
          }))
      | in_default w ↦ (let is = w.in_default.is in absurd cc)
    ]
