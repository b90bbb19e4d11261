-- When a call is refused, and how.
--
-- *Trim.* The word at an address is trimmed as the meaning of a trim says, by the model's own queue of that word; every
-- other word stays, and so does every queue. EFAULT tells that the address is invalid, and then no word changes.
--
-- *Requeue.* The first of the one word's queue are woken, and then the first of the rest are moved to the end of the
-- other word's queue, in order, at most this many of each; every other queue and each head stays. Refused with EINVAL
-- where the addresses are equal, else with EFAULT where one is invalid, and, where it compares, else with EAGAIN where
-- the low half of the first word isn't the expected value; then nothing is changed. That equal addresses are refused,
-- that this comes first, and that both calls answer who was woken and who was moved, is the project's own. Source:
-- futex(2), FUTEX_REQUEUE and FUTEX_CMP_REQUEUE.
use Rattle.std.specs.Prelude.{ℕ, ◌≡◌, ◌≢◌, ◌≤◌, ◌%◌, ◌^◌, Bool, List, slice_index}
use Rattle.std.specs.Prelude.{slice_set, Result, Ok, Err, IsTrue, IsFalse}
use Rattle.lockword.specs.declared.reply.Reply.{Reply}
use Rattle.lockword.specs.declared.reply.Reply.TheVariants.{ESRCH, EAGAIN, EFAULT, EINVAL}
use Rattle.stepprograms.specs.Accesses.{Trims}
use Rattle.syscalls.specs.Kernels.{Kernel', head_of, head_size}
use Rattle.syscalls.specs.Memories.{is_valid}

-- the futex word in the word at a place: its low half
abbrev pub futex_word : List ℕ → ℕ → ℕ
futex_word words at = slice_index words at % 2 ^ 32

-- a wait sleeps exactly where the futex word is the expected one. EFAULT tells that the place is invalid, and else
-- EAGAIN that the word differs
abbrev pub WaitAnswers : List ℕ → ℕ → ℕ → Result (Unit {0}) Reply → Type 0
WaitAnswers words at expected (Ok x) = IsTrue (is_valid words at) × (futex_word words at ≡ expected)
WaitAnswers words at expected (Err EAGAIN) = IsTrue (is_valid words at) × (futex_word words at ≢ expected)
WaitAnswers words at expected (Err EFAULT) = IsFalse (is_valid words at)
WaitAnswers words at expected (Err r) = ⊥

-- a wake is refused exactly where the place is invalid
abbrev pub WakeAnswers : {X : Type 0} → List ℕ → ℕ → Result X Reply → Type 0
WakeAnswers words at (Ok x) = IsTrue (is_valid words at)
WakeAnswers words at (Err EFAULT) = IsFalse (is_valid words at)
WakeAnswers words at (Err r) = ⊥

-- and so is a trim
abbrev pub TrimAnswers : List ℕ → ℕ → Result Bool Reply → Type 0
TrimAnswers words at (Ok trimmed) = IsTrue (is_valid words at)
TrimAnswers words at (Err EFAULT) = IsFalse (is_valid words at)
TrimAnswers words at (Err r) = ⊥

-- the word at a place was trimmed, on which these threads sleep; every other word stays
pub record TrimsAt (old new : List ℕ) (at : ℕ) (queue : List ℕ) (trimmed : Bool) : Type 0 where
  pub word : Trims (slice_index old at) queue (slice_index new at) trimmed
  pub others : new ≡ slice_set old at (slice_index new at)

-- both places are valid
abbrev pub BothValid : List ℕ → ℕ → ℕ → Type 0
BothValid words from to = IsTrue (is_valid words from) × IsTrue (is_valid words to)

-- a requeue is refused exactly where the places are equal, which EINVAL tells, and else where one of them is invalid,
-- which EFAULT tells
abbrev pub RequeueAnswers : {X : Type 0} → List ℕ → ℕ → ℕ → Result X Reply → Type 0
RequeueAnswers words from to (Ok x) = (from ≢ to) × BothValid words from to
RequeueAnswers words from to (Err EINVAL) = from ≡ to
RequeueAnswers words from to (Err EFAULT) = (from ≢ to) × ¬ BothValid words from to
RequeueAnswers words from to (Err r) = ⊥

-- the same, and else it is refused where the futex word at the first place isn't the expected one, which EAGAIN tells
abbrev pub CmpRequeueAnswers : {X : Type 0} → List ℕ → ℕ → ℕ → ℕ → Result X Reply → Type 0
CmpRequeueAnswers words from expected to (Ok x) =
    (from ≢ to) × BothValid words from to × (futex_word words from ≡ expected)
CmpRequeueAnswers words from expected to (Err EAGAIN) =
    (from ≢ to) × BothValid words from to × (futex_word words from ≢ expected)
CmpRequeueAnswers words from expected to (Err EINVAL) = from ≡ to
CmpRequeueAnswers words from expected to (Err EFAULT) = (from ≢ to) × ¬ BothValid words from to
CmpRequeueAnswers words from expected to (Err r) = ⊥

-- a head is set exactly where the length told is its size, and EINVAL tells that it isn't
abbrev pub SetHeadAnswers : ℕ → Result (Unit {0}) Reply → Type 0
SetHeadAnswers len (Ok x) = len ≡ head_size
SetHeadAnswers len (Err EINVAL) = len ≢ head_size
SetHeadAnswers len (Err r) = ⊥

-- this id is a thread's
abbrev pub IsThread : Kernel' → ℕ → Type 0
IsThread k id = (1 ≤ id) × (id ≤ k.threads)

-- a thread's head is recorded with its size, and ESRCH tells that no thread has the id
abbrev pub GetHeadAnswers : Kernel' → ℕ → Result (ℕ × ℕ) Reply → Type 0
GetHeadAnswers k id (Ok (head, len)) = IsThread k id × (head ≡ head_of k id) × (len ≡ head_size)
GetHeadAnswers k id (Err ESRCH) = ¬ IsThread k id
GetHeadAnswers k id (Err r) = ⊥
