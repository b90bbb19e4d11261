-- Which replies a mutex allows.
--
-- *What is allowed.* The replies that the object's step permits, by a test of each, where the mutex stands so to the
-- thread. That the test is right is a clause of its own (`AllowedArePermitted`): a reply passes exactly where a step
-- with it leaves some object.
use Rattle.std.specs.Prelude.{ℕ, ◌≡◌, ◌↔◌, ◌&&◌, ◌||◌, Bool, true, false, not, List, [], ◌∷◌, ◌++◌}
use Rattle.std.specs.Prelude.{codes, if◌then◌else◌}
use Rattle.std.specs.List.{concat}
use Rattle.std.specs.Option.{is_none}
use Rattle.lockword.specs.declared.reply.Reply.{Reply}
use Rattle.lockword.specs.declared.reply.Reply.TheVariants.{OK, EPERM, EBUSY, EINVAL, EDEADLK, ETIMEDOUT, EOWNERDEAD}
use Rattle.lockword.specs.declared.reply.Reply.TheVariants.{ENOTRECOVERABLE, XRACED, XFULL, XSTATE}
use Rattle.lockword.specs.Replies.{all_replies, reply_word}
use Rattle.posixmutex.specs.declared.object.Object.{Object}
use Rattle.posixmutex.specs.declared.point.Operation.{Operation}
use Rattle.posixmutex.specs.declared.point.Operation.TheVariants.{Lock, TryLock, TimedLock, Unlock, Consistent, Wait, TimedWait}
use Rattle.posixmutex.specs.declared.point.Operation.TheVariants.{Signal, Broadcast, Death, Reinit}
use Rattle.posixmutex.specs.Histories.{is_thread}
use Rattle.posixmutex.specs.Objects.{Permits}
use Rattle.posixmutex.specs.Words.{operation_word}
use Rattle.explain.specs.declared.explanation.Standing.{Standing}

-- how a mutex stands to thread t
abbrev pub standing_of : Object → ℕ → Standing
standing_of o t = record {
  owns = is_thread t o.owner;
  free = is_none o.owner;
  inconsistent = o.inconsistent;
  unusable = o.unusable;
}

-- nobody owns the mutex, and it is usable
abbrev pub is_free : Standing → Bool
is_free s = s.free && not s.unusable

-- the thread's operation may have the reply, if it holds fewer mutexes than it may
abbrev pub allows : Standing → Operation → Reply → Bool
allows s Lock OK = is_free s && not s.inconsistent
allows s Lock EOWNERDEAD = is_free s && s.inconsistent
allows s Lock ENOTRECOVERABLE = s.unusable
allows s Lock EDEADLK = s.owns
allows s TryLock OK = is_free s && not s.inconsistent
allows s TryLock EOWNERDEAD = is_free s && s.inconsistent
allows s TryLock ENOTRECOVERABLE = s.unusable
allows s TryLock EBUSY = not s.free
allows s TryLock XRACED = is_free s
allows s TimedLock ETIMEDOUT = true
allows s Unlock OK = s.owns
allows s Unlock EPERM = not s.owns
allows s Consistent OK = s.owns && s.inconsistent
allows s Consistent EINVAL = s.owns && not s.inconsistent
allows s Consistent EPERM = not s.owns
allows s Wait XSTATE = s.owns && s.inconsistent
allows s Wait EPERM = not s.owns
allows s Signal OK = s.owns
allows s Signal XFULL = s.owns
allows s Signal EPERM = not s.owns
allows s Broadcast OK = s.owns
allows s Broadcast XFULL = s.owns
allows s Broadcast EPERM = not s.owns
allows s Death OK = s.owns
allows s Reinit OK = s.free && s.unusable
allows s op r = false

-- a step with this reply leaves some object
abbrev pub IsPermitted : Object → ℕ → Operation → Reply → Type 0
IsPermitted o t op r = (new : Object) × Permits o t op r new

-- the replies that pass are those
abbrev pub AllowedArePermitted : Object → ℕ → Standing → Type 0
AllowedArePermitted o t s = (op : Operation) (r : Reply) → (allows s op r ≡ true) ↔ IsPermitted o t op r

-- ---- as it is said

-- where it has no reply: a lock of a mutex that another thread owns sleeps, a wait of the owner of a consistent mutex
-- unlocks it, and what a wait with a time limit does is named as a wait's
abbrev pub unanswered : Operation → List ℕ
unanswered Lock = codes " sleeps"
unanswered Wait = codes " isn't refused"
unanswered TimedWait = codes " has no point of its own"
unanswered op = codes " has no reply"

-- what comes before an allowed reply: it is the first, or another one comes before it
abbrev pub before_reply : Bool → List ℕ
before_reply true = codes " or "
before_reply false = codes " may reply "

-- a reply, if it is allowed, after others or none
abbrev pub reply_words : Standing → Operation → Bool → Reply → List ℕ
reply_words s op told r = if allows s op r then concat (before_reply told ∷ reply_word r ∷ []) else []

abbrev pub end_words : Operation → Bool → List ℕ
end_words op told = if told then [] else concat (unanswered op ∷ [])

-- those of these replies that are allowed; that there is none, where none was said before either
unfoldable pub allowed_words : Standing → Operation → Bool → List Reply → List ℕ
allowed_words s op told [] = end_words op told
allowed_words s op told (r ∷ rs) = reply_words s op told r ++ allowed_words s op (told || allows s op r) rs

-- what comes after them: a time limit may come only after another's ownership, which this mutex needn't show any
-- more, and a lock whose limit doesn't come is named as a lock without one
abbrev pub behind_replies : Operation → List ℕ
behind_replies TimedLock = codes " where another thread owned the mutex since the call began, and else its point is a `lock`\n"
behind_replies TimedWait = codes ": its first is a `wait` or an `unlock`\n"
behind_replies op = codes " here\n"

abbrev pub allowed_text : Standing → Operation → List ℕ
allowed_text s op = concat (codes "  = " ∷ operation_word op ∷ [])
    ++ (allowed_words s op false all_replies ++ concat (behind_replies op ∷ []))
