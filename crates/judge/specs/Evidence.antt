-- Which earlier lines say how a mutex stood: who got it, who declared it consistent, who left it, and who may have owned
-- it and died.
--
-- *Who gets and who leaves a mutex.* A lock or a wait that returns OK or EOWNERDEAD gives its thread the mutex, and so does
-- a wait whose time limit came. An unlock that returns OK leaves it, and so do a wait that returns ENOTRECOVERABLE, whose
-- thread had unlocked it, and the call that reinitialises it. A `consistent` that returns OK declares it consistent.
--
-- *Who may own a mutex.* A thread in a call on it; or one whose newest reply that changed the mutex gave it the mutex,
-- in this life.
--
-- Lines stand newest first.
use Rattle.std.specs.Prelude.{ℕ, ◌≡◌, ◌≢◌, ◌<◌, ◌+◌, ◌==◌, nat_lt, Bool, true, false, ◌&&◌, Option, Some, None}
use Rattle.std.specs.Bool.{Decides}
use Rattle.std.specs.Prelude.{List, [], ◌∷◌, ◌++◌, length, if◌then◌else◌}
use Rattle.lockword.specs.declared.reply.Reply.{Reply}
use Rattle.lockword.specs.declared.reply.Reply.TheVariants.{OK, ETIMEDOUT, EOWNERDEAD, ENOTRECOVERABLE}
use Rattle.posixmutex.specs.declared.point.Operation.{Operation}
use Rattle.posixmutex.specs.declared.point.Operation.TheVariants.{Lock, TryLock, TimedLock, Unlock, Consistent, Wait, TimedWait}
use Rattle.posixmutex.specs.declared.point.Operation.TheVariants.{Death, Reinit}
use Rattle.posixmutex.specs.declared.object.Object.{Object}
use Rattle.posixmutex.specs.Objects.{Permits}
use Rattle.facts.specs.declared.fact.Begun.{Begun}
use Rattle.facts.specs.declared.fact.Fact.TheVariants.{Begin, Return, Renew}
use Rattle.histories.specs.declared.entry.Entry.{Entry}
use Rattle.histories.specs.declared.entry.Entry.TheVariants.{Told}
use Rattle.certificates.specs.Certificates.{whose}
use Rattle.judge.specs.declared.reason.Standing.{Standing}
use Rattle.judge.specs.declared.reason.Standing.TheVariants.{Calling}
use Rattle.judge.specs.declared.evidence.Change.{Change}
use Rattle.judge.specs.declared.evidence.Change.TheVariants.{Gets, Declares, Leaves}
use Rattle.judge.specs.declared.evidence.EarlierReply.{EarlierReply}
use Rattle.judge.specs.declared.evidence.Evidence.{Evidence}
use Rattle.judge.specs.Reasons.{IsNewest, dies, standing_behind}

-- ---- a reply and its mutex

-- a lock or a wait, which gives its thread the mutex
abbrev pub gives : Reply → Bool
gives OK = true
gives EOWNERDEAD = true
gives x = false

-- a wait with a time limit, which may return as the owner though its limit came
abbrev pub gives_late : Reply → Bool
gives_late ETIMEDOUT = true
gives_late x = gives x

abbrev pub gets : Operation → Reply → Bool
gets Lock x = gives x
gets TryLock x = gives x
gets TimedLock x = gives x
gets Wait x = gives x
gets TimedWait x = gives_late x
gets op x = false

abbrev pub is_ok : Reply → Bool
is_ok OK = true
is_ok x = false

abbrev pub is_spoilt : Reply → Bool
is_spoilt ENOTRECOVERABLE = true
is_spoilt x = false

abbrev pub leaves : Operation → Reply → Bool
leaves Unlock x = is_ok x
leaves Reinit x = is_ok x
leaves Wait x = is_spoilt x
leaves TimedWait x = is_spoilt x
leaves op x = false

abbrev pub declares : Operation → Reply → Bool
declares Consistent x = is_ok x
declares op x = false

abbrev pub changes : Change → Operation → Reply → Bool
changes Gets op x = gets op x
changes Declares op x = declares op x
changes Leaves op x = leaves op x

-- ---- who may own it

-- the thread is in a call on mutex m
abbrev pub is_calling : ℕ → Standing → Bool
is_calling m (Calling c n) = c.mutex == m
is_calling m s = false

-- what this reply, of a thread that was there, says of its owning mutex m, if it says anything
abbrev pub owned_after : ℕ → Standing → Reply → Option Bool
owned_after m (Calling c n) x = if c.mutex == m
    then
    (if gets c.operation x then Some true
    else (if leaves c.operation x then Some false else None))
    else None
owned_after m s x = None

-- what this line of a thread that was there says of that; a new life owns nothing
abbrev pub owned_by : ℕ → Standing → Entry → Option Bool
owned_by m s (Told (Return t x)) = owned_after m s x
owned_by m s (Told (Renew t)) = Some false
owned_by m s e = None

-- what this line says of thread t's owning it
abbrev pub owned_at : ℕ → ℕ → Entry → List Entry → Option Bool
owned_at m t e es = if whose e == t then owned_by m (standing_behind t es) e else None

abbrev pub known_or : Option Bool → Option Bool → Option Bool
known_or (Some b) other = Some b
known_or None other = other

-- what its newest line says of that which says anything of it
abbrev pub owned : ℕ → ℕ → List Entry → Option Bool
owned m t [] = None
owned m t (e ∷ es) = known_or (owned_at m t e es) (owned m t es)

abbrev pub is_yes : Option Bool → Bool
is_yes (Some b) = b
is_yes None = false

abbrev pub may_own : ℕ → ℕ → List Entry → Bool
may_own m t es = if is_calling m (standing_behind t es) then true else is_yes (owned m t es)

-- ---- the lines

-- this line tells of the death of a thread which may have owned mutex m
abbrev pub is_death : ℕ → Entry → List Entry → Bool
is_death m e es = dies e && may_own m (whose e) es

-- the place, counted from 1, of the newest such line
abbrev pub death_behind : ℕ → List Entry → Option ℕ
death_behind m [] = None
death_behind m (e ∷ es) = if is_death m e es then Some (length es + 1) else death_behind m es

-- this reply, of thread t, which was there, at place n, where it changes mutex m so
abbrev pub changed_by : Change → ℕ → Standing → ℕ → Reply → ℕ → Option EarlierReply
changed_by k m (Calling c b) t x n = if (c.mutex == m) && changes k c.operation x
    then Some (record { place = n; thread = t; operation = c.operation; reply = x }) else None
changed_by k m s t x n = None

abbrev pub reply_by : Change → ℕ → Standing → Entry → ℕ → Option EarlierReply
reply_by k m s (Told (Return t x)) n = changed_by k m s t x n
reply_by k m s e n = None

abbrev pub first_of : Option EarlierReply → Option EarlierReply → Option EarlierReply
first_of (Some r) other = Some r
first_of None other = other

abbrev pub reply_at : Change → ℕ → Entry → List Entry → ℕ → Option EarlierReply
reply_at k m e es n = reply_by k m (standing_behind (whose e) es) e n

-- the newest reply that changed mutex m so
abbrev pub reply_behind : Change → ℕ → List Entry → Option EarlierReply
reply_behind k m [] = None
reply_behind k m (e ∷ es) = first_of (reply_at k m e es (length es + 1)) (reply_behind k m es)

-- a reply that changed the mutex otherwise, unless the one that gave it is newer
abbrev pub since : Option EarlierReply → Option EarlierReply → Option EarlierReply
since None newest = newest
since (Some got) None = None
since (Some got) (Some newest) = if nat_lt got.place newest.place then Some newest else None

abbrev pub evidence_of : ℕ → List Entry → Evidence
evidence_of m es = record {
  death = death_behind m es;
  got = reply_behind Gets m es;
  declared = since (reply_behind Gets m es) (reply_behind Declares m es);
  left = since (reply_behind Gets m es) (reply_behind Leaves m es);
}

-- ---- what a reply did to the mutex's object

-- at a call's own step of the object, a reply gives its thread the mutex exactly if the thread owns it then and didn't
-- before; and an owner's reply leaves the mutex exactly if nobody owns it then. The lock that ends a wait, and that of a
-- call with a time limit, is a lock; a wait that doesn't own its mutex after that has left it; and a wait whose time limit
-- came has it. A reply declares the mutex consistent exactly if the mutex was inconsistent and isn't then, and the thread
-- owns it still
pub record ChangesAreTheObjects : Type 0 where
  pub gives_it : (o : Object) (t : ℕ) (op : Operation) (x : Reply) (n : Object) → op ≢ Death → o.owner ≢ Some t
      → Permits o t op x n → Decides (gets op x) (n.owner ≡ Some t)
  pub gives_up : (o : Object) (t : ℕ) (op : Operation) (x : Reply) (n : Object) → op ≢ Death → o.owner ≡ Some t
      → Permits o t op x n → Decides (leaves op x) (n.owner ≡ None)
  pub remade : (o : Object) (t : ℕ) (x : Reply) (n : Object) → Permits o t Reinit x n → leaves Reinit x ≡ true
  pub timed : (o : Object) (t : ℕ) (x : Reply) (n : Object) → o.owner ≢ Some t → Permits o t Lock x n
      → Decides (gets TimedLock x) (n.owner ≡ Some t)
  pub waits : (o : Object) (t : ℕ) (x : Reply) (n : Object) → o.owner ≢ Some t → Permits o t Lock x n
      → Decides (gets Wait x) (n.owner ≡ Some t) × Decides (gets TimedWait x) (n.owner ≡ Some t)
  pub left : (o : Object) (t : ℕ) (x : Reply) (n : Object) → o.owner ≢ Some t → Permits o t Lock x n
      → Decides (leaves Wait x) (n.owner ≢ Some t) × Decides (leaves TimedWait x) (n.owner ≢ Some t)
  pub late : gets TimedWait ETIMEDOUT ≡ true
  pub declared : (o : Object) (t : ℕ) (op : Operation) (x : Reply) (n : Object) → Permits o t op x n
      → Decides (declares op x) ((o.inconsistent ≡ true) × (n.inconsistent ≡ false) × (n.owner ≡ Some t))

-- ---- the newest lines

-- this line, after those, is thread r.thread's reply in a call on mutex m, which changed the mutex so
pub record IsChange (k : Change) (m : ℕ) (e : Entry) (earlier : List Entry) (r : EarlierReply) : Type 0 where
  pub line : e ≡ Told (Return r.thread r.reply)
  pub place : r.place ≡ length earlier + 1
  pub call : Begun
  pub newest : IsNewest r.thread earlier (Told (Begin r.thread call))
  pub mutex : call.mutex ≡ m
  pub operation : call.operation ≡ r.operation
  pub changed : changes k r.operation r.reply ≡ true

-- it is the newest such line; or there is none
pub record IsNewestChange (k : Change) (m : ℕ) (es : List Entry) (r : EarlierReply) : Type 0 where
  pub later : List Entry
  pub line : Entry
  pub earlier : List Entry
  pub all : es ≡ later ++ line ∷ earlier
  pub is_change : IsChange k m line earlier r
  pub none_later : (last : List Entry) (e : Entry) (between : List Entry) (s : EarlierReply) → later ≡ last ++ e ∷ between
      → IsChange k m e (between ++ line ∷ earlier) s → ⊥

abbrev pub NoChange : Change → ℕ → List Entry → Type 0
NoChange k m es = (later : List Entry) (e : Entry) (earlier : List Entry) (r : EarlierReply) → es ≡ later ++ e ∷ earlier
    → IsChange k m e earlier r → ⊥

abbrev pub IsNewestOrNone : Change → ℕ → List Entry → Option EarlierReply → Type 0
IsNewestOrNone k m es (Some r) = IsNewestChange k m es r
IsNewestOrNone k m es None = NoChange k m es

-- this reply is the newest one that changed the mutex so, and newer than the one that gave it
abbrev pub IsSince : Change → ℕ → List Entry → EarlierReply → Type 0
IsSince k m es r =
    IsNewestChange k m es r × ((g : EarlierReply) → (evidence_of m es).got ≡ Some g → g.place < r.place)

-- what is named is such a reply; if none is named, there is none
pub record NamesSince (k : Change) (m : ℕ) (es : List Entry) (named : Option EarlierReply) : Type 0 where
  pub some : (r : EarlierReply) → named ≡ Some r → IsSince k m es r
  pub none : named ≡ None → (r : EarlierReply) → IsSince k m es r → ⊥

-- who got the mutex last; and who declared it consistent, and who left it, if that is newer
pub record EvidenceIsNewest : Type 0 where
  pub got : (m : ℕ) (es : List Entry) → IsNewestOrNone Gets m es (evidence_of m es).got
  pub declared : (m : ℕ) (es : List Entry) → NamesSince Declares m es (evidence_of m es).declared
  pub left : (m : ℕ) (es : List Entry) → NamesSince Leaves m es (evidence_of m es).left

-- the line that is named for a death tells of one, of a thread that may have owned the mutex, and is the newest such line;
-- a thread in a call on a mutex may own it, and so may one whose newest line is a reply of such a call that gave it the mutex
pub record DeathIsNamed : Type 0 where
  pub death : (m : ℕ) (es : List Entry) (n : ℕ) → (evidence_of m es).death ≡ Some n
      → (later : List Entry) × (e : Entry) × (earlier : List Entry) × (es ≡ later ++ e ∷ earlier) × (n ≡ length earlier + 1)
      × (dies e ≡ true) × (may_own m (whose e) earlier ≡ true)
  pub found : (m : ℕ) (e : Entry) (es : List Entry) → dies e ≡ true → may_own m (whose e) es ≡ true
      → (evidence_of m (e ∷ es)).death ≡ Some (length es + 1)
  pub calling : (m t : ℕ) (es : List Entry) (c : Begun) → IsNewest t es (Told (Begin t c)) → c.mutex ≡ m
      → may_own m t es ≡ true
  pub given : (m t : ℕ) (es : List Entry) (c : Begun) (x : Reply) → IsNewest t es (Told (Begin t c)) → c.mutex ≡ m
      → gets c.operation x ≡ true → may_own m t (Told (Return t x) ∷ es) ≡ true
  pub renewed : (m t : ℕ) (es : List Entry) → may_own m t (Told (Renew t) ∷ es) ≡ false
