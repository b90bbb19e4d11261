-- The page's data as its script reads it.
--
-- *Values.* What JSON.parse makes of a text (RFC 8259): a number, a word in quotes, or an array. `writes` gives its
-- text.
--
-- *The script.* What a thread does, what a mutex is, what a line tells and how the trace ends, by the places of the
-- arrays, as the page's script takes them; 0 is what isn't there. `checks/page` compares the script with these rows, value
-- by value.
use Rattle.std.specs.Prelude.{ℕ, zero, suc, ◌≡◌, ◌≢◌, ◌+◌, ◌-◌, ◌==◌, not, Bool, true, false, Option, Some, None, option_map, List, []}
use Rattle.std.specs.Prelude.{◌∷◌, ◌++◌, codes, decimal, if◌then◌else◌, length, slice_get}
use Rattle.std.specs.Str.{bytes_eq}
use Rattle.lockword.specs.Replies.{reply_word}
use Rattle.posixmutex.specs.Words.{operation_word}
use Rattle.posixmutex.specs.declared.object.Object.{Object}
use Rattle.facts.specs.Lives.{Act}
use Rattle.facts.specs.declared.fact.Begun.{Begun}
use Rattle.facts.specs.declared.fact.Fact.{Fact}
use Rattle.facts.specs.declared.fact.Fact.TheVariants as fact
use Rattle.facts.specs.declared.fact.Line.{Line}
use Rattle.facts.specs.declared.fact.Queue.{Queue}
use Rattle.facts.specs.declared.fact.Queue.TheVariants as queue
use Rattle.reasons.specs.Reasons.{reason_text}
use Rattle.verdict.specs.declared.checking.Finding.{Finding}
use Rattle.verdict.specs.declared.checking.Finding.TheVariants.{Illegal, Legal}
use Rattle.page.specs.Data.{end_text, history_end}
use Rattle.page.specs.Escapes.{escaped}
use Rattle.page.specs.Shows.{Turn, Whole}
use Rattle.page.specs.States.{Mutex, Shown, change_of}
use Rattle.page.specs.Texts.{item_text, object_text, status_text}
use Rattle.page.specs.declared.status.Bed.{Bed}
use Rattle.page.specs.declared.status.Status.{Status}

-- ---- values

-- an array is its first value and the others; Nothing is the empty one
pub data Json : Type 0 where
  Number : ℕ → Json
  Word : List ℕ → Json
  Nothing : Json
  Array : Json → Json → Json

-- the text of a value; of the values of an array that follow its first one
abbrev pub writes : Bool → Json → List ℕ → List ℕ
writes whole (Number n) after = decimal n ++ after
writes whole (Word w) after = codes "\"" ++ (w ++ (codes "\"" ++ after))
writes true Nothing after = codes "[]" ++ after
writes false Nothing after = codes "]" ++ after
writes true (Array first others) after = codes "[" ++ writes true first (writes false others after)
writes false (Array first others) after = codes "," ++ writes true first (writes false others after)

-- ---- as scripts take values

-- what is at place i of an array; nothing where it ends before
abbrev pub others : Json → Json
others (Array first rest) = rest
others v = Nothing

abbrev pub first_of : Json → Json
first_of (Array first rest) = first
first_of v = Nothing

abbrev pub beyond : ℕ → Json → Json
beyond zero v = v
beyond (suc i) v = others (beyond i v)

abbrev pub at : ℕ → Json → Json
at i v = first_of (beyond i v)

-- neither 0 nor absent
abbrev pub is_there : Json → Bool
is_there (Number n) = not (n == 0)
is_there (Word w) = true
is_there Nothing = false
is_there (Array first rest) = true

-- whether an array has more values after place i
abbrev pub is_some_array : Json → Bool
is_some_array (Array first rest) = true
is_some_array v = false

abbrev pub has : ℕ → Json → Bool
has i v = is_some_array (beyond i v)

abbrev pub number : Json → ℕ
number (Number n) = n
number v = 0

abbrev pub word : Json → List ℕ
word (Word w) = w
word v = []

-- ---- the script's values

-- a call: its word, its mutex, and perhaps its condition variable
pub record CallRead : Type 0 where
  pub operation : List ℕ
  pub mutex : ℕ
  pub condition : Option ℕ

pub record PointRead : Type 0 where
  pub operation : List ℕ
  pub reply : List ℕ

-- what a thread does
pub record StatusRead : Type 0 where
  pub life : ℕ
  pub killed : Bool
  pub reaped : Bool
  pub call : Option CallRead
  pub point : Option PointRead
  pub bed : Option Bed

-- what a line tells
pub data FactRead : Type 0 where
  Begins : ℕ → CallRead → FactRead
  TakesEffect : ℕ → ℕ → PointRead → FactRead
  IsMarked : ℕ → ℕ → FactRead
  FallsAsleep : ℕ → Queue → FactRead
  IsWoken : ℕ → FactRead
  IsMoved : ℕ → Queue → FactRead
  Returns : ℕ → List ℕ → FactRead
  IsKilled : ℕ → FactRead
  IsReaped : ℕ → FactRead
  LivesAgain : ℕ → FactRead
  Unknown : FactRead

-- ---- the script

-- q[0] === "m" ? mutex : condition, of number q[1]
abbrev pub queue_read : Json → Queue
queue_read q = if bytes_eq (word (at 0 q)) (codes "m") then queue.Mutex (number (at 1 q)) else queue.Condition (number (at 1 q))

-- c[0], c[1], and c[2] if c has more than two
abbrev pub call_read : Json → CallRead
call_read c = record {
  operation = word (at 0 c);
  mutex = number (at 1 c);
  condition = if has 2 c then Some (number (at 2 c)) else None;
}

abbrev pub point_read : Json → PointRead
point_read p = record { operation = word (at 0 p); reply = word (at 1 p) }

abbrev pub bed_read : Json → Bed
bed_read b = record { queue = queue_read b; line = number (at 2 b) }

-- [life, killed, reaped, call, point, bed]
abbrev pub status_read : Json → StatusRead
status_read s = record {
  life = number (at 0 s);
  killed = is_there (at 1 s);
  reaped = is_there (at 2 s);
  call = if is_there (at 3 s) then Some (call_read (at 3 s)) else None;
  point = if is_there (at 4 s) then Some (point_read (at 4 s)) else None;
  bed = if is_there (at 5 s) then Some (bed_read (at 5 s)) else None;
}

-- [owner, inconsistent, unusable]
abbrev pub object_read : Json → Object
object_read o = record {
  owner = if is_there (at 0 o) then Some (number (at 0 o)) else None;
  inconsistent = is_there (at 1 o);
  unusable = is_there (at 2 o);
}

-- by its word f[0], of thread f[1]
abbrev pub fact_by : List ℕ → Json → FactRead
fact_by w f =
    if bytes_eq w (codes "begin") then Begins (number (at 1 f)) (call_read (beyond 2 f))
    else (if bytes_eq w (codes "point") then TakesEffect (number (at 1 f)) (number (at 2 f)) (point_read (beyond 3 f))
    else (if bytes_eq w (codes "death") then IsMarked (number (at 1 f)) (number (at 2 f))
    else (if bytes_eq w (codes "sleep") then FallsAsleep (number (at 1 f)) (queue_read (beyond 2 f))
    else (if bytes_eq w (codes "wake") then IsWoken (number (at 1 f))
    else (if bytes_eq w (codes "move") then IsMoved (number (at 1 f)) (queue_read (beyond 2 f))
    else (if bytes_eq w (codes "return") then Returns (number (at 1 f)) (word (at 2 f))
    else (if bytes_eq w (codes "kill") then IsKilled (number (at 1 f))
    else (if bytes_eq w (codes "reaped") then IsReaped (number (at 1 f))
    else (if bytes_eq w (codes "renew") then LivesAgain (number (at 1 f)) else Unknown)))))))))

abbrev pub fact_read : Json → FactRead
fact_read f = fact_by (word (at 0 f)) f

-- ---- what stands for what

abbrev pub call_shown : Begun → CallRead
call_shown c = record { operation = operation_word c.operation; mutex = c.mutex; condition = c.condition }

abbrev pub point_shown : Act → PointRead
point_shown a = record { operation = operation_word a.0; reply = reply_word a.1 }

abbrev pub status_shown : Status → StatusRead
status_shown s = record {
  life = s.life;
  killed = s.killed;
  reaped = s.reaped;
  call = option_map call_shown s.call;
  point = option_map point_shown s.point;
  bed = s.bed;
}

abbrev pub fact_shown : Fact → FactRead
fact_shown (fact.Begin t c) = Begins t (call_shown c)
fact_shown (fact.Point d) = TakesEffect d.thread d.mutex (point_shown (d.operation, d.reply))
fact_shown (fact.Death t m) = IsMarked t m
fact_shown (fact.Sleep t q) = FallsAsleep t q
fact_shown (fact.Wake t) = IsWoken t
fact_shown (fact.Move t m) = IsMoved t (queue.Mutex m)
fact_shown (fact.Return t x) = Returns t (reply_word x)
fact_shown (fact.Kill t) = IsKilled t
fact_shown (fact.Reap t) = IsReaped t
fact_shown (fact.Renew t) = LivesAgain t

-- ---- what is written is read as what it stands for

-- the text is that of a value, and these bytes follow it
pub record Reads (text after : List ℕ) (P : Json → Type 0) : Type 0 where
  pub value : Json
  pub is : text ≡ writes true value after
  pub says : P value

abbrev pub IsStatus : Json → Status → Type 0
IsStatus v s = status_read v ≡ status_shown s

-- no thread has the number 0, which stands for no owner
abbrev pub IsObject : Json → Object → Type 0
IsObject v o = o.owner ≢ Some 0 → object_read v ≡ o

-- the values of an array, or those after its first ones, say this of these things, one by one
abbrev pub Say : {A : Type 0} → (Json → A → Type 0) → Json → List A → Type 0
Say says v [] = v ≡ Nothing
Say says (Array first rest) (x ∷ xs) = says first x × Say says rest xs
Say says v (x ∷ xs) = ⊥

-- a line's value: its event, what it tells, what its thread does after it, and after a point or a death what its mutex is.
-- The script changes the thread and the mutex that places 1 and 2 of the fact name
pub record IsLine (e : Line) (es : List Line) (v : Json) : Type 0 where
  pub event : number (at 0 v) ≡ e.event
  pub tells : fact_read (at 1 v) ≡ fact_shown e.fact
  pub thread : number (at 1 (at 1 v)) ≡ (change_of e es).thread
  pub status : IsStatus (at 2 v) (change_of e es).status
  pub unchanged : (change_of e es).mutex ≡ None → has 3 v ≡ false
  pub mutex : (m : Mutex) → (change_of e es).mutex ≡ Some m
      → (has 3 v ≡ true) × (number (at 2 (at 1 v)) ≡ m.number) × IsObject (at 3 v) m.object

-- a whole state: [["threads", ..], ["mutexes", ..]]
pub record IsWhole (s : Shown) (v : Json) : Type 0 where
  pub threads : (word (at 0 (at 0 v)) ≡ codes "threads") × Say IsStatus (others (at 0 v)) s.threads
  pub mutexes : (word (at 0 (at 1 v)) ≡ codes "mutexes") × Say IsObject (others (at 1 v)) s.mutexes

-- the line that doesn't fit: 0 if it is the trace's last one
abbrev pub IsMisfitLine : Option Line → Json → Type 0
IsMisfitLine None v = is_there v ≡ false
IsMisfitLine (Some e) v = (is_there v ≡ true) × (number (at 0 v) ≡ e.event) × (fact_read (at 1 v) ≡ fact_shown e.fact)

-- how the trace ends: the number of its events, how many lines it has between its first and its last one, and of an illegal
-- trace the number of the line that doesn't fit, why, and that line
abbrev pub IsEnd : Finding → ℕ → List Line → Json → Type 0
IsEnd (Legal points) last ls v =
    (word (at 0 v) ≡ codes "legal") × (number (at 1 v) ≡ last) × (number (at 2 v) ≡ length ls)
IsEnd (Illegal found) last ls v = (word (at 0 v) ≡ codes "illegal") × (number (at 1 v) ≡ last)
    × (number (at 2 v) ≡ length ls) × (number (at 3 v) ≡ found.line)
    × (word (at 4 v) ≡ escaped (reason_text found.misfit)) × IsMisfitLine (slice_get ls (found.line - 2)) (at 5 v)

-- of a trace that shows a history: the same, except for the first word; of an illegal history what is said of it, and the line
-- that is its illegal one, the last of the trace's
abbrev pub IsHistoryEnd : Option (List ℕ) → ℕ → List Line → Json → Type 0
IsHistoryEnd None last ls v =
    (word (at 0 v) ≡ codes "legal history") × (number (at 1 v) ≡ last) × (number (at 2 v) ≡ length ls)
IsHistoryEnd (Some why) last ls v = (word (at 0 v) ≡ codes "illegal history") × (number (at 1 v) ≡ last)
    × (number (at 2 v) ≡ length ls) × (number (at 3 v) ≡ length ls + 1)
    × (word (at 4 v) ≡ escaped why) × IsMisfitLine (slice_get ls (length ls + 1 - 2)) (at 5 v)

pub record ScriptReadsStates : Type 0 where
  pub statuses : (s : Status) → Reads (status_text s) [] (λ v. IsStatus v s)
  pub objects : (o : Object) → Reads (object_text o) [] (λ v. IsObject v o)
  pub lines : (e : Line) (es : List Line) → Reads (item_text (Turn e (change_of e es))) (codes ",\n") (IsLine e es)
  pub wholes : (s : Shown) → Reads (item_text (Whole s)) (codes ",\n") (IsWhole s)
  pub histories : (why : Option (List ℕ)) (last : ℕ) (ls : List Line)
      → Reads (history_end why last ls) (codes "\n]\n") (IsHistoryEnd why last ls)
  pub ends : (f : Finding) (last : ℕ) (ls : List Line) → Reads (end_text f last ls) (codes "\n]\n") (IsEnd f last ls)
