-- Legal histories of all mutexes.
--
-- *Legal history.* A list of operations and deaths of all mutexes is legal where each, in its order, is a step of its
-- mutex's object and leaves the others; a thread's number of held mutexes is counted from the objects.
use Rattle.std.specs.Prelude.{ℕ, zero, suc, ◌≡◌, ◌≢◌, ◌+◌, ◌<◌, ◌==◌, Bool, false}
use Rattle.std.specs.Prelude.{Option, Some, None, List, [], ◌∷◌, if◌then◌else◌}
use Rattle.posixmutex.specs.declared.point.Decision.{Decision}
use Rattle.posixmutex.specs.declared.object.Object.{Object}
use Rattle.posixmutex.specs.Objects.{Does, fresh}

abbrev pub is_thread : ℕ → Option ℕ → Bool
is_thread t None = false
is_thread t (Some u) = u == t

-- how many of the first n mutexes thread t owns
abbrev pub held_by : ℕ → (ℕ → Object) → ℕ → ℕ
held_by t objects zero = 0
held_by t objects (suc n) = (if is_thread t (objects n).owner then 1 else 0) + held_by t objects n

-- each operation and each death, in their order, is a step of its mutex's object and leaves the others; n is the number
-- of mutexes
abbrev pub Legal : ℕ → (ℕ → Object) → List Decision → (ℕ → Object) → Type 0
Legal n old [] new = (m : ℕ) → new m ≡ old m
Legal n old (d ∷ ds) new =
    (d.mutex < n)
    × ((next : ℕ → Object) × Does (held_by d.thread old n) (old d.mutex) d.thread d.operation d.reply (next d.mutex)
    × ((m : ℕ) → m ≢ d.mutex → next m ≡ old m) × Legal n next ds new)

-- a history begins with every mutex free
abbrev pub opening : ℕ → Object
opening m = fresh
