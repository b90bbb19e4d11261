-- What a lane shows between the lines of its thread.
use Rattle.std.specs.Prelude.{ℕ, List, codes, Option, Some, None}
use Rattle.posixmutex.specs.declared.point.Operation.{Operation}
use Rattle.facts.specs.declared.fact.Fact.{Fact}
use Rattle.facts.specs.declared.fact.Fact.TheVariants.{Begin, Kill, Sleep, Wake, Return, Reap, Renew}
use Rattle.picture.specs.declared.lane.Lane.{Lane}
use Rattle.picture.specs.declared.lane.Lane.TheVariants.{Idle, Calling, Asleep, Dying, Reaped}
use Rattle.picture.specs.Signs.{dot, bar, dashes, dagger}

-- the operation of its call
abbrev pub called : Lane → Option Operation
called (Calling op) = Some op
called (Asleep op) = Some op
called lane = None

abbrev pub slept : Lane → Lane
slept (Calling op) = Asleep op
slept lane = lane

abbrev pub woken : Lane → Lane
woken (Asleep op) = Calling op
woken lane = lane

-- what it shows after a line of its thread: a call from its begin to its return or its kill, sleep until a wake, and
-- death until the thread lives again
abbrev pub after : Lane → Fact → Lane
after lane (Begin t c) = Calling c.operation
after lane (Sleep t q) = slept lane
after lane (Wake t) = woken lane
after lane (Return t x) = Idle
after lane (Kill t) = Dying
after lane (Reap t) = Reaped
after lane (Renew t) = Idle
after lane f = lane

-- its sign in a row of text
abbrev pub stays : Lane → List ℕ
stays Idle = dot
stays (Calling op) = bar
stays (Asleep op) = codes "z"
stays Dying = dashes
stays Reaped = dagger
