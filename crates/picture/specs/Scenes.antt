-- What all lanes and bands show, line after line.
--
-- *Scene.* After each line: what each thread's lane shows (`after`: a call from its begin to its return or its kill,
-- sleep until a wake, death), each mutex's object (`stepped`: pthread_mutex_lock, pthread_mutex_consistent), of those
-- that have bands, and whose event it is, as far as lines tell.
use Rattle.std.specs.Prelude.{ℕ, ◌+◌, ◌==◌, Option, Some, None, List, [], ◌∷◌}
use Rattle.std.specs.Prelude.{replicate, slice_index_or, slice_set, if◌then◌else◌}
use Rattle.lockword.specs.Threads.{most_threads}
use Rattle.posixmutex.specs.declared.object.Object.{Object}
use Rattle.posixmutex.specs.declared.point.Decision.{Decision}
use Rattle.posixmutex.specs.Objects.{fresh, stepped}
use Rattle.facts.specs.declared.fact.Fact.{Fact}
use Rattle.facts.specs.declared.fact.Line.{Line}
use Rattle.facts.specs.Facts.{thread_of, decision_of, is_passive}
use Rattle.picture.specs.declared.lane.Lane.{Lane}
use Rattle.picture.specs.declared.lane.Lane.TheVariants.{Idle}
use Rattle.picture.specs.declared.scene.Scene.{Scene}
use Rattle.picture.specs.declared.bands.Bands.{Bands}
use Rattle.picture.specs.Bands.{band_of}
use Rattle.picture.specs.Lanes.{after}

-- how many mutexes have a band at most
abbrev pub most_bands : ℕ
most_bands = 16

-- what lane t shows
abbrev pub lane_at : List Lane → ℕ → Lane
lane_at lanes t = slice_index_or lanes t Idle

-- a line is drawn in its thread's lane, and changes what that one shows
abbrev pub lanes_behind : List Lane → Fact → List Lane
lanes_behind lanes f = slice_set lanes (thread_of f) (after (lane_at lanes (thread_of f)) f)

-- a point or a death changes its mutex, where that has a band
abbrev pub object_behind : List Object → Decision → Option ℕ → List Object
object_behind os d None = os
object_behind os d (Some i) = slice_set os i (stepped (slice_index_or os i fresh) d.thread d.operation d.reply)

abbrev pub objects_behind : Bands → List Object → Option Decision → List Object
objects_behind b os None = os
objects_behind b os (Some d) = object_behind os d (band_of b d.mutex)

-- whose event i is, of which the first lines tell: the thread of the first one that isn't told of what the event did to
-- another; a trace needn't tell
abbrev pub actor_of : ℕ → List Line → Option ℕ
actor_of i [] = None
actor_of i (l ∷ ls) =
    if l.event == i then (if is_passive l.fact then actor_of i ls else Some (thread_of l.fact)) else None

abbrev pub first_scene : Scene
first_scene = record { lanes = replicate (most_threads + 1) Idle; objects = replicate most_bands fresh; event = 0; actor = None }

-- after a line, the first of these
abbrev pub behind : Bands → Scene → Line → List Line → Scene
behind b s l ls = record {
  lanes = lanes_behind s.lanes l.fact;
  objects = objects_behind b s.objects (decision_of l.fact);
  event = l.event;
  actor = if l.event == s.event then s.actor else actor_of l.event ls;
}
