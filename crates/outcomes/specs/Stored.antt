-- Positions as the search stores them.
--
-- *Stored.* A position has a scene, which is the machine's words and sleepers; a standing for each thread, which is what
-- the thread is doing and how far it has come; and its phase. Other positions may have the same scene and standings.
use Rattle.std.specs.Prelude.{◌≡◌, List, map, slice_index}
use Rattle.std.specs.declared.alloc.Global.{Global}
use Rattle.std.specs.declared.rc.Rc.{Rc}
use Rattle.memorymap.specs.Layouts.{Layout'}
use Rattle.protocol.specs.declared.thread.Thread.{Thread}
use Rattle.interleave.specs.Saved.{sleepers_at}
use Rattle.interleave.specs.Shown.{thread_at}
use Rattle.outcomes.specs.declared.plan.Plan.{Plan}
use Rattle.outcomes.specs.declared.kept.Kept.{Kept}
use Rattle.outcomes.specs.declared.stored.Stored.{Stored}
use Rattle.outcomes.specs.Positions.{Place, Position}
use Rattle.outcomes.specs.Kept.{places_in, IsKept}
use Rattle.outcomes.specs.Standings.{Stood}

abbrev pub threads_in : List (Rc Stood Global) → List Thread
threads_in standings = map (λ r. r.value.thread) standings

abbrev pub places_among : List (Rc Stood Global) → List Place
places_among standings = map (λ r. r.value.place) standings

-- what is stored of a position is what is kept of it
pub record Holds (s : Stored) (k : Kept) : Type 0 where
  pub words : s.scene.value.words.items ≡ k.saved.words.items
  pub sleepers : s.scene.value.sleepers.items ≡ k.saved.sleepers.items
  pub threads : threads_in s.standings.items ≡ k.saved.threads.items
  pub phase : s.phase ≡ k.phase
  pub places : places_among s.standings.items ≡ places_in k.lives.value.items

-- a position of a plan is stored
abbrev pub IsStored : Plan → Stored → Type 0
IsStored plan s = (k : Kept) × IsKept plan k × Holds s k

-- the position that is stored, of a plan with this layout
abbrev pub stored_position : Layout' → Stored → Position
stored_position l s = record {
  state = record {
    layout = l;
    words = λ p. slice_index s.scene.value.words.items p;
    queues = λ p. sleepers_at s.scene.value.sleepers.items p;
    threads = thread_at (threads_in s.standings.items);
  };
  phase = s.phase;
  places = places_among s.standings.items;
}
