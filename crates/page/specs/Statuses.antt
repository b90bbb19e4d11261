-- What a thread does after some lines, which stand newest first.
--
-- *What a thread does.* Which life it is in, counted by its renewals; its call, that call's newest point, and that it
-- was killed and reaped, as the judge of traces has them; where it sleeps, and since which line.
use Rattle.std.specs.Prelude.{ℕ, ◌+◌, true, false, ◌==◌, Option, Some, None, List, [], ◌∷◌, length, if◌then◌else◌}
use Rattle.facts.specs.declared.fact.Queue.TheVariants.{Mutex}
use Rattle.facts.specs.declared.fact.Fact.{Fact}
use Rattle.facts.specs.declared.fact.Fact.TheVariants.{Begin, Point, Death, Sleep, Wake}
use Rattle.facts.specs.declared.fact.Fact.TheVariants.{Move, Return, Kill, Reap, Renew}
use Rattle.facts.specs.declared.fact.Line.{Line}
use Rattle.facts.specs.Facts.{thread_of}
use Rattle.facts.specs.Lives.{Act}
use Rattle.verdict.specs.Earlier.{call_in, is_killed, is_reaped, told_of}
use Rattle.page.specs.declared.status.Bed.{Bed}
use Rattle.page.specs.declared.status.Status.{Status}

-- ---- after lines

-- which life a thread is in, of which these facts are reported
abbrev pub life_in : List Fact → ℕ
life_in [] = 1
life_in (Renew t ∷ fs) = life_in fs + 1
life_in (f ∷ fs) = life_in fs

-- the newest point since its call began
abbrev pub point_in : List Fact → Option Act
point_in [] = None
point_in (Begin t c ∷ fs) = None
point_in (Return t x ∷ fs) = None
point_in (Kill t ∷ fs) = None
point_in (Point d ∷ fs) = Some (d.operation, d.reply)
point_in (f ∷ fs) = point_in fs

-- where a thread sleeps after its fact at line k, if it slept there before it
abbrev pub slept : Fact → ℕ → Option Bed → Option Bed
slept (Sleep t q) k b = Some (record { queue = q; line = k })
slept (Move t m) k b = Some (record { queue = Mutex m; line = k })
slept (Wake t) k b = None
slept (Kill t) k b = None
slept f k b = b

-- where thread t sleeps; the first line after the head is line 2
abbrev pub bed_of : ℕ → List Line → Option Bed
bed_of t [] = None
bed_of t (e ∷ es) = if thread_of e.fact == t then slept e.fact (length es + 2) (bed_of t es) else bed_of t es

-- what a thread does of which these facts are reported, and which sleeps there
abbrev pub told_so : List Fact → Option Bed → Status
told_so fs b = record {
  life = life_in fs;
  call = call_in fs;
  point = point_in fs;
  bed = b;
  killed = is_killed fs;
  reaped = is_reaped fs;
}

-- what thread t does
abbrev pub status_of : ℕ → List Line → Status
status_of t es = told_so (told_of t es) (bed_of t es)

abbrev pub first_status : Status
first_status = told_so [] None

-- ---- from line to line

-- what becomes of it by a fact of the thread at line k
abbrev pub after : Status → Fact → ℕ → Status
after s (Begin t c) k = record s { call = Some c; point = None }
after s (Point d) k = record s { point = Some (d.operation, d.reply) }
after s (Death t m) k = s
after s (Sleep t q) k = record s { bed = Some (record { queue = q; line = k }) }
after s (Wake t) k = record s { bed = None }
after s (Move t m) k = record s { bed = Some (record { queue = Mutex m; line = k }) }
after s (Return t x) k = record s { call = None; point = None }
after s (Kill t) k = record s { call = None; point = None; bed = None; killed = true }
after s (Reap t) k = record s { reaped = true }
after s (Renew t) k = record s { life = s.life + 1; killed = false; reaped = false }
