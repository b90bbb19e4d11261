-- Which layouts there are, and which fault tells that there is none.
--
-- *The first fault of a layout.* What is asked for is given, and else the first of threads, mutexes, conditions,
-- processes, bases and members (a thread of a process that isn't there) that is out of its limits is recorded. How
-- many threads it may have at most is said with the question.
use Rattle.std.specs.Prelude.{ℕ, ◌≡◌, List, length, Result, Ok, Err}
use Rattle.memorymap.specs.Layouts.{HasThreadsTo, HasMutexes, HasConditions, HasProcesses, HasBases, AreOf, one_process}
use Rattle.memorymap.specs.declared.layout.Layout.{Layout}
use Rattle.memorymap.specs.declared.layout.LayoutFault.{LayoutFault}
use Rattle.memorymap.specs.declared.layout.LayoutFault.TheVariants.{Threads, Mutexes, Conditions}
use Rattle.memorymap.specs.declared.layout.LayoutFault.TheVariants.{Processes, Bases, Members}

-- what is asked for is given, in one process that maps the words at 0, and else the first fault is reported
abbrev pub Lays : ℕ → ℕ → ℕ → List ℕ → Result Layout LayoutFault → Type 0
Lays most t m cs (Ok l) = HasThreadsTo most t × HasMutexes m × HasConditions m cs × (l ≡ one_process t m cs)
Lays most t m cs (Err Threads) = ¬ HasThreadsTo most t
Lays most t m cs (Err Mutexes) = HasThreadsTo most t × ¬ HasMutexes m
Lays most t m cs (Err Conditions) = HasThreadsTo most t × HasMutexes m × ¬ HasConditions m cs
Lays most t m cs (Err f) = ⊥

-- threads, mutexes and condition variables may be this many
abbrev pub MayBe : ℕ → ℕ → ℕ → List ℕ → Type 0
MayBe most t m cs = HasThreadsTo most t × HasMutexes m × HasConditions m cs

-- the same of threads of these processes, which map the words at these bases
abbrev pub LaysOver : ℕ → List ℕ → List ℕ → ℕ → List ℕ → Result Layout LayoutFault → Type 0
LaysOver most ps bs m cs (Ok l) =
    MayBe most (length ps) m cs × HasProcesses bs × HasBases bs × AreOf bs ps
    × (l ≡ record { threads = length ps; mutexes = m; conditions = cs; processes = ps; bases = bs })
LaysOver most ps bs m cs (Err Threads) = ¬ HasThreadsTo most (length ps)
LaysOver most ps bs m cs (Err Mutexes) = HasThreadsTo most (length ps) × ¬ HasMutexes m
LaysOver most ps bs m cs (Err Conditions) = HasThreadsTo most (length ps) × HasMutexes m × ¬ HasConditions m cs
LaysOver most ps bs m cs (Err Processes) = MayBe most (length ps) m cs × ¬ HasProcesses bs
LaysOver most ps bs m cs (Err Bases) = MayBe most (length ps) m cs × HasProcesses bs × ¬ HasBases bs
LaysOver most ps bs m cs (Err Members) = MayBe most (length ps) m cs × HasProcesses bs × HasBases bs × ¬ AreOf bs ps
