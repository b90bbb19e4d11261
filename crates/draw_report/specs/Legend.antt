-- What the signs of pictures in text mean.
use Rattle.std.specs.Prelude.{ℕ, List, [], ◌∷◌, ◌++◌, codes}
use Rattle.std.specs.List.{concat}
use Rattle.picture.specs.Signs.{dot, bar, dashes, dagger, top, disc, bottom, cross, ring}

-- the marks of lines, each in the lane of its thread
abbrev pub marks_legend : List (List ℕ)
marks_legend = codes
    "A row is a line of the trace: the number of its event, who owns each mutex behind it, and a lane for each thread.\n"
    ∷ top ∷ codes " lock m0        the thread begins a call\n"
    ∷ disc ∷ codes " m0 OK          the call takes effect, with its reply\n"
    ∷ bottom ∷ codes " OK             the call returns\n"
    ∷ codes "z on m0          the thread falls asleep\n"
    ∷ codes "> woken, < woken it is woken by the thread from whose lane the arrow comes\n"
    ∷ codes "> to m0, < to m0 it is moved, asleep, to the mutex\n"
    ∷ ring ∷ codes " woken          it left its queue by itself or at its time limit, or no line tells who woke it\n"
    ∷ cross ∷ codes " killed         the thread is killed\n"
    ∷ codes "! m0 owner died  the kernel marks a mutex that it owned\n"
    ∷ dagger ∷ codes " reaped         the kernel has gone through its list\n"
    ∷ codes "* renewed        it lives anew: its id is used again\n"
    ∷ []

-- what lanes show between marks, and bands at every row
abbrev pub lanes_legend : List (List ℕ)
lanes_legend = codes "A lane shows what its thread does:\n"
    ∷ dot ∷ codes "   it is in no call\n"
    ∷ bar ∷ codes "   it is in a call\n"
    ∷ codes "z   it is asleep in a call\n"
    ∷ dashes ∷ codes "   it was killed, and the kernel goes through its list\n"
    ∷ dagger ∷ codes "   it was reaped\n"
    ∷ codes "Below a mutex stands its owner:\n"
    ∷ codes "t1    t1 owns it\n"
    ∷ codes "t1!   t1 owns it, and has to declare it consistent: an owner died\n"
    ∷ codes "-!    an owner died, and nobody was told yet\n"
    ∷ codes "-     nobody owns it\n"
    ∷ codes "lost  nobody can have it, unless it is made anew\n"
    ∷ []

abbrev pub legend : List ℕ
legend = concat marks_legend ++ concat lanes_legend
