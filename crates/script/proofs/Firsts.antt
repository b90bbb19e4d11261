-- The first machine of a script: its layout, and its counters.
use Rattle.std.proofs.Common.{◌≡◌, ◌≢◌, ℕ, zero, suc, ◌+◌, ◌<◌, ◌≤◌, Bool, true, false, nat_lt, List, [], ◌∷◌, ◌++◌, length, map, take, get_or, set, slice_get, All, Some, Result, Ok, Err, IsOk, replicate, if◌then◌else◌, refl, sym, ap, ◌∙◌, subst, arith, add-one}
use Rattle.std.specs.Option.{option_map}
use mathlib.Core.Path.{fun_ext}
use Rattle.std.proofs.Math.Seq.{take-suc}
use Rattle.std.proofs.lemmas.Bool.Decides.{nat_tests}
use Rattle.std.proofs.lemmas.List.{take_more_set, get_or_past}
use Rattle.std.proofs.lemmas.List.Elements.{All-map}
use Rattle.memorymap.specs.Layouts.{Layout', IsLayout, HasThreadsTo, HasConditions, HasProcesses, HasBases, AreOf, counter_place}
use Rattle.memorymap.specs.Refusals.{LaysOver}
use Rattle.lockword.specs.Threads.{named_threads}
use Rattle.memorymap.specs.declared.layout.Layout.{Layout}
use Rattle.memorymap.specs.declared.layout.LayoutFault.{LayoutFault}
use Rattle.memorymap.specs.declared.layout.LayoutFault.TheVariants.{Threads, Mutexes, Conditions, Processes, Bases, Members}
use Rattle.protocol.specs.Machine.{State, put, start}
use Rattle.protocol.specs.PassedBy.{ArePresets}
use Rattle.protocol.proofs.Puts.{by_put}
use Rattle.interleave.proofs.Reaches.{first_word-set}
use Rattle.script.specs.Limits.{max_base, max_counter}
use Rattle.script.specs.Playing.{layout_of, counter_of, first_state}
use Rattle.script.specs.Processes.{OneProcessWithoutALine}
use Rattle.script.specs.Scope.{Scope, IsWellFormed}
use Rattle.script.specs.declared.command.Condition.{Condition}
use Rattle.script.proofs.Names.{length-map_of}

-- ---- the layout

has_conditions : (s : Scope) → IsWellFormed s → HasConditions (length s.mutexes) (layout_of s).conditions
has_conditions s whole =
    let few = whole.within.conditions_at_most in
    (omega (arith, few, length-map_of (λ c. c.1.mutex) s.conditions), All-map (λ m. m < length s.mutexes) (λ c. c.1.mutex) s.conditions (λ i c lt. (whole.within.conditions_possible i c lt).0))

-- process 0 maps the words at 0, and the others where they were declared to
bases_low : (ps : List (List ℕ × ℕ)) → All (λ p. p.1 ≤ max_base) ps → HasBases (0 ∷ map (λ p. p.1) ps)
bases_low ps all zero d lt = omega arith
bases_low ps all (suc i) d lt = All-map (λ b. b ≤ 1000000000) (λ p. p.1) ps all i d (omega (arith, lt))

has_processes : (s : Scope) → IsWellFormed s → HasProcesses (layout_of s).bases
has_processes s whole = let few = whole.within.processes_at_most in (omega arith, omega (arith, few, length-map_of (λ p. p.1) s.processes))

are_of : (s : Scope) → IsWellFormed s → AreOf (layout_of s).bases s.members
are_of s whole i p lt = let its = whole.within.members_possible i p lt in omega (arith, its, length-map_of (λ x. x.1) s.processes)

-- what the machine of a script has is a layout
pub is_layout : (s : Scope) → IsWellFormed s → IsLayout (layout_of s)
is_layout s whole = record {
  threads = (whole.some_thread, omega (arith, whole.within.threads_at_most));
  mutexes = (whole.some_mutex, whole.within.mutexes_at_most);
  conditions = has_conditions s whole;
  each = whole.within.each_thread;
  processes = has_processes s whole;
  bases = bases_low s.processes whole.within.bases_possible;
  members = are_of s whole;
}

-- and it can be laid out
lays_its : (s : Scope) (r : Result Layout LayoutFault) → IsWellFormed s → LaysOver named_threads s.members (layout_of s).bases (length s.mutexes) (layout_of s).conditions r → IsOk r
lays_its s (Ok l) whole h = refl
lays_its s (Err Threads) whole h = absurd (h (subst (HasThreadsTo named_threads) (sym whole.within.each_thread) (whole.some_thread, whole.within.threads_at_most)))
lays_its s (Err Mutexes) whole h = absurd (h.1 (is_layout s whole).mutexes)
lays_its s (Err Conditions) whole h = absurd (h.2 (has_conditions s whole))
lays_its s (Err Processes) whole h = absurd (h.1 (has_processes s whole))
lays_its s (Err Bases) whole h = absurd (h.2 (is_layout s whole).bases)
lays_its s (Err Members) whole h = absurd (h.3 (are_of s whole))

pub lays : (s : Scope) (ps bs : List ℕ) (m : ℕ) (cs : List ℕ) (r : Result Layout LayoutFault) → IsWellFormed s → ps ≡ s.members → bs ≡ (layout_of s).bases → m ≡ length s.mutexes → cs ≡ (layout_of s).conditions → LaysOver named_threads ps bs m cs r
    → IsOk r
lays s ps bs m cs r whole members bases mutexes conditions h =
    lays_its s r whole (subst (λ (x : List ℕ). LaysOver named_threads x (layout_of s).bases (length s.mutexes) (layout_of s).conditions r) members
    (subst (λ (x : List ℕ). LaysOver named_threads ps x (length s.mutexes) (layout_of s).conditions r) bases
    (subst (λ (x : ℕ). LaysOver named_threads ps bs x (layout_of s).conditions r) mutexes
    (subst (λ (x : List ℕ). LaysOver named_threads ps bs m x r) conditions h))))

-- a script with no named process has one process
zeros : (xs : List ℕ) → All (λ p. p ≤ 0) xs → xs ≡ replicate (length xs) 0
zeros [] all = refl
zeros (x ∷ xs) all =
    let first : x ≡ 0 = let none = all 0 x (omega arith) in omega arith in
    λ i. first i ∷ zeros xs (λ j d lt. all (suc j) d (omega (arith, lt))) i

pub no_processes : OneProcessWithoutALine
no_processes s whole none =
    let fewest : All (λ p. p ≤ 0) s.members = subst (λ (ps : List (List ℕ × ℕ)). All (λ p. p ≤ length ps) s.members) none whole.within.members_possible in
    let members : s.members ≡ replicate (length s.threads) 0 = zeros s.members fewest ∙ ap (λ (n : ℕ). replicate n 0) whole.within.each_thread in
    λ i. record (layout_of s) { processes = members i; bases = 0 ∷ map (λ p. p.1) (none i) }

-- what was declared at a place
read_at : {V : Type 0} (f : V → ℕ) (cs : List (List ℕ × V)) (k d : ℕ) (x : V) → option_map (λ c. c.1) (slice_get cs k) ≡ Some x → get_or (map (λ c. f c.1) cs) k d ≡ f x
read_at f [] k d x h = absurd cc
read_at f (c ∷ cs) zero d x h = ap f (cc)
read_at f (c ∷ cs) (suc k) d x h = read_at f cs k d x h

-- one number more is as it should be
one_more_set : (ms cs : List ℕ) (k x : ℕ) → get_or cs k 0 ≡ x → k < length cs → k < length ms → take k ms ≡ take k cs → take (k + 1) (set ms k x) ≡ take (k + 1) cs
one_more_set ms cs k x is lt room so_far = take_more_set ms k x room ∙ (λ i. so_far i ++ sym is i ∷ []) ∙ sym (rw add-one (take-suc cs k 0 lt))

-- the base of one process more
pub base_more : (s : Scope) (bs : List ℕ) (k x : ℕ) → option_map (λ p. p.1) (slice_get s.processes k) ≡ Some x → k < length s.processes → k + 1 < length bs → take (k + 1) bs ≡ take (k + 1) (layout_of s).bases
    → take (k + 1 + 1) (set bs (k + 1) x) ≡ take (k + 1 + 1) (layout_of s).bases
base_more s bs k x is lt room so_far =
    let there : get_or (layout_of s).bases (k + 1) 0 ≡ x = ap (λ (j : ℕ). get_or (layout_of s).bases j 0) (add-one k) ∙ read_at (λ b. b) s.processes k 0 x is in
    one_more_set bs (layout_of s).bases (k + 1) x there (omega (arith, lt, length-map_of (λ p. p.1) s.processes)) room so_far

-- the mutexes of one condition variable more
pub mutex_more : (s : Scope) (ms : List ℕ) (k : ℕ) (x : Condition) → option_map (λ c. c.1) (slice_get s.conditions k) ≡ Some x → k < length s.conditions → k < length ms → take k ms ≡ take k (layout_of s).conditions
    → take (k + 1) (set ms k x.mutex) ≡ take (k + 1) (layout_of s).conditions
mutex_more s ms k x is lt room so_far =
    one_more_set ms (layout_of s).conditions k x.mutex (read_at (λ c. c.mutex) s.conditions k 0 x is) (omega (arith, lt, length-map_of (λ c. c.1.mutex) s.conditions)) room so_far

-- ---- the counters

-- each is within its limit, and one that isn't there reads as 0
small_at : (cs : List (List ℕ × Condition)) (k : ℕ) → All (λ c. c.1.counter ≤ max_counter) cs → get_or (map (λ c. c.1.counter) cs) k 0 ≤ max_counter
small_at [] k all = omega arith
small_at (c ∷ cs) zero all = all 0 c (omega arith)
small_at (c ∷ cs) (suc k) all = small_at cs k (λ i d lt. all (suc i) d (omega (arith, lt)))

pub are_presets : (s : Scope) → IsWellFormed s → ArePresets (counter_of s)
are_presets s whole k = small_at s.conditions k (λ i c lt. (whole.within.conditions_possible i c lt).1)

-- those of the condition variables below k are set
abbrev pub counter_below : Scope → ℕ → ℕ → ℕ
counter_below s k c = if nat_lt c k then counter_of s c else 0

pub none_set : (s : Scope) → counter_below s 0 ≡ (λ c. 0)
none_set s = fun_ext (λ c. let never : nat_lt c 0 ≡ false = grind (arith, nat_tests) in ap (λ (b : Bool). if b then counter_of s c else 0) never)

set_one : (s : Scope) (k : ℕ) (c : ℕ) → put (counter_below s k) k (counter_of s k) c ≡ counter_below s (k + 1) c
set_one s k c = by_put (λ (x : ℕ). x ≡ counter_below s (k + 1) c) (counter_below s k) k (counter_of s k) c
    (λ same. let below : nat_lt c (k + 1) ≡ true = grind (arith, nat_tests) in rw (below, same) refl)
    (λ apart. go c (nat_lt c k) (nat_lt c (k + 1)) refl refl apart)
  where
    go : (c : ℕ) (a b : Bool) → nat_lt c k ≡ a → nat_lt c (k + 1) ≡ b → c ≢ k → (if a then counter_of s c else 0) ≡ (if b then counter_of s c else 0)
    go c true true e f apart = refl
    go c false false e f apart = refl
    go c true false e f apart = absurd (grind (arith, nat_tests))
    go c false true e f apart = let low : c < k + 1 = grind (arith, nat_tests) in let high : k ≤ c = grind (arith, nat_tests) in absurd (apart (omega arith))

pub all_set : (s : Scope) (k : ℕ) → length s.conditions ≤ k → counter_below s k ≡ counter_of s
all_set s k most = fun_ext (λ c. go c (nat_lt c k) refl)
  where
    go : (c : ℕ) (b : Bool) → nat_lt c k ≡ b → (if b then counter_of s c else 0) ≡ counter_of s c
    go c true e = refl
    go c false e = let high : k ≤ c = grind (arith, nat_tests) in sym (get_or_past (map (λ d. d.1.counter) s.conditions) c 0 (omega (arith, most, length-map_of (λ d. d.1.counter) s.conditions)))

-- where the loop over the condition variables is before the one of number k
abbrev pub IsPreset : Scope → State → ℕ → Type 0
IsPreset s now k = now ≡ start (layout_of s) (counter_below s k)

pub preset_first : (s : Scope) (now : State) → now ≡ start (layout_of s) (λ c. 0) → IsPreset s now 0
preset_first s now h = h ∙ ap (start (layout_of s)) (sym (none_set s))

pub preset_next : (s : Scope) (now next : State) (l : Layout') (k : ℕ) (x : Condition) → IsPreset s now k → k < length s.conditions → option_map (λ c. c.1) (slice_get s.conditions k) ≡ Some x → now.layout ≡ l
    → next ≡ record now { words = put now.words (counter_place l k) x.counter } → IsPreset s next (k + 1)
preset_next s now next l k x so_far lt is of set_now =
    let laid_out : l ≡ layout_of s = sym of ∙ ap (λ (z : State). z.layout) so_far in
    let inside : k < length (layout_of s).conditions = omega (arith, lt, length-map_of (λ c. c.1.mutex) s.conditions) in
    let value : x.counter ≡ counter_of s k = sym (read_at (λ c. c.counter) s.conditions k 0 x is) in
    set_now ∙ (λ i. record (so_far i) { words = put (so_far i).words (counter_place (laid_out i) k) (value i) })
    ∙ ap (λ (ws : ℕ → ℕ). record (start (layout_of s) (counter_below s k)) { words = ws }) (fun_ext (first_word-set (layout_of s) (counter_below s k) k (counter_of s k) inside))
    ∙ ap (start (layout_of s)) (fun_ext (set_one s k))

pub preset_last : (s : Scope) (now : State) (k : ℕ) → length s.conditions ≤ k → IsPreset s now k → now ≡ first_state s
preset_last s now k most h = h ∙ ap (start (layout_of s)) (all_set s k most)

-- the condition variables of the machine are the script's
pub has_counter : (s : Scope) (now : State) (l : Layout') (k : ℕ) → IsPreset s now k → now.layout ≡ l → k < length s.conditions → k < length l.conditions
has_counter s now l k so_far of lt = subst (λ (z : Layout'). k < length z.conditions) (sym (ap (λ (z : State). z.layout) so_far) ∙ of) (omega (arith, lt, length-map_of (λ c. c.1.mutex) s.conditions))
