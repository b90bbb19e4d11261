-- Our mutexes as objects: what memory shows of them, and how many of them a thread owns.
use Rattle.std.proofs.Common.{◌≡◌, ◌≢◌, ℕ, zero, suc, ◌+◌, ◌*◌, ◌/◌, ◌%◌, ◌<◌, ◌≤◌, ◌==◌, Bool, true, false, List, [], ◌∷◌, refl, sym, ap, ◌∙◌, subst, arith}
use Rattle.std.specs.Prelude.{if◌then◌else◌, ◌&&◌, nat_le, nat_lt, MatchBool}
use Rattle.std.proofs.lemmas.Bool.Decides.{nat_tests}
use Rattle.lockword.specs.Cells.{bit, fields_of}
use Rattle.lockword.specs.declared.reply.Reply.{Reply}
use Rattle.lockword.specs.declared.reply.Reply.TheVariants.{XHELD}
use Rattle.memorymap.specs.Layouts.{cell_place}
use Rattle.posixmutex.specs.declared.object.Object.{Object}
use Rattle.posixmutex.specs.declared.point.Decision.{Decision}
use Rattle.posixmutex.specs.declared.point.Operation.{Operation}
use Rattle.posixmutex.specs.Objects.{Does, Permits, acquires, fresh, object_of, owner_of}
use Rattle.posixmutex.specs.Histories.{held_by, is_thread}
use Rattle.protocol.specs.Headline.{seen}
use Rattle.protocol.specs.Machine.{State}
use Rattle.protocol.proofs.Kept.{Kept}
use Rattle.protocol.proofs.Steps.{seen-inside}
use Rattle.slots.specs.Places.{cell_of, is_slot, our_mutexes, our_own}
use Rattle.slots.specs.Shown.{Slots, shown}
use Rattle.slots.specs.Replies.{our_objects}
use Rattle.slots.specs.Fits.{IsOurs}
use Rattle.slots.proofs.Owned.{our_cell}
use Rattle.slots.proofs.Shows.{shown_cell}
use Rattle.slots.proofs.ShownWords.{shows_so}

pub lt_true : (k n : ℕ) → k < n → nat_lt k n ≡ true
lt_true k n h = grind (arith, nat_tests)

pub inside_if : (k n : ℕ) → nat_lt k n ≡ true → k < n
inside_if k n e = grind (arith, nat_tests)

-- ---- what memory shows

abbrev pub shows : ℕ → Object
shows w = object_of (fields_of w)

shown_object : (w n : ℕ) → shows (w + bit false 4294967296 + n * 8589934592) ≡ shows w
shown_object w n = λ i. record { owner = owner_of ((shows_so w n false).owner i); inconsistent = (shows_so w n false).died i; unusable = usable i }
  where
    usable : (fields_of (w + 0 + n * 8589934592)).unusable ≡ (fields_of w).unusable
    usable = ap (λ (z : ℕ). z == 1) (let e : (w + 0 + n * 8589934592) / 4294967296 % 2 ≡ w / 4294967296 % 2 = omega arith in e)

even : (m : ℕ) → is_slot (cell_of m) ≡ false
even m = ap (λ (n : ℕ). n == 1) (let e : 2 * m % 2 ≡ 0 = omega arith in e)

cell_shows : (x : Slots) (m : ℕ) → cell_of m < x.machine.layout.mutexes → shows (shown x (cell_place x.machine.layout (cell_of m))) ≡ shows (x.machine.words (cell_place x.machine.layout (cell_of m)))
cell_shows x m inside = ap shows (shown_cell x (cell_of m) inside)
    ∙ ap (λ (b : Bool). shows (w + bit (b && x.awake (our_own (cell_of m))) 4294967296 + x.turns (cell_of m) * 8589934592)) (even m)
    ∙ shown_object w (x.turns (cell_of m))
  where
    w : ℕ
    w = x.machine.words (cell_place x.machine.layout (cell_of m))

pub our_seen : (s : State) (m : ℕ) → IsOurs s.layout m → our_objects s m ≡ seen s (cell_of m)
our_seen s m ours = ap (λ (b : Bool). if b then seen s (cell_of m) else fresh) (lt_true m (our_mutexes s.layout) ours)

pub our_shown : (x : Slots) (m : ℕ) → IsOurs x.machine.layout m → our_objects x.machine m ≡ shows (shown x (cell_place x.machine.layout (cell_of m)))
our_shown x m ours = our_seen x.machine m ours ∙ seen-inside x.machine (cell_of m) (our_cell x.machine.layout m ours) ∙ sym (cell_shows x m (our_cell x.machine.layout m ours))

pub not_ours : (s : State) (m : ℕ) → nat_lt m (our_mutexes s.layout) ≡ false → our_objects s m ≡ fresh
not_ours s m out = ap (λ (b : Bool). if b then seen s (cell_of m) else fresh) out

-- ---- how many a thread owns

abbrev one : ℕ → Object → ℕ
one t o = if is_thread t o.owner then 1 else 0

half : (t n : ℕ) (f g : ℕ → Object) → ((m : ℕ) → m < n → g m ≡ f (cell_of m)) → held_by t g n ≤ held_by t f (2 * n)
half t zero f g same = omega arith
half t (suc n) f g same =
    let before = half t n f g (λ m lt. same m (omega arith)) in
    let here : one t (g n) ≡ one t (f (2 * n)) = ap (one t) (same n (omega arith)) in
    let more : held_by t f (2 * suc n) ≡ one t (f (suc (2 * n))) + (one t (f (2 * n)) + held_by t f (2 * n)) = ap (held_by t f) (let e : 2 * suc n ≡ suc (suc (2 * n)) = omega arith in e) in
    let now : held_by t g (suc n) ≡ one t (g n) + held_by t g n = refl in
    omega (arith, before, here, more, now)

grows : (t n k : ℕ) (f : ℕ → Object) → held_by t f n ≤ held_by t f (n + k)
grows t n zero f = subst (λ (j : ℕ). held_by t f n ≤ held_by t f j) (let e : n ≡ n + 0 = omega arith in e) (omega arith)
grows t n (suc k) f =
    let before = grows t n k f in
    let more : held_by t f (n + suc k) ≡ one t (f (n + k)) + held_by t f (n + k) = ap (held_by t f) (let e : n + suc k ≡ suc (n + k) = omega arith in e) in
    omega (arith, before, more)

pub held_same : (t n : ℕ) (f g : ℕ → Object) → ((k : ℕ) → k < n → g k ≡ f k) → held_by t g n ≡ held_by t f n
held_same t zero f g same = refl
held_same t (suc n) f g same = λ i. one t (same n (omega arith) i) + held_same t n f g (λ k lt. same k (omega arith)) i

pub few_ours : (s : State) (t : ℕ) → Kept s → 1 ≤ t → t ≤ s.layout.threads → held_by t (our_objects s) (our_mutexes s.layout) ≤ (s.threads t).held
few_ours s t inv pos known =
    let owned = inv.held t pos known in
    let halves = half t (our_mutexes s.layout) (seen s) (our_objects s) (λ m lt. our_seen s m lt) in
    let all = grows t (2 * our_mutexes s.layout) (s.layout.mutexes % 2) (seen s) in
    let sum : held_by t (seen s) (2 * our_mutexes s.layout + s.layout.mutexes % 2) ≡ held_by t (seen s) s.layout.mutexes = ap (held_by t (seen s)) (let n : ℕ = s.layout.mutexes in let e : 2 * (n / 2) + n % 2 ≡ n = omega arith in e) in
    omega (arith, owned, halves, all, sum)

-- a step of an object, of a thread that may own another
at_limit : (h : ℕ) → h < 2048 → nat_le 2048 h ≡ false
at_limit h few = grind (arith, nat_tests)

pub does_it : (h t : ℕ) (o n : Object) (op : Operation) (r : Reply) → (acquires op ≡ true → h < 2048) → Permits o t op r n → Does h o t op r n
does_it h t o n op r few permits = go (acquires op) refl
  where
    go : (b : Bool) → acquires op ≡ b → Does h o t op r n
    go false e = subst (λ (b : Bool). MatchBool (b && nat_le 2048 h) ((r ≡ XHELD) × (n ≡ o)) (Permits o t op r n)) (sym e) permits
    go true e = subst (λ (b : Bool). MatchBool b ((r ≡ XHELD) × (n ≡ o)) (Permits o t op r n)) (sym (λ i. e i && at_limit h (few e) i)) permits

-- ---- what happens to them

-- the points take our mutexes from the one state to the other
abbrev pub Told : State → List Decision → State → Type 0
Told s [] s' = (m : ℕ) → our_objects s' m ≡ our_objects s m
Told s (d ∷ ds) s' = IsOurs s.layout d.mutex × Does (held_by d.thread (our_objects s) (our_mutexes s.layout)) (our_objects s d.mutex) d.thread d.operation d.reply (our_objects s' d.mutex) × ((m : ℕ) → m ≢ d.mutex → our_objects s' m ≡ our_objects s m) × (ds ≡ [])
