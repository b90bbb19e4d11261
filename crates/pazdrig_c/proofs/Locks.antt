-- A lock, and a trylock, of a free mutex that is answered as it expects.
use Rattle.std.proofs.Common.{◌≡◌, ◌≢◌, ℕ, ◌≤◌, ◌==◌, Bool, true, false, not, List, [], ◌∷◌, refl, sym, ap, subst, ◌∙◌, arith, eqb-true}
use Rattle.std.specs.Prelude.{◌&&◌, if◌then◌else◌}
use Rattle.lockword.specs.Cells.{Fields, fields_of, word_of, taken}
use Rattle.lockword.specs.Coding.{word_of-fields_of}
use Rattle.lockword.specs.declared.reply.Reply.{Reply}
use Rattle.lockword.specs.declared.reply.Reply.TheVariants.{OK, EDEADLK, EBUSY, EOWNERDEAD, ENOTRECOVERABLE}
use Rattle.stepprograms.specs.declared.access.Access.{Access}
use Rattle.stepprograms.specs.declared.access.Access.TheVariants as access
use Rattle.stepprograms.specs.Accesses.{changed}
use Rattle.stepprograms.specs.declared.access.Answer.{Answer}
use Rattle.stepprograms.specs.declared.access.Answer.TheVariants.{Value, Stored, Exchanged}
use Rattle.posixmutex.specs.declared.point.Operation.{Operation}
use Rattle.posixmutex.specs.declared.point.Operation.TheVariants as operation
use Rattle.memorymap.specs.Chains.{previous_place}
use Rattle.robustlist.specs.Words.{after}
use Rattle.robustlist.specs.declared.link.LinkRow.{LinkRow}
use Rattle.robustlist.specs.declared.link.LinkRow.TheVariants as link
use Rattle.mutex.specs.declared.call.Call.TheVariants as call
use Rattle.mutex.specs.declared.row.Row.TheVariants as row
use Rattle.mutex.specs.declared.row.Led.{Led}
use Rattle.mutex.specs.declared.lock.LockRow.TheVariants as lock
use Rattle.mutex.specs.declared.try_lock.TryLockRow.TheVariants as try
use Rattle.mutex.specs.declared.phase.Phase.{Phase}
use Rattle.mutex.specs.declared.phase.Phase.TheVariants.{AtCell, Linking, Ended}
use Rattle.mutex.specs.Rows.{goes, decides, ends, acquired}
use Rattle.mutex.specs.Lock.{lock_sees, after_loss}
use Rattle.mutex.specs.TryLock.{try_sees}
use Rattle.mutex.specs.Standings.{Whole}
use Rattle.mutex.specs.Whole.{whole_at, begun_at, linked_at, leaving, from_cell, pending_place}
use Rattle.pazdrig_c.specs.Plans.{run, asked, tail_answers, tail_plan, lock_answers, lock_plan, take_row, is_free, LoadAlike, LockByPlan, LocksByPlan}
use Rattle.pazdrig_c.proofs.Loads.{elsewhere, first_apart}

-- ---- a free cell is one that is taken

unowned : (s : Fields) → is_free s ≡ true → (s.owner == 0) ≡ true
unowned s free = go (s.owner == 0) s.unusable free
  where
    go : (o u : Bool) → (o && not u) ≡ true → o ≡ true
    go true u e = refl
    go false u e = absurd (cc e)

usable : (s : Fields) → is_free s ≡ true → s.unusable ≡ false
usable s free = go (s.owner == 0) s.unusable free
  where
    go : (o u : Bool) → (o && not u) ≡ true → u ≡ false
    go true true e = absurd (cc e)
    go true false e = refl
    go false u e = absurd (cc e)

lock_takes : (t : ℕ) (s : Fields) → 1 ≤ t → is_free s ≡ true → lock_sees t s ≡ goes (row.Lock (lock.Take s))
lock_takes t s pos free = go s.unusable (usable s free) (s.owner == t) refl (s.owner == 0) (unowned s free)
  where
    go : (u : Bool) → u ≡ false → (m : Bool) → (s.owner == t) ≡ m → (f : Bool) → f ≡ true
        → (if u then decides (after_loss s) ENOTRECOVERABLE else if m then ends EDEADLK else if f then goes (row.Lock (lock.Take s)) else if s.waiters then goes (row.Lock (lock.Sleep s)) else goes (row.Lock (lock.SetWaiters s))) ≡ goes (row.Lock (lock.Take s))
    go true eu m em f ef = absurd (cc eu)
    go false eu true em f ef =
        let own : s.owner ≡ t = eqb-true s.owner t em in
        let none : s.owner ≡ 0 = eqb-true s.owner 0 (unowned s free) in
        absurd (omega arith)
    go false eu false em true ef = refl
    go false eu false em false ef = absurd (cc ef)

try_takes : (s : Fields) → is_free s ≡ true → try_sees 0 s ≡ goes (row.TryLock (try.Take s 0))
try_takes s free = go s.unusable (usable s free) (s.owner == 0) (unowned s free)
  where
    go : (u : Bool) → u ≡ false → (f : Bool) → f ≡ true → (if u then ends ENOTRECOVERABLE else if not f then ends EBUSY else goes (row.TryLock (try.Take s 0))) ≡ goes (row.TryLock (try.Take s 0))
    go true eu f ef = absurd (cc eu)
    go false eu true ef = refl
    go false eu false ef = absurd (cc ef)

-- ---- from the exchange on a lock and a trylock do the same

abbrev behind : Bool → ℕ → LinkRow
behind b f = if b then link.StoreFirst else link.StoreBehind f

abbrev linking : Bool → ℕ → ℕ → ℕ → Reply → Phase
linking b h e f x = linked_at x (record { head = h; entry = e; row = behind b f }) (behind b f)

tail_asks : (b : Bool) (op : Operation) (t h e c f : ℕ) (x : Reply) → asked (whole_at t op h e c (linking b h e f x)) (tail_answers b) ≡ tail_plan b h e f
tail_asks true op t h e c f x = refl
tail_asks false op t h e c f x = refl

tail_returns : (b : Bool) (op : Operation) (t h e c f : ℕ) (x : Reply) → (run (whole_at t op h e c (linking b h e f x)) (tail_answers b)).phase ≡ Ended x
tail_returns true op t h e c f x = refl
tail_returns false op t h e c f x = refl

abbrev started : ℕ → ℕ → Reply → Phase
started h e x = Linking (record { head = h; entry = e; row = link.LoadFirst }) x

abbrev rest_answers : ℕ → ℕ → List Answer
rest_answers h f = Value f ∷ Stored ∷ Stored ∷ tail_answers (f == h)

abbrev rest_plan : ℕ → ℕ → ℕ → List Access
rest_plan h e f = access.Load h ∷ access.Store e f ∷ access.Store (previous_place e) h ∷ tail_plan (f == h) h e f

links : (op : Operation) (t h e c f : ℕ) (x : Reply) → asked (whole_at t op h e c (started h e x)) (rest_answers h f) ≡ rest_plan h e f
links op t h e c f x = ap (λ (l : List Access). access.Load h ∷ access.Store e f ∷ access.Store (previous_place e) h ∷ l) (tail_asks (f == h) op t h e c f x)

linked : (op : Operation) (t h e c f : ℕ) (x : Reply) → (run (whole_at t op h e c (started h e x)) (rest_answers h f)).phase ≡ Ended x
linked op t h e c f x = tail_returns (f == h) op t h e c f x

-- ---- what it saw is taken

lock_asks : (d : Bool) (t h e c f : ℕ) (p : Phase) → asked (whole_at t operation.Lock h e c (leaving (whole_at t operation.Lock h e c p) operation.Lock (if d then EOWNERDEAD else OK))) (rest_answers h f) ≡ rest_plan h e f
lock_asks true t h e c f p = links operation.Lock t h e c f EOWNERDEAD
lock_asks false t h e c f p = links operation.Lock t h e c f OK

lock_returns : (d : Bool) (t h e c f : ℕ) (p : Phase) → (run (whole_at t operation.Lock h e c (leaving (whole_at t operation.Lock h e c p) operation.Lock (if d then EOWNERDEAD else OK))) (rest_answers h f)).phase ≡ Ended (if d then EOWNERDEAD else OK)
lock_returns true t h e c f p = linked operation.Lock t h e c f EOWNERDEAD
lock_returns false t h e c f p = linked operation.Lock t h e c f OK

try_asks : (d : Bool) (t h e c f : ℕ) (p : Phase) → asked (whole_at t operation.TryLock h e c (leaving (whole_at t operation.TryLock h e c p) operation.TryLock (if d then EOWNERDEAD else OK))) (rest_answers h f) ≡ rest_plan h e f
try_asks true t h e c f p = links operation.TryLock t h e c f EOWNERDEAD
try_asks false t h e c f p = links operation.TryLock t h e c f OK

try_returns : (d : Bool) (t h e c f : ℕ) (p : Phase) → (run (whole_at t operation.TryLock h e c (leaving (whole_at t operation.TryLock h e c p) operation.TryLock (if d then EOWNERDEAD else OK))) (rest_answers h f)).phase ≡ Ended (if d then EOWNERDEAD else OK)
try_returns true t h e c f p = linked operation.TryLock t h e c f EOWNERDEAD
try_returns false t h e c f p = linked operation.TryLock t h e c f OK

-- the accesses from the exchange on, of a cell whose word is v
abbrev taking : ℕ → ℕ → ℕ → ℕ → ℕ → ℕ → ℕ → List Access
taking t h e c w f v = access.Exchange c v (word_of (taken (fields_of w) t)) ∷ rest_plan h e f

abbrev whole : ℕ → ℕ → ℕ → ℕ → ℕ → ℕ → ℕ → List Access
whole t h e c w f v = access.Store (pending_place h) e ∷ access.Load c ∷ taking t h e c w f v

-- ---- its loads come first

-- neither the announcement nor the exchange is at the head's first word
head_stays : (t h e c w : ℕ) (words : ℕ → ℕ) → c ≢ h → after (access.Exchange c w (word_of (taken (fields_of w) t))) (after (access.Store (pending_place h) e) words) h ≡ words h
head_stays t h e c w words far =
    elsewhere h c (changed (access.Exchange c w (word_of (taken (fields_of w) t))) (after (access.Store (pending_place h) e) words h)) (after (access.Store (pending_place h) e) words h) (λ is. far (sym is))
    ∙ elsewhere h (pending_place h) e (words h) (first_apart h)

loads_alike : (b : Bool) (t h e c w f : ℕ) → c ≢ h → c ≢ pending_place h → LoadAlike (lock_plan t h e c w f b)
loads_alike true t h e c w f far apart words = λ i. sym (elsewhere c (pending_place h) e (words c) apart) i ∷ (sym (head_stays t h e c w words far) i ∷ [])
loads_alike false t h e c w f far apart words = λ i. sym (elsewhere c (pending_place h) e (words c) apart) i ∷ (sym (head_stays t h e c w words far) i ∷ [])

-- ---- a lock

lock_plan_is : (t h e c w f : ℕ) → lock_sees t (fields_of w) ≡ goes (row.Lock (lock.Take (fields_of w))) → LockByPlan (call.Lock 0) t h e c w f
lock_plan_is t h e c w f sees = record { asks = asks; returns = returns; takes = takes; loads = loads_alike (f == h) t h e c w f }
  where
    s : Fields
    s = fields_of w

    at : Phase → Whole
    at p = whole_at t operation.Lock h e c p

    loading : Phase
    loading = AtCell (row.Lock lock.Load)

    take : Phase
    take = AtCell (row.Lock (lock.Take s))

    rest : List Answer
    rest = Exchanged ∷ rest_answers h f

    from_take : asked (at take) rest ≡ taking t h e c w f (word_of s)
    from_take = ap (λ (l : List Access). access.Exchange c (word_of s) (word_of (taken s t)) ∷ l) (lock_asks s.died t h e c f take)

    from_look : asked (at (from_cell (at loading) (lock_sees t s)).phase) rest ≡ taking t h e c w f (word_of s)
    from_look = subst (λ (l : Led). asked (at (from_cell (at loading) l).phase) rest ≡ taking t h e c w f (word_of s)) (sym sees) from_take

    asks : asked (begun_at t h e c (call.Lock 0)) (lock_answers w f (f == h)) ≡ lock_plan t h e c w f (f == h)
    asks = ap (λ (l : List Access). access.Store (pending_place h) e ∷ access.Load c ∷ l) from_look ∙ ap (whole t h e c w f) (word_of-fields_of w)

    take_returns : (run (at take) rest).phase ≡ Ended (acquired s)
    take_returns = lock_returns s.died t h e c f take

    returns : (run (begun_at t h e c (call.Lock 0)) (lock_answers w f (f == h))).phase ≡ Ended (acquired s)
    returns = subst (λ (l : Led). (run (at (from_cell (at loading) l).phase) rest).phase ≡ Ended (acquired s)) (sym sees) take_returns

    takes : (run (begun_at t h e c (call.Lock 0)) (Stored ∷ Value w ∷ [])).phase ≡ AtCell (take_row (call.Lock 0) s)
    takes = subst (λ (l : Led). (from_cell (at loading) l).phase ≡ take) (sym sees) refl

-- ---- a trylock

try_plan_is : (t h e c w f : ℕ) → try_sees 0 (fields_of w) ≡ goes (row.TryLock (try.Take (fields_of w) 0)) → LockByPlan (call.TryLock 0) t h e c w f
try_plan_is t h e c w f sees = record { asks = asks; returns = returns; takes = takes; loads = loads_alike (f == h) t h e c w f }
  where
    s : Fields
    s = fields_of w

    at : Phase → Whole
    at p = whole_at t operation.TryLock h e c p

    loading : Phase
    loading = AtCell (row.TryLock try.Load)

    take : Phase
    take = AtCell (row.TryLock (try.Take s 0))

    rest : List Answer
    rest = Exchanged ∷ rest_answers h f

    from_take : asked (at take) rest ≡ taking t h e c w f (word_of s)
    from_take = ap (λ (l : List Access). access.Exchange c (word_of s) (word_of (taken s t)) ∷ l) (try_asks s.died t h e c f take)

    from_look : asked (at (from_cell (at loading) (try_sees 0 s)).phase) rest ≡ taking t h e c w f (word_of s)
    from_look = subst (λ (l : Led). asked (at (from_cell (at loading) l).phase) rest ≡ taking t h e c w f (word_of s)) (sym sees) from_take

    asks : asked (begun_at t h e c (call.TryLock 0)) (lock_answers w f (f == h)) ≡ lock_plan t h e c w f (f == h)
    asks = ap (λ (l : List Access). access.Store (pending_place h) e ∷ access.Load c ∷ l) from_look ∙ ap (whole t h e c w f) (word_of-fields_of w)

    take_returns : (run (at take) rest).phase ≡ Ended (acquired s)
    take_returns = try_returns s.died t h e c f take

    returns : (run (begun_at t h e c (call.TryLock 0)) (lock_answers w f (f == h))).phase ≡ Ended (acquired s)
    returns = subst (λ (l : Led). (run (at (from_cell (at loading) l).phase) rest).phase ≡ Ended (acquired s)) (sym sees) take_returns

    takes : (run (begun_at t h e c (call.TryLock 0)) (Stored ∷ Value w ∷ [])).phase ≡ AtCell (take_row (call.TryLock 0) s)
    takes = subst (λ (l : Led). (from_cell (at loading) l).phase ≡ take) (sym sees) refl

-- (a call's number of its mutex isn't in its program)
pub by_plan : LocksByPlan
by_plan (call.Lock m) t h e c w f k pos free = let is : LockByPlan (call.Lock 0) t h e c w f = lock_plan_is t h e c w f (lock_takes t (fields_of w) pos free) in record { asks = is.asks; returns = is.returns; takes = is.takes; loads = is.loads }
by_plan (call.TryLock m) t h e c w f k pos free = let is : LockByPlan (call.TryLock 0) t h e c w f = try_plan_is t h e c w f (try_takes (fields_of w) free) in record { asks = is.asks; returns = is.returns; takes = is.takes; loads = is.loads }
by_plan (call.TimedLock m) t h e c w f k pos free = absurd k
by_plan (call.Unlock m) t h e c w f k pos free = absurd k
by_plan (call.Consistent m) t h e c w f k pos free = absurd k
