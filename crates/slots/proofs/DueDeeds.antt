-- Which accesses decide that a call is out of time.
use Rattle.std.proofs.Common.{◌≡◌, ◌⊎◌, inl, inr, ℕ, ◌==◌, Bool, true, false, Some, refl, sym, ap, ◌∙◌}
use Rattle.std.specs.Prelude.{if◌then◌else◌, ◌&&◌, ◌||◌}
use Rattle.lockword.specs.Cells.{Fields, fields_of}
use Rattle.lockword.specs.declared.reply.Reply.{Reply}
use Rattle.lockword.specs.declared.reply.Reply.TheVariants.{OK, EPERM, EBUSY, EDEADLK, EINVAL, EOWNERDEAD, ETIMEDOUT, ENOTRECOVERABLE, XSTATE}
use Rattle.memorymap.specs.Layouts.{cell_place}
use Rattle.mutex.specs.Rows.{acquired}
use Rattle.posixmutex.specs.declared.point.Operation.TheVariants as op
use Rattle.slots.specs.Places.{cell_of}
use Rattle.slots.specs.Rows.{Choice, Giving, How, Row, Taking}
use Rattle.slots.specs.Rows.How.{Tried, Later, Waited}
use Rattle.slots.specs.Rows.Giving.{OfUnlock, OfWait}
use Rattle.slots.specs.Shown.{Slots, shown}
use Rattle.slots.specs.Words.{is_free}
use Rattle.slots.specs.Runs.{is_first_row}
use Rattle.slots.specs.Deadlines.{asks_clock}
use Rattle.slots.specs.Replies.{Deed, GoesOn, Progress, after_deed, counts_as, decided, deed, gave, late, lock_progress, locks, looked, looked_first, progress, refused_or, replied, returned, tried}
use Rattle.slots.specs.Replies.Deed.{Nothing, Decides, Refuses}
use Rattle.slots.specs.Outcomes.{has_met}
use Rattle.slots.proofs.DueRows.{due, is_late, is_out, is_over, times_out}

module _ (x : Slots) (t : ℕ) (c : Choice) where
  abbrev cell : ℕ → ℕ
  cell m = shown x (cell_place x.machine.layout (cell_of m))

  -- it has a deadline, which has passed; and another thread owned the mutex
  abbrev pub Out : Row → Type 0
  Out r = (due r ≡ true) × ((is_late r || (asks_clock r && c.yes)) ≡ true) × (has_met r ≡ true)

  neither : (b : Bool) (e f : Deed) → times_out e ≡ false → times_out f ≡ false → times_out (if b then e else f) ≡ false
  neither true e f first second = first
  neither false e f first second = second

  acquires : (k : Fields) → is_out (acquired k) ≡ false
  acquires k = go k.died
    where
      go : (b : Bool) → is_out (if b then EOWNERDEAD else OK) ≡ false
      go true = refl
      go false = refl

  looks : (m w : ℕ) → times_out (looked t m w) ≡ false
  looks m w = neither (fields_of w).unusable (locks t m ENOTRECOVERABLE) _ refl (neither ((fields_of w).owner == 0) Nothing _ refl (neither ((fields_of w).owner == t) (locks t m EDEADLK) Nothing refl refl))

  refuses : (k : Taking) (h : How) → times_out (refused_or k h) ≡ false
  refuses k Tried = neither k.wrong (Refuses EINVAL) Nothing refl refl
  refuses k Later = refl
  refuses k (Waited z) = refl

  looks_first : (k : Taking) (w : ℕ) → times_out (looked_first t k w) ≡ false
  looks_first k w = neither (fields_of w).unusable (locks t k.mutex ENOTRECOVERABLE) _ refl (neither ((fields_of w).owner == 0) Nothing _ refl (neither ((fields_of w).owner == t) (locks t k.mutex EDEADLK) (refused_or k k.how) refl (refuses k k.how)))

  tries : (m w : ℕ) → times_out (tried t m w) ≡ false
  tries m w = go (fields_of w).unusable
    where
      go : (b : Bool) → is_out (if b then ENOTRECOVERABLE else EBUSY) ≡ false
      go true = refl
      go false = refl

  gives : (m : ℕ) (y : Giving) → times_out (gave t m y) ≡ false
  gives m (OfUnlock d) = refl
  gives m (OfWait k n slept timed) = refl

  mends : (m : ℕ) (b : Bool) → times_out (Decides (decided t m op.Consistent (if b then EINVAL else EPERM))) ≡ false
  mends m true = refl
  mends m false = refl

  lateness : (r : Row) (k : Taking) → due r ≡ k.timed → asks_clock r ≡ true → has_met r ≡ true → times_out (late x t c k) ≡ true → Out r
  lateness r k timed asks met = go k.timed c.yes timed
    where
      go : (a b : Bool) → due r ≡ a → times_out (if a && b then Decides (decided t k.mutex op.TimedLock ETIMEDOUT) else Nothing) ≡ true → (due r ≡ true) × ((is_late r || (asks_clock r && b)) ≡ true) × (has_met r ≡ true)
      go true true is e = (is, (λ i. is_late r || (asks i && true)) ∙ or_true (is_late r), met)
        where
          or_true : (d : Bool) → (d || true) ≡ true
          or_true true = refl
          or_true false = refl
      go true false is e = absurd cc
      go false b is e = absurd cc

  never : (r : Row) → times_out (deed x t c r) ≡ false → times_out (deed x t c r) ≡ true → Out r
  never r off on = absurd (cc (sym off ∙ on))

  pub decides_out : (r : Row) → times_out (deed x t c r) ≡ true → Out r
  decides_out (Row.Looks k) = never (Row.Looks k) (neither ((fields_of (cell k.mutex)).owner == t) (locks t k.mutex EDEADLK) Nothing refl refl)
  decides_out (Row.Sees k) = never (Row.Sees k) (looks_first k (cell k.mutex))
  decides_out (Row.Takes k v) = never (Row.Takes k v) (neither (cell k.mutex == v) (locks t k.mutex (acquired (fields_of v))) (looked_first t k (cell k.mutex)) (acquires (fields_of v)) (looks_first k (cell k.mutex)))
  decides_out (Row.SeesAgain k v) = never (Row.SeesAgain k v) (looks_first k (cell k.mutex))
  decides_out (Row.Marks k v n) = never (Row.Marks k v n) (neither (cell k.mutex == v) Nothing (looked t k.mutex (cell k.mutex)) refl (looks k.mutex (cell k.mutex)))
  decides_out (Row.LateSees k) = λ e. (refl, refl, refl)
  decides_out (Row.SeesToSleep k) = never (Row.SeesToSleep k) (neither (fields_of (cell k.mutex)).unusable (locks t k.mutex ENOTRECOVERABLE) Nothing refl refl)
  decides_out (Row.HeirTakes k v) = never (Row.HeirTakes k v) (neither (cell k.mutex == v) (locks t k.mutex (acquired (fields_of v))) Nothing (acquires (fields_of v)) refl)
  decides_out (Row.LastLooks k) = go (fields_of (cell k.mutex)).unusable ((fields_of (cell k.mutex)).owner == 0) (fields_of (cell k.mutex)).waiters
    where
      go : (a b d : Bool) → times_out (if a then locks t k.mutex ENOTRECOVERABLE else if b then Nothing else if d then late x t c k else Nothing) ≡ true → Out (Row.LastLooks k)
      go true b d e = absurd cc
      go false true d e = absurd cc
      go false false true e = lateness (Row.LastLooks k) k refl refl refl e
      go false false false e = absurd cc
  decides_out (Row.LastMarks k v) = go (cell k.mutex == v)
    where
      go : (a : Bool) → times_out (if a then late x t c k else Nothing) ≡ true → Out (Row.LastMarks k v)
      go true e = lateness (Row.LastMarks k v) k refl refl refl e
      go false e = absurd cc
  decides_out (Row.TryLooks m) = never (Row.TryLooks m) (neither (is_free (cell m)) Nothing (tried t m (cell m)) refl (tries m (cell m)))
  decides_out (Row.TryTakes m v) = never (Row.TryTakes m v) (neither (cell m == v) (Decides (decided t m op.TryLock (acquired (fields_of v)))) _ (acquires (fields_of v)) (neither (is_free (cell m)) Nothing (tried t m (cell m)) refl (tries m (cell m))))
  decides_out (Row.GiveLooks m) = never (Row.GiveLooks m) (neither ((fields_of (cell m)).owner == t) Nothing (Decides (decided t m op.Unlock EPERM)) refl refl)
  decides_out (Row.Gives m y) = never (Row.Gives m y) (gives m y)
  decides_out (Row.MendLooks m) = never (Row.MendLooks m) (neither (((fields_of (cell m)).owner == t) && (fields_of (cell m)).died) Nothing _ refl (mends m ((fields_of (cell m)).owner == t)))
  decides_out (Row.Mends m) = λ e. absurd cc
  decides_out (Row.Anews m v) = never (Row.Anews m v) (neither (cell m == v) (Decides (decided t m op.Reinit OK)) Nothing refl refl)
  decides_out (Row.WaitLooks m k timed) = never (Row.WaitLooks m k timed) (neither ((fields_of (cell m)).owner == t) Nothing (Decides (decided t m op.Wait EPERM)) refl refl)
  decides_out (Row.WaitCounts m k timed died) = never (Row.WaitCounts m k timed died) (neither died (Decides (decided t m op.Wait XSTATE)) Nothing refl refl)
  decides_out (Row.CountLooks m k all) = never (Row.CountLooks m k all) (neither ((fields_of (cell m)).owner == t) Nothing (Decides (decided t m (counts_as all) EPERM)) refl refl)
  decides_out (Row.Counts m k all n) = λ e. absurd cc
  decides_out r = λ e. absurd cc

  -- ---- the reply

  pub over_by : (p : Progress) (e : Deed) → is_over (after_deed p e) ≡ true → (is_over p ≡ true) ⊎ (times_out e ≡ true)
  over_by p Nothing e = inl e
  over_by p (Deed.Unlocks d) e = absurd cc
  over_by p (Decides d) e = inr e
  over_by p (Refuses y) e = inr e

  pub over_then : (r q : Row) (p : Progress) → GoesOn r p q → is_over (progress q) ≡ true → is_over p ≡ true
  over_then r Row.Rests p goes e = absurd cc
  over_then r q p goes e = ap is_over (sym goes.0) ∙ e

  replies_out : (y : Reply) (b : Bool) → returned y b ≡ ETIMEDOUT → (is_out y ≡ true) ⊎ ((b ≡ true) × (y ≡ OK))
  replies_out OK true e = inr (refl, refl)
  replies_out OK false e = inl (ap is_out e)
  replies_out y b e = inl (ap is_out e)

  some_reply : (y z : Reply) → Some y ≡ Some z → y ≡ z
  some_reply y z e = cc

  pub replied_by : (b : Bool) (p : Progress) → replied b p ≡ Some ETIMEDOUT → (is_over p ≡ true) ⊎ ((b ≡ true) × (p ≡ Progress.Decided OK))
  replied_by b (Progress.Decided y) e = go (replies_out y b (some_reply (returned y b) ETIMEDOUT e))
    where
      go : (is_out y ≡ true) ⊎ ((b ≡ true) × (y ≡ OK)) → (is_out y ≡ true) ⊎ ((b ≡ true) × (Progress.Decided y ≡ Progress.Decided OK))
      go (inl o) = inl o
      go (inr (on, ok)) = inr (on, ap Progress.Decided ok)
  replied_by b p e = absurd cc

  -- no call returns OK at its first access
  abbrev is_ok : Reply → Bool
  is_ok OK = true
  is_ok y = false

  abbrev says_ok : Progress → Bool
  says_ok (Progress.Decided y) = is_ok y
  says_ok p = false

  pick : (b : Bool) (p : Progress) (e f : Deed) → says_ok (after_deed p e) ≡ false → says_ok (after_deed p f) ≡ false → says_ok (after_deed p (if b then e else f)) ≡ false
  pick true p e f first second = first
  pick false p e f first second = second

  first_ok : (r : Row) → is_first_row r ≡ true → says_ok (after_deed (progress r) (deed x t c r)) ≡ false
  first_ok (Row.Looks k) is = pick ((fields_of (cell k.mutex)).owner == t) _ (locks t k.mutex EDEADLK) Nothing refl (undecided k.how k.wrong)
    where
      undecided : (h : How) (wrong : Bool) → says_ok (lock_progress h wrong) ≡ false
      undecided Tried true = refl
      undecided Tried false = refl
      undecided Later true = refl
      undecided Later false = refl
      undecided (Waited z) wrong = refl
  first_ok (Row.TryLooks m) is = pick (is_free (cell m)) _ Nothing (tried t m (cell m)) refl (go (fields_of (cell m)).unusable)
    where
      go : (b : Bool) → is_ok (if b then ENOTRECOVERABLE else EBUSY) ≡ false
      go true = refl
      go false = refl
  first_ok (Row.GiveLooks m) is = pick ((fields_of (cell m)).owner == t) _ Nothing (Decides (decided t m op.Unlock EPERM)) refl refl
  first_ok (Row.MendLooks m) is = pick (((fields_of (cell m)).owner == t) && (fields_of (cell m)).died) _ Nothing _ refl (go ((fields_of (cell m)).owner == t))
    where
      go : (b : Bool) → is_ok (if b then EINVAL else EPERM) ≡ false
      go true = refl
      go false = refl
  first_ok (Row.AnewLooks m) is = refl
  first_ok (Row.WaitLooks m k timed) is = pick ((fields_of (cell m)).owner == t) _ Nothing (Decides (decided t m op.Wait EPERM)) refl refl
  first_ok (Row.CountLooks m k all) is = pick ((fields_of (cell m)).owner == t) _ Nothing (Decides (decided t m (counts_as all) EPERM)) refl refl
  first_ok r is = absurd cc

  pub begins_not_ok : (r : Row) → after_deed (progress r) (deed x t c r) ≡ Progress.Decided OK → is_first_row r ≡ false
  begins_not_ok r e = go (is_first_row r) refl
    where
      go : (b : Bool) → is_first_row r ≡ b → b ≡ false
      go false is = refl
      go true is = absurd (cc (sym (first_ok r is) ∙ ap says_ok e))
