-- What rows say of deadlines: what a call keeps from one row to the next.
use Rattle.std.proofs.Common.{◌≡◌, ◌⊎◌, ℕ, Bool, true, false}
use Rattle.lockword.specs.declared.reply.Reply.{Reply}
use Rattle.lockword.specs.declared.reply.Reply.TheVariants.{ETIMEDOUT}
use Rattle.slots.specs.Rows.{Giving, Row}
use Rattle.slots.specs.Rows.Giving.{OfUnlock, OfWait}
use Rattle.slots.specs.Shown.{Slots}
use Rattle.slots.specs.Deadlines.{is_anothers}
use Rattle.slots.specs.Outcomes.{has_met}
use Rattle.slots.specs.Replies.{Deed, Progress, progress}
use Rattle.slots.specs.Rows.{about}

-- a wait's release: whether the wait has a deadline
abbrev pub gives_due : Giving → Bool
gives_due (OfUnlock d) = false
gives_due (OfWait k n slept timed) = timed

abbrev pub gives_wait : Giving → Bool
gives_wait (OfUnlock d) = false
gives_wait (OfWait k n slept timed) = true

-- the row's call has a deadline
abbrev pub due : Row → Bool
due (Row.Looks k) = k.timed
due (Row.Pends k v) = k.timed
due (Row.Sees k) = k.timed
due (Row.Takes k v) = k.timed
due (Row.Chooses k v) = k.timed
due (Row.SeesAgain k v) = k.timed
due (Row.Marks k v n) = k.timed
due (Row.SleepsOn k v) = k.timed
due (Row.Asleep k) = k.timed
due (Row.SlotPends k v) = k.timed
due (Row.SlotTakes k v) = k.timed
due (Row.SlotLeft k) = k.timed
due (Row.SeesToSleep k) = k.timed
due (Row.SlotLinks k d) = k.timed
due (Row.SlotClears k) = k.timed
due (Row.SlotQuiets k) = k.timed
due (Row.SlotMends k) = k.timed
due (Row.HeirPends k b) = k.timed
due (Row.HeirSets k) = k.timed
due (Row.HeirLooks k) = k.timed
due (Row.HeirPendsOn k v over) = k.timed
due (Row.HeirTakes k v) = k.timed
due (Row.HeirHas k y) = k.timed
due (Row.HeirLinks k y) = k.timed
due (Row.GivesUp k) = k.timed
due (Row.LastLooks k) = k.timed
due (Row.LastMarks k v) = k.timed
due (Row.HeirWakes k) = k.timed
due (Row.Frees k f) = k.timed
due (Row.FreeUnlinks k f) = k.timed
due (Row.FreeGives k f) = k.timed
due (Row.GivePends m y) = gives_due y
due (Row.GiveUnlinks m y) = gives_due y
due (Row.GiveFinds m y) = gives_due y
due (Row.Gives m y) = gives_due y
due (Row.HandsOn m y n) = gives_due y
due (Row.LooksBack m y n) = gives_due y
due (Row.WakesOne m y n) = gives_due y
due (Row.WaitLooks m k timed) = timed
due (Row.WaitCounts m k timed died) = timed
due (Row.WaitSets m k n timed) = timed
due (Row.WaitSleeps m k n timed) = timed
due (Row.WaitAsleep m k n timed) = timed
due (Row.Late k) = true
due (Row.LateSees k) = true
due (Row.WaitLate m k n) = true
due r = false

-- its deadline has passed in its sleep
abbrev pub is_late : Row → Bool
is_late (Row.Late k) = true
is_late (Row.LateSees k) = true
is_late (Row.WaitLate m k n) = true
is_late r = false

-- it is a wait, and not yet the lock that ends it
abbrev pub in_wait : Row → Bool
in_wait (Row.GivePends m y) = gives_wait y
in_wait (Row.GiveUnlinks m y) = gives_wait y
in_wait (Row.GiveFinds m y) = gives_wait y
in_wait (Row.Gives m y) = gives_wait y
in_wait (Row.HandsOn m y n) = gives_wait y
in_wait (Row.LooksBack m y n) = gives_wait y
in_wait (Row.WakesOne m y n) = gives_wait y
in_wait (Row.WaitLooks m k timed) = true
in_wait (Row.WaitCounts m k timed died) = true
in_wait (Row.WaitSets m k n timed) = true
in_wait (Row.WaitSleeps m k n timed) = true
in_wait (Row.WaitAsleep m k n timed) = true
in_wait (Row.WaitLate m k n) = true
in_wait r = false

-- in a call that isn't decided, whose deadline is a time if it has one
abbrev pub may_wait : Progress → Bool
may_wait (Progress.Called o) = true
may_wait Progress.Unlocked = true
may_wait p = false

-- from row r to row q
abbrev pub Keeps : Slots → ℕ → Row → Row → Type 0
Keeps x t r q = (due q ≡ true → due r ≡ true)
    × (is_late q ≡ true → is_late r ≡ true)
    × (has_met q ≡ true → (has_met r ≡ true) ⊎ ((is_anothers x.machine t (about r) ≡ true) × (may_wait (progress r) ≡ true)))
    × (in_wait q ≡ true → in_wait r ≡ true)

-- ---- ETIMEDOUT

abbrev pub is_out : Reply → Bool
is_out ETIMEDOUT = true
is_out y = false

abbrev pub is_over : Progress → Bool
is_over (Progress.Decided y) = is_out y
is_over p = false

abbrev pub times_out : Deed → Bool
times_out (Deed.Decides d) = is_out d.reply
times_out (Deed.Refuses y) = is_out y
times_out e = false
