-- How a whole call is decided, whatever it is answered.
--
-- *Decided for any answer.* Whatever a whole call is answered: its point's reply is one that the object permits for the
-- cell that it met there, or met last before; once it has returned, and not for a fault, it has had exactly one point,
-- with its reply; and it returns EFAULT exactly after an answer that isn't in its access's line. The laws
-- `whole_calls_are_decided` and `faults_are_told`.
use Rattle.std.specs.Prelude.{ℕ, ◌≡◌, ◌≢◌, ◌≤◌, Option, Some, None, List, [], ◌∷◌, ◌++◌}
use Rattle.lockword.specs.Cells.{Fields}
use Rattle.lockword.specs.declared.reply.Reply.{Reply}
use Rattle.lockword.specs.declared.reply.Reply.TheVariants.{EFAULT}
use Rattle.stepprograms.specs.declared.access.Answer.{Answer}
use Rattle.stepprograms.specs.Accesses.{IsAnswerOf}
use Rattle.memorymap.specs.Layouts.{Layout'}
use Rattle.mutex.specs.declared.call.Call.{Call}
use Rattle.mutex.specs.declared.phase.Phase.{Phase}
use Rattle.mutex.specs.declared.phase.Phase.TheVariants.{AtCell, Ended}
use Rattle.mutex.specs.Standings.{Whole}
use Rattle.mutex.specs.Whole.{begins, whole_access, whole_led, whole_moved, IsUnderWay}
use Rattle.mutex.specs.Laws.{met, IsPermitted}
use Rattle.mutex.specs.WholeLaws.{whole_reached}

abbrev pub replies : Option Reply → List Reply
replies None = []
replies (Some x) = x ∷ []

-- the replies of the points that some answers bring, in their order
abbrev pub decided_by : Whole → List Answer → List Reply
decided_by p [] = []
decided_by p (a ∷ answers) = replies (whole_led p a).point ++ decided_by (whole_moved p (whole_led p a)) answers

-- the cell that a call met, as an answer tells
abbrev pub met_in : Phase → Answer → Option Fields
met_in (AtCell r) a = met r a
met_in f a = None

-- or else the one that it met last before
abbrev pub or_before : Option Fields → Option Fields → Option Fields
or_before None c = c
or_before (Some d) c = Some d

-- the object permits a point's reply for that cell; where none was met there is no point
abbrev pub IsPermittedFor : Whole → Option Fields → Option Reply → Type 0
IsPermittedFor p c None = Unit {0}
IsPermittedFor p (Some c) (Some x) = IsPermitted c p.thread p.operation x
IsPermittedFor p None (Some x) = ⊥

-- so it is of each point that some answers bring, of a call that met this cell last
abbrev pub ArePermitted : Whole → Option Fields → List Answer → Type 0
ArePermitted p c [] = Unit {0}
ArePermitted p c (a ∷ answers) = IsPermittedFor p (or_before (met_in p.phase a) c) (whole_led p a).point
    × ArePermitted (whole_moved p (whole_led p a)) (or_before (met_in p.phase a) c) answers

-- whatever a call is answered
pub record WholeCallsAreDecided : Type 0 where
  -- one that returned, and not for a fault, has exactly one point, whose reply it returned
  pub once : (l : Layout') (t : ℕ) (c : Call) (answers : List Answer) (x : Reply)
      → (whole_reached (begins l t c) answers).phase ≡ Ended x → x ≢ EFAULT → decided_by (begins l t c) answers ≡ x ∷ []
  -- its point's reply, a release's and a declaration's too, is one that the object permits for the cell that it met
  -- there, or met last before
  pub permitted : (l : Layout') (t : ℕ) (c : Call) (answers : List Answer) → 1 ≤ t
      → ArePermitted (begins l t c) None answers
  -- it returns EFAULT exactly after an answer that its access doesn't have
  pub faulted : (l : Layout') (t : ℕ) (c : Call) (answers : List Answer) (a : Answer)
      → IsUnderWay (whole_reached (begins l t c) answers).phase
      → ¬ IsAnswerOf (whole_access (whole_reached (begins l t c) answers)) a
      → (whole_led (whole_reached (begins l t c) answers) a).phase ≡ Ended EFAULT
  pub answered : (l : Layout') (t : ℕ) (c : Call) (answers : List Answer) (a : Answer)
      → IsUnderWay (whole_reached (begins l t c) answers).phase
      → IsAnswerOf (whole_access (whole_reached (begins l t c) answers)) a
      → (whole_led (whole_reached (begins l t c) answers) a).phase ≢ Ended EFAULT
