-- Accesses and answers as numbers.
--
-- | kind | access     | at       | a                   | b            | most  | wakes
-- | 1    | Load       | the word |                     |              |       |
-- | 2    | Store      | the word | the value           |              |       |
-- | 3    | Exchange   | the word | the word expected   | the new word |       |
-- | 4    | FetchXor   | the word | the operand         |              |       |
-- | 5    | FetchOr    | the word | the operand         |              |       |
-- | 6    | FetchAnd   | the word | the operand         |              |       |
-- | 7    | FetchAdd   | the word | the operand         |              |       |
-- | 8    | Wait       | the word | the low half expected |            |       |
-- | 9    | Wake       | the word |                     |              | woken |
-- | 10   | CmpRequeue | from     | the low half expected | to         | moved | woken
-- | 11   | Trim       | the word |                     |              |       |
-- | 12   | Requeue    | from     |                     | to           | moved | woken
--
-- | answer | says                    | value
-- | 1      | Value                   | the word
-- | 2      | Stored                  |
-- | 3      | Exchanged               |
-- | 4      | Changed                 | the word found
-- | 5      | Again                   |
-- | 6      | Woken                   |
-- | 7      | Count                   | how many were woken, below 2^32
-- | 8      | Counts                  | how many were woken, times 2^32, and how many moved
-- | 9      | Trimmed                 | whether the word was cleared: not 0
-- | else   | Fault                   |
use Rattle.std.specs.Prelude.{ℕ, ◌/◌, ◌%◌, ◌^◌, ◌==◌, nat_lt, not, Option, Some, None, if◌then◌else◌}
use Rattle.lockword.specs.Replies.{number_of}
use Rattle.lockword.specs.declared.reply.Reply.{Reply}
use Rattle.stepprograms.specs.declared.access.Access.{Access}
use Rattle.stepprograms.specs.declared.access.Access.TheVariants.{Load, Store, Exchange, FetchXor, FetchOr, FetchAnd}
use Rattle.stepprograms.specs.declared.access.Access.TheVariants.{FetchAdd, Wait, Wake, CmpRequeue, Trim, Requeue}
use Rattle.stepprograms.specs.declared.access.Answer.{Answer}
use Rattle.stepprograms.specs.declared.access.Answer.TheVariants.{Value, Stored, Exchanged, Changed, Again}
use Rattle.stepprograms.specs.declared.access.Answer.TheVariants.{Woken, Count, Counts, Trimmed, Fault}
use Rattle.posixmutex.specs.declared.point.Operation.{Operation}
use Rattle.posixmutex.specs.declared.point.Operation.TheVariants as operation
use Rattle.posixmutex.specs.declared.point.Point.{Point}
use Rattle.pazdrig_c.specs.declared.structs.PzAccess.{PzAccess}

abbrev pub operation_number : Operation → ℕ
operation_number operation.Lock = 0
operation_number operation.TryLock = 1
operation_number operation.Unlock = 2
operation_number operation.Consistent = 3
operation_number operation.Wait = 4
operation_number operation.Signal = 5
operation_number operation.Broadcast = 6
operation_number operation.Death = 7
operation_number operation.Reinit = 8
operation_number operation.TimedLock = 9
operation_number operation.TimedWait = 10

abbrev pub plain : ℕ → ℕ → ℕ → ℕ → ℕ → ℕ → PzAccess
plain kind at a b most wakes =
    record { at = at; a = a; b = b; kind = kind; most = most; wakes = wakes; point = 0xffff; operation = 0 }

abbrev pub no_access : PzAccess
no_access = plain 0 0 0 0 0 0

abbrev pub access_code : Access → PzAccess
access_code (Load at) = plain 1 at 0 0 0 0
access_code (Store at value) = plain 2 at value 0 0 0
access_code (Exchange at expected new) = plain 3 at expected new 0 0
access_code (FetchXor at operand) = plain 4 at operand 0 0 0
access_code (FetchOr at operand) = plain 5 at operand 0 0 0
access_code (FetchAnd at operand) = plain 6 at operand 0 0 0
access_code (FetchAdd at operand) = plain 7 at operand 0 0 0
access_code (Wait at expected) = plain 8 at expected 0 0 0
access_code (Wake at most) = plain 9 at 0 0 most 0
access_code (CmpRequeue from expected wake to moves) = plain 10 from expected to moves wake
access_code (Trim at) = plain 11 at 0 0 0 0
access_code (Requeue from wake to moves) = plain 12 from 0 to moves wake

-- with a point
abbrev pub decided : Operation → Reply → PzAccess → PzAccess
decided op r x = record x { point = number_of r; operation = operation_number op }

-- with the point that the answer before it decided
abbrev pub with_point : Option Point → PzAccess → PzAccess
with_point None x = x
with_point (Some p) x = decided p.operation p.reply x

abbrev pub answer_of : ℕ → ℕ → Answer
answer_of kind value =
    if kind == 1 then Value value
    else if kind == 2 then Stored
    else if kind == 3 then Exchanged
    else if kind == 4 then Changed value
    else if kind == 5 then Again
    else if kind == 6 then Woken
    else if kind == 7 then (if nat_lt value (2 ^ 32) then Count value else Fault)
    else if kind == 8 then Counts (value / 2 ^ 32) (value % 2 ^ 32)
    else if kind == 9 then Trimmed (not (value == 0))
    else Fault
