use Rattle.std.proofs.Common.{◌≡◌, find}
use Rattle.std.specs.Array.Iter.{array_into_iter_items}
use Rattle.std.specs.Str.{bytes_eq}
use Rattle.posixmutex.specs.Words.{operation_of, operation_word}
use Rattle.posixmutex.proofs.point.OperationFromStr.from_str.Given as goal

abbrev pub invariant-loop-operation : goal.invariant-loop-operation
invariant-loop-operation l = find (λ x. bytes_eq (operation_word x) l.text) (array_into_iter_items l.operation-iterator) ≡ operation_of l.text
