-- The numbers of faults, and their words.
use Rattle.std.specs.Prelude.{ℕ, List, codes}
use Rattle.histories.specs.declared.fault.Fault.{Fault}
use Rattle.histories.specs.declared.fault.Fault.TheVariants.{NotUtf8, UnknownWord, OutOfRange, Cut, OutOfMemory}

-- the number by which a fault is reported, which is that of a trace's fault with the same words
abbrev pub number_of : Fault → ℕ
number_of NotUtf8 = 1
number_of UnknownWord = 2
number_of OutOfRange = 3
number_of Cut = 5
number_of OutOfMemory = 6

-- and its words
abbrev pub words_of : Fault → List ℕ
words_of NotUtf8 = codes "not UTF-8"
words_of UnknownWord = codes "unknown word"
words_of OutOfRange = codes "number out of range"
words_of Cut = codes "cut"
words_of OutOfMemory = codes "out of memory"
