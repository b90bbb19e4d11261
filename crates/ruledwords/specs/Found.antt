-- What a look at a counter finds.
--
-- *What a look at a counter finds.* The word, and the place at which it was loaded: for a section of a call on a
-- condition variable, that of the call's own counter.
use Rattle.std.specs.Prelude.{ℕ}
use Rattle.ruledwords.specs.declared.counter.CounterWord.{CounterWord}

-- the word
abbrev pub word_found : CounterWord → ℕ
word_found w = w.word

-- the place at which it was loaded
abbrev pub place_found : CounterWord → ℕ
place_found w = w.at
