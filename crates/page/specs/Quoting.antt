-- Names in the data of a page, whatever they are.
--
-- *Names are in quotes.* Who reads the texts in quotes from the data, byte by byte, finds first three words, and
-- after each what its things are called, escaped, in their order; then he stands outside of quotes, and what follows
-- is the same whatever the names are. No byte of the data begins or ends markup, or escapes another.
use Rattle.std.specs.Prelude.{ℕ, ◌≡◌, ◌+◌, ◌==◌, ◌⊎◌, Option, Some, None, List, [], ◌∷◌, ◌++◌, All, codes}
use Rattle.std.specs.Prelude.{if◌then◌else◌}
use Rattle.std.specs.List.{fold}
use Rattle.verdict.specs.declared.checking.Finding.{Finding}
use Rattle.verdict.specs.declared.head.Head.{Head}
use Rattle.verdict.specs.declared.told.Told.{Told}
use Rattle.picture.specs.Names.{Called, condition_head, condition_tail, mutex_head, mutex_tail}
use Rattle.picture.specs.Names.{thread_head, thread_tail}
use Rattle.page.specs.Data.{data_text, history_data, start_text}
use Rattle.page.specs.Escapes.{IsPlain, escaped}
use Rattle.page.specs.States.{listed}

-- ---- the reader

-- what he has read: the texts that have ended, and what there is so far of one that has begun
pub record Reading : Type 0 where
  pub ended : List (List ℕ)
  pub begun : Option (List ℕ)

abbrev pub outside : List (List ℕ) → Reading
outside ws = record { ended = ws; begun = None }

abbrev pub inside : List (List ℕ) → List ℕ → Reading
inside ws w = record { ended = ws; begun = Some w }

-- a quote begins a text, or ends the one that has begun
abbrev pub turned : List (List ℕ) → Option (List ℕ) → Reading
turned ws None = inside ws []
turned ws (Some w) = outside (ws ++ w ∷ [])

-- any other byte belongs to the text that has begun, if one has
abbrev pub grown : List (List ℕ) → Option (List ℕ) → ℕ → Reading
grown ws None b = outside ws
grown ws (Some w) b = inside ws (w ++ b ∷ [])

abbrev pub read_byte : Reading → ℕ → Reading
read_byte r b = if b == 34 then turned r.ended r.begun else grown r.ended r.begun b

abbrev pub read : List ℕ → Reading
read bs = fold read_byte (outside []) bs

-- ---- the names

-- the thread after i others, and the others
abbrev pub thread_name : Called → ℕ → List ℕ
thread_name n i = escaped (thread_head n (i + 1) ++ thread_tail n (i + 1))

abbrev pub mutex_name : Called → ℕ → List ℕ
mutex_name n m = escaped (mutex_head n m ++ mutex_tail n m)

abbrev pub condition_name : Called → ℕ → List ℕ
condition_name n k = escaped (condition_head n k ++ condition_tail n k)

abbrev pub names_of : Called → Head → List (List ℕ)
names_of n h = codes "threads" ∷ (listed (thread_name n) h.threads
    ++ (codes "mutexes" ∷ (listed (mutex_name n) h.mutexes
    ++ (codes "conditions" ∷ listed (condition_name n) h.conditions))))

-- ---- what holds of the data

-- a quote, or a byte that ends no text and begins no markup
abbrev pub IsOfData : ℕ → Type 0
IsOfData b = (b ≡ 34) ⊎ IsPlain b

-- these data of a trace, by whatever names
pub record HasNamesInQuotes (h : Head) (text : Called → List ℕ) : Type 0 where
  pub names : (n : Called) → read (start_text n h) ≡ outside (names_of n h)
  pub rest : List ℕ
  pub all : (n : Called) → text n ≡ start_text n h ++ rest
  pub bytes : (n : Called) → All IsOfData (text n)

-- those of a trace, so judged; and those of one that shows a history, of which this is said
pub record NamesStandInQuotes : Type 0 where
  pub trace : (t : Told) (f : Finding) → HasNamesInQuotes t.head (λ n. data_text n t f)
  pub history : (t : Told) (why : Option (List ℕ)) → HasNamesInQuotes t.head (λ n. history_data n t why)
