-- The first word at which no line of a kind can go on.
--
-- *The first wrong word.* A line can go on after words if some words after them make a line that the readers of
-- scripts or traces take. The first wrong word of a line is the one at which no line can go on, though one can after
-- the words before it; where all words stand, it is the one that is missing. What it has to be is given by just the
-- words after which a line can go on. The nearest of several words is `IsNearest` (`Near.antt`), by `strsim`'s
-- distance with swapped neighbours. Where words are listed (`known_words`; `Known.antt`), those are just the words
-- after which a line goes on (`KnownWordsAreThoseThatFit`; `Laws.antt`).
use Rattle.std.specs.Prelude.{ℕ, ◌≡◌, ◌+◌, ◌<◌, ◌≤◌, ◌↔◌, Bool, true, false, List, [], ◌∷◌, ◌++◌, length, take}
use Rattle.std.specs.Prelude.{sum_by, slice_get, Option, Some, None, option_and_then, IsSome, if◌then◌else◌}
use Rattle.std.specs.Option.{option_map_or}
use Rattle.std.specs.Option.{is_some}
use Rattle.script.specs.Forms.{of_mode}
use Rattle.script.specs.Forms as script
use Rattle.verdict.specs.Forms.{head_form}
use Rattle.verdict.specs.Forms as traces
use Rattle.grammar.specs.declared.next.Next.{Next}
use Rattle.grammar.specs.declared.next.Next.TheVariants as next
use Rattle.grammar.specs.declared.wrong.Wrong.{Wrong}
use Rattle.grammar.specs.declared.wrong.Kind.{Kind}
use Rattle.grammar.specs.declared.wrong.Kind.TheVariants.{Script, Head, Trace}
use Rattle.grammar.specs.Nexts.{after, is_over}

-- these words are a line of the kind, as the readers of scripts and traces have it
abbrev pub is_line : Kind → List (List ℕ) → Bool
is_line (Script k) ws = is_some (option_and_then (of_mode k) (script.words_form ws))
is_line Head ws = is_some (head_form ws)
is_line Trace ws = is_some (traces.words_form ws)

-- some line of the kind begins with these words
abbrev pub CanGoOn : Kind → List (List ℕ) → Type 0
CanGoOn k ws = (more : List (List ℕ)) × (is_line k (ws ++ more) ≡ true)

-- word i is the first that is wrong: a line can go on after those before it, and none begins with these and it. Where
-- there is no word i, all words stand, and one is missing
pub record IsFirstWrong (k : Kind) (ws : List (List ℕ)) (i : ℕ) : Type 0 where
  pub within : i ≤ length ws
  pub front : CanGoOn k (take i ws)
  pub stops : i < length ws → CanGoOn k (take (i + 1) ws) → ⊥
  pub short : i ≡ length ws → is_line k ws ≡ false

-- the words that can be after these are just those after which n goes on
abbrev pub Awaits : Kind → List (List ℕ) → Next → Type 0
Awaits k ws n = (w : List ℕ) → (CanGoOn k (ws ++ w ∷ []) ↔ IsSome (after n w))

-- what the first word of a line has to be
abbrev pub first_of : Kind → Next
first_of (Script k) = next.Keyword k
first_of Head = next.Head
first_of Trace = next.Event

-- where word i begins, in bytes: a space stands after each word before it
abbrev pub offset_of : ℕ → List (List ℕ) → ℕ
offset_of i ws = sum_by (λ w. length w + 1) (take i ws)

-- and where it ends, where there is one
abbrev pub ends_at : ℕ → List (List ℕ) → ℕ
ends_at i ws = offset_of i ws + option_map_or length (slice_get ws i) 0

-- ---- as the code tells it

-- word i, which begins at this byte, isn't what it has to be
abbrev pub wrong_at : ℕ → ℕ → List ℕ → Next → Wrong
wrong_at i at w n = record { word = i; start = at; end = at + length w; next = n }

-- the last word is wrong; or one is missing after it, unless the line may end there
abbrev pub wrong_last : ℕ → ℕ → List ℕ → Next → Option Next → Option Wrong
wrong_last i at w n None = Some (wrong_at i at w n)
wrong_last i at w n (Some m) = if is_over m then None else Some (wrong_at (i + 1) (at + length w + 1) [] m)

abbrev pub met : ℕ → ℕ → List ℕ → Next → (Next → Option Wrong) → Option Next → Option Wrong
met i at w n more None = Some (wrong_at i at w n)
met i at w n more (Some m) = more m

-- of these words, of which the first is word i, begins at this byte and has to be n, the first that is wrong
unfoldable pub wrong_in : Next → ℕ → ℕ → List (List ℕ) → Option Wrong
wrong_in n i at [] = None
wrong_in n i at (w ∷ []) = wrong_last i at w n (after n w)
wrong_in n i at (w ∷ v ∷ ws) = met i at w n (λ m. wrong_in m (i + 1) (at + length w + 1) (v ∷ ws)) (after n w)
