-- What an unlink does to a list, row by row and in all.
use Rattle.std.specs.Prelude.{ℕ, zero, suc, ◌≡◌, ◌<◌, ◌≤◌, ◌==◌, Bool, false, List, [], ◌∷◌, if◌then◌else◌}
use Rattle.lockword.specs.declared.reply.Reply.{Reply}
use Rattle.lockword.specs.declared.reply.Reply.TheVariants.{OK, EFAULT}
use Rattle.stepprograms.specs.declared.access.Answer.{Answer}
use Rattle.stepprograms.specs.Accesses.{address_of}
use Rattle.memorymap.specs.Chains.{previous_place, IsAmong, AreDifferent, places_of, IsChain, IsChainBothWays, without}
use Rattle.robustlist.specs.declared.unlink.UnlinkRow.{UnlinkRow}
use Rattle.robustlist.specs.declared.unlink.UnlinkRow.TheVariants.{LoadNext, LoadPrevious}
use Rattle.robustlist.specs.declared.unlink.UnlinkRow.TheVariants.{StoreNext, StorePrevious, Ended}
use Rattle.robustlist.specs.Words.{put, answer_on, after, IsAnswerOf, IsOn, Agree, Makes}
use Rattle.robustlist.specs.Unlink.{unlink_access, unlink_resume, UnlinkGoes}

-- the list that the words lead over: the first store takes the entry out
abbrev pub unlink_list : ℕ → List ℕ → UnlinkRow → List ℕ
unlink_list e es (StorePrevious n p) = without e es
unlink_list e es (Ended x) = without e es
unlink_list e es r = es

-- before the first store the words are a chain both ways of the old list, and a row carries the entry's words; from
-- then on, after the store that is still to be made, they are a chain both ways of the new one
abbrev pub UnlinkKnows : ℕ → ℕ → List ℕ → UnlinkRow → (ℕ → ℕ) → Type 0
UnlinkKnows h e es LoadNext w = IsChainBothWays w h es
UnlinkKnows h e es (LoadPrevious n) w = IsChainBothWays w h es × (n ≡ w e)
UnlinkKnows h e es (StoreNext n p) w = IsChainBothWays w h es × (n ≡ w e) × (p ≡ w (previous_place e))
UnlinkKnows h e es (StorePrevious n p) w =
    IsChainBothWays (put w (previous_place n) p) h (without e es) × IsAmong n (without e es)
UnlinkKnows h e es (Ended x) w = IsChainBothWays w h (without e es) × (x ≡ OK)

-- what is so at a row of an unlink of the entry e from the list es: as they are, the words are a chain of the old list
-- or of the new one
pub record Unlinking (h e : ℕ) (es : List ℕ) (r : UnlinkRow) (w : ℕ → ℕ) : Type 0 where
  pub places : AreDifferent (places_of h es)
  pub among : IsAmong e es
  pub chain : IsChain w h (unlink_list e es r)
  pub knows : UnlinkKnows h e es r w

-- this many accesses an unlink makes at most from a row on
abbrev pub unlink_left : UnlinkRow → ℕ
unlink_left LoadNext = 4
unlink_left (LoadPrevious n) = 3
unlink_left (StoreNext n p) = 2
unlink_left (StorePrevious n p) = 1
unlink_left (Ended x) = 0

-- an unlink of an entry of a chain both ways, whatever others write elsewhere and wherever it stops
pub record UnlinksAreRight : Type 0 where
  -- it begins rightly
  pub begins : (h e : ℕ) (es : List ℕ) (w : ℕ → ℕ) → IsChainBothWays w h es → IsAmong e es → Unlinking h e es LoadNext w
  -- each access leads from row to row
  pub steps : (h e : ℕ) (es : List ℕ) (r : UnlinkRow) (v w : ℕ → ℕ) → UnlinkGoes r → Unlinking h e es r v
      → Makes (unlink_access h e r) h es v w →
      Unlinking h e es (unlink_resume h r (answer_on (unlink_access h e r) v)) w
  -- at its return it has taken the entry out
  pub ends : (h e : ℕ) (es : List ℕ) (x : Reply) (w : ℕ → ℕ) → Unlinking h e es (Ended x) w
      → (x ≡ OK) × IsChainBothWays w h (without e es)
  -- between any two accesses, and wherever it is stopped, the words are a chain of the old list or of the new one: its
  -- row says which
  pub leads : (h e : ℕ) (es : List ℕ) (r : UnlinkRow) (w : ℕ → ℕ) → Unlinking h e es r w
      → IsChain w h (unlink_list e es r)
  -- its accesses are at the list's places
  pub near : (h e : ℕ) (es : List ℕ) (r : UnlinkRow) (w : ℕ → ℕ) → Unlinking h e es r w
      → IsOn h es (address_of (unlink_access h e r))
  -- what others write elsewhere doesn't matter
  pub others : (h e : ℕ) (es : List ℕ) (r : UnlinkRow) (v w : ℕ → ℕ) → Agree h es v w → Unlinking h e es r v
      → Unlinking h e es r w
  -- whatever it is answered, it makes 4 accesses at most
  pub falls : (h : ℕ) (r : UnlinkRow) (a : Answer) → UnlinkGoes r → unlink_left (unlink_resume h r a) < unlink_left r
  -- it returns EFAULT exactly after an answer that its access doesn't have, and else OK
  pub faults : (h e : ℕ) (r : UnlinkRow) (a : Answer) → UnlinkGoes r → (IsAnswerOf (unlink_access h e r) a → ⊥)
      → unlink_resume h r a ≡ Ended EFAULT
  pub replies : (h e : ℕ) (r : UnlinkRow) (a : Answer) (x : Reply) → UnlinkGoes r → IsAnswerOf (unlink_access h e r) a
      → unlink_resume h r a ≡ Ended x → x ≡ OK

-- where an unlink stands after some accesses on words that nobody else writes, and those words then
pub record UnlinkRun : Type 0 where
  pub row : UnlinkRow
  pub words : ℕ → ℕ

abbrev pub unlink_next : ℕ → ℕ → UnlinkRun → UnlinkRun
unlink_next h e s =
    let a = unlink_access h e s.row in
    record { row = unlink_resume h s.row (answer_on a s.words); words = after a s.words }

-- after k accesses
abbrev pub unlink_run : ℕ → ℕ → ℕ → (ℕ → ℕ) → UnlinkRun
unlink_run zero h e w = record { row = LoadNext; words = w }
unlink_run (suc k) h e w = unlink_next h e (unlink_run k h e w)

abbrev pub is_last : ℕ → List ℕ → Bool
is_last e [] = false
is_last e (x ∷ []) = x == e
is_last e (x ∷ y ∷ es) = is_last e (y ∷ es)

-- 3 accesses take the last entry out, 4 another
abbrev pub unlink_accesses : ℕ → List ℕ → ℕ
unlink_accesses e es = if is_last e es then 3 else 4

-- an unlink from the list es, on words that nobody else writes
pub record UnlinkOf (h e : ℕ) (es : List ℕ) (w : ℕ → ℕ) : Type 0 where
  -- up to its first store, the third access, the words are a chain of the old list, and from then on of the new one
  pub goes : (k : ℕ) → k < unlink_accesses e es → UnlinkGoes (unlink_run k h e w).row
  pub before : (k : ℕ) → k < 3 → IsChain (unlink_run k h e w).words h es
  pub since : IsChain (unlink_run 3 h e w).words h (without e es)
  -- after its last access it has returned OK, and the words are a chain both ways of the new list
  pub returns : (unlink_run (unlink_accesses e es) h e w).row ≡ Ended OK
  pub unlinked : IsChainBothWays (unlink_run (unlink_accesses e es) h e w).words h (without e es)
  -- no other word is written, the entry's own neither
  pub stays : (k p : ℕ) → k ≤ unlink_accesses e es → (IsOn h (without e es) p → ⊥) → (unlink_run k h e w).words p ≡ w p

abbrev pub UnlinksAlone : Type 0
UnlinksAlone = (h e : ℕ) (es : List ℕ) (w : ℕ → ℕ) → IsChainBothWays w h es → IsAmong e es → UnlinkOf h e es w
