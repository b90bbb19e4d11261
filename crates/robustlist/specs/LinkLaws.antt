-- What a link does to a list, row by row and in all.
use Rattle.std.specs.Prelude.{ℕ, zero, suc, ◌≡◌, ◌≢◌, ◌<◌, ◌≤◌, ◌==◌, List, [], ◌∷◌, if◌then◌else◌}
use Rattle.lockword.specs.declared.reply.Reply.{Reply}
use Rattle.lockword.specs.declared.reply.Reply.TheVariants.{OK, EFAULT}
use Rattle.stepprograms.specs.declared.access.Answer.{Answer}
use Rattle.stepprograms.specs.Accesses.{address_of}
use Rattle.memorymap.specs.Chains.{previous_place, IsApart, AreDifferent, places_of, IsChain, IsChainBothWays}
use Rattle.robustlist.specs.declared.link.LinkRow.{LinkRow}
use Rattle.robustlist.specs.declared.link.LinkRow.TheVariants.{LoadFirst, StoreNext, StorePrevious}
use Rattle.robustlist.specs.declared.link.LinkRow.TheVariants.{StoreBehind, StoreFirst, Ended}
use Rattle.robustlist.specs.Words.{put, answer_on, after, IsAnswerOf, IsOn, Agree, Makes}
use Rattle.robustlist.specs.Link.{link_access, link_resume, LinkGoes}

-- the two words of an entry lie apart from the words of the head and of the entries
abbrev pub LiesApart : ℕ → ℕ → List ℕ → Type 0
LiesApart h e es = IsApart e (places_of h es) × IsApart (previous_place e) (places_of h es)

-- what the head's first word is: the first entry, or its own address
abbrev pub first_of : ℕ → List ℕ → ℕ
first_of h [] = h
first_of h (x ∷ xs) = x

-- what a row carries
abbrev pub LinkCarries : ℕ → List ℕ → LinkRow → Type 0
LinkCarries h es (StoreNext f) = f ≡ first_of h es
LinkCarries h es (StorePrevious f) = f ≡ first_of h es
LinkCarries h es (StoreBehind f) = (f ≡ first_of h es) × (f ≢ h)
LinkCarries h es (Ended x) = x ≡ OK
LinkCarries h es r = Unit {0}

-- the list that the words lead over: the last store puts the entry in front
abbrev pub link_list : ℕ → List ℕ → LinkRow → List ℕ
link_list e es (Ended x) = e ∷ es
link_list e es r = es

-- the words with e before f, where f is an entry, and first
abbrev pub put_in_front : ℕ → ℕ → ℕ → (ℕ → ℕ) → ℕ → ℕ
put_in_front h e f w = if f == h then put w h e else put (put w (previous_place f) e) h e

-- the words after the stores that are still to be made
abbrev pub link_finished : ℕ → ℕ → LinkRow → (ℕ → ℕ) → ℕ → ℕ
link_finished h e LoadFirst w = put_in_front h e (w h) (put (put w e (w h)) (previous_place e) h)
link_finished h e (StoreNext f) w = put_in_front h e f (put (put w e f) (previous_place e) h)
link_finished h e (StorePrevious f) w = put_in_front h e f (put w (previous_place e) h)
link_finished h e (StoreBehind f) w = put (put w (previous_place f) e) h e
link_finished h e StoreFirst w = put w h e
link_finished h e (Ended x) w = w

-- what is so at a row of a link of the entry e into the list es: as they are, the words are a chain of the old list or
-- of the new one; after the stores that are still to be made, they are a chain both ways of the new one
pub record Linking (h e : ℕ) (es : List ℕ) (r : LinkRow) (w : ℕ → ℕ) : Type 0 where
  pub places : AreDifferent (places_of h (e ∷ es))
  pub carries : LinkCarries h es r
  pub chain : IsChain w h (link_list e es r)
  pub finished : IsChainBothWays (link_finished h e r w) h (e ∷ es)

-- this many accesses a link makes at most from a row on
abbrev pub link_left : LinkRow → ℕ
link_left LoadFirst = 5
link_left (StoreNext f) = 4
link_left (StorePrevious f) = 3
link_left (StoreBehind f) = 2
link_left StoreFirst = 1
link_left (Ended x) = 0

-- a link of an entry that lies apart from a chain both ways, whatever others write elsewhere and wherever it stops
pub record LinksAreRight : Type 0 where
  -- it begins rightly
  pub begins : (h e : ℕ) (es : List ℕ) (w : ℕ → ℕ) → IsChainBothWays w h es → LiesApart h e es
      → Linking h e es LoadFirst w
  -- each access leads from row to row
  pub steps : (h e : ℕ) (es : List ℕ) (r : LinkRow) (v w : ℕ → ℕ) → LinkGoes r → Linking h e es r v
      → Makes (link_access h e r) h (e ∷ es) v w →
      Linking h e es (link_resume h r (answer_on (link_access h e r) v)) w
  -- at its return it has put the entry in front
  pub ends : (h e : ℕ) (es : List ℕ) (x : Reply) (w : ℕ → ℕ) → Linking h e es (Ended x) w
      → (x ≡ OK) × IsChainBothWays w h (e ∷ es)
  -- between any two accesses, and wherever it is stopped, the words are a chain of the old list or of the new one: its
  -- row says which
  pub leads : (h e : ℕ) (es : List ℕ) (r : LinkRow) (w : ℕ → ℕ) → Linking h e es r w → IsChain w h (link_list e es r)
  -- its accesses are at the list's places and the entry's
  pub near : (h e : ℕ) (es : List ℕ) (r : LinkRow) (w : ℕ → ℕ) → Linking h e es r w
      → IsOn h (e ∷ es) (address_of (link_access h e r))
  -- what others write elsewhere doesn't matter
  pub others : (h e : ℕ) (es : List ℕ) (r : LinkRow) (v w : ℕ → ℕ) → Agree h (e ∷ es) v w → Linking h e es r v
      → Linking h e es r w
  -- whatever it is answered, it makes 5 accesses at most
  pub falls : (h : ℕ) (r : LinkRow) (a : Answer) → LinkGoes r → link_left (link_resume h r a) < link_left r
  -- it returns EFAULT exactly after an answer that its access doesn't have, and else OK
  pub faults : (h e : ℕ) (r : LinkRow) (a : Answer) → LinkGoes r → (IsAnswerOf (link_access h e r) a → ⊥)
      → link_resume h r a ≡ Ended EFAULT
  pub replies : (h e : ℕ) (r : LinkRow) (a : Answer) (x : Reply) → LinkGoes r → IsAnswerOf (link_access h e r) a
      → link_resume h r a ≡ Ended x → x ≡ OK

-- where a link stands after some accesses on words that nobody else writes, and those words then
pub record LinkRun : Type 0 where
  pub row : LinkRow
  pub words : ℕ → ℕ

abbrev pub link_next : ℕ → ℕ → LinkRun → LinkRun
link_next h e s =
    let a = link_access h e s.row in
    record { row = link_resume h s.row (answer_on a s.words); words = after a s.words }

-- after k accesses
abbrev pub link_run : ℕ → ℕ → ℕ → (ℕ → ℕ) → LinkRun
link_run zero h e w = record { row = LoadFirst; words = w }
link_run (suc k) h e w = link_next h e (link_run k h e w)

-- 4 accesses into an empty list, 5 into another
abbrev pub link_accesses : List ℕ → ℕ
link_accesses [] = 4
link_accesses (x ∷ xs) = 5

-- a link into the list es, on words that nobody else writes
pub record LinkOf (h e : ℕ) (es : List ℕ) (w : ℕ → ℕ) : Type 0 where
  -- before its last access the words are still a chain of the old list
  pub goes : (k : ℕ) → k < link_accesses es → LinkGoes (link_run k h e w).row × IsChain (link_run k h e w).words h es
  -- after it the link has returned OK, and the words are a chain both ways of the new list
  pub returns : (link_run (link_accesses es) h e w).row ≡ Ended OK
  pub linked : IsChainBothWays (link_run (link_accesses es) h e w).words h (e ∷ es)
  -- no other word is written
  pub stays : (k p : ℕ) → k ≤ link_accesses es → (IsOn h (e ∷ es) p → ⊥) → (link_run k h e w).words p ≡ w p

abbrev pub LinksAlone : Type 0
LinksAlone = (h e : ℕ) (es : List ℕ) (w : ℕ → ℕ) → IsChainBothWays w h es → LiesApart h e es → LinkOf h e es w
