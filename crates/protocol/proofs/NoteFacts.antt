-- What holds of all the facts that an access tells, or a walk.
use Rattle.std.proofs.Common.{◌≡◌, ℕ, Bool, Option, Some, None, List, [], ◌∷◌, ◌++◌, map, refl}
use Rattle.protocol.proofs.Vocabulary.{Fact, Decision, Queue, Reply, Stepped, Walked, facts_of, moves_to, return_facts, sleep_facts, reap_facts}

-- that thread u falls asleep, or that another is woken or moved
abbrev pub IsOfSleep : ℕ → Fact → Type 0
IsOfSleep u (Fact.Sleep t q) = t ≡ u
IsOfSleep u (Fact.Wake t) = Unit {0}
IsOfSleep u (Fact.Move t m) = Unit {0}
IsOfSleep u f = ⊥

-- what a fact keeps that comes before others
abbrev pub Keeps : (List Fact → Type 0) → Fact → Type 0
Keeps P f = (fs : List Fact) → P fs → P (f ∷ fs)

pub behind_woken : (P : List Fact → Type 0) (ws : List ℕ) (rest : List Fact) → ((w : ℕ) → Keeps P (Fact.Wake w)) → P rest → P (map Fact.Wake ws ++ rest)
behind_woken P [] rest keeps h = h
behind_woken P (w ∷ ws) rest keeps h = keeps w (map Fact.Wake ws ++ rest) (behind_woken P ws rest keeps h)

pub behind_moved : (P : List Fact → Type 0) (m : ℕ) (ms : List ℕ) (rest : List Fact) → ((v : ℕ) → Keeps P (Fact.Move v m)) → P rest → P (map (moves_to m) ms ++ rest)
behind_moved P m [] rest keeps h = h
behind_moved P m (v ∷ vs) rest keeps h = keeps v (map (moves_to m) vs ++ rest) (behind_moved P m vs rest keeps h)

-- after an access's point: what it returns, and before that who sleeps, and who is woken or moved
pub behind_point : (P : List Fact → Type 0) (u m : ℕ) (k : Option Queue) (ws ms : List ℕ) (rest : List Fact)
    → ((f : Fact) → IsOfSleep u f → Keeps P f) → P rest → P (sleep_facts u k ++ (map Fact.Wake ws ++ (map (moves_to m) ms ++ rest)))
behind_point P u m k ws ms rest keeps h = go k (behind_woken P ws (map (moves_to m) ms ++ rest) (λ w. keeps (Fact.Wake w) tt) (behind_moved P m ms rest (λ v. keeps (Fact.Move v m) tt) h))
  where
    go : (k : Option Queue) → P (map Fact.Wake ws ++ (map (moves_to m) ms ++ rest)) → P (sleep_facts u k ++ (map Fact.Wake ws ++ (map (moves_to m) ms ++ rest)))
    go None behind = behind
    go (Some q) behind = keeps (Fact.Sleep u q) refl (map Fact.Wake ws ++ (map (moves_to m) ms ++ rest)) behind

-- all that an access tells
pub of_access : (P : List Fact → Type 0) (u m : ℕ) (d : Option Decision) (k : Option Queue) (ws ms : List ℕ) (y : Option Reply)
    → ((e : Decision) → Keeps P (Fact.Point e)) → ((f : Fact) → IsOfSleep u f → Keeps P f) → P (return_facts u y) → P (facts_of (Stepped u m d k ws ms y))
of_access P u m None k ws ms y point keeps h = behind_point P u m k ws ms (return_facts u y) keeps h
of_access P u m (Some e) k ws ms y point keeps h = point e (facts_of (Stepped u m None k ws ms y)) (behind_point P u m k ws ms (return_facts u y) keeps h)

-- and a walk
pub of_walk : (P : List Fact → Type 0) (u : ℕ) (d : Option ℕ) (ws : List ℕ) (y : Bool)
    → ((m : ℕ) → Keeps P (Fact.Death u m)) → ((w : ℕ) → Keeps P (Fact.Wake w)) → P (reap_facts u y) → P (facts_of (Walked u d ws y))
of_walk P u None ws y death woken h = behind_woken P ws (reap_facts u y) woken h
of_walk P u (Some m) ws y death woken h = death m (map Fact.Wake ws ++ reap_facts u y) (behind_woken P ws (reap_facts u y) woken h)
