-- The replies that a thread got.
use Rattle.std.proofs.Common.{◌≡◌, ℕ, ◌<◌, List, [], ◌∷◌, ◌++◌, map, take, length, get_or, Option, Some, None, refl, sym, ap, ◌∙◌, append_assoc, append-nil, ◌+◌}
use Rattle.std.specs.Prelude.{Bool, true, false, option_to_list}
use Rattle.std.specs.Option.{option_or}
use Rattle.std.specs.List.{flat_map, last_or}
use Rattle.std.proofs.lemmas.Grind.{flat_map-append}
use Rattle.std.proofs.lemmas.List.{take_more}
use Rattle.lockword.specs.declared.reply.Reply.{Reply}
use Rattle.posixmutex.specs.declared.point.Decision.{Decision}
use Rattle.protocol.specs.declared.note.Note.{Note}
use Rattle.protocol.specs.declared.note.Note.TheVariants.{Expired}
use Rattle.facts.specs.declared.fact.Begun.{Begun}
use Rattle.facts.specs.declared.fact.Queue.{Queue}
use Rattle.facts.specs.declared.fact.Queue.TheVariants.{Mutex, Condition}
use Rattle.facts.specs.declared.fact.Fact.{Fact}
use Rattle.facts.specs.declared.fact.Fact.TheVariants.{Wake}
use Rattle.protocol.specs.Notes.{facts_of, point_facts, sleep_facts, moves_to, refusal_facts, return_facts, death_facts, reap_facts}
use Rattle.protocol.specs.Headline.{facts_among}
use Rattle.texts.specs.Tables.{told_to, last_reply}

-- what some facts tell the thread
abbrev told_by : ℕ → List Fact → List Reply
told_by t fs = flat_map (told_to t) fs

told_by-append : (t : ℕ) (fs gs : List Fact) → told_by t (fs ++ gs) ≡ told_by t fs ++ told_by t gs
told_by-append t fs gs = flat_map-append (told_to t) fs gs

-- a time limit that comes
pub told_at_expiry : (t u : ℕ) (q : Queue) → told_by t (facts_of (Expired u q)) ≡ []
told_at_expiry t u (Mutex m) = refl
told_at_expiry t u (Condition k) = refl

-- facts that tell it nothing
behind : (t : ℕ) (fs gs : List Fact) → told_by t fs ≡ [] → told_by t (fs ++ gs) ≡ told_by t gs
behind t fs gs none = told_by-append t fs gs ∙ ap (λ (l : List Reply). l ++ told_by t gs) none

no_point : (t : ℕ) (p : Option Decision) → told_by t (point_facts p) ≡ []
no_point t None = refl
no_point t (Some d) = refl

no_sleep : (t u : ℕ) (m : Option Queue) → told_by t (sleep_facts u m) ≡ []
no_sleep t u None = refl
no_sleep t u (Some m) = refl

no_wake : (t : ℕ) (us : List ℕ) → told_by t (map Wake us) ≡ []
no_wake t [] = refl
no_wake t (u ∷ us) = no_wake t us

no_move : (t m : ℕ) (us : List ℕ) → told_by t (map (moves_to m) us) ≡ []
no_move t m [] = refl
no_move t m (u ∷ us) = no_move t m us

no_death : (t u : ℕ) (m : Option ℕ) → told_by t (death_facts u m) ≡ []
no_death t u None = refl
no_death t u (Some m) = refl

no_end : (t u : ℕ) (b : Bool) → told_by t (reap_facts u b) ≡ []
no_end t u false = refl
no_end t u true = refl

-- a call that begins tells its thread a reply where it is refused
pub told_at_begin : (t u : ℕ) (c : Begun) (x : Option Reply) → told_by t (refusal_facts u c x) ≡ told_by t (return_facts u x)
told_at_begin t u c None = refl
told_at_begin t u c (Some x) = refl

-- an access tells its thread a reply where the call returned
pub told_at_step : (t u m : ℕ) (p : Option Decision) (q : Option Queue) (us vs : List ℕ) (x : Option Reply)
    → told_by t (point_facts p ++ (sleep_facts u q ++ (map Wake us ++ (map (moves_to m) vs ++ return_facts u x)))) ≡ told_by t (return_facts u x)
told_at_step t u m p q us vs x =
    behind t (point_facts p) (sleep_facts u q ++ (map Wake us ++ (map (moves_to m) vs ++ return_facts u x))) (no_point t p)
    ∙ behind t (sleep_facts u q) (map Wake us ++ (map (moves_to m) vs ++ return_facts u x)) (no_sleep t u q)
    ∙ behind t (map Wake us) (map (moves_to m) vs ++ return_facts u x) (no_wake t us) ∙ behind t (map (moves_to m) vs) (return_facts u x) (no_move t m vs)

-- a walk tells nobody a reply
pub told_at_walk : (t u : ℕ) (m : Option ℕ) (us : List ℕ) (b : Bool) → told_by t (death_facts u m ++ (map Wake us ++ reap_facts u b)) ≡ []
told_at_walk t u m us b = behind t (death_facts u m) (map Wake us ++ reap_facts u b) (no_death t u m) ∙ behind t (map Wake us) (reap_facts u b) (no_wake t us) ∙ no_end t u b

-- ---- the last one

last_or-append : (o : Option Reply) (xs ys : List Reply) → last_or o (xs ++ ys) ≡ last_or (last_or o xs) ys
last_or-append o [] ys = refl
last_or-append o (x ∷ xs) ys = last_or-append (Some x) xs ys

facts_among-append : (ns ms : List Note) → facts_among (ns ++ ms) ≡ facts_among ns ++ facts_among ms
facts_among-append [] ms = refl
facts_among-append (n ∷ ns) ms = ap (λ (fs : List Fact). facts_of n ++ fs) (facts_among-append ns ms) ∙ sym (append_assoc (facts_of n) (facts_among ns) (facts_among ms))

-- one event more: what it tells is the last reply, or else the one before is
pub last_more : (t : ℕ) (ns : List Note) (i : ℕ) (n d : Note) (x : Option Reply) → i < length ns → get_or ns i d ≡ n → option_to_list x ≡ told_by t (facts_of n) → last_reply t (take (i + 1) ns) ≡ last_or (last_reply t (take i ns)) (option_to_list x)
last_more t ns i n d x lt is told =
    ap (last_reply t) (take_more ns i d lt ∙ ap (λ (m : Note). take i ns ++ m ∷ []) is)
    ∙ ap (λ (fs : List Fact). last_or None (told_by t fs)) (facts_among-append (take i ns) (n ∷ []))
    ∙ ap (λ (rs : List Reply). last_or None rs) (told_by-append t (facts_among (take i ns)) (facts_of n ++ []))
    ∙ last_or-append None (told_by t (facts_among (take i ns))) (told_by t (facts_of n ++ []))
    ∙ ap (λ (fs : List Fact). last_or (last_reply t (take i ns)) (told_by t fs)) (append-nil (facts_of n))
    ∙ ap (λ (rs : List Reply). last_or (last_reply t (take i ns)) rs) (sym told)

-- the later of two replies, if there is one
pub later : (o x : Option Reply) → option_or x o ≡ last_or o (option_to_list x)
later o None = refl
later o (Some x) = refl
