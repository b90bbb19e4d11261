-- What is seen of traces.
use Rattle.std.proofs.Common.{◌≡◌, ℕ, Bool, true, false, List, [], ◌∷◌, ◌++◌, refl, subst}
use Rattle.std.specs.Prelude.{if◌then◌else◌}
use Rattle.facts.specs.declared.fact.Line.{Line}
use Rattle.facts.specs.Orders.{Each}
use Rattle.verdict.specs.declared.checking.Verdict.TheVariants.{Legal}
use Rattle.verdict.specs.Judges.{IsMutex}
use Rattle.verdict.specs.Reading.{Trace}
use Rattle.verdict.specs.Verdicts.{AllFit, IsJudged}
use Rattle.verdict.proofs.Burials.{explains}
use Rattle.histories.specs.declared.entry.Entry.{Entry}
use Rattle.histories.specs.declared.entry.Entry.TheVariants.{Told, Doom}
use Rattle.histories.specs.Histories.{AllReleaseWell, IsExplained, LegalHistory, is_hidden, nobody, seen}
use Rattle.histories.specs.Histories.{Shows, Nothing, Hides, Tells, Dooms, Kills}

-- the part of a trace that shows the older entries
beginning : (n : ℕ) (d : ℕ → Bool) (trace : List Line) (h newer older : List Entry) → Shows d trace h → h ≡ newer ++ older → AllFit n trace → AllReleaseWell trace → Each (λ e. IsMutex n e.fact) trace → LegalHistory n older
beginning n d trace h [] older s is f w i =
    record { trace = trace; doomed = d; certifies = record { fits = f; waits = w; inside = i; shows = subst (Shows d trace) is s } }
beginning n d trace h (x ∷ newer) older Nothing is f w i = let none : [] ≡ x ∷ (newer ++ older) = is in absurd cc
beginning n d trace h (x ∷ newer) older (Hides d' e es h' hid s) is f w i = beginning n d' es h' (x ∷ newer) older s is f.1 w.1 i.1
beginning n d trace h (x ∷ newer) older (Tells d' e es h' hid free s) is f w i =
    let all : Told e.fact ∷ h' ≡ x ∷ (newer ++ older) = is in
    let rest : h' ≡ newer ++ older = cc in
    beginning n d' es h' newer older s rest f.1 w.1 i.1
beginning n d trace h (x ∷ newer) older (Dooms d' t es h' free alive s) is f w i =
    let all : Doom t ∷ h' ≡ x ∷ (newer ++ older) = is in
    let rest : h' ≡ newer ++ older = cc in
    beginning n d' es h' newer older s rest f w i
beginning n d trace h (x ∷ newer) older (Kills d' t e es h' kill doomed s) is f w i = beginning n d' es h' (x ∷ newer) older s is f.1 w.1 i.1

pub beginnings : (n : ℕ) (newer older : List Entry) → LegalHistory n (newer ++ older) → LegalHistory n older
beginnings n newer older l = let c = l.certifies in beginning n l.doomed l.trace (newer ++ older) newer older c.shows refl c.fits c.waits c.inside

pub suffices : (t : Trace) (d : ℕ → Bool) (h : List Entry) (points : ℕ) → IsJudged t (Legal points) → AllReleaseWell t.told → Each (λ e. IsMutex t.head.mutexes e.fact) t.told → Shows d t.told h → LegalHistory t.head.mutexes h
suffices t d h points judged waits inside shows =
    record { trace = t.told; doomed = d; certifies = record { fits = judged.0.fits; waits = waits; inside = inside; shows = shows } }

shown_one : (e : Line) (es : List Line) (b : Bool) → is_hidden e.fact ≡ b → Shows nobody es (seen es) → Shows nobody (e ∷ es) (if b then seen es else Told e.fact ∷ seen es)
shown_one e es true hid rest = Hides nobody e es (seen es) hid rest
shown_one e es false hid rest = Tells nobody e es (seen es) hid refl rest

shown : (trace : List Line) → Shows nobody trace (seen trace)
shown [] = Nothing
shown (e ∷ es) = shown_one e es (is_hidden e.fact) refl (shown es)

pub traces : (n : ℕ) (trace : List Line) → AllFit n trace → AllReleaseWell trace → Each (λ e. IsMutex n e.fact) trace → LegalHistory n (seen trace)
traces n trace fits waits inside =
    record { trace = trace; doomed = nobody; certifies = record { fits = fits; waits = waits; inside = inside; shows = shown trace } }

pub explained : (n : ℕ) (h : List Entry) → LegalHistory n h → IsExplained n h
explained n h l = record { trace = l.trace; doomed = l.doomed; shows = l.certifies.shows; explains = explains n l.trace l.certifies.fits l.certifies.inside }
