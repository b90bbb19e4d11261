-- What is quoted is the line that is read.
use Rattle.std.proofs.Common.{◌≡◌, ℕ, Option, Some, None, List, [], ◌∷◌, ◌++◌, append_assoc, refl, sym, ap, ◌∙◌}
use Rattle.std.specs.Prelude.{codes, decimal}
use Rattle.facts.specs.declared.fact.Queue.TheVariants.{Mutex, Condition}
use Rattle.facts.specs.declared.fact.Fact.{Fact}
use Rattle.facts.specs.declared.fact.Fact.TheVariants.{Begin, Point, Death, Sleep, Wake, Move, Return, Kill, Reap, Renew}
use Rattle.posixmutex.specs.declared.point.Operation.{Operation}
use Rattle.histories.specs.declared.entry.Entry.{Entry}
use Rattle.histories.specs.declared.entry.Entry.TheVariants.{Told, Doom}
use Rattle.histories.specs.declared.entry.HistoryLine.{HistoryLine}
use Rattle.histories.specs.Written.{entry_line, entry_words, fact_line, fact_words, spaced}
use Rattle.histories.proofs.ReadBack.{lines_back}
use Rattle.texts.specs.Text.{begin_line_of, fact_text}
use Rattle.judge_report.specs.Laws.{QuotesAreReadBack}
use Rattle.judge_report.specs.Texts.{entry_text, quote}

-- words with a space between each two, and a line feed after the last
abbrev ended : List ℕ → List (List ℕ) → List ℕ
ended w [] = w ++ 10 ∷ []
ended w (v ∷ ws) = w ++ 32 ∷ ended v ws

ended_spaced : (w : List ℕ) (ws : List (List ℕ)) → ended w ws ≡ spaced (w ∷ ws) ++ 10 ∷ []
ended_spaced w [] = refl
ended_spaced w (v ∷ ws) = ap (λ (bs : List ℕ). w ++ 32 ∷ bs) (ended_spaced v ws) ∙ sym (append_assoc w (32 ∷ spaced (v ∷ ws)) (10 ∷ []))

begun_text : (i t m : ℕ) (op : Operation) (k : Option ℕ) → begin_line_of i t op k m ≡ ended (decimal i) (fact_words (Begin t (record { operation = op; mutex = m; condition = k })))
begun_text i t m op None = refl
begun_text i t m op (Some k) = refl

fact_ended : (i : ℕ) (f : Fact) → fact_text i f ≡ ended (decimal i) (fact_words f)
fact_ended i (Begin t c) = begun_text i t c.mutex c.operation c.condition
fact_ended i (Point d) = refl
fact_ended i (Death t m) = refl
fact_ended i (Sleep t (Mutex m)) = refl
fact_ended i (Sleep t (Condition k)) = refl
fact_ended i (Wake t) = refl
fact_ended i (Move t m) = refl
fact_ended i (Return t x) = refl
fact_ended i (Kill t) = refl
fact_ended i (Reap t) = refl
fact_ended i (Renew t) = refl

entry_ended : (i : ℕ) (e : Entry) → entry_text i e ≡ ended (decimal i) (entry_words e)
entry_ended i (Told f) = fact_ended i f
entry_ended i (Doom t) = refl

quoted : (l : HistoryLine) → quote l ≡ codes "  | " ++ (entry_line l.event l.entry ++ codes "\n")
quoted l = ap (λ (bs : List ℕ). codes "  | " ++ bs) (entry_ended l.event l.entry ∙ ended_spaced (decimal l.event) (entry_words l.entry))

pub quotes_back : QuotesAreReadBack
quotes_back = record {
  quote = λ h l is at of. (entry_line l.event l.entry, quoted l, lines_back.entry h l.event l.entry is at of);
  hidden = λ h i f is at hid of. (fact_line i f, fact_ended i f ∙ ended_spaced (decimal i) (fact_words f), lines_back.hidden h i f is at hid of);
}
