use Rattle.std.proofs.Common.{◌≡◌, List, ◌++◌, ◌∷◌, ap, sym, subst, ◌∙◌}
use Rattle.std.specs.Io.KnownBytes.{Appends}
use Rattle.facts.specs.declared.fact.Fact.{Fact}
use Rattle.protocol.specs.Notes.{facts_of}
use Rattle.streams.specs.Leaves.{Leaves}
use Rattle.texts.specs.Text.{fact_text, facts_text}
use Rattle.texts.proofs.Events.{fact_more, facts_text-append, given_first}
use Rattle.streams.proofs.Writers.{ends_at_second, Appends-trans}
use Rattle.texts.proofs.text.write_note.Goals as goal

pub returns-in_err-write_fact : goal.returns-in_err-write_fact
returns-in_err-write_fact g c =
    let i = c.args.event in
    let xs = c.loop-fact.yielded in
    let x = c.in-Some.fact in
    let others = c.next.new.self in
    let start : facts_of c.args.note.now ≡ c.into_iter-fact-iterator.result = cc in
    let all : facts_of c.args.note.now ≡ xs ++ x ∷ others = start ∙ given_first c.into_iter-fact-iterator.result xs c.loop-fact.fact-iterator c.loop-fact.yielded_by ∙ ap (λ (fs : List Fact). xs ++ fs) c.in-Some.ensures.steps in
    subst (Leaves _ _ c.from_residual.result) (sym (ap (facts_text i) all ∙ facts_text-append i xs (x ∷ others)))
    (ends_at_second _ _ _ c.from_residual.result (facts_text i xs) (fact_text i x) (facts_text i others) c.from_residual.ensures.0 c.loop-fact.invariant c.in_err-write_fact.ensures)

pub loop-fact-preserved : goal.loop-fact-preserved
loop-fact-preserved g c =
    subst (Appends _ _) (sym (fact_more c.args.event c.loop-fact.yielded c.in-Some.fact)) (Appends-trans _ _ _ _ _ c.loop-fact.invariant c.in_ok-write_fact.ensures)
