use Rattle.std.proofs.Common.{◌∙◌, sym, ap, inl, inr}
use Rattle.std.specs.List.{flat_map}
use Rattle.protocol.specs.declared.note.Note.{Note}
use Rattle.protocol.specs.Notes.{facts_of}
use Rattle.texts.specs.Tables.{told_to}
use Rattle.texts.proofs.Told.{told_at_expiry, told_at_step, told_at_walk}
use Rattle.texts.proofs.table.reply_in.Goals as goal

pub returns-in-Stepped : goal.returns-in-Stepped
returns-in-Stepped c =
    let n = c.in-Stepped in
    c.reply_to-in-Stepped.ensures ∙ sym (told_at_step c.args.thread n.caller n.mutex n.point n.slept n.woken n.moved n.returned) ∙ ap (λ (m : Note). flat_map (told_to c.args.thread) (facts_of m)) (sym n.is)

pub returns-in-Nothing : goal.returns-in-Nothing
returns-in-Nothing c = elim c.in-Nothing.is [
  | inl e ↦ ap (λ (m : Note). flat_map (told_to c.args.thread) (facts_of m)) (sym e)
  | inr (inl e) ↦ ap (λ (m : Note). flat_map (told_to c.args.thread) (facts_of m)) (sym e.1)
  | inr (inr (inl e)) ↦ ap (λ (m : Note). flat_map (told_to c.args.thread) (facts_of m)) (sym e.1)
  | inr (inr (inr e)) ↦ sym (told_at_expiry c.args.thread e.0 e.1) ∙ ap (λ (m : Note). flat_map (told_to c.args.thread) (facts_of m)) (sym e.2)
]

pub returns-in-Walked : goal.returns-in-Walked
returns-in-Walked c = elim c.in-Walked.is [
  | inl e ↦ sym (told_at_walk c.args.thread e.0 e.1 e.2 e.3) ∙ ap (λ (m : Note). flat_map (told_to c.args.thread) (facts_of m)) (sym e.4)
  | inr e ↦ ap (λ (m : Note). flat_map (told_to c.args.thread) (facts_of m)) (sym e.1)
]
