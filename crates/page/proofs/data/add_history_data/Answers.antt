use Rattle.std.proofs.Common.{◌++◌, List, take, sym, ap, subst, ◌∙◌, append_assoc}
use Rattle.std.specs.Prelude.{All, option_map, string_bytes}
use Rattle.std.proofs.lemmas.List.Elements.{All-take}
use Rattle.facts.specs.declared.fact.Line.{Line}
use Rattle.verdict.specs.Told.{IsOf}
use Rattle.picture.proofs.Columns.{then_text, told_as}
use Rattle.page.specs.Data.{history_data, history_end, history_shown, start_text, states_text}
use Rattle.page.proofs.Lines.{few_taken, history_so}
use Rattle.page.proofs.data.add_history_data.Goals as goal

pub add_states-requires : goal.add_states-requires
add_states-requires c =
    let t = c.args.trace.now in
    record {
      inside = subst (λ (ls : List Line). All (IsOf t.head) (take c.history_lines-shown.result ls)) (sym c.as_slice-lines.ensures.value) (All-take (IsOf t.head) c.history_lines-shown.result t.lines.items c.requires.within.lines);
      few = few_taken c.as_slice-lines.result.now c.history_lines-shown.result c.history_lines-shown.ensures.most;
      new = c.requires.new;
    }

pub returns : goal.returns
returns c =
    let t = c.args.trace.now in
    let why = option_map (λ s. s.now) c.args.why in
    let a = string_bytes c.args.text.now in
    let one = string_bytes c.add_states.new.text in
    let two = string_bytes c.add_history_end.new.text in
    let start = start_text c.args.names.now t.head in
    let ls = c.as_slice-lines.result.now in
    let items = states_text t.head (take c.history_lines-shown.result ls) in
    let last = history_end why t.last ls in
    told_as c.add_history_end.result a two ((start ++ items) ++ last) (history_data c.args.names.now t why)
    (append_assoc start items last
    ∙ ap (λ (us : List Line). start ++ (states_text t.head us ++ last)) (history_so t why ls c.history_lines-shown.result c.as_slice-lines.ensures.value c.history_lines-shown.ensures.value)
    ∙ ap (λ (us : List Line). start ++ (states_text t.head (history_shown t why) ++ history_end why t.last us)) c.as_slice-lines.ensures.value)
    (then_text c.add_history_end.result a one two (start ++ items) last c.in_ok-add_states.ensures c.add_history_end.ensures)
