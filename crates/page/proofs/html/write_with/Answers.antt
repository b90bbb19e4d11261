use Rattle.std.proofs.Common.{◌≡◌, ap, subst, ◌∙◌}
use Rattle.std.specs.Io.KnownBytes.{Appends}
use Rattle.streams.specs.Leaves.{AppendsFront}
use Rattle.page.specs.Pages.{page_of, page_with}
use Rattle.page.proofs.html.write_with.Goals as goal

pub returns-in-Ok-write_parts : goal.returns-in-Ok-write_parts
returns-in-Ok-write_parts g c =
    let n = c.args.names.now in
    let t = c.args.trace.now in
    let same : page_of c.args.title.now c.args.states.now c.as_slice.result.now ≡ page_with n t c.args.title.now c.args.states.now = ap (page_of c.args.title.now c.args.states.now) (c.as_slice.ensures.value ∙ c.in-Ok.ensures) in
    subst (Appends (g.W.Write.contents c.args.out.now) (g.W.Write.contents c.write_parts.new.out)) same c.in-Ok-write_parts.ensures

pub returns : goal.returns
returns g c =
    let n = c.args.names.now in
    let t = c.args.trace.now in
    let same : page_of c.args.title.now c.args.states.now c.as_slice.result.now ≡ page_with n t c.args.title.now c.args.states.now = ap (page_of c.args.title.now c.args.states.now) (c.as_slice.ensures.value ∙ c.in-Ok.ensures) in
    subst (AppendsFront (g.W.Write.contents c.args.out.now) (g.W.Write.contents c.write_parts.new.out)) same c.in-Err.ensures
