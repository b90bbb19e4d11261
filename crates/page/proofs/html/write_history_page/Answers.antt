use Rattle.std.proofs.Common.{◌≡◌, ap, subst, ◌∙◌}
use Rattle.std.specs.Prelude.{option_map}
use Rattle.page.specs.declared.stories.Source.TheVariants.{History}
use Rattle.page.specs.Pages.{LeavesPage, history_page_text, page_with}
use Rattle.page.specs.Data.{history_shown}
use Rattle.page.specs.Stories.{title_text}
use Rattle.page.proofs.html.write_history_page.Goals as goal

pub returns : goal.returns
returns g c =
    let n = c.args.names.now in
    let t = c.args.trace.now in
    let same : page_with n t c.as_str.result.now c.as_str-2.result.now ≡ history_page_text n t (option_map (λ s. s.now) c.args.why) =
    ap (λ l. page_with n t l c.as_str-2.result.now) (c.as_str.ensures.value ∙ c.in-Ok-history_title.ensures)
    ∙ ap (page_with n t (title_text n History (history_shown t (option_map (λ s. s.now) c.args.why)))) (c.as_str-2.ensures.value ∙ c.in-Ok.ensures) in
    subst (LeavesPage (g.W.Write.contents c.args.out.now) (g.W.Write.contents c.write_with.new.out) c.write_with.result) same c.write_with.ensures
