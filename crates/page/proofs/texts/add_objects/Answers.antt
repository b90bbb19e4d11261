use Rattle.std.proofs.Common.{◌++◌, ap, ◌∙◌}
use Rattle.std.specs.Prelude.{string_bytes}
use Rattle.picture.proofs.Columns.{adds_more}
use Rattle.page.specs.Texts.{object_behind}
use Rattle.page.proofs.texts.add_objects.Goals as goal

pub loop-object-preserved : goal.loop-object-preserved
loop-object-preserved c = adds_more object_behind c.args.objects.now c.loop-object.object-index c.object-item.result (string_bytes c.args.text.now) (string_bytes c.loop-object.text) (string_bytes c.add_object_behind.new.text) c.loop-object-test.true c.loop-object.invariant (c.in_ok-add_object_behind.ensures ∙ ap (λ x. string_bytes c.loop-object.text ++ object_behind x) c.object-item.is)
