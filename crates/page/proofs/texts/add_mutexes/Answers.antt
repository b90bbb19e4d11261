use Rattle.std.proofs.Common.{◌++◌, map, append_assoc}
use Rattle.std.specs.List.{concat}
use Rattle.std.specs.Prelude.{codes, string_bytes}
use Rattle.picture.proofs.Columns.{both, then_text, told_as}
use Rattle.page.specs.Texts.{object_behind}
use Rattle.page.proofs.texts.add_mutexes.Goals as goal

pub returns : goal.returns
returns c =
    let a = string_bytes c.args.text.now in
    let b = string_bytes c.add_word.new.text in
    let d = string_bytes c.add_objects.new.text in
    let e = string_bytes c.add_word-2.new.text in
    let x = codes "],[\"mutexes\"" in
    let y = concat (map object_behind c.args.objects.now) in
    let z = codes "]],\n" in
    told_as c.add_word-2.result a e ((x ++ y) ++ z) (x ++ (y ++ z)) (append_assoc x y z)
    (then_text c.add_word-2.result a d e (x ++ y) z (both a b d x y c.in_ok-add_word.ensures c.in_ok-add_objects.ensures) c.add_word-2.ensures)
