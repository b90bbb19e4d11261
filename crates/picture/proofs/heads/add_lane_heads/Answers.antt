use Rattle.std.proofs.Common.{◌+◌, [], ◌∷◌, ap, ◌∙◌}
use Rattle.std.specs.Prelude.{string_bytes}
use Rattle.picture.specs.Heads.{lane_head, name_width}
use Rattle.picture.specs.Names.{thread_head}
use Rattle.picture.specs.Pieces.{padded}
use Rattle.picture.proofs.Columns.{once_further}
use Rattle.picture.proofs.heads.add_lane_heads.Goals as goal

pub loop-index-preserved : goal.loop-index-preserved
loop-index-preserved c =
    let n = c.args.sheet.now.names.now in
    let x = c.args.sheet.now.extent in
    let i = c.loop-index.index in
    let l = c.thread-label.result in
    once_further (lane_head n x) (string_bytes c.args.text.now) (string_bytes c.loop-index.text) (string_bytes c.add_padded.new.text) _ i c.loop-index.invariant c.in_ok-add_padded.ensures
    (ap (λ w. padded w (l.head.now ∷ l.tail.now ∷ [])) c.name_width.ensures ∙ ap (λ h. padded (name_width x (i + 1)) (h ∷ l.tail.now ∷ [])) c.thread-label.ensures.head ∙ ap (λ d. padded (name_width x (i + 1)) (thread_head n (i + 1) ∷ d ∷ [])) c.thread-label.ensures.tail)
