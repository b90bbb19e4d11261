use Rattle.std.proofs.Common.{[], ◌∷◌, ap, ◌∙◌}
use Rattle.std.specs.Prelude.{string_bytes}
use Rattle.picture.specs.Bands.{mutex_at}
use Rattle.picture.specs.Heads.{band_head}
use Rattle.picture.specs.Layouts.{band_width}
use Rattle.picture.specs.Names.{mutex_head}
use Rattle.picture.specs.Pieces.{padded}
use Rattle.picture.proofs.Columns.{once_further}
use Rattle.picture.proofs.heads.add_band_heads.Goals as goal

pub loop-band-preserved : goal.loop-band-preserved
loop-band-preserved c =
    let n = c.args.sheet.now.names.now in
    let x = c.args.sheet.now.extent in
    let i = c.loop-band.band in
    let l = c.mutex-label.result in
    once_further (band_head n x) (string_bytes c.args.text.now) (string_bytes c.loop-band.text) (string_bytes c.add_padded.new.text) _ i c.loop-band.invariant c.in_ok-add_padded.ensures
    (ap (λ w. padded w (l.head.now ∷ l.tail.now ∷ [])) c.band_width.ensures.value ∙ ap (λ h. padded (band_width x) (h ∷ l.tail.now ∷ [])) c.mutex-label.ensures.head ∙ ap (λ d. padded (band_width x) (mutex_head n (mutex_at x.bands i) ∷ d ∷ [])) c.mutex-label.ensures.tail)
