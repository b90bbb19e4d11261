use Rattle.std.proofs.Common.{◌≡◌, ℕ, List, [], length, sym, ap, subst, ◌∙◌}
use Rattle.atomic_table.specs.Table.{opening}
use Rattle.cachelines.specs.Spread.{slots_for, words_from}
use Rattle.cachelines.proofs.places.Places.of_words.Goals as goal

pub of_words-requires : goal.of_words-requires
of_words-requires g c =
    let about = c.args.about.now in
    let words = c.args.words.now in
    let same : c.as_slice.result.now ≡ c.in_ok-apart.apart.items = c.as_slice.ensures.value in
    let all : g.P.PlaceRule.how_many about ≡ length words = c.requires.count in
    let back : words_from (g.P.PlaceRule.how_many about) 0 c.as_slice.result.now ≡ words = (λ i. words_from (all i) 0 (same i)) ∙ c.in_ok-apart.ensures.words in (
      ap length same ∙ c.in_ok-apart.ensures.count ∙ ap slots_for (sym all),
      subst (λ (ws : List ℕ). g.P.PlaceRule.holds about (opening ws [] (g.P.PlaceRule.first about))) (sym back) c.requires.holds,
    )
