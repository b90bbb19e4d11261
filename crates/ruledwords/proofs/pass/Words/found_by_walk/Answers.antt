use Rattle.std.proofs.Common.{◌≡◌, ◌<◌, ℕ, [], ◌∷◌, sym, ap, ◌∙◌, subst}
use Rattle.memorymap.specs.Layouts.{place_in, words_of}
use Rattle.stepprograms.specs.Accesses.{address_of}
use Rattle.stepprograms.specs.declared.access.Access.{Access}
use Rattle.exitwalk.specs.declared.row.Part.{Part}
use Rattle.exitwalk.specs.declared.row.Row.TheVariants.{LoadWord}
use Rattle.exitwalk.specs.Standings.{Standing}
use Rattle.ruledwords.specs.declared.pass.Card.{Card}
use Rattle.ruledwords.specs.Cards.{value_at}
use Rattle.ruledwords.specs.Deaths.{IsLeftAt}
use Rattle.ruledwords.specs.Passes.{layout_of}
use Rattle.ruledwords.specs.Rules.{card_of}
use Rattle.ruledwords.proofs.WalkPlaces.{cell_at_row, found_own_row, known_there, marking_row, own_row, IsOwnRow}
use Rattle.ruledwords.proofs.pass.Words.found_by_walk.Goals as goal

pub mark-requires-clause-place : goal.mark-requires-clause-place
mark-requires-clause-place c =
    let k = layout_of c.args.self.now in
    let d : Card = card_of c.args.seat.now.me.0 in
    let s : Standing = c.args.walk.now in
    let w = c.requires.walk in
    let kind = marking_row s.head s.row c.in-Exchange.at c.in-Exchange.expected c.in-Exchange.new (sym c.next.ensures ∙ c.in-Exchange.is) in
    let left = subst (IsLeftAt k d) kind.2 w.walk.left in
    let cell = cell_at_row k d w.card c.in-Exchange.at left.0 left.1 in
    (left.0, cell.0, c.place.ensures ∙ ap (λ (t : ℕ). place_in k t c.in-Exchange.at) w.is ∙ cell.1)

pub recall-requires : goal.recall-requires
recall-requires c =
    let k = layout_of c.args.self.now in
    let d : Card = card_of c.args.seat.now.me.0 in
    let s : Standing = c.args.walk.now in
    let w = c.requires.walk in
    let next = sym c.next.ensures ∙ c.in-Load.is in
    let own : IsOwnRow s.row = own_row s.head s.row c.in-Load.at next w.going (λ (b : ℕ) (rest : Part) (e : s.row ≡ LoadWord b rest). c.in_default-row.not-LoadWord b rest (c.row.ensures ∙ e)) in
    let x = known_there k d w.card s w.walk own in
    let place = c.place-place.ensures ∙ ap (λ (t : ℕ). place_in k t c.in-Load.at) w.is ∙ ap (λ (a : Access). place_in k d.thread (address_of a)) (sym next) in
    record { table = w.table; one = w.one; place = subst (λ (q : ℕ). q < words_of k) (sym place) x.inside }

pub returns-in_default-row : goal.returns-in_default-row
returns-in_default-row c =
    let k = layout_of c.args.self.now in
    let d : Card = card_of c.args.seat.now.me.0 in
    let s : Standing = c.args.walk.now in
    let w = c.requires.walk in
    let next = sym c.next.ensures ∙ c.in-Load.is in
    let own : IsOwnRow s.row = own_row s.head s.row c.in-Load.at next w.going (λ (b : ℕ) (rest : Part) (e : s.row ≡ LoadWord b rest). c.in_default-row.not-LoadWord b rest (c.row.ensures ∙ e)) in
    let x = known_there k d w.card s w.walk own in
    let place = c.place-place.ensures ∙ ap (λ (t : ℕ). place_in k t c.in-Load.at) w.is ∙ ap (λ (a : Access). place_in k d.thread (address_of a)) (sym next) in
    let e = c.recall.ensures in
    let me = ap (λ m. card_of m.0) e.me in (
      e.table,
      e.me ∙ w.one ∙ ap (λ (z : Card). (z ∷ [], [])) (sym me),
      found_own_row k s s.row d c.recall.result (card_of c.recall.new.seat.me.0) own me (e.value x.word (ap (value_at d.values) place ∙ x.value) ∙ sym x.same),
    )
