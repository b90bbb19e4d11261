-- Which thread holds a mutex, by its own points.
use Rattle.std.proofs.Common.{◌≡◌, ◌⊎◌, ⊎_elim, ℕ, Bool, true, false, List, [], ◌∷◌, ◌++◌, refl, sym, ap, ◌∙◌, subst}
use Rattle.std.specs.Prelude.{nat_le, MatchBool}
use Rattle.lockword.specs.declared.reply.Reply.{Reply}
use Rattle.lockword.specs.declared.reply.Reply.TheVariants.{OK, EOWNERDEAD, XHELD}
use Rattle.memorymap.specs.Layouts.{Layout', cell_place}
use Rattle.posixmutex.specs.Objects.{held_limit}
use Rattle.posixmutex.specs.declared.point.Operation.{Operation}
use Rattle.posixmutex.specs.declared.point.Operation.TheVariants.{Lock, Consistent}
use Rattle.posixmutex.specs.declared.point.Point.{Point}
use Rattle.ruledwords.specs.declared.pass.Card.{Card}
use Rattle.ruledwords.specs.Cards.{at}
use Rattle.ruledwords.specs.Outcomes.{Takes}
use Rattle.ruledwords.specs.OwnWords.{owns_in}
use Rattle.ruledwords.specs.Seen.{by, held, held_after, holds_after, Called}

held_on : (b : Bool) (xs ys : List Point) → held_after b (xs ++ ys) ≡ held_after (held_after b xs) ys
held_on b [] ys = refl
held_on b (x ∷ xs) ys = held_on (holds_after b x.operation x.reply) xs ys

-- after its last point on the mutex
after_call : (k : Layout') (m : ℕ) (op : Operation) (c d : Card) (r : Reply) → Called c (cell_place k m) ((op, r) ∷ []) d → owns_in k d m ≡ holds_after (owns_in k c m) op r
after_call k m op c d r called =
    let q : ℕ = cell_place k m in
    let own = called.saw.own in
    let point : Point = record { thread = c.thread; at = q; operation = op; reply = r } in
    ap (λ (t : ℕ). held_after false (by t (at d.seen q))) called.saw.thread ∙ ap (held_after false) own ∙ held_on false (by c.thread (at c.seen q)) (point ∷ [])

takes : (b : Bool) (k : Layout') (m : ℕ) (c d : Card) (r : Reply) → (r ≡ XHELD → ⊥) → MatchBool b ((r ≡ XHELD) × (d ≡ c)) (Called c (cell_place k m) ((Lock, r) ∷ []) d) → Called c (cell_place k m) ((Lock, r) ∷ []) d
takes true k m c d r let_in it = absurd (let_in it.0)
takes false k m c d r let_in it = it

-- a lock that is returned OK
pub locked : (k : Layout') (m : ℕ) (c d : Card) → Takes k m Lock c OK d → owns_in k d m ≡ true
locked k m c d it = after_call k m Lock c d OK (takes (nat_le held_limit (held c)) k m c d OK (λ e. absurd (cc e)) it)

-- or EOWNERDEAD
pub inherited : (k : Layout') (m : ℕ) (c d : Card) → Takes k m Lock c EOWNERDEAD d → owns_in k d m ≡ true
inherited k m c d it = after_call k m Lock c d EOWNERDEAD (takes (nat_le held_limit (held c)) k m c d EOWNERDEAD (λ e. absurd (cc e)) it)

-- and it holds it after a declaration
pub declares : (k : Layout') (m : ℕ) (c d : Card) (r : Reply) → Called c (cell_place k m) ((Consistent, r) ∷ []) d → owns_in k c m ≡ true → owns_in k d m ≡ true
declares k m c d r called owns = after_call k m Consistent c d r called ∙ kept r ∙ owns where
  kept : (r : Reply) → holds_after (owns_in k c m) Consistent r ≡ owns_in k c m
  kept r = refl
