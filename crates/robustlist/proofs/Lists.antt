-- Words have one list, and a head that leads to itself an empty one.
use Rattle.std.proofs.Common.{◌≡◌, ◌≢◌, ◌≤◌, ℕ, List, [], ◌∷◌, arith, refl, sym, ap, ◌∙◌, subst}
use Rattle.memorymap.specs.Chains.{address_sum, IsApart, AreDifferent, places_of, Leads}
use Rattle.robustlist.specs.Lists.{ChainsAreUnique, HeadsBeginEmpty}

leads-once : (w : ℕ → ℕ) (h a : ℕ) (es ds : List ℕ) → IsApart h es → IsApart h ds → Leads w h a es → Leads w h a ds → ds ≡ es
leads-once w h a [] [] o p l m = refl
leads-once w h a [] (d ∷ ds) o p l m = absurd (p.0 (sym l ∙ m.0))
leads-once w h a (e ∷ es) [] o p l m = absurd (o.0 (sym m ∙ l.0))
leads-once w h a (e ∷ es) (d ∷ ds) o p l m =
    let is : d ≡ e = sym m.0 ∙ l.0 in
    ap (λ x. x ∷ ds) is ∙ ap (λ l. e ∷ l) (leads-once w h (w e) es ds o.1 p.1 l.1 (subst (λ x. Leads w h (w x) ds) is m.1))

pub unique : ChainsAreUnique
unique w h es ds c d = leads-once w h (w h) es ds c.different.0 d.different.0 c.leads d.leads

sum-differs : (h k : ℕ) → 1 ≤ k → k ≤ 2 → h ≢ address_sum h k
sum-differs h k low high = omega arith

sums-differ : (h : ℕ) → address_sum h 1 ≢ address_sum h 2
sums-differ h = omega arith

head-places : (h : ℕ) → AreDifferent (places_of h [])
head-places h = ((sum-differs h 1 (omega arith) (omega arith), (sum-differs h 2 (omega arith) (omega arith), tt)), ((sums-differ h, tt), (tt, tt)))

pub begins_empty : HeadsBeginEmpty
begins_empty w h is = record { chain = record { leads = is; different = (tt, tt) }; back = tt; places = head-places h }
