-- The lines that are named for a mutex are the newest that changed it.
use Rattle.std.proofs.Common.{◌≡◌, ℕ, ◌+◌, ◌<◌, ◌==◌, Bool, true, false, ◌&&◌, List, [], ◌∷◌, ◌++◌, length, if◌then◌else◌, Option, Some, None, refl, sym, ap, subst, ◌∙◌, eqb-true, eq-eqb, arith}
use Rattle.std.specs.Prelude.{nat_lt}
use Rattle.std.proofs.lemmas.Bool.Decides.{nat_tests}
use Rattle.lockword.specs.declared.reply.Reply.{Reply}
use Rattle.posixmutex.specs.declared.point.Operation.{Operation}
use Rattle.facts.specs.declared.fact.Fact.TheVariants.{Begin, Return}
use Rattle.histories.specs.declared.entry.Entry.{Entry}
use Rattle.histories.specs.declared.entry.Entry.TheVariants.{Told, Doom}
use Rattle.judge.specs.declared.reason.Standing.{Standing}
use Rattle.judge.specs.declared.reason.Standing.TheVariants.{Resting, Calling, Dead, Reaped}
use Rattle.judge.specs.declared.evidence.Change.{Change}
use Rattle.judge.specs.declared.evidence.Change.TheVariants.{Gets, Declares, Leaves}
use Rattle.judge.specs.declared.evidence.EarlierReply.{EarlierReply}
use Rattle.judge.specs.Evidence.{EvidenceIsNewest, IsChange, IsNewestChange, IsNewestOrNone, NamesSince, NoChange, changed_by, changes, first_of, reply_at, reply_behind, since}
use Rattle.judge.specs.Reasons.{standing_behind}
use Rattle.judge.proofs.Truths.{Found, found, says}

left_true : (a b : Bool) → (a && b) ≡ true → a ≡ true
left_true true b is = refl
left_true false b is = is

right_true : (a b : Bool) → (a && b) ≡ true → b ≡ true
right_true true b is = is
right_true false b is = absurd cc

-- ---- one line

-- what is named is such a reply
of_call : (k : Change) (m t : ℕ) (x : Reply) (es : List Entry) (s : Standing) (r : EarlierReply) → Found t es s → changed_by k m s t x (length es + 1) ≡ Some r → IsChange k m (Told (Return t x)) es r
of_call k m t x es Resting r f is = let no : None ≡ Some r = is in absurd cc
of_call k m t x es Dead r f is = let no : None ≡ Some r = is in absurd cc
of_call k m t x es Reaped r f is = let no : None ≡ Some r = is in absurd cc
of_call k m t x es (Calling c b) r f is = go ((c.mutex == m) && changes k c.operation x) refl is
  where
    go : (d : Bool) → ((c.mutex == m) && changes k c.operation x) ≡ d → (if d then Some (record { place = length es + 1; thread = t; operation = c.operation; reply = x }) else None) ≡ Some r → IsChange k m (Told (Return t x)) es r
    go false test is = let no : None ≡ Some r = is in absurd cc
    go true test is =
        let made : record { place = length es + 1; thread = t; operation = c.operation; reply = x } ≡ r = cc in
        subst (IsChange k m (Told (Return t x)) es) made (record {
          line = refl;
          place = refl;
          call = c;
          newest = f.0;
          mutex = eqb-true c.mutex m (left_true (c.mutex == m) (changes k c.operation x) test);
          operation = refl;
          changed = right_true (c.mutex == m) (changes k c.operation x) test;
        })

is_change : (k : Change) (m : ℕ) (e : Entry) (es : List Entry) (r : EarlierReply) → reply_at k m e es (length es + 1) ≡ Some r → IsChange k m e es r
is_change k m (Told (Return t x)) es r is = of_call k m t x es (standing_behind t es) r (found t es) is
is_change k m (Told f) es r is = let no : None ≡ Some r = is in absurd cc
is_change k m (Doom t) es r is = let no : None ≡ Some r = is in absurd cc

-- and such a reply is named
named : (k : Change) (m : ℕ) (e : Entry) (es : List Entry) (r : EarlierReply) → IsChange k m e es r → (s : EarlierReply) × (reply_at k m e es (length es + 1) ≡ Some s)
named k m e es r c =
    let t = r.thread in
    let x = r.reply in
    let s : EarlierReply = record { place = length es + 1; thread = t; operation = c.call.operation; reply = x } in
    let at : standing_behind t es ≡ Calling c.call (length c.newest.earlier + 1) = says t es (Told (Begin t c.call)) c.newest in
    let test : ((c.call.mutex == m) && changes k c.call.operation x) ≡ true =
    ap (λ (b : Bool). b && changes k c.call.operation x) (eq-eqb c.call.mutex m c.mutex) ∙ ap (λ (op : Operation). changes k op x) c.operation ∙ c.changed in (
      s,
      ap (λ (l : Entry). reply_at k m l es (length es + 1)) c.line ∙ ap (λ (p : Standing). changed_by k m p t x (length es + 1)) at
          ∙ ap (λ (b : Bool). if b then Some s else None) test,
    )

unnamed : (k : Change) (m : ℕ) (e : Entry) (es : List Entry) → reply_at k m e es (length es + 1) ≡ None → (r : EarlierReply) → IsChange k m e es r → ⊥
unnamed k m e es none r c = let so = named k m e es r c in let no : None ≡ Some so.0 = sym none ∙ so.1 in absurd cc

-- ---- the newest

module _ (k : Change) (m : ℕ) (e : Entry) (es : List Entry) where
  abbrev Unchanged : Type 0
  Unchanged = (r : EarlierReply) → IsChange k m e es r → ⊥

  none_more : Unchanged → NoChange k m es → NoChange k m (e ∷ es)
  none_more here old [] f earlier r is c =
      let all : e ∷ es ≡ f ∷ earlier = is in
      let same : f ≡ e = cc in
      let rest : earlier ≡ es = cc in
      here r (subst (λ (l : Entry). IsChange k m l es r) same (subst (λ (ls : List Entry). IsChange k m f ls r) rest c))
  none_more here old (x ∷ later) f earlier r is c =
      let all : e ∷ es ≡ x ∷ (later ++ f ∷ earlier) = is in
      let rest : es ≡ later ++ f ∷ earlier = cc in
      old later f earlier r rest c

  newest_more : (r : EarlierReply) → Unchanged → IsNewestChange k m es r → IsNewestChange k m (e ∷ es) r
  newest_more r here old = record {
    later = e ∷ old.later;
    line = old.line;
    earlier = old.earlier;
    all = ap (λ (xs : List Entry). e ∷ xs) old.all;
    is_change = old.is_change;
    none_later = none;
  }
    where
      none : (last : List Entry) (f : Entry) (between : List Entry) (s : EarlierReply) → e ∷ old.later ≡ last ++ f ∷ between → IsChange k m f (between ++ old.line ∷ old.earlier) s → ⊥
      none [] f between s is c =
          let all : e ∷ old.later ≡ f ∷ between = is in
          let same : f ≡ e = cc in
          let rest : between ≡ old.later = cc in
          let whole : between ++ old.line ∷ old.earlier ≡ es = ap (λ (xs : List Entry). xs ++ old.line ∷ old.earlier) rest ∙ sym old.all in
          here s (subst (λ (l : Entry). IsChange k m l es s) same (subst (λ (ls : List Entry). IsChange k m f ls s) whole c))
      none (x ∷ last) f between s is c =
          let all : e ∷ old.later ≡ x ∷ (last ++ f ∷ between) = is in
          let rest : old.later ≡ last ++ f ∷ between = cc in
          old.none_later last f between s rest c

  more : (o : Option EarlierReply) → Unchanged → IsNewestOrNone k m es o → IsNewestOrNone k m (e ∷ es) o
  more None here old = none_more here old
  more (Some r) here old = newest_more r here old

none_after : (k : Change) (m : ℕ) (line : Entry) (earlier last : List Entry) (e : Entry) (between : List Entry) (s : EarlierReply) → [] ≡ last ++ e ∷ between → IsChange k m e (between ++ line ∷ earlier) s → ⊥
none_after k m line earlier [] e between s is c = let no : [] ≡ e ∷ between = is in absurd cc
none_after k m line earlier (x ∷ last) e between s is c = let no : [] ≡ x ∷ (last ++ e ∷ between) = is in absurd cc

newest : (k : Change) (m : ℕ) (es : List Entry) → IsNewestOrNone k m es (reply_behind k m es)
newest k m [] = none
  where
    none : NoChange k m []
    none [] e earlier r is c = let no : [] ≡ e ∷ earlier = is in absurd cc
    none (x ∷ later) e earlier r is c = let no : [] ≡ x ∷ (later ++ e ∷ earlier) = is in absurd cc
newest k m (e ∷ es) = by_line (reply_at k m e es (length es + 1)) refl (newest k m es)
  where
    by_line : (o : Option EarlierReply) → reply_at k m e es (length es + 1) ≡ o → IsNewestOrNone k m es (reply_behind k m es) → IsNewestOrNone k m (e ∷ es) (first_of o (reply_behind k m es))
    by_line (Some r) is old = record { later = []; line = e; earlier = es; all = refl; is_change = is_change k m e es r is; none_later = none_after k m e es }
    by_line None is old = more k m e es (reply_behind k m es) (unnamed k m e es is) old

-- there is one newest change
module _ (k : Change) (m : ℕ) where
  abbrev NoneIn : List Entry → Entry → List Entry → Type 0
  NoneIn later line earlier = (last : List Entry) (e : Entry) (between : List Entry) (s : EarlierReply) → later ≡ last ++ e ∷ between → IsChange k m e (between ++ line ∷ earlier) s → ⊥

  -- this one would be later than the other
  later_yet : (x l1 : Entry) (e1 ys : List Entry) (l2 : Entry) (e2 : List Entry) (r : EarlierReply) → l1 ∷ e1 ≡ x ∷ (ys ++ l2 ∷ e2) → IsChange k m l1 e1 r → NoneIn (x ∷ ys) l2 e2 → ⊥
  later_yet x l1 e1 ys l2 e2 r is c none =
      let first : l1 ≡ x = cc in
      let rest : e1 ≡ ys ++ l2 ∷ e2 = cc in
      none [] x ys r refl (subst (λ (l : Entry). IsChange k m l (ys ++ l2 ∷ e2) r) first (subst (λ (es : List Entry). IsChange k m l1 es r) rest c))

  same_place : (later1 later2 : List Entry) (l1 l2 : Entry) (e1 e2 : List Entry) (r s : EarlierReply) → later1 ++ l1 ∷ e1 ≡ later2 ++ l2 ∷ e2 → IsChange k m l1 e1 r → IsChange k m l2 e2 s → NoneIn later1 l1 e1 → NoneIn later2 l2 e2 → r.place ≡ s.place
  same_place [] [] l1 l2 e1 e2 r s is c d none1 none2 =
      let all : l1 ∷ e1 ≡ l2 ∷ e2 = is in
      let rest : e1 ≡ e2 = cc in
      c.place ∙ ap (λ (es : List Entry). length es + 1) rest ∙ sym d.place
  same_place [] (x ∷ ys) l1 l2 e1 e2 r s is c d none1 none2 = absurd (later_yet x l1 e1 ys l2 e2 r is c none2)
  same_place (x ∷ xs) [] l1 l2 e1 e2 r s is c d none1 none2 = absurd (later_yet x l2 e2 xs l1 e1 s (sym is) d none1)
  same_place (x ∷ xs) (y ∷ ys) l1 l2 e1 e2 r s is c d none1 none2 =
      let all : x ∷ (xs ++ l1 ∷ e1) ≡ y ∷ (ys ++ l2 ∷ e2) = is in
      let rest : xs ++ l1 ∷ e1 ≡ ys ++ l2 ∷ e2 = cc in
      same_place xs ys l1 l2 e1 e2 r s rest c d
      (λ last e between q it. none1 (x ∷ last) e between q (ap (λ (es : List Entry). x ∷ es) it))
      (λ last e between q it. none2 (y ∷ last) e between q (ap (λ (es : List Entry). y ∷ es) it))

-- ---- what changed it since

module _ (k : Change) (m : ℕ) (es : List Entry) where
  abbrev IsNewer : Option EarlierReply → EarlierReply → Type 0
  IsNewer got r = IsNewestChange k m es r × ((g : EarlierReply) → got ≡ Some g → g.place < r.place)

  newer : (got last : Option EarlierReply) (r : EarlierReply) → IsNewestOrNone k m es last → since got last ≡ Some r → IsNewer got r
  newer None None r n is = let no : None ≡ Some r = is in absurd cc
  newer None (Some l) r n is =
      let same : l ≡ r = cc in
      (subst (IsNewestChange k m es) same n, λ g no. let never : None ≡ Some g = no in absurd cc)
  newer (Some g) None r n is = let no : None ≡ Some r = is in absurd cc
  newer (Some g) (Some l) r n is = go (nat_lt g.place l.place) refl is
    where
      go : (b : Bool) → nat_lt g.place l.place ≡ b → (if b then Some l else None) ≡ Some r → IsNewer (Some g) r
      go false less is = let no : None ≡ Some r = is in absurd cc
      go true less is =
          let same : l ≡ r = cc in
          let first : g.place < l.place = grind (arith, nat_tests) in
          subst (IsNewer (Some g)) same (n, λ h it. let one : h ≡ g = cc in subst (λ (q : EarlierReply). q.place < l.place) (sym one) first)

  -- none is named, so there is none
  none_newer : (got last : Option EarlierReply) → IsNewestOrNone k m es last → since got last ≡ None → (r : EarlierReply) → IsNewer got r → ⊥
  none_newer None None n is r it = n it.0.later it.0.line it.0.earlier r it.0.all it.0.is_change
  none_newer None (Some l) n is r it = let no : Some l ≡ None = is in absurd cc
  none_newer (Some g) None n is r it = n it.0.later it.0.line it.0.earlier r it.0.all it.0.is_change
  none_newer (Some g) (Some l) n is r it = go (nat_lt g.place l.place) refl is
    where
      go : (b : Bool) → nat_lt g.place l.place ≡ b → (if b then Some l else None) ≡ None → ⊥
      go true less is = let no : Some l ≡ None = is in absurd cc
      go false less is =
          let same : r.place ≡ l.place = same_place k m it.0.later n.later it.0.line n.line it.0.earlier n.earlier r l (sym it.0.all ∙ n.all) it.0.is_change n.is_change it.0.none_later n.none_later in
          let first : g.place < l.place = subst (λ (p : ℕ). g.place < p) same (it.1 g refl) in
          grind (arith, nat_tests)

names_so : (k : Change) (m : ℕ) (es : List Entry) → NamesSince k m es (since (reply_behind Gets m es) (reply_behind k m es))
names_so k m es = record {
  some = λ r is. newer k m es (reply_behind Gets m es) (reply_behind k m es) r (newest k m es) is;
  none = λ is r it. none_newer k m es (reply_behind Gets m es) (reply_behind k m es) (newest k m es) is r it;
}

pub newest_so : EvidenceIsNewest
newest_so = record { got = λ m es. newest Gets m es; declared = names_so Declares; left = names_so Leaves }
