-- From what phases add to all that a thread did.
use Rattle.std.proofs.Common.{◌≡◌, ◌≢◌, ◌⊎◌, inl, inr, ⊎_elim, ℕ, zero, suc, ◌+◌, ◌<◌, Bool, true, false, Some, List, [], ◌∷◌, ◌++◌, length, take, slice_get, refl, sym, ap, ◌∙◌, subst, arith, append_assoc, append-nil, length-append}
use Rattle.std.specs.Prelude.{◌||◌, ◌==◌}
use Rattle.std.specs.List.{flat_map}
use Rattle.std.proofs.Math.Seq.{take-append-add}
use Rattle.std.proofs.lemmas.List.{take-append-le}
use Rattle.std.proofs.lemmas.List.Elements.{filter-append}
use Rattle.std.proofs.lemmas.Option.{slice_get_within}
use Rattle.lockword.specs.declared.reply.Reply.{Reply}
use Rattle.lockword.specs.declared.reply.Reply.TheVariants.{XHELD}
use Rattle.posixmutex.specs.declared.point.Point.{Point}
use Rattle.memorymap.specs.Layouts.{Layout', cell_place}
use Rattle.posixmutex.specs.Objects.{acquires}
use Rattle.facts.specs.Lives.{Act, Complete}
use Rattle.condvar.specs.declared.op.Op.{Op}
use Rattle.condvar.specs.Ops.{acts_as, mutex_of}
use Rattle.ruledwords.specs.Deaths.{deaths}
use Rattle.ruledwords.specs.Seen.{by, held_after, points_of}
use Rattle.report.specs.Histories.{AreLastWordsBehind, AreParts, ArePointsBehind, AreTold, IsCountOf, TakesPart, some_died}
use Rattle.report.specs.Parts.{Part}

-- ---- lists

pub by_append : (t : ℕ) (xs ys : List Point) → by t (xs ++ ys) ≡ by t xs ++ by t ys
by_append t xs ys = filter-append (λ (x : Point). x.thread == t) xs ys

get_past : {A : Type 0} (xs ys : List A) (n m : ℕ) → n ≡ length xs + m → slice_get (xs ++ ys) n ≡ slice_get ys m
get_past [] ys n m is = ap (slice_get ys) (omega (arith, is))
get_past (x ∷ xs) ys zero m is = absurd (omega (arith, is))
get_past (x ∷ xs) ys (suc n) m is = get_past xs ys n m (omega (arith, is))

get_within : {A : Type 0} (xs ys : List A) (n : ℕ) (x : A) → slice_get xs n ≡ Some x → slice_get (xs ++ ys) n ≡ Some x
get_within [] ys n x is = absurd (cc is)
get_within (z ∷ xs) ys zero x is = is
get_within (z ∷ xs) ys (suc n) x is = get_within xs ys n x is

-- ---- one phase, and then others

told_count : (k : Layout') (t m : ℕ) (cs : List Op) (rs : List Reply) (xs : List Point) → AreTold k t m cs rs xs → length rs ≡ length cs
told_count k t m [] [] xs told = refl
told_count k t m [] (r ∷ rs) xs told = absurd told
told_count k t m (c ∷ cs) [] xs told = absurd told
told_count k t m (c ∷ cs) (r ∷ rs) xs told = ap suc (⊎_elim
    (λ (no : ((mutex_of k c ≢ m) ⊎ ((acquires (acts_as c) ≡ true) × (r ≡ XHELD))) × AreTold k t m cs rs xs). told_count k t m cs rs xs no.1)
    (λ (yes : (mutex_of k c ≡ m) × (acts : List Act) × Complete (acts_as c) acts r × (ys : List Point) × (xs ≡ points_of t (cell_place k m) acts ++ ys) × AreTold k t m cs rs ys). told_count k t m cs rs yes.3 yes.5)
    told)

told_on : (k : Layout') (t m : ℕ) (cs : List Op) (rs : List Reply) (xs : List Point) (cs' : List Op) (rs' : List Reply) (ys : List Point) → AreTold k t m cs rs xs → AreTold k t m cs' rs' ys → AreTold k t m (cs ++ cs') (rs ++ rs') (xs ++ ys)
told_on k t m [] [] xs cs' rs' ys first later = subst (λ (l : List Point). AreTold k t m cs' rs' (l ++ ys)) (sym first) later
told_on k t m [] (r ∷ rs) xs cs' rs' ys first later = absurd first
told_on k t m (c ∷ cs) [] xs cs' rs' ys first later = absurd first
told_on k t m (c ∷ cs) (r ∷ rs) xs cs' rs' ys first later = ⊎_elim
    (λ (no : ((mutex_of k c ≢ m) ⊎ ((acquires (acts_as c) ≡ true) × (r ≡ XHELD))) × AreTold k t m cs rs xs). inl (no.0, told_on k t m cs rs xs cs' rs' ys no.1 later))
    (λ (yes : (mutex_of k c ≡ m) × (acts : List Act) × Complete (acts_as c) acts r × (zs : List Point) × (xs ≡ points_of t (cell_place k m) acts ++ zs) × AreTold k t m cs rs zs).
    inr (yes.0, yes.1, yes.2, yes.3 ++ ys, ap (λ (l : List Point). l ++ ys) yes.4 ∙ append_assoc (points_of t (cell_place k m) yes.1) yes.3 ys, told_on k t m cs rs yes.3 cs' rs' ys yes.5 later))
    first

-- its death in a later phase
later_words : (k : Layout') (t m : ℕ) (before : List Point) (cs : List Op) (rs : List Reply) (xs : List Point) (cs' : List Op) (rs' : List Reply) (ys : List Point) → AreTold k t m cs rs xs → AreLastWordsBehind k t m (before ++ xs) cs' rs' ys
    → AreLastWordsBehind k t m before (cs ++ cs') (rs ++ rs') (xs ++ ys)
later_words k t m before cs rs xs cs' rs' ys first later =
    let same = told_count k t m cs rs xs first in
    let longer = length-append rs rs' in
    let far : length (rs ++ rs') ≡ length cs + length rs' = omega (arith, same, longer) in
    let p : ℕ = cell_place k m in
    let mine : List Point = points_of t p later.acts in
    let all : List Point = later.answered ++ mine in
    let dead : List Point → List Point = λ l. deaths t p (held_after false l) in
    let one : xs ++ all ≡ (xs ++ later.answered) ++ mine = sym (append_assoc xs later.answered mine) in
    let two : (before ++ xs) ++ all ≡ before ++ ((xs ++ later.answered) ++ mine) = append_assoc before xs all ∙ ap (λ (l : List Point). before ++ l) one in record {
      call = later.call;
      next = get_past cs cs' (length (rs ++ rs')) (length rs') far ∙ later.next;
      answered = xs ++ later.answered;
      told = subst (λ (z : List Op). AreTold k t m z (rs ++ rs') (xs ++ later.answered)) (sym (ap (λ (n : ℕ). take n (cs ++ cs')) far ∙ take-append-add cs cs' (length rs')))
          (told_on k t m cs rs xs (take (length rs') cs') rs' later.answered first later.told);
      acts = later.acts;
      begun = later.begun;
      elsewhere = later.elsewhere;
      all = ap (λ (l : List Point). xs ++ l) later.all ∙ sym (append_assoc xs all (dead ((before ++ xs) ++ all))) ∙ (λ i. one i ++ dead (two i));
    }

-- its death in this phase
quiet_words : (k : Layout') (t m : ℕ) (before : List Point) (cs : List Op) (rs : List Reply) (xs : List Point) (cs' : List Op) → AreLastWordsBehind k t m before cs rs xs → AreLastWordsBehind k t m before (cs ++ cs') rs xs
quiet_words k t m before cs rs xs cs' words =
    let few = slice_get_within cs (length rs) words.call words.next in record {
      call = words.call;
      next = get_within cs cs' (length rs) words.call words.next;
      answered = words.answered;
      told = subst (λ (z : List Op). AreTold k t m z rs words.answered) (sym (take-append-le (length rs) cs cs' (omega (arith, few)))) words.told;
      acts = words.acts;
      begun = words.begun;
      elsewhere = words.elsewhere;
      all = words.all;
    }

one_more : (k : Layout') (t m : ℕ) (before : List Point) (cs : List Op) (rs : List Reply) (xs : List Point) (cs' : List Op) (rs' : List Reply) (ys : List Point) (d : Bool) → AreTold k t m cs rs xs → ArePointsBehind k t m (before ++ xs) cs' rs' d ys → ArePointsBehind k t m before (cs ++ cs') (rs ++ rs') d (xs ++ ys)
one_more k t m before cs rs xs cs' rs' ys true first later = later_words k t m before cs rs xs cs' rs' ys first later
one_more k t m before cs rs xs cs' rs' ys false first later = told_on k t m cs rs xs cs' rs' ys first later

-- ---- all phases

abbrev pub calls_through : ℕ → List (ℕ → List Op) → List Op
calls_through t phases = flat_map (λ (c : ℕ → List Op). c t) phases

abbrev pub replies_through : ℕ → List Part → List Reply
replies_through i parts = flat_map (λ (q : Part). q.replies i) parts

abbrev pub points_through : ℕ → List Part → List Point
points_through m parts = flat_map (λ (q : Part). q.points m) parts

or_true : (a b : Bool) → a ≡ true → (a || b) ≡ true
or_true a b is = ap (λ (z : Bool). z || b) is

or_false : (a b c : Bool) → a ≡ false → b ≡ c → (a || b) ≡ c
or_false a b c is same = ap (λ (z : Bool). z || b) is ∙ same

-- a thread that has died does nothing
gone : (k : Layout') (i : ℕ) (dead : ℕ → Bool) (earlier : ℕ → List Point) (phases : List (ℕ → List Op)) (parts : List Part) → AreParts k dead earlier phases parts → i < k.threads → dead i ≡ true
    → (replies_through i parts ≡ []) × (some_died i parts ≡ false) × ((m : ℕ) → m < k.mutexes → by (i + 1) (points_through m parts) ≡ [])
gone k i dead earlier [] [] are low is = (refl, refl, λ m inside. refl)
gone k i dead earlier [] (q ∷ parts) are low is = absurd are
gone k i dead earlier (calls ∷ phases) [] are low is = absurd are
gone k i dead earlier (calls ∷ phases) (q ∷ parts) are low is =
    let none = subst (λ (b : Bool). TakesPart k i b earlier (calls (i + 1)) (q.replies i) (q.died i) q.points) is (are.0 i low) in
    let rest = gone k i (λ j. dead j || q.died j) (λ m. earlier m ++ q.points m) phases parts are.1 low (or_true (dead i) (q.died i) is) in (
      (λ z. none.0 z ++ rest.0 z),
      or_false (q.died i) (some_died i parts) false none.1 rest.1,
      λ m inside. by_append (i + 1) (q.points m) (points_through m parts) ∙ (λ z. none.2 m inside z ++ rest.2 m inside z),
    )

-- all that a thread did that hadn't died, on one mutex
pub lived : (k : Layout') (i m : ℕ) (dead : ℕ → Bool) (earlier : ℕ → List Point) (phases : List (ℕ → List Op)) (parts : List Part) → AreParts k dead earlier phases parts → i < k.threads → m < k.mutexes → dead i ≡ false
    → ArePointsBehind k (i + 1) m (by (i + 1) (earlier m)) (calls_through (i + 1) phases) (replies_through i parts) (some_died i parts) (by (i + 1) (points_through m parts))
lived k i m dead earlier [] [] are low inside is = refl
lived k i m dead earlier [] (q ∷ parts) are low inside is = absurd are
lived k i m dead earlier (calls ∷ phases) [] are low inside is = absurd are
lived k i m dead earlier (calls ∷ phases) (q ∷ parts) are low inside is =
    go (λ lives. lived k i m (λ j. dead j || q.died j) (λ l. earlier l ++ q.points l) phases parts are.1 low inside (or_false (dead i) (q.died i) false is lives)) (q.died i) refl where
      mine : TakesPart k i false earlier (calls (i + 1)) (q.replies i) (q.died i) q.points
      mine = subst (λ (b : Bool). TakesPart k i b earlier (calls (i + 1)) (q.replies i) (q.died i) q.points) is (are.0 i low)

      go : (q.died i ≡ false → ArePointsBehind k (i + 1) m (by (i + 1) (earlier m ++ q.points m)) (calls_through (i + 1) phases) (replies_through i parts) (some_died i parts) (by (i + 1) (points_through m parts)))
          → (b : Bool) → q.died i ≡ b → ArePointsBehind k (i + 1) m (by (i + 1) (earlier m)) (calls (i + 1) ++ calls_through (i + 1) phases) (q.replies i ++ replies_through i parts) (q.died i || some_died i parts) (by (i + 1) (q.points m ++ points_through m parts))
      go later true died =
          let words : AreLastWordsBehind k (i + 1) m (by (i + 1) (earlier m)) (calls (i + 1)) (q.replies i) (by (i + 1) (q.points m)) =
          subst (λ (b : Bool). ArePointsBehind k (i + 1) m (by (i + 1) (earlier m)) (calls (i + 1)) (q.replies i) b (by (i + 1) (q.points m))) died (mine.1 m inside)
          in
          let rest = gone k i (λ j. dead j || q.died j) (λ l. earlier l ++ q.points l) phases parts are.1 low (or_false (dead i) (q.died i) true is died) in
          let replies : q.replies i ++ replies_through i parts ≡ q.replies i = ap (λ (l : List Reply). q.replies i ++ l) rest.0 ∙ append-nil (q.replies i) in
          let points : by (i + 1) (q.points m ++ points_through m parts) ≡ by (i + 1) (q.points m) = by_append (i + 1) (q.points m) (points_through m parts) ∙ ap (λ (l : List Point). by (i + 1) (q.points m) ++ l) (rest.2 m inside) ∙ append-nil (by (i + 1) (q.points m)) in
          let all = quiet_words k (i + 1) m (by (i + 1) (earlier m)) (calls (i + 1)) (q.replies i) (by (i + 1) (q.points m)) (calls_through (i + 1) phases) words in
          subst (λ (z : Bool × List Reply × List Point). ArePointsBehind k (i + 1) m (by (i + 1) (earlier m)) (calls (i + 1) ++ calls_through (i + 1) phases) z.1 z.0 z.2) (λ z. (sym (or_true (q.died i) (some_died i parts) died) z, sym replies z, sym points z)) all
      go later false lives =
          let told : AreTold k (i + 1) m (calls (i + 1)) (q.replies i) (by (i + 1) (q.points m)) =
          subst (λ (b : Bool). ArePointsBehind k (i + 1) m (by (i + 1) (earlier m)) (calls (i + 1)) (q.replies i) b (by (i + 1) (q.points m))) lives (mine.1 m inside)
          in
          let rest = later lives in
          let rest' = subst (λ (l : List Point). ArePointsBehind k (i + 1) m l (calls_through (i + 1) phases) (replies_through i parts) (some_died i parts) (by (i + 1) (points_through m parts))) (by_append (i + 1) (earlier m) (q.points m)) rest in
          let all = one_more k (i + 1) m (by (i + 1) (earlier m)) (calls (i + 1)) (q.replies i) (by (i + 1) (q.points m)) (calls_through (i + 1) phases) (replies_through i parts) (by (i + 1) (points_through m parts)) (some_died i parts) told rest' in
          subst (λ (z : Bool × List Point). ArePointsBehind k (i + 1) m (by (i + 1) (earlier m)) (calls (i + 1) ++ calls_through (i + 1) phases) (q.replies i ++ replies_through i parts) z.0 z.1)
          (λ z. (sym (or_false (q.died i) (some_died i parts) (some_died i parts) lives refl) z, sym (by_append (i + 1) (q.points m) (points_through m parts)) z)) all

-- how many replies it has
count_on : (d : Bool) (rs rs' : List Reply) (cs cs' : List Op) → length rs ≡ length cs → IsCountOf d (length rs') (length cs') → IsCountOf d (length (rs ++ rs')) (length (cs ++ cs'))
count_on true rs rs' cs cs' same few = let a = length-append rs rs' in let b = length-append cs cs' in let f : length rs' < length cs' = few in omega (arith, a, b, same, f)
count_on false rs rs' cs cs' same all = let a = length-append rs rs' in let b = length-append cs cs' in let e : length rs' ≡ length cs' = all in omega (arith, a, b, same, e)

pub counted : (k : Layout') (i : ℕ) (dead : ℕ → Bool) (earlier : ℕ → List Point) (phases : List (ℕ → List Op)) (parts : List Part) → AreParts k dead earlier phases parts → i < k.threads → dead i ≡ false
    → IsCountOf (some_died i parts) (length (replies_through i parts)) (length (calls_through (i + 1) phases))
counted k i dead earlier [] [] are low is = refl
counted k i dead earlier [] (q ∷ parts) are low is = absurd are
counted k i dead earlier (calls ∷ phases) [] are low is = absurd are
counted k i dead earlier (calls ∷ phases) (q ∷ parts) are low is =
    go (λ lives. counted k i (λ j. dead j || q.died j) (λ l. earlier l ++ q.points l) phases parts are.1 low (or_false (dead i) (q.died i) false is lives)) (q.died i) refl where
      mine : TakesPart k i false earlier (calls (i + 1)) (q.replies i) (q.died i) q.points
      mine = subst (λ (b : Bool). TakesPart k i b earlier (calls (i + 1)) (q.replies i) (q.died i) q.points) is (are.0 i low)

      go : (q.died i ≡ false → IsCountOf (some_died i parts) (length (replies_through i parts)) (length (calls_through (i + 1) phases))) → (b : Bool) → q.died i ≡ b → IsCountOf (q.died i || some_died i parts) (length (q.replies i ++ replies_through i parts)) (length (calls (i + 1) ++ calls_through (i + 1) phases))
      go later true died =
          let few : length (q.replies i) < length (calls (i + 1)) = subst (λ (b : Bool). IsCountOf b (length (q.replies i)) (length (calls (i + 1)))) died mine.0 in
          let rest = gone k i (λ j. dead j || q.died j) (λ l. earlier l ++ q.points l) phases parts are.1 low (or_false (dead i) (q.died i) true is died) in
          let none : length (replies_through i parts) ≡ 0 = ap length rest.0 in
          let a = length-append (q.replies i) (replies_through i parts) in
          let b = length-append (calls (i + 1)) (calls_through (i + 1) phases) in
          let fewer : length (q.replies i ++ replies_through i parts) < length (calls (i + 1) ++ calls_through (i + 1) phases) = omega (arith, few, none, a, b) in
          subst (λ (z : Bool). IsCountOf z (length (q.replies i ++ replies_through i parts)) (length (calls (i + 1) ++ calls_through (i + 1) phases))) (sym (or_true (q.died i) (some_died i parts) died)) fewer
      go later false lives =
          let same : length (q.replies i) ≡ length (calls (i + 1)) = subst (λ (b : Bool). IsCountOf b (length (q.replies i)) (length (calls (i + 1)))) lives mine.0 in
          let rest = later lives in
          subst (λ (z : Bool). IsCountOf z (length (q.replies i ++ replies_through i parts)) (length (calls (i + 1) ++ calls_through (i + 1) phases))) (sym (or_false (q.died i) (some_died i parts) (some_died i parts) lives refl))
          (count_on (some_died i parts) (q.replies i) (replies_through i parts) (calls (i + 1)) (calls_through (i + 1) phases) same rest)
