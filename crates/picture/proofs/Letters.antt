-- How much room words take: each of their bytes is a character.
use Rattle.std.proofs.Common.{◌≡◌, ℕ, suc, max, All, ◌+◌, ◌-◌, ◌*◌, ◌<◌, ◌≤◌, ◌^◌, ◌&&◌, Bool, true, false, Option, Some, None, List, [], ◌∷◌, ◌++◌, length, refl, arith}
use Rattle.std.specs.Prelude.{codes, decimal, nat_lt, slice_index_or, if◌then◌else◌}
use Rattle.std.specs.List.{concat}
use Rattle.std.specs.Char.{is_ascii_digit}
use Rattle.std.specs.Str.{all_ascii_digits}
use Rattle.std.specs.Str.Parse.{digits_value}
use Rattle.std.proofs.lemmas.Bool.Decides.{nat_tests}
use Rattle.std.proofs.lemmas.Fmt.{digits_decimal, length-decimal-le}
use Rattle.std.proofs.lemmas.List.{length-append}
use Rattle.std.proofs.lemmas.Str.Parse.{IsNumeralModel, numerals_by_value, tells_all_ascii_digits}
use Rattle.lockword.specs.declared.reply.Reply.{Reply}
use Rattle.lockword.specs.declared.reply.Reply.TheVariants.{OK, EPERM, ESRCH, EAGAIN, EFAULT, EBUSY, EINVAL, EDEADLK, ETIMEDOUT, EOWNERDEAD, ENOTRECOVERABLE, XNOMEM, XRACED, XHELD, XFULL, XSTATE}
use Rattle.lockword.specs.Replies.{reply_word}
use Rattle.posixmutex.specs.declared.point.Operation.{Operation}
use Rattle.posixmutex.specs.declared.point.Operation.TheVariants as op
use Rattle.posixmutex.specs.declared.point.Decision.{Decision}
use Rattle.posixmutex.specs.Words.{operation_word}
use Rattle.facts.specs.declared.fact.Queue.{Queue}
use Rattle.facts.specs.declared.fact.Queue.TheVariants.{Mutex, Condition}
use Rattle.facts.specs.declared.fact.Fact.{Fact}
use Rattle.facts.specs.declared.fact.Fact.TheVariants.{Begin, Point, Death, Sleep, Wake, Move, Return, Kill, Reap, Renew}
use Rattle.picture.specs.declared.lane.Lane.{Lane}
use Rattle.picture.specs.Lanes.{called}
use Rattle.picture.specs.declared.bands.Extent.{Extent}
use Rattle.picture.specs.Laws.{AreNames, HasRoomForNames, IsName, columns}
use Rattle.picture.specs.Names.{Called, condition_head, condition_tail, head_of, mutex_head, mutex_tail, tail_of, thread_head, thread_tail}
use Rattle.picture.specs.Pieces.{less}
use Rattle.picture.specs.Words.{begin_words, call_first, call_second, differs, first_number, point_words, queue_number, second_number, sleep_words, words}
use Rattle.picture.proofs.Own.{columns-append}

-- a text of at most that many letters
pub record Letters (text : List ℕ) (most : ℕ) : Type 0 where
  pub single : columns text ≡ length text
  pub few : length text ≤ most

pub then_letters : (a b : List ℕ) (m n : ℕ) → Letters a m → Letters b n → Letters (a ++ b) (m + n)
then_letters a b m n p q = record {
  single = omega (arith, columns-append a b, length-append a b, p.single, q.single);
  few = omega (arith, length-append a b, p.few, q.few);
}

pub at_most : (a : List ℕ) (m n : ℕ) → m ≤ n → Letters a m → Letters a n
at_most a m n le p = record { single = p.single; few = omega (arith, le, p.few) }

-- ---- numbers

own : IsNumeralModel (λ ds. all_ascii_digits ds ≡ true) (digits_value 10)
own = numerals_by_value (λ ds. all_ascii_digits ds ≡ true) tells_all_ascii_digits

both_left : (a b : Bool) → (a && b) ≡ true → a ≡ true
both_left true b e = refl
both_left false b e = e

both_right : (a b : Bool) → (a && b) ≡ true → b ≡ true
both_right true b e = e
both_right false b e = absurd cc

digits_single : (bs : List ℕ) → all_ascii_digits bs ≡ true → columns bs ≡ length bs
digits_single [] e = refl
digits_single (b ∷ bs) e =
    let digit : is_ascii_digit b ≡ true = both_left (is_ascii_digit b) (all_ascii_digits bs) e in
    let small : b < 128 = grind (arith, nat_tests, digit) in
    let rest = digits_single bs (both_right (is_ascii_digit b) (all_ascii_digits bs) e) in
    grind (arith, nat_tests, small, rest)

pub number_letters : (n k : ℕ) → 0 < k → n < 10 ^ k → n < 2 ^ 64 → Letters (decimal n) k
number_letters n k some small low = record { single = digits_single (decimal n) (digits_decimal own n low); few = length-decimal-le k n some small low }

four : (n : ℕ) → n < 10 ^ 4 → Letters (decimal n) 4
four n small = number_letters n 4 (omega arith) small (omega (arith, small))

-- ---- words

pub operation_letters : (o : Operation) → Letters (operation_word o) 10
operation_letters op.Lock = record { single = refl; few = omega arith }
operation_letters op.TryLock = record { single = refl; few = omega arith }
operation_letters op.TimedLock = record { single = refl; few = omega arith }
operation_letters op.Unlock = record { single = refl; few = omega arith }
operation_letters op.Consistent = record { single = refl; few = omega arith }
operation_letters op.Wait = record { single = refl; few = omega arith }
operation_letters op.TimedWait = record { single = refl; few = omega arith }
operation_letters op.Signal = record { single = refl; few = omega arith }
operation_letters op.Broadcast = record { single = refl; few = omega arith }
operation_letters op.Death = record { single = refl; few = omega arith }
operation_letters op.Reinit = record { single = refl; few = omega arith }

pub reply_letters : (r : Reply) → Letters (reply_word r) 15
reply_letters OK = record { single = refl; few = omega arith }
reply_letters EPERM = record { single = refl; few = omega arith }
reply_letters ESRCH = record { single = refl; few = omega arith }
reply_letters EAGAIN = record { single = refl; few = omega arith }
reply_letters EFAULT = record { single = refl; few = omega arith }
reply_letters EBUSY = record { single = refl; few = omega arith }
reply_letters EINVAL = record { single = refl; few = omega arith }
reply_letters EDEADLK = record { single = refl; few = omega arith }
reply_letters ETIMEDOUT = record { single = refl; few = omega arith }
reply_letters EOWNERDEAD = record { single = refl; few = omega arith }
reply_letters ENOTRECOVERABLE = record { single = refl; few = omega arith }
reply_letters XNOMEM = record { single = refl; few = omega arith }
reply_letters XRACED = record { single = refl; few = omega arith }
reply_letters XHELD = record { single = refl; few = omega arith }
reply_letters XFULL = record { single = refl; few = omega arith }
reply_letters XSTATE = record { single = refl; few = omega arith }

none : Letters [] 0
none = record { single = refl; few = omega arith }

-- seven pieces
seven : (a b c d e f g : List ℕ) (j k l m n o p : ℕ) → Letters a j → Letters b k → Letters c l → Letters d m → Letters e n → Letters f o → Letters g p → Letters (concat (a ∷ b ∷ c ∷ d ∷ e ∷ f ∷ g ∷ [])) (j + (k + (l + (m + (n + (o + (p + 0)))))))
seven a b c d e f g j k l m n o p q r s t u v w =
    then_letters a (concat (b ∷ c ∷ d ∷ e ∷ f ∷ g ∷ [])) j (k + (l + (m + (n + (o + (p + 0)))))) q
    (then_letters b (concat (c ∷ d ∷ e ∷ f ∷ g ∷ [])) k (l + (m + (n + (o + (p + 0))))) r
    (then_letters c (concat (d ∷ e ∷ f ∷ g ∷ [])) l (m + (n + (o + (p + 0)))) s
    (then_letters d (concat (e ∷ f ∷ g ∷ [])) m (n + (o + (p + 0))) t
    (then_letters e (concat (f ∷ g ∷ [])) n (o + (p + 0)) u
    (then_letters f (concat (g ∷ [])) o (p + 0) v
    (then_letters g [] p 0 w none))))))

-- ---- names

-- a name in two pieces, which have that many letters together at most
pub record TwoPieces (head tail : List ℕ) (most : ℕ) : Type 0 where
  pub one : ℕ
  pub two : ℕ
  pub head_letters : Letters head one
  pub tail_letters : Letters tail two
  pub few : one + two ≤ most

pub both_letters : (head tail : List ℕ) (most : ℕ) → TwoPieces head tail most → Letters (head ++ tail) most
both_letters head tail most p = at_most (head ++ tail) (p.one + p.two) most p.few (then_letters head tail p.one p.two p.head_letters p.tail_letters)

letters_single : (bs : List ℕ) → All (λ b. b < 128) bs → columns bs ≡ length bs
letters_single [] all = refl
letters_single (b ∷ bs) all =
    let small : b < 128 = all 0 0 (omega arith) in
    let rest = letters_single bs (λ k d lt. all (suc k) d (omega (arith, lt))) in
    grind (arith, nat_tests, small, rest)

-- a name of its own has as many letters as there is room for, and one that it has not a letter and a number
pub pieces_of : (names : List (List ℕ)) (i most k : ℕ) (letter number : List ℕ) → All IsName names → (i < length names → length (slice_index_or names i []) ≤ most) → Letters letter 1 → Letters number k → TwoPieces (head_of names i letter) (tail_of names i number) (max most (1 + k))
pieces_of names i most k letter number all fits one digits = go (nat_lt i (length names)) refl
  where
    go : (b : Bool) → nat_lt i (length names) ≡ b → TwoPieces (if b then slice_index_or names i [] else letter) (if b then [] else number) (max most (1 + k))
    go true is =
        let lt : i < length names = grind (arith, nat_tests, is) in
        record { one = most; two = 0; head_letters = record { single = letters_single (slice_index_or names i []) (all i [] lt).0; few = fits lt }; tail_letters = none; few = omega arith }
    go false is = record { one = 1; two = k; head_letters = one; tail_letters = digits; few = omega arith }

blank : Letters (codes " ") 1
blank = record { single = refl; few = omega arith }

module _ (n : Called) (x : Extent) (names : AreNames n) (room : HasRoomForNames n x) where
  -- how many letters a thing's name has at most, in the words of a line
  abbrev pub name_most : ℕ
  name_most = max x.letters 5

  pub mutex_pieces : (m : ℕ) → m < 10 ^ 4 → TwoPieces (mutex_head n m) (mutex_tail n m) name_most
  mutex_pieces m small = pieces_of n.mutexes m x.letters 4 (codes "m") (decimal m) names.mutexes (room.mutexes m []) (record { single = refl; few = omega arith }) (four m small)

  condition_pieces : (k : ℕ) → k < 10 ^ 4 → TwoPieces (condition_head n k) (condition_tail n k) name_most
  condition_pieces k small = pieces_of n.conditions k x.letters 4 (codes "c") (decimal k) names.conditions (room.conditions k []) (record { single = refl; few = omega arith }) (four k small)

  -- a thread's number has two digits
  pub thread_pieces : (t : ℕ) → t < 10 ^ 2 → TwoPieces (thread_head n t) (thread_tail n t) (max x.letters 3)
  thread_pieces t small = pieces_of n.threads (t - 1) x.letters 2 (codes "t") (decimal t) names.threads (room.threads (t - 1) []) (record { single = refl; few = omega arith }) (number_letters t 2 (omega arith) small (omega (arith, small)))

  -- ---- words

  -- how many letters the words of a line have at most: those of what another one did to its thread, and all others
  abbrev pub arrow_most : ℕ
  arrow_most = 3 + name_most

  abbrev pub words_most : ℕ
  words_most = max (12 + 2 * name_most) (27 + name_most)

  begin_letters : (c : Option ℕ) (o : Operation) (m : ℕ) → call_first c m < 10 ^ 4 → call_second c m < 10 ^ 4 → Letters (concat (begin_words n c o m)) words_most
  begin_letters None o m first second =
      let p = mutex_pieces m first in
      at_most _ (10 + (1 + (p.one + (p.two + (0 + (0 + (0 + 0))))))) words_most (omega (arith, p.few)) (seven (operation_word o) (codes " ") (mutex_head n m) (mutex_tail n m) [] [] [] 10 1 p.one p.two 0 0 0 (operation_letters o) blank p.head_letters p.tail_letters none none none)
  begin_letters (Some k) o m first second =
      let p = condition_pieces k first in
      let q = mutex_pieces m second in
      at_most _ (10 + (1 + (p.one + (p.two + (1 + (q.one + (q.two + 0))))))) words_most (omega (arith, p.few, q.few)) (seven (operation_word o) (codes " ") (condition_head n k) (condition_tail n k) (codes " ") (mutex_head n m) (mutex_tail n m) 10 1 p.one p.two 1 q.one q.two (operation_letters o) blank p.head_letters p.tail_letters blank q.head_letters q.tail_letters)

  point_letters : (call : Option Operation) (d : Decision) → d.mutex < 10 ^ 4 → Letters (concat (point_words n call d)) words_most
  point_letters call d small = go (differs call d.operation) refl
    where
      p : TwoPieces (mutex_head n d.mutex) (mutex_tail n d.mutex) name_most
      p = mutex_pieces d.mutex small

      go : (b : Bool) → differs call d.operation ≡ b → Letters (concat (point_words n call d)) words_most
      go true is = rw is (at_most _ (p.one + (p.two + (1 + (10 + (1 + (15 + (0 + 0))))))) words_most (omega (arith, p.few)) (seven (mutex_head n d.mutex) (mutex_tail n d.mutex) (codes " ") (operation_word d.operation) (codes " ") (reply_word d.reply) [] p.one p.two 1 10 1 15 0 p.head_letters p.tail_letters blank (operation_letters d.operation) blank (reply_letters d.reply) none))
      go false is = rw is (at_most _ (p.one + (p.two + (1 + (0 + (0 + (15 + (0 + 0))))))) words_most (omega (arith, p.few)) (seven (mutex_head n d.mutex) (mutex_tail n d.mutex) (codes " ") [] [] (reply_word d.reply) [] p.one p.two 1 0 0 15 0 p.head_letters p.tail_letters blank none none (reply_letters d.reply) none))

  sleep_letters : (q : Queue) → queue_number q < 10 ^ 4 → Letters (concat (sleep_words n q)) arrow_most
  sleep_letters (Mutex m) small =
      let p = mutex_pieces m small in
      at_most _ (3 + (p.one + (p.two + (0 + (0 + (0 + (0 + 0))))))) arrow_most (omega (arith, p.few)) (seven (codes "on ") (mutex_head n m) (mutex_tail n m) [] [] [] [] 3 p.one p.two 0 0 0 0 (record { single = refl; few = omega arith }) p.head_letters p.tail_letters none none none none)
  sleep_letters (Condition k) small =
      let p = condition_pieces k small in
      at_most _ (3 + (p.one + (p.two + (0 + (0 + (0 + (0 + 0))))))) arrow_most (omega (arith, p.few)) (seven (codes "on ") (condition_head n k) (condition_tail n k) [] [] [] [] 3 p.one p.two 0 0 0 0 (record { single = refl; few = omega arith }) p.head_letters p.tail_letters none none none none)

  pub move_letters : (lane : Lane) (t m : ℕ) → m < 10 ^ 4 → Letters (concat (words n lane (Move t m))) arrow_most
  move_letters lane t m small =
      let p = mutex_pieces m small in
      at_most _ (3 + (p.one + (p.two + (0 + (0 + (0 + (0 + 0))))))) arrow_most (omega (arith, p.few)) (seven (codes "to ") (mutex_head n m) (mutex_tail n m) [] [] [] [] 3 p.one p.two 0 0 0 0 (record { single = refl; few = omega arith }) p.head_letters p.tail_letters none none none none)

  pub wake_letters : (lane : Lane) (t : ℕ) → Letters (concat (words n lane (Wake t))) arrow_most
  wake_letters lane t = at_most (codes "woken") 5 arrow_most (omega arith) (record { single = refl; few = omega arith })

  death_letters : (m : ℕ) → m < 10 ^ 4 → Letters (concat (mutex_head n m ∷ mutex_tail n m ∷ codes " owner died" ∷ [] ∷ [] ∷ [] ∷ [] ∷ [])) words_most
  death_letters m small =
      let p = mutex_pieces m small in
      at_most _ (p.one + (p.two + (11 + (0 + (0 + (0 + (0 + 0))))))) words_most (omega (arith, p.few)) (seven (mutex_head n m) (mutex_tail n m) (codes " owner died") [] [] [] [] p.one p.two 11 0 0 0 0 p.head_letters p.tail_letters (record { single = refl; few = omega arith }) none none none none)

  pub words_letters : (lane : Lane) (f : Fact) → first_number f < 10 ^ 4 → second_number f < 10 ^ 4 → Letters (concat (words n lane f)) words_most
  words_letters lane (Begin t c) first second = begin_letters c.condition c.operation c.mutex first second
  words_letters lane (Point d) first second = point_letters (called lane) d first
  words_letters lane (Death t m) first second = death_letters m first
  words_letters lane (Sleep t q) first second = at_most _ arrow_most words_most (omega arith) (sleep_letters q first)
  words_letters lane (Wake t) first second = at_most _ arrow_most words_most (omega arith) (wake_letters lane t)
  words_letters lane (Move t m) first second = at_most _ arrow_most words_most (omega arith) (move_letters lane t m first)
  words_letters lane (Return t x) first second = at_most _ 15 words_most (omega arith) (seven (reply_word x) [] [] [] [] [] [] 15 0 0 0 0 0 0 (reply_letters x) none none none none none none)
  words_letters lane (Kill t) first second = at_most (codes "killed") 6 words_most (omega arith) (record { single = refl; few = omega arith })
  words_letters lane (Reap t) first second = at_most (codes "reaped") 6 words_most (omega arith) (record { single = refl; few = omega arith })
  words_letters lane (Renew t) first second = at_most (codes "renewed") 7 words_most (omega arith) (record { single = refl; few = omega arith })

-- ---- what pieces leave

pub less_is : (c : ℕ) (ps : List (List ℕ)) → less c ps ≡ c - length (concat ps)
less_is c [] = omega arith
less_is c (p ∷ ps) =
    let rest = less_is (c - length p) ps in
    let both = length-append p (concat ps) in
    omega (arith, rest, both)
