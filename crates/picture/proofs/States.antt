-- What lanes and bands show is what the lines tell.
use Rattle.std.specs.List.{concat}
use Rattle.std.specs.Str.{bytes_eq}
use Rattle.std.proofs.lemmas.Slice.Eq.{bytes_eq-Decides}
use Rattle.posixmutex.proofs.Words.{operations_read_back}
use Rattle.lockword.specs.Replies.{reply_word}
use Rattle.posixmutex.specs.Words.{operation_of, operation_word}
use Rattle.posixmutex.specs.declared.point.Operation.{Operation}
use Rattle.picture.specs.Names.{Called, condition_head, condition_tail, mutex_head, mutex_tail, thread_head, thread_tail}
use Rattle.picture.specs.Words.{words}
use Rattle.picture.specs.States.{BandsHaveTheirWords, LinesHaveTheirWords}
use Rattle.std.specs.Prelude.{◌-◌, decimal}
use Rattle.picture.specs.Names.{head_of, tail_of}
use Rattle.picture.specs.States.{ThingsHaveTheirNames}
use Rattle.std.proofs.Common.{codes, append-nil, not, ◌≡◌, ◌≢◌, ◌∙◌, ◌+◌, ◌<◌, ◌≤◌, ◌==◌, ◌∷◌, ◌++◌, Bool, true, false, ℕ, Option, Some, None, List, [], length, ap, refl, subst, sym, arith, eqb-true}
use Rattle.std.specs.Prelude.{if◌then◌else◌, nat_lt, slice_index_or, slice_set}
use Rattle.std.proofs.lemmas.Bool.Decides.{nat_tests}
use Rattle.std.proofs.lemmas.List.{get_or-replicate, get_or-set_other, get_or-set_same, length-replicate, length-set}
use Rattle.lockword.specs.Threads.{most_threads}
use Rattle.posixmutex.specs.Histories.{Legal, held_by, opening}
use Rattle.posixmutex.specs.Objects.{fresh, stepped}
use Rattle.posixmutex.specs.declared.object.Object.{Object}
use Rattle.posixmutex.specs.declared.point.Decision.{Decision}
use Rattle.posixmutex.proofs.Steps as steps
use Rattle.facts.specs.Facts.{decision_of, thread_of}
use Rattle.facts.specs.declared.fact.Fact.{Fact}
use Rattle.facts.specs.declared.fact.Fact.TheVariants.{Begin, Kill, Point, Reap, Renew, Return, Sleep, Wake}
use Rattle.facts.specs.declared.fact.Line.{Line}
use Rattle.facts.specs.declared.fact.Queue.{Queue}
use Rattle.picture.specs.Bands.{band_of, mutex_at, shown}
use Rattle.picture.specs.Lanes.{after}
use Rattle.picture.specs.Laws.{AreShown}
use Rattle.picture.specs.Scenes.{behind, first_scene, lane_at, object_behind, objects_behind}
use Rattle.picture.specs.States.{BandsShowMutexes, LanesShowThreads, StatesAreToldApart, and_then, decisions, scene_after, sleeps_in, told_of, turn_in}
use Rattle.picture.specs.declared.bands.Bands.{Bands}
use Rattle.picture.specs.declared.lane.Lane.{Lane}
use Rattle.picture.specs.declared.lane.Lane.TheVariants as lane
use Rattle.picture.specs.declared.scene.Scene.{Scene}
use Rattle.picture.proofs.Used.{band_is, used_have}

-- ---- lanes

-- what a lane shows after this turn, if its thread sleeps since, or doesn't
abbrev pub lane_of : Option Fact → Bool → Lane
lane_of (Some (Begin t c)) true = lane.Asleep c.operation
lane_of (Some (Begin t c)) false = lane.Calling c.operation
lane_of (Some (Kill t)) z = lane.Dying
lane_of (Some (Reap t)) z = lane.Reaped
lane_of o z = lane.Idle

falls_asleep : (o : Option Fact) (z : Bool) (t : ℕ) (q : Queue) (k : ℕ) → after (lane_of o z) (Sleep t q) ≡ lane_of o true
falls_asleep (Some (Begin t c)) true u q k = refl
falls_asleep (Some (Begin t c)) false u q k = refl
falls_asleep (Some (Kill t)) z u q k = refl
falls_asleep (Some (Reap t)) z u q k = refl
falls_asleep o z u q k = refl

wakes : (o : Option Fact) (z : Bool) (t : ℕ) → after (lane_of o z) (Wake t) ≡ lane_of o false
wakes (Some (Begin t c)) true u = refl
wakes (Some (Begin t c)) false u = refl
wakes (Some (Kill t)) z u = refl
wakes (Some (Reap t)) z u = refl
wakes o z u = refl

goes_on : (f : Fact) (fs : List Fact) → after (lane_of (turn_in fs) (sleeps_in fs)) f ≡ lane_of (turn_in (f ∷ fs)) (sleeps_in (f ∷ fs))
goes_on (Begin t c) fs = refl
goes_on (Return t x) fs = refl
goes_on (Kill t) fs = refl
goes_on (Reap t) fs = refl
goes_on (Renew t) fs = refl
goes_on (Sleep t q) fs = falls_asleep (turn_in fs) (sleeps_in fs) t q 0
goes_on (Wake t) fs = wakes (turn_in fs) (sleeps_in fs) t
goes_on f fs = refl

-- the lane of thread t after one more line
module _ (t : ℕ) (few : t ≤ most_threads) where
  one_more : (own : Bool) (lanes : List Lane) (f : Fact) (fs : List Fact) → (thread_of f == t) ≡ own → length lanes ≡ most_threads + 1 → lane_at lanes t ≡ lane_of (turn_in fs) (sleeps_in fs) → lane_at (slice_set lanes (thread_of f) (after (lane_at lanes (thread_of f)) f)) t ≡ lane_of (turn_in (if own then f ∷ fs else fs)) (sleeps_in (if own then f ∷ fs else fs))
  one_more true lanes f fs own long same =
      let is : thread_of f ≡ t = eqb-true (thread_of f) t own in
      subst (λ (u : ℕ). lane_at (slice_set lanes u (after (lane_at lanes u) f)) t ≡ lane_of (turn_in (f ∷ fs)) (sleeps_in (f ∷ fs))) (sym is)
      (get_or-set_same lanes t (after (lane_at lanes t) f) lane.Idle (omega (arith, few, long)) ∙ ap (λ (l : Lane). after l f) same ∙ goes_on f fs)
  one_more false lanes f fs own long same =
      let other : t ≢ thread_of f = λ e. (let h : (thread_of f == t) ≡ true = grind (arith, nat_tests, e) in let b : true ≡ false = sym h ∙ own in absurd cc) in
      get_or-set_other lanes (thread_of f) t (after (lane_at lanes (thread_of f)) f) lane.Idle other ∙ same

  lanes_go_on : (b : Bands) (s : Scene) (ls later : List Line) (fs : List Fact) → length s.lanes ≡ most_threads + 1 → lane_at s.lanes t ≡ lane_of (turn_in fs) (sleeps_in fs) → lane_at (scene_after b s ls later).lanes t ≡ lane_of (turn_in (told_of t fs ls)) (sleeps_in (told_of t fs ls))
  lanes_go_on b s [] later fs long same = same
  lanes_go_on b s (l ∷ ls) later fs long same =
      lanes_go_on b (behind b s l (l ∷ (ls ++ later))) ls later (if thread_of l.fact == t then l.fact ∷ fs else fs)
      (length-set s.lanes (thread_of l.fact) (after (lane_at s.lanes (thread_of l.fact)) l.fact) ∙ long)
      (one_more (thread_of l.fact == t) s.lanes l.fact fs refl long same)

pub lanes_show_threads : LanesShowThreads
lanes_show_threads b ls later t few =
    let fs = told_of t [] ls in
    let is : lane_at (scene_after b first_scene ls later).lanes t ≡ lane_of (turn_in fs) (sleeps_in fs) =
    lanes_go_on t few b first_scene ls later [] (length-replicate (most_threads + 1) lane.Idle) (get_or-replicate (most_threads + 1) t lane.Idle lane.Idle (omega (arith, few))) in
    let so : (o : Option Fact) (z : Bool) → turn_in fs ≡ o → sleeps_in fs ≡ z → lane_at (scene_after b first_scene ls later).lanes t ≡ lane_of o z =
    λ o z h k. is ∙ ap (λ (p : Option Fact). lane_of p (sleeps_in fs)) h ∙ ap (lane_of o) k in
    record {
      untold = λ h. so None (sleeps_in fs) h refl;
      awake = λ u c h k. so (Some (Begin u c)) false h k;
      asleep = λ u c h k. so (Some (Begin u c)) true h k;
      returned = λ u x h. so (Some (Return u x)) (sleeps_in fs) h refl;
      killed = λ u h. so (Some (Kill u)) (sleeps_in fs) h refl;
      reaped = λ u h. so (Some (Reap u)) (sleeps_in fs) h refl;
      renewed = λ u h. so (Some (Renew u)) (sleeps_in fs) h refl;
    }

-- ---- bands

-- bands that show these objects of their mutexes
record Show (b : Bands) (os : List Object) (objects : ℕ → Object) : Type 0 where
  pub long : length os ≡ 16
  pub each : (i : ℕ) → i < b.count → slice_index_or os i fresh ≡ objects (mutex_at b i)

-- each band has a mutex of its own
abbrev pub AreApart : Bands → Type 0
AreApart b = (b.count ≤ 16) × ((i : ℕ) → i < b.count → band_of b (mutex_at b i) ≡ Some i)

module _ (b : Bands) (apart : AreApart b) (n : ℕ) where
  one_band : (os : List Object) (old next : ℕ → Object) (d : Decision) → Show b os old → next d.mutex ≡ stepped (old d.mutex) d.thread d.operation d.reply → ((m : ℕ) → m ≢ d.mutex → next m ≡ old m) → (r : Option ℕ) → band_of b d.mutex ≡ r → Show b (object_behind os d r) next
  one_band os old next d h step others None none = record {
    long = h.long;
    each = λ i lt. h.each i lt ∙ sym (others (mutex_at b i) (λ e. let both : Some i ≡ None = sym (apart.1 i lt) ∙ ap (band_of b) e ∙ none in cc));
  }
  one_band os old next d h step others (Some j) found =
      let band = band_is b.mutexes d.mutex b.count j found in
      let new = stepped (slice_index_or os j fresh) d.thread d.operation d.reply in
      record {
        long = length-set os j new ∙ h.long;
        each = λ i lt. by_cases (i == j) i lt refl;
      }
    where
      by_cases : (same : Bool) (i : ℕ) → i < b.count → (i == j) ≡ same → slice_index_or (slice_set os j (stepped (slice_index_or os j fresh) d.thread d.operation d.reply)) i fresh ≡ next (mutex_at b i)
      by_cases true i lt is =
          let band = band_is b.mutexes d.mutex b.count j found in
          let here : i ≡ j = eqb-true i j is in
          subst (λ (k : ℕ). slice_index_or (slice_set os j (stepped (slice_index_or os j fresh) d.thread d.operation d.reply)) k fresh ≡ next (mutex_at b k)) (sym here)
          (get_or-set_same os j (stepped (slice_index_or os j fresh) d.thread d.operation d.reply) fresh (let inside = band.inside in omega (arith, inside, apart.0, h.long))
          ∙ ap (λ (o : Object). stepped o d.thread d.operation d.reply) (h.each j band.inside ∙ ap old band.its) ∙ sym step ∙ ap next (sym band.its))
      by_cases false i lt is =
          let other : i ≢ j = λ e. (let t : (i == j) ≡ true = grind (arith, nat_tests, e) in let z : true ≡ false = sym t ∙ is in absurd cc) in
          get_or-set_other os j i (stepped (slice_index_or os j fresh) d.thread d.operation d.reply) fresh other ∙ h.each i lt
          ∙ sym (others (mutex_at b i) (λ e. other (let z : Some i ≡ Some j = sym (apart.1 i lt) ∙ ap (band_of b) e ∙ found in cc)))

  bands_go_on : (s : Scene) (ls later : List Line) (old new : ℕ → Object) → Show b s.objects old → Legal n old (decisions ls) new → Show b (scene_after b s ls later).objects new
  bands_go_on s [] later old new h legal = record { long = h.long; each = λ i lt. h.each i lt ∙ sym (legal (mutex_at b i)) }
  bands_go_on s (l ∷ ls) later old new h legal = go (decision_of l.fact) refl legal (λ mid shows then_legal. bands_go_on (behind b s l (l ∷ (ls ++ later))) ls later mid new shows then_legal)
    where
      go : (D : Option Decision) → decision_of l.fact ≡ D → Legal n old (and_then D (decisions ls)) new → ((mid : ℕ → Object) → Show b (objects_behind b s.objects (decision_of l.fact)) mid → Legal n mid (decisions ls) new → Show b (scene_after b s (l ∷ ls) later).objects new) → Show b (scene_after b s (l ∷ ls) later).objects new
      go None is legal again = again old (subst (λ (D : Option Decision). Show b (objects_behind b s.objects D) old) (sym is) h) legal
      go (Some d) is legal again =
          let next = legal.1.0 in
          again next
          (subst (λ (D : Option Decision). Show b (objects_behind b s.objects D) next) (sym is) (one_band s.objects old next d h (steps.determined (held_by d.thread old n) (old d.mutex) d.thread d.operation d.reply (next d.mutex) legal.1.1) legal.1.2 (band_of b d.mutex) refl))
          legal.1.3

pub bands_show_mutexes : BandsShowMutexes
bands_show_mutexes room mutexes n all ls later new low legal i lt =
    let b = shown room mutexes all in
    let are : AreShown room mutexes all b = used_have room mutexes all low in
    let apart : AreApart b = ((let few = are.few in omega (arith, few, low)), are.once) in
    let begin : Show b first_scene.objects opening = record { long = length-replicate 16 fresh; each = λ k less. get_or-replicate 16 k fresh fresh (let few = are.few in omega (arith, less, few, low)) } in
    (bands_go_on b apart n first_scene ls later opening new begin legal).each i lt

-- ---- signs and classes

-- the last piece of a text, and the last two
last_piece : (a : List ℕ) → a ++ codes "" ≡ a
last_piece a = append-nil a

band_words_are : (n : Called) → BandsHaveTheirWords n
band_words_are n = record {
  owned = λ o t h k. rw (h, k) (ap (λ l. thread_head n t ++ l) (last_piece (thread_tail n t)));
  undeclared = λ o t h k. rw (h, k) refl;
  free = λ o h k m. rw (h, k, m) refl;
  died = λ o h k m. rw (h, k, m) refl;
  unusable = λ o h k. rw (h, k) refl;
}

words_differ : (a b : Operation) → a ≢ b → bytes_eq (operation_word a) (operation_word b) ≡ false
words_differ a b other = go (bytes_eq (operation_word a) (operation_word b)) refl
  where
    go : (r : Bool) → bytes_eq (operation_word a) (operation_word b) ≡ r → r ≡ false
    go true is =
        let same : operation_word a ≡ operation_word b = (bytes_eq-Decides (operation_word a) (operation_word b)).0 is in
        let read : Some a ≡ Some b = sym (operations_read_back.back a) ∙ ap operation_of same ∙ operations_read_back.back b in
        absurd (other (let e : a ≡ b = cc in e))
    go false is = refl

own_words : (n : Called) (l : Lane) (d : Decision) → l ≡ lane.Calling d.operation → concat (words n l (Point d)) ≡ mutex_head n d.mutex ++ (mutex_tail n d.mutex ++ (codes " " ++ reply_word d.reply))
own_words n l d is =
    let same : bytes_eq (operation_word d.operation) (operation_word d.operation) ≡ true = (bytes_eq-Decides (operation_word d.operation) (operation_word d.operation)).1 refl in
    ap (λ (k : Lane). concat (words n k (Point d))) is
    ∙ ap (λ (b : Bool). concat (if not b then mutex_head n d.mutex ∷ mutex_tail n d.mutex ∷ codes " " ∷ operation_word d.operation ∷ codes " " ∷ reply_word d.reply ∷ [] ∷ [] else mutex_head n d.mutex ∷ mutex_tail n d.mutex ∷ codes " " ∷ [] ∷ [] ∷ reply_word d.reply ∷ [] ∷ [])) same
    ∙ ap (λ l. mutex_head n d.mutex ++ (mutex_tail n d.mutex ++ (codes " " ++ l))) (last_piece (reply_word d.reply))

other_words : (n : Called) (l : Lane) (d : Decision) (op : Operation) → l ≡ lane.Calling op → op ≢ d.operation → concat (words n l (Point d)) ≡ mutex_head n d.mutex ++ (mutex_tail n d.mutex ++ (codes " " ++ (operation_word d.operation ++ (codes " " ++ reply_word d.reply))))
other_words n l d op is other =
    ap (λ (k : Lane). concat (words n k (Point d))) is
    ∙ ap (λ (b : Bool). concat (if not b then mutex_head n d.mutex ∷ mutex_tail n d.mutex ∷ codes " " ∷ operation_word d.operation ∷ codes " " ∷ reply_word d.reply ∷ [] ∷ [] else mutex_head n d.mutex ∷ mutex_tail n d.mutex ∷ codes " " ∷ [] ∷ [] ∷ reply_word d.reply ∷ [] ∷ [])) (words_differ op d.operation other)
    ∙ ap (λ l. mutex_head n d.mutex ++ (mutex_tail n d.mutex ++ (codes " " ++ (operation_word d.operation ++ (codes " " ++ l))))) (last_piece (reply_word d.reply))

line_words_are : (n : Called) (l : Lane) → LinesHaveTheirWords n l
line_words_are n l = record {
  begins = λ t m op. ap (λ r. operation_word op ++ (codes " " ++ (mutex_head n m ++ r))) (last_piece (mutex_tail n m));
  waits = λ t m k op. ap (λ r. operation_word op ++ (codes " " ++ (condition_head n k ++ (condition_tail n k ++ (codes " " ++ (mutex_head n m ++ r)))))) (last_piece (mutex_tail n m));
  own_point = own_words n l;
  other_point = other_words n l;
  death = λ t m. refl;
  sleeps = λ t m. ap (λ r. codes "on " ++ (mutex_head n m ++ r)) (last_piece (mutex_tail n m));
  waits_on = λ t k. ap (λ r. codes "on " ++ (condition_head n k ++ r)) (last_piece (condition_tail n k));
  woken = λ t. refl;
  moved = λ t m. ap (λ r. codes "to " ++ (mutex_head n m ++ r)) (last_piece (mutex_tail n m));
  returns = λ t x. last_piece (reply_word x);
  killed = λ t. refl;
  reaped = λ t. refl;
  renewed = λ t. refl;
}

-- a name, and what stands for one
is_named : (names : List (List ℕ)) (i : ℕ) (letter number : List ℕ) → i < length names → head_of names i letter ++ tail_of names i number ≡ slice_index_or names i []
is_named names i letter number lt =
    let is : nat_lt i (length names) ≡ true = grind (arith, nat_tests, lt) in
    ap (λ (b : Bool). (if b then slice_index_or names i [] else letter) ++ (if b then [] else number)) is ∙ append-nil (slice_index_or names i [])

is_numbered : (names : List (List ℕ)) (i : ℕ) (letter number : List ℕ) → length names ≤ i → head_of names i letter ++ tail_of names i number ≡ letter ++ number
is_numbered names i letter number le =
    let is : nat_lt i (length names) ≡ false = grind (arith, nat_tests, le) in
    ap (λ (b : Bool). (if b then slice_index_or names i [] else letter) ++ (if b then [] else number)) is

names_are : (n : Called) → ThingsHaveTheirNames n
names_are n = record {
  threads = λ i lt. let is : i + 1 - 1 ≡ i = omega arith in ap (λ (k : ℕ). head_of n.threads k (codes "t") ++ tail_of n.threads k (decimal (i + 1))) is ∙ is_named n.threads i (codes "t") (decimal (i + 1)) lt;
  numbered_threads = λ i le. let is : i + 1 - 1 ≡ i = omega arith in ap (λ (k : ℕ). head_of n.threads k (codes "t") ++ tail_of n.threads k (decimal (i + 1))) is ∙ is_numbered n.threads i (codes "t") (decimal (i + 1)) le;
  mutexes = λ i lt. is_named n.mutexes i (codes "m") (decimal i) lt;
  numbered_mutexes = λ i le. is_numbered n.mutexes i (codes "m") (decimal i) le;
  conditions = λ i lt. is_named n.conditions i (codes "c") (decimal i) lt;
  numbered_conditions = λ i le. is_numbered n.conditions i (codes "c") (decimal i) le;
}

pub states_are_told_apart : StatesAreToldApart
unfolding lib.Utf8.encode
states_are_told_apart = record {
  names = names_are;
  band_words = band_words_are;
  line_words = line_words_are;
  lane_signs = record { idle = refl; calling = λ op. refl; asleep = λ op. refl; dying = refl; reaped = refl };
  line_signs = record {
    begins = λ t c from. refl;
    point = λ d from. refl;
    returns = λ t x from. refl;
    sleeps = λ t q from. refl;
    killed = λ t from. refl;
    death = λ t m from. refl;
    reaped = λ t from. refl;
    renewed = λ t from. refl;
    woken = λ t. refl;
    moved = λ t m. refl;
    woken_from_left = λ t a lt. rw (to_right t a lt) refl;
    woken_from_right = λ t a le. rw (to_left t a le) refl;
    moved_from_left = λ t m a lt. rw (to_right t a lt) refl;
    moved_from_right = λ t m a le. rw (to_left t a le) refl;
  };
  lane_colours = record { idle = refl; calling = λ op. refl; asleep = λ op. refl; dying = refl; reaped = refl; blue = refl; light_grey = refl; pale_red = refl };
  band_colours = record {
    owned = λ o t h k. rw (h, k) refl;
    undeclared = λ o t h k. rw (h, k) refl;
    died = λ o h k m. rw (h, k, m) refl;
    unusable = λ o h k. rw (h, k) refl;
    free = λ o h k m. rw (h, k, m) refl;
    green = refl;
    orange = refl;
    pale_orange = refl;
    dark_grey = refl;
  };
  mark_colours = record {
    begins = λ t c. refl;
    point = λ d. refl;
    returns = λ t x. refl;
    sleeps = λ t q. refl;
    woken = λ t. refl;
    moved = λ t m. refl;
    killed = λ t. refl;
    death = λ t m. refl;
    reaped = λ t. refl;
    renewed = λ t. refl;
    strokes = refl;
    discs = refl;
    circles = refl;
    arrows = refl;
    red = refl;
  };
  mark_shapes = record {
    begins = λ t c. refl;
    returns = λ t x. refl;
    sleeps = λ t q. refl;
    point = λ d. refl;
    woken = λ t. refl;
    moved = λ t m. refl;
    killed = λ t. refl;
    death = λ t m. refl;
    reaped = λ t. refl;
    renewed = λ t. refl;
  };
}
  where
    to_right : (t a : ℕ) → a < t → nat_lt a t ≡ true
    to_right t a lt = grind (arith, nat_tests)

    to_left : (t a : ℕ) → t ≤ a → nat_lt a t ≡ false
    to_left t a le = grind (arith, nat_tests)
