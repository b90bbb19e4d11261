-- What titles tell.
use Rattle.std.proofs.Common.{◌≡◌, ◌⊎◌, inl, inr, ℕ, ◌+◌, ◌-◌, ◌==◌, ◌&&◌, min, Bool, true, false, Option, Some, None, List, [], ◌∷◌, ◌++◌, length, take, refl, sym, ap, ◌∙◌, append_assoc, append-nil, arith, length-append}
use Rattle.std.specs.Prelude.{codes, slice_get, if◌then◌else◌}
use Rattle.std.specs.List.{concat}
use Rattle.std.proofs.lemmas.Bool.Decides.{nat_tests}
use Rattle.std.proofs.lemmas.List.{take-append-le, take_min}
use Rattle.lockword.specs.declared.reply.Reply.{Reply}
use Rattle.lockword.specs.declared.reply.Reply.TheVariants.{OK, EOWNERDEAD}
use Rattle.posixmutex.specs.declared.point.Decision.{Decision}
use Rattle.posixmutex.specs.declared.point.Operation.{Operation}
use Rattle.posixmutex.specs.declared.point.Operation.TheVariants.{Lock, TryLock, TimedLock}
use Rattle.posixmutex.specs.Objects.{acquires}
use Rattle.facts.specs.declared.fact.Fact.{Fact}
use Rattle.facts.specs.declared.fact.Fact.TheVariants.{Begin, Point, Death, Sleep, Wake, Move, Return, Kill, Reap, Renew}
use Rattle.facts.specs.declared.fact.Line.{Line}
use Rattle.facts.specs.Orders.{Each}
use Rattle.picture.specs.Names.{Called}
use Rattle.picture.specs.Svg.{svg_drawn}
use Rattle.page.specs.declared.frame.TheConstants.{BEHIND, BETWEEN, STATE, STYLE, TOP}
use Rattle.page.specs.declared.script.TheConstants.{SCRIPT}
use Rattle.page.specs.declared.stories.Source.TheVariants.{Trace, History}
use Rattle.page.specs.declared.stories.Story.{Story}
use Rattle.page.specs.Data.{data_text, history_data, history_lines, history_shown, lines_shown}
use Rattle.page.specs.Pages.{behind_picture, page_of}
use Rattle.page.specs.Stories.{gets, heir_by, heir_in, or_else, owns_by, story_from, story_in, title_text, title_with}
use Rattle.page.specs.Titles.{AreTitles, GetsMutex, GivesNobody, HasTitle, HistoryLinesAreShown, IsFirstDeath, IsFirstHeir, TellsNoDeath, TitlesTellTheFirstDeath}

-- ---- who gets the mutex

lock_so : (o : Operation) → (o ≡ Lock) ⊎ ((o ≡ TryLock) ⊎ (o ≡ TimedLock)) → acquires o ≡ true
lock_so o (inl is) = ap acquires is
lock_so o (inr (inl is)) = ap acquires is
lock_so o (inr (inr is)) = ap acquires is

lock_of : (o : Operation) → acquires o ≡ true → (o ≡ Lock) ⊎ ((o ≡ TryLock) ⊎ (o ≡ TimedLock))
lock_of Lock e = inl refl
lock_of TryLock e = inr (inl refl)
lock_of TimedLock e = inr (inr refl)
lock_of o e = absurd cc

owner_so : (r : Reply) → (r ≡ OK) ⊎ (r ≡ EOWNERDEAD) → owns_by r ≡ true
owner_so r (inl is) = ap owns_by is
owner_so r (inr is) = ap owns_by is

owner_of : (r : Reply) → owns_by r ≡ true → (r ≡ OK) ⊎ (r ≡ EOWNERDEAD)
owner_of OK e = inl refl
owner_of EOWNERDEAD e = inr refl
owner_of r e = absurd cc

all_so : (a b c : Bool) → a ≡ true → b ≡ true → c ≡ true → (a && (b && c)) ≡ true
all_so true true true a b c = refl
all_so true true false a b c = absurd cc
all_so true false c a b d = absurd cc
all_so false b c a d e = absurd cc

first_of : (a b c : Bool) → (a && (b && c)) ≡ true → a ≡ true
first_of true b c e = refl
first_of false b c e = absurd cc

second_of : (a b c : Bool) → (a && (b && c)) ≡ true → b ≡ true
second_of true true c e = refl
second_of true false c e = absurd cc
second_of false b c e = absurd cc

third_of : (a b c : Bool) → (a && (b && c)) ≡ true → c ≡ true
third_of true true true e = refl
third_of true true false e = absurd cc
third_of true false c e = absurd cc
third_of false b c e = absurd cc

same_number : (a b : ℕ) → (a == b) ≡ true → a ≡ b
same_number a b is = grind (arith, nat_tests)

number_same : (a b : ℕ) → a ≡ b → (a == b) ≡ true
number_same a b is = grind (arith, nat_tests)

gets_so : (m : ℕ) (d : Decision) → GetsMutex m d → gets m d ≡ true
gets_so m d g = all_so (d.mutex == m) (acquires d.operation) (owns_by d.reply) (number_same d.mutex m g.mutex) (lock_so d.operation g.lock) (owner_so d.reply g.owner)

gets_of : (m : ℕ) (d : Decision) → gets m d ≡ true → GetsMutex m d
gets_of m d e = record {
  mutex = same_number d.mutex m (first_of (d.mutex == m) (acquires d.operation) (owns_by d.reply) e);
  lock = lock_of d.operation (second_of (d.mutex == m) (acquires d.operation) (owns_by d.reply) e);
  owner = owner_of d.reply (third_of (d.mutex == m) (acquires d.operation) (owns_by d.reply) e);
}

-- ---- the first who gets it

heir_is : (m : ℕ) (d : Decision) → GetsMutex m d → heir_by m (Point d) ≡ Some d
heir_is m d g = ap (λ (b : Bool). if b then Some d else None) (gets_so m d g)

no_heir_by : (m : ℕ) (d : Decision) (b : Bool) → gets m d ≡ b → (GetsMutex m d → ⊥) → (if b then Some d else None) ≡ None
no_heir_by m d true is never = absurd (never (gets_of m d is))
no_heir_by m d false is never = refl

no_heir : (m : ℕ) (f : Fact) → ((d : Decision) → f ≡ Point d → GetsMutex m d → ⊥) → heir_by m f ≡ None
no_heir m (Point d) never = no_heir_by m d (gets m d) refl (never d refl)
no_heir m f never = refl

pub nobody_in : (m : ℕ) (ls : List Line) → Each (GivesNobody m) ls → heir_in m ls ≡ None
nobody_in m [] none = refl
nobody_in m (l ∷ ls) none = ap (λ (h : Option Decision). or_else h (heir_in m ls)) (no_heir m l.fact none.0.never) ∙ nobody_in m ls none.1

found_in : (m : ℕ) (before after : List Line) (line : Line) (d : Decision) → line.fact ≡ Point d → GetsMutex m d → Each (GivesNobody m) before → heir_in m (before ++ line ∷ after) ≡ Some d
found_in m [] after line d tells g none = ap (λ (h : Option Decision). or_else h (heir_in m after)) (ap (heir_by m) tells ∙ heir_is m d g)
found_in m (b ∷ before) after line d tells g none =
    ap (λ (h : Option Decision). or_else h (heir_in m (before ++ line ∷ after))) (no_heir m b.fact none.0.never) ∙ found_in m before after line d tells g none.1

pub heir_first : (ls : List Line) (m : ℕ) (d : Decision) → IsFirstHeir ls m d → heir_in m ls ≡ Some d
heir_first ls m d h = ap (heir_in m) h.all ∙ found_in m h.before h.after h.line d h.tells h.gets h.none

-- ---- the first death

passed : (f : Fact) → ((t m : ℕ) → f ≡ Death t m → ⊥) → (later : List Line) (other : Option Story) → story_from f later other ≡ other
passed (Death t m) never later other = absurd (never t m refl)
passed f never later other = refl

no_story : (ls : List Line) → Each TellsNoDeath ls → story_in ls ≡ None
no_story [] none = refl
no_story (l ∷ ls) none = passed l.fact none.0.never ls (story_in ls) ∙ no_story ls none.1

abbrev story_of : ℕ → ℕ → Option Decision → Story
story_of t m h = record { dead = t; mutex = m; heir = h }

first_story : (before later : List Line) (line : Line) (t m : ℕ) → line.fact ≡ Death t m → Each TellsNoDeath before → story_in (before ++ line ∷ later) ≡ Some (story_of t m (heir_in m later))
first_story [] later line t m tells none = ap (λ (f : Fact). story_from f later (story_in later)) tells
first_story (b ∷ before) later line t m tells none = passed b.fact none.0.never (before ++ line ∷ later) (story_in (before ++ line ∷ later)) ∙ first_story before later line t m tells none.1

story_is : (ls later : List Line) (t m : ℕ) (h : Option Decision) → IsFirstDeath ls t m later → heir_in m later ≡ h → story_in ls ≡ Some (story_of t m h)
story_is ls later t m h first is =
    ap story_in first.all ∙ first_story first.before later first.line t m first.tells first.none ∙ ap (λ (x : Option Decision). Some (story_of t m x)) is

-- a death, or none
is_death : (l : Line) (f : Fact) → l.fact ≡ f → TellsNoDeath l ⊎ ((t m : ℕ) × (l.fact ≡ Death t m))
is_death l (Death t m) is = inr (t, m, is)
is_death l (Begin u c) is = inl (record { never = λ t m e. (let no : Begin u c ≡ Death t m = sym is ∙ e in absurd cc) })
is_death l (Point d) is = inl (record { never = λ t m e. (let no : Point d ≡ Death t m = sym is ∙ e in absurd cc) })
is_death l (Sleep u q) is = inl (record { never = λ t m e. (let no : Sleep u q ≡ Death t m = sym is ∙ e in absurd cc) })
is_death l (Wake u) is = inl (record { never = λ t m e. (let no : Wake u ≡ Death t m = sym is ∙ e in absurd cc) })
is_death l (Move u n) is = inl (record { never = λ t m e. (let no : Move u n ≡ Death t m = sym is ∙ e in absurd cc) })
is_death l (Return u x) is = inl (record { never = λ t m e. (let no : Return u x ≡ Death t m = sym is ∙ e in absurd cc) })
is_death l (Kill u) is = inl (record { never = λ t m e. (let no : Kill u ≡ Death t m = sym is ∙ e in absurd cc) })
is_death l (Reap u) is = inl (record { never = λ t m e. (let no : Reap u ≡ Death t m = sym is ∙ e in absurd cc) })
is_death l (Renew u) is = inl (record { never = λ t m e. (let no : Renew u ≡ Death t m = sym is ∙ e in absurd cc) })

abbrev HasFirst : List Line → Type 0
HasFirst ls = (t m : ℕ) × (later : List Line) × IsFirstDeath ls t m later

further : (l : Line) (ls : List Line) → TellsNoDeath l → Each TellsNoDeath ls ⊎ HasFirst ls → Each TellsNoDeath (l ∷ ls) ⊎ HasFirst (l ∷ ls)
further l ls apart (inl none) = inl (apart, none)
further l ls apart (inr (t, m, later, first)) = inr (
  t,
  m,
  later,
  record { before = l ∷ first.before; line = first.line; all = ap (λ (us : List Line). l ∷ us) first.all; tells = first.tells; none = (apart, first.none) },
)

death_or_none : (ls : List Line) → Each TellsNoDeath ls ⊎ HasFirst ls
death_or_none [] = inl tt
death_or_none (l ∷ ls) = go (is_death l l.fact refl) (death_or_none ls)
  where
    go : TellsNoDeath l ⊎ ((t m : ℕ) × (l.fact ≡ Death t m)) → Each TellsNoDeath ls ⊎ HasFirst ls → Each TellsNoDeath (l ∷ ls) ⊎ HasFirst (l ∷ ls)
    go (inl apart) rest = further l ls apart rest
    go (inr (t, m, tells)) rest = inr (t, m, ls, record { before = []; line = l; all = refl; tells = tells; none = tt })

-- ---- titles

titles : (n : Called) (ls : List Line) (s : Option Story) (a b : List ℕ) → story_in ls ≡ s → title_with n Trace s ≡ a → title_with n History s ≡ b → AreTitles n ls a b
titles n ls s a b is of_trace of_history = record { trace = ap (title_with n Trace) is ∙ of_trace; history = ap (title_with n History) is ∙ of_history }

titled : (top title rest picture : List ℕ) → (top ++ (title ++ rest)) ++ picture ≡ top ++ (title ++ (rest ++ picture))
titled top title rest picture = append_assoc top (title ++ rest) picture ∙ ap (λ l. top ++ l) (append_assoc title rest picture)

page_titled : (title states picture : List ℕ) → HasTitle (page_of title states picture) title
page_titled title states picture = record {
  rest = concat (STYLE.now ∷ title ∷ STATE.now ∷ states ∷ BETWEEN.now ∷ SCRIPT.now ∷ BEHIND.now ∷ []) ++ (picture ++ behind_picture);
  whole = titled TOP.now title (concat (STYLE.now ∷ title ∷ STATE.now ∷ states ∷ BETWEEN.now ∷ SCRIPT.now ∷ BEHIND.now ∷ [])) (picture ++ behind_picture);
}

pub titles_tell : TitlesTellTheFirstDeath
titles_tell = record {
  traces = λ n t f. page_titled (title_text n Trace (lines_shown t f)) (data_text n t f) (svg_drawn n t.head.threads t.head.mutexes t.lines.items t.last);
  histories = λ n t why. page_titled (title_text n History (history_shown t why)) (history_data n t why) (svg_drawn n t.head.threads t.head.mutexes t.lines.items t.last);
  either = death_or_none;
  none = λ n ls none. titles n ls None _ _ (no_story ls none) refl refl;
  nobody = λ n ls later t m first none. titles n ls (Some (story_of t m None)) _ _ (story_is ls later t m None first (nobody_in m later none)) (append-nil _) (ap (λ l. codes "A history: " ++ l) (append-nil _));
  heir = λ n ls later t m d first heir. titles n ls (Some (story_of t m (Some d))) _ _ (story_is ls later t m (Some d) first (heir_first later m d heir)) refl refl;
}

-- ---- a history's lines

at_end : (xs : List Line) (x : Line) → slice_get (xs ++ x ∷ []) (length xs) ≡ Some x
at_end [] x = refl
at_end (y ∷ xs) x = at_end xs x

least : (n : ℕ) (ls : List Line) → take (min (length ls) n) ls ≡ take n ls
least n ls = ap (λ (k : ℕ). take k ls) (let same : min (length ls) n ≡ min n (length ls) = omega arith in same) ∙ take_min n ls

front : (ls : List Line) (x : Line) (n : ℕ) → take (min (length (ls ++ x ∷ []) - 1) n) (ls ++ x ∷ []) ≡ take n ls
front ls x n =
    let long = length-append ls (x ∷ []) in
    ap (λ (k : ℕ). take k (ls ++ x ∷ [])) (let same : min (length (ls ++ x ∷ []) - 1) n ≡ min (length ls) n = omega (arith, long) in same)
    ∙ take-append-le (min (length ls) n) ls (x ∷ []) (omega arith)
    ∙ least n ls

pub history_shown_so : HistoryLinesAreShown
history_shown_so = record {
  legal = λ t. least 100000 t.lines.items;
  illegal = λ t why before line is. ap (λ (ls : List Line). take (history_lines (Some why) (length ls)) ls) is ∙ front before line 100000;
  told = λ before line.
      let long = length-append before (line ∷ []) in
      ap (λ (k : ℕ). slice_get (before ++ line ∷ []) k) (let place : length (before ++ line ∷ []) + 1 - 2 ≡ length before = omega (arith, long) in place) ∙ at_end before line;
}
