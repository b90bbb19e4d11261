-- Which outcomes' scripts were played, and what came of it.
use Rattle.std.proofs.Common.{◌≡◌, ◌≢◌, ℕ, ◌+◌, ◌-◌, ◌<◌, ◌≤◌, ◌==◌, ◌⊎◌, inl, inr, Bool, true, false, List, length, map, get_or, Option, Some, None, Result, Ok, Err, IfOk, refl, sym, ap, subst, subst₂, ◌∙◌, arith, eqb-true, eq-eqb, Bor}
use Rattle.std.specs.Prelude.{option_map, slice_get}
use Rattle.std.proofs.lemmas.Option.{slice_get-map, slice_get_read, slice_get_within}
use Rattle.std.proofs.lemmas.List.{length-map}
use Rattle.outcomes.specs.declared.exploring.Witnessed.{Witnessed}
use Rattle.interleave.specs.Shown.{Shown, state_of}
use Rattle.interleave.specs.declared.trace.Trace.{Trace}
use Rattle.outcomes.specs.declared.outcome.Outcome.{Outcome}
use Rattle.protocol.specs.Machine.{State}
use Rattle.protocol.specs.declared.note.Note.{Note}
use Rattle.script.specs.Played.{IsPlayed, RefusesCommand}
use Rattle.script.specs.Scope.{Scope}
use Rattle.script.specs.Outcome.{TellsAt}
use Rattle.script.specs.Playing.{overlong}
use Rattle.script.specs.Reading.{script_read}
use Rattle.script.specs.declared.command.Mode.TheVariants.{Run}
use Rattle.script.specs.declared.fault.Fault.{Fault}
use Rattle.script.specs.declared.fault.Fault.TheVariants as fault
use Rattle.script.specs.declared.fault.ScriptFault.{ScriptFault}
use Rattle.explore_report.specs.Replays.{Came, IsTooLong, PlayCame, Plays, Refuses, Replays, Shows, is_settled, replay_of}
use Rattle.explore_report.specs.declared.replaying.Replay.{Replay}
use Rattle.explore_report.specs.declared.replaying.Replay.TheVariants.{Same, TooLong, Other}
use Rattle.explore_report.specs.Told.{AreReplayed, HasAnother, HasLong, HasScript, IsReplayed, IsUnplayable}
use Rattle.explore_report.specs.Witnesses.{script_text}

abbrev listed : List (Bor Witnessed) → List Witnessed
listed os = map (λ w. w.now) os

-- the outcome at a place
pub item_at : (os : List (Bor Witnessed)) (i n : ℕ) (w : Bor Witnessed) → n ≡ i → i < length os → w ≡ get_or os i w → slice_get (listed os) n ≡ Some w.now
item_at os i n w same lt is =
    ap (λ (k : ℕ). slice_get (listed os) k) same
    ∙ slice_get-map (λ (v : Bor Witnessed). v.now) os i
    ∙ ap (option_map (λ (v : Bor Witnessed). v.now)) (slice_get_read os (length os) i w refl lt is)

module _ (s : Scope) (os : List (Bor Witnessed)) where
  abbrev IsUpheld : Witnessed → Type 0
  IsUpheld w = IsReplayed s w ⊎ IsUnplayable s w

  abbrev Played : ℕ → Type 0
  Played n = (k : ℕ) (w : Witnessed) → k < n → slice_get (listed os) k ≡ Some w → IsUpheld w

  pub played_more : (n i : ℕ) (v : Bor Witnessed) → n ≡ i → i < length os → v ≡ get_or os i v → IsUpheld v.now → Played n → Played (n + 1)
  played_more n i v same lt is plays before k w within at = go (k == n) refl
    where
      go : (b : Bool) → (k == n) ≡ b → IsUpheld w
      go true e =
          let here : slice_get (listed os) k ≡ Some v.now = ap (λ (j : ℕ). slice_get (listed os) j) (eqb-true k n e) ∙ item_at os i n v same lt is in
          let one : v.now ≡ w = cc in
          subst IsUpheld one plays
      go false e =
          let other : k ≢ n = λ it. let both : true ≡ false = sym (eq-eqb k n it) ∙ e in absurd cc in
          before k w (omega arith) at

  pub played_all : (n i : ℕ) → n ≡ i → length os ≤ i → Played n → AreReplayed s (listed os)
  played_all n i same past before k w at =
      let within : k < length (listed os) = slice_get_within (listed os) k w at in
      let long : length (listed os) ≡ length os = length-map os (λ (v : Bor Witnessed). v.now) in
      before k w (omega arith) at

-- ---- what holds of each of a list, place by place

module _ {A : Type 0} (P : ℕ → A → Type 0) (xs : List A) where
  abbrev Below : ℕ → Type 0
  Below n = (m : ℕ) (x : A) → m < n → slice_get xs m ≡ Some x → P m x

  pub each_more : (n i : ℕ) (v : A) → i ≡ n → i < length xs → v ≡ get_or xs i v → P n v → Below n → Below (n + 1)
  each_more n i v same lt is here before m x within at = go (m == n) refl
    where
      go : (b : Bool) → (m == n) ≡ b → P m x
      go true e =
          let place : m ≡ i = eqb-true m n e ∙ sym same in
          let found : slice_get xs m ≡ Some v = ap (slice_get xs) place ∙ slice_get_read xs (length xs) i v refl lt is in
          let one : v ≡ x = cc in
          subst (λ (k : ℕ). P k x) (sym (eqb-true m n e)) (subst (P n) one here)
      go false e =
          let other : m ≢ n = λ it. let both : true ≡ false = sym (eq-eqb m n it) ∙ e in absurd cc in
          before m x (omega arith) at

  pub each_all : (n : ℕ) → length xs ≤ n → Below n → (m : ℕ) (x : A) → slice_get xs m ≡ Some x → P m x
  each_all n past before m x at =
      let within : m < length xs = slice_get_within xs m x at in
      before m x (omega arith) at

-- ---- a script that was played

-- the machine that it leaves, and what was noted, are those of its run
pub plays_so : (s : Scope) (t : Trace) (m : Shown) (ns : List Note) (o : Outcome) → IsPlayed s t m → ns ≡ t.notes.items → Shows (state_of m) ns o → Plays s o
plays_so s t m ns o p is h = record { fits = p.fits; shows = subst₂ (λ (st : State) (l : List Note). Shows st l o) p.machine (is ∙ p.notes) h }

pub plays_only : (s : Scope) (t : Trace) (m : Shown) (ns : List Note) (o : Outcome) → IsPlayed s t m → ns ≡ t.notes.items → Plays s o → Shows (state_of m) ns o
plays_only s t m ns o p is h = subst₂ (λ (st : State) (l : List Note). Shows st l o) (sym p.machine) (sym (is ∙ p.notes)) h.shows

-- what came of it, if its run shows the outcome, or doesn't
pub played_so : (s : Scope) (o : Outcome) (same : Bool) → overlong s ≡ None → (same ≡ true → Plays s o) → (Plays s o → same ≡ true) → PlayCame s o (replay_of same)
played_so s o true fits so only = so refl
played_so s o false fits so only = (
  λ has. let e = only has in absurd cc,
  λ line over. let both = sym fits ∙ over in absurd cc,
)

-- a command was refused
refused_other : (s : Scope) (line : ℕ) (f : Fault) → RefusesCommand s line f → f ≢ fault.TooLong → f ≢ fault.OutOfMemory → ⊥
refused_other s line fault.TooLong h long full = long refl
refused_other s line fault.OutOfMemory h long full = full refl
refused_other s line fault.NotUtf8 h long full = h
refused_other s line fault.UnknownWord h long full = h
refused_other s line fault.OutOfRange h long full = h
refused_other s line fault.NoSuchName h long full = h

pub refused_so : {E : Type 0} (s : Scope) (o : Outcome) (at : ScriptFault) (r : Result Replay E) → RefusesCommand s at.line at.fault → IfOk r (Refuses at.fault) → IfOk r (PlayCame s o)
refused_so s o at (Ok Same) refused h = absurd h
refused_so s o at (Ok TooLong) refused h = (at.line, subst (RefusesCommand s at.line) h refused)
refused_so s o at (Ok Other) refused h = absurd (refused_other s at.line at.fault refused h.0 h.1)
refused_so s o at (Err e) refused h = tt

-- ---- a text that was read, or wasn't

pub came_so : (text : List ℕ) (s : Scope) (o : Outcome) (r : Replay) → script_read Run text ≡ Ok s → PlayCame s o r → Came text o r
came_so text s o Same read h = record { scope = s; read = read; plays = h }
came_so text s o TooLong read h = inr (record { scope = s; read = read; line = h.0; over = h.1 })
came_so text s o Other read h = (
  λ has. let both = sym has.read ∙ read in let same : has.scope ≡ s = cc in h.0 (subst (λ (x : Scope). Plays x o) same has.plays),
  λ long. over long,
)
  where
    over : IsTooLong text → ⊥
    over (inl it) = let both = sym it.read ∙ read in absurd cc
    over (inr it) = let both = sym it.read ∙ read in let same : it.scope ≡ s = cc in h.1 it.line (ap overlong (sym same) ∙ it.over)

said_so : (e : ScriptFault) (f : Fault) (said : Result Scope ScriptFault) → TellsAt e f said → f ≢ fault.OutOfMemory → said ≡ Err e
said_so e fault.OutOfMemory said h full = absurd (full refl)
said_so e fault.TooLong said h full = h
said_so e fault.NotUtf8 said h full = h
said_so e fault.UnknownWord said h full = h
said_so e fault.OutOfRange said h full = h
said_so e fault.NoSuchName said h full = h

pub unread_so : {E : Type 0} (text : List ℕ) (o : Outcome) (e : ScriptFault) (r : Result Replay E) → TellsAt e e.fault (script_read Run text) → IfOk r (Refuses e.fault) → IfOk r (Came text o)
unread_so text o e (Ok Same) reads h = absurd h
unread_so text o e (Ok TooLong) reads h =
    let other : e.fault ≢ fault.OutOfMemory = λ full. let both = sym h ∙ full in absurd cc in
    inl (record { at = e; read = said_so e e.fault (script_read Run text) reads other; kind = h })
unread_so text o e (Ok Other) reads h = (
  λ has. let both = sym has.read ∙ is in absurd cc,
  λ long. over long,
)
  where
    is : script_read Run text ≡ Err e
    is = said_so e e.fault (script_read Run text) reads h.1

    over : IsTooLong text → ⊥
    over (inl it) = let both = sym it.read ∙ is in let same : it.at ≡ e = cc in h.0 (ap (λ (x : ScriptFault). x.fault) (sym same) ∙ it.kind)
    over (inr it) = let both = sym it.read ∙ is in absurd cc
unread_so text o e (Err why) reads h = tt

-- a script that was read was played
pub replayed_so : {E : Type 0} (text : List ℕ) (s : Scope) (o : Outcome) (r : Result Replay E) → script_read Run text ≡ Ok s → IfOk r (PlayCame s o) → IfOk r (Came text o)
replayed_so text s o (Ok x) read h = came_so text s o x read h
replayed_so text s o (Err e) read h = tt

-- ---- whether an outcome is printed

pub shown_so : (text : List ℕ) (o : Outcome) (r : Replay) (b : Bool) → Came text o r → b ≡ is_settled r → b ≡ true → Replays text o ⊎ IsTooLong text
shown_so text o Same b h is so = inl h
shown_so text o TooLong b h is so = inr h
shown_so text o Other b h is so = absurd cc

pub shown_only : (text : List ℕ) (o : Outcome) (r : Replay) (b : Bool) → Came text o r → b ≡ is_settled r → Replays text o ⊎ IsTooLong text → b ≡ true
shown_only text o Same b h is has = is
shown_only text o TooLong b h is has = is
shown_only text o Other b h is (inl has) = absurd (h.0 has)
shown_only text o Other b h is (inr long) = absurd (h.1 long)

-- ---- the script of one outcome

module _ (s : Scope) (ws : List Witnessed) (n : ℕ) (w : Witnessed) (text : List ℕ) (there : slice_get ws (n - 1) ≡ Some w) (is : text ≡ script_text s w.events.items) where
  came_as : (r x : Replay) → Came text w.outcome r → r ≡ x → Came (script_text s w.events.items) w.outcome x
  came_as r x h same = subst₂ (λ (l : List ℕ) (y : Replay). Came l w.outcome y) is same h

  pub has_script : {r : Replay} → Came text w.outcome r → r ≡ Same → HasScript s ws n text
  has_script {r} h same = record { witnessed = w; there = there; is = is; played = came_as r Same h same }

  pub has_long : {r : Replay} → Came text w.outcome r → r ≡ TooLong → HasLong s ws n
  has_long {r} h same = record { witnessed = w; there = there; long = came_as r TooLong h same }

  pub has_another : {r : Replay} → Came text w.outcome r → r ≡ Other → HasAnother s ws n
  has_another {r} h same = let it = came_as r Other h same in record { witnessed = w; there = there; another = it.0; short = it.1 }
