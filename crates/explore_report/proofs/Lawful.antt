-- What holds of whatever is said.
use Rattle.std.proofs.Common.{◌≡◌, ℕ, zero, suc, ◌+◌, ◌-◌, ◌≤◌, Bool, true, false, ◌⊎◌, inl, inr, List, [], ◌∷◌, ◌++◌, length, map, Option, Some, None, Result, Ok, Err, refl, sym, ap, subst, ◌∙◌, append_assoc, arith}
use Rattle.std.specs.Prelude.{codes, slice_get}
use Rattle.std.specs.List.{flat_map, range_with_len}
use Rattle.std.proofs.lemmas.List.FromFn.{length-map-range_with_len}
use Rattle.outcomes.specs.Outcomes.{Ended', HasAll, IsListed, IsWitnessed, Outcome', ended, outcome_in, outcome_of}
use Rattle.outcomes.specs.Positions.{Position}
use Rattle.outcomes.specs.declared.exploring.Found.{Found}
use Rattle.outcomes.specs.declared.exploring.Witnessed.{Witnessed}
use Rattle.outcomes.specs.declared.plan.Asked.{Asked}
use Rattle.outcomes.specs.declared.plan.Plan.{Plan}
use Rattle.script.specs.Scope.{Scope}
use Rattle.explore_report.specs.Asked.{Choices, Kept, states_of}
use Rattle.explore_report.specs.Kept.{IsFilled, IsWritten}
use Rattle.explore_report.specs.Laws.{AlwaysIsTrue, FoundOutcomesArePrinted, IsBrokenByOne, IsCutOff, IsPartOf, IsPossible, IsPrinted, IsTrueOfAll, NeverIsTrue, NoOutcomeIsMissing, PrintedOutcomesArePossible, PrintedOutcomesWerePlayed, Says, ScriptsPlayTheirOutcome}
use Rattle.explore_report.specs.Meets.{Breaks, Holds, Meets}
use Rattle.explore_report.specs.Replays.{Replays}
use Rattle.explore_report.specs.Texts.{Demanded, are_met, asked_text, complete_text, conditions_text, count_text, demand_text, head_text, in_order, row_text, rows_text, widths_of}
use Rattle.explore_report.specs.Told.{HasScript, IsAsked, IsFound, IsTold, IsWanted, Question', demands_read, printed, status_of}
use Rattle.explore_report.specs.Witnesses.{script_text}
use Rattle.explore_report.proofs.Demanding.{all_hold, one_breaks, read_first, read_last}
use Rattle.explore_report.proofs.Numbering.{Each, different_in_order, each_at, each_in_order, each_witnessed, listed_in_order, place_of, same_place}

-- ---- parts of a text

part_left : (part text more : List ℕ) → IsPartOf part text → IsPartOf part (text ++ more)
part_left part text more h = (h.0, h.1 ++ more, ap (λ (t : List ℕ). t ++ more) h.2 ∙ append_assoc h.0 (part ++ h.1) more ∙ ap (λ (t : List ℕ). h.0 ++ t) (append_assoc part h.1 more))

part_right : (part text before : List ℕ) → IsPartOf part text → IsPartOf part (before ++ text)
part_right part text before h = (before ++ h.0, h.1, ap (λ (t : List ℕ). before ++ t) h.2 ∙ sym (append_assoc before h.0 (part ++ h.1)))

row_part : (s : Scope) (widths : List ℕ) (largest i : ℕ) (ws : List Witnessed) (k j : ℕ) (w : Witnessed) → i + k ≡ j → slice_get ws k ≡ Some w → IsPartOf (row_text s widths largest j w.outcome) (rows_text s widths largest i ws)
row_part s widths largest i [] k j w is there = absurd cc
row_part s widths largest i (x ∷ ws) zero j w is there =
    let same : x ≡ w = cc in
    let place : i ≡ j = omega arith in
    ([], rows_text s widths largest (i + 1) ws, ap (λ (n : ℕ). row_text s widths largest n x.outcome ++ rows_text s widths largest (i + 1) ws) place ∙ ap (λ (v : Witnessed). row_text s widths largest j v.outcome ++ rows_text s widths largest (i + 1) ws) same)
row_part s widths largest i (x ∷ ws) (suc k) j w is there = part_right _ _ (row_text s widths largest i x.outcome) (row_part s widths largest (i + 1) ws k j w (omega arith) there)

-- a text of six parts ends with the last
joined : (a b c d e z : List ℕ) → a ++ (b ++ (c ++ (d ++ (e ++ z)))) ≡ (a ++ (b ++ (c ++ (d ++ e)))) ++ z
joined a b c d e z =
    sym (append_assoc a (b ++ (c ++ (d ++ e))) z
    ∙ ap (λ (t : List ℕ). a ++ t) (append_assoc b (c ++ (d ++ e)) z ∙ ap (λ (t : List ℕ). b ++ t) (append_assoc c (d ++ e) z ∙ ap (λ (t : List ℕ). c ++ t) (append_assoc d e z))))

-- the first line but for its end
abbrev head_front : Scope → Asked → List (List ℕ) → ℕ → List ℕ
head_front s a names count =
    count_text [] (length s.threads) (codes " thread") (codes " threads")
    ++ (count_text (codes ", ") (length s.mutexes) (codes " mutex") (codes " mutexes")
    ++ (conditions_text (length s.conditions) ++ (asked_text a names ++ count_text (codes ": ") count (codes " outcome") (codes " outcomes"))))

head_ends : (s : Scope) (a : Asked) (names : List (List ℕ)) (count : ℕ) (complete : Bool) → head_text s a names count complete ≡ head_front s a names count ++ complete_text complete
head_ends s a names count complete =
    joined (count_text [] (length s.threads) (codes " thread") (codes " threads")) (count_text (codes ", ") (length s.mutexes) (codes " mutex") (codes " mutexes")) (conditions_text (length s.conditions)) (asked_text a names)
    (count_text (codes ": ") count (codes " outcome") (codes " outcomes")) (complete_text complete)

head_says : (s : Scope) (a : Asked) (names : List (List ℕ)) (count : ℕ) (complete : Bool) → Says (head_text s a names count complete) complete
head_says s a names count true = (head_front s a names count, head_ends s a names count true)
head_says s a names count false = (head_front s a names count, head_ends s a names count false)

-- ---- what was found

module _ (bytes : List ℕ) (c : Choices) (text : List ℕ) (script : Option (List ℕ)) (status : ℕ) (t : IsTold bytes c text script status) where
  abbrev plan : Plan
  plan = t.question.plan

  abbrev scope : Scope
  scope = t.question.said.scope

  abbrev listed : List Witnessed
  listed = printed t.question t.found

  witnessed : Each (IsWitnessed plan) listed
  witnessed = each_in_order (IsWitnessed plan) (length scope.threads) t.found.outcomes.items (each_witnessed plan t.found.outcomes.items t.explored.sound)

  pub possible : (o : Outcome') (i : ℕ) (w : Witnessed) → slice_get listed i ≡ Some w → outcome_in w.outcome ≡ o → IsPossible plan o
  possible o i w there is =
      let one = each_at (IsWitnessed plan) listed witnessed i w there in
      record { events = w.events.items; end = one.end; run = one.run; over = one.over; is = sym one.outcome ∙ is }

  -- as many threads as the script has
  as_many : (o : Outcome') → IsPossible plan o → length o.threads ≤ length scope.threads
  as_many o p =
      let many : length (map (ended plan p.end) (range_with_len 1 plan.layout.threads)) ≡ plan.layout.threads = length-map-range_with_len (ended plan p.end) 1 plan.layout.threads in
      let whole : length o.threads ≡ plan.layout.threads = ap (λ (q : Outcome'). length q.threads) (sym p.is) ∙ many in
      let declared : plan.layout.threads ≡ length scope.threads = ap (λ l. l.threads) t.asked.plan.layout in
      omega arith

  -- one that was found has its place
  found_there : (o : Outcome') → IsPossible plan o → IsListed o t.found.outcomes.items → (i : ℕ) × (w : Witnessed) × (slice_get listed i ≡ Some w) × (outcome_in w.outcome ≡ o)
  found_there o p found = place_of o listed (listed_in_order o (length scope.threads) t.found.outcomes.items (as_many o p) found)

  -- none is missing
  pub there : (o : Outcome') → t.found.complete ≡ true → IsPossible plan o → (i : ℕ) × (w : Witnessed) × (slice_get listed i ≡ Some w) × (outcome_in w.outcome ≡ o)
  there o complete p = found_there o p (subst (λ (q : Outcome'). IsListed q t.found.outcomes.items) p.is (t.explored.complete complete p.events p.end p.run p.over))

  found_possible : (o : Outcome') → IsListed o t.found.outcomes.items → IsPossible plan o
  found_possible o found =
      let r = place_of o t.found.outcomes.items found in
      let one = each_at (IsWitnessed plan) t.found.outcomes.items (each_witnessed plan t.found.outcomes.items t.explored.sound) r.0 r.1 r.2 in
      record { events = r.1.events.items; end = one.end; run = one.run; over = one.over; is = sym one.outcome ∙ r.3 }

  line : (i : ℕ) (w : Witnessed) → slice_get listed i ≡ Some w → IsPartOf (row_text scope (widths_of scope listed) (length listed) i w.outcome) text
  line i w at =
      let row = row_part scope (widths_of scope listed) (length listed) 0 listed i i w (omega arith) at in
      let found = part_right _ _ (head_text scope plan.asked c.named (length listed) t.found.complete) (part_left _ _ (count_text [] t.found.states (codes " state\n") (codes " states\n")) row) in
      subst (IsPartOf (row_text scope (widths_of scope listed) (length listed) i w.outcome)) (sym t.answer.text_is)
      (part_left _ _ (flat_map (demand_text t.found.complete listed) t.question.demands) found)

  pub has_line : (o : Outcome') → t.found.complete ≡ true → IsPossible plan o → (place : ℕ) × IsPrinted bytes c text script status t o place
  has_line o complete p =
      let r = there o complete p in
      (r.0, record { witnessed = r.1; there = r.2; is = r.3; line = line r.0 r.1 r.2 })

  pub found_has_line : (o : Outcome') → IsListed o t.found.outcomes.items → (place : ℕ) × IsPrinted bytes c text script status t o place
  found_has_line o found =
      let r = found_there o (found_possible o found) found in
      (r.0, record { witnessed = r.1; there = r.2; is = r.3; line = line r.0 r.1 r.2 })

  pub one_line : (o : Outcome') (i j : ℕ) → IsPrinted bytes c text script status t o i → IsPrinted bytes c text script status t o j → i ≡ j
  one_line o i j a b = same_place listed (different_in_order (length scope.threads) t.found.outcomes.items t.explored.once) o i j a.witnessed b.witnessed a.there b.there a.is b.is

  pub first_line : (more : List ℕ) × (text ≡ head_text scope plan.asked c.named (length listed) t.found.complete ++ more) × Says (head_text scope plan.asked c.named (length listed) t.found.complete) t.found.complete
  first_line = (
    _,
    t.answer.text_is
        ∙ append_assoc (head_text scope plan.asked c.named (length listed) t.found.complete) _ (flat_map (demand_text t.found.complete listed) t.question.demands),
    head_says scope plan.asked c.named (length listed) t.found.complete,
  )

  -- ---- exit statuses

  status_zero : (met complete : Bool) → status_of met complete ≡ 0 → (met ≡ true) × (complete ≡ true)
  status_zero true true e = (refl, refl)
  status_zero true false e = absurd (omega arith)
  status_zero false complete e = absurd (omega arith)

  pub true_of_all : are_met listed t.question.demands ≡ true → t.found.complete ≡ true → IsTrueOfAll c t.question t.found
  true_of_all met complete = (
    complete,
    λ i d at o p. let r = there o complete p in subst (Holds d.always d.pattern) r.3 (all_hold listed t.question.demands met i d at r.0 r.1 r.2),
  )

  pub cut_off : are_met listed t.question.demands ≡ true → t.found.complete ≡ false → IsCutOff c t.question t.found
  cut_off met cut = (cut, t.explored.stopped cut, all_hold listed t.question.demands met)

  pub broken_by_one : are_met listed t.question.demands ≡ false → IsBrokenByOne c t.question t.found
  broken_by_one unmet =
      let r = one_breaks listed t.question.demands unmet in
      (r.0, r.1, r.2, (outcome_in r.3.1.outcome, possible (outcome_in r.3.1.outcome) r.3.0 r.3.1 r.3.2 refl, r.3.3))

  pub zero_is_true : status ≡ 0 → IsTrueOfAll c t.question t.found
  zero_is_true is = let both = status_zero (are_met listed t.question.demands) t.found.complete (sym t.answer.exit ∙ is) in true_of_all both.0 both.1

  -- ---- scripts

  plays : (Makes Fills : List ℕ → Option (List ℕ) → Type 0) (k : Kept) (wanted : Option Kept) (kept : Option (List ℕ)) → wanted ≡ Some k → IsWanted scope listed wanted kept → IsFilled Makes Fills wanted kept
      → (w : Witnessed) × (slice_get listed (k.number - 1) ≡ Some w) × ((played : List ℕ) × IsWritten Makes Fills k.out played × Replays played w.outcome)
  plays Makes Fills k None kept is has filled = absurd cc
  plays Makes Fills k (Some j) None is has filled = absurd has
  plays Makes Fills k (Some j) (Some played) is has filled =
      let same : j ≡ k = cc in
      let at : slice_get listed (k.number - 1) ≡ Some has.witnessed = ap (λ (x : Kept). slice_get listed (x.number - 1)) (sym same) ∙ has.there in
      let written : IsWritten Makes Fills k.out played = subst (λ (x : Kept). IsWritten Makes Fills x.out played) same filled in
      (has.witnessed, at, (played, written, subst (λ (s : List ℕ). Replays s has.witnessed.outcome) (sym has.is) has.played))

  pub script_plays : (Makes Fills : List ℕ → Option (List ℕ) → Type 0) (k : Kept) → c.script ≡ Some k → IsFilled Makes Fills c.script script
      → (w : Witnessed) × (slice_get listed (k.number - 1) ≡ Some w) × ((played : List ℕ) × IsWritten Makes Fills k.out played × Replays played w.outcome)
  script_plays Makes Fills k is filled = plays Makes Fills k c.script script is t.answer.wanted filled

-- ---- the laws

pub are_possible : PrintedOutcomesArePossible
are_possible bytes c text script status t o place is = possible bytes c text script status t o place is.witnessed is.there is.is

pub found_are_printed : FoundOutcomesArePrinted
found_are_printed = found_has_line

pub were_played : PrintedOutcomesWerePlayed
were_played bytes c text script status t o place p = (p.witnessed, p.is, t.answer.played place p.witnessed p.there)

pub none_is_missing : NoOutcomeIsMissing
none_is_missing = record { says = first_line; all = has_line; once = one_line }

pub never : NeverIsTrue
never bytes c text script t words given =
    let d = read_first t.question.said.scope words false c.never (demands_read t.question.said.scope true c.always) t.question.demands t.asked.demands given.0 given.1 in
    let holds = zero_is_true bytes c text script 0 t refl in
    (d.pattern, d.reads, λ o p. holds.1 d.place _ d.there o p)

pub always : AlwaysIsTrue
always bytes c text script t words given =
    let d = read_last t.question.said.scope words true c.always (demands_read t.question.said.scope false c.never) t.question.demands t.asked.demands given.0 given.1 in
    let holds = zero_is_true bytes c text script 0 t refl in
    (d.pattern, d.reads, λ o p. holds.1 d.place _ d.there o p)

pub scripts : (Makes Fills : List ℕ → Option (List ℕ) → Type 0) → ScriptsPlayTheirOutcome Makes Fills
scripts Makes Fills bytes c text script status t k is filled = script_plays bytes c text script status t Makes Fills k is filled
