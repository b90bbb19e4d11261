use Rattle.std.proofs.Common.{◌≡◌, ◌+◌, ◌++◌, [], ◌∷◌, length, refl}
use Rattle.std.specs.Prelude.{◌==◌, ◌%◌, option_map, reverse, slice_index_or, string_bytes, if◌then◌else◌}
use Rattle.facts.specs.Facts.{decision_of, thread_of}
use Rattle.picture.proofs.Columns.{then_text, told_as}
use Rattle.page.specs.Data.{mutex_in}
use Rattle.page.specs.Shows.{turn}
use Rattle.page.specs.States.{seen, state_behind}
use Rattle.page.specs.Statuses.{first_status}
use Rattle.page.specs.Texts.{items_text, line_text, mutex_text, status_text, whole_text}
use Rattle.page.proofs.Turns.{inside_lists, mutexes_inside, state_goes_on, thread_inside, thread_young, threads_inside, turn_written, whatever}
use Rattle.page.proofs.data.add_turn.Goals as goal

pub take-requires : goal.take-requires
take-requires c =
    let h = c.args.head.now in
    let t = thread_of c.args.line.now.fact in
    record {
      thread = thread_inside h.threads h.mutexes (seen c.args.state.now) (reverse c.args.earlier.now) t c.requires.so_far c.requires.inside.1.0;
      young = thread_young h.threads h.mutexes (seen c.args.state.now) c.args.earlier.now t c.requires.so_far c.requires.inside.1.0 c.requires.few;
    }

pub add_change-requires : goal.add_change-requires
add_change-requires c =
    let h = c.args.head.now in
    let e = c.args.line.now in
    let u = seen c.take.new.self in
    let is : u ≡ state_behind h.threads h.mutexes (e ∷ reverse c.args.earlier.now) = state_goes_on h.threads h.mutexes (seen c.args.state.now) u.threads u.mutexes c.args.earlier.now e (length c.args.earlier.now + 2) c.requires.so_far c.requires.inside.1 refl c.take.ensures.threads c.take.ensures.mutexes in
    inside_lists (length u.threads) (length u.mutexes) (h.threads + 1) h.mutexes e.fact (threads_inside h.threads h.mutexes u (e ∷ reverse c.args.earlier.now) is) (mutexes_inside h.threads h.mutexes u (e ∷ reverse c.args.earlier.now) is) c.requires.inside.1

pub returns-clause-text : goal.returns-clause-text
returns-clause-text c =
    let h = c.args.head.now in
    let e = c.args.line.now in
    let s = seen c.args.state.now in
    let u = seen c.take.new.self in
    let is : u ≡ state_behind h.threads h.mutexes (e ∷ reverse c.args.earlier.now) = state_goes_on h.threads h.mutexes s u.threads u.mutexes c.args.earlier.now e (length c.args.earlier.now + 2) c.requires.so_far c.requires.inside.1 refl c.take.ensures.threads c.take.ensures.mutexes in
    let whole = if (length c.args.earlier.now % 1000) == 0 then whole_text s else [] in
    let change = line_text e ++ (status_text (slice_index_or u.threads (thread_of e.fact) first_status) ++ mutex_text (option_map (mutex_in u.mutexes) (decision_of e.fact))) in
    told_as c.add_change.result (string_bytes c.args.text.now) (string_bytes c.add_change.new.text) (whole ++ change) (items_text (turn h.threads h.mutexes (reverse c.args.earlier.now) e)) (turn_written h.threads h.mutexes s u c.args.earlier.now e c.requires.so_far is c.requires.inside.1)
    (then_text c.add_change.result (string_bytes c.args.text.now) (string_bytes c.add_whole_at.new.text) (string_bytes c.add_change.new.text) whole change c.in_ok-add_whole_at.ensures c.add_change.ensures)

pub returns-clause-state : goal.returns-clause-state
returns-clause-state c =
    let h = c.args.head.now in
    let e = c.args.line.now in
    let u = seen c.take.new.self in
    whatever c.add_change.result (state_goes_on h.threads h.mutexes (seen c.args.state.now) u.threads u.mutexes c.args.earlier.now e (length c.args.earlier.now + 2) c.requires.so_far c.requires.inside.1 refl c.take.ensures.threads c.take.ensures.mutexes)
