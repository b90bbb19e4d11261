use Rattle.std.proofs.Common.{refl, sym, ◌∙◌}
use Rattle.interleave.proofs.Runs.{legal_run}
use Rattle.script.specs.Playing.{layout_of, counter_of, first_state, events_in}
use Rattle.script.proofs.Firsts.{is_layout, are_presets}
use Rattle.script.proofs.Names.{length-map_of}
use Rattle.script.proofs.player.play.Goals as goal

pub returns : goal.returns
returns c =
    let s = c.args.script.now in
    let whole = c.threads.ensures.well_formed in
    let played = c.in_ok-play_commands.ensures in
    record {
      fits = played.0;
      numbers = record {
        threads = c.threads.ensures.count;
        mutexes = c.mutexes.ensures.count;
        conditions = c.conditions.ensures.count ∙ sym (length-map_of (λ d. d.1.mutex) s.conditions);
      };
      notes = played.1;
      legal = legal_run (first_state s) (layout_of s) (counter_of s) (events_in s) _ (is_layout s whole) (are_presets s whole) refl played.1;
      machine = played.2;
    }
