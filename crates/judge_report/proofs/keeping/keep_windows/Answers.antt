use Rattle.std.proofs.Common.{◌≡◌, ℕ, ◌+◌, Option, IfSome, sym, ap, subst, ◌∙◌}
use Rattle.windows.specs.declared.cutting.Window.{Window}
use Rattle.windows.specs.Windows.{IsWindow}
use Rattle.judge_report.specs.Kept.{IsWritten, window_name}
use Rattle.judge_report.proofs.Filing.{one_more}
use Rattle.judge_report.proofs.keeping.keep_windows.Goals as goal

pub loop-window-preserved : goal.loop-window-preserved
loop-window-preserved g c =
    let w = c.in-Ok-Some.window in
    let some = c.in-Ok-Some.field-0-is in (
      c.in-Ok-Some.ensures.at,
      one_more (g.M.Maker.makes c.args.maker.now) (g.M.Maker.fills c.args.maker.now) c.args.out.now c.args.head.now c.args.steps.now c.loop-window.cutter.from c.next.new.self.from w c.cut_of-cut.result c.loop-window.cuts.items c.push.new.self.items c.in-Ok-push.ensures.items
          (subst (λ (o : Option Window). IfSome o (λ v. v.from ≡ c.loop-window.cutter.from)) some c.in-Ok-Some.ensures.from)
          (subst (λ (o : Option Window). IfSome o (λ v. c.next.new.self.from ≡ v.to)) some c.in-Ok-Some.ensures.to)
          (c.cut_of-cut.ensures.number ∙ ap (λ (n : ℕ). n + 1) (c.len-number.ensures ∙ c.loop-window.cuts.ok.0))
          (record {
            window = subst (λ (o : Option Window). IfSome o (IsWindow c.args.head.now c.args.steps.now)) some c.in-Ok-Some.ensures.window;
            cut = c.cut_of-cut.ensures.cut;
            written = subst (λ (n : ℕ). IsWritten (g.M.Maker.makes c.args.maker.now) (g.M.Maker.fills c.args.maker.now) (window_name c.args.out.now n) w.text.items) (sym c.cut_of-cut.ensures.number) c.in_ok-keep_window.ensures.kept;
          })
          c.loop-window.invariant.1,
    )
