use Rattle.std.proofs.Common.{◌≡◌, ◌-◌, Some, ℕ, List, map, option_map, slice_get, ap, ◌∙◌, sym, arith}
use Rattle.std.specs.Option.{option_copied}
use Rattle.std.specs.String.{string_bytes}
use Rattle.std.proofs.lemmas.Option.{slice_get-map}
use Rattle.script.specs.Scope.{Scope}
use Rattle.script.proofs.parsed.Script.thread_name.Goals as goal

pub returns : goal.returns
returns c =
    let keys = c.self.inside.threads.keys in
    let at : c.args.thread - 1 ≡ c.as_index.result = omega (arith, c.as_index.ensures) in
    let kept : slice_get keys c.as_index.result ≡ Some c.unwrap.result.now = sym c.get_index.ensures.key ∙ ap option_copied c.unwrap.ensures in
    ap (λ (s : Scope). slice_get s.threads (c.args.thread - 1)) (sym c.self.view_is) ∙ ap (slice_get (map string_bytes keys)) at ∙ slice_get-map string_bytes keys c.as_index.result ∙ ap (option_map string_bytes) kept
    ∙ ap (λ (v : List ℕ). Some v) (sym c.as_str.ensures.value)
