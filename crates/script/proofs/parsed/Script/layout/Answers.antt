use Rattle.std.proofs.Common.{◌≡◌, ◌∙◌, ℕ, ◌+◌, length, take, ap}
use Rattle.script.proofs.Firsts.{lays}
use Rattle.script.proofs.parsed.Script.layout.Goals as goal

pub unwrap-requires : goal.unwrap-requires
unwrap-requires c =
    let s = c.args.self.now in
    let bs = c.bases_of-bases.result in
    let ms = c.mutexes_of-mutexes.result in
    let processes : c.from.result + 1 ≡ length s.processes + 1 = ap (λ (n : ℕ). n + 1) (c.from.ensures ∙ c.processes.ensures.count) in
    let conditions : c.from-2.result ≡ length s.conditions = c.from-2.ensures ∙ c.conditions.ensures.count in
    lays s c.members.result.now (take (c.from.result + 1) bs) c.mutexes.result (take c.from-2.result ms) c.with_processes.result c.members.ensures.well_formed c.members.ensures.value
    (ap (λ (n : ℕ). take n bs) processes ∙ c.bases_of-bases.ensures) c.mutexes.ensures.count (ap (λ (n : ℕ). take n ms) conditions ∙ c.mutexes_of-mutexes.ensures) c.with_processes.ensures
