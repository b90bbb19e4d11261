-- The first four of a team.
use Rattle.std.specs.Prelude.{IfSome}
use Rattle.thread_fixtures.specs.declared.played.Four.{Four}
use Rattle.ruledwords.specs.declared.pass.Words.{Words}
use Rattle.ruledwords.specs.Passes.{IsLive}

-- those of them that live are threads of these words, and in no call
abbrev pub AreLive : Words → Four → Type 0
AreLive w f = IfSome f.first (λ p. IsLive w p) × IfSome f.second (λ p. IsLive w p) × IfSome f.third (λ p. IsLive w p)
    × IfSome f.fourth (λ p. IsLive w p)
