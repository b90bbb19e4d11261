-- A link and an unlink in progress, as contracts see them.
use Rattle.std.specs.Prelude.{ℕ}
use Rattle.robustlist.specs.declared.link.LinkRow.{LinkRow}
use Rattle.robustlist.specs.declared.unlink.UnlinkRow.{UnlinkRow}

-- the addresses of the head and of the entry, and where it stands
pub record LinkStanding : Type 0 where
  pub head : ℕ
  pub entry : ℕ
  pub row : LinkRow

pub record UnlinkStanding : Type 0 where
  pub head : ℕ
  pub entry : ℕ
  pub row : UnlinkRow
