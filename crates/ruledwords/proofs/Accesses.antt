-- The access of a running call, as its function has it.
use Rattle.std.proofs.Common.{◌≡◌, ℕ, ◌≤◌, Option, sym, ap, ◌∙◌, subst}
use Rattle.posixmutex.specs.declared.point.Point.{Point}
use Rattle.mutex.specs.Programs.{access_of, row_operation, point_of}
use Rattle.mutex.specs.Rows.{IsGoing}
use Rattle.mutex.specs.Standings.{Standing}
use Rattle.mutex.specs.Steps.{IsStep}
use Rattle.ruledwords.specs.declared.pass.Card.{Card}
use Rattle.ruledwords.specs.Seen.{held}
use Rattle.ruledwords.specs.Calls.{Ready, Made, led_at, count_after, most}
use Rattle.ruledwords.proofs.Standing.{held_made, room_after, few_after}

-- the count after the access
pub counted_after : (p : Standing) (q : ℕ) (c d : Card) (n h h' : ℕ) (point : Option Point) → IsGoing p.row → IsStep (access_of p) → Ready p c → Made p q c n d → h ≡ held c → h' ≡ count_after h point → point ≡ point_of p.thread p.cell (row_operation p.row) (led_at p n).point → h' ≡ held d
counted_after p q c d n h h' point going step ready m was is told = is ∙ ap (λ (x : Option Point). count_after h x) told ∙ ap (λ (x : ℕ). count_after x (point_of p.thread p.cell (row_operation p.row) (led_at p n).point)) was ∙ sym (held_made p q c d n going step ready m)

pub room_made : (p : Standing) (q : ℕ) (c d : Card) (n h h' : ℕ) (point : Option Point) → IsGoing p.row → IsStep (access_of p) → Ready p c → Made p q c n d → h ≤ most p.row → h' ≡ count_after h point → point ≡ point_of p.thread p.cell (row_operation p.row) (led_at p n).point
    → h' ≤ most (led_at p n).row
room_made p q c d n h h' point going step ready m room is told =
    subst (λ (x : ℕ). x ≤ most (led_at p n).row) (sym (is ∙ ap (λ (x : Option Point). count_after h x) told)) (room_after p q c d n h going step ready m room)

pub few_made : (p : Standing) (q : ℕ) (c d : Card) (n h h' : ℕ) (point : Option Point) → IsGoing p.row → IsStep (access_of p) → Ready p c → Made p q c n d → h ≤ most p.row → h' ≡ count_after h point → point ≡ point_of p.thread p.cell (row_operation p.row) (led_at p n).point
    → h' ≤ 2048
few_made p q c d n h h' point going step ready m room is told = few_after h' (led_at p n).row (room_made p q c d n h h' point going step ready m room is told)
