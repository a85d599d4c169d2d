use Rattle.std.proofs.Common.{◌^◌, ◌<◌, ◌≤◌, arith}
use Rattle.std.proofs.lemmas.Nat.Bits.{bit_at_above}
use Rattle.row_reading.proofs.column_sets.has_column.Goals as goal

-- no bit stands above the number's type
pub returns-else-column : goal.returns-else-column
returns-else-column c =
    let fits : c.args.set.0 < 2 ^ 32 = omega arith in
    let above : 32 ≤ c.args.column = omega arith in
    rw (bit_at_above c.args.set.0 32 c.args.column fits above) (grind arith)
