use Rattle.std.proofs.Common.{◌+◌, ◌<◌, ◌^◌, [], ◌∷◌, length, ap, arith}
use Rattle.own_base.specs.declared.value.Value.TheVariants.{Null}
use Rattle.query_model.specs.Query.{grouped}
use Rattle.query_eval.proofs.ShownGroups.{counted-by_value, shown-by_value}
use Rattle.query_eval.proofs.Tallies.{shown-tally, tally-room}
use Rattle.query_eval.proofs.groups.Groups.of_rows.Goals as goal

-- A list in memory has few rows.
pub invariant_of-result : goal.invariant_of-result
invariant_of-result c =
    let few : length c.args.rows.now + 0 < 2 ^ 63 = omega arith in
    rw (c.in_ok-group-in-None.ensures) (tally-room 0 c.args.items.now c.args.rows.now few)

pub invariant_of-result-in-Some : goal.invariant_of-result-in-Some
invariant_of-result-in-Some c =
    let few : length c.args.rows.now < 2 ^ 63 = omega arith in
    rw (c.in_ok-tallies-in-Some.ensures) (counted-by_value c.args.items.now c.in-Some.column.0 c.args.rows.now few)

pub returns-in_ok-group-in-None : goal.returns-in_ok-group-in-None
unfolding grouped
returns-in_ok-group-in-None c =
    rw (c.in-None.is, c.in_ok-group-in-None.ensures) (ap (λ row. row ∷ []) (shown-tally c.args.items.now Null c.args.rows.now))

pub returns-in_ok-tallies-in-Some : goal.returns-in_ok-tallies-in-Some
unfolding grouped
returns-in_ok-tallies-in-Some c =
    rw (c.in-Some.is, c.in_ok-tallies-in-Some.ensures) (shown-by_value c.args.items.now c.in-Some.column.0 c.args.rows.now)
