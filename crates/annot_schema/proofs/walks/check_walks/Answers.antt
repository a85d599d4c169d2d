use Rattle.std.proofs.Common.{length, ap, arith}
use Rattle.annot_schema.proofs.EdgesWithin.{edges_within}
use Rattle.annot_schema.proofs.walks.check_walks.Goals as goal

-- the edges are between the tables of the schema and the new one
pub found_cycle-requires : goal.found_cycle-requires
found_cycle-requires c =
    rw (c.items.ensures, c.items-2.ensures, c.in_ok-edges.ensures, c.in_ok-copy.ensures, c.requires.new) (edges_within c.args.schema.now c.args.create.now c.requires.owner)

-- so are those of the walk
pub name_of-requires : goal.name_of-requires
name_of-requires c = let within = rw c.in-Some.is at c.in_ok-walk.ensures.within in omega (arith, within.table, ap length c.items.ensures)

pub name_of-requires-in-Some : goal.name_of-requires-in-Some
name_of-requires-in-Some c = let within = rw c.in-Some.is at c.in_ok-walk.ensures.within in omega (arith, within.through, ap length c.items.ensures)
