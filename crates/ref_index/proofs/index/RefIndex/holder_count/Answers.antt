use Rattle.std.proofs.Common.{◌∙◌, ap, sym, length}
use Rattle.ref_index.proofs.HoldersLemmas.{never_missing, rights_hold}
use Rattle.ref_index.proofs.index.RefIndex.holder_count.Goals as goal

-- As many as belong to the value.
pub returns-in-Some : goal.returns-in-Some
returns-in-Some c = λ db ordered stands indexed.
    c.count.ensures.count
    ∙ ap length (rights_hold db c.args.self.now ordered stands c.args.table.0 c.args.column.0 indexed c.in-Some.one.now c.args.value.now (sym c.in-Some.ensures) c.count.ensures.rising)

-- An indexed column has an index.
pub returns-in-None : goal.returns-in-None
returns-in-None c = λ db ordered stands indexed. absurd (never_missing db c.args.self.now ordered stands c.args.table.0 c.args.column.0 indexed (sym c.in-None.ensures))
