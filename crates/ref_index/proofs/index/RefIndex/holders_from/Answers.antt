use Rattle.std.proofs.Common.{List, map, subst, sym}
use Rattle.own_base.specs.declared.value.Key.{Key}
use Rattle.page_model.specs.Run.{IsRunFrom}
use Rattle.ref_index.proofs.HoldersLemmas.{never_missing, rights_hold}
use Rattle.ref_index.proofs.index.RefIndex.holders_from.Goals as goal

-- A run of what belongs to the value.
pub returns-in-Some-clause-run : goal.returns-in-Some-clause-run
returns-in-Some-clause-run c = λ db ordered stands indexed.
    subst (λ (keys : List Key). IsRunFrom keys c.args.at (map (λ (entry : Key × Key). entry.1) c.run_from.result.now))
    (rights_hold db c.args.self.now ordered stands c.args.table.0 c.args.column.0 indexed c.in-Some.one.now c.args.value.now (sym c.in-Some.ensures) c.run_from.ensures.rising) c.run_from.ensures.run

-- An indexed column has an index.
pub returns-in-None-clause-run : goal.returns-in-None-clause-run
returns-in-None-clause-run c = λ db ordered stands indexed. absurd (never_missing db c.args.self.now ordered stands c.args.table.0 c.args.column.0 indexed (sym c.in-None.ensures))
