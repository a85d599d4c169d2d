use Rattle.std.proofs.Common.{◌∙◌, ap, subst, sym}
use Rattle.own_model.specs.Db.{Db, IsOrdered}
use Rattle.move_model.specs.Moves.{AreMovesOf}
use Rattle.state_model.specs.Rows.{AreRowsOf}
use Rattle.engine_core.proofs.Nets.{lead-net}
use Rattle.state_tests.proofs.KeptStores.{owner_schema, within_limits}
use Rattle.state_tests.proofs.writing.weight_by_changes.Goals as goal

pub judge_by-judged-requires : goal.judge_by-judged-requires
judge_by-judged-requires g c =
    let db = c.args.version.now in
    let is = c.version.ensures ∙ c.requires.next in
    let after = subst IsOrdered c.requires.next c.requires.well_formed.ordered in
    record {
      schema = ap (λ (db : Db). db.schema) is;
      limits = within_limits db c.requires.sound.well_formed;
      owner = owner_schema db c.requires.sound.well_formed;
      rows = subst (λ (db : Db). AreRowsOf db.schema.tables db.rows) (sym c.version.ensures) c.requires.well_formed.rows;
      faultless = c.requires.sound.faultless;
      weight = c.weight-before.ensures;
      leads = lead-net db _ c.args.changes.now c.requires.sound.well_formed.ordered after is c.requires.net;
      moves = subst (λ (next : Db). AreMovesOf db next c.args.moves.now) (sym is) c.requires.moves;
    }
