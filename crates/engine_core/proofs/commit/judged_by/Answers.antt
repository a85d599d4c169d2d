use Rattle.std.proofs.Common.{◌∙◌, ap, subst, sym}
use Rattle.std.specs.Prelude.{IfOk}
use Rattle.own_model.specs.Db.{Db, IsOrdered}
use Rattle.move_model.specs.Moves.{AreMovesOf}
use Rattle.state_model.specs.Rows.{AreRowsOf}
use Rattle.commit_check.specs.Judged.{IsJudged}
use Rattle.state_model.proofs.CreatedSchema.{owner_schema-created, within-created}
use Rattle.engine_core.proofs.Nets.{lead-net}
use Rattle.engine_core.proofs.commit.judged_by.Goals as goal

pub judge_by-requires : goal.judge_by-requires
judge_by-requires c =
    let db = c.args.version.now in
    let is = c.version.ensures ∙ c.requires.next in
    let after = subst IsOrdered c.requires.next c.requires.well_formed.ordered in
    record {
      schema = ap (λ (db : Db). db.schema) is;
      limits = within-created db c.requires.sound.well_formed.created;
      owner = owner_schema-created db c.requires.sound.well_formed.created;
      rows = subst (λ (db : Db). AreRowsOf db.schema.tables db.rows) (sym c.version.ensures) c.requires.well_formed.rows;
      faultless = c.requires.sound.faultless;
      weight = c.requires.weighs;
      leads = lead-net db _ c.args.changes.now c.requires.sound.well_formed.ordered after is c.requires.net;
      moves = subst (λ (next : Db). AreMovesOf db next c.args.moves.now) (sym is) c.requires.moves;
    }

pub returns : goal.returns
returns c = subst (λ (db : Db). IfOk c.judge_by.result (IsJudged db)) c.version.ensures c.judge_by.ensures
