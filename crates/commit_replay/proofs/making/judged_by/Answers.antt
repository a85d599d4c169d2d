use Rattle.std.proofs.Common.{◌∙◌, ap, subst, sym}
use Rattle.std.specs.Prelude.{IfOk}
use Rattle.own_model.specs.Db.{Db, IsOrdered}
use Rattle.move_model.specs.Moves.{AreMovesOf}
use Rattle.state_model.specs.LeadTo.{LeadTo}
use Rattle.state_model.specs.Rows.{AreRowsOf}
use Rattle.commit_check.specs.Judged.{IsJudged}
use Rattle.state_model.proofs.CreatedSchema.{owner_schema-created, within-created}
use Rattle.commit_replay.proofs.Told.{leads-told, ordered-told}
use Rattle.commit_replay.proofs.making.judged_by.Goals as goal

pub invariant_of-after : goal.invariant_of-after
invariant_of-after c = record { ordered = subst IsOrdered (sym (c.version.ensures ∙ c.requires.next)) (ordered-told c.args.version.now c.requires.sound c.args.changes.now c.requires.told) }

pub judge_by-requires : goal.judge_by-requires
judge_by-requires c =
    let db = c.args.version.now in
    let is = c.version.ensures ∙ c.requires.next in
    record {
      schema = ap (λ (db : Db). db.schema) is;
      limits = within-created db c.requires.sound.well_formed.created;
      owner = owner_schema-created db c.requires.sound.well_formed.created;
      rows = subst (λ (db : Db). AreRowsOf db.schema.tables db.rows) (sym is) c.requires.told.stand;
      faultless = c.requires.sound.faultless;
      weight = c.requires.weighs;
      leads = subst (λ (next : Db). LeadTo db next c.args.changes.now) (sym is) (leads-told db c.requires.sound c.args.changes.now c.requires.told);
      moves = subst (λ (next : Db). AreMovesOf db next c.args.moves.now) (sym is) c.requires.moves;
    }

pub returns : goal.returns
returns c = subst (λ (db : Db). IfOk c.judge_by.result (IsJudged db)) c.version.ensures c.judge_by.ensures
