use Rattle.std.proofs.Common.{List, subst, sym}
use Rattle.std.specs.Prelude.{Some}
use Rattle.std.proofs.lemmas.Result.{IfOk-weaker}
use Rattle.own_base.specs.declared.change.Change.{Change}
use Rattle.state_model.specs.Put.{put}
use Rattle.state_model.proofs.CreatedSchema.{within-created}
use Rattle.commit_replay.specs.RowChanges.{ArePutRows}
use Rattle.commit_replay.specs.Taken.{AreTold, IsTaken}
use Rattle.commit_replay.proofs.RowsPut.{rows-put, told-rows}
use Rattle.commit_replay.proofs.rows.put_rows.Goals as goal

pub changes_of_rows-requires : goal.changes_of_rows-requires
changes_of_rows-requires c = rw c.schema.ensures (within-created c.args.version.now c.requires.sound.well_formed.created)

-- the changes tell what stands, which is nothing
pub make-requires-clause-told : goal.make-requires-clause-told
make-requires-clause-told c =
    let db = c.args.version.now in
    let put_rows : ArePutRows db.schema.tables c.args.tables.now (Some c.in-Some.changes) = rw (c.in-Some.is, c.schema.ensures) at c.in_ok-changes.ensures in
    subst (AreTold db) (sym c.items.ensures) (told-rows db c.args.tables.now c.requires.sound c.requires.bare c.in-Some.changes put_rows.0 put_rows.1 put_rows.2)

-- what is made of them has the rows
pub returns : goal.returns
returns c =
    let db = c.args.version.now in
    let put_rows : ArePutRows db.schema.tables c.args.tables.now (Some c.in-Some.changes) = rw (c.in-Some.is, c.schema.ensures) at c.in_ok-changes.ensures in
    IfOk-weaker c.make.result _ _ (λ went taken.
    rows-put db c.args.tables.now c.requires.sound c.requires.bare c.in-Some.changes put_rows.0 put_rows.1 put_rows.2 c.make.new.version c.make.new.weighs went
    (subst (λ (changes : List Change). IsTaken db (put db changes) c.make.new.version c.make.new.weighs went) c.items.ensures taken)) c.make.ensures.taken
