use Rattle.std.proofs.Common.{sym, ◌∙◌}
use Rattle.std.specs.Prelude.{◌≡◌, Option}
use Rattle.std.proofs.lemmas.Result.{IfOk-weaker}
use Rattle.shelf_model.specs.declared.shelved.Shelved.{Shelved}
use Rattle.shelf_model.specs.At.{copy_at}
use Rattle.micro_db.specs.CopyOf.{copy_of}
use Rattle.micro_db.proofs.StandingSame.{no_copy, owned_copy}
use Rattle.micro_db.proofs.renewing.copy_at.Goals as goal

pub returns-then-owns : goal.returns-then-owns
returns-then-owns g c =
    let db = g.N.StoreView.db c.args.after.now in
    IfOk-weaker c.copy_of.result (λ (copy : Option Shelved). copy ≡ copy_of db c.args.subject.now.0 c.args.name.now) (λ (copy : Option Shelved). copy ≡ copy_at db c.args.subject.now.0 c.args.name.now)
    (λ copy is. is ∙ owned_copy db c.args.subject.now.0 c.args.name.now (sym c.owns.ensures ∙ c.if-owns.true)) c.copy_of.ensures

pub returns-else-owns : goal.returns-else-owns
returns-else-owns g c = sym (no_copy (g.N.StoreView.db c.args.after.now) c.args.subject.now.0 c.args.name.now (sym c.owns.ensures ∙ c.if-owns.false))
