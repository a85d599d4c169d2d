use Rattle.std.proofs.Common.{subst}
use Rattle.std.specs.Prelude.{ℕ, List, IsTrue}
use Rattle.own_base.specs.declared.number.Area.TheVariants.{A, B}
use Rattle.crash_model.specs.LeftBy.{IsLeftBy}
use Rattle.history_model.specs.History.{History}
use Rattle.shell_session.proofs.opening.disk_left.Goals as goal

-- as it was when the store was closed
pub returns-clause-left : goal.returns-clause-left
returns-clause-left g c =
    let D = g.D.Disk in
    let engine = c.args.engine in
    let disk = c.close-opened.result.disk in
    subst (λ (history : History). IsTrue (D.honest disk) → (a b : List ℕ) → D.leaves disk A a → D.leaves disk B b → IsLeftBy engine.base engine.start history a b) c.close-opened.ensures.history c.close-opened.ensures.left
