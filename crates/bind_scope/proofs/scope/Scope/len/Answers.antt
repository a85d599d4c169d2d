use Rattle.std.proofs.Common.{arith, length-append}
use Rattle.query_model.proofs.ViewLimits.{length-scope_from}
use Rattle.bind_scope.proofs.scope.Scope.len.Goals as goal

-- both sources' columns
pub returns : goal.returns
returns c = rw (← c.self.view_is, length-append, length-scope_from, length-scope_from) (omega arith)
