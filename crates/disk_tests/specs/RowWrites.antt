-- Statements that write rows.
use Rattle.own_model.specs.declared.statement.Statement.{Statement}
use Rattle.own_model.specs.declared.statement.Statement.TheVariants.{Delete, Insert, Update}

-- an INSERT, an UPDATE or a DELETE
abbrev pub IsRowWrite : Statement → Type 0
IsRowWrite (Insert table columns rows) = Unit {0}
IsRowWrite (Update table sets cond) = Unit {0}
IsRowWrite (Delete table cond) = Unit {0}
IsRowWrite _ = ⊥
