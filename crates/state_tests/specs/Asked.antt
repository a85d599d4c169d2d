-- What the statements of these tests mean, once they are bound.
use Rattle.std.specs.Prelude.{IsTrue}
use Rattle.own_model.specs.declared.bound.Bound.{Bound}
use Rattle.own_model.specs.declared.bound.Bound.TheVariants as bound
use Rattle.own_model.specs.declared.schema.Schema.{Schema}
use Rattle.own_model.specs.declared.statement.Statement.{Statement}
use Rattle.own_model.specs.declared.statement.Statement.TheVariants.{Delete, GdprForget, GdprGet, Insert, Select, Update}
use Rattle.schema_model.specs.Tables.{is_subject}
use Rattle.readable_model.specs.Sources.{IsThere}
use Rattle.write_eval.specs.Write.{IsWrite}

-- a statement that is bound before it runs
abbrev pub IsBound : Statement → Type 0
IsBound (Select select) = Unit {0}
IsBound (Insert table columns rows) = Unit {0}
IsBound (Update table sets cond) = Unit {0}
IsBound (Delete table cond) = Unit {0}
IsBound (GdprGet table key) = Unit {0}
IsBound (GdprForget table key) = Unit {0}
IsBound _ = ⊥

-- what a bound statement means: a SELECT whose source is there, a write, or a GDPR call on a table of data subjects
abbrev pub IsMeant : Schema → Bound → Type 0
IsMeant schema (bound.Select query) = IsThere schema query
IsMeant schema (bound.Insert table rows) = IsWrite schema (bound.Insert table rows)
IsMeant schema (bound.Update table sets cond) = IsWrite schema (bound.Update table sets cond)
IsMeant schema (bound.Delete table cond) = IsWrite schema (bound.Delete table cond)
IsMeant schema (bound.Get subject) = IsTrue (is_subject schema subject.0.table.0)
IsMeant schema (bound.Forget subject) = IsTrue (is_subject schema subject.0.table.0)
IsMeant schema _ = ⊥
