-- The kinds of statements, as they are read: both kinds of CREATE begin alike.
use Rattle.std.proofs.Common.{ℕ, refl, ap, ◌∙◌, inl, inr, codes}
use Rattle.own_model.specs.declared.create.CreateView.{CreateView}
use Rattle.own_model.specs.declared.statement.Statement.{Statement}
use Rattle.grammar_model.specs.Grammar as grammar
use Rattle.grammar_model.specs.Language.{Language, ◌>>=◌, ◌>>◌, ◌or◌, pure, word}
use Rattle.grammar_model.specs.Limits.{Limits}
use Rattle.sql_reader.proofs.OtherWords.{Into}
use Rattle.sql_reader.proofs.Rules.Creates.{table_after}

-- VIEW name AS (plain | grouped), after CREATE
abbrev pub view_after : Limits → ℕ → Language CreateView
view_after limits levels = do
  word (codes "VIEW")
  found ← grammar.name limits
  word (codes "AS")
  select ← grammar.plain limits levels or grammar.grouped limits levels
  pure (record { name = found; select = select })

-- CREATE of both kinds
abbrev pub create_either : Limits → ℕ → Language Statement
create_either limits levels = word (codes "CREATE") >> ((view_after limits levels >>= λ found. pure (Statement.CreateView found)) or (table_after limits >>= λ found. pure (Statement.CreateTable found)))

-- a statement, as it is read
abbrev pub statement_read : Limits → ℕ → Language Statement
statement_read limits levels =
    create_either limits levels
    or ((grammar.select limits levels >>= λ found. pure (Statement.Select found))
    or (grammar.insert limits
    or (grammar.update limits levels
    or (grammar.delete limits levels
    or (grammar.gdpr limits
    or grammar.control)))))

create_to : (limits : Limits) (levels : ℕ) → Into (create_either limits levels) (grammar.create limits or grammar.view limits levels)
unfolding grammar.create grammar.view
create_to limits levels value terminals rest (_, a, created, inl (view, b, (_, c, viewed, (name, d, named, (_, e, as_there, (select, f, text, (is, same))))), (made, ends))) =
    inr (tt, a, created, (tt, c, viewed, (name, d, named, (tt, e, as_there, (select, f, text, (made ∙ ap Statement.CreateView is, same ∙ ends))))))
create_to limits levels value terminals rest (_, a, created, inr (table, b, (subject, c, subject_there, (_, d, tabled, (name, e, named, (parts, f, text, (is, same))))), (made, ends))) =
    inl (tt, a, created, (subject, c, subject_there, (tt, d, tabled, (name, e, named, (parts, f, text, (made ∙ ap Statement.CreateTable is, same ∙ ends))))))

view_from : (limits : Limits) (levels : ℕ) → Into (grammar.view limits levels) (create_either limits levels)
unfolding grammar.view
view_from limits levels value terminals rest (_, a, created, (_, c, viewed, (name, d, named, (_, e, as_there, (select, f, text, (made, ends)))))) =
    (tt, a, created, inl (record { name = name; select = select }, f, (tt, c, viewed, (name, d, named, (tt, e, as_there, (select, f, text, (refl, refl))))), (made, ends)))

table_from : (limits : Limits) (levels : ℕ) → Into (grammar.create limits) (create_either limits levels)
unfolding grammar.create
table_from limits levels value terminals rest (_, a, created, (subject, c, subject_there, (_, d, tabled, (name, e, named, (parts, f, text, (made, ends)))))) =
    (tt, a, created, inr (_, f, (subject, c, subject_there, (tt, d, tabled, (name, e, named, (parts, f, text, (refl, refl))))), (made, ends)))

-- what is read is one of the kinds
pub statement_to : (limits : Limits) (levels : ℕ) → Into (statement_read limits levels) (grammar.statement limits levels)
unfolding grammar.statement
statement_to limits levels value terminals rest (inl text) = by (create_to limits levels value terminals rest text)
  where
    by : (grammar.create limits or grammar.view limits levels) value terminals rest → grammar.statement limits levels value terminals rest
    by (inl table) = inl table
    by (inr view) = inr (inl view)
statement_to limits levels value terminals rest (inr (inl text)) = inr (inr (inl text))
statement_to limits levels value terminals rest (inr (inr (inl text))) = inr (inr (inr (inl text)))
statement_to limits levels value terminals rest (inr (inr (inr (inl text)))) = inr (inr (inr (inr (inl text))))
statement_to limits levels value terminals rest (inr (inr (inr (inr (inl text))))) = inr (inr (inr (inr (inr (inl text)))))
statement_to limits levels value terminals rest (inr (inr (inr (inr (inr (inl text)))))) = inr (inr (inr (inr (inr (inr (inr text))))))
statement_to limits levels value terminals rest (inr (inr (inr (inr (inr (inr text)))))) = inr (inr (inr (inr (inr (inr (inl text))))))

pub statement_from : (limits : Limits) (levels : ℕ) → Into (grammar.statement limits levels) (statement_read limits levels)
unfolding grammar.statement
statement_from limits levels value terminals rest (inl text) = inl (table_from limits levels value terminals rest text)
statement_from limits levels value terminals rest (inr (inl text)) = inl (view_from limits levels value terminals rest text)
statement_from limits levels value terminals rest (inr (inr (inl text))) = inr (inl text)
statement_from limits levels value terminals rest (inr (inr (inr (inl text)))) = inr (inr (inl text))
statement_from limits levels value terminals rest (inr (inr (inr (inr (inl text))))) = inr (inr (inr (inl text)))
statement_from limits levels value terminals rest (inr (inr (inr (inr (inr (inl text)))))) = inr (inr (inr (inr (inl text))))
statement_from limits levels value terminals rest (inr (inr (inr (inr (inr (inr (inl text))))))) = inr (inr (inr (inr (inr (inr text)))))
statement_from limits levels value terminals rest (inr (inr (inr (inr (inr (inr (inr text))))))) = inr (inr (inr (inr (inr (inl text)))))
