-- Statements that can be read are within the limits of binding.
use Rattle.std.proofs.Common.{◌≡◌, ℕ, ◌≤◌, length, refl, arith}
use Rattle.own_model.specs.declared.create.CreateView.{CreateView as ViewCreate}
use Rattle.own_model.specs.declared.limit.TheConstants.{SELECT_ITEMS, STATEMENT_BYTES}
use Rattle.own_model.specs.declared.request.Request.TheVariants.{Run}
use Rattle.own_model.specs.declared.select.Items.{Items}
use Rattle.own_model.specs.declared.select.Items.TheVariants.{Star, Listed}
use Rattle.own_model.specs.declared.select.Select.{Select as Query}
use Rattle.own_model.specs.declared.statement.Statement.{Statement}
use Rattle.own_model.specs.declared.statement.Statement.TheVariants.{CreateView, Insert, Select}
use Rattle.grammar_model.specs.Readable.{IsReadable, IsWritten}
use Rattle.grammar_model.proofs.FewItems.{few_items, few_written_items}
use Rattle.grammar_model.proofs.FewValues.{few_values}
use Rattle.query_model.specs.SelectFaults.{listed_items}
use Rattle.query_model.specs.WithinLimits.{IsSelectWithin, IsStatementWithin}

few-listed : (select : Query) (items : Items) → select.items ≡ items → IsReadable (Run (Select select)) → length (listed_items items) ≤ SELECT_ITEMS
few-listed select Star is readable = omega arith
few-listed select (Listed items) is readable = few_items select items readable is

few-viewed : (most : ℕ) (view : ViewCreate) (items : Items) → view.select.items ≡ items → IsWritten most (CreateView view) → length (listed_items items) ≤ SELECT_ITEMS
few-viewed most view Star is written = omega arith
few-viewed most view (Listed items) is written = few_written_items most view items written is

-- any statement that can be read
pub statement_within : (statement : Statement) → IsReadable (Run statement) → IsStatementWithin statement
statement_within (Select select) readable = few-listed select select.items refl readable
statement_within (Insert table columns rows) readable = few_values table columns rows readable
statement_within _ readable = tt

-- the select of a CREATE VIEW, however long its text may be
pub written_view_within : (most : ℕ) (view : ViewCreate) → IsWritten most (CreateView view) → IsSelectWithin view.select
written_view_within most view written = few-viewed most view view.select.items refl written

-- so the one of a CREATE VIEW that can stand in a history
pub view_within : (view : ViewCreate) → IsReadable (Run (CreateView view)) → IsSelectWithin view.select
view_within = written_view_within STATEMENT_BYTES
