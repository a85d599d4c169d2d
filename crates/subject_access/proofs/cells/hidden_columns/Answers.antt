use Rattle.std.proofs.Common.{false, ap, sym, ◌∙◌}
use Rattle.std.specs.Prelude.{not, ◌&&◌}
use Rattle.owner_model.proofs.ColumnSetLemmas.{set_of-none, set_of-same}
use Rattle.owner_model.specs.RuledColumns.{is_hidden}
use Rattle.subject_access.proofs.cells.hidden_columns.Goals as goal

-- in the subject's own row none is hidden
pub returns-then-own : goal.returns-then-own
returns-then-own c =
    set_of-none ∙ set_of-same (λ _. false) (λ column. not c.args.own && is_hidden c.args.edges.now c.args.by.now column)
    (λ column _. ap (λ own. not own && is_hidden c.args.edges.now c.args.by.now column) (sym c.if-own.true))

pub returns-else-own : goal.returns-else-own
returns-else-own c =
    c.hidden.ensures
    ∙ set_of-same (is_hidden c.args.edges.now c.args.by.now) (λ column. not c.args.own && is_hidden c.args.edges.now c.args.by.now column)
    (λ column _. ap (λ own. not own && is_hidden c.args.edges.now c.args.by.now column) (sym c.if-own.false))
