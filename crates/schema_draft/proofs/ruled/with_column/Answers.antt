use Rattle.std.proofs.Common.{ap, ◌∙◌, bit_or, ◌*◌, ◌%◌, ◌^◌}
use Rattle.own_base.specs.declared.number.ColumnSet.{ColumnSet}
use Rattle.schema_draft.proofs.RuledSets.{set_of-past, set_of-unwanted, set_of-wanted}
use Rattle.schema_draft.proofs.ruled.with_column.Goals as goal
use Rattle.schema_draft.proofs.ruled.with_column.Goals.{else-wanted-via-then-wanted+else-number-lt-TABLE_COLUMNS, else-wanted-via-else-wanted}

pub returns-then-number-lt-TABLE_COLUMNS : goal.returns-then-number-lt-TABLE_COLUMNS
returns-then-number-lt-TABLE_COLUMNS c = λ had is.
    ap (λ (set : ColumnSet). record { 0 = bit_or set.0 (1 * 2 ^ c.args.number % 2 ^ 32) }) is
    ∙ set_of-wanted had c.args.wanted c.args.number c.if-wanted.true c.if-number-lt-TABLE_COLUMNS.true

pub returns-else-wanted : goal.returns-else-wanted
returns-else-wanted c = λ had is. is ∙ elim c.else-wanted.branch [
  | else-wanted-via-then-wanted+else-number-lt-TABLE_COLUMNS w ↦ set_of-past had c.args.wanted c.args.number w.if-number-lt-TABLE_COLUMNS.false
  | else-wanted-via-else-wanted w ↦ set_of-unwanted had c.args.wanted c.args.number w.if-wanted.false
]
