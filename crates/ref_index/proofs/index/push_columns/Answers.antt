use Rattle.std.proofs.Common.{◌≡◌, [], ◌∷◌, ◌++◌, ap, refl, length}
use Rattle.std.specs.Prelude.{false}
use Rattle.std.proofs.lemmas.Option.{slice_get_read}
use Rattle.own_base.specs.declared.number.ColNo.{ColNo}
use Rattle.link_model.specs.Indexed.{is_indexed}
use Rattle.ref_index.proofs.TableLemmas.{column_more, column_passed}
use Rattle.ref_index.proofs.index.push_columns.Goals as goal
use Rattle.ref_index.proofs.index.push_columns.Goals.{then-is_indexed+in_ok-push, else-is_indexed}

-- The column has an index now, or isn't indexed.
pub loop-number-preserved : goal.loop-number-preserved
loop-number-preserved c =
    let columns = c.args.columns.now in
    let number = c.loop-number.number in
    let before = c.args.made.now.items in
    elim c.if-is_indexed.branch [
      | then-is_indexed+in_ok-push w ↦
          let pushed : c.if-is_indexed.made.items ≡ c.loop-number.made.items ++ w.new.result ∷ [] = rw w.made-is w.in_ok-push.ensures.items in
          column_more c.args.table columns before number c.loop-number.made.items c.if-is_indexed.made.items w.new.result pushed w.new.ensures.table (ap (λ (column : ColNo). column.0) w.new.ensures.column) w.new.ensures.pairs c.loop-number.invariant
      | else-is_indexed w ↦
          let plain : is_indexed c.index-columns-number.result ≡ false = cc in
          let here = slice_get_read columns (length columns) number c.index-columns-number.result refl c.loop-number-test.true c.index-columns-number.is in
          rw w.made-is (column_passed c.args.table columns before number c.loop-number.made.items c.index-columns-number.result here plain c.loop-number.invariant)
    ]
