-- One name to unfold where a proof computes with a history that is written out.
use Rattle.std.specs.Fmt.{digits}
use Rattle.own_model.specs.Db.{key_of}
use Rattle.own_model.specs.Stored.{row_named}
use Rattle.owner_model.specs.ColumnSets.{set_of}
use Rattle.owner_model.specs.Cycle.{cycle_of}
use Rattle.owner_model.specs.Leads.{leads}
use Rattle.text_model.specs.Canonical.{kind_word, ref_kind_word, refers_words, attr_words, column_def_words, part_words, create_words, what_words, item_words, items_words, join_words, order_words, select_words, view_words, tuple_words, expr_words, set_words, statement_words, canonical}
use Rattle.text_model.specs.Condition.{cmp_word, operand_words}
use Rattle.text_model.specs.Lines.{reply_text, row_line, got_line, lines_below, reply_lines}
use Rattle.text_model.specs.Refused.{limit_name, limit_number, held_key, refusal_text}
use Rattle.text_model.specs.Shown.{shown_text, shown_value, shown_key, shown_cell}
use Rattle.text_model.specs.Words.{spaced, column_words, literal_word, key_word}
use Rattle.schema_model.specs.Explained.{class_word, edge_line, explained}
use Rattle.schema_model.specs.NewEdges.{new_edge, new_edges}
use Rattle.schema_model.specs.NewTable.{new_column, new_table}
use Rattle.schema_model.specs.Refusal.{broken, refusal_of}
use Rattle.schema_model.specs.WithTable.{with_table}
use Rattle.schema_model.specs.rules.ColumnsNotToRule.{columns_not_to_rule}
use Rattle.schema_model.specs.rules.MisplacedRules.{misplaced_rules}
use Rattle.schema_model.specs.rules.MissingColumns.{missing_columns}
use Rattle.schema_model.specs.rules.MissingTables.{missing_tables}
use Rattle.schema_model.specs.rules.NotOnePrimaryKey.{not_one_primary_key}
use Rattle.schema_model.specs.rules.OwnedByPublic.{owned_by_public}
use Rattle.schema_model.specs.rules.OwnedSubjects.{owned_subjects}
use Rattle.schema_model.specs.rules.OwnersWithoutOwner.{owners_without_owner}
use Rattle.schema_model.specs.rules.PastTheKey.{past_the_key}
use Rattle.schema_model.specs.rules.PrimaryKeysThatRefer.{primary_keys_that_refer}
use Rattle.schema_model.specs.rules.RepeatedColumns.{repeated_columns}
use Rattle.schema_model.specs.rules.RowsStruckByAccess.{rows_struck_by_access}
use Rattle.schema_model.specs.rules.SecondReferences.{second_references}
use Rattle.schema_model.specs.rules.UnequalKinds.{unequal_kinds}
use Rattle.query_model.specs.BoundStatement.{faults, meaning, bound_statement}
use Rattle.query_model.specs.BoundView.{view_faults, new_view}
use Rattle.query_model.specs.Expression.{value_of}
use Rattle.query_model.specs.Footprints.{footprint_of}
use Rattle.query_model.specs.Order.{value_cmp, sorted}
use Rattle.query_model.specs.Query.{grouped, selected, view_rows, query_rows}
use Rattle.query_model.specs.Refused.{lowest}
use Rattle.query_model.specs.Scope.{column_meant}
use Rattle.query_model.specs.SelectFaults.{select_scope, select_faults}
use Rattle.query_model.specs.SelectMeaning.{bound_select}
use Rattle.query_model.specs.Truth.{compared}
use Rattle.query_model.specs.WriteFaults.{insert_faults, update_faults, delete_faults, gdpr_faults}
use Rattle.query_model.specs.WriteMeaning.{put_row, bound_sets}
use Rattle.subject_model.specs.Forget.{loses, left_from, forget, removed, changed}
use Rattle.subject_model.specs.Get.{get}
use Rattle.subject_model.specs.Named.{rows_from}
use Rattle.subject_model.specs.Owners.{owns, reaches, by, owners}
use Rattle.subject_model.specs.Paths.{is_subject_row, joins, steps_of, climbs, paths, end_of}
use Rattle.subject_model.specs.Stays.{struck, stays}
use Rattle.state_model.specs.Create.{create, with_view, create_view}
use Rattle.state_model.specs.Fault.{over_rows, unique_faults, reference_faults, owner_faults, fault}
use Rattle.state_model.specs.Net.{net_from, net}
use Rattle.state_model.specs.Payload.{payload_bytes}
use Rattle.state_model.specs.Same.{is_same_value, is_same_row}
use Rattle.state_model.specs.CommitRefusal.{commit_refusal}
use Rattle.state_model.specs.Weight.{weight}
use Rattle.run_model.specs.Insert.{with_row, with_tuple, with_tuples}
use Rattle.run_model.specs.Items.{items_of, items_of_all}
use Rattle.run_model.specs.Run.{insert, update, delete, show_subject, forget_subject, run_bound, create_table, add_view, run}
use Rattle.run_model.specs.Update.{updated, updated_rows, rows_left, update_faults as run_update_faults}
use Rattle.history_model.specs.Held.{held, holder, lowest_other}
use Rattle.history_model.specs.History.{dooms, flat, world}
use Rattle.history_model.specs.Reply.{answer}
use Rattle.history_model.specs.World.{after_all}
use Rattle.history_tests.specs.Told.{entries, told_from}

-- `unfolding history` lets `refl` compute what is replied
unfoldable pub history : Unit {0}
unfolding digits key_of row_named set_of cycle_of leads kind_word ref_kind_word refers_words attr_words column_def_words part_words create_words what_words item_words items_words join_words order_words select_words view_words tuple_words expr_words set_words statement_words canonical cmp_word operand_words reply_text row_line got_line lines_below reply_lines limit_name limit_number held_key refusal_text shown_text shown_value shown_key shown_cell spaced column_words literal_word key_word class_word edge_line explained new_edge new_edges new_column new_table broken refusal_of with_table columns_not_to_rule misplaced_rules missing_columns missing_tables not_one_primary_key owned_by_public owned_subjects owners_without_owner past_the_key primary_keys_that_refer repeated_columns rows_struck_by_access second_references unequal_kinds faults meaning bound_statement view_faults new_view value_of footprint_of value_cmp sorted grouped selected view_rows query_rows lowest column_meant select_scope select_faults bound_select compared insert_faults update_faults delete_faults gdpr_faults put_row bound_sets loses left_from forget removed changed get rows_from owns reaches by owners is_subject_row joins steps_of climbs paths end_of struck stays create with_view create_view over_rows unique_faults reference_faults owner_faults fault net_from net payload_bytes is_same_value is_same_row commit_refusal weight with_row with_tuple with_tuples items_of items_of_all insert update delete show_subject forget_subject run_bound create_table add_view run updated updated_rows rows_left run_update_faults held holder lowest_other dooms flat world answer after_all entries told_from
history = tt
