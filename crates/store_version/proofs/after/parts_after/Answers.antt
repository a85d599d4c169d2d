use Rattle.std.proofs.Common.{◌≡◌, ◌∙◌, ◌<◌, ◌≤◌, ◌∷◌, [], List, ap, arith, length, map, subst, sym}
use Rattle.std.specs.Prelude.{Some}
use Rattle.std.proofs.lemmas.Bool.Decides.{nat_tests}
use Rattle.std.proofs.lemmas.List.{get_or-map, length-map, map-append}
use Rattle.std.proofs.lemmas.Option.{slice_get-get_or}
use Rattle.state_model.specs.Put.{put_rows}
use Rattle.own_model.specs.declared.schema.Schema.{Schema}
use Rattle.own_model.specs.declared.schema.TableDef.{TableDef}
use Rattle.table_part.specs.Part.{Part, rows_of}
use Rattle.table_part.proofs.KeyLemmas.{changes_keyed}
use Rattle.store_version.specs.Parts.{AreTheirParts}
use Rattle.store_version.proofs.PartsAfter.{keys_more, put_all, put_more}
use Rattle.store_version.proofs.TheirParts.{part-key, parts-count}
use Rattle.store_version.proofs.after.parts_after.Goals as goal

pub part_after-requires-clause-key : goal.part_after-requires-clause-key
part_after-requires-clause-key c =
    let tables = c.items-tables.result.now in
    let same : tables ≡ c.args.catalog.now.schema.tables = c.items-tables.ensures ∙ ap (λ (schema : Schema). schema.tables) c.schema.ensures.same in
    let inside : c.loop-number.number < length tables = grind (arith, nat_tests) in
    let are = subst (λ (tables : List TableDef). AreTheirParts tables c.args.parts.now) (sym same) c.requires.parts in
    let at = slice_get-get_or tables c.loop-number.number c.index-tables-number.result inside ∙ ap (λ (table : TableDef). Some table) (sym c.index-tables-number.is) in
    part-key tables c.args.parts.now c.loop-number.number c.index-tables-number.result c.index-parts-number.result are at c.index-parts-number.is

pub part_after-requires-clause-keyed : goal.part_after-requires-clause-keyed
part_after-requires-clause-keyed c =
    let tables = c.items-tables.result.now in
    let same : tables ≡ c.args.catalog.now.schema.tables = c.items-tables.ensures ∙ ap (λ (schema : Schema). schema.tables) c.schema.ensures.same in
    let inside : c.loop-number.number < length tables = grind (arith, nat_tests) in
    let at = slice_get-get_or tables c.loop-number.number c.index-tables-number.result inside ∙ ap (λ (table : TableDef). Some table) (sym c.index-tables-number.is) in
    changes_keyed tables c.loop-number.number c.index-tables-number.result c.args.changes.now at (rw same c.requires.may.theirs)

pub part_after-requires-clause-once : goal.part_after-requires-clause-once
part_after-requires-clause-once c = c.requires.may.once c.loop-number.number

-- one part more
pub loop-number-preserved : goal.loop-number-preserved
loop-number-preserved c =
    let tables = c.items-tables.result.now in
    let n = c.loop-number.number in
    let table = c.index-tables-number.result in
    let part = c.index-parts-number.result in
    let new = c.in_ok-part.part in
    let rows = map rows_of c.args.parts.now in
    let same : tables ≡ c.args.catalog.now.schema.tables = c.items-tables.ensures ∙ ap (λ (schema : Schema). schema.tables) c.schema.ensures.same in
    let inside : n < length tables = grind (arith, nat_tests) in
    let are = subst (λ (tables : List TableDef). AreTheirParts tables c.args.parts.now) (sym same) c.requires.parts in
    let counted : n < length c.args.parts.now = omega (arith, parts-count tables c.args.parts.now are) in
    let within : n < length rows = omega (arith, length-map c.args.parts.now rows_of) in
    let own = sym (get_or-map rows_of c.args.parts.now n part (rows_of part) counted ∙ ap rows_of (sym c.index-parts-number.is)) in
    record {
      keys = rw c.in_ok-push.ensures.items (rw (map-append (λ (part : Part). part.key) c.loop-number.after.items (new ∷ []))
          (keys_more n tables table new.key (map (λ (part : Part). part.key) c.loop-number.after.items) (map (λ (table : TableDef). table.key) tables) inside c.index-tables-number.is c.in_ok-part.ensures.key c.loop-number.invariant.keys));
      rows = rw c.in_ok-push.ensures.items (rw (map-append rows_of c.loop-number.after.items (new ∷ []))
          (put_more n tables table c.args.changes.now rows (rows_of part) (rows_of new) (map rows_of c.loop-number.after.items) (put_rows tables c.args.changes.now rows)
          inside within c.index-tables-number.is own c.in_ok-part.ensures.rows c.loop-number.invariant.rows));
    }

pub returns-clause-rows : goal.returns-clause-rows
returns-clause-rows c =
    let tables = c.items-tables.result.now in
    let same : tables ≡ c.args.catalog.now.schema.tables = c.items-tables.ensures ∙ ap (λ (schema : Schema). schema.tables) c.schema.ensures.same in
    let past : length tables ≤ c.loop-number.number = grind (arith, nat_tests) in
    put_all c.loop-number.number tables c.args.changes.now (map rows_of c.args.parts.now) (map rows_of c.loop-number.after.items)
    (put_rows tables c.args.changes.now (map rows_of c.args.parts.now)) past c.loop-number.invariant.rows
    ∙ ap (λ tables. put_rows tables c.args.changes.now (map rows_of c.args.parts.now)) same
