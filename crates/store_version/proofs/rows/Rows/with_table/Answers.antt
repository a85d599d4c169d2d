use Rattle.std.proofs.Common.{◌∙◌, List, [], ◌∷◌, ◌++◌, ap, arith, length, subst}
use Rattle.own_model.specs.declared.schema.TableDef.{TableDef}
use Rattle.own_model.specs.Db.{Db}
use Rattle.annot_schema.specs.Created.{Created, IsSound, created_with}
use Rattle.ref_index.specs.Stands.{Stands}
use Rattle.table_part.specs.Part.{Part}
use Rattle.store_version.specs.Added.{db_with}
use Rattle.store_version.proofs.Indexed.{columns-few, parts-added, table-added, table-stands}
use Rattle.store_version.proofs.rows.Rows.with_table.Goals as goal

pub overflow_cast-number : goal.overflow_cast-number
overflow_cast-number c = let most = c.schema.ensures.sound.within.tables in rw (c.items.ensures, c.schema.ensures.same) (omega arith)

pub with_table-requires : goal.with_table-requires
with_table-requires c =
    columns-few c.args.self.now.schema c.args.admitted
    (subst IsSound (ap (λ (catalog : Created). catalog.schema) c.deref.ensures ∙ ap (λ (db : Db). db.schema) c.self.view_is) c.schema.ensures.sound) c.requires.admissible

-- the table comes last, and its columns have no entry
pub invariant_of-result : goal.invariant_of-result
invariant_of-result c =
    let catalog = c.self.inside.catalog.value in
    let after = c.in_ok-catalog-2.catalog.value in
    let parts = c.self.inside.parts.items in
    let news = c.push.new.self.items in
    let part = c.new-part.result in
    let after_is = c.in_ok-catalog-2.ensures.ok ∙ (c.in_ok-catalog.ensures.whole ∙ ap (λ (catalog : Created). created_with catalog c.args.admitted c.args.text) c.deref-2.ensures) in
    let copies = c.in_ok-parts.ensures ∙ c.deref-3.ensures.value in
    let news_is = c.in_ok-push.ensures.items ∙ ap (λ (copies : List Part). copies ++ part ∷ []) copies in
    let number = ap (λ (tables : List TableDef). length tables) (c.items.ensures ∙ ap (λ schema. schema.tables) (c.schema.ensures.same ∙ ap (λ (catalog : Created). catalog.schema) c.deref.ensures)) ∙ ap (λ (db : Db). length db.schema.tables) c.self.view_is in
    let stands = subst (λ db. Stands db c.self.inside.index) c.self.view_is c.self.invariant.1 in (
      parts-added catalog after c.args.admitted c.args.text parts news part c.self.invariant.0 after_is news_is c.new-part.ensures.key,
      table-stands c.args.self.now _ c.args.admitted c.args.text _ (table-added catalog after c.args.admitted c.args.text parts news part c.args.self.now after_is news_is c.new-part.ensures.pages c.self.view_is)
          (λ adds. c.in_ok-index.ensures c.args.self.now (db_with c.args.self.now c.args.admitted c.args.text) c.requires.ordered stands adds number),
    )
