-- What is held stands for a database with one table or view more.
use Rattle.std.proofs.Common.{◌≡◌, List, [], map, refl, sym, ◌∙◌, ap}
use Rattle.std.specs.Prelude.{None, is_some}
use Rattle.own_base.specs.declared.row_name.RowName.{RowName}
use Rattle.own_model.specs.declared.create.CreateTable.{CreateTable}
use Rattle.own_model.specs.declared.create.CreateView.{CreateView}
use Rattle.own_model.specs.declared.schema.Edge.{Edge}
use Rattle.own_model.specs.Db.{Db, IsOrdered}
use Rattle.own_model.specs.Stored.{row_named}
use Rattle.owner_model.specs.Joins.{Joins, row_of}
use Rattle.state_model.proofs.CreatedSchema.{owner_schema-with_view}
use Rattle.page_model.specs.Found.{found}
use Rattle.schema_model.specs.OwnerSchema.{IsOwnerSchema}
use Rattle.state_model.specs.Create.{create, create_view, with_view}
use Rattle.state_model.proofs.TableRows.{alike-create}
use Rattle.state_model.proofs.WellFormedLemmas.{ordered-create, ordered-create_view}
use Rattle.subject_model.specs.Paths.{is_subject_row}
use Rattle.subject_model.proofs.SamePaths.{AreAlike, owners-alike, reach-alike}
use Rattle.link_model.specs.Whose.{as_subject}
use Rattle.owner_index.specs.Entry.{Entry}
use Rattle.owner_index.specs.declared.which.Which.TheVariants.{Owners, Reach}
use Rattle.owner_index.specs.Held.{StandsFor}
use Rattle.owner_index.proofs.TablesLemmas.{listed_are}

-- nobody has a row where none is there
pub none_stands : (db : Db) → IsOrdered db → IsOwnerSchema db.schema → ((name : RowName) → row_of db name ≡ None) → StandsFor db []
unfolding found
none_stands db ordered owner none =
    record {
      owners = λ name. sym (ap (map as_subject) ((listed_are Owners db ordered owner).none name (ap is_some (none name))));
      reach = λ name. sym (ap (map as_subject) ((listed_are Reach db ordered owner).none name (ap is_some (none name))));
    }

-- databases that are alike have the same subjects
stands_alike : (one other : Db) (entries : List Entry) → AreAlike one other → IsOrdered one → IsOrdered other → IsOwnerSchema one.schema → IsOwnerSchema other.schema → StandsFor one entries → StandsFor other entries
stands_alike one other entries alike ordered also owner owner_also stands =
    record {
      owners = λ name. stands.owners name ∙ ap (map as_subject) (sym (owners-alike one other alike ordered also owner owner_also name));
      reach = λ name. stands.reach name ∙ ap (map as_subject) (sym (reach-alike one other alike ordered also owner owner_also name));
    }

pub stands-create : (db : Db) (table : CreateTable) (entries : List Entry) → IsOrdered db → IsOwnerSchema db.schema → IsOwnerSchema (create db table).schema → StandsFor db entries → StandsFor (create db table) entries
stands-create db table entries ordered owner also stands =
    stands_alike db (create db table) entries (alike-create db table ordered) ordered (ordered-create db table ordered) owner also stands

module _ (db : Db) (view : CreateView) where
  joins-view : (lower : RowName) (edge : Edge) (upper : RowName) → Joins db lower edge upper → Joins (create_view db view) lower edge upper
  unfolding create_view with_view row_named
  joins-view lower edge upper is =
      record { among = is.among; of_lower = is.of_lower; of_upper = is.of_upper; lower_there = is.lower_there; upper_there = is.upper_there; names = is.names }

  joined-view : (lower : RowName) (edge : Edge) (upper : RowName) → Joins (create_view db view) lower edge upper → Joins db lower edge upper
  unfolding create_view with_view row_named
  joined-view lower edge upper is =
      record { among = is.among; of_lower = is.of_lower; of_upper = is.of_upper; lower_there = is.lower_there; upper_there = is.upper_there; names = is.names }

  subject-view : (name : RowName) → is_subject_row (create_view db view) name ≡ is_subject_row db name
  unfolding create_view with_view row_named is_subject_row
  subject-view name = refl

  alike-view : AreAlike db (create_view db view)
  unfolding create_view with_view
  alike-view = record { named = refl; subject = subject-view; joins = joins-view; joined = joined-view }

  owner-view : IsOwnerSchema db.schema → IsOwnerSchema (create_view db view).schema
  unfolding create_view
  owner-view owner = owner_schema-with_view db.schema view owner

  pub stands-view : (entries : List Entry) → IsOrdered db → IsOwnerSchema db.schema → StandsFor db entries → StandsFor (create_view db view) entries
  stands-view entries ordered owner stands =
      stands_alike db (create_view db view) entries alike-view ordered (ordered-create_view db view ordered) owner (owner-view owner) stands
