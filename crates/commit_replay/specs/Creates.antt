-- The commits that are CREATEs, and what is read of their texts.
use Rattle.std.specs.Prelude.{◌≡◌, ℕ, List, Bool, true, false, not, Option, None, Some}
use Rattle.own_model.specs.declared.schema.CreateText.{CreateText}
use Rattle.own_model.specs.declared.statement.Statement.{Statement}
use Rattle.own_model.specs.declared.statement.Statement.TheVariants as statement
use Rattle.state_model.specs.Created.{Create, statement_of}
use Rattle.disk_model.specs.declared.commit.Commit.{Commit}
use Rattle.disk_model.specs.declared.commit.Commit.TheVariants.{CreateTable, CreateView}
use Rattle.disk_model.specs.TextOf.{IsTextOf}

-- the commit of a CREATE, of a view or of a table, by its text
abbrev pub commit_of : Bool → List ℕ → Commit
commit_of true text = CreateView text
commit_of false text = CreateTable text

-- whether a statement is a CREATE of a view, or of a table
abbrev pub is_create_of : Bool → Statement → Bool
is_create_of view (statement.CreateTable table) = not view
is_create_of view (statement.CreateView of) = view
is_create_of view _ = false

-- a CREATE whose canonical text it is, and the statement of that
pub record IsRead (text : CreateText) (found : Statement) : Type 0 where
  pub create : Create
  pub text_of : IsTextOf create text
  pub found_is : found ≡ statement_of create

-- whether a statement is that of the CREATE whose text it is; else no CREATE has it
abbrev pub TellsOf : CreateText → Statement → Bool → Type 0
TellsOf text found true = IsRead text found
TellsOf text found false = (create : Create) → ¬ IsTextOf create text

-- the statement of the CREATE whose text it is; or there is none
abbrev pub Reads : CreateText → Option Statement → Type 0
Reads text (Some found) = IsRead text found
Reads text None = (create : Create) → ¬ IsTextOf create text
