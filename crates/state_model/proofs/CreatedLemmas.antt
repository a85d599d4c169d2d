-- A CREATE that is admitted leaves a database whose schema is the one that its creates give.
use Rattle.std.proofs.Common.{◌≡◌, ◌≤◌, ℕ, List, [], ◌∷◌, ◌++◌, fold, Bool, true, false, refl, ap, sym, ◌∙◌, arith}
use Rattle.std.specs.Prelude.{Option, Some, None, ◌&&◌, find, if◌then◌else◌}
use Rattle.std.specs.List.{AllByRecursion}
use Rattle.std.specs.Option.{option_or}
use Rattle.std.proofs.lemmas.List.{map-append}
use Rattle.std.proofs.lemmas.List.Sums.{fold-append}
use Rattle.own_model.specs.declared.create.CreateTable.{CreateTable}
use Rattle.own_model.specs.declared.create.CreateView.{CreateView}
use Rattle.own_model.specs.declared.limit.TheConstants.{STATEMENT_BYTES}
use Rattle.own_model.specs.declared.refusal.Refusal.{Refusal}
use Rattle.own_model.specs.declared.request.Request.TheVariants.{Run}
use Rattle.own_model.specs.declared.schema.Schema.{Schema}
use Rattle.own_model.specs.declared.statement.Statement.{Statement}
use Rattle.own_model.specs.Db.{Db, Row, empty}
use Rattle.own_model.specs.Stored.{holds_rows}
use Rattle.schema_model.specs.Kinds.{is_owns}
use Rattle.schema_model.specs.References.{Reference, references_of}
use Rattle.schema_model.specs.Refusal.{broken, closed, first_broken, owned_rows, past_limits, refusal_of, taken}
use Rattle.schema_model.proofs.Places.{all-append}
use Rattle.query_model.specs.BoundView.{view_faults}
use Rattle.query_model.specs.Refused.{lowest}
use Rattle.grammar_model.specs.Readable.{IsReadable, IsWritten}
use Rattle.state_model.specs.Create.{create, create_view}
use Rattle.state_model.specs.Created.{AreAdmitted, Create, IsAdmitted, IsCreated, IsReadableCreate, OfTable, OfView, statement_of, text_of, with_create, without_rows}
use Rattle.state_model.proofs.CanonicalBytes.{canonical-short}

-- where there is no cause of five, there is none without the fourth
without_fourth : (first second third fourth other fifth : Option Refusal)
    → option_or first (option_or second (option_or third (option_or fourth fifth))) ≡ None → other ≡ None
    → option_or first (option_or second (option_or third (option_or other fifth))) ≡ None
without_fourth (Some why) second third fourth other fifth is none = is
without_fourth None (Some why) third fourth other fifth is none = is
without_fourth None None (Some why) fourth other fifth is none = is
without_fourth None None None (Some why) other fifth is none = cc
without_fourth None None None None other fifth is none = rw none is

-- no reference names a table that holds rows, where none does
none_owned : (is_owner : Bool) (why : Reference) (rest : Option Reference) → rest ≡ None → (if is_owner && false then Some why else rest) ≡ None
none_owned true why rest none = none
none_owned false why rest none = none

none_found : (references : List Reference) → find (λ (reference : Reference). is_owns reference.refers.kind && false) references ≡ None
none_found [] = refl
none_found (first ∷ rest) = none_owned (is_owns first.refers.kind) first _ (none_found rest)

owned-without_rows : (schema : Schema) (create : CreateTable) → owned_rows schema without_rows create ≡ None
owned-without_rows schema create = rw (none_found (references_of create)) refl

-- a CREATE TABLE that is admitted over rows is admitted without them
pub admitted-without_rows : (schema : Schema) (holds : ℕ → Bool) (create : CreateTable) → refusal_of schema holds create ≡ None
    → refusal_of schema without_rows create ≡ None
unfolding refusal_of
admitted-without_rows schema holds create admitted =
    without_fourth (taken schema create) (first_broken 1 (broken schema create)) (closed schema create) (owned_rows schema holds create)
    (owned_rows schema without_rows create) (past_limits schema create) admitted (owned-without_rows schema create)

-- what is written with few bytes is written with no more than many
written-longer : (most more : ℕ) (found : Statement) → most ≤ more → IsWritten most found → IsWritten more found
written-longer most more found within written =
    let short = written.short in
    record { text = written.text; short = omega arith; utf8 = written.utf8; terminals = written.terminals; cut = written.cut; spells = written.spells }

-- a CREATE that can stand in a history is one that can be read
pub readable-create : (create : Create) → IsReadable (Run (statement_of create)) → IsReadableCreate create
readable-create create readable =
    let less = canonical-short create STATEMENT_BYTES readable in
    record { written = written-longer _ _ (statement_of create) (omega arith) readable; short = omega arith }

-- a CREATE more that is admitted after the others
admitted-append : (schema : Schema) (creates : List Create) (last : Create) → AreAdmitted schema creates
    → IsAdmitted (fold with_create schema creates) last → AreAdmitted schema (creates ++ last ∷ [])
admitted-append schema [] last all admitted = (admitted, tt)
admitted-append schema (create ∷ creates) last all admitted = (all.0, admitted-append (with_create schema create) creates last all.1 admitted)

-- a database with its text and what it gives
pub created-append : (db after : Db) (last : Create) → IsCreated db → IsReadableCreate last → IsAdmitted db.schema last
    → after.creates ≡ db.creates ++ text_of last ∷ [] → after.schema ≡ with_create db.schema last → IsCreated after
created-append db after last is readable admitted text gives = record {
  creates = is.creates ++ last ∷ [];
  readable = all-append IsReadableCreate is.creates (last ∷ []) is.readable (readable, tt);
  texts = text ∙ (ap (λ texts. texts ++ text_of last ∷ []) is.texts ∙ sym (map-append text_of is.creates (last ∷ [])));
  admitted = admitted-append empty.schema is.creates last is.admitted (rw (← is.schema) admitted);
  schema = gives ∙ (ap (λ schema. with_create schema last) is.schema ∙ sym (fold-append with_create empty.schema is.creates (last ∷ [])));
}

-- a table more
pub created-create : (db : Db) (table : CreateTable) → IsCreated db → IsReadable (Run (statement_of (OfTable table)))
    → refusal_of db.schema (holds_rows db.rows) table ≡ None → IsCreated (create db table)
unfolding create
created-create db table is readable admitted =
    created-append db _ (OfTable table) is (readable-create (OfTable table) readable) (admitted-without_rows db.schema _ table admitted) refl refl

-- a view more
pub created-create_view : (db : Db) (view : CreateView) → IsCreated db → IsReadable (Run (statement_of (OfView view)))
    → lowest (view_faults db.schema view) ≡ None → IsCreated (create_view db view)
unfolding create_view
created-create_view db view is readable admitted =
    created-append db _ (OfView view) is (readable-create (OfView view) readable) admitted refl refl

-- other rows
pub created-rows : (db : Db) (rows : List (List Row)) → IsCreated db → IsCreated (record db { rows = rows })
created-rows db rows is = record { creates = is.creates; readable = is.readable; texts = is.texts; admitted = is.admitted; schema = is.schema }

-- the empty database
pub created-empty : IsCreated empty
created-empty = record { creates = []; readable = tt; texts = refl; admitted = tt; schema = refl }

-- What the empty schema has, and what each CREATE that is admitted keeps, the schema of such creates has.
module _ (P : Schema → Type 0) (kept : (schema : Schema) (create : Create) → P schema → IsReadableCreate create → IsAdmitted schema create → P (with_create schema create)) where
  kept-fold : (schema : Schema) (creates : List Create) → P schema → AllByRecursion IsReadableCreate creates → AreAdmitted schema creates → P (fold with_create schema creates)
  kept-fold schema [] has readable admitted = has
  kept-fold schema (create ∷ creates) has readable admitted =
      kept-fold (with_create schema create) creates (kept schema create has readable.0 admitted.0) readable.1 admitted.1

  pub kept-created : P empty.schema → (db : Db) → IsCreated db → P db.schema
  kept-created first db is = rw is.schema (kept-fold empty.schema is.creates first is.readable is.admitted)
