-- What is found among lent values that are seen as others.
use Rattle.std.proofs.Common.{◌≡◌, ◌+◌, length, nat_lt, not, sym, None, Bool, true, false, cond, ◌&&◌, ◌||◌, List, [], ◌∷◌, map, Option, Some, refl, ap, ◌∙◌, bytes_eq}
use Rattle.std.specs.Borrow.{Bor}
use Rattle.std.proofs.lemmas.List.{length-map}
use Rattle.std.specs.List.{find, list_any, position, position_or_len, prefix_len}
use Rattle.std.specs.Option.{option_map}
use Rattle.own_model.specs.declared.create.ColumnDef.{ColumnDef}
use Rattle.own_model.specs.declared.create.CreateTable.{CreateTable}
use Rattle.schema_model.specs.Columns.{NameBytes, columns_of, column_names, is_named}
use Rattle.schema_model.specs.Kinds.{gives_edge}
use Rattle.schema_model.specs.OnRules.{edge_on}
use Rattle.schema_model.specs.References.{reference_on, references_of}
use Rattle.schema_draft.specs.declared.draft.Reference.{Reference}
use Rattle.schema_draft.specs.Lent.{reference_seen}

-- the first that passes, seen, is the first whose view passes
pub find-map : {A B : Type 0} (passes : B → Bool) (seen : A → B) (items : List A) → option_map seen (find (λ item. passes (seen item)) items) ≡ find passes (map seen items)
find-map passes seen [] = refl
find-map {A} {B} passes seen (item ∷ items) = by (passes (seen item)) (find (λ item. passes (seen item)) items) (find passes (map seen items)) (find-map passes seen items)
  where
    by : (b : Bool) (rest : Option A) (found : Option B) → option_map seen rest ≡ found → option_map seen (cond b (Some item) rest) ≡ cond b (Some (seen item)) found
    by true rest found e = refl
    by false rest found e = e

-- one of them passes where one of their views does
pub list_any-map : {A B : Type 0} (passes : B → Bool) (seen : A → B) (items : List A) → list_any (λ item. passes (seen item)) items ≡ list_any passes (map seen items)
list_any-map passes seen [] = refl
list_any-map passes seen (item ∷ items) = ap (λ rest. passes (seen item) || rest) (list_any-map passes seen items)

-- how many at the front pass
prefix_len-map : {A B : Type 0} (passes : B → Bool) (seen : A → B) (items : List A) → prefix_len (λ item. passes (seen item)) items ≡ prefix_len passes (map seen items)
prefix_len-map passes seen [] = refl
prefix_len-map passes seen (item ∷ items) = ap (λ rest. cond (passes (seen item)) (1 + rest) 0) (prefix_len-map passes seen items)

-- the first passes at the same place
pub position-map : {A B : Type 0} (passes : B → Bool) (seen : A → B) (items : List A) → position (λ item. passes (seen item)) items ≡ position passes (map seen items)
position-map passes seen items =
    ap (λ place. cond (nat_lt place (length items)) (Some place) None) (prefix_len-map (λ item. not (passes item)) seen items)
    ∙ ap (λ len. cond (nat_lt (position_or_len passes (map seen items)) len) (Some (position_or_len passes (map seen items))) None) (sym (length-map items seen))

module _ (create : CreateTable) (references : List Reference) (whole : map reference_seen references ≡ references_of create) (column : NameBytes) where
  -- the reference on a column, among the references as they are lent
  pub reference_on-lent : option_map reference_seen (find (λ reference. bytes_eq reference.column.now column) references) ≡ reference_on create column
  reference_on-lent = find-map (λ reference. bytes_eq reference.column column) reference_seen references
      ∙ ap (find (λ reference. bytes_eq reference.column column)) whole

  -- and the edge
  pub edge_on-lent : option_map reference_seen (find (λ reference. gives_edge reference.refers.now.kind && bytes_eq reference.column.now column) references) ≡ edge_on create column
  edge_on-lent = find-map (λ reference. gives_edge reference.refers.kind && bytes_eq reference.column column) reference_seen references
      ∙ ap (find (λ reference. gives_edge reference.refers.kind && bytes_eq reference.column column)) whole

-- a column of this name, among the columns as they are lent
pub is_named-lent : (create : CreateTable) (columns : List (Bor ColumnDef)) → map (λ column. column.now) columns ≡ columns_of create → (name : NameBytes)
    → list_any (λ column. bytes_eq column.now.name name) columns ≡ is_named (column_names create) name
is_named-lent create columns whole name =
    list_any-map (λ column. bytes_eq column.name name) (λ column. column.now) columns
    ∙ ap (list_any (λ column. bytes_eq column.name name)) whole
    ∙ list_any-map (λ other. bytes_eq other name) (λ column. column.name) (columns_of create)
