-- How many bytes a payload has at most.
use Rattle.std.proofs.Common.{ℕ, ◌+◌, ◌*◌, ◌≤◌, ◌<◌, ◌^◌, List, [], ◌∷◌, length, length-append, ap, arith}
use Rattle.std.specs.Prelude.{Option, Some, None}
use Rattle.std.specs.List.{AllByRecursion, flat_map}
use Rattle.std.proofs.lemmas.List.Concat.{flat_map-cons}
use Rattle.own_base.specs.declared.row_name.RowName.{RowName}
use Rattle.own_base.specs.declared.value.Value.{Value}
use Rattle.own_base.specs.declared.value.Value.TheVariants.{Null, Int, Text, Sum}
use Rattle.own_model.specs.declared.limit.TheConstants.{PAYLOAD_BYTES, TABLE_COLUMNS, TEXT_BYTES}
use Rattle.own_model.specs.Db.{Row}
use Rattle.disk_model.specs.declared.commit.Commit.{Commit}
use Rattle.disk_model.specs.declared.commit.Commit.TheVariants.{CreateTable, CreateView, Changes, Forget}
use Rattle.disk_model.specs.declared.commit.Put.{Put}
use Rattle.disk_model.specs.Bounds.{IsBounded, IsShortName, IsShortPut, IsShortRow, IsShortState, IsShortValue}
use Rattle.disk_model.specs.Spelling.{list_spelling, name_spelling, put_spelling, row_spelling, state_spelling, value_spelling}
use Rattle.disk_model.specs.Value.{as_value}
use Rattle.rec_codec.specs.Encodable.{IsEncodable}
use Rattle.rec_codec.specs.Framed.{payload_length}

abbrev value_most : ℕ
value_most = 5 + TEXT_BYTES

abbrev row_most : ℕ
row_most = 4 + value_most * TABLE_COLUMNS

abbrev put_most : ℕ
put_most = 4 + value_most + (1 + row_most)

value_few : (x : Value) → IsShortValue x → length (value_spelling x) ≤ value_most
value_few Null short = omega arith
value_few (Int number) short = omega arith
value_few (Text text) short = omega arith
value_few (Sum number) short = omega arith

module _ {A : Type 0} (spelling : A → List ℕ) (Short : A → Type 0) (most : ℕ) (few : (x : A) → Short x → length (spelling x) ≤ most) where
  items_few : (xs : List A) → AllByRecursion Short xs → length (flat_map spelling xs) ≤ most * length xs
  items_few [] all = omega arith
  items_few (x ∷ xs) all =
      let own = few x all.0 in
      let later = items_few xs all.1 in
      let both = ap length (flat_map-cons spelling x xs) in
      let sum = length-append (spelling x) (flat_map spelling xs) in
      omega arith

row_few : (x : Row) → IsShortRow x → length (row_spelling x) ≤ row_most
row_few x short =
    let values = items_few value_spelling IsShortValue value_most value_few x short.values in
    let long = short.few in
    omega arith

state_few : (x : Option Row) → IsShortState x → length (state_spelling x) ≤ 1 + row_most
state_few None short = omega arith
state_few (Some x) short = let own = row_few x short in omega arith

name_few : (x : RowName) → IsShortName x → length (name_spelling x) ≤ 4 + value_most
name_few x short = let own = value_few (as_value x.key) short in omega arith

put_few : (x : Put) → IsShortPut x → length (put_spelling x) ≤ put_most
put_few x short =
    let name = name_few x.name short.name in
    let state = state_few x.after short.after in
    let both = length-append (name_spelling x.name) (state_spelling x.after) in
    omega arith

pub short_changes : (puts : List Put) → IsBounded (Changes puts) → length (list_spelling put_spelling puts) < 2 ^ 63
short_changes puts bounded = let each = items_few put_spelling IsShortPut put_most put_few puts bounded.2 in let count = bounded.0 in omega arith

pub short_name : (name : RowName) → IsShortName name → length (name_spelling name) < 2 ^ 64
short_name name short = let own = name_few name short in omega arith

-- where the payload isn't too big, its text isn't too long
pub bounded : (commit : Commit) → IsEncodable commit → payload_length commit ≤ PAYLOAD_BYTES → IsBounded commit
bounded (CreateTable x) encodable few = omega arith
bounded (CreateView x) encodable few = omega arith
bounded (Changes puts) encodable few = encodable
bounded (Forget x) encodable few = encodable

pub encodable : (commit : Commit) → IsBounded commit → IsEncodable commit
encodable (CreateTable x) is = tt
encodable (CreateView x) is = tt
encodable (Changes puts) is = is
encodable (Forget x) is = is
