-- A payload of changes is as long as is counted of a net.
use Rattle.std.proofs.Common.{◌≡◌, ℕ, ◌+◌, List, [], ◌∷◌, length, length-append, refl, ap, ◌∙◌, arith}
use Rattle.std.specs.Prelude.{Option, Some, None, sum_by}
use Rattle.std.specs.List.{AllByRecursion, flat_map}
use Rattle.std.proofs.lemmas.List.Concat.{flat_map-cons}
use Rattle.std.proofs.lemmas.List.Sums.{sum_by-cons}
use Rattle.own_base.specs.declared.change.Change.{Change}
use Rattle.own_base.specs.declared.value.Key.{Key}
use Rattle.own_base.specs.declared.value.Key.TheVariants as key
use Rattle.own_base.specs.declared.value.Value.{Value}
use Rattle.own_base.specs.declared.value.Value.TheVariants.{Null, Int, Text, Sum}
use Rattle.own_model.specs.Db.{Row}
use Rattle.state_model.specs.Payload.{change_bytes, key_bytes, payload_bytes, state_bytes, value_bytes}
use Rattle.disk_model.specs.declared.commit.Commit.TheVariants.{Changes}
use Rattle.disk_model.specs.Bounds.{IsShortPut, IsShortState, IsShortValue}
use Rattle.disk_model.specs.Payload.{IsPayload}
use Rattle.disk_model.specs.PutOf.{put_of, puts_of}
use Rattle.disk_model.specs.Spelling.{key_spelling, name_spelling, put_spelling, state_spelling, value_spelling}
use Rattle.disk_model.proofs.Spelled.{payload-spelled}

value_length : (x : Value) → IsShortValue x → length (value_spelling x) ≡ value_bytes x
value_length Null short = refl
value_length (Int number) short = refl
value_length (Text text) short = omega arith
value_length (Sum number) short = absurd short

key_length : (x : Key) → length (key_spelling x) ≡ key_bytes x
key_length (key.Int number) = refl
key_length (key.Text text) = omega arith

values_length : (row : Row) → AllByRecursion IsShortValue row → length (flat_map value_spelling row) ≡ sum_by value_bytes row
values_length [] all = refl
values_length (x ∷ row) all =
    let own = value_length x all.0 in
    let later = values_length row all.1 in
    let both = ap length (flat_map-cons value_spelling x row) ∙ length-append (value_spelling x) (flat_map value_spelling row) in
    let whole = sum_by-cons value_bytes x row in
    omega arith

state_length : (x : Option Row) → IsShortState x → length (state_spelling x) ≡ 1 + state_bytes x
state_length None short = refl
state_length (Some row) short = let values = values_length row short.values in omega arith

change_length : (change : Change) → IsShortPut (put_of change) → length (put_spelling (put_of change)) ≡ change_bytes change
change_length change short =
    let key = key_length change.name.key in
    let state = state_length change.after short.after in
    let both = length-append (name_spelling change.name) (state_spelling change.after) in
    omega arith

pub changes_length : (changes : List Change) → AllByRecursion IsShortPut (puts_of changes) → length (flat_map put_spelling (puts_of changes)) ≡ sum_by change_bytes changes
changes_length [] all = refl
changes_length (change ∷ changes) all =
    let own = change_length change all.0 in
    let later = changes_length changes all.1 in
    let both = ap length (flat_map-cons put_spelling (put_of change) (puts_of changes)) ∙ length-append (put_spelling (put_of change)) (flat_map put_spelling (puts_of changes)) in
    let whole = sum_by-cons change_bytes change changes in
    omega arith

pub payload-length : (changes : List Change) (payload : List ℕ) → IsPayload (Changes (puts_of changes)) payload → length payload ≡ payload_bytes changes
unfolding payload_bytes
payload-length changes payload is =
    let spelled = payload-spelled (Changes (puts_of changes)) payload is in
    let each = changes_length changes spelled.1.2 in
    let whole = ap length spelled.0 in
    omega arith
