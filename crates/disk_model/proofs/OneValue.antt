-- Bytes are of one value at most, with the same bytes behind it.
use Rattle.std.proofs.Common.{◌≡◌, ℕ, zero, suc, ◌+◌, ◌*◌, ◌<◌, List, [], ◌∷◌, ◌++◌, length, take, drop, refl, sym, ap, subst, ◌∙◌, arith}
use Rattle.std.specs.Prelude.{Bool, true, false, Option, Some, None}
use Rattle.std.specs.Int.{w64, cast_signed}
use Rattle.std.proofs.lemmas.List.{take_at, drop_at}
use Rattle.own_base.specs.declared.row_name.RowName.{RowName}
use Rattle.own_base.specs.declared.value.Key.{Key}
use Rattle.own_base.specs.declared.value.Value.TheVariants.{Null, Int, Text, Sum}
use Rattle.own_model.specs.declared.schema.CreateText.{CreateText}
use Rattle.own_model.specs.Db.{Row, as_key}
use Rattle.disk_model.specs.declared.commit.Commit.{Commit}
use Rattle.disk_model.specs.declared.commit.Commit.TheVariants.{CreateTable, CreateView, Changes, Forget}
use Rattle.disk_model.specs.declared.commit.Put.{Put}
use Rattle.disk_model.specs.declared.image.Image.{Image}
use Rattle.disk_model.specs.Image.{IsCreateText, IsImage, create_kind, table_count}
use Rattle.disk_model.specs.Number.{Format, IsNumber, IsNumberBehind, IsSigned}
use Rattle.disk_model.specs.Payload.{IsName, IsPayload, IsPut, IsState}
use Rattle.disk_model.specs.Row.{AreItems, IsList, IsRow}
use Rattle.disk_model.specs.Text.{IsText}
use Rattle.disk_model.specs.Value.{IsKey, IsValue, as_value}
use Rattle.disk_model.proofs.SoundAfter.{key-of_value}

-- two values that the same bytes begin with are one, and so are the bytes behind them
abbrev pub IsOfOne : {A : Type 0} → Format A → Type 0
IsOfOne {A = A} format = (x y : A) (bytes rest more : List ℕ) → format x bytes rest → format y bytes more → (x ≡ y) × (rest ≡ more)

-- ---- numbers and texts

number_behind : (above count : ℕ) → IsOfOne (IsNumberBehind above count)
number_behind above zero x y bytes rest more first second = (first.0 ∙ sym second.0, sym first.1 ∙ second.1)
number_behind above (suc count) x y [] rest more first second = absurd first
number_behind above (suc count) x y (byte ∷ bytes) rest more first second = number_behind (above * 256 + byte) count x y bytes rest more first.1 second.1

pub number : (count : ℕ) → IsOfOne (IsNumber count)
number count = number_behind 0 count

signed : IsOfOne IsSigned
signed x y bytes rest more first second =
    let bits = number 8 first.0 second.0 bytes rest more first.1 second.1 in
    (first.2 ∙ ap (cast_signed w64) bits.0 ∙ sym second.2, bits.1)

-- lists of one length, each in front of a list
pub front_same : (x y rest more : List ℕ) → length x ≡ length y → x ++ rest ≡ y ++ more → (x ≡ y) × (rest ≡ more)
front_same x y rest more long same = (
  sym (take_at x rest (length x) refl) ∙ ap (take (length x)) same ∙ take_at y more (length x) (sym long),
  sym (drop_at x rest (length x) refl) ∙ ap (drop (length x)) same ∙ drop_at y more (length x) (sym long),
)

pub text : IsOfOne IsText
text x y bytes rest more first second =
    let long = number 4 (length x) (length y) bytes first.0 second.0 first.1 second.1 in
    front_same x y rest more long.0 (sym first.3 ∙ long.1 ∙ second.3)

-- ---- values

-- a byte is of one kind
apart : (i j kind : ℕ) → i < j → kind ≡ i → kind ≡ j → ⊥
apart i j kind below one other = omega arith

value : IsOfOne IsValue
value x y [] rest more first second = absurd first
value Null Null (kind ∷ bytes) rest more first second = (refl, sym first.1 ∙ second.1)
value Null (Int b) (kind ∷ bytes) rest more first second = absurd (apart 0 1 kind (omega arith) first.0 second.0)
value Null (Text b) (kind ∷ bytes) rest more first second = absurd (apart 0 2 kind (omega arith) first.0 second.0)
value Null (Sum b) (kind ∷ bytes) rest more first second = absurd second
value (Int a) Null (kind ∷ bytes) rest more first second = absurd (apart 0 1 kind (omega arith) second.0 first.0)
value (Int a) (Int b) (kind ∷ bytes) rest more first second = let own = signed a b bytes rest more first.1 second.1 in (ap Int own.0, own.1)
value (Int a) (Text b) (kind ∷ bytes) rest more first second = absurd (apart 1 2 kind (omega arith) first.0 second.0)
value (Int a) (Sum b) (kind ∷ bytes) rest more first second = absurd second
value (Text a) Null (kind ∷ bytes) rest more first second = absurd (apart 0 2 kind (omega arith) second.0 first.0)
value (Text a) (Int b) (kind ∷ bytes) rest more first second = absurd (apart 1 2 kind (omega arith) second.0 first.0)
value (Text a) (Text b) (kind ∷ bytes) rest more first second = let own = text a b bytes rest more first.1.1 second.1.1 in (ap Text own.0, own.1)
value (Text a) (Sum b) (kind ∷ bytes) rest more first second = absurd second
value (Sum a) y (kind ∷ bytes) rest more first second = absurd first

key : IsOfOne IsKey
key x y bytes rest more first second =
    let own = value (as_value x) (as_value y) bytes rest more first second in
    (sym (key-of_value x) ∙ ap as_key own.0 ∙ key-of_value y, own.1)

-- ---- lists

module _ {A : Type 0} (format : Format A) (one : IsOfOne format) where
  pub items : (xs ys : List A) (bytes rest more : List ℕ) → length xs ≡ length ys → AreItems format xs bytes rest → AreItems format ys bytes more → (xs ≡ ys) × (rest ≡ more)
  items [] [] bytes rest more long first second = (refl, sym first ∙ second)
  items [] (y ∷ ys) bytes rest more long first second = absurd (omega arith)
  items (x ∷ xs) [] bytes rest more long first second = absurd (omega arith)
  items (x ∷ xs) (y ∷ ys) bytes rest more long first second =
      let own = one x y bytes first.0 second.0 first.1 second.1 in
      let later = items xs ys first.0 rest more (omega arith) first.2 (subst (λ (middle : List ℕ). AreItems format ys middle more) (sym own.1) second.2) in
      (ap (λ (x : A). x ∷ xs) own.0 ∙ ap (λ (xs : List A). y ∷ xs) later.0, later.1)

  pub list : IsOfOne (IsList format)
  list xs ys bytes rest more first second =
      let long = number 4 (length xs) (length ys) bytes first.0 second.0 first.1 second.1 in
      items xs ys first.0 rest more long.0 first.2 (subst (λ (middle : List ℕ). AreItems format ys middle more) (sym long.1) second.2)

-- ---- rows and changes

row : IsOfOne IsRow
row x y bytes rest more first second = list IsValue value x y bytes rest more first.2 second.2

abbrev named : ℕ → Key → RowName
named table key = record { table = record { 0 = table }; key = key }

name : IsOfOne IsName
name x y bytes rest more first second =
    let table = number 4 x.table.0 y.table.0 bytes first.0 second.0 first.1 second.1 in
    let own = key x.key y.key first.0 rest more first.2 (subst (λ (middle : List ℕ). IsKey y.key middle more) (sym table.1) second.2) in
    (ap (λ (n : ℕ). named n x.key) table.0 ∙ ap (named y.table.0) own.0, own.1)

state : IsOfOne IsState
state x y [] rest more first second = absurd first
state None None (kind ∷ bytes) rest more first second = (refl, sym first.1 ∙ second.1)
state None (Some b) (kind ∷ bytes) rest more first second = absurd (apart 0 1 kind (omega arith) first.0 second.0)
state (Some a) None (kind ∷ bytes) rest more first second = absurd (apart 0 1 kind (omega arith) second.0 first.0)
state (Some a) (Some b) (kind ∷ bytes) rest more first second = let own = row a b bytes rest more first.1 second.1 in (ap Some own.0, own.1)

abbrev put_of : RowName → Option Row → Put
put_of name after = record { name = name; after = after }

put : IsOfOne IsPut
put x y bytes rest more first second =
    let own = name x.name y.name bytes first.0 second.0 first.1 second.1 in
    let after = state x.after y.after first.0 rest more first.2 (subst (λ (middle : List ℕ). IsState y.after middle more) (sym own.1) second.2) in
    (ap (λ (name : RowName). put_of name x.after) own.0 ∙ ap (put_of y.name) after.0, after.1)

-- ---- payloads

pub payload : (x y : Commit) (bytes : List ℕ) → IsPayload x bytes → IsPayload y bytes → x ≡ y
payload x y [] first second = absurd first
payload (CreateTable a) (CreateTable b) (kind ∷ bytes) first second = ap CreateTable (text a b bytes [] [] first.1 second.1).0
payload (CreateTable a) (CreateView b) (kind ∷ bytes) first second = absurd (apart 1 2 kind (omega arith) first.0 second.0)
payload (CreateTable a) (Changes b) (kind ∷ bytes) first second = absurd (apart 1 3 kind (omega arith) first.0 second.0)
payload (CreateTable a) (Forget b) (kind ∷ bytes) first second = absurd (apart 1 4 kind (omega arith) first.0 second.0)
payload (CreateView a) (CreateTable b) (kind ∷ bytes) first second = absurd (apart 1 2 kind (omega arith) second.0 first.0)
payload (CreateView a) (CreateView b) (kind ∷ bytes) first second = ap CreateView (text a b bytes [] [] first.1 second.1).0
payload (CreateView a) (Changes b) (kind ∷ bytes) first second = absurd (apart 2 3 kind (omega arith) first.0 second.0)
payload (CreateView a) (Forget b) (kind ∷ bytes) first second = absurd (apart 2 4 kind (omega arith) first.0 second.0)
payload (Changes a) (CreateTable b) (kind ∷ bytes) first second = absurd (apart 1 3 kind (omega arith) second.0 first.0)
payload (Changes a) (CreateView b) (kind ∷ bytes) first second = absurd (apart 2 3 kind (omega arith) second.0 first.0)
payload (Changes a) (Changes b) (kind ∷ bytes) first second = ap Changes (list IsPut put a b bytes [] [] first.2 second.2).0
payload (Changes a) (Forget b) (kind ∷ bytes) first second = absurd (apart 3 4 kind (omega arith) first.0 second.0)
payload (Forget a) (CreateTable b) (kind ∷ bytes) first second = absurd (apart 1 4 kind (omega arith) second.0 first.0)
payload (Forget a) (CreateView b) (kind ∷ bytes) first second = absurd (apart 2 4 kind (omega arith) second.0 first.0)
payload (Forget a) (Changes b) (kind ∷ bytes) first second = absurd (apart 3 4 kind (omega arith) second.0 first.0)
payload (Forget a) (Forget b) (kind ∷ bytes) first second = ap Forget (name a b bytes [] [] first.1 second.1).0

-- ---- images

view_of : (one other : Bool) → create_kind one ≡ create_kind other → one ≡ other
view_of false false same = refl
view_of false true same = absurd (omega arith)
view_of true false same = absurd (omega arith)
view_of true true same = refl

abbrev create_of : Bool → List ℕ → CreateText
create_of view text = record { view = view; text = text }

create : IsOfOne IsCreateText
create x y [] rest more first second = absurd first
create x y (kind ∷ bytes) rest more first second =
    let own = text x.text y.text bytes rest more first.1 second.1 in
    let view = view_of x.view y.view (sym first.0 ∙ second.0) in
    (ap (λ (view : Bool). create_of view x.text) view ∙ ap (create_of y.view) own.0, own.1)

abbrev image_of : ℕ → List CreateText → List (List Row) → Image
image_of commits creates tables = record { commits = commits; creates = creates; tables = tables }

pub image : (x y : Image) (bytes : List ℕ) → IsImage x bytes → IsImage y bytes → x ≡ y
image x y [] first second = absurd first
image x y (version ∷ bytes) first second =
    let one = first.2 in
    let other = second.2 in
    let commits = number 8 x.commits y.commits bytes one.creates other.creates one.commits_are other.commits_are in
    let creates = list IsCreateText create x.creates y.creates one.creates one.tables other.tables one.creates_are
    (subst (λ (middle : List ℕ). IsList IsCreateText y.creates middle other.tables) (sym commits.1) other.creates_are) in
    let many = first.1.tables ∙ ap table_count creates.0 ∙ sym second.1.tables in
    let tables = items (IsList IsRow) (list IsRow row) x.tables y.tables one.tables [] [] many one.tables_are
    (subst (λ (middle : List ℕ). AreItems (IsList IsRow) y.tables middle []) (sym creates.1) other.tables_are) in
    ap (λ (n : ℕ). image_of n x.creates x.tables) commits.0 ∙ ap (λ (creates : List CreateText). image_of y.commits creates x.tables) creates.0
    ∙ ap (image_of y.commits y.creates) tables.0
