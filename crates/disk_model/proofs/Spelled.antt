-- What is of a format is spelled in one way.
use Rattle.std.proofs.Common.{◌≡◌, ℕ, List, [], ◌∷◌, ◌++◌, length, refl, sym, ap, subst, ◌∙◌, append_assoc, arith}
use Rattle.std.specs.Prelude.{Option, Some, None, IsUtf8}
use Rattle.std.specs.List.{AllByRecursion, flat_map}
use Rattle.std.proofs.lemmas.List.{append-nil}
use Rattle.std.proofs.lemmas.List.Concat.{flat_map-cons}
use Rattle.own_base.specs.declared.value.Value.{Value}
use Rattle.own_base.specs.declared.value.Value.TheVariants.{Null, Int, Text, Sum}
use Rattle.own_model.specs.declared.schema.CreateText.{CreateText}
use Rattle.own_model.specs.Db.{Row}
use Rattle.disk_model.specs.declared.commit.Commit.{Commit}
use Rattle.disk_model.specs.declared.commit.Commit.TheVariants.{CreateTable, CreateView, Changes, Forget}
use Rattle.disk_model.specs.declared.image.Image.{Image}
use Rattle.disk_model.specs.Bounds.{AreShortRows, IsBounded, IsBoundedImage, IsCountable, IsTyped, IsTypedImage, IsTypedName, IsTypedPut, IsTypedRow, IsTypedState, IsTypedValue, IsShortName, IsShortPut, IsShortRow, IsShortState, IsShortValue}
use Rattle.disk_model.specs.Image.{IsCreateText, IsImage, create_kind}
use Rattle.disk_model.specs.Number.{Format}
use Rattle.disk_model.specs.Payload.{IsName, IsPayload, IsPut, IsState}
use Rattle.disk_model.specs.Row.{AreItems, IsList, IsRow}
use Rattle.disk_model.specs.Spelling.{create_spelling, image_spelling, key_spelling, list_spelling, name_spelling, number_spelling, payload_spelling, put_spelling, row_spelling, state_spelling, text_spelling, value_spelling}
use Rattle.disk_model.specs.Text.{IsText}
use Rattle.disk_model.specs.Value.{IsValue, as_value}
use Rattle.disk_model.proofs.Numbers.{number4-of_spelling, number4-spelled, number8-of_spelling, number8-spelled, signed-typed, signed-of_spelling, signed-spelled}

-- what is of a format is bounded and typed, and its spelling is at the front; and a spelling of such is of the format
pub record IsSpelledBy {A : Type 0} (format : Format A) (spelling : A → List ℕ) (Bounded Typed : A → Type 0) : Type 0 where
  pub spelled : (x : A) (bytes rest : List ℕ) → format x bytes rest → (bytes ≡ spelling x ++ rest) × Bounded x × Typed x
  pub again : (x : A) (rest : List ℕ) → Bounded x → Typed x → format x (spelling x ++ rest) rest

-- one spelling behind another
pub both : (front middle bytes back rest : List ℕ) → bytes ≡ front ++ middle → middle ≡ back ++ rest → bytes ≡ (front ++ back) ++ rest
both front middle bytes back rest first second = first ∙ ap (λ (tail : List ℕ). front ++ tail) second ∙ sym (append_assoc front back rest)

pub text : IsSpelledBy IsText text_spelling IsCountable IsUtf8
text = record {
  spelled = λ x bytes rest is.
      let number = number4-spelled (length x) bytes is.0 is.1 in
      (both (number_spelling 4 (length x)) is.0 bytes x rest number.0 is.3, number.1, is.2);
  again = λ x rest bounded typed. (x ++ rest, number4-of_spelling (length x) (x ++ rest) bounded, typed, refl);
}

value_spelled : (x : Value) (bytes rest : List ℕ) → IsValue x bytes rest → (bytes ≡ value_spelling x ++ rest) × IsShortValue x × IsTypedValue x
value_spelled x [] rest is = absurd is
value_spelled Null (kind ∷ bytes) rest is = (rw (is.0, is.1) refl, tt, tt)
value_spelled (Int number) (kind ∷ bytes) rest is = (rw is.0 (ap (λ (tail : List ℕ). 1 ∷ tail) (signed-spelled number bytes rest is.1)), tt, signed-typed number bytes rest is.1)
value_spelled (Text words) (kind ∷ bytes) rest is =
    let own = text.spelled words bytes rest is.1.1 in
    (rw is.0 (ap (λ (tail : List ℕ). 2 ∷ tail) own.0), is.1.0, own.2)
value_spelled (Sum number) (kind ∷ bytes) rest is = absurd is

value_again : (x : Value) (rest : List ℕ) → IsShortValue x → IsTypedValue x → IsValue x (value_spelling x ++ rest) rest
value_again Null rest bounded typed = (refl, refl)
value_again (Int number) rest bounded typed = (refl, signed-of_spelling number rest typed)
value_again (Text x) rest bounded typed = (refl, (bounded, text.again x rest (omega arith) typed))
value_again (Sum number) rest bounded typed = absurd bounded

pub value : IsSpelledBy IsValue value_spelling IsShortValue IsTypedValue
value = record { spelled = value_spelled; again = value_again }

pub name : IsSpelledBy IsName name_spelling IsShortName IsTypedName
name = record {
  spelled = λ x bytes rest is.
      let number = number4-spelled x.table.0 bytes is.0 is.1 in
      let key = value_spelled (as_value x.key) is.0 rest is.2 in
      (both (number_spelling 4 x.table.0) is.0 bytes (key_spelling x.key) rest number.0 key.0, key.1, (number.1, key.2));
  again = λ x rest bounded typed.
      (key_spelling x.key ++ rest, number4-of_spelling x.table.0 (key_spelling x.key ++ rest) typed.0, value_again (as_value x.key) rest bounded typed.1);
}

-- ---- lists

module _ {A : Type 0} (format : Format A) (spelling : A → List ℕ) (Bounded Typed : A → Type 0) (spelled : IsSpelledBy format spelling Bounded Typed) where
  items_spelled : (xs : List A) (bytes rest : List ℕ) → AreItems format xs bytes rest → (bytes ≡ flat_map spelling xs ++ rest) × AllByRecursion Bounded xs × AllByRecursion Typed xs
  items_spelled [] bytes rest is = (is, tt, tt)
  items_spelled (x ∷ xs) bytes rest is =
      let own = spelled.spelled x bytes is.0 is.1 in
      let later = items_spelled xs is.0 rest is.2 in
      (both (spelling x) is.0 bytes (flat_map spelling xs) rest own.0 later.0 ∙ ap (λ (front : List ℕ). front ++ rest) (sym (flat_map-cons spelling x xs)), (own.1, later.1), (own.2, later.2))

  items_again : (xs : List A) (rest : List ℕ) → AllByRecursion Bounded xs → AllByRecursion Typed xs → AreItems format xs (flat_map spelling xs ++ rest) rest
  items_again [] rest bounded typed = refl
  items_again (x ∷ xs) rest bounded typed =
      let apart : flat_map spelling (x ∷ xs) ++ rest ≡ spelling x ++ (flat_map spelling xs ++ rest) =
      ap (λ (front : List ℕ). front ++ rest) (flat_map-cons spelling x xs) ∙ append_assoc (spelling x) (flat_map spelling xs) rest in
      (flat_map spelling xs ++ rest, subst (λ (bytes : List ℕ). format x bytes (flat_map spelling xs ++ rest)) (sym apart) (spelled.again x (flat_map spelling xs ++ rest) bounded.0 typed.0), items_again xs rest bounded.1 typed.1)

  pub items : IsSpelledBy (AreItems format) (flat_map spelling) (AllByRecursion Bounded) (AllByRecursion Typed)
  items = record { spelled = items_spelled; again = items_again }

  pub list : IsSpelledBy (IsList format) (list_spelling spelling) (λ xs. IsCountable xs × AllByRecursion Bounded xs) (AllByRecursion Typed)
  list = record {
    spelled = λ xs bytes rest is.
        let number = number4-spelled (length xs) bytes is.0 is.1 in
        let each = items_spelled xs is.0 rest is.2 in
        (both (number_spelling 4 (length xs)) is.0 bytes (flat_map spelling xs) rest number.0 each.0, (number.1, each.1), each.2);
    again = λ xs rest bounded typed.
        (flat_map spelling xs ++ rest, number4-of_spelling (length xs) (flat_map spelling xs ++ rest) bounded.0, items_again xs rest bounded.1 typed);
  }

-- ---- rows and changes

pub row : IsSpelledBy IsRow row_spelling IsShortRow IsTypedRow
row = record {
  spelled = λ x bytes rest is.
      let whole = (list IsValue value_spelling IsShortValue IsTypedValue value).spelled x bytes rest is.2 in
      (whole.0, record { some = is.0; few = is.1; values = whole.1.1 }, whole.2);
  again = λ x rest bounded typed.
      let few = bounded.few in
      (bounded.some, bounded.few, (list IsValue value_spelling IsShortValue IsTypedValue value).again x rest (omega arith, bounded.values) typed);
}

state_spelled : (x : Option Row) (bytes rest : List ℕ) → IsState x bytes rest → (bytes ≡ state_spelling x ++ rest) × IsShortState x × IsTypedState x
state_spelled x [] rest is = absurd is
state_spelled None (kind ∷ bytes) rest is = (rw (is.0, is.1) refl, tt, tt)
state_spelled (Some x) (kind ∷ bytes) rest is =
    let own = row.spelled x bytes rest is.1 in
    (rw is.0 (ap (λ (tail : List ℕ). 1 ∷ tail) own.0), own.1, own.2)

state_again : (x : Option Row) (rest : List ℕ) → IsShortState x → IsTypedState x → IsState x (state_spelling x ++ rest) rest
state_again None rest bounded typed = (refl, refl)
state_again (Some x) rest bounded typed = (refl, row.again x rest bounded typed)

pub state : IsSpelledBy IsState state_spelling IsShortState IsTypedState
state = record { spelled = state_spelled; again = state_again }

pub put : IsSpelledBy IsPut put_spelling IsShortPut IsTypedPut
put = record {
  spelled = λ x bytes rest is.
      let first = name.spelled x.name bytes is.0 is.1 in
      let second = state_spelled x.after is.0 rest is.2 in
      (both (name_spelling x.name) is.0 bytes (state_spelling x.after) rest first.0 second.0, record { name = first.1; after = second.1 }, (first.2, second.2));
  again = λ x rest bounded typed.
      let apart = append_assoc (name_spelling x.name) (state_spelling x.after) rest in (
        state_spelling x.after ++ rest,
        subst (λ (bytes : List ℕ). IsName x.name bytes (state_spelling x.after ++ rest)) (sym apart) (name.again x.name (state_spelling x.after ++ rest) bounded.name typed.0),
        state_again x.after rest bounded.after typed.1,
      );
}

-- ---- payloads

whole : (bytes spelling : List ℕ) → bytes ≡ spelling ++ [] → bytes ≡ spelling
whole bytes spelling is = is ∙ append-nil spelling

pub payload-spelled : (commit : Commit) (bytes : List ℕ) → IsPayload commit bytes → (bytes ≡ payload_spelling commit) × IsBounded commit × IsTyped commit
payload-spelled commit [] is = absurd is
payload-spelled (CreateTable x) (kind ∷ bytes) is =
    let own = text.spelled x bytes [] is.1 in (rw is.0 (ap (λ (tail : List ℕ). 1 ∷ tail) (whole bytes (text_spelling x) own.0)), own.1, own.2)
payload-spelled (CreateView x) (kind ∷ bytes) is =
    let own = text.spelled x bytes [] is.1 in (rw is.0 (ap (λ (tail : List ℕ). 2 ∷ tail) (whole bytes (text_spelling x) own.0)), own.1, own.2)
payload-spelled (Changes puts) (kind ∷ bytes) is =
    let own = (list IsPut put_spelling IsShortPut IsTypedPut put).spelled puts bytes [] is.2 in
    (rw is.0 (ap (λ (tail : List ℕ). 3 ∷ tail) (whole bytes (list_spelling put_spelling puts) own.0)), (own.1.0, is.1, own.1.1), own.2)
payload-spelled (Forget x) (kind ∷ bytes) is =
    let own = name.spelled x bytes [] is.1 in (rw is.0 (ap (λ (tail : List ℕ). 4 ∷ tail) (whole bytes (name_spelling x) own.0)), own.1, own.2)

alone : {A : Type 0} (format : Format A) (spelling : A → List ℕ) (Bounded Typed : A → Type 0) → IsSpelledBy format spelling Bounded Typed → (x : A) → Bounded x → Typed x → format x (spelling x) []
alone format spelling Bounded Typed spelled x bounded typed = subst (λ (bytes : List ℕ). format x bytes []) (append-nil (spelling x)) (spelled.again x [] bounded typed)

pub payload-of_spelling : (commit : Commit) → IsBounded commit → IsTyped commit → IsPayload commit (payload_spelling commit)
payload-of_spelling (CreateTable x) bounded typed = (refl, alone IsText text_spelling IsCountable IsUtf8 text x bounded typed)
payload-of_spelling (CreateView x) bounded typed = (refl, alone IsText text_spelling IsCountable IsUtf8 text x bounded typed)
payload-of_spelling (Changes puts) bounded typed =
    (refl, bounded.1, alone (IsList IsPut) (list_spelling put_spelling) _ _ (list IsPut put_spelling IsShortPut IsTypedPut put) puts (bounded.0, bounded.2) typed)
payload-of_spelling (Forget x) bounded typed = (refl, alone IsName name_spelling IsShortName IsTypedName name x bounded typed)

-- ---- images

create_spelled : (x : CreateText) (bytes rest : List ℕ) → IsCreateText x bytes rest → (bytes ≡ create_spelling x ++ rest) × IsCountable x.text × IsUtf8 x.text
create_spelled x [] rest is = absurd is
create_spelled x (kind ∷ bytes) rest is =
    let own = text.spelled x.text bytes rest is.1 in
    (rw is.0 (ap (λ (tail : List ℕ). create_kind x.view ∷ tail) own.0), own.1, own.2)

pub create : IsSpelledBy IsCreateText create_spelling (λ x. IsCountable x.text) (λ x. IsUtf8 x.text)
create = record { spelled = create_spelled; again = λ x rest bounded typed. (refl, text.again x.text rest bounded typed) }

pub creates : IsSpelledBy (IsList IsCreateText) (list_spelling create_spelling) (λ xs. IsCountable xs × AllByRecursion (λ x. IsCountable x.text) xs) (AllByRecursion (λ x. IsUtf8 x.text))
creates = list IsCreateText create_spelling (λ x. IsCountable x.text) (λ x. IsUtf8 x.text) create

pub rows : IsSpelledBy (IsList IsRow) (list_spelling row_spelling) AreShortRows (AllByRecursion IsTypedRow)
rows = list IsRow row_spelling IsShortRow IsTypedRow row

pub tables : IsSpelledBy (AreItems (IsList IsRow)) (flat_map (list_spelling row_spelling)) (AllByRecursion AreShortRows) (AllByRecursion (AllByRecursion IsTypedRow))
tables = items (IsList IsRow) (list_spelling row_spelling) AreShortRows (AllByRecursion IsTypedRow) rows

pub image-spelled : (image : Image) (bytes : List ℕ) → IsImage image bytes → (bytes ≡ image_spelling image) × IsBoundedImage image × IsTypedImage image
image-spelled image [] is = absurd is
image-spelled image (version ∷ bytes) is =
    let fields = is.2 in
    let number = number8-spelled image.commits bytes fields.creates fields.commits_are in
    let texts = creates.spelled image.creates fields.creates fields.tables fields.creates_are in
    let lists = tables.spelled image.tables fields.tables [] fields.tables_are in
    let last = whole fields.tables (flat_map (list_spelling row_spelling) image.tables) lists.0 in
    let later = texts.0 ∙ ap (λ (tail : List ℕ). list_spelling create_spelling image.creates ++ tail) last in
    let all = number.0 ∙ ap (λ (tail : List ℕ). number_spelling 8 image.commits ++ tail) later in
    (rw is.0 (ap (λ (tail : List ℕ). 1 ∷ tail) all), record { within = is.1; creates = texts.1.1; tables = lists.1 }, record { creates = texts.2; tables = lists.2 })

pub image-of_spelling : (image : Image) → IsBoundedImage image → IsTypedImage image → IsImage image (image_spelling image)
image-of_spelling image bounded typed =
    let few = bounded.within.creates in
    let room = bounded.within.commits in
    let end = flat_map (list_spelling row_spelling) image.tables in
    let lists = subst (λ (bytes : List ℕ). AreItems (IsList IsRow) image.tables bytes []) (append-nil end) (tables.again image.tables [] bounded.tables typed.tables) in
    let texts = creates.again image.creates end (omega arith, bounded.creates) typed.creates in (
      refl,
      bounded.within,
      record {
        creates = list_spelling create_spelling image.creates ++ end;
        tables = end;
        commits_are = number8-of_spelling image.commits (list_spelling create_spelling image.creates ++ end) (omega arith);
        creates_are = texts;
        tables_are = lists;
      },
    )
