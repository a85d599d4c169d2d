-- The image that is read is the one that the bytes are.
use Rattle.std.proofs.Common.{◌≡◌, ℕ, zero, suc, ◌+◌, ◌≤◌, cond, eqb, List, [], ◌∷◌, length, refl, sym, ap, subst, ◌∙◌}
use Rattle.std.specs.Prelude.{Some, None, nat_le, not}
use Rattle.std.specs.Int.{w32, w64}
use Rattle.std.proofs.lemmas.Bool.{eqb-true, le-leb, leb-true}
use Rattle.std.proofs.lemmas.List.{nil_from_length}
use Rattle.std.proofs.lemmas.List.Sums.{count_by-le-length}
use Rattle.own_model.specs.declared.limit.TheConstants.{JOURNAL_ROOM, TABLES, VIEWS}
use Rattle.own_model.specs.declared.schema.CreateText.{CreateText}
use Rattle.own_model.specs.Db.{Row}
use Rattle.disk_model.specs.declared.image.Image.{Image}
use Rattle.disk_model.specs.Image.{HasFields, IsCreateText, IsImage, IsWithin, table_count}
use Rattle.disk_model.specs.Number.{Format, IsNumber}
use Rattle.disk_model.specs.Row.{AreItems, IsList, IsRow}
use Rattle.disk_fields.specs.Reading.{◌>>=◌, all_of, create_at, items_at, list_at, number_at, row_at}
use Rattle.disk_fields.proofs.ReadNumbers.{AreBytes, bind_some, let_through, number4, number8, some_is}
use Rattle.disk_fields.proofs.ReadFields.{create, items_found, items_only, list, row}
use Rattle.check_image.specs.Reading.{commits_at, creates_at, fields_of, image_of}

abbrev pub IsNumberOfCommits : Format ℕ
IsNumberOfCommits commits bytes rest = (commits ≤ JOURNAL_ROOM) × IsNumber 8 commits bytes rest

pub commits_found : (bytes : List ℕ) (x : ℕ × List ℕ) → AreBytes bytes → commits_at bytes ≡ Some x → IsNumberOfCommits x.0 bytes x.1 × AreBytes x.1
unfolding commits_at
commits_found bytes x all is =
    let number = bind_some (number_at w64 bytes) (λ commits. cond (nat_le commits.0 JOURNAL_ROOM) (Some (commits.0, commits.1)) None) x is in
    let through = let_through (nat_le number.0.0 JOURNAL_ROOM) (Some (number.0.0, number.0.1)) x number.2 in
    let own = number8.found bytes number.0 all number.1 in
    let few = leb-true number.0.0 JOURNAL_ROOM through.0 in
    subst (λ (x : ℕ × List ℕ). IsNumberOfCommits x.0 bytes x.1 × AreBytes x.1) (some_is _ x through.1) ((few, own.0), own.1)

commits_only : (commits : ℕ) (bytes rest : List ℕ) → IsNumberOfCommits commits bytes rest → commits_at bytes ≡ Some (commits, rest)
unfolding commits_at
commits_only commits bytes rest is = rw (number8.only commits bytes rest is.1, le-leb commits JOURNAL_ROOM is.0) refl

abbrev pub AreCreates : Format (List CreateText)
AreCreates creates bytes rest = (length creates ≤ TABLES + VIEWS) × IsList IsCreateText creates bytes rest

pub creates_found : (bytes : List ℕ) (x : List CreateText × List ℕ) → AreBytes bytes → creates_at bytes ≡ Some x → AreCreates x.0 bytes x.1 × AreBytes x.1
unfolding creates_at
creates_found bytes x all is =
    let count = bind_some (number_at w32 bytes) (λ count. cond (nat_le count.0 (TABLES + VIEWS)) (list_at create_at bytes) None) x is in
    let through = let_through (nat_le count.0.0 (TABLES + VIEWS)) (list_at create_at bytes) x count.2 in
    let whole = (list IsCreateText create_at create).found bytes x all through.1 in
    let same = some_is _ _ (sym (number4.only (length x.0) bytes whole.0.0 whole.0.1) ∙ count.1) in
    let long : length x.0 ≡ count.0.0 = ap (λ (x : ℕ × List ℕ). x.0) same in
    let few = leb-true count.0.0 (TABLES + VIEWS) through.0 in
    ((subst (λ (n : ℕ). n ≤ TABLES + VIEWS) (sym long) few, whole.0), whole.1)

creates_only : (x : List CreateText) (bytes rest : List ℕ) → AreCreates x bytes rest → creates_at bytes ≡ Some (x, rest)
unfolding creates_at
creates_only x bytes rest is =
    rw (number4.only (length x) bytes is.1.0 is.1.1, le-leb (length x) (TABLES + VIEWS) is.0) ((list IsCreateText create_at create).only x bytes rest is.1)

tables_found : (count : ℕ) (bytes : List ℕ) (x : List (List Row)) → AreBytes bytes → all_of (items_at (list_at row_at) count bytes) ≡ Some x → AreItems (IsList IsRow) x bytes [] × (length x ≡ count)
tables_found count bytes x all is =
    let found = bind_some (items_at (list_at row_at) count bytes) (λ x. cond (eqb (length x.1) 0) (Some x.0) None) x is in
    let through = let_through (eqb (length found.0.1) 0) (Some found.0.0) x found.2 in
    let own = items_found (IsList IsRow) (list_at row_at) (list IsRow row_at row) count bytes found.0 all found.1 in
    let none : found.0.1 ≡ [] = nil_from_length found.0.1 (eqb-true (length found.0.1) 0 through.0) in
    subst (λ (x : List (List Row)). AreItems (IsList IsRow) x bytes [] × (length x ≡ count)) (some_is found.0.0 x through.1)
    (subst (λ (rest : List ℕ). AreItems (IsList IsRow) found.0.0 bytes rest) none own.0, own.1)

tables_only : (x : List (List Row)) (bytes : List ℕ) → AreItems (IsList IsRow) x bytes [] → all_of (items_at (list_at row_at) (length x) bytes) ≡ Some x
tables_only x bytes is = rw (items_only (IsList IsRow) (list_at row_at) (list IsRow row_at row) x bytes [] is) refl

fields_found : (bytes : List ℕ) (image : Image) → AreBytes bytes → fields_of bytes ≡ Some image → IsWithin image × HasFields image bytes
unfolding fields_of
fields_found bytes image all is =
    let commits = bind_some (commits_at bytes) (λ commits. creates_at commits.1 >>= λ creates. all_of (items_at (list_at row_at) (table_count creates.0) creates.1) >>= λ tables.
    Some (record { commits = commits.0; creates = creates.0; tables = tables })) image is in
    let creates = bind_some (creates_at commits.0.1) (λ creates. all_of (items_at (list_at row_at) (table_count creates.0) creates.1) >>= λ tables.
    Some (record { commits = commits.0.0; creates = creates.0; tables = tables })) image commits.2 in
    let tables = bind_some (all_of (items_at (list_at row_at) (table_count creates.0.0) creates.0.1)) (λ tables. Some (record { commits = commits.0.0; creates = creates.0.0; tables = tables })) image creates.2 in
    let first = commits_found bytes commits.0 all commits.1 in
    let second = creates_found commits.0.1 creates.0 first.1 creates.1 in
    let third = tables_found (table_count creates.0.0) creates.0.1 tables.0 second.1 tables.1 in
    let made : Image = record { commits = commits.0.0; creates = creates.0.0; tables = tables.0 } in
    subst (λ (image : Image). IsWithin image × HasFields image bytes) {x = made} (some_is made image tables.2)
    (record { commits = first.0.0; creates = second.0.0; tables = third.1 }, record { creates = commits.0.1; tables = creates.0.1; commits_are = first.0.1; creates_are = second.0.1; tables_are = third.0 })

fields_only : (bytes : List ℕ) (image : Image) → IsWithin image → HasFields image bytes → fields_of bytes ≡ Some image
unfolding fields_of
fields_only bytes image within fields =
    let commits = commits_only image.commits bytes fields.creates (within.commits, fields.commits_are) in
    let creates = creates_only image.creates fields.creates fields.tables (within.creates, fields.creates_are) in
    let tables = tables_only image.tables fields.tables fields.tables_are in
    let counted : all_of (items_at (list_at row_at) (table_count image.creates) fields.tables) ≡ Some image.tables =
    subst (λ (count : ℕ). all_of (items_at (list_at row_at) count fields.tables) ≡ Some image.tables) within.tables tables in
    rw (commits, creates, counted) refl

pub image-found : (bytes : List ℕ) (image : Image) → AreBytes bytes → image_of bytes ≡ Some image → IsImage image bytes
unfolding image_of
image-found [] image all is = absurd cc
image-found (zero ∷ bytes) image all is = absurd cc
image-found (suc zero ∷ bytes) image all is = let own = fields_found bytes image all.1 is in (refl, own.0, own.1)
image-found (suc (suc version) ∷ bytes) image all is = absurd cc

image-only : (bytes : List ℕ) (image : Image) → IsImage image bytes → image_of bytes ≡ Some image
unfolding image_of
image-only [] image is = absurd is
image-only (version ∷ bytes) image is = rw is.0 (fields_only bytes image is.1 is.2)

pub image-none : (bytes : List ℕ) → image_of bytes ≡ None → (image : Image) → IsImage image bytes → ⊥
image-none bytes none image is = let found = image-only bytes image is in cc

-- there are no more tables than creates
pub tables_few : (creates : List CreateText) → table_count creates ≤ length creates
tables_few creates = count_by-le-length (λ create. not create.view) creates
