-- What is written of a database is its image and a closed gate.
use Rattle.std.proofs.Common.{◌≡◌, ℕ, ◌≤◌, ◌<◌, ◌^◌, List, [], ◌∷◌, ◌++◌, sym, ap, subst, ◌∙◌, append_assoc}
use Rattle.std.specs.List.{AllByRecursion, flat_map}
use Rattle.own_model.specs.declared.limit.TheConstants.{JOURNAL_ROOM}
use Rattle.own_model.specs.declared.schema.CreateText.{CreateText}
use Rattle.own_model.specs.Db.{Db, Row}
use Rattle.state_model.specs.Sound.{Sound}
use Rattle.disk_model.specs.declared.image.Image.{Image}
use Rattle.disk_model.specs.Bounds.{IsTypedImage}
use Rattle.disk_model.specs.Image.{IsImage}
use Rattle.disk_model.specs.Lawful.{IsLawfulImage}
use Rattle.disk_model.specs.Spelling.{create_spelling, image_spelling, list_spelling, number_spelling, row_spelling}
use Rattle.disk_model.proofs.Numbers.{number8-of_spelling}
use Rattle.disk_model.proofs.Spelled.{image-of_spelling, image-spelled}
use Rattle.disk_fields.proofs.ReadNumbers.{number8, some_is}
use Rattle.check_image.specs.Gated.{IsGatedImage, image_from}
use Rattle.check_image.proofs.SoundImages.{bounded_image}

-- bytes that begin as an image of so many commits are an image only if these aren't too many
few_commits : (commits : ℕ) (tail : List ℕ) → commits < 2 ^ 64 → (other : Image) → IsImage other (1 ∷ (number_spelling 8 commits ++ tail)) → commits ≤ JOURNAL_ROOM
few_commits commits tail fits other is =
    let bytes = number_spelling 8 commits ++ tail in
    let same = some_is _ _ (sym (number8.only other.commits bytes is.2.creates is.2.commits_are) ∙ number8.only commits bytes tail (number8-of_spelling commits tail fits)) in
    subst (λ (n : ℕ). n ≤ JOURNAL_ROOM) (ap (λ (x : ℕ × List ℕ). x.0) same) is.1.commits

pub gated : (db : Db) (commits : ℕ) (bytes : List ℕ) → Sound db → commits < 2 ^ 64 → IsTypedImage (image_from db commits)
    → bytes ≡ image_spelling (image_from db commits) ++ 0 ∷ [] → IsGatedImage db commits bytes
gated db commits bytes sound fits typed is = record {
  image = image_spelling (image_from db commits);
  parts = is;
  is_image = λ few. image-of_spelling (image_from db commits) (bounded_image db commits sound few) typed;
  only = few_commits commits (list_spelling create_spelling db.creates ++ flat_map (list_spelling row_spelling) db.rows) fits;
}

-- the pieces, each written behind those before it
pub one_behind_another : (db : Db) (commits : ℕ) (none first second third fourth fifth bytes : List ℕ) → none ≡ [] → first ≡ none ++ 1 ∷ [] → second ≡ first ++ number_spelling 8 commits
    → third ≡ second ++ list_spelling create_spelling db.creates → fourth ≡ third ++ flat_map (list_spelling row_spelling) db.rows → fifth ≡ fourth ++ 0 ∷ [] → bytes ≡ fifth
    → bytes ≡ image_spelling (image_from db commits) ++ 0 ∷ []
one_behind_another db commits none first second third fourth fifth bytes a b c d e f g =
    let version : List ℕ = 1 ∷ [] in
    let number = number_spelling 8 commits in
    let texts = list_spelling create_spelling db.creates in
    let rows = flat_map (list_spelling row_spelling) db.rows in
    let regroup : ((version ++ number) ++ texts) ++ rows ≡ version ++ (number ++ (texts ++ rows)) =
    ap (λ (front : List ℕ). front ++ rows) (append_assoc version number texts) ∙ append_assoc version (number ++ texts) rows ∙ ap (λ (tail : List ℕ). version ++ tail) (append_assoc number texts rows) in
    g ∙ rw (f, e, d, c, b, a) (ap (λ (front : List ℕ). front ++ 0 ∷ []) regroup)

pub same_bytes : (image : Image) (db : Db) (bytes gated : List ℕ) → IsImage image bytes → IsLawfulImage image db → IsGatedImage db image.commits gated → gated ≡ bytes ++ 0 ∷ []
same_bytes image db bytes gated is lawful frame =
    let own = image-spelled image bytes is in
    let again : IsImage (image_from db image.commits) frame.image = frame.is_image own.1.within.commits in
    let spelled : frame.image ≡ image_spelling (image_from db image.commits) = (image-spelled (image_from db image.commits) frame.image again).0 in
    let made : List CreateText → List (List Row) → Image = λ creates tables. record { commits = image.commits; creates = creates; tables = tables } in
    let one : image_from db image.commits ≡ image = ap (λ creates. made creates db.rows) lawful.creates ∙ ap (made image.creates) lawful.rows in
    let same : frame.image ≡ bytes = spelled ∙ ap image_spelling one ∙ sym own.0 in
    frame.parts ∙ ap (λ (front : List ℕ). front ++ 0 ∷ []) same
