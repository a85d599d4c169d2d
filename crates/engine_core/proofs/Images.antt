-- The image of a database with a commit more.
use Rattle.std.proofs.Common.{◌≡◌, ℕ, ◌+◌, ◌-◌, ◌^◌, ◌<◌, List, Bool, true, false, arith, lit<, min, refl, subst}
use Rattle.std.specs.Prelude.{nat_lt}
use Rattle.std.proofs.lemmas.Bool.{ltb-false, ltb-true}
use Rattle.own_model.specs.declared.limit.TheConstants.{JOURNAL_ROOM}
use Rattle.own_model.specs.Db.{Db}
use Rattle.check_image.specs.Gated.{IsGatedImage}

-- past the greatest number of commits bytes are no image, whichever number is told
gated_past : (db : Db) (one other : ℕ) (bytes : List ℕ) → JOURNAL_ROOM < one → JOURNAL_ROOM < other → IsGatedImage db one bytes → IsGatedImage db other bytes
gated_past db one other bytes past far is = record {
  image = is.image;
  parts = is.parts;
  is_image = λ few. absurd (omega arith);
  only = λ image found. let few = is.only image found in absurd (omega arith);
}

abbrev greatest : ℕ
greatest = 2 ^ 64 - 1

room_below : JOURNAL_ROOM < greatest
room_below = lit< tt

-- so 64 bits tell as much of it as there is to tell
pub gated-next : (db : Db) (commits : ℕ) (bytes : List ℕ) → IsGatedImage db (min (commits + 1) greatest) bytes → IsGatedImage db (commits + 1) bytes
gated-next db commits bytes is = by (nat_lt greatest (commits + 1)) refl
  where
    by : (b : Bool) → nat_lt greatest (commits + 1) ≡ b → IsGatedImage db (commits + 1) bytes
    by true past =
        let far = ltb-true greatest (commits + 1) past in
        let room = room_below in
        gated_past db (min (commits + 1) greatest) (commits + 1) bytes (omega arith) (omega arith) is
    by false few =
        let near = ltb-false greatest (commits + 1) few in
        let same : min (commits + 1) greatest ≡ commits + 1 = omega arith in
        subst (λ number. IsGatedImage db number bytes) same is
