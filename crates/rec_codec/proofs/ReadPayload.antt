-- The commit that is read is the one whose payload the bytes are.
use Rattle.std.proofs.Common.{◌≡◌, ℕ, zero, suc, cond, List, [], ◌∷◌, length, refl, subst, arith}
use Rattle.std.specs.Prelude.{Some, None}
use Rattle.disk_model.specs.declared.commit.Commit.{Commit}
use Rattle.disk_model.specs.declared.commit.Commit.TheVariants.{CreateTable, CreateView, Changes, Forget}
use Rattle.disk_model.specs.Payload.{IsName, IsPayload, IsPut}
use Rattle.disk_model.specs.Row.{IsList}
use Rattle.disk_model.specs.Text.{IsText}
use Rattle.disk_model.proofs.Numbers.{number4-spelled}
use Rattle.disk_fields.specs.Reading.{all_of, list_at, most_bytes, name_at, put_at, text_at}
use Rattle.disk_fields.proofs.ReadNumbers.{AreBytes, IsTextUpTo, bind_some, let_through, some_is, text}
use Rattle.disk_fields.proofs.ReadFields.{list, name, put}
use Rattle.disk_fields.proofs.ReadWhole.{all-found, all-only}
use Rattle.rec_codec.specs.Reading.{are_changes, changes_of, payload_of}
use Rattle.rec_codec.proofs.RisingNames.{changes-found, changes-only}

short_text : (x bytes rest : List ℕ) → IsText x bytes rest → IsTextUpTo most_bytes x bytes rest
short_text x bytes rest is = let short = (number4-spelled (length x) bytes is.0 is.1).1 in (omega arith, is)

pub payload-found : (bytes : List ℕ) (commit : Commit) → AreBytes bytes → payload_of bytes ≡ Some commit → IsPayload commit bytes
unfolding payload_of changes_of
payload-found [] commit all is = absurd cc
payload-found (zero ∷ bytes) commit all is = absurd cc
payload-found (suc zero ∷ bytes) commit all is =
    let part = bind_some (all_of (text_at most_bytes bytes)) (λ text. Some (CreateTable text)) commit is in
    let own = all-found (IsTextUpTo most_bytes) (text_at most_bytes) (text most_bytes) bytes part.0 all.1 part.1 in
    subst (λ (commit : Commit). IsPayload commit (1 ∷ bytes)) (some_is _ commit part.2) (refl, own.1)
payload-found (suc (suc zero) ∷ bytes) commit all is =
    let part = bind_some (all_of (text_at most_bytes bytes)) (λ text. Some (CreateView text)) commit is in
    let own = all-found (IsTextUpTo most_bytes) (text_at most_bytes) (text most_bytes) bytes part.0 all.1 part.1 in
    subst (λ (commit : Commit). IsPayload commit (2 ∷ bytes)) (some_is _ commit part.2) (refl, own.1)
payload-found (suc (suc (suc zero)) ∷ bytes) commit all is =
    let part = bind_some (all_of (list_at put_at bytes)) (λ puts. cond (are_changes puts) (Some (Changes puts)) None) commit is in
    let own = all-found (IsList IsPut) (list_at put_at) (list IsPut put_at put) bytes part.0 all.1 part.1 in
    let through = let_through (are_changes part.0) (Some (Changes part.0)) commit part.2 in
    subst (λ (commit : Commit). IsPayload commit (3 ∷ bytes)) (some_is _ commit through.1) (refl, changes-found part.0 through.0, own)
payload-found (suc (suc (suc (suc zero))) ∷ bytes) commit all is =
    let part = bind_some (all_of (name_at bytes)) (λ name. Some (Forget name)) commit is in
    let own = all-found IsName name_at name bytes part.0 all.1 part.1 in
    subst (λ (commit : Commit). IsPayload commit (4 ∷ bytes)) (some_is _ commit part.2) (refl, own)
payload-found (suc (suc (suc (suc (suc kind)))) ∷ bytes) commit all is = absurd cc

pub payload-only : (commit : Commit) (bytes : List ℕ) → IsPayload commit bytes → payload_of bytes ≡ Some commit
unfolding payload_of changes_of
payload-only commit [] is = absurd is
payload-only (CreateTable x) (kind ∷ bytes) is =
    rw (is.0, all-only (IsTextUpTo most_bytes) (text_at most_bytes) (text most_bytes) x bytes (short_text x bytes [] is.1)) refl
payload-only (CreateView x) (kind ∷ bytes) is =
    rw (is.0, all-only (IsTextUpTo most_bytes) (text_at most_bytes) (text most_bytes) x bytes (short_text x bytes [] is.1)) refl
payload-only (Changes puts) (kind ∷ bytes) is =
    rw (is.0, all-only (IsList IsPut) (list_at put_at) (list IsPut put_at put) puts bytes is.2, changes-only puts is.1) refl
payload-only (Forget x) (kind ∷ bytes) is = rw (is.0, all-only IsName name_at name x bytes is.1) refl

pub payload-none : (bytes : List ℕ) → payload_of bytes ≡ None → (commit : Commit) → IsPayload commit bytes → ⊥
payload-none bytes none commit is = let found = payload-only commit bytes is in cc
