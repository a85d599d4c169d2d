-- What is written of a commit is framed.
use Rattle.std.proofs.Common.{◌≡◌, ℕ, ◌≤◌, List, [], ◌∷◌, ◌++◌, length, subst, sym, ◌∙◌, append_assoc, arith}
use Rattle.own_model.specs.declared.limit.TheConstants.{PAYLOAD_BYTES}
use Rattle.disk_model.specs.declared.commit.Commit.{Commit}
use Rattle.disk_model.specs.Bounds.{IsBounded, IsTyped}
use Rattle.disk_model.specs.Number.{IsNumber}
use Rattle.disk_model.specs.Payload.{IsPayload}
use Rattle.disk_model.specs.Spelling.{number_spelling, payload_spelling}
use Rattle.disk_model.proofs.Numbers.{number4-of_spelling}
use Rattle.disk_model.proofs.Spelled.{payload-of_spelling, payload-spelled}
use Rattle.rec_codec.specs.Framed.{IsFramed, payload_length}

pub is_framed : (commit : Commit) (bytes : List ℕ) → IsBounded commit → IsTyped commit → payload_length commit ≤ PAYLOAD_BYTES
    → bytes ≡ number_spelling 4 (payload_length commit) ++ (payload_spelling commit ++ 0 ∷ []) → IsFramed commit bytes
is_framed commit bytes bounded typed few is = record {
  payload = payload_spelling commit;
  is_payload = payload-of_spelling commit bounded typed;
  few = few;
  parts = subst (λ (bytes : List ℕ). IsNumber 4 (payload_length commit) bytes (payload_spelling commit ++ 0 ∷ [])) (sym is)
      (number4-of_spelling (payload_length commit) (payload_spelling commit ++ 0 ∷ []) (omega arith));
}

-- the four pieces, each written behind those before it
pub one_behind_another : (commit : Commit) (count : ℕ) (none first second third bytes : List ℕ) → count ≡ payload_length commit → none ≡ [] → first ≡ none ++ number_spelling 4 count
    → second ≡ first ++ payload_spelling commit → third ≡ second ++ 0 ∷ [] → bytes ≡ third
    → bytes ≡ number_spelling 4 (payload_length commit) ++ (payload_spelling commit ++ 0 ∷ [])
one_behind_another commit count none first second third bytes is a b c d e =
    e ∙ rw (d, c, b, a, is) (append_assoc (number_spelling 4 (payload_length commit)) (payload_spelling commit) (0 ∷ []))

pub same_bytes : (commit : Commit) (payload framed : List ℕ) → IsPayload commit payload → IsFramed commit framed → IsNumber 4 (length payload) framed (payload ++ 0 ∷ [])
same_bytes commit payload framed is frame =
    let one : frame.payload ≡ payload = (payload-spelled commit frame.payload frame.is_payload).0 ∙ sym (payload-spelled commit payload is).0 in
    subst (λ (payload : List ℕ). IsNumber 4 (length payload) framed (payload ++ 0 ∷ [])) one frame.parts
