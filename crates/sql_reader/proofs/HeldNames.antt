-- A token that is spelled as a name is, is that name.
use Rattle.std.proofs.Common.{◌≡◌, ℕ, true, List, [], ◌∷◌, length, map, refl, inl, inr, arith}
use Rattle.std.specs.Prelude.{Ok, nat_le}
use Rattle.std.specs.Char.{to_ascii_lowercase}
use Rattle.std.specs.List.{list_all}
use Rattle.std.proofs.lemmas.Bool.{and_parts}
use Rattle.std.proofs.lemmas.Bool.Decides.{leb_tells, nat_tests}
use Rattle.own_base.specs.declared.text.TheConstants.{NAME_BYTES}
use Rattle.own_base.specs.Name.{IsName, begins_name, continues_name, is_spelled}
use Rattle.grammar_model.specs.Limits.{store_limits}
use Rattle.sql_reader.specs.reading.Judges.{folded}

-- a byte of a name is in lower case
lowered_byte : (byte : ℕ) → continues_name byte ≡ true → to_ascii_lowercase byte ≡ byte
lowered_byte byte is = grind (arith, nat_tests)

lowered_rest : (bytes : List ℕ) → list_all continues_name bytes ≡ true → map to_ascii_lowercase bytes ≡ bytes
lowered_rest [] all = refl
lowered_rest (byte ∷ bytes) all =
    let both = and_parts (continues_name byte) (list_all continues_name bytes) all in
    λ i. lowered_byte byte both.0 i ∷ lowered_rest bytes both.1 i

begins_continues : (byte : ℕ) → begins_name byte ≡ true → continues_name byte ≡ true
begins_continues byte is = rw is refl

lowered : (name : List ℕ) → is_spelled name ≡ true → map to_ascii_lowercase name ≡ name
lowered [] is = refl
lowered (byte ∷ bytes) is =
    let both = and_parts (begins_name byte) (list_all continues_name bytes) is in
    λ i. lowered_byte byte (begins_continues byte both.0) i ∷ lowered_rest bytes both.1 i

-- so a name, put into lower case, is that name
pub held : (name : List ℕ) → IsName name → folded store_limits (map to_ascii_lowercase name) ≡ Ok name
held name is =
    let spelled : is_spelled name ≡ true = is.spelled in
    let fits : nat_le (length name) NAME_BYTES ≡ true = elim (leb_tells (length name) NAME_BYTES) [
      | inl most ↦ most.0
      | inr more ↦ absurd (omega (arith, is.short, more.1))
    ] in
    rw (lowered name spelled, spelled, fits) refl
