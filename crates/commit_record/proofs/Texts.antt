-- The texts of creates that calls ask for, and how long the records of these and of names are.
use Rattle.std.proofs.Common.{◌≡◌, ℕ, ◌+◌, ◌*◌, ◌≤◌, List, length, arith, refl, subst, sym}
use Rattle.std.specs.Prelude.{IsUtf8, Bool, false, true, Result, Err}
use Rattle.own_base.specs.declared.row_name.RowName.{RowName}
use Rattle.own_base.specs.declared.value.Value.{Value}
use Rattle.own_base.specs.declared.value.Value.TheVariants.{Null, Int, Text, Sum}
use Rattle.own_model.specs.declared.limit.TheConstants.{PAYLOAD_BYTES, STATEMENT_BYTES, TEXT_BYTES}
use Rattle.own_model.specs.declared.statement.Statement.{Statement}
use Rattle.text_model.specs.Canonical.{canonical}
use Rattle.grammar_model.specs.Answer.{IsAnswer, GivesStatement}
use Rattle.grammar_model.specs.Readable.{IsWritten}
use Rattle.state_model.specs.Created.{Create, OfTable, OfView, statement_of, text_of}
use Rattle.state_model.proofs.CanonicalBytes.{canonical-short}
use Rattle.disk_model.specs.declared.commit.Commit.TheVariants.{Forget}
use Rattle.disk_model.specs.Bounds.{IsShortName, IsShortValue}
use Rattle.disk_model.specs.Spelling.{value_spelling}
use Rattle.disk_model.specs.TextOf.{IsTextOf}
use Rattle.disk_model.specs.Value.{as_value}
use Rattle.rec_codec.specs.Framed.{Encodes, payload_length}
use Rattle.rec_codec.specs.declared.fault.EncodeFault.{EncodeFault}
use Rattle.rec_codec.specs.declared.fault.EncodeFault.TheVariants.{TooBig}
use Rattle.commit_record.specs.Recorded.{create_commit}

module _ (reads_back : (most : ℕ) (statement : Statement) → IsWritten most statement → IsAnswer (canonical statement) (GivesStatement statement)) where
  reads : (create : Create) → IsWritten STATEMENT_BYTES (statement_of create) → IsAnswer (text_of create).text (GivesStatement (statement_of create))
  reads (OfTable table) written = reads_back STATEMENT_BYTES (statement_of (OfTable table)) written
  reads (OfView view) written = reads_back STATEMENT_BYTES (statement_of (OfView view)) written

  -- the canonical text of a create that a call asks for is one by which it is kept
  pub kept-text-of : (create : Create) → IsWritten STATEMENT_BYTES (statement_of create) → IsUtf8 (text_of create).text → IsTextOf create (text_of create)
  kept-text-of create written utf8 =
      let short = canonical-short create STATEMENT_BYTES written in
      record { few = omega arith; utf8 = utf8; read = reads create written; canonical = refl }

-- and is never too long for a record
pub short-create : (create : Create) → IsWritten STATEMENT_BYTES (statement_of create) → payload_length (create_commit (text_of create).view (text_of create).text) ≤ PAYLOAD_BYTES
short-create create written = by (text_of create).view (canonical-short create STATEMENT_BYTES written)
  where
    by : (view : Bool) → length (text_of create).text ≤ 2 * STATEMENT_BYTES → payload_length (create_commit view (text_of create).text) ≤ PAYLOAD_BYTES
    by false short = omega arith
    by true short = omega arith

-- a short value takes few bytes
short_value : (value : Value) → IsShortValue value → length (value_spelling value) ≤ 9 + TEXT_BYTES
short_value Null short = omega arith
short_value (Int number) short = omega arith
short_value (Text text) short = omega arith
short_value (Sum number) short = absurd short

-- so a FORGET of a short name is never too long for a record either
pub short-forget : (name : RowName) → IsShortName name → payload_length (Forget name) ≤ PAYLOAD_BYTES
short-forget name short = let few = short_value (as_value name.key) short in omega arith

pub forget-fits : (name copied : RowName) (result : Result (List ℕ) EncodeFault) (count : ℕ) → IsShortName name → copied ≡ name → Encodes (Forget copied) result → result ≡ Err (TooBig count) → ⊥
forget-fits name copied result count short same encodes is =
    let long = subst (Encodes (Forget copied)) is encodes in
    let counted = long.0 in
    let past = long.1 in
    let few = short-forget copied (subst IsShortName (sym same) short) in
    omega arith
