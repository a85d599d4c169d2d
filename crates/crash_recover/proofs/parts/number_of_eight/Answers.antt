use Rattle.std.proofs.Common.{◌≡◌, ℕ, List, take, ap, sym, subst, ◌∙◌, arith}
use Rattle.std.specs.Int.{w64, from_be_bytes}
use Rattle.disk_model.specs.Number.{IsNumber}
use Rattle.disk_fields.proofs.ReadNumbers.{are_bytes}
use Rattle.crash_recover.proofs.ReadParts.{number8_here}
use Rattle.crash_recover.proofs.parts.number_of_eight.Goals as goal

pub returns-clause-some : goal.returns-clause-some
returns-clause-some c =
    let bytes = c.args.bytes.now in
    let cases = c.in_ok-front.ensures.cases in
    let value : from_be_bytes w64 (take 8 bytes) ≡ c.from_be_bytes.result = ap (from_be_bytes w64) (sym cases.0) ∙ sym c.from_be_bytes.ensures in
    subst (λ (n : ℕ). IsNumber 8 n bytes c.in_ok-front.rest.now) value
    (subst (λ (rest : List ℕ). IsNumber 8 (from_be_bytes w64 (take 8 bytes)) bytes rest) (sym cases.1)
    (number8_here bytes (are_bytes bytes (λ i. omega (arith, c.type_inv.bytes i))) (omega (arith, cases.2))))
