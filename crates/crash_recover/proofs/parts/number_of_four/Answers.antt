use Rattle.std.proofs.Common.{◌≡◌, ℕ, List, take, ap, sym, subst, ◌∙◌, arith}
use Rattle.std.specs.Int.{w32, from_be_bytes}
use Rattle.disk_model.specs.Number.{IsNumber}
use Rattle.disk_fields.proofs.ReadNumbers.{are_bytes}
use Rattle.crash_recover.proofs.ReadParts.{number4_here}
use Rattle.crash_recover.proofs.parts.number_of_four.Goals as goal

pub returns-clause-some : goal.returns-clause-some
returns-clause-some c =
    let bytes = c.args.bytes.now in
    let cases = c.in_ok-front.ensures.cases in
    let value : from_be_bytes w32 (take 4 bytes) ≡ c.from.result = ap (from_be_bytes w32) (sym cases.0) ∙ sym c.from_be_bytes.ensures ∙ sym c.from.ensures in
    subst (λ (n : ℕ). IsNumber 4 n bytes c.in_ok-front.rest.now) value
    (subst (λ (rest : List ℕ). IsNumber 4 (from_be_bytes w32 (take 4 bytes)) bytes rest) (sym cases.1)
    (number4_here bytes (are_bytes bytes (λ i. omega (arith, c.type_inv.bytes i))) (omega (arith, cases.2))))
