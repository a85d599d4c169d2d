use Rattle.std.proofs.Common.{◌≡◌, ◌≤◌, ◌<◌, ◌^◌, ◌+◌, ◌∙◌, length, ap, arith, rules}
use Rattle.own_model.specs.declared.limit.TheConstants.{TABLES, VIEWS}
use Rattle.disk_model.specs.Image.{table_count}
use Rattle.disk_fields.proofs.ReadNumbers.{are_bytes}
use Rattle.check_image.proofs.ReadImage.{commits_found, creates_found, tables_few}
use Rattle.check_image.proofs.decoding.fields_of.Goals as goal

pub overflow_cast-count : goal.overflow_cast-count
overflow_cast-count c =
    let first = commits_found c.args.bytes.now (c.in_ok-commits.commits, c.in_ok-commits.rest.now) (are_bytes c.args.bytes.now (λ i. omega (arith, c.type_inv.bytes i))) c.in_ok-commits.ensures in
    let second = creates_found c.in_ok-commits.rest.now (c.in_ok-creates.creates, c.in_ok-creates.rest.now) first.1 c.in_ok-creates.ensures in
    let counted : c.table_count-count.result ≡ table_count c.in_ok-creates.creates = c.table_count-count.ensures ∙ ap table_count c.items.ensures in
    let few = tables_few c.in_ok-creates.creates in
    let most : length c.in_ok-creates.creates ≤ TABLES + VIEWS = second.0.0 in
    let fits : c.table_count-count.result < 2 ^ 32 = omega arith in
    search rules
