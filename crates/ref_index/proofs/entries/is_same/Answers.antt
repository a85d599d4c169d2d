use Rattle.std.proofs.Common.{◌≡◌}
use Rattle.std.specs.Prelude.{true}
use Rattle.std.specs.Ordering.{is_eq}
use Rattle.own_base.specs.Key.{key_cmp}
use Rattle.page_model.proofs.Ordered.{equal_from}
use Rattle.ordered_pairs.specs.KeyExact.{key_exact}
use Rattle.ref_index.proofs.entries.is_same.Goals as goal

-- Keys that tie are one.
pub returns-in-Some-Some : goal.returns-in-Some-Some
returns-in-Some-Some c = λ is.
    let before = c.in-Some-Some.before in
    let after = c.in-Some-Some.after in
    let tied : is_eq (key_cmp before after) ≡ true = cc in
    let same : before ≡ after = key_exact before after (equal_from _ tied) in
    cc
