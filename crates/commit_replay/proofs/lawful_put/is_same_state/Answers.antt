use Rattle.std.proofs.Common.{◌≡◌, ◌∙◌, ap, sym}
use Rattle.std.specs.Prelude.{Option, Some}
use Rattle.own_model.specs.Db.{Row}
use Rattle.commit_replay.proofs.SameValues.{row-Decides}
use Rattle.commit_replay.proofs.lawful_put.is_same_state.Goals as goal

some-same : (one other : Row) → ◌≡◌ {A = Option Row} (Some one) (Some other) → one ≡ other
some-same one other same = cc

pub returns-in-Some-Some : goal.returns-in-Some-Some
returns-in-Some-Some c =
    let tells = row-Decides c.values.result.now c.values-in-Some-Some.result.now c.eq.result c.eq.ensures in
    let one = c.values.ensures in
    let other = c.values-in-Some-Some.ensures in
    rw (c.in-Some-Some.is-0, c.in-Some-Some.is-1)
    ((λ is. ap Some (sym one ∙ (tells.0 is ∙ other))), λ same. tells.1 (one ∙ (some-same c.in-Some-Some.one.now c.in-Some-Some.other.now same ∙ sym other)))
