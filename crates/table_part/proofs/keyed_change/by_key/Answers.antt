use Rattle.std.proofs.Common.{◌≡◌, ◌∙◌, sym, subst, map, rules}
use Rattle.std.specs.List.Sorted.{IsPermutation}
use Rattle.std.proofs.lemmas.List.{take_all}
use Rattle.std.proofs.lemmas.List.Sorted.{IsPermutation-map}
use Rattle.state_model.specs.MayBePut.{KeysDiffer}
use Rattle.table_part.specs.Lent.{lent}
use Rattle.table_part.proofs.SortedChanges.{rising_by_key}
use Rattle.table_part.proofs.keyed_change.by_key.Goals as goal

-- each call of the sort's closure compares two changes by their keys
pub returns-clause-rising : goal.returns-clause-rising
returns-clause-rising c =
    let all : map lent c.loop-change.keyed.items ≡ c.args.changes.now = c.loop-change.invariant ∙ take_all c.loop-change.change-index c.args.changes.now c.loop-change-test.false in
    rising_by_key c.loop-change.keyed.items c.sort_unstable_by.new.self.items (subst KeysDiffer (sym all) c.requires) c.sort_unstable_by.ensures.permutation c.sort_unstable_by.ensures.sorted (λ a r q k. search rules)

pub returns-clause-same : goal.returns-clause-same
returns-clause-same c =
    let all : map lent c.loop-change.keyed.items ≡ c.args.changes.now = c.loop-change.invariant ∙ take_all c.loop-change.change-index c.args.changes.now c.loop-change-test.false in
    subst (λ given. IsPermutation given (map lent c.sort_unstable_by.new.self.items)) all (IsPermutation-map lent _ _ c.sort_unstable_by.ensures.permutation)
