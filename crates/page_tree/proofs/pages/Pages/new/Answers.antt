use Rattle.std.specs.List.Sorted.{IsStrictlySortedBy}
use Rattle.page_tree.proofs.pages.Pages.new.Goals as goal

-- no keys rise
pub invariant_of-result : goal.invariant_of-result
unfolding IsStrictlySortedBy
invariant_of-result g c = (tt, tt)
