use Rattle.std.proofs.Common.{◌≡◌, sym, ◌∙◌, subst}
use Rattle.std.specs.List.{dedup}
use Rattle.std.proofs.lemmas.List.Filters.{dedup_is}
use Rattle.std.proofs.lemmas.List.Kept.{Contains-dedup, Contains-from_dedup, IsStrictlySortedBy-dedup}
use Rattle.std.proofs.lemmas.List.Sorted.{Contains-permutation, IsPermutation-sym}
use Rattle.owner_sets.specs.IsSortedSet.{IsSortedSet}
use Rattle.owner_sets.proofs.DerivedOrder.{derived_eq, derived_equal, derived_exact, derived_ties, derived_total, rising_by_name}
use Rattle.owner_index.proofs.gather.as_set.Goals as goal

-- the sort puts them in order, and equal ones then stand side by side
pub returns : goal.returns
returns c =
    let given = c.args.subjects.items in
    let sorted = c.sort_unstable.new.self.items in
    let is : c.from_vec.result ≡ dedup derived_eq sorted = c.from_vec.ensures ∙ dedup_is derived_eq sorted c.dedup.new.self.items c.dedup.ensures.filtered in
    let moved = c.sort_unstable.ensures.permutation in
    let as_sorted : IsSortedSet given (dedup derived_eq sorted) = record {
      rising = rising_by_name (dedup derived_eq sorted) (IsStrictlySortedBy-dedup derived_total derived_ties sorted c.sort_unstable.ensures.sorted);
      same = λ subject. (
        (λ among. Contains-permutation sorted given subject (IsPermutation-sym given sorted moved) (Contains-from_dedup derived_eq sorted subject among)),
        (λ among. Contains-dedup derived_equal derived_exact sorted subject (Contains-permutation given sorted subject moved among)),
      );
    } in
    subst (IsSortedSet given) (sym is) as_sorted
