-- Keys that differ, from their end.
use Rattle.std.proofs.Common.{◌≡◌, List, [], ◌∷◌, length}
use Rattle.std.specs.Prelude.{false}
use Rattle.std.specs.List.{AllByRecursion, IsDistinct}
use Rattle.std.specs.Ordering.{is_eq}
use Rattle.own_base.specs.Key.{key_cmp}
use Rattle.own_base.specs.declared.change.Change.{Change}
use Rattle.page_model.proofs.RisingLemmas.{each_mapped}
use Rattle.state_model.specs.MayBePut.{KeysDiffer}
use Rattle.state_model.specs.Put.{changed_key}

pub none_differ : (changes : List Change) → length changes ≡ 0 → KeysDiffer changes
unfolding IsDistinct
none_differ [] none = tt
none_differ (change ∷ changes) none = absurd (cc)

-- a change in front of changes whose keys differ, with a key that none of them has
pub more_differ : (change : Change) (changes : List Change)
    → AllByRecursion (λ other. is_eq (key_cmp (changed_key change) (changed_key other)) ≡ false) changes → KeysDiffer changes → KeysDiffer (change ∷ changes)
unfolding IsDistinct
more_differ change changes others differ = (each_mapped _ changed_key changes others, differ)
