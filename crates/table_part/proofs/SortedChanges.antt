-- Changes, sorted by a closure that compares their keys.
use Rattle.std.proofs.Common.{◌≡◌, subst, Bool, List, Ordering, Bor, map}
use Rattle.std.specs.Fn.{Called, Mut}
use Rattle.std.specs.List.{IsDistinct}
use Rattle.std.specs.List.Sorted.{IsPermutation, IsSortedByClosure}
use Rattle.std.specs.Ordering.{is_eq, is_lt}
use Rattle.std.proofs.lemmas.Fn.{always_returns_same}
use Rattle.std.proofs.lemmas.List.Sorted.{ranks_by}
use Rattle.own_base.specs.Key.{key_cmp}
use Rattle.own_model.proofs.KeyOrder.{key_order}
use Rattle.page_model.specs.Rising.{IsRising}
use Rattle.page_model.proofs.InOrder.{rising_sorted}
use Rattle.state_model.specs.MayBePut.{KeysDiffer}
use Rattle.state_model.specs.Put.{changed_key}
use Rattle.table_part.specs.Lent.{lent}
use Rattle.table_part.specs.declared.keyed_change.KeyedChange.{KeyedChange}
use Rattle.table_part.proofs.AnyOrder.{map_twice}

-- they rise where their keys differ
pub rising_by_key : {F : Type 0} {g : Mut F (Bor KeyedChange × (Bor KeyedChange × Unit {0})) Ordering} {f : F} (given sorted : List KeyedChange)
    → KeysDiffer (map lent given) → IsPermutation given sorted → IsSortedByClosure g f sorted
    → ((a : Bor KeyedChange × (Bor KeyedChange × Unit {0})) (r : Ordering) (f' : F) → Called g f a r f' → (is_lt r ≡ is_lt (key_cmp (changed_key (lent a.0.now)) (changed_key (lent a.1.0.now)))) × (f' ≡ f))
    → IsRising (λ one. changed_key (lent one)) key_cmp sorted
rising_by_key {g = g} {f = f} given sorted differ moved sorts compares =
    let before : KeyedChange → KeyedChange → Bool = λ left right. is_lt (key_cmp (changed_key (lent left)) (changed_key (lent right))) in
    rising_sorted (λ one. changed_key (lent one)) key_order given sorted (subst (IsDistinct (λ a b. is_eq (key_cmp a b))) (map_twice changed_key lent given) differ) moved
    (sorts before (ranks_by key_order (λ one. changed_key (lent one))) (always_returns_same g (λ a r. is_lt r ≡ before a.0.now a.1.0.now) f compares))
