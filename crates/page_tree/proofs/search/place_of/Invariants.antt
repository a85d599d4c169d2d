use Rattle.std.proofs.Common.{◌≡◌, take}
use Rattle.std.specs.List.{AllByRecursion as Each}
use Rattle.std.specs.declared.cmp.Ordering.TheVariants.{Less}
use Rattle.page_tree.proofs.search.place_of.Given as goal

-- all so far are below the key
abbrev pub invariant-loop-place : goal.invariant-loop-place
invariant-loop-place g l = Each (λ item. g.By.KeyOf.key_cmp (g.By.KeyOf.key_of l.by item) l.key ≡ Less) (take l.place l.items)
