use Rattle.std.proofs.Common.{◌≡◌, refl, length, add-one, arith}
use Rattle.std.specs.Prelude.{true, false}
use Rattle.std.specs.Ordering.{is_eq}
use Rattle.std.proofs.lemmas.Bool.Decides.{nat_tests}
use Rattle.std.proofs.lemmas.Option.{slice_get_past, slice_get_read}
use Rattle.page_model.proofs.SplitLemmas.{above_here, above_none, above_other}
use Rattle.page_tree.proofs.merge.above_from.Goals as goal

-- No item stands at the key's place.
pub returns-then-place-items-clause-above : goal.returns-then-place-items-clause-above
returns-then-place-items-clause-above g c =
    let none = slice_get_past c.args.items.now c.args.place (grind (arith, nat_tests)) in
    above_none (g.By.KeyOf.key_of c.args.by) g.met.By.KeyOf.total c.args.key.now c.args.items.now c.args.place c.requires.place none

-- The key's item stands there.
pub returns-then-is_eq-clause-above : goal.returns-then-is_eq-clause-above
returns-then-is_eq-clause-above g c =
    let here = slice_get_read c.args.items.now (length c.args.items.now) c.args.place c.index-items-place.result refl (let w = c.requires.place.within in grind (arith, nat_tests)) c.index-items-place.is in
    let equal : is_eq (g.By.KeyOf.key_cmp (g.By.KeyOf.key_of c.args.by c.index-items-place.result) c.args.key.now) ≡ true = cc in
    rw add-one
    (above_here (g.By.KeyOf.key_of c.args.by) g.met.By.KeyOf.total c.args.key.now c.args.items.now c.args.place c.index-items-place.result c.requires.place c.requires.rising here equal)

-- Another item stands there.
pub returns-else-is_eq-clause-above : goal.returns-else-is_eq-clause-above
returns-else-is_eq-clause-above g c =
    let here = slice_get_read c.args.items.now (length c.args.items.now) c.args.place c.index-items-place.result refl (let w = c.requires.place.within in grind (arith, nat_tests)) c.index-items-place.is in
    let other : is_eq (g.By.KeyOf.key_cmp (g.By.KeyOf.key_of c.args.by c.index-items-place.result) c.args.key.now) ≡ false = cc in
    above_other (g.By.KeyOf.key_of c.args.by) g.met.By.KeyOf.total c.args.key.now c.args.items.now c.args.place c.index-items-place.result c.requires.place c.requires.rising here other
