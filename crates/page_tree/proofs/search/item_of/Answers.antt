use Rattle.std.proofs.Common.{◌≡◌, refl, sym, length}
use Rattle.std.specs.Prelude.{true, false}
use Rattle.std.specs.Ordering.{is_eq}
use Rattle.std.proofs.lemmas.Option.{slice_get_past, slice_get_read}
use Rattle.page_model.proofs.FoundLemmas.{found_here, found_none, found_other}
use Rattle.page_tree.proofs.search.item_of.Goals as goal

-- The key's place is the end.
pub returns-in_err-item : goal.returns-in_err-item
returns-in_err-item g c =
    let past = c.in_err-item.ensures in
    let none = slice_get_past c.args.items.now c.place_of-place.result past.lookup.3 in
    let is = found_none (g.By.KeyOf.key_of c.args.by) g.met.By.KeyOf.total c.args.key.now c.args.items.now c.place_of-place.result c.place_of-place.ensures none in
    rw is (cc)

-- The key's item stands there.
pub returns-then-is_eq : goal.returns-then-is_eq
returns-then-is_eq g c =
    let there = c.in_ok-item.ensures in
    let here = slice_get_read c.args.items.now (length c.args.items.now) c.place_of-place.result c.in_ok-item.item.now refl there.lookup.3.0 there.lookup.1 in
    let equal : is_eq (g.By.KeyOf.key_cmp (g.By.KeyOf.key_of c.args.by c.in_ok-item.item.now) c.args.key.now) ≡ true = cc in
    sym (found_here (g.By.KeyOf.key_of c.args.by) g.met.By.KeyOf.total c.args.key.now c.args.items.now c.place_of-place.result c.in_ok-item.item.now c.place_of-place.ensures here equal)

-- Another item stands there.
pub returns-else-is_eq : goal.returns-else-is_eq
returns-else-is_eq g c =
    let there = c.in_ok-item.ensures in
    let here = slice_get_read c.args.items.now (length c.args.items.now) c.place_of-place.result c.in_ok-item.item.now refl there.lookup.3.0 there.lookup.1 in
    let other : is_eq (g.By.KeyOf.key_cmp (g.By.KeyOf.key_of c.args.by c.in_ok-item.item.now) c.args.key.now) ≡ false = cc in
    sym (found_other (g.By.KeyOf.key_of c.args.by) g.met.By.KeyOf.total c.args.key.now c.args.items.now c.place_of-place.result c.in_ok-item.item.now c.requires c.place_of-place.ensures here other)
