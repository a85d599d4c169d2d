-- The first of some rows, and a key.
use Rattle.std.proofs.Common.{◌≡◌, refl, List, [], ◌∷◌, arith}
use Rattle.std.specs.Prelude.{false, true}
use Rattle.std.specs.Ordering.{is_eq, is_gt, is_lt}
use Rattle.std.specs.declared.cmp.Ordering.{Ordering}
use Rattle.std.specs.declared.cmp.Ordering.TheVariants.{Less, Equal, Greater}
use Rattle.own_base.specs.Key.{key_cmp}
use Rattle.own_base.specs.declared.value.Key.{Key}
use Rattle.own_model.specs.declared.schema.TableDef.{TableDef}
use Rattle.own_model.specs.Db.{Row, key_of}
use Rattle.own_model.proofs.KeyOrder.{key_order}
use Rattle.page_model.specs.Changed.{above_key, below_key}
use Rattle.page_model.specs.Place.{IsPlaceOf}
use Rattle.page_model.specs.Rising.{IsRising}
use Rattle.page_model.proofs.Ordered.{not_below_above}
use Rattle.page_model.proofs.RisingLemmas.{each_weaker, rising_behind}
use Rattle.page_model.proofs.SplitLemmas.{above_here, above_other, below_is}

module _ (table : TableDef) (key : Key) (row : Row) (rows : List Row) where
  -- a first row that is below the key
  pub first_below : is_lt (key_cmp (key_of table row) key) ≡ true → below_key (key_of table) key_cmp key (row ∷ rows) ≡ row ∷ below_key (key_of table) key_cmp key rows
  first_below less = rw less refl

  not_above : (order : Ordering) → is_lt order ≡ true → is_gt order ≡ false
  not_above Less less = refl
  not_above Equal less = refl
  not_above Greater less = cc

  pub above_first : is_lt (key_cmp (key_of table row) key) ≡ true → above_key (key_of table) key_cmp key rows ≡ above_key (key_of table) key_cmp key (row ∷ rows)
  above_first less = rw (not_above _ less) refl

  module _ (rising : IsRising (key_of table) key_cmp (row ∷ rows)) (upto : is_lt (key_cmp (key_of table row) key) ≡ false) where
    -- else none is, and the key falls before them
    place : IsPlaceOf (key_of table) key_cmp key (row ∷ rows) 0
    place = record {
      within = omega arith;
      before = tt;
      behind = (upto, each_weaker _ _ (λ y less. not_below_above key_order (key_of table row) (key_of table y) key upto less) rows (rising_behind (key_of table) key_cmp row rows rising));
    }

    pub none_below : below_key (key_of table) key_cmp key (row ∷ rows) ≡ []
    none_below = below_is (key_of table) key_order key (row ∷ rows) 0 place

    -- a first row of the key itself
    pub above_own : is_eq (key_cmp (key_of table row) key) ≡ true → above_key (key_of table) key_cmp key (row ∷ rows) ≡ rows
    above_own same = above_here (key_of table) key_order key (row ∷ rows) 0 row place rising refl same

    -- or of a key behind it
    pub above_all : is_eq (key_cmp (key_of table row) key) ≡ false → above_key (key_of table) key_cmp key (row ∷ rows) ≡ row ∷ rows
    above_all other = above_other (key_of table) key_order key (row ∷ rows) 0 row place rising refl other
