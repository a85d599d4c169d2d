-- What was found is taken further.
use Rattle.std.proofs.Common.{◌≡◌, ap, refl, Bool, true, false, not, cond}
use Rattle.std.specs.Prelude.{Option, None, Some, IfSome}
use Rattle.change_check.specs.declared.cell_name.CellName.{CellName}
use Rattle.change_check.specs.CellOrder.{is_behind}
use Rattle.change_check.specs.Least.{IsFurther, is_reached, lower}
use Rattle.change_check.proofs.CellOrderLemmas.{not_behind, not_behind_both}

-- a cell that isn't behind another reaches it
pub reached_lower : (cell other : CellName) (found : Option CellName) → is_behind cell other ≡ false → is_reached (lower (Some cell) found) other ≡ true
reached_lower cell other None is = ap not is
reached_lower cell other (Some least) is = by (is_behind least cell) refl
  where
    by : (b : Bool) → is_behind least cell ≡ b → is_reached (cond b (Some cell) (Some least)) other ≡ true
    by true behind = ap not is
    by false not_behind = ap not (not_behind_both least cell other not_behind is)

-- what was reached still is
pub still_lower : (candidate found : Option CellName) (other : CellName) → is_reached found other ≡ true → is_reached (lower candidate found) other ≡ true
still_lower None found other is = is
still_lower (Some cell) None other is = let never : false ≡ true = is in cc
still_lower (Some cell) (Some least) other is = by (is_behind least cell) refl
  where
    not_from : (b : Bool) → not b ≡ true → b ≡ false
    not_from true is = let never : false ≡ true = is in cc
    not_from false is = refl

    by : (b : Bool) → is_behind least cell ≡ b → is_reached (cond b (Some cell) (Some least)) other ≡ true
    by true behind = ap not (not_behind_both cell least other (not_behind least cell behind) (not_from _ is))
    by false in_order = is

module _ (test : CellName → Bool) where
  abbrev Passes : Option CellName → Type 0
  Passes found = IfSome found (λ cell. test cell ≡ true)

  own_lower : (candidate found : Option CellName) → Passes candidate → Passes found → Passes (lower candidate found)
  own_lower None found passes own = own
  own_lower (Some cell) None passes own = passes
  own_lower (Some cell) (Some least) passes own = by (is_behind least cell)
    where
      by : (b : Bool) → Passes (cond b (Some cell) (Some least))
      by true = passes
      by false = own

  pub further_lower : (candidate found : Option CellName) → Passes candidate → IsFurther test found (lower candidate found)
  further_lower candidate found passes = record { own = own_lower candidate found passes; still = still_lower candidate found }

  pub further_itself : (found : Option CellName) → IsFurther test found found
  further_itself found = record { own = λ own. own; still = λ cell is. is }

  pub further_then : (one two three : Option CellName) → IsFurther test one two → IsFurther test two three → IsFurther test one three
  further_then one two three first second = record {
    own = λ own. second.own (first.own own);
    still = λ cell is. second.still cell (first.still cell is);
  }
