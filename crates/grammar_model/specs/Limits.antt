-- The limits of the grammar.
use Rattle.std.specs.Prelude.{ℕ, Bool, true, nat_le, Option, None, Some}
use Rattle.own_base.specs.declared.text.TheConstants.{NAME_BYTES}
use Rattle.own_model.specs.declared.limit.TheConstants.{TEXT_BYTES, SELECT_ITEMS}

-- the greatest numbers of bytes of a name, of bytes of a text's value and of items of a select, where there are limits
pub record Limits : Type 0 where
  pub name : Option ℕ
  pub text : Option ℕ
  pub items : Option ℕ

-- at most as much as the limit
abbrev pub fits : Option ℕ → ℕ → Bool
fits None count = true
fits (Some most) count = nat_le count most

-- no limit at all
abbrev pub no_limits : Limits
no_limits = record { name = None; text = None; items = None }

-- the limits of the store
abbrev pub store_limits : Limits
store_limits = record { name = Some NAME_BYTES; text = Some TEXT_BYTES; items = Some SELECT_ITEMS }
