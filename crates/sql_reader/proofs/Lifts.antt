-- Limits, some of which are lifted.
use Rattle.std.proofs.Common.{◌≡◌, ℕ, Bool, true, false, refl}
use Rattle.std.specs.Prelude.{if◌then◌else◌, Option, None}
use Rattle.own_model.specs.declared.limit.LimitName.{LimitName}
use Rattle.own_model.specs.declared.limit.LimitName.TheVariants as limit
use Rattle.grammar_model.specs.Limits.{Limits, fits}

-- these limits, without those that a test names
abbrev pub lift : (LimitName → Bool) → Limits → Limits
lift lifts limits =
    record {
      name = if lifts limit.Name then None else limits.name;
      text = if lifts limit.Text then None else limits.text;
      items = if lifts limit.Items then None else limits.items;
    }

-- the limits let a name and a text be
pub record Fair (limits : Limits) : Type 0 where
  pub name : fits limits.name 1 ≡ true
  pub text : fits limits.text 0 ≡ true

-- lifted limits are fair
pub fair-lift : (lifts : LimitName → Bool) (limits : Limits) → Fair limits → Fair (lift lifts limits)
fair-lift lifts limits fair = record { name = free (lifts limit.Name) limits.name 1 fair.name; text = free (lifts limit.Text) limits.text 0 fair.text }
  where
    free : (lifted : Bool) (most : Option ℕ) (count : ℕ) → fits most count ≡ true → fits (if lifted then None else most) count ≡ true
    free true most count is = refl
    free false most count is = is
