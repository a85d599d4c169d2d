-- The order that lent values derive ties those that are the same, and no others.
use Rattle.std.proofs.Common.{◌≡◌, ℕ, List, [], ◌∷◌, refl, ap}
use Rattle.std.specs.Prelude.{unwrap_or}
use Rattle.std.specs.Map.{lookup}
use Rattle.std.specs.BTreeMap.{is_at}
use Rattle.std.specs.Ordering.{int_cmp, is_eq}
use Rattle.std.specs.declared.cmp.Ordering.{Ordering}
use Rattle.std.proofs.lemmas.Map.Text.{is_eq-slice_cmp}
use Rattle.state_model.specs.Same.{is_same_value}
use Rattle.state_model.proofs.PutRows.{equal_is}
use Rattle.commit_check.specs.contracts.lent_value.LentValueOrd.TheImpl as order
use Rattle.commit_check.specs.declared.lent_value.LentValue.{LentValue}
use Rattle.commit_check.specs.declared.lent_value.LentValue.TheVariants.{Int, Text, Sum}
use Rattle.commit_check.specs.ValueCounts.{count_at, value_of}

abbrev pub lent_cmp : LentValue → LentValue → Ordering
lent_cmp = order.ghosts.cmp

-- a test by the order is a test whether values are the same
pub ties : (one other : LentValue) → is_eq (lent_cmp one other) ≡ is_same_value (value_of one) (value_of other)
unfolding is_same_value
ties (Int one) (Int other) = equal_is (int_cmp one other)
ties (Int one) (Text other) = refl
ties (Int one) (Sum other) = refl
ties (Text one) (Int other) = refl
ties (Text one) (Text other) = is_eq-slice_cmp one.now other.now
ties (Text one) (Sum other) = refl
ties (Sum one) (Int other) = refl
ties (Sum one) (Text other) = refl
ties (Sum one) (Sum other) = equal_is (int_cmp one other)

same_lookup : (held : LentValue) (entries : List (LentValue × ℕ)) → lookup (is_at (lent_cmp held)) entries ≡ lookup (λ other. is_same_value (value_of held) (value_of other)) entries
same_lookup held [] = refl
same_lookup held (entry ∷ entries) = rw (ties held entry.0, same_lookup held entries) refl

-- what a look-up by the order finds
pub looked_up : (held : LentValue) (entries : List (LentValue × ℕ)) → unwrap_or (lookup (is_at (lent_cmp held)) entries) 0 ≡ count_at entries (value_of held)
looked_up held entries = ap (λ found. unwrap_or found 0) (same_lookup held entries)
