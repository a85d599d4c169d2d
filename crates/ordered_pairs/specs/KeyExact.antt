-- Keys that tie are one.
use Rattle.std.specs.Prelude.{◌≡◌}
use Rattle.std.proofs.Common.{ap}
use Rattle.std.specs.declared.cmp.Ordering.TheVariants.{Equal}
use Rattle.own_base.specs.Key.{key_cmp}
use Rattle.own_base.specs.declared.value.Key.{Key}
use Rattle.own_model.specs.Stored.{is_equal}
use Rattle.subject_model.proofs.NamedLemmas.{one_key}

pub key_exact : (one other : Key) → key_cmp one other ≡ Equal → one ≡ other
key_exact one other is = one_key one other (ap is_equal is)
