-- A key of a row, lent.
use Rattle.own_base.specs.declared.value.Key.{Key}
use Rattle.own_base.specs.declared.value.Key.TheVariants as key
use Rattle.query_tests.specs.declared.key_ref.KeyRef.{KeyRef}
use Rattle.query_tests.specs.declared.key_ref.KeyRef.TheVariants.{Int, Text}

-- the key itself
abbrev pub key_seen : KeyRef → Key
key_seen (Int number) = key.Int number
key_seen (Text text) = key.Text text.now
