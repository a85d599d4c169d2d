-- The key of a row, by its column.
use Rattle.std.specs.Prelude.{slice_index_or}
use Rattle.own_base.specs.declared.number.ColNo.{ColNo}
use Rattle.own_base.specs.declared.value.Key.{Key}
use Rattle.own_base.specs.declared.value.Value.TheVariants.{Null}
use Rattle.own_model.specs.Db.{Row, as_key}

-- what stands in a column of a row, as a key
unfoldable pub key_in : ColNo → Row → Key
key_in column row = as_key (slice_index_or row column.0 Null)
