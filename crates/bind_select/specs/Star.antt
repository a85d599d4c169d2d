-- What a star represents.
use Rattle.own_model.specs.declared.bound.BoundItem.{BoundItem}
use Rattle.own_model.specs.declared.bound.BoundItem.TheVariants.{Column}
use Rattle.own_model.specs.declared.schema.Kind.{Kind}
use Rattle.query_model.specs.Scope.{NameBytes, Named}

-- a column as an item
abbrev pub column_item : Named → BoundItem
column_item named = Column (record { 0 = named.number })

-- its name, and its kind
abbrev pub column_name : Named → NameBytes
column_name named = named.column

abbrev pub column_kind : Named → Kind
column_kind named = named.kind
