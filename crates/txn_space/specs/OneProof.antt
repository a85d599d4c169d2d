-- That a transaction may stand on rows, and that entries are of tables, have one proof each.
use Rattle.std.specs.Prelude.{List}
use Rattle.std.specs.Coded.{Coded, Coded-set, Unit-prop, codes, le_prop, ×_prop}
use Rattle.std.specs.List.{AllByRecursion-prop}
use Rattle.std.specs.Option.{MatchOption-prop}
use Rattle.std.specs.List.Sorted.{IsStrictlySortedBy-prop}
use Rattle.own_base.specs.declared.value.Key.{Key}
use Rattle.own_model.specs.declared.schema.TableDef.{TableDef}
use Rattle.own_model.specs.Db.{Row}
use Rattle.own_model.proofs.OneOrder.{rising-prop}
use Rattle.txn_space.specs.declared.entry.Entry.{Entry}
use Rattle.txn_space.specs.Entries.{entries_at}
use Rattle.txn_space.specs.Sound.{IsBase, IsSpaceOf}

key-coded : Coded Key
key-coded = Prim.hlevel codes

key-set : IsSet Key
key-set = Coded-set key-coded

base-prop : (tables : List TableDef) (rows : List (List Row)) → IsProp (IsBase tables rows)
base-prop tables rows = λ one other i. record {
  rising = rising-prop tables rows one.rising other.rising i;
  few = λ number. le_prop (one.few number) (other.few number) i;
}

space-prop : (tables : List TableDef) (space : List (List Entry)) → IsProp (IsSpaceOf tables space)
space-prop tables space = λ one other i. record {
  within = le_prop one.within other.within i;
  numbered = le_prop one.numbered other.numbered i;
  few = λ number. le_prop (one.few number) (other.few number) i;
  rising = λ number. IsStrictlySortedBy-prop _ _ (one.rising number) (other.rising number) i;
  keyed = λ number table is. AllByRecursion-prop _ (λ entry. MatchOption-prop _ _ _ Unit-prop (λ row. key-set _ _)) (entries_at space number) (one.keyed number table is) (other.keyed number table is) i;
}

pub sound-prop : (tables : List TableDef) (rows : List (List Row)) (space : List (List Entry)) → IsProp (IsBase tables rows × IsSpaceOf tables space)
sound-prop tables rows space = ×_prop (base-prop tables rows) (space-prop tables space)
