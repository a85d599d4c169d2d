-- What a version keeps of its rows may be sent to another thread and lent to others: the rows of each table, who holds what, whose each row is, and the shelves.
use mathlib.Core.List.{[], ◌∷◌}
use denote.RattleType.{RattleType}
use denote.Param.Send.{IsSend, IsSync, sendable, struct_send, struct_sync}
use denote.Struct.Declared.{shape}
use denote.Struct.Tuple.{Tuple}
use Rattle.std.proofs.Crossing.{Vec-send, Vec-sync}
use Rattle.own_base.proofs.row.Row.TheSendSync as row
use Rattle.own_base.proofs.row_name.RowName.TheSendSync as row_name
use Rattle.own_base.proofs.row_name.Subject.TheSendSync as subject
use Rattle.own_base.proofs.value.Key.TheSendSync as key
use Rattle.own_base.specs.contracts.row.Row as Row
use Rattle.own_base.specs.contracts.row_name.RowName as RowName
use Rattle.own_base.specs.contracts.row_name.Subject as Subject
use Rattle.own_base.specs.contracts.value.Key as Key
use Rattle.shelf_model.proofs.shelved.Shelved.TheSendSync as shelved
use Rattle.shelf_model.specs.contracts.shelved.Shelved as Shelved
use Rattle.table_part.proofs.key_column.KeyColumn.TheSendSync as key_column
use Rattle.table_part.specs.contracts.part.TablePart as TablePart
use Rattle.ordered_pairs.proofs.by_pair.ByPair.TheSendSync as by_pair
use Rattle.ref_index.specs.contracts.column_index.ColumnIndex as ColumnIndex
use Rattle.ref_index.specs.contracts.index.RefIndex as RefIndex
use Rattle.ref_index.specs.contracts.index.RefIndex.TheInside as InsideIndex
use Rattle.owner_index.proofs.entry.Entry.TheSendSync as entry
use Rattle.owner_index.proofs.name_key.NameKey.TheSendSync as name_key
use Rattle.owner_index.specs.contracts.entry.Entry as Entry
use Rattle.owner_index.specs.contracts.index.OwnerIndex as OwnerIndex
use Rattle.micro_db.proofs.place.ByPlace.TheSendSync as by_place
use Rattle.micro_db.specs.contracts.micro.MicroDb as MicroDb
use Rattle.store_snapshot.proofs.SentPages.{pages_send, pages_sync}

-- the rows of a table
pub part_send : IsSend TablePart.the_row
part_send = search (sendable, pages_send Row.the_row row.the_send row.the_sync, key_column.the_send) depth 20

pub part_sync : IsSync TablePart.the_row
part_sync = search (sendable, pages_sync Row.the_row row.the_send row.the_sync, key_column.the_sync) depth 20

-- pairs of keys
abbrev pub pair_of_keys : RattleType
pair_of_keys = Tuple (Key.the_row ∷ Key.the_row ∷ [])

pub pair_send : IsSend pair_of_keys
pair_send = search (sendable, key.the_send) depth 10

pub pair_sync : IsSync pair_of_keys
pair_sync = search (sendable, key.the_sync) depth 10

-- who holds what
column_send : IsSend ColumnIndex.the_row
column_send = search (sendable, pages_send pair_of_keys pair_send pair_sync, by_pair.the_send) depth 20

column_sync : IsSync ColumnIndex.the_row
column_sync = search (sendable, pages_sync pair_of_keys pair_send pair_sync, by_pair.the_sync) depth 20

index_inside_send : IsSend (InsideIndex.the_field).row
index_inside_send = struct_send (shape InsideIndex.the_type) (Vec-send ColumnIndex.the_row column_send, tt)

index_inside_sync : IsSync (InsideIndex.the_field).row
index_inside_sync = struct_sync (shape InsideIndex.the_type) (Vec-sync ColumnIndex.the_row column_sync, tt)

pub index_send : IsSend RefIndex.the_row
index_send = search (sendable, index_inside_send) depth 5

pub index_sync : IsSync RefIndex.the_row
index_sync = search (sendable, index_inside_sync) depth 5

-- whose each row is
pub owners_send : IsSend OwnerIndex.the_row
owners_send = search (sendable, pages_send Entry.the_row entry.the_send entry.the_sync, name_key.the_send) depth 20

pub owners_sync : IsSync OwnerIndex.the_row
owners_sync = search (sendable, pages_sync Entry.the_row entry.the_send entry.the_sync, name_key.the_sync) depth 20

-- what a data subject owns, and what it sees
abbrev filed_copy : RattleType
filed_copy = Tuple (Subject.the_row ∷ Shelved.the_row ∷ [])

abbrev filed_name : RattleType
filed_name = Tuple (Subject.the_row ∷ RowName.the_row ∷ [])

copy_send : IsSend filed_copy
copy_send = search (sendable, subject.the_send, shelved.the_send) depth 10

copy_sync : IsSync filed_copy
copy_sync = search (sendable, subject.the_sync, shelved.the_sync) depth 10

name_send : IsSend filed_name
name_send = search (sendable, subject.the_send, row_name.the_send) depth 10

name_sync : IsSync filed_name
name_sync = search (sendable, subject.the_sync, row_name.the_sync) depth 10

pub micro_send : IsSend (MicroDb.the_field).row
micro_send = search (sendable, pages_send filed_copy copy_send copy_sync, pages_send filed_name name_send name_sync, by_place.the_send) depth 20

pub micro_sync : IsSync (MicroDb.the_field).row
micro_sync = search (sendable, pages_sync filed_copy copy_send copy_sync, pages_sync filed_name name_send name_sync, by_place.the_sync) depth 20
