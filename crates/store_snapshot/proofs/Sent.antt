-- A snapshot may be sent to another thread and lent to others.
use denote.Param.Send.{IsSend, IsSync, sendable, struct_send, struct_sync}
use denote.Struct.Declared.{shape}
use Rattle.std.proofs.Crossing.{Arc-send, Arc-sync}
use Rattle.store_version.specs.contracts.version.Version as Version
use Rattle.store_snapshot.specs.contracts.snapshot.Snapshot as Snapshot
use Rattle.store_snapshot.specs.contracts.snapshot.Snapshot.TheInside as Inside
use Rattle.store_snapshot.proofs.SentVersion.{version_send, version_sync}

inside_send : IsSend (Inside.the_field).row
inside_send = struct_send (shape Inside.the_type) (search sendable, (Arc-send Version.the_row version_send version_sync, tt))

inside_sync : IsSync (Inside.the_field).row
inside_sync = struct_sync (shape Inside.the_type) (search sendable, (Arc-sync Version.the_row version_send version_sync, tt))

-- to another thread
pub snapshot_send : IsSend Snapshot.the_row
snapshot_send = search (sendable, inside_send) depth 5

-- and to others
pub snapshot_sync : IsSync Snapshot.the_row
snapshot_sync = search (sendable, inside_sync) depth 5
