-- A version may be sent to another thread and lent to others.
use denote.Param.Send.{IsSend, IsSync, sendable, struct_send, struct_sync}
use denote.Struct.Declared.{shape}
use Rattle.std.proofs.Crossing.{Arc-send, Arc-sync, Vec-send, Vec-sync}
use Rattle.own_base.proofs.list.List.TheSendSync as list
use Rattle.own_model.proofs.schema.CreateText.TheSendSync as text
use Rattle.own_model.proofs.schema.Edge.TheSendSync as edge
use Rattle.own_model.proofs.schema.TableDef.TheSendSync as table
use Rattle.own_model.specs.contracts.schema.Schema as Schema
use Rattle.owner_graph.proofs.graph.Graph.TheSendSync as graph
use Rattle.schema_draft.proofs.names.Names.TheSendSync as names
use Rattle.turn_model.proofs.SentSchemas.{view_def_send, view_def_sync}
use Rattle.annot_schema.specs.contracts.catalog.Catalog as Catalog
use Rattle.annot_schema.specs.contracts.catalog.Catalog.TheInside as InsideCatalog
use Rattle.table_part.specs.contracts.part.TablePart as TablePart
use Rattle.store_version.specs.contracts.owned.OwnedRows as OwnedRows
use Rattle.store_version.specs.contracts.owned.OwnedRows.TheInside as InsideOwned
use Rattle.store_version.specs.contracts.rows.Rows as Rows
use Rattle.store_version.specs.contracts.rows.Rows.TheInside as InsideRows
use Rattle.store_version.specs.contracts.version.Version as Version
use Rattle.store_version.specs.contracts.version.Version.TheInside as InsideVersion
use Rattle.store_snapshot.proofs.SentParts.{index_send, index_sync, micro_send, micro_sync, owners_send, owners_sync, part_send, part_sync}
use Rattle.store_snapshot.proofs.SentViews.{views_send, views_sync}

-- the catalog
schema_send : IsSend (Schema.the_field).row
schema_send = search (sendable, list.the_send, table.the_send, view_def_send, edge.the_send) depth 20

schema_sync : IsSync (Schema.the_field).row
schema_sync = search (sendable, list.the_sync, table.the_sync, view_def_sync, edge.the_sync) depth 20

catalog_inside_send : IsSend (InsideCatalog.the_field).row
catalog_inside_send = struct_send (shape InsideCatalog.the_type) (schema_send, (search (sendable, list.the_send, text.the_send) depth 10, (names.the_send, (graph.the_send, tt))))

catalog_inside_sync : IsSync (InsideCatalog.the_field).row
catalog_inside_sync = struct_sync (shape InsideCatalog.the_type) (schema_sync, (search (sendable, list.the_sync, text.the_sync) depth 10, (names.the_sync, (graph.the_sync, tt))))

catalog_send : IsSend Catalog.the_row
catalog_send = search (sendable, catalog_inside_send) depth 5

catalog_sync : IsSync Catalog.the_row
catalog_sync = search (sendable, catalog_inside_sync) depth 5

-- the rows, by a catalog that others share
rows_inside_send : IsSend (InsideRows.the_field).row
rows_inside_send = struct_send (shape InsideRows.the_type) (Arc-send Catalog.the_row catalog_send catalog_sync, (Vec-send TablePart.the_row part_send, (index_send, tt)))

rows_inside_sync : IsSync (InsideRows.the_field).row
rows_inside_sync = struct_sync (shape InsideRows.the_type) (Arc-sync Catalog.the_row catalog_send catalog_sync, (Vec-sync TablePart.the_row part_sync, (index_sync, tt)))

rows_send : IsSend Rows.the_row
rows_send = search (sendable, rows_inside_send) depth 5

rows_sync : IsSync Rows.the_row
rows_sync = search (sendable, rows_inside_sync) depth 5

-- and whose they are
owned_inside_send : IsSend (InsideOwned.the_field).row
owned_inside_send = struct_send (shape InsideOwned.the_type) (rows_send, (owners_send, tt))

owned_inside_sync : IsSync (InsideOwned.the_field).row
owned_inside_sync = struct_sync (shape InsideOwned.the_type) (rows_sync, (owners_sync, tt))

owned_send : IsSend OwnedRows.the_row
owned_send = search (sendable, owned_inside_send) depth 5

owned_sync : IsSync OwnedRows.the_row
owned_sync = search (sendable, owned_inside_sync) depth 5

-- the whole
version_inside_send : IsSend (InsideVersion.the_field).row
version_inside_send = struct_send (shape InsideVersion.the_type) (owned_send, (micro_send, (views_send, tt)))

version_inside_sync : IsSync (InsideVersion.the_field).row
version_inside_sync = struct_sync (shape InsideVersion.the_type) (owned_sync, (micro_sync, (views_sync, tt)))

pub version_send : IsSend Version.the_row
version_send = search (sendable, version_inside_send) depth 5

pub version_sync : IsSync Version.the_row
version_sync = search (sendable, version_inside_sync) depth 5
