-- What is kept for views may be sent to another thread and lent to others.
use mathlib.Core.List.{[], ◌∷◌}
use denote.RattleType.{RattleType}
use denote.Enum.Declared as enum
use denote.Param.Send.{IsSend, IsSync, enum_send, enum_sync, sendable, struct_send, struct_sync}
use denote.Struct.Declared.{shape}
use denote.Struct.Tuple.{Tuple}
use Rattle.std.proofs.Crossing.{Vec-send, Vec-sync}
use Rattle.std.specs.contracts.option.Option as Option
use Rattle.own_base.proofs.row.Row.TheSendSync as row
use Rattle.own_base.proofs.value.Key.TheSendSync as key
use Rattle.own_base.specs.contracts.row.Row as Row
use Rattle.own_base.specs.contracts.value.Key as Key
use Rattle.ordered_pairs.proofs.by_pair.ByPair.TheSendSync as by_pair
use Rattle.view_deltas.proofs.group.Group.TheSendSync as group
use Rattle.view_deltas.proofs.place.ByPlace.TheSendSync as by_place
use Rattle.view_deltas.specs.contracts.group.Group as Group
use Rattle.view_deltas.specs.contracts.grouped.GroupedView as GroupedView
use Rattle.view_deltas.specs.contracts.joined.JoinedView as JoinedView
use Rattle.view_deltas.specs.contracts.kept_view.KeptView as KeptView
use Rattle.view_deltas.specs.contracts.views.Views as Views
use Rattle.view_deltas.specs.contracts.views.Views.TheInside as InsideViews
use Rattle.store_snapshot.proofs.SentPages.{pages_send, pages_sync}
use Rattle.store_snapshot.proofs.SentParts.{pair_of_keys, pair_send, pair_sync}

abbrev place : RattleType
place = Tuple (Option.the_row Key.the_row ∷ Option.the_row Key.the_row ∷ [])

-- rows and groups, each behind its place
abbrev placed_row : RattleType
placed_row = Tuple (place ∷ Row.the_row ∷ [])

abbrev placed_group : RattleType
placed_group = Tuple (place ∷ Group.the_row ∷ [])

row_send : IsSend placed_row
row_send = search (sendable, key.the_send, row.the_send) depth 20

row_sync : IsSync placed_row
row_sync = search (sendable, key.the_sync, row.the_sync) depth 20

group_send : IsSend placed_group
group_send = search (sendable, key.the_send, group.the_send) depth 20

group_sync : IsSync placed_group
group_sync = search (sendable, key.the_sync, group.the_sync) depth 20

-- the groups of a grouped view
grouped_send : IsSend (GroupedView.the_field).row
grouped_send = search (sendable, pages_send placed_group group_send group_sync, by_place.the_send) depth 20

grouped_sync : IsSync (GroupedView.the_field).row
grouped_sync = search (sendable, pages_sync placed_group group_send group_sync, by_place.the_sync) depth 20

-- the rows of a join, and which rows meet
joined_send : IsSend (JoinedView.the_field).row
joined_send = search (sendable, pages_send placed_row row_send row_sync, pages_send pair_of_keys pair_send pair_sync, by_place.the_send, by_pair.the_send) depth 20

joined_sync : IsSync (JoinedView.the_field).row
joined_sync = search (sendable, pages_sync placed_row row_send row_sync, pages_sync pair_of_keys pair_send pair_sync, by_place.the_sync, by_pair.the_sync) depth 20

-- those of any view
kept_field_send : IsSend (KeptView.the_field).row
kept_field_send = enum_send (enum.shape KeptView.the_type) ((search (sendable, pages_send placed_row row_send row_sync, by_place.the_send) depth 20, tt), ((grouped_send, tt), ((joined_send, tt), tt)))

kept_field_sync : IsSync (KeptView.the_field).row
kept_field_sync = enum_sync (enum.shape KeptView.the_type) ((search (sendable, pages_sync placed_row row_send row_sync, by_place.the_sync) depth 20, tt), ((grouped_sync, tt), ((joined_sync, tt), tt)))

kept_send : IsSend KeptView.the_row
kept_send = search (sendable, kept_field_send) depth 3

kept_sync : IsSync KeptView.the_row
kept_sync = search (sendable, kept_field_sync) depth 3

-- those of all
views_inside_send : IsSend (InsideViews.the_field).row
views_inside_send = struct_send (shape InsideViews.the_type) (Vec-send KeptView.the_row kept_send, tt)

views_inside_sync : IsSync (InsideViews.the_field).row
views_inside_sync = struct_sync (shape InsideViews.the_type) (Vec-sync KeptView.the_row kept_sync, tt)

pub views_send : IsSend Views.the_row
views_send = search (sendable, views_inside_send) depth 5

pub views_sync : IsSync Views.the_row
views_sync = search (sendable, views_inside_sync) depth 5
