-- The edges that a list holds.
use Rattle.std.specs.Prelude.{List, []}
use Rattle.std.specs.Arc.{arc_value}
use Rattle.own_base.specs.declared.number.EdgeNo.{EdgeNo}
use Rattle.shelf_model.specs.declared.edge_list.EdgePlaces.{EdgePlaces}
use Rattle.shelf_model.specs.declared.edge_list.EdgePlaces.TheVariants.{Nowhere, One, Two, Shared}

-- the same, in the place itself or shared
abbrev pub edges_in : EdgePlaces → List EdgeNo
edges_in Nowhere = []
edges_in (One one) = one
edges_in (Two both) = both
edges_in (Shared shared) = arc_value shared
