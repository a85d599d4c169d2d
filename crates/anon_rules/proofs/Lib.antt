mod SetsOverLists
mod RuledEdges
