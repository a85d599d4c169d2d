-- The edges of a list of columns, with one column more.
use Rattle.std.proofs.Common.{◌≡◌, ◌<◌, ◌+◌, ℕ, List, [], ◌∷◌, ◌++◌, length, take, get_or, map, None, Some, sym, ap, ◌∙◌, arith}
use Rattle.std.specs.List.{cons_option, enumerate_from, filter_map}
use Rattle.std.proofs.lemmas.List.{append-nil, length-map, length-take-le, map-append, take_more}
use Rattle.std.proofs.lemmas.List.Elements.{filter_map-append}
use Rattle.std.proofs.lemmas.List.FromFn.{length-enumerate_from}
use Rattle.own_model.specs.declared.schema.Column.{Column}
use Rattle.own_model.specs.declared.schema.Edge.{Edge}
use Rattle.schema_model.specs.NewEdges.{EdgeColumn, edge_column}

-- numbered items, with one item more
enumerate_from-push : {X : Type 0} (from : ℕ) (items : List X) (item : X) → enumerate_from from (items ++ item ∷ []) ≡ enumerate_from from items ++ (from + length items, item) ∷ []
enumerate_from-push from [] item = ap (λ number. (number, item) ∷ []) (omega arith)
enumerate_from-push from (first ∷ items) item =
    ap (λ rest. (from, first) ∷ rest) (enumerate_from-push (from + 1) items item
    ∙ ap (λ number. enumerate_from (from + 1) items ++ (number, item) ∷ []) (omega arith))

-- the columns that give edges
abbrev edge_columns_of : List Column → List EdgeColumn
edge_columns_of columns = filter_map {X = ℕ × Column} (λ numbered. edge_column numbered.0 numbered.1) (enumerate_from 0 columns)

edge_columns_of-push : (columns : List Column) (column : Column) → edge_columns_of (columns ++ column ∷ []) ≡ edge_columns_of columns ++ filter_map {X = ℕ × Column} (λ numbered. edge_column numbered.0 numbered.1) ((length columns, column) ∷ [])
edge_columns_of-push columns column =
    ap (filter_map {X = ℕ × Column} (λ numbered. edge_column numbered.0 numbered.1)) (enumerate_from-push 0 columns column ∙ ap (λ number. enumerate_from 0 columns ++ (number, column) ∷ []) (omega arith))
    ∙ filter_map-append (λ numbered. edge_column numbered.0 numbered.1) (enumerate_from 0 columns) ((length columns, column) ∷ [])

module _ (edge : ℕ → EdgeColumn → Edge) (from : ℕ) where
  -- their edges, numbered from a number on
  abbrev pub edges_of : List Column → List Edge
  edges_of columns = map (λ numbered. edge numbered.0 numbered.1) (enumerate_from from (edge_columns_of columns))

  module _ (columns : List Column) (number : ℕ) (column : Column) (within : number < length columns) (is : column ≡ get_or columns number column) where
    more : take (number + 1) columns ≡ take number columns ++ column ∷ []
    more = take_more columns number column within ∙ ap (λ last. take number columns ++ last ∷ []) (sym is)

    found : edge_columns_of (take (number + 1) columns) ≡ edge_columns_of (take number columns) ++ filter_map {X = ℕ × Column} (λ numbered. edge_column numbered.0 numbered.1) ((number, column) ∷ [])
    found = ap edge_columns_of more ∙ edge_columns_of-push (take number columns) column
        ∙ ap (λ len. edge_columns_of (take number columns) ++ filter_map {X = ℕ × Column} (λ numbered. edge_column numbered.0 numbered.1) ((len, column) ∷ [])) (length-take-le number columns (omega arith))

    -- a column more that gives no edge
    pub edges_of-none : None ≡ edge_column number column → edges_of (take number columns) ≡ edges_of (take (number + 1) columns)
    edges_of-none none = ap (λ all. map (λ numbered. edge numbered.0 numbered.1) (enumerate_from from all)) (sym (
        found
        ∙ ap (λ found. edge_columns_of (take number columns) ++ cons_option found []) (sym none)
        ∙ append-nil (edge_columns_of (take number columns))))

    -- a column more that gives one
    pub edges_of-some : (edges : List Edge) (at : ℕ) (last : EdgeColumn) → edges ≡ edges_of (take number columns) → at ≡ from + length edges → Some last ≡ edge_column number column
        → edges ++ edge at last ∷ [] ≡ edges_of (take (number + 1) columns)
    edges_of-some edges at last made place some =
        let before = edge_columns_of (take number columns) in
        let len = ap length made ∙ length-map (enumerate_from from before) (λ numbered. edge numbered.0 numbered.1) ∙ length-enumerate_from from before in
        ap (λ edges. edges ++ edge at last ∷ []) made
        ∙ ap (λ at. edges_of (take number columns) ++ edge at last ∷ []) (place ∙ ap (λ len. from + len) len)
        ∙ sym (map-append (λ numbered. edge numbered.0 numbered.1) (enumerate_from from before) ((from + length before, last) ∷ []))
        ∙ ap (map (λ numbered. edge numbered.0 numbered.1)) (sym (enumerate_from-push from before last))
        ∙ ap (λ all. map (λ numbered. edge numbered.0 numbered.1) (enumerate_from from all)) (sym (found ∙ ap (λ found. before ++ cons_option found []) (sym some)))
