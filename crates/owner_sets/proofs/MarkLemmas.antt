-- Marks of rows, link by link, and the edges that are listed for them, edge by edge.
use Rattle.std.proofs.Common.{◌≡◌, ℕ, ◌+◌, ◌<◌, ◌≤◌, List, [], ◌∷◌, ◌++◌, length, Bool, true, false, ◌||◌, get_or, take, map, inl, inr, refl, ap, sym, ◌∙◌, subst, append_assoc, length-append, arith}
use Rattle.std.specs.Prelude.{◌==◌, Contains, filter, flat_map}
use Rattle.std.proofs.Math.Bool.{or_assoc}
use Rattle.std.proofs.Math.Seq.{get_or-append_seam}
use Rattle.std.proofs.lemmas.Bool.{cases_eq, cases_lt}
use Rattle.std.proofs.lemmas.List.{append-nil, get_or_append_left, get_or_past, map-append, take_more}
use Rattle.std.proofs.lemmas.List.Elements.{filter-append}
use Rattle.std.proofs.lemmas.List.Folds.{list_any-append}
use Rattle.std.proofs.lemmas.Option.{get_or_from_slice_get, slice_get-get_or}
use Rattle.own_base.specs.declared.number.EdgeNo.{EdgeNo}
use Rattle.own_base.specs.declared.row_name.RowName.{RowName}
use Rattle.own_base.specs.declared.row_name.Subject.{Subject}
use Rattle.own_model.specs.declared.schema.Edge.{Edge}
use Rattle.own_model.specs.declared.schema.Schema.{Schema}
use Rattle.own_model.specs.Db.{Db, Row}
use Rattle.schema_model.specs.OwnerSchema.{IsOwnerSchema}
use Rattle.schema_model.proofs.Places.{place-lt}
use Rattle.subject_model.specs.Named.{is_name}
use Rattle.owner_sets.specs.declared.link.Link.{Link}
use Rattle.owner_sets.specs.ByEdges.{AreEdgesOf, AreEdgesOfTable, EdgeLists}
use Rattle.owner_sets.specs.Gathered.{IsWithin, over_edge}
use Rattle.owner_sets.specs.Leading.{HasEdges, HasMarks, is_among, leading, leads, number_where}
use Rattle.owner_sets.specs.Sets.{Sets}
use Rattle.owner_sets.proofs.GatheredLemmas.{edge_within}
use Rattle.owner_sets.proofs.Ranges.{flat_map_push}

-- nothing is marked over no link
pub marks-none : (subject : Subject) (over : ℕ → Link → List Subject) (marks : List Bool) → HasMarks (λ place. is_among subject (flat_map (over place) [])) marks marks
marks-none subject over marks = record { same_length = refl; at = λ place within. sym (or_false (get_or marks place false)) }
  where
    or_false : (b : Bool) → (b || false) ≡ b
    or_false true = refl
    or_false false = refl

-- one link more
pub marks-more : (subject : Subject) (over : ℕ → Link → List Subject) (links : List Link) (at : ℕ) (default : Link) (old mid new : List Bool) → at < length links
    → HasMarks (λ place. is_among subject (flat_map (over place) (take at links))) old mid → HasMarks (λ place. is_among subject (over place (get_or links at default))) mid new
    → HasMarks (λ place. is_among subject (flat_map (over place) (take (at + 1) links))) old new
marks-more subject over links at default old mid new within before step =
    record {
      same_length = step.same_length ∙ before.same_length;
      at = λ place inside.
          let next : Link = get_or links at default in
          let also : place < length mid = omega (arith, before.same_length) in
          let joined : flat_map (over place) (take (at + 1) links) ≡ flat_map (over place) (take at links) ++ over place next =
          ap (flat_map (over place)) (take_more links at default within) ∙ flat_map_push (over place) (take at links) next in
          step.at place also
          ∙ (ap (λ b. b || is_among subject (over place next)) (before.at place inside)
          ∙ (or_assoc (get_or old place false) (is_among subject (flat_map (over place) (take at links))) (is_among subject (over place next))
          ∙ ap (λ b. get_or old place false || b)
          (sym (ap (is_among subject) joined ∙ list_any-append (λ other. is_name other.0 subject.0) (flat_map (over place) (take at links)) (over place next)))));
    }

-- the numbers of the edges that lead on from a row, with one edge more
leading-more : (schema : Schema) (rows : List (List Row)) (reach : Sets) (subject : Subject) (table : ℕ) (edges : List Edge) (edge : Edge) (place : ℕ)
    → leading schema rows reach subject table (edges ++ edge ∷ []) place ≡ leading schema rows reach subject table edges place ++ leading schema rows reach subject table (edge ∷ []) place
unfolding leading
leading-more schema rows reach subject table edges edge place =
    let test = leads schema rows reach subject table place in
    ap (map (λ (e : Edge). e.number)) (filter-append test edges (edge ∷ [])) ∙ map-append (λ (e : Edge). e.number) (filter test edges) (filter test (edge ∷ []))

-- over no edge nothing is listed
pub edges-none : (schema : Schema) (rows : List (List Row)) (reach : Sets) (subject : Subject) (table : ℕ) (lists : List (List EdgeNo)) → HasEdges (leading schema rows reach subject table []) lists lists
unfolding leading
edges-none schema rows reach subject table lists = record { same_length = refl; at = λ place within. sym (append-nil (get_or lists place [])) }

-- one edge more
pub edges-more : (schema : Schema) (rows : List (List Row)) (reach : Sets) (subject : Subject) (table : ℕ) (edges : List Edge) (at : ℕ) (default : Edge) (old mid new : List (List EdgeNo)) → at < length edges
    → HasEdges (leading schema rows reach subject table (take at edges)) old mid → HasEdges (leading schema rows reach subject table (get_or edges at default ∷ [])) mid new
    → HasEdges (leading schema rows reach subject table (take (at + 1) edges)) old new
edges-more schema rows reach subject table edges at default old mid new within before step =
    record {
      same_length = step.same_length ∙ before.same_length;
      at = λ place inside.
          let next : Edge = get_or edges at default in
          let also : place < length mid = omega (arith, before.same_length) in
          step.at place also
          ∙ (ap (λ list. list ++ leading schema rows reach subject table (next ∷ []) place) (before.at place inside)
          ∙ (append_assoc (get_or old place []) (leading schema rows reach subject table (take at edges) place) (leading schema rows reach subject table (next ∷ []) place)
          ∙ ap (λ list. get_or old place [] ++ list)
          (sym (ap (λ list. leading schema rows reach subject table list place) (take_more edges at default within) ∙ leading-more schema rows reach subject table (take at edges) next place))));
    }

-- a row's edge is listed where the row is marked
leading-marked : (schema : Schema) (rows : List (List Row)) (reach : Sets) (subject : Subject) (table : ℕ) (edge : Edge) (place : ℕ) (marked : Bool)
    → leads schema rows reach subject table place edge ≡ marked → leading schema rows reach subject table (edge ∷ []) place ≡ number_where marked edge.number
unfolding leading
leading-marked schema rows reach subject table edge place true is = rw is refl
leading-marked schema rows reach subject table edge place false is = rw is refl

-- an edge out of the table is listed for the rows that are marked
pub edges-marked : (schema : Schema) (rows : List (List Row)) (reach : Sets) (subject : Subject) (table : ℕ) (edge : Edge) (marks : List Bool) (old new : List (List EdgeNo)) → (edge.lower.0 == table) ≡ true
    → ((place : ℕ) → place < length old → get_or marks place false ≡ is_among subject (over_edge schema rows reach edge place))
    → HasEdges (λ place. number_where (get_or marks place false) edge.number) old new → HasEdges (leading schema rows reach subject table (edge ∷ [])) old new
unfolding leads
edges-marked schema rows reach subject table edge marks old new of_table marked added =
    record {
      same_length = added.same_length;
      at = λ place within.
          let leads_on : leads schema rows reach subject table place edge ≡ get_or marks place false = rw of_table (sym (marked place within)) in
          added.at place within ∙ ap (λ list. get_or old place [] ++ list) (sym (leading-marked schema rows reach subject table edge place (get_or marks place false) leads_on));
    }

-- and an edge of another table for none
pub edges-elsewhere : (schema : Schema) (rows : List (List Row)) (reach : Sets) (subject : Subject) (table : ℕ) (edge : Edge) (lists : List (List EdgeNo)) → (edge.lower.0 == table) ≡ false
    → HasEdges (leading schema rows reach subject table (edge ∷ [])) lists lists
unfolding leads
edges-elsewhere schema rows reach subject table edge lists other =
    record {
      same_length = refl;
      at = λ place within.
          let leads_on : leads schema rows reach subject table place edge ≡ false = rw other refl in
          sym (append-nil (get_or lists place [])) ∙ ap (λ list. get_or lists place [] ++ list) (sym (leading-marked schema rows reach subject table edge place false leads_on));
    }

-- a list has what stands at one of its places
contains-at : {X : Type 0} (xs : List X) (at : ℕ) (default : X) → at < length xs → Contains xs (get_or xs at default)
contains-at xs at default within =
    let is = slice_get-get_or xs at default within in (at, within, get_or_from_slice_get xs at (get_or xs at default) (get_or xs at default) is)

-- the tables of the edge at a place are there
pub edge_within-at : (schema : Schema) (edges : List Edge) (at : ℕ) (default : Edge) → IsOwnerSchema schema → edges ≡ schema.edges → at < length edges → IsWithin schema (get_or edges at default)
edge_within-at schema edges at default owner same within =
    edge_within schema (get_or edges at default) owner (subst (λ (list : List Edge). Contains list (get_or edges at default)) same (contains-at edges at default within))

-- the tables before a number have their edges
pub record EdgesTo (db : Db) (subject : RowName) (number : ℕ) (lists : EdgeLists) : Type 0 where
  pub tables : length lists ≡ number
  pub each : (table : ℕ) → table < number → AreEdgesOfTable db subject table (get_or lists table [])

module _ (db : Db) (subject : RowName) where
  pub edges_to-none : EdgesTo db subject 0 []
  edges_to-none = record { tables = refl; each = λ table before. absurd (omega arith) }

  -- one table more
  pub edges_to-more : (number : ℕ) (lists : EdgeLists) (own : List (List EdgeNo)) → EdgesTo db subject number lists → AreEdgesOfTable db subject number own → EdgesTo db subject (number + 1) (lists ++ own ∷ [])
  edges_to-more number lists own before is =
      record {
        tables = omega (arith, length-append lists (own ∷ []), before.tables);
        each = λ table within.
            elim (cases_eq table number) [
              | inl same ↦
                  let here : get_or (lists ++ own ∷ []) table [] ≡ own =
                  ap (λ n. get_or (lists ++ own ∷ []) n []) (same ∙ sym before.tables) ∙ get_or-append_seam lists own [] [] in
                  subst (λ list. AreEdgesOfTable db subject table list) (sym here) (subst (λ n. AreEdgesOfTable db subject n own) (sym same) is)
              | inr differ ↦
                  let earlier : table < number = elim (cases_lt table number) [ inl less ↦ less | inr past ↦ let same : table ≡ number = omega arith in absurd (differ same) ] in
                  let inside : table < length lists = omega (arith, before.tables) in
                  subst (λ list. AreEdgesOfTable db subject table list) (sym (get_or_append_left lists (own ∷ []) [] table inside)) (before.each table earlier)
            ];
      }

  -- all tables have them
  pub edges_to-all : (number : ℕ) (lists : EdgeLists) → EdgesTo db subject number lists → length db.schema.tables ≤ number → AreEdgesOf db subject lists
  edges_to-all number lists before past =
      record {
        each = λ table. record {
          at = λ place definition row table_is row_is.
              (before.each table (omega (arith, place-lt db.schema.tables table definition table_is))).at place definition row table_is row_is;
          none = λ place none. elim (cases_lt table number) [
            | inl within ↦ (before.each table within).none place none
            | inr after ↦ ap (λ list. get_or list place []) (get_or_past lists table [] (omega (arith, before.tables)))
          ];
        };
      }

-- The lists of the rows before a place have the number where they are marked; the others are as they were.
pub record NumberedTo (marks : List Bool) (number : EdgeNo) (at : ℕ) (old new : List (List EdgeNo)) : Type 0 where
  pub same_length : length new ≡ length old
  pub done : (place : ℕ) → place < at → get_or new place [] ≡ get_or old place [] ++ number_where (get_or marks place false) number
  pub left : (place : ℕ) → at ≤ place → get_or new place [] ≡ get_or old place []
