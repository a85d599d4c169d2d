-- The rows that are marked are those that edges join to a row that passes a test.
use Rattle.std.proofs.Common.{◌≡◌, ℕ, zero, suc, ◌+◌, ◌<◌, List, [], length, map, take, Bool, true, false, get_or, refl, ap, sym, ◌∙◌, subst, arith, eq-eqb}
use Rattle.std.specs.Prelude.{◌==◌, ◌||◌, Contains, filter}
use Rattle.std.specs.List.{list_any, range_with_len}
use Rattle.std.proofs.lemmas.Bool.{and_from, and_parts, eqb-true}
use Rattle.std.proofs.lemmas.List.Folds.{list_any_more}
use Rattle.std.proofs.lemmas.List.FromFn.{length-map-range_with_len}
use Rattle.std.proofs.Math.Bool.{or-false, or_assoc}
use Rattle.own_base.specs.declared.number.TableNo.{TableNo}
use Rattle.own_base.specs.declared.row_name.RowName.{RowName}
use Rattle.own_model.specs.declared.schema.Edge.{Edge}
use Rattle.own_model.specs.Db.{Db, IsOrdered}
use Rattle.owner_model.specs.Joins.{Joins}
use Rattle.schema_model.specs.OwnerSchema.{IsOwnerSchema}
use Rattle.subject_model.proofs.Members.{any_contained, contains_any, contains_filter, contains_of_filter}
use Rattle.subject_model.proofs.JoinsLemmas.{same_table}
use Rattle.owner_sets.specs.declared.link.Link.{Link}
use Rattle.owner_sets.specs.Links.{links}
use Rattle.owner_sets.proofs.GatheredLemmas.{edge_held, edge_within, same_standing}
use Rattle.owner_sets.proofs.LinkLemmas.{Linked, joined-linked, links-joined}
use Rattle.owner_sets.proofs.Standing.{StandsAt, standing_there}
use Rattle.subject_erase.specs.declared.followed.Followed.{Followed}
use Rattle.subject_erase.specs.Flags.{AreFlagsOfTable, Flags}
use Rattle.subject_erase.specs.Followed.{counts}
use Rattle.subject_erase.specs.Marked.{HaveMore, is_marked, over_edge, over_followed, over_link}
use Rattle.subject_erase.proofs.FlagLemmas.{flag-standing}

-- marks to which nothing is added
pub HaveMore-none : (more : ℕ → Bool) (marks : List Bool) → ((place : ℕ) → more place ≡ false) → HaveMore more marks marks
HaveMore-none more marks none = record { same_length = refl; at = λ place within. sym (or-false (get_or marks place false)) ∙ ap (λ b. get_or marks place false || b) (sym (none place)) }

-- what one item more adds
pub HaveMore-more : {X : Type 0} (adds : ℕ → X → Bool) (items : List X) (index : ℕ) (d : X) (first before after : List Bool) → index < length items
    → HaveMore (λ place. list_any (adds place) (take index items)) first before → HaveMore (λ place. adds place (get_or items index d)) before after
    → HaveMore (λ place. list_any (adds place) (take (index + 1) items)) first after
HaveMore-more adds items index d first before after within so_far one =
    record {
      same_length = one.same_length ∙ so_far.same_length;
      at = λ place there.
          let here : place < length before = omega (arith, so_far.same_length) in
          one.at place here
          ∙ (ap (λ b. b || adds place (get_or items index d)) (so_far.at place there)
          ∙ (or_assoc (get_or first place false) (list_any (adds place) (take index items)) (adds place (get_or items index d))
          ∙ ap (λ b. get_or first place false || b) (sym (list_any_more (adds place) items index d within))));
    }

-- An edge that is followed joins the row to one that passes the test.
pub record JoinsPassing (followed : Followed) (db : Db) (test : RowName → Bool) (name : RowName) : Type 0 where
  pub edge : Edge
  pub upper : RowName
  pub counted : counts followed edge ≡ true
  pub joined : Joins db name edge upper
  pub passes : test upper ≡ true

module _ (followed : Followed) (db : Db) (test : RowName → Bool) (flags : Flags) (ordered : IsOrdered db) (owner : IsOwnerSchema db.schema) (name : RowName) (place : ℕ) (stands : StandsAt db name place)
    (edges : List Edge) (out : edges ≡ filter (λ edge. edge.lower.0 == name.table.0) db.schema.edges)
    (above : (edge : Edge) → Contains edges edge → AreFlagsOfTable db test edge.upper.0 (get_or flags edge.upper.0 [])) where
  out_of : (edge : Edge) → Contains edges edge → Contains db.schema.edges edge × (name.table ≡ edge.lower)
  out_of edge among =
      let kept = contains_of_filter (λ (e : Edge). e.lower.0 == name.table.0) db.schema.edges edge (subst (λ list. Contains list edge) out among) in
      (kept.0, sym (same_table edge.lower name.table (eqb-true edge.lower.0 name.table.0 kept.1)))

  -- the flag of an upper row is what the test says of it
  flag_is : (edge : Edge) → Contains edges edge → (upper : RowName) (at : ℕ) → upper.table ≡ edge.upper → StandsAt db upper at → get_or (get_or flags edge.upper.0 []) at false ≡ test upper
  flag_is edge among upper at table upper_stands =
      let are : AreFlagsOfTable db test upper.table.0 (get_or flags edge.upper.0 []) =
      subst (λ (t : TableNo). AreFlagsOfTable db test t.0 (get_or flags edge.upper.0 [])) (sym table) (above edge among) in
      flag-standing db test upper at (get_or flags edge.upper.0 []) are upper_stands

  passing_over : (edge : Edge) → Contains edges edge → counts followed edge ≡ true → (l : Link) → Contains (links db.schema db.rows edge) l → over_link (get_or flags edge.upper.0 []) place l ≡ true
      → JoinsPassing followed db test name
  passing_over edge among counted l listed over =
      let kept = out_of edge among in
      let both = and_parts (l.lower == place) (get_or (get_or flags edge.upper.0 []) l.upper false) over in
      let linked : Linked db edge l.lower l.upper = links-joined db edge ordered kept.0 (edge_within db.schema edge owner kept.0) (edge_held db.schema edge owner kept.0) l listed in
      let here : l.lower ≡ place = eqb-true l.lower place both.0 in
      let also : StandsAt db linked.lower place = subst (StandsAt db linked.lower) here linked.lower_stands in
      let same : linked.lower ≡ name = same_standing db linked.lower name place also stands (linked.joined.of_lower ∙ sym kept.1) in
      record {
        edge = edge;
        upper = linked.upper;
        counted = counted;
        joined = subst (λ lower. Joins db lower edge linked.upper) same linked.joined;
        passes = sym (flag_is edge among linked.upper l.upper linked.joined.of_upper linked.upper_stands) ∙ both.1;
      }

  -- a row that is marked is joined to one that passes
  pub marked-joins : is_marked followed db.schema db.rows flags edges place ≡ true → JoinsPassing followed db test name
  unfolding is_marked over_edge
  marked-joins is =
      let (edge, among, over) = contains_any (over_followed followed db.schema db.rows flags place) edges is in
      let both = and_parts (counts followed edge) (over_edge db.schema db.rows flags place edge) over in
      let (l, listed, passes) = contains_any (over_link (get_or flags edge.upper.0 []) place) (links db.schema db.rows edge) both.1 in
      passing_over edge among both.0 l listed passes

  -- and one that is joined to such a row is marked
  pub joins-marked : JoinsPassing followed db test name → is_marked followed db.schema db.rows flags edges place ≡ true
  unfolding is_marked over_edge
  joins-marked is =
      let joined = is.joined in
      let kept : Contains (filter (λ (e : Edge). e.lower.0 == name.table.0) db.schema.edges) is.edge =
      contains_filter (λ (e : Edge). e.lower.0 == name.table.0) db.schema.edges is.edge joined.among (eq-eqb is.edge.lower.0 name.table.0 (ap (λ (t : TableNo). t.0) (sym joined.of_lower))) in
      let among : Contains edges is.edge = subst (λ list. Contains list is.edge) (sym out) kept in
      let (at, upper_stands) = standing_there db is.upper joined.upper_there in
      let l : Link = record { lower = place; upper = at } in
      let listed : Contains (links db.schema db.rows is.edge) l =
      joined-linked db is.edge ordered joined.among (edge_held db.schema is.edge owner joined.among) name is.upper place at stands upper_stands joined in
      let passes : get_or (get_or flags is.edge.upper.0 []) at false ≡ true = flag_is is.edge among is.upper at joined.of_upper upper_stands ∙ is.passes in
      any_contained (over_followed followed db.schema db.rows flags place) edges is.edge among
      (and_from (counts followed is.edge) (over_edge db.schema db.rows flags place is.edge) is.counted
      (any_contained (over_link (get_or flags is.edge.upper.0 []) place) (links db.schema db.rows is.edge) l listed
      (and_from (place == place) (get_or (get_or flags is.edge.upper.0 []) at false) (eq-eqb place place refl) passes)))

-- that many rows, none marked
pub record AreUnmarked (count : ℕ) (marks : List Bool) : Type 0 where
  pub all : length marks ≡ count
  pub none : (place : ℕ) → get_or marks place false ≡ false

none_marked : (from count place : ℕ) → get_or (map (λ place. false) (range_with_len from count)) place false ≡ false
none_marked from zero place = refl
none_marked from (suc count) zero = refl
none_marked from (suc count) (suc place) = none_marked (from + 1) count place

-- of marks that are all false none is marked
pub all_unmarked : (count : ℕ) (marks : List Bool) → marks ≡ map (λ place. false) (range_with_len 0 count) → AreUnmarked count marks
all_unmarked count marks is =
    record {
      all = ap length is ∙ length-map-range_with_len (λ place. false) 0 count;
      none = λ place. ap (λ all. get_or all place false) is ∙ none_marked 0 count place;
    }
