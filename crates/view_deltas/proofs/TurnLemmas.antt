-- A join as its other table sees it, and its changes of both sides.
use Rattle.std.proofs.Common.{◌≡◌, refl, sym, ◌∙◌, ap, subst, List, Option, Some, None}
use Rattle.std.specs.List.{AllByRecursion as Each}
use Rattle.own_base.specs.declared.change.Change.{Change}
use Rattle.own_base.specs.declared.value.Key.{Key}
use Rattle.own_model.specs.declared.bound.BoundSelect.{BoundSelect}
use Rattle.own_model.specs.declared.schema.TableDef.{TableDef}
use Rattle.own_model.specs.Db.{Db, Row}
use Rattle.query_model.specs.Stored.{IsStoredRow}
use Rattle.view_deltas.specs.Changes.{after_changes, FollowsAll}
use Rattle.view_deltas.specs.JoinFollowed.{JoinFollows}
use Rattle.view_deltas.specs.Joined.{AreFoundIn, KeepsPairs, KeepsSide}
use Rattle.view_deltas.specs.Keys.{KeepsKeys}
use Rattle.view_deltas.specs.Place.{Place}
use Rattle.view_deltas.specs.Sides.{joined_of, turned}
use Rattle.view_deltas.specs.TableRows.{AreRows, row_at}
use Rattle.view_deltas.specs.declared.joined.JoinedView.{JoinedView}
use Rattle.view_deltas.specs.declared.joined_side.JoinedSide.{JoinedSide}
use Rattle.view_deltas.specs.declared.side.Joins.{Joins}
use Rattle.view_deltas.specs.declared.side.Side.{Side}
use Rattle.view_deltas.specs.declared.side.Side.TheVariants.{Left}
use Rattle.view_deltas.proofs.LeadLemmas.{rows_after_all}

abbrev from : Side → Joins → Joins
from side on = record on { side = side }

module _ (one two : TableDef) (query : BoundSelect) (on : Joins) where
  both_ways : (left right : Option Row) → joined_of query (from Left on) left right ≡ joined_of query (turned (from Left on)) right left
  both_ways None None = refl
  both_ways None (Some right) = refl
  both_ways (Some left) None = refl
  both_ways (Some left) (Some right) = refl

  turn : (lefts rights : List Row) (entries : List (Place × Row)) → KeepsPairs one two query (from Left on) rights lefts entries → KeepsPairs two one query (turned (from Left on)) lefts rights entries
  turn lefts rights entries kept = record {
    pairs = λ own other. kept.pairs other own ∙ both_ways (row_at one lefts other) (row_at two rights own);
    first = kept.first;
    second = kept.second;
  }

  turn_back : (lefts rights : List Row) (entries : List (Place × Row)) → KeepsPairs two one query (turned (from Left on)) lefts rights entries → KeepsPairs one two query (from Left on) rights lefts entries
  turn_back lefts rights entries kept = record {
    pairs = λ own other. kept.pairs other own ∙ sym (both_ways (row_at one lefts own) (row_at two rights other));
    first = kept.first;
    second = kept.second;
  }

-- What one side follows over the rows of the other.
abbrev pub SideFollows : BoundSelect → Joins → Db → List (Key × Key) → List Change → JoinedSide → JoinedSide → Type 0
SideFollows query on db partners changes old new =
    (own other : TableDef) (others : List Row) → Each IsStoredRow others → KeepsKeys other on.other_column.0 others partners → AreFoundIn db on.other other others
    → FollowsAll (KeepsSide own other query on others) on.own.0 own changes old new

-- The left changes are followed over the old right rows, and then the right ones over the new left rows.
pub join_follows : (query : BoundSelect) (on : Joins) (before after : Db) (lefts rights : List Change) (old new : JoinedView) (left start right : JoinedSide)
    → SideFollows query on before old.rights lefts (record { entries = old.entries; keys = old.lefts }) left → SideFollows query (turned on) after left.keys rights start right
    → start.entries ≡ left.entries → start.keys ≡ old.rights → new.entries ≡ right.entries → new.lefts ≡ left.keys → new.rights ≡ right.keys
    → JoinFollows query on before after lefts rights old new
join_follows query on before after lefts rights old new left start right by_left by_right starts start_keys ends lefts_are rights_are one two left_rows right_rows may keeps =
    let moved = by_left one two right_rows may.right.stored keeps.right_keys may.right_found left_rows may.left may.left_fit (record { pairs = keeps.pairs; keys = keeps.left_keys }) in
    let news = after_changes on.own.0 one lefts left_rows in
    let are : AreRows one news = rows_after_all on.own.0 one lefts left_rows may.left may.left_fit in
    let left_pairs : KeepsPairs one two query (from Left on) right_rows news left.entries = subst (λ (side : Side). KeepsPairs one two query (from side on) right_rows news left.entries) may.side moved.pairs in
    let seen : KeepsPairs two one query (turned (from Left on)) news right_rows left.entries = turn one two query on news right_rows left.entries left_pairs in
    let seen_here : KeepsPairs two one query (turned on) news right_rows left.entries = subst (λ (side : Side). KeepsPairs two one query (turned (from side on)) news right_rows left.entries) (sym may.side) seen in
    let begin : KeepsSide two one query (turned on) news right_rows start = record {
      pairs = subst (λ (entries : List (Place × Row)). KeepsPairs two one query (turned on) news right_rows entries) (sym starts) seen_here;
      keys = subst (KeepsKeys two on.other_column.0 right_rows) (sym start_keys) keeps.right_keys;
    } in
    let done = by_right two one news are.stored moved.keys may.left_found right_rows may.right may.right_fit begin in
    let rest = after_changes on.other.0 two rights right_rows in
    let right_pairs : KeepsPairs two one query (turned (from Left on)) news rest right.entries = subst (λ (side : Side). KeepsPairs two one query (turned (from side on)) news rest right.entries) may.side done.pairs in
    let pairs : KeepsPairs one two query on rest news right.entries =
    subst (λ (side : Side). KeepsPairs one two query (from side on) rest news right.entries) (sym may.side) (turn_back one two query on news rest right.entries right_pairs) in
    record {
      pairs = subst (λ (entries : List (Place × Row)). KeepsPairs one two query on rest news entries) (sym ends) pairs;
      left_keys = subst (KeepsKeys one on.own_column.0 news) (sym lefts_are) moved.keys;
      right_keys = subst (KeepsKeys two on.other_column.0 rest) (sym rights_are) done.keys;
    }

-- the same, where the left side begins with what is kept of it
pub join_moves : (query : BoundSelect) (on there : Joins) (before after : Db) (lefts rights : List Change) (old new : JoinedView) (begin left start right : JoinedSide)
    → begin.entries ≡ old.entries → begin.keys ≡ old.lefts → there ≡ turned on → SideFollows query on before old.rights lefts begin left → SideFollows query there after left.keys rights start right
    → start.entries ≡ left.entries → start.keys ≡ old.rights → new.entries ≡ right.entries → new.lefts ≡ left.keys → new.rights ≡ right.keys
    → JoinFollows query on before after lefts rights old new
join_moves query on there before after lefts rights old new begin left start right same_entries same_keys is by_left by_right =
    let made : List (Place × Row) → List (Key × Key) → JoinedSide = λ entries keys. record { entries = entries; keys = keys } in
    let same : begin ≡ made old.entries old.lefts = ap (λ (entries : List (Place × Row)). made entries begin.keys) same_entries ∙ ap (made old.entries) same_keys in
    join_follows query on before after lefts rights old new left start right
    (subst (λ (side : JoinedSide). SideFollows query on before old.rights lefts side left) same by_left)
    (subst (λ (turn : Joins). SideFollows query turn after left.keys rights start right) is by_right)
