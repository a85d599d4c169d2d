-- What is kept for a view, at first and after changes.
use Rattle.std.proofs.Common.{◌≡◌, ℕ, zero, suc, ◌<◌, refl, sym, ◌∙◌, ap, subst, List, [], ◌∷◌, map, length, Option, Some, None, arith}
use Rattle.std.specs.Prelude.{true, false, slice_get}
use Rattle.std.specs.List.Sorted.{IsStrictlySortedBy}
use Rattle.own_base.specs.declared.change.Change.{Change}
use Rattle.own_base.specs.declared.number.TableNo.{TableNo}
use Rattle.own_model.specs.declared.bound.BoundSelect.{BoundSelect}
use Rattle.own_model.specs.declared.bound.Source1.TheVariants.{Pair, Table}
use Rattle.own_model.specs.declared.schema.Schema.{Schema}
use Rattle.own_model.specs.declared.schema.TableDef.{TableDef}
use Rattle.own_model.specs.Db.{Db, IsOrdered, Row}
use Rattle.own_model.specs.Stored.{rows_at}
use Rattle.ordered_pairs.specs.Has.{has}
use Rattle.page_model.specs.Found.{found}
use Rattle.state_model.specs.LeadTo.{LeadTo}
use Rattle.state_model.proofs.PutRows.{named_in}
use Rattle.view_deltas.specs.Changes.{after_changes, AllFit, FollowsAll}
use Rattle.view_deltas.specs.Entries.{kept_at}
use Rattle.view_deltas.specs.Groups.{KeepsGroups}
use Rattle.view_deltas.specs.Inserted.{inserted}
use Rattle.view_deltas.specs.JoinFollowed.{JoinFollows, MayFollow}
use Rattle.view_deltas.specs.Joined.{AreFoundIn, KeepsPairs}
use Rattle.view_deltas.specs.Kept.{IsKept, KeepsJoin}
use Rattle.view_deltas.specs.Keys.{KeepsKeys}
use Rattle.view_deltas.specs.Place.{Place}
use Rattle.view_deltas.specs.Plain.{KeepsPlain, plain_at}
use Rattle.view_deltas.specs.Sides.{place_of}
use Rattle.view_deltas.specs.TableRows.{AreRows}
use Rattle.view_deltas.specs.ViewOf.{HoldNoSums}
use Rattle.view_deltas.specs.declared.grouped.GroupedView.{GroupedView}
use Rattle.view_deltas.specs.declared.joined.JoinedView.{JoinedView}
use Rattle.view_deltas.specs.declared.kept_view.KeptView.TheVariants.{Grouped, Joined, Plain}
use Rattle.view_deltas.specs.declared.side.Joins.{Joins}
use Rattle.view_deltas.specs.declared.side.Side.{Side}
use Rattle.view_deltas.specs.declared.side.Side.TheVariants.{Left}
use Rattle.view_deltas.proofs.LeadLemmas.{inserts_fit, inserts_give, lead_fits, lead_gives, rows_of_table}

-- a number below a length has its item
pub there : {X : Type 0} (xs : List X) (n : ℕ) → n < length xs → (x : X) × (slice_get xs n ≡ Some x)
there [] n within = absurd (omega arith)
there (x ∷ xs) zero within = (x, refl)
there (x ∷ xs) (suc n) within = there xs n (omega arith)

no_rows : (table : TableDef) → AreRows table []
unfolding IsStrictlySortedBy
no_rows table = record { rise = tt; stored = tt }

nothing_kept : {T : Type 0} (place : Place) → kept_at {T = T} [] place ≡ None
unfolding kept_at found
nothing_kept place = refl

plain_none : (table : TableDef) (query : BoundSelect) → KeepsPlain table query [] []
unfolding plain_at found
plain_none table query (Some key, None) = nothing_kept (Some key, None)
plain_none table query (None, None) = nothing_kept (None, None)
plain_none table query (None, Some key) = nothing_kept (None, Some key)
plain_none table query (Some one, Some key) = nothing_kept (Some one, Some key)

no_keys : (table : TableDef) (column : ℕ) → KeepsKeys table column [] []
unfolding has found
no_keys table column value key = refl

join_none : (one two : TableDef) (query : BoundSelect) (on : Joins) → KeepsPairs one two query on [] [] []
unfolding found
join_none one two query on = record {
  pairs = λ own other. nothing_kept (place_of on.side own other);
  first = λ side. nothing_kept (None, side);
  second = λ side. nothing_kept (side, None);
}

none_found : (db : Db) (number : TableNo) (table : TableDef) → AreFoundIn db number table []
unfolding found
none_found db number table key row is = let never : ◌≡◌ {A = Option Row} None (Some row) = is in absurd (cc)

all_found : (db : Db) (number : TableNo) (table : TableDef) → slice_get db.schema.tables number.0 ≡ Some table → AreFoundIn db number table (rows_at db.rows number.0)
all_found db number table at key row is = named_in db.schema db.rows (record { table = number; key = key }) table at ∙ is

module _ (db : Db) (ordered : IsOrdered db) (stored : HoldNoSums db.rows) (number : TableNo) (query : BoundSelect) (changes : List Change)
    (are : (table : TableDef) → slice_get db.schema.tables number.0 ≡ Some table → changes ≡ map (inserted number table) (rows_at db.rows number.0))
    (table : TableDef) (at : slice_get db.schema.tables number.0 ≡ Some table) where
  abbrev all : List Row
  all = rows_at db.rows number.0

  pub built_fit : AllFit number.0 table changes []
  built_fit =
      let rows = rows_of_table db number.0 table ordered stored at in
      subst (λ (cs : List Change). AllFit number.0 table cs []) (sym (are table at)) (inserts_fit number table [] all rows.rise rows.stored)

  pub built_give : after_changes number.0 table changes [] ≡ all
  built_give = ap (λ (cs : List Change). after_changes number.0 table cs []) (are table at) ∙ inserts_give number table [] all (rows_of_table db number.0 table ordered stored at).rise

module _ (db : Db) (ordered : IsOrdered db) (number : TableNo) (query : BoundSelect) (changes : List Change)
    (are : (table : TableDef) → slice_get db.schema.tables number.0 ≡ Some table → changes ≡ map (inserted number table) (rows_at db.rows number.0)) where
  -- a view of one table
  pub plain_built : (none entries : List (Place × Row)) → none ≡ [] → query.grouped ≡ false → ((table : TableDef) → FollowsAll (KeepsPlain table query) number.0 table changes none entries)
      → HoldNoSums db.rows → IsKept db query (Table number) (Plain entries)
  plain_built none entries empty plain follows stored = (
    plain,
    λ table at.
        subst (λ (rows : List Row). KeepsPlain table query rows entries) (built_give db ordered stored number query changes are table at)
        (follows table [] (no_rows table) (built_fit db ordered stored number query changes are table at)
        (subst (λ (kept : List (Place × Row)). KeepsPlain table query [] kept) (sym empty) (plain_none table query))),
  )

  pub groups_built : (none groups : GroupedView) → number.0 < length db.schema.tables → KeepsGroups query [] none → query.grouped ≡ true
      → ((table : TableDef) → FollowsAll (KeepsGroups query) number.0 table changes none groups) → HoldNoSums db.rows → IsKept db query (Table number) (Grouped groups)
  groups_built none groups within keeps grouped follows stored =
      let own = there db.schema.tables number.0 within in (
        grouped,
        subst (λ (rows : List Row). KeepsGroups query rows groups) (built_give db ordered stored number query changes are own.0 own.1)
            (follows own.0 [] (no_rows own.0) (built_fit db ordered stored number query changes are own.0 own.1) keeps),
      )

-- and a join
pub joined_built : (db : Db) → IsOrdered db → (query : BoundSelect) (on : Joins) → on.side ≡ Left → (lefts rights : List Change)
    → ((table : TableDef) → slice_get db.schema.tables on.own.0 ≡ Some table → lefts ≡ map (inserted on.own table) (rows_at db.rows on.own.0))
    → ((table : TableDef) → slice_get db.schema.tables on.other.0 ≡ Some table → rights ≡ map (inserted on.other table) (rows_at db.rows on.other.0))
    → (none joined : JoinedView) → none.entries ≡ [] → none.lefts ≡ [] → none.rights ≡ [] → JoinFollows query on db db lefts rights none joined
    → HoldNoSums db.rows → IsKept db query (Pair on.own on.other on.own_column on.other_column) (Joined joined)
joined_built db ordered query on side lefts rights left_are right_are none joined no_entries no_lefts no_rights follows stored one two left_at right_at =
    let left_give = built_give db ordered stored on.own query lefts left_are one left_at in
    let right_give = built_give db ordered stored on.other query rights right_are two right_at in
    let may : MayFollow one two on db db lefts rights [] [] = record {
      side = side;
      left = no_rows one;
      right = no_rows two;
      left_fit = built_fit db ordered stored on.own query lefts left_are one left_at;
      right_fit = built_fit db ordered stored on.other query rights right_are two right_at;
      right_found = none_found db on.other two;
      left_found = subst (AreFoundIn db on.own one) (sym left_give) (all_found db on.own one left_at);
    } in
    let keeps : KeepsJoin one two query on [] [] none = record {
      pairs = subst (λ (entries : List (Place × Row)). KeepsPairs one two query on [] [] entries) (sym no_entries) (join_none one two query on);
      left_keys = subst (KeepsKeys one on.own_column.0 []) (sym no_lefts) (no_keys one on.own_column.0);
      right_keys = subst (KeepsKeys two on.other_column.0 []) (sym no_rights) (no_keys two on.other_column.0);
    } in
    let made = follows one two [] [] may keeps in
    let left_made : KeepsJoin one two query on (rows_at db.rows on.own.0) (after_changes on.other.0 two rights []) joined =
    subst (λ (rows : List Row). KeepsJoin one two query on rows (after_changes on.other.0 two rights []) joined) left_give made in
    let both : KeepsJoin one two query on (rows_at db.rows on.own.0) (rows_at db.rows on.other.0) joined = subst (λ (rows : List Row). KeepsJoin one two query on (rows_at db.rows on.own.0) rows joined) right_give left_made in
    subst (λ (side : Side). KeepsJoin one two query (record on { side = side }) (rows_at db.rows on.own.0) (rows_at db.rows on.other.0) joined) side both

module _ (before after : Db) (ordered : IsOrdered before) (rises : IsOrdered after) (schema : after.schema ≡ before.schema) (changes : List Change) (query : BoundSelect) where
  at_before : (number : ℕ) (table : TableDef) → slice_get after.schema.tables number ≡ Some table → slice_get before.schema.tables number ≡ Some table
  at_before number table at = ap (λ (all : Schema). slice_get all.tables number) (sym schema) ∙ at

  -- after changes the rows that are kept are those of the state after them
  pub plain_led : (number : TableNo) (old new : List (Place × Row)) → ((table : TableDef) → FollowsAll (KeepsPlain table query) number.0 table changes old new)
      → HoldNoSums before.rows → HoldNoSums after.rows → LeadTo before after changes → IsKept before query (Table number) (Plain old) → IsKept after query (Table number) (Plain new)
  plain_led number old new follows here stored lead kept = (
    kept.0,
    λ table at.
        let own = at_before number.0 table at in
        subst (λ (rows : List Row). KeepsPlain table query rows new) (lead_gives before after changes ordered rises schema stored lead number.0 table own)
        (follows table (rows_at before.rows number.0) (rows_of_table before number.0 table ordered here own) (lead_fits before after changes ordered rises schema stored lead number.0 table own) (kept.1 table own)),
  )

  pub groups_led : (number : TableNo) (old new : GroupedView) → number.0 < length before.schema.tables → ((table : TableDef) → FollowsAll (KeepsGroups query) number.0 table changes old new)
      → HoldNoSums before.rows → HoldNoSums after.rows → LeadTo before after changes → IsKept before query (Table number) (Grouped old) → IsKept after query (Table number) (Grouped new)
  groups_led number old new within follows here stored lead kept =
      let found = there before.schema.tables number.0 within in (
        kept.0,
        subst (λ (rows : List Row). KeepsGroups query rows new) (lead_gives before after changes ordered rises schema stored lead number.0 found.0 found.1)
            (follows found.0 (rows_at before.rows number.0) (rows_of_table before number.0 found.0 ordered here found.1) (lead_fits before after changes ordered rises schema stored lead number.0 found.0 found.1) kept.1),
      )

  pub joined_led : (on : Joins) (old new : JoinedView) → on.side ≡ Left → JoinFollows query on before after changes changes old new
      → HoldNoSums before.rows → HoldNoSums after.rows → LeadTo before after changes → IsKept before query (Pair on.own on.other on.own_column on.other_column) (Joined old)
      → IsKept after query (Pair on.own on.other on.own_column on.other_column) (Joined new)
  joined_led on old new side follows here stored lead kept one two left_at right_at =
      let left = at_before on.own.0 one left_at in
      let right = at_before on.other.0 two right_at in
      let left_give = lead_gives before after changes ordered rises schema stored lead on.own.0 one left in
      let right_give = lead_gives before after changes ordered rises schema stored lead on.other.0 two right in
      let may : MayFollow one two on before after changes changes (rows_at before.rows on.own.0) (rows_at before.rows on.other.0) = record {
        side = side;
        left = rows_of_table before on.own.0 one ordered here left;
        right = rows_of_table before on.other.0 two ordered here right;
        left_fit = lead_fits before after changes ordered rises schema stored lead on.own.0 one left;
        right_fit = lead_fits before after changes ordered rises schema stored lead on.other.0 two right;
        right_found = all_found before on.other two right;
        left_found = subst (AreFoundIn after on.own one) (sym left_give) (all_found after on.own one left_at);
      } in
      let keeps : KeepsJoin one two query on (rows_at before.rows on.own.0) (rows_at before.rows on.other.0) old =
      subst (λ (side : Side). KeepsJoin one two query (record on { side = side }) (rows_at before.rows on.own.0) (rows_at before.rows on.other.0) old) (sym side) (kept one two left right) in
      let made = follows one two (rows_at before.rows on.own.0) (rows_at before.rows on.other.0) may keeps in
      let left_made : KeepsJoin one two query on (rows_at after.rows on.own.0) (after_changes on.other.0 two changes (rows_at before.rows on.other.0)) new =
      subst (λ (rows : List Row). KeepsJoin one two query on rows (after_changes on.other.0 two changes (rows_at before.rows on.other.0)) new) left_give made in
      let both : KeepsJoin one two query on (rows_at after.rows on.own.0) (rows_at after.rows on.other.0) new = subst (λ (rows : List Row). KeepsJoin one two query on (rows_at after.rows on.own.0) rows new) right_give left_made in
      subst (λ (side : Side). KeepsJoin one two query (record on { side = side }) (rows_at after.rows on.own.0) (rows_at after.rows on.other.0) new) side both
