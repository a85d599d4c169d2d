-- What is kept for a join follows a change of one side.
use Rattle.std.proofs.Common.{◌≡◌, refl, sym, ◌∙◌, ap, subst, List, [], ◌∷◌, Option, Some, None}
use Rattle.std.specs.Prelude.{Bool, true, false, cond, ◌&&◌, ◌||◌, IfSome, find, is_some}
use Rattle.std.proofs.lemmas.Cmp.{tied_itself}
use Rattle.std.specs.List.{AllByRecursion as Each}
use Rattle.std.specs.Ordering.{is_eq, ordering_reverse}
use Rattle.std.specs.declared.cmp.Ordering.{Ordering}
use Rattle.std.specs.declared.cmp.Ordering.TheVariants.{Less, Equal, Greater}
use Rattle.own_base.specs.Key.{key_cmp}
use Rattle.own_base.specs.declared.value.Key.{Key}
use Rattle.own_base.specs.declared.value.Key.TheVariants as key
use Rattle.own_base.specs.declared.value.Value.{Value}
use Rattle.own_base.specs.declared.value.Value.TheVariants.{Null, Int, Text, Sum}
use Rattle.own_model.specs.declared.bound.BoundSelect.{BoundSelect}
use Rattle.own_model.specs.declared.condition.Cmp.TheVariants.{Eq}
use Rattle.own_model.specs.declared.schema.TableDef.{TableDef}
use Rattle.own_model.specs.Db.{Row}
use Rattle.own_model.specs.Stored.{is_equal}
use Rattle.own_model.proofs.KeyOrder.{key_order}
use Rattle.link_model.specs.Holds.{holds}
use Rattle.ordered_pairs.specs.RightsOf.{rights_of}
use Rattle.ordered_pairs.proofs.RightsLemmas.{rights_have}
use Rattle.page_model.specs.Found.{found}
use Rattle.query_model.specs.Footprints.{literal_key}
use Rattle.query_model.specs.Stored.{IsStored, IsStoredRow}
use Rattle.query_model.specs.Truth.{cell, compared, comparison, is_true, takes, truth_of}
use Rattle.view_deltas.specs.Entries.{kept_at}
use Rattle.view_deltas.specs.Joined.{is_one, KeepsPairs, KeepsSide, PutsPairs}
use Rattle.view_deltas.specs.Keys.{held_by, held_in, keys_under, KeepsKeys, MovesKey}
use Rattle.view_deltas.specs.Place.{Place}
use Rattle.view_deltas.specs.Sides.{joined_of, place_of, shown_both, shown_pair, they_meet}
use Rattle.view_deltas.specs.TableRows.{AreRows, changed, Fits, Follows, row_at, StandsUnder}
use Rattle.view_deltas.specs.declared.joined_side.JoinedSide.{JoinedSide}
use Rattle.view_deltas.specs.declared.side.Joins.{Joins}
use Rattle.view_deltas.specs.declared.side.Side.{Side}
use Rattle.view_deltas.specs.declared.side.Side.TheVariants.{Left, Right}
use Rattle.view_deltas.proofs.ChangeLemmas.{found_stands, row_changed}
use Rattle.view_deltas.proofs.GroupRows.{row_stored}
use Rattle.view_deltas.proofs.KeyLemmas.{is_held, keys_follow, same_key}

-- whether two values tie as keys; a missing one ties with none
by_key : Option Key → Option Key → Bool
by_key None other = false
by_key (Some value) other = is_held value other

takes_equal : (o : Ordering) → is_true (truth_of (takes Eq o)) ≡ is_equal o
takes_equal Less = refl
takes_equal Equal = refl
takes_equal Greater = refl

back_equal : (o : Ordering) → is_equal (ordering_reverse o) ≡ is_equal o
back_equal Less = refl
back_equal Equal = refl
back_equal Greater = refl

tie_back : (one other : Key) → is_equal (key_cmp one other) ≡ is_equal (key_cmp other one)
tie_back one other = ap is_equal (key_order.antisymm one other) ∙ back_equal (key_cmp other one)

-- values meet where they tie as keys
met : (one other : Value) → IsStored one → IsStored other → is_true (comparison Eq (compared one other)) ≡ by_key (literal_key one) (literal_key other)
unfolding compared by_key
met Null Null here there = refl
met Null (Int other) here there = refl
met Null (Text other) here there = refl
met Null (Sum other) here there = refl
met (Int one) Null here there = refl
met (Int one) (Int other) here there = takes_equal (key_cmp (key.Int one) (key.Int other)) ∙ tie_back (key.Int one) (key.Int other)
met (Int one) (Text other) here there = refl
met (Int one) (Sum other) here there = absurd there
met (Text one) Null here there = refl
met (Text one) (Int other) here there = refl
met (Text one) (Text other) here there = takes_equal (key_cmp (key.Text one) (key.Text other)) ∙ tie_back (key.Text one) (key.Text other)
met (Text one) (Sum other) here there = absurd there
met (Sum one) other here there = absurd here

by_key_back : (one other : Option Key) → by_key one other ≡ by_key other one
unfolding by_key
by_key_back None None = refl
by_key_back None (Some other) = refl
by_key_back (Some one) None = refl
by_key_back (Some one) (Some other) = tie_back other one

module _ (on : Joins) where
  -- so rows meet where the other holds what the own one does
  rows_meet : (own other : Row) → IsStoredRow own → IsStoredRow other → they_meet on own other ≡ by_key (literal_key (cell own on.own_column.0)) (literal_key (cell other on.other_column.0))
  rows_meet own other here there = by on.side
    where
      one : IsStored (cell own on.own_column.0)
      one = row_stored own here on.own_column.0

      two : IsStored (cell other on.other_column.0)
      two = row_stored other there on.other_column.0

      by : (side : Side) → they_meet (record on { side = side }) own other ≡ by_key (literal_key (cell own on.own_column.0)) (literal_key (cell other on.other_column.0))
      by Left = met (cell own on.own_column.0) (cell other on.other_column.0) one two
      by Right =
          met (cell other on.other_column.0) (cell own on.own_column.0) two one
          ∙ by_key_back (literal_key (cell other on.other_column.0)) (literal_key (cell own on.own_column.0))

-- a key is one of some where it is found there
one_found : (keys : List Key) (key : Key) → is_one keys key ≡ is_some (found (λ each. each) key_cmp key keys)
unfolding found
one_found [] key = refl
one_found (own ∷ keys) key = by (is_eq (key_cmp own key)) (one_found keys key)
  where
    by : (b : Bool) → is_one keys key ≡ is_some (find (λ each. is_eq (key_cmp each key)) keys) → (b || is_one keys key) ≡ is_some (cond b (Some own) (find (λ each. is_eq (key_cmp each key)) keys))
    by true more = refl
    by false more = more

module _ (other : TableDef) (query : BoundSelect) (on : Joins) (others : List Row) (partners : List (Key × Key)) (stored : Each IsStoredRow others)
    (keeps : KeepsKeys other on.other_column.0 others partners) where
  -- the keys under a value are those of the rows that hold it
  under_value : (value key : Key) → is_one (rights_of key_cmp partners value) key ≡ held_by on.other_column.0 value (row_at other others key)
  under_value value key = one_found (rights_of key_cmp partners value) key ∙ (rights_have key_cmp key_cmp partners value key ∙ keeps value key)

  -- the other row under a key is stored
  other_stored : (key : Key) (row : Row) → row_at other others key ≡ Some row → IsStoredRow row
  other_stored key row is = (subst (λ (o : Option Row). IfSome o (StandsUnder other key)) is (found_stands other key others stored)).stored

  -- whether what is found under a key is met by a row
  abbrev is_met : Option Row → Key → Bool
  is_met own key = is_one (keys_under partners (held_in on.own_column.0 own)) key

  met_by : (own row : Row) (key : Key) → IsStoredRow own → row_at other others key ≡ Some row → is_met (Some own) key ≡ they_meet on own row
  unfolding by_key holds
  met_by own row key here there = by (literal_key (cell own on.own_column.0)) refl ∙ sym (rows_meet on own row here (other_stored key row there))
    where
      by : (held : Option Key) → literal_key (cell own on.own_column.0) ≡ held → is_one (keys_under partners held) key ≡ by_key held (literal_key (cell row on.other_column.0))
      by None is = refl
      by (Some value) is = under_value value key ∙ ap (held_by on.other_column.0 value) there

  -- what the join shows of two rows is what is shown of both, where the one is met by the other
  join_shows : (own : Option Row) (key : Key) → IfSome own IsStoredRow → joined_of query on own (row_at other others key) ≡ cond (is_met own key) (shown_both query on.side own (row_at other others key)) None
  join_shows None key here = refl
  join_shows (Some own) key here = by (row_at other others key) refl
    where
      nothing : (b : Bool) → ◌≡◌ {A = Option Row} None (cond b None None)
      nothing true = refl
      nothing false = refl

      by : (found : Option Row) → row_at other others key ≡ found → joined_of query on (Some own) found ≡ cond (is_met (Some own) key) (shown_both query on.side (Some own) found) None
      by None is = nothing (is_met (Some own) key)
      by (Some row) is = ap (λ b. cond b (shown_pair query on.side own row) None) (sym (met_by own row key here is))

  -- and the same of rows that are looked up elsewhere, where these are among those
  looked_up : (named : Key → Option Row) → ((key : Key) (row : Row) → row_at other others key ≡ Some row → named key ≡ Some row) → (own : Option Row) (key : Key)
      → cond (is_met own key) (shown_both query on.side own (named key)) None ≡ cond (is_met own key) (shown_both query on.side own (row_at other others key)) None
  looked_up named among None key = refl
  looked_up named among (Some own) key = by (literal_key (cell own on.own_column.0)) refl
    where
      found_by : (value : Key) (found : Option Row) → row_at other others key ≡ found
          → cond (held_by on.other_column.0 value found) (shown_both query on.side (Some own) (named key)) None ≡ cond (held_by on.other_column.0 value found) (shown_both query on.side (Some own) found) None
      found_by value None is = refl
      found_by value (Some row) is = ap (λ (o : Option Row). cond (holds on.other_column.0 value row) (shown_both query on.side (Some own) o) None) (among key row is)

      by : (held : Option Key) → literal_key (cell own on.own_column.0) ≡ held
          → cond (is_one (keys_under partners held) key) (shown_both query on.side (Some own) (named key)) None ≡ cond (is_one (keys_under partners held) key) (shown_both query on.side (Some own) (row_at other others key)) None
      by None is = refl
      by (Some value) is =
          ap (λ b. cond b (shown_both query on.side (Some own) (named key)) None) (under_value value key)
          ∙ (found_by value (row_at other others key) refl ∙ ap (λ b. cond b (shown_both query on.side (Some own) (row_at other others key)) None) (sym (under_value value key)))

  module _ (own : TableDef) (named : Key → Option Row) (among : (key : Key) (row : Row) → row_at other others key ≡ Some row → named key ≡ Some row)
      (key : Key) (before after : Option Row) (old middle new : List (Place × Row))
      (out : PutsPairs on.side key (keys_under partners (held_in on.own_column.0 before)) (λ two. shown_both query on.side None (named two)) old middle)
      (come : PutsPairs on.side key (keys_under partners (held_in on.own_column.0 after)) (λ two. shown_both query on.side after (named two)) middle new)
      (rows : List Row) (are : AreRows own rows) (fits : Fits own rows key before after) where
    was_stored : IfSome before IsStoredRow
    was_stored = by before fits.was
      where
        by : (o : Option Row) → o ≡ row_at own rows key → IfSome o IsStoredRow
        by None is = tt
        by (Some row) is = (subst (λ (o : Option Row). IfSome o (StandsUnder own key)) (sym is) (found_stands own key rows are.stored)).stored

    is_stored : IfSome after IsStoredRow
    is_stored = by after fits.may
      where
        by : (o : Option Row) → IfSome o (StandsUnder own key) → IfSome o IsStoredRow
        by None may = tt
        by (Some row) may = may.stored

    abbrev theirs : Key → Option Row
    theirs two = row_at other others two

    taken : (b : Bool) (shown : Option Row) → cond b None (cond b shown None) ≡ None
    taken true shown = refl
    taken false shown = refl

    -- under the key of the change
    at_key : KeepsPairs own other query on others rows old → (two : Key) → kept_at new (place_of on.side key two) ≡ joined_of query on after (theirs two)
    at_key kept two =
        come.pairs key two
        ∙ (ap (λ b. cond (b && is_met after two) (shown_both query on.side after (named two)) (kept_at middle (place_of on.side key two))) own_key
        ∙ (ap (cond (is_met after two) (shown_both query on.side after (named two))) gone
        ∙ (looked_up named among after two ∙ sym (join_shows after two is_stored))))
      where
        own_key : is_eq (key_cmp key key) ≡ true
        own_key = ap is_eq (tied_itself key_order key)

        gone : kept_at middle (place_of on.side key two) ≡ None
        gone =
            out.pairs key two
            ∙ (ap (λ b. cond (b && is_met before two) None (kept_at old (place_of on.side key two))) own_key
            ∙ (ap (cond (is_met before two) None) (kept.pairs key two ∙ (ap (λ (o : Option Row). joined_of query on o (theirs two)) (sym fits.was) ∙ join_shows before two was_stored))
            ∙ taken (is_met before two) (shown_both query on.side before (theirs two))))

    -- and under another
    at_other : KeepsPairs own other query on others rows old → (one two : Key) → is_eq (key_cmp key one) ≡ false → kept_at new (place_of on.side one two) ≡ joined_of query on (row_at own rows one) (theirs two)
    at_other kept one two apart =
        come.pairs one two
        ∙ (ap (λ b. cond (b && is_met after two) (shown_both query on.side after (named two)) (kept_at middle (place_of on.side one two))) apart
        ∙ (out.pairs one two
        ∙ (ap (λ b. cond (b && is_met before two) None (kept_at old (place_of on.side one two))) apart ∙ kept.pairs one two)))

    at_each : KeepsPairs own other query on others rows old → (one two : Key) (b : Bool) → is_eq (key_cmp key one) ≡ b
        → kept_at new (place_of on.side one two) ≡ joined_of query on (cond b after (row_at own rows one)) (theirs two)
    at_each kept one two true tied = ap (λ (k : Key). kept_at new (place_of on.side k two)) (sym (same_key key one tied)) ∙ at_key kept two
    at_each kept one two false apart = at_other kept one two apart

    pairs_follow : KeepsPairs own other query on others rows old → KeepsPairs own other query on others (changed own key after rows) new
    pairs_follow kept = record {
      pairs = λ one two.
          at_each kept one two (is_eq (key_cmp key one)) refl
          ∙ ap (λ (o : Option Row). joined_of query on o (theirs two)) (sym (row_changed own key before after rows fits one));
      first = λ place. come.first place ∙ (out.first place ∙ kept.first place);
      second = λ place. come.second place ∙ (out.second place ∙ kept.second place);
    }

  -- so a change of the own table is followed
  pub side_follows : (own : TableDef) (named : Key → Option Row) (key : Key) (before after : Option Row) (old new : JoinedSide) (middle : List (Place × Row))
      → ((key : Key) (row : Row) → row_at other others key ≡ Some row → named key ≡ Some row)
      → PutsPairs on.side key (keys_under partners (held_in on.own_column.0 before)) (λ two. shown_both query on.side None (named two)) old.entries middle
      → PutsPairs on.side key (keys_under partners (held_in on.own_column.0 after)) (λ two. shown_both query on.side after (named two)) middle new.entries
      → MovesKey on.own_column.0 key before after old.keys new.keys → Follows (KeepsSide own other query on others) own key before after old new
  side_follows own named key before after old new middle among out come moves rows are fits kept = record {
    pairs = pairs_follow own named among key before after old.entries middle new.entries out come rows are fits kept.pairs;
    keys = keys_follow own on.own_column.0 key before after rows old.keys new.keys fits moves kept.keys;
  }

  -- the same, where the values that the two rows hold are known
  pub side_moves : (own : TableDef) (named : Key → Option Row) (key : Key) (before after : Option Row) (was is : Option Key) (old new : JoinedSide) (middle : List (Place × Row))
      → was ≡ held_in on.own_column.0 before → is ≡ held_in on.own_column.0 after → ((key : Key) (row : Row) → row_at other others key ≡ Some row → named key ≡ Some row)
      → PutsPairs on.side key (keys_under partners was) (λ two. shown_both query on.side None (named two)) old.entries middle
      → PutsPairs on.side key (keys_under partners is) (λ two. shown_both query on.side after (named two)) middle new.entries
      → MovesKey on.own_column.0 key before after old.keys new.keys → Follows (KeepsSide own other query on others) own key before after old new
  side_moves own named key before after was is old new middle was_held is_held among out come moves =
      side_follows own named key before after old new middle among
      (subst (λ (held : Option Key). PutsPairs on.side key (keys_under partners held) (λ two. shown_both query on.side None (named two)) old.entries middle) was_held out)
      (subst (λ (held : Option Key). PutsPairs on.side key (keys_under partners held) (λ two. shown_both query on.side after (named two)) middle new.entries) is_held come) moves
