-- What is kept for a grouped view follows a row that comes in or goes out.
use Rattle.std.proofs.Common.{◌≡◌, refl, sym, ◌∙◌, ap, subst, List, [], ◌∷◌, ◌++◌, length, Option, Some, None, arith}
use Rattle.std.specs.Prelude.{Bool, true, false, cond, not, ◌&&◌, ◌==◌}
use Rattle.std.specs.Option.{option_map_or, option_to_list}
use Rattle.std.specs.Ordering.{is_eq}
use Rattle.std.proofs.lemmas.Bool.{eqb-true}
use Rattle.std.proofs.lemmas.Cmp.{tied_itself}
use Rattle.std.proofs.lemmas.List.Elements.{filter-append}
use Rattle.own_base.specs.Key.{key_cmp}
use Rattle.own_base.specs.declared.number.ColNo.{ColNo}
use Rattle.own_base.specs.declared.value.Key.{Key}
use Rattle.own_model.specs.declared.bound.BoundItem.{BoundItem}
use Rattle.own_model.specs.declared.bound.BoundSelect.{BoundSelect}
use Rattle.own_model.specs.declared.schema.TableDef.{TableDef}
use Rattle.own_model.specs.Db.{Row, key_of}
use Rattle.page_model.specs.Changed.{above_key, below_key, with_change}
use Rattle.page_model.specs.Found.{found}
use Rattle.page_model.proofs.Ordered.{equal_from}
use Rattle.query_model.specs.Truth.{keeps}
use Rattle.view_deltas.specs.Counted.{Counted}
use Rattle.view_deltas.specs.Entries.{kept_at, PutsAt}
use Rattle.view_deltas.specs.Groups.{counted_in, Counts, group_at, group_rows, in_group, KeepsGroups, Renews, side_of, where_shown}
use Rattle.view_deltas.specs.Place.{Place, place_cmp, side_cmp}
use Rattle.view_deltas.specs.PlaceOrder.{side_exact, side_total}
use Rattle.view_deltas.specs.TableRows.{Follows}
use Rattle.view_deltas.specs.Tally.{shown_tally, tally, with_row}
use Rattle.view_deltas.specs.declared.grouped.GroupedView.{GroupedView}
use Rattle.view_deltas.specs.declared.way.Way.{Way}
use Rattle.view_deltas.specs.declared.way.Way.TheVariants.{In, Out}
use Rattle.view_deltas.proofs.ChangeLemmas.{put_back}
use Rattle.view_deltas.proofs.PlainLemmas.{then_equal, then_less}
use Rattle.view_deltas.proofs.TallyLemmas.{tally_among, tally_without}

-- what is kept at a place where one thing was put
put_there : {T : Type 0} (place : Place) (item : Option T) (old new : List (Place × T)) → PutsAt place item old new → (other : Place) → is_eq (place_cmp place other) ≡ true → kept_at new other ≡ item
put_there place item old new put other tied = put other ∙ ap (λ b. cond b item (kept_at old other)) tied

put_elsewhere : {T : Type 0} (place : Place) (item : Option T) (old new : List (Place × T)) → PutsAt place item old new → (other : Place) → is_eq (place_cmp place other) ≡ false → kept_at new other ≡ kept_at old other
put_elsewhere place item old new put other apart = put other ∙ ap (λ b. cond b item (kept_at old other)) apart

side_exact_from : (one other : Option Key) → is_eq (side_cmp one other) ≡ true → one ≡ other
side_exact_from one other tied = side_exact one other (equal_from _ tied)

-- a length that isn't 0 or a list that is empty
no_rows : (rows : List Row) → (length rows == 0) ≡ true → rows ≡ []
no_rows rows none = empty rows (eqb-true _ _ none)
  where
    empty : (rows : List Row) → length rows ≡ 0 → rows ≡ []
    empty [] is = refl
    empty (row ∷ rows) is = absurd (omega arith)

none_kept : {T : Type 0} (entries : List (Place × T)) (place : Place) → entries ≡ [] → kept_at entries place ≡ None
unfolding kept_at found
none_kept {T} entries place none = ap (λ (all : List (Place × T)). kept_at all place) none

module _ (query : BoundSelect) where
  -- a row among others, in its group, and out of another
  among_yes : (side : Option Key) (front : List Row) (row : Row) (behind : List Row) → in_group query side row ≡ true
      → group_rows query side (front ++ row ∷ behind) ≡ group_rows query side front ++ row ∷ group_rows query side behind
  among_yes side front row behind is =
      filter-append (in_group query side) front (row ∷ behind) ∙ ap (λ b. group_rows query side front ++ cond b (row ∷ group_rows query side behind) (group_rows query side behind)) is

  among_no : (side : Option Key) (front : List Row) (row : Row) (behind : List Row) → in_group query side row ≡ false → group_rows query side (front ++ row ∷ behind) ≡ group_rows query side (front ++ behind)
  among_no side front row behind is =
      filter-append (in_group query side) front (row ∷ behind)
      ∙ (ap (λ b. group_rows query side front ++ cond b (row ∷ group_rows query side behind) (group_rows query side behind)) is ∙ sym (filter-append (in_group query side) front behind))

  -- a row that WHERE keeps is of its own group, and of no other
  own_group : (row : Row) → keeps query.cond row ≡ true → in_group query (side_of query.group row) row ≡ true
  own_group row kept = ap (λ b. b && is_eq (side_cmp (side_of query.group row) (side_of query.group row))) kept ∙ ap is_eq (tied_itself side_total (side_of query.group row))

  other_group : (side : Option Key) (row : Row) → is_eq (side_cmp (side_of query.group row) side) ≡ false → in_group query side row ≡ false
  other_group side row apart = by (keeps query.cond row)
    where
      by : (b : Bool) → (b && is_eq (side_cmp (side_of query.group row) side)) ≡ false
      by true = apart
      by false = refl

  passed : (side : Option Key) (row : Row) → keeps query.cond row ≡ false → in_group query side row ≡ false
  passed side row not_kept = ap (λ b. b && is_eq (side_cmp (side_of query.group row) side)) not_kept

  -- what is counted for the group of a row, where it isn't shown that of no rows
  shown_or_none : (group : Option ColNo) (row : Row) (items : List BoundItem) (rows : List Row) → counted_in items (where_shown group (side_of group row) (tally items rows)) ≡ tally items rows
  unfolding tally
  shown_or_none None row items rows = refl
  shown_or_none (Some column) row items rows = by (length rows == 0) refl
    where
      side : Option Key
      side = side_of (Some column) row

      by : (b : Bool) → (length rows == 0) ≡ b → counted_in items (cond (not b) (Some (tally items rows, shown_tally side (tally items rows))) None) ≡ tally items rows
      by true none = ap (tally items) (sym (no_rows rows none))
      by false some = refl

  module _ (old new : GroupedView) (before after : List Row) where
    -- Where the tally of one group is renewed to that of the rows after, and the other groups have the same rows, all is kept.
    renewed : (side : Option Key) (counted : Counted) → counted ≡ tally query.items (group_rows query side after)
        → ((other : Option Key) → is_eq (side_cmp side other) ≡ false → group_rows query other after ≡ group_rows query other before)
        → Renews query.group side counted old new → KeepsGroups query before old → KeepsGroups query after new
    unfolding group_at
    renewed side counted is others renews kept = record { each = at }
      where
        -- at a place with one key
        at_one : (other : Option Key) (b : Bool) → is_eq (side_cmp side other) ≡ b → kept_at new.groups (other, None) ≡ where_shown query.group other (tally query.items (group_rows query other after))
        at_one other true tied =
            let same : side ≡ other = side_exact_from side other tied in
            put_there (side, None) (where_shown query.group side counted) old.groups new.groups renews (other, None) (then_equal (side_cmp side other) ∙ tied)
            ∙ (ap (where_shown query.group side) is ∙ ap (λ (own : Option Key). where_shown query.group own (tally query.items (group_rows query own after))) same)
        at_one other false apart =
            put_elsewhere (side, None) (where_shown query.group side counted) old.groups new.groups renews (other, None) (then_equal (side_cmp side other) ∙ apart)
            ∙ (kept.each (other, None) ∙ ap (λ (rows : List Row). where_shown query.group other (tally query.items rows)) (sym (others other apart)))

        at : (place : Place) → kept_at new.groups place ≡ group_at query after place
        at (other, None) = at_one other (is_eq (side_cmp side other)) refl
        at (other, Some key) =
            put_elsewhere (side, None) (where_shown query.group side counted) old.groups new.groups renews (other, Some key) (then_less (side_cmp side other)) ∙ kept.each (other, Some key)

  -- rows with the same groups are kept alike
  same_groups : (groups : GroupedView) (before after : List Row) → ((side : Option Key) → group_rows query side after ≡ group_rows query side before) → KeepsGroups query before groups → KeepsGroups query after groups
  unfolding group_at
  same_groups groups before after same kept = record { each = at }
    where
      at : (place : Place) → kept_at groups.groups place ≡ group_at query after place
      at (side, None) = kept.each (side, None) ∙ ap (λ (rows : List Row). where_shown query.group side (tally query.items rows)) (sym (same side))
      at (side, Some key) = kept.each (side, Some key)

  module _ (row : Row) (old new : GroupedView) where
    -- a row that WHERE doesn't keep changes nothing
    pub passed_over : (way : Way) → keeps query.cond row ≡ false → Counts query way (Some row) old old
    passed_over In not_kept = λ front behind kept. same_groups old (front ++ behind) (front ++ row ∷ behind) (λ side. among_no side front row behind (passed side row not_kept)) kept
    passed_over Out not_kept = λ front behind kept. same_groups old (front ++ row ∷ behind) (front ++ behind) (λ side. sym (among_no side front row behind (passed side row not_kept))) kept

    -- one that it keeps is counted in or out
    pub counted : (way : Way) (side : Option Key) (after : Counted) → keeps query.cond row ≡ true → side ≡ side_of query.group row
        → after ≡ with_row way row (counted_in query.items (kept_at old.groups (side, None))) → Renews query.group side after old new → Counts query way (Some row) old new
    unfolding group_at
    counted In side after keep of is renews = λ front behind kept.
        let own : in_group query side row ≡ true = subst (λ (own : Option Key). in_group query own row ≡ true) (sym of) (own_group row keep) in
        let was : counted_in query.items (kept_at old.groups (side, None)) ≡ tally query.items (group_rows query side (front ++ behind)) =
        ap (counted_in query.items) (kept.each (side, None))
        ∙ (ap (λ (own : Option Key). counted_in query.items (where_shown query.group own (tally query.items (group_rows query side (front ++ behind))))) of
        ∙ shown_or_none query.group row query.items (group_rows query side (front ++ behind))) in
        let now : after ≡ tally query.items (group_rows query side (front ++ row ∷ behind)) =
        is
        ∙ (ap (with_row In row) (was ∙ ap (tally query.items) (filter-append (in_group query side) front behind))
        ∙ (sym (tally_among query.items (group_rows query side front) row (group_rows query side behind)) ∙ ap (tally query.items) (sym (among_yes side front row behind own)))) in
        renewed old new (front ++ behind) (front ++ row ∷ behind) side after now
        (λ other apart. among_no other front row behind (other_group other row (subst (λ (own : Option Key). is_eq (side_cmp own other) ≡ false) of apart))) renews kept
    counted Out side after keep of is renews = λ front behind kept.
        let own : in_group query side row ≡ true = subst (λ (own : Option Key). in_group query own row ≡ true) (sym of) (own_group row keep) in
        let was : counted_in query.items (kept_at old.groups (side, None)) ≡ tally query.items (group_rows query side (front ++ row ∷ behind)) =
        ap (counted_in query.items) (kept.each (side, None))
        ∙ (ap (λ (own : Option Key). counted_in query.items (where_shown query.group own (tally query.items (group_rows query side (front ++ row ∷ behind))))) of
        ∙ shown_or_none query.group row query.items (group_rows query side (front ++ row ∷ behind))) in
        let now : after ≡ tally query.items (group_rows query side (front ++ behind)) =
        is
        ∙ (ap (with_row Out row) (was ∙ ap (tally query.items) (among_yes side front row behind own))
        ∙ (tally_without query.items (group_rows query side front) row (group_rows query side behind) ∙ ap (tally query.items) (sym (filter-append (in_group query side) front behind)))) in
        renewed old new (front ++ row ∷ behind) (front ++ behind) side after now
        (λ other apart. sym (among_no other front row behind (other_group other row (subst (λ (own : Option Key). is_eq (side_cmp own other) ≡ false) of apart)))) renews kept

  -- so a change is followed: the row before it goes out, and the row after it comes in
  pub groups_follow : (table : TableDef) (key : Key) (before after : Option Row) (old middle new : GroupedView) → Counts query Out before old middle → Counts query In after middle new
      → Follows (KeepsGroups query) table key before after old new
  unfolding with_change
  groups_follow table key before after old middle new out come rows are fits kept =
      let front = below_key (key_of table) key_cmp key rows in
      let behind = above_key (key_of table) key_cmp key rows in
      let parts : rows ≡ front ++ (option_to_list before ++ behind) = sym (put_back table key rows are) ∙ ap (λ (o : Option Row). front ++ (option_to_list o ++ behind)) (sym fits.was) in
      come front behind (out front behind (subst (λ (all : List Row). KeepsGroups query all old) parts kept))

  -- and at first there is the tally of no rows
  pub groups_begin : (old new : GroupedView) (after : Counted) → old.groups ≡ [] → after ≡ tally query.items [] → Renews query.group None after old new → KeepsGroups query [] new
  unfolding group_at kept_at found tally
  groups_begin old new after none is renews = record { each = at }
    where
      where_none : (group : Option ColNo) (key : Key) → where_shown group (Some key) (tally query.items []) ≡ None
      where_none None key = refl
      where_none (Some column) key = refl

      at : (place : Place) → kept_at new.groups place ≡ group_at query [] place
      at (None, None) = put_there (None, None) (where_shown query.group None after) old.groups new.groups renews (None, None) refl ∙ ap (where_shown query.group None) is
      at (Some key, None) =
          put_elsewhere (None, None) (where_shown query.group None after) old.groups new.groups renews (Some key, None) refl ∙ (none_kept old.groups (Some key, None) none ∙ sym (where_none query.group key))
      at (None, Some key) = put_elsewhere (None, None) (where_shown query.group None after) old.groups new.groups renews (None, Some key) refl ∙ none_kept old.groups (None, Some key) none
      at (Some one, Some key) = put_elsewhere (None, None) (where_shown query.group None after) old.groups new.groups renews (Some one, Some key) refl ∙ none_kept old.groups (Some one, Some key) none
