-- The tables of a session, where one more is there or one is changed.
use Rattle.std.proofs.Common.{◌≡◌, ℕ, zero, suc, ◌+◌, ◌<◌, List, [], ◌∷◌, ◌++◌, Bool, true, false, cond, length, Option, refl, sym, ap, ◌∙◌, subst, ◌||◌, get_or, arith, ◌==◌}
use Rattle.std.specs.Prelude.{◌&&◌, slice_get, slice_set}
use Rattle.std.specs.List.{list_any}
use Rattle.std.specs.Option.{option_map_or}
use Rattle.std.proofs.lemmas.Bool.{eqb-false, eqb-true}
use Rattle.std.proofs.Math.Bool.{or-false}
use Rattle.own_base.specs.declared.value.Key.{Key}
use Rattle.own_model.specs.declared.footprint.FootItem.{FootItem}
use Rattle.run_model.specs.Agree.{keys_meet, overlaps}
use Rattle.row_locks.specs.declared.table_locks.TableLocks.{TableLocks}
use Rattle.row_locks.specs.SessionItems.{has_place_in, items_from, tables_meet}
use Rattle.row_locks.specs.Locks.{has_place, meet, table_items}
use Rattle.row_locks.proofs.TableItems.{tables_any}

-- what is asked of the locks at a place
abbrev at : (TableLocks → Bool) → List TableLocks → ℕ → Bool
at test tables place = option_map_or test (slice_get tables place) false

-- a table more, of which nothing is held
pub items_more : (new : TableLocks) (first : ℕ) (tables : List TableLocks) → ((table : ℕ) → table_items table new.whole new.rows.entries ≡ []) → items_from first (tables ++ new ∷ []) ≡ items_from first tables
unfolding items_from
items_more new first [] nothing = rw (nothing first) refl
items_more new first (locks ∷ tables) nothing = ap (λ items. table_items first locks.whole locks.rows.entries ++ items) (items_more new (first + 1) tables nothing)

at_more : (test : TableLocks → Bool) (new : TableLocks) (tables : List TableLocks) (place : ℕ) → at test tables place ≡ true → at test (tables ++ new ∷ []) place ≡ true
at_more test new [] place is = cc
at_more test new (locks ∷ tables) zero is = is
at_more test new (locks ∷ tables) (suc place) is = at_more test new tables place is

pub places_more : (new : TableLocks) (tables : List TableLocks) (item : FootItem) → has_place_in tables item ≡ true → has_place_in (tables ++ new ∷ []) item ≡ true
places_more new tables item is = at_more (λ locks. has_place locks.rows.entries item.key) new tables item.table.0 is

-- what is found at a place is there
pub at_within : (test : TableLocks → Bool) (tables : List TableLocks) (place : ℕ) → at test tables place ≡ true → place < length tables
at_within test [] place is = cc
at_within test (locks ∷ tables) zero is = omega arith
at_within test (locks ∷ tables) (suc place) is = let later = at_within test tables place is in omega arith

at_own : (test : TableLocks → Bool) (tables : List TableLocks) (place : ℕ) (old : TableLocks) → place < length tables → old ≡ get_or tables place old → at test tables place ≡ test old
at_own test [] place old within is = absurd (omega arith)
at_own test (locks ∷ tables) zero old within is = ap test (sym is)
at_own test (locks ∷ tables) (suc place) old within is = at_own test tables place old (omega arith) is

at_set : (test : TableLocks → Bool) (tables : List TableLocks) (place : ℕ) (new : TableLocks) → place < length tables → at test (slice_set tables place new) place ≡ test new
at_set test [] place new within = absurd (omega arith)
at_set test (locks ∷ tables) zero new within = refl
at_set test (locks ∷ tables) (suc place) new within = at_set test tables place new (omega arith)

at_other : (test : TableLocks → Bool) (tables : List TableLocks) (place other : ℕ) (new : TableLocks) → (other ≡ place → ⊥) → at test (slice_set tables place new) other ≡ at test tables other
at_other test [] place other new apart = refl
at_other test (locks ∷ tables) zero zero new apart = absurd (apart refl)
at_other test (locks ∷ tables) zero (suc other) new apart = refl
at_other test (locks ∷ tables) (suc place) zero new apart = refl
at_other test (locks ∷ tables) (suc place) (suc other) new apart = at_other test tables place other new (λ same. apart (omega arith))

-- One table is changed.
items_from_set : (first : ℕ) (tables : List TableLocks) (place : ℕ) (old new : TableLocks) → place < length tables → old ≡ get_or tables place old
    → ((table : ℕ) → table_items table new.whole new.rows.entries ≡ table_items table old.whole old.rows.entries) → items_from first (slice_set tables place new) ≡ items_from first tables
unfolding items_from
items_from_set first [] place old new within is same = absurd (omega arith)
items_from_set first (locks ∷ tables) zero old new within is same =
    ap (λ items. items ++ items_from (first + 1) tables) (same first ∙ ap (λ (one : TableLocks). table_items first one.whole one.rows.entries) is)
items_from_set first (locks ∷ tables) (suc place) old new within is same =
    ap (λ items. table_items first locks.whole locks.rows.entries ++ items) (items_from_set (first + 1) tables place old new (omega arith) is same)

-- what is asked of a place, by whether it is the changed one's
at_by : (test : TableLocks → Bool) (tables : List TableLocks) (place other : ℕ) (old new : TableLocks) → place < length tables → old ≡ get_or tables place old → (b : Bool) → (other == place) ≡ b
    → (at test (slice_set tables place new) other ≡ cond b (test new) (at test tables other)) × (b ≡ true → at test tables other ≡ test old)
at_by test tables place other old new within is true own =
    let same : other ≡ place = eqb-true other place own in (
      subst (λ n. at test (slice_set tables place new) n ≡ test new) (sym same) (at_set test tables place new within),
      λ _. subst (λ n. at test tables n ≡ test old) (sym same) (at_own test tables place old within is),
    )
at_by test tables place other old new within is false apart = (at_other test tables place other new (eqb-false other place apart), λ never. cc)

module _ (tables : List TableLocks) (item : FootItem) (old new : TableLocks) (within : item.table.0 < length tables) (is : old ≡ get_or tables item.table.0 old) where
  -- its items stay
  pub items_set : ((table : ℕ) → table_items table new.whole new.rows.entries ≡ table_items table old.whole old.rows.entries)
      → items_from 0 (slice_set tables item.table.0 new) ≡ items_from 0 tables
  items_set same = items_from_set 0 tables item.table.0 old new within is same

  -- places stay
  pub places_set : ((key : Option Key) → has_place old.rows.entries key ≡ true → has_place new.rows.entries key ≡ true)
      → (other : FootItem) → has_place_in tables other ≡ true → has_place_in (slice_set tables item.table.0 new) other ≡ true
  places_set kept other there = by (other.table.0 == item.table.0) refl
    where
      by : (b : Bool) → (other.table.0 == item.table.0) ≡ b → has_place_in (slice_set tables item.table.0 new) other ≡ true
      by true own =
          let both = at_by (λ locks. has_place locks.rows.entries other.key) tables item.table.0 other.table.0 old new within is true own in
          both.0 ∙ kept other.key (sym (both.1 refl) ∙ there)
      by false apart = (at_by (λ locks. has_place locks.rows.entries other.key) tables item.table.0 other.table.0 old new within is false apart).0 ∙ there

  -- and one more is there
  pub place_set : has_place new.rows.entries item.key ≡ true → has_place_in (slice_set tables item.table.0 new) item ≡ true
  place_set there = at_set (λ locks. has_place locks.rows.entries item.key) tables item.table.0 new within ∙ there

  -- what had a place
  pub place_was : has_place_in tables item ≡ true → has_place old.rows.entries item.key ≡ true
  place_was there = sym (at_own (λ locks. has_place locks.rows.entries item.key) tables item.table.0 old within is) ∙ there

  -- the same places
  pub same_places : ((key : Option Key) → has_place new.rows.entries key ≡ has_place old.rows.entries key) → (other : FootItem) → has_place_in (slice_set tables item.table.0 new) other ≡ has_place_in tables other
  same_places same other = by (other.table.0 == item.table.0) refl
    where
      by : (b : Bool) → (other.table.0 == item.table.0) ≡ b → has_place_in (slice_set tables item.table.0 new) other ≡ has_place_in tables other
      by true own =
          let both = at_by (λ locks. has_place locks.rows.entries other.key) tables item.table.0 other.table.0 old new within is true own in
          both.0 ∙ (same other.key ∙ sym (both.1 refl))
      by false apart = (at_by (λ locks. has_place locks.rows.entries other.key) tables item.table.0 other.table.0 old new within is false apart).0

  -- an item more is held
  pub held_more : ((key : Option Key) (write : Bool) → meet new.whole new.rows.entries key write ≡ (meet old.whole old.rows.entries key write || (keys_meet key item.key && (write || item.write))))
      → (asked : FootItem) → list_any (overlaps asked) (items_from 0 (slice_set tables item.table.0 new)) ≡ (list_any (overlaps asked) (items_from 0 tables) || overlaps asked item)
  held_more more asked =
      tables_any asked (slice_set tables item.table.0 new) ∙ (by (asked.table.0 == item.table.0) refl ∙ ap (λ (b : Bool). b || overlaps asked item) (sym (tables_any asked tables)))
    where
      by : (b : Bool) → (asked.table.0 == item.table.0) ≡ b → tables_meet (slice_set tables item.table.0 new) asked ≡ (tables_meet tables asked || overlaps asked item)
      by true own =
          let both = at_by (λ locks. meet locks.whole locks.rows.entries asked.key asked.write) tables item.table.0 asked.table.0 old new within is true own in
          both.0 ∙ (more asked.key asked.write ∙ rw (both.1 refl, own) refl)
      by false apart =
          (at_by (λ locks. meet locks.whole locks.rows.entries asked.key asked.write) tables item.table.0 asked.table.0 old new within is false apart).0
          ∙ rw apart (sym (or-false (tables_meet tables asked)))

-- so that it has a place it is one of so many tables
pub place_within : (tables : List TableLocks) (item : FootItem) → has_place_in tables item ≡ true → item.table.0 < length tables
place_within tables item there = at_within (λ locks. has_place locks.rows.entries item.key) tables item.table.0 there
