-- The names of a net rise strictly: by table, then by key.
use Rattle.std.proofs.Common.{◌≡◌, ℕ, ◌+◌, ◌≤◌, List, [], ◌∷◌, ◌++◌, fold, map, Bool, true, false, refl, ap, sym, subst, arith}
use Rattle.std.specs.Prelude.{Option, None, Some, filter_map}
use Rattle.std.specs.List.{AllByRecursion, cons_option}
use Rattle.std.specs.List.Sorted.{IsStrictlySortedBy}
use Rattle.std.specs.declared.cmp.Ordering.{Ordering}
use Rattle.std.specs.declared.cmp.Ordering.TheVariants.{Less, Equal, Greater}
use Rattle.std.proofs.lemmas.List.{map-append}
use Rattle.own_base.specs.Key.{key_cmp}
use Rattle.own_base.specs.declared.change.Change.{Change}
use Rattle.own_base.specs.declared.row_name.RowName.{RowName}
use Rattle.own_base.specs.declared.value.Key.{Key}
use Rattle.own_model.specs.declared.schema.TableDef.{TableDef}
use Rattle.own_model.specs.Db.{Db, Row, key_of}
use Rattle.own_model.proofs.KeyOrder.{key_order}
use Rattle.page_model.proofs.Ordered.{below_from_above}
use Rattle.query_model.specs.Footprints.{at_first, with_key}
use Rattle.schema_model.proofs.Places.{all-append, all-weaker}
use Rattle.subject_model.specs.NameOrder.{name_cmp}
use Rattle.subject_model.proofs.Members.{all_contained}
use Rattle.subject_model.proofs.NameOrderLemmas.{key_first, lower_first, rising_append}
use Rattle.state_model.specs.Net.{change_at, change_unless_same, keys_in, net, net_from, net_in}
use Rattle.state_model.specs.Same.{is_same_state}

module _ (P : Key → Type 0) (new : Key) (own : P new) where
  all_first : (o : Ordering) (first : Key) (rest further : List Key) → P first → AllByRecursion P rest → AllByRecursion P further → AllByRecursion P (at_first o new first rest further)
  all_first Less first rest further has all more = (own, (has, all))
  all_first Equal first rest further has all more = (has, all)
  all_first Greater first rest further has all more = (has, more)

  -- what is true of a key and of those among which it comes is true of all
  pub all-with_key : (keys : List Key) → AllByRecursion P keys → AllByRecursion P (with_key new keys)
  all-with_key [] all = (own, tt)
  all-with_key (first ∷ rest) all = all_first (key_cmp new first) first rest (with_key new rest) all.0 all.1 (all-with_key rest all.1)

rise_first : (new first : Key) (rest : List Key) → IsStrictlySortedBy key_cmp (first ∷ rest) → IsStrictlySortedBy key_cmp (with_key new rest) → (o : Ordering) → key_cmp new first ≡ o
    → IsStrictlySortedBy key_cmp (at_first o new first rest (with_key new rest))
unfolding IsStrictlySortedBy
rise_first new first rest up more Less is =
    ((is, all-weaker (λ key. key_cmp first key ≡ Less) (λ key. key_cmp new key ≡ Less) (λ key later. key_order.trans new first key is later) rest up.0), up)
rise_first new first rest up more Equal is = up
rise_first new first rest up more Greater is = (all-with_key (λ key. key_cmp first key ≡ Less) new (below_from_above key_order new first is) rest up.0, more)

-- keys that rise do so with one more
rise-with_key : (new : Key) (keys : List Key) → IsStrictlySortedBy key_cmp keys → IsStrictlySortedBy key_cmp (with_key new keys)
unfolding IsStrictlySortedBy
rise-with_key new [] up = (tt, tt)
rise-with_key new (first ∷ rest) up = rise_first new first rest up (rise-with_key new rest up.1) _ refl

rise_put : (table : TableDef) (rows : List Row) (keys : List Key) → IsStrictlySortedBy key_cmp keys → IsStrictlySortedBy key_cmp (fold (λ keys row. with_key (key_of table row) keys) keys rows)
rise_put table [] keys up = up
rise_put table (row ∷ rows) keys up = rise_put table rows (with_key (key_of table row) keys) (rise-with_key (key_of table row) keys up)

-- so do those of rows
pub keys_in-rise : (table : TableDef) (rows : List Row) → IsStrictlySortedBy key_cmp (keys_in table rows)
unfolding IsStrictlySortedBy
keys_in-rise table rows = rise_put table rows [] tt

-- the name of a change
abbrev called : Change → RowName
called change = change.name

named_step : (name : RowName) (before after : Option Row) (change : Change) (same : Bool) → is_same_state before after ≡ same → change_unless_same name before after ≡ Some change → change.name ≡ name
named_step name before after change true is gives = let never : ◌≡◌ {A = Option Change} None (Some change) = rw is at gives in cc
named_step name before after change false is gives =
    let both : ◌≡◌ {A = Option Change} (Some (record { name = name; before = before; after = after })) (Some change) = rw is at gives in
    let same : record { name = name; before = before; after = after } ≡ change = cc in
    sym (ap called same)

module _ (number : ℕ) (table : TableDef) (before after : List Row) where
  abbrev named : Key → RowName
  named key = record { table = record { 0 = number }; key = key }

  abbrev told : Key → Option Change
  told = change_at number table before after

  module _ (P : RowName → Type 0) where
    all_step : (key : Key) (o : Option Change) → told key ≡ o → P (named key) → (rest : List Change) → AllByRecursion P (map called rest) → AllByRecursion P (map called (cons_option o rest))
    all_step key None gives own rest all = all
    all_step key (Some change) gives own rest all = (subst P (sym (named_step (named key) _ _ change _ refl gives)) own, all)

    -- what is true of the names of some keys is true of the names of their changes
    all_told : (keys : List Key) → AllByRecursion (λ key. P (named key)) keys → AllByRecursion P (map called (filter_map told keys))
    all_told [] all = tt
    all_told (key ∷ keys) all = all_step key (told key) refl all.0 (filter_map told keys) (all_told keys all.1)

  rise_step : (key : Key) (keys : List Key) → IsStrictlySortedBy key_cmp (key ∷ keys) → IsStrictlySortedBy name_cmp (map called (filter_map told keys))
      → (o : Option Change) → told key ≡ o → IsStrictlySortedBy name_cmp (map called (cons_option o (filter_map told keys)))
  unfolding IsStrictlySortedBy
  rise_step key keys up more None gives = more
  rise_step key keys up more (Some change) gives =
      let name : change.name ≡ named key = named_step (named key) _ _ change _ refl gives in
      let later = all-weaker (λ next. key_cmp key next ≡ Less) (λ next. name_cmp (named key) (named next) ≡ Less) (λ next below. key_first (named key) (named next) refl below) keys up.0 in
      (subst (λ own. AllByRecursion (λ next. name_cmp own next ≡ Less) (map called (filter_map told keys))) (sym name) (all_told (λ next. name_cmp (named key) next ≡ Less) keys later), more)

  told_rise : (keys : List Key) → IsStrictlySortedBy key_cmp keys → IsStrictlySortedBy name_cmp (map called (filter_map told keys))
  unfolding IsStrictlySortedBy
  told_rise [] up = tt
  told_rise (key ∷ keys) up = rise_step key keys up (told_rise keys up.1) (told key) refl

-- the names of tables that are numbered from here on are of no lower one
no_lower : (number : ℕ) (tables : List TableDef) (befores afters : List (List Row)) → AllByRecursion (λ name. number ≤ name.table.0) (map called (net_from number tables befores afters))
unfolding net_from
no_lower number [] befores afters = tt
no_lower number (table ∷ tables) [] afters = tt
no_lower number (table ∷ tables) (before ∷ befores) [] = tt
no_lower number (table ∷ tables) (before ∷ befores) (after ∷ afters) =
    rw (map-append called (net_in number table before after) (net_from (number + 1) tables befores afters))
    (all-append (λ name. number ≤ name.table.0) (map called (net_in number table before after)) (map called (net_from (number + 1) tables befores afters))
    (all_told number table before after (λ name. number ≤ name.table.0) (keys_in table (before ++ after)) (each (keys_in table (before ++ after))))
    (all-weaker (λ name. number + 1 ≤ name.table.0) (λ name. number ≤ name.table.0) (λ name least. omega arith) (map called (net_from (number + 1) tables befores afters)) (no_lower (number + 1) tables befores afters)))
  where
    each : (keys : List Key) → AllByRecursion (λ (key : Key). number ≤ number) keys
    each [] = tt
    each (key ∷ keys) = (omega arith, each keys)

from_rise : (number : ℕ) (tables : List TableDef) (befores afters : List (List Row)) → IsStrictlySortedBy name_cmp (map called (net_from number tables befores afters))
unfolding net_from IsStrictlySortedBy
from_rise number [] befores afters = tt
from_rise number (table ∷ tables) [] afters = tt
from_rise number (table ∷ tables) (before ∷ befores) [] = tt
from_rise number (table ∷ tables) (before ∷ befores) (after ∷ afters) =
    let own = map called (net_in number table before after) in
    let later = map called (net_from (number + 1) tables befores afters) in
    rw (map-append called (net_in number table before after) (net_from (number + 1) tables befores afters))
    (rising_append name_cmp own later (told_rise number table before after (keys_in table (before ++ after)) (keys_in-rise table (before ++ after))) (from_rise (number + 1) tables befores afters)
    (λ one other here there.
    let at = all_contained (λ name. name.table.0 ≤ number) own one (all_told number table before after (λ name. name.table.0 ≤ number) (keys_in table (before ++ after)) (each (keys_in table (before ++ after)))) here in
    let least = all_contained (λ name. number + 1 ≤ name.table.0) later other (no_lower (number + 1) tables befores afters) there in
    lower_first one other (omega arith)))
  where
    each : (keys : List Key) → AllByRecursion (λ (key : Key). number ≤ number) keys
    each [] = tt
    each (key ∷ keys) = (omega arith, each keys)

-- the names of a net rise strictly
pub net_rises : (before after : Db) → IsStrictlySortedBy name_cmp (map (λ change. change.name) (net before after))
unfolding net
net_rises before after = from_rise 0 after.schema.tables before.rows after.rows
