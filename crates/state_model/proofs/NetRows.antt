-- A net tells exactly the rows that differ.
use Rattle.std.proofs.Common.{◌≡◌, ℕ, zero, suc, ◌+◌, List, [], ◌∷◌, ◌++◌, fold, Bool, true, false, cond, inl, inr, refl, ap, sym, ◌∙◌, subst, arith}
use Rattle.std.specs.Prelude.{◌↔◌, ◌≢◌, Contains, Option, None, Some, filter_map, find, slice_get}
use Rattle.std.specs.List.{cons_option}
use Rattle.std.specs.declared.cmp.Ordering.{Ordering}
use Rattle.std.specs.declared.cmp.Ordering.TheVariants.{Less, Equal, Greater}
use Rattle.std.proofs.lemmas.List.Elements.{Contains-append_cases, Contains-append_left, Contains-append_right}
use Rattle.own_base.specs.Key.{key_cmp}
use Rattle.own_base.specs.declared.change.Change.{Change}
use Rattle.own_base.specs.declared.row_name.RowName.{RowName}
use Rattle.own_base.specs.declared.value.Key.{Key}
use Rattle.own_model.specs.declared.schema.TableDef.{TableDef}
use Rattle.own_model.specs.Db.{AreRising, Db, IsOrdered, Row, key_of}
use Rattle.own_model.specs.Stored.{has_key, is_equal, row_named, rows_at}
use Rattle.owner_model.specs.Joins.{row_of}
use Rattle.query_model.specs.Footprints.{at_first, with_key}
use Rattle.subject_model.proofs.Members.{contains_cases, contains_here, contains_later, contains_none}
use Rattle.subject_model.proofs.NamedLemmas.{one_key}
use Rattle.state_model.specs.ChangeOf.{IsChangeOf}
use Rattle.state_model.specs.Net.{change_at, change_unless_same, keys_in, net, net_from, net_in}
use Rattle.state_model.specs.Same.{is_same_state}
use Rattle.state_model.proofs.SameLemmas.{one_state, state_same}

-- a key more is among them
own_first : (new first : Key) (rest : List Key) → Contains (with_key new rest) new → (o : Ordering) → key_cmp new first ≡ o → Contains (at_first o new first rest (with_key new rest)) new
own_first new first rest more Less is = contains_here new (first ∷ rest)
own_first new first rest more Equal is = subst (Contains (first ∷ rest)) (sym (one_key new first (ap is_equal is))) (contains_here first rest)
own_first new first rest more Greater is = contains_later first (with_key new rest) new more

own-with_key : (new : Key) (keys : List Key) → Contains (with_key new keys) new
own-with_key new [] = contains_here new []
own-with_key new (first ∷ rest) = own_first new first rest (own-with_key new rest) _ refl

-- and those before it still are
still_first : (new first key : Key) (rest : List Key) → Contains (first ∷ rest) key → (Contains rest key → Contains (with_key new rest) key)
    → (o : Ordering) → Contains (at_first o new first rest (with_key new rest)) key
still_first new first key rest among more Less = contains_later new (first ∷ rest) key among
still_first new first key rest among more Equal = among
still_first new first key rest among more Greater = elim (contains_cases first rest key among) [
  | inl here ↦ subst (Contains (first ∷ with_key new rest)) here (contains_here first (with_key new rest))
  | inr later ↦ contains_later first (with_key new rest) key (more later)
]

still-with_key : (new key : Key) (keys : List Key) → Contains keys key → Contains (with_key new keys) key
still-with_key new key [] among = absurd (contains_none key among)
still-with_key new key (first ∷ rest) among = still_first new first key rest among (still-with_key new key rest) (key_cmp new first)

module _ (table : TableDef) where
  abbrev put : List Key → List Row → List Key
  put keys rows = fold (λ keys row. with_key (key_of table row) keys) keys rows

  still_put : (key : Key) (keys : List Key) (rows : List Row) → Contains keys key → Contains (put keys rows) key
  still_put key keys [] among = among
  still_put key keys (row ∷ rows) among = still_put key (with_key (key_of table row) keys) rows (still-with_key (key_of table row) key keys among)

  own_put : (row : Row) (keys : List Key) (rows : List Row) → Contains rows row → Contains (put keys rows) (key_of table row)
  own_put row keys [] among = absurd (contains_none row among)
  own_put row keys (first ∷ rows) among = elim (contains_cases first rows row among) [
    | inl here ↦ still_put (key_of table row) (with_key (key_of table first) keys) rows
        (subst (λ r. Contains (with_key (key_of table first) keys) (key_of table r)) here (own-with_key (key_of table first) keys))
    | inr later ↦ own_put row (with_key (key_of table first) keys) rows later
  ]

  -- a row that is found has its key among those of the rows
  found_row : (key : Key) (rows : List Row) (row : Row) → find (has_key table key) rows ≡ Some row → Contains rows row × (key_of table row ≡ key)
  found_row key [] row is = let never : ◌≡◌ {A = Option Row} None (Some row) = is in cc
  found_row key (first ∷ rows) row is = by (has_key table key first) refl (found_row key rows row) is
    where
      by : (b : Bool) → has_key table key first ≡ b → (find (has_key table key) rows ≡ Some row → Contains rows row × (key_of table row ≡ key))
          → cond b (Some first) (find (has_key table key) rows) ≡ Some row → Contains (first ∷ rows) row × (key_of table row ≡ key)
      by true has more here =
          let same : first ≡ row = cc in
          (subst (Contains (first ∷ rows)) same (contains_here first rows), subst (λ r. key_of table r ≡ key) same (one_key _ _ has))
      by false fails more later = let rest = more later in (contains_later first rows row rest.0, rest.1)

  key_among : (key : Key) (rows more : List Row) (row : Row) → Contains more row × (key_of table row ≡ key) → Contains (keys_in table (rows ++ more)) key
  key_among key rows more row (among, is) = subst (Contains (keys_in table (rows ++ more))) is (own_put row [] (rows ++ more) (Contains-append_right rows more row among))

  key_before : (key : Key) (rows more : List Row) (row : Row) → Contains rows row × (key_of table row ≡ key) → Contains (keys_in table (rows ++ more)) key
  key_before key rows more row (among, is) = subst (Contains (keys_in table (rows ++ more))) is (own_put row [] (rows ++ more) (Contains-append_left rows more row among))

  -- a key of which the rows differ is one of them
  differing_key : (key : Key) (before after : List Row) (was is : Option Row) → find (has_key table key) before ≡ was → find (has_key table key) after ≡ is → was ≢ is
      → Contains (keys_in table (before ++ after)) key
  differing_key key before after None None found_was found_is differ = absurd (differ refl)
  differing_key key before after (Some row) is found_was found_is differ = key_before key before after row (found_row key before row found_was)
  differing_key key before after None (Some row) found_was found_is differ = key_among key before after row (found_row key after row found_is)

module _ {X Y : Type 0} (give : X → Option Y) where
  contains_filter_map : (xs : List X) (x : X) (y : Y) → Contains xs x → give x ≡ Some y → Contains (filter_map give xs) y
  contains_filter_map [] x y among gives = absurd (contains_none x among)
  contains_filter_map (first ∷ xs) x y among gives = elim (contains_cases first xs x among) [
    | inl here ↦ (let own : give first ≡ Some y = ap give here ∙ gives in rw own (contains_here y (filter_map give xs)))
    | inr later ↦ by (give first) (contains_filter_map xs x y later gives)
  ]
    where
      by : (o : Option Y) → Contains (filter_map give xs) y → Contains (cons_option o (filter_map give xs)) y
      by None more = more
      by (Some one) more = contains_later one (filter_map give xs) y more

  contains_of_filter_map : (xs : List X) (y : Y) → Contains (filter_map give xs) y → (x : X) × Contains xs x × (give x ≡ Some y)
  contains_of_filter_map [] y among = absurd (contains_none y among)
  contains_of_filter_map (first ∷ xs) y among = by (give first) refl (contains_of_filter_map xs y) among
    where
      by : (o : Option Y) → give first ≡ o → (Contains (filter_map give xs) y → (x : X) × Contains xs x × (give x ≡ Some y)) → Contains (cons_option o (filter_map give xs)) y
          → (x : X) × Contains (first ∷ xs) x × (give x ≡ Some y)
      by None none more kept = let from = more kept in (from.0, contains_later first xs from.0 from.1, from.2)
      by (Some one) some more kept = elim (contains_cases one (filter_map give xs) y kept) [
        | inl here ↦ (first, contains_here first xs, some ∙ ap Some here)
        | inr later ↦ (let from = more later in (from.0, contains_later first xs from.0 from.1, from.2))
      ]

-- what becomes of a row, where it differs
told_step : (name : RowName) (before after : Option Row) (change : Change) (same : Bool) → is_same_state before after ≡ same
    → change_unless_same name before after ≡ Some change → (change ≡ record { name = name; before = before; after = after }) × (before ≢ after)
told_step name before after change true is gives = let never : ◌≡◌ {A = Option Change} None (Some change) = rw is at gives in cc
told_step name before after change false is gives =
    let both : ◌≡◌ {A = Option Change} (Some (record { name = name; before = before; after = after })) (Some change) = rw is at gives in
    (cc, λ one. let same = state_same before in let own : is_same_state before after ≡ true = subst (λ s. is_same_state before s ≡ true) one same in let never : true ≡ false = sym own ∙ is in cc)

differing_step : (name : RowName) (before after : Option Row) → before ≢ after → (same : Bool) → is_same_state before after ≡ same
    → change_unless_same name before after ≡ Some (record { name = name; before = before; after = after })
differing_step name before after differ true is = absurd (differ (one_state before after is))
differing_step name before after differ false is = rw is refl

-- a change of one table, whose number and rows these are
pub record IsChangeAt (number : ℕ) (table : TableDef) (before after : List Row) (change : Change) : Type 0 where
  pub number_is : change.name.table.0 ≡ number
  pub was : find (has_key table change.name.key) before ≡ change.before
  pub is : find (has_key table change.name.key) after ≡ change.after
  pub differ : change.before ≢ change.after

module _ (number : ℕ) (table : TableDef) (before after : List Row) where
  pub change_told : (change : Change) → Contains (net_in number table before after) change → IsChangeAt number table before after change
  change_told change among =
      let (key, listed, gives) = contains_of_filter_map (change_at number table before after) (keys_in table (before ++ after)) change among in
      let told = told_step (record { table = record { 0 = number }; key = key }) (find (has_key table key) before) (find (has_key table key) after) change _ refl gives in
      subst (IsChangeAt number table before after) (sym told.0) (record { number_is = refl; was = refl; is = refl; differ = told.1 })

  told_change : (change : Change) → IsChangeAt number table before after change → Contains (net_in number table before after) change
  told_change change is =
      let name : ℕ → RowName = λ n. record { table = record { 0 = n }; key = change.name.key } in
      let listed = differing_key table change.name.key before after change.before change.after is.was is.is is.differ in
      let gives : change_at number table before after change.name.key ≡ Some change =
      rw (is.was, is.is) (differing_step (name number) change.before change.after is.differ _ refl
      ∙ ap (λ n. Some (record { name = name n; before = change.before; after = change.after })) (sym is.number_is)) in
      contains_filter_map (change_at number table before after) (keys_in table (before ++ after)) change.name.key change listed gives

-- a change of one of the tables that are numbered from here on
pub record IsChangeFrom (number : ℕ) (tables : List TableDef) (befores afters : List (List Row)) (change : Change) : Type 0 where
  pub place : ℕ
  pub table : TableDef
  pub table_is : slice_get tables place ≡ Some table
  pub at : IsChangeAt (number + place) table (rows_at befores place) (rows_at afters place) change

pub from_told : (number : ℕ) (tables : List TableDef) (befores afters : List (List Row)) (change : Change) → Contains (net_from number tables befores afters) change
    → IsChangeFrom number tables befores afters change
unfolding net_from
from_told number [] befores afters change among = absurd (contains_none change among)
from_told number (table ∷ tables) [] afters change among = absurd (contains_none change among)
from_told number (table ∷ tables) (before ∷ befores) [] change among = absurd (contains_none change among)
from_told number (table ∷ tables) (before ∷ befores) (after ∷ afters) change among =
    elim (Contains-append_cases (net_in number table before after) (net_from (number + 1) tables befores afters) change among) [
      | inl own ↦ (
          let n : number ≡ number + 0 = omega arith in
          record { place = 0; table = table; table_is = refl; at = subst (λ n. IsChangeAt n table before after change) n (change_told number table before after change own) })
      | inr later ↦ (
          let from = from_told (number + 1) tables befores afters change later in
          let n : number + 1 + from.place ≡ number + suc from.place = omega arith in
          record {
            place = suc from.place;
            table = from.table;
            table_is = from.table_is;
            at = subst (λ n. IsChangeAt n from.table (rows_at befores from.place) (rows_at afters from.place) change) n from.at;
          })
    ]

told_from : (number : ℕ) (tables : List TableDef) (befores afters : List (List Row)) → AreRising tables befores → AreRising tables afters → (change : Change) (place : ℕ) (table : TableDef)
    → slice_get tables place ≡ Some table → IsChangeAt (number + place) table (rows_at befores place) (rows_at afters place) change → Contains (net_from number tables befores afters) change
unfolding net_from
told_from number [] befores afters rb ra change place table is at = let never : ◌≡◌ {A = Option TableDef} None (Some table) = is in cc
told_from number (first ∷ tables) [] afters rb ra change place table is at = absurd rb
told_from number (first ∷ tables) (before ∷ befores) [] rb ra change place table is at = absurd ra
told_from number (first ∷ tables) (before ∷ befores) (after ∷ afters) rb ra change zero table is at =
    let same : first ≡ table = cc in
    let n : number + 0 ≡ number = omega arith in
    let own : IsChangeAt number first before after change = subst (λ n. IsChangeAt n first before after change) n (subst (λ t. IsChangeAt (number + 0) t before after change) (sym same) at) in
    Contains-append_left (net_in number first before after) (net_from (number + 1) tables befores afters) change (told_change number first before after change own)
told_from number (first ∷ tables) (before ∷ befores) (after ∷ afters) rb ra change (suc place) table is at =
    let n : number + suc place ≡ number + 1 + place = omega arith in
    Contains-append_right (net_in number first before after) (net_from (number + 1) tables befores afters) change
    (told_from (number + 1) tables befores afters rb.1 ra.1 change place table is (subst (λ n. IsChangeAt n table (rows_at befores place) (rows_at afters place) change) n at))

-- the row of a name of a table
pub named_at : (db : Db) (name : RowName) (table : TableDef) → slice_get db.schema.tables name.table.0 ≡ Some table → row_of db name ≡ find (has_key table name.key) (rows_at db.rows name.table.0)
unfolding row_named
named_at db name table at = rw at refl

-- a name without a table has no row
none_at : (db : Db) (name : RowName) → slice_get db.schema.tables name.table.0 ≡ None → row_of db name ≡ None
unfolding row_named
none_at db name none = rw none refl

module _ (before after : Db) (ordered_before : IsOrdered before) (ordered_after : IsOrdered after) (schema : after.schema ≡ before.schema) where
  told_is_change : (change : Change) → Contains (net before after) change → IsChangeOf before after change
  unfolding net
  told_is_change change among =
      let from = from_told 0 after.schema.tables before.rows after.rows change among in
      let place : from.place ≡ change.name.table.0 = (let own = from.at.number_is in omega arith) in
      let at_after : slice_get after.schema.tables change.name.table.0 ≡ Some from.table = subst (λ n. slice_get after.schema.tables n ≡ Some from.table) place from.table_is in
      let at_before : slice_get before.schema.tables change.name.table.0 ≡ Some from.table = subst (λ s. slice_get s.tables change.name.table.0 ≡ Some from.table) schema at_after in
      record {
        tells = record {
          was = sym (named_at before change.name from.table at_before ∙ (ap (λ n. find (has_key from.table change.name.key) (rows_at before.rows n)) (sym place) ∙ from.at.was));
          is = sym (named_at after change.name from.table at_after ∙ (ap (λ n. find (has_key from.table change.name.key) (rows_at after.rows n)) (sym place) ∙ from.at.is));
        };
        differ = from.at.differ;
      }

  change_case : (change : Change) → IsChangeOf before after change → (found : Option TableDef) → slice_get after.schema.tables change.name.table.0 ≡ found → Contains (net before after) change
  unfolding net
  change_case change is None none =
      let at_before : slice_get before.schema.tables change.name.table.0 ≡ None = subst (λ s. slice_get s.tables change.name.table.0 ≡ None) schema none in
      absurd (is.differ (is.tells.was ∙ (none_at before change.name at_before ∙ (sym (none_at after change.name none) ∙ sym is.tells.is))))
  change_case change is (Some table) some =
      let at_before : slice_get before.schema.tables change.name.table.0 ≡ Some table = subst (λ s. slice_get s.tables change.name.table.0 ≡ Some table) schema some in
      told_from 0 after.schema.tables before.rows after.rows (subst (λ s. AreRising s.tables before.rows) (sym schema) ordered_before.rising) ordered_after.rising change change.name.table.0 table some
      (record {
        number_is = omega arith;
        was = sym (named_at before change.name table at_before) ∙ sym is.tells.was;
        is = sym (named_at after change.name table some) ∙ sym is.tells.is;
        differ = is.differ;
      })

  -- the changes of a net are those of the rows that differ
  pub net-iff_change : (change : Change) → (Contains (net before after) change) ↔ (IsChangeOf before after change)
  net-iff_change change = (told_is_change change, λ is. change_case change is _ refl)
