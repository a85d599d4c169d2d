-- The named rows of a database stand in the order of their names.
use Rattle.std.proofs.Common.{◌≡◌, ℕ, ◌+◌, ◌<◌, List, [], ◌∷◌, ◌++◌, map, refl, ap, ◌∙◌, subst, arith}
use Rattle.std.specs.Prelude.{Contains}
use Rattle.std.specs.List.Sorted.{IsStrictlySortedBy}
use Rattle.std.specs.declared.cmp.Ordering.{Ordering}
use Rattle.std.specs.declared.cmp.Ordering.TheVariants.{Less}
use Rattle.std.proofs.lemmas.Bool.{lt-ltb}
use Rattle.std.proofs.lemmas.Cmp.{nat_cmp_total, tied_itself}
use Rattle.std.proofs.lemmas.List.{map-append}
use Rattle.own_base.specs.Key.{key_cmp}
use Rattle.own_base.specs.declared.row_name.RowName.{RowName}
use Rattle.own_model.specs.declared.schema.TableDef.{TableDef}
use Rattle.own_model.specs.Db.{AreRising, Db, IsOrdered, IsRising, Row, key_of}
use Rattle.subject_model.specs.NameOrder.{name_cmp}
use Rattle.subject_model.specs.Named.{NamedRow, name_of, named_rows, rows_from, rows_in}
use Rattle.subject_model.proofs.Members.{all_contained, all_from_contained, contains_here, contains_later, contains_map, contains_of_map}
use Rattle.schema_model.proofs.Places.{all-append}
use Rattle.subject_model.proofs.NamedLemmas.{at_from}

module _ {K : Type 0} (cmp : K → K → Ordering) where
  -- two lists that rise, the one below the other, rise as one
  pub rising_append : (xs ys : List K) → IsStrictlySortedBy cmp xs → IsStrictlySortedBy cmp ys → ((x y : K) → Contains xs x → Contains ys y → cmp x y ≡ Less) → IsStrictlySortedBy cmp (xs ++ ys)
  unfolding IsStrictlySortedBy
  rising_append [] ys up more below = more
  rising_append (x ∷ xs) ys up more below = (
    all-append (λ later. cmp x later ≡ Less) xs ys up.0 (all_from_contained (λ later. cmp x later ≡ Less) ys (λ y among. below x y (contains_here x xs) among)),
    rising_append xs ys up.1 more (λ one y here among. below one y (contains_later x xs one here) among),
  )

-- a lower table comes first
pub lower_first : (one other : RowName) → one.table.0 < other.table.0 → name_cmp one other ≡ Less
lower_first one other below = rw (lt-ltb one.table.0 other.table.0 below) refl

-- in one table the lower key does
pub key_first : (one other : RowName) → one.table.0 ≡ other.table.0 → key_cmp one.key other.key ≡ Less → name_cmp one other ≡ Less
key_first one other same below = rw (same, tied_itself nat_cmp_total other.table.0) below

-- the name of a named row
abbrev called : NamedRow → RowName
called named = named.name

rows_rise : (number : ℕ) (table : TableDef) (rows : List Row) → IsRising table rows → IsStrictlySortedBy name_cmp (map called (rows_in number table rows))
unfolding IsStrictlySortedBy
rows_rise number table [] rising = tt
rows_rise number table (first ∷ rows) rising =
    (all_from_contained (λ later. name_cmp (name_of number table first) later ≡ Less) (map called (rows_in number table rows)) after, rows_rise number table rows rising.1)
  where
    after : (later : RowName) → Contains (map called (rows_in number table rows)) later → name_cmp (name_of number table first) later ≡ Less
    after later among =
        let (named, at, is) = contains_of_map called (rows_in number table rows) later among in
        let (row, there, same) = contains_of_map (λ row. record { name = name_of number table row; row = row }) rows named at in
        let below : key_cmp (key_of table first) (key_of table row) ≡ Less =
        all_contained (λ key. key_cmp (key_of table first) key ≡ Less) (map (key_of table) rows) (key_of table row) rising.0 (contains_map (key_of table) rows row there) in
        let name : name_of number table row ≡ later = ap called same ∙ is in
        subst (λ n. name_cmp (name_of number table first) n ≡ Less) name (key_first (name_of number table first) (name_of number table row) refl below)

names_rise : (number : ℕ) (tables : List TableDef) (rows : List (List Row)) → AreRising tables rows → IsStrictlySortedBy name_cmp (map called (rows_from number tables rows))
unfolding IsStrictlySortedBy rows_from
names_rise number [] rows rising = tt
names_rise number (table ∷ tables) [] rising = tt
names_rise number (table ∷ tables) (rows ∷ rest) rising =
    rw (map-append called (rows_in number table rows) (rows_from (number + 1) tables rest))
    (rising_append name_cmp (map called (rows_in number table rows)) (map called (rows_from (number + 1) tables rest)) (rows_rise number table rows rising.0)
    (names_rise (number + 1) tables rest rising.1) below)
  where
    below : (one other : RowName) → Contains (map called (rows_in number table rows)) one → Contains (map called (rows_from (number + 1) tables rest)) other → name_cmp one other ≡ Less
    below one other here there =
        let (named, at, is) = contains_of_map called (rows_in number table rows) one here in
        let (row, in_rows, same) = contains_of_map (λ row. record { name = name_of number table row; row = row }) rows named at in
        let (later, later_at, later_is) = contains_of_map called (rows_from (number + 1) tables rest) other there in
        let place = at_from (number + 1) tables rest later rising.1 later_at in
        let own : number ≡ one.table.0 = ap (λ n. n.name.table.0) same ∙ ap (λ n. n.table.0) is in
        let others : later.name.table.0 ≡ other.table.0 = ap (λ n. n.table.0) later_is in
        lower_first one other (omega (arith, place.table_is))

-- they rise strictly: by table, then by key
pub named_rows_rise : (db : Db) → IsOrdered db → IsStrictlySortedBy name_cmp (map (λ named. named.name) (named_rows db))
named_rows_rise db ordered = names_rise 0 db.schema.tables db.rows ordered.rising
