-- The parts with one change.
use Rattle.std.proofs.Common.{◌≡◌, ◌∙◌, ℕ, ◌+◌, ◌<◌, zero, suc, List, [], ◌∷◌, length, map, ap, arith, refl, sym, subst}
use Rattle.std.proofs.lemmas.Bool.{eq-eqb, ne_eqb}
use Rattle.std.proofs.lemmas.Option.{slice_get_within}
use Rattle.std.specs.Prelude.{Err, IfSome, IsSomeAnd, None, Ok, OnOk, Option, Result, Some, slice_get, slice_index_or, slice_set}
use Rattle.own_base.specs.Key.{key_cmp}
use Rattle.own_base.specs.declared.change.Change.{Change}
use Rattle.own_base.specs.declared.value.Key.{Key}
use Rattle.own_model.specs.declared.schema.TableDef.{TableDef}
use Rattle.own_model.specs.Db.{Row, key_of}
use Rattle.page_model.specs.Changed.{with_change, with_changes}
use Rattle.state_model.specs.MayBePut.{IsPutIn}
use Rattle.state_model.specs.Put.{changed_key, put_from, row_after}
use Rattle.table_part.specs.KeyIn.{key_in}
use Rattle.table_part.specs.Part.{Part, rows_of}
use Rattle.store_version.specs.Parts.{AreTheirParts}
use Rattle.store_version.proofs.PartsAfter.{keys_same}
use Rattle.store_version.proofs.TheirParts.{part-key, parts-count, parts-set}

-- a change of a table before these leaves them
past_put : (from : ℕ) (tables : List TableDef) (parts : List Part) (change : Change) → AreTheirParts tables parts → change.name.table.0 < from
    → map rows_of parts ≡ put_from from tables (change ∷ []) (map rows_of parts)
unfolding put_from with_changes
past_put from [] [] change are below = refl
past_put from [] (one ∷ parts) change are below = absurd (cc)
past_put from (table ∷ tables) [] change are below = absurd (cc)
past_put from (table ∷ tables) (one ∷ parts) change are below =
    let rest : AreTheirParts tables parts = cc in
    rw (ne_eqb change.name.table.0 from (λ is. omega (arith, is, below)))
    (ap (λ others. rows_of one ∷ others) (past_put (from + 1) tables parts change rest (omega (arith, below))))

-- the part of its table with the change is in the place of that part
set_put : (from : ℕ) (tables : List TableDef) (parts : List Part) (change : Change) (number : ℕ) (own new : Part) → AreTheirParts tables parts
    → change.name.table.0 ≡ from + number → number < length parts → own ≡ slice_index_or parts number own
    → rows_of new ≡ with_change (key_in own.key) key_cmp (changed_key change) (row_after change) (rows_of own)
    → map rows_of (slice_set parts number new) ≡ put_from from tables (change ∷ []) (map rows_of parts)
unfolding put_from with_changes
set_put from [] [] change number own new are at within is rows = refl
set_put from [] (one ∷ parts) change number own new are at within is rows = absurd (cc)
set_put from (table ∷ tables) [] change number own new are at within is rows = absurd (cc)
set_put from (table ∷ tables) (one ∷ parts) change zero own new are at within is rows =
    let rest : AreTheirParts tables parts = cc in
    let key : one.key ≡ table.key = cc in
    let first : rows_of new ≡ with_change (key_of table) key_cmp (changed_key change) (row_after change) (rows_of one) =
    rows ∙ (ap (λ (part : Part). with_change (key_in part.key) key_cmp (changed_key change) (row_after change) (rows_of part)) is
    ∙ ap (λ (key_of : Row → Key). with_change key_of key_cmp (changed_key change) (row_after change) (rows_of one)) (keys_same table one.key key)) in
    rw (eq-eqb change.name.table.0 from (omega (arith, at)))
    ((λ i. first i ∷ past_put (from + 1) tables parts change rest (omega (arith, at)) i))
set_put from (table ∷ tables) (one ∷ parts) change (suc number) own new are at within is rows =
    let rest : AreTheirParts tables parts = cc in
    rw (ne_eqb change.name.table.0 from (λ same. omega (arith, at, same)))
    (ap (λ others. rows_of one ∷ others)
    (set_put (from + 1) tables parts change number own new rest (omega (arith, at)) (omega (arith, within)) is rows))

-- of all parts
pub put-one : (tables : List TableDef) (parts : List Part) (change : Change) (own new : Part) → AreTheirParts tables parts → change.name.table.0 < length parts
    → own ≡ slice_index_or parts change.name.table.0 own
    → rows_of new ≡ with_change (key_in own.key) key_cmp (changed_key change) (row_after change) (rows_of own)
    → map rows_of (slice_set parts change.name.table.0 new) ≡ put_from 0 tables (change ∷ []) (map rows_of parts)
put-one tables parts change own new are within is rows = set_put 0 tables parts change change.name.table.0 own new are (omega arith) within is rows

-- the table of a change that may be put is there, and the row that is put has the change's key
pub is-there : (tables : List TableDef) (parts : List Part) (change : Change) → AreTheirParts tables parts → IsPutIn tables change → change.name.table.0 < length parts
is-there tables parts change are may = by (slice_get tables change.name.table.0) refl may
  where
    by : (found : Option TableDef) → slice_get tables change.name.table.0 ≡ found → IsSomeAnd found (λ table. IfSome change.after (λ row. key_of table row ≡ change.name.key))
        → change.name.table.0 < length parts
    by None is none = absurd none
    by (Some table) is keyed = subst (λ count. change.name.table.0 < count) (sym (parts-count tables parts are)) (slice_get_within tables change.name.table.0 table is)

pub keyed-there : (tables : List TableDef) (parts : List Part) (change : Change) (own : Part) → AreTheirParts tables parts → IsPutIn tables change
    → own ≡ slice_index_or parts change.name.table.0 own → IfSome change.after (λ row. key_in own.key row ≡ change.name.key)
keyed-there tables parts change own are may is = by (slice_get tables change.name.table.0) refl may
  where
    by : (found : Option TableDef) → slice_get tables change.name.table.0 ≡ found → IsSomeAnd found (λ table. IfSome change.after (λ row. key_of table row ≡ change.name.key))
        → IfSome change.after (λ row. key_in own.key row ≡ change.name.key)
    by None is none = absurd none
    by (Some table) at keyed =
        subst (λ (key_of : Row → Key). IfSome change.after (λ row. key_of row ≡ change.name.key))
        (sym (keys_same table own.key (part-key tables parts change.name.table.0 table own are at is))) keyed

-- so the parts stay those of the tables
pub parts-changed : (tables : List TableDef) (parts : List Part) (change : Change) (own new : Part) → AreTheirParts tables parts → IsPutIn tables change
    → own ≡ slice_index_or parts change.name.table.0 own → new.key ≡ own.key → AreTheirParts tables (slice_set parts change.name.table.0 new)
parts-changed tables parts change own new are may is same = by (slice_get tables change.name.table.0) refl may
  where
    by : (found : Option TableDef) → slice_get tables change.name.table.0 ≡ found → IsSomeAnd found (λ table. IfSome change.after (λ row. key_of table row ≡ change.name.key))
        → AreTheirParts tables (slice_set parts change.name.table.0 new)
    by None none absent = absurd absent
    by (Some table) at keyed =
        parts-set tables parts change.name.table.0 table new are at (same ∙ part-key tables parts change.name.table.0 table own are at is)

-- what an answer that is Ok brings, another brings too
pub on-ok : {T E P Q : Type 0} (answer : Result T E) → (P → Q) → OnOk answer P → OnOk answer Q
on-ok (Ok value) brings had = brings had
on-ok (Err why) brings had = tt
