-- One change brings one row more at most.
use Rattle.std.proofs.Common.{◌≡◌, ℕ, ◌+◌, ◌<◌, ◌≤◌, List, [], ◌∷◌, Bool, true, false, arith, length, refl}
use Rattle.std.specs.Prelude.{◌==◌, sum_by}
use Rattle.std.proofs.lemmas.Bool.{eqb-true, ne_eqb}
use Rattle.std.proofs.lemmas.List.Sums.{sum_by-cons}
use Rattle.own_base.specs.declared.change.Change.{Change}
use Rattle.own_model.specs.declared.schema.TableDef.{TableDef}
use Rattle.own_model.specs.Db.{Db, Row, key_of}
use Rattle.own_model.proofs.KeyOrder.{key_order}
use Rattle.page_model.specs.Changed.{with_changes}
use Rattle.page_model.proofs.ChangedLemmas.{length_with_changes}
use Rattle.state_model.specs.Put.{changed_key, put, put_from, row_after, rows_put}
use Rattle.state_model.specs.Weight.{row_count}

-- the rows of one table more
first_more : (more : ℕ) (one own : List Row) (others rest : List (List Row)) → length one ≤ length own + more → sum_by length others ≤ sum_by length rest
    → sum_by length (one ∷ others) ≤ sum_by length (own ∷ rest) + more
first_more more one own others rest here behind =
    omega (arith, here, behind, sum_by-cons (length {A = Row}) one others, sum_by-cons (length {A = Row}) own rest)

rest_more : (more : ℕ) (own : List Row) (others rest : List (List Row)) → sum_by length others ≤ sum_by length rest + more
    → sum_by length (own ∷ others) ≤ sum_by length (own ∷ rest) + more
rest_more more own others rest behind =
    omega (arith, behind, sum_by-cons (length {A = Row}) own others, sum_by-cons (length {A = Row}) own rest)

-- a change of a table before these brings none
past_count : (from : ℕ) (tables : List TableDef) (change : Change) (rows : List (List Row)) → change.name.table.0 < from
    → sum_by length (put_from from tables (change ∷ []) rows) ≤ sum_by length rows + 0
unfolding put_from with_changes
past_count from [] change rows below = omega arith
past_count from (table ∷ tables) change [] below = omega arith
past_count from (table ∷ tables) change (first ∷ rest) below =
    rw (ne_eqb change.name.table.0 from (λ is. omega (arith, is, below)))
    (rest_more 0 first (put_from (from + 1) tables (change ∷ []) rest) rest (past_count (from + 1) tables change rest (omega (arith, below))))

own_count : (from : ℕ) (table : TableDef) (tables : List TableDef) (change : Change) (first : List Row) (rest : List (List Row)) (own : Bool) → (change.name.table.0 == from) ≡ own
    → sum_by length (put_from (from + 1) tables (change ∷ []) rest) ≤ sum_by length rest + 1
    → sum_by length (rows_put from table (change ∷ []) first ∷ put_from (from + 1) tables (change ∷ []) rest) ≤ sum_by length (first ∷ rest) + 1
unfolding with_changes
own_count from table tables change first rest true own behind =
    let is = eqb-true change.name.table.0 from own in
    let others = past_count (from + 1) tables change rest (omega (arith, is)) in
    let here = length_with_changes (key_of table) key_order changed_key row_after (change ∷ []) first in
    first_more 1 _ first (put_from (from + 1) tables (change ∷ []) rest) rest (rw own here) (omega (arith, others))
own_count from table tables change first rest false other behind =
    rw other (rest_more 1 first (put_from (from + 1) tables (change ∷ []) rest) rest behind)

one_count : (from : ℕ) (tables : List TableDef) (change : Change) (rows : List (List Row))
    → sum_by length (put_from from tables (change ∷ []) rows) ≤ sum_by length rows + 1
unfolding put_from
one_count from [] change rows = omega arith
one_count from (table ∷ tables) change [] = omega arith
one_count from (table ∷ tables) change (first ∷ rest) =
    own_count from table tables change first rest (change.name.table.0 == from) refl (one_count (from + 1) tables change rest)

pub row-bound : (db : Db) (change : Change) → row_count (put db (change ∷ [])) ≤ row_count db + 1
row-bound db change = one_count 0 db.schema.tables change db.rows
