-- Texts with a bar between, of which the first is written before the others.
use Rattle.std.proofs.Common.{◌≡◌, ℕ, List, [], ◌∷◌, ◌++◌, map, length, get_or, drop, ◌<◌, sym, ap, ◌∙◌, arith, append-nil}
use Rattle.std.specs.List.{flat_map, join_with_byte}
use Rattle.own_base.specs.declared.value.Value.{Value}
use Rattle.own_model.specs.declared.reply.Cell.{Cell}
use Rattle.text_model.specs.Lines.{barred}
use Rattle.text_model.specs.Shown.{shown_cell, shown_value}

-- the first text, and each other after the byte
pub joined-first : {A : Type 0} (byte : ℕ) (shown : A → List ℕ) (first : List ℕ) (rest : List A) → join_with_byte byte (first ∷ map shown rest) ≡ first ++ flat_map (λ part. byte ∷ shown part) rest
joined-first byte shown first [] = sym (append-nil first)
joined-first byte shown first (second ∷ rest) = ap (λ l. first ++ byte ∷ l) (joined-first byte shown (shown second) rest)

-- the values of a row, of which the first is this
pub barred_values : (values : List Value) (first : Value) → 0 < length values → first ≡ get_or values 0 first → barred (map shown_value values) ≡ shown_value first ++ flat_map (λ value. 124 ∷ shown_value value) (drop 1 values)
barred_values [] first some is = absurd (omega (arith, some))
barred_values (value ∷ values) first some is = joined-first 124 shown_value (shown_value value) values ∙ ap (λ v. shown_value v ++ flat_map (λ value. 124 ∷ shown_value value) values) (sym is)

-- a table, and the values of its row
pub barred_cells : (table : List ℕ) (cells : List Cell) → barred (table ∷ map shown_cell cells) ≡ table ++ flat_map (λ cell. 124 ∷ shown_cell cell) cells
barred_cells table cells = joined-first 124 shown_cell table cells
