-- Items that are the columns of a row in their order show that row.
use Rattle.std.proofs.Common.{◌≡◌, ℕ, ◌+◌, ◌<◌, ◌≤◌, List, [], ◌∷◌, ◌++◌, true, false, refl, sym, ap, ◌∙◌, subst, map, length, length-append, append_assoc, drop, arith}
use Rattle.std.specs.Prelude.{◌&&◌, get_or}
use Rattle.std.proofs.lemmas.Bool.{and_parts, eqb-true}
use Rattle.std.proofs.lemmas.List.{drop_all, drop_more}
use lib.Seq.{get_or-append_seam}
use Rattle.own_base.specs.declared.value.Value.TheVariants.{Null}
use Rattle.own_model.specs.declared.bound.BoundItem.{BoundItem}
use Rattle.own_model.specs.declared.bound.BoundItem.TheVariants.{Column, Count, SumOf}
use Rattle.own_model.specs.Db.{Row}
use Rattle.query_model.specs.Query.{projected, shown_item}
use Rattle.query_eval.specs.ShowColumns.{is_column, show_columns}

-- behind the values before them
shows_behind : (items : List BoundItem) (front rest : Row) → show_columns (length front) items ≡ true → length rest ≡ length items → map (shown_item (front ++ rest)) items ≡ rest
unfolding show_columns
shows_behind [] front [] show same = refl
shows_behind [] front (value ∷ rest) show same = absurd (omega (arith, same))
shows_behind (item ∷ items) front [] show same = absurd (omega (arith, same))
shows_behind (Count ∷ items) front (value ∷ rest) show same = let never : false ≡ true = show in cc
shows_behind (SumOf column ∷ items) front (value ∷ rest) show same = let never : false ≡ true = show in cc
shows_behind (Column column ∷ items) front (value ∷ rest) show same =
    let both = and_parts (is_column (length front) (Column column)) (show_columns (length front + 1) items) show in
    let here : column.0 ≡ length front = eqb-true column.0 (length front) both.0 in
    let first : get_or (front ++ value ∷ rest) column.0 Null ≡ value = ap (λ n. get_or (front ++ value ∷ rest) n Null) here ∙ get_or-append_seam front value rest Null in
    let longer : length (front ++ value ∷ []) ≡ length front + 1 = length-append front (value ∷ []) in
    let others : map (shown_item ((front ++ value ∷ []) ++ rest)) items ≡ rest =
    shows_behind items (front ++ value ∷ []) rest (subst (λ n. show_columns n items ≡ true) (sym longer) both.1) (omega (arith, same)) in
    ap (λ v. v ∷ map (shown_item (front ++ value ∷ rest)) items) first
    ∙ ap (λ values. value ∷ values) (ap (λ row. map (shown_item row) items) (sym (append_assoc front (value ∷ []) rest)) ∙ others)

pub shows_itself : (items : List BoundItem) (row : Row) → show_columns 0 items ≡ true → length row ≡ length items → row ≡ projected items row
shows_itself items row show same = sym (shows_behind items [] row show same)

-- one item more
pub shows_on : (items : List BoundItem) (place : ℕ) (none : BoundItem) → place < length items
    → show_columns place (drop place items) ≡ (is_column place (get_or items place none) && show_columns (place + 1) (drop (place + 1) items))
unfolding show_columns
shows_on items place none inside = ap (show_columns place) (drop_more items place none inside)

pub shows_past : (items : List BoundItem) (place : ℕ) → length items ≤ place → show_columns place (drop place items) ≡ true
unfolding show_columns
shows_past items place past = ap (show_columns place) (drop_all place items past)
