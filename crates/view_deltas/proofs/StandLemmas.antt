-- What is kept for all views, with a view more.
use Rattle.std.proofs.Common.{◌≡◌, ℕ, zero, suc, ◌+◌, refl, sym, ◌∙◌, ap, subst, List, [], ◌∷◌, ◌++◌, length, length-append, inl, inr, Option, Some, None, arith}
use Rattle.std.specs.Prelude.{◌⊎◌, slice_get}
use Rattle.own_model.specs.declared.bound.BoundSelect.{BoundSelect}
use Rattle.own_model.specs.declared.bound.Source1.{Source1}
use Rattle.own_model.specs.declared.bound.Source1.TheVariants.{Pair, Table, View}
use Rattle.own_model.specs.declared.schema.TableDef.{TableDef}
use Rattle.own_model.specs.declared.schema.ViewDef.{ViewDef}
use Rattle.own_model.specs.Db.{Db, Row}
use Rattle.own_model.specs.Stored.{rows_at}
use Rattle.view_deltas.specs.Groups.{KeepsGroups}
use Rattle.view_deltas.specs.Kept.{AddsView, AreKept, from_left, IsKept, IsKeptFor, KeepsJoin, StandsFor}
use Rattle.view_deltas.specs.Plain.{KeepsPlain}
use Rattle.view_deltas.specs.declared.kept_view.KeptView.{KeptView}
use Rattle.view_deltas.specs.declared.kept_view.KeptView.TheVariants.{Grouped, Joined, Plain}
use Rattle.view_deltas.proofs.ViewRows.{got_within}

-- what is found behind one more is found before it, or is the last
pub got_pushed : {X : Type 0} (made : List X) (last : X) (n : ℕ) (one : X) → slice_get (made ++ last ∷ []) n ≡ Some one → (slice_get made n ≡ Some one) ⊎ ((n ≡ length made) × (last ≡ one))
got_pushed [] last zero one is = inr (refl, cc)
got_pushed {X} [] last (suc n) one is = absurd (let never : ◌≡◌ {A = Option X} None (Some one) = is in cc)
got_pushed (first ∷ made) last zero one is = inl is
got_pushed (first ∷ made) last (suc n) one is = elim (got_pushed made last n one is) [ inl here ↦ inl here | inr end ↦ inr (let e = end.0 in omega (arith, e), end.1) ]

module _ (before new : Db) (tables : new.schema.tables ≡ before.schema.tables) (rows : new.rows ≡ before.rows) where
  at_before : (number : ℕ) (table : TableDef) → slice_get new.schema.tables number ≡ Some table → slice_get before.schema.tables number ≡ Some table
  at_before number table at = ap (λ (all : List TableDef). slice_get all number) (sym tables) ∙ at

  -- what is kept for a view is told by the tables and their rows alone
  kept_still : (query : BoundSelect) (source : Source1) (kept : KeptView) → IsKept before query source kept → IsKept new query source kept
  kept_still query (Table number) (Plain entries) is =
      (is.0, λ table at. subst (λ (all : List (List Row)). KeepsPlain table query (rows_at all number.0) entries) (sym rows) (is.1 table (at_before number.0 table at)))
  kept_still query (Table number) (Grouped groups) is = (is.0, subst (λ (all : List (List Row)). KeepsGroups query (rows_at all number.0) groups) (sym rows) is.1)
  kept_still query (Table number) (Joined joined) is = absurd is
  kept_still query (View view) kept is = absurd is
  kept_still query (Pair left right left_column right_column) (Plain entries) is = absurd is
  kept_still query (Pair left right left_column right_column) (Grouped groups) is = absurd is
  kept_still query (Pair left right left_column right_column) (Joined joined) is = λ one two left_at right_at.
      subst (λ (all : List (List Row)). KeepsJoin one two query (from_left left right left_column right_column) (rows_at all left.0) (rows_at all right.0) joined) (sym rows)
      (is one two (at_before left.0 one left_at) (at_before right.0 two right_at))

  module _ (views : List ViewDef) (view : ViewDef) (kept : List KeptView) (last : KeptView) (are : AreKept before views kept) (is : IsKeptFor before view last) where
    each_more : (number : ℕ) (own : ViewDef) (one : KeptView) → slice_get (views ++ view ∷ []) number ≡ Some own → slice_get (kept ++ last ∷ []) number ≡ Some one → IsKeptFor new own one
    each_more number own one at got = elim (got_pushed kept last number one got) [
      | inl here ↦ elim (got_pushed views view number own at) [
        | inl there ↦ kept_still own.query own.query.source one (are.each number own one there here)
        | inr end ↦ let within = got_within kept number one here in let past = end.0 in absurd (omega (arith, within, past, are.count))
      ]
      | inr last_one ↦ elim (got_pushed views view number own at) [
        | inl there ↦ let within = got_within views number own there in let past = last_one.0 in absurd (omega (arith, within, past, are.count))
        | inr end ↦ subst (λ (each : ViewDef). IsKeptFor new each one) end.1 (subst (λ (each : KeptView). IsKeptFor new view each) last_one.1 (kept_still view.query view.query.source last is))
      ]
    ]

    counted : length (kept ++ last ∷ []) ≡ length (views ++ view ∷ [])
    counted = length-append kept (last ∷ []) ∙ (ap (λ n. n + 1) are.count ∙ sym (length-append views (view ∷ [])))

    kept_more : AreKept new (views ++ view ∷ []) (kept ++ last ∷ [])
    kept_more = record { count = counted; each = each_more }

-- so it stands for all views that there are then
pub stands_more : (before new : Db) (view : ViewDef) (kept : List KeptView) (last : KeptView) → AddsView before view new → IsKeptFor before view last → StandsFor before kept → StandsFor new (kept ++ last ∷ [])
stands_more before new view kept last adds is stands =
    subst (λ (views : List ViewDef). AreKept new views (kept ++ last ∷ [])) (sym adds.views) (kept_more before new adds.tables adds.rows before.schema.views view kept last stands is)
