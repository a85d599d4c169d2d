-- What becomes of the key of a row that a change changes.
use Rattle.std.proofs.Common.{◌≡◌, refl, sym, ◌∙◌, ap, ℕ, List, Option, Some, None}
use Rattle.std.specs.Prelude.{Bool, true, false, cond, ◌&&◌}
use Rattle.std.specs.Option.{option_map_or}
use Rattle.std.specs.Ordering.{is_eq, ordering_then}
use Rattle.std.specs.declared.cmp.Ordering.{Ordering}
use Rattle.std.specs.declared.cmp.Ordering.TheVariants.{Less, Equal, Greater}
use Rattle.own_base.specs.Key.{key_cmp}
use Rattle.own_base.specs.declared.value.Key.{Key}
use Rattle.own_model.specs.declared.schema.TableDef.{TableDef}
use Rattle.own_model.specs.Db.{Row}
use Rattle.own_model.specs.Stored.{is_equal}
use Rattle.link_model.specs.Holds.{holds}
use Rattle.page_model.proofs.Ordered.{equal_from}
use Rattle.ordered_pairs.specs.Has.{has}
use Rattle.ordered_pairs.specs.KeyExact.{key_exact}
use Rattle.view_deltas.specs.Keys.{held_by, held_in, is_entry, KeepsKeys, MovesKey, SetsKey}
use Rattle.view_deltas.specs.TableRows.{changed, Fits, row_at}
use Rattle.view_deltas.proofs.ChangeLemmas.{row_changed}

-- whether a value, or none, is this one
abbrev pub is_held : Key → Option Key → Bool
is_held value held = option_map_or (λ key. is_equal (key_cmp key value)) held false

-- a row holds the value that it has
pub holds_held : (column : ℕ) (value : Key) (row : Option Row) → held_by column value row ≡ is_held value (held_in column row)
unfolding holds
holds_held column value None = refl
holds_held column value (Some row) = refl

-- an entry is told by its value where its key is the row's, and is no entry of the row elsewhere
then_is : (o p : Ordering) (b : Bool) → is_eq p ≡ b → is_eq (ordering_then o p) ≡ (b && is_equal o)
then_is Less p true is = refl
then_is Less p false is = refl
then_is Equal p true is = is
then_is Equal p false is = is
then_is Greater p true is = refl
then_is Greater p false is = refl

entry_is : (held : Option Key) (own value key : Key) (b : Bool) → is_eq (key_cmp own key) ≡ b → is_entry held own value key ≡ (b && is_held value held)
entry_is None own value key true is = refl
entry_is None own value key false is = refl
entry_is (Some one) own value key b is = then_is (key_cmp one value) (key_cmp own key) b is

pub same_key : (own key : Key) → is_eq (key_cmp own key) ≡ true → own ≡ key
same_key own key is = key_exact own key (equal_from _ is)

module _ (column : ℕ) (own : Key) (was is : Option Row) where
  -- the pair before is taken away, and the one after it put
  pub key_moved : (held new : Option Key) (before middle after : List (Key × Key)) → held ≡ held_in column was → new ≡ held_in column is
      → SetsKey held own false before middle → SetsKey new own true middle after → MovesKey column own was is before after
  key_moved held new before middle after held_is new_is taken put there value key = put value key ∙ by (is_eq (key_cmp own key)) refl
    where
      kept : (b : Bool) → cond b false b ≡ false
      kept true = refl
      kept false = refl

      chosen : (b : Bool) → cond b true false ≡ b
      chosen true = refl
      chosen false = refl

      by : (b : Bool) → is_eq (key_cmp own key) ≡ b → cond (is_entry new own value key) true (has key_cmp key_cmp middle value key) ≡ cond b (held_by column value is) (has key_cmp key_cmp before value key)
      by true tied =
          let old : has key_cmp key_cmp before value key ≡ is_held value held =
          ap (has key_cmp key_cmp before value) (sym (same_key own key tied)) ∙ (there value ∙ (holds_held column value was ∙ ap (is_held value) (sym held_is))) in
          let gone : has key_cmp key_cmp middle value key ≡ false =
          taken value key ∙ (ap (λ b. cond b false (has key_cmp key_cmp before value key)) (entry_is held own value key true tied) ∙ (ap (cond (is_held value held) false) old ∙ kept (is_held value held))) in
          ap (λ b. cond b true (has key_cmp key_cmp middle value key)) (entry_is new own value key true tied)
          ∙ (ap (cond (is_held value new) true) gone ∙ (chosen (is_held value new) ∙ (ap (is_held value) new_is ∙ sym (holds_held column value is))))
      by false apart =
          ap (λ b. cond b true (has key_cmp key_cmp middle value key)) (entry_is new own value key false apart)
          ∙ (taken value key ∙ ap (λ b. cond b false (has key_cmp key_cmp before value key)) (entry_is held own value key false apart))

-- so the keys of rows become those of the rows after the change
pub keys_follow : (table : TableDef) (column : ℕ) (key : Key) (was is : Option Row) (rows : List Row) (before after : List (Key × Key)) → Fits table rows key was is → MovesKey column key was is before after
    → KeepsKeys table column rows before → KeepsKeys table column (changed table key is rows) after
keys_follow table column key was is rows before after fits moves keeps value other =
    moves (λ each. keeps each key ∙ ap (held_by column each) (sym fits.was)) value other
    ∙ (by (is_eq (key_cmp key other)) ∙ ap (held_by column value) (sym (row_changed table key was is rows fits other)))
  where
    by : (b : Bool) → cond b (held_by column value is) (has key_cmp key_cmp before value other) ≡ held_by column value (cond b is (row_at table rows other))
    by true = refl
    by false = keeps value other
