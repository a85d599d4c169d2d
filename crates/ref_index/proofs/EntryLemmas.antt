-- What becomes of the entries of a row that a change changes.
use Rattle.std.proofs.Common.{◌≡◌, refl, sym, ◌∙◌, ap, ℕ, List, Option, Some, None}
use Rattle.std.specs.Prelude.{Bool, true, false, cond, ◌&&◌}
use Rattle.std.specs.Option.{option_map_or}
use Rattle.std.specs.Ordering.{is_eq, ordering_then}
use Rattle.std.specs.declared.cmp.Ordering.{Ordering}
use Rattle.std.specs.declared.cmp.Ordering.TheVariants.{Less, Equal, Greater}
use Rattle.own_base.specs.Key.{key_cmp}
use Rattle.own_base.specs.declared.change.Change.{Change}
use Rattle.own_base.specs.declared.value.Key.{Key}
use Rattle.own_model.specs.Db.{Row}
use Rattle.own_model.specs.Stored.{is_equal}
use Rattle.link_model.specs.Holds.{holds}
use Rattle.page_model.proofs.Ordered.{equal_from}
use Rattle.ordered_pairs.specs.Has.{has}
use Rattle.ordered_pairs.specs.KeyExact.{key_exact}
use Rattle.state_model.specs.Put.{is_of_table}
use Rattle.ref_index.specs.Entries.{Follows, held_in, is_entry, Moves, SetsEntry}
use Rattle.ref_index.specs.IndexOf.{held_by}

-- whether a value, or none, is this one
abbrev is_held : Key → Option Key → Bool
is_held value held = option_map_or (λ key. is_equal (key_cmp key value)) held false

-- a row holds the value that it has
holds_held : (column : ℕ) (value : Key) (row : Option Row) → held_by column value row ≡ is_held value (held_in column row)
unfolding holds
holds_held column value None = refl
holds_held column value (Some row) = refl

-- an entry is told by its value where its key is the row's, and is no entry of the row elsewhere
then_is : (o p : Ordering) (b : Bool) → is_eq p ≡ b → is_eq (ordering_then o p) ≡ (b && is_equal o)
then_is Less p true is = refl
then_is Less p false is = refl
then_is Equal p true is = is
then_is Equal p false is = is
then_is Greater p true is = refl
then_is Greater p false is = refl

entry_is : (held : Option Key) (own value key : Key) (b : Bool) → is_eq (key_cmp own key) ≡ b → is_entry held own value key ≡ (b && is_held value held)
entry_is None own value key true is = refl
entry_is None own value key false is = refl
entry_is (Some one) own value key b is = then_is (key_cmp one value) (key_cmp own key) b is

same_key : (own key : Key) → is_eq (key_cmp own key) ≡ true → own ≡ key
same_key own key is = key_exact own key (equal_from _ is)

module _ (column : ℕ) (change : Change) where
  -- where the rows before and after hold the same, the pairs stay
  pub same_moves : (pairs : List (Key × Key)) → held_in column change.before ≡ held_in column change.after → Moves column change pairs pairs
  same_moves pairs same was value key = by (is_eq (key_cmp change.name.key key)) refl
    where
      by : (b : Bool) → is_eq (key_cmp change.name.key key) ≡ b → has key_cmp key_cmp pairs value key ≡ cond b (held_by column value change.after) (has key_cmp key_cmp pairs value key)
      by true is =
          ap (has key_cmp key_cmp pairs value) (sym (same_key change.name.key key is))
          ∙ (was value ∙ (holds_held column value change.before ∙ (ap (is_held value) same ∙ sym (holds_held column value change.after))))
      by false is = refl

  -- the entry before is taken away, and the one after it put
  pub moved : (held new : Option Key) (before middle after : List (Key × Key)) → held ≡ held_in column change.before → new ≡ held_in column change.after
      → SetsEntry held change.name.key false before middle → SetsEntry new change.name.key true middle after → Moves column change before after
  moved held new before middle after held_is new_is taken put was value key = put value key ∙ by (is_eq (key_cmp change.name.key key)) refl
    where
      kept : (b : Bool) → cond b false b ≡ false
      kept true = refl
      kept false = refl

      chosen : (b : Bool) → cond b true false ≡ b
      chosen true = refl
      chosen false = refl

      by : (b : Bool) → is_eq (key_cmp change.name.key key) ≡ b
          → cond (is_entry new change.name.key value key) true (has key_cmp key_cmp middle value key) ≡ cond b (held_by column value change.after) (has key_cmp key_cmp before value key)
      by true is =
          let old : has key_cmp key_cmp before value key ≡ is_held value held =
          ap (has key_cmp key_cmp before value) (sym (same_key change.name.key key is)) ∙ (was value ∙ (holds_held column value change.before ∙ ap (is_held value) (sym held_is))) in
          let gone : has key_cmp key_cmp middle value key ≡ false =
          taken value key ∙ (ap (λ b. cond b false (has key_cmp key_cmp before value key)) (entry_is held change.name.key value key true is) ∙ (ap (cond (is_held value held) false) old ∙ kept (is_held value held))) in
          ap (λ b. cond b true (has key_cmp key_cmp middle value key)) (entry_is new change.name.key value key true is)
          ∙ (ap (cond (is_held value new) true) gone ∙ (chosen (is_held value new) ∙ (ap (is_held value) new_is ∙ sym (holds_held column value change.after))))
      by false is =
          ap (λ b. cond b true (has key_cmp key_cmp middle value key)) (entry_is new change.name.key value key false is)
          ∙ (taken value key ∙ ap (λ b. cond b false (has key_cmp key_cmp before value key)) (entry_is held change.name.key value key false is))

  -- so the index of rows becomes one of the rows after the change
  pub follows_moved : (table : ℕ) (before after : List (Key × Key)) → is_of_table table change ≡ true → Moves column change before after → Follows table column change before after
  follows_moved table before after of moves rows tells index value key =
      moves (λ each. index each change.name.key ∙ ap (held_by column each) (sym (tells of))) value key
      ∙ (by (is_eq (key_cmp change.name.key key))
      ∙ ap (λ b. held_by column value (cond (b && is_eq (key_cmp change.name.key key)) change.after (rows key))) (sym of))
    where
      by : (b : Bool) → cond b (held_by column value change.after) (has key_cmp key_cmp before value key) ≡ held_by column value (cond b change.after (rows key))
      by true = refl
      by false = index value key

  pub follows_other : (table : ℕ) (pairs : List (Key × Key)) → is_of_table table change ≡ false → Follows table column change pairs pairs
  follows_other table pairs other rows tells index value key =
      index value key ∙ ap (λ b. held_by column value (cond (b && is_eq (key_cmp change.name.key key)) change.after (rows key))) (sym other)
