-- The entries of tables before and after changes.
use Rattle.std.specs.Prelude.{◌≡◌, ℕ, ◌<◌, ◌≤◌, ◌^◌, List, Some, filter, length, if◌then◌else◌}
use Rattle.std.specs.List.{AllByRecursion}
use Rattle.own_base.specs.Key.{key_cmp}
use Rattle.own_base.specs.declared.change.Change.{Change}
use Rattle.page_model.specs.Changed.{with_change, with_changes}
use Rattle.page_model.specs.Paged.{Paged}
use Rattle.state_model.specs.Put.{changed_key, is_of_table}
use Rattle.txn_space.specs.declared.entry.ByKey.{ByKey}
use Rattle.txn_space.specs.declared.entry.Entry.{Entry}
use Rattle.txn_space.specs.Entries.{entries_at, entry_key, entry_of, seen}

-- the entries of the table of a number with a change, and with changes one after another
abbrev pub entries_with : ℕ → Change → List Entry → List Entry
entries_with number change entries = if is_of_table number change then with_change entry_key key_cmp (changed_key change) (Some (entry_of change)) entries else entries

abbrev pub entries_put : ℕ → List Change → List Entry → List Entry
entries_put number changes entries = with_changes entry_key key_cmp changed_key (λ change. Some (entry_of change)) (filter (is_of_table number) changes) entries

-- no table has too many entries to count them
abbrev pub AreFew : List (Paged ByKey Entry) → Type 0
AreFew tables = (number : ℕ) → length (entries_at (seen tables) number) ≤ 2 ^ 62

-- the same entries, with room for so many tables
pub record HasRoom (count : ℕ) (before after : List (Paged ByKey Entry)) : Type 0 where
  pub enough : count ≤ length after
  pub within : (most : ℕ) → length before ≤ most → count ≤ most → length after ≤ most
  pub same : (number : ℕ) → entries_at (seen after) number ≡ entries_at (seen before) number

-- the entries after a change
pub record HasPut (change : Change) (before after : List (Paged ByKey Entry)) : Type 0 where
  pub within : (most : ℕ) → length before ≤ most → change.name.table.0 < most → length after ≤ most
  pub numbered : length before ≤ 2 ^ 32 → length after ≤ 2 ^ 32
  pub few : AreFew before → AreFew after
  pub entries : (number : ℕ) → entries_at (seen after) number ≡ entries_with number change (entries_at (seen before) number)

-- and after changes
pub record HavePut (changes : List Change) (before after : List (Paged ByKey Entry)) : Type 0 where
  pub within : (most : ℕ) → length before ≤ most → AllByRecursion (λ change. change.name.table.0 < most) changes → length after ≤ most
  pub numbered : length before ≤ 2 ^ 32 → length after ≤ 2 ^ 32
  pub few : AreFew before → AreFew after
  pub entries : (number : ℕ) → entries_at (seen after) number ≡ entries_put number changes (entries_at (seen before) number)
