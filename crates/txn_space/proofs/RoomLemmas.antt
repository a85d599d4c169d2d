-- Entries of tables, where those of one change.
use Rattle.std.proofs.Common.{◌≡◌, refl, sym, ◌∙◌, ap, subst, ℕ, zero, suc, ◌+◌, ◌<◌, ◌≤◌, List, [], ◌∷◌, ◌++◌, length, take, get_or, arith}
use Rattle.std.specs.Prelude.{◌^◌, Option, Some, Bool, true, false, cond, filter, slice_set}
use Rattle.std.specs.List.{AllByRecursion as Each}
use Rattle.std.proofs.lemmas.Bool.{eqb-true}
use Rattle.std.proofs.lemmas.Bool.Decides.{nat_tests}
use Rattle.std.proofs.lemmas.List.{take_more}
use Rattle.std.proofs.lemmas.List.Elements.{filter_more}
use Rattle.own_base.specs.Key.{key_cmp}
use Rattle.own_base.specs.declared.change.Change.{Change}
use Rattle.own_base.specs.declared.value.Key.{Key}
use Rattle.own_model.specs.Db.{Row}
use Rattle.own_model.proofs.KeyOrder.{key_order}
use Rattle.page_model.specs.Changed.{with_change, with_changes}
use Rattle.page_model.specs.Paged.{Paged, items}
use Rattle.page_model.proofs.ChangedLemmas.{length_with_changes, with_changes-append}
use Rattle.page_model.proofs.RisingLemmas.{each_back, each_front}
use Rattle.state_model.specs.Put.{changed_key, is_of_table}
use Rattle.txn_space.specs.declared.entry.ByKey.{ByKey}
use Rattle.txn_space.specs.declared.entry.Entry.{Entry}
use Rattle.txn_space.specs.Entries.{entries_at, entry_key, entry_of, seen}
use Rattle.txn_space.specs.HasPut.{AreFew, HasPut, HasRoom, HavePut, entries_with}

-- the entries of the table of which some are set, and of another
set_here : (tables : List (Paged ByKey Entry)) (place : ℕ) (table : Paged ByKey Entry) → place < length tables → entries_at (seen (slice_set tables place table)) place ≡ items table
set_here [] place table within = absurd (omega arith)
set_here (first ∷ tables) zero table within = refl
set_here (first ∷ tables) (suc place) table within = set_here tables place table (omega arith)

set_other : (tables : List (Paged ByKey Entry)) (place number : ℕ) (table : Paged ByKey Entry) → (place ≡ number → ⊥) → entries_at (seen (slice_set tables place table)) number ≡ entries_at (seen tables) number
set_other [] place number table other = refl
set_other (first ∷ tables) zero zero table other = absurd (other refl)
set_other (first ∷ tables) zero (suc number) table other = refl
set_other (first ∷ tables) (suc place) zero table other = refl
set_other (first ∷ tables) (suc place) (suc number) table other = set_other tables place number table (λ same. other (omega arith))

length_set : (tables : List (Paged ByKey Entry)) (place : ℕ) (table : Paged ByKey Entry) → length (slice_set tables place table) ≡ length tables
length_set [] place table = refl
length_set (first ∷ tables) zero table = refl
length_set (first ∷ tables) (suc place) table = ap suc (length_set tables place table)

pub got_entries : (tables : List (Paged ByKey Entry)) (place : ℕ) (table : Paged ByKey Entry) → place < length tables → table ≡ get_or tables place table → items table ≡ entries_at (seen tables) place
got_entries [] place table within is = absurd (omega arith)
got_entries (first ∷ tables) zero table within is = ap items is
got_entries (first ∷ tables) (suc place) table within is = got_entries tables place table (omega arith) is

module _ (change : Change) (entry : Entry) (before mid : List (Paged ByKey Entry)) (table next : Paged ByKey Entry) (room : HasRoom (change.name.table.0 + 1) before mid)
    (is : table ≡ get_or mid change.name.table.0 table) (puts : items next ≡ with_change entry_key key_cmp (entry_key entry) (Some entry) (items table)) (same : entry ≡ entry_of change) where
  there : change.name.table.0 < length mid
  there = let enough = room.enough in omega arith

  old : items table ≡ entries_at (seen before) change.name.table.0
  old = got_entries mid change.name.table.0 table there is ∙ room.same change.name.table.0

  here : entries_at (seen (slice_set mid change.name.table.0 next)) change.name.table.0 ≡ with_change entry_key key_cmp (changed_key change) (Some (entry_of change)) (entries_at (seen before) change.name.table.0)
  here =
      set_here mid change.name.table.0 next there
      ∙ (puts ∙ (ap (λ put. with_change entry_key key_cmp (entry_key put) (Some put) (items table)) same
      ∙ ap (with_change entry_key key_cmp (changed_key change) (Some (entry_of change))) old))

  by_table : (number : ℕ) → (b : Bool) → is_of_table number change ≡ b
      → entries_at (seen (slice_set mid change.name.table.0 next)) number ≡ cond b (with_change entry_key key_cmp (changed_key change) (Some (entry_of change)) (entries_at (seen before) number)) (entries_at (seen before) number)
  by_table number true of =
      let E : ℕ → Type 0 = λ n. entries_at (seen (slice_set mid change.name.table.0 next)) n ≡ with_change entry_key key_cmp (changed_key change) (Some (entry_of change)) (entries_at (seen before) n) in
      subst E (eqb-true change.name.table.0 number of) here
  by_table number false other =
      set_other mid change.name.table.0 number next (λ equal. apart equal other) ∙ room.same number
    where
      apart : change.name.table.0 ≡ number → is_of_table number change ≡ false → ⊥
      apart equal differs = grind (arith, nat_tests)

  few_here : length (items table) < 2 ^ 62 → AreFew before → (number : ℕ) → (b : Bool) → is_of_table number change ≡ b → length (entries_at (seen (slice_set mid change.name.table.0 next)) number) ≤ 2 ^ 62
  unfolding with_changes
  few_here some few number true of =
      let P : ℕ → Type 0 = λ n. length (entries_at (seen (slice_set mid change.name.table.0 next)) n) ≤ 2 ^ 62 in
      let more = length_with_changes entry_key key_order entry_key (λ (e : Entry). Some e) (entry ∷ []) (items table) in
      let long : length (entries_at (seen (slice_set mid change.name.table.0 next)) change.name.table.0) ≡ length (with_change entry_key key_cmp (entry_key entry) (Some entry) (items table)) = ap length (set_here mid change.name.table.0 next there ∙ puts) in
      let now : P change.name.table.0 = omega arith in
      subst P (eqb-true change.name.table.0 number of) now
  few_here some few number false other = subst (λ es. length es ≤ 2 ^ 62) (sym (by_table number false other)) (few number)

  -- a change is made in the entries of its table
  pub put_in : change.name.table.0 < 2 ^ 32 → length (items table) < 2 ^ 62 → HasPut change before (slice_set mid change.name.table.0 next)
  put_in numbered some =
      let long = length_set mid change.name.table.0 next in
      record {
        within = λ most length_before below. let all = room.within most length_before (omega arith) in omega arith;
        numbered = λ length_before. let all = room.within (2 ^ 32) length_before (omega arith) in omega arith;
        few = λ few number. few_here some few number (is_of_table number change) refl;
        entries = λ number. by_table number (is_of_table number change) refl;
      }

-- no change
pub none_put : (tables : List (Paged ByKey Entry)) → HavePut [] tables tables
unfolding with_changes
none_put tables = record { within = λ most before all. before; numbered = λ before. before; few = λ few. few; entries = λ number. refl }

-- a change more of a table's, or of another's
more_of : (b : Bool) (change : Change) (first : List Change) (entries : List Entry)
    → cond b (with_change entry_key key_cmp (changed_key change) (Some (entry_of change)) (with_changes entry_key key_cmp changed_key (λ one. Some (entry_of one)) first entries)) (with_changes entry_key key_cmp changed_key (λ one. Some (entry_of one)) first entries)
    ≡ with_changes entry_key key_cmp changed_key (λ one. Some (entry_of one)) (first ++ cond b (change ∷ []) []) entries
unfolding with_changes
more_of true change first entries = sym (with_changes-append entry_key key_order changed_key (λ one. Some (entry_of one)) first (change ∷ []) entries)
more_of false change first entries = sym (with_changes-append entry_key key_order changed_key (λ one. Some (entry_of one)) first [] entries)

-- a change more
pub put_more : (changes : List Change) (index : ℕ) (change : Change) (before mid after : List (Paged ByKey Entry)) → index < length changes → change ≡ get_or changes index change
    → HavePut (take index changes) before mid → HasPut change mid after → HavePut (take (index + 1) changes) before after
put_more changes index change before mid after within is first last =
    let more : take (index + 1) changes ≡ take index changes ++ change ∷ [] = take_more changes index change within ∙ ap (λ one. take index changes ++ one ∷ []) (sym is) in
    record {
      within = λ most length_before all.
          let parts = subst (Each (λ one. one.name.table.0 < most)) more all in
          last.within most (first.within most length_before (each_front _ (take index changes) (change ∷ []) parts)) (each_back (λ (one : Change). one.name.table.0 < most) (take index changes) (change ∷ []) parts).0;
      numbered = λ length_before. last.numbered (first.numbered length_before);
      few = λ few. last.few (first.few few);
      entries = λ number.
          last.entries number
          ∙ (ap (entries_with number change) (first.entries number)
          ∙ (more_of (is_of_table number change) change (filter (is_of_table number) (take index changes)) (entries_at (seen before) number)
          ∙ ap (λ cs. with_changes entry_key key_cmp changed_key (λ one. Some (entry_of one)) cs (entries_at (seen before) number))
          (ap (λ one. filter (is_of_table number) (take index changes) ++ cond (is_of_table number one) (one ∷ []) []) is ∙ sym (filter_more (is_of_table number) changes index change within))));
    }

-- the entry of copies
pub copied_entry : (change : Change) (key : Key) (row : Option Row) → key ≡ change.name.key → row ≡ change.after → ◌≡◌ {A = Entry} (record { key = key; row = row }) (entry_of change)
copied_entry change key row keys rows = cc
