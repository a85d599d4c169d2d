-- Entries stay those of their tables.
use Rattle.std.proofs.Common.{◌≡◌, refl, sym, ap, subst, inl, inr, ℕ, zero, suc, ◌<◌, ◌≤◌, List, [], ◌∷◌, ◌++◌, length, length-append, arith}
use Rattle.std.specs.Prelude.{Some, filter, slice_get}
use Rattle.std.proofs.lemmas.Bool.{cases_lt}
use Rattle.std.specs.List.{AllByRecursion as Each}
use Rattle.own_base.specs.Key.{key_cmp}
use Rattle.own_base.specs.declared.change.Change.{Change}
use Rattle.own_model.specs.declared.schema.TableDef.{TableDef}
use Rattle.own_model.specs.Db.{key_of}
use Rattle.page_model.specs.Changed.{AreKeyed}
use Rattle.page_model.specs.Paged.{Paged}
use Rattle.page_model.specs.Rising.{IsRising}
use Rattle.page_model.proofs.InOrder.{few_rise}
use Rattle.state_model.specs.MayBePut.{IsPutIn}
use Rattle.state_model.specs.Put.{is_of_table}
use Rattle.table_part.proofs.KeyLemmas.{changes_keyed}
use Rattle.txn_space.specs.declared.entry.ByKey.{ByKey}
use Rattle.txn_space.specs.declared.entry.Entry.{Entry}
use Rattle.txn_space.specs.Entries.{entries_at, entry_key, entry_row, seen}
use Rattle.txn_space.specs.HasPut.{HavePut}
use Rattle.txn_space.specs.Sound.{IsSpaceOf}
use Rattle.txn_space.proofs.PutLemmas.{changes_there, keyed_more, rising_more}

pub length_seen : (tables : List (Paged ByKey Entry)) → length (seen tables) ≡ length tables
length_seen [] = refl
length_seen (table ∷ tables) = ap suc (length_seen tables)

rises_none : (entries : List Entry) → entries ≡ [] → IsRising entry_key key_cmp entries
rises_none entries none = subst (IsRising entry_key key_cmp) (sym none) (by)
  where
    by : IsRising entry_key key_cmp []
    by = few_rise key_cmp [] (omega arith)

none_at : (number : ℕ) → entries_at [] number ≡ []
none_at number = refl

-- no entries are entries of any tables
pub none_sound : (tables : List TableDef) → IsSpaceOf tables []
none_sound tables = record {
  within = omega arith;
  numbered = omega arith;
  few = λ number. omega arith;
  rising = λ number. rises_none (entries_at [] number) (none_at number);
  keyed = λ number table is. tt;
}

-- they are afterwards where the changes are of the tables
pub put_sound : (tables : List TableDef) (changes : List Change) (before after : List (Paged ByKey Entry)) → IsSpaceOf tables (seen before) → Each (IsPutIn tables) changes → HavePut changes before after → IsSpaceOf tables (seen after)
put_sound tables changes before after sound all put =
    let length_before = length_seen before in
    let length_after = length_seen after in
    let within_before = sound.within in
    let numbered_before = sound.numbered in
    record {
      within = let most = put.within (length tables) (omega arith) (changes_there tables changes all) in omega arith;
      numbered = let most = put.numbered (omega arith) in omega arith;
      few = put.few sound.few;
      rising = λ number. subst (IsRising entry_key key_cmp) (sym (put.entries number)) (rising_more (filter (is_of_table number) changes) (entries_at (seen before) number) (sound.rising number));
      keyed = λ number table is. subst (AreKeyed (key_of table) entry_key entry_row) (sym (put.entries number))
          (keyed_more table (filter (is_of_table number) changes) (entries_at (seen before) number) (changes_keyed tables number table changes is all) (sound.keyed number table is));
    }

front_table : (tables more : List TableDef) (number : ℕ) (table : TableDef) → number < length tables → slice_get (tables ++ more) number ≡ Some table → slice_get tables number ≡ Some table
front_table [] more number table within is = absurd (omega arith)
front_table (first ∷ tables) more zero table within is = is
front_table (first ∷ tables) more (suc number) table within is = front_table tables more number table (omega arith) is

no_entries : (space : List (List Entry)) (number : ℕ) → length space ≤ number → entries_at space number ≡ []
no_entries [] number past = refl
no_entries (entries ∷ space) zero past = absurd (omega arith)
no_entries (entries ∷ space) (suc number) past = no_entries space number (omega arith)

-- they are where further tables come
pub sound_later : (tables more : List TableDef) (space : List (List Entry)) → IsSpaceOf tables space → IsSpaceOf (tables ++ more) space
sound_later tables more space sound = record {
  within = omega (arith, sound.within, length-append tables more);
  numbered = sound.numbered;
  few = sound.few;
  rising = sound.rising;
  keyed = λ number table is. elim (cases_lt number (length tables)) [
    | inl there ↦ sound.keyed number table (front_table tables more number table there is)
    | inr past ↦ let within = sound.within in subst (AreKeyed (key_of table) entry_key entry_row) (sym (no_entries space number (omega arith))) tt
  ];
}
