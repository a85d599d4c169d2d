-- The net of two databases of one schema leads from the one to the other.
use Rattle.std.proofs.Common.{◌≡◌, ℕ, ◌+◌, ◌≤◌, List, [], ◌∷◌, ◌++◌, map, Bool, true, false, cond, inl, inr, refl, sym, ap, ◌∙◌, subst, append-nil, arith}
use Rattle.std.specs.Prelude.{◌≢◌, ◌==◌, ◌||◌, Contains, Option, None, Some, IfSome, filter, slice_get}
use Rattle.std.specs.List.{AllByRecursion as Each, IsDistinct, list_any}
use Rattle.std.proofs.lemmas.Bool.{and_from, eq-eqb, eqb-true, ne_eqb}
use Rattle.std.proofs.lemmas.Cmp.{tied_itself}
use Rattle.std.proofs.lemmas.List.Elements.{filter-append}
use Rattle.own_base.specs.Key.{key_cmp}
use Rattle.own_base.specs.declared.change.Change.{Change}
use Rattle.own_base.specs.declared.row_name.RowName.{RowName}
use Rattle.own_model.specs.declared.schema.TableDef.{TableDef}
use Rattle.own_model.specs.Db.{Db, IsOrdered, Row}
use Rattle.own_model.specs.Stored.{is_equal, row_named}
use Rattle.own_model.proofs.KeyOrder.{key_order}
use Rattle.owner_model.specs.Joins.{row_of}
use Rattle.page_model.specs.Rising.{IsRising}
use Rattle.page_model.proofs.ChangedLemmas.{filter_all, filter_none}
use Rattle.page_model.proofs.InOrder.{few_rise, rising_differ}
use Rattle.page_model.proofs.RisingLemmas.{each_weaker}
use Rattle.subject_model.specs.Named.{is_name}
use Rattle.subject_model.proofs.Members.{contains_cases, contains_here, contains_later, contains_none}
use Rattle.state_model.specs.ChangeOf.{IsChangeOf}
use Rattle.state_model.specs.LeadTo.{LeadTo}
use Rattle.state_model.specs.MayBePut.{IsPutIn, KeysDiffer, MayBePut}
use Rattle.state_model.specs.Net.{change_at, change_unless_same, keys_in, net, net_from, net_in}
use Rattle.state_model.specs.Put.{changed_key, is_of_table, put_rows}
use Rattle.state_model.specs.Same.{is_same_state}
use Rattle.state_model.proofs.KeysLemmas.{itself, keys_rise}
use Rattle.state_model.proofs.Made.{rising_made}
use Rattle.state_model.proofs.NetRows.{change_told, from_told, net-iff_change}
use Rattle.state_model.proofs.PutLeads.{put_leads}
use Rattle.state_model.proofs.PutRows.{put_in}
use Rattle.state_model.proofs.SameLemmas.{one_state, state_same}

-- what holds of each member holds of all
each_member : {X : Type 0} (P : X → Type 0) (xs : List X) → ((x : X) → Contains xs x → P x) → Each P xs
each_member P [] all = tt
each_member P (x ∷ xs) all = (all x (contains_here x xs), each_member P xs (λ y among. all y (contains_later x xs y among)))

-- a change is of the key that is named
named_by : (same : Bool) (name : RowName) (before after : Option Row) → IfSome (cond same None (Some (record { name = name; before = before; after = after }))) (λ change. changed_key change ≡ name.key)
named_by true name before after = tt
named_by false name before after = refl

pub named : (name : RowName) (before after : Option Row) → IfSome (change_unless_same name before after) (λ change. changed_key change ≡ name.key)
named name before after = named_by (is_same_state before after) name before after

module _ (number : ℕ) (table : TableDef) (before after : List Row) where
  -- the changes of a table rise by key
  net_rises : IsRising changed_key key_cmp (net_in number table before after)
  net_rises =
      rising_made itself changed_key (change_at number table before after) (λ key. named _ _ _) (keys_in table (before ++ after))
      (keys_rise table (before ++ after) [] (few_rise key_cmp [] (omega arith)))

  net_once : KeysDiffer (net_in number table before after)
  net_once = rising_differ key_cmp (map changed_key (net_in number table before after)) net_rises

  -- and are of its number
  of_number : Each (λ change. change.name.table.0 ≡ number) (net_in number table before after)
  of_number = each_member _ (net_in number table before after) (λ change among. (change_told number table before after change among).number_is)

-- those of tables from a number on are of numbers from it on
pub from_number : (number : ℕ) (tables : List TableDef) (befores afters : List (List Row)) → Each (λ change. number ≤ change.name.table.0) (net_from number tables befores afters)
from_number number tables befores afters =
    each_member _ (net_from number tables befores afters)
    (λ change among. let from = from_told number tables befores afters change among in let is = from.at.number_is in omega arith)

-- in no table a key has two
once_step : (n number : ℕ) (own rest : List Change) → Each (λ change. change.name.table.0 ≡ number) own → Each (λ change. number + 1 ≤ change.name.table.0) rest
    → KeysDiffer own → KeysDiffer (filter (is_of_table n) rest) → KeysDiffer (filter (is_of_table n) (own ++ rest))
once_step n number own rest of from once more = by (number == n) refl
  where
    by : (b : Bool) → (number == n) ≡ b → KeysDiffer (filter (is_of_table n) (own ++ rest))
    by true is =
        let same : number ≡ n = eqb-true number n is in
        let all : filter (is_of_table n) own ≡ own = filter_all (is_of_table n) own (each_weaker _ _ (λ change here. eq-eqb change.name.table.0 n (here ∙ same)) own of) in
        let none : filter (is_of_table n) rest ≡ [] =
        filter_none (is_of_table n) rest (each_weaker _ _ (λ change past. let past : number + 1 ≤ change.name.table.0 = past in ne_eqb change.name.table.0 n (λ here. absurd (omega arith))) rest from) in
        subst KeysDiffer (sym (filter-append (is_of_table n) own rest ∙ (ap (λ front. front ++ filter (is_of_table n) rest) all ∙ (ap (λ back. own ++ back) none ∙ append-nil own)))) once
    by false apart =
        let differs : (change : Change) → change.name.table.0 ≡ number → is_of_table n change ≡ false = λ change here. ap (λ m. m == n) here ∙ apart in
        let none : filter (is_of_table n) own ≡ [] = filter_none (is_of_table n) own (each_weaker _ _ differs own of) in
        subst KeysDiffer (sym (filter-append (is_of_table n) own rest ∙ ap (λ front. front ++ filter (is_of_table n) rest) none)) more

once_from : (n number : ℕ) (tables : List TableDef) (befores afters : List (List Row)) → KeysDiffer (filter (is_of_table n) (net_from number tables befores afters))
unfolding net_from IsDistinct
once_from n number [] befores afters = tt
once_from n number (table ∷ tables) [] afters = tt
once_from n number (table ∷ tables) (before ∷ befores) [] = tt
once_from n number (table ∷ tables) (before ∷ befores) (after ∷ afters) =
    once_step n number (net_in number table before after) (net_from (number + 1) tables befores afters) (of_number number table before after) (from_number (number + 1) tables befores afters)
    (net_once number table before after) (once_from n (number + 1) tables befores afters)

-- a name that none has is that of no member
itself_named : (name : RowName) → is_name name name ≡ true
itself_named name = and_from (name.table.0 == name.table.0) (is_equal (key_cmp name.key name.key)) (eq-eqb name.table.0 name.table.0 refl) (ap is_equal (tied_itself key_order name.key))

any_member : {X : Type 0} (p : X → Bool) (xs : List X) (x : X) → Contains xs x → p x ≡ true → list_any p xs ≡ true
any_member p [] x among passes = absurd (contains_none x among)
any_member p (first ∷ xs) x among passes = elim (contains_cases first xs x among) [
  | inl here ↦ (let own : p first ≡ true = ap p here ∙ passes in rw own refl)
  | inr later ↦ by (p first) (any_member p xs x later passes)
]
  where
    by : (b : Bool) → list_any p xs ≡ true → (b || list_any p xs) ≡ true
    by true more = refl
    by false more = more

module _ (before after : Db) (ordered_before : IsOrdered before) (ordered_after : IsOrdered after) (schema : after.schema ≡ before.schema) where
  -- each change of a net tells rows that differ
  each_of : Each (IsChangeOf before after) (net before after)
  each_of = each_member (IsChangeOf before after) (net before after) (λ change among. (net-iff_change before after ordered_before ordered_after schema change).0 among)

  once_of : (number : ℕ) → KeysDiffer (filter (is_of_table number) (net before after))
  unfolding net
  once_of number = once_from number 0 after.schema.tables before.rows after.rows

  -- a row whose name none has is the same in both
  others_of : (name : RowName) → list_any (λ change. is_name change.name name) (net before after) ≡ false → row_of before name ≡ row_of after name
  others_of name none = by (is_same_state (row_of before name) (row_of after name)) refl
    where
      by : (b : Bool) → is_same_state (row_of before name) (row_of after name) ≡ b → row_of before name ≡ row_of after name
      by true same = one_state (row_of before name) (row_of after name) same
      by false differ =
          let change : Change = record { name = name; before = row_of before name; after = row_of after name } in
          let apart : row_of before name ≢ row_of after name =
          λ same.
          let own : is_same_state (row_of before name) (row_of after name) ≡ true = subst (λ row. is_same_state (row_of before name) row ≡ true) same (state_same (row_of before name)) in
          let never : true ≡ false = sym own ∙ differ in cc in
          let among = (net-iff_change before after ordered_before ordered_after schema change).1 (record { tells = record { was = refl; is = refl }; differ = apart }) in
          let any = any_member (λ (change : Change). is_name change.name name) (net before after) change among (itself_named name) in
          let never : true ≡ false = sym any ∙ none in
          absurd (cc)

  pub net_leads : LeadTo before after (net before after)
  net_leads = record { each = each_weaker _ _ (λ change is. is.tells) (net before after) each_of; once = once_of; others = others_of }

  -- each is of a table that is there
  there : (change : Change) → IsChangeOf before after change → (found : Option TableDef) → slice_get before.schema.tables change.name.table.0 ≡ found → IsPutIn before.schema.tables change
  unfolding row_named
  there change is None none =
      let at_after : slice_get after.schema.tables change.name.table.0 ≡ None = subst (λ s. slice_get s.tables change.name.table.0 ≡ None) (sym schema) none in
      let was : change.before ≡ None = is.tells.was ∙ rw none refl in
      let now : change.after ≡ None = is.tells.is ∙ rw at_after refl in
      absurd (is.differ (was ∙ sym now))
  there change is (Some table) some =
      put_in before.schema after.rows table change some (is.tells.is ∙ ap (λ s. row_named s after.rows change.name) schema)

  -- so it may be put
  pub net_may : MayBePut before.schema.tables (net before after)
  net_may = record { theirs = each_weaker _ _ (λ change is. there change is _ refl) (net before after) each_of; once = once_of }

  -- and gives the other
  pub net_put : put_rows before.schema.tables (net before after) before.rows ≡ after.rows
  net_put = put_leads before after schema (net before after) ordered_before ordered_after net_leads
