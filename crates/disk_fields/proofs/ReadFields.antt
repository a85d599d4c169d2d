-- A value, a row or a change that is read is the one of the format, and what is of the format is read.
use Rattle.std.proofs.Common.{◌≡◌, ℕ, zero, suc, ◌≤◌, Bool, true, false, cond, List, [], ◌∷◌, length, refl, sym, ap, subst, ◌∙◌, arith}
use Rattle.std.specs.Prelude.{Option, Some, None, ◌&&◌, nat_le}
use Rattle.std.specs.Int.{w32}
use Rattle.std.proofs.lemmas.Bool.{le-leb, leb-true}
use Rattle.own_base.specs.declared.row_name.RowName.{RowName}
use Rattle.own_base.specs.declared.value.Key.{Key}
use Rattle.own_base.specs.declared.value.Key.TheVariants as keys
use Rattle.own_base.specs.declared.value.Value.{Value}
use Rattle.own_base.specs.declared.value.Value.TheVariants.{Null, Int, Text, Sum}
use Rattle.own_model.specs.declared.limit.TheConstants.{TABLE_COLUMNS, TEXT_BYTES}
use Rattle.own_model.specs.declared.schema.CreateText.{CreateText}
use Rattle.own_model.specs.Db.{Row}
use Rattle.disk_model.specs.declared.commit.Put.{Put}
use Rattle.disk_model.specs.Image.{IsCreateText, create_kind}
use Rattle.disk_model.specs.Number.{Format, IsNumber}
use Rattle.disk_model.specs.Payload.{IsName, IsPut, IsState}
use Rattle.disk_model.specs.Row.{AreItems, IsList, IsRow}
use Rattle.disk_model.specs.Value.{IsKey, IsValue}
use Rattle.disk_model.proofs.Numbers.{number4-spelled}
use Rattle.disk_fields.specs.Reading.{◌>>=◌, Found, create_at, items_at, key_at, key_from, list_at, most_bytes, name_at, number_at, put_at, row_at, signed_at, state_at, text_at, value_at}
use Rattle.disk_fields.proofs.ReadNumbers.{AreBytes, IsReadBy, bind_some, let_through, number4, signed, some_is, text}

-- ---- values and keys

value_found : (bytes : List ℕ) (x : Value × List ℕ) → AreBytes bytes → value_at bytes ≡ Some x → IsValue x.0 bytes x.1 × AreBytes x.1
unfolding value_at
value_found [] x all is = absurd cc
value_found (zero ∷ bytes) x all is = subst (λ (x : Value × List ℕ). IsValue x.0 (0 ∷ bytes) x.1 × AreBytes x.1) (some_is _ x is) ((refl, refl), all.1)
value_found (suc zero ∷ bytes) x all is =
    let number = bind_some (signed_at bytes) (λ number. Some (Int number.0, number.1)) x is in
    let own = signed.found bytes number.0 all.1 number.1 in
    subst (λ (x : Value × List ℕ). IsValue x.0 (1 ∷ bytes) x.1 × AreBytes x.1) (some_is _ x number.2) ((refl, own.0), own.1)
value_found (suc (suc zero) ∷ bytes) x all is =
    let part = bind_some (text_at TEXT_BYTES bytes) (λ text. Some (Text text.0, text.1)) x is in
    let own = (text TEXT_BYTES).found bytes part.0 all.1 part.1 in
    subst (λ (x : Value × List ℕ). IsValue x.0 (2 ∷ bytes) x.1 × AreBytes x.1) (some_is _ x part.2) ((refl, own.0), own.1)
value_found (suc (suc (suc kind)) ∷ bytes) x all is = absurd cc

value_only : (x : Value) (bytes rest : List ℕ) → IsValue x bytes rest → value_at bytes ≡ Some (x, rest)
unfolding value_at
value_only x [] rest is = absurd is
value_only Null (kind ∷ bytes) rest is = rw (is.0, is.1) refl
value_only (Int number) (kind ∷ bytes) rest is = rw (is.0, signed.only number bytes rest is.1) refl
value_only (Text words) (kind ∷ bytes) rest is = rw (is.0, (text TEXT_BYTES).only words bytes rest is.1) refl
value_only (Sum number) (kind ∷ bytes) rest is = absurd is

pub value : IsReadBy IsValue value_at
value = record { found = value_found; only = value_only }

key_of : (value : Value) (bytes rest : List ℕ) (x : Key) → IsValue value bytes rest → key_from value ≡ Some x → IsKey x bytes rest
key_of Null bytes rest x own is = absurd cc
key_of (Int number) bytes rest x own is = subst (λ (x : Key). IsKey x bytes rest) (some_is _ x is) own
key_of (Text words) bytes rest x own is = subst (λ (x : Key). IsKey x bytes rest) (some_is _ x is) own
key_of (Sum number) bytes rest x own is = absurd cc

key_found : (bytes : List ℕ) (x : Key × List ℕ) → AreBytes bytes → key_at bytes ≡ Some x → IsKey x.0 bytes x.1 × AreBytes x.1
unfolding key_at
key_found bytes x all is =
    let part = bind_some (value_at bytes) (λ value. key_from value.0 >>= λ key. Some (key, value.1)) x is in
    let as_key = bind_some (key_from part.0.0) (λ key. Some (key, part.0.1)) x part.2 in
    let own = value_found bytes part.0 all part.1 in
    subst (λ (x : Key × List ℕ). IsKey x.0 bytes x.1 × AreBytes x.1) (some_is _ x as_key.2) (key_of part.0.0 bytes part.0.1 as_key.0 own.0 as_key.1, own.1)

key_only : (x : Key) (bytes rest : List ℕ) → IsKey x bytes rest → key_at bytes ≡ Some (x, rest)
unfolding key_at
key_only (keys.Int number) bytes rest is = rw (value_only (Int number) bytes rest is) refl
key_only (keys.Text words) bytes rest is = rw (value_only (Text words) bytes rest is) refl

pub key : IsReadBy IsKey key_at
key = record { found = key_found; only = key_only }

-- ---- lists

module _ {A : Type 0} (format : Format A) (reading : List ℕ → Found A) (read : IsReadBy format reading) where
  pub items_found : (count : ℕ) (bytes : List ℕ) (x : List A × List ℕ) → AreBytes bytes → items_at reading count bytes ≡ Some x → AreItems format x.0 bytes x.1 × (length x.0 ≡ count) × AreBytes x.1
  unfolding items_at
  items_found zero bytes x all is = subst (λ (x : List A × List ℕ). AreItems format x.0 bytes x.1 × (length x.0 ≡ 0) × AreBytes x.1) (some_is _ x is) (refl, refl, all)
  items_found (suc count) bytes x all is =
      let first = bind_some (reading bytes) (λ first. items_at reading count first.1 >>= λ others. Some (first.0 ∷ others.0, others.1)) x is in
      let own = read.found bytes first.0 all first.1 in
      let others = bind_some (items_at reading count first.0.1) (λ others. Some (first.0.0 ∷ others.0, others.1)) x first.2 in
      let later = items_found count first.0.1 others.0 own.1 others.1 in
      subst (λ (x : List A × List ℕ). AreItems format x.0 bytes x.1 × (length x.0 ≡ suc count) × AreBytes x.1) (some_is _ x others.2) ((first.0.1, own.0, later.0), ap suc later.1, later.2)

  pub items_only : (xs : List A) (bytes rest : List ℕ) → AreItems format xs bytes rest → items_at reading (length xs) bytes ≡ Some (xs, rest)
  unfolding items_at
  items_only [] bytes rest is = rw is refl
  items_only (x ∷ xs) bytes rest is = rw (read.only x bytes is.0 is.1, items_only xs is.0 rest is.2) refl

  list_found : (bytes : List ℕ) (x : List A × List ℕ) → AreBytes bytes → list_at reading bytes ≡ Some x → IsList format x.0 bytes x.1 × AreBytes x.1
  unfolding list_at
  list_found bytes x all is =
      let count = bind_some (number_at w32 bytes) (λ count. items_at reading count.0 count.1) x is in
      let own = number4.found bytes count.0 all count.1 in
      let each = items_found count.0.0 count.0.1 x own.1 count.2 in
      ((count.0.1, subst (λ (n : ℕ). IsNumber 4 n bytes count.0.1) (sym each.1) own.0, each.0), each.2)

  list_only : (xs : List A) (bytes rest : List ℕ) → IsList format xs bytes rest → list_at reading bytes ≡ Some (xs, rest)
  unfolding list_at
  list_only xs bytes rest is = rw (number4.only (length xs) bytes is.0 is.1) (items_only xs is.0 rest is.2)

  pub list : IsReadBy (IsList format) (list_at reading)
  list = record { found = list_found; only = list_only }

-- ---- rows

both_hold : (a b : Bool) → (a && b) ≡ true → (a ≡ true) × (b ≡ true)
both_hold true true is = (refl, refl)
both_hold true false is = absurd cc
both_hold false b is = absurd cc

row_found : (bytes : List ℕ) (x : Row × List ℕ) → AreBytes bytes → row_at bytes ≡ Some x → IsRow x.0 bytes x.1 × AreBytes x.1
unfolding row_at
row_found bytes x all is =
    let count = bind_some (number_at w32 bytes) (λ count. cond (nat_le 1 count.0 && nat_le count.0 TABLE_COLUMNS) (list_at value_at bytes) None) x is in
    let through = let_through (nat_le 1 count.0.0 && nat_le count.0.0 TABLE_COLUMNS) (list_at value_at bytes) x count.2 in
    let two = both_hold (nat_le 1 count.0.0) (nat_le count.0.0 TABLE_COLUMNS) through.0 in
    let whole = (list IsValue value_at value).found bytes x all through.1 in
    let same = some_is _ _ (sym (number4.only (length x.0) bytes whole.0.0 whole.0.1) ∙ count.1) in
    let long : length x.0 ≡ count.0.0 = ap (λ (x : ℕ × List ℕ). x.0) same in
    let some = leb-true 1 count.0.0 two.0 in
    let few = leb-true count.0.0 TABLE_COLUMNS two.1 in
    ((subst (λ (n : ℕ). 1 ≤ n) (sym long) some, subst (λ (n : ℕ). n ≤ TABLE_COLUMNS) (sym long) few, whole.0), whole.1)

row_only : (x : Row) (bytes rest : List ℕ) → IsRow x bytes rest → row_at bytes ≡ Some (x, rest)
unfolding row_at
row_only x bytes rest is =
    let some : nat_le 1 (length x) ≡ true = le-leb 1 (length x) is.0 in
    let few : nat_le (length x) TABLE_COLUMNS ≡ true = le-leb (length x) TABLE_COLUMNS is.1 in
    rw (number4.only (length x) bytes is.2.0 is.2.1, some, few) ((list IsValue value_at value).only x bytes rest is.2)

pub row : IsReadBy IsRow row_at
row = record { found = row_found; only = row_only }

state_found : (bytes : List ℕ) (x : Option Row × List ℕ) → AreBytes bytes → state_at bytes ≡ Some x → IsState x.0 bytes x.1 × AreBytes x.1
unfolding state_at
state_found [] x all is = absurd cc
state_found (zero ∷ bytes) x all is = subst (λ (x : Option Row × List ℕ). IsState x.0 (0 ∷ bytes) x.1 × AreBytes x.1) (some_is _ x is) ((refl, refl), all.1)
state_found (suc zero ∷ bytes) x all is =
    let part = bind_some (row_at bytes) (λ row. Some (Some row.0, row.1)) x is in
    let own = row.found bytes part.0 all.1 part.1 in
    subst (λ (x : Option Row × List ℕ). IsState x.0 (1 ∷ bytes) x.1 × AreBytes x.1) (some_is _ x part.2) ((refl, own.0), own.1)
state_found (suc (suc kind) ∷ bytes) x all is = absurd cc

state_only : (x : Option Row) (bytes rest : List ℕ) → IsState x bytes rest → state_at bytes ≡ Some (x, rest)
unfolding state_at
state_only x [] rest is = absurd is
state_only None (kind ∷ bytes) rest is = rw (is.0, is.1) refl
state_only (Some x) (kind ∷ bytes) rest is = rw (is.0, row.only x bytes rest is.1) refl

pub state : IsReadBy IsState state_at
state = record { found = state_found; only = state_only }

-- ---- names, changes and creates

name_found : (bytes : List ℕ) (x : RowName × List ℕ) → AreBytes bytes → name_at bytes ≡ Some x → IsName x.0 bytes x.1 × AreBytes x.1
unfolding name_at
name_found bytes x all is =
    let table = bind_some (number_at w32 bytes) (λ table. key_at table.1 >>= λ key. Some (record { table = record { 0 = table.0 }; key = key.0 }, key.1)) x is in
    let part = bind_some (key_at table.0.1) (λ key. Some (record { table = record { 0 = table.0.0 }; key = key.0 }, key.1)) x table.2 in
    let first = number4.found bytes table.0 all table.1 in
    let second = key_found table.0.1 part.0 first.1 part.1 in
    subst (λ (x : RowName × List ℕ). IsName x.0 bytes x.1 × AreBytes x.1) (some_is _ x part.2) ((table.0.1, first.0, second.0), second.1)

name_only : (x : RowName) (bytes rest : List ℕ) → IsName x bytes rest → name_at bytes ≡ Some (x, rest)
unfolding name_at
name_only x bytes rest is = rw (number4.only x.table.0 bytes is.0 is.1, key_only x.key is.0 rest is.2) refl

pub name : IsReadBy IsName name_at
name = record { found = name_found; only = name_only }

put_found : (bytes : List ℕ) (x : Put × List ℕ) → AreBytes bytes → put_at bytes ≡ Some x → IsPut x.0 bytes x.1 × AreBytes x.1
unfolding put_at
put_found bytes x all is =
    let named = bind_some (name_at bytes) (λ name. state_at name.1 >>= λ state. Some (record { name = name.0; after = state.0 }, state.1)) x is in
    let part = bind_some (state_at named.0.1) (λ state. Some (record { name = named.0.0; after = state.0 }, state.1)) x named.2 in
    let first = name_found bytes named.0 all named.1 in
    let second = state_found named.0.1 part.0 first.1 part.1 in
    subst (λ (x : Put × List ℕ). IsPut x.0 bytes x.1 × AreBytes x.1) (some_is _ x part.2) ((named.0.1, first.0, second.0), second.1)

put_only : (x : Put) (bytes rest : List ℕ) → IsPut x bytes rest → put_at bytes ≡ Some (x, rest)
unfolding put_at
put_only x bytes rest is = rw (name_only x.name bytes is.0 is.1, state_only x.after is.0 rest is.2) refl

pub put : IsReadBy IsPut put_at
put = record { found = put_found; only = put_only }

create_found : (bytes : List ℕ) (x : CreateText × List ℕ) → AreBytes bytes → create_at bytes ≡ Some x → IsCreateText x.0 bytes x.1 × AreBytes x.1
unfolding create_at
create_found [] x all is = absurd cc
create_found (zero ∷ bytes) x all is = absurd cc
create_found (suc zero ∷ bytes) x all is =
    let part = bind_some (text_at most_bytes bytes) (λ text. Some (record { view = false; text = text.0 }, text.1)) x is in
    let own = (text most_bytes).found bytes part.0 all.1 part.1 in
    subst (λ (x : CreateText × List ℕ). IsCreateText x.0 (1 ∷ bytes) x.1 × AreBytes x.1) (some_is _ x part.2) ((refl, own.0.1), own.1)
create_found (suc (suc zero) ∷ bytes) x all is =
    let part = bind_some (text_at most_bytes bytes) (λ text. Some (record { view = true; text = text.0 }, text.1)) x is in
    let own = (text most_bytes).found bytes part.0 all.1 part.1 in
    subst (λ (x : CreateText × List ℕ). IsCreateText x.0 (2 ∷ bytes) x.1 × AreBytes x.1) (some_is _ x part.2) ((refl, own.0.1), own.1)
create_found (suc (suc (suc kind)) ∷ bytes) x all is = absurd cc

create_read : (view : Bool) (x bytes rest : List ℕ) → text_at most_bytes bytes ≡ Some (x, rest) → create_at (create_kind view ∷ bytes) ≡ Some (record { view = view; text = x }, rest)
unfolding create_at
create_read false x bytes rest is = rw is refl
create_read true x bytes rest is = rw is refl

create_only : (x : CreateText) (bytes rest : List ℕ) → IsCreateText x bytes rest → create_at bytes ≡ Some (x, rest)
create_only x [] rest is = absurd is
create_only x (kind ∷ bytes) rest is =
    let short = (number4-spelled (length x.text) bytes is.1.0 is.1.1).1 in
    let own = (text most_bytes).only x.text bytes rest (omega arith, is.1) in
    rw is.0 (create_read x.view x.text bytes rest own)

pub create : IsReadBy IsCreateText create_at
create = record { found = create_found; only = create_only }
