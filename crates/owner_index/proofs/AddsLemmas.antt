-- Names that are added one after another.
use Rattle.std.proofs.Common.{◌≡◌, ℕ, ◌+◌, ◌<◌, List, [], ◌∷◌, ◌++◌, length, get_or, take, map, inl, inr, ap, sym, ◌∙◌, subst}
use Rattle.std.specs.Prelude.{◌⊎◌, Contains, Option, Some}
use Rattle.std.proofs.lemmas.List.{take_more}
use Rattle.std.proofs.lemmas.List.Elements.{Contains-append_cases, Contains-append_left, Contains-append_right}
use Rattle.own_base.specs.declared.number.TableNo.{TableNo}
use Rattle.own_base.specs.declared.row_name.RowName.{RowName}
use Rattle.own_base.specs.declared.value.Key.{Key}
use Rattle.own_base.specs.declared.value.Value.{Value}
use Rattle.own_model.specs.Db.{Db, IsOrdered}
use Rattle.owner_model.specs.Joins.{value_at, value_of}
use Rattle.subject_model.proofs.Members.{contains_cases, contains_here, contains_map, contains_none}
use Rattle.link_model.specs.Holds.{holders_at}
use Rattle.owner_index.specs.Adds.{Adds, ForSome}
use Rattle.owner_index.specs.Referrers.{named}
use Rattle.owner_index.proofs.HoldersLemmas.{holds_holder}
use Rattle.owner_index.proofs.UpperLemmas.{IsNamedBy}

-- nothing is wanted
pub adds-none : (IsWanted : RowName → Type 0) (work : List RowName) → ((name : RowName) → IsWanted name → ⊥) → Adds IsWanted work work
adds-none IsWanted work none = record { longer = λ name among. among; has = λ name wanted. absurd (none name wanted) }

-- what is wanted is what is added
pub adds-weaker : (IsWanted Is : RowName → Type 0) (old new : List RowName) → ((name : RowName) → Is name → IsWanted name) → Adds IsWanted old new → Adds Is old new
adds-weaker IsWanted Is old new weaker adds = record { longer = adds.longer; has = λ name is. adds.has name (weaker name is) }

-- some names behind others
pub adds-names : (IsWanted : RowName → Type 0) (old new names : List RowName) → new ≡ old ++ names → ((name : RowName) → IsWanted name → Contains names name) → Adds IsWanted old new
adds-names IsWanted old new names is has =
    record {
      longer = λ name among. subst (λ list. Contains list name) (sym is) (Contains-append_left old names name among);
      has = λ name wanted. subst (λ list. Contains list name) (sym is) (Contains-append_right old names name (has name wanted));
    }

-- the row that a cell names
pub adds-named : (cell : Option Value) (table : TableNo) (found : Option RowName) (old new : List RowName) (name : RowName) → IsNamedBy cell table found → found ≡ Some name → new ≡ old ++ name ∷ []
    → Adds (λ other. (other.table ≡ table) × (cell ≡ Some (value_of other.key))) old new
adds-named cell table found old new name is found_is added =
    adds-names (λ other. (other.table ≡ table) × (cell ≡ Some (value_of other.key))) old new (name ∷ []) added
    (λ other wanted. let same : name ≡ other = same_one (sym found_is ∙ (is other).1 wanted) in subst (Contains (name ∷ [])) same (contains_here name []))
  where
    same_one : {a b : RowName} → ◌≡◌ {A = Option RowName} (Some a) (Some b) → a ≡ b
    same_one same = cc

-- the rows of a table that hold a key
pub adds-naming : (db : Db) (table : TableNo) (column : ℕ) (key : Key) (old new names : List RowName) → IsOrdered db → names ≡ map (named table) (holders_at db table.0 column key) → new ≡ old ++ names
    → Adds (λ name. (name.table ≡ table) × (value_at db name column ≡ Some (value_of key))) old new
adds-naming db table column key old new names ordered lent added =
    adds-names (λ name. (name.table ≡ table) × (value_at db name column ≡ Some (value_of key))) old new names added
    (λ name wanted.
    let holds : value_at db (named table name.key) column ≡ Some (value_of key) = subst (λ (t : TableNo). value_at db (named t name.key) column ≡ Some (value_of key)) wanted.0 wanted.1 in
    let there = contains_map (named table) (holders_at db table.0 column key) name.key (holds_holder db ordered table column key name.key holds) in
    let own : named table name.key ≡ name = ap (λ (t : TableNo). named t name.key) (sym wanted.0) in
    subst (λ list. Contains list name) (sym lent) (subst (Contains (map (named table) (holders_at db table.0 column key))) own there))

module _ {X : Type 0} (IsWanted : X → RowName → Type 0) (xs : List X) where
  pub adds-start : (work : List RowName) → Adds (ForSome IsWanted (take 0 xs)) work work
  adds-start work = adds-none (ForSome IsWanted []) work (λ name wanted. contains_none wanted.0 wanted.1.0)

  -- with what is wanted for the next one
  pub adds-more : (count : ℕ) (x : X) (start old new : List RowName) → count < length xs → x ≡ get_or xs count x → Adds (ForSome IsWanted (take count xs)) start old → Adds (IsWanted x) old new
      → Adds (ForSome IsWanted (take (count + 1) xs)) start new
  adds-more count x start old new within next so_far adds =
      record {
        longer = λ name among. adds.longer name (so_far.longer name among);
        has = λ name wanted. elim (Contains-append_cases (take count xs) (x ∷ []) wanted.0 (subst (λ list. Contains list wanted.0) longer wanted.1.0)) [
          | inl before ↦ adds.longer name (so_far.has name (wanted.0, (before, wanted.1.1)))
          | inr last ↦ elim (contains_cases x [] wanted.0 last) [
            | inl same ↦ adds.has name (subst (λ y. IsWanted y name) (sym same) wanted.1.1)
            | inr none ↦ absurd (contains_none wanted.0 none)
          ]
        ];
      }
    where
      longer : take (count + 1) xs ≡ take count xs ++ x ∷ []
      longer = take_more xs count x within ∙ ap (λ y. take count xs ++ y ∷ []) (sym next)

-- what is wanted by either of two
pub adds-either : (IsOne IsOther IsWanted : RowName → Type 0) (old new more : List RowName) → ((name : RowName) → IsWanted name → IsOne name ⊎ IsOther name) → Adds IsOne old new → Adds IsOther new more → Adds IsWanted old more
adds-either IsOne IsOther IsWanted old new more either one other =
    record {
      longer = λ name among. other.longer name (one.longer name among);
      has = λ name wanted. elim (either name wanted) [ inl is ↦ other.longer name (one.has name is) | inr is ↦ other.has name is ];
    }
