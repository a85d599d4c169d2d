-- Rows of one table that are settled one after another.
use Rattle.std.proofs.Common.{◌≡◌, ℕ, ◌+◌, ◌<◌, List, [], ◌∷◌, ◌++◌, length, get_or, map, take, Bool, true, false, inl, inr, refl, ap, sym, ◌∙◌, subst}
use Rattle.std.specs.Prelude.{◌⊎◌, ◌≢◌, Contains}
use Rattle.std.specs.Ordering.{is_eq, ordering_then, nat_cmp}
use Rattle.std.specs.declared.cmp.Ordering.{Ordering}
use Rattle.std.specs.declared.cmp.Ordering.TheVariants.{Less, Equal, Greater}
use Rattle.std.proofs.lemmas.Cmp.{tied_itself}
use Rattle.std.proofs.lemmas.List.{take_more}
use Rattle.std.proofs.lemmas.List.Elements.{Contains-append_cases}
use Rattle.std.proofs.lemmas.Map.Lookups.{exact_unsigned}
use Rattle.own_base.specs.Key.{key_cmp}
use Rattle.own_base.specs.declared.number.TableNo.{TableNo}
use Rattle.own_base.specs.declared.row_name.RowName.{RowName}
use Rattle.own_base.specs.declared.value.Key.{Key}
use Rattle.own_model.specs.declared.schema.Edge.{Edge}
use Rattle.own_model.specs.Db.{Db}
use Rattle.own_model.specs.Stored.{is_equal}
use Rattle.owner_model.specs.Joins.{Joins}
use Rattle.schema_model.specs.OwnerSchema.{IsOwnerEdge, IsOwnerSchema}
use Rattle.subject_model.specs.NameOrder.{name_cmp}
use Rattle.subject_model.specs.Paths.{is_subject_row}
use Rattle.subject_model.proofs.Members.{all_contained, contains_cases, contains_none}
use Rattle.subject_model.proofs.NamedLemmas.{one_key}
use Rattle.subject_model.proofs.RisingNames.{name_order}
use Rattle.link_model.specs.Whose.{as_subject}
use Rattle.owner_index.specs.Entry.{Entry}
use Rattle.owner_index.specs.declared.which.Which.{Which}
use Rattle.owner_index.specs.Held.{IsRight, held, listed}
use Rattle.owner_index.specs.Settled.{AreNamesOf, IsRightAbove, IsRightAboveTable, Settles, SettlesSome, SettlesTable}
use Rattle.owner_index.specs.UnderWay.{IsUnderWay}

tied_parts : (first second : Ordering) → is_eq (ordering_then first second) ≡ true → (first ≡ Equal) × (is_equal second ≡ true)
tied_parts Less second is = let never : false ≡ true = is in cc
tied_parts Equal Less is = let never : false ≡ true = is in cc
tied_parts Equal Equal is = (refl, refl)
tied_parts Equal Greater is = let never : false ≡ true = is in cc
tied_parts Greater second is = let never : false ≡ true = is in cc

-- names that compare as equal are one
pub one_name : (one other : RowName) → is_eq (name_cmp one other) ≡ true → one ≡ other
one_name one other is =
    let both = tied_parts (nat_cmp one.table.0 other.table.0) (key_cmp one.key other.key) is in
    let table : one.table.0 ≡ other.table.0 = exact_unsigned one.table.0 other.table.0 both.0 in
    let key : one.key ≡ other.key = one_key one.key other.key both.1 in
    let made : ℕ → Key → RowName = λ n k. record { table = record { 0 = n }; key = k } in
    ap (λ n. made n one.key) table ∙ ap (made other.table.0) key

-- and one name compares as equal
pub name_tied : (one other : RowName) → one ≡ other → is_eq (name_cmp one other) ≡ true
name_tied one other same = subst (λ n. is_eq (name_cmp one n) ≡ true) same (ap is_eq (tied_itself name_order one))

pub names_differ : (one other : RowName) → is_eq (name_cmp one other) ≡ false → one ≢ other
names_differ one other not same = let never : true ≡ false = sym (name_tied one other same) ∙ not in cc

-- two names are one or compare as unequal
pub name_cases : (one other : RowName) → (one ≡ other) ⊎ (is_eq (name_cmp one other) ≡ false)
name_cases one other = by (is_eq (name_cmp one other)) refl
  where
    by : (b : Bool) → is_eq (name_cmp one other) ≡ b → (one ≡ other) ⊎ (is_eq (name_cmp one other) ≡ false)
    by true is = inl (one_name one other is)
    by false is = inr is

pub names_apart : (one other : RowName) → one ≢ other → is_eq (name_cmp one other) ≡ false
names_apart one other differ = elim (name_cases one other) [ inl same ↦ absurd (differ same) | inr is ↦ is ]

module _ (db : Db) (name : RowName) (old new : List Entry) (work more : List RowName) (settles : Settles db name old new work more) where
  -- the work goes on after a row of it is settled
  pub under_way : (start : List Entry) → Contains work name → IsUnderWay db start old work → IsUnderWay db start new more
  under_way start among way =
      record {
        old = λ which other absent.
            let before : ¬ (Contains work other) = λ there. absent (settles.longer other there) in
            settles.others which other (names_apart name other (λ same. before (subst (Contains work) same among))) ∙ way.old which other before;
        clean = λ which lower upper edge absent joined other.
            let before : ¬ (Contains work lower) = λ there. absent (settles.longer lower there) in
            let had = way.clean which lower upper edge before joined other in
            elim (name_cases name upper) [
              | inl same ↦ elim (settles.below which) [
                | inl stays ↦ ap (held which new) (sym same) ∙ (stays ∙ (ap (held which old) same ∙ had))
                | inr below ↦
                    absurd (absent (below lower edge (subst (λ n. Joins db lower edge n) (sym same) joined) (subst (λ n. is_subject_row db n ≡ false) (sym same) other)))
              ]
              | inr apart ↦ settles.others which upper apart ∙ had
            ];
      }

module _ (db : Db) (table : TableNo) (names : List RowName) (old : List Entry) (work : List RowName) (of : AreNamesOf table work names) where
  pub some-start : SettlesSome db table names 0 old old work work
  some-start =
      record {
        right = λ above name among. absurd (contains_none name among);
        others = λ which name absent. refl;
        longer = λ name among. among;
        keeps = λ start way. way;
      }

  module _ (owner : IsOwnerSchema db.schema) (count : ℕ) (name : RowName) (within : count < length names) (next : name ≡ get_or names count name)
      (new after : List Entry) (more most : List RowName) (so_far : SettlesSome db table names count old new work more) (settles : Settles db name new after more most) where
    here : Contains names name
    here = (count, within, sym next)

    -- an upper row of a row of the table is of another table, and so not among those that are settled
    not_above : (edge : Edge) (upper : RowName) → Contains db.schema.edges edge → edge.lower ≡ table → upper.table ≡ edge.upper → ¬ (Contains names upper)
    not_above edge upper among lower is there =
        let differ : IsOwnerEdge db.schema edge = all_contained (IsOwnerEdge db.schema) db.schema.edges edge owner.edges among in
        let own : upper.table ≡ table = ((of.same upper).0 there).0 in
        differ.differ (ap (λ (t : TableNo). t.0) (lower ∙ (sym own ∙ is)))

    right_above : IsRightAboveTable db table old → (which : Which) → IsRightAbove db which new name
    right_above above which edge upper joined other =
        let own : name.table ≡ table = ((of.same name).0 here).0 in
        let lower : edge.lower ≡ table = sym joined.of_lower ∙ own in
        so_far.others which upper (not_above edge upper joined.among lower joined.of_upper) ∙ above edge joined.among lower upper joined.of_upper which

    right_more : IsRightAboveTable db table old → (other : RowName) → Contains (take (count + 1) names) other → IsRight db after other
    right_more above other among which =
        elim (name_cases name other) [
          | inl same ↦ subst (λ n. held which after n ≡ map as_subject (listed which db n)) same (settles.right which (right_above above which))
          | inr apart ↦ settles.others which other apart ∙ so_far.right above other (earlier apart) which
        ]
      where
        earlier : is_eq (name_cmp name other) ≡ false → Contains (take count names) other
        earlier apart =
            elim (Contains-append_cases (take count names) (name ∷ []) other (subst (λ list. Contains list other) (take_more names count name within ∙ ap (λ n. take count names ++ n ∷ []) (sym next)) among)) [
              | inl before ↦ before
              | inr last ↦ elim (contains_cases name [] other last) [
                | inl same ↦ absurd (names_differ name other apart same)
                | inr none ↦ absurd (contains_none other none)
              ]
            ]

    -- one more is settled
    pub some-more : SettlesSome db table names (count + 1) old after work most
    some-more =
        record {
          right = right_more;
          others = λ which other absent. settles.others which other (names_apart name other (λ same. absent (subst (Contains names) same here))) ∙ so_far.others which other absent;
          longer = λ other among. settles.longer other (so_far.longer other among);
          keeps = λ start way.
              under_way db name new after more most settles start (so_far.longer name ((of.same name).0 here).1) (so_far.keeps start way);
        }

  pub some-end : (count : ℕ) (new : List Entry) (more : List RowName) → take count names ≡ names → SettlesSome db table names count old new work more → SettlesTable db table old new work more
  some-end count new more all so_far =
      record {
        right = λ above name own among. so_far.right above name (subst (λ list. Contains list name) (sym all) ((of.same name).1 (own, among)));
        others = λ which name absent. so_far.others which name (λ there. absent ((of.same name).0 there));
        longer = so_far.longer;
        keeps = so_far.keeps;
      }
