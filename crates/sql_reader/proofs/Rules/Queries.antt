-- A select, as it is read: plain and grouped ones begin alike.
use Rattle.std.proofs.Common.{◌≡◌, ℕ, Bool, true, false, List, [], ◌∷◌, refl, sym, ap, ◌∙◌, subst, inl, inr, codes}
use Rattle.std.specs.Prelude.{◌⊎◌, ◌+◌, ◌&&◌, not, Option, None, Some}
use Rattle.std.specs.List.{list_all}
use Rattle.std.proofs.lemmas.Bool.{false≢true}
use Rattle.own_model.specs.declared.condition.Cond.{Cond}
use Rattle.own_model.specs.declared.select.ColRef.{ColRef}
use Rattle.own_model.specs.declared.select.Item.{Item}
use Rattle.own_model.specs.declared.select.Items.{Items}
use Rattle.own_model.specs.declared.select.Join.{Join}
use Rattle.own_model.specs.declared.select.Select.{Select}
use Rattle.grammar_model.specs.Grammar.{name, col, citem, gitem, item_after, items, join, condition, plain, grouped}
use Rattle.grammar_model.specs.Language.{Language, one, ◌>>=◌, ◌>>◌, ◌or◌, pure, optional, many_from, word, mark, whether}
use Rattle.grammar_model.specs.Limits.{Limits, fits}
use Rattle.grammar_model.specs.Terminal.{Terminals}
use Rattle.sql_reader.specs.reading.Select.{is_plain, is_listed, is_column}
use Rattle.sql_reader.proofs.OtherWords.{Into}
use Rattle.sql_reader.proofs.Heads.{both}
use Rattle.grammar_model.specs.Parts.{is_there}
use Rattle.grammar_model.specs.Values.{SlotIs}

-- * | gitem {, gitem}
abbrev pub items_or_all : Limits → Language Items
items_or_all limits = (mark (codes "*") >> pure Items.Star) or (items (gitem limits) limits >>= λ found. pure (Items.Listed found))

-- a join, where there is neither COUNT nor SUM
abbrev join_where : Limits → Items → Language (Option Join)
join_where limits found = whether (is_plain found) (optional (join limits)) (pure None)

-- GROUP BY col
abbrev group_by : Limits → Language ColRef
group_by limits = word (codes "GROUP") >> word (codes "BY") >> col limits

-- a group, where items are listed and there is no join
abbrev group_where : Limits → Items → Option Join → Language (Option ColRef)
group_where limits found joined = whether (is_listed found && not (is_there joined)) (optional (group_by limits)) (pure None)

-- the select that is read
abbrev made : Items → List ℕ → Option Join → Option Cond → Option ColRef → Select
made found from joined cond group = record { items = found; from = from; join = joined; cond = cond; group = group; order = None }

-- what comes after the items, as it is read
abbrev after_items : Limits → ℕ → Items → Language Select
after_items limits levels found = do
  word (codes "FROM")
  from ← name limits
  joined ← join_where limits found
  cond ← condition limits levels
  group ← group_where limits found joined
  pure (made found from joined cond group)

-- a select, as it is read
abbrev pub query : Limits → ℕ → Language Select
query limits levels = do
  word (codes "SELECT")
  found ← items_or_all limits
  after_items limits levels found

-- what comes after the items of a plain select
abbrev after_plain : Limits → ℕ → Items → Language Select
after_plain limits levels found = do
  word (codes "FROM")
  from ← name limits
  joined ← optional (join limits)
  cond ← condition limits levels
  pure (made found from joined cond None)

-- what comes after the items of a grouped one
abbrev after_grouped : Limits → ℕ → Items → Language Select
after_grouped limits levels found = do
  word (codes "FROM")
  from ← name limits
  cond ← condition limits levels
  group ← optional (group_by limits)
  pure (made found from None cond group)

-- * stands in a plain select alone
star_to : (limits : Limits) (levels : ℕ) → Into (after_items limits levels Items.Star) (after_plain limits levels Items.Star)
star_to limits levels value terminals rest (_, a, word_from, (from, b, named, (joined, c, join_there, (cond, d, where_there, (group, e, (no_group, same), (is, ends)))))) =
    (tt, a, word_from, (from, b, named, (joined, c, join_there, (cond, d, where_there, (is ∙ ap (made Items.Star from joined cond) no_group, same ∙ ends)))))

star_from : (limits : Limits) (levels : ℕ) → Into (after_plain limits levels Items.Star) (after_items limits levels Items.Star)
star_from limits levels value terminals rest (_, a, word_from, (from, b, named, (joined, c, join_there, (cond, d, where_there, (is, ends))))) =
    (tt, a, word_from, (from, b, named, (joined, c, join_there, (cond, d, where_there, (None, d, (refl, refl), (is, ends))))))

-- listed items with a join stand in a plain select, and without one in a grouped one
listed_to : (limits : Limits) (levels : ℕ) (found : List Item) (value : Select) (terminals rest : Terminals) → after_items limits levels (Items.Listed found) value terminals rest
    → (list_all is_column found ≡ true × after_plain limits levels (Items.Listed found) value terminals rest) ⊎ after_grouped limits levels (Items.Listed found) value terminals rest
listed_to limits levels found value terminals rest (_, a, word_from, (from, b, named, (joined, c, join_there, (cond, d, where_there, (group, e, group_there, (is, ends)))))) =
    by (list_all is_column found) refl joined join_there group_there is
  where
    ungrouped : (joined : Option Join) → joined ≡ None → b ≡ c → whether (not (is_there joined)) (optional (group_by limits)) (pure None) group d e → value ≡ made (Items.Listed found) from joined cond group → after_grouped limits levels (Items.Listed found) value terminals rest
    ungrouped None none same there is = (tt, a, word_from, (from, b, named, (cond, d, subst (λ l. condition limits levels cond l d) (sym same) where_there, (group, e, there, (is, ends)))))
    ungrouped (Some one) none same there is = absurd (wrong none)
      where
        wrong : ◌≡◌ {A = Option Join} (Some one) None → ⊥
        wrong same = cc

    joined_one : (joined : Option Join) → (one : Join) → joined ≡ Some one → optional (join limits) joined b c → whether (not (is_there joined)) (optional (group_by limits)) (pure None) group d e → value ≡ made (Items.Listed found) from joined cond group → after_plain limits levels (Items.Listed found) value terminals rest
    joined_one None one some there group_there is = absurd (wrong some)
      where
        wrong : ◌≡◌ {A = Option Join} None (Some one) → ⊥
        wrong same = cc
    joined_one (Some other) one some there (no_group, same) is =
        (tt, a, word_from, (from, b, named, (Some other, c, there, (cond, d, where_there, (is ∙ ap (made (Items.Listed found) from (Some other) cond) no_group, same ∙ ends)))))

    by : (answer : Bool) → list_all is_column found ≡ answer → (joined : Option Join) → whether answer (optional (join limits)) (pure None) joined b c → whether (not (is_there joined)) (optional (group_by limits)) (pure None) group d e → value ≡ made (Items.Listed found) from joined cond group
        → (list_all is_column found ≡ true × after_plain limits levels (Items.Listed found) value terminals rest) ⊎ after_grouped limits levels (Items.Listed found) value terminals rest
    by true columns joined (inl (one, middle, text, (some, same))) group_there is = inl (columns, joined_one joined one some (inl (one, middle, text, (some, same))) group_there is)
    by true columns joined (inr (none, same)) group_there is = inr (ungrouped joined none same group_there is)
    by false columns joined (none, same) group_there is = inr (ungrouped joined none same group_there is)

-- a plain select is read, where its items are columns
plain_from : (limits : Limits) (levels : ℕ) (found : List Item) → list_all is_column found ≡ true → Into (after_plain limits levels (Items.Listed found)) (after_items limits levels (Items.Listed found))
plain_from limits levels found columns value terminals rest (_, a, word_from, (from, b, named, (joined, c, join_there, (cond, d, where_there, (is, ends))))) =
    (tt, a, word_from, (from, b, named, (joined, c, subst (λ answer. whether answer (optional (join limits)) (pure None) joined b c) (sym columns) join_there, (cond, d, where_there, (None, d, ungrouped (not (is_there joined)), (is, ends))))))
  where
    ungrouped : (answer : Bool) → whether answer (optional (group_by limits)) (pure None) None d d
    ungrouped true = inr (refl, refl)
    ungrouped false = (refl, refl)

-- so is a grouped one
grouped_from : (limits : Limits) (levels : ℕ) (found : List Item) → Into (after_grouped limits levels (Items.Listed found)) (after_items limits levels (Items.Listed found))
grouped_from limits levels found value terminals rest (_, a, word_from, (from, b, named, (cond, d, where_there, (group, e, group_there, (is, ends))))) =
    (tt, a, word_from, (from, b, named, (None, b, unjoined (list_all is_column found), (cond, d, where_there, (group, e, group_there, (is, ends))))))
  where
    unjoined : (answer : Bool) → whether answer (optional (join limits)) (pure None) None b b
    unjoined true = inr (refl, refl)
    unjoined false = (refl, refl)

-- an item of a plain select is a column
citem_to : (limits : Limits) (value : Item) (terminals rest : Terminals) → citem limits value terminals rest → gitem limits value terminals rest × is_column value ≡ true
unfolding citem gitem
citem_to limits value terminals rest (found, a, (one, b, text, (is, same)), (called, c, as_there, (made, ends))) =
    ((found, a, inl (one, b, text, (is, same)), (called, c, as_there, (made, ends))), ap is_column made ∙ ap (λ w. is_column (record { what = w; alias = called })) is)

citem_from : (limits : Limits) (value : Item) (terminals rest : Terminals) → is_column value ≡ true → gitem limits value terminals rest → citem limits value terminals rest
unfolding citem gitem
citem_from limits value terminals rest column_is (found, a, inl text, behind) = (found, a, text, behind)
citem_from limits value terminals rest column_is (found, a, inr (inl (_, b, w1, (_, c, w2, (_, d, w3, (_, e, w4, (is, same)))))), (called, f, as_there, (made, ends))) =
    absurd (false≢true (sym (ap is_column made ∙ ap (λ w. is_column (record { what = w; alias = called })) is) ∙ column_is))
citem_from limits value terminals rest column_is (found, a, inr (inr (_, b, w1, (_, c, w2, (one, d, w3, (_, e, w4, (is, same)))))), (called, f, as_there, (made, ends))) =
    absurd (false≢true (sym (ap is_column made ∙ ap (λ w. is_column (record { what = w; alias = called })) is) ∙ column_is))

after_to : (limits : Limits) (count : ℕ) (value : Item) (terminals rest : Terminals) → item_after (citem limits) limits count value terminals rest → item_after (gitem limits) limits count value terminals rest × is_column value ≡ true
after_to limits count value terminals rest text = by (fits limits.items (count + 1)) text
  where
    by : (answer : Bool) → whether answer (citem limits) (one SlotIs) value terminals rest → whether answer (gitem limits) (one SlotIs) value terminals rest × is_column value ≡ true
    by true text = citem_to limits value terminals rest text
    by false (terminal, same, is) = ((terminal, same, is), ap is_column is.value)

after_from : (limits : Limits) (count : ℕ) (value : Item) (terminals rest : Terminals) → is_column value ≡ true → item_after (gitem limits) limits count value terminals rest → item_after (citem limits) limits count value terminals rest
after_from limits count value terminals rest column_is text = by (fits limits.items (count + 1)) text
  where
    by : (answer : Bool) → whether answer (gitem limits) (one SlotIs) value terminals rest → whether answer (citem limits) (one SlotIs) value terminals rest
    by true text = citem_from limits value terminals rest column_is text
    by false text = text

-- , item
abbrev comma_item : Language Item → Limits → ℕ → Language Item
comma_item item limits count = mark (codes ",") >> item_after item limits count

more_to : (limits : Limits) (values : List Item) (count : ℕ) (terminals rest : Terminals) → many_from (comma_item (citem limits) limits) count values terminals rest → many_from (comma_item (gitem limits) limits) count values terminals rest × list_all is_column values ≡ true
more_to limits [] count terminals rest text = (text, refl)
more_to limits (value ∷ values) count terminals rest (middle, (_, a, comma, text), more) =
    let one = after_to limits count value a middle text in
    let others = more_to limits values (count + 1) middle rest more in
    ((middle, (tt, a, comma, one.0), others.0), (λ i. one.1 i && others.1 i))

more_from : (limits : Limits) (values : List Item) (count : ℕ) (terminals rest : Terminals) → list_all is_column values ≡ true → many_from (comma_item (gitem limits) limits) count values terminals rest → many_from (comma_item (citem limits) limits) count values terminals rest
more_from limits [] count terminals rest columns text = text
more_from limits (value ∷ values) count terminals rest columns (middle, (_, a, comma, text), more) =
    let parts = both (is_column value) (list_all is_column values) columns in
    (middle, (tt, a, comma, after_from limits count value a middle parts.0 text), more_from limits values (count + 1) middle rest parts.1 more)

-- all items of a plain select are columns
citems_to : (limits : Limits) (values : List Item) (terminals rest : Terminals) → items (citem limits) limits values terminals rest → items (gitem limits) limits values terminals rest × list_all is_column values ≡ true
unfolding items
citems_to limits values terminals rest (first, a, text, (others, b, more, (is, ends))) =
    let one = after_to limits 0 first terminals a text in
    let many = more_to limits others 1 a b more in
    ((first, a, one.0, (others, b, many.0, (is, ends))), ap (list_all is_column) is ∙ (λ i. one.1 i && many.1 i))

citems_from : (limits : Limits) (values : List Item) (terminals rest : Terminals) → list_all is_column values ≡ true → items (gitem limits) limits values terminals rest → items (citem limits) limits values terminals rest
unfolding items
citems_from limits values terminals rest columns (first, a, text, (others, b, more, (is, ends))) =
    let parts = both (is_column first) (list_all is_column others) (sym (ap (list_all is_column) is) ∙ columns) in
    (first, a, after_from limits 0 first terminals a parts.0 text, (others, b, more_from limits others 1 a b parts.1 more, (is, ends)))

-- what is read is a plain select or a grouped one
pub query_to : (limits : Limits) (levels : ℕ) → Into (query limits levels) (plain limits levels or grouped limits levels)
unfolding plain grouped
query_to limits levels value terminals rest (_, a, selected, (found, b, inl (_, c, star, (is, same)), behind)) =
    inl (tt, a, selected, (Items.Star, b, inl (tt, c, star, (refl, same)), star_to limits levels value b rest (subst (λ f. after_items limits levels f value b rest) is behind)))
query_to limits levels value terminals rest (_, a, selected, (found, b, inr (values, c, text, (is, same)), behind)) =
    by (listed_to limits levels values value b rest (subst (λ f. after_items limits levels f value b rest) is behind))
  where
    by : (list_all is_column values ≡ true × after_plain limits levels (Items.Listed values) value b rest) ⊎ after_grouped limits levels (Items.Listed values) value b rest → (plain limits levels or grouped limits levels) value terminals rest
    by (inl (columns, more)) = inl (tt, a, selected, (Items.Listed values, b, inr (values, c, citems_from limits values a c columns text, (refl, same)), more))
    by (inr more) = inr (tt, a, selected, (values, b, subst (items (gitem limits) limits values a) same text, more))

pub query_from : (limits : Limits) (levels : ℕ) → Into (plain limits levels or grouped limits levels) (query limits levels)
unfolding plain grouped
query_from limits levels value terminals rest (inl (_, a, selected, (found, b, inl (_, c, star, (is, same)), behind))) =
    (tt, a, selected, (Items.Star, b, inl (tt, c, star, (refl, same)), star_from limits levels value b rest (subst (λ f. after_plain limits levels f value b rest) is behind)))
query_from limits levels value terminals rest (inl (_, a, selected, (found, b, inr (values, c, text, (is, same)), behind))) =
    let both_ways = citems_to limits values a c text in
    (tt, a, selected, (Items.Listed values, b, inr (values, c, both_ways.0, (refl, same)), plain_from limits levels values both_ways.1 value b rest (subst (λ f. after_plain limits levels f value b rest) is behind)))
query_from limits levels value terminals rest (inr (_, a, selected, (values, b, text, behind))) =
    (tt, a, selected, (Items.Listed values, b, inr (values, b, text, (refl, refl)), grouped_from limits levels values value b rest behind))
