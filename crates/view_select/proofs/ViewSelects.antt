-- The select of a CREATE VIEW has no ORDER BY, and is grouped only over one table.
use Rattle.std.proofs.Common.{◌≡◌, ℕ, ◌+◌, List, [], ◌∷◌, inl, inr, refl, sym, ap, ◌∙◌, subst}
use Rattle.std.specs.Prelude.{◌||◌, ◌⊎◌, Bool, true, false, None, codes}
use Rattle.std.specs.List.{AllByRecursion, list_any}
use Rattle.own_model.specs.declared.create.CreateView.{CreateView}
use Rattle.own_model.specs.declared.limit.TheConstants.{NESTING_LEVELS}
use Rattle.own_model.specs.declared.select.Item.{Item}
use Rattle.own_model.specs.declared.select.Items.{Items}
use Rattle.own_model.specs.declared.select.Items.TheVariants.{Star, Listed}
use Rattle.own_model.specs.declared.select.Select.{Select}
use Rattle.own_model.specs.declared.select.What.{What}
use Rattle.own_model.specs.declared.select.What.TheVariants.{Column}
use Rattle.own_model.specs.declared.statement.Statement.{Statement}
use Rattle.grammar_model.specs.Grammar as rules
use Rattle.grammar_model.specs.Grammar.{item_after}
use Rattle.grammar_model.specs.Language as languages
use Rattle.grammar_model.specs.Language.{Language, one, ◌>>=◌, ◌>>◌, ◌or◌, pure, whether}
use Rattle.grammar_model.specs.Limits.{Limits, fits, store_limits}
use Rattle.grammar_model.specs.Readable.{IsWritten}
use Rattle.grammar_model.specs.Terminal.{Terminals}
use Rattle.grammar_model.specs.Values.{SlotIs}
use Rattle.grammar_model.proofs.Languages.{Gives, gives-bind, gives-many, gives-or, gives-own, gives-pure}
use Rattle.grammar_model.proofs.OwnRule.{written-own}
use Rattle.query_model.specs.SelectFaults.{counts_or_sums, is_grouped, listed_items}

-- no ORDER BY, and nothing counted where two tables are joined
abbrev pub IsOfView : Select → Type 0
IsOfView select = (select.order ≡ None) × ((is_grouped select ≡ false) ⊎ (select.join ≡ None))

-- an item that is a column
abbrev IsPlain : Item → Type 0
IsPlain item = counts_or_sums item ≡ false

abbrev IsPlainWhat : What → Type 0
IsPlainWhat what = (alias : _) → IsPlain (record { what = what; alias = alias })

abbrev ArePlain : Items → Type 0
ArePlain items = list_any counts_or_sums (listed_items items) ≡ false

column-plain : (limits : Limits) → Gives IsPlainWhat (rules.column limits)
column-plain limits = gives-bind IsPlainWhat _ _ (λ found. gives-pure IsPlainWhat (Column found) (λ alias. refl))

citem-plain : (limits : Limits) → Gives IsPlain (rules.citem limits)
unfolding rules.citem
citem-plain limits = gives-own IsPlainWhat IsPlain _ _ (column-plain limits) (λ found plain. gives-bind IsPlain _ _ (λ called. gives-pure IsPlain _ (plain called)))

-- a slot counts as one
within-plain : (within : Bool) (item : Language Item) → Gives IsPlain item → Gives IsPlain (whether within item (one SlotIs))
within-plain true item plain = plain
within-plain false item plain = λ value terminals rest by. subst IsPlain (sym by.2.value) refl

item-plain : (limits : Limits) (count : ℕ) → Gives IsPlain (item_after (rules.citem limits) limits count)
item-plain limits count = within-plain (fits limits.items (count + 1)) (rules.citem limits) (citem-plain limits)

items-plain : (limits : Limits) → Gives (AllByRecursion IsPlain) (rules.items (rules.citem limits) limits)
unfolding rules.items
items-plain limits =
    gives-own IsPlain (AllByRecursion IsPlain) _ _ (item-plain limits 0) (λ first plain. gives-own (AllByRecursion IsPlain) (AllByRecursion IsPlain) _ _
    (λ values terminals rest by. gives-many IsPlain _ (λ count. gives-bind IsPlain _ _ (λ _. item-plain limits count)) values 1 terminals rest by)
    (λ others all. gives-pure (AllByRecursion IsPlain) (first ∷ others) (plain, all)))

none-counted : (items : List Item) → AllByRecursion IsPlain items → list_any counts_or_sums items ≡ false
none-counted [] all = refl
none-counted (item ∷ items) all = ap (λ b. b || list_any counts_or_sums items) all.0 ∙ none-counted items all.1

shown-plain : (limits : Limits)
    → Gives ArePlain ((languages.mark (codes "*") >> pure Star) or (rules.items (rules.citem limits) limits >>= λ listed. pure (Listed listed)))
shown-plain limits =
    gives-or ArePlain _ _ (gives-bind ArePlain _ _ (λ _. gives-pure ArePlain Star refl))
    (gives-own (AllByRecursion IsPlain) ArePlain _ _ (items-plain limits) (λ listed all. gives-pure ArePlain (Listed listed) (none-counted listed all)))

plain-of_view : (limits : Limits) (levels : ℕ) → Gives IsOfView (rules.plain limits levels)
unfolding rules.plain
plain-of_view limits levels =
    gives-bind IsOfView _ _ (λ _. gives-own ArePlain IsOfView _ _ (shown-plain limits) (λ found plain. gives-bind IsOfView _ _ (λ _. gives-bind IsOfView _ _ (λ from.
    gives-bind IsOfView _ _ (λ joined. gives-bind IsOfView _ _ (λ cond. gives-pure IsOfView _ (refl, inl plain)))))))

grouped-of_view : (limits : Limits) (levels : ℕ) → Gives IsOfView (rules.grouped limits levels)
unfolding rules.grouped
grouped-of_view limits levels =
    gives-bind IsOfView _ _ (λ _. gives-bind IsOfView _ _ (λ found. gives-bind IsOfView _ _ (λ _. gives-bind IsOfView _ _ (λ from.
    gives-bind IsOfView _ _ (λ cond. gives-bind IsOfView _ _ (λ group. gives-pure IsOfView _ (refl, inr refl)))))))

view-of_view : (levels : ℕ) (view : CreateView) (terminals rest : Terminals) → rules.view store_limits levels (Statement.CreateView view) terminals rest → IsOfView view.select
unfolding rules.view
view-of_view levels view terminals rest (one, a, create, (two, b, word, (called, c, named, (three, d, leads, (select, e, by, last))))) =
    let either = gives-or IsOfView _ _ (plain-of_view store_limits levels) (grouped-of_view store_limits levels) in
    subst (λ (same : CreateView). IsOfView same.select) (sym (same view _ last.0)) (either select d e by)
  where
    same : (one other : CreateView) → Statement.CreateView one ≡ Statement.CreateView other → one ≡ other
    same one other is = cc

-- that of one that the grammar gives for some text
pub written_of_view : (most : ℕ) (view : CreateView) → IsWritten most (Statement.CreateView view) → IsOfView view.select
written_of_view most view written =
    view-of_view NESTING_LEVELS view written.terminals [] (written-own store_limits NESTING_LEVELS (Statement.CreateView view) written.terminals written.spells)
