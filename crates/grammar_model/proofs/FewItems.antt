-- The items of a select: above their limit only a slot is one, and no slot stands in a text.
use Rattle.std.proofs.Common.{◌≡◌, ◌≤◌, ℕ, ◌+◌, List, [], ◌∷◌, length, map, inl, inr, refl, sym, subst, arith}
use Rattle.std.specs.Prelude.{Bool, true, false, nat_le, codes}
use Rattle.std.specs.List.{AllByRecursion}
use Rattle.std.proofs.lemmas.Bool.{leb-true}
use Rattle.own_model.specs.declared.create.CreateView.{CreateView}
use Rattle.own_model.specs.declared.limit.TheConstants.{NESTING_LEVELS, SELECT_ITEMS, STATEMENT_BYTES}
use Rattle.own_model.specs.declared.request.Request.TheVariants.{Run}
use Rattle.own_model.specs.declared.select.Item.{Item}
use Rattle.own_model.specs.declared.select.Items.{Items}
use Rattle.own_model.specs.declared.select.Items.TheVariants.{Star, Listed}
use Rattle.own_model.specs.declared.select.Select.{Select}
use Rattle.own_model.specs.declared.statement.Statement.{Statement}
use Rattle.sql_lex.specs.declared.token.Token.{Token}
use Rattle.grammar_model.specs.Grammar as rules
use Rattle.grammar_model.specs.Grammar.{item_after}
use Rattle.grammar_model.specs.Language as languages
use Rattle.grammar_model.specs.Language.{Language, one, ◌>>=◌, ◌>>◌, ◌or◌, pure, optional, many_from, whether}
use Rattle.grammar_model.specs.Limits.{Limits, store_limits}
use Rattle.grammar_model.specs.Readable.{IsReadable, IsWritten}
use Rattle.grammar_model.specs.Terminal.{Terminal, Terminals, Written, Slot, terminal_of}
use Rattle.grammar_model.specs.Values.{SlotIs}
use Rattle.grammar_model.proofs.OwnRule.{written-own}

-- a terminal that is no slot
abbrev IsNoSlot : Terminal → Type 0
IsNoSlot (Written kind bytes start) = Unit {0}
IsNoSlot Slot = ⊥

-- terminals without a slot, as those of a text
abbrev AreNoSlots : Terminals → Type 0
AreNoSlots terminals = AllByRecursion IsNoSlot terminals

tokens-no_slots : (tokens : List Token) → AreNoSlots (map terminal_of tokens)
tokens-no_slots [] = tt
tokens-no_slots (token ∷ tokens) = (tt, tokens-no_slots tokens)

-- the language leaves no slot of terminals that have none
abbrev Keeps : {A : Type 0} → Language A → Type 0
Keeps {A} language = (value : A) (terminals rest : Terminals) → language value terminals rest → AreNoSlots terminals → AreNoSlots rest

one-keeps : {A : Type 0} (means : A → Terminal → Type 0) → Keeps (one means)
one-keeps means value terminals rest by all = let stands : AreNoSlots (by.0 ∷ rest) = subst AreNoSlots by.1 all in stands.1

word-keeps : (wanted : List ℕ) → Keeps (languages.word wanted)
word-keeps wanted = one-keeps _

mark-keeps : (wanted : List ℕ) → Keeps (languages.mark wanted)
mark-keeps wanted = one-keeps _

pure-keeps : {A : Type 0} (found : A) → Keeps (pure found)
pure-keeps found value terminals rest by all = subst AreNoSlots by.1 all

then-keeps : {A B : Type 0} (first : Language A) (next : A → Language B) → Keeps first → ((found : A) → Keeps (next found)) → Keeps (first >>= next)
then-keeps first next one other value terminals rest by all = other by.0 value by.1 rest by.3 (one by.0 terminals by.1 by.2 all)

or-keeps : {A : Type 0} (first second : Language A) → Keeps first → Keeps second → Keeps (first or second)
or-keeps first second one other value terminals rest (inl by) all = one value terminals rest by all
or-keeps first second one other value terminals rest (inr by) all = other value terminals rest by all

optional-keeps : {A : Type 0} (language : Language A) → Keeps language → Keeps (optional language)
optional-keeps language one = or-keeps _ _ (then-keeps _ _ one (λ _. pure-keeps _)) (pure-keeps _)

-- the rules of items
name-keeps : (limits : Limits) → Keeps (rules.name limits)
unfolding rules.name
name-keeps limits = one-keeps _

col-keeps : (limits : Limits) → Keeps (rules.col limits)
unfolding rules.col rules.col_after
col-keeps limits =
    then-keeps _ _ (name-keeps limits) (λ _. then-keeps _ _ (optional-keeps _ (then-keeps _ _ (one-keeps _) (λ _. name-keeps limits))) (λ _. pure-keeps _))

column-keeps : (limits : Limits) → Keeps (rules.column limits)
column-keeps limits = then-keeps _ _ (col-keeps limits) (λ _. pure-keeps _)

function-keeps : (limits : Limits) (called : List ℕ) → Keeps (rules.function limits called)
function-keeps limits called found = name-keeps limits called

count-keeps : (limits : Limits) → Keeps (rules.count limits)
count-keeps limits =
    then-keeps _ _ (function-keeps limits _) (λ _. then-keeps _ _ (one-keeps _) (λ _. then-keeps _ _ (one-keeps _) (λ _. then-keeps _ _ (one-keeps _) (λ _. pure-keeps _))))

sum-keeps : (limits : Limits) → Keeps (rules.sum limits)
sum-keeps limits =
    then-keeps _ _ (function-keeps limits _) (λ _. then-keeps _ _ (one-keeps _) (λ _. then-keeps _ _ (col-keeps limits) (λ _. then-keeps _ _ (one-keeps _) (λ _. pure-keeps _))))

alias-keeps : (limits : Limits) → Keeps (rules.alias limits)
unfolding rules.alias
alias-keeps limits = optional-keeps _ (then-keeps _ _ (one-keeps _) (λ _. name-keeps limits))

citem-keeps : (limits : Limits) → Keeps (rules.citem limits)
unfolding rules.citem
citem-keeps limits = then-keeps _ _ (column-keeps limits) (λ _. then-keeps _ _ (alias-keeps limits) (λ _. pure-keeps _))

gitem-keeps : (limits : Limits) → Keeps (rules.gitem limits)
unfolding rules.gitem
gitem-keeps limits =
    then-keeps _ _ (or-keeps _ _ (column-keeps limits) (or-keeps _ _ (count-keeps limits) (sum-keeps limits))) (λ _. then-keeps _ _ (alias-keeps limits) (λ _. pure-keeps _))

-- an item that is no slot is within the limit
item_step : (item : Language Item) (count : ℕ) (value : Item) (terminals rest : Terminals) (within : Bool) → nat_le (count + 1) SELECT_ITEMS ≡ within
    → whether within item (one SlotIs) value terminals rest → AreNoSlots terminals → (count + 1 ≤ SELECT_ITEMS) × item value terminals rest
item_step item count value terminals rest true is by all = (leb-true (count + 1) SELECT_ITEMS is, by)
item_step item count value terminals rest false is (terminal, starts, slot) all =
    let stands : AreNoSlots (terminal ∷ rest) = subst AreNoSlots starts all in
    absurd (subst IsNoSlot slot.is stands.0)

item-within : (item : Language Item) (count : ℕ) (value : Item) (terminals rest : Terminals) → item_after item store_limits count value terminals rest
    → AreNoSlots terminals → (count + 1 ≤ SELECT_ITEMS) × item value terminals rest
item-within item count value terminals rest by all = item_step item count value terminals rest (nat_le (count + 1) SELECT_ITEMS) refl by all

-- so a list of items, counted one after another, is within the limit
others-within : (item : Language Item) → Keeps item → (values : List Item) (before : ℕ) (terminals rest : Terminals) → before ≤ SELECT_ITEMS
    → many_from (λ count. languages.mark (codes ",") >> item_after item store_limits count) before values terminals rest
    → AreNoSlots terminals → before + length values ≤ SELECT_ITEMS
others-within item keeps [] before terminals rest few by all = omega arith
others-within item keeps (value ∷ values) before terminals rest few (middle, (sign, start, comma, found), more) all =
    let after_comma = mark-keeps (codes ",") sign terminals start comma all in
    let own = item-within item before value start middle found after_comma in
    let kept = keeps value start middle own.1 after_comma in
    let others = others-within item keeps values (before + 1) middle rest own.0 more kept in
    omega arith

items-within : (item : Language Item) → Keeps item → (values : List Item) (terminals rest : Terminals) → rules.items item store_limits values terminals rest
    → AreNoSlots terminals → length values ≤ SELECT_ITEMS
unfolding rules.items
items-within item keeps values terminals rest (first, middle, by, (others, end, more, last)) all =
    let own = item-within item 0 first terminals middle by all in
    let within = others-within item keeps others 1 middle end own.0 more (keeps first terminals middle own.1 all) in
    rw last.0 (omega arith)

-- what is listed is within the limit
abbrev AreFew : Items → Type 0
AreFew Star = Unit {0}
AreFew (Listed items) = length items ≤ SELECT_ITEMS

starred-few : (items : Items) (terminals rest : Terminals)
    → ((languages.mark (codes "*") >> pure Star) or (rules.items (rules.citem store_limits) store_limits >>= λ listed. pure (Listed listed))) items terminals rest
    → AreNoSlots terminals → AreFew items
starred-few items terminals rest (inl by) all = subst AreFew (sym by.3.0) tt
starred-few items terminals rest (inr by) all = subst AreFew (sym by.3.0) (items-within _ (citem-keeps store_limits) by.0 terminals by.1 by.2 all)

plain-few : (levels : ℕ) (select : Select) (terminals rest : Terminals) → rules.plain store_limits levels select terminals rest → AreNoSlots terminals
    → AreFew select.items
unfolding rules.plain
plain-few levels select terminals rest (sign, start, first, (found, middle, shown, (_, _, _, (_, _, _, (_, _, _, (_, _, _, last)))))) all =
    subst (λ (same : Select). AreFew same.items) (sym last.0) (starred-few found start middle shown (word-keeps (codes "SELECT") sign terminals start first all))

grouped-few : (levels : ℕ) (select : Select) (terminals rest : Terminals) → rules.grouped store_limits levels select terminals rest → AreNoSlots terminals
    → AreFew select.items
unfolding rules.grouped
grouped-few levels select terminals rest (sign, start, first, (found, middle, shown, (_, _, _, (_, _, _, (_, _, _, (_, _, _, last)))))) all =
    let within = items-within _ (gitem-keeps store_limits) found start middle shown (word-keeps (codes "SELECT") sign terminals start first all) in
    subst (λ (same : Select). AreFew same.items) (sym last.0) within

either-few : (levels : ℕ) (select : Select) (terminals rest : Terminals) → (rules.plain store_limits levels or rules.grouped store_limits levels) select terminals rest
    → AreNoSlots terminals → AreFew select.items
either-few levels select terminals rest (inl by) all = plain-few levels select terminals rest by all
either-few levels select terminals rest (inr by) all = grouped-few levels select terminals rest by all

select-few : (levels : ℕ) (select : Select) (terminals rest : Terminals) → rules.select store_limits levels select terminals rest → AreNoSlots terminals
    → AreFew select.items
unfolding rules.select
select-few levels select terminals rest (found, middle, by, (_, _, _, last)) all =
    subst (λ (same : Select). AreFew same.items) (sym last.0) (either-few levels found terminals middle by all)

view-few : (levels : ℕ) (view : CreateView) (terminals rest : Terminals) → rules.view store_limits levels (Statement.CreateView view) terminals rest → AreNoSlots terminals
    → AreFew view.select.items
unfolding rules.view
view-few levels view terminals rest (one, a, create, (two, b, word, (called, c, named, (three, d, leads, (select, e, by, last))))) all =
    let after_create = word-keeps (codes "CREATE") one terminals a create all in
    let after_word = word-keeps (codes "VIEW") two a b word after_create in
    let after_name = name-keeps store_limits called b c named after_word in
    let after_as = word-keeps (codes "AS") three c d leads after_name in
    subst (λ (same : CreateView). AreFew same.select.items) (sym (same view _ last.0)) (either-few levels select d e by after_as)
  where
    same : (one other : CreateView) → Statement.CreateView one ≡ Statement.CreateView other → one ≡ other
    same one other is = cc

-- a select that can stand in a history lists no more items than it may
pub few_items : (select : Select) (items : List Item) → IsReadable (Run (Statement.Select select)) → select.items ≡ Listed items → length items ≤ SELECT_ITEMS
few_items select items is lists =
    let own = written-own store_limits NESTING_LEVELS (Statement.Select select) is.terminals is.spells in
    let few = select-few NESTING_LEVELS own.0 is.terminals own.1 own.2 (subst AreNoSlots (sym is.cut.2) (tokens-no_slots is.cut.0)) in
    subst AreFew lists (subst (λ (same : Select). AreFew same.items) (sym (same select own.0 own.3.0)) few)
  where
    same : (one other : Select) → Statement.Select one ≡ Statement.Select other → one ≡ other
    same one other is = cc

-- nor does the select of a CREATE VIEW, however long its text may be
pub few_written_items : (most : ℕ) (view : CreateView) (items : List Item) → IsWritten most (Statement.CreateView view) → view.select.items ≡ Listed items
    → length items ≤ SELECT_ITEMS
few_written_items most view items is lists =
    let own = written-own store_limits NESTING_LEVELS (Statement.CreateView view) is.terminals is.spells in
    subst AreFew lists (view-few NESTING_LEVELS view is.terminals [] own (subst AreNoSlots (sym is.cut.2) (tokens-no_slots is.cut.0)))

-- so neither does the one of a CREATE VIEW that can stand in a history
pub few_view_items : (view : CreateView) (items : List Item) → IsReadable (Run (Statement.CreateView view)) → view.select.items ≡ Listed items
    → length items ≤ SELECT_ITEMS
few_view_items = few_written_items STATEMENT_BYTES
