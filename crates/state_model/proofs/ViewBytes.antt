-- The bytes of a canonical CREATE VIEW.
use Rattle.std.proofs.Common.{◌≤◌, ℕ, ◌+◌, List, [], ◌∷◌, ◌++◌, inl, inr, arith}
use Rattle.std.specs.Prelude.{Bool, true, false, Option, codes}
use Rattle.own_model.specs.declared.select.ColRef.{ColRef}
use Rattle.own_model.specs.declared.select.Item.{Item}
use Rattle.own_model.specs.declared.select.Items.TheVariants as lists
use Rattle.text_model.specs.Canonical.{item_words, items_words, join_words, select_words, statement_words, view_words, what_words, where_words}
use Rattle.text_model.specs.Words.{Words, column_words, listed, others, word, words_of}
use Rattle.grammar_model.specs.Grammar as rules
use Rattle.grammar_model.specs.Grammar.{item_after}
use Rattle.grammar_model.specs.Language as languages
use Rattle.grammar_model.specs.Language.{Language, one, ◌>>=◌, ◌>>◌, ◌or◌, pure, optional, whether}
use Rattle.grammar_model.specs.Limits.{Limits, fits}
use Rattle.grammar_model.specs.Terminal.{Terminal}
use Rattle.grammar_model.specs.Values.{SlotIs}
use Rattle.state_model.proofs.ConditionBytes.{condition}
use Rattle.state_model.proofs.CreateBytes.{a_name}
use Rattle.state_model.proofs.ListBytes.{Spells, behind, flag, many, perhaps}
use Rattle.state_model.proofs.TokenBytes.{bytes-append, bytes-bracketed, bytes_of, col, keyword, mark, name, one-covers, word_bytes}

-- ---- items

column : (limits : Limits) → Spells what_words (rules.column limits)
unfolding what_words
column limits found terminals rest (value, middle, by, last) = rw (last.0, ← last.1) (col limits value terminals middle by)

count : (limits : Limits) → Spells what_words (rules.count limits)
unfolding what_words
count limits found terminals rest (_, a, called, (_, b, opens, (_, c, star, (_, d, closes, last)))) =
    let first = name limits (codes "count") terminals a called in
    let second = mark (codes "(") tt a b opens in
    let third = mark (codes "*") tt b c star in
    let fourth = mark (codes ")") tt c d closes in
    rw (last.0, ← last.1) (omega arith)

sum : (limits : Limits) → Spells what_words (rules.sum limits)
unfolding what_words
sum limits found terminals rest (_, a, called, (_, b, opens, (value, c, by, (_, d, closes, last)))) =
    let first = name limits (codes "sum") terminals a called in
    let second = mark (codes "(") tt a b opens in
    let third = col limits value b c by in
    let fourth = mark (codes ")") tt c d closes in
    let all = bytes-bracketed (column_words value) in
    rw (last.0, ← last.1) (omega arith)

abbrev alias_words : Option (List ℕ) → Words
alias_words = words_of (λ alias. codes "AS" ∷ alias ∷ [])

alias : (limits : Limits) → Spells alias_words (rules.alias limits)
unfolding rules.alias
alias limits = perhaps (λ alias. codes "AS" ∷ alias ∷ []) (languages.word (codes "AS") >> rules.name limits) (behind word (codes "AS") (languages.word (codes "AS")) (keyword (codes "AS")) (rules.name limits) (a_name limits))

citem : (limits : Limits) → Spells item_words (rules.citem limits)
unfolding rules.citem item_words
citem limits found terminals rest (value, a, by, (called, b, alias_by, last)) =
    let first = column limits value terminals a by in
    let second = alias limits called a b alias_by in
    let apart = bytes-append (what_words value) (alias_words called) in
    rw (last.0, ← last.1) (omega arith)

any_what : (limits : Limits) → Spells what_words (rules.column limits or (rules.count limits or rules.sum limits))
any_what limits found terminals rest (inl by) = column limits found terminals rest by
any_what limits found terminals rest (inr (inl by)) = count limits found terminals rest by
any_what limits found terminals rest (inr (inr by)) = sum limits found terminals rest by

gitem : (limits : Limits) → Spells item_words (rules.gitem limits)
unfolding rules.gitem item_words
gitem limits found terminals rest (value, a, by, (called, b, alias_by, last)) =
    let first = any_what limits value terminals a by in
    let second = alias limits called a b alias_by in
    let apart = bytes-append (what_words value) (alias_words called) in
    rw (last.0, ← last.1) (omega arith)

-- a slot counts as a column without a name
slot_long : (found : Item) (terminal : Terminal) → SlotIs found terminal → bytes_of (item_words found) ≤ word_bytes terminal
unfolding item_words what_words column_words
slot_long found terminal is = rw (is.is, is.value) (omega arith)

slot : Spells item_words (one SlotIs)
slot = one-covers (λ found. bytes_of (item_words found)) SlotIs slot_long

either : (passes : Bool) (item : Language Item) → Spells item_words item → Spells item_words (whether passes item (one SlotIs))
either true item spells found terminals rest by = spells found terminals rest by
either false item spells found terminals rest by = slot found terminals rest by

after : (item : Language Item) (limits : Limits) → Spells item_words item → (before : ℕ) → Spells item_words (item_after item limits before)
after item limits spells before = either (fits limits.items (before + 1)) item spells

items : (item : Language Item) (limits : Limits) → Spells item_words item → Spells (listed item_words) (rules.items item limits)
unfolding rules.items
items item limits spells found terminals rest (first, a, by, (more, b, many_by, last)) =
    let own = after item limits spells 0 first terminals a by in
    let later = many (λ part. codes "," ∷ item_words part) (λ count. languages.mark (codes ",") >> item_after item limits count)
    (λ count. behind item_words (codes ",") (languages.mark (codes ",")) (mark (codes ",")) (item_after item limits count) (after item limits spells count)) more 1 a b many_by in
    let apart = bytes-append (item_words first) (others (codes ",") item_words more) in
    rw (last.0, ← last.1) (omega arith)

-- ---- selects

join : (limits : Limits) → Spells join_words (rules.join limits)
unfolding rules.join join_words
join limits found terminals rest (_, a, inner, (_, b, joins, (table, c, named, (_, d, on, (left, e, left_by, (_, f, equals, (right, g, right_by, last))))))) =
    let first = flag (codes "INNER") _ terminals a inner in
    let second = keyword (codes "JOIN") tt a b joins in
    let third = name limits table b c named in
    let fourth = keyword (codes "ON") tt c d on in
    let fifth = col limits left d e left_by in
    let sixth = mark (codes "=") tt e f equals in
    let seventh = col limits right f g right_by in
    let apart = bytes-append (column_words left) (codes "=" ∷ column_words right) in
    rw (last.0, ← last.1) (omega arith)

-- what a plain select lists
listing : (limits : Limits) → Spells items_words ((languages.mark (codes "*") >> pure lists.Star) or (rules.items (rules.citem limits) limits >>= λ listed. pure (lists.Listed listed)))
unfolding items_words
listing limits found terminals rest (inl (_, middle, by, last)) = let own = mark (codes "*") tt terminals middle by in rw (last.0, ← last.1) (omega arith)
listing limits found terminals rest (inr (value, middle, by, last)) = rw (last.0, ← last.1) (items (rules.citem limits) limits (citem limits) value terminals middle by)

abbrev group_words : Option ColRef → Words
group_words = words_of (λ column. codes "GROUP" ∷ codes "BY" ∷ column_words column)

plain : (limits : Limits) (levels : ℕ) → Spells select_words (rules.plain limits levels)
unfolding rules.plain select_words
plain limits levels found terminals rest (_, a, select, (listed, b, list_by, (_, c, from, (table, d, named, (joined, e, join_by, (cond, f, cond_by, last)))))) =
    let first = keyword (codes "SELECT") tt terminals a select in
    let second = listing limits listed a b list_by in
    let third = keyword (codes "FROM") tt b c from in
    let fourth = name limits table c d named in
    let fifth = perhaps join_words (rules.join limits) (join limits) joined d e join_by in
    let sixth = condition limits levels cond e f cond_by in
    let one = bytes-append (items_words listed) (codes "FROM" ∷ table ∷ (words_of join_words joined ++ (where_words cond ++ ([] ++ [])))) in
    let two = bytes-append (words_of join_words joined) (where_words cond ++ ([] ++ [])) in
    let three = bytes-append (where_words cond) ([] ++ []) in
    rw (last.0, ← last.1) (omega arith)

group_by : (limits : Limits) → Spells (λ column. codes "GROUP" ∷ codes "BY" ∷ column_words column) (languages.word (codes "GROUP") >> languages.word (codes "BY") >> rules.col limits)
group_by limits found terminals rest (_, a, (_, b, group, by), column) =
    let first = keyword (codes "GROUP") tt terminals b group in
    let second = keyword (codes "BY") tt b a by in
    let third = col limits found a rest column in
    omega arith

grouped : (limits : Limits) (levels : ℕ) → Spells select_words (rules.grouped limits levels)
unfolding rules.grouped select_words items_words
grouped limits levels found terminals rest (_, a, select, (listed, b, list_by, (_, c, from, (table, d, named, (cond, e, cond_by, (group, f, group_on, last)))))) =
    let first = keyword (codes "SELECT") tt terminals a select in
    let second = items (rules.gitem limits) limits (gitem limits) listed a b list_by in
    let third = keyword (codes "FROM") tt b c from in
    let fourth = name limits table c d named in
    let fifth = condition limits levels cond d e cond_by in
    let sixth = perhaps (λ column. codes "GROUP" ∷ codes "BY" ∷ column_words column) _ (group_by limits) group e f group_on in
    let one = bytes-append (items_words (lists.Listed listed)) (codes "FROM" ∷ table ∷ ([] ++ (where_words cond ++ (group_words group ++ [])))) in
    let two = bytes-append (where_words cond) (group_words group ++ []) in
    let three = bytes-append (group_words group) [] in
    rw (last.0, ← last.1) (omega arith)

either_select : (limits : Limits) (levels : ℕ) → Spells select_words (rules.plain limits levels or rules.grouped limits levels)
either_select limits levels found terminals rest (inl by) = plain limits levels found terminals rest by
either_select limits levels found terminals rest (inr by) = grouped limits levels found terminals rest by

-- a whole CREATE VIEW
pub view : (limits : Limits) (levels : ℕ) → Spells statement_words (rules.view limits levels)
unfolding rules.view statement_words view_words
view limits levels found terminals rest (_, a, create, (_, b, view_by, (called, c, named, (_, d, naming, (select, e, by, last))))) =
    let first = keyword (codes "CREATE") tt terminals a create in
    let second = keyword (codes "VIEW") tt a b view_by in
    let third = name limits called b c named in
    let fourth = keyword (codes "AS") tt c d naming in
    let fifth = either_select limits levels select d e by in
    rw (last.0, ← last.1) (omega arith)
