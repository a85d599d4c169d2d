-- The parts of a CREATE TABLE: there are no more of them than bytes in the text.
use Rattle.std.proofs.Common.{◌≤◌, ℕ, ◌≡◌, [], length, arith}
use Rattle.own_model.specs.declared.create.CreateTable.{CreateTable}
use Rattle.own_model.specs.declared.limit.TheConstants.{NESTING_LEVELS, STATEMENT_BYTES}
use Rattle.own_model.specs.declared.request.Request.TheVariants.{Run}
use Rattle.own_model.specs.declared.statement.Statement.{Statement}
use Rattle.grammar_model.specs.Grammar as rules
use Rattle.grammar_model.specs.Language.{many}
use Rattle.grammar_model.specs.Limits.{Limits, store_limits}
use Rattle.grammar_model.specs.Readable.{IsReadable}
use Rattle.grammar_model.specs.Terminal.{Terminals}
use Rattle.grammar_model.proofs.ListLengths.{list-takes}
use Rattle.grammar_model.proofs.OwnRule.{written-own}
use Rattle.grammar_model.proofs.Shrinking.{Shrinks, one-shrinks, pure-shrinks, then-shrinks, or-shrinks, many-shrinks, word-shrinks, words-shrinks, name-shrinks, in_brackets-shrinks, names-shrinks}
use Rattle.grammar_model.proofs.TextBytes.{written, written-less, written-short}

-- the rules below those of parts
ref_kind-shrinks : Shrinks rules.ref_kind
unfolding rules.ref_kind
ref_kind-shrinks =
    or-shrinks _ _ (then-shrinks _ _ (word-shrinks _ _ (or-shrinks _ _ (then-shrinks _ _ (one-shrinks _) (λ _. pure-shrinks _)) (pure-shrinks _))) (λ _. pure-shrinks _))
    (or-shrinks _ _ (word-shrinks _ _ (pure-shrinks _))
    (or-shrinks _ _ (word-shrinks _ _ (pure-shrinks _))
    (or-shrinks _ _ (word-shrinks _ _ (pure-shrinks _)) (word-shrinks _ _ (pure-shrinks _)))))

refers-shrinks : (limits : Limits) → Shrinks (rules.refers limits)
unfolding rules.refers
refers-shrinks limits =
    then-shrinks _ _ ref_kind-shrinks (λ _. then-shrinks _ _ (name-shrinks limits) (λ _. then-shrinks _ _ (in_brackets-shrinks limits) (λ _. pure-shrinks _)))

attr-shrinks : (limits : Limits) → Shrinks (rules.attr limits)
unfolding rules.attr
attr-shrinks limits =
    or-shrinks _ _ (words-shrinks _ _ _ (pure-shrinks _))
    (or-shrinks _ _ (words-shrinks _ _ _ (pure-shrinks _))
    (or-shrinks _ _ (word-shrinks _ _ (pure-shrinks _)) (then-shrinks _ _ (refers-shrinks limits) (λ _. pure-shrinks _))))

kind-shrinks : Shrinks rules.kind
unfolding rules.kind
kind-shrinks = or-shrinks _ _ (word-shrinks _ _ (pure-shrinks _)) (word-shrinks _ _ (pure-shrinks _))

-- the rules of parts
column_part-shrinks : (limits : Limits) → Shrinks (rules.column_part limits)
unfolding rules.column_part
column_part-shrinks limits =
    then-shrinks _ _ (name-shrinks limits) (λ _. then-shrinks _ _ kind-shrinks (λ _. then-shrinks _ _ attrs (λ _. pure-shrinks _)))
  where
    attrs : Shrinks (many (rules.attr limits))
    attrs values = many-shrinks _ (attr-shrinks limits) values 0

foreign_part-shrinks : (limits : Limits) → Shrinks (rules.foreign_part limits)
unfolding rules.foreign_part
foreign_part-shrinks limits =
    word-shrinks _ _ (word-shrinks _ _ (then-shrinks _ _ (in_brackets-shrinks limits) (λ _. then-shrinks _ _ (refers-shrinks limits) (λ _. pure-shrinks _))))

get_part-shrinks : (limits : Limits) → Shrinks (rules.get_part limits)
unfolding rules.get_part
get_part-shrinks limits =
    word-shrinks _ _ (then-shrinks _ _ (name-shrinks limits) (λ _. word-shrinks _ _ (then-shrinks _ _ (names-shrinks limits) (λ _. pure-shrinks _))))

del_part-shrinks : (limits : Limits) → Shrinks (rules.del_part limits)
unfolding rules.del_part
del_part-shrinks limits =
    word-shrinks _ _ (then-shrinks _ _ (name-shrinks limits) (λ _.
    or-shrinks _ _ (then-shrinks _ _ (word-shrinks _ _ (names-shrinks limits)) (λ _. pure-shrinks _)) (word-shrinks _ _ (pure-shrinks _))))

part-shrinks : (limits : Limits) → Shrinks (rules.part limits)
unfolding rules.part
part-shrinks limits =
    or-shrinks _ _ (column_part-shrinks limits)
    (or-shrinks _ _ (then-shrinks _ _ (words-shrinks _ _ _ (in_brackets-shrinks limits)) (λ _. pure-shrinks _))
    (or-shrinks _ _ (then-shrinks _ _ (word-shrinks _ _ (in_brackets-shrinks limits)) (λ _. pure-shrinks _))
    (or-shrinks _ _ (foreign_part-shrinks limits)
    (word-shrinks _ _ (or-shrinks _ _ (get_part-shrinks limits) (del_part-shrinks limits))))))

-- a CREATE TABLE has no more parts than its terminals have bytes
create-takes : (limits : Limits) (create : CreateTable) (terminals rest : Terminals) → rules.create limits (Statement.CreateTable create) terminals rest
    → length create.parts ≤ written terminals
unfolding rules.create
create-takes limits create terminals rest (_, a, first, (subject, b, marked, (_, c, second, (called, d, named, (parts, e, brackets, last))))) =
    let one = written-less first.1 in
    let two = or-shrinks _ _ (then-shrinks _ _ (one-shrinks _) (λ _. pure-shrinks _)) (pure-shrinks _) subject a b marked in
    let three = written-less second.1 in
    let four = name-shrinks limits called c d named in
    let five = list-takes _ (part-shrinks limits) parts d e brackets in
    rw (same create _ last.0) (omega arith)
  where
    same : (one other : CreateTable) → Statement.CreateTable one ≡ Statement.CreateTable other → one ≡ other
    same one other is = cc

-- so a CREATE TABLE's terminals have at least a byte for each part
statement-takes : (limits : Limits) (levels : ℕ) (create : CreateTable) (terminals : Terminals)
    → rules.statement limits levels (Statement.CreateTable create) terminals [] → length create.parts ≤ written terminals
statement-takes limits levels create terminals by = create-takes limits create terminals [] (written-own limits levels (Statement.CreateTable create) terminals by)

-- a CREATE TABLE that can stand in a history has no more parts than a statement may have bytes
pub few_parts : (create : CreateTable) → IsReadable (Run (Statement.CreateTable create)) → length create.parts ≤ STATEMENT_BYTES
few_parts create is =
    let parts = statement-takes store_limits NESTING_LEVELS create is.terminals is.spells in
    let short = written-short (Statement.CreateTable create) is in
    omega arith
