-- The rule of a statement: whatever the grammar gives, the rule of its own kind gives.
use Rattle.std.proofs.Common.{◌≡◌, ℕ, [], inl, inr, ap, sym, subst}
use Rattle.own_model.specs.declared.statement.Statement.{Statement}
use Rattle.own_model.specs.declared.statement.Statement.TheVariants as kinds
use Rattle.grammar_model.specs.Grammar as rules
use Rattle.grammar_model.specs.Language.{Language, ◌>>=◌, pure}
use Rattle.grammar_model.specs.Limits.{Limits}
use Rattle.grammar_model.specs.Terminal.{Terminals}

-- the rule of a statement's kind
abbrev pub own_rule : Limits → ℕ → Statement → Language Statement
own_rule limits levels (kinds.CreateTable create) = rules.create limits
own_rule limits levels (kinds.CreateView create) = rules.view limits levels
own_rule limits levels (kinds.Select select) = rules.select limits levels >>= λ found. pure (kinds.Select found)
own_rule limits levels (kinds.Insert table columns rows) = rules.insert limits
own_rule limits levels (kinds.Update table sets cond) = rules.update limits levels
own_rule limits levels (kinds.Delete table cond) = rules.delete limits levels
own_rule limits levels kinds.Begin = rules.control
own_rule limits levels kinds.Commit = rules.control
own_rule limits levels kinds.Rollback = rules.control
own_rule limits levels kinds.Checkpoint = rules.control
own_rule limits levels kinds.Explain = rules.control
own_rule limits levels (kinds.GdprGet table key) = rules.gdpr limits
own_rule limits levels (kinds.GdprForget table key) = rules.gdpr limits

-- what a rule gives is of a kind whose rule it is
abbrev IsOwn : Limits → ℕ → Language Statement → Type 1
IsOwn limits levels rule = (value : Statement) (terminals rest : Terminals) → rule value terminals rest → own_rule limits levels value ≡ rule

create-own : (limits : Limits) (levels : ℕ) → IsOwn limits levels (rules.create limits)
unfolding rules.create
create-own limits levels value terminals rest by = ap (own_rule limits levels) by.3.3.3.3.3.0

view-own : (limits : Limits) (levels : ℕ) → IsOwn limits levels (rules.view limits levels)
unfolding rules.view
view-own limits levels value terminals rest by = ap (own_rule limits levels) by.3.3.3.3.3.0

select-own : (limits : Limits) (levels : ℕ) → IsOwn limits levels (rules.select limits levels >>= λ found. pure (kinds.Select found))
select-own limits levels value terminals rest by = ap (own_rule limits levels) by.3.0

insert-own : (limits : Limits) (levels : ℕ) → IsOwn limits levels (rules.insert limits)
unfolding rules.insert
insert-own limits levels value terminals rest by = ap (own_rule limits levels) by.3.3.3.3.3.3.0

update-own : (limits : Limits) (levels : ℕ) → IsOwn limits levels (rules.update limits levels)
unfolding rules.update
update-own limits levels value terminals rest by = ap (own_rule limits levels) by.3.3.3.3.3.0

delete-own : (limits : Limits) (levels : ℕ) → IsOwn limits levels (rules.delete limits levels)
unfolding rules.delete
delete-own limits levels value terminals rest by = ap (own_rule limits levels) by.3.3.3.3.0

control-own : (limits : Limits) (levels : ℕ) → IsOwn limits levels rules.control
unfolding rules.control
control-own limits levels value terminals rest (inl by) = ap (own_rule limits levels) by.3.0
control-own limits levels value terminals rest (inr (inl by)) = ap (own_rule limits levels) by.3.0
control-own limits levels value terminals rest (inr (inr (inl by))) = ap (own_rule limits levels) by.3.0
control-own limits levels value terminals rest (inr (inr (inr (inl (_, _, _, inl by))))) = ap (own_rule limits levels) by.3.0
control-own limits levels value terminals rest (inr (inr (inr (inl (_, _, _, inr (inl by)))))) = ap (own_rule limits levels) by.3.0
control-own limits levels value terminals rest (inr (inr (inr (inl (_, _, _, inr (inr by)))))) = ap (own_rule limits levels) by.3.0
control-own limits levels value terminals rest (inr (inr (inr (inr (inl by))))) = ap (own_rule limits levels) by.3.0
control-own limits levels value terminals rest (inr (inr (inr (inr (inr by))))) = ap (own_rule limits levels) by.3.0

gdpr-own : (limits : Limits) (levels : ℕ) → IsOwn limits levels (rules.gdpr limits)
unfolding rules.gdpr
gdpr-own limits levels value terminals rest (_, _, _, inl by) = ap (own_rule limits levels) by.3.3.3.0
gdpr-own limits levels value terminals rest (_, _, _, inr by) = ap (own_rule limits levels) by.3.3.3.0

-- a statement is written by the rule of its kind
taken : (limits : Limits) (levels : ℕ) (rule : Language Statement) → IsOwn limits levels rule
    → (value : Statement) (terminals : Terminals) → rule value terminals [] → own_rule limits levels value value terminals []
taken limits levels rule own value terminals by =
    subst (λ (language : Language Statement). language value terminals []) (sym (own value terminals [] by)) by

pub written-own : (limits : Limits) (levels : ℕ) (value : Statement) (terminals : Terminals) → rules.statement limits levels value terminals []
    → own_rule limits levels value value terminals []
unfolding rules.statement
written-own limits levels value terminals (inl by) = taken limits levels _ (create-own limits levels) value terminals by
written-own limits levels value terminals (inr (inl by)) = taken limits levels _ (view-own limits levels) value terminals by
written-own limits levels value terminals (inr (inr (inl by))) = taken limits levels _ (select-own limits levels) value terminals by
written-own limits levels value terminals (inr (inr (inr (inl by)))) = taken limits levels _ (insert-own limits levels) value terminals by
written-own limits levels value terminals (inr (inr (inr (inr (inl by))))) = taken limits levels _ (update-own limits levels) value terminals by
written-own limits levels value terminals (inr (inr (inr (inr (inr (inl by)))))) = taken limits levels _ (delete-own limits levels) value terminals by
written-own limits levels value terminals (inr (inr (inr (inr (inr (inr (inl by))))))) = taken limits levels _ (control-own limits levels) value terminals by
written-own limits levels value terminals (inr (inr (inr (inr (inr (inr (inr by))))))) = taken limits levels _ (gdpr-own limits levels) value terminals by
