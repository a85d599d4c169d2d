-- What is lent of a CREATE TABLE, as the records that say it.
use Rattle.std.specs.Prelude.{Bool}
use Rattle.schema_draft.specs.declared.draft.Effect.{Effect as LentEffect}
use Rattle.schema_draft.specs.declared.draft.Effect.TheVariants as lent
use Rattle.schema_draft.specs.declared.draft.OnRule.{OnRule as LentRule}
use Rattle.schema_draft.specs.declared.draft.Reference.{Reference as LentReference}
use Rattle.schema_model.specs.OnRules.{Effect, Hide, Blank, Strike, OnRule, is_blank, is_get, is_strike}
use Rattle.schema_model.specs.References.{Reference}

-- a reference
abbrev pub reference_seen : LentReference → Reference
reference_seen found = record { column = found.column.now; refers = found.refers.now }

-- what a rule does
abbrev pub effect_seen : LentEffect → Effect
effect_seen lent.Hide = Hide
effect_seen lent.Blank = Blank
effect_seen lent.Strike = Strike

-- the test for an effect
abbrev pub is_effect : LentEffect → Effect → Bool
is_effect lent.Hide = is_get
is_effect lent.Blank = is_blank
is_effect lent.Strike = is_strike

-- a rule
abbrev pub rule_seen : LentRule → OnRule
rule_seen found = record { column = found.column.now; effect = effect_seen found.effect; ruled = found.ruled.now }
