-- Parts of a condition.
use Rattle.std.specs.Prelude.{ℕ, List, Bool, true, false, codes}
use Rattle.text_model.specs.Condition.{Shape, Written, in_and, in_or}
use Rattle.text_model.specs.Condition.Shape.{Single, AndList, OrList}
use Rattle.text_model.specs.Words.{Words}
use Rattle.sql_print.specs.declared.condition.Within.{Within}
use Rattle.sql_print.specs.declared.condition.Within.TheVariants.{And, Or}

-- the word between two parts
abbrev pub separator_of : Within → List ℕ
separator_of And = codes "AND"
separator_of Or = codes "OR"

-- the words of a part
abbrev pub part_words : Within → Written → Words
part_words And part = in_and part
part_words Or part = in_or part

-- whether a part stands in brackets
abbrev pub has_brackets : Within → Shape → Bool
has_brackets And Single = false
has_brackets And AndList = true
has_brackets And OrList = true
has_brackets Or Single = false
has_brackets Or AndList = false
has_brackets Or OrList = true
