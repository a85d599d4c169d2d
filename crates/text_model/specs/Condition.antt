-- The canonical text of a condition.
use Rattle.std.specs.Prelude.{ℕ, List, [], ◌∷◌, ◌++◌, codes, if◌then◌else◌}
use Rattle.own_model.specs.declared.condition.Cmp.{Cmp}
use Rattle.own_model.specs.declared.condition.Cmp.TheVariants.{Eq, Ne, Lt, Le, Gt, Ge}
use Rattle.own_model.specs.declared.condition.Cond.{Cond}
use Rattle.own_model.specs.declared.condition.Cond.TheOpen.{Cond-F}
use Rattle.own_model.specs.declared.condition.Cond.TheFolds.{fold-Cond}
use Rattle.own_model.specs.declared.condition.Operand.{Operand}
use Rattle.own_model.specs.declared.condition.Operand.TheVariants.{Column, Literal}
use Rattle.text_model.specs.Words.{Words, bracketed, column_words, literal_word, separated, word}

-- a comparison's sign
unfoldable pub cmp_word : Cmp → List ℕ
cmp_word Eq = codes "="
cmp_word Ne = codes "<>"
cmp_word Lt = codes "<"
cmp_word Le = codes "<="
cmp_word Gt = codes ">"
cmp_word Ge = codes ">="

-- the right side of a comparison
unfoldable pub operand_words : Operand → Words
operand_words (Column column) = column_words column
operand_words (Literal value) = word (literal_word value)

-- what a condition is as a part of another: an AND list, an OR list, or neither
pub data Shape : Type 0 where
  Single : Shape
  AndList : Shape
  OrList : Shape

-- the words of a condition, and what it is
pub record Written : Type 0 where
  pub words : Words
  pub shape : Shape

-- an OR or AND list stands in brackets in an AND list and after NOT
abbrev pub in_and : Written → Words
in_and part = by part.shape
  where
    by : Shape → Words
    by Single = part.words
    by AndList = bracketed part.words
    by OrList = bracketed part.words

-- an OR list stands in brackets in an OR list
abbrev pub in_or : Written → Words
in_or part = by part.shape
  where
    by : Shape → Words
    by Single = part.words
    by AndList = part.words
    by OrList = bracketed part.words

-- one condition, with its parts as they are written
abbrev pub written_step : Cond-F Written → Written
written_step (Cond-F.Every parts) = record { words = separated (codes "AND") in_and parts; shape = AndList }
written_step (Cond-F.Some1 parts) = record { words = separated (codes "OR") in_or parts; shape = OrList }
written_step (Cond-F.Not part) = record { words = codes "NOT" ∷ in_and part; shape = Single }
written_step (Cond-F.Compare left sign right) = record { words = column_words left ++ cmp_word sign ∷ operand_words right; shape = Single }
written_step (Cond-F.IsNull column negated) =
    record { words = column_words column ++ codes "IS" ∷ ((if negated then codes "NOT" ∷ [] else []) ++ codes "NULL" ∷ []); shape = Single }

-- a condition as it is written
unfoldable pub written : Cond → Written
written = fold-Cond Written written_step

abbrev pub cond_words : Cond → Words
cond_words cond = (written cond).words
