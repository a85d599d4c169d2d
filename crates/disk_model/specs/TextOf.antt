-- Creates, and the texts by which they are kept.
use Rattle.std.specs.Prelude.{◌≡◌, IsUtf8, List, [], ◌∷◌}
use Rattle.own_model.specs.declared.schema.CreateText.{CreateText}
use Rattle.grammar_model.specs.Answer.{IsAnswer, GivesStatement}
use Rattle.state_model.specs.Created.{Create, statement_of, text_of}
use Rattle.disk_model.specs.Bounds.{IsCountable}

-- the canonical text of this CREATE in UTF-8, which is read as it, and whose length a number of 32 bits tells
pub record IsTextOf (create : Create) (text : CreateText) : Type 0 where
  pub few : IsCountable text.text
  pub utf8 : IsUtf8 text.text
  pub read : IsAnswer text.text (GivesStatement (statement_of create))
  pub canonical : text ≡ text_of create

-- one text for each, in order
abbrev pub AreTextsOf : List Create → List CreateText → Type 0
AreTextsOf [] [] = Unit {0}
AreTextsOf [] (text ∷ texts) = ⊥
AreTextsOf (create ∷ creates) [] = ⊥
AreTextsOf (create ∷ creates) (text ∷ texts) = IsTextOf create text × AreTextsOf creates texts
