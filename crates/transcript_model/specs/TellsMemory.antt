-- Whether a text tells at a place of the history that memory was refused.
use Rattle.std.specs.Prelude.{◌≡◌, ℕ, List, ◌++◌, Some}
use Rattle.own_model.specs.declared.refusal.Refusal.TheVariants.{Memory}
use Rattle.own_model.specs.declared.reply.Reply.TheVariants.{Refused}
use Rattle.text_model.specs.Lines.{reply_lines}

-- the line of a call that has a place and is told as `memory` stands in the text
pub record TellsMemory (text : List ℕ) : Type 0 where
  pub before : List ℕ
  pub place : ℕ
  pub session : ℕ
  pub call : ℕ
  pub after : List ℕ
  pub is : text ≡ before ++ (reply_lines (Some place) session call (Refused Memory) ++ after)
