-- What is written of a reply.
use Rattle.std.specs.Prelude.{ℕ, List, [], ◌∷◌, ◌++◌, Bool, true, false, take, Option, Result, Ok, Err}
use Rattle.std.specs.Io.KnownBytes.{Appends}
use Rattle.serde_json.specs.Written.{compact_text}
use Rattle.own_model.specs.declared.reply.Reply.{Reply}
use Rattle.own_model.specs.declared.reply.Reply.TheVariants.{Refused}
use Rattle.text_model.specs.Lines.{reply_lines}
use Rattle.reply_json.specs.Line.{reply_data}
use Rattle.reply_json.specs.declared.columns.TableNames.{TableNames}
use Rattle.shell_session.specs.declared.ending.ShellFault.{ShellFault}
use Rattle.shell_session.specs.declared.ending.ShellFault.TheVariants as fault
use Rattle.shell_session.specs.declared.manner.Form.{Form}
use Rattle.shell_session.specs.declared.manner.Form.TheVariants.{Lines, Json}

-- The text of a reply: the lines that a script's call is told, or a line of JSON, with the line of the input and the names of
-- columns.
abbrev pub told_text : Form → Option ℕ → ℕ → ℕ → ℕ → List (List ℕ) → List TableNames → Reply → List ℕ
told_text Lines place session number line columns tables reply = reply_lines place session number reply
told_text Json place session number line columns tables reply = compact_text (reply_data place session number line columns tables reply) ++ 10 ∷ []

-- Known bytes grew by a text: whole, also where it was a refusal that ends the shell; after a fault of the sink by so many of its
-- first bytes; where memory was refused by nothing.
abbrev pub HasWritten : {T : Type 0} → Result T ShellFault → Option (List ℕ) → Option (List ℕ) → List ℕ → Type 0
HasWritten (Ok _) old new text = Appends old new text
HasWritten (Err fault.Refused) old new text = Appends old new text
HasWritten (Err fault.Write) old new text = (count : ℕ) × Appends old new (take count text)
HasWritten (Err fault.Memory) old new text = Appends old new []
HasWritten (Err fault.Read) old new text = ⊥
HasWritten (Err fault.Disk) old new text = ⊥
HasWritten (Err (fault.Damaged area offset)) old new text = ⊥
HasWritten (Err (fault.Input why)) old new text = ⊥

-- whether a reply is a refusal
abbrev pub is_refused : Reply → Bool
is_refused (Refused why) = true
is_refused reply = false
