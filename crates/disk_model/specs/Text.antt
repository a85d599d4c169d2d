-- Texts as bytes.
use Rattle.std.specs.Prelude.{◌≡◌, ℕ, ◌≤◌, List, ◌++◌, length, IsUtf8}
use Rattle.own_model.specs.declared.limit.TheConstants.{TEXT_BYTES}
use Rattle.disk_model.specs.Number.{Format, IsNumber}

-- four bytes for the length, and that many bytes, which are the UTF-8 of a text
abbrev pub IsText : Format (List ℕ)
IsText text bytes rest = (middle : List ℕ) × IsNumber 4 (length text) bytes middle × IsUtf8 text × (middle ≡ text ++ rest)

-- a text that may be a value
abbrev pub IsShortText : Format (List ℕ)
IsShortText text bytes rest = (length text ≤ TEXT_BYTES) × IsText text bytes rest
