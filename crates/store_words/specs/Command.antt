-- The command whose subcommands are the modes, as clap's definitions speak of it.
use Rattle.std.specs.Prelude.{◌==◌, ℕ, Bool, true, false, List, [], ◌∷◌, Option, None, Some, codes, if◌then◌else◌, option_and_then}
use Rattle.std.specs.Str.{bytes_eq}
use Rattle.clap.specs.Words.{App, Row, Rule, Shape, Text, first_of}
use Rattle.clap.specs.Simple.{new_app, new_rule, new_shape, on_top, with_rule, with_subcommand}
use Rattle.store_words.specs.Words.{make_of}
use Rattle.store_words.specs.declared.words.Mode.{Mode}
use Rattle.store_words.specs.declared.words.Mode.TheVariants.{Serve, Step}

-- the first byte is `-`
abbrev pub begins_with_dash : List ℕ → Bool
begins_with_dash [] = false
begins_with_dash (byte ∷ bytes) = byte == 45

-- every word is an argument, the first one a subcommand, and there is no help or version
abbrev pub as_modes : Shape → Shape
as_modes top = record top {
  no_binary_name = true;
  disable_help_flag = true;
  disable_help_subcommand = true;
  disable_version_flag = true;
  subcommand_required = true;
}

-- one word, which has to be there
abbrev pub word_rule : Text → Rule
word_rule id = record (new_rule id) { required = true }

-- the subcommand with two words
abbrev pub make_app : App
make_app = with_rule (with_rule (new_app (codes "make")) (word_rule (codes "people"))) (word_rule (codes "seed"))

-- what clap reads of the command whose subcommands are the modes
abbrev pub command_app : App
command_app =
    with_subcommand (with_subcommand (with_subcommand (on_top as_modes (new_app (codes "subjectdb"))) (new_shape (codes "step"))) (new_shape (codes "serve"))) make_app.top

-- the mode `make` of the words that were read
abbrev pub make_matched : List Row → Option Mode
make_matched rows =
    option_and_then (λ people. option_and_then (λ seed. make_of people seed) (first_of (codes "seed") rows)) (first_of (codes "people") rows)

-- the mode of the subcommand with this name and these matches
abbrev pub mode_matched : Option (Text × List Row) → Option Mode
mode_matched None = None
mode_matched (Some found) =
    if bytes_eq found.0 (codes "step") then Some Step
    else (if bytes_eq found.0 (codes "serve") then Some Serve
    else (if bytes_eq found.0 (codes "make") then make_matched found.1 else None))
