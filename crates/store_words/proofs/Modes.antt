-- What a parse of the command says of the mode that the words are.
use Rattle.std.proofs.Common.{◌≡◌, ◌∙◌, ◌⊎◌, inl, inr, true, false, List, [], ap, sym, subst}
use Rattle.std.specs.Prelude.{None, ◌≢◌}
use Rattle.std.specs.List.{list_any}
use Rattle.clap.specs.Words.{App, HasMatchesOf, IsAmong, Text, fault_of, is_simple, is_simple_and_free, subcommand_of, subcommand_rows_of}
use Rattle.clap.specs.declared.error.kind.ErrorKind.{ErrorKind}
use Rattle.clap.specs.declared.error.kind.ErrorKind.TheVariants.{OutOfMemory}
use Rattle.clap.specs.declared.parser.matches.ArgMatches.{ArgMatches}
use Rattle.store_words.specs.Command.{begins_with_dash, command_app, mode_matched}
use Rattle.store_words.specs.Words.{mode_of}
use Rattle.store_words.proofs.ClapOnWords.{command_is_simple, command_is_simple_and_free, finds_modes, mode_or_none, only_modes, takes_modes}

-- matches are of the mode that the words are
pub mode_found : (app : App) (words : List Text) (m : ArgMatches) → app ≡ command_app → list_any begins_with_dash words ≡ false
    → (is_simple_and_free app ≡ true → fault_of app words ≡ []) → HasMatchesOf app words m → mode_matched (subcommand_rows_of m) ≡ mode_of words
mode_found app words m is plain fault matches =
    let passes : fault_of command_app words ≡ [] =
    ap (λ a. fault_of a words) (sym is) ∙ fault (ap is_simple_and_free is ∙ command_is_simple_and_free) in
    let rows : subcommand_rows_of m ≡ subcommand_of command_app words =
    (matches (ap is_simple is ∙ command_is_simple)).1 ∙ ap (λ a. subcommand_of a words) is in
    ap mode_matched rows ∙ finds_modes words (only_modes words plain passes) plain

-- where a parse fails for another cause than memory, the words are no mode's
pub no_mode_refused : (app : App) (words : List Text) (kind : ErrorKind) → app ≡ command_app → list_any begins_with_dash words ≡ false
    → (is_simple_and_free app ≡ true → (kind ≡ OutOfMemory) ⊎ IsAmong kind (fault_of app words)) → kind ≢ OutOfMemory → mode_of words ≡ None
no_mode_refused app words kind is plain fails other = elim (mode_or_none words) [
  | inl none ↦ none
  | inr of_a_mode ↦
      let passes : fault_of app words ≡ [] = ap (λ a. fault_of a words) is ∙ takes_modes words of_a_mode plain in
      elim (fails (ap is_simple_and_free is ∙ command_is_simple_and_free)) [
        | inl memory ↦ absurd (other memory)
        | inr among ↦ absurd (subst (λ kinds. IsAmong kind kinds) passes among)
      ]
]
