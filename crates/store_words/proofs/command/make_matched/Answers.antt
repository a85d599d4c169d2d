use Rattle.std.proofs.Common.{◌≡◌, ◌∙◌, Some, None, ap, codes, option_map, sym}
use Rattle.clap.specs.Words.{first_of, found_of, rows_of}
use Rattle.clap.proofs.WalkLemmas.{first_value-rows}
use Rattle.store_words.proofs.command.make_matched.Goals as goal

pub returns-in_err-get_str : goal.returns-in_err-get_str
returns-in_err-get_str c =
    let people : first_of (codes "people") (rows_of (found_of c.args.words.now)) ≡ None =
    sym (first_value-rows (found_of c.args.words.now) (codes "people")) ∙ sym c.get_str.ensures ∙ ap (option_map (λ s. s.now)) c.in_err-get_str.was in
    rw people c.from_residual.ensures

pub returns-in_err-get_str-2 : goal.returns-in_err-get_str-2
returns-in_err-get_str-2 c =
    let people : first_of (codes "people") (rows_of (found_of c.args.words.now)) ≡ Some c.in_ok-get_str.field-0.now =
    sym (first_value-rows (found_of c.args.words.now) (codes "people")) ∙ sym c.get_str.ensures ∙ ap (option_map (λ s. s.now)) c.in_ok-get_str.was in
    let seed : first_of (codes "seed") (rows_of (found_of c.args.words.now)) ≡ None =
    sym (first_value-rows (found_of c.args.words.now) (codes "seed")) ∙ sym c.get_str-2.ensures ∙ ap (option_map (λ s. s.now)) c.in_err-get_str-2.was in
    rw (people, seed) c.from_residual-in_err-get_str-2.ensures

pub returns : goal.returns
returns c =
    let people : first_of (codes "people") (rows_of (found_of c.args.words.now)) ≡ Some c.in_ok-get_str.field-0.now =
    sym (first_value-rows (found_of c.args.words.now) (codes "people")) ∙ sym c.get_str.ensures ∙ ap (option_map (λ s. s.now)) c.in_ok-get_str.was in
    let seed : first_of (codes "seed") (rows_of (found_of c.args.words.now)) ≡ Some c.in_ok-get_str-2.field-0.now =
    sym (first_value-rows (found_of c.args.words.now) (codes "seed")) ∙ sym c.get_str-2.ensures ∙ ap (option_map (λ s. s.now)) c.in_ok-get_str-2.was in
    rw (people, seed) c.make_of.ensures
