use Rattle.std.proofs.Common.{◌<◌, length, drop, sym, ap, ◌∙◌, arith}
use Rattle.std.proofs.lemmas.List.{take_rest}
use Rattle.std.specs.Prelude.{◌&&◌}
use Rattle.std.specs.Char.{to_ascii_lowercase}
use Rattle.std.specs.List.{list_all}
use Rattle.own_base.specs.Name.{begins_name, continues_name}
use Rattle.sql_reader.proofs.Literals.{is_spelled-lowered}
use Rattle.sql_reader.proofs.literal.is_spelled_lowered.Goals as goal

pub returns-then-begins_name : goal.returns-then-begins_name
returns-then-begins_name c =
    let name = c.args.name.now in
    let some : 0 < length name = grind arith in
    let all = list_all (λ byte. continues_name (to_ascii_lowercase byte)) in
    c.all_continue_lowered.ensures ∙ ap all (take_rest name 1)
    ∙ sym (is_spelled-lowered name some ∙ ap (λ b. b && all (drop 1 name)) (ap begins_name (sym c.to_ascii_lowercase.ensures.value) ∙ sym c.begins_name.ensures ∙ c.if-begins_name.true))
