use Rattle.std.proofs.Common.{◌≡◌, ap, ◌∙◌, slice_get, arith}
use Rattle.std.proofs.lemmas.Grind.{common_steps}
use Rattle.std.proofs.lemmas.Option.{gets}
use Rattle.std.specs.Option.{option_copied, option_map}
use Rattle.own_base.specs.declared.number.TableNo.{TableNo}
use Rattle.schema_draft.proofs.Targets.{find-found, find-absent}
use Rattle.schema_draft.proofs.named_table.table_named.Goals as goal

pub returns-in-Some : goal.returns-in-Some
returns-in-Some c =
    let got : option_copied c.get.result ≡ slice_get c.args.schema.now.tables c.in-Some.number.0 = grind (arith, common_steps, gets) in
    got ∙ find-found c.args.schema.now.tables c.args.name.now c.in-Some.number.0 (ap (option_map (λ number. number.0)) c.in-Some.ensures ∙ c.requires.table c.args.name.now)

pub returns-in-None : goal.returns-in-None
returns-in-None c =
    find-absent c.args.schema.now.tables c.args.name.now (ap (option_map {T = TableNo} (λ number. number.0)) c.in-None.ensures ∙ c.requires.table c.args.name.now)
