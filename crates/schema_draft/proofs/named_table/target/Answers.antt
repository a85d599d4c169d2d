use Rattle.std.proofs.Common.{◌≡◌, ap, ◌∙◌, ◌++◌, ◌∷◌, [], bytes_eq}
use Rattle.std.specs.List.{find}
use Rattle.std.specs.Option.{option_copied, option_or}
use Rattle.schema_draft.proofs.Targets.{find-more, option_map-or}
use Rattle.schema_draft.proofs.named_table.target.Goals as goal

pub returns : goal.returns
returns c =
    let name = c.args.refers.now.table in
    let tables = c.args.schema.now.tables in
    let found : option_copied c.or.result ≡ find (λ table. bytes_eq table.name name) (tables ++ c.args.table.now ∷ []) =
    ap option_copied c.or.ensures ∙ option_map-or (λ found. found.now) c.table_named.result c.if_named.result
    ∙ ap (option_or (option_copied c.table_named.result)) c.if_named.ensures
    ∙ find-more tables name c.args.table.now (option_copied c.table_named.result) c.table_named.ensures in
    record {
      found = found;
      target = λ create made. found ∙ ap (λ table. find (λ table. bytes_eq table.name name) (tables ++ table ∷ [])) made;
    }
