use Rattle.std.proofs.Common.{◌≡◌, ap, ◌∙◌, get_or, unwrap_or}
use Rattle.std.proofs.lemmas.Option.{unwrap_or-slice_get}
use Rattle.own_base.specs.Key.{key_cmp}
use Rattle.own_base.specs.declared.value.Value.TheVariants.{Null}
use Rattle.own_model.specs.Db.{as_key, key_of}
use Rattle.row_reading.proofs.keys.compare_key_to.Goals as goal

-- a row without the column counts as 0
pub returns-in-None : goal.returns-in-None
unfolding key_of
returns-in-None c =
    let row = c.args.row.now in
    let column = c.args.definition.now.key.0 in
    let absent : Null ≡ get_or row column Null = ap (λ found. unwrap_or found Null) c.in-None.ensures ∙ unwrap_or-slice_get row column Null in
    c.compare_number_to.ensures ∙ ap (λ value. key_cmp (as_key value) (as_key c.args.value.now)) absent
