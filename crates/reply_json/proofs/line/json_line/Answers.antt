use Rattle.std.proofs.Common.{option_map}
use Rattle.reply_json.proofs.Floats.{reply-has_float}
use Rattle.reply_json.proofs.line.json_line.Goals as goal

pub line_of-requires : goal.line_of-requires
line_of-requires c =
    let told = c.args.told.now in
    rw c.in_ok-json.ensures (reply-has_float (option_map (λ place. place.0) told.place) told.session.0 told.call told.line told.columns.now told.tables.now c.args.reply.now)
