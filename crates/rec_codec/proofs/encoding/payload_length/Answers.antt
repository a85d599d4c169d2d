use Rattle.std.proofs.Common.{◌<◌, ◌+◌, ◌^◌, length, subst, arith, rules}
use Rattle.disk_model.specs.Spelling.{list_spelling, put_spelling}
use Rattle.rec_codec.specs.Encodable.{IsEncodable}
use Rattle.rec_codec.proofs.ShortPayloads.{short_changes}
use Rattle.rec_codec.proofs.encoding.payload_length.Goals as goal

pub byte_count-requires : goal.byte_count-requires
byte_count-requires c = let short = short_changes c.in-Changes.puts (subst IsEncodable c.in-Changes.is c.requires) in omega arith

pub overflow_add-result : goal.overflow_add-result
overflow_add-result c =
    let short : length (list_spelling put_spelling c.in-Changes.puts) < 2 ^ 63 = short_changes c.in-Changes.puts (subst IsEncodable c.in-Changes.is c.requires) in
    let fits : 1 + c.byte_count.result < 2 ^ 64 = omega (arith, c.byte_count.ensures) in
    search rules
