use Rattle.std.proofs.Common.{◌≤◌, arith}
use Rattle.own_model.specs.declared.limit.TheConstants.{PAYLOAD_BYTES}
use Rattle.rec_codec.specs.Framed.{payload_length}
use Rattle.rec_codec.proofs.FramedCommits.{is_framed, one_behind_another}
use Rattle.rec_codec.proofs.ShortPayloads.{bounded}
use Rattle.rec_codec.proofs.encoding.encode.Goals as goal

pub write_payload-requires : goal.write_payload-requires
write_payload-requires c =
    let few : payload_length c.args.commit.now ≤ PAYLOAD_BYTES = omega (arith, c.payload_length-length.ensures) in
    bounded c.args.commit.now c.requires few

pub returns : goal.returns
returns c =
    let few : payload_length c.args.commit.now ≤ PAYLOAD_BYTES = omega (arith, c.payload_length-length.ensures) in
    is_framed c.args.commit.now c.from_vec.result (bounded c.args.commit.now c.requires few) c.in_ok-write_payload.ensures.typed few
    (one_behind_another c.args.commit.now c.payload_length-length.result c.in_ok-out.out.items c.write_u32.new.out.items c.write_payload.new.out.items c.push.new.self.items c.from_vec.result
    c.payload_length-length.ensures c.in_ok-out.ensures.items c.in_ok-write_u32.ensures c.in_ok-write_payload.ensures.written c.in_ok-push.ensures.items c.from_vec.ensures)
