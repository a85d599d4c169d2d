use Rattle.std.proofs.Common.{subst, sym}
use Rattle.disk_model.specs.declared.commit.Commit.TheVariants.{Changes}
use Rattle.rec_codec.specs.Encodable.{IsEncodable}
use Rattle.commit_record.proofs.NetFollows.{net-changes, net-countable, net-short, records-net}
use Rattle.commit_record.proofs.record.record_of_changes.Goals as goal

pub encode-requires : goal.encode-requires
encode-requires c =
    let before = c.requires.before in
    let after = c.requires.after in
    let changes = c.args.changes.now in
    subst (λ puts. IsEncodable (Changes puts)) (sym c.in_ok-puts.ensures)
    (net-countable before after changes c.requires.is, net-changes before after changes c.requires.is, net-short before after changes c.requires.is)

pub returns : goal.returns
returns c before after is = records-net before after c.args.changes.now c.in_ok-puts.puts c.encode.result c.in_ok-puts.ensures c.encode.ensures is
