use Rattle.std.proofs.Common.{◌≡◌, inl, map, refl, string_bytes, arith}
use Rattle.std.specs.Prelude.{None}
use Rattle.std.proofs.lemmas.List.{length-map}
use Rattle.store_main.specs.Words.{served_mode}
use Rattle.store_main.proofs.Ends.{few_serve_none, over-usage}
use Rattle.store_main.proofs.serving.serve.Goals as goal

-- the words are too few
pub returns-in_default-clause-usage : goal.returns-in_default-clause-usage
returns-in_default-clause-usage g c is =
    let long = length-map c.args.words.now string_bytes in
    rw (few_serve_none (map string_bytes c.args.words.now) (omega (arith, long, c.in_default.len_below))) refl

pub returns-in_default-clause-ran : goal.returns-in_default-clause-ran
returns-in_default-clause-ran g c =
    let source = g.R.Source in
    let sink = g.W.Sink in
    let long = length-map c.args.words.now string_bytes in
    let none = few_serve_none (map string_bytes c.args.words.now) (omega (arith, long, c.in_default.len_below)) in
    rw (c.usage.ensures, none) (inl (over-usage source.remaining source.faults source.fails sink.written sink.faults sink.fails _ c.args.source.now c.args.sink.now))
