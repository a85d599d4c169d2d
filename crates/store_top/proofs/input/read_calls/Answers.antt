use Rattle.std.proofs.Common.{arith, refl}
use Rattle.store_top.proofs.input.read_calls.Goals as goal

-- the input was read to its end, since it isn't too long
pub returns-in-Ok-calls_in_turn-clause-read : goal.returns-in-Ok-calls_in_turn-clause-read
returns-in-Ok-calls_in_turn-clause-read g c =
    let has = c.in-Ok-calls_in_turn.ensures.ok in (
      record {
        bytes = c.in-Ok.bytes.items;
        calls = c.in-Ok-calls_in_turn.calls.items;
        read = c.in-Ok.ensures.read;
        ends = c.in-Ok.ensures.end (omega (arith, has.lawful.text.short, c.in-Ok.bytes.ok));
        is_script = has;
      },
      refl,
    )
