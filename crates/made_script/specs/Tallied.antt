-- What a tally stands for, and how large its counts may be.
use Rattle.std.specs.Prelude.{◌+◌, ◌*◌, ◌^◌, ◌≤◌}
use Rattle.made_model.specs.Summary.{Summary}
use Rattle.made_script.specs.declared.tally.Tally.TheInside.{Inside}

abbrev pub tallied : Inside → Summary
tallied tally = record {
  calls = tally.calls;
  refused = tally.refused;
  memory = tally.memory;
  got = tally.got;
  removed = tally.removed;
  changed = tally.changed;
  held = tally.held;
  sum = tally.sum;
}

-- each call adds at most so much to a count
pub record IsTally (tally : Inside) : Type 0 where
  pub refused : tally.refused + tally.memory ≤ tally.calls
  pub got : tally.got ≤ tally.calls * 2 ^ 64
  pub removed : tally.removed ≤ tally.calls * 2 ^ 32
  pub changed : tally.changed ≤ tally.calls * 2 ^ 32
