use Rattle.std.proofs.Common.{◌≡◌, ◌≤◌, ◌-◌, IsTrue, length, take}
use Rattle.crash_recover.specs.Undisturbed.{IsUndisturbed}
use Rattle.crash_recover.proofs.reading.fill.Given as goal

-- the bytes so far are those of the area, and no call changed anything
abbrev pub invariant-loop-filled : goal.invariant-loop-filled
invariant-loop-filled g l =
    let D = g.D.Disk in
    let old = l.initial.disk in
    record {
      within : l.filled ≤ length l.bytes;
      long : length l.bytes ≡ length l.initial.bytes;
      given : IsTrue (D.honest old) → take l.filled l.bytes ≡ take l.filled (D.holds old l.area);
      kept : IsTrue (D.honest old) → IsUndisturbed D.holds D.leaves D.moment D.might_have_left old l.disk;
      honesty : D.honest l.disk ≡ D.honest old;
      time : D.moment old ≤ D.moment l.disk;
      steady : D.faults l.disk ≡ D.faults old;
    }

-- the bytes that are still wanted
abbrev pub decreases-loop-filled : goal.decreases-loop-filled
decreases-loop-filled g l = length l.initial.bytes - l.filled
