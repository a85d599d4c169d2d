use Rattle.std.proofs.Common.{◌≡◌, ◌+◌, ◌-◌, ◌++◌, ◌≤◌, ℕ, IsTrue, List, length, take, drop, refl, sym, ap, ap₂, subst, ◌∙◌, arith, length-take-le, take-add, take-take}
use Rattle.std.proofs.Math.Seq.{take-append-add}
use Rattle.std.proofs.lemmas.Slice.{take-put_mid}
use Rattle.commit_journal.proofs.Steps.{stays_in}
use Rattle.crash_recover.proofs.Undisturbed.{one_more}
use Rattle.crash_recover.proofs.reading.fill.Goals as goal
use borrow.Rule.Slice.PartMut.{put_mid, same_len_mid}

-- the front that was filled, and behind it the first bytes that this turn put there
front_filled : (filled room : ℕ) (bytes put : List ℕ) (count : ℕ) → filled ≤ length bytes → count ≤ length put → take (filled + count) (put_mid filled room bytes put) ≡ take filled bytes ++ take count put
front_filled filled room bytes put count within few =
    let long : length (take filled bytes) ≡ filled = length-take-le filled bytes within in
    sym (take-take (filled + count) (filled + length put) (put_mid filled room bytes put) (omega arith))
    ∙ ap (take (filled + count)) (take-put_mid filled room bytes put (filled + length put) refl within)
    ∙ ap (λ (n : ℕ). take (n + count) (take filled bytes ++ put)) (sym long)
    ∙ take-append-add (take filled bytes) put count

pub loop-filled-preserved : goal.loop-filled-preserved
loop-filled-preserved g c =
    let D = g.D.Disk in
    let before = c.loop-filled.invariant in
    let turn = c.in_ok-count.ensures in
    let filled = c.loop-filled.filled in
    let count = c.in_ok-count.count in
    let bytes = c.loop-filled.bytes in
    let put = c.read_at.new.into in
    let old = c.args.disk.now in
    let area = c.args.area in
    let same_len = same_len_mid filled (length bytes - filled) bytes put c.read_at.auto.into in
    record {
      within = omega (arith, same_len, turn.within, c.read_at.auto.into);
      long = same_len ∙ before.long;
      given = λ honest.
          let still = subst IsTrue (sym before.honesty) honest in
          let kept = before.kept honest in
          front_filled filled (length bytes - filled) bytes put count before.within turn.within
          ∙ ap₂ ◌++◌ (before.given honest) (turn.given still ∙ ap (λ l. take count (drop filled l)) (stays_in D.holds D.leaves old c.loop-filled.disk area kept.a kept.b).same)
          ∙ sym (take-add filled count (D.holds old area));
      kept = λ honest.
          let still = subst IsTrue (sym before.honesty) honest in
          one_more D.holds D.leaves D.moment D.might_have_left g.met.D.Disk.only_now old c.loop-filled.disk c.read_at.new.self (before.kept honest) (turn.same_a still) (turn.same_b still) turn.time;
      honesty = turn.honesty ∙ before.honesty;
      time = omega (arith, before.time, turn.time.later);
      steady = turn.steady ∙ before.steady;
    }
