use Rattle.std.proofs.Common.{◌≡◌, ◌++◌, IsTrue, length, take, subst, sym, ◌∙◌, ap, arith, length-append}
use Rattle.outer_world.proofs.DiskSteps.{ok_end}
use Rattle.outer_world.proofs.Moments.{begun, goes_on}
use Rattle.outer_world.specs.Overwritten.{overwritten}
use Rattle.outer_world.specs.OtherArea.{other_of, bytes_in}
use Rattle.commit_journal.specs.AreaCalls.{OnlyIn, IsFront}
use Rattle.commit_journal.proofs.FirstByte.{written_at_end, torn_front, front_then}
use Rattle.commit_journal.proofs.Steps.{made, left_in, synced_in, left_step, left_steps, left_synced, only_in_less, beside_stays, stays_then}
use Rattle.commit_journal.proofs.area_calls.write_behind_first.Goals as goal

pub returns-clause-made : goal.returns-clause-made
returns-clause-made g c =
    let D = g.D.Disk in
    let old = c.args.disk.now in
    let area = c.args.area in
    ok_end c.sync.result _ _ c.sync.ensures.durable (λ durable honest.
    let honest_1 : IsTrue (D.honest c.write_at.new.self) = subst IsTrue (sym c.write_at.ensures.honesty) honest in
    let honest_2 : IsTrue (D.honest c.write_at-2.new.self) = subst IsTrue (sym c.write_at-2.ensures.honesty) honest_1 in
    let one : length (D.holds old area) ≡ 1 = c.requires.within honest in
    let first : D.holds c.write_at.new.self area ≡ D.holds old area ++ c.args.header.now =
    c.in_ok-write_at.ensures.written honest ∙ written_at_end (D.holds old area) c.args.header.now 1 one in
    let long : length (D.holds old area ++ c.args.header.now) ≡ 17 = omega (arith, length-append (D.holds old area) c.args.header.now) in
    let second : D.holds c.write_at-2.new.self area ≡ D.holds old area ++ c.args.header.now ++ c.args.bytes.now =
    c.in_ok-write_at-2.ensures.written honest_1
    ∙ ap (λ l. overwritten l 17 c.args.bytes.now) first
    ∙ written_at_end (D.holds old area ++ c.args.header.now) c.args.bytes.now 17 long in
    made D.holds D.leaves old c.write_at-2.new.self c.sync.new.self area _ (c.requires.synced honest) second
    (stays_then D.holds D.leaves old c.write_at.new.self c.write_at-2.new.self (other_of area)
    (beside_stays D.holds D.leaves old c.write_at.new.self area (c.write_at.ensures.beside honest))
    (beside_stays D.holds D.leaves c.write_at.new.self c.write_at-2.new.self area (c.write_at-2.ensures.beside honest_1)))
    (c.sync.ensures.same_a honest_2) (c.sync.ensures.same_b honest_2) (durable honest_2))

pub returns-clause-moments : goal.returns-clause-moments
returns-clause-moments g c honest =
    let D = g.D.Disk in
    let only_now = g.met.D.Disk.only_now in
    let old = c.args.disk.now in
    let one = c.write_at.new.self in
    let two = c.write_at-2.new.self in
    let new = c.sync.new.self in
    let area = c.args.area in
    let stood = D.holds old area in
    let apart = D.holds old (other_of area) in
    let P = OnlyIn area (IsFront 1 stood) apart in
    let honest_1 : IsTrue (D.honest one) = subst IsTrue (sym c.write_at.ensures.honesty) honest in
    let honest_2 : IsTrue (D.honest two) = subst IsTrue (sym c.write_at-2.ensures.honesty) honest_1 in
    let synced = c.requires.synced honest in
    let torn_1 = c.write_at.ensures.torn honest in
    let torn_2 = c.write_at-2.ensures.torn honest_1 in
    let beside_1 = c.write_at.ensures.beside honest in
    let beside_2 = c.write_at-2.ensures.beside honest_1 in
    let start = begun D.leaves D.moment D.might_have_left only_now old P (λ a b in_a in_b. record {
      here = ap (take 1) ((synced_in D.holds D.leaves old area synced).only (bytes_in area a b) (left_in D.holds D.leaves old area a b in_a in_b));
      stays = (synced_in D.holds D.leaves old (other_of area) synced).only (bytes_in (other_of area) a b) (left_in D.holds D.leaves old (other_of area) a b in_a in_b);
    }) in
    let first = goes_on D.leaves D.moment D.might_have_left only_now old old one P start c.write_at.ensures.time (λ a b in_a in_b.
    only_in_less area _ _ apart a b (λ bytes torn. torn_front 1 _ stood bytes (omega arith) torn)
    (left_step D.holds D.leaves old one area _ synced torn_1 beside_1 a b in_a in_b)) in
    let after_two = left_steps D.holds D.leaves old one two area _ _ (IsFront 1) synced
    (λ before middle after t_1 t_2. front_then before middle after (torn_front 1 _ before middle (omega arith) t_1) (torn_front 17 _ middle after (omega arith) t_2))
    torn_1 beside_1 torn_2 beside_2 in
    let second = goes_on D.leaves D.moment D.might_have_left only_now old one two P first c.write_at-2.ensures.time after_two in
    goes_on D.leaves D.moment D.might_have_left only_now old two new P second c.sync.ensures.time
    (left_synced D.holds D.leaves two new (c.sync.ensures.same_a honest_2) (c.sync.ensures.same_b honest_2) P after_two)
