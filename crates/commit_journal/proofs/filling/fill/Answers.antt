use Rattle.std.proofs.Common.{◌≡◌, [], ◌∷◌, ◌++◌, IsTrue, get_or, inl, ap, subst, sym, ◌∙◌}
use Rattle.outer_world.proofs.Moments.{then, weaker}
use Rattle.outer_world.specs.OtherArea.{other_of}
use Rattle.outer_world.specs.Torn.{Torn}
use Rattle.disk_model.specs.Area.{laid}
use Rattle.commit_journal.specs.AreaCalls.{OnlyIn}
use Rattle.commit_journal.specs.Filled.{IsFilling}
use Rattle.commit_journal.proofs.AreaBytes.{filling_gate, shut_front}
use Rattle.commit_journal.proofs.Steps.{only_in_less}
use Rattle.commit_journal.proofs.filling.fill.Goals as goal

-- while its gate is shut the area isn't opened, and behind an open gate stands all of it
pub returns-clause-moments : goal.returns-clause-moments
returns-clause-moments g c honest =
    let D = g.D.Disk in
    let only_now = g.met.D.Disk.only_now in
    let old = c.args.disk.now in
    let one = c.write_behind_first.new.disk in
    let new = c.write_synced.new.disk in
    let area = c.args.area in
    let apart = D.holds old (other_of area) in
    let stored = laid c.args.epoch c.args.gated.now in
    let P = OnlyIn area (IsFilling stored) apart in
    let honest_1 : IsTrue (D.honest one) = subst IsTrue (sym c.write_behind_first.ensures.honesty) honest in
    let gate : D.holds old area ≡ 0 ∷ [] = c.requires.gate honest in
    let made = c.in_ok-write_behind_first.ensures.made honest in
    let laid_out : D.holds one area ≡ (0 ∷ []) ++ c.header_of-header.result ++ c.args.gated.now =
    made.here ∙ ap (λ l. l ++ c.header_of-header.result ++ c.args.gated.now) gate in
    let first = weaker D.leaves D.moment D.might_have_left only_now old one _ P
    (λ a b. only_in_less area _ _ apart a b (λ bytes front. inl (shut_front (D.holds old area) bytes (ap (λ l. get_or l 0 0) gate) front)))
    (c.write_behind_first.ensures.moments honest) in
    let second = weaker D.leaves D.moment D.might_have_left only_now one new _ P
    (λ a b only. only_in_less area _ _ apart a b
    (λ bytes torn. filling_gate c.args.epoch c.args.gated.now c.requires.gated c.requires.first c.requires.last c.requires.room c.header_of-header.result c.header_of-header.ensures (D.holds one area) bytes laid_out torn)
    (subst (λ beside. OnlyIn area (Torn 0 1 (D.holds one area)) beside a b) made.beside only))
    (c.write_synced.ensures.moments honest_1) in
    then D.leaves D.moment D.might_have_left only_now old one new P first second
