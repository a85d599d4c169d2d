use Rattle.std.proofs.Common.{◌≡◌, ◌∙◌, ◌+◌, length, ap, arith}
use Rattle.store_disk.proofs.Opened.{few-commits, opened-at, opened-kept, opened-store}
use Rattle.store_disk.proofs.opening.open_disk.Goals as goal

pub returns-clause-kept : goal.returns-clause-kept
returns-clause-kept g c honest =
    let D = g.D.Disk in
    let opened = c.in_ok-journal.field-0 in
    let of = c.in_ok-journal.ensures.opened honest in
    let few = few-commits D.holds D.leaves c.args.disk opened of in
    let most = c.items.type_inv in
    let same = ap (λ commits. length commits) c.items.ensures in
    let told = c.new.ensures.commits ∙ c.saturating_add-count.ensures in
    let count : c.new.result.commits ≡ opened.image.commits + length opened.commits = omega arith in
    rw (c.new.ensures.journal, count) (opened-kept D.holds D.leaves c.args.disk opened of)

pub returns-clause-store : goal.returns-clause-store
returns-clause-store g c honest =
    let D = g.D.Disk in
    let opened = c.in_ok-journal.field-0 in
    let of = c.in_ok-journal.ensures.opened honest in
    let few = few-commits D.holds D.leaves c.args.disk opened of in
    let most = c.items.type_inv in
    let same = ap (λ commits. length commits) c.items.ensures in
    let told = c.new.ensures.commits ∙ c.saturating_add-count.ensures in
    let count : c.new.result.commits ≡ opened.image.commits + length opened.commits = omega arith in
    rw count (opened-store D.holds D.leaves c.args.disk opened of)

pub returns-clause-start : goal.returns-clause-start
returns-clause-start g c honest =
    let D = g.D.Disk in
    rw c.new.ensures.journal (opened-at D.holds D.leaves c.args.disk c.in_ok-journal.field-0 (c.in_ok-journal.ensures.opened honest))
