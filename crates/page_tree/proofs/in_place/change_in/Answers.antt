use Rattle.page_tree.proofs.WithinLemmas.{whole, whole_made}
use Rattle.page_tree.proofs.in_place.change_in.Goals as goal

-- The page to which hints led.
pub returns-then-change_alone : goal.returns-then-change_alone
returns-then-change_alone g c =
    whole (g.By.KeyOf.key_of c.args.by) g.met.By.KeyOf.total g.C.ChangeOf.changed g.C.ChangeOf.put c.args.node.now.value.pages c.change_alone.new.node.value.pages c.args.change.now _ c.if-change_alone.ensures c.requires.pages c.requires.rising c.requires.keyed

-- The page that was found by steps that are checked.
pub returns : goal.returns
returns g c =
    whole_made (g.By.KeyOf.key_of c.args.by) g.met.By.KeyOf.total g.C.ChangeOf.changed g.C.ChangeOf.put c.change_alone-2.result c.args.node.now.value.pages c.change_alone.new.node.value.pages c.change_alone-2.new.node.value.pages c.args.change.now _
    c.change_alone-2.ensures c.if-change_alone.ensures c.requires.pages c.requires.rising c.requires.keyed
