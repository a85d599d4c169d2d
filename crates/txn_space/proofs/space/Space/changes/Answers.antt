use Rattle.std.proofs.Common.{◌≡◌, ◌<◌, ◌≤◌, ◌+◌, ◌++◌, length, drop, sym, ◌∙◌, ap, arith}
use Rattle.std.proofs.lemmas.Bool.Decides.{nat_tests}
use Rattle.page_model.specs.Paged.{items}
use Rattle.txn_space.specs.Entries.{seen}
use Rattle.txn_space.specs.EntryNet.{entry_changes}
use Rattle.txn_space.proofs.NetLemmas.{all_tables, net_is, table_more}
use Rattle.txn_space.proofs.RoomLemmas.{got_entries}
use Rattle.txn_space.proofs.SoundLemmas.{length_seen}
use Rattle.txn_space.proofs.space.Space.changes.Goals as goal

pub loop-number-preserved : goal.loop-number-preserved
loop-number-preserved g c =
    let schema = (g.V.StoreView.db c.args.base.now).schema in
    let rows = (g.V.StoreView.db c.args.base.now).rows in
    let tables = c.items-tables.result.now in
    let inside : c.loop-number.number < length tables = grind (arith, nat_tests) in
    let within : c.loop-number.number < length (seen tables) = omega (arith, length_seen tables) in
    let is = got_entries tables c.loop-number.number c.index-tables-number.result inside c.index-tables-number.is in
    ap (λ made. made ++ entry_changes schema rows (c.loop-number.number + 1) (drop (c.loop-number.number + 1) (seen tables))) c.in_ok-add_changes.ensures
    ∙ table_more schema rows c.loop-number.number (seen tables) (items c.index-tables-number.result) c.loop-number.changes (entry_changes schema rows 0 (seen tables)) within is c.loop-number.invariant

-- The changes are those of the entries.
pub returns : goal.returns
returns g c =
    let schema = (g.V.StoreView.db c.args.base.now).schema in
    let rows = (g.V.StoreView.db c.args.base.now).rows in
    let tables = c.items-tables.result.now in
    let behind : length tables ≤ c.loop-number.number = grind (arith, nat_tests) in
    let past : length (seen tables) ≤ c.loop-number.number = omega (arith, length_seen tables) in
    let space : seen tables ≡ c.args.self.now = ap seen c.items-tables.ensures ∙ c.self.view_is in
    all_tables schema rows c.loop-number.number (seen tables) c.loop-number.changes (entry_changes schema rows 0 (seen tables)) past c.loop-number.invariant
    ∙ (ap (entry_changes schema rows 0) space ∙ sym (net_is (g.V.StoreView.db c.args.base.now) c.args.self.now c.requires.space c.requires.base))
