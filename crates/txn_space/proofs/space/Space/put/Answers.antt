use Rattle.std.proofs.Common.{◌≡◌, sym, ◌∙◌, ap, subst}
use Rattle.state_model.specs.Put.{put_rows}
use Rattle.table_part.proofs.KeyLemmas.{changes_keyed}
use Rattle.txn_space.specs.Changed.{changed_rows}
use Rattle.txn_space.specs.Entries.{entries_at, seen}
use Rattle.txn_space.specs.HasPut.{HavePut, entries_put}
use Rattle.txn_space.specs.Sound.{IsSpaceOf}
use Rattle.txn_space.proofs.OverLemmas.{put_changes}
use Rattle.txn_space.proofs.SoundLemmas.{put_sound}
use Rattle.txn_space.proofs.space.Space.put.Goals as goal

-- The tables that are kept are a copy, with the changes.
pub returns-clause-sound : goal.returns-clause-sound
returns-clause-sound g c =
    let tables = (g.V.StoreView.db c.args.base.now).schema.tables in
    let begun : c.into_vec-tables.result.items ≡ c.self.inside.tables = c.into_vec-tables.ensures ∙ c.in_ok-copy.ensures in
    let kept : c.from_vec.result ≡ c.put_all.new.tables.items = c.from_vec.ensures in
    let put = subst (λ before. HavePut c.args.changes.now before c.put_all.new.tables.items) begun c.in_ok-put_all.ensures in
    subst (λ after. IsSpaceOf tables (seen after)) (sym kept)
    (put_sound tables c.args.changes.now c.self.inside.tables c.put_all.new.tables.items (subst (IsSpaceOf tables) (sym c.self.view_is) c.requires.space) c.requires.changes put)

pub returns-clause-put : goal.returns-clause-put
returns-clause-put g c =
    let tables = (g.V.StoreView.db c.args.base.now).schema.tables in
    let changes = c.args.changes.now in
    let begun : c.into_vec-tables.result.items ≡ c.self.inside.tables = c.into_vec-tables.ensures ∙ c.in_ok-copy.ensures in
    let kept : c.from_vec.result ≡ c.put_all.new.tables.items = c.from_vec.ensures in
    let put = subst (λ before. HavePut changes before c.put_all.new.tables.items) begun c.in_ok-put_all.ensures in
    λ rows base.
    ap (λ after. changed_rows tables rows (seen after)) kept
    ∙ (put_changes tables rows changes (seen c.self.inside.tables) (seen c.put_all.new.tables.items) base (subst (IsSpaceOf tables) (sym c.self.view_is) c.requires.space) put.entries
    (λ place table is. changes_keyed tables place table changes is c.requires.changes)
    ∙ ap (λ space. put_rows tables changes (changed_rows tables rows space)) c.self.view_is)

pub returns-clause-entries : goal.returns-clause-entries
returns-clause-entries g c =
    let changes = c.args.changes.now in
    let begun : c.into_vec-tables.result.items ≡ c.self.inside.tables = c.into_vec-tables.ensures ∙ c.in_ok-copy.ensures in
    let kept : c.from_vec.result ≡ c.put_all.new.tables.items = c.from_vec.ensures in
    let put = subst (λ before. HavePut changes before c.put_all.new.tables.items) begun c.in_ok-put_all.ensures in
    λ number. ap (λ after. entries_at (seen after) number) kept ∙ (put.entries number ∙ ap (λ space. entries_put number changes (entries_at space number)) c.self.view_is)
