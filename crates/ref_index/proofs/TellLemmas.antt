-- Changes that tell what a database holds, and databases that are indexed alike.
use Rattle.std.proofs.Common.{◌≡◌, ◌∙◌, ap, subst, sym, ℕ, List, Option}
use Rattle.std.specs.Prelude.{false, IsTrue, find, slice_get}
use Rattle.std.specs.Option.{option_and_then, option_map_or}
use Rattle.own_base.specs.declared.change.Change.{Change}
use Rattle.own_base.specs.declared.value.Key.{Key}
use Rattle.own_model.specs.declared.schema.TableDef.{TableDef}
use Rattle.own_model.specs.Db.{Db, IsOrdered, Row}
use Rattle.own_model.specs.Stored.{has_key, row_named, rows_at}
use Rattle.page_model.proofs.RisingLemmas.{each_weaker}
use Rattle.state_model.specs.LeadTo.{LeadTo}
use Rattle.state_model.specs.MayBePut.{MayBePut}
use Rattle.state_model.specs.Net.{net}
use Rattle.state_model.proofs.NetLeads.{net_leads, net_may}
use Rattle.link_model.specs.Indexed.{is_indexed}
use Rattle.ref_index.specs.IndexOf.{rows_under}
use Rattle.ref_index.specs.Moved.{AreIndexes}
use Rattle.ref_index.specs.Stands.{Stands}
use Rattle.ref_index.specs.Tells.{Tell}
use Rattle.ref_index.specs.declared.column_index.ColumnIndex.{ColumnIndex}
use Rattle.ref_index.proofs.PutUnder.{alike}

-- changes that lead to a database tell what was
pub lead_tells : (before after : Db) (changes : List Change) → LeadTo before after changes → MayBePut before.schema.tables changes → Tell before changes
lead_tells before after changes lead may = record { was = each_weaker _ _ (λ change tells. tells.was) changes lead.each; may = may }

-- and so does a net
pub net_tells : (before after : Db) → IsOrdered before → IsOrdered after → after.schema ≡ before.schema → Tell before (net before after)
net_tells before after ordered rises schema = lead_tells before after (net before after) (net_leads before after ordered rises schema) (net_may before after ordered rises schema)

-- an index is one of each database with the same tables and rows
pub stands_same : (old new : Db) (index : List ColumnIndex) → new.schema.tables ≡ old.schema.tables → new.rows ≡ old.rows → Stands old index → Stands new index
unfolding row_named
stands_same old new index tables rows stands =
    let under : (n : ℕ) (key : Key) → rows_under old n key ≡ rows_under new n key =
    λ n key. ap (λ all. option_and_then (λ table. find (has_key table key) (rows_at old.rows n)) (slice_get all n)) (sym tables)
    ∙ ap (λ all. option_and_then (λ table. find (has_key table key) (rows_at all n)) (slice_get new.schema.tables n)) (sym rows) in
    let same : ◌≡◌ {A = ℕ → Key → Option Row} (rows_under old) (rows_under new) = alike _ _ (λ n. alike _ _ (under n)) in
    record {
      each = subst (λ (rows : ℕ → Key → Option Row). AreIndexes rows index) same stands.each;
      covers = λ table column indexed. stands.covers table column
          (subst (λ all. IsTrue (option_map_or (λ (each : TableDef). option_map_or is_indexed (slice_get each.columns column) false) (slice_get all table) false)) tables indexed);
    }
