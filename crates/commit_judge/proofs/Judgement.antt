-- What is judged of the state to which one change leads, of a table that nothing is linked with.
use Rattle.std.proofs.Common.{◌≡◌, ℕ, ◌-◌, ◌^◌, ◌<◌, List, [], ◌∷◌, Bool, true, false, refl, ap, subst, sym, arith}
use Rattle.std.specs.Prelude.{min, None, filter, nat_lt}
use Rattle.std.proofs.lemmas.Bool.{le-ltb}
use Rattle.own_base.specs.declared.change.Change.{Change}
use Rattle.own_model.specs.declared.limit.LimitName.TheVariants as limit
use Rattle.own_model.specs.declared.limit.TheConstants.{STORE_ROWS}
use Rattle.own_model.specs.declared.refusal.Refusal.{Refusal}
use Rattle.own_model.specs.declared.refusal.Refusal.TheVariants.{Limit}
use Rattle.own_model.specs.Db.{Db, IsOrdered}
use Rattle.schema_model.specs.Lone.{is_lone}
use Rattle.schema_model.specs.OwnerSchema.{IsOwnerSchema}
use Rattle.state_model.specs.Fault.{fault, first_of, owner_faults, reference_faults, unique_faults}
use Rattle.state_model.specs.MayBePut.{KeysDiffer, MayBePut}
use Rattle.state_model.specs.Net.{net}
use Rattle.state_model.specs.Put.{is_of_table, put}
use Rattle.state_model.specs.Weight.{row_count, weight}
use Rattle.state_model.proofs.Faultless.{faultless-from}
use Rattle.state_model.proofs.NetLeads.{net_may}
use Rattle.commit_check.specs.declared.judged.Judged.{Judged}
use Rattle.commit_check.specs.Judged.{IsJudged, IsWeighed}
use Rattle.commit_check.proofs.WholeLemmas.{by_judged, past}
use Rattle.commit_judge.specs.Unlinked.{is_unlinked}
use Rattle.commit_judge.proofs.FaultsLeft.{reference-left, unique-left}
use Rattle.commit_judge.proofs.LinkLemmas.{unlinked-lone}
use Rattle.commit_judge.proofs.OwnersLeft.{owner-left}
use Rattle.commit_judge.proofs.RowBound.{row-bound}
use Rattle.commit_judge.proofs.SameElsewhere.{AreSameElsewhere, AreWithin, same-elsewhere}
use Rattle.commit_judge.proofs.TableLeads.{LeadsFrom, leads-all}

-- one change doesn't bring too many rows where there is room for one more
few_step : (b : Bool) (why : Refusal) → b ≡ false → past b why ≡ None
few_step b why is = rw is refl

few-rows : (db : Db) (change : Change) (count : ℕ) → count ≡ min (row_count db) (2 ^ 64 - 1) → count < STORE_ROWS
    → past (nat_lt STORE_ROWS (row_count (put db (change ∷ [])))) (Limit limit.Rows) ≡ None
few-rows db change count counts few =
    let most = row-bound db change in
    few_step (nat_lt STORE_ROWS (row_count (put db (change ∷ [])))) (Limit limit.Rows) (le-ltb _ _ (omega (arith, most, counts, few)))

module _ (db : Db) (change : Change) (before : IsOrdered db) (after : IsOrdered (put db (change ∷ []))) (is : ◌≡◌ {A = List Change} (change ∷ []) (net db (put db (change ∷ [])))) (none : fault db ≡ None)
    (owner : IsOwnerSchema db.schema) (unlinked : is_unlinked db.schema change.name.table.0 ≡ true) where
  abbrev pub next : Db
  next = put db (change ∷ [])

  once : (number : ℕ) → KeysDiffer (filter (is_of_table number) (change ∷ []))
  once = (subst (MayBePut db.schema.tables) (sym is) (net_may db next before after refl)).once

  leads : LeadsFrom 0 db.schema.tables db.rows next.rows
  unfolding net
  leads = leads-all (change ∷ []) once db.schema.tables db.rows next.rows before.rising after.rising is refl

  -- the rows of the other tables are the same
  same : (passes : ℕ → Bool) → passes change.name.table.0 ≡ true → AreSameElsewhere passes db.rows next.rows
  unfolding net
  same passes own = same-elsewhere passes db.schema.tables db.rows next.rows leads (subst (AreWithin passes) is (own, tt))

  -- so no rule finds a fault
  no_unique : unique_faults next ≡ []
  no_unique = unique-left db next before after (same (is_unlinked db.schema) unlinked) (faultless-from db none).unique

  no_reference : reference_faults next ≡ []
  no_reference = reference-left db next before after (same (is_unlinked db.schema) unlinked) (faultless-from db none).reference

  no_owner : owner_faults next ≡ []
  no_owner = owner-left db next before after (same (is_lone db.schema) (unlinked-lone db.schema change.name.table.0 unlinked)) owner (faultless-from db none).owner

  -- and what is judged of the weight is judged of the whole
  pub judged-alone : (count : ℕ) (judged : Judged) → count ≡ min (row_count db) (2 ^ 64 - 1) → count < STORE_ROWS → IsWeighed (weight next) judged → IsJudged next judged
  judged-alone count judged counts few weighed =
      by_judged next (ap first_of no_unique) (ap first_of no_reference) (ap first_of no_owner) (few-rows db change count counts few) judged weighed
