-- A transaction that has run no write has changed nothing.
use Rattle.std.proofs.Common.{◌≡◌, ◌∙◌, ◌||◌, List, [], Bool, true, false, Result, Ok, Err}
use Rattle.std.specs.Prelude.{IfOk, OnErr, not}
use Rattle.own_model.specs.declared.bound.Bound.{Bound}
use Rattle.own_model.specs.declared.bound.Bound.TheVariants.{Select}
use Rattle.own_model.specs.declared.reply.Reply.{Reply}
use Rattle.own_model.specs.Db.{Db}
use Rattle.txn_space.specs.declared.entry.Entry.{Entry}
use Rattle.txn_core.specs.SessionStates.{is_select}
use Rattle.txn_core.specs.Runs.{HasRun}

module _ (db : Db) (before after : List (List Entry)) where
  -- a SELECT leaves what was changed
  stays : {E : Type 0} (bound : Bound) (result : Result Reply E) → IfOk result (λ reply. HasRun db bound before reply after)
      → OnErr result (after ≡ before) → is_select bound ≡ true → after ≡ before
  stays (Select query) (Ok reply) ran unchanged select = ran.reads tt
  stays bound (Err e) ran unchanged select = unchanged
  stays bound (Ok reply) ran unchanged select = let never : false ≡ true = select in absurd (cc)

  by : {E : Type 0} (bound : Bound) (result : Result Reply E) (wrote : Bool) → (wrote ≡ false → before ≡ []) → IfOk result (λ reply. HasRun db bound before reply after)
      → OnErr result (after ≡ before) → (select : Bool) → is_select bound ≡ select → (wrote || not select) ≡ false → after ≡ []
  by bound result true quiet ran unchanged select is none = let never : true ≡ false = none in absurd (cc)
  by bound result false quiet ran unchanged true is none = stays bound result ran unchanged is ∙ quiet none
  by bound result false quiet ran unchanged false is none = let never : true ≡ false = none in absurd (cc)

  pub quiet_after : {E : Type 0} (bound : Bound) (result : Result Reply E) (wrote : Bool) → (wrote ≡ false → before ≡ [])
      → IfOk result (λ reply. HasRun db bound before reply after)
      → OnErr result (after ≡ before) → (wrote || not (is_select bound)) ≡ false → after ≡ []
  quiet_after bound result wrote quiet ran unchanged none = by bound result wrote quiet ran unchanged (is_select bound) (λ i. is_select bound) none
