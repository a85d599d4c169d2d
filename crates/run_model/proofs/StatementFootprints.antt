-- The law of footprints on statements: a SELECT, an INSERT, an UPDATE or a DELETE answers and writes by the rows of its items
-- alone, and it writes no others.
use Rattle.std.proofs.Common.{◌≡◌, List, [], ◌∷◌, false, refl, sym, ap, ◌∙◌, subst}
use Rattle.std.specs.Prelude.{Result, Ok, Err}
use Rattle.std.specs.List.{AllByRecursion as Each, list_any}
use Rattle.own_model.specs.declared.bound.Bound.{Bound}
use Rattle.own_model.specs.declared.footprint.FootItem.{FootItem}
use Rattle.own_model.specs.declared.refusal.Refusal.{Refusal}
use Rattle.own_model.specs.declared.schema.Schema.{Schema}
use Rattle.own_model.specs.declared.statement.Statement.{Statement}
use Rattle.own_model.specs.declared.statement.Statement.TheVariants.{Delete, Insert, Select, Update}
use Rattle.own_model.specs.Db.{Db}
use Rattle.query_model.specs.BoundStatement.{bound_statement}
use Rattle.query_model.specs.Footprints.{footprint_of}
use Rattle.run_model.specs.Agree.{Agree, AgreeOn, overlaps}
use Rattle.run_model.specs.Items.{TakesRows, items_of}
use Rattle.run_model.specs.Run.{run, run_unless}
use Rattle.run_model.proofs.BoundFootprints.{same_left-run_bound, same_reply-run_bound, still-run_bound}
use Rattle.run_model.proofs.Outcomes.{AddsNothing}
use Rattle.run_model.proofs.SameSchema.{IsSameSchema, same_schema-run}
use Rattle.run_model.proofs.SparedKeys.{footprinted}
use Rattle.run_model.proofs.TableRows.{AreInPlace, agree_itself}

-- one of the four does what it means, unless binding refuses it
pub run_bound_of : (db : Db) (statement : Statement) → TakesRows statement → run db statement ≡ run_unless db (bound_statement db.schema statement)
unfolding run
run_bound_of db (Select select) takes = refl
run_bound_of db (Insert table columns rows) takes = refl
run_bound_of db (Update table sets cond) takes = refl
run_bound_of db (Delete table cond) takes = refl
run_bound_of db statement takes = absurd takes

-- it leaves the schema and the creates
adds_nothing : (statement : Statement) → TakesRows statement → AddsNothing statement
adds_nothing (Select select) takes = tt
adds_nothing (Insert table columns rows) takes = tt
adds_nothing (Update table sets cond) takes = tt
adds_nothing (Delete table cond) takes = tt
adds_nothing statement takes = absurd takes

pub same_schema-taking : (db : Db) (statement : Statement) → TakesRows statement → IsSameSchema db (run db statement).db
same_schema-taking db statement takes = same_schema-run db statement (adds_nothing statement takes)

-- the items of a statement are those of what it means
pub items_bound : (schema : Schema) (statement : Statement) (bound : Bound) → bound_statement schema statement ≡ Ok bound → items_of schema statement ≡ footprint_of schema bound
unfolding items_of
items_bound schema statement bound is = rw is refl

module _ (db : Db) (statement : Statement) (takes : TakesRows statement) where
  still_unless : AreInPlace db → (other : FootItem) → list_any (λ own. overlaps own other) (items_of db.schema statement) ≡ false
      → (r : Result Bound Refusal) → bound_statement db.schema statement ≡ r → AgreeOn db (run_unless db r).db other
  still_unless place other apart (Ok bound) is =
      still-run_bound db place bound (footprinted db.schema statement bound takes is) other
      (ap (list_any (λ own. overlaps own other)) (sym (items_bound db.schema statement bound is)) ∙ apart)
  still_unless place other apart (Err why) is = agree_itself db other

  -- An item that none of its items overlaps stays as it was.
  pub still-run : AreInPlace db → (other : FootItem) → list_any (λ own. overlaps own other) (items_of db.schema statement) ≡ false → AgreeOn db (run db statement).db other
  still-run place other apart =
      subst (λ outcome. AgreeOn db outcome.db other) (sym (run_bound_of db statement takes)) (still_unless place other apart _ refl)

module _ (db other : Db) (place : AreInPlace db) (places : AreInPlace other) (statement : Statement) (takes : TakesRows statement)
    (agree : Agree (items_of db.schema statement) db other) where
  agree_bound : (bound : Bound) → bound_statement db.schema statement ≡ Ok bound → Agree (footprint_of db.schema bound) db other
  agree_bound bound is = record { schema = agree.schema; on = subst (Each (AgreeOn db other)) (items_bound db.schema statement bound is) agree.on }

  -- the other runs the same
  run_other : run other statement ≡ run_unless other (bound_statement db.schema statement)
  run_other = run_bound_of other statement takes ∙ ap (λ schema. run_unless other (bound_statement schema statement)) (sym agree.schema)

  reply_unless : (r : Result Bound Refusal) → bound_statement db.schema statement ≡ r → (run_unless db r).reply ≡ (run_unless other r).reply
  reply_unless (Ok bound) is = same_reply-run_bound db other place places bound (footprinted db.schema statement bound takes is) (agree_bound bound is)
  reply_unless (Err why) is = refl

  -- Databases that agree on its items give the same reply.
  pub same_reply-run : (run db statement).reply ≡ (run other statement).reply
  same_reply-run =
      ap (λ outcome. outcome.reply) (run_bound_of db statement takes) ∙ (reply_unless _ refl ∙ sym (ap (λ outcome. outcome.reply) run_other))

  left_unless : (own : FootItem) → AgreeOn db other own → (r : Result Bound Refusal) → bound_statement db.schema statement ≡ r
      → AgreeOn (run_unless db r).db (run_unless other r).db own
  left_unless own before (Ok bound) is =
      same_left-run_bound db other place places bound (footprinted db.schema statement bound takes is) (agree_bound bound is) own before
  left_unless own before (Err why) is = before

  -- They agree behind it on each item on which they agreed before.
  pub same_left-run : (own : FootItem) → AgreeOn db other own → AgreeOn (run db statement).db (run other statement).db own
  same_left-run own before =
      subst (λ outcome. AgreeOn outcome.db (run other statement).db own) (sym (run_bound_of db statement takes))
      (subst (λ outcome. AgreeOn (run_unless db (bound_statement db.schema statement)).db outcome.db own) (sym run_other) (left_unless own before _ refl))

  -- and on all of some
  left_each : (items : List FootItem) → Each (AgreeOn db other) items → Each (AgreeOn (run db statement).db (run other statement).db) items
  left_each [] before = tt
  left_each (first ∷ rest) before = (same_left-run first before.0, left_each rest before.1)

  pub same_items-run : (items : List FootItem) → Agree items db other → Agree items (run db statement).db (run other statement).db
  same_items-run items before = record {
    schema = (same_schema-taking db statement takes).schema ∙ (before.schema ∙ sym (same_schema-taking other statement takes).schema);
    on = left_each items before.on;
  }
