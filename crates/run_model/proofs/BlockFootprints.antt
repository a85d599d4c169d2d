-- The law of footprints on statements that run one after another: their replies and what they write depend on the rows of
-- their items alone, and they write no others.
use Rattle.std.proofs.Common.{◌≡◌, List, [], ◌∷◌, ◌++◌, Bool, true, false, ◌||◌, fold, Option, Some, None, refl, sym, ◌∙◌, subst}
use Rattle.std.specs.List.{AllByRecursion as Each, list_any}
use Rattle.own_base.specs.declared.value.Key.{Key}
use Rattle.page_model.proofs.RisingLemmas.{each_back, each_front}
use Rattle.own_model.specs.declared.footprint.FootItem.{FootItem}
use Rattle.own_model.specs.declared.reply.Reply.{Reply}
use Rattle.own_model.specs.declared.statement.Statement.{Statement}
use Rattle.own_model.specs.Db.{Db}
use Rattle.state_model.specs.Sound.{IsWellFormed}
use Rattle.run_model.specs.Agree.{Agree, AgreeOn, overlaps}
use Rattle.run_model.specs.Items.{TakesRows, items_of, items_of_all}
use Rattle.run_model.specs.Run.{run}
use Rattle.run_model.proofs.SameSchema.{IsSameSchema}
use Rattle.run_model.proofs.StatementFootprints.{same_items-run, same_left-run, same_reply-run, same_schema-taking, still-run}
use Rattle.run_model.proofs.TableRows.{agree_itself, in_place}

-- the database that a statement leaves, and statements one after another
abbrev left_after : Db → Statement → Db
left_after db statement = (run db statement).db

abbrev pub block_left : Db → List Statement → Db
block_left db statements = fold (λ before statement. (run before statement).db) db statements

-- the replies that they give
abbrev pub block_replies : Db → List Statement → List Reply
block_replies db [] = []
block_replies db (statement ∷ statements) = (run db statement).reply ∷ block_replies (left_after db statement) statements

-- what agrees with what agrees
pub agree_then : (db mid other : Db) (item : FootItem) → AgreeOn db mid item → AgreeOn mid other item → AgreeOn db other item
agree_then db mid other item first second = by item.key first second
  where
    by : (key : Option Key) → AgreeOn db mid (record item { key = key }) → AgreeOn mid other (record item { key = key }) → AgreeOn db other (record item { key = key })
    by None first second = first ∙ second
    by (Some key) first second = first ∙ second

-- what passes in none of a list passes in none of its parts
none_of_both : {X : Type 0} (p : X → Bool) (xs ys : List X) → list_any p (xs ++ ys) ≡ false → (list_any p xs ≡ false) × (list_any p ys ≡ false)
none_of_both p [] ys none = (refl, none)
none_of_both p (x ∷ xs) ys none = by (none_of_both p xs ys) (p x) none
  where
    by : (list_any p (xs ++ ys) ≡ false → (list_any p xs ≡ false) × (list_any p ys ≡ false))
        → (b : Bool) → b || list_any p (xs ++ ys) ≡ false → (b || list_any p xs ≡ false) × (list_any p ys ≡ false)
    by more true none = let never : true ≡ false = none in cc
    by more false none = more none

-- Statements that have footprints and keep databases kept.
module _ (P : Statement → Type 0) (taking : (statement : Statement) → P statement → TakesRows statement)
    (keeps : (db : Db) (statement : Statement) → P statement → IsWellFormed db → IsWellFormed (run db statement).db) where
  -- they leave the schema and the creates
  pub same_schema-block : (db : Db) (statements : List Statement) → Each P statements → IsSameSchema db (block_left db statements)
  same_schema-block db [] all = record { schema = refl; creates = refl }
  same_schema-block db (statement ∷ statements) all =
      let first = same_schema-taking db statement (taking statement all.0) in
      let rest = same_schema-block (left_after db statement) statements all.1 in
      record { schema = rest.schema ∙ first.schema; creates = rest.creates ∙ first.creates }

  -- and a kept database
  pub kept-block : (db : Db) (statements : List Statement) → Each P statements → IsWellFormed db → IsWellFormed (block_left db statements)
  kept-block db [] all kept = kept
  kept-block db (statement ∷ statements) all kept = kept-block (left_after db statement) statements all.1 (keeps db statement all.0 kept)

  -- An item that none of their items overlaps stays as it was.
  pub still-block : (db : Db) (statements : List Statement) → Each P statements → IsWellFormed db
      → (other : FootItem) → list_any (λ own. overlaps own other) (items_of_all db.schema statements) ≡ false → AgreeOn db (block_left db statements) other
  unfolding items_of_all
  still-block db [] all kept other apart = agree_itself db other
  still-block db (statement ∷ statements) all kept other apart =
      let both = none_of_both (λ own. overlaps own other) (items_of db.schema statement) (items_of_all db.schema statements) apart in
      let same : db.schema ≡ (left_after db statement).schema = sym (same_schema-taking db statement (taking statement all.0)).schema in
      agree_then db (left_after db statement) (block_left (left_after db statement) statements) other
      (still-run db statement (taking statement all.0) (in_place db kept) other both.0)
      (still-block (left_after db statement) statements all.1 (keeps db statement all.0 kept) other
      (subst (λ schema. list_any (λ own. overlaps own other) (items_of_all schema statements) ≡ false) same both.1))

  module _ (statement : Statement) (statements : List Statement) (db other : Db) (has : P statement) (kept : IsWellFormed db) (others : IsWellFormed other)
      (agree : Agree (items_of_all db.schema (statement ∷ statements)) db other) where
    -- the first statement, and what it leaves for the others
    first_agree : Agree (items_of db.schema statement) db other
    unfolding items_of_all
    first_agree = record { schema = agree.schema; on = each_front (AgreeOn db other) (items_of db.schema statement) (items_of_all db.schema statements) agree.on }

    rest_agree : Agree (items_of_all (left_after db statement).schema statements) (left_after db statement) (left_after other statement)
    unfolding items_of_all
    rest_agree =
        let rest : Agree (items_of_all db.schema statements) db other = record { schema = agree.schema; on = each_back (AgreeOn db other) (items_of db.schema statement) (items_of_all db.schema statements) agree.on } in
        subst (λ schema. Agree (items_of_all schema statements) (left_after db statement) (left_after other statement))
        (sym (same_schema-taking db statement (taking statement has)).schema)
        (same_items-run db other (in_place db kept) (in_place other others) statement (taking statement has) first_agree (items_of_all db.schema statements) rest)

  -- Databases that agree on all their items give the same replies.
  pub same_replies-block : (statements : List Statement) (db other : Db) → Each P statements → IsWellFormed db → IsWellFormed other
      → Agree (items_of_all db.schema statements) db other → block_replies db statements ≡ block_replies other statements
  same_replies-block [] db other all kept others agree = refl
  same_replies-block (statement ∷ statements) db other all kept others agree =
      let has = taking statement all.0 in
      let first = same_reply-run db other (in_place db kept) (in_place other others) statement has (first_agree statement statements db other all.0 kept others agree) in
      let rest = same_replies-block statements (left_after db statement) (left_after other statement) all.1 (keeps db statement all.0 kept) (keeps other statement all.0 others)
      (rest_agree statement statements db other all.0 kept others agree) in
      rw (first, rest) refl

  -- They agree behind them on each item on which they agreed before.
  pub same_left-block : (statements : List Statement) (db other : Db) → Each P statements → IsWellFormed db → IsWellFormed other
      → Agree (items_of_all db.schema statements) db other → (own : FootItem) → AgreeOn db other own → AgreeOn (block_left db statements) (block_left other statements) own
  same_left-block [] db other all kept others agree own before = before
  same_left-block (statement ∷ statements) db other all kept others agree own before =
      same_left-block statements (left_after db statement) (left_after other statement) all.1 (keeps db statement all.0 kept) (keeps other statement all.0 others)
      (rest_agree statement statements db other all.0 kept others agree) own
      (same_left-run db other (in_place db kept) (in_place other others) statement (taking statement all.0) (first_agree statement statements db other all.0 kept others agree) own before)

  left_each : (statements : List Statement) (db other : Db) → Each P statements → IsWellFormed db → IsWellFormed other
      → Agree (items_of_all db.schema statements) db other → (items : List FootItem) → Each (AgreeOn db other) items
      → Each (AgreeOn (block_left db statements) (block_left other statements)) items
  left_each statements db other all kept others agree [] before = tt
  left_each statements db other all kept others agree (first ∷ rest) before =
      (same_left-block statements db other all kept others agree first before.0, left_each statements db other all kept others agree rest before.1)

  -- and so on all of some, their own among them
  pub same_items-block : (statements : List Statement) (db other : Db) → Each P statements → IsWellFormed db → IsWellFormed other
      → Agree (items_of_all db.schema statements) db other → (items : List FootItem) → Agree items db other
      → Agree items (block_left db statements) (block_left other statements)
  same_items-block statements db other all kept others agree items before = record {
    schema = (same_schema-block db statements all).schema ∙ (before.schema ∙ sym (same_schema-block other statements all).schema);
    on = left_each statements db other all kept others agree items before.on;
  }
