-- The first broken rule, rule by rule.
use Rattle.std.proofs.Common.{◌≡◌, ℕ, ◌+◌, ◌-◌, ◌<◌, ◌≤◌, List, [], ◌∷◌, None, Some, length, get_or, drop, refl, ap, sym, ◌∙◌, arith}
use Rattle.std.specs.List.{slice_get}
use Rattle.std.specs.Option.{option_map, option_or}
use Rattle.std.proofs.lemmas.List.{drop_all, drop_more}
use Rattle.own_model.specs.declared.create.CreateTable.{CreateTable}
use Rattle.own_model.specs.declared.refusal.Refusal.TheVariants.{BadSchema}
use Rattle.own_model.specs.declared.schema.Schema.{Schema}
use Rattle.schema_model.specs.Columns.{NameBytes}
use Rattle.schema_model.specs.Refusal.{broken, first_broken}

-- there are 14 rules
pub length-broken : (schema : Schema) (create : CreateTable) → length (broken schema create) ≡ 14
unfolding broken
length-broken schema create = refl

-- the first name of one rule, or else what is broken of the others
first_broken-one : (rule : ℕ) (names : List NameBytes) (others : List (List NameBytes))
    → first_broken rule (names ∷ others) ≡ option_or (option_map (λ name. BadSchema rule name) (slice_get names 0)) (first_broken (rule + 1) others)
first_broken-one rule [] others = refl
first_broken-one rule (name ∷ names) others = refl

module _ (rule : ℕ) (rules : List (List NameBytes)) (above : 0 < rule) (within : rule - 1 < length rules) where
  -- what is broken of the rules from one on, by what breaks it
  from_one : first_broken rule (drop (rule - 1) rules) ≡ option_or (option_map (λ name. BadSchema rule name) (slice_get (get_or rules (rule - 1) []) 0)) (first_broken (rule + 1) (drop (rule + 1 - 1) rules))
  from_one =
      let next : rule - 1 + 1 ≡ rule + 1 - 1 = omega arith in
      ap (first_broken rule) (drop_more rules (rule - 1) [] within ∙ ap (λ number. get_or rules (rule - 1) [] ∷ drop number rules) next)
      ∙ first_broken-one rule (get_or rules (rule - 1) []) (drop (rule + 1 - 1) rules)

  module _ (whole : first_broken rule (drop (rule - 1) rules) ≡ first_broken 1 rules) where
    -- a rule that a name breaks is the first, where it is so of those from it on
    pub first_broken-here : (name : NameBytes) → Some name ≡ slice_get (get_or rules (rule - 1) []) 0 → Some (BadSchema rule name) ≡ first_broken 1 rules
    first_broken-here name found =
        ap (λ first. option_or (option_map (λ name. BadSchema rule name) first) (first_broken (rule + 1) (drop (rule + 1 - 1) rules))) found
        ∙ sym from_one ∙ whole

    -- one that none breaks is passed over
    pub first_broken-next : None ≡ slice_get (get_or rules (rule - 1) []) 0 → first_broken (rule + 1) (drop (rule + 1 - 1) rules) ≡ first_broken 1 rules
    first_broken-next none =
        ap (λ first. option_or (option_map (λ name. BadSchema rule name) first) (first_broken (rule + 1) (drop (rule + 1 - 1) rules))) none
        ∙ sym from_one ∙ whole

-- past the last rule none is broken
pub first_broken-end : (rule : ℕ) (rules : List (List NameBytes)) → length rules ≤ rule - 1 → first_broken rule (drop (rule - 1) rules) ≡ first_broken 1 rules → None ≡ first_broken 1 rules
first_broken-end rule rules past whole = ap (first_broken rule) (sym (drop_all (rule - 1) rules past)) ∙ whole
