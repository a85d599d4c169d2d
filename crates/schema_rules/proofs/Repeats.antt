-- What tells the names that repeat one before them, and the rules that are misplaced.
use Rattle.std.proofs.Common.{◌≡◌, ℕ, ◌+◌, ◌<◌, ◌||◌, Bool, true, false, List, [], ◌∷◌, ◌++◌, cond, length, map, take, get_or, Some, refl, ap, sym, ◌∙◌}
use Rattle.std.specs.List.{slice_get}
use Rattle.std.specs.Option.{is_none}
use Rattle.own_model.specs.declared.create.CreateTable.{CreateTable}
use Rattle.schema_model.specs.Columns.{NameBytes, is_named}
use Rattle.schema_model.specs.OnRules.{OnRule, edge_on}
use Rattle.schema_model.specs.rules.MisplacedRules.{misplaced_after, repeats_one_of}
use Rattle.schema_model.specs.rules.RepeatedColumns.{repeated_after}
use Rattle.schema_rules.proofs.Reported.{reported_after, reported_first, reported_none}

-- a repeated name is one that is among those before it
pub repeated_after-reported : (before names : List NameBytes) → repeated_after before names ≡ reported_after is_named (λ name. name) before names
repeated_after-reported before [] = refl
repeated_after-reported before (name ∷ names) = ap (λ rest. cond (is_named before name) (name ∷ []) [] ++ rest) (repeated_after-reported (before ++ name ∷ []) names)

-- a misplaced rule is one without an edge, or one that repeats one before it
abbrev pub is_misplaced : CreateTable → List OnRule → OnRule → Bool
is_misplaced create before rule = is_none (edge_on create rule.column) || repeats_one_of before rule

pub misplaced_after-reported : (create : CreateTable) (before rules : List OnRule) → misplaced_after create before rules ≡ reported_after (is_misplaced create) (λ rule. rule.column) before rules
misplaced_after-reported create before [] = refl
misplaced_after-reported create before (rule ∷ rules) = ap (λ rest. cond (is_misplaced create before rule) (rule.column ∷ []) [] ++ rest) (misplaced_after-reported create (before ++ rule ∷ []) rules)

module _ {A : Type 0} (seen : A → NameBytes) (items : List A) (index : ℕ) (item : A) (within : index < length items) (here : item ≡ get_or items index item)
    (none : repeated_after [] (map seen (take index items)) ≡ []) where
  -- a name that isn't among those before it repeats none
  pub unrepeated : is_named (map seen (take index items)) (seen item) ≡ false → repeated_after [] (map seen (take (index + 1) items)) ≡ []
  unrepeated fails =
      repeated_after-reported [] (map seen (take (index + 1) items))
      ∙ reported_none is_named (λ name. name) seen items index item within here (sym (repeated_after-reported [] (map seen (take index items))) ∙ none) fails

  -- one that is is the first that does
  pub repeated : is_named (map seen (take index items)) (seen item) ≡ true → Some (seen item) ≡ slice_get (repeated_after [] (map seen items)) 0
  repeated passes =
      reported_first is_named (λ name. name) seen items index item within here (sym (repeated_after-reported [] (map seen (take index items))) ∙ none) passes
      ∙ sym (ap (λ names. slice_get names 0) (repeated_after-reported [] (map seen items)))

module _ (create : CreateTable) {A : Type 0} (seen : A → OnRule) (items : List A) (index : ℕ) (item : A) (within : index < length items) (here : item ≡ get_or items index item)
    (none : misplaced_after create [] (map seen (take index items)) ≡ []) where
  -- a rule that isn't misplaced adds none
  pub well_placed : is_misplaced create (map seen (take index items)) (seen item) ≡ false → misplaced_after create [] (map seen (take (index + 1) items)) ≡ []
  well_placed fails =
      misplaced_after-reported create [] (map seen (take (index + 1) items))
      ∙ reported_none (is_misplaced create) (λ rule. rule.column) seen items index item within here (sym (misplaced_after-reported create [] (map seen (take index items))) ∙ none) fails

  -- one that is is the first
  pub misplaced : is_misplaced create (map seen (take index items)) (seen item) ≡ true → Some (seen item).column ≡ slice_get (misplaced_after create [] (map seen items)) 0
  misplaced passes =
      reported_first (is_misplaced create) (λ rule. rule.column) seen items index item within here (sym (misplaced_after-reported create [] (map seen (take index items))) ∙ none) passes
      ∙ sym (ap (λ names. slice_get names 0) (misplaced_after-reported create [] (map seen items)))
