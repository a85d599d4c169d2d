use Rattle.std.proofs.Common.{◌++◌, ◌∷◌, [], ℕ, ℤ, ap, ◌∙◌, rules, codes, string_bytes, FitsSigned}
use Rattle.std.specs.Int.{w128}
use Rattle.std.specs.Fmt.{signed_decimal}
use Rattle.std.proofs.lemmas.Int.{to_z-of_z}
use Rattle.made_model.specs.Summary.{Summary}
use Rattle.made_model.specs.SummaryText.{counted_line, summary_text}
use Rattle.made_script.specs.Tallied.{tallied}
use Rattle.made_script.proofs.Telling.{told-all}
use Rattle.made_script.proofs.tally.Tally.push_to.Goals as goal

pub returns : goal.returns
returns c =
    let told = tallied c.self.inside in
    let fits : FitsSigned w128 c.self.inside.sum = search rules in
    told-all told (string_bytes c.args.text.now) (string_bytes c.push_line.new.text) (string_bytes c.push_line-2.new.text) (string_bytes c.push_line-3.new.text) (string_bytes c.push_line-4.new.text) (string_bytes c.push_line-5.new.text) (string_bytes c.push_forgot.new.text) (string_bytes c.push_line-6.new.text) (string_bytes c.push_sum.new.text)
    (c.in_ok-push_line.ensures ∙ ap (λ (n : ℕ). string_bytes c.args.text.now ++ counted_line (codes "calls ") n) c.from.ensures)
    (c.in_ok-push_line-2.ensures ∙ ap (λ (n : ℕ). string_bytes c.push_line.new.text ++ counted_line (codes "done ") n) c.from-2.ensures)
    (c.in_ok-push_line-3.ensures ∙ ap (λ (n : ℕ). string_bytes c.push_line-2.new.text ++ counted_line (codes "refused ") n) c.from-3.ensures)
    (c.in_ok-push_line-4.ensures ∙ ap (λ (n : ℕ). string_bytes c.push_line-3.new.text ++ counted_line (codes "memory ") n) c.from-4.ensures)
    c.in_ok-push_line-5.ensures
    c.in_ok-push_forgot.ensures
    c.in_ok-push_line-6.ensures
    (c.in_ok-push_sum.ensures ∙ ap (λ (sum : ℤ). string_bytes c.push_line-6.new.text ++ (codes "sum " ++ signed_decimal sum ++ 10 ∷ [])) (to_z-of_z w128 _ fits))
    ∙ ap (λ (s : Summary). string_bytes c.args.text.now ++ summary_text s) c.self.view_is
