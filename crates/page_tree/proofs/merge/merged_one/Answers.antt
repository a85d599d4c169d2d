use Rattle.std.proofs.Common.{◌∙◌, ◌++◌, ap, append_assoc}
use Rattle.std.specs.Option.{option_to_list}
use Rattle.page_model.specs.Changed.{below_key, with_change}
use Rattle.page_tree.proofs.merge.merged_one.Goals as goal

-- Those below the key, what is put, and those above the key.
pub returns : goal.returns
unfolding with_change
returns g c =
    let below = below_key (g.By.KeyOf.key_of c.args.by) g.By.KeyOf.key_cmp (g.C.ChangeOf.changed c.args.change.now) c.args.items.now in
    let put = option_to_list (g.C.ChangeOf.put c.args.change.now) in
    let left = c.in_ok-left.left.now in
    c.in_ok-push_copies.ensures
    ∙ (ap (λ xs. xs ++ left) (c.in_ok-left.ensures.added ∙ ap (λ xs. xs ++ (below ++ put)) c.in_ok-made.ensures)
    ∙ (append_assoc below put left ∙ ap (λ xs. below ++ (put ++ xs)) c.in_ok-left.ensures.left))
