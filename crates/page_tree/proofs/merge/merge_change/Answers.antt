use Rattle.std.proofs.Common.{◌≡◌, ◌++◌, take, append_assoc, sym, ap, subst, ◌∙◌}
use Rattle.std.specs.Option.{option_to_list}
use Rattle.page_model.specs.Changed.{below_key}
use Rattle.page_model.proofs.SplitLemmas.{below_is}
use Rattle.page_tree.proofs.merge.merge_change.Goals as goal

-- The items before the key's place are those below the key.
pub returns-clause-added : goal.returns-clause-added
returns-clause-added g c =
    let key_of = g.By.KeyOf.key_of c.args.by in
    let front = take c.place_of-place.result c.args.items.now in
    let put = option_to_list (g.C.ChangeOf.put c.args.change.now) in
    let below : below_key key_of g.By.KeyOf.key_cmp (g.C.ChangeOf.changed c.args.change.now) c.args.items.now ≡ front =
    subst (λ key. below_key key_of g.By.KeyOf.key_cmp key c.args.items.now ≡ front) c.key.ensures (below_is key_of g.met.By.KeyOf.total c.key.result.now c.args.items.now c.place_of-place.result c.place_of-place.ensures) in
    let copied = c.in_ok-push_copies.ensures in
    let last = c.in_ok-push_copy.ensures in
    last ∙ (ap (λ o. c.push_copies.new.made.items.items ++ option_to_list o) c.item.ensures
    ∙ (ap (λ xs. xs ++ put) copied ∙ (append_assoc c.args.made.now.items.items front put ∙ ap (λ xs. c.args.made.now.items.items ++ (xs ++ put)) (sym below))))
