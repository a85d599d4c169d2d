-- A pass that rests with a view again.
use Rattle.std.proofs.Common.{◌≡◌, ℕ, ◌≤◌, List, [], ◌∷◌, map, set, sym, ap, ◌∙◌}
use Rattle.std.specs.Prelude.{Bool, true, false, slice_index_or}
use lib.Seq.{map-set}
use Rattle.own_model.specs.declared.limit.TheConstants.{SESSIONS}
use Rattle.atomic_table.specs.Seated.{TableId}
use Rattle.commit_turn.specs.declared.pass.Pass.{Pass}
use Rattle.commit_turn.specs.declared.view.Stage.{Stage}
use Rattle.commit_turn.specs.declared.view.View.{View}
use Rattle.commit_turn.specs.Kept.{is_out}
use Rattle.commit_turn.specs.Passes.{IsPassOf, view_of}
use Rattle.commit_turn.specs.Steps.{spent}

pub sits : (turn : TableId) (pass : Pass) (w : View) → pass.badge.table_id ≡ turn → pass.badge.views ≡ w ∷ [] → w.live ≡ true → w.holds ≡ false
    → pass.session.0 ≡ w.session → pass.session.0 ≤ SESSIONS → pass.out ≡ map is_out w.stages → IsPassOf turn pass × (view_of pass ≡ w)
sits turn pass w table rests live idle session number out =
    let is : view_of pass ≡ w = ap (λ (views : List View). slice_index_or views 0 spent) rests in (
      record {
        table = table;
        rests = rests ∙ ap (λ (v : View). v ∷ []) (sym is);
        live = ap (λ (v : View). v.live) is ∙ live;
        holds = ap (λ (v : View). v.holds) is ∙ idle;
        session = session ∙ ap (λ (v : View). v.session) (sym is);
        number = number;
        out = out ∙ ap (λ (v : View). map is_out v.stages) (sym is);
      },
      is,
    )

-- the flags when one stage is set
pub flags_set : (stages : List Stage) (flags : List Bool) (session number : ℕ) (stage : Stage) → flags ≡ map is_out stages → number ≡ session
    → set flags number (is_out stage) ≡ map is_out (set stages session stage)
flags_set stages flags session number stage is same = (λ i. set (is i) (same i) (is_out stage)) ∙ sym (map-set is_out stages session stage)
