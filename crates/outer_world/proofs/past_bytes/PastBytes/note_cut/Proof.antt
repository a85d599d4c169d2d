-- An empty body, as it cuts nothing. The borrow is opened and closed at another ghost value.
use Rattle.std.proofs.Common.{[], ◌∷◌, refl, w64}
use Rattle.std.proofs.raw_atomic.Walks.{proved}
use base.Fml.{ftrue, flft}
use base.Logic.{id⊢}
use mir.Syntax.{named}
use mir.Val.{vunit}
use types.Kit.{‵, ◌⊛◌, ◌$◌, ◌∵◌, !, qed, move, keep, use1, split, join, fsplit3, feq_i, suffices, frame, group, done}
use types.Run.{unit_lit, of_opd, returns, enter}
use types.ByLocal.{alloc_all, pass_all, free_all, look_at, sets}
use denote.Builtin.{bool}
use denote.Exit.{yes}
use denote.Plain.{UInt, uint_vals, uint_Tells, bool_vals, bool_Tells}
use denote.Ref.{MutRef, mut_vals, mut_Tells}
use denote.Signature.{plain}
use denote.Steps.{nothing, opens, closes}
use denote.Triple.Walked.{says, Stays, walk_of, stay_ref, Goes-ref, stay_dropped, Goes-dropped, ends_at}
use Rattle.outer_world.specs.PastBytes.{cut_pair}
use Rattle.outer_world.specs.declared.past_bytes.PastBytes.{PastBytes}
use Rattle.outer_world.specs.contracts.past_bytes.PastBytes as T
use Rattle.outer_world.specs.contracts.past_bytes.PastBytes.note_cut as f
use Rattle.outer_world.proofs.past_bytes.PastBytes.note_cut.Statement.{statement}
use Rattle.outer_world.proofs.past_bytes.PastBytes.note_cut.Code as code

abbrev stayed : Stays f.ended.signature.params f.ended.kept
stayed = (stay_ref (0 ∷ []) tt (plain (λ _. T.the_row)), (stay_dropped _ yes, (stay_dropped _ yes, tt)))

pub note_cut_spec : {M : Type 1} → statement M
note_cut_spec 𝓤 𝓛 𝓜 𝓡 wired =
    let c = f.clauses 𝓛 𝓜.mem 𝓡.returns in let W = walk_of 𝓛 f.ended stayed c in
    proved 𝓛 f.ended stayed c 𝓜 𝓡 (Goes-ref 𝓛 1 0 tt (plain (λ _. T.the_row)), (Goes-dropped 𝓛 1 (plain (λ _. bool)) yes (λ κs x w. refl), (Goes-dropped 𝓛 1 (plain (λ _. UInt w64)) yes (λ κs x w. refl), tt)))
    f.Key.name code.function (code.unfolded 𝓤 𝓛.H 𝓜 𝓡 wired)
    (λ κs. (mut_vals, (bool_vals, (uint_vals w64, tt)))) (λ κs. (mut_Tells (named 0) κs.0 T.the_row, (bool_Tells, (uint_Tells w64, tt)))) (λ κs qs bounds a _ are.
    let b = a.0.ref_ptr.0 in let o = a.0.ref_ptr.1 in let h = a.0.now in let vs = mut_vals a.0 in
    let y : W.Ghost = ((κs, qs, bounds, a, (vs, (bool_vals a.1.0, (uint_vals w64 a.1.1.0, tt)))), tt) in
    let h' : PastBytes = record { marker = h.marker; now = cut_pair h.now a.1.0 a.1.1.0; before = h.now ∷ h.before } in
    qed 𝓛 (((‵ (flft κs.0 qs.0) ⊛ ‵ ftrue) ⊛ ‵ ((MutRef (named 0) κs.0 T.the_row).own_val a.0 vs)
    ⊛ ‵ (bool.own_val a.1.0 (bool_vals a.1.0)) ⊛ ‵ ((UInt w64).own_val a.1.1.0 (uint_vals w64 a.1.1.0)) ⊛ ‵ ftrue) ∷ ‵ ftrue ∷ []) ∵
    split ! $ split ! $ move ! (2 ∷ []) $ split ! $ keep ! (0 ∷ 2 ∷ []) $
    enter ! _ _ _ _ _ $ alloc_all ! (λ l. pass_all ! refl ((tt, tt), ((tt, tt), ((tt, record { fits = are.1.1.0.1 }), tt))) $
    fsplit3 ! $ move ! (1 ∷ 2 ∷ 3 ∷ []) $ opens ! tt T.the_row b o (λ us.
    sets ! (of_opd ! (unit_lit !)) refl (tt, tt) $
    move ! (1 ∷ []) $ use1 𝓛 (‵ ((T.the_row).own_val h' us)) (id⊢ 𝓤 _) $ move ! (1 ∷ 0 ∷ []) $ closes ! tt T.the_row h' us b o $
    returns ! (look_at ! 0 refl) $ free_all ! refl $
    move ! (3 ∷ []) $
    suffices ! _ (ends_at 𝓛 f.ended stayed c y vunit tt (h', (tt, (tt, tt))) (tt, (tt, (tt, tt)))) $ says ! (refl, refl) $
    group ! 3 $ nothing ! $ nothing ! $ join ! $ nothing ! $ join ! $ move ! (1 ∷ 0 ∷ []) $ join ! $
    nothing ! $ move ! (2 ∷ 0 ∷ []) $ join ! $ frame ! $ frame ! $
    feq_i ! _ (vunit ∷ []) _ refl $ done !)))
