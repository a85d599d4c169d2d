use Rattle.std.proofs.Common.{◌≡◌, ◌<◌, ◌^◌, ◌++◌, length, sym, ap, subst, arith}
use Rattle.std.specs.Prelude.{IsUtf8}
use Rattle.std.specs.List.{AllByRecursion}
use Rattle.disk_model.specs.Bounds.{IsCountable, IsTypedImage}
use Rattle.disk_model.specs.Spelling.{create_spelling, list_spelling}
use Rattle.check_image.specs.Gated.{image_from}
use Rattle.check_image.proofs.GatedImages.{gated, one_behind_another}
use Rattle.check_image.proofs.SoundImages.{countable_texts, created_texts, sound_rows}
use Rattle.check_image.proofs.encoding.encode.Goals as goal

pub write_creates-requires-clause-few : goal.write_creates-requires-clause-few
write_creates-requires-clause-few g c =
    let few = (created_texts (g.V.StoreView.db c.args.view.now) c.requires.sound.well_formed.created).1 in
    let same = ap length c.requires.creates in
    omega arith

pub write_creates-requires-clause-each : goal.write_creates-requires-clause-each
write_creates-requires-clause-each g c =
    subst (AllByRecursion (λ create. IsCountable create.text)) (sym c.requires.creates) (countable_texts (g.V.StoreView.db c.args.view.now) c.requires.sound.well_formed.created)

pub write_tables-requires-clause-few : goal.write_tables-requires-clause-few
write_tables-requires-clause-few g c = (sound_rows (g.V.StoreView.db c.args.view.now) c.requires.sound).2

pub write_tables-requires-clause-each : goal.write_tables-requires-clause-each
write_tables-requires-clause-each g c = (sound_rows (g.V.StoreView.db c.args.view.now) c.requires.sound).1

pub write_tables-requires-clause-rows : goal.write_tables-requires-clause-rows
write_tables-requires-clause-rows g c = (sound_rows (g.V.StoreView.db c.args.view.now) c.requires.sound).0

pub returns : goal.returns
returns g c =
    let db = g.V.StoreView.db c.args.view.now in
    let fits : c.args.commits < 2 ^ 64 = omega arith in
    let typed : IsTypedImage (image_from db c.args.commits) = record {
      creates = subst (AllByRecursion (λ create. IsUtf8 create.text)) c.requires.creates c.in_ok-write_creates.ensures.typed;
      tables = c.in_ok-write_tables.ensures.typed;
    } in
    gated db c.args.commits c.from_vec.result c.requires.sound fits typed
    (one_behind_another db c.args.commits c.new-out.result.items c.push.new.self.items c.write_u64.new.out.items c.write_creates.new.out.items c.write_tables.new.out.items c.push-2.new.self.items
    c.from_vec.result c.new-out.ensures.items c.in_ok-push.ensures.items c.in_ok-write_u64.ensures
    (subst (λ creates. c.write_creates.new.out.items ≡ c.write_u64.new.out.items ++ list_spelling create_spelling creates) c.requires.creates c.in_ok-write_creates.ensures.written)
    c.in_ok-write_tables.ensures.written c.in_ok-push-2.ensures.items c.from_vec.ensures)
