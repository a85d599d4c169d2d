use Rattle.std.proofs.Common.{ap, sym, ◌∙◌}
use Rattle.std.specs.Option.{option_copied}
use Rattle.std.proofs.lemmas.Result.{on_ok_weaker}
use Rattle.page_model.specs.Paged.{items}
use Rattle.micro_db.proofs.FiledLemmas.{keyed-filed, none_is, puts_filed, puts_nothing}
use Rattle.micro_db.proofs.files.Files.put.Goals as goal

pub returns-then-is_none-2 : goal.returns-then-is_none-2
returns-then-is_none-2 g c =
    puts_nothing g.T.OfRow.name_of c.args.subject.now c.args.name.now c.args.item c.in_ok-owner.owner c.in_ok-own.own c.in_ok-filed.filed c.in_ok-owner.ensures c.in_ok-own.ensures c.in_ok-filed.ensures.given c.if-is_none.ensures
    (items c.self.inside.pages) c.args.self.now c.self.view_is (sym c.get.ensures ∙ ap option_copied (none_is c.get.result c.if-is_none-2.ensures))

pub change-requires : goal.change-requires
change-requires g c =
    keyed-filed g.T.OfRow.name_of c.args.subject.now c.args.name.now c.args.item c.in_ok-owner.owner c.in_ok-own.own c.in_ok-filed.filed c.in_ok-owner.ensures c.in_ok-own.ensures c.in_ok-filed.ensures.given c.in_ok-filed.ensures.under c.requires

pub returns : goal.returns
returns g c =
    on_ok_weaker c.change.result
    (puts_filed g.T.OfRow.name_of c.args.subject.now c.args.name.now c.args.item c.in_ok-owner.owner c.in_ok-own.own c.in_ok-filed.filed c.in_ok-owner.ensures c.in_ok-own.ensures c.in_ok-filed.ensures.given c.in_ok-filed.ensures.under c.requires
    (items c.self.inside.pages) c.args.self.now (items c.change.new.self) c.self.view_is)
    c.change.ensures.items
