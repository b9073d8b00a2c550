use Rattle.std.proofs.Common.{map, ap}
use Rattle.std.specs.Prelude.{option_map}
use Rattle.std.proofs.lemmas.Result.{IfOk-weaker}
use Rattle.go_term_core.specs.Shapes.{shape}
use Rattle.go_type_doc_core.specs.TypeDocs.{member_shown}
use Rattle.go_type_doc_core.proofs.Zipped.{none_told, some_told}
use Rattle.go_type_doc_core.proofs.telling.members_told.Goals as goal

pub returns-in-Some : goal.returns-in-Some
returns-in-Some c =
    IfOk-weaker c.term_told.result _ _ (λ told h. some_told c.args.snapshot.now c.args.table.now (option_map shape c.args.term.now) c.args.from.now (map member_shown told.items) (shape c.in-Some.term) (ap (option_map shape) c.in-Some.is) h) c.term_told.ensures

pub returns-in-None : goal.returns-in-None
returns-in-None c = none_told c.args.snapshot.now c.args.table.now (option_map shape c.args.term.now) c.args.from.now (map member_shown c.new.result.items) (ap (option_map shape) c.in-None.is) (ap (map member_shown) c.new.ensures.items)
