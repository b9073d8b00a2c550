use Rattle.std.proofs.Common.{◌≡◌, map}
use Rattle.std.proofs.lemmas.Result.{IfOk-weaker}
use Rattle.go_term_core.specs.decl_core.Shown.{decl_shown}
use Rattle.go_inline_core.specs.Trees.{outline_types}
use Rattle.go_inline_core.specs.Inline.{inlines}
use Rattle.go_inline_core.specs.Functions.{kinds_in_ground, file_in, top_in}
use Rattle.go_inline_core.proofs.Found.{listed_alike, listed_placed}
use Rattle.go_inline_core.proofs.function.initialiser_types.Goals as goal

pub returns-clause-listed : goal.returns-clause-listed
returns-clause-listed g c =
    let kind = kinds_in_ground c.args.ground.now in
    let file = file_in c.args.ground.now in
    let top = top_in g.P.ImportedNames.shows c.args.ground.now in
    let ds = map decl_shown c.args.decls.now in
    IfOk-weaker c.declared_types.result (λ types. types ≡ inlines kind file top (outline_types ds)) _ (λ types is. listed_alike kind file top ds types is) c.declared_types.ensures

pub returns-clause-placed : goal.returns-clause-placed
returns-clause-placed g c =
    let kind = kinds_in_ground c.args.ground.now in
    let file = file_in c.args.ground.now in
    let top = top_in g.P.ImportedNames.shows c.args.ground.now in
    let ds = map decl_shown c.args.decls.now in
    IfOk-weaker c.declared_types.result (λ types. types ≡ inlines kind file top (outline_types ds)) _ (λ types is f placed. listed_placed kind file top ds types is f) c.declared_types.ensures
