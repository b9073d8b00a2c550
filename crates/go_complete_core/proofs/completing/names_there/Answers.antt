use Rattle.std.proofs.Common.{Bor, List, map, ap, subst, ◌∙◌}
use Rattle.std.specs.Option.{option_map}
use Rattle.std.proofs.lemmas.Result.{IfOk-weaker}
use Rattle.go_tree_nodes.specs.Shapes.{file_of}
use Rattle.go_tree_nodes.specs.declared.names.Ident.{Ident}
use Rattle.go_names_core.specs.block_core.Blocks.{BlocksModel}
use Rattle.go_candidate_core.specs.context.Alone.{HasLocals}
use Rattle.go_package_core.specs.summary_core.Summaries.{SummaryModel}
use Rattle.go_package_core.specs.summary_core.Views.{faces_told}
use Rattle.go_package_core.specs.package_part.Inputs.{InputModel}
use Rattle.go_package_core.specs.package_part.Parts.{ContentOf}
use Rattle.go_cursor_core.specs.Shown.{idents_shown, spot_shown}
use Rattle.go_cursor_core.specs.Spots.{spot_seen}
use Rattle.go_complete_core.specs.place.Completions.{texts_of}
use Rattle.go_complete_core.specs.mirrors.Answering.{AreAnswered}
use Rattle.go_complete_core.proofs.Answered.{completes}
use Rattle.go_complete_core.proofs.completing.names_there.Goals as goal

pub returns-clause-ok : goal.returns-clause-ok
returns-clause-ok c =
    let part = c.args.part.now in
    let scopes = c.in_ok-scopes.scopes in
    let found = c.args.found.now in
    let blocks : HasLocals part.content.blocks c.args.number (idents_shown c.deref.result.now) scopes =
    subst (λ (b : BlocksModel). HasLocals b c.args.number (idents_shown c.deref.result.now) scopes) (ap (λ (k : ContentOf). k.blocks) c.content-content.ensures.value) c.in_ok-scopes.ensures.value in
    let has : HasLocals part.content.blocks c.args.number (idents_shown found.«open».items) scopes =
    subst (λ (l : List (Bor Ident)). HasLocals part.content.blocks c.args.number (idents_shown l) scopes) c.deref.ensures.value blocks in
    let told = c.reached-reached.ensures.value ∙ ap (λ (i : InputModel). i.reached) c.input.ensures in
    IfOk-weaker c.names_at.result _ _
    (λ r h. completes part c.content-content.ensures.made c.args.number (file_of c.args.tree.now) (spot_seen found) scopes (option_map texts_of r) c.requires.spot has
    (subst (λ (ss : List SummaryModel). AreAnswered scopes (faces_told ss) (spot_shown found.spot) (option_map texts_of r)) told h)) c.names_at.ensures.ok
