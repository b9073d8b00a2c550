use Rattle.go_tree_nodes.specs.TypeShapes.{shape_signature}
use Rattle.go_env_core.specs.Scenes.{scene_shown}
use Rattle.go_env_core.specs.Looks.{here_looks, inline_rules}
use Rattle.go_body_core.specs.Rules.{outside_looks}
use Rattle.go_body_core.proofs.Standing.{top_standing, results_by}
use Rattle.go_body_core.proofs.pieces.Pieces.results_at.Goals as goal

pub returns : goal.returns
returns c =
    let h = c.stand-here.ensures in
    let s = scene_shown c.args.self.now.scene.now in
    results_by c.function_results.result (here_looks c.stand-here.result) (outside_looks s c.args.self.now.file c.args.self.now.known.now (inline_rules s c.args.self.now.inline.now)) (shape_signature c.args.func.now.signature)
    (top_standing c.stand-here.result c.args.self.now.scene.now c.args.self.now.file c.args.self.now.inline.now c.args.self.now.known.now c.args.names.now h.scene h.file h.inline h.known h.names c.requires.scopes c.requires.locals)
    c.function_results.ensures
