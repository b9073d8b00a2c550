use Rattle.std.proofs.Common.{◌≡◌, map, length, drop}
use Rattle.go_names_core.specs.Scenes.{name_scene, locals_declared}
use Rattle.go_names_core.proofs.declaring.declare_locals.Given as goal

abbrev pub invariant-loop-ident : goal.invariant-loop-ident
invariant-loop-ident g l =
    locals_declared (name_scene l.fn.scopes l.fn.locals.items) (map (λ i. i.now) l.idents) l.means ≡ locals_declared (name_scene l.scopes l.locals.items) (map (λ i. i.now) (drop (length l.yielded) l.idents)) (drop (length l.yielded) l.means)
