use Rattle.std.proofs.Common.{rules}
use Rattle.std.proofs.lemmas.Fn.{always_returns_same}
use Rattle.go_term_core.specs.decl_core.Order.{place_cmp}
use Rattle.go_declared_core.proofs.Searching.{face_found, face_missing}
use Rattle.go_declared_core.proofs.shown.face_among.Goals as goal

pub returns-in-Ok : goal.returns-in-Ok
returns-in-Ok c =
    face_found c.args.faces.now c.args.decl c.in-Ok.place c.index-faces-place.result c.requires c.in-Ok.ensures.bound
    (c.in-Ok.ensures.position (λ e. place_cmp e.decl c.args.decl) (always_returns_same _ _ _ (λ a r f' k. search rules)))

pub returns-in-Err : goal.returns-in-Err
returns-in-Err c =
    face_missing c.args.faces.now c.args.decl c.in-Err.field-0 c.requires
    (c.in-Err.ensures.position (λ e. place_cmp e.decl c.args.decl) (always_returns_same _ _ _ (λ a r f' k. search rules)))
