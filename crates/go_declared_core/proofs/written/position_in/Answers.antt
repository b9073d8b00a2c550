use Rattle.std.proofs.Common.{rules}
use Rattle.std.proofs.lemmas.Fn.{always_returns_same}
use Rattle.go_term_core.specs.decl_core.Order.{place_cmp}
use Rattle.go_declared_core.proofs.Searching.{place_found, place_missing}
use Rattle.go_declared_core.proofs.written.position_in.Goals as goal

pub returns-in-Ok : goal.returns-in-Ok
returns-in-Ok c =
    place_found c.args.decls.now c.args.decl c.in-Ok.place c.requires c.in-Ok.ensures.bound
    (c.in-Ok.ensures.position (λ w. place_cmp w.decl c.args.decl) (always_returns_same _ _ _ (λ a r f' k. search rules)))

pub returns-in-Err : goal.returns-in-Err
returns-in-Err c =
    place_missing c.args.decls.now c.args.decl c.in-Err.field-0 c.requires
    (c.in-Err.ensures.position (λ w. place_cmp w.decl c.args.decl) (always_returns_same _ _ _ (λ a r f' k. search rules)))
