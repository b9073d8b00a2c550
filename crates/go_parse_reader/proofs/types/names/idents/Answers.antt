use Rattle.std.proofs.Common.{refl, sym, ap, ◌∙◌, Ok}
use Rattle.std.proofs.lemmas.Result.{err_from_is_err_and}
use Rattle.go_tree_nodes.specs.TypeShapes.{idents_from}
use Rattle.go_parse_reader.proofs.TypesCodeIdents.{idents_start, idents_start_fails, idents_push, idents_fails, idents_end, idents_turn_shorter}
use Rattle.go_parse_reader.proofs.types.names.idents.Goals as goal

pub turns-init : goal.turns-init
turns-init c = idents_start _ _ _ _ c.new-more.ensures.items c.in_ok-first.ensures

pub turns-smaller : goal.turns-smaller
turns-smaller c = idents_turn_shorter _ _ _ _ c.in-Some.ensures c.in_ok-ident.ensures

pub turns-preserved : goal.turns-preserved
turns-preserved c = idents_push _ _ _ _ _ _ _ _ c.turns.invariant c.in-Some.ensures c.in_ok-ident.ensures refl c.in_ok-add.ensures

pub returns-in_err-first : goal.returns-in_err-first
returns-in_err-first c =
    let p = err_from_is_err_and c.from_residual.result c.from_residual.ensures.1 in
    rw (p.1, p.2) (idents_start_fails _ _ c.in_err-first.ensures)

pub returns-in_err-ident : goal.returns-in_err-ident
returns-in_err-ident c =
    let p = err_from_is_err_and c.from_residual-in_err-ident.result c.from_residual-in_err-ident.ensures.1 in
    rw (p.1, p.2) (idents_fails _ _ _ _ _ _ c.turns.invariant c.in-Some.ensures c.in_err-ident.ensures)

pub returns : goal.returns
returns c =
    idents_end _ _ _ _ c.turns.invariant c.in_default.ensures ∙ ap (λ l. Ok (idents_from c.in_ok-first.first l, c.turns.rest)) (sym c.fitted-more.ensures)
