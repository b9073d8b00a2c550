use Rattle.std.proofs.Common.{◌≡◌, [], ◌∷◌, ◌++◌, false, refl, subst}
use Rattle.std.specs.Result.{OnOk}
use Rattle.go_scope_core.specs.Scopes.{with_open}
use Rattle.go_local_core.specs.Steps.{Declare, EachFirst}
use Rattle.go_names_core.specs.Body.{func_idents, func_header}
use Rattle.go_names_core.specs.mirrors.States.{state}
use Rattle.go_branch_core.specs.mirrors.Ways.{Comes}
use Rattle.go_names_core.proofs.BodyLemmas.{when_ok}
use Rattle.go_branch_core.proofs.Stepping.{declared_at}
use Rattle.go_branch_core.proofs.walk.Walk.header.Goals as goal

pub returns : goal.returns
returns g c =
    let self = c.args.self.now in
    let rules = g.C.Checker.rules self.checker.now in
    let outside = g.C.Meaning.Meant.outside in
    let opened : c.enter.new.self ≡ with_open self.scopes (self.scopes.open_blocks ++ [] ∷ []) = when_ok c.enter.result c.is_err.result c.is_err.ensures.value c.if-is_err.false c.enter.ensures.ok in
    subst (λ s. OnOk c.declare.result (Comes _ _ outside (state rules s self.locals.items self.notes.items self.faults.items false) (λ rest. Declare EachFirst c.args.func.now.open_brace.start (func_header c.args.func.now) (func_idents c.args.func.now) rest) (state rules c.declare.new.scopes c.declare.new.locals.items c.check_header.new.notes.items c.declare.new.faults.items false))) opened
    (declared_at outside rules (g.met.C.Checker.at_names self.checker.now) c.declare.result c.enter.new.self c.declare.new.scopes self.locals.items c.declare.new.locals.items
    self.notes.items c.check_header.new.notes.items self.faults.items c.declare.new.faults.items false false
    c.args.func.now.open_brace.start (func_header c.args.func.now) (func_idents c.args.func.now)
    c.in_ok-news.news c.as_slice-2.result.now c.in_ok-means.means.items c.as_slice-3.result.now c.at-names.result c.as_slice.result.now
    c.at-names.ensures.scopes c.at-names.ensures.locals c.as_slice.ensures.value refl c.in_ok-news.ensures c.as_slice-2.ensures.value c.as_slice-3.ensures.value
    c.in_ok-means.ensures.notes c.in_ok-means.ensures.means c.declare.ensures.faults c.declare.ensures.scene)
