use Rattle.std.proofs.Common.{◌++◌, map, sym, ap, ◌∙◌, append-nil}
use Rattle.std.proofs.lemmas.List.{take_all}
use Rattle.go_term_core.specs.decl_core.Shown.{decl_shown}
use Rattle.go_typexpr_core.specs.written.Written.{in_file}
use Rattle.go_typexpr_core.specs.aliases.Outlined.{file_aliases}
use Rattle.go_typexpr_core.specs.aliases.Shown.{alias_shown}
use Rattle.go_typexpr_core.proofs.AliasesRising.{decl_step}
use Rattle.go_typexpr_core.proofs.aliases.outlined.add_aliases.Goals as goal

pub loop-decl-init : goal.loop-decl-init
loop-decl-init g c = sym (append-nil (map alias_shown c.args.aliases.now.items))

pub loop-decl-preserved : goal.loop-decl-preserved
loop-decl-preserved g c =
    decl_step (g.N.TypeNames.meaning c.args.names.now) (in_file c.args.at.now) c.args.decls.now c.loop-decl.decl-index c.decl-item.result (map alias_shown c.args.aliases.now.items) _ _ c.loop-decl-test.true c.decl-item.is c.loop-decl.invariant c.in_ok-add_alias.ensures

pub returns : goal.returns
returns g c =
    c.loop-decl.invariant
    ∙ ap (λ ds. map alias_shown c.args.aliases.now.items ++ file_aliases (g.N.TypeNames.meaning c.args.names.now) (in_file c.args.at.now) (map decl_shown ds)) (take_all c.loop-decl.decl-index c.args.decls.now c.loop-decl-test.false)
