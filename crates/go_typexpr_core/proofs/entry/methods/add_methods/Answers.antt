use Rattle.std.proofs.Common.{map, take, sym, ap, ◌∙◌}
use Rattle.std.proofs.lemmas.List.{take_all}
use Rattle.go_term_core.specs.decl_core.Shown.{decl_shown}
use Rattle.go_type_core.specs.table_core.Shown.{entry_shown}
use Rattle.go_typexpr_core.specs.written.Written.{in_file}
use Rattle.go_typexpr_core.specs.entry.Entries.{file_methods}
use Rattle.go_typexpr_core.specs.entry.mirrors.Gaining.{all_gaining}
use Rattle.go_typexpr_core.proofs.EntryGains.{all_gaining_none, methods_step, rise_gained}
use Rattle.go_typexpr_core.proofs.entry.methods.add_methods.Goals as goal

pub loop-decl-init : goal.loop-decl-init
loop-decl-init g c = sym (all_gaining_none (map entry_shown c.args.entries.now.items))

pub add_method-requires : goal.add_method-requires
add_method-requires g c = rise_gained (file_methods (g.N.TypeNames.meaning c.args.names.now) (in_file c.args.at.now) (map decl_shown (take c.loop-decl.decl-index c.args.decls.now))) (map entry_shown c.args.entries.now.items) (map entry_shown c.loop-decl.entries.items) c.requires c.loop-decl.invariant

pub loop-decl-preserved : goal.loop-decl-preserved
loop-decl-preserved g c =
    methods_step (g.N.TypeNames.meaning c.args.names.now) (in_file c.args.at.now) c.args.decls.now c.loop-decl.decl-index c.decl-item.result (map entry_shown c.args.entries.now.items) _ _ c.loop-decl-test.true c.decl-item.is c.loop-decl.invariant c.in_ok-add_method.ensures

pub returns : goal.returns
returns g c =
    c.loop-decl.invariant
    ∙ ap (λ ds. all_gaining (file_methods (g.N.TypeNames.meaning c.args.names.now) (in_file c.args.at.now) (map decl_shown ds)) (map entry_shown c.args.entries.now.items)) (take_all c.loop-decl.decl-index c.args.decls.now c.loop-decl-test.false)
