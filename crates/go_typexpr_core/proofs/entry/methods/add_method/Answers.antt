use Rattle.std.proofs.Common.{Option, map, sym, ap, ◌∙◌}
use Rattle.go_tree_nodes.specs.Shapes.{func_of}
use Rattle.go_tree_nodes.specs.declared.files.Receiver.{Receiver}
use Rattle.go_term_core.specs.decl_core.declared.tops.DeclForm.{DeclForm}
use Rattle.go_term_core.specs.decl_core.Shown.{decl_shown, form_shown}
use Rattle.go_type_core.specs.table_core.Shown.{entry_shown}
use Rattle.go_typexpr_core.specs.written.Written.{in_file}
use Rattle.go_typexpr_core.specs.entry.Entries.{decl_methods, func_methods}
use Rattle.go_typexpr_core.specs.entry.mirrors.Gaining.{all_gaining}
use Rattle.go_typexpr_core.proofs.EntryGains.{all_gaining_none}
use Rattle.go_typexpr_core.proofs.entry.methods.add_method.Goals as goal

pub returns-in-None : goal.returns-in-None
returns-in-None g c =
    let mean = g.N.TypeNames.meaning c.args.names.now in
    let f = in_file c.args.at.now in
    let d = decl_shown c.args.decl.now in
    let es = map entry_shown c.args.entries.now.items in
    sym (ap (λ (form : DeclForm). all_gaining (decl_methods mean f d (form_shown form)) es) c.in-Func.is
    ∙ (ap (λ (r : Option Receiver). all_gaining (func_methods mean f d (func_of c.in-Func.func.now) r) es) c.in-None.is
    ∙ all_gaining_none es))

pub returns-in-Value : goal.returns-in-Value
returns-in-Value g c =
    let mean = g.N.TypeNames.meaning c.args.names.now in
    let f = in_file c.args.at.now in
    let d = decl_shown c.args.decl.now in
    let es = map entry_shown c.args.entries.now.items in
    sym (ap (λ (form : DeclForm). all_gaining (decl_methods mean f d (form_shown form)) es) c.in-Value.is ∙ all_gaining_none es)

pub returns-in-Type : goal.returns-in-Type
returns-in-Type g c =
    let mean = g.N.TypeNames.meaning c.args.names.now in
    let f = in_file c.args.at.now in
    let d = decl_shown c.args.decl.now in
    let es = map entry_shown c.args.entries.now.items in
    sym (ap (λ (form : DeclForm). all_gaining (decl_methods mean f d (form_shown form)) es) c.in-Type.is ∙ all_gaining_none es)
