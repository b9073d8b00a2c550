use Rattle.std.proofs.Common.{map, ap, sym, ◌∙◌}
use Rattle.std.proofs.lemmas.Result.{IfOk-weaker}
use Rattle.go_term_core.specs.decl_core.Shown.{decl_shown}
use Rattle.go_body_core.specs.typexpr_core.EntryMeanings.{file_meaning}
use Rattle.go_term_core.specs.decl_core.declared.keys.DeclKey.{DeclKey}
use Rattle.go_term_core.specs.settling.Settled.{kind_of_term}
use Rattle.go_type_core.specs.table_core.Entries.{find_entry, term_in}
use Rattle.go_inline_core.specs.Inline.{inlines}
use Rattle.go_inline_core.specs.Trees.{file_types, outline_types}
use Rattle.go_inline_core.proofs.Outlines.{outline_all}
use Rattle.go_package_core.specs.prepare.Packages.{package_in_shown, shows_in}
use Rattle.go_package_core.proofs.prepare.inlines.file_initial.Goals as goal

pub returns : goal.returns
returns g c =
    let p = package_in_shown g.P.ImportedNames.shows c.args.at.now in
    let kind = λ (k : DeclKey). kind_of_term (term_in (find_entry c.args.types.now k)) in
    let f = c.requires.placed.file in
    let decls = ap (λ o. o.decls) c.requires.placed.is in
    let names = g.N.ImportedNames.shows c.args.names.now in
    IfOk-weaker c.initialiser_types.result _ _
    (λ w made.
    made f c.requires.placed.placed (ap (map decl_shown) c.deref.ensures.value ∙ decls)
    ∙ (ap (λ path. inlines kind (record { path = path; file = c.args.file; places = c.args.outline.now.places }) (file_meaning names path p.blocks c.args.file) (file_types f)) c.path.ensures
    ∙ (ap (λ shows. inlines kind (record { path = p.path; file = c.args.file; places = c.args.outline.now.places }) (file_meaning shows p.path p.blocks c.args.file) (file_types f)) c.requires.names
    ∙ ap (inlines kind (record { path = p.path; file = c.args.file; places = c.args.outline.now.places }) (file_meaning (shows_in p) p.path p.blocks c.args.file)) (sym (ap outline_types decls ∙ outline_all f)))))
    c.initialiser_types.ensures.placed
