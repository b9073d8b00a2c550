use Rattle.std.proofs.Common.{List, map, ap, ◌∙◌}
use Rattle.go_typexpr_core.specs.entry.Meanings.{declared_alone}
use Rattle.go_typexpr_core.specs.entry.Outlines.{FileOutline, outline_of, outline_shown}
use Rattle.go_typexpr_core.specs.entry.Showing.{shown_in}
use Rattle.go_summary_core.specs.declared_core.Written.{WrittenOf, package_written, position_of}
use Rattle.go_package_core.specs.package_part.Inputs.{InputModel}
use Rattle.go_package_core.specs.package_part.Parts.{package_seen, seen_by}
use Rattle.go_package_core.proofs.PrepareMade.{all_outlines}
use Rattle.go_package_core.specs.prepare.Packages.{PackageIn, shows_in, trees_in}
use Rattle.go_type_doc_core.specs.Naming.{types_seen}
use Rattle.go_type_doc_core.proofs.Placed.{written_alike}
use Rattle.go_type_doc_core.proofs.naming.own_written.Goals as goal

pub written_faces-requires : goal.written_faces-requires
written_faces-requires c = all_outlines (map outline_shown c.deref.result.now) _ (ap (λ os. map outline_shown os) c.deref.ensures.value ∙ c.in_ok-outlines.ensures.outlines)

pub returns : goal.returns
returns c = λ d.
    let p = c.args.part.now in
    let seen : PackageIn = package_seen p.input p.content.blocks (seen_by p.input) in
    let source = c.package.ensures ∙ ap (λ (i : InputModel). i.source) c.input-input.ensures in
    ap (λ (ws : List WrittenOf). position_of ws d) c.in_ok-written.ensures
    ∙ (written_alike (declared_alone (shown_in c.new-shown.result)) (shows_in seen) c.path-path.result.now seen.path c.content-content.result.now.blocks seen.blocks c.args.table.now (types_seen p) d (map outline_shown c.deref.result.now)
    ∙ ap (λ (os : List FileOutline). position_of (package_written (shows_in seen) seen.path seen.blocks (types_seen p) os) d)
    (ap (λ os. map outline_shown os) c.deref.ensures.value ∙ (c.in_ok-outlines.ensures.outlines ∙ ap (λ s. map outline_of (trees_in s)) source)))
