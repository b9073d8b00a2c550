use Rattle.std.proofs.Common.{sym, ap, ◌∙◌, subst, List, map}
use Rattle.std.proofs.lemmas.Result.{IfOk-weaker}
use Rattle.go_term_core.specs.decl_core.declared.keys.DeclRef.{DeclRef}
use Rattle.go_block_core.specs.Exports.{name_and_decl}
use Rattle.go_summary_core.specs.declared_core.Held.{declared_shown}
use Rattle.go_summary_core.specs.declared_core.Packages.{DeclaredOf, decls_declared, names_seen, package_faces}
use Rattle.go_summary_core.specs.declared_core.Written.{DeclsRise, decls_of}
use Rattle.go_report_core.specs.answer.Shown.{exported_decls, shown_among}
use Rattle.go_report_core.proofs.AnswerListed.{moved_shown}
use Rattle.go_report_core.proofs.AnswerRising.{shown_rise}
use Rattle.go_report_core.proofs.answer.faces.shown_faces.Goals as goal

pub new-requires : goal.new-requires
new-requires c =
    subst (λ (l : List DeclaredOf). DeclsRise (decls_declared l)) (sym c.in_ok-faces.ensures.faces) (shown_rise c.deref-2.result.now (decls_of c.args.written.now) c.args.known.now c.in_ok-faces.ensures.rising)

pub returns : goal.returns
returns c =
    let ds = decls_of c.args.written.now in
    let known = c.args.known.now in
    let seen = names_seen c.args.blocks.now.names in
    let exported = c.in_ok-shown.ensures ∙ (ap (λ b. exported_decls (map name_and_decl b)) c.deref.ensures.value ∙ ap exported_decls c.in_ok-block.ensures) in
    let faces =
    c.in_ok-faces.ensures.faces
    ∙ (ap (λ (these : List DeclRef). shown_among these ds known) c.deref-2.ensures.value
    ∙ (moved_shown c.in_ok-shown.shown.items c.sort.new.decls.items ds known c.sort.ensures.moved ∙ ap (λ (these : List DeclRef). shown_among these ds known) exported))
    in
    IfOk-weaker c.new.result _ _
    (λ p is. is ∙ (ap (λ path. package_faces path seen (map declared_shown c.in_ok-faces.faces.items)) c.in_ok-share.ensures ∙ ap (λ (l : List DeclaredOf). package_faces c.args.path.now seen l) faces))
    c.new.ensures
