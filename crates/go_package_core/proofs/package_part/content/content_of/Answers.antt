use Rattle.std.proofs.Common.{length, map, sym, ap, subst, ◌∙◌}
use Rattle.go_block_core.specs.graph_core.Workspaces.{PackageModel}
use Rattle.go_package_core.specs.prepare.Packages.{trees_in}
use Rattle.go_package_core.specs.Checked.{answers_shown}
use Rattle.go_report_core.specs.summary_core.Summaries.{summary_of}
use Rattle.go_package_core.specs.package_part.Parts.{AreFilesMade, file_shown}
use Rattle.go_package_core.proofs.package_part.content.content_of.Goals as goal

pub files_made-requires : goal.files_made-requires
files_made-requires c = c.requires.many ∙ ap (λ (p : PackageModel). length (trees_in p)) (sym c.package-package.ensures)

pub summarize-requires-clause-types : goal.summarize-requires-clause-types
summarize-requires-clause-types c = c.requires.path ∙ ap (λ (p : PackageModel). p.0) (sym c.package-package.ensures)

pub summarize-requires-clause-faces : goal.summarize-requires-clause-faces
summarize-requires-clause-faces c = c.requires.faces ∙ ap (λ (p : PackageModel). p.0) (sym c.package-package.ensures)

pub returns-clause-files : goal.returns-clause-files
returns-clause-files c = subst (λ (p : PackageModel). AreFilesMade c.args.blocks (trees_in p) (map answers_shown c.args.checked.files.items) (map file_shown c.in_ok-files.files.items)) c.package-package.ensures c.in_ok-files.ensures

pub returns-clause-summary : goal.returns-clause-summary
returns-clause-summary c = c.in_ok-summary.ensures ∙ ap (λ (p : PackageModel). summary_of p c.args.blocks c.args.checked.types c.args.checked.faces) c.package-package.ensures
