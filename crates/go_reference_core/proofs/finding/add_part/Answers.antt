use Rattle.std.proofs.Common.{◌≡◌, ◌<◌, ◌≤◌, length, map, get_or, sym, ap, subst, ◌∙◌, arith}
use Rattle.std.proofs.lemmas.List.{get_or-map, length-map}
use Rattle.go_handle_core.specs.Declarations.{site_shown}
use Rattle.go_query_core.specs.package_core.PackagePartParts.{ContentOf, file_shown}
use Rattle.go_reference_core.specs.mirrors.Adding.{Adds, IsOfUses}
use Rattle.go_reference_core.proofs.Found.{files_end, files_start, files_step}
use Rattle.go_reference_core.proofs.finding.add_part.Goals as goal

pub loop-file-init : goal.loop-file-init
loop-file-init c = files_start (site_shown c.args.site) c.args.«package» c.args.part.now.content.files c.args.references.now.items

pub loop-file-preserved : goal.loop-file-preserved
loop-file-preserved c =
    let i = c.loop-file.file in
    let files = c.args.part.now.content.files in
    let made = c.content.result.now.files.items in
    let f = file_shown c.index.result.now in
    let same : map file_shown made ≡ files = ap (λ (x : ContentOf). x.files) c.content.ensures.value in
    let below : i < length made = omega (arith, c.loop-file-test.true, c.len-file-end.ensures, c.content.result.now.files.ok.0) in
    let lt : i < length files = omega (arith, below, length-map made file_shown, ap length same) in
    let at : f ≡ get_or files i f = ap file_shown c.index.ensures ∙ (sym (get_or-map file_shown made i c.index.result.now f below) ∙ ap (λ l. get_or l i f) same) in
    files_step (site_shown c.args.site) c.args.«package» files c.args.references.now.items i f c.loop-file.references.items c.add_uses.new.references.items lt at c.loop-file.invariant
    (subst (λ us. Adds (IsOfUses (site_shown c.args.site) c.args.«package» i us) c.loop-file.references.items c.add_uses.new.references.items) c.deref.ensures.value c.in_ok-add_uses.ensures)

pub returns : goal.returns
returns c =
    let files = c.args.part.now.content.files in
    let made = c.content.result.now.files.items in
    let same : map file_shown made ≡ files = ap (λ (x : ContentOf). x.files) c.content.ensures.value in
    let le : length files ≤ c.loop-file.file = omega (arith, c.loop-file-test.false, c.len-file-end.ensures, c.content.result.now.files.ok.0, length-map made file_shown, ap length same) in
    files_end (site_shown c.args.site) c.args.«package» files c.args.references.now.items c.loop-file.file c.loop-file.references.items le c.loop-file.invariant
