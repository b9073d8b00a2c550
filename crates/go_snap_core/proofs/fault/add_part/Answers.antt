use Rattle.std.proofs.Common.{◌≡◌, ◌++◌, ◌<◌, length, map, get_or, sym, ap, ◌∙◌, arith}
use Rattle.std.proofs.lemmas.List.{get_or-map, length-map}
use Rattle.go_emit_core.specs.package_core.PackagePartParts.{ContentOf, file_shown}
use Rattle.go_snap_core.specs.mirrors.Reports.{placed}
use Rattle.go_snap_core.proofs.Adding.{part_more}
use Rattle.go_snap_core.proofs.fault.add_part.Goals as goal

pub loop-file-preserved : goal.loop-file-preserved
loop-file-preserved c =
    let number = c.args.«package» in
    let i = c.loop-file.file in
    let files = c.args.part.now.content.files in
    let made = c.content.result.now.files.items in
    let f = file_shown c.index.result.now in
    let old = c.loop-file.faults.items in
    let same : map file_shown made ≡ files = ap (λ (x : ContentOf). x.files) c.content.ensures.value in
    let below : i < length made = omega (arith, c.loop-file-test.true, c.len-file-end.ensures, c.content.result.now.files.ok.0) in
    let lt : i < length files = omega (arith, below, length-map made file_shown, ap length same) in
    let at : f ≡ get_or files i f = ap file_shown c.index.ensures ∙ (sym (get_or-map file_shown made i c.index.result.now f below) ∙ ap (λ l. get_or l i f) same) in
    part_more number i files f c.args.faults.now.items old c.add_report.new.faults.items lt at c.loop-file.invariant (c.in_ok-add_report.ensures ∙ ap (λ l. old ++ map (placed number i) l) c.deref.ensures.value)
