use Rattle.std.proofs.Common.{◌≡◌, IfOk, ap, subst, ◌∙◌}
use Rattle.std.specs.Borrow.{Bor}
use Rattle.std.specs.Prelude.{Result}
use Rattle.std.specs.declared.alloc.AllocError.{AllocError}
use Rattle.std.specs.List.{AllZip}
use Rattle.std.proofs.Crossing.{crosses}
use denote.Ref.{NamedLft}
use denote.Param.{param}
use denote.Param.Send.{sendable}
use Rattle.rayon.proofs.ToStd.{slice-AllZip}
use Rattle.go_body_core.specs.declared.file.runs.Run.{Run}
use Rattle.go_body_core.specs.declared.file.whole.CheckedFile.{CheckedFile}
use Rattle.go_body_core.specs.file.Package.{checked_file_shown}
use Rattle.go_body_core.specs.file.Runs.{run_checked}
use Rattle.go_body_core.specs.file.Stands.{stand_of}
use Rattle.go_body_core.proofs.FileCollecting.{Gives, collected}
use Rattle.go_body_core.proofs.FileCrossing.{checked_file_row_send, file_at_row_sync, run_row_sync}
use Rattle.go_body_core.proofs.file.split.check_runs.Goals as goal

pub with_min_len-requires-send-Self : goal.with_min_len-requires-send-Self
with_min_len-requires-send-Self g c κs = search (run_row_sync, crosses, sendable) depth 40

pub with_min_len-requires-send-Self-Item : goal.with_min_len-requires-send-Self-Item
with_min_len-requires-send-Self-Item g c κs = search (run_row_sync, crosses, sendable) depth 40

pub map-requires-send-Self : goal.map-requires-send-Self
map-requires-send-Self g c κs = search (run_row_sync, crosses, sendable) depth 40

pub map-requires-send-Self-Item : goal.map-requires-send-Self-Item
map-requires-send-Self-Item g c κs = search (run_row_sync, crosses, sendable) depth 40

pub map-requires-send-U : goal.map-requires-send-U
map-requires-send-U g c κs = search (checked_file_row_send, crosses, sendable) depth 40

pub map-requires-send-F : goal.map-requires-send-F
map-requires-send-F g c κs =
    let file = λ (κ : NamedLft) (μ : NamedLft). file_at_row_sync κ μ (param 1 g.row.P) c.type_bounds.sync-P in
    search (file, crosses, sendable) depth 40

pub map-requires-sync-F : goal.map-requires-sync-F
map-requires-sync-F g c κs =
    let file = λ (κ : NamedLft) (μ : NamedLft). file_at_row_sync κ μ (param 1 g.row.P) c.type_bounds.sync-P in
    search (file, crosses, sendable) depth 40

pub collect-requires-send-Self : goal.collect-requires-send-Self
collect-requires-send-Self g c κs =
    let file = λ (κ : NamedLft) (μ : NamedLft). file_at_row_sync κ μ (param 1 g.row.P) c.type_bounds.sync-P in
    search (file, run_row_sync, crosses, sendable) depth 40

pub collect-requires-send-Self-Item : goal.collect-requires-send-Self-Item
collect-requires-send-Self-Item g c κs = search (checked_file_row_send, crosses, sendable) depth 40

pub collect-requires-send-C : goal.collect-requires-send-C
collect-requires-send-C g c κs = search (checked_file_row_send, crosses, sendable) depth 40

pub returns : goal.returns
returns g c =
    let given = run_checked (stand_of g.P.ImportedNames.shows c.args.at.now) in
    let h = c.in_ok-collect.ensures in
    let chain = h.1 in
    let slice = ap (λ it. it.base.slice.now) c.map.ensures.base ∙ (ap (λ it. it.slice.now) c.with_min_len.ensures.base ∙ c.par_iter.ensures) in
    let moved =
    subst (λ a. AllZip (λ (x : Bor Run) (r : Result CheckedFile AllocError). IfOk r (λ y. checked_file_shown y ≡ run_checked (stand_of g.P.ImportedNames.shows a) x.now)) chain.0 h.0) (ap (λ f. f.1.now) c.map.ensures.f) chain.2 in
    collected checked_file_shown given c.args.runs.now h.0 c.in_ok-collect.field-0 _
    (slice-AllZip chain.0 c.args.runs.now (chain.1 ∙ slice) (Gives checked_file_shown given) h.0 moved) h.2
