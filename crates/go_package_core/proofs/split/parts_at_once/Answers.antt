use Rattle.std.proofs.Common.{◌≡◌, All, List, IfOk, map, ap, sym, subst, ◌∙◌}
use Rattle.std.specs.Borrow.{Bor}
use Rattle.std.specs.Prelude.{Result, Vec}
use Rattle.std.specs.declared.alloc.Global.{Global}
use Rattle.std.specs.declared.alloc.AllocError.{AllocError}
use Rattle.std.specs.List.{AllZip}
use Rattle.std.proofs.Crossing.{crosses}
use denote.Ref.{NamedLft}
use denote.Param.{param}
use denote.Param.Send.{sendable}
use Rattle.rayon.proofs.ToStd.{slice-AllZip}
use Rattle.go_package_core.specs.declared.checked.FileAnswers.{FileAnswers}
use Rattle.go_package_core.specs.Checked.{answers_shown}
use Rattle.go_package_core.specs.Tasks.{IsAnswered, IsTask}
use Rattle.go_package_core.proofs.Crossing.{answers_row_send, task_row_sync}
use Rattle.go_package_core.proofs.Corresponding.{collected_zip}
use Rattle.go_package_core.proofs.split.parts_at_once.Goals as goal

pub with_min_len-requires-send-Self : goal.with_min_len-requires-send-Self
with_min_len-requires-send-Self g c κs =
    let task = λ (κ : NamedLft) (μ : NamedLft). task_row_sync κ μ (param 1 g.row.N) c.type_bounds.sync-N in
    search (task, crosses, sendable) depth 40

pub with_min_len-requires-send-Self-Item : goal.with_min_len-requires-send-Self-Item
with_min_len-requires-send-Self-Item g c κs =
    let task = λ (κ : NamedLft) (μ : NamedLft). task_row_sync κ μ (param 1 g.row.N) c.type_bounds.sync-N in
    search (task, crosses, sendable) depth 40

pub map-requires-send-Self : goal.map-requires-send-Self
map-requires-send-Self g c κs =
    let task = λ (κ : NamedLft) (μ : NamedLft). task_row_sync κ μ (param 1 g.row.N) c.type_bounds.sync-N in
    search (task, crosses, sendable) depth 40

pub map-requires-send-Self-Item : goal.map-requires-send-Self-Item
map-requires-send-Self-Item g c κs =
    let task = λ (κ : NamedLft) (μ : NamedLft). task_row_sync κ μ (param 1 g.row.N) c.type_bounds.sync-N in
    search (task, crosses, sendable) depth 40

pub map-requires-send-U : goal.map-requires-send-U
map-requires-send-U g c κs = search (answers_row_send, crosses, sendable) depth 40

pub collect-requires-send-Self : goal.collect-requires-send-Self
collect-requires-send-Self g c κs =
    let task = λ (κ : NamedLft) (μ : NamedLft). task_row_sync κ μ (param 1 g.row.N) c.type_bounds.sync-N in
    let rt = c.type_bounds.sync-R in
    first_of (search (task, crosses, sendable) depth 40, search (task, sendable) depth 40, search (task, rt, sendable) depth 40)

pub collect-requires-clause-ready : goal.collect-requires-clause-ready
collect-requires-clause-ready g c κs within =
    let ready = λ (part : Bor (List _)). All (IsTask g.N.ImportedNames.shows g.K.TypesOf.types) part.now in
    let slice = ap (λ it. it.base.slice.now) c.map.ensures.base ∙ (ap (λ it. it.slice.now) c.with_min_len.ensures.base ∙ c.par_iter.ensures) in
    let parts = subst (All ready) (sym slice) c.requires.parts in
    λ k d lt x is.
    ((subst ready (sym is) (parts k d lt), first_of (search sendable depth 20, search (c.type_bounds.sync-R, c.type_bounds.sync-N, c.type_bounds.send-K, c.type_bounds.sync-K, sendable) depth 20)), λ y given. tt)

pub collect-requires-send-Self-Item : goal.collect-requires-send-Self-Item
collect-requires-send-Self-Item g c κs = search (answers_row_send, crosses, sendable) depth 40

pub collect-requires-send-C : goal.collect-requires-send-C
collect-requires-send-C g c κs = search (answers_row_send, crosses, sendable) depth 40

pub returns : goal.returns
returns g c =
    let of = λ (part : Bor (List _)) (files : Vec FileAnswers Global). AllZip (IsAnswered g.N.ImportedNames.shows) part.now (map answers_shown files.items) in
    let h = c.in_ok-collect.ensures in
    let chain = h.1 in
    let slice = ap (λ it. it.base.slice.now) c.map.ensures.base ∙ (ap (λ it. it.slice.now) c.with_min_len.ensures.base ∙ c.par_iter.ensures) in
    collected_zip of c.args.parts.now h.0 c.in_ok-collect.field-0 _
    (slice-AllZip chain.0 c.args.parts.now (chain.1 ∙ slice) (λ part (r : Result (Vec FileAnswers Global) AllocError). IfOk r (of part)) h.0 chain.2) h.2
