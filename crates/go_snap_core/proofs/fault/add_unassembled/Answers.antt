use Rattle.std.proofs.Common.{◌≡◌, ◌++◌, [], ◌∷◌, Err, refl, sym, ap, subst, ◌∙◌, append_assoc}
use Rattle.std.proofs.lemmas.Result.{on_ok_weaker}
use Rattle.go_graph_core.specs.Packages.{IsAssembly}
use Rattle.go_graph_core.specs.Workspaces.{PackageModel}
use Rattle.go_snap_core.specs.mirrors.Reports.{AddsUnassembled, assembly_fault, text_faults}
use Rattle.go_snap_core.proofs.fault.add_unassembled.Goals as goal

pub returns : goal.returns
returns c =
    let number = c.args.«package» in
    let files = c.args.source.now.1 in
    let old = c.args.faults.now.items in
    let fault = c.in-Err.fault in
    let first = assembly_fault number fault in
    let texts = text_faults number 0 files in
    on_ok_weaker c.add_texts.result
    (λ h. record {
      more = first ∷ texts;
      are = record { fault = fault; assembly = subst (λ (p : PackageModel). IsAssembly p.1 (Err fault)) c.in_ok-share.ensures c.in-Err.ensures.assembly; is = refl };
      is = h ∙ (ap (λ l. l ++ text_faults number 0 c.files.result.now) c.in_ok-push-in-Err.ensures.items ∙ (append_assoc old (first ∷ []) (text_faults number 0 c.files.result.now) ∙ ap (λ l. old ++ (first ∷ text_faults number 0 l)) c.files.ensures.files));
    })
    c.add_texts.ensures
