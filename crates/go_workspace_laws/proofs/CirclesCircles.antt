-- The types and aliases of a part's package that reach themselves are those that have a fault of it.
use Rattle.std.proofs.Common.{◌≡◌, ℕ, Option, Some, None, sym, ap}
use Rattle.std.specs.Prelude.{Contains}
use Rattle.go_path_core.specs.text_core.declared.rule.Rule.{Rule}
use Rattle.go_path_core.specs.text_core.declared.rule.Rule.TheVariants.{Y1}
use Rattle.go_term_core.specs.declared.term.MemberPlace.TheVariants as places
use Rattle.go_select_core.specs.type_core.Looping.{none_there}
use Rattle.go_select_core.specs.type_core.Elsewhere.{one_there}
use Rattle.go_graph_core.proofs.PlanLaws.{has_plan}
use Rattle.go_report_core.specs.declared.type_faults.places.PackageFault.{PackageFault}
use Rattle.go_report_core.specs.type_faults.Places.{fault_in, file_place_of, package_fault_at}
use Rattle.go_emit_core.specs.package_core.PrepareLaws.{LoopsAreFaults}
use Rattle.go_emit_core.specs.package_core.PreparePackages.{outlines_in}
use Rattle.go_report_core.specs.summary_core.Views.{types_told}
use Rattle.go_snap_core.specs.whole_workspace.LocalLaws.{CheckIsLocal, ImportsBindTheirs}
use Rattle.go_snap_core.proofs.WholeWorkspacePartsWhole.{all_right}
use Rattle.go_workspace_laws.specs.circles.Laws.{CirclesAreFaults, package_of}
use Rattle.go_workspace_laws.proofs.CirclesElsewhere.{means_others}
use Rattle.go_workspace_laws.proofs.CirclesGrammar.{trees_keep_rules}
use Rattle.go_workspace_laws.proofs.CirclesNaming.{aliases_are_names}

-- a fault at a place is of the rule that is broken there
pub of_rule : (rule : Rule) (o : Option (ℕ × ℕ)) (f : PackageFault) → Contains (package_fault_at rule o) f → f.rule ≡ rule
of_rule rule None f h = absurd (none_there f h)
of_rule rule (Some p) f h = ap (λ (g : PackageFault). g.rule) (sym (one_there (fault_in p.0 p.1 rule) f h))

pub circles_are_faults : LoopsAreFaults → CheckIsLocal → ImportsBindTheirs → CirclesAreFaults
circles_are_faults loops local bind ps parts as_read all n part there made f =
    let plan = has_plan ps as_read.well in
    let right = all_right ps parts all in
    let p = package_of part in
    let far = types_told part.input.reached in
    let own = made.checked.types in
    let faults = made.is_checked.type_faults in
    let types = made.is_checked.types in
    let named = aliases_are_names p (trees_keep_rules ps n part.input.source as_read.read (right n part there).numbered) in
    let outside = means_others ps parts as_read.well right local bind plan.0 plan.1 n part there in (
      (λ h. loops.only p far own faults types named outside f h.0 h.1),
      (λ h. (loops.found p far own faults types named outside f h, of_rule Y1 (file_place_of (outlines_in p) (places.Declared h.0.decl)) f h.4)),
    )
