-- What stands in a file, put together.
use Rattle.std.proofs.Common.{◌≡◌, ℕ, Vec, List, ◌++◌, length, refl, sym, ap, subst, ◌∙◌}
use Rattle.std.specs.Global.{Global}
use Rattle.std.specs.Vec.{with_items}
use Rattle.std.proofs.lemmas.List.{length-map, with_items_is}
use Rattle.go_tree_nodes.specs.Trees.{FileTree}
use Rattle.go_parse_core.specs.tree_core.Occurrences.{file_occs}
use Rattle.go_block_core.specs.Blocks.{BlocksModel}
use Rattle.go_report_core.specs.handle_core.Declarations.{Declaration}
use Rattle.go_local_core.specs.declared.Fault.{Fault}
use Rattle.go_report_core.specs.Faults.{IsSettled}
use Rattle.go_report_core.specs.usage.Reported.{IsReported}
use Rattle.go_report_core.specs.usage.Used.{FileUse, blank_places, judged_import, used_places, without_unused}
use Rattle.go_package_core.specs.Checked.{AnswersOf}
use Rattle.go_package_core.specs.package_part.Parts.{FileOf, IsFileMade}

-- a file that has these answers, these faults and the locals of its check
abbrev pub file_with : AnswersOf → List FileUse → List Fault → List Fault → FileOf
file_with a uses faults report = record { answers = record { uses = uses; faults = faults; locals = a.locals }; report = report }

-- what is written over the answers of a check has as many
pub refilled : (b : BlocksModel) (n : ℕ) (f : FileTree) (v : Vec FileUse Global) (lent new : List FileUse) → lent ≡ v.items → new ≡ without_unused b n f lent → (with_items v new).items ≡ without_unused b n f lent
refilled b n f v lent new first is =
    let many : length new ≡ v.len = ap length is ∙ (length-map lent (judged_import (blank_places f ++ used_places b n (file_occs f) lent)) ∙ (ap length first ∙ sym v.ok.0)) in
    with_items_is v new many ∙ is

-- the lists that calls are lent are those that the file has
pub file_is : (b : BlocksModel) (n : ℕ) (f : FileTree) (a : AnswersOf) (lent uses settled_by reported_by : List FileUse) (lent_faults faults reported_faults report : List Fault)
    → lent ≡ a.uses → uses ≡ without_unused b n f lent → settled_by ≡ uses → lent_faults ≡ a.faults → IsSettled Declaration (List ℕ) settled_by lent_faults faults
    → reported_by ≡ uses → reported_faults ≡ faults → IsReported reported_by reported_faults report → IsFileMade b n f a (file_with a uses faults report)
file_is b n f a lent uses settled_by reported_by lent_faults faults reported_faults report first judged same given settled again whole reported = record {
  uses = judged ∙ ap (without_unused b n f) first;
  settled = subst (λ us. IsSettled Declaration (List ℕ) us a.faults faults) same (subst (λ fs. IsSettled Declaration (List ℕ) settled_by fs faults) given settled);
  locals = refl;
  reported = subst (λ us. IsReported us faults report) again (subst (λ fs. IsReported reported_by fs report) whole reported);
}
