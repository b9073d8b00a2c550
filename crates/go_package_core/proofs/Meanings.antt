-- Laws of checked packages.
use Rattle.std.proofs.Common.{◌≡◌, ℕ, ◌+◌, ◌++◌, inl, inr, List, All, map, length, refl, sym, ap, subst, ◌∙◌, arith}
use Rattle.std.specs.Prelude.{◌↔◌, Option, Some, Bool, Contains, slice_get}
use Rattle.std.specs.List.{AllZip, enumerate_from}
use Rattle.go_tree_nodes.specs.Trees.{FileTree}
use Rattle.go_type_core.specs.table_core.Entries.{Entry, find_entry}
use Rattle.go_type_core.proofs.Meanings.{one_settled}
use Rattle.go_body_core.specs.typexpr_core.EntryEntries.{package_meanings}
use Rattle.go_body_core.specs.typexpr_core.EntryMeanings.{declared_alone}
use Rattle.go_report_core.specs.declared.type_faults.places.PackageFault.{PackageFault}
use Rattle.go_report_core.specs.type_faults.TypeFaults.{faults_of_types}
use Rattle.go_report_core.specs.handle_core.Declarations.{Declaration}
use Rattle.go_report_core.specs.expr_core.Laws.{use_place}
use Rattle.go_report_core.specs.Faults.{IsSettled}
use Rattle.go_report_core.proofs.Settled.{settled_are_one}
use Rattle.go_report_core.specs.declared_core.Faces.{TheFace}
use Rattle.go_report_core.specs.declared_core.Written.{decls_of}
use Rattle.go_body_core.proofs.FileOccurring.{files_have_occurrences}
use Rattle.go_report_core.specs.answer.Shown.{package_shown}
use Rattle.go_package_core.specs.prepare.Packages.{PackageIn, entries_in, outlines_in, scene_in, shows_in, targets_in, written_in}
use Rattle.go_package_core.specs.prepare.Values.{AreDeclared, AreLooped}
use Rattle.go_package_core.proofs.PrepareFaulty.{one_looped}
use Rattle.go_package_core.proofs.PrepareTables.{have_one_table}
use Rattle.go_package_core.specs.Checked.{AnswersOf, CheckedOf, IsChecked, IsFileChecked, all_faults, imports_at, stand_at}
use Rattle.go_package_core.specs.Laws.{OneCheck, PackageHasOccurrences}
use Rattle.go_package_core.proofs.Numbered.{numbered_at, zip_pair, zip_same}

pub has_occurrences : PackageHasOccurrences
has_occurrences p far c h n f a tree there well many =
    let types = far ++ c.types in
    let at_zero : 0 + n ≡ n = omega arith in
    let numbered = subst (λ (k : ℕ). slice_get (enumerate_from 0 p.trees) n ≡ Some (k, f)) at_zero (numbered_at 0 p.trees n f tree) in
    let one = zip_pair (IsFileChecked p types c.declared h.type_faults h.looped) (enumerate_from 0 p.trees) c.files n (n, f) a h.files numbered there in
    ap (map use_place) one.uses ∙ files_have_occurrences (stand_at p types c.declared (n, f)) (imports_at p n) f well many

-- one file
one_file : (p : PackageIn) (types : List Entry) (known : List (Option TheFace)) (faults : List PackageFault) (looped : List Bool) (f : ℕ × FileTree) (a b : AnswersOf)
    → IsFileChecked p types known faults looped f a → IsFileChecked p types known faults looped f b → a ≡ b
one_file p types known faults looped f a b h k =
    let same = h.uses ∙ sym k.uses in
    let all = all_faults p types known faults looped f in
    let other : IsSettled Declaration (List ℕ) a.uses all b.faults = subst (λ us. IsSettled Declaration (List ℕ) us all b.faults) (sym same) k.settled in
    let settled = settled_are_one Declaration (List ℕ) a.uses a.uses all all a.faults b.faults (λ g. ((λ x. x), (λ x. x))) (λ g. ((λ x. x), (λ x. x))) h.settled other in
    λ i. record { uses = same i; faults = settled i; locals = (h.locals ∙ sym k.locals) i }

pub one_check : OneCheck
one_check p far one other placed h k =
    let built = one_settled (find_entry far) (entries_in p) one.types other.types h.types.loops k.types.loops h.types.built k.types.built in
    let types = built.0 in
    let loops = built.1 in
    let aliases = one_looped (written_in p) (targets_in p) h.types.looped k.types.looped h.types.looped_are k.types.looped_are in
    let raws = package_meanings (declared_alone p.shows) p.path p.blocks in
    let means = package_meanings (shows_in p) p.path p.blocks in
    let moved : faults_of_types (far ++ one.types) raws means p.path (outlines_in p) (entries_in p) h.types.looped h.types.loops ≡ faults_of_types (far ++ other.types) raws means p.path (outlines_in p) (entries_in p) k.types.looped k.types.loops =
    λ i. faults_of_types (far ++ types i) raws means p.path (outlines_in p) (entries_in p) (aliases i) (loops i) in
    let faults : h.type_faults ≡ k.type_faults = h.types.faults_are ∙ (moved ∙ sym k.types.faults_are) in
    let declared = have_one_table.values p (far ++ one.types) one.declared other.declared placed h.declared (subst (λ t. AreDeclared p (far ++ t) other.declared) (sym types) k.declared) in
    let looped = have_one_table.looped p (far ++ one.types) h.looped k.looped h.constants (subst (λ t. AreLooped p (far ++ t) k.looped) (sym types) k.constants) in
    let trees = enumerate_from 0 p.trees in
    let again =
    subst (λ t. AllZip (IsFileChecked p (far ++ t) one.declared h.type_faults h.looped) trees other.files) (sym types)
    (subst (λ d. AllZip (IsFileChecked p (far ++ other.types) d h.type_faults h.looped) trees other.files) (sym declared)
    (subst (λ fs. AllZip (IsFileChecked p (far ++ other.types) other.declared fs h.looped) trees other.files) (sym faults)
    (subst (λ l. AllZip (IsFileChecked p (far ++ other.types) other.declared k.type_faults l) trees other.files) (sym looped) k.files))) in
    let files = zip_same (IsFileChecked p (far ++ one.types) one.declared h.type_faults h.looped) (one_file p (far ++ one.types) one.declared h.type_faults h.looped) trees one.files other.files h.files again in
    let faces =
    h.faces
    ∙ (ap (λ t. package_shown p.path p.blocks (decls_of (scene_in p (far ++ t)).written) one.declared) types
    ∙ (ap (package_shown p.path p.blocks (decls_of (scene_in p (far ++ other.types)).written)) declared ∙ sym k.faces)) in
    λ i. record { types = types i; declared = declared i; faces = faces i; files = files i }
