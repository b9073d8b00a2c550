-- An input has one part.
use Rattle.std.proofs.Common.{◌≡◌, ℕ, suc, List, [], ◌∷◌, Some, refl, sym, ap, subst, ◌∙◌}
use Rattle.std.specs.Prelude.{AllPairs}
use Rattle.go_tree_nodes.specs.Trees.{FileTree}
use Rattle.go_block_core.specs.graph_core.Lists.{AllNumbered}
use Rattle.go_block_core.specs.graph_core.Packages.{trees_of}
use Rattle.go_block_core.specs.Blocks.{BlocksModel}
use Rattle.go_block_core.specs.Naming.{package_named}
use Rattle.go_block_core.proofs.OneBlocks.{one_blocks_alone}
use Rattle.go_report_core.specs.handle_core.Declarations.{Declaration}
use Rattle.go_local_core.specs.declared.Fault.{Fault}
use Rattle.go_report_core.specs.Faults.{ComesBefore, IsSettled}
use Rattle.go_report_core.proofs.Settled.{settled_are_one}
use Rattle.go_report_core.specs.usage.Reported.{IsReported}
use Rattle.go_report_core.specs.usage.Used.{FileUse}
use Rattle.go_package_core.specs.prepare.Packages.{trees_in}
use Rattle.go_package_core.specs.Checked.{AnswersOf, CheckedOf, IsChecked}
use Rattle.go_package_core.proofs.Meanings.{one_check}
use Rattle.go_package_core.specs.package_part.Laws.{OnePart}
use Rattle.go_package_core.specs.package_part.Parts.{FileOf, IsFileMade, IsFileMadeIn, package_seen, seen_by, told}

-- faults in order settle to themselves where no occurrence says one
settles_to_itself : (fs : List Fault) → AllPairs ComesBefore fs → IsSettled Declaration (List ℕ) [] fs fs
settles_to_itself fs ordered = record { ordered = ordered; kept = λ f h new. h; found = λ f h. h; unsaid = λ f h s. absurd s }

-- what is reported beside the same is one
one_report : (us : List FileUse) (fs report again : List Fault) → IsReported us fs report → IsReported us fs again → report ≡ again
one_report us fs report again h k =
    settled_are_one Declaration (List ℕ) [] [] report again report again
    (λ f. ((λ x. x), (λ x. x)))
    (λ f. ((λ x. (k.same f).1 ((h.same f).0 x)), (λ x. (h.same f).1 ((k.same f).0 x))))
    (settles_to_itself report h.ordered)
    (settles_to_itself again k.ordered)

-- one file
one_file : (b : BlocksModel) (n : ℕ) (f : FileTree) (checked : AnswersOf) (m o : FileOf) → IsFileMade b n f checked m → IsFileMade b n f checked o → m ≡ o
one_file b n f checked m o h k =
    let uses : m.answers.uses ≡ o.answers.uses = h.uses ∙ sym k.uses in
    let other : IsSettled Declaration (List ℕ) m.answers.uses checked.faults o.answers.faults = subst (λ us. IsSettled Declaration (List ℕ) us checked.faults o.answers.faults) (sym uses) k.settled in
    let faults : m.answers.faults ≡ o.answers.faults =
    settled_are_one Declaration (List ℕ) m.answers.uses m.answers.uses checked.faults checked.faults m.answers.faults o.answers.faults (λ g. ((λ x. x), (λ x. x))) (λ g. ((λ x. x), (λ x. x))) h.settled other in
    let locals : m.answers.locals ≡ o.answers.locals = h.locals ∙ sym k.locals in
    let answers : m.answers ≡ o.answers = λ i. record { uses = uses i; faults = faults i; locals = locals i } in
    let again : IsReported m.answers.uses m.answers.faults o.report = subst (λ us. IsReported us m.answers.faults o.report) (sym uses) (subst (λ fs. IsReported o.answers.uses fs o.report) (sym faults) k.reported) in
    let report : m.report ≡ o.report = one_report m.answers.uses m.answers.faults m.report o.report h.reported again in
    λ i. record { answers = answers i; report = report i }

one_file_in : (b : BlocksModel) (all : List AnswersOf) (n : ℕ) (f : FileTree) (m o : FileOf) → IsFileMadeIn b all n f m → IsFileMadeIn b all n f o → m ≡ o
one_file_in b all n f m o h k =
    let there : Some h.checked ≡ Some k.checked = sym h.there ∙ k.there in
    let same : h.checked ≡ k.checked = cc in
    one_file b n f h.checked m o h.made_of (subst (λ a. IsFileMade b n f a o) (sym same) k.made_of)

-- the files of a package
one_files : (b : BlocksModel) (all : List AnswersOf) (k : ℕ) (fs : List FileTree) (ms os : List FileOf) → AllNumbered (IsFileMadeIn b all) k fs ms → AllNumbered (IsFileMadeIn b all) k fs os → ms ≡ os
one_files b all k [] [] [] h j = refl
one_files b all k [] (m ∷ ms) os h j = absurd h
one_files b all k [] [] (o ∷ os) h j = absurd j
one_files b all k (f ∷ fs) [] os h j = absurd h
one_files b all k (f ∷ fs) (m ∷ ms) [] h j = absurd j
one_files b all k (f ∷ fs) (m ∷ ms) (o ∷ os) h j = ap (λ x. x ∷ ms) (one_file_in b all k f m o h.0 j.0) ∙ ap (λ l. o ∷ l) (one_files b all (suc k) fs ms os h.1 j.1)

pub one_part : OnePart
one_part i one other placed h k =
    let trees = trees_of i.source.1 in
    let seen = seen_by i in
    let blocks : one.blocks ≡ other.blocks = one_blocks_alone trees (package_named trees i.imports) one.blocks other.blocks h.blocks k.blocks in
    let again : IsChecked (package_seen i one.blocks seen) seen.types k.checked = subst (λ b. IsChecked (package_seen i b seen) seen.types k.checked) (sym blocks) k.is_checked in
    let checked : h.checked ≡ k.checked = one_check (package_seen i one.blocks seen) seen.types h.checked k.checked placed h.is_checked again in
    let declared : one.declared ≡ other.declared = h.declared ∙ (ap (λ (x : CheckedOf). x.declared) checked ∙ sym k.declared) in
    let made : AllNumbered (IsFileMadeIn one.blocks h.checked.files) 0 (trees_in i.source) other.files =
    subst (λ b. AllNumbered (IsFileMadeIn b h.checked.files) 0 (trees_in i.source) other.files) (sym blocks)
    (subst (λ (x : CheckedOf). AllNumbered (IsFileMadeIn other.blocks x.files) 0 (trees_in i.source) other.files) (sym checked) k.files) in
    let files : one.files ≡ other.files = one_files one.blocks h.checked.files 0 (trees_in i.source) one.files other.files h.files made in
    let summary : one.summary ≡ other.summary = h.summary ∙ (ap (λ (x : CheckedOf). told i one.blocks x) checked ∙ (ap (λ b. told i b k.checked) blocks ∙ sym k.summary)) in
    λ j. record { blocks = blocks j; declared = declared j; files = files j; summary = summary j }
