-- Where faults lie, and what a workspace without a fault has.
use Rattle.std.proofs.Common.{◌≡◌, ◌≢◌, ℕ, zero, suc, ◌+◌, ◌<◌, ◌⊎◌, inl, inr, List, [], ◌∷◌, length, map, get_or, All, Option, Some, None, Result, Ok, Err, refl, sym, ap, subst, ◌∙◌, arith}
use Rattle.std.specs.Prelude.{slice_get, AllPairs, Contains}
use Rattle.std.specs.Option.{option_map}
use Rattle.std.proofs.lemmas.List.{length-map}
use Rattle.std.proofs.lemmas.Option.{slice_get-map, slice_get_within, get_or_from_slice_get}
use Rattle.go_tree_nodes.specs.Trees.{FileTree}
use Rattle.go_names_core.specs.local_core.declared.Fault.{Fault}
use Rattle.go_graph_core.specs.declared.assembly.KFault.{KFault}
use Rattle.go_graph_core.proofs.Assemblies.{as_many}
use Rattle.go_graph_core.proofs.AssemblyLaws.{has_assembly}
use Rattle.go_graph_core.specs.Packages.{IsAssembled, IsAssembly, Trees, tree_shown, trees_of}
use Rattle.go_graph_core.specs.Sources.{SourceModel}
use Rattle.go_graph_core.specs.Workspaces.{PackageModel, IsPackage, IsWorkspace}
use Rattle.go_graph_core.proofs.Zips.{numbered_at, numbered_back}
use Rattle.go_emit_core.specs.package_core.PreparePackages.{trees_in}
use Rattle.go_report_core.specs.Faults.{IsSaid}
use Rattle.go_report_core.specs.usage.Used.{FileUse}
use Rattle.go_emit_core.specs.package_core.PackagePartParts.{ContentOf, FileOf, IsFileMadeIn, PartModel}
use Rattle.go_snap_core.specs.whole_workspace.Inputs.{AreParts, IsPartOf}
use Rattle.go_snap_core.proofs.WholeWorkspaceLists.{all_from_among, none_is_some}
use Rattle.go_body_core.specs.typexpr_core.EntryAmong.{among_to}
use Rattle.go_snap_core.specs.declared.fault.PlacedFault.{PlacedFault}
use Rattle.go_snap_core.specs.Faults.{AreFaults, IsPlacedBefore, IsWorkspaceFault, IsOfAssembly, IsOfText, IsReportedOf, IsUnassembled, LiesIn, here}
use Rattle.go_snap_core.specs.Laws.{FaultsDiffer, FaultsLieInFiles, IsFaultless, NoFaultNoRefusal, RefusalsAreFaults}
use Rattle.go_snap_core.specs.Snapshots.{IsAnswerAt, IsSnapshot, contents_of}
use Rattle.go_snap_core.specs.mirrors.Reports.{assembly_fault, fault_with}
use Rattle.go_snap_core.proofs.Faulty.{contents_at}
use Rattle.go_snap_core.proofs.OneFaults.{never_both}
use Rattle.go_graph_core.proofs.Places.{some_item}

-- an occurrence of a list says what it says alone
said_at : (uses : List FileUse) (n : ℕ) (u : FileUse) (f : Fault) → slice_get uses n ≡ Some u → IsSaid (u ∷ []) f → IsSaid uses f
said_at [] n u f e s = absurd (none_is_some e)
said_at (v ∷ us) zero u f e s = (let same : v ≡ u = (let o : Some v ≡ Some u = e in cc) in subst (λ w. IsSaid (w ∷ us) f) (sym same) (widened s))
  where
    widened : IsSaid (u ∷ []) f → IsSaid (u ∷ us) f
    widened (inl x) = inl x
    widened (inr x) = absurd x
said_at (v ∷ us) (suc n) u f e s = inr (said_at us n u f e s)

-- the part whose content stands at a number

content_back : (o : Option (Option PartModel)) (c : ContentOf) → option_map (option_map (λ (p : PartModel). p.content)) o ≡ Some (Some c) → (part : PartModel) × (o ≡ Some (Some part)) × (part.content ≡ c)
content_back None c e = absurd (none_is_some e)
content_back (Some None) c e = absurd (let f : None ≡ Some c = cc in none_is_some f)
content_back (Some (Some part)) c e = (part, refl, cc)

part_back : (parts : List (Option PartModel)) (n : ℕ) (c : ContentOf) → slice_get (contents_of parts) n ≡ Some (Some c) → (part : PartModel) × (slice_get parts n ≡ Some (Some part)) × (part.content ≡ c)
part_back parts n c h = content_back (slice_get parts n) c (sym (slice_get-map (option_map (λ (p : PartModel). p.content)) parts n) ∙ h)

-- a package with a part has a file for each that its part has
file_there : (p : PackageModel) (k : ℕ) (t : FileTree) → IsAssembled p.1 → slice_get (trees_in p) k ≡ Some t → (s : SourceModel) × (slice_get p.1 k ≡ Some s)
file_there p k t assembled at =
    let low : k < length (trees_in p) = slice_get_within (trees_in p) k t at in
    some_item p.1 k (omega (arith, low, length-map (trees_of p.1) tree_shown, as_many p.1 assembled.trees))

-- where the files of a package do not assemble, one of them has the fault
assembly_there : (files : List SourceModel) (fault : KFault) → IsAssembly files (Err fault) → (s : SourceModel) × (slice_get files fault.file ≡ Some s)
assembly_there files fault (inl k) = (k.file, k.first.at)
assembly_there files fault (inr (inl k)) = (k.file, k.first.at)
assembly_there files fault (inr (inr k)) = (k.file, k.first.at)

module _ (ps : List PackageModel) (parts : List (Option PartModel)) (all : AreParts ps parts) where
  reported_lies : (f : PlacedFault) → IsReportedOf (contents_of parts) f → LiesIn ps f
  reported_lies f h =
      let own = part_back parts f.«package» h.content h.there in
      let entry = numbered_back (λ n p x. IsPartOf ps parts n p x) 0 ps parts f.«package» (Some own.0) all own.1 in
      let made = entry.2.2 in
      let file = numbered_back (IsFileMadeIn own.0.content.blocks made.checked.files) 0 (trees_in own.0.input.source) own.0.content.files f.file h.file made.files (subst (λ (c : ContentOf). slice_get c.files f.file ≡ Some h.file) (sym own.2) h.in_package) in
      let there = file_there entry.0 f.file file.0 entry.2.0 (subst (λ (p : PackageModel). slice_get (trees_in p) f.file ≡ Some file.0) entry.2.1.source file.1) in
      record { of_package = entry.0; there = entry.1; source = there.0; in_package = there.1 }

  unassembled_lies : (f : PlacedFault) → IsUnassembled ps (contents_of parts) f → LiesIn ps f
  unassembled_lies f h = by h.why
    where
      by : IsOfAssembly h.source f ⊎ IsOfText h.source f → LiesIn ps f
      by (inl a) = (let s = assembly_there h.source.1 a.fault a.assembly in record { of_package = h.source; there = h.there; source = s.0; in_package = subst (λ k. slice_get h.source.1 k ≡ Some s.0) (sym a.file) s.1 })
      by (inr t) = record { of_package = h.source; there = h.there; source = t.source; in_package = t.in_package }

  fault_lies : (f : PlacedFault) → IsWorkspaceFault ps (contents_of parts) f → LiesIn ps f
  fault_lies f (inl r) = reported_lies f r
  fault_lies f (inr u) = unassembled_lies f u

  -- what an occurrence is refused by is reported of its file
  refused_is_fault : (path name : List ℕ) (n : ℕ) (u : FileUse) (at : IsAnswerAt ps parts path name n u) (f : PlacedFault) → f.«package» ≡ at.in_workspace.number → f.file ≡ at.number → IsSaid (u ∷ []) (here f) → IsWorkspaceFault ps (contents_of parts) f
  refused_is_fault path name n u at f of_package of_file said =
      let part = at.of_part in
      let there = at.in_workspace.there in
      let entry = numbered_back (λ m p x. IsPartOf ps parts m p x) 0 ps parts at.in_workspace.number (Some part) all there in
      let made = entry.2.2 in
      let file = numbered_back (IsFileMadeIn part.content.blocks made.checked.files) 0 (trees_in part.input.source) part.content.files at.number at.file made.files at.made in
      inl
      (record {
        content = part.content;
        there = subst (λ m. slice_get (contents_of parts) m ≡ Some (Some part.content)) (sym of_package) (contents_at parts at.in_workspace.number (Some part) there);
        file = at.file;
        in_package = subst (λ m. slice_get part.content.files m ≡ Some at.file) (sym of_file) at.made;
        reported = (file.2.made_of.reported.same (here f)).1 (inl (said_at at.file.answers.uses n u (here f) at.answer said));
      })

  module _ (well : IsWorkspace ps) (none : (f : PlacedFault) → IsWorkspaceFault ps (contents_of parts) f → ⊥) where
    some_files : (n : ℕ) (p : PackageModel) → slice_get ps n ≡ Some p → 0 < length p.1
    some_files n p at = (let one : IsPackage p = subst IsPackage (get_or_from_slice_get ps n p p at) (well.packages n p (slice_get_within ps n p at)) in one.some)

    -- a package whose files do not assemble has a fault
    no_assembly : (n : ℕ) (p : PackageModel) (answer : Result Trees KFault) → slice_get ps n ≡ Some p → slice_get parts n ≡ Some None → (IsAssembled p.1 → ⊥) → IsAssembly p.1 answer → ⊥
    no_assembly n p (Ok trees) at there not a = not a.1
    no_assembly n p (Err fault) at there not a =
        none (assembly_fault n fault)
        (inr (record { source = p; there = at; none = contents_at parts n None there; why = inl (record { fault = fault; assembly = a; rule = refl; file = refl; offset = refl }) }))

    part_of : (n m : ℕ) (p : PackageModel) (x : Option PartModel) → slice_get ps n ≡ Some p → slice_get parts n ≡ Some x → IsPartOf ps parts m p x → (part : PartModel) × (slice_get parts n ≡ Some (Some part))
    part_of n m p (Some part) at there h = (part, there)
    part_of n m p None at there h = absurd (let answer = has_assembly p.1 (some_files n p at) in no_assembly n p answer.0 at there h answer.1)

    is_faultless : IsFaultless ps parts
    is_faultless = record {
      made = λ n p at. (let entry = numbered_at (λ m q x. IsPartOf ps parts m q x) 0 ps parts n p all at in part_of n (0 + n) p entry.0 at entry.1 entry.2);
      declared = λ path name n u at f said. (let g = fault_with at.in_workspace.number at.number f.offset f.rule in none g (refused_is_fault path name n u at g refl refl said));
    }

pub faults_lie : FaultsLieInFiles
faults_lie ps parts faults h = all_from_among (LiesIn ps) faults (λ f a. fault_lies ps parts h.made f ((h.faults_are.same f).0 (among_to faults f a)))

pub faults_differ : FaultsDiffer
faults_differ ps parts faults h = λ i j d lt below. λ same.
    let before : IsPlacedBefore (get_or faults i d) (get_or faults j d) = h.faults_are.ordered i j d lt below in
    let again : IsPlacedBefore (get_or faults j d) (get_or faults j d) = subst (λ f. IsPlacedBefore f (get_or faults j d)) same before in
    never_both (get_or faults j d) (get_or faults j d) again again

pub refusals_are_faults : RefusalsAreFaults
refusals_are_faults ps parts faults h path name n u at f of_package of_file said = (h.faults_are.same f).1 (refused_is_fault ps parts h.made path name n u at f of_package of_file said)

pub no_fault_no_refusal : NoFaultNoRefusal
no_fault_no_refusal ps parts well h = is_faultless ps parts h.made well (λ f is. (let c = (h.faults_are.same f).1 is in let low = c.1 in omega (arith, low)))
