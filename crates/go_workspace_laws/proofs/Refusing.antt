-- The faults of a workspace whose one file does not make a package, or makes one.
use Rattle.std.proofs.Common.{◌≡◌, ◌≢◌, ◌+◌, ℕ, inl, inr, List, [], ◌∷◌, map, append-nil, refl, sym, ap, ◌∙◌, arith}
use Rattle.std.specs.Prelude.{Option, Some, None, Result, Ok, Err, slice_get}
use Rattle.std.proofs.lemmas.List.Elements.{All-nil, All-cons}
use Rattle.go_path_core.specs.text_core.declared.rule.Rule.TheVariants.{K3, K4}
use Rattle.go_tree_nodes.specs.declared.names.Ident.{Ident}
use Rattle.go_tree_nodes.specs.Trees.{FileTree}
use Rattle.go_graph_core.specs.parse_core.declared.error.SynFault.{SynFault}
use Rattle.go_report_core.specs.answer.Outer.{fault}
use Rattle.go_graph_core.specs.declared.assembly.KFault.{KFault}
use Rattle.go_graph_core.specs.Packages.{Differs, HasNoClause, IsAssembled, IsAssembly, IsBlank, blank}
use Rattle.go_graph_core.specs.Sources.{SourceModel, IsContent, source}
use Rattle.go_graph_core.specs.Workspaces.{PackageModel}
use Rattle.go_emit_core.specs.package_core.PackagePartParts.{FileOf, PartModel}
use Rattle.go_snap_core.specs.whole_workspace.Inputs.{AreParts, IsPartOf}
use Rattle.go_snap_core.specs.declared.fault.PlacedFault.{PlacedFault}
use Rattle.go_snap_core.specs.Faults.{AreFaults}
use Rattle.go_snap_core.specs.Snapshots.{IsSnapshot, contents_of}
use Rattle.go_snap_core.specs.mirrors.Reports.{AddsUnassembled, assembly_fault, part_faults, text_faults}
use Rattle.go_snap_core.proofs.Faulty.{all_added, none_added, part_added}
use Rattle.go_snap_core.proofs.OneFaults.{one_faults}
use Rattle.go_snap_core.proofs.Reporting.{no_faults}
use Rattle.govisd_resolve.specs.Alone.{package_alone, the_name, workspace_alone}
use Rattle.go_workspace_laws.specs.FileLaws.{HasNoPart, in_lone_file, without_tree}
use Rattle.go_workspace_laws.proofs.FileStanding.{is_workspace}

-- the one entry of the list of parts
pub one_entry : (s : SourceModel) (parts : List (Option PartModel)) → AreParts (workspace_alone s) parts → (x : Option PartModel) × (parts ≡ x ∷ []) × IsPartOf (workspace_alone s) parts 0 (package_alone s) x
one_entry s [] h = absurd h
one_entry s (x ∷ []) h = (x, refl, h.0)
one_entry s (x ∷ (y ∷ ys)) h = absurd h.1

-- why files do not make a package

pub no_clause : (bytes : List ℕ) (e : SynFault) → IsAssembled (source the_name bytes (Err e) ∷ []) → ⊥
no_clause bytes e h = h.trees 0 (source the_name bytes (Err e)) (omega arith) refl

abbrev k4_fault : KFault
k4_fault = record { rule = K4; file = 0; offset = 0 }

is_k4 : (bytes : List ℕ) (e : SynFault) → IsAssembly (source the_name bytes (Err e) ∷ []) (Err k4_fault)
is_k4 bytes e = inl (record { rule = refl; file = source the_name bytes (Err e); first = record { at = refl; holds = refl; before = λ j o lt. absurd (omega (arith, lt)) }; offset = refl })

pub blank_clause : (bytes : List ℕ) (f : FileTree) → f.name.name ≡ blank → IsAssembled (source the_name bytes (Ok f) ∷ []) → ⊥
blank_clause bytes f b h = h.named 0 (source the_name bytes (Ok f)) (omega arith) (f.name.span.start, (f.name, refl, b, refl))

has_clause : (bytes : List ℕ) (f : FileTree) → HasNoClause (source the_name bytes (Ok f)) → ⊥
has_clause bytes f e = cc

abbrev k3_fault : FileTree → KFault
k3_fault f = record { rule = K3; file = 0; offset = f.name.span.start }

is_k3 : (bytes : List ℕ) (f : FileTree) → f.name.name ≡ blank → IsAssembly (source the_name bytes (Ok f) ∷ []) (Err (k3_fault f))
is_k3 bytes f b =
    let s : SourceModel = source the_name bytes (Ok f) in
    inr
    (inl
    (record {
      rule = refl;
      trees = All-cons (λ (x : SourceModel). HasNoClause x → ⊥) s [] (has_clause bytes f) (All-nil (λ (x : SourceModel). HasNoClause x → ⊥));
      file = s;
      first = record { at = refl; holds = (f.name.span.start, (f.name, refl, b, refl)); before = λ j o lt. absurd (omega (arith, lt)) };
      offset = (f.name, refl, b, refl);
    }))

-- a file with a tree and a name makes one
pub is_assembled : (bytes : List ℕ) (f : FileTree) → f.name.name ≢ blank → IsAssembled (source the_name bytes (Ok f) ∷ [])
is_assembled bytes f named =
    let s : SourceModel = source the_name bytes (Ok f) in
    record {
      trees = All-cons (λ (x : SourceModel). HasNoClause x → ⊥) s [] (has_clause bytes f) (All-nil (λ (x : SourceModel). HasNoClause x → ⊥));
      named = All-cons (λ (x : SourceModel). IsBlank x → ⊥) s [] not_blank (All-nil (λ (x : SourceModel). IsBlank x → ⊥));
      name = f.name.name;
      is_name = (s, f.name, refl, refl, refl);
      same = All-cons (λ (x : SourceModel). Differs f.name.name x → ⊥) s [] not_other (All-nil (λ (x : SourceModel). Differs f.name.name x → ⊥));
    }
  where
    one_name : (id : Ident) → Some f.name ≡ Some id → f.name ≡ id
    one_name id e = cc

    not_blank : IsBlank (source the_name bytes (Ok f)) → ⊥
    not_blank b = named (ap (λ (x : Ident). x.name) (one_name b.1.0 b.1.1) ∙ b.1.2)

    not_other : Differs f.name.name (source the_name bytes (Ok f)) → ⊥
    not_other d = d.1.2 (sym (ap (λ (x : Ident). x.name) (one_name d.1.0 d.1.1)))

-- the faults

module _ (bytes : List ℕ) (c : Result FileTree SynFault) (read : IsContent bytes c) (parts : List (Option PartModel)) (all : AreParts (workspace_alone (source the_name bytes c)) parts) where
  abbrev file : SourceModel
  file = source the_name bytes c

  abbrev ps : List PackageModel
  ps = workspace_alone file

  pub faults_of_none : (k : KFault) → parts ≡ None ∷ [] → IsAssembly (file ∷ []) (Err k) → AreFaults ps (contents_of parts) (assembly_fault 0 k ∷ text_faults 0 0 (file ∷ []))
  faults_of_none k none why =
      let of_all = (is_workspace file read).read in
      let more : List PlacedFault = assembly_fault 0 k ∷ text_faults 0 0 (file ∷ []) in
      let adds : AddsUnassembled 0 (file ∷ []) [] more = record { more = more; are = record { fault = k; assembly = why; is = refl }; is = refl } in
      all_added ps parts of_all all more (0 + 1) (omega arith) (none_added ps parts of_all all 0 (package_alone file) [] more refl (ap (λ l. slice_get l 0) none) (no_faults ps (contents_of parts)) adds)

  pub faults_of_part : (part : PartModel) → parts ≡ Some part ∷ [] → AreFaults ps (contents_of parts) (part_faults 0 0 part.content.files)
  faults_of_part part some =
      let of_all = (is_workspace file read).read in
      all_added ps parts of_all all (part_faults 0 0 part.content.files) (0 + 1) (omega arith)
      (part_added ps parts of_all all 0 (package_alone file) part [] (part_faults 0 0 part.content.files) refl (ap (λ l. slice_get l 0) some) (no_faults ps (contents_of parts)) refl)

-- a package that has no part

no_part : (s : SourceModel) (x : Option PartModel) (parts : List (Option PartModel)) → (IsAssembled (s ∷ []) → ⊥) → parts ≡ x ∷ [] → IsPartOf (workspace_alone s) parts 0 (package_alone s) x → parts ≡ None ∷ []
no_part s None parts not is h = is
no_part s (Some part) parts not is h = absurd (not h.0)

pub tree_wanted : (bytes : List ℕ) (e : SynFault) (parts : List (Option PartModel)) (faults : List PlacedFault) → IsContent bytes (Err e) → IsSnapshot (workspace_alone (source the_name bytes (Err e))) parts faults → HasNoPart parts faults (without_tree e.offset e.rule)
tree_wanted bytes e parts faults read h =
    let s : SourceModel = source the_name bytes (Err e) in
    let entry = one_entry s parts h.made in
    let none = no_part s entry.0 parts (no_clause bytes e) entry.1 entry.2 in
    record {
      none = none;
      faults_are = one_faults (workspace_alone s) (contents_of parts) faults (map in_lone_file (without_tree e.offset e.rule)) h.faults_are (faults_of_none bytes (Err e) read parts h.made k4_fault none (is_k4 bytes e));
    }

pub name_wanted : (bytes : List ℕ) (f : FileTree) (parts : List (Option PartModel)) (faults : List PlacedFault) → IsContent bytes (Ok f) → f.name.name ≡ blank → IsSnapshot (workspace_alone (source the_name bytes (Ok f))) parts faults → HasNoPart parts faults (fault f.name.span.start K3 ∷ [])
name_wanted bytes f parts faults read b h =
    let s : SourceModel = source the_name bytes (Ok f) in
    let entry = one_entry s parts h.made in
    let none = no_part s entry.0 parts (blank_clause bytes f b) entry.1 entry.2 in
    record {
      none = none;
      faults_are = one_faults (workspace_alone s) (contents_of parts) faults (map in_lone_file (fault f.name.span.start K3 ∷ [])) h.faults_are (faults_of_none bytes (Ok f) read parts h.made (k3_fault f) none (is_k3 bytes f b));
    }

-- what is reported of the one file of a part
pub one_report : (files : List FileOf) (found : FileOf) → files ≡ found ∷ [] → part_faults 0 0 files ≡ map in_lone_file found.report
one_report files found e = ap (λ l. part_faults 0 0 l) e ∙ append-nil (map in_lone_file found.report)

-- and parts that have these faults

pub none_made : (bytes : List ℕ) (c : Result FileTree SynFault) (k : KFault) → IsContent bytes c → (IsAssembled (source the_name bytes c ∷ []) → ⊥) → IsAssembly (source the_name bytes c ∷ []) (Err k)
    → (all : AreParts (workspace_alone (source the_name bytes c)) (None ∷ [])) × AreFaults (workspace_alone (source the_name bytes c)) (contents_of (None ∷ [])) (assembly_fault 0 k ∷ text_faults 0 0 (source the_name bytes c ∷ []))
none_made bytes c k read not why = ((not, tt), faults_of_none bytes c read (None ∷ []) (not, tt) k refl why)

pub tree_none : (bytes : List ℕ) (e : SynFault) → IsContent bytes (Err e)
    → (all : AreParts (workspace_alone (source the_name bytes (Err e))) (None ∷ [])) × AreFaults (workspace_alone (source the_name bytes (Err e))) (contents_of (None ∷ [])) (map in_lone_file (without_tree e.offset e.rule))
tree_none bytes e read = none_made bytes (Err e) k4_fault read (no_clause bytes e) (is_k4 bytes e)

pub name_none : (bytes : List ℕ) (f : FileTree) → IsContent bytes (Ok f) → f.name.name ≡ blank
    → (all : AreParts (workspace_alone (source the_name bytes (Ok f))) (None ∷ [])) × AreFaults (workspace_alone (source the_name bytes (Ok f))) (contents_of (None ∷ [])) (map in_lone_file (fault f.name.span.start K3 ∷ []))
name_none bytes f read b = none_made bytes (Ok f) (k3_fault f) read (blank_clause bytes f b) (is_k3 bytes f b)
