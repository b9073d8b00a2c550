-- References that are added to others.
use Rattle.std.specs.Prelude.{◌≡◌, ◌↔◌, ℕ, List, ◌++◌, Option, Some, None, AllPairs, Contains, slice_get}
use Rattle.go_handle_core.specs.Declarations.{Declaration}
use Rattle.go_query_core.specs.package_core.PackagePartParts.{FileOf, PartModel}
use Rattle.go_query_core.specs.report_core.UsageUsed.{FileUse}
use Rattle.go_reference_core.specs.declared.reference.Reference.{Reference}
use Rattle.go_reference_core.specs.References.{HasDeclaration, IsBefore}

-- exactly those of a kind, in order, each once
pub record Are (Q : Reference → Type 0) (rs : List Reference) : Type 0 where
  pub ordered : AllPairs IsBefore rs
  pub same : (r : Reference) → Contains rs r ↔ Q r

-- exactly those of a kind are added
pub record Adds (Q : Reference → Type 0) (old new : List Reference) : Type 0 where
  pub more : List Reference
  pub is : new ≡ old ++ more
  pub are : Are Q more

-- a reference is the occurrence of three numbers, which has this
pub record IsUseAt (d : Declaration) (number file n : ℕ) (u : FileUse) (r : Reference) : Type 0 where
  pub of_package : r.«package» ≡ number
  pub of_file : r.file ≡ file
  pub at : r.number ≡ n
  pub declares : HasDeclaration d u
  pub offset : r.offset ≡ u.offset

-- a reference is among what the occurrences of the file of two numbers have
pub record IsOfUses (d : Declaration) (number file : ℕ) (us : List FileUse) (r : Reference) : Type 0 where
  pub of_package : r.«package» ≡ number
  pub of_file : r.file ≡ file
  pub used : FileUse
  pub has : slice_get us r.number ≡ Some used
  pub declares : HasDeclaration d used
  pub offset : r.offset ≡ used.offset

-- it stands in one of the files of the package of a number
pub record IsOfFiles (d : Declaration) (number : ℕ) (fs : List FileOf) (r : Reference) : Type 0 where
  pub file : FileOf
  pub there : slice_get fs r.file ≡ Some file
  pub is : IsOfUses d number r.file file.answers.uses r

-- it stands in the package of a number, where it is assembled
abbrev pub IsOfSlot : Declaration → ℕ → Option PartModel → Reference → Type 0
IsOfSlot d number None r = ⊥
IsOfSlot d number (Some p) r = IsOfFiles d number p.content.files r
