-- What a variable of a type has, as a package sees it, with doc comments.
--
-- The Go specification, "Selectors", "Exported identifiers", "Import declarations".
use Rattle.std.specs.Prelude.{◌≡◌, ◌≢◌, ◌⊎◌, ℕ, List, [], Option, Some, None, map}
use Rattle.std.specs.List.{AllZip}
use Rattle.go_path_core.specs.text_core.declared.rule.Rule.{Rule}
use Rattle.go_path_core.specs.text_core.declared.rule.Rule.TheVariants.{Q1}
use Rattle.go_graph_core.specs.Packages.{IsPackageName, trees_of}
use Rattle.go_term_core.specs.Terms.{Term}
use Rattle.go_summary_core.specs.table_core.Entries.{Entry}
use Rattle.go_package_core.specs.package_part.Inputs.{path_in}
use Rattle.go_package_core.specs.package_part.Parts.{PartModel}
use Rattle.go_snap_core.specs.Snapshots.{SnapshotModel}
use Rattle.go_type_doc_core.specs.declared.members.listing.MemberKind.{MemberKind}
use Rattle.go_type_doc_core.specs.members.Members.{AreMembers, MemberOf}
use Rattle.go_query_core.specs.Defining.{HasNoPart}
use Rattle.go_query_core.specs.Documenting.{IsImportRefused, IsImportedPart}
use Rattle.go_query_core.specs.Parts.{IsPartOf}
use Rattle.go_type_doc_core.specs.declared.telling.Member.{Member}
use Rattle.go_type_doc_core.specs.declared.telling.TypeDoc.{TypeDoc}
use Rattle.go_type_doc_core.specs.Comments.{IsMemberDoc}
use Rattle.go_type_doc_core.specs.Naming.{IsOtherRefusal, IsOtherType, IsOwnRefusal, IsOwnType, types_seen}

-- a name with what it is, the names of the embedded fields that lead to it, and a doc comment
pub record MemberShown : Type 0 where
  pub name : List ℕ
  pub kind : MemberKind
  pub through : List (List ℕ)
  pub doc : List ℕ

abbrev pub member_shown : Member → MemberShown
member_shown m = record { name = m.name; kind = m.kind; through = m.through.items; doc = m.doc.now }

-- a path, the name in the clauses of its package, and members of a type
pub record TypeDocOf : Type 0 where
  pub path : List ℕ
  pub name : List ℕ
  pub members : List MemberShown

abbrev pub type_doc_shown : TypeDoc → TypeDocOf
type_doc_shown d = record { path = d.path.now; name = d.name.now; members = map member_shown d.members.items }

-- a member, with its doc comment
pub record IsTold (s : SnapshotModel) (m : MemberOf) (told : MemberShown) : Type 0 where
  pub name_is : told.name ≡ m.name
  pub kind_is : told.kind ≡ m.kind
  pub through_is : told.through ≡ m.through
  pub doc_is : IsMemberDoc s m.method told.doc

-- what a variable of a type has in the package of a path, over these types: nothing where the type is none
abbrev pub AreTold : SnapshotModel → List Entry → Option Term → List ℕ → List MemberShown → Type 0
AreTold s es None from told = told ≡ []
AreTold s es (Some t) from told = (ms : List MemberOf) × AreMembers es t from ms × AllZip (IsTold s) ms told

-- the same of a type that the package of a part declares
pub record IsDocOfType (s : SnapshotModel) (from : List ℕ) (p : PartModel) (t : Option Term) (d : TypeDocOf) : Type 0 where
  pub path_is : d.path ≡ path_in p.input
  pub name_is : IsPackageName (trees_of p.input.source.1) d.name
  pub members_are : AreTold s (types_seen p) t from d.members

-- of a type that the package of `from` names itself
pub record IsOwnTypeDoc (s : SnapshotModel) (from path type_name : List ℕ) (d : TypeDocOf) : Type 0 where
  pub same : path ≡ from
  pub number : ℕ
  pub of_part : PartModel
  pub own : IsPartOf s from number of_part
  pub term : Option Term
  pub named : IsOwnType of_part type_name term
  pub doc : IsDocOfType s from of_part term d

-- of a type that it would name behind the name of another package, to which an import of the path comes in it
pub record IsOtherTypeDoc (s : SnapshotModel) (from path type_name : List ℕ) (d : TypeDocOf) : Type 0 where
  pub other : path ≢ from
  pub number : ℕ
  pub importer : PartModel
  pub own : IsPartOf s from number importer
  pub of_part : PartModel
  pub imported : IsImportedPart s number path of_part
  pub term : Option Term
  pub named : IsOtherType importer of_part type_name term
  pub doc : IsDocOfType s from of_part term d

abbrev pub IsTypeDoc : SnapshotModel → List ℕ → List ℕ → List ℕ → TypeDocOf → Type 0
IsTypeDoc s from path type_name d = IsOwnTypeDoc s from path type_name d ⊎ IsOtherTypeDoc s from path type_name d

-- the rule that the name breaks, where the package of `from` names the type itself
pub record IsOwnTypeRefused (s : SnapshotModel) (from path type_name : List ℕ) (rule : Rule) : Type 0 where
  pub same : path ≡ from
  pub number : ℕ
  pub of_part : PartModel
  pub own : IsPartOf s from number of_part
  pub refused : IsOwnRefusal of_part type_name rule

-- behind the name of another package
pub record IsOtherTypeRefused (s : SnapshotModel) (from path type_name : List ℕ) (rule : Rule) : Type 0 where
  pub other : path ≢ from
  pub number : ℕ
  pub importer : PartModel
  pub own : IsPartOf s from number importer
  pub of_part : PartModel
  pub imported : IsImportedPart s number path of_part
  pub refused : IsOtherRefusal importer of_part type_name rule

-- the rule of the import, or else that of the name
abbrev pub IsNameRefused : SnapshotModel → List ℕ → List ℕ → List ℕ → Rule → Type 0
IsNameRefused s from path type_name rule = IsImportRefused s from path rule ⊎ (IsOwnTypeRefused s from path type_name rule ⊎ IsOtherTypeRefused s from path type_name rule)

-- why there is no doc: Q1 where there is no assembled package of `from`, or one of these rules
abbrev pub IsTypeDocRefusal : SnapshotModel → List ℕ → List ℕ → List ℕ → Rule → Type 0
IsTypeDocRefusal s from path type_name rule = ((rule ≡ Q1) × HasNoPart s from) ⊎ IsNameRefused s from path type_name rule
