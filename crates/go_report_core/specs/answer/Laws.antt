-- Laws of what is kept of a checked package.
use Rattle.std.specs.Prelude.{◌≡◌, ◌↔◌, ◌⊎◌, ◌+◌, ℕ, true, List, Option, Some, slice_get, map, Bool, Contains, drop}
use Rattle.std.specs.Str.{chars}
use Rattle.go_path_core.specs.text_core.Text.{exported}
use Rattle.go_path_core.specs.text_core.declared.rule.Rule.TheVariants.{Y7}
use Rattle.go_term_core.specs.decl_core.declared.keys.DeclRef.{DeclRef}
use Rattle.go_term_core.specs.decl_core.TopDecls.{TopDeclTree}
use Rattle.go_block_core.specs.Blocks.{BlocksModel}
use Rattle.go_block_core.specs.Faults.{rule_of}
use Rattle.go_block_core.specs.Tables.{in_block}
use Rattle.go_block_core.specs.declared.fault.BlockFault.{BlockFault}
use Rattle.go_expr_core.specs.local_core.declared.Fault.{Fault}
use Rattle.go_report_core.specs.declared.type_faults.places.PackageFault.{PackageFault}
use Rattle.go_summary_core.specs.declared_core.Faces.{TheFace}
use Rattle.go_summary_core.specs.declared_core.Packages.{DeclaredOf, as_seen, decls_declared, shown_by}
use Rattle.go_summary_core.specs.declared_core.Written.{DeclsRise, same_decl_place}
use Rattle.go_summary_core.specs.declared_core.declared.shown.ShownFace.TheVariants as shows
use Rattle.go_report_core.specs.answer.Outer.{fault, outer_faults}
use Rattle.go_report_core.specs.answer.Shown.{package_shown, shown_of}

-- a block has a declaration of this file and number under an exported name
pub record IsExported (block : List (List ℕ × DeclRef)) (d : DeclRef) : Type 0 where
  pub name : List ℕ
  pub decl : DeclRef
  pub bound : Contains block (name, decl)
  pub is_exported : exported (chars name) ≡ true
  pub same : same_decl_place decl d ≡ true

-- something is one of the declarations, with what is known of it
pub record IsKnown (ds : List DeclRef) (known : List (Option TheFace)) (e : DeclaredOf) : Type 0 where
  pub place : ℕ
  pub decl : slice_get ds place ≡ Some e.decl
  pub face : slice_get known place ≡ Some (Some e.face)

-- a package shows exactly the faces of those declarations that its block has under exported names, and where declarations rise by file and
-- number, these do
pub record ShownAreExported : Type 0 where
  pub shown : (block : List (List ℕ × DeclRef)) (ds : List DeclRef) (known : List (Option TheFace)) (e : DeclaredOf)
      → Contains (shown_of block ds known) e ↔ (IsKnown ds known e × IsExported block e.decl)
  pub rising : (block : List (List ℕ × DeclRef)) (ds : List DeclRef) (known : List (Option TheFace))
      → DeclsRise ds → DeclsRise (decls_declared (shown_of block ds known))

-- two packages of which what is exported is declared and known alike show the same faces: what is not exported does not count
abbrev pub HiddenDoNotCount : Type 0
HiddenDoNotCount =
    (block other : List (List ℕ × DeclRef)) (ds es : List DeclRef) (known more : List (Option TheFace))
    → DeclsRise ds → DeclsRise es
    → ((e : DeclaredOf) → (IsKnown ds known e × IsExported block e.decl) ↔ (IsKnown es more e × IsExported other e.decl))
    → shown_of block ds known ≡ shown_of other es more

-- a name of a block as other packages see it: with its declaration where it is exported
abbrev pub name_seen : List ℕ × DeclRef → List ℕ × Option DeclRef
name_seen e = (e.0, as_seen e.0 e.1)

-- where their blocks have the same names besides, in one order, they show the same in all
abbrev pub ShownAlike : Type 0
ShownAlike =
    (path : List ℕ) (b c : BlocksModel) (ds es : List DeclRef) (known more : List (Option TheFace))
    → DeclsRise ds → DeclsRise es → map name_seen b.names ≡ map name_seen c.names
    → ((e : DeclaredOf) → (IsKnown ds known e × IsExported b.names e.decl) ↔ (IsKnown es more e × IsExported c.names e.decl))
    → package_shown path b ds known ≡ package_shown path c es more

-- behind the name of the package and a dot an exported name of its block has its declaration, with what is known of it
abbrev pub NamesShowTheirFaces : Type 0
NamesShowTheirFaces =
    (path : List ℕ) (b : BlocksModel) (ds : List DeclRef) (known : List (Option TheFace)) (name : List ℕ) (e : DeclaredOf)
    → DeclsRise ds → in_block b.names name ≡ Some e.decl → exported (chars name) ≡ true → IsKnown ds known e
    → shown_by (package_shown path b ds known) name ≡ shows.Shown e.decl (Some e.face)

-- a fault of blocks in a file
pub record IsOfBlocks (file : ℕ) (b : BlocksModel) (f : Fault) : Type 0 where
  pub found : BlockFault
  pub there : Contains b.faults found
  pub in_file : found.file ≡ file
  pub is : f ≡ fault found.offset (rule_of found.rule)

-- a fault of types in a file
pub record IsOfTypes (file : ℕ) (types : List PackageFault) (f : Fault) : Type 0 where
  pub found : PackageFault
  pub there : Contains types found
  pub in_file : found.file ≡ file
  pub is : f ≡ fault found.offset found.rule

-- Y7 at the identifier of one of the declarations, the first of which stands at a place of the flags, whose flag is set
pub record IsOfLooped (ds : List TopDeclTree) (first : ℕ) (looped : List Bool) (f : Fault) : Type 0 where
  pub place : ℕ
  pub decl : TopDeclTree
  pub there : slice_get ds place ≡ Some decl
  pub flag : slice_get looped (first + place) ≡ Some true
  pub is : f ≡ fault decl.ident.span.start Y7

-- the faults of a file are exactly these
abbrev pub OuterFaultsAreThese : Type 0
OuterFaultsAreThese =
    (file : ℕ) (b : BlocksModel) (types : List PackageFault) (ds : List TopDeclTree) (first : ℕ) (looped : List Bool) (f : Fault)
    → Contains (outer_faults file b types ds (drop first looped)) f ↔ (IsOfBlocks file b f ⊎ IsOfTypes file types f ⊎ IsOfLooped ds first looped f)
