-- Laws of the identifiers that a file declares outside function bodies, of their numbers and of their places.
use Rattle.std.specs.Prelude.{◌≡◌, ℕ, ◌+◌, ◌⊎◌, Bool, true, false, not, List, [], ◌∷◌, ◌++◌, map, Option, Some, None, slice_get, All}
use Rattle.std.specs.List.{filter}
use Rattle.go_tree_nodes.specs.declared.names.Ident.{Ident}
use Rattle.go_tree_nodes.specs.Trees.{FileTree}
use Rattle.go_tree_core.specs.Names.{taking_names, take_tops}
use Rattle.go_decl_core.specs.declared.keys.DeclRef.{DeclRef}
use Rattle.go_decl_core.specs.declared.places.DeclKind.{DeclKind}
use Rattle.go_decl_core.specs.declared.places.DeclKind.TheVariants as kinds
use Rattle.go_decl_core.specs.declared.places.Place.{Place}
use Rattle.go_decl_core.specs.Outer.{Outer, Manner, Whole, Part, Embedded, outer, outer_names, places_of}
use Rattle.go_decl_core.specs.TopDecls.{TopDeclTree, kind_of_form, top_decls}
use Rattle.go_decl_core.specs.Table.{IsAt}
use Rattle.go_decl_core.specs.Bodies.{without_bodies, outside}
use Rattle.go_decl_core.specs.Embedded.{embedding}
use Rattle.go_tree_nodes.specs.Spelling.{IsPlaced}

-- numbers

-- a declaration as it is known: its identifier, its number and what is declared
pub record KnownDecl : Type 0 where
  pub ident : Ident
  pub number : ℕ
  pub kind : DeclKind

abbrev pub known : TopDeclTree → KnownDecl
known d = record { ident = d.ident; number = d.number; kind = kind_of_form d.form }

abbrev pub if_whole : Manner → KnownDecl → List KnownDecl
if_whole Whole k = k ∷ []
if_whole Part k = []
if_whole Embedded k = []

-- the identifiers that name declarations, each with its place in the list, which has this many before it
abbrev pub wholes : ℕ → List Outer → List KnownDecl
wholes n [] = []
wholes n (o ∷ os) = if_whole o.manner (record { ident = o.ident; number = n; kind = o.kind }) ++ wholes (n + 1) os

-- what the kind says of the manner: constants, variables, types and functions are declarations, fields and parameters are not, and a
-- method is one, or one of an interface type
abbrev pub MannerFits : DeclKind → Manner → Type 0
MannerFits kinds.Const m = m ≡ Whole
MannerFits kinds.Var m = m ≡ Whole
MannerFits kinds.«Type» m = m ≡ Whole
MannerFits kinds.Func m = m ≡ Whole
MannerFits kinds.Method m = (m ≡ Whole) ⊎ (m ≡ Part)
MannerFits kinds.Field m = (m ≡ Part) ⊎ (m ≡ Embedded)
MannerFits kinds.Param m = m ≡ Part

-- the declarations of a file are the identifiers that name declarations, in order and each under its number
pub record NumbersArePlaces : Type 0 where
  pub table : (f : FileTree) → map known (top_decls f) ≡ wholes 0 (outer_names f)
  -- each declaration stands in the table at its number
  pub stands : (f : FileTree) (k : ℕ) (d : TopDeclTree) → slice_get (top_decls f) k ≡ Some d → slice_get (outer_names f) d.number ≡ Some (outer (kind_of_form d.form) Whole d.ident)
  -- each identifier of the table that names a declaration is that of one of them
  pub found : (f : FileTree) (n : ℕ) (o : Outer) → slice_get (outer_names f) n ≡ Some o → o.manner ≡ Whole → (k : ℕ) × (d : TopDeclTree) × (slice_get (top_decls f) k ≡ Some d) × (d.ident ≡ o.ident) × (d.number ≡ n) × (kind_of_form d.form ≡ o.kind)
  -- two declarations have two numbers
  pub one : (f : FileTree) (j k : ℕ) (d e : TopDeclTree) → slice_get (top_decls f) j ≡ Some d → slice_get (top_decls f) k ≡ Some e → d.number ≡ e.number → j ≡ k
  pub manners : (f : FileTree) → All (λ o. MannerFits o.kind o.manner) (outer_names f)

-- places

-- number and offset determine each other
abbrev pub PlacesAreOneToOne : Type 0
PlacesAreOneToOne = (f : FileTree) → IsPlaced f → (m n offset : ℕ) → IsAt (places_of f) offset m → IsAt (places_of f) offset n → m ≡ n

-- bodies

-- an identifier of the table without its place
abbrev pub name_and_kind : Outer → List ℕ × DeclKind
name_and_kind o = (o.ident.name, o.kind)

-- a declaration as it is known to those that import it
abbrev pub name_and_number : TopDeclTree → List ℕ × ℕ × DeclKind
name_and_number d = (d.ident.name, d.number, kind_of_form d.form)

pub record BodiesDoNotCount : Type 0 where
  -- a file has the same identifiers as with empty bodies, and its declarations have the same numbers
  pub names : (f : FileTree) → outer_names f ≡ outer_names (without_bodies f)
  pub decls : (f : FileTree) → map known (top_decls f) ≡ map known (top_decls (without_bodies f))
  -- files that differ in bodies and places alone have the same names and kinds under the same numbers
  pub same_names : (f g : FileTree) → outside f ≡ outside g → map name_and_kind (outer_names f) ≡ map name_and_kind (outer_names g)
  pub same_decls : (f g : FileTree) → outside f ≡ outside g → map name_and_number (top_decls f) ≡ map name_and_number (top_decls g)

-- what is declared

abbrev pub is_embedded_manner : Manner → Bool
is_embedded_manner Whole = false
is_embedded_manner Part = false
is_embedded_manner Embedded = true

abbrev pub is_embedded : Outer → Bool
is_embedded o = is_embedded_manner o.manner

-- the identifiers of the table are, each once and in order, the names that the file's declarations without bodies declare, but for
-- the names of embedded fields, and those are the last identifiers of their types' names
pub record PlacesAreDeclared : Type 0 where
  pub own : (f : FileTree) → map (λ o. o.ident) (filter (λ o. not (is_embedded o)) (outer_names f)) ≡ take_tops taking_names (without_bodies f).decls
  pub embedded : (f : FileTree) → map (λ o. o.ident) (filter is_embedded (outer_names f)) ≡ take_tops embedding (without_bodies f).decls

-- keys

abbrev pub place_in : Option FileTree → ℕ → Option Place
place_in None n = None
place_in (Some f) n = slice_get (places_of f) n

-- a declaration of a package has a place: its file's table has this kind at this number, and it stands at this offset
abbrev pub HasPlace : List FileTree → DeclRef → ℕ → Type 0
HasPlace files d offset = place_in (slice_get files d.file) d.number ≡ Some (record { at = offset; kind = d.kind })

-- declarations of a package that stand at one place are the same
abbrev pub OneKeyAPlace : Type 0
OneKeyAPlace = (files : List FileTree) → All IsPlaced files → (d e : DeclRef) (offset : ℕ) → HasPlace files d offset → HasPlace files e offset → d.file ≡ e.file → d ≡ e
