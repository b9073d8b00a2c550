-- How faces are stored, so that a model may hold one.
use Rattle.std.specs.Prelude.{◌≡◌, refl, ℕ, zero, suc, Bool, List, Option, ◌⊎◌}
use Rattle.std.specs.Coded.{Coded, code_by, coded×, coded⊎, coded_list, coded_option, coded_bool, coded_ℕ}
use Rattle.std.proofs.Common.{inl, inr}
use Rattle.go_operand_core.specs.constant_core.declared.values.Constant.{Constant}
use Rattle.go_operand_core.specs.constant_core.contracts.values.Constant as constant
use Rattle.go_term_core.specs.decl_core.declared.keys.DeclRef.{DeclRef}
use Rattle.go_term_core.specs.decl_core.contracts.keys.DeclRef as decl_ref
use Rattle.go_term_core.specs.Terms.{Term, Sign}
use Rattle.go_term_core.specs.codes.TermCodes.{coded_term, coded_sign}
use Rattle.go_operand_core.specs.declared.types.ValueType.{ValueType}
use Rattle.go_operand_core.specs.declared.types.ValueType.TheVariants as value_types
use Rattle.go_operand_core.specs.declared.types.Operand.{Operand}
use Rattle.go_declared_core.specs.declared.face.Face.TheVariants as faces
use Rattle.go_declared_core.specs.Faces.{TheFace}
use Rattle.go_declared_core.specs.Written.{WrittenOf}
use Rattle.go_declared_core.specs.Packages.{DeclaredOf, PackageFacesModel, package_faces}

-- a type, or a number for what has none
abbrev type_to : ValueType Term → Term ⊎ ℕ
type_to (value_types.Typed t) = inl t
type_to value_types.UntypedInt = inr 0
type_to value_types.UntypedText = inr 1
type_to value_types.UntypedBool = inr 2
type_to value_types.Nil = inr 3

abbrev type_from : Term ⊎ ℕ → ValueType Term
type_from (inl t) = value_types.Typed t
type_from (inr zero) = value_types.UntypedInt
type_from (inr (suc zero)) = value_types.UntypedText
type_from (inr (suc (suc zero))) = value_types.UntypedBool
type_from (inr (suc (suc (suc n)))) = value_types.Nil

pub type_back : (t : ValueType Term) → type_from (type_to t) ≡ t
type_back (value_types.Typed t) = refl
type_back value_types.UntypedInt = refl
type_back value_types.UntypedText = refl
type_back value_types.UntypedBool = refl
type_back value_types.Nil = refl

abbrev pub coded_value_type : Coded (ValueType Term)
coded_value_type = code_by (Term ⊎ ℕ) (coded⊎ coded_term coded_ℕ) type_to type_from type_back

abbrev pub coded_operand : Coded (Operand Term)
coded_operand = code_by (ValueType Term × (Option Constant × Bool)) (coded× coded_value_type (coded× (coded_option constant.the_row.coded) coded_bool)) (λ o. (o.value_type, (o.constant, o.addressable))) (λ p. record { value_type = p.0; constant = p.1.0; addressable = p.1.1 }) (λ _. refl)

abbrev FaceParts : Type 0
FaceParts = Option Term ⊎ (Sign ⊎ Option (Operand Term))

abbrev face_to : TheFace → FaceParts
face_to (faces.«Type» t) = inl t
face_to (faces.Func g) = inr (inl g)
face_to (faces.«Value» o) = inr (inr o)

abbrev face_from : FaceParts → TheFace
face_from (inl t) = faces.«Type» t
face_from (inr (inl g)) = faces.Func g
face_from (inr (inr o)) = faces.«Value» o

pub face_back : (f : TheFace) → face_from (face_to f) ≡ f
face_back (faces.«Type» t) = refl
face_back (faces.Func g) = refl
face_back (faces.«Value» o) = refl

abbrev pub coded_face : Coded TheFace
coded_face = code_by FaceParts (coded⊎ (coded_option coded_term) (coded⊎ coded_sign (coded_option coded_operand))) face_to face_from face_back

abbrev pub coded_written : Coded WrittenOf
coded_written = code_by (DeclRef × Option TheFace) (coded× decl_ref.the_row.coded (coded_option coded_face)) (λ w. (w.decl, w.face)) (λ p. record { decl = p.0; face = p.1 }) (λ _. refl)

abbrev pub coded_declared : Coded DeclaredOf
coded_declared = code_by (DeclRef × TheFace) (coded× decl_ref.the_row.coded coded_face) (λ w. (w.decl, w.face)) (λ p. record { decl = p.0; face = p.1 }) (λ _. refl)

-- names of a block, each with its declaration where it is exported
abbrev pub coded_names : Coded (List (List ℕ × Option DeclRef))
coded_names = coded_list (coded× (coded_list coded_ℕ) (coded_option decl_ref.the_row.coded))

abbrev pub coded_package_faces : Coded PackageFacesModel
coded_package_faces = code_by (List ℕ × (List (List ℕ × Option DeclRef) × List DeclaredOf)) (coded× (coded_list coded_ℕ) (coded× coded_names (coded_list coded_declared))) (λ p. (p.path, (p.names, p.faces))) (λ p. package_faces p.0 p.1.0 p.1.1) (λ _. refl)
