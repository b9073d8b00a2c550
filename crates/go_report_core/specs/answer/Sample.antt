-- A package of two files, worked out by hand.
use Rattle.std.specs.Prelude.{◌≡◌, ℕ, true, false, List, [], ◌∷◌, Option, Some, None, codes}
use Rattle.go_path_core.specs.text_core.declared.rule.Rule.TheVariants.{B5, B1, Y7}
use Rattle.go_tree_nodes.specs.declared.decls.ValueKind.TheVariants as value_kinds
use Rattle.go_tree_nodes.specs.Trees.{One, Integer}
use Rattle.go_tree_nodes.specs.Samples.{at, called}
use Rattle.go_term_core.specs.decl_core.declared.keys.DeclRef.{DeclRef}
use Rattle.go_term_core.specs.decl_core.declared.places.DeclKind.TheVariants as kinds
use Rattle.go_term_core.specs.decl_core.TopDecls.{TopDeclTree, ValueForm, top_decl}
use Rattle.go_block_core.specs.Blocks.{BlocksModel, blocks_model}
use Rattle.go_block_core.specs.Faults.{block_fault}
use Rattle.go_block_core.specs.declared.fault.BlockRule.TheVariants as block_rules
use Rattle.go_report_core.specs.type_faults.Places.{fault_in}
use Rattle.go_report_core.specs.declared.type_faults.places.PackageFault.{PackageFault}
use Rattle.go_term_core.specs.declared.term.Basic.TheVariants as basics
use Rattle.go_term_core.specs.Terms.{Predeclared}
use Rattle.go_summary_core.specs.declared_core.declared.face.Face.TheVariants as faces
use Rattle.go_summary_core.specs.declared_core.Faces.{TheFace, variable_face}
use Rattle.go_report_core.specs.answer.Outer.{fault, outer_faults}
use Rattle.go_report_core.specs.answer.Shown.{decl_with_face, shown_of}
use Rattle.go_block_core.specs.Declarations.{decl_ref}

-- a.go: type T int, func (T) M() {}, type t int; b.go: var V int, const C = C
abbrev pub answer_sample_decls : List DeclRef
answer_sample_decls = decl_ref 0 0 kinds.«Type» ∷ (decl_ref 0 1 kinds.Method ∷ (decl_ref 0 2 kinds.«Type» ∷ (decl_ref 1 0 kinds.Var ∷ (decl_ref 1 1 kinds.Const ∷ []))))

abbrev pub sample_names : List (List ℕ × DeclRef)
sample_names = (codes "T", decl_ref 0 0 kinds.«Type») ∷ ((codes "t", decl_ref 0 2 kinds.«Type») ∷ ((codes "V", decl_ref 1 0 kinds.Var) ∷ ((codes "C", decl_ref 1 1 kinds.Const) ∷ [])))

abbrev pub number_face : TheFace
number_face = faces.«Type» (Some (Predeclared basics.Int))

-- of C nothing is known
abbrev pub sample_known : List (Option TheFace)
sample_known = Some number_face ∷ (Some number_face ∷ (Some number_face ∷ (Some (variable_face (Some (Predeclared basics.Int))) ∷ (None ∷ []))))

-- const C = 1, at an offset
abbrev pub value_decl : ℕ → TopDeclTree
value_decl n = top_decl (called (codes "C") n) 1 (ValueForm value_kinds.Const (record { names = One (called (codes "C") n); type_expr = None; values = Some (at 8, One (Integer 1 (at 9))) }) 0)

-- a second declaration of a name in the second file, and one in the first
abbrev pub answer_sample_blocks : BlocksModel
answer_sample_blocks = blocks_model sample_names ([] ∷ ([] ∷ [])) (block_fault 0 30 block_rules.B1 ∷ (block_fault 1 40 block_rules.B1 ∷ []))

abbrev pub sample_types : List PackageFault
sample_types = fault_in 1 20 B5 ∷ (fault_in 0 10 B5 ∷ [])

-- the method, what is not exported and that of which nothing is known have no face; the faults of the second file are its own
pub record AnswerSampleIsRight : Type 0 where
  pub shown : shown_of sample_names answer_sample_decls sample_known ≡ decl_with_face (decl_ref 0 0 kinds.«Type») number_face ∷ (decl_with_face (decl_ref 1 0 kinds.Var) (variable_face (Some (Predeclared basics.Int))) ∷ [])
  pub second : outer_faults 1 answer_sample_blocks sample_types (value_decl 3 ∷ (value_decl 7 ∷ [])) (false ∷ (true ∷ [])) ≡ fault 40 B1 ∷ (fault 20 B5 ∷ (fault 7 Y7 ∷ []))
  pub first : outer_faults 0 answer_sample_blocks sample_types [] [] ≡ fault 30 B1 ∷ (fault 10 B5 ∷ [])
