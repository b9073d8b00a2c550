-- A type outside functions in which one identifier is spelled anew.
use Rattle.std.proofs.Common.{◌≡◌, ℕ, Bool, true, false, List, ◌++◌, map, refl, sym, ap, ◌∙◌, if◌then◌else◌}
use Rattle.std.specs.Prelude.{⊤, Option, Some, None}
use Rattle.go_tree_nodes.specs.text_core.Text.{is_blank}
use Rattle.go_tree_nodes.specs.text_core.declared.rule.Rule.TheVariants.{N8}
use Rattle.go_tree_nodes.specs.declared.names.Ident.{Ident}
use Rattle.go_tree_nodes.specs.declared.types.TypeName.{TypeName}
use Rattle.go_tree_nodes.specs.Trees.{TypeTree, SignatureTree}
use Rattle.go_names_core.specs.block_core.declared.binding.Binding.{Binding}
use Rattle.go_names_core.specs.block_core.declared.binding.Target.{Target}
use Rattle.go_names_core.specs.block_core.declared.binding.Target.TheVariants as targets
use Rattle.go_names_core.specs.block_core.Blocks.{file_binding}
use Rattle.go_cursor_core.specs.denote_core.declared.things.Answer.{Answer}
use Rattle.go_cursor_core.specs.denote_core.declared.things.Denoted.{Denoted}
use Rattle.go_cursor_core.specs.denote_core.declared.things.Denoted.TheVariants as denotes
use Rattle.go_cursor_core.specs.denote_core.declared.things.Stand.TheVariants as stands
use Rattle.go_cursor_core.specs.denote_core.Answers.{refused, found_answer}
use Rattle.go_candidate_core.specs.handle_core.Declarations.{Declaration}
use Rattle.go_term_core.specs.Terms.{Term, Sign}
use Rattle.go_names_core.specs.declared.meaning.Outside.TheVariants as outsides
use Rattle.go_stmt_core.specs.expr_core.Looks.{WrittenRules}
use Rattle.go_stmt_core.specs.expr_core.Denoting.{ident_answer}
use Rattle.go_stmt_core.specs.expr_core.Respelling.{RespellsName, RespellsType, RespellsSignature}
use Rattle.go_stmt_core.specs.expr_core.TypeUses.{type_uses, signature_uses}
use Rattle.go_stmt_core.specs.expr_core.Uses.{Spot, use_of, type_name_spots, type_name_uses, type_spots, signature_spots}
use Rattle.go_candidate_core.specs.declared_core.declared.face.Face.TheVariants as faces
use Rattle.go_candidate_core.specs.declared_core.Faces.{TheFace}
use Rattle.go_package_core.specs.env_core.declared.meaning.Meaning.{Meaning}
use Rattle.go_package_core.specs.env_core.declared.meaning.Meaning.TheVariants as meanings
use Rattle.go_package_core.specs.env_core.Found.{found_face, found_universe, found_target, found_binding, found_of}
use Rattle.go_package_core.specs.env_core.Scenes.{SceneModel}
use Rattle.go_package_core.specs.env_core.Looks.{TheLooks}
use Rattle.go_snap_core.specs.value_core.Package.{top_look}
use Rattle.go_complete_core.specs.spelling.Contexts.{ContextStays}
use Rattle.go_complete_core.specs.spelling.PieceLaws.{OuterTypesStay}
use Rattle.go_complete_core.specs.spelling.Package.{file_looks}
use Rattle.go_complete_core.proofs.SpellingSplits.{split_stays}
use Rattle.go_complete_core.proofs.SpellingChanges.{Change, OfName, OfSelector, OfElement, of_name, of_type, of_signature}

abbrev nothing : Denoted Term Sign Declaration
nothing = denotes.Refused

-- before the dot of a type a declaration that is no package is nothing
face_refused : (d : Declaration) (f : Option TheFace) → (found_answer {P = List ℕ} stands.TypeDot (found_face d f)).denoted ≡ nothing
face_refused d None = refl
face_refused d (Some (faces.«Type» t)) = refl
face_refused d (Some (faces.Func g)) = refl
face_refused d (Some (faces.«Value» o)) = refl

module _ (s other : SceneModel) (known known' : List (Option TheFace)) (file : ℕ) (name : List ℕ) (path : s.path ≡ other.path) (blocks : s.blocks ≡ other.blocks) where
  target_same : (t : Target) → (found_answer {P = List ℕ} stands.TypeDot (found_target s t)).denoted ≡ (found_answer {P = List ℕ} stands.TypeDot (found_target other t)).denoted
  target_same (targets.«Package» p) = refl
  target_same (targets.Refused rule) = refl
  target_same (targets.Exported k) = face_refused _ _ ∙ sym (face_refused _ _)

  binding_same : (t : Option Binding) → (found_answer {P = List ℕ} stands.TypeDot (found_binding s t)).denoted ≡ (found_answer {P = List ℕ} stands.TypeDot (found_binding other t)).denoted
  binding_same None = refl
  binding_same (Some b) = target_same b.target

  meaning_same : (m : Option Meaning) → (found_answer {P = List ℕ} stands.TypeDot (found_of s file known name m)).denoted ≡ (found_answer {P = List ℕ} stands.TypeDot (found_of other file known' name m)).denoted
  meaning_same None = refl
  meaning_same (Some (meanings.Local at value)) = refl
  meaning_same (Some (meanings.Outside (outsides.«Package» d))) = face_refused _ _ ∙ sym (face_refused _ _)
  meaning_same (Some (meanings.Outside (outsides.File at))) =
      binding_same (file_binding s.blocks file name) ∙ ap (λ b. (found_answer {P = List ℕ} stands.TypeDot (found_binding other (file_binding b file name))).denoted) blocks
  meaning_same (Some (meanings.Outside (outsides.Universe p))) = ap (λ q. (found_answer {P = List ℕ} stands.TypeDot (found_universe q p)).denoted) path

either_same : (b : Bool) (x y : Answer Term Sign Declaration (List ℕ)) → x.denoted ≡ y.denoted → (if b then refused N8 else x).denoted ≡ (if b then refused N8 else y).denoted
either_same true x y h = refl
either_same false x y h = h

module _ (s other : SceneModel) (file : ℕ) (written written' : WrittenRules Term) (known known' : List (Option TheFace)) (x : Ident) (name : List ℕ) (path : s.path ≡ other.path) (blocks : s.blocks ≡ other.blocks) where
  abbrev looks : TheLooks
  looks = file_looks s file written known

  abbrev after : TheLooks
  after = file_looks other file written' known'

  qualifier_same : (y : Ident) → (ident_answer looks stands.TypeDot y).denoted ≡ (ident_answer after stands.TypeDot y).denoted
  qualifier_same y =
      either_same (is_blank y.name) (found_answer stands.TypeDot (looks.find y.name y.span.start)) (found_answer stands.TypeDot (after.find y.name y.span.start))
      (meaning_same s other known known' file y.name path blocks (top_look s.blocks file y.name y.span.start)
      ∙ ap (λ b. (found_answer {P = List ℕ} stands.TypeDot (found_of other file known' y.name (top_look b file y.name y.span.start))).denoted) blocks)

  abbrev Sees : List Ident → Type 0
  Sees xs = ⊤

  only_left : (xs ys : List Ident) → Sees (xs ++ ys) → Sees xs
  only_left xs ys h = h

  only_right : (xs ys : List Ident) → Sees (xs ++ ys) → Sees ys
  only_right xs ys h = h

  split_of : (xs ys : List Ident) (ps bs : List (Spot Term Declaration (List ℕ))) → Change Term Declaration (List ℕ) Sees x name ⊥ xs ys ps bs → ContextStays Term Sign Declaration (List ℕ) after x name ps (map (use_of after) bs)
  split_of xs ys ps bs (OfName c) = split_stays x name after ps bs c
  split_of xs ys ps bs (OfSelector q c) = split_stays x name after ps bs (c tt)
  split_of xs ys ps bs (OfElement q never) = absurd never

  pub name_stays : (n m : TypeName) → RespellsName x name n m → ContextStays Term Sign Declaration (List ℕ) after x name (type_name_spots looks n) (type_name_uses after m)
  name_stays n m r = split_of _ _ _ _ (of_name Sees only_left only_right x name looks after (λ y h. qualifier_same y) n m r)

  pub type_stays : (t u : TypeTree) → RespellsType x name t u → ContextStays Term Sign Declaration (List ℕ) after x name (type_spots looks t) (type_uses after u)
  type_stays t u r = split_of _ _ _ _ (of_type Sees only_left only_right x name looks after (λ y h. qualifier_same y) t u r)

  pub signature_stays : (a b : SignatureTree) → RespellsSignature x name a b → ContextStays Term Sign Declaration (List ℕ) after x name (signature_spots looks a) (signature_uses after b)
  signature_stays a b r = split_of _ _ _ _ (of_signature Sees only_left only_right x name looks after (λ y h. qualifier_same y) a b r)

pub outer_types_stay : OuterTypesStay
outer_types_stay = record {
  names = λ s other file written written' known known' x name path blocks. name_stays s other file written written' known known' x name path blocks;
  types = λ s other file written written' known known' x name path blocks. type_stays s other file written written' known known' x name path blocks;
  signatures = λ s other file written written' known known' x name path blocks. signature_stays s other file written written' known known' x name path blocks;
}
