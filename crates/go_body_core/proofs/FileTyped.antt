-- What the names in a type have does not rest on what is made of types that are written out.
use Rattle.std.proofs.Common.{◌≡◌, map, refl, ap, ◌∙◌}
use Rattle.go_tree_nodes.specs.declared.types.TypeName.{TypeName}
use Rattle.go_tree_nodes.specs.declared.types.TypeName.TheVariants as type_names
use Rattle.go_tree_nodes.specs.Trees.{TypeTree, NamedType, Pointer, ParenType, Struct, Interface, FieldTrees, NoFields, NamedFields, EmbeddedField, MethodTrees, NoMethods, Method, SignatureTree, Signed, ResultTree, NoResult, OneResult, Results, ParamTrees, NoParams, Param}
use Rattle.go_expr_core.specs.Looks.{Looks, WrittenRules}
use Rattle.go_expr_core.specs.Locality.{seeing}
use Rattle.go_expr_core.specs.TypeUses.{type_uses}
use Rattle.go_expr_core.proofs.Alike.{pieces}
use Rattle.go_expr_core.specs.Uses.{Spot, Identifier, CallAt, NameAt, SelectorBehind, KeyAmong, use_of, type_name_spots, type_spots, fields_spots, methods_spots, signature_spots, result_spots, params_spots}

module _ {T S D P : Type 0} (looks : Looks T S D P) (written : WrittenRules T) where
  abbrev other : Looks T S D P
  other = seeing looks.find written looks

  use_same : (s : Spot T D P) → use_of looks s ≡ use_of other s
  use_same (Identifier (NameAt p) x) = refl
  use_same (Identifier (SelectorBehind u dot) x) = refl
  use_same (Identifier (KeyAmong k) x) = refl
  use_same (CallAt s o) = refl

  name_same : (n : TypeName) → type_name_spots looks n ≡ type_name_spots other n
  name_same (type_names.Plain x) = refl
  name_same (type_names.Qualified q dot x) = refl

  mutual
    type_same : (t : TypeTree) → type_spots looks t ≡ type_spots other t
    type_same (NamedType n) = name_same n
    type_same (Pointer star t) = type_same t
    type_same (ParenType first t last) = type_same t
    type_same (Struct k first ls last) = fields_same ls
    type_same (Interface k first ms last) = methods_same ms

    fields_same : (ls : FieldTrees) → fields_spots looks ls ≡ fields_spots other ls
    fields_same NoFields = refl
    fields_same (NamedFields xs t tag s rest) = pieces _ _ _ _ (type_same t) (fields_same rest)
    fields_same (EmbeddedField star n tag s rest) = pieces _ _ _ _ (name_same n) (fields_same rest)

    methods_same : (ms : MethodTrees) → methods_spots looks ms ≡ methods_spots other ms
    methods_same NoMethods = refl
    methods_same (Method x g s rest) = pieces _ _ _ _ (signature_same g) (methods_same rest)

    signature_same : (g : SignatureTree) → signature_spots looks g ≡ signature_spots other g
    signature_same (Signed first ps last r) = pieces _ _ _ _ (params_same ps) (result_same r)

    result_same : (r : ResultTree) → result_spots looks r ≡ result_spots other r
    result_same NoResult = refl
    result_same (OneResult t) = type_same t
    result_same (Results first ps last) = params_same ps

    params_same : (ps : ParamTrees) → params_spots looks ps ≡ params_spots other ps
    params_same NoParams = refl
    params_same (Param xs t comma rest) = pieces _ _ _ _ (type_same t) (params_same rest)

  pub type_used : (t : TypeTree) → type_uses looks t ≡ type_uses other t
  type_used t = ap (λ (f : Spot T D P → _). map f (type_spots looks t)) (λ j s. use_same s j) ∙ ap (map (use_of other)) (type_same t)
