-- Types that are written are over what code takes them for.
use Rattle.std.proofs.Common.{◌≡◌, inl, inr, ℕ, true, List, [], ◌∷◌, ◌++◌, map, Option, Some, None, Contains, refl, sym, ap, ◌∙◌, subst}
use Rattle.std.proofs.lemmas.Bool.{and_parts}
use Rattle.go_constant_core.specs.text_core.declared.span.Span.{Span}
use Rattle.go_constant_core.specs.text_core.Each.{Each}
use Rattle.go_tree_nodes.specs.declared.files.Receiver.{Receiver}
use Rattle.go_tree_nodes.specs.declared.types.TypeName.{TypeName}
use Rattle.go_tree_nodes.specs.declared.types.TypeName.TheVariants as type_names
use Rattle.go_tree_nodes.specs.Trees.{FileTree, FuncTree, TypeTree, NamedType, Pointer, ParenType, Struct, Interface, ParamTrees, NoParams, Param, ResultTree, NoResult, OneResult, Results, SignatureTree, Signed}
use Rattle.go_tree_nodes.specs.WrittenTypes.{params_types, result_types, signature_types, some_type}
use Rattle.go_names_core.specs.local_core.Binding.{Local, bound}
use Rattle.go_names_core.specs.local_core.Steps.{Piece, Header, Spec, Act, Condition, Given}
use Rattle.go_term_core.specs.Terms.{Term}
use Rattle.go_term_core.specs.decl_core.declared.keys.DeclKey.{DeclKey}
use Rattle.go_term_core.specs.declared.settling.kind.Kind.{Kind}
use Rattle.go_body_core.specs.inline_core.Inline.{inline_of}
use Rattle.go_report_core.specs.denote_core.declared.things.Outcome.{Outcome}
use Rattle.go_report_core.specs.denote_core.declared.things.Outcome.TheVariants as outcomes
use Rattle.go_report_core.specs.denote_core.CompositeLiterals.{literal_type}
use Rattle.go_report_core.specs.expr_core.Denoting.{named_type, type_name_answer, written_type}
use Rattle.go_report_core.specs.expr_core.Uses.{Spot, params_spots, result_spots, signature_spots, type_name_spots, type_spots, use_of}
use Rattle.go_report_core.specs.expr_core.declared.things.Use.{Use}
use Rattle.go_body_core.specs.stmt_core.PieceHeaders.{returned_types}
use Rattle.go_body_core.specs.stmt_core.PiecePieces.{piece_uses}
use Rattle.go_body_core.specs.stmt_core.PieceTypes.{some_type_uses}
use Rattle.go_meaning_laws.specs.handle_core.Declarations.{Declaration}
use Rattle.go_body_core.specs.env_core.declared.meaning.Meaning.{Meaning as NameMeaning}
use Rattle.go_body_core.specs.env_core.Looks.{TheLooks, inline_type}
use Rattle.go_body_core.specs.function.Functions.{func_rules}
use Rattle.go_body_core.specs.function.Stands.{FileStand, kinds_in_scene, outer_look, outer_looks, outer_meanings}
use Rattle.go_body_core.specs.function.Types.{named_where}
use Rattle.go_body_core.proofs.FunctionAlike.{types_same}
use Rattle.go_body_core.proofs.FunctionRegions.{header_unseen}
use Rattle.go_emit_core.specs.package_core.PackagePartInputs.{InputModel}
use Rattle.go_emit_core.specs.package_core.PackagePartParts.{ContentOf, FileOf}
use Rattle.go_object_core.specs.declared.instructions.letters.Word.{Word}
use Rattle.go_code_core.specs.declared.fragments.names.Gives.TheVariants as gives
use Rattle.go_code_core.specs.declared.fragments.names.Meaning.{Meaning}
use Rattle.go_code_core.specs.declared.fragments.names.Meaning.TheVariants as meanings
use Rattle.go_code_core.specs.fragments.Fragment.{over, type_name_word, type_of_meaning, type_word}
use Rattle.go_code_core.specs.fragments.Inside.{results_inside, signature_inside, params_inside}
use Rattle.go_code_core.specs.fragments.Names.{CodeLooks}
use Rattle.go_workspace_laws.specs.folding.Laws.{AreMeant, IsMeant}
use Rattle.go_workspace_laws.specs.folding.Reading.{IsOneOver, IsOver, IsTypeMeant}
use Rattle.go_meaning_laws.specs.fitting_sources.Fitting.{signature_gives}
use Rattle.go_workspace_laws.specs.ConstantLaws.{code_names_of}
use Rattle.go_workspace_laws.specs.Standing.{pieces_of, stand_in_part}
use Rattle.go_workspace_laws.proofs.ConstantLists.{HasItem, contained, has, has_left, has_map, has_right}
use Rattle.go_program_laws.specs.types.Functions.{IsFunction, function_looks, meaning_there}
use Rattle.go_program_laws.specs.types.Written.{ShowTheirTypes, TypesAreOver, own_types}
use Rattle.go_program_laws.proofs.TypesOuter.{MeansLocal, all_local}
use Rattle.go_program_laws.proofs.TypesReady.{AreGiven, meant, placed, read}
use Rattle.go_program_laws.proofs.TypesWritten.{AreNamed, named_answer}

meant_type : (m : Meaning) (w : Word) → type_of_meaning m ≡ Some w → m ≡ meanings.«Type» w
meant_type (meanings.«Type» u) w e = (let same : u ≡ w = cc e in ap (λ x. meanings.«Type» x) same)
meant_type (meanings.Variable at u) w e = absurd (cc e)
meant_type (meanings.Constant v) w e = absurd (cc e)
meant_type (meanings.Function s) w e = absurd (cc e)
meant_type (meanings.Method s) w e = absurd (cc e)
meant_type meanings.Println w e = absurd (cc e)
meant_type meanings.Panic w e = absurd (cc e)
meant_type meanings.Other w e = absurd (cc e)

pub over_word : (o : Option Word) (w : Word) → over o ≡ gives.One w → o ≡ Some w
over_word None w e = absurd (cc e)
over_word (Some u) w e = (let same : u ≡ w = cc e in ap (λ x. Some x) same)

each_item : {A : Type 0} (P : A → Type 0) (xs : List A) (x : A) → Each P xs → HasItem xs x → P x
each_item P [] x h k = absurd k
each_item P (y ∷ ys) x h (inl e) = subst P e h.0
each_item P (y ∷ ys) x h (inr k) = each_item P ys x h.1 k

-- where the types of a header stand

module _ (looks : TheLooks) where
  in_params : (ps : ParamTrees) (u : TypeTree) (s : Spot Term Declaration (List ℕ)) → HasItem (params_types ps) u → HasItem (type_spots looks u) s → HasItem (params_spots looks ps) s
  in_params NoParams u s h k = absurd h
  in_params (Param xs v comma rest) u s (inl e) k = has_left (type_spots looks v) (params_spots looks rest) s (subst (λ x. HasItem (type_spots looks x) s) (sym e) k)
  in_params (Param xs v comma rest) u s (inr h) k = has_right (type_spots looks v) (params_spots looks rest) s (in_params rest u s h k)

  in_result : (r : ResultTree) (u : TypeTree) (s : Spot Term Declaration (List ℕ)) → HasItem (result_types r) u → HasItem (type_spots looks u) s → HasItem (result_spots looks r) s
  in_result NoResult u s h k = absurd h
  in_result (OneResult v) u s (inl e) k = subst (λ x. HasItem (type_spots looks x) s) (sym e) k
  in_result (OneResult v) u s (inr h) k = absurd h
  in_result (Results first ps last) u s h k = in_params ps u s h k

  in_signature : (g : SignatureTree) (u : TypeTree) (s : Spot Term Declaration (List ℕ)) → HasItem (signature_types g) u → HasItem (type_spots looks u) s → HasItem (signature_spots looks g) s
  in_signature (Signed first ps last r) u s h k = by (params_types ps) h (λ j. has_left (params_spots looks ps) (result_spots looks r) s (in_params ps u s j k)) (λ j. has_right (params_spots looks ps) (result_spots looks r) s (in_result r u s j k))
    where
      by : {A : Type 0} (xs : List TypeTree) → HasItem (xs ++ result_types r) u → (HasItem xs u → A) → (HasItem (result_types r) u → A) → A
      by [] h f g = g h
      by (x ∷ xs) (inl e) f g = f (inl e)
      by (x ∷ xs) (inr h) f g = by xs h (λ j. f (inr j)) g

module _ (laws : AreGiven) (i : InputModel) (c : ContentOf) (n : ℕ) (t : FileTree) (f : FileOf) (g : FuncTree) (all : List (Local NameMeaning)) (h : IsFunction i c n t f g all) (shows : ShowTheirTypes i c) where
  abbrev looks : TheLooks
  looks = function_looks i c n t all

  abbrev code : CodeLooks
  code = code_names_of i c n f g

  abbrev mean : Outcome Declaration (List ℕ) → Meaning
  mean = meaning_there i c n f

  abbrev st : FileStand
  st = stand_in_part i c n t

  abbrev Meant : Use Declaration (List ℕ) → Type 0
  Meant u = IsMeant Declaration (List ℕ) code mean u

  abbrev SpotsAreMeant : List (Spot Term Declaration (List ℕ)) → Type 0
  SpotsAreMeant ss = (s : Spot Term Declaration (List ℕ)) → HasItem ss s → Meant (use_of looks s)

  locals : Each MeansLocal all
  locals = all_local st g all h.right

  answer : (m : TypeName) → SpotsAreMeant (type_name_spots looks m) → AreNamed i c shows n t all locals mean (read laws i c n t f g all h) m
  answer (type_names.Plain x) each = (each _ (inl refl)).declared
  answer (type_names.Qualified q dot x) each = ((each _ (inl refl)).declared, (each _ (inr (inl refl))).declared)

  last_meant : (m : TypeName) → SpotsAreMeant (type_name_spots looks m) → (w : Word) → type_name_word code m ≡ Some w → mean (type_name_answer looks m).outcome ≡ meanings.«Type» w
  last_meant (type_names.Plain x) each w e = sym ((each _ (inl refl)).meaning) ∙ meant_type (code.meaning x.span.start) w e
  last_meant (type_names.Qualified q dot x) each w e = sym ((each _ (inr (inl refl))).meaning) ∙ meant_type (code.meaning x.span.start) w e

  named : (m : TypeName) → SpotsAreMeant (type_name_spots looks m) → (w : Word) → type_name_word code m ≡ Some w → IsOver looks.types w (written_type looks (NamedType m)) × IsOver looks.types w (named_type looks m)
  named m each w e =
      let a = named_answer i c shows n t all locals mean (read laws i c n t f g all h) m (answer m each) in
      let there : mean (outcomes.Declared a.decl) ≡ meanings.«Type» w = sym (ap mean a.outcome_is) ∙ last_meant m each w e in
      let over_it : IsOver looks.types w a.type_of = subst (λ x. IsTypeMeant looks.types a.type_of x) there a.meant in
      (subst (λ x. IsOver looks.types w x) (sym a.same) over_it, subst (λ d. IsOver looks.types w (literal_type d)) (sym a.denotes_is) over_it)

  over_type : (u : TypeTree) → SpotsAreMeant (type_spots looks u) → (w : Word) → type_word code u ≡ Some w → IsOver looks.types w (written_type looks u)
  over_type (NamedType m) each w e = (named m each w e).0
  over_type (ParenType first u last) each w e = over_type u each w e
  over_type (Pointer star u) each w e = absurd (cc e)
  over_type (Struct s first _ last) each w e = absurd (cc e)
  over_type (Interface s first _ last) each w e = absurd (cc e)

  spots_meant : (us vs : List (Use Declaration (List ℕ))) (ss : List (Spot Term Declaration (List ℕ))) → AreMeant code mean (us ++ (map (use_of looks) ss ++ vs)) → SpotsAreMeant ss
  spots_meant us vs ss each s k =
      each (use_of looks s) (contained _ (use_of looks s) (has_right us (map (use_of looks) ss ++ vs) (use_of looks s) (has_left (map (use_of looks) ss) vs (use_of looks s) (has_map (use_of looks) ss s k))))

  spots_last : (us : List (Use Declaration (List ℕ))) (ss : List (Spot Term Declaration (List ℕ))) → AreMeant code mean (us ++ map (use_of looks) ss) → SpotsAreMeant ss
  spots_last us ss each s k = each (use_of looks s) (contained _ (use_of looks s) (has_right us (map (use_of looks) ss) (use_of looks s) (has_map (use_of looks) ss s k)))

  spots_first : (vs : List (Use Declaration (List ℕ))) (ss : List (Spot Term Declaration (List ℕ))) → AreMeant code mean (map (use_of looks) ss ++ vs) → SpotsAreMeant ss
  spots_first vs ss each s k = each (use_of looks s) (contained _ (use_of looks s) (has_left (map (use_of looks) ss) vs (use_of looks s) (has_map (use_of looks) ss s k)))

  by_piece : (p : Piece) → AreMeant code mean (piece_uses looks p) → (u : TypeTree) → HasItem (own_types p) u → (w : Word) → type_word code u ≡ Some w → IsOver looks.types w (written_type looks u)
  by_piece (Header r s) each u k w e = over_type u (λ x j. spots_last _ (signature_spots looks s) each x (in_signature looks s u x k j)) w e
  by_piece (Spec kind v) each u k w e = by_spec v.type_expr _ each k
    where
      by_spec : (o : Option TypeTree) (vs : List (Use Declaration (List ℕ))) → AreMeant code mean (some_type_uses looks o ++ vs) → HasItem (some_type o) u → IsOver looks.types w (written_type looks u)
      by_spec None vs each k = absurd k
      by_spec (Some v) vs each (inl same) = over_type u (λ x j. spots_first vs (type_spots looks v) each x (subst (λ y. HasItem (type_spots looks y) x) (sym same) j)) w e
      by_spec (Some v) vs each (inr none) = absurd none
  by_piece (Act s) each u k w e = absurd k
  by_piece (Condition x) each u k w e = absurd k
  by_piece (Given place es) each u k w e = absurd k

  -- the header

  abbrev header : Piece
  header = Header g.receiver g.signature

  header_there : Contains (pieces_of g) header
  header_there = contained (pieces_of g) header (inl refl)

  pub header_over : (u : TypeTree) → HasItem (signature_types g.signature) u → (w : Word) → type_word code u ≡ Some w → IsOver looks.types w (written_type looks u)
  header_over u k w e = by_piece header (meant laws i c n t f g all h header header_there) u k w e

  receiver_over_both : (r : Receiver) → g.receiver ≡ Some r → (w : Word) → type_name_word code r.base ≡ Some w → IsOver looks.types w (written_type looks (NamedType r.base)) × IsOver looks.types w (named_type looks r.base)
  receiver_over_both r is w e =
      let each : AreMeant code mean (piece_uses looks (Header (Some r) g.signature)) = subst (λ x. AreMeant code mean (piece_uses looks (Header x g.signature))) is (meant laws i c n t f g all h header header_there) in
      named r.base (spots_first _ (type_name_spots looks r.base) each) w e

  pub receiver_over_written : (r : Receiver) → g.receiver ≡ Some r → (w : Word) → type_name_word code r.base ≡ Some w → IsOver looks.types w (written_type looks (NamedType r.base))
  receiver_over_written r is w e = (receiver_over_both r is w e).0

  pub receiver_over_word : (r : Receiver) → g.receiver ≡ Some r → (w : Word) → type_name_word code r.base ≡ Some w → IsOver looks.types w (named_type looks r.base)
  receiver_over_word r is w e = (receiver_over_both r is w e).1

  -- by what names mean outside the function a type of the header is the same
  outer_same : (u : TypeTree) → HasItem (signature_types g.signature) u → written_type looks u ≡ written_type (outer_looks st) u
  outer_same u k =
      let kind : DeclKey → Kind = kinds_in_scene st.scene in
      ap (λ x. inline_type st.scene.types (Some x))
      (each_item (λ (v : TypeTree). inline_of kind st.file (named_where (bound (outer_meanings st) all) st.top) v ≡ inline_of kind st.file (named_where (outer_look st) st.top) v) (signature_types g.signature) u
      (types_same kind st.file st.top (bound (outer_meanings st) all) (outer_look st) header (header_unseen (func_rules st g) (outer_meanings st) all g (placed laws i c n t f g all h) h.right)) k)

  result_over : (first : Span) (ps : ParamTrees) (last : Span) (r : ResultTree) → ((u : TypeTree) → HasItem (result_types r) u → (w : Word) → type_word code u ≡ Some w → IsOver looks.types w (written_type (outer_looks st) u))
      → results_inside code r ≡ true → (w : Word) → signature_gives code (Signed first ps last r) ≡ gives.One w → IsOneOver looks.types w (returned_types (outer_looks st) (Signed first ps last r))
  result_over first ps last NoResult each inside w e = absurd (cc e)
  result_over first ps last (OneResult u) each inside w e = each u (inl refl) w (over_word (type_word code u) w e)
  result_over first ps last (Results a NoParams b) each inside w e = absurd (cc e)
  result_over first ps last (Results a (Param None u comma NoParams) b) each inside w e = each u (inl refl) w (over_word (type_word code u) w e)
  result_over first ps last (Results a (Param None u comma (Param xs v comma' rest)) b) each inside w e = absurd (cc inside)
  result_over first ps last (Results a (Param (Some xs) u comma rest) b) each inside w e = absurd (cc inside)

  pub signature_over_word : (s : SignatureTree) → ((u : TypeTree) → HasItem (signature_types s) u → (w : Word) → type_word code u ≡ Some w → IsOver looks.types w (written_type (outer_looks st) u))
      → signature_inside code s ≡ true → (w : Word) → signature_gives code s ≡ gives.One w → IsOneOver looks.types w (returned_types (outer_looks st) s)
  signature_over_word (Signed first ps last r) each inside w e =
      result_over first ps last r (λ u k. each u (has_right (params_types ps) (result_types r) u k)) (and_parts (params_inside code ps) (results_inside code r) inside).1 w e

  pub returned_over : signature_inside code g.signature ≡ true → (w : Word) → signature_gives code g.signature ≡ gives.One w → IsOneOver looks.types w (returned_types (outer_looks st) g.signature)
  returned_over inside w e = signature_over_word g.signature (λ u k v is. subst (λ x. IsOver looks.types v x) (outer_same u k) (header_over u k v is)) inside w e

pub types_over : AreGiven → TypesAreOver
types_over laws = record {
  written = λ i c n t f g all h shows p piece u k w e. by_piece laws i c n t f g all h shows p (meant laws i c n t f g all h p piece) u (has (own_types p) u k) w e;
  received = receiver_over_word laws;
  returned = λ i c n t f g all h shows inside w e. returned_over laws i c n t f g all h shows inside w e;
}
