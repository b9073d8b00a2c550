-- The types of a header are those of its signature.
use Rattle.std.proofs.Common.{◌≡◌, inl, inr, ℕ, true, List, [], ◌∷◌, ◌++◌, length, replicate, Option, Some, None, refl, sym, ap, ◌∙◌, subst, if◌then◌else◌}
use Rattle.go_constant_core.specs.text_core.Each.{Each}
use Rattle.go_tree_nodes.specs.declared.names.Ident.{Ident}
use Rattle.go_tree_nodes.specs.declared.types.TypeName.{TypeName}
use Rattle.go_tree_nodes.specs.declared.types.TypeName.TheVariants as type_names
use Rattle.go_tree_nodes.specs.Trees.{FileTree, FuncTree, Separated, One, Then, TypeTree, ParamTrees, NoParams, Param, SignatureTree, Signed}
use Rattle.go_tree_nodes.specs.WrittenTypes.{params_types, result_types, signature_types}
use Rattle.go_names_core.specs.local_core.Binding.{Local, bound}
use Rattle.go_names_core.specs.local_core.Outline.{idents}
use Rattle.go_names_core.specs.local_core.Steps.{Piece, Header}
use Rattle.go_term_core.specs.decl_core.declared.keys.DeclKey.{DeclKey}
use Rattle.go_term_core.specs.Terms.{Term, Terms, NoType}
use Rattle.go_term_core.specs.declared.settling.kind.Kind.{Kind}
use Rattle.go_term_core.specs.settling.Settled.{settled, settled_sign, settled_terms}
use Rattle.go_body_core.specs.typexpr_core.WrittenWritten.{Meaning as WrittenMeaning, for_each, for_names, params_of_tree, signature_of, term_of}
use Rattle.go_body_core.specs.inline_core.Inline.{inline_of}
use Rattle.go_body_core.specs.table_core.Entries.{Entry, find_entry, kinds_in}
use Rattle.go_meaning_laws.specs.handle_core.DecidingRules.{all_typed, param_types_of, typed}
use Rattle.go_body_core.specs.stmt_core.PieceHeaders.{entry_types, of_entry}
use Rattle.go_report_core.specs.expr_core.Denoting.{written_type}
use Rattle.go_body_core.specs.env_core.declared.meaning.Meaning.{Meaning as NameMeaning}
use Rattle.go_body_core.specs.env_core.Looks.{TheLooks, inline_type}
use Rattle.go_body_core.specs.function.Functions.{func_rules}
use Rattle.go_body_core.specs.function.Stands.{FileStand, kinds_in_scene, outer_look, outer_meanings}
use Rattle.go_body_core.specs.function.Types.{named_where}
use Rattle.go_body_core.proofs.FunctionAlike.{types_same}
use Rattle.go_body_core.proofs.FunctionRegions.{header_unseen, none_outside}
use Rattle.go_emit_core.specs.package_core.PackagePartInputs.{InputModel}
use Rattle.go_emit_core.specs.package_core.PackagePartParts.{ContentOf, FileOf}
use Rattle.go_workspace_laws.specs.Standing.{stand_in_part}
use Rattle.go_workspace_laws.proofs.ConstantLists.{HasItem, has_left}
use Rattle.go_program_laws.specs.types.Functions.{IsFunction, function_looks, known_types}
use Rattle.go_program_laws.proofs.TypesReady.{AreGiven, placed}
use Rattle.go_program_laws.specs.references.Callees.{types_taken}
use Rattle.go_program_laws.specs.references.Headers.{HeadersAreOfSignatures, signature_in}

each_item : {A : Type 0} (P : A → Type 0) (xs : List A) (x : A) → Each P xs → HasItem xs x → P x
each_item P [] x h k = absurd k
each_item P (y ∷ ys) x h (inl e) = subst P e h.0
each_item P (y ∷ ys) x h (inr k) = each_item P ys x h.1 k

-- outside functions no name is a local
pub top_at : (st : FileStand) (m : TypeName) → named_where (outer_look st) st.top m ≡ st.top m
top_at st (type_names.Plain x) = ap (λ b. if b then NoType else st.top (type_names.Plain x)) (none_outside st.scene.blocks st.file.file x.name)
top_at st (type_names.Qualified q dot x) = ap (λ b. if b then NoType else st.top (type_names.Qualified q dot x)) (none_outside st.scene.blocks st.file.file q.name)

top_same : (st : FileStand) → named_where (outer_look st) st.top ≡ st.top
top_same st = λ j m. top_at st m j

module _ (looks : TheLooks) (es : List Entry) where
  abbrev in_table : Terms → List (Option Term)
  in_table ts = all_typed (find_entry es) (settled_terms (kinds_in es) ts)

  each_same : (xs : Separated Ident) (u : Term) (w : Option Term) (rest : Terms) (ws : List (Option Term)) → typed (find_entry es) (settled (kinds_in es) u) ≡ w → in_table rest ≡ ws
      → in_table (for_each u xs rest) ≡ replicate (length (idents xs)) w ++ ws
  each_same (One x) u w rest ws e h = ap (λ a. a ∷ in_table rest) e ∙ ap (λ l. w ∷ l) h
  each_same (Then x comma xs) u w rest ws e h = ap (λ a. a ∷ in_table (for_each u xs rest)) e ∙ ap (λ l. w ∷ l) (each_same xs u w rest ws e h)

  entry_same : (xs : Option (Separated Ident)) (u : Term) (w : Option Term) (rest : Terms) (ws : List (Option Term)) → typed (find_entry es) (settled (kinds_in es) u) ≡ w → in_table rest ≡ ws
      → in_table (for_names u xs rest) ≡ of_entry true xs w ++ ws
  entry_same None u w rest ws e h = ap (λ a. a ∷ in_table rest) e ∙ ap (λ l. w ∷ l) h
  entry_same (Some xs) u w rest ws e h = each_same xs u w rest ws e h

  module _ (st : FileStand) where
    abbrev AreSame : List TypeTree → Type 0
    AreSame us = (u : TypeTree) → HasItem us u → typed (find_entry es) (settled (kinds_in es) (term_of st.top st.file u)) ≡ written_type looks u

    params_same : (ps : ParamTrees) → AreSame (params_types ps) → in_table (params_of_tree st.top st.file ps) ≡ entry_types looks true ps
    params_same NoParams each = refl
    params_same (Param xs u comma rest) each =
        entry_same xs (term_of st.top st.file u) (written_type looks u) (params_of_tree st.top st.file rest) (entry_types looks true rest) (each u (inl refl)) (params_same rest (λ v k. each v (inr k)))

    signature_same : (s : SignatureTree) → AreSame (signature_types s) → param_types_of (find_entry es) (settled_sign (kinds_in es) (signature_of st.top st.file s)) ≡ types_taken looks s
    signature_same (Signed first ps last r) each = params_same ps (λ u k. each u (has_left (params_types ps) (result_types r) u k))

module _ (laws : AreGiven) (i : InputModel) (c : ContentOf) (n : ℕ) (t : FileTree) (f : FileOf) (g : FuncTree) (all : List (Local NameMeaning)) (h : IsFunction i c n t f g all) where
  abbrev stand : FileStand
  stand = stand_in_part i c n t

  abbrev the_looks : TheLooks
  the_looks = function_looks i c n t all

  abbrev header : Piece
  header = Header g.receiver g.signature

  abbrev kind : DeclKey → Kind
  kind = kinds_in_scene stand.scene

  pub type_same : (u : TypeTree) → HasItem (signature_types g.signature) u → typed (find_entry (known_types i c)) (settled (kinds_in (known_types i c)) (term_of stand.top stand.file u)) ≡ written_type the_looks u
  type_same u k =
      let outer = each_item (λ (v : TypeTree). inline_of kind stand.file (named_where (bound (outer_meanings stand) all) stand.top) v ≡ inline_of kind stand.file (named_where (outer_look stand) stand.top) v) (signature_types g.signature) u
      (types_same kind stand.file stand.top (bound (outer_meanings stand) all) (outer_look stand) header (header_unseen (func_rules stand g) (outer_meanings stand) all g (placed laws i c n t f g all h) h.right)) k in
      sym (ap (λ x. inline_type stand.scene.types (Some x)) (outer ∙ ap (λ (m : WrittenMeaning). inline_of kind stand.file m u) (top_same stand)))

  header_same : (function_looks i c n t all).params (signature_in i c n t g) ≡ types_taken (function_looks i c n t all) g.signature
  header_same = signature_same the_looks (known_types i c) stand g.signature type_same

pub headers_same : AreGiven → HeadersAreOfSignatures
headers_same laws i c n t f g all h = header_same laws i c n t f g all h
