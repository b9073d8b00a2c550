-- What is noted at the top of a file is what the names there give, with each type as it is written.
use Rattle.std.proofs.Common.{◌≡◌, ℕ, List, [], ◌++◌, Result, Ok, Err, ap, ◌∙◌}
use Rattle.std.specs.Prelude.{if◌then◌else◌}
use Rattle.std.specs.Result.{OnOk, is_ok}
use Rattle.std.proofs.lemmas.Result.{on_ok_weaker}
use Rattle.go_tree_nodes.specs.Trees.{FuncTree, ValueTree, TypeDeclTree}
use Rattle.go_tree_nodes.specs.WrittenTypes.{specs_types}
use Rattle.go_tree_nodes.specs.Shapes.{shape_type_decl, shape_value}
use Rattle.go_names_core.specs.scope_core.Models.{scopes_model}
use Rattle.go_typexpr_core.specs.entry.Meanings.{Shows}
use Rattle.go_names_core.specs.declared.look.OpenNames.{OpenNames}
use Rattle.go_local_core.specs.Tables.{IsFuncPlaced}
use Rattle.go_inline_core.specs.Types.{InlineOf}
use Rattle.go_local_core.specs.declared.Fault.{Fault}
use Rattle.go_env_core.specs.declared.here.Here.{Here}
use Rattle.go_env_core.specs.declared.meaning.Meaning.{Meaning}
use Rattle.go_env_core.specs.Scenes.{scene_shown}
use Rattle.go_env_core.specs.Looks.{here_looks, inline_rules}
use Rattle.go_stmt_core.specs.toplevel.Tops.{value_decl_uses, value_decl_faults, type_decl_uses}
use Rattle.go_body_core.specs.Notes.{TheUse, TheLocal}
use Rattle.go_body_core.specs.Body.{IsGivenBody}
use Rattle.go_body_core.proofs.Standing.{on_ok, top_standing}
use Rattle.go_body_core.specs.function.Stands.{FileStand, outer_looks}
use Rattle.go_body_core.specs.function.Functions.{checked_func}
use Rattle.go_body_core.specs.function.Laws.{AreFuncTypes}
use Rattle.go_body_core.proofs.FunctionBodies.{bodies_are_as_written}
use Rattle.go_body_core.specs.declared.file.file_at.FileAt.{FileAt}
use Rattle.go_body_core.specs.declared.file.spec_decl.SpecDecl.{SpecDecl}
use Rattle.go_body_core.specs.declared.file.spec_decl.SpecDecl.TheVariants as decls
use Rattle.go_body_core.specs.file.Stands.{stand_of}
use Rattle.go_body_core.specs.file.mirrors.SpecDecls.{AreSpecsSeen, spec_decl_faults, spec_decl_uses}
use Rattle.go_body_core.specs.file.mirrors.Steps.{AreSeen}
use Rattle.go_body_core.proofs.FileSeen.{by_table, decl_used, decl_broken, types_used}

module _ {P : Type 0} (shows : P → Shows) (at : FileAt P) (h : Here) (names : OpenNames Meaning)
    (scene : h.scene.now ≡ at.scene.now) (file : h.file ≡ at.file) (inline : h.inline.now ≡ at.initial.now) (known : h.known.now ≡ at.known.now) (open_names : h.names.now ≡ names)
    (scopes : names.scopes.now ≡ scopes_model (scene_shown at.scene.now).blocks at.file []) (locals : names.locals.now ≡ []) where
  abbrev st : FileStand
  st = stand_of shows at

  looks_same : here_looks h ≡ by_table st at.initial.now
  looks_same = top_standing h at.scene.now at.file at.initial.now at.known.now names scene file inline known open_names scopes locals

  values_used : {E : Type 0} (r : Result (Unit {0}) E) (v : ValueTree) (old new : List TheUse) → AreSeen st at.initial.now (specs_types v.specs)
      → OnOk r (new ≡ old ++ value_decl_uses (here_looks h) v) → OnOk r (new ≡ old ++ value_decl_uses (outer_looks st) v)
  values_used r v old new seen = on_ok_weaker r (λ e. e ∙ ap (λ l. old ++ l) (ap (λ l. value_decl_uses l v) looks_same ∙ decl_used st at.initial.now v seen))

  values_broken : {E : Type 0} (r : Result (Unit {0}) E) (v : ValueTree) (old new : List Fault) → AreSeen st at.initial.now (specs_types v.specs)
      → OnOk r (new ≡ old ++ value_decl_faults (here_looks h) v) → OnOk r (new ≡ old ++ value_decl_faults (outer_looks st) v)
  values_broken r v old new seen = on_ok_weaker r (λ e. e ∙ ap (λ l. old ++ l) (ap (λ l. value_decl_faults l v) looks_same ∙ decl_broken st at.initial.now v seen))

  types_noted : {E : Type 0} (r : Result (Unit {0}) E) (t : TypeDeclTree) (old new : List TheUse) → OnOk r (new ≡ old ++ type_decl_uses (here_looks h) t) → OnOk r (new ≡ old ++ type_decl_uses (outer_looks st) t)
  types_noted r t old new = on_ok_weaker r (λ e. e ∙ ap (λ l. old ++ l) (ap (λ l. type_decl_uses l t) looks_same ∙ types_used st at.initial.now t))

  pub specs_used : {E : Type 0} (r : Result (Unit {0}) E) (d : SpecDecl) (old new : List TheUse) → AreSpecsSeen st at.initial.now d
      → OnOk r (new ≡ old ++ spec_decl_uses (here_looks h) d) → OnOk r (new ≡ old ++ spec_decl_uses (outer_looks st) d)
  specs_used r (decls.Values v) old new seen given = values_used r (shape_value v.now) old new seen given
  specs_used r (decls.Types t) old new seen given = types_noted r (shape_type_decl t.now) old new given

  pub specs_broken : {E : Type 0} (r : Result (Unit {0}) E) (d : SpecDecl) (old new : List Fault) → AreSpecsSeen st at.initial.now d
      → OnOk r (new ≡ old ++ spec_decl_faults (here_looks h) d) → OnOk r (new ≡ old ++ spec_decl_faults (outer_looks st) d)
  specs_broken r (decls.Values v) old new seen given = values_broken r (shape_value v.now) old new seen given
  specs_broken r (decls.Types t) old new seen given = given

-- what is added where that succeeds
same_added : {A E : Type 0} (r : Result (Unit {0}) E) (old new xs ys : List A) → xs ≡ ys → new ≡ (if is_ok r then old ++ xs else old) → OnOk r (new ≡ old ++ ys)
same_added (Ok x) old new xs ys e h = h ∙ ap (λ l. old ++ l) e
same_added (Err x) old new xs ys e h = tt

-- a function, by what its check gives with the types that are written in it
module _ (st : FileStand) (types : List (ℕ × InlineOf)) (f : FuncTree) (us : List TheUse) (fs : List Fault) (ls : List TheLocal) (placed : IsFuncPlaced f) (made : AreFuncTypes st f types)
    (given : IsGivenBody st.scene st.file.file st.known (inline_rules st.scene types) f us fs ls) where
  pub func_used : {E : Type 0} (r : Result (Unit {0}) E) (old new : List TheUse) → new ≡ old ++ us → OnOk r (new ≡ old ++ (checked_func st f).uses)
  func_used r old new e = on_ok r (e ∙ ap (λ l. old ++ l) (bodies_are_as_written st types f us fs ls placed made given).0)

  pub func_declares : {E : Type 0} (r : Result (Unit {0}) E) (old new : List TheLocal) → new ≡ old ++ ls → OnOk r (new ≡ old ++ (checked_func st f).locals)
  func_declares r old new e = on_ok r (e ∙ ap (λ l. old ++ l) (bodies_are_as_written st types f us fs ls placed made given).2)

  pub func_broken : {E : Type 0} (r : Result (Unit {0}) E) (old new : List Fault) → new ≡ (if is_ok r then old ++ fs else old) → OnOk r (new ≡ old ++ (checked_func st f).faults)
  func_broken r old new = same_added r old new fs (checked_func st f).faults (bodies_are_as_written st types f us fs ls placed made given).1
