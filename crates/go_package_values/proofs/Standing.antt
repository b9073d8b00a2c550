-- What the top of a file sees.
use Rattle.std.proofs.Common.{◌≡◌, ℕ, List, [], length, map, sym, ap, ◌∙◌, subst}
use Rattle.std.specs.Prelude.{Option, Some, Result, Ok, Err, IfOk, slice_get, option_map}
use Rattle.std.proofs.lemmas.Option.{slice_get-map}
use Rattle.go_tree_nodes.specs.declared.decls.ValueKind.{ValueKind}
use Rattle.go_tree_nodes.specs.Trees.{ValueSpecTree}
use Rattle.go_term_core.specs.Terms.{Term}
use Rattle.go_operand_core.specs.declared.types.Operand.{Operand}
use Rattle.go_scope_core.specs.Models.{ScopesModel, scopes_model}
use Rattle.go_names_core.specs.Scope.{look_in_scope}
use Rattle.go_inline_core.specs.Types.{InlineOf}
use Rattle.go_decl_core.specs.Shown.{form_shown}
use Rattle.go_declared_core.specs.Faces.{TheFace}
use Rattle.go_declared_core.specs.Written.{written_at}
use Rattle.go_env_core.specs.declared.here.Here.{Here}
use Rattle.go_env_core.specs.declared.meaning.Meaning.{Meaning}
use Rattle.go_env_core.specs.declared.meaning.Meaning.TheVariants as meanings
use Rattle.go_env_core.specs.declared.scene.Scene.{Scene}
use Rattle.go_env_core.specs.Scenes.{SceneModel, scene_shown}
use Rattle.go_env_core.specs.Looks.{TheLooks, looks_in, inline_rules, here_looks}
use Rattle.go_digraph_core.specs.needs.Needs.{known_in}
use Rattle.go_value_core.specs.Initial.{initial, initial_idents}
use Rattle.go_value_core.specs.declared.placed.PlacedDecl.{PlacedDecl}
use Rattle.go_value_core.specs.Package.{top_look, top_looks, first_values, placed_shown, form_face, some_face, declared_face}
use Rattle.go_value_core.proofs.Seeing.{name_alike, first_at, needs_inside}

abbrev seen : Scene → ℕ → List (ℕ × InlineOf) → List (Option TheFace) → ScopesModel → List Meaning → TheLooks
seen s file types known scopes locals = looks_in (scene_shown s) file known (inline_rules (scene_shown s) types) (look_in_scope meanings.Outside scopes locals)

standing : (h : Here) (s : Scene) (file : ℕ) (types : List (ℕ × InlineOf)) (known : List (Option TheFace)) → h.scene.now ≡ s → h.file ≡ file → h.inline.now ≡ types → h.known.now ≡ known
    → h.names.now.scopes.now ≡ scopes_model (scene_shown s).blocks file [] → h.names.now.locals.now ≡ []
    → here_looks h ≡ looks_in (scene_shown s) file known (inline_rules (scene_shown s) types) (top_look (scene_shown s).blocks file)
standing h s file types known e1 e2 e3 e4 e5 e6 =
    ap (λ x. seen x h.file h.inline.now h.known.now h.names.now.scopes.now h.names.now.locals.now) e1
    ∙ (ap (λ x. seen s x h.inline.now h.known.now h.names.now.scopes.now h.names.now.locals.now) e2
    ∙ (ap (λ x. seen s file x h.known.now h.names.now.scopes.now h.names.now.locals.now) e3
    ∙ (ap (λ x. seen s file types x h.names.now.scopes.now h.names.now.locals.now) e4
    ∙ (ap (λ x. seen s file types known x h.names.now.locals.now) e5
    ∙ ap (λ x. seen s file types known (scopes_model (scene_shown s).blocks file []) x) e6))))

-- what the code answers for the name of a specification
pub stands : (h : Here) (s : Scene) (file : ℕ) (types : List (ℕ × InlineOf)) (known : List (Option TheFace)) (kind : ValueKind) (v : ValueSpecTree) (i : ℕ) (o : Option (Operand Term))
    → h.scene.now ≡ s → h.file ≡ file → h.inline.now ≡ types → h.known.now ≡ known → h.names.now.scopes.now ≡ scopes_model (scene_shown s).blocks file [] → h.names.now.locals.now ≡ []
    → o ≡ initial (here_looks h) kind v i → o ≡ initial (top_looks (scene_shown s) file types (known_in known)) kind v i
stands h s file types known kind v i o e1 e2 e3 e4 e5 e6 is =
    let m = scene_shown s in
    let first = first_values (length m.written) (known_in known) in
    is
    ∙ (ap (λ looks. initial looks kind v i) (standing h s file types known e1 e2 e3 e4 e5 e6)
    ∙ name_alike m file types known first kind v i (λ b has. sym (first_at (length m.written) (known_in known) b (needs_inside m file (initial_idents v i) b has))))

pub stands_ok : {E : Type 0} (h : Here) (s : Scene) (file : ℕ) (types : List (ℕ × InlineOf)) (known : List (Option TheFace)) (kind : ValueKind) (v : ValueSpecTree) (i : ℕ) (r : Result (Option (Operand Term)) E)
    → h.scene.now ≡ s → h.file ≡ file → h.inline.now ≡ types → h.known.now ≡ known → h.names.now.scopes.now ≡ scopes_model (scene_shown s).blocks file [] → h.names.now.locals.now ≡ []
    → IfOk r (λ o. o ≡ initial (here_looks h) kind v i) → IfOk r (λ o. o ≡ initial (top_looks (scene_shown s) file types (known_in known)) kind v i)
stands_ok h s file types known kind v i (Ok o) e1 e2 e3 e4 e5 e6 is = stands h s file types known kind v i o e1 e2 e3 e4 e5 e6 is
stands_ok h s file types known kind v i (Err e) e1 e2 e3 e4 e5 e6 is = tt

-- what the code answers for a declaration of the list
pub declared : {E : Type 0} (s : SceneModel) (ds : List PlacedDecl) (p : PlacedDecl) (n : ℕ) (known : ℕ → Option TheFace) (r : Result TheFace E) → slice_get ds n ≡ Some p
    → IfOk r (λ f. f ≡ form_face (top_looks s p.file p.types.now known) (written_at s.written n) (form_shown p.decl.form)) → IfOk r (λ v. v ≡ declared_face s (map placed_shown ds) known n)
declared s ds p n known r stands is = subst (λ o. IfOk r (λ v. v ≡ some_face s known n o)) (sym (slice_get-map placed_shown ds n ∙ ap (option_map placed_shown) stands)) is
