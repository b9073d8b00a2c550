-- The look-ups of a place are those of what it is made of, and what is noted by them.
use Rattle.std.proofs.Common.{◌≡◌, ℕ, Bool, List, [], ◌∷◌, ◌++◌, Option, Vec, Result, Ok, Err, ap, ◌∙◌}
use Rattle.std.specs.Global.{Global}
use Rattle.std.specs.Result.{IfOk, OnOk}
use Rattle.go_tree_nodes.specs.Trees.{SignatureTree}
use Rattle.go_tree_nodes.specs.declared.names.Ident.{Ident}
use Rattle.go_operand_core.specs.declared.types.Operand.{Operand}
use Rattle.go_term_core.specs.Terms.{Term}
use Rattle.go_local_core.specs.Steps.{Piece}
use Rattle.go_names_core.specs.declared.look.OpenNames.{OpenNames}
use Rattle.go_names_core.specs.Scope.{open_look, look_in_scope}
use Rattle.go_names_core.specs.scope_core.Models.{scopes_model}
use Rattle.go_inline_core.specs.Types.{InlineOf}
use Rattle.go_local_core.specs.declared.Fault.{Fault}
use Rattle.go_stmt_core.specs.piece.Headers.{returned_types}
use Rattle.go_stmt_core.specs.piece.Pieces.{piece_uses, piece_faults, piece_values}
use Rattle.go_local_core.specs.Pieces.{piece_declares}
use Rattle.go_declared_core.specs.Faces.{TheFace}
use Rattle.go_env_core.specs.declared.scene.Scene.{Scene}
use Rattle.go_env_core.specs.declared.here.Here.{Here}
use Rattle.go_env_core.specs.declared.meaning.Meaning.{Meaning}
use Rattle.go_env_core.specs.declared.meaning.Meaning.TheVariants as meanings
use Rattle.go_env_core.specs.Scenes.{scene_shown}
use Rattle.go_env_core.specs.Looks.{TheLooks, here_looks, looks_in, inline_rules}
use Rattle.go_body_core.specs.Notes.{TheUse, NoteOf, note}
use Rattle.go_body_core.specs.declared.pieces.Pieces.{Pieces}
use Rattle.go_body_core.specs.declared.piece_trees.PieceTree.{PieceTree}
use Rattle.go_body_core.specs.Rules.{declared_among, locals_of, local_at, piece_locals, outside_looks, rules_of}
use Rattle.go_body_core.specs.mirrors.PieceTrees.{piece_of, faults_of, values_of}
use Rattle.go_body_core.specs.mirrors.Noted.{looks_at, values_at, noted_at}
use Rattle.go_body_core.proofs.Meaning.{locals_meant}

module _ (h : Here) (scene : Scene) (file : ℕ) (inline : List (ℕ × InlineOf)) (known : List (Option TheFace)) (names : OpenNames Meaning)
    (a : h.scene.now ≡ scene) (b : h.file ≡ file) (c : h.inline.now ≡ inline) (d : h.known.now ≡ known) (e : h.names.now ≡ names) where
  pub standing_looks : here_looks h ≡ looks_in (scene_shown scene) file known (inline_rules (scene_shown scene) inline) (open_look meanings.Outside names)
  standing_looks =
      ap (λ s. looks_in (scene_shown s) h.file h.known.now (inline_rules (scene_shown s) h.inline.now) (open_look meanings.Outside h.names.now)) a
      ∙ (ap (λ f. looks_in (scene_shown scene) f h.known.now (inline_rules (scene_shown scene) h.inline.now) (open_look meanings.Outside h.names.now)) b
      ∙ (ap (λ i. looks_in (scene_shown scene) file h.known.now (inline_rules (scene_shown scene) i) (open_look meanings.Outside h.names.now)) c
      ∙ (ap (λ k. looks_in (scene_shown scene) file k (inline_rules (scene_shown scene) inline) (open_look meanings.Outside h.names.now)) d
      ∙ ap (λ n. looks_in (scene_shown scene) file known (inline_rules (scene_shown scene) inline) (open_look meanings.Outside n)) e)))

  -- where no block of a function is open
  pub top_standing : names.scopes.now ≡ scopes_model (scene_shown scene).blocks file [] → names.locals.now ≡ [] → here_looks h ≡ outside_looks (scene_shown scene) file known (inline_rules (scene_shown scene) inline)
  top_standing scopes locals =
      let rules = inline_rules (scene_shown scene) inline in
      standing_looks
      ∙ (ap (λ s. looks_in (scene_shown scene) file known rules (look_in_scope meanings.Outside s names.locals.now)) scopes
      ∙ ap (λ ls. looks_in (scene_shown scene) file known rules (look_in_scope meanings.Outside (scopes_model (scene_shown scene).blocks file []) ls)) locals)

-- what is noted of a piece, behind nothing, and what its names stand for and mean, by the look-ups of its place
module _ (a : Pieces) (h : Here) (names : OpenNames Meaning) (scene : h.scene.now ≡ a.scene.now) (file : h.file ≡ a.file) (inline : h.inline.now ≡ a.inline.now) (known : h.known.now ≡ a.known.now) (open_names : h.names.now ≡ names) where
  looks_same : here_looks h ≡ looks_at a names
  looks_same = standing_looks h a.scene.now a.file a.inline.now a.known.now names scene file inline known open_names

  pub valued : (firsts : List Bool) (t : PieceTree) (vs : List (Option (Operand Term))) → vs ≡ values_of (here_looks h) firsts t → vs ≡ values_at a names firsts t
  valued firsts t vs i = i ∙ ap (λ l. values_of l firsts t) looks_same

  pub noted : (firsts : List Bool) (t : PieceTree) (idents : List Ident) (old new : List NoteOf) (us us-before : List TheUse) (fs fs-before : List Fault) (vs : List (Option (Operand Term)))
      → us-before ≡ [] → fs-before ≡ [] → us ≡ us-before ++ piece_uses (here_looks h) (piece_of t) → fs ≡ fs-before ++ faults_of (here_looks h) a.results.now a.has_names firsts t
      → vs ≡ values_of (here_looks h) firsts t → new ≡ old ++ note us fs (declared_among firsts (locals_of idents vs)) ∷ [] → new ≡ old ++ noted_at a names firsts t idents ∷ []
  noted firsts t idents old new us us-before fs fs-before vs u f i j k added =
      let used : us ≡ piece_uses (looks_at a names) (piece_of t) = i ∙ (ap (λ l. l ++ piece_uses (here_looks h) (piece_of t)) u ∙ ap (λ l. piece_uses l (piece_of t)) looks_same) in
      let broken : fs ≡ faults_of (looks_at a names) a.results.now a.has_names firsts t =
      j ∙ (ap (λ l. l ++ faults_of (here_looks h) a.results.now a.has_names firsts t) f ∙ ap (λ l. faults_of l a.results.now a.has_names firsts t) looks_same) in
      let values : vs ≡ values_at a names firsts t = valued firsts t vs k in
      added ∙ (λ n. old ++ note (used n) (broken n) (declared_among firsts (locals_of idents (values n))) ∷ [])

pub meant : {E : Type 0} (r : Result (Vec Meaning Global) E) (idents : List Ident) (vs ws : List (Option (Operand Term))) → vs ≡ ws → IfOk r (λ l. l.items ≡ locals_of idents vs) → IfOk r (λ l. l.items ≡ locals_of idents ws)
meant (Ok l) idents vs ws same made = made ∙ ap (locals_of idents) same
meant (Err e) idents vs ws same made = tt

-- what is noted of a piece that declares names is what the rules note of it
module _ (a : Pieces) (names : OpenNames Meaning) (firsts : List Bool) (p : Piece) (idents : List Ident) (old new : List NoteOf) where
  abbrev place_looks : TheLooks
  place_looks = looks_at a names

  pub by_rules : idents ≡ piece_declares p
      → new ≡ old ++ note (piece_uses place_looks p) (piece_faults place_looks a.results.now a.has_names firsts p) (declared_among firsts (locals_of idents (piece_values place_looks firsts p))) ∷ []
      → new ≡ old ++ (rules_of a).notes (open_look meanings.Outside names) firsts p
  by_rules same added =
      let declared : declared_among firsts (locals_of idents (piece_values place_looks firsts p)) ≡ piece_locals firsts p (local_at p (piece_values place_looks firsts p)) =
      ap (λ is. declared_among firsts (locals_of is (piece_values place_looks firsts p))) same ∙ ap (declared_among firsts) (locals_meant (piece_declares p) (piece_values place_looks firsts p)) in
      added ∙ (λ n. old ++ note (piece_uses place_looks p) (piece_faults place_looks a.results.now a.has_names firsts p) (declared n) ∷ [])

pub on_ok : {A E P : Type 0} (r : Result A E) → P → OnOk r P
on_ok (Ok x) h = h
on_ok (Err e) h = tt

pub if_ok : {A E P Q : Type 0} (r : Result A E) → OnOk r P → (P → Q) → OnOk r Q
if_ok (Ok x) h f = f h
if_ok (Err e) h f = tt

pub results_by : {E : Type 0} (r : Result (Vec (Option Term) Global) E) (looks other : TheLooks) (g : SignatureTree) → looks ≡ other → IfOk r (λ ts. ts.items ≡ returned_types looks g) → IfOk r (λ ts. ts.items ≡ returned_types other g)
results_by (Ok ts) looks other g same h = h ∙ ap (λ l. returned_types l g) same
results_by (Err e) looks other g same h = tt
