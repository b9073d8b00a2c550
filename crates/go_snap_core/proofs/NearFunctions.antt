-- A function is the same in two stands of a file that agree on what is near.
use Rattle.std.proofs.Common.{◌≡◌, ℕ, zero, suc, Bool, List, [], ◌∷◌, ◌++◌, map, refl, ap, ◌∙◌, arith}
use Rattle.std.specs.Prelude.{Option, Some, None, ⊤, if◌then◌else◌}
use Rattle.go_term_core.specs.decl_core.declared.keys.DeclKey.{DeclKey}
use Rattle.go_tree_nodes.specs.declared.types.TypeName.{TypeName}
use Rattle.go_tree_nodes.specs.Trees.{TypeTree, FuncTree}
use Rattle.go_term_core.specs.declared.term.MemberPlace.TheVariants as places
use Rattle.go_term_core.specs.Terms.{Term, NoType}
use Rattle.go_body_core.specs.table_core.Entries.{term_in}
use Rattle.go_term_core.specs.settling.Settled.{kind_of_term, settled}
use Rattle.go_term_core.proofs.SettlingLocal.{settling_is_local}
use Rattle.go_term_core.proofs.SettlingMentions.{settled_mentions_written}
use Rattle.go_select_core.specs.embed_core.Telling.{faults_local}
use Rattle.go_body_core.specs.typexpr_core.WrittenWritten as types
use Rattle.go_body_core.specs.typexpr_core.WrittenWritten.{InFile, term_of}
use Rattle.go_body_core.specs.typexpr_core.WrittenByNames.{written_by_names}
use Rattle.go_names_core.specs.local_core.Binding.{NameLook}
use Rattle.go_names_core.specs.local_core.Steps.{Piece}
use Rattle.go_names_core.specs.local_core.Pieces.{ident_place, piece_declares}
use Rattle.go_names_core.specs.local_core.Outline.{func_steps, func_opens, func_closes}
use Rattle.go_names_core.specs.local_core.mirrors.Walk.{walk_out}
use Rattle.go_report_core.specs.operand_core.declared.types.Operand.{Operand}
use Rattle.go_report_core.specs.denote_core.declared.things.Found.TheVariants as founds
use Rattle.go_emit_core.specs.declared_core.Faces.{TheFace}
use Rattle.go_report_core.specs.handle_core.Declarations.{InFile as DeclaredIn}
use Rattle.go_names_core.specs.Scope.{some_meaning}
use Rattle.go_names_core.specs.scope_core.Scopes as scopes
use Rattle.go_names_core.specs.scope_core.Scopes.{Denoted}
use Rattle.go_names_core.specs.scope_core.Models.{scopes_model}
use Rattle.go_names_core.specs.scope_core.Laws.{denotes}
use Rattle.go_body_core.specs.inline_core.Functions.{looked_up_ident}
use Rattle.go_body_core.specs.inline_core.Inline.{inline_of, located_fault, repeated_params}
use Rattle.go_body_core.specs.env_core.declared.meaning.Meaning.{Meaning}
use Rattle.go_body_core.specs.env_core.declared.meaning.Meaning.TheVariants as meanings
use Rattle.go_body_core.specs.env_core.Scenes.{SceneModel}
use Rattle.go_body_core.specs.env_core.Found.{found_of}
use Rattle.go_body_core.specs.env_core.Looks.{inline_type, inline_faults}
use Rattle.go_body_core.specs.stmt_core.PieceHeaders.{returned_types, returned_names}
use Rattle.go_body_core.specs.stmt_core.PiecePieces.{piece_values}
use Rattle.go_body_core.specs.Body.{body_of}
use Rattle.go_body_core.specs.Notes.{note}
use Rattle.go_body_core.specs.Rules.{value_at, local_at, piece_locals}
use Rattle.go_body_core.specs.function.Types.{is_local_meaning, named_where}
use Rattle.go_body_core.specs.function.Stands.{FileStand, kinds_in_scene, types_where, looks_where, outer_meanings, outer_look, outer_looks}
use Rattle.go_body_core.specs.function.Functions.{own_rules, walked_func, checked_func}
use Rattle.go_snap_core.specs.near.Near.{IfAny, NearOperand, NearFound}
use Rattle.go_snap_core.specs.near.Looks.{AreClosed, LooksAgree}
use Rattle.go_snap_core.specs.near.Tables.{Nearby, IsNear, near_rest}
use Rattle.go_snap_core.specs.near.Scenes.{NamesAgree, WrittenAgree}
use Rattle.go_snap_core.specs.near.Pieces.{IsPieceNearby}
use Rattle.go_snap_core.specs.near.Functions.{stand, StandsAgree}
use Rattle.go_snap_core.proofs.NearClosing.{either}
use Rattle.go_snap_core.proofs.NearReaching.{typed_near, typed_same}
use Rattle.go_snap_core.proofs.NearSeeing.{scene_closed, scenes_agree}
use Rattle.go_snap_core.proofs.NearPieces.{pieces_nearby, returned_near, returned_same}
use Rattle.go_snap_core.proofs.NearWalking.{MeansNear, SayAlike, walk_same}
use Rattle.go_body_core.specs.stmt_core.StatementLocality.{Each}

module _ (near : Nearby) (file : InFile) (s t : SceneModel) (known others : List (Option TheFace)) (top other : types.Meaning) (law : StandsAgree near file s t known others top other) where
  abbrev one : FileStand
  one = stand file s known top

  abbrev two : FileStand
  two = stand file t others other

  -- what names mean

  abbrev NearMeaning : Meaning → Type 0
  NearMeaning (meanings.Outside o) = ⊤
  NearMeaning (meanings.Local at value) = IfAny (NearOperand (IsNear near)) value

  found_near : (name : List ℕ) (m : Option Meaning) → IfAny NearMeaning m → NearFound (IsNear near) (near_rest near) (found_of s file.file known name m)
  found_near name None h = tt
  found_near name (Some (meanings.Outside o)) h = law.outside_near name o
  found_near name (Some (meanings.Local at value)) h = h

  found_same : (name : List ℕ) (m : Option Meaning) → found_of s file.file known name m ≡ found_of t file.file others name m
  found_same name None = refl
  found_same name (Some (meanings.Outside o)) = law.outside name o
  found_same name (Some (meanings.Local at value)) = λ j. founds.«Value» (DeclaredIn (law.scenes.path j) (places.Local (record { file = file.file; offset = at }))) value

  -- types that are written

  kind_same : (k : DeclKey) → near.types k → kinds_in_scene s k ≡ kinds_in_scene t k
  kind_same k h = ap (λ e. kind_of_term (term_in e)) (law.scenes.types.same k h)

  module _ (look again : NameLook Meaning) (same : look ≡ again) where
    meaning_near : (n : TypeName) → IsNear near (named_where look top n)
    meaning_near n = either (IsNear near) (is_local_meaning (look (looked_up_ident n).name (looked_up_ident n).span.start)) _ _ (λ k h. absurd (omega (arith, h.1))) (law.meanings_near n)

    meaning_same : named_where look top ≡ named_where again other
    meaning_same = λ j n. if is_local_meaning (same j (looked_up_ident n).name (looked_up_ident n).span.start) then NoType else law.meanings n j

    term_near : (x : TypeTree) → IsNear near (term_of (named_where look top) file x)
    term_near x k h = let m = written_by_names.mentioned (named_where look top) file x k h in meaning_near m.0 k m.2

    settled_near : (x : TypeTree) → IsNear near (settled (kinds_in_scene s) (term_of (named_where look top) file x))
    settled_near x k h = term_near x k (settled_mentions_written (kinds_in_scene s) (term_of (named_where look top) file x) k h).1

    inline_same : (x : TypeTree) → inline_of (kinds_in_scene s) file (named_where look top) x ≡ inline_of (kinds_in_scene t) file (named_where again other) x
    inline_same x =
        let u = term_of (named_where look top) file x in
        let kinds = λ (k : DeclKey) (h : _). kind_same k (term_near x k h) in
        (λ j. record { term = settling_is_local (kinds_in_scene s) (kinds_in_scene t) u kinds j; faults = map (located_fault file.places) (faults_local (kinds_in_scene s) (kinds_in_scene t) u kinds j) ++ repeated_params x })
        ∙ (λ j. inline_of (kinds_in_scene t) file (meaning_same j) x)

    types_agree : WrittenAgree near (types_where one look) (types_where two again)
    types_agree = record {
      type_of = λ named x. typed_same near s.types t.types law.scenes.types (settled (kinds_in_scene s) (term_of (named_where look top) file x)) (settled_near x) ∙ ap (λ i. inline_type t.types (Some i)) (inline_same x);
      faults_of = λ named x. ap (λ i. inline_faults (Some i)) (inline_same x);
      are_near = λ named x. typed_near near s.types t.types law.scenes.types (settled (kinds_in_scene s) (term_of (named_where look top) file x)) (settled_near x);
    }

    module _ (sees : MeansNear NearMeaning look) where
      names_agree : NamesAgree near s t file.file known others look again
      names_agree = record {
        same = λ name offset. found_same name (look name offset) ∙ (λ j. found_of t file.file others name (same j name offset));
        are_near = λ name offset. found_near name (look name offset) (sees name offset);
      }

      closed : AreClosed (IsNear near) (near_rest near) (looks_where one look)
      closed = scene_closed near s t law.scenes file.file known others look again (types_where one look) (types_where two again) names_agree types_agree

      agree : LooksAgree (IsNear near) (near_rest near) (looks_where one look) (looks_where two again)
      agree = scenes_agree near s t law.scenes file.file known others look again (types_where one look) (types_where two again) names_agree types_agree

      piece : (p : Piece) → IsPieceNearby (IsNear near) (looks_where one look) (looks_where two again) p
      piece p = pieces_nearby (IsNear near) (near_rest near) (looks_where one look) (looks_where two again) closed agree p

  -- outside functions

  outer_same : outer_look one ≡ outer_look two
  outer_same = λ j name place. law.names name j

  meant_near : (d : Option Denoted) → IfAny NearMeaning (some_meaning meanings.Outside [] d)
  meant_near None = tt
  meant_near (Some (scopes.Local id)) = tt
  meant_near (Some (scopes.«Package» d)) = tt
  meant_near (Some (scopes.File b)) = tt
  meant_near (Some (scopes.Universe p)) = tt

  outer_near : MeansNear NearMeaning (outer_look one)
  outer_near name place = meant_near (denotes (scopes_model s.blocks file.file []) name)

  pub outer_closed : AreClosed (IsNear near) (near_rest near) (outer_looks one)
  outer_closed = closed (outer_look one) (outer_look two) outer_same outer_near

  pub outer_agree : LooksAgree (IsNear near) (near_rest near) (outer_looks one) (outer_looks two)
  outer_agree = agree (outer_look one) (outer_look two) outer_same outer_near

  -- the rules of a function

  value_near : (vs : List (Option (Operand Term))) (n : ℕ) → Each (IfAny (NearOperand (IsNear near))) vs → IfAny (NearOperand (IsNear near)) (value_at vs n)
  value_near [] n h = tt
  value_near (v ∷ vs) zero h = h.0
  value_near (v ∷ vs) (suc n) h = value_near vs n h.1

  module _ (results : List (Option Term)) (has_names : Bool) (inside : Each (IfAny (IsNear near)) results) where
    own_alike : SayAlike NearMeaning (own_rules one results has_names) (own_rules two results has_names)
    own_alike = record {
      notes = λ look firsts p sees.
          (λ j. note ((piece look look refl sees p).uses j) ((piece look look refl sees p).faults results has_names firsts inside j) (piece_locals firsts p (local_at p ((piece look look refl sees p).values firsts j))) ∷ []);
      means = λ look firsts p sees. (λ j n. meanings.Local (ident_place (piece_declares p) n) (value_at ((piece look look refl sees p).values firsts j) n));
      are_near = λ look firsts p n sees. value_near (piece_values (looks_where one look) firsts p) n ((piece look look refl sees p).near firsts);
    }

  walked_same : (f : FuncTree) → walked_func one f ≡ walked_func two f
  walked_same f =
      let results = returned_types (outer_looks one) f.signature in
      let names = returned_names f.signature in
      let inside = returned_near (IsNear near) (near_rest near) (outer_looks one) (outer_looks two) outer_closed outer_agree f.signature in
      walk_same NearMeaning (outer_meanings one) (λ name. outer_near name 0) (own_rules one results names) (own_rules two results names) (own_alike results names inside) [] [] (func_opens f) (func_closes f) (func_steps f) tt tt
      ∙ (λ j. walk_out (own_rules two (returned_same (IsNear near) (near_rest near) (outer_looks one) (outer_looks two) outer_closed outer_agree f.signature j) names) (λ name. law.names name j) [] [] (func_opens f) (func_closes f) (func_steps f))

  pub function_same : (f : FuncTree) → checked_func one f ≡ checked_func two f
  function_same f = ap (body_of f) (walked_same f)
