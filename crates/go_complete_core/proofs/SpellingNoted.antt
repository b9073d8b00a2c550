-- What is answered for the declarations of a file is what the contexts of their identifiers give.
use Rattle.std.proofs.Common.{◌≡◌, ℕ, Bool, List, [], ◌∷◌, ◌++◌, map, refl, sym, ap, ◌∙◌, append_assoc}
use Rattle.std.specs.Prelude.{Option}
use Rattle.std.specs.List.{flat_map}
use Rattle.std.proofs.lemmas.List.{map-append}
use Rattle.go_tree_nodes.specs.text_core.declared.span.Span.{Span}
use Rattle.go_tree_nodes.specs.declared.names.Ident.{Ident}
use Rattle.go_tree_nodes.specs.declared.decls.ValueKind.TheVariants as kinds
use Rattle.go_tree_nodes.specs.Trees.{Specs, Single, Group, DeclTree, Value, Types, Func, FuncTree, TopTree, of_specs}
use Rattle.go_term_core.specs.Terms.{Term}
use Rattle.go_names_core.specs.local_core.Binding.{NameLook}
use Rattle.go_names_core.specs.local_core.Outline.{func_steps, func_opens, func_closes}
use Rattle.go_names_core.specs.local_core.Steps.{Piece, Spec, Steps, Done, Check, Declare, Inner}
use Rattle.go_names_core.specs.local_core.mirrors.Walk.{Names, look_in, with_names, news, names_of, walk_out}
use Rattle.go_stmt_core.specs.expr_core.TypeUses.{type_uses}
use Rattle.go_stmt_core.specs.expr_core.Uses.{use_of, type_spots}
use Rattle.go_stmt_core.specs.piece.Headers.{returned_types, returned_names}
use Rattle.go_stmt_core.specs.piece.Pieces.{piece_uses, piece_values}
use Rattle.go_stmt_core.specs.piece.Specifications.{spec_uses}
use Rattle.go_package_core.specs.env_core.declared.meaning.Meaning.{Meaning}
use Rattle.go_package_core.specs.body_core.Notes.{NoteOf, all_uses}
use Rattle.go_package_core.specs.body_core.Rules.{local_at}
use Rattle.go_package_core.specs.body_core.FunctionStands.{FileStand, looks_where, outer_meanings, outer_look, outer_looks}
use Rattle.go_package_core.specs.body_core.FunctionFunctions.{own_rules, checked_func}
use Rattle.go_package_core.specs.body_core.FileFiles.{decl_uses, tops_uses}
use Rattle.go_complete_core.specs.spelling.PieceContexts.{spot_rules}
use Rattle.go_complete_core.specs.spelling.PieceSpots.{spec_spots, piece_spots}
use Rattle.go_complete_core.proofs.SpellingPieces.{piece_used}
use Rattle.go_complete_core.specs.spelling.Functions.{TheSpot}
use Rattle.go_complete_core.specs.spelling.Spots.{decl_spots, tops_spots}
use Rattle.go_complete_core.specs.spelling.Places.{PlacedSpot, placed_spot, placed_use, piece_places, place_rules, func_places, decl_places, tops_places}

-- lists that are mapped

both_mapped : {A B : Type 0} (f : A → B) (us ws : List B) (ps bs : List A) → us ≡ map f ps → ws ≡ map f bs → us ++ ws ≡ map f (ps ++ bs)
both_mapped f us ws ps bs h k = ap (λ l. l ++ ws) h ∙ (ap (λ l. map f ps ++ l) k ∙ sym (map-append f ps bs))

each_mapped : {A B C : Type 0} (f : B → C) (us : A → List C) (ps : A → List B) → ((a : A) → us a ≡ map f (ps a)) → (xs : List A) → flat_map us xs ≡ map f (flat_map ps xs)
each_mapped f us ps h [] = refl
each_mapped f us ps h (x ∷ xs) = both_mapped f (us x) (flat_map us xs) (ps x) (flat_map ps xs) (h x) (each_mapped f us ps h xs)

specs_mapped : {A B C : Type 0} (f : B → C) (us : A → List C) (ps : A → List B) → ((a : A) → us a ≡ map f (ps a)) → (xs : Specs A) → of_specs us xs ≡ map f (of_specs ps xs)
specs_mapped f us ps h (Single a) = h a
specs_mapped {A = A} f us ps h (Group first ls last) = each_mapped f (λ (l : A × Option Span). us l.0) (λ (l : A × Option Span). ps l.0) (λ l. h l.0) ls

abbrev spot_of : PlacedSpot → TheSpot
spot_of s = s.spot

spots_back : (names : NameLook Meaning) (ps : List TheSpot) → ps ≡ map spot_of (map (placed_spot names) ps)
spots_back names [] = refl
spots_back names (p ∷ ps) = ap (λ l. p ∷ l) (spots_back names ps)

all_both : (ns ms : List NoteOf) → all_uses (ns ++ ms) ≡ all_uses ns ++ all_uses ms
all_both [] ms = refl
all_both (n ∷ ns) ms = ap (λ l. n.uses ++ l) (all_both ns ms) ∙ sym (append_assoc n.uses (all_uses ns) (all_uses ms))

module _ (st : FileStand) where
  uses_placed : (names : NameLook Meaning) (ps : List TheSpot) → map (use_of (looks_where st names)) ps ≡ map (placed_use st) (map (placed_spot names) ps)
  uses_placed names [] = refl
  uses_placed names (p ∷ ps) = ap (λ l. use_of (looks_where st names) p ∷ l) (uses_placed names ps)

  pub piece_noted : (names : NameLook Meaning) (p : Piece) → piece_uses (looks_where st names) p ≡ map (placed_use st) (piece_places st names p)
  piece_noted names p = piece_used (looks_where st names) p ∙ uses_placed names (piece_spots (looks_where st names) p)

  -- on the way through a function

  abbrev pub there : Names Meaning → Names Meaning → NameLook Meaning
  there outer block = look_in (outer_meanings st) (outer ++ block)

  abbrev pub block_after : Names Meaning → Names Meaning → Piece → List Ident → Names Meaning
  block_after outer block p xs = with_names block (local_at p (piece_values (looks_where st (there outer block)) (news (names_of block) xs) p)) 0 xs

  abbrev pub place_walk : Names Meaning → Names Meaning → ℕ → ℕ → Steps → List PlacedSpot
  place_walk outer block o c s = (walk_out (place_rules st) (outer_meanings st) outer block o c s).notes

  abbrev spot_walk : Names Meaning → Names Meaning → ℕ → ℕ → Steps → List TheSpot
  spot_walk outer block o c s = (walk_out (spot_rules (looks_where st) local_at) (outer_meanings st) outer block o c s).notes

  spots_walked : (s : Steps) (outer block : Names Meaning) (o c : ℕ) → spot_walk outer block o c s ≡ map spot_of (place_walk outer block o c s)
  spots_walked Done outer block o c = refl
  spots_walked (Check p rest) outer block o c =
      let names = there outer block in
      both_mapped spot_of (piece_spots (looks_where st names) p) (spot_walk outer block o c rest) (piece_places st names p) (place_walk outer block o c rest)
      (spots_back names (piece_spots (looks_where st names) p)) (spots_walked rest outer block o c)
  spots_walked (Declare m from p xs rest) outer block o c =
      let names = there outer block in
      let more = block_after outer block p xs in
      both_mapped spot_of (piece_spots (looks_where st names) p) (spot_walk outer more o c rest) (piece_places st names p) (place_walk outer more o c rest)
      (spots_back names (piece_spots (looks_where st names) p)) (spots_walked rest outer more o c)
  spots_walked (Inner a b inner rest) outer block o c =
      both_mapped spot_of (spot_walk (outer ++ block) [] a b inner) (spot_walk outer block o c rest) (place_walk (outer ++ block) [] a b inner) (place_walk outer block o c rest)
      (spots_walked inner (outer ++ block) [] a b) (spots_walked rest outer block o c)

  module _ (results : List (Option Term)) (has_names : Bool) where
    abbrev note_walk : Names Meaning → Names Meaning → ℕ → ℕ → Steps → List NoteOf
    note_walk outer block o c s = (walk_out (own_rules st results has_names) (outer_meanings st) outer block o c s).notes

    uses_walked : (s : Steps) (outer block : Names Meaning) (o c : ℕ) → all_uses (note_walk outer block o c s) ≡ map (placed_use st) (place_walk outer block o c s)
    uses_walked Done outer block o c = refl
    uses_walked (Check p rest) outer block o c =
        let names = there outer block in
        both_mapped (placed_use st) (piece_uses (looks_where st names) p) (all_uses (note_walk outer block o c rest)) (piece_places st names p) (place_walk outer block o c rest)
        (piece_noted names p) (uses_walked rest outer block o c)
    uses_walked (Declare m from p xs rest) outer block o c =
        let names = there outer block in
        let more = block_after outer block p xs in
        both_mapped (placed_use st) (piece_uses (looks_where st names) p) (all_uses (note_walk outer more o c rest)) (piece_places st names p) (place_walk outer more o c rest)
        (piece_noted names p) (uses_walked rest outer more o c)
    uses_walked (Inner a b inner rest) outer block o c =
        all_both (note_walk (outer ++ block) [] a b inner) (note_walk outer block o c rest)
        ∙ both_mapped (placed_use st) (all_uses (note_walk (outer ++ block) [] a b inner)) (all_uses (note_walk outer block o c rest)) (place_walk (outer ++ block) [] a b inner) (place_walk outer block o c rest)
        (uses_walked inner (outer ++ block) [] a b) (uses_walked rest outer block o c)

  func_noted : (f : FuncTree) → (checked_func st f).uses ≡ map (placed_use st) (func_places st f)
  func_noted f = uses_walked (returned_types (outer_looks st) f.signature) (returned_names f.signature) (func_steps f) [] [] (func_opens f) (func_closes f)

  -- declarations

  decl_noted : (d : DeclTree) → decl_uses st d ≡ map (placed_use st) (decl_places st d)
  decl_noted (Value v) =
      specs_mapped (use_of (outer_looks st)) (spec_uses (outer_looks st)) (spec_spots (outer_looks st)) (λ s. piece_used (outer_looks st) (Spec kinds.Var s)) v.specs
      ∙ uses_placed (outer_look st) (of_specs (spec_spots (outer_looks st)) v.specs)
  decl_noted (Types t) =
      specs_mapped (use_of (outer_looks st)) (λ s. type_uses (outer_looks st) s.type_expr) (λ s. type_spots (outer_looks st) s.type_expr) (λ s. refl) t.specs
      ∙ uses_placed (outer_look st) (of_specs (λ s. type_spots (outer_looks st) s.type_expr) t.specs)
  decl_noted (Func f) = func_noted f

  decl_spotted : (d : DeclTree) → decl_spots st d ≡ map spot_of (decl_places st d)
  decl_spotted (Value v) = spots_back (outer_look st) (of_specs (spec_spots (outer_looks st)) v.specs)
  decl_spotted (Types t) = spots_back (outer_look st) (of_specs (λ s. type_spots (outer_looks st) s.type_expr) t.specs)
  decl_spotted (Func f) = spots_walked (func_steps f) [] [] (func_opens f) (func_closes f)

  pub tops_noted : (ds : List TopTree) → tops_uses st ds ≡ map (placed_use st) (tops_places st ds)
  tops_noted ds = each_mapped (placed_use st) (λ (d : TopTree). decl_uses st d.decl) (λ (d : TopTree). decl_places st d.decl) (λ d. decl_noted d.decl) ds

  pub tops_spotted : (ds : List TopTree) → tops_spots st ds ≡ map (λ s. s.spot) (tops_places st ds)
  tops_spotted ds = each_mapped spot_of (λ (d : TopTree). decl_spots st d.decl) (λ (d : TopTree). decl_places st d.decl) (λ d. decl_spotted d.decl) ds
