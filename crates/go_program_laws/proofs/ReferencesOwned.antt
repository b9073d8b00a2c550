-- What a package declares as a function is one among its own declarations.
use Rattle.std.proofs.Common.{◌≡◌, ℕ, zero, suc, ◌<◌, All, List, [], ◌∷◌, length, map, Contains, Option, Some, None, refl, sym, ap, subst, ◌∙◌, arith}
use Rattle.std.specs.Prelude.{option_map, slice_get, slice_index_or}
use Rattle.std.proofs.lemmas.Option.{none-some, slice_get-map}
use Rattle.go_tree_nodes.specs.Spelling.{IsPlaced}
use Rattle.go_tree_nodes.specs.Trees.{FuncTree}
use Rattle.go_digraph_core.specs.needs.Needs.{IsEndless, NeedsLead, known_in, needed}
use Rattle.go_term_core.specs.decl_core.TopDecls.{FormTree, FuncForm}
use Rattle.go_term_core.specs.decl_core.declared.keys.DeclRef.{DeclRef}
use Rattle.go_term_core.specs.Terms.{Sign}
use Rattle.go_body_core.specs.table_core.Entries.{Entry}
use Rattle.go_body_core.specs.typexpr_core.EntryAmong.{among_from}
use Rattle.go_body_core.specs.typexpr_core.EntryEntries.{file_at}
use Rattle.go_body_core.specs.typexpr_core.EntryMeanings.{file_meaning}
use Rattle.go_body_core.specs.typexpr_core.EntryOutlines.{FileOutline, IsOutline, outline_of}
use Rattle.go_emit_core.specs.declared_core.declared.face.Face.TheVariants as faces
use Rattle.go_emit_core.specs.declared_core.Faces.{TheFace}
use Rattle.go_emit_core.specs.declared_core.Laws.{FileDecl, PositionsAreExact, package_decls, written_there}
use Rattle.go_emit_core.specs.declared_core.Written.{WrittenOf, face_found, form_as_written, position_of, written_at, written_of}
use Rattle.go_body_core.specs.env_core.Found.{face_at}
use Rattle.go_body_core.specs.function.Stands.{outer_looks}
use Rattle.go_snap_core.specs.value_core.Package.{first_values, form_face, form_idents, idents_need, written_face}
use Rattle.go_emit_core.specs.package_core.PreparePackages.{PackageIn, outlines_in, scene_in, shows_in, stand_in, trees_in}
use Rattle.go_emit_core.specs.package_core.PrepareValues.{decls_in, declared_in, face_there, file_decl_needs, needs_in, some_decl_face}
use Rattle.go_snap_core.proofs.WholeWorkspaceLists.{all_from_among}
use Rattle.go_emit_core.specs.package_core.PackagePartInputs.{InputModel}
use Rattle.go_emit_core.specs.package_core.PackagePartParts.{ContentOf, IsPart, package_seen, seen_by}
use Rattle.go_program_laws.specs.types.Functions.{known_types}
use Rattle.go_program_laws.proofs.FaultlessShows.{declared}
use Rattle.go_program_laws.specs.references.Headers.{signature_in}
use Rattle.go_program_laws.specs.references.Own.{DeclaredFunctionsAreOwn, IsDeclaredFunction}
use Rattle.go_program_laws.proofs.ReferencesCallers.{outlined, position_same}
use Rattle.go_program_laws.proofs.ReferencesOwn.{form_written}

-- items of lists

mapped : {A B : Type 0} (f : A → B) (xs : List A) (n : ℕ) (b : B) → slice_get (map f xs) n ≡ Some b → (a : A) × (slice_get xs n ≡ Some a) × (f a ≡ b)
mapped f [] n b e = absurd (none-some b e)
mapped f (x ∷ xs) zero b e = (let some : Some (f x) ≡ Some b = e in (x, refl, cc some))
mapped f (x ∷ xs) (suc n) b e = mapped f xs n b e

index_there : {A B : Type 0} (f : A → B) (xs : List A) (n : ℕ) (a : A) (other : B) → slice_get xs n ≡ Some a → slice_index_or (map f xs) n other ≡ f a
index_there f [] n a other e = absurd (none-some a e)
index_there f (x ∷ xs) zero a other e = (let some : Some x ≡ Some a = e in let same : x ≡ a = cc some in ap f same)
index_there f (x ∷ xs) (suc n) a other e = index_there f xs n a other e

shorter : {A B : Type 0} (f : A → B) (xs : List A) (n : ℕ) (a : A) → slice_get xs n ≡ Some a → n < length (map f xs)
shorter f [] n a e = absurd (none-some a e)
shorter f (x ∷ xs) zero a e = (let least : 0 < suc (length (map f xs)) = omega arith in least)
shorter f (x ∷ xs) (suc n) a e =
    let less : n < length (map f xs) = shorter f xs n a e in
    let more : suc n < suc (length (map f xs)) = omega (arith, less) in
    more

-- what needs nothing does not lead back to itself

module _ (rows : List (List ℕ)) (a : ℕ) (none : needed rows a ≡ []) where
  leads_nowhere : (path : List ℕ) (b : ℕ) → NeedsLead rows a path b → a ≡ b
  leads_nowhere [] b h = h
  leads_nowhere (c ∷ path) b h = absurd (among_from [] c (subst (λ (row : List ℕ). Contains row c) none h.0))

  not_endless : IsEndless rows a → ⊥
  not_endless h =
      let same : a ≡ h.node = leads_nowhere h.path h.node h.leads in
      let at : needed rows h.node ≡ [] = ap (needed rows) (sym same) ∙ none in
      among_from [] h.first (subst (λ (row : List ℕ). Contains row h.first) at h.back.0)

module _ (exact : PositionsAreExact) (i : InputModel) (c : ContentOf) (part : IsPart i c) (placed : All IsPlaced (trees_in i.source)) (d : DeclRef) (s : Sign) (x : IsDeclaredFunction i c d s) where
  abbrev p : PackageIn
  p = package_seen i c.blocks (seen_by i)

  abbrev es : List Entry
  es = known_types i c

  abbrev os : List FileOutline
  os = outlines_in p

  abbrev ws : List WrittenOf
  ws = (scene_in p es).written

  -- as it is written there
  abbrev here : WrittenOf
  here = written_of (file_meaning (shows_in p) p.path p.blocks d.file) (file_at p.path d.file (outline_of x.tree)) es x.decl

  face : here.face ≡ Some (faces.Func s)
  face =
      let same : form_as_written (file_meaning (shows_in p) p.path p.blocks d.file) (file_at p.path d.file (outline_of x.tree)) es x.decl.number x.decl.form ≡ Some (faces.Func (signature_in i c d.file x.tree x.func)) =
      ap (form_as_written (file_meaning (shows_in p) p.path p.blocks d.file) (file_at p.path d.file (outline_of x.tree)) es x.decl.number) x.form in
      same ∙ ap (λ (g : Sign). Some (faces.Func g)) (sym x.is)

  -- where it stands
  record IsPlacedAt : Type 0 where
    place : ℕ
    found : position_of ws d ≡ Some place
    there : slice_get ws place ≡ Some here

  place_of : IsPlacedAt
  place_of =
      let of_file : slice_get os d.file ≡ Some (outline_of x.tree) = slice_get-map outline_of (trees_in i.source) d.file ∙ ap (option_map outline_of) x.in_package in
      let stands = exact.declared (shows_in p) p.path p.blocks es os d.file (outline_of x.tree) x.decl (all_from_among IsOutline os (λ o h. outlined (trees_in i.source) o h)) (of_file, x.among) in
      record { place = stands.place; found = sym (position_same ws _ d refl x.number) ∙ stands.found; there = stands.there }

  module _ (at : IsPlacedAt) where
    -- the declaration there is a function
    record IsFunctionThere : Type 0 where
      decl : FileDecl
      is : slice_get (decls_in p) at.place ≡ Some decl
      func : FuncTree
      form : decl.decl.form ≡ FuncForm func

    function_there : IsFunctionThere
    function_there =
        let listed : slice_get (map (written_there (shows_in p) p.path p.blocks es) (package_decls os)) at.place ≡ Some here = ap (λ (l : List WrittenOf). slice_get l at.place) (sym (exact.listed (shows_in p) p.path p.blocks es os)) ∙ at.there in
        let y = mapped (written_there (shows_in p) p.path p.blocks es) (package_decls os) at.place here listed in
        let z = form_written s (file_meaning (shows_in p) p.path p.blocks y.0.file) (file_at p.path y.0.file y.0.outline) es y.0.decl.number y.0.decl.form (ap (λ (w : WrittenOf). w.face) y.2 ∙ face) in
        record { decl = y.0; is = y.1; func = z.0; form = z.1 }

    module _ (f : IsFunctionThere) where
      needs_nothing : needed (needs_in p es) at.place ≡ []
      needs_nothing = index_there (file_decl_needs (scene_in p es)) (decls_in p) at.place f.decl [] f.is ∙ ap (λ (t : FormTree). idents_need (scene_in p es) f.decl.file (form_idents t)) f.form

      abbrev known : ℕ → Option TheFace
      known = known_in c.declared

      value_there : face_there p es known at.place f.decl ≡ faces.Func s
      value_there =
          ap (form_face (outer_looks (stand_in p es (first_values (length ws) known) f.decl.file f.decl.outline)) (written_at ws at.place)) f.form
          ∙ ap written_face (ap face_found at.there ∙ face)

      value_is : declared_in p es known at.place ≡ faces.Func s
      value_is = ap (some_decl_face p es known at.place) f.is ∙ value_there

      known_there : (o : Option TheFace) → slice_index_or c.declared at.place None ≡ o → slice_index_or c.declared at.place None ≡ Some (faces.Func s)
      known_there None e =
          absurd (not_endless (needs_in p es) at.place needs_nothing ((declared i c part).endless at.place (shorter (file_decl_needs (scene_in p es)) (decls_in p) at.place f.decl f.is) e))
      known_there (Some y) e = e ∙ ap (λ (z : TheFace). Some z) ((declared i c part).values at.place y e ∙ value_is)

    own_face_is : face_at c.declared (position_of ws d) ≡ Some (faces.Func s)
    own_face_is = ap (face_at c.declared) at.found ∙ known_there function_there (slice_index_or c.declared at.place None) refl

pub declared_own : PositionsAreExact → DeclaredFunctionsAreOwn
declared_own exact i c part placed d s x = own_face_is exact i c part placed d s x (place_of exact i c part placed d s x)
