-- What the declarations of a package are is the same in two stands that have the same of the packages that its files bind, over one table of types.
use Rattle.std.proofs.Common.{◌≡◌, ℕ, Bool, List, [], map, length, refl, sym, ap, subst, ◌∙◌}
use Rattle.std.specs.Prelude.{Option, Some, None, slice_get, slice_index_or}
use Rattle.std.specs.List.{flat_map}
use Rattle.go_tree_nodes.specs.declared.names.Ident.{Ident}
use Rattle.go_tree_nodes.specs.declared.decls.ValueKind.{ValueKind}
use Rattle.go_tree_nodes.specs.declared.decls.ValueKind.TheVariants as kinds
use Rattle.go_tree_nodes.specs.Trees.{TypeTree, ValueSpecTree}
use Rattle.go_term_core.specs.decl_core.TopDecls.{FormTree, ValueForm, TypeForm, FuncForm}
use Rattle.go_term_core.specs.Terms.{Term}
use Rattle.go_digraph_core.specs.needs.Needs.{AreValues, known_in}
use Rattle.go_names_core.specs.scope_core.Laws.{denotes}
use Rattle.go_names_core.specs.scope_core.Models.{scopes_model}
use Rattle.go_body_core.specs.table_core.Entries.{Entry}
use Rattle.go_body_core.specs.typexpr_core.EntryEntries.{file_at}
use Rattle.go_body_core.specs.typexpr_core.EntryMeanings.{file_meaning}
use Rattle.go_body_core.specs.typexpr_core.EntryOutlines.{FileOutline}
use Rattle.go_body_core.specs.env_core.Looks.{TheLooks}
use Rattle.go_body_core.specs.function.Stands.{outer_looks}
use Rattle.go_report_core.specs.operand_core.declared.types.Operand.{Operand}
use Rattle.go_value_core.specs.Around.{LeadsBack}
use Rattle.go_value_core.specs.Initial.{initial}
use Rattle.go_value_core.specs.Package as values
use Rattle.go_value_core.specs.Package.{first_values, form_face, written_face}
use Rattle.go_value_core.proofs.Owning.{outer_alike}
use Rattle.go_emit_core.specs.declared_core.declared.face.Face.TheVariants as faces
use Rattle.go_emit_core.specs.declared_core.Faces.{TheFace}
use Rattle.go_emit_core.specs.declared_core.Laws.{FileDecl}
use Rattle.go_emit_core.specs.declared_core.Written.{WrittenOf, written_at}
use Rattle.go_emit_core.specs.package_core.PreparePackages.{PackageIn, scene_in, shows_in, stand_in}
use Rattle.go_emit_core.specs.package_core.PrepareValues.{AreDeclared, AreLooped, declared_in, decls_in, needs_in, some_decl_face}
use Rattle.go_emit_core.specs.package_core.PackagePartParts.{SeenOf}
use Rattle.go_snap_core.specs.near.Tables.{IsNear, near_rest}
use Rattle.go_snap_core.specs.near.Functions.{StandsAgree}
use Rattle.go_snap_core.specs.near.Pieces.{IsOuterNearby}
use Rattle.go_snap_core.proofs.NearFunctions.{outer_agree, outer_closed}
use Rattle.go_snap_core.proofs.NearPieces.{outer_nearby}
use Rattle.go_snap_core.specs.whole_workspace.Known.{package_with}
use Rattle.go_locality_laws.proofs.Seeing.{near}

-- a package over a table of types, where this is known of others, and where that is

module _ (Bound : List ℕ → Type 0) (p : PackageIn) (one other : SeenOf) (es : List Entry)
    (written_same : (scene_in (package_with p one) es).written ≡ (scene_in (package_with p other) es).written)
    (stands : (known : List (Option TheFace)) (n : ℕ) (o : FileOutline)
    → StandsAgree (near Bound) (file_at p.path n o) (scene_in (package_with p one) es) (scene_in (package_with p other) es) known known (file_meaning (shows_in (package_with p one)) p.path p.blocks n) (file_meaning (shows_in (package_with p other)) p.path p.blocks n)) where
  abbrev here : PackageIn
  here = package_with p one

  abbrev there : PackageIn
  there = package_with p other

  abbrev Near : Term → Type 0
  Near t = IsNear (near Bound) t

  -- what an initialiser makes of a name

  module _ (known : List (Option TheFace)) (n : ℕ) (o : FileOutline) where
    abbrev looks : TheLooks
    looks = outer_looks (stand_in here es known n o)

    abbrev again : TheLooks
    again = outer_looks (stand_in there es known n o)

    piece : (k : ValueKind) (v : ValueSpecTree) → IsOuterNearby Near looks again k v
    piece k v =
        let law = stands known n o in
        let s = scene_in here es in
        let t = scene_in there es in
        let top = file_meaning (shows_in here) p.path p.blocks n in
        let under = file_meaning (shows_in there) p.path p.blocks n in
        outer_nearby Near (near_rest (near Bound)) looks again
        (outer_closed (near Bound) (file_at p.path n o) s t known known top under law)
        (outer_agree (near Bound) (file_at p.path n o) s t known known top under law) k v

    initial_same : (k : ValueKind) (v : ValueSpecTree) (i : ℕ) → initial looks k v i ≡ initial again k v i
    initial_same k v i =
        ap (λ (l : List (Option (Operand Term))). slice_index_or l i None) (outer_alike looks k v ∙ ((piece k v).values ∙ sym (outer_alike again k v)))

    value_same : (w : Option TheFace) (k : ValueKind) (t : Option TypeTree) (v : ValueSpecTree) (i : ℕ) → values.value_face looks w k t v i ≡ values.value_face again w k t v i
    value_same w kinds.Const t v i = λ j. faces.«Value» (initial_same kinds.Const v i j)
    value_same w kinds.Var None v i = λ j. faces.«Value» (initial_same kinds.Var v i j)
    value_same w kinds.Var (Some t) v i = refl

    form_same : (w : Option TheFace) (form : FormTree) → form_face looks w form ≡ form_face again w form
    form_same w (ValueForm k v i) = value_same w k v.type_expr v i
    form_same w (TypeForm t) = refl
    form_same w (FuncForm g) = refl

  -- declarations

  module _ (f : ℕ → Option TheFace) (n : ℕ) where
    some_same : (d : Option FileDecl) → some_decl_face here es f n d ≡ some_decl_face there es f n d
    some_same None = ap (λ (ws : List WrittenOf). written_face (written_at ws n)) written_same
    some_same (Some d) =
        form_same (first_values (length (scene_in here es).written) f) d.file d.outline (written_at (scene_in here es).written n) d.decl.form
        ∙ (λ j. form_face (outer_looks (stand_in there es (first_values (length (written_same j)) f) d.file d.outline)) (written_at (written_same j) n) d.decl.form)

    declared_same : declared_in here es f n ≡ declared_in there es f n
    declared_same = some_same (slice_get (decls_in p) n)

  rows_same : needs_in here es ≡ needs_in there es
  rows_same = λ j. map (λ (d : FileDecl). flat_map (λ (x : Ident). values.position_in (written_same j) (values.own_decl (denotes (scopes_model p.blocks d.file []) x.name))) (values.form_idents d.decl.form)) (decls_in p)

  -- a table of values

  pub declared_over : (known : List (Option TheFace)) → AreDeclared here es known → AreDeclared there es known
  declared_over known values_are =
      subst (λ (rs : List (List ℕ)). AreValues TheFace rs (declared_in there es) known) rows_same (record {
        as_many = values_are.as_many;
        ends = values_are.ends;
        values = λ a v e. values_are.values a v e ∙ declared_same (known_in known) a;
        endless = values_are.endless;
      })

  pub looped_over : (flags : List Bool) → AreLooped here es flags → AreLooped there es flags
  looped_over flags h = record {
    as_many = h.as_many;
    each = λ n. (
      λ is. (let l = (h.each n).0 is in record { constant = l.constant; leads = subst (λ (rs : List (List ℕ)). LeadsBack rs n) rows_same l.leads }),
      λ l. (h.each n).1 (record { constant = l.constant; leads = subst (λ (rs : List (List ℕ)). LeadsBack rs n) (sym rows_same) l.leads }),
    );
  }
