-- What the declarations of a package are mentions types of the packages that are led to, and is the same where the same is known of these.
use Rattle.std.proofs.Common.{◌≡◌, ◌⊎◌, ℕ, zero, suc, Bool, true, false, eqb, List, [], ◌∷◌, All, map, length, inl, inr, refl, sym, ap, subst, ◌∙◌}
use Rattle.std.specs.Prelude.{Option, Some, None, Contains, slice_get, slice_index_or}
use Rattle.std.specs.List.{flat_map, enumerate_from, range_with_len}
use Rattle.std.proofs.lemmas.Bool.{eqb-true, eqb-false}
use Rattle.go_tree_nodes.specs.declared.names.Ident.{Ident}
use Rattle.go_tree_nodes.specs.declared.decls.ValueKind.{ValueKind}
use Rattle.go_tree_nodes.specs.declared.decls.ValueKind.TheVariants as kinds
use Rattle.go_tree_nodes.specs.declared.types.TypeName.{TypeName}
use Rattle.go_path_core.specs.text_core.declared.span.Span.{Span}
use Rattle.go_tree_nodes.specs.Trees.{TypeTree, ValueSpecTree}
use Rattle.go_term_core.specs.decl_core.TopDecls.{TopDeclTree, FormTree, ValueForm, TypeForm, FuncForm}
use Rattle.go_term_core.specs.settling.Settled.{settled}
use Rattle.go_term_core.proofs.SettlingMentions.{settled_mentions_written, sign_mentions}
use Rattle.go_term_core.specs.Terms.{Term, Defined, term_keys}
use Rattle.go_body_core.specs.table_core.Entries.{Entry, find_entry}
use Rattle.go_report_core.specs.handle_core.DecidingConversion.{is_type_term}
use Rattle.go_report_core.specs.handle_core.DecidingRules.{typed}
use Rattle.go_report_core.specs.operand_core.declared.types.ValueType.{ValueType}
use Rattle.go_report_core.specs.operand_core.declared.types.ValueType.TheVariants as value_types
use Rattle.go_report_core.specs.operand_core.declared.types.Operand.{Operand}
use Rattle.go_body_core.specs.typexpr_core.WrittenWritten.{InFile, Meaning, term_of, signature_of}
use Rattle.go_body_core.specs.typexpr_core.WrittenByNames.{written_by_names}
use Rattle.go_body_core.specs.typexpr_core.EntryEntries.{Meanings, file_at, type_key}
use Rattle.go_body_core.specs.typexpr_core.EntryMeanings.{file_meaning}
use Rattle.go_body_core.specs.typexpr_core.EntryOutlines.{FileOutline}
use Rattle.go_body_core.specs.typexpr_core.EntryAmong.{Among, among_from, among_to, among_flat, among_map}
use Rattle.go_emit_core.specs.declared_core.declared.face.Face.TheVariants as faces
use Rattle.go_emit_core.specs.declared_core.Faces.{TheFace, variable_face}
use Rattle.go_emit_core.specs.declared_core.Laws.{FileDecl}
use Rattle.go_emit_core.specs.declared_core.Written as writing
use Rattle.go_emit_core.specs.declared_core.Written.{WrittenOf, face_found, file_written, type_written, written_at, written_of, written_with}
use Rattle.go_body_core.specs.env_core.Looks.{TheLooks}
use Rattle.go_body_core.specs.function.Stands.{outer_looks}
use Rattle.go_digraph_core.specs.needs.Needs.{AreValues, EndsWithin, known_in, needed}
use Rattle.go_names_core.specs.scope_core.Laws.{denotes}
use Rattle.go_names_core.specs.scope_core.Models.{scopes_model}
use Rattle.go_value_core.specs.Around.{LeadsBack}
use Rattle.go_value_core.specs.Initial.{initial}
use Rattle.go_value_core.specs.Package as values
use Rattle.go_value_core.specs.Package.{first_values, form_face, written_face}
use Rattle.go_value_core.proofs.Owning.{outer_alike}
use Rattle.go_value_core.proofs.Deciding.{needs_decide}
use Rattle.go_body_core.specs.stmt_core.PieceSpecifications.{outer_values}
use Rattle.go_snap_core.specs.near.Near.{IfAny, NearValue, NearOperand}
use Rattle.go_snap_core.specs.near.Pieces.{IsOuterNearby}
use Rattle.go_snap_core.specs.near.Tables.{IsNear, near_rest}
use Rattle.go_snap_core.specs.near.Functions.{StandsAgree}
use Rattle.go_snap_core.proofs.NearClosing.{either}
use Rattle.go_snap_core.proofs.NearPieces.{outer_nearby}
use Rattle.go_snap_core.proofs.NearFunctions.{outer_closed, outer_agree}
use Rattle.go_emit_core.specs.package_core.PrepareLaws.{package_placed}
use Rattle.go_emit_core.specs.package_core.PreparePackages.{PackageIn, scene_in, shows_in, stand_in}
use Rattle.go_emit_core.specs.package_core.PrepareValues.{AreDeclared, AreLooped, declared_in, decls_in, needs_in, some_decl_face}
use Rattle.go_emit_core.specs.declared_core.Places.{among_at}
use Rattle.go_emit_core.specs.package_core.PrepareValuesProofs.{needs_same, faces_same}
use Rattle.go_snap_core.specs.whole_workspace.Known.{package_with, type_keys, value_type_keys}
use Rattle.go_snap_core.proofs.WholeWorkspaceNames.{AllInside, none_inside, one_inside}
use Rattle.go_snap_core.proofs.WholeWorkspaceTypes.{near_of}
use Rattle.go_snap_core.proofs.WholeWorkspaceSeeing.{IsFaceInside, IsAnyInside}
use Rattle.go_tree_nodes.specs.Spelling.{IsPlaced}
use Rattle.go_body_core.specs.table_core.Entries.{kinds_in}
use Rattle.go_body_core.specs.stmt_core.StatementLocality.{Each}
use Rattle.go_emit_core.specs.package_core.PackagePartParts.{SeenOf}

-- numbers of a list

pub is_or_not : (ns : List ℕ) (m : ℕ) → Among ns m ⊎ (Among ns m → ⊥)
is_or_not [] m = inr (λ h. h)
is_or_not (n ∷ ns) m = by (eqb n m) refl (is_or_not ns m)
  where
    by : (b : Bool) → eqb n m ≡ b → Among ns m ⊎ (Among ns m → ⊥) → Among (n ∷ ns) m ⊎ (Among (n ∷ ns) m → ⊥)
    by true e rest = inl (inl (eqb-true n m e))
    by false e rest = elim rest [
      | inl h ↦ inl (inr h)
      | inr other ↦ inr (λ h. elim h [ inl same ↦ eqb-false n m e same | inr there ↦ other there ])
    ]

-- what a table has for the numbers of a list, and nothing for others
abbrev kept : (ℕ → Option TheFace) → (ns : List ℕ) (m : ℕ) → Among ns m ⊎ (Among ns m → ⊥) → Option TheFace
kept known ns m (inl h) = known m
kept known ns m (inr other) = None

-- an item of a list of which each is so
pub each_at : {X : Type 0} (Is : X → Type 0) (xs : List (Option X)) (n : ℕ) → Each (IfAny Is) xs → IfAny Is (slice_index_or xs n None)
each_at Is [] n h = tt
each_at Is (x ∷ xs) zero h = h.0
each_at Is (x ∷ xs) (suc n) h = each_at Is xs n h.1

pub mapped_at : {X : Type 0} (Is : X → Type 0) (f : ℕ → Option X) (ns : List ℕ) (n : ℕ) → ((m : ℕ) → IfAny Is (f m)) → IfAny Is (slice_index_or (map f ns) n None)
mapped_at Is f [] n h = tt
mapped_at Is f (m ∷ ns) zero h = h m
mapped_at Is f (m ∷ ns) (suc n) h = mapped_at Is f ns n h

module _ (Inside : List ℕ → Type 0) where
  -- declarations as they are written

  module _ (mean : Meaning) (f : InFile) (es : List Entry) (near : (n : TypeName) → AllInside Inside (term_keys (mean n))) (own : Inside f.path) where
    typed_inside : (t : Term) → AllInside Inside (term_keys t) → AllInside Inside (type_keys (typed (find_entry es) t))
    typed_inside t h = either (λ (o : Option Term). AllInside Inside (type_keys o)) (is_type_term (find_entry es) t) (Some t) None h (none_inside Inside)

    type_inside : (t : TypeTree) → AllInside Inside (type_keys (type_written mean f es t))
    type_inside t =
        typed_inside (settled (kinds_in es) (term_of mean f t))
        (λ k at. (let m = written_by_names.mentioned mean f t k (settled_mentions_written (kinds_in es) (term_of mean f t) k at).1 in near m.0 k m.2))

    variable_inside : (o : Option Term) → AllInside Inside (type_keys o) → IsFaceInside Inside (variable_face o)
    variable_inside None h = h
    variable_inside (Some t) h = h

    value_inside : (k : ValueKind) (t : Option TypeTree) → IsAnyInside Inside (writing.value_as_written mean f es k t)
    value_inside kinds.Var (Some t) = variable_inside (type_written mean f es t) (type_inside t)
    value_inside kinds.Var None = tt
    value_inside kinds.Const t = tt

    -- a type is its key's, and an alias what is written
    declared_inside : (mark : Option Span) (n : ℕ) (t : TypeTree) → IsFaceInside Inside (writing.declared_face mark mean f es n t)
    declared_inside None n t = typed_inside (Defined (type_key f n)) (one_inside Inside (type_key f n) own)
    declared_inside (Some mark) n t = type_inside t

    form_inside : (n : ℕ) (form : FormTree) → IsAnyInside Inside (writing.form_as_written mean f es n form)
    form_inside n (ValueForm k v i) = value_inside k v.type_expr
    form_inside n (TypeForm t) = declared_inside t.alias n t.type_expr
    form_inside n (FuncForm g) =
        λ k at. (let m = written_by_names.mentioned_in_signature mean f g.signature k (sign_mentions (kinds_in es) (signature_of mean f g.signature) k at).1 in near m.0 k m.2)

    pub file_inside : (ds : List TopDeclTree) (w : WrittenOf) → Among (file_written mean f es ds) w → IsAnyInside Inside w.face
    file_inside ds w at = (let d = among_map (written_of mean f es) ds w at in subst (λ (x : WrittenOf). IsAnyInside Inside x.face) d.2 (form_inside d.0.number d.0.form))

  module _ (means : Meanings) (path : List ℕ) (es : List Entry) (os : List FileOutline) (near : (file : ℕ) (n : TypeName) → AllInside Inside (term_keys (means file n))) (own : Inside path) where
    listed_inside : (w : WrittenOf) → Among (written_with means path es os) w → IsAnyInside Inside w.face
    listed_inside w at =
        let q = among_flat (λ (q : ℕ × FileOutline). file_written (means q.0) (file_at path q.0 q.1) es q.1.decls) (enumerate_from 0 os) w at in
        file_inside (means q.0.0) (file_at path q.0.0 q.0.1) es (near q.0.0) own q.0.1.decls w q.2

    found_inside : (n : ℕ) (o : Option WrittenOf) → slice_get (written_with means path es os) n ≡ o → IsAnyInside Inside (face_found o)
    found_inside n None e = tt
    found_inside n (Some w) e = listed_inside w (among_at (written_with means path es os) n w e)

    pub written_at_inside : (n : ℕ) → IsAnyInside Inside (written_at (written_with means path es os) n)
    written_at_inside n = found_inside n (slice_get (written_with means path es os) n) refl

  written_face_inside : (o : Option TheFace) → IsAnyInside Inside o → IsFaceInside Inside (written_face o)
  written_face_inside None h = none_inside Inside
  written_face_inside (Some f) h = h

  -- operands

  abbrev Near : Term → Type 0
  Near t = IsNear (near_of Inside) t

  value_type_inside : (v : ValueType Term) → NearValue Near v → AllInside Inside (value_type_keys v)
  value_type_inside (value_types.Typed t) h = h
  value_type_inside value_types.UntypedInt h = none_inside Inside
  value_type_inside value_types.UntypedText h = none_inside Inside
  value_type_inside value_types.UntypedBool h = none_inside Inside
  value_type_inside value_types.Nil h = none_inside Inside

  operand_inside : (o : Option (Operand Term)) → IfAny (NearOperand Near) o → IsFaceInside Inside (faces.«Value» o)
  operand_inside None h = none_inside Inside
  operand_inside (Some o) h = value_type_inside o.value_type h

  -- all that the declarations of a table are
  abbrev pub AreKnownInside : List (Option TheFace) → Type 0
  AreKnownInside known = (n : ℕ) → IsAnyInside Inside (slice_index_or known n None)

  -- a package, where this is known of others, and where that is

  module _ (p : PackageIn) (one other : SeenOf) (es fs : List Entry) (placed : All IsPlaced p.trees)
      (written_same : (scene_in (package_with p one) es).written ≡ (scene_in (package_with p other) fs).written)
      (written_in : (n : ℕ) → IsAnyInside Inside (written_at (scene_in (package_with p one) es).written n))
      (stands : (known : List (Option TheFace)) → AreKnownInside known → (n : ℕ) (o : FileOutline)
      → StandsAgree (near_of Inside) (file_at p.path n o) (scene_in (package_with p one) es) (scene_in (package_with p other) fs) known known (file_meaning (shows_in (package_with p one)) p.path p.blocks n) (file_meaning (shows_in (package_with p other)) p.path p.blocks n)) where
    abbrev here : PackageIn
    here = package_with p one

    abbrev there : PackageIn
    there = package_with p other

    -- what an initialiser makes of a name

    module _ (known : List (Option TheFace)) (inside : AreKnownInside known) (n : ℕ) (o : FileOutline) where
      abbrev looks : TheLooks
      looks = outer_looks (stand_in here es known n o)

      abbrev again : TheLooks
      again = outer_looks (stand_in there fs known n o)

      piece : (k : ValueKind) (v : ValueSpecTree) → IsOuterNearby Near looks again k v
      piece k v =
          let law = stands known inside n o in
          let s = scene_in here es in
          let t = scene_in there fs in
          let top = file_meaning (shows_in here) p.path p.blocks n in
          let under = file_meaning (shows_in there) p.path p.blocks n in
          outer_nearby Near (near_rest (near_of Inside)) looks again
          (outer_closed (near_of Inside) (file_at p.path n o) s t known known top under law)
          (outer_agree (near_of Inside) (file_at p.path n o) s t known known top under law) k v

      initial_near : (k : ValueKind) (v : ValueSpecTree) (i : ℕ) → IfAny (NearOperand Near) (initial looks k v i)
      initial_near k v i =
          subst (λ (l : List (Option (Operand Term))). IfAny (NearOperand Near) (slice_index_or l i None)) (sym (outer_alike looks k v))
          (each_at (NearOperand Near) (outer_values looks k v) i (piece k v).near)

      initial_same : (k : ValueKind) (v : ValueSpecTree) (i : ℕ) → initial looks k v i ≡ initial again k v i
      initial_same k v i =
          ap (λ (l : List (Option (Operand Term))). slice_index_or l i None) (outer_alike looks k v ∙ ((piece k v).values ∙ sym (outer_alike again k v)))

      value_near : (w : Option TheFace) → IsAnyInside Inside w → (k : ValueKind) (t : Option TypeTree) (v : ValueSpecTree) (i : ℕ) → IsFaceInside Inside (values.value_face looks w k t v i)
      value_near w h kinds.Const t v i = operand_inside (initial looks kinds.Const v i) (initial_near kinds.Const v i)
      value_near w h kinds.Var None v i = operand_inside (initial looks kinds.Var v i) (initial_near kinds.Var v i)
      value_near w h kinds.Var (Some t) v i = written_face_inside w h

      pub form_near : (w : Option TheFace) → IsAnyInside Inside w → (form : FormTree) → IsFaceInside Inside (form_face looks w form)
      form_near w h (ValueForm k v i) = value_near w h k v.type_expr v i
      form_near w h (TypeForm t) = written_face_inside w h
      form_near w h (FuncForm g) = written_face_inside w h

      value_same : (w : Option TheFace) (k : ValueKind) (t : Option TypeTree) (v : ValueSpecTree) (i : ℕ) → values.value_face looks w k t v i ≡ values.value_face again w k t v i
      value_same w kinds.Const t v i = λ j. faces.«Value» (initial_same kinds.Const v i j)
      value_same w kinds.Var None v i = λ j. faces.«Value» (initial_same kinds.Var v i j)
      value_same w kinds.Var (Some t) v i = refl

      pub form_same : (w : Option TheFace) (form : FormTree) → form_face looks w form ≡ form_face again w form
      form_same w (ValueForm k v i) = value_same w k v.type_expr v i
      form_same w (TypeForm t) = refl
      form_same w (FuncForm g) = refl

    -- declarations

    firsts_inside : (f : ℕ → Option TheFace) → ((m : ℕ) → IsAnyInside Inside (f m)) → (n : ℕ) → AreKnownInside (first_values n f)
    firsts_inside f h n = λ m. mapped_at (IsFaceInside Inside) f (range_with_len 0 n) m h

    module _ (f : ℕ → Option TheFace) (h : (m : ℕ) → IsAnyInside Inside (f m)) (n : ℕ) where
      some_near : (d : Option FileDecl) → IsFaceInside Inside (some_decl_face here es f n d)
      some_near None = written_face_inside (written_at (scene_in here es).written n) (written_in n)
      some_near (Some d) =
          form_near (first_values (length (scene_in here es).written) f) (firsts_inside f h (length (scene_in here es).written)) d.file d.outline
          (written_at (scene_in here es).written n) (written_in n) d.decl.form

      pub declared_near : IsFaceInside Inside (declared_in here es f n)
      declared_near = some_near (slice_get (decls_in p) n)

      some_same : (d : Option FileDecl) → some_decl_face here es f n d ≡ some_decl_face there fs f n d
      some_same None = ap (λ (ws : List WrittenOf). written_face (written_at ws n)) written_same
      some_same (Some d) =
          form_same (first_values (length (scene_in here es).written) f) (firsts_inside f h (length (scene_in here es).written)) d.file d.outline
          (written_at (scene_in here es).written n) d.decl.form
          ∙ (λ j. form_face (outer_looks (stand_in there fs (first_values (length (written_same j)) f) d.file d.outline)) (written_at (written_same j) n) d.decl.form)

      pub declared_same : declared_in here es f n ≡ declared_in there fs f n
      declared_same = some_same (slice_get (decls_in p) n)

    looks_at_needs : (f g : ℕ → Option TheFace) (n : ℕ) → ((m : ℕ) → Contains (needed (needs_in here es) n) m → f m ≡ g m) → declared_in here es f n ≡ declared_in here es g n
    looks_at_needs f g n h =
        sym (faces_same here es placed f n)
        ∙ (needs_decide (scene_in here es) (package_placed here es) f g n (λ m c. h m (subst (λ (rows : List (List ℕ)). Contains (needed rows n) m) (needs_same here es) c))
        ∙ faces_same here es placed g n)

    pub rows_same : needs_in here es ≡ needs_in there fs
    rows_same = λ j. map (λ (d : FileDecl). flat_map (λ (x : Ident). values.position_in (written_same j) (values.own_decl (denotes (scopes_model p.blocks d.file []) x.name))) (values.form_idents d.decl.form)) (decls_in p)

    -- a table of values

    module _ (known : List (Option TheFace)) (values_are : AreDeclared here es known) where
      abbrev rows : List (List ℕ)
      rows = needs_in here es

      near_if : (o : Option TheFace) (m : ℕ) → known_in known m ≡ o → ((v : TheFace) → known_in known m ≡ Some v → IsFaceInside Inside v) → IsAnyInside Inside o
      near_if None m e h = tt
      near_if (Some v) m e h = h v e

      kept_near : (ns : List ℕ) (m : ℕ) (d : Among ns m ⊎ (Among ns m → ⊥)) → ((b : ℕ) → Contains ns b → (v : TheFace) → known_in known b ≡ Some v → IsFaceInside Inside v)
          → IsAnyInside Inside (kept (known_in known) ns m d)
      kept_near ns m (inl at) h = near_if (known_in known m) m refl (h m (among_to ns m at))
      kept_near ns m (inr other) h = tt

      kept_same : (ns : List ℕ) (m : ℕ) (d : Among ns m ⊎ (Among ns m → ⊥)) → Contains ns m → known_in known m ≡ kept (known_in known) ns m d
      kept_same ns m (inl at) c = refl
      kept_same ns m (inr other) c = absurd (other (among_from ns m c))

      near_at : (n a : ℕ) → EndsWithin rows n a → (v : TheFace) → known_in known a ≡ Some v → IsFaceInside Inside v
      near_at zero a ends v e = absurd ends
      near_at (suc n) a ends v e =
          let ns = needed rows a in
          let f : ℕ → Option TheFace = λ m. kept (known_in known) ns m (is_or_not ns m) in
          let near = declared_near f (λ m. kept_near ns m (is_or_not ns m) (λ b c w k. near_at n b (ends b c) w k)) a in
          let same = values_are.values a v e ∙ looks_at_needs (known_in known) f a (λ m c. kept_same ns m (is_or_not ns m) c) in
          subst (IsFaceInside Inside) (sym same) near

      pub known_inside : AreKnownInside known
      known_inside n = near_if (known_in known n) n refl (λ v e. near_at (length rows) n (values_are.ends n v e) v e)

      pub declared_over : AreDeclared there fs known
      declared_over =
          subst (λ (rs : List (List ℕ)). AreValues TheFace rs (declared_in there fs) known) rows_same (record {
            as_many = values_are.as_many;
            ends = values_are.ends;
            values = λ a v e. values_are.values a v e ∙ declared_same (known_in known) known_inside a;
            endless = values_are.endless;
          })

    pub looped_over : (flags : List Bool) → AreLooped here es flags → AreLooped there fs flags
    looped_over flags h = record {
      as_many = h.as_many;
      each = λ n. (
        λ is. (let l = (h.each n).0 is in record { constant = l.constant; leads = subst (λ (rs : List (List ℕ)). LeadsBack rs n) rows_same l.leads }),
        λ l. (h.each n).1 (record { constant = l.constant; leads = subst (λ (rs : List (List ℕ)). LeadsBack rs n) (sym rows_same) l.leads }),
      );
    }
