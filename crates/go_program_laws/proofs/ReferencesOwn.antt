-- A function among a package's own declarations is one that it declares.
use Rattle.std.proofs.Common.{◌≡◌, inl, inr, ℕ, suc, ◌+◌, Bool, true, false, List, [], ◌∷◌, map, All, Option, Some, None, nat_eq, refl, sym, ap, subst, arith, ◌∙◌, if◌then◌else◌}
use Rattle.std.specs.Prelude.{option_map, slice_get, slice_index_or}
use Rattle.std.specs.List.{enumerate_from}
use Rattle.std.proofs.lemmas.Bool.{and_parts, eqb-true}
use Rattle.go_constant_core.specs.text_core.declared.span.Span.{Span}
use Rattle.go_tree_nodes.specs.declared.decls.ValueKind.{ValueKind}
use Rattle.go_tree_nodes.specs.declared.decls.ValueKind.TheVariants as kinds
use Rattle.go_tree_nodes.specs.Spelling.{IsPlaced}
use Rattle.go_tree_nodes.specs.Trees.{FileTree, FuncTree, TypeTree, ValueSpecTree}
use Rattle.go_term_core.specs.decl_core.TopDecls.{FormTree, FuncForm, TopDeclTree, TypeForm, ValueForm, top_decls}
use Rattle.go_term_core.specs.decl_core.declared.keys.DeclRef.{DeclRef}
use Rattle.go_term_core.specs.Terms.{Sign}
use Rattle.go_body_core.specs.typexpr_core.WrittenWritten.{InFile as WrittenFile, Meaning as WrittenMeaning, signature_of}
use Rattle.go_term_core.specs.settling.Settled.{settled_sign}
use Rattle.go_body_core.specs.table_core.Entries.{Entry, kinds_in}
use Rattle.go_body_core.specs.typexpr_core.EntryEntries.{file_at, package_meanings}
use Rattle.go_body_core.specs.typexpr_core.EntryOutlines.{FileOutline, outline_of}
use Rattle.go_emit_core.specs.declared_core.declared.face.Face.TheVariants as faces
use Rattle.go_emit_core.specs.declared_core.Faces.{TheFace}
use Rattle.go_emit_core.specs.declared_core.Written.{WrittenOf, declared_face, face_found, file_written, form_as_written, position_of, same_decl_place, value_as_written, written_at, written_of}
use Rattle.go_body_core.specs.env_core.Found.{face_at}
use Rattle.go_body_core.specs.env_core.Looks.{TheLooks}
use Rattle.go_body_core.specs.env_core.Scenes.{SceneModel}
use Rattle.go_snap_core.specs.value_core.Laws.{AreFaces}
use Rattle.go_snap_core.specs.value_core.Package.{PlacedOf, form_face, some_face, top_looks, value_face, written_face}
use Rattle.go_emit_core.specs.package_core.PrepareLaws.{package_placed}
use Rattle.go_emit_core.specs.package_core.PreparePackages.{PackageIn, outlines_in, scene_in, shows_in, trees_in}
use Rattle.go_emit_core.specs.package_core.PrepareTables.{values_as_written}
use Rattle.go_emit_core.specs.package_core.PackagePartInputs.{InputModel}
use Rattle.go_emit_core.specs.package_core.PackagePartParts.{ContentOf, IsPart, package_seen, seen_by}
use Rattle.go_workspace_laws.proofs.ConstantLists.{HasItem, contained, from_flat, has_get}
use Rattle.go_program_laws.specs.types.Functions.{known_types}
use Rattle.go_program_laws.proofs.FaultlessShows.{declared}
use Rattle.go_program_laws.specs.references.Headers.{signature_in}
use Rattle.go_program_laws.specs.references.Own.{IsDeclaredFunction, OwnFunctionsAreDeclared}

-- a function's face is written

module _ (g : Sign) where
  written_func : (o : Option TheFace) → written_face o ≡ faces.Func g → o ≡ Some (faces.Func g)
  written_func None e = absurd (cc e)
  written_func (Some x) e = ap (λ (y : TheFace). Some y) e

  value_func : (looks : TheLooks) (o : Option TheFace) (k : ValueKind) (t : Option TypeTree) (v : ValueSpecTree) (n : ℕ) → value_face looks o k t v n ≡ faces.Func g → o ≡ Some (faces.Func g)
  value_func looks o kinds.Const t v n e = absurd (cc e)
  value_func looks o kinds.Var None v n e = absurd (cc e)
  value_func looks o kinds.Var (Some t) v n e = written_func o e

  form_func : (looks : TheLooks) (o : Option TheFace) (t : FormTree) → form_face looks o t ≡ faces.Func g → o ≡ Some (faces.Func g)
  form_func looks o (ValueForm k v n) e = value_func looks o k v.type_expr v n e
  form_func looks o (TypeForm t) e = written_func o e
  form_func looks o (FuncForm t) e = written_func o e

  pub some_func : (s : SceneModel) (known : ℕ → Option TheFace) (n : ℕ) (o : Option PlacedOf) → some_face s known n o ≡ faces.Func g → written_at s.written n ≡ Some (faces.Func g)
  some_func s known n None e = written_func (written_at s.written n) e
  some_func s known n (Some p) e = form_func (top_looks s p.file p.types known) (written_at s.written n) p.decl.form e

  found_func : (ws : List WrittenOf) (n : ℕ) → written_at ws n ≡ Some (faces.Func g) → (w : WrittenOf) × (slice_get ws n ≡ Some w) × (w.face ≡ Some (faces.Func g))
  found_func ws n e = by (slice_get ws n) refl e
    where
      by : (o : Option WrittenOf) → slice_get ws n ≡ o → face_found o ≡ Some (faces.Func g) → (w : WrittenOf) × (slice_get ws n ≡ Some w) × (w.face ≡ Some (faces.Func g))
      by None is e = absurd (cc e)
      by (Some w) is e = (w, is, e)

  -- what is written as a function is one

  no_value : (mean : WrittenMeaning) (f : WrittenFile) (es : List Entry) (k : ValueKind) (t : Option TypeTree) → value_as_written mean f es k t ≡ Some (faces.Func g) → ⊥
  no_value mean f es kinds.Var (Some t) e = cc e
  no_value mean f es kinds.Var None e = cc e
  no_value mean f es kinds.Const t e = cc e

  no_type : (mark : Option Span) (mean : WrittenMeaning) (f : WrittenFile) (es : List Entry) (n : ℕ) (t : TypeTree) → Some (declared_face mark mean f es n t) ≡ Some (faces.Func g) → ⊥
  no_type None mean f es n t e = cc e
  no_type (Some m) mean f es n t e = cc e

  pub form_written : (mean : WrittenMeaning) (f : WrittenFile) (es : List Entry) (n : ℕ) (t : FormTree) → form_as_written mean f es n t ≡ Some (faces.Func g)
      → (x : FuncTree) × (t ≡ FuncForm x) × (g ≡ settled_sign (kinds_in es) (signature_of mean f x.signature))
  form_written mean f es n (ValueForm k v m) e = absurd (no_value mean f es k v.type_expr e)
  form_written mean f es n (TypeForm t) e = absurd (no_type t.alias mean f es n t.type_expr e)
  form_written mean f es n (FuncForm x) e = (let same : settled_sign (kinds_in es) (signature_of mean f x.signature) ≡ g = cc e in (x, refl, sym same))

-- what stands at the place of a declaration is it

position_there : (ws : List WrittenOf) (d : DeclRef) (k : ℕ) → position_of ws d ≡ Some k → (w : WrittenOf) → slice_get ws k ≡ Some w → same_decl_place w.decl d ≡ true
position_there [] d k e w is = absurd (cc e)
position_there (x ∷ ws) d k e w is = by (λ m p at. position_there ws d m p w at) (same_decl_place x.decl d) refl e
  where
    later : ((m : ℕ) → position_of ws d ≡ Some m → slice_get ws m ≡ Some w → same_decl_place w.decl d ≡ true) → (o : Option ℕ) → position_of ws d ≡ o → option_map suc o ≡ Some k → same_decl_place w.decl d ≡ true
    later more None p e = absurd (cc e)
    later more (Some m) p e = (let z : suc m ≡ k = cc e in more m p (subst (λ j. slice_get (x ∷ ws) j ≡ Some w) (sym z) is))

    by : ((m : ℕ) → position_of ws d ≡ Some m → slice_get ws m ≡ Some w → same_decl_place w.decl d ≡ true) → (b : Bool) → same_decl_place x.decl d ≡ b → (if b then Some 0 else option_map suc (position_of ws d)) ≡ Some k → same_decl_place w.decl d ≡ true
    by more true here e =
        let z : 0 ≡ k = cc e in
        let there : Some x ≡ Some w = subst (λ j. slice_get (x ∷ ws) j ≡ Some w) (sym z) is in
        let same : x ≡ w = cc there in
        subst (λ (y : WrittenOf). same_decl_place y.decl d ≡ true) same here
    by more false here e = later more (position_of ws d) refl e

-- outlines of trees, numbered

pub enumerated : (k : ℕ) (ts : List FileTree) (q : ℕ × FileOutline) → HasItem (enumerate_from k (map outline_of ts)) q → (n : ℕ) × (t : FileTree) × (slice_get ts n ≡ Some t) × ((k + n, outline_of t) ≡ q)
enumerated k [] q h = absurd h
enumerated k (t ∷ ts) q (inl e) = (let sum : k + 0 ≡ k = omega arith in (0, t, refl, ap (λ m. (m, outline_of t)) sum ∙ e))
enumerated k (t ∷ ts) q (inr h) =
    let r = enumerated (k + 1) ts q h in
    let sum : k + suc r.0 ≡ k + 1 + r.0 = omega arith in
    (suc r.0, r.1, r.2, ap (λ m. (m, outline_of r.1)) sum ∙ r.3)

written_item : (mean : WrittenMeaning) (f : WrittenFile) (es : List Entry) (ds : List TopDeclTree) (w : WrittenOf) → HasItem (file_written mean f es ds) w → (d : TopDeclTree) × HasItem ds d × (written_of mean f es d ≡ w)
written_item mean f es [] w h = absurd h
written_item mean f es (d ∷ ds) w (inl e) = (d, inl refl, e)
written_item mean f es (d ∷ ds) w (inr h) = (let r = written_item mean f es ds w h in (r.0, inr r.1, r.2))

module _ (i : InputModel) (c : ContentOf) (part : IsPart i c) (placed : All IsPlaced (trees_in i.source)) where
  abbrev p : PackageIn
  p = package_seen i c.blocks (seen_by i)

  abbrev es : List Entry
  es = known_types i c

  pub right : AreFaces (scene_in p es) (package_placed p es) c.declared
  right = (values_as_written.values p es c.declared placed).1 (declared i c part)

  of_file : (d : DeclRef) (g : Sign) (n : ℕ) (t : FileTree) → slice_get (trees_in i.source) n ≡ Some t → (w : WrittenOf) → w.face ≡ Some (faces.Func g) → same_decl_place w.decl d ≡ true
      → HasItem (file_written (package_meanings (shows_in p) p.path p.blocks n) (file_at p.path n (outline_of t)) es (top_decls t)) w → IsDeclaredFunction i c d g
  of_file d g n t tree w face same h =
      let mean : WrittenMeaning = package_meanings (shows_in p) p.path p.blocks n in
      let f : WrittenFile = file_at p.path n (outline_of t) in
      let r = written_item mean f es (top_decls t) w h in
      let x = form_written g mean f es r.0.number r.0.form (ap (λ (y : WrittenOf). y.face) r.2 ∙ face) in
      let there = subst (λ (y : WrittenOf). same_decl_place y.decl d ≡ true) (sym r.2) same in
      let both = and_parts (nat_eq n d.file) (nat_eq r.0.number d.number) there in
      let file : n ≡ d.file = eqb-true n d.file both.0 in
      record {
        tree = t;
        in_package = subst (λ m. slice_get (trees_in i.source) m ≡ Some t) file tree;
        decl = r.0;
        among = contained (top_decls t) r.0 r.1;
        number = eqb-true r.0.number d.number both.1;
        func = x.0;
        form = x.1;
        is = subst (λ m. g ≡ signature_in i c m t x.0) file x.2;
      }

  at_number : (d : DeclRef) (g : Sign) (k : ℕ) → position_of (scene_in p es).written d ≡ Some k → slice_index_or c.declared k None ≡ Some (faces.Func g) → IsDeclaredFunction i c d g
  at_number d g k there is =
      let known : ℕ → Option TheFace = λ a. slice_index_or c.declared a None in
      let at = some_func g (scene_in p es) known k (slice_get (package_placed p es) k) (sym (right.values k (faces.Func g) is)) in
      let w = found_func g (scene_in p es).written k at in
      let same = position_there (scene_in p es).written d k there w.0 w.1 in
      let one = from_flat (λ (q : ℕ × FileOutline). file_written (package_meanings (shows_in p) p.path p.blocks q.0) (file_at p.path q.0 q.1) es q.1.decls) (enumerate_from 0 (outlines_in p)) w.0 (has_get (scene_in p es).written k w.0 w.1) in
      let tree = enumerated 0 (trees_in i.source) one.item one.there in
      let sum : tree.0 ≡ 0 + tree.0 = omega arith in
      let numbered : (tree.0, outline_of tree.1) ≡ one.item = ap (λ m. (m, outline_of tree.1)) sum ∙ tree.3 in
      of_file d g tree.0 tree.1 tree.2 w.0 w.2 same
      (subst (λ (q : ℕ × FileOutline). HasItem (file_written (package_meanings (shows_in p) p.path p.blocks q.0) (file_at p.path q.0 q.1) es q.1.decls) w.0) (sym numbered) one.here)

pub own_declared : OwnFunctionsAreDeclared
own_declared i c part placed d g is = by (position_of (scene_in (package_seen i c.blocks (seen_by i)) (known_types i c)).written d) refl is
  where
    by : (o : Option ℕ) → position_of (scene_in (package_seen i c.blocks (seen_by i)) (known_types i c)).written d ≡ o → face_at c.declared o ≡ Some (faces.Func g) → IsDeclaredFunction i c d g
    by None there e = absurd (cc e)
    by (Some k) there e = at_number i c part placed d g k there e
