-- What the packages of a workspace tell of constants is of types over what their values are.
use Rattle.std.proofs.Common.{◌≡◌, inl, inr, ◌⊎◌, ℕ, Bool, true, false, List, [], ◌∷◌, ◌++◌, Contains, Option, Some, None, refl, sym, ap, subst, ◌∙◌, if◌then◌else◌}
use Rattle.std.specs.Prelude.{AllPairs, slice_get, slice_index_or, suc}
use Rattle.std.proofs.lemmas.List.Kept.{AllPairs-cons}
use Rattle.go_term_core.specs.decl_core.declared.keys.DeclKey.{DeclKey}
use Rattle.go_term_core.specs.decl_core.declared.keys.DeclRef.{DeclRef}
use Rattle.go_term_core.specs.Terms.{Term, NoType, Predeclared, ErrorType, Defined, PointerTo, StructOf, InterfaceOf, term_keys}
use Rattle.go_constant_core.specs.declared.values.Constant.{Constant}
use Rattle.go_report_core.specs.operand_core.declared.types.ValueType.{ValueType}
use Rattle.go_report_core.specs.operand_core.declared.types.ValueType.TheVariants as types
use Rattle.go_report_core.specs.operand_core.TypeRules.{TypeRules}
use Rattle.go_report_core.specs.operand_core.Values.{basic_under, form_basic}
use Rattle.go_meaning_laws.specs.handle_core.DecidingRules.{form_of, form_under, term_rules}
use Rattle.go_emit_core.specs.declared_core.Faces.{TheFace}
use Rattle.go_emit_core.specs.declared_core.Packages.{DeclaredOf, face_among, face_by}
use Rattle.go_emit_core.specs.declared_core.Written.{same_decl_place}
use Rattle.go_emit_core.specs.declared_core.declared.face.Face.TheVariants as faces
use Rattle.go_report_core.specs.answer.Shown.{is_decl_listed, shown_among, shown_if}
use Rattle.go_body_core.specs.typexpr_core.EntryAmong.{Among, among_cases, among_from, among_left, among_map, among_right, among_to}
use Rattle.go_graph_core.proofs.PlanLaws.{has_plan}
use Rattle.go_graph_core.specs.Plans.{IsPlan, PlanModel}
use Rattle.go_graph_core.specs.Workspaces.{IsWorkspace, PackageModel}
use Rattle.go_report_core.specs.summary_core.Summaries.{IsOfOne, SummaryModel, path_of}
use Rattle.go_report_core.specs.summary_core.Views.{types_told}
use Rattle.go_emit_core.specs.package_core.PackagePartInputs.{InputModel, path_in}
use Rattle.go_emit_core.specs.package_core.PackagePartParts.{ContentOf, IsPart, PartModel}
use Rattle.go_emit_core.specs.Emitted.{told_to}
use Rattle.go_body_core.specs.table_core.Entries.{Entry, find_entry, term_in}
use Rattle.go_snap_core.proofs.WholeWorkspaceChecks.{trees_are_placed}
use Rattle.go_snap_core.specs.whole_workspace.Inputs.{ReachesPackage}
use Rattle.go_snap_core.specs.whole_workspace.Known.{KnownAlike, value_type_keys}
use Rattle.go_snap_core.proofs.WholeWorkspaceLists.{all_from_among, among_all, pairs_head, pairs_tail}
use Rattle.go_snap_core.specs.whole_workspace.LocalLaws.{CheckIsLocal, ImportsBindTheirs}
use Rattle.go_snap_core.proofs.WholeWorkspaceOrder.{along, reaches_on}
use Rattle.go_snap_core.proofs.WholeWorkspaceParts.{all_inside, none_reached, of_one, path_told, reach_paths, told_by, told_to as told_there, well_reached}
use Rattle.go_snap_core.proofs.WholeWorkspacePartsWhole.{all_right}
use Rattle.go_snap_core.proofs.WholeWorkspaceTold.{AreWell, NoneIsOf, known_alike, known_by}
use Rattle.go_snap_core.specs.whole_workspace.mirrors.Steps.{AreRight}
use Rattle.go_workspace_laws.proofs.ConstantLists.{contained}
use Rattle.go_program_laws.specs.calls.Constants.{IsConstantOver}
use Rattle.go_program_laws.specs.calls.Packages.{AreToldOver, DeclarationsKeepTypes, IsFaceOver, IsSomeFaceOver, PartsTellKept, rules_in}

-- what a package shows of its declarations is what these are

module _ (rules : TypeRules Term) where
  first_over : (b : Bool) (e : DeclaredOf) (o : Option TheFace) → IsFaceOver rules e.face → IsSomeFaceOver rules o → IsSomeFaceOver rules (if b then Some e.face else o)
  first_over true e o h k = h
  first_over false e o h k = k

  some_over : (b : Bool) (d : DeclRef) (o : Option TheFace) → IsSomeFaceOver rules o → (e : DeclaredOf) → Among (shown_if b d o) e → IsFaceOver rules e.face
  some_over b d None h e a = absurd a
  some_over true d (Some f) h e (inl same) = subst (λ (x : DeclaredOf). IsFaceOver rules x.face) same h
  some_over true d (Some f) h e (inr none) = absurd none
  some_over false d (Some f) h e a = absurd a

  each_over : (these ds : List DeclRef) (known : List (Option TheFace)) → ((k : ℕ) → IsSomeFaceOver rules (slice_index_or known k None)) → (e : DeclaredOf) → Among (shown_among these ds known) e → IsFaceOver rules e.face
  each_over these [] known h e a = absurd a
  each_over these (d ∷ ds) [] h e a = absurd a
  each_over these (d ∷ ds) (f ∷ known) h e a = elim (among_cases (shown_if (is_decl_listed these d) d f) (shown_among these ds known) e a) [
    | inl here ↦ some_over (is_decl_listed these d) d f (h 0) e here
    | inr later ↦ each_over these ds known (λ k. h (suc k)) e later
  ]

  found_over : (xs : List DeclaredOf) → ((e : DeclaredOf) → Among xs e → IsFaceOver rules e.face) → (d : DeclRef) → IsSomeFaceOver rules (face_among xs d)
  found_over [] each d = tt
  found_over (x ∷ xs) each d = first_over (same_decl_place x.decl d) x (face_among xs d) (each x (inl refl)) (found_over xs (λ e a. each e (inr a)) d)

module _ (i : InputModel) (c : ContentOf) (part : IsPart i c) (own : (k : ℕ) → IsSomeFaceOver (rules_in i c) (slice_index_or c.declared k None)) where
  told_over : (d : DeclRef) → IsSomeFaceOver (rules_in i c) (face_by c.summary.faces d)
  told_over d =
      subst (λ (s : SummaryModel). IsSomeFaceOver (rules_in i c) (face_by s.faces d)) (sym part.summary)
      (subst (λ w. IsSomeFaceOver (rules_in i c) (face_by w d)) (sym part.is_checked.faces)
      (found_over (rules_in i c) _ (each_over (rules_in i c) _ _ part.checked.declared (subst (λ ks. (k : ℕ) → IsSomeFaceOver (rules_in i c) (slice_index_or ks k None)) part.declared own)) d))

-- from one table to another that has the same of the types that are mentioned

module _ (Inside : List ℕ → Type 0) (es fs : List Entry) (p q : List ℕ) (same : (k : DeclKey) → Inside k.path → find_entry es k ≡ find_entry fs k) where
  form_same : (t : Term) → ((k : DeclKey) → Contains (term_keys t) k → Inside k.path) → form_of (find_entry es) t ≡ form_of (find_entry fs) t
  form_same NoType h = refl
  form_same (Predeclared b) h = refl
  form_same ErrorType h = refl
  form_same (Defined k) h = ap (λ o. form_under (term_in o)) (same k (h k (contained (k ∷ []) k (inl refl))))
  form_same (PointerTo t) h = refl
  form_same (StructOf home ms) h = refl
  form_same (InterfaceOf home ms) h = refl

  value_moved : (k : Option Constant) (v : ValueType Term) → ((j : DeclKey) → Contains (value_type_keys v) j → Inside j.path) → IsConstantOver k (basic_under (term_rules es p) v) → IsConstantOver k (basic_under (term_rules fs q) v)
  value_moved k (types.Typed t) near h = subst (λ f. IsConstantOver k (form_basic f)) (form_same t near) h
  value_moved k types.UntypedInt near h = h
  value_moved k types.UntypedText near h = h
  value_moved k types.UntypedBool near h = h
  value_moved k types.Nil near h = h

-- one more behind others that are apart from it
apart_more : {A : Type 0} (R : A → A → Type 0) (xs : List A) (x : A) → AllPairs R xs → ((y : A) → Among xs y → R y x) → AllPairs R (xs ++ x ∷ [])
apart_more R [] x pairs h = AllPairs-cons R x [] (all_from_among (R x) [] (λ y a. absurd a)) pairs
apart_more {A = A} R (y ∷ xs) x pairs h =
    AllPairs-cons R y (xs ++ x ∷ []) (all_from_among (R y) (xs ++ x ∷ []) (λ z a. by z (among_cases xs (x ∷ []) z a)))
    (apart_more R xs x (pairs_tail R y xs pairs) (λ z a. h z (inr a)))
  where
    by : (z : A) → Among xs z ⊎ Among (x ∷ []) z → R y z
    by z (inl a) = pairs_head R y xs pairs z a
    by z (inr (inl e)) = subst (R y) e (h y (inl refl))
    by z (inr (inr never)) = absurd never

module _ (local : CheckIsLocal) (bind : ImportsBindTheirs) (keep : DeclarationsKeepTypes) (ps : List PackageModel) (parts : List (Option PartModel)) (well : IsWorkspace ps) (right : AreRight ps parts) (plan : PlanModel) (planned : IsPlan ps plan) where
  abbrev told : PartModel → List SummaryModel
  told part = told_to part.input part.content

  well_told : (n : ℕ) (part : PartModel) → slice_get parts n ≡ Some (Some part) → AreWell (told part)
  well_told n part there =
      let reached = well_reached ps parts well right n part.input (right n part there).input in
      let own = part.content.summary in
      let path : path_of own ≡ path_in part.input = path_told ps parts well right n own (record { of_part = part; there = there; is = refl }) in
      let none : NoneIsOf part.input.reached (path_in part.input) =
      none_reached ps parts well right n part.input (right n part there).input bind plan planned (right n part there).numbered (λ m q to at. all_inside ps parts well right local bind plan planned m q at) in
      record {
        apart = apart_more (λ s t. path_of s ≡ path_of t → ⊥) part.input.reached own reached.apart (λ s a same. among_all (λ (t : SummaryModel). path_in part.input ≡ path_of t → ⊥) part.input.reached s none a (sym path ∙ sym same));
        own = all_from_among IsOfOne (told part) (λ s a. one_of s (among_cases part.input.reached (own ∷ []) s a));
      }
    where
      one_of : (s : SummaryModel) → Among part.input.reached s ⊎ Among (part.content.summary ∷ []) s → IsOfOne s
      one_of s (inl a) = among_all IsOfOne part.input.reached s (well_reached ps parts well right n part.input (right n part there).input).own a
      one_of s (inr (inl e)) = subst IsOfOne e (of_one ps parts well right n part there)
      one_of s (inr (inr never)) = absurd never

  module _ (n : ℕ) (part : PartModel) (there : slice_get parts n ≡ Some (Some part)) (m : ℕ) (q : PartModel) (at : slice_get parts m ≡ Some (Some q)) (reached : ReachesPackage ps n m) (among : Among part.input.reached q.content.summary) where
    -- what a package tells that is reached, and what those tell that it reaches, is told to both
    record IsTold (path : List ℕ) : Type 0 where
      summary : SummaryModel
      one : Among (told q) summary
      other : Among (told part) summary
      is : path_of summary ≡ path

    told_both : (path : List ℕ) → Among (reach_paths q.input) path → IsTold path
    told_both path (inl e) = record {
      summary = q.content.summary;
      one = among_right q.input.reached (q.content.summary ∷ []) q.content.summary (inl refl);
      other = among_left part.input.reached (part.content.summary ∷ []) q.content.summary among;
      is = path_told ps parts well right m q.content.summary (record { of_part = q; there = at; is = refl }) ∙ e;
    }
    told_both path (inr a) =
        let t = among_map path_of q.input.reached path a in
        let deeper = told_by ps parts well right m q.input (right m q at).input t.0 t.1 in
        record {
          summary = t.0;
          one = among_left q.input.reached (q.content.summary ∷ []) t.0 t.1;
          other = among_left part.input.reached (part.content.summary ∷ []) t.0 (told_there ps parts well right n part.input (right n part there).input deeper.number t.0 (reaches_on ps n m deeper.number reached deeper.reached) deeper.tells);
          is = t.2;
        }

    alike : KnownAlike (Contains (reach_paths q.input)) (known_by (told q)) (known_by (told part))
    alike =
        known_alike (told q) (told part) (well_told m q at) (well_told n part there) (Contains (reach_paths q.input))
        (λ path h. (let t = told_both path (among_from (reach_paths q.input) path h) in inl (record { summary = t.summary; one = among_to (told q) t.summary t.one; other = among_to (told part) t.summary t.other; is = t.is })))

    face_told : (d : DeclRef) (o : Option TheFace) → face_by q.content.summary.faces d ≡ o → IsSomeFaceOver (rules_in q.input q.content) o → IsSomeFaceOver (rules_in part.input part.content) o
    face_told d None e h = tt
    face_told d (Some (faces.«Type» t)) e h = tt
    face_told d (Some (faces.Func g)) e h = tt
    face_told d (Some (faces.«Value» None)) e h = tt
    face_told d (Some (faces.«Value» (Some o))) e h =
        value_moved (Contains (reach_paths q.input)) (types_told (told q)) (types_told (told part)) (path_in q.input) (path_in part.input) alike.types o.constant o.value_type
        (λ k keys. (all_inside ps parts well right local bind plan planned m q at).faces d (faces.«Value» (Some o)) k e keys) h

  part_kept : (n : ℕ) (part : PartModel) → slice_get parts n ≡ Some (Some part) → ((m : ℕ) → ReachesPackage ps n m → (q : PartModel) → slice_get parts m ≡ Some (Some q) → AreToldOver q.input q.content) → AreToldOver part.input part.content
  part_kept n part there below s h d =
      let by = told_by ps parts well right n part.input (right n part there).input s (among_from part.input.reached s h) in
      let q = by.tells.of_part in
      let r = right by.number q by.tells.there in
      let own = keep q.input q.content r.made (trees_are_placed ps by.number q.input.source well r.numbered) (below by.number by.reached q by.tells.there) in
      let among = subst (Among part.input.reached) by.tells.is (among_from part.input.reached s h) in
      subst (λ (x : SummaryModel). IsSomeFaceOver (rules_in part.input part.content) (face_by x.faces d)) (sym by.tells.is)
      (face_told n part there by.number q by.tells.there by.reached among d (face_by q.content.summary.faces d) refl (told_over q.input q.content r.made own d))

  all_kept : (n : ℕ) (part : PartModel) → slice_get parts n ≡ Some (Some part) → AreToldOver part.input part.content
  all_kept n part there =
      let r = right n part there in
      along ps plan planned (λ k. (q : PartModel) → slice_get parts k ≡ Some (Some q) → AreToldOver q.input q.content) (λ k assembled below q at. part_kept k q at below)
      n (part.input.source.0, part.input.source.1, r.numbered, r.assembled) part there

pub parts_tell_kept : CheckIsLocal → ImportsBindTheirs → DeclarationsKeepTypes → PartsTellKept
parts_tell_kept local bind keep ps parts well made n p there =
    let plan = has_plan ps well in
    all_kept local bind keep ps parts well (all_right ps parts made) plan.0 plan.1 n p there
