-- Parts that are made in the order of a plan.
use Rattle.std.proofs.Common.{◌≡◌, ◌≢◌, ℕ, suc, ◌+◌, ◌<◌, ◌⊎◌, inl, inr, nat_eq, eq-eqb, List, [], ◌∷◌, ◌++◌, length, get_or, take, Option, Some, None, refl, sym, ap, subst, ◌∙◌, arith, append_assoc, append-nil}
use Rattle.std.specs.Prelude.{slice_get, slice_set, slice_index, AllPairs, Contains, replicate}
use Rattle.std.specs.List.{AllZip, IsDistinct}
use Rattle.std.proofs.lemmas.Bool.{cases_eq, true≢false}
use Rattle.std.proofs.lemmas.List.{take_more, length-take, length-set, get_or-take, get_or-set_same, get_or-set_other, length-replicate, get_or_default, map-append}
use Rattle.std.proofs.lemmas.List.Elements.{Contains-append_left, Contains-append_right, Contains-push_cases}
use Rattle.std.proofs.lemmas.Map.Keys.{apart_from_distinct}
use Rattle.std.proofs.lemmas.Option.{slice_get_within, slice_get-get_or, get_or_from_slice_get}
use Rattle.go_graph_core.specs.declared.imports.ImportAt.{ImportAt}
use Rattle.go_graph_core.specs.Packages.{IsAssembled, trees_of}
use Rattle.go_graph_core.specs.Plans.{PlanModel, IsPlan}
use Rattle.go_graph_core.specs.Workspaces.{PackageModel, IsWorkspace}
use Rattle.go_graph_core.proofs.Zips.{zip_append}
use Rattle.go_names_core.specs.block_core.declared.imports.Imported.{Imported}
use Rattle.go_names_core.specs.block_core.Exports.{ExportsModel}
use Rattle.go_names_core.specs.block_core.Growing.{given_weaker, package_weaker}
use Rattle.go_names_core.specs.block_core.AllLemmas.{no_number, nothing_at, numbered_from}
use Rattle.go_body_core.specs.typexpr_core.EntryShowing.{shown_in, with_shown}
use Rattle.go_body_core.specs.typexpr_core.EntryAmong.{Among, among_from}
use Rattle.go_body_core.specs.table_core.Entries.{Entry}
use Rattle.go_body_core.specs.table_core.Tables.{AreOthers}
use Rattle.go_emit_core.specs.declared_core.Packages.{PackageFacesModel, with_faces}
use Rattle.go_report_core.specs.summary_core.Summaries.{SummaryModel, IsOfOne, path_of}
use Rattle.go_report_core.specs.summary_core.Views.{exports_told, types_told}
use Rattle.go_report_core.specs.summary_core.Telling.{of_one}
use Rattle.go_report_core.specs.summary_core.Viewed.{AreElsewhere, exports_added, faces_added, types_apart}
use Rattle.go_snap_core.specs.whole_workspace.LocalLaws.{CheckIsLocal, ImportsBindTheirs}
use Rattle.go_emit_core.specs.package_core.PackagePartInputs.{InputModel}
use Rattle.go_emit_core.specs.package_core.PackagePartParts.{ContentOf, IsMade, IsPart, PartModel, seen_with}
use Rattle.go_snap_core.specs.whole_workspace.Inputs.{AreParts, ComesTo, IsInputOf, IsPartOf, Shown, Tells}
use Rattle.go_snap_core.proofs.WholeWorkspaceLists.{all_from_among, one_at, zip_of, zip_to, zip_weaker}
use Rattle.go_snap_core.proofs.WholeWorkspaceTold.{AreWell, NoneIsOf}
use Rattle.go_snap_core.proofs.WholeWorkspaceBeside.{one_place}
use Rattle.go_snap_core.specs.whole_workspace.mirrors.Steps.{AreMade, IsRight, IsSeen}
use Rattle.go_snap_core.proofs.WholeWorkspaceParts.{part_over, path_told, told_by, told_once, well_told}

-- parts that are there stay there
abbrev pub Grows : List (Option PartModel) → List (Option PartModel) → Type 0
Grows parts more = (i : ℕ) (part : PartModel) → slice_get parts i ≡ Some (Some part) → slice_get more i ≡ Some (Some part)

module _ (ps : List PackageModel) (parts more : List (Option PartModel)) (grows : Grows parts more) where
  pub tells_grow : (n : ℕ) (s : SummaryModel) → Tells parts n s → Tells more n s
  tells_grow n s h = record { of_part = h.of_part; there = grows n h.of_part h.there; is = h.is }

  shown_grow : (n : ℕ) (e : ExportsModel) → Shown parts n e → Shown more n e
  shown_grow n e h = record { summary = h.summary; told = tells_grow n h.summary h.told; is = h.is }

  comes_grow : (at : ImportAt) (i : Imported) → ComesTo ps parts at i → ComesTo ps more at i
  comes_grow at i h = record { outcome = h.outcome; judged = h.judged; given = given_weaker (Shown parts) (Shown more) shown_grow h.outcome i h.given }

  pub zip_grow : (numbers : List ℕ) (ss : List SummaryModel) → AllZip (Tells parts) numbers ss → AllZip (Tells more) numbers ss
  zip_grow numbers ss h = zip_weaker (Tells parts) (Tells more) numbers ss (λ n s at t. tells_grow n s t) h

  pub input_grow : (n : ℕ) (p : PackageModel) (i : InputModel) → IsInputOf ps parts n p i → IsInputOf ps more n p i
  input_grow n p i h = record {
    source = h.source;
    imports = package_weaker (ComesTo ps parts) (ComesTo ps more) comes_grow n (trees_of p.1) i.imports h.imports;
    reached = record { numbers = h.reached.numbers; rising = h.reached.rising; reached = h.reached.reached; told = zip_grow h.reached.numbers i.reached h.reached.told };
  }

  pub right_grows : (n : ℕ) (part : PartModel) → IsRight ps parts n part → IsRight ps more n part
  right_grows n part h = record { numbered = h.numbered; assembled = h.assembled; input = input_grow n part.input.source part.input h.input; made = h.made }

-- none are made in the beginning
pub none_made : (ps : List PackageModel) (parts : List (Option PartModel)) → parts ≡ replicate (length ps) None → AreMade ps [] parts []
none_made ps parts is = record {
  count = ap length is ∙ length-replicate {A = Option PartModel} (length ps) None;
  made = λ n h. absurd (no_number n h);
  only = λ n part h. absurd (nothing_at (length ps) parts n part is h);
  right = λ n part h. absurd (nothing_at (length ps) parts n part is h);
  told = tt;
}

-- one package more

not_before : (order : List ℕ) (k n : ℕ) → IsDistinct nat_eq order → k < length order → n ≡ slice_index order k → Contains (take k order) n → ⊥
not_before order k n once lt is h =
    let low : h.0 < k = omega (arith, h.1, length-take k order) in
    let apart = apart_from_distinct nat_eq order h.0 k 0 once low lt in
    let same : get_or order h.0 0 ≡ get_or order k 0 = get_or_default order h.0 0 n (omega arith) ∙ (sym (get_or-take k order h.0 n low) ∙ (h.2 ∙ is)) in
    absurd (true≢false (sym (eq-eqb (get_or order h.0 0) (get_or order k 0) same) ∙ apart))

-- the numbers in front of a place differ
pub front_apart : (order : List ℕ) (k : ℕ) → IsDistinct nat_eq order → AllPairs (λ m l. m ≢ l) (take k order)
front_apart order k once = λ i j d lt below e.
    let low : j < k = omega (arith, below, length-take k order) in
    let within : j < length order = omega (arith, below, length-take k order) in
    let apart = apart_from_distinct nat_eq order i j d once lt within in
    let same : get_or order i d ≡ get_or order j d = sym (get_or-take k order i d (omega (arith, lt, low))) ∙ (e ∙ get_or-take k order j d low) in
    absurd (true≢false (sym (eq-eqb (get_or order i d) (get_or order j d) same) ∙ apart))

-- a list with one entry set
module _ {A : Type 0} (xs : List (Option A)) (number : ℕ) (x : A) (below : number < length xs) where
  abbrev pub with_one : List (Option A)
  with_one = slice_set xs number (Some x)

  pub set_here : slice_get with_one number ≡ Some (Some x)
  set_here = slice_get-get_or with_one number None (omega (arith, length-set xs number (Some x))) ∙ ap Some (get_or-set_same xs number (Some x) None below)

  pub set_there : (i : ℕ) → i ≢ number → (y : Option A) → slice_get xs i ≡ Some y → slice_get with_one i ≡ Some y
  set_there i ne y h = slice_get-get_or with_one i y (omega (arith, length-set xs number (Some x), slice_get_within xs i y h)) ∙ ap Some (get_or-set_other xs number i (Some x) y ne ∙ get_or_from_slice_get xs i y y h)

  pub set_back : (i : ℕ) → i ≢ number → (y : Option A) → slice_get with_one i ≡ Some y → slice_get xs i ≡ Some y
  set_back i ne y h = slice_get-get_or xs i y (omega (arith, length-set xs number (Some x), slice_get_within with_one i y h)) ∙ ap Some (sym (get_or-set_other xs number i (Some x) y ne) ∙ get_or_from_slice_get with_one i y y h)

module _ (ps : List PackageModel) (plan : PlanModel) (k : ℕ) (planned : IsPlan ps plan) (lt : k < length plan.order) (parts : List (Option PartModel)) (ss : List SummaryModel) (before : AreMade ps (take k plan.order) parts ss)
    (n : ℕ) (is : n ≡ slice_index plan.order k) where
  pub not_made : (part : PartModel) → slice_get parts n ≡ Some (Some part) → ⊥
  not_made part h = not_before plan.order k n planned.once lt is (before.only n part h)

  module _ (part : PartModel) (numbered : slice_get ps n ≡ Some part.input.source) (assembled : IsAssembled part.input.source.1) (input : IsInputOf ps parts n part.input.source part.input) (made : IsPart part.input part.content) where
    below : n < length parts
    below = omega (arith, slice_get_within ps n part.input.source numbered, before.count)

    abbrev new : List (Option PartModel)
    new = slice_set parts n (Some part)

    grows : Grows parts new
    grows = λ i q h. set_there parts n part below i (λ e. not_made q (subst (λ m. slice_get parts m ≡ Some (Some q)) e h)) (Some q) h

    next : take (k + 1) plan.order ≡ take k plan.order ++ n ∷ []
    next = take_more plan.order k 0 lt ∙ ap (λ m. take k plan.order ++ m ∷ []) (sym is)

    here : IsRight ps new n part
    here = record { numbered = numbered; assembled = assembled; input = input_grow ps parts new grows n part.input.source part.input input; made = made }

    last_is : (q : PartModel) → slice_get new n ≡ Some (Some q) → part ≡ q
    last_is q h = (let e : Some part ≡ Some q = one_at new n (Some part) (Some q) (set_here parts n part below) h in cc)

    right_at : (i : ℕ) (q : PartModel) → slice_get new i ≡ Some (Some q) → (i ≡ n) ⊎ (i ≢ n) → IsRight ps new i q
    right_at i q h (inl e) = subst (λ m. IsRight ps new m q) (sym e) (subst (λ r. IsRight ps new n r) (last_is q (subst (λ m. slice_get new m ≡ Some (Some q)) e h)) here)
    right_at i q h (inr ne) = right_grows ps parts new grows i q (before.right i q (set_back parts n part below i ne (Some q) h))

    made_at : (i : ℕ) → Contains (take k plan.order) i ⊎ (n ≡ i) → (q : PartModel) × (slice_get new i ≡ Some (Some q))
    made_at i (inl c) = (let r = before.made i c in (r.0, grows i r.0 r.1))
    made_at i (inr e) = (part, subst (λ m. slice_get new m ≡ Some (Some part)) e (set_here parts n part below))

    only_at : (i : ℕ) (q : PartModel) → slice_get new i ≡ Some (Some q) → (i ≡ n) ⊎ (i ≢ n) → Contains (take k plan.order ++ n ∷ []) i
    only_at i q h (inl e) = Contains-append_right (take k plan.order) (n ∷ []) i (0, omega arith, sym e)
    only_at i q h (inr ne) = Contains-append_left (take k plan.order) (n ∷ []) i (before.only i q (set_back parts n part below i ne (Some q) h))

    pub one_more : AreMade ps (take (k + 1) plan.order) new (ss ++ part.content.summary ∷ [])
    one_more =
        subst (λ l. AreMade ps l new (ss ++ part.content.summary ∷ [])) (sym next)
        (record {
          count = length-set parts n (Some part) ∙ before.count;
          made = λ i h. made_at i (Contains-push_cases (take k plan.order) n i h);
          only = λ i q h. only_at i q h (cases_eq i n);
          right = λ i q h. right_at i q h (cases_eq i n);
          told = zip_append (Tells new) (take k plan.order) (n ∷ []) ss (part.content.summary ∷ []) (zip_grow ps parts new grows (take k plan.order) ss before.told) (record { of_part = part; there = set_here parts n part below; is = refl }, tt);
        })

-- all of them
part_entry : (ps : List PackageModel) (plan : PlanModel) (parts : List (Option PartModel)) (ss : List SummaryModel) (n : ℕ) (p : PackageModel) (x : Option PartModel) → IsPlan ps plan → AreMade ps plan.order parts ss → slice_get ps n ≡ Some p → slice_get parts n ≡ Some x → IsPartOf ps parts n p x
part_entry ps plan parts ss n p None planned made at has = λ assembled.
    let b = made.made n ((planned.each n).1 (p.0, p.1, at, assembled)) in
    let e : Some None ≡ Some (Some b.0) = sym has ∙ b.1 in
    cc
part_entry ps plan parts ss n p (Some part) planned made at has =
    let r = made.right n part has in
    let s : part.input.source ≡ p = one_at ps n part.input.source p r.numbered at in
    (subst (λ (q : PackageModel). IsAssembled q.1) s r.assembled, subst (λ (q : PackageModel). IsInputOf ps parts n q part.input) s r.input, r.made)

pub all_made : (ps : List PackageModel) (plan : PlanModel) (parts : List (Option PartModel)) (ss : List SummaryModel) → IsPlan ps plan → AreMade ps plan.order parts ss → AreParts ps parts
all_made ps plan parts ss planned made = numbered_from (λ n p x. IsPartOf ps parts n p x) 0 ps parts made.count (λ n p x at has. (let e : n ≡ 0 + n = omega arith in subst (λ m. IsPartOf ps parts m p x) e (part_entry ps plan parts ss n p x planned made at has)))

-- what is seen of the packages that are made

types_push : (ss : List SummaryModel) (s : SummaryModel) → types_told ss ++ s.types.entries ≡ types_told (ss ++ s ∷ [])
types_push [] s = sym (append-nil s.types.entries)
types_push (t ∷ ss) s = append_assoc t.types.entries (types_told ss) s.types.entries ∙ ap (λ l. t.types.entries ++ l) (types_push ss s)

each_elsewhere : (ss : List SummaryModel) (path : List ℕ) → NoneIsOf ss path → AreElsewhere ss path
each_elsewhere [] path h = tt
each_elsewhere (s ∷ ss) path h = ((λ e. h 0 s (omega arith) (sym e)), each_elsewhere ss path (λ k d lt. h (suc k) d (omega (arith, lt))))

-- no type that is seen is of a package of which nothing is told
pub others_seen : (ss : List SummaryModel) (path : List ℕ) (types : List Entry) → AreWell ss → NoneIsOf ss path → types ≡ types_told ss → AreOthers path types
others_seen ss path types well none is = subst (AreOthers path) (sym is) (types_apart ss path (of_one ss well.own) (each_elsewhere ss path none))

pub seen_more : (ss : List SummaryModel) (s : SummaryModel) (types more : List Entry) (shown others : List ExportsModel) (faces told : List PackageFacesModel) → AreWell ss → IsOfOne s → NoneIsOf ss (path_of s) → IsSeen ss types shown faces
    → more ≡ types ++ s.types.entries → others ≡ with_shown shown s.exports → told ≡ with_faces faces s.faces → IsSeen (ss ++ s ∷ []) more others told
seen_more ss s types more shown others faces told well one none seen a b c = record {
  types_are = a ∙ (ap (λ l. l ++ s.types.entries) seen.types_are ∙ types_push ss s);
  shown_are = b ∙ (ap (λ l. with_shown l s.exports) seen.shown_are ∙ (exports_added ss s.exports (each_elsewhere ss (path_of s) none) ∙ sym (map-append (λ (t : SummaryModel). t.exports) ss (s ∷ []))));
  faces_are = c ∙ (ap (λ l. with_faces l s.faces) seen.faces_are ∙ (faces_added ss s.faces (of_one ss well.own) (subst (AreElsewhere ss) (sym one.faces) (each_elsewhere ss (path_of s) none)) ∙ sym (map-append (λ (t : SummaryModel). t.faces) ss (s ∷ []))));
}

-- the next package of a plan, over what the packages before it tell

module _ (ps : List PackageModel) (plan : PlanModel) (k : ℕ) (well : IsWorkspace ps) (planned : IsPlan ps plan) (lt : k < length plan.order) (parts : List (Option PartModel)) (ss : List SummaryModel) (before : AreMade ps (take k plan.order) parts ss)
    (n : ℕ) (is : n ≡ slice_index plan.order k) (p : PackageModel) (numbered : slice_get ps n ≡ Some p) where
  pub seen_well : AreWell ss
  seen_well = well_told ps parts well before.right (take k plan.order) ss (front_apart plan.order k planned.once) before.told

  -- nothing is told of it yet
  pub none_seen : NoneIsOf ss p.0
  none_seen =
      all_from_among (λ s. p.0 ≡ path_of s → ⊥) ss
      (λ s among same. (let t = zip_of (Tells parts) (take k plan.order) ss s before.told among in
      let part = t.2.of_part in
      let number : n ≡ t.0 = one_place ps n t.0 p part.input.source well numbered (before.right t.0 part t.2.there).numbered (same ∙ path_told ps parts well before.right t.0 s t.2) in
      not_made ps plan k planned lt parts ss before n is part (subst (λ m. slice_get parts m ≡ Some (Some part)) (sym number) t.2.there)))

  -- what it gives over all of this it gives by its input
  pub part_made : CheckIsLocal → ImportsBindTheirs → (i : InputModel) (types : List Entry) (shown : List ExportsModel) (faces : List PackageFacesModel) (c : ContentOf)
      → i.source ≡ p → IsInputOf ps parts n p i → IsSeen ss types shown faces → IsMade i (seen_with types (shown_in shown) faces) c → IsPart i c
  part_made local bind i types shown faces c same input seen made =
      part_over ps parts well before.right local bind plan planned n i ss c own_input own_number seen_well (subst (λ (q : PackageModel). NoneIsOf ss q.0) (sym same) none_seen) has
      (subst (λ x. IsMade i (seen_with (types_told ss) (shown_in (exports_told ss)) x) c) seen.faces_are
      (subst (λ x. IsMade i (seen_with (types_told ss) (shown_in x) faces) c) seen.shown_are
      (subst (λ x. IsMade i (seen_with x (shown_in shown) faces) c) seen.types_are made)))
    where
      own_input : IsInputOf ps parts n i.source i
      own_input = subst (λ (q : PackageModel). IsInputOf ps parts n q i) (sym same) input

      own_number : slice_get ps n ≡ Some i.source
      own_number = numbered ∙ ap Some (sym same)

      has : (s : SummaryModel) → Among i.reached s → Among ss s
      has s h =
          let by = told_by ps parts well before.right n i own_input s h in
          let there = zip_to (Tells parts) (take k plan.order) ss by.number before.told (among_from (take k plan.order) by.number (before.only by.number by.tells.of_part by.tells.there)) in
          subst (Among ss) (told_once ps parts well before.right by.number there.0 s there.2 by.tells) there.1
