-- The identifier that is used at an offset, with its spot.
use Rattle.std.proofs.Common.{◌≡◌, ◌⊎◌, inl, inr, ℕ, zero, suc, ◌<◌, ◌≤◌, Bool, true, false, ◌&&◌, cond, List, [], ◌∷◌, length, get_or, map, Option, Some, None, slice_get, refl, sym, ap, ◌∙◌, subst, arith}
use Rattle.std.specs.Prelude.{All, Contains, find, nat_eq, option_map}
use Rattle.std.proofs.lemmas.Bool.{eqb-true, eq-eqb}
use Rattle.std.proofs.lemmas.List.{length-map}
use Rattle.std.proofs.lemmas.Option.{get_or_from_slice_get, slice_get-get_or, slice_get-map, slice_get_within}
use Rattle.std.proofs.lemmas.List.Elements.{Contains-append_right}
use Rattle.go_tree_nodes.specs.text_core.declared.rule.Rule.{Rule}
use Rattle.go_tree_nodes.specs.text_core.declared.rule.Rule.TheVariants.{M0}
use Rattle.go_parse_core.specs.tree_core.declared.occurrence.Occ.{Occ}
use Rattle.go_parse_core.specs.tree_core.declared.occurrence.Role.{Role}
use Rattle.go_parse_core.specs.tree_core.Occurrences.{Covers, CoversAt, Follow, NoneCovers, file_occs, is_identifier}
use Rattle.go_parse_core.specs.tree_core.Order.{occs_follow}
use Rattle.go_expr_core.specs.Laws.{occurrence_place, use_place}
use Rattle.go_parse_core.specs.Parsing.{IsParse}
use Rattle.go_import_core.specs.graph_core.Packages.{tree_shown, trees_of}
use Rattle.go_import_core.specs.graph_core.Sources.{IsRead, SourceModel}
use Rattle.go_import_core.specs.graph_core.Workspaces.{AreAllRead}
use Rattle.go_import_core.specs.graph_core.Assemblies.{tree_at}
use Rattle.go_import_core.specs.graph_core.Zips.{zip_back}
use Rattle.go_complete_core.specs.package_core.PreparePackages.{trees_in}
use Rattle.go_complete_core.specs.report_core.UsageUsed.{FileUse}
use Rattle.go_complete_core.specs.package_core.PackagePartInputs.{IsInput}
use Rattle.go_complete_core.specs.package_core.PackagePartParts.{PartModel}
use Rattle.go_complete_core.specs.snap_core.WholeWorkspaceInputs.{Tells}
use Rattle.go_complete_core.specs.snap_core.WholeWorkspacePartsWhole.{all_right}
use Rattle.go_complete_core.specs.package_core.PackagePartLaws.{PartHasOccurrences}
use Rattle.go_complete_core.specs.snap_core.Snapshots.{FoundFile, HasNoFile, IsFileAt, IsSnapshot, SnapshotModel}
use Rattle.go_complete_core.specs.snap_core.Faulty.{read_there}
use Rattle.go_cursor_core.specs.Laws.{NamesAreOccurrences, occurrence_of}
use Rattle.go_cursor_core.specs.Opened.{FileUsed, file_names, first_name}
use Rattle.go_cursor_core.specs.Used.{begins_at}
use Rattle.go_complete_core.specs.candidate_core.FittingFitting.{ShowsItsExports}
use Rattle.go_complete_core.proofs.Exporting.{part_shows}
use Rattle.go_query_core.specs.Completing.{IsAskedAt, IsCompletion, IsCompletionIn, IsUnasked, IsUnaskedIn}
use Rattle.go_query_core.specs.Defining.{IsLacking, IsUnused}
use Rattle.go_query_core.specs.mirrors.Spots.{BeginsAt, HasSpots}
use Rattle.go_query_core.proofs.Using.{parsed}

-- the first identifier that begins at an offset

at_some : {X : Type 0} (xs : List X) (k : ℕ) → k < length xs → (x : X) × (slice_get xs k ≡ Some x)
at_some [] k lt = absurd (omega arith)
at_some (x ∷ xs) zero lt = (x, refl)
at_some (x ∷ xs) (suc k) lt = at_some xs k (omega arith)

not_equal : (a b : ℕ) → a < b → nat_eq a b ≡ false
not_equal a b lt = by (nat_eq a b) refl
  where
    by : (t : Bool) → nat_eq a b ≡ t → t ≡ false
    by true e = (let same : a ≡ b = eqb-true a b e in absurd (omega arith))
    by false e = refl

and_false : (a b : Bool) → b ≡ false → (a && b) ≡ false
and_false true b h = h
and_false false b h = refl

and_true : (a b : Bool) → a ≡ true → b ≡ true → (a && b) ≡ true
and_true a b h k = ap (λ t. t && b) h ∙ k

find_number : (os : List Occ) (low high : ℕ) → Follow low os high → (k : ℕ) (o : Occ) → slice_get os k ≡ Some o → is_identifier o.role ≡ true → (low ≤ o.span.start) × (find (λ (p : Occ). is_identifier p.role && nat_eq p.span.start o.span.start) os ≡ Some o)
find_number [] low high h k o at is = cc
find_number (p ∷ os) low high h zero o at is =
    let same : p ≡ o = cc in
    let test : (is_identifier p.role && nat_eq p.span.start o.span.start) ≡ true = ap (λ (q : Occ). is_identifier q.role && nat_eq q.span.start o.span.start) same ∙ and_true (is_identifier o.role) (nat_eq o.span.start o.span.start) is (eq-eqb o.span.start o.span.start refl) in
    (subst (λ (q : Occ). low ≤ q.span.start) same h.0, ap (λ b. cond b (Some p) (find (λ (q : Occ). is_identifier q.role && nat_eq q.span.start o.span.start) os)) test ∙ ap Some same)
find_number (p ∷ os) low high h (suc k) o at is =
    let r = find_number os p.span.end high h.2 k o at is in
    let a = h.0 in
    let b = h.1 in
    let c = r.0 in
    let below : p.span.start < o.span.start = omega (arith, b, c) in
    let test : (is_identifier p.role && nat_eq p.span.start o.span.start) ≡ false = and_false (is_identifier p.role) (nat_eq p.span.start o.span.start) (not_equal p.span.start o.span.start below) in
    (omega (arith, a, below), ap (λ t. cond t (Some p) (find (λ (q : Occ). is_identifier q.role && nat_eq q.span.start o.span.start) os)) test ∙ r.1)

find_there : {X : Type 0} (test : X → Bool) (xs : List X) (x : X) → find test xs ≡ Some x → Contains xs x
find_there test [] x h = absurd (cc)
find_there test (y ∷ xs) x h = by (test y) h (λ e. find_there test xs x e)
  where
    by : (b : Bool) → cond b (Some y) (find test xs) ≡ Some x → (find test xs ≡ Some x → Contains xs x) → Contains (y ∷ xs) x
    by true e rest = (let same : y ≡ x = cc in (0, omega arith, same))
    by false e rest = Contains-append_right (y ∷ []) xs x (rest e)

pub record IsSpotted (f : FoundFile) (offset start : ℕ) : Type 0 where
  pub used : FileUsed
  pub first : first_name start (file_names f.tree) ≡ Some used
  pub asked : IsAskedAt f offset used

pub spotted : NamesAreOccurrences → (f : FoundFile) (offset start : ℕ) → HasSpots f → BeginsAt f offset start → IsSpotted f offset start
spotted law f offset start spots b =
    let os : List Occ = file_occs f.tree in
    let at = at_some os b.number b.covers.0 in
    let here : (d : Occ) → get_or os b.number d ≡ at.0 = λ d. get_or_from_slice_get os b.number at.0 d at.1 in
    let covers : Covers offset at.0 = subst (Covers offset) (here at.0) (b.covers.1 at.0) in
    let begins : at.0.span.start ≡ start = subst (λ (o : Occ). o.span.start ≡ start) (here at.0) (b.begins at.0) in
    let found = find_number os 0 spots.high spots.follow b.number at.0 at.1 covers.0 in
    let same : option_map (λ (n : FileUsed). occurrence_of n.used) (first_name start (file_names f.tree)) ≡ Some at.0 =
    law.found f.tree spots.well start ∙ subst (λ (s : ℕ). find (λ (p : Occ). is_identifier p.role && nat_eq p.span.start s) os ≡ Some at.0) begins found.1 in
    by at.0 covers (first_name start (file_names f.tree)) refl same
  where
    by : (o : Occ) → Covers offset o → (r : Option FileUsed) → first_name start (file_names f.tree) ≡ r → option_map (λ (n : FileUsed). occurrence_of n.used) r ≡ Some o → IsSpotted f offset start
    by o c None e h = absurd (cc)
    by o c (Some u) e h =
        let same : occurrence_of u.used ≡ o = cc in
        record {
          used = u;
          first = e;
          asked = record {
            among = find_there (λ (n : FileUsed). begins_at start n.used) (file_names f.tree) u e;
            starts = subst (λ (q : Occ). q.span.start ≤ offset) (sym same) c.1;
            ends = subst (λ (q : Occ). offset < q.span.end) (sym same) c.2;
          };
        }

-- it is the one that is found
pub spot_asked : (f : FoundFile) (offset start : ℕ) (u : FileUsed) → IsSpotted f offset start → Some u ≡ first_name start (file_names f.tree) → IsAskedAt f offset u
spot_asked f offset start u s e = (let both : ◌≡◌ {A = Option FileUsed} (Some s.used) (Some u) = sym s.first ∙ sym e in let same : s.used ≡ u = cc in subst (IsAskedAt f offset) same s.asked)

pub spot_there : (f : FoundFile) (offset start : ℕ) → IsSpotted f offset start → None ≡ first_name start (file_names f.tree) → ⊥
spot_there f offset start s e = (let both : ◌≡◌ {A = Option FileUsed} (Some s.used) None = sym s.first ∙ sym e in cc)

-- each occurrence has an answer
pub as_many : (f : FoundFile) → HasSpots f → length f.made.answers.uses ≡ length (file_occs f.tree)
as_many f spots = sym (length-map f.made.answers.uses use_place) ∙ (ap length spots.places ∙ length-map (file_occs f.tree) occurrence_place)

-- where it begins
pub begun : (f : FoundFile) (offset k : ℕ) (u : FileUse) → HasSpots f → CoversAt offset (file_occs f.tree) k → slice_get f.made.answers.uses k ≡ Some u → BeginsAt f offset u.offset
begun f offset k u spots covers at = record {
  number = k;
  covers = covers;
  begins = λ d. (
      let occ : slice_get (file_occs f.tree) k ≡ Some (get_or (file_occs f.tree) k d) = slice_get-get_or (file_occs f.tree) k d covers.0 in
      let both : ◌≡◌ {A = Option (ℕ × Role)} (Some (use_place u)) (Some (occurrence_place (get_or (file_occs f.tree) k d))) =
      sym (slice_get-map use_place f.made.answers.uses k ∙ ap (option_map use_place) at) ∙ (ap (λ l. slice_get l k) spots.places ∙ (slice_get-map occurrence_place (file_occs f.tree) k ∙ ap (option_map occurrence_place) occ)) in
      let same : use_place u ≡ occurrence_place (get_or (file_occs f.tree) k d) = cc in
      sym (ap (λ (p : ℕ × Role). p.0) same)
      );
}

-- of snapshots

module _ (s : SnapshotModel) (all : All AreAllRead s.sources) (whole : IsSnapshot s.sources s.parts s.faults) (path name : List ℕ) (f : FoundFile) (at : IsFileAt s.sources s.parts path name f) where
  pub has_spots : PartHasOccurrences → IsInput f.of_part.input → HasSpots f
  has_spots of_part input =
      let right = all_right s.sources s.parts whole.made at.in_workspace.number f.of_part at.in_workspace.there in
      let files : List SourceModel = f.of_part.input.source.1 in
      let low : f.number < length files = slice_get_within files f.number f.source at.in_package in
      let read : IsRead f.source = subst IsRead (get_or_from_slice_get files f.number f.source f.source at.in_package) (read_there s.sources at.in_workspace.number f.of_part.input.source all right.numbered f.number f.source low) in
      let parse : IsParse f.source.text f.tree = parsed f.source f.tree read at.tree in
      let tree : slice_get (trees_in f.of_part.input.source) f.number ≡ Some f.tree =
      slice_get-map tree_shown (trees_of files) f.number ∙ ap (λ o. option_map tree_shown o) (tree_at files f.number f.source f.tree right.assembled.trees at.in_package at.tree) in
      record {
        listed = tree;
        places = of_part f.of_part.input f.of_part.content input right.made f.number f.tree f.made tree at.made parse.found.tree.wf;
        few = parse.few;
        well = parse.found.tree.wf;
        high = length f.source.text;
        follow = occs_follow f.tree (length f.source.text) parse.placed;
      }

  -- what is told by the packages that are reached is of parts
  pub exports_shown : All ShowsItsExports f.of_part.input.reached
  exports_shown = λ k d lt. (
      let parts : List (Option PartModel) = s.parts in
      let right = all_right s.sources s.parts whole.made at.in_workspace.number f.of_part at.in_workspace.there in
      let told = zip_back (Tells s.parts) right.input.reached.numbers f.of_part.input.reached k (get_or f.of_part.input.reached k d) right.input.reached.told (slice_get-get_or f.of_part.input.reached k d lt) in
      let of_part : PartModel = told.2.of_part in
      subst ShowsItsExports (sym told.2.is) (part_shows of_part.input of_part.content (all_right s.sources s.parts whole.made told.0 of_part told.2.there).made)
      )

-- answers

pub unasked_in : (f : FoundFile) (offset : ℕ) (text : List ℕ) → text ≡ f.source.text → NoneCovers offset (file_occs f.tree) → (rule : Rule) → (rule ≡ M0) ⊎ IsUnused text offset rule → (rule ≡ M0) ⊎ IsUnaskedIn f offset rule
unasked_in f offset text same none rule (inl memory) = inl memory
unasked_in f offset text same none rule (inr h) = inr (none, subst (λ (t : List ℕ). IsUnused t offset rule) same h)

module _ (s : SnapshotModel) (path name : List ℕ) (offset : ℕ) where
  pub is_completion : (f : FoundFile) → IsFileAt s.sources s.parts path name f → (r : List (List ℕ)) → IsCompletionIn f offset r → IsCompletion s path name offset r
  is_completion f at r h = (f, at, h)

  pub is_unasked : (f : FoundFile) → IsFileAt s.sources s.parts path name f → (rule : Rule) → (rule ≡ M0) ⊎ IsUnaskedIn f offset rule → (rule ≡ M0) ⊎ IsUnasked s path name offset rule
  is_unasked f at rule (inl memory) = inl memory
  is_unasked f at rule (inr h) = inr (inr (inr (f, at, h)))

  pub lacks_it : HasNoFile s.sources s.parts path name → (rule : Rule) → IsLacking s path rule → (rule ≡ M0) ⊎ IsUnasked s path name offset rule
  lacks_it none rule (inl h) = inr (inl h)
  lacks_it none rule (inr h) = inr (inr (inl (h.0, (h.1.0, h.1.1, none))))
