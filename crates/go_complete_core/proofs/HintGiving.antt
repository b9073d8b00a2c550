-- The names at a place are those for the identifier.
use Rattle.std.proofs.Common.{◌≡◌, ℕ, zero, suc, ◌≤◌, Bool, true, List, [], ◌∷◌, ◌++◌, length, map, Option, Some, None, refl, sym, ap, ◌∙◌, subst, arith}
use Rattle.std.specs.Prelude.{slice_get}
use Rattle.std.specs.Borrow.{Bor}
use Rattle.std.specs.Option.{option_map}
use Rattle.std.specs.Slice.{IsItemAt}
use Rattle.std.proofs.lemmas.Option.{slice_get-map, slice_get_read}
use Rattle.go_tree_nodes.specs.declared.names.Ident.{Ident}
use Rattle.go_tree_nodes.specs.Trees.{FileTree}
use Rattle.go_tree_nodes.specs.Spelling.{IsPlaced}
use Rattle.go_graph_core.specs.Workspaces.{PackageModel}
use Rattle.go_graph_core.proofs.OutcomeLaws.{all_at_place}
use Rattle.go_term_core.specs.decl_core.declared.places.Place.{Place}
use Rattle.go_term_core.specs.decl_core.declared.tops.Outline.{Outline}
use Rattle.go_names_core.specs.block_core.Blocks.{BlocksModel}
use Rattle.go_names_core.specs.block_core.Exports.{ExportsModel}
use Rattle.go_names_core.specs.block_core.declared.imports.Imported.{Imported}
use Rattle.go_term_core.specs.Terms.{Term}
use Rattle.go_type_core.specs.table_core.Entries.{Entry}
use Rattle.go_typexpr_core.specs.entry.Meanings.{Shows, file_meaning}
use Rattle.go_typexpr_core.specs.entry.Outlines.{FileOutline, outline_of, outline_shown}
use Rattle.go_typexpr_core.specs.entry.Showing.{shown_in}
use Rattle.go_names_core.specs.local_core.Binding.{NameLook}
use Rattle.go_names_core.specs.local_core.mirrors.Walk.{Names}
use Rattle.go_cursor_core.specs.denote_core.declared.things.Dot.TheVariants as dots
use Rattle.go_cursor_core.specs.denote_core.declared.things.Outcome.{Outcome}
use Rattle.go_cursor_core.specs.denote_core.declared.things.Outcome.TheVariants as outcomes
use Rattle.go_candidate_core.specs.handle_core.Declarations.{Declaration}
use Rattle.go_candidate_core.specs.context.Laws as context
use Rattle.go_stmt_core.specs.expr_core.Uses.{Context, NameAt, SelectorBehind, KeyAmong, rule}
use Rattle.go_package_core.specs.env_core.declared.meaning.Meaning.{Meaning}
use Rattle.go_package_core.specs.env_core.Looks.{TheLooks}
use Rattle.go_package_core.specs.body_core.FunctionStands.{FileStand, looks_where}
use Rattle.go_cursor_core.specs.Used.{SpotTree}
use Rattle.go_cursor_core.specs.Contexts.{context_of_spot}
use Rattle.go_cursor_core.specs.Opened.{FileUsed}
use Rattle.go_candidate_core.specs.after_dot.Names as behind
use Rattle.go_candidate_core.specs.after_dot.Names.{AreNames}
use Rattle.go_candidate_core.specs.at_place.Arounds.{ListsAround, rests_on_types}
use Rattle.go_package_core.specs.prepare.Packages.{PackageIn, outlines_in, shows_in, stand_in, trees_in}
use Rattle.go_package_core.proofs.Steps.{outline_there}
use Rattle.go_candidate_core.specs.declared_core.Faces.{TheFace}
use Rattle.go_candidate_core.specs.declared_core.Packages.{PackageFacesModel}
use Rattle.go_candidate_core.specs.declared_core.Written.{WrittenOf}
use Rattle.go_package_core.specs.summary_core.Views.{exports_told, faces_told}
use Rattle.go_package_core.specs.declared.package_part.files.PartFile.{PartFile}
use Rattle.go_package_core.specs.package_part.Inputs.{InputModel}
use Rattle.go_package_core.specs.package_part.Parts.{FileOf, IsPart, PartModel, file_shown, package_seen, seen_by}
use Rattle.go_complete_core.specs.place.Completed.{names_placed}
use Rattle.go_complete_core.specs.place.Completions.{AreNamesFor, is_of_types, stand_of}
use Rattle.go_complete_core.specs.views.Imported.{seen_by_imports, told_by_imports}
use Rattle.go_complete_core.specs.views.Laws.{ImportsDecide, looks_with, stand_seeing}
use Rattle.go_complete_core.specs.hint.Hints.{AreNamesByTypes, AreNamesWith, IsSeen, written_of}
use Rattle.go_complete_core.specs.hint.Kept.{open_by}
use Rattle.go_package_core.specs.body_core.Notes.{TheLocal}
use Rattle.go_complete_core.proofs.HintStanding.{open_there, locals_kept, file_there}

abbrev pub package_of : PackageModel → BlocksModel → List (List Imported) → List ExportsModel → List PackageFacesModel → PackageIn
package_of source b imports shown faces = record { path = source.0; trees = trees_in source; blocks = b; imports = imports; shows = shown_in shown; others = faces }

declared_same : {D P : Type 0} (o : Outcome D P) → context.is_declared o ≡ behind.is_declared o
declared_same (outcomes.Declared d) = refl
declared_same (outcomes.Selected d path) = refl
declared_same (outcomes.Refused rule) = refl

types_same : (c : Context Term Declaration) → rests_on_types c ≡ is_of_types c
types_same (NameAt p) = refl
types_same (SelectorBehind u (dots.«Package» d)) = refl
types_same (SelectorBehind u dots.Refused) = refl
types_same (SelectorBehind u dots.Untyped) = refl
types_same (SelectorBehind u (dots.«Value» o)) = refl
types_same (KeyAmong k) = refl

-- at a file's own stand, with the names that are placed there
at_stand : (st : FileStand) (names : NameLook Meaning) (sp : SpotTree) (x : Ident) (found : List (List ℕ)) → ListsAround (looks_where st names) sp found
    → is_of_types (context_of_spot (looks_where st names) sp) ≡ true → AreNamesFor st names (context_of_spot (looks_where st names) sp) x found
at_stand st names sp x found lists h =
    let c = context_of_spot (looks_where st names) sp in
    let are = lists (types_same c ∙ h) x.span.start in
    record {
      rising = are.rising;
      each = λ m. (
        (λ i. declared_same (rule (looks_where st names) c x.span.start m) ∙ (are.each m).0 i),
        (λ e. (are.each m).1 (sym (declared_same (rule (looks_where st names) c x.span.start m)) ∙ e)),
      );
    }

-- the same names by look-ups to which the identifier stands in the same context, and which say the same of each name there
lists_alike : (looks others : TheLooks) (s : SpotTree) (found : List (List ℕ)) → context_of_spot looks s ≡ context_of_spot others s
    → ((offset : ℕ) (name : List ℕ) → rule looks (context_of_spot looks s) offset name ≡ rule others (context_of_spot looks s) offset name) → ListsAround looks s found → ListsAround others s found
lists_alike looks others s found context rules lists = λ rests offset.
    let same : (name : List ℕ) → rule looks (context_of_spot looks s) offset name ≡ rule others (context_of_spot others s) offset name = λ name. rules offset name ∙ ap (λ c. rule others c offset name) context in
    subst (λ (passes : List ℕ → Bool). AreNames passes found) (λ j name. behind.is_declared (same name j)) (lists (ap rests_on_types context ∙ rests) offset)

module _ (decide : ImportsDecide) (p : PartModel) (q : PackageIn) (types : List Entry) (seen : IsSeen p q types) (n : ℕ) (u : FileUsed) (found : List (List ℕ)) where
  -- the stand of a file of the package is that of the part, but for what is known of packages that no import comes to
  stand_same : (f : FileTree) (made : IsPart p.input p.content)
      → stand_in q types p.content.declared n (outline_of f) ≡ stand_seeing p.input p.content.blocks (seen_by_imports p.input) ((seen_by p.input).types ++ made.checked.types) made.checked.declared n (outline_of f)
  stand_same f made =
      let package_is = seen.seen in
      let all_types : types ≡ (seen_by p.input).types ++ made.checked.types = seen.types_are ∙ ap (λ (es : List Entry). (seen_by p.input).types ++ es) (ap (λ s. s.types.entries) made.summary) in
      λ i. stand_in (package_is i) (all_types i) (made.declared i) n (outline_of f)

  -- so the names are those by the part's own stand
  lists_there : (f : FileTree) (made : IsPart p.input p.content) (locals : Names Meaning) → ListsAround (looks_with (stand_in q types p.content.declared n (outline_of f)) locals) u.used.spot found → ListsAround (looks_with (stand_of p made n f) locals) u.used.spot found
  lists_there f made locals lists =
      let all_types = (seen_by p.input).types ++ made.checked.types in
      let known = made.checked.declared in
      let o = outline_of f in
      lists_alike (looks_with (stand_seeing p.input p.content.blocks (seen_by_imports p.input) all_types known n o) locals) (looks_with (stand_of p made n f) locals) u.used.spot found
      (decide.contexts p.input p.content.blocks all_types known n o locals u.used.spot seen.input made.blocks)
      (λ offset name. decide.rules p.input p.content.blocks all_types known n o locals u.used.spot offset name seen.input made.blocks)
      (subst (λ (s : FileStand). ListsAround (looks_with s locals) u.used.spot found) (stand_same f made) lists)

  pub given : (f : FileTree) → slice_get (trees_in p.input.source) n ≡ Some f → IsPlaced f → (locals : Names Meaning) → ((m : FileOf) → slice_get p.content.files n ≡ Some m → locals ≡ open_by m.answers.locals u.open_names)
      → ListsAround (looks_with (stand_in q types p.content.declared n (outline_of f)) locals) u.used.spot found → AreNamesByTypes p n f u found
  given f there tokens locals open_now lists made placed h =
      let st : FileStand = stand_of p made n f in
      let file = file_there p made n f there in
      let kept = locals_kept p made n f there file.0 file.1 in
      let same : locals ≡ placed.meant = open_now file.0 file.1 ∙ (ap (λ ls. open_by ls u.open_names) kept ∙ sym (open_there st f tokens u placed)) in
      let two : ListsAround (looks_with st placed.meant) u.used.spot found = subst (λ (ls : Names Meaning). ListsAround (looks_with st ls) u.used.spot found) same (lists_there f made locals lists) in
      at_stand st (names_placed st f u placed) u.used.spot u.used.ident found two h

-- where a file of a package stands, by what is made for it
abbrev pub made_stand : PackageIn → List Entry → List (Option TheFace) → Shows → List ℕ → List WrittenOf → ℕ → List Place → FileStand
made_stand q types known shows home written n places = record {
  scene = record { path = home; blocks = q.blocks; types = types; others = q.others; written = written };
  known = known;
  file = record { path = home; file = n; places = places };
  top = file_meaning shows home q.blocks n;
}

module _ (p : PartModel) (q : PackageIn) (types : List Entry) (seen : IsSeen p q types) (n : ℕ) where
  in_package : (f : FileTree) → slice_get (trees_in p.input.source) n ≡ Some f → slice_get q.trees n ≡ Some f
  in_package f there = ap (λ (x : PackageIn). slice_get x.trees n) seen.seen ∙ there

  stand_there : (known : List (Option TheFace)) (shows : Shows) (home : List ℕ) (written : List WrittenOf) (o : FileOutline) (f : FileTree) → known ≡ p.content.declared → shows ≡ shows_in q → home ≡ q.path → written ≡ written_of q types
      → slice_get (outlines_in q) n ≡ Some o → slice_get (trees_in p.input.source) n ≡ Some f
      → made_stand q types known shows home written n o.places ≡ stand_in q types p.content.declared n (outline_of f)
  stand_there known shows home written o f of_known of_shows of_home of_written at there =
      let same : o ≡ outline_of f = (let e : Some o ≡ Some (outline_of f) = sym at ∙ outline_there q n f (in_package f there) in cc) in
      λ i. made_stand q types (of_known i) (of_shows i) (of_home i) (of_written i) n (same i).places

  module _ (u : FileUsed) where
    -- by the outline and what is kept
    pub named : ImportsDecide → (found : List (List ℕ)) (known : List (Option TheFace)) (shows : Shows) (home : List ℕ) (written : List WrittenOf) (o : FileOutline) (m : FileOf) → known ≡ p.content.declared → shows ≡ shows_in q → home ≡ q.path → written ≡ written_of q types
        → slice_get (outlines_in q) n ≡ Some o → slice_get p.content.files n ≡ Some m
        → ListsAround (looks_with (made_stand q types known shows home written n o.places) (open_by m.answers.locals u.open_names)) u.used.spot found
        → AreNamesWith p n u found
    named decide found known shows home written o m of_known of_shows of_home of_written at kept lists = λ f there.
        let locals : Names Meaning = open_by m.answers.locals u.open_names in
        let now : (x : FileOf) → slice_get p.content.files n ≡ Some x → locals ≡ open_by x.answers.locals u.open_names =
        (λ x here. (let e : Some m ≡ Some x = sym kept ∙ here in let same : m ≡ x = cc in ap (λ (y : FileOf). open_by y.answers.locals u.open_names) same)) in
        given decide p q types seen n u found f there (all_at_place IsPlaced q.trees n f seen.placed (in_package f there)) locals now
        (subst (λ (st : FileStand). ListsAround (looks_with st locals) u.used.spot found) (stand_there known shows home written o f of_known of_shows of_home of_written at there) lists)

    -- by places and locals that are those of the outline and of what is kept
    pub named_by : ImportsDecide → (found : List (List ℕ)) (known : List (Option TheFace)) (shows : Shows) (home : List ℕ) (written : List WrittenOf) (places : List Place) (locals : List TheLocal) (o : FileOutline) (m : FileOf)
        → known ≡ p.content.declared → shows ≡ shows_in q → home ≡ q.path → written ≡ written_of q types → places ≡ o.places → locals ≡ m.answers.locals
        → slice_get (outlines_in q) n ≡ Some o → slice_get p.content.files n ≡ Some m
        → ListsAround (looks_with (made_stand q types known shows home written n places) (open_by locals u.open_names)) u.used.spot found
        → AreNamesWith p n u found
    named_by decide found known shows home written places locals o m of_known of_shows of_home of_written of_places of_locals at kept lists =
        let one : ListsAround (looks_with (made_stand q types known shows home written n o.places) (open_by locals u.open_names)) u.used.spot found =
        subst (λ (ps : List Place). ListsAround (looks_with (made_stand q types known shows home written n ps) (open_by locals u.open_names)) u.used.spot found) of_places lists in
        named decide found known shows home written o m of_known of_shows of_home of_written at kept
        (subst (λ (ls : List TheLocal). ListsAround (looks_with (made_stand q types known shows home written n o.places) (open_by ls u.open_names)) u.used.spot found) of_locals one)

    -- without an outline, and without anything kept, there is no such file
    pub no_outline : (found : List (List ℕ)) (os : List Outline) → map outline_shown os ≡ outlines_in q → slice_get os n ≡ None → AreNamesWith p n u found
    no_outline found os is none = λ f there.
        let e : None ≡ Some (outline_of f) = sym (ap (option_map outline_shown) none) ∙ (sym (slice_get-map outline_shown os n) ∙ (ap (λ (l : List FileOutline). slice_get l n) is ∙ outline_there q n f (in_package f there))) in
        absurd cc

    pub nothing_kept : (found : List (List ℕ)) (fs : List PartFile) → map file_shown fs ≡ p.content.files → slice_get fs n ≡ None → AreNamesWith p n u found
    nothing_kept found fs is none = λ f there made placed rests.
        let file = file_there p made n f there in
        let e : None ≡ Some file.0 = sym (ap (option_map file_shown) none) ∙ (sym (slice_get-map file_shown fs n) ∙ (ap (λ (l : List FileOf). slice_get l n) is ∙ file.1)) in
        absurd cc

past : {X : Type 0} (xs : List X) (i : ℕ) → length xs ≤ i → slice_get xs i ≡ None
past [] i h = refl
past (y ∷ xs) zero h = absurd (omega (arith, h))
past (y ∷ xs) (suc i) h = past xs i (omega (arith, h))

-- what a slice lends at a number is what stands there
pub item_there : {X : Type 0} (xs : List X) (i : ℕ) (r : Option (Bor X)) (b : Bor X) → IsItemAt xs i r → r ≡ Some b → slice_get xs i ≡ Some b.now
item_there {X} xs i r b h e =
    let k : IsItemAt xs i (Some b) = subst (λ (s : Option (Bor X)). IsItemAt xs i s) e h in
    slice_get_read xs (length xs) i b.now refl k.3.0 k.1

pub item_none : {X : Type 0} (xs : List X) (i : ℕ) (r : Option (Bor X)) → IsItemAt xs i r → r ≡ None → slice_get xs i ≡ None
item_none {X} xs i r h e =
    let k : IsItemAt xs i None = subst (λ (s : Option (Bor X)). IsItemAt xs i s) e h in
    past xs i k.3

-- one that is there is among those shown
pub outline_at : (os : List Outline) (all : List FileOutline) (n : ℕ) (o : Outline) → map outline_shown os ≡ all → slice_get os n ≡ Some o → slice_get all n ≡ Some (outline_shown o)
outline_at os all n o is at = sym (ap (λ (l : List FileOutline). slice_get l n) is) ∙ (slice_get-map outline_shown os n ∙ ap (option_map outline_shown) at)

pub kept_there : (fs : List PartFile) (all : List FileOf) (n : ℕ) (m : PartFile) → map file_shown fs ≡ all → slice_get fs n ≡ Some m → slice_get all n ≡ Some (file_shown m)
kept_there fs all n m is at = sym (ap (λ (l : List FileOf). slice_get l n) is) ∙ (slice_get-map file_shown fs n ∙ ap (option_map file_shown) at)

-- a package as a part sees it that knows of other packages what those show that its imports come to
pub is_package : (i : InputModel) (source : PackageModel) (b blocks : BlocksModel) (imports : List (List Imported)) (shown : List ExportsModel) (faces : List PackageFacesModel)
    → source ≡ i.source → b ≡ blocks → imports ≡ i.imports → shown ≡ exports_told (told_by_imports i) → faces ≡ faces_told (told_by_imports i)
    → package_of source b imports shown faces ≡ package_seen i blocks (seen_by_imports i)
is_package i source b blocks imports shown faces of_source of_blocks of_imports of_shown of_faces = λ j. package_of (of_source j) (of_blocks j) (of_imports j) (of_shown j) (of_faces j)
