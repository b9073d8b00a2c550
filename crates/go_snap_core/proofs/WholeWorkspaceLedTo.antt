-- The check of a package is the same where the same is known of the packages that are led to.
use Rattle.std.proofs.Common.{◌≡◌, ◌++◌, ℕ, suc, Bool, true, false, List, [], ◌∷◌, All, drop, if◌then◌else◌, refl, sym, ap, subst, ◌∙◌}
use Rattle.std.specs.Prelude.{Option, Some, None, Contains, slice_index_or}
use Rattle.std.specs.List.{AllZip, enumerate_from}
use Rattle.go_tree_nodes.specs.Trees.{FileTree}
use Rattle.go_tree_nodes.specs.declared.types.TypeName.{TypeName}
use Rattle.go_term_core.specs.decl_core.declared.keys.DeclKey.{DeclKey}
use Rattle.go_term_core.specs.decl_core.declared.keys.DeclRef.{DeclRef}
use Rattle.go_term_core.specs.decl_core.TopDecls.{top_decls}
use Rattle.go_term_core.specs.Terms.{Term, term_keys}
use Rattle.go_body_core.specs.table_core.Entries.{Entry, find_entry, entry_keys}
use Rattle.go_select_core.specs.type_core.Built.{IsBuilt}
use Rattle.go_select_core.specs.type_core.Laws.{written_keys}
use Rattle.go_body_core.specs.typexpr_core.EntryEntries.{Meanings, entries_with, file_at, package_meanings, package_methods, type_key}
use Rattle.go_body_core.specs.typexpr_core.EntryMeanings.{declared_alone, file_meaning}
use Rattle.go_body_core.specs.typexpr_core.EntryOutlines.{FileOutline, outline_of}
use Rattle.go_body_core.specs.typexpr_core.EntryAmong.{Among}
use Rattle.go_body_core.specs.typexpr_core.AliasesAliases.{alias_ends}
use Rattle.go_body_core.specs.typexpr_core.AliasesLaws.{AreLoopedAliases}
use Rattle.go_report_core.specs.type_faults.TypeFaults.{faults_of_types}
use Rattle.go_report_core.specs.handle_core.Declarations.{Declaration}
use Rattle.go_names_core.specs.local_core.declared.Fault.{Fault}
use Rattle.go_report_core.specs.Faults.{IsSettled}
use Rattle.go_emit_core.specs.declared_core.Faces.{TheFace}
use Rattle.go_emit_core.specs.declared_core.Here.{far_type}
use Rattle.go_emit_core.specs.declared_core.Packages.{PackageFacesModel, face_among, face_by, face_in}
use Rattle.go_emit_core.specs.declared_core.Written.{decls_of, package_written, same_decl_place, written_at}
use Rattle.go_emit_core.specs.declared_core.Locality.{written_are_local}
use Rattle.go_report_core.specs.answer.Outer.{outer_faults}
use Rattle.go_report_core.specs.answer.Shown.{exported_decls, is_decl_listed, package_shown, shown_among, shown_if}
use Rattle.go_snap_core.specs.near.Tables.{AgreeOn}
use Rattle.go_snap_core.specs.near.Functions.{StandsAgree}
use Rattle.go_snap_core.proofs.NearFiles.{file_used, file_breaks, file_declares}
use Rattle.go_emit_core.specs.package_core.PreparePackages.{PackageIn, entries_in, outlines_in, scene_in, shows_in, targets_in, written_in}
use Rattle.go_emit_core.specs.package_core.PrepareTypes.{AreTypes}
use Rattle.go_emit_core.specs.package_core.PrepareValues.{AreDeclared, AreLooped}
use Rattle.go_emit_core.specs.package_core.Checked.{AnswersOf, CheckedOf, IsFileChecked, decls_before, imports_at}
use Rattle.go_emit_core.specs.package_core.Meanings.{one_check}
use Rattle.go_snap_core.specs.whole_workspace.Known.{package_with, CheckGives, KnownAlike, BindsInside, MentionsInside, GivesInside}
use Rattle.go_snap_core.proofs.WholeWorkspaceNames.{AllInside}
use Rattle.go_snap_core.proofs.WholeWorkspaceTargets.{aliases_same, all_same, far_inside, far_same, meaning_inside, meaning_same, meanings_same, raw_same}
use Rattle.go_snap_core.proofs.WholeWorkspaceTypes.{near_of, IsEntryInside, agree, built_over, entries_inside, own_inside, written_inside}
use Rattle.go_snap_core.proofs.WholeWorkspaceFaults.{faults_same}
use Rattle.go_snap_core.proofs.WholeWorkspaceSeeing.{IsFaceInside, IsAnyInside, exported_same, outside_near, outside_same, shown_near}
use Rattle.go_snap_core.proofs.WholeWorkspaceValues.{AreKnownInside, declared_over, known_inside, looped_over, written_at_inside}
use Rattle.go_tree_nodes.specs.Spelling.{IsPlaced}
use Rattle.go_emit_core.specs.package_core.PackagePartParts.{SeenOf}

-- lists

zip_map : {A B : Type 0} (R S : A → B → Type 0) → ((x : A) (y : B) → R x y → S x y) → (xs : List A) (ys : List B) → AllZip R xs ys → AllZip S xs ys
zip_map R S f [] [] h = h
zip_map R S f [] (y ∷ ys) h = h
zip_map R S f (x ∷ xs) [] h = h
zip_map R S f (x ∷ xs) (y ∷ ys) h = (f x y h.0, zip_map R S f xs ys h.1)

-- what is shown is what declarations are

module _ (Is : TheFace → Type 0) where
  shown_all : (these ds : List DeclRef) (known : List (Option TheFace)) → ((n : ℕ) (f : TheFace) → slice_index_or known n None ≡ Some f → Is f)
      → (d : DeclRef) (f : TheFace) → face_among (shown_among these ds known) d ≡ Some f → Is f
  shown_all these [] known h d f e = absurd (let no : None ≡ Some f = e in cc)
  shown_all these (x ∷ ds) [] h d f e = absurd (let no : None ≡ Some f = e in cc)
  shown_all these (x ∷ ds) (o ∷ known) h d f e = by (is_decl_listed these x) o (h 0) (shown_all these ds known (λ n g k. h (suc n) g k) d f) e
    where
      one : (b : Bool) (g : TheFace) → Is g → (face_among (shown_among these ds known) d ≡ Some f → Is f) → (if b then Some g else face_among (shown_among these ds known) d) ≡ Some f → Is f
      one true g is rest same = subst Is (let s : Some g ≡ Some f = same in let t : g ≡ f = cc in t) is
      one false g is rest same = rest same

      by : (b : Bool) (o : Option TheFace) → ((g : TheFace) → o ≡ Some g → Is g) → (face_among (shown_among these ds known) d ≡ Some f → Is f) → face_among (shown_if b x o ++ shown_among these ds known) d ≡ Some f → Is f
      by b None k rest same = rest same
      by true (Some g) k rest same = one (same_decl_place x d) g (k g refl) rest same
      by false (Some g) k rest same = rest same

module _ (Inside : List ℕ → Type 0) (p : PackageIn) (one other : SeenOf) (c : CheckedOf) (placed : All IsPlaced p.trees) (own : Inside p.path) (binds : BindsInside Inside p.blocks)
    (mentions : MentionsInside Inside (λ from to. Inside to) one) (alike : KnownAlike Inside one other) (given : CheckGives p one c) where
  abbrev here : PackageIn
  here = package_with p one

  abbrev there : PackageIn
  there = package_with p other

  abbrev mine : List Entry
  mine = one.types ++ c.types

  abbrev theirs : List Entry
  theirs = other.types ++ c.types

  abbrev os : List FileOutline
  os = outlines_in p

  -- what names of types mean

  abbrev means : Meanings
  means = package_meanings (shows_in here) p.path p.blocks

  abbrev meant : Meanings
  meant = package_meanings (shows_in there) p.path p.blocks

  faces_in : (path : List ℕ) (d : DeclRef) (f : TheFace) → Inside path → face_in one.faces path d ≡ Some f → IsFaceInside Inside f
  faces_in path d f h is = λ j at. mentions.faces path d f j h is at

  far_in : (k : DeclKey) → Inside k.path → AllInside Inside (term_keys (far_type one.faces k))
  far_in k h = far_inside Inside one.faces faces_in k h

  alike_far : (k : DeclKey) → Inside k.path → far_type one.faces k ≡ far_type other.faces k
  alike_far k h = far_same Inside one.faces other.faces alike.declared k h

  named : (file : ℕ) (n : TypeName) → AllInside Inside (term_keys (means file n))
  named file n = meaning_inside Inside p.path p.blocks os own binds one.shows (far_type one.faces) far_in file n

  named_same : (file : ℕ) (n : TypeName) → means file n ≡ meant file n
  named_same file n = meaning_same Inside p.path p.blocks os own binds one.shows other.shows alike.shows (far_type one.faces) (far_type other.faces) alike_far file n

  means_same : means ≡ meant
  means_same = meanings_same Inside p.path p.blocks os own binds one.shows other.shows alike.shows (far_type one.faces) (far_type other.faces) alike_far

  -- what they denote

  abbrev raws : Meanings
  raws = package_meanings (declared_alone one.shows) p.path p.blocks

  abbrev denoted : Meanings
  denoted = package_meanings (declared_alone other.shows) p.path p.blocks

  raws_same : raws ≡ denoted
  raws_same = raw_same Inside p.path p.blocks os own binds one.shows other.shows alike.shows

  -- the types that it declares, as they are written

  entries : (e : Entry) → Among (entries_in here) e → IsEntryInside Inside e
  entries e at = entries_inside Inside means p.path os named own e at

  written_types : AllInside Inside (written_keys (entries_in here))
  written_types = written_inside Inside (entries_in here) entries

  entries_same : entries_in here ≡ entries_in there
  entries_same = λ j. entries_with (means_same j) p.path (package_methods (means_same j) p.path os) os

  -- its types

  types_in : (k : DeclKey) (e : Entry) → Inside k.path → find_entry one.types k ≡ Some e → AllInside Inside (entry_keys e)
  types_in k e h is = λ j at. mentions.types k e j h is at

  pub types_inside : (e : Entry) → Contains c.types e → AllInside Inside (entry_keys e)
  types_inside e at = own_inside Inside one.types other.types (entries_in here) c.types given.types.loops written_types given.types.built types_in e at

  tables : AgreeOn (near_of Inside) mine theirs
  tables = agree Inside one.types other.types (entries_in here) c.types given.types.loops written_types given.types.built types_in alike.types

  built : IsBuilt (find_entry other.types) (entries_in there) c.types given.types.loops
  built =
      subst (λ (ws : List Entry). IsBuilt (find_entry other.types) ws c.types given.types.loops) entries_same
      (built_over Inside one.types other.types (entries_in here) c.types given.types.loops written_types given.types.built types_in alike.types)

  -- the aliases that reach themselves

  aliases_over : AreLoopedAliases (written_in there) (targets_in there) given.types.looped
  aliases_over =
      subst (λ (ws : List Entry). AreLoopedAliases ws (targets_in there) given.types.looped) (all_same Inside p.path p.blocks os own binds one.shows other.shows alike.shows)
      (subst (λ (xs : List (DeclRef × Term)). AreLoopedAliases (written_in here) (alias_ends xs p.path) given.types.looped) (aliases_same Inside p.path p.blocks os own binds one.shows other.shows alike.shows)
      given.types.looped_are)

  faults_over : given.type_faults ≡ faults_of_types theirs denoted meant p.path os (entries_in there) given.types.looped given.types.loops
  faults_over =
      given.types.faults_are
      ∙ (faults_same Inside mine theirs tables.same raws means named p.path os (entries_in here) given.types.looped given.types.loops entries
      ∙ (λ j. faults_of_types theirs (raws_same j) (means_same j) p.path os (entries_with (means_same j) p.path (package_methods (means_same j) p.path os) os) given.types.looped given.types.loops))

  types_over : AreTypes there other.types c.types given.type_faults
  types_over = record { loops = given.types.loops; built = built; looped = given.types.looped; looped_are = aliases_over; faults_are = faults_over }

  -- its declarations as they are written

  written_same : package_written (shows_in here) p.path p.blocks mine os ≡ package_written (shows_in there) p.path p.blocks theirs os
  written_same = written_are_local (shows_in here) (shows_in there) p.path p.blocks p.blocks mine theirs os (λ n o x at h. named_same n x) (record {
    own = λ n o d t at form. tables.same (type_key (file_at p.path n o) d.number) own;
    named = λ n o x k at h m. tables.same k (named n x k m);
  })

  each_written : (n : ℕ) → IsAnyInside Inside (written_at (package_written (shows_in here) p.path p.blocks mine os) n)
  each_written n = written_at_inside Inside means p.path mine os named own n

  -- what names stand for

  stands : (known : List (Option TheFace)) → AreKnownInside Inside known → (n : ℕ) (o : FileOutline)
      → StandsAgree (near_of Inside) (file_at p.path n o) (scene_in here mine) (scene_in there theirs) known known (file_meaning (shows_in here) p.path p.blocks n) (file_meaning (shows_in there) p.path p.blocks n)
  stands known h n o =
      let s = scene_in here mine in
      let t = scene_in there theirs in
      record {
        scenes = record {
          path = refl;
          types = tables;
          exported = exported_same Inside s t refl refl written_same alike.faces alike.declared binds;
          exported_near = shown_near Inside one.faces faces_in s refl;
        };
        names = λ name. refl;
        outside = outside_same Inside s t refl refl written_same alike.faces alike.declared binds n known;
        outside_near = outside_near Inside one.faces faces_in s refl binds n known h;
        meanings = named_same n;
        meanings_near = named n;
      }

  -- what its declarations are

  known_in : AreKnownInside Inside c.declared
  known_in = known_inside Inside p one other mine theirs placed written_same each_written stands c.declared given.declared

  declared : AreDeclared there theirs c.declared
  declared = declared_over Inside p one other mine theirs placed written_same each_written stands c.declared given.declared

  constants : AreLooped there theirs given.looped
  constants = looped_over Inside p one other mine theirs placed written_same each_written stands given.looped given.constants

  -- its files

  file_over : (f : ℕ × FileTree) (a : AnswersOf) → IsFileChecked here mine c.declared given.type_faults given.looped f a → IsFileChecked there theirs c.declared given.type_faults given.looped f a
  file_over f a h =
      let o = outline_of f.1 in
      let s = scene_in here mine in
      let t = scene_in there theirs in
      let top = file_meaning (shows_in here) p.path p.blocks f.0 in
      let under = file_meaning (shows_in there) p.path p.blocks f.0 in
      let law = stands c.declared known_in f.0 o in
      let file = file_at p.path f.0 o in
      let breaks = file_breaks (near_of Inside) file s t c.declared c.declared top under law f.1 in
      record {
        uses = h.uses ∙ file_used (near_of Inside) file s t c.declared c.declared top under law (imports_at p f.0) f.1;
        settled =
            subst (λ (fs : List Fault). IsSettled Declaration (List ℕ) a.uses fs a.faults)
            (λ j. breaks j ++ outer_faults f.0 p.blocks given.type_faults (top_decls f.1) (drop (decls_before p f.0) given.looped)) h.settled;
        locals = h.locals ∙ file_declares (near_of Inside) file s t c.declared c.declared top under law f.1;
      }

  -- all of it

  pub given_over : CheckGives p other c
  given_over = record {
    type_faults = given.type_faults;
    types = types_over;
    declared = declared;
    looped = given.looped;
    constants = constants;
    files =
        zip_map (IsFileChecked here mine c.declared given.type_faults given.looped) (IsFileChecked there theirs c.declared given.type_faults given.looped) file_over (enumerate_from 0 p.trees) c.files given.files;
    faces = given.faces ∙ (λ j. package_shown p.path p.blocks (decls_of (written_same j)) c.declared);
  }

  -- what is shown

  known_item : (n : ℕ) (f : TheFace) → slice_index_or c.declared n None ≡ Some f → IsFaceInside Inside f
  known_item n f e = subst (IsAnyInside Inside) e (known_in n)

  pub faces_inside : (d : DeclRef) (f : TheFace) → face_by c.faces d ≡ Some f → IsFaceInside Inside f
  faces_inside d f e =
      let written = decls_of (scene_in here mine).written in
      shown_all (IsFaceInside Inside) (exported_decls p.blocks.names) written c.declared known_item d f (ap (λ (q : PackageFacesModel). face_by q d) (sym given.faces) ∙ e)

  pub gives_inside : GivesInside Inside c
  gives_inside = record { types = λ e j at m. types_inside e at j m; faces = λ d f j e m. faces_inside d f e j m }

-- the same is known of what is known
pub alike_itself : (Inside : List ℕ → Type 0) (k : SeenOf) → KnownAlike Inside k k
alike_itself Inside k = record { types = λ key h. refl; shows = λ path name h. refl; faces = λ path name h. refl; declared = λ path d h. refl }

-- two answers

pub one_given : (Inside : List ℕ → Type 0) (p : PackageIn) (one other : SeenOf) (c d : CheckedOf) → All IsPlaced p.trees → Inside p.path → BindsInside Inside p.blocks
    → MentionsInside Inside (λ from to. Inside to) one → KnownAlike Inside one other → CheckGives p one c → CheckGives p other d → c ≡ d
one_given Inside p one other c d placed own binds mentions alike given found =
    one_check (package_with p other) other.types c d placed (given_over Inside p one other c placed own binds mentions alike given) found
