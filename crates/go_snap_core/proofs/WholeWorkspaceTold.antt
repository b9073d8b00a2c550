-- What is known by summaries, and what it mentions.
use Rattle.std.proofs.Common.{◌≡◌, ℕ, ◌⊎◌, inl, inr, Bool, true, false, List, [], ◌∷◌, All, if◌then◌else◌, refl, sym, subst, ◌∙◌}
use Rattle.std.specs.Prelude.{Some, None, Contains}
use Rattle.go_term_core.specs.decl_core.declared.keys.DeclKey.{DeclKey}
use Rattle.go_term_core.specs.decl_core.declared.keys.DeclRef.{DeclRef}
use Rattle.go_graph_core.specs.Packages.{Trees}
use Rattle.go_names_core.specs.block_core.Blocks.{AreBlocks}
use Rattle.go_names_core.specs.block_core.Naming.{package_named}
use Rattle.go_body_core.specs.table_core.Entries.{Entry, entry_keys, find_entry, same_key}
use Rattle.go_body_core.specs.typexpr_core.EntryShowing.{shown_in}
use Rattle.go_body_core.specs.typexpr_core.EntryAmong.{Among, among_to}
use Rattle.go_emit_core.specs.declared_core.Faces.{TheFace}
use Rattle.go_emit_core.specs.declared_core.Packages.{exported_in, face_by, face_in}
use Rattle.go_report_core.specs.summary_core.Summaries.{SummaryModel, IsOfOne, path_of}
use Rattle.go_report_core.specs.summary_core.Views.{PathsAreApart, exports_told, faces_told, types_told}
use Rattle.go_report_core.specs.summary_core.Telling.{nothing_else, views_tell}
use Rattle.go_emit_core.specs.package_core.PreparePackages.{PackageIn}
use Rattle.go_names_core.specs.block_core.declared.binding.Target.{Target}
use Rattle.go_names_core.specs.block_core.declared.binding.Target.TheVariants as targets
use Rattle.go_snap_core.specs.whole_workspace.Known.{IsImportedPath, IsTargetIn, KnownAlike, MentionsInside, face_keys}
use Rattle.go_snap_core.specs.whole_workspace.LocalLaws.{ImportsBindTheirs, StandsAmong}
use Rattle.go_tree_nodes.specs.Spelling.{IsPlaced}
use Rattle.go_emit_core.specs.package_core.PackagePartParts.{SeenOf}

-- what summaries tell, as what is known of other packages
abbrev pub known_by : List SummaryModel → SeenOf
known_by ss = record { types = types_told ss; shows = shown_in (exports_told ss); faces = faces_told ss }

-- summaries of different packages, all of each of one package
pub record AreWell (ss : List SummaryModel) : Type 0 where
  pub apart : PathsAreApart ss
  pub own : All IsOfOne ss

-- none of these is of the package of the path
abbrev pub NoneIsOf : List SummaryModel → List ℕ → Type 0
NoneIsOf ss path = All (λ s. path ≡ path_of s → ⊥) ss

-- one summary of the package of the path is in both lists
pub record IsInBoth (ss ts : List SummaryModel) (path : List ℕ) : Type 0 where
  pub summary : SummaryModel
  pub one : Contains ss summary
  pub other : Contains ts summary
  pub is : path_of summary ≡ path

abbrev pub TellAlike : List SummaryModel → List SummaryModel → List ℕ → Type 0
TellAlike ss ts path = IsInBoth ss ts path ⊎ (NoneIsOf ss path × NoneIsOf ts path)

module _ (ss ts : List SummaryModel) (one : AreWell ss) (other : AreWell ts) where
  types_alike : (k : DeclKey) → TellAlike ss ts k.path → find_entry (types_told ss) k ≡ find_entry (types_told ts) k
  types_alike k (inl b) = (views_tell ss b.summary one.apart one.own b.one).types k (sym b.is) ∙ sym ((views_tell ts b.summary other.apart other.own b.other).types k (sym b.is))
  types_alike k (inr n) = (nothing_else ss k.path one.own n.0).types k refl ∙ sym ((nothing_else ts k.path other.own n.1).types k refl)

  shows_alike : (path name : List ℕ) → TellAlike ss ts path → shown_in (exports_told ss) path name ≡ shown_in (exports_told ts) path name
  shows_alike path name (inl b) =
      subst (λ (x : List ℕ). shown_in (exports_told ss) x name ≡ shown_in (exports_told ts) x name) b.is
      ((views_tell ss b.summary one.apart one.own b.one).names name ∙ sym ((views_tell ts b.summary other.apart other.own b.other).names name))
  shows_alike path name (inr n) = (nothing_else ss path one.own n.0).names name ∙ sym ((nothing_else ts path other.own n.1).names name)

  faces_alike : (path name : List ℕ) → TellAlike ss ts path → exported_in (faces_told ss) path name ≡ exported_in (faces_told ts) path name
  faces_alike path name (inl b) =
      subst (λ (x : List ℕ). exported_in (faces_told ss) x name ≡ exported_in (faces_told ts) x name) b.is
      ((views_tell ss b.summary one.apart one.own b.one).faces name ∙ sym ((views_tell ts b.summary other.apart other.own b.other).faces name))
  faces_alike path name (inr n) = (nothing_else ss path one.own n.0).faces name ∙ sym ((nothing_else ts path other.own n.1).faces name)

  declared_alike : (path : List ℕ) (d : DeclRef) → TellAlike ss ts path → face_in (faces_told ss) path d ≡ face_in (faces_told ts) path d
  declared_alike path d (inl b) =
      subst (λ (x : List ℕ). face_in (faces_told ss) x d ≡ face_in (faces_told ts) x d) b.is
      ((views_tell ss b.summary one.apart one.own b.one).declared d ∙ sym ((views_tell ts b.summary other.apart other.own b.other).declared d))
  declared_alike path d (inr n) = (nothing_else ss path one.own n.0).declared d ∙ sym ((nothing_else ts path other.own n.1).declared d)

  -- summaries that tell the same of some packages make the same of them known
  pub known_alike : (Inside : List ℕ → Type 0) → ((path : List ℕ) → Inside path → TellAlike ss ts path) → KnownAlike Inside (known_by ss) (known_by ts)
  known_alike Inside f = record {
    types = λ k h. types_alike k (f k.path h);
    shows = λ path name h. shows_alike path name (f path h);
    faces = λ path name h. faces_alike path name (f path h);
    declared = λ path d h. declared_alike path d (f path h);
  }

-- what is mentioned

-- the types and the faces of a summary mention types of these packages
pub record IsTold (Inside : List ℕ → Type 0) (s : SummaryModel) : Type 0 where
  pub types : (e : Entry) (j : DeclKey) → Contains s.types.entries e → Contains (entry_keys e) j → Inside j.path
  pub faces : (d : DeclRef) (f : TheFace) (j : DeclKey) → face_by s.faces d ≡ Some f → Contains (face_keys f) j → Inside j.path

pub told_wider : (Inside Wider : List ℕ → Type 0) → ((path : List ℕ) → Inside path → Wider path) → (s : SummaryModel) → IsTold Inside s → IsTold Wider s
told_wider Inside Wider f s h = record {
  types = λ e j at in_entry. f j.path (h.types e j at in_entry);
  faces = λ d g j at in_face. f j.path (h.faces d g j at in_face);
}

-- a list has a summary of the package of the path, which mentions types of these packages, or none of that path
pub record IsToldOf (Inside : List ℕ → Type 0) (ss : List SummaryModel) (path : List ℕ) : Type 0 where
  pub summary : SummaryModel
  pub there : Contains ss summary
  pub is : path_of summary ≡ path
  pub inside : IsTold Inside summary

find_among : (es : List Entry) (k : DeclKey) (e : Entry) → find_entry es k ≡ Some e → Among es e
find_among [] k e h = absurd (let no : None ≡ Some e = h in cc)
find_among (x ∷ es) k e h = by (same_key x.key k) (λ rest. find_among es k e rest) h
  where
    by : (b : Bool) → (find_entry es k ≡ Some e → Among es e) → (if b then Some x else find_entry es k) ≡ Some e → (x ≡ e) ⊎ Among es e
    by true rest same = inl (let s : Some x ≡ Some e = same in let t : x ≡ e = cc in t)
    by false rest same = inr (rest same)

module _ (Inside : List ℕ → Type 0) (ss : List SummaryModel) (well : AreWell ss) (of : (path : List ℕ) → Inside path → IsToldOf Inside ss path ⊎ NoneIsOf ss path) where
  types_mention : (key : DeclKey) (e : Entry) (j : DeclKey) → IsToldOf Inside ss key.path ⊎ NoneIsOf ss key.path → find_entry (types_told ss) key ≡ Some e → Contains (entry_keys e) j → Inside j.path
  types_mention key e j (inl t) is at =
      t.inside.types e j (among_to t.summary.types.entries e (find_among t.summary.types.entries key e (sym ((views_tell ss t.summary well.apart well.own t.there).types key (sym t.is)) ∙ is))) at
  types_mention key e j (inr n) is at = absurd (let no : None ≡ Some e = sym ((nothing_else ss key.path well.own n).types key refl) ∙ is in cc)

  faces_mention : (path : List ℕ) (d : DeclRef) (f : TheFace) (j : DeclKey) → IsToldOf Inside ss path ⊎ NoneIsOf ss path → face_in (faces_told ss) path d ≡ Some f → Contains (face_keys f) j → Inside j.path
  faces_mention path d f j (inl t) is at =
      let here : face_in (faces_told ss) (path_of t.summary) d ≡ Some f = subst (λ (x : List ℕ). face_in (faces_told ss) x d ≡ Some f) (sym t.is) is in
      t.inside.faces d f j (sym ((views_tell ss t.summary well.apart well.own t.there).declared d) ∙ here) at
  faces_mention path d f j (inr n) is at = absurd (let no : None ≡ Some f = sym ((nothing_else ss path well.own n).declared d) ∙ is in cc)

  pub mentions : MentionsInside Inside (λ from to. Inside to) (known_by ss)
  mentions = record {
    types = λ key e j h is at. types_mention key e j (of key.path h) is at;
    faces = λ path d f j h is at. faces_mention path d f j (of path h) is at;
  }

-- what imports bind

target_wider : (Inside Wider : List ℕ → Type 0) → ((path : List ℕ) → Inside path → Wider path) → (t : Target) → IsTargetIn Inside t → IsTargetIn Wider t
target_wider Inside Wider f (targets.«Package» path) h = f path h
target_wider Inside Wider f (targets.Refused rule) h = h
target_wider Inside Wider f (targets.Exported k) h = f k.path h

-- a package whose imports come to some packages stands among these, where the summaries of these mention types of theirs
pub stands : ImportsBindTheirs → (paths : List (List ℕ)) (trees : Trees) (p : PackageIn) (ss : List SummaryModel)
    → All IsPlaced p.trees → Contains paths p.path → AreBlocks trees (package_named trees p.imports) p.blocks
    → ((path : List ℕ) → IsImportedPath p.imports path → Contains paths path) → AreWell ss
    → ((path : List ℕ) → Contains paths path → IsToldOf (Contains paths) ss path ⊎ NoneIsOf ss path) → StandsAmong paths p (known_by ss)
stands bind paths trees p ss placed own blocks theirs well of = record {
  placed = placed;
  own = own;
  binds = λ file name x is. target_wider (IsImportedPath p.imports) (Contains paths) theirs x.target (bind trees p.imports p.blocks blocks file name x is);
  mentions = mentions (Contains paths) ss well of;
}
