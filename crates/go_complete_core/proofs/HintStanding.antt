-- Where the file of a part stands, by what is kept of the part.
use Rattle.std.proofs.Common.{◌≡◌, ℕ, ◌+◌, ◌<◌, ◌≤◌, Bool, true, false, List, [], ◌∷◌, ◌++◌, nat_eq, Option, Some, None, refl, sym, ap, ap₂, ◌∙◌, subst, arith, eq-eqb, eqb-true, inl, inr}
use Rattle.std.specs.Prelude.{All, Contains, slice_get, if◌then◌else◌}
use Rattle.std.specs.List.{enumerate_from}
use Rattle.std.proofs.lemmas.List.Elements.{Contains-append_left, Contains-append_right}
use Rattle.go_tree_nodes.specs.declared.names.Ident.{Ident}
use Rattle.go_tree_nodes.specs.Trees.{Func, FuncTree, TopTree, FileTree}
use Rattle.go_tree_nodes.specs.Spelling.{IsPlaced}
use Rattle.go_graph_core.proofs.Zips.{numbered_at}
use Rattle.go_names_core.specs.local_core.mirrors.Walk.{Names}
use Rattle.go_package_core.specs.env_core.declared.meaning.Meaning.{Meaning}
use Rattle.go_package_core.specs.env_core.declared.meaning.Meaning.TheVariants as meanings
use Rattle.go_package_core.specs.body_core.Notes.{TheLocal, TheValue}
use Rattle.go_package_core.specs.body_core.FunctionStands.{FileStand, outer_meanings}
use Rattle.go_package_core.specs.body_core.FunctionFunctions.{checked_func}
use Rattle.go_package_core.specs.body_core.FunctionBodies.{functions_have_one_table}
use Rattle.go_package_core.specs.body_core.FileFiles.{decl_locals, tops_locals, file_locals}
use Rattle.go_cursor_core.specs.Opened.{FileUsed}
use Rattle.go_cursor_core.specs.Walks.{PieceAt, func_pieces}
use Rattle.go_complete_core.specs.spelling.Places.{place_rules}
use Rattle.go_package_core.specs.Checked.{IsFileChecked}
use Rattle.go_package_core.proofs.Numbered as numbers
use Rattle.go_package_core.proofs.Numbered.{zip_pair}
use Rattle.go_package_core.specs.prepare.Packages.{trees_in}
use Rattle.go_package_core.specs.summary_core.Summaries.{SummaryModel}
use Rattle.go_package_core.specs.package_part.Parts.{FileOf, IsFileMadeIn, IsPart, PartModel, package_seen, seen_by}
use Rattle.go_complete_core.specs.place.Completions.{stand_of}
use Rattle.go_complete_core.specs.place.Laws.{IsOpenIn, IsPlacedIn}
use Rattle.go_candidate_core.proofs.AfterDotKeeping.{either, nothing_in}
use Rattle.go_complete_core.specs.hint.Kept.{kept_at, open_by, value_or_none}
use Rattle.go_complete_core.proofs.HintOpening.{AreKept, func_kept}
use Rattle.go_complete_core.proofs.HintWithin.{Within, file_within}

-- one local of an offset

later : (ls : List TheLocal) (lo hi : ℕ) (m : TheLocal) → Within lo ls hi → Contains ls m → lo ≤ m.offset
later [] lo hi m h c = absurd (nothing_in m c)
later (l ∷ ls) lo hi m h c = elim (either l ls m c) [
  | inl same ↦ (let up = h.0 in let at : l.offset ≡ m.offset = ap (λ (x : TheLocal). x.offset) same in omega (arith, up, at))
  | inr rest ↦ (let up = h.0 in let far = later ls (l.offset + 1) hi m h.1 rest in omega (arith, up, far))
]

kept_is : (ls : List TheLocal) (lo hi : ℕ) (m : TheLocal) → Within lo ls hi → Contains ls m → kept_at ls m.offset ≡ Some m.value
kept_is [] lo hi m h c = absurd (nothing_in m c)
kept_is (l ∷ ls) lo hi m h c = elim (either l ls m c) [
  | inl same ↦ subst (λ (x : TheLocal). (if nat_eq l.offset x.offset then Some l.value else kept_at ls x.offset) ≡ Some x.value) same (ap (λ (b : Bool). if b then Some l.value else kept_at ls l.offset) (eq-eqb l.offset l.offset refl))
  | inr rest ↦ (let far = later ls (l.offset + 1) hi m h.1 rest in
      ap (λ (b : Bool). if b then Some l.value else kept_at ls m.offset) (apart l.offset m.offset (omega (arith, far))) ∙ kept_is ls (l.offset + 1) hi m h.1 rest)
]
  where
    apart : (a b : ℕ) → a < b → nat_eq a b ≡ false
    apart a b lt = by (nat_eq a b) refl
      where
        by : (c : Bool) → nat_eq a b ≡ c → nat_eq a b ≡ false
        by false e = e
        by true e = (let same : a ≡ b = eqb-true a b e in absurd (omega (arith, lt, same)))

-- what is open is what is kept of it
open_is : (ls : List TheLocal) (lo hi : ℕ) → Within lo ls hi → (es : Names Meaning) (xs : List Ident) → AreKept ls es xs → es ≡ open_by ls xs
open_is ls lo hi h [] [] k = refl
open_is ls lo hi h [] (x ∷ xs) k = absurd k
open_is ls lo hi h (e ∷ es) [] k = absurd k
open_is ls lo hi h (e ∷ es) (x ∷ xs) k =
    let value : kept_at ls x.span.start ≡ Some k.0.0 = kept_is ls lo hi (record { offset = x.span.start; value = k.0.0 }) h k.0.2 in
    ap₂ (λ (f : List ℕ × Meaning) (fs : Names Meaning). f ∷ fs) (k.0.1 ∙ ap (λ (o : Option TheValue). (x.name, meanings.Local x.span.start (value_or_none o))) (sym value)) (open_is ls lo hi h es xs k.1)

-- a function's locals are among those of its file
of_func : (st : FileStand) (ds : List TopTree) (top : TopTree) (g : FuncTree) → Contains ds top → top.decl ≡ Func g → (l : TheLocal) → Contains (checked_func st g).locals l → Contains (tops_locals st ds) l
of_func st [] top g c is l h = absurd (nothing_in top c)
of_func st (d ∷ ds) top g c is l h = elim (either d ds top c) [
  | inl same ↦ Contains-append_left (decl_locals st d.decl) (tops_locals st ds) l
      (subst (λ (t : TopTree). Contains (decl_locals st t.decl) l) (sym same) (subst (λ t. Contains (decl_locals st t) l) (sym is) h))
  | inr rest ↦ Contains-append_right (decl_locals st d.decl) (tops_locals st ds) l (of_func st ds top g rest is l h)
]

all_at : {A : Type 0} (P : A → Type 0) (xs : List A) (x : A) → All P xs → Contains xs x → P x
all_at P xs x h c = subst P c.2 (h c.0 x c.1)

-- the locals that are open at an identifier of a file are those that are kept of the file
pub open_there : (st : FileStand) (f : FileTree) → IsPlaced f → (u : FileUsed) (placed : IsPlacedIn st f u) → placed.meant ≡ open_by (file_locals st f) u.open_names
open_there st f tokens u placed = by u.func placed.walked
  where
    by : (g : Option FuncTree) → IsOpenIn st f.decls g u.open_names placed.meant → placed.meant ≡ open_by (file_locals st f) u.open_names
    by None h = h.0 ∙ ap (open_by (file_locals st f)) (sym h.1)
    by (Some g) h =
        let within = file_within functions_have_one_table st f tokens in
        let kept = all_at (λ (a : PieceAt Meaning). AreKept (file_locals st f) a.names a.locals) (func_pieces (place_rules st) (outer_meanings st) g) h.piece
        (func_kept st g (file_locals st f) (of_func st f.decls h.top g h.declared h.is)) h.among in
        h.names ∙ (open_is (file_locals st f) within.0 within.1.0 within.1.1 h.piece.names h.piece.locals kept ∙ ap (open_by (file_locals st f)) (sym h.opened))

-- what a part has of a file

module _ (p : PartModel) (made : IsPart p.input p.content) (n : ℕ) (f : FileTree) (there : slice_get (trees_in p.input.source) n ≡ Some f) where
  pub types_told : p.content.summary.types.entries ≡ made.checked.types
  types_told = ap (λ (s : SummaryModel). s.types.entries) made.summary

  pub locals_kept : (m : FileOf) → slice_get p.content.files n ≡ Some m → m.answers.locals ≡ file_locals (stand_of p made n f) f
  locals_kept m here =
      let among = numbered_at (IsFileMadeIn p.content.blocks made.checked.files) 0 (trees_in p.input.source) p.content.files n f made.files there in
      let e : Some m ≡ Some among.0 = sym here ∙ among.1 in
      let same : among.0 ≡ m = cc in
      let file : IsFileMadeIn p.content.blocks made.checked.files n f m =
      subst (λ (k : ℕ). IsFileMadeIn p.content.blocks made.checked.files k f m) (zero_plus n) (subst (IsFileMadeIn p.content.blocks made.checked.files (0 + n) f) same among.2) in
      let package_of = package_seen p.input p.content.blocks (seen_by p.input) in
      let types = (seen_by p.input).types ++ made.checked.types in
      let one = zip_pair (IsFileChecked package_of types made.checked.declared made.is_checked.type_faults made.is_checked.looped) (enumerate_from 0 (trees_in p.input.source)) made.checked.files n (n, f) file.checked made.is_checked.files
      (subst (λ (k : ℕ). slice_get (enumerate_from 0 (trees_in p.input.source)) n ≡ Some (k, f)) (zero_plus n) (numbers.numbered_at 0 (trees_in p.input.source) n f there)) file.there in
      file.made_of.locals ∙ one.locals
    where
      zero_plus : (k : ℕ) → 0 + k ≡ k
      zero_plus k = omega arith

  pub file_there : (m : FileOf) × (slice_get p.content.files n ≡ Some m)
  file_there = (let among = numbered_at (IsFileMadeIn p.content.blocks made.checked.files) 0 (trees_in p.input.source) p.content.files n f made.files there in (among.0, among.1))
