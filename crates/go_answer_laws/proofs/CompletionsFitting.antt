-- A name put in place of an identifier has a declaration there exactly where the identifier's context gives it one.
use Rattle.std.proofs.Common.{◌≡◌, ◌≤◌, ◌<◌, ◌+◌, ℕ, zero, suc, Bool, true, false, not, ◌&&◌, List, [], ◌∷◌, ◌++◌, length, map, Option, Some, None, refl, sym, ap, subst, ◌∙◌, arith, if◌then◌else◌}
use Rattle.std.specs.Prelude.{Contains, slice_get, nat_eq}
use Rattle.std.specs.List.{list_any}
use Rattle.std.proofs.lemmas.List.{length-map, map-append}
use Rattle.go_names_core.specs.block_core.Blocks.{BlocksModel}
use Rattle.go_typexpr_core.specs.entry.Outlines.{FileOutline, outline_of}
use Rattle.go_value_core.specs.table_core.Entries.{Entry}
use Rattle.go_graph_core.specs.Packages.{tree_shown, trees_of}
use Rattle.go_graph_core.specs.Sources.{SourceModel}
use Rattle.go_graph_core.proofs.Zips.{numbered_at}
use Rattle.go_tree_nodes.specs.declared.names.Ident.{Ident}
use Rattle.go_tree_nodes.specs.declared.usage.Usage.TheVariants as usages
use Rattle.go_tree_nodes.specs.Trees.{FileTree}
use Rattle.go_tree_core.specs.declared.occurrence.Occ.{Occ}
use Rattle.go_tree_core.specs.declared.occurrence.Role.{Role}
use Rattle.go_tree_core.specs.Occurrences.{Follow, file_occs}
use Rattle.go_tree_core.proofs.Order.{occs_follow}
use Rattle.go_names_core.specs.local_core.Binding.{NameLook}
use Rattle.go_term_core.specs.Terms.{Term}
use Rattle.go_cursor_core.specs.denote_core.declared.things.Stand.TheVariants as stands
use Rattle.go_stmt_core.specs.expr_core.Laws.{use_place, occurrence_place}
use Rattle.go_stmt_core.specs.expr_core.Uses.{Context, NameAt, SelectorBehind, KeyAmong, Identifier, CallAt, rule, role_of, made_use}
use Rattle.go_query_core.specs.candidate_core.ContextLaws.{is_declared}
use Rattle.go_query_core.specs.declared_core.Faces.{TheFace}
use Rattle.go_site_core.specs.handle_core.Declarations.{Declaration}
use Rattle.go_query_core.specs.body_core.Notes.{TheUse}
use Rattle.go_value_core.specs.env_core.declared.meaning.Meaning.{Meaning}
use Rattle.go_query_core.specs.body_core.FunctionStands.{FileStand, looks_where, outer_look, outer_looks}
use Rattle.go_query_core.specs.package_core.PackagePartInputs.{InputModel, IsInput}
use Rattle.go_query_core.specs.package_core.PackagePartLaws.{PartHasOccurrences}
use Rattle.go_query_core.specs.package_core.PackagePartParts.{ContentOf, FileOf, IsPart, IsFileMadeIn, package_seen, seen_by}
use Rattle.go_query_core.specs.package_core.PreparePackages.{PackageIn, stand_in, trees_in}
use Rattle.go_site_core.specs.report_core.UsageUsed.{blank_places, is_import, judged_import, refused_use, used_places, without_unused}
use Rattle.go_query_core.specs.complete_core.PlaceCompletions.{context_at}
use Rattle.go_query_core.specs.complete_core.SpellingFiles.{with_decls, with_trees}
use Rattle.go_query_core.specs.complete_core.SpellingFunctions.{TheSpot}
use Rattle.go_query_core.specs.complete_core.SpellingLaws.{ContextsDecide, ContextsStayInPackages, StaysInFile, IsInValues, checked_stand, import_outcomes, some_uses, uses_in}
use Rattle.go_query_core.specs.complete_core.SpellingPlaces.{PlacedSpot, placed_spot, placed_use, tops_places, MeanThere}
use Rattle.go_query_core.specs.complete_core.SpellingSpellings.{RespellsTops, InInitialiser, InOuterTypes, InBody, RespellsPackage}
use Rattle.go_cursor_core.specs.Opened.{FileUsed}
use Rattle.go_query_core.specs.complete_core.OwnThings.{own_thing}
use Rattle.go_answer_laws.specs.completions.Respelled.{ident_of, put_in_place, IsPutInPlace, MayBePut, HaveOtherTree, with_files, uses_of, use_declared, is_declared_at}
use Rattle.go_answer_laws.specs.completions.Laws.{IdentifiersCanBeRespelled, BlocksStay, NamesFit}
use Rattle.go_answer_laws.proofs.CompletionsOutside.{IsOutside, IsTypeContext, Alone, Behind, Anything, in_initialiser, in_outer}
use Rattle.go_answer_laws.proofs.CompletionsRules.{AreOfTheirKinds, alone_stays, type_name_stays, typed_stays}

-- lists

get_mapped : {A B : Type 0} (f : A → B) (xs : List A) (n : ℕ) (x : A) → slice_get xs n ≡ Some x → slice_get (map f xs) n ≡ Some (f x)
get_mapped f [] n x h = absurd (let no : None ≡ Some x = h in cc)
get_mapped f (y ∷ xs) zero x h = (let same : y ≡ x = (let s : Some y ≡ Some x = h in cc) in ap (λ z. Some (f z)) same)
get_mapped f (y ∷ xs) (suc n) x h = get_mapped f xs n x h

record Item {A : Type 0} (Holds : A → Type 0) (xs : List A) (n : ℕ) : Type 0 where
  item : A
  at : slice_get xs n ≡ Some item
  holds : Holds item

mapped_from : {A B : Type 0} (f : A → B) (xs : List A) (n : ℕ) (y : B) → slice_get (map f xs) n ≡ Some y → Item (λ x. f x ≡ y) xs n
mapped_from f [] n y h = absurd (let no : None ≡ Some y = h in cc)
mapped_from f (x ∷ xs) zero y h = (let same : f x ≡ y = (let s : Some (f x) ≡ Some y = h in cc) in record { item = x; at = refl; holds = same })
mapped_from f (x ∷ xs) (suc n) y h = (let later = mapped_from f xs n y h in record { item = later.item; at = later.at; holds = later.holds })

get_behind : {A : Type 0} (xs ys : List A) (n : ℕ) → slice_get (xs ++ ys) (length xs + n) ≡ slice_get ys n
get_behind {A} [] ys n =
    let none : List A = [] in
    let at : length none + n ≡ n = omega arith in
    ap (slice_get ys) at
get_behind (x ∷ xs) ys n =
    let at : length (x ∷ xs) + n ≡ suc (length xs + n) = omega arith in
    ap (slice_get (x ∷ (xs ++ ys))) at ∙ get_behind xs ys n

get_seam : {A : Type 0} (xs : List A) (y : A) (ys : List A) → slice_get (xs ++ y ∷ ys) (length xs) ≡ Some y
get_seam [] y ys = refl
get_seam (x ∷ xs) y ys = get_seam xs y ys

-- the number of what a list has
number_of : {A : Type 0} (xs : List A) (x : A) → Contains xs x → (k : ℕ) × (slice_get xs k ≡ Some x)
number_of [] x h = (let below : h.0 < 0 = h.1 in absurd (omega arith))
number_of (y ∷ xs) x (zero, below, same) = (0, ap Some same)
number_of (y ∷ xs) x (suc k, below, same) = (let later = number_of xs x (k, omega arith, same) in (suc later.0, later.1))

-- of occurrences that follow one another no two begin at one offset

later_begins : (os : List Occ) (low high : ℕ) → Follow low os high → (k : ℕ) (p : Occ) → slice_get os k ≡ Some p → low ≤ p.span.start
later_begins [] low high h k p at = absurd (let no : None ≡ Some p = at in cc)
later_begins (q ∷ os) low high h zero p at =
    let same : q ≡ p = (let s : Some q ≡ Some p = at in cc) in
    subst (λ (r : Occ). low ≤ r.span.start) same h.0
later_begins (q ∷ os) low high h (suc k) p at =
    let later = later_begins os q.span.end high h.2 k p at in
    let a = h.0 in
    let b = h.1 in
    omega (arith, later, a, b)

same_number : (os : List Occ) (low high : ℕ) → Follow low os high → (j k : ℕ) (o p : Occ) → slice_get os j ≡ Some o → slice_get os k ≡ Some p → o.span.start ≡ p.span.start → j ≡ k
same_number [] low high h j k o p a b e = absurd (let no : None ≡ Some o = a in cc)
same_number (q ∷ os) low high h zero zero o p a b e = refl
same_number (q ∷ os) low high h zero (suc k) o p a b e =
    let same : q.span.start ≡ o.span.start = ap (λ (r : Occ). r.span.start) (let s : Some q ≡ Some o = a in let t : q ≡ o = cc in t) in
    let later = later_begins os q.span.end high h.2 k p b in
    let wide = h.1 in
    absurd (omega (arith, same, later, wide, e))
same_number (q ∷ os) low high h (suc j) zero o p a b e =
    let same : q.span.start ≡ p.span.start = ap (λ (r : Occ). r.span.start) (let s : Some q ≡ Some p = b in let t : q ≡ p = cc in t) in
    let later = later_begins os q.span.end high h.2 j o a in
    let wide = h.1 in
    absurd (omega (arith, same, later, wide, e))
same_number (q ∷ os) low high h (suc j) (suc k) o p a b e = ap suc (same_number os q.span.end high h.2 j k o p a b e)

-- what a part has of a file

record MadeOf (i : InputModel) (c : ContentOf) (made : IsPart i c) (n : ℕ) (f : FileTree) : Type 0 where
  file : FileOf
  at : slice_get c.files n ≡ Some file
  uses : file.answers.uses ≡ without_unused c.blocks n f (uses_in made.checked n)

made_of : (i : InputModel) (c : ContentOf) (made : IsPart i c) (n : ℕ) (f : FileTree) → slice_get (trees_in i.source) n ≡ Some f → MadeOf i c made n f
made_of i c made n f tree =
    let it = numbered_at (IsFileMadeIn c.blocks made.checked.files) 0 (trees_in i.source) c.files n f made.files tree in
    let zero_more : 0 + n ≡ n = omega arith in
    let there : IsFileMadeIn c.blocks made.checked.files n f it.0 = subst (λ k. IsFileMadeIn c.blocks made.checked.files k f it.0) zero_more it.2 in
    record { file = it.0; at = it.1; uses = there.made_of.uses ∙ ap (λ us. without_unused c.blocks n f us) (sym (ap some_uses there.there)) }

-- the places of imports that are used or need not be
abbrev judged_places : BlocksModel → ℕ → FileTree → List TheUse → List ℕ
judged_places b n f us = blank_places f ++ used_places b n (file_occs f) us

same_offset : (places : List ℕ) (u : TheUse) → (judged_import places u).offset ≡ u.offset
same_offset places u = by (is_import u.role && not (list_any (λ place. nat_eq place u.offset) places))
  where
    by : (b : Bool) → (if b then refused_use u else u).offset ≡ u.offset
    by true = refl
    by false = refl

no_import : (c : Context Term Declaration) → is_import (role_of c) ≡ false
no_import (NameAt stands.«Type») = refl
no_import (NameAt stands.TypeDot) = refl
no_import (NameAt stands.«Value») = refl
no_import (NameAt stands.Callee) = refl
no_import (NameAt stands.BeforeDot) = refl
no_import (SelectorBehind u dot) = refl
no_import (KeyAmong k) = refl

place_begins : (p : Occ) (w : ℕ × Role) → occurrence_place p ≡ w → p.span.start ≡ w.0
place_begins p w h = ap (λ (v : ℕ × Role). v.0) h

-- an identifier is no import
kept : (places : List ℕ) (u : TheUse) → is_import u.role ≡ false → judged_import places u ≡ u
kept places u e = ap (λ b. if b && not (list_any (λ place. nat_eq place u.offset) places) then refused_use u else u) e

-- the rules of a context at the top of a file, where an identifier is spelled anew elsewhere

data MayMove (types types' : List Entry) (st : FileStand) (c : Context Term Declaration) : Type 0 where
  SameTypes : types' ≡ types → MayMove types types' st c
  InType : IsTypeContext (outer_looks st) c → MayMove types types' st c

module _ (p : PackageIn) (ts : List FileTree) (n : ℕ) (o o' : FileOutline) (types : List Entry) (known known' : List (Option TheFace)) (own : AreOfTheirKinds p types known) where
  abbrev old_stand : FileStand
  old_stand = stand_in p types known n o

  abbrev Same : PackageIn → List Entry → Context Term Declaration → ℕ → List ℕ → Type 0
  Same q types' c k m =
      is_declared (rule (looks_where (stand_in q types' known' n o') (outer_look (stand_in q types' known' n o'))) c k m) ≡ is_declared (rule (looks_where (stand_in p types known n o) (outer_look (stand_in p types known n o))) c k m)

  -- with the types that there were
  of_same : AreOfTheirKinds (with_trees p ts) types known' → (c : Context Term Declaration) (k : ℕ) (m : List ℕ) → Same (with_trees p ts) types c k m
  of_same own' (NameAt s) k m = alone_stays p ts n o o' types types known known' own own' s k m
  of_same own' (SelectorBehind u dot) k m =
      ap is_declared (typed_stays p ts n o o' types known known' (outer_look (stand_in p types known n o)) (outer_look (stand_in (with_trees p ts) types known' n o')) (SelectorBehind u dot) k m (λ s e. (cc)))
  of_same own' (KeyAmong x) k m =
      ap is_declared (typed_stays p ts n o o' types known known' (outer_look (stand_in p types known n o)) (outer_look (stand_in (with_trees p ts) types known' n o')) (KeyAmong x) k m (λ s e. (cc)))

  of_type : (types' : List Entry) → AreOfTheirKinds (with_trees p ts) types' known' → (c : Context Term Declaration) → IsTypeContext (outer_looks old_stand) c → (k : ℕ) (m : List ℕ) → Same (with_trees p ts) types' c k m
  of_type types' own' c (Alone {s = s}) k m = alone_stays p ts n o o' types types' known known' own own' s k m
  of_type types' own' c (Behind q) k m =
      ap is_declared (type_name_stays p ts n o o' types types' known known' (outer_look old_stand) (outer_look (stand_in (with_trees p ts) types' known' n o')) old_stand (outer_look old_stand) q usages.«Type» k m)

  moved : (types' : List Entry) → AreOfTheirKinds (with_trees p ts) types' known' → (c : Context Term Declaration) → MayMove types types' old_stand c → (k : ℕ) (m : List ℕ) → Same (with_trees p ts) types' c k m
  moved types' own' c (SameTypes e) k m =
      subst (λ es. Same (with_trees p ts) es c k m) (sym e) (of_same (subst (λ es. AreOfTheirKinds (with_trees p ts) es known') e own') c k m)
  moved types' own' c (InType h) k m = of_type types' own' c h k m

  rule_stays : (q : PackageIn) → q ≡ with_trees p ts → (types' : List Entry) → AreOfTheirKinds q types' known' → (c : Context Term Declaration) → MayMove types types' old_stand c → (k : ℕ) (m : List ℕ) → Same q types' c k m
  rule_stays q e types' own' c h k m = subst (λ r. Same r types' c k m) (sym e) (moved types' (subst (λ r. AreOfTheirKinds r types' known') e own') c h k m)

-- a name put in place of the identifier of an occurrence

abbrev context_or : TheSpot → Context Term Declaration
context_or (Identifier c x) = c
context_or (CallAt s o) = NameAt stands.«Value»

module _ (respelled_law : IdentifiersCanBeRespelled) (blocks_law : BlocksStay) (decide_law : ContextsDecide) (stay_law : ContextsStayInPackages) (occur_law : PartHasOccurrences)
    (i : InputModel) (files : List SourceModel) (c d : ContentOf) (name : List ℕ) (n : ℕ) (f : FileTree) (k : ℕ) (o : Occ) (is_input : IsInput i) (put : MayBePut name f k o)
    (changed : HaveOtherTree n f (put_in_place name o f) i.source.1 files) (made : IsPart i c) (made' : IsPart (with_files i files) d) where
  abbrev g : FileTree
  g = put_in_place name o f

  abbrev j : InputModel
  j = with_files i files

  abbrev x : Ident
  x = ident_of o

  abbrev far : List Entry
  far = (seen_by i).types

  abbrev p : PackageIn
  p = package_seen i c.blocks (seen_by i)

  abbrev q : PackageIn
  q = package_seen (with_files i files) d.blocks (seen_by i)

  abbrev st : FileStand
  st = checked_stand (package_seen i c.blocks (seen_by i)) (seen_by i).types made.checked n f

  abbrev new_stand : FileStand
  new_stand = checked_stand (package_seen (with_files i files) d.blocks (seen_by i)) (seen_by i).types made'.checked n (with_decls f (put_in_place name o f).decls)

  abbrev places : List PlacedSpot
  places = tops_places (checked_stand (package_seen i c.blocks (seen_by i)) (seen_by i).types made.checked n f) f.decls

  abbrev imports : List TheUse
  imports = import_outcomes (package_seen i c.blocks (seen_by i)) n f

  it : IsPutInPlace name o f g
  it = respelled_law name f k o put

  -- its trees

  abbrev fs : List FileTree
  fs = map tree_shown changed.front

  abbrev bs : List FileTree
  bs = map tree_shown changed.back

  trees_before : trees_in i.source ≡ fs ++ f ∷ bs
  trees_before = ap (λ ts. map tree_shown ts) changed.old ∙ map-append tree_shown changed.front ((changed.file, f) ∷ changed.back)

  trees_after : map tree_shown (trees_of files) ≡ fs ++ g ∷ bs
  trees_after = ap (λ ts. map tree_shown ts) changed.new ∙ map-append tree_shown changed.front ((changed.file, g) ∷ changed.back)

  number : n ≡ length fs
  number = changed.number ∙ sym (length-map changed.front tree_shown)

  tree : slice_get (trees_in i.source) n ≡ Some f
  tree = ap (λ ts. slice_get ts n) trees_before ∙ (ap (λ m. slice_get (fs ++ f ∷ bs) m) number ∙ get_seam fs f bs)

  new_tree : slice_get (trees_in j.source) n ≡ Some g
  new_tree = ap (λ ts. slice_get ts n) trees_after ∙ (ap (λ m. slice_get (fs ++ g ∷ bs) m) number ∙ get_seam fs g bs)

  after : q ≡ with_trees p (fs ++ with_decls f g.decls ∷ bs)
  after =
      ap (λ b. package_seen (with_files i files) b (seen_by i)) (blocks_law i files c d name n f k o put changed made made')
      ∙ (ap (λ ts. with_trees (package_seen i c.blocks (seen_by i)) ts) trees_after ∙ ap (λ t. with_trees (package_seen i c.blocks (seen_by i)) (fs ++ t ∷ bs)) it.rest)

  abbrev changes : RespellsPackage x name n p q
  changes = record { front = fs; back = bs; file = f; decls = g.decls; respells = it.respells; number = number; before = trees_before; after = after }

  stays : StaysInFile x name st new_stand f.decls g.decls it.respells imports (uses_in made.checked n) (uses_in made'.checked n)
  stays = stay_law.contexts x name n p q far made.checked made'.checked changes made.is_checked made'.is_checked

  -- the number of what begins where the occurrence begins
  at_number : (m : ℕ) (names : NameLook Meaning) (e : Context Term Declaration) (y : Ident) → slice_get places m ≡ Some (placed_spot names (Identifier e y)) → y.span.start ≡ o.span.start → length imports + m ≡ k
  at_number m names e y at begins =
      let u : TheUse = placed_use st (placed_spot names (Identifier e y)) in
      let had : slice_get (uses_in made.checked n) (length imports + m) ≡ Some u =
      ap (λ us. slice_get us (length imports + m)) (decide_law p far made.checked made.is_checked n f tree)
      ∙ (get_behind imports (map (placed_use st) places) m ∙ get_mapped (placed_use st) places m (placed_spot names (Identifier e y)) at) in
      let file = made_of i c made n f tree in
      let blank : List ℕ = judged_places c.blocks n f (uses_in made.checked n) in
      let judged : slice_get file.file.answers.uses (length imports + m) ≡ Some (judged_import blank u) = ap (λ us. slice_get us (length imports + m)) file.uses ∙ get_mapped (judged_import blank) (uses_in made.checked n) (length imports + m) u had in
      let place : slice_get (map use_place file.file.answers.uses) (length imports + m) ≡ Some (use_place (judged_import blank u)) = get_mapped use_place file.file.answers.uses (length imports + m) (judged_import blank u) judged in
      let occ = mapped_from occurrence_place (file_occs f) (length imports + m) (use_place (judged_import blank u)) (ap (λ ps. slice_get ps (length imports + m)) (sym (occur_law i c is_input made n f file.file tree file.at put.well)) ∙ place) in
      let start : occ.item.span.start ≡ o.span.start = place_begins occ.item (use_place (judged_import blank u)) occ.holds ∙ (same_offset blank u ∙ begins) in
      same_number (file_occs f) 0 put.follows.0 (occs_follow f put.follows.0 put.follows.1) (length imports + m) k occ.item o occ.at put.there start

  here : length imports + stays.number ≡ k
  here = at_number stays.number stays.names stays.context x stays.stands refl

  -- so it is this
  same_place : (names : NameLook Meaning) (e : Context Term Declaration) (y : Ident) → Contains places (placed_spot names (Identifier e y)) → y.span.start ≡ o.span.start → placed_spot names (Identifier e y) ≡ placed_spot stays.names (Identifier stays.context x)
  same_place names e y among begins =
      let m = number_of places (placed_spot names (Identifier e y)) among in
      let sum = at_number m.0 names e y m.1 begins in
      let there = here in
      let same : m.0 ≡ stays.number = omega (arith, sum, there) in
      let both : Some (placed_spot names (Identifier e y)) ≡ Some (placed_spot stays.names (Identifier stays.context x)) = sym m.1 ∙ (ap (slice_get places) same ∙ stays.stands) in
      (let one : placed_spot names (Identifier e y) ≡ placed_spot stays.names (Identifier stays.context x) = cc in one)

  abbrev old_rule : Bool
  old_rule = is_declared (rule (looks_where st stays.names) stays.context o.span.start name)

  abbrev new_rule : Bool
  new_rule = is_declared (rule (looks_where new_stand stays.others) stays.context o.span.start name)

  -- what is answered there
  answered : is_declared_at d n k ≡ new_rule
  answered =
      let file = made_of j d made' n g new_tree in
      let u : TheUse = made_use o.span.start (role_of stays.context) (rule (looks_where new_stand stays.others) stays.context o.span.start name) in
      let blank : List ℕ = judged_places d.blocks n g (uses_in made'.checked n) in
      let judged : slice_get file.file.answers.uses (length imports + stays.number) ≡ Some u =
      ap (λ us. slice_get us (length imports + stays.number)) file.uses
      ∙ (get_mapped (judged_import blank) (uses_in made'.checked n) (length imports + stays.number) u stays.has ∙ ap Some (kept blank u (no_import stays.context))) in
      ap (λ m. use_declared (slice_get (uses_of m) k)) file.at ∙ (ap (λ m. use_declared (slice_get file.file.answers.uses m)) (sym here) ∙ ap use_declared judged)

  own : AreOfTheirKinds p (far ++ made.checked.types) made.checked.declared
  own = own_thing p (far ++ made.checked.types) made.checked.declared made.is_checked.declared (trees_of i.source.1) refl made.blocks.package_names

  own' : AreOfTheirKinds q (far ++ made'.checked.types) made'.checked.declared
  own' = own_thing q (far ++ made'.checked.types) made'.checked.declared made'.is_checked.declared (trees_of files) refl made'.blocks.package_names

  -- at the top of the file
  top_rule : MayMove (far ++ made.checked.types) (far ++ made'.checked.types) st stays.context → stays.names ≡ outer_look st → stays.others ≡ outer_look new_stand → new_rule ≡ old_rule
  top_rule may names others =
      ap (λ (l : NameLook Meaning). is_declared (rule (looks_where new_stand l) stays.context o.span.start name)) others
      ∙ (rule_stays p (fs ++ with_decls f g.decls ∷ bs) n (outline_of f) (outline_of (with_decls f g.decls)) (far ++ made.checked.types) made.checked.declared made'.checked.declared own q after (far ++ made'.checked.types) own' stays.context may o.span.start name
      ∙ ap (λ (l : NameLook Meaning). is_declared (rule (looks_where st l) stays.context o.span.start name)) (sym names))

  outside_names : (P : Context Term Declaration → Type 0) (out : IsOutside st P places x) → placed_spot (outer_look st) (Identifier out.context x) ≡ placed_spot stays.names (Identifier stays.context x)
  outside_names P out = same_place (outer_look st) out.context x out.among refl

  rules_stay : (r : RespellsTops x name f.decls g.decls) → MeanThere st new_stand r stays.names stays.others → (IsInValues r → made.checked.types ≡ made'.checked.types) → new_rule ≡ old_rule
  rules_stay (InInitialiser {v = v} {w = w} r s) there types =
      let out = in_initialiser st x name v w f.decls g.decls r s in
      top_rule (SameTypes (ap (λ es. far ++ es) (sym (types tt)))) (sym (ap (λ (e : PlacedSpot). e.names) (outside_names Anything out))) there
  rules_stay (InOuterTypes r) there types =
      let out = in_outer st x name f.decls g.decls r in
      let same = outside_names (IsTypeContext (outer_looks st)) out in
      top_rule (InType (subst (λ e. IsTypeContext (outer_looks st) e) (ap (λ (e : PlacedSpot). context_or e.spot) same) out.holds)) (sym (ap (λ (e : PlacedSpot). e.names) same)) there
  rules_stay (InBody r s) there types =
      ap (λ (l : NameLook Meaning). is_declared (rule (looks_where new_stand l) stays.context o.span.start name)) there.1
      ∙ ap (λ (t : FileStand). is_declared (rule (looks_where t stays.names) stays.context o.span.start name)) there.0

  fits : is_declared_at d n k ≡ old_rule
  fits = answered ∙ rules_stay it.respells stays.there (stay_law.types x name n p q far made.checked made'.checked changes made.is_checked made'.is_checked)

  names_fit : (u : FileUsed) (names : NameLook Meaning) → u.used.ident.span.start ≡ o.span.start → Contains places (placed_spot names (Identifier (context_at st names u.used) u.used.ident))
      → is_declared_at d n k ≡ is_declared (rule (looks_where st names) (context_at st names u.used) u.used.ident.span.start name)
  names_fit u names begins among =
      let same = same_place names (context_at st names u.used) u.used.ident among begins in
      fits
      ∙ (ap (λ (e : PlacedSpot). is_declared (rule (looks_where st e.names) (context_or e.spot) o.span.start name)) (sym same)
      ∙ ap (λ s. is_declared (rule (looks_where st names) (context_at st names u.used) s name)) (sym begins))

pub all_fit : IdentifiersCanBeRespelled → BlocksStay → ContextsDecide → ContextsStayInPackages → PartHasOccurrences → NamesFit
all_fit respelled_law blocks_law decide_law stay_law occur_law i files c d name n f k o u found is_input put changed made' begins are =
    let e = names_fit respelled_law blocks_law decide_law stay_law occur_law i files c d name n f k o is_input put changed are.made made' u are.names begins are.place.there in
    let each = are.are.each name in
    (λ h. e ∙ each.0 h, λ h. each.1 (sym e ∙ h))
