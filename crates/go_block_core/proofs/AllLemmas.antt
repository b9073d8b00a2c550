-- The blocks of the packages of a workspace, made in the order of its plan.
use Rattle.std.proofs.Common.{◌≡◌, ◌≢◌, ℕ, ◌+◌, ◌<◌, ⊎_elim, suc, nat_eq, eq-eqb, List, [], ◌∷◌, ◌++◌, length, map, get_or, take, Option, Some, None, Ok, MatchOption, refl, sym, ap, subst, ◌∙◌, arith}
use Rattle.std.specs.Prelude.{slice_get, slice_index, slice_set, Contains, replicate, option_map}
use Rattle.std.specs.List.{IsDistinct}
use Rattle.std.proofs.lemmas.Bool.{cases_eq, true≢false}
use Rattle.std.proofs.lemmas.List.{take_more, length-take, length-set, length-map, get_or-take, get_or-set_same, get_or-set_other, get_or-replicate, length-replicate, get_or_default}
use Rattle.std.proofs.lemmas.List.Elements.{Contains-append_left, Contains-append_right, Contains-push_cases}
use Rattle.std.proofs.lemmas.Map.Keys.{apart_from_distinct}
use Rattle.std.proofs.lemmas.Option.{slice_get_within, slice_get-get_or, get_or_from_slice_get, slice_get-map}
use Rattle.go_tree_nodes.specs.Trees.{FileTree, ImportSpecTree}
use Rattle.go_tree_nodes.specs.Terminals.{value_of}
use Rattle.go_graph_core.specs.declared.imports.ImportAt.{ImportAt}
use Rattle.go_graph_core.specs.declared.imports.ImportOutcome.{ImportOutcome}
use Rattle.go_graph_core.specs.declared.imports.ImportOutcome.TheVariants as outcomes
use Rattle.go_graph_core.specs.Sources.{SourceModel, source}
use Rattle.go_graph_core.specs.Packages.{Trees, trees_of, IsAssembled, AllHaveTrees}
use Rattle.go_graph_core.specs.Workspaces.{PackageModel}
use Rattle.go_graph_core.specs.Imports.{IsNumbered, IsImport, IsNoImport, IsOutcome, content_texts}
use Rattle.go_graph_core.specs.Plans.{PlanModel, IsPlan, IsAssembledAt, outcome_at}
use Rattle.go_graph_core.specs.Lists.{AllNumbered}
use Rattle.go_graph_core.proofs.Assemblies.{has_tree_at, as_many, tree_at}
use Rattle.go_block_core.specs.declared.imports.Imported.{Imported}
use Rattle.go_block_core.specs.Exports.{ExportsModel}
use Rattle.go_block_core.specs.Blocks.{BlocksModel}
use Rattle.go_block_core.specs.Naming.{import_at, file_specs}
use Rattle.go_block_core.specs.All.{IsShown, IsImported, AreBlocksAt, AreBlocksOrNone, AreAllBlocks}
use Rattle.go_block_core.specs.mirrors.Steps.{IsShownIn, HasExports, IsReady, IsPackageReady, IsPlanned, IsMadeAt}
use Rattle.go_block_core.proofs.Growing.{Grows, given_weaker, package_weaker, shown_grow, blocks_grow}
use Rattle.go_block_core.proofs.NamingLemmas.{text_of, same_texts}

-- an import is there where one is written

-- the file that has a tree
pub file_of_tree : (files : List SourceModel) (file : ℕ) (t : List ℕ × FileTree) → AllHaveTrees files → slice_get (trees_of files) file ≡ Some t → (s : SourceModel) × (slice_get files file ≡ Some s) × (s.content ≡ Ok t.1)
file_of_tree files file t trees at =
    let lt : file < length files = omega (arith, slice_get_within (trees_of files) file t at, as_many files trees) in
    let d = source t.0 [] (Ok t.1) in
    let s = get_or files file d in
    let here : slice_get files file ≡ Some s = slice_get-get_or files file d lt in
    let has = has_tree_at files file s trees lt (sym (get_or_default files file s d lt)) in
    let same : ◌≡◌ {A = List ℕ × FileTree} (s.name, has.0) t = (let e : Some (s.name, has.0) ≡ Some t = sym (tree_at files file s has.0 trees here has.1) ∙ at in cc) in
    (s, here, has.1 ∙ ap (λ (x : List ℕ × FileTree). Ok x.1) same)

pub import_there : (ps : List PackageModel) (number : ℕ) (p : PackageModel) (file n : ℕ) (t : List ℕ × FileTree) → slice_get ps number ≡ Some p → IsAssembled p.1 → slice_get (trees_of p.1) file ≡ Some t → n < length (file_specs t.1) → (text : List ℕ) × IsImport ps (import_at number file n) p.0 text
import_there ps number p file n t numbered assembled at lt =
    let found = file_of_tree p.1 file t assembled.trees at in
    let texts : content_texts found.0.content ≡ map text_of (file_specs t.1) = ap content_texts found.2 ∙ same_texts t.1.imports in
    let lt_texts : n < length (map text_of (file_specs t.1)) = omega (arith, lt, length-map (file_specs t.1) text_of) in
    let text = get_or (map text_of (file_specs t.1)) n [] in (
      text,
      record {
        files = p.1;
        file = found.0;
        numbered = numbered;
        in_files = found.1;
        in_file = ap (λ ts. slice_get ts n) texts ∙ slice_get-get_or (map text_of (file_specs t.1)) n [] lt_texts;
      },
    )

-- what an import comes to is assembled
pub found_at : (ps : List PackageModel) (at : ImportAt) (i : ℕ) → IsOutcome ps at (outcomes.«Package» i) → IsAssembledAt ps i
found_at ps at i h = (h.text, h.judged.0.files, h.judged.0.numbered, h.judged.0.library.0)

-- the packages of these numbers have their blocks and show what these give, and no others have any
pub record AreMade (ps : List PackageModel) (done : List ℕ) (bs : List (Option BlocksModel)) (es : List (Option ExportsModel)) : Type 0 where
  pub count : length bs ≡ length ps
  pub shown_count : length es ≡ length ps
  pub made : (i : ℕ) → Contains done i → (b : BlocksModel) × (slice_get bs i ≡ Some (Some b))
  pub shown : (i : ℕ) → Contains done i → (e : ExportsModel) × IsShownIn es i e
  pub right : (i : ℕ) (b : BlocksModel) → slice_get bs i ≡ Some (Some b) → Contains done i × AreBlocksAt ps bs i b
  pub right_shown : (i : ℕ) (e : ExportsModel) → IsShownIn es i e → IsShown ps bs i e

pub no_number : (i : ℕ) → Contains [] i → ⊥
no_number i h = omega (arith, h.1)

pub nothing_at : {A : Type 0} (n : ℕ) (xs : List (Option A)) (i : ℕ) (x : A) → xs ≡ replicate n None → slice_get xs i ≡ Some (Some x) → ⊥
nothing_at {A} n xs i x is h =
    let at : slice_get (replicate n None) i ≡ Some (Some x) = sym (ap (λ l. slice_get l i) is) ∙ h in
    let lt : i < n = omega (arith, slice_get_within _ i _ at, length-replicate {A = Option A} n None) in
    let e : None ≡ Some x = sym (get_or-replicate n i None (Some x) lt) ∙ get_or_from_slice_get _ i (Some x) (Some x) at in
    cc

-- none are made in the beginning
pub none_made : (ps : List PackageModel) (bs : List (Option BlocksModel)) (es : List (Option ExportsModel)) → bs ≡ replicate (length ps) None → es ≡ replicate (length ps) None → AreMade ps [] bs es
none_made ps bs es is same = record {
  count = ap length is ∙ length-replicate {A = Option BlocksModel} (length ps) None;
  shown_count = ap length same ∙ length-replicate {A = Option ExportsModel} (length ps) None;
  made = λ i h. absurd (no_number i h);
  shown = λ i h. absurd (no_number i h);
  right = λ i b h. absurd (nothing_at (length ps) bs i b is h);
  right_shown = λ i e h. absurd (nothing_at (length ps) es i e same h);
}

-- the package at a place of the order is assembled
pub assembled_at : (ps : List PackageModel) (plan : PlanModel) (k number : ℕ) → IsPlan ps plan → k < length plan.order → number ≡ slice_index plan.order k → IsAssembledAt ps number
assembled_at ps plan k number planned lt is = (planned.each number).0 (k, lt, get_or_default plan.order k number 0 lt ∙ sym is)

pub is_within : (ps : List PackageModel) (number : ℕ) → IsAssembledAt ps number → number < length ps
is_within ps number h = slice_get_within ps number (h.0, h.1) h.2

-- what an import of a package comes to shows something, where the packages before it do

module _ (ps : List PackageModel) (plan : PlanModel) (k : ℕ) (bs : List (Option BlocksModel)) (es : List (Option ExportsModel)) (planned : IsPlan ps plan) (lt : k < length plan.order) (made : AreMade ps (take k plan.order) bs es) where
  has_exports : (at : ImportAt) (o : ImportOutcome) → at.«package» ≡ slice_index plan.order k → IsOutcome ps at o → HasExports es o
  has_exports at (outcomes.Refused rule) number h = tt
  has_exports at (outcomes.«Package» i) number h =
      let there = (planned.each i).1 (found_at ps at i h) in
      let j = there.0 in
      let here : slice_index plan.order j ≡ i = get_or_default plan.order j 0 i there.1 ∙ there.2 in
      let before : j < k = planned.after at i h k j lt there.1 (sym number) here in
      let below : j < length (take k plan.order) = omega (arith, length-take k plan.order) in
      made.shown i (j, below, get_or-take k plan.order j i before ∙ there.2)

  ready_from : (at : ImportAt) (q text : List ℕ) (o : Option ImportOutcome) → at.«package» ≡ slice_index plan.order k → IsImport ps at q text → outcome_at plan.outcomes at ≡ o → MatchOption o (IsNoImport ps at) (IsOutcome ps at) → IsReady plan.outcomes es at
  ready_from at q text None number there e h = absurd (h q text there)
  ready_from at q text (Some o) number there e h = record { outcome = o; is = e; there = has_exports at o number h }

  pub ready_at : (number : ℕ) → number ≡ slice_index plan.order k → IsPackageReady ps plan.outcomes es number
  ready_at number is = λ p numbered file t at n below.
      let here = assembled_at ps plan k number planned lt is in
      let same : ◌≡◌ {A = PackageModel} (here.0, here.1) p = (let e : Some (here.0, here.1) ≡ Some p = sym here.2 ∙ numbered in cc) in
      let there = import_there ps number p file n t numbered (subst (λ (q : PackageModel). IsAssembled q.1) same here.3) at below in
      ready_from (import_at number file n) p.0 there.0 (outcome_at plan.outcomes (import_at number file n)) is there.1 refl (planned.outcomes (import_at number file n))

  -- what the imports of a package come to by the plan is what they come to
  planned_imported : (at : ImportAt) (i : Imported) → IsPlanned plan.outcomes es at i → IsImported ps bs at i
  planned_imported at i h = record {
    outcome = h.outcome;
    judged = subst (λ o. MatchOption o (IsNoImport ps at) (IsOutcome ps at)) h.is (planned.outcomes at);
    shown = given_weaker (IsShownIn es) (IsShown ps bs) made.right_shown h.outcome i h.given;
  }

  pub made_blocks : (number : ℕ) (b : BlocksModel) (e : ExportsModel) → IsMadeAt ps plan.outcomes es number b e → AreBlocksAt ps bs number b
  made_blocks number b e h = record {
    path = h.of_package.0;
    files = h.of_package.1;
    numbered = h.numbered;
    imported = h.made.imported;
    given = package_weaker (IsPlanned plan.outcomes es) (IsImported ps bs) planned_imported number (trees_of h.of_package.1) h.made.imported h.made.given;
    blocks = h.made.blocks;
  }

-- one package more

not_before : (order : List ℕ) (k number : ℕ) → IsDistinct nat_eq order → k < length order → number ≡ slice_index order k → Contains (take k order) number → ⊥
not_before order k number once lt is h =
    let low : h.0 < k = omega (arith, h.1, length-take k order) in
    let apart = apart_from_distinct nat_eq order h.0 k 0 once low lt in
    let same : get_or order h.0 0 ≡ get_or order k 0 = get_or_default order h.0 0 number (omega arith) ∙ (sym (get_or-take k order h.0 number low) ∙ (h.2 ∙ is)) in
    absurd (true≢false (sym (eq-eqb (get_or order h.0 0) (get_or order k 0) same) ∙ apart))

-- a list with one entry set
module _ {A : Type 0} (xs : List (Option A)) (number : ℕ) (x : A) (below : number < length xs) where
  abbrev pub with_one : List (Option A)
  with_one = slice_set xs number (Some x)

  pub set_here : slice_get with_one number ≡ Some (Some x)
  set_here = slice_get-get_or with_one number None (omega (arith, length-set xs number (Some x))) ∙ ap Some (get_or-set_same xs number (Some x) None below)

  pub set_there : (i : ℕ) → i ≢ number → (y : Option A) → slice_get xs i ≡ Some y → slice_get with_one i ≡ Some y
  set_there i ne y h = slice_get-get_or with_one i y (omega (arith, length-set xs number (Some x), slice_get_within xs i y h)) ∙ ap Some (get_or-set_other xs number i (Some x) y ne ∙ get_or_from_slice_get xs i y y h)

  pub set_back : (i : ℕ) → i ≢ number → (y : Option A) → slice_get with_one i ≡ Some y → slice_get xs i ≡ Some y
  set_back i ne y h = slice_get-get_or xs i y (omega (arith, length-set xs number (Some x), slice_get_within with_one i y h)) ∙ ap Some (sym (get_or-set_other xs number i (Some x) y ne) ∙ get_or_from_slice_get with_one i y y h)

  pub set_same : (i : ℕ) → number ≡ i → (y : A) → slice_get with_one i ≡ Some (Some y) → x ≡ y
  set_same i same y h = (let e : Some (Some x) ≡ Some (Some y) = sym set_here ∙ (ap (slice_get with_one) same ∙ h) in cc)

pub one_more : (ps : List PackageModel) (plan : PlanModel) (k number : ℕ) (bs : List (Option BlocksModel)) (es : List (Option ExportsModel)) (b : BlocksModel) (e : ExportsModel) → IsPlan ps plan → k < length plan.order → number ≡ slice_index plan.order k → AreMade ps (take k plan.order) bs es → IsMadeAt ps plan.outcomes es number b e → AreMade ps (take (k + 1) plan.order) (slice_set bs number (Some b)) (slice_set es number (Some e))
one_more ps plan k number bs es b e planned lt is old new =
    let order = plan.order in
    let cs = slice_set bs number (Some b) in
    let fs = slice_set es number (Some e) in
    let within = is_within ps number (assembled_at ps plan k number planned lt is) in
    let below : number < length bs = omega (arith, old.count) in
    let below_es : number < length es = omega (arith, old.shown_count) in
    let grows : Grows bs cs = λ i c h. set_there bs number b below i (λ same. not_before order k number planned.once lt is (subst (Contains (take k order)) same (old.right i c h).0)) (Some c) h in
    let more : take (k + 1) order ≡ take k order ++ number ∷ [] = take_more order k 0 lt ∙ ap (λ n. take k order ++ n ∷ []) (sym is) in
    let here = blocks_grow ps bs cs grows number b (made_blocks ps plan k bs es planned lt old number b e new) in
    let last : Contains (take (k + 1) order) number = subst (λ l. Contains l number) (sym more) (Contains-append_right (take k order) (number ∷ []) number (0, (let z : 0 < 1 = omega arith in z), refl)) in
    record {
      count = length-set bs number (Some b) ∙ old.count;
      shown_count = length-set es number (Some e) ∙ old.shown_count;
      made = λ i h. ⊎_elim
          (λ (before : Contains (take k order) i). (let has = old.made i before in (has.0, grows i has.0 has.1)))
          (λ (same : number ≡ i). (b, ap (slice_get cs) (sym same) ∙ set_here bs number b below))
          (Contains-push_cases (take k order) number i (subst (λ l. Contains l i) more h));
      shown = λ i h. ⊎_elim
          (λ (same : i ≡ number). (e, ap (slice_get fs) same ∙ set_here es number e below_es))
          (λ (ne : i ≡ number → ⊥). ⊎_elim
          (λ (before : Contains (take k order) i). (let has = old.shown i before in (has.0, set_there es number e below_es i ne (Some has.0) has.1)))
          (λ (same : number ≡ i). absurd (ne (sym same)))
          (Contains-push_cases (take k order) number i (subst (λ l. Contains l i) more h)))
          (cases_eq i number);
      right = λ i c h. ⊎_elim
          (λ (same : i ≡ number). (let f : b ≡ c = set_same bs number b below i (sym same) c h in
          (subst (Contains (take (k + 1) order)) (sym same) last, subst (λ n. AreBlocksAt ps cs n c) (sym same) (subst (AreBlocksAt ps cs number) f here))))
          (λ (ne : i ≡ number → ⊥). (let r = old.right i c (set_back bs number b below i ne (Some c) h) in
          (subst (λ l. Contains l i) (sym more) (Contains-append_left (take k order) (number ∷ []) i r.0), blocks_grow ps bs cs grows i c r.1)))
          (cases_eq i number);
      right_shown = λ i c h. ⊎_elim
          (λ (same : i ≡ number). (let f : e ≡ c = set_same es number e below_es i (sym same) c h in
          subst (λ n. IsShown ps cs n c) (sym same) (record { path = new.of_package.0; files = new.of_package.1; numbered = new.numbered; blocks = b; there = set_here bs number b below; is = sym f ∙ new.made.exports })))
          (λ (ne : i ≡ number → ⊥). shown_grow ps bs cs grows i c (old.right_shown i c (set_back es number e below_es i ne (Some c) h)))
          (cases_eq i number);
    }

-- in the end

pub numbered_from : {A B : Type 0} (R : ℕ → A → B → Type 0) (k : ℕ) (xs : List A) (ys : List B) → length ys ≡ length xs → ((i : ℕ) (x : A) (y : B) → slice_get xs i ≡ Some x → slice_get ys i ≡ Some y → R (k + i) x y) → AllNumbered R k xs ys
numbered_from R k [] [] e h = tt
numbered_from R k [] (y ∷ ys) e h = absurd (omega (arith, e))
numbered_from R k (x ∷ xs) [] e h = absurd (omega (arith, e))
numbered_from R k (x ∷ xs) (y ∷ ys) e h = (
  (let n : k + 0 ≡ k = omega arith in subst (λ m. R m x y) n (h 0 x y refl refl)),
  numbered_from R (suc k) xs ys (omega (arith, e)) (λ i a b p q. (let n : k + suc i ≡ suc k + i = omega arith in subst (λ m. R m a b) n (h (suc i) a b p q))),
)

entry : (ps : List PackageModel) (plan : PlanModel) (bs : List (Option BlocksModel)) (es : List (Option ExportsModel)) (i : ℕ) (p : PackageModel) (o : Option BlocksModel) → IsPlan ps plan → AreMade ps plan.order bs es → slice_get ps i ≡ Some p → slice_get bs i ≡ Some o → AreBlocksOrNone ps bs i p o
entry ps plan bs es i p None planned made at has = λ assembled.
    let b = made.made i ((planned.each i).1 (p.0, p.1, at, assembled)) in
    let e : Some None ≡ Some (Some b.0) = sym has ∙ b.1 in
    cc
entry ps plan bs es i p (Some b) planned made at has =
    let r = made.right i b has in
    let assembled = (planned.each i).0 r.0 in
    let same : (assembled.0, assembled.1) ≡ p = (let e : Some (assembled.0, assembled.1) ≡ Some p = sym assembled.2 ∙ at in cc) in
    (subst (λ (q : PackageModel). IsAssembled q.1) same assembled.3, r.1)

pub all_made : (ps : List PackageModel) (plan : PlanModel) (bs : List (Option BlocksModel)) (es : List (Option ExportsModel)) → IsPlan ps plan → AreMade ps plan.order bs es → AreAllBlocks ps bs
all_made ps plan bs es planned made = numbered_from (λ number p b. AreBlocksOrNone ps bs number p b) 0 ps bs made.count (λ i p o at has. (let n : i ≡ 0 + i = omega arith in subst (λ m. AreBlocksOrNone ps bs m p o) n (entry ps plan bs es i p o planned made at has)))
