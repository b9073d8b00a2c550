-- What the tests of package clauses say of a package.
use Rattle.std.proofs.Common.{◌≡◌, ◌≢◌, ℕ, ◌<◌, ◌≤◌, inl, inr, Bool, true, false, not, cond, List, [], ◌∷◌, length, get_or, All, Option, Some, None, Result, Ok, Err, slice_get, refl, sym, ◌∙◌, ap, subst, arith, zero, suc}
use Rattle.std.specs.Str.{bytes_eq}
use Rattle.std.specs.Option.{option_map}
use Rattle.std.specs.List.{position, position_or_len}
use Rattle.std.proofs.lemmas.List.Quantifiers.{position-Some}
use Rattle.std.proofs.lemmas.List.Sums.{fails_before_first}
use Rattle.std.proofs.lemmas.List.Elements.{All-cons, All-head, All-tail}
use Rattle.std.proofs.lemmas.Option.{slice_get-get_or, get_or_from_slice_get, slice_get_within}
use Rattle.std.proofs.lemmas.Bool.{ltb-false}
use Rattle.std.proofs.lemmas.Slice.Eq.{bytes_eq-Decides}
use lib.Dec.{ltb}
use Rattle.go_collections_core.specs.text_core.declared.rule.Rule.TheVariants.{K2, K3, K4}
use Rattle.go_collections_core.specs.text_core.Each.{true_or_false}
use Rattle.go_tree_nodes.specs.declared.names.Ident.{Ident}
use Rattle.go_tree_nodes.specs.Trees.{FileTree}
use Rattle.go_parse_core.specs.declared.error.SynFault.{SynFault}
use Rattle.go_graph_core.specs.Sources.{SourceModel, source, clause_of, clause_in}
use Rattle.go_graph_core.specs.mirrors.Clauses.{has_none, clause_has_name, place_in, lacks_clause, is_named, is_other}
use Rattle.go_graph_core.specs.Packages.{trees_of, HasNoClause, IsBlankAt, IsBlank, blank, DiffersAt, Differs, IsFirst, AllHaveTrees, NoneIsBlank, IsNameOf, IsK4, IsK3, IsK2, IsAssembled, IsPackageName, IsTreeAt, tree_shown}

-- positions

-- nothing passes where no position is found
pub none_passes : {A : Type 0} (t : A → Bool) (xs : List A) → position t xs ≡ None → All (λ x. t x ≡ false) xs
none_passes t xs h = elim (true_or_false (ltb (position_or_len t xs) (length xs))) [
  | inl e ↦ (let j : Some (position_or_len t xs) ≡ None = sym (ap (λ b. cond b (Some (position_or_len t xs)) None) e) ∙ h in cc)
  | inr e ↦ (let up : length xs ≤ position_or_len t xs = ltb-false _ _ e in λ k d lt. fails_before_first t xs k d (omega arith))
]

-- the first that passes is the first that P holds of
pub first_at : (t : SourceModel → Bool) (P : SourceModel → Type 0) → ((s : SourceModel) → t s ≡ true → P s) → ((s : SourceModel) → t s ≡ false → P s → ⊥) → (files : List SourceModel) (i : ℕ) (d : SourceModel) → position t files ≡ Some i → IsFirst P files i (get_or files i d)
first_at t P holds_if fails_if files i d h =
    let found = position-Some t files i d h in
    record {
      at = slice_get-get_or files i d found.0;
      holds = holds_if _ found.1;
      before = λ j o lt at p. fails_if o (subst (λ x. t x ≡ false) (get_or_from_slice_get files j o d at) (found.2 j lt)) p;
    }

-- what holds of all holds of the one at a place
pub all_at : (P : SourceModel → Type 0) (files : List SourceModel) (i : ℕ) (s : SourceModel) → All P files → slice_get files i ≡ Some s → P s
all_at P files i s all at = subst P (get_or_from_slice_get files i s s at) (all i s (slice_get_within files i s at))

-- the tests

pub lacks-true : (o : Option Ident) → has_none o ≡ true → o ≡ None
lacks-true None h = refl
lacks-true (Some id) h = cc

pub lacks-false : (o : Option Ident) → has_none o ≡ false → o ≡ None → ⊥
lacks-false None h e = cc
lacks-false (Some id) h e = cc

pub has_clause : (o : Option Ident) → has_none o ≡ false → (id : Ident) × (o ≡ Some id)
has_clause None h = cc
has_clause (Some id) h = (id, refl)

pub named-true : (name : List ℕ) (o : Option Ident) → clause_has_name name o ≡ true → (id : Ident) × (o ≡ Some id) × (id.name ≡ name) × (place_in o ≡ id.span.start)
named-true name None h = cc
named-true name (Some id) h = (id, refl, (bytes_eq-Decides id.name name).0 h, refl)

pub named-false : (name : List ℕ) (o : Option Ident) (id : Ident) → clause_has_name name o ≡ false → o ≡ Some id → id.name ≡ name → ⊥
named-false name None id h e same = cc
named-false name (Some x) id h e same =
    let here : x.name ≡ name = ap (λ (o : Option Ident). elim o [ None ↦ x.name | Some y ↦ y.name ]) e ∙ same in
    (let yes : clause_has_name name (Some x) ≡ true = (bytes_eq-Decides x.name name).1 here in cc)

-- a clause that is not of this name is of another
pub other-true : (name : List ℕ) (o : Option Ident) (id : Ident) → o ≡ Some id → not (clause_has_name name o) ≡ true → id.name ≢ name
other-true name o id e h = elim (true_or_false (clause_has_name name o)) [
  | inl y ↦ (let f : false ≡ true = sym (ap not y) ∙ h in cc)
  | inr n ↦ named-false name o id n e
]

-- the cases of an assembly

pub k4_of : (files : List SourceModel) (i : ℕ) → position lacks_clause files ≡ Some i → IsK4 files (record { rule = K4; file = i; offset = 0 })
k4_of [] i h = (let j : None ≡ Some i = h in cc)
k4_of (s ∷ ss) i h = record {
  rule = refl;
  file = get_or (s ∷ ss) i s;
  first = first_at lacks_clause HasNoClause (λ x. lacks-true (clause_of x)) (λ x. lacks-false (clause_of x)) (s ∷ ss) i s h;
  offset = refl;
}

pub all_have_trees : (files : List SourceModel) → position lacks_clause files ≡ None → AllHaveTrees files
all_have_trees files h = λ k d lt. lacks-false _ (none_passes lacks_clause files h k d lt)

blank_of : (s : SourceModel) → is_named blank s ≡ true → IsBlankAt s (place_in (clause_of s))
blank_of s h = let found = named-true blank (clause_of s) h in found

pub not_blank : (s : SourceModel) → is_named blank s ≡ false → IsBlank s → ⊥
not_blank s h b = named-false blank (clause_of s) b.1.0 h b.1.1 b.1.2

pub k3_of : (files : List SourceModel) (i at : ℕ) (r : SourceModel) → position lacks_clause files ≡ None → position (is_named blank) files ≡ Some i → r ≡ get_or files i r → at ≡ place_in (clause_of r) → IsK3 files (record { rule = K3; file = i; offset = at })
k3_of files i at r none h same e =
    let file : SourceModel = get_or files i r in
    let place : at ≡ place_in (clause_of file) = e ∙ ap (λ x. place_in (clause_of x)) same in
    record {
      rule = refl;
      trees = all_have_trees files none;
      file = file;
      first = first_at (is_named blank) IsBlank (λ x y. (place_in (clause_of x), blank_of x y)) not_blank files i r h;
      offset = subst (IsBlankAt file) (sym place) (blank_of file (position-Some (is_named blank) files i r h).1);
    }

pub none_is_blank : (files : List SourceModel) → position (is_named blank) files ≡ None → NoneIsBlank files
none_is_blank files h = λ k d lt. not_blank (get_or files k d) (none_passes (is_named blank) files h k d lt)

-- a file with a clause that is not of this name has another, here
differs_of : (name : List ℕ) (s : SourceModel) → lacks_clause s ≡ false → is_other name s ≡ true → DiffersAt name s (place_in (clause_of s))
differs_of name s some h =
    let found = has_clause (clause_of s) some in
    (found.0, found.1, other-true name (clause_of s) found.0 found.1 h, ap place_in found.1)

pub not_other : (name : List ℕ) (s : SourceModel) → is_other name s ≡ false → Differs name s → ⊥
not_other name s h b = elim (true_or_false (is_named name s)) [
  | inl y ↦
      let found = named-true name (clause_of s) y in
      (let same : Some b.1.0 ≡ Some found.0 = sym b.1.1 ∙ found.1 in b.1.2 (ap (λ (o : Option Ident). elim o [ None ↦ name | Some x ↦ x.name ]) same ∙ found.2))
  | inr n ↦ (let t : true ≡ false = sym (ap not n) ∙ h in cc)
]

pub k2_of : (files : List SourceModel) (name : List ℕ) (i at : ℕ) (r : SourceModel) → position lacks_clause files ≡ None → position (is_named blank) files ≡ None → IsNameOf name files → position (is_other name) files ≡ Some i → r ≡ get_or files i r → at ≡ place_in (clause_of r) → IsK2 files (record { rule = K2; file = i; offset = at })
k2_of files name i at r none fine first h same e =
    let file : SourceModel = get_or files i r in
    let found = position-Some (is_other name) files i r h in
    let differs : DiffersAt name file (place_in (clause_of file)) = differs_of name file (none_passes lacks_clause files none i r found.0) found.1 in
    let place : at ≡ place_in (clause_of file) = e ∙ ap (λ x. place_in (clause_of x)) same in
    record {
      rule = refl;
      trees = all_have_trees files none;
      named = none_is_blank files fine;
      name = name;
      is_name = first;
      file = file;
      first = record {
        at = slice_get-get_or files i r found.0;
        holds = (place_in (clause_of file), differs);
        before = λ j o lt at' p. not_other name o (subst (λ x. is_other name x ≡ false) (get_or_from_slice_get files j o r at') (found.2 j lt)) p;
      };
      offset = subst (DiffersAt name file) (sym place) differs;
    }

pub assembled_of : (files : List SourceModel) (name : List ℕ) → position lacks_clause files ≡ None → position (is_named blank) files ≡ None → IsNameOf name files → position (is_other name) files ≡ None → IsAssembled files
assembled_of files name none fine first h = record {
  trees = all_have_trees files none;
  named = none_is_blank files fine;
  name = name;
  is_name = first;
  same = λ k d lt. not_other name (get_or files k d) (none_passes (is_other name) files h k d lt);
}

-- the first file's clause is of this name
pub name_of_first : (files : List SourceModel) (r : SourceModel) (id : Ident) (name : List ℕ) → 0 < length files → r ≡ get_or files 0 r → Some id ≡ clause_of r → name ≡ id.name → IsNameOf name files
name_of_first files r id name some same e is = (get_or files 0 r, id, slice_get-get_or files 0 r some, sym (e ∙ ap clause_of same), is)

-- trees

-- a file has a tree where it has a clause
pub tree_of : (s : SourceModel) → (HasNoClause s → ⊥) → (f : FileTree) × (s.content ≡ Ok f)
tree_of s has = cases s.content refl
  where
    cases : (r : Result FileTree SynFault) → s.content ≡ r → (f : FileTree) × (s.content ≡ Ok f)
    cases (Ok f) e = (f, e)
    cases (Err fault) e = absurd (has (ap clause_in e))

-- so each file of those has one
pub has_tree_at : (files : List SourceModel) (i : ℕ) (s : SourceModel) → AllHaveTrees files → i < length files → s ≡ get_or files i s → (f : FileTree) × (s.content ≡ Ok f)
has_tree_at files i s all lt e = tree_of s (subst (λ x. HasNoClause x → ⊥) (sym e) (all i s lt))

-- trees_of at a file with a tree
pub one_more : (s : SourceModel) (ss : List SourceModel) (f : FileTree) → s.content ≡ Ok f → trees_of (s ∷ ss) ≡ (s.name, f) ∷ trees_of ss
one_more s ss f e = ap (λ r. trees_of (source s.name s.text r ∷ ss)) e

pub as_many : (files : List SourceModel) → AllHaveTrees files → length (trees_of files) ≡ length files
as_many [] all = refl
as_many (s ∷ ss) all =
    let has = tree_of s (All-head (λ x. HasNoClause x → ⊥) s ss all) in
    ap length (one_more s ss has.0 has.1) ∙ ap suc (as_many ss (All-tail (λ x. HasNoClause x → ⊥) s ss all))

-- the tree of a file, among the trees of all
pub tree_at : (files : List SourceModel) (i : ℕ) (s : SourceModel) (f : FileTree) → AllHaveTrees files → slice_get files i ≡ Some s → s.content ≡ Ok f → slice_get (trees_of files) i ≡ Some (s.name, f)
tree_at [] i s f all at e = cc
tree_at (x ∷ xs) zero s f all at e =
    let same : x ≡ s = (let j : Some x ≡ Some s = at in cc) in
    ap (λ l. slice_get l zero) (one_more x xs f (ap (λ y. y.content) same ∙ e)) ∙ ap (λ y. Some (y.name, f)) same
tree_at (x ∷ xs) (suc i) s f all at e =
    let has = tree_of x (All-head (λ y. HasNoClause y → ⊥) x xs all) in
    ap (λ l. slice_get l (suc i)) (one_more x xs has.0 has.1) ∙ tree_at xs i s f (All-tail (λ y. HasNoClause y → ⊥) x xs all) at e

-- a clause without another name has this one
only_name : (name : List ℕ) (s : SourceModel) (f : FileTree) → s.content ≡ Ok f → (Differs name s → ⊥) → f.name.name ≡ name
only_name name s f e never = elim (true_or_false (bytes_eq f.name.name name)) [
  | inl y ↦ (bytes_eq-Decides f.name.name name).0 y
  | inr n ↦ absurd (never (f.name.span.start, (f.name, ap clause_in e, (λ h. let j : false ≡ true = sym n ∙ (bytes_eq-Decides f.name.name name).1 h in cc), refl)))
]

-- the one name that is in each clause is in each tree
same_in_all : (name : List ℕ) (files : List SourceModel) → AllHaveTrees files → All (λ s. Differs name s → ⊥) files → All (λ t. t.1.name.name ≡ name) (trees_of files)
same_in_all name [] has all = λ k d lt. absurd (omega arith)
same_in_all name (s ∷ ss) has all =
    let tree = tree_of s (All-head (λ x. HasNoClause x → ⊥) s ss has) in
    let rest = same_in_all name ss (All-tail (λ x. HasNoClause x → ⊥) s ss has) (All-tail (λ x. Differs name x → ⊥) s ss all) in
    let here : tree.0.name.name ≡ name = only_name name s tree.0 tree.1 (All-head (λ x. Differs name x → ⊥) s ss all) in
    subst (All (λ t. t.1.name.name ≡ name)) (sym (one_more s ss tree.0 tree.1)) (All-cons (λ t. t.1.name.name ≡ name) (s.name, tree.0) (trees_of ss) here rest)

-- files have one name
pub one_name : (files : List SourceModel) (a b : List ℕ) → IsNameOf a files → IsNameOf b files → a ≡ b
one_name files a b p q =
    let same : p.0 ≡ q.0 = (let j : Some p.0 ≡ Some q.0 = sym p.2 ∙ q.2 in cc) in
    let id : p.1 ≡ q.1 = (let j : Some p.1 ≡ Some q.1 = sym p.3 ∙ (ap clause_of same ∙ q.3) in cc) in
    p.4 ∙ (ap (λ x. x.name) id ∙ sym q.4)

-- the name of an assembled package is in each of its trees
pub name_of : (files : List SourceModel) (name : List ℕ) → IsAssembled files → IsNameOf name files → IsPackageName (trees_of files) name
name_of files name well is = record {
  some = subst (λ n. 0 < n) (sym (as_many files well.trees)) (slice_get_within files 0 is.0 is.2);
  named = λ b. all_at (λ s. IsBlank s → ⊥) files 0 is.0 well.named is.2 (is.1.span.start, (is.1, is.3, sym is.4 ∙ b, refl));
  same = same_in_all name files well.trees (subst (λ n. All (λ s. Differs n s → ⊥) files) (one_name files well.name name well.is_name is) well.same);
}

-- the tree of a file of an assembled package
pub tree_there : (files : List SourceModel) (i : ℕ) (s : SourceModel) (f : FileTree) → IsAssembled files → i < length files → s ≡ get_or files i s → Ok f ≡ s.content → IsTreeAt files i f × (option_map tree_shown (slice_get (trees_of files) i) ≡ Some f)
tree_there files i s f well lt is e =
    let at : slice_get files i ≡ Some s = slice_get-get_or files i s lt ∙ ap Some (sym is) in
    ((s, at, sym e), ap (option_map tree_shown) (tree_at files i s f well.trees at (sym e)))
