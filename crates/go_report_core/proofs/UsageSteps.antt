-- Steps of the loops.
use Rattle.std.proofs.Common.{◌≡◌, ℕ, zero, suc, ◌+◌, ◌<◌, List, [], ◌∷◌, ◌++◌, length, get_or, drop, map, Option, Some, refl, sym, ap, subst, ◌∙◌, arith, append_assoc}
use Rattle.std.specs.Prelude.{slice_get}
use Rattle.std.specs.List.{flat_map}
use Rattle.std.proofs.lemmas.Option.{slice_get_read}
use Rattle.go_tree_nodes.specs.declared.files.ImportDecl.{ImportDecl}
use Rattle.go_tree_nodes.specs.declared.files.ImportLine.{ImportLine}
use Rattle.go_tree_nodes.specs.Shapes.{import_of, shape_import_line, shape_import_specs}
use Rattle.go_tree_nodes.specs.Trees.{ImportSpecTree}
use Rattle.go_tree_core.specs.declared.occurrence.Occ.{Occ}
use Rattle.go_block_core.specs.Blocks.{BlocksModel}
use Rattle.go_block_core.specs.Naming.{specs_in, specs_of}
use Rattle.go_report_core.specs.usage.Used.{FileUse, blank_place, used_by, used_places}
use Rattle.go_report_core.specs.usage.mirrors.Steps.{some_used, with_places}
use Rattle.go_report_core.proofs.UsagePlaces.{places_append}

-- the imports with the name `_`

-- that of a line
abbrev pub line_blank : ImportLine → List ℕ
line_blank line = blank_place (shape_import_line line).0

pub group_blanks : (lines : List ImportLine) → flat_map blank_place (map (λ i. i.0) (map shape_import_line lines)) ≡ flat_map line_blank lines
group_blanks [] = refl
group_blanks (line ∷ lines) = ap (λ l. line_blank line ++ l) (group_blanks lines)

flat_append : (xs ys : List ImportSpecTree) → flat_map blank_place (xs ++ ys) ≡ flat_map blank_place xs ++ flat_map blank_place ys
flat_append [] ys = refl
flat_append (x ∷ xs) ys = ap (λ l. blank_place x ++ l) (flat_append xs ys) ∙ sym (append_assoc (blank_place x) (flat_map blank_place xs) (flat_map blank_place ys))

-- those of a declaration
abbrev pub decl_blanks : ImportDecl → List ℕ
decl_blanks i = flat_map blank_place (specs_in (shape_import_specs i.specs))

pub all_blanks : (is : List ImportDecl) → flat_map decl_blanks is ≡ flat_map blank_place (specs_of (map import_of is))
all_blanks [] = refl
all_blanks (i ∷ is) = ap (λ l. decl_blanks i ++ l) (all_blanks is) ∙ sym (flat_append (specs_in (shape_import_specs i.specs)) (specs_of (map import_of is)))

-- the imports that are used

module _ (b : BlocksModel) (file : ℕ) where
  none_used : (os : List Occ) → used_places b file os [] ≡ []
  none_used [] = refl
  none_used (o ∷ os) = refl

  split : (os : List Occ) (us : List FileUse) (n : ℕ) (o : Occ) → slice_get os n ≡ Some o
      → used_places b file (drop n os) (drop n us) ≡ some_used b file o (slice_get us n) (slice_get us (suc n)) ++ used_places b file (drop (suc n) os) (drop (suc n) us)
  split [] us n o at = cc
  split (x ∷ os) [] zero o at = sym (none_used os)
  split (x ∷ os) (u ∷ us) zero o at = (let same : x ≡ o = cc in ap (λ z. used_by b file z u (slice_get us 0) ++ used_places b file os us) same)
  split (x ∷ os) [] (suc n) o at = none_used (drop n os) ∙ sym (none_used (drop (suc n) os))
  split (x ∷ os) (u ∷ us) (suc n) o at = split os us n o at

  pub some_both : (o : Occ) (x y p q : Option FileUse) (now new : List ℕ) → new ≡ with_places now (some_used b file o x y) → x ≡ p → y ≡ q → new ≡ with_places now (some_used b file o p q)
  some_both o x y p q now new e h k = e ∙ (ap (λ z. with_places now (some_used b file o z y)) h ∙ ap (λ z. with_places now (some_used b file o p z)) k)

  pub used_step : (os : List Occ) (us : List FileUse) (n : ℕ) (o : Occ) (now new all : List ℕ) → n < length os → o ≡ get_or os n o
      → new ≡ with_places now (some_used b file o (slice_get us n) (slice_get us (n + 1)))
      → with_places now (used_places b file (drop n os) (drop n us)) ≡ all
      → with_places new (used_places b file (drop (n + 1) os) (drop (n + 1) us)) ≡ all
  used_step os us n o now new all lt is added before =
      let next : suc n ≡ n + 1 = omega arith in
      let here = some_used b file o (slice_get us n) (slice_get us (n + 1)) in
      let there : slice_get os n ≡ Some o = slice_get_read os (length os) n o refl lt is in
      let whole : used_places b file (drop n os) (drop n us) ≡ here ++ used_places b file (drop (n + 1) os) (drop (n + 1) us) = subst (λ (m : ℕ). used_places b file (drop n os) (drop n us) ≡ some_used b file o (slice_get us n) (slice_get us m) ++ used_places b file (drop m os) (drop m us)) next (split os us n o there) in
      ap (λ l. with_places l (used_places b file (drop (n + 1) os) (drop (n + 1) us))) added
      ∙ (sym (places_append now here (used_places b file (drop (n + 1) os) (drop (n + 1) us)))
      ∙ (ap (with_places now) (sym whole) ∙ before))
