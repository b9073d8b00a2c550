-- No two names of a package block are the same.
use Rattle.std.proofs.Common.{◌≡◌, ℕ, Bool, true, false, List, [], ◌∷◌, ◌++◌, map, Some, refl, sym, ap, ◌∙◌, subst}
use Rattle.std.specs.Prelude.{◌||◌, is_some, if◌then◌else◌}
use Rattle.std.specs.Cmp.{IsEquivalence}
use Rattle.std.specs.List.{AllByRecursion, IsDistinct, filter, list_any}
use Rattle.std.specs.Map.{lookup}
use Rattle.std.specs.Str.{bytes_eq}
use Rattle.std.proofs.lemmas.Slice.Eq.{bytes_eq-Decides}
use Rattle.std.proofs.lemmas.Map.Keys.{IsDistinct-cons, IsDistinct-head, IsDistinct-push, IsDistinct-tail}
use Rattle.go_block_core.specs.decl_core.declared.keys.DeclRef.{DeclRef}
use Rattle.go_block_core.specs.graph_core.Packages.{Trees}
use Rattle.go_block_core.specs.Declarations.{PackageDeclaration, is_bindable, package_declared}
use Rattle.go_block_core.specs.Exports.{exported_names}
use Rattle.go_block_core.specs.Holding.{declared_block, package_block, with_declared}
use Rattle.go_block_core.specs.Tables.{has, with_first}

abbrev Names : Type 0
Names = List (List ℕ × DeclRef)

abbrev keys : Names → List (List ℕ)
keys ns = map (λ e. e.0) ns

abbrev pub AreApart : Names → Type 0
AreApart ns = IsDistinct bytes_eq (keys ns)

keys_push : (ns : Names) (e : List ℕ × DeclRef) → keys (ns ++ e ∷ []) ≡ keys ns ++ e.0 ∷ []
keys_push [] e = refl
keys_push (n ∷ ns) e = ap (λ l. n.0 ∷ l) (keys_push ns e)

not_any : (ns : Names) (name : List ℕ) → has ns name ≡ false → list_any (bytes_eq name) (keys ns) ≡ false
not_any [] name h = refl
not_any (n ∷ ns) name h = by (bytes_eq name n.0) refl h (not_any ns name)
  where
    by : (b : Bool) → bytes_eq name n.0 ≡ b → is_some (if b then Some n.1 else lookup (bytes_eq name) ns) ≡ false → (has ns name ≡ false → list_any (bytes_eq name) (keys ns) ≡ false) → list_any (bytes_eq name) (keys (n ∷ ns)) ≡ false
    by true e h rest = cc
    by false e h rest = ap (λ b. b || list_any (bytes_eq name) (keys ns)) e ∙ rest h

same_bools : (a b : Bool) → (a ≡ true → b ≡ true) → (b ≡ true → a ≡ true) → a ≡ b
same_bools true b f g = sym (f refl)
same_bools false true f g = g refl
same_bools false false f g = refl

pub bytes_eq_flips : (x y : List ℕ) → bytes_eq x y ≡ bytes_eq y x
bytes_eq_flips x y = same_bools (bytes_eq x y) (bytes_eq y x) (λ h. (bytes_eq-Decides y x).1 (sym ((bytes_eq-Decides x y).0 h))) (λ h. (bytes_eq-Decides x y).1 (sym ((bytes_eq-Decides y x).0 h)))

pub bytes_alike : IsEquivalence bytes_eq
bytes_alike = record {
  refl = λ x. (bytes_eq-Decides x x).1 refl;
  symm = bytes_eq_flips;
  congr = λ x y z h. ap (λ t. bytes_eq t z) ((bytes_eq-Decides x y).0 h);
}

first_apart : (ns : Names) (name : List ℕ) (d : DeclRef) → AreApart ns → AreApart (with_first ns name d)
first_apart ns name d h = by (has ns name) refl
  where
    by : (b : Bool) → has ns name ≡ b → AreApart (if b then ns else ns ++ (name, d) ∷ [])
    by true e = h
    by false e = subst (λ l. IsDistinct bytes_eq l) (sym (keys_push ns (name, d))) (IsDistinct-push bytes_alike (keys ns) name h (not_any ns name e))

declared_apart : (ns : Names) (ds : List PackageDeclaration) → AreApart ns → AreApart (declared_block ns ds)
declared_apart ns [] h = h
declared_apart ns (d ∷ ds) h = declared_apart (with_declared ns d) ds (by (is_bindable d.name))
  where
    by : (b : Bool) → AreApart (if b then with_first ns d.name d.decl else ns)
    by true = first_apart ns d.name d.decl h
    by false = h

none_apart : AreApart []
unfolding IsDistinct
none_apart = tt

pub block_apart : (ts : Trees) → AreApart (package_block ts)
block_apart ts = declared_apart [] (package_declared ts) none_apart

-- of those that pass

module _ (p : List ℕ × DeclRef → Bool) where
  each_kept : (P : List ℕ → Type 0) (ns : Names) → AllByRecursion P (keys ns) → AllByRecursion P (keys (filter p ns))
  each_kept P [] h = h
  each_kept P (n ∷ ns) h = by (p n) (each_kept P ns h.1)
    where
      by : (b : Bool) → AllByRecursion P (keys (filter p ns)) → AllByRecursion P (keys (if b then n ∷ filter p ns else filter p ns))
      by true rest = (h.0, rest)
      by false rest = rest

  kept_apart : (ns : Names) → AreApart ns → AreApart (filter p ns)
  kept_apart [] h = h
  kept_apart (n ∷ ns) h = by (p n) (kept_apart ns (IsDistinct-tail bytes_eq n.0 (keys ns) h))
    where
      by : (b : Bool) → AreApart (filter p ns) → AreApart (if b then n ∷ filter p ns else filter p ns)
      by true rest = IsDistinct-cons bytes_eq n.0 (keys (filter p ns)) (each_kept (λ y. bytes_eq n.0 y ≡ false) ns (IsDistinct-head bytes_eq n.0 (keys ns) h)) rest
      by false rest = rest

pub exported_apart : (ns : Names) → AreApart ns → AreApart (exported_names ns)
exported_apart ns h = kept_apart _ ns h
