-- What blocks have at a name.
use Rattle.std.proofs.Common.{◌≡◌, ℕ, ◌<◌, zero, suc, Bool, true, false, ◌&&◌, inl, inr, List, [], ◌∷◌, ◌++◌, length, get_or, All, Option, Some, None, is_some, cond, refl, sym, ap, subst, ◌∙◌, arith}
use Rattle.std.specs.Prelude.{Any, slice_get}
use Rattle.std.specs.Str.{bytes_eq}
use Rattle.std.specs.Map.{lookup}
use Rattle.std.proofs.lemmas.Bool.{true≢false}
use Rattle.std.proofs.lemmas.List.Elements.{All-cons, All-head, All-tail}
use Rattle.std.proofs.lemmas.Slice.Eq.{bytes_eq-Decides}
use Rattle.go_tree_nodes.specs.text_core.Each.{true_or_false}
use Rattle.go_decl_core.specs.declared.keys.DeclRef.{DeclRef}
use Rattle.go_block_core.specs.declared.binding.Binding.{Binding}
use Rattle.go_block_core.specs.Blocks.{in_some}
use Rattle.go_block_core.specs.Declarations.{PackageDeclaration, is_bindable, package_declared}
use Rattle.go_block_core.specs.Bindings.{Bound, file_bound}
use Rattle.go_block_core.specs.Holding.{with_declared, declared_block, with_bound, bound_block}
use Rattle.go_block_core.specs.Laws.{IsFirstOf, Declares, IsOfName, PackageHolds, FileHolds, NeverHidden, FileAnswers}
use Rattle.go_block_core.specs.Tables.{in_block, has, with_first}
use Rattle.go_block_core.proofs.FaultLemmas.{both}

-- the value of the first that passes
abbrev pub first_by : {T V : Type 0} → (T → Bool) → (T → V) → List T → Option V
first_by t value [] = None
first_by t value (x ∷ xs) = cond (t x) (Some (value x)) (first_by t value xs)

module _ {T V : Type 0} (t : T → Bool) (value : T → V) (P : T → Type 0) (yes : (x : T) → t x ≡ true → P x) (back : (x : T) → P x → t x ≡ true) where
  at_head : (x : T) (xs : List T) (b : Bool) → t x ≡ b → first_by t value (x ∷ xs) ≡ cond b (Some (value x)) (first_by t value xs)
  at_head x xs b e = ap (λ c. cond c (Some (value x)) (first_by t value xs)) e

  pub found : (xs : List T) (v : V) → first_by t value xs ≡ Some v → IsFirstOf P value xs v
  found [] v h = (let j : None ≡ Some v = h in cc)
  found (x ∷ xs) v h = elim (true_or_false (t x)) [
    | inl e ↦ (let j : Some (value x) ≡ Some v = sym (at_head x xs true e) ∙ h in record {
      before = [];
      first = x;
      after = xs;
      split = refl;
      holds = yes x e;
      none = λ k d lt. absurd (omega arith);
      is = cc;
    })
    | inr e ↦ (let r : IsFirstOf P value xs v = found xs v (sym (at_head x xs false e) ∙ h) in record {
      before = x ∷ r.before;
      first = r.first;
      after = r.after;
      split = ap (λ l. x ∷ l) r.split;
      holds = r.holds;
      none = All-cons (λ y. P y → ⊥) x r.before (λ p. true≢false (sym (back x p) ∙ e)) r.none;
      is = r.is;
    })
  ]

  pub is_found : (before : List T) (x : T) (after : List T) → All (λ y. P y → ⊥) before → P x → first_by t value (before ++ x ∷ after) ≡ Some (value x)
  is_found [] x after none p = at_head x after true (back x p)
  is_found (y ∷ ys) x after none p = elim (true_or_false (t y)) [
    | inl e ↦ absurd (All-head (λ z. P z → ⊥) y ys none (yes y e))
    | inr e ↦ at_head y (ys ++ x ∷ after) false e ∙ is_found ys x after (All-tail (λ z. P z → ⊥) y ys none) p
  ]

  pub from_first : (xs : List T) (v : V) → IsFirstOf P value xs v → first_by t value xs ≡ Some v
  from_first xs v r = ap (first_by t value) r.split ∙ (is_found r.before r.first r.after r.none r.holds ∙ ap Some r.is)

  pub some_any : (xs : List T) → is_some (first_by t value xs) ≡ true → Any P xs
  some_any [] h = (let j : false ≡ true = h in cc)
  some_any (x ∷ xs) h = elim (true_or_false (t x)) [
    | inl e ↦ (0, x, omega arith, refl, yes x e)
    | inr e ↦ (let r : Any P xs = some_any xs (sym (ap is_some (at_head x xs false e)) ∙ h) in (suc r.0, r.1, omega (arith, r.2), r.3, r.4))
  ]

  any_some_at : (xs : List T) (k : ℕ) (x : T) → k < length xs → get_or xs k x ≡ x → P x → is_some (first_by t value xs) ≡ true
  any_some_at [] k x lt e p = absurd (omega arith)
  any_some_at (y ∷ ys) zero x lt e p = ap is_some (at_head y ys true (back y (subst P (sym e) p)))
  any_some_at (y ∷ ys) (suc k) x lt e p = elim (true_or_false (t y)) [
    | inl h ↦ ap is_some (at_head y ys true h)
    | inr h ↦ ap is_some (at_head y ys false h) ∙ any_some_at ys k x (omega arith) e p
  ]

  pub any_some : (xs : List T) → Any P xs → is_some (first_by t value xs) ≡ true
  any_some xs h = any_some_at xs h.0 h.1 h.2 h.3 h.4

-- look-ups

module _ {X : Type 0} where
  abbrev pub or_else : Option X → Option X → Option X
  or_else (Some a) b = Some a
  or_else None b = b

  or_none : (o : Option X) → o ≡ or_else o None
  or_none (Some a) = refl
  or_none None = refl

  or_some : (o p : Option X) → is_some o ≡ true → o ≡ or_else o p
  or_some (Some a) p h = refl
  or_some None p h = (let j : false ≡ true = h in cc)

  or_more : (o : Option X) (b : Bool) (x : X) (r : Option X) → or_else (or_else o (cond b (Some x) None)) r ≡ or_else o (cond b (Some x) r)
  or_more (Some a) b x r = refl
  or_more None true x r = refl
  or_more None false x r = refl

  lookup_append : (t : List ℕ → Bool) (xs ys : List (List ℕ × X)) → lookup t (xs ++ ys) ≡ or_else (lookup t xs) (lookup t ys)
  lookup_append t [] ys = refl
  lookup_append t (e ∷ es) ys = by (t e.0) (lookup_append t es ys)
    where
      by : (b : Bool) → lookup t (es ++ ys) ≡ or_else (lookup t es) (lookup t ys) → cond b (Some e.1) (lookup t (es ++ ys)) ≡ or_else (cond b (Some e.1) (lookup t es)) (lookup t ys)
      by true h = refl
      by false h = h

  -- what a block has behind one more name
  in_with_first : (b : List (List ℕ × X)) (n : List ℕ) (x : X) (q : List ℕ) → in_block (with_first b n x) q ≡ or_else (in_block b q) (cond (bytes_eq q n) (Some x) None)
  in_with_first b n x q = elim (true_or_false (has b n)) [
    | inl h ↦ ap (λ c. in_block (cond c b (b ++ (n, x) ∷ [])) q) h ∙ elim (true_or_false (bytes_eq q n)) [
      | inl e ↦ (let same : q ≡ n = (bytes_eq-Decides q n).0 e in or_some (in_block b q) (cond (bytes_eq q n) (Some x) None) (ap (λ r. is_some (in_block b r)) same ∙ h))
      | inr e ↦ or_none (in_block b q) ∙ ap (λ c. or_else (in_block b q) (cond c (Some x) None)) (sym e)
    ]
    | inr h ↦ ap (λ c. in_block (cond c b (b ++ (n, x) ∷ [])) q) h ∙ lookup_append (bytes_eq q) b ((n, x) ∷ [])
  ]

-- declarations

abbrev pub declares : List ℕ → PackageDeclaration → Bool
declares q d = is_bindable d.name && bytes_eq q d.name

pub declares_yes : (q : List ℕ) (d : PackageDeclaration) → declares q d ≡ true → Declares q d
declares_yes q d h = let parts = both (is_bindable d.name) (bytes_eq q d.name) h in (parts.0, (bytes_eq-Decides q d.name).0 parts.1)

pub declares_back : (q : List ℕ) (d : PackageDeclaration) → Declares q d → declares q d ≡ true
declares_back q d h = ap (λ b. b && bytes_eq q d.name) h.0 ∙ (bytes_eq-Decides q d.name).1 h.1

in_with_declared : (b : List (List ℕ × DeclRef)) (d : PackageDeclaration) (q : List ℕ) → in_block (with_declared b d) q ≡ or_else (in_block b q) (cond (declares q d) (Some d.decl) None)
in_with_declared b d q = by (is_bindable d.name)
  where
    by : (c : Bool) → in_block (cond c (with_first b d.name d.decl) b) q ≡ or_else (in_block b q) (cond (c && bytes_eq q d.name) (Some d.decl) None)
    by true = in_with_first b d.name d.decl q
    by false = or_none (in_block b q)

pub in_declared : (b : List (List ℕ × DeclRef)) (ds : List PackageDeclaration) (q : List ℕ) → in_block (declared_block b ds) q ≡ or_else (in_block b q) (first_by (declares q) (λ d. d.decl) ds)
in_declared b [] q = or_none (in_block b q)
in_declared b (d ∷ ds) q =
    in_declared (with_declared b d) ds q
    ∙ (ap (λ o. or_else o (first_by (declares q) (λ e. e.decl) ds)) (in_with_declared b d q)
    ∙ or_more (in_block b q) (declares q d) d.decl (first_by (declares q) (λ e. e.decl) ds))

pub package_holds : PackageHolds
package_holds trees name d =
    let is = in_declared [] (package_declared trees) name in (
      λ h. found (declares name) (λ x. x.decl) (Declares name) (declares_yes name) (declares_back name) (package_declared trees) d (sym is ∙ h),
      λ r. is ∙ from_first (declares name) (λ x. x.decl) (Declares name) (declares_yes name) (declares_back name) (package_declared trees) d r,
    )

-- bindings

abbrev pub names : List ℕ → Bound → Bool
names q b = bytes_eq q b.name

pub names_yes : (q : List ℕ) (b : Bound) → names q b ≡ true → IsOfName q b
names_yes q b h = (bytes_eq-Decides q b.name).0 h

pub names_back : (q : List ℕ) (b : Bound) → IsOfName q b → names q b ≡ true
names_back q b h = (bytes_eq-Decides q b.name).1 h

pub in_bound : (b : List (List ℕ × Binding)) (ns : List Bound) (q : List ℕ) → in_block (bound_block b ns) q ≡ or_else (in_block b q) (first_by (names q) (λ n. n.binding) ns)
in_bound b [] q = or_none (in_block b q)
in_bound b (n ∷ ns) q =
    in_bound (with_bound b n) ns q
    ∙ (ap (λ o. or_else o (first_by (names q) (λ m. m.binding) ns)) (in_with_first b n.name n.binding q)
    ∙ or_more (in_block b q) (names q n) n.binding (first_by (names q) (λ m. m.binding) ns))

pub file_holds : FileHolds
file_holds imports name b =
    let is = in_bound [] (file_bound imports) name in (
      λ h. found (names name) (λ x. x.binding) (IsOfName name) (names_yes name) (names_back name) (file_bound imports) b (sym is ∙ h),
      λ r. is ∙ from_first (names name) (λ x. x.binding) (IsOfName name) (names_yes name) (names_back name) (file_bound imports) b r,
    )

pub never_hidden : NeverHidden
never_hidden b file name d h = ap (λ o. cond (is_some o) None (in_some (slice_get b.files file) name)) h

answer_meaning : (o : Option DeclRef) (r : Option (List (List ℕ × Binding))) (name : List ℕ) (x : Binding) → cond (is_some o) None (in_some r name) ≡ Some x → (o ≡ None) × (block : List (List ℕ × Binding)) × (r ≡ Some block) × (in_block block name ≡ Some x)
answer_meaning (Some d) r name x h = (let j : None ≡ Some x = h in cc)
answer_meaning None None name x h = (let j : None ≡ Some x = h in cc)
answer_meaning None (Some block) name x h = (refl, block, refl, h)

pub file_answers : FileAnswers
file_answers b file name x = (
  λ h. (let r = answer_meaning (in_block b.names name) (slice_get b.files file) name x h in (r.0, record { block = r.1; of_file = r.2; holds = r.3 })),
  λ h. ap (λ o. cond (is_some o) None (in_some (slice_get b.files file) name)) h.0 ∙ (ap (λ r. in_some r name) h.1.of_file ∙ h.1.holds),
)
