-- A name that denotes a local denotes one that is noted.
use Rattle.std.proofs.Common.{◌≡◌, ℕ, Bool, true, false, cond, not, ◌&&◌, List, [], ◌∷◌, ◌++◌, filter, Option, Some, None, Contains, refl, sym, ap, subst, ◌∙◌}
use Rattle.std.specs.Prelude.{find}
use Rattle.std.specs.List.{flat_map, list_all}
use Rattle.std.specs.Option.{option_map}
use Rattle.std.specs.Str.{bytes_eq}
use Rattle.std.proofs.lemmas.List.Elements.{Contains-append_left, Contains-append_right, Contains-push}
use Rattle.go_text_core.proofs.Each.{Each, each-weaker, each-filter}
use Rattle.go_names_core.specs.scope_stack.Blocks.{or_else}
use Rattle.go_local_core.specs.Binding.{Local, bound, shown, is_second, region_has, innermost_of}
use Rattle.go_local_core.specs.Binding as binding
use Rattle.go_env_core.specs.declared.meaning.Meaning.{Meaning}
use Rattle.go_env_core.specs.declared.meaning.Meaning.TheVariants as meanings
use Rattle.go_body_core.specs.Notes.{TheValue, TheLocal}
use Rattle.go_body_core.specs.Rules.{local_if}
use Rattle.go_body_core.specs.function.Types.{is_local_meaning}
use Rattle.go_body_core.specs.function.Locals.{declared_locals}
use Rattle.go_body_core.proofs.FunctionDeclared.{held}

-- a declaration gives its local
module _ (all : List (Local Meaning)) where
  abbrev Gives : List TheLocal → Local Meaning → Type 0
  Gives ls d = (l : TheLocal) → Contains (held all d) l → Contains ls l

  -- each declaration of a list gives its local
  each_gives : (ds : List (Local Meaning)) (ls : List TheLocal) → ((l : TheLocal) → Contains (flat_map (held all) ds) l → Contains ls l) → Each (Gives ls) ds
  each_gives [] ls h = tt
  each_gives (d ∷ ds) ls h =
      (λ l there. h l (Contains-append_left (held all d) (flat_map (held all) ds) l there), each_gives ds ls (λ l there. h l (Contains-append_right (held all d) (flat_map (held all) ds) l there)))

  -- of those that are shown at a place each gives the local that it means
  abbrev Means : List TheLocal → Local Meaning → Type 0
  Means ls d = (at : ℕ) (value : TheValue) → d.means ≡ meanings.Local at value → Contains ls (record { offset = at; value = value })

  shown_means : (place : ℕ) (ls : List TheLocal) (ds : List (Local Meaning)) → Each (Gives ls) ds → Each (Means ls) (shown all place ds)
  shown_means place ls [] h = tt
  shown_means place ls (d ∷ ds) h = by (region_has d place) (is_second all d.opens d.name d.at) h.0 (shown_means place ls ds h.1)
    where
      by : (r s : Bool) → ((l : TheLocal) → Contains (local_if (not s) d.means) l → Contains ls l) → Each (Means ls) (shown all place ds)
          → Each (Means ls) (cond (r && not s) (d ∷ shown all place ds) (shown all place ds))
      by true false g rest = (
        λ at value e. g (record { offset = at; value = value }) (subst (λ m. Contains (local_if true m) (record { offset = at; value = value })) (sym e) (Contains-push [] (record { offset = at; value = value }))),
        rest,
      )
      by true true g rest = rest
      by false true g rest = rest
      by false false g rest = rest

  found_means : (q : Local Meaning → Bool) (ls : List TheLocal) (ds : List (Local Meaning)) → Each (Means ls) ds → (at : ℕ) (value : TheValue)
      → option_map (λ d. d.means) (find q ds) ≡ Some (meanings.Local at value) → Contains ls (record { offset = at; value = value })
  found_means q ls [] h at value e = absurd (let e' : None ≡ Some (meanings.Local at value) = e in cc)
  found_means q ls (d ∷ ds) h at value e = by (q d) (found_means q ls ds h.1 at value) e
    where
      same : Some d.means ≡ Some (meanings.Local at value) → d.means ≡ meanings.Local at value
      same e = cc

      by : (b : Bool) → (option_map (λ d. d.means) (find q ds) ≡ Some (meanings.Local at value) → Contains ls (record { offset = at; value = value }))
          → option_map (λ d. d.means) (cond b (Some d) (find q ds)) ≡ Some (meanings.Local at value) → Contains ls (record { offset = at; value = value })
      by true rest e = h.0 at value (same e)
      by false rest e = rest e

  pub denoted_declared : (beyond : List ℕ → Option Meaning) (name : List ℕ) (place at : ℕ) (value : TheValue) → is_local_meaning (beyond name) ≡ false → bound beyond all name place ≡ Some (meanings.Local at value)
      → Contains (declared_locals all) (record { offset = at; value = value })
  denoted_declared beyond name place at value outside =
      let found : List (Local Meaning) = filter (λ d. bytes_eq name d.name) (shown all place all) in
      let means : Each (Means (declared_locals all)) found = each-filter (Means (declared_locals all)) (λ d. bytes_eq name d.name) (shown all place all) (shown_means place (declared_locals all) all (each_gives all (declared_locals all) (λ l there. there))) in
      by (innermost_of found) (beyond name) outside (found_means (λ d. list_all (λ e. binding.is_inside d e) found) (declared_locals all) found means at value)
    where
      none : (o : Option Meaning) → is_local_meaning o ≡ false → o ≡ Some (meanings.Local at value) → Contains (declared_locals all) (record { offset = at; value = value })
      none None h e = absurd (let e' : None ≡ Some (meanings.Local at value) = e in cc)
      none (Some (meanings.Outside o)) h e = absurd (let e' : Some (meanings.Outside o) ≡ Some (meanings.Local at value) = e in cc)
      none (Some (meanings.Local a v)) h e = absurd (cc)

      by : (m o : Option Meaning) → is_local_meaning o ≡ false → (m ≡ Some (meanings.Local at value) → Contains (declared_locals all) (record { offset = at; value = value })) → or_else m o ≡ Some (meanings.Local at value)
          → Contains (declared_locals all) (record { offset = at; value = value })
      by None o h k e = none o h e
      by (Some x) o h k e = k e
