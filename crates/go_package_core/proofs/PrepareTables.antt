-- Tables of values, and of flags.
use Rattle.std.proofs.Common.{◌≡◌, ℕ, suc, ◌<◌, Bool, true, false, List, [], ◌∷◌, All, length, refl, sym, ap, subst, ◌∙◌, arith}
use Rattle.std.specs.Prelude.{◌↔◌, Option, Some, None, Contains, slice_get, slice_index_or}
use Rattle.std.proofs.lemmas.Bool.{true≢false}
use Rattle.std.specs.Option.{option_map}
use Rattle.std.proofs.lemmas.List.{length-map}
use Rattle.go_type_core.specs.table_core.Entries.{Entry}
use Rattle.go_digraph_core.specs.needs.Needs.{AreValues, EndsWithin, IsEndless, LooksAtNeeds, known_in, needed}
use Rattle.go_digraph_core.proofs.NeedsNeeded.{one_table}
use Rattle.go_report_core.specs.declared_core.Faces.{TheFace}
use Rattle.go_report_core.specs.declared_core.Laws.{FileDecl}
use Rattle.go_value_core.specs.Around.{LeadsBack}
use Rattle.go_value_core.specs.Laws.{AreFaces}
use Rattle.go_value_core.specs.Package as values
use Rattle.go_value_core.specs.Package.{AreThroughThemselves, IsThroughItself, placed_decls}
use Rattle.go_value_core.proofs.Seeing.{looks_at_needs}
use Rattle.go_package_core.specs.prepare.Inlines.{initial_in}
use Rattle.go_package_core.specs.prepare.Laws.{DeclarationsHaveOneTable, ValuesAreAsWritten, package_placed}
use Rattle.go_package_core.specs.prepare.Packages.{PackageIn, outlines_in, scene_in}
use Rattle.go_package_core.specs.prepare.Values.{AreDeclared, AreLooped, IsLoopedConstant, declared_in, decls_in, needs_in, some_decl_constant}
use Rattle.go_package_core.proofs.PrepareValues.{at_place, faces_same, needs_same, placed_as, with_types}
use Rattle.go_tree_nodes.specs.Spelling.{IsPlaced}

-- a table of values where the needs are the same, and values by what is known in it
same_values : {V : Type 0} (rows more : List (List ℕ)) (value other : (ℕ → Option V) → ℕ → V) (table : List (Option V)) → rows ≡ more → ((a : ℕ) → value (known_in table) a ≡ other (known_in table) a)
    → AreValues V rows value table → AreValues V more other table
same_values rows more value other table e same t = record {
  as_many = t.as_many ∙ ap length e;
  ends = λ a v h. subst (λ r. EndsWithin r (length r) a) e (t.ends a v h);
  values = λ a v h. t.values a v h ∙ same a;
  endless = λ a lt h. subst (λ r. IsEndless r a) e (t.endless a (subst (λ r. a < length r) (sym e) lt) h);
}

module _ (p : PackageIn) (types : List Entry) where
  -- values

  pub values_written : (known : List (Option TheFace)) → All IsPlaced p.trees → AreFaces (scene_in p types) (package_placed p types) known → AreDeclared p types known
  values_written known all t =
      same_values (values.package_needs (scene_in p types) (package_placed p types)) (needs_in p types) (values.declared_face (scene_in p types) (package_placed p types)) (declared_in p types) known
      (needs_same p types) (λ a. faces_same p types all (known_in known) a) t

  values_made : (known : List (Option TheFace)) → All IsPlaced p.trees → AreDeclared p types known → AreFaces (scene_in p types) (package_placed p types) known
  values_made known all t =
      same_values (needs_in p types) (values.package_needs (scene_in p types) (package_placed p types)) (declared_in p types) (values.declared_face (scene_in p types) (package_placed p types)) known
      (sym (needs_same p types)) (λ a. sym (faces_same p types all (known_in known) a)) t

  looks : All IsPlaced p.trees → LooksAtNeeds (needs_in p types) (declared_in p types)
  looks all f g a h =
      sym (faces_same p types all f a)
      ∙ (looks_at_needs (scene_in p types) (package_placed p types) f g a (λ b has. h b (subst (λ rows. Contains (needed rows a) b) (needs_same p types) has))
      ∙ faces_same p types all g a)

  one_known : (one other : List (Option TheFace)) → All IsPlaced p.trees → AreDeclared p types one → AreDeclared p types other → one ≡ other
  one_known one other all t u = one_table TheFace (needs_in p types) (declared_in p types) one other (looks all) t u

  -- constants

  constant_as : (o : Option FileDecl) → values.some_constant (option_map (with_types (initial_in p types)) o) ≡ some_decl_constant o
  constant_as None = refl
  constant_as (Some d) = refl

  constants_same : (n : ℕ) → values.some_constant (slice_get (package_placed p types) n) ≡ some_decl_constant (slice_get (decls_in p) n)
  constants_same n = ap values.some_constant (at_place p types n) ∙ constant_as (slice_get (decls_in p) n)

  as_many : length (package_placed p types) ≡ length (decls_in p)
  as_many = ap length (sym (placed_as (initial_in p types) (outlines_in p))) ∙ length-map (decls_in p) (with_types (initial_in p types))

  loop_written : (n : ℕ) → IsThroughItself (scene_in p types) (package_placed p types) n → IsLoopedConstant p types n
  loop_written n h = record { constant = sym (constants_same n) ∙ h.constant; leads = subst (λ rows. LeadsBack rows n) (needs_same p types) h.leads }

  loop_made : (n : ℕ) → IsLoopedConstant p types n → IsThroughItself (scene_in p types) (package_placed p types) n
  loop_made n h = record { constant = constants_same n ∙ h.constant; leads = subst (λ rows. LeadsBack rows n) (sym (needs_same p types)) h.leads }

  pub looped_written : (flags : List Bool) → AreThroughThemselves (scene_in p types) (package_placed p types) flags → AreLooped p types flags
  looped_written flags h = record { as_many = h.as_many ∙ as_many; each = λ n. ((λ t. loop_written n ((h.each n).0 t)), (λ l. (h.each n).1 (loop_made n l))) }

  looped_made : (flags : List Bool) → AreLooped p types flags → AreThroughThemselves (scene_in p types) (package_placed p types) flags
  looped_made flags h = record { as_many = h.as_many ∙ sym as_many; each = λ n. ((λ t. loop_made n ((h.each n).0 t)), (λ l. (h.each n).1 (loop_written n l))) }

  one_looped : (one other : List Bool) → AreLooped p types one → AreLooped p types other → one ≡ other
  one_looped one other h k = same_flags one other (h.as_many ∙ sym k.as_many) (λ n. ((λ t. (k.each n).1 ((h.each n).0 t)), (λ t. (h.each n).1 ((k.each n).0 t))))
    where
      same_flag : (a b : Bool) → (a ≡ true) ↔ (b ≡ true) → a ≡ b
      same_flag true b h = sym (h.0 refl)
      same_flag false true h = absurd (true≢false (sym (h.1 refl)))
      same_flag false false h = refl

      same_flags : (one other : List Bool) → length one ≡ length other → ((n : ℕ) → (slice_index_or one n false ≡ true) ↔ (slice_index_or other n false ≡ true)) → one ≡ other
      same_flags [] [] e h = refl
      same_flags [] (b ∷ bs) e h = absurd (omega (arith, e))
      same_flags (a ∷ as') [] e h = absurd (omega (arith, e))
      same_flags (a ∷ as') (b ∷ bs) e h =
          let first = same_flag a b (h 0) in
          let rest = same_flags as' bs (let s : length as' ≡ length bs = omega (arith, e) in s) (λ n. h (suc n)) in
          λ i. first i ∷ rest i

pub values_as_written : ValuesAreAsWritten
values_as_written = record {
  values = λ p types known all. ((λ t. values_written p types known all t), (λ t. values_made p types known all t));
  looped = λ p types flags. ((λ h. looped_written p types flags h), (λ h. looped_made p types flags h));
}

pub have_one_table : DeclarationsHaveOneTable
have_one_table = record {
  values = λ p types one other all t u. one_known p types one other all t u;
  looped = λ p types one other h k. one_looped p types one other h k;
}
