-- The sample is computed.
use Rattle.std.proofs.Common.{◌≡◌, ℕ, List, [], ◌∷◌, refl, subst}
use Rattle.go_universe_core.specs.Universe.{found, spelling_of}
use Rattle.go_names_core.specs.scope_core.Scopes.{universe}
use Rattle.go_digraph_core.specs.needs.Needs.{NeedsLead}
use Rattle.go_digraph_core.proofs.NeedsEdges.{one_inside}
use Rattle.go_value_core.specs.Around.{LeadsBack}
use Rattle.go_value_core.specs.Package.{package_needs, IsThroughItself}
use Rattle.go_value_core.specs.Sample.{ValueSampleIsRight, value_sample_scene, value_sample}

abbrev rows : List (List ℕ)
rows = (1 ∷ (1 ∷ [])) ∷ ([] ∷ ((3 ∷ []) ∷ ((2 ∷ []) ∷ ((2 ∷ []) ∷ ((0 ∷ []) ∷ ((1 ∷ []) ∷ ([] ∷ ([] ∷ []))))))))

c_back : LeadsBack rows 2
c_back = record { first = 3; around = 2 ∷ []; back = (one_inside 3, (one_inside 2, refl)) }

d_back : LeadsBack rows 3
d_back = record { first = 2; around = 3 ∷ []; back = (one_inside 2, (one_inside 3, refl)) }

needs_is : package_needs value_sample_scene value_sample ≡ rows
unfolding found spelling_of universe
needs_is = refl

pub sample_is_right : ValueSampleIsRight
unfolding found spelling_of universe
sample_is_right = record {
  needs = refl;
  b_is = refl;
  a_is = refl;
  w_is = refl;
  v_is = refl;
  e_is = refl;
  x_is = refl;
  y_is = refl;
  c_through = record { constant = refl; leads = c_back };
  d_through = record { constant = refl; leads = d_back };
}
