-- Faults of a function, by where they come from.
use Rattle.std.proofs.Common.{◌≡◌, zero, suc, Bool, true, false, not, ◌&&◌, inl, inr, List, [], ◌∷◌, ◌++◌, map, refl, sym, ap, subst, ◌∙◌, arith}
use Rattle.std.specs.Prelude.{Contains, if◌then◌else◌}
use Rattle.std.proofs.lemmas.List.Elements.{Contains-append_left, Contains-append_right, Contains-append_cases}
use Rattle.go_tree_nodes.specs.Trees.{FuncTree}
use Rattle.go_local_core.specs.declared.Fault.{Fault}
use Rattle.go_local_core.specs.Law.{Out}
use Rattle.go_local_core.specs.walks.Ends.{are_terminating, lines_loop_faults}
use Rattle.go_body_core.specs.Ends.{returns_some, panics_at, calls_one, end_faults}
use Rattle.go_body_core.specs.env_core.declared.meaning.Meaning.{Meaning}
use Rattle.go_body_core.specs.Notes.{TheUse, NoteOf, all_uses, noted_faults}
use Rattle.go_spec_laws.specs.ending.Functions.{LacksReturn, lack_at, IsFaultOf, OfAPiece, OfAName, OfAJump, OfItsEnd}
use Rattle.go_spec_laws.specs.ending.FunctionLaws.{FunctionsHaveTheirFaults}
use Rattle.go_spec_laws.proofs.EndingLacking.{declares, end_found, are_lacked}
use Rattle.go_spec_laws.proofs.EndingStraying.{are_faults}

end_by : (r e : Bool) (g x : Fault) → Contains (if r && not e then g ∷ [] else []) x → (r ≡ true) × (e ≡ false) × (x ≡ g)
end_by true true g x h = absurd (omega (arith, h.1))
end_by true false g x (zero, lt, is) = (refl, refl, sym is)
end_by true false g x (suc k, lt, is) = absurd (omega (arith, lt))
end_by false e g x h = absurd (omega (arith, h.1))

end_lacks : (us : List TheUse) (f : FuncTree) (x : Fault) → Contains (end_faults us f) x → LacksReturn us f × (x ≡ lack_at f.close_brace)
end_lacks us f x h =
    let r = end_by (returns_some f.signature) (are_terminating (calls_one (panics_at us)) f.body) (lack_at f.close_brace) x h in
    (record { results = declares f.signature r.0; unended = λ e. let z : false ≡ true = sym r.1 ∙ end_found us f e in (cc) }, r.2)

lack_has : (us : List TheUse) (f : FuncTree) → LacksReturn us f → Contains (end_faults us f) (lack_at f.close_brace)
lack_has us f l = subst (λ fs. Contains fs (lack_at f.close_brace)) (sym (are_lacked.fault us f l)) (0, omega arith, refl)

module _ (f : FuncTree) (o : Out Meaning NoteOf) where
  middle : (x : Fault) → Contains (o.faults ++ lines_loop_faults false f.body) x → Contains (noted_faults o.notes ++ ((o.faults ++ lines_loop_faults false f.body) ++ end_faults (all_uses o.notes) f)) x
  middle x h =
      Contains-append_right (noted_faults o.notes) ((o.faults ++ lines_loop_faults false f.body) ++ end_faults (all_uses o.notes) f) x
      (Contains-append_left (o.faults ++ lines_loop_faults false f.body) (end_faults (all_uses o.notes) f) x h)

  found : (x : Fault) → Contains (noted_faults o.notes ++ ((o.faults ++ lines_loop_faults false f.body) ++ end_faults (all_uses o.notes) f)) x → IsFaultOf f o x
  found x h =
      elim (Contains-append_cases (noted_faults o.notes) ((o.faults ++ lines_loop_faults false f.body) ++ end_faults (all_uses o.notes) f) x h) [
        | inl p ↦ OfAPiece p
        | inr q ↦ elim (Contains-append_cases (o.faults ++ lines_loop_faults false f.body) (end_faults (all_uses o.notes) f) x q) [
          | inl m ↦ elim (Contains-append_cases o.faults (lines_loop_faults false f.body) x m) [
            | inl n ↦ OfAName n
            | inr j ↦ OfAJump ((are_faults.each f.body x).0 j)
          ]
          | inr e ↦ (let l = end_lacks (all_uses o.notes) f x e in OfItsEnd l.0 l.1)
        ]
      ]

  has : (x : Fault) → IsFaultOf f o x → Contains (noted_faults o.notes ++ ((o.faults ++ lines_loop_faults false f.body) ++ end_faults (all_uses o.notes) f)) x
  has x (OfAPiece p) = Contains-append_left (noted_faults o.notes) ((o.faults ++ lines_loop_faults false f.body) ++ end_faults (all_uses o.notes) f) x p
  has x (OfAName n) = middle x (Contains-append_left o.faults (lines_loop_faults false f.body) x n)
  has x (OfAJump j) = middle x (Contains-append_right o.faults (lines_loop_faults false f.body) x ((are_faults.each f.body x).1 j))
  has x (OfItsEnd l is) =
      Contains-append_right (noted_faults o.notes) ((o.faults ++ lines_loop_faults false f.body) ++ end_faults (all_uses o.notes) f) x
      (Contains-append_right (o.faults ++ lines_loop_faults false f.body) (end_faults (all_uses o.notes) f) x
      (subst (λ g. Contains (end_faults (all_uses o.notes) f) g) (sym is) (lack_has (all_uses o.notes) f l)))

pub are_theirs : FunctionsHaveTheirFaults
are_theirs = λ f o x. (λ h. found f o x h, λ i. has f o x i)
