-- What begins a program.
use Rattle.std.proofs.Common.{◌≡◌, ℕ, Bool, true, false, List, map, Option, Some, None, inl, inr, refl, sym, ap, subst, ◌∙◌}
use Rattle.std.specs.Prelude.{MatchOption, option_map, slice_get}
use Rattle.std.proofs.lemmas.Option.{none-some, slice_get-map}
use Rattle.go_object_core.specs.Objects.{FunctionOf, ObjectOf}
use Rattle.go_machine_core.specs.Programs.{LinkedOf}
use Rattle.go_machine_core.specs.declared.link.linking.Entry.{Entry}
use Rattle.go_machine_core.specs.link.Functions.{PlaceModel, all_functions, functions_of, linked_of, number_of}
use Rattle.go_machine_core.specs.link.Packages.{PackageOf, entry_in}
use Rattle.go_machine_core.specs.link.Reaching.{AreReached, IsFirstOutside, ReachesMissing, ReachesOutside, lacks_object}
use Rattle.go_machine_core.specs.link.Order.{starts_of}
use Rattle.go_machine_core.specs.link.Linked.{HasNoneOutside, IsBegun, IsBeyond, IsCut, IsLedOutside, IsOutsideOf, IsRunnable, ProgramOf, program_of}
use Rattle.go_machine_core.specs.link.mirrors.Layouts.{layout_of, program_with, runnable_with}
use Rattle.go_machine_core.specs.link.mirrors.Numbering.{any_marked}
use Rattle.go_machine_core.proofs.LinkReaching.{missing_found, missing_there}

same_entry : (o : Option Entry) (a b : Entry) → Some a ≡ o → o ≡ Some b → b ≡ a
same_entry o a b e f = cc

module _ (fs : List LinkedOf) (ps : List PackageOf) (order : List ℕ) (number : Option ℕ) (e : Entry) (marks : List Bool) (is : Some e ≡ entry_in ps number) (reached : AreReached ps e.root marks) where
  abbrev pub p : ProgramOf
  p = program_with (layout_of fs ps) order number

  pub cut_of : any_marked lacks_object ps marks ≡ true → IsCut p
  cut_of t = (e, sym is, missing_found ps e.root marks reached t)

  whole_of : any_marked lacks_object ps marks ≡ false → IsCut p → ⊥
  whole_of lacks cut = (let same = same_entry (entry_in ps number) e cut.0 is cut.1 in missing_there ps e.root marks reached lacks (subst (λ (x : Entry). ReachesMissing ps x.root) same cut.2))

  begun_of : (starts : List ℕ) → starts ≡ starts_of ps order marks e.main → IsBegun p (runnable_with fs starts)
  begun_of starts there = record { entry = e; marks = marks; begins = sym is; reached = reached; functions = refl; starts = there }

  pub led_outside : (starts : List ℕ) (n : ℕ) → starts ≡ starts_of ps order marks e.main → any_marked lacks_object ps marks ≡ false → IsFirstOutside fs starts n → IsLedOutside p n
  led_outside starts n there lacks first = record { r = runnable_with fs starts; begun = begun_of starts there; whole = whole_of lacks; first = first }

  pub runnable_of : (starts : List ℕ) → starts ≡ starts_of ps order marks e.main → any_marked lacks_object ps marks ≡ false → (ReachesOutside fs starts → ⊥) → IsRunnable p (runnable_with fs starts)
  runnable_of starts there lacks inside = record {
    begun = begun_of starts there;
    whole = whole_of lacks;
    inside = inside;
  }

-- what is led outside cannot be run
pub led_beyond : (p : ProgramOf) (n : ℕ) → IsLedOutside p n → IsBeyond p
led_beyond p n led = inr (led.r, led.begun, led.first.there)

-- the function of the number to which a program is led is one of its objects
module _ {D X : Type 0} (place : D → Option PlaceModel) (os : List (ObjectOf D)) (main : List ℕ) (shown : X → FunctionOf D) where
  not_there : (n : ℕ) → IsLedOutside (program_of place os main) n → slice_get (all_functions os) n ≡ None → ⊥
  not_there n led none =
      let there = led.first.there in
      let is : slice_get (functions_of place os) there.number ≡ Some there.function = subst (λ (fs : List LinkedOf). slice_get fs there.number ≡ Some there.function) led.begun.functions there.is in
      let is' : slice_get (functions_of place os) n ≡ Some there.function = subst (λ (k : ℕ). slice_get (functions_of place os) k ≡ Some there.function) led.first.here is in
      none-some there.function (sym (slice_get-map (linked_of (number_of place (all_functions os))) (all_functions os) n ∙ ap (option_map (linked_of (number_of place (all_functions os)))) none) ∙ is')

  pub outside_told : (n : ℕ) (o : Option X) → option_map shown o ≡ slice_get (all_functions os) n → IsLedOutside (program_of place os main) n → MatchOption o (HasNoneOutside (program_of place os main)) (λ f. IsOutsideOf (program_of place os main) os (shown f))
  outside_told n None is led = absurd (not_there n led (sym is))
  outside_told n (Some f) is led = record { number = n; led = led; is = sym is }
