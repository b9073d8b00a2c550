-- Lists of the methods of a set.
use Rattle.std.proofs.Common.{◌≡◌, ◌↔◌, ℕ, Bool, true, false, ◌||◌, List, [], ◌∷◌, ◌++◌, Contains, Result, Ok, Err, IfOk, OnOk, IsTrue, append-nil, refl, sym, ap, ◌∙◌, subst, ◌⊎◌, inl, inr, if◌then◌else◌}
use Rattle.std.specs.Prelude.{map}
use Rattle.go_path_core.specs.text_core.Text.{SameId}
use Rattle.go_term_core.specs.Terms.{Term}
use Rattle.go_term_core.proofs.Meanings.{id_back}
use Rattle.go_term_core.proofs.Members.{In, Rises, contained_in, in_contained, in_map, map_in, pairs_rise, rising_pairs, rising_same}
use Rattle.go_select_core.specs.table_core.Entries.{EntryLook}
use Rattle.go_select_core.specs.embed_core.declared.member.Member.{Member}
use Rattle.go_select_core.specs.embed_core.declared.member.Member.TheVariants as members
use Rattle.go_select_core.specs.embed_core.Owners.{Found, AFieldOf, AMethodOf, AnInterfaces, TheErrorMethod, Named}
use Rattle.go_select_core.specs.embed_core.OwnersShown.{found_shown, name_shown, member_package_shown}
use Rattle.go_select_core.specs.declared.levels.search.Selected.{Selected}
use Rattle.go_select_core.specs.levels.Selectors.{Searched, Refused, In as InType, FieldsIn, searched, IsFoundAs}
use Rattle.go_select_core.specs.Selections.{IsIdBefore, IsSelectedBefore, AreSelections}
use Rattle.go_mset_core.specs.declared.methods.SetMethod.{SetMethod}
use Rattle.go_mset_core.specs.MethodSets.{IsCallable, IsMethodFound, IsInMethodSet}
use Rattle.go_mset_core.specs.MethodLists.{IsMethodBefore, IsMethodSet}
use Rattle.go_mset_core.specs.Laws.{method_shown, OneMethodSet}
use Rattle.go_mset_core.specs.mirrors.Keeping.{callable, method_of, kept}
use Rattle.go_mset_core.proofs.Sets.{in_set_by, selectors}
use Rattle.go_mset_core.proofs.Orders.{id_never, id_onward}

-- at most one list

abbrev found_path : Found → List ℕ
found_path (AFieldOf path place t) = path
found_path (AMethodOf path place pointer g) = path
found_path (AnInterfaces path place g) = path
found_path TheErrorMethod = []

package_found : (m : Member) → member_package_shown m ≡ found_path (found_shown m)
package_found (members.Field path f) = refl
package_found (members.Method path m) = refl
package_found (members.InterfaceMethod path m) = refl
package_found members.ErrorMethod = refl

abbrev IsShownBefore : Named × List ℕ → Named × List ℕ → Type 0
IsShownBefore a b = IsIdBefore a.0.0 a.0.1.0 b.0.0 b.0.1.0

rises_shown : (ms : List SetMethod) → Rises IsMethodBefore ms → Rises IsShownBefore (map method_shown ms)
rises_shown [] r = tt
rises_shown (m ∷ ms) r = (
  λ y h. let x = map_in method_shown ms y h in subst (λ z. IsShownBefore (method_shown m) z) x.2 (r.0 x.0 x.1),
  rises_shown ms r.1,
)

shown_same : (m n : SetMethod) → name_shown m.member ≡ name_shown n.member → m.path ≡ n.path → found_shown m.member ≡ found_shown n.member → method_shown m ≡ method_shown n
shown_same m n name path found =
    let home : member_package_shown m.member ≡ member_package_shown n.member = package_found m.member ∙ ap found_path found ∙ sym (package_found n.member) in
    (cc)

in_other : (look : EntryLook) (t : Term) (ms ns : List SetMethod) → IsMethodSet look t ms → IsMethodSet look t ns → (y : Named × List ℕ) → In (map method_shown ms) y → In (map method_shown ns) y
in_other look t ms ns a b y h =
    let x = map_in method_shown ms y h in
    let m = x.0 in
    let n = b.whole (name_shown m.member) (member_package_shown m.member) m.path (found_shown m.member) (a.sound m (contained_in ms m x.1)) in
    subst (λ z. In (map method_shown ns) z) (shown_same n.0 m n.2.0 n.3 n.4 ∙ x.2) (in_map method_shown ns n.0 (in_contained ns n.0 n.1))

pub one_set : OneMethodSet
one_set look t ms ns a b =
    rising_same IsShownBefore (λ x h. id_never x.0.0 x.0.1.0 h) (λ x y z h k. id_onward x.0.0 x.0.1.0 y.0.0 y.0.1.0 z.0.0 z.0.1.0 h k) (map method_shown ms) (map method_shown ns)
    (rises_shown ms (pairs_rise IsMethodBefore ms a.rising)) (rises_shown ns (pairs_rise IsMethodBefore ns b.rising)) (in_other look t ms ns a b) (in_other look t ns ms b a)

-- what is kept of what selectors denote

callable_is : (f : Found) (passes : Bool) → callable f passes ≡ true → IsCallable f passes
callable_is (AFieldOf path place t) passes h = cc
callable_is (AMethodOf path place pointer g) true h = λ star. refl
callable_is (AMethodOf path place true g) false h = λ star. h
callable_is (AMethodOf path place false g) false h = λ star. star
callable_is (AnInterfaces path place g) passes h = tt
callable_is TheErrorMethod passes h = tt

is_callable : (f : Found) (passes : Bool) → IsCallable f passes → callable f passes ≡ true
is_callable (AFieldOf path place t) passes h = absurd h
is_callable (AMethodOf path place pointer g) true h = refl
is_callable (AMethodOf path place true g) false h = h refl
is_callable (AMethodOf path place false g) false h = refl
is_callable (AnInterfaces path place g) passes h = refl
is_callable TheErrorMethod passes h = refl

abbrev Passes : Selected → Type 0
Passes s = callable (found_shown s.member) s.through_pointer ≡ true

step_in : (b : Bool) (x m : SetMethod) (rest : List SetMethod) → In (if b then x ∷ rest else rest) m → ((b ≡ true) × (x ≡ m)) ⊎ In rest m
step_in true x m rest (inl e) = inl (refl, e)
step_in true x m rest (inr h) = inr h
step_in false x m rest h = inr h

in_step : (b : Bool) (x m : SetMethod) (rest : List SetMethod) → In rest m → In (if b then x ∷ rest else rest) m
in_step true x m rest h = inr h
in_step false x m rest h = h

kept_from : (ss : List Selected) (m : SetMethod) → In (kept ss) m → (s : Selected) × In ss s × Passes s × (method_of s ≡ m)
kept_from [] m h = absurd h
kept_from (s ∷ ss) m h =
    elim (step_in (callable (found_shown s.member) s.through_pointer) (method_of s) m (kept ss) h) [
      | inl x ↦ (s, inl refl, x.0, x.1)
      | inr k ↦ let r = kept_from ss m k in (r.0, inr r.1, r.2, r.3)
    ]

in_kept : (ss : List Selected) (s : Selected) → In ss s → Passes s → In (kept ss) (method_of s)
in_kept [] s h passes = absurd h
in_kept (x ∷ ss) s (inl e) passes =
    subst (λ (z : Selected). In (kept (z ∷ ss)) (method_of s)) (sym e) (subst (λ b. In (if b then method_of s ∷ kept ss else kept ss) (method_of s)) (sym passes) (inl refl))
in_kept (x ∷ ss) s (inr h) passes = in_step (callable (found_shown x.member) x.through_pointer) (method_of x) (method_of s) (kept ss) (in_kept ss s h passes)

rises_step : (b : Bool) (x : SetMethod) (rest : List SetMethod) → ((y : SetMethod) → In rest y → IsMethodBefore x y) → Rises IsMethodBefore rest → Rises IsMethodBefore (if b then x ∷ rest else rest)
rises_step true x rest first r = (first, r)
rises_step false x rest first r = r

rises_kept : (ss : List Selected) → Rises IsSelectedBefore ss → Rises IsMethodBefore (kept ss)
rises_kept [] r = tt
rises_kept (s ∷ ss) r =
    rises_step (callable (found_shown s.member) s.through_pointer) (method_of s) (kept ss)
    (λ y h. let x = kept_from ss y h in subst (λ z. IsMethodBefore (method_of s) z) x.3 (r.0 x.0 x.1)) (rises_kept ss r.1)

found_as : (look : EntryLook) (w : Searched) (name from path : List ℕ) (m : Found) → IsMethodFound look w name from path m → (passes : Bool) × IsFoundAs look w name from path passes m
found_as look (Refused why) name from path m h = absurd h
found_as look (InType t by_pointer) name from path m h = (by_pointer || h.0, (h.0, h.1, refl))
found_as look (FieldsIn t) name from path m h = absurd h

module _ (look : EntryLook) (t : Term) (ss : List Selected) (all : AreSelections look t ss) where
  sound : (m : SetMethod) → In (kept ss) m → IsInMethodSet look t (name_shown m.member) (member_package_shown m.member) m.path (found_shown m.member)
  sound m h =
      let s = kept_from ss m h in
      let a = all.sound s.0 (contained_in ss s.0 s.1) in
      subst (λ (x : SetMethod). IsInMethodSet look t (name_shown x.member) (member_package_shown x.member) x.path (found_shown x.member)) s.3
      ((selectors.selected look t (name_shown s.0.member) (member_package_shown s.0.member) s.0 a).1 (callable_is (found_shown s.0.member) s.0.through_pointer s.2))

  whole : (name from path : List ℕ) (f : Found) → IsInMethodSet look t name from path f
      → (m : SetMethod) × Contains (kept ss) m × SameId (name_shown m.member) (member_package_shown m.member) name from × (m.path ≡ path) × (found_shown m.member ≡ f)
  whole name from path f h =
      let d = found_as look (searched look t) name from path f h.1 in
      let r = all.whole name from path d.0 f (h.0, d.1) in
      let s = r.0 in
      let a = all.sound s r.1 in
      let own = in_set_by look t name from (name_shown s.member) (member_package_shown s.member) path f (back s name from r.2) h in
      let only = selectors.only look t (name_shown s.member) (member_package_shown s.member) s path f a own in
      let member = subst (λ (p : List ℕ). IsInMethodSet look t (name_shown s.member) (member_package_shown s.member) p (found_shown s.member)) only.0
      (subst (λ (g : Found). IsInMethodSet look t (name_shown s.member) (member_package_shown s.member) path g) only.1 own) in
      let passes = is_callable (found_shown s.member) s.through_pointer ((selectors.selected look t (name_shown s.member) (member_package_shown s.member) s a).0 member) in
      (method_of s, contained_in (kept ss) (method_of s) (in_kept ss s (in_contained ss s r.1) passes), r.2, sym only.0, sym only.1)
    where
      back : (s : Selected) (name from : List ℕ) → SameId (name_shown s.member) (member_package_shown s.member) name from → SameId name from (name_shown s.member) (member_package_shown s.member)
      back s name from same = id_back (name_shown s.member) (member_package_shown s.member) name from same

  pub set_of_kept : IsMethodSet look t (kept ss)
  set_of_kept =
      record {
        rising = rising_pairs IsMethodBefore (kept ss) (rises_kept ss (pairs_rise IsSelectedBefore ss all.rising));
        sound = λ m h. sound m (in_contained (kept ss) m h);
        whole = whole;
      }

-- one more

kept_one : (b : Bool) (x : SetMethod) (xs ys : List SetMethod) → (if b then x ∷ (xs ++ ys) else xs ++ ys) ≡ (if b then x ∷ xs else xs) ++ ys
kept_one true x xs ys = refl
kept_one false x xs ys = refl

pub kept-append : (ss ts : List Selected) → kept (ss ++ ts) ≡ kept ss ++ kept ts
kept-append [] ts = refl
kept-append (s ∷ ss) ts =
    let b = callable (found_shown s.member) s.through_pointer in
    ap (λ rest. if b then method_of s ∷ rest else rest) (kept-append ss ts) ∙ kept_one b (method_of s) (kept ss) (kept ts)

-- a member that is callable is kept
pub kept_more : (old new : List SetMethod) (s : Selected) (r : Bool) → r ≡ true → (IsTrue r ↔ IsCallable (found_shown s.member) s.through_pointer)
    → new ≡ old ++ method_of s ∷ [] → new ≡ old ++ kept (s ∷ [])
kept_more old new s r so test pushed =
    pushed ∙ ap (λ b. old ++ (if b then method_of s ∷ [] else [])) (sym (is_callable (found_shown s.member) s.through_pointer (test.0 so)))

-- one that is not is passed over
pub kept_same : (old : List SetMethod) (s : Selected) (r : Bool) → r ≡ false → (IsTrue r ↔ IsCallable (found_shown s.member) s.through_pointer) → old ≡ old ++ kept (s ∷ [])
kept_same old s r not_so test =
    sym (append-nil old) ∙ ap (λ b. old ++ (if b then method_of s ∷ [] else [])) (sym (by (callable (found_shown s.member) s.through_pointer) refl))
  where
    by : (b : Bool) → callable (found_shown s.member) s.through_pointer ≡ b → callable (found_shown s.member) s.through_pointer ≡ false
    by true e = let z : true ≡ false = sym (test.1 (callable_is (found_shown s.member) s.through_pointer e)) ∙ not_so in (cc)
    by false e = e

pub kept_step : (old new : List SetMethod) (ss : List Selected) (s : Selected) → old ≡ kept ss → new ≡ old ++ kept (s ∷ []) → new ≡ kept (ss ++ s ∷ [])
kept_step old new ss s so_far more = more ∙ (ap (λ ms. ms ++ kept (s ∷ [])) so_far ∙ sym (kept-append ss (s ∷ [])))

pub ok_then : {T E : Type 0} (r : Result T E) (P Q : T → Type 0) → ((x : T) → P x → Q x) → IfOk r P → IfOk r Q
ok_then (Ok x) P Q f h = f x h
ok_then (Err e) P Q f h = tt

pub on_ok_then : {T E : Type 0} (r : Result T E) (P Q : Type 0) → (P → Q) → OnOk r P → OnOk r Q
on_ok_then (Ok x) P Q f h = f h
on_ok_then (Err e) P Q f h = tt
