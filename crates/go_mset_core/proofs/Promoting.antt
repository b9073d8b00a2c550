-- Methods of a type itself, and methods that embedded fields promote.
use Rattle.std.proofs.Common.{◌≡◌, ◌↔◌, ℕ, ◌<◌, Bool, true, false, ◌||◌, List, [], ◌∷◌, length, refl, sym, ap, ◌∙◌, subst, arith, ◌⊎◌, inl, inr}
use Rattle.go_path_core.specs.text_core.Text.{is_blank}
use Rattle.go_term_core.specs.Terms.{Term, PointerTo}
use Rattle.go_select_core.specs.table_core.Entries.{EntryLook}
use Rattle.go_select_core.specs.embed_core.Owners.{Found, AFieldOf, AMethodOf, AnInterfaces, TheErrorMethod}
use Rattle.go_select_core.specs.levels.Paths.{Step, FieldsLead, IsSelected}
use Rattle.go_select_core.proofs.LevelsEdges.{step_same}
use Rattle.go_select_core.proofs.LevelsWalks.{selects_here}
use Rattle.go_mset_core.specs.MethodSets.{IsCallable, IsInMethodSet}
use Rattle.go_mset_core.specs.Laws.{IsOther, IsInterfaceType, PointerHasMore, PointerImplementsMore, IsOwn, ReceiversDecide, IsPromoted, Promotion}
use Rattle.go_mset_core.proofs.Sets.{searched_other, searched_pointer, searched_interface, set_by, in_set_at}
use Rattle.go_mset_core.proofs.Interfaces.{interface_callable}

callable_more : (m : Found) (passes : Bool) → IsCallable m passes → IsCallable m true
callable_more (AFieldOf path place t) passes c = c
callable_more (AMethodOf path place pointer g) passes c = λ star. refl
callable_more (AnInterfaces path place g) passes c = c
callable_more TheErrorMethod passes c = c

pub pointer_has_more : PointerHasMore
pointer_has_more look t name from path m other h =
    let x = in_set_at look t t false name from path m (searched_other look t other) h in
    (set_by look (PointerTo t) t true name from path x.0 m (searched_pointer look t other) x.1).1 (h.0, callable_more m (false || x.0) x.2)

pub implements_more : PointerImplementsMore
implements_more look t i other h name from g of = let x = h name from g of in (x.0, x.1, pointer_has_more look t name from x.0 x.1 other x.2, x.3)

not_star : (b : Bool) → (b ≡ true → false ≡ true) → b ≡ false
not_star true h = sym (h refl)
not_star false h = refl

own_selected : (look : EntryLook) (t : Term) (name from : List ℕ) (f : Found) → IsOwn look t name from f → IsSelected look t name from [] false f
own_selected look t name from f o = selects_here look t name from o.number f o.has o.only

pub receivers : ReceiversDecide
receivers =
    record {
      type = λ look t name from home place pointer g other blank own.
          let m = AMethodOf home place pointer g in
          let d = set_by look t t false name from [] false m (searched_other look t other) (own_selected look t name from m own) in
          (λ h. not_star pointer (d.0 h).1, λ e. d.1 (blank, λ star. sym e ∙ star));
      pointer = λ look t name from home place pointer g other blank own.
          let m = AMethodOf home place pointer g in
          (set_by look (PointerTo t) t true name from [] false m (searched_pointer look t other) (own_selected look t name from m own)).1 (blank, λ star. refl);
    }

-- a path that begins with an embedded field, without it

selected_behind : (look : EntryLook) (s t : Term) (name from : List ℕ) (i : ℕ) (star : Bool) (path : List ℕ) (passes : Bool) (m : Found) → Step look s i star t → IsSelected look s name from (i ∷ path) passes m
    → (rest : Bool) × IsSelected look t name from path rest m × (passes ≡ star || rest)
selected_behind look s t name from i star path passes m step sel =
    let l = sel.hit.leads in
    let e = step_same look s i l.1 star l.0 t l.3 step in
    let leads : FieldsLead look t path l.2 sel.hit.at = subst (λ v. FieldsLead look v path l.2 sel.hit.at) e.1 l.4 in (
      l.2,
      record {
        number = sel.number;
        hit = record { at = sel.hit.at; leads = leads; has = sel.hit.has };
        shortest = λ q b j g h. by q j (sel.shortest (i ∷ q) (star || b) j g (record { at = h.at; leads = (t, star, b, step, h.leads, refl); has = h.has }));
      },
      l.5 ∙ ap (λ b. b || l.2) e.0,
    )
  where
    by : (q : List ℕ) (j : ℕ) → ((i ∷ q ≡ i ∷ path) × (j ≡ sel.number)) ⊎ (length (i ∷ path) < length (i ∷ q)) → ((q ≡ path) × (j ≡ sel.number)) ⊎ (length path < length q)
    by q j (inl x) = inl (let e = x.0 in (cc), x.1)
    by q j (inr l) = inr (omega (arith, l))

through : {A B : Type 0} (name : List ℕ) (m : Found) (b c : Bool) → A ↔ ((is_blank name ≡ false) × IsCallable m b) → B ↔ ((is_blank name ≡ false) × IsCallable m c) → (IsCallable m b → IsCallable m c) → (IsCallable m c → IsCallable m b) → A ↔ B
through name m b c x y there back = (λ a. let h = x.0 a in y.1 (h.0, there h.1), λ z. let h = y.0 z in x.1 (h.0, back h.1))

module _ (look : EntryLook) (s t : Term) (name from : List ℕ) (i : ℕ) (star : Bool) (path : List ℕ) (m : Found) (p : IsPromoted look s t name from i star path m) where
  abbrev behind : (rest : Bool) × IsSelected look t name from path rest m × (p.passes ≡ star || rest)
  behind = selected_behind look s t name from i star path p.passes m p.embeds p.selected

  of_struct : IsInMethodSet look s name from (i ∷ path) m ↔ ((is_blank name ≡ false) × IsCallable m (false || p.passes))
  of_struct = set_by look s s false name from (i ∷ path) p.passes m (searched_other look s p.other) p.selected

  of_pointer : IsInMethodSet look (PointerTo s) name from (i ∷ path) m ↔ ((is_blank name ≡ false) × IsCallable m true)
  of_pointer = set_by look (PointerTo s) s true name from (i ∷ path) p.passes m (searched_pointer look s p.other) p.selected

  embedded : IsOther look t → IsInMethodSet look t name from path m ↔ ((is_blank name ≡ false) × IsCallable m (false || behind.0))
  embedded other = set_by look t t false name from path behind.0 m (searched_other look t other) behind.1

  embedded_pointer : IsOther look t → IsInMethodSet look (PointerTo t) name from path m ↔ ((is_blank name ≡ false) × IsCallable m true)
  embedded_pointer other = set_by look (PointerTo t) t true name from path behind.0 m (searched_pointer look t other) behind.1

  embedded_interface : IsInterfaceType look t → IsInMethodSet look t name from path m ↔ ((is_blank name ≡ false) × IsCallable m (false || behind.0))
  embedded_interface is = set_by look t t false name from path behind.0 m (searched_interface look t is.0) behind.1

  moved : (b c : Bool) → b ≡ c → IsCallable m b → IsCallable m c
  moved b c e h = subst (λ x. IsCallable m x) e h

  pub type_of_type : star ≡ false → IsOther look t → IsInMethodSet look s name from (i ∷ path) m ↔ IsInMethodSet look t name from path m
  type_of_type plain other =
      let e : p.passes ≡ behind.0 = behind.2 ∙ ap (λ b. b || behind.0) plain in
      through name m p.passes behind.0 of_struct (embedded other) (moved p.passes behind.0 e) (moved behind.0 p.passes (sym e))

  pub pointer_of_any : IsOther look t → IsInMethodSet look (PointerTo s) name from (i ∷ path) m ↔ IsInMethodSet look (PointerTo t) name from path m
  pointer_of_any other = through name m true true of_pointer (embedded_pointer other) (λ h. h) (λ h. h)

  pub type_of_pointer : star ≡ true → IsOther look t → IsInMethodSet look s name from (i ∷ path) m ↔ IsInMethodSet look (PointerTo t) name from path m
  type_of_pointer starred other =
      let e : p.passes ≡ true = behind.2 ∙ ap (λ b. b || behind.0) starred in
      through name m p.passes true of_struct (embedded_pointer other) (moved p.passes true e) (moved true p.passes (sym e))

  pub type_of_interface : IsInterfaceType look t → IsInMethodSet look s name from (i ∷ path) m ↔ IsInMethodSet look t name from path m
  type_of_interface is = through name m p.passes behind.0 of_struct (embedded_interface is) (λ h. interface_callable look t name from path behind.0 m is behind.1 behind.0) (λ h. interface_callable look t name from path behind.0 m is behind.1 p.passes)

  pub pointer_of_interface : IsInterfaceType look t → IsInMethodSet look (PointerTo s) name from (i ∷ path) m ↔ IsInMethodSet look t name from path m
  pointer_of_interface is = through name m true behind.0 of_pointer (embedded_interface is) (λ h. interface_callable look t name from path behind.0 m is behind.1 behind.0) (λ h. interface_callable look t name from path behind.0 m is behind.1 true)

pub promotes : Promotion
promotes =
    record {
      type_of_type = λ look s t name from i path m p other. type_of_type look s t name from i false path m p refl other;
      pointer_of_type = λ look s t name from i path m p other. pointer_of_any look s t name from i false path m p other;
      type_of_pointer = λ look s t name from i path m p other. type_of_pointer look s t name from i true path m p refl other;
      pointer_of_pointer = λ look s t name from i path m p other. pointer_of_any look s t name from i true path m p other;
      type_of_interface = λ look s t name from i path m p is. type_of_interface look s t name from i false path m p is;
      pointer_of_interface = λ look s t name from i path m p is. pointer_of_interface look s t name from i false path m p is;
    }
