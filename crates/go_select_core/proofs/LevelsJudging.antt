-- What a level alone says, as far as the loop has come.
use Rattle.std.proofs.Common.{◌≡◌, ℕ, ◌+◌, ◌<◌, ◌≤◌, Bool, true, false, ◌||◌, List, length, Option, Some, None, refl, sym, ap, ◌∙◌, subst, arith, inl, inr}
use Rattle.std.specs.Prelude.{is_some}
use Rattle.go_term_core.specs.Shapes.{shape}
use Rattle.go_embed_core.specs.table_core.Entries.{EntryLook}
use Rattle.go_embed_core.specs.Owners.{OwnerModel, Found, owner_in, has_spelled}
use Rattle.go_embed_core.specs.declared.member.Hits.TheVariants as hits
use Rattle.go_embed_core.specs.declared.member.Member as declared_member
use Rattle.go_embed_core.specs.OwnersShown.{IsNamedAt, AreHits, found_shown}
use Rattle.go_select_core.specs.declared.levels.level.Reached.{Reached}
use Rattle.go_select_core.specs.levels.mirrors.Ways.{At}
use Rattle.go_select_core.specs.levels.mirrors.Levels.{Spells, IsOnly, IsClash, IsNone, IsSpelt}
use Rattle.go_select_core.proofs.LevelsListLemmas.{at_same, at_within, less_or_same}

abbrev pub SpeltTo : EntryLook → List ℕ → List Reached → ℕ → ℕ → Bool → Type 0
SpeltTo look name types first n true = (i : ℕ) × (y : Reached) × At types i y × (first ≤ i) × Spells look name (shape y.term.now)
SpeltTo look name types first n false = (i : ℕ) (y : Reached) → i < n → At types i y → first ≤ i → Spells look name (shape y.term.now) → ⊥

-- what the types of a level before the place n say
abbrev pub JudgedTo : EntryLook → List ℕ → List ℕ → List Reached → ℕ → ℕ → Option (ℕ × declared_member.Member) → Bool → Type 0
JudgedTo look name from types first n None spelled =
    ((i : ℕ) (y : Reached) (j : ℕ) (g : Found) → i < n → At types i y → first ≤ i → IsNamedAt (owner_in look (shape y.term.now)) name from j g → ⊥) × SpeltTo look name types first n spelled
JudgedTo look name from types first n (Some b) spelled =
    (b.0 < n) × (first ≤ b.0) × ((x : Reached) × (m : ℕ) × At types b.0 x × (x.many ≡ false) × IsNamedAt (owner_in look (shape x.term.now)) name from m (found_shown b.1)
    × ((i : ℕ) (y : Reached) (j : ℕ) (g : Found) → i < n → At types i y → first ≤ i → IsNamedAt (owner_in look (shape y.term.now)) name from j g → (i ≡ b.0) × (j ≡ m)))

pub judge_start : (look : EntryLook) (name from : List ℕ) (types : List Reached) (first : ℕ) → JudgedTo look name from types first first None false
judge_start look name from types first = (λ i y j g less at inside has. omega (arith, less, inside), λ i y less at inside has. omega (arith, less, inside))

module _ (look : EntryLook) (name from : List ℕ) (types : List Reached) (first n : ℕ) (x : Reached) (at : At types n x) (inside : first ≤ n) (o : OwnerModel) (is : o ≡ owner_in look (shape x.term.now)) where
  named_here : (i : ℕ) (y : Reached) (j : ℕ) (g : Found) → i ≡ n → At types i y → IsNamedAt (owner_in look (shape y.term.now)) name from j g → IsNamedAt o name from j g
  named_here i y j g e h has =
      let yx : y ≡ x = at_same types n y x (subst (λ k. At types k y) e h) at in
      subst (λ p. IsNamedAt p name from j g) (sym is) (subst (λ (q : Reached). IsNamedAt (owner_in look (shape q.term.now)) name from j g) yx has)

  spelt_more : (s h : Bool) → h ≡ has_spelled o name → SpeltTo look name types first n s → SpeltTo look name types first (n + 1) (s || h)
  spelt_more true h e w = w
  spelt_more false true e w = (n, x, at, inside, subst (λ p. Spells look name p) refl (sym (e ∙ ap (λ p. has_spelled p name) is)))
  spelt_more false false e w =
      λ i y less h l sp. elim (less_or_same i n less) [
        | inl k ↦ w i y k h l sp
        | inr k ↦
            let yx : y ≡ x = at_same types n y x (subst (λ m. At types m y) k h) at in
            let f : has_spelled (owner_in look (shape x.term.now)) name ≡ false = sym (e ∙ ap (λ p. has_spelled p name) is) in
            let g : has_spelled (owner_in look (shape x.term.now)) name ≡ true = subst (λ (q : Reached). has_spelled (owner_in look (shape q.term.now)) name ≡ true) yx sp in
            (let z : true ≡ false = sym g ∙ f in (cc))
      ]

  pub judge_nothing : (best : Option (ℕ × declared_member.Member)) (s h s' : Bool) → JudgedTo look name from types first n best s → AreHits o name from hits.Nothing → h ≡ has_spelled o name → s' ≡ s || h
      → JudgedTo look name from types first (n + 1) best s'
  judge_nothing None s h s' g none e es = (
    λ i y j f less a l has. elim (less_or_same i n less) [ inl k ↦ g.0 i y j f k a l has | inr k ↦ none j f (named_here i y j f k a has) ],
    subst (λ b. SpeltTo look name types first (n + 1) b) (sym es) (spelt_more s h e g.1),
  )
  judge_nothing (Some b) s h s' g none e es = (
    omega (arith, g.0),
    g.1,
    (g.2.0, g.2.1, g.2.2, g.2.3, g.2.4, λ i y j f less a l has. elim (less_or_same i n less) [ inl k ↦ g.2.5 i y j f k a l has | inr k ↦ absurd (none j f (named_here i y j f k a has)) ]),
  )

  -- a name that stands twice, or a type with many paths, or a second type
  pub judge_more : AreHits o name from hits.More → IsClash look name from types first
  judge_more more =
      record {
        n = n;
        x = x;
        m = more.0;
        f = more.1;
        at = at;
        in_level = inside;
        has = subst (λ p. IsNamedAt p name from more.0 more.1) is more.2;
        more = inr (n, x, more.3.0, more.3.1, at, inside, subst (λ p. IsNamedAt p name from more.3.0 more.3.1) is more.3.2, λ s d. more.3.3 d);
      }

  pub judge_many : (m : declared_member.Member) → AreHits o name from (hits.One m) → x.many ≡ true → IsClash look name from types first
  judge_many m one many =
      record { n = n; x = x; m = one.0; f = found_shown m; at = at; in_level = inside; has = subst (λ p. IsNamedAt p name from one.0 (found_shown m)) is one.1; more = inl many }

  pub judge_second : (m : declared_member.Member) (best : Option (ℕ × declared_member.Member)) (s b : Bool) → JudgedTo look name from types first n best s → AreHits o name from (hits.One m) → b ≡ is_some best → b ≡ true → IsClash look name from types first
  judge_second m None s b g one some yes' = absurd (let z : true ≡ false = sym yes' ∙ some in (cc))
  judge_second m (Some p) s b g one some yes' =
      record {
        n = n;
        x = x;
        m = one.0;
        f = found_shown m;
        at = at;
        in_level = inside;
        has = subst (λ q. IsNamedAt q name from one.0 (found_shown m)) is one.1;
        more = inr (p.0, g.2.0, g.2.1, found_shown p.1, g.2.2, g.1, g.2.4, λ k d. omega (arith, k, g.0));
      }

  pub judge_one : (m : declared_member.Member) (best : Option (ℕ × declared_member.Member)) (s b : Bool) → JudgedTo look name from types first n best s → AreHits o name from (hits.One m) → b ≡ is_some best → b ≡ false → x.many ≡ false
      → JudgedTo look name from types first (n + 1) (Some (n, m)) s
  judge_one m None s b g one some no' few = (
    omega arith,
    inside,
    (
      x,
      one.0,
      at,
      few,
      subst (λ q. IsNamedAt q name from one.0 (found_shown m)) is one.1,
      λ i y j f less a l has. elim (less_or_same i n less) [ inl k ↦ absurd (g.0 i y j f k a l has) | inr k ↦ (k, sym (one.2 j f (named_here i y j f k a has))) ],
    ),
  )
  judge_one m (Some p) s b g one some no' few = absurd (let z : true ≡ false = sym some ∙ no' in (cc))

pub judge_none : (look : EntryLook) (name from : List ℕ) (types : List Reached) (first n : ℕ) (best : Option (ℕ × declared_member.Member)) (s : Bool) → JudgedTo look name from types first n best s → best ≡ None → length types ≤ n
    → IsNone look name from types first × IsSpelt look name types first s
judge_none look name from types first n None s g is all = (λ i y j f at l has. let w = at_within types i y at in g.0 i y j f (omega (arith, w, all)) at l has, spelt s g.1)
  where
    spelt : (b : Bool) → SpeltTo look name types first n b → IsSpelt look name types first b
    spelt true w = w
    spelt false w = λ i y at l sp. let k = at_within types i y at in w i y (omega (arith, k, all)) at l sp
judge_none look name from types first n (Some b) s g is all = cc

pub judge_only : (look : EntryLook) (name from : List ℕ) (types : List Reached) (first n : ℕ) (best : Option (ℕ × declared_member.Member)) (s : Bool) (k : ℕ) (m : declared_member.Member)
    → JudgedTo look name from types first n best s → best ≡ Some (k, m) → length types ≤ n → IsOnly look name from types first k (found_shown m)
judge_only look name from types first n None s k m g is all = cc
judge_only look name from types first n (Some p) s k m g is all =
    let pk : p ≡ (k, m) = (cc) in
    subst (λ (q : ℕ × declared_member.Member). IsOnly look name from types first q.0 (found_shown q.1)) pk (record {
      x = g.2.0;
      m = g.2.1;
      at = g.2.2;
      in_level = g.1;
      one = g.2.3;
      has = g.2.4;
      only = λ i y j f at l h. let w = at_within types i y at in g.2.5 i y j f (omega (arith, w, all)) at l h;
    })
