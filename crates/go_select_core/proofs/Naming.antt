-- What a level says of names, as far as the loop over its members has come.
use Rattle.std.proofs.Common.{◌≡◌, ℕ, zero, suc, ◌+◌, ◌<◌, ◌≤◌, Bool, true, false, List, [], ◌∷◌, length, map, get_or, Option, Some, None, refl, sym, ap, ◌∙◌, subst, arith, ◌⊎◌, inl, inr}
use Rattle.std.specs.Prelude.{slice_get}
use Rattle.std.proofs.lemmas.Bool.{true≢false}
use Rattle.go_path_core.specs.text_core.Text.{SameId}
use Rattle.go_path_core.specs.text_core.Each.{true_or_false}
use Rattle.go_term_core.specs.Shapes.{shape}
use Rattle.go_embed_core.specs.table_core.Entries.{EntryLook}
use Rattle.go_embed_core.specs.declared.member.Member as declared_member
use Rattle.go_embed_core.specs.Owners.{OwnerModel, Found, Named, members_of, owner_in}
use Rattle.go_embed_core.specs.OwnersShown.{IsNamedAt, found_shown, name_shown, member_package_shown, named_shown}
use Rattle.go_select_core.specs.declared.levels.level.Reached.{Reached}
use Rattle.go_select_core.specs.declared.names.Known.{Known}
use Rattle.go_select_core.specs.declared.names.Known.TheVariants.{One, More}
use Rattle.go_select_core.specs.levels.mirrors.Ways.{At}
use Rattle.go_select_core.specs.levels.mirrors.Levels.{Before, IsClash}
use Rattle.go_select_core.specs.mirrors.Names.{Identifier, identifier_of, identifier_in, same_identifier, known_of, IsNoted, AreNoted, IsSaid, IsSaidOrKnown, AreSaid, AreBefore, AreNamed}
use Rattle.go_select_core.proofs.Identifiers.{identifiers_same, same_identifiers, identifier_same, same_identifier_of}
use Rattle.go_select_core.proofs.LevelsListLemmas.{at_same, at_within, at_read, less_or_same}

-- a member before (n, j) that the name names
abbrev HitTo : EntryLook → List ℕ → List ℕ → List Reached → ℕ → ℕ → ℕ → ℕ → Reached → ℕ → Found → Type 0
HitTo look name from types first n j i y k g = Before i k n j × At types i y × (first ≤ i) × IsNamedAt (owner_in look (shape y.term.now)) name from k g

-- what the types of a level, from the place first on, say of a name by their members before (n, j)
abbrev pub SaidTo : EntryLook → List ℕ → List ℕ → List Reached → ℕ → ℕ → ℕ → Option Known → Type 0
SaidTo look name from types first n j None = (i : ℕ) (y : Reached) (k : ℕ) (g : Found) → HitTo look name from types first n j i y k g → ⊥
SaidTo look name from types first n j (Some (One p member)) =
    (x : Reached) × (m : ℕ) × HitTo look name from types first n j p x m (found_shown member) × (x.many ≡ false)
    × ((i : ℕ) (y : Reached) (k : ℕ) (g : Found) → HitTo look name from types first n j i y k g → (i ≡ p) × (k ≡ m))
SaidTo look name from types first n j (Some More) = IsClash look name from types first

abbrev pub NotedTo : EntryLook → List ℕ → List ℕ → List Reached → ℕ → ℕ → ℕ → Option Known → Option Known → Type 0
NotedTo look name from types first n j None new = SaidTo look name from types first n j new
NotedTo look name from types first n j (Some known) new = new ≡ Some known

-- of all identifiers
abbrev pub AreNotedTo : EntryLook → List Reached → ℕ → ℕ → ℕ → List (Identifier × Known) → List (Identifier × Known) → Type 0
AreNotedTo look types first n j old new = (name from : List ℕ) → NotedTo look name from types first n j (known_of old (identifier_of name from)) (known_of new (identifier_of name from))

-- a further place with the same hits before it
module _ (look : EntryLook) (name from : List ℕ) (types : List Reached) (first n j n' j' : ℕ) (forth : (i k : ℕ) → Before i k n j → Before i k n' j')
    (back : (i : ℕ) (y : Reached) (k : ℕ) (g : Found) → HitTo look name from types first n' j' i y k g → Before i k n j) where
  said_on : (new : Option Known) → SaidTo look name from types first n j new → SaidTo look name from types first n' j' new
  said_on None s = λ i y k g h. s i y k g (back i y k g h, h.1, h.2, h.3)
  said_on (Some (One p member)) s =
      (s.0, s.1, (forth p s.1 s.2.0, s.2.1, s.2.2, s.2.3), s.3, λ i y k g h. s.4 i y k g (back i y k g h, h.1, h.2, h.3))
  said_on (Some More) s = s

  noted_on : (old new : Option Known) → NotedTo look name from types first n j old new → NotedTo look name from types first n' j' old new
  noted_on None new s = said_on new s
  noted_on (Some known) new s = s

-- 1. At the start.

none_before : (i k first : ℕ) → Before i k first 0 → first ≤ i → ⊥
none_before i k first (inl l) in_level = omega (arith, l, in_level)
none_before i k first (inr e) in_level = omega (arith, e.1)

noted_start : (look : EntryLook) (name from : List ℕ) (types : List Reached) (first : ℕ) (known : Option Known) → NotedTo look name from types first first 0 known known
noted_start look name from types first None = λ i y k g h. none_before i k first h.0 h.2
noted_start look name from types first (Some known) = refl

pub are_noted_start : (look : EntryLook) (types : List Reached) (first : ℕ) (ns : List (Identifier × Known)) → AreNotedTo look types first first 0 ns ns
are_noted_start look types first ns = λ name from. noted_start look name from types first (known_of ns (identifier_of name from))

-- 2. One member more.

before_more : (i k n j : ℕ) → Before i k n j → Before i k n (j + 1)
before_more i k n j (inl l) = inl l
before_more i k n j (inr e) = inr (e.0, omega (arith, e.1))

before_last : (i k n j : ℕ) → Before i k n (j + 1) → Before i k n j ⊎ ((i ≡ n) × (k ≡ j))
before_last i k n j (inl l) = inl (inl l)
before_last i k n j (inr e) = elim (less_or_same k j e.1) [ inl l ↦ inl (inr (e.0, l)) | inr s ↦ inr (e.0, s) ]

not_before : (p m n j : ℕ) → Before p m n j → n ≡ p → j ≡ m → ⊥
not_before p m n j (inl l) e f = omega (arith, l, e)
not_before p m n j (inr l) e f = omega (arith, l.1, f)

module _ (look : EntryLook) (from : List ℕ) (types : List Reached) (first n : ℕ) (x : Reached) (at : At types n x) (inside : first ≤ n) (o : OwnerModel) (is : o ≡ owner_in look (shape x.term.now)) (j : ℕ)
    (m : declared_member.Member) (has : slice_get (members_of o) j ≡ Some (named_shown m)) where
  -- the member there is m
  same_member : (name : List ℕ) (i : ℕ) (y : Reached) (k : ℕ) (g : Found) → i ≡ n → k ≡ j → At types i y → IsNamedAt (owner_in look (shape y.term.now)) name from k g → SameId (name_shown m) (member_package_shown m) name from
  same_member name i y k g e f h named =
      let yx : y ≡ x = at_same types n y x (subst (λ l. At types l y) e h) at in
      let there : IsNamedAt o name from j g =
      subst (λ l. IsNamedAt o name from l g) f (subst (λ p. IsNamedAt p name from k g) (sym is) (subst (λ (q : Reached). IsNamedAt (owner_in look (shape q.term.now)) name from k g) yx named)) in
      let s : there.0 ≡ named_shown m = (let a = there.1 in (cc)) in
      subst (λ (q : Named). SameId q.0 q.1.0 name from) s there.2

  named_here : (name : List ℕ) → SameId (name_shown m) (member_package_shown m) name from → IsNamedAt (owner_in look (shape x.term.now)) name from j (found_shown m)
  named_here name s = (named_shown m, subst (λ p. slice_get (members_of p) j ≡ Some (named_shown m)) is has, s, refl)

  -- an identifier that does not name it
  noted_other : (name : List ℕ) → (SameId (name_shown m) (member_package_shown m) name from → ⊥) → (old new : Option Known) → NotedTo look name from types first n j old new → NotedTo look name from types first n (j + 1) old new
  noted_other name off old new s =
      noted_on look name from types first n j n (j + 1) (λ i k b. before_more i k n j b)
      (λ i y k g h. elim (before_last i k n j h.0) [ inl b ↦ b | inr e ↦ absurd (off (same_member name i y k g e.0 e.1 h.1 h.3)) ]) old new s

  -- one that does
  here : (name : List ℕ) → SameId (name_shown m) (member_package_shown m) name from → HitTo look name from types first n (j + 1) n x j (found_shown m)
  here name s = (inr (refl, omega arith), at, inside, named_here name s)

  clash_many : (name : List ℕ) → SameId (name_shown m) (member_package_shown m) name from → x.many ≡ true → IsClash look name from types first
  clash_many name s many = record { n = n; x = x; m = j; f = found_shown m; at = at; in_level = inside; has = named_here name s; more = inl many }

  said_first : (name : List ℕ) → SameId (name_shown m) (member_package_shown m) name from → SaidTo look name from types first n j None → (many : Bool) → x.many ≡ many → (k : Known) → IsNoted None first n many m k
      → SaidTo look name from types first n (j + 1) (Some k)
  said_first name s none true e k noted = subst (λ q. SaidTo look name from types first n (j + 1) (Some q)) (sym noted) (clash_many name s e)
  said_first name s none false e k noted =
      let one : SaidTo look name from types first n (j + 1) (Some (One n m)) =
      (x, j, here name s, e, λ i y l g h. elim (before_last i l n j h.0) [ inl b ↦ absurd (none i y l g (b, h.1, h.2, h.3)) | inr q ↦ q ]) in
      subst (λ q. SaidTo look name from types first n (j + 1) (Some q)) (sym noted) one

  clash_two : (name : List ℕ) → SameId (name_shown m) (member_package_shown m) name from → (p : ℕ) (other : declared_member.Member) → SaidTo look name from types first n j (Some (One p other)) → IsClash look name from types first
  clash_two name s p other old =
      record {
        n = n;
        x = x;
        m = j;
        f = found_shown m;
        at = at;
        in_level = inside;
        has = named_here name s;
        more = inr (p, old.0, old.1, found_shown other, old.2.1, old.2.2, old.2.3, λ e f. not_before p old.1 n j old.2.0 e f);
      }

  said_hit : (name : List ℕ) → SameId (name_shown m) (member_package_shown m) name from → (mid : Option Known) (k : Known) → SaidTo look name from types first n j mid → IsNoted mid first n x.many m k → SaidTo look name from types first n (j + 1) (Some k)
  said_hit name s None k said noted = said_first name s said x.many refl k noted
  said_hit name s (Some (One p other)) k said noted =
      elim noted [
        | inl l ↦ subst (λ q. SaidTo look name from types first n (j + 1) (Some q)) (sym l.1) (clash_two name s p other said)
        | inr l ↦ absurd (omega (arith, l.0, said.2.2))
      ]
  said_hit name s (Some More) k said noted = subst (λ q. SaidTo look name from types first n (j + 1) (Some q)) (sym noted) said

  -- what is known of an earlier level stays
  stays : (known : Known) (k : Known) → ((p : ℕ) (other : declared_member.Member) → known ≡ One p other → p < first) → IsNoted (Some known) first n x.many m k → Some k ≡ Some known
  stays (One p other) k before (inl l) = absurd (let b = before p other refl in omega (arith, l.0, b))
  stays (One p other) k before (inr l) = ap (λ q. Some q) l.1
  stays More k before noted = ap (λ q. Some q) noted

  noted_hit : (name : List ℕ) → SameId (name_shown m) (member_package_shown m) name from → (old mid : Option Known) (k : Known) → ((p : ℕ) (other : declared_member.Member) → old ≡ Some (One p other) → p < first)
      → NotedTo look name from types first n j old mid → IsNoted mid first n x.many m k → NotedTo look name from types first n (j + 1) old (Some k)
  noted_hit name s None mid k before said noted = said_hit name s mid k said noted
  noted_hit name s (Some known) mid k before said noted = stays known k (λ p other e. before p other (ap (λ q. Some q) e)) (subst (λ q. IsNoted q first n x.many m k) said noted)

module _ (look : EntryLook) (types : List Reached) (first n : ℕ) (x : Reached) (at : At types n x) (inside : first ≤ n) (o : OwnerModel) (is : o ≡ owner_in look (shape x.term.now)) (j : ℕ) (m : declared_member.Member)
    (has : slice_get (members_of o) j ≡ Some (named_shown m)) (mid new : List (Identifier × Known)) (a : AreNoted mid first n x.many m new) where
  -- a member is noted
  pub are_noted_more : (old : List (Identifier × Known)) → AreBefore first old → AreNotedTo look types first n j old mid → AreNotedTo look types first n (j + 1) old new
  are_noted_more old before noted name from = by (true_or_false (same_identifier (identifier_in m) (identifier_of name from)))
    where
      id : Identifier
      id = identifier_of name from

      by : (same_identifier (identifier_in m) id ≡ true) ⊎ (same_identifier (identifier_in m) id ≡ false) → NotedTo look name from types first n (j + 1) (known_of old id) (known_of new id)
      by (inl e) =
          let same : identifier_in m ≡ id = identifiers_same (identifier_in m) id e in
          subst (λ q. NotedTo look name from types first n (j + 1) (known_of old id) q) (sym (sym (ap (known_of new) same) ∙ a.here))
          (noted_hit look from types first n x at inside o is j m has name (identifier_same (name_shown m) (member_package_shown m) name from same) (known_of old id) (known_of mid id) a.k (before id) (noted name from)
          (subst (λ q. IsNoted (known_of mid q) first n x.many m a.k) same a.noted))
      by (inr e) =
          let off : identifier_in m ≡ id → ⊥ = λ same. true≢false (sym (same_identifiers (identifier_in m) id same) ∙ e) in
          subst (λ q. NotedTo look name from types first n (j + 1) (known_of old id) q) (sym (a.others id off))
          (noted_other look from types first n x at inside o is j m has name (λ s. off (same_identifier_of (name_shown m) (member_package_shown m) name from s)) (known_of old id) (known_of mid id) (noted name from))

  -- and those that are known alone have their identifiers
  pub are_named_more : AreNamed mid → AreNamed new
  are_named_more named id i other h = by (true_or_false (same_identifier (identifier_in m) id))
    where
      alone : (r : Option Known) (many : Bool) → IsNoted r first n many m (One i other) → known_of mid (identifier_in m) ≡ r → identifier_in other ≡ identifier_in m
      alone None true e is' = cc
      alone None false e is' = let s : other ≡ m = (cc) in ap identifier_in s
      alone (Some (One p q)) many (inl l) is' = let z = l.1 in (cc)
      alone (Some (One p q)) many (inr l) is' = let z = l.1 in let s : other ≡ q = (cc) in ap identifier_in s ∙ named (identifier_in m) p q is'
      alone (Some More) many e is' = cc

      by : (same_identifier (identifier_in m) id ≡ true) ⊎ (same_identifier (identifier_in m) id ≡ false) → identifier_in other ≡ id
      by (inl e) =
          let same : identifier_in m ≡ id = identifiers_same (identifier_in m) id e in
          let k : a.k ≡ One i other = (let u = a.here in let v = ap (known_of new) same in (cc)) in
          alone (known_of mid (identifier_in m)) x.many (subst (λ q. IsNoted (known_of mid (identifier_in m)) first n x.many m q) k a.noted) refl ∙ same
      by (inr e) = named id i other (sym (a.others id (λ same. true≢false (sym (same_identifiers (identifier_in m) id same) ∙ e))) ∙ h)

-- 3. One type more, and the end.

before_row : (i k n j : ℕ) → Before i k n j → Before i k (n + 1) 0
before_row i k n j (inl l) = inl (omega (arith, l))
before_row i k n j (inr e) = inl (omega (arith, e.0))

module _ (look : EntryLook) (types : List Reached) (first n : ℕ) (x : Reached) (at : At types n x) (o : OwnerModel) (is : o ≡ owner_in look (shape x.term.now)) (j : ℕ) (all : length (members_of o) ≤ j) where
  in_row : (name from : List ℕ) (i : ℕ) (y : Reached) (k : ℕ) (g : Found) → HitTo look name from types first (n + 1) 0 i y k g → Before i k n j
  in_row name from i y k g h =
      elim h.0 [
        | inl l ↦ elim (less_or_same i n l) [
          | inl b ↦ inl b
          | inr e ↦
              let yx : y ≡ x = at_same types n y x (subst (λ l. At types l y) e h.1) at in
              let there : IsNamedAt o name from k g = subst (λ p. IsNamedAt p name from k g) (sym is) (subst (λ (q : Reached). IsNamedAt (owner_in look (shape q.term.now)) name from k g) yx h.3) in
              let w = at_within (members_of o) k there.0 there.1 in
              inr (e, omega (arith, w, all))
        ]
        | inr e ↦ absurd (omega (arith, e.1))
      ]

  pub are_noted_row : (old new : List (Identifier × Known)) → AreNotedTo look types first n j old new → AreNotedTo look types first (n + 1) 0 old new
  are_noted_row old new noted name from =
      noted_on look name from types first n j (n + 1) 0 (λ i k b. before_row i k n j b) (λ i y k g h. in_row name from i y k g h) (known_of old (identifier_of name from)) (known_of new (identifier_of name from)) (noted name from)

said_end : (look : EntryLook) (name from : List ℕ) (types : List Reached) (first n : ℕ) (new : Option Known) → length types ≤ n → SaidTo look name from types first n 0 new → IsSaid look name from types first new
said_end look name from types first n None all s = λ i y k g h l has. let w = at_within types i y h in s i y k g (inl (omega (arith, w, all)), h, l, has)
said_end look name from types first n (Some (One p member)) all s =
    record {
      x = s.0;
      m = s.1;
      at = s.2.1;
      in_level = s.2.2;
      one = s.3;
      has = s.2.3;
      only = λ i y k g h l has. let w = at_within types i y h in s.4 i y k g (inl (omega (arith, w, all)), h, l, has);
    }
said_end look name from types first n (Some More) all s = s

noted_end : (look : EntryLook) (name from : List ℕ) (types : List Reached) (first n : ℕ) (old new : Option Known) → length types ≤ n → NotedTo look name from types first n 0 old new → IsSaidOrKnown look name from types first old new
noted_end look name from types first n None new all s = said_end look name from types first n new all s
noted_end look name from types first n (Some known) new all s = s

pub are_noted_end : (look : EntryLook) (types : List Reached) (first n : ℕ) (old new : List (Identifier × Known)) → length types ≤ n → AreNotedTo look types first n 0 old new → AreSaid look types first old new
are_noted_end look types first n old new all noted name from = noted_end look name from types first n (known_of old (identifier_of name from)) (known_of new (identifier_of name from)) all (noted name from)

-- the member at a place of the list that was made
pub member_at : (ms : List declared_member.Member) (all : List Named) (j : ℕ) (m : declared_member.Member) → map named_shown ms ≡ all → j < length ms → m ≡ get_or ms j m → slice_get all j ≡ Some (named_shown m)
member_at ms all j m e less is = subst (λ l. slice_get l j ≡ Some (named_shown m)) e (mapped ms j (at_read ms j m less is))
  where
    mapped : (xs : List declared_member.Member) (k : ℕ) → At xs k m → slice_get (map named_shown xs) k ≡ Some (named_shown m)
    mapped [] k h = cc
    mapped (y ∷ ys) zero h = let e : y ≡ m = (cc) in ap (λ q. Some (named_shown q)) e
    mapped (y ∷ ys) (suc k) h = mapped ys k h
