-- What a part of a tree is where the identifier that begins at an offset has another spelling.
use Rattle.std.proofs.Common.{◌≡◌, ◌≤◌, ◌+◌, ℕ, suc, Bool, true, false, ◌&&◌, List, [], ◌∷◌, ◌++◌, length, Option, Some, None, refl, sym, ap, subst, ◌∙◌, arith, if◌then◌else◌, nat_eq}
use Rattle.std.specs.Prelude.{filter}
use Rattle.std.proofs.lemmas.List.{length-append}
use Rattle.std.proofs.lemmas.List.Elements.{filter-append}
use Rattle.go_site_core.specs.text_core.declared.span.Span.{Span}
use Rattle.go_tree_nodes.specs.declared.names.Ident.{Ident}
use Rattle.go_tree_nodes.specs.Terminals.{Terminal, TerminalKind, Spelled, Number, Quoted, Word, Mark, Stray}
use Rattle.go_tree_nodes.specs.Trees.{Separated, One, Then}
use Rattle.go_tree_nodes.specs.token_core.declared.kind.Operator.{Operator}
use Rattle.go_tree_nodes.specs.Spelling.{spell_ident, spell_idents, spell_some}
use Rattle.go_tree_core.specs.copies.Respelled.{respelled_ident, separated_with}
use Rattle.go_tree_core.specs.declared.occurrence.Occ.{Occ}
use Rattle.go_tree_core.specs.Occurrences.{is_identifier}
use Rattle.go_stmt_core.specs.expr_core.Respelling.{respelled}

-- one more, where a terminal is a name that begins at the offset
abbrev pub counted : ℕ → TerminalKind → Span → ℕ → ℕ
counted start (Spelled n) s k = if nat_eq s.start start then suc k else k
counted start (Number n) s k = k
counted start (Quoted text) s k = k
counted start (Word w) s k = k
counted start (Mark o) s k = k
counted start Stray s k = k

-- how many names among terminals begin there
abbrev pub count : ℕ → List Terminal → ℕ
count start [] = 0
count start (t ∷ ts) = counted start t.kind t.span (count start ts)

-- the identifiers among occurrences that begin there
abbrev pub is_there : ℕ → Occ → Bool
is_there start o = is_identifier o.role && nat_eq o.span.start start

abbrev pub found : ℕ → List Occ → List Occ
found start os = filter (is_there start) os

counted_plus : (start : ℕ) (k : TerminalKind) (s : Span) (n m : ℕ) → counted start k s (n + m) ≡ counted start k s n + m
counted_plus start (Spelled a) s n m = by (nat_eq s.start start)
  where
    by : (b : Bool) → (if b then suc (n + m) else (n + m)) ≡ (if b then suc n else n) + m
    by true = omega arith
    by false = refl
counted_plus start (Number a) s n m = refl
counted_plus start (Quoted a) s n m = refl
counted_plus start (Word a) s n m = refl
counted_plus start (Mark o) s n m = refl
counted_plus start Stray s n m = refl

pub count_both : (start : ℕ) (ts us : List Terminal) → count start (ts ++ us) ≡ count start ts + count start us
count_both start [] us = omega arith
count_both start (t ∷ ts) us = ap (λ n. counted start t.kind t.span n) (count_both start ts us) ∙ counted_plus start t.kind t.span (count start ts) (count start us)

found_both : (start : ℕ) (os ps : List Occ) → found start (os ++ ps) ≡ found start os ++ found start ps
found_both start os ps = filter-append (is_there start) os ps

-- one of two lists has the only one
pub data Only {A : Type 0} (xs ys : List A) (x : A) : Type 0 where
  InFirst : xs ≡ x ∷ [] → ys ≡ [] → Only xs ys x
  InSecond : xs ≡ [] → ys ≡ x ∷ [] → Only xs ys x

abbrev head_or : {A : Type 0} → A → List A → A
head_or d [] = d
head_or d (x ∷ xs) = x

abbrev tail_of : {A : Type 0} → List A → List A
tail_of [] = []
tail_of (x ∷ xs) = xs

no_more : {A : Type 0} (xs ys : List A) → xs ++ ys ≡ [] → (xs ≡ []) × (ys ≡ [])
no_more [] ys h = (refl, h)
no_more (x ∷ xs) ys h = absurd (cc)

pub only_of : {A : Type 0} (xs ys : List A) (x : A) → xs ++ ys ≡ x ∷ [] → Only xs ys x
only_of [] ys x h = InSecond refl h
only_of (y ∷ xs) ys x h =
    let rest = no_more xs ys (ap tail_of h) in
    let same : y ≡ x = ap (head_or x) h in
    InFirst (ap (λ l. y ∷ l) rest.0 ∙ ap (λ z. z ∷ []) same) rest.1

one_long : {A : Type 0} (xs : List A) (x : A) → xs ≡ x ∷ [] → length xs ≡ 1
one_long xs x h = ap length h

-- where no identifier is used
abbrev pub Never : {A : Type 0} → Occ → A → A → Type 0
Never o a b = ⊥

-- an identifier, or one that is spelled as a name
abbrev spelled_if : List ℕ → Ident → Bool → Ident
spelled_if name x b = record { name = if b then name else x.name; span = x.span }

module _ (start : ℕ) (name : List ℕ) where
  abbrev pub h : Ident → Ident
  h x = respelled_ident start name x

  -- A part of a tree, that writes these terminals and has these occurrences, before and after: with no name that begins at the offset it stays as it
  -- was, and with one at most, which is used, the relation holds of this one.
  pub record Anew {A : Type 0} (R : Occ → A → A → Type 0) (ts : List Terminal) (os : List Occ) (a b : A) : Type 0 where
    pub same : count start ts ≡ 0 → b ≡ a
    pub fewer : length (found start os) ≤ count start ts
    pub new : count start ts ≤ 1 → (o : Occ) → found start os ≡ o ∷ [] → R o a b

  pub fixed : {A : Type 0} {R : Occ → A → A → Type 0} {ts : List Terminal} {a : A} → Anew R ts [] a a
  fixed = record { same = λ e. refl; fewer = omega arith; new = λ few o e. absurd (cc) }

  -- the same under another relation
  pub lifted : {A B : Type 0} {P : Occ → A → A → Type 0} {R : Occ → B → B → Type 0} {ts : List Terminal} {os : List Occ} {a c : A} (mk : A → B) → ((o : Occ) (a c : A) → P o a c → R o (mk a) (mk c)) → Anew P ts os a c → Anew R ts os (mk a) (mk c)
  lifted {a = a} {c = c} mk to m = record { same = λ e. ap mk (m.same e); fewer = m.fewer; new = λ few o e. to o a c (m.new few o e) }

  -- behind a terminal that is no name
  pub past : {A : Type 0} {R : Occ → A → A → Type 0} {t : Terminal} {ts : List Terminal} {os : List Occ} {a b : A} → ((n : ℕ) → counted start t.kind t.span n ≡ n) → Anew R ts os a b → Anew R (t ∷ ts) os a b
  past {t = t} {ts = ts} {os = os} quiet m =
      let e = quiet (count start ts) in
      record { same = λ k. m.same (sym e ∙ k); fewer = subst (λ n. length (found start os) ≤ n) (sym e) m.fewer; new = λ few o k. m.new (subst (λ n. n ≤ 1) e few) o k }

  -- behind and before terminals that are no names
  pub behind : {A : Type 0} {R : Occ → A → A → Type 0} {us : List Terminal} {os : List Occ} {a b : A} (ts : List Terminal) → count start ts ≡ 0 → Anew R us os a b → Anew R (ts ++ us) os a b
  behind {us = us} {os = os} ts quiet m =
      let e : count start (ts ++ us) ≡ count start us = count_both start ts us ∙ (let z : count start ts + count start us ≡ count start us = omega (arith, quiet) in z) in
      record { same = λ k. m.same (sym e ∙ k); fewer = subst (λ n. length (found start os) ≤ n) (sym e) m.fewer; new = λ few o k. m.new (subst (λ n. n ≤ 1) e few) o k }

  pub before : {A : Type 0} {R : Occ → A → A → Type 0} {ts : List Terminal} {os : List Occ} {a b : A} (us : List Terminal) → count start us ≡ 0 → Anew R ts os a b → Anew R (ts ++ us) os a b
  before {ts = ts} {os = os} us quiet m =
      let e : count start (ts ++ us) ≡ count start ts = count_both start ts us ∙ (let z : count start ts + count start us ≡ count start ts = omega (arith, quiet) in z) in
      record { same = λ k. m.same (sym e ∙ k); fewer = subst (λ n. length (found start os) ≤ n) (sym e) m.fewer; new = λ few o k. m.new (subst (λ n. n ≤ 1) e few) o k }

  pub some_quiet : (o : Operator) (s : Option Span) → count start (spell_some o s) ≡ 0
  some_quiet o None = refl
  some_quiet o (Some s) = refl

  -- two parts
  pub pair : {A B C : Type 0} {P : Occ → A → A → Type 0} {Q : Occ → B → B → Type 0} {R : Occ → C → C → Type 0} {ts us : List Terminal} {os ps : List Occ} {a c : A} {b d : B} (mk : A → B → C)
      → ((o : Occ) (x y : A) (z : B) → P o x y → R o (mk x z) (mk y z)) → ((o : Occ) (x : A) (y z : B) → Q o y z → R o (mk x y) (mk x z)) → Anew P ts os a c → Anew Q us ps b d
      → Anew R (ts ++ us) (os ++ ps) (mk a b) (mk c d)
  pair {R = R} {ts = ts} {us = us} {os = os} {ps = ps} {a = a} {c = c} {b = b} {d = d} mk one two m n =
      let sum = count_both start ts us in
      let both = found_both start os ps in
      record {
        same = λ e.
            let left = m.same (let z : count start ts ≡ 0 = omega (arith, sum, e) in z) in
            let right = n.same (let z : count start us ≡ 0 = omega (arith, sum, e) in z) in
            ap (λ x. mk x d) left ∙ ap (λ y. mk a y) right;
        fewer = (let long = ap length both ∙ length-append (found start os) (found start ps) in omega (arith, long, sum, m.fewer, n.fewer));
        new = λ few o e. by few o (only_of (found start os) (found start ps) o (sym both ∙ e));
      }
    where
      by : count start (ts ++ us) ≤ 1 → (o : Occ) → Only (found start os) (found start ps) o → R o (mk a b) (mk c d)
      by few o (InFirst here none) =
          let sum = count_both start ts us in
          let long = one_long (found start os) o here in
          let right = n.same (let z : count start us ≡ 0 = omega (arith, sum, few, long, m.fewer) in z) in
          subst (λ y. R o (mk a b) (mk c y)) (sym right) (one o a c b (m.new (let z : count start ts ≤ 1 = omega (arith, sum, few) in z) o here))
      by few o (InSecond none here) =
          let sum = count_both start ts us in
          let long = one_long (found start ps) o here in
          let left = m.same (let z : count start ts ≡ 0 = omega (arith, sum, few, long, n.fewer) in z) in
          subst (λ x. R o (mk a b) (mk x d)) (sym left) (two o a b d (n.new (let z : count start us ≤ 1 = omega (arith, sum, few) in z) o here))

  -- three
  pub three : {A B C D : Type 0} {P : Occ → A → A → Type 0} {Q : Occ → B → B → Type 0} {S : Occ → C → C → Type 0} {R : Occ → D → D → Type 0} {ts us vs : List Terminal} {os ps qs : List Occ} {a a' : A} {b b' : B} {c c' : C} (mk : A → B → C → D)
      → ((o : Occ) (x y : A) (b : B) (c : C) → P o x y → R o (mk x b c) (mk y b c)) → ((o : Occ) (a : A) (x y : B) (c : C) → Q o x y → R o (mk a x c) (mk a y c)) → ((o : Occ) (a : A) (b : B) (x y : C) → S o x y → R o (mk a b x) (mk a b y))
      → Anew P ts os a a' → Anew Q us ps b b' → Anew S vs qs c c' → Anew R (ts ++ (us ++ vs)) (os ++ (ps ++ qs)) (mk a b c) (mk a' b' c')
  three {A = A} {B = B} {C = C} {R = R} {a = a} {b = b} {b' = b'} {c = c} {c' = c'} mk one two last m n k =
      let more : Occ → B × C → B × C → Type 0 = λ o p q. (x : A) → R o (mk x p.0 p.1) (mk x q.0 q.1) in
      pair {R = R} {b = (b, c)} {d = (b', c')} (λ x p. mk x p.0 p.1) (λ o x y p r. one o x y p.0 p.1 r) (λ o x p q r. r x) m
      (pair {R = more} {a = b} {c = b'} {b = c} {d = c'} (λ y z. (y, z)) (λ o x y z r w. two o w x y z r) (λ o x y z r w. last o w x y z r) n k)

  -- an identifier that is declared
  pub declared : (x : Ident) → Anew Never (spell_ident x ∷ []) [] x (h x)
  declared x = by (nat_eq x.span.start start) refl
    where
      by : (b : Bool) → nat_eq x.span.start start ≡ b → Anew Never (spell_ident x ∷ []) [] x (h x)
      by true e =
          let one : count start (spell_ident x ∷ []) ≡ 1 = ap (λ b. if b then 1 else 0) e in
          record { same = λ k. absurd (omega (arith, one, k)); fewer = omega arith; new = λ few o k. absurd (cc) }
      by false e = record { same = λ k. ap (λ b. record { name = if b then name else x.name; span = x.span }) e; fewer = omega arith; new = λ few o k. absurd (cc) }

  pub idents_anew : (xs : Separated Ident) → Anew Never (spell_idents xs) [] xs (separated_with h xs)
  idents_anew (One x) = lifted One (λ o a b r. r) (declared x)
  idents_anew (Then x comma more) = pair {ts = spell_ident x ∷ []} {os = []} (λ y ys. Then y comma ys) (λ o a b c r. r) (λ o a b c r. r) (declared x) (past (λ n. refl) (idents_anew more))

  -- an identifier that is used, as what is made of it
  pub leaf : {A : Type 0} {R : Occ → A → A → Type 0} (mk : Ident → A) (x : Ident) (o : Occ) (os : List Occ) → found start os ≡ (if nat_eq x.span.start start then o ∷ [] else []) → R o (mk x) (mk (respelled name x)) → Anew R (spell_ident x ∷ []) os (mk x) (mk (h x))
  leaf {A} {R} mk x o os there r = by (nat_eq x.span.start start) refl
    where
      by : (b : Bool) → nat_eq x.span.start start ≡ b → Anew R (spell_ident x ∷ []) os (mk x) (mk (h x))
      by true e =
          let one : count start (spell_ident x ∷ []) ≡ 1 = ap (λ b. if b then 1 else 0) e in
          let it : found start os ≡ o ∷ [] = there ∙ ap (λ b. if b then o ∷ [] else []) e in
          let long : length (found start os) ≡ 1 = ap length it in
          record {
            same = λ k. absurd (omega (arith, one, k));
            fewer = omega (arith, one, long);
            new = λ few p k.
                let same : o ≡ p = ap (head_or o) (sym it ∙ k) in
                subst (λ q. R q (mk x) (mk (h x))) same (subst (λ y. R o (mk x) (mk y)) (sym (ap (spelled_if name x) e)) r);
          }
      by false e =
          let it : found start os ≡ [] = there ∙ ap (λ b. if b then o ∷ [] else []) e in
          let long : length (found start os) ≡ 0 = ap length it in
          record { same = λ k. ap (λ b. mk (spelled_if name x b)) e; fewer = omega (arith, long); new = λ few p k. (let no : [] ≡ p ∷ [] = sym it ∙ k in absurd (cc)) }
