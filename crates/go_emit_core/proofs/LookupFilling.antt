-- Tables that are filled from the back, so that of several items of one key the first stays.
use Rattle.std.proofs.Common.{◌≡◌, ℕ, suc, ◌+◌, ◌<◌, Bool, true, false, cond, List, [], ◌∷◌, length, get_or, drop, Option, Some, None, refl, sym, ap, ◌∙◌, arith}
use Rattle.std.specs.List.{position_from}
use Rattle.std.proofs.lemmas.List.{drop_more}

-- one more item is put in
pub filled : {A : Type 0} (test : A → Bool) (items : List A) (at : ℕ) (d : A) (b : Bool) (new old : Option ℕ)
    → at < length items → new ≡ cond b (Some at) old → b ≡ test (get_or items at d) → old ≡ position_from test (at + 1) (drop (at + 1) items)
    → new ≡ position_from test at (drop at items)
filled test items at d b new old within is same before =
    is ∙ (ap (λ (t : Bool). cond t (Some at) old) same ∙ (ap (λ (r : Option ℕ). cond (test (get_or items at d)) (Some at) r) before ∙ sym (ap (position_from test at) (drop_more items at d within))))

-- the same by a test that is the same
pub filled_back : {A : Type 0} (test back : A → Bool) → ((a : A) → back a ≡ test a) → (items : List A) (at : ℕ) (d : A) (new old : Option ℕ)
    → at < length items → new ≡ cond (back (get_or items at d)) (Some at) old → old ≡ position_from test (at + 1) (drop (at + 1) items) → new ≡ position_from test at (drop at items)
filled_back test back same items at d new old within is before = filled test items at d (back (get_or items at d)) new old within is (same (get_or items at d)) before

-- a look-up by recursion, and by the place of the first item that passes
module _ {A V : Type 0} (test : A → Bool) (value : A → V) (look : List A → Option V) (nil : look [] ≡ None)
    (cons : (a : A) (rest : List A) → look (a ∷ rest) ≡ cond (test a) (Some (value a)) (look rest)) where
  pub record Found (items : List A) (k n : ℕ) (d : A) : Type 0 where
    pub place : ℕ
    pub is : n ≡ k + place
    pub within : place < length items
    pub has : look items ≡ Some (value (get_or items place d))

  pub found : (items : List A) (k n : ℕ) (d : A) → position_from test k items ≡ Some n → Found items k n d
  found [] k n d e = cc
  found (a ∷ rest) k n d e = by (test a) refl e (found rest (k + 1) n d)
    where
      by : (b : Bool) → test a ≡ b → cond b (Some k) (position_from test (k + 1) rest) ≡ Some n → (position_from test (k + 1) rest ≡ Some n → Found rest (k + 1) n d) → Found (a ∷ rest) k n d
      by true t e ih = record {
        place = 0;
        is = (let same : k ≡ n = (let s : Some k ≡ Some n = e in cc) in omega (arith, same));
        within = omega arith;
        has = cons a rest ∙ ap (λ (b : Bool). cond b (Some (value a)) (look rest)) t;
      }
      by false t e ih = (let behind = ih e in record {
        place = suc behind.place;
        is = omega (arith, behind.is);
        within = omega (arith, behind.within);
        has = cons a rest ∙ (ap (λ (b : Bool). cond b (Some (value a)) (look rest)) t ∙ behind.has);
      })

  pub missing : (items : List A) (k : ℕ) → position_from test k items ≡ None → look items ≡ None
  missing [] k e = nil
  missing (a ∷ rest) k e = by (test a) refl e (missing rest (k + 1))
    where
      by : (b : Bool) → test a ≡ b → cond b (Some k) (position_from test (k + 1) rest) ≡ None → (position_from test (k + 1) rest ≡ None → look rest ≡ None) → look (a ∷ rest) ≡ None
      by true t e ih = cc
      by false t e ih = cons a rest ∙ (ap (λ (b : Bool). cond b (Some (value a)) (look rest)) t ∙ ih e)
