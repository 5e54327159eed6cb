-- Formats whose two directions agree: what fits is read back, whatever follows; what is read fits and has these bytes.
use Rattle.std.proofs.Common.{◌≡◌, ℕ, zero, suc, ◌^◌, ◌<◌, ◌≤◌, Bool, true, false, cond, ltb, leb, eqb, List, [], ◌∷◌, ◌++◌, length, take, drop, Option, Some, None, refl, sym, ap, subst, ◌∙◌, append_assoc, arith}
use Rattle.std.specs.Int.{Width, w8, w16, w32, w64, byte_len, from_be_bytes, to_be_bytes}
use Rattle.std.specs.List.{flat_map, AllByRecursion}
use Rattle.std.proofs.lemmas.Bool.{ltb-false, le-ltb, leb-true, le-leb, eqb-true}
use Rattle.std.proofs.lemmas.List.{take_at, drop_at, take-append-drop, length-append, length-take, append-nil, nil_from_length}
use Rattle.std.proofs.lemmas.Nat.{be_bytes_2, be_bytes_4, be_bytes_8, from_be_bytes-to_be_bytes_2, from_be_bytes-to_be_bytes_4, from_be_bytes-to_be_bytes_8}
use Rattle.std.proofs.lemmas.List.Concat.{flat_map-cons}
use Rattle.pon_lists.specs.Bytes.{AreBytes}
use Rattle.pon_lists.specs.OptionSteps.{◌>>=◌}
use Rattle.pon_lists.proofs.Bytes.{bytes-back, bytes-front}
use Rattle.pon_record.specs.Format.{Format, ◌&◌, number, told_by, only, passing, counted, read_times, followed, constant, all_of, sized}

bytes-take : (n : ℕ) (bytes : List ℕ) → AreBytes bytes → AreBytes (take n bytes)
bytes-take n bytes h = bytes-front (take n bytes) (drop n bytes) (subst AreBytes (sym (take-append-drop n bytes)) h)

-- the rest of bytes is bytes
pub rest_fits : (text rest bytes : List ℕ) → bytes ≡ text ++ rest → AreBytes bytes → AreBytes rest
rest_fits text rest bytes e h = bytes-back text rest (subst AreBytes e h)

pub record IsExact {A : Type 0} (f : Format A) : Type 0 where
  pub again : (x : A) (rest : List ℕ) → f.Fits x → f.read (f.write x ++ rest) ≡ Some (x, rest)
  pub takes : (bytes : List ℕ) (x : A) (rest : List ℕ) → AreBytes bytes → f.read bytes ≡ Some (x, rest) → f.Fits x × (bytes ≡ f.write x ++ rest)

-- the value of a step that did not fail
pub bind_some : {A B : Type 0} (r : Option A) (f : A → Option B) (y : B) → (r >>= f) ≡ Some y → (x : A) × (r ≡ Some x) × (f x ≡ Some y)
bind_some (Some x) f y e = (x, refl, e)
bind_some None f y e = absurd cc

-- a test that did not fail
guarded : {A : Type 0} (b : Bool) (x y : A) → cond b None (Some x) ≡ Some y → (b ≡ false) × (x ≡ y)
guarded true x y e = absurd cc
guarded false x y e = (refl, cc)

pub passed : {A : Type 0} (b : Bool) (x y : A) → cond b (Some x) None ≡ Some y → (b ≡ true) × (x ≡ y)
passed true x y e = (refl, cc)
passed false x y e = absurd cc

abbrev pub there : {A : Type 0} → A → Option A
there x = Some x

pub some_is : {A : Type 0} (x y : A) → there x ≡ there y → x ≡ y
some_is x y e = cc

-- ---- one value, then another

pub both : {A B : Type 0} (f : Format A) (g : Format B) → IsExact f → IsExact g → IsExact (f & g)
both f g F G = record {
  again = λ x rest fits. ap (f & g).read (append_assoc (f.write x.0) (g.write x.1) rest)
      ∙ rw (F.again x.0 (g.write x.1 ++ rest) fits.0, G.again x.1 rest fits.1) refl;
  takes = λ bytes x rest h e.
      let a = bind_some (f.read bytes) (λ a. g.read a.1 >>= λ b. Some ((a.0, b.0), b.1)) (x, rest) e in
      let b = bind_some (g.read a.0.1) (λ b. Some ((a.0.0, b.0), b.1)) (x, rest) a.2 in
      let s = F.takes bytes a.0.0 a.0.1 h a.1 in
      let t = G.takes a.0.1 b.0.0 b.0.1 (rest_fits (f.write a.0.0) a.0.1 bytes s.1 h) b.1 in
      subst (λ y. (f.Fits y.0.0 × g.Fits y.0.1) × (bytes ≡ (f.write y.0.0 ++ g.write y.0.1) ++ y.1)) (some_is ((a.0.0, b.0.0), b.0.1) (x, rest) b.2)
      ((s.0, t.0), s.1 ∙ ap (λ t. f.write a.0.0 ++ t) t.1 ∙ sym (append_assoc (f.write a.0.0) (g.write b.0.0) b.0.1));
}

-- ---- a value encoded by another

-- no two values have the same bytes
abbrev pub IsOneCode : {A B : Type 0} → Format A → (A → Option B) → (B → A) → Type 0
IsOneCode {A} {B} f meaning code = (a : A) (b : B) → f.Fits a → meaning a ≡ Some b → code b ≡ a

pub told : {A B : Type 0} (meaning : A → Option B) (code : B → A) (f : Format A) → IsExact f → IsOneCode f meaning code → IsExact (told_by meaning code f)
told meaning code f F one = record {
  again = λ x rest fits. rw (F.again (code x) rest fits.0, fits.1) refl;
  takes = λ bytes x rest h e.
      let a = bind_some (f.read bytes) (λ a. meaning a.0 >>= λ b. Some (b, a.1)) (x, rest) e in
      let b = bind_some (meaning a.0.0) (λ b. Some (b, a.0.1)) (x, rest) a.2 in
      let s = F.takes bytes a.0.0 a.0.1 h a.1 in
      let c = one a.0.0 b.0 s.0 b.1 in
      subst (λ y. (f.Fits (code y.0) × (meaning (code y.0) ≡ Some y.0)) × (bytes ≡ f.write (code y.0) ++ y.1)) (some_is (b.0, a.0.1) (x, rest) b.2)
      ((subst f.Fits (sym c) s.0, ap meaning c ∙ b.1), s.1 ∙ ap (λ t. f.write t ++ a.0.1) (sym c));
}

pub only_those : {A : Type 0} (test : A → Bool) (f : Format A) → IsExact f → IsExact (only test f)
only_those test f F = told (passing test) (λ x. x) f F (λ a b fits e. sym (passed (test a) a b e).1)

-- ---- lists

times_again : {A : Type 0} (f : Format A) → IsExact f → (xs : List A) (rest : List ℕ) → AllByRecursion f.Fits xs → read_times f (length xs) (flat_map f.write xs ++ rest) ≡ Some (xs, rest)
times_again f F [] rest fits = refl
times_again f F (x ∷ xs) rest fits =
    ap (read_times f (suc (length xs))) (ap (λ t. t ++ rest) (flat_map-cons f.write x xs) ∙ append_assoc (f.write x) (flat_map f.write xs) rest)
    ∙ rw (F.again x (flat_map f.write xs ++ rest) fits.0, times_again f F xs rest fits.1) refl

times_take : {A : Type 0} (f : Format A) → IsExact f → (n : ℕ) (bytes : List ℕ) (x : List A × List ℕ) → AreBytes bytes → read_times f n bytes ≡ Some x
    → AllByRecursion f.Fits x.0 × (bytes ≡ flat_map f.write x.0 ++ x.1) × (length x.0 ≡ n)
times_take f F zero bytes x h e = subst (λ y. AllByRecursion f.Fits y.0 × (bytes ≡ flat_map f.write y.0 ++ y.1) × (length y.0 ≡ 0)) (some_is ([], bytes) x e) (tt, refl, refl)
times_take f F (suc n) bytes x h e =
    let a = bind_some (f.read bytes) (λ a. read_times f n a.1 >>= λ b. Some (a.0 ∷ b.0, b.1)) x e in
    let b = bind_some (read_times f n a.0.1) (λ b. Some (a.0.0 ∷ b.0, b.1)) x a.2 in
    let s = F.takes bytes a.0.0 a.0.1 h a.1 in
    let t = times_take f F n a.0.1 b.0 (rest_fits (f.write a.0.0) a.0.1 bytes s.1 h) b.1 in
    subst (λ y. AllByRecursion f.Fits y.0 × (bytes ≡ flat_map f.write y.0 ++ y.1) × (length y.0 ≡ suc n)) (some_is (a.0.0 ∷ b.0.0, b.0.1) x b.2)
    ((s.0, t.0), s.1 ∙ ap (λ u. f.write a.0.0 ++ u) t.1 ∙ sym (ap (λ u. u ++ b.0.1) (flat_map-cons f.write a.0.0 b.0.0) ∙ append_assoc (f.write a.0.0) (flat_map f.write b.0.0) b.0.1), ap suc t.2)

pub lists : {A : Type 0} (count : Format ℕ) (most : ℕ) (f : Format A) → IsExact count → IsExact f → IsExact (counted count most f)
lists count most f C F =
    let few = only_those (λ n. leb n most) count C in
    record {
      again = λ xs rest fits. ap (counted count most f).read (append_assoc (count.write (length xs)) (flat_map f.write xs) rest)
          ∙ rw (few.again (length xs) (flat_map f.write xs ++ rest) (fits.0, rw (le-leb _ _ fits.1) refl)) (times_again f F xs rest fits.2);
      takes = λ bytes xs rest h e.
          let n = bind_some ((only (λ n. leb n most) count).read bytes) (λ n. read_times f n.0 n.1) (xs, rest) e in
          let s = few.takes bytes n.0.0 n.0.1 h n.1 in
          let t = times_take f F n.0.0 n.0.1 (xs, rest) (rest_fits (count.write n.0.0) n.0.1 bytes s.1 h) n.2 in
          let le = leb-true _ _ (passed (leb n.0.0 most) n.0.0 n.0.0 s.0.1).0 in
          ((subst count.Fits (sym t.2) s.0.0, omega (arith, t.2, le), t.0), s.1 ∙ ap (λ u. count.write n.0.0 ++ u) t.1 ∙ sym (append_assoc (count.write n.0.0) (flat_map f.write xs) rest) ∙ ap (λ k. (count.write k ++ flat_map f.write xs) ++ rest) (sym t.2));
    }

-- ---- numbers

pub record IsWide (w : Width) : Type 0 where
  pub len : (n : ℕ) → length (to_be_bytes w n) ≡ byte_len w
  pub back : (bytes : List ℕ) → length bytes ≡ byte_len w → AreBytes bytes → to_be_bytes w (from_be_bytes w bytes) ≡ bytes
  pub again : (n : ℕ) → n < 256 ^ byte_len w → from_be_bytes w (to_be_bytes w n) ≡ n
  pub below : (bytes : List ℕ) → AreBytes bytes → from_be_bytes w bytes < 256 ^ byte_len w

pub numbers : (w : Width) → IsWide w → IsExact (number w)
numbers w wide = record {
  again = λ n rest lt.
      let len = wide.len n in
      let long : ltb (length (to_be_bytes w n ++ rest)) (byte_len w) ≡ false = le-ltb _ _ (omega (arith, length-append (to_be_bytes w n) rest)) in
      rw (long, take_at (to_be_bytes w n) rest (byte_len w) len, drop_at (to_be_bytes w n) rest (byte_len w) len, wide.again n lt) refl;
  takes = λ bytes n rest fits e.
      let g = guarded (ltb (length bytes) (byte_len w)) (from_be_bytes w (take (byte_len w) bytes), drop (byte_len w) bytes) (n, rest) e in
      let long : byte_len w ≤ length bytes = ltb-false _ _ g.0 in
      let front_fits = bytes-take (byte_len w) bytes fits in
      let front = wide.back (take (byte_len w) bytes) (omega (arith, length-take (byte_len w) bytes)) front_fits in
      subst (λ y. (y.0 < 256 ^ byte_len w) × (bytes ≡ to_be_bytes w y.0 ++ y.1)) g.1
      (wide.below (take (byte_len w) bytes) front_fits, sym (take-append-drop (byte_len w) bytes) ∙ ap (λ t. t ++ drop (byte_len w) bytes) (sym front));
}

pub wide8 : IsWide w8
wide8 = record {
  len = λ n. refl;
  back = one_byte;
  again = λ n lt. omega (arith, lt);
  below = λ bytes fits. omega (arith, fits 0);
}
  where
    one_byte : (bytes : List ℕ) → length bytes ≡ 1 → AreBytes bytes → to_be_bytes w8 (from_be_bytes w8 bytes) ≡ bytes
    one_byte [] e h = absurd (omega (arith, e))
    one_byte (b ∷ []) e h = ap (λ n. n ∷ []) (omega (arith, h 0))
    one_byte (b ∷ c ∷ bs) e h = absurd (omega (arith, e))

pub wide16 : IsWide w16
wide16 = record {
  len = λ n. refl;
  back = λ bytes len fits. be_bytes_2 bytes _ len fits refl;
  again = λ n lt. from_be_bytes-to_be_bytes_2 n lt;
  below = λ bytes fits. omega (arith, fits 0, fits 1);
}

pub wide32 : IsWide w32
wide32 = record {
  len = λ n. refl;
  back = λ bytes len fits. be_bytes_4 bytes _ len fits refl;
  again = λ n lt. from_be_bytes-to_be_bytes_4 n lt;
  below = λ bytes fits. omega (arith, fits 0, fits 1, fits 2, fits 3);
}

pub wide64 : IsWide w64
wide64 = record {
  len = λ n. refl;
  back = λ bytes len fits. be_bytes_8 bytes _ len fits refl;
  again = λ n lt. from_be_bytes-to_be_bytes_8 n lt;
  below = λ bytes fits. omega (arith, fits 0, fits 1, fits 2, fits 3, fits 4, fits 5, fits 6, fits 7);
}

pub one_reading : {A : Type 0} (f : Format A) → IsExact f → (o p : A) (x y : List ℕ) → f.Fits o → f.Fits p → f.write o ++ x ≡ f.write p ++ y → (o ≡ p) × (x ≡ y)
one_reading f F o p x y ho hp e =
    let same : (o, x) ≡ (p, y) = some_is (o, x) (p, y) (sym (F.again o x ho) ∙ ap f.read e ∙ F.again p y hp) in
    (ap (λ z. z.0) same, ap (λ z. z.1) same)

-- ---- formats that depend on what was read before

pub followed_by : {A B : Type 0} (f : Format A) (g : A → Format B) → IsExact f → ((a : A) → IsExact (g a)) → IsExact (followed f g)
followed_by f g F G = record {
  again = λ x rest fits. ap (followed f g).read (append_assoc (f.write x.0) ((g x.0).write x.1) rest)
      ∙ rw (F.again x.0 ((g x.0).write x.1 ++ rest) fits.0, (G x.0).again x.1 rest fits.1) refl;
  takes = λ bytes x rest h e.
      let a = bind_some (f.read bytes) (λ a. (g a.0).read a.1 >>= λ b. Some ((a.0, b.0), b.1)) (x, rest) e in
      let b = bind_some ((g a.0.0).read a.0.1) (λ b. Some ((a.0.0, b.0), b.1)) (x, rest) a.2 in
      let s = F.takes bytes a.0.0 a.0.1 h a.1 in
      let t = (G a.0.0).takes a.0.1 b.0.0 b.0.1 (rest_fits (f.write a.0.0) a.0.1 bytes s.1 h) b.1 in
      subst (λ y. (f.Fits y.0.0 × (g y.0.0).Fits y.0.1) × (bytes ≡ (f.write y.0.0 ++ (g y.0.0).write y.0.1) ++ y.1)) (some_is ((a.0.0, b.0.0), b.0.1) (x, rest) b.2)
      ((s.0, t.0), s.1 ∙ ap (λ t. f.write a.0.0 ++ t) t.1 ∙ sym (append_assoc (f.write a.0.0) ((g a.0.0).write b.0.0) b.0.1));
}

pub constants : {A : Type 0} (a : A) → IsExact (constant a)
constants a = record {
  again = λ x rest fits. ap (λ y. Some (y, rest)) (sym fits);
  takes = λ bytes x rest h e. subst (λ y. (y.0 ≡ a) × (bytes ≡ y.1)) (some_is (a, bytes) (x, rest) e) (refl, refl);
}

whole : {A : Type 0} (r : Option (A × List ℕ)) (x : A) → all_of r ≡ Some x → r ≡ Some (x, [])
whole None x e = absurd cc
whole (Some y) x e =
    let p = passed (eqb (length y.1) 0) y.0 x e in
    ap (λ z. Some z) (λ i. (p.1 i, nil_from_length y.1 (eqb-true _ _ p.0) i))

pub sizes : {A : Type 0} (w : Width) → IsWide w → (f : Format A) → IsExact f → IsExact (sized w f)
sizes w wide f F = record {
  again = λ x rest fits.
      let text = f.write x in
      let long : ltb (length (text ++ rest)) (length text) ≡ false = le-ltb _ _ (omega (arith, length-append text rest)) in
      ap (sized w f).read (append_assoc (to_be_bytes w (length text)) text rest)
      ∙ rw ((numbers w wide).again (length text) (text ++ rest) fits.1, long, take_at text rest (length text) refl, drop_at text rest (length text) refl, ap f.read (sym (append-nil text)) ∙ F.again x [] fits.0) refl;
  takes = λ bytes x rest h e.
      let n = bind_some ((number w).read bytes) (λ n. cond (ltb (length n.1) n.0) None (all_of (f.read (take n.0 n.1)) >>= λ x. Some (x, drop n.0 n.1))) (x, rest) e in
      let s = (numbers w wide).takes bytes n.0.0 n.0.1 h n.1 in
      let g = allowed (ltb (length n.0.1) n.0.0) (all_of (f.read (take n.0.0 n.0.1)) >>= λ x. Some (x, drop n.0.0 n.0.1)) (x, rest) n.2 in
      let long : n.0.0 ≤ length n.0.1 = ltb-false _ _ g.0 in
      let a = bind_some (all_of (f.read (take n.0.0 n.0.1))) (λ x. Some (x, drop n.0.0 n.0.1)) (x, rest) g.1 in
      let inner = rest_fits ((number w).write n.0.0) n.0.1 bytes s.1 h in
      let t = F.takes (take n.0.0 n.0.1) a.0 [] (bytes-take n.0.0 n.0.1 inner) (whole _ a.0 a.1) in
      let text : take n.0.0 n.0.1 ≡ f.write a.0 = t.1 ∙ append-nil (f.write a.0) in
      let size : n.0.0 ≡ length (f.write a.0) = omega (arith, length-take n.0.0 n.0.1, ap (λ (l : List ℕ). length l) text, long) in
      subst (λ y. (f.Fits y.0 × (length (f.write y.0) < 256 ^ byte_len w)) × (bytes ≡ (to_be_bytes w (length (f.write y.0)) ++ f.write y.0) ++ y.1)) (some_is (a.0, drop n.0.0 n.0.1) (x, rest) a.2) (
        (t.0, subst (λ k. k < 256 ^ byte_len w) size s.0),
        s.1 ∙ ap (λ k. to_be_bytes w k ++ n.0.1) size ∙ ap (λ l. to_be_bytes w (length (f.write a.0)) ++ l) (sym (take-append-drop n.0.0 n.0.1) ∙ ap (λ l. l ++ drop n.0.0 n.0.1) text)
            ∙ sym (append_assoc (to_be_bytes w (length (f.write a.0))) (f.write a.0) (drop n.0.0 n.0.1)),
      );
}
  where
    allowed : {B : Type 0} (b : Bool) (r : Option B) (y : B) → cond b None r ≡ Some y → (b ≡ false) × (r ≡ Some y)
    allowed true r y e = absurd cc
    allowed false r y e = (refl, e)
